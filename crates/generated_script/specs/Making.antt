-- How far a script is made, as its contracts see it.
use Rattle.std.specs.Prelude.{ℕ}

-- its seed, its count of records, and how many of its files are made
pub record Making : Type 0 where
  pub seed : ℕ
  pub count : ℕ
  pub made : ℕ
