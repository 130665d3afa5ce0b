-- What a script keeps.
use Rattle.std.specs.Prelude.{◌≡◌, ◌*◌, ◌≤◌}
use Rattle.generated_script.specs.GeneratedScript.{files_for, records_in, state_after}
use Rattle.generated_script.specs.declared.script.TheConstants.{MOST_RECORDS}
use Rattle.generated_script.specs.declared.script.Script.TheInside.{Inside}
use Rattle.generated_script.specs.Making.{Making}

-- how far it is made
abbrev pub making_of : Inside → Making
making_of s = record { seed = s.draws.seed; count = s.count; made = s.made }

-- the draws stand behind those of the records that were made
pub record IsScript (s : Inside) : Type 0 where
  pub most : s.count ≤ MOST_RECORDS
  pub files : s.made ≤ files_for s.count
  pub state : s.draws.state ≡ state_after s.draws.seed (2 * records_in s.count s.made)
