-- Room in the table of numbers.
use Rattle.std.specs.Prelude.{ℕ, ◌<◌, ◌⊎◌, List, IsSome}
use Rattle.std.specs.FinMap.{get, len}
use Rattle.number_life.specs.declared.act.LifeAct.{LifeAct}
use Rattle.number_life.specs.declared.act.LifeAct.TheVariants.{Store, Remove, Unlock}
use Rattle.number_table.specs.NumberTable.{NumberTable}

-- a record that is stored takes the place of a row, or there is room for one more number
abbrev pub HasRoom : NumberTable → List ℕ → LifeAct → Type 0
HasRoom table tn Store = IsSome (get table tn) ⊎ (len table < 4_294_967_295)
HasRoom table tn Remove = Unit {0}
HasRoom table tn (Unlock day) = Unit {0}
