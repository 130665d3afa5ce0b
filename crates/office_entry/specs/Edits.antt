-- Edits of the street guide, and the ranges of what they hold.
use Rattle.std.specs.Prelude.{ℕ, ◌^◌, ◌<◌, ◌≤◌, nat_le, Option}
use Rattle.ali_base.specs.Steps.{when}
use Rattle.ali_base.specs.declared.street_key.StreetKey.{StreetKey}
use Rattle.office_entry.specs.declared.edit.Edit.{Edit}
use Rattle.office_entry.specs.declared.edit.Edit.TheVariants.{Add, Retire, Split, Renumber, SetEsn}
use Rattle.office_entry.specs.Differences.{magnitude}
use Rattle.office_entry.specs.EditKeys.{IsEditKey}
use Rattle.office_entry.specs.declared.edit.TheConstants.{HIGHEST_SENT}

-- the number, where it is at most 999,999
abbrev pub small_number : ℕ → Option ℕ
small_number n = when (nat_le n HIGHEST_SENT) n

-- low, high and esn of an ADD are at most 999,999; the rules of the guide judge them
pub record IsAdd (key : StreetKey) (low high esn : ℕ) : Type 0 where
  pub street : IsEditKey key
  pub low_end : low ≤ HIGHEST_SENT
  pub high_end : high ≤ HIGHEST_SENT
  pub number : esn ≤ HIGHEST_SENT

-- an id is below 2 ^ 32, where it splits and the esn of the new part are at most 999,999
pub record IsSplit (id at esn : ℕ) : Type 0 where
  pub range : id < 2 ^ 32
  pub place : at ≤ HIGHEST_SENT
  pub number : esn ≤ HIGHEST_SENT

-- what an edit holds is in its ranges
abbrev pub IsEdit : Edit → Type 0
IsEdit (Add key low high parity esn) = IsAdd key low high esn
IsEdit (Retire id) = id < 2 ^ 32
IsEdit (Split id at esn) = IsSplit id at esn
IsEdit (Renumber id by) = (id < 2 ^ 32) × (magnitude by ≤ HIGHEST_SENT)
IsEdit (SetEsn id esn) = (id < 2 ^ 32) × (esn ≤ HIGHEST_SENT)
