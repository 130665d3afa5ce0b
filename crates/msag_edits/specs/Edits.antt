-- The verdict of any edit, and what it does where that has code 0.
use Rattle.std.specs.Prelude.{◌≡◌, ◌≢◌, Bool, true, false, Result, Ok, Err}
use Rattle.ali_base.specs.declared.no_memory.NoMemory.{NoMemory}
use Rattle.office_entry.specs.declared.edit.Edit.{Edit}
use Rattle.office_entry.specs.declared.edit.Edit.TheVariants.{Add, Retire, Split, Renumber, SetEsn}
use Rattle.msag_ranges.specs.StreetGuide.{StreetGuide, IsSoundGuide}
use Rattle.msag_edits.specs.declared.edit_verdict.EditVerdict.{EditVerdict}
use Rattle.number_table.specs.NumberTable.{NumberTable}
use Rattle.number_table.specs.HeldRows.{AreChanged}
use Rattle.msag_edits.specs.EditRules.{EditAct, add_verdict, retire_verdict, split_verdict, renumber_verdict, set_esn_verdict, add_act, retire_act, split_act, renumber_act, set_esn_act}

-- the code and the detail of an edit
abbrev pub edit_verdict : StreetGuide → NumberTable → Edit → EditVerdict
edit_verdict g rows (Add key low high parity esn) = add_verdict g key low high parity esn
edit_verdict g rows (Retire id) = retire_verdict g rows id
edit_verdict g rows (Split id at esn) = split_verdict g id at esn
edit_verdict g rows (Renumber id by) = renumber_verdict g rows id by
edit_verdict g rows (SetEsn id esn) = set_esn_verdict g rows id esn

-- what an edit does
abbrev pub edit_act : StreetGuide → Edit → EditAct
edit_act g (Add key low high parity esn) = add_act g key low high parity esn
edit_act g (Retire id) = retire_act g id
edit_act g (Split id at esn) = split_act g id at esn
edit_act g (Renumber id by) = renumber_act g id by
edit_act g (SetEsn id esn) = set_esn_act g id esn

-- an edit that makes a new range, for which memory is taken
abbrev pub makes_range : Edit → Bool
makes_range (Add key low high parity esn) = true
makes_range (Retire id) = false
makes_range (Split id at esn) = true
makes_range (Renumber id by) = false
makes_range (SetEsn id esn) = false

-- memory can run out at an edit: it makes a range, and would else be done
pub record MayWantMemory (g : StreetGuide) (rows : NumberTable) (edit : Edit) : Type 0 where
  pub makes : makes_range edit ≡ true
  pub due : (edit_verdict g rows edit).code ≡ 0

-- what an act leaves: a sound guide with its ranges and its next id, and each row changed as it says
pub record AreActedOn (act : EditAct) (g later : StreetGuide) (before after : NumberTable) : Type 0 where
  pub guide : later ≡ record g { ranges = act.ranges; next = act.next; spare = later.spare }
  pub sound : IsSoundGuide later.ranges later.next later.limit
  pub rows : AreChanged act.row before after

-- guide and rows are as they were; the guide may have other spare room
pub record AreKept (g later : StreetGuide) (before after : NumberTable) : Type 0 where
  pub guide : later ≡ record g { spare = later.spare }
  pub rows : after ≡ before

-- an edit that got an answer: its verdict, with code 0 its act, and with another code no change
pub record IsAnswered (edit : Edit) (g later : StreetGuide) (before after : NumberTable) (answer : EditVerdict) : Type 0 where
  pub verdict : answer ≡ edit_verdict g before edit
  pub done : answer.code ≡ 0 → AreActedOn (edit_act g edit) g later before after
  pub refused : answer.code ≢ 0 → AreKept g later before after

-- an edit for which memory ran out: no change
pub record RanOutOfMemory (edit : Edit) (g later : StreetGuide) (before after : NumberTable) : Type 0 where
  pub memory : MayWantMemory g before edit
  pub kept : AreKept g later before after

-- what an edit answers, and what it leaves of guide and rows
abbrev pub IsApplied : Edit → StreetGuide → StreetGuide → NumberTable → NumberTable → Result EditVerdict NoMemory → Type 0
IsApplied edit g later before after (Ok answer) = IsAnswered edit g later before after answer
IsApplied edit g later before after (Err e) = RanOutOfMemory edit g later before after
