-- A source in memory: its state, and what each take does.
use Rattle.std.specs.Prelude.{ℕ, ◌==◌, Bool, List, length, drop, min, max, if◌then◌else◌}
use Rattle.std.specs.List.{list_any}
use Rattle.ali_base.specs.Columns.{is_empty}
use Rattle.ali_base.specs.Faults.{one_more}
use Rattle.ali_base.specs.declared.source.Taken.{Taken}
use Rattle.ali_base.specs.declared.source.Taken.TheVariants.{Took, End, Failed}

-- left: the bytes not yet taken. piece: the most bytes of one take. failing: the calls that fail, counted from 1. calls: those made. faults: those that failed
pub record SourceState : Type 0 where
  pub left : List ℕ
  pub piece : ℕ
  pub failing : List ℕ
  pub calls : ℕ
  pub faults : ℕ

-- a source of which nothing was taken yet
abbrev pub new_source : List ℕ → ℕ → List ℕ → SourceState
new_source bytes piece failing = record { left = bytes; piece = piece; failing = failing; calls = 0; faults = 0 }

-- whether the next call fails: its number is in the list
abbrev pub take_fails : SourceState → Bool
take_fails s = list_any (λ call. call == one_more s.calls) s.failing

-- how many bytes a take with room for so many gives
abbrev pub taken_count : SourceState → ℕ → ℕ
taken_count s room = min (min room (max s.piece 1)) (length s.left)

-- what the call answers
abbrev pub take_answer : SourceState → ℕ → Taken
take_answer s room =
    if take_fails s then Failed else (if is_empty s.left then End else Took (taken_count s room))

-- what the call leaves
abbrev pub after_take : SourceState → ℕ → SourceState
after_take s room =
    if take_fails s
    then record s { calls = one_more s.calls; faults = one_more s.faults }
    else record s { calls = one_more s.calls; left = drop (taken_count s room) s.left }
