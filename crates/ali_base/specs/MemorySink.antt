-- A sink in memory: its state, and what each put does.
use Rattle.std.specs.Prelude.{ℕ, ◌-◌, ◌==◌, ◌&&◌, ◌++◌, Bool, not, List, [], length, take, min, if◌then◌else◌}
use Rattle.std.specs.List.{list_any}
use Rattle.ali_base.specs.Columns.{is_empty}
use Rattle.ali_base.specs.Faults.{one_more}
use Rattle.ali_base.specs.declared.sink.Put.{Put}
use Rattle.ali_base.specs.declared.sink.Put.TheVariants.{Took, Failed}

-- held: the bytes taken so far. capacity: the most that it holds. failing: the calls that fail, counted from 1. calls: those made. faults: its count of faults
pub record SinkState : Type 0 where
  pub held : List ℕ
  pub capacity : ℕ
  pub failing : List ℕ
  pub calls : ℕ
  pub faults : ℕ

-- a sink that holds nothing yet
abbrev pub new_sink : ℕ → List ℕ → SinkState
new_sink capacity failing = record { held = []; capacity = capacity; failing = failing; calls = 0; faults = 0 }

-- whether the next call fails: its number is in the list
abbrev pub put_fails : SinkState → Bool
put_fails s = list_any (λ call. call == one_more s.calls) s.failing

-- how many bytes of a piece still fit
abbrev pub fitting : SinkState → List ℕ → ℕ
fitting s piece = min (length piece) (s.capacity - length s.held)

-- a put of which nothing fits is a fault
abbrev pub takes_nothing : SinkState → List ℕ → Bool
takes_nothing s piece = not (is_empty piece) && (fitting s piece == 0)

-- what the call answers
abbrev pub put_answer : SinkState → List ℕ → Put
put_answer s piece = if put_fails s then Failed else Took (fitting s piece)

-- what the call leaves
abbrev pub after_put : SinkState → List ℕ → SinkState
after_put s piece =
    if put_fails s
    then record s { calls = one_more s.calls; faults = one_more s.faults }
    else record s {
      calls = one_more s.calls;
      held = s.held ++ take (fitting s piece) piece;
      faults = if takes_nothing s piece then one_more s.faults else s.faults;
    }
