-- The state that a history leaves.
use Rattle.std.specs.Prelude.{List, fold}
use Rattle.office_entry.specs.declared.entry.Entry.{Entry}
use Rattle.office_state.specs.declared.limits.Limits.{Limits}
use Rattle.office_state.specs.OfficeState.{State, empty_state}
use Rattle.office_state.specs.Verdict.{after}

-- the state after all of a history
abbrev pub state : Limits → List Entry → State
state limits history = fold after (empty_state limits) history
