use Rattle.std.proofs.Common.{sym}
use Rattle.pair_world.proofs.Received.{stale_said, stale_left, stale_same, fresh_said, fresh_left, behind_said, behind_left, behind_heard, taken_done, taken_not_behind, behind_or_not}
use Rattle.pair_world.proofs.calls.deliveries_are_the_receivers.Goals as goal

pub returns-clause-stale : goal.returns-clause-stale
returns-clause-stale g c w v i x at less = (stale_said w.base x less, stale_left w.base x less, stale_same w i x at less v)

pub returns-clause-behind : goal.returns-clause-behind
returns-clause-behind g c w i x at reg behind = (behind_said w i x at behind, behind_left w i x at behind, behind_heard w i x at reg behind)

pub returns-clause-done : goal.returns-clause-done
returns-clause-done g c bounds w i x at reg can = (
  fresh_said w.base x can.not_stale,
  taken_not_behind w i x at can,
  sym (fresh_left w.base x can.not_stale),
  taken_done w i x at g.L.Entries.due bounds reg can,
)

pub returns-clause-either : goal.returns-clause-either
returns-clause-either g c w x up fresh = behind_or_not w.base x up fresh
