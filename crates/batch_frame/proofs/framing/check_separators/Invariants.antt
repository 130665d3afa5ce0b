use Rattle.std.proofs.Common.{◌≡◌, ◌+◌, ◌-◌}
use Rattle.batch_frame.specs.FrameFault.{is_followed, least_failing}
use Rattle.batch_frame.proofs.framing.check_separators.Given as goal

-- the records so far are followed
abbrev pub invariant-loop-i : goal.invariant-loop-i
invariant-loop-i l =
    let test = is_followed l.separator l.bytes in
    least_failing test 1 l.count ≡ least_failing test (l.i + 1) (l.count - l.i)
