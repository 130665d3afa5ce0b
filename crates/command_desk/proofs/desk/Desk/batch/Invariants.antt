use Rattle.std.proofs.Common.{◌-◌, ◌^◌}
use Rattle.command_desk.specs.DeskSteps.{GoesOn}
use Rattle.command_desk.specs.OpenedDesk.{Keeps}
use Rattle.command_desk.proofs.Batching.{HasBatched}
use Rattle.command_desk.proofs.desk.Desk.batch.Given as goal
use Rattle.pair_core.specs.Pair.{count_of}

-- the command is as at its beginning, but for what was told so far
abbrev pub invariant-loop-now : goal.invariant-loop-now
invariant-loop-now g l =
    record {
      goes : GoesOn g.D.Disk.state l.fn.self l.self l.left;
      keeps : Keeps g.D.Disk.state l.fn.self l.self;
      leads : HasBatched g.D.Disk.state l.fn.self l.self l.left;
    }

-- each turn books an entry, whose number is a u32
abbrev pub decreases-loop-now : goal.decreases-loop-now
decreases-loop-now g l = 2 ^ 32 - count_of l.self.pair
