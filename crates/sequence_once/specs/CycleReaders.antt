-- Kept cycles as callers are shown them.
use Rattle.std.specs.Prelude.{length}
use Rattle.sequence_once.specs.KeptCycles.{CycleRecord}
use Rattle.sequence_once.specs.declared.kept.Last.{Last}
use Rattle.sequence_once.specs.declared.kept.KeptCycle.{KeptCycle}

-- the last cycle, with the number of its codes
abbrev pub last_shown : CycleRecord → Last
last_shown k = record { cycle = k.cycle; count = k.count; noted = length k.codes }

-- what a kept cycle that is shown says
abbrev pub record_of : KeptCycle → CycleRecord
record_of k = record { company = k.company; cycle = k.cycle; count = k.count; digest = k.digest.now; codes = k.codes.now }
