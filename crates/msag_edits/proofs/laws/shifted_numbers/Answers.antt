use Rattle.msag_edits.proofs.PartsAndShifts.{shifted-each, shifted-only}
use Rattle.msag_edits.proofs.laws.shifted_numbers.Goals as goal

pub returns-clause-each : goal.returns-clause-each
returns-clause-each c = λ n h. shifted-each c.args.range.now c.args.by n c.requires.even c.requires.low c.requires.high h

pub returns-clause-only : goal.returns-clause-only
returns-clause-only c = λ m h. shifted-only c.args.range.now c.args.by m c.requires.even c.requires.low c.requires.high h
