use Rattle.std.proofs.Common.{arith}
use Rattle.office_entry.proofs.edit.add_fields.Goals as goal

pub returns-clause-lawful : goal.returns-clause-lawful
returns-clause-lawful c = record { street = c.push_key.ensures.lawful; low_end = omega arith; high_end = omega arith; number = omega arith }
