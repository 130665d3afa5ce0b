use Rattle.ali_base.proofs.FrontsAgain.{all_bytes}
use Rattle.duty_register.proofs.DutiesOfBytes.{is_body-body, body_found, one_duty}
use Rattle.duty_register.proofs.laws.duties_are_read_as_written.Goals as goal

pub returns-clause-back : goal.returns-clause-back
returns-clause-back c = is_body-body

pub returns-clause-only : goal.returns-clause-only
returns-clause-only c k bytes all is = body_found k bytes (all_bytes bytes all) is

pub returns-clause-one : goal.returns-clause-one
returns-clause-one c = one_duty
