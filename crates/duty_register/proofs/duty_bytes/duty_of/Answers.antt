use Rattle.std.proofs.Common.{◌≡◌, ℕ, List, Option, Some, None, sym, arith}
use Rattle.std.specs.Prelude.{IfSome}
use Rattle.ali_base.proofs.FrontsAgain.{IsBytes}
use Rattle.ali_base.specs.declared.duty.Duty.{Duty}
use Rattle.duty_register.specs.DutyBytes.{IsBodyOf, duty_from}
use Rattle.duty_register.proofs.DutiesOfBytes.{duty_found}
use Rattle.duty_register.proofs.duty_bytes.duty_of.Goals as goal

found : (k : ℕ) (bytes : List ℕ) (o : Option Duty) → IsBytes bytes → o ≡ duty_from k bytes → IfSome o (λ duty. IsBodyOf k duty bytes)
found k bytes None fits h = tt
found k bytes (Some duty) fits h = duty_found k bytes duty fits (sym h)

pub returns-clause-found : goal.returns-clause-found
returns-clause-found c = found c.args.number c.args.bytes.now c.duty_from.result (λ i. omega (arith, c.type_inv.bytes i)) c.duty_from.ensures
