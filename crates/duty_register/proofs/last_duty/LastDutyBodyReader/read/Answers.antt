use Rattle.std.proofs.Common.{ℕ, List, [], ◌∷◌, ◌++◌, map, refl, sym, ap, ◌∙◌, arith}
use Rattle.std.specs.Prelude.{is_some}
use Rattle.std.proofs.lemmas.List.Elements.{All-push}
use Rattle.ali_base.specs.declared.duty.Duty.{Duty}
use Rattle.commit_log.specs.LogState.{with_body}
use Rattle.ali_base.specs.Duties.{first_duty}
use Rattle.duty_register.specs.DutiesRead.{AreReadUpTo}
use Rattle.duty_register.specs.DutyBytes.{IsDuty, IsBodyOf, body, is_body}
use Rattle.duty_register.proofs.DutiesOfBytes.{duty_found}
use Rattle.duty_register.proofs.Registers.{bodies_push}
use Rattle.duty_register.proofs.last_duty.LastDutyBodyReader.read.Goals as goal

pub returns-in-Some-clause-answer : goal.returns-in-Some-clause-answer
unfolding is_body
returns-in-Some-clause-answer c = ap is_some (sym c.in-Some.is ∙ c.duty_of.ensures.exact)

one_more : (bodies : List (List ℕ)) (old duty : Duty) (bytes : List ℕ) (k : ℕ) → IsBodyOf k duty bytes → AreReadUpTo old bodies → AreReadUpTo duty (with_body bodies bytes)
one_more bodies old duty bytes k found held = record {
  changes = held.changes ++ duty ∷ [];
  lawful = All-push IsDuty held.changes duty held.lawful found.lawful;
  bodies_are = ap (λ (l : List (List ℕ)). l ++ bytes ∷ []) held.bodies_are ∙ ap (λ (b : List ℕ). map body held.changes ++ b ∷ []) found.spelled ∙ sym (bodies_push held.changes duty);
  last = (first_duty ∷ held.changes, refl);
}

pub returns-in-Some-clause-held : goal.returns-in-Some-clause-held
returns-in-Some-clause-held c bodies held same =
    one_more bodies c.args.self.now.duty c.in-Some.duty c.args.bytes.now c.args.number
    (duty_found c.args.number c.args.bytes.now c.in-Some.duty (λ i. omega (arith, c.type_inv.bytes i)) (sym c.duty_of.ensures.exact ∙ c.in-Some.is)) held

pub returns-in-None-clause-answer : goal.returns-in-None-clause-answer
unfolding is_body
returns-in-None-clause-answer c = ap is_some (sym c.in-None.is ∙ c.duty_of.ensures.exact)
