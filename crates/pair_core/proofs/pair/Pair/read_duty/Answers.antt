use Rattle.std.proofs.Common.{◌≡◌, arith, None, false}
use Rattle.std.specs.Prelude.{is_none, Option}
use Rattle.ali_base.specs.declared.duty.Duty.{Duty}
use Rattle.pair_core.proofs.pair.Pair.read_duty.Goals as goal

pub invariant_of-self : goal.invariant_of-self
invariant_of-self g c =
    let p = c.args.self.now in
    let fixed = c.reopen.ensures.fixed.last_epoch in
    record {
      named = p.named;
      limits = p.limits;
      learned = p.learned;
      known = p.known;
      counted = let m = p.counted in (m.0, omega (arith, fixed, m.1));
      present = λ is. absurd (not_none p.failed c.requires is);
      next = λ d is. let it = p.next d is in (it.0, omega (arith, it.1, fixed), it.2);
      within = p.within;
      floor = p.floor;
      few = p.few;
      sent = p.sent;
    }
  where
    not_none : (o : Option Duty) → is_none o ≡ false → o ≡ None → ⊥
    not_none o some none = absurd (cc)
