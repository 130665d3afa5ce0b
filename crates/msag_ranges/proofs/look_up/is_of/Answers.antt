use Rattle.std.proofs.Common.{◌≡◌, true, sym, ap, subst, ◌∙◌}
use Rattle.std.proofs.lemmas.List.{get_or_default}
use Rattle.ali_base.specs.StreetKey.{same_key}
use Rattle.msag_ranges.specs.declared.place.Entry.{Entry}
use Rattle.msag_ranges.proofs.Streets.{same_key-same, same_key-refl}
use Rattle.msag_ranges.proofs.look_up.is_of.Goals as goal

pub returns-then-at-entries : goal.returns-then-at-entries
returns-then-at-entries c = (
  (λ h. (c.if-at-entries.true, λ d. ap (λ (e : Entry). e.place.key) (get_or_default c.args.entries.now c.args.at d _ c.if-at-entries.true) ∙ same_key-same _ c.args.key.now (sym c.same_key.ensures ∙ h))),
  (λ w. c.same_key.ensures ∙ subst (λ k. same_key k c.args.key.now ≡ true) (sym (w.1 _)) (same_key-refl c.args.key.now)),
)
