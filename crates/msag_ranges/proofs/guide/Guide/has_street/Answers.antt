use Rattle.std.proofs.Common.{◌≡◌, ℕ, nat_lt, ◌-◌, ◌≤◌, true, false, List, sym, ◌∙◌, inl, inr, arith}
use Rattle.std.specs.List.{list_any}
use Rattle.std.proofs.lemmas.Bool.{false≢true}
use Rattle.std.proofs.lemmas.Bool.Decides.{nat_tests}
use Rattle.ali_base.specs.StreetKey.{same_key}
use Rattle.msag_ranges.specs.declared.range.Range.{Range}
use Rattle.msag_ranges.specs.declared.place.Entry.{Entry}
use Rattle.msag_ranges.proofs.IndexLaw.{in_class, street_found, street_near}
use Rattle.msag_ranges.proofs.Found.{alike}
use Rattle.msag_ranges.proofs.guide.Guide.has_street.Goals as goal
use Rattle.msag_ranges.proofs.guide.Guide.has_street.Goals.{then-count-gt0, else-count-gt0}

not_less : (n : ℕ) → nat_lt 0 n ≡ true → n ≤ 0 → ⊥
not_less n h k = grind (arith, nat_tests)

pub returns-then-is_of-clause-value : goal.returns-then-is_of-clause-value
returns-then-is_of-clause-value c =
    let entries : List Entry = c.entries-entries.result.now in
    elim c.if-count-gt0.branch [
      | then-count-gt0 w ↦ c.if-is_of.true ∙ sym (street_found entries c.args.self.now.ranges (c.split-count.result - 1) c.args.key.now c.entries-entries.ensures.index (w.is_of.ensures.0 (sym w.value-is ∙ c.if-is_of.true)))
      | else-count-gt0 w ↦ absurd (not_less c.split-count.result (sym w.value-is ∙ c.if-is_of.true) w.if-count-gt0.false)
    ]

pub returns-else-is_of-clause-value : goal.returns-else-is_of-clause-value
returns-else-is_of-clause-value c =
    let entries : List Entry = c.entries-entries.result.now in
    alike c.is_of-else-is_of.result (list_any (λ (r : Range). same_key r.key c.args.key.now) c.args.self.now.ranges)
    (λ e. street_found entries c.args.self.now.ranges c.split-count.result c.args.key.now c.entries-entries.ensures.index (c.is_of-else-is_of.ensures.0 e))
    (λ any. elim (street_near entries c.args.self.now.ranges (in_class c.args.key.now false 0) c.split-count.result c.entries-entries.ensures.sound.ends c.entries-entries.ensures.index c.split-count.ensures any) [
      | inr here ↦ c.is_of-else-is_of.ensures.1 here
      | inl before ↦ elim c.if-count-gt0.branch [
        | then-count-gt0 w ↦ absurd (false≢true (sym c.if-is_of.false ∙ w.value-is ∙ w.is_of.ensures.1 before.1))
        | else-count-gt0 w ↦ absurd (omega (arith, before.0, w.if-count-gt0.false))
      ]
    ])
