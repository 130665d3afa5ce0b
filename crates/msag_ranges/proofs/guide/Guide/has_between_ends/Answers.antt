use Rattle.std.proofs.Common.{◌≡◌, ◌-◌, ℕ, Some, None, nat_le, sym, ap, refl, ◌∙◌, arith}
use Rattle.std.proofs.lemmas.Option.{cond_some}
use Rattle.msag_ranges.specs.StreetGuide.{holder}
use Rattle.msag_ranges.proofs.Nearest.{none_between, between_by}
use Rattle.msag_ranges.proofs.guide.Guide.has_between_ends.Goals as goal

pub returns-then-number-eq0 : goal.returns-then-number-eq0
returns-then-number-eq0 c = none_between c.args.self.now.ranges c.args.key.now c.args.n c.requires.sound.ends c.requires.none (sym c.number-number.ensures.same ∙ c.if-number-eq0.true)

pub returns-in-Some-holder_of : goal.returns-in-Some-holder_of
returns-in-Some-holder_of c =
    let n : ℕ = c.args.n in
    let is : c.number-number.result ≡ n = c.number-number.ensures.same in
    let before : c.number-number.result - 1 ≡ c.in-Some.before = (cond_some _ (c.number-number.result - 1) c.in-Some.before (sym c.in-Some.ensures)).1 in
    let one : c.in-Some.before ≡ n - 1 = omega (arith, before, is) in
    between_by c.args.self.now.ranges c.args.key.now n c.args.self.now.next c.args.self.now.limit _ (Some c.in-Some-holder_of.range.now) c.requires.sound c.requires.none (omega (arith, is, c.if-number-eq0.false))
    (c.in-Some-holder_of.ensures.value ∙ ap (holder c.args.self.now.ranges c.args.key.now) one)
    (ap (λ m. nat_le m c.number.result) is ∙ ap (λ m. nat_le n m) c.number.ensures.same)

pub returns-in-None-holder_of : goal.returns-in-None-holder_of
returns-in-None-holder_of c =
    let n : ℕ = c.args.n in
    let is : c.number-number.result ≡ n = c.number-number.ensures.same in
    let before : c.number-number.result - 1 ≡ c.in-Some.before = (cond_some _ (c.number-number.result - 1) c.in-Some.before (sym c.in-Some.ensures)).1 in
    let one : c.in-Some.before ≡ n - 1 = omega (arith, before, is) in
    between_by c.args.self.now.ranges c.args.key.now n c.args.self.now.next c.args.self.now.limit _ None c.requires.sound c.requires.none (omega (arith, is, c.if-number-eq0.false))
    (c.in-None-holder_of.ensures.value ∙ ap (holder c.args.self.now.ranges c.args.key.now) one) refl
