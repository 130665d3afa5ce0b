use Rattle.std.proofs.Common.{◌≡◌, ℕ, ◌^◌, ◌<◌, false, true, length, get_or, sym, ap, ◌∙◌, arith, Some, subst}
use Rattle.std.proofs.lemmas.Grind.{common_steps}
use Rattle.std.proofs.lemmas.Int.Digits.{digits_value_more, digits_more, digits_value-lt}
use Rattle.std.specs.Char.{is_ascii_digit}
use Rattle.std.specs.Str.Parse.{digits_value}
use Rattle.ali_base.proofs.Digits.{digits_number-none, digits_number-some, below_power, digit_here, all_taken}
use Rattle.ali_base.proofs.fields.digits_number.Goals as goal

pub returns-then-not-is_ascii_digit-clause-value : goal.returns-then-not-is_ascii_digit-clause-value
returns-then-not-is_ascii_digit-clause-value c =
    let other : is_ascii_digit (get_or c.args.bytes.now c.loop-b.b-index 0) ≡ false = grind (arith, common_steps) in
    sym (digits_number-none c.args.bytes.now c.loop-b.b-index (omega arith) other)

pub overflow_mul-value : goal.overflow_mul-value
overflow_mul-value c = omega (arith, below_power c.args.bytes.now c.loop-b.b-index (omega arith) (omega arith) c.loop-b.invariant.digits)

pub overflow_add-value : goal.overflow_add-value
overflow_add-value c = omega (arith, below_power c.args.bytes.now c.loop-b.b-index (omega arith) (omega arith) c.loop-b.invariant.digits)

pub loop-b-preserved : goal.loop-b-preserved
loop-b-preserved c =
    let bs = c.args.bytes.now in
    let i = c.loop-b.b-index in
    let inside : i < length bs = omega arith in
    let digit : is_ascii_digit (get_or bs i 0) ≡ true = grind (arith, common_steps) in
    let here = digit_here bs i digit in
    record {
      value = omega (arith, digits_value_more 10 bs i inside, here.0);
      digits = digits_more 10 bs i inside c.loop-b.invariant.digits here.1;
    }

pub returns-clause-value : goal.returns-clause-value
returns-clause-value c =
    let bs = c.args.bytes.now in
    let whole = all_taken bs c.loop-b.b-index (omega arith) c.loop-b.invariant.digits in
    ap Some (c.loop-b.invariant.value ∙ whole.1) ∙ sym (digits_number-some bs whole.0)

pub returns-clause-limit : goal.returns-clause-limit
returns-clause-limit c =
    let bs = c.args.bytes.now in
    let whole = all_taken bs c.loop-b.b-index (omega arith) c.loop-b.invariant.digits in
    let below : digits_value 10 bs < 10 ^ length bs = digits_value-lt 10 bs whole.0 in
    let P : ℕ → Type 0 = λ n. n < 10 ^ length bs in
    subst P (sym (c.loop-b.invariant.value ∙ whole.1)) below
