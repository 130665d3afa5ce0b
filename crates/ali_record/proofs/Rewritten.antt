-- Accepted records with another house number or another ESN.
use Rattle.std.proofs.Common.{◌≡◌, ℕ, ◌+◌, ◌≤◌, List, length, take, drop, refl, ap, sym, ◌∙◌, subst, arith, ◌&&◌, is_none, IsSome}
use Rattle.ali_base.specs.HouseNumber.{house_of, house_text}
use Rattle.ali_base.specs.Numbers.{zero_padded}
use Rattle.ali_record.specs.Layout.{field_of, byte_of}
use Rattle.ali_record.specs.FieldChanges.{with_house, with_esn}
use Rattle.ali_record.specs.RecordReading.{IsAccepted, sends_address}
use Rattle.ali_record.specs.declared.field.Field.TheVariants.{Function, HouseNumber}
use Rattle.ali_record.proofs.Accepted.{accepted-like, accepted-printed, accepted-house, house_read}
use Rattle.ali_record.proofs.Overwriting.{part_before, part_after, part_inside, byte_before, byte_after, all_over}
use Rattle.ali_record.proofs.FieldTexts.{length-house_text, house_of-text, printed-house_text, length-esn_text, printed-esn_text}
use Rattle.ali_base.specs.Columns.{is_printable}
use Rattle.ali_base.specs.declared.house.TheConstants.{HIGHEST_HOUSE}
use Rattle.ali_base.specs.declared.esn.TheConstants.{HIGHEST_ESN}

pub accepted-with_house : (b : List ℕ) (n : ℕ) → length b ≡ 512 → n ≤ HIGHEST_HOUSE → IsAccepted b → IsAccepted (with_house b n)
accepted-with_house b n len small h =
    let text = house_text n in
    let ten = length-house_text n small in
    let size : 11 + length text ≡ 21 = omega arith in
    let inside : 21 ≤ length b = omega arith in
    let house : field_of (with_house b n) HouseNumber ≡ text = ap (λ k. take k (drop 11 (with_house b n))) (sym ten) ∙ part_inside b text 11 21 size inside in
    accepted-like b (with_house b n) h
    (byte_after b text 11 21 511 size inside (omega arith) (omega arith))
    (all_over is_printable b text 11 21 (accepted-printed b h) (printed-house_text n small))
    (byte_before b text 11 21 0 size inside (omega arith))
    (part_before b text 11 21 1 10 size inside (omega arith))
    (part_after b text 11 21 260 5 size inside (omega arith))
    (part_after b text 11 21 250 6 size inside (omega arith))
    (house_read (sends_address (byte_of b Function)) (house_of (field_of (with_house b n) HouseNumber)) (subst (λ z. IsSome (house_of z)) (sym house) (subst IsSome (sym (house_of-text n small)) refl)))
    (byte_after b text 11 21 219 size inside (omega arith) (omega arith))
    (byte_after b text 11 21 220 size inside (omega arith) (omega arith))

pub accepted-with_esn : (b : List ℕ) (n : ℕ) → length b ≡ 512 → n ≤ HIGHEST_ESN → IsAccepted b → IsAccepted (with_esn b n)
accepted-with_esn b n len small h =
    let text = zero_padded 5 n in
    let five = length-esn_text n small in
    let size : 225 + length text ≡ 230 = omega arith in
    let inside : 230 ≤ length b = omega arith in
    let house : field_of (with_esn b n) HouseNumber ≡ field_of b HouseNumber = part_before b text 225 230 11 10 size inside (omega arith) in
    accepted-like b (with_esn b n) h
    (byte_after b text 225 230 511 size inside (omega arith) (omega arith))
    (all_over is_printable b text 225 230 (accepted-printed b h) (printed-esn_text n small))
    (byte_before b text 225 230 0 size inside (omega arith))
    (part_before b text 225 230 1 10 size inside (omega arith))
    (part_after b text 225 230 260 5 size inside (omega arith))
    (part_after b text 225 230 250 6 size inside (omega arith))
    (ap (λ z. sends_address (byte_of b Function) && is_none (house_of z)) house ∙ accepted-house b h)
    (byte_before b text 225 230 219 size inside (omega arith))
    (byte_before b text 225 230 220 size inside (omega arith))
