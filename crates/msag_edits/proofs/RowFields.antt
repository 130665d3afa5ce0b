-- What a row keeps when its house number or its emergency service number is written anew.
use Rattle.std.proofs.Common.{◌≡◌, ℕ, ◌+◌, ◌≤◌, List, ◌++◌, length, take, drop, ap, sym, ◌∙◌, arith, Some, length-append, length-drop}
use Rattle.std.proofs.lemmas.List.{length-take-le}
use Rattle.ali_base.specs.HouseNumber.{house_of, house_text}
use Rattle.ali_base.specs.Numbers.{zero_padded}
use Rattle.ali_base.specs.StreetKey.{street_key}
use Rattle.ali_base.specs.declared.house.TheConstants.{HIGHEST_HOUSE}
use Rattle.ali_base.specs.declared.esn.TheConstants.{HIGHEST_ESN}
use Rattle.ali_record.specs.Layout.{field_of}
use Rattle.ali_record.specs.Address.{record_key}
use Rattle.ali_record.specs.FieldChanges.{with_house, with_esn}
use Rattle.ali_record.specs.declared.field.Field.TheVariants.{HouseNumber, Esn, PrefixDirectional, StreetName, StreetSuffix, PostDirectional, Community, State}
use Rattle.ali_record.proofs.Overwriting.{over, part_before, part_after, part_inside}
use Rattle.ali_record.proofs.FieldTexts.{length-house_text, house_of-text, length-esn_text}
use Rattle.number_table.specs.HeldRows.{record_house}

length-over : (b text : List ℕ) (p q : ℕ) → p + length text ≡ q → q ≤ length b → length (over b p q text) ≡ length b
length-over b text p q size inside =
    omega (arith, length-append (take p b ++ text) (drop q b), length-append (take p b) text, length-take-le p b (omega arith), length-drop q b)

-- with another house number
pub house-size : (b : List ℕ) (n : ℕ) → length b ≡ 512 → n ≤ HIGHEST_HOUSE → length (with_house b n) ≡ 512
house-size b n len small =
    let text = house_text n in
    let ten = length-house_text n small in
    length-over b text 11 21 (omega arith) (omega arith) ∙ len

pub house-there : (b : List ℕ) (n : ℕ) → length b ≡ 512 → n ≤ HIGHEST_HOUSE → record_house (with_house b n) ≡ Some n
house-there b n len small =
    let text = house_text n in
    let ten = length-house_text n small in
    let field : field_of (with_house b n) HouseNumber ≡ text = ap (λ k. take k (drop 11 (with_house b n))) (sym ten) ∙ part_inside b text 11 21 (omega arith) (omega arith) in
    ap house_of field ∙ house_of-text n small

pub house-key : (b : List ℕ) (n : ℕ) → length b ≡ 512 → n ≤ HIGHEST_HOUSE → record_key (with_house b n) ≡ record_key b
house-key b n len small =
    let text = house_text n in
    let ten = length-house_text n small in
    let size : 11 + length text ≡ 21 = omega arith in
    let inside : 21 ≤ length b = omega arith in
    let after = λ (k m : ℕ) (h : 21 ≤ k). part_after b text 11 21 k m size inside h in
    ap (λ f. street_key f (field_of (with_house b n) State) (field_of (with_house b n) PrefixDirectional) (field_of (with_house b n) StreetName) (field_of (with_house b n) StreetSuffix) (field_of (with_house b n) PostDirectional)) (after 93 32 (omega arith))
    ∙ ap (λ f. street_key (field_of b Community) f (field_of (with_house b n) PrefixDirectional) (field_of (with_house b n) StreetName) (field_of (with_house b n) StreetSuffix) (field_of (with_house b n) PostDirectional)) (after 125 2 (omega arith))
    ∙ ap (λ f. street_key (field_of b Community) (field_of b State) f (field_of (with_house b n) StreetName) (field_of (with_house b n) StreetSuffix) (field_of (with_house b n) PostDirectional)) (after 25 2 (omega arith))
    ∙ ap (λ f. street_key (field_of b Community) (field_of b State) (field_of b PrefixDirectional) f (field_of (with_house b n) StreetSuffix) (field_of (with_house b n) PostDirectional)) (after 27 60 (omega arith))
    ∙ ap (λ f. street_key (field_of b Community) (field_of b State) (field_of b PrefixDirectional) (field_of b StreetName) f (field_of (with_house b n) PostDirectional)) (after 87 4 (omega arith))
    ∙ ap (λ f. street_key (field_of b Community) (field_of b State) (field_of b PrefixDirectional) (field_of b StreetName) (field_of b StreetSuffix) f) (after 91 2 (omega arith))

pub house-esn : (b : List ℕ) (n : ℕ) → length b ≡ 512 → n ≤ HIGHEST_HOUSE → field_of (with_house b n) Esn ≡ field_of b Esn
house-esn b n len small =
    let ten = length-house_text n small in
    part_after b (house_text n) 11 21 225 5 (omega arith) (omega arith) (omega arith)

-- with another emergency service number
pub esn-size : (b : List ℕ) (n : ℕ) → length b ≡ 512 → n ≤ HIGHEST_ESN → length (with_esn b n) ≡ 512
esn-size b n len small =
    let text = zero_padded 5 n in
    let five = length-esn_text n small in
    length-over b text 225 230 (omega arith) (omega arith) ∙ len

pub esn-there : (b : List ℕ) (n : ℕ) → length b ≡ 512 → n ≤ HIGHEST_ESN → field_of (with_esn b n) Esn ≡ zero_padded 5 n
esn-there b n len small =
    let text = zero_padded 5 n in
    let five = length-esn_text n small in
    ap (λ k. take k (drop 225 (with_esn b n))) (sym five) ∙ part_inside b text 225 230 (omega arith) (omega arith)

pub esn-house : (b : List ℕ) (n : ℕ) → length b ≡ 512 → n ≤ HIGHEST_ESN → record_house (with_esn b n) ≡ record_house b
esn-house b n len small =
    let five = length-esn_text n small in
    ap house_of (part_before b (zero_padded 5 n) 225 230 11 10 (omega arith) (omega arith) (omega arith))

pub esn-key : (b : List ℕ) (n : ℕ) → length b ≡ 512 → n ≤ HIGHEST_ESN → record_key (with_esn b n) ≡ record_key b
esn-key b n len small =
    let text = zero_padded 5 n in
    let five = length-esn_text n small in
    let size : 225 + length text ≡ 230 = omega arith in
    let inside : 230 ≤ length b = omega arith in
    let before = λ (k m : ℕ) (h : k + m ≤ 225). part_before b text 225 230 k m size inside h in
    ap (λ f. street_key f (field_of (with_esn b n) State) (field_of (with_esn b n) PrefixDirectional) (field_of (with_esn b n) StreetName) (field_of (with_esn b n) StreetSuffix) (field_of (with_esn b n) PostDirectional)) (before 93 32 (omega arith))
    ∙ ap (λ f. street_key (field_of b Community) f (field_of (with_esn b n) PrefixDirectional) (field_of (with_esn b n) StreetName) (field_of (with_esn b n) StreetSuffix) (field_of (with_esn b n) PostDirectional)) (before 125 2 (omega arith))
    ∙ ap (λ f. street_key (field_of b Community) (field_of b State) f (field_of (with_esn b n) StreetName) (field_of (with_esn b n) StreetSuffix) (field_of (with_esn b n) PostDirectional)) (before 25 2 (omega arith))
    ∙ ap (λ f. street_key (field_of b Community) (field_of b State) (field_of b PrefixDirectional) f (field_of (with_esn b n) StreetSuffix) (field_of (with_esn b n) PostDirectional)) (before 27 60 (omega arith))
    ∙ ap (λ f. street_key (field_of b Community) (field_of b State) (field_of b PrefixDirectional) (field_of b StreetName) f (field_of (with_esn b n) PostDirectional)) (before 87 4 (omega arith))
    ∙ ap (λ f. street_key (field_of b Community) (field_of b State) (field_of b PrefixDirectional) (field_of b StreetName) (field_of b StreetSuffix) f) (before 91 2 (omega arith))
