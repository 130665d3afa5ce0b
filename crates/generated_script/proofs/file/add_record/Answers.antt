use Rattle.std.proofs.Common.{◌≡◌, ℕ, List, [], ◌∷◌, ◌++◌, ap, ◌∙◌}
use Rattle.std.specs.Prelude.{codes}
use Rattle.std.specs.Fmt.{decimal}
use Rattle.std.proofs.lemmas.Result.{on_ok_weaker}
use Rattle.generated_script.specs.GeneratedScript.{line_of, number_of, record_text}
use Rattle.generated_script.proofs.file.add_record.Goals as goal

-- a record with these texts
abbrev line_with : (number house street customer : List ℕ) → List ℕ
line_with number house street customer = line_of
    ((1, codes "I")
    ∷ (10, number)
    ∷ (16, house)
    ∷ (60, street)
    ∷ (6, codes "ST")
    ∷ (32, codes "TESTTOWN")
    ∷ (62, codes "CO")
    ∷ (32, customer)
    ∷ (11, codes "10")
    ∷ (20, number)
    ∷ (10, codes "010124")
    ∷ (251, codes "GENCO")
    ∷ (1, codes "*")
    ∷ [])

line_is : (number house street customer : List ℕ) (i h s : ℕ) → number ≡ number_of i → house ≡ decimal h → street ≡ codes "STREET " ++ decimal s → customer ≡ codes "CUSTOMER " ++ decimal i
    → line_with number house street customer ≡ record_text i h s
unfolding record_text
line_is number house street customer i h s number_is house_is street_is customer_is =
    ap (λ z. line_with z house street customer) number_is
    ∙ ap (λ z. line_with (number_of i) z street customer) house_is
    ∙ ap (λ z. line_with (number_of i) (decimal h) z customer) street_is
    ∙ ap (λ z. line_with (number_of i) (decimal h) (codes "STREET " ++ decimal s) z) customer_is

pub returns : goal.returns
returns c =
    let old = c.args.bytes.now.items in
    let number = c.text-number.result in
    let house = c.as_bytes.result.now in
    let street = c.bytes.result.now in
    let customer = c.bytes-2.result.now in
    let made = line_is number house street customer c.args.i c.args.house c.args.street
    (c.text-number.ensures.same ∙ c.number_of.ensures)
    (c.as_bytes.ensures.value ∙ c.format.ensures.text)
    (c.bytes.ensures.same ∙ c.numbered.ensures.text)
    (c.bytes-2.ensures.same ∙ c.numbered-2.ensures.text) in
    on_ok_weaker c.add_line.result
    (λ (e : c.add_line.new.bytes.items ≡ old ++ line_with number house street customer). e ∙ ap (λ z. old ++ z) made)
    c.add_line.ensures
