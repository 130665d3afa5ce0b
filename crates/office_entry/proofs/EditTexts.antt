-- Edits and their texts.
use Rattle.std.proofs.Common.{◌≡◌, inl, inr, ℕ, true, List, ◌∷◌, ◌++◌, refl, ap, sym, ◌∙◌, subst, arith, Some, None, codes}
use Rattle.std.specs.Fmt.{decimal}
use Rattle.std.specs.Str.{bytes_eq}
use Rattle.std.proofs.lemmas.Slice.Eq.{bytes_eq-Decides}
use Rattle.ali_base.specs.Parity.{parity_of, parity_text}
use Rattle.ali_base.specs.declared.parity.Parity.{Parity}
use Rattle.ali_base.specs.declared.parity.Parity.TheVariants.{Odd, Even, Both}
use Rattle.ali_base.specs.declared.street_key.StreetKey.{StreetKey}
use Rattle.office_entry.specs.declared.edit.Edit.{Edit}
use Rattle.office_entry.specs.declared.edit.Edit.TheVariants.{Add, Retire, Split, Renumber, SetEsn}
use Rattle.office_entry.specs.EditKeys.{is_edit_key, edit_key, IsEditKey}
use Rattle.office_entry.specs.Edits.{IsEdit, IsAdd}
use Rattle.office_entry.specs.EditText.{StreetTexts, AreStreetTexts, key_of, street_text, difference_text, Spells, IsEditText}
use Rattle.text_line.specs.WordReading.{number_of, split_once}
use Rattle.text_line.proofs.NumberTexts.{number_of-decimal, decimal-number_of}
use Rattle.text_line.proofs.Splits.{Clear, split_again, split_is, decimal_clear}
use Rattle.office_entry.specs.EditReading.{small_of, difference_of, street_at, add_of, retire_of, split_of, renumber_of, set_esn_of, by_word, edit_of_text}
use Rattle.ali_base.proofs.Steps.{bind_ok, bind_some, some_is}
use Rattle.office_entry.proofs.Options.{when_true, choose}
use Rattle.office_entry.proofs.NumberTexts.{small-small_of, small_of-decimal, difference-difference_of, difference_of-text}
use Rattle.office_entry.proofs.StreetTexts.{key_lawful, texts_lawful, key_of_lawful, street_is, street_again}
use Rattle.office_entry.proofs.EditsOfBytes.{parity-parity_of, parity_of-parity, key_is}

abbrev Reads : List ℕ → List ℕ → Edit → Type 0
Reads word rest e = IsEditText (word ++ 32 ∷ rest) e

-- ---- what is read is spelled so

retire_read : (rest : List ℕ) (e : Edit) → retire_of rest ≡ Some e → Reads (codes "RETIRE") rest e
unfolding retire_of
retire_read rest e h =
    let a = bind_ok (number_of rest) _ e h in
    let p = decimal-number_of rest a.0 a.1 in
    subst (λ (z : Edit). Reads (codes "RETIRE") rest z) (some_is (Retire a.0) e a.2) (record { lawful = p.1; spelled = ap (λ z. codes "RETIRE" ++ 32 ∷ z) p.0 })

split_read : (rest : List ℕ) (e : Edit) → split_of rest ≡ Some e → Reads (codes "SPLIT") rest e
unfolding split_of
split_read rest e h =
    let a = bind_ok (split_once 32 rest) _ e h in
    let b = bind_ok (split_once 32 a.0.1) _ e a.2 in
    let i = bind_ok (number_of a.0.0) _ e b.2 in
    let at = bind_ok (small_of b.0.0) _ e i.2 in
    let esn = bind_ok (small_of b.0.1) _ e at.2 in
    let id_is = decimal-number_of a.0.0 i.0 i.1 in
    let at_is = small-small_of b.0.0 at.0 at.1 in
    let esn_is = small-small_of b.0.1 esn.0 esn.1 in
    let last : a.0.1 ≡ decimal at.0 ++ 32 ∷ decimal esn.0 = split_is 32 a.0.1 b.0 b.1 ∙ ap (λ z. z ++ 32 ∷ b.0.1) at_is.0 ∙ ap (λ z. decimal at.0 ++ 32 ∷ z) esn_is.0 in
    let all : rest ≡ decimal i.0 ++ 32 ∷ (decimal at.0 ++ 32 ∷ decimal esn.0) = split_is 32 rest a.0 a.1 ∙ ap (λ z. z ++ 32 ∷ a.0.1) id_is.0 ∙ ap (λ z. decimal i.0 ++ 32 ∷ z) last in
    subst (λ (z : Edit). Reads (codes "SPLIT") rest z) (some_is (Split i.0 at.0 esn.0) e esn.2) (
    record { lawful = record { range = id_is.1; place = at_is.1; number = esn_is.1 }; spelled = ap (λ z. codes "SPLIT" ++ 32 ∷ z) all }
    )

renumber_read : (rest : List ℕ) (e : Edit) → renumber_of rest ≡ Some e → Reads (codes "RENUMBER") rest e
unfolding renumber_of
renumber_read rest e h =
    let a = bind_ok (split_once 32 rest) _ e h in
    let i = bind_ok (number_of a.0.0) _ e a.2 in
    let by = bind_ok (difference_of a.0.1) _ e i.2 in
    let id_is = decimal-number_of a.0.0 i.0 i.1 in
    let by_is = difference-difference_of a.0.1 by.0 by.1 in
    let all : rest ≡ decimal i.0 ++ 32 ∷ difference_text by.0 = split_is 32 rest a.0 a.1 ∙ ap (λ z. z ++ 32 ∷ a.0.1) id_is.0 ∙ ap (λ z. decimal i.0 ++ 32 ∷ z) by_is.0 in
    subst (λ (z : Edit). Reads (codes "RENUMBER") rest z) (some_is (Renumber i.0 by.0) e by.2) (record { lawful = (id_is.1, by_is.1); spelled = ap (λ z. codes "RENUMBER" ++ 32 ∷ z) all })

set_esn_read : (rest : List ℕ) (e : Edit) → set_esn_of rest ≡ Some e → Reads (codes "SETESN") rest e
unfolding set_esn_of
set_esn_read rest e h =
    let a = bind_ok (split_once 32 rest) _ e h in
    let i = bind_ok (number_of a.0.0) _ e a.2 in
    let esn = bind_ok (small_of a.0.1) _ e i.2 in
    let id_is = decimal-number_of a.0.0 i.0 i.1 in
    let esn_is = small-small_of a.0.1 esn.0 esn.1 in
    let all : rest ≡ decimal i.0 ++ 32 ∷ decimal esn.0 = split_is 32 rest a.0 a.1 ∙ ap (λ z. z ++ 32 ∷ a.0.1) id_is.0 ∙ ap (λ z. decimal i.0 ++ 32 ∷ z) esn_is.0 in
    subst (λ (z : Edit). Reads (codes "SETESN") rest z) (some_is (SetEsn i.0 esn.0) e esn.2) (record { lawful = (id_is.1, esn_is.1); spelled = ap (λ z. codes "SETESN" ++ 32 ∷ z) all })

add_made : (rest : List ℕ) (k : StreetKey × List ℕ) (l m q : List ℕ × List ℕ) (key : StreetKey) (low high : ℕ) (parity : Parity) (esn : ℕ)
    → street_at rest ≡ Some k → split_once 124 k.1 ≡ Some l → split_once 124 l.1 ≡ Some m → split_once 124 m.1 ≡ Some q
    → edit_key k.0 ≡ Some key → small_of l.0 ≡ Some low → small_of m.0 ≡ Some high → parity_of q.0 ≡ Some parity → small_of q.1 ≡ Some esn
    → Reads (codes "ADD") rest (Add key low high parity esn)
add_made rest k l m q key low high parity esn k_h l_h m_h q_h key_h low_h high_h parity_h esn_h =
    let street = street_is rest k k_h in
    let texts = street.0 in
    let key_eq = key_is k.0 key key_h in
    let named : key ≡ key_of texts = sym key_eq.1 ∙ street.2 in
    let test : is_edit_key (key_of texts) ≡ true = subst (λ (z : StreetKey). is_edit_key z ≡ true) named key_eq.0 in
    let low_is = small-small_of l.0 low low_h in
    let high_is = small-small_of m.0 high high_h in
    let parity_is = parity-parity_of q.0 parity parity_h in
    let esn_is = small-small_of q.1 esn esn_h in
    let tail2 : m.1 ≡ parity_text parity ++ 124 ∷ decimal esn = split_is 124 m.1 q q_h ∙ ap (λ z. z ++ 124 ∷ q.1) parity_is ∙ ap (λ z. parity_text parity ++ 124 ∷ z) esn_is.0 in
    let tail1 : l.1 ≡ decimal high ++ 124 ∷ (parity_text parity ++ 124 ∷ decimal esn) = split_is 124 l.1 m m_h ∙ ap (λ z. z ++ 124 ∷ m.1) high_is.0 ∙ ap (λ z. decimal high ++ 124 ∷ z) tail2 in
    let tail0 : k.1 ≡ decimal low ++ 124 ∷ (decimal high ++ 124 ∷ (parity_text parity ++ 124 ∷ decimal esn)) = split_is 124 k.1 l l_h ∙ ap (λ z. z ++ 124 ∷ l.1) low_is.0 ∙ ap (λ z. decimal low ++ 124 ∷ z) tail1 in
    let street_lawful : IsEditKey key = subst IsEditKey (sym named) (key_lawful texts street.1 test) in
    record {
      lawful = record { street = street_lawful; low_end = low_is.1; high_end = high_is.1; number = esn_is.1 };
      spelled = record { texts = texts; lawful = texts_lawful texts street.1 test; named = named; spelled = ap (λ z. codes "ADD" ++ 32 ∷ z) (street.3 ∙ ap (street_text texts) tail0) };
    }

add_read : (rest : List ℕ) (e : Edit) → add_of rest ≡ Some e → Reads (codes "ADD") rest e
unfolding add_of
add_read rest e h =
    let k = bind_ok (street_at rest) _ e h in
    let l = bind_ok (split_once 124 k.0.1) _ e k.2 in
    let m = bind_ok (split_once 124 l.0.1) _ e l.2 in
    let q = bind_ok (split_once 124 m.0.1) _ e m.2 in
    let key = bind_ok (edit_key k.0.0) _ e q.2 in
    let low = bind_ok (small_of l.0.0) _ e key.2 in
    let high = bind_ok (small_of m.0.0) _ e low.2 in
    let parity = bind_ok (parity_of q.0.0) _ e high.2 in
    let esn = bind_ok (small_of q.0.1) _ e parity.2 in
    subst (λ (z : Edit). Reads (codes "ADD") rest z) (some_is (Add key.0 low.0 high.0 parity.0 esn.0) e esn.2)
    (add_made rest k.0 l.0 m.0 q.0 key.0 low.0 high.0 parity.0 esn.0 k.1 l.1 m.1 q.1 key.1 low.1 high.1 parity.1 esn.1)

by_this : (name word rest : List ℕ) (e : Edit) → bytes_eq word name ≡ true → Reads name rest e → Reads word rest e
by_this name word rest e test h = let same : word ≡ name = (bytes_eq-Decides word name).0 test in subst (λ (z : List ℕ). Reads z rest e) (sym same) h

word_read : (word rest : List ℕ) (e : Edit) → by_word word rest ≡ Some e → Reads word rest e
word_read word rest e h =
    elim (choose (bytes_eq word (codes "ADD")) (add_of rest) _ e h) [
      | inl a ↦ by_this (codes "ADD") word rest e a.0 (add_read rest e a.1)
      | inr a ↦ (elim (choose (bytes_eq word (codes "RETIRE")) (retire_of rest) _ e a.1) [
        | inl b ↦ by_this (codes "RETIRE") word rest e b.0 (retire_read rest e b.1)
        | inr b ↦ (elim (choose (bytes_eq word (codes "SPLIT")) (split_of rest) _ e b.1) [
          | inl c ↦ by_this (codes "SPLIT") word rest e c.0 (split_read rest e c.1)
          | inr c ↦ (elim (choose (bytes_eq word (codes "RENUMBER")) (renumber_of rest) _ e c.1) [
            | inl d ↦ by_this (codes "RENUMBER") word rest e d.0 (renumber_read rest e d.1)
            | inr d ↦ (elim (choose (bytes_eq word (codes "SETESN")) (set_esn_of rest) None e d.1) [
              | inl f ↦ by_this (codes "SETESN") word rest e f.0 (set_esn_read rest e f.1)
              | inr f ↦ absurd cc
            ])
          ])
        ])
      ])
    ]

pub text_read : (bytes : List ℕ) (e : Edit) → edit_of_text bytes ≡ Some e → IsEditText bytes e
unfolding edit_of_text
text_read bytes e h =
    let a = bind_ok (split_once 32 bytes) _ e h in
    subst (λ (z : List ℕ). IsEditText z e) (sym (split_is 32 bytes a.0 a.1)) (word_read a.0.0 a.0.1 e a.2)

-- ---- what is spelled so is read

parity_barless : (p : Parity) → Clear 124 (parity_text p)
parity_barless Odd = (refl, tt)
parity_barless Even = (refl, tt)
parity_barless Both = (refl, tt)

add_again : (key : StreetKey) (texts : StreetTexts) (low high : ℕ) (parity : Parity) (esn : ℕ) → AreStreetTexts texts → key ≡ key_of texts → IsAdd key low high esn
    → add_of (street_text texts (decimal low ++ 124 ∷ (decimal high ++ 124 ∷ (parity_text parity ++ 124 ∷ decimal esn)))) ≡ Some (Add key low high parity esn)
unfolding add_of
add_again key texts low high parity esn sent named h =
    bind_some _ _ _ _ (street_again texts (decimal low ++ 124 ∷ (decimal high ++ 124 ∷ (parity_text parity ++ 124 ∷ decimal esn))) sent)
    (bind_some _ _ _ _ (split_again 124 (decimal low) (decimal high ++ 124 ∷ (parity_text parity ++ 124 ∷ decimal esn)) (decimal_clear 124 refl low (omega (arith, h.low_end))))
    (bind_some _ _ _ _ (split_again 124 (decimal high) (parity_text parity ++ 124 ∷ decimal esn) (decimal_clear 124 refl high (omega (arith, h.high_end))))
    (bind_some _ _ _ _ (split_again 124 (parity_text parity) (decimal esn) (parity_barless parity))
    (bind_some _ _ _ _ (when_true (is_edit_key (key_of texts)) (key_of texts) (key_of_lawful texts sent))
    (bind_some _ _ _ _ (small_of-decimal low h.low_end)
    (bind_some _ _ _ _ (small_of-decimal high h.high_end)
    (bind_some _ _ _ _ (parity_of-parity parity)
    (bind_some _ _ _ _ (small_of-decimal esn h.number) (ap (λ (z : StreetKey). Some (Add z low high parity esn)) (sym named))))))))))

again : (e : Edit) (bytes : List ℕ) → IsEdit e → Spells bytes e → edit_of_text bytes ≡ Some e
unfolding edit_of_text retire_of split_of renumber_of set_esn_of
again (Add key low high parity esn) bytes h s =
    ap edit_of_text s.spelled
    ∙ bind_some _ _ _ _ (split_again 32 (codes "ADD") (street_text s.texts (decimal low ++ 124 ∷ (decimal high ++ 124 ∷ (parity_text parity ++ 124 ∷ decimal esn)))) (refl, (refl, (refl, tt))))
    (add_again key s.texts low high parity esn s.lawful s.named h)
again (Retire id) bytes h s =
    ap edit_of_text s
    ∙ bind_some _ _ _ _ (split_again 32 (codes "RETIRE") (decimal id) (refl, (refl, (refl, (refl, (refl, (refl, tt)))))))
    (bind_some _ _ _ _ (number_of-decimal id h) refl)
again (Split id at esn) bytes h s =
    ap edit_of_text s
    ∙ bind_some _ _ _ _ (split_again 32 (codes "SPLIT") (decimal id ++ 32 ∷ (decimal at ++ 32 ∷ decimal esn)) (refl, (refl, (refl, (refl, (refl, tt))))))
    (bind_some _ _ _ _ (split_again 32 (decimal id) (decimal at ++ 32 ∷ decimal esn) (decimal_clear 32 refl id h.range))
    (bind_some _ _ _ _ (split_again 32 (decimal at) (decimal esn) (decimal_clear 32 refl at (omega (arith, h.place))))
    (bind_some _ _ _ _ (number_of-decimal id h.range)
    (bind_some _ _ _ _ (small_of-decimal at h.place)
    (bind_some _ _ _ _ (small_of-decimal esn h.number) refl)))))
again (Renumber id by) bytes h s =
    ap edit_of_text s
    ∙ bind_some _ _ _ _ (split_again 32 (codes "RENUMBER") (decimal id ++ 32 ∷ difference_text by) (refl, (refl, (refl, (refl, (refl, (refl, (refl, (refl, tt)))))))))
    (bind_some _ _ _ _ (split_again 32 (decimal id) (difference_text by) (decimal_clear 32 refl id h.0))
    (bind_some _ _ _ _ (number_of-decimal id h.0)
    (bind_some _ _ _ _ (difference_of-text by h.1) refl)))
again (SetEsn id esn) bytes h s =
    ap edit_of_text s
    ∙ bind_some _ _ _ _ (split_again 32 (codes "SETESN") (decimal id ++ 32 ∷ decimal esn) (refl, (refl, (refl, (refl, (refl, (refl, tt)))))))
    (bind_some _ _ _ _ (split_again 32 (decimal id) (decimal esn) (decimal_clear 32 refl id h.0))
    (bind_some _ _ _ _ (number_of-decimal id h.0)
    (bind_some _ _ _ _ (small_of-decimal esn h.1) refl)))

pub text_again : (bytes : List ℕ) (e : Edit) → IsEditText bytes e → edit_of_text bytes ≡ Some e
text_again bytes e h = again e bytes h.lawful h.spelled

pub one_edit : (bytes : List ℕ) (e f : Edit) → IsEditText bytes e → IsEditText bytes f → e ≡ f
one_edit bytes e f h k = some_is e f (sym (text_again bytes e h) ∙ text_again bytes f k)
