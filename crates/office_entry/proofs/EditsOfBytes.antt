-- Edits and their bytes.
use Rattle.std.proofs.Common.{◌≡◌, ◌==◌, inl, inr, ℕ, suc, ◌^◌, ◌<◌, ◌≤◌, ℤ, pos, negsuc, true, List, [], ◌∷◌, ◌++◌, length, Option, Some, None, refl, sym, ap, subst, ◌∙◌, append_assoc, arith}
use Rattle.std.specs.Int.{w32, cast_signed, cast_unsigned}
use Rattle.std.proofs.lemmas.Bool.Decides.{nat_tests}
use Rattle.std.proofs.lemmas.List.{append-nil}
use Rattle.std.proofs.lemmas.Int.{of_z-to_z, to_z-of_z, fits_signed_from_abs}
use Rattle.ali_base.specs.Columns.{is_empty}
use Rattle.ali_base.specs.Parity.{parity_of, parity_text}
use Rattle.ali_base.specs.declared.parity.Parity.{Parity}
use Rattle.ali_base.specs.declared.parity.Parity.TheVariants.{Odd, Even, Both}
use Rattle.ali_base.specs.declared.street_key.StreetKey.{StreetKey}
use Rattle.office_entry.specs.declared.edit.Edit.{Edit}
use Rattle.office_entry.specs.declared.edit.Edit.TheVariants.{Add, Retire, Split, Renumber, SetEsn}
use Rattle.office_entry.specs.Differences.{magnitude, is_small_difference, small_difference}
use Rattle.office_entry.specs.EditKeys.{is_edit_key, edit_key}
use Rattle.office_entry.specs.Edits.{small_number, IsEdit, IsAdd}
use Rattle.office_entry.specs.EditBytes.{difference_bytes, key_bytes, edit_bytes}
use Rattle.office_entry.specs.BytesReading.{key_at, add_from, retire_from, split_from, renumber_from, set_esn_from, edit_from}
use Rattle.std.proofs.lemmas.Option.{cond_some}
use Rattle.ali_base.specs.Fronts.{front, number_at, number_bytes}
use Rattle.ali_base.proofs.FrontsAgain.{IsBytes, Takes, Takes-then, Takes-all, front_takes, front_again, number_takes, number_again}
use Rattle.ali_base.proofs.Steps.{bind_ok, bind_some, some_is}
use Rattle.office_entry.proofs.Options.{when_true, choose, small_is, small_again}
use Rattle.office_entry.proofs.FieldBytes.{key_takes, key_again, HasWidths}
use Rattle.office_entry.specs.declared.edit.TheConstants.{HIGHEST_SENT}

-- the edit has these bytes
abbrev Found : List ℕ → Edit → Type 0
Found bytes e = IsEdit e × (bytes ≡ edit_bytes e)

pub parity-parity_of : (bytes : List ℕ) (p : Parity) → parity_of bytes ≡ Some p → bytes ≡ parity_text p
parity-parity_of [] p h = cc
parity-parity_of (x ∷ y ∷ xs) p h = cc
parity-parity_of (x ∷ []) p h =
    elim (choose (x == 79) (Some Odd) _ p h) [
      | inl a ↦ letter x 79 Odd p a.0 a.1 refl
      | inr a ↦ (elim (choose (x == 69) (Some Even) _ p a.1) [
        | inl b ↦ letter x 69 Even p b.0 b.1 refl
        | inr b ↦ (elim (choose (x == 66) (Some Both) None p b.1) [
          | inl c ↦ letter x 66 Both p c.0 c.1 refl
          | inr c ↦ absurd cc
        ])
      ])
    ]
  where
    letter : (x n : ℕ) (q p : Parity) → (x == n) ≡ true → ◌≡◌ {A = Option Parity} (Some q) (Some p) → parity_text q ≡ n ∷ [] → x ∷ [] ≡ parity_text p
    letter x n q p test is text =
        let same : x ≡ n = grind (arith, nat_tests) in
        ap (λ z. z ∷ []) same ∙ sym text ∙ ap parity_text (some_is q p is)

pub parity_of-parity : (p : Parity) → parity_of (parity_text p) ≡ Some p
parity_of-parity Odd = refl
parity_of-parity Even = refl
parity_of-parity Both = refl

pub key_is : (k : StreetKey) (key : StreetKey) → edit_key k ≡ Some key → (is_edit_key key ≡ true) × (k ≡ key)
key_is k key h =
    let w = cond_some (is_edit_key k) k key h in
    (subst (λ (z : StreetKey). is_edit_key z ≡ true) w.1 w.0, w.1)

-- ---- what is read has these bytes

retire_found : (bytes : List ℕ) (e : Edit) → IsBytes bytes → retire_from bytes ≡ Some e → Found (82 ∷ bytes) e
unfolding retire_from
retire_found bytes e fits h =
    let a = bind_ok (number_at bytes) _ e h in
    let t = number_takes bytes a.0 fits a.1 in
    let w = cond_some (is_empty a.0.1) (Retire a.0.0) e a.2 in
    subst (λ (z : Edit). Found (82 ∷ bytes) z) w.1 (t.1, ap (λ z. 82 ∷ z) (Takes-all bytes (number_bytes a.0.0) a.0.1 t.0 w.0))

split_found : (bytes : List ℕ) (e : Edit) → IsBytes bytes → split_from bytes ≡ Some e → Found (83 ∷ bytes) e
unfolding split_from
split_found bytes e fits h =
    let a = bind_ok (number_at bytes) _ e h in
    let b = bind_ok (number_at a.0.1) _ e a.2 in
    let d = bind_ok (number_at b.0.1) _ e b.2 in
    let at = bind_ok (small_number b.0.0) _ e d.2 in
    let esn = bind_ok (small_number d.0.0) _ e at.2 in
    let w = cond_some (is_empty d.0.1) (Split a.0.0 at.0 esn.0) e esn.2 in
    let ta = number_takes bytes a.0 fits a.1 in
    let tb = number_takes a.0.1 b.0 ta.0.fits b.1 in
    let td = number_takes b.0.1 d.0 tb.0.fits d.1 in
    let at_is = small_is b.0.0 at.0 at.1 in
    let esn_is = small_is d.0.0 esn.0 esn.1 in
    let two = Takes-then bytes (number_bytes a.0.0) a.0.1 (number_bytes b.0.0) b.0.1 ta.0 tb.0 in
    let three = Takes-then bytes (number_bytes a.0.0 ++ number_bytes b.0.0) b.0.1 (number_bytes d.0.0) d.0.1 two td.0 in
    let whole : 83 ∷ bytes ≡ edit_bytes (Split a.0.0 b.0.0 d.0.0) = ap (λ z. 83 ∷ z) (Takes-all bytes (number_bytes a.0.0 ++ number_bytes b.0.0 ++ number_bytes d.0.0) d.0.1 three w.0) in
    let same : Split a.0.0 b.0.0 d.0.0 ≡ Split a.0.0 at.0 esn.0 = ap (λ z. Split a.0.0 z d.0.0) at_is.0 ∙ ap (λ z. Split a.0.0 at.0 z) esn_is.0 in
    subst (λ (z : Edit). Found (83 ∷ bytes) z) w.1 (record { range = ta.1; place = at_is.1; number = esn_is.1 }, whole ∙ ap edit_bytes same)

set_esn_found : (bytes : List ℕ) (e : Edit) → IsBytes bytes → set_esn_from bytes ≡ Some e → Found (87 ∷ bytes) e
unfolding set_esn_from
set_esn_found bytes e fits h =
    let a = bind_ok (number_at bytes) _ e h in
    let b = bind_ok (number_at a.0.1) _ e a.2 in
    let esn = bind_ok (small_number b.0.0) _ e b.2 in
    let w = cond_some (is_empty b.0.1) (SetEsn a.0.0 esn.0) e esn.2 in
    let ta = number_takes bytes a.0 fits a.1 in
    let tb = number_takes a.0.1 b.0 ta.0.fits b.1 in
    let esn_is = small_is b.0.0 esn.0 esn.1 in
    let two = Takes-then bytes (number_bytes a.0.0) a.0.1 (number_bytes b.0.0) b.0.1 ta.0 tb.0 in
    let whole : 87 ∷ bytes ≡ edit_bytes (SetEsn a.0.0 b.0.0) = ap (λ z. 87 ∷ z) (Takes-all bytes (number_bytes a.0.0 ++ number_bytes b.0.0) b.0.1 two w.0) in
    subst (λ (z : Edit). Found (87 ∷ bytes) z) w.1 ((ta.1, esn_is.1), whole ∙ ap (λ z. edit_bytes (SetEsn a.0.0 z)) esn_is.0)

renumber_found : (bytes : List ℕ) (e : Edit) → IsBytes bytes → renumber_from bytes ≡ Some e → Found (78 ∷ bytes) e
unfolding renumber_from
renumber_found bytes e fits h =
    let a = bind_ok (number_at bytes) _ e h in
    let b = bind_ok (number_at a.0.1) _ e a.2 in
    let by = bind_ok (small_difference (cast_signed w32 b.0.0)) _ e b.2 in
    let w = cond_some (is_empty b.0.1) (Renumber a.0.0 by.0) e by.2 in
    let ta = number_takes bytes a.0 fits a.1 in
    let tb = number_takes a.0.1 b.0 ta.0.fits b.1 in
    let test = cond_some (is_small_difference (cast_signed w32 b.0.0)) (cast_signed w32 b.0.0) by.0 by.1 in
    let small : is_small_difference by.0 ≡ true = subst (λ (z : ℤ). is_small_difference z ≡ true) test.1 test.0 in
    let le : magnitude by.0 ≤ HIGHEST_SENT = grind (arith, nat_tests) in
    let back : cast_unsigned w32 (cast_signed w32 b.0.0) ≡ b.0.0 = of_z-to_z w32 b.0.0 tb.1 in
    let two = Takes-then bytes (number_bytes a.0.0) a.0.1 (number_bytes b.0.0) b.0.1 ta.0 tb.0 in
    let whole : 78 ∷ bytes ≡ 78 ∷ (number_bytes a.0.0 ++ number_bytes b.0.0) = ap (λ z. 78 ∷ z) (Takes-all bytes (number_bytes a.0.0 ++ number_bytes b.0.0) b.0.1 two w.0) in
    let same : number_bytes b.0.0 ≡ difference_bytes by.0 = ap number_bytes (sym back ∙ ap (cast_unsigned w32) test.1) in
    subst (λ (z : Edit). Found (78 ∷ bytes) z) w.1 ((ta.1, le), whole ∙ ap (λ z. 78 ∷ (number_bytes a.0.0 ++ z)) same)

-- the fields of an ADD, joined
add_joined : (bytes : List ℕ) (k key : StreetKey) (l low m high n esn : ℕ) (q : List ℕ) (parity : Parity)
    → bytes ≡ (key_bytes k ++ number_bytes l ++ number_bytes m ++ q ++ number_bytes n) ++ [] → k ≡ key → l ≡ low → m ≡ high → q ≡ parity_text parity → n ≡ esn
    → 65 ∷ bytes ≡ edit_bytes (Add key low high parity esn)
add_joined bytes k key l low m high n esn q parity whole k_is l_is m_is q_is n_is =
    let bare : bytes ≡ key_bytes k ++ number_bytes l ++ number_bytes m ++ q ++ number_bytes n = whole ∙ append-nil (key_bytes k ++ number_bytes l ++ number_bytes m ++ q ++ number_bytes n) in
    ap (λ z. 65 ∷ z) (bare
    ∙ ap (λ (z : StreetKey). key_bytes z ++ number_bytes l ++ number_bytes m ++ q ++ number_bytes n) k_is
    ∙ ap (λ z. key_bytes key ++ number_bytes z ++ number_bytes m ++ q ++ number_bytes n) l_is
    ∙ ap (λ z. key_bytes key ++ number_bytes low ++ number_bytes z ++ q ++ number_bytes n) m_is
    ∙ ap (λ z. key_bytes key ++ number_bytes low ++ number_bytes high ++ z ++ number_bytes n) q_is
    ∙ ap (λ z. key_bytes key ++ number_bytes low ++ number_bytes high ++ parity_text parity ++ number_bytes z) n_is)

add_lawful : (k key : StreetKey) (l low m high n esn : ℕ) → HasWidths k → edit_key k ≡ Some key → small_number l ≡ Some low → small_number m ≡ Some high → small_number n ≡ Some esn → IsAdd key low high esn
add_lawful k key l low m high n esn widths key_h low_h high_h esn_h =
    let w : HasWidths key = subst HasWidths (key_is k key key_h).1 widths in
    record {
      street = record { bytes = (key_is k key key_h).0; community = w.community; state = w.state; prefix = w.prefix; name = w.name; suffix = w.suffix; post = w.post };
      low_end = (small_is l low low_h).1;
      high_end = (small_is m high high_h).1;
      number = (small_is n esn esn_h).1;
    }

-- what the fields of an ADD take from the front
add_takes : (bytes : List ℕ) (k : StreetKey × List ℕ) (l m : ℕ × List ℕ) (q : List ℕ × List ℕ) (n : ℕ × List ℕ)
    → Takes bytes (key_bytes k.0) k.1 → Takes k.1 (number_bytes l.0) l.1 → Takes l.1 (number_bytes m.0) m.1 → Takes m.1 q.0 q.1 → Takes q.1 (number_bytes n.0) n.1
    → Takes bytes (key_bytes k.0 ++ number_bytes l.0 ++ number_bytes m.0 ++ q.0 ++ number_bytes n.0) n.1
add_takes bytes k l m q n tk tl tm tq tn =
    let two = Takes-then bytes (key_bytes k.0) k.1 (number_bytes l.0) l.1 tk tl in
    let three = Takes-then bytes (key_bytes k.0 ++ number_bytes l.0) l.1 (number_bytes m.0) m.1 two tm in
    let four = Takes-then bytes (key_bytes k.0 ++ number_bytes l.0 ++ number_bytes m.0) m.1 q.0 q.1 three tq in
    Takes-then bytes (key_bytes k.0 ++ number_bytes l.0 ++ number_bytes m.0 ++ q.0) q.1 (number_bytes n.0) n.1 four tn

add_found : (bytes : List ℕ) (e : Edit) → IsBytes bytes → add_from bytes ≡ Some e → Found (65 ∷ bytes) e
unfolding add_from
add_found bytes e fits h =
    let k = bind_ok (key_at bytes) _ e h in
    let l = bind_ok (number_at k.0.1) _ e k.2 in
    let m = bind_ok (number_at l.0.1) _ e l.2 in
    let p = bind_ok (front 1 m.0.1) _ e m.2 in
    let n = bind_ok (number_at p.0.1) _ e p.2 in
    let key = bind_ok (edit_key k.0.0) _ e n.2 in
    let low = bind_ok (small_number l.0.0) _ e key.2 in
    let high = bind_ok (small_number m.0.0) _ e low.2 in
    let parity = bind_ok (parity_of p.0.0) _ e high.2 in
    let esn = bind_ok (small_number n.0.0) _ e parity.2 in
    let w = cond_some (is_empty n.0.1) (Add key.0 low.0 high.0 parity.0 esn.0) e esn.2 in
    add_made bytes k.0 l.0 m.0 p.0 n.0 key.0 low.0 high.0 parity.0 esn.0 e fits k.1 l.1 m.1 p.1 n.1 key.1 low.1 high.1 parity.1 esn.1 w.0 w.1
  where
    add_made : (bytes : List ℕ) (k : StreetKey × List ℕ) (l m : ℕ × List ℕ) (q : List ℕ × List ℕ) (n : ℕ × List ℕ) (key : StreetKey) (low high : ℕ) (parity : Parity) (esn : ℕ) (e : Edit)
        → IsBytes bytes → key_at bytes ≡ Some k → number_at k.1 ≡ Some l → number_at l.1 ≡ Some m → front 1 m.1 ≡ Some q → number_at q.1 ≡ Some n
        → edit_key k.0 ≡ Some key → small_number l.0 ≡ Some low → small_number m.0 ≡ Some high → parity_of q.0 ≡ Some parity → small_number n.0 ≡ Some esn
        → is_empty n.1 ≡ true → Add key low high parity esn ≡ e → Found (65 ∷ bytes) e
    add_made bytes k l m q n key low high parity esn e fits k_h l_h m_h q_h n_h key_h low_h high_h parity_h esn_h end made =
        let tk = key_takes bytes k fits k_h in
        let tl = number_takes k.1 l tk.0.fits l_h in
        let tm = number_takes l.1 m tl.0.fits m_h in
        let tq = front_takes 1 m.1 q tm.0.fits q_h in
        let tn = number_takes q.1 n tq.0.fits n_h in
        let all = add_takes bytes k l m q n tk.0 tl.0 tm.0 tq.0 tn.0 in
        let whole = Takes-all bytes (key_bytes k.0 ++ number_bytes l.0 ++ number_bytes m.0 ++ q.0 ++ number_bytes n.0) n.1 all end in
        let joined = add_joined bytes k.0 key l.0 low m.0 high n.0 esn q.0 parity whole (key_is k.0 key key_h).1 (small_is l.0 low low_h).0 (small_is m.0 high high_h).0 (parity-parity_of q.0 parity parity_h) (small_is n.0 esn esn_h).0 in
        let lawful = add_lawful k.0 key l.0 low m.0 high n.0 esn tk.1 key_h low_h high_h esn_h in
        subst (λ (z : Edit). Found (65 ∷ bytes) z) made (lawful, joined)

-- a letter of which the rest is read
by_letter : (read : List ℕ → Option Edit) (n x : ℕ) (fields : List ℕ) (e : Edit) → ((bytes : List ℕ) (e : Edit) → IsBytes bytes → read bytes ≡ Some e → Found (n ∷ bytes) e) → IsBytes (x ∷ fields) → (x == n) ≡ true → read fields ≡ Some e → Found (x ∷ fields) e
by_letter read n x fields e found fits test h =
    let same : x ≡ n = grind (arith, nat_tests) in
    subst (λ (z : ℕ). Found (z ∷ fields) e) (sym same) (found fields e (λ i. fits (suc i)) h)

pub edit_found : (bytes : List ℕ) (e : Edit) → IsBytes bytes → edit_from bytes ≡ Some e → IsEdit e × (bytes ≡ edit_bytes e)
unfolding edit_from
edit_found [] e fits h = cc
edit_found (x ∷ fields) e fits h =
    elim (choose (x == 65) (add_from fields) _ e h) [
      | inl a ↦ by_letter add_from 65 x fields e add_found fits a.0 a.1
      | inr a ↦ (elim (choose (x == 82) (retire_from fields) _ e a.1) [
        | inl b ↦ by_letter retire_from 82 x fields e retire_found fits b.0 b.1
        | inr b ↦ (elim (choose (x == 83) (split_from fields) _ e b.1) [
          | inl c ↦ by_letter split_from 83 x fields e split_found fits c.0 c.1
          | inr c ↦ (elim (choose (x == 78) (renumber_from fields) _ e c.1) [
            | inl d ↦ by_letter renumber_from 78 x fields e renumber_found fits d.0 d.1
            | inr d ↦ (elim (choose (x == 87) (set_esn_from fields) None e d.1) [
              | inl f ↦ by_letter set_esn_from 87 x fields e set_esn_found fits f.0 f.1
              | inr f ↦ absurd cc
            ])
          ])
        ])
      ])
    ]

-- ---- the bytes of an edit are read as it

difference_again : (d : ℤ) → magnitude d ≤ HIGHEST_SENT → (cast_unsigned w32 d < 2 ^ 32) × (cast_signed w32 (cast_unsigned w32 d) ≡ d) × (small_difference d ≡ Some d)
difference_again (pos n) h =
    let test : is_small_difference (pos n) ≡ true = grind (arith, nat_tests) in
    (omega arith, to_z-of_z w32 (pos n) (fits_signed_from_abs w32 (pos n) (omega arith)), when_true (is_small_difference (pos n)) (pos n) test)
difference_again (negsuc n) h =
    let test : is_small_difference (negsuc n) ≡ true = grind (arith, nat_tests) in
    (omega arith, to_z-of_z w32 (negsuc n) (fits_signed_from_abs w32 (negsuc n) (omega arith)), when_true (is_small_difference (negsuc n)) (negsuc n) test)

regroup : (k l h p e : List ℕ) → k ++ l ++ h ++ p ++ e ≡ k ++ (l ++ (h ++ (p ++ e)))
regroup k l h p e = simp append_assoc

add_again : (key : StreetKey) (low high : ℕ) (parity : Parity) (esn : ℕ) → IsAdd key low high esn → add_from (key_bytes key ++ number_bytes low ++ number_bytes high ++ parity_text parity ++ number_bytes esn) ≡ Some (Add key low high parity esn)
unfolding add_from
add_again key low high parity esn h =
    let k = h.street in
    let widths : HasWidths key = record { community = k.community; state = k.state; prefix = k.prefix; name = k.name; suffix = k.suffix; post = k.post } in
    ap add_from (regroup (key_bytes key) (number_bytes low) (number_bytes high) (parity_text parity) (number_bytes esn))
    ∙ bind_some _ _ _ _ (key_again key (number_bytes low ++ (number_bytes high ++ (parity_text parity ++ number_bytes esn))) widths)
    (bind_some _ _ _ _ (number_again low (number_bytes high ++ (parity_text parity ++ number_bytes esn)) (omega (arith, h.low_end)))
    (bind_some _ _ _ _ (number_again high (parity_text parity ++ number_bytes esn) (omega (arith, h.high_end)))
    (bind_some _ _ _ _ (front_again 1 (parity_text parity) (number_bytes esn) (one parity))
    (bind_some _ _ _ _ (number_again esn [] (omega (arith, h.number)))
    (bind_some _ _ _ _ (when_true (is_edit_key key) key k.bytes)
    (bind_some _ _ _ _ (small_again low h.low_end)
    (bind_some _ _ _ _ (small_again high h.high_end)
    (bind_some _ _ _ _ (parity_of-parity parity)
    (bind_some _ _ _ _ (small_again esn h.number) refl)))))))))
  where
    one : (p : Parity) → length (parity_text p) ≡ 1
    one Odd = refl
    one Even = refl
    one Both = refl

pub edit_again : (e : Edit) → IsEdit e → edit_from (edit_bytes e) ≡ Some e
unfolding edit_from retire_from split_from renumber_from set_esn_from
edit_again (Add key low high parity esn) h = add_again key low high parity esn h
edit_again (Retire id) h = bind_some _ _ _ _ (number_again id [] h) refl
edit_again (Split id at esn) h =
    bind_some _ _ _ _ (number_again id (number_bytes at ++ number_bytes esn) h.range)
    (bind_some _ _ _ _ (number_again at (number_bytes esn) (omega (arith, h.place)))
    (bind_some _ _ _ _ (number_again esn [] (omega (arith, h.number)))
    (bind_some _ _ _ _ (small_again at h.place)
    (bind_some _ _ _ _ (small_again esn h.number) refl))))
edit_again (Renumber id by) h =
    let d = difference_again by h.1 in
    bind_some _ _ _ _ (number_again id (difference_bytes by) h.0)
    (bind_some _ _ _ _ (number_again (cast_unsigned w32 by) [] d.0)
    (bind_some _ _ _ _ (ap small_difference d.1 ∙ d.2) refl))
edit_again (SetEsn id esn) h =
    bind_some _ _ _ _ (number_again id (number_bytes esn) h.0)
    (bind_some _ _ _ _ (number_again esn [] (omega (arith, h.1)))
    (bind_some _ _ _ _ (small_again esn h.1) refl))

pub one_edit : (e f : Edit) → IsEdit e → IsEdit f → edit_bytes e ≡ edit_bytes f → e ≡ f
one_edit e f h k same = some_is e f (sym (edit_again e h) ∙ ap edit_from same ∙ edit_again f k)
