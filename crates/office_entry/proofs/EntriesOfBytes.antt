-- Entries and their bytes.
use Rattle.std.proofs.Common.{◌≡◌, ◌==◌, inl, inr, ℕ, zero, suc, ◌-◌, ◌^◌, ◌<◌, ◌≤◌, ◌&&◌, true, nat_le, List, [], ◌∷◌, ◌++◌, length, Option, Some, None, refl, sym, ap, subst, ◌∙◌, append_assoc, length-append, arith}
use Rattle.std.specs.Prelude.{replicate}
use Rattle.std.proofs.lemmas.Bool.{and_parts, and_from}
use Rattle.std.proofs.lemmas.Bool.Decides.{nat_tests}
use Rattle.std.proofs.lemmas.List.{length-replicate}
use Rattle.std.proofs.lemmas.Option.{cond_some}
use Rattle.ali_base.specs.CivilDay.{CivilDay, day_of, day_text}
use Rattle.ali_base.specs.Company.{is_company, company_of}
use Rattle.ali_base.specs.Parity.{parity_text}
use Rattle.ali_base.specs.declared.parity.Parity.{Parity}
use Rattle.ali_base.specs.declared.parity.Parity.TheVariants.{Odd, Even, Both}
use Rattle.ali_base.specs.declared.street_key.StreetKey.{StreetKey}
use Rattle.ali_base.specs.Fronts.{are_zeros, front, number_at, number_bytes, zero_filled}
use Rattle.ali_base.proofs.DayTexts.{day_of-text, day_of-found, length-day_text}
use Rattle.ali_base.proofs.Steps.{bind_ok, bind_some, some_is}
use Rattle.office_entry.specs.declared.edit.Edit.{Edit as AnyEdit}
use Rattle.office_entry.specs.declared.edit.Edit.TheVariants as edits
use Rattle.office_entry.specs.declared.entry.Entry.{Entry}
use Rattle.office_entry.specs.declared.entry.Entry.TheVariants.{Open, Line, Edit}
use Rattle.office_entry.specs.EditBytes.{key_bytes, edit_bytes}
use Rattle.office_entry.specs.EditKeys.{IsEditKey}
use Rattle.office_entry.specs.Edits.{IsEdit}
use Rattle.office_entry.specs.BytesReading.{edit_from}
use Rattle.office_entry.specs.EntryBytes.{IsInRange, IsCycle, entry_fields, entry_bytes}
use Rattle.office_entry.specs.EntryReading.{number_within, open_from, line_from, edit_width, edit_entry_from, entry_from}
use Rattle.office_entry.proofs.EditsOfBytes.{edit_found, edit_again}
use Rattle.ali_base.proofs.FrontsAgain.{IsBytes, Takes-then, front_takes, front_again, number_takes, number_again, text_fits, zeros_are, are_zeros-zeros}
use Rattle.office_entry.proofs.Options.{when_true, choose}

-- ---- zeros

-- fields, and zeros up to the whole width
filled_is : (bytes text rest : List ℕ) → bytes ≡ text ++ rest → are_zeros rest ≡ true → length bytes ≡ 631 → bytes ≡ zero_filled 631 text
filled_is bytes text rest whole zeros len =
    let left : length rest ≡ 631 - length text = omega (arith, len, ap length whole, length-append text rest) in
    whole ∙ ap (λ z. text ++ z) (zeros_are rest zeros) ∙ ap (λ n. text ++ replicate n 0) left

-- ---- what is read has these bytes

-- the entry has these bytes
abbrev Found : List ℕ → Entry → Type 0
Found bytes e = IsInRange e × (bytes ≡ entry_bytes e)

within_is : (low high n m : ℕ) → number_within low high n ≡ Some m → (n ≡ m) × (low ≤ m) × (m ≤ high)
within_is low high n m h =
    let w = cond_some (nat_le low n && nat_le n high) n m h in
    let p = and_parts (nat_le low n) (nat_le n high) w.0 in
    let l : low ≤ n = grind (arith, nat_tests, p.0) in
    let u : n ≤ high = grind (arith, nat_tests, p.1) in
    (w.1, omega (arith, w.1, l), omega (arith, w.1, u))

company_is : (bytes company : List ℕ) → company_of bytes ≡ Some company → (is_company company ≡ true) × (bytes ≡ company)
company_is bytes company h =
    let w = cond_some (is_company bytes) bytes company h in
    (subst (λ z. is_company z ≡ true) w.1 w.0, w.1)

open_made : (bytes : List ℕ) (c : List ℕ × List ℕ) (n k : ℕ × List ℕ) (d s : List ℕ × List ℕ) (company : List ℕ) (cycle : ℕ) (day : CivilDay) (e : Entry)
    → IsBytes bytes → length (79 ∷ bytes) ≡ 631 → front 5 bytes ≡ Some c → number_at c.1 ≡ Some n → number_at n.1 ≡ Some k → front 6 k.1 ≡ Some d → front 32 d.1 ≡ Some s
    → company_of c.0 ≡ Some company → number_within 1 999_999 n.0 ≡ Some cycle → day_of d.0 ≡ Some day → are_zeros s.1 ≡ true → Open company cycle k.0 day s.0 ≡ e
    → Found (79 ∷ bytes) e
unfolding entry_bytes
open_made bytes c n k d s company cycle day e fits len c_h n_h k_h d_h s_h company_h cycle_h day_h end made =
    let tc = front_takes 5 bytes c fits c_h in
    let tn = number_takes c.1 n tc.0.fits n_h in
    let tk = number_takes n.1 k tn.0.fits k_h in
    let td = front_takes 6 k.1 d tk.0.fits d_h in
    let ts = front_takes 32 d.1 s td.0.fits s_h in
    let two = Takes-then bytes c.0 c.1 (number_bytes n.0) n.1 tc.0 tn.0 in
    let three = Takes-then bytes (c.0 ++ number_bytes n.0) n.1 (number_bytes k.0) k.1 two tk.0 in
    let four = Takes-then bytes (c.0 ++ number_bytes n.0 ++ number_bytes k.0) k.1 d.0 d.1 three td.0 in
    let five = Takes-then bytes (c.0 ++ number_bytes n.0 ++ number_bytes k.0 ++ d.0) d.1 s.0 s.1 four ts.0 in
    let company_is = company_is c.0 company company_h in
    let cycle_is = within_is 1 999_999 n.0 cycle cycle_h in
    let day_is = day_of-found d.0 day day_h in
    let fields : List ℕ = 79 ∷ c.0 ++ number_bytes n.0 ++ number_bytes k.0 ++ d.0 ++ s.0 in
    let whole : 79 ∷ bytes ≡ zero_filled 631 fields = filled_is (79 ∷ bytes) fields s.1 (ap (λ z. 79 ∷ z) five.parts) end len in
    let same : fields ≡ entry_fields (Open company cycle k.0 day s.0) =
    ap (λ z. 79 ∷ z ++ number_bytes n.0 ++ number_bytes k.0 ++ d.0 ++ s.0) company_is.1
    ∙ ap (λ z. 79 ∷ company ++ number_bytes z ++ number_bytes k.0 ++ d.0 ++ s.0) cycle_is.0
    ∙ ap (λ z. 79 ∷ company ++ number_bytes cycle ++ number_bytes k.0 ++ z ++ s.0) day_is.1 in
    subst (λ (z : Entry). Found (79 ∷ bytes) z) made (
      (company_is.0, (cycle_is.1, cycle_is.2), tk.1, day_is.0, ts.1),
      whole ∙ ap (zero_filled 631) same,
    )

open_found : (bytes : List ℕ) (e : Entry) → IsBytes bytes → length (79 ∷ bytes) ≡ 631 → open_from bytes ≡ Some e → Found (79 ∷ bytes) e
unfolding open_from
open_found bytes e fits len h =
    let c = bind_ok (front 5 bytes) _ e h in
    let n = bind_ok (number_at c.0.1) _ e c.2 in
    let k = bind_ok (number_at n.0.1) _ e n.2 in
    let d = bind_ok (front 6 k.0.1) _ e k.2 in
    let s = bind_ok (front 32 d.0.1) _ e d.2 in
    let company = bind_ok (company_of c.0.0) _ e s.2 in
    let cycle = bind_ok (number_within 1 999_999 n.0.0) _ e company.2 in
    let day = bind_ok (day_of d.0.0) _ e cycle.2 in
    let w = cond_some (are_zeros s.0.1) (Open company.0 cycle.0 k.0.0 day.0 s.0.0) e day.2 in
    open_made bytes c.0 n.0 k.0 d.0 s.0 company.0 cycle.0 day.0 e fits len c.1 n.1 k.1 d.1 s.1 company.1 cycle.1 day.1 w.0 w.1

line_made : (bytes : List ℕ) (c : List ℕ × List ℕ) (n k : ℕ × List ℕ) (s : List ℕ × List ℕ) (company : List ℕ) (cycle : ℕ) (e : Entry)
    → IsBytes bytes → length (76 ∷ bytes) ≡ 631 → front 5 bytes ≡ Some c → number_at c.1 ≡ Some n → number_at n.1 ≡ Some k → front 512 k.1 ≡ Some s
    → company_of c.0 ≡ Some company → number_within 1 999_999 n.0 ≡ Some cycle → are_zeros s.1 ≡ true → Line company cycle k.0 s.0 ≡ e
    → Found (76 ∷ bytes) e
unfolding entry_bytes
line_made bytes c n k s company cycle e fits len c_h n_h k_h s_h company_h cycle_h end made =
    let tc = front_takes 5 bytes c fits c_h in
    let tn = number_takes c.1 n tc.0.fits n_h in
    let tk = number_takes n.1 k tn.0.fits k_h in
    let ts = front_takes 512 k.1 s tk.0.fits s_h in
    let two = Takes-then bytes c.0 c.1 (number_bytes n.0) n.1 tc.0 tn.0 in
    let three = Takes-then bytes (c.0 ++ number_bytes n.0) n.1 (number_bytes k.0) k.1 two tk.0 in
    let four = Takes-then bytes (c.0 ++ number_bytes n.0 ++ number_bytes k.0) k.1 s.0 s.1 three ts.0 in
    let company_is = company_is c.0 company company_h in
    let cycle_is = within_is 1 999_999 n.0 cycle cycle_h in
    let fields : List ℕ = 76 ∷ c.0 ++ number_bytes n.0 ++ number_bytes k.0 ++ s.0 in
    let whole : 76 ∷ bytes ≡ zero_filled 631 fields = filled_is (76 ∷ bytes) fields s.1 (ap (λ z. 76 ∷ z) four.parts) end len in
    let same : fields ≡ entry_fields (Line company cycle k.0 s.0) =
    ap (λ z. 76 ∷ z ++ number_bytes n.0 ++ number_bytes k.0 ++ s.0) company_is.1
    ∙ ap (λ z. 76 ∷ company ++ number_bytes z ++ number_bytes k.0 ++ s.0) cycle_is.0 in
    subst (λ (z : Entry). Found (76 ∷ bytes) z) made (
      (company_is.0, (cycle_is.1, cycle_is.2), tk.1, ts.1),
      whole ∙ ap (zero_filled 631) same,
    )

line_found : (bytes : List ℕ) (e : Entry) → IsBytes bytes → length (76 ∷ bytes) ≡ 631 → line_from bytes ≡ Some e → Found (76 ∷ bytes) e
unfolding line_from
line_found bytes e fits len h =
    let c = bind_ok (front 5 bytes) _ e h in
    let n = bind_ok (number_at c.0.1) _ e c.2 in
    let k = bind_ok (number_at n.0.1) _ e n.2 in
    let s = bind_ok (front 512 k.0.1) _ e k.2 in
    let company = bind_ok (company_of c.0.0) _ e s.2 in
    let cycle = bind_ok (number_within 1 999_999 n.0.0) _ e company.2 in
    let w = cond_some (are_zeros s.0.1) (Line company.0 cycle.0 k.0.0 s.0.0) e cycle.2 in
    line_made bytes c.0 n.0 k.0 s.0 company.0 cycle.0 e fits len c.1 n.1 k.1 s.1 company.1 cycle.1 w.0 w.1

edit_made : (i : ℕ) (bytes : List ℕ) (n : ℕ × List ℕ) (f : List ℕ × List ℕ) (editor serial : ℕ) (edit : AnyEdit) (e : Entry)
    → IsBytes bytes → length (69 ∷ i ∷ bytes) ≡ 631 → number_at bytes ≡ Some n → front (edit_width n.1) n.1 ≡ Some f
    → number_within 1 64 i ≡ Some editor → number_within 1 999_999_999 n.0 ≡ Some serial → edit_from f.0 ≡ Some edit → are_zeros f.1 ≡ true → Edit editor serial edit ≡ e
    → Found (69 ∷ i ∷ bytes) e
unfolding entry_bytes
edit_made i bytes n f editor serial edit e fits len n_h f_h editor_h serial_h edit_h end made =
    let tn = number_takes bytes n fits n_h in
    let tf = front_takes (edit_width n.1) n.1 f tn.0.fits f_h in
    let two = Takes-then bytes (number_bytes n.0) n.1 f.0 f.1 tn.0 tf.0 in
    let editor_is = within_is 1 64 i editor editor_h in
    let serial_is = within_is 1 999_999_999 n.0 serial serial_h in
    let inside : IsBytes f.0 = text_fits f.0 f.1 (subst IsBytes tf.0.parts tn.0.fits) in
    let edit_is = edit_found f.0 edit inside edit_h in
    let fields : List ℕ = 69 ∷ i ∷ number_bytes n.0 ++ f.0 in
    let whole : 69 ∷ i ∷ bytes ≡ zero_filled 631 fields = filled_is (69 ∷ i ∷ bytes) fields f.1 (ap (λ z. 69 ∷ i ∷ z) two.parts) end len in
    let same : fields ≡ entry_fields (Edit editor serial edit) =
    ap (λ z. 69 ∷ z ∷ number_bytes n.0 ++ f.0) editor_is.0
    ∙ ap (λ z. 69 ∷ editor ∷ number_bytes z ++ f.0) serial_is.0
    ∙ ap (λ z. 69 ∷ editor ∷ number_bytes serial ++ z) edit_is.1 in
    subst (λ (z : Entry). Found (69 ∷ i ∷ bytes) z) made (
      ((editor_is.1, editor_is.2), (serial_is.1, serial_is.2), edit_is.0),
      whole ∙ ap (zero_filled 631) same,
    )

edit_entry_found : (bytes : List ℕ) (e : Entry) → IsBytes bytes → length (69 ∷ bytes) ≡ 631 → edit_entry_from bytes ≡ Some e → Found (69 ∷ bytes) e
unfolding edit_entry_from
edit_entry_found [] e fits len h = cc
edit_entry_found (i ∷ bytes) e fits len h =
    let n = bind_ok (number_at bytes) _ e h in
    let f = bind_ok (front (edit_width n.0.1) n.0.1) _ e n.2 in
    let editor = bind_ok (number_within 1 64 i) _ e f.2 in
    let serial = bind_ok (number_within 1 999_999_999 n.0.0) _ e editor.2 in
    let edit = bind_ok (edit_from f.0.0) _ e serial.2 in
    let w = cond_some (are_zeros f.0.1) (Edit editor.0 serial.0 edit.0) e edit.2 in
    edit_made i bytes n.0 f.0 editor.0 serial.0 edit.0 e (λ j. fits (suc j)) len n.1 f.1 editor.1 serial.1 edit.1 w.0 w.1

-- a letter of which the rest is read
by_kind : (read : List ℕ → Option Entry) (n x : ℕ) (fields : List ℕ) (e : Entry)
    → ((bytes : List ℕ) (e : Entry) → IsBytes bytes → length (n ∷ bytes) ≡ 631 → read bytes ≡ Some e → Found (n ∷ bytes) e)
    → IsBytes (x ∷ fields) → length (x ∷ fields) ≡ 631 → (x == n) ≡ true → read fields ≡ Some e → Found (x ∷ fields) e
by_kind read n x fields e found fits len test h =
    let same : x ≡ n = grind (arith, nat_tests) in
    subst (λ (z : ℕ). Found (z ∷ fields) e) (sym same) (found fields e (λ i. fits (suc i)) len h)

pub entry_found : (bytes : List ℕ) (e : Entry) → IsBytes bytes → length bytes ≡ 631 → entry_from bytes ≡ Some e → IsInRange e × (bytes ≡ entry_bytes e)
unfolding entry_from
entry_found [] e fits len h = cc
entry_found (x ∷ fields) e fits len h =
    elim (choose (x == 79) (open_from fields) _ e h) [
      | inl a ↦ by_kind open_from 79 x fields e open_found fits len a.0 a.1
      | inr a ↦ (elim (choose (x == 76) (line_from fields) _ e a.1) [
        | inl b ↦ by_kind line_from 76 x fields e line_found fits len b.0 b.1
        | inr b ↦ (elim (choose (x == 69) (edit_entry_from fields) None e b.1) [
          | inl d ↦ by_kind edit_entry_from 69 x fields e edit_entry_found fits len d.0 d.1
          | inr d ↦ absurd cc
        ])
      ])
    ]

-- ---- the bytes of an entry are read as it

within_again : (low high n : ℕ) → low ≤ n → n ≤ high → number_within low high n ≡ Some n
within_again low high n l h =
    let test : (nat_le low n && nat_le n high) ≡ true = and_from (nat_le low n) (nat_le n high) (grind (arith, nat_tests)) (grind (arith, nat_tests)) in
    when_true (nat_le low n && nat_le n high) n test

company_length : (company : List ℕ) → is_company company ≡ true → length company ≡ 5
unfolding is_company
company_length company h =
    let p = and_parts (length company == 5) _ (and_parts _ _ h).0 in
    grind (arith, nat_tests, p.0)

small_cycle : (cycle : ℕ) → IsCycle cycle → cycle < 2 ^ 32
small_cycle cycle h = omega (arith, h.1)

open_again : (company : List ℕ) (cycle count : ℕ) (day : CivilDay) (digest : List ℕ) (zeros : ℕ) → IsInRange (Open company cycle count day digest)
    → open_from ((company ++ number_bytes cycle ++ number_bytes count ++ day_text day ++ digest) ++ replicate zeros 0) ≡ Some (Open company cycle count day digest)
unfolding open_from
open_again company cycle count day digest zeros h =
    let z = replicate zeros 0 in
    ap open_from (regroup company (number_bytes cycle) (number_bytes count) (day_text day) digest z)
    ∙ bind_some _ _ _ _ (front_again 5 company (number_bytes cycle ++ (number_bytes count ++ (day_text day ++ (digest ++ z)))) (company_length company h.0))
    (bind_some _ _ _ _ (number_again cycle (number_bytes count ++ (day_text day ++ (digest ++ z))) (small_cycle cycle h.1))
    (bind_some _ _ _ _ (number_again count (day_text day ++ (digest ++ z)) h.2)
    (bind_some _ _ _ _ (front_again 6 (day_text day) (digest ++ z) (length-day_text day h.3))
    (bind_some _ _ _ _ (front_again 32 digest z h.4)
    (bind_some _ _ _ _ (when_true (is_company company) company h.0)
    (bind_some _ _ _ _ (within_again 1 999_999 cycle h.1.0 h.1.1)
    (bind_some _ _ _ _ (day_of-text day h.3) (when_true (are_zeros z) (Open company cycle count day digest) (are_zeros-zeros zeros)))))))))
  where
    regroup : (a b c d e f : List ℕ) → (a ++ b ++ c ++ d ++ e) ++ f ≡ a ++ (b ++ (c ++ (d ++ (e ++ f))))
    regroup a b c d e f = simp append_assoc

line_again : (company : List ℕ) (cycle line : ℕ) (bytes : List ℕ) (zeros : ℕ) → IsInRange (Line company cycle line bytes)
    → line_from ((company ++ number_bytes cycle ++ number_bytes line ++ bytes) ++ replicate zeros 0) ≡ Some (Line company cycle line bytes)
unfolding line_from
line_again company cycle line bytes zeros h =
    let z = replicate zeros 0 in
    ap line_from (regroup company (number_bytes cycle) (number_bytes line) bytes z)
    ∙ bind_some _ _ _ _ (front_again 5 company (number_bytes cycle ++ (number_bytes line ++ (bytes ++ z))) (company_length company h.0))
    (bind_some _ _ _ _ (number_again cycle (number_bytes line ++ (bytes ++ z)) (small_cycle cycle h.1))
    (bind_some _ _ _ _ (number_again line (bytes ++ z) h.2)
    (bind_some _ _ _ _ (front_again 512 bytes z h.3)
    (bind_some _ _ _ _ (when_true (is_company company) company h.0)
    (bind_some _ _ _ _ (within_again 1 999_999 cycle h.1.0 h.1.1) (when_true (are_zeros z) (Line company cycle line bytes) (are_zeros-zeros zeros)))))))
  where
    regroup : (a b c d e : List ℕ) → (a ++ b ++ c ++ d) ++ e ≡ a ++ (b ++ (c ++ (d ++ e)))
    regroup a b c d e = simp append_assoc

add_width : (key : StreetKey) (low high : ℕ) (parity : Parity) (esn : ℕ) → IsEditKey key → length (edit_bytes (edits.Add key low high parity esn)) ≡ 116
add_width key low high parity esn h =
    let street = length-key key h in
    let one = length-parity parity in
    let k = key_bytes key in
    let l = number_bytes low in
    let m = number_bytes high in
    let p = parity_text parity in
    let n = number_bytes esn in
    omega (arith, length-append (k ++ l ++ m ++ p) n, length-append (k ++ l ++ m) p, length-append (k ++ l) m, length-append k l)
  where
    length-parity : (p : Parity) → length (parity_text p) ≡ 1
    length-parity Odd = refl
    length-parity Even = refl
    length-parity Both = refl

    length-key : (key : StreetKey) → IsEditKey key → length (key_bytes key) ≡ 102
    length-key key h =
        let c = key.community in
        let s = key.state in
        let p = key.prefix in
        let n = key.name in
        let x = key.suffix in
        let o = key.post in
        omega (arith, length-append (c ++ s ++ p ++ n ++ x) o, length-append (c ++ s ++ p ++ n) x, length-append (c ++ s ++ p) n, length-append (c ++ s) p, length-append c s, h.community, h.state, h.prefix, h.name, h.suffix, h.post)

-- an edit's letter tells its width
width_again : (edit : AnyEdit) (rest : List ℕ) → IsEdit edit → edit_width (edit_bytes edit ++ rest) ≡ length (edit_bytes edit)
width_again (edits.Add key low high parity esn) rest h = sym (add_width key low high parity esn h.street)
width_again (edits.Retire id) rest h = refl
width_again (edits.Split id at esn) rest h = refl
width_again (edits.Renumber id by) rest h = refl
width_again (edits.SetEsn id esn) rest h = refl

edit_entry_again : (editor serial : ℕ) (edit : AnyEdit) (zeros : ℕ) → IsInRange (Edit editor serial edit)
    → edit_entry_from (editor ∷ (number_bytes serial ++ edit_bytes edit) ++ replicate zeros 0) ≡ Some (Edit editor serial edit)
unfolding edit_entry_from
edit_entry_again editor serial edit zeros h =
    let z = replicate zeros 0 in
    let width = width_again edit z h.2 in
    ap (λ y. edit_entry_from (editor ∷ y)) (append_assoc (number_bytes serial) (edit_bytes edit) z)
    ∙ bind_some _ _ _ _ (number_again serial (edit_bytes edit ++ z) (omega (arith, h.1.1)))
    (bind_some _ _ _ _ (front_again (edit_width (edit_bytes edit ++ z)) (edit_bytes edit) z (sym width))
    (bind_some _ _ _ _ (within_again 1 64 editor h.0.0 h.0.1)
    (bind_some _ _ _ _ (within_again 1 999_999_999 serial h.1.0 h.1.1)
    (bind_some _ _ _ _ (edit_again edit h.2) (when_true (are_zeros z) (Edit editor serial edit) (are_zeros-zeros zeros))))))

pub entry_again : (e : Entry) → IsInRange e → entry_from (entry_bytes e) ≡ Some e
unfolding entry_from entry_bytes
entry_again (Open company cycle count day digest) h = open_again company cycle count day digest (631 - length (entry_fields (Open company cycle count day digest))) h
entry_again (Line company cycle line bytes) h = line_again company cycle line bytes (631 - length (entry_fields (Line company cycle line bytes))) h
entry_again (Edit editor serial edit) h = edit_entry_again editor serial edit (631 - length (entry_fields (Edit editor serial edit))) h

pub one_entry : (e f : Entry) → IsInRange e → IsInRange f → entry_bytes e ≡ entry_bytes f → e ≡ f
one_entry e f h k same = some_is e f (sym (entry_again e h) ∙ ap entry_from same ∙ entry_again f k)

-- ---- an entry has 631 bytes

length-filled : (width : ℕ) (text : List ℕ) → length text ≤ width → length (zero_filled width text) ≡ width
length-filled width text le = omega (arith, length-append text (replicate (width - length text) 0), length-replicate {A = ℕ} (width - length text) 0)

length-edit : (edit : AnyEdit) → IsEdit edit → length (edit_bytes edit) ≤ 116
length-edit (edits.Add key low high parity esn) h = omega (arith, add_width key low high parity esn h.street)
length-edit (edits.Retire id) h = omega arith
length-edit (edits.Split id at esn) h = omega arith
length-edit (edits.Renumber id by) h = omega arith
length-edit (edits.SetEsn id esn) h = omega arith

length-fields : (e : Entry) → IsInRange e → length (entry_fields e) ≤ 631
length-fields (Open company cycle count day digest) h =
    let c = company_length company h.0 in
    let d = length-day_text day h.3 in
    let n = number_bytes cycle in
    let k = number_bytes count in
    let t = day_text day in
    omega (arith, h.4, length-append (company ++ n ++ k ++ t) digest, length-append (company ++ n ++ k) t, length-append (company ++ n) k, length-append company n)
length-fields (Line company cycle line bytes) h =
    let c = company_length company h.0 in
    let n = number_bytes cycle in
    let k = number_bytes line in
    omega (arith, h.3, length-append (company ++ n ++ k) bytes, length-append (company ++ n) k, length-append company n)
length-fields (Edit editor serial edit) h =
    let e = length-edit edit h.2 in
    omega arith

pub length-entry_bytes : (e : Entry) → IsInRange e → length (entry_bytes e) ≡ 631
unfolding entry_bytes
length-entry_bytes e h = length-filled 631 (entry_fields e) (length-fields e h)
