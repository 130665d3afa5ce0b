-- The steps of a seat whose view is known, and the tokens that they leave.
use Rattle.std.proofs.Common.{◌≡◌, ℕ, ◌+◌, ◌%◌, ◌^◌, List, [], length, Bool, ap, sym, ◌∙◌, subst, arith}
use mathlib.Core.Option.{none}
use mathlib.Core.List.{IsPrefix}
use Rattle.atomic_table.specs.Table.{step, Allows, Splits, Joins}
use Rattle.ali_base.specs.declared.duty.Duty.{Duty}
use Rattle.board.specs.declared.front.Front.{Front}
use Rattle.board.specs.declared.view.View.{View}
use Rattle.board.specs.declared.view.Role.{Role}
use Rattle.board.specs.declared.view.Role.TheVariants.{Writes, Reads}
use Rattle.board.specs.FrontWord.{word_of, front_of, front_under, FitsWord, IsNoEarlier}
use Rattle.board.specs.BoardRule.{At, comparing_view, view_of, opening_view, spent_view, reading, with_beside, Holds, opened, wrote, saw, met}
use Rattle.board.specs.Histories.{IsMain, IsPass}
use Rattle.board.proofs.Words.{front_of_word}
use Rattle.board.proofs.Steps.{IsAtWork, opens, writes, looks, meets, copies, joins}

-- a seat that has seen this
abbrev pub HasSeen : {E : Type 0} → Role → At E → List E → Front → Type 0
HasSeen role me list front = me ≡ (view_of role list front, [])

-- the same, with what another has seen beside
abbrev pub Compares : {E : Type 0} → Role → At E → List E → Front → List E → Front → Type 0
Compares role me list front other other_front = me ≡ (comparing_view role list front other other_front, [])

module _ {E : Type 0} (lawful : List E → Type 0) where
  -- the token that writes
  pub main_made : (me : At E) (list : List E) (d : Duty) (count : ℕ) → HasSeen Writes me list (front_under d count) → count ≡ length list → FitsWord (front_under d count) → lawful list → IsMain lawful me d count
  main_made me list d count is long fits ok =
      let lists = ap (λ (m : At E). m.0.list) is in
      (is ∙ ap (λ (l : List E). (view_of Writes l (front_under d count), [])) (sym lists), long ∙ ap length (sym lists), fits, subst lawful (sym lists) ok)

  -- a token that has just seen the whole history
  pub pass_made : (keeps : Bool) (found count : ℕ) (me me' : At E) (list other : List E) (f g : Front) → Compares Reads me list f other g → count ≡ (front_of found).count → saw lawful keeps (step 0 0 0 0 none) me found me' → IsPass lawful me' count
  pass_made keeps found count me me' list other f g is shows told =
      let sees = told.1 in
      let view : me'.0 ≡ view_of Reads me'.0.list me'.0.front = sees.is ∙ ap (view_of Reads me'.0.list) (sym (ap (λ (v : View E). v.front) sees.is)) in (
        λ i. (view i, (told.0 ∙ ap (λ (m : At E). m.1) is) i),
        shows ∙ sees.count,
        omega (arith, shows, sees.fits.0),
        sees.is_lawful,
      )

  pub opened_is : (me me' : At E) (list : List E) (f : Front) (word : ℕ) → me ≡ (opening_view, []) → word ≡ word_of f → FitsWord f → me' ≡ (view_of Writes list (front_of word), me.1) → HasSeen Writes me' list f
  opened_is me me' list f word first is fits now =
      let shows = ap front_of is ∙ front_of_word f fits in
      let none_held = ap (λ (m : At E). m.1) first in
      now ∙ (λ i. (view_of Writes list (shows i), none_held i))

  pub wrote_is : (me me' : At E) (list : List E) (more : List E → List E) (f g : Front) (k : ℕ) → HasSeen Writes me list f → word_of f + k ≡ word_of g → FitsWord g → me' ≡ (view_of Writes (more me.0.list) (front_of (word_of me.0.front + k)), me.1)
      → HasSeen Writes me' (more list) g
  wrote_is me me' list more f g k is adds fits now =
      let shows = ap front_of adds ∙ front_of_word g fits in
      now ∙ (ap (λ (m : At E). (view_of Writes (more m.0.list) (front_of (word_of m.0.front + k)), m.1)) is ∙ ap (λ (h : Front). (view_of Writes (more list) h, [])) shows)

  pub beside_is : (role : Role) (me me' them : At E) (list more : List E) (f g : Front) → HasSeen role me list f → HasSeen Reads them more g → me' ≡ (with_beside me.0 them.0, me.1) → Compares role me' list f more g
  beside_is role me me' them list more f g is are now = now ∙ (λ i. (with_beside (is i).0 (are i).0, (is i).1))

  pub met_is : (me me' : At E) (list other : List E) (f g : Front) → Compares Writes me list f other g → me' ≡ (view_of Writes me.0.list me.0.front, me.1) → HasSeen Writes me' list f
  met_is me me' list other f g is now = now ∙ ap (λ (m : At E). (view_of Writes m.0.list m.0.front, m.1)) is

  pub copy_is : (role : Role) (me them : At E) (list : List E) (f : Front) → HasSeen role me list f → them ≡ (reading me.0, []) → HasSeen Reads them list f
  copy_is role me them list f is now = now ∙ ap (λ (m : At E). (reading m.0, [])) is

  pub opens_as : (slots id word : ℕ) (me : At E) (list : List E) (f : Front) → id ≡ 0 → me ≡ (opening_view, []) → word ≡ word_of f → lawful list → f.count ≡ length list → FitsWord f
      → Allows (Holds lawful) slots id me 0 (λ _. word) (λ _. opened list (step slots 0 word 0 none) me word)
  opens_as slots id word me list f first is shows ok count fits =
      subst (λ (x : ℕ × ℕ × At E). Allows (Holds lawful) slots x.0 x.2 0 (λ _. x.1) (λ _. opened list (step slots 0 x.1 0 none) x.2 x.1)) (λ i. (sym first i, sym shows i, sym is i)) (opens lawful slots list f ok count fits)

  pub writes_as : (slots by : ℕ) (me : At E) (list : List E) (more : List E → List E) (f g : Front) (k : ℕ) → HasSeen Writes me list f → IsPrefix list (more list) → IsNoEarlier f g → word_of f + k ≡ word_of g → g.count ≡ length (more list) → FitsWord g → lawful (more list)
      → Allows (Holds lawful) slots by me 0 (λ n. (n + k) % 2 ^ 64) (wrote more (step slots 0 k 0 none) me)
  writes_as slots by me list more f g k is begins later adds count fits ok =
      subst (λ (m : At E). Allows (Holds lawful) slots by m 0 (λ n. (n + k) % 2 ^ 64) (wrote more (step slots 0 k 0 none) m)) (sym is) (writes lawful slots by list (more list) f g k begins later adds count fits ok)

  pub looks_as : (slots by : ℕ) (me : At E) (keeps : Bool) (list other : List E) (f g : Front) → Compares Reads me list f other g
      → Allows (Holds lawful) slots by me 0 (λ n. n) (saw lawful keeps (step slots 0 0 0 none) me)
  looks_as slots by me keeps list other f g is =
      subst (λ (m : At E). Allows (Holds lawful) slots by m 0 (λ n. n) (saw lawful keeps (step slots 0 0 0 none) m)) (sym is) (looks lawful slots by keeps list other f g)

  pub meets_as : (slots by : ℕ) (me : At E) (list other : List E) (f g : Front) → Compares Writes me list f other g
      → Allows (Holds lawful) slots by me 0 (λ n. n) (met (step slots 0 0 0 none) me)
  meets_as slots by me list other f g is =
      subst (λ (m : At E). Allows (Holds lawful) slots by m 0 (λ n. n) (met (step slots 0 0 0 none) m)) (sym is) (meets lawful slots by list other f g)

  pub copies_as : (by : ℕ) (role : Role) (me : At E) (list : List E) (f : Front) → IsAtWork role → HasSeen role me list f → Splits (Holds lawful) by me.0 me.0 (reading me.0)
  copies_as by role me list f on is = subst (λ (m : At E). Splits (Holds lawful) by m.0 m.0 (reading m.0)) (sym is) (copies lawful by role list f on)

  pub joins_as : (by other : ℕ) (role : Role) (me them : At E) (list more : List E) (f g : Front) → IsAtWork role → HasSeen role me list f → HasSeen Reads them more g
      → Joins (Holds lawful) by me.0 other them.0 (with_beside me.0 them.0) spent_view
  joins_as by other role me them list more f g on is are =
      subst (λ (x : At E × At E). Joins (Holds lawful) by x.0.0 other x.1.0 (with_beside x.0.0 x.1.0) spent_view) (λ i. (sym is i, sym are i)) (joins lawful by other role list more f g on)
