-- Duties and their bodies.
use Rattle.std.proofs.Common.{◌≡◌, ◌==◌, ℕ, suc, ◌+◌, ◌&&◌, Bool, true, false, List, [], ◌∷◌, ◌++◌, length, Option, Some, None, refl, sym, ap, subst, ◌∙◌, arith}
use Rattle.std.specs.Prelude.{is_some, replicate, bytes_eq, if◌then◌else◌}
use Rattle.std.proofs.lemmas.Bool.{and_parts}
use Rattle.std.proofs.lemmas.Bool.Decides.{nat_tests}
use Rattle.std.proofs.lemmas.Slice.Eq.{bytes_eq-Decides}
use Rattle.std.proofs.lemmas.Option.{cond_some}
use Rattle.ali_base.specs.Fronts.{front, number_at, number_bytes, zero_filled}
use Rattle.ali_base.specs.NodeNames.{node_of, node_text}
use Rattle.ali_base.specs.Steps.{when}
use Rattle.ali_base.proofs.FrontsAgain.{IsBytes, Takes, Takes-make, Takes-then, front_takes, front_again, number_takes, number_again}
use Rattle.ali_base.proofs.Steps.{bind_ok, bind_some, some_is}
use Rattle.ali_base.specs.declared.duty.Duty.{Duty}
use Rattle.ali_base.specs.declared.duty.Mode.{Mode}
use Rattle.ali_base.specs.declared.duty.Mode.TheVariants.{Both, Alone}
use Rattle.ali_base.specs.declared.names.NodeName.{NodeName}
use Rattle.ali_base.specs.declared.names.NodeName.TheVariants.{A, B}
use Rattle.duty_register.specs.DutyBytes.{IsDuty, IsBodyOf, body, mode_letter, mode_at, duty_from, is_body}

-- ---- letters

node_is : (bytes : List ℕ) (holder : NodeName) → node_of bytes ≡ Some holder → bytes ≡ node_text holder
node_is [] holder h = cc
node_is (byte ∷ []) holder h = by_tests (byte == 97) (byte == 98) refl refl h
  where
    by_tests : (a b : Bool) → (byte == 97) ≡ a → (byte == 98) ≡ b → (if a then Some A else (if b then Some B else None)) ≡ Some holder → byte ∷ [] ≡ node_text holder
    by_tests true b is other h =
        let same : byte ≡ 97 = grind (arith, nat_tests, is) in
        ap (λ n. n ∷ []) same ∙ ap node_text (some_is A holder h)
    by_tests false true is other h =
        let same : byte ≡ 98 = grind (arith, nat_tests, other) in
        ap (λ n. n ∷ []) same ∙ ap node_text (some_is B holder h)
    by_tests false false is other h = cc
node_is (byte ∷ next ∷ rest) holder h = cc

node_again : (holder : NodeName) → node_of (node_text holder) ≡ Some holder
node_again A = refl
node_again B = refl

letter_again : (holder : NodeName) (rest : List ℕ) → front 1 (node_text holder ++ rest) ≡ Some (node_text holder, rest)
letter_again holder rest = front_again 1 (node_text holder) rest (one holder)
  where
    one : (holder : NodeName) → length (node_text holder) ≡ 1
    one A = refl
    one B = refl

mode_is : (letter : ℕ) (rest : List ℕ) (x : Mode × List ℕ) (a b : Bool) → (letter == 66) ≡ a → (letter == 65) ≡ b
    → (if a then Some (Both, rest) else (if b then Some (Alone, rest) else None)) ≡ Some x → letter ∷ rest ≡ mode_letter x.0 ∷ x.1
mode_is letter rest x true b is other h =
    let same : letter ≡ 66 = grind (arith, nat_tests, is) in
    ap (λ n. n ∷ rest) same ∙ ap (λ (y : Mode × List ℕ). mode_letter y.0 ∷ y.1) (some_is (Both, rest) x h)
mode_is letter rest x false true is other h =
    let same : letter ≡ 65 = grind (arith, nat_tests, other) in
    ap (λ n. n ∷ rest) same ∙ ap (λ (y : Mode × List ℕ). mode_letter y.0 ∷ y.1) (some_is (Alone, rest) x h)
mode_is letter rest x false false is other h = cc

mode_takes : (bytes : List ℕ) (x : Mode × List ℕ) → IsBytes bytes → mode_at bytes ≡ Some x → Takes bytes (mode_letter x.0 ∷ []) x.1
unfolding mode_at
mode_takes [] x fits h = cc
mode_takes (letter ∷ rest) x fits h = Takes-make (letter ∷ rest) (mode_letter x.0 ∷ []) x.1 fits (mode_is letter rest x (letter == 66) (letter == 65) refl refl h)

mode_again : (mode : Mode) (rest : List ℕ) → mode_at (mode_letter mode ∷ rest) ≡ Some (mode, rest)
unfolding mode_at
mode_again Both rest = refl
mode_again Alone rest = refl

-- ---- what is read has these bytes

zeros_are : (bytes : List ℕ) → bytes_eq bytes (replicate 21 0) ≡ true → bytes ≡ replicate 21 0
zeros_are bytes h = (bytes_eq-Decides bytes (replicate 21 0)).0 h

-- the fields, one after the other, and the zeros behind them
fields_are : (epoch : ℕ) (holder : NodeName) (mode floor : ℕ)
    → (((number_bytes epoch ++ node_text holder) ++ (mode ∷ [])) ++ number_bytes floor) ++ replicate 21 0 ≡ zero_filled 31 (number_bytes epoch ++ node_text holder ++ mode ∷ number_bytes floor)
fields_are epoch A mode floor = refl
fields_are epoch B mode floor = refl

duty_made : (k : ℕ) (bytes : List ℕ) (e : ℕ × List ℕ) (l : List ℕ × List ℕ) (m : Mode × List ℕ) (f : ℕ × List ℕ) (holder : NodeName) (duty : Duty) → IsBytes bytes
    → number_at bytes ≡ Some e → front 1 e.1 ≡ Some l → mode_at l.1 ≡ Some m → number_at m.1 ≡ Some f → node_of l.0 ≡ Some holder
    → bytes_eq f.1 (replicate 21 0) ≡ true → (e.0 == k + 1) ≡ true → record { epoch = e.0; holder = holder; mode = m.0; floor = f.0 } ≡ duty → IsBodyOf k duty bytes
unfolding body
duty_made k bytes e l m f holder duty fits e_h l_h m_h f_h holder_h zeros same made =
    let te = number_takes bytes e fits e_h in
    let tl = front_takes 1 e.1 l te.0.fits l_h in
    let tm = mode_takes l.1 m tl.0.fits m_h in
    let tf = number_takes m.1 f tm.fits f_h in
    let a = number_bytes e.0 in
    let two = Takes-then bytes a e.1 l.0 l.1 te.0 tl.0 in
    let three = Takes-then bytes (a ++ l.0) l.1 (mode_letter m.0 ∷ []) m.1 two tm in
    let four = Takes-then bytes ((a ++ l.0) ++ (mode_letter m.0 ∷ [])) m.1 (number_bytes f.0) f.1 three tf.0 in
    let counted : e.0 ≡ k + 1 = grind (arith, nat_tests, same) in
    subst (λ (x : Duty). IsBodyOf k x bytes) made (record {
      lawful = (te.1, tf.1);
      counted = counted;
      spelled = four.parts
          ∙ ap (λ z. (((a ++ l.0) ++ (mode_letter m.0 ∷ [])) ++ number_bytes f.0) ++ z) (zeros_are f.1 zeros)
          ∙ ap (λ z. (((a ++ z) ++ (mode_letter m.0 ∷ [])) ++ number_bytes f.0) ++ replicate 21 0) (node_is l.0 holder holder_h)
          ∙ fields_are e.0 holder (mode_letter m.0) f.0;
    })

pub duty_found : (k : ℕ) (bytes : List ℕ) (duty : Duty) → IsBytes bytes → duty_from k bytes ≡ Some duty → IsBodyOf k duty bytes
unfolding duty_from
duty_found k bytes duty fits h =
    let e = bind_ok (number_at bytes) _ duty h in
    let l = bind_ok (front 1 e.0.1) _ duty e.2 in
    let m = bind_ok (mode_at l.0.1) _ duty l.2 in
    let f = bind_ok (number_at m.0.1) _ duty m.2 in
    let n = bind_ok (node_of l.0.0) _ duty f.2 in
    let w = cond_some (bytes_eq f.0.1 (replicate 21 0) && (e.0.0 == k + 1)) (record { epoch = e.0.0; holder = n.0; mode = m.0.0; floor = f.0.0 }) duty n.2 in
    let t = and_parts (bytes_eq f.0.1 (replicate 21 0)) (e.0.0 == k + 1) w.0 in
    duty_made k bytes e.0 l.0 m.0 f.0 n.0 duty fits e.1 l.1 m.1 f.1 n.1 t.0 t.1 w.1

-- bytes that are a body are that of a duty
pub body_found : (k : ℕ) (bytes : List ℕ) → IsBytes bytes → is_body k bytes ≡ true → (duty : Duty) × IsBodyOf k duty bytes
unfolding is_body
body_found k bytes fits h = by_duty (duty_from k bytes) refl h
  where
    by_duty : (o : Option Duty) → duty_from k bytes ≡ o → is_some o ≡ true → (duty : Duty) × IsBodyOf k duty bytes
    by_duty None is h = cc
    by_duty (Some duty) is h = (duty, duty_found k bytes duty fits is)

-- ---- the body of a duty is read as it

when_true : {A : Type 0} (b : Bool) (x : A) → b ≡ true → when b x ≡ Some x
when_true b x h = ap (λ z. when z x) h

-- what stands behind each field
abbrev behind_mode : Duty → List ℕ
behind_mode duty = number_bytes duty.floor ++ replicate 21 0

abbrev behind_holder : Duty → List ℕ
behind_holder duty = mode_letter duty.mode ∷ behind_mode duty

abbrev behind_epoch : Duty → List ℕ
behind_epoch duty = node_text duty.holder ++ behind_holder duty

body_parts : (epoch : ℕ) (holder : NodeName) (mode floor : ℕ)
    → zero_filled 31 (number_bytes epoch ++ node_text holder ++ mode ∷ number_bytes floor) ≡ number_bytes epoch ++ (node_text holder ++ (mode ∷ (number_bytes floor ++ replicate 21 0)))
body_parts epoch A mode floor = refl
body_parts epoch B mode floor = refl

number_of_body : (duty : Duty) → IsDuty duty → number_at (body duty) ≡ Some (duty.epoch, behind_epoch duty)
unfolding body
number_of_body duty h = ap number_at (body_parts duty.epoch duty.holder (mode_letter duty.mode) duty.floor) ∙ number_again duty.epoch (behind_epoch duty) h.0

-- all fields are read, and the epoch is compared
duty_read : (k : ℕ) (duty : Duty) → IsDuty duty → duty_from k (body duty) ≡ when (duty.epoch == k + 1) duty
unfolding duty_from
duty_read k duty h =
    bind_some _ _ _ _ (number_of_body duty h)
    (bind_some _ _ _ _ (letter_again duty.holder (behind_holder duty))
    (bind_some _ _ _ _ (mode_again duty.mode (behind_mode duty))
    (bind_some _ _ _ _ (number_again duty.floor (replicate 21 0) h.1)
    (bind_some _ _ _ _ (node_again duty.holder) refl))))

pub is_body-body : (k : ℕ) (duty : Duty) → IsDuty duty → duty.epoch ≡ k + 1 → is_body k (body duty) ≡ true
unfolding is_body
is_body-body k duty h is =
    let same : (duty.epoch == k + 1) ≡ true = grind (arith, nat_tests, is) in
    ap is_some (duty_read k duty h ∙ when_true (duty.epoch == k + 1) duty same)

-- a body of frame k has its epoch
pub body_counts : (k : ℕ) (duty : Duty) → IsDuty duty → is_body k (body duty) ≡ true → duty.epoch ≡ suc k
unfolding is_body
body_counts k duty h is = by_test (duty.epoch == k + 1) refl (sym (ap is_some (duty_read k duty h)) ∙ is)
  where
    by_test : (b : Bool) → (duty.epoch == k + 1) ≡ b → is_some (when b duty) ≡ true → duty.epoch ≡ suc k
    by_test true same some = grind (arith, nat_tests, same)
    by_test false same some = cc

-- a body is that of one duty
pub one_duty : (duty other : Duty) → IsDuty duty → IsDuty other → body duty ≡ body other → duty ≡ other
one_duty duty other h g same =
    let epochs = some_is _ _ (sym (number_of_body duty h) ∙ ap number_at same ∙ number_of_body other g) in
    let letters = some_is _ _ (sym (letter_again duty.holder (behind_holder duty)) ∙ ap (λ (x : ℕ × List ℕ). front 1 x.1) epochs ∙ letter_again other.holder (behind_holder other)) in
    let holders = some_is _ _ (sym (node_again duty.holder) ∙ ap (λ (x : List ℕ × List ℕ). node_of x.0) letters ∙ node_again other.holder) in
    let modes = some_is _ _ (sym (mode_again duty.mode (behind_mode duty)) ∙ ap (λ (x : List ℕ × List ℕ). mode_at x.1) letters ∙ mode_again other.mode (behind_mode other)) in
    let floors = some_is _ _ (sym (number_again duty.floor (replicate 21 0) h.1) ∙ ap (λ (x : Mode × List ℕ). number_at x.1) modes ∙ number_again other.floor (replicate 21 0) g.1) in
    λ i. record { epoch = (epochs i).0; holder = holders i; mode = (modes i).0; floor = (floors i).0 }
