-- A word shows the front that it was made of, and a step on it shows the next one.
use Rattle.std.proofs.Common.{◌≡◌, ℕ, ◌+◌, ◌*◌, ◌/◌, ◌%◌, ◌<◌, ◌≤◌, refl, ap, ◌∙◌, arith}
use Rattle.std.specs.Prelude.{◌-◌, if◌then◌else◌, nat_lt, ◌==◌}
use Rattle.ali_base.specs.declared.duty.Mode.{Mode}
use Rattle.ali_base.specs.declared.duty.Mode.TheVariants.{Both, Alone}
use Rattle.ali_base.specs.declared.names.NodeName.{NodeName}
use Rattle.ali_base.specs.declared.names.NodeName.TheVariants.{A, B}
use Rattle.ali_base.specs.declared.duty.Duty.{Duty}
use Rattle.board.specs.declared.front.Front.{Front}
use Rattle.board.specs.FrontWord.{duty_number, front_under, word_of, front_of, FitsWord, IsNoEarlier}

parts : (e k n : ℕ) → k < 4 → n ≤ 1000000 → let w = e * 67108864 + k * 16777216 + n in (w / 67108864 ≡ e) × (w / 16777216 % 4 ≡ k) × (w / 16777216 % 2 ≡ k % 2) × (w % 16777216 ≡ n)
parts e k n k4 small = (omega arith, omega arith, omega arith, omega arith)

shown : (e k n : ℕ) (h : NodeName) (m : Mode) → k < 4 → n ≤ 1000000 → (if k % 2 == 0 then A else B) ≡ h → (if nat_lt k 2 then Both else Alone) ≡ m
    → front_of (e * 67108864 + k * 16777216 + n) ≡ record { epoch = e; holder = h; mode = m; count = n }
shown e k n h m k4 small hh mm =
    let p = parts e k n k4 small in
    let is_holder = ap (λ (x : ℕ). if x == 0 then A else B) p.2 ∙ hh in
    let is_mode = ap (λ (x : ℕ). if nat_lt x 2 then Both else Alone) p.1 ∙ mm in
    λ i. record { epoch = p.0 i; holder = is_holder i; mode = is_mode i; count = p.3 i }

-- the word of a front shows it
pub front_of_word : (f : Front) → FitsWord f → front_of (word_of f) ≡ f
front_of_word f fits = by f.epoch f.holder f.mode f.count fits.0
  where
    by : (e : ℕ) (h : NodeName) (m : Mode) (n : ℕ) → n ≤ 1000000 → front_of (word_of record { epoch = e; holder = h; mode = m; count = n }) ≡ record { epoch = e; holder = h; mode = m; count = n }
    by e A Both n le = shown e 0 n A Both (omega arith) le refl refl
    by e B Both n le = shown e 1 n B Both (omega arith) le refl refl
    by e A Alone n le = shown e 2 n A Alone (omega arith) le refl refl
    by e B Alone n le = shown e 3 n B Alone (omega arith) le refl refl

duty_below : (h : NodeName) (m : Mode) → duty_number h m < 4
duty_below A Both = omega arith
duty_below B Both = omega arith
duty_below A Alone = omega arith
duty_below B Alone = omega arith

word_below : (f : Front) → FitsWord f → word_of f < 18446744073709551616
word_below f fits = let d = duty_below f.holder f.mode in let a = fits.0 in let b = fits.1 in omega arith

-- a word becomes that of another front by what it lacks of it
pub word_after : (f g : Front) (k : ℕ) → FitsWord g → word_of f + k ≡ word_of g → (word_of f + k) % 18446744073709551616 ≡ word_of g
word_after f g k fits is = let w = word_below g fits in omega arith

-- the word of the next epoch is above that of this one
pub word_of_next : (d e : Duty) (n a b : ℕ) → e.epoch ≡ d.epoch + 1 → a ≡ word_of (front_under d n) → b ≡ word_of (front_under e n) → word_of (front_under d n) + (b - a) ≡ word_of (front_under e n)
word_of_next d e n a b next is are = let x = duty_below d.holder d.mode in let y = duty_below e.holder e.mode in omega arith

pub no_earlier_self : (f : Front) → IsNoEarlier f f
no_earlier_self f = (omega arith, omega arith, λ _. (refl, refl))

pub no_earlier_trans : (f g h : Front) → IsNoEarlier f g → IsNoEarlier g h → IsNoEarlier f h
no_earlier_trans f g h p q = (
  omega (arith, p.0, q.0),
  omega (arith, p.1, q.1),
  λ same.
      let first = p.2 (omega (arith, p.1, q.1, same)) in
      let second = q.2 (omega (arith, p.1, q.1, same)) in
      (second.0 ∙ first.0, second.1 ∙ first.1),
)

-- a duty of the next epoch is later
pub no_earlier_next : (d e : Duty) (n : ℕ) → e.epoch ≡ d.epoch + 1 → IsNoEarlier (front_under d n) (front_under e n)
no_earlier_next d e n next = (omega arith, omega (arith, next), λ same. absurd (omega (arith, next, same)))

-- so are more entries under one duty
pub no_earlier_more : (d : Duty) (n m : ℕ) → n ≤ m → IsNoEarlier (front_under d n) (front_under d m)
no_earlier_more d n m le = (le, omega arith, λ _. (refl, refl))
