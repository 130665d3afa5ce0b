-- One message by numbers and epochs alone: what its answer says of the two journals, and that the way to the end grows shorter.
use Rattle.std.proofs.Common.{◌≡◌, ◌⊎◌, inl, inr, ℕ, suc, ◌+◌, ◌-◌, ◌*◌, ◌<◌, ◌≤◌, List, [], ◌∷◌, ◌++◌, length, take, refl, sym, ap, subst, ◌∙◌, arith, Option, Some, None, Bool, true, false, nat_lt, ◌==◌}
use Rattle.std.specs.Prelude.{slice_index, not, ◌&&◌, ◌||◌, if◌then◌else◌}
use Rattle.std.proofs.lemmas.Bool.{and_parts, cond_both, cond-true, cond-false}
use Rattle.std.proofs.lemmas.Bool.Decides.{nat_tests}
use Rattle.std.proofs.lemmas.List.{length-take-le, length_push, get_or-take, get_or_push}
use Rattle.pair_node.specs.Decisions.{decision, decision_in, differs, goes_on}
use Rattle.pair_node.specs.declared.message.Delivered.{Delivered}
use Rattle.pair_node.specs.declared.message.Delivered.TheVariants as delivered
use Rattle.pair_node.specs.declared.message.Message.{Message}
use Rattle.pair_node.specs.declared.message.What.{What}
use Rattle.pair_node.specs.declared.message.What.TheVariants as telling

-- the frame before this number has one epoch in both journals, or there is none before
abbrev pub SameBefore : List ℕ → List ℕ → ℕ → Type 0
SameBefore xs ys k = 2 ≤ k → slice_index ys (k - 1 - 1) ≡ slice_index xs (k - 1 - 1)

-- the frames from this number on were cut, or those from the one before, which was another
abbrev pub CutHere : List ℕ → List ℕ → ℕ → ℕ → Type 0
CutHere ys zs k j = (j ≡ k) × (k ≤ length ys) × (zs ≡ take (k - 1) ys)

abbrev pub CutBefore : List ℕ → List ℕ → List ℕ → ℕ → ℕ → Type 0
CutBefore xs ys zs k j =
    (2 ≤ k) × (j ≡ k - 1) × (k - 1 ≤ length ys) × (slice_index ys (k - 1 - 1) ≡ slice_index xs (k - 1 - 1) → ⊥) × (zs ≡ take (k - 1 - 1) ys)

-- What the answer to message k says: the epochs of the sender are xs; those of the receiver are ys before it and zs after it.
abbrev pub Says : List ℕ → List ℕ → List ℕ → ℕ → Delivered → Type 0
Says xs ys zs k (delivered.Stale epoch known) = ⊥
Says xs ys zs k (delivered.Behind len number) = (length ys < k - 1)
Says xs ys zs k (delivered.Cut j) = CutHere ys zs k j ⊎ CutBefore xs ys zs k j
Says xs ys zs k (delivered.Stored ack) = (ack.number ≡ k) × (k ≤ length xs) × (length ys ≡ k - 1) × SameBefore xs ys k × (zs ≡ ys ++ slice_index xs (k - 1) ∷ [])
Says xs ys zs k (delivered.Have ack) = (ack.number ≡ k) × (k ≤ length xs) × (k ≤ length ys) × (slice_index ys (k - 1) ≡ slice_index xs (k - 1)) × (zs ≡ ys)
Says xs ys zs k (delivered.HaveEnd ack) = (ack.number ≡ k) × (ack.end ≡ true) × (k ≡ suc (length xs)) × (k - 1 ≤ length ys) × SameBefore xs ys k × (zs ≡ ys)
Says xs ys zs k (delivered.Acked ack) = ⊥

-- the epochs after an answer
abbrev pub epochs_after : List ℕ → Delivered → What → List ℕ
epochs_after es (delivered.Stored ack) (telling.Entry epoch entry) = es ++ epoch ∷ []
epochs_after es (delivered.Stored ack) telling.End = es
epochs_after es (delivered.Cut j) what = take (j - 1) es
epochs_after es told what = es

-- what message k tells, by the epochs of its sender
abbrev pub IsTold : List ℕ → ℕ → What → Type 0
IsTold xs k (telling.Entry epoch entry) = (k ≤ length xs) × (epoch ≡ slice_index xs (k - 1))
IsTold xs k telling.End = k ≡ length xs + 1

module _ (xs ys zs : List ℕ) (m : Message) (low : 1 ≤ m.number) (before : 2 ≤ m.number → m.before ≡ slice_index xs (m.number - 1 - 1)) where
  not_apart : (a : Bool) (same : Bool) → (a && not same) ≡ false → a ≡ true → same ≡ true
  not_apart true true e is = refl
  not_apart true false e is = absurd (cc)
  not_apart false same e is = absurd (cc)

  not_true : (b : Bool) → not b ≡ true → b ≡ false
  not_true true e = absurd (cc)
  not_true false e = refl

  same_before : differs ys m ≡ false → SameBefore xs ys m.number
  same_before e two =
      let later : nat_lt 0 (m.number - 1) ≡ true = grind (arith, nat_tests) in
      let same : (slice_index ys (m.number - 1 - 1) == m.before) ≡ true = not_apart (nat_lt 0 (m.number - 1)) (slice_index ys (m.number - 1 - 1) == m.before) e later in
      let is : slice_index ys (m.number - 1 - 1) ≡ m.before = grind (arith, nat_tests) in
      is ∙ before two

  apart_before : differs ys m ≡ true → (2 ≤ m.number) × (slice_index ys (m.number - 1 - 1) ≡ slice_index xs (m.number - 1 - 1) → ⊥)
  apart_before e =
      let parts = and_parts (nat_lt 0 (m.number - 1)) (not (slice_index ys (m.number - 1 - 1) == m.before)) e in
      let later : nat_lt 0 (m.number - 1) ≡ true = parts.0 in
      let two : 2 ≤ m.number = grind (arith, nat_tests) in
      let apart : (slice_index ys (m.number - 1 - 1) == m.before) ≡ false = not_true (slice_index ys (m.number - 1 - 1) == m.before) parts.1 in
      let is = before two in
      (two, λ same. apart_numbers (slice_index ys (m.number - 1 - 1)) m.before apart (same ∙ sym is))
    where
      apart_numbers : (a b : ℕ) → (a == b) ≡ false → a ≡ b → ⊥
      apart_numbers a b e same = grind (arith, nat_tests)

  cut_before : differs ys m ≡ true → m.number - 1 ≤ length ys → zs ≡ take (m.number - 1 - 1) ys → Says xs ys zs m.number (delivered.Cut (m.number - 1))
  cut_before e fits left = let apart = apart_before e in inr (apart.0, refl, fits, apart.1, left)

  says_in : (what : What) → IsTold xs m.number what → m.number - 1 ≤ length ys → zs ≡ epochs_after ys (decision_in ys m what) what → Says xs ys zs m.number (decision_in ys m what)
  says_in (telling.Entry epoch entry) is fits =
      cond_both (nat_lt (m.number - 1) (length ys)) _ _ (λ (d : Delivered). zs ≡ epochs_after ys d (telling.Entry epoch entry) → Says xs ys zs m.number d)
      (λ more. cond_both (slice_index ys (m.number - 1) == epoch) _ _ (λ (d : Delivered). zs ≡ epochs_after ys d (telling.Entry epoch entry) → Says xs ys zs m.number d)
      (λ same left. (refl, is.0, long more, equal (slice_index ys (m.number - 1)) epoch same ∙ is.1, left))
      (λ apart left. inl (refl, long more, left)))
      (λ short. cond_both (differs ys m) _ _ (λ (d : Delivered). zs ≡ epochs_after ys d (telling.Entry epoch entry) → Says xs ys zs m.number d)
      (λ apart left. cut_before apart fits left)
      (λ same left. (refl, is.0, last short, same_before same, left ∙ ap (λ (e : ℕ). ys ++ e ∷ []) is.1)))
    where
      long : nat_lt (m.number - 1) (length ys) ≡ true → m.number ≤ length ys
      long more = grind (arith, nat_tests)

      last : nat_lt (m.number - 1) (length ys) ≡ false → length ys ≡ m.number - 1
      last short = grind (arith, nat_tests)

      equal : (a b : ℕ) → (a == b) ≡ true → a ≡ b
      equal a b e = grind (arith, nat_tests)
  says_in telling.End is fits =
      cond_both (differs ys m) _ _ (λ (d : Delivered). zs ≡ epochs_after ys d telling.End → Says xs ys zs m.number d)
      (λ apart left. cut_before apart fits left)
      (λ same. cond_both (goes_on ys m) _ _ (λ (d : Delivered). zs ≡ epochs_after ys d telling.End → Says xs ys zs m.number d)
      (λ more left. inl (refl, long more, left))
      (λ end left. (refl, refl, omega (arith, is), fits, same_before same, left)))
    where
      long : goes_on ys m ≡ true → m.number ≤ length ys
      long more =
          let parts = and_parts (nat_lt (m.number - 1) (length ys)) _ more in
          let is : nat_lt (m.number - 1) (length ys) ≡ true = parts.0 in
          grind (arith, nat_tests)

  -- what the decision says
  pub says : IsTold xs m.number m.what → zs ≡ epochs_after ys (decision ys m) m.what → Says xs ys zs m.number (decision ys m)
  unfolding decision
  says is =
      cond_both (nat_lt (length ys) (m.number - 1)) _ _ (λ (d : Delivered). zs ≡ epochs_after ys d m.what → Says xs ys zs m.number d)
      (λ short left. grind (arith, nat_tests))
      (λ fits left. says_in m.what is (grind (arith, nat_tests)) left)

-- ---- the way to the end

-- where there is a frame before, the two have one epoch there
same_there : List ℕ → List ℕ → ℕ → Bool
same_there xs ys k = nat_lt k 2 || (slice_index ys (k - 1 - 1) == slice_index xs (k - 1 - 1))

-- How far it is to the end. Where the frames before the number agree: two for each number that is left, and one where a frame may have to be cut first. Where they do not, more than that, and one for each frame that may have to be cut.
distance : List ℕ → List ℕ → ℕ → ℕ
distance xs ys k =
    if same_there xs ys k
    then 1 + 2 * (suc (length xs) - k) + (if nat_lt (length ys) k then 0 else 1)
    else 4 + 2 * length xs + length ys

-- how far it is from this number, none for the end
pub distance_to : List ℕ → List ℕ → Option ℕ → ℕ
distance_to xs ys None = 0
distance_to xs ys (Some k) = distance xs ys k

or_parts : (a b : Bool) → (a || b) ≡ true → (a ≡ true) ⊎ (b ≡ true)
or_parts true b e = inl refl
or_parts false b e = inr e

or_first : (a b : Bool) → a ≡ true → (a || b) ≡ true
or_first a b e = ap (λ (c : Bool). c || b) e

or_second : (a b : Bool) → b ≡ true → (a || b) ≡ true
or_second true b e = refl
or_second false b e = e

same_test : (a b : ℕ) → a ≡ b → (a == b) ≡ true
same_test a b e = grind (arith, nat_tests)

test_same : (a b : ℕ) → (a == b) ≡ true → a ≡ b
test_same a b e = grind (arith, nat_tests)

is_below : (a b : ℕ) → a < b → nat_lt a b ≡ true
is_below a b e = grind (arith, nat_tests)

not_below : (a b : ℕ) → b ≤ a → nat_lt a b ≡ false
not_below a b e = grind (arith, nat_tests)

below_is : (a b : ℕ) → nat_lt a b ≡ true → a < b
below_is a b e = grind (arith, nat_tests)

below_or_not : (a b : ℕ) → (a < b) ⊎ (b ≤ a)
below_or_not a b = grind arith

a_bit : (b : Bool) → (if b then 0 else 1) ≤ 1
a_bit true = omega arith
a_bit false = omega arith

module _ (xs ys : List ℕ) (k : ℕ) where
  there_is : SameBefore xs ys k → same_there xs ys k ≡ true
  unfolding same_there
  there_is same = elim (below_or_not k 2) [
    | inl first ↦ or_first (nat_lt k 2) _ (is_below k 2 first)
    | inr later ↦ or_second (nat_lt k 2) _ (same_test _ _ (same later))
  ]

  is_there : same_there xs ys k ≡ true → SameBefore xs ys k
  unfolding same_there
  is_there e two = elim (or_parts (nat_lt k 2) _ e) [
    | inl first ↦ absurd (let low = below_is k 2 first in omega arith)
    | inr same ↦ test_same _ _ same
  ]

  near : SameBefore xs ys k → distance xs ys k ≡ 1 + 2 * (suc (length xs) - k) + (if nat_lt (length ys) k then 0 else 1)
  unfolding distance
  near same = cond-true (same_there xs ys k) _ _ (there_is same)

  far : same_there xs ys k ≡ false → distance xs ys k ≡ 4 + 2 * length xs + length ys
  unfolding distance
  far apart = cond-false (same_there xs ys k) _ _ apart

  near_top : 1 ≤ k → SameBefore xs ys k → distance xs ys k ≤ 2 + 2 * length xs
  near_top low same = let bit = a_bit (nat_lt (length ys) k) in let is = near same in omega arith

  by_test : (b : Bool) → same_there xs ys k ≡ b → (SameBefore xs ys k) ⊎ (same_there xs ys k ≡ false)
  by_test true e = inl (is_there e)
  by_test false e = inr e

  same_or_apart : (SameBefore xs ys k) ⊎ (same_there xs ys k ≡ false)
  same_or_apart = by_test (same_there xs ys k) refl

  positive : 0 < distance xs ys k
  positive = elim same_or_apart [
    | inl same ↦ let is = near same in omega arith
    | inr apart ↦ let is = far apart in omega arith
  ]

  apart_is : (SameBefore xs ys k → ⊥) → same_there xs ys k ≡ false
  apart_is not_same = elim same_or_apart [ inl same ↦ absurd (not_same same) | inr apart ↦ apart ]

module _ (xs ys zs : List ℕ) (k : ℕ) (low : 1 ≤ k) where
  front_same : zs ≡ take (k - 1) ys → 2 ≤ k → slice_index zs (k - 1 - 1) ≡ slice_index ys (k - 1 - 1)
  front_same left two = ap (λ (l : List ℕ). slice_index l (k - 1 - 1)) left ∙ get_or-take (k - 1) ys (k - 1 - 1) 0 (omega arith)

  front_long : (n : ℕ) → n ≤ length ys → zs ≡ take n ys → length zs ≡ n
  front_long n fits left = ap length left ∙ length-take-le n ys fits

  cut_here_closer : k ≤ length ys → zs ≡ take (k - 1) ys → distance xs zs k < distance xs ys k
  cut_here_closer long left =
      let short : length zs ≡ k - 1 = front_long (k - 1) (omega arith) left in
      elim (same_or_apart xs ys k) [
        | inl same ↦
            let still : SameBefore xs zs k = λ two. front_same left two ∙ same two in
            let was : distance xs ys k ≡ 1 + 2 * (suc (length xs) - k) + 1 = near xs ys k same ∙ ap (λ (b : Bool). 1 + 2 * (suc (length xs) - k) + (if b then 0 else 1)) (not_below (length ys) k long) in
            let is : distance xs zs k ≡ 1 + 2 * (suc (length xs) - k) + 0 = near xs zs k still ∙ ap (λ (b : Bool). 1 + 2 * (suc (length xs) - k) + (if b then 0 else 1)) (is_below (length zs) k (omega arith)) in
            omega arith
        | inr apart ↦
            let still : same_there xs zs k ≡ false = apart_is xs zs k (λ same. absurd_by (there_is xs ys k (λ two. sym (front_same left two) ∙ same two)) apart) in
            let was = far xs ys k apart in
            let is = far xs zs k still in
            omega arith
      ]
    where
      absurd_by : same_there xs ys k ≡ true → same_there xs ys k ≡ false → ⊥
      absurd_by e f = absurd (cc)

  cut_before_closer : 2 ≤ k → k - 1 ≤ length ys → (slice_index ys (k - 1 - 1) ≡ slice_index xs (k - 1 - 1) → ⊥) → zs ≡ take (k - 1 - 1) ys → distance xs zs (k - 1) < distance xs ys k
  cut_before_closer two long apart left =
      let short : length zs ≡ k - 1 - 1 = front_long (k - 1 - 1) (omega arith) left in
      let was = far xs ys k (apart_is xs ys k (λ same. apart (same two))) in
      elim (same_or_apart xs zs (k - 1)) [
        | inl same ↦ let top = near_top xs zs (k - 1) (omega arith) same in omega arith
        | inr still ↦ let is = far xs zs (k - 1) still in omega arith
      ]

  -- the frame of this number is there now
  next_same : slice_index zs (k - 1) ≡ slice_index xs (k - 1) → SameBefore xs zs (k + 1)
  next_same same two =
      let back : k + 1 - 1 - 1 ≡ k - 1 = omega arith in
      ap (slice_index zs) back ∙ same ∙ ap (slice_index xs) (sym back)

  next_closer : k ≤ length xs → slice_index zs (k - 1) ≡ slice_index xs (k - 1) → 1 + 2 * (suc (length xs) - k) ≤ distance xs ys k → distance xs zs (k + 1) < distance xs ys k
  next_closer fits same was =
      let is = near xs zs (k + 1) (next_same same) in
      let bit = a_bit (nat_lt (length zs) (k + 1)) in
      omega arith

  at_least : 1 + 2 * (suc (length xs) - k) ≤ distance xs ys k
  at_least = elim (same_or_apart xs ys k) [
    | inl same ↦ let is = near xs ys k same in omega arith
    | inr apart ↦ let is = far xs ys k apart in omega arith
  ]

  stored_same : length ys ≡ k - 1 → zs ≡ ys ++ slice_index xs (k - 1) ∷ [] → slice_index zs (k - 1) ≡ slice_index xs (k - 1)
  stored_same long left = ap (λ (l : List ℕ). slice_index l (k - 1)) left ∙ get_or_push ys (slice_index xs (k - 1)) 0 (k - 1) long

  stored_long : length ys ≡ k - 1 → zs ≡ ys ++ slice_index xs (k - 1) ∷ [] → length zs ≡ k
  stored_long long left = let e = ap length left ∙ length_push ys (slice_index xs (k - 1)) in omega arith

-- the number after an answer; none after the end
abbrev pub after : Delivered → Option ℕ
after (delivered.Stale epoch known) = None
after (delivered.Behind len number) = Some (len + 1)
after (delivered.Cut j) = Some j
after (delivered.Stored ack) = Some (ack.number + 1)
after (delivered.Have ack) = Some (ack.number + 1)
after (delivered.HaveEnd ack) = None
after (delivered.Acked ack) = None

-- the number is one of a frame of both journals, or of the one after those of one of them
abbrev pub Within : List ℕ → List ℕ → Option ℕ → Type 0
Within xs ys None = Unit {0}
Within xs ys (Some k) = (1 ≤ k) × (k ≤ length xs + 1) × (k ≤ length ys + 1)

module _ (xs ys zs : List ℕ) (k : ℕ) (within : Within xs ys (Some k)) where
  -- each answer leads nearer to the end
  pub closer : (it : Delivered) → Says xs ys zs k it → distance_to xs zs (after it) < distance_to xs ys (Some k)
  unfolding distance_to
  closer (delivered.Stale epoch known) says = absurd says
  closer (delivered.Behind len number) says = absurd (omega (arith, says, within.0, within.2))
  closer (delivered.Cut j) (inl here) = subst (λ (n : ℕ). distance xs zs n < distance xs ys k) (sym here.0) (cut_here_closer xs ys zs k within.0 here.1 here.2)
  closer (delivered.Cut j) (inr before) = subst (λ (n : ℕ). distance xs zs n < distance xs ys k) (sym before.1) (cut_before_closer xs ys zs k within.0 before.0 before.2 before.3 before.4)
  closer (delivered.Stored ack) says = subst (λ (n : ℕ). distance xs zs (n + 1) < distance xs ys k) (sym says.0)
      (next_closer xs ys zs k within.0 says.1 (stored_same xs ys zs k within.0 says.2 says.4) (at_least xs ys zs k within.0))
  closer (delivered.Have ack) says = subst (λ (n : ℕ). distance xs zs (n + 1) < distance xs ys k) (sym says.0)
      (next_closer xs ys zs k within.0 says.1 (ap (λ (l : List ℕ). slice_index l (k - 1)) says.4 ∙ says.3) (at_least xs ys zs k within.0))
  closer (delivered.HaveEnd ack) says = positive xs ys k
  closer (delivered.Acked ack) says = absurd says

  -- and the number after it is within the journals
  pub stays_within : (it : Delivered) → Says xs ys zs k it → Within xs zs (after it)
  stays_within (delivered.Stale epoch known) says = absurd says
  stays_within (delivered.Behind len number) says = absurd (omega (arith, says, within.0, within.2))
  stays_within (delivered.Cut j) (inl here) =
      let short = front_long xs ys zs k within.0 (k - 1) (omega (arith, here.1)) here.2 in
      (omega (arith, here.0, within.0), omega (arith, here.0, within.1), omega (arith, here.0, short, within.0))
  stays_within (delivered.Cut j) (inr before) =
      let short = front_long xs ys zs k within.0 (k - 1 - 1) (omega (arith, before.2)) before.4 in
      (omega (arith, before.0, before.1), omega (arith, before.1, within.1), omega (arith, before.0, before.1, short))
  stays_within (delivered.Stored ack) says =
      let long = stored_long xs ys zs k within.0 says.2 says.4 in
      (omega arith, omega (arith, says.0, says.1), omega (arith, says.0, long))
  stays_within (delivered.Have ack) says =
      let long : length zs ≡ length ys = ap length says.4 in
      (omega arith, omega (arith, says.0, says.1), omega (arith, says.0, says.2, long))
  stays_within (delivered.HaveEnd ack) says = tt
  stays_within (delivered.Acked ack) says = absurd says
