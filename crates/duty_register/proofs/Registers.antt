-- Registers as logs.
use Rattle.std.proofs.Common.{◌≡◌, inl, inr, ℕ, suc, ◌+◌, ◌^◌, ◌<◌, List, [], ◌∷◌, ◌++◌, length, map, append_assoc, refl, sym, ap, subst, ◌∙◌, arith}
use Rattle.std.specs.Prelude.{All}
use Rattle.std.proofs.lemmas.List.{append-nil, length-append, take_at, drop_at, map-append, reverse-append}
use Rattle.std.proofs.lemmas.List.Elements.{All-nil, All-cons, All-head, All-tail, All-take, All-drop}
use Rattle.ali_base.proofs.FrontsAgain.{all_bytes}
use Rattle.ali_base.specs.Fronts.{AreBytes}
use Rattle.ali_base.specs.declared.duty.Duty.{Duty}
use Rattle.commit_log.specs.LogImage.{AreBodies, committed, committed_frames}
use Rattle.commit_log.specs.LogImage as log
use Rattle.commit_log.specs.LogState as kept
use Rattle.crash_disk.specs.DiskState.{DiskState}
use Rattle.crash_disk.specs.Moments.{EachMoment}
use Rattle.crash_disk.proofs.Runs.{weaker}
use Rattle.pair_world.specs.SoundWorld.{AreCounted}
use Rattle.ali_base.specs.Duties.{first_duty}
use Rattle.pair_world.specs.World.{duty_list}
use Rattle.duty_register.specs.DutyBytes.{IsDuty, body, is_body}
use Rattle.duty_register.specs.DutyImage.{AreChanges, StandsFor, first_block}
use Rattle.duty_register.specs.DutyState.{KeepsDuties, StandsForEither}
use Rattle.duty_register.proofs.DutiesOfBytes.{body_counts, body_found, one_duty}

-- ---- lists

head_same : (a b : Duty) (x y : List Duty) → a ∷ x ≡ b ∷ y → a ≡ b
head_same a b x y h = cc

tail_same : (a b : Duty) (x y : List Duty) → a ∷ x ≡ b ∷ y → x ≡ y
tail_same a b x y h = cc

head_bytes : (a b : List ℕ) (x y : List (List ℕ)) → a ∷ x ≡ b ∷ y → a ≡ b
head_bytes a b x y h = cc

tail_bytes : (a b : List ℕ) (x y : List (List ℕ)) → a ∷ x ≡ b ∷ y → x ≡ y
tail_bytes a b x y h = cc

-- ---- changes

pub changes_push : (epoch : ℕ) (changes : List Duty) (duty : Duty) → AreChanges epoch changes → IsDuty duty → duty.epoch ≡ epoch + length changes + 1 → AreChanges epoch (changes ++ duty ∷ [])
changes_push epoch [] duty counted h is = (h, omega (arith, is), tt)
changes_push epoch (d ∷ changes) duty counted h is = (counted.0, counted.1, changes_push (suc epoch) changes duty counted.2 h (omega (arith, is)))

pub bodies_push : (changes : List Duty) (duty : Duty) → map body (changes ++ duty ∷ []) ≡ map body changes ++ body duty ∷ []
bodies_push changes duty = map-append body changes (duty ∷ [])

-- the last duty has the epoch of the first and the count of changes
pub last_counts : (first : Duty) (epoch : ℕ) (changes past : List Duty) (duty : Duty) → first.epoch ≡ epoch → AreChanges epoch changes → first ∷ changes ≡ past ++ duty ∷ [] → duty.epoch ≡ epoch + length changes
last_counts first epoch [] [] duty is counted same =
    let one : first ≡ duty = head_same first duty [] [] same in omega (arith, is, ap (λ (d : Duty). d.epoch) one)
last_counts first epoch [] (p ∷ past) duty is counted same = absurd (omega (arith, ap length same, length-append past (duty ∷ [])))
last_counts first epoch (c ∷ changes) [] duty is counted same = absurd (omega (arith, ap length same))
last_counts first epoch (c ∷ changes) (p ∷ past) duty is counted same =
    omega (arith, last_counts c (suc epoch) changes past duty counted.1 counted.2 (tail_same first p (c ∷ changes) (past ++ duty ∷ []) same))

pub one_list : (epoch : ℕ) (changes others : List Duty) → AreChanges epoch changes → AreChanges epoch others → map body changes ≡ map body others → changes ≡ others
one_list epoch [] [] h g same = refl
one_list epoch [] (d ∷ others) h g same = absurd (omega (arith, ap length same))
one_list epoch (d ∷ changes) [] h g same = absurd (omega (arith, ap length same))
one_list epoch (d ∷ changes) (e ∷ others) h g same =
    let first : d ≡ e = one_duty d e h.0 g.0 (head_bytes (body d) (body e) (map body changes) (map body others) same) in
    let rest : changes ≡ others = one_list (suc epoch) changes others h.2 g.2 (tail_bytes (body d) (body e) (map body changes) (map body others) same) in
    λ i. first i ∷ rest i

-- duties whose bodies are those of a log count on
pub changes_are : (n k : ℕ) (changes : List Duty) → All IsDuty changes → AreBodies is_body n k (map body changes) → AreChanges k changes
changes_are n k [] lawful bodies = tt
changes_are n k (d ∷ changes) lawful bodies =
    let here = All-head IsDuty d changes lawful in
    (here, body_counts k d here bodies.1, changes_are n (suc k) changes (All-tail IsDuty d changes lawful) bodies.2)

-- ---- the same list, the newest first

-- some duty and those before it, which are counted
pub record Newest (duties : List Duty) : Type 0 where
  pub duty : Duty
  pub past : List Duty
  pub listed : duties ≡ duty_list duty past
  pub counted : AreCounted duty past

pub newest : (duty : Duty) (past changes : List Duty) → AreCounted duty past → AreChanges duty.epoch changes → Newest (duty_list duty past ++ changes)
newest duty past [] counted rest = record { duty = duty; past = past; listed = append-nil (duty_list duty past); counted = counted }
newest duty past (c ∷ changes) counted rest =
    let here : duty_list duty past ++ c ∷ [] ≡ duty_list c (duty ∷ past) = sym (reverse-append (c ∷ []) (duty ∷ past)) in
    let split : duty_list duty past ++ c ∷ changes ≡ duty_list c (duty ∷ past) ++ changes = sym (append_assoc (duty_list duty past) (c ∷ []) changes) ∙ ap (λ (l : List Duty). l ++ changes) here in
    subst Newest (sym split) (newest c (duty ∷ past) changes (rest.1, counted) (subst (λ (e : ℕ). AreChanges e changes) (sym rest.1) rest.2))

-- ---- bodies that were read are those of duties

-- duties with these bodies
pub record Changes (epoch : ℕ) (bodies : List (List ℕ)) : Type 0 where
  pub changes : List Duty
  pub counted : AreChanges epoch changes
  pub bodies_are : bodies ≡ map body changes

pub bodies_found : (n k : ℕ) (bodies : List (List ℕ)) → All AreBytes bodies → AreBodies is_body n k bodies → Changes k bodies
bodies_found n k [] bytes lawful = record { changes = []; counted = tt; bodies_are = refl }
bodies_found n k (x ∷ bodies) bytes lawful =
    let here = body_found k x (all_bytes x (All-head AreBytes x bodies bytes)) lawful.1 in
    let rest = bodies_found n (suc k) bodies (All-tail AreBytes x bodies bytes) lawful.2 in
    record {
      changes = here.0 ∷ rest.changes;
      counted = (here.1.lawful, omega (arith, here.1.counted), rest.counted);
      bodies_are = λ i. here.1.spelled i ∷ rest.bodies_are i;
    }

left_bytes : (xs ys : List ℕ) → AreBytes (xs ++ ys) → AreBytes xs
left_bytes xs ys h = subst AreBytes (take_at xs ys (length xs) refl) (All-take (λ byte. byte < 2 ^ 8) (length xs) (xs ++ ys) h)

right_bytes : (xs ys : List ℕ) → AreBytes (xs ++ ys) → AreBytes ys
right_bytes xs ys h = subst AreBytes (drop_at xs ys (length xs) refl) (All-drop (λ byte. byte < 2 ^ 8) (length xs) (xs ++ ys) h)

frames_bytes : (bodies : List (List ℕ)) → AreBytes (committed_frames bodies) → All AreBytes bodies
frames_bytes [] all = All-nil AreBytes
frames_bytes (x ∷ bodies) all =
    All-cons AreBytes x bodies (All-tail (λ byte. byte < 2 ^ 8) committed x (left_bytes (committed ∷ x) (committed_frames bodies) all)) (frames_bytes bodies (right_bytes (committed ∷ x) (committed_frames bodies) all))

-- the bodies in an image of bytes are bytes
pub image_bytes : (head : List ℕ) (bodies : List (List ℕ)) (rest image : List ℕ) → image ≡ log.log_front head bodies ++ rest → AreBytes image → All AreBytes bodies
image_bytes head bodies rest image parts all =
    frames_bytes bodies (right_bytes head (committed_frames bodies) (left_bytes (log.log_front head bodies) rest (subst AreBytes parts all)))

-- ---- what a disk stands for

pub as_log : (duties : List Duty) (s : DiskState) (k : KeepsDuties duties s) → kept.KeepsBodies is_body first_block (map body k.stands.changes) s
as_log duties s k = record { image = k.image; synced = k.synced; stands = k.stands.logged }

-- the image stands for duties where it is a log of the bodies of their changes
pub stands_from : (duties changes : List Duty) (bodies : List (List ℕ)) (image : List ℕ) → duties ≡ first_duty ∷ changes → AreChanges 1 changes → bodies ≡ map body changes
    → log.StandsFor is_body first_block bodies image → StandsFor duties image
stands_from duties changes bodies image begins counted same stands = record {
  changes = changes;
  begins = begins;
  counted = counted;
  logged = subst (λ (l : List (List ℕ)). log.StandsFor is_body first_block l image) same stands;
}

pub from_log : (duties changes : List Duty) (bodies : List (List ℕ)) (s : DiskState) → duties ≡ first_duty ∷ changes → AreChanges 1 changes → bodies ≡ map body changes
    → kept.KeepsBodies is_body first_block bodies s → KeepsDuties duties s
from_log duties changes bodies s begins counted same k = record { image = k.image; synced = k.synced; stands = stands_from duties changes bodies k.image begins counted same k.stands }

-- a crash at any moment leaves the duties before or after
pub moments : (before after changes others : List Duty) (bodies : List (List ℕ)) (old new : DiskState) → before ≡ first_duty ∷ changes → AreChanges 1 changes
    → after ≡ first_duty ∷ others → AreChanges 1 others → bodies ≡ map body others
    → EachMoment old new (kept.StandsForEither is_body first_block (map body changes) bodies) → EachMoment old new (StandsForEither before after)
moments before after changes others bodies old new b_begins b a_begins a same run = weaker old new _ _ by_case run
  where
    by_case : (image : List ℕ) → kept.StandsForEither is_body first_block (map body changes) bodies image → StandsForEither before after image
    by_case image (inl stands) = inl (stands_from before changes (map body changes) image b_begins b refl stands)
    by_case image (inr stands) = inr (stands_from after others bodies image a_begins a same stands)
