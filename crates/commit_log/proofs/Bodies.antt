-- Bodies of a log, and the bytes of their frames.
use Rattle.std.proofs.Common.{◌≡◌, ℕ, zero, suc, ◌+◌, ◌-◌, ◌*◌, ◌<◌, ◌≤◌, Bool, true, List, [], ◌∷◌, ◌++◌, length, take, drop, Some, refl, sym, ◌∙◌, ap, subst, arith, append_assoc, length-append, length-drop, length-take, take-append-drop}
use Rattle.std.specs.Prelude.{slice_get}
use Rattle.std.proofs.Math.Nat.{mul-suc}
use Rattle.std.proofs.lemmas.List.{append-nil}
use Rattle.std.proofs.lemmas.List.Concat.{flat_map-append}
use Rattle.commit_log.specs.LogImage.{AreBodies, committed_frames, log_front, frame_place, committed}

pub bodies_append : (is_body : ℕ → List ℕ → Bool) (n k j : ℕ) (a b : List (List ℕ)) → j ≡ k + length a → AreBodies is_body n k a → AreBodies is_body n j b → AreBodies is_body n k (a ++ b)
bodies_append is_body n k j [] b there first second = let here : j ≡ k = omega (arith, there) in subst (λ (i : ℕ). AreBodies is_body n i b) here second
bodies_append is_body n k j (x ∷ a) b there first second = (first.0, first.1, bodies_append is_body n (suc k) j a b (omega (arith, there)) first.2 second)

-- one body more
pub bodies_push : (is_body : ℕ → List ℕ → Bool) (n number : ℕ) (bodies : List (List ℕ)) (body : List ℕ) → number ≡ length bodies + 1 → AreBodies is_body n 1 bodies → length body ≡ n → is_body number body ≡ true → AreBodies is_body n 1 (bodies ++ body ∷ [])
bodies_push is_body n number bodies body counts lawful long is = bodies_append is_body n 1 number bodies (body ∷ []) (omega (arith, counts)) lawful (long, is, tt)

pub bodies_take : (is_body : ℕ → List ℕ → Bool) (n k i : ℕ) (bodies : List (List ℕ)) → AreBodies is_body n k bodies → AreBodies is_body n k (take i bodies)
bodies_take is_body n k zero bodies lawful = tt
bodies_take is_body n k (suc i) [] lawful = tt
bodies_take is_body n k (suc i) (x ∷ bodies) lawful = (lawful.0, lawful.1, bodies_take is_body n (suc k) i bodies lawful.2)

pub bodies_drop : (is_body : ℕ → List ℕ → Bool) (n k j i : ℕ) (bodies : List (List ℕ)) → j ≡ k + i → AreBodies is_body n k bodies → AreBodies is_body n j (drop i bodies)
bodies_drop is_body n k j zero bodies there lawful = let here : k ≡ j = omega (arith, there) in subst (λ (m : ℕ). AreBodies is_body n m bodies) here lawful
bodies_drop is_body n k j (suc i) [] there lawful = tt
bodies_drop is_body n k j (suc i) (x ∷ bodies) there lawful = bodies_drop is_body n (suc k) j i bodies (omega (arith, there)) lawful.2

length-committed_frames : (is_body : ℕ → List ℕ → Bool) (n k : ℕ) (bodies : List (List ℕ)) → AreBodies is_body n k bodies → length (committed_frames bodies) ≡ (n + 1) * length bodies
length-committed_frames is_body n k [] lawful = omega arith
length-committed_frames is_body n k (x ∷ bodies) lawful =
    omega (arith, length-append x (committed_frames bodies), lawful.0, length-committed_frames is_body n (suc k) bodies lawful.2, mul-suc (n + 1) (length bodies))

-- where the commit byte of frame k stands
pub length-log_front : (is_body : ℕ → List ℕ → Bool) (n : ℕ) (head : List ℕ) (k : ℕ) (bodies : List (List ℕ)) → length head ≡ n → k ≡ length bodies + 1 → AreBodies is_body n 1 bodies → length (log_front head bodies) + 1 ≡ frame_place n k
length-log_front is_body n head k bodies long counts lawful =
    let here : suc (length bodies) ≡ k = omega (arith, counts) in
    let there : length (log_front head bodies) + 1 ≡ frame_place n (suc (length bodies)) = omega (arith, long, length-append head (committed_frames bodies), length-committed_frames is_body n 1 bodies lawful, mul-suc (n + 1) (length bodies)) in
    there ∙ ap (frame_place n) here

-- the bodies in two parts
pub log_front_append : (head : List ℕ) (a b : List (List ℕ)) → log_front head (a ++ b) ≡ log_front head a ++ committed_frames b
log_front_append head a b = ap (λ (l : List ℕ). head ++ l) (flat_map-append (λ (body : List ℕ). committed ∷ body) a b) ∙ sym (append_assoc head (committed_frames a) (committed_frames b))

-- one body more
pub log_front_push : (head : List ℕ) (bodies : List (List ℕ)) (body : List ℕ) → log_front head (bodies ++ body ∷ []) ≡ log_front head bodies ++ committed ∷ body
log_front_push head bodies body = log_front_append head bodies (body ∷ []) ∙ ap (λ (l : List ℕ). log_front head bodies ++ committed ∷ l) (append-nil body)

-- the commit byte behind some bytes
pub commit_next : (bodies : List (List ℕ)) (next : ℕ) (rest : List ℕ) → (first : ℕ) × (more : List ℕ) × (committed_frames bodies ++ next ∷ rest ≡ first ∷ more)
commit_next [] next rest = (next, rest, refl)
commit_next (x ∷ bodies) next rest = (committed, x ++ committed_frames bodies ++ next ∷ rest, refl)

-- frame k among the bytes: its body, behind its commit byte
pub record StandingBodies (is_body : ℕ → List ℕ → Bool) (head : List ℕ) (bodies : List (List ℕ)) (k : ℕ) (image : List ℕ) : Type 0 where
  pub body : List ℕ
  pub next : ℕ
  pub more : List ℕ
  pub listed : slice_get bodies (k - 1) ≡ Some body
  pub long : length body ≡ length head
  pub place : length (log_front head (take (k - 1) bodies)) + 1 ≡ frame_place (length head) k
  pub parts : image ≡ log_front head (take (k - 1) bodies) ++ committed ∷ (body ++ next ∷ more)

listed_at : (i : ℕ) (xs : List (List ℕ)) (x : List ℕ) (ys : List (List ℕ)) → drop i xs ≡ x ∷ ys → slice_get xs i ≡ Some x
listed_at zero [] x ys is = absurd (omega (arith, ap length is))
listed_at zero (y ∷ xs) x ys is = ap (λ (l : List (List ℕ)). slice_get l 0) is
listed_at (suc i) [] x ys is = absurd (omega (arith, ap length is))
listed_at (suc i) (y ∷ xs) x ys is = listed_at i xs x ys is

-- the first of a list that has one
pub record First (l : List (List ℕ)) : Type 0 where
  pub first : List ℕ
  pub others : List (List ℕ)
  pub is : l ≡ first ∷ others

first_of : (l : List (List ℕ)) → 0 < length l → First l
first_of [] some = absurd (omega (arith, some))
first_of (x ∷ l) some = record { first = x; others = l; is = refl }

pub standing : (is_body : ℕ → List ℕ → Bool) (head : List ℕ) (bodies : List (List ℕ)) (k : ℕ) (image : List ℕ) (next : ℕ) (rest : List ℕ) → 1 ≤ k → k ≤ length bodies → AreBodies is_body (length head) 1 bodies → image ≡ log_front head bodies ++ next ∷ rest → StandingBodies is_body head bodies k image
standing is_body head bodies k image next rest low high lawful parts =
    let front : List (List ℕ) = take (k - 1) bodies in
    let back = first_of (drop (k - 1) bodies) (omega (arith, length-drop (k - 1) bodies, low, high)) in
    let (first, more, is) = commit_next back.others next rest in
    let whole : bodies ≡ front ++ back.first ∷ back.others = sym (take-append-drop (k - 1) bodies) ∙ ap (λ (l : List (List ℕ)). front ++ l) back.is in
    let there : AreBodies is_body (length head) k (back.first ∷ back.others) = subst (AreBodies is_body (length head) k) back.is (bodies_drop is_body (length head) 1 k (k - 1) bodies (omega (arith, low)) lawful) in
    record {
      body = back.first;
      next = first;
      more = more;
      listed = listed_at (k - 1) bodies back.first back.others back.is;
      long = there.0;
      place = length-log_front is_body (length head) head k front refl (omega (arith, length-take (k - 1) bodies, low, high)) (bodies_take is_body (length head) 1 (k - 1) bodies lawful);
      parts =
          parts
          ∙ ap (λ (l : List ℕ). l ++ next ∷ rest) (ap (log_front head) whole ∙ log_front_append head front (back.first ∷ back.others))
          ∙ append_assoc (log_front head front) (committed_frames (back.first ∷ back.others)) (next ∷ rest)
          ∙ ap (λ (l : List ℕ). log_front head front ++ committed ∷ l) (append_assoc back.first (committed_frames back.others) (next ∷ rest) ∙ ap (λ (l : List ℕ). back.first ++ l) is);
    }
