-- Which bodies the bytes of a log stand for.
use Rattle.std.specs.Prelude.{◌≡◌, ◌≢◌, ◌⊎◌, ℕ, suc, ◌+◌, ◌*◌, ◌≤◌, Bool, true, List, [], ◌∷◌, ◌++◌, length}
use Rattle.std.specs.List.{flat_map}

-- where frame k stands, where bodies have n bytes
abbrev pub frame_place : ℕ → ℕ → ℕ
frame_place n k = (n + 1) * k

-- A commit byte of this value, 0xA5, commits the frame behind it. Any other does not.
abbrev pub committed : ℕ
committed = 165

-- these bodies, each behind a byte that commits it
abbrev pub committed_frames : List (List ℕ) → List ℕ
committed_frames bodies = flat_map (λ (body : List ℕ). committed ∷ body) bodies

-- what stands before the commit byte of the next frame: the head, and the frames before that one
abbrev pub log_front : List ℕ → List (List ℕ) → List ℕ
log_front head bodies = head ++ committed_frames bodies

-- Each is the body of its frame, of n bytes. The first of them is that of frame k.
abbrev pub AreBodies : (ℕ → List ℕ → Bool) → ℕ → ℕ → List (List ℕ) → Type 0
AreBodies is_body n k [] = Unit {0}
AreBodies is_body n k (body ∷ bodies) = (length body ≡ n) × (is_body k body ≡ true) × AreBodies is_body n (suc k) bodies

-- The image stands for these bodies: the head, the frames that are committed, a byte that commits nothing, and then anything.
pub record StandsFor (is_body : ℕ → List ℕ → Bool) (head : List ℕ) (bodies : List (List ℕ)) (image : List ℕ) : Type 0 where
  pub next : ℕ
  pub rest : List ℕ
  pub parts : image ≡ log_front head bodies ++ next ∷ rest
  pub uncommitted : next ≢ committed
  pub lawful : AreBodies is_body (length head) 1 bodies

-- The image begins otherwise than with the head and a commit byte: it is shorter than a block, or has another head.
abbrev pub IsForeign : List ℕ → List ℕ → Type 0
IsForeign head image = (next : ℕ) (rest : List ℕ) → image ≢ head ++ next ∷ rest

-- no body of frame k, of n bytes, and the commit byte behind it stand at the front of these bytes
abbrev pub NoFrame : (ℕ → List ℕ → Bool) → ℕ → ℕ → List ℕ → Type 0
NoFrame is_body n k bytes = (body : List ℕ) (next : ℕ) (more : List ℕ) → length body ≡ n → is_body k body ≡ true → bytes ≢ body ++ next ∷ more

-- Frame k is committed, and is not there as a whole, or is past the limit.
pub record IsDamaged (is_body : ℕ → List ℕ → Bool) (head : List ℕ) (limit k : ℕ) (image : List ℕ) : Type 0 where
  pub bodies : List (List ℕ)
  pub rest : List ℕ
  pub parts : image ≡ log_front head bodies ++ committed ∷ rest
  pub lawful : AreBodies is_body (length head) 1 bodies
  pub number : k ≡ length bodies + 1
  pub within : length bodies ≤ limit
  pub broken : (length bodies ≡ limit) ⊎ NoFrame is_body (length head) k rest

-- it stands for some bodies, at most so many
abbrev pub StandsForSome : (ℕ → List ℕ → Bool) → List ℕ → ℕ → List ℕ → Type 0
StandsForSome is_body head limit image = (bodies : List (List ℕ)) × (length bodies ≤ limit) × StandsFor is_body head bodies image

-- it is damaged at some frame
abbrev pub IsDamagedSomewhere : (ℕ → List ℕ → Bool) → List ℕ → ℕ → List ℕ → Type 0
IsDamagedSomewhere is_body head limit image = (k : ℕ) × IsDamaged is_body head limit k image
