-- What a buffer holds of the bytes on a disk.
use Rattle.std.proofs.Common.{◌≡◌, ℕ, ◌-◌, ◌<◌, ◌≤◌, Bool, List, [], ◌∷◌, ◌++◌, length, take, drop, Some, sym, ◌∙◌, ap, arith, append_assoc, length-append, length-take}
use Rattle.std.specs.Prelude.{slice_get}
use Rattle.std.proofs.lemmas.List.{take_all, take_at, drop_at}
use Rattle.commit_log.specs.LogImage.{log_front, frame_place, committed}
use Rattle.commit_log.proofs.Bodies.{StandingBodies}

module _ (is_body : ℕ → List ℕ → Bool) (head : List ℕ) (bodies : List (List ℕ)) (k : ℕ) (image : List ℕ) (s : StandingBodies is_body head bodies k image) where
  -- what stands in the frame's place
  pub behind_place : (place : ℕ) → place ≡ frame_place (length head) k → drop place image ≡ s.body ++ s.next ∷ s.more
  behind_place place is =
      let front : List ℕ = log_front head (take (k - 1) bodies) in
      let parted : image ≡ (front ++ committed ∷ []) ++ (s.body ++ s.next ∷ s.more) = s.parts ∙ sym (append_assoc front (committed ∷ []) (s.body ++ s.next ∷ s.more)) in
      ap (λ (l : List ℕ). drop place l) parted ∙ drop_at (front ++ committed ∷ []) (s.body ++ s.next ∷ s.more) place (omega (arith, is, s.place, length-append front (committed ∷ [])))

  module _ (buffer : List ℕ) (count place : ℕ) (is : place ≡ frame_place (length head) k) (long : length buffer ≡ length head) (read : take count buffer ≡ take (length buffer) (drop place image)) where
    body_read : take count buffer ≡ s.body
    body_read = read ∙ ap (λ (l : List ℕ). take (length buffer) l) (behind_place place is) ∙ take_at s.body (s.next ∷ s.more) (length buffer) (omega (arith, long, s.long))

    pub read_whole : length buffer ≤ count → slice_get bodies (k - 1) ≡ Some buffer
    read_whole many = s.listed ∙ ap (λ (l : List ℕ). Some l) (sym body_read ∙ take_all count buffer many)

    pub not_short : count < length buffer → ⊥
    not_short few = omega (arith, few, long, s.long, length-take count buffer, ap length body_read)
