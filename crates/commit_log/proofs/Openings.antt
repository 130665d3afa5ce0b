-- How far an opening has read.
use Rattle.std.proofs.Common.{◌≡◌, inr, ℕ, ◌+◌, ◌≤◌, Bool, List, [], ◌∷◌, ◌++◌, length, Some, refl, sym, ◌∙◌, ap, subst, arith, append_assoc, length-append}
use Rattle.std.proofs.lemmas.List.{append-nil}
use Rattle.crash_disk.specs.DiskState.{DiskState}
use Rattle.commit_log.specs.LogImage.{AreBodies, IsDamaged, log_front, frame_place, committed}
use Rattle.commit_log.specs.LogState.{with_body}
use Rattle.commit_log.specs.Opening.{SoFar}
use Rattle.commit_log.specs.Pieces.{ReadsFrame, ReadsNone}
use Rattle.commit_log.proofs.Bodies.{bodies_push, length-log_front, log_front_push}

pub started : (is_body : ℕ → List ℕ → Bool) (holds : List (List ℕ) → Type 0) (n first : ℕ) (s : DiskState) → holds [] → SoFar is_body holds n first 0 first s
started is_body holds n first s held = record {
  bodies = [];
  counts = refl;
  lawful = tt;
  held = held;
  shown = λ head rest long told. (rest, ap (λ (l : List ℕ). l ++ first ∷ rest) (sym (append-nil head)));
}

-- the bytes in two parts, the second of which stands in the place of the next frame
record InFront (n k : ℕ) (head : List ℕ) (bodies : List (List ℕ)) (more image : List ℕ) : Type 0 where
  pub front : List ℕ
  pub place : length front ≡ frame_place n k
  pub parts : image ≡ front ++ more
  pub whole : image ≡ log_front head bodies ++ committed ∷ more

in_front : (is_body : ℕ → List ℕ → Bool) (n count next : ℕ) (head : List ℕ) (bodies : List (List ℕ)) (more image : List ℕ) → length head ≡ n → count ≡ length bodies → AreBodies is_body n 1 bodies → next ≡ committed → image ≡ log_front head bodies ++ next ∷ more → InFront n (count + 1) head bodies more image
in_front is_body n count next head bodies more image long counts lawful commits parts =
    let whole : image ≡ log_front head bodies ++ committed ∷ more = parts ∙ ap (λ (b : ℕ). log_front head bodies ++ b ∷ more) commits in
    record {
      front = log_front head bodies ++ committed ∷ [];
      place = omega (arith, length-append (log_front head bodies) (committed ∷ []), length-log_front is_body n head (count + 1) bodies long (omega (arith, counts)) lawful);
      parts = whole ∙ sym (append_assoc (log_front head bodies) (committed ∷ []) more);
      whole = whole;
    }

module _ (is_body : ℕ → List ℕ → Bool) (before after : List (List ℕ) → Type 0) (n first count next : ℕ) (s t : DiskState) (commits : next ≡ committed) (same : t.content ≡ s.content) (so_far : SoFar is_body before n first count next s) where
  -- one frame more
  pub one_more : (behind : ℕ) → ReadsFrame is_body before after t n (count + 1) behind → SoFar is_body after n first (count + 1) behind s
  one_more behind read = record {
    bodies = with_body so_far.bodies read.body;
    counts = omega (arith, so_far.counts, length-append so_far.bodies (read.body ∷ []));
    lawful = bodies_push is_body n (count + 1) so_far.bodies read.body (omega (arith, so_far.counts)) so_far.lawful read.long read.lawful;
    held = read.holds so_far.bodies so_far.held;
    shown = λ head rest long told.
        let (more, parts) = so_far.shown head rest long told in
        let there = in_front is_body n count next head so_far.bodies more (head ++ first ∷ rest) long so_far.counts so_far.lawful commits parts in
        let (left, is) = read.shown there.front more there.place (same ∙ told ∙ ap (λ (l : List ℕ). Some l) there.parts) in (
          left,
          there.whole
              ∙ ap (λ (l : List ℕ). log_front head so_far.bodies ++ committed ∷ l) is
              ∙ sym (append_assoc (log_front head so_far.bodies) (committed ∷ read.body) (behind ∷ left))
              ∙ ap (λ (l : List ℕ). l ++ behind ∷ left) (sym (log_front_push head so_far.bodies read.body)),
        );
  }

  -- no frame more
  pub none_there : ReadsNone is_body t n (count + 1) → (limit : ℕ) → count ≤ limit → (head rest : List ℕ) → length head ≡ n → s.content ≡ Some (head ++ first ∷ rest) → IsDamaged is_body head limit (count + 1) (head ++ first ∷ rest)
  none_there none limit few head rest long told =
      let (more, parts) = so_far.shown head rest long told in
      let there = in_front is_body n count next head so_far.bodies more (head ++ first ∷ rest) long so_far.counts so_far.lawful commits parts in
      record {
        bodies = so_far.bodies;
        rest = more;
        parts = there.whole;
        lawful = subst (λ (m : ℕ). AreBodies is_body m 1 so_far.bodies) (sym long) so_far.lawful;
        number = omega (arith, so_far.counts);
        within = omega (arith, few, so_far.counts);
        broken = inr (λ body behind left is lawful found. none there.front more there.place (same ∙ told ∙ ap (λ (l : List ℕ). Some l) there.parts) body behind left (is ∙ long) lawful found);
      }
