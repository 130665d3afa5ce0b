-- Two ways to read the same bytes as a log.
use Rattle.std.proofs.Common.{◌≡◌, ◌⊎◌, inl, inr, ℕ, suc, ◌+◌, ◌<◌, Bool, true, List, [], ◌∷◌, ◌++◌, length, take, drop, refl, sym, ◌∙◌, ap, subst, arith, append_assoc}
use Rattle.std.specs.Prelude.{slice_index}
use Rattle.std.proofs.lemmas.List.{append_cancel_left, take_at, drop_at}
use Rattle.commit_log.specs.LogImage.{AreBodies, committed_frames, log_front, committed}
use Rattle.commit_log.proofs.Bodies.{commit_next}

-- These bodies and the commit byte behind them stop before one more frame, of this number.
pub record StopsShort (is_body : ℕ → List ℕ → Bool) (n k : ℕ) (bodies : List (List ℕ)) (next : ℕ) (rest : List ℕ) (others : List (List ℕ)) : Type 0 where
  pub commits : next ≡ committed
  pub body : List ℕ
  pub behind : ℕ
  pub more : List ℕ
  pub long : length body ≡ n
  pub lawful : is_body (k + length bodies) body ≡ true
  pub rest_is : rest ≡ body ++ behind ∷ more
  pub fewer : length bodies < length others

-- the two are one, or one of them stops short
abbrev pub Compared : (ℕ → List ℕ → Bool) → ℕ → ℕ → List (List ℕ) → ℕ → List ℕ → List (List ℕ) → ℕ → List ℕ → Type 0
Compared is_body n k a next rest b next_b rest_b = ((a ≡ b) × (next ≡ next_b)) ⊎ (StopsShort is_body n k a next rest b ⊎ StopsShort is_body n k b next_b rest_b a)

-- at the end of one list
stops : (is_body : ℕ → List ℕ → Bool) (n k next : ℕ) (rest x : List ℕ) (b : List (List ℕ)) (next_b : ℕ) (rest_b : List ℕ) → AreBodies is_body n k (x ∷ b) → next ∷ rest ≡ committed_frames (x ∷ b) ++ next_b ∷ rest_b → StopsShort is_body n k [] next rest (x ∷ b)
stops is_body n k next rest x b next_b rest_b lawful same =
    let (behind, more, is) = commit_next b next_b rest_b in
    let here : k ≡ k + 0 = omega arith in
    record {
      commits = ap (λ (l : List ℕ). slice_index l 0) same;
      body = x;
      behind = behind;
      more = more;
      long = lawful.0;
      lawful = subst (λ (j : ℕ). is_body j x ≡ true) here lawful.1;
      rest_is = ap (λ (l : List ℕ). drop 1 l) same ∙ append_assoc x (committed_frames b) (next_b ∷ rest_b) ∙ ap (λ (l : List ℕ). x ++ l) is;
      fewer = omega arith;
    }

one_more : (is_body : ℕ → List ℕ → Bool) (n k : ℕ) (x : List ℕ) (a : List (List ℕ)) (next : ℕ) (rest y : List ℕ) (b : List (List ℕ)) → StopsShort is_body n (suc k) a next rest b → StopsShort is_body n k (x ∷ a) next rest (y ∷ b)
one_more is_body n k x a next rest y b s =
    let here : suc k + length a ≡ k + suc (length a) = omega arith in
    record { commits = s.commits; body = s.body; behind = s.behind; more = s.more; long = s.long; lawful = subst (λ (j : ℕ). is_body j s.body ≡ true) here s.lawful; rest_is = s.rest_is; fewer = omega (arith, s.fewer) }

compare : (is_body : ℕ → List ℕ → Bool) (n k : ℕ) (a : List (List ℕ)) (next : ℕ) (rest : List ℕ) (b : List (List ℕ)) (next_b : ℕ) (rest_b : List ℕ) → AreBodies is_body n k a → AreBodies is_body n k b
    → committed_frames a ++ next ∷ rest ≡ committed_frames b ++ next_b ∷ rest_b → Compared is_body n k a next rest b next_b rest_b
compare is_body n k [] next rest [] next_b rest_b all_a all_b same = inl (refl, ap (λ (l : List ℕ). slice_index l 0) same)
compare is_body n k [] next rest (y ∷ b) next_b rest_b all_a all_b same = inr (inl (stops is_body n k next rest y b next_b rest_b all_b same))
compare is_body n k (x ∷ a) next rest [] next_b rest_b all_a all_b same = inr (inr (stops is_body n k next_b rest_b x a next rest all_a (sym same)))
compare is_body n k (x ∷ a) next rest (y ∷ b) next_b rest_b all_a all_b same =
    let tail_a : List ℕ = committed_frames a ++ next ∷ rest in
    let tail_b : List ℕ = committed_frames b ++ next_b ∷ rest_b in
    let tails : x ++ tail_a ≡ y ++ tail_b = sym (append_assoc x (committed_frames a) (next ∷ rest)) ∙ ap (λ (l : List ℕ). drop 1 l) same ∙ append_assoc y (committed_frames b) (next_b ∷ rest_b) in
    let first : x ≡ y = sym (take_at x tail_a n all_a.0) ∙ ap (λ (l : List ℕ). take n l) tails ∙ take_at y tail_b n all_b.0 in
    let others : tail_a ≡ tail_b = sym (drop_at x tail_a n all_a.0) ∙ ap (λ (l : List ℕ). drop n l) tails ∙ drop_at y tail_b n all_b.0 in
    elim (compare is_body n (suc k) a next rest b next_b rest_b all_a.2 all_b.2 others) [
      | inl equal ↦ inl ((λ i. first i ∷ equal.0 i), equal.1)
      | inr (inl s) ↦ inr (inl (one_more is_body n k x a next rest y b s))
      | inr (inr s) ↦ inr (inr (one_more is_body n k y b next_b rest_b x a s))
    ]

-- two ways to read an image
pub compare_images : (is_body : ℕ → List ℕ → Bool) (head image : List ℕ) (a : List (List ℕ)) (next : ℕ) (rest : List ℕ) (b : List (List ℕ)) (next_b : ℕ) (rest_b : List ℕ) → AreBodies is_body (length head) 1 a → AreBodies is_body (length head) 1 b
    → image ≡ log_front head a ++ next ∷ rest → image ≡ log_front head b ++ next_b ∷ rest_b → Compared is_body (length head) 1 a next rest b next_b rest_b
compare_images is_body head image a next rest b next_b rest_b all_a all_b is_a is_b =
    compare is_body (length head) 1 a next rest b next_b rest_b all_a all_b
    (append_cancel_left head (committed_frames a ++ next ∷ rest) (committed_frames b ++ next_b ∷ rest_b)
    (sym (append_assoc head (committed_frames a) (next ∷ rest)) ∙ sym is_a ∙ is_b ∙ append_assoc head (committed_frames b) (next_b ∷ rest_b)))

-- the commit byte of the first frame
pub begins : (head image : List ℕ) (bodies : List (List ℕ)) (next : ℕ) (rest : List ℕ) → image ≡ log_front head bodies ++ next ∷ rest → (first : ℕ) × (more : List ℕ) × (image ≡ head ++ first ∷ more)
begins head image bodies next rest parts =
    let (first, more, is) = commit_next bodies next rest in
    (first, more, parts ∙ append_assoc head (committed_frames bodies) (next ∷ rest) ∙ ap (λ (l : List ℕ). head ++ l) is)
