-- Each image can be read: it is foreign, damaged, or stands for bodies.
use Rattle.std.proofs.Common.{◌≡◌, ◌≢◌, ◌⊎◌, inl, inr, ℕ, zero, suc, ◌+◌, ◌<◌, ◌≤◌, Bool, true, false, List, [], ◌∷◌, ◌++◌, length, get_or, take, drop, refl, sym, ◌∙◌, ap, arith, append_assoc, length-append, length-take, take-append-drop}
use Rattle.std.proofs.lemmas.Bool.{cases_eq, cases_lt}
use Rattle.std.proofs.lemmas.List.{append-nil, drop_more, take_at}
use Rattle.commit_log.specs.LogImage.{AreBodies, StandsForSome, IsForeign, IsDamagedSomewhere, NoFrame, log_front, committed}
use Rattle.commit_log.proofs.Bodies.{bodies_push, log_front_push}

-- two lists of bytes are one or not
same_or_not : (a b : List ℕ) → (a ≡ b) ⊎ (a ≢ b)
same_or_not [] [] = inl refl
same_or_not [] (y ∷ b) = inr (λ same. omega (arith, ap length same))
same_or_not (x ∷ a) [] = inr (λ same. omega (arith, ap length same))
same_or_not (x ∷ a) (y ∷ b) = elim (cases_eq x y) [
  | inl first ↦ elim (same_or_not a b) [
    | inl others ↦ inl (λ i. first i ∷ others i)
    | inr differ ↦ inr (λ same. differ (ap (λ (l : List ℕ). drop 1 l) same))
  ]
  | inr differ ↦ inr (λ same. differ (ap (λ (l : List ℕ). get_or l 0 0) same))
]

true_or_false : (b : Bool) → (b ≡ true) ⊎ (b ≡ false)
true_or_false true = inl refl
true_or_false false = inr refl

-- n bytes, the byte behind them, and the rest
at_byte : (n : ℕ) (bytes : List ℕ) → n < length bytes → bytes ≡ take n bytes ++ get_or bytes n 0 ∷ drop (n + 1) bytes
at_byte n bytes long = sym (take-append-drop n bytes) ∙ ap (λ (l : List ℕ). take n bytes ++ l) (drop_more bytes n 0 long)

-- one of the three, of which the last two are left behind the first block
abbrev pub Read : (ℕ → List ℕ → Bool) → List ℕ → ℕ → List ℕ → Type 0
Read is_body head limit image = IsDamagedSomewhere is_body head limit image ⊎ StandsForSome is_body head limit image

-- a frame stands at the front of these bytes, or not
frame_or_none : (is_body : ℕ → List ℕ → Bool) (n k : ℕ) (bytes : List ℕ) → ((n < length bytes) × (is_body k (take n bytes) ≡ true)) ⊎ NoFrame is_body n k bytes
frame_or_none is_body n k bytes = elim (cases_lt n (length bytes)) [
  | inl long ↦ elim (true_or_false (is_body k (take n bytes))) [
    | inl is ↦ inl (long, is)
    | inr not ↦ inr (λ body next more is lawful parts. absurd (cc (sym lawful ∙ ap (is_body k) (sym (take_at body (next ∷ more) n is) ∙ ap (λ (l : List ℕ). take n l) (sym parts)), not)))
  ]
  | inr short ↦ inr (λ body next more is lawful parts. omega (arith, short, is, ap length parts, length-append body (next ∷ more)))
]

module _ (is_body : ℕ → List ℕ → Bool) (head image : List ℕ) (limit : ℕ) where
  -- the next frame is not committed
  stood : (bodies : List (List ℕ)) (next : ℕ) (rest : List ℕ) → length bodies ≤ limit → AreBodies is_body (length head) 1 bodies → image ≡ log_front head bodies ++ next ∷ rest → next ≢ committed → Read is_body head limit image
  stood bodies next rest within lawful parts other = inr (bodies, within, record { next = next; rest = rest; parts = parts; uncommitted = other; lawful = lawful })

  -- it is, and is not there
  damaged : (bodies : List (List ℕ)) (rest : List ℕ) → length bodies ≤ limit → AreBodies is_body (length head) 1 bodies → image ≡ log_front head bodies ++ committed ∷ rest → (length bodies ≡ limit) ⊎ NoFrame is_body (length head) (length bodies + 1) rest → Read is_body head limit image
  damaged bodies rest within lawful parts broken = inl (length bodies + 1, record { bodies = bodies; rest = rest; parts = parts; lawful = lawful; number = refl; within = within; broken = broken })

  -- from some frame on, where so many more are within the limit
  read_on : (left : ℕ) (bodies : List (List ℕ)) (next : ℕ) (rest : List ℕ) → length bodies + left ≡ limit → AreBodies is_body (length head) 1 bodies → image ≡ log_front head bodies ++ next ∷ rest → Read is_body head limit image
  read_on zero bodies next rest counts lawful parts = elim (cases_eq next committed) [
    | inr other ↦ stood bodies next rest (omega (arith, counts)) lawful parts other
    | inl commits ↦ damaged bodies rest (omega (arith, counts)) lawful (parts ∙ ap (λ (b : ℕ). log_front head bodies ++ b ∷ rest) commits) (inl (omega (arith, counts)))
  ]
  read_on (suc left) bodies next rest counts lawful parts = elim (cases_eq next committed) [
    | inr other ↦ stood bodies next rest (omega (arith, counts)) lawful parts other
    | inl commits ↦
        let n : ℕ = length head in
        let body : List ℕ = take n rest in
        let behind : ℕ = get_or rest n 0 in
        let more : List ℕ = drop (n + 1) rest in
        let whole : image ≡ log_front head bodies ++ committed ∷ rest = parts ∙ ap (λ (b : ℕ). log_front head bodies ++ b ∷ rest) commits in
        elim (frame_or_none is_body n (length bodies + 1) rest) [
          | inr none ↦ damaged bodies rest (omega (arith, counts)) lawful whole (inr none)
          | inl frame ↦
              read_on left (bodies ++ body ∷ []) behind more
              (omega (arith, counts, length-append bodies (body ∷ [])))
              (bodies_push is_body n (length bodies + 1) bodies body refl lawful (omega (arith, length-take n rest, frame.0)) frame.1)
              (whole
              ∙ ap (λ (l : List ℕ). log_front head bodies ++ committed ∷ l) (at_byte n rest frame.0)
              ∙ sym (append_assoc (log_front head bodies) (committed ∷ body) (behind ∷ more))
              ∙ ap (λ (l : List ℕ). l ++ behind ∷ more) (sym (log_front_push head bodies body)))
        ]
  ]

  pub read_some_way : IsForeign head image ⊎ Read is_body head limit image
  read_some_way =
      let n : ℕ = length head in
      elim (cases_lt n (length image)) [
        | inr short ↦ inl (λ next rest parts. omega (arith, short, ap length parts, length-append head (next ∷ rest)))
        | inl long ↦ elim (same_or_not (take n image) head) [
          | inr differ ↦ inl (λ next rest parts. differ (ap (λ (l : List ℕ). take n l) parts ∙ take_at head (next ∷ rest) n refl))
          | inl same ↦
              let next : ℕ = get_or image n 0 in
              let rest : List ℕ = drop (n + 1) image in
              inr (read_on limit [] next rest (omega arith) tt (at_byte n image long ∙ ap (λ (l : List ℕ). l ++ next ∷ rest) (same ∙ sym (append-nil head))))
        ]
      ]
