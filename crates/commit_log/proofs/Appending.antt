-- What a crash leaves in each of the two writes of an append.
use Rattle.std.proofs.Common.{◌≡◌, ◌≢◌, inl, inr, ℕ, ◌+◌, Bool, true, List, [], ◌∷◌, ◌++◌, length, drop, refl, sym, ◌∙◌, ap, subst, arith, append_assoc, length-append}
use Rattle.std.proofs.lemmas.Bool.{cases_eq}
use Rattle.crash_disk.specs.DiskState.{DiskState}
use Rattle.crash_disk.specs.CrashOutcomes.{Torn, written}
use Rattle.crash_disk.specs.Moments.{EachMoment}
use Rattle.crash_disk.proofs.Runs.{weaker}
use Rattle.crash_disk.proofs.TornBytes.{torn_front, torn_byte, written_at}
use Rattle.commit_log.specs.LogImage.{AreBodies, StandsFor, log_front, frame_place, committed}
use Rattle.commit_log.specs.LogState.{StandsForEither, with_body}
use Rattle.commit_log.proofs.Bodies.{bodies_push, length-log_front, log_front_push}

module _ (is_body : ℕ → List ℕ → Bool) (head : List ℕ) (bodies : List (List ℕ)) (body : List ℕ) (number place : ℕ) (counts : number ≡ length bodies + 1) (there : place ≡ frame_place (length head) number) (lawful : AreBodies is_body (length head) 1 bodies) (long : length body ≡ length head) (is : is_body number body ≡ true) where
  abbrev front : List ℕ
  front = log_front head bodies

  abbrev block : List ℕ
  block = body ++ 0 ∷ []

  front_long : length front + 1 ≡ place
  front_long = length-log_front is_body (length head) head number bodies refl counts lawful ∙ sym there

  behind_commit : (byte : ℕ) → length (front ++ byte ∷ []) ≡ place
  behind_commit byte = omega (arith, front_long, length-append front (byte ∷ []))

  -- the frame stays uncommitted in each outcome of the first write
  torn_block : (n byte : ℕ) (rest c : List ℕ) → byte ≢ committed → Torn place n (front ++ byte ∷ rest) c → StandsFor is_body head bodies c
  torn_block n byte rest c uncommitted torn =
      let parted : front ++ byte ∷ rest ≡ (front ++ byte ∷ []) ++ rest = sym (append_assoc front (byte ∷ []) rest) in
      let (more, same) = torn_front place n (front ++ byte ∷ []) rest c (behind_commit byte) (subst (λ (l : List ℕ). Torn place n l c) parted torn) in
      record { next = byte; rest = more; parts = same ∙ append_assoc front (byte ∷ []) more; uncommitted = uncommitted; lawful = lawful }

  -- the block behind the frame's commit byte
  abbrev staged : ℕ → List ℕ → List ℕ
  staged byte more = front ++ byte ∷ (body ++ 0 ∷ more)

  written_block : (byte : ℕ) (rest : List ℕ) → written place block (front ++ byte ∷ rest) ≡ staged byte (drop (length block) rest)
  written_block byte rest =
      let parted : front ++ byte ∷ rest ≡ (front ++ byte ∷ []) ++ rest = sym (append_assoc front (byte ∷ []) rest) in
      let left : List ℕ = drop (length block) rest in
      ap (written place block) parted
      ∙ written_at place (front ++ byte ∷ []) block rest (behind_commit byte)
      ∙ append_assoc (front ++ byte ∷ []) block left
      ∙ append_assoc front (byte ∷ []) (block ++ left)
      ∙ ap (λ (l : List ℕ). front ++ byte ∷ l) (append_assoc body (0 ∷ []) left)

  -- the frame stands whole behind the byte that commits it
  whole : (byte : ℕ) (more : List ℕ) → byte ≡ committed → StandsFor is_body head (with_body bodies body) (staged byte more)
  whole byte more same = record {
    next = 0;
    rest = more;
    parts = ap (λ (b : ℕ). staged b more) same ∙ sym (append_assoc front (committed ∷ body) (0 ∷ more)) ∙ ap (λ (l : List ℕ). l ++ 0 ∷ more) (sym (log_front_push head bodies body));
    uncommitted = λ (zero_is : 0 ≡ committed). omega (arith, zero_is);
    lawful = bodies_push is_body (length head) number bodies body counts lawful long is;
  }

  -- the two writes, from one state of the disk to the next
  module _ (image : List ℕ) (stands : StandsFor is_body head bodies image) where
    pub first_write : (n : ℕ) (s t : DiskState) → EachMoment s t (Torn place n image) → EachMoment s t (StandsForEither is_body head bodies (with_body bodies body))
    first_write n s t run =
        weaker s t (Torn place n image) (StandsForEither is_body head bodies (with_body bodies body))
        (λ c torn. inl (torn_block n stands.next stands.rest c stands.uncommitted (subst (λ (l : List ℕ). Torn place n l c) stands.parts torn))) run

    middle_is : written place block image ≡ staged stands.next (drop (length block) stands.rest)
    middle_is = ap (written place block) stands.parts ∙ written_block stands.next stands.rest

    module _ (at : ℕ) (before : at + 1 ≡ place) where
      commit_long : length front ≡ at
      commit_long = omega (arith, front_long, before)

      torn_commit : (byte : ℕ) (more c : List ℕ) → Torn at 1 (staged byte more) c → StandsForEither is_body head bodies (with_body bodies body) c
      torn_commit byte more c torn =
          let (new, after, same) = torn_byte at front byte (body ++ 0 ∷ more) c commit_long torn in
          let parts : c ≡ staged new (more ++ after) =
          same ∙ append_assoc front (new ∷ (body ++ 0 ∷ more)) after ∙ ap (λ (l : List ℕ). front ++ new ∷ l) (append_assoc body (0 ∷ more) after) in
          subst (StandsForEither is_body head bodies (with_body bodies body)) (sym parts) (elim (cases_eq new committed) [
            | inl commits ↦ inr (whole new (more ++ after) commits)
            | inr other ↦ inl (record { next = new; rest = body ++ 0 ∷ (more ++ after); parts = refl; uncommitted = other; lawful = lawful })
          ])

      pub second_write : (s t : DiskState) → EachMoment s t (Torn at 1 (written place block image)) → EachMoment s t (StandsForEither is_body head bodies (with_body bodies body))
      second_write s t run =
          weaker s t (Torn at 1 (written place block image)) (StandsForEither is_body head bodies (with_body bodies body))
          (λ c torn. torn_commit stands.next (drop (length block) stands.rest) c (subst (λ (l : List ℕ). Torn at 1 l c) middle_is torn)) run

      written_commit : (byte : ℕ) (more : List ℕ) → written at (committed ∷ []) (staged byte more) ≡ staged committed more
      written_commit byte more = written_at at front (committed ∷ []) (byte ∷ (body ++ 0 ∷ more)) commit_long ∙ append_assoc front (committed ∷ []) (body ++ 0 ∷ more)

      pub both_written : StandsFor is_body head (with_body bodies body) (written at (committed ∷ []) (written place block image))
      both_written =
          subst (StandsFor is_body head (with_body bodies body)) (sym (ap (written at (committed ∷ [])) middle_is ∙ written_commit stands.next (drop (length block) stands.rest)))
          (whole committed (drop (length block) stands.rest) refl)
