-- What a crash leaves while a frame is cut off.
use Rattle.std.proofs.Common.{◌≡◌, inl, inr, ℕ, ◌+◌, ◌-◌, ◌≤◌, Bool, List, [], ◌∷◌, ◌++◌, length, take, sym, ◌∙◌, ap, subst, arith, append_assoc}
use Rattle.std.proofs.lemmas.Bool.{cases_eq}
use Rattle.crash_disk.specs.DiskState.{DiskState}
use Rattle.crash_disk.specs.CrashOutcomes.{Torn, written}
use Rattle.crash_disk.specs.Moments.{EachMoment}
use Rattle.crash_disk.proofs.Runs.{weaker}
use Rattle.crash_disk.proofs.TornBytes.{torn_byte, written_at}
use Rattle.commit_log.specs.LogImage.{StandsFor, log_front, frame_place, committed}
use Rattle.commit_log.specs.LogState.{StandsForEither}
use Rattle.commit_log.proofs.Bodies.{StandingBodies, standing, bodies_take}

module _ (is_body : ℕ → List ℕ → Bool) (head : List ℕ) (bodies : List (List ℕ)) (k at : ℕ) (low : 1 ≤ k) (high : k ≤ length bodies) (there : at + 1 ≡ frame_place (length head) k) (image : List ℕ) (stands : StandsFor is_body head bodies image) where
  abbrev front : List (List ℕ)
  front = take (k - 1) bodies

  here : StandingBodies is_body head bodies k image
  here = standing is_body head bodies k image stands.next stands.rest low high stands.lawful stands.parts

  -- what stands behind the commit byte
  abbrev behind : List ℕ
  behind = here.body ++ here.next ∷ here.more

  commit_long : length (log_front head front) ≡ at
  commit_long = omega (arith, here.place, there)

  -- the frames from k on stay, or are cut off
  torn_cut : (c : List ℕ) → Torn at 1 image c → StandsForEither is_body head bodies front c
  torn_cut c torn =
      let (byte, more, is) = torn_byte at (log_front head front) committed behind c commit_long (subst (λ (l : List ℕ). Torn at 1 l c) here.parts torn) in
      elim (cases_eq byte committed) [
        | inl commits ↦ inl (record {
          next = stands.next;
          rest = stands.rest ++ more;
          parts = is ∙ ap (λ (b : ℕ). log_front head front ++ b ∷ behind ++ more) commits ∙ ap (λ (l : List ℕ). l ++ more) (sym here.parts ∙ stands.parts) ∙ append_assoc (log_front head bodies) (stands.next ∷ stands.rest) more;
          uncommitted = stands.uncommitted;
          lawful = stands.lawful;
        })
        | inr other ↦ inr (record {
          next = byte;
          rest = behind ++ more;
          parts = is ∙ append_assoc (log_front head front) (byte ∷ behind) more;
          uncommitted = other;
          lawful = bodies_take is_body (length head) 1 (k - 1) bodies stands.lawful;
        })
      ]

  pub cutting : (s t : DiskState) → EachMoment s t (Torn at 1 image) → EachMoment s t (StandsForEither is_body head bodies front)
  cutting s t run = weaker s t (Torn at 1 image) (StandsForEither is_body head bodies front) torn_cut run

  pub written_cut : StandsFor is_body head front (written at (0 ∷ []) image)
  written_cut = record {
    next = 0;
    rest = behind;
    parts = ap (written at (0 ∷ [])) here.parts ∙ written_at at (log_front head front) (0 ∷ []) (committed ∷ behind) commit_long ∙ append_assoc (log_front head front) (0 ∷ []) behind;
    uncommitted = λ (zero_is : 0 ≡ committed). omega (arith, zero_is);
    lawful = bodies_take is_body (length head) 1 (k - 1) bodies stands.lawful;
  }
