-- How a run of calls goes on.
use Rattle.std.proofs.Common.{◌⊎◌, inl, inr, ⊎_elim, ℕ, ◌≤◌, List, refl, ◌∙◌, arith}
use Rattle.crash_disk.specs.DiskState.{DiskState, IsSound}
use Rattle.crash_disk.specs.CrashOutcomes.{Stays}
use Rattle.crash_disk.specs.Moments.{EachMoment}

-- one run after another
pub run_on : (old mid new : DiskState) (P : List ℕ → Type 0) → EachMoment old mid P → EachMoment mid new P → EachMoment old new P
run_on old mid new P first second = record {
  later = omega (arith, first.later, second.later);
  each = λ c left. ⊎_elim (first.each c) (λ p. p) (second.before old.moment c first.later left);
  before = λ t c le left. ⊎_elim (first.before t c le) (λ p. inr p) (second.before t c (omega (arith, le, first.later)) left);
}

pub weaker : (old new : DiskState) (P Q : List ℕ → Type 0) → ((c : List ℕ) → P c → Q c) → EachMoment old new P → EachMoment old new Q
weaker old new P Q gives run = record {
  later = run.later;
  each = λ c left. gives c (run.each c left);
  before = λ t c le left. ⊎_elim (λ past. inl past) (λ p. inr (gives c p)) (run.before t c le left);
}

-- what a crash now may leave is left at one of the moments
pub now_too : (old new : DiskState) (P : List ℕ → Type 0) → IsSound new → EachMoment old new P → (c : List ℕ) → new.may_leave c → P c
now_too old new P sound run c left = run.each c (sound.counts_now old.moment c run.later left)

-- one call that changes no byte after another
pub stays_on : (old mid new : DiskState) → IsSound old → Stays old mid → Stays mid new → Stays old new
stays_on old mid new sound first second = record {
  on = record {
    later = omega (arith, first.on.later, second.on.later);
    nothing_else = λ t c le left. ⊎_elim (λ past. inl (past_or t c le (first.on.nothing_else t c le past))) (λ now. inr now) (second.on.nothing_else t c (omega (arith, le, first.on.later)) left);
    keeps = λ t c le left. second.on.keeps t c (omega (arith, le, first.on.later)) (first.on.keeps t c le left);
  };
  content = second.content ∙ first.content;
  crash = λ c left. first.crash c (second.crash c left);
}
  where
    past_or : (t : ℕ) (c : List ℕ) → t ≤ old.moment → old.left_since t c ⊎ mid.may_leave c → old.left_since t c
    past_or t c le (inl past) = past
    past_or t c le (inr now) = sound.counts_now t c le (first.crash c now)

-- no call at all
pub stays_here : (s : DiskState) → Stays s s
stays_here s = record { on = record { later = omega arith; nothing_else = λ t c le left. inl left; keeps = λ t c le left. left }; content = refl; crash = λ c left. left }
