-- A recovery of the register loses nothing that was booked.
use Rattle.std.proofs.Common.{◌≡◌, ℕ, suc, ◌<◌, ◌≤◌, ◌⊎◌, inl, inr, Bool, true, false, cond, nat_lt, List, ◌∷◌, length, take, refl, ap, sym, ◌∙◌, subst, arith}
use Rattle.std.proofs.lemmas.List.{take-take, length-take}
use Rattle.std.proofs.lemmas.Bool.Decides.{nat_tests}
use Rattle.ali_base.specs.declared.names.NodeName.{NodeName}
use Rattle.ali_base.specs.declared.names.NodeName.TheVariants.{A, B}
use Rattle.ali_base.specs.declared.duty.Mode.{Mode}
use Rattle.ali_base.specs.declared.duty.Mode.TheVariants.{Both, Alone}
use Rattle.ali_base.specs.declared.duty.Duty.{Duty}
use Rattle.pair_world.specs.Frames.{Frame, Begins, Rising}
use Rattle.pair_world.specs.World.{other, node_at, Resolved, term_from, holder_journal, other_journal, with_duty, recovered}
use Rattle.pair_world.proofs.Parts.{Follows, InStep, IsParts}
use Rattle.pair_world.proofs.Lists.{Shares-less, Begins-refl, Begins-trans}
use Rattle.pair_world.proofs.Terms.{taker_term, either}
use Rattle.pair_world.proofs.Doubts.{same_journal}

-- a journal without a frame of the term begins with what the other begins with, where it is long enough
deposed_begins : {E : Type 0} (since top : ℕ) (h mine theirs : List (Frame E)) → Follows since mine theirs → Rising top mine → top < since → Begins theirs h → length h ≤ length mine → Begins mine h
deposed_begins since top h mine theirs (inl b) rising less begins fits = Begins-trans b begins
deposed_begins {E} since top h mine theirs (inr t) rising less begins fits =
    elim split [
      | inl more ↦ absurd (let new = t.past (suc t.at) (omega arith) more in let old = rising.below (suc t.at) more in omega arith)
      | inr whole ↦ record { front = (Shares-less t.shared (omega arith)).front ∙ begins.front }
    ]
  where
    split : (suc t.at ≤ length mine) ⊎ (length mine ≤ t.at)
    split = grind arith

module _ {E : Type 0} (due : List E → E → Type 0) (u : Resolved E) (d : Duty) (p : IsParts due u) (q : IsParts due (recovered (with_duty u d))) where
  abbrev journal_of : NodeName → List (Frame E)
  journal_of n = (node_at u.nodes n).journal

  -- the new holder's journal, where it is longer than the history
  begins : length u.booked ≤ length (journal_of d.holder) → Begins (journal_of d.holder) u.booked
  begins fits = elim (either d.holder u.duty.holder) [
    | inl own ↦ subst (λ n. Begins (journal_of n) u.booked) (sym own) p.booked.begins
    | inr far ↦
        deposed_begins (term_from d (u.duty ∷ u.past)) u.duty.epoch u.booked (journal_of d.holder) (journal_of (other d.holder)) (follows d.mode q.step)
        (subst (λ n. Rising u.duty.epoch (journal_of n)) (sym far) p.time.others)
        (let next = q.counted.0 in let term = taker_term d u.duty u.past far in omega arith)
        (subst (λ n. Begins (journal_of n) u.booked) (sym (ap other far ∙ twice u.duty.holder)) p.booked.begins) fits
  ]
    where
      twice : (n : NodeName) → other (other n) ≡ n
      twice A = refl
      twice B = refl

      mine : holder_journal (recovered (with_duty u d)) ≡ journal_of d.holder
      mine = same_journal d.holder d.holder u.nodes d.epoch

      theirs : other_journal (recovered (with_duty u d)) ≡ journal_of (other d.holder)
      theirs = same_journal d.holder (other d.holder) u.nodes d.epoch

      follows : (m : Mode) → InStep m d.epoch (term_from d (u.duty ∷ u.past)) (recovered (with_duty u d)).booked (holder_journal (recovered (with_duty u d))) (other_journal (recovered (with_duty u d))) → Follows (term_from d (u.duty ∷ u.past)) (journal_of d.holder) (journal_of (other d.holder))
      follows Both s = inl (subst (λ z. Begins z (journal_of (other d.holder))) mine (subst (Begins (holder_journal (recovered (with_duty u d)))) theirs s.begins))
      follows Alone s = subst (λ z. Follows (term_from d (u.duty ∷ u.past)) z (journal_of (other d.holder))) mine (subst (Follows (term_from d (u.duty ∷ u.past)) (holder_journal (recovered (with_duty u d)))) theirs s)

  pub recovery_longer : Begins (recovered (with_duty u d)).booked u.booked
  recovery_longer = by_length (nat_lt (length u.booked) d.floor) refl q.floor
    where
      by_length : (t : Bool) → nat_lt (length u.booked) d.floor ≡ t → d.floor ≤ length (cond t (take d.floor (journal_of d.holder)) u.booked) → Begins (cond t (take d.floor (journal_of d.holder)) u.booked) u.booked
      by_length false is low = Begins-refl u.booked
      by_length true is low =
          let short : length u.booked < d.floor = grind (arith, nat_tests) in
          let len = length-take d.floor (journal_of d.holder) in
          let b = begins (omega arith) in
          record { front = take-take (length u.booked) d.floor (journal_of d.holder) (omega arith) ∙ b.front }
