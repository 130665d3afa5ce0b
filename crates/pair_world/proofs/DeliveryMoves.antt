-- A delivery keeps the nine parts.
use Rattle.std.proofs.Common.{◌≡◌, ℕ, suc, ◌≤◌, inl, inr, Bool, true, false, cond, nat_lt, List, [], ◌∷◌, ◌++◌, length, take, refl, sym, ◌∙◌, subst, arith, Option, Some, None}
use Rattle.std.specs.Prelude.{max}
use Rattle.std.proofs.lemmas.List.{length-take-le, take-take}
use Rattle.std.proofs.lemmas.Bool.Decides.{nat_tests}
use Rattle.ali_base.specs.declared.names.NodeName.{NodeName}
use Rattle.ali_base.specs.declared.duty.Mode.{Mode}
use Rattle.ali_base.specs.declared.duty.Mode.TheVariants.{Both, Alone}
use Rattle.ali_base.specs.declared.duty.Duty.{Duty}
use Rattle.pair_world.specs.Frames.{Frame, Begins, Shares, In}
use Rattle.pair_world.specs.World.{told_by, other, Shipment, Ack, Message, Ships, Acks, term_from}
use Rattle.pair_world.specs.Deliveries.{Answer, Behind, Have, Cut, Stored, Have_end, answer_in, answer, journal_after, ack_end}
use Rattle.pair_world.specs.Changes.{with_ack}
use Rattle.pair_world.specs.SoundWorld.{HasEnd, AckHolds}
use Rattle.pair_world.proofs.Parts.{Follows, InStep, Parts}
use Rattle.pair_world.proofs.Items.{suc_is, which}
use Rattle.pair_world.proofs.Lists.{Shares-more, Shares-sym, Begins-trans, Begins-more}
use Rattle.pair_world.proofs.Deliveries.{Fits, answer_fits}
use Rattle.pair_world.proofs.Moves.{keeps_moved, keeps_ack, keeps_heard}
use Rattle.std.proofs.lemmas.Bool.{cond_both}
use Rattle.pair_world.proofs.Items.{some_is}

module _ {E : Type 0} {due : List E → E → Type 0} {d : Duty} {ds : List Duty} {h xs ys : List (Frame E)} {known_by : NodeName → ℕ} {ms : List (Message E)} {reached ended : ℕ} (p : Parts due d ds h xs ys known_by ms reached ended) where
  -- a shipment that is not stale moves the other's journal by its answer
  pub keeps_answer : (x : Shipment E) (a : Answer E) → Fits (term_from d ds) xs ys x a → Parts due d ds h xs (journal_after ys a) known_by ms reached ended
  keeps_answer x Behind fits = p
  keeps_answer x Have fits = p
  keeps_answer x Have_end fits = p
  keeps_answer x (Cut n) fits =
      keeps_moved p (take n ys) fits.begins (λ m s. left m (fits.kept m s) s) (λ both. absurd (fits.apart (begins d.mode both p.step)))
    where
      begins : (m : Mode) → m ≡ Both → InStep m d.epoch (term_from d ds) h xs ys → Begins xs ys
      begins Both is s = s.begins
      begins Alone is s = absurd (cc)

      left : (m : ℕ) → m ≤ n → Shares m xs ys → Shares m xs (take n ys)
      left m less s = record { left = s.left; right = omega (arith, length-take-le n ys (omega (arith, fits.last))); front = s.front ∙ sym (take-take m n ys less) }
  keeps_answer x (Stored f) fits =
      keeps_moved p (ys ++ f ∷ []) fits.0.after (λ m s. Shares-sym (Shares-more (f ∷ []) (Shares-sym s))) (λ both. Begins-trans (Begins-more ys (f ∷ [])) (holds d.mode both p.step))
    where
      holds : (m : Mode) → m ≡ Both → InStep m d.epoch (term_from d ds) h xs ys → Begins ys h
      holds Both is s = s.holds
      holds Alone is s = absurd (cc)

  -- what it acknowledges is so
  pub answer_ack : (x : Shipment E) (a : Answer E) → Fits (term_from d ds) xs ys x a → (end : Bool) → ack_end a ≡ Some end → AckHolds end x.preceding xs (journal_after ys a)
  answer_ack x Behind fits end is = absurd (cc)
  answer_ack x (Cut n) fits end is = absurd (cc)
  answer_ack x Have fits end is = subst (λ b. AckHolds b x.preceding xs ys) (some_is false end is) fits
  answer_ack x (Stored f) fits end is = subst (λ b. AckHolds b x.preceding xs (ys ++ f ∷ [])) (some_is false end is) fits.2
  answer_ack x Have_end fits end is = subst (λ b. AckHolds b x.preceding xs ys) (some_is true end is) (record { shares = fits.0; begins = fits.1 })

  pub shipment_fits : (x : Shipment E) → In ms (Ships x) → known_by (other x.sender) ≤ x.epoch → Fits (term_from d ds) xs ys x (answer ys (told_by x))
  unfolding answer
  shipment_fits x i later =
      let o = p.ships x i later in
      cond_both (nat_lt (length ys) x.preceding) Behind (answer_in ys (told_by x) x.frame) (Fits (term_from d ds) xs ys x)
      (λ behind. tt)
      (λ not_behind. answer_fits (term_from d ds) d.epoch xs ys x (follows d.mode p.step) p.agree p.time.others o.before o.term x.frame o.frame (grind (arith, nat_tests)))
    where
      follows : (m : Mode) → InStep m d.epoch (term_from d ds) h xs ys → Follows (term_from d ds) xs ys
      follows Both s = inl s.begins
      follows Alone s = s

  pub keeps_told : (x : Shipment E) → x.epoch ≤ d.epoch → (o : Option Bool) → ((end : Bool) → o ≡ Some end → AckHolds end x.preceding xs ys) → Parts due d ds h xs ys known_by (with_ack x o ms) reached ended
  keeps_told x top None fits = p
  keeps_told x top (Some end) fits = keeps_ack p (record { to = x.sender; epoch = x.epoch; preceding = x.preceding; end = end }) top (λ now. fits end refl)

  pub keeps_acked : (a : Ack) → In ms (Acks a) → d.epoch ≤ a.epoch → Parts due d ds h xs ys known_by ms (max reached (cond a.end a.preceding (suc a.preceding))) (max ended (cond a.end (suc a.preceding) 0))
  keeps_acked a i now = by_end a.end (p.acks.acks a i (let top = p.time.acks a i in omega arith))
    where
      shares_max : (n : ℕ) → Shares n xs ys → Shares (max reached n) xs ys
      shares_max n s = elim (which reached n) [ inl e ↦ subst (λ k. Shares k xs ys) (sym e) p.acks.acked | inr e ↦ subst (λ k. Shares k xs ys) (sym e) s ]

      by_end : (b : Bool) → AckHolds b a.preceding xs ys → Parts due d ds h xs ys known_by ms (max reached (cond b a.preceding (suc a.preceding))) (max ended (cond b (suc a.preceding) 0))
      by_end true fits =
          keeps_heard p (max reached a.preceding) (max ended (suc a.preceding)) (shares_max a.preceding fits.shares)
          (λ k is. elim (which ended (suc a.preceding)) [ inl e ↦ p.acks.ended k (sym e ∙ is) | inr e ↦ subst (λ n. HasEnd n xs ys) (suc_is a.preceding k (sym e ∙ is)) fits ])
      by_end false fits =
          keeps_heard p (max reached (suc a.preceding)) (max ended 0) (shares_max (suc a.preceding) fits)
          (λ k is. p.acks.ended k (omega arith))
