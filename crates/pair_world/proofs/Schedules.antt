-- Each step, with refusals, faults and halts, keeps what is known of a world in doubt, and loses nothing that was booked.
use Rattle.std.proofs.Common.{◌≡◌, ◌⊎◌, inl, inr, List, [], ◌∷◌, refl, sym, subst}
use Rattle.ali_base.specs.declared.names.NodeName.{NodeName}
use Rattle.pair_world.specs.Frames.{item_at, Begins, In}
use Rattle.pair_world.specs.World.{other, Message, Ships, Acks, World, opened, without_doubt}
use Rattle.pair_world.specs.Changes.{read_failed}
use Rattle.pair_world.specs.Step.{Event, Write, Ship, Deliver, Drop, Book, Take, Go_alone, Pair_up, Stop, Start, Start_duty, Ask, Outcome, Done, Answered, Refused, Faulted, Halted, Bounds, WorldStep, Answers, OnShipment, HearsEpoch, Refuses, FailsToStore, Fails, Halts, Step, Turn, Runs}
use Rattle.pair_world.proofs.Parts.{IsKept}
use Rattle.pair_world.proofs.Lists.{Begins-refl, Begins-trans}
use Rattle.pair_world.proofs.Items.{on_item, in_item}
use Rattle.pair_world.proofs.StepKinds.{IsPlain, world_step, answer_same, hears}
use Rattle.pair_world.proofs.Kept.{done_kept, down_kept, stop_kept, learned_kept, write_fails, store_fails, take_fails, alone_fails, pair_fails, start_kept, register_started_kept}
use Rattle.pair_world.proofs.Reopening.{reopened_keeps, base_sound, register_started_longer, without_doubt_kept}
use Rattle.pair_world.proofs.Worlds.{grows}

-- the world after has the parts, and its history begins with the one before
abbrev pub KeepsFrom : {E : Type 0} → (List E → E → Type 0) → World E → World E → Type 0
KeepsFrom due w v = IsKept due v × Begins v.base.booked w.base.booked

module _ {E : Type 0} (due : List E → E → Type 0) (w : World E) (s : IsKept due w) where
  -- what a world that is the same has
  kept_as : (v u : World E) → v ≡ u → KeepsFrom due w u → KeepsFrom due w v
  kept_as v u e k = subst (KeepsFrom due w) (sym e) k

  same_history : (u : World E) → IsKept due u → u.base.booked ≡ w.base.booked → KeepsFrom due w u
  same_history u k e = (k, subst (λ z. Begins z w.base.booked) (sym e) (Begins-refl w.base.booked))

  falls : (n : NodeName) (v : World E) → v ≡ read_failed w n → KeepsFrom due w v
  falls n v e = kept_as v _ e (same_history _ (down_kept due w s n) refl)

-- each outcome of each event
module _ {E Q : Type 0} (due : List E → E → Type 0) (bounds : Bounds) (w : World E) (s : IsKept due w) where
  does : (e : Event E Q) (v : World E) → IsPlain due bounds w e v → KeepsFrom due w v
  does e v p = kept_as due w s v (record w { base = v.base }) p.same (done_kept due w s bounds e v.base p.register p.step, grows due bounds w.base (base_sound due w s) e v.base p.step)

  completes : (e : Event E Q) (v : World E) → WorldStep due bounds w e v → KeepsFrom due w v
  completes e v g = elim (world_step due bounds w e v g) [
    | inl p ↦ does e v p
    | inr (inl h) ↦ kept_as due w s v _ h.1 (same_history due w s _ (stop_kept due w s h.0) refl)
    | inr (inr (inl h)) ↦ kept_as due w s v _ h.3 (same_history due w s _ (start_kept due w s h.0 h.1 h.2) refl)
    | inr (inr (inr h)) ↦ kept_as due w s v _ h.1 (register_started_kept due w s h.0, register_started_longer due w s h.0)
  ]

  answers : {R : Type 0} (form : List E → Q → R) (e : Event E Q) (reply : R) (v : World E) → Answers form w e reply v → KeepsFrom due w v
  answers form e reply v g = kept_as due w s v w (answer_same w form e reply v g) (same_history due w s w s refl)

  learns : (e : Event E Q) (v : World E) → HearsEpoch w e v → KeepsFrom due w v
  learns e v g =
      let h = hears w e v g in
      kept_as due w s v _ h.same (same_history due w s _ (learned_kept due w s h.shipment h.register h.sent h.behind.up) refl)

  refuses : (e : Event E Q) (v : World E) → Refuses w e v → KeepsFrom due w v
  refuses e v (inl same) = kept_as due w s v w same (same_history due w s w s refl)
  refuses e v (inr learned) = learns e v learned

  pub fails : (e : Event E Q) (v : World E) → Fails due bounds w e v → KeepsFrom due w v
  fails (Write e) v g = elim g.1 [
    | inl read ↦ falls due w s w.base.duty.holder v read.1
    | inr wrote ↦ kept_as due w s v _ wrote.1 (same_history due w s _ (write_fails due w s bounds e g.0 wrote.0) refl)
  ]
  fails (Ship k) v g = falls due w s w.base.duty.holder v g.2
  fails (Deliver i) v g = let m = on_item (item_at w.base.messages i) _ g.1 in by_message m.0 (in_item w.base.messages i m.0 m.1) m.2
    where
      by_message : (m : Message E) → In w.base.messages m → OnShipment m (λ x. FailsToStore w x v) → KeepsFrom due w v
      by_message (Acks a) i h = absurd h
      by_message (Ships x) i h = elim h [
        | inl read ↦ falls due w s (other x.sender) v read.1
        | inr wrote ↦ kept_as due w s v _ wrote.1 (same_history due w s _ (store_fails due w s x i g.0 wrote.0) refl)
      ]
  fails Book v g = falls due w s w.base.duty.holder v g.2
  fails (Take n) v g = elim g.1 [
    | inl read ↦ falls due w s n v read.1
    | inr wrote ↦ kept_as due w s v _ wrote.1 (same_history due w s _ (take_fails due w s bounds n wrote.0) refl)
  ]
  fails Go_alone v g = kept_as due w s v _ g.2 (same_history due w s _ (alone_fails due w s bounds g.1) refl)
  fails Pair_up v g = kept_as due w s v _ g.2 (same_history due w s _ (pair_fails due w s bounds g.1) refl)
  fails (Start n) v g = kept_as due w s v w g.2 (same_history due w s w s refl)
  fails Start_duty v g = elim g.1 [
    | inl same ↦ kept_as due w s v w same (same_history due w s w s refl)
    | inr read ↦ falls due w s read.0.holder v read.4
  ]
  fails (Ask n r since) v g = falls due w s n v g.1
  fails (Drop i) v g = absurd g
  fails (Stop n) v g = absurd g

-- a halt, a step and a schedule
module _ {E Q R : Type 0} (due : List E → E → Type 0) (form : List E → Q → R) (bounds : Bounds) where
  halts : (w : World E) → IsKept due w → (e : Event E Q) (v : World E) → Halts due bounds w e v → KeepsFrom due w v
  halts w s e v g = subst (KeepsFrom due w) (sym g.2.opens) (by_lists g.1)
    where
      opens : IsKept due g.0 → Begins g.0.base.booked w.base.booked → KeepsFrom due w (without_doubt (opened g.2.duty g.2.past g.2.journal_a g.2.journal_b))
      opens k b =
          let r = reopened_keeps due g.0 k g.2.duty g.2.past g.2.journal_a g.2.journal_b g.2.register g.2.disk_a g.2.disk_b in
          (without_doubt_kept due (opened g.2.duty g.2.past g.2.journal_a g.2.journal_b) r.0, Begins-trans r.1 b)

      by_lists : (g.0 ≡ w) ⊎ Fails due bounds w e g.0 → KeepsFrom due w (without_doubt (opened g.2.duty g.2.past g.2.journal_a g.2.journal_b))
      by_lists (inl same) = let k = subst (KeepsFrom due w) (sym same) (s, Begins-refl w.base.booked) in opens k.0 k.1
      by_lists (inr failed) = let k = fails due bounds w s e g.0 failed in opens k.0 k.1

  pub step_keeps : (w : World E) → IsKept due w → (e : Event E Q) (o : Outcome R) (v : World E) → Step due form bounds w e o v → KeepsFrom due w v
  step_keeps w s e Done v g = completes due bounds w s e v g
  step_keeps w s e (Answered reply) v g = answers due bounds w s form e reply v g
  step_keeps w s e Refused v g = refuses due bounds w s e v g
  step_keeps w s e Faulted v g = fails due bounds w s e v g
  step_keeps w s e Halted v g = halts w s e v g

  pub runs_keep : (w : World E) → IsKept due w → (ts : List (Turn E Q R)) (v : World E) → Runs due form bounds w ts v → KeepsFrom due w v
  runs_keep w s [] v r = subst (KeepsFrom due w) r (s, Begins-refl w.base.booked)
  runs_keep w s (t ∷ ts) v r =
      let k = step_keeps w s t.event t.outcome r.0 r.1 in
      let l = runs_keep r.0 k.0 ts v r.2 in
      (l.0, Begins-trans l.1 k.1)
