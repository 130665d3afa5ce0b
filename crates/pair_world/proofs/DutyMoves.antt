-- A change of duty keeps the nine parts.
use Rattle.std.proofs.Common.{◌≡◌, ℕ, suc, ◌<◌, ◌≤◌, inl, inr, List, ◌∷◌, length, ap, sym, ◌∙◌, subst, arith}
use Rattle.ali_base.specs.declared.names.NodeName.{NodeName}
use Rattle.ali_base.specs.declared.duty.Mode.TheVariants.{Both, Alone}
use Rattle.ali_base.specs.declared.duty.Duty.{Duty}
use Rattle.pair_world.specs.Frames.{Frame, Shares, Rising}
use Rattle.pair_world.specs.World.{other, Message, term_from}
use Rattle.pair_world.specs.SoundWorld.{Named}
use Rattle.pair_world.proofs.Parts.{BookedParts, StepsBoth, Follows, InStep, TimeParts, AckedParts, Parts}
use Rattle.pair_world.proofs.Items.{within_or_next}
use Rattle.pair_world.proofs.Lists.{Shares-none, Shares-sym, Begins-length, Begins-Shares, Shares-Begins, Begins-refl, Agree-sym, Rising-up, Legal-Begins}
use Rattle.pair_world.proofs.Terms.{holder_term, taker_term}

module _ {E : Type 0} {due : List E → E → Type 0} {d : Duty} {ds : List Duty} {h xs ys : List (Frame E)} {known_by : NodeName → ℕ} {ms : List (Message E)} {reached ended : ℕ} (p : Parts due d ds h xs ys known_by ms reached ended) where
  -- what is in time stays so under a later duty, and nothing is acknowledged under it
  later_time : (top : ℕ) → d.epoch ≤ top → (a b : List (Frame E)) → Rising d.epoch a → Rising d.epoch b → TimeParts top a b ms
  later_time top up a b mine others =
      record {
        mine = Rising-up d.epoch top a up mine;
        others = Rising-up d.epoch top b up others;
        frames = p.time.frames;
        ships = λ x i. (let o = p.time.ships x i in omega arith);
        acks = λ a i. (let o = p.time.acks a i in omega arith);
      }

  none_acked : (top : ℕ) → d.epoch < top → (a b : List (Frame E)) → AckedParts top a b ms 0 0
  none_acked top up a b =
      record {
        acks = λ c i now. absurd (let o = p.time.acks c i in omega arith);
        acked = Shares-none a b;
        ended = λ k is. absurd (omega arith);
      }

  -- a duty of the same holder
  pub keeps_same_holder : (d' : Duty) (h' : List (Frame E)) (known' : NodeName → ℕ) → d'.epoch ≡ suc d.epoch → d'.holder ≡ d.holder → d.floor ≤ d'.floor → d'.floor ≤ length h' → BookedParts due h' xs → InStep d'.mode d'.epoch (term_from d ds) h' xs ys → ((n : NodeName) → known_by n ≤ known' n) → ((n : NodeName) → known' n ≤ d'.epoch) → known' d'.holder ≡ d'.epoch → Parts due d' (d ∷ ds) h' xs ys known' ms 0 0
  keeps_same_holder d' h' known' next same floor high booked step grows below holder =
      record {
        agree = p.agree;
        names = p.names;
        booked = booked;
        step = subst (λ t. InStep d'.mode d'.epoch t h' xs ys) (sym term) step;
        time = later_time d'.epoch (omega arith) xs ys p.time.mine p.time.others;
        ships = λ x i later.
            (let g = grows (other x.sender) in
            let o = p.ships x i (omega arith) in
            record { frame = o.frame; before = o.before; sender = o.sender ∙ sym same; term = subst (λ t. t ≤ x.epoch) (sym term) o.term });
        acks = none_acked d'.epoch (omega arith) xs ys;
        known = record { holder = holder; none_later = below };
        counted = (next, p.counted);
        floors = (floor, p.floors);
        floor = high;
      }
    where
      term : term_from d' (d ∷ ds) ≡ term_from d ds
      term = holder_term d' d ds same

  -- the other takes the duty
  pub keeps_taken : (d' : Duty) (known' : NodeName → ℕ) → d.mode ≡ Both → d'.epoch ≡ suc d.epoch → d'.holder ≡ other d.holder → d'.mode ≡ Alone → d.floor ≤ d'.floor → d'.floor ≤ length ys → ((n : NodeName) → known_by n ≤ known' n) → ((n : NodeName) → known' n ≤ d'.epoch) → known' d'.holder ≡ d'.epoch → Parts due d' (d ∷ ds) ys ys xs known' ms 0 0
  keeps_taken d' known' both next taker alone floor high grows below holder =
      record {
        booked = record { legal = Legal-Begins due xs ys before.begins p.booked.legal; begins = Begins-refl ys; one_more = omega arith };
        step = subst (λ m. InStep m d'.epoch (term_from d' (d ∷ ds)) ys ys xs) (sym alone) (subst (λ t. Follows t ys xs) (sym term) follows);
        agree = Agree-sym p.agree;
        time = later_time d'.epoch (omega arith) ys xs p.time.others p.time.mine;
        names = λ k f g nf ng. p.names k f g (named k f nf) (named k g ng);
        ships = λ x i later.
            absurd (
            let g = grows (other x.sender) in
            let o = p.ships x i (omega arith) in
            let top = p.time.ships x i in
            let to : known' (other x.sender) ≡ known' d'.holder = ap known' (ap other o.sender ∙ sym taker) in
            omega arith);
        acks = none_acked d'.epoch (omega arith) ys xs;
        known = record { holder = holder; none_later = below };
        counted = (next, p.counted);
        floors = (floor, p.floors);
        floor = high;
      }
    where
      before : StepsBoth d.epoch h xs ys
      before = subst (λ m. InStep m d.epoch (term_from d ds) h xs ys) both p.step

      term : term_from d' (d ∷ ds) ≡ d'.epoch
      term = taker_term d' d ds taker

      named : (k : ℕ) (f : Frame E) → Named ys xs ms k f → Named xs ys ms k f
      named k f (inl a) = inr (inl a)
      named k f (inr (inl a)) = inl a
      named k f (inr (inr m)) = inr (inr m)

      shared : Shares (length ys) ys xs
      shared = Shares-sym (Begins-Shares before.begins)

      follows : Follows d'.epoch ys xs
      follows = elim (within_or_next (length xs) (length ys) (omega (arith, p.booked.one_more, Begins-length before.holds))) [
        | inl same ↦ inl (Shares-Begins shared (omega (arith, shared.right)))
        | inr more ↦ inr (record {
          at = length ys;
          long = more;
          shared = shared;
          old = (let e = p.time.mine.below (suc (length ys)) (omega arith) in omega arith);
          past = λ k far within. absurd (omega arith);
        })
      ]
