-- The small moves that events are made of, each of which keeps the nine parts.
use Rattle.std.proofs.Common.{◌≡◌, ℕ, suc, ◌≤◌, ◌⊎◌, inl, inr, Bool, true, false, List, [], ◌∷◌, ◌++◌, length, refl, ap, sym, ◌∙◌, subst, arith, Option, Some, None}
use Rattle.std.specs.Prelude.{slice_get}
use Rattle.std.proofs.lemmas.List.{take-append-le, length_push}
use Rattle.ali_base.specs.declared.names.NodeName.{NodeName}
use Rattle.ali_base.specs.declared.duty.Mode.{Mode}
use Rattle.ali_base.specs.declared.duty.Mode.TheVariants.{Both, Alone}
use Rattle.ali_base.specs.declared.duty.Duty.{Duty}
use Rattle.pair_world.specs.Frames.{Frame, entries, epoch_at, Begins, Shares, Agree, In}
use Rattle.pair_world.specs.World.{other, Shipment, Ack, Message, Ships, Acks, term_from}
use Rattle.pair_world.specs.SoundWorld.{Named, NamesOne, Tells, HasEnd, AckHolds}
use Rattle.pair_world.proofs.Parts.{Follows, InStep, TimeParts, IsOfTerm, AreOfTerm, AckedParts, Parts}
use Rattle.pair_world.proofs.Items.{within_or_next, In-append, slice_get_within, Begins-get, slice_none, slice_push, slice_more, slice_end}
use Rattle.pair_world.proofs.Lists.{epoch_is, epoch_at-append, push_epoch, Shares-more, Begins-length, Begins-trans, Begins-more, Begins-Agree, Rising-Begins, Rising-push, Legal-push}
use Rattle.pair_world.proofs.Terms.{term_low}
use Rattle.pair_world.proofs.Items.{ship_is, ack_is}

says_itself : {E : Type 0} (xs : List (Frame E)) (x : Shipment E) → x.preceding ≤ length xs → (o : Option (Frame E)) → slice_get xs x.preceding ≡ o → Tells xs x o
says_itself xs x fits (Some f) is = is
says_itself xs x fits None is = (fits, λ k more within. absurd (omega (arith, slice_none xs x.preceding is)))

module _ {E : Type 0} {due : List E → E → Type 0} {d : Duty} {ds : List Duty} {h xs ys : List (Frame E)} {known_by : NodeName → ℕ} {ms : List (Message E)} {reached ended : ℕ} (p : Parts due d ds h xs ys known_by ms reached ended) where
  -- a node learns of an epoch
  pub keeps_known : (known' : NodeName → ℕ) → ((n : NodeName) → known_by n ≤ known' n) → ((n : NodeName) → known' n ≤ d.epoch) → Parts due d ds h xs ys known' ms reached ended
  keeps_known known' grows below =
      record {
        booked = p.booked;
        step = p.step;
        agree = p.agree;
        time = p.time;
        names = p.names;
        acks = p.acks;
        counted = p.counted;
        floors = p.floors;
        floor = p.floor;
        ships = λ x i later. p.ships x i (let g = grows (other x.sender) in omega arith);
        known = record { holder = (let g = grows d.holder in let b = below d.holder in let k = p.known.holder in omega arith); none_later = below };
      }

  -- only the messages and the acknowledged numbers change
  with_messages : (ms' : List (Message E)) (reached' ended' : ℕ) → TimeParts d.epoch xs ys ms' → NamesOne xs ys ms' → AreOfTerm d.holder (term_from d ds) known_by xs ms' → AckedParts d.epoch xs ys ms' reached' ended' → Parts due d ds h xs ys known_by ms' reached' ended'
  with_messages ms' reached' ended' time names ships acks =
      record {
        booked = p.booked;
        step = p.step;
        agree = p.agree;
        known = p.known;
        counted = p.counted;
        floors = p.floors;
        floor = p.floor;
        time = time;
        names = names;
        ships = ships;
        acks = acks;
      }

  -- a frame that messages name is named still, where their shipments were sent before
  named_before : (ms' : List (Message E)) → ((x : Shipment E) → In ms' (Ships x) → In ms (Ships x)) → NamesOne xs ys ms'
  named_before ms' sent k f g nf ng = p.names k f g (named f nf) (named g ng)
    where
      named : (f : Frame E) → Named xs ys ms' k f → Named xs ys ms k f
      named f (inl a) = inl a
      named f (inr (inl a)) = inr (inl a)
      named f (inr (inr m)) = inr (inr (m.0, sent m.0 m.1, m.2, m.3))

  -- messages are lost
  pub keeps_lost : (ms' : List (Message E)) → ((m : Message E) → In ms' m → In ms m) → Parts due d ds h xs ys known_by ms' reached ended
  keeps_lost ms' less =
      with_messages ms' reached ended
      (record { mine = p.time.mine; others = p.time.others; ships = λ x i. p.time.ships x (less (Ships x) i); frames = λ x f i. p.time.frames x f (less (Ships x) i); acks = λ a i. p.time.acks a (less (Acks a) i) })
      (named_before ms' (λ x i. less (Ships x) i))
      (λ x i. p.ships x (less (Ships x) i))
      (record { acked = p.acks.acked; ended = p.acks.ended; acks = λ a i. p.acks.acks a (less (Acks a) i) })

  -- the other's journal moves
  pub keeps_moved : (ys' : List (Frame E)) → Begins xs ys' → ((m : ℕ) → Shares m xs ys → Shares m xs ys') → (d.mode ≡ Both → Begins ys' h) → Parts due d ds h xs ys' known_by ms reached ended
  keeps_moved ys' b more both =
      record {
        booked = p.booked;
        ships = p.ships;
        known = p.known;
        counted = p.counted;
        floors = p.floors;
        floor = p.floor;
        step = in_step d.mode p.step both;
        agree = Begins-Agree b;
        time = record { mine = p.time.mine; ships = p.time.ships; frames = p.time.frames; acks = p.time.acks; others = Rising-Begins d.epoch xs ys' b p.time.mine };
        names = λ k f g nf ng. p.names k f g (named k f nf) (named k g ng);
        acks = record {
          acks = λ a i now. fits a.end a.preceding (p.acks.acks a i now);
          acked = more reached p.acks.acked;
          ended = λ k is. record { shares = more k (p.acks.ended k is).shares; begins = b };
        };
      }
    where
      in_step : (m : Mode) → InStep m d.epoch (term_from d ds) h xs ys → (m ≡ Both → Begins ys' h) → InStep m d.epoch (term_from d ds) h xs ys'
      in_step Both s both = record { holds = both refl; begins = b; fresh = s.fresh }
      in_step Alone s both = inl b

      named : (k : ℕ) (f : Frame E) → Named xs ys' ms k f → Named xs ys ms k f
      named k f (inl a) = inl a
      named k f (inr (inl a)) = inl (Begins-get xs ys' k f b.front a)
      named k f (inr (inr m)) = inr (inr m)

      fits : (end : Bool) (place : ℕ) → AckHolds end place xs ys → AckHolds end place xs ys'
      fits true place a = record { shares = more place a.shares; begins = b }
      fits false place a = more (suc place) a

  -- an acknowledgement is sent
  pub keeps_ack : (a : Ack) → a.epoch ≤ d.epoch → (a.epoch ≡ d.epoch → AckHolds a.end a.preceding xs ys) → Parts due d ds h xs ys known_by (ms ++ Acks a ∷ []) reached ended
  keeps_ack a below fits =
      with_messages (ms ++ Acks a ∷ []) reached ended
      (record {
        mine = p.time.mine;
        others = p.time.others;
        ships = λ x i. p.time.ships x (old_ship x i);
        frames = λ x f i. p.time.frames x f (old_ship x i);
        acks = λ c i. elim (In-append ms (Acks a) (Acks c) i) [ inl o ↦ p.time.acks c o | inr e ↦ subst (λ z. z.epoch ≤ d.epoch) (ack_is a c e) below ];
      })
      (named_before (ms ++ Acks a ∷ []) old_ship)
      (λ x i. p.ships x (old_ship x i))
      (record {
        acked = p.acks.acked;
        ended = p.acks.ended;
        acks = λ c i. elim (In-append ms (Acks a) (Acks c) i) [ inl o ↦ p.acks.acks c o | inr e ↦ subst (λ z. z.epoch ≡ d.epoch → AckHolds z.end z.preceding xs ys) (ack_is a c e) fits ];
      })
    where
      old_ship : (x : Shipment E) → In (ms ++ Acks a ∷ []) (Ships x) → In ms (Ships x)
      old_ship x i = elim (In-append ms (Acks a) (Ships x) i) [ inl o ↦ o | inr e ↦ absurd (cc) ]

  -- an acknowledgement is heard, or the numbers are cleared
  pub keeps_heard : (reached' ended' : ℕ) → Shares reached' xs ys → ((k : ℕ) → ended' ≡ suc k → HasEnd k xs ys) → Parts due d ds h xs ys known_by ms reached' ended'
  keeps_heard reached' ended' acked end = with_messages ms reached' ended' p.time p.names p.ships (record { acks = p.acks.acks; acked = acked; ended = end })

  since_le : term_from d ds ≤ d.epoch
  since_le = term_low d ds p.counted

  -- a shipment is sent
  pub keeps_shipped : (x : Shipment E) → x.sender ≡ d.holder → x.epoch ≡ d.epoch → x.preceding ≤ length xs → x.before ≡ epoch_at xs x.preceding → x.frame ≡ slice_get xs x.preceding → Parts due d ds h xs ys known_by (ms ++ Ships x ∷ []) reached ended
  keeps_shipped x from now fits before frame =
      with_messages (ms ++ Ships x ∷ []) reached ended
      (record {
        mine = p.time.mine;
        others = p.time.others;
        ships = λ z i. elim (In-append ms (Ships x) (Ships z) i) [ inl o ↦ p.time.ships z o | inr e ↦ subst (λ (z : Shipment E). z.epoch ≤ d.epoch) (ship_is x z e) (omega arith) ];
        frames = λ z f i is. elim (In-append ms (Ships x) (Ships z) i) [ inl o ↦ p.time.frames z f o is | inr e ↦ frame_in_time z f (ship_is x z e) is ];
        acks = λ a i. p.time.acks a (old_ack a i);
      })
      (λ k f g nf ng. p.names k f g (named k f nf) (named k g ng))
      (λ z i later. elim (In-append ms (Ships x) (Ships z) i) [ inl o ↦ p.ships z o later | inr e ↦ subst (λ (z : Shipment E). IsOfTerm d.holder (term_from d ds) xs z) (ship_is x z e) of_term ])
      (record { acked = p.acks.acked; ended = p.acks.ended; acks = λ a i. p.acks.acks a (old_ack a i) })
    where
      of_term : IsOfTerm d.holder (term_from d ds) xs x
      of_term = record { sender = from; term = omega (arith, since_le); frame = says_itself xs x fits x.frame (sym frame); before = before }

      old_ack : (a : Ack) → In (ms ++ Ships x ∷ []) (Acks a) → In ms (Acks a)
      old_ack a i = elim (In-append ms (Ships x) (Acks a) i) [ inl o ↦ o | inr e ↦ absurd (cc) ]

      frame_in_time : (z : Shipment E) (f : Frame E) → x ≡ z → z.frame ≡ Some f → f.epoch ≤ z.epoch
      frame_in_time z f e is =
          let own : slice_get xs x.preceding ≡ Some f = sym frame ∙ ap (λ (z : Shipment E). z.frame) e ∙ is in
          let at = epoch_is xs x.preceding f own in
          let top = p.time.mine.below (suc x.preceding) (omega (arith, slice_get_within xs x.preceding f own)) in
          let ep : x.epoch ≡ z.epoch = ap (λ (z : Shipment E). z.epoch) e in
          omega arith

      named : (k : ℕ) (f : Frame E) → Named xs ys (ms ++ Ships x ∷ []) k f → Named xs ys ms k f
      named k f (inl n) = inl n
      named k f (inr (inl n)) = inr (inl n)
      named k f (inr (inr m)) = elim (In-append ms (Ships x) (Ships m.0) m.1) [
        | inl o ↦ inr (inr (m.0, o, m.2, m.3))
        | inr e ↦ inl (own m.0 (ship_is x m.0 e) m.2 m.3)
      ]
        where
          own : (z : Shipment E) → x ≡ z → z.preceding ≡ k → z.frame ≡ Some f → slice_get xs k ≡ Some f
          own z e place is = ap (slice_get xs) (sym (ap (λ (z : Shipment E). z.preceding) e ∙ place)) ∙ sym frame ∙ ap (λ (z : Shipment E). z.frame) e ∙ is

  -- the other has no frame at the holder's next place of the present epoch
  no_newer : (k : ℕ) → k ≡ suc (length xs) → k ≤ length ys → epoch_at ys k ≡ d.epoch → ⊥
  no_newer k next within is = by_mode d.mode p.step
    where
      by_follows : Follows (term_from d ds) xs ys → ⊥
      by_follows (inl b) = absurd (omega (arith, Begins-length b))
      by_follows (inr t) =
          let here : k ≡ suc t.at = omega (arith, t.long, t.shared.left) in
          let old = t.old in
          let same : epoch_at ys k ≡ epoch_at ys (suc t.at) = ap (epoch_at ys) here in
          absurd (omega (arith, since_le))

      by_mode : (m : Mode) → InStep m d.epoch (term_from d ds) h xs ys → ⊥
      by_mode Both s = by_follows (inl s.begins)
      by_mode Alone s = by_follows s

  -- the holder writes
  pub keeps_written : (f : Frame E) → f.epoch ≡ d.epoch → length xs ≡ length h → due (entries xs) f.entry → Parts due d ds h (xs ++ f ∷ []) ys known_by ms reached ended
  keeps_written f now nothing_pending next =
      record {
        known = p.known;
        counted = p.counted;
        floors = p.floors;
        floor = p.floor;
        booked = record {
          legal = Legal-push due xs f next p.booked.legal;
          begins = Begins-trans (Begins-more xs (f ∷ [])) p.booked.begins;
          one_more = omega (arith, length_push xs f);
        };
        step = step_on d.mode p.step;
        agree = agree;
        time = record { others = p.time.others; ships = p.time.ships; frames = p.time.frames; acks = p.time.acks; mine = Rising-push d.epoch xs f now p.time.mine };
        names = names;
        ships = λ x i later. (let o = p.ships x i later in record {
          sender = o.sender;
          term = o.term;
          frame = says x x.frame o.frame (p.time.ships x i);
          before = o.before ∙ sym (epoch_at-append x.preceding xs (f ∷ []) (said_within x x.frame o.frame));
        });
        acks = record {
          acks = λ a i at. fits a.end a.preceding (p.acks.acks a i at);
          acked = Shares-more (f ∷ []) p.acks.acked;
          ended = λ k is. end_fits k (p.acks.ended k is);
        };
      }
    where
      end_fits : (k : ℕ) → HasEnd k xs ys → HasEnd k (xs ++ f ∷ []) ys
      end_fits k e = record { shares = Shares-more (f ∷ []) e.shares; begins = Begins-trans (Begins-more xs (f ∷ [])) e.begins }

      fits : (end : Bool) (place : ℕ) → AckHolds end place xs ys → AckHolds end place (xs ++ f ∷ []) ys
      fits true place a = end_fits place a
      fits false place a = Shares-more (f ∷ []) a

      said_within : (x : Shipment E) (o : Option (Frame E)) → Tells xs x o → x.preceding ≤ length xs
      said_within x (Some g) is = omega (arith, slice_get_within xs x.preceding g is)
      said_within x None is = is.0

      says : (x : Shipment E) (o : Option (Frame E)) → Tells xs x o → x.epoch ≤ d.epoch → Tells (xs ++ f ∷ []) x o
      says x (Some g) is top = slice_more xs (f ∷ []) x.preceding g is
      says x None is top = (
        omega (arith, is.0, length_push xs f),
        λ k far within. elim (within_or_next k (length xs) (omega (arith, length_push xs f))) [
          | inl old ↦ (let a = epoch_at-append k xs (f ∷ []) old in let b = is.1 k far old in omega arith)
          | inr new ↦ (let a = push_epoch xs f k new in omega arith)
        ],
      )

      classed : (k : ℕ) (g : Frame E) → Named (xs ++ f ∷ []) ys ms k g → Named xs ys ms k g ⊎ ((k ≡ length xs) × (f ≡ g))
      classed k g (inl a) = elim (slice_push xs f g k a) [ inl o ↦ inl (inl o) | inr n ↦ inr n ]
      classed k g (inr o) = inl (inr o)

      not_named : (k : ℕ) (g : Frame E) → k ≡ length xs → Named xs ys ms k g → g.epoch ≡ d.epoch → ⊥
      not_named k g at (inl a) is = slice_end xs k g (omega arith) a
      not_named k g at (inr (inl b)) is = no_newer (suc k) (ap suc at) (slice_get_within ys k g b) (epoch_is ys k g b ∙ is)
      not_named k g at (inr (inr m)) is = by_ship m.0 m.1 m.2 m.3
        where
          by_ship : (x : Shipment E) → In ms (Ships x) → x.preceding ≡ k → x.frame ≡ Some g → ⊥
          by_ship x i place frame =
              let below = p.time.ships x i in
              let above = p.time.frames x g i frame in
              let later = p.known.none_later (other x.sender) in
              let o = p.ships x i (omega arith) in
              slice_end xs x.preceding g (omega arith) (subst (λ o. Tells xs x o) frame o.frame)

      names : NamesOne (xs ++ f ∷ []) ys ms
      names k a b na nb same = by_class (classed k a na) (classed k b nb)
        where
          by_class : Named xs ys ms k a ⊎ ((k ≡ length xs) × (f ≡ a)) → Named xs ys ms k b ⊎ ((k ≡ length xs) × (f ≡ b)) → a ≡ b
          by_class (inl x) (inl y) = p.names k a b x y same
          by_class (inl x) (inr y) = absurd (not_named k a y.0 x (same ∙ sym (ap (λ (z : Frame E). z.epoch) y.1) ∙ now))
          by_class (inr x) (inl y) = absurd (not_named k b x.0 y (sym same ∙ sym (ap (λ (z : Frame E). z.epoch) x.1) ∙ now))
          by_class (inr x) (inr y) = sym x.1 ∙ y.1

      more : Begins (xs ++ f ∷ []) xs
      more = Begins-more xs (f ∷ [])

      follows : Follows (term_from d ds) xs ys → Follows (term_from d ds) (xs ++ f ∷ []) ys
      follows (inl b) = inl (Begins-trans more b)
      follows (inr t) =
          inr (record {
            at = t.at;
            long = t.long;
            old = t.old;
            shared = Shares-more (f ∷ []) t.shared;
            past = λ k far within. elim (within_or_next k (length xs) (omega (arith, length_push xs f))) [
              | inl old ↦ (let a = epoch_at-append k xs (f ∷ []) old in let b = t.past k far old in omega arith)
              | inr new ↦ (let a = push_epoch xs f k new in omega (arith, since_le))
            ];
          })

      step_on : (m : Mode) → InStep m d.epoch (term_from d ds) h xs ys → InStep m d.epoch (term_from d ds) h (xs ++ f ∷ []) ys
      step_on Both s = record { holds = s.holds; begins = Begins-trans more s.begins; fresh = λ k far within. (let a = push_epoch xs f k (omega (arith, length_push xs f)) in omega arith) }
      step_on Alone s = follows s

      agree : Agree (xs ++ f ∷ []) ys
      agree k left right same = elim (within_or_next k (length xs) (omega (arith, length_push xs f))) [
        | inl old ↦ take-append-le k xs (f ∷ []) old ∙ p.agree k old right (sym (epoch_at-append k xs (f ∷ []) old) ∙ same)
        | inr new ↦ absurd (no_newer k new right (sym same ∙ push_epoch xs f k new ∙ now))
      ]

  -- more of the holder's journal is booked, under the same duty
  pub keeps_history : (h' : List (Frame E)) → Begins xs h' → length h ≤ length h' → length xs ≤ suc (length h') → (d.mode ≡ Both → Begins ys h') → Parts due d ds h' xs ys known_by ms reached ended
  keeps_history h' b longer one_more both =
      record {
        agree = p.agree;
        time = p.time;
        names = p.names;
        ships = p.ships;
        acks = p.acks;
        known = p.known;
        counted = p.counted;
        floors = p.floors;
        booked = record { legal = p.booked.legal; begins = b; one_more = one_more };
        step = step_on d.mode p.step both;
        floor = omega (arith, p.floor);
      }
    where
      step_on : (m : Mode) → InStep m d.epoch (term_from d ds) h xs ys → (m ≡ Both → Begins ys h') → InStep m d.epoch (term_from d ds) h' xs ys
      step_on Both s both = record { holds = both refl; begins = s.begins; fresh = λ k far within. s.fresh k (omega arith) within }
      step_on Alone s both = s
