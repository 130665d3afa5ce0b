-- A run that begins at a moment of an event begins after a halt of it.
use Rattle.std.proofs.Common.{◌≡◌, ◌⊎◌, inl, inr, true, List, [], ◌∷◌, ◌++◌, refl, sym, ◌∙◌, subst, Option, Some, None}
use Rattle.ali_base.specs.declared.names.NodeName.{NodeName}
use Rattle.ali_base.specs.declared.names.NodeName.TheVariants.{A, B}
use Rattle.ali_base.specs.declared.duty.Duty.{Duty}
use Rattle.pair_world.specs.Frames.{Frame, OnItem, item_at}
use Rattle.pair_world.specs.World.{Message, Ships, Acks, is_up, FailedWrites, failed_write_at, put_failed_write, World, MayHold, MayRead}
use Rattle.pair_world.specs.Changes.{read_failed, write_failed, register_failed}
use Rattle.pair_world.specs.Step.{Event, Write, Ship, Deliver, Drop, Book, Take, Go_alone, Pair_up, Stop, Start, Start_duty, Ask, Halted, Bounds, OnShipment, FailsToStore, Fails, Halts, Turn, Runs}
use Rattle.pair_world.specs.SoundWorld.{IsSound}
use Rattle.pair_world.specs.Moments.{IsUnderWay, IsMoment, IsMomentIn}
use Rattle.pair_world.proofs.Doubts.{down_journal}
use Rattle.pair_world.proofs.SoundSteps.{schedule_is_sound}
use Rattle.pair_world.proofs.Items.{none_some}

-- each list that the one world gives a disk is one that the other gives it
pub record Wider {E : Type 0} (u v : World E) : Type 0 where
  pub disks : (n : NodeName) (j : List (Frame E)) → MayHold u n j → MayHold v n j
  pub register : (d : Duty) (ds : List Duty) → MayRead u d ds → MayRead v d ds

module _ {E : Type 0} where
  wider_same : (u v : World E) → u ≡ v → Wider u v
  wider_same u v e = subst (Wider u) e (record { disks = λ n j h. h; register = λ d ds h. h })

  wider_trans : (u v w : World E) → Wider u v → Wider v w → Wider u w
  wider_trans u v w a b = record { disks = λ n j h. b.disks n j (a.disks n j h); register = λ d ds h. b.register d ds (a.register d ds h) }

  -- another node's failed write stays
  put_keeps : (o : FailedWrites E) (n m : NodeName) (j k : List (Frame E)) → failed_write_at o n ≡ None → failed_write_at o m ≡ Some k → failed_write_at (put_failed_write o n (Some j)) m ≡ Some k
  put_keeps o A A j k none is = absurd (none_some k (sym none ∙ is))
  put_keeps o A B j k none is = is
  put_keeps o B A j k none is = is
  put_keeps o B B j k none is = absurd (none_some k (sym none ∙ is))

module _ {E : Type 0} (due : List E → E → Type 0) (w : World E) (s : IsSound due w) where
  -- a read that failed leaves each list
  read_narrow : (n : NodeName) → Wider (read_failed w n) w
  read_narrow n = record {
    disks = λ m j h. elim h [ inl is ↦ inl (sym (down_journal n m w.base.nodes) ∙ is) | inr is ↦ inr is ];
    register = λ d ds h. h;
  }

  read_wide : (n : NodeName) → Wider w (read_failed w n)
  read_wide n = record {
    disks = λ m j h. elim h [ inl is ↦ inl (down_journal n m w.base.nodes ∙ is) | inr is ↦ inr is ];
    register = λ d ds h. h;
  }

  write_wide : (n : NodeName) (j : List (Frame E)) → is_up w.base n → Wider w (write_failed w n j)
  write_wide n j up = record {
    disks = λ m k h. elim h [
      | inl is ↦ inl (down_journal n m w.base.nodes ∙ is)
      | inr is ↦ inr (put_keeps w.failed_writes n m j k (s.one_journal n up) is)
    ];
    register = λ d ds h. h;
  }

  register_wide : (d : Duty) → w.register_up ≡ true → Wider w (register_failed w d)
  register_wide d reg = record {
    disks = λ n j h. h;
    register = λ e ds h. elim h [ inl is ↦ inl is | inr is ↦ absurd (none_some e (sym (s.one_duty reg) ∙ is.0)) ];
  }

  same_wide : (u v : World E) → u ≡ v → Wider w v → Wider w u
  same_wide u v e h = subst (Wider w) (sym e) h

  same_narrow : (u v : World E) → u ≡ v → Wider v w → Wider u w
  same_narrow u v e h = subst (λ z. Wider z w) (sym e) h

module _ {E Q : Type 0} (due : List E → E → Type 0) (bounds : Bounds) (w : World E) (s : IsSound due w) where
  -- a fault takes no list away
  fault_wide : (e : Event E Q) (u : World E) → Fails due bounds w e u → Wider w u
  fault_wide (Write e) u g = elim g.1 [
    | inl read ↦ same_wide due w s u _ read.1 (read_wide due w s w.base.duty.holder)
    | inr wrote ↦ same_wide due w s u _ wrote.1 (write_wide due w s w.base.duty.holder _ wrote.0.up)
  ]
  fault_wide (Ship k) u g = same_wide due w s u _ g.2 (read_wide due w s w.base.duty.holder)
  fault_wide (Deliver i) u g = by_item (item_at w.base.messages i) g.1
    where
      by_item : (o : Option (Message E)) → OnItem o (λ m. OnShipment m (λ x. FailsToStore w x u)) → Wider w u
      by_item None h = absurd h
      by_item (Some (Acks a)) h = absurd h
      by_item (Some (Ships x)) (inl read) = same_wide due w s u _ read.1 (read_wide due w s _)
      by_item (Some (Ships x)) (inr wrote) = same_wide due w s u _ wrote.1 (write_wide due w s _ _ wrote.0.up)
  fault_wide (Drop i) u g = absurd g
  fault_wide Book u g = same_wide due w s u _ g.2 (read_wide due w s w.base.duty.holder)
  fault_wide (Take n) u g = elim g.1 [
    | inl read ↦ same_wide due w s u _ read.1 (read_wide due w s n)
    | inr wrote ↦ same_wide due w s u _ wrote.1 (register_wide due w s _ g.0)
  ]
  fault_wide Go_alone u g = same_wide due w s u _ g.2 (register_wide due w s _ g.0)
  fault_wide Pair_up u g = same_wide due w s u _ g.2 (register_wide due w s _ g.0)
  fault_wide (Stop n) u g = absurd g
  fault_wide (Start n) u g = wider_same w u (sym g.2)
  fault_wide Start_duty u g = elim g.1 [
    | inl same ↦ wider_same w u (sym same)
    | inr read ↦ same_wide due w s u _ read.4 (read_wide due w s read.0.holder)
  ]
  fault_wide (Ask n r since) u g = same_wide due w s u _ g.1 (read_wide due w s n)

  -- of two faults of one event, one leaves each list, or both leave the same
  faults_alike : (e : Event E Q) (u v : World E) → Fails due bounds w e u → Fails due bounds w e v → Wider u w ⊎ (Wider v w ⊎ (u ≡ v))
  faults_alike (Write e) u v (reg, inl read) g = inl (same_narrow due w s u _ read.1 (read_narrow due w s w.base.duty.holder))
  faults_alike (Write e) u v (reg, inr wrote) (reg', inl read) = inr (inl (same_narrow due w s v _ read.1 (read_narrow due w s w.base.duty.holder)))
  faults_alike (Write e) u v (reg, inr wrote) (reg', inr also) = inr (inr (wrote.1 ∙ sym also.1))
  faults_alike (Ship k) u v f g = inl (same_narrow due w s u _ f.2 (read_narrow due w s w.base.duty.holder))
  faults_alike (Deliver i) u v f g = by_item (item_at w.base.messages i) f.1 g.1
    where
      by_item : (o : Option (Message E)) → OnItem o (λ m. OnShipment m (λ x. FailsToStore w x u)) → OnItem o (λ m. OnShipment m (λ x. FailsToStore w x v)) → Wider u w ⊎ (Wider v w ⊎ (u ≡ v))
      by_item None h k = absurd h
      by_item (Some (Acks a)) h k = absurd h
      by_item (Some (Ships x)) (inl read) k = inl (same_narrow due w s u _ read.1 (read_narrow due w s _))
      by_item (Some (Ships x)) (inr wrote) (inl read) = inr (inl (same_narrow due w s v _ read.1 (read_narrow due w s _)))
      by_item (Some (Ships x)) (inr wrote) (inr also) = inr (inr (wrote.1 ∙ sym also.1))
  faults_alike (Drop i) u v f g = absurd f
  faults_alike Book u v f g = inl (same_narrow due w s u _ f.2 (read_narrow due w s w.base.duty.holder))
  faults_alike (Take n) u v (reg, inl read) g = inl (same_narrow due w s u _ read.1 (read_narrow due w s n))
  faults_alike (Take n) u v (reg, inr wrote) (reg', inl read) = inr (inl (same_narrow due w s v _ read.1 (read_narrow due w s n)))
  faults_alike (Take n) u v (reg, inr wrote) (reg', inr also) = inr (inr (wrote.1 ∙ sym also.1))
  faults_alike Go_alone u v f g = inr (inr (f.2 ∙ sym g.2))
  faults_alike Pair_up u v f g = inr (inr (f.2 ∙ sym g.2))
  faults_alike (Stop n) u v f g = absurd f
  faults_alike (Start n) u v f g = inl (wider_same u w f.2)
  faults_alike Start_duty u v (reg, inl same) g = inl (wider_same u w same)
  faults_alike Start_duty u v (reg, inr read) g = inl (same_narrow due w s u _ read.4 (read_narrow due w s read.0.holder))
  faults_alike (Ask n r since) u v f g = inl (same_narrow due w s u _ f.1 (read_narrow due w s n))

  -- two worlds of one moment have a third that gives each disk the lists of both
  join : (e : Event E Q) (u v : World E) → IsUnderWay due bounds w e u → IsUnderWay due bounds w e v → (x : World E) × IsUnderWay due bounds w e x × Wider u x × Wider v x
  join e u v (inl a) (inl b) = (w, inl refl, wider_same u w a, wider_same v w b)
  join e u v (inl a) (inr g) = (v, inr g, wider_trans u w v (wider_same u w a) (fault_wide e v g), wider_same v v refl)
  join e u v (inr f) (inl b) = (u, inr f, wider_same u u refl, wider_trans v w u (wider_same v w b) (fault_wide e u f))
  join e u v (inr f) (inr g) = elim (faults_alike e u v f g) [
    | inl a ↦ (v, inr g, wider_trans u w v a (fault_wide e v g), wider_same v v refl)
    | inr (inl b) ↦ (u, inr f, wider_same u u refl, wider_trans v w u b (fault_wide e u f))
    | inr (inr same) ↦ (u, inr f, wider_same u u refl, wider_same v u (sym same))
  ]

  -- a moment of an event is a halt of it
  pub moment_halts : (e : Event E Q) (v : World E) → IsMoment due bounds w e v → Halts due bounds w e v
  moment_halts e v m =
      let disks = join e m.disk_a.0 m.disk_b.0 m.disk_a.1 m.disk_b.1 in
      let all = join e disks.0 m.register.0 disks.1 m.register.1 in (
        all.0,
        all.1,
        record {
          duty = m.duty;
          past = m.past;
          journal_a = m.journal_a;
          journal_b = m.journal_b;
          register = all.3.register m.duty m.past m.register.2;
          disk_a = all.2.disks A m.journal_a (disks.2.disks A m.journal_a m.disk_a.2);
          disk_b = all.2.disks B m.journal_b (disks.3.disks B m.journal_b m.disk_b.2);
          opens = m.opens;
        },
      )

module _ {E Q R : Type 0} (due : List E → E → Type 0) (form : List E → Q → R) (bounds : Bounds) where
  -- one schedule after another
  runs_on : (w u v : World E) (ts more : List (Turn E Q R)) → Runs due form bounds w ts u → Runs due form bounds u more v → Runs due form bounds w (ts ++ more) v
  runs_on w u v [] more r q = subst (λ z. Runs due form bounds z more v) (sym r) q
  runs_on w u v (t ∷ ts) more r q = (r.0, r.1, runs_on r.0 u v ts more r.2 q)

  pub moment_runs : (w v : World E) (turns : List (Turn E Q R)) (event : Event E Q) → IsSound due w → IsMomentIn due form bounds w turns event v → Runs due form bounds w (turns ++ record { event = event; outcome = Halted } ∷ []) v
  moment_runs w v turns event s m =
      runs_on w m.0 v turns (record { event = event; outcome = Halted } ∷ []) m.1
      (v, moment_halts due bounds m.0 (schedule_is_sound due form bounds w m.0 turns s m.1) event v m.2, refl)
