-- The laws as lemmas over sound worlds, for the proofs of later crates.
use Rattle.std.proofs.Common.{◌≡◌, ◌<◌, List, length, sym, subst}
use Rattle.ali_base.specs.declared.names.NodeName.{NodeName}
use Rattle.ali_base.specs.declared.names.NodeName.TheVariants.{A, B}
use Rattle.ali_base.specs.declared.duty.Mode.TheVariants.{Both}
use Rattle.ali_base.specs.declared.duty.Duty.{Duty}
use Rattle.pair_world.specs.Frames.{Frame, Begins, Legal}
use Rattle.pair_world.specs.World.{Resolved, World, Choice, node_at, holder_journal, other_journal, MayHold, MayRead, IsReopened, unrecovered, resolved, opened, formatted, without_doubt, with_nodes, picked_nodes}
use Rattle.pair_world.specs.Step.{Event, Outcome, Done, Take, Pair_up, Bounds, Turn, ResolvedStep, Fails, Step, Runs}
use Rattle.pair_world.specs.SoundWorld.{Invariant, IsSound, Booked}
use Rattle.pair_world.specs.FaultOrigin.{ComesFrom}
use Rattle.pair_world.proofs.Worlds.{caught_up, formatted_sound, halt_sound}
use Rattle.pair_world.proofs.Doubts.{same_step}
use Rattle.pair_world.proofs.Reopening.{without_doubt_kept, reopened_keeps, base_sound, held_begins, own_begins}
use Rattle.pair_world.proofs.Schedules.{fails, step_keeps, runs_keep}
use Rattle.pair_world.proofs.NineParts.{parts_from, parts_of, kept_from, sound_of}
use Rattle.pair_world.proofs.Duties.{takeover, pair}
use Rattle.pair_world.proofs.Origins.{fault_origin}

module _ {E : Type 0} (due : List E → E → Type 0) where
  -- a world without doubt is sound where it has the invariant
  pub sound_without_doubt : (w : Resolved E) → Invariant due w → IsSound due (without_doubt w)
  sound_without_doubt w i = sound_of due (without_doubt w) (without_doubt_kept due w (parts_from due w i))

  pub formatted_is_sound : IsSound due (without_doubt formatted)
  formatted_is_sound = sound_of due (without_doubt formatted) (without_doubt_kept due formatted (formatted_sound due))

  pub opened_has_parts : (w : Resolved E) → Invariant due w → Invariant due (opened w.duty w.past w.nodes.a.journal w.nodes.b.journal)
  opened_has_parts w i = parts_of due (opened w.duty w.past w.nodes.a.journal w.nodes.b.journal) (halt_sound due w (parts_from due w i))

  pub caught_up_is_equal : (w : Resolved E) → Invariant due w → length (holder_journal w) < w.ended → other_journal w ≡ holder_journal w
  caught_up_is_equal w i = caught_up due w (parts_from due w i)

  pub reopened_has_parts : (w : World E) → IsSound due w → (duty : Duty) (past : List Duty) (journal_a journal_b : List (Frame E)) → MayRead w duty past → MayHold w A journal_a → MayHold w B journal_b → Invariant due (opened duty past journal_a journal_b) × Begins (opened duty past journal_a journal_b).booked w.base.booked
  reopened_has_parts w s duty past journal_a journal_b register disk_a disk_b =
      let r = reopened_keeps due w (kept_from due w s) duty past journal_a journal_b register disk_a disk_b in
      (parts_of due (opened duty past journal_a journal_b) r.0, r.1)

  -- what a run finds is sound
  pub reopened_is_sound : (w v : World E) → IsSound due w → IsReopened w v → IsSound due v × Begins v.base.booked w.base.booked
  reopened_is_sound w v s r =
      let p = reopened_has_parts w s r.duty r.past r.journal_a r.journal_b r.register r.disk_a r.disk_b in
      subst (λ (z : World E). IsSound due z × Begins z.base.booked w.base.booked) (sym r.opens)
      (sound_without_doubt (opened r.duty r.past r.journal_a r.journal_b) p.0, p.1)

  pub base_has_parts : (w : World E) → IsSound due w → Invariant due w.base
  base_has_parts w s = parts_of due w.base (base_sound due w (kept_from due w s))

  pub history_is_legal : (w : World E) → IsSound due w → Legal due w.base.booked
  history_is_legal w s = ((base_has_parts w s).holds Booked).legal

  -- each journal of the holder's disk begins with the history
  pub holder_begins : (w : World E) (node : NodeName) (journal : List (Frame E)) → IsSound due w → node ≡ w.base.duty.holder → MayHold w node journal → Begins journal w.base.booked
  holder_begins w node journal s own may = own_begins due w (kept_from due w s) node journal own may

  -- in mode Both each journal that a disk may hold begins with the history
  pub journals_begin : (w : World E) (node : NodeName) (journal : List (Frame E)) → IsSound due w → w.base.duty.mode ≡ Both → MayHold w node journal → Begins journal w.base.booked
  journals_begin w node journal s both may = held_begins due w (kept_from due w s) node journal both may

module _ {E : Type 0} (due : List E → E → Type 0) (bounds : Bounds) (w : World E) (s : IsSound due w) where
  pub step_alike : {Q : Type 0} (event : Event E Q) (done : Resolved E) → ResolvedStep due bounds w.base event done → (choice : Choice) → ResolvedStep due bounds (unrecovered choice w) event (with_nodes done (picked_nodes choice w.failed_writes done.nodes))
  step_alike event done does choice = same_step due w (kept_from due w s) bounds event done does choice

  pub fault_comes_from : {Q : Type 0} (event : Event E Q) (v : World E) → Fails due bounds w event v → (choice : Choice) → ComesFrom due bounds event w v choice
  fault_comes_from event v failed choice = fault_origin due bounds w (kept_from due w s) event v failed choice

  pub fault_is_sound : {Q : Type 0} (event : Event E Q) (v : World E) → Fails due bounds w event v → IsSound due v
  fault_is_sound event v failed = sound_of due v (fails due bounds w (kept_from due w s) event v failed).0

module _ {E Q R : Type 0} (due : List E → E → Type 0) (form : List E → Q → R) (bounds : Bounds) where
  pub step_is_sound : (w v : World E) (event : Event E Q) (outcome : Outcome R) → IsSound due w → Step due form bounds w event outcome v → IsSound due v
  step_is_sound w v event outcome s step = sound_of due v (step_keeps due form bounds w (kept_from due w s) event outcome v step).0

  pub schedule_is_sound : (w v : World E) (turns : List (Turn E Q R)) → IsSound due w → Runs due form bounds w turns v → IsSound due v
  schedule_is_sound w v turns s runs = sound_of due v (runs_keep due form bounds w (kept_from due w s) turns v runs).0

  pub step_grows : (w v : World E) (event : Event E Q) (outcome : Outcome R) → IsSound due w → Step due form bounds w event outcome v → Begins v.base.booked w.base.booked
  step_grows w v event outcome s step = (step_keeps due form bounds w (kept_from due w s) event outcome v step).1

  pub schedule_grows : (w v : World E) (turns : List (Turn E Q R)) → IsSound due w → Runs due form bounds w turns v → Begins v.base.booked w.base.booked
  schedule_grows w v turns s runs = (runs_keep due form bounds w (kept_from due w s) turns v runs).1

  pub takeover_books : (w v : World E) (node : NodeName) → IsSound due w → Step due form bounds w (Take node) Done v → (v.base.booked ≡ (node_at w.base.nodes node).journal) × Begins v.base.booked w.base.booked
  takeover_books w v node s step = takeover due bounds w (kept_from due w s) node v step

  pub pair_is_equal : (w v : World E) (choice : Choice) → IsSound due w → Step due form bounds w Pair_up Done v → (holder_journal (resolved choice v) ≡ v.base.booked) × (other_journal (resolved choice v) ≡ v.base.booked)
  pair_is_equal w v choice s step = pair due bounds w (kept_from due w s) v step choice
