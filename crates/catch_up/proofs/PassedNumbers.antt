-- What passing a frame on says of the two journals, by numbers and epochs.
use Rattle.std.proofs.Common.{◌≡◌, ℕ, zero, suc, ◌-◌, ◌≤◌, List, [], ◌∷◌, ◌++◌, length, take, refl, sym, ap, subst, ◌∙◌, arith, Some, Bool, true, false}
use Rattle.std.specs.Prelude.{slice_index, max, if◌then◌else◌}
use Rattle.std.proofs.lemmas.List.{take-map, map_push}
use Rattle.std.proofs.lemmas.Option.{same_Some}
use Rattle.ali_base.specs.declared.names.NodeName.{NodeName}
use Rattle.crash_disk.specs.DiskState.{DiskState}
use Rattle.node_journal.specs.OpenJournal.{epochs_of}
use Rattle.office_entry.specs.declared.entry.Entry.{Entry}
use Rattle.office_entry.specs.declared.entry.Entry.TheVariants as entry
use Rattle.pair_core.specs.Pair.{node_of, len_of, ended_of}
use Rattle.pair_core.specs.PairAnswers.{IsPassed, ended_after}
use Rattle.pair_core.specs.declared.pair.Pair.{Pair}
use Rattle.pair_node.specs.Decisions.{decision}
use Rattle.pair_node.specs.Messages.{Tells, as_told, as_delivered, as_ack, frame_told}
use Rattle.pair_node.specs.NodeState.{journal_of, known_of}
use Rattle.pair_node.specs.declared.message.Ack.{Ack}
use Rattle.pair_node.specs.declared.message.Delivered.{Delivered}
use Rattle.pair_node.specs.declared.message.Delivered.TheVariants as delivered
use Rattle.pair_node.specs.declared.message.Message.{Message}
use Rattle.pair_node.specs.declared.message.What.{What}
use Rattle.pair_node.specs.declared.message.What.TheVariants as telling
use Rattle.pair_node.specs.declared.node.Node.{Node}
use Rattle.pair_node.proofs.Decided.{decided, fresh, fresh_after, stored_is}
use Rattle.pair_world.specs.Deliveries as deliveries
use Rattle.pair_world.specs.Deliveries.{Answer, answer, told_as, journal_after}
use Rattle.pair_world.specs.Frames.{Frame, epochs, epoch_at}
use Rattle.pair_world.specs.World.{other}
use Rattle.pair_world.proofs.Items.{none_some}
use Rattle.catch_up.specs.CatchUpAnswers.{HasCaughtUp}
use Rattle.catch_up.proofs.Numbers.{Says, IsTold, epochs_after, says}

-- ---- frames with given epochs

framed : List ℕ → List (Frame Entry)
framed [] = []
framed (e ∷ es) = record { entry = entry.Line [] 0 0 []; epoch = e } ∷ framed es

framed_epochs : (es : List ℕ) → epochs (framed es) ≡ es
unfolding framed
framed_epochs [] = refl
framed_epochs (e ∷ es) = ap (λ (l : List ℕ). e ∷ l) (framed_epochs es)

-- the epoch of a frame, by its number
epoch_is : (frames : List (Frame Entry)) (j : ℕ) → 1 ≤ j → epoch_at frames j ≡ slice_index (epochs frames) (j - 1)
epoch_is frames zero low = absurd (omega (arith, low))
epoch_is frames (suc i) low = let back : i ≡ suc i - 1 = omega arith in ap (slice_index (epochs frames)) back

-- ---- the epochs after an answer

stored_epochs : (frames : List (Frame Entry)) (what : What) (f : Frame Entry) (ack : Ack) → frame_told what ≡ Some f → epochs (frames ++ f ∷ []) ≡ epochs_after (epochs frames) (delivered.Stored ack) what
stored_epochs frames (telling.Entry epoch entry) f ack is =
    let told : Frame Entry = record { entry = entry; epoch = epoch } in
    map_push (λ (g : Frame Entry). g.epoch) frames f ∙ ap (λ (g : Frame Entry). epochs frames ++ g.epoch ∷ []) (sym (same_Some told f is))
stored_epochs frames telling.End f ack is = absurd (none_some f is)

left_epochs : (frames : List (Frame Entry)) (m : Message) (a : Answer Entry) (it : Delivered) → it ≡ as_delivered (told_as frames (as_told m) a) → ((f : Frame Entry) → a ≡ deliveries.Stored f → frame_told m.what ≡ Some f) → epochs (journal_after frames a) ≡ epochs_after (epochs frames) it m.what
left_epochs frames m deliveries.Behind it is stored = ap (λ (d : Delivered). epochs_after (epochs frames) d m.what) (sym is)
left_epochs frames m deliveries.Have it is stored = ap (λ (d : Delivered). epochs_after (epochs frames) d m.what) (sym is)
left_epochs frames m (deliveries.Cut left) it is stored =
    let back : left ≡ suc left - 1 = omega arith in
    sym (take-map (λ (f : Frame Entry). f.epoch) left frames) ∙ ap (λ (n : ℕ). take n (epochs frames)) back ∙ ap (λ (d : Delivered). epochs_after (epochs frames) d m.what) (sym is)
left_epochs frames m (deliveries.Stored f) it is stored = stored_epochs frames m.what f (as_ack (deliveries.ack_of (as_told m) false)) (stored f refl) ∙ ap (λ (d : Delivered). epochs_after (epochs frames) d m.what) (sym is)
left_epochs frames m deliveries.Have_end it is stored = ap (λ (d : Delivered). epochs_after (epochs frames) d m.what) (sym is)

module _ {D : Type 0} (state : D → DiskState) where
  told_is : (node : Node D) (k : ℕ) (what : What) → Tells state node k what → IsTold (epochs_of (journal_of node)) k what
  told_is node k (telling.Entry epoch entry) tells = (tells.0, tells.1)
  told_is node k telling.End tells = tells

module _ {D : Type 0} (state : D → DiskState) (old new : Pair D) (n : NodeName) (k : ℕ) (it : Delivered) (passed : IsPassed state old new n k it) (low : 1 ≤ k) where
  abbrev xs : List ℕ
  xs = epochs_of (journal_of (node_of old n))

  abbrev ys : List ℕ
  ys = epochs_of (journal_of (node_of old (other n)))

  abbrev zs : List ℕ
  zs = epochs_of (journal_of (node_of new (other n)))

  late : known_of (node_of old (other n)) ≤ passed.message.epoch
  late = subst (λ (e : ℕ). known_of (node_of old (other n)) ≤ e) (sym passed.made.present) (old.known (other n))

  numbered : 1 ≤ passed.message.number
  numbered = subst (λ (j : ℕ). 1 ≤ j) (sym passed.made.number) low

  answer_is : it ≡ as_delivered (told_as (framed ys) (as_told passed.message) (answer (framed ys) (as_told passed.message)))
  answer_is = passed.stored.answers.0 (framed ys) (framed_epochs ys) ∙ sym (fresh (known_of (node_of old (other n))) (framed ys) passed.message late)

  decision_is : it ≡ decision ys passed.message
  decision_is = answer_is ∙ sym (decided ys passed.message (framed ys) numbered (framed_epochs ys))

  left_is : zs ≡ epochs_after ys it passed.message.what
  left_is =
      sym (passed.stored.left (framed ys) (framed_epochs ys))
      ∙ ap epochs (sym (fresh_after (known_of (node_of old (other n))) (framed ys) passed.message late))
      ∙ left_epochs (framed ys) passed.message (answer (framed ys) (as_told passed.message)) it answer_is (λ f is. stored_is (framed ys) (as_told passed.message) f is)
      ∙ ap (λ (es : List ℕ). epochs_after es it passed.message.what) (framed_epochs ys)

  before_is : 2 ≤ passed.message.number → passed.message.before ≡ slice_index xs (passed.message.number - 1 - 1)
  before_is two =
      let number : passed.message.number ≡ k = passed.made.number in
      let later : 1 ≤ k - 1 = omega arith in
      passed.made.before (framed xs) (framed_epochs xs)
      ∙ epoch_is (framed xs) (k - 1) later
      ∙ ap (λ (es : List ℕ). slice_index es (k - 1 - 1)) (framed_epochs xs)
      ∙ ap (λ (j : ℕ). slice_index xs (j - 1 - 1)) (sym number)

  -- what the answer says of the journals
  pub says_passed : Says xs ys zs k it
  says_passed =
      let told : IsTold xs passed.message.number passed.message.what = subst (λ (j : ℕ). IsTold xs j passed.message.what) (sym passed.made.number) (told_is state (node_of old n) k passed.message.what passed.made.what) in
      let left : zs ≡ epochs_after ys (decision ys passed.message) passed.message.what = subst (λ (d : Delivered). zs ≡ epochs_after ys d passed.message.what) decision_is left_is in
      let said = says xs ys zs passed.message numbered before_is told left in
      subst (λ (j : ℕ). Says xs ys zs j it) passed.made.number (subst (λ (d : Delivered). Says xs ys zs passed.message.number d) (sym decision_is) said)

end_heard : (ack : Ack) (before : ℕ) → ack.end ≡ true → ack.number ≤ ended_after (Some ack) before
end_heard ack before is = subst (λ (b : Bool). ack.number ≤ (if b then max before ack.number else before)) (sym is) (grind arith)

-- where it is the end, the other node has caught up
pub caught_up : {D : Type 0} (state : D → DiskState) (old new : Pair D) (n : NodeName) (k : ℕ) (ack : Ack) → IsPassed state old new n k (delivered.HaveEnd ack) → 1 ≤ k → HasCaughtUp new n (len_of new n)
caught_up state old new n k ack passed low =
    let said = says_passed state old new n k (delivered.HaveEnd ack) passed low in
    let xs = epochs_of (journal_of (node_of old n)) in
    let ys = epochs_of (journal_of (node_of old (other n))) in
    let long : length (epochs_of (journal_of (node_of new n))) ≡ k - 1 = omega (arith, ap length passed.epochs, said.2) in
    let same : length (epochs_of (journal_of (node_of new (other n)))) ≡ length ys = ap length said.5 in
    let number : ack.number ≡ k = said.0 in
    let heard : ack.number ≤ ended_of new = subst (λ (e : ℕ). ack.number ≤ e) (sym passed.ended) (end_heard ack (ended_of old) said.1) in
    record {
      long = refl;
      within = omega (arith, long, same, said.3);
      last = λ some.
          let two : 2 ≤ k = omega arith in
          let back : length (epochs_of (journal_of (node_of new n))) - 1 ≡ k - 1 - 1 = omega arith in
          ap (slice_index (epochs_of (journal_of (node_of new (other n))))) back
          ∙ ap (λ (es : List ℕ). slice_index es (k - 1 - 1)) said.5
          ∙ said.4 two
          ∙ ap (λ (es : List ℕ). slice_index es (k - 1 - 1)) (sym passed.epochs)
          ∙ ap (slice_index (epochs_of (journal_of (node_of new n)))) (sym back);
      ended = omega (arith, long, number, heard, low);
    }
