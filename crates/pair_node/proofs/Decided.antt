-- What the table of deliveries answers, read from the epochs alone.
use Rattle.std.proofs.Common.{◌≡◌, ℕ, zero, suc, ◌-◌, ◌<◌, ◌≤◌, List, [], ◌∷◌, ◌++◌, length, take, refl, sym, ap, subst, ◌∙◌, arith, Option, Some, None, Bool, true, false, nat_lt, ◌==◌, if◌then◌else◌}
use Rattle.std.specs.Prelude.{slice_index, not, ◌&&◌}
use Rattle.std.proofs.lemmas.Bool.{and_parts}
use Rattle.std.proofs.lemmas.Option.{same_Some}
use Rattle.std.proofs.lemmas.Bool.Decides.{nat_tests}
use Rattle.node_journal.proofs.Represented.{length-epochs}
use Rattle.office_entry.specs.declared.entry.Entry.{Entry}
use Rattle.pair_world.specs.Frames.{Frame, epochs, epoch_at}
use Rattle.pair_world.specs.Deliveries as deliveries
use Rattle.pair_world.specs.Deliveries.{NodeMessage, Answer, answer, answer_in, told_as, reply_to, journal_left, journal_after, differs_before, old_next}
use Rattle.pair_node.specs.Decisions.{decision, decision_in, differs}
use Rattle.pair_node.specs.Messages.{as_told, as_delivered, as_ack, frame_told, ack_of}
use Rattle.pair_node.specs.StoredMessage.{FitsIn, answered}
use Rattle.pair_node.specs.declared.message.Ack.{Ack}
use Rattle.pair_node.specs.declared.message.Delivered.{Delivered}
use Rattle.pair_node.specs.declared.message.Delivered.TheVariants as delivered
use Rattle.pair_node.specs.declared.message.Message.{Message}
use Rattle.pair_node.specs.declared.message.What.{What}
use Rattle.pair_node.specs.declared.message.What.TheVariants as telling

cut_in : (es : List ℕ) (m : Message) (what : What) (k : ℕ) → 1 ≤ m.number → m.number - 1 ≤ length es → decision_in es m what ≡ delivered.Cut k → (1 ≤ k) × (k ≤ length es)
cut_in es m (telling.Entry epoch entry) k low within e = grind (arith, nat_tests)
cut_in es m telling.End k low within e = grind (arith, nat_tests)

-- a cut is within the journal
pub cut_within : (es : List ℕ) (m : Message) (k : ℕ) → 1 ≤ m.number → decision es m ≡ delivered.Cut k → (1 ≤ k) × (k ≤ length es)
unfolding decision
cut_within es m k low e = by_length (nat_lt (length es) (m.number - 1)) refl e where
  by_length : (b : Bool) → nat_lt (length es) (m.number - 1) ≡ b → (if b then delivered.Behind (length es) m.number else decision_in es m m.what) ≡ delivered.Cut k → (1 ≤ k) × (k ≤ length es)
  by_length true is e = absurd (cc)
  by_length false is e = let fits : m.number - 1 ≤ length es = grind (arith, nat_tests) in cut_in es m m.what k low fits e

stored_in_room : (es : List ℕ) (m : Message) (what : What) (a : Ack) (limit : ℕ) → 1 ≤ m.number → m.number - 1 ≤ length es → FitsIn limit m.number what → decision_in es m what ≡ delivered.Stored a → (length es < limit) × ((f : Frame Entry) × (frame_told what ≡ Some f))
stored_in_room es m (telling.Entry epoch entry) a limit low within fits e =
    let next : length es ≡ m.number - 1 = grind (arith, nat_tests) in
    (omega (arith, next, low, fits.0), (record { entry = entry; epoch = epoch }, refl))
stored_in_room es m telling.End a limit low within fits e = absurd (grind (arith, nat_tests))

-- a frame is stored where there is room for it
pub stored_room : (es : List ℕ) (m : Message) (a : Ack) (limit : ℕ) → 1 ≤ m.number → FitsIn limit m.number m.what → decision es m ≡ delivered.Stored a → (length es < limit) × ((f : Frame Entry) × (frame_told m.what ≡ Some f))
unfolding decision
stored_room es m a limit low room e = by_length (nat_lt (length es) (m.number - 1)) refl e where
  by_length : (b : Bool) → nat_lt (length es) (m.number - 1) ≡ b → (if b then delivered.Behind (length es) m.number else decision_in es m m.what) ≡ delivered.Stored a → (length es < limit) × ((f : Frame Entry) × (frame_told m.what ≡ Some f))
  by_length true is e = absurd (cc)
  by_length false is e = let fits : m.number - 1 ≤ length es = grind (arith, nat_tests) in stored_in_room es m m.what a limit low fits room e

-- ---- the journal after an answer, by how it is told

pub after_cut : (frames : List (Frame Entry)) (x : NodeMessage Entry) (a : Answer Entry) (k : ℕ) → as_delivered (told_as frames x a) ≡ delivered.Cut k → journal_after frames a ≡ take (k - 1) frames
after_cut frames x deliveries.Behind k e = absurd (cc)
after_cut frames x deliveries.Have k e = absurd (cc)
after_cut frames x (deliveries.Cut left) k e = let same : suc left ≡ k = cc in let back : left ≡ k - 1 = omega (arith, same) in ap (λ (n : ℕ). take n frames) back
after_cut frames x (deliveries.Stored f) k e = absurd (cc)
after_cut frames x deliveries.Have_end k e = absurd (cc)

pub is_stored : (frames : List (Frame Entry)) (x : NodeMessage Entry) (a : Answer Entry) (ack : Ack) → as_delivered (told_as frames x a) ≡ delivered.Stored ack → (f : Frame Entry) × (a ≡ deliveries.Stored f)
is_stored frames x deliveries.Behind ack e = absurd (cc)
is_stored frames x deliveries.Have ack e = absurd (cc)
is_stored frames x (deliveries.Cut left) ack e = absurd (cc)
is_stored frames x (deliveries.Stored f) ack e = (f, refl)
is_stored frames x deliveries.Have_end ack e = absurd (cc)

-- all others leave it
pub after_other : (frames : List (Frame Entry)) (x : NodeMessage Entry) (a : Answer Entry) (told : Delivered) → told ≡ as_delivered (told_as frames x a) → ((k : ℕ) → told ≡ delivered.Cut k → ⊥) → ((ack : Ack) → told ≡ delivered.Stored ack → ⊥) → journal_after frames a ≡ frames
after_other frames x deliveries.Behind told e no_cut not_stored = refl
after_other frames x deliveries.Have told e no_cut not_stored = refl
after_other frames x (deliveries.Cut left) told e no_cut not_stored = absurd (no_cut (suc left) e)
after_other frames x (deliveries.Stored f) told e no_cut not_stored = absurd (not_stored _ e)
after_other frames x deliveries.Have_end told e no_cut not_stored = refl

by_tests : (b c d : Bool) (k n : ℕ) (g f : Frame Entry) → (if b then (if c then deliveries.Have else deliveries.Cut k) else (if d then deliveries.Cut n else deliveries.Stored g)) ≡ deliveries.Stored f → g ≡ f
by_tests true true d k n g f e = absurd (cc)
by_tests true false d k n g f e = absurd (cc)
by_tests false c true k n g f e = absurd (cc)
by_tests false c false k n g f e = cc

no_frame : (b c : Bool) (k n : ℕ) (f : Frame Entry) → (if b then deliveries.Cut k else (if c then deliveries.Cut n else deliveries.Have_end)) ≡ deliveries.Stored f → ⊥
no_frame true c k n f e = cc
no_frame false true k n f e = cc
no_frame false false k n f e = cc

stored_in : (frames : List (Frame Entry)) (x : NodeMessage Entry) (o : Option (Frame Entry)) (f : Frame Entry) → answer_in frames x o ≡ deliveries.Stored f → o ≡ Some f
stored_in frames x (Some g) f e = ap Some (by_tests (nat_lt x.preceding (length frames)) (epoch_at frames (suc x.preceding) == g.epoch) (differs_before frames x) x.preceding (x.preceding - 1) g f e)
stored_in frames x None f e = absurd (no_frame (differs_before frames x) (old_next frames x) (x.preceding - 1) x.preceding f e)

-- what is stored is what was told
pub stored_is : (frames : List (Frame Entry)) (x : NodeMessage Entry) (f : Frame Entry) → answer frames x ≡ deliveries.Stored f → x.frame ≡ Some f
unfolding answer
stored_is frames x f e = by_length (nat_lt (length frames) x.preceding) e where
  by_length : (b : Bool) → (if b then deliveries.Behind else answer_in frames x x.frame) ≡ deliveries.Stored f → x.frame ≡ Some f
  by_length true e = absurd (cc)
  by_length false e = stored_in frames x x.frame f e

-- ---- the two tables are one

-- the epoch before is another
differ_in : (frames : List (Frame Entry)) (p before : ℕ) → (nat_lt 0 p && not (slice_index (epochs frames) (p - 1) == before)) ≡ (nat_lt 0 p && not (epoch_at frames p == before))
differ_in frames zero before = refl
differ_in frames (suc p) before =
    let back : suc p - 1 ≡ p = omega arith in
    ap (λ (n : ℕ). nat_lt 0 (suc p) && not (slice_index (epochs frames) n == before)) back

module _ (m : Message) (frames : List (Frame Entry)) (one : suc (m.number - 1) ≡ m.number) where
  acked : (end : Bool) → ack_of m end ≡ as_ack (deliveries.ack_of (as_told m) end)
  acked end = ap (λ (n : ℕ). record { epoch = m.epoch; number = n; end = end }) (sym one)

  rows : (b c d : Bool) (f : Frame Entry) → (d ≡ true → suc (m.number - 1 - 1) ≡ m.number - 1)
      → (if b then (if c then delivered.Have (ack_of m false) else delivered.Cut m.number) else (if d then delivered.Cut (m.number - 1) else delivered.Stored (ack_of m false)))
      ≡ as_delivered (told_as frames (as_told m) (if b then (if c then deliveries.Have else deliveries.Cut (m.number - 1)) else (if d then deliveries.Cut (m.number - 1 - 1) else deliveries.Stored f)))
  rows true true d f past = ap delivered.Have (acked false)
  rows true false d f past = ap delivered.Cut (sym one)
  rows false c true f past = ap delivered.Cut (sym (past refl))
  rows false c false f past = ap delivered.Stored (acked false)

  ends : (d c : Bool) → (d ≡ true → suc (m.number - 1 - 1) ≡ m.number - 1)
      → (if d then delivered.Cut (m.number - 1) else (if c then delivered.Cut m.number else delivered.HaveEnd (ack_of m true)))
      ≡ as_delivered (told_as frames (as_told m) (if d then deliveries.Cut (m.number - 1 - 1) else (if c then deliveries.Cut (m.number - 1) else deliveries.Have_end)))
  ends true c past = ap delivered.Cut (sym (past refl))
  ends false true past = ap delivered.Cut (sym one)
  ends false false past = ap delivered.HaveEnd (acked true)

  past_first : differs_before frames (as_told m) ≡ true → suc (m.number - 1 - 1) ≡ m.number - 1
  past_first t = let first = (and_parts (nat_lt 0 (m.number - 1)) _ t).0 in grind (arith, nat_tests)

  long : length (epochs frames) ≡ length frames
  long = length-epochs frames

  other : differs (epochs frames) m ≡ differs_before frames (as_told m)
  other = differ_in frames (m.number - 1) m.before

  same_in : (what : What) → decision_in (epochs frames) m what ≡ as_delivered (told_as frames (as_told m) (answer_in frames (as_told m) (frame_told what)))
  same_in (telling.Entry epoch entry) =
      (λ i. if nat_lt (m.number - 1) (long i)
      then (if slice_index (epochs frames) (m.number - 1) == epoch then delivered.Have (ack_of m false) else delivered.Cut m.number)
      else (if other i then delivered.Cut (m.number - 1) else delivered.Stored (ack_of m false)))
      ∙ rows (nat_lt (m.number - 1) (length frames)) (slice_index (epochs frames) (m.number - 1) == epoch) (differs_before frames (as_told m)) (record { entry = entry; epoch = epoch }) past_first
  same_in telling.End =
      (λ i. if other i
      then delivered.Cut (m.number - 1)
      else (if nat_lt (m.number - 1) (long i) && nat_lt (slice_index (epochs frames) (m.number - 1)) m.epoch then delivered.Cut m.number else delivered.HaveEnd (ack_of m true)))
      ∙ ends (differs_before frames (as_told m)) (old_next frames (as_told m)) past_first

  same_rows : (b : Bool) → (if b then delivered.Behind (length frames) m.number else decision_in (epochs frames) m m.what)
      ≡ as_delivered (told_as frames (as_told m) (if b then deliveries.Behind else answer_in frames (as_told m) (frame_told m.what)))
  same_rows true = ap (delivered.Behind (length frames)) (sym one)
  same_rows false = same_in m.what

  same_table : decision (epochs frames) m ≡ as_delivered (told_as frames (as_told m) (answer frames (as_told m)))
  unfolding decision answer
  same_table = (λ i. if nat_lt (long i) (m.number - 1) then delivered.Behind (long i) m.number else decision_in (epochs frames) m m.what) ∙ same_rows (nat_lt (length frames) (m.number - 1))

-- the decision by the epochs is the answer over any frames that have them
pub decided : (es : List ℕ) (m : Message) (frames : List (Frame Entry)) → 1 ≤ m.number → epochs frames ≡ es → decision es m ≡ as_delivered (told_as frames (as_told m) (answer frames (as_told m)))
decided es m frames low same = subst (λ (l : List ℕ). decision l m ≡ as_delivered (told_as frames (as_told m) (answer frames (as_told m)))) same (same_table m frames (omega (arith, low)))

-- the frames after a frame was stored
pub after_stored : (es : List ℕ) (m : Message) (frames : List (Frame Entry)) (a : Ack) (f : Frame Entry) → 1 ≤ m.number → epochs frames ≡ es → decision es m ≡ delivered.Stored a → frame_told m.what ≡ Some f → frames ++ f ∷ [] ≡ answered m frames
after_stored es m frames a f low same e told =
    let s = is_stored frames (as_told m) (answer frames (as_told m)) a (sym (decided es m frames low same) ∙ e) in
    let which : f ≡ s.0 = same_Some f s.0 (sym told ∙ stored_is frames (as_told m) s.0 s.1) in
    ap (λ (x : Frame Entry). frames ++ x ∷ []) which ∙ ap (journal_after frames) (sym s.1)

-- a message that is not stale is answered by the table
pub fresh : (known : ℕ) (frames : List (Frame Entry)) (m : Message) → known ≤ m.epoch → as_delivered (told_as frames (as_told m) (answer frames (as_told m))) ≡ as_delivered (reply_to known frames (as_told m))
fresh known frames m late =
    let young : nat_lt m.epoch known ≡ false = grind (arith, nat_tests) in
    ap (λ (b : Bool). as_delivered (if b then deliveries.Told_stale m.epoch known else told_as frames (as_told m) (answer frames (as_told m)))) (sym young)

-- and leaves the journal as the table says
pub fresh_after : (known : ℕ) (frames : List (Frame Entry)) (m : Message) → known ≤ m.epoch → answered m frames ≡ journal_left known frames (as_told m)
fresh_after known frames m late =
    let young : nat_lt m.epoch known ≡ false = grind (arith, nat_tests) in
    ap (λ (b : Bool). if b then frames else answered m frames) (sym young)

-- a stale one leaves it
pub stale_after : (known : ℕ) (frames : List (Frame Entry)) (m : Message) → m.epoch < known → frames ≡ journal_left known frames (as_told m)
stale_after known frames m late =
    let old : nat_lt m.epoch known ≡ true = grind (arith, nat_tests) in
    ap (λ (b : Bool). if b then frames else answered m frames) (sym old)
