-- What a delivery comes to in the worlds that a pair shows.
use Rattle.std.proofs.Common.{◌≡◌, ℕ, zero, suc, ◌+◌, ◌-◌, ◌<◌, ◌≤◌, inl, inr, List, [], ◌∷◌, ◌++◌, length, map, refl, sym, ap, subst, ◌∙◌, arith, Some, Ok, Bool, true, false}
use Rattle.std.specs.Prelude.{max, nat_lt, slice_get, option_map, if◌then◌else◌}
use Rattle.std.proofs.lemmas.List.{map-append}
use Rattle.std.proofs.lemmas.Option.{slice_get-map, same_Some}
use Rattle.ali_base.specs.declared.names.NodeName.{NodeName}
use Rattle.node_journal.specs.OpenJournal.{epochs_of}
use Rattle.office_entry.specs.declared.entry.Entry.{Entry}
use Rattle.office_entry.specs.declared.entry.Entry.TheVariants as entry
use Rattle.office_state.specs.declared.limits.Limits.{Limits}
use Rattle.pair_world.specs.Changes.{with_ack, delivered, ack_delivered, write_failed, journal_stored}
use Rattle.pair_world.specs.Deliveries as answers
use Rattle.pair_world.specs.Deliveries.{Answer, NodeMessage, answer, told_as, reply_to, journal_after, known_left, ack_end, ack_of}
use Rattle.pair_world.specs.Frames.{Frame, epochs, item_at}
use Rattle.pair_world.specs.Refusals.{disk_of}
use Rattle.pair_world.specs.Replies.{receiver, state_left}
use Rattle.pair_world.specs.World.{World, Resolved, Ships, Acks, Shipment, known, other, told_by, acked_to, put_node}
use Rattle.pair_world.proofs.Received.{fresh_left, fresh_said, stale_left, stale_said}
use Rattle.world_rows.specs.Counts.{Counts, RoseAt}
use Rattle.world_rows.specs.Rows.{Gives}
use Rattle.world_rows.specs.Told.{Failed, Stored, Have, Have_end}
use Rattle.world_rows.specs.WorldRows.{answer_row, journal_at}
use Rattle.pair_node.specs.Messages.{as_told, as_delivered, as_ack, ack_made}
use Rattle.pair_node.specs.NodeState as node
use Rattle.pair_node.specs.StoredMessage.{StoreAnswers, is_change}
use Rattle.pair_node.specs.declared.message.Ack.{Ack}
use Rattle.pair_node.specs.declared.message.Delivered.{Delivered}
use Rattle.pair_node.specs.declared.message.Delivered.TheVariants as delivering
use Rattle.pair_node.specs.declared.message.Message.{Message as OwnMessage}
use Rattle.pair_node.specs.declared.node.Node.{Node}
use Rattle.pair_core.specs.Pair.{sent_of}
use Rattle.pair_core.specs.PairAnswers.{delivered_told, IsAnswered, acked_after, ended_after}
use Rattle.pair_core.specs.PairNodes.{sent_told}
use Rattle.pair_core.specs.declared.pair.Pair.{Pair}
use Rattle.pair_core.specs.declared.sent.Sent.{Sent as AnySent}
use Rattle.pair_core.specs.declared.sent.Sent.TheVariants as sent
use Rattle.pair_core.proofs.PairMessages.{put_same}

-- ---- what is answered, by the epochs of the journal alone

-- some frames with these epochs
abbrev some_frames : List ℕ → List (Frame Entry)
some_frames [] = []
some_frames (e ∷ es) = record { entry = entry.Line [] 0 0 []; epoch = e } ∷ some_frames es

have_epochs : (es : List ℕ) → epochs (some_frames es) ≡ es
have_epochs [] = refl
have_epochs (e ∷ es) = ap (λ l. e ∷ l) (have_epochs es)

-- an acknowledgement that is made has the epoch of the message, and a number from 1 on
acks_of : (t : NodeMessage Entry) (end : Bool) (ack : Ack) → Some (as_ack (ack_of t end)) ≡ Some ack → (1 ≤ ack.number) × (ack.epoch ≡ t.epoch)
acks_of t end ack is = subst (λ (a : Ack). (1 ≤ a.number) × (a.epoch ≡ t.epoch)) (same_Some (as_ack (ack_of t end)) ack is) (omega arith, refl)

made_of : (frames : List (Frame Entry)) (t : NodeMessage Entry) (a : Answer Entry) (ack : Ack) → ack_made (as_delivered (told_as frames t a)) ≡ Some ack → (1 ≤ ack.number) × (ack.epoch ≡ t.epoch)
made_of frames t answers.Behind ack is = absurd (cc)
made_of frames t answers.Have ack is = acks_of t false ack is
made_of frames t (answers.Cut left) ack is = absurd (cc)
made_of frames t (answers.Stored f) ack is = acks_of t false ack is
made_of frames t answers.Have_end ack is = acks_of t true ack is

made_reply : (known : ℕ) (frames : List (Frame Entry)) (t : NodeMessage Entry) (ack : Ack) → ack_made (as_delivered (reply_to known frames t)) ≡ Some ack → (1 ≤ ack.number) × (ack.epoch ≡ t.epoch)
made_reply known frames t ack = by_test (nat_lt t.epoch known)
  where
    by_test : (b : Bool) → ack_made (as_delivered (if b then answers.Told_stale t.epoch known else told_as frames t (answer frames t))) ≡ Some ack → (1 ≤ ack.number) × (ack.epoch ≡ t.epoch)
    by_test true is = absurd (cc)
    by_test false is = made_of frames t (answer frames t) ack is

module _ {D : Type 0} (old new : Node D) (m : OwnMessage) (it : Delivered) (answer_is : StoreAnswers old new m (Ok it)) where
  abbrev pub own_frames : List (Frame Entry)
  own_frames = some_frames (epochs_of (node.journal_of old))

  pub it_is : it ≡ as_delivered (reply_to (node.known_of old) own_frames (as_told m))
  it_is = answer_is.0 own_frames (have_epochs (epochs_of (node.journal_of old)))

  pub made_by : (ack : Ack) → ack_made it ≡ Some ack → (1 ≤ ack.number) × (ack.epoch ≡ m.epoch)
  made_by ack is = made_reply (node.known_of old) own_frames (as_told m) ack (ap ack_made (sym it_is) ∙ is)

-- ---- what is put on its way

-- the message of a number, among those of the world
pub item_there : (xs : List AnySent) (i : ℕ) → 1 ≤ i → item_at (map sent_told xs) i ≡ option_map sent_told (slice_get xs (i - 1))
item_there xs zero low = absurd (omega (arith, low))
item_there xs (suc j) low = let back : suc j - 1 ≡ j = omega arith in slice_get-map sent_told xs j ∙ ap (λ k. option_map sent_told (slice_get xs k)) (sym back)

-- an acknowledgement is heard, as the world has it
pub heard_is : (w : Resolved Entry) (to : NodeName) (ack : Ack) → 1 ≤ ack.number
    → record w { acked = acked_after (Some ack) w.acked; ended = ended_after (Some ack) w.ended } ≡ ack_delivered w (acked_to to (record { epoch = ack.epoch; preceding = ack.number - 1; end = ack.end }))
heard_is w to ack low = by_end ack.end
  where
    one : ack.number ≡ suc (ack.number - 1)
    one = omega (arith, low)

    none : w.ended ≡ max w.ended 0
    none = grind arith

    by_end : (b : Bool)
        → record w { acked = max w.acked (if b then ack.number - 1 else ack.number); ended = if b then max w.ended ack.number else w.ended }
        ≡ record w { acked = max w.acked (if b then ack.number - 1 else suc (ack.number - 1)); ended = max w.ended (if b then suc (ack.number - 1) else 0) }
    by_end true = λ i. record w { acked = max w.acked (ack.number - 1); ended = max w.ended (one i) }
    by_end false = λ i. record w { acked = max w.acked (one i); ended = none i }

module _ (w : World Entry) (x : Shipment Entry) where
  abbrev journal : List (Frame Entry)
  journal = journal_at w (other x.sender)

  abbrev t : NodeMessage Entry
  t = told_by x

  module _ {D : Type 0} (old new : Pair D) (is : map sent_told (sent_of old) ≡ w.base.messages) where
    pushed : (end : Bool) → sent_of new ≡ sent_of old ++ sent.Acknowledgement x.sender (as_ack (ack_of t end)) ∷ [] → map sent_told (sent_of new) ≡ w.base.messages ++ Acks (acked_to x.sender (ack_of t end)) ∷ []
    pushed end all =
        let back : suc x.preceding - 1 ≡ x.preceding = omega arith in
        ap (map sent_told) all ∙ map-append sent_told (sent_of old) (sent.Acknowledgement x.sender (as_ack (ack_of t end)) ∷ [])
        ∙ (λ i. is i ++ Acks (acked_to x.sender (record { epoch = x.epoch; preceding = back i; end = end })) ∷ [])

    -- the messages after an answer are those of the world
    pub acks_told : (made : ℕ) (a : Answer Entry) → IsAnswered old new x.sender (ack_made (as_delivered (told_as journal t a))) made → map sent_told (sent_of new) ≡ with_ack x (ack_end a) w.base.messages
    acks_told made answers.Behind all = ap (map sent_told) all.1 ∙ is
    acks_told made answers.Have all = pushed false all.1
    acks_told made (answers.Cut left) all = ap (map sent_told) all.1 ∙ is
    acks_told made (answers.Stored f) all = pushed false all.1
    acks_told made answers.Have_end all = pushed true all.1

  -- the world after the answer
  abbrev with_answer : Answer Entry → World Entry
  with_answer a = record w {
    base =
        record w.base {
          nodes = put_node w.base.nodes (other x.sender) (record (receiver w.base x) { known = known_left (receiver w.base x).known t; journal = journal_after journal a });
          messages = with_ack x (ack_end a) w.base.messages;
        };
  }

  module _ (limits : Limits) (before now : Counts) where
    abbrev after : World Entry
    after = record w { base = delivered w.base (Ships x) }

    -- the row gives what is told
    pub answer_gives : {D : Type 0} (old new : Pair D) (made : ℕ) (a : Answer Entry) → a ≡ answer journal t → IsAnswered old new x.sender (ack_made (as_delivered (told_as journal t a))) made → length (sent_of old) + 1 ≡ suc (length w.base.messages)
        → Gives before now Failed w (answer_row limits w x (suc (length w.base.messages)) after a) (delivered_told (as_delivered (told_as journal t a), made)) after
    answer_gives old new made answers.Behind is all long = (refl, ap with_answer (sym is))
    answer_gives old new made answers.Have is all long = (ap (Have (suc x.preceding)) (all.0 ∙ long), refl)
    answer_gives old new made (answers.Cut left) is all long = inr (refl, refl)
    answer_gives old new made (answers.Stored f) is all long = inr (ap (Stored (suc x.preceding)) (all.0 ∙ long), refl)
    answer_gives old new made answers.Have_end is all long = (ap (Have_end (suc x.preceding)) (all.0 ∙ long), refl)

    -- the disk fails where the journal is changed
    pub answer_fails : (a : Answer Entry) → is_change (as_delivered (told_as journal t a)) ≡ true → RoseAt before now (disk_of (other x.sender))
        → Gives before now Failed w (answer_row limits w x (suc (length w.base.messages)) after a) (Failed (disk_of (other x.sender))) (write_failed w (other x.sender) (journal_stored w.base x))
    answer_fails answers.Behind is rose = absurd (cc)
    answer_fails answers.Have is rose = absurd (cc)
    answer_fails (answers.Cut left) is rose = inl (refl, refl, rose)
    answer_fails (answers.Stored f) is rose = inl (refl, refl, rose)
    answer_fails answers.Have_end is rose = absurd (cc)

  -- where no later epoch is known
  pub fresh_told : known w.base (other x.sender) ≤ x.epoch → as_delivered (reply_to (receiver w.base x).known journal t) ≡ as_delivered (told_as journal t (answer journal t))
  fresh_told fresh = ap as_delivered (fresh_said w.base x fresh)

  pub stale_told : x.epoch < known w.base (other x.sender) → as_delivered (reply_to (receiver w.base x).known journal t) ≡ delivering.Stale x.epoch (known w.base (other x.sender))
  stale_told late = ap as_delivered (stale_said w.base x late)

  pub fresh_world : known w.base (other x.sender) ≤ x.epoch
      → record w { base = record w.base { nodes = put_node w.base.nodes (other x.sender) (state_left (receiver w.base x) t); messages = with_ack x (ack_end (answer journal t)) w.base.messages } } ≡ record w { base = delivered w.base (Ships x) }
  fresh_world fresh =
      λ i. record w { base = record w.base { nodes = put_node w.base.nodes (other x.sender) (record (receiver w.base x) { known = known_left (receiver w.base x).known t; journal = fresh_left w.base x fresh i }); messages = with_ack x (ack_end (answer journal t)) w.base.messages } }

  pub stale_world : x.epoch < known w.base (other x.sender) → record w { base = record w.base { nodes = put_node w.base.nodes (other x.sender) (state_left (receiver w.base x) t) } } ≡ w
  stale_world late = ap (λ s. record w { base = record w.base { nodes = put_node w.base.nodes (other x.sender) s } }) (stale_left w.base x late) ∙ ap (λ nodes. record w { base = record w.base { nodes = nodes } }) (put_same w.base.nodes (other x.sender))
