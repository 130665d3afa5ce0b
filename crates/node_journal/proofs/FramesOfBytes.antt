-- Frames and their bodies.
use Rattle.std.proofs.Common.{◌≡◌, ◌==◌, ℕ, ◌^◌, ◌<◌, ◌≤◌, ◌&&◌, Bool, true, nat_le, List, [], ◌++◌, length, take, drop, Option, Some, None, refl, sym, ap, subst, ◌∙◌, append_assoc, length-append, arith}
use Rattle.std.specs.Prelude.{is_some}
use Rattle.std.proofs.lemmas.Bool.{and_parts, and_from}
use Rattle.std.proofs.lemmas.Bool.Decides.{nat_tests}
use Rattle.std.proofs.lemmas.List.{append-nil, take_at, drop_at}
use Rattle.std.proofs.lemmas.Nat.{from_be_bytes-to_be_bytes_4}
use Rattle.std.specs.Int.{w32, from_be_bytes}
use Rattle.std.proofs.lemmas.Option.{cond_some}
use Rattle.ali_base.specs.Columns.{is_empty}
use Rattle.ali_base.specs.Fronts.{front, number_at, number_bytes}
use Rattle.ali_base.proofs.FrontsAgain.{IsBytes, Takes-then, Takes-all, front_takes, front_again, number_takes, number_again, text_fits}
use Rattle.ali_base.proofs.Steps.{bind_ok, bind_some}
use Rattle.office_entry.specs.declared.entry.Entry.{Entry}
use Rattle.office_entry.specs.EntryBytes.{IsInRange, entry_bytes}
use Rattle.office_entry.specs.EntryReading.{entry_from}
use Rattle.office_entry.proofs.EntriesOfBytes.{entry_found, entry_again, one_entry, length-entry_bytes}
use Rattle.office_entry.proofs.Options.{when_true}
use Rattle.pair_world.specs.Frames.{Frame}
use Rattle.node_journal.specs.declared.frame.TheConstants.{LAST_EPOCH}
use Rattle.node_journal.specs.EpochsRead.{epoch_in}
use Rattle.node_journal.specs.FrameBytes.{IsEpoch, IsFrame, IsBodyOf, body, frame_from, is_body}

pub length-body : (k : ℕ) (f : Frame Entry) → IsInRange f.entry → length (body k f) ≡ 639
unfolding body
length-body k f h =
    omega (arith, length-entry_bytes f.entry h, length-append (number_bytes k ++ number_bytes f.epoch) (entry_bytes f.entry), length-append (number_bytes k) (number_bytes f.epoch))

-- ---- what is read has these bytes

tests : (a b c d : Bool) → (a && b && c && d) ≡ true → (a ≡ true) × (b ≡ true) × (c ≡ true) × (d ≡ true)
tests a b c d h =
    let three = and_parts (a && b && c) d h in
    let two = and_parts (a && b) c three.0 in
    let one = and_parts a b two.0 in
    (one.0, one.1, two.1, three.1)

frame_made : (k : ℕ) (bytes : List ℕ) (n e : ℕ × List ℕ) (p : List ℕ × List ℕ) (entry : Entry) (f : Frame Entry) → IsBytes bytes
    → number_at bytes ≡ Some n → number_at n.1 ≡ Some e → front 631 e.1 ≡ Some p → entry_from p.0 ≡ Some entry
    → is_empty p.1 ≡ true → (n.0 == k) ≡ true → nat_le 1 e.0 ≡ true → nat_le e.0 LAST_EPOCH ≡ true → record { entry = entry; epoch = e.0 } ≡ f → IsBodyOf k f bytes
unfolding body
frame_made k bytes n e p entry f fits n_h e_h p_h entry_h end same low high made =
    let tn = number_takes bytes n fits n_h in
    let te = number_takes n.1 e tn.0.fits e_h in
    let tp = front_takes 631 e.1 p te.0.fits p_h in
    let inside : IsBytes p.0 = text_fits p.0 p.1 (subst IsBytes tp.0.parts te.0.fits) in
    let entry_is = entry_found p.0 entry inside tp.1 entry_h in
    let two = Takes-then bytes (number_bytes n.0) n.1 (number_bytes e.0) e.1 tn.0 te.0 in
    let three = Takes-then bytes (number_bytes n.0 ++ number_bytes e.0) e.1 p.0 p.1 two tp.0 in
    let number : n.0 ≡ k = grind (arith, nat_tests, same) in
    let l : 1 ≤ e.0 = grind (arith, nat_tests, low) in
    let u : e.0 ≤ LAST_EPOCH = grind (arith, nat_tests, high) in
    let whole : bytes ≡ number_bytes n.0 ++ number_bytes e.0 ++ p.0 =
    Takes-all bytes (number_bytes n.0 ++ number_bytes e.0 ++ p.0) p.1 three end ∙ append-nil (number_bytes n.0 ++ number_bytes e.0 ++ p.0) in
    subst (λ (x : Frame Entry). IsBodyOf k x bytes) made (record {
      lawful = ((l, u), entry_is.0);
      spelled = whole ∙ ap (λ z. number_bytes z ++ number_bytes e.0 ++ p.0) number ∙ ap (λ z. number_bytes k ++ number_bytes e.0 ++ z) entry_is.1;
    })

pub frame_found : (k : ℕ) (bytes : List ℕ) (f : Frame Entry) → IsBytes bytes → frame_from k bytes ≡ Some f → IsBodyOf k f bytes
unfolding frame_from
frame_found k bytes f fits h =
    let n = bind_ok (number_at bytes) _ f h in
    let e = bind_ok (number_at n.0.1) _ f n.2 in
    let p = bind_ok (front 631 e.0.1) _ f e.2 in
    let entry = bind_ok (entry_from p.0.0) _ f p.2 in
    let w = cond_some (is_empty p.0.1 && (n.0.0 == k) && nat_le 1 e.0.0 && nat_le e.0.0 LAST_EPOCH) (record { entry = entry.0; epoch = e.0.0 }) f entry.2 in
    let t = tests (is_empty p.0.1) (n.0.0 == k) (nat_le 1 e.0.0) (nat_le e.0.0 LAST_EPOCH) w.0 in
    frame_made k bytes n.0 e.0 p.0 entry.0 f fits n.1 e.1 p.1 entry.1 t.0 t.1 t.2 t.3 w.1

-- ---- the body of a frame is read as it

pub frame_again : (k : ℕ) (f : Frame Entry) → k < 2 ^ 32 → IsFrame f → frame_from k (body k f) ≡ Some f
unfolding frame_from body
frame_again k f small h =
    let bytes = entry_bytes f.entry in
    let end : bytes ≡ bytes ++ [] = sym (append-nil bytes) in
    let same : (k == k) ≡ true = grind (arith, nat_tests) in
    let low : nat_le 1 f.epoch ≡ true = grind (arith, nat_tests, h.0.0) in
    let high : nat_le f.epoch LAST_EPOCH ≡ true = grind (arith, nat_tests, h.0.1) in
    let test : (true && (k == k) && nat_le 1 f.epoch && nat_le f.epoch LAST_EPOCH) ≡ true = and_from _ _ (and_from _ _ same low) high in
    ap (frame_from k) (append_assoc (number_bytes k) (number_bytes f.epoch) bytes)
    ∙ bind_some _ _ _ _ (number_again k (number_bytes f.epoch ++ bytes) small)
    (bind_some _ _ _ _ (number_again f.epoch bytes (small_epoch f.epoch h.0))
    (bind_some _ _ _ _ (ap (front 631) end ∙ front_again 631 bytes [] (length-entry_bytes f.entry h.1))
    (bind_some _ _ _ _ (entry_again f.entry h.1) (when_true (true && (k == k) && nat_le 1 f.epoch && nat_le f.epoch LAST_EPOCH) f test))))
  where
    small_epoch : (e : ℕ) → IsEpoch e → e < 2 ^ 32
    small_epoch e is = omega (arith, is.1)

pub is_body-body : (k : ℕ) (f : Frame Entry) → k < 2 ^ 32 → IsFrame f → is_body k (body k f) ≡ true
unfolding is_body
is_body-body k f small h = ap is_some (frame_again k f small h)

-- a body is that of one frame
pub one_frame : (k : ℕ) (f g : Frame Entry) → IsFrame f → IsFrame g → body k f ≡ body k g → f ≡ g
unfolding body
one_frame k f g hf hg same =
    let n = number_bytes k in
    let a : n ++ (number_bytes f.epoch ++ entry_bytes f.entry) ≡ n ++ (number_bytes g.epoch ++ entry_bytes g.entry) =
    sym (append_assoc n (number_bytes f.epoch) (entry_bytes f.entry)) ∙ same ∙ append_assoc n (number_bytes g.epoch) (entry_bytes g.entry) in
    let b : number_bytes f.epoch ++ entry_bytes f.entry ≡ number_bytes g.epoch ++ entry_bytes g.entry =
    sym (drop_at n (number_bytes f.epoch ++ entry_bytes f.entry) 4 refl) ∙ ap (drop 4) a ∙ drop_at n (number_bytes g.epoch ++ entry_bytes g.entry) 4 refl in
    let first : number_bytes f.epoch ≡ number_bytes g.epoch =
    sym (take_at (number_bytes f.epoch) (entry_bytes f.entry) 4 refl) ∙ ap (take 4) b ∙ take_at (number_bytes g.epoch) (entry_bytes g.entry) 4 refl in
    let rest : entry_bytes f.entry ≡ entry_bytes g.entry =
    sym (drop_at (number_bytes f.epoch) (entry_bytes f.entry) 4 refl) ∙ ap (drop 4) b ∙ drop_at (number_bytes g.epoch) (entry_bytes g.entry) 4 refl in
    let epochs : f.epoch ≡ g.epoch =
    sym (from_be_bytes-to_be_bytes_4 f.epoch (omega (arith, hf.0.1))) ∙ ap (from_be_bytes w32) first ∙ from_be_bytes-to_be_bytes_4 g.epoch (omega (arith, hg.0.1)) in
    let entries : f.entry ≡ g.entry = one_entry f.entry g.entry hf.1 hg.1 rest in
    λ i. record { entry = entries i; epoch = epochs i }

-- the epoch in a body
pub epoch_in-body : (k : ℕ) (f : Frame Entry) → IsFrame f → epoch_in (body k f) ≡ f.epoch
unfolding body
epoch_in-body k f h =
    let n = number_bytes k in
    let e = number_bytes f.epoch in
    ap (λ z. from_be_bytes w32 (take 4 (drop 4 z))) (append_assoc n e (entry_bytes f.entry))
    ∙ ap (λ z. from_be_bytes w32 (take 4 z)) (drop_at n (e ++ entry_bytes f.entry) 4 refl)
    ∙ ap (from_be_bytes w32) (take_at e (entry_bytes f.entry) 4 refl)
    ∙ from_be_bytes-to_be_bytes_4 f.epoch (omega (arith, h.0.1))

-- bytes that are a body are that of a frame
pub body_found : (k : ℕ) (bytes : List ℕ) → IsBytes bytes → is_body k bytes ≡ true → (f : Frame Entry) × IsBodyOf k f bytes
unfolding is_body
body_found k bytes fits h = by_frame (frame_from k bytes) refl h
  where
    by_frame : (o : Option (Frame Entry)) → frame_from k bytes ≡ o → is_some o ≡ true → (f : Frame Entry) × IsBodyOf k f bytes
    by_frame None is h = cc
    by_frame (Some f) is h = (f, frame_found k bytes f fits is)
