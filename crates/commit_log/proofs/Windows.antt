-- What a piece of the disk in a buffer says of the disk.
use Rattle.std.proofs.Common.{◌≡◌, Bool, true, false, Some, refl, ℕ, ◌+◌, ◌-◌, ◌<◌, ◌≤◌, List, ◌∷◌, ◌++◌, length, get_or, take, drop, sym, ◌∙◌, ap, arith, length-take, length-drop, take-append-drop}
use Rattle.std.specs.Prelude.{slice_index_or}
use Rattle.std.proofs.lemmas.List.{take-take, drop-take, drop-drop, drop_more, get_or-take, get_or-drop, take_at, drop_at}
use Rattle.crash_disk.specs.DiskState.{DiskState}
use Rattle.commit_log.specs.LogImage.{frame_place}
use Rattle.commit_log.specs.LogState.{with_body}
use Rattle.commit_log.specs.Opening.{ReadsFirst}
use Rattle.commit_log.specs.Pieces.{Buffers, IsBlock, ReadsNext}
use Rattle.commit_log.specs.declared.pieces.Block.{Block}
use Rattle.std.specs.Bool.{then_some}
use Rattle.commit_log.specs.declared.pieces.Piece.{Piece}

module _ (buffer f : List ℕ) (at end place : ℕ) (within : end ≤ length buffer) (same : take (end - at) (drop at buffer) ≡ take (end - at) (drop place f)) where
  -- the first m bytes of the piece stand at the place
  pub first_bytes : (m : ℕ) → m ≤ end - at → take m (drop at buffer) ≡ take m (drop place f)
  first_bytes m few = sym (take-take m (end - at) (drop at buffer) few) ∙ ap (λ (l : List ℕ). take m l) same ∙ take-take m (end - at) (drop place f) few

  -- and the rest of it behind them
  pub later_bytes : (m : ℕ) → m ≤ end - at → take (end - (at + m)) (drop (at + m) buffer) ≡ take (end - (at + m)) (drop (place + m) f)
  later_bytes m few =
      let left : ℕ = end - (at + m) in
      let whole : end - at ≡ m + left = omega (arith, few) in
      ap (λ (l : List ℕ). take left l) (sym (drop-drop m at buffer))
      ∙ sym (drop-take m left (drop at buffer))
      ∙ ap (λ (j : ℕ). drop m (take j (drop at buffer))) (sym whole)
      ∙ ap (λ (l : List ℕ). drop m l) same
      ∙ ap (λ (j : ℕ). drop m (take j (drop place f))) whole
      ∙ drop-take m left (drop place f)
      ∙ ap (λ (l : List ℕ). take left l) (drop-drop m place f)

  -- n bytes, and the byte behind them
  pub block_there : (n : ℕ) → n < end - at → drop place f ≡ take n (drop at buffer) ++ slice_index_or buffer (at + n) 0 ∷ drop (n + 1) (drop place f)
  block_there n few =
      let long : n < length (drop place f) = omega (arith, few, within, length-take (end - at) (drop at buffer), length-drop at buffer, length-take (end - at) (drop place f), ap length same) in
      let byte : get_or (drop place f) n 0 ≡ get_or buffer (at + n) 0 =
      sym (get_or-take (end - at) (drop place f) n 0 few) ∙ ap (λ (l : List ℕ). get_or l n 0) (sym same) ∙ get_or-take (end - at) (drop at buffer) n 0 few ∙ get_or-drop at buffer n 0 in
      sym (take-append-drop n (drop place f))
      ∙ ap (λ (l : List ℕ). l ++ drop n (drop place f)) (sym (first_bytes n (omega (arith, few))))
      ∙ ap (λ (l : List ℕ). take n (drop at buffer) ++ l) (drop_more (drop place f) n 0 long ∙ ap (λ (b : ℕ). b ∷ drop (n + 1) (drop place f)) byte)

-- the piece behind its first m bytes
pub moved : (s : DiskState) (place : ℕ) (piece : Piece) (buffer : List ℕ) (m at there : ℕ) → Buffers s place piece buffer → m ≤ piece.end - piece.at → at ≡ piece.at + m → there ≡ place + m → Buffers s there (record { at = at; end = piece.end }) buffer
moved s place piece buffer m at there b few at_is there_is = record {
  order = omega (arith, at_is, few, b.order);
  within = b.within;
  same = λ f told.
      ap (λ (j : ℕ). take (piece.end - j) (drop j buffer)) at_is
      ∙ later_bytes buffer f piece.at piece.end place b.within (b.same f told) m few
      ∙ sym (λ i. take (piece.end - at_is i) (drop (there_is i) f));
}

-- another reading of the bytes of a block
pub same_body : (s : DiskState) (place n : ℕ) (buffer : List ℕ) (block : Block) → IsBlock s place n buffer block → (f : List ℕ) → s.content ≡ Some f → (body : List ℕ) (next : ℕ) (more : List ℕ) → length body ≡ n → drop place f ≡ body ++ next ∷ more → take n (drop block.at buffer) ≡ body
same_body s place n buffer block b f told body next more long parts =
    let (rest, is) = b.shown f told in
    let read : List ℕ = take n (drop block.at buffer) in
    let whole : length read ≡ n = omega (arith, length-take n (drop block.at buffer), length-drop block.at buffer, b.within) in
    sym (take_at read (block.next ∷ rest) n whole) ∙ ap (λ (l : List ℕ). take n l) (sym is ∙ parts) ∙ take_at body (next ∷ more) n long

-- a block that was read is the frame, or none is there
pub frame_read : (is_body : ℕ → List ℕ → Bool) (before after : List (List ℕ) → Type 0) (s : DiskState) (place n k m : ℕ) (buffer : List ℕ) (block : Block) (read : Bool) → place ≡ frame_place n k → m ≡ n → IsBlock s place n buffer block → read ≡ is_body k (take m (drop block.at buffer))
    → ((bodies : List (List ℕ)) → before bodies → read ≡ true → after (with_body bodies (take m (drop block.at buffer)))) → ReadsNext is_body before after s n k (then_some read block)
frame_read is_body before after s place n k m buffer block true there counts b answer held = record {
  body = take m (drop block.at buffer);
  long = omega (arith, counts, length-take m (drop block.at buffer), length-drop block.at buffer, b.within);
  lawful = sym answer;
  holds = λ bodies was. held bodies was refl;
  shown = λ front rest long told.
      let (more, is) = b.shown (front ++ rest) told in (
        more,
        sym (drop_at front rest place (long ∙ sym there)) ∙ is ∙ ap (λ (j : ℕ). take j (drop block.at buffer) ++ block.next ∷ more) (sym counts),
      );
}
frame_read is_body before after s place n k m buffer block false there counts b answer held = λ front rest long told body next more is lawful parts.
    let same = same_body s place n buffer block b (front ++ rest) told body next more is (drop_at front rest place (long ∙ sym there) ∙ parts) in
    let read : take m (drop block.at buffer) ≡ body = ap (λ (j : ℕ). take j (drop block.at buffer)) counts ∙ same in
    absurd (cc (answer ∙ ap (is_body k) read, lawful))

-- a block that was read is the first block, or the disk begins otherwise
pub first_read : (head : List ℕ) (s t : DiskState) (m : ℕ) (buffer : List ℕ) (block : Block) (same : Bool) → t.content ≡ s.content → m ≡ length head → IsBlock t 0 (length head) buffer block → (same ≡ true → take m (drop block.at buffer) ≡ head) → (take m (drop block.at buffer) ≡ head → same ≡ true) → ReadsFirst head s (then_some same block)
first_read head s t m buffer block true stays counts b only back = λ image told.
    let (more, is) = b.shown image (stays ∙ told) in (
      more,
      is ∙ ap (λ (l : List ℕ). l ++ block.next ∷ more) (ap (λ (j : ℕ). take j (drop block.at buffer)) (sym counts) ∙ only refl),
    )
first_read head s t m buffer block false stays counts b only back = λ image told next rest parts.
    let same = same_body t 0 (length head) buffer block b image (stays ∙ told) head next rest refl parts in
    absurd (cc (back (ap (λ (j : ℕ). take j (drop block.at buffer)) counts ∙ same)))
