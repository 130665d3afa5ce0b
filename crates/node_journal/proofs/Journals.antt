-- Journals as logs.
use Rattle.std.proofs.Common.{◌≡◌, inl, inr, ℕ, zero, suc, ◌+◌, ◌^◌, ◌<◌, List, [], ◌∷◌, ◌++◌, length, take, drop, map, append_assoc, Some, refl, sym, ap, subst, ◌∙◌, arith}
use Rattle.std.specs.Prelude.{All, slice_get}
use Rattle.std.proofs.lemmas.Option.{same_Some}
use Rattle.std.proofs.lemmas.List.Elements.{All-nil, All-cons, All-head, All-tail, All-take, All-drop}
use Rattle.std.proofs.lemmas.List.{take_at, drop_at}
use Rattle.ali_base.specs.declared.names.NodeName.{NodeName}
use Rattle.ali_base.specs.Fronts.{AreBytes}
use Rattle.ali_base.proofs.FrontsAgain.{all_bytes}
use Rattle.commit_log.specs.LogImage.{AreBodies, committed_frames}
use Rattle.commit_log.specs.declared.blocks.TheConstants.{COMMITTED}
use Rattle.commit_log.specs.LogImage as log
use Rattle.commit_log.specs.LogState as kept
use Rattle.crash_disk.specs.DiskState.{DiskState}
use Rattle.crash_disk.specs.Moments.{EachMoment}
use Rattle.crash_disk.proofs.Runs.{weaker}
use Rattle.office_entry.specs.declared.entry.Entry.{Entry}
use Rattle.pair_world.specs.Frames.{Frame, epochs}
use Rattle.node_journal.specs.EpochsRead.{epoch_in}
use Rattle.node_journal.specs.FrameBytes.{IsFrame, body, bodies_from, is_body}
use Rattle.node_journal.specs.JournalImage.{first_block}
use Rattle.node_journal.specs.JournalState.{KeepsFrames, StandsForEither}
use Rattle.node_journal.proofs.FramesOfBytes.{body_found, epoch_in-body, one_frame}

-- ---- bodies of frames

pub length-bodies : (k : ℕ) (frames : List (Frame Entry)) → length (bodies_from k frames) ≡ length frames
length-bodies k [] = refl
length-bodies k (f ∷ frames) = omega (arith, length-bodies (suc k) frames)

bodies_append : (k j : ℕ) (front : List (Frame Entry)) (f : Frame Entry) → j ≡ k + length front → bodies_from k (front ++ f ∷ []) ≡ bodies_from k front ++ body j f ∷ []
bodies_append k j [] f is = let here : k ≡ j = omega (arith, is) in ap (λ (n : ℕ). body n f ∷ []) here
bodies_append k j (g ∷ front) f is = ap (λ (l : List (List ℕ)). body k g ∷ l) (bodies_append (suc k) j front f (omega (arith, is)))

-- one frame more
pub bodies_push : (number : ℕ) (frames : List (Frame Entry)) (f : Frame Entry) → number ≡ length frames + 1 → bodies_from 1 (frames ++ f ∷ []) ≡ bodies_from 1 frames ++ body number f ∷ []
bodies_push number frames f is = bodies_append 1 number frames f (omega (arith, is))

pub bodies_take : (k n : ℕ) (frames : List (Frame Entry)) → bodies_from k (take n frames) ≡ take n (bodies_from k frames)
bodies_take k zero frames = refl
bodies_take k (suc n) [] = refl
bodies_take k (suc n) (f ∷ frames) = ap (λ (l : List (List ℕ)). body k f ∷ l) (bodies_take (suc k) n frames)

pub bodies_at : (k n : ℕ) (frames : List (Frame Entry)) (bytes : List ℕ) → slice_get (bodies_from k frames) n ≡ Some bytes
    → (f : Frame Entry) × (slice_get frames n ≡ Some f) × (bytes ≡ body (k + n) f)
bodies_at k n [] bytes h = cc
bodies_at k zero (f ∷ frames) bytes h =
    let here : k ≡ k + 0 = omega arith in
    (f, refl, sym (same_Some (body k f) bytes h) ∙ ap (λ (i : ℕ). body i f) here)
bodies_at k (suc n) (f ∷ frames) bytes h =
    let found = bodies_at (suc k) n frames bytes h in
    let here : suc k + n ≡ k + suc n = omega arith in
    (found.0, found.1, found.2 ∙ ap (λ (i : ℕ). body i found.0) here)

pub one_list : (k : ℕ) (frames others : List (Frame Entry)) → All IsFrame frames → All IsFrame others → bodies_from k frames ≡ bodies_from k others → frames ≡ others
one_list k [] [] h g same = refl
one_list k [] (f ∷ others) h g same = absurd (omega (arith, ap length same))
one_list k (f ∷ frames) [] h g same = absurd (omega (arith, ap length same))
one_list k (f ∷ frames) (e ∷ others) h g same =
    let first : f ≡ e = one_frame k f e (All-head IsFrame f frames h) (All-head IsFrame e others g) (head_same (body k f) (body k e) (bodies_from (suc k) frames) (bodies_from (suc k) others) same) in
    let rest : frames ≡ others = one_list (suc k) frames others (All-tail IsFrame f frames h) (All-tail IsFrame e others g) (tail_same (body k f) (body k e) (bodies_from (suc k) frames) (bodies_from (suc k) others) same) in
    λ i. first i ∷ rest i
  where
    head_same : (a b : List ℕ) (x y : List (List ℕ)) → a ∷ x ≡ b ∷ y → a ≡ b
    head_same a b x y h = cc

    tail_same : (a b : List ℕ) (x y : List (List ℕ)) → a ∷ x ≡ b ∷ y → x ≡ y
    tail_same a b x y h = cc

-- ---- bodies that were read are those of frames

-- frames with these bodies, and their epochs
pub record Framed (k : ℕ) (bodies : List (List ℕ)) : Type 0 where
  pub frames : List (Frame Entry)
  pub lawful : All IsFrame frames
  pub bodies_are : bodies ≡ bodies_from k frames
  pub known : map epoch_in bodies ≡ epochs frames

pub framed : (k : ℕ) (bodies : List (List ℕ)) → All AreBytes bodies → AreBodies is_body 639 k bodies → Framed k bodies
framed k [] bytes lawful = record { frames = []; lawful = All-nil IsFrame; bodies_are = refl; known = refl }
framed k (x ∷ bodies) bytes lawful =
    let here = body_found k x (all_bytes x (All-head AreBytes x bodies bytes)) lawful.1 in
    let f = here.0 in
    let rest = framed (suc k) bodies (All-tail AreBytes x bodies bytes) lawful.2 in
    let epoch : epoch_in x ≡ f.epoch = ap epoch_in here.1.spelled ∙ epoch_in-body k f here.1.lawful in
    record {
      frames = f ∷ rest.frames;
      lawful = All-cons IsFrame f rest.frames here.1.lawful rest.lawful;
      bodies_are = λ i. here.1.spelled i ∷ rest.bodies_are i;
      known = λ i. epoch i ∷ rest.known i;
    }

-- the bodies in an image of bytes are bytes
frames_bytes : (bodies : List (List ℕ)) (rest : List ℕ) → AreBytes (committed_frames bodies ++ rest) → All AreBytes bodies
frames_bytes [] rest all = All-nil AreBytes
frames_bytes (x ∷ bodies) rest all =
    let split : AreBytes ((COMMITTED ∷ x) ++ (committed_frames bodies ++ rest)) = subst AreBytes (append_assoc (COMMITTED ∷ x) (committed_frames bodies) rest) all in
    All-cons AreBytes x bodies (All-tail (λ byte. byte < 2 ^ 8) COMMITTED x (left (COMMITTED ∷ x) (committed_frames bodies ++ rest) split)) (frames_bytes bodies rest (right (COMMITTED ∷ x) (committed_frames bodies ++ rest) split))
  where
    left : (xs ys : List ℕ) → AreBytes (xs ++ ys) → AreBytes xs
    left xs ys h = subst AreBytes (take_at xs ys (length xs) refl) (All-take (λ byte. byte < 2 ^ 8) (length xs) (xs ++ ys) h)

    right : (xs ys : List ℕ) → AreBytes (xs ++ ys) → AreBytes ys
    right xs ys h = subst AreBytes (drop_at xs ys (length xs) refl) (All-drop (λ byte. byte < 2 ^ 8) (length xs) (xs ++ ys) h)

pub image_bytes : (head : List ℕ) (bodies : List (List ℕ)) (next : ℕ) (rest image : List ℕ) → image ≡ log.log_front head bodies ++ next ∷ rest → AreBytes image → All AreBytes bodies
image_bytes head bodies next rest image parts all =
    let whole : image ≡ head ++ (committed_frames bodies ++ next ∷ rest) = parts ∙ append_assoc head (committed_frames bodies) (next ∷ rest) in
    let behind : drop (length head) image ≡ committed_frames bodies ++ next ∷ rest = ap (drop (length head)) whole ∙ drop_at head (committed_frames bodies ++ next ∷ rest) (length head) refl in
    frames_bytes bodies (next ∷ rest) (subst AreBytes behind (All-drop (λ byte. byte < 2 ^ 8) (length head) image all))

-- ---- what a disk stands for

pub as_log : (name : NodeName) (frames : List (Frame Entry)) (s : DiskState) → KeepsFrames name frames s → kept.KeepsBodies is_body (first_block name) (bodies_from 1 frames) s
as_log name frames s k = record { image = k.image; synced = k.synced; stands = k.stands.logged }

pub from_log : (name : NodeName) (frames : List (Frame Entry)) (bodies : List (List ℕ)) (s : DiskState) → All IsFrame frames → bodies ≡ bodies_from 1 frames → kept.KeepsBodies is_body (first_block name) bodies s → KeepsFrames name frames s
from_log name frames bodies s lawful same k = record {
  image = k.image;
  synced = k.synced;
  stands = record { lawful = lawful; logged = subst (λ (l : List (List ℕ)). log.StandsFor is_body (first_block name) l k.image) same k.stands };
}

-- a crash at any moment leaves the frames before or after
pub moments : (name : NodeName) (before after : List (Frame Entry)) (bodies : List (List ℕ)) (old new : DiskState) → All IsFrame before → All IsFrame after → bodies ≡ bodies_from 1 after
    → EachMoment old new (kept.StandsForEither is_body (first_block name) (bodies_from 1 before) bodies) → EachMoment old new (StandsForEither name before after)
moments name before after bodies old new b a same run = weaker old new _ _ by_case run
  where
    by_case : (image : List ℕ) → kept.StandsForEither is_body (first_block name) (bodies_from 1 before) bodies image → StandsForEither name before after image
    by_case image (inl stands) = inl (record { lawful = b; logged = stands })
    by_case image (inr stands) = inr (record { lawful = a; logged = subst (λ (l : List (List ℕ)). log.StandsFor is_body (first_block name) l image) same stands })
