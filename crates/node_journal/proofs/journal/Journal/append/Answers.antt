use Rattle.std.proofs.Common.{◌≡◌, ℕ, ◌+◌, ◌^◌, ◌<◌, List, [], ◌∷◌, ◌++◌, length, sym, ap, ◌∙◌, arith}
use Rattle.std.proofs.lemmas.List.{map-append}
use Rattle.std.proofs.lemmas.List.Elements.{All-push}
use Rattle.commit_log.specs.LogState.{with_body}
use Rattle.commit_log.specs.OpenLog as log
use Rattle.office_entry.specs.declared.entry.Entry.{Entry}
use Rattle.pair_world.specs.Frames.{Frame}
use Rattle.node_journal.specs.FrameBytes.{IsFrame, body, bodies_from, is_body}
use Rattle.node_journal.specs.JournalImage.{first_block}
use Rattle.node_journal.proofs.FramesOfBytes.{is_body-body}
use Rattle.node_journal.proofs.Journals.{bodies_push, from_log, moments}
use Rattle.node_journal.proofs.Represented.{counted, logged, lawful}
use Rattle.node_journal.proofs.journal.Journal.append.Goals as goal

pub append-requires-clause-lawful : goal.append-requires-clause-lawful
append-requires-clause-lawful g c =
    let f : Frame Entry = record { entry = c.args.entry.now; epoch = c.args.epoch } in
    let count = log.count_of c.args.self.now.log in
    let few : count + 1 < 2 ^ 32 = omega (arith, c.args.self.now.log.within, c.args.self.now.log.few) in
    ap (is_body (count + 1)) (c.frame_block-block.ensures.body ∙ ap (λ n. body (n + 1) f) c.len.ensures)
    ∙ is_body-body (count + 1) f few (c.requires.epoch, c.frame_block-block.ensures.lawful)

-- the new body is that of the new frame
pushed : (count number : ℕ) (frames : List (Frame Entry)) (f : Frame Entry) (bytes : List ℕ) → count ≡ length frames → number ≡ count → bytes ≡ body (number + 1) f → with_body (bodies_from 1 frames) bytes ≡ bodies_from 1 (frames ++ f ∷ [])
pushed count number frames f bytes counts is same =
    ap (λ b. bodies_from 1 frames ++ b ∷ []) same ∙ sym (bodies_push (number + 1) frames f (omega (arith, counts, is)))

pub returns-in-Ok-clause-stored : goal.returns-in-Ok-clause-stored
returns-in-Ok-clause-stored g c frames shown =
    let state = g.D.Disk.state in
    let old = c.args.self.now in
    let f : Frame Entry = record { entry = c.args.entry.now; epoch = c.args.epoch } in
    let after = c.in-Ok.ensures.stored (first_block old.name) (bodies_from 1 frames) (logged state old frames c.requires.usable shown) in
    let same = pushed (log.count_of old.log) c.len.result frames f _ (counted state old frames c.requires.usable shown) c.len.ensures c.frame_block-block.ensures.body in
    record {
      kept = from_log old.name (frames ++ f ∷ []) _ _ (All-push IsFrame frames f (lawful state old frames c.requires.usable shown) (c.requires.epoch, c.frame_block-block.ensures.lawful)) same after.kept;
      known = c.push.ensures.items ∙ ap (λ l. l ++ c.args.epoch ∷ []) shown.known ∙ sym (map-append (λ (x : Frame Entry). x.epoch) frames (f ∷ []));
    }

pub returns-in-Ok-clause-moments : goal.returns-in-Ok-clause-moments
returns-in-Ok-clause-moments g c frames shown =
    let state = g.D.Disk.state in
    let old = c.args.self.now in
    let f : Frame Entry = record { entry = c.args.entry.now; epoch = c.args.epoch } in
    let all = lawful state old frames c.requires.usable shown in
    let same = pushed (log.count_of old.log) c.len.result frames f _ (counted state old frames c.requires.usable shown) c.len.ensures c.frame_block-block.ensures.body in
    moments old.name frames (frames ++ f ∷ []) _ _ _ all (All-push IsFrame frames f all (c.requires.epoch, c.frame_block-block.ensures.lawful)) same
    (c.in-Ok.ensures.moments (first_block old.name) (bodies_from 1 frames) (logged state old frames c.requires.usable shown))

pub returns-in-Err-DiskFault-clause-moments : goal.returns-in-Err-DiskFault-clause-moments
returns-in-Err-DiskFault-clause-moments g c frames shown =
    let state = g.D.Disk.state in
    let old = c.args.self.now in
    let f : Frame Entry = record { entry = c.args.entry.now; epoch = c.args.epoch } in
    let all = lawful state old frames c.requires.usable shown in
    let same = pushed (log.count_of old.log) c.len.result frames f _ (counted state old frames c.requires.usable shown) c.len.ensures c.frame_block-block.ensures.body in
    moments old.name frames (frames ++ f ∷ []) _ _ _ all (All-push IsFrame frames f all (c.requires.epoch, c.frame_block-block.ensures.lawful)) same
    (c.in-Err-DiskFault.ensures.moments (first_block old.name) (bodies_from 1 frames) (logged state old frames c.requires.usable shown))
