use Rattle.std.proofs.Common.{◌≡◌, ◌+◌, ◌-◌, ℕ, List, length, subst, sym, ◌∙◌, ap, arith, length-take}
use Rattle.std.proofs.lemmas.Result.{IfOk-weaker}
use Rattle.crash_disk.specs.CrashOutcomes.{written}
use Rattle.crash_disk.specs.Moments.{IsSynced}
use Rattle.crash_disk.proofs.Runs.{run_on}
use Rattle.commit_log.specs.LogImage.{frame_place}
use Rattle.commit_log.specs.LogState.{body_of}
use Rattle.commit_log.proofs.Appending.{first_write, second_write, both_written}
use Rattle.commit_log.proofs.writing.write_frame.Goals as goal

-- the body is as long as the head
body_long : (block head : List ℕ) (n : ℕ) → length block ≡ n + 1 → length head ≡ n → length (body_of block) ≡ length head
body_long block head n long is = omega (arith, length-take (length block - 1) block, long, is)

pub returns-in_err-write_durably-clause-moments : goal.returns-in_err-write_durably-clause-moments
returns-in_err-write_durably-clause-moments g c head bodies is counts keeps =
    let there = c.place_of_frame.ensures ∙ ap (λ (n : ℕ). frame_place n c.args.number) (sym is) in
    first_write g.R.BodyReader.is_body head bodies (body_of c.args.block.now) c.args.number c.place_of_frame.result counts there keeps.stands.lawful (body_long c.args.block.now head c.args.body_len c.requires.length is) c.requires.lawful keeps.image keeps.stands _ _ _
    (c.write_durably.ensures.moments keeps.image keeps.synced)

pub returns-clause-stored : goal.returns-clause-stored
returns-clause-stored g c head bodies is counts keeps =
    let there = c.place_of_frame.ensures ∙ ap (λ (n : ℕ). frame_place n c.args.number) (sym is) in
    let before : c.place_of_commit.result + 1 ≡ c.place_of_frame.result = c.place_of_commit.ensures ∙ sym c.place_of_frame.ensures in
    let at_middle = subst (λ (l : List ℕ). IsSynced (g.D.Disk.state c.write_durably.new.disk) (written c.place_of_frame.result l keeps.image)) c.uncommit_next.ensures (c.in_ok-write_durably.ensures.synced keeps.image keeps.synced.told) in
    IfOk-weaker c.write_durably-2.result _ _ (λ _ synced. record {
      image = _;
      synced = synced;
      stands = both_written g.R.BodyReader.is_body head bodies (body_of c.args.block.now) c.args.number c.place_of_frame.result counts there keeps.stands.lawful (body_long c.args.block.now head c.args.body_len c.requires.length is) c.requires.lawful keeps.image keeps.stands c.place_of_commit.result before;
    }) (c.write_durably-2.ensures.synced _ at_middle.told)

pub returns-clause-moments : goal.returns-clause-moments
returns-clause-moments g c head bodies is counts keeps =
    let there = c.place_of_frame.ensures ∙ ap (λ (n : ℕ). frame_place n c.args.number) (sym is) in
    let before : c.place_of_commit.result + 1 ≡ c.place_of_frame.result = c.place_of_commit.ensures ∙ sym c.place_of_frame.ensures in
    let long = body_long c.args.block.now head c.args.body_len c.requires.length is in
    let first = first_write g.R.BodyReader.is_body head bodies (body_of c.args.block.now) c.args.number c.place_of_frame.result counts there keeps.stands.lawful long c.requires.lawful keeps.image keeps.stands _ _ _
    (c.write_durably.ensures.moments keeps.image keeps.synced) in
    let at_middle = subst (λ (l : List ℕ). IsSynced (g.D.Disk.state c.write_durably.new.disk) (written c.place_of_frame.result l keeps.image)) c.uncommit_next.ensures (c.in_ok-write_durably.ensures.synced keeps.image keeps.synced.told) in
    run_on _ _ _ _ first (second_write g.R.BodyReader.is_body head bodies (body_of c.args.block.now) c.args.number c.place_of_frame.result counts there keeps.stands.lawful long c.requires.lawful keeps.image keeps.stands c.place_of_commit.result before _ _
    (c.write_durably-2.ensures.moments _ at_middle))
