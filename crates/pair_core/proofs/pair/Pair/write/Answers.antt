use Rattle.std.proofs.Common.{◌∙◌, sym}
use Rattle.crash_disk.proofs.Runs.{stays_here}
use Rattle.pair_world.specs.Step.{Write}
use Rattle.pair_core.specs.PairAnswers.{WriteRest}
use Rattle.pair_core.specs.PairRefusals as rows
use Rattle.pair_core.proofs.PairReady.{where_passed}
use Rattle.pair_core.proofs.PairShown.{all_quiet, all_stay}
use Rattle.pair_core.proofs.PairWritten.{write_passed, write_refused, write_unread, append_does, append_moments, append_causes, append_call}
use Rattle.pair_core.proofs.PairBeside.{beside_keeps, append_keeps, keeps_on}
use Rattle.pair_core.proofs.pair.Pair.write.Goals as goal

pub learn-requires : goal.learn-requires
learn-requires g c = (write_passed c.args.self.now c.args.n (sym c.write_refusal.ensures ∙ c.in_default.is)).up

pub append-requires : goal.append-requires
append-requires g c = c.in_default-learn.ensures.causes.0.1

pub returns-in-Some-clause-does : goal.returns-in-Some-clause-does
returns-in-Some-clause-does g c limits w shown lawful =
    write_refused g.D.Disk.state limits c.args.self.now w c.args.n c.args.e.now shown c.in-Some.refusal (sym c.write_refusal.ensures ∙ c.in-Some.is)

pub returns-in-Some-clause-moments : goal.returns-in-Some-clause-moments
returns-in-Some-clause-moments g c limits w shown lawful =
    all_quiet g.D.Disk.state limits c.args.self.now c.args.self.now w (Write c.args.e.now) shown g.met.D.Disk.sound (λ disk. stays_here _)

pub returns-in-Err-clause-does : goal.returns-in-Err-clause-does
returns-in-Err-clause-does g c limits w shown lawful =
    write_unread g.D.Disk.state limits c.args.self.now w c.args.n c.args.e.now shown lawful (sym c.write_refusal.ensures ∙ c.in_default.is) c.learn.new.self c.in-Err.ensures.learned c.in-Err.fault c.in-Err.ensures.causes.0

pub returns-in-Err-clause-moments : goal.returns-in-Err-clause-moments
returns-in-Err-clause-moments g c limits w shown lawful =
    let state = g.D.Disk.state in
    let learned = c.in-Err.ensures.learned in
    all_quiet state limits c.args.self.now c.learn.new.self w (Write c.args.e.now) shown g.met.D.Disk.sound (all_stay state c.args.self.now c.learn.new.self c.args.n learned.1 learned.0.journal.stays)

pub returns-clause-does : goal.returns-clause-does
returns-clause-does g c limits w shown lawful =
    append_does g.D.Disk.state limits c.args.self.now w c.args.n c.args.e.now shown lawful (sym c.write_refusal.ensures ∙ c.in_default.is) c.learn.new.self c.append.new.self c.in_default-learn.ensures.learned c.in_default-learn.ensures.causes
    g.met.D.Disk.sound c.append.result c.append.ensures

pub returns-clause-moments : goal.returns-clause-moments
returns-clause-moments g c limits w shown lawful =
    append_moments g.D.Disk.state limits c.args.self.now w c.args.n c.args.e.now shown lawful (sym c.write_refusal.ensures ∙ c.in_default.is) c.learn.new.self c.append.new.self c.in_default-learn.ensures.learned c.in_default-learn.ensures.causes
    g.met.D.Disk.sound c.append.result c.append.ensures

pub returns-clause-call : goal.returns-clause-call
returns-clause-call g c =
    append_call g.D.Disk.state c.args.self.now c.learn.new.self c.append.new.self c.args.n c.args.e.now (write_passed c.args.self.now c.args.n (sym c.write_refusal.ensures ∙ c.in_default.is)) c.in_default-learn.ensures.learned c.in_default-learn.ensures.causes
    c.in_default-learn.ensures.call c.append.result c.append.ensures

pub returns-clause-causes : goal.returns-clause-causes
returns-clause-causes g c =
    let state = g.D.Disk.state in
    let p = c.args.self.now in
    let new = c.append.new.self in
    let n = c.args.n in
    let none = sym c.write_refusal.ensures ∙ c.in_default.is in
    where_passed (rows.write_refusal p n) p new c.append.result (WriteRest state p new n c.args.e.now c.append.result) none
    (append_causes state p c.learn.new.self new n c.args.e.now (write_passed p n none) c.in_default-learn.ensures.learned c.in_default-learn.ensures.causes c.append.result c.append.ensures)

pub returns-in-Err-clause-beside : goal.returns-in-Err-clause-beside
returns-in-Err-clause-beside g c = beside_keeps c.args.self.now c.learn.new.self c.args.n c.in-Err.ensures.learned.1

pub returns-clause-beside : goal.returns-clause-beside
returns-clause-beside g c =
    let p = c.args.self.now in
    let mid = c.learn.new.self in
    let new = c.append.new.self in
    keeps_on p mid new c.args.n (beside_keeps p mid c.args.n c.in_default-learn.ensures.learned.1)
    (append_keeps mid new c.args.n g.D.Disk.state c.args.e.now c.append.result c.append.ensures)
