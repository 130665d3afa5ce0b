use Rattle.std.proofs.Common.{◌∙◌, sym, arith, Ok, Err}
use Rattle.crash_disk.proofs.Runs.{stays_here}
use Rattle.pair_world.specs.Step.{Book}
use Rattle.pair_core.specs.declared.pair_writes.Booked.{Booked as BookedEntry}
use Rattle.pair_core.specs.Pair.{count_of}
use Rattle.pair_core.specs.PairAnswers.{BookRest}
use Rattle.pair_core.specs.PairRefusals as rows
use Rattle.pair_core.proofs.PairLearned.{course_kept, is_call}
use Rattle.pair_core.proofs.PairReady.{where_passed}
use Rattle.pair_core.proofs.PairShown.{all_quiet, all_stay}
use Rattle.pair_core.proofs.PairBooked.{book_passed, book_refused, book_unread, booked_does, booked_moments, booked_causes, booked_call, unbooked}
use Rattle.pair_core.proofs.PairBeside.{beside_keeps, counted_keeps, keeps_on}
use Rattle.pair_core.proofs.pair.Pair.book.Goals as goal

pub learn-requires : goal.learn-requires
learn-requires g c = (book_passed c.args.self.now (sym c.book_refusal.ensures ∙ c.in_default.is)).up

pub returns-in-Some-clause-does : goal.returns-in-Some-clause-does
returns-in-Some-clause-does g c limits w shown lawful =
    book_refused g.D.Disk.state limits c.args.self.now w shown c.in-Some.refusal (sym c.book_refusal.ensures ∙ c.in-Some.is)

pub returns-in-Some-clause-moments : goal.returns-in-Some-clause-moments
returns-in-Some-clause-moments g c limits w shown lawful =
    all_quiet g.D.Disk.state limits c.args.self.now c.args.self.now w Book shown g.met.D.Disk.sound (λ disk. stays_here _)

pub returns-in-Err-clause-does : goal.returns-in-Err-clause-does
returns-in-Err-clause-does g c limits w shown lawful =
    book_unread g.D.Disk.state limits c.args.self.now w shown lawful (sym c.book_refusal.ensures ∙ c.in_default.is) c.learn.new.self c.in-Err.ensures.learned c.in-Err.fault c.in-Err.ensures.causes.0

pub returns-in-Err-clause-moments : goal.returns-in-Err-clause-moments
returns-in-Err-clause-moments g c limits w shown lawful =
    let state = g.D.Disk.state in
    let p = c.args.self.now in
    let learned = c.in-Err.ensures.learned in
    all_quiet state limits p c.learn.new.self w Book shown g.met.D.Disk.sound (all_stay state p c.learn.new.self (rows.holder p) learned.1 learned.0.journal.stays)

pub returns-in-Ok-clause-does : goal.returns-in-Ok-clause-does
returns-in-Ok-clause-does g c limits w shown lawful =
    let r = c.in_default-learn.ensures in
    let next = c.in-Ok.ensures in
    booked_does g.D.Disk.state limits c.args.self.now w shown lawful (sym c.book_refusal.ensures ∙ c.in_default.is) c.learn.new.self c.learn_next.new.self r.learned r.causes next.learns next.counts c.in-Ok.verdict next.answer

pub returns-in-Ok-clause-moments : goal.returns-in-Ok-clause-moments
returns-in-Ok-clause-moments g c limits w shown lawful =
    let r = c.in_default-learn.ensures in
    let next = c.in-Ok.ensures in
    booked_moments g.D.Disk.state limits c.args.self.now w shown lawful (sym c.book_refusal.ensures ∙ c.in_default.is) c.learn.new.self c.learn_next.new.self r.learned r.causes next.learns next.counts g.met.D.Disk.sound

pub returns-in-Ok-clause-causes : goal.returns-in-Ok-clause-causes
returns-in-Ok-clause-causes g c =
    let p = c.args.self.now in
    let passed = book_passed p (sym c.book_refusal.ensures ∙ c.in_default.is) in
    let r = c.in_default-learn.ensures in
    let next = c.in-Ok.ensures in
    let new = c.learn_next.new.self in
    let booked : BookedEntry = record { number = count_of new; code = c.in-Ok.verdict.code; detail = c.in-Ok.verdict.detail } in
    where_passed (rows.book_refusal p) p new (Ok booked) (BookRest g.D.Disk.state p new (rows.holder p) (Ok booked)) (sym c.book_refusal.ensures ∙ c.in_default.is)
    (booked_causes g.D.Disk.state p c.learn.new.self new (rows.holder p) passed.register_up passed.pending r.learned r.causes c.in-Ok.verdict next.answer next.learns next.counts)

pub returns-in-Ok-clause-call : goal.returns-in-Ok-clause-call
returns-in-Ok-clause-call g c =
    let p = c.args.self.now in
    let passed = book_passed p (sym c.book_refusal.ensures ∙ c.in_default.is) in
    let r = c.in_default-learn.ensures in
    let next = c.in-Ok.ensures in
    booked_call g.D.Disk.state p c.learn.new.self c.learn_next.new.self (rows.holder p) passed.register_up passed.pending r.learned r.causes g.met.D.Disk.sound next.learns next.counts

pub learn_next-requires-clause-pending : goal.learn_next-requires-clause-pending
learn_next-requires-clause-pending g c =
    let r = c.in_default-learn.ensures in
    let pending = (book_passed c.args.self.now (sym c.book_refusal.ensures ∙ c.in_default.is)).pending in
    omega (arith, pending, r.causes.2, r.learned.1.count)

pub returns-in-Err-learn_next-clause-does : goal.returns-in-Err-learn_next-clause-does
returns-in-Err-learn_next-clause-does g c limits w shown lawful =
    let state = g.D.Disk.state in
    let p = c.args.self.now in
    let new = c.not_learned.new.self in
    let none = sym c.book_refusal.ensures ∙ c.in_default.is in
    let passed = book_passed p none in
    let r = c.in_default-learn.ensures in
    let next = c.in-Err-learn_next.ensures in
    let told = unbooked state p c.learn.new.self new (rows.holder p) passed.register_up passed.pending r.learned r.causes c.learn_next.new.self g.met.D.Disk.sound c.in-Err-learn_next.fault c.not_learned.result next.answer next.learns next.counts c.not_learned.ensures in
    book_unread state limits p w shown lawful none new told.learned c.not_learned.result told.causes

pub returns-in-Err-learn_next-clause-moments : goal.returns-in-Err-learn_next-clause-moments
returns-in-Err-learn_next-clause-moments g c limits w shown lawful =
    let state = g.D.Disk.state in
    let p = c.args.self.now in
    let new = c.not_learned.new.self in
    let none = sym c.book_refusal.ensures ∙ c.in_default.is in
    let passed = book_passed p none in
    let r = c.in_default-learn.ensures in
    let next = c.in-Err-learn_next.ensures in
    let told = unbooked state p c.learn.new.self new (rows.holder p) passed.register_up passed.pending r.learned r.causes c.learn_next.new.self g.met.D.Disk.sound c.in-Err-learn_next.fault c.not_learned.result next.answer next.learns next.counts c.not_learned.ensures in
    all_quiet state limits p new w Book shown g.met.D.Disk.sound (all_stay state p new (rows.holder p) told.learned.1 told.learned.0.journal.stays)

pub returns-in-Err-learn_next-clause-causes : goal.returns-in-Err-learn_next-clause-causes
returns-in-Err-learn_next-clause-causes g c =
    let state = g.D.Disk.state in
    let p = c.args.self.now in
    let new = c.not_learned.new.self in
    let none = sym c.book_refusal.ensures ∙ c.in_default.is in
    let passed = book_passed p none in
    let r = c.in_default-learn.ensures in
    let next = c.in-Err-learn_next.ensures in
    let told = unbooked state p c.learn.new.self new (rows.holder p) passed.register_up passed.pending r.learned r.causes c.learn_next.new.self g.met.D.Disk.sound c.in-Err-learn_next.fault c.not_learned.result next.answer next.learns next.counts c.not_learned.ensures in
    where_passed (rows.book_refusal p) p new (Err c.not_learned.result) (BookRest state p new (rows.holder p) (Err c.not_learned.result)) none (told.causes, course_kept state p new (rows.holder p) told.learned.1)

pub returns-in-Err-learn_next-clause-call : goal.returns-in-Err-learn_next-clause-call
returns-in-Err-learn_next-clause-call g c =
    let state = g.D.Disk.state in
    let p = c.args.self.now in
    let new = c.not_learned.new.self in
    let none = sym c.book_refusal.ensures ∙ c.in_default.is in
    let passed = book_passed p none in
    let r = c.in_default-learn.ensures in
    let next = c.in-Err-learn_next.ensures in
    let told = unbooked state p c.learn.new.self new (rows.holder p) passed.register_up passed.pending r.learned r.causes c.learn_next.new.self g.met.D.Disk.sound c.in-Err-learn_next.fault c.not_learned.result next.answer next.learns next.counts c.not_learned.ensures in
    is_call state p new (rows.holder p) told.learned.1.nodes told.learned.1.register told.learned.0.journal.fixed (omega (arith, told.learned.1.count))

pub returns-in-Err-clause-beside : goal.returns-in-Err-clause-beside
returns-in-Err-clause-beside g c = beside_keeps c.args.self.now c.learn.new.self (rows.holder c.args.self.now) c.in-Err.ensures.learned.1

pub returns-in-Ok-clause-beside : goal.returns-in-Ok-clause-beside
returns-in-Ok-clause-beside g c =
    let p = c.args.self.now in
    let mid = c.learn.new.self in
    let new = c.learn_next.new.self in
    let n = rows.holder p in
    keeps_on p mid new n (beside_keeps p mid n c.in_default-learn.ensures.learned.1) (counted_keeps mid new n c.in-Ok.ensures.counts)

pub returns-in-Err-learn_next-clause-beside : goal.returns-in-Err-learn_next-clause-beside
returns-in-Err-learn_next-clause-beside g c =
    let state = g.D.Disk.state in
    let p = c.args.self.now in
    let new = c.not_learned.new.self in
    let passed = book_passed p (sym c.book_refusal.ensures ∙ c.in_default.is) in
    let r = c.in_default-learn.ensures in
    let next = c.in-Err-learn_next.ensures in
    let told = unbooked state p c.learn.new.self new (rows.holder p) passed.register_up passed.pending r.learned r.causes c.learn_next.new.self g.met.D.Disk.sound c.in-Err-learn_next.fault c.not_learned.result next.answer next.learns next.counts c.not_learned.ensures in
    beside_keeps p new (rows.holder p) told.learned.1
