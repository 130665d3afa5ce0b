use Rattle.std.proofs.Common.{◌≡◌, refl, sym, subst, ◌∙◌, arith}
use Rattle.commit_log.specs.OpenLog as log
use Rattle.commit_log.specs.declared.opening.OpenFault.{OpenFault}
use Rattle.commit_log.specs.declared.opening.OpenFault.TheVariants as failing
use Rattle.node_journal.specs.declared.faults.JournalFault.TheVariants as opening
use Rattle.node_journal.specs.OpenJournal.{Refused, refusal}
use Rattle.node_journal.proofs.Represented.{counts, shown_frames, refused}
use Rattle.node_journal.proofs.journal.Journal.reopen.Goals as goal

pub returns-in-Ok-clause-answer : goal.returns-in-Ok-clause-answer
returns-in-Ok-clause-answer g c =
    let state = g.D.Disk.state in
    let old = c.args.self.now in
    let found = c.in-Ok.ensures.answer in
    let disk = log.disk_of old.log in
    let limit = log.limit_of old.log in
    let known = c.reopen.new.reader.items.items in
    record {
      stays = found.stays;
      faults = found.faults;
      named = refl;
      limited = found.limited;
      within = omega (arith, found.within, counts state disk old.name limit _ known c.first_block-block.ensures.head c.reopen.new.self found);
      usable = found.usable;
      shown = λ image told.
          let shown = shown_frames state disk old.name limit _ known c.first_block-block.ensures.head c.reopen.new.self found image told in
          (shown.frames, shown.stands, record { kept = shown.kept; known = shown.known_are });
    }

-- a log is not refused for want of memory
never : (fault : OpenFault) → refusal fault ≡ opening.NoMemory → ⊥
never failing.DiskFault h = cc
never failing.Foreign h = cc
never (failing.Damaged k) h = cc

pub returns-in-Err-clause-answer : goal.returns-in-Err-clause-answer
returns-in-Err-clause-answer g c =
    let state = g.D.Disk.state in
    let old = c.args.self.now in
    let found = c.in-Err.ensures.answer in
    let before = state (log.disk_of old.log) in
    let after = state (log.disk_of c.reopen.new.self) in
    let limit = log.limit_of old.log in (
      record {
        stays = found.stays;
        faults = found.faults;
        cause = subst (Refused old.name limit before after) (sym c.refusal.ensures) (refused old.name limit _ before after c.in-Err.fault c.first_block-block.ensures.head found.cause);
      },
      λ memory. never c.in-Err.fault (sym c.refusal.ensures ∙ memory),
      c.truncate-in-Err.ensures.items,
    )
