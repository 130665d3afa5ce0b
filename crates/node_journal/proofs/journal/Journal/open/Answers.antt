use Rattle.std.proofs.Common.{refl, sym, subst, arith}
use Rattle.node_journal.specs.OpenJournal.{Refused}
use Rattle.node_journal.proofs.Represented.{counts, shown_frames, refused}
use Rattle.node_journal.proofs.journal.Journal.open.Goals as goal

pub returns-in-Ok-open : goal.returns-in-Ok-open
returns-in-Ok-open g c =
    let state = g.D.Disk.state in
    let found = c.in-Ok-open.ensures.answer in
    let name = c.args.name in
    let known = c.open.new.reader.items.items in
    record {
      stays = found.stays;
      faults = found.faults;
      named = refl;
      limited = found.limited;
      within = omega (arith, found.within, counts state c.args.disk name c.args.limit _ known c.first_block-block.ensures.head c.in-Ok-open.log found);
      usable = found.usable;
      shown = λ image told.
          let shown = shown_frames state c.args.disk name c.args.limit _ known c.first_block-block.ensures.head c.in-Ok-open.log found image told in
          (shown.frames, shown.stands, record { kept = shown.kept; known = shown.known_are });
    }

pub returns-in-Err-open : goal.returns-in-Err-open
returns-in-Err-open g c =
    let state = g.D.Disk.state in
    let found = c.in-Err-open.ensures.answer in
    let cause = refused c.args.name c.args.limit _ (state c.args.disk) (state c.in-Err-open.disk) c.in-Err-open.fault c.first_block-block.ensures.head found.cause in
    record {
      stays = found.stays;
      faults = found.faults;
      cause = subst (Refused c.args.name c.args.limit (state c.args.disk) (state c.in-Err-open.disk)) (sym c.refusal.ensures) cause;
    }
