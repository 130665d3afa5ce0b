use Rattle.std.proofs.Common.{◌≡◌, ◌≢◌, length, refl, sym, ap, subst, ◌∙◌, arith}
use Rattle.crash_disk.specs.DiskState.{DiskState}
use Rattle.node_journal.proofs.Represented.{length-epochs}
use Rattle.node_journal.specs.OpenJournal as journals
use Rattle.node_journal.specs.declared.faults.JournalFault.{JournalFault}
use Rattle.node_journal.specs.declared.faults.JournalFault.TheVariants as opening
use Rattle.pair_node.specs.NodeState.{disk_of}
use Rattle.pair_node.specs.StartedNode.{Asked, Refused, refusal, asked_again}
use Rattle.pair_node.specs.declared.faults.StartFault.TheVariants as starting
use Rattle.pair_node.proofs.node.Node.restart.Goals as goal

-- the cause of the journal's refusal is that of the node's
same_cause : (asked : Asked) (before after : DiskState) (fault : JournalFault) → journals.Refused asked.name asked.limit before after fault → Refused asked before after (refusal fault)
same_cause asked before after opening.DiskFault cause = cause
same_cause asked before after opening.Foreign cause = cause
same_cause asked before after (opening.Damaged k) cause = cause
same_cause asked before after opening.NoMemory cause = cause

never : (fault : JournalFault) → fault ≢ opening.NoMemory → refusal fault ≡ starting.NoMemory → ⊥
never opening.DiskFault other e = cc
never opening.Foreign other e = cc
never (opening.Damaged k) other e = cc
never opening.NoMemory other e = other refl

pub returns-in-Err : goal.returns-in-Err
returns-in-Err g c =
    let state = g.D.Disk.state in
    let old = c.args.self.now in
    let asked = asked_again old c.args.known c.args.need in
    let answer = c.in-Err.ensures.answer in
    let before = state (disk_of old) in
    let after = state (journals.disk_of c.reopen.new.self) in
    record {
      answer = (
        record {
          stays = answer.0.stays;
          faults = answer.0.faults;
          cause = subst (Refused asked before after) (sym c.refusal.ensures) (same_cause asked before after c.in-Err.fault answer.0.cause);
        },
        λ memory. never c.in-Err.fault answer.1 (sym c.refusal.ensures ∙ memory),
        refl,
        refl,
      );
      forgotten = record {
        fixed = c.in-Err.ensures.fixed;
        empty = c.clear.ensures.empty;
        history = c.clear.ensures.history;
        learned = refl;
      };
    }

pub returns-then-have-need : goal.returns-then-have-need
returns-then-have-need g c =
    let opened = c.in-Ok.ensures.answer in
    record {
      answer = (
        record {
          stays = opened.stays;
          faults = opened.faults;
          cause = (
            c.if-have-need.true,
            refl,
            λ image told.
                let shown = opened.shown image told in
                (shown.0, sym (length-epochs shown.0) ∙ ap length (sym shown.2.known) ∙ sym c.len-have.ensures, shown.1),
          );
        },
        λ memory. cc,
        refl,
        refl,
      );
      forgotten = record {
        fixed = c.in-Ok.ensures.fixed;
        empty = c.clear.ensures.empty;
        history = c.clear.ensures.history;
        learned = refl;
      };
    }

pub returns : goal.returns
returns g c =
    let opened = c.in-Ok.ensures.answer in
    record {
      answer = record {
        opened = opened;
        enough = omega (arith, c.if-have-need.false, c.len-have.ensures);
        known = refl;
        learned = refl;
        usable = refl;
        empty = c.clear.ensures.begins;
        shown = λ image told. let shown = opened.shown image told in (shown.0, shown.1, record { journal = shown.2; table = c.clear.ensures.begins });
      };
      forgotten = record {
        fixed = c.in-Ok.ensures.fixed;
        empty = c.clear.ensures.empty;
        history = c.clear.ensures.history;
        learned = refl;
      };
    }
