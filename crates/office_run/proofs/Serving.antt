-- A run of a script at a desk, command by command.
use Rattle.std.proofs.Common.{◌≡◌, ◌≢◌, ℕ, ◌+◌, List, [], ◌∷◌, ◌++◌, length, map, take, refl, sym, ap, ◌∙◌, subst, arith, Option, Some, None, Ok, Err, length-append}
use Rattle.std.specs.Io.KnownBytes.{Appends}
use Rattle.std.proofs.KnownBytes.{Appends-trans, Appends-nil}
use Rattle.ali_base.specs.WholePuts.{AppendsPart}
use Rattle.ali_base.specs.declared.names.NodeName.TheVariants.{A, B}
use Rattle.ali_base.specs.declared.no_memory.NoMemory.{NoMemory}
use Rattle.command_desk.specs.MadeReply.{ShowsMachine, Carries, counts_at, receiver_of, replies_of, switches_of, table_of}
use Rattle.command_desk.specs.OpenedDesk.{Keeps, Switched}
use Rattle.command_desk.specs.declared.desk.Desk.{Desk}
use Rattle.command_desk.specs.declared.reply.Replied.{Replied}
use Rattle.command_machine.specs.Machine.{Moment, IsLawful}
use Rattle.command_machine.specs.Replies.{Reply}
use Rattle.command_machine.specs.ReplyText.{text_of}
use Rattle.command_machine.specs.Steps.{Replies}
use Rattle.crash_disk.specs.DiskState.{DiskState}
use Rattle.office_commands.specs.Commands.{Command}
use Rattle.office_run.specs.Carrying.{Carried}
use Rattle.office_run.specs.Disks.{IsBacked, IsLast}
use Rattle.office_run.specs.Exit.{IsIdle}
use Rattle.office_run.specs.Replied.{AreSwitchedSince, AreMachines, RepliedTo, RepliedToAll, StoppedAt, RepliedInPart, RepliedToSome, all_of}
use Rattle.office_run.specs.ScriptGrammar.{Reads}
use Rattle.office_run.specs.ScriptReading.{command_at}
use Rattle.office_run.specs.Serving.{disks_at, IsOpenDesk}
use Rattle.office_run.proofs.Backed.{kept_from_backed}
use Rattle.office_run.proofs.CommandTexts.{begins-command_at}
use Rattle.office_run.proofs.Scripts.{Reads-snoc, no_first}
use Rattle.office_run.proofs.Switched.{switched_more, switched_since, never-trans, replies_more, all_of-more, text_of-more}

module _ {D : Type 0} (state : D → DiskState) where
  -- the world that a desk shows backs its disks
  backed : (desk : Desk D) (m : Moment) → ShowsMachine state desk m → IsBacked (disks_at state desk) m
  backed desk m shows =
      let a = shows.world.nodes A in
      let b = shows.world.nodes B in
      record { a = a.images; b = b.images; duty = shows.world.images }

  -- a desk that shows a lawful moment is at the last moment of a run that ends now
  pub last_of : (desk : Desk D) (m : Moment) → ShowsMachine state desk m → IsLawful m.machine → IsLast (disks_at state desk) m
  last_of desk m shows lawful = record {
    counts = shows.counts;
    backed = backed desk m shows;
    kept = kept_from_backed (disks_at state desk) m (backed desk m shows) lawful.world;
  }

  -- before the first command
  pub idle : (desk : Desk D) → IsOpenDesk state desk → IsIdle (disks_at state desk) (disks_at state desk)
  idle desk opened honest = let first = opened.first honest in (first.0, first.1, last_of desk first.0 first.2 first.3)

  -- no command more
  pub keeps-refl : (desk : Desk D) → Keeps state desk desk
  keeps-refl desk = record { bounds = refl; counts = λ disk. omega arith; booked = omega arith }

  pub keeps-trans : (from mid now : Desk D) → Keeps state from mid → Keeps state mid now → Keeps state from now
  keeps-trans from mid now first second = record {
    bounds = second.bounds ∙ first.bounds;
    counts = never-trans (counts_at state from) (counts_at state mid) (counts_at state now) first.counts second.counts;
    booked = omega (arith, first.booked, second.booked);
  }

  -- all that this desk tells of a command
  abbrev told_at : Desk D → Replied → List Reply
  told_at desk made = replies_of (table_of desk) desk.job made

  pub carried_more : (from desk now : Desk D) (commands : List Command) (told : List (List Reply)) (next : Command) (made : Replied)
      → Carried state from desk commands told → Carries state desk now next (Ok made) → Switched state desk now next (Ok made) → Keeps state desk now
      → Carried state from now (commands ++ next ∷ []) (told ++ told_at now made ∷ [])
  carried_more from desk now commands told next made so_far carries switches keeps =
      let last = told_at now made in
      record {
        switched = switched_more (counts_at state from) (switches_of from) commands told (counts_at state desk) (switches_of desk) next last (counts_at state now) (switches_of now) so_far.switched keeps.counts switches;
        machine = λ m shows lawful. (
            let before = so_far.machine m shows lawful in
            let after = carries before.0 before.1 before.2 in
            let P : List Reply → Type 0 = λ z. Replies m (commands ++ next ∷ []) z after.0 in
            (after.0, after.1, after.2, subst P (sym (all_of-more told last)) (replies_more m commands (all_of told) before.0 next last after.0 before.3 after.3)));
        kept = keeps-trans from desk now so_far.kept keeps;
      }

  -- what that is of the disks
  since : (from desk : Desk D) (commands : List Command) (told : List (List Reply)) (now : Desk D) → IsOpenDesk state from → Carried state from desk commands told → Keeps state desk now
      → AreSwitchedSince (disks_at state from) (disks_at state now) commands told
  since from desk commands told now opened so_far keeps = record {
    first = counts_at state from;
    since = λ disk. omega arith;
    s = switches_of from;
    register = opened.register;
    a = opened.a;
    b = opened.b;
    sent = ap (λ z. map receiver_of z) opened.sent;
    switched = switched_since (counts_at state from) (switches_of from) commands told (counts_at state desk) (switches_of desk) (counts_at state now) so_far.switched keeps.counts;
  }

  machines : (from desk : Desk D) (commands : List Command) (told : List (List Reply)) → IsOpenDesk state from → Carried state from desk commands told
      → AreMachines (disks_at state from) (disks_at state desk) commands told
  machines from desk commands told opened so_far honest =
      let first = opened.first honest in
      let last = so_far.machine first.0 first.2 first.3 in
      (first.0, last.0, first.1, last.3, last_of desk last.0 last.1 last.2)

  -- the commands so far have their replies, and rest is left of the script
  pub record Served (script : List ℕ) (old new : Option (List ℕ)) (rest : List ℕ) (from desk : Desk D) (count : ℕ) : Type 0 where
    pub commands : List Command
    pub told : List (List Reply)
    pub reads : Reads script commands rest
    pub put : Appends old new (text_of (all_of told))
    pub carried : Carried state from desk commands told
    pub count_is : count ≡ length commands

  pub served_none : (script : List ℕ) (held : Option (List ℕ)) (desk : Desk D) → Served script held held script desk desk 0
  served_none script held desk = record {
    commands = [];
    told = [];
    reads = refl;
    put = Appends-nil held;
    carried = record { switched = (refl, refl, refl); machine = λ m shows lawful. (m, shows, lawful, (refl, refl)); kept = keeps-refl desk };
    count_is = refl;
  }

  module _ (script : List ℕ) (old mid new : Option (List ℕ)) (rest : List ℕ) (from desk : Desk D) (count : ℕ) (so_far : Served script old mid rest from desk count) where
    module _ (now : Desk D) (next : Command) (later : List ℕ) (first : Some (next, later) ≡ command_at rest) where
      more : Reads script (so_far.commands ++ next ∷ []) later
      more = Reads-snoc script so_far.commands next rest later so_far.reads (begins-command_at rest next later (sym first))

      -- one command more was carried out, and its replies were put
      pub served_more : (made : Replied) → Carries state desk now next (Ok made) → Switched state desk now next (Ok made) → Keeps state desk now
          → Appends mid new (text_of (replies_of (table_of now) now.job made)) → Served script old new later from now (count + 1)
      served_more made carries switches keeps put =
          let last = told_at now made in
          record {
            commands = so_far.commands ++ next ∷ [];
            told = so_far.told ++ last ∷ [];
            reads = more;
            put = subst (Appends old new) (sym (text_of-more so_far.told last)) (Appends-trans old mid new (text_of (all_of so_far.told)) (text_of last) so_far.put put);
            carried = carried_more from desk now so_far.commands so_far.told next made so_far.carried carries switches keeps;
            count_is = omega (arith, so_far.count_is, length-append so_far.commands (next ∷ []));
          }

      -- the last replies were put in part
      pub served_part : (made : Replied) → IsOpenDesk state from → Carries state desk now next (Ok made) → Switched state desk now next (Ok made) → Keeps state desk now
          → AppendsPart mid new (text_of (replies_of (table_of now) now.job made)) → RepliedInPart (disks_at state from) (disks_at state now) script old new
      served_part made opened carries switches keeps part =
          let last = told_at now made in
          let all = carried_more from desk now so_far.commands so_far.told next made so_far.carried carries switches keeps in
          record {
            commands = so_far.commands;
            next = next;
            rest = later;
            reads = more;
            told = so_far.told;
            last = last;
            count = part.0;
            part = part.1;
            put = Appends-trans old mid new (text_of (all_of so_far.told)) (take part.0 (text_of last)) so_far.put part.2;
            switched = since from now (so_far.commands ++ next ∷ []) (so_far.told ++ last ∷ []) now opened all (keeps-refl now);
            machine = machines from now (so_far.commands ++ next ∷ []) (so_far.told ++ last ∷ []) opened all;
          }

      -- the command was left for want of memory
      pub served_some : (e : NoMemory) → IsOpenDesk state from → Carries state desk now next (Err e) → Keeps state desk now
          → RepliedToSome (disks_at state from) (disks_at state now) script old mid
      served_some e opened carries keeps = record {
        commands = so_far.commands;
        next = next;
        rest = later;
        reads = more;
        told = so_far.told;
        put = so_far.put;
        switched = since from desk so_far.commands so_far.told now opened so_far.carried keeps;
        machine = λ honest. (
            let first = opened.first honest in
            let whole = so_far.carried.machine first.0 first.2 first.3 in
            let last = carries whole.0 whole.1 whole.2 in
            (first.0, whole.0, last.0, last.3.0, first.1, whole.3, last.3.1, last_of now last.0 last.1 last.2));
      }

    -- no command is left, or none is read
    replied : IsOpenDesk state from → RepliedTo (disks_at state from) (disks_at state desk) so_far.commands old mid
    replied opened = record {
      told = so_far.told;
      put = so_far.put;
      switched = since from desk so_far.commands so_far.told desk opened so_far.carried (keeps-refl desk);
      machine = machines from desk so_far.commands so_far.told opened so_far.carried;
    }

    pub served_all : IsOpenDesk state from → rest ≡ [] → RepliedToAll (disks_at state from) (disks_at state desk) script old mid
    served_all opened none =
        let P : List ℕ → Type 0 = λ z. Reads script so_far.commands z in
        record { commands = so_far.commands; reads = subst P none so_far.reads; replied = replied opened }

    pub served_stop : IsOpenDesk state from → rest ≢ [] → command_at rest ≡ None → StoppedAt (disks_at state from) (disks_at state desk) (count + 1) script old mid
    served_stop opened some none = record {
      commands = so_far.commands;
      stops = record { rest = rest; front = so_far.reads; more = some; stop = no_first rest none };
      number = omega (arith, so_far.count_is);
      replied = replied opened;
    }
