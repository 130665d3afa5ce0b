-- Commands that a desk carries out one after the other, put together.
use Rattle.std.specs.Result.{IsErr}
use Rattle.std.proofs.Common.{◌≡◌, ℕ, ◌+◌, List, [], ◌∷◌, ◌++◌, refl, sym, ap, ◌∙◌, subst, arith, Some, Result, Ok, Err, append_assoc, append-nil}
use Rattle.ali_base.specs.declared.no_memory.NoMemory.{NoMemory}
use Rattle.command_desk.specs.MadeReply.{Carries, counts_at, replies_of, switches_of, table_of}
use Rattle.command_desk.specs.OpenedDesk.{Keeps, Switched}
use Rattle.command_desk.specs.RefusedLines.{refused_lines}
use Rattle.command_desk.specs.declared.desk.Desk.{Desk}
use Rattle.command_desk.specs.declared.reply.Replied.{Replied}
use Rattle.command_machine.specs.Courses.{First}
use Rattle.command_machine.specs.Machine.{Moment}
use Rattle.command_machine.specs.Replies.{Reply}
use Rattle.command_machine.specs.ReplyText.{text_of}
use Rattle.command_machine.specs.Steps.{Replies, StepsInPart}
use Rattle.command_machine.specs.Switches.{Switches}
use Rattle.crash_disk.specs.DiskState.{DiskState}
use Rattle.office_commands.specs.Commands.{Command}
use Rattle.office_run.specs.Carrying.{SwitchedTo, Carried, IsLeft, Tallies, Fills}
use Rattle.office_run.specs.Generated.{LeftOff}
use Rattle.office_run.specs.Replied.{all_of}
use Rattle.office_run.specs.declared.tally.Tally.{Tally}
use Rattle.office_run.proofs.Serving.{keeps-refl, keeps-trans}
use Rattle.office_run.proofs.Switched.{text_of-append}
use Rattle.sha2.specs.Hashers.{Holds256}
use Rattle.world_rows.specs.Counts.{Counts}

switched_append : (before : Counts) (s : Switches) (xs : List Command) (told : List (List Reply)) (now : Counts) (t : Switches) (ys : List Command) (more : List (List Reply)) (later : Counts) (u : Switches)
    → SwitchedTo before s xs told now t → SwitchedTo now t ys more later u → SwitchedTo before s (xs ++ ys) (told ++ more) later u
switched_append before s [] told now t ys more later u h next =
    let P : List (List Reply) → Counts → Switches → Type 0 = λ z c w. SwitchedTo c w ys z later u in
    subst (λ z. P (z ++ more) before s) (sym h.0) (subst (λ c. P more c s) h.1 (subst (λ w. P more now w) h.2 next))
switched_append before s (c ∷ cs) told now t ys more later u h next =
    (h.0, h.1 ++ more, h.2, h.3, ap (λ z. z ++ more) h.4, h.5, h.6, switched_append h.2 h.3 cs h.1 now t ys more later u h.7 next)

replies_append : (m : Moment) (xs : List Command) (told : List Reply) (now : Moment) (ys : List Command) (more : List Reply) (later : Moment)
    → Replies m xs told now → Replies now ys more later → Replies m (xs ++ ys) (told ++ more) later
replies_append m [] told now ys more later h next =
    let P : List Reply → Moment → Type 0 = λ z n. Replies n ys z later in
    subst (λ z. P (z ++ more) m) (sym h.0) (subst (λ n. P more n) h.1 next)
replies_append m (c ∷ cs) told now ys more later h next =
    (h.0, h.1 ++ more, h.2, h.3, replies_append h.2 cs h.1 now ys more later h.4 next, ap (λ z. z ++ more) h.5 ∙ append_assoc h.0 h.1 more)

all_of-append : (told more : List (List Reply)) → all_of (told ++ more) ≡ all_of told ++ all_of more
all_of-append [] more = refl
all_of-append (first ∷ told) more = ap (λ z. first ++ z) (all_of-append told more) ∙ sym (append_assoc first (all_of told) (all_of more))

refused-append : (told more : List Reply) → refused_lines (told ++ more) ≡ refused_lines told + refused_lines more
refused-append [] more = omega arith
refused-append (first ∷ told) more = omega (arith, refused-append told more)

pub tallies_none : (tally : Tally) → Tallies tally tally []
tallies_none tally = record {
  refused = omega arith;
  text = λ before held. subst (λ z. Holds256 tally.replies z) (sym (append-nil before)) held;
}

pub tallies_append : (a b c : Tally) (told more : List (List Reply)) → Tallies a b told → Tallies b c more → Tallies a c (told ++ more)
tallies_append a b c told more first second = record {
  refused = omega (arith, first.refused, second.refused, ap refused_lines (all_of-append told more), refused-append (all_of told) (all_of more));
  text = λ before held. (
      let one = text_of (all_of told) in
      let two = text_of (all_of more) in
      let same = ap text_of (all_of-append told more) ∙ text_of-append (all_of told) (all_of more) in
      subst (λ z. Holds256 c.replies (before ++ z)) (sym same)
      (subst (λ z. Holds256 c.replies z) (append_assoc before one two) (second.text (before ++ one) (first.text before held))));
}

-- more commands behind those that were left
left_longer : (m : Moment) (rest more : List Command) (now : Moment) → LeftOff m rest now → LeftOff m (rest ++ more) now
left_longer m [] [] now h = h
left_longer m [] (command ∷ more) now h =
    let none : StepsInPart m command [] m = record { events = 0; last = m; event = Some (First command); runs = refl; machine = refl; counts = λ d. omega arith } in
    ([], subst (λ (z : Moment). StepsInPart m command [] z) (sym h) none)
left_longer m (command ∷ rest) more now h = h

pub tally_one : (a b : Tally) (told : List Reply) (refused : ℕ) (text : List ℕ) → b.refused ≡ a.refused + refused → refused ≡ refused_lines told
    → ((before : List ℕ) → Holds256 a.replies before → Holds256 b.replies (before ++ text)) → text ≡ text_of told → Tallies a b (told ∷ [])
tally_one a b told refused text more is holds same = record {
  refused = omega (arith, more, is, ap refused_lines (append-nil told));
  text = λ before held. (
      let P : List ℕ → Type 0 = λ z. Holds256 b.replies (before ++ z) in
      subst P (same ∙ sym (ap text_of (append-nil told))) (holds before held));
}

module _ {D : Type 0} (state : D → DiskState) where
  pub carried_none : (desk : Desk D) → Carried state desk desk [] []
  carried_none desk =
      record { switched = (refl, refl, refl); machine = λ m shows lawful. (m, shows, lawful, (refl, refl)); kept = keeps-refl state desk }

  pub carried_append : (from mid now : Desk D) (xs : List Command) (told : List (List Reply)) (ys : List Command) (more : List (List Reply))
      → Carried state from mid xs told → Carried state mid now ys more → Carried state from now (xs ++ ys) (told ++ more)
  carried_append from mid now xs told ys more first second = record {
    switched = switched_append (counts_at state from) (switches_of from) xs told (counts_at state mid) (switches_of mid) ys more (counts_at state now) (switches_of now) first.switched second.switched;
    machine = λ m shows lawful. (
        let a = first.machine m shows lawful in
        let b = second.machine a.0 a.1 a.2 in
        let P : List Reply → Type 0 = λ z. Replies m (xs ++ ys) z b.0 in
        (b.0, b.1, b.2, subst P (sym (all_of-append told more)) (replies_append m xs (all_of told) a.0 ys (all_of more) b.0 a.3 b.3)));
    kept = keeps-trans state from mid now first.kept second.kept;
  }

  -- some commands were carried out, and then others were left
  left_after : (from mid now : Desk D) (xs : List Command) (told : List (List Reply)) (ys : List Command) → Carried state from mid xs told → IsLeft state mid now ys → IsLeft state from now (xs ++ ys)
  left_after from mid now xs told ys first h = record {
    done = xs ++ h.done;
    rest = h.rest;
    all = ap (λ z. xs ++ z) h.all ∙ sym (append_assoc xs h.done h.rest);
    told = told ++ h.told;
    counts = h.counts;
    switches = h.switches;
    switched = switched_append (counts_at state from) (switches_of from) xs told (counts_at state mid) (switches_of mid) h.done h.told h.counts h.switches first.switched h.switched;
    falls = h.falls;
    machine = λ m shows lawful. (
        let a = first.machine m shows lawful in
        let b = h.machine a.0 a.1 a.2 in
        let P : List Reply → Type 0 = λ z. Replies m (xs ++ h.done) z b.0 in
        (b.0, b.1, b.2, b.3, subst P (sym (all_of-append told h.told)) (replies_append m xs (all_of told) a.0 h.done (all_of h.told) b.0 a.3 b.4), b.5));
    kept = keeps-trans state from mid now first.kept h.kept;
  }

  -- commands were left, and so are those behind them
  pub left_more : (from now : Desk D) (xs ys : List Command) → IsLeft state from now xs → IsLeft state from now (xs ++ ys)
  left_more from now xs ys h = record {
    done = h.done;
    rest = h.rest ++ ys;
    all = ap (λ z. z ++ ys) h.all ∙ append_assoc h.done h.rest ys;
    told = h.told;
    counts = h.counts;
    switches = h.switches;
    switched = h.switched;
    falls = h.falls;
    machine = λ m shows lawful. (let b = h.machine m shows lawful in (b.0, b.1, b.2, b.3, b.4, left_longer b.0 h.rest ys b.1 b.5));
    kept = h.kept;
  }

  -- the first commands were carried out, and what follows becomes of the others
  pub fills_then : (from mid now : Desk D) (xs ys : List Command) (a b c : Tally) (r : Result (Unit {0}) NoMemory)
      → Fills state from mid xs a b (Ok tt) → Fills state mid now ys b c r → Fills state from now (xs ++ ys) a c r
  fills_then from mid now xs ys a b c (Ok done) first second =
      (first.0 ++ second.0, carried_append from mid now xs first.0 ys second.0 first.1 second.1, tallies_append a b c first.0 second.0 first.2 second.2)
  fills_then from mid now xs ys a b c (Err e) first second = left_after from mid now xs first.0 ys first.1 second

  -- nothing was done of any
  pub left_at_once : (desk : Desk D) (commands : List Command) → IsLeft state desk desk commands
  left_at_once desk commands = record {
    done = [];
    rest = commands;
    all = refl;
    told = [];
    counts = counts_at state desk;
    switches = switches_of desk;
    switched = (refl, refl, refl);
    falls = λ disk. omega arith;
    machine = λ m shows lawful. (m, m, shows, lawful, (refl, refl), left_longer m [] commands m refl);
    kept = keeps-refl state desk;
  }

  -- memory ran out
  pub fills_stop : (from now : Desk D) (commands : List Command) (old new : Tally) (r : Result (Unit {0}) NoMemory) → IsErr r → IsLeft state from now commands → Fills state from now commands old new r
  fills_stop from now commands old new (Ok done) is h = absurd (cc is)
  fills_stop from now commands old new (Err e) is h = h

  pub fills_none : (desk : Desk D) (tally : Tally) → Fills state desk desk [] tally tally (Ok tt)
  fills_none desk tally = ([], carried_none desk, tallies_none tally)

  -- one command
  module _ (desk now : Desk D) (command : Command) where
    pub carried_one : (made : Replied) → Carries state desk now command (Ok made) → Switched state desk now command (Ok made) → Keeps state desk now
        → Carried state desk now (command ∷ []) (replies_of (table_of now) now.job made ∷ [])
    carried_one made carries switches keeps =
        let told = replies_of (table_of now) now.job made in
        record {
          switched = (told, [], counts_at state now, switches_of now, refl, keeps.counts, switches, (refl, refl, refl));
          machine = λ m shows lawful. (let after = carries m shows lawful in (after.0, after.1, after.2, (told, [], after.0, after.3, (refl, refl), refl)));
          kept = keeps;
        }

    -- memory ran out in it
    pub left_in_part : (e : NoMemory) → Carries state desk now command (Err e) → Keeps state desk now → IsLeft state desk now (command ∷ [])
    left_in_part e carries keeps = record {
      done = [];
      rest = command ∷ [];
      all = refl;
      told = [];
      counts = counts_at state desk;
      switches = switches_of desk;
      switched = (refl, refl, refl);
      falls = keeps.counts;
      machine = λ m shows lawful. (let after = carries m shows lawful in (m, after.0, after.1, after.2, (refl, refl), after.3));
      kept = keeps;
    }

    -- memory ran out after it
    pub left_whole : (told : List (List Reply)) → Carried state desk now (command ∷ []) told → IsLeft state desk now (command ∷ [])
    left_whole told carried = record {
      done = command ∷ [];
      rest = [];
      all = refl;
      told = told;
      counts = counts_at state now;
      switches = switches_of now;
      switched = carried.switched;
      falls = λ disk. omega arith;
      machine = λ m shows lawful. (let after = carried.machine m shows lawful in (after.0, after.0, after.1, after.2, after.3, refl));
      kept = carried.kept;
    }
