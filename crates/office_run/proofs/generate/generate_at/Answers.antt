use Rattle.std.proofs.Common.{◌≡◌, inr, ◌<◌, ℕ, ◌+◌, ◌*◌, List, [], length, rules, ap, subst, arith}
use Rattle.std.specs.Io.KnownBytes.{Keeps, Appends}
use Rattle.ali_base.specs.WholePuts.{AppendsPart}
use Rattle.command_desk.specs.RefusedLines.{refused_lines}
use Rattle.command_machine.specs.Replies.{Reply}
use Rattle.command_machine.specs.ReplyText.{text_of}
use Rattle.generated_script.specs.GeneratedScript.{files_for, generated}
use Rattle.generated_script.specs.Making.{Making}
use Rattle.generated_script.specs.declared.script.TheConstants.{STREETS}
use Rattle.office_run.specs.Carrying.{Carried, IsLeft, Tallies}
use Rattle.office_run.specs.Generated.{summary}
use Rattle.office_run.specs.Replied.{all_of}
use Rattle.office_run.specs.Serving.{disks_at}
use Rattle.office_run.specs.declared.tally.Tally.{Tally}
use Rattle.office_run.proofs.GeneratedEnds.{filled, filled_in_part, in_use, not_touched}
use Rattle.office_run.proofs.ScriptParts.{length-generated}
use Rattle.office_run.proofs.generate.generate_at.Goals as goal
use Rattle.pair_core.specs.Pair.{count_of}
use Rattle.sha2.specs.Hashers.{Holds256}

pub returns-then-count-gt0-clause-generates : goal.returns-then-count-gt0-clause-generates
returns-then-count-gt0-clause-generates g c =
    let state = g.D.Disk.state in
    let held = g.K.Sink.contents c.args.sink.now in
    let sink : Keeps held held = search rules in
    let some : 0 < count_of c.args.desk.now.pair = omega (arith, c.if-count-gt0.true, c.count.ensures) in
    (not_touched (disks_at state c.args.desk.now) held held sink, in_use state c.args.desk.now c.requires.opened some)

-- what was counted from nothing
refused_is : (old new : Tally) (told : List (List Reply)) → old.refused ≡ 0 → Tallies old new told → new.refused ≡ refused_lines (all_of told)
refused_is old new told none counted = omega (arith, none, counted.refused)

holds_all : (old new : Tally) (told : List (List Reply)) → Holds256 old.replies [] → Tallies old new told → Holds256 new.replies (text_of (all_of told))
holds_all old new told none counted = counted.text [] none

module _ (seed count files : ℕ) (script : Making) (made : script ≡ record { seed = seed; count = count; made = 0 }) where
  same_script : generated script.seed script.count ≡ generated seed count
  same_script = ap (λ (s : Making). generated s.seed s.count) made

  how_many : files ≡ files_for script.count → 2 * STREETS + 4 * files ≡ length (generated seed count)
  how_many is = omega (arith, is, length-generated seed count, ap (λ (s : Making). files_for s.count) made)

pub returns-in-Ok-put-clause-generates : goal.returns-in-Ok-put-clause-generates
returns-in-Ok-put-clause-generates g c =
    let state = g.D.Disk.state in
    let contents = g.K.Sink.contents in
    let now = c.fill.new.desk in
    let commands = generated c.args.seed c.args.count in
    let done = c.in-Ok.ensures in
    let told = done.0 in
    let script = same_script c.args.seed c.args.count c.files.result c.new-script.result c.new-script.ensures in
    let number = how_many c.args.seed c.args.count c.files.result c.new-script.result c.new-script.ensures c.files.ensures in
    let none : count_of c.args.desk.now.pair ≡ 0 = omega (arith, c.if-count-gt0.false, c.count.ensures) in
    let carried = subst (λ z. Carried state c.args.desk.now now z told) script done.1 in
    let put = c.in-Ok-put.ensures (all_of told) (refused_is c.new-tally.result c.fill.new.tally told c.new-tally.ensures.refused done.2)
    (holds_all c.new-tally.result c.fill.new.tally told c.new-tally.ensures.replies done.2) in
    let P : ℕ → ℕ → Type 0 = λ n booked. Appends (contents c.args.sink.now) (contents c.put.new.sink) (summary n booked (all_of told)) in (
      told,
      count_of now.pair,
      filled state c.args.desk.now c.requires.opened now commands told none carried,
      subst (λ n. P n (count_of now.pair)) number (subst (P (2 * STREETS + 4 * c.files.result)) c.count-in-Ok.ensures put.whole),
    )

pub returns-in-Err-put-clause-generates : goal.returns-in-Err-put-clause-generates
returns-in-Err-put-clause-generates g c =
    let state = g.D.Disk.state in
    let contents = g.K.Sink.contents in
    let now = c.fill.new.desk in
    let commands = generated c.args.seed c.args.count in
    let done = c.in-Ok.ensures in
    let told = done.0 in
    let script = same_script c.args.seed c.args.count c.files.result c.new-script.result c.new-script.ensures in
    let number = how_many c.args.seed c.args.count c.files.result c.new-script.result c.new-script.ensures c.files.ensures in
    let none : count_of c.args.desk.now.pair ≡ 0 = omega (arith, c.if-count-gt0.false, c.count.ensures) in
    let carried = subst (λ z. Carried state c.args.desk.now now z told) script done.1 in
    let put = c.in-Err-put.ensures (all_of told) (refused_is c.new-tally.result c.fill.new.tally told c.new-tally.ensures.refused done.2)
    (holds_all c.new-tally.result c.fill.new.tally told c.new-tally.ensures.replies done.2) in
    let P : ℕ → ℕ → Type 0 = λ n booked. AppendsPart (contents c.args.sink.now) (contents c.put.new.sink) (summary n booked (all_of told)) in (
      told,
      count_of now.pair,
      filled state c.args.desk.now c.requires.opened now commands told none carried,
      subst (λ n. P n (count_of now.pair)) number (subst (P (2 * STREETS + 4 * c.files.result)) c.count-in-Ok.ensures put.part),
    )

pub returns-in-Err-clause-generates : goal.returns-in-Err-clause-generates
returns-in-Err-clause-generates g c =
    let state = g.D.Disk.state in
    let held = g.K.Sink.contents c.args.sink.now in
    let now = c.fill.new.desk in
    let commands = generated c.args.seed c.args.count in
    let script = same_script c.args.seed c.args.count c.files.result c.new-script.result c.new-script.ensures in
    let none : count_of c.args.desk.now.pair ≡ 0 = omega (arith, c.if-count-gt0.false, c.count.ensures) in
    let left = subst (λ z. IsLeft state c.args.desk.now now z) script c.in-Err.ensures in
    let sink : Keeps held held = search rules in
    inr (filled_in_part state c.args.desk.now c.requires.opened now commands none left, sink)
