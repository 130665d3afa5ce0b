use Rattle.std.proofs.Common.{◌≡◌, ℕ, ◌+◌, List, ◌++◌, ap, sym, ◌∙◌, subst, refl, arith, Ok, Err}
use Rattle.generated_script.specs.GeneratedScript.{file_commands, files, files_for}
use Rattle.office_commands.specs.Commands.{Command}
use Rattle.office_run.specs.Carrying.{Fills, IsLeft}
use Rattle.office_run.proofs.Filling.{fills_none, fills_stop, fills_then, left_more}
use Rattle.office_run.proofs.ScriptParts.{front_of, part_more}
use Rattle.office_run.proofs.generate.fill_files.Goals as goal

pub loop-init : goal.loop-init
unfolding files
loop-init g c = record {
  fills = fills_none g.D.Disk.state c.args.desk.now c.args.tally.now;
  seed = refl;
  count = refl;
  made = c.requires.first;
  end = c.files-end.ensures;
  few = omega arith;
  room = c.requires.room;
}

-- the same file, named by the script so far
same_file : (seed count made s n i : ℕ) → seed ≡ s → count ≡ n → made ≡ i → file_commands seed count (made + 1) ≡ file_commands s n (i + 1)
same_file seed count made s n i one two three =
    ap (λ z. file_commands z count (made + 1)) one ∙ ap (λ z. file_commands s z (made + 1)) two ∙ ap (λ z. file_commands s n (z + 1)) three

pub returns-in_err-fill_file : goal.returns-in_err-fill_file
unfolding files
returns-in_err-fill_file g c =
    let state = g.D.Disk.state in
    let d0 = c.args.desk.now in
    let t0 = c.args.tally.now in
    let seed = c.args.script.seed in
    let count = c.args.script.count in
    let i = c.loop.counter in
    let script = c.loop.script in
    let before = c.loop.invariant in
    let now = c.fill_file.new.desk in
    let file = same_file script.seed script.count script.made seed count i before.seed before.count before.made in
    let Left : List Command → Type 0 = λ z. IsLeft state d0 now z in
    let left = fills_then state d0 c.loop.desk now (files seed count i) (file_commands script.seed script.count (script.made + 1)) t0 c.loop.tally c.fill_file.new.tally (Err c.in_err-fill_file.field-0.0) before.fills c.in_err-fill_file.ensures.fills in
    let more = part_more (files seed count) (file_commands seed count) (λ n. refl) i in
    let front = front_of (files seed count) (file_commands seed count) (λ n. refl) (i + 1) (files_for count) (omega (arith, c.loop-test.true, before.end)) in
    let here = subst Left (ap (λ z. files seed count i ++ z) file ∙ sym more) left in
    fills_stop state d0 now (files seed count (files_for count)) t0 c.fill_file.new.tally c.from_residual.result c.from_residual.ensures.0
    (subst Left (sym front.1) (left_more state d0 now (files seed count (i + 1)) front.0 here))

pub loop-preserved : goal.loop-preserved
unfolding files
loop-preserved g c =
    let state = g.D.Disk.state in
    let d0 = c.args.desk.now in
    let t0 = c.args.tally.now in
    let seed = c.args.script.seed in
    let count = c.args.script.count in
    let i = c.loop.counter in
    let script = c.loop.script in
    let before = c.loop.invariant in
    let now = c.fill_file.new.desk in
    let done = c.in_ok-fill_file.ensures in
    let file = same_file script.seed script.count script.made seed count i before.seed before.count before.made in
    let all = fills_then state d0 c.loop.desk now (files seed count i) (file_commands script.seed script.count (script.made + 1)) t0 c.loop.tally c.fill_file.new.tally (Ok tt) before.fills done.fills in
    let more = part_more (files seed count) (file_commands seed count) (λ n. refl) i in
    let P : List Command → Type 0 = λ z. Fills state d0 now z t0 c.fill_file.new.tally (Ok tt) in
    record {
      fills = subst P (ap (λ z. files seed count i ++ z) file ∙ sym more) all;
      seed = done.same.0 ∙ before.seed;
      count = done.same.1 ∙ before.count;
      made = omega (arith, done.made, before.made);
      end = before.end;
      few = omega (arith, c.loop-test.true);
      room = omega (arith, before.room, done.room);
    }
