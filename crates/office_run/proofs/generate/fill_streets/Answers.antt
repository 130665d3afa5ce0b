use Rattle.std.proofs.Common.{◌≡◌, ◌≤◌, ℕ, ◌+◌, ◌-◌, List, ◌++◌, ap, sym, ◌∙◌, subst, refl, arith, Ok, Err}
use Rattle.generated_script.specs.GeneratedScript.{streets, street_commands}
use Rattle.generated_script.specs.declared.script.TheConstants.{STREETS}
use Rattle.office_commands.specs.Commands.{Command}
use Rattle.office_run.specs.Carrying.{Fills, IsLeft}
use Rattle.office_run.proofs.Filling.{fills_none, fills_stop, fills_then, left_more}
use Rattle.office_run.proofs.ScriptParts.{front_of, part_more}
use Rattle.office_run.proofs.generate.fill_streets.Goals as goal

pub loop-street-init : goal.loop-street-init
unfolding streets
loop-street-init g c = record { fills = fills_none g.D.Disk.state c.args.desk.now c.args.tally.now; low = omega arith; room = omega (arith, c.requires.room) }

-- one street more
more : (s : ℕ) → 1 ≤ s → streets s ≡ streets (s - 1) ++ street_commands s
unfolding streets
more s low =
    let same : s - 1 + 1 ≡ s = omega arith in
    ap streets (sym same) ∙ part_more streets street_commands (λ n. refl) (s - 1) ∙ ap (λ z. streets (s - 1) ++ street_commands z) same

pub returns-in_err-fill_street-clause-fills : goal.returns-in_err-fill_street-clause-fills
unfolding streets
returns-in_err-fill_street-clause-fills g c =
    let state = g.D.Disk.state in
    let d0 = c.args.desk.now in
    let t0 = c.args.tally.now in
    let s = c.loop-street.street in
    let now = c.fill_street.new.desk in
    let before = c.loop-street.invariant in
    let left = fills_then state d0 c.loop-street.desk now (streets (s - 1)) (street_commands s) t0 c.loop-street.tally c.fill_street.new.tally (Err c.in_err-fill_street.field-0.0) before.fills c.in_err-fill_street.ensures.fills in
    let front = front_of streets street_commands (λ n. refl) s STREETS (omega (arith, c.loop-street-test.true)) in
    let P : List Command → Type 0 = λ z. IsLeft state d0 now z in
    fills_stop state d0 now (streets STREETS) t0 c.fill_street.new.tally c.from_residual.result c.from_residual.ensures.0
    (subst P (ap (λ z. z ++ front.0) (sym (more s before.low)) ∙ sym front.1) (left_more state d0 now (streets (s - 1) ++ street_commands s) front.0 left))

pub loop-street-preserved : goal.loop-street-preserved
loop-street-preserved g c =
    let state = g.D.Disk.state in
    let d0 = c.args.desk.now in
    let t0 = c.args.tally.now in
    let s = c.loop-street.street in
    let now = c.fill_street.new.desk in
    let before = c.loop-street.invariant in
    let all = fills_then state d0 c.loop-street.desk now (streets (s - 1)) (street_commands s) t0 c.loop-street.tally c.fill_street.new.tally (Ok tt) before.fills c.in_ok-fill_street.ensures.fills in
    let same : s ≡ s + 1 - 1 = omega arith in
    let P : List Command → Type 0 = λ z. Fills state d0 now z t0 c.fill_street.new.tally (Ok tt) in
    record {
      fills = subst P (sym (more s before.low) ∙ ap streets same) all;
      low = omega arith;
      room = omega (arith, before.room, before.low, c.in_ok-fill_street.ensures.room);
    }
