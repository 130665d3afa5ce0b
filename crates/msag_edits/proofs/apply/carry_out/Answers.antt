use Rattle.std.proofs.Common.{◌≡◌, subst, sym}
use Rattle.office_entry.specs.declared.edit.Edit.{Edit}
use Rattle.office_entry.specs.declared.edit.Edit.TheVariants.{Add}
use Rattle.msag_edits.specs.Edits.{IsApplied}
use Rattle.msag_edits.proofs.apply.carry_out.Goals as goal

pub returns-in-Add : goal.returns-in-Add
returns-in-Add g c =
    let rows = g.R.RowMover.rows c.args.rows.now in
    let a = c.in-Add in
    let is : c.args.edit.now ≡ Add c.key.result.now a.low a.high a.parity c.number.result = cc in
    subst (λ (e : Edit). IsApplied e c.args.guide.now c.add.new.guide rows rows c.add.result) (sym is) (c.add.ensures rows)
