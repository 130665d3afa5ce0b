use Rattle.std.proofs.Common.{◌≡◌, Some, true, subst, sym, ◌∙◌, IsSome, w32, to_z, of_z, ℤ}
use Rattle.std.proofs.lemmas.Int.{to_z-of_z}
use Rattle.number_table.specs.HouseArithmetic.{stays_house, added}
use Rattle.ali_base.specs.Steps.{when}
use Rattle.number_table.specs.HeldRows.{record_house, holds_record}
use Rattle.number_table.proofs.HeldAddresses.{held-stays, when-there}
use Rattle.number_table.proofs.row_changes.shift_row.Goals as goal

pub unwrap-requires : goal.unwrap-requires
unwrap-requires c =
    let row = c.args.row.now in
    let r = c.args.r.now in
    let by = c.args.by in
    let n = c.unwrap-house.result in
    let held : holds_record r row.rec ≡ true = sym c.is_held.ensures ∙ c.if-is_held.true in
    let house : record_house row.rec ≡ Some n = sym c.house.ensures ∙ c.unwrap-house.ensures in
    let stays = held-stays r row.rec n by held house c.requires.low c.requires.high in
    let back : to_z w32 (of_z w32 by) ≡ by = to_z-of_z w32 by c.ranges.by in
    subst IsSome (sym c.added.ensures) (subst (λ (z : ℤ). IsSome (when (stays_house n z) (added n z))) (sym back) (when-there (stays_house n by) (added n by) stays))
