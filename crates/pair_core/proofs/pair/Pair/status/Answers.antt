use Rattle.std.proofs.Common.{◌≡◌, ◌∙◌, refl, sym, [], ◌∷◌, false}
use Rattle.pair_world.specs.Refusals as refusals
use Rattle.world_rows.specs.Histories.{state_of}
use Rattle.world_rows.specs.Rows.{Success}
use Rattle.world_rows.specs.Told.{Told_status}
use Rattle.world_rows.specs.WorldRows.{report}
use Rattle.pair_core.specs.Pair.{counts_of}
use Rattle.pair_core.specs.PairRefusals as rows
use Rattle.pair_core.proofs.PairRows.{passed, duty_is_down}
use Rattle.pair_core.proofs.PairReport.{report_is}
use Rattle.pair_core.proofs.pair.Pair.status.Goals as goal

pub returns-clause-does : goal.returns-clause-does
returns-clause-does g c limits w shown lawful =
    let state = g.D.Disk.state in
    let p = c.args.self.now in (
      w,
      shown,
      (
        false,
        passed (counts_of state p) (counts_of state p) (state_of limits w) w (Success (Told_status (report limits w)) w) (rows.duty_is_down p ∷ []) (refusals.duty_is_down w ∷ []) _ w (duty_is_down state limits p w shown, λ none. tt)
            (sym c.duty_is_down.ensures ∙ c.in_default.is)
            (report_is state limits p w shown c.len_up.result c.len_up-2.result c.flight.result c.len_up.ensures c.len_up-2.ensures c.flight.ensures, refl),
      ),
    )
