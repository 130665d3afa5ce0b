use Rattle.std.proofs.Common.{rules, ◌∷◌, refl, ap, sym, ◌∙◌}
use Rattle.atomic_table.specs.Table.{rest}
use Rattle.locks.proofs.HeldValues.{held_is, told_held, written_held}
use Rattle.locks.proofs.shared_lock.SharedLockLock.kept.Goals as goal

pub slot_mut-requires : goal.slot_mut-requires
slot_mut-requires g c =
    let held = held_is c.args.self.now.seat.me.1 c.requires in
    (search rules, (held.0, held.1 ∙ ap (λ more. (0, held.0) ∷ rest more) (sym held.1)))

pub returns : goal.returns
returns g c =
    let it = c.args.self.now in (
      (refl, λ w. ap (λ held. record { guarded = it.guarded; seat = held.0; guard = it.guard; of_slot = held.1; guard_while_entered = held.2 }) (written_held it.seat w _ _ c.requires _ _ _ _)),
      record { writes_back = tt; value = told_held it.seat.me.1 _ c.requires c.slot_mut.ensures.value },
    )
