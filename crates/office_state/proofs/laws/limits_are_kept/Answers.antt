use Rattle.std.proofs.Common.{ap, arith}
use Rattle.office_state.specs.declared.limits.Limits.{Limits}
use Rattle.office_state.proofs.Histories.{sound_legal as sound_cycles}
use Rattle.office_state.proofs.SoundHistories.{sound_legal}
use Rattle.office_state.proofs.SoundOffices.{limits_kept}
use Rattle.office_state.proofs.laws.limits_are_kept.Goals as goal

pub returns-clause-numbers : goal.returns-clause-numbers
returns-clause-numbers c = λ limits history legal.
    omega (arith, (sound_legal limits history legal).room, ap (λ (l : Limits). l.numbers) (limits_kept limits history))

pub returns-clause-ranges : goal.returns-clause-ranges
returns-clause-ranges c = λ limits history legal.
    omega (arith, (sound_legal limits history legal).guide.within, ap (λ (l : Limits). l.ranges) (limits_kept limits history))

pub returns-clause-companies : goal.returns-clause-companies
returns-clause-companies c = λ limits history legal.
    omega (arith, (sound_cycles limits history legal).within, ap (λ (l : Limits). l.companies) (limits_kept limits history))
