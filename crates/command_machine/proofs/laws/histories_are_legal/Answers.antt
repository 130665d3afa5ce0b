use Rattle.office_state.specs.OfficeState.{office_limits}
use Rattle.office_state.proofs.Positions.{once}
use Rattle.office_state.proofs.SoundHistories.{sound_legal}
use Rattle.pair_world.specs.Frames.{entries}
use Rattle.command_machine.proofs.Lawful.{legal_of}
use Rattle.command_machine.proofs.laws.histories_are_legal.Goals as goal

pub returns-clause-legal : goal.returns-clause-legal
returns-clause-legal c m lawful = legal_of m lawful

pub returns-clause-once : goal.returns-clause-once
returns-clause-once c m lawful = once office_limits (entries m.world.base.booked) (legal_of m lawful)

pub returns-clause-sound : goal.returns-clause-sound
returns-clause-sound c m lawful = (sound_legal office_limits (entries m.world.base.booked) (legal_of m lawful)).sound
