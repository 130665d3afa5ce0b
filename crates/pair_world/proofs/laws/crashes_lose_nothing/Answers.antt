use Rattle.pair_world.proofs.SoundSteps.{opened_has_parts, reopened_has_parts, reopened_is_sound, base_has_parts, sound_without_doubt}
use Rattle.pair_world.specs.World.{without_doubt}
use Rattle.pair_world.proofs.laws.crashes_lose_nothing.Goals as goal

pub returns-clause-opened : goal.returns-clause-opened
returns-clause-opened g c w = opened_has_parts g.L.Entries.due w

pub returns-clause-reopened : goal.returns-clause-reopened
returns-clause-reopened g c w duty past journal_a journal_b s = reopened_has_parts g.L.Entries.due w s duty past journal_a journal_b

pub returns-clause-sound : goal.returns-clause-sound
returns-clause-sound g c w v = reopened_is_sound g.L.Entries.due w v

pub returns-clause-without_doubt : goal.returns-clause-without_doubt
returns-clause-without_doubt g c w = (λ s. base_has_parts g.L.Entries.due (without_doubt w) s, λ i. sound_without_doubt g.L.Entries.due w i)
