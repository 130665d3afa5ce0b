use Rattle.pair_world.proofs.SoundSteps.{base_has_parts, history_is_legal, journals_begin}
use Rattle.pair_world.proofs.laws.sound_worlds_are_legal.Goals as goal

pub returns-clause-base : goal.returns-clause-base
returns-clause-base g c w s = base_has_parts g.L.Entries.due w s

pub returns-clause-legal : goal.returns-clause-legal
returns-clause-legal g c w s = history_is_legal g.L.Entries.due w s

pub returns-clause-both : goal.returns-clause-both
returns-clause-both g c w node journal s both may = journals_begin g.L.Entries.due w node journal s both may
