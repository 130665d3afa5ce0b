use Rattle.pair_world.specs.World.{formatted, without_doubt}
use Rattle.pair_world.proofs.Limiting.{within_of, formatted_within}
use Rattle.pair_world.proofs.SoundSteps.{formatted_is_sound}
use Rattle.world_rows.specs.Histories.{due_after}
use Rattle.pair_core.proofs.laws.formatted_worlds_are_lawful.Goals as goal

pub returns : goal.returns
returns c limits bounds low = record {
  sound = formatted_is_sound (due_after limits);
  within = within_of bounds (without_doubt formatted) (formatted_within bounds low);
}
