use Rattle.world_rows.proofs.Legality.{legal_entries, legal_frames}
use Rattle.world_rows.proofs.laws.histories_are_legal_alike.Goals as goal

pub returns : goal.returns
returns c limits frames = (legal_entries limits frames, legal_frames limits frames)
