use Rattle.world_rows.proofs.Rows.{one_reply}
use Rattle.world_rows.proofs.laws.rows_give_one_reply.Goals as goal

pub returns : goal.returns
returns g c before now failure row w left other reply again none = one_reply before now failure w none row reply again left other
