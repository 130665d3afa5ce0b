use Rattle.office_run.proofs.Scripts.{one_script, one_stop, not_both}
use Rattle.office_run.proofs.laws.scripts_have_one_reading.Goals as goal

pub returns : goal.returns
returns c = record { one_script = one_script; one_stop = one_stop; not_both = not_both }
