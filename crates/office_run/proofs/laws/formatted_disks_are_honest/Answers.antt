use Rattle.office_run.specs.Disks.{disks_of}
use Rattle.office_run.proofs.Backed.{new_is_honest}
use Rattle.office_run.proofs.laws.formatted_disks_are_honest.Goals as goal

pub returns : goal.returns
returns g c a b duty tells all = new_is_honest (disks_of g.D.Disk.state a b duty) tells all
