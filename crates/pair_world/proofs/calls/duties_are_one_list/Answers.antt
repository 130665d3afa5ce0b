use Rattle.pair_world.proofs.DutyLists.{list_next, list_opened, list_read, read_list, list_of}
use Rattle.pair_world.proofs.calls.duties_are_one_list.Goals as goal

pub returns-clause-next : goal.returns-clause-next
returns-clause-next g c duty next past = list_next duty next past

pub returns-clause-opened : goal.returns-clause-opened
returns-clause-opened g c duty past journal_a journal_b = list_opened duty past journal_a journal_b

pub returns-clause-read : goal.returns-clause-read
returns-clause-read g c w duty past = (list_read w duty past, read_list w duty past)

pub returns-clause-list : goal.returns-clause-list
returns-clause-list g c w duties may = list_of w duties may
