use Rattle.node_journal.specs.JournalImage.{first_block}
use Rattle.node_journal.specs.FrameBytes.{bodies_from}
use Rattle.node_journal.proofs.Journals.{one_list}
use Rattle.node_journal.proofs.laws.frames_are_known_from_the_image.Goals as goal

pub returns : goal.returns
returns c name image frames others one other =
    one_list 1 frames others one.lawful other.lawful (c.bodies_are_known_from_the_image.ensures (first_block name) image (bodies_from 1 frames) (bodies_from 1 others) one.logged other.logged)
