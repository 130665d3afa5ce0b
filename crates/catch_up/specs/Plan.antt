-- The plan of catching up: which message is passed on next, and what an answer leads to.
use Rattle.std.specs.Prelude.{ℕ, ◌+◌, Option, Some, None}
use Rattle.catch_up.specs.declared.plan.CatchAnswer.{CatchAnswer}
use Rattle.catch_up.specs.declared.plan.CatchAnswer.TheVariants as answer
use Rattle.catch_up.specs.declared.plan.CatchUp.{CatchUp}

-- the number that is passed on next; none once the other node has the end
abbrev pub next_of : CatchUp → Option ℕ
next_of plan = plan.next

-- The number after an answer: the next one where the frame is now there; the first of those that were cut; the one after the last where frames are missing; none after the end.
abbrev pub next_after : CatchAnswer → Option ℕ
next_after (answer.Stored k) = Some (k + 1)
next_after (answer.Have k) = Some (k + 1)
next_after (answer.Cut j) = Some j
next_after (answer.Behind j) = Some (j + 1)
next_after (answer.HaveEnd k) = None

-- the number that an answer tells
abbrev pub number_of : CatchAnswer → ℕ
number_of (answer.Stored k) = k
number_of (answer.Have k) = k
number_of (answer.Cut j) = j
number_of (answer.Behind j) = j
number_of (answer.HaveEnd k) = k
