use Rattle.std.proofs.Common.{sym, ◌∙◌}
use Rattle.locks.proofs.small_hall.book_under.Goals as goal

pub leave-requires-clause-board : goal.leave-requires-clause-board
leave-requires-clause-board g c =
    let before = c.enter.new.self in
    let after = c.book_lent-answer.new.writer in
    let of = c.book_lent-answer.ensures.board.1 ∙ (sym c.requires.board.1 ∙ sym c.enter.ensures.board) in
    (after, g.met.L.Lock.with_tells before after c.enter.ensures.entered, of ∙ sym (g.met.L.Lock.with_board before after of))

pub returns-clause-told : goal.returns-clause-told
returns-clause-told g c = λ on.
    let before = c.enter.new.self in
    let after = c.book_lent-answer.new.writer in
    let was = sym (c.enter.ensures.told on) ∙ c.kept.ensures.value in
    let is = c.leave.ensures.told on ∙ g.met.L.Lock.with_tells before after c.enter.ensures.entered in
    rw (was, is) c.book_lent-answer.ensures.booked
