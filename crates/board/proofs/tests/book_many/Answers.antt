use Rattle.std.proofs.Common.{◌<◌, [], length, arith}
use Rattle.std.proofs.lemmas.List.Elements.{All-append, All-cons, All-nil}
use Rattle.board.proofs.tests.book_many.Goals as goal

pub book-after-requires-clause-lawful : goal.book-after-requires-clause-lawful
book-after-requires-clause-lawful c =
    let room : length c.loop.main.list < 1000000 = omega (arith, c.requires.room, c.loop.invariant.2) in
    All-append (λ x. x < 1000000) _ _ c.count-before.ensures.lawful (All-cons (λ x. x < 1000000) (length c.loop.main.list) [] room (All-nil (λ x. x < 1000000)))
