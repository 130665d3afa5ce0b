use Rattle.std.proofs.Common.{rules, ap, sym, ◌∙◌}
use Rattle.board.specs.FrontWord.{front_under, word_of, FitsWord}
use Rattle.board.proofs.Seats.{opens_as, opened_is, main_made}
use Rattle.board.proofs.board.Board.new.Goals as goal

pub store-requires : goal.store-requires
store-requires g c =
    let made = c.in_ok-table.ensures in
    let fits : FitsWord (front_under c.args.duty c.args.count) = (c.requires.count.1, search rules) in
    (search rules, search rules, opens_as g.T.Booked.lawful _ _ _ _ _ _ made.3 made.4 (c.word-word.ensures ∙ ap word_of c.under.ensures) c.requires.lawful (sym c.requires.count.0) fits)

pub invariant_of-main : goal.invariant_of-main
invariant_of-main g c =
    let fits : FitsWord (front_under c.args.duty c.args.count) = (c.requires.count.1, search rules) in
    let now = opened_is g.T.Booked.lawful _ c.store.new.seat.me _ _ _ c.in_ok-table.ensures.4 (c.word-word.ensures ∙ ap word_of c.under.ensures) fits c.store.ensures.2 in
    main_made g.T.Booked.lawful _ _ c.args.duty _ now (sym c.requires.count.0) fits c.requires.lawful
