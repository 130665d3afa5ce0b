use Rattle.std.proofs.Common.{rules, ◌+◌, ◌<◌, ◌++◌, length, ap, sym, subst, arith, length-append}
use Rattle.board.specs.declared.front.TheConstants.{MOST_BOOKED}
use Rattle.board.specs.FrontWord.{front_under, FitsWord}
use Rattle.board.proofs.Prefixes.{prefix_more}
use Rattle.board.proofs.Words.{no_earlier_more}
use Rattle.board.proofs.Seats.{writes_as, wrote_is, main_made}
use Rattle.board.proofs.board.Board.book.Goals as goal

pub fetch_add-requires : goal.fetch_add-requires
fetch_add-requires g c =
    let lists = ap (λ m. m.list) c.main.view_is in
    let list = c.main.inside.seat.me.0.list in
    let room : c.main.inside.count < MOST_BOOKED = omega (arith, c.main.invariant.1, ap length lists, c.requires.room) in
    (search rules, search rules, writes_as g.T.Booked.lawful _ _ _ list (λ l. l ++ g.N.Named.entries) _ (front_under c.main.inside.duty (c.main.inside.count + 1)) 1 c.main.invariant.0 (prefix_more list g.N.Named.entries) (no_earlier_more c.main.inside.duty _ _ (omega arith)) (omega arith) (omega (arith, c.main.invariant.1, c.requires.one, length-append list g.N.Named.entries)) (omega (arith, room), c.main.invariant.2.1) (subst (λ l. g.T.Booked.lawful (l ++ g.N.Named.entries)) (sym lists) c.requires.lawful))

pub invariant_of-main : goal.invariant_of-main
invariant_of-main g c =
    let lists = ap (λ m. m.list) c.main.view_is in
    let list = c.main.inside.seat.me.0.list in
    let room : c.main.inside.count < MOST_BOOKED = omega (arith, c.main.invariant.1, ap length lists, c.requires.room) in
    let fits : FitsWord (front_under c.main.inside.duty (c.main.inside.count + 1)) = (omega (arith, room), c.main.invariant.2.1) in
    let now = wrote_is g.T.Booked.lawful _ c.fetch_add.new.seat.me list (λ l. l ++ g.N.Named.entries) _ (front_under c.main.inside.duty (c.main.inside.count + 1)) 1 c.main.invariant.0 (omega arith) fits c.fetch_add.ensures.2 in
    main_made g.T.Booked.lawful _ _ c.main.inside.duty _ now (omega (arith, c.main.invariant.1, c.requires.one, length-append list g.N.Named.entries)) fits (subst (λ l. g.T.Booked.lawful (l ++ g.N.Named.entries)) (sym lists) c.requires.lawful)
