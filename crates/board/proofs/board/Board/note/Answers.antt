use Rattle.std.proofs.Common.{rules, ◌≡◌, ◌+◌, ap, sym, ◌∙◌}
use Rattle.board.specs.FrontWord.{front_under, word_of, FitsWord}
use Rattle.board.proofs.Prefixes.{prefix_self}
use Rattle.board.proofs.Words.{word_of_next, no_earlier_next}
use Rattle.board.proofs.Seats.{writes_as, wrote_is, main_made}
use Rattle.board.proofs.board.Board.note.Goals as goal

pub fetch_add-requires : goal.fetch_add-requires
fetch_add-requires g c =
    let duties = ap (λ m. m.duty) c.main.view_is in
    let next : c.args.duty.epoch ≡ c.main.inside.duty.epoch + 1 = c.requires.next ∙ ap (λ d. d.epoch + 1) (sym duties) in
    let adds = word_of_next c.main.inside.duty c.args.duty c.main.inside.count _ _ next (c.word-before.ensures ∙ ap word_of c.under.ensures) (c.word-after.ensures ∙ ap word_of c.under-2.ensures) in
    (search rules, search rules, writes_as g.T.Booked.lawful _ _ _ _ (λ l. l) _ (front_under c.args.duty c.main.inside.count) _ c.main.invariant.0 (prefix_self _) (no_earlier_next c.main.inside.duty c.args.duty _ next) adds c.main.invariant.1 (c.main.invariant.2.0, search rules) c.main.invariant.3)

pub invariant_of-main : goal.invariant_of-main
invariant_of-main g c =
    let duties = ap (λ m. m.duty) c.main.view_is in
    let next : c.args.duty.epoch ≡ c.main.inside.duty.epoch + 1 = c.requires.next ∙ ap (λ d. d.epoch + 1) (sym duties) in
    let adds = word_of_next c.main.inside.duty c.args.duty c.main.inside.count _ _ next (c.word-before.ensures ∙ ap word_of c.under.ensures) (c.word-after.ensures ∙ ap word_of c.under-2.ensures) in
    let fits : FitsWord (front_under c.args.duty c.main.inside.count) = (c.main.invariant.2.0, search rules) in
    let now = wrote_is g.T.Booked.lawful _ c.fetch_add.new.seat.me _ (λ l. l) _ (front_under c.args.duty c.main.inside.count) _ c.main.invariant.0 adds fits c.fetch_add.ensures.2 in
    main_made g.T.Booked.lawful _ _ c.args.duty _ now c.main.invariant.1 fits c.main.invariant.3
