use Rattle.pair_world.proofs.ExactRows.{write_exact, write_passed, ship_exact, ship_passed, shipment_exact, shipment_passed, ack_exact, ack_passed, book_exact, book_passed, take_exact, take_passed, pair_exact, pair_passed, start_exact, start_passed, ask_exact, ask_passed, never_short, ready_exact, ready_passed, catch_up_exact, catch_up_passed, shipping_exact, shipping_passed, receiving_exact, receiving_passed}
use Rattle.pair_world.proofs.rows.rows_are_exact.Goals as goal

pub returns-clause-write : goal.returns-clause-write
returns-clause-write g c bounds w node entry s = (write_exact g.L.Entries.due w bounds node entry s, write_passed g.L.Entries.due w bounds node entry)

pub returns-clause-ship : goal.returns-clause-ship
returns-clause-ship g c w node k low = (ship_exact g.L.Entries.due w node k low, ship_passed g.L.Entries.due w node k)

pub returns-clause-shipment : goal.returns-clause-shipment
returns-clause-shipment g c w i x = (shipment_exact g.L.Entries.due w i x, shipment_passed g.L.Entries.due w i x)

pub returns-clause-ack : goal.returns-clause-ack
returns-clause-ack g c w i ack = (ack_exact g.L.Entries.due w i ack, ack_passed g.L.Entries.due w i ack)

pub returns-clause-book : goal.returns-clause-book
returns-clause-book g c w = (book_exact g.L.Entries.due w, book_passed g.L.Entries.due w)

pub returns-clause-take : goal.returns-clause-take
returns-clause-take g c bounds w node = (take_exact g.L.Entries.due w bounds node, take_passed g.L.Entries.due w bounds node)

pub returns-clause-pair : goal.returns-clause-pair
returns-clause-pair g c bounds w s = (pair_exact g.L.Entries.due w bounds s, pair_passed g.L.Entries.due w bounds)

pub returns-clause-start : goal.returns-clause-start
returns-clause-start g c w node journal = (start_exact g.L.Entries.due w node journal, start_passed g.L.Entries.due w node journal)

pub returns-clause-ask : goal.returns-clause-ask
returns-clause-ask g c w node since = (ask_exact g.L.Entries.due w node since, ask_passed g.L.Entries.due w node since)

pub returns-clause-short : goal.returns-clause-short
returns-clause-short g c w node journal s may = never_short g.L.Entries.due w node journal s may

pub returns-clause-ready : goal.returns-clause-ready
returns-clause-ready g c w node = (ready_exact g.L.Entries.due w node, ready_passed g.L.Entries.due w node)

pub returns-clause-catch_up : goal.returns-clause-catch_up
returns-clause-catch_up g c w = (catch_up_exact g.L.Entries.due w, catch_up_passed g.L.Entries.due w)

pub returns-clause-shipping : goal.returns-clause-shipping
returns-clause-shipping g c w k low = (shipping_exact g.L.Entries.due w k low, shipping_passed g.L.Entries.due w k)

pub returns-clause-receiving : goal.returns-clause-receiving
returns-clause-receiving g c w x = (receiving_exact g.L.Entries.due w x, receiving_passed g.L.Entries.due w x)
