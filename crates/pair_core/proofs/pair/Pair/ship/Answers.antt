use Rattle.std.proofs.Common.{◌∙◌, sym, Ok, Err}
use Rattle.crash_disk.proofs.Runs.{stays_here, stays_on}
use Rattle.pair_world.specs.Step as events
use Rattle.pair_world.specs.World.{other}
use Rattle.pair_core.specs.Pair.{disk_at}
use Rattle.pair_core.specs.PairAnswers.{ShipRest}
use Rattle.pair_core.specs.PairRefusals as rows
use Rattle.pair_core.proofs.PairMessages.{sent_stays, sent_call, call_on}
use Rattle.pair_core.proofs.PairShipped as shipping
use Rattle.pair_core.proofs.PairShipped.{unless_none}
use Rattle.pair_core.proofs.PairShown.{all_quiet}
use Rattle.pair_core.proofs.PairBeside.{beside_keeps, room_keeps, messages_keep, keeps_on}
use Rattle.pair_core.proofs.pair.Pair.ship.Goals as goal

pub returns-in-Some-clause-does : goal.returns-in-Some-clause-does
returns-in-Some-clause-does g c limits w shown lawful =
    shipping.ship_refused g.D.Disk.state limits c.args.self.now w c.args.n c.args.k shown c.in-Some.refusal (sym c.ship_refusal.ensures ∙ c.in-Some.is)

pub returns-in-Some-clause-moments : goal.returns-in-Some-clause-moments
returns-in-Some-clause-moments g c limits w shown lawful =
    all_quiet g.D.Disk.state limits c.args.self.now c.args.self.now w (events.Ship c.args.k) shown g.met.D.Disk.sound (λ disk. stays_here _)

pub returns-then-not-make_room-clause-moments : goal.returns-then-not-make_room-clause-moments
returns-then-not-make_room-clause-moments g c limits w shown lawful =
    all_quiet g.D.Disk.state limits c.args.self.now c.make_room.new.self w (events.Ship c.args.k) shown g.met.D.Disk.sound (sent_stays g.D.Disk.state c.args.self.now c.make_room.new.self c.make_room.ensures.beside)

pub returns-in-Ok-clause-does : goal.returns-in-Ok-clause-does
returns-in-Ok-clause-does g c limits w shown lawful =
    shipping.ship_done g.D.Disk.state limits c.args.self.now c.make_room.new.self c.make_message.new.self w c.args.n c.args.k shown c.make_room.ensures.beside c.make_room.ensures.sent (sym c.ship_refusal.ensures ∙ c.in_default.is)
    c.in-Ok.message c.in-Ok.ensures c.send.new.self c.send.result c.send.ensures.beside c.send.ensures.sent c.send.ensures.number

pub returns-in-Ok-clause-moments : goal.returns-in-Ok-clause-moments
returns-in-Ok-clause-moments g c limits w shown lawful =
    let state = g.D.Disk.state in
    let old = c.args.self.now in
    let p2 = c.make_message.new.self in
    let p3 = c.send.new.self in
    let first = shipping.ship_stays state old c.make_room.new.self p2 c.args.n c.args.k c.make_room.ensures.beside (sym c.ship_refusal.ensures ∙ c.in_default.is) (Ok c.in-Ok.message) c.in-Ok.ensures g.met.D.Disk.sound in
    all_quiet state limits old p3 w (events.Ship c.args.k) shown g.met.D.Disk.sound
    (λ disk. stays_on (state (disk_at old disk)) (state (disk_at p2 disk)) (state (disk_at p3 disk)) (g.met.D.Disk.sound (disk_at old disk)) (first disk) (sent_stays state p2 p3 c.send.ensures.beside disk))

pub returns-in-Ok-clause-causes : goal.returns-in-Ok-clause-causes
returns-in-Ok-clause-causes g c =
    let state = g.D.Disk.state in
    let old = c.args.self.now in
    let p3 = c.send.new.self in
    let none = sym c.ship_refusal.ensures ∙ c.in_default.is in
    unless_none (rows.ship_refusal old c.args.n c.args.k) old p3 (Ok c.send.result) (ShipRest state old p3 c.args.n c.args.k (Ok c.send.result)) none
    (shipping.ship_ok state old c.make_room.new.self c.make_message.new.self p3 c.args.n c.args.k c.in-Ok.message c.send.result c.make_room.ensures.beside c.make_room.ensures.sent none c.in-Ok.ensures c.send.ensures.beside c.send.ensures.sent c.send.ensures.number)

pub returns-in-Ok-clause-call : goal.returns-in-Ok-clause-call
returns-in-Ok-clause-call g c =
    let state = g.D.Disk.state in
    let old = c.args.self.now in
    let p2 = c.make_message.new.self in
    call_on state old p2 c.send.new.self
    (shipping.ship_call state old c.make_room.new.self p2 c.args.n c.args.k c.make_room.ensures.beside (sym c.ship_refusal.ensures ∙ c.in_default.is) (Ok c.in-Ok.message) c.in-Ok.ensures)
    (sent_call state p2 c.send.new.self c.send.ensures.beside)

pub returns-in-Err-clause-does : goal.returns-in-Err-clause-does
returns-in-Err-clause-does g c limits w shown lawful =
    shipping.ship_fails g.D.Disk.state limits c.args.self.now c.make_room.new.self c.make_message.new.self w c.args.n c.args.k shown c.make_room.ensures.beside c.make_room.ensures.sent (sym c.ship_refusal.ensures ∙ c.in_default.is)
    c.in-Err.fault c.in-Err.ensures

pub returns-in-Err-clause-moments : goal.returns-in-Err-clause-moments
returns-in-Err-clause-moments g c limits w shown lawful =
    all_quiet g.D.Disk.state limits c.args.self.now c.make_message.new.self w (events.Ship c.args.k) shown g.met.D.Disk.sound
    (shipping.ship_stays g.D.Disk.state c.args.self.now c.make_room.new.self c.make_message.new.self c.args.n c.args.k c.make_room.ensures.beside (sym c.ship_refusal.ensures ∙ c.in_default.is) (Err c.in-Err.fault) c.in-Err.ensures g.met.D.Disk.sound)

pub returns-in-Err-clause-causes : goal.returns-in-Err-clause-causes
returns-in-Err-clause-causes g c =
    let state = g.D.Disk.state in
    let old = c.args.self.now in
    let p2 = c.make_message.new.self in
    let none = sym c.ship_refusal.ensures ∙ c.in_default.is in
    unless_none (rows.ship_refusal old c.args.n c.args.k) old p2 (Err c.in-Err.fault) (ShipRest state old p2 c.args.n c.args.k (Err c.in-Err.fault)) none
    (shipping.ship_err state old c.make_room.new.self p2 c.args.n c.args.k c.make_room.ensures.beside none c.in-Err.fault c.in-Err.ensures)

pub returns-in-Err-clause-call : goal.returns-in-Err-clause-call
returns-in-Err-clause-call g c =
    shipping.ship_call g.D.Disk.state c.args.self.now c.make_room.new.self c.make_message.new.self c.args.n c.args.k c.make_room.ensures.beside (sym c.ship_refusal.ensures ∙ c.in_default.is) (Err c.in-Err.fault) c.in-Err.ensures

pub returns-then-not-make_room-clause-beside : goal.returns-then-not-make_room-clause-beside
returns-then-not-make_room-clause-beside g c = room_keeps c.args.self.now c.make_room.new.self c.make_room.ensures.beside c.make_room.ensures.sent c.args.n

pub returns-in-Ok-clause-beside : goal.returns-in-Ok-clause-beside
returns-in-Ok-clause-beside g c =
    let n = c.args.n in
    let old = c.args.self.now in
    let p1 = c.make_room.new.self in
    let p2 = c.make_message.new.self in
    let made = keeps_on old p1 p2 n (room_keeps old p1 c.make_room.ensures.beside c.make_room.ensures.sent n) (beside_keeps p1 p2 n c.in-Ok.ensures.beside) in
    (messages_keep p2 c.send.new.self c.send.ensures.beside (other n) ∙ made.0, tt)

pub returns-in-Err-clause-beside : goal.returns-in-Err-clause-beside
returns-in-Err-clause-beside g c =
    let n = c.args.n in
    let old = c.args.self.now in
    let p1 = c.make_room.new.self in
    let p2 = c.make_message.new.self in
    keeps_on old p1 p2 n (room_keeps old p1 c.make_room.ensures.beside c.make_room.ensures.sent n) (beside_keeps p1 p2 n c.in-Err.ensures.beside)
