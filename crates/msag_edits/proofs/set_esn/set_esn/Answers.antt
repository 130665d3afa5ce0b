use Rattle.std.proofs.Common.{◌≡◌, Some}
use Rattle.msag_ranges.specs.StreetGuide.{range_of}
use Rattle.msag_edits.proofs.Ranges.{may_stand-esn, set-asks}
use Rattle.msag_edits.proofs.set_esn.set_esn.Goals as goal

pub set-requires-clause-stands : goal.set-requires-clause-stands
set-requires-clause-stands g c =
    let r = c.in-Some.range in
    let guide = c.args.guide.now in
    let found : range_of guide.ranges c.args.id ≡ Some r = cc in
    set-asks guide.ranges c.args.id r.low r.high c.in-Some-new.esn r found
    (may_stand-esn guide.ranges guide.next guide.limit c.args.id c.in-Some-new.esn r c.live_range.ensures.sound found)
