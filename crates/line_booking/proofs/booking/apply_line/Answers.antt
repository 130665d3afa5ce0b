use Rattle.std.proofs.Common.{◌≡◌, length, rules}
use Rattle.line_booking.proofs.SoundLines.{asked_table, asked_sound}
use Rattle.line_booking.proofs.booking.apply_line.Goals as goal

pub returns-in_ok-change-in-Ok-clause-rows : goal.returns-in_ok-change-in-Ok-clause-rows
returns-in_ok-change-in-Ok-clause-rows c =
    let done = c.in_ok-change-in-Ok.ensures.ok in
    asked_table c.args.guide.now.ranges c.args.rows.now _ c.args.most_numbers c.args.company c.args.bytes.now c.in-Ok.asked c.in-Ok.ensures done

pub returns-in_ok-change-in-Ok-clause-sound : goal.returns-in_ok-change-in-Ok-clause-sound
returns-in_ok-change-in-Ok-clause-sound c =
    let size : length c.args.bytes.now ≡ 512 = search rules in
    let done = c.in_ok-change-in-Ok.ensures.ok in
    asked_sound c.args.guide.now c.args.rows.now _ c.args.most_numbers c.args.company c.args.bytes.now c.in-Ok.asked size c.in-Ok.ensures done
