use Rattle.std.proofs.Common.{◌≡◌, ap, sym, subst, ◌∙◌, ℕ, Some, List, ◌==◌, ◌&&◌, nat_le, length, rules}
use Rattle.std.specs.FinMap.{get, len}
use Rattle.ali_record.specs.Layout.{field_of}
use Rattle.ali_record.specs.declared.field.Field.TheVariants as field
use Rattle.line_booking.specs.Rooms.{HasRoom}
use Rattle.line_booking.proofs.LineActs.{by_error, misplaced, too_many, carried_out, with_room, as_stored}
use Rattle.line_booking.proofs.judging.judge_line.Goals as goal

pub returns-in_err-rec-2 : goal.returns-in_err-rec-2
returns-in_err-rec-2 c =
    let table = c.args.rows.now in
    let rec = c.in_ok-rec.rec in
    let same = c.in_ok-rec.ensures.0 in
    let row = c.get.ensures ∙ ap (get table) (c.tn-tn.ensures ∙ ap (λ z. field_of z field.TelephoneNumber) same) in
    let err = misplaced c.args.guide.now.ranges table c.args.most_numbers c.args.company c.args.bytes.now rec _ c.in_ok-act.act same c.in_ok-rec.ensures.1 row (sym c.in_ok-act.ensures) in
    by_error c.from_residual-in_err-rec-2.result _ _ _ c.from_residual-in_err-rec-2.ensures.1 (λ e is. err e (c.in_err-rec-2.ensures ∙ ap Some (sym is)))

pub returns-then-is_full : goal.returns-then-is_full
returns-then-is_full c =
    let table = c.args.rows.now in
    let rec = c.in_ok-rec.rec in
    let same = c.in_ok-rec.ensures.0 in
    let row = c.get.ensures ∙ ap (get table) (c.tn-tn.ensures ∙ ap (λ z. field_of z field.TelephoneNumber) same) in
    let full = ap (λ f. (f == 73) && nat_le c.args.most_numbers (len table)) (sym c.function-function.ensures) ∙ sym c.is_full.ensures.full ∙ c.if-is_full.true in
    too_many c.args.guide.now.ranges table c.args.most_numbers c.args.company c.args.bytes.now rec _ c.in_ok-act.act same c.in_ok-rec.ensures.1 row (sym c.in_ok-act.ensures) c.in_ok-rec-2.ensures.1 full

pub returns : goal.returns
returns c =
    let ranges = c.args.guide.now.ranges in
    let table = c.args.rows.now in
    let most = c.args.most_numbers in
    let rec = c.in_ok-rec.rec in
    let bytes = c.args.bytes.now in
    let act = c.in_ok-act.act in
    let same = c.in_ok-rec.ensures.0 in
    let read = c.in_ok-rec.ensures.1 in
    let tn = c.tn-tn.ensures ∙ ap (λ z. field_of z field.TelephoneNumber) same in
    let row = c.get.ensures ∙ ap (get table) tn in
    let room = ap (λ f. (f == 73) && nat_le most (len table)) (sym c.function-function.ensures) ∙ sym c.is_full.ensures.full ∙ c.if-is_full.false in
    let judged = sym c.in_ok-act.ensures in
    let long : length bytes ≡ 512 = search rules in
    record {
      tn = tn;
      rec = as_stored ranges table most c.args.company bytes rec _ act same read row judged c.in_ok-rec-2.rec c.in_ok-rec-2.ensures.0;
      size = c.in_ok-rec-2.ensures.2 (ap length same ∙ long);
      act = carried_out ranges table most c.args.company bytes rec _ act same read row judged c.in_ok-rec-2.ensures.1 room;
      room = subst (λ (n : List ℕ). HasRoom table n act) (sym tn) (with_room ranges table most c.args.company bytes rec _ act same read row judged room c.is_full.ensures.small);
    }
