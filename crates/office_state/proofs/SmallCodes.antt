-- Each code is below 1000.
use Rattle.std.proofs.Common.{◌==◌, ℕ, ◌<◌, ◌&&◌, nat_le, Bool, true, false, cond, not, List, length, Option, Some, None, Result, Ok, Err, arith}
use Rattle.std.specs.FinMap.{get, len}
use Rattle.std.specs.List.{list_any}
use Rattle.std.specs.Option.{option_map, option_map_or}
use Rattle.address_check.specs.Placement.{esn_agrees, place, place_by}
use Rattle.address_check.specs.RecordPlace.{place_of_record}
use Rattle.ali_base.specs.CivilDay.{CivilDay, day_of}
use Rattle.ali_base.specs.HouseNumber.{house_of}
use Rattle.ali_base.specs.StreetKey.{same_key}
use Rattle.ali_base.specs.declared.street_key.StreetKey.{StreetKey}
use Rattle.ali_record.specs.Address.{record_key}
use Rattle.ali_record.specs.Functions.{function_of}
use Rattle.ali_record.specs.Layout.{field_of, byte_of}
use Rattle.ali_record.specs.RecordReading.{fault_code, first_fault, conditions, reading_code, sends_address}
use Rattle.ali_record.specs.declared.field.Field.TheVariants as field
use Rattle.ali_record.specs.declared.function.Function.{Function}
use Rattle.ali_record.specs.declared.function.Function.TheVariants.{Insert, Change, Delete, Unlock, Migrate}
use Rattle.ali_record.specs.declared.reading_fault.ReadingFault.{ReadingFault}
use Rattle.ali_record.specs.declared.reading_fault.ReadingFault.TheVariants as fault
use Rattle.line_booking.specs.LineVerdict.{place_fault, address_fault, where_placed, within_limit, record_act, code_of, line_code}
use Rattle.msag_edits.specs.EditRules.{refused, done, is_esn, are_sound_ends, unless_overlap, new_id, for_range, unused, has_empty_part, shifted}
use Rattle.msag_edits.specs.Edits.{edit_verdict}
use Rattle.msag_edits.specs.HouseArithmetic.{is_odd, is_one_parity}
use Rattle.msag_edits.specs.declared.edit_verdict.EditVerdict.{EditVerdict}
use Rattle.msag_ranges.specs.StreetGuide.{StreetGuide, holder, nearest_fault, is_between_ends, least_overlap, new_range, range_of}
use Rattle.msag_ranges.specs.declared.range.Range.{Range}
use Rattle.number_life.specs.NumberLife.{life, life_of, number_standing}
use Rattle.number_life.specs.declared.act.LifeAct.{LifeAct}
use Rattle.number_life.specs.declared.number_standing.NumberStanding.{NumberStanding}
use Rattle.number_life.specs.declared.number_standing.NumberStanding.TheVariants.{Absent, OwnLocked, OwnUnlocked, OthersLocked, OthersUnlocked}
use Rattle.number_life.specs.declared.row.Row.{Row}
use Rattle.number_table.specs.HeldRows.{count_held, least_held}
use Rattle.number_table.specs.HouseArithmetic.{stays_house}
use Rattle.number_table.specs.NumberTable.{NumberTable}
use Rattle.office_entry.specs.declared.edit.Edit.{Edit}
use Rattle.office_entry.specs.declared.edit.Edit.TheVariants.{Add, Retire, Split, Renumber, SetEsn}

-- ---- lines

-- the code of a test's two answers
one_of : (b : Bool) (x y : ℕ) → x < 1000 → y < 1000 → cond b x y < 1000
one_of true x y first second = first
one_of false x y first second = second

fault_small : (f : ReadingFault) → fault_code f < 1000
fault_small fault.Function = omega arith
fault_small fault.TelephoneNumber = omega arith
fault_small fault.HouseNumber = omega arith
fault_small fault.ClassOfService = omega arith
fault_small fault.TypeOfService = omega arith
fault_small fault.Company = omega arith
fault_small fault.ExtractDate = omega arith
fault_small fault.EndMark = omega arith
fault_small fault.Unprintable = omega arith

found_small : (o : Option ReadingFault) → option_map_or fault_code o 0 < 1000
found_small None = omega arith
found_small (Some f) = fault_small f

reading_small : (company bytes : List ℕ) → reading_code company bytes < 1000
unfolding reading_code
reading_small company bytes = found_small (first_fault (conditions company bytes))

life_small : (f : Function) (s : NumberStanding) (day : CivilDay) → code_of (life f s day) < 1000
life_small Insert Absent day = omega arith
life_small Insert OwnLocked day = omega arith
life_small Insert OwnUnlocked day = omega arith
life_small Insert OthersLocked day = omega arith
life_small Insert OthersUnlocked day = omega arith
life_small Change Absent day = omega arith
life_small Change OwnLocked day = omega arith
life_small Change OwnUnlocked day = omega arith
life_small Change OthersLocked day = omega arith
life_small Change OthersUnlocked day = omega arith
life_small Delete Absent day = omega arith
life_small Delete OwnLocked day = omega arith
life_small Delete OwnUnlocked day = omega arith
life_small Delete OthersLocked day = omega arith
life_small Delete OthersUnlocked day = omega arith
life_small Unlock Absent day = omega arith
life_small Unlock OwnLocked day = omega arith
life_small Unlock OwnUnlocked day = omega arith
life_small Unlock OthersLocked day = omega arith
life_small Unlock OthersUnlocked day = omega arith
life_small Migrate Absent day = omega arith
life_small Migrate OwnLocked day = omega arith
life_small Migrate OwnUnlocked day = omega arith
life_small Migrate OthersLocked day = omega arith
life_small Migrate OthersUnlocked day = omega arith

dated_small : (row : Option Row) (bytes : List ℕ) (day : Option CivilDay)
    → code_of (option_map_or (λ d. life (function_of (byte_of bytes field.Function)) (number_standing row (field_of bytes field.Company)) d) day (Err 107)) < 1000
dated_small row bytes None = omega arith
dated_small row bytes (Some d) = life_small (function_of (byte_of bytes field.Function)) (number_standing row (field_of bytes field.Company)) d

lived_small : (row : Option Row) (bytes : List ℕ) → code_of (life_of row bytes) < 1000
unfolding life_of
lived_small row bytes = dated_small row bytes (day_of (field_of bytes field.ExtractDate))

-- the code of a refusal, where there is one
abbrev pub IsSmall : Option ℕ → Type 0
IsSmall None = Unit {0}
IsSmall (Some code) = code < 1000

agreed_small : (b : Bool) (at : ℕ × ℕ) → IsSmall (place_fault (Some (cond b (Ok at) (Err 204))))
agreed_small true at = tt
agreed_small false at = omega arith

nearest_small : (ranges : List Range) (key : StreetKey) (n : ℕ) → nearest_fault ranges key n < 1000
nearest_small ranges key n =
    one_of (list_any (λ r. same_key r.key key) ranges) (cond (list_any (λ r. same_key r.key key && is_between_ends r n) ranges) 203 202) 201
    (one_of (list_any (λ r. same_key r.key key && is_between_ends r n) ranges) 203 202 (omega arith) (omega arith)) (omega arith)

held_small : (o : Option Range) (code : ℕ) (sent : List ℕ) → code < 1000 → IsSmall (place_fault (Some (place_by o code sent)))
held_small None code sent small = small
held_small (Some r) code sent small = agreed_small (esn_agrees sent r.esn) (r.id, r.esn)

housed_small : (ranges : List Range) (bytes : List ℕ) (house : Option ℕ) → IsSmall (place_fault (option_map (λ n. place ranges (record_key bytes) n (field_of bytes field.Esn)) house))
housed_small ranges bytes None = tt
housed_small ranges bytes (Some n) = held_small (holder ranges (record_key bytes) n) (nearest_fault ranges (record_key bytes) n) (field_of bytes field.Esn) (nearest_small ranges (record_key bytes) n)

sent_small : (b : Bool) (o : Option ℕ) → IsSmall o → IsSmall (cond b o None)
sent_small true o small = small
sent_small false o small = tt

address_small : (ranges : List Range) (bytes : List ℕ) → IsSmall (address_fault ranges bytes)
address_small ranges bytes =
    sent_small (sends_address (byte_of bytes field.Function)) (place_fault (place_of_record ranges bytes)) (housed_small ranges bytes (house_of (field_of bytes field.HouseNumber)))

placed_small : (o : Option ℕ) (r : Result LifeAct ℕ) → IsSmall o → code_of r < 1000 → code_of (where_placed o r) < 1000
placed_small None (Ok act) small less = less
placed_small (Some code) (Ok act) small less = small
placed_small None (Err code) small less = less
placed_small (Some other) (Err code) small less = less

full_small : (b : Bool) (act : LifeAct) → code_of (cond b (Err 509) (Ok act)) < 1000
full_small true act = omega arith
full_small false act = omega arith

within_small : (table : NumberTable) (most function : ℕ) (r : Result LifeAct ℕ) → code_of r < 1000 → code_of (within_limit table most function r) < 1000
within_small table most function (Err code) less = less
within_small table most function (Ok act) less = full_small ((function == 73) && nat_le most (len table)) act

read_small : (b : Bool) (r : Result LifeAct ℕ) (code : ℕ) → code_of r < 1000 → code < 1000 → code_of (cond b r (Err code)) < 1000
read_small true r code less small = less
read_small false r code less small = small

-- the code of a line
pub line_small : (ranges : List Range) (table : NumberTable) (most : ℕ) (company bytes : List ℕ) → line_code ranges table most company bytes < 1000
unfolding record_act
line_small ranges table most company bytes =
    let act = life_of (get table (field_of bytes field.TelephoneNumber)) bytes in
    let placed = where_placed (address_fault ranges bytes) act in
    read_small (reading_code company bytes == 0) (within_limit table most (byte_of bytes field.Function) placed) (reading_code company bytes)
    (within_small table most (byte_of bytes field.Function) placed (placed_small (address_fault ranges bytes) act (address_small ranges bytes) (lived_small (get table (field_of bytes field.TelephoneNumber)) bytes)))
    (reading_small company bytes)

-- ---- edits

-- a verdict whose code is small
abbrev pub HasSmall : EditVerdict → Type 0
HasSmall v = v.code < 1000

one_verdict : (b : Bool) (v w : EditVerdict) → HasSmall v → HasSmall w → HasSmall (cond b v w)
one_verdict true v w first second = first
one_verdict false v w first second = second

overlap_small : (o : Option ℕ) (v : EditVerdict) → HasSmall v → HasSmall (unless_overlap o v)
overlap_small None v small = small
overlap_small (Some id) v small = omega arith

id_small : (g : StreetGuide) → HasSmall (new_id g)
id_small g = one_verdict (nat_le g.limit (length g.ranges)) (refused 509) (done g.next) (omega arith) (omega arith)

range_small : (o : Option Range) (next : Range → EditVerdict) → ((r : Range) → HasSmall (next r)) → HasSmall (for_range o next)
range_small None next small = omega arith
range_small (Some r) next small = small r

unused_small : (o : Option (List ℕ)) → HasSmall (unused o)
unused_small None = omega arith
unused_small (Some tn) = omega arith

-- the code of an edit
pub edit_small : (g : StreetGuide) (rows : NumberTable) (edit : Edit) → (edit_verdict g rows edit).code < 1000
edit_small g rows (Add key low high parity esn) =
    let over = unless_overlap (least_overlap g.ranges (new_range g.next key low high parity esn) None) (new_id g) in
    one_verdict (not (are_sound_ends parity low high)) (refused 503) (cond (not (is_esn esn)) (refused 508) over) (omega arith)
    (one_verdict (not (is_esn esn)) (refused 508) over (omega arith) (overlap_small (least_overlap g.ranges (new_range g.next key low high parity esn) None) (new_id g) (id_small g)))
edit_small g rows (Retire id) = range_small (range_of g.ranges id) (λ r. unused (least_held rows r)) (λ r. unused_small (least_held rows r))
edit_small g rows (Split id at esn) = range_small (range_of g.ranges id) (λ r. cond (has_empty_part r at) (refused 505) (cond (not (is_esn esn)) (refused 508) (new_id g))) (λ r.
    one_verdict (has_empty_part r at) (refused 505) (cond (not (is_esn esn)) (refused 508) (new_id g)) (omega arith) (one_verdict (not (is_esn esn)) (refused 508) (new_id g) (omega arith) (id_small g)))
edit_small g rows (Renumber id by) =
    range_small (range_of g.ranges id) (λ r. cond (is_one_parity r.parity && is_odd by) (refused 507) (cond (not (stays_house r.low by && stays_house r.high by)) (refused 506) (unless_overlap (least_overlap g.ranges (shifted r by) (Some id)) (done (count_held rows r))))) (λ r.
    let over = unless_overlap (least_overlap g.ranges (shifted r by) (Some id)) (done (count_held rows r)) in
    let ends = cond (not (stays_house r.low by && stays_house r.high by)) (refused 506) over in
    one_verdict (is_one_parity r.parity && is_odd by) (refused 507) ends (omega arith)
    (one_verdict (not (stays_house r.low by && stays_house r.high by)) (refused 506) over (omega arith) (overlap_small (least_overlap g.ranges (shifted r by) (Some id)) (done (count_held rows r)) (omega arith))))
edit_small g rows (SetEsn id esn) = range_small (range_of g.ranges id) (λ r. cond (not (is_esn esn)) (refused 508) (done (count_held rows r))) (λ r. one_verdict (not (is_esn esn)) (refused 508) (done (count_held rows r)) (omega arith) (omega arith))
