-- An edit that is done leaves a sound guide, whose emergency service numbers have five digits.
use Rattle.std.proofs.Common.{◌≡◌, ℕ, ◌+◌, ◌<◌, ◌≤◌, ◌==◌, ◌&&◌, nat_le, Bool, true, false, cond, not, ℤ, List, length, get_or, refl, subst, arith, Option, Some, None, if◌then◌else◌}
use Rattle.std.specs.List.{All, position}
use Rattle.std.proofs.lemmas.Bool.{not-false, and_parts}
use Rattle.std.proofs.lemmas.List.{length-map}
use Rattle.std.proofs.lemmas.Bool.Decides.{nat_tests}
use Rattle.std.proofs.lemmas.List.Elements.{All-contains, All-filter, All-map, All-push}
use Rattle.msag_ranges.specs.StreetGuide.{StreetGuide, HasSoundEnds, IsSoundGuide, MayStand, has_parity, least_overlap, range_of, new_range, moved, with_moved}
use Rattle.msag_ranges.specs.HeldNumbers.{greatest_to}
use Rattle.ali_base.specs.declared.parity.Parity.{Parity}
use Rattle.ali_base.specs.declared.house.TheConstants.{HIGHEST_HOUSE}
use Rattle.ali_base.specs.declared.esn.TheConstants.{HIGHEST_ESN}
use Rattle.msag_ranges.specs.declared.range.Range.{Range}
use Rattle.ali_base.specs.declared.street_key.StreetKey.{StreetKey}
use Rattle.msag_edits.specs.declared.edit_verdict.EditVerdict.{EditVerdict}
use Rattle.msag_edits.specs.EditRules.{EditAct, are_sound_ends, is_esn, has_empty_part, shifted, refused, done, new_id, unless_overlap, for_range, add_verdict, split_verdict, renumber_verdict, set_esn_verdict, add_act, retire_act, split_act, renumber_act, set_esn_act, upper_part}
use Rattle.msag_edits.specs.Edits.{edit_verdict, edit_act}
use Rattle.msag_edits.specs.HouseArithmetic.{is_odd, is_one_parity}
use Rattle.msag_edits.proofs.Arithmetic.{choice, greatest_to-is, added-limit}
use Rattle.msag_edits.proofs.Ranges.{live, sound_ends, both_parts, set-asks, may_stand-esn, may_stand-lower, may_stand-shifted, may_stand-upper}
use Rattle.msag_edits.proofs.Verdicts.{not_refused, found_range, nothing_overlaps, has_room, small_esn}
use Rattle.msag_ranges.proofs.GuideKept.{find-from_place, find-no_place, sound-add, sound-moved, sound-remove}
use Rattle.number_table.specs.HouseArithmetic.{added, stays_house}
use Rattle.number_table.specs.HeldRows.{count_held}
use Rattle.number_table.specs.NumberTable.{NumberTable}
use Rattle.office_entry.specs.declared.edit.Edit.{Edit}
use Rattle.office_entry.specs.declared.edit.Edit.TheVariants.{Add, Retire, Split, Renumber, SetEsn}
use Rattle.office_entry.specs.Edits.{IsEdit}

-- each range has an emergency service number of five digits at most
abbrev pub HaveFiveDigits : List Range → Type 0
HaveFiveDigits ranges = All (λ r. r.esn ≤ HIGHEST_ESN) ranges

sound_new : (id : ℕ) (key : StreetKey) (low high : ℕ) (parity : Parity) (esn : ℕ) → are_sound_ends parity low high ≡ true → HasSoundEnds (new_range id key low high parity esn)
sound_new id key low high parity esn h =
    let w = and_parts (nat_le low high && has_parity parity low) (has_parity parity high) h in
    let v = and_parts (nat_le low high) (has_parity parity low) w.0 in
    record { ordered = grind (arith, nat_tests); low_parity = v.1; high_parity = w.1 }

-- ---- the range of an id with other ends

place_found : (xs : List Range) (id : ℕ) (r : Range) → range_of xs id ≡ Some r → (at : ℕ) × (position (λ s. s.id == id) xs ≡ Some at) × (r ≡ get_or xs at r)
place_found xs id r found = by_place (position (λ s. s.id == id) xs) refl
  where
    by_place : (o : Option ℕ) → position (λ s. s.id == id) xs ≡ o → (at : ℕ) × (o ≡ Some at) × (r ≡ get_or xs at r)
    by_place None e = absurd (let none = find-no_place (λ s. s.id == id) xs e in cc)
    by_place (Some at) e = (at, refl, (let same = find-from_place (λ s. s.id == id) xs at r e in cc))

moved_kept : (xs : List Range) (next limit id low high esn : ℕ) (r : Range) → IsSoundGuide xs next limit → range_of xs id ≡ Some r → MayStand xs (moved r low high esn) (Some id) → high ≤ HIGHEST_HOUSE
    → IsSoundGuide (with_moved xs id low high esn) next limit
moved_kept xs next limit id low high esn r g found stands small =
    let place = place_found xs id r found in
    let kept = sound-moved xs next limit id low high esn place.0 r g place.1 place.2 small (set-asks xs id low high esn r found stands) in
    subst (λ ys. IsSoundGuide ys next limit) kept.1 kept.0

moved_digits : (xs : List Range) (id low high esn : ℕ) → esn ≤ HIGHEST_ESN → HaveFiveDigits xs → HaveFiveDigits (with_moved xs id low high esn)
moved_digits xs id low high esn small old =
    All-map (λ s. s.esn ≤ HIGHEST_ESN) (λ s. cond (s.id == id) (moved s low high esn) s) xs (λ k d inside.
    let r : Range = get_or xs k d in
    choice (r.id == id) (moved r low high esn) r (λ s. s.esn ≤ HIGHEST_ESN) (λ _. small) (λ _. old k d inside))

-- ---- each edit

-- what is left is a sound guide, and its numbers have five digits where they had
abbrev pub Keeps : StreetGuide → EditAct → Type 0
Keeps g a = IsSoundGuide a.ranges a.next g.limit × (HaveFiveDigits g.ranges → HaveFiveDigits a.ranges)

add_keeps : (g : StreetGuide) (key : StreetKey) (low high : ℕ) (parity : Parity) (esn : ℕ) → IsSoundGuide g.ranges g.next g.limit → high ≤ HIGHEST_HOUSE
    → (add_verdict g key low high parity esn).code ≡ 0 → Keeps g (add_act g key low high parity esn)
add_keeps g key low high parity esn guide small clear =
    let new = new_range g.next key low high parity esn in
    let last = unless_overlap (least_overlap g.ranges new None) (new_id g) in
    let ends = not_refused (not (are_sound_ends parity low high)) 503 (if not (is_esn esn) then refused 508 else last) (omega arith) clear in
    let number = not_refused (not (is_esn esn)) 508 last (omega arith) ends.1 in
    let apart = nothing_overlaps (least_overlap g.ranges new None) (new_id g) number.1 in (
      sound-add g.ranges g.next g.limit new guide refl (record { ends = sound_new g.next key low high parity esn (not-false _ ends.0); free = apart.0 }) small (has_room g apart.1),
      λ old. All-push (λ s. s.esn ≤ HIGHEST_ESN) g.ranges new old (small_esn esn (not-false _ number.0)),
    )

retire_keeps : (g : StreetGuide) (id : ℕ) → IsSoundGuide g.ranges g.next g.limit → Keeps g (retire_act g id)
retire_keeps g id guide = (sound-remove g.ranges g.next g.limit id guide, All-filter (λ s. not (s.id == id)) (λ s. s.esn ≤ HIGHEST_ESN) g.ranges)

-- the high end of a range of a guide is a house number
low_high : (g : StreetGuide) (id : ℕ) (r : Range) → IsSoundGuide g.ranges g.next g.limit → range_of g.ranges id ≡ Some r → r.high ≤ HIGHEST_HOUSE
low_high g id r guide found = All-contains (λ s. s.high ≤ HIGHEST_HOUSE) g.ranges r guide.numbers (live g.ranges id r found).0

set_esn_keeps : (g : StreetGuide) (rows : NumberTable) (id esn : ℕ) → IsSoundGuide g.ranges g.next g.limit → (set_esn_verdict g rows id esn).code ≡ 0 → Keeps g (set_esn_act g id esn)
set_esn_keeps g rows id esn guide clear =
    let w = found_range (range_of g.ranges id) (λ r. if not (is_esn esn) then refused 508 else done (count_held rows r)) clear in
    let r : Range = w.0 in
    let number = not_refused (not (is_esn esn)) 508 (done (count_held rows r)) (omega arith) w.2 in
    rw w.1 (
      moved_kept g.ranges g.next g.limit id r.low r.high esn r guide w.1 (may_stand-esn g.ranges g.next g.limit id esn r guide w.1) (low_high g id r guide w.1),
      moved_digits g.ranges id r.low r.high esn (small_esn esn (not-false _ number.0)),
    )

-- the range keeps its number
own_digits : (g : StreetGuide) (id low high : ℕ) (r : Range) → range_of g.ranges id ≡ Some r → HaveFiveDigits g.ranges → HaveFiveDigits (with_moved g.ranges id low high r.esn)
own_digits g id low high r found old = moved_digits g.ranges id low high r.esn (All-contains (λ s. s.esn ≤ HIGHEST_ESN) g.ranges r old (live g.ranges id r found).0) old

renumber_keeps : (g : StreetGuide) (rows : NumberTable) (id : ℕ) (by : ℤ) → IsSoundGuide g.ranges g.next g.limit → (renumber_verdict g rows id by).code ≡ 0 → Keeps g (renumber_act g id by)
renumber_keeps g rows id by guide clear =
    let last = λ (r : Range). unless_overlap (least_overlap g.ranges (shifted r by) (Some id)) (done (count_held rows r)) in
    let second = λ (r : Range). (if not (stays_house r.low by && stays_house r.high by) then refused 506 else last r) in
    let w = found_range (range_of g.ranges id) (λ r. if is_one_parity r.parity && is_odd by then refused 507 else second r) clear in
    let r : Range = w.0 in
    let even = not_refused (is_one_parity r.parity && is_odd by) 507 (second r) (omega arith) w.2 in
    let inside = not_refused (not (stays_house r.low by && stays_house r.high by)) 506 (last r) (omega arith) even.1 in
    let ends = and_parts (stays_house r.low by) (stays_house r.high by) (not-false _ inside.0) in
    let apart = nothing_overlaps (least_overlap g.ranges (shifted r by) (Some id)) (done (count_held rows r)) inside.1 in
    let stands = may_stand-shifted g.ranges g.next g.limit id by r guide w.1 even.0 ends.0 ends.1 apart.0 in
    rw w.1 (
      moved_kept g.ranges g.next g.limit id (added r.low by) (added r.high by) r.esn r guide w.1 stands (added-limit r.high by (low_high g id r guide w.1) ends.1),
      own_digits g id (added r.low by) (added r.high by) r w.1,
    )

split_keeps : (g : StreetGuide) (id at esn : ℕ) → IsSoundGuide g.ranges g.next g.limit → (split_verdict g id at esn).code ≡ 0 → Keeps g (split_act g id at esn)
split_keeps g id at esn guide clear =
    let second : EditVerdict = if not (is_esn esn) then refused 508 else new_id g in
    let w = found_range (range_of g.ranges id) (λ r. if has_empty_part r at then refused 505 else second) clear in
    let r : Range = w.0 in
    let parts = not_refused (has_empty_part r at) 505 second (omega arith) w.2 in
    let between = both_parts r at parts.0 in
    let number = not_refused (not (is_esn esn)) 508 (new_id g) (omega arith) parts.1 in
    let top : r.high ≤ HIGHEST_HOUSE = low_high g id r guide w.1 in
    let last = greatest_to-is r.parity r.low at (sound_ends g.ranges g.next g.limit id r guide w.1).low_parity between.0 in
    let xs = with_moved g.ranges id r.low (greatest_to r.parity at) r.esn in
    let lower = moved_kept g.ranges g.next g.limit id r.low (greatest_to r.parity at) r.esn r guide w.1 (may_stand-lower g.ranges g.next g.limit id at r guide w.1 between.0 between.1) (omega (arith, last.1, between.1, top)) in
    let upper = may_stand-upper g.ranges g.next g.limit id g.next at esn r guide w.1 between.0 between.1 in
    let space : length xs + 1 ≤ g.limit = omega (arith, has_room g number.1, length-map g.ranges (λ (s : Range). cond (s.id == id) (moved s r.low (greatest_to r.parity at) r.esn) s)) in
    rw w.1 (
      sound-add xs g.next g.limit (upper_part r g.next at esn) lower refl upper top space,
      λ old. All-push (λ s. s.esn ≤ HIGHEST_ESN) xs (upper_part r g.next at esn) (own_digits g id r.low (greatest_to r.parity at) r w.1 old) (small_esn esn (not-false _ number.0)),
    )

-- an edit that is done leaves a sound guide, whose numbers have five digits where they had
pub edit_keeps : (g : StreetGuide) (rows : NumberTable) (edit : Edit) → IsEdit edit → IsSoundGuide g.ranges g.next g.limit → (edit_verdict g rows edit).code ≡ 0 → Keeps g (edit_act g edit)
edit_keeps g rows (Add key low high parity esn) is guide clear = add_keeps g key low high parity esn guide is.high_end clear
edit_keeps g rows (Retire id) is guide clear = retire_keeps g id guide
edit_keeps g rows (Split id at esn) is guide clear = split_keeps g id at esn guide clear
edit_keeps g rows (Renumber id by) is guide clear = renumber_keeps g rows id by guide clear
edit_keeps g rows (SetEsn id esn) is guide clear = set_esn_keeps g rows id esn guide clear
