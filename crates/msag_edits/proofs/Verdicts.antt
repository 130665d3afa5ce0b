-- What a verdict of code 0 tells.
use Rattle.std.proofs.Common.{◌≡◌, ℕ, ◌+◌, ◌<◌, ◌≤◌, nat_le, Bool, true, false, cond, length, refl, arith, Option, Some, None}
use Rattle.std.proofs.lemmas.Bool.{and_parts}
use Rattle.std.proofs.lemmas.Bool.Decides.{nat_tests}
use Rattle.ali_base.specs.declared.esn.TheConstants.{HIGHEST_ESN}
use Rattle.msag_ranges.specs.StreetGuide.{StreetGuide}
use Rattle.msag_ranges.specs.declared.range.Range.{Range}
use Rattle.msag_edits.specs.declared.edit_verdict.EditVerdict.{EditVerdict}
use Rattle.msag_edits.specs.EditRules.{is_esn, refused, done, new_id, unless_overlap, for_range}

-- a test that refuses did not
pub not_refused : (b : Bool) (code : ℕ) (v : EditVerdict) → 0 < code → (cond b (refused code) v).code ≡ 0 → (b ≡ false) × (v.code ≡ 0)
not_refused true code v some h = absurd (omega arith)
not_refused false code v some h = (refl, h)

-- the range is there
pub found_range : (o : Option Range) (next : Range → EditVerdict) → (for_range o next).code ≡ 0 → (r : Range) × (o ≡ Some r) × ((next r).code ≡ 0)
found_range None next h = absurd (omega arith)
found_range (Some r) next h = (r, refl, h)

-- no range is in the way
pub nothing_overlaps : (o : Option ℕ) (next : EditVerdict) → (unless_overlap o next).code ≡ 0 → (o ≡ None) × (next.code ≡ 0)
nothing_overlaps None next h = (refl, h)
nothing_overlaps (Some id) next h = absurd (omega arith)

-- the guide has room
pub has_room : (g : StreetGuide) → (new_id g).code ≡ 0 → length g.ranges + 1 ≤ g.limit
has_room g h = let below = (not_refused (nat_le g.limit (length g.ranges)) 509 (done g.next) (omega arith) h).0 in grind (arith, nat_tests)

-- an emergency service number has five digits
pub small_esn : (esn : ℕ) → is_esn esn ≡ true → esn ≤ HIGHEST_ESN
small_esn esn h = let w = and_parts (nat_le 1 esn) (nat_le esn HIGHEST_ESN) h in grind (arith, nat_tests)
