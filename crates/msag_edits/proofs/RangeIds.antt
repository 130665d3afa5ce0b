-- The ids of ranges: an edit gives a new range the next id, and takes up no id that was given before.
use Rattle.std.proofs.Common.{◌≡◌, ℕ, ◌<◌, ◌≤◌, ◌==◌, not, Bool, true, false, cond, List, [], ◌∷◌, ◌++◌, refl, ap, ◌∙◌, arith, Option, Some, None}
use Rattle.std.specs.Option.{option_map_or}
use Rattle.std.proofs.lemmas.Bool.Decides.{nat_tests}
use Rattle.msag_ranges.specs.StreetGuide.{StreetGuide, range_of, moved, with_moved, without}
use Rattle.msag_ranges.specs.declared.range.Range.{Range}
use Rattle.office_entry.specs.declared.edit.Edit.{Edit}
use Rattle.office_entry.specs.declared.edit.Edit.TheVariants.{Add, Retire, Split, Renumber, SetEsn}
use Rattle.msag_edits.specs.EditRules.{EditAct, nothing}
use Rattle.msag_edits.specs.Edits.{edit_act}
use Rattle.msag_edits.specs.EditedTables.{guide_after}
use Rattle.msag_edits.proofs.EditedGuides.{whether}

-- no range has the id
abbrev pub IsGone : List Range → ℕ → Type 0
IsGone xs id = range_of xs id ≡ None

first : (b : Bool) (r : Range) (o : Option Range) → cond b (Some r) o ≡ None → (b ≡ false) × (o ≡ None)
first true r o h = absurd (cc h)
first false r o h = (refl, h)

gone_cons : (x : Range) (xs : List Range) (id : ℕ) → (x.id == id) ≡ false → IsGone xs id → IsGone (x ∷ xs) id
gone_cons x xs id other gone = ap (λ b. cond b (Some x) (range_of xs id)) other ∙ gone

-- a range more, of another id
gone_push : (xs : List Range) (r : Range) (id : ℕ) → IsGone xs id → id < r.id → IsGone (xs ++ r ∷ []) id
gone_push [] r id gone less = gone_cons r [] id (grind (arith, nat_tests)) refl
gone_push (x ∷ xs) r id gone less =
    let h = first (x.id == id) x (range_of xs id) gone in
    gone_cons x (xs ++ r ∷ []) id h.0 (gone_push xs r id h.1 less)

-- a range less
gone_without : (xs : List Range) (other id : ℕ) → IsGone xs id → IsGone (without xs other) id
gone_without [] other id gone = refl
gone_without (x ∷ xs) other id gone =
    let h = first (x.id == id) x (range_of xs id) gone in
    let rest = gone_without xs other id h.1 in
    elim (x.id == other) as (λ b. IsGone (cond (not b) (x ∷ without xs other) (without xs other)) id) [ true ↦ rest | false ↦ gone_cons x (without xs other) id h.0 rest ]

same_id : (b : Bool) (x : Range) (low high esn : ℕ) → (cond b (moved x low high esn) x).id ≡ x.id
same_id true x low high esn = refl
same_id false x low high esn = refl

-- a range moved
gone_moved : (xs : List Range) (other low high esn id : ℕ) → IsGone xs id → IsGone (with_moved xs other low high esn) id
gone_moved [] other low high esn id gone = refl
gone_moved (x ∷ xs) other low high esn id gone =
    let h = first (x.id == id) x (range_of xs id) gone in
    gone_cons (cond (x.id == other) (moved x low high esn) x) (with_moved xs other low high esn) id (ap (λ n. n == id) (same_id (x.id == other) x low high esn) ∙ h.0) (gone_moved xs other low high esn id h.1)

-- no range has the id that none had
abbrev KeepsIds : StreetGuide → ℕ → EditAct → Type 0
KeepsIds g id a = IsGone a.ranges id

on_found : (g : StreetGuide) (id : ℕ) (found : Option Range) (act : Range → EditAct) → KeepsIds g id (nothing g) → ((r : Range) → KeepsIds g id (act r)) → KeepsIds g id (option_map_or act found (nothing g))
on_found g id None act same change = same
on_found g id (Some r) act same change = change r

keeps_ids : (g : StreetGuide) (edit : Edit) (id : ℕ) → id < g.next → IsGone g.ranges id → KeepsIds g id (edit_act g edit)
keeps_ids g (Add key low high parity esn) id less gone = gone_push g.ranges _ id gone less
keeps_ids g (Retire other) id less gone = gone_without g.ranges other id gone
keeps_ids g (Split other at esn) id less gone = on_found g id (range_of g.ranges other) _ gone (λ r. gone_push (with_moved g.ranges other _ _ _) _ id (gone_moved g.ranges other _ _ _ id gone) less)
keeps_ids g (Renumber other by) id less gone = on_found g id (range_of g.ranges other) _ gone (λ r. gone_moved g.ranges other _ _ _ id gone)
keeps_ids g (SetEsn other esn) id less gone = on_found g id (range_of g.ranges other) _ gone (λ r. gone_moved g.ranges other _ _ _ id gone)

next_on : (g : StreetGuide) (found : Option Range) (act : Range → EditAct) → ((r : Range) → g.next ≤ (act r).next) → g.next ≤ (option_map_or act found (nothing g)).next
next_on g None act h = omega arith
next_on g (Some r) act h = h r

next_rises : (g : StreetGuide) (edit : Edit) → g.next ≤ (edit_act g edit).next
next_rises g (Add key low high parity esn) = omega arith
next_rises g (Retire id) = omega arith
next_rises g (Split id at esn) = next_on g (range_of g.ranges id) _ (λ r. omega arith)
next_rises g (Renumber id by) = next_on g (range_of g.ranges id) _ (λ r. omega arith)
next_rises g (SetEsn id esn) = next_on g (range_of g.ranges id) _ (λ r. omega arith)

-- an id below the next one that no range has is gone for good
pub ids_gone : (g : StreetGuide) (edit : Edit) (code id : ℕ) → id < g.next → IsGone g.ranges id → let new = guide_after g edit code in IsGone new.ranges id
ids_gone g edit code id less gone =
    let act = edit_act g edit in
    let done : StreetGuide = record g { ranges = act.ranges; next = act.next } in
    whether code (λ b. let new = cond b done g in IsGone new.ranges id) (λ clear. keeps_ids g edit id less gone) gone

-- and the next id does not fall
pub next_kept : (g : StreetGuide) (edit : Edit) (code : ℕ) → let new = guide_after g edit code in g.next ≤ new.next
next_kept g edit code =
    let act = edit_act g edit in
    let done : StreetGuide = record g { ranges = act.ranges; next = act.next } in
    whether code (λ b. let new = cond b done g in g.next ≤ new.next) (λ clear. next_rises g edit) (omega arith)
