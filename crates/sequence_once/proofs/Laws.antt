-- What an opening and a line do to the cycles of each company, for callers.
use Rattle.std.proofs.Common.{◌≡◌, ℕ, zero, suc, ◌-◌, ◌<◌, List, [], ◌∷◌, ◌++◌, length, drop, Some, length-append, refl, ap, sym, ◌∙◌, arith, Less, Equal, Greater}
use Rattle.std.specs.declared.cmp.Ordering.{Ordering}
use Rattle.sequence_once.specs.KeptCycles.{CycleRecord, CyclesState, IsSound, of_company, with_company, newest, last_of, last_eight, opened, after_open, note_last, after_note}
use Rattle.sequence_once.proofs.Order.{by_bytes, same_company}
use Rattle.sequence_once.proofs.Companies.{AllOf, all_of_company, of_with_same, of_with_lower, of_with_upper}
use Rattle.sequence_once.proofs.Runs.{newest_more, each_drop, note_last_length, note_last_own}
use Rattle.sequence_once.proofs.Sound.{own_push}
use Rattle.sequence_once.specs.declared.cycles.TheConstants.{KEPT_CYCLES}

newest_cons : (x : CycleRecord) (ys : List CycleRecord) → 0 < length ys → newest (x ∷ ys) ≡ newest ys
newest_cons x [] some = absurd (omega arith)
newest_cons x (y ∷ rest) some = newest_more x y rest

newest_push : (xs : List CycleRecord) (k : CycleRecord) → newest (xs ++ k ∷ []) ≡ Some k
newest_push [] k = refl
newest_push (x ∷ xs) k = newest_cons x (xs ++ k ∷ []) (omega (arith, length-append xs (k ∷ []))) ∙ newest_push xs k

newest_drop : (n : ℕ) (xs : List CycleRecord) → n < length xs → newest (drop n xs) ≡ newest xs
newest_drop zero xs lt = refl
newest_drop (suc n) [] lt = absurd (omega arith)
newest_drop (suc n) (x ∷ xs) lt = newest_drop n xs (omega arith) ∙ sym (newest_cons x xs (omega arith))

newest_note : (code : ℕ) (xs : List CycleRecord) (k : CycleRecord) → newest xs ≡ Some k → newest (note_last code xs) ≡ Some (record k { codes = k.codes ++ code ∷ [] })
newest_note code [] k e = cc
newest_note code (x ∷ []) k e =
    let same : x ≡ k = cc in
    ap (λ (j : CycleRecord). let noted : CycleRecord = record j { codes = j.codes ++ code ∷ [] } in Some noted) same
newest_note code (x ∷ y ∷ rest) k e =
    newest_cons x (note_last code (y ∷ rest)) (omega (arith, note_last_length code (y ∷ rest))) ∙ newest_note code (y ∷ rest) k (sym (newest_more x y rest) ∙ e)

-- another company keeps its cycles
others_with : (c d : List ℕ) (cycles xs : List CycleRecord) → (d ≡ c → ⊥) → AllOf c cycles → of_company d (with_company c cycles xs) ≡ of_company d xs
others_with c d cycles xs differ own = at (by_bytes d c) refl
  where
    at : (o : Ordering) → by_bytes d c ≡ o → of_company d (with_company c cycles xs) ≡ of_company d xs
    at Less e = of_with_lower c d e cycles xs own
    at Equal e = absurd (differ (same_company d c e))
    at Greater e = of_with_upper c d e cycles xs own

module _ (s : CyclesState) (sound : IsSound s) (c : List ℕ) (cycle count : ℕ) (digest : List ℕ) where
  own_opened : AllOf c (last_eight (of_company c s.kept ++ opened c cycle count digest ∷ []))
  own_opened = each_drop _ _ _ (own_push s sound c (opened c cycle count digest) refl)

  -- after an opening: the company has the cycle more, and only its last eight
  pub own_after_open : let after = after_open s c cycle count digest in of_company c after.kept ≡ last_eight (of_company c s.kept ++ opened c cycle count digest ∷ [])
  unfolding after_open
  own_after_open = of_with_same c _ s.kept own_opened

  -- every other company keeps its cycles
  pub others_after_open : (d : List ℕ) → (d ≡ c → ⊥) → let after = after_open s c cycle count digest in of_company d after.kept ≡ of_company d s.kept
  unfolding after_open
  others_after_open d differ = others_with c d _ s.kept differ own_opened

  -- the opened cycle is the last
  pub last_after_open : let after = after_open s c cycle count digest in last_of c after.kept ≡ Some (opened c cycle count digest)
  last_after_open =
      let k = opened c cycle count digest in
      let long = length-append (of_company c s.kept) (k ∷ []) in
      ap newest own_after_open ∙ newest_drop (length (of_company c s.kept ++ k ∷ []) - KEPT_CYCLES) (of_company c s.kept ++ k ∷ []) (omega (arith, long)) ∙ newest_push (of_company c s.kept) k

module _ (s : CyclesState) (c : List ℕ) (code : ℕ) where
  -- after a line: its code is under the company's last cycle
  pub own_after_note : let after = after_note s c code in of_company c after.kept ≡ note_last code (of_company c s.kept)
  unfolding after_note
  own_after_note = of_with_same c _ s.kept (note_last_own c code _ (all_of_company c s.kept))

  -- every other company keeps its cycles
  pub others_after_note : (d : List ℕ) → (d ≡ c → ⊥) → let after = after_note s c code in of_company d after.kept ≡ of_company d s.kept
  unfolding after_note
  others_after_note d differ = others_with c d _ s.kept differ (note_last_own c code _ (all_of_company c s.kept))

  -- the last cycle has the code more
  pub last_after_note : (k : CycleRecord) → last_of c s.kept ≡ Some k → let after = after_note s c code in last_of c after.kept ≡ Some (record k { codes = k.codes ++ code ∷ [] })
  last_after_note k e = ap newest own_after_note ∙ newest_note code (of_company c s.kept) k e
