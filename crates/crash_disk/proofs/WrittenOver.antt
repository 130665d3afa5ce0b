-- A write over bytes, in two parts: what lies within them, and what is added.
use Rattle.std.proofs.Common.{◌≡◌, ℕ, ◌+◌, ◌-◌, ◌≤◌, min, List, [], ◌++◌, length, take, drop, replicate, inl, inr, sym, ◌∙◌, ap, arith, append_assoc, length-append, length-take}
use Rattle.std.proofs.lemmas.Bool.{cases_lt}
use Rattle.std.proofs.lemmas.List.{length-replicate, append-nil, take_all, drop_all, take-append-drop}
use Rattle.crash_disk.specs.CrashOutcomes.{written}

-- bytes up to a place, and zeros up to it
module _ (f g : List ℕ) (at : ℕ) (longer : g ≡ f ++ replicate (at - length f) 0) where
  size : length g ≡ length f + (at - length f)
  size = ap length longer ∙ length-append f (replicate (at - length f) 0) ∙ ap (λ n. length f + n) (length-replicate (at - length f) 0)

  same : at ≤ length f → g ≡ f
  same within =
      let none : at - length f ≡ 0 = omega (arith, within) in
      longer ∙ ap (λ n. f ++ replicate n 0) none ∙ append-nil f

  front : take at g ≡ take at f ++ replicate (at - length f) 0
  front = elim (cases_lt (length f) at) [
    | inr within ↦
        let none : at - length f ≡ 0 = omega (arith, within) in
        ap (λ l. take at l) (same within) ∙ sym (append-nil (take at f)) ∙ sym (ap (λ n. take at f ++ replicate n 0) none)
    | inl past ↦
        take_all at g (omega (arith, past, size)) ∙ longer ∙ ap (λ l. l ++ replicate (at - length f) 0) (sym (take_all at f (omega (arith, past))))
  ]

  back : (n : ℕ) → drop (at + n) g ≡ drop (at + n) f
  back n = elim (cases_lt (length f) at) [
    | inr within ↦ ap (λ l. drop (at + n) l) (same within)
    | inl past ↦ drop_all (at + n) g (omega (arith, past, size)) ∙ sym (drop_all (at + n) f (omega (arith, past)))
  ]

  pub in_two : (piece h : List ℕ) (inside : ℕ) → inside ≡ min (length piece) (length g - at)
      → h ≡ take at g ++ (take inside piece ++ drop (at + length (take inside piece)) g) → h ++ drop inside piece ≡ written at piece f
  in_two piece h inside is stands =
      let count : length (take inside piece) ≡ inside = omega (arith, is, length-take inside piece) in
      let written_within : h ≡ take at g ++ (take inside piece ++ drop (at + inside) g) = stands ∙ ap (λ n. take at g ++ (take inside piece ++ drop (at + n) g)) count in
      elim (cases_lt (length g - at) (length piece)) [
        | inr within ↦
            let all : inside ≡ length piece = omega (arith, is, within) in
            ap (λ l. l ++ drop inside piece) written_within
            ∙ (λ i. take at g ++ (take_all inside piece (omega (arith, all)) i ++ drop (at + all i) g) ++ drop_all inside piece (omega (arith, all)) i)
            ∙ append-nil (take at g ++ (piece ++ drop (at + length piece) g))
            ∙ sym (append_assoc (take at g) piece (drop (at + length piece) g))
            ∙ (λ i. front i ++ piece ++ back (length piece) i)
        | inl past ↦
            let none : drop (at + inside) g ≡ [] = drop_all (at + inside) g (omega (arith, is, past, size)) in
            let none_old : drop (at + length piece) f ≡ [] = drop_all (at + length piece) f (omega (arith, past, size)) in
            ap (λ l. l ++ drop inside piece) written_within
            ∙ (λ i. take at g ++ (take inside piece ++ none i) ++ drop inside piece)
            ∙ ap (λ l. take at g ++ l ++ drop inside piece) (append-nil (take inside piece))
            ∙ append_assoc (take at g) (take inside piece) (drop inside piece)
            ∙ ap (λ l. take at g ++ l) (take-append-drop inside piece)
            ∙ sym (append-nil (take at g ++ piece))
            ∙ (λ i. front i ++ piece ++ sym none_old i)
      ]
