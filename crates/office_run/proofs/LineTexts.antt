-- Lines and their ends.
use Rattle.std.proofs.Common.{◌≡◌, inl, inr, ℕ, ◌+◌, ◌≤◌, List, [], ◌∷◌, ◌++◌, length, refl, ap, sym, ◌∙◌, arith, Option, Some, None, unwrap_or, length-append}
use Rattle.std.proofs.lemmas.List.{append-nil}
use Rattle.text_line.specs.WordReading.{split_once}
use Rattle.text_line.proofs.Splits.{Clear, split_again, split_none, split_is}
use Rattle.office_run.specs.ScriptGrammar.{BeginsLine}
use Rattle.office_run.specs.ScriptReading.{line_at}

line_at-ended : (line rest : List ℕ) → Clear 10 line → line_at (line ++ 10 ∷ rest) ≡ (line, rest)
unfolding line_at
line_at-ended line rest clear = ap (λ o. unwrap_or o (line ++ 10 ∷ rest, [])) (split_again 10 line rest clear)

line_at-open : (line : List ℕ) → Clear 10 line → line_at line ≡ (line, [])
unfolding line_at
line_at-open line clear = ap (λ o. unwrap_or o (line, [])) (split_none 10 line clear)

-- a text without a line end is the first line where the bytes begin with it
pub line_at-begins : (bytes line rest : List ℕ) → Clear 10 line → BeginsLine bytes line rest → line_at bytes ≡ (line, rest)
line_at-begins bytes line rest clear h = elim h.2 [
  | inl end ↦ ap line_at (h.1 ∙ ap (λ z. line ++ z) end) ∙ line_at-ended line rest clear
  | inr end ↦ ap line_at (h.1 ∙ ap (λ z. line ++ z) end.0 ∙ append-nil line) ∙ line_at-open line clear ∙ ap (λ z. (line, z)) (sym end.1)
]

-- the bytes begin with their first line
pub begins-line_at : (bytes : List ℕ) → BeginsLine bytes (line_at bytes).0 (line_at bytes).1
unfolding line_at
begins-line_at bytes = by_front (split_once 10 bytes) refl
  where
    by_front : (o : Option (List ℕ × List ℕ)) → split_once 10 bytes ≡ o → BeginsLine bytes (unwrap_or o (bytes, [])).0 (unwrap_or o (bytes, [])).1
    by_front None is = ([], sym (append-nil bytes), inr (refl, refl))
    by_front (Some x) is = (10 ∷ x.1, split_is 10 bytes x is, inl refl)

-- the bytes of a line are counted
pub line_size : (bytes line rest : List ℕ) → BeginsLine bytes line rest → length line + length rest ≤ length bytes
line_size bytes line rest h = elim h.2 [
  | inl end ↦ omega (arith, ap length h.1, length-append line h.0, ap length end)
  | inr end ↦ omega (arith, ap length h.1, length-append line h.0, ap length end.1)
]
