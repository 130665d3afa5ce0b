-- The bytes of files.
use Rattle.std.proofs.Common.{◌≡◌, inl, inr, ℕ, ◌==◌, ◌≤◌, Bool, true, false, cond, nat_lt, List, [], ◌∷◌, ◌++◌, length, take, drop, refl, ap, sym, ◌∙◌, arith, Option, Some, None, length-append}
use Rattle.std.proofs.Math.Seq.{take-append_seam, drop-append_seam}
use Rattle.std.proofs.lemmas.Bool.Decides.{nat_tests}
use Rattle.std.proofs.lemmas.List.{take-append-drop, length-take-le}
use Rattle.std.proofs.lemmas.Option.{cond_some, some_pair_parts}
use Rattle.office_commands.specs.Commands.{Command, File}
use Rattle.office_run.specs.ScriptGrammar.{LineEnds, BeginsLine}
use Rattle.office_run.specs.ScriptReading.{content_at, ended}

ended-ends : (content tail rest : List ℕ) → LineEnds tail rest → ended content tail ≡ Some (File content, rest)
ended-ends content tail rest (inl end) = ap (ended content) end
ended-ends content tail rest (inr end) = ap (ended content) end.0 ∙ ap (λ z. Some (File content, z)) (sym end.1)

-- a file that is spelled is read
pub content_at-begins : (bytes content rest : List ℕ) → BeginsLine bytes content rest → content_at (length content) bytes ≡ Some (File content, rest)
unfolding content_at
content_at-begins bytes content rest h =
    let long : nat_lt (length (content ++ h.0)) (length content) ≡ false = grind (arith, nat_tests, length-append content h.0) in
    rw (h.1, long, take-append_seam content h.0, drop-append_seam content h.0) (ended-ends content h.0 rest h.2)

-- a file that was read, and its end
ends-ended : (content tail : List ℕ) (c : Command) (rest : List ℕ) → ended content tail ≡ Some (c, rest) → (c ≡ File content) × LineEnds tail rest
ends-ended content [] c rest h = let p = some_pair_parts (File content) c [] rest h in (sym p.0, inr (refl, sym p.1))
ends-ended content (x ∷ xs) c rest h =
    let found : Command × List ℕ = (c, rest) in
    let end = cond_some (x == 10) (File content, xs) found h in
    let test : (x == 10) ≡ true = end.0 in
    let same : x ≡ 10 = grind (arith, nat_tests) in
    (ap (λ z. z.0) (sym end.1), inl (ap (λ z. z ∷ xs) same ∙ ap (λ z. 10 ∷ z.1) end.1))

-- and a file that is read is spelled
pub begins-content_at : (len : ℕ) (bytes : List ℕ) (c : Command) (rest : List ℕ) → content_at len bytes ≡ Some (c, rest)
    → (content : List ℕ) × (length content ≡ len) × (c ≡ File content) × BeginsLine bytes content rest
unfolding content_at
begins-content_at len bytes c rest h =
    let g = long_enough (nat_lt (length bytes) len) (ended (take len bytes) (drop len bytes)) (c, rest) h in
    let long : len ≤ length bytes = grind (arith, nat_tests, g.0) in
    let parts = ends-ended (take len bytes) (drop len bytes) c rest g.1 in
    (take len bytes, length-take-le len bytes long, parts.0, (drop len bytes, sym (take-append-drop len bytes), parts.1))
  where
    long_enough : {A : Type 0} (b : Bool) (o : Option A) (y : A) → cond {A = Option A} b None o ≡ Some y → (b ≡ false) × (o ≡ Some y)
    long_enough true o y h = cc
    long_enough false o y h = (refl, h)
