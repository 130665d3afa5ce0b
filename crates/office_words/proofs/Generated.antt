-- What `generate` makes of the words behind it.
use Rattle.std.proofs.Common.{◌≡◌, ◌∙◌, ℕ, true, false, nat_eq, ap, ap₂, sym, List, [], ◌∷◌, Option, codes, option_and_then}
use Rattle.std.proofs.lemmas.Bool.{and_parts, not-true, true≢false}
use Rattle.clap.specs.Walk.{Row, Text, first_of, rows_of}
use Rattle.clap.specs.Simple.{matches_of}
use Rattle.clap.specs.Takes.{takes}
use Rattle.clap.specs.Matches.{first_value}
use Rattle.clap.specs.declared.parser.matches.Found.{Found}
use Rattle.clap.proofs.WalkLemmas.{first_value-rows}
use Rattle.office_words.specs.Generate.{generate, matched_form}
use Rattle.office_words.specs.Words.{generate_form, generated, is_generate, is_word}
use Rattle.office_words.proofs.Walked.{plain_count, plain_seed, plain_taken}

head : (x : ℕ) (xs : List ℕ) → is_word (x ∷ xs) ≡ true → nat_eq x 45 ≡ false
head x xs h = not-true (nat_eq x 45) h

pub record Reads (words : List Text) : Type 0 where
  pub taken : takes generate words ≡ true
  pub form : matched_form (λ id. first_of id (matches_of generate words)) ≡ generated words

four : (name dir seed count : Text) → is_word dir ≡ true → is_word seed ≡ true → is_word count ≡ true → Reads (name ∷ dir ∷ seed ∷ count ∷ [])
four name [] seed count d s n = absurd (true≢false (sym d))
four name (a ∷ ds) [] count d s n = absurd (true≢false (sym s))
four name (a ∷ ds) (b ∷ ss) [] d s n = absurd (true≢false (sym n))
four name (a ∷ ds) (b ∷ ss) (c ∷ ns) d s n = record {
  taken = plain_taken name a b c ds ss ns (head a ds d) (head b ss s) (head c ns n);
  form = ap₂ (λ (v w : Option Text). option_and_then (λ seed. option_and_then (λ count. generate_form seed count) w) v)
      (plain_seed name a b c ds ss ns (head a ds d) (head b ss s) (head c ns n)) (plain_count name a b c ds ss ns (head a ds d) (head b ss s) (head c ns n));
}

pub reads : (words : List Text) → is_generate words ≡ true → Reads words
reads [] h = absurd (true≢false (sym h))
reads (a ∷ []) h = absurd (true≢false (sym h))
reads (a ∷ b ∷ []) h = absurd (true≢false (sym h))
reads (a ∷ b ∷ c ∷ []) h = absurd (true≢false (sym h))
reads (name ∷ dir ∷ seed ∷ count ∷ []) h =
    let last = and_parts _ _ h in
    let third = and_parts _ _ last.0 in
    let second = and_parts _ _ third.0 in
    four name dir seed count second.1 third.1 last.1
reads (a ∷ b ∷ c ∷ d ∷ e ∷ rest) h = absurd (true≢false (sym h))

-- what the getters read
pub matched : (f : Found) (words : List Text) → is_generate words ≡ true → rows_of f ≡ matches_of generate words → matched_form (first_value f) ≡ generated words
matched f words h rows =
    ap₂ (λ (v w : Option Text). option_and_then (λ seed. option_and_then (λ count. generate_form seed count) w) v) (first_value-rows f (codes "seed")) (first_value-rows f (codes "count"))
    ∙ ap (λ (rs : List Row). matched_form (λ id. first_of id rs)) rows ∙ (reads words h).form
