-- Companies without the spaces at their end.
use Rattle.std.proofs.Common.{◌≡◌, ℕ, zero, suc, ◌+◌, ◌-◌, ◌≤◌, ◌==◌, ◌&&◌, Bool, true, false, not, nat_le, cond, List, [], ◌∷◌, ◌++◌, length, refl, ap, sym, ◌∙◌, arith, length-append, Option, Some, None}
use Rattle.std.specs.Prelude.{replicate}
use Rattle.std.specs.List.{list_all}
use Rattle.std.specs.Str.{bytes_eq}
use Rattle.std.proofs.lemmas.Bool.{cases_Bool, and_parts}
use Rattle.std.proofs.lemmas.Bool.Decides.{nat_tests}
use Rattle.std.proofs.lemmas.List.{length-replicate}
use Rattle.std.proofs.lemmas.Option.{cond_some}
use Rattle.std.proofs.lemmas.Slice.Eq.{bytes_eq-Decides}
use Rattle.ali_base.specs.Columns.{trimmed, is_blank, is_space, is_empty}
use Rattle.ali_base.specs.Company.{is_company, is_company_byte, company_of}
use Rattle.ali_base.specs.StreetKey.{padded_to}
use Rattle.audit_reports.specs.WordsReading.{company_named}

trimmed-spaces : (n : ℕ) → trimmed (replicate n 32) ≡ []
trimmed-spaces zero = refl
trimmed-spaces (suc n) = ap (λ z. cond (is_empty z) [] (32 ∷ z)) (trimmed-spaces n)

-- spaces more at the end
trimmed-padded : (xs : List ℕ) (n : ℕ) → trimmed (xs ++ replicate n 32) ≡ trimmed xs
trimmed-padded [] n = trimmed-spaces n
trimmed-padded (x ∷ xs) n = ap (λ z. cond (is_space x && is_empty z) [] (x ∷ z)) (trimmed-padded xs n)

nothing : (xs : List ℕ) → is_empty xs ≡ true → xs ≡ []
nothing [] h = refl
nothing (x ∷ xs) h = cc

-- a text is what is left without its spaces at the end, and those
spaces_again : (xs : List ℕ) → trimmed xs ++ replicate (length xs - length (trimmed xs)) 32 ≡ xs
spaces_again [] = refl
spaces_again (x ∷ xs) = by_test (spaces_again xs) (is_space x && is_empty (trimmed xs)) refl
  where
    by_test : trimmed xs ++ replicate (length xs - length (trimmed xs)) 32 ≡ xs → (b : Bool) → (is_space x && is_empty (trimmed xs)) ≡ b → cond b [] (x ∷ trimmed xs) ++ replicate (suc (length xs) - length (cond b [] (x ∷ trimmed xs))) 32 ≡ x ∷ xs
    by_test rest false h =
        let same : suc (length xs) - suc (length (trimmed xs)) ≡ length xs - length (trimmed xs) = omega arith in
        ap (λ n. x ∷ (trimmed xs ++ replicate n 32)) same ∙ ap (λ z. x ∷ z) rest
    by_test rest true h =
        let both = and_parts (is_space x) (is_empty (trimmed xs)) h in
        let space : 32 ≡ x = grind (arith, nat_tests, both.0) in
        let all : suc (length xs) - 0 ≡ suc (length xs) = omega arith in
        let others : length xs ≡ length xs - 0 = omega arith in
        ap (λ n. replicate n 32) all
        ∙ ap (λ z. z ∷ replicate (length xs) 32) space
        ∙ ap (λ n. x ∷ replicate n 32) others
        ∙ ap (λ z. x ∷ (z ++ replicate (length xs - length z) 32)) (sym (nothing (trimmed xs) both.1))
        ∙ ap (λ z. x ∷ z) rest

trimmed-trimmed : (xs : List ℕ) → trimmed (trimmed xs) ≡ trimmed xs
trimmed-trimmed xs = sym (trimmed-padded (trimmed xs) (length xs - length (trimmed xs))) ∙ ap trimmed (spaces_again xs)

trimmed_length : (xs : List ℕ) → length (trimmed xs) ≤ length xs
trimmed_length xs = omega (arith, ap length (spaces_again xs), length-append (trimmed xs) (replicate (length xs - length (trimmed xs)) 32))

company_length : (c : List ℕ) → is_company c ≡ true → length c ≡ 5
unfolding is_company
company_length c h =
    let front = and_parts ((length c == 5) && not (is_blank c)) (list_all is_company_byte (trimmed c)) h in
    let five = and_parts (length c == 5) (not (is_blank c)) front.0 in
    grind (arith, nat_tests, five.0)

-- a company is named by its bytes without the spaces
pub company_named-trimmed : (c : List ℕ) → is_company c ≡ true → company_named (trimmed c) ≡ Some c
unfolding company_named
company_named-trimmed c h =
    let five = company_length c h in
    let short : nat_le (length (trimmed c)) 5 ≡ true = grind (arith, nat_tests, trimmed_length c, five) in
    let same : bytes_eq (trimmed (trimmed c)) (trimmed c) ≡ true = (bytes_eq-Decides (trimmed (trimmed c)) (trimmed c)).1 (trimmed-trimmed c) in
    let padded : padded_to 5 (trimmed c) ≡ c = ap (λ n. trimmed c ++ replicate (n - length (trimmed c)) 32) (sym five) ∙ spaces_again c in
    ap (λ b. cond (b && bytes_eq (trimmed (trimmed c)) (trimmed c)) (company_of (padded_to 5 (trimmed c))) None) short
    ∙ ap (λ b. cond b (company_of (padded_to 5 (trimmed c))) None) same
    ∙ ap company_of padded
    ∙ ap (λ b. cond b (Some c) None) h

-- and what is read names it so
pub trimmed-company_named : (word c : List ℕ) → company_named word ≡ Some c → (is_company c ≡ true) × (word ≡ trimmed c)
unfolding company_named
trimmed-company_named word c h =
    let test = tested (nat_le (length word) 5 && bytes_eq (trimmed word) word) (company_of (padded_to 5 word)) c h in
    let company = cond_some (is_company (padded_to 5 word)) (padded_to 5 word) c test.1 in
    let same : trimmed word ≡ word = (bytes_eq-Decides (trimmed word) word).0 (and_parts (nat_le (length word) 5) (bytes_eq (trimmed word) word) test.0).1 in
    (ap is_company (sym company.1) ∙ company.0, sym same ∙ sym (trimmed-padded word (5 - length word)) ∙ ap trimmed company.1)
  where
    tested : (b : Bool) (o : Option (List ℕ)) (x : List ℕ) → cond {A = Option (List ℕ)} b o None ≡ Some x → (b ≡ true) × (o ≡ Some x)
    tested true o x h = (refl, h)
    tested false o x h = cc
