-- Reports and their words.
use Rattle.std.proofs.Common.{◌≡◌, ◌⊎◌, inl, inr, ℕ, ◌^◌, ◌<◌, ◌≤◌, ◌&&◌, Bool, true, false, nat_le, cond, List, ◌∷◌, ◌++◌, refl, ap, sym, ◌∙◌, subst, arith, Option, Some, None, option_map, codes}
use Rattle.std.specs.Fmt.{decimal}
use Rattle.std.specs.Str.{bytes_eq}
use Rattle.std.proofs.lemmas.Bool.{cases_Bool, cond-true, cond-false, and_parts}
use Rattle.std.proofs.lemmas.Bool.Decides.{nat_tests}
use Rattle.std.proofs.lemmas.Option.{cond_some}
use Rattle.std.proofs.lemmas.Slice.Eq.{bytes_eq-Decides}
use Rattle.ali_base.specs.CivilDay.{day_of}
use Rattle.ali_base.specs.declared.esn.TheConstants.{HIGHEST_ESN}
use Rattle.ali_base.proofs.DayTexts.{day_of-text, day_of-found}
use Rattle.ali_base.proofs.Steps.{bind_ok, some_is}
use Rattle.text_line.specs.WordReading.{number_of, split_once}
use Rattle.text_line.proofs.NumberTexts.{number_of-decimal, decimal-number_of}
use Rattle.text_line.proofs.Splits.{Clear, split_again, split_none, split_is}
use Rattle.audit_reports.specs.declared.report.TheConstants.{HIGHEST_CODE}
use Rattle.audit_reports.specs.declared.report.Report.{Report}
use Rattle.audit_reports.specs.declared.report.Report.TheVariants.{Stats, Company, Esn, Unlocked, InRange, Code}
use Rattle.audit_reports.specs.Reports.{IsReport}
use Rattle.audit_reports.specs.ReportWords.{report_words}
use Rattle.audit_reports.specs.WordsReading.{company_named, esn_report, code_report, by_word, report_in, report_of}
use Rattle.audit_reports.proofs.CompanyWords.{company_named-trimmed, trimmed-company_named}

-- ---- what is spelled is read

by_parts : (words word rest : List ℕ) → Clear 32 word → words ≡ word ++ 32 ∷ rest → report_of words ≡ by_word word rest
unfolding report_of
by_parts words word rest clear is = ap (report_in words) (ap (split_once 32) is ∙ split_again 32 word rest clear)

alone : (words : List ℕ) → words ≡ codes "STATS" → report_of words ≡ Some Stats
unfolding report_of
alone words is = ap report_of is ∙ ap (report_in (codes "STATS")) (split_none 32 (codes "STATS") (refl, (refl, (refl, (refl, (refl, tt))))))

esn_report-decimal : (esn : ℕ) → 1 ≤ esn → esn ≤ HIGHEST_ESN → esn_report (decimal esn) ≡ Some (Esn esn)
unfolding esn_report
esn_report-decimal esn low high =
    let from : nat_le 1 esn ≡ true = grind (arith, nat_tests) in
    let to : nat_le esn HIGHEST_ESN ≡ true = grind (arith, nat_tests) in
    rw (number_of-decimal esn (omega (arith, high)), from, to) refl

code_report-decimal : (code : ℕ) → code ≤ HIGHEST_CODE → code_report (decimal code) ≡ Some (Code code)
unfolding code_report
code_report-decimal code high =
    let to : nat_le code HIGHEST_CODE ≡ true = grind (arith, nat_tests) in
    rw (number_of-decimal code (omega (arith, high)), to) refl

pub report_of-words : (words : List ℕ) (report : Report) → IsReport report → words ≡ report_words report → report_of words ≡ Some report
report_of-words words Stats h is = alone words is
report_of-words words (Company company) h is =
    by_parts words (codes "COMPANY") _ (refl, (refl, (refl, (refl, (refl, (refl, (refl, tt))))))) is ∙ ap (option_map Company) (company_named-trimmed company h)
report_of-words words (Esn esn) h is = by_parts words (codes "ESN") _ (refl, (refl, (refl, tt))) is ∙ esn_report-decimal esn h.0 h.1
report_of-words words (Unlocked day) h is =
    by_parts words (codes "UNLOCKED") _ (refl, (refl, (refl, (refl, (refl, (refl, (refl, (refl, tt)))))))) is ∙ ap (option_map Unlocked) (day_of-text day h)
report_of-words words (InRange id) h is = by_parts words (codes "RANGE") _ (refl, (refl, (refl, (refl, (refl, tt))))) is ∙ ap (option_map InRange) (number_of-decimal id h)
report_of-words words (Code code) h is = by_parts words (codes "CODE") _ (refl, (refl, (refl, (refl, tt)))) is ∙ code_report-decimal code h

-- ---- and what is read is spelled so

-- what a report is by its words
abbrev Spells : List ℕ → Report → Type 0
Spells words report = IsReport report × (words ≡ report_words report)

-- a word is this one, or another
this_word : {A : Type 0} (text word : List ℕ) (x y z : A) → cond (bytes_eq text word) x y ≡ z → ((text ≡ word) × (x ≡ z)) ⊎ (y ≡ z)
this_word text word x y z h = elim (cases_Bool (bytes_eq text word)) [
  | inl same ↦ inl ((bytes_eq-Decides text word).0 same, sym (cond-true (bytes_eq text word) x y same) ∙ h)
  | inr other ↦ inr (sym (cond-false (bytes_eq text word) x y other) ∙ h)
]

mapped : {A : Type 0} (o : Option A) (f : A → Report) (report : Report) → option_map f o ≡ Some report → (x : A) × (o ≡ Some x) × (f x ≡ report)
mapped (Some x) f report h = (x, refl, cc)
mapped None f report h = cc

-- the words are the first one and the rest
joined : (words word first rest text : List ℕ) → words ≡ word ++ 32 ∷ rest → word ≡ first → rest ≡ text → words ≡ first ++ 32 ∷ text
joined words word first rest text is w r = is ∙ ap (λ z. z ++ 32 ∷ rest) w ∙ ap (λ z. first ++ 32 ∷ z) r

company-spells : (words word rest : List ℕ) (report : Report) → words ≡ word ++ 32 ∷ rest → word ≡ codes "COMPANY" → option_map Company (company_named rest) ≡ Some report → Spells words report
company-spells words word rest report is w h =
    let company = mapped (company_named rest) Company report h in
    let named = trimmed-company_named rest company.0 company.1 in
    subst (Spells words) company.2 (named.0, joined words word (codes "COMPANY") rest _ is w named.1)

esn-spells : (words word rest : List ℕ) (report : Report) → words ≡ word ++ 32 ∷ rest → word ≡ codes "ESN" → esn_report rest ≡ Some report → Spells words report
unfolding esn_report
esn-spells words word rest report is w h =
    let esn = bind_ok (number_of rest) _ report h in
    let test = cond_some (nat_le 1 esn.0 && nat_le esn.0 HIGHEST_ESN) (Esn esn.0) report esn.2 in
    let both = and_parts (nat_le 1 esn.0) (nat_le esn.0 HIGHEST_ESN) test.0 in
    let low : 1 ≤ esn.0 = grind (arith, nat_tests, both.0) in
    let high : esn.0 ≤ HIGHEST_ESN = grind (arith, nat_tests, both.1) in
    subst (Spells words) test.1 ((low, high), joined words word (codes "ESN") rest _ is w (decimal-number_of rest esn.0 esn.1).0)

unlocked-spells : (words word rest : List ℕ) (report : Report) → words ≡ word ++ 32 ∷ rest → word ≡ codes "UNLOCKED" → option_map Unlocked (day_of rest) ≡ Some report → Spells words report
unlocked-spells words word rest report is w h =
    let day = mapped (day_of rest) Unlocked report h in
    let found = day_of-found rest day.0 day.1 in
    subst (Spells words) day.2 (found.0, joined words word (codes "UNLOCKED") rest _ is w found.1)

range-spells : (words word rest : List ℕ) (report : Report) → words ≡ word ++ 32 ∷ rest → word ≡ codes "RANGE" → option_map InRange (number_of rest) ≡ Some report → Spells words report
range-spells words word rest report is w h =
    let id = mapped (number_of rest) InRange report h in
    let found = decimal-number_of rest id.0 id.1 in
    subst (Spells words) id.2 (found.1, joined words word (codes "RANGE") rest _ is w found.0)

code-spells : (words word rest : List ℕ) (report : Report) → words ≡ word ++ 32 ∷ rest → word ≡ codes "CODE" → code_report rest ≡ Some report → Spells words report
unfolding code_report
code-spells words word rest report is w h =
    let code = bind_ok (number_of rest) _ report h in
    let test = cond_some (nat_le code.0 HIGHEST_CODE) (Code code.0) report code.2 in
    let high : code.0 ≤ HIGHEST_CODE = grind (arith, nat_tests, test.0) in
    subst (Spells words) test.1 (high, joined words word (codes "CODE") rest _ is w (decimal-number_of rest code.0 code.1).0)

word-spells : (words word rest : List ℕ) (report : Report) → words ≡ word ++ 32 ∷ rest → by_word word rest ≡ Some report → Spells words report
word-spells words word rest report is h = elim (this_word word (codes "COMPANY") _ _ _ h) [
  | inl company ↦ company-spells words word rest report is company.0 company.1
  | inr no_company ↦ (elim (this_word word (codes "ESN") _ _ _ no_company) [
    | inl esn ↦ esn-spells words word rest report is esn.0 esn.1
    | inr no_esn ↦ (elim (this_word word (codes "UNLOCKED") _ _ _ no_esn) [
      | inl unlocked ↦ unlocked-spells words word rest report is unlocked.0 unlocked.1
      | inr no_unlocked ↦ (elim (this_word word (codes "RANGE") _ _ _ no_unlocked) [
        | inl range ↦ range-spells words word rest report is range.0 range.1
        | inr no_range ↦ (elim (this_word word (codes "CODE") _ _ _ no_range) [
          | inl code ↦ code-spells words word rest report is code.0 code.1
          | inr none ↦ cc
        ])
      ])
    ])
  ])
]

pub words-report_of : (words : List ℕ) (report : Report) → report_of words ≡ Some report → IsReport report × (words ≡ report_words report)
unfolding report_of
words-report_of words report h = by_split (split_once 32 words) refl h
  where
    by_split : (parts : Option (List ℕ × List ℕ)) → split_once 32 words ≡ parts → report_in words parts ≡ Some report → Spells words report
    by_split None none h =
        let test = cond_some (bytes_eq words (codes "STATS")) Stats report h in
        subst (Spells words) test.1 (tt, (bytes_eq-Decides words (codes "STATS")).0 test.0)
    by_split (Some parts) split h = word-spells words parts.0 parts.1 report (split_is 32 words parts split) h
