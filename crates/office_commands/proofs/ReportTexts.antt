-- Reports by their words, as commands name them.
use Rattle.std.proofs.Common.{◌≡◌, ℕ, zero, suc, ◌^◌, ◌<◌, ◌-◌, ◌==◌, ◌&&◌, true, false, not, List, [], ◌∷◌, ◌++◌, length, refl, ap, sym, ◌∙◌, arith, Some}
use Rattle.std.specs.Prelude.{replicate}
use Rattle.std.specs.Fmt.{decimal}
use Rattle.std.specs.List.{list_all}
use Rattle.std.proofs.lemmas.Bool.{and_parts}
use Rattle.std.proofs.lemmas.Bool.Decides.{nat_tests}
use Rattle.ali_base.specs.CivilDay.{CivilDay, IsDay, day_text}
use Rattle.ali_base.specs.Columns.{trimmed, is_blank}
use Rattle.ali_base.specs.Company.{is_company, is_company_byte}
use Rattle.ali_base.specs.NodeNames.{node_of, node_text}
use Rattle.ali_base.specs.Numbers.{zero_padded}
use Rattle.ali_base.specs.declared.names.NodeName.{NodeName}
use Rattle.ali_base.proofs.DayTexts.{day_small}
use Rattle.ali_base.proofs.NodeLetters.{node_of-text, text-node_of}
use Rattle.ali_base.proofs.Steps.{bind_ok, some_is}
use Rattle.audit_reports.specs.Reports.{IsReport}
use Rattle.audit_reports.specs.ReportWords.{report_words}
use Rattle.audit_reports.specs.WordsReading.{report_of as report_named}
use Rattle.audit_reports.specs.declared.report.Report.{Report as OfficeReport}
use Rattle.audit_reports.specs.declared.report.Report.TheVariants as reports
use Rattle.audit_reports.proofs.Words.{report_of-words, words-report_of}
use Rattle.text_line.specs.WordReading.{split_once}
use Rattle.text_line.proofs.Splits.{Clear, Clear-append, split_again, split_is, decimal_clear}
use Rattle.office_commands.specs.LineReading.{report_of}
use Rattle.office_commands.specs.declared.command_line.CommandLine.{CommandLine}
use Rattle.office_commands.specs.declared.command_line.CommandLine.TheVariants.{Report}
use Rattle.office_commands.proofs.FirstWords.{node_clear}

-- ---- no byte of a report's words is a line end

letter_no_end : (x : ℕ) → is_company_byte x ≡ true → (x == 10) ≡ false
letter_no_end x h = grind (arith, nat_tests)

letters_clear : (text : List ℕ) → list_all is_company_byte text ≡ true → Clear 10 text
letters_clear [] h = tt
letters_clear (x ∷ xs) h = let d = and_parts (is_company_byte x) (list_all is_company_byte xs) h in (letter_no_end x d.0, letters_clear xs d.1)

company_clear : (c : List ℕ) → is_company c ≡ true → Clear 10 (trimmed c)
unfolding is_company
company_clear c h = letters_clear (trimmed c) (and_parts ((length c == 5) && not (is_blank c)) (list_all is_company_byte (trimmed c)) h).1

zeros_clear : (n : ℕ) → Clear 10 (replicate n 48)
zeros_clear zero = tt
zeros_clear (suc n) = (refl, zeros_clear n)

two_clear : (n : ℕ) → n < 2 ^ 32 → Clear 10 (zero_padded 2 n)
two_clear n small = Clear-append 10 (replicate (2 - length (decimal n)) 48) (decimal n) (zeros_clear (2 - length (decimal n))) (decimal_clear 10 refl n small)

day_clear : (d : CivilDay) → IsDay d → Clear 10 (day_text d)
day_clear d h =
    let small = day_small d h.civil in
    let m = zero_padded 2 d.month in
    let n = zero_padded 2 d.day in
    let y = zero_padded 2 (d.year - 2000) in
    let front = Clear-append 10 m n (two_clear d.month (omega (arith, small.0))) (two_clear d.day (omega (arith, small.1))) in
    Clear-append 10 (m ++ n) y front (two_clear (d.year - 2000) (omega (arith, h.from, h.to)))

pub words_clear : (report : OfficeReport) → IsReport report → Clear 10 (report_words report)
words_clear reports.Stats h = (refl, (refl, (refl, (refl, (refl, tt)))))
words_clear (reports.Company company) h = (refl, (refl, (refl, (refl, (refl, (refl, (refl, (refl, company_clear company h))))))))
words_clear (reports.Esn esn) h = (refl, (refl, (refl, (refl, decimal_clear 10 refl esn (omega (arith, h.1))))))
words_clear (reports.Unlocked day) h = (refl, (refl, (refl, (refl, (refl, (refl, (refl, (refl, (refl, day_clear day h)))))))))
words_clear (reports.InRange id) h = (refl, (refl, (refl, (refl, (refl, (refl, decimal_clear 10 refl id h))))))
words_clear (reports.Code code) h = (refl, (refl, (refl, (refl, (refl, decimal_clear 10 refl code (omega (arith, h)))))))

-- ---- the words behind `REPORT`

abbrev pub command_words : NodeName → OfficeReport → List ℕ
command_words node report = node_text node ++ 32 ∷ report_words report

pub report_of-text : (node : NodeName) (report : OfficeReport) → IsReport report → report_of (command_words node report) ≡ Some (Report node report)
unfolding report_of
report_of-text node report h =
    rw (
      split_again 32 (node_text node) (report_words report) (node_clear 32 refl refl node),
      node_of-text node,
      report_of-words (report_words report) report h refl,
    ) refl

-- the words are those of a report
pub record IsReportWords (words : List ℕ) (line : CommandLine) : Type 0 where
  pub node : NodeName
  pub report : OfficeReport
  pub lawful : IsReport report
  pub line_is : line ≡ Report node report
  pub words_are : words ≡ command_words node report

pub text-report_of : (words : List ℕ) (line : CommandLine) → report_of words ≡ Some line → IsReportWords words line
unfolding report_of
text-report_of words line h =
    let b = bind_ok (split_once 32 words) _ line h in
    let n = bind_ok (node_of b.0.0) _ line b.2 in
    let r = bind_ok (report_named b.0.1) _ line n.2 in
    let named = words-report_of b.0.1 r.0 r.1 in
    let node : b.0.0 ≡ node_text n.0 = text-node_of b.0.0 n.0 n.1 in
    record {
      node = n.0;
      report = r.0;
      lawful = named.0;
      line_is = sym (some_is (Report n.0 r.0) line r.2);
      words_are = split_is 32 words b.0 b.1 ∙ ap (λ z. z ++ 32 ∷ b.0.1) node ∙ ap (λ z. node_text n.0 ++ 32 ∷ z) named.1;
    }
