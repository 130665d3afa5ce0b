-- The lines of commands, and their texts.
use Rattle.std.proofs.Common.{◌≡◌, inl, inr, ℕ, ◌≤◌, true, nat_le, List, ◌∷◌, ◌++◌, refl, ap, sym, ◌∙◌, subst, arith, Option, Some, None, codes}
use Rattle.std.specs.Fmt.{decimal}
use Rattle.std.specs.Str.{bytes_eq}
use Rattle.std.proofs.lemmas.Bool.Decides.{nat_tests}
use Rattle.std.proofs.lemmas.Option.{cond_some}
use Rattle.std.proofs.lemmas.Slice.Eq.{bytes_eq-Decides}
use Rattle.ali_base.specs.NodeNames.{node_text}
use Rattle.ali_base.specs.declared.names.NodeName.{NodeName}
use Rattle.ali_base.proofs.NodeLetters.{node_of-text}
use Rattle.ali_base.proofs.Steps.{bind_ok, some_is}
use Rattle.text_line.specs.WordReading.{number_of, split_once}
use Rattle.text_line.proofs.NumberTexts.{number_of-decimal, decimal-number_of}
use Rattle.text_line.proofs.Splits.{Clear, Clear-append, split_is, decimal_clear}
use Rattle.audit_reports.specs.ReportWords.{report_words}
use Rattle.audit_reports.specs.Reports.{IsReport}
use Rattle.audit_reports.specs.declared.report.Report.{Report as OfficeReport}
use Rattle.office_commands.specs.Commands.{IsAsk}
use Rattle.office_commands.specs.declared.command.TheConstants.{FILE_LIMIT}
use Rattle.office_commands.specs.CommandText.{ask_text, report_command_text, file_text, write_text, IsEditLine, SpellsLine}
use Rattle.office_commands.specs.LineReading.{ask_of, report_of, file_of, edit_of, write_of, word_alone, by_word, line_in, line_of}
use Rattle.office_commands.specs.declared.command_line.CommandLine.{CommandLine}
use Rattle.office_commands.specs.declared.command_line.CommandLine.TheVariants.{Ask, Report, File, Edit, Write, Next, Batch, CatchUp, Order}
use Rattle.office_commands.specs.declared.order.Order.TheVariants as orders
use Rattle.office_commands.proofs.FirstWords.{by_parts, alone, this_word, spelled_as, node_clear, one_node}
use Rattle.office_commands.proofs.AskTexts.{ask_words, ask_of-text, ask-ask_of, tn_clear, tn_of-number}
use Rattle.office_commands.proofs.ReportTexts.{command_words, report_of-text, text-report_of, words_clear}
use Rattle.office_commands.proofs.EditTexts.{edit_words, edit_of-text, text-edit_of, text_clear}
use Rattle.office_commands.proofs.OrderTexts.{order_clear, line_of-order, spelled-order_by_word}

-- ---- no byte of a line is a line end

ask_clear : (node : NodeName) (p : ℕ) (tn : List ℕ) (since : ℕ) → IsAsk p tn since → Clear 10 (ask_text node p tn since)
ask_clear node p tn since h =
    let number = decimal_clear 10 refl since h.small in
    let last = Clear-append 10 tn (32 ∷ decimal since) (tn_clear 10 refl tn (tn_of-number tn h.number)) (refl, number) in
    let place = Clear-append 10 (decimal p) (32 ∷ (tn ++ 32 ∷ decimal since)) (decimal_clear 10 refl p (omega (arith, h.high))) (refl, last) in
    let words = Clear-append 10 (node_text node) (32 ∷ (decimal p ++ 32 ∷ (tn ++ 32 ∷ decimal since))) (node_clear 10 refl refl node) (refl, place) in
    (refl, (refl, (refl, (refl, words))))

report_clear : (node : NodeName) (report : OfficeReport) → IsReport report → Clear 10 (report_command_text node report)
report_clear node report h =
    let words = Clear-append 10 (node_text node) (32 ∷ report_words report) (node_clear 10 refl refl node) (refl, words_clear report h) in
    (refl, (refl, (refl, (refl, (refl, (refl, (refl, words)))))))

file_clear : (len : ℕ) → len ≤ FILE_LIMIT → Clear 10 (file_text len)
file_clear len small = (refl, (refl, (refl, (refl, (refl, decimal_clear 10 refl len (omega arith))))))

edit_clear : (text : List ℕ) (editor serial : ℕ) (words : List ℕ) → IsEditLine text editor serial words → Clear 10 words → Clear 10 text
edit_clear text editor serial words is clear =
    let last = Clear-append 10 (decimal serial) (32 ∷ words) (decimal_clear 10 refl serial (omega (arith, is.serial_is.1))) (refl, clear) in
    let all = Clear-append 10 (decimal editor) (32 ∷ (decimal serial ++ 32 ∷ words)) (decimal_clear 10 refl editor (omega (arith, is.editor_is.1))) (refl, last) in
    subst (Clear 10) (sym is.line_is) (refl, (refl, (refl, (refl, (refl, all)))))

write_clear : (node : NodeName) → Clear 10 (write_text node)
write_clear node = (refl, (refl, (refl, (refl, (refl, (refl, node_clear 10 refl refl node))))))

pub line_clear : (text : List ℕ) (line : CommandLine) → SpellsLine text line → Clear 10 text
line_clear text (Ask ask) is = subst (Clear 10) (sym is.1) (ask_clear ask.node ask.position ask.tn ask.since is.0)
line_clear text (Report node report) is = subst (Clear 10) (sym is.1) (report_clear node report is.0)
line_clear text (File len) is = subst (Clear 10) (sym is.1) (file_clear len is.0)
line_clear text (Edit editor serial edit) is = edit_clear text editor serial is.0 is.2 (text_clear is.0 edit is.1)
line_clear text (Write node) is = subst (Clear 10) (sym is) (write_clear node)
line_clear text Next is = subst (Clear 10) (sym is) (refl, (refl, (refl, (refl, tt))))
line_clear text Batch is = subst (Clear 10) (sym is) (refl, (refl, (refl, (refl, (refl, tt)))))
line_clear text CatchUp is = subst (Clear 10) (sym is) (refl, (refl, (refl, (refl, (refl, (refl, (refl, tt)))))))
line_clear text (Order order) is = subst (Clear 10) (sym is.1) (order_clear order is.0)

-- ---- what is spelled is read

file_of-text : (len : ℕ) → len ≤ FILE_LIMIT → file_of (decimal len) ≡ Some (File len)
unfolding file_of
file_of-text len small =
    let low : nat_le len FILE_LIMIT ≡ true = grind (arith, nat_tests) in
    rw (number_of-decimal len (omega arith), low) refl

write_of-text : (node : NodeName) → write_of (node_text node) ≡ Some (Write node)
unfolding write_of
write_of-text node = rw (node_of-text node) refl

pub line_of-spelled : (text : List ℕ) (line : CommandLine) → SpellsLine text line → line_of text ≡ Some line
line_of-spelled text (Ask ask) is = by_parts text (codes "ASK") (ask_words ask.node ask.position ask.tn ask.since) (refl, (refl, (refl, tt))) is.1 ∙ ask_of-text ask is.0
line_of-spelled text (Report node report) is =
    by_parts text (codes "REPORT") (command_words node report) (refl, (refl, (refl, (refl, (refl, (refl, tt)))))) is.1 ∙ report_of-text node report is.0
line_of-spelled text (File len) is = by_parts text (codes "FILE") (decimal len) (refl, (refl, (refl, (refl, tt)))) is.1 ∙ file_of-text len is.0
line_of-spelled text (Edit editor serial edit) is =
    by_parts text (codes "EDIT") (edit_words editor serial is.0) (refl, (refl, (refl, (refl, tt)))) is.2.line_is ∙ edit_of-text editor serial edit is.0 is.2.editor_is is.2.serial_is is.1
line_of-spelled text (Write node) is = by_parts text (codes "WRITE") (node_text node) (refl, (refl, (refl, (refl, (refl, tt))))) is ∙ write_of-text node
line_of-spelled text Next is = ap line_of is ∙ alone (codes "NEXT") (refl, (refl, (refl, (refl, tt))))
line_of-spelled text Batch is = ap line_of is ∙ alone (codes "BATCH") (refl, (refl, (refl, (refl, (refl, tt)))))
line_of-spelled text CatchUp is = ap line_of is ∙ alone (codes "CATCHUP") (refl, (refl, (refl, (refl, (refl, (refl, (refl, tt)))))))
line_of-spelled text (Order order) is = line_of-order text order is.0 is.1

-- ---- and what is read is spelled so

spelled-alone : (text : List ℕ) (line : CommandLine) → word_alone text ≡ Some line → SpellsLine text line
spelled-alone text line h = elim (this_word text (codes "NEXT") _ _ _ h) [
  | inl next ↦ subst (SpellsLine text) (some_is Next line next.1) next.0
  | inr no_next ↦ (elim (this_word text (codes "BATCH") _ _ _ no_next) [
    | inl batch ↦ subst (SpellsLine text) (some_is Batch line batch.1) batch.0
    | inr no_batch ↦ (elim (this_word text (codes "CATCHUP") _ _ _ no_batch) [
      | inl catch_up ↦ subst (SpellsLine text) (some_is CatchUp line catch_up.1) catch_up.0
      | inr no_catch_up ↦ (elim (this_word text (codes "BOOK") _ _ _ no_catch_up) [
        | inl book ↦ subst (SpellsLine text) (some_is (Order orders.Book) line book.1) (tt, book.0)
        | inr no_book ↦ (elim (this_word text (codes "ALONE") _ _ _ no_book) [
          | inl one ↦ subst (SpellsLine text) (some_is (Order orders.Alone) line one.1) (tt, one.0)
          | inr no_alone ↦ (elim (this_word text (codes "PAIR") _ _ _ no_alone) [
            | inl pair ↦ subst (SpellsLine text) (some_is (Order orders.Pair) line pair.1) (tt, pair.0)
            | inr no_pair ↦ (
                let status = cond_some (bytes_eq text (codes "STATUS")) (Order orders.Status) line no_pair in
                subst (SpellsLine text) status.1 (tt, (bytes_eq-Decides text (codes "STATUS")).0 status.0))
          ])
        ])
      ])
    ])
  ])
]

spelled-ask : (text word words : List ℕ) (line : CommandLine) → text ≡ word ++ 32 ∷ words → (word ≡ codes "ASK") × (ask_of words ≡ Some line) → SpellsLine text line
spelled-ask text word words line is h =
    let found = ask-ask_of words line h.1 in
    let ask = found.ask in
    subst (SpellsLine text) (sym found.line_is)
    (found.lawful, spelled_as text word words (codes "ASK") (ask_words ask.node ask.position ask.tn ask.since) is h.0 found.words_are)

spelled-report : (text word words : List ℕ) (line : CommandLine) → text ≡ word ++ 32 ∷ words → (word ≡ codes "REPORT") × (report_of words ≡ Some line) → SpellsLine text line
spelled-report text word words line is h =
    let found = text-report_of words line h.1 in
    subst (SpellsLine text) (sym found.line_is)
    (found.lawful, spelled_as text word words (codes "REPORT") (command_words found.node found.report) is h.0 found.words_are)

spelled-file : (text word words : List ℕ) (line : CommandLine) → text ≡ word ++ 32 ∷ words → (word ≡ codes "FILE") × (file_of words ≡ Some line) → SpellsLine text line
unfolding file_of
spelled-file text word words line is h =
    let number = bind_ok (number_of words) _ line h.1 in
    let test = cond_some (nat_le number.0 FILE_LIMIT) (File number.0) line number.2 in
    let low : number.0 ≤ FILE_LIMIT = grind (arith, nat_tests, test.0) in
    subst (SpellsLine text) test.1
    (low, spelled_as text word words (codes "FILE") (decimal number.0) is h.0 (decimal-number_of words number.0 number.1).0)

spelled-edit : (text word words : List ℕ) (line : CommandLine) → text ≡ word ++ 32 ∷ words → (word ≡ codes "EDIT") × (edit_of words ≡ Some line) → SpellsLine text line
spelled-edit text word words line is h =
    let found = text-edit_of words line h.1 in
    let spelled = spelled_as text word words (codes "EDIT") (edit_words found.editor found.serial found.text) is h.0 found.words_are in
    subst (SpellsLine text) (sym found.line_is) (found.text, found.text_is, record { editor_is = found.editor_is; serial_is = found.serial_is; line_is = spelled })

spelled-write : (text word words : List ℕ) (line : CommandLine) → text ≡ word ++ 32 ∷ words → (word ≡ codes "WRITE") × (write_of words ≡ Some line) → SpellsLine text line
unfolding write_of
spelled-write text word words line is h =
    let found = one_node (λ n. Write n) words line h.1 in
    subst (SpellsLine text) found.1 (spelled_as text word words (codes "WRITE") (node_text found.0) is h.0 found.2)

spelled-by_word : (text word words : List ℕ) (line : CommandLine) → text ≡ word ++ 32 ∷ words → by_word word words ≡ Some line → SpellsLine text line
spelled-by_word text word words line is h = elim (this_word word (codes "ASK") _ _ _ h) [
  | inl ask ↦ spelled-ask text word words line is ask
  | inr no_ask ↦ (elim (this_word word (codes "REPORT") _ _ _ no_ask) [
    | inl report ↦ spelled-report text word words line is report
    | inr no_report ↦ (elim (this_word word (codes "FILE") _ _ _ no_report) [
      | inl file ↦ spelled-file text word words line is file
      | inr no_file ↦ (elim (this_word word (codes "EDIT") _ _ _ no_file) [
        | inl edit ↦ spelled-edit text word words line is edit
        | inr no_edit ↦ (elim (this_word word (codes "WRITE") _ _ _ no_edit) [
          | inl write ↦ spelled-write text word words line is write
          | inr no_write ↦ spelled-order_by_word text word words line is no_write
        ])
      ])
    ])
  ])
]

pub spelled-line_of : (text : List ℕ) (line : CommandLine) → line_of text ≡ Some line → SpellsLine text line
unfolding line_of
spelled-line_of text line h = by_split (split_once 32 text) refl h
  where
    by_split : (parts : Option (List ℕ × List ℕ)) → split_once 32 text ≡ parts → line_in text parts ≡ Some line → SpellsLine text line
    by_split None none h = spelled-alone text line h
    by_split (Some parts) split h = spelled-by_word text parts.0 parts.1 line (split_is 32 text parts split) h
