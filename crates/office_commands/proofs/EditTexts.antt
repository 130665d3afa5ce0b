-- Edits and their lines.
use Rattle.std.proofs.Common.{◌≡◌, ℕ, ◌==◌, ◌≤◌, ◌<◌, ◌^◌, ◌+◌, true, false, ◌&&◌, nat_le, ℤ, pos, negsuc, List, [], ◌∷◌, ◌++◌, refl, ap, sym, ◌∙◌, subst, arith, Some}
use Rattle.std.specs.Fmt.{decimal}
use Rattle.std.specs.List.{list_all}
use Rattle.std.proofs.lemmas.Bool.{and_parts}
use Rattle.std.proofs.lemmas.Bool.Decides.{nat_tests}
use Rattle.std.proofs.lemmas.Option.{cond_some}
use Rattle.ali_base.specs.Editors.{IsEditor, IsSerial}
use Rattle.ali_base.specs.Parity.{parity_text}
use Rattle.ali_base.specs.declared.parity.Parity.{Parity}
use Rattle.ali_base.specs.declared.parity.Parity.TheVariants.{Odd, Even, Both}
use Rattle.office_entry.specs.declared.edit.Edit.{Edit as GuideEdit}
use Rattle.office_entry.specs.declared.edit.Edit.TheVariants.{Add, Retire, Split, Renumber, SetEsn}
use Rattle.office_entry.specs.Differences.{magnitude}
use Rattle.office_entry.specs.Edits.{IsEdit}
use Rattle.office_entry.specs.EditText.{is_sent_byte, StreetTexts, AreStreetTexts, street_text, difference_text, Spells, IsEditText}
use Rattle.office_entry.specs.EditReading.{edit_of_text}
use Rattle.office_entry.proofs.EditTexts.{text_read, text_again}
use Rattle.office_commands.specs.declared.command_line.CommandLine.{CommandLine}
use Rattle.office_commands.specs.declared.command_line.CommandLine.TheVariants.{Edit}
use Rattle.ali_base.proofs.Steps.{bind_ok}
use Rattle.text_line.specs.WordReading.{number_of, split_once}
use Rattle.text_line.proofs.NumberTexts.{number_of-decimal, decimal-number_of}
use Rattle.text_line.proofs.Splits.{Clear, Clear-append, split_again, split_is, decimal_clear}
use Rattle.ali_base.specs.declared.editor.TheConstants.{EDITORS, LAST_SERIAL}
use Rattle.office_commands.specs.LineReading.{edit_of}

-- a field, a mark that is no line end, and more
field_clear : (field : List ℕ) (mark : ℕ) (rest : List ℕ) → Clear 10 field → (mark == 10) ≡ false → Clear 10 rest → Clear 10 (field ++ mark ∷ rest)
field_clear field mark rest h none more = Clear-append 10 field (mark ∷ rest) h (none, more)

number_clear : (n : ℕ) → n < 2 ^ 32 → Clear 10 (decimal n)
number_clear n small = decimal_clear 10 refl n small

sent_no_end : (x : ℕ) → is_sent_byte x ≡ true → (x == 10) ≡ false
sent_no_end x h = grind (arith, nat_tests)

sent_clear : (text : List ℕ) → list_all is_sent_byte text ≡ true → Clear 10 text
sent_clear [] h = tt
sent_clear (x ∷ xs) h = let d = and_parts (is_sent_byte x) (list_all is_sent_byte xs) h in (sent_no_end x d.0, sent_clear xs d.1)

street_clear : (texts : StreetTexts) (rest : List ℕ) → AreStreetTexts texts → Clear 10 rest → Clear 10 (street_text texts rest)
street_clear texts rest h more =
    field_clear texts.community 124 _ (sent_clear texts.community h.community.bytes) refl
    (field_clear texts.state 124 _ (sent_clear texts.state h.state.bytes) refl
    (field_clear texts.prefix 124 _ (sent_clear texts.prefix h.prefix.bytes) refl
    (field_clear texts.name 124 _ (sent_clear texts.name h.name.bytes) refl
    (field_clear texts.suffix 124 _ (sent_clear texts.suffix h.suffix.bytes) refl
    (field_clear texts.post 124 _ (sent_clear texts.post h.post.bytes) refl more)))))

parity_clear : (parity : Parity) → Clear 10 (parity_text parity)
parity_clear Odd = (refl, tt)
parity_clear Even = (refl, tt)
parity_clear Both = (refl, tt)

difference_clear : (by : ℤ) → magnitude by ≤ 999_999 → Clear 10 (difference_text by)
difference_clear (pos n) h = (refl, number_clear n (omega (arith, h)))
difference_clear (negsuc n) h = (refl, number_clear (n + 1) (omega (arith, h)))

spelled_clear : (edit : GuideEdit) (text : List ℕ) → IsEdit edit → Spells text edit → Clear 10 text
spelled_clear (Add key low high parity esn) text h s =
    let numbers = field_clear (decimal low) 124 _ (number_clear low (omega (arith, h.low_end))) refl
    (field_clear (decimal high) 124 _ (number_clear high (omega (arith, h.high_end))) refl
    (field_clear (parity_text parity) 124 _ (parity_clear parity) refl (number_clear esn (omega (arith, h.number))))) in
    subst (Clear 10) (sym s.spelled) (refl, (refl, (refl, (refl, street_clear s.texts _ s.lawful numbers))))
spelled_clear (Retire id) text h s =
    subst (Clear 10) (sym s) (refl, (refl, (refl, (refl, (refl, (refl, (refl, number_clear id h)))))))
spelled_clear (Split id at esn) text h s =
    let numbers = field_clear (decimal id) 32 _ (number_clear id h.range) refl
    (field_clear (decimal at) 32 _ (number_clear at (omega (arith, h.place))) refl (number_clear esn (omega (arith, h.number)))) in
    subst (Clear 10) (sym s) (refl, (refl, (refl, (refl, (refl, (refl, numbers))))))
spelled_clear (Renumber id by) text h s =
    let numbers = field_clear (decimal id) 32 _ (number_clear id h.0) refl (difference_clear by h.1) in
    subst (Clear 10) (sym s) (refl, (refl, (refl, (refl, (refl, (refl, (refl, (refl, (refl, numbers)))))))))
spelled_clear (SetEsn id esn) text h s =
    let numbers = field_clear (decimal id) 32 _ (number_clear id h.0) refl (number_clear esn (omega (arith, h.1))) in
    subst (Clear 10) (sym s) (refl, (refl, (refl, (refl, (refl, (refl, (refl, numbers)))))))

-- no byte of an edit's text is a line end
pub text_clear : (text : List ℕ) (edit : GuideEdit) → IsEditText text edit → Clear 10 text
text_clear text edit h = spelled_clear edit text h.lawful h.spelled

-- the words behind `EDIT`
abbrev pub edit_words : ℕ → ℕ → List ℕ → List ℕ
edit_words editor serial text = decimal editor ++ 32 ∷ (decimal serial ++ 32 ∷ text)

-- they are read as the edit
pub edit_of-text : (editor serial : ℕ) (edit : GuideEdit) (text : List ℕ) → IsEditor editor → IsSerial serial → IsEditText text edit → edit_of (edit_words editor serial text) ≡ Some (Edit editor serial edit)
unfolding edit_of
edit_of-text editor serial edit text he hs h =
    let e_small : editor < 2 ^ 32 = omega (arith, he.1) in
    let s_small : serial < 2 ^ 32 = omega (arith, hs.1) in
    let e_low : nat_le 1 editor ≡ true = grind (arith, nat_tests, he.0) in
    let e_high : nat_le editor EDITORS ≡ true = grind (arith, nat_tests, he.1) in
    let s_low : nat_le 1 serial ≡ true = grind (arith, nat_tests, hs.0) in
    let s_high : nat_le serial LAST_SERIAL ≡ true = grind (arith, nat_tests, hs.1) in
    rw (
      split_again 32 (decimal editor) (decimal serial ++ 32 ∷ text) (decimal_clear 32 refl editor e_small),
      split_again 32 (decimal serial) text (decimal_clear 32 refl serial s_small),
      number_of-decimal editor e_small,
      number_of-decimal serial s_small,
      text_again text edit h,
      e_low,
      e_high,
      s_low,
      s_high,
    ) refl

-- the words are those of an edit of an editor under a serial
pub record IsEditWords (words : List ℕ) (line : CommandLine) : Type 0 where
  pub editor : ℕ
  pub serial : ℕ
  pub edit : GuideEdit
  pub text : List ℕ
  pub editor_is : IsEditor editor
  pub serial_is : IsSerial serial
  pub text_is : IsEditText text edit
  pub line_is : line ≡ Edit editor serial edit
  pub words_are : words ≡ edit_words editor serial text

-- words that are read as an edit are those of an edit
pub text-edit_of : (words : List ℕ) (line : CommandLine) → edit_of words ≡ Some line → IsEditWords words line
unfolding edit_of
text-edit_of words line h =
    let editor = bind_ok (split_once 32 words) _ line h in
    let serial = bind_ok (split_once 32 editor.0.1) _ line editor.2 in
    let e = bind_ok (number_of editor.0.0) _ line serial.2 in
    let s = bind_ok (number_of serial.0.0) _ line e.2 in
    let edit = bind_ok (edit_of_text serial.0.1) _ line s.2 in
    let test = cond_some (nat_le 1 e.0 && nat_le e.0 EDITORS && nat_le 1 s.0 && nat_le s.0 LAST_SERIAL) (Edit e.0 s.0 edit.0) line edit.2 in
    let s_high = and_parts (nat_le 1 e.0 && nat_le e.0 EDITORS && nat_le 1 s.0) (nat_le s.0 LAST_SERIAL) test.0 in
    let s_low = and_parts (nat_le 1 e.0 && nat_le e.0 EDITORS) (nat_le 1 s.0) s_high.0 in
    let e_parts = and_parts (nat_le 1 e.0) (nat_le e.0 EDITORS) s_low.0 in
    let second = (decimal-number_of editor.0.0 e.0 e.1).0 in
    let third = (decimal-number_of serial.0.0 s.0 s.1).0 in
    let behind = split_is 32 editor.0.1 serial.0 serial.1 ∙ ap (λ z. z ++ 32 ∷ serial.0.1) third in
    record {
      editor = e.0;
      serial = s.0;
      edit = edit.0;
      text = serial.0.1;
      editor_is = (grind (arith, nat_tests, e_parts.0), grind (arith, nat_tests, e_parts.1));
      serial_is = (grind (arith, nat_tests, s_low.1), grind (arith, nat_tests, s_high.1));
      text_is = text_read serial.0.1 edit.0 edit.1;
      line_is = sym test.1;
      words_are = split_is 32 words editor.0 editor.1 ∙ ap (λ z. z ++ 32 ∷ editor.0.1) second ∙ ap (λ z. decimal e.0 ++ 32 ∷ z) behind;
    }
