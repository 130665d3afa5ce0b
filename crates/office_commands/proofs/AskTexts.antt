-- Requests and their text.
use Rattle.std.proofs.Common.{◌≡◌, ℕ, true, false, cond, ◌&&◌, ◌==◌, nat_le, List, [], ◌∷◌, ◌++◌, length, refl, ap, sym, ◌∙◌, subst, arith, Some, None}
use Rattle.std.specs.Fmt.{decimal}
use Rattle.std.specs.Char.{is_ascii_digit}
use Rattle.std.specs.List.{list_all, AllByRecursion}
use Rattle.std.proofs.lemmas.Bool.{and_parts}
use Rattle.std.proofs.lemmas.Bool.Decides.{nat_tests}
use Rattle.std.proofs.lemmas.Option.{cond_some}
use Rattle.std.proofs.lemmas.List.Elements.{recursion_from_All, All-from_recursion}
use Rattle.ali_base.specs.NodeNames.{node_of, node_text}
use Rattle.ali_base.specs.TelephoneNumber.{tn_of, IsTn, IsDigit}
use Rattle.ali_base.specs.declared.names.NodeName.{NodeName}
use Rattle.office_commands.specs.declared.command.TheConstants.{POSITIONS}
use Rattle.office_commands.specs.Commands.{IsAsk}
use Rattle.office_commands.specs.declared.command.Ask.{Ask as AnyAsk}
use Rattle.office_commands.specs.declared.command_line.CommandLine.{CommandLine}
use Rattle.office_commands.specs.declared.command_line.CommandLine.TheVariants.{Ask}
use Rattle.ali_base.proofs.NodeLetters.{node_of-text, text-node_of}
use Rattle.ali_base.proofs.Steps.{bind_ok}
use Rattle.text_line.specs.WordReading.{number_of, split_once}
use Rattle.text_line.proofs.NumberTexts.{number_of-decimal, decimal-number_of}
use Rattle.text_line.proofs.Splits.{Clear, split_again, split_is, listed_clear, decimal_clear}
use Rattle.office_commands.specs.LineReading.{ask_of}
use Rattle.office_commands.proofs.FirstWords.{node_clear}

pub tn_clear : (mark : ℕ) → is_ascii_digit mark ≡ false → (tn : List ℕ) → tn_of tn ≡ Some tn → Clear mark tn
unfolding tn_of
tn_clear mark none tn h =
    let test = cond_some ((length tn == 10) && list_all is_ascii_digit tn) tn tn h in
    listed_clear mark none tn (and_parts (length tn == 10) (list_all is_ascii_digit tn) test.0).1

IsDigit-is : (x : ℕ) → IsDigit x → is_ascii_digit x ≡ true
IsDigit-is x h = grind (arith, nat_tests)

is-IsDigit : (x : ℕ) → is_ascii_digit x ≡ true → IsDigit x
is-IsDigit x h = grind (arith, nat_tests)

digits_listed : (xs : List ℕ) → AllByRecursion IsDigit xs → list_all is_ascii_digit xs ≡ true
digits_listed [] h = refl
digits_listed (x ∷ xs) h = ap (λ b. b && list_all is_ascii_digit xs) (IsDigit-is x h.0) ∙ digits_listed xs h.1

listed_digits : (xs : List ℕ) → list_all is_ascii_digit xs ≡ true → AllByRecursion IsDigit xs
listed_digits [] h = tt
listed_digits (x ∷ xs) h = let parts = and_parts (is_ascii_digit x) (list_all is_ascii_digit xs) h in (is-IsDigit x parts.0, listed_digits xs parts.1)

-- ten digits are read as a telephone number
pub tn_of-number : (tn : List ℕ) → IsTn tn → tn_of tn ≡ Some tn
unfolding tn_of
tn_of-number tn h =
    let ten : length tn ≡ 10 = h.0 in
    let len : (length tn == 10) ≡ true = grind (arith, nat_tests) in
    ap (λ b. cond (b && list_all is_ascii_digit tn) (Some tn) None) len
    ∙ ap (λ b. cond b (Some tn) None) (digits_listed tn (recursion_from_All IsDigit tn h.1))

-- what is read as a telephone number is ten digits
pub number-tn_of : (tn : List ℕ) → tn_of tn ≡ Some tn → IsTn tn
unfolding tn_of
number-tn_of tn h =
    let parts = and_parts (length tn == 10) (list_all is_ascii_digit tn) (cond_some ((length tn == 10) && list_all is_ascii_digit tn) tn tn h).0 in
    let len : (length tn == 10) ≡ true = parts.0 in
    let ten : length tn ≡ 10 = grind (arith, nat_tests) in
    (ten, All-from_recursion IsDigit tn (listed_digits tn parts.1))

-- the words behind `ASK`
abbrev pub ask_words : NodeName → ℕ → List ℕ → ℕ → List ℕ
ask_words node p tn since = node_text node ++ 32 ∷ (decimal p ++ 32 ∷ (tn ++ 32 ∷ decimal since))

pub ask_of-text : (ask : AnyAsk) → IsAsk ask.position ask.tn ask.since → ask_of (ask_words ask.node ask.position ask.tn ask.since) ≡ Some (Ask ask)
unfolding ask_of
ask_of-text ask h =
    let node = ask.node in
    let p = ask.position in
    let tn = ask.tn in
    let since = ask.since in
    let ten : tn_of tn ≡ Some tn = tn_of-number tn h.number in
    let low : nat_le 1 p ≡ true = grind (arith, nat_tests, h.low) in
    let high : nat_le p POSITIONS ≡ true = grind (arith, nat_tests, h.high) in
    rw (
      split_again 32 (node_text node) (decimal p ++ 32 ∷ (tn ++ 32 ∷ decimal since)) (node_clear 32 refl refl node),
      split_again 32 (decimal p) (tn ++ 32 ∷ decimal since) (decimal_clear 32 refl p (omega (arith, h.high))),
      split_again 32 tn (decimal since) (tn_clear 32 refl tn ten),
      node_of-text node,
      number_of-decimal p (omega (arith, h.high)),
      ten,
      number_of-decimal since h.small,
      low,
      high,
    ) refl

tn_is : (bytes tn : List ℕ) → tn_of bytes ≡ Some tn → (bytes ≡ tn) × (tn_of tn ≡ Some tn)
unfolding tn_of
tn_is bytes tn h =
    let test = cond_some ((length bytes == 10) && list_all is_ascii_digit bytes) bytes tn h in
    let same : bytes ≡ tn = test.1 in
    (same, subst (λ (z : List ℕ). tn_of z ≡ Some tn) same h)

-- the words are those of a request
pub record IsAskWords (words : List ℕ) (line : CommandLine) : Type 0 where
  pub ask : AnyAsk
  pub lawful : IsAsk ask.position ask.tn ask.since
  pub line_is : line ≡ Ask ask
  pub words_are : words ≡ ask_words ask.node ask.position ask.tn ask.since

pub ask-ask_of : (words : List ℕ) (line : CommandLine) → ask_of words ≡ Some line → IsAskWords words line
unfolding ask_of
ask-ask_of words line h =
    let b = bind_ok (split_once 32 words) _ line h in
    let d = bind_ok (split_once 32 b.0.1) _ line b.2 in
    let e = bind_ok (split_once 32 d.0.1) _ line d.2 in
    let node = bind_ok (node_of b.0.0) _ line e.2 in
    let n = bind_ok (number_of d.0.0) _ line node.2 in
    let t = bind_ok (tn_of e.0.0) _ line n.2 in
    let s = bind_ok (number_of e.0.1) _ line t.2 in
    let found : AnyAsk = record { node = node.0; position = n.0; tn = t.0; since = s.0 } in
    let w = cond_some (nat_le 1 n.0 && nat_le n.0 POSITIONS) (Ask found) line s.2 in
    let both = and_parts (nat_le 1 n.0) (nat_le n.0 POSITIONS) w.0 in
    let p = decimal-number_of d.0.0 n.0 n.1 in
    let tn = tn_is e.0.0 t.0 t.1 in
    let since = decimal-number_of e.0.1 s.0 s.1 in
    let last : e.0.0 ++ 32 ∷ e.0.1 ≡ t.0 ++ 32 ∷ decimal s.0 = ap (λ z. z ++ 32 ∷ e.0.1) tn.0 ∙ ap (λ z. t.0 ++ 32 ∷ z) since.0 in
    let third : d.0.0 ++ 32 ∷ d.0.1 ≡ decimal n.0 ++ 32 ∷ (t.0 ++ 32 ∷ decimal s.0) = ap (λ z. z ++ 32 ∷ d.0.1) p.0 ∙ ap (λ z. decimal n.0 ++ 32 ∷ z) (split_is 32 d.0.1 e.0 e.1 ∙ last) in
    let second : b.0.0 ++ 32 ∷ b.0.1 ≡ ask_words node.0 n.0 t.0 s.0 = ap (λ z. z ++ 32 ∷ b.0.1) (text-node_of b.0.0 node.0 node.1) ∙ ap (λ z. node_text node.0 ++ 32 ∷ z) (split_is 32 b.0.1 d.0 d.1 ∙ third) in
    record {
      ask = found;
      lawful = record { low = grind (arith, nat_tests, both.0); high = grind (arith, nat_tests, both.1); number = number-tn_of t.0 tn.1; small = since.1 };
      line_is = sym w.1;
      words_are = split_is 32 words b.0 b.1 ∙ second;
    }
