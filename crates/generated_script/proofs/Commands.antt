-- What is generated is commands.
use Rattle.std.proofs.Common.{◌≡◌, ℕ, zero, suc, ◌-◌, ◌^◌, ◌<◌, ◌≤◌, true, [], ◌++◌, length, Some, refl, arith}
use Rattle.std.specs.Prelude.{codes}
use Rattle.std.specs.Fmt.{decimal}
use Rattle.std.specs.List.{All}
use Rattle.std.proofs.lemmas.Fmt.{length-decimal-le}
use Rattle.std.proofs.lemmas.List.Elements.{All-append, All-from_recursion}
use Rattle.office_commands.specs.Commands.{IsCommand}
use Rattle.office_commands.specs.declared.command.TheConstants.{FILE_LIMIT}
use Rattle.office_entry.specs.EditKeys.{edit_key, is_edit_key, IsEditKey}
use Rattle.office_entry.specs.Edits.{IsEdit}
use Rattle.office_entry.specs.EditText.{AreStreetTexts, key_of, StreetTexts}
use Rattle.office_entry.proofs.Options.{when_true}
use Rattle.office_entry.proofs.StreetTexts.{Fit, key_lawful, key_of_lawful}
use Rattle.generated_script.specs.GeneratedScript.{file_commands, file_text, files, files_for, generated, key_of_street, records_in, street_commands, street_edit, streets}
use Rattle.generated_script.specs.declared.script.TheConstants.{MOST_RECORDS, STREETS}
use Rattle.generated_script.proofs.Digits.{decimal_sent, number_is}
use Rattle.generated_script.proofs.Lines.{length-file_of}

-- the texts of a street
abbrev texts_of : ℕ → StreetTexts
texts_of s = record { community = codes "TESTTOWN"; state = codes "CO"; prefix = []; name = codes "STREET " ++ decimal s; suffix = codes "ST"; post = [] }

name_fits : (s : ℕ) → s < 10 ^ 9 → length (codes "STREET " ++ decimal s) ≤ 60
name_fits s small = omega (arith, length-decimal-le 9 s (omega arith) small (omega arith))

are_texts : (s : ℕ) → s < 10 ^ 9 → AreStreetTexts (texts_of s)
are_texts s small = record {
  community = record { fits = omega arith; bytes = refl };
  state = record { fits = omega arith; bytes = refl };
  prefix = record { fits = omega arith; bytes = refl };
  name = record { fits = name_fits s small; bytes = decimal_sent s (omega arith) };
  suffix = record { fits = omega arith; bytes = refl };
  post = record { fits = omega arith; bytes = refl };
}

key_may_be : (s : ℕ) → s < 10 ^ 9 → is_edit_key (key_of (texts_of s)) ≡ true
key_may_be s small = key_of_lawful (texts_of s) (are_texts s small)

-- an edit may have the key of a street
pub edit_key-street : (s : ℕ) → s < 10 ^ 9 → edit_key (key_of_street s) ≡ Some (key_of_street s)
edit_key-street s small = when_true (is_edit_key (key_of_street s)) (key_of_street s) (key_may_be s small)

key_is : (s : ℕ) → s < 10 ^ 9 → IsEditKey (key_of (texts_of s))
key_is s small =
    let fit : Fit (texts_of s) = record { community = omega arith; state = omega arith; prefix = omega arith; name = name_fits s small; suffix = omega arith; post = omega arith } in
    key_lawful (texts_of s) fit (key_may_be s small)

-- the edit of a street is an edit
pub edit_is : (s : ℕ) → s ≤ STREETS → IsEdit (street_edit s)
edit_is s small = record { street = key_is s (omega arith); low_end = omega arith; high_end = omega arith; number = omega arith }

pub street_is : (s : ℕ) → 1 ≤ s → s ≤ STREETS → All IsCommand (street_commands s)
street_is s some small = All-from_recursion IsCommand (street_commands s) (((omega arith, omega arith), (omega arith, omega arith), edit_is s small), (tt, tt))

streets_are : (n : ℕ) → n ≤ STREETS → All IsCommand (streets n)
unfolding streets
streets_are zero h = All-from_recursion IsCommand [] tt
streets_are (suc s) h = All-append IsCommand (streets s) (street_commands (suc s)) (streets_are s (omega arith)) (street_is (suc s) (omega arith) h)

-- files are not too long
file_fits : (seed count j : ℕ) → count ≤ MOST_RECORDS → j ≤ files_for count → length (file_text seed count j) ≤ FILE_LIMIT
unfolding file_text
file_fits seed count j most files =
    omega (arith, length-file_of seed j (records_in count (j - 1)) (records_in count j - records_in count (j - 1)) (omega arith) (omega arith))

pub file_is : (seed count j : ℕ) → count ≤ MOST_RECORDS → j ≤ files_for count → All IsCommand (file_commands seed count j)
file_is seed count j most files =
    let number = number_is (records_in count j) (omega arith) in
    All-from_recursion IsCommand (file_commands seed count j) (
      file_fits seed count j most files,
      (
        tt,
        (
          record { low = omega arith; high = omega arith; number = number; small = omega arith },
          (record { low = omega arith; high = omega arith; number = number; small = omega arith }, tt),
        ),
      ),
    )

files_are : (seed count n : ℕ) → count ≤ MOST_RECORDS → n ≤ files_for count → All IsCommand (files seed count n)
unfolding files
files_are seed count zero most h = All-from_recursion IsCommand [] tt
files_are seed count (suc j) most h =
    All-append IsCommand (files seed count j) (file_commands seed count (suc j)) (files_are seed count j most (omega arith)) (file_is seed count (suc j) most h)

pub all_commands : (seed count : ℕ) → count ≤ MOST_RECORDS → All IsCommand (generated seed count)
all_commands seed count most =
    All-append IsCommand (streets STREETS) (files seed count (files_for count)) (streets_are STREETS (omega arith)) (files_are seed count (files_for count) most (omega arith))
