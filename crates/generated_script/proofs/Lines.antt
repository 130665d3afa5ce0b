-- The lengths of lines and of files.
use Rattle.std.proofs.Common.{◌≡◌, ℕ, zero, suc, ◌+◌, ◌-◌, ◌*◌, ◌^◌, ◌<◌, ◌≤◌, List, [], ◌∷◌, ◌++◌, length, replicate, refl, arith, length-append}
use Rattle.std.proofs.lemmas.Fmt.{length-decimal-le}
use Rattle.std.proofs.lemmas.List.{length-replicate}
use Rattle.ali_base.specs.StreetKey.{padded_to}
use Rattle.generated_script.specs.GeneratedScript.{file_of, header_columns, header_line, house_of, in_columns, line_of, record_columns, record_line, record_lines, record_text, street_of, trailer_columns, trailer_line}
use Rattle.generated_script.proofs.Digits.{length-zero_padded}

-- each text fits its column
abbrev Fit : List (ℕ × List ℕ) → Type 0
Fit [] = Unit {0}
Fit (column ∷ columns) = (length column.1 ≤ column.0) × Fit columns

-- how wide the columns are
abbrev widths : List (ℕ × List ℕ) → ℕ
widths [] = 0
widths (column ∷ columns) = column.0 + widths columns

length-padded_to : (width : ℕ) (text : List ℕ) → length text ≤ width → length (padded_to width text) ≡ width
length-padded_to width text h = omega (arith, length-append text (replicate (width - length text) 32), length-replicate {A = ℕ} (width - length text) 32)

length-in_columns : (columns : List (ℕ × List ℕ)) → Fit columns → length (in_columns columns) ≡ widths columns
unfolding in_columns
length-in_columns [] h = refl
length-in_columns (column ∷ columns) h =
    omega (arith, length-append (padded_to column.0 column.1) (in_columns columns), length-padded_to column.0 column.1 h.0, length-in_columns columns h.1)

length-line_of : (columns : List (ℕ × List ℕ)) → Fit columns → length (line_of columns) ≡ widths columns + 1
length-line_of columns h = omega (arith, length-append (in_columns columns) (10 ∷ []), length-in_columns columns h)

length-header_line : (j : ℕ) → j < 10 ^ 6 → length (header_line j) ≡ 513
unfolding header_line
length-header_line j h =
    let width = length-zero_padded 6 j (omega arith) h (omega arith) in
    length-line_of (header_columns j) (omega arith, (omega (arith, width), (omega arith, (omega arith, tt))))

length-trailer_line : (n : ℕ) → n < 10 ^ 9 → length (trailer_line n) ≡ 513
unfolding trailer_line
length-trailer_line n h =
    let width = length-zero_padded 9 n (omega arith) h (omega arith) in
    length-line_of (trailer_columns n) (omega arith, (omega (arith, width), (omega arith, tt)))

length-record_text : (i house street : ℕ) → i < 10 ^ 9 → house < 10 ^ 9 → street < 10 ^ 9 → length (record_text i house street) ≡ 513
unfolding record_text
length-record_text i house street hi hh hs =
    let number = length-zero_padded 9 i (omega arith) hi (omega arith) in
    let i_digits = length-decimal-le 9 i (omega arith) hi (omega arith) in
    let house_digits = length-decimal-le 9 house (omega arith) hh (omega arith) in
    let street_digits = length-decimal-le 9 street (omega arith) hs (omega arith) in
    length-line_of (record_columns i house street) (
      omega arith,
      (
        omega (arith, number),
        (
          omega (arith, house_digits),
          (
            omega (arith, street_digits),
            (
              omega arith,
              (
                omega arith,
                (
                  omega arith,
                  (
                    omega (arith, i_digits),
                    (
                      omega arith,
                      (
                        omega (arith, number),
                        (
                          omega arith,
                          (
                            omega arith,
                            (omega arith, tt),
                          ),
                        ),
                      ),
                    ),
                  ),
                ),
              ),
            ),
          ),
        ),
      ),
    )

length-record_line : (seed i : ℕ) → i < 10 ^ 9 → length (record_line seed i) ≡ 513
length-record_line seed i h = length-record_text i (house_of seed i) (street_of seed i) h (omega arith) (omega arith)

length-record_lines : (seed before n : ℕ) → before + n < 10 ^ 9 → length (record_lines seed before n) ≡ 513 * n
unfolding record_lines
length-record_lines seed before zero h = refl
length-record_lines seed before (suc n) h =
    omega (arith, length-append (record_lines seed before n) (record_line seed (before + suc n)), length-record_lines seed before n (omega arith), length-record_line seed (before + suc n) h)

-- the length of a file
pub length-file_of : (seed j before n : ℕ) → j < 10 ^ 6 → before + n < 10 ^ 9 → length (file_of seed j before n) ≡ 513 * (n + 2)
length-file_of seed j before n hj hn =
    omega (arith, length-append (header_line j) (record_lines seed before n ++ trailer_line n), length-append (record_lines seed before n) (trailer_line n), length-header_line j hj, length-record_lines seed before n hn, length-trailer_line n (omega arith))
