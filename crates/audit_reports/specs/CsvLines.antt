-- Lines of comma-separated values.
use Rattle.std.specs.Prelude.{◌≡◌, ℕ, false, List, ◌∷◌, ◌++◌, flat_map}
use Rattle.std.specs.Global.{Vec}
use Rattle.csv.specs.Writing.{default_writer, row_text, writer_setup, writer_under, writer_pending, fields_written, has_written}
use Rattle.csv.specs.declared.writer.Writer.{Writer}

-- the fields, joined by commas, and the end of the line; a field with a comma, a quote or an end of line in it stands between quotes, and each quote in it is doubled
unfoldable pub csv_line : List (List ℕ) → List ℕ
csv_line fields = row_text default_writer fields

-- the names of the columns, and the rows
abbrev pub csv_text : List (List ℕ) → List (List (List ℕ)) → List ℕ
csv_text names rows = csv_line names ++ flat_map csv_line rows

-- what was written to a writer over memory
abbrev pub written : Writer (Vec ℕ) → List ℕ
written w = (writer_under w).items ++ writer_pending w

-- the writer writes by its defaults, and its next field is the first of a line
pub record IsAtLine (w : Writer (Vec ℕ)) : Type 0 where
  pub setup : writer_setup w ≡ default_writer
  pub fields : fields_written w ≡ 0
  pub clean : has_written w ≡ false

-- these lines were written behind what was there
pub record Writes (old new : Writer (Vec ℕ)) (lines : List ℕ) : Type 0 where
  pub ready : IsAtLine new
  pub text : written new ≡ written old ++ lines
