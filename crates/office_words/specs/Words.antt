-- What the words of the command line say.
use Rattle.std.specs.Prelude.{ℕ, ◌^◌, ◌-◌, Bool, false, not, ◌==◌, ◌&&◌, nat_lt, List, [], ◌∷◌, Option, Some, None, if◌then◌else◌, codes, slice_index, map}
use Rattle.std.specs.Str.{bytes_eq}
use Rattle.std.specs.Borrow.{Bor}
use Rattle.ali_base.specs.Columns.{is_empty}
use Rattle.ali_base.specs.Steps.{◌>>=◌, when}
use Rattle.office_words.specs.Numbers.{number_up_to}
use Rattle.office_words.specs.declared.form.TheConstants.{MOST_RECORDS}
use Rattle.office_words.specs.declared.form.Form.{Form}
use Rattle.office_words.specs.declared.form.Form.TheVariants.{Run, Format, Generate}

-- the words' bytes
abbrev pub texts : List (Bor (List ℕ)) → List (List ℕ)
texts words = map (λ word. word.now) words

-- a word that is not empty and does not begin with `-`
abbrev pub is_word : List ℕ → Bool
is_word text = not (is_empty text) && not (slice_index text 0 == 45)

-- `run DIR` and `format DIR`: the first word, and a directory
abbrev pub is_form : List ℕ → List (List ℕ) → Bool
is_form word (first ∷ dir ∷ []) = bytes_eq first word && is_word dir
is_form word words = false

abbrev pub is_run : List (List ℕ) → Bool
is_run words = is_form (codes "run") words

abbrev pub is_format : List (List ℕ) → Bool
is_format words = is_form (codes "format") words

-- `generate DIR SEED COUNT`: the first word, and three more
abbrev pub is_generate : List (List ℕ) → Bool
is_generate (first ∷ dir ∷ seed ∷ count ∷ []) =
    bytes_eq first (codes "generate") && is_word dir && is_word seed && is_word count
is_generate words = false

-- the seed is a number below 2 ^ 64, the count one from 1 to the most
abbrev pub generate_form : List ℕ → List ℕ → Option Form
generate_form seed count = do
  s ← number_up_to (2 ^ 64 - 1) seed
  n ← number_up_to MOST_RECORDS count
  when (nat_lt 0 n) (Generate s n)

-- what the third and the fourth word say
abbrev pub generated : List (List ℕ) → Option Form
generated (first ∷ dir ∷ seed ∷ count ∷ []) = generate_form seed count
generated words = None

-- what the words say, if they are one of the three forms
abbrev pub form_of : List (List ℕ) → Option Form
form_of words = if is_run words then Some Run
    else if is_format words then Some Format
    else if is_generate words then generated words
    else None
