-- How an office counts its entries, one after the other.
use Rattle.std.specs.Prelude.{◌≡◌, ℕ, ◌+◌, ◌≤◌, List, length, replicate, set, slice_index}
use Rattle.office_entry.specs.declared.entry.Entry.{Entry}
use Rattle.office_entry.specs.declared.entry.Entry.TheVariants.{Open, Line, Edit}
use Rattle.office_state.specs.declared.counts.Counts.{Counts}
use Rattle.office_state.specs.declared.counts.TheConstants.{CODES}

-- no code was got yet
unfoldable pub no_codes : List ℕ
no_codes = replicate CODES 0

-- nothing was counted yet
abbrev pub no_counts : Counts
no_counts = record { opens = 0; lines = 0; edits = 0; codes = no_codes }

-- a code was got once more
abbrev pub with_code : List ℕ → ℕ → List ℕ
with_code codes code = set codes code (slice_index codes code + 1)

-- an entry more, which got this code; that of an opening is not counted
abbrev pub counted : Counts → Entry → ℕ → Counts
counted counts (Open company cycle count day digest) code = record counts { opens = counts.opens + 1 }
counted counts (Line company cycle line bytes) code = record counts { lines = counts.lines + 1; codes = with_code counts.codes code }
counted counts (Edit editor serial edit) code = record counts { edits = counts.edits + 1; codes = with_code counts.codes code }

-- what holds of all counts of so many entries: there is one for each code, each entry is of one kind, and no code was got more often than there are entries
pub record AreSoundCounts (counts : Counts) (entries : ℕ) : Type 0 where
  pub places : length counts.codes ≡ CODES
  pub kinds : counts.opens + counts.lines + counts.edits ≡ entries
  pub codes : (code : ℕ) → slice_index counts.codes code ≤ entries
