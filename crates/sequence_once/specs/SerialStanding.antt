-- What a guide edit is to its editor's last one, by its serial and the digest of its bytes.
use Rattle.std.specs.Prelude.{◌≡◌, ◌≢◌, ℕ, ◌+◌, ◌-◌, ◌<◌, ◌==◌, nat_lt, List, [], length, get_or, set, replicate, Option, Some, None, Result, Ok, Err, ◌↔◌, if◌then◌else◌}
use Rattle.std.specs.List.{All}
use Rattle.std.specs.Str.{bytes_eq}
use Rattle.std.specs.Borrow.{Bor}
use Rattle.ali_base.specs.Editors.{IsEditor, IsSerial}
use Rattle.ali_base.specs.declared.editor.TheConstants.{EDITORS}
use Rattle.sequence_once.specs.declared.standing.Standing.{Standing}
use Rattle.sequence_once.specs.declared.standing.Standing.TheVariants.{New, Complete}
use Rattle.sequence_once.specs.declared.standing.CycleFault.{CycleFault}
use Rattle.sequence_once.specs.declared.standing.CycleFault.TheVariants.{Gap, Differs, TooOld}

-- an editor's last edit: its serial, the digest of its bytes, and the code and the detail that it was answered
pub record EditRecord : Type 0 where
  pub serial : ℕ
  pub digest : List ℕ
  pub code : ℕ
  pub detail : ℕ

-- an edit with this serial and this digest, and what it was answered
abbrev pub answered_edit : ℕ → List ℕ → ℕ → ℕ → EditRecord
answered_edit serial digest code detail = record { serial = serial; digest = digest; code = code; detail = detail }

-- nothing, or an edit with a serial in range
abbrev pub HasSerial : Option EditRecord → Type 0
HasSerial None = Unit {0}
HasSerial (Some e) = IsSerial e.serial

-- what holds of all kept edits: a place for each editor, and serials in range
pub record AreKeptEdits (edits : List (Option EditRecord)) : Type 0 where
  pub editors : length edits ≡ EDITORS
  pub serials : All HasSerial edits

-- no editor has an edit yet
abbrev pub no_edits : List (Option EditRecord)
no_edits = replicate EDITORS None

-- the last edit of an editor; editor 1 has the first place
abbrev pub last_edit : ℕ → List (Option EditRecord) → Option EditRecord
last_edit editor edits = get_or edits (editor - 1) None

-- the serial of an editor's last edit, 0 before its first
abbrev pub last_serial : Option EditRecord → ℕ
last_serial None = 0
last_serial (Some e) = e.serial

-- the digest of an editor's last edit, empty before its first
abbrev pub last_digest : Option EditRecord → List ℕ
last_digest None = []
last_digest (Some e) = e.digest

-- an edit with the last serial: complete, or another digest
abbrev pub serial_repeated : EditRecord → List ℕ → Result Standing CycleFault
serial_repeated e digest = if bytes_eq e.digest digest then Ok Complete else Err (Differs e.digest digest)

-- the standing of an edit, by its editor's last one: the serial after the last is due, and 1 before the first; the last one is repeated; a smaller one is too old; a greater one leaves a gap
abbrev pub serial_standing : Option EditRecord → ℕ → List ℕ → Result Standing CycleFault
serial_standing None serial digest = if serial == 1 then Ok New else Err (Gap 1)
serial_standing (Some e) serial digest =
    if serial == e.serial + 1
    then Ok New
    else (if serial == e.serial
    then serial_repeated e digest
    else (if nat_lt serial e.serial then Err (TooOld e.serial) else Err (Gap (e.serial + 1))))

-- each answer on an edit comes exactly where its cause holds: the serial is the one after the last; it is the last one, with its digest or with another; it is smaller; it is greater than the one that is due
pub record HasCauses (last : Option EditRecord) (serial : ℕ) (digest : List ℕ) (answer : Result Standing CycleFault) : Type 0 where
  pub new : (answer ≡ Ok New) ↔ (serial ≡ last_serial last + 1)
  pub complete : (answer ≡ Ok Complete) ↔ ((serial ≡ last_serial last) × (digest ≡ last_digest last))
  pub differs : (answer ≡ Err (Differs (last_digest last) digest)) ↔ ((serial ≡ last_serial last) × (digest ≢ last_digest last))
  pub too_old : (answer ≡ Err (TooOld (last_serial last))) ↔ (serial < last_serial last)
  pub gap : (answer ≡ Err (Gap (last_serial last + 1))) ↔ (last_serial last + 1 < serial)

-- the other editors' last edits stay
abbrev pub OthersStay : ℕ → List (Option EditRecord) → List (Option EditRecord) → Type 0
OthersStay editor old new = (other : ℕ) → IsEditor other → other ≢ editor → last_edit other new ≡ last_edit other old

-- after an edit: it is its editor's last
abbrev pub after_serial : List (Option EditRecord) → ℕ → ℕ → List ℕ → ℕ → ℕ → List (Option EditRecord)
after_serial edits editor serial digest code detail =
    set edits (editor - 1) (Some (answered_edit serial digest code detail))

-- what a kept edit that is shown says
abbrev pub edit_record_of : ℕ × Bor (List ℕ) × ℕ × ℕ → EditRecord
edit_record_of shown = answered_edit shown.0 shown.1.now shown.2 shown.3
