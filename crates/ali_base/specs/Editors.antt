-- Editors of the street guide, and the serials of their edits.
use Rattle.std.specs.Prelude.{ℕ, ◌≤◌}
use Rattle.ali_base.specs.declared.editor.TheConstants.{EDITORS, LAST_SERIAL}

-- an editor: 1 to 64
abbrev pub IsEditor : ℕ → Type 0
IsEditor editor = (1 ≤ editor) × (editor ≤ EDITORS)

-- a serial: the edits of an editor are numbered one after the other, 1 to 999,999,999
abbrev pub IsSerial : ℕ → Type 0
IsSerial serial = (1 ≤ serial) × (serial ≤ LAST_SERIAL)
