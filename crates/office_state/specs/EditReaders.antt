-- What is shown of an editor's last edit.
use Rattle.std.specs.Prelude.{ℕ}
use Rattle.sequence_once.specs.SerialStanding.{EditRecord}
use Rattle.office_state.specs.declared.verdict.Verdict.{Verdict}

-- its serial, and what it got
abbrev pub edit_shown : EditRecord → ℕ × Verdict
edit_shown e = (e.serial, record { code = e.code; detail = e.detail })
