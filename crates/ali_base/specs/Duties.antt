-- Duties.
use Rattle.std.specs.Prelude.{ℕ, ◌+◌}
use Rattle.ali_base.specs.declared.duty.Duty.{Duty}
use Rattle.ali_base.specs.declared.duty.Mode.{Mode}
use Rattle.ali_base.specs.declared.duty.Mode.TheVariants.{Both}
use Rattle.ali_base.specs.declared.names.NodeName.{NodeName}
use Rattle.ali_base.specs.declared.names.NodeName.TheVariants.{A}

-- the duty before any change
abbrev pub first_duty : Duty
first_duty = record { epoch = 1; holder = A; mode = Both; floor = 0 }

-- the duty after this one, of the next epoch
abbrev pub next_duty : Duty → NodeName → Mode → ℕ → Duty
next_duty duty holder mode floor = record { epoch = duty.epoch + 1; holder = holder; mode = mode; floor = floor }
