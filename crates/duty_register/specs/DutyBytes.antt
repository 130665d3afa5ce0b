-- The bytes of a duty: what stands of its frame before the commit byte behind it.
use Rattle.std.specs.Prelude.{◌≡◌, ◌==◌, ◌&&◌, ℕ, ◌+◌, ◌<◌, ◌^◌, Bool, List, [], ◌∷◌, ◌++◌, replicate, bytes_eq, Option, Some, None, is_some, if◌then◌else◌}
use Rattle.ali_base.specs.Fronts.{front, number_at, number_bytes, zero_filled}
use Rattle.ali_base.specs.NodeNames.{node_of, node_text}
use Rattle.ali_base.specs.Steps.{◌>>=◌, when}
use Rattle.ali_base.specs.declared.duty.Duty.{Duty}
use Rattle.ali_base.specs.declared.duty.Mode.{Mode}
use Rattle.ali_base.specs.declared.duty.Mode.TheVariants.{Both, Alone}

-- the letter of a mode: B or A
abbrev pub mode_letter : Mode → ℕ
mode_letter Both = 66
mode_letter Alone = 65

-- its numbers are of four bytes
abbrev pub IsDuty : Duty → Type 0
IsDuty duty = (duty.epoch < 2 ^ 32) × (duty.floor < 2 ^ 32)

-- the body of a duty's frame, of 31 bytes: epoch, letter of the holder, letter of the mode, floor and zeros; numbers have four bytes, the highest first
unfoldable pub body : Duty → List ℕ
body duty =
    zero_filled 31 (number_bytes duty.epoch ++ node_text duty.holder ++ mode_letter duty.mode ∷ number_bytes duty.floor)

-- The bytes are the body of frame k, which is this duty: frame 1 has the duty of epoch 2.
pub record IsBodyOf (k : ℕ) (duty : Duty) (bytes : List ℕ) : Type 0 where
  pub lawful : IsDuty duty
  pub counted : duty.epoch ≡ k + 1
  pub spelled : bytes ≡ body duty

-- the mode by its letter, and what is left after it
unfoldable pub mode_at : List ℕ → Option (Mode × List ℕ)
mode_at [] = None
mode_at (letter ∷ rest) = if letter == 66 then Some (Both, rest) else (if letter == 65 then Some (Alone, rest) else None)

-- the duty of which these bytes are the body of frame k
unfoldable pub duty_from : ℕ → List ℕ → Option Duty
duty_from k bytes = do
  epoch ← number_at bytes
  letter ← front 1 epoch.1
  mode ← mode_at letter.1
  floor ← number_at mode.1
  holder ← node_of letter.0
  when (bytes_eq floor.1 (replicate 21 0) && (epoch.0 == k + 1)) (record { epoch = epoch.0; holder = holder; mode = mode.0; floor = floor.0 })

-- the bytes are the body of some duty, as frame k
abbrev pub IsSomeBody : ℕ → List ℕ → Type 0
IsSomeBody k bytes = (duty : Duty) × IsBodyOf k duty bytes

-- the bytes are the body of frame k
unfoldable pub is_body : ℕ → List ℕ → Bool
is_body k bytes = is_some (duty_from k bytes)
