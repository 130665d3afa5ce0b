-- Steps that may give nothing.
use Rattle.std.specs.Prelude.{Option, Some, None, Bool, if◌then◌else◌, option_and_then}

infixl 10 ◌>>=◌
abbrev pub ◌>>=◌ : {A B : Type 0} → Option A → (A → Option B) → Option B
o >>= f = option_and_then f o

-- the value where the test passes
abbrev pub when : {A : Type 0} → Bool → A → Option A
when b x = if b then Some x else None
