-- Steps that may give nothing.
use Rattle.std.proofs.Common.{◌≡◌, Option, Some, None, option_and_then, refl, ap, ◌∙◌}

-- a step that gave something
pub bind_ok : {A B : Type 0} (o : Option A) (f : A → Option B) (y : B) → option_and_then f o ≡ Some y → (x : A) × (o ≡ Some x) × (f x ≡ Some y)
bind_ok (Some x) f y h = (x, refl, h)
bind_ok None f y h = cc

pub bind_some : {A B : Type 0} (o : Option A) (x : A) (f : A → Option B) (r : Option B) → o ≡ Some x → f x ≡ r → option_and_then f o ≡ r
bind_some o x f r h k = ap (λ z. option_and_then f z) h ∙ k

pub some_is : {A : Type 0} (x y : A) → ◌≡◌ {A = Option A} (Some x) (Some y) → x ≡ y
some_is x y h = cc
