use Rattle.std.proofs.Common.{◌≡◌, take}
use Rattle.std.specs.Str.Parse.{digits_value, AllDigits}
use Rattle.ali_base.proofs.fields.digits_number.Given as goal

abbrev pub invariant-loop-b : goal.invariant-loop-b
invariant-loop-b l = record {
  value : l.value ≡ digits_value 10 (take l.b-index l.bytes);
  digits : AllDigits 10 (take l.b-index l.bytes);
}
