-- Each answer on an edit comes exactly where its cause holds.
use Rattle.std.proofs.Common.{◌≡◌, ℕ, ◌≤◌, List, Option, Some, None, Result, ap, sym, ◌∙◌, subst, arith}
use Rattle.std.proofs.lemmas.Bool.Decides.{nat_tests}
use Rattle.std.proofs.lemmas.Slice.Eq.{bytes_eq-Decides}
use Rattle.sequence_once.specs.SerialStanding.{EditRecord, HasCauses, serial_standing}
use Rattle.sequence_once.specs.declared.standing.Standing.{Standing}
use Rattle.sequence_once.specs.declared.standing.CycleFault.{CycleFault}

first : (serial : ℕ) (digest : List ℕ) → 1 ≤ serial → HasCauses None serial digest (serial_standing None serial digest)
first serial digest some = record {
  new = (λ h. grind (arith, nat_tests, h), λ h. grind (arith, nat_tests, h));
  complete = (λ h. grind (arith, nat_tests, h), λ h. grind (arith, nat_tests, h.0));
  differs = (λ h. grind (arith, nat_tests, h), λ h. grind (arith, nat_tests, h.0));
  too_old = (λ h. grind (arith, nat_tests, h), λ h. grind (arith, nat_tests, h));
  gap = (λ h. grind (arith, nat_tests, h, some), λ h. grind (arith, nat_tests, h));
}

later : (e : EditRecord) (serial : ℕ) (digest : List ℕ) → HasCauses (Some e) serial digest (serial_standing (Some e) serial digest)
later e serial digest = record {
  new = (λ h. grind (arith, nat_tests, h), λ h. grind (arith, nat_tests, h));
  complete = (λ h. (grind (arith, nat_tests, h), grind (arith, nat_tests, bytes_eq-Decides e.digest digest, h)), λ h. grind (arith, nat_tests, bytes_eq-Decides e.digest digest, h.0, h.1));
  differs = (λ h. (grind (arith, nat_tests, h), λ same. grind (arith, nat_tests, bytes_eq-Decides e.digest digest, h, same)), λ h. grind (arith, nat_tests, bytes_eq-Decides e.digest digest, h.0, h.1));
  too_old = (λ h. grind (arith, nat_tests, h), λ h. grind (arith, nat_tests, h));
  gap = (λ h. grind (arith, nat_tests, h), λ h. grind (arith, nat_tests, h));
}

pub serial_causes : (last : Option EditRecord) (serial : ℕ) (digest : List ℕ) → 1 ≤ serial → HasCauses last serial digest (serial_standing last serial digest)
serial_causes None serial digest some = first serial digest some
serial_causes (Some e) serial digest some = later e serial digest

-- of an answer by the table
pub causes_of : (read last : Option EditRecord) (serial : ℕ) (digest : List ℕ) (result : Result Standing CycleFault) → read ≡ last → result ≡ serial_standing read serial digest → 1 ≤ serial → HasCauses last serial digest result
causes_of read last serial digest result same table some =
    let told : result ≡ serial_standing last serial digest = table ∙ ap (λ (o : Option EditRecord). serial_standing o serial digest) same in
    subst (λ (r : Result Standing CycleFault). HasCauses last serial digest r) (sym told) (serial_causes last serial digest some)
