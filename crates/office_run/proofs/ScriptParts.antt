-- Lists of commands that grow part by part, as the streets and the files of the generated script do.
use Rattle.std.proofs.Common.{◌≡◌, inl, inr, ℕ, suc, zero, ◌+◌, ◌*◌, ◌≤◌, List, [], ◌++◌, length, ap, sym, ◌∙◌, arith, append-nil, append_assoc, length-append}
use Rattle.generated_script.specs.GeneratedScript.{file_commands, files, files_for, generated, street_commands, streets}
use Rattle.generated_script.specs.declared.script.TheConstants.{STREETS}
use Rattle.office_commands.specs.Commands.{Command}
use Rattle.pair_world.proofs.Items.{within_or_next}

module _ (parts step : ℕ → List Command) (grows : (n : ℕ) → parts (suc n) ≡ parts n ++ step (suc n)) where
  pub part_more : (n : ℕ) → parts (n + 1) ≡ parts n ++ step (n + 1)
  part_more n =
      let next : n + 1 ≡ suc n = omega arith in
      ap parts next ∙ grows n ∙ ap (λ z. parts n ++ step z) (sym next)

  -- fewer parts are at the front
  pub front_of : (i n : ℕ) → i ≤ n → (rest : List Command) × (parts n ≡ parts i ++ rest)
  front_of i zero fewer =
      let same : zero ≡ i = omega arith in
      ([], ap parts same ∙ sym (append-nil (parts i)))
  front_of i (suc n) fewer =
      elim (within_or_next i n fewer) [
        | inl within ↦ let front = front_of i n within in (front.0 ++ step (suc n), grows n ∙ ap (λ z. z ++ step (suc n)) front.1 ∙ append_assoc (parts i) front.0 (step (suc n)))
        | inr same ↦ ([], ap parts (sym same) ∙ sym (append-nil (parts i)))
      ]

length-streets : (n : ℕ) → length (streets n) ≡ 2 * n
unfolding streets
length-streets zero = omega arith
length-streets (suc n) = omega (arith, length-streets n, length-append (streets n) (street_commands (suc n)))

length-files : (seed count n : ℕ) → length (files seed count n) ≡ 4 * n
unfolding files
length-files seed count zero = omega arith
length-files seed count (suc n) = omega (arith, length-files seed count n, length-append (files seed count n) (file_commands seed count (suc n)))

-- how many commands there are
pub length-generated : (seed count : ℕ) → length (generated seed count) ≡ 2 * STREETS + 4 * files_for count
length-generated seed count =
    omega (arith, length-streets STREETS, length-files seed count (files_for count), length-append (streets STREETS) (files seed count (files_for count)))
