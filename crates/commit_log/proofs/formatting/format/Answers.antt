use Rattle.std.proofs.Common.{◌≡◌, ◌++◌, ◌∷◌, [], ℕ, Bool, List, length, refl, ap, sym, ◌∙◌, arith, subst}
use Rattle.std.specs.Prelude.{IfSome}
use Rattle.std.proofs.lemmas.List.{append-nil, drop_all, nil_from_length}
use Rattle.crash_disk.specs.CrashOutcomes.{written}
use Rattle.crash_disk.proofs.TornBytes.{written_at}
use Rattle.commit_log.specs.LogImage.{StandsFor, committed}
use Rattle.commit_log.specs.LogState.{body_of}
use Rattle.commit_log.proofs.formatting.format.Goals as goal

-- the first block alone stands for no bodies
formatted : (is_body : ℕ → List ℕ → Bool) (head block f : List ℕ) → f ≡ [] → block ≡ head ++ 0 ∷ [] → StandsFor is_body head [] (written 0 block f)
formatted is_body head block f none is = record {
  next = 0;
  rest = [];
  parts =
      ap (written 0 block) none
      ∙ written_at 0 [] block [] refl
      ∙ ap (λ (l : List ℕ). block ++ l) (drop_all (length block) [] (omega arith))
      ∙ append-nil block
      ∙ is
      ∙ ap (λ (l : List ℕ). l ++ 0 ∷ []) (sym (append-nil head));
  uncommitted = λ (zero_is : 0 ≡ committed). omega (arith, zero_is);
  lawful = tt;
}

pub returns-in-Ok-write_durably-clause-answer : goal.returns-in-Ok-write_durably-clause-answer
returns-in-Ok-write_durably-clause-answer g c f told =
    let counted = subst (λ o. IfSome o (λ f. c.in-Ok-eq0.field-0 ≡ length f)) told c.in-Ok-eq0.ensures.len in
    let none : f ≡ [] = nil_from_length f (omega (arith, counted, c.in-Ok-eq0.field-0-test)) in (
      none,
      record {
        image = _;
        synced = c.in-Ok-write_durably.ensures.synced f (c.in-Ok-eq0.ensures.stays.content ∙ told);
        stands = formatted g.R.BodyReader.is_body (body_of c.args.block.now) c.uncommit_next.new.block f none c.uncommit_next.ensures;
      },
    )
