-- What an open register represents, and what its log does.
use Rattle.std.proofs.Common.{◌≡◌, ℕ, ◌+◌, ◌-◌, true, List, [], ◌∷◌, ◌++◌, length, map, Some, refl, sym, ap, subst, ◌∙◌, arith}
use Rattle.std.proofs.lemmas.List.{length-map}
use Rattle.std.proofs.lemmas.Option.{same_Some}
use Rattle.ali_base.specs.declared.duty.Duty.{Duty}
use Rattle.commit_log.specs.LogImage.{AreBodies}
use Rattle.commit_log.specs.LogImage as log_image
use Rattle.commit_log.specs.LogState as kept
use Rattle.commit_log.specs.Opening as opens
use Rattle.commit_log.specs.declared.opening.OpenFault.{OpenFault}
use Rattle.commit_log.specs.declared.opening.OpenFault.TheVariants as failing
use Rattle.commit_log.specs.OpenLog as log
use Rattle.commit_log.specs.declared.log.Log.{Log}
use Rattle.crash_disk.specs.DiskState.{DiskState}
use Rattle.crash_disk.specs.Moments.{EachMoment}
use Rattle.ali_base.specs.Duties.{first_duty}
use Rattle.duty_register.specs.DutiesRead.{AreReadUpTo, EndsWith}
use Rattle.duty_register.specs.DutyBytes.{IsDuty, body, is_body}
use Rattle.duty_register.specs.DutyImage.{AreChanges, StandsFor, first_block}
use Rattle.duty_register.specs.DutyState.{KeepsDuties, StandsForEither, with_duty}
use Rattle.duty_register.specs.OpenRegister.{Represents, Refused, refusal, disk_of, duty_of, is_usable}
use Rattle.duty_register.specs.declared.last_duty.LastDuty.{LastDuty}
use Rattle.duty_register.specs.declared.register.Register.{Register}
use Rattle.duty_register.proofs.Registers.{changes_are, changes_push, bodies_push, last_counts, as_log, from_log, moments}

pub length-first_block : length first_block ≡ 31
unfolding first_block
length-first_block = refl

-- ---- a change of duty

module _ {D : Type 0} (state : D → DiskState) (register : Register D) (duties : List Duty) (usable : is_usable register ≡ true) (shown : Represents state register duties) where
  abbrev pub changes : List Duty
  changes = shown.kept.stands.changes

  pub counted : log.count_of register.log ≡ length changes
  counted =
      let last = last_counts first_duty 1 changes shown.known.0 (duty_of register) refl shown.kept.stands.counted (sym shown.kept.stands.begins ∙ shown.known.1) in
      omega (arith, last, register.counted usable)

  -- as a log
  pub logged : log.Represents is_body state first_block (map body changes) register.log
  logged = record {
    kept = as_log duties (state (disk_of register)) shown.kept;
    counts = counted ∙ sym (length-map changes body);
    long = register.body_len ∙ sym length-first_block;
  }

  module _ (duty : Duty) (lawful : IsDuty duty) (next : duty.epoch ≡ (duty_of register).epoch + 1) (bytes : List ℕ) (spelled : bytes ≡ body duty) where
    pub begins : with_duty duties duty ≡ first_duty ∷ (changes ++ duty ∷ [])
    begins = ap (λ (l : List Duty). l ++ duty ∷ []) shown.kept.stands.begins

    pub pushed : AreChanges 1 (changes ++ duty ∷ [])
    pushed = changes_push 1 changes duty shown.kept.stands.counted lawful (omega (arith, next, counted, register.counted usable))

    pub bodies : kept.with_body (map body changes) bytes ≡ map body (changes ++ duty ∷ [])
    bodies = ap (λ (b : List ℕ). map body changes ++ b ∷ []) spelled ∙ sym (bodies_push changes duty)

    -- it keeps one duty more
    pub kept_after : (s : DiskState) → kept.KeepsBodies is_body first_block (kept.with_body (map body changes) bytes) s → KeepsDuties (with_duty duties duty) s
    kept_after s after = from_log (with_duty duties duty) (changes ++ duty ∷ []) (kept.with_body (map body changes) bytes) s begins pushed bodies after

    pub moments_of : (new : DiskState) → EachMoment (state (disk_of register)) new (kept.StandsForEither is_body first_block (map body changes) (kept.with_body (map body changes) bytes))
        → EachMoment (state (disk_of register)) new (StandsForEither duties (with_duty duties duty))
    moments_of new run =
        moments duties (with_duty duties duty) changes (changes ++ duty ∷ []) (kept.with_body (map body changes) bytes) (state (disk_of register)) new shown.kept.stands.begins shown.kept.stands.counted begins pushed bodies run

-- ---- what an opening found

-- the duties that a disk was found to stand for
pub record Shown {D : Type 0} (state : D → DiskState) (image : List ℕ) (duty : Duty) (disk : D) : Type 0 where
  pub duties : List Duty
  pub stands : StandsFor duties image
  pub kept : KeepsDuties duties (state disk)
  pub known : EndsWith duties duty

module _ {D : Type 0} (state : D → DiskState) (disk : D) (limit : ℕ) (head : List ℕ) (duty : Duty) (is : head ≡ first_block) (opened : Log D LastDuty)
    (found : log.IsOpened is_body state (AreReadUpTo duty) head limit disk opened) where
  abbrev read : List Duty
  read = found.found.held.changes

  read_counted : AreChanges 1 read
  read_counted = changes_are (length head) 1 read found.found.held.lawful (subst (AreBodies is_body (length head) 1) found.found.held.bodies_are found.found.lawful)

  pub counts : duty.epoch ≡ log.count_of opened + 1
  counts =
      let last = last_counts first_duty 1 read found.found.held.last.0 duty refl read_counted found.found.held.last.1 in
      omega (arith, last, found.found.counts, ap length found.found.held.bodies_are, length-map read body)

  pub shown_duties : (image : List ℕ) → (state disk).content ≡ Some image → Shown state image duty (log.disk_of opened)
  shown_duties image told =
      let kept = from_log (first_duty ∷ read) read found.found.bodies (state (log.disk_of opened)) refl read_counted found.found.held.bodies_are (subst (λ (h : List ℕ). kept.KeepsBodies is_body h found.found.bodies (state (log.disk_of opened))) is (found.found.kept image told)) in
      record {
        duties = first_duty ∷ read;
        stands = subst (StandsFor (first_duty ∷ read)) (same_Some kept.image image (sym kept.synced.told ∙ found.stays.content ∙ told)) kept.stands;
        kept = kept;
        known = found.found.held.last;
      }

pub refused : (last_epoch limit : ℕ) (head : List ℕ) (old new : DiskState) (fault : OpenFault) → limit ≡ last_epoch - 1 → head ≡ first_block → opens.Refused is_body head limit old new fault → Refused last_epoch old new (refusal fault)
refused last_epoch limit head old new failing.DiskFault less is cause = cause
refused last_epoch limit head old new failing.Foreign less is cause = λ image told. subst (λ (h : List ℕ). log_image.IsForeign h image) is (cause image told)
refused last_epoch limit head old new (failing.Damaged k) less is cause = λ image told.
    subst (λ (n : ℕ). log_image.IsDamaged is_body first_block n k image) less (subst (λ (h : List ℕ). log_image.IsDamaged is_body h limit k image) is (cause image told))
