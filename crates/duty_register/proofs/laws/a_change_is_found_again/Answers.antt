use Rattle.std.proofs.Common.{◌≡◌, ◌⊎◌, inl, inr, ℕ, List, sym, subst, ◌∙◌}
use Rattle.std.proofs.lemmas.Option.{same_Some}
use Rattle.crash_disk.proofs.Runs.{now_too}
use Rattle.ali_base.specs.declared.duty.Duty.{Duty}
use Rattle.duty_register.specs.DutyImage.{StandsFor}
use Rattle.duty_register.specs.DutyState.{StandsForEither}
use Rattle.duty_register.proofs.laws.a_change_is_found_again.Goals as goal

by_case : (image : List ℕ) (before after duties : List Duty) → ((a b : List Duty) → StandsFor a image → StandsFor b image → a ≡ b) → StandsFor duties image → StandsForEither before after image → (duties ≡ before) ⊎ (duties ≡ after)
by_case image before after duties one stands (inl old) = inl (one duties before stands old)
by_case image before after duties one stands (inr new) = inr (one duties after stands new)

pub returns : goal.returns
returns g c old new last_epoch register before after duties image run told opened shown =
    let state = g.D.Disk.state in
    let sound = g.met.D.Disk.sound new in
    let either = now_too (state old) (state new) (StandsForEither before after) sound run image (sound.as_read image told) in
    let there : shown.kept.image ≡ image = same_Some shown.kept.image image (sym shown.kept.synced.told ∙ opened.stays.content ∙ told) in
    by_case image before after duties (λ a b. c.duties_are_known_from_the_image.ensures image a b) (subst (StandsFor duties) there shown.kept.stands) either
