use Rattle.std.proofs.Common.{inl, inr, ℕ, ◌-◌, ◌≤◌, List, ◌∷◌, length, map, refl, ap, arith}
use Rattle.ali_base.specs.Fronts.{AreBytes}
use Rattle.std.proofs.lemmas.List.{length-map}
use Rattle.commit_log.specs.LogImage as log
use Rattle.ali_base.specs.Duties.{first_duty}
use Rattle.duty_register.specs.DutyBytes.{body, is_body}
use Rattle.duty_register.specs.DutyImage.{StandsForSome, first_block}
use Rattle.duty_register.proofs.Registers.{bodies_found, image_bytes, stands_from}
use Rattle.duty_register.proofs.laws.an_image_is_read_one_way.Goals as goal

-- an image that is a log of bodies stands for duties
duties_of : (image : List ℕ) (last_epoch : ℕ) → 1 ≤ last_epoch → AreBytes image → log.StandsForSome is_body first_block (last_epoch - 1) image
    → StandsForSome last_epoch image
duties_of image last_epoch some bytes found =
    let stands = found.2 in
    let read = bodies_found (length first_block) 1 found.0 (image_bytes first_block found.0 (stands.next ∷ stands.rest) image stands.parts bytes) stands.lawful in (
      first_duty ∷ read.changes,
      omega (arith, some, found.1, ap length read.bodies_are, length-map read.changes body),
      stands_from (first_duty ∷ read.changes) read.changes found.0 image refl read.counted read.bodies_are stands,
    )

pub returns-clause-some : goal.returns-clause-some
returns-clause-some c image last_epoch some bytes =
    elim (c.an_image_is_read_one_way.ensures.some first_block image (last_epoch - 1)) [
      | inl foreign ↦ inl foreign
      | inr rest ↦ (elim rest [
        | inl damaged ↦ inr (inl damaged)
        | inr found ↦ inr (inr (duties_of image last_epoch some bytes found))
      ])
    ]

pub returns-clause-not_foreign : goal.returns-clause-not_foreign
returns-clause-not_foreign c image duties stands = c.an_image_is_read_one_way.ensures.not_foreign first_block image (map body stands.changes) stands.logged

pub returns-clause-not_both : goal.returns-clause-not_both
returns-clause-not_both c image last_epoch = c.an_image_is_read_one_way.ensures.not_both first_block image (last_epoch - 1)

pub returns-clause-not_damaged : goal.returns-clause-not_damaged
returns-clause-not_damaged c image last_epoch some =
    let stands = some.2 in
    c.an_image_is_read_one_way.ensures.not_damaged first_block image (last_epoch - 1)
    (map body stands.changes, omega (arith, some.1, ap length stands.begins, length-map stands.changes body), stands.logged)

pub returns-clause-one_damage : goal.returns-clause-one_damage
returns-clause-one_damage c image last_epoch j k = c.an_image_is_read_one_way.ensures.one_damage first_block image (last_epoch - 1) j k
