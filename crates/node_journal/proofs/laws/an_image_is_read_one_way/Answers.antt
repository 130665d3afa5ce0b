use Rattle.std.proofs.Common.{inl, inr, ℕ, List, length, ap, subst, arith}
use Rattle.ali_base.specs.declared.names.NodeName.{NodeName}
use Rattle.ali_base.specs.Fronts.{AreBytes}
use Rattle.commit_log.specs.LogImage.{AreBodies}
use Rattle.commit_log.specs.LogImage as log
use Rattle.node_journal.specs.FrameBytes.{bodies_from, is_body}
use Rattle.node_journal.specs.JournalImage.{StandsForSome, first_block}
use Rattle.node_journal.proofs.Journals.{length-bodies, framed, image_bytes}
use Rattle.node_journal.proofs.Represented.{length-first_block}
use Rattle.node_journal.proofs.laws.an_image_is_read_one_way.Goals as goal

-- an image that is a log of bodies stands for frames
frames_of : (name : NodeName) (image : List ℕ) (limit : ℕ) → AreBytes image → log.StandsForSome is_body (first_block name) limit image → StandsForSome name limit image
frames_of name image limit bytes (bodies, within, stands) =
    let lawful = subst (λ (n : ℕ). AreBodies is_body n 1 bodies) (length-first_block name) stands.lawful in
    let read = framed 1 bodies (image_bytes (first_block name) bodies stands.next stands.rest image stands.parts bytes) lawful in (
      read.frames,
      omega (arith, within, length-bodies 1 read.frames, ap length read.bodies_are),
      record { lawful = read.lawful; logged = subst (λ (l : List (List ℕ)). log.StandsFor is_body (first_block name) l image) read.bodies_are stands },
    )

pub returns-clause-some : goal.returns-clause-some
returns-clause-some c name image limit bytes =
    elim (c.an_image_is_read_one_way.ensures.some (first_block name) image limit) [
      | inl foreign ↦ inl foreign
      | inr rest ↦ (elim rest [
        | inl damaged ↦ inr (inl damaged)
        | inr found ↦ inr (inr (frames_of name image limit bytes found))
      ])
    ]

pub returns-clause-not_foreign : goal.returns-clause-not_foreign
returns-clause-not_foreign c name image frames stands = c.an_image_is_read_one_way.ensures.not_foreign (first_block name) image (bodies_from 1 frames) stands.logged

pub returns-clause-not_both : goal.returns-clause-not_both
returns-clause-not_both c name image limit = c.an_image_is_read_one_way.ensures.not_both (first_block name) image limit

pub returns-clause-not_damaged : goal.returns-clause-not_damaged
returns-clause-not_damaged c name image limit (frames, within, stands) =
    c.an_image_is_read_one_way.ensures.not_damaged (first_block name) image limit (bodies_from 1 frames, omega (arith, within, length-bodies 1 frames), stands.logged)

pub returns-clause-one_damage : goal.returns-clause-one_damage
returns-clause-one_damage c name image limit j k = c.an_image_is_read_one_way.ensures.one_damage (first_block name) image limit j k
