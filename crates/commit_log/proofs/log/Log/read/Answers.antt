use Rattle.std.proofs.Common.{◌≡◌, ℕ, List, length, take, drop, Some, refl, sym, ◌∙◌, ap, subst, arith, length-take, length-drop}
use Rattle.std.specs.Prelude.{Option, IfSome}
use Rattle.std.proofs.lemmas.List.{take_all}
use Rattle.commit_log.specs.LogImage.{frame_place}
use Rattle.commit_log.proofs.Bodies.{standing}
use Rattle.commit_log.proofs.Reading.{read_whole, not_short}
use Rattle.commit_log.proofs.log.Log.read.Goals as goal

-- what was read of the bytes that the disk tells
read_of : (content : Option (List ℕ)) (f buffer : List ℕ) (count place there : ℕ) → content ≡ Some f → place ≡ there → IfSome content (λ f. take count buffer ≡ take (length buffer) (drop place f)) → take count buffer ≡ take (length buffer) (drop there f)
read_of content f buffer count place there told is read = subst (λ o. IfSome o (λ f. take count buffer ≡ take (length buffer) (drop place f))) told read ∙ ap (λ (p : ℕ). take (length buffer) (drop p f)) is

pub returns-else-count-body-clause-answer : goal.returns-else-count-body-clause-answer
returns-else-count-body-clause-answer g c =
    let buffer : List ℕ = c.read_at.new.buf in (
      λ f told.
          let read = read_of _ f buffer c.in-Ok.count c.place_of_frame-place.result _ told c.place_of_frame-place.ensures c.in-Ok.ensures.bytes in
          let long : length buffer ≡ c.args.self.now.body_len = omega (arith, c.requires.room) in
          sym (take_all c.in-Ok.count buffer c.if-count-body.false) ∙ read ∙ ap (λ (n : ℕ). take n (drop (frame_place c.args.self.now.body_len c.args.k) f)) long,
      λ head bodies shown.
          let s = standing g.R.BodyReader.is_body head bodies c.args.k shown.kept.image shown.kept.stands.next shown.kept.stands.rest c.requires.number.0 (omega (arith, shown.counts, c.requires.number.1)) shown.kept.stands.lawful shown.kept.stands.parts in
          let read = read_of _ shown.kept.image buffer c.in-Ok.count c.place_of_frame-place.result _ shown.kept.synced.told refl c.in-Ok.ensures.bytes in
          read_whole g.R.BodyReader.is_body head bodies c.args.k shown.kept.image s buffer c.in-Ok.count c.place_of_frame-place.result
          (c.place_of_frame-place.ensures ∙ ap (λ (n : ℕ). frame_place n c.args.k) shown.long) (omega (arith, c.requires.room, shown.long)) read c.if-count-body.false,
    )

pub returns-then-count-body-clause-answer : goal.returns-then-count-body-clause-answer
returns-then-count-body-clause-answer g c =
    let buffer : List ℕ = c.read_at.new.buf in (
      refl,
      λ f told.
          let there : ℕ = frame_place c.args.self.now.body_len c.args.k in
          let read = read_of _ f buffer c.in-Ok.count c.place_of_frame-place.result there told c.place_of_frame-place.ensures c.in-Ok.ensures.bytes in
          omega (arith, c.requires.room, c.if-count-body.true, length-take c.in-Ok.count buffer, length-take (length buffer) (drop there f), length-drop there f, ap length read),
      λ head bodies shown.
          let s = standing g.R.BodyReader.is_body head bodies c.args.k shown.kept.image shown.kept.stands.next shown.kept.stands.rest c.requires.number.0 (omega (arith, shown.counts, c.requires.number.1)) shown.kept.stands.lawful shown.kept.stands.parts in
          let read = read_of _ shown.kept.image buffer c.in-Ok.count c.place_of_frame-place.result _ shown.kept.synced.told refl c.in-Ok.ensures.bytes in
          not_short g.R.BodyReader.is_body head bodies c.args.k shown.kept.image s buffer c.in-Ok.count c.place_of_frame-place.result
          (c.place_of_frame-place.ensures ∙ ap (λ (n : ℕ). frame_place n c.args.k) shown.long) (omega (arith, c.requires.room, shown.long)) read c.if-count-body.true,
    )
