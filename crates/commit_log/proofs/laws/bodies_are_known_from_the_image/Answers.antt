use Rattle.std.proofs.Common.{inl, inr}
use Rattle.commit_log.proofs.Comparing.{compare_images}
use Rattle.commit_log.proofs.laws.bodies_are_known_from_the_image.Goals as goal

pub returns : goal.returns
returns g c head image a b s t = elim (compare_images g.R.BodyReader.is_body head image a s.next s.rest b t.next t.rest s.lawful t.lawful s.parts t.parts) [
  | inl equal ↦ equal.0
  | inr (inl short) ↦ absurd (s.uncommitted short.commits)
  | inr (inr short) ↦ absurd (t.uncommitted short.commits)
]
