use Rattle.std.proofs.Common.{◌≡◌, ◌≤◌, ◌+◌, inl, inr, ℕ, Bool, true, List, length, ap, subst, arith}
use Rattle.commit_log.specs.LogImage.{IsDamaged, committed}
use Rattle.commit_log.proofs.Comparing.{compare_images, begins, StopsShort}
use Rattle.commit_log.proofs.Covering.{read_some_way}
use Rattle.commit_log.proofs.laws.an_image_is_read_one_way.Goals as goal

-- no frame follows a damage
ends_there : (is_body : ℕ → List ℕ → Bool) (head : List ℕ) (limit k : ℕ) (image : List ℕ) (d : IsDamaged is_body head limit k image) (others : List (List ℕ)) → length others ≤ limit → StopsShort is_body (length head) 1 d.bodies committed d.rest others → ⊥
ends_there is_body head limit k image d others within s = elim d.broken [
  | inl full ↦ omega (arith, full, s.fewer, within)
  | inr none ↦
      let number : 1 + length d.bodies ≡ k = omega (arith, d.number) in
      none s.body s.behind s.more s.long (subst (λ (j : ℕ). is_body j s.body ≡ true) number s.lawful) s.rest_is
]

pub returns-clause-some : goal.returns-clause-some
returns-clause-some g c head image limit = read_some_way g.R.BodyReader.is_body head image limit

pub returns-clause-not_foreign : goal.returns-clause-not_foreign
returns-clause-not_foreign g c head image bodies s foreign = let there = begins head image bodies s.next s.rest s.parts in foreign there.0 there.1 there.2

pub returns-clause-not_both : goal.returns-clause-not_both
returns-clause-not_both g c head image limit foreign damaged = let d = damaged.1 in let there = begins head image d.bodies committed d.rest d.parts in foreign there.0 there.1 there.2

pub returns-clause-not_damaged : goal.returns-clause-not_damaged
returns-clause-not_damaged g c head image limit stands damaged =
    let s = stands.2 in
    let d = damaged.1 in
    elim (compare_images g.R.BodyReader.is_body head image stands.0 s.next s.rest d.bodies committed d.rest s.lawful d.lawful s.parts d.parts) [
      | inl equal ↦ s.uncommitted equal.1
      | inr (inl short) ↦ s.uncommitted short.commits
      | inr (inr short) ↦ ends_there g.R.BodyReader.is_body head limit damaged.0 image d stands.0 stands.1 short
    ]

pub returns-clause-one_damage : goal.returns-clause-one_damage
returns-clause-one_damage g c head image limit j k d e = elim (compare_images g.R.BodyReader.is_body head image d.bodies committed d.rest e.bodies committed e.rest d.lawful e.lawful d.parts e.parts) [
  | inl equal ↦ omega (arith, d.number, e.number, ap (λ (l : List (List ℕ)). length l) equal.0)
  | inr (inl short) ↦ absurd (ends_there g.R.BodyReader.is_body head limit j image d e.bodies e.within short)
  | inr (inr short) ↦ absurd (ends_there g.R.BodyReader.is_body head limit k image e d.bodies d.within short)
]
