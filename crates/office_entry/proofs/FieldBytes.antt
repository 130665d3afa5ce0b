-- A street that is read is the street that was written, and what was written is read again.
use Rattle.std.proofs.Common.{◌≡◌, ℕ, List, ◌++◌, length, Some, refl, ap, subst, ◌∙◌, append_assoc}
use Rattle.ali_base.specs.Fronts.{front}
use Rattle.ali_base.specs.declared.street_key.StreetKey.{StreetKey}
use Rattle.office_entry.specs.EditBytes.{key_bytes}
use Rattle.office_entry.specs.BytesReading.{key_at}
use Rattle.ali_base.proofs.Steps.{bind_ok, bind_some, some_is}
use Rattle.ali_base.proofs.FrontsAgain.{IsBytes, Takes, Takes-then, front_takes, front_again}

-- each field of a key has its width
pub record HasWidths (key : StreetKey) : Type 0 where
  pub community : length key.community ≡ 32
  pub state : length key.state ≡ 2
  pub prefix : length key.prefix ≡ 2
  pub name : length key.name ≡ 60
  pub suffix : length key.suffix ≡ 4
  pub post : length key.post ≡ 2

abbrev key_from : List ℕ → List ℕ → List ℕ → List ℕ → List ℕ → List ℕ → StreetKey
key_from c s p n x o = record { community = c; state = s; prefix = p; name = n; suffix = x; post = o }

pub key_takes : (bytes : List ℕ) (x : StreetKey × List ℕ) → IsBytes bytes → key_at bytes ≡ Some x → Takes bytes (key_bytes x.0) x.1 × HasWidths x.0
unfolding key_at
key_takes bytes x fits h =
    let a = bind_ok (front 32 bytes) _ x h in
    let b = bind_ok (front 2 a.0.1) _ x a.2 in
    let d = bind_ok (front 2 b.0.1) _ x b.2 in
    let e = bind_ok (front 60 d.0.1) _ x d.2 in
    let f = bind_ok (front 4 e.0.1) _ x e.2 in
    let g = bind_ok (front 2 f.0.1) _ x f.2 in
    let ta = front_takes 32 bytes a.0 fits a.1 in
    let tb = front_takes 2 a.0.1 b.0 ta.0.fits b.1 in
    let td = front_takes 2 b.0.1 d.0 tb.0.fits d.1 in
    let te = front_takes 60 d.0.1 e.0 td.0.fits e.1 in
    let tf = front_takes 4 e.0.1 f.0 te.0.fits f.1 in
    let tg = front_takes 2 f.0.1 g.0 tf.0.fits g.1 in
    let two = Takes-then bytes a.0.0 a.0.1 b.0.0 b.0.1 ta.0 tb.0 in
    let three = Takes-then bytes (a.0.0 ++ b.0.0) b.0.1 d.0.0 d.0.1 two td.0 in
    let four = Takes-then bytes (a.0.0 ++ b.0.0 ++ d.0.0) d.0.1 e.0.0 e.0.1 three te.0 in
    let five = Takes-then bytes (a.0.0 ++ b.0.0 ++ d.0.0 ++ e.0.0) e.0.1 f.0.0 f.0.1 four tf.0 in
    let six = Takes-then bytes (a.0.0 ++ b.0.0 ++ d.0.0 ++ e.0.0 ++ f.0.0) f.0.1 g.0.0 g.0.1 five tg.0 in
    let made : (key_from a.0.0 b.0.0 d.0.0 e.0.0 f.0.0 g.0.0, g.0.1) ≡ x = some_is (key_from a.0.0 b.0.0 d.0.0 e.0.0 f.0.0 g.0.0, g.0.1) x g.2 in
    subst (λ (p : StreetKey × List ℕ). Takes bytes (key_bytes p.0) p.1 × HasWidths p.0) made (
      six,
      record { community = ta.1; state = tb.1; prefix = td.1; name = te.1; suffix = tf.1; post = tg.1 },
    )

regroup : (a b c d e f g : List ℕ) → (a ++ b ++ c ++ d ++ e ++ f) ++ g ≡ a ++ (b ++ (c ++ (d ++ (e ++ (f ++ g)))))
regroup a b c d e f g = simp append_assoc

pub key_again : (key : StreetKey) (rest : List ℕ) → HasWidths key → key_at (key_bytes key ++ rest) ≡ Some (key, rest)
unfolding key_at
key_again key rest h =
    ap key_at (regroup key.community key.state key.prefix key.name key.suffix key.post rest)
    ∙ bind_some _ _ _ _ (front_again 32 key.community (key.state ++ (key.prefix ++ (key.name ++ (key.suffix ++ (key.post ++ rest))))) h.community)
    (bind_some _ _ _ _ (front_again 2 key.state (key.prefix ++ (key.name ++ (key.suffix ++ (key.post ++ rest)))) h.state)
    (bind_some _ _ _ _ (front_again 2 key.prefix (key.name ++ (key.suffix ++ (key.post ++ rest))) h.prefix)
    (bind_some _ _ _ _ (front_again 60 key.name (key.suffix ++ (key.post ++ rest)) h.name)
    (bind_some _ _ _ _ (front_again 4 key.suffix (key.post ++ rest) h.suffix)
    (bind_some _ _ _ _ (front_again 2 key.post rest h.post) refl)))))
