-- The texts of a street, and the key that they name.
use Rattle.std.proofs.Common.{◌≡◌, ◌==◌, ℕ, ◌-◌, ◌≤◌, Bool, true, false, not, cond, ◌&&◌, nat_le, List, [], ◌∷◌, ◌++◌, length, map, replicate, refl, ap, sym, ◌∙◌, arith, Option, Some, length-append, zero, suc}
use Rattle.std.specs.List.{list_all}
use Rattle.std.proofs.lemmas.Bool.Decides.{nat_tests}
use Rattle.std.proofs.lemmas.List.{length-map, length-replicate}
use Rattle.std.proofs.lemmas.List.Folds.{list_all-append}
use Rattle.ali_base.specs.Columns.{trimmed, is_space, is_empty, is_printable}
use Rattle.ali_base.specs.StreetKey.{upper, key_field, street_key}
use Rattle.ali_base.specs.declared.street_key.StreetKey.{StreetKey}
use Rattle.office_entry.specs.EditKeys.{is_street_byte, is_edit_key, IsEditKey}
use Rattle.office_entry.specs.EditText.{is_sent_byte, IsSentText, StreetTexts, AreStreetTexts, key_of, street_text}
use Rattle.office_entry.specs.EditReading.{field_at, street_at}
use Rattle.std.proofs.lemmas.Bool.{and_parts}
use Rattle.ali_base.proofs.Steps.{bind_ok, bind_some, some_is}
use Rattle.text_line.proofs.Splits.{Clear}
use Rattle.office_entry.proofs.Marks.{field_is, field_again}

-- the byte may be in a key as read exactly where it may be sent
upper_byte : (x : ℕ) → is_street_byte (upper x) ≡ is_sent_byte x
upper_byte x = by_test (nat_le 97 x && nat_le x 122) refl
  where
    by_test : (b : Bool) → (nat_le 97 x && nat_le x 122) ≡ b → is_street_byte (cond b (x - 32) x) ≡ is_sent_byte x
    by_test true h = grind (arith, nat_tests)
    by_test false h = grind (arith, nat_tests)

trimmed_bytes : (xs : List ℕ) → list_all is_street_byte (map upper (trimmed xs)) ≡ list_all is_sent_byte xs
trimmed_bytes [] = refl
trimmed_bytes (x ∷ xs) = by_test (is_space x) (trimmed xs) refl (trimmed_bytes xs)
  where
    by_test : (b : Bool) (t : List ℕ) → is_space x ≡ b → list_all is_street_byte (map upper t) ≡ list_all is_sent_byte xs
        → list_all is_street_byte (map upper (cond (b && is_empty t) [] (x ∷ t))) ≡ (is_sent_byte x && list_all is_sent_byte xs)
    by_test true [] h ih = let space : x ≡ 32 = grind (arith, nat_tests) in ih ∙ ap (λ (z : ℕ). is_sent_byte z && list_all is_sent_byte xs) (sym space)
    by_test true (y ∷ ys) h ih = ap (λ b. b && list_all is_street_byte (map upper (y ∷ ys))) (upper_byte x) ∙ ap (λ b. is_sent_byte x && b) ih
    by_test false t h ih = ap (λ b. b && list_all is_street_byte (map upper t)) (upper_byte x) ∙ ap (λ b. is_sent_byte x && b) ih

spaces : (n : ℕ) → list_all is_street_byte (replicate n 32) ≡ true
spaces zero = refl
spaces (suc n) = spaces n

and_true : (b : Bool) → (b && true) ≡ b
and_true true = refl
and_true false = refl

-- a field has a key's bytes exactly where its text may be sent
field_bytes : (width : ℕ) (text : List ℕ) → list_all is_street_byte (key_field width text) ≡ list_all is_sent_byte text
field_bytes width text =
    list_all-append is_street_byte (map upper (trimmed text)) (replicate (width - length (map upper (trimmed text))) 32)
    ∙ ap (λ b. list_all is_street_byte (map upper (trimmed text)) && b) (spaces (width - length (map upper (trimmed text))))
    ∙ and_true (list_all is_street_byte (map upper (trimmed text))) ∙ trimmed_bytes text

trimmed_len : (xs : List ℕ) → length (trimmed xs) ≤ length xs
trimmed_len [] = omega arith
trimmed_len (x ∷ xs) = by_test (is_space x && is_empty (trimmed xs)) (trimmed_len xs)
  where
    by_test : (b : Bool) → length (trimmed xs) ≤ length xs → length (cond b [] (x ∷ trimmed xs)) ≤ suc (length xs)
    by_test true h = omega arith
    by_test false h = omega arith

field_len : (width : ℕ) (text : List ℕ) → length text ≤ width → length (key_field width text) ≡ width
field_len width text le = simp (length-append, length-map, length-replicate) (omega (arith, trimmed_len text))

-- the texts have at most their widths
pub record Fit (texts : StreetTexts) : Type 0 where
  pub community : length texts.community ≤ 32
  pub state : length texts.state ≤ 2
  pub prefix : length texts.prefix ≤ 2
  pub name : length texts.name ≤ 60
  pub suffix : length texts.suffix ≤ 4
  pub post : length texts.post ≤ 2

pub key_lawful : (texts : StreetTexts) → Fit texts → is_edit_key (key_of texts) ≡ true → IsEditKey (key_of texts)
key_lawful texts fit h = record {
  bytes = h;
  community = field_len 32 texts.community fit.community;
  state = field_len 2 texts.state fit.state;
  prefix = field_len 2 texts.prefix fit.prefix;
  name = field_len 60 texts.name fit.name;
  suffix = field_len 4 texts.suffix fit.suffix;
  post = field_len 2 texts.post fit.post;
}

-- six tests, one after the other
and_six : (a b c d e f : Bool) → (a && b && c && d && e && f) ≡ true → (a ≡ true) × (b ≡ true) × (c ≡ true) × (d ≡ true) × (e ≡ true) × (f ≡ true)
and_six true true true true true true h = (refl, refl, refl, refl, refl, refl)
and_six false b c d e f h = cc
and_six true false c d e f h = cc
and_six true true false d e f h = cc
and_six true true true false e f h = cc
and_six true true true true false f h = cc
and_six true true true true true false h = cc

all_six : (a b c d e f : Bool) → a ≡ true → b ≡ true → c ≡ true → d ≡ true → e ≡ true → f ≡ true → (a && b && c && d && e && f) ≡ true
all_six a b c d e f ha hb hc hd he hf = rw (ha, hb, hc, hd, he, hf) refl

sent : (width : ℕ) (text : List ℕ) → length text ≤ width → list_all is_street_byte (key_field width text) ≡ true → IsSentText width text
sent width text le h = record { fits = le; bytes = sym (field_bytes width text) ∙ h }

-- the texts may be sent where the key may be an edit's
pub texts_lawful : (texts : StreetTexts) → Fit texts → is_edit_key (key_of texts) ≡ true → AreStreetTexts texts
texts_lawful texts fit h =
    let k = key_of texts in
    let six = and_six (list_all is_street_byte (key_field 32 texts.community)) (list_all is_street_byte (key_field 2 texts.state)) (list_all is_street_byte (key_field 2 texts.prefix)) (list_all is_street_byte (key_field 60 texts.name)) (list_all is_street_byte (key_field 4 texts.suffix)) (list_all is_street_byte (key_field 2 texts.post)) h in
    record {
      community = sent 32 texts.community fit.community six.0;
      state = sent 2 texts.state fit.state six.1;
      prefix = sent 2 texts.prefix fit.prefix six.2;
      name = sent 60 texts.name fit.name six.3;
      suffix = sent 4 texts.suffix fit.suffix six.4;
      post = sent 2 texts.post fit.post six.5;
    }

sent_key : (width : ℕ) (text : List ℕ) → IsSentText width text → list_all is_street_byte (key_field width text) ≡ true
sent_key width text h = field_bytes width text ∙ h.bytes

-- and the key may be an edit's where the texts may be sent
pub key_of_lawful : (texts : StreetTexts) → AreStreetTexts texts → is_edit_key (key_of texts) ≡ true
key_of_lawful texts h = all_six _ _ _ _ _ _ (sent_key 32 texts.community h.community) (sent_key 2 texts.state h.state) (sent_key 2 texts.prefix h.prefix) (sent_key 60 texts.name h.name) (sent_key 4 texts.suffix h.suffix) (sent_key 2 texts.post h.post)

sent_barless : (xs : List ℕ) → list_all is_sent_byte xs ≡ true → Clear 124 xs
sent_barless [] h = tt
sent_barless (x ∷ xs) h =
    let d = and_parts (is_sent_byte x) (list_all is_sent_byte xs) h in
    let b = and_parts (is_printable x) (not (x == 124)) d.0 in
    (not_true (x == 124) b.1, sent_barless xs d.1)
  where
    not_true : (b : Bool) → not b ≡ true → b ≡ false
    not_true true h = cc
    not_true false h = refl

abbrev texts_of : List ℕ → List ℕ → List ℕ → List ℕ → List ℕ → List ℕ → StreetTexts
texts_of c s p n x o = record { community = c; state = s; prefix = p; name = n; suffix = x; post = o }

-- what is read as a street is spelled by six texts
pub street_is : (bytes : List ℕ) (x : StreetKey × List ℕ) → street_at bytes ≡ Some x → (texts : StreetTexts) × Fit texts × (x.0 ≡ key_of texts) × (bytes ≡ street_text texts x.1)
unfolding street_at
street_is bytes x h =
    let a = bind_ok (field_at 32 bytes) _ x h in
    let b = bind_ok (field_at 2 a.0.1) _ x a.2 in
    let d = bind_ok (field_at 2 b.0.1) _ x b.2 in
    let e = bind_ok (field_at 60 d.0.1) _ x d.2 in
    let f = bind_ok (field_at 4 e.0.1) _ x e.2 in
    let g = bind_ok (field_at 2 f.0.1) _ x f.2 in
    made bytes a.0 b.0 d.0 e.0 f.0 g.0 x (field_is 32 bytes a.0 a.1) (field_is 2 a.0.1 b.0 b.1) (field_is 2 b.0.1 d.0 d.1) (field_is 60 d.0.1 e.0 e.1) (field_is 4 e.0.1 f.0 f.1) (field_is 2 f.0.1 g.0 g.1) g.2
  where
    made : (bytes : List ℕ) (a b d e f g : List ℕ × List ℕ) (x : StreetKey × List ℕ)
        → (bytes ≡ a.0 ++ 124 ∷ a.1) × (length a.0 ≤ 32) → (a.1 ≡ b.0 ++ 124 ∷ b.1) × (length b.0 ≤ 2) → (b.1 ≡ d.0 ++ 124 ∷ d.1) × (length d.0 ≤ 2)
        → (d.1 ≡ e.0 ++ 124 ∷ e.1) × (length e.0 ≤ 60) → (e.1 ≡ f.0 ++ 124 ∷ f.1) × (length f.0 ≤ 4) → (f.1 ≡ g.0 ++ 124 ∷ g.1) × (length g.0 ≤ 2)
        → ◌≡◌ {A = Option (StreetKey × List ℕ)} (Some (street_key a.0 b.0 d.0 e.0 f.0 g.0, g.1)) (Some x)
        → (texts : StreetTexts) × Fit texts × (x.0 ≡ key_of texts) × (bytes ≡ street_text texts x.1)
    made bytes a b d e f g x ha hb hd he hf hg is =
        let parts : (street_key a.0 b.0 d.0 e.0 f.0 g.0, g.1) ≡ x = some_is (street_key a.0 b.0 d.0 e.0 f.0 g.0, g.1) x is in
        let rest : g.1 ≡ x.1 = ap (λ (p : StreetKey × List ℕ). p.1) parts in
        let named : street_key a.0 b.0 d.0 e.0 f.0 g.0 ≡ x.0 = ap (λ (p : StreetKey × List ℕ). p.0) parts in
        let tail5 : f.1 ≡ g.0 ++ 124 ∷ x.1 = hg.0 ∙ ap (λ z. g.0 ++ 124 ∷ z) rest in
        let tail4 : e.1 ≡ f.0 ++ 124 ∷ (g.0 ++ 124 ∷ x.1) = hf.0 ∙ ap (λ z. f.0 ++ 124 ∷ z) tail5 in
        let tail3 : d.1 ≡ e.0 ++ 124 ∷ (f.0 ++ 124 ∷ (g.0 ++ 124 ∷ x.1)) = he.0 ∙ ap (λ z. e.0 ++ 124 ∷ z) tail4 in
        let tail2 : b.1 ≡ d.0 ++ 124 ∷ (e.0 ++ 124 ∷ (f.0 ++ 124 ∷ (g.0 ++ 124 ∷ x.1))) = hd.0 ∙ ap (λ z. d.0 ++ 124 ∷ z) tail3 in
        let tail1 : a.1 ≡ b.0 ++ 124 ∷ (d.0 ++ 124 ∷ (e.0 ++ 124 ∷ (f.0 ++ 124 ∷ (g.0 ++ 124 ∷ x.1)))) = hb.0 ∙ ap (λ z. b.0 ++ 124 ∷ z) tail2 in (
          texts_of a.0 b.0 d.0 e.0 f.0 g.0,
          record { community = ha.1; state = hb.1; prefix = hd.1; name = he.1; suffix = hf.1; post = hg.1 },
          sym named,
          ha.0 ∙ ap (λ z. a.0 ++ 124 ∷ z) tail1,
        )

-- six texts are read as the key that they name
pub street_again : (texts : StreetTexts) (rest : List ℕ) → AreStreetTexts texts → street_at (street_text texts rest) ≡ Some (key_of texts, rest)
unfolding street_at
street_again texts rest h =
    let t5 = texts.post ++ 124 ∷ rest in
    let t4 = texts.suffix ++ 124 ∷ t5 in
    let t3 = texts.name ++ 124 ∷ t4 in
    let t2 = texts.prefix ++ 124 ∷ t3 in
    let t1 = texts.state ++ 124 ∷ t2 in
    bind_some _ _ _ _ (field_again 32 texts.community t1 (sent_barless texts.community h.community.bytes) h.community.fits)
    (bind_some _ _ _ _ (field_again 2 texts.state t2 (sent_barless texts.state h.state.bytes) h.state.fits)
    (bind_some _ _ _ _ (field_again 2 texts.prefix t3 (sent_barless texts.prefix h.prefix.bytes) h.prefix.fits)
    (bind_some _ _ _ _ (field_again 60 texts.name t4 (sent_barless texts.name h.name.bytes) h.name.fits)
    (bind_some _ _ _ _ (field_again 4 texts.suffix t5 (sent_barless texts.suffix h.suffix.bytes) h.suffix.fits)
    (bind_some _ _ _ _ (field_again 2 texts.post rest (sent_barless texts.post h.post.bytes) h.post.fits) refl)))))
