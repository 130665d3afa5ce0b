-- Days and their texts.
use Rattle.std.proofs.Common.{◌≡◌, inl, inr, ℕ, zero, suc, ◌+◌, ◌-◌, ◌^◌, ◌<◌, ◌≤◌, ◌==◌, true, false, cond, Option, List, [], ◌∷◌, ◌++◌, length, take, drop, Some, None, pos, Bool, refl, sym, ap, subst, ◌∙◌, arith, length-append, append_assoc}
use Rattle.std.specs.Prelude.{replicate}
use Rattle.std.specs.Fmt.{decimal}
use Rattle.std.specs.Str.{all_ascii_digits}
use Rattle.std.specs.Str.Parse.{digits_value}
use Rattle.std.proofs.lemmas.Bool.{cases_eq}
use Rattle.std.proofs.lemmas.Bool.Decides.{nat_tests}
use Rattle.std.proofs.lemmas.Fmt.{decimal-digits_value, digits_decimal, digits_value-decimal, length-decimal-le}
use Rattle.std.proofs.lemmas.List.{length-replicate, take_at, drop_at, take-append-drop, length-take-le, take_all, drop-drop, length-drop}
use Rattle.std.proofs.lemmas.Option.{cond_some}
use Rattle.std.proofs.lemmas.Str.Parse.{digits_value_short}
use Rattle.jiff_core.proofs.CalendarLemmas.{days_in_month_bounds}
use Rattle.ali_base.specs.CivilDay.{CivilDay, IsDay, is_civil_date, day_in_century, written_day, day_of, day_text}
use Rattle.ali_base.specs.Columns.{columns}
use Rattle.ali_base.specs.Digits.{digits_number}
use Rattle.ali_base.specs.Numbers.{zero_padded}
use Rattle.ali_base.proofs.Digits.{own}
use Rattle.ali_base.proofs.Steps.{bind_ok, bind_some}

-- ---- two digits

after_zeros : (k : ℕ) (ds : List ℕ) → digits_number (replicate k 48 ++ ds) ≡ digits_number ds
unfolding digits_number
after_zeros zero ds = refl
after_zeros (suc k) ds = after_zeros k ds

two_again : (n : ℕ) → n < 100 → digits_number (zero_padded 2 n) ≡ Some n
unfolding digits_number
two_again n small =
    after_zeros (2 - length (decimal n)) (decimal n)
    ∙ ap (λ b. cond b (Some (digits_value 10 (decimal n))) None) (digits_decimal own n (omega arith))
    ∙ ap Some (digits_value-decimal own n (omega arith))

pub length-two : (n : ℕ) → n < 100 → length (zero_padded 2 n) ≡ 2
length-two n small =
    let short : length (decimal n) ≤ 2 = length-decimal-le 2 n (omega arith) (omega arith) (omega arith) in
    omega (arith, length-append (replicate (2 - length (decimal n)) 48) (decimal n), length-replicate {A = ℕ} (2 - length (decimal n)) 48)

padded : (n : ℕ) (ds : List ℕ) → decimal n ≡ ds → zero_padded 2 n ≡ replicate (2 - length ds) 48 ++ ds
padded n ds h = ap (λ z. replicate (2 - length z) 48 ++ z) h

two_found : (xs : List ℕ) (n : ℕ) → length xs ≡ 2 → digits_number xs ≡ Some n → (zero_padded 2 n ≡ xs) × (n < 100)
unfolding digits_number
two_found [] n len h = absurd (omega arith)
two_found (a ∷ []) n len h = absurd (omega arith)
two_found (a ∷ b ∷ c ∷ rest) n len h = absurd (omega arith)
two_found (a ∷ b ∷ []) n len h =
    let w = cond_some (all_ascii_digits (a ∷ b ∷ [])) (digits_value 10 (a ∷ b ∷ [])) n h in
    let short : digits_value 10 (a ∷ b ∷ []) < 10 ^ 2 = digits_value_short own (a ∷ b ∷ []) 2 w.0 (omega arith) in
    let small : n < 100 = omega (arith, short, w.1) in (
      elim (cases_eq a 48) [
        | inl zero_first ↦ led zero_first w
        | inr other ↦ padded n (a ∷ b ∷ []) (ap decimal (sym w.1) ∙ decimal-digits_value own (a ∷ b ∷ []) w.0 (omega arith) (λ first. absurd (other first)) (omega (arith, short)))
      ],
      small,
    )
  where
    led : a ≡ 48 → (all_ascii_digits (a ∷ b ∷ []) ≡ true) × (digits_value 10 (a ∷ b ∷ []) ≡ n) → zero_padded 2 n ≡ a ∷ b ∷ []
    led first w =
        let test : all_ascii_digits (b ∷ []) ≡ true = ap (λ z. all_ascii_digits (z ∷ b ∷ [])) (sym first) ∙ w.0 in
        let value : digits_value 10 (b ∷ []) ≡ n = ap (λ z. digits_value 10 (z ∷ b ∷ [])) (sym first) ∙ w.1 in
        let low : digits_value 10 (b ∷ []) < 10 ^ 1 = digits_value_short own (b ∷ []) 1 test (omega arith) in
        padded n (b ∷ []) (ap decimal (sym value) ∙ decimal-digits_value own (b ∷ []) test (omega arith) (λ same. refl) (omega (arith, low)))
        ∙ ap (λ z. z ∷ b ∷ []) (sym first)

-- ---- days

-- the months and days of the calendar have two digits
pub day_small : (d : CivilDay) → is_civil_date d.year d.month d.day ≡ true → (d.month < 100) × (d.day < 100)
day_small d h =
    let long = days_in_month_bounds (pos d.year) d.month in
    grind (arith, nat_tests)

pub length-day_text : (d : CivilDay) → IsDay d → length (day_text d) ≡ 6
length-day_text d h =
    let small = day_small d h.civil in
    let m = zero_padded 2 d.month in
    let n = zero_padded 2 d.day in
    let y = zero_padded 2 (d.year - 2000) in
    omega (arith, length-append (m ++ n) y, length-append m n, length-two d.month small.0, length-two d.day small.1, length-two (d.year - 2000) (omega (arith, h.from, h.to)))

-- three texts of two bytes, side by side
parts : (m d y : List ℕ) → length m ≡ 2 → length d ≡ 2 → length y ≡ 2 → (columns (m ++ d ++ y) 1 2 ≡ m) × (columns (m ++ d ++ y) 3 4 ≡ d) × (columns (m ++ d ++ y) 5 6 ≡ y)
parts m d y m2 d2 y2 =
    let whole = append_assoc m d y in
    let four : length (m ++ d) ≡ 4 = omega (arith, length-append m d) in (
      ap (take 2) whole ∙ take_at m (d ++ y) 2 m2,
      ap (λ z. take 2 (drop 2 z)) whole ∙ ap (take 2) (drop_at m (d ++ y) 2 m2) ∙ take_at d y 2 d2,
      ap (take 2) (drop_at (m ++ d) y 4 four) ∙ take_all 2 y (omega arith),
    )

made : (d : CivilDay) → IsDay d → day_in_century (d.year - 2000) d.month d.day ≡ Some d
made d h =
    let year : 2000 + (d.year - 2000) ≡ d.year = omega (arith, h.from) in
    let P : ℕ → CivilDay = λ y. record { year = y; month = d.month; day = d.day } in
    ap (λ y. cond (is_civil_date y d.month d.day) (Some (P y)) None) year ∙ ap (λ b. cond b (Some d) None) h.civil

-- the text of a day is read as it
pub day_of-text : (d : CivilDay) → IsDay d → day_of (day_text d) ≡ Some d
unfolding written_day
day_of-text d h =
    let small = day_small d h.civil in
    let century : d.year - 2000 < 100 = omega (arith, h.from, h.to) in
    let six : (length (day_text d) == 6) ≡ true = grind (arith, nat_tests, length-day_text d h) in
    let p = parts (zero_padded 2 d.month) (zero_padded 2 d.day) (zero_padded 2 (d.year - 2000)) (length-two d.month small.0) (length-two d.day small.1) (length-two (d.year - 2000) century) in
    ap (λ b. cond b (written_day (day_text d)) None) six
    ∙ bind_some _ _ _ _ (ap digits_number p.0 ∙ two_again d.month small.0)
    (bind_some _ _ _ _ (ap digits_number p.1 ∙ two_again d.day small.1)
    (bind_some _ _ _ _ (ap digits_number p.2 ∙ two_again (d.year - 2000) century) (made d h)))

-- six bytes are their three pairs
pairs : (bytes : List ℕ) → length bytes ≡ 6 → columns bytes 1 2 ++ columns bytes 3 4 ++ columns bytes 5 6 ≡ bytes
pairs bytes six =
    let rest = drop 2 bytes in
    let last : take 2 (drop 4 bytes) ≡ drop 2 rest = ap (take 2) (sym (drop-drop 2 2 bytes)) ∙ take_all 2 (drop 2 rest) (omega (arith, length-drop 2 rest, length-drop 2 bytes)) in
    append_assoc (take 2 bytes) (take 2 rest) (take 2 (drop 4 bytes))
    ∙ ap (λ z. take 2 bytes ++ (take 2 rest ++ z)) last
    ∙ ap (λ z. take 2 bytes ++ z) (take-append-drop 2 rest)
    ∙ take-append-drop 2 bytes

two_long : (bytes : List ℕ) (k : ℕ) → length bytes ≡ 6 → k ≤ 4 → length (take 2 (drop k bytes)) ≡ 2
two_long bytes k six le = length-take-le 2 (drop k bytes) (omega (arith, length-drop k bytes))

-- what is read as a day is its text
pub day_of-found : (bytes : List ℕ) (d : CivilDay) → day_of bytes ≡ Some d → IsDay d × (bytes ≡ day_text d)
unfolding written_day
day_of-found bytes d h =
    let g = cond_some_of (length bytes == 6) (written_day bytes) d h in
    let six : length bytes ≡ 6 = grind (arith, nat_tests, g.0) in
    let month = bind_ok (digits_number (columns bytes 1 2)) _ d g.1 in
    let day = bind_ok (digits_number (columns bytes 3 4)) _ d month.2 in
    let year = bind_ok (digits_number (columns bytes 5 6)) _ d day.2 in
    let made = cond_some (is_civil_date (2000 + year.0) month.0 day.0) (record { year = 2000 + year.0; month = month.0; day = day.0 }) d year.2 in
    let m = two_found (columns bytes 1 2) month.0 (two_long bytes 0 six (omega arith)) month.1 in
    let n = two_found (columns bytes 3 4) day.0 (two_long bytes 2 six (omega arith)) day.1 in
    let y = two_found (columns bytes 5 6) year.0 (two_long bytes 4 six (omega arith)) year.1 in
    let back : 2000 + year.0 - 2000 ≡ year.0 = omega arith in
    let P : CivilDay → Type 0 = λ e. IsDay e × (bytes ≡ day_text e) in
    subst P made.1 (
      record { from = omega arith; to = omega (arith, y.1); civil = made.0 },
      sym (pairs bytes six)
          ∙ ap (λ z. z ++ columns bytes 3 4 ++ columns bytes 5 6) (sym m.0)
          ∙ ap (λ z. zero_padded 2 month.0 ++ z ++ columns bytes 5 6) (sym n.0)
          ∙ ap (λ z. zero_padded 2 month.0 ++ zero_padded 2 day.0 ++ z) (sym y.0 ∙ ap (zero_padded 2) (sym back)),
    )
  where
    cond_some_of : {A : Type 0} (b : Bool) (o : Option A) (x : A) → cond {A = Option A} b o None ≡ Some x → (b ≡ true) × (o ≡ Some x)
    cond_some_of true o x h = (refl, h)
    cond_some_of false o x h = cc
