-- Bytes without a fault of framing are the records that they are cut into, and back.
use Rattle.std.proofs.Common.{◌≡◌, ℕ, suc, ◌+◌, ◌-◌, ◌*◌, ◌/◌, ◌%◌, ◌<◌, ◌≤◌, ◌⊎◌, inl, inr, Bool, true, false, cond, ◌||◌, ◌==◌, nat_le, List, [], ◌∷◌, ◌++◌, length, take, drop, get_or, refl, ap, sym, ◌∙◌, subst, arith, Some, None, length-append, append-nil, eq-eqb}
use Rattle.std.proofs.lemmas.Bool.Decides.{nat_tests}
use Rattle.std.proofs.lemmas.List.Elements.{All-from_recursion, recursion_from_All}
use Rattle.std.proofs.Math.Nat.{mul-le-mul_left}
use Rattle.std.specs.List.{AllByRecursion}
use Rattle.ali_base.specs.Columns.{columns}
use Rattle.ali_base.specs.Company.{company_of}
use Rattle.ali_base.specs.Numbers.{cycle_of}
use Rattle.ali_base.specs.CivilDay.{CivilDay, day_of}
use Rattle.batch_frame.specs.declared.separator.Separator.{Separator}
use Rattle.batch_frame.specs.declared.separator.Separator.TheVariants.{Bare, Lf, CrLf}
use Rattle.batch_frame.specs.declared.fault.FrameFault.{FrameFault}
use Rattle.batch_frame.specs.declared.fault.FrameFault.TheVariants as faults
use Rattle.batch_frame.specs.declared.fault.TheConstants.{MOST_RECORDS}
use Rattle.batch_frame.specs.CarrierFile.{CarrierFile, IsFile, Spells, IsRecord, separator_bytes, separator_of, separated, piece_size, record_count, record_at, records_in, all_records, file_in}
use Rattle.batch_frame.specs.FrameFault.{IsRead, is_whole, length_fault, too_many_fault, separator_fault, found, header_of}
use Rattle.batch_frame.proofs.Cutting.{Followed, drop_none, drop_next, records_in-length, records_in-get, records_in-more, records_in-widths, records_in-append, cut_whole, cut_short, separated-length, cut_separated}
use Rattle.batch_frame.proofs.Faults.{NoFault, no_fault, none_at_all, whole, followed_records}

-- n bytes are m pieces, or lack the last separator
abbrev pub Sizes : Separator → ℕ → ℕ → Type 0
Sizes s n m = (n ≡ piece_size s * m) ⊎ (n + length (separator_bytes s) ≡ piece_size s * m)

pub below : (s : Separator) (n k : ℕ) → k < n / piece_size s → piece_size s * (k + 1) ≤ n
below Bare n k h = omega arith
below Lf n k h = omega arith
below CrLf n k h = omega arith

pub full_count : (s : Separator) (n m : ℕ) → n ≡ piece_size s * m → n / piece_size s ≡ m
full_count Bare n m h = omega arith
full_count Lf n m h = omega arith
full_count CrLf n m h = omega arith

or_second : (a b : Bool) → b ≡ true → (a || b) ≡ true
or_second true b h = refl
or_second false b h = h

pub inside : (s : Separator) (n m k : ℕ) → n + length (separator_bytes s) ≡ piece_size s * m → k < n / piece_size s → k < m
inside Bare n m k e h = omega arith
inside Lf n m k e h = omega arith
inside CrLf n m k e h = omega arith

pub some_piece : (s : Separator) (n m : ℕ) → Sizes s n m → 2 ≤ m → 0 < n / piece_size s
some_piece Bare n m (inl e) h = omega arith
some_piece Bare n m (inr e) h = omega arith
some_piece Lf n m (inl e) h = omega arith
some_piece Lf n m (inr e) h = omega arith
some_piece CrLf n m (inl e) h = omega arith
some_piece CrLf n m (inr e) h = omega arith

pub sized : (s : Separator) (n m : ℕ) → Sizes s n m → 2 ≤ m → (1_024 ≤ n) × (is_whole s n ≡ true)
sized Bare n m (inl e) h = (omega arith, ap (λ b. b || ((n + 0) % 512 == 0)) (eq-eqb (n % 512) 0 (omega arith)))
sized Bare n m (inr e) h = (omega arith, ap (λ b. b || ((n + 0) % 512 == 0)) (eq-eqb (n % 512) 0 (omega arith)))
sized Lf n m (inl e) h = (omega arith, ap (λ b. b || ((n + 1) % 513 == 0)) (eq-eqb (n % 513) 0 (omega arith)))
sized Lf n m (inr e) h = (omega arith, or_second _ _ (eq-eqb ((n + 1) % 513) 0 (omega arith)))
sized CrLf n m (inl e) h = (omega arith, ap (λ b. b || ((n + 2) % 514 == 0)) (eq-eqb (n % 514) 0 (omega arith)))
sized CrLf n m (inr e) h = (omega arith, or_second _ _ (eq-eqb ((n + 2) % 514) 0 (omega arith)))

short_count : (s : Separator) (n m : ℕ) → n + length (separator_bytes s) ≡ piece_size s * suc m → m ≤ n / piece_size s
short_count Bare n m h = omega arith
short_count Lf n m h = omega arith
short_count CrLf n m h = omega arith

pub counted : (s : Separator) (n m : ℕ) → Sizes s n m → record_count s n ≡ m
counted Bare n m (inl h) = omega arith
counted Bare n m (inr h) = omega arith
counted Lf n m (inl h) = omega arith
counted Lf n m (inr h) = omega arith
counted CrLf n m (inl h) = omega arith
counted CrLf n m (inr h) = omega arith

spells_cut : (s : Separator) (m : ℕ) (bytes : List ℕ) → Sizes s (length bytes) (suc m) → Followed s bytes (length bytes / piece_size s) → Spells bytes s (records_in s (suc m) bytes)
spells_cut s m bytes (inl e) h =
    inl (cut_whole s (suc m) bytes e (λ k lt. h k (omega (arith, full_count s (length bytes) (suc m) e))))
spells_cut s m bytes (inr e) h =
    inr (cut_short s m bytes e (λ k lt. h k (omega (arith, short_count s (length bytes) m e))))

-- the records that the bytes are cut into are the parts
all_cut : (s : Separator) (c : ℕ) (bytes : List ℕ) → records_in s (suc (suc c)) bytes ≡ all_records (record_at s 0 bytes) (records_in s c (drop (piece_size s) bytes)) (record_at s (c + 1) bytes)
all_cut s c bytes =
    let p = piece_size s in
    let next : suc c ≡ c + 1 = omega arith in
    let last : record_at s c (drop p bytes) ≡ record_at s (c + 1) bytes = ap (take 512) (sym (drop_next p c bytes)) ∙ ap (λ n. record_at s n bytes) next in
    ap (λ z. take 512 z ∷ records_in s (suc c) (drop p bytes)) (sym (drop_none p bytes))
    ∙ ap (λ z. record_at s 0 bytes ∷ z) (records_in-more s c (drop p bytes) ∙ ap (λ z. records_in s c (drop p bytes) ++ z ∷ []) last)

pub wide_all : (s : Separator) (n m : ℕ) → Sizes s n m → piece_size s * m ≤ n + length (separator_bytes s)
wide_all s n m (inl e) = omega arith
wide_all s n m (inr e) = omega arith

-- bytes without a fault of framing are a file of these parts
pub framed : (bytes : List ℕ) (c : ℕ) → length_fault bytes ≡ None → separator_fault bytes ≡ None → c ≡ found bytes
    → let s = separator_of bytes in IsFile bytes s (record_at s 0 bytes) (records_in s c (drop (piece_size s) bytes)) (record_at s (c + 1) bytes)
framed bytes c len sep is =
    let s = separator_of bytes in
    let n = length bytes in
    let w = (whole bytes len).1 in
    let m : record_count s n ≡ suc (suc c) = omega (arith, w.two) in
    let P : ℕ → Type 0 = λ m. Sizes s n m in
    let sizes : Sizes s n (suc (suc c)) = subst P m w.sizes in
    let text = spells_cut s (suc c) bytes sizes (followed_records bytes sep) in
    let widths = records_in-widths s (suc (suc c)) bytes (wide_all s n (suc (suc c)) sizes) in
    let S : List (List ℕ) → Type 0 = λ rs. Spells bytes s rs in
    let W : List (List ℕ) → Type 0 = λ rs. AllByRecursion IsRecord rs in
    let cut = all_cut s c bytes in
    let all = all_records (record_at s 0 bytes) (records_in s c (drop (piece_size s) bytes)) (record_at s (c + 1) bytes) in
    record { separator = refl; widths = All-from_recursion IsRecord all (subst W cut widths); text = subst S cut text }

-- there is room for each record
pub framed_room : (bytes : List ℕ) (s : Separator) (c place : ℕ) → s ≡ separator_of bytes → length_fault bytes ≡ None → c ≡ found bytes → place ≤ c + 1 → piece_size s * place + 512 ≤ length bytes
framed_room bytes s c place same len is h =
    let t = separator_of bytes in
    let n = length bytes in
    let w = (whole bytes len).1 in
    let wide = wide_all t n (record_count t n) w.sizes in
    let le : place + 1 ≤ record_count t n = omega (arith, w.two) in
    let up : piece_size t * (place + 1) ≤ piece_size t * record_count t n = mul-le-mul_left (piece_size t) le in
    let R : Separator → Type 0 = λ s. piece_size s * place + 512 ≤ n in
    subst R (sym same) (omega (arith, up, wide))

-- what was told of bytes without a fault
pub told : (bytes : List ℕ) (s : Separator) (c cycle : ℕ) (company : List ℕ) (day : CivilDay) → s ≡ separator_of bytes → c ≡ found bytes → NoFault bytes
    → company_of (columns (header_of bytes) 10 14) ≡ Some company → cycle_of (columns (header_of bytes) 15 20) ≡ Some cycle → day_of (columns (header_of bytes) 4 9) ≡ Some day
    → IsRead bytes (file_in bytes s c company cycle day)
told bytes s c cycle company day same is h of_company of_cycle of_day =
    let t = separator_of bytes in
    let R : Separator → Type 0 = λ s. IsRead bytes (file_in bytes s c company cycle day) in
    subst R (sym same) (record {
      parts = framed bytes c h.len h.separators is;
      sound = none_at_all bytes h;
      company = of_company;
      cycle = of_cycle;
      day = of_day;
      count = sym (records_in-length t c (drop (piece_size t) bytes));
    })

-- and back

pub spelled_sizes : (bytes : List ℕ) (s : Separator) (all : List (List ℕ)) → AllByRecursion IsRecord all → Spells bytes s all → Sizes s (length bytes) (length all)
spelled_sizes bytes s all w (inl e) = inl (ap length e ∙ separated-length s all w)
spelled_sizes bytes s all w (inr e) = inr (sym (length-append bytes (separator_bytes s)) ∙ ap length e ∙ separated-length s all w)

spelled_cut : (bytes : List ℕ) (s : Separator) (all : List (List ℕ)) → AllByRecursion IsRecord all → Spells bytes s all → records_in s (length all) bytes ≡ all
spelled_cut bytes s all w (inl e) =
    ap (records_in s (length all)) (e ∙ sym (append-nil (separated s all))) ∙ cut_separated s all [] w
spelled_cut bytes s all w (inr e) =
    let wide = wide_all s (length bytes) (length all) (spelled_sizes bytes s all w (inr e)) in
    sym (records_in-append s (length all) bytes (separator_bytes s) wide)
    ∙ ap (records_in s (length all)) (e ∙ sym (append-nil (separated s all))) ∙ cut_separated s all [] w

pub record Parts (bytes : List ℕ) (s : Separator) (header : List ℕ) (records : List (List ℕ)) (trailer : List ℕ) : Type 0 where
  pub sizes : Sizes s (length bytes) (length records + 2)
  pub cut : records_in s (length records + 2) bytes ≡ all_records header records trailer

pub parts : (bytes : List ℕ) (s : Separator) (header : List ℕ) (records : List (List ℕ)) (trailer : List ℕ) → IsFile bytes s header records trailer → Parts bytes s header records trailer
parts bytes s header records trailer f =
    let all = all_records header records trailer in
    let w = recursion_from_All IsRecord all f.widths in
    let two : length all ≡ length records + 2 = omega (arith, length-append records (trailer ∷ [])) in
    let S : ℕ → Type 0 = λ m. Sizes s (length bytes) m in
    record {
      sizes = subst S two (spelled_sizes bytes s all w f.text);
      cut = ap (λ m. records_in s m bytes) (sym two) ∙ spelled_cut bytes s all w f.text;
    }

-- there is room for each record
pub room : (bytes : List ℕ) (file : CarrierFile) (place : ℕ) → IsRead bytes file → place ≤ file.count + 1 → piece_size file.separator * place + 512 ≤ length bytes
room bytes file place r h =
    let s = file.separator in
    let p = parts bytes s file.header file.records file.trailer r.parts in
    let wide = wide_all s (length bytes) (length file.records + 2) p.sizes in
    let le : place + 1 ≤ length file.records + 2 = omega (arith, r.count) in
    omega (arith, mul-le-mul_left (piece_size s) le)

-- the records found are those of the count
pub same_found : (bytes : List ℕ) (file : CarrierFile) → IsRead bytes file → found bytes ≡ file.count
same_found bytes file r =
    let p = parts bytes file.separator file.header file.records file.trailer r.parts in
    let m = counted file.separator (length bytes) (length file.records + 2) p.sizes in
    ap (λ s. record_count s (length bytes) - 2) r.parts.separator ∙ omega (arith, m, r.count)

few_found : (n : ℕ) (f : FrameFault) → cond (nat_le n MOST_RECORDS) None (Some f) ≡ None → n ≤ MOST_RECORDS
few_found n f h = grind (arith, nat_tests)

pub found_few : (bytes : List ℕ) → too_many_fault bytes ≡ None → found bytes ≤ MOST_RECORDS
unfolding too_many_fault
found_few bytes h = few_found (found bytes) (faults.TooMany (found bytes)) h

-- the number of the records is in range
pub few : (bytes : List ℕ) (file : CarrierFile) → IsRead bytes file → file.count ≤ MOST_RECORDS
few bytes file r = omega (arith, found_few bytes (no_fault bytes r.sound).few, same_found bytes file r)

pub lent_record : (s : Separator) (count i : ℕ) (bytes : List ℕ) → 1 ≤ i → i ≤ count → record_at s i bytes ≡ get_or (records_in s count (drop (piece_size s) bytes)) (i - 1) []
lent_record s count i bytes low high =
    let p = piece_size s in
    let next : suc (i - 1) ≡ i = omega arith in
    sym (records_in-get s count (i - 1) (drop p bytes) [] (omega arith)
    ∙ ap (take 512) (sym (drop_next p (i - 1) bytes)) ∙ ap (λ n. record_at s n bytes) next)
