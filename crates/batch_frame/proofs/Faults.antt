-- What follows where bytes have no fault.
use Rattle.std.proofs.Common.{◌≡◌, ℕ, zero, suc, ◌+◌, ◌-◌, ◌*◌, ◌/◌, ◌%◌, ◌<◌, ◌≤◌, Bool, true, false, cond, ◌&&◌, ◌||◌, not, ◌==◌, nat_le, List, ◌∷◌, length, refl, ap, sym, ◌∙◌, arith, Option, Some, None, option_map, ◌⊎◌, inl, inr, add-zero, take, drop}
use Rattle.std.proofs.lemmas.Bool.Decides.{nat_tests}
use Rattle.std.proofs.lemmas.Bool.{eqb-true}
use Rattle.std.proofs.lemmas.Slice.Eq.{bytes_eq-Decides}
use Rattle.std.specs.Str.{bytes_eq}
use Rattle.std.proofs.lemmas.List.{drop-drop}
use Rattle.ali_base.specs.Steps.{◌>>=◌, when}
use Rattle.ali_base.specs.Columns.{columns}
use Rattle.ali_base.specs.Company.{company_of}
use Rattle.ali_base.specs.Digits.{digits_number}
use Rattle.batch_frame.proofs.Cutting.{Followed}
use Rattle.batch_frame.specs.declared.separator.Separator.{Separator}
use Rattle.batch_frame.specs.declared.separator.Separator.TheVariants.{Bare, Lf, CrLf}
use Rattle.batch_frame.specs.declared.fault.FrameFault.{FrameFault}
use Rattle.batch_frame.specs.declared.fault.FrameFault.TheVariants as faults
use Rattle.batch_frame.specs.CarrierFile.{separator_bytes, separator_of, piece_size, record_count}
use Rattle.batch_frame.specs.FrameFault.{first_of, least_failing, is_whole, is_followed, length_fault, too_many_fault, separator_fault, found, header_of, trailer_of, header_fault, trailer_fault, company_fault, count_fault, frame_fault}

first_none : (a : Option FrameFault) (rest : List (Option FrameFault)) → first_of (a ∷ rest) ≡ None → (a ≡ None) × (first_of rest ≡ None)
first_none None rest h = (refl, h)
first_none (Some fault) rest h = absurd (cc)

-- no fault of any kind
pub record NoFault (bytes : List ℕ) : Type 0 where
  pub len : length_fault bytes ≡ None
  pub few : too_many_fault bytes ≡ None
  pub separators : separator_fault bytes ≡ None
  pub header : option_map faults.Header (header_fault (header_of bytes)) ≡ None
  pub trailer : option_map faults.Trailer (trailer_fault (trailer_of bytes)) ≡ None
  pub companies : company_fault (header_of bytes) (trailer_of bytes) ≡ None
  pub count : count_fault (found bytes) (trailer_of bytes) ≡ None

pub no_fault : (bytes : List ℕ) → frame_fault bytes ≡ None → NoFault bytes
unfolding frame_fault
no_fault bytes h =
    let a = first_none _ _ h in
    let b = first_none _ _ a.1 in
    let c = first_none _ _ b.1 in
    let d = first_none _ _ c.1 in
    let e = first_none _ _ d.1 in
    let f = first_none _ _ e.1 in
    let g = first_none _ _ f.1 in
    record { len = a.0; few = b.0; separators = c.0; header = d.0; trailer = e.0; companies = f.0; count = g.0 }

after_none : (a : Option FrameFault) (rest : List (Option FrameFault)) (r : Option FrameFault) → a ≡ None → first_of rest ≡ r → first_of (a ∷ rest) ≡ r
after_none None rest r e h = h
after_none (Some fault) rest r e h = absurd (cc)

pub none_at_all : (bytes : List ℕ) → NoFault bytes → frame_fault bytes ≡ None
unfolding frame_fault
none_at_all bytes h =
    after_none _ _ _ h.len (after_none _ _ _ h.few (after_none _ _ _ h.separators
    (after_none _ _ _ h.header (after_none _ _ _ h.trailer (after_none _ _ _ h.companies
    (after_none _ _ _ h.count refl))))))

first_at : (a : Option FrameFault) (rest : List (Option FrameFault)) (fault : FrameFault) → a ≡ Some fault → first_of (a ∷ rest) ≡ Some fault
first_at None rest fault e = absurd (cc)
first_at (Some other) rest fault e = e

-- the first fault, kind by kind

pub at_length : (bytes : List ℕ) (fault : FrameFault) → length_fault bytes ≡ Some fault → frame_fault bytes ≡ Some fault
unfolding frame_fault
at_length bytes fault h = first_at _ _ fault h

pub at_many : (bytes : List ℕ) (fault : FrameFault) → length_fault bytes ≡ None → too_many_fault bytes ≡ Some fault → frame_fault bytes ≡ Some fault
unfolding frame_fault
at_many bytes fault a h = after_none _ _ _ a (first_at _ _ fault h)

pub at_separator : (bytes : List ℕ) (fault : FrameFault) → length_fault bytes ≡ None → too_many_fault bytes ≡ None → separator_fault bytes ≡ Some fault → frame_fault bytes ≡ Some fault
unfolding frame_fault
at_separator bytes fault a b h = after_none _ _ _ a (after_none _ _ _ b (first_at _ _ fault h))

pub at_header : (bytes : List ℕ) (fault : FrameFault) → length_fault bytes ≡ None → too_many_fault bytes ≡ None → separator_fault bytes ≡ None
    → option_map faults.Header (header_fault (header_of bytes)) ≡ Some fault → frame_fault bytes ≡ Some fault
unfolding frame_fault
at_header bytes fault a b c h = after_none _ _ _ a (after_none _ _ _ b (after_none _ _ _ c (first_at _ _ fault h)))

pub at_trailer : (bytes : List ℕ) (fault : FrameFault) → length_fault bytes ≡ None → too_many_fault bytes ≡ None → separator_fault bytes ≡ None
    → header_fault (header_of bytes) ≡ None → option_map faults.Trailer (trailer_fault (trailer_of bytes)) ≡ Some fault → frame_fault bytes ≡ Some fault
unfolding frame_fault
at_trailer bytes fault a b c d h =
    after_none _ _ _ a (after_none _ _ _ b (after_none _ _ _ c (after_none _ _ _ (ap (option_map faults.Header) d) (first_at _ _ fault h))))

pub at_company : (bytes : List ℕ) (fault : FrameFault) → length_fault bytes ≡ None → too_many_fault bytes ≡ None → separator_fault bytes ≡ None
    → header_fault (header_of bytes) ≡ None → trailer_fault (trailer_of bytes) ≡ None → company_fault (header_of bytes) (trailer_of bytes) ≡ Some fault → frame_fault bytes ≡ Some fault
unfolding frame_fault
at_company bytes fault a b c d e h =
    after_none _ _ _ a (after_none _ _ _ b (after_none _ _ _ c (after_none _ _ _ (ap (option_map faults.Header) d)
    (after_none _ _ _ (ap (option_map faults.Trailer) e) (first_at _ _ fault h)))))

pub at_count : (bytes : List ℕ) (fault : FrameFault) → length_fault bytes ≡ None → too_many_fault bytes ≡ None → separator_fault bytes ≡ None
    → header_fault (header_of bytes) ≡ None → trailer_fault (trailer_of bytes) ≡ None → company_fault (header_of bytes) (trailer_of bytes) ≡ None
    → count_fault (found bytes) (trailer_of bytes) ≡ Some fault → frame_fault bytes ≡ Some fault
unfolding frame_fault
at_count bytes fault a b c d e f h =
    after_none _ _ _ a (after_none _ _ _ b (after_none _ _ _ c (after_none _ _ _ (ap (option_map faults.Header) d)
    (after_none _ _ _ (ap (option_map faults.Trailer) e) (after_none _ _ _ f (first_at _ _ fault h))))))

-- the companies and the counts, compared

pub company_fault_at : (header trailer sent told : List ℕ) (same : Bool) → company_of (columns header 10 14) ≡ Some sent → company_of (columns trailer 10 14) ≡ Some told
    → bytes_eq sent told ≡ same → company_fault header trailer ≡ when (not same) (faults.Company sent told)
unfolding company_fault
company_fault_at header trailer sent told same a b e =
    ap (λ o. o >>= λ x. (company_of (columns trailer 10 14) >>= λ y. when (not (bytes_eq x y)) (faults.Company x y))) a
    ∙ ap (λ o. o >>= λ y. when (not (bytes_eq sent y)) (faults.Company sent y)) b
    ∙ ap (λ t. when (not t) (faults.Company sent told)) e

pub count_fault_at : (found told : ℕ) (trailer : List ℕ) (same : Bool) → digits_number (columns trailer 15 23) ≡ Some told → (told == found) ≡ same
    → count_fault found trailer ≡ when (not same) (faults.Count told found)
unfolding count_fault
count_fault_at found told trailer same a e =
    ap (λ o. o >>= λ n. when (not (n == found)) (faults.Count n found)) a ∙ ap (λ t. when (not t) (faults.Count told found)) e

-- whole records, at least two
pub record Whole (s : Separator) (n : ℕ) (m : ℕ) : Type 0 where
  pub two : 2 ≤ m
  pub sizes : (n ≡ piece_size s * m) ⊎ (n + length (separator_bytes s) ≡ piece_size s * m)

or_cases : (a b : Bool) → (a || b) ≡ true → (a ≡ true) ⊎ (b ≡ true)
or_cases true b h = inl refl
or_cases false b h = inr h

sized_bare : (n : ℕ) → 1_024 ≤ n → ((n % 512 == 0) ≡ true) ⊎ (((n + 0) % 512 == 0) ≡ true) → Whole Bare n ((n + 0) / 512)
sized_bare n h (inl e) =
    let f : n % 512 ≡ 0 = eqb-true (n % 512) 0 e in
    record { two = omega arith; sizes = inl (omega arith) }
sized_bare n h (inr e) =
    let f : (n + 0) % 512 ≡ 0 = eqb-true ((n + 0) % 512) 0 e in
    record { two = omega arith; sizes = inr (omega arith) }

sized_lf : (n : ℕ) → 1_024 ≤ n → ((n % 513 == 0) ≡ true) ⊎ (((n + 1) % 513 == 0) ≡ true) → Whole Lf n ((n + 1) / 513)
sized_lf n h (inl e) =
    let f : n % 513 ≡ 0 = eqb-true (n % 513) 0 e in
    record { two = omega arith; sizes = inl (omega arith) }
sized_lf n h (inr e) =
    let f : (n + 1) % 513 ≡ 0 = eqb-true ((n + 1) % 513) 0 e in
    record { two = omega arith; sizes = inr (omega arith) }

sized_crlf : (n : ℕ) → 1_024 ≤ n → ((n % 514 == 0) ≡ true) ⊎ (((n + 2) % 514 == 0) ≡ true) → Whole CrLf n ((n + 2) / 514)
sized_crlf n h (inl e) =
    let f : n % 514 ≡ 0 = eqb-true (n % 514) 0 e in
    record { two = omega arith; sizes = inl (omega arith) }
sized_crlf n h (inr e) =
    let f : (n + 2) % 514 ≡ 0 = eqb-true ((n + 2) % 514) 0 e in
    record { two = omega arith; sizes = inr (omega arith) }

whole_by : (s : Separator) (n : ℕ) → 1_024 ≤ n → is_whole s n ≡ true → Whole s n (record_count s n)
whole_by Bare n h w = sized_bare n h (or_cases (n % 512 == 0) ((n + 0) % 512 == 0) w)
whole_by Lf n h w = sized_lf n h (or_cases (n % 513 == 0) ((n + 1) % 513 == 0) w)
whole_by CrLf n h w = sized_crlf n h (or_cases (n % 514 == 0) ((n + 2) % 514 == 0) w)

passed_parts : (a b : Bool) (f : Option FrameFault) (fault : FrameFault) → (f ≡ cond (a && b) None (Some fault)) → f ≡ None → (a ≡ true) × (b ≡ true)
passed_parts true true f fault e h = (refl, refl)
passed_parts true false f fault e h = absurd (cc)
passed_parts false b f fault e h = absurd (cc)

pub whole : (bytes : List ℕ) → length_fault bytes ≡ None → (1_024 ≤ length bytes) × Whole (separator_of bytes) (length bytes) (record_count (separator_of bytes) (length bytes))
unfolding length_fault
whole bytes h =
    let s = separator_of bytes in
    let n = length bytes in
    let both = passed_parts (nat_le 1_024 n) (is_whole s n) (length_fault bytes) (faults.Length n) refl h in
    let long : 1_024 ≤ n = grind (arith, nat_tests, both.0) in
    (long, whole_by s n long both.1)

pub least_next : (test : ℕ → Bool) (k n m : ℕ) → n ≡ suc m → test k ≡ true → least_failing test k n ≡ least_failing test (k + 1) m
least_next test k n m e h = ap (least_failing test k) e ∙ ap (λ b. cond b (least_failing test (k + 1) m) (Some k)) h

pub least_here : (test : ℕ → Bool) (k n m : ℕ) → n ≡ suc m → test k ≡ false → least_failing test k n ≡ Some k
least_here test k n m e h = ap (least_failing test k) e ∙ ap (λ b. cond b (least_failing test (k + 1) m) (Some k)) h

pub if_none : (b : Bool) (k : ℕ) (rest : Option ℕ) → cond b rest (Some k) ≡ None → (b ≡ true) × (rest ≡ None)
if_none true k rest h = (refl, h)
if_none false k rest h = absurd (cc)

none_failing : (test : ℕ → Bool) (k m : ℕ) → least_failing test k m ≡ None → (i : ℕ) → i < m → test (k + i) ≡ true
none_failing test k zero h i lt = absurd (omega arith)
none_failing test k (suc m) h zero lt = ap test (add-zero k) ∙ (if_none (test k) k (least_failing test (k + 1) m) h).0
none_failing test k (suc m) h (suc i) lt =
    let rest = (if_none (test k) k (least_failing test (k + 1) m) h).1 in
    let same : k + suc i ≡ k + 1 + i = omega arith in
    ap test same ∙ none_failing test (k + 1) m rest i (omega arith)

all_pass : (test : ℕ → Bool) (k m : ℕ) → ((i : ℕ) → i < m → test (k + i) ≡ true) → least_failing test k m ≡ None
all_pass test k zero h = refl
all_pass test k (suc m) h =
    let here : test k ≡ true = ap test (sym (add-zero k)) ∙ h zero (omega arith) in
    let rest = all_pass test (k + 1) m (λ i lt. (let same : k + 1 + i ≡ k + suc i = omega arith in ap test same ∙ h (suc i) (omega arith))) in
    ap (λ b. cond b (least_failing test (k + 1) m) (Some k)) here ∙ rest

mapped_none : (found : Option ℕ) → option_map faults.Separator found ≡ None → found ≡ None
mapped_none None h = refl
mapped_none (Some k) h = absurd (cc)

-- where the separator is looked for behind record i, from 0
behind : (s : Separator) (bytes : List ℕ) (i : ℕ) → drop (piece_size s * (1 + i - 1) + 512) bytes ≡ drop 512 (drop (piece_size s * i) bytes)
behind s bytes i =
    let e : 1 + i - 1 ≡ i = omega arith in
    ap (λ n. drop (piece_size s * n + 512) bytes) e ∙ sym (drop-drop 512 (piece_size s * i) bytes)

pub followed_records : (bytes : List ℕ) → separator_fault bytes ≡ None → Followed (separator_of bytes) bytes (length bytes / piece_size (separator_of bytes))
unfolding separator_fault
followed_records bytes h = λ i lt.
    let s = separator_of bytes in
    let len = length (separator_bytes s) in
    let passed = none_failing (is_followed s bytes) 1 (length bytes / piece_size s) (mapped_none _ h) i lt in
    ap (take len) (sym (behind s bytes i)) ∙ (bytes_eq-Decides _ _).0 passed

pub no_separator_fault : (bytes : List ℕ) → Followed (separator_of bytes) bytes (length bytes / piece_size (separator_of bytes)) → separator_fault bytes ≡ None
unfolding separator_fault
no_separator_fault bytes h =
    let s = separator_of bytes in
    let len = length (separator_bytes s) in
    ap (option_map faults.Separator) (all_pass (is_followed s bytes) 1 (length bytes / piece_size s)
    (λ i lt. (bytes_eq-Decides _ _).1 (ap (take len) (behind s bytes i) ∙ h i lt)))
