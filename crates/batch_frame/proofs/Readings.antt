-- The laws of the grammar.
use Rattle.std.proofs.Common.{◌≡◌, ◌≢◌, ℕ, suc, ◌+◌, ◌-◌, ◌*◌, ◌/◌, ◌<◌, ◌≤◌, inl, inr, Bool, true, false, cond, ◌&&◌, ◌==◌, nat_le, List, [], ◌∷◌, ◌++◌, length, take, drop, get_or, refl, ap, sym, ◌∙◌, subst, arith, Option, Some, None, is_some, option_map, unwrap_or, length-append, append-nil}
use Rattle.std.proofs.lemmas.Bool.{eqb-true}
use Rattle.std.proofs.lemmas.Bool.Decides.{nat_tests}
use Rattle.std.proofs.lemmas.List.{drop-append-le, take-append-le, length-drop, get_or-drop, get_or-take}
use Rattle.std.proofs.lemmas.List.Elements.{recursion_from_All}
use Rattle.std.proofs.Math.Seq.{take-append_seam}
use Rattle.std.specs.List.{All, AllByRecursion}
use Rattle.ali_base.specs.Steps.{when}
use Rattle.ali_base.specs.Columns.{columns}
use Rattle.ali_base.specs.Company.{company_of, is_company}
use Rattle.ali_base.specs.Numbers.{cycle_of}
use Rattle.ali_base.specs.CivilDay.{CivilDay, day_of}
use Rattle.batch_frame.specs.declared.fault.FrameFault.TheVariants as faults
use Rattle.batch_frame.specs.declared.fault.TheConstants.{MOST_RECORDS}
use Rattle.batch_frame.specs.declared.separator.Separator.{Separator}
use Rattle.batch_frame.specs.declared.separator.Separator.TheVariants.{Bare, Lf, CrLf}
use Rattle.batch_frame.specs.CarrierFile.{CarrierFile, IsFile, Spells, IsRecord, LooksSeparated, separator_bytes, separator_of, separated, piece_size, record_count, record_at, records_in, all_records, file_in}
use Rattle.batch_frame.specs.FrameFault.{IsRead, AreSound, is_whole, length_fault, too_many_fault, found, header_of, trailer_of, header_fault, trailer_fault, company_fault, count_fault, frame_fault, file_of, first_day}
use Rattle.batch_frame.specs.Told.{frame_of}
use Rattle.batch_frame.specs.declared.file.FileFrame.{FileFrame}
use Rattle.batch_frame.proofs.Cutting.{Followed, drop_none, records_in-get, separated-length, followed_separated}
use Rattle.batch_frame.proofs.Faults.{if_none, no_fault, none_at_all, no_separator_fault}
use Rattle.batch_frame.proofs.Records.{parts, counted, below, full_count, inside, some_piece, sized, spelled_sizes, found_few, told}

-- the separator behind each record but a last one
spelled_followed : (bytes : List ℕ) (s : Separator) (all : List (List ℕ)) → AllByRecursion IsRecord all → Spells bytes s all → Followed s bytes (length bytes / piece_size s)
spelled_followed bytes s all w (inl e) = λ k lt.
    ap (λ z. take (length (separator_bytes s)) (drop 512 (drop (piece_size s * k) z))) (e ∙ sym (append-nil (separated s all)))
    ∙ followed_separated s all [] w k (omega (arith, full_count s (length bytes) (length all) (ap length e ∙ separated-length s all w)))
spelled_followed bytes s all w (inr e) = λ k lt.
    let sep = separator_bytes s in
    let len = length sep in
    let p = piece_size s in
    let sizes : length bytes + len ≡ p * length all = sym (length-append bytes sep) ∙ ap length e ∙ separated-length s all w in
    let wide = below s (length bytes) k lt in
    let at = drop (p * k) bytes in
    sym (take-append-le len (drop 512 at) sep (omega (arith, length-drop (p * k) bytes, length-drop 512 at)))
    ∙ ap (take len) (sym (drop-append-le 512 at sep (omega (arith, length-drop (p * k) bytes))))
    ∙ ap (λ z. take len (drop 512 z)) (sym (drop-append-le (p * k) bytes sep (omega arith)))
    ∙ ap (λ z. take len (drop 512 (drop (p * k) z))) (e ∙ sym (append-nil (separated s all)))
    ∙ followed_separated s all [] w k (inside s (length bytes) (length all) k sizes lt)

-- the separator that the bytes show
shown : ℕ → ℕ → Separator
shown x y = cond (x == 10) Lf (cond ((x == 13) && (y == 10)) CrLf Bare)

byte_behind : (xs ys : List ℕ) (n i : ℕ) → take n (drop 512 xs) ≡ ys → i < n → get_or xs (512 + i) 0 ≡ get_or ys i 0
byte_behind xs ys n i e h = sym (get_or-drop 512 xs i 0) ∙ sym (get_or-take n (drop 512 xs) i 0 h) ∙ ap (λ z. get_or z i 0) e

not_both : (a b : Bool) → ((a ≡ true) → (b ≡ true) → ⊥) → (a && b) ≡ false
not_both true true h = absurd (h refl refl)
not_both true false h = refl
not_both false b h = refl

shown_bare : (x y : ℕ) → x ≢ 10 → ((x ≡ 13) → (y ≡ 10) → ⊥) → shown x y ≡ Bare
unfolding shown
shown_bare x y a b =
    let f : (x == 10) ≡ false = grind (arith, nat_tests) in
    let g : ((x == 13) && (y == 10)) ≡ false = not_both _ _ (λ p q. b (eqb-true x 13 p) (eqb-true y 10 q)) in
    ap (λ t. cond t Lf (cond ((x == 13) && (y == 10)) CrLf Bare)) f ∙ ap (λ t. cond t CrLf Bare) g

shows : (bytes : List ℕ) (s : Separator) → take (length (separator_bytes s)) (drop 512 bytes) ≡ separator_bytes s → ¬ LooksSeparated bytes s → separator_of bytes ≡ s
unfolding shown
shows bytes Bare h other = shown_bare (get_or bytes 512 0) (get_or bytes 513 0) (λ e. other (refl, inl e)) (λ e f. other (refl, inr (e, f)))
shows bytes Lf h other =
    ap (λ x. shown x (get_or bytes 513 0)) (byte_behind bytes _ 1 0 h (omega arith))
shows bytes CrLf h other =
    ap (λ x. shown x (get_or bytes 513 0)) (byte_behind bytes _ 2 0 h (omega arith)) ∙ ap (λ y. shown 13 y) (byte_behind bytes _ 2 1 h (omega arith))

pub read_again : (bytes header trailer : List ℕ) (records : List (List ℕ)) (s : Separator)
    → All IsRecord (all_records header records trailer) → Spells bytes s (all_records header records trailer) → ¬ LooksSeparated bytes s → IsFile bytes s header records trailer
read_again bytes header trailer records s widths text other =
    let all = all_records header records trailer in
    let w = recursion_from_All IsRecord all widths in
    let two : 2 ≤ length all = omega (arith, length-append records (trailer ∷ [])) in
    let some = some_piece s (length bytes) (length all) (spelled_sizes bytes s all w text) two in
    let first : take (length (separator_bytes s)) (drop 512 bytes) ≡ separator_bytes s =
    ap (λ z. take (length (separator_bytes s)) (drop 512 z)) (sym (drop_none (piece_size s) bytes)) ∙ spelled_followed bytes s all w text 0 some in
    record { separator = shows bytes s first other; widths = widths; text = text }

found_of : (bytes : List ℕ) (s : Separator) (header : List ℕ) (records : List (List ℕ)) (trailer : List ℕ) → IsFile bytes s header records trailer → found bytes ≡ length records
found_of bytes s header records trailer f =
    let m = counted s (length bytes) (length records + 2) (parts bytes s header records trailer f).sizes in
    ap (λ s. record_count s (length bytes) - 2) f.separator ∙ omega (arith, m)

header_same : (bytes : List ℕ) (s : Separator) (header : List ℕ) (records : List (List ℕ)) (trailer : List ℕ) → IsFile bytes s header records trailer → header_of bytes ≡ header
header_same bytes s header records trailer f =
    let p = parts bytes s header records trailer f in
    ap (λ s. record_at s 0 bytes) f.separator ∙ sym (records_in-get s (length records + 2) 0 bytes [] (omega arith)) ∙ ap (λ all. get_or all 0 []) p.cut

last_of : (xs : List (List ℕ)) (x d : List ℕ) → get_or (xs ++ x ∷ []) (length xs) d ≡ x
last_of [] x d = refl
last_of (y ∷ ys) x d = last_of ys x d

trailer_same : (bytes : List ℕ) (s : Separator) (header : List ℕ) (records : List (List ℕ)) (trailer : List ℕ) → IsFile bytes s header records trailer → trailer_of bytes ≡ trailer
trailer_same bytes s header records trailer f =
    let p = parts bytes s header records trailer f in
    let next : length records + 1 ≡ suc (length records) = omega arith in
    ap (λ s. record_at s (found bytes + 1) bytes) f.separator
    ∙ ap (λ n. record_at s (n + 1) bytes) (found_of bytes s header records trailer f)
    ∙ sym (records_in-get s (length records + 2) (length records + 1) bytes [] (omega arith))
    ∙ ap (λ all. get_or all (length records + 1) []) p.cut
    ∙ ap (λ n. get_or (all_records header records trailer) n []) next
    ∙ last_of records trailer []

records_same : (bytes : List ℕ) (s : Separator) (header : List ℕ) (records : List (List ℕ)) (trailer : List ℕ) → IsFile bytes s header records trailer
    → take (found bytes) (drop 1 (records_in (separator_of bytes) (found bytes + 2) bytes)) ≡ records
records_same bytes s header records trailer f =
    let p = parts bytes s header records trailer f in
    ap (λ s. take (found bytes) (drop 1 (records_in s (found bytes + 2) bytes))) f.separator
    ∙ ap (λ n. take n (drop 1 (records_in s (n + 2) bytes))) (found_of bytes s header records trailer f)
    ∙ ap (λ all. take (length records) (drop 1 all)) p.cut
    ∙ take-append_seam records (trailer ∷ [])

pub one_file : (bytes header head trailer tail : List ℕ) (records others : List (List ℕ)) (s t : Separator)
    → IsFile bytes s header records trailer → IsFile bytes t head others tail → (s ≡ t) × (header ≡ head) × (records ≡ others) × (trailer ≡ tail)
one_file bytes header head trailer tail records others s t f g = (
  sym f.separator ∙ g.separator,
  sym (header_same bytes s header records trailer f) ∙ header_same bytes t head others tail g,
  sym (records_same bytes s header records trailer f) ∙ records_same bytes t head others tail g,
  sym (trailer_same bytes s header records trailer f) ∙ trailer_same bytes t head others tail g,
)

mapped_header : (found : Option ℕ) → option_map faults.Header found ≡ None → found ≡ None
mapped_header None h = refl
mapped_header (Some k) h = absurd (cc)

mapped_trailer : (found : Option ℕ) → option_map faults.Trailer found ≡ None → found ≡ None
mapped_trailer None h = refl
mapped_trailer (Some k) h = absurd (cc)

pub parts_sound : (bytes header trailer : List ℕ) (records : List (List ℕ)) (s : Separator) → IsFile bytes s header records trailer → frame_fault bytes ≡ None → AreSound header records trailer
parts_sound bytes header trailer records s f h =
    let none = no_fault bytes h in
    let first = header_same bytes s header records trailer f in
    let last = trailer_same bytes s header records trailer f in
    let count = found_of bytes s header records trailer f in
    record {
      sound_header = ap header_fault (sym first) ∙ mapped_header _ none.header;
      sound_trailer = ap trailer_fault (sym last) ∙ mapped_trailer _ none.trailer;
      one_company = ap (λ h. company_fault h trailer) (sym first) ∙ ap (company_fault (header_of bytes)) (sym last) ∙ none.companies;
      true_count = ap (λ n. count_fault n trailer) (sym count) ∙ ap (count_fault (found bytes)) (sym last) ∙ none.count;
      few = omega (arith, count, found_few bytes none.few);
    }

no_length_fault : (bytes : List ℕ) → 1_024 ≤ length bytes → is_whole (separator_of bytes) (length bytes) ≡ true → length_fault bytes ≡ None
unfolding length_fault
no_length_fault bytes long all =
    let n = length bytes in
    let le : nat_le 1_024 n ≡ true = grind (arith, nat_tests) in
    ap (λ b. cond (b && is_whole (separator_of bytes) n) None (Some (faults.Length n))) le ∙ ap (λ b. cond b None (Some (faults.Length n))) all

not_too_many : (bytes : List ℕ) → found bytes ≤ MOST_RECORDS → too_many_fault bytes ≡ None
unfolding too_many_fault
not_too_many bytes h =
    let le : nat_le (found bytes) MOST_RECORDS ≡ true = grind (arith, nat_tests) in
    ap (λ b. cond b None (Some (faults.TooMany (found bytes)))) le

pub sound_parts : (bytes header trailer : List ℕ) (records : List (List ℕ)) (s : Separator) → IsFile bytes s header records trailer → AreSound header records trailer → frame_fault bytes ≡ None
sound_parts bytes header trailer records s f h =
    let all = all_records header records trailer in
    let w = recursion_from_All IsRecord all f.widths in
    let first = header_same bytes s header records trailer f in
    let last = trailer_same bytes s header records trailer f in
    let count = found_of bytes s header records trailer f in
    let size = sized s (length bytes) (length records + 2) (parts bytes s header records trailer f).sizes (omega arith) in
    let F : Separator → Type 0 = λ s. Followed s bytes (length bytes / piece_size s) in
    none_at_all bytes (record {
      len = no_length_fault bytes size.0 (ap (λ s. is_whole s (length bytes)) f.separator ∙ size.1);
      few = not_too_many bytes (omega (arith, count, h.few));
      separators = no_separator_fault bytes (subst F (sym f.separator) (spelled_followed bytes s all w f.text));
      header = ap (λ h. option_map faults.Header (header_fault h)) first ∙ ap (option_map faults.Header) h.sound_header;
      trailer = ap (λ h. option_map faults.Trailer (trailer_fault h)) last ∙ ap (option_map faults.Trailer) h.sound_trailer;
      companies = ap (λ h. company_fault h (trailer_of bytes)) first ∙ ap (company_fault header) last ∙ h.one_company;
      count = ap (λ n. count_fault n (trailer_of bytes)) count ∙ ap (count_fault (length records)) last ∙ h.true_count;
    })

some_value : {A : Type 0} (o : Option A) → is_some o ≡ true → (x : A) × (o ≡ Some x)
some_value None h = absurd (cc)
some_value (Some x) h = (x, refl)

-- a header without a fault tells a day, a company and a cycle
pub some_told : (header : List ℕ) → header_fault header ≡ None
    → (company : List ℕ) × (cycle : ℕ) × (day : CivilDay) × (company_of (columns header 10 14) ≡ Some company) × (cycle_of (columns header 15 20) ≡ Some cycle) × (day_of (columns header 4 9) ≡ Some day)
unfolding header_fault
some_told header h =
    let a = if_none _ 1 _ h in
    let b = if_none _ 2 _ a.1 in
    let c = if_none _ 3 _ b.1 in
    let d = if_none _ 4 _ c.1 in
    let day = some_value (day_of (columns header 4 9)) b.0 in
    let company = some_value (company_of (columns header 10 14)) c.0 in
    let cycle = some_value (cycle_of (columns header 15 20)) d.0 in
    (company.0, cycle.0, day.0, company.1, cycle.1, day.1)

pub some_file : (bytes : List ℕ) → frame_fault bytes ≡ None → (file : CarrierFile) × IsRead bytes file
some_file bytes h =
    let none = no_fault bytes h in
    let t = some_told (header_of bytes) (mapped_header _ none.header) in
    (file_in bytes (separator_of bytes) (found bytes) t.0 t.1 t.2, told bytes (separator_of bytes) (found bytes) t.1 t.0 t.2 refl refl none t.3 t.4 t.5)

some_same : {A : Type 0} (x y : A) → Some x ≡ Some y → x ≡ y
some_same x y h = cc

pub one_whole_file : (bytes : List ℕ) (file other : CarrierFile) → IsRead bytes file → IsRead bytes other → file ≡ other
one_whole_file bytes file other f g =
    let e = one_file bytes file.header other.header file.trailer other.trailer file.records other.records file.separator other.separator f.parts g.parts in
    let company = some_same file.company other.company (sym f.company ∙ ap (λ h. company_of (columns h 10 14)) e.1 ∙ g.company) in
    let cycle = some_same file.cycle other.cycle (sym f.cycle ∙ ap (λ h. cycle_of (columns h 15 20)) e.1 ∙ g.cycle) in
    let day = some_same file.day other.day (sym f.day ∙ ap (λ h. day_of (columns h 4 9)) e.1 ∙ g.day) in
    let count = f.count ∙ ap length e.2 ∙ sym g.count in
    ap (λ x. record file { separator = x }) e.0
    ∙ ap (λ x. record file { separator = other.separator; header = x }) e.1
    ∙ ap (λ x. record file { separator = other.separator; header = other.header; records = x }) e.2
    ∙ ap (λ x. record file { separator = other.separator; header = other.header; records = other.records; trailer = x }) e.3
    ∙ ap (λ x. record other { company = x; cycle = file.cycle; day = file.day; count = file.count }) company
    ∙ ap (λ x. record other { cycle = x; day = file.day; count = file.count }) cycle
    ∙ ap (λ x. record other { day = x; count = file.count }) day
    ∙ ap (λ x. record other { count = x }) count

same_company : (bytes company : List ℕ) → company_of bytes ≡ Some company → company_of bytes ≡ Some bytes
same_company bytes company h = by_test (is_company bytes) h
  where
    by_test : (b : Bool) → when b bytes ≡ Some company → when b bytes ≡ Some bytes
    by_test true h = refl
    by_test false h = cc

told_or : {A : Type 0} (o : Option A) (d x : A) → o ≡ Some x → o ≡ Some (unwrap_or o d)
told_or None d x h = cc
told_or (Some y) d x h = refl

-- bytes without a fault are the file that they are told to be
pub file_of_read : (bytes : List ℕ) → frame_fault bytes ≡ None → IsRead bytes (file_of bytes)
unfolding file_of
file_of_read bytes h =
    let none = no_fault bytes h in
    let header = header_of bytes in
    let t = some_told header (mapped_header _ none.header) in
    told bytes (separator_of bytes) (found bytes) (unwrap_or (cycle_of (columns header 15 20)) 0) (columns header 10 14) (unwrap_or (day_of (columns header 4 9)) first_day) refl refl none
    (same_company (columns header 10 14) t.0 t.3) (told_or (cycle_of (columns header 15 20)) 0 t.1 t.4) (told_or (day_of (columns header 4 9)) first_day t.2 t.5)

-- what is read of bytes is the file in them
pub is_file_of : (bytes : List ℕ) (file : CarrierFile) → IsRead bytes file → file ≡ file_of bytes
is_file_of bytes file f = one_whole_file bytes file (file_of bytes) f (file_of_read bytes f.sound)

-- what a file told when it was read gives the file again
pub told_again : (bytes : List ℕ) (frame : FileFrame) → frame ≡ frame_of (file_of bytes) → file_in bytes frame.separator frame.count frame.company frame.cycle frame.day ≡ file_of bytes
unfolding file_of
told_again bytes frame told = ap (λ (f : FileFrame). file_in bytes f.separator f.count f.company f.cycle f.day) told
