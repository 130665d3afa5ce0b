-- The refused records, one by one, and their lengths.
use Rattle.std.proofs.Common.{◌≡◌, ℕ, suc, ◌+◌, ◌-◌, ◌*◌, ◌%◌, ◌^◌, ◌<◌, ◌≤◌, ◌≢◌, ◌==◌, not, Bool, true, false, cond, List, [], ◌∷◌, ◌++◌, length, take, drop, get_or, replicate, refl, sym, ap, ◌∙◌, arith, length-append, length-drop, append-nil}
use Rattle.std.specs.List.{count_by, AllByRecursion}
use Rattle.std.proofs.Math.Seq.{drop-cons}
use Rattle.std.proofs.lemmas.Bool.Decides.{nat_tests}
use Rattle.std.specs.Fmt.{decimal}
use Rattle.std.proofs.lemmas.Fmt.{length-decimal-le}
use Rattle.std.proofs.lemmas.List.{length-take-le, length-replicate, drop_all}
use Rattle.std.proofs.lemmas.List.Elements.{recursion_from_All}
use Rattle.std.proofs.lemmas.List.Sums.{sum_by-cons, count_by-le-length}
use Rattle.std.proofs.lemmas.Grind.{flat_map-append}
use Rattle.ali_base.specs.Numbers.{zero_padded}
use Rattle.batch_frame.specs.declared.separator.Separator.{Separator}
use Rattle.batch_frame.specs.declared.separator.Separator.TheVariants.{Bare, Lf, CrLf}
use Rattle.batch_frame.specs.CarrierFile.{CarrierFile, separator_bytes, separated, piece_size, all_records, IsRecord}
use Rattle.batch_frame.specs.FrameFault.{IsSomeFile}
use Rattle.batch_frame.proofs.Records.{few}
use Rattle.batch_frame.proofs.Cutting.{separated-length}
use Rattle.error_files.specs.ErrorFile.{overwritten, refused_record, refused_records, counted_trailer, error_file}

-- the refused records from record i on
abbrev pub refused_from : List (List ℕ) → List ℕ → ℕ → List (List ℕ)
refused_from records codes i = refused_records (drop i records) (drop i codes)

no_codes : (records : List (List ℕ)) → refused_records records [] ≡ []
no_codes [] = refl
no_codes (r ∷ rs) = refl

pub refused_none : (records : List (List ℕ)) (codes : List ℕ) (i : ℕ) → length codes ≤ i → refused_from records codes i ≡ []
refused_none records codes i h = ap (refused_records (drop i records)) (drop_all i codes h) ∙ no_codes (drop i records)

step : (records : List (List ℕ)) (codes : List ℕ) (i : ℕ) → i < length records → i < length codes
    → refused_from records codes i ≡ refused_records (get_or records i [] ∷ drop (suc i) records) (get_or codes i 0 ∷ drop (suc i) codes)
step records codes i h k =
    ap (λ z. refused_records z (drop i codes)) (drop-cons records i [] h) ∙ ap (refused_records (get_or records i [] ∷ drop (suc i) records)) (drop-cons codes i 0 k)

next : (records : List (List ℕ)) (codes : List ℕ) (i : ℕ) → refused_records (drop (suc i) records) (drop (suc i) codes) ≡ refused_from records codes (i + 1)
next records codes i = let e : suc i ≡ i + 1 = omega arith in ap (λ n. refused_records (drop n records) (drop n codes)) e

-- an accepted record is passed over
pub accepted_step : (records : List (List ℕ)) (codes : List ℕ) (i : ℕ) → i < length records → i < length codes → get_or codes i 0 ≡ 0
    → refused_from records codes i ≡ refused_from records codes (i + 1)
accepted_step records codes i h k e =
    step records codes i h k
    ∙ ap (λ code. refused_records (get_or records i [] ∷ drop (suc i) records) (code ∷ drop (suc i) codes)) e
    ∙ next records codes i

-- a refused record is the next
pub refused_step : (records : List (List ℕ)) (codes : List ℕ) (i : ℕ) → i < length records → i < length codes → get_or codes i 0 ≢ 0
    → refused_from records codes i ≡ refused_record (get_or records i []) (get_or codes i 0) ∷ refused_from records codes (i + 1)
refused_step records codes i h k e =
    let other : (get_or codes i 0 == 0) ≡ false = grind (arith, nat_tests) in
    let record_here = refused_record (get_or records i []) (get_or codes i 0) in
    step records codes i h k
    ∙ ap (λ b. cond b (refused_records (drop (suc i) records) (drop (suc i) codes)) (record_here ∷ refused_records (drop (suc i) records) (drop (suc i) codes))) other
    ∙ ap (λ z. record_here ∷ z) (next records codes i)

-- the same of the bytes that were made
pub refused_lent : (records : List (List ℕ)) (codes : List ℕ) (i : ℕ) (lent bytes : List ℕ) → i < length records → i < length codes → get_or codes i 0 ≢ 0
    → bytes ≡ refused_record lent (get_or codes i 0) → lent ≡ get_or records (i + 1 - 1) [] → refused_from records codes i ≡ bytes ∷ refused_from records codes (i + 1)
refused_lent records codes i lent bytes h k e made is =
    let back : i + 1 - 1 ≡ i = omega arith in
    let same : bytes ≡ refused_record (get_or records i []) (get_or codes i 0) =
    made ∙ ap (λ z. refused_record z (get_or codes i 0)) (is ∙ ap (λ n. get_or records n []) back) in
    refused_step records codes i h k e ∙ ap (λ z. z ∷ refused_from records codes (i + 1)) (sym same)

-- how many records are refused

chosen-length : (b : Bool) (x : List ℕ) (xs : List (List ℕ)) → length (cond b xs (x ∷ xs)) ≡ cond (not b) 1 0 + length xs
chosen-length true x xs = omega arith
chosen-length false x xs = omega arith

pub refused_count : (records : List (List ℕ)) (codes : List ℕ) → length codes ≡ length records → length (refused_records records codes) ≡ count_by (λ code. not (code == 0)) codes
refused_count [] [] h = refl
refused_count [] (c ∷ cs) h = absurd (omega arith)
refused_count (r ∷ rs) [] h = absurd (omega arith)
refused_count (r ∷ rs) (c ∷ cs) h =
    chosen-length (c == 0) (refused_record r c) (refused_records rs cs) ∙ ap (λ n. cond (not (c == 0)) 1 0 + n) (refused_count rs cs (omega arith))
    ∙ sym (sum_by-cons (λ code. cond (not (code == 0)) 1 0) c cs)

-- the widths

overwritten-length : (bytes text : List ℕ) (i j : ℕ) → length bytes ≡ 512 → 1 ≤ i → i ≤ j → j ≤ 512 → length text + i ≡ j + 1 → length (overwritten bytes i j text) ≡ 512
overwritten-length bytes text i j w a b c t =
    omega (arith, length-append (take (i - 1) bytes ++ text) (drop j bytes), length-append (take (i - 1) bytes) text, length-take-le (i - 1) bytes (omega arith), length-drop j bytes)

zero_padded-length : (width n : ℕ) → 0 < width → n < 10 ^ width → n < 2 ^ 64 → length (zero_padded width n) ≡ width
zero_padded-length width n some fits small =
    omega (arith, length-append (replicate (width - length (decimal n)) 48) (decimal n), length-replicate {A = ℕ} (width - length (decimal n)) 48, length-decimal-le width n some fits small)

chosen-widths : (b : Bool) (x : List ℕ) (xs : List (List ℕ)) → IsRecord x → AllByRecursion IsRecord xs → AllByRecursion IsRecord (cond b xs (x ∷ xs))
chosen-widths true x xs w h = h
chosen-widths false x xs w h = (w, h)

pub refused_widths : (records : List (List ℕ)) (codes : List ℕ) → AllByRecursion IsRecord records → AllByRecursion IsRecord (refused_records records codes)
refused_widths [] codes h = _
refused_widths (r ∷ rs) [] h = _
refused_widths (r ∷ rs) (c ∷ cs) h =
    let digits = zero_padded-length 3 (c % 1000) (omega arith) (omega arith) (omega arith) in
    let wide = overwritten-length r (zero_padded 3 (c % 1000)) 509 511 h.0 (omega arith) (omega arith) (omega arith) (omega (arith, digits)) in
    chosen-widths (c == 0) (refused_record r c) (refused_records rs cs) wide (refused_widths rs cs h.1)

last_width : (records : List (List ℕ)) (trailer other : List ℕ) → AllByRecursion IsRecord (records ++ trailer ∷ []) → (AllByRecursion IsRecord records) × IsRecord trailer
last_width [] trailer other h = (_, h.0)
last_width (r ∷ rs) trailer other h = (let t = last_width rs trailer other h.1 in ((h.0, t.0), t.1))

with_last : (records : List (List ℕ)) (trailer : List ℕ) → AllByRecursion IsRecord records → IsRecord trailer → AllByRecursion IsRecord (records ++ trailer ∷ [])
with_last [] trailer h w = (w, _)
with_last (r ∷ rs) trailer h w = (h.0, with_last rs trailer h.1 w)

pub error_file-length : (file : CarrierFile) (codes : List ℕ) → IsSomeFile file → length codes ≡ file.count
    → length (error_file file codes) ≡ piece_size file.separator * (count_by (λ code. not (code == 0)) codes + 2)
error_file-length file codes is same =
    let read = is.1 in
    let s = file.separator in
    let refused = refused_records file.records codes in
    let all = all_records file.header file.records file.trailer in
    let w = recursion_from_All IsRecord all read.parts.widths in
    let last = last_width file.records file.trailer [] w.1 in
    let count = refused_count file.records codes (omega (arith, same, read.count)) in
    let limit : length refused ≤ 10_000 = omega (arith, count, count_by-le-length (λ code. not (code == 0)) codes, same, few is.0 file read) in
    let digits = zero_padded-length 9 (length refused) (omega arith) (omega arith) (omega arith) in
    let trailer = overwritten-length file.trailer (zero_padded 9 (length refused)) 15 23 last.1 (omega arith) (omega arith) (omega arith) (omega (arith, digits)) in
    let records = refused_widths file.records codes last.0 in
    let widths : AllByRecursion IsRecord (all_records file.header refused (counted_trailer file.trailer (length refused))) = (w.0, with_last refused (counted_trailer file.trailer (length refused)) records trailer) in
    let number : length (all_records file.header refused (counted_trailer file.trailer (length refused))) ≡ length refused + 2 =
    omega (arith, length-append refused (counted_trailer file.trailer (length refused) ∷ [])) in
    separated-length s (all_records file.header refused (counted_trailer file.trailer (length refused))) widths
    ∙ ap (λ n. piece_size s * n) (number ∙ ap (λ n. n + 2) count)

pub small_pieces : (s : Separator) → piece_size s ≤ 514
small_pieces Bare = omega arith
small_pieces Lf = omega arith
small_pieces CrLf = omega arith

-- the pieces in which the error file is put: what was lent of the header, the refused records, and the trailer that was made
pub error_file-pieces : (file : CarrierFile) (codes : List ℕ) (header trailer made : List ℕ) (s t : Separator) (count : ℕ)
    → header ≡ file.header → s ≡ file.separator → t ≡ file.separator → trailer ≡ file.trailer → count ≡ length (refused_records file.records codes) → made ≡ counted_trailer trailer count
    → error_file file codes ≡ (header ++ separator_bytes s) ++ (separated file.separator (refused_records file.records codes) ++ (made ++ separator_bytes t))
error_file-pieces file codes header trailer made s t count h e f g n m =
    let u = file.separator in
    let refused = refused_records file.records codes in
    let last = counted_trailer file.trailer (length refused) in
    let made_so : made ≡ last = m ∙ ap (λ z. counted_trailer z count) g ∙ ap (counted_trailer file.trailer) n in
    ap (λ z. (file.header ++ separator_bytes u) ++ z)
    (flat_map-append (λ bytes. bytes ++ separator_bytes u) refused (last ∷ []) ∙ ap (λ z. separated u refused ++ z) (append-nil (last ++ separator_bytes u)))
    ∙ ap (λ z. (z ++ separator_bytes u) ++ (separated u refused ++ (last ++ separator_bytes u))) (sym h)
    ∙ ap (λ z. (header ++ separator_bytes z) ++ (separated u refused ++ (last ++ separator_bytes u))) (sym e)
    ∙ ap (λ z. (header ++ separator_bytes s) ++ (separated u refused ++ (z ++ separator_bytes u))) (sym made_so)
    ∙ ap (λ z. (header ++ separator_bytes s) ++ (separated u refused ++ (made ++ separator_bytes z))) (sym f)
