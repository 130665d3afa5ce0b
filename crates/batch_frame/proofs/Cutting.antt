-- Bytes cut into records, and records put one after the other.
use Rattle.std.proofs.Common.{◌≡◌, ℕ, zero, suc, ◌+◌, ◌*◌, ◌<◌, ◌≤◌, List, [], ◌∷◌, ◌++◌, length, take, drop, get_or, refl, ap, sym, ◌∙◌, arith, append_assoc, length-append, append-nil}
use Rattle.std.specs.List.{AllByRecursion}
use Rattle.std.proofs.lemmas.List.{take-append-le, drop-append-le, take-append-drop, drop-drop, drop-take, take-take, length-drop, length-take-le, take_all}
use Rattle.std.proofs.Math.Seq.{take-append_seam, drop-append_seam}
use Rattle.batch_frame.specs.declared.separator.Separator.{Separator}
use Rattle.batch_frame.specs.CarrierFile.{separator_bytes, piece_size, record_at, records_in, separated, IsRecord}

-- the separator stands behind each of the first m records
abbrev pub Followed : Separator → List ℕ → ℕ → Type 0
Followed s bytes m = (k : ℕ) → k < m → take (length (separator_bytes s)) (drop 512 (drop (piece_size s * k) bytes)) ≡ separator_bytes s

pub drop_none : (p : ℕ) (xs : List ℕ) → drop (p * 0) xs ≡ xs
drop_none p xs =
    let e : p * 0 ≡ 0 = omega arith in
    ap (λ n. drop n xs) e

pub drop_next : (p k : ℕ) (xs : List ℕ) → drop (p * suc k) xs ≡ drop (p * k) (drop p xs)
drop_next p k xs =
    let e : p * suc k ≡ p + p * k = omega arith in
    ap (λ n. drop n xs) e ∙ sym (drop-drop (p * k) p xs)

take_plus : (n k : ℕ) (xs : List ℕ) → take (n + k) xs ≡ take n xs ++ take k (drop n xs)
take_plus n k xs = sym (take-append-drop n (take (n + k) xs)) ∙ ap (λ z. z ++ drop n (take (n + k) xs)) (take-take n (n + k) xs (omega arith)) ∙ ap (λ z. take n xs ++ z) (drop-take n k xs)

pub records_in-length : (s : Separator) (m : ℕ) (bytes : List ℕ) → length (records_in s m bytes) ≡ m
records_in-length s zero bytes = refl
records_in-length s (suc m) bytes = ap suc (records_in-length s m (drop (piece_size s) bytes))

pub records_in-get : (s : Separator) (m i : ℕ) (bytes d : List ℕ) → i < m → get_or (records_in s m bytes) i d ≡ record_at s i bytes
records_in-get s zero i bytes d h = absurd (omega arith)
records_in-get s (suc m) zero bytes d h = ap (take 512) (sym (drop_none (piece_size s) bytes))
records_in-get s (suc m) (suc i) bytes d h =
    records_in-get s m i (drop (piece_size s) bytes) d (omega arith) ∙ ap (take 512) (sym (drop_next (piece_size s) i bytes))

pub records_in-more : (s : Separator) (m : ℕ) (bytes : List ℕ) → records_in s (suc m) bytes ≡ records_in s m bytes ++ record_at s m bytes ∷ []
records_in-more s zero bytes = ap (λ z. take 512 z ∷ []) (sym (drop_none (piece_size s) bytes))
records_in-more s (suc m) bytes =
    ap (λ z. take 512 bytes ∷ z) (records_in-more s m (drop (piece_size s) bytes)
    ∙ ap (λ z. records_in s m (drop (piece_size s) bytes) ++ take 512 z ∷ []) (sym (drop_next (piece_size s) m bytes)))

-- the records are wide enough
pub records_in-widths : (s : Separator) (m : ℕ) (bytes : List ℕ) → piece_size s * m ≤ length bytes + length (separator_bytes s) → AllByRecursion IsRecord (records_in s m bytes)
records_in-widths s zero bytes h = _
records_in-widths s (suc m) bytes h =
    (length-take-le 512 bytes (omega arith), records_in-widths s m (drop (piece_size s) bytes) (omega (arith, length-drop (piece_size s) bytes)))

-- the front of bytes that are wide enough, whatever follows them
pub records_in-append : (s : Separator) (m : ℕ) (bytes tail : List ℕ) → piece_size s * m ≤ length bytes + length (separator_bytes s) → records_in s m (bytes ++ tail) ≡ records_in s m bytes
records_in-append s zero bytes tail h = refl
records_in-append s (suc zero) bytes tail h = ap (λ z. z ∷ []) (take-append-le 512 bytes tail (omega arith))
records_in-append s (suc (suc m)) bytes tail h =
    let wide : piece_size s ≤ length bytes = omega arith in
    let front : take 512 (bytes ++ tail) ≡ take 512 bytes = take-append-le 512 bytes tail (omega arith) in
    let behind : drop (piece_size s) (bytes ++ tail) ≡ drop (piece_size s) bytes ++ tail = drop-append-le (piece_size s) bytes tail wide in
    ap (λ z. z ∷ records_in s (suc m) (drop (piece_size s) (bytes ++ tail))) front
    ∙ ap (λ z. take 512 bytes ∷ z) (ap (records_in s (suc m)) behind
    ∙ records_in-append s (suc m) (drop (piece_size s) bytes) tail (omega (arith, length-drop (piece_size s) bytes)))

no_bytes : (bytes : List ℕ) → length bytes ≡ 0 → bytes ≡ []
no_bytes [] h = refl
no_bytes (x ∷ xs) h = absurd (omega arith)

followed_first : (s : Separator) (bytes : List ℕ) (m : ℕ) → Followed s bytes (suc m) → take (piece_size s) bytes ≡ take 512 bytes ++ separator_bytes s
followed_first s bytes m h =
    let len = length (separator_bytes s) in
    let here : take len (drop 512 bytes) ≡ separator_bytes s = ap (λ z. take len (drop 512 z)) (sym (drop_none (piece_size s) bytes)) ∙ h zero (omega arith) in
    take_plus 512 len bytes ∙ ap (λ z. take 512 bytes ++ z) here

followed_rest : (s : Separator) (bytes : List ℕ) (m : ℕ) → Followed s bytes (suc m) → Followed s (drop (piece_size s) bytes) m
followed_rest s bytes m h = λ k lt.
    ap (λ z. take (length (separator_bytes s)) (drop 512 z)) (sym (drop_next (piece_size s) k bytes)) ∙ h (suc k) (omega arith)

-- bytes of whole records, each followed by the separator, are these records
pub cut_whole : (s : Separator) (m : ℕ) (bytes : List ℕ) → length bytes ≡ piece_size s * m → Followed s bytes m → bytes ≡ separated s (records_in s m bytes)
cut_whole s zero bytes len h = no_bytes bytes (omega arith)
cut_whole s (suc m) bytes len h =
    let p = piece_size s in
    let rest = cut_whole s m (drop p bytes) (omega (arith, length-drop p bytes)) (followed_rest s bytes m h) in
    sym (take-append-drop p bytes) ∙ ap (λ z. z ++ drop p bytes) (followed_first s bytes m h)
    ∙ ap (λ z. (take 512 bytes ++ separator_bytes s) ++ z) rest

-- the same where the last separator is missing
pub cut_short : (s : Separator) (m : ℕ) (bytes : List ℕ) → length bytes + length (separator_bytes s) ≡ piece_size s * suc m → Followed s bytes m
    → bytes ++ separator_bytes s ≡ separated s (records_in s (suc m) bytes)
cut_short s zero bytes len h =
    let all : take 512 bytes ≡ bytes = take_all 512 bytes (omega arith) in
    ap (λ z. z ++ separator_bytes s) (sym all) ∙ sym (append-nil (take 512 bytes ++ separator_bytes s))
cut_short s (suc m) bytes len h =
    let p = piece_size s in
    let rest = cut_short s m (drop p bytes) (omega (arith, length-drop p bytes)) (followed_rest s bytes m h) in
    ap (λ z. z ++ separator_bytes s) (sym (take-append-drop p bytes) ∙ ap (λ z. z ++ drop p bytes) (followed_first s bytes m h))
    ∙ append_assoc (take 512 bytes ++ separator_bytes s) (drop p bytes) (separator_bytes s)
    ∙ ap (λ z. (take 512 bytes ++ separator_bytes s) ++ z) rest

-- and back: records put one after the other are cut again

first_record : (s : Separator) (r : List ℕ) (rest : List ℕ) → IsRecord r → take 512 ((r ++ separator_bytes s) ++ rest) ≡ r
first_record s r rest h =
    ap (take 512) (append_assoc r (separator_bytes s) rest) ∙ ap (λ n. take n (r ++ (separator_bytes s ++ rest))) (sym h) ∙ take-append_seam r (separator_bytes s ++ rest)

other_records : (s : Separator) (r : List ℕ) (rest : List ℕ) → IsRecord r → drop (piece_size s) ((r ++ separator_bytes s) ++ rest) ≡ rest
other_records s r rest h =
    let wide : piece_size s ≡ length (r ++ separator_bytes s) = omega (arith, length-append r (separator_bytes s)) in
    ap (λ n. drop n ((r ++ separator_bytes s) ++ rest)) wide ∙ drop-append_seam (r ++ separator_bytes s) rest

first_separator : (s : Separator) (r : List ℕ) (rest : List ℕ) → IsRecord r → take (length (separator_bytes s)) (drop 512 ((r ++ separator_bytes s) ++ rest)) ≡ separator_bytes s
first_separator s r rest h =
    ap (λ z. take (length (separator_bytes s)) (drop 512 z)) (append_assoc r (separator_bytes s) rest)
    ∙ ap (λ n. take (length (separator_bytes s)) (drop n (r ++ (separator_bytes s ++ rest)))) (sym h)
    ∙ ap (take (length (separator_bytes s))) (drop-append_seam r (separator_bytes s ++ rest))
    ∙ take-append_seam (separator_bytes s) rest

pub separated-length : (s : Separator) (rs : List (List ℕ)) → AllByRecursion IsRecord rs → length (separated s rs) ≡ piece_size s * length rs
separated-length s [] h = omega arith
separated-length s (r ∷ rs) h =
    omega (arith, length-append (r ++ separator_bytes s) (separated s rs), length-append r (separator_bytes s), h.0, separated-length s rs h.1)

pub cut_separated : (s : Separator) (rs : List (List ℕ)) (tail : List ℕ) → AllByRecursion IsRecord rs → records_in s (length rs) (separated s rs ++ tail) ≡ rs
cut_separated s [] tail h = refl
cut_separated s (r ∷ rs) tail h =
    let rest = separated s rs ++ tail in
    ap (records_in s (suc (length rs))) (append_assoc (r ++ separator_bytes s) (separated s rs) tail)
    ∙ ap (λ z. z ∷ records_in s (length rs) (drop (piece_size s) ((r ++ separator_bytes s) ++ rest))) (first_record s r rest h.0)
    ∙ ap (λ z. r ∷ records_in s (length rs) z) (other_records s r rest h.0)
    ∙ ap (λ z. r ∷ z) (cut_separated s rs tail h.1)

pub followed_separated : (s : Separator) (rs : List (List ℕ)) (tail : List ℕ) → AllByRecursion IsRecord rs
    → (k : ℕ) → k < length rs → take (length (separator_bytes s)) (drop 512 (drop (piece_size s * k) (separated s rs ++ tail))) ≡ separator_bytes s
followed_separated s [] tail h k lt = absurd (omega arith)
followed_separated s (r ∷ rs) tail h zero lt =
    let rest = separated s rs ++ tail in
    ap (λ z. take (length (separator_bytes s)) (drop 512 z)) (drop_none (piece_size s) (separated s (r ∷ rs) ++ tail) ∙ append_assoc (r ++ separator_bytes s) (separated s rs) tail)
    ∙ first_separator s r rest h.0
followed_separated s (r ∷ rs) tail h (suc k) lt =
    let rest = separated s rs ++ tail in
    ap (λ z. take (length (separator_bytes s)) (drop 512 z))
    (ap (drop (piece_size s * suc k)) (append_assoc (r ++ separator_bytes s) (separated s rs) tail) ∙ drop_next (piece_size s) k ((r ++ separator_bytes s) ++ rest)
    ∙ ap (drop (piece_size s * k)) (other_records s r rest h.0))
    ∙ followed_separated s rs tail h.1 k (omega arith)
