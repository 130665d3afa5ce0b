use Rattle.std.proofs.Common.{◌≡◌, ◌+◌, Bool, true, false, not, ◌==◌, List, ℕ, None, Some, refl, ap, sym, ◌∙◌, arith, option_map}
use Rattle.std.proofs.lemmas.Result.{err_from_is_err_and}
use Rattle.std.proofs.lemmas.Bool.Decides.{nat_tests}
use Rattle.std.specs.Str.{bytes_eq}
use Rattle.ali_base.specs.Columns.{columns}
use Rattle.ali_base.specs.Company.{company_of}
use Rattle.ali_base.specs.Digits.{digits_number}
use Rattle.batch_frame.specs.declared.fault.FrameFault.TheVariants as faults
use Rattle.ali_base.specs.Numbers.{cycle_of}
use Rattle.ali_base.specs.CivilDay.{day_of}
use Rattle.batch_frame.specs.declared.separator.Separator.{Separator}
use Rattle.batch_frame.specs.CarrierFile.{separator_of, record_at}
use Rattle.batch_frame.specs.FrameFault.{found, header_of, trailer_of, header_fault, trailer_fault, company_fault}
use Rattle.batch_frame.proofs.Faults.{at_length, at_many, at_separator, at_header, at_trailer, at_company, at_count, company_fault_at, count_fault_at}
use Rattle.batch_frame.proofs.Records.{framed_room, told}
use Rattle.batch_frame.proofs.Readings.{is_file_of}
use Rattle.batch_frame.proofs.file.read_file.Goals as goal

not_true : (b : Bool) → not b ≡ true → b ≡ false
not_true true h = absurd (cc)
not_true false h = refl

not_false : (b : Bool) → not b ≡ false → b ≡ true
not_false true h = refl
not_false false h = absurd (cc)

pub returns-in_err-check_length-clause-read : goal.returns-in_err-check_length-clause-read
returns-in_err-check_length-clause-read c =
    let p = err_from_is_err_and c.from_residual.result c.from_residual.ensures.1 in
    rw (p.1, p.2) (at_length _ _ c.in_err-check_length.ensures)

pub returns-in_err-count-clause-read : goal.returns-in_err-count-clause-read
returns-in_err-count-clause-read c =
    let p = err_from_is_err_and c.from_residual-in_err-count.result c.from_residual-in_err-count.ensures.1 in
    rw (p.1, p.2) (at_many _ _ c.in_ok-check_length.ensures c.in_err-count.ensures)

pub returns-in_err-check_separators-clause-read : goal.returns-in_err-check_separators-clause-read
returns-in_err-check_separators-clause-read c =
    let p = err_from_is_err_and c.from_residual-in_err-check_separators.result c.from_residual-in_err-check_separators.ensures.1 in
    rw (p.1, p.2) (at_separator _ _ c.in_ok-check_length.ensures c.in_ok-count.ensures.0 c.in_err-check_separators.ensures)

pub record_at-requires : goal.record_at-requires
record_at-requires c = framed_room _ _ _ 0 c.separator_of-separator.ensures c.in_ok-check_length.ensures c.in_ok-count.ensures.1 (omega arith)

pub record_at-requires-2 : goal.record_at-requires-2
record_at-requires-2 c = framed_room _ _ c.in_ok-count.count _ c.separator_of-separator.ensures c.in_ok-check_length.ensures c.in_ok-count.ensures.1 (omega arith)

-- the header and the trailer that were read are those of the bytes

header_lent : (bytes header : List ℕ) (s : Separator) → s ≡ separator_of bytes → header ≡ record_at s 0 bytes → header ≡ header_of bytes
header_lent bytes header s same is = is ∙ ap (λ s. record_at s 0 bytes) same

trailer_lent : (bytes trailer : List ℕ) (s : Separator) (count : ℕ) → s ≡ separator_of bytes → count ≡ found bytes → trailer ≡ record_at s (count + 1) bytes → trailer ≡ trailer_of bytes
trailer_lent bytes trailer s count same counted is =
    is ∙ ap (λ s. record_at s (count + 1) bytes) same ∙ ap (λ n. record_at (separator_of bytes) (n + 1) bytes) counted

pub returns-in_err-header-clause-read : goal.returns-in_err-header-clause-read
returns-in_err-header-clause-read c =
    let header = header_lent _ _ _ c.separator_of-separator.ensures c.record_at.ensures in
    let p = err_from_is_err_and c.from_residual-in_err-header.result c.from_residual-in_err-header.ensures.1 in
    rw (p.1, p.2) (at_header _ _ c.in_ok-check_length.ensures c.in_ok-count.ensures.0 c.in_ok-check_separators.ensures
    (ap (λ h. option_map faults.Header (header_fault h)) (sym header) ∙ c.in_err-header.ensures))

pub returns-in_err-trailer-clause-read : goal.returns-in_err-trailer-clause-read
returns-in_err-trailer-clause-read c =
    let header = header_lent _ _ _ c.separator_of-separator.ensures c.record_at.ensures in
    let trailer = trailer_lent _ _ _ _ c.separator_of-separator.ensures c.in_ok-count.ensures.1 c.record_at-2.ensures in
    let p = err_from_is_err_and c.from_residual-in_err-trailer.result c.from_residual-in_err-trailer.ensures.1 in
    rw (p.1, p.2) (at_trailer _ _ c.in_ok-check_length.ensures c.in_ok-count.ensures.0 c.in_ok-check_separators.ensures
    (ap header_fault (sym header) ∙ c.in_ok-header.ensures.0)
    (ap (λ h. option_map faults.Trailer (trailer_fault h)) (sym trailer) ∙ c.in_err-trailer.ensures))

pub returns-then-ne-clause-read : goal.returns-then-ne-clause-read
returns-then-ne-clause-read c =
    let sent = c.in_ok-header.header.company in
    let named = c.in_ok-trailer.trailer.company in
    let header = header_lent _ _ _ c.separator_of-separator.ensures c.record_at.ensures in
    let trailer = trailer_lent _ _ _ _ c.separator_of-separator.ensures c.in_ok-count.ensures.1 c.record_at-2.ensures in
    let differ : bytes_eq sent named ≡ false = not_true _ (sym c.ne.ensures ∙ c.if-ne.true) in
    at_company _ _ c.in_ok-check_length.ensures c.in_ok-count.ensures.0 c.in_ok-check_separators.ensures
    (ap header_fault (sym header) ∙ c.in_ok-header.ensures.0)
    (ap trailer_fault (sym trailer) ∙ c.in_ok-trailer.ensures.0)
    (company_fault_at _ _ sent named false (ap (λ h. company_of (columns h 10 14)) (sym header) ∙ c.in_ok-header.ensures.2)
    (ap (λ h. company_of (columns h 10 14)) (sym trailer) ∙ c.in_ok-trailer.ensures.1) differ)

-- the companies are one
one_company : (bytes header trailer sent named : List ℕ) → header ≡ header_of bytes → trailer ≡ trailer_of bytes → company_of (columns header 10 14) ≡ Some sent → company_of (columns trailer 10 14) ≡ Some named
    → bytes_eq sent named ≡ true → company_fault (header_of bytes) (trailer_of bytes) ≡ None
one_company bytes header trailer sent named h t a b e =
    company_fault_at _ _ sent named true (ap (λ h. company_of (columns h 10 14)) (sym h) ∙ a) (ap (λ h. company_of (columns h 10 14)) (sym t) ∙ b) e

pub returns-then-trailer-count-clause-read : goal.returns-then-trailer-count-clause-read
returns-then-trailer-count-clause-read c =
    let header = header_lent _ _ _ c.separator_of-separator.ensures c.record_at.ensures in
    let trailer = trailer_lent _ _ _ _ c.separator_of-separator.ensures c.in_ok-count.ensures.1 c.record_at-2.ensures in
    let same : bytes_eq c.in_ok-header.header.company c.in_ok-trailer.trailer.company ≡ true = not_false _ (sym c.ne.ensures ∙ c.if-ne.false) in
    let counted = c.in_ok-count.ensures.1 in
    let differ : (c.in_ok-trailer.trailer.count == found c.args.bytes.now) ≡ false = grind (arith, nat_tests, counted) in
    at_count _ _ c.in_ok-check_length.ensures c.in_ok-count.ensures.0 c.in_ok-check_separators.ensures
    (ap header_fault (sym header) ∙ c.in_ok-header.ensures.0)
    (ap trailer_fault (sym trailer) ∙ c.in_ok-trailer.ensures.0)
    (one_company c.args.bytes.now _ _ _ _ header trailer c.in_ok-header.ensures.2 c.in_ok-trailer.ensures.1 same)
    (count_fault_at _ _ _ false (ap (λ h. digits_number (columns h 15 23)) (sym trailer) ∙ c.in_ok-trailer.ensures.2) differ
    ∙ ap (λ n. Some (faults.Count c.in_ok-trailer.trailer.count n)) (sym counted))

pub invariant_of-result : goal.invariant_of-result
invariant_of-result c =
    let header = header_lent _ _ _ c.separator_of-separator.ensures c.record_at.ensures in
    let trailer = trailer_lent _ _ _ _ c.separator_of-separator.ensures c.in_ok-count.ensures.1 c.record_at-2.ensures in
    let same : bytes_eq c.in_ok-header.header.company c.in_ok-trailer.trailer.company ≡ true = not_false _ (sym c.ne.ensures ∙ c.if-ne.false) in
    let counted = c.in_ok-count.ensures.1 in
    let equal : (c.in_ok-trailer.trailer.count == found c.args.bytes.now) ≡ true = grind (arith, nat_tests, counted, c.if-trailer-count.false) in
    told _ _ _ _ _ _ c.separator_of-separator.ensures counted
    (record {
      len = c.in_ok-check_length.ensures;
      few = c.in_ok-count.ensures.0;
      separators = c.in_ok-check_separators.ensures;
      header = ap (λ h. option_map faults.Header (header_fault h)) (sym header) ∙ ap (option_map faults.Header) c.in_ok-header.ensures.0;
      trailer = ap (λ h. option_map faults.Trailer (trailer_fault h)) (sym trailer) ∙ ap (option_map faults.Trailer) c.in_ok-trailer.ensures.0;
      companies = one_company c.args.bytes.now _ _ _ _ header trailer c.in_ok-header.ensures.2 c.in_ok-trailer.ensures.1 same;
      count = count_fault_at _ _ _ true (ap (λ h. digits_number (columns h 15 23)) (sym trailer) ∙ c.in_ok-trailer.ensures.2) equal;
    })
    (ap (λ h. company_of (columns h 10 14)) (sym header) ∙ c.in_ok-header.ensures.2)
    (ap (λ h. cycle_of (columns h 15 20)) (sym header) ∙ c.in_ok-header.ensures.3)
    (ap (λ h. day_of (columns h 4 9)) (sym header) ∙ c.in_ok-header.ensures.1)

pub returns-clause-read : goal.returns-clause-read
returns-clause-read c = invariant_of-result c

pub returns-clause-value : goal.returns-clause-value
returns-clause-value c = is_file_of _ _ (invariant_of-result c)
