-- The record as it is stored.
use Rattle.std.proofs.Common.{◌≡◌, ℕ, ◌+◌, ◌≤◌, Bool, true, false, cond, List, ◌++◌, length, take, drop, refl, ap, sym, ◌∙◌, arith, Option, Some, None, IsSome, Result, Ok, Err, ◌⊎◌, inl, inr, Contains, length-append, length-drop}
use Rattle.std.specs.Option.{option_map}
use Rattle.std.proofs.lemmas.List.{length-take-le}
use Rattle.std.proofs.lemmas.List.Elements.{All-contains}
use Rattle.ali_base.specs.HouseNumber.{house_of}
use Rattle.ali_base.specs.declared.esn.TheConstants.{HIGHEST_ESN}
use Rattle.ali_base.specs.Numbers.{zero_padded}
use Rattle.address_check.specs.Placement.{place, place_by, esn_agrees}
use Rattle.msag_ranges.specs.StreetGuide.{holds, holder, nearest_fault}
use Rattle.msag_ranges.specs.declared.range.Range.{Range}
use Rattle.ali_base.specs.declared.street_key.StreetKey.{StreetKey}
use Rattle.address_check.specs.RecordPlace.{place_of_record}
use Rattle.ali_record.specs.Address.{record_key}
use Rattle.ali_record.specs.FieldChanges.{with_field, with_esn}
use Rattle.ali_record.specs.Layout.{field_of, byte_of}
use Rattle.ali_record.specs.RecordReading.{sends_address}
use Rattle.ali_record.specs.declared.field.Field.TheVariants.{Function, TelephoneNumber, HouseNumber, Esn, Company}
use Rattle.ali_record.proofs.FieldTexts.{length-esn_text}
use Rattle.ali_record.proofs.Overwriting.{part_before, part_after, part_inside}
use Rattle.msag_edits.specs.GuideSoundness.{IsPlaced}
use Rattle.msag_edits.proofs.GuideEdits.{HaveFiveDigits}
use Rattle.msag_edits.proofs.Ranges.{find-is}
use Rattle.msag_edits.proofs.RowFields.{esn-size}
use Rattle.number_table.specs.HeldRows.{holds_record}
use Rattle.number_table.proofs.HeldAddresses.{held-by, same-address}
use Rattle.line_booking.specs.LineVerdict.{address_fault, place_fault, stored, filled}

-- a record with another text of five bytes in the columns of its emergency service number
module _ (b text : List ℕ) (five : length text ≡ 5) (long : 230 ≤ length b) where
  before : (k m : ℕ) → k + m ≤ 225 → take m (drop k (with_field b Esn text)) ≡ take m (drop k b)
  before k m h = part_before b text 225 230 k m (omega arith) long h

  same_key : record_key (with_field b Esn text) ≡ record_key b
  same_key = rw (before 93 32 (omega arith), before 125 2 (omega arith), before 25 2 (omega arith), before 27 60 (omega arith), before 87 4 (omega arith), before 91 2 (omega arith)) refl

  -- it has the text there
  esn_written : field_of (with_field b Esn text) Esn ≡ text
  esn_written = ap (λ k. take k (drop 225 (with_field b Esn text))) (sym five) ∙ part_inside b text 225 230 (omega arith) long

  -- the same ranges hold it
  address_stays : (r : Range) → holds_record r (with_field b Esn text) ≡ holds_record r b
  address_stays r = same-address r b (with_field b Esn text) same_key (ap house_of (before 11 10 (omega arith)))

  -- its company is the same
  company_stays : field_of (with_field b Esn text) Company ≡ field_of b Company
  company_stays = part_after b text 225 230 260 5 (omega arith) long (omega arith)

  -- and so is its telephone number
  number_stays : field_of (with_field b Esn text) TelephoneNumber ≡ field_of b TelephoneNumber
  number_stays = before 1 10 (omega arith)

some_is : {A : Type 0} (x y : A) → Some x ≡ Some y → x ≡ y
some_is x y h = cc

-- an address check without a fault names a range that was found
found_range : (o : Option Range) (fault : ℕ) (field : List ℕ) (at : ℕ × ℕ) → place_by o fault field ≡ Ok at → (r : Range) × (o ≡ Some r) × (at ≡ (r.id, r.esn))
found_range None fault field at h = absurd cc
found_range (Some r) fault field at h = by_test (esn_agrees field r.esn) h
  where
    by_test : (b : Bool) → ◌≡◌ {A = Result (ℕ × ℕ) ℕ} (cond b (Ok (r.id, r.esn)) (Err 204)) (Ok at) → (s : Range) × (Some r ≡ Some s) × (at ≡ (s.id, s.esn))
    by_test true h = (r, refl, cc)
    by_test false h = absurd cc

-- the range that holds the address of a record, and whose emergency service number the stored record has
pub record IsHeld (ranges : List Range) (bytes : List ℕ) : Type 0 where
  pub range : Range
  pub live : Contains ranges range
  pub held : holds_record range bytes ≡ true
  pub is : stored ranges bytes ≡ with_esn bytes range.esn

stored_as : (ranges : List Range) (bytes : List ℕ) (at : ℕ × ℕ) → sends_address (byte_of bytes Function) ≡ true → place_of_record ranges bytes ≡ Some (Ok at) → stored ranges bytes ≡ with_esn bytes at.1
stored_as ranges bytes at sends h = ap (λ b. cond b (filled bytes (place_of_record ranges bytes)) bytes) sends ∙ ap (filled bytes) h

held_at : (ranges : List Range) (bytes : List ℕ) (at : ℕ × ℕ) → sends_address (byte_of bytes Function) ≡ true → place_of_record ranges bytes ≡ Some (Ok at) → IsHeld ranges bytes
held_at ranges bytes at sends h = by_house (house_of (field_of bytes HouseNumber)) refl h
  where
    key : StreetKey
    key = record_key bytes

    by_house : (o : Option ℕ) → house_of (field_of bytes HouseNumber) ≡ o → option_map (λ n. place ranges key n (field_of bytes Esn)) o ≡ Some (Ok at) → IsHeld ranges bytes
    by_house None e k = absurd cc
    by_house (Some n) e k =
        let found = found_range (holder ranges key n) (nearest_fault ranges key n) (field_of bytes Esn) at (some_is _ _ k) in
        let live = find-is (λ r. holds r key n) ranges found.0 found.1 in
        record {
          range = found.0;
          live = live.0;
          held = held-by found.0 bytes n e live.1;
          is = stored_as ranges bytes at sends h ∙ ap (λ (p : ℕ × ℕ). with_esn bytes p.1) found.2;
        }

-- a record is stored as it is, or with the number of the range that holds its address
stored_is : (ranges : List Range) (bytes : List ℕ) → stored ranges bytes ≡ bytes ⊎ IsHeld ranges bytes
stored_is ranges bytes = at (sends_address (byte_of bytes Function)) (place_of_record ranges bytes) refl refl
  where
    at : (b : Bool) (o : Option (Result (ℕ × ℕ) ℕ)) → sends_address (byte_of bytes Function) ≡ b → place_of_record ranges bytes ≡ o → stored ranges bytes ≡ bytes ⊎ IsHeld ranges bytes
    at false o sends h = inl (ap (λ b. cond b (filled bytes (place_of_record ranges bytes)) bytes) sends)
    at true None sends h = inl (rw (sends, h) refl)
    at true (Some (Err code)) sends h = inl (rw (sends, h) refl)
    at true (Some (Ok place)) sends h = inr (held_at ranges bytes place sends h)

small_there : (ranges : List Range) (bytes : List ℕ) → HaveFiveDigits ranges → (h : IsHeld ranges bytes) → h.range.esn ≤ HIGHEST_ESN
small_there ranges bytes small h = All-contains (λ r. r.esn ≤ HIGHEST_ESN) ranges h.range small h.live

-- a stored record has 512 bytes
pub stored-size : (ranges : List Range) (bytes : List ℕ) → HaveFiveDigits ranges → length bytes ≡ 512 → length (stored ranges bytes) ≡ 512
stored-size ranges bytes small size = elim (stored_is ranges bytes) [
  | inl same ↦ ap length same ∙ size
  | inr h ↦ ap length h.is ∙ esn-size bytes h.range.esn size (small_there ranges bytes small h)
]

-- a stored record has the company that was sent
pub stored-company : (ranges : List Range) (bytes : List ℕ) → HaveFiveDigits ranges → 230 ≤ length bytes → field_of (stored ranges bytes) Company ≡ field_of bytes Company
stored-company ranges bytes small long = elim (stored_is ranges bytes) [
  | inl same ↦ ap (λ b. field_of b Company) same
  | inr h ↦ ap (λ b. field_of b Company) h.is ∙ company_stays bytes (zero_padded 5 h.range.esn) (length-esn_text h.range.esn (small_there ranges bytes small h)) long
]

-- and the telephone number
pub stored-number : (ranges : List Range) (bytes : List ℕ) → HaveFiveDigits ranges → 230 ≤ length bytes → field_of (stored ranges bytes) TelephoneNumber ≡ field_of bytes TelephoneNumber
stored-number ranges bytes small long = elim (stored_is ranges bytes) [
  | inl same ↦ ap (λ b. field_of b TelephoneNumber) same
  | inr h ↦ ap (λ b. field_of b TelephoneNumber) h.is ∙ number_stays bytes (zero_padded 5 h.range.esn) (length-esn_text h.range.esn (small_there ranges bytes small h)) long
]

not_lost : {A B : Type 0} (f : A → B) (o : Option A) → IsSome o → option_map f o ≡ None → ⊥
not_lost f None some h = cc
not_lost f (Some x) some h = cc

-- a range holds an address that can be read and has no fault
pub held_there : (ranges : List Range) (bytes : List ℕ) → sends_address (byte_of bytes Function) ≡ true → IsSome (house_of (field_of bytes HouseNumber)) → address_fault ranges bytes ≡ None → IsHeld ranges bytes
held_there ranges bytes sends house clear = at (place_of_record ranges bytes) refl (sym (ap (λ b. cond b (place_fault (place_of_record ranges bytes)) None) sends) ∙ clear)
  where
    at : (o : Option (Result (ℕ × ℕ) ℕ)) → place_of_record ranges bytes ≡ o → place_fault o ≡ None → IsHeld ranges bytes
    at None e h = absurd (not_lost (λ n. place ranges (record_key bytes) n (field_of bytes Esn)) (house_of (field_of bytes HouseNumber)) house e)
    at (Some (Ok place)) e h = held_at ranges bytes place sends e
    at (Some (Err code)) e h = absurd cc

five_bytes : (b text : List ℕ) → length b ≡ 512 → length (with_field b Esn text) ≡ 512 → length text ≡ 5
five_bytes b text size whole = omega (arith, whole, length-append (take 225 b ++ text) (drop 230 b), length-append (take 225 b) text, length-take-le 225 b (omega arith), length-drop 230 b)

-- the row of a record that a range holds is placed, where 512 bytes are stored
pub stored-placed : (ranges : List Range) (bytes : List ℕ) → length bytes ≡ 512 → length (stored ranges bytes) ≡ 512 → IsHeld ranges bytes → IsPlaced ranges (record { rec = stored ranges bytes; unlocked = None })
stored-placed ranges bytes size whole h =
    let text = zero_padded 5 h.range.esn in
    let five = five_bytes bytes text size (sym (ap length h.is) ∙ whole) in
    record {
      size = whole;
      range = h.range;
      live = h.live;
      held = ap (holds_record h.range) h.is ∙ address_stays bytes text five (omega arith) h.range ∙ h.held;
      esn = ap (λ b. field_of b Esn) h.is ∙ esn_written bytes text five (omega arith);
    }
