-- What an index tells of its ranges.
use Rattle.std.proofs.Common.{◌≡◌, length-append, ℕ, ◌+◌, ◌-◌, ◌*◌, ◌%◌, ◌<◌, ◌≤◌, ◌==◌, Bool, true, false, nat_le, cond, List, [], ◌∷◌, ◌++◌, length, get_or, AllPairs, All, Contains, Some, refl, sym, ap, subst, ◌∙◌, arith, zero, suc, ◌⊎◌, inl, inr, take, drop}
use Rattle.std.specs.List.{remove, list_any}
use Rattle.std.proofs.lemmas.Bool.{and_parts, and_from, cases_lt, cases_eq}
use Rattle.std.proofs.lemmas.Bool.Decides.{nat_tests}
use Rattle.std.proofs.lemmas.Option.{same_Some}
use Rattle.std.proofs.lemmas.List.{get_or_default, get_or-take, get_or-drop, length-take, length-drop}
use Rattle.std.proofs.lemmas.List.Elements.{Contains-append_left, Contains-append_right, Contains-get_or}
use Rattle.std.proofs.lemmas.List.Edits.{length-remove}
use Rattle.std.proofs.lemmas.List.Folds.{list_any_at, Any-from_list_any}
use Rattle.ali_base.specs.StreetKey.{same_key}
use Rattle.ali_base.specs.declared.parity.Parity.{Parity}
use Rattle.ali_base.specs.declared.parity.Parity.TheVariants.{Odd, Even, Both}
use Rattle.ali_base.specs.declared.street_key.StreetKey.{StreetKey}
use Rattle.msag_ranges.specs.StreetGuide.{has_parity, is_held, holds, range_of, Overlap, HasSoundEnds}
use Rattle.msag_ranges.specs.HeldNumbers.{least_from}
use Rattle.msag_ranges.specs.declared.range.Range.{Range}
use Rattle.msag_ranges.specs.declared.place.Place.{Place}
use Rattle.msag_ranges.specs.declared.place.Entry.{Entry}
use Rattle.msag_ranges.specs.GuideIndex.{before, Rises, is_odd, place_of, class_of, first_of, has_class, entry_of, IsEntryOf, IsEntryAmong, IsIndexOf, IsSplitAt, IsOf}
use Rattle.msag_ranges.proofs.Streets.{same_key-same, same_key-refl}
use Rattle.msag_ranges.proofs.Overlapping.{held-parts, held-from}
use Rattle.msag_ranges.proofs.GuideKept.{holder-only}
use Rattle.msag_ranges.proofs.Places.{before-itself, before-back, key_between, between, in_row}

-- classes of numbers

own_class : (n : ℕ) → has_parity (class_of (is_odd n)) n ≡ true
own_class n = elim (n % 2 == 1) as (λ b. (n % 2 == 1) ≡ b → has_parity (class_of b) n ≡ true) [ true ↦ (λ e. e) | false ↦ (λ e. grind (arith, nat_tests)) ] refl

class_is : (odd : Bool) (n : ℕ) → has_parity (class_of odd) n ≡ true → is_odd n ≡ odd
class_is true n h = h
class_is false n h = grind (arith, nat_tests)

-- two numbers of one class have the same parities
same_parity : (p : Parity) (odd : Bool) (m n : ℕ) → has_parity (class_of odd) m ≡ true → has_parity (class_of odd) n ≡ true → has_parity p m ≡ true → has_parity p n ≡ true
same_parity Odd true m n h k q = k
same_parity Odd false m n h k q = absurd (grind (arith, nat_tests))
same_parity Even true m n h k q = absurd (grind (arith, nat_tests))
same_parity Even false m n h k q = k
same_parity Both odd m n h k q = refl

first_class : (low : ℕ) (odd : Bool) → has_parity (class_of odd) (least_from (class_of odd) low) ≡ true
first_class low true = elim (low % 2 == 1) as (λ b. (low % 2 == 1) ≡ b → has_parity Odd (cond b low (low + 1)) ≡ true) [ true ↦ (λ e. e) | false ↦ (λ e. grind (arith, nat_tests)) ] refl
first_class low false = elim (low % 2 == 0) as (λ b. (low % 2 == 0) ≡ b → has_parity Even (cond b low (low + 1)) ≡ true) [ true ↦ (λ e. e) | false ↦ (λ e. grind (arith, nat_tests)) ] refl

first_least : (low : ℕ) (odd : Bool) (n : ℕ) → low ≤ n → has_parity (class_of odd) n ≡ true → least_from (class_of odd) low ≤ n
first_least low true n h k = elim (low % 2 == 1) as (λ b. (low % 2 == 1) ≡ b → cond b low (low + 1) ≤ n) [ true ↦ (λ e. h) | false ↦ (λ e. grind (arith, nat_tests)) ] refl
first_least low false n h k = elim (low % 2 == 0) as (λ b. (low % 2 == 0) ≡ b → cond b low (low + 1) ≤ n) [ true ↦ (λ e. h) | false ↦ (λ e. grind (arith, nat_tests)) ] refl

first_up : (low : ℕ) (odd : Bool) → low ≤ least_from (class_of odd) low
first_up low odd = elim (has_parity (class_of odd) low) as (λ b. low ≤ cond b low (low + 1)) [ true ↦ omega arith | false ↦ omega arith ]

pub le_true : (a b : ℕ) → a ≤ b → nat_le a b ≡ true
le_true a b h = grind (arith, nat_tests)

pub le_is : (a b : ℕ) → nat_le a b ≡ true → a ≤ b
le_is a b h = grind (arith, nat_tests)

-- entries and their ranges

-- a range holds the number at which its entry stands
pub entry_holds : (r : Range) (e : Entry) → IsEntryOf r e → holds r e.place.key e.place.number ≡ true
entry_holds r e (odd, h) =
    let w = and_parts (nat_le (first_of r odd) r.high) (has_parity r.parity (first_of r odd)) h.0 in
    let first : is_held r (first_of r odd) ≡ true = held-from r (first_of r odd) (first_up r.low odd) (le_is _ _ w.0) w.1 in
    subst (λ (z : Entry). holds r z.place.key z.place.number ≡ true) (sym h.1) (and_from _ _ (same_key-refl r.key) first)

entry_class : (r : Range) (e : Entry) → IsEntryOf r e → is_odd e.place.number ≡ e.place.odd
entry_class r e (odd, h) = subst (λ (z : Entry). is_odd z.place.number ≡ z.place.odd) (sym h.1) (class_is odd (first_of r odd) (first_class r.low odd))

-- a range that holds a number has an entry of its class, which stands at it or before it
held_class : (r : Range) (n : ℕ) → is_held r n ≡ true → (has_class r (is_odd n) ≡ true) × (first_of r (is_odd n) ≤ n)
held_class r n h =
    let w = held-parts r n h in
    let first = first_least r.low (is_odd n) n w.0 (own_class n) in
    (and_from _ _ (le_true _ _ (omega arith)) (same_parity r.parity (is_odd n) n (first_of r (is_odd n)) (own_class n) (first_class r.low (is_odd n)) w.2), first)

-- from there to the number it holds each of the class
held_between : (r : Range) (n m : ℕ) → is_held r n ≡ true → first_of r (is_odd n) ≤ m → m ≤ n → is_odd m ≡ is_odd n → is_held r m ≡ true
held_between r n m h from to odd =
    let w = held-parts r n h in
    let up = first_up r.low (is_odd n) in
    held-from r m (omega arith) (omega arith) (same_parity r.parity (is_odd n) n m (own_class n) (subst (λ b. has_parity (class_of b) m ≡ true) odd (own_class m)) w.2)

pub there : (entries : List Entry) (ranges : List Range) (r : Range) (n : ℕ) → IsIndexOf entries ranges → Contains ranges r → is_held r n ≡ true → Contains entries (entry_of r (is_odd n))
there entries ranges r n index h held = (index.among (entry_of r (is_odd n))).1 (r, h, (is_odd n, ((held_class r n held).0, refl)))

-- splits

-- a place of a class, odd or even
abbrev pub in_class : StreetKey → Bool → ℕ → Place
in_class key odd n = record { key = key; odd = odd; number = n }

-- an entry that does not come after the place is before the split
pub reached : (entries : List Entry) (p : Place) (count j : ℕ) (f : Entry) → IsSplitAt entries p count → j < length entries → get_or entries j f ≡ f → before p f.place ≡ false → j < count
reached entries p count j f split inside is up =
    elim (cases_lt j count) [
      | inl l ↦ l
      | inr l ↦ (let late : before p f.place ≡ true = subst (λ (z : Entry). before p z.place ≡ true) is (split.after j f l inside) in absurd cc)
    ]

pub not_before : (entries : List Entry) (i j : ℕ) (d : Entry) → Rises entries → i ≤ j → j < length entries → before (get_or entries j d).place (get_or entries i d).place ≡ false
not_before entries i j d rising le inside =
    elim (cases_eq i j) [
      | inl q ↦ subst (λ k. before (get_or entries k d).place (get_or entries i d).place ≡ false) q (before-itself (get_or entries i d).place)
      | inr ne ↦ before-back (get_or entries i d).place (get_or entries j d).place (rising i j d (omega arith) inside)
    ]

-- no entry stands between that of a range and a number of its class that the range holds
pub not_past : (entries : List Entry) (ranges : List Range) (s : Range) (n m count j : ℕ)
    → AllPairs (λ r s. Overlap r s → ⊥) ranges → IsIndexOf entries ranges → IsSplitAt entries (in_class s.key (is_odd n) m) count → Contains ranges s → is_held s n ≡ true → m ≤ n
    → j < length entries → get_or entries j (entry_of s (is_odd n)) ≡ entry_of s (is_odd n) → count ≤ j + 1
not_past entries ranges s n m count j apart index split mine h le inside is =
    let f : Entry = entry_of s (is_odd n) in
    let p : Place = in_class s.key (is_odd n) m in
    elim (cases_lt (j + 1) count) [
      | inr l ↦ l
      | inl l ↦ (let within = split.within in
          let last : count - 1 < length entries = omega arith in
          let e : Entry = get_or entries (count - 1) f in
          let later : before f.place e.place ≡ true = subst (λ (z : Entry). before z.place e.place ≡ true) is (index.rising j (count - 1) f (omega arith) last) in
          let row = between f.place e.place p refl refl (before-back f.place e.place later) (split.upto (count - 1) f (omega arith)) in
          let who : IsEntryAmong ranges e = (index.among e).0 (Contains-get_or entries (count - 1) f last) in
          let class : is_odd e.place.number ≡ is_odd n = entry_class who.0 e who.2 ∙ sym row.odd in
          let theirs : holds who.0 e.place.key e.place.number ≡ true = entry_holds who.0 e who.2 in
          let upto : e.place.number ≤ n = (let t = row.to in omega arith) in
          let ours : holds s e.place.key e.place.number ≡ true = and_from _ _ (subst (λ z. same_key s.key z ≡ true) row.key (same_key-refl s.key)) (held_between s n e.place.number h row.from upto class) in
          let one : Some who.0 ≡ Some s = sym (holder-only ranges e.place.key e.place.number who.0 apart who.1 theirs) ∙ holder-only ranges e.place.key e.place.number s apart mine ours in
          let same : who.0 ≡ s = same_Some who.0 s one in
          let odd : who.2.0 ≡ is_odd n = sym (ap (λ (z : Entry). z.place.odd) who.2.1.1) ∙ sym row.odd in
          let ef : e ≡ f = who.2.1.1 ∙ ap (λ z. entry_of z who.2.0) same ∙ ap (λ b. entry_of s b) odd in
          let itself : before f.place f.place ≡ true = subst (λ (z : Entry). before f.place z.place ≡ true) ef later in
          let never = before-itself f.place in
          absurd cc)
    ]

-- the entry before a split
pub record IsLastOf (entries : List Entry) (count : ℕ) (e : Entry) : Type 0 where
  pub some : 1 ≤ count
  pub last : (d : Entry) → get_or entries (count - 1) d ≡ e

-- the last entry at a number or before it is that of the range that holds it
pub last_begun : (entries : List Entry) (ranges : List Range) (key : StreetKey) (n count : ℕ) (s : Range)
    → AllPairs (λ r s. Overlap r s → ⊥) ranges → IsIndexOf entries ranges → IsSplitAt entries (place_of key n) count → Contains ranges s → holds s key n ≡ true → IsLastOf entries count (entry_of s (is_odd n))
last_begun entries ranges key n count s apart index split mine h =
    let w = and_parts (same_key s.key key) (is_held s n) h in
    let own : IsSplitAt entries (in_class s.key (is_odd n) n) count = subst (λ k. IsSplitAt entries (in_class k (is_odd n) n) count) (sym (same_key-same s.key key w.0)) split in
    let f : Entry = entry_of s (is_odd n) in
    let at = there entries ranges s n index mine w.1 in
    let up : before (in_class s.key (is_odd n) n) f.place ≡ false = in_row f.place (in_class s.key (is_odd n) n) refl refl (held_class s n w.1).1 in
    let early = reached entries (in_class s.key (is_odd n) n) count at.0 f own at.1 at.2 up in
    let late = not_past entries ranges s n n count at.0 apart index own mine w.1 (omega arith) at.1 at.2 in
    let is : at.0 ≡ count - 1 = omega arith in
    record { some = omega arith; last = λ d. subst (λ k. get_or entries k d ≡ f) is (get_or_default entries at.0 d f at.1 ∙ at.2) }

-- where the entry stands of a range that shares a number with another one
pub record IsNear (entries : List Entry) (from to : ℕ) (e : Entry) : Type 0 where
  pub at : ℕ
  pub inside : at < length entries
  pub is : get_or entries at e ≡ e
  pub from_here : from ≤ at + 1
  pub to_here : at < to

pub near : (entries : List Entry) (ranges : List Range) (r s : Range) (n from to : ℕ)
    → AllPairs (λ r s. Overlap r s → ⊥) ranges → IsIndexOf entries ranges → IsSplitAt entries (in_class r.key (is_odd n) r.low) from → IsSplitAt entries (in_class r.key (is_odd n) r.high) to
    → Contains ranges s → holds s r.key n ≡ true → is_held r n ≡ true → IsNear entries from to (entry_of s (is_odd n))
near entries ranges r s n from to apart index low high mine h held =
    let w = and_parts (same_key s.key r.key) (is_held s n) h in
    let key : r.key ≡ s.key = sym (same_key-same s.key r.key w.0) in
    let f : Entry = entry_of s (is_odd n) in
    let ends = held-parts r n held in
    let first : first_of s (is_odd n) ≤ n = (held_class s n w.1).1 in
    let at = there entries ranges s n index mine w.1 in
    let up : before (in_class r.key (is_odd n) r.high) f.place ≡ false = in_row f.place (in_class r.key (is_odd n) r.high) (sym key) refl (let e = ends.1 in omega arith) in
    let own : IsSplitAt entries (in_class s.key (is_odd n) r.low) from = subst (λ k. IsSplitAt entries (in_class k (is_odd n) r.low) from) key low in
    record {
      at = at.0;
      inside = at.1;
      is = at.2;
      from_here = not_past entries ranges s n r.low from at.0 apart index own mine w.1 ends.0 at.1 at.2;
      to_here = reached entries (in_class r.key (is_odd n) r.high) to at.0 f high at.1 at.2 up;
    }

-- streets

zero_entry : Entry
zero_entry = record { place = record { key = record { community = []; state = []; prefix = []; name = []; suffix = []; post = [] }; odd = false; number = 0 }; id = 0 }

pub street_found : (entries : List Entry) (ranges : List Range) (at : ℕ) (key : StreetKey) → IsIndexOf entries ranges → IsOf entries at key → list_any (λ r. same_key r.key key) ranges ≡ true
street_found entries ranges at key index (inside, is) =
    let e : Entry = get_or entries at zero_entry in
    let who : IsEntryAmong ranges e = (index.among e).0 (Contains-get_or entries at zero_entry inside) in
    let k : who.0.key ≡ key = sym (ap (λ (z : Entry). z.place.key) who.2.1.1) ∙ is zero_entry in
    let same : same_key who.0.key key ≡ true = subst (λ z. same_key who.0.key z ≡ true) k (same_key-refl who.0.key) in
    list_any_at (λ (r : Range). same_key r.key key) ranges who.1.0 who.0 who.1.1 (subst (λ (z : Range). same_key z.key key ≡ true) (sym who.1.2) same)

-- by a split at any place of the street, one of the two entries beside it is of the street, if any is
pub street_near : (entries : List Entry) (ranges : List Range) (p : Place) (count : ℕ) → All HasSoundEnds ranges → IsIndexOf entries ranges → IsSplitAt entries p count
    → list_any (λ r. same_key r.key p.key) ranges ≡ true → ((1 ≤ count) × IsOf entries (count - 1) p.key) ⊎ IsOf entries count p.key
street_near entries ranges p count sound index split any =
    let w = Any-from_list_any (λ (r : Range). same_key r.key p.key) ranges any in
    let s : Range = w.1 in
    let key : s.key ≡ p.key = same_key-same s.key p.key w.4 in
    let ends : HasSoundEnds s = subst HasSoundEnds w.3 (sound w.0 s w.2) in
    let held : is_held s s.low ≡ true = held-from s s.low (omega arith) ends.ordered ends.low_parity in
    let f : Entry = entry_of s (is_odd s.low) in
    let at = there entries ranges s s.low index (w.0, w.2, w.3) held in
    let within = split.within in
    elim (cases_lt at.0 count) [
      | inl l ↦ (let last : count - 1 < length entries = omega arith in
          inl (
            omega arith,
            (
              last,
              λ d.
                  let up : before (get_or entries (count - 1) d).place f.place ≡ false = subst (λ (z : Entry). before (get_or entries (count - 1) d).place z.place ≡ false) (get_or_default entries at.0 d f at.1 ∙ at.2) (not_before entries at.0 (count - 1) d index.rising (omega arith) last) in
                  sym (key_between f.place (get_or entries (count - 1) d).place p key up (split.upto (count - 1) d (omega arith))) ∙ key,
            ),
          ))
      | inr l ↦ (let inside : count < length entries = (let n = at.1 in omega arith) in
          inr (
            inside,
            λ d.
                let up : before f.place (get_or entries count d).place ≡ false = subst (λ (z : Entry). before z.place (get_or entries count d).place ≡ false) (get_or_default entries at.0 d f at.1 ∙ at.2) (not_before entries count at.0 d index.rising l at.1) in
                sym (key_between p (get_or entries count d).place f.place (sym key) (before-back p (get_or entries count d).place (split.after count d (omega arith) inside)) up),
          ))
    ]

-- how many entries there are

abbrev class_list : Range → Bool → List Entry
class_list r odd = cond (has_class r odd) (entry_of r odd ∷ []) []

-- the entries of ranges, one after another
abbrev all_entries : List Range → List Entry
all_entries [] = []
all_entries (r ∷ rs) = (class_list r false ++ class_list r true) ++ all_entries rs

in_class_list : (r : Range) (odd : Bool) → has_class r odd ≡ true → Contains (class_list r odd) (entry_of r odd)
in_class_list r odd h = subst (λ b. Contains (cond b (entry_of r odd ∷ []) []) (entry_of r odd)) (sym h) (0, omega arith, refl)

in_own : (r : Range) (odd : Bool) → has_class r odd ≡ true → Contains (class_list r false ++ class_list r true) (entry_of r odd)
in_own r false h = Contains-append_left (class_list r false) (class_list r true) _ (in_class_list r false h)
in_own r true h = Contains-append_right (class_list r false) (class_list r true) _ (in_class_list r true h)

in_all : (ranges : List Range) (r : Range) (odd : Bool) → Contains ranges r → has_class r odd ≡ true → Contains (all_entries ranges) (entry_of r odd)
in_all [] r odd (k, l, q) h = absurd (omega arith)
in_all (x ∷ xs) r odd (zero, l, q) h = Contains-append_left (class_list x false ++ class_list x true) (all_entries xs) _ (subst (λ z. Contains (class_list z false ++ class_list z true) (entry_of r odd)) (sym q) (in_own r odd h))
in_all (x ∷ xs) r odd (suc k, l, q) h = Contains-append_right (class_list x false ++ class_list x true) (all_entries xs) _ (in_all xs r odd (k, omega arith, q) h)

length-class_list : (r : Range) (odd : Bool) → length (class_list r odd) ≤ 1
length-class_list r odd = elim (has_class r odd) as (λ b. length (cond b (entry_of r odd ∷ []) []) ≤ 1) [ true ↦ omega arith | false ↦ omega arith ]

length-all_entries : (ranges : List Range) → length (all_entries ranges) ≤ 2 * length ranges
length-all_entries [] = omega arith
length-all_entries (r ∷ rs) =
    let rest = length-all_entries rs in
    let e1 = length-append (class_list r false ++ class_list r true) (all_entries rs) in
    let e2 = length-append (class_list r false) (class_list r true) in
    let a = length-class_list r false in
    let b = length-class_list r true in
    omega arith

-- what is left of a list without one of its elements
in_rest : (ys : List Entry) (k : ℕ) (y z : Entry) → k < length ys → get_or ys k y ≡ y → Contains ys z → (y ≡ z → ⊥) → Contains (remove ys k) z
in_rest [] k y z l q h ne = absurd (omega arith)
in_rest (x ∷ xs) zero y z l q (zero, m, r) ne = absurd (ne (sym q ∙ r))
in_rest (x ∷ xs) zero y z l q (suc i, m, r) ne = (i, omega arith, r)
in_rest (x ∷ xs) (suc k) y z l q (zero, m, r) ne = (0, omega arith, r)
in_rest (x ∷ xs) (suc k) y z l q (suc i, m, r) ne = let w = in_rest xs k y z (omega arith) q (i, omega arith, r) ne in (suc w.0, (let n = w.1 in omega arith), w.2)

-- a list whose elements differ, all of another list, is no longer than that
pigeons : (xs ys : List Entry) → AllPairs (λ a b. a ≡ b → ⊥) xs → ((e : Entry) → Contains xs e → Contains ys e) → length xs ≤ length ys
pigeons [] ys apart all = omega arith
pigeons (x ∷ xs) ys apart all =
    let w = all x (0, omega arith, refl) in
    let rest = pigeons xs (remove ys w.0) (λ i j d l m. apart (suc i) (suc j) d (omega arith) (omega arith))
    (λ e k. in_rest ys w.0 x e w.1 w.2 (all e (suc k.0, (let n = k.1 in omega arith), k.2)) (λ q. apart 0 (suc k.0) e (omega arith) (let n = k.1 in omega arith) (q ∙ sym k.2))) in
    let n = length-remove ys w.0 w.1 in
    omega arith

-- an index has at most two entries a range
pub few : (entries : List Entry) (ranges : List Range) → IsIndexOf entries ranges → length entries ≤ 2 * length ranges
few entries ranges index =
    let differ : AllPairs (λ a b. a ≡ b → ⊥) entries = λ i j d l m q.
    let less : before (get_or entries j d).place (get_or entries j d).place ≡ true = subst (λ (z : Entry). before z.place (get_or entries j d).place ≡ true) q (index.rising i j d l m) in
    let never = before-itself (get_or entries j d).place in
    absurd cc in
    let most = pigeons entries (all_entries ranges) differ (λ e k. let w = (index.among e).0 k in subst (Contains (all_entries ranges)) (sym w.2.1.1) (in_all ranges w.0 w.2.0 w.1 w.2.1.0)) in
    let b = length-all_entries ranges in omega arith

-- a range of a list whose ids rise is the one of its id
pub range_of-there : (ranges : List Range) (r : Range) → AllPairs (λ r s. r.id < s.id) ranges → Contains ranges r → range_of ranges r.id ≡ Some r
range_of-there [] r rising (k, l, q) = absurd (omega arith)
range_of-there (x ∷ xs) r rising (zero, l, q) =
    let same : x.id ≡ r.id = ap (λ (z : Range). z.id) q in
    let t : (x.id == r.id) ≡ true = grind (arith, nat_tests) in
    ap (λ b. cond b (Some x) (range_of xs r.id)) t ∙ ap Some q
range_of-there (x ∷ xs) r rising (suc k, l, q) =
    let less : x.id < r.id = subst (λ (z : Range). x.id < z.id) q (rising 0 (suc k) r (omega arith) l) in
    let t : (x.id == r.id) ≡ false = grind (arith, nat_tests) in
    ap (λ b. cond b (Some x) (range_of xs r.id)) t ∙ range_of-there xs r (λ i j d a b. rising (suc i) (suc j) d (omega arith) (omega arith)) (k, omega arith, q)

-- the entries from one place to another have what stands between
pub near-part : (entries : List Entry) (from to start : ℕ) (e : Entry) → IsNear entries from to e → start ≤ from - 1 → Contains (take (to - start) (drop start entries)) e
near-part entries from to start e w le =
    let k : ℕ = w.at in
    let inside = w.inside in
    let low = w.from_here in
    let high = w.to_here in
    let sum : start + (k - start) ≡ k = omega arith in
    let at : get_or (take (to - start) (drop start entries)) (k - start) e ≡ e =
    get_or-take (to - start) (drop start entries) (k - start) e (omega arith) ∙ get_or-drop start entries (k - start) e ∙ ap (λ i. get_or entries i e) sum ∙ w.is in
    (k - start, simp (length-take, length-drop) (omega arith), at)
