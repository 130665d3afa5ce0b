-- Journals as lists of frames, and what it means that two of them begin alike. Frames count from 1.
use Rattle.std.specs.Prelude.{ℕ, zero, suc, ◌≡◌, ◌≤◌, ◌<◌, List, [], ◌∷◌, length, take, get_or, map, Option, Some, None, slice_get}

-- An entry with the epoch in which it was written.
pub record Frame (E : Type 0) : Type 0 where
  pub entry : E
  pub epoch : ℕ

-- The epochs of the frames.
abbrev pub epochs : {E : Type 0} → List (Frame E) → List ℕ
epochs journal = map (λ frame. frame.epoch) journal

-- The entries of the frames.
abbrev pub entries : {E : Type 0} → List (Frame E) → List E
entries journal = map (λ frame. frame.entry) journal

-- Item k of a list, counted from 1.
abbrev pub item_at : {A : Type 0} → List A → ℕ → Option A
item_at items zero = None
item_at items (suc index) = slice_get items index

-- The epoch of frame k, counted from 1; 0 where there is none.
abbrev pub epoch_at : {E : Type 0} → List (Frame E) → ℕ → ℕ
epoch_at journal zero = 0
epoch_at journal (suc index) = get_or (epochs journal) index 0

-- The first list begins with the second: the second is a prefix of the first.
pub record Begins {A : Type 0} (whole start : List A) : Type 0 where
  pub front : take (length start) whole ≡ start

-- Both lists have at least n items, and the first n are the same.
pub record Shares {A : Type 0} (n : ℕ) (xs ys : List A) : Type 0 where
  pub left : n ≤ length xs
  pub right : n ≤ length ys
  pub front : take n xs ≡ take n ys

-- Journal agreement: wherever frames of one number have one epoch, the journals are equal up to that number.
abbrev pub Agree : {E : Type 0} → List (Frame E) → List (Frame E) → Type 0
Agree left right =
    (k : ℕ) → k ≤ length left → k ≤ length right → epoch_at left k ≡ epoch_at right k → take k left ≡ take k right

-- The epochs never fall along the journal, and none is above the present one.
pub record Rising {E : Type 0} (present : ℕ) (journal : List (Frame E)) : Type 0 where
  pub never_fall : (j k : ℕ) → j ≤ k → k ≤ length journal → epoch_at journal j ≤ epoch_at journal k
  pub below : (k : ℕ) → k ≤ length journal → epoch_at journal k ≤ present

-- Each frame past the first n has an epoch of at least this.
abbrev pub PastAtLeast : {E : Type 0} → ℕ → ℕ → List (Frame E) → Type 0
PastAtLeast n epoch journal = (k : ℕ) → n < k → k ≤ length journal → epoch ≤ epoch_at journal k

-- A history is legal: each entry may be booked next after those before it.
abbrev pub Legal : {E : Type 0} → (List E → E → Type 0) → List (Frame E) → Type 0
Legal due history =
    (index : ℕ) (frame : _) → slice_get history index ≡ Some frame → due (entries (take index history)) frame.entry

-- The item stands in the list.
abbrev pub In : {A : Type 0} → List A → A → Type 0
In items item = (index : ℕ) × (slice_get items index ≡ Some item)

-- There is an item, and it meets this.
abbrev pub OnItem : {A : Type 0} → Option A → (A → Type 0) → Type 0
OnItem None P = ⊥
OnItem (Some item) P = P item

-- The list without item k, counted from 1.
abbrev pub without : {A : Type 0} → List A → ℕ → List A
without [] k = []
without (item ∷ items) zero = item ∷ items
without (item ∷ items) (suc zero) = items
without (item ∷ items) (suc (suc k)) = item ∷ without items (suc k)
