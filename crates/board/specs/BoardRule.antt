-- The rule of the board's word, and what its steps tell.
use Rattle.std.specs.Prelude.{◌≡◌, ℕ, ◌+◌, List, [], ◌∷◌, length, ◌⊎◌, Bool, if◌then◌else◌}
use mathlib.Core.Option.{some}
use mathlib.Core.List.{IsPrefix}
use lib.ListN.{get_elem?}
use Rattle.atomic_table.specs.Table.{State, Me, Step}
use Rattle.ali_base.specs.declared.duty.Mode.TheVariants.{Both}
use Rattle.ali_base.specs.declared.names.NodeName.TheVariants.{A}
use Rattle.board.specs.declared.front.Front.{Front}
use Rattle.board.specs.declared.view.View.{View}
use Rattle.board.specs.declared.view.Role.{Role}
use Rattle.board.specs.declared.view.Role.TheVariants.{Opens, Writes, Reads, Spent}
use Rattle.board.specs.FrontWord.{word_of, front_of, FitsWord, IsNoEarlier}

-- a seat at the board's word: what it knows, and no slots
abbrev pub At : Type 0 → Type 0
At E = Me (Unit {0}) (View E)

module _ {E : Type 0} where
  -- a seat that knows this, with another seat's list and front set beside
  abbrev pub comparing_view : Role → List E → Front → List E → Front → View E
  comparing_view role list front other other_front = record { role = role; list = list; front = front; beside = other; beside_front = other_front }

  -- a seat that knows this, with nothing set beside
  abbrev pub view_of : Role → List E → Front → View E
  view_of role list front = comparing_view role list front [] front

  -- the one seat of a board that has just been made
  abbrev pub opening_view : View E
  opening_view = view_of Opens [] record { epoch = 0; holder = A; mode = Both; count = 0 }

  -- a seat that was joined into another one
  abbrev pub spent_view : View E
  spent_view = view_of Spent [] record { epoch = 0; holder = A; mode = Both; count = 0 }

  -- a new seat that reads, and knows the same
  abbrev pub reading : View E → View E
  reading v = record v { role = Reads }

  -- what another seat knows, set beside
  abbrev pub with_beside : View E → View E → View E
  with_beside v other = record v { beside = other.list; beside_front = other.front }

  -- What the rule says of a seat, where the history is `list`, the word shows `shown`, and the seat `main` writes:
  -- Main has the whole list; every other list begins it; what is set beside Main's begins it too
  abbrev pub Knows : (List E → Type 0) → ℕ → List E → Front → ℕ → View E → Role → Type 0
  Knows lawful main list shown by v Opens = ⊥
  Knows lawful main list shown by v Writes = (by ≡ main) × (v.list ≡ list) × (v.front ≡ shown) × IsPrefix v.beside list × IsNoEarlier v.beside_front shown
  Knows lawful main list shown by v Reads = IsPrefix v.list list × IsPrefix v.beside list × lawful v.list × IsNoEarlier v.front shown
  Knows lawful main list shown by v Spent = Unit {0}

  -- There is one history, which is lawful, and the word shows its length and the duty
  pub record IsRunning (lawful : List E → Type 0) (s : State (Unit {0}) (View E)) : Type 0 where
    pub main : ℕ
    pub list : List E
    pub shown : Front
    pub word : s.words ≡ word_of shown ∷ []
    pub count : shown.count ≡ length list
    pub fits : FitsWord shown
    pub is_lawful : lawful list
    pub each_seat : (by : ℕ) (v : View E) → get_elem? s.views by ≡ some v → Knows lawful main list shown by v v.role

  -- the board runs, or it has just been made and has one seat
  abbrev pub Holds : (List E → Type 0) → State (Unit {0}) (View E) → Type 0
  Holds lawful s = ((s.views ≡ opening_view ∷ []) × (length s.words ≡ 1)) ⊎ IsRunning lawful s

  -- the board has this history, and the seat writes
  abbrev pub opened : List E → Step (Unit {0}) → At E → ℕ → At E → Type 0
  opened list st m found m' = m' ≡ (view_of Writes list (front_of st.first), m.1)

  -- Main's list is changed by `more`, and the word by as much as was added to it
  abbrev pub wrote : (List E → List E) → Step (Unit {0}) → At E → ℕ → At E → Type 0
  wrote more st m found m' = m' ≡ (view_of Writes (more m.0.list) (front_of (word_of m.0.front + st.first)), m.1)

  -- A seat that reads has seen the whole history, and the word that was found shows its length
  pub record Saw (lawful : List E → Type 0) (keeps : Bool) (v : View E) (found : ℕ) (w : View E) : Type 0 where
    pub is : w ≡ view_of Reads w.list (if keeps then v.front else front_of found)
    pub count : (front_of found).count ≡ length w.list
    pub fits : FitsWord (front_of found)
    pub list : IsPrefix v.list w.list
    pub beside : IsPrefix v.beside w.list
    pub later : IsNoEarlier v.front (front_of found)
    pub is_lawful : lawful w.list

  -- the seat saw it, and keeps the front that it had or has the one that was found
  abbrev pub saw : (List E → Type 0) → Bool → Step (Unit {0}) → At E → ℕ → At E → Type 0
  saw lawful keeps st m found m' = (m'.1 ≡ m.1) × Saw lawful keeps m.0 found m'.0

  -- Main stays, and what was set beside begins it
  abbrev pub met : Step (Unit {0}) → At E → ℕ → At E → Type 0
  met st m found m' = (m' ≡ (view_of Writes m.0.list m.0.front, m.1)) × IsPrefix m.0.beside m.0.list × IsNoEarlier m.0.beside_front m.0.front
