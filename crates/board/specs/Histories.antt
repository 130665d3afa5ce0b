-- Main and a pass as contracts see them.
use Rattle.std.specs.Prelude.{◌≡◌, ℕ, ◌≤◌, List, [], length}
use Rattle.atomic_table.specs.Seated.{TableId}
use Rattle.ali_base.specs.declared.duty.Duty.{Duty}
use Rattle.board.specs.declared.front.Front.{Front}
use Rattle.board.specs.declared.view.Role.TheVariants.{Writes, Reads}
use Rattle.board.specs.declared.front.TheConstants.{MOST_BOOKED}
use Rattle.board.specs.FrontWord.{front_under, FitsWord}
use Rattle.board.specs.BoardRule.{At, view_of}

-- Main: which board it is of, the whole booked history, and the present duty
pub record MainHistory (E : Type 0) : Type 0 where
  pub board : TableId
  pub list : List E
  pub duty : Duty

-- A pass: which board it is of, the history that it has seen, and the front that a load gave it last
pub record SeenHistory (E : Type 0) : Type 0 where
  pub board : TableId
  pub list : List E
  pub front : Front

-- the seat writes, with a lawful list of this length under this duty
abbrev pub IsMain : {E : Type 0} → (List E → Type 0) → At E → Duty → ℕ → Type 0
IsMain lawful me duty count = (me ≡ (view_of Writes me.0.list (front_under duty count), [])) × (count ≡ length me.0.list) × FitsWord (front_under duty count) × lawful me.0.list

-- the seat reads, with a lawful list of this length
abbrev pub IsPass : {E : Type 0} → (List E → Type 0) → At E → ℕ → Type 0
IsPass lawful me count = (me ≡ (view_of Reads me.0.list me.0.front, [])) × (count ≡ length me.0.list) × (count ≤ MOST_BOOKED) × lawful me.0.list
