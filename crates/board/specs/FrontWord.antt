-- What a look at the board shows, and the word that shows it.
use Rattle.std.specs.Prelude.{◌≡◌, ℕ, ◌+◌, ◌*◌, ◌/◌, ◌%◌, ◌^◌, ◌<◌, ◌≤◌, ◌==◌, nat_lt, if◌then◌else◌}
use Rattle.ali_base.specs.declared.duty.Mode.{Mode}
use Rattle.ali_base.specs.declared.duty.Mode.TheVariants.{Both, Alone}
use Rattle.ali_base.specs.declared.duty.Duty.{Duty}
use Rattle.ali_base.specs.declared.names.NodeName.{NodeName}
use Rattle.ali_base.specs.declared.names.NodeName.TheVariants.{A, B}
use Rattle.board.specs.declared.front.Front.{Front}
use Rattle.board.specs.declared.front.TheConstants.{MOST_BOOKED}

-- the number of a holder and a mode in the word
abbrev pub duty_number : NodeName → Mode → ℕ
duty_number A Both = 0
duty_number B Both = 1
duty_number A Alone = 2
duty_number B Alone = 3

-- the word of a front: the epoch, then two bits for the duty, then twenty-four for the count
abbrev pub word_of : Front → ℕ
word_of f = f.epoch * 2 ^ 26 + duty_number f.holder f.mode * 2 ^ 24 + f.count

-- the front of a word
abbrev pub front_of : ℕ → Front
front_of word = record {
  epoch = word / 2 ^ 26;
  holder = if word / 2 ^ 24 % 2 == 0 then A else B;
  mode = if nat_lt (word / 2 ^ 24 % 4) 2 then Both else Alone;
  count = word % 2 ^ 24;
}

-- a front that a word can show
abbrev pub FitsWord : Front → Type 0
FitsWord f = (f.count ≤ MOST_BOOKED) × (f.epoch < 2 ^ 32)

-- the front under a duty where so many entries are booked
abbrev pub front_under : Duty → ℕ → Front
front_under d count = record { epoch = d.epoch; holder = d.holder; mode = d.mode; count = count }

-- g was shown no earlier than f: it has as many entries at least, no lower epoch, and in one epoch one duty
abbrev pub IsNoEarlier : Front → Front → Type 0
IsNoEarlier f g = (f.count ≤ g.count) × (f.epoch ≤ g.epoch) × (f.epoch ≡ g.epoch → (g.holder ≡ f.holder) × (g.mode ≡ f.mode))
