-- How `generate` goes over three words that do not begin with `-`.
use Rattle.std.proofs.Common.{◌≡◌, ◌∙◌, ℕ, Bool, true, false, nat_eq, ◌&&◌, refl, ap, ap₂, List, [], ◌∷◌, Some, None, is_some, codes}
use Rattle.std.specs.List.{list_all}
use Rattle.clap.specs.Walk.{Held, Row, Rule, Step, Text, Walk, idle, value, after_step, arg_by_index, finished, first_of, nothing_held, reading_by, to_positional, walk, walk_from, walked, word_met}
use Rattle.clap.specs.Simple.{Shape, built, entered, matches_of}
use Rattle.clap.specs.Takes.{default_passes, entered_passes, is_valid, settle_passes, step_passes, takes, turn_passes, walk_passes, word_passes}
use Rattle.clap.specs.declared.parser.matches.ValueSource.TheVariants.{CommandLine}
use Rattle.office_words.specs.Generate.{generate, word}

-- the walk between two words
abbrev before : Held → ℕ → Walk
before h p = record { held = h; waiting = idle; position = p; is_trailing = false; stopped = None }

-- a word that does not begin with `-` goes to the positional that is next
module _ (x : ℕ) (xs : Text) (head : nat_eq x 45 ≡ false) where
  met : (c : List Rule) (p : ℕ) (h : Held) → word_met c [] false idle p (x ∷ xs) h ≡ (h, value)
  met c p h = rw (head, head) refl

  walked_at : (c : List Rule) (p : ℕ) (h : Held) → walked c [] (before h p) (x ∷ xs) ≡ to_positional c (arg_by_index c p) (x ∷ xs) (before h p) h
  unfolding walked
  walked_at c p h = ap (λ (m : Held × Step). after_step c (x ∷ xs) (before h p) m.0 m.1) (met c p h)

  passes : (s : Shape) (h : Held) → word_passes s [] false idle (x ∷ xs) h ≡ true
  passes s h = rw (head, head) refl

  turn_at : (s : Shape) (p : ℕ) (h : Held) → turn_passes s [] (before h p) (x ∷ xs) ≡ step_passes s p h value
  turn_at s p h = ap₂ (λ (b : Bool) (m : Held × Step). b && step_passes s p m.0 m.1) (passes s h) (met s.rules p h)

abbrev top : Shape
top = (built generate).top

abbrev rules : List Rule
rules = top.rules

abbrev row : Text → Text → Row
row id text = record { id = id; values = text ∷ []; count = None; source = Some CommandLine; reading = reading_by (word id) }

abbrev held : List Row → Text → Text → Held
held rows id text = record { rows = rows; pending = Some (id, text ∷ []); skip = 0 }

module _ (name : Text) (a b c : ℕ) (ds ss ns : Text) (dir : nat_eq a 45 ≡ false) (seed : nat_eq b 45 ≡ false) (count : nat_eq c 45 ≡ false) where
  abbrev three : List Text
  three = (a ∷ ds) ∷ (b ∷ ss) ∷ (c ∷ ns) ∷ []

  abbrev one_held : Held
  one_held = held [] (codes "dir") (a ∷ ds)

  abbrev two_held : Held
  two_held = held (row (codes "dir") (a ∷ ds) ∷ []) (codes "seed") (b ∷ ss)

  abbrev three_held : Held
  three_held = held (row (codes "dir") (a ∷ ds) ∷ row (codes "seed") (b ∷ ss) ∷ []) (codes "count") (c ∷ ns)

  one : walked rules [] (before nothing_held 1) (a ∷ ds) ≡ before one_held 2
  one = walked_at a ds dir rules 1 nothing_held

  two : walked rules [] (before one_held 2) (b ∷ ss) ≡ before two_held 3
  two = walked_at b ss seed rules 2 one_held

  end : walked rules [] (before two_held 3) (c ∷ ns) ≡ before three_held 4
  end = walked_at c ns count rules 3 two_held

  walk_end : walk rules [] nothing_held three ≡ before three_held 4
  walk_end = ap (λ (w : Walk). walked rules [] (walked rules [] w (b ∷ ss)) (c ∷ ns)) one ∙ ap (λ (w : Walk). walked rules [] w (c ∷ ns)) two ∙ end

  walk_taken : walk_passes top [] (walk_from nothing_held) three ≡ true
  unfolding walk_passes
  walk_taken =
      ap₂ (λ (t : Bool) (w : Walk). t && walk_passes top [] w ((b ∷ ss) ∷ (c ∷ ns) ∷ [])) (turn_at a ds dir top 1 nothing_held) one
      ∙ ap₂ (λ (t : Bool) (w : Walk). t && walk_passes top [] w ((c ∷ ns) ∷ [])) (turn_at b ss seed top 2 one_held) two
      ∙ ap₂ (λ (t : Bool) (w : Walk). t && walk_passes top [] w []) (turn_at c ns count top 3 two_held) end

  abbrev passes_after : Bool → Walk → Bool
  passes_after t w = entered_passes (built generate) w.stopped && (t && (settle_passes rules top.args_override_self w.held
      && (list_all default_passes rules && is_valid top (finished rules w.held) (is_some (entered (built generate) w.stopped)))))

  pub plain_taken : takes generate (name ∷ three) ≡ true
  plain_taken = ap₂ passes_after walk_taken walk_end

  pub plain_seed : first_of (codes "seed") (matches_of generate (name ∷ three)) ≡ Some (b ∷ ss)
  plain_seed = ap (λ (w : Walk). first_of (codes "seed") (finished rules w.held)) walk_end

  pub plain_count : first_of (codes "count") (matches_of generate (name ∷ three)) ≡ Some (c ∷ ns)
  plain_count = ap (λ (w : Walk). first_of (codes "count") (finished rules w.held)) walk_end
