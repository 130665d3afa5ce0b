-- Each step on the word keeps the rule.
use Rattle.std.proofs.Common.{◌≡◌, ◌≢◌, ℕ, zero, suc, ◌+◌, ◌%◌, ◌^◌, List, [], ◌∷◌, length, set, Bool, true, false, refl, ap, sym, ◌∙◌, subst, ⊎_elim, inr, arith}
use Rattle.std.specs.Prelude.{slice_index, if◌then◌else◌}
use mathlib.Core.Option.{none, some, some-ne-none, some-injective}
use mathlib.Core.List.{IsPrefix}
use lib.ListN.{get_elem?}
use Rattle.atomic_table.specs.Table.{State, step, keeps, Allows, Splits, Joins}
use Rattle.atomic_table.proofs.Lists.{at_set, at_snoc, set_again}
use Rattle.board.specs.declared.front.Front.{Front}
use Rattle.board.specs.declared.view.View.{View}
use Rattle.board.specs.declared.view.Role.{Role}
use Rattle.board.specs.declared.view.Role.TheVariants.{Opens, Writes, Reads, Spent}
use Rattle.board.specs.FrontWord.{word_of, front_of, FitsWord, IsNoEarlier}
use Rattle.board.specs.BoardRule.{comparing_view, view_of, opening_view, spent_view, reading, with_beside, Knows, IsRunning, Holds, opened, saw, met}
use Rattle.board.proofs.Words.{front_of_word, word_after, no_earlier_self, no_earlier_trans}
use Rattle.board.proofs.Prefixes.{prefix_nil, prefix_self, prefix_trans}

-- the seat is at work: it is not that of a board that has just been made
abbrev pub IsAtWork : Role → Type 0
IsAtWork Opens = ⊥
IsAtWork Writes = Unit {0}
IsAtWork Reads = Unit {0}
IsAtWork Spent = ⊥

module _ {E : Type 0} (lawful : List E → Type 0) where
  abbrev St : Type 0
  St = State (Unit {0}) (View E)

  not_new : (by : ℕ) (v : View E) → get_elem? (opening_view ∷ []) by ≡ some v → IsAtWork v.role → ⊥
  not_new zero v e = subst (λ (u : View E). IsAtWork u.role → ⊥) (some-injective _ _ e) (λ x. x)
  not_new (suc by) v e = λ _. absurd (some-ne-none v (sym e))

  -- where a seat is at work, the board runs
  runs : (s : St) → Holds lawful s → (by : ℕ) (v : View E) → get_elem? s.views by ≡ some v → IsAtWork v.role → IsRunning lawful s
  runs s holds by v at on = ⊎_elim
      (λ (new : (s.views ≡ opening_view ∷ []) × (length s.words ≡ 1)). absurd (not_new by v (subst (λ (vs : List (View E)). get_elem? vs by ≡ some v) new.0 at) on))
      (λ (r : IsRunning lawful s). r)
      holds

  seats_set : (K : ℕ → View E → Type 0) (vs : List (View E)) (me : ℕ) (w : View E) → K me w → ((j : ℕ) (u : View E) → j ≢ me → get_elem? vs j ≡ some u → K j u)
      → (j : ℕ) (u : View E) → get_elem? (set vs me w) j ≡ some u → K j u
  seats_set K vs me w mine others j u e = ⊎_elim
      (λ (t : (j ≡ me) × (w ≡ u)). subst (λ (x : ℕ × View E). K x.0 x.1) (λ i. (sym t.0 i, t.1 i)) mine)
      (λ (t : (j ≢ me) × (get_elem? vs j ≡ some u)). others j u t.0 t.1)
      (at_set vs me j w u e)

  -- what another seat knows stays so where the history grows
  others_know : (main : ℕ) (list list' : List E) (shown shown' : Front) (j : ℕ) (v : View E) (r : Role) → j ≢ main → IsPrefix list list' → IsNoEarlier shown shown'
      → Knows lawful main list shown j v r → Knows lawful main list' shown' j v r
  others_know main list list' shown shown' j v Opens apart more later k = k
  others_know main list list' shown shown' j v Writes apart more later k = absurd (apart k.0)
  others_know main list list' shown shown' j v Reads apart more later k = (prefix_trans v.list list list' k.0 more, prefix_trans v.beside list list' k.1 more, k.2, no_earlier_trans v.front shown shown' k.3 later)
  others_know main list list' shown shown' j v Spent apart more later k = tt

  set_one : (ws : List ℕ) (n : ℕ) → length ws ≡ 1 → set ws 0 n ≡ n ∷ []
  set_one [] n e = absurd (omega arith)
  set_one (x ∷ []) n e = refl
  set_one (x ∷ y ∷ ws) n e = absurd (omega arith)

  -- the board gets its history
  pub opens : (slots : ℕ) (list : List E) (f : Front) → lawful list → f.count ≡ length list → FitsWord f
      → Allows (Holds lawful) slots 0 (opening_view, []) 0 (λ _. word_of f) (λ _. opened list (step slots 0 (word_of f) 0 none) (opening_view, []) (word_of f))
  opens slots list f ok count fits s holds homes at below =
      let w = view_of Writes list f in ⊎_elim
      (λ (new : (s.views ≡ opening_view ∷ []) × (length s.words ≡ 1)). (
        w,
        keeps,
        tt,
        inr record {
          main = 0;
          list = list;
          shown = f;
          word = set_one s.words (word_of f) new.1;
          count = count;
          fits = fits;
          is_lawful = ok;
          each_seat = subst (λ (vs : List (View E)). (by : ℕ) (v : View E) → get_elem? (set vs 0 w) by ≡ some v → Knows lawful 0 list f by v v.role) (sym new.0) (alone w (refl, refl, refl, prefix_nil list, no_earlier_self f));
        },
        ap (λ (g : Front). (view_of Writes list g, [])) (sym (front_of_word f fits)),
      ))
      (λ (r : IsRunning lawful s). absurd (r.each_seat 0 opening_view at))
      holds
    where
      alone : (w : View E) → Knows lawful 0 list f 0 w w.role → (by : ℕ) (v : View E) → get_elem? (w ∷ []) by ≡ some v → Knows lawful 0 list f by v v.role
      alone w k zero v e = subst (λ (u : View E). Knows lawful 0 list f 0 u u.role) (some-injective _ _ e) k
      alone w k (suc by) v e = absurd (some-ne-none v (sym e))

  -- Main's list becomes one that it begins, and the word shows a later front
  pub writes : (slots by : ℕ) (list list' : List E) (f g : Front) (k : ℕ) → IsPrefix list list' → IsNoEarlier f g → word_of f + k ≡ word_of g → g.count ≡ length list' → FitsWord g → lawful list'
      → Allows (Holds lawful) slots by (view_of Writes list f, []) 0 (λ n. (n + k) % 2 ^ 64) (λ found m'. m' ≡ (view_of Writes list' (front_of (word_of f + k)), []))
  writes slots by list list' f g k more later adds count fits ok s holds homes at below =
      let r = runs s holds by (view_of Writes list f) at tt in
      let mine = r.each_seat by (view_of Writes list f) at in
      let found : slice_index s.words 0 ≡ word_of f = ap (λ (ws : List ℕ). slice_index ws 0) r.word ∙ ap word_of (sym mine.2) in
      let is : (slice_index s.words 0 + k) % 18446744073709551616 ≡ word_of g =
      ap (λ (x : ℕ). (x + k) % 18446744073709551616) found ∙ word_after f g k fits adds in
      let w = view_of Writes list' g in (
        w,
        keeps,
        tt,
        inr record {
          main = r.main;
          list = list';
          shown = g;
          word = ap (λ (ws : List ℕ). set ws 0 ((slice_index s.words 0 + k) % 2 ^ 64)) r.word ∙ ap (λ (x : ℕ). x ∷ []) is;
          count = count;
          fits = fits;
          is_lawful = ok;
          each_seat = seats_set (λ j u. Knows lawful r.main list' g j u u.role) s.views by w
              (mine.0, refl, refl, prefix_nil list', no_earlier_self g)
              (λ j u apart e. others_know r.main r.list list' r.shown g j u u.role (λ same. apart (same ∙ sym mine.0)) (subst (λ (l : List E). IsPrefix l list') mine.1 more) (subst (λ (h : Front). IsNoEarlier h g) mine.2 later) (r.each_seat j u e));
        },
        ap (λ (h : Front). (view_of Writes list' h, [])) (sym (ap front_of adds ∙ front_of_word g fits)),
      )

  -- a step that leaves the word and the history
  stays : (s : St) (r : IsRunning lawful s) (by : ℕ) (w : View E) → Knows lawful r.main r.list r.shown by w w.role
      → IsRunning lawful record { words = set s.words 0 (slice_index s.words 0); homes = s.homes; views = set s.views by w }
  stays s r by w mine = record {
    main = r.main;
    list = r.list;
    shown = r.shown;
    word = ap (λ (ws : List ℕ). set ws 0 (slice_index ws 0)) r.word;
    count = r.count;
    fits = r.fits;
    is_lawful = r.is_lawful;
    each_seat = seats_set (λ j u. Knows lawful r.main r.list r.shown j u u.role) s.views by w mine (λ j u apart e. r.each_seat j u e);
  }

  -- a seat that reads sees the whole history
  pub looks : (slots by : ℕ) (keeps_front : Bool) (list other : List E) (f other_front : Front)
      → Allows (Holds lawful) slots by (comparing_view Reads list f other other_front, []) 0 (λ n. n) (saw lawful keeps_front (step slots 0 0 0 none) (comparing_view Reads list f other other_front, []))
  looks slots by keeps_front list other f other_front s holds homes at below =
      let v = comparing_view Reads list f other other_front in
      let r = runs s holds by v at tt in
      let k = r.each_seat by v at in
      let found = slice_index s.words 0 in
      let is : front_of found ≡ r.shown = ap front_of (ap (λ (ws : List ℕ). slice_index ws 0) r.word) ∙ front_of_word r.shown r.fits in
      let later = subst (IsNoEarlier f) (sym is) k.3 in
      let w = view_of Reads r.list (if keeps_front then f else front_of found) in (
        w,
        keeps,
        tt,
        inr (stays s r by w (prefix_self r.list, prefix_nil r.list, r.is_lawful, kept keeps_front k.3 (subst (λ (g : Front). IsNoEarlier g r.shown) (sym is) (no_earlier_self r.shown)))),
        (
          refl,
          record {
            is = refl;
            count = ap (λ (g : Front). g.count) is ∙ r.count;
            fits = subst FitsWord (sym is) r.fits;
            list = k.0;
            beside = k.1;
            later = later;
            is_lawful = r.is_lawful;
          },
        ),
      )
    where
      kept : {g h : Front} (b : Bool) → IsNoEarlier f h → IsNoEarlier g h → IsNoEarlier (if b then f else g) h
      kept true p q = p
      kept false p q = q

  -- what was set beside Main's list begins it
  pub meets : (slots by : ℕ) (list other : List E) (f other_front : Front)
      → Allows (Holds lawful) slots by (comparing_view Writes list f other other_front, []) 0 (λ n. n) (met (step slots 0 0 0 none) (comparing_view Writes list f other other_front, []))
  meets slots by list other f other_front s holds homes at below =
      let v = comparing_view Writes list f other other_front in
      let r = runs s holds by v at tt in
      let k = r.each_seat by v at in
      let w = view_of Writes list f in (
        w,
        keeps,
        tt,
        inr (stays s r by w (k.0, k.1, k.2, prefix_nil r.list, subst (λ (g : Front). IsNoEarlier g r.shown) (sym k.2) (no_earlier_self r.shown))),
        (refl, subst (λ (l : List E). IsPrefix other l) (sym k.1) k.3, subst (IsNoEarlier other_front) (sym k.2) k.4),
      )

  -- what a seat at work knows, its copy may know
  copied : (main by : ℕ) (list : List E) (shown : Front) (v : View E) (r : Role) → lawful list → IsAtWork r → Knows lawful main list shown by v r → IsPrefix v.list list × lawful v.list × IsNoEarlier v.front shown
  copied main by list shown v Opens ok on k = absurd on
  copied main by list shown v Writes ok on k = (
    subst (λ (l : List E). IsPrefix l list) (sym k.1) (prefix_self list),
    subst lawful (sym k.1) ok,
    subst (λ (g : Front). IsNoEarlier g shown) (sym k.2) (no_earlier_self shown),
  )
  copied main by list shown v Reads ok on k = (k.0, k.2, k.3)
  copied main by list shown v Spent ok on k = absurd on

  -- a seat at work is copied by one that reads
  pub copies : (by : ℕ) (role : Role) (list : List E) (f : Front) → IsAtWork role → Splits (Holds lawful) by (view_of role list f) (view_of role list f) (reading (view_of role list f))
  copies by role list f on s holds at =
      let v = view_of role list f in
      let r = runs s holds by v at on in
      let c = copied r.main by r.list r.shown v role r.is_lawful on (r.each_seat by v at) in
      let K : ℕ → View E → Type 0 = λ j u. Knows lawful r.main r.list r.shown j u u.role in
      inr record {
        main = r.main;
        list = r.list;
        shown = r.shown;
        word = r.word;
        count = r.count;
        fits = r.fits;
        is_lawful = r.is_lawful;
        each_seat = λ j u e. ⊎_elim
            (λ was. r.each_seat j u (subst (λ (l : List (View E)). get_elem? l j ≡ some u) (set_again s.views by v at) was))
            (λ (same : reading v ≡ u). subst (K j) same (c.0, prefix_nil r.list, c.1, c.2))
            (at_snoc (set s.views by v) (reading v) u j e);
      }

  -- what a seat knows with a list of the history set beside
  compares : (main by : ℕ) (list : List E) (shown : Front) (v other : View E) (r : Role) → IsPrefix other.list list → IsNoEarlier other.front shown → Knows lawful main list shown by v r → Knows lawful main list shown by (with_beside v other) r
  compares main by list shown v other Opens begins later k = k
  compares main by list shown v other Writes begins later k = (k.0, k.1, k.2, begins, later)
  compares main by list shown v other Reads begins later k = (k.0, begins, k.2, k.3)
  compares main by list shown v other Spent begins later k = tt

  -- a seat at work takes in one that reads
  pub joins : (by other : ℕ) (role : Role) (list more : List E) (f g : Front) → IsAtWork role
      → Joins (Holds lawful) by (view_of role list f) other (view_of Reads more g) (comparing_view role list f more g) spent_view
  joins by other role list more f g on s holds at apart there =
      let v = view_of role list f in
      let w = comparing_view role list f more g in
      let u = view_of Reads more g in
      let r = runs s holds by v at on in
      let K : ℕ → View E → Type 0 = λ j x. Knows lawful r.main r.list r.shown j x x.role in
      let theirs : K other u = ⊎_elim
      (λ (t : (other ≡ by) × (w ≡ u)). absurd (apart t.0))
      (λ (t : (other ≢ by) × (get_elem? s.views other ≡ some u)). r.each_seat other u t.1)
      (at_set s.views by other w u there) in
      inr record {
        main = r.main;
        list = r.list;
        shown = r.shown;
        word = r.word;
        count = r.count;
        fits = r.fits;
        is_lawful = r.is_lawful;
        each_seat = seats_set K (set s.views by w) other spent_view tt
            (λ j x _ e. seats_set K s.views by w (compares r.main by r.list r.shown v u role theirs.0 theirs.3 (r.each_seat by v at)) (λ i y _ e'. r.each_seat i y e') j x e);
      }
