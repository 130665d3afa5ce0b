-- The duties as one list.
use Rattle.std.proofs.Common.{◌≡◌, inl, inr, List, [], ◌∷◌, ◌++◌, refl, ap, sym, ◌∙◌, Some}
use Rattle.std.specs.Prelude.{reverse}
use Rattle.std.proofs.lemmas.List.{reverse-append, reverse-reverse}
use Rattle.ali_base.specs.declared.duty.Duty.{Duty}
use Rattle.pair_world.specs.Frames.{Frame}
use Rattle.pair_world.specs.World.{World, MayRead, MayList, duty_list, opened, opened_newest, opened_from}

pub list_next : (duty next : Duty) (past : List Duty) → duty_list next (duty ∷ past) ≡ duty_list duty past ++ next ∷ []
list_next duty next past = reverse-append (next ∷ []) (duty ∷ past)

pub list_opened : {E : Type 0} (duty : Duty) (past : List Duty) (a b : List (Frame E)) → opened_from (duty_list duty past) a b ≡ opened duty past a b
list_opened duty past a b = ap (λ z. opened_newest z a b) (reverse-reverse (duty ∷ past))

-- one list has one last duty, and one list of those before it
one_list : (d e : Duty) (ds es : List Duty) → duty_list d ds ≡ duty_list e es → (d ≡ e) × (ds ≡ es)
one_list d e ds es same = by_cons d e ds es (sym (reverse-reverse (d ∷ ds)) ∙ ap reverse same ∙ reverse-reverse (e ∷ es))
  where
    by_cons : (d e : Duty) (ds es : List Duty) → ◌≡◌ {A = List Duty} (d ∷ ds) (e ∷ es) → (d ≡ e) × (ds ≡ es)
    by_cons d e ds es is = (cc, cc)

module _ {E : Type 0} (w : World E) where
  pub list_read : (duty : Duty) (past : List Duty) → MayRead w duty past → MayList w (duty_list duty past)
  list_read duty past (inl is) = inl (ap (λ z. duty_list z w.base.past) is.0 ∙ ap (duty_list duty) is.1)
  list_read duty past (inr is) = inr (duty, is.0, sym (list_next w.base.duty duty w.base.past) ∙ ap (duty_list duty) is.1)

  pub read_list : (duty : Duty) (past : List Duty) → MayList w (duty_list duty past) → MayRead w duty past
  read_list duty past (inl is) = inl (one_list w.base.duty duty w.base.past past is)
  read_list duty past (inr is) =
      let e = one_list is.0 duty (w.base.duty ∷ w.base.past) past (list_next w.base.duty is.0 w.base.past ∙ is.2) in
      inr (is.1 ∙ ap Some e.0, e.1)

  pub list_of : (duties : List Duty) → MayList w duties → (duty : Duty) × (past : List Duty) × (duty_list duty past ≡ duties) × MayRead w duty past
  list_of duties (inl is) = (w.base.duty, w.base.past, is, inl (refl, refl))
  list_of duties (inr is) = (is.0, (w.base.duty ∷ w.base.past), list_next w.base.duty is.0 w.base.past ∙ is.2, inr (is.1, refl))
