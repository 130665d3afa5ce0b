-- Rows over any replies and worlds.
use Rattle.std.proofs.Common.{◌≡◌, inl, inr, ap, sym, ◌∙◌}
use Rattle.std.specs.Option.{option_map}
use Rattle.ali_base.specs.declared.names.DiskName.{DiskName}
use Rattle.pair_world.proofs.Items.{some_is, none_some}
use Rattle.world_rows.specs.Counts.{Counts, NoneRose}
use Rattle.world_rows.specs.Rows.{Row, Unless, MayFail, Always, Success, Gives, row_in}

module _ {R S W M : Type 0} (told : R → S) (put : W → M) (before now : Counts) (failure : DiskName → R) (w : W) where
  -- what a row gives, the row put into a larger place gives there
  pub gives_in : (row : Row R W) (r : R) (v : W) → Gives before now failure w row r v
      → Gives before now (λ disk. told (failure disk)) (put w) (row_in told put row) (told r) (put v)
  gives_in (Unless refusal row) r v (inl g) = inl (ap (option_map told) g.0, ap put g.1)
  gives_in (Unless refusal row) r v (inr g) = inr (ap (option_map told) g.0, gives_in row r v g.1)
  gives_in (MayFail disk left row) r v (inl g) = inl (ap told g.0, ap put g.1, g.2)
  gives_in (MayFail disk left row) r v (inr g) = inr (gives_in row r v g)
  gives_in (Always refusal) r v g = (ap told g.0, ap put g.1)
  gives_in (Success done left) r v g = (ap told g.0, ap put g.1)

module _ {R W : Type 0} (before now : Counts) (failure : DiskName → R) (w : W) (none : NoneRose before now) where
  -- where no disk failed a row gives one reply and one world
  pub one_reply : (row : Row R W) (r s : R) (v u : W) → Gives before now failure w row r v → Gives before now failure w row s u → (r ≡ s) × (v ≡ u)
  one_reply (Unless refusal row) r s v u (inl g) (inl h) = (some_is r s (sym g.0 ∙ h.0), g.1 ∙ sym h.1)
  one_reply (Unless refusal row) r s v u (inl g) (inr h) = absurd (none_some r (sym h.0 ∙ g.0))
  one_reply (Unless refusal row) r s v u (inr g) (inl h) = absurd (none_some s (sym g.0 ∙ h.0))
  one_reply (Unless refusal row) r s v u (inr g) (inr h) = one_reply row r s v u g.1 h.1
  one_reply (MayFail disk left row) r s v u (inl g) h = absurd (none disk g.2)
  one_reply (MayFail disk left row) r s v u (inr g) (inl h) = absurd (none disk h.2)
  one_reply (MayFail disk left row) r s v u (inr g) (inr h) = one_reply row r s v u g h
  one_reply (Always refusal) r s v u g h = (g.0 ∙ sym h.0, g.1 ∙ sym h.1)
  one_reply (Success done left) r s v u g h = (g.0 ∙ sym h.0, g.1 ∙ sym h.1)
