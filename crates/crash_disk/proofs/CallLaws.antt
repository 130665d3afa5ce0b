-- The disk model, of a disk with a record of its calls: what one call more does.
use Rattle.std.proofs.Common.{◌⊎◌, inl, inr, ℕ, Bool, true, false, List, ◌∷◌, length, refl, sym, subst, arith}
use Rattle.std.specs.Prelude.{if◌then◌else◌}
use Rattle.crash_disk.specs.DiskState.{DiskState}
use Rattle.crash_disk.specs.CrashOutcomes.{Torn, GoesOn, Stays, Writes}
use Rattle.crash_disk.specs.CallRecord.{DiskCall, Looked, Wrote, Synced, content, MayLeave, recorded_state}
use Rattle.crash_disk.specs.RecordedSound.{untorn, written_is_torn, as_read}

-- a call more
module _ (start : List ℕ) (calls : List DiskCall) (call : DiskCall) (faults after : ℕ) where
  abbrev old : DiskState
  old = recorded_state start calls faults

  abbrev new : DiskState
  new = recorded_state start (call ∷ calls) after

  goes_on : GoesOn old new
  goes_on = record { later = omega arith; nothing_else = λ t image le left. split t image left; keeps = λ t image le left. inr (le, left) }
    where
      split : (t : ℕ) (image : List ℕ) → new.left_since t image → old.left_since t image ⊎ new.may_leave image
      split t image (inl now) = inr now
      split t image (inr before) = inl before.1

pub no_call : (start : List ℕ) (calls : List DiskCall) (faults after : ℕ) → Stays (recorded_state start calls faults) (recorded_state start calls after)
no_call start calls faults after = record {
  on = record { later = omega arith; nothing_else = λ t image le left. inl left; keeps = λ t image le left. left };
  content = refl;
  crash = λ image left. left;
}

pub looked : (start : List ℕ) (calls : List DiskCall) (faults after : ℕ) → Stays (recorded_state start calls faults) (recorded_state start (Looked ∷ calls) after)
looked start calls faults after = record { on = goes_on start calls Looked faults after; content = refl; crash = λ image left. left }

pub synced : (start : List ℕ) (calls : List DiskCall) (faults after : ℕ) → Stays (recorded_state start calls faults) (recorded_state start (Synced ∷ calls) after)
synced start calls faults after = record {
  on = goes_on start calls Synced faults after;
  content = refl;
  crash = λ image left. subst (MayLeave start calls) (sym left) (as_read start calls);
}

pub wrote : (start : List ℕ) (calls : List DiskCall) (at : ℕ) (piece : List ℕ) (done : Bool) (faults after : ℕ)
    → Writes at (length piece) (recorded_state start calls faults) (recorded_state start (Wrote at piece done ∷ calls) after)
wrote start calls at piece done faults after = record {
  on = goes_on start calls (Wrote at piece done) faults after;
  content = (content start (Wrote at piece done ∷ calls), refl, torn done);
  crash = λ image left. left;
}
  where
    torn : (b : Bool) → Torn at (length piece) (content start calls) (content start (Wrote at piece b ∷ calls))
    torn true = written_is_torn at (length piece) piece (content start calls) (omega arith)
    torn false = untorn at (length piece) (content start calls)

-- a write that left no trace
pub no_write : (start : List ℕ) (calls : List DiskCall) (at n faults after : ℕ) → Writes at n (recorded_state start calls faults) (recorded_state start calls after)
no_write start calls at n faults after = record {
  on = (no_call start calls faults after).on;
  content = (content start calls, refl, untorn at n (content start calls));
  crash = λ image left. (image, left, untorn at n image);
}

-- the same, recorded where there is room
pub sync_where : (room failed : Bool) (start : List ℕ) (calls : List DiskCall) (faults after : ℕ)
    → Stays (recorded_state start calls faults) (recorded_state start (if room then (if failed then Looked else Synced) ∷ calls else calls) after)
sync_where true true start calls faults after = looked start calls faults after
sync_where true false start calls faults after = synced start calls faults after
sync_where false failed start calls faults after = no_call start calls faults after

pub write_where : (room done : Bool) (start : List ℕ) (calls : List DiskCall) (at : ℕ) (piece : List ℕ) (faults after : ℕ)
    → Writes at (length piece) (recorded_state start calls faults) (recorded_state start (if room then Wrote at piece done ∷ calls else calls) after)
write_where true done start calls at piece faults after = wrote start calls at piece done faults after
write_where false done start calls at piece faults after = no_write start calls at (length piece) faults after
