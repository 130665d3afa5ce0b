-- A job goes on entry by entry: the next one may be booked, and after it one fewer is left, until the job is complete.
use Rattle.std.proofs.Common.{◌≡◌, ℕ, suc, ◌+◌, ◌-◌, ◌*◌, ◌≤◌, ◌==◌, Bool, true, false, List, [], ◌∷◌, length, drop, None, Result, Ok, Err, refl, ap, sym, ◌∙◌, subst, arith, if◌then◌else◌, ◌⊎◌, inl, inr}
use Rattle.std.specs.List.{fold}
use Rattle.std.proofs.lemmas.List.{length-drop}
use Rattle.std.proofs.lemmas.Bool.Decides.{nat_tests}
use Rattle.batch_frame.specs.declared.separator.Separator.{Separator}
use Rattle.batch_frame.specs.declared.separator.Separator.TheVariants.{Bare, Lf, CrLf}
use Rattle.batch_frame.specs.CarrierFile.{CarrierFile, piece_size}
use Rattle.batch_frame.specs.FrameFault.{frame_fault, file_of}
use Rattle.batch_frame.proofs.Readings.{file_of_read}
use Rattle.batch_frame.proofs.Records.{room}
use Rattle.sequence_once.specs.KeptCycles.{IsSound}
use Rattle.sequence_once.specs.SerialStanding.{last_edit}
use Rattle.sequence_once.specs.declared.standing.Standing.{Standing}
use Rattle.sequence_once.specs.declared.standing.Standing.TheVariants.{New, Resume, Complete}
use Rattle.sequence_once.specs.declared.standing.CycleFault.{CycleFault}
use Rattle.office_entry.specs.EditBytes.{edit_digest}
use Rattle.office_entry.specs.Entries.{IsEntry}
use Rattle.office_entry.specs.declared.edit.Edit.{Edit as GuideEdit}
use Rattle.office_entry.specs.declared.entry.Entry.{Entry}
use Rattle.office_entry.specs.declared.entry.Entry.TheVariants as entry
use Rattle.office_state.specs.declared.due_fault.DueFault.{DueFault}
use Rattle.office_state.specs.declared.due_fault.DueFault.TheVariants as due
use Rattle.office_state.specs.OfficeState.{State}
use Rattle.office_state.specs.Due.{IsDue, standing_fault}
use Rattle.office_state.specs.Verdict.{after}
use Rattle.office_state.specs.History.{AreDue}
use Rattle.batch_desk.specs.declared.job.Job.{Job}
use Rattle.batch_desk.specs.declared.job.Job.TheVariants.{File, Edit}
use Rattle.batch_desk.specs.EditJobs.{edit_standing, next_edit, left_edit}
use Rattle.batch_desk.specs.FileJobs.{file_standing, opening, line_entry, line_entries, lines_from, next_by, left_by}
use Rattle.batch_desk.specs.Jobs.{IsJob, IsReady, job_standing, next_of, entries_left}
use Rattle.batch_desk.proofs.KeptStates.{IsKept, kept_after}
use Rattle.batch_desk.proofs.Edits.{new_edit, not_resumed, after_edit}
use Rattle.batch_desk.proofs.Files.{as_many, record_width, new_file, line_due, line_within, after_opening, after_line, first_line, no_lines}

-- what the next entry of a job rests on, every state of a legal history has for each job
pub ready : (s : State) (job : Job) → IsKept s → IsJob job → IsReady s job
ready s (File bytes) kept is = kept.cycles
ready s (Edit editor serial edit) kept is = (kept.editors, is.0)

-- what booking the next entry of a job does: it is the first that is left, it is due, and after it the others are left of a job that still has a standing
pub record IsStep (s : State) (job : Job) (e : Entry) : Type 0 where
  pub left : entries_left s job ≡ e ∷ entries_left (after s e) job
  pub due : IsDue s e
  pub standing : Standing
  pub stands : job_standing (after s e) job ≡ Ok standing

-- complete where a test says so
complete_if : (b : Bool) (line : ℕ) → let r : Result Standing CycleFault = (if b then Ok Complete else Ok (Resume line)) in (standing : Standing) × (r ≡ Ok standing)
complete_if true line = (Complete, refl)
complete_if false line = (Resume line, refl)

-- nothing is left behind the last line
left_behind : (bytes : List ℕ) (line : ℕ) (b : Bool) → let file = file_of bytes in (line == file.count) ≡ b → lines_from file (line + 1) ≡ left_by bytes (if b then Ok Complete else Ok (Resume (line + 1)))
left_behind bytes line true e =
    let file = file_of bytes in
    let same : line ≡ file.count = grind (arith, nat_tests) in
    let long : length file.records ≤ line = omega (arith, as_many bytes) in
    no_lines file line long
left_behind bytes line false e = refl

left_first : (bytes : List ℕ) (b : Bool) → let file = file_of bytes in (file.count == 0) ≡ b → lines_from file 1 ≡ left_by bytes (if b then Ok Complete else Ok (Resume 1))
left_first bytes true e =
    let file = file_of bytes in
    let same : file.count ≡ 0 = grind (arith, nat_tests) in
    let long : length file.records ≤ 0 = omega (arith, as_many bytes) in
    no_lines file 0 long
left_first bytes false e = refl

-- the opening of a file
opening_step : (s : State) (bytes : List ℕ) → IsSound s.cycles → file_standing s bytes ≡ Ok New → IsStep s (File bytes) (opening bytes)
opening_step s bytes sound e =
    let file = file_of bytes in
    let then_stands = after_opening s bytes sound e in
    let stands = complete_if (file.count == 0) 1 in
    record {
      left = ap (left_by bytes) e ∙ ap (λ (entries : List Entry). opening bytes ∷ entries) (left_first bytes (file.count == 0) refl ∙ sym (ap (left_by bytes) then_stands));
      due = new_file s bytes e;
      standing = stands.0;
      stands = then_stands ∙ stands.1;
    }

-- a line of a file
line_step : (s : State) (bytes : List ℕ) (line : ℕ) → IsSound s.cycles → file_standing s bytes ≡ Ok (Resume line) → IsStep s (File bytes) (line_entry (file_of bytes) line)
line_step s bytes line sound e =
    let file = file_of bytes in
    let this = line_entry file line in
    let then_stands = after_line s bytes line sound e in
    let within = line_within s bytes line sound e in
    let high : line ≤ length file.records = omega (arith, within.1, as_many bytes) in
    let stands = complete_if (line == file.count) (line + 1) in
    record {
      left = ap (left_by bytes) e ∙ first_line file line within.0 high ∙ ap (λ (entries : List Entry). this ∷ entries) (left_behind bytes line (line == file.count) refl ∙ sym (ap (left_by bytes) then_stands));
      due = line_due s bytes line sound e;
      standing = stands.0;
      stands = then_stands ∙ stands.1;
    }

step_by : (s : State) (bytes : List ℕ) (e : Entry) → IsSound s.cycles → (r : Result Standing CycleFault) → file_standing s bytes ≡ r → next_by bytes r ≡ Ok e → IsStep s (File bytes) e
step_by s bytes e sound (Ok New) stands next =
    let same : opening bytes ≡ e = cc in
    subst (λ (x : Entry). IsStep s (File bytes) x) same (opening_step s bytes sound stands)
step_by s bytes e sound (Ok (Resume line)) stands next =
    let same : line_entry (file_of bytes) line ≡ e = cc in
    subst (λ (x : Entry). IsStep s (File bytes) x) same (line_step s bytes line sound stands)
step_by s bytes e sound (Ok Complete) stands next = cc
step_by s bytes e sound (Err f) stands next = cc

-- the one entry of an edit
edit_step : (s : State) (editor serial : ℕ) (edit : GuideEdit) → let job = Edit editor serial edit in IsReady s job → edit_standing s editor serial edit ≡ Ok New → IsStep s job (entry.Edit editor serial edit)
edit_step s editor serial edit place e =
    let this = entry.Edit editor serial edit in
    let then_stands = after_edit s editor serial edit place.0 place.1 in
    record {
      left = ap (left_edit this) e ∙ ap (λ (entries : List Entry). this ∷ entries) (sym (ap (left_edit this) then_stands));
      due = new_edit (last_edit editor s.edits) serial (edit_digest edit) e;
      standing = Complete;
      stands = then_stands;
    }

edit_step_by : (s : State) (editor serial : ℕ) (edit : GuideEdit) (e : Entry) → let job = Edit editor serial edit in IsReady s job → (r : Result Standing CycleFault) → edit_standing s editor serial edit ≡ r → next_edit (entry.Edit editor serial edit) r ≡ Ok e → IsStep s job e
edit_step_by s editor serial edit e place (Ok New) stands next =
    let same : entry.Edit editor serial edit ≡ e = cc in
    subst (λ (x : Entry). IsStep s (Edit editor serial edit) x) same (edit_step s editor serial edit place stands)
edit_step_by s editor serial edit e place (Ok (Resume line)) stands next = cc
edit_step_by s editor serial edit e place (Ok Complete) stands next = cc
edit_step_by s editor serial edit e place (Err f) stands next = cc

-- the next entry of a job may be booked
pub step : (s : State) (job : Job) (e : Entry) → IsReady s job → next_of s job ≡ Ok e → IsStep s job e
step s (File bytes) e sound next = step_by s bytes e sound (file_standing s bytes) refl next
step s (Edit editor serial edit) e place next = edit_step_by s editor serial edit e place (edit_standing s editor serial edit) refl next

file_entry : (s : State) (bytes : List ℕ) (e : Entry) → IsSound s.cycles → frame_fault bytes ≡ None → (r : Result Standing CycleFault) → file_standing s bytes ≡ r → next_by bytes r ≡ Ok e → IsEntry e
file_entry s bytes e sound framed (Ok New) stands next = let same : opening bytes ≡ e = cc in subst IsEntry same tt
file_entry s bytes e sound framed (Ok (Resume line)) stands next =
    let file = file_of bytes in
    let within = line_within s bytes line sound stands in
    let same : line_entry file line ≡ e = cc in
    subst IsEntry same (record_width bytes line framed within.0 (omega (arith, within.1, as_many bytes)))
file_entry s bytes e sound framed (Ok Complete) stands next = cc
file_entry s bytes e sound framed (Err f) stands next = cc

edit_entry : (this e : Entry) → IsEntry this → (r : Result Standing CycleFault) → next_edit this r ≡ Ok e → IsEntry e
edit_entry this e is (Ok New) next = let same : this ≡ e = cc in subst IsEntry same is
edit_entry this e is (Ok (Resume line)) next = cc
edit_entry this e is (Ok Complete) next = cc
edit_entry this e is (Err f) next = cc

-- and it holds what is in the ranges of an entry
entry_of_job : (s : State) (job : Job) (e : Entry) → IsKept s → IsJob job → next_of s job ≡ Ok e → IsEntry e
entry_of_job s (File bytes) e kept is next = file_entry s bytes e kept.cycles is (file_standing s bytes) refl next
entry_of_job s (Edit editor serial edit) e kept is next = edit_entry (entry.Edit editor serial edit) e is (edit_standing s editor serial edit) next

-- nothing is left of a complete job
pub none_left : (s : State) (job : Job) → job_standing s job ≡ Ok Complete → entries_left s job ≡ []
none_left s (File bytes) e = ap (left_by bytes) e
none_left s (Edit editor serial edit) e = ap (left_edit (entry.Edit editor serial edit)) e

refused_by : (bytes : List ℕ) (r : Result Standing CycleFault) (found : DueFault) → (found ≡ due.Complete → ⊥) → next_by bytes r ≡ Err found → (f : CycleFault) × (r ≡ Err f) × (found ≡ standing_fault f)
refused_by bytes (Ok New) found other e = cc
refused_by bytes (Ok (Resume line)) found other e = cc
refused_by bytes (Ok Complete) found other e = absurd (other (let same : found ≡ due.Complete = cc in same))
refused_by bytes (Err f) found other e = (f, refl, cc)

refused_edit_by : (this : Entry) (r : Result Standing CycleFault) (found : DueFault) → (found ≡ due.Complete → ⊥) → next_edit this r ≡ Err found → (f : CycleFault) × (r ≡ Err f) × (found ≡ standing_fault f)
refused_edit_by this (Ok New) found other e = cc
refused_edit_by this (Ok (Resume line)) found other e = absurd (other (let same : found ≡ due.Complete = cc in same))
refused_edit_by this (Ok Complete) found other e = absurd (other (let same : found ≡ due.Complete = cc in same))
refused_edit_by this (Err f) found other e = (f, refl, cc)

-- any other fault is that of the job's standing
pub refused : (s : State) (job : Job) (found : DueFault) → (found ≡ due.Complete → ⊥) → next_of s job ≡ Err found → (f : CycleFault) × (job_standing s job ≡ Err f) × (found ≡ standing_fault f)
refused s (File bytes) found other e = refused_by bytes (file_standing s bytes) found other e
refused s (Edit editor serial edit) found other e = refused_edit_by (entry.Edit editor serial edit) (edit_standing s editor serial edit) found other e

left_none : (bytes : List ℕ) (r : Result Standing CycleFault) (found : DueFault) → next_by bytes r ≡ Err found → left_by bytes r ≡ []
left_none bytes (Ok New) found e = cc
left_none bytes (Ok (Resume line)) found e = cc
left_none bytes (Ok Complete) found e = refl
left_none bytes (Err f) found e = refl

left_edit_none : (this : Entry) (r : Result Standing CycleFault) (found : DueFault) → next_edit this r ≡ Err found → left_edit this r ≡ []
left_edit_none this (Ok New) found e = cc
left_edit_none this (Ok (Resume line)) found e = refl
left_edit_none this (Ok Complete) found e = refl
left_edit_none this (Err f) found e = refl

-- where there is no next entry, none is left
pub no_next : (s : State) (job : Job) (found : DueFault) → next_of s job ≡ Err found → entries_left s job ≡ []
no_next s (File bytes) found e = left_none bytes (file_standing s bytes) found e
no_next s (Edit editor serial edit) found e = left_edit_none (entry.Edit editor serial edit) (edit_standing s editor serial edit) found e

next_by_standing : (bytes : List ℕ) (standing : Standing) (r : Result Standing CycleFault) → r ≡ Ok standing → (r ≡ Ok Complete) ⊎ ((e : Entry) × (next_by bytes r ≡ Ok e))
next_by_standing bytes standing (Ok New) e = inr (opening bytes, refl)
next_by_standing bytes standing (Ok (Resume line)) e = inr (line_entry (file_of bytes) line, refl)
next_by_standing bytes standing (Ok Complete) e = inl refl
next_by_standing bytes standing (Err f) e = cc

next_edit_standing : (this : Entry) (standing : Standing) (r : Result Standing CycleFault) → ((line : ℕ) → r ≡ Ok (Resume line) → ⊥) → r ≡ Ok standing → (r ≡ Ok Complete) ⊎ ((e : Entry) × (next_edit this r ≡ Ok e))
next_edit_standing this standing (Ok New) once e = inr (this, refl)
next_edit_standing this standing (Ok (Resume line)) once e = absurd (once line refl)
next_edit_standing this standing (Ok Complete) once e = inl refl
next_edit_standing this standing (Err f) once e = cc

-- a job that has a standing is complete or has a next entry
pub next_or_complete : (s : State) (job : Job) (standing : Standing) → job_standing s job ≡ Ok standing → (job_standing s job ≡ Ok Complete) ⊎ ((e : Entry) × (next_of s job ≡ Ok e))
next_or_complete s (File bytes) standing e = next_by_standing bytes standing (file_standing s bytes) e
next_or_complete s (Edit editor serial edit) standing e = next_edit_standing (entry.Edit editor serial edit) standing (edit_standing s editor serial edit) (not_resumed (last_edit editor s.edits) serial (edit_digest edit)) e

-- entries that may be booked one after the other, and then the job is complete
pub record IsCompleted (s : State) (job : Job) (entries : List Entry) : Type 0 where
  pub due : AreDue s entries
  pub complete : job_standing (fold after s entries) job ≡ Ok Complete

completed_by : (entries : List Entry) (s : State) (job : Job) (standing : Standing) → IsKept s → IsJob job → job_standing s job ≡ Ok standing → entries_left s job ≡ entries → IsCompleted s job entries
completed_by [] s job standing kept is stands left =
    elim (next_or_complete s job standing stands) [
      | inl complete ↦ record { due = tt; complete = complete }
      | inr next ↦ absurd (let more = (step s job next.0 (ready s job kept is) next.1).left in cc)
    ]
completed_by (e ∷ rest) s job standing kept is stands left =
    elim (next_or_complete s job standing stands) [
      | inl complete ↦ absurd (let none = none_left s job complete in cc)
      | inr next ↦ (
          let first = step s job next.0 (ready s job kept is) next.1 in
          let more = first.left in
          let same : next.0 ≡ e = cc in
          let is_entry : IsEntry e = subst IsEntry same (entry_of_job s job next.0 kept is next.1) in
          let here : IsStep s job e = subst (λ (x : Entry). IsStep s job x) same first in
          let again = here.left in
          let behind : entries_left (after s e) job ≡ rest = cc in
          let later = completed_by rest (after s e) job here.standing (kept_after s e kept here.due) is here.stands behind in
          record { due = (is_entry, here.due, later.due); complete = later.complete })
    ]

-- all that are left of a job are such entries
pub completed : (s : State) (job : Job) (standing : Standing) → IsKept s → IsJob job → job_standing s job ≡ Ok standing → IsCompleted s job (entries_left s job)
completed s job standing kept is stands = completed_by (entries_left s job) s job standing kept is stands refl

-- how many entries are left

line_entries-length : (file : CarrierFile) (line : ℕ) (records : List (List ℕ)) → length (line_entries file line records) ≡ length records
line_entries-length file line [] = refl
line_entries-length file line (bytes ∷ rest) = ap suc (line_entries-length file (line + 1) rest)

lines_few : (file : CarrierFile) (line : ℕ) → length (lines_from file line) ≤ length file.records
lines_few file line = omega (arith, line_entries-length file line (drop (line - 1) file.records), length-drop (line - 1) file.records)

left_few : (bytes : List ℕ) (r : Result Standing CycleFault) → let file = file_of bytes in length (left_by bytes r) ≤ length file.records + 1
left_few bytes (Ok New) = let file = file_of bytes in omega (arith, lines_few file 1)
left_few bytes (Ok (Resume line)) = let file = file_of bytes in omega (arith, lines_few file line)
left_few bytes (Ok Complete) = omega arith
left_few bytes (Err f) = omega arith

-- no more than the opening and a line for each record
pub few : (s : State) (bytes : List ℕ) → let file = file_of bytes in length (entries_left s (File bytes)) ≤ length file.records + 1
few s bytes = left_few bytes (file_standing s bytes)

wide : (s : Separator) (n : ℕ) → n ≤ piece_size s * n
wide Bare n = omega arith
wide Lf n = omega arith
wide CrLf n = omega arith

-- and so fewer than the bytes of the file
pub few_framed : (s : State) (bytes : List ℕ) → frame_fault bytes ≡ None → length (entries_left s (File bytes)) ≤ length bytes
few_framed s bytes framed =
    let file = file_of bytes in
    let read = file_of_read bytes framed in
    let fits = room bytes file (file.count + 1) read (omega arith) in
    omega (arith, few s bytes, as_many bytes, fits, wide file.separator (file.count + 1))
