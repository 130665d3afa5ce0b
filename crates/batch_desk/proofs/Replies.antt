-- The pieces in which the reply to a complete job is put, and that a job that is complete twice gets one reply.
use Rattle.std.proofs.Common.{◌≡◌, ℕ, ◌==◌, not, List, [], ◌∷◌, ◌++◌, append_assoc, length, ap, sym, ◌∙◌, subst, Option, unwrap_or, Ok}
use Rattle.std.specs.List.{count_by}
use Rattle.sha2.specs.Sha256.{sha256}
use Rattle.batch_frame.specs.CarrierFile.{CarrierFile}
use Rattle.batch_frame.specs.FrameFault.{file_of}
use Rattle.error_files.specs.ErrorFile.{error_file}
use Rattle.sequence_once.specs.declared.standing.Standing.TheVariants.{Complete}
use Rattle.sequence_once.specs.SerialStanding.{EditRecord, last_edit, last_serial, serial_standing}
use Rattle.office_entry.specs.declared.edit.Edit.{Edit as GuideEdit}
use Rattle.office_entry.specs.declared.entry.Entry.{Entry}
use Rattle.office_state.specs.declared.limits.Limits.{Limits}
use Rattle.office_state.specs.OfficeState.{State, empty_state}
use Rattle.office_state.specs.History.{IsLegal, state}
use Rattle.office_state.proofs.Histories.{due_first, due_rest, state_more}
use Rattle.office_state.proofs.KeptCodes.{stays_complete}
use Rattle.batch_desk.specs.declared.job.Job.{Job}
use Rattle.batch_desk.specs.declared.job.Job.TheVariants.{File, Edit}
use Rattle.batch_desk.specs.declared.reply_line.JobDone.{JobDone}
use Rattle.batch_desk.specs.declared.reply_line.JobDone.TheVariants as done
use Rattle.batch_desk.specs.ReplyLines.{done_line, errors_line}
use Rattle.office_entry.specs.EditBytes.{edit_digest}
use Rattle.batch_desk.specs.Jobs.{job_standing, IsStillKept}
use Rattle.batch_desk.specs.JobReplies.{kept_codes, sized, edit_done, done_of, done_block, job_reply}
use Rattle.batch_desk.proofs.KeptStates.{kept_state}
use Rattle.batch_desk.proofs.Edits.{same_edit}
use Rattle.batch_desk.proofs.Files.{old_file, stays_file}

-- the line of its length, and then the rest
pub sized-pieces : (errors line : List ℕ) (len : ℕ) → line ≡ errors_line len → len ≡ length errors → sized errors ≡ line ++ (errors ++ 10 ∷ [])
sized-pieces errors line len is long =
    append_assoc (errors_line (length errors)) errors (10 ∷ []) ∙ ap (λ (n : ℕ). errors_line n ++ (errors ++ 10 ∷ [])) (sym long) ∙ ap (λ (xs : List ℕ). xs ++ (errors ++ 10 ∷ [])) (sym is)

-- the reply to a complete file is the line, and then the error file
pub reply-pieces : (s : State) (job : Job) (bytes line : List ℕ) (of_job : JobDone) (file : CarrierFile) (codes : List ℕ) → job ≡ File bytes → line ≡ done_line of_job → of_job ≡ done_of s job → file ≡ file_of bytes → codes ≡ kept_codes s bytes → job_reply s job ≡ line ++ sized (error_file file codes)
unfolding job_reply
reply-pieces s job bytes line of_job file codes of_file told is parts kept =
    ap (λ (xs : List ℕ). xs ++ done_block s job) (sym (told ∙ ap done_line is))
    ∙ ap (λ (j : Job). line ++ done_block s j) of_file
    ∙ ap (λ (f : CarrierFile). line ++ sized (error_file f (kept_codes s bytes))) (sym parts)
    ∙ ap (λ (cs : List ℕ). line ++ sized (error_file file cs)) (sym kept)

-- the reply to a file depends on the codes that are kept for it alone
file_same : (s later : State) (bytes : List ℕ) → kept_codes later bytes ≡ kept_codes s bytes → job_reply later (File bytes) ≡ job_reply s (File bytes)
unfolding job_reply
file_same s later bytes same =
    let of_codes : List ℕ → List ℕ = λ codes.
    let file = file_of bytes in
    let told : JobDone = done.File (record { company = file.company; cycle = file.cycle; count = file.count; refused = count_by (λ code. not (code == 0)) codes }) in
    done_line told ++ sized (error_file file codes) in
    ap of_codes same

-- and that to an edit on its editor's last one
edit_same : (s later : State) (editor serial : ℕ) (edit : GuideEdit) → last_edit editor later.edits ≡ last_edit editor s.edits → job_reply later (Edit editor serial edit) ≡ job_reply s (Edit editor serial edit)
unfolding job_reply
edit_same s later editor serial edit same = ap (λ (last : Option EditRecord). done_line (edit_done editor serial last) ++ []) same

-- a job that is complete stays so, and gets one reply, as long as what was booked of it is kept
pub record Repeats (s later : State) (job : Job) : Type 0 where
  pub complete : job_standing later job ≡ Ok Complete
  pub same : job_reply later job ≡ job_reply s job

pub complete_again : (limits : Limits) (history more : List Entry) (job : Job) → IsLegal limits (history ++ more) → job_standing (state limits history) job ≡ Ok Complete → IsStillKept (state limits (history ++ more)) job → Repeats (state limits history) (state limits (history ++ more)) job
complete_again limits history more (File bytes) legal complete kept =
    let old = state limits history in
    let new = state limits (history ++ more) in
    let file = file_of bytes in
    let then_stood = old_file old bytes Complete (λ h. cc) complete in
    let stays = stays_complete limits history more file.company file.cycle (sha256 bytes) legal then_stood.stands kept in
    record {
      complete = stays_file old new bytes complete stays.0 stays.1;
      same = file_same old new bytes (ap (λ (o : Option (List ℕ)). unwrap_or o []) stays.1);
    }
complete_again limits history more (Edit editor serial edit) legal complete kept =
    let old = state limits history in
    let new = state limits (history ++ more) in
    let behind = state_more limits history more in
    let sound = kept_state limits history (due_first (empty_state limits) history more legal) in
    let due = due_rest (empty_state limits) history more legal in
    let last = subst (λ (s : State). last_serial (last_edit editor s.edits) ≡ serial) behind kept in
    let same : last_edit editor new.edits ≡ last_edit editor old.edits = ap (λ (s : State). last_edit editor s.edits) behind ∙ same_edit old more sound due editor serial edit complete last in
    record {
      complete = ap (λ (o : Option EditRecord). serial_standing o serial (edit_digest edit)) same ∙ complete;
      same = edit_same old new editor serial edit same;
    }
