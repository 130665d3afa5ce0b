-- The lines that answer a job that was read, refused or completed.
use Rattle.std.specs.Prelude.{ℕ, List, [], ◌∷◌, codes}
use Rattle.std.specs.Fmt.{decimal}
use Rattle.hex.specs.Hex.{encode_lower}
use Rattle.ali_base.specs.Columns.{trimmed}
use Rattle.batch_frame.specs.declared.fault.FrameFault.{FrameFault}
use Rattle.batch_frame.specs.declared.fault.FrameFault.TheVariants.{Length, TooMany, Separator, Header, Trailer, Company, Count}
use Rattle.sequence_once.specs.declared.standing.CycleFault.{CycleFault}
use Rattle.sequence_once.specs.declared.standing.CycleFault.TheVariants.{Gap, Differs, TooOld, CompaniesFull}
use Rattle.text_line.specs.WordLines.{line_of}
use Rattle.batch_desk.specs.declared.reply_line.JobRead.{JobRead}
use Rattle.batch_desk.specs.declared.reply_line.JobRead.TheVariants as read
use Rattle.batch_desk.specs.declared.reply_line.JobDone.{JobDone}
use Rattle.batch_desk.specs.declared.reply_line.JobDone.TheVariants as done

-- the first fault of a file's frame
abbrev pub frame_line : FrameFault → List ℕ
frame_line (Length n) = line_of (codes "FRAME" ∷ codes "LENGTH" ∷ decimal n ∷ [])
frame_line (TooMany n) = line_of (codes "FRAME" ∷ codes "TOO" ∷ codes "MANY" ∷ decimal n ∷ [])
frame_line (Separator place) = line_of (codes "FRAME" ∷ codes "SEPARATOR" ∷ decimal place ∷ [])
frame_line (Header field) = line_of (codes "FRAME" ∷ codes "HEADER" ∷ decimal field ∷ [])
frame_line (Trailer field) = line_of (codes "FRAME" ∷ codes "TRAILER" ∷ decimal field ∷ [])
frame_line (Company header trailer) = line_of (codes "FRAME" ∷ codes "COMPANY" ∷ trimmed header ∷ trimmed trailer ∷ [])
frame_line (Count told found) = line_of (codes "FRAME" ∷ codes "COUNT" ∷ decimal told ∷ decimal found ∷ [])

-- the fault of the standing of a file or an edit; digests are 64 lower-case hexadecimal digits
abbrev pub refusal_line : CycleFault → List ℕ
refusal_line (Gap cycle) = line_of (codes "GAP" ∷ decimal cycle ∷ [])
refusal_line (Differs kept sent) = line_of (codes "DIFFERS" ∷ encode_lower kept ∷ encode_lower sent ∷ [])
refusal_line (TooOld oldest) = line_of (codes "TOO" ∷ codes "OLD" ∷ decimal oldest ∷ [])
refusal_line (CompaniesFull limit) = line_of (codes "COMPANIES" ∷ codes "FULL" ∷ decimal limit ∷ [])

-- a job that was read
abbrev pub read_line : JobRead → List ℕ
read_line (read.File file) = line_of (codes "READ" ∷ codes "FILE" ∷ trimmed file.company ∷ decimal file.cycle ∷ decimal file.count ∷ decimal file.next ∷ [])
read_line (read.Edit editor serial) = line_of (codes "READ" ∷ codes "EDIT" ∷ decimal editor ∷ decimal serial ∷ [])

-- a job that is complete
abbrev pub done_line : JobDone → List ℕ
done_line (done.File file) = line_of (codes "COMPLETE" ∷ trimmed file.company ∷ decimal file.cycle ∷ decimal file.count ∷ decimal file.refused ∷ [])
done_line (done.Edit edit) = line_of (codes "EDITED" ∷ decimal edit.editor ∷ decimal edit.serial ∷ decimal edit.code ∷ decimal edit.detail ∷ [])

-- an error file of so many bytes follows
abbrev pub errors_line : ℕ → List ℕ
errors_line len = line_of (codes "ERRORS" ∷ decimal len ∷ [])
