use Rattle.std.proofs.Common.{◌≡◌, ℕ, List, Option, Some, None, sym, arith}
use Rattle.std.specs.Prelude.{IfSome, option_map}
use Rattle.ali_base.proofs.FrontsAgain.{IsBytes}
use Rattle.office_entry.specs.declared.entry.Entry.{Entry}
use Rattle.pair_world.specs.Frames.{Frame}
use Rattle.node_journal.specs.FrameBytes.{IsBodyOf, frame_from}
use Rattle.node_journal.proofs.FramesOfBytes.{frame_found}
use Rattle.node_journal.proofs.frame.frame_of.Goals as goal

abbrev frame : Entry × ℕ → Frame Entry
frame x = record { entry = x.0; epoch = x.1 }

found : (k : ℕ) (bytes : List ℕ) (o : Option (Entry × ℕ)) → IsBytes bytes → option_map frame o ≡ frame_from k bytes → IfSome o (λ x. IsBodyOf k (frame x) bytes)
found k bytes None fits h = tt
found k bytes (Some x) fits h = frame_found k bytes (frame x) fits (sym h)

pub returns-clause-found : goal.returns-clause-found
returns-clause-found c = found c.args.number c.args.bytes.now c.frame_from.result (λ i. omega (arith, c.type_inv.bytes i)) c.frame_from.ensures
