use Rattle.std.proofs.Common.{◌≡◌, ℕ, List, [], ◌∷◌, ◌++◌, map, Some, sym, ap, ◌∙◌, arith}
use Rattle.std.specs.Prelude.{is_some, option_map}
use Rattle.std.proofs.lemmas.List.{map-append}
use Rattle.std.proofs.lemmas.List.Elements.{All-push}
use Rattle.office_entry.specs.declared.entry.Entry.{Entry}
use Rattle.ali_base.proofs.FrontsAgain.{IsBytes, bytes_all}
use Rattle.ali_base.specs.Fronts.{AreBytes}
use Rattle.pair_world.specs.Frames.{Frame}
use Rattle.commit_log.specs.LogState.{with_body}
use Rattle.node_journal.specs.EpochsRead.{AreEpochsOf, epoch_in}
use Rattle.node_journal.specs.FrameBytes.{frame_from, is_body}
use Rattle.node_journal.proofs.FramesOfBytes.{frame_found, epoch_in-body}
use Rattle.node_journal.proofs.epochs.EpochsBodyReader.read.Goals as goal

pub returns-in-Some-clause-answer : goal.returns-in-Some-clause-answer
unfolding is_body
returns-in-Some-clause-answer c = ap is_some (sym (ap (option_map _) c.in-Some.is) ∙ c.frame_of.ensures.exact)

one_more : (bodies : List (List ℕ)) (old new bytes : List ℕ) (k : ℕ) (f : Frame Entry) → IsBytes bytes → frame_from k bytes ≡ Some f → AreEpochsOf bodies old → new ≡ old ++ f.epoch ∷ [] → AreEpochsOf (with_body bodies bytes) new
one_more bodies old new bytes k f fits read held pushed =
    let found = frame_found k bytes f fits read in
    let epoch : f.epoch ≡ epoch_in bytes = sym (ap epoch_in found.spelled ∙ epoch_in-body k f found.lawful) in
    record {
      bytes = All-push AreBytes bodies bytes held.bytes (bytes_all bytes fits);
      read = pushed ∙ ap (λ l. l ++ f.epoch ∷ []) held.read ∙ ap (λ e. map epoch_in bodies ++ e ∷ []) epoch ∙ sym (map-append epoch_in bodies (bytes ∷ []));
    }

pub returns-in-Some-clause-held : goal.returns-in-Some-clause-held
returns-in-Some-clause-held c bodies held same =
    let f : Frame Entry = record { entry = c.in-Some.field-0-0; epoch = c.in-Some.epoch } in
    one_more bodies c.args.self.now.items.items c.push.new.self.items.items c.args.bytes.now c.args.number f (λ i. omega (arith, c.type_inv.bytes i)) (sym c.frame_of.ensures.exact ∙ ap (option_map _) c.in-Some.is) held c.push.ensures.items

pub returns-in-None-clause-answer : goal.returns-in-None-clause-answer
unfolding is_body
returns-in-None-clause-answer c = ap is_some (sym (ap (option_map _) c.in-None.is) ∙ c.frame_of.ensures.exact)
