use Rattle.std.proofs.Common.{◌≡◌, ℕ, ◌≤◌, List, vec_capacity, length, take, subst, sym, ◌∙◌, ap, arith}
use Rattle.crash_disk.specs.CallRecord.{DiskCall, content}
use Rattle.crash_disk.specs.CrashImages.{up_to_sync}
use Rattle.crash_disk.specs.Recording.{RecordState, recorded}
use Rattle.crash_disk.specs.declared.calls.Call.{Call}
use Rattle.crash_disk.proofs.Images.{synced_no_longer}
use Rattle.crash_disk.proofs.record.Record.replay_synced.Goals as goal

-- the first calls are those up to the last sync
part : (pieces kept : List ℕ) (calls own : List Call) (n : ℕ) (all : List DiskCall) → kept ≡ pieces → calls ≡ own → recorded pieces own ≡ all
    → recorded pieces (take n calls) ≡ up_to_sync (recorded pieces calls) → recorded kept (take n calls) ≡ up_to_sync all
part pieces kept calls own n all kept_is calls_is is split =
    ap (λ l. recorded l (take n calls)) kept_is ∙ split ∙ ap (λ l. up_to_sync (recorded pieces l)) calls_is ∙ ap up_to_sync is

pub replay-requires-clause-room : goal.replay-requires-clause-room
replay-requires-clause-room c =
    let r = c.self.inside in
    let f = c.args.bytes.now.items in
    let all = c.args.self.now.calls in
    let few : length (content f (up_to_sync all)) ≤ vec_capacity c.args.bytes.now = omega (arith, synced_no_longer f all, c.requires) in
    let first = part r.pieces.items c.deref.result.now c.as_slice-calls.result.now r.calls.items c.synced_count.result all c.deref.ensures.value c.as_slice-calls.ensures.value (ap (λ (s : RecordState). s.calls) c.self.view_is) (c.synced_count.ensures.up_to r.pieces.items) in
    subst (λ l. length (content f l) ≤ vec_capacity c.args.bytes.now) (sym first) few

pub returns-clause-bytes : goal.returns-clause-bytes
returns-clause-bytes c =
    let r = c.self.inside in
    let first = part r.pieces.items c.deref.result.now c.as_slice-calls.result.now r.calls.items c.synced_count.result c.args.self.now.calls c.deref.ensures.value c.as_slice-calls.ensures.value (ap (λ (s : RecordState). s.calls) c.self.view_is) (c.synced_count.ensures.up_to r.pieces.items) in
    c.replay.ensures.bytes ∙ ap (content c.args.bytes.now.items) first
