use Rattle.std.proofs.Common.{◌≡◌, ℕ, ◌-◌, ◌≤◌, List, vec_capacity, length, take, drop, subst, sym, ◌∙◌, ap}
use Rattle.std.proofs.lemmas.List.{take_rest}
use Rattle.crash_disk.specs.CallRecord.{DiskCall}
use Rattle.crash_disk.specs.CrashImages.{since_sync, filled}
use Rattle.crash_disk.specs.Recording.{RecordState, recorded}
use Rattle.crash_disk.specs.declared.calls.Call.{Call}
use Rattle.crash_disk.proofs.record.Record.fill_unsynced.Goals as goal

-- the last calls are those since the last sync
part : (pieces kept : List ℕ) (calls own : List Call) (n : ℕ) (all : List DiskCall) → kept ≡ pieces → calls ≡ own → recorded pieces own ≡ all
    → recorded pieces (drop n calls) ≡ since_sync (recorded pieces calls) → recorded kept (take (length calls - n) (drop n calls)) ≡ since_sync all
part pieces kept calls own n all kept_is calls_is is split =
    (λ i. recorded (kept_is i) (take_rest calls n i)) ∙ split ∙ ap (λ l. since_sync (recorded pieces l)) calls_is ∙ ap since_sync is

pub fill-requires-clause-room : goal.fill-requires-clause-room
fill-requires-clause-room c =
    let r = c.self.inside in
    let last = part r.pieces.items c.deref.result.now c.as_slice-calls.result.now r.calls.items c.synced_count.result c.args.self.now.calls c.deref.ensures.value c.as_slice-calls.ensures.value (ap (λ (s : RecordState). s.calls) c.self.view_is) (c.synced_count.ensures.since r.pieces.items) in
    subst (λ l. length (filled c.args.byte c.args.bytes.now.items l) ≤ vec_capacity c.args.bytes.now) (sym last) c.requires

pub returns-clause-bytes : goal.returns-clause-bytes
returns-clause-bytes c =
    let r = c.self.inside in
    let last = part r.pieces.items c.deref.result.now c.as_slice-calls.result.now r.calls.items c.synced_count.result c.args.self.now.calls c.deref.ensures.value c.as_slice-calls.ensures.value (ap (λ (s : RecordState). s.calls) c.self.view_is) (c.synced_count.ensures.since r.pieces.items) in
    c.fill.ensures.bytes ∙ ap (filled c.args.byte c.args.bytes.now.items) last
