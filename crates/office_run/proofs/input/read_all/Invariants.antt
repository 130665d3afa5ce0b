use Rattle.std.proofs.Common.{◌≤◌, length}
use Rattle.std.specs.Io.KnownBytes.{Consumes}
use Rattle.office_run.specs.declared.input.TheConstants.{SCRIPT_LIMIT}
use Rattle.office_run.proofs.input.read_all.Given as goal

-- the bytes were taken, at least one in each turn
abbrev pub invariant-loop : goal.invariant-loop
invariant-loop g l =
    let left = g.S.Source.left in
    record {
      taken : Consumes (left l.fn.source) (left l.source) l.bytes.items;
      turns : l.counter ≤ length l.bytes.items;
      small : length l.bytes.items ≤ SCRIPT_LIMIT;
      later : g.S.Source.faults l.fn.source ≤ g.S.Source.faults l.source;
    }
