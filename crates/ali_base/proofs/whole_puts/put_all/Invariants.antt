use Rattle.std.proofs.Common.{◌≡◌, ℕ, ◌≤◌, length, take, drop}
use Rattle.std.specs.Io.KnownBytes.{Appends}
use Rattle.ali_base.proofs.whole_puts.put_all.Given as goal

-- a front of the text was put, and the rest is left
abbrev pub invariant-loop-rest : goal.invariant-loop-rest
invariant-loop-rest g l =
    let contents = g.K.Sink.contents in
    record {
      put : (n : ℕ) × (n ≤ length l.text) × (l.rest ≡ drop n l.text) × Appends (contents l.fn.sink) (contents l.sink) (take n l.text);
      later : g.K.Sink.faults l.fn.sink ≤ g.K.Sink.faults l.sink;
    }

abbrev pub decreases-loop-rest : goal.decreases-loop-rest
decreases-loop-rest g l = length l.rest
