-- The readers and writers behind the adapters.
use Rattle.std.specs.Prelude.{ℕ}
use Rattle.ali_base.specs.declared.std_streams.ReaderSource.{ReaderSource}
use Rattle.ali_base.specs.declared.std_streams.WriterSink.{WriterSink}

abbrev pub source_reader : {R : Type 0} → ReaderSource R → R
source_reader s = s.inner

abbrev pub source_faults : {R : Type 0} → ReaderSource R → ℕ
source_faults s = s.faults

abbrev pub sink_writer : {W : Type 0} → WriterSink W → W
sink_writer s = s.inner

abbrev pub sink_faults : {W : Type 0} → WriterSink W → ℕ
sink_faults s = s.faults
