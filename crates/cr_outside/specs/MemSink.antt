-- A sink in memory: what was put, and which calls fail.
use Rattle.std.specs.Prelude.{ℕ, zero, suc, List, Result, IsErr, IsErrOf}
use Rattle.cr_outside.specs.declared.memory_sink.MemSink.{MemSink}
use Rattle.cr_outside.specs.declared.sink.SinkFault.{SinkFault}
use Rattle.cr_outside.specs.declared.sink.SinkFault.TheVariants.{Failed}

abbrev pub bytes_of : MemSink → List ℕ
bytes_of s = s.bytes.items

-- the numbers of the calls that fail
abbrev pub failing_of : MemSink → List ℕ
failing_of s = s.plan.failing.items

-- how many calls were made
abbrev pub calls_of : MemSink → ℕ
calls_of s = s.plan.calls

-- how many bytes of its piece a failing put keeps, at most
abbrev pub kept_of : MemSink → ℕ
kept_of s = s.kept

-- a call that is told to fail does; one that keeps a part of its piece may want memory for that instead
abbrev pub FailsBy : ℕ → Result (Unit {0}) SinkFault → Type 0
FailsBy zero result = IsErrOf result Failed
FailsBy (suc more) result = IsErr result
