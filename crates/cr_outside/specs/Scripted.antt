-- A scripted judge: its table, its calls, and which calls fail.
use Rattle.std.specs.Prelude.{ℕ, List, map}
use Rattle.std.specs.String.{string_bytes}
use Rattle.cr_outside.specs.Judge.{Call, call_of}
use Rattle.cr_outside.specs.Scripts.{Table}
use Rattle.cr_outside.specs.declared.scripted.Asked.{Asked}
use Rattle.cr_outside.specs.declared.scripted.Scripted.{Scripted}

abbrev pub call_asked : Asked → Call
call_asked a = call_of (string_bytes a.test) (string_bytes a.name) a.file.items a.answer

abbrev pub table_of_judge : Scripted → Table
table_of_judge j = j.script

abbrev pub calls_of : Scripted → List Call
calls_of j = map call_asked j.asked.items

-- the numbers of the calls that fail
abbrev pub failing_of : Scripted → List ℕ
failing_of j = j.plan.failing.items

-- how many calls were made
abbrev pub count_of : Scripted → ℕ
count_of j = j.plan.calls
