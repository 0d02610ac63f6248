-- What reading a log answers.
use Rattle.std.specs.Prelude.{◌≡◌, ℕ, ◌+◌, List, [], ◌∷◌, Vec, Result, Ok, Err}
use Rattle.std.specs.Global.{Global}
use Rattle.cr_reduce.specs.declared.end.Accepted.{Accepted}
use Rattle.cr_log.specs.declared.line.Last.{Last}
use Rattle.cr_log.specs.declared.reader.Log.{Log}
use Rattle.cr_log.specs.declared.reader.LogFault.{LogFault}
use Rattle.cr_log.specs.declared.reader.LogFault.TheVariants.{NoMemory, Line}
use Rattle.cr_log.specs.Forms.{IsFirstBadLine, IsLog}

-- the answer is right for the text
abbrev pub Reads : List ℕ → Result Log LogFault → Type 0
Reads text (Ok log) = IsLog text log.accepted.items log.why log.size log.turns
Reads text (Err NoMemory) = Unit {0}
Reads text (Err (Line n)) = IsFirstBadLine text n

-- the answer is this log, or want of memory
abbrev pub IsReadAs : Result Log LogFault → List Accepted → ℕ → ℕ → ℕ → Type 0
IsReadAs (Ok log) accepted why size turns = (log.accepted.items ≡ accepted) × (log.why ≡ why) × (log.size ≡ size) × (log.turns ≡ turns)
IsReadAs (Err NoMemory) accepted why size turns = Unit {0}
IsReadAs (Err (Line n)) accepted why size turns = ⊥

-- the answer is that this line is the first that isn't in the form, or want of memory
abbrev pub IsRefusedAt : Result Log LogFault → ℕ → Type 0
IsRefusedAt (Ok log) n = ⊥
IsRefusedAt (Err NoMemory) n = Unit {0}
IsRefusedAt (Err (Line m)) n = m ≡ n

-- the answer after a last line, which is line `number`
abbrev pub finished : Vec Accepted Global → Last → List ℕ → ℕ → Result Log LogFault
finished accepted last [] number = Ok (record { accepted = accepted; why = last.why; size = last.size; turns = last.turns })
finished accepted last (byte ∷ after) number = Err (Line (number + 1))
