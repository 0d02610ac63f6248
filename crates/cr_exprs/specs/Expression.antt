-- What reading an expression answers, in terms of the grammar.
use Rattle.std.specs.Prelude.{ℕ, List}
use Rattle.cr_syntax.specs.Words.{Lexeme}
use Rattle.cr_syntax.specs.Scopes.{Scopes}
use Rattle.cr_syntax.specs.Units.{Refusal}
use Rattle.cr_syntax.specs.Units as refusal
use Rattle.cr_syntax.specs.Expressions.{Start, Refused, IsReading}
use Rattle.cr_exprs_descent.specs.declared.fault.ParseFault.{ParseFault}
use Rattle.cr_exprs_descent.specs.declared.fault.ParseFault.TheVariants.{NoMemory, Unexpected, Ended, TooDeep, OutsideSubset}
use Rattle.cr_exprs_descent.specs.declared.goal.Goal.{Goal}
use Rattle.cr_exprs_descent.specs.Parts.{part_of}

-- a goal in these scopes, where so many levels are open, from token i on
abbrev pub start_of : Goal → Scopes → ℕ → ℕ → Start
start_of g c d i = record { part = part_of g; scopes = c; depth = d; at = i }

-- the refusal is the one that reading from this start promises; want of memory says nothing
abbrev pub IsRefused : List Lexeme → Start → ParseFault → Type 0
IsRefused ts s NoMemory = Unit {0}
IsRefused ts s (Unexpected k) = IsReading ts s (Refused (refusal.Unexpected k))
IsRefused ts s Ended = IsReading ts s (Refused refusal.Ended)
IsRefused ts s (TooDeep k) = IsReading ts s (Refused (refusal.TooDeep k))
IsRefused ts s (OutsideSubset k row) = IsReading ts s (Refused (refusal.OutsideSubset k row))
