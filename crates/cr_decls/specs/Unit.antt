-- What parsing a file answers.
use Rattle.std.specs.Prelude.{◌≡◌, List, Some}
use Rattle.cr_syntax.specs.Words.{Lexeme}
use Rattle.cr_syntax.specs.Trees.{Trees}
use Rattle.cr_syntax.specs.Spells.{AtMost}
use Rattle.cr_syntax.specs.Units.{IsUnit, most_levels, Refusal, FirstRefusal}
use Rattle.cr_syntax.specs.Units as refusal
use Rattle.cr_exprs_descent.specs.Answers.{refusal_in}
use Rattle.cr_exprs_descent.specs.declared.fault.ParseFault.{ParseFault}
use Rattle.cr_exprs_descent.specs.declared.fault.ParseFault.TheVariants.{NoMemory, Unexpected, Ended, TooDeep, OutsideSubset}

-- no other trees are a unit that these tokens spell
abbrev pub IsOnlyTree : List Lexeme → Trees → Type 0
IsOnlyTree ts t = (u : Trees) → IsUnit (AtMost most_levels) ts u → u ≡ t

-- The fault is the first refusal of the tokens; want of memory says nothing.
abbrev pub IsRefused : List Lexeme → ParseFault → Type 0
IsRefused ts NoMemory = Unit {0}
IsRefused ts (Unexpected k) = FirstRefusal ts (refusal.Unexpected k)
IsRefused ts Ended = FirstRefusal ts refusal.Ended
IsRefused ts (TooDeep k) = FirstRefusal ts (refusal.TooDeep k)
IsRefused ts (OutsideSubset k row) = FirstRefusal ts (refusal.OutsideSubset k row)

-- The tokens have no other first refusal than the fault; want of memory says nothing.
abbrev pub IsOnlyRefusal : List Lexeme → ParseFault → Type 0
IsOnlyRefusal ts fault = (x y : Refusal) → refusal_in fault ≡ Some x → FirstRefusal ts y → y ≡ x
