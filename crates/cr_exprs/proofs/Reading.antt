-- What a run of the machine from the middle of a text says of the grammar.
use Rattle.std.proofs.Common.{◌≡◌, ℕ, ◌≤◌, true, false, List, [], ◌∷◌, Option, None, Some, Result, Ok, Err, length, refl, sym, subst, arith}
use Rattle.std.specs.Prelude.{IfErr, IsErrAnd, if◌then◌else◌}
use Rattle.cr_tokens.specs.declared.token.Token.{Token}
use Rattle.cr_syntax.specs.declared.word.Word.{Word}
use Rattle.cr_syntax.specs.declared.word.Word.TheVariants as word
use Rattle.cr_syntax.specs.Words.{Lexeme, word_at, lexemes_of}
use Rattle.cr_syntax.specs.Units.{is_unused, is_opening, Refusal}
use Rattle.cr_syntax.specs.Units as u
use Rattle.cr_syntax_machine.specs.Machine as m
use Rattle.cr_syntax_machine.specs.Machine.{Failed, ended, outside, whole, barred, exceeds, has_word}
use Rattle.cr_syntax_machine.specs.MachineBody.{body}
use Rattle.cr_syntax_machine_laws.specs.MachineLaws.{IsStart, start_expression, start_assignment, start_conditional}
use Rattle.cr_syntax.specs.Expressions.{Start, Refused, IsReading}
use Rattle.cr_syntax_machine_laws.proofs.MachineReading.{is_reading}
use Rattle.cr_exprs_descent.specs.declared.fault.ParseFault.{ParseFault}
use Rattle.cr_exprs_descent.specs.declared.fault.ParseFault.TheVariants.{NoMemory, Unexpected, Ended, TooDeep, OutsideSubset}
use Rattle.cr_exprs_descent.specs.declared.goal.Goal.{Goal}
use Rattle.cr_exprs_descent.specs.declared.goal.Goal.TheVariants.{Expression, Assignment, Conditional}
use Rattle.cr_exprs_descent.specs.Parts.{part_of}
use Rattle.cr_exprs_descent.specs.Answers.{FailsSo, Refuses}
use Rattle.cr_exprs.specs.Expression.{IsRefused}

pub is_start : (g : Goal) → IsStart (part_of g)
is_start Expression = start_expression
is_start Assignment = start_assignment
is_start Conditional = start_conditional

-- what a failure of the machine says of the fault
reading_so : {ts : List Lexeme} (s : Start) {x : Refusal} → IsStart s.part → s.at ≤ length ts → FailsSo ts (body (whole s.part s.depth)) s.scopes s.at x → IsReading ts s (Refused x)
reading_so {ts} s z le h = subst (λ x. IsReading ts s (Refused x)) h.is (is_reading ts s (Failed h.cause h.at) z le h.run)

pub refused_is : {ts : List Lexeme} (s : Start) (f : ParseFault) → IsStart s.part → s.at ≤ length ts → Refuses ts (body (whole s.part s.depth)) s.scopes s.at f → IsRefused ts s f
refused_is s NoMemory z le h = tt
refused_is s (Unexpected k) z le h = reading_so s z le (h.run (u.Unexpected k) refl)
refused_is s Ended z le h = reading_so s z le (h.run u.Ended refl)
refused_is s (TooDeep k) z le h = reading_so s z le (h.run (u.TooDeep k) refl)
refused_is s (OutsideSubset k row) z le h = reading_so s z le (h.run (u.OutsideSubset k row) refl)

pub text_length : (file : List ℕ) (tokens : List Token) → length (lexemes_of file tokens) ≡ length tokens
text_length file [] = refl
text_length file (t ∷ ts) = let h = text_length file ts in omega (arith, h)
