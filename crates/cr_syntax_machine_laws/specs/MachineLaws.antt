-- What is proved of the machine.
use Rattle.std.specs.Prelude.{◌≡◌, ℕ, ◌+◌, ◌<◌, ◌≤◌, List, length, slice_get}
use Rattle.cr_syntax.specs.declared.word.Word.{Word}
use Rattle.cr_syntax.specs.declared.word.Word.TheVariants as word
use Rattle.cr_syntax.specs.declared.part.Part.{Part}
use Rattle.cr_syntax.specs.declared.part.Part.TheVariants as part
use Rattle.cr_syntax.specs.declared.part.Context.{Context}
use Rattle.cr_syntax.specs.Trees.{Trees}
use Rattle.cr_syntax.specs.Words.{Lexeme}
use Rattle.cr_syntax.specs.Scopes.{Scopes}
use Rattle.cr_syntax.specs.Spells.{Limit, Free, AtMost, Upto, Is, Spells, a}
use Rattle.cr_syntax.specs.Units.{IsUnit, most_levels, file_scope, IsTreeOf, Refusal, FirstRefusal}
use Rattle.cr_syntax_machine.specs.Machine.{Prog, Reply, Cause, Done, Failed, Runs, whole, unit, nowhere, too_deep, refusal_of}
use Rattle.cr_syntax.specs.Expressions.{Start, Spelled, BeginsFrom, RunEnds, Outcome, Read, Refused, IsReading}
use Rattle.cr_syntax_machine.specs.MachineBody.{body, start_goal}

-- the token at which a program answers
abbrev pub end_of : Reply → ℕ
end_of (Done t e j) = j
end_of (Failed x k) = k

-- an answer as its reader is told it: the scopes and the token of the end are left out
abbrev pub outcome_of : Reply → Outcome
outcome_of (Done t e j) = Read t j
outcome_of (Failed x k) = Refused (refusal_of x k)

-- two texts with the same tokens up to this one, itself included
abbrev pub AreAlike : ℕ → List Lexeme → List Lexeme → Type 0
AreAlike k ts us = (i : ℕ) → i ≤ k → slice_get us i ≡ slice_get ts i

-- a program has one answer
abbrev pub OneAnswer : Type 0
OneAnswer = (ts : List Lexeme) (limit : Limit) (p : Prog) (c : Scopes) (i : ℕ) (r r' : Reply) →
    Runs body ts limit p c i r → Runs body ts limit p c i r' → r ≡ r'

-- it looks at no token behind the answer's
abbrev pub LooksNoFurther : Type 0
LooksNoFurther = (ts us : List Lexeme) (limit : Limit) (p : Prog) (c : Scopes) (i : ℕ) (r : Reply) →
    Runs body ts limit p c i r → AreAlike (end_of r) ts us → Runs body us limit p c i r

-- How loosely a word goes on with an expression: a suffix of the tightest, a comma of the loosest.
abbrev pub rank_of : Word → ℕ
rank_of word.LeftBracket = 0
rank_of word.LeftParen = 0
rank_of word.Dot = 0
rank_of word.Arrow = 0
rank_of word.PlusPlus = 0
rank_of word.MinusMinus = 0
rank_of word.Text = 0
rank_of word.Star = 1
rank_of word.Slash = 1
rank_of word.Percent = 1
rank_of word.Plus = 2
rank_of word.Minus = 2
rank_of word.LessLess = 3
rank_of word.GreaterGreater = 3
rank_of word.Less = 4
rank_of word.Greater = 4
rank_of word.LessEqual = 4
rank_of word.GreaterEqual = 4
rank_of word.EqualEqual = 5
rank_of word.BangEqual = 5
rank_of word.Ampersand = 6
rank_of word.Caret = 7
rank_of word.Bar = 8
rank_of word.AndAnd = 9
rank_of word.BarBar = 10
rank_of word.Question = 11
rank_of word.Equal = 12
rank_of word.StarEqual = 12
rank_of word.SlashEqual = 12
rank_of word.PercentEqual = 12
rank_of word.PlusEqual = 12
rank_of word.MinusEqual = 12
rank_of word.LessLessEqual = 12
rank_of word.GreaterGreaterEqual = 12
rank_of word.AmpersandEqual = 12
rank_of word.CaretEqual = 12
rank_of word.BarEqual = 12
rank_of word.Comma = 13
rank_of _ = 14

-- no word of this rank or a tighter one stands at token j
pub record IsFree (ts : List Lexeme) (n j : ℕ) : Type 0 where
  pub all : (w : Word) → Is ts j w → n < rank_of w

-- the parts that `expression` reads
pub data IsStart : Part → Type 0 where
  start_expression : IsStart part.Expression
  start_assignment : IsStart part.Assignment
  start_conditional : IsStart part.Conditional

-- what is read is spelled
abbrev pub ReadIsSpelled : Type 0
ReadIsSpelled = (ts : List Lexeme) (limit : Limit) (p : Part) (h : Context) (c e : Scopes) (d i j : ℕ) (t : Trees) → IsStart p →
    Runs body ts limit (body (start_goal p d)) c i (Done t e j) → Spells ts limit (a p) h c e d t i j

-- what is spelled is read, where no token behind it goes on with an expression
abbrev pub SpelledIsRead : Type 0
SpelledIsRead = (ts : List Lexeme) (limit : Limit) (p : Part) (h : Context) (c e : Scopes) (d i j : ℕ) (t : Trees) → IsStart p →
    Spells ts limit (a p) h c e d t i j → IsFree ts 13 j → Runs body ts limit (body (start_goal p d)) c i (Done t e j)

-- the tokens up to the end spell at most one tree
abbrev pub OneTree : Type 0
OneTree = (ts : List Lexeme) (limit : Limit) (p : Part) (h : Context) (c e f : Scopes) (d i : ℕ) (t u : Trees) → IsStart p →
    Spells ts limit (a p) h c e d t i (length ts) → Spells ts limit (a p) h c f d u i (length ts) → (t ≡ u) × (e ≡ f)

-- the tokens of a unit have one tree
abbrev pub OneUnit : Type 0
OneUnit = (ts : List Lexeme) (limit : Limit) (t u : Trees) → IsUnit limit ts t → IsUnit limit ts u → t ≡ u

-- what is read is the longest run that begins a text
abbrev pub ReadIsLongest : Type 0
ReadIsLongest = (ts : List Lexeme) (limit : Limit) (s : Start) (e : Scopes) (j : ℕ) (t : Trees) → IsStart s.part →
    Runs body ts limit (body (start_goal s.part s.depth)) s.scopes s.at (Done t e j) → RunEnds ts s j

-- no text goes on with a token that is refused for another cause than the level's number
abbrev pub RefusedEndsRun : Type 0
RefusedEndsRun = (ts : List Lexeme) (limit : Limit) (s : Start) (x : Cause) (k : ℕ) → IsStart s.part → (x ≡ too_deep → ⊥) →
    Runs body ts limit (body (start_goal s.part s.depth)) s.scopes s.at (Failed x k) → RunEnds ts s k

-- no text within the limit goes on with a token that is refused, whatever the cause
abbrev pub RefusedWithin : Type 0
RefusedWithin = (ts : List Lexeme) (most : ℕ) (s : Start) (x : Cause) (k : ℕ) → IsStart s.part → k < length ts →
    Runs body ts (AtMost most) (body (start_goal s.part s.depth)) s.scopes s.at (Failed x k) → BeginsFrom (Upto (k + 1) most) ts s (k + 1) → ⊥

-- the tokens before a refused one begin a text within the limit
abbrev pub BeginsBefore : Type 0
BeginsBefore = (ts : List Lexeme) (most : ℕ) (s : Start) (x : Cause) (k : ℕ) → IsStart s.part → k ≤ length ts →
    Runs body ts (AtMost most) (body (start_goal s.part s.depth)) s.scopes s.at (Failed x k) → BeginsFrom (Upto k most) ts s k

-- where the end is refused, the tokens up to it spell no tree
abbrev pub EndedIsNone : Type 0
EndedIsNone = (ts : List Lexeme) (limit : Limit) (s : Start) (x : Cause) (t : Trees) → IsStart s.part → (x ≡ too_deep → ⊥) →
    Runs body ts limit (body (start_goal s.part s.depth)) s.scopes s.at (Failed x (length ts)) → Spelled Free ts s (length ts) t → ⊥

-- what the machine answers is what reading in the middle of a text promises
abbrev pub AnswersAreReadings : Type 0
AnswersAreReadings = (ts : List Lexeme) (s : Start) (r : Reply) → IsStart s.part → s.at ≤ length ts →
    Runs body ts (AtMost most_levels) (body (whole s.part s.depth)) s.scopes s.at r → IsReading ts s (outcome_of r)

-- what an answer says of a unit's tokens: that the trees are theirs, or that this is the first refusal
abbrev pub IsParsed : List Lexeme → Reply → Type 0
IsParsed ts (Done t e j) = IsTreeOf ts t × (j ≡ length ts)
IsParsed ts (Failed x k) = FirstRefusal ts (refusal_of x k)

-- what the machine of the subset answers of a unit
abbrev pub MachineReadsUnits : Type 0
MachineReadsUnits = (ts : List Lexeme) (r : Reply) → Runs body ts (AtMost most_levels) (body (unit nowhere 0)) file_scope 0 r → IsParsed ts r

-- a start has one reading at most
abbrev pub OneReading : Type 0
OneReading = (ts : List Lexeme) (s : Start) (o o' : Outcome) → IsStart s.part → IsReading ts s o → IsReading ts s o' → o ≡ o'

-- where the machine of the subset refuses a token list, no other refusal is the first
abbrev pub OneFirstRefusal : Type 0
OneFirstRefusal = (ts : List Lexeme) (x : Cause) (k : ℕ) (r : Refusal) → Runs body ts (AtMost most_levels) (body (unit nowhere 0)) file_scope 0 (Failed x k) → FirstRefusal ts r → r ≡ refusal_of x k

-- a token list that has a tree has no first refusal
abbrev pub TreeIsNotRefused : Type 0
TreeIsNotRefused = (ts : List Lexeme) (t : Trees) (r : Refusal) → IsTreeOf ts t → FirstRefusal ts r → ⊥
