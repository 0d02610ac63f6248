-- What a run of the machine says of the grammar.
use Rattle.std.proofs.Common.{◌≡◌, ℕ, ◌≤◌, true, false, List, [], ◌∷◌, Option, None, Some, Result, Ok, Err, length, refl, sym, subst, arith}
use Rattle.std.specs.Prelude.{IfErr, IsErrAnd, if◌then◌else◌}
use Rattle.cr_tokens.specs.declared.token.Token.{Token}
use Rattle.cr_syntax.specs.declared.word.Word.{Word}
use Rattle.cr_syntax.specs.declared.word.Word.TheVariants as word
use Rattle.cr_syntax.specs.Words.{Lexeme, word_at, lexemes_of}
use Rattle.cr_syntax.specs.Units.{is_unused, is_opening, Refusal}
use Rattle.cr_syntax.specs.Units as u
use Rattle.cr_syntax_machine.specs.Machine as m
use Rattle.cr_syntax_machine.specs.Machine.{Failed, ended, outside, whole, barred, exceeds, has_word}
use Rattle.cr_syntax_machine.specs.MachineBody.{body}
use Rattle.cr_exprs_descent.specs.declared.fault.ParseFault.{ParseFault}
use Rattle.cr_exprs_descent.specs.declared.fault.ParseFault.TheVariants.{NoMemory, Unexpected, Ended, TooDeep, OutsideSubset}

pub refusal_on : {A : Type 0} (r : Result A ParseFault) (f : ParseFault) (P : ParseFault → Type 0) → IsErrAnd r (λ g. g ≡ f) → P f → IfErr r P
refusal_on (Ok x) f P h k = absurd h
refusal_on (Err g) f P h k = subst P (sym h) k

-- an unused keyword opens no level
plain_word : (w : Word) → is_unused w ≡ true → is_opening w ≡ false
plain_word word.LeftParen h = absurd cc
plain_word word.LeftBracket h = absurd cc
plain_word word.LeftBrace h = absurd cc
plain_word word.Do h = absurd cc
plain_word word.PlusPlus h = absurd cc
plain_word word.MinusMinus h = absurd cc
plain_word word.Ampersand h = absurd cc
plain_word word.Star h = absurd cc
plain_word word.Plus h = absurd cc
plain_word word.Minus h = absurd cc
plain_word word.Tilde h = absurd cc
plain_word word.Bang h = absurd cc
plain_word word.Sizeof h = absurd cc
plain_word _ h = refl

barred_of : (d : ℕ) (o : Option Word) → elim o [ None ↦ false | Some w ↦ is_unused w ] ≡ true → elim o [ None ↦ ended | Some w ↦ if exceeds w d then m.too_deep else outside 1 ] ≡ outside 1
barred_of d None h = absurd cc
barred_of d (Some w) h = let e = plain_word w h in rw e refl

pub unused_barred : (ts : List Lexeme) (i d : ℕ) → has_word ts i is_unused ≡ true → barred ts 1 i d ≡ outside 1
unused_barred ts i d h = barred_of d (word_at ts i) h
