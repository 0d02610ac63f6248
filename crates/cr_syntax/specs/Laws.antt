-- What is proved of the grammar's table, of reading a tree by it, and of the tokens that it is read against.
use Rattle.std.specs.Prelude.{◌≡◌, ◌≢◌, ℕ, List, Some, length}
use Rattle.cr_tokens.specs.declared.token.Token.{Token}
use Rattle.cr_tokens.specs.Tokens.{Tokenizes}
use Rattle.cr_syntax.specs.declared.node.Kind.{Kind}
use Rattle.cr_syntax.specs.declared.part.Part.{Part}
use Rattle.cr_syntax.specs.Words.{Lexeme, AreSpans}
use Rattle.cr_syntax.specs.declared.scopes.TypeName.{TypeName}
use Rattle.cr_syntax.specs.Scopes.{Scopes, is_type, enter}
use Rattle.cr_syntax.specs.Trees.{Trees}
use Rattle.cr_syntax.specs.Context.{fresh}
use Rattle.cr_syntax.specs.Grammar.{Side, Alternative}
use Rattle.cr_syntax.specs.Tables.{part_of, side_of}
use Rattle.cr_syntax.specs.Spells.{AtMost}
use Rattle.cr_syntax.specs.Reads.{reads}
use Rattle.cr_syntax.specs.Units.{IsUnit, most_levels, unit_side, file_scope}

-- each kind's row of the table is an alternative of the grammar
abbrev pub TableIsGrammar : Type 0
TableIsGrammar = (k : Kind) → Alternative (part_of k) k (side_of k)

-- the grammar has no other alternative for a kind
abbrev pub GrammarIsTable : Type 0
GrammarIsTable = (p : Part) (k : Kind) (s : Side) → Alternative p k s → (part_of k ≡ p) × (side_of k ≡ s)

-- reading trees by recursion, as external declarations of a file from its first token to its last
abbrev pub IsRead : List Lexeme → Trees → Scopes → Type 0
IsRead ts t after = reads ts t unit_side fresh file_scope 0 0 (length ts) ≡ Some after

-- what is read is a unit
abbrev pub ReadIsUnit : Type 0
ReadIsUnit = (ts : List Lexeme) (t : Trees) (after : Scopes) → IsRead ts t after → IsUnit (AtMost most_levels) ts t

-- a unit is read
abbrev pub UnitIsRead : Type 0
UnitIsRead = (ts : List Lexeme) (t : Trees) → IsUnit (AtMost most_levels) ts t → (after : Scopes) × IsRead ts t after

-- the latest declaration of a name in the innermost scope decides whether it is a type
abbrev pub LatestDecides : Type 0
LatestDecides = (n : TypeName) (c : Scopes) → is_type (enter n c) n.name ≡ n.is_type

-- a declaration bears on no other name
abbrev pub OthersStay : Type 0
OthersStay = (n : TypeName) (c : Scopes) (s : List ℕ) → s ≢ n.name → is_type (enter n c) s ≡ is_type c s

-- the tokens of a file are parts of it
abbrev pub TokensAreSpans : Type 0
TokensAreSpans = (file : List ℕ) (tokens : List Token) → Tokenizes file tokens → AreSpans file tokens
