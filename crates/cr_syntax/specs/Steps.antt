-- How a reading goes on after a part, for each symbol that has one. Each takes what the part left: its scopes, or none.
use Rattle.std.specs.Prelude.{ℕ, ◌+◌, ◌&&◌, List, [], ◌∷◌, Option, None, Some, if◌then◌else◌}
use Rattle.cr_syntax.specs.declared.word.Word.TheVariants as word
use Rattle.cr_syntax.specs.declared.scopes.TypeName.{TypeName}
use Rattle.cr_syntax.specs.declared.part.Context.{Context}
use Rattle.cr_syntax.specs.Words.{Lexeme}
use Rattle.cr_syntax.specs.Scopes.{Scopes}
use Rattle.cr_syntax.specs.Trees.{Trees}
use Rattle.cr_syntax.specs.Context.{past_token, past_part}
use Rattle.cr_syntax.specs.Grammar.{Side}
use Rattle.cr_syntax.specs.Reads.{is_word, has_room, after_of, alone, reads, next_of}

-- a part
abbrev pub part_on : List Lexeme → Trees → Side → Context → ℕ → ℕ → Option Scopes → Option Scopes
part_on ts t s h d j None = None
part_on ts t s h d j (Some e) = reads ts (next_of t) s (past_part h (alone t)) e d (after_of t) j

-- the expressions of a `for`
abbrev pub clause_on : List Lexeme → Trees → Side → Context → ℕ → ℕ → Option Scopes → Option Scopes
clause_on ts t s h d j None = None
clause_on ts t s h d j (Some e) = if is_word ts (after_of t) word.Semicolon then reads ts (next_of t) s (past_token h) e d (after_of t + 1) j else None

abbrev pub step_on : List Lexeme → Trees → Side → Context → ℕ → ℕ → Option Scopes → Option Scopes
step_on ts t s h d j None = None
step_on ts t s h d j (Some e) = if is_word ts (after_of t) word.RightParen && has_room d then reads ts (next_of t) s (past_token h) e d (after_of t + 1) j else None

-- the statement of an `else`, in a scope of its own
abbrev pub else_on : List Lexeme → Trees → Side → Context → ℕ → ℕ → Option Scopes → Option Scopes
else_on ts t s h d j None = None
else_on ts t s h d j (Some []) = None
else_on ts t s h d j (Some (names ∷ e)) = reads ts (next_of t) s (past_part h (alone t)) e d (after_of t) j

-- the parameters of a declarator, of which those of a name itself stay
abbrev pub prototype_on : List Lexeme → Trees → Side → Context → List TypeName → ℕ → ℕ → Option Scopes → Option Scopes
prototype_on ts t s h own d j None = None
prototype_on ts t s h own d j (Some []) = None
prototype_on ts t s h own d j (Some (names ∷ e)) = reads ts (next_of t) s (past_part h (alone t)) ((if h.bare then names else own) ∷ e) d (after_of t) j

-- the size of an array declarator
abbrev pub size_on : List Lexeme → Trees → Side → Context → List TypeName → ℕ → ℕ → Option Scopes → Option Scopes
size_on ts t s h own d j None = None
size_on ts t s h own d j (Some e) = reads ts (next_of t) s (past_part h (alone t)) (own ∷ e) d (after_of t) j

-- a qualified part, which ends its right side
abbrev pub qualified_on : List Lexeme → Trees → Context → ℕ → ℕ → Option Scopes → Option Scopes
qualified_on ts t h d j None = None
qualified_on ts t h d j (Some e) = reads ts (next_of t) [] h e d (after_of t) j
