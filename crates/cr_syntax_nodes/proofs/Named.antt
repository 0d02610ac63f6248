-- The identifier that a node's own name is.
use Rattle.std.proofs.Common.{◌≡◌, ℕ, ◌+◌, List, [], ◌∷◌, subst, arith}
use Rattle.cr_syntax.specs.declared.word.Word.TheVariants as word
use Rattle.cr_syntax.specs.declared.node.Kind.{Kind}
use Rattle.cr_syntax.specs.declared.node.Kind.TheVariants as kind
use Rattle.cr_syntax.specs.declared.part.Context.{Context}
use Rattle.cr_syntax.specs.Words.{Lexeme}
use Rattle.cr_syntax.specs.Scopes.{Scopes}
use Rattle.cr_syntax.specs.Trees.{Trees}
use Rattle.cr_syntax.specs.Grammar.{token}
use Rattle.cr_syntax.specs.Tables.{side_of, rule_of}
use Rattle.cr_syntax.specs.Spells.{Limit, Is, Spells, rest}
use Rattle.cr_syntax.specs.Spells as spells
use Rattle.cr_syntax_nodes.specs.Nodes.{IsName, name_token}

-- the last token of a right side
last_name : {ts : List Lexeme} {limit : Limit} {h : Context} {c e : Scopes} {d i j : ℕ} {t : Trees} (l : ℕ) → j ≡ l + 1 → Spells ts limit (rest (token word.Identifier ∷ [])) h c e d t i j → Is ts l word.Identifier
last_name {ts = ts} {i = i} l q (spells.token y w spells.done) = let e : i ≡ l = omega arith in subst (λ m. Is ts m word.Identifier) e y

pub named : {ts : List Lexeme} {limit : Limit} (k : Kind) {h : Context} {c e : Scopes} {d i j : ℕ} {t : Trees} (l : ℕ) → j ≡ l + 1 → Spells ts limit (rest (side_of k)) h c e d t i j → IsName ts (name_token k i l)
unfolding rule_of
named kind.Identifier l q (spells.ordinary y w s) = y.0
named kind.Call l q (spells.ordinary y w s) = y.0
named kind.TypedefName l q (spells.type_identifier y f w s) = y.0
named kind.NameDeclarator l q (spells.declared y f w s) = y
named kind.Enumerator l q (spells.enumerates y w s) = y
named kind.Label l q (spells.token y w s) = y
named kind.Goto l q (spells.token y w (spells.token y' w' s)) = y'
named kind.StructTag l q (spells.token y w (spells.token y' w' s)) = y'
named kind.EnumTag l q (spells.token y w (spells.token y' w' s)) = y'
named kind.Member l q (spells.part x (spells.token y w s)) = last_name l q s
named kind.PointerMember l q (spells.part x (spells.token y w s)) = last_name l q s
named _ l q s = tt
