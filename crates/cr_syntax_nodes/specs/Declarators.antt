-- The token that a declarator declares.
use Rattle.std.specs.Prelude.{◌≡◌, ℕ, ◌+◌, ◌<◌, ◌≤◌, true, List}
use Rattle.cr_syntax.specs.declared.word.Word.TheVariants as word
use Rattle.cr_syntax.specs.declared.part.Part.TheVariants as part
use Rattle.cr_syntax.specs.Words.{Lexeme}
use Rattle.cr_syntax.specs.Trees.{one}
use Rattle.cr_syntax.specs.Kept.{row_in}
use Rattle.cr_syntax.specs.Context.{declared_in}
use Rattle.cr_syntax.specs.Spells.{Is}
use Rattle.cr_syntax_nodes.specs.Nodes.{OfEachNode}
use Rattle.cr_syntax_nodes.specs.Laid.{stands_for}

-- token m is an identifier, from token i to before token j
pub record IsIdentifierIn (ts : List Lexeme) (i j m : ℕ) : Type 0 where
  pub from : i ≤ m
  pub to : m < j
  pub is : Is ts m word.Identifier

-- each declarator with a name declares an identifier in its span (6.7.6p4)
abbrev pub DeclaratorsHaveNames : Type 0
DeclaratorsHaveNames = OfEachNode (λ ts limit nodes n. stands_for part.Declarator n.kind ≡ true →
    IsIdentifierIn ts n.first (n.last + 1) (declared_in (one n.kind n.first (n.last + 1) (row_in nodes n.parts))))
