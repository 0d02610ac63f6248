-- What the layout of some kinds says, as it computes.
use Rattle.std.proofs.Common.{◌≡◌, ℕ, ◌+◌, true, false, List, refl, arith}
use Rattle.cr_syntax.specs.declared.word.Word.TheVariants as word
use Rattle.cr_syntax.specs.declared.node.Kind.{Kind}
use Rattle.cr_syntax.specs.declared.node.Kind.TheVariants as kind
use Rattle.cr_syntax.specs.declared.part.Part.TheVariants as part
use Rattle.cr_syntax.specs.Words.{Lexeme}
use Rattle.cr_syntax.specs.Trees.{Trees, none, node}
use Rattle.cr_syntax.specs.Tables.{rule_of, side_of}
use Rattle.cr_syntax.specs.Spells.{Is}
use Rattle.cr_syntax_nodes.specs.Laid.{stands_for, IsPart, IsLaid}

-- a declaration is no statement but an item of a block, an expression is none, and a declarator stands for one that may be initialised
kinds : (stands_for part.Statement kind.Declaration ≡ false) × ((stands_for part.Statement kind.Add ≡ false) × ((stands_for part.BlockItem kind.Declaration ≡ true) × (stands_for part.InitDeclarator kind.NameDeclarator ≡ true)))
unfolding rule_of
kinds = (refl, (refl, (refl, refl)))

-- "while" "(" expression ")" statement
a_while : (ts : List Lexeme) (k l : Kind) (a b c d i j : ℕ) (t u : Trees) → IsLaid ts (side_of kind.While) (node k a b t (node l c d u none)) i j →
    Is ts i word.While × (Is ts (i + 1) word.LeftParen × (IsPart part.Expression k a (i + 1 + 1) × (Is ts b word.RightParen × (IsPart part.Statement l c (b + 1) × (d ≡ j)))))
unfolding rule_of
a_while ts k l a b c d i j t u h = h

-- no `while` has one part
no_while : (ts : List Lexeme) (k : Kind) (a b i j : ℕ) (t : Trees) → IsLaid ts (side_of kind.While) (node k a b t none) i j → ⊥
unfolding rule_of
no_while ts k a b i j t h = h.1.1.1.1

-- specifiers, declarators and `;`
a_declaration : (ts : List Lexeme) (k l : Kind) (a b c d i j : ℕ) (t u : Trees) → IsLaid ts (side_of kind.Declaration) (node k a b t (node l c d u none)) i j →
    IsPart part.Specifiers k a i × (IsPart part.InitDeclarator l c b × (Is ts d word.Semicolon × (d + 1 ≡ j)))
unfolding rule_of
a_declaration ts k l a b c d i j t u h = h

-- the body alone of `for (;;) body`
for_ever : (ts : List Lexeme) (k : Kind) (b i j : ℕ) (t : Trees) → IsLaid ts (side_of kind.For) (node k (i + 1 + 1 + 1 + 1 + 1) b t none) i j →
    Is ts (i + 1 + 1) word.Semicolon × (Is ts (i + 1 + 1 + 1) word.Semicolon × (Is ts (i + 1 + 1 + 1 + 1) word.RightParen × (stands_for part.Statement k ≡ true)))
unfolding rule_of
for_ever ts k b i j t h =
    let first = h.1.1.1 (λ e. absurd (omega (arith, e))) in
    let test = first.1.1 (λ e. absurd (omega (arith, e))) in
    let step = test.1.1 (λ e. absurd (omega (arith, e))) in
    (first.0, (test.0, (step.0, step.1.0.0)))
