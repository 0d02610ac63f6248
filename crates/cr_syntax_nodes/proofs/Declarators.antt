-- A declarator that is spelled declares an identifier in it.
use Rattle.std.proofs.Common.{◌≡◌, ℕ, ◌+◌, ◌<◌, ◌≤◌, true, List, refl, arith}
use Rattle.cr_syntax.specs.declared.node.Kind.{Kind}
use Rattle.cr_syntax.specs.declared.node.Kind.TheVariants as kind
use Rattle.cr_syntax.specs.declared.part.Part.{Part}
use Rattle.cr_syntax.specs.declared.part.Part.TheVariants as part
use Rattle.cr_syntax.specs.declared.part.Context.{Context}
use Rattle.cr_syntax.specs.Words.{Lexeme}
use Rattle.cr_syntax.specs.Scopes.{Scopes}
use Rattle.cr_syntax.specs.Trees.{Trees, one, ◌&◌}
use Rattle.cr_syntax.specs.Context.{declared_in}
use Rattle.cr_syntax.specs.Grammar as grammar
use Rattle.cr_syntax.specs.Tables.{rule_of}
use Rattle.cr_syntax.specs.Spells.{Limit, Spells, a}
use Rattle.cr_syntax.specs.Spells as spells
use Rattle.cr_syntax_nodes.specs.Nodes.{IsMade}
use Rattle.cr_syntax_nodes.specs.Laid.{stands_for}
use Rattle.cr_syntax_nodes.specs.Declarators.{IsIdentifierIn}
use Rattle.cr_syntax_nodes.proofs.Made.{forth, qualifiers_forth, rises}
use Rattle.cr_syntax_nodes.proofs.Stands.{IsOne, part_is, on_one}

-- declarators with a name
data Names : Part → Type 0 where
  by_declarator : Names part.Declarator
  by_direct : Names part.DirectDeclarator

-- what is declared in the first of some trees, and in a longer span
beside : {ts : List Lexeme} {p : Part} {i j m n : ℕ} {t : Trees} (u : Trees) → IsOne p i j t → m ≤ i → j ≤ n → IsIdentifierIn ts i j (declared_in t) → IsIdentifierIn ts m n (declared_in (t & u))
beside {ts = ts} {i = i} {j = j} {m = m} {n = n} u one le le' h =
    on_one (λ y. IsIdentifierIn ts i j (declared_in y) → IsIdentifierIn ts m n (declared_in (y & u))) one
    (λ k b f z. record { from = omega (arith, le, z.from); to = omega (arith, le', z.to); is = z.is }) h

named_by : {ts : List Lexeme} {limit : Limit} {p : Part} {h : Context} {c e : Scopes} {d i j : ℕ} {t : Trees} → Names p → Spells ts limit (a p) h c e d t i j → IsIdentifierIn ts i j (declared_in t)
named_by by_declarator (spells.of_chain grammar.declarator_direct f s) = named_by by_direct s
named_by by_declarator (spells.of_alternative grammar.pointer_declarator f (spells.opens q w (spells.qualified m x))) =
    let z = named_by by_declarator x in let le = qualifiers_forth m in
    record { from = omega (arith, le, z.from); to = z.to; is = z.is }
named_by by_direct (spells.of_chain x f s) = elim x [ ]
named_by by_direct (spells.of_alternative grammar.name_declarator f (spells.declared q g w spells.done)) = record { from = omega arith; to = omega arith; is = q }
named_by by_direct (spells.of_alternative grammar.group_declarator f (spells.opens q w (spells.part {u = u} x s))) =
    beside u (part_is x) (omega arith) (forth (rises s)) (named_by by_declarator x)
named_by by_direct (spells.of_alternative grammar.array_declarator f (spells.part {u = u} x s)) =
    beside u (part_is x) (omega arith) (forth (rises s)) (named_by by_direct x)
named_by by_direct (spells.of_alternative grammar.function_declarator f (spells.part {u = u} x s)) =
    beside u (part_is x) (omega arith) (forth (rises s)) (named_by by_direct x)

pub declares : {ts : List Lexeme} {limit : Limit} (k : Kind) {i j : ℕ} {t : Trees} → stands_for part.Declarator k ≡ true → IsMade ts limit k i j t → IsIdentifierIn ts i j (declared_in (one k i j t))
unfolding rule_of
declares kind.PointerDeclarator u m = named_by by_declarator (spells.of_alternative grammar.pointer_declarator refl m.spells)
declares kind.NameDeclarator u m = named_by by_direct (spells.of_alternative grammar.name_declarator refl m.spells)
declares kind.GroupDeclarator u m = named_by by_direct (spells.of_alternative grammar.group_declarator refl m.spells)
declares kind.ArrayDeclarator u m = named_by by_direct (spells.of_alternative grammar.array_declarator refl m.spells)
declares kind.FunctionDeclarator u m = named_by by_direct (spells.of_alternative grammar.function_declarator refl m.spells)
declares _ u m = absurd cc
