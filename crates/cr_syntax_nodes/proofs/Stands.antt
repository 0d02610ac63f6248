-- Which kinds of nodes stand for a part.
use Rattle.std.proofs.Common.{◌≡◌, ℕ, Bool, true, false, ◌||◌, List, [], ◌∷◌, ◌++◌, refl, sym, subst}
use Rattle.cr_syntax.specs.declared.node.Kind.{Kind}
use Rattle.cr_syntax.specs.declared.part.Part.{Part}
use Rattle.cr_syntax.specs.declared.part.Part.TheVariants as part
use Rattle.cr_syntax.specs.declared.part.Context.{Context}
use Rattle.cr_syntax.specs.Words.{Lexeme}
use Rattle.cr_syntax.specs.Scopes.{Scopes}
use Rattle.cr_syntax.specs.Trees.{Trees, one}
use Rattle.cr_syntax.specs.Chains.{same_part}
use Rattle.cr_syntax.specs.Grammar.{Side, Alternative, Chain}
use Rattle.cr_syntax.specs.Grammar as grammar
use Rattle.cr_syntax.specs.Tables.{part_of}
use Rattle.cr_syntax.specs.Spells.{Limit, Spells, a}
use Rattle.cr_syntax.specs.Spells as spells
use Rattle.cr_syntax.proofs.Alternatives.{part_only}
use Rattle.cr_syntax_nodes.specs.Laid.{parts_of, is_among, stands_for}

either : (b c : Bool) → c ≡ true → (b || c) ≡ true
either true c u = refl
either false c u = u

-- among one more, and among others behind
more : (p q : Part) (ps : List Part) → is_among p ps ≡ true → is_among p (q ∷ ps) ≡ true
more p q ps u = either (same_part p q) (is_among p ps) u

before : (p : Part) (ps qs : List Part) → is_among p ps ≡ true → is_among p (ps ++ qs) ≡ true
before p [] qs u = absurd cc
before p (r ∷ ps) qs u = by (same_part p r) (before p ps qs) u
  where
    by : (b : Bool) → (is_among p ps ≡ true → is_among p (ps ++ qs) ≡ true) → (b || is_among p ps) ≡ true → (b || is_among p (ps ++ qs)) ≡ true
    by true g v = refl
    by false g v = g v

-- a part is one that it may be itself
itself : (p : Part) → is_among p (parts_of p) ≡ true
itself part.External = refl
itself part.Declaration = refl
itself part.InitDeclarator = refl
itself part.Initializer = refl
itself part.Specifiers = refl
itself part.Specifier = refl
itself part.PlainSpecifiers = refl
itself part.Plain = refl
itself part.MemberDeclaration = refl
itself part.MemberDeclarator = refl
itself part.Enumerator = refl
itself part.Declarator = refl
itself part.DirectDeclarator = refl
itself part.Parameters = refl
itself part.Parameter = refl
itself part.ParameterDeclarator = refl
itself part.Abstract = refl
itself part.DirectAbstract = refl
itself part.TypeName = refl
itself part.BlockItem = refl
itself part.Statement = refl
itself part.Compound = refl
itself part.Expression = refl
itself part.Assignment = refl
itself part.Conditional = refl
itself part.LogicalOr = refl
itself part.LogicalAnd = refl
itself part.Or = refl
itself part.Xor = refl
itself part.And = refl
itself part.Equality = refl
itself part.Relational = refl
itself part.Shift = refl
itself part.Additive = refl
itself part.Multiplicative = refl
itself part.Cast = refl
itself part.Unary = refl
itself part.Postfix = refl
itself part.Primary = refl

-- whatever an alternative alone may be, the part may be
chained : {p q : Part} → Chain p q → (r : Part) → is_among r (parts_of q) ≡ true → is_among r (parts_of p) ≡ true
chained grammar.external_declaration r u = more r part.External (parts_of part.Declaration) u
chained grammar.initializer_expression r u = more r part.Initializer (parts_of part.Assignment) u
chained grammar.specifiers_one r u = more r part.Specifiers (parts_of part.Specifier) u
chained grammar.specifier_plain r u = more r part.Specifier (parts_of part.Plain) u
chained grammar.plain_one r u = more r part.PlainSpecifiers (parts_of part.Plain) u
chained grammar.declarator_direct r u = more r part.Declarator (parts_of part.DirectDeclarator) u
chained grammar.parameters_one r u = more r part.Parameters (parts_of part.Parameter) u
chained grammar.parameter_unnamed r u = more r part.Parameter (parts_of part.Specifiers) u
chained grammar.abstract_direct r u = more r part.Abstract (parts_of part.DirectAbstract) u
chained grammar.type_name_plain r u = more r part.TypeName (parts_of part.PlainSpecifiers) u
chained grammar.statement_compound r u = more r part.Statement (parts_of part.Compound) u
chained grammar.expression_assignment r u = more r part.Expression (parts_of part.Assignment) u
chained grammar.assignment_conditional r u = more r part.Assignment (parts_of part.Conditional) u
chained grammar.conditional_binary r u = more r part.Conditional (parts_of part.LogicalOr) u
chained grammar.binary_14 r u = more r part.LogicalOr (parts_of part.LogicalAnd) u
chained grammar.binary_13 r u = more r part.LogicalAnd (parts_of part.Or) u
chained grammar.binary_12 r u = more r part.Or (parts_of part.Xor) u
chained grammar.binary_11 r u = more r part.Xor (parts_of part.And) u
chained grammar.binary_10 r u = more r part.And (parts_of part.Equality) u
chained grammar.binary_9 r u = more r part.Equality (parts_of part.Relational) u
chained grammar.binary_8 r u = more r part.Relational (parts_of part.Shift) u
chained grammar.binary_7 r u = more r part.Shift (parts_of part.Additive) u
chained grammar.binary_6 r u = more r part.Additive (parts_of part.Multiplicative) u
chained grammar.binary_5 r u = more r part.Multiplicative (parts_of part.Cast) u
chained grammar.cast_unary r u = more r part.Cast (parts_of part.Unary) u
chained grammar.unary_postfix r u = more r part.Unary (parts_of part.Postfix) u
chained grammar.postfix_primary r u = more r part.Postfix (parts_of part.Primary) u
chained grammar.parameter_abstract r u = more r part.ParameterDeclarator (parts_of part.Abstract ++ parts_of part.Declarator) (before r (parts_of part.Abstract) (parts_of part.Declarator) u)
chained grammar.item_declaration r u = more r part.BlockItem (parts_of part.Declaration ++ parts_of part.Statement) (before r (parts_of part.Declaration) (parts_of part.Statement) u)
chained grammar.item_statement r u = more r part.BlockItem (parts_of part.Declaration ++ parts_of part.Statement) (more r part.Declaration (parts_of part.Statement) u)

-- A part is one tree, of a kind that stands for it.
pub data IsOne (p : Part) (i j : ℕ) : Trees → Type 0 where
  is_one : {k : Kind} {t : Trees} → stands_for p k ≡ true → IsOne p i j (one k i j t)

made : {p : Part} {k : Kind} {s : Side} {i j : ℕ} (t : Trees) → Alternative p k s → IsOne p i j (one k i j t)
made {p = p} t m = is_one (subst (λ q. is_among q (parts_of p) ≡ true) (sym (part_only m)) (itself p))

lifted : {p q : Part} {i j : ℕ} {t : Trees} → ((r : Part) → is_among r (parts_of q) ≡ true → is_among r (parts_of p) ≡ true) → IsOne q i j t → IsOne p i j t
lifted f (is_one {k = k} u) = is_one (f (part_of k) u)

pub part_is : {ts : List Lexeme} {limit : Limit} {p : Part} {h : Context} {c e : Scopes} {d i j : ℕ} {t : Trees} → Spells ts limit (a p) h c e d t i j → IsOne p i j t
part_is (spells.of_alternative {t = t} m f s) = made t m
part_is (spells.of_chain m f s) = lifted (chained m) (part_is s)
part_is (spells.init_declarator_alone s) = lifted (λ r u. more r part.InitDeclarator (parts_of part.Declarator) u) (part_is s)
part_is (spells.parameter_declarator s) = lifted (λ r u. more r part.ParameterDeclarator (parts_of part.Abstract ++ parts_of part.Declarator) (more r part.Abstract (part.DirectAbstract ∷ parts_of part.Declarator) (more r part.DirectAbstract (parts_of part.Declarator) u))) (part_is s)
part_is (spells.member_declarator s) = lifted (λ r u. more r part.MemberDeclarator (parts_of part.Declarator) u) (part_is s)

-- what is known of one tree
pub on_one : {p : Part} {i j : ℕ} {t : Trees} (P : Trees → Type 0) → IsOne p i j t → ((k : Kind) (b : Trees) → stands_for p k ≡ true → P (one k i j b)) → P t
on_one P (is_one {k = k} {t = t} u) f = f k t u
