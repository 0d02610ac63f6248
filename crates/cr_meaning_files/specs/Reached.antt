-- Which nodes of a unit a run may reach, by what stands above them (C11 6.5.3.2p3, 6.5.3.4p2, 6.6, 6.7.9, 6.8).
use Rattle.std.specs.Prelude.{ℕ, zero, suc, Bool, true, false, not, ◌&&◌, ◌||◌, Option, None, Some, length}
use Rattle.cr_syntax.specs.declared.node.Kind.{Kind}
use Rattle.cr_syntax.specs.declared.node.Kind.TheVariants as kind
use Rattle.cr_check_enclosing.specs.Above.{above_of}
use Rattle.cr_check_expressions.specs.Forms.{form_of}
use Rattle.cr_typed.specs.declared.typed.Typed.{Typed}
use Rattle.cr_meaning_operations.specs.Operations.{kind_at, is_automatic, is_case, is_declaration, is_static_initialiser}
use Rattle.cr_meaning_typing.specs.Typed.Typing.{is_expression}
use Rattle.cr_meaning_typing.specs.Sorts.Founded.{is_followed}
use Rattle.cr_meaning_typing.specs.Whole.Statements.{is_statement}

-- ---- kinds

-- statements and declarations, as items of a block
abbrev pub is_item : Kind → Bool
is_item kind.Compound = true
is_item kind.ExpressionStatement = true
is_item kind.If = true
is_item kind.Switch = true
is_item kind.While = true
is_item kind.Do = true
is_item kind.For = true
is_item kind.Label = true
is_item kind.Case = true
is_item kind.Default = true
is_item kind.Goto = true
is_item kind.Break = true
is_item kind.Continue = true
is_item kind.Return = true
is_item kind.Declaration = true
is_item k = false

abbrev pub is_size : Kind → Bool
is_size kind.SizeofExpression = true
is_size kind.SizeofType = true
is_size k = false

-- what names an object in a declaration
abbrev pub is_declaring : Kind → Bool
is_declaring kind.InitDeclarator = true
is_declaring kind.NameDeclarator = true
is_declaring kind.PointerDeclarator = true
is_declaring kind.GroupDeclarator = true
is_declaring kind.ArrayDeclarator = true
is_declaring kind.FunctionDeclarator = true
is_declaring k = false

abbrev pub is_list : Kind → Bool
is_list kind.InitializerList = true
is_list k = false

-- what has initialisers
abbrev pub is_listing : Kind → Bool
is_listing kind.InitDeclarator = true
is_listing kind.InitializerList = true
is_listing k = false

abbrev pub is_definition : Kind → Bool
is_definition kind.FunctionDefinition = true
is_definition k = false

abbrev pub is_block : Kind → Bool
is_block kind.Compound = true
is_block k = false

abbrev pub is_address : Kind → Bool
is_address kind.AddressOf = true
is_address k = false

-- ---- from a node to its parts

-- expressions but `sizeof` go on with all their expressions, and statements but a `case` with statements too
abbrev pub is_going : Kind → Bool
is_going k = (is_expression (form_of k) && not (is_size k)) || (is_item k && not (is_case k || is_declaration k))

-- a `case` with its statement, a declarator and a list with their initialisers, and a declaration with the declarators of automatic objects
abbrev pub goes_on : Typed → ℕ → Kind → Kind → Bool
goes_on t part k own =
    (is_going k && (is_expression (form_of own) || (is_item k && is_item own)))
    || ((is_case k && is_item own)
    || ((is_listing k && (is_expression (form_of own) || is_list own)) || (is_declaration k && (is_declaring own && is_automatic t part))))

-- a node that a run goes on with, or the body of a function
abbrev pub lives_below : Typed → (ℕ → Bool) → ℕ → Option ℕ → Bool
lives_below t lives part None = false
lives_below t lives part (Some node) =
    (is_definition (kind_at t node) && is_block (kind_at t part)) || (goes_on t part (kind_at t node) (kind_at t part) && lives node)

-- initialisers of static objects are executed before main, wherever they stand; nodes stand above their parts, so the number of all is enough
abbrev pub lives_by : ℕ → Typed → ℕ → Bool
lives_by zero t part = false
lives_by (suc more) t part = is_static_initialiser t part (kind_at t part) || lives_below t (lives_by more t) part (above_of t.nodes (length t.nodes) part)

abbrev pub lives : Typed → ℕ → Bool
lives t node = lives_by (suc (length t.nodes)) t node

-- ---- what is evaluated or executed

-- `&*E` and `&E1[E2]` pass over their operand (6.5.3.2p3)
abbrev pub is_below_address : Typed → Option ℕ → Bool
is_below_address t None = false
is_below_address t (Some node) = is_address (kind_at t node)

abbrev pub is_passed : Typed → ℕ → Bool
is_passed t node = is_followed (kind_at t node) && is_below_address t (above_of t.nodes (length t.nodes) node)

abbrev pub is_run_kind : Kind → Bool
is_run_kind k = is_expression (form_of k) || is_statement k

abbrev pub is_reached : Typed → ℕ → Bool
is_reached t node = lives t node && (is_run_kind (kind_at t node) && not (is_passed t node))
