-- Structures and enumerators (C11 6.7.2.1, 6.7.2.2).
use Rattle.std.specs.Prelude.{ℕ, List, Bool, false, Option, None, Some, slice_get}
use Rattle.cr_syntax.specs.declared.node.Kind.{Kind}
use Rattle.cr_syntax.specs.declared.node.Kind.TheVariants as kind
use Rattle.cr_syntax.specs.declared.node.Node.{Node}
use Rattle.cr_check_types.specs.declared.layout.Layout.{Layout}
use Rattle.cr_check_types.specs.Types.{Qualified}
use Rattle.cr_check_types.specs.Layouts as layouts
use Rattle.cr_check_operands.specs.Values.{Seen}
use Rattle.cr_check_expressions.specs.Ruled.{is_typed}
use Rattle.cr_check_declarators.specs.declared.enumerators.Enumerated.{Enumerated}
use Rattle.cr_check_declarators.specs.declared.enumerators.Given.{Given}
use Rattle.cr_check_declarators.specs.declared.enumerators.Given.TheVariants as given
use Rattle.cr_check_declarators.specs.Structures.{laid_out, has_constant, enumerated_of}
use Rattle.cr_check_declarations.specs.Before.{Before, enumerated_in}

-- by the types of its members
abbrev pub layout_by : Kind → Before → List Qualified → Layout
layout_by kind.StructContent b members = laid_out b.layouts members
layout_by k b members = layouts.nothing

abbrev pub fixed_by : Kind → Before → List Qualified → Bool
fixed_by kind.StructContent b members = has_constant b.fixed members
fixed_by k b members = false

-- what an enumerator is given
abbrev pub given_by : Seen → Given
given_by seen = elim (is_typed seen) [ false ↦ given.Untyped | Bool.true ↦ given.Expression seen.constant ]

abbrev pub given_in : (ℕ → Seen) → Option ℕ → Given
given_in at None = given.Nothing
given_in at (Some part) = given_by (at part)

-- by the enumerator before it
abbrev pub enumerator_by : Kind → Before → Option ℕ → Node → Option Enumerated
enumerator_by kind.Enumerator b previous n = Some (enumerated_of (enumerated_in b.enumerated previous) (given_in b.seen (slice_get n.parts 0)))
enumerator_by k b previous n = None
