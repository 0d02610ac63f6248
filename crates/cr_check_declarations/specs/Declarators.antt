-- What a declarator has, and what it derives from the name outwards (C11 6.7.6, 6.7.7).
use Rattle.std.specs.Prelude.{ℕ, zero, suc, ◌+◌, ◌-◌, List, false, not, Option, None, Some, codes, slice_get, if◌then◌else◌}
use Rattle.std.specs.Option.{is_some}
use Rattle.std.specs.Str.{bytes_eq}
use Rattle.cr_syntax.specs.declared.node.Kind.{Kind}
use Rattle.cr_syntax.specs.declared.node.Kind.TheVariants as kind
use Rattle.cr_syntax.specs.declared.node.Node.{Node}
use Rattle.cr_check_types.specs.Types.{Qualified, plain, pointer, array, unknown}
use Rattle.cr_check_operands.specs.Values.{Seen}
use Rattle.cr_check_expressions.specs.Ruled.{is_typed}
use Rattle.cr_check_declarators.specs.declared.declarator.Size.{Size}
use Rattle.cr_check_declarators.specs.declared.declarator.Size.TheVariants as size
use Rattle.cr_check_declarators.specs.declared.declarator.Declarator.{Declarator}
use Rattle.cr_check_declarators.specs.Specifiers.{first_of}
use Rattle.cr_check_declarators.specs.Declarators.{name_alone, hole, is_hole_type, size_of, pointer_of, array_of, function_of}
use Rattle.cr_check_declarations.specs.Before.{Before, first_in, declarator_in}

-- ---- the qualifiers behind a star

-- the first of so many tokens from one on that is spelled so
abbrev pub first_spelled : (ℕ → List ℕ) → List ℕ → ℕ → ℕ → Option ℕ
first_spelled spelling word from zero = None
first_spelled spelling word from (suc n) =
    first_of (first_spelled spelling word from n) (if bytes_eq (spelling (from + n)) word then Some (from + n) else None)

-- they stand before the declarator that is behind the star, or up to the end
abbrev pub star_ends : List Node → Node → Option ℕ → ℕ
star_ends nodes n None = n.last + 1
star_ends nodes n (Some part) = first_in nodes (Some part)

abbrev pub star_has : (ℕ → List ℕ) → List ℕ → List Node → Node → Option ℕ
star_has spelling word nodes n = first_spelled spelling word (n.first + 1) (star_ends nodes n (slice_get n.parts 0) - (n.first + 1))

-- ---- the size between brackets

abbrev pub size_in : (ℕ → Seen) → Option ℕ → Size
size_in at None = size.Open
size_in at (Some part) = size_of (is_typed (at part)) (at part).constant

-- an array without size has an unknown one; what has none because its size is wrong counts as complete, since it is no type
abbrev pub count_of : Size → ℕ
count_of (size.Known count) = count
count_of size.Open = 0
count_of other = 1

-- the left bracket stands before the size, or before the right bracket
abbrev pub bracket_before : List Node → Node → Option ℕ → ℕ
bracket_before nodes n None = n.last - 1
bracket_before nodes n (Some part) = first_in nodes (Some part) - 1

-- ---- what a declarator derives

-- of an abstract declarator without an inner one nothing is derived yet
abbrev pub inner_derived : Before → Option ℕ → Qualified
inner_derived b None = hole
inner_derived b (Some part) = b.derived part

abbrev pub pointed_by : (ℕ → List ℕ) → List Node → Node → Qualified → Qualified
pointed_by spelling nodes n inner =
    pointer (is_some (star_has spelling (codes "const") nodes n)) (is_some (star_has spelling (codes "volatile") nodes n)) inner

abbrev pub sized_by : Before → Option ℕ → Qualified → Qualified
sized_by b part inner = array (count_of (size_in b.seen part)) inner

-- Behind a function declarator what is derived is derived for its result. Where that is not next to the name, what was derived so far is
-- of functions, and breaks K8; then a pointer stands in its place, since it has no elements either.
abbrev pub resulting : Qualified → Qualified
resulting (plain of c v) = plain of c v
resulting (pointer c v t) = pointer false false (pointer c v t)
resulting (array n t) = pointer false false (array n t)

abbrev pub derived_by : Kind → (ℕ → List ℕ) → List Node → Before → Node → Qualified
derived_by kind.NameDeclarator spelling nodes b n = hole
derived_by kind.GroupDeclarator spelling nodes b n = inner_derived b (slice_get n.parts 0)
derived_by kind.AbstractGroup spelling nodes b n = inner_derived b (slice_get n.parts 0)
derived_by kind.FunctionDeclarator spelling nodes b n = resulting (inner_derived b (slice_get n.parts 0))
derived_by kind.PointerDeclarator spelling nodes b n = pointed_by spelling nodes n (inner_derived b (slice_get n.parts 0))
derived_by kind.AbstractPointer spelling nodes b n = pointed_by spelling nodes n (inner_derived b (slice_get n.parts 0))
derived_by kind.ArrayDeclarator spelling nodes b n = sized_by b (slice_get n.parts 1) (inner_derived b (slice_get n.parts 0))
derived_by kind.AbstractArrayOf spelling nodes b n = sized_by b (slice_get n.parts 1) (inner_derived b (slice_get n.parts 0))
derived_by kind.AbstractArray spelling nodes b n = sized_by b (slice_get n.parts 0) hole
derived_by k spelling nodes b n = unknown

-- ---- what it has

abbrev pub star_of : (ℕ → List ℕ) → List Node → Before → Node → Declarator
star_of spelling nodes b n = pointer_of (declarator_in b.declarator (slice_get n.parts 0)) (star_has spelling (codes "volatile") nodes n)

abbrev pub brackets_of : List Node → Before → Node → Option ℕ → Declarator → Declarator
brackets_of nodes b n part inner = array_of inner (bracket_before nodes n part) (size_in b.seen part)

-- an initialised declarator has what its declarator has
abbrev pub declarator_by : Kind → (ℕ → List ℕ) → List Node → Before → ℕ → Node → Declarator
declarator_by kind.GroupDeclarator spelling nodes b i n = declarator_in b.declarator (slice_get n.parts 0)
declarator_by kind.AbstractGroup spelling nodes b i n = declarator_in b.declarator (slice_get n.parts 0)
declarator_by kind.InitDeclarator spelling nodes b i n = declarator_in b.declarator (slice_get n.parts 0)
declarator_by kind.PointerDeclarator spelling nodes b i n = star_of spelling nodes b n
declarator_by kind.AbstractPointer spelling nodes b i n = star_of spelling nodes b n
declarator_by kind.ArrayDeclarator spelling nodes b i n =
    brackets_of nodes b n (slice_get n.parts 1) (declarator_in b.declarator (slice_get n.parts 0))
declarator_by kind.AbstractArrayOf spelling nodes b i n =
    brackets_of nodes b n (slice_get n.parts 1) (declarator_in b.declarator (slice_get n.parts 0))
declarator_by kind.AbstractArray spelling nodes b i n = brackets_of nodes b n (slice_get n.parts 0) name_alone
declarator_by kind.FunctionDeclarator spelling nodes b i n =
    function_of (declarator_in b.declarator (slice_get n.parts 0)) (is_hole_type (inner_derived b (slice_get n.parts 0))) i
    (not (is_some (slice_get n.parts 1)))
declarator_by k spelling nodes b i n = name_alone
