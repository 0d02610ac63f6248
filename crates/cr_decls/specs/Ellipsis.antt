-- The `...` of a function's own parameters.
use Rattle.std.specs.Prelude.{ℕ, ◌-◌, Option, None, Some}
use Rattle.cr_syntax.specs.declared.node.Kind.{Kind}
use Rattle.cr_syntax.specs.declared.node.Kind.TheVariants as kind
use Rattle.cr_syntax.specs.Trees.{Trees, none, node}
use Rattle.cr_decls.specs.declared.ellipsis.Built.{Built}
use Rattle.cr_decls.specs.declared.ellipsis.Built.TheVariants.{Function, Derived, Name}

-- what a declarator of some kind is built on
abbrev pub built_of : Kind → Built
built_of kind.FunctionDeclarator = Function
built_of kind.GroupDeclarator = Derived
built_of kind.PointerDeclarator = Derived
built_of kind.ArrayDeclarator = Derived
built_of _ = Name

-- the last token of a list of parameters, where it is `...`
abbrev pub ellipsis_at : Kind → ℕ → Option ℕ
ellipsis_at kind.VariadicParameters last = Some last
ellipsis_at _ last = None

abbrev pub ellipsis_of : Trees → Option ℕ
ellipsis_of none = None
ellipsis_of (node k i j a n) = ellipsis_at k (j - 1)
