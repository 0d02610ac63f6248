-- The kinds of nodes that are labels, and of those that name one.
use Rattle.std.specs.Prelude.{Bool, true, false}
use Rattle.cr_syntax.specs.declared.node.Kind.{Kind}
use Rattle.cr_syntax.specs.declared.node.Kind.TheVariants as kind

-- a `case`, a `default` or a label (6.8.1)
abbrev pub is_label : Kind → Bool
is_label kind.Case = true
is_label kind.Default = true
is_label kind.Label = true
is_label k = false

-- a `goto` (6.8.6.1)
abbrev pub is_goto : Kind → Bool
is_goto kind.Goto = true
is_goto k = false
