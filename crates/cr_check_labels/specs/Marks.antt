-- The mark of a `case`, a `default` or a label, which none of its `switch` or its function may repeat.
use Rattle.std.specs.Prelude.{ℕ, ℤ, List, [], Option, None, Some, slice_get}
use Rattle.cr_ints.specs.Conversions.{promote_of}
use Rattle.cr_check_constants.specs.declared.constant.Constant.{Constant}
use Rattle.cr_check_constants.specs.declared.constant.Constant.TheVariants.{NotConstant, Undefined, Value}
use Rattle.cr_check_constants.specs.Operators.{cast_of}
use Rattle.cr_syntax.specs.declared.node.Kind.{Kind}
use Rattle.cr_syntax.specs.declared.node.Kind.TheVariants as kind
use Rattle.cr_syntax.specs.declared.node.Node.{Node}
use Rattle.cr_syntax.specs.Numbered.{parts_if}
use Rattle.cr_check_operands.specs.Values.{Valued, number, value_of_seen}
use Rattle.cr_check_expressions.specs.Ruled.{value}
use Rattle.cr_check_labels.specs.Labelled.{Scene}

abbrev pub constant_value : Constant → Option ℤ
constant_value NotConstant = None
constant_value Undefined = None
constant_value (Value v) = Some v

-- a case constant is converted to the promoted type of the controlling expression (6.8.4.2p5); without types there is none
abbrev pub value_for : Valued → Valued → Option ℤ
value_for (number control) (number label) = constant_value (cast_of (promote_of control.kind) label.constant).constant
value_for control label = None

-- the value of the controlling expression of a `switch`
abbrev pub control_of : Scene → ℕ → Valued
control_of s switch = value s.at (parts_if (slice_get s.nodes switch)) 0

abbrev pub with_value : ℕ → Option ℤ → Option (ℕ × ℤ)
with_value owner None = None
with_value owner (Some v) = Some (owner, v)

abbrev pub case_in : Scene → Option ℕ → Node → Option (ℕ × ℤ)
case_in s None n = None
case_in s (Some switch) n = with_value switch (value_for (control_of s switch) (value s.at n.parts 0))

abbrev pub case_by : Kind → Scene → ℕ → Node → Option (ℕ × ℤ)
case_by kind.Case s i n = case_in s (s.around i).switch n
case_by k s i n = None

abbrev pub case_if : Option Node → Scene → ℕ → Option (ℕ × ℤ)
case_if None s i = None
case_if (Some n) s i = case_by n.kind s i n

-- a `case` by its `switch` and its value
abbrev pub case_at : Scene → ℕ → Option (ℕ × ℤ)
case_at s i = case_if (slice_get s.nodes i) s i

abbrev pub default_by : Kind → Scene → ℕ → Option ℕ
default_by kind.Default s i = (s.around i).switch
default_by k s i = None

abbrev pub default_if : Option Node → Scene → ℕ → Option ℕ
default_if None s i = None
default_if (Some n) s i = default_by n.kind s i

-- a `default` by its `switch`
abbrev pub default_at : Scene → ℕ → Option ℕ
default_at s i = default_if (slice_get s.nodes i) s i

abbrev pub named_in : Option ℕ → ℕ → Option (ℕ × ℕ)
named_in None name = None
named_in (Some owner) name = Some (owner, name)

abbrev pub label_by : Kind → Scene → Option ℕ → Node → Option (ℕ × ℕ)
label_by kind.Label s owner n = named_in owner (s.name n.first)
label_by k s owner n = None

abbrev pub label_if : Option Node → Scene → Option ℕ → Option (ℕ × ℕ)
label_if None s owner = None
label_if (Some n) s owner = label_by n.kind s owner n

-- a label by its function and its name
abbrev pub label_at : Scene → ℕ → Option (ℕ × ℕ)
label_at s i = label_if (slice_get s.nodes i) s (s.around i).function
