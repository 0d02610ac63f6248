-- How reading goes from a part to the kind of a node that stands for it.
use Rattle.std.specs.Prelude.{Bool, if◌then◌else◌}
use denote.Enum.Bare.{sameb}
use Rattle.cr_syntax.specs.contracts.part.Part as part_type
use Rattle.cr_syntax.specs.declared.node.Kind.{Kind}
use Rattle.cr_syntax.specs.declared.part.Part.{Part}
use Rattle.cr_syntax.specs.declared.part.Part.TheVariants as part
use Rattle.cr_syntax.specs.Tables.{part_of}

-- how a node of some kind can stand for a part
pub data Link : Type 0 where
  -- by an alternative of the part itself
  Makes : Link
  -- as another part, which is an alternative alone
  Chains : Part → Link
  -- as a declarator whose name enters its scope
  Enters : Link
  -- as a declarator whose name enters no scope
  Drops : Link
  -- in no way
  Refuses : Link

abbrev pub same_part : Part → Part → Bool
same_part p q = sameb part_type.the_type p q

-- how a node that is an alternative of q stands for another part p
abbrev pub step_past : Part → Part → Link
step_past part.External q = Chains part.Declaration
step_past part.InitDeclarator q = Enters
step_past part.Initializer q = Chains part.Assignment
step_past part.Specifiers q = Chains part.Specifier
step_past part.Specifier q = Chains part.Plain
step_past part.PlainSpecifiers q = Chains part.Plain
step_past part.MemberDeclarator q = Drops
step_past part.Declarator q = Chains part.DirectDeclarator
step_past part.Parameters q = Chains part.Parameter
step_past part.Parameter q = Chains part.Specifiers
step_past part.ParameterDeclarator part.Abstract = Chains part.Abstract
step_past part.ParameterDeclarator part.DirectAbstract = Chains part.Abstract
step_past part.ParameterDeclarator _ = Enters
step_past part.Abstract q = Chains part.DirectAbstract
step_past part.TypeName q = Chains part.PlainSpecifiers
step_past part.BlockItem part.Declaration = Chains part.Declaration
step_past part.BlockItem _ = Chains part.Statement
step_past part.Statement q = Chains part.Compound
step_past part.Expression q = Chains part.Assignment
step_past part.Assignment q = Chains part.Conditional
step_past part.Conditional q = Chains part.LogicalOr
step_past part.LogicalOr q = Chains part.LogicalAnd
step_past part.LogicalAnd q = Chains part.Or
step_past part.Or q = Chains part.Xor
step_past part.Xor q = Chains part.And
step_past part.And q = Chains part.Equality
step_past part.Equality q = Chains part.Relational
step_past part.Relational q = Chains part.Shift
step_past part.Shift q = Chains part.Additive
step_past part.Additive q = Chains part.Multiplicative
step_past part.Multiplicative q = Chains part.Cast
step_past part.Cast q = Chains part.Unary
step_past part.Unary q = Chains part.Postfix
step_past part.Postfix q = Chains part.Primary
step_past _ q = Refuses

abbrev pub link_of : Part → Part → Link
link_of p q = if same_part q p then Makes else step_past p q

-- how a node of kind k stands for a part
abbrev pub step_of : Part → Kind → Link
step_of p k = link_of p (part_of k)
