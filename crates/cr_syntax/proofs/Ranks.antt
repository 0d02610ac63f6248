-- Chains of parts: how long they are, and what the steps of reading say of them.
use Rattle.std.proofs.Common.{◌≡◌, ℕ, ◌<◌, Bool, true, false, refl, ap, arith, lit<}
use denote.Enum.Bare.{true_same, false_same}
use Rattle.cr_syntax.specs.contracts.part.Part as part_type
use Rattle.cr_syntax.specs.declared.part.Part.{Part}
use Rattle.cr_syntax.specs.declared.part.Part.TheVariants as part
use Rattle.cr_syntax.specs.Chains.{Makes, Chains, Enters}
use Rattle.cr_syntax.specs.Grammar.{Chain}
use Rattle.cr_syntax.specs.Grammar as grammar
use Rattle.cr_syntax.specs.Chains.{link_of, step_past}
use Rattle.cr_syntax.specs.Reads.{most_links}

-- how many chains lead on from a part, at the most
abbrev pub rank : Part → ℕ
rank part.External = 2
rank part.Declaration = 1
rank part.InitDeclarator = 2
rank part.Initializer = 16
rank part.Specifiers = 2
rank part.Specifier = 1
rank part.PlainSpecifiers = 1
rank part.Plain = 0
rank part.MemberDeclaration = 0
rank part.MemberDeclarator = 2
rank part.Enumerator = 0
rank part.Declarator = 1
rank part.DirectDeclarator = 0
rank part.Parameters = 4
rank part.Parameter = 3
rank part.ParameterDeclarator = 2
rank part.Abstract = 1
rank part.DirectAbstract = 0
rank part.TypeName = 2
rank part.BlockItem = 2
rank part.Statement = 1
rank part.Compound = 0
rank part.Expression = 16
rank part.Assignment = 15
rank part.Conditional = 14
rank part.LogicalOr = 13
rank part.LogicalAnd = 12
rank part.Or = 11
rank part.Xor = 10
rank part.And = 9
rank part.Equality = 8
rank part.Relational = 7
rank part.Shift = 6
rank part.Additive = 5
rank part.Multiplicative = 4
rank part.Cast = 3
rank part.Unary = 2
rank part.Postfix = 1
rank part.Primary = 0

pub lower : {p q : Part} → Chain p q → rank q < rank p
lower grammar.external_declaration = lit< tt
lower grammar.initializer_expression = lit< tt
lower grammar.specifiers_one = lit< tt
lower grammar.specifier_plain = lit< tt
lower grammar.plain_one = lit< tt
lower grammar.declarator_direct = lit< tt
lower grammar.parameters_one = lit< tt
lower grammar.parameter_unnamed = lit< tt
lower grammar.parameter_abstract = lit< tt
lower grammar.abstract_direct = lit< tt
lower grammar.type_name_plain = lit< tt
lower grammar.item_declaration = lit< tt
lower grammar.item_statement = lit< tt
lower grammar.statement_compound = lit< tt
lower grammar.expression_assignment = lit< tt
lower grammar.assignment_conditional = lit< tt
lower grammar.conditional_binary = lit< tt
lower grammar.binary_14 = lit< tt
lower grammar.binary_13 = lit< tt
lower grammar.binary_12 = lit< tt
lower grammar.binary_11 = lit< tt
lower grammar.binary_10 = lit< tt
lower grammar.binary_9 = lit< tt
lower grammar.binary_8 = lit< tt
lower grammar.binary_7 = lit< tt
lower grammar.binary_6 = lit< tt
lower grammar.binary_5 = lit< tt
lower grammar.cast_unary = lit< tt
lower grammar.unary_postfix = lit< tt
lower grammar.postfix_primary = lit< tt

-- whether an alternative of q can stand for p, as far as the choices of reading need
abbrev pub under : Part → Part → Bool
under part.External q = true
under part.BlockItem q = true
under part.Declaration part.Declaration = true
under part.Declaration _ = false
under part.Abstract part.Abstract = true
under part.Abstract part.DirectAbstract = true
under part.Abstract _ = false
under part.DirectAbstract part.DirectAbstract = true
under part.DirectAbstract _ = false
under part.Declarator part.Declarator = true
under part.Declarator part.DirectDeclarator = true
under part.Declarator _ = false
under part.DirectDeclarator part.DirectDeclarator = true
under part.DirectDeclarator _ = false
under _ part.Declaration = false
under _ q = true

pub under_itself : (p : Part) → under p p ≡ true
under_itself part.External = refl
under_itself part.Declaration = refl
under_itself part.InitDeclarator = refl
under_itself part.Initializer = refl
under_itself part.Specifiers = refl
under_itself part.Specifier = refl
under_itself part.PlainSpecifiers = refl
under_itself part.Plain = refl
under_itself part.MemberDeclaration = refl
under_itself part.MemberDeclarator = refl
under_itself part.Enumerator = refl
under_itself part.Declarator = refl
under_itself part.DirectDeclarator = refl
under_itself part.Parameters = refl
under_itself part.Parameter = refl
under_itself part.ParameterDeclarator = refl
under_itself part.Abstract = refl
under_itself part.DirectAbstract = refl
under_itself part.TypeName = refl
under_itself part.BlockItem = refl
under_itself part.Statement = refl
under_itself part.Compound = refl
under_itself part.Expression = refl
under_itself part.Assignment = refl
under_itself part.Conditional = refl
under_itself part.LogicalOr = refl
under_itself part.LogicalAnd = refl
under_itself part.Or = refl
under_itself part.Xor = refl
under_itself part.And = refl
under_itself part.Equality = refl
under_itself part.Relational = refl
under_itself part.Shift = refl
under_itself part.Additive = refl
under_itself part.Multiplicative = refl
under_itself part.Cast = refl
under_itself part.Unary = refl
under_itself part.Postfix = refl
under_itself part.Primary = refl

pub under_past : {p q : Part} → Chain p q → (r : Part) → under q r ≡ true → under p r ≡ true
under_past grammar.external_declaration r u = refl
under_past grammar.item_declaration r u = refl
under_past grammar.item_statement r u = refl
under_past grammar.declarator_direct part.DirectDeclarator u = refl
under_past grammar.declarator_direct _ u = cc
under_past grammar.abstract_direct part.DirectAbstract u = refl
under_past grammar.abstract_direct _ u = cc
under_past grammar.parameter_abstract part.Declaration u = u
under_past grammar.parameter_abstract _ u = refl
under_past grammar.initializer_expression part.Declaration u = u
under_past grammar.initializer_expression _ u = refl
under_past grammar.specifiers_one part.Declaration u = u
under_past grammar.specifiers_one _ u = refl
under_past grammar.specifier_plain part.Declaration u = u
under_past grammar.specifier_plain _ u = refl
under_past grammar.plain_one part.Declaration u = u
under_past grammar.plain_one _ u = refl
under_past grammar.parameters_one part.Declaration u = u
under_past grammar.parameters_one _ u = refl
under_past grammar.parameter_unnamed part.Declaration u = u
under_past grammar.parameter_unnamed _ u = refl
under_past grammar.type_name_plain part.Declaration u = u
under_past grammar.type_name_plain _ u = refl
under_past grammar.statement_compound part.Declaration u = u
under_past grammar.statement_compound _ u = refl
under_past grammar.expression_assignment part.Declaration u = u
under_past grammar.expression_assignment _ u = refl
under_past grammar.assignment_conditional part.Declaration u = u
under_past grammar.assignment_conditional _ u = refl
under_past grammar.conditional_binary part.Declaration u = u
under_past grammar.conditional_binary _ u = refl
under_past grammar.binary_14 part.Declaration u = u
under_past grammar.binary_14 _ u = refl
under_past grammar.binary_13 part.Declaration u = u
under_past grammar.binary_13 _ u = refl
under_past grammar.binary_12 part.Declaration u = u
under_past grammar.binary_12 _ u = refl
under_past grammar.binary_11 part.Declaration u = u
under_past grammar.binary_11 _ u = refl
under_past grammar.binary_10 part.Declaration u = u
under_past grammar.binary_10 _ u = refl
under_past grammar.binary_9 part.Declaration u = u
under_past grammar.binary_9 _ u = refl
under_past grammar.binary_8 part.Declaration u = u
under_past grammar.binary_8 _ u = refl
under_past grammar.binary_7 part.Declaration u = u
under_past grammar.binary_7 _ u = refl
under_past grammar.binary_6 part.Declaration u = u
under_past grammar.binary_6 _ u = refl
under_past grammar.binary_5 part.Declaration u = u
under_past grammar.binary_5 _ u = refl
under_past grammar.cast_unary part.Declaration u = u
under_past grammar.cast_unary _ u = refl
under_past grammar.unary_postfix part.Declaration u = u
under_past grammar.unary_postfix _ u = refl
under_past grammar.postfix_primary part.Declaration u = u
under_past grammar.postfix_primary _ u = refl

-- the step from a part of the chain is the chain's
pub past_is : {p q : Part} → Chain p q → (r : Part) → under q r ≡ true → step_past p r ≡ Chains q
past_is grammar.item_declaration part.Declaration u = refl
past_is grammar.item_declaration _ u = cc
past_is grammar.item_statement part.Declaration u = cc
past_is grammar.item_statement _ u = refl
past_is grammar.parameter_abstract part.Abstract u = refl
past_is grammar.parameter_abstract part.DirectAbstract u = refl
past_is grammar.parameter_abstract _ u = cc
past_is grammar.external_declaration r u = refl
past_is grammar.initializer_expression r u = refl
past_is grammar.specifiers_one r u = refl
past_is grammar.specifier_plain r u = refl
past_is grammar.plain_one r u = refl
past_is grammar.declarator_direct r u = refl
past_is grammar.parameters_one r u = refl
past_is grammar.parameter_unnamed r u = refl
past_is grammar.abstract_direct r u = refl
past_is grammar.type_name_plain r u = refl
past_is grammar.statement_compound r u = refl
past_is grammar.expression_assignment r u = refl
past_is grammar.assignment_conditional r u = refl
past_is grammar.conditional_binary r u = refl
past_is grammar.binary_14 r u = refl
past_is grammar.binary_13 r u = refl
past_is grammar.binary_12 r u = refl
past_is grammar.binary_11 r u = refl
past_is grammar.binary_10 r u = refl
past_is grammar.binary_9 r u = refl
past_is grammar.binary_8 r u = refl
past_is grammar.binary_7 r u = refl
past_is grammar.binary_6 r u = refl
past_is grammar.binary_5 r u = refl
past_is grammar.cast_unary r u = refl
past_is grammar.unary_postfix r u = refl
past_is grammar.postfix_primary r u = refl

pub enters_is : (r : Part) → under part.Declarator r ≡ true → step_past part.ParameterDeclarator r ≡ Enters
enters_is part.Declarator u = refl
enters_is part.DirectDeclarator u = refl
enters_is _ u = cc

-- a declarator can stand for the parts that are declarators
pub member_up : (r : Part) → under part.Declarator r ≡ true → under part.MemberDeclarator r ≡ true
member_up part.Declaration u = u
member_up _ u = refl

pub init_up : (r : Part) → under part.Declarator r ≡ true → under part.InitDeclarator r ≡ true
init_up part.Declaration u = u
init_up _ u = refl

pub parameter_up : (r : Part) → under part.Declarator r ≡ true → under part.ParameterDeclarator r ≡ true
parameter_up part.Declaration u = u
parameter_up _ u = refl

pub differ : (p r : Part) → rank r < rank p → r ≡ p → ⊥
differ p r lt e = let h : rank r ≡ rank p = ap rank e in omega arith

pub link_past : (p r : Part) → (r ≡ p → ⊥) → link_of p r ≡ step_past p r
link_past p r f = rw (false_same part_type.the_type tt r p f) refl

pub link_makes : (p r : Part) → r ≡ p → link_of p r ≡ Makes
link_makes p r e = rw (true_same part_type.the_type r p e) refl

pub rank_small : (p : Part) → rank p < most_links
rank_small part.External = lit< tt
rank_small part.Declaration = lit< tt
rank_small part.InitDeclarator = lit< tt
rank_small part.Initializer = lit< tt
rank_small part.Specifiers = lit< tt
rank_small part.Specifier = lit< tt
rank_small part.PlainSpecifiers = lit< tt
rank_small part.Plain = lit< tt
rank_small part.MemberDeclaration = lit< tt
rank_small part.MemberDeclarator = lit< tt
rank_small part.Enumerator = lit< tt
rank_small part.Declarator = lit< tt
rank_small part.DirectDeclarator = lit< tt
rank_small part.Parameters = lit< tt
rank_small part.Parameter = lit< tt
rank_small part.ParameterDeclarator = lit< tt
rank_small part.Abstract = lit< tt
rank_small part.DirectAbstract = lit< tt
rank_small part.TypeName = lit< tt
rank_small part.BlockItem = lit< tt
rank_small part.Statement = lit< tt
rank_small part.Compound = lit< tt
rank_small part.Expression = lit< tt
rank_small part.Assignment = lit< tt
rank_small part.Conditional = lit< tt
rank_small part.LogicalOr = lit< tt
rank_small part.LogicalAnd = lit< tt
rank_small part.Or = lit< tt
rank_small part.Xor = lit< tt
rank_small part.And = lit< tt
rank_small part.Equality = lit< tt
rank_small part.Relational = lit< tt
rank_small part.Shift = lit< tt
rank_small part.Additive = lit< tt
rank_small part.Multiplicative = lit< tt
rank_small part.Cast = lit< tt
rank_small part.Unary = lit< tt
rank_small part.Postfix = lit< tt
rank_small part.Primary = lit< tt
