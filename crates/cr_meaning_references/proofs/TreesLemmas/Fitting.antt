-- Which kinds of nodes stand in declarations and type names (C11 6.7): tables of the grammar.
use Rattle.std.proofs.Common.{◌≡◌, ℕ, zero, suc, ◌<◌, true, false, ◌||◌, not, Some, nat_lt, refl, sym, ap, ◌∙◌, arith}
use Rattle.std.proofs.lemmas.Bool.{false≢true}
use Rattle.cr_syntax.specs.declared.node.Kind.{Kind}
use Rattle.cr_syntax.specs.declared.node.Kind.TheVariants as kind
use Rattle.cr_syntax.specs.declared.part.Part.TheVariants as part
use Rattle.cr_syntax.specs.Tables.{rule_of, side_of}
use Rattle.cr_syntax_nodes.specs.Nodes.{least, most}
use Rattle.cr_syntax_nodes.specs.Laid.{stands_for}
use Rattle.cr_check_expressions.specs.Forms.{form_of}
use Rattle.cr_check_declarations.specs.Named.{is_declarator, is_initialised, declares_name}
use Rattle.cr_check_declarations.specs.Faults.{is_specifier}
use Rattle.cr_meaning_types.specs.Known.Shaped.{is_single, is_member_declaration, is_parameter_kind, is_parameter_list, is_type_name, fits, is_filled}
use Rattle.cr_meaning_types.proofs.KnownLemmas.Reading.{row}
use Rattle.cr_meaning_typing.specs.Typed.Typing.{is_expression}
use Rattle.cr_meaning_references.proofs.TreesLemmas.Grammar.{part_in, Stands}
use Rattle.cr_meaning_references.proofs.TreesLemmas.Expressions.{is_jump, expressions_stand}

specifiers : (k : Kind) → (not (stands_for part.Specifiers k) || is_specifier k) ≡ true
unfolding rule_of
specifiers kind.Const = refl
specifiers k = refl

plain_specifiers : (k : Kind) → (not (stands_for part.PlainSpecifiers k) || is_specifier k) ≡ true
unfolding rule_of
plain_specifiers kind.Const = refl
plain_specifiers k = refl

specifier : (k : Kind) → (not (stands_for part.Specifier k) || is_single k) ≡ true
unfolding rule_of
specifier kind.Const = refl
specifier k = refl

plain_specifier : (k : Kind) → (not (stands_for part.Plain k) || is_single k) ≡ true
unfolding rule_of
plain_specifier kind.Const = refl
plain_specifier k = refl

declarators : (k : Kind) → (not (stands_for part.Declarator k) || is_declarator k) ≡ true
unfolding rule_of
declarators kind.NameDeclarator = refl
declarators k = refl

direct_declarators : (k : Kind) → (not (stands_for part.DirectDeclarator k) || is_declarator k) ≡ true
unfolding rule_of
direct_declarators kind.NameDeclarator = refl
direct_declarators k = refl

member_declarators : (k : Kind) → (not (stands_for part.MemberDeclarator k) || is_declarator k) ≡ true
unfolding rule_of
member_declarators kind.NameDeclarator = refl
member_declarators k = refl

parameter_declarators : (k : Kind) → (not (stands_for part.ParameterDeclarator k) || is_declarator k) ≡ true
unfolding rule_of
parameter_declarators kind.NameDeclarator = refl
parameter_declarators k = refl

abstract_declarators : (k : Kind) → (not (stands_for part.Abstract k) || is_declarator k) ≡ true
unfolding rule_of
abstract_declarators kind.AbstractPointer = refl
abstract_declarators k = refl

direct_abstracts : (k : Kind) → (not (stands_for part.DirectAbstract k) || is_declarator k) ≡ true
unfolding rule_of
direct_abstracts kind.AbstractGroup = refl
direct_abstracts k = refl

member_declarations : (k : Kind) → (not (stands_for part.MemberDeclaration k) || is_member_declaration k) ≡ true
unfolding rule_of
member_declarations kind.MemberDeclaration = refl
member_declarations k = refl

parameters : (k : Kind) → (not (stands_for part.Parameter k) || is_parameter_kind k) ≡ true
unfolding rule_of
parameters kind.Parameter = refl
parameters k = refl

parameter_lists : (k : Kind) → (not (stands_for part.Parameters k) || is_parameter_list k) ≡ true
unfolding rule_of
parameter_lists kind.Parameters = refl
parameter_lists k = refl

type_names : (k : Kind) → (not (stands_for part.TypeName k) || is_type_name k) ≡ true
unfolding rule_of
type_names kind.TypeName = refl
type_names k = refl

conditionals : (k : Kind) → stands_for part.Conditional k ≡ true → is_expression (form_of k) ≡ true
conditionals k h = expressions_stand part.Conditional k refl h

-- what stands in a place fits there
pub fitting : (c : Kind) (place : ℕ) (own : Kind) → Stands (part_in (side_of c) place) own → fits c place own ≡ true
unfolding rule_of
fitting kind.FunctionDefinition zero own h = row _ _ (specifiers own) h
fitting kind.Declaration zero own h = row _ _ (specifiers own) h
fitting kind.MemberDeclaration zero own h = row _ _ (plain_specifiers own) h
fitting kind.Parameter zero own h = row _ _ (specifiers own) h
fitting kind.TypeName zero own h = row _ _ (plain_specifiers own) h
fitting kind.FunctionDefinition (suc zero) own h = row _ _ (declarators own) h
fitting kind.MemberDeclaration (suc k) own h = row _ _ (member_declarators own) h
fitting kind.Parameter (suc zero) own h = row _ _ (parameter_declarators own) h
fitting kind.TypeName (suc zero) own h = row _ _ (abstract_declarators own) h
fitting kind.InitDeclarator zero own h = row _ _ (declarators own) h
fitting kind.PointerDeclarator zero own h = row _ _ (declarators own) h
fitting kind.GroupDeclarator zero own h = row _ _ (declarators own) h
fitting kind.ArrayDeclarator zero own h = row _ _ (direct_declarators own) h
fitting kind.FunctionDeclarator zero own h = row _ _ (direct_declarators own) h
fitting kind.AbstractPointer zero own h = row _ _ (abstract_declarators own) h
fitting kind.AbstractGroup zero own h = row _ _ (abstract_declarators own) h
fitting kind.AbstractArrayOf zero own h = row _ _ (direct_abstracts own) h
fitting kind.ArrayDeclarator (suc zero) own h = conditionals own h
fitting kind.AbstractArrayOf (suc zero) own h = conditionals own h
fitting kind.AbstractArray zero own h = conditionals own h
fitting kind.Enumerator zero own h = conditionals own h
fitting kind.FunctionDeclarator (suc zero) own h = row _ _ (parameter_lists own) h
fitting kind.Parameters zero own h = row _ _ (parameters own) h
fitting kind.Parameters (suc k) own h = row _ _ (parameters own) h
fitting kind.VariadicParameters k own h = row _ _ (parameters own) h
fitting kind.Specifiers zero own h = row _ _ (specifier own) h
fitting kind.Specifiers (suc zero) own h = row _ _ (specifier own) h
fitting kind.Specifiers (suc (suc k)) own h = row _ _ (specifier own) h
fitting kind.PlainSpecifiers zero own h = row _ _ (plain_specifier own) h
fitting kind.PlainSpecifiers (suc zero) own h = row _ _ (plain_specifier own) h
fitting kind.PlainSpecifiers (suc (suc k)) own h = row _ _ (plain_specifier own) h
fitting kind.StructContent zero own h = row _ _ (member_declarations own) h
fitting kind.StructContent (suc k) own h = row _ _ (member_declarations own) h
fitting kind.Cast zero own h = row _ _ (type_names own) h
fitting kind.SizeofType zero own h = row _ _ (type_names own) h
fitting c place own h = refl

-- places that are never empty
pub filling : (c : Kind) (place : ℕ) → is_filled c place ≡ true → (is_jump c ≡ false) × (nat_lt place (least (side_of c)) ≡ true)
unfolding rule_of
filling kind.FunctionDefinition zero e = (refl, refl)
filling kind.Declaration zero e = (refl, refl)
filling kind.MemberDeclaration zero e = (refl, refl)
filling kind.Parameter zero e = (refl, refl)
filling kind.Parameter (suc zero) e = (refl, refl)
filling kind.TypeName zero e = (refl, refl)
filling kind.TypeName (suc zero) e = (refl, refl)
filling kind.InitDeclarator zero e = (refl, refl)
filling kind.Cast zero e = (refl, refl)
filling kind.SizeofType zero e = (refl, refl)
filling c place e = absurd (false≢true e)

-- a declarator is no specifier
names_apart : (k : Kind) → (not (is_specifier k) || not (declares_name k)) ≡ true
names_apart kind.Const = refl
names_apart k = refl

pub apart : (k : Kind) → is_specifier k ≡ true → declares_name k ≡ true → ⊥
apart k e f = false≢true (sym (ap not f) ∙ row _ _ (names_apart k) e)

-- an initialised declarator stands in no other
initialisers : (k : Kind) → (not (stands_for part.Initializer k) || not (is_initialised (Some k))) ≡ true
unfolding rule_of
initialisers kind.InitDeclarator = refl
initialisers k = refl

not_initialised : (k : Kind) → (not (is_declarator k) || not (is_initialised (Some k))) ≡ true
not_initialised kind.InitDeclarator = refl
not_initialised k = refl

pub inner_apart : (place : ℕ) (own : Kind) → place < 2 → Stands (part_in (side_of kind.InitDeclarator) place) own → is_initialised (Some own) ≡ true → ⊥
unfolding rule_of
inner_apart zero own low h e = false≢true (sym (ap not e) ∙ row _ _ (not_initialised own) (row _ _ (declarators own) h))
inner_apart (suc zero) own low h e = false≢true (sym (ap not e) ∙ row _ _ (initialisers own) h)
inner_apart (suc (suc k)) own low h e = absurd (omega (arith, low))

pub initialised_counts : most (side_of kind.InitDeclarator) ≡ Some 2
unfolding rule_of
initialised_counts = refl
