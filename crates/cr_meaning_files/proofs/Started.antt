-- Main gives an int, and has the parameters of 5.1.2.2.1.
use Rattle.std.proofs.Common.{◌≡◌, ℕ, true, List, Option, None, Some, length, slice_get, refl, sym, ap, ◌∙◌}
use Rattle.std.proofs.lemmas.Bool.{false≢true}
use Rattle.std.proofs.lemmas.Option.{slice_get_within}
use Rattle.cr_ints.specs.declared.kind.IntKind.TheVariants.{Int as IntegerKind}
use Rattle.cr_syntax.specs.declared.ctype.CType.{CType}
use Rattle.cr_syntax.specs.declared.ctype.CType.TheVariants.{Int}
use Rattle.cr_syntax.specs.declared.node.Kind.TheVariants as kind
use Rattle.cr_syntax.specs.declared.node.Node.{Node}
use Rattle.cr_check_enclosing.specs.Above.{above_of}
use Rattle.cr_check_types.specs.Types.{Qualified, plain, pointer, array}
use Rattle.cr_check_declarators.specs.Functions.{is_plain_int}
use Rattle.cr_typed.specs.declared.typed.Typed.{Typed}
use Rattle.cr_meaning.specs.declared.op.Form.TheVariants as form
use Rattle.cr_meaning.specs.declared.run.Limits.{Limits}
use Rattle.cr_meaning_operations.specs.Shapes.{form_by}
use Rattle.cr_meaning_operations.specs.Operations.{kind_if, kind_at}
use Rattle.cr_meaning_typing.specs.Sorts.Table.{result_of}
use Rattle.cr_meaning_declarations.proofs.NamesLemmas.Parents.{above_some}
use Rattle.cr_meaning_declarations.specs.Declared.Files.{IsUnitOfFile}
use Rattle.cr_meaning_declarations.proofs.DeclaredLemmas.Files.{has_unit}
use Rattle.cr_meaning_objects.proofs.ComposedLemmas.Told.{item_there}
use Rattle.cr_meaning_objects.specs.Mains.Laws.{IsMain}
use Rattle.cr_meaning_objects.proofs.MainsLemmas.Mains.{declared_so}
use Rattle.cr_meaning_files.specs.Reached.{is_definition}
use Rattle.cr_meaning_files.specs.Files.{judgement_of}
use Rattle.cr_meaning_files.proofs.Mains.{main_defined}
use Rattle.cr_meaning_files.proofs.Returns.{gives_is}
use Rattle.cr_meaning_files.proofs.Named.{plain_part}

int_form : (t : Typed) (type : Qualified) → is_plain_int type ≡ true → form_by t 0 type ≡ form.Number IntegerKind
int_form t (plain of c v) h = by of h
  where
    by : (of : CType) → is_plain_int (plain of c v) ≡ true → form_by t 0 (plain of c v) ≡ form.Number IntegerKind
    by (Int IntegerKind) h = refl
    by (Int k) h = absurd (false≢true h)
    by of h = absurd (false≢true h)
int_form t (pointer c v below) h = absurd (false≢true h)
int_form t (array n below) h = absurd (false≢true h)

module _ (file : List ℕ) (t : Typed) (it : IsUnitOfFile file t) where
  open has_unit file t it use {unit as u}

  record IsThere : Type 0 where
    node : Node
    at : slice_get t.nodes t.main ≡ Some node
    is : node.kind ≡ kind.FunctionDefinition

  there : IsThere
  there = by (slice_get t.nodes t.main) refl (main_defined file t it)
    where
      by : (o : Option Node) → slice_get t.nodes t.main ≡ o → kind_at t t.main ≡ kind.FunctionDefinition → IsThere
      by None at e = let never : kind.Break ≡ kind.FunctionDefinition = sym (ap kind_if at) ∙ e in absurd (cc never)
      by (Some n) at e = record { node = n; at = at; is = sym (ap kind_if at) ∙ e }

  -- no definition is a part of another node, so it is an external declaration
  pub definition_item : (d : ℕ) (n : Node) → slice_get t.nodes d ≡ Some n → n.kind ≡ kind.FunctionDefinition → (k : ℕ) × (slice_get t.items k ≡ Some d)
  definition_item d n at is = item_there t u d (slice_get_within t.nodes d n at) (by (above_of t.nodes (length t.nodes) d) refl)
    where
      by : (o : Option ℕ) → above_of t.nodes (length t.nodes) d ≡ o → o ≡ None
      by None e = refl
      by (Some a) e = absurd (false≢true (sym (plain_part file t it d a (above_some t u (length t.nodes) d a e)) ∙ ap is_definition (ap kind_if at ∙ is)))

  item : (k : ℕ) × (slice_get t.items k ≡ Some t.main)
  item = definition_item t.main there.node there.at there.is

  pub main_has : (limits : Limits) → IsMain file t it limits
  main_has limits = declared_so file t it limits item.0 item.1

  pub gives : Limits → result_of t (judgement_of file t it) (Some t.main) ≡ form.Number IntegerKind
  gives limits = ap (form_by t 0) (gives_is file t it t.main there.node there.at there.is) ∙ int_form t _ (main_has limits).gives
