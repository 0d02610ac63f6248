-- A unit has one typed unit: two checks of it, or of units with the same lists, say the same of each node.
use Rattle.std.proofs.Common.{◌≡◌, ℕ, Bool, List, [], Some, length, slice_index_or, refl, sym, ap, subst, ◌∙◌}
use Rattle.std.proofs.lemmas.List.{ext_get_or}
use Rattle.cr_syntax.specs.declared.unit.Unit as source
use Rattle.cr_scopes.specs.declared.names.Names.{Names}
use Rattle.cr_check_types.specs.declared.shape.Shape.{Shape}
use Rattle.cr_check_types.specs.Layouts as layouts
use Rattle.cr_typed.specs.declared.typed.Typed.{Typed}
use Rattle.cr_check_declarators.specs.Specifiers.{nothing}
use Rattle.cr_check_declarators.specs.Declarators.{name_alone}
use Rattle.cr_check_expressions.specs.declared.known.Declared.{Declared}
use Rattle.cr_check_expressions.specs.declared.known.Declared.TheVariants.{Object, Enumerator, Function, TypeName, Unclear}
use Rattle.cr_check_expressions.specs.Known.{Meaning, an_object, a_function, meaning_at}
use Rattle.cr_check_declarations.specs.declared.tree.Tree.{Tree}
use Rattle.cr_check_declarations.specs.Faults.{Has}
use Rattle.cr_check_initialised.specs.Durations.{is_static}
use Rattle.cr_check_unit.proofs.OneTyping.{one_typing}
use Rattle.cr_check_unit.proofs.OneBreak.{same_scenes}
use Rattle.cr_typed_columns.specs.declared.checked.CheckedColumns.{CheckedColumns}
use Rattle.cr_typed_columns.specs.Reading.{parsed_of}
use Rattle.cr_typed_columns.specs.Rows.{listed}
use Rattle.cr_typed_columns.specs.Columns.{IsElaborated}
use Rattle.cr_typed_columns.proofs.Alike.{one_typed}
use Rattle.cr_check.specs.declared.checked.Checked.{Checked}
use Rattle.cr_check.specs.Columns.{IsChecked}
use Rattle.cr_check.specs.Laws.{AreSameLists}
use Rattle.cr_check.proofs.SameTrees.{static_moved}
use Rattle.cr_check.proofs.Units.{checked_carried}
use Rattle.cr_check.proofs.Verdicts.{second_carried}
use Rattle.cr_typed_unit.specs.Typed.{AreColumnsOf, IsTypedBy}
use Rattle.cr_typed_unit.specs.Laws.{OneTypedUnit}
use Rattle.cr_typed_unit.proofs.SameValues.{Values, values_of, Sort, object_sort, function_sort, other_sort, sort_of, AreSame, same_alike}

-- ---- what a name stands for

abbrev sort_in : Meaning → Sort
sort_in (an_object type register) = object_sort
sort_in (a_function signature) = function_sort
sort_in m = other_sort

sort_meant : (shapes : List Shape) (rows : List ℕ) (d : Declared) → sort_of d ≡ sort_in (meaning_at shapes rows d)
sort_meant shapes rows (Object row register) = refl
sort_meant shapes rows (Enumerator value) = refl
sort_meant shapes rows (Function row more) = refl
sort_meant shapes rows TypeName = refl
sort_meant shapes rows Unclear = refl

sorts_alike : (shapes later : List Shape) (rows others : List ℕ) (d e : Declared) → meaning_at shapes rows d ≡ meaning_at later others e
    → sort_of d ≡ sort_of e
sorts_alike shapes later rows others d e same = sort_meant shapes rows d ∙ ap sort_in same ∙ sym (sort_meant later others e)

-- ---- columns by what they were checked

abbrev statics_of : Tree → Checked → List Bool
statics_of t a = listed (λ i. is_static t (λ p. slice_index_or a.whole.typing.specified p nothing) (Some i)) (length t.nodes.now)

abbrev checked_values : Names → Checked → Tree → Values
checked_values names a t = record {
  table = a.table;
  names = names;
  spellings = a.surroundings.bindings.spellings;
  declarers = a.surroundings.bindings.declarers;
  above = a.surroundings.above;
  around = a.surroundings.around;
  facts = a.whole.typing.facts;
  specified = a.whole.typing.specified;
  declarators = a.whole.typing.declarators;
  named = a.whole.typing.named;
  declared = a.whole.typing.declared;
  composites = a.whole.typing.composites;
  statics = statics_of t a;
  members = a.whole.typing.members;
  layouts = a.whole.typing.layouts;
  lines = a.whole.typing.lines;
  results = a.whole.marked.results;
  labels = a.whole.marked.labels;
}

values_are : (names : Names) (a : Checked) (t : Tree) (j : CheckedColumns) → AreColumnsOf names a t j → values_of j ≡ checked_values names a t
values_are names a t j are = λ x. record {
  table = are.table x;
  names = are.names_are x;
  spellings = are.spellings x;
  declarers = are.declarers x;
  above = are.above x;
  around = are.around x;
  facts = are.facts x;
  specified = are.specified x;
  declarators = are.declarators x;
  named = are.named x;
  declared = are.declared x;
  composites = are.composites x;
  statics = are.statics x;
  members = are.members x;
  layouts = are.layouts x;
  lines = are.lines x;
  results = are.results x;
  labels = are.labels x;
}

-- ---- two checks of a unit

checked_same : (file : List ℕ) (unit : source.Unit) (names : Names) (a b : Checked) (t s : Tree) → IsChecked file unit names a t
    → IsChecked file unit names b s → AreSame (checked_values names a t) (checked_values names b s)
checked_same file unit names a b t s h g =
    let c = second_carried file unit names a b t s h g in
    let around = c.surroundings in
    let typing = a.whole.typing in
    let other = b.whole.typing in
    let w = h.whole.typing.whole in
    let v = c.typing.whole in
    let alike = one_typing t a.texts a.table b.table typing other h.whole.typing c.typing in
    let scenes = same_scenes t a.texts a.table b.table typing other a.whole.marked b.whole.marked h.whole.typing c.typing h.whole.marked c.marked in
    let specified : typing.specified ≡ other.specified =
    ext_get_or nothing typing.specified other.specified (w.specified ∙ sym v.specified) (λ i low. ap (λ (own : Has). own.specified) (alike i).own) in
    let declarators : typing.declarators ≡ other.declarators =
    ext_get_or name_alone typing.declarators other.declarators (w.declarators ∙ sym v.declarators)
    (λ i low. ap (λ (own : Has). own.declarator) (alike i).own) in
    let laid : typing.layouts ≡ other.layouts =
    ext_get_or layouts.nothing typing.layouts other.layouts (w.layouts ∙ sym v.layouts) (λ i low. ap (λ (own : Has). own.layout) (alike i).own) in
    let static : statics_of s b ≡ listed (λ i. is_static t (λ p. slice_index_or other.specified p nothing) (Some i)) (length t.nodes.now) =
    λ x. listed (λ i. static_moved s t (λ p. slice_index_or other.specified p nothing) (Some i) c.tree x) (length (c.tree.nodes x)) in
    record {
      names = refl;
      spellings = λ x. (around x).bindings.spellings;
      declarers = λ x. (around x).bindings.declarers;
      above = λ x. (around x).above;
      around = λ x. (around x).around;
      specified = specified;
      declarators = declarators;
      statics = (λ x. listed (λ i. is_static t (λ p. slice_index_or (specified x) p nothing) (Some i)) (length t.nodes.now)) ∙ sym static;
      layouts = laid;
      labels = λ i. λ x. (scenes x).label i;
      none = h.whole.none ∙ sym g.whole.none;
      facts = λ i. (alike i).fact;
      named = λ i. ap (λ (own : Has). own.named) (alike i).own;
      sorts = λ i. sorts_alike a.table b.table (slice_index_or typing.parameters i []) (slice_index_or other.parameters i [])
          (slice_index_or typing.declared i Unclear) (slice_index_or other.declared i Unclear) (alike i).declared;
      composites = λ i. (alike i).composite;
      members = λ i. (alike i).members;
      count = w.lines ∙ sym v.lines;
      lines = λ i. (alike i).lines;
      results = λ i. λ x. (scenes x).gives (Some i);
    }

columns_same : (file : List ℕ) (unit : source.Unit) (names : Names) (a b : Checked) (t s : Tree) (j k : CheckedColumns) → IsChecked file unit names a t
    → IsChecked file unit names b s → AreColumnsOf names a t j → AreColumnsOf names b s k → AreSame (values_of j) (values_of k)
columns_same file unit names a b t s j k h g are also =
    subst (λ v. AreSame v (values_of k)) (sym (values_are names a t j are))
    (subst (AreSame (checked_values names a t)) (sym (values_are names b s k also)) (checked_same file unit names a b t s h g))

-- ---- the law

by_columns : (file : List ℕ) (u v : source.Unit) (names : Names) (a b : Checked) (one other : Typed) → AreSameLists u v
    → IsTypedBy file u names a one → IsTypedBy file v names b other → one ≡ other
by_columns file u v names a b one other same h g =
    let t = h.tree in
    let s = g.tree in
    let unit = parsed_of v in
    let parsed : parsed_of u ≡ unit = λ x. record { tokens = same.tokens x; nodes = same.nodes x; items = same.items x } in
    let is = checked_carried u v same file names a t h.is in
    let texts : a.texts ≡ b.texts = sym (second_carried file v names a b t s is g.is).texts in
    let alike = same_alike h.columns g.columns (columns_same file v names a b t s h.columns g.columns is g.is h.are g.are) unit in
    one_typed file unit b.texts h.columns g.columns one other alike
    (subst (λ x. IsElaborated file unit x h.columns one) texts (subst (λ p. IsElaborated file p a.texts h.columns one) parsed h.elaborated)) g.elaborated

pub one_typed_unit : OneTypedUnit
one_typed_unit file u v names one other same h g = by_columns file u v names h.checked g.checked one other same h.by g.by
