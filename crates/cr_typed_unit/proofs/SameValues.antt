-- Columns that say the same of each node, whatever tables their types stand in.
use Rattle.std.proofs.Common.{◌≡◌, ℕ, suc, ◌==◌, ◌&&◌, ◌||◌, not, Bool, true, false, List, [], ◌∷◌, Option, None, Some, length, map, slice_get, slice_index_or, if◌then◌else◌, option_to_list, refl, sym, ap, ◌∙◌, arith}
use Rattle.std.specs.List.{list_any, flat_map}
use Rattle.std.specs.Option.{is_some}
use Rattle.cr_syntax.specs.declared.ctype.CType.TheVariants as type
use Rattle.cr_syntax.specs.declared.node.Kind.{Kind}
use Rattle.cr_syntax.specs.declared.node.Kind.TheVariants as kind
use Rattle.cr_syntax.specs.declared.node.Node.{Node}
use Rattle.cr_scopes.specs.declared.names.Names.{Names}
use Rattle.cr_scopes_bindings.specs.Entities.{entity_if}
use Rattle.cr_check_enclosing.specs.declared.context.Around.{Around}
use Rattle.cr_check_enclosing.specs.declared.context.Place.{Place}
use Rattle.cr_check_enclosing.specs.Around.{outermost}
use Rattle.cr_check_types.specs.declared.layout.Layout.{Layout}
use Rattle.cr_check_types.specs.declared.shape.Shape.{Shape}
use Rattle.cr_check_types.specs.Types.{Qualified, plain, type_at}
use Rattle.cr_check_types.specs.Layouts as layouts
use Rattle.cr_typed.specs.declared.typed.Duration.{Duration}
use Rattle.cr_typed.specs.declared.typed.Duration.TheVariants as duration
use Rattle.cr_check_operands.specs.declared.fact.Fact.{Fact}
use Rattle.cr_check_operands.specs.Values.{seen_at}
use Rattle.cr_check_declarators.specs.declared.words.Specified.{Specified}
use Rattle.cr_check_declarators.specs.declared.declarator.Declarator.{Declarator}
use Rattle.cr_check_declarators.specs.Specifiers.{nothing}
use Rattle.cr_check_declarators.specs.Declarators.{name_alone}
use Rattle.cr_check_expressions.specs.declared.known.Declared.{Declared}
use Rattle.cr_check_expressions.specs.declared.known.Declared.TheVariants.{Object, Enumerator, Function, TypeName, Unclear}
use Rattle.cr_check_expressions.specs.declared.known.Member.{Member}
use Rattle.cr_check_expressions.specs.Ruled.{no_fact}
use Rattle.cr_check_expressions.specs.Used.{is_valued}
use Rattle.cr_check_initialisers.specs.declared.lines.Line.{Line}
use Rattle.cr_check_initialisers.specs.declared.lines.Line.TheVariants as line
use Rattle.cr_check_initialisers.specs.Plans.{Entry, put, excess, entries_of, puts_of}
use Rattle.cr_check_unit.specs.Laws.{member_at}
use Rattle.cr_typed_columns.specs.declared.checked.CheckedColumns.{CheckedColumns}
use Rattle.cr_typed_columns.specs.Reading.{Parsed, kind_of, part_of, entry_of}
use Rattle.cr_typed_columns.specs.Rows.{put_entry}
use Rattle.cr_typed_columns.specs.Entities.{named_token, last_of, entity_of, first_declared, last_declared, definition_of, is_definition, whole_of, declared_of, is_object, is_declaration, is_extern, is_open, keeps, kept_entity, is_kept}
use Rattle.cr_typed_columns.specs.Names.{mentioned_token, is_here, is_goto, ref_of, around_of, is_list, is_same, is_own, by_place, by_declared, duration_of, type_named, initialised_if, whole_if, composite_type, or_first, function_type, entity_type, name_type, named_by}
use Rattle.cr_typed_columns.specs.Functions.{parameter_name, parameter_nodes, function_of, parameters_of}
use Rattle.cr_typed_columns.specs.Expressions.{seen_of, value_in, is_array, fills_array, is_filling, form_if, is_part, valued_of, structure_by, number_of_name, last_if, chosen_of}
use Rattle.cr_typed_columns.specs.Columns.{is_structure, member_type, plan_entries}
use Rattle.cr_typed_columns.specs.Laws.{AreAlike}

-- ---- what was checked

-- the columns of a check, wherever they lie
pub record Values : Type 0 where
  pub table : List Shape
  pub names : Names
  pub spellings : List ℕ
  pub declarers : List (Option ℕ)
  pub above : List (Option ℕ)
  pub around : List Around
  pub facts : List Fact
  pub specified : List Specified
  pub declarators : List Declarator
  pub named : List ℕ
  pub declared : List Declared
  pub composites : List ℕ
  pub statics : List Bool
  pub members : List (List Member)
  pub layouts : List Layout
  pub lines : List (List Line)
  pub results : List ℕ
  pub labels : List (Option ℕ)

abbrev pub values_of : CheckedColumns → Values
values_of j = record {
  table = j.table.now;
  names = j.names.now;
  spellings = j.spellings.now;
  declarers = j.declarers.now;
  above = j.above.now;
  around = j.around.now;
  facts = j.facts.now;
  specified = j.specified.now;
  declarators = j.declarators.now;
  named = j.named.now;
  declared = j.declared.now;
  composites = j.composites.now;
  statics = j.statics.now;
  members = j.members.now;
  layouts = j.layouts.now;
  lines = j.lines.now;
  results = j.results.now;
  labels = j.labels.now;
}

-- what a name stands for, as far as its type and its duration hang on it
pub data Sort : Type 0 where
  object_sort : Sort
  function_sort : Sort
  other_sort : Sort

abbrev pub sort_of : Declared → Sort
sort_of (Object row register) = object_sort
sort_of (Function row more) = function_sort
sort_of d = other_sort

-- the same types, each by its own table, and the same of all else
pub record AreSame (v w : Values) : Type 0 where
  pub names : v.names ≡ w.names
  pub spellings : v.spellings ≡ w.spellings
  pub declarers : v.declarers ≡ w.declarers
  pub above : v.above ≡ w.above
  pub around : v.around ≡ w.around
  pub specified : v.specified ≡ w.specified
  pub declarators : v.declarators ≡ w.declarators
  pub statics : v.statics ≡ w.statics
  pub layouts : v.layouts ≡ w.layouts
  pub labels : (i : ℕ) → slice_index_or v.labels i None ≡ slice_index_or w.labels i None
  pub none : type_at v.table 0 ≡ type_at w.table 0
  pub facts : (i : ℕ) → seen_at v.table (slice_index_or v.facts i no_fact) ≡ seen_at w.table (slice_index_or w.facts i no_fact)
  pub named : (i : ℕ) → type_at v.table (slice_index_or v.named i 0) ≡ type_at w.table (slice_index_or w.named i 0)
  pub sorts : (i : ℕ) → sort_of (slice_index_or v.declared i Unclear) ≡ sort_of (slice_index_or w.declared i Unclear)
  pub composites : (i : ℕ) → type_at v.table (slice_index_or v.composites i 0) ≡ type_at w.table (slice_index_or w.composites i 0)
  pub members : (i : ℕ) → map (member_at v.table) (slice_index_or v.members i []) ≡ map (member_at w.table) (slice_index_or w.members i [])
  pub count : length v.lines ≡ length w.lines
  pub lines : (i : ℕ) → entries_of v.table (slice_index_or v.lines i []) ≡ entries_of w.table (slice_index_or w.lines i [])
  pub results : (i : ℕ) → type_at v.table (slice_index_or v.results i 0) ≡ type_at w.table (slice_index_or w.results i 0)

-- ---- what a name stands for

abbrev object_by : Sort → Bool
object_by object_sort = true
object_by s = false

object_sorted : (d : Declared) → is_object d ≡ object_by (sort_of d)
object_sorted (Object row register) = refl
object_sorted (Enumerator value) = refl
object_sorted (Function row more) = refl
object_sorted TypeName = refl
object_sorted Unclear = refl

abbrev duration_by : Sort → Place → Bool → Bool → Bool → Duration
duration_by object_sort p own static kept = by_place p own static kept
duration_by s p own static kept = duration.NoObject

duration_sorted : (d : Declared) (p : Place) (own static kept : Bool) → by_declared d p own static kept ≡ duration_by (sort_of d) p own static kept
duration_sorted (Object row register) p own static kept = refl
duration_sorted (Enumerator value) p own static kept = refl
duration_sorted (Function row more) p own static kept = refl
duration_sorted TypeName p own static kept = refl
duration_sorted Unclear p own static kept = refl

abbrev type_by : Sort → Qualified → Qualified → Qualified → Qualified
type_by function_sort function composite named = function
type_by object_sort function composite named = composite
type_by other_sort function composite named = named

type_sorted : (d : Declared) (nodes : List Node) (j : CheckedColumns) (i : ℕ) (entity : Option ℕ)
    → entity_type d nodes j i entity
    ≡ type_by (sort_of d) (function_type nodes j i entity) (composite_type nodes j entity) (type_named j (whole_of nodes j i))
type_sorted (Object row register) nodes j i entity = refl
type_sorted (Enumerator value) nodes j i entity = refl
type_sorted (Function row more) nodes j i entity = refl
type_sorted TypeName nodes j i entity = refl
type_sorted Unclear nodes j i entity = refl

-- ---- members by their names and types

types_by : (shapes : List Shape) (ms : List Member) → map (member_type (type_at shapes)) ms ≡ map (λ m. m.1) (map (member_at shapes) ms)
types_by shapes [] = refl
types_by shapes (m ∷ ms) = ap (λ types. type_at shapes m.row ∷ types) (types_by shapes ms)

abbrev number_in : ℕ → List (ℕ × Qualified) → ℕ
number_in name [] = 0
number_in name (m ∷ ms) = if m.0 == name then 0 else suc (number_in name ms)

number_by : (shapes : List Shape) (name : ℕ) (ms : List Member) → number_of_name name ms ≡ number_in name (map (member_at shapes) ms)
number_by shapes name [] = refl
number_by shapes name (m ∷ ms) = ap (λ number. if m.name == name then 0 else suc number) (number_by shapes name ms)

-- ---- lines by their entries

abbrev fills_entry : ℕ → Entry → Bool
fills_entry i (put p node b) = (node == i) && is_array p.type
fills_entry i (excess b) = false

fills_by : (shapes : List Shape) (i : ℕ) (lines : List Line) → list_any (fills_array shapes i) lines ≡ list_any (fills_entry i) (entries_of shapes lines)
unfolding entries_of
fills_by shapes i [] = refl
fills_by shapes i (line.Put p ∷ lines) = ap (λ more. ((p.node == i) && is_array (type_at shapes p.row)) || more) (fills_by shapes i lines)
fills_by shapes i (line.Excess b ∷ lines) = fills_by shapes i lines

abbrev puts_in : List Entry → List Entry
puts_in [] = []
puts_in (put p node b ∷ xs) = put p node b ∷ puts_in xs
puts_in (excess b ∷ xs) = puts_in xs

puts_by : (shapes : List Shape) (lines : List Line) → map (put_entry shapes) (puts_of lines) ≡ puts_in (entries_of shapes lines)
unfolding entries_of
puts_by shapes [] = refl
puts_by shapes (line.Put p ∷ lines) = ap (λ xs. put_entry shapes p ∷ xs) (puts_by shapes lines)
puts_by shapes (line.Excess b ∷ lines) = puts_by shapes lines

-- of columns of the same length, whose tests agree at each node, both have a list that passes or none has
any_same : (f g : List Line → Bool) (xs ys : List (List Line)) → length xs ≡ length ys
    → ((i : ℕ) → f (slice_index_or xs i []) ≡ g (slice_index_or ys i [])) → list_any f xs ≡ list_any g ys
any_same f g [] [] count each = refl
any_same f g [] (y ∷ ys) count each = absurd (omega (arith, count))
any_same f g (x ∷ xs) [] count each = absurd (omega (arith, count))
any_same f g (x ∷ xs) (y ∷ ys) count each =
    let rest : list_any f xs ≡ list_any g ys = any_same f g xs ys (omega (arith, count)) (λ i. each (suc i)) in
    λ t. each 0 t || rest t

-- ---- all that is read of them

module _ (j k : CheckedColumns) (h : AreSame (values_of j) (values_of k)) where
  seen_same : (node : Option ℕ) → seen_of j node ≡ seen_of k node
  seen_same None = ap (λ found. record { type = found; lvalue = false; register = false; constant = no_fact.constant; null = false }) h.none
  seen_same (Some i) = h.facts i

  sort_same : (node : Option ℕ) → sort_of (declared_of j node) ≡ sort_of (declared_of k node)
  sort_same None = refl
  sort_same (Some i) = h.sorts i

  named_same : (node : Option ℕ) → type_named j node ≡ type_named k node
  named_same None = h.none
  named_same (Some i) = h.named i

  composite_same : (node : Option ℕ) → type_at j.table.now (entry_of j.composites.now 0 node) ≡ type_at k.table.now (entry_of k.composites.now 0 node)
  composite_same None = h.none
  composite_same (Some i) = h.composites i

  result_same : (node : Option ℕ) → type_at j.table.now (entry_of j.results.now 0 node) ≡ type_at k.table.now (entry_of k.results.now 0 node)
  result_same None = h.none
  result_same (Some i) = h.results i

  members_same : (node : Option ℕ)
      → map (member_at j.table.now) (entry_of j.members.now [] node) ≡ map (member_at k.table.now) (entry_of k.members.now [] node)
  members_same None = refl
  members_same (Some i) = h.members i

  -- ---- objects

  whole_same : (nodes : List Node) (i : ℕ) → whole_of nodes j i ≡ whole_of nodes k i
  whole_same nodes i = λ t. entry_of (h.declarers t) None (named_token nodes i)

  whole_if_same : (nodes : List Node) (name : Option ℕ) → whole_if nodes j name ≡ whole_if nodes k name
  whole_if_same nodes None = refl
  whole_if_same nodes (Some name) = whole_same nodes name

  open_same : (nodes : List Node) (whole : Option ℕ) → is_open nodes j whole ≡ is_open nodes k whole
  open_same nodes whole = λ t.
      let above = entry_of (h.above t) None whole in
      is_declaration (kind_of nodes above) && is_extern (entry_of (h.specified t) nothing (part_of nodes above 0)).storage

  object_same : (whole : Option ℕ) → is_object (declared_of j whole) ≡ is_object (declared_of k whole)
  object_same whole = object_sorted (declared_of j whole) ∙ ap object_by (sort_same whole) ∙ sym (object_sorted (declared_of k whole))

  keeps_same : (nodes : List Node) (whole : Option ℕ) → keeps nodes j whole ≡ keeps nodes k whole
  keeps_same nodes whole = λ t. object_same whole t && not (open_same nodes whole t)

  kept_entity_same : (nodes : List Node) (i : ℕ) → kept_entity nodes j i ≡ kept_entity nodes k i
  kept_entity_same nodes i = λ t. if keeps_same nodes (whole_same nodes i t) t then entity_of nodes (h.names t) i else None

  kept_same : (nodes : List Node) (entity : Option ℕ) → is_kept nodes j entity ≡ is_kept nodes k entity
  kept_same nodes entity = λ t. is_some (last_of (λ i. kept_entity_same nodes i t) (length nodes) (length (h.names t).entities) entity)

  -- ---- durations

  function_same : (nodes : List Node) (definition : ℕ) → function_of nodes j definition ≡ function_of nodes k definition
  function_same nodes definition = λ t. (entry_of (h.declarators t) name_alone (part_of nodes (Some definition) 1)).function

  own_same : (nodes : List Node) (whole definition : Option ℕ) → is_own nodes j whole definition ≡ is_own nodes k whole definition
  own_same nodes whole None = refl
  own_same nodes whole (Some definition) = λ t.
      let above = entry_of (h.above t) None (entry_of (h.above t) None whole) in
      is_same (if is_list (kind_of nodes above) then entry_of (h.above t) None above else above) (function_same nodes definition t)

  duration_same : (nodes : List Node) (i : ℕ) → duration_of nodes j i ≡ duration_of nodes k i
  duration_same nodes i =
      let whole = whole_of nodes j i in
      let other = whole_of nodes k i in
      duration_sorted (declared_of j whole) (around_of j whole).place (is_own nodes j whole (around_of j whole).function)
      (entry_of j.statics.now false whole) (is_kept nodes j (entity_of nodes j.names.now i))
      ∙ (λ t.
      let at = whole_same nodes i t in
      let around = entry_of (h.around t) outermost at in
      duration_by (sort_same at t) around.place (own_same nodes at around.function t) (entry_of (h.statics t) false at)
      (kept_same nodes (entity_of nodes (h.names t) i) t))
      ∙ sym (duration_sorted (declared_of k other) (around_of k other).place (is_own nodes k other (around_of k other).function)
      (entry_of k.statics.now false other) (is_kept nodes k (entity_of nodes k.names.now i)))

  -- ---- names

  composite_type_same : (nodes : List Node) (entity : Option ℕ) → composite_type nodes j entity ≡ composite_type nodes k entity
  composite_type_same nodes entity = λ t.
      let whole = whole_if_same nodes (last_declared nodes (h.names t) entity) t in
      composite_same (initialised_if nodes (entry_of (h.above t) None whole) whole) t

  function_type_same : (nodes : List Node) (i : ℕ) (entity : Option ℕ) → function_type nodes j i entity ≡ function_type nodes k i entity
  function_type_same nodes i entity = λ t. plain (type.Function (or_first i (definition_of nodes (h.names t) entity))) false false

  entity_same : (nodes : List Node) (i : ℕ) (entity : Option ℕ)
      → entity_type (declared_of j (whole_of nodes j i)) nodes j i entity ≡ entity_type (declared_of k (whole_of nodes k i)) nodes k i entity
  entity_same nodes i entity =
      type_sorted (declared_of j (whole_of nodes j i)) nodes j i entity
      ∙ (λ t. type_by (sort_same (whole_same nodes i t) t) (function_type_same nodes i entity t) (composite_type_same nodes entity t)
      (named_same (whole_same nodes i t) t))
      ∙ sym (type_sorted (declared_of k (whole_of nodes k i)) nodes k i entity)

  name_type_same : (u : Parsed) (i : ℕ) → name_type u j i ≡ name_type u k i
  name_type_same u i = λ t.
      let entity = entity_of u.nodes (h.names t) i in
      if is_here i (first_declared u (h.names t) entity) then entity_same u.nodes i entity t else named_same (whole_same u.nodes i t) t

  named_by_same : (of : Option Kind) (u : Parsed) (i : ℕ) → named_by of u j i ≡ named_by of u k i
  named_by_same (Some kind.NameDeclarator) u i = name_type_same u i
  named_by_same (Some kind.Cast) u i = named_same (part_of u.nodes (Some i) 0)
  named_by_same (Some kind.Return) u i = λ t. result_same (entry_of (h.around t) outermost (Some i)).function t
  named_by_same of u i = refl

  ref_same : (u : Parsed) (i : ℕ) → ref_of u j i ≡ ref_of u k i
  ref_same u i = λ t.
      if is_goto (kind_of u.nodes (Some i)) then h.labels i t
      else first_declared u (h.names t) (entity_if (h.names t) (mentioned_token u.nodes i))

  -- ---- expressions

  filling_same : (i : ℕ) → is_filling j i ≡ is_filling k i
  filling_same i =
      any_same (λ lines. list_any (fills_array j.table.now i) lines) (λ lines. list_any (fills_array k.table.now i) lines) j.lines.now k.lines.now
      h.count
      (λ n.
      fills_by j.table.now i (slice_index_or j.lines.now n [])
      ∙ ap (list_any (fills_entry i)) (h.lines n)
      ∙ sym (fills_by k.table.now i (slice_index_or k.lines.now n [])))

  valued_same : (nodes : List Node) (i : ℕ) → valued_of nodes j i ≡ valued_of nodes k i
  valued_same nodes i = λ t.
      let above = slice_index_or (h.above t) i None in
      is_valued (form_if (kind_of nodes above)) (is_part i (part_of nodes above 0)) (seen_same (Some i) t) && not (filling_same i t)

  number_same : (name : ℕ) (node : Option ℕ) → number_of_name name (entry_of j.members.now [] node) ≡ number_of_name name (entry_of k.members.now [] node)
  number_same name node =
      number_by j.table.now name (entry_of j.members.now [] node)
      ∙ ap (number_in name) (members_same node)
      ∙ sym (number_by k.table.now name (entry_of k.members.now [] node))

  chosen_same : (nodes : List Node) (i : ℕ) → chosen_of nodes j i ≡ chosen_of nodes k i
  chosen_same nodes i = λ t.
      number_same (slice_index_or (h.spellings t) (last_if (slice_get nodes i)) 0)
      (structure_by (kind_of nodes (Some i)) (seen_same (part_of nodes (Some i) 0) t).type) t

  -- ---- functions, structures and initialisers

  parameters_same : (u : Parsed) (i : ℕ) → parameters_of u j i ≡ parameters_of u k i
  parameters_same u i = λ t.
      if is_definition (kind_of u.nodes (Some i))
      then flat_map (λ p. option_to_list (parameter_name u p)) (parameter_nodes u.nodes (part_of u.nodes (function_same u.nodes i t) 1))
      else []

  types_same : (i : ℕ)
      → map (member_type (type_at j.table.now)) (slice_index_or j.members.now i []) ≡ map (member_type (type_at k.table.now)) (slice_index_or k.members.now i [])
  types_same i =
      types_by j.table.now (slice_index_or j.members.now i [])
      ∙ ap (map (λ m. m.1)) (h.members i)
      ∙ sym (types_by k.table.now (slice_index_or k.members.now i []))

  plan_same : (i : ℕ) → plan_entries j i ≡ plan_entries k i
  plan_same i =
      puts_by j.table.now (slice_index_or j.lines.now i [])
      ∙ ap puts_in (h.lines i)
      ∙ sym (puts_by k.table.now (slice_index_or k.lines.now i []))

  -- ---- so they are alike

  pub same_alike : (u : Parsed) → AreAlike u j k
  same_alike u = record {
    types = λ i. ap (λ seen. seen.type) (seen_same (Some i));
    refs = ref_same u;
    valued = valued_same u.nodes;
    named = λ i. named_by_same (kind_of u.nodes (Some i)) u i;
    durations = duration_same u.nodes;
    constants = λ i. ap (λ seen. value_in seen.constant) (seen_same (Some i));
    layouts = λ i. λ t. slice_index_or (h.layouts t) i layouts.nothing;
    members = λ i. λ t. if is_structure (kind_of u.nodes (Some i)) then types_same i t else [];
    chosen = chosen_same u.nodes;
    parameters = parameters_same u;
    plans = plan_same;
  }
