-- The nodes that the columns of a sound unit name are there.
use Rattle.std.proofs.Common.{◌≡◌, ℕ, zero, suc, ◌+◌, ◌<◌, ◌≤◌, Bool, true, false, List, [], ◌∷◌, ◌++◌, Option, None, Some, length, nat_lt, option_to_list, slice_get, slice_index_or, if◌then◌else◌, inl, inr, refl, sym, ap, subst, ◌∙◌, arith}
use Rattle.std.specs.List.{flat_map}
use Rattle.std.proofs.lemmas.Bool.{true≢false, and_parts, cases_lt}
use Rattle.std.proofs.lemmas.List.{get_or_past}
use Rattle.std.proofs.lemmas.Option.{none-some}
use Rattle.cr_syntax.specs.declared.node.Kind.{Kind}
use Rattle.cr_syntax.specs.declared.node.Kind.TheVariants as kind
use Rattle.cr_syntax.specs.declared.node.Node.{Node}
use Rattle.cr_syntax.specs.declared.unit.Unit as source
use Rattle.cr_scopes.specs.declared.names.Names.{Names}
use Rattle.cr_scopes.specs.Resolved.{is_number}
use Rattle.cr_scopes_bindings.specs.Entities.{entity_if, first_of}
use Rattle.cr_scopes_bindings.specs.Last.{last_with}
use Rattle.cr_scopes_events.specs.Scripts.{kind_at}
use Rattle.cr_check_declarations.specs.declared.tree.Tree.{Tree}
use Rattle.cr_check_definitions.specs.Known.{Known}
use Rattle.cr_check_definitions.specs.Mains.{has_main}
use Rattle.cr_check_labels.specs.Gotos.{else_by, found_from, goto_at, goto_by, goto_if, is_key, item_label, last_labelled}
use Rattle.cr_check_labels.specs.Labelled.{Scene}
use Rattle.cr_check_unit.specs.Statements.{labelled_in}
use Rattle.cr_check.specs.declared.checked.Checked.{Checked}
use Rattle.cr_check.specs.Checked.{IsSound}
use Rattle.cr_check.specs.Columns.{IsChecked, known_in}
use Rattle.cr_typed.specs.Typed.{AreBelow}
use Rattle.cr_typed_columns.specs.declared.checked.CheckedColumns.{CheckedColumns}
use Rattle.cr_typed_columns.specs.Entities.{is_definition, name_node, named_token, first_declared}
use Rattle.cr_typed_columns.specs.Functions.{function_of, is_main, main_below, main_of, parameter_name, parameter_nodes, parameters_of}
use Rattle.cr_typed_columns.specs.Names.{is_goto, mentioned_token, ref_of}
use Rattle.cr_typed_columns.specs.Reading.{Parsed, parsed_of, part_of}
use Rattle.cr_typed_unit.specs.Typed.{AreColumnsOf}

-- ---- nodes by the tokens that they declare

last_low : (key : ℕ → Option ℕ) (bound k node : ℕ) → last_with key bound k ≡ Some node → node < bound
last_low key zero k node e = absurd (none-some node e)
last_low key (suc i) k node e = by (is_number (key i) k) (last_low key i k node) e
  where
    by : (b : Bool) → (last_with key i k ≡ Some node → node < i) → (if b then Some i else last_with key i k) ≡ Some node → node < suc i
    by true rest q = let same : i ≡ node = cc q in omega (arith, same)
    by false rest q = let low = rest q in omega (arith, low)

name_low : (u : Parsed) (token : Option ℕ) (node : ℕ) → name_node u token ≡ Some node → node < length u.nodes
name_low u None node e = absurd (none-some node e)
name_low u (Some k) node e = by (nat_lt k (length u.tokens)) e
  where
    by : (b : Bool) → (if b then last_with (named_token u.nodes) (length u.nodes) k else None) ≡ Some node → node < length u.nodes
    by true q = last_low (named_token u.nodes) (length u.nodes) k node q
    by false q = absurd (none-some node q)

-- ---- the labels of `goto`

labelled_low : (s : Scene) (bound : ℕ) (q : ℕ × ℕ) (node : ℕ) → last_labelled s bound q ≡ Some node → node < bound
labelled_low s zero q node e = absurd (none-some node e)
labelled_low s (suc i) q node e = by (is_key (item_label s i) q) (labelled_low s i q node) e
  where
    by : (b : Bool) → (last_labelled s i q ≡ Some node → node < i) → (if b then Some i else last_labelled s i q) ≡ Some node → node < suc i
    by true rest f = let same : i ≡ node = cc f in omega (arith, same)
    by false rest f = let low = rest f in omega (arith, low)

found_low : (s : Scene) (more : ℕ) (block : Option ℕ) (name node : ℕ) → found_from s more block name ≡ Some node → node < length s.nodes
found_low s zero block name node e = absurd (none-some node e)
found_low s (suc more) None name node e = absurd (none-some node e)
found_low s (suc more) (Some block) name node e = by (last_labelled s (length s.nodes) (block, name)) refl (found_low s more (s.around block).block name node) e
  where
    by : (found : Option ℕ) → last_labelled s (length s.nodes) (block, name) ≡ found
        → (found_from s more (s.around block).block name ≡ Some node → node < length s.nodes)
        → else_by found (found_from s more (s.around block).block name) ≡ Some node → node < length s.nodes
    by None is outer f = outer f
    by (Some label) is outer f =
        let low = labelled_low s (length s.nodes) (block, name) label is in let same : label ≡ node = cc f in omega (arith, low, same)

goto_low : (s : Scene) (i node : ℕ) (n : Node) (k : Kind) → goto_by k s i n ≡ Some node → node < length s.nodes
goto_low s i node n kind.Goto e = found_low s (length s.nodes) (s.around i).block (s.name (n.first + 1)) node e
goto_low s i node n _ e = absurd (none-some node e)

label_low : (s : Scene) (i node : ℕ) → goto_at s i ≡ Some node → node < length s.nodes
label_low s i node e = by (slice_get s.nodes i) e
  where
    by : (n : Option Node) → goto_if n s i ≡ Some node → node < length s.nodes
    by None f = absurd (none-some node f)
    by (Some n) f = goto_low s i node n n.kind f

-- ---- parameters

named_low : (most : ℕ) (name : ℕ → Option ℕ) → ((p n : ℕ) → name p ≡ Some n → n < most) → (ps : List ℕ)
    → AreBelow most (flat_map (λ p. option_to_list (name p)) ps)
named_low most name low [] k n e = absurd (none-some n e)
named_low most name low (p ∷ ps) k n e = by (name p) refl k (named_low most name low ps) e
  where
    by : (o : Option ℕ) → name p ≡ o → (at : ℕ) → AreBelow most (flat_map (λ q. option_to_list (name q)) ps)
        → slice_get (option_to_list o ++ flat_map (λ q. option_to_list (name q)) ps) at ≡ Some n → n < most
    by None is at rest f = rest at n f
    by (Some m) is zero rest f = let same : m ≡ n = cc f in let here = low p m is in omega (arith, same, here)
    by (Some m) is (suc at) rest f = rest at n f

pub parameters_low : (u : Parsed) (j : CheckedColumns) (i : ℕ) → AreBelow (length u.nodes) (parameters_of u j i)
parameters_low u j i = by (is_definition (kind_at u.nodes i))
  where
    list : List ℕ
    list = parameter_nodes u.nodes (part_of u.nodes (function_of u.nodes j i) 1)

    by : (b : Bool) → AreBelow (length u.nodes) (if b then flat_map (λ p. option_to_list (parameter_name u p)) list else [])
    by true = named_low (length u.nodes) (parameter_name u) (λ p n e. name_low u _ n e) list
    by false = λ k n e. absurd (none-some n e)

-- ---- main

main_upto : (file : List ℕ) (u : Parsed) (n : ℕ) → main_below file u n ≤ n
main_upto file u zero = omega arith
main_upto file u (suc i) = by (is_main file u i) (main_upto file u i)
  where
    by : (b : Bool) → main_below file u i ≤ i → (if b then i else main_below file u i) ≤ suc i
    by true rest = omega arith
    by false rest = omega (arith, rest)

main_within : (file : List ℕ) (u : Parsed) (n : ℕ) → 0 < n → main_below file u n < n
main_within file u zero some = absurd (omega (arith, some))
main_within file u (suc i) some = by (is_main file u i)
  where
    by : (b : Bool) → (if b then i else main_below file u i) < suc i
    by true = omega arith
    by false = let rest = main_upto file u i in omega (arith, rest)

-- K40 holds of no unit without external declarations
items_there : (k : Known) (items : List ℕ) → has_main k items ≡ true → 0 < length items
items_there k [] e = absurd (true≢false (sym e))
items_there k (item ∷ items) e = omega arith

-- ---- of a sound unit

module _ (file : List ℕ) (unit : source.Unit) (names : Names) (checked : Checked) (tree : Tree) (is : IsChecked file unit names checked tree)
    (sound : IsSound file unit names checked tree) (j : CheckedColumns) (are : AreColumnsOf names checked tree j) where
  abbrev scene : Scene
  scene = labelled_in checked.table tree checked.whole.typing

  gotos_low : (i n : ℕ) → slice_index_or j.labels.now i None ≡ Some n → n < length unit.nodes
  gotos_low i n e = elim (cases_lt i (length scene.nodes)) [
    | inl low ↦
        let here = label_low scene i n (sym (is.whole.marked.labels.each i low) ∙ own) in
        let same : length scene.nodes ≡ length unit.nodes = ap length is.whole.tree.nodes in
        omega (arith, here, same)
    | inr past ↦ absurd (none-some n (sym (get_or_past checked.whole.marked.labels i None (let c = is.whole.marked.labels.count in omega (arith, c, past))) ∙ own))
  ]
    where
      own : slice_index_or checked.whole.marked.labels i None ≡ Some n
      own = ap (λ labels. slice_index_or labels i None) (sym are.labels) ∙ e

  pub refs_low : (i n : ℕ) → ref_of (parsed_of unit) j i ≡ Some n → n < length unit.nodes
  refs_low i n e = by (is_goto (kind_at unit.nodes i)) e
    where
      entity : Option ℕ
      entity = entity_if j.names.now (mentioned_token unit.nodes i)

      by : (b : Bool) → (if b then slice_index_or j.labels.now i None else first_declared (parsed_of unit) j.names.now entity) ≡ Some n → n < length unit.nodes
      by true f = gotos_low i n f
      by false f = name_low (parsed_of unit) (first_of j.names.now entity) n f

  pub main_low : main_of file (parsed_of unit) < length unit.nodes
  main_low =
      let known = known_in file unit checked in
      let has = (and_parts (has_main known unit.items) _ sound.defined).0 in
      let some = items_there known unit.items has in
      let first = unit.items_are_nodes 0 some in
      main_within file (parsed_of unit) (length unit.nodes) (omega (arith, first))
