-- The member that an expression names is the one that the columns name (C11 6.5.2.3p3).
use Rattle.std.proofs.Common.{◌≡◌, ℕ, zero, suc, ◌<◌, ◌==◌, Bool, true, false, List, [], ◌∷◌, Option, None, Some, length, map, take, nat_lt, refl, sym, ap, ◌∙◌, slice_get, slice_index_or, arith, if◌then◌else◌}
use Rattle.std.proofs.lemmas.Bool.{and_parts, false≢true, ltb-true}
use Rattle.std.proofs.lemmas.List.{get_or-take}
use Rattle.std.proofs.lemmas.Option.{get_or_from_slice_get, slice_get_within}
use Rattle.cr_syntax.specs.declared.ctype.CType.TheVariants.{Int, Void, Struct}
use Rattle.cr_syntax.specs.declared.node.Kind.{Kind}
use Rattle.cr_syntax.specs.declared.node.Kind.TheVariants as kind
use Rattle.cr_syntax.specs.declared.node.Node.{Node}
use Rattle.cr_scopes_events.specs.Scripts as scripts
use Rattle.cr_check_types.specs.Relations.{is_content, is_content_if, is_defined}
use Rattle.cr_check_types.specs.Types.{Qualified, plain, pointer as to, array, type_at}
use Rattle.cr_check_constants.specs.declared.constant.Constant.{Constant}
use Rattle.cr_syntax.specs.declared.ctype.CType.{CType}
use Rattle.cr_check_operands.specs.Values.{Valued, address, Seen, seen_at, plain_value, value_in, value_beside_places, value_of_seen}
use Rattle.cr_check_operands.specs.Rules.{with_qualifiers_of}
use Rattle.cr_check_operands.specs.Places.{structure_in, found_by, member_of, member_in as member_by, pointed_member_of}
use Rattle.cr_check_expressions.specs.declared.known.Member.{Member}
use Rattle.cr_check_expressions.specs.Known.{row_of_name}
use Rattle.cr_check_expressions.specs.Forms.{form_of}
use Rattle.cr_check_expressions.specs.Ruled.{member_in, no_fact, operand, pointed_structure, ruled, seen_in as seen_if}
use Rattle.cr_typed.specs.declared.typed.Typed.{Typed}
use Rattle.cr_typed_columns.specs.Reading.{part_of, entry_of}
use Rattle.cr_typed_columns.specs.Columns.{is_structure}
use Rattle.cr_typed_columns.specs.Expressions.{number_of_name, last_if, structure_by, pointed_structure as structure_behind, chosen_of, seen_of}
use Rattle.cr_meaning_operations.specs.Shapes.{type_of_node, structure_of, as_value}
use Rattle.cr_meaning_operations.specs.Operations.{parts_if, part_at, pointed, left_type, chosen_row}
use Rattle.cr_meaning_typing.specs.Typed.Typing.{has_value}
use Rattle.cr_meaning_typing.proofs.TypedLemmas.Units.{listed_at}
use Rattle.cr_meaning_typing.specs.Judged.Judged.{seen_in, source_of, scene_of, IsJudged}
use Rattle.cr_meaning_typing.proofs.JudgedLemmas.Judged.{judged}
use Rattle.cr_meaning_declarations.specs.Declared.Files.{IsUnitOfFile}
use Rattle.cr_meaning_declarations.proofs.DeclaredLemmas.Files.{has_unit}

-- ---- the first member of a name, by its row and by its number

number_at : (look : ℕ → Qualified) (name : ℕ) (ms : List Member) (row : ℕ) → row_of_name name ms ≡ Some row → slice_get (map (λ (m : Member). look m.row) ms) (number_of_name name ms) ≡ Some (look row)
number_at look name [] row e = absurd (cc e)
number_at look name (m ∷ ms) row e = by (m.name == name) e (λ f. number_at look name ms row f)
  where
    by : (b : Bool) → (if b then Some m.row else row_of_name name ms) ≡ Some row → (row_of_name name ms ≡ Some row → slice_get (map (λ (x : Member). look x.row) ms) (number_of_name name ms) ≡ Some (look row))
        → slice_get (map (λ (x : Member). look x.row) (m ∷ ms)) (if b then 0 else suc (number_of_name name ms)) ≡ Some (look row)
    by true f rest = let same : m.row ≡ row = cc f in ap (λ r. Some (look r)) same
    by false f rest = rest f

row_at : (look : ℕ → Qualified) (rows : List ℕ) (k : ℕ) (type : Qualified) → slice_get (map look rows) k ≡ Some type → look (slice_index_or rows k 0) ≡ type
row_at look [] k type e = absurd (cc e)
row_at look (r ∷ rows) zero type e = cc e
row_at look (r ∷ rows) (suc k) type e = row_at look rows k type e

-- a structure is told by its type
structure_is : (type : Qualified) (node : ℕ) → structure_in type ≡ Some node → structure_of type ≡ node
structure_is (plain (Struct own) c v) node e = cc e
structure_is (plain of c v) node e = absurd (cc e)
structure_is (to c v below) node e = absurd (cc e)
structure_is (array n below) node e = absurd (cc e)

found_row : (look : ℕ → Qualified) (o : Option ℕ) (type : Qualified) → found_by look o ≡ Some type → (row : ℕ) × ((o ≡ Some row) × (look row ≡ type))
found_row look None type e = absurd (cc e)
found_row look (Some row) type e = (row, (refl, cc e))

content_kind : (o : Option Node) → is_content_if o ≡ true → scripts.kind_if o ≡ Some kind.StructContent
content_kind None e = absurd (false≢true e)
content_kind (Some n) e = by n.kind e
  where
    by : (k : Kind) → is_content k ≡ true → Some k ≡ Some kind.StructContent
    by kind.StructContent e = refl
    by k e = absurd (false≢true e)

-- what the value of an expression points to
abbrev is_pointing : Valued → Bool
is_pointing (address x) = true
is_pointing v = false

no_address : (of : CType) (constant : Constant) (x : Qualified) → plain_value of constant ≡ address x → ⊥
no_address (Int k) constant x e = false≢true (ap is_pointing e)
no_address Void constant x e = false≢true (ap is_pointing e)
no_address (Struct node) constant x e = false≢true (ap is_pointing e)
no_address of constant x e = false≢true (ap is_pointing e)

pointer_by : (b : Bool) (type : Qualified) (constant : Constant) (x : Qualified) → (if b then value_in type constant else value_beside_places type constant) ≡ address x
    → (pointed (as_value type) ≡ x) × (structure_behind type ≡ structure_in x)
pointer_by true (plain of c v) constant x e = absurd (no_address of constant x e)
pointer_by true (to c v below) constant x e = let same : below ≡ x = cc e in (same, ap structure_in same)
pointer_by true (array n below) constant x e = let same : below ≡ x = cc e in (same, ap structure_in same)
pointer_by false (plain of c v) constant x e = absurd (no_address of constant x e)
pointer_by false (to c v below) constant x e = let same : below ≡ x = cc e in (same, ap structure_in same)
pointer_by false (array n below) constant x e = absurd (false≢true (ap is_pointing e))

some_pointed : (found : Option Qualified) (x : Qualified) → has_value (member_by found x true false).type ≡ true → (type : Qualified) × (found ≡ Some type)
some_pointed None x h = absurd (false≢true h)
some_pointed (Some type) x h = (type, refl)

-- the member that a node names in a structure of this type
pub record IsChosen (nodes : List Node) (t : Typed) (i : ℕ) (whole type : Qualified) : Type 0 where
  pub node : ℕ
  pub structure : structure_in whole ≡ Some node
  pub content : scripts.kind_at nodes node ≡ Some kind.StructContent
  pub low : node < length t.nodes
  pub at : slice_get (map (type_at t.shapes) (slice_index_or t.members node [])) (slice_index_or t.chosen i 0) ≡ Some type

-- it has the type of the chosen row
pub chosen_type : (nodes : List Node) (t : Typed) (i : ℕ) (whole type : Qualified) → IsChosen nodes t i whole type → type_at t.shapes (chosen_row t i whole) ≡ type
chosen_type nodes t i whole type c =
    ap (λ s. type_at t.shapes (slice_index_or (slice_index_or t.members s []) (slice_index_or t.chosen i 0) 0)) (structure_is whole c.node c.structure)
    ∙ row_at (type_at t.shapes) (slice_index_or t.members c.node []) (slice_index_or t.chosen i 0) type c.at

some_member : (found : Option Qualified) (whole own : Seen) → own ≡ member_of found whole → has_value own.type ≡ true → (type : Qualified) × (found ≡ Some type)
some_member None whole own e h = absurd (false≢true (sym (ap (λ (s : Seen). has_value s.type) e) ∙ h))
some_member (Some type) whole own e h = (type, refl)

module _ (file : List ℕ) (t : Typed) (it : IsUnitOfFile file t) where
  open it use {checked.{checked}, made_by, typing}
  open has_unit file t it use {tree_nodes as nodes_are}

  abbrev is : IsJudged t (seen_in checked) (source_of made_by.tree checked) (scene_of made_by.tree checked) checked.surroundings.above checked.surroundings.around
  is = judged file it.unit it.names checked t made_by

  -- the types of a structure's members, by the rows of the typed unit
  pub member_rows : (node : ℕ) → node < length t.nodes → scripts.kind_at it.unit.nodes node ≡ Some kind.StructContent
      → map (type_at t.shapes) (slice_index_or t.members node []) ≡ map (λ (m : Member). type_at checked.table m.row) (slice_index_or typing.members node [])
  member_rows node low content =
      let count : length t.nodes ≡ length it.unit.nodes = ap length made_by.elaborated.nodes_are in
      (made_by.elaborated.members.each node (omega (arith, low, count))).are
      ∙ ap (λ b. if b then map (λ (m : Member). type_at made_by.columns.table.now m.row) (slice_index_or made_by.columns.members.now node []) else []) (ap is_structure content)
      ∙ (λ j. map (λ (m : Member). type_at (made_by.are.table j) m.row) (slice_index_or (made_by.are.members j) node []))

  -- which of them is chosen
  chosen_is : (i node : ℕ) (n : Node) → slice_get t.nodes i ≡ Some n → (a : ℕ) → slice_get n.parts 0 ≡ Some a → structure_by (Some n.kind) (seen_in checked a).type ≡ Some node
      → slice_index_or t.chosen i 0 ≡ number_of_name (slice_index_or checked.surroundings.bindings.spellings n.last 0) (slice_index_or typing.members node [])
  chosen_is i node n at a first structure =
      let within = slice_get_within t.nodes i n at in
      let count : length t.nodes ≡ length it.unit.nodes = ap length made_by.elaborated.nodes_are in
      let own : slice_get it.unit.nodes i ≡ Some n = ap (λ ns. slice_get ns i) (sym made_by.elaborated.nodes_are) ∙ at in
      let part : part_of it.unit.nodes (Some i) 0 ≡ Some a = ap (λ o. slice_get (scripts.parts_if o) 0) own ∙ first in
      let same : seen_of made_by.columns (Some a) ≡ seen_in checked a = (λ j. seen_at (made_by.are.table j) (slice_index_or (made_by.are.facts j) a no_fact)) in
      let told : structure_by (scripts.kind_at it.unit.nodes i) (seen_of made_by.columns (part_of it.unit.nodes (Some i) 0)).type ≡ Some node
      = (λ j. structure_by (scripts.kind_if (own j)) (seen_of made_by.columns (part j)).type) ∙ (λ j. structure_by (Some n.kind) (same j).type) ∙ structure in
      ap (λ cs. slice_index_or cs i 0) made_by.elaborated.chosen ∙ listed_at (chosen_of it.unit.nodes made_by.columns) (length it.unit.nodes) i 0 (omega (arith, within, count))
      ∙ (λ j. number_of_name (slice_index_or (made_by.are.spellings j) (last_if (own j)) 0) (entry_of (made_by.are.members j) [] (told j)))

  -- so a member has the type of the chosen row
  chosen : (i a : ℕ) (n : Node) → slice_get t.nodes i ≡ Some n → slice_get n.parts 0 ≡ Some a → (whole : Qualified) (o : Option ℕ) → structure_by (Some n.kind) (seen_in checked a).type ≡ o → structure_in whole ≡ o
      → (type : Qualified) → member_in (source_of made_by.tree checked i) i n.last o ≡ Some type → IsChosen it.unit.nodes t i whole type
  chosen i a n at first whole None e same type f = absurd (cc f)
  chosen i a n at first whole (Some node) e same type f = by (is_defined made_by.tree.nodes.now i node) refl f
    where
      by : (b : Bool) → is_defined made_by.tree.nodes.now i node ≡ b → (if b then (source_of made_by.tree checked i).member node n.last else None) ≡ Some type → IsChosen it.unit.nodes t i whole type
      by false g h = absurd (cc h)
      by true g h =
          let both = and_parts (nat_lt node i) (is_content_if (slice_get made_by.tree.nodes.now node)) g in
          let low = ltb-true node i both.0 in
          let within = slice_get_within t.nodes i n at in
          let unit_nodes : made_by.tree.nodes.now ≡ it.unit.nodes = made_by.is.whole.tree.nodes in
          let content : scripts.kind_at it.unit.nodes node ≡ Some kind.StructContent = ap (λ ns. scripts.kind_at ns node) (sym unit_nodes) ∙ content_kind (slice_get made_by.tree.nodes.now node) both.1 in
          let row = found_row (type_at checked.table) _ type h in
          let spelled : slice_index_or made_by.tree.names.now n.last 0 ≡ slice_index_or checked.surroundings.bindings.spellings n.last 0 = ap (λ ns. slice_index_or ns n.last 0) made_by.is.whole.tree.names in
          let members : slice_index_or (take i typing.members) node [] ≡ slice_index_or typing.members node [] = get_or-take i typing.members node [] low in
          let named : row_of_name (slice_index_or checked.surroundings.bindings.spellings n.last 0) (slice_index_or typing.members node []) ≡ Some row.0 = (λ j. row_of_name (sym spelled j) (sym members j)) ∙ row.1.0 in
          record {
            node = node;
            structure = same;
            content = content;
            low = omega (arith, low, within);
            at = ap (λ ts. slice_get ts (slice_index_or t.chosen i 0)) (member_rows node (omega (arith, low, within)) content)
                ∙ ap (slice_get (map (λ (m : Member). type_at checked.table m.row) (slice_index_or typing.members node []))) (chosen_is i node n at a first e)
                ∙ number_at (type_at checked.table) (slice_index_or checked.surroundings.bindings.spellings n.last 0) (slice_index_or typing.members node []) row.0 named
                ∙ ap Some row.1.1;
          }

  -- `.`
  pub member_chosen : (i a : ℕ) (n : Node) → slice_get t.nodes i ≡ Some n → n.kind ≡ kind.Member → slice_get n.parts 0 ≡ Some a → has_value (seen_in checked i).type ≡ true
      → (type : Qualified) × (IsChosen it.unit.nodes t i (type_of_node t a) type × (seen_in checked i ≡ member_of (Some type) (seen_in checked a)))
  member_chosen i a n at member first worth =
      let source = source_of made_by.tree checked i in
      let rule = is.ruled i n at ∙ ap (λ k. ruled (form_of k) (seen_in checked) source i n) member in
      let operand_is : operand (seen_in checked) n.parts 0 ≡ seen_in checked a = ap (seen_if (seen_in checked)) first in
      let own : seen_in checked i ≡ member_of (member_in source i n.last (structure_in (seen_in checked a).type)) (seen_in checked a) = rule ∙ (λ j. member_of (member_in source i n.last (structure_in (operand_is j).type)) (operand_is j)) in
      let found = some_member _ (seen_in checked a) (seen_in checked i) own worth in (
        found.0,
        (
          chosen i a n at first (type_of_node t a) (structure_in (seen_in checked a).type) (ap (λ k. structure_by (Some k) (seen_in checked a).type) member) (ap structure_in (is.columns.types a)) found.0 found.1,
          own ∙ ap (λ o. member_of o (seen_in checked a)) found.1,
        ),
      )

  -- `->`
  pub pointed_chosen : (i a : ℕ) (n : Node) → slice_get t.nodes i ≡ Some n → n.kind ≡ kind.PointerMember → slice_get n.parts 0 ≡ Some a → has_value (seen_in checked i).type ≡ true
      → (type : Qualified) × (IsChosen it.unit.nodes t i (pointed (left_type t i)) type × ((seen_in checked i).type ≡ with_qualifiers_of (pointed (left_type t i)) type))
  pointed_chosen i a n at member first worth =
      let source = source_of made_by.tree checked i in
      let rule = is.ruled i n at ∙ ap (λ k. ruled (form_of k) (seen_in checked) source i n) member in
      let operand_is : operand (seen_in checked) n.parts 0 ≡ seen_in checked a = ap (seen_if (seen_in checked)) first in
      by (value_of_seen (seen_in checked a)) refl
      (rule ∙ (λ j. pointed_member_of (member_in source i n.last (pointed_structure (value_of_seen (operand_is j)))) (value_of_seen (operand_is j))))
    where
      by : (v : Valued) → value_of_seen (seen_in checked a) ≡ v
          → seen_in checked i ≡ pointed_member_of (member_in (source_of made_by.tree checked i) i n.last (pointed_structure v)) v
          → (type : Qualified) × (IsChosen it.unit.nodes t i (pointed (left_type t i)) type × ((seen_in checked i).type ≡ with_qualifiers_of (pointed (left_type t i)) type))
      by (address x) e own =
          let source = source_of made_by.tree checked i in
          let found = some_pointed (member_in source i n.last (structure_in x)) x (sym (ap (λ (s : Seen). has_value s.type) own) ∙ worth) in
          let points = pointer_by (seen_in checked a).lvalue (seen_in checked a).type (seen_in checked a).constant x e in
          let part : part_at t i 0 ≡ a = ap (λ o. slice_index_or (parts_if o) 0 0) at ∙ get_or_from_slice_get n.parts 0 a 0 first in
          let whole : pointed (left_type t i) ≡ x = ap (λ b. pointed (as_value (type_of_node t b))) part ∙ ap (λ type. pointed (as_value type)) (is.columns.types a) ∙ points.0 in (
            found.0,
            (
              chosen i a n at first (pointed (left_type t i)) (structure_in x) (ap (λ k. structure_by (Some k) (seen_in checked a).type) member ∙ points.1) (ap structure_in whole) found.0 found.1,
              ap (λ (s : Seen). s.type) own ∙ ap (λ o. (member_by o x true false).type) found.1 ∙ ap (λ y. with_qualifiers_of y found.0) (sym whole),
            ),
          )
      by v e own = absurd (false≢true (sym (ap (λ (s : Seen). has_value s.type) own) ∙ worth))
