-- The cells of types before a declarator: those of an array's elements and of a structure's members, one behind another (C11 6.2.5p20, 6.7.2.1p15).
use Rattle.std.proofs.Common.{◌≡◌, ℕ, zero, suc, ◌*◌, ◌<◌, ◌≤◌, ◌==◌, Bool, true, false, not, ◌||◌, nat_lt, List, [], ◌∷◌, ◌++◌, Option, None, Some, length, map, replicate, refl, sym, ap, subst, ◌∙◌, slice_get, slice_index_or, arith}
use Rattle.std.specs.List.{flat_map}
use Rattle.std.proofs.lemmas.Bool.{and_parts, false≢true, ltb-true, ne_eqb}
use Rattle.std.proofs.lemmas.List.{get_or-take, length-map}
use Rattle.std.proofs.lemmas.Option.{slice_get_within}
use Rattle.cr_memory.specs.declared.value.Scalar.{Scalar}
use Rattle.cr_memory.specs.declared.value.Guard.{Guard}
use Rattle.cr_syntax.specs.declared.ctype.CType.TheVariants.{Int, Struct}
use Rattle.cr_syntax.specs.declared.node.Kind.{Kind}
use Rattle.cr_syntax.specs.declared.node.Kind.TheVariants as kind
use Rattle.cr_syntax.specs.declared.node.Node.{Node}
use Rattle.cr_syntax.specs.Tables.{rule_of, side_of}
use Rattle.cr_syntax_nodes.specs.Nodes.{least}
use Rattle.cr_scopes_events.specs.Scripts as scripts
use Rattle.cr_check_types.specs.declared.layout.Layout.{Layout}
use Rattle.cr_check_types.specs.Types.{Qualified, plain, pointer as to, array, type_at}
use Rattle.cr_check_types.specs.Relations.{is_content_if, is_complete_at}
use Rattle.cr_check_types.specs.Layouts.{count_of, element_of, single_of}
use Rattle.cr_check_initialisers.specs.Known.{Known, member_types, is_text, is_list, is_text_if, is_list_if}
use Rattle.cr_check_initialisers.specs.Places.{types_in, opens}
use Rattle.cr_check_initialisers.specs.Plans.{is_open}
use Rattle.cr_typed.specs.declared.typed.Typed.{Typed}
use Rattle.cr_typed.specs.Typed.{IsBefore, MOST_CELLS}
use Rattle.cr_meaning_soundness.specs.Sorts.{Sort, sort_of_scalar, sorts_in}
use Rattle.cr_meaning_operations.specs.Shapes.{cells_of, cells_with, structure_cells, shape_of, repeated}
use Rattle.cr_meaning_operations.specs.Operations.{kind_if, kind_at, parts_at}
use Rattle.cr_meaning_declarations.specs.Declared.Files.{IsUnitOfFile}
use Rattle.cr_meaning_declarations.proofs.DeclaredLemmas.Nodes.{of_unit}
use Rattle.cr_meaning_objects.specs.Initialised.Parts.{Every, is_aggregate, AreCells}
use Rattle.cr_meaning_objects.specs.Initialised.Asked.{HaveParts}
use Rattle.cr_meaning_files.specs.Reached.{is_list as is_list_kind}
use Rattle.cr_meaning_files.specs.Structures.{IsWhole, AreMembersWhole}
use Rattle.cr_meaning_files.proofs.Cells.{exact, elements_few}
use Rattle.cr_meaning_references.proofs.TreesLemmas.Tree.{counted_by}
use Rattle.cr_meaning_files.proofs.Putting.{lists_at}
use Rattle.cr_meaning_files.proofs.Filling.{known, listed_is, initialisers_are}
use Rattle.cr_meaning_files.proofs.Members.{member_rows}
use Rattle.cr_meaning_files.proofs.Made.{map_map, content_at, complete_whole, rows_at, rows_some, early_single}
use Rattle.cr_meaning_files.proofs.Apart.{map_flat_map, map_repeated, kinds_of, parts_are, counted}

-- ---- lists

flat_map_map : {X Y A : Type 0} (f : Y → List A) (g : X → Y) (xs : List X) → flat_map f (map g xs) ≡ flat_map (λ x. f (g x)) xs
flat_map_map f g [] = refl
flat_map_map f g (x ∷ xs) = ap (λ r. f (g x) ++ r) (flat_map_map f g xs)

repeated_flat : {X A : Type 0} (f : X → List A) (n : ℕ) (x : X) → flat_map f (replicate n x) ≡ repeated n (f x)
repeated_flat f zero x = refl
repeated_flat f (suc n) x = ap (λ r. f x ++ r) (repeated_flat f n x)

-- ---- types that stand before a node

pub before_later : (at later : ℕ) → at ≤ later → (type : Qualified) → IsBefore at type → IsBefore later type
before_later at later le (plain (Struct node) c v) h = omega (arith, le, h)
before_later at later le (plain of c v) h = tt
before_later at later le (to c v below) h = tt
before_later at later le (array n below) h = before_later at later le below h

-- what is complete at a node has structures of earlier nodes
pub complete_before : (nodes : List Node) (at : ℕ) (type : Qualified) → is_complete_at nodes at type ≡ true → IsBefore at type
complete_before nodes at (plain (Struct node) c v) e = ltb-true node at (and_parts (nat_lt node at) (is_content_if (slice_get nodes node)) e).0
complete_before nodes at (plain of c v) e = tt
complete_before nodes at (to c v below) e = tt
complete_before nodes at (array n below) e = complete_before nodes at below (and_parts (not (n == 0)) (is_complete_at nodes at below) e).1

-- a literal is no list
no_list : (o : Option Node) → is_text_if o ≡ true → is_list_if o ≡ false
no_list None e = refl
no_list (Some n) e = by n.kind e
  where
    by : (k : Kind) → is_text k ≡ true → is_list k ≡ false
    by kind.Text e = refl
    by k e = absurd (false≢true e)

only_list : (k : Kind) → is_list_kind k ≡ true → k ≡ kind.InitializerList
only_list kind.InitializerList h = refl
only_list k h = absurd (false≢true h)

list_counts : least (side_of kind.InitializerList) ≡ 1
unfolding rule_of
list_counts = refl

-- the sorts of cells are those of their kinds
pub sorts_are : (cells : List (Scalar × Guard)) → sorts_in cells ≡ map sort_of_scalar (kinds_of cells)
sorts_are cells = sym (map_map sort_of_scalar (λ (own : Scalar × Guard). own.0) cells)

module _ (file : List ℕ) (t : Typed) (it : IsUnitOfFile file t) (made : AreMembersWhole t) (i : ℕ) where
  -- a type of objects that is complete before the node, and small
  pub record IsEarly (type : Qualified) : Type 0 where
    pub whole : IsWhole t type
    pub early : IsBefore i type
    pub few : cells_of t type ≤ MOST_CELLS

  pub complete_early : (type : Qualified) → is_complete_at t.nodes i type ≡ true → cells_of t type ≤ MOST_CELLS → IsEarly type
  complete_early type e few = record { whole = complete_whole t i type e; early = complete_before t.nodes i type e; few = few }

  abbrev pub cells : Qualified → List Sort
  cells type = sorts_in (shape_of t type)

  abbrev k : Known
  k = known file t it i

  open it use {typing, shapes as table}

  counted_early : (type : Qualified) → IsEarly type → length (cells type) ≡ k.cells type
  counted_early type h =
      let count = counted file t it made type h.whole h.few in
      let same = ap (λ (l : Layout). count_of type * l.cells) (early_single file t it i type h.early) in
      let all = length-map (kinds_of (shape_of t type)) sort_of_scalar in
      ap length (sorts_are (shape_of t type)) ∙ all ∙ count ∙ exact (count_of type * (single_of t.layouts (element_of type)).cells) h.few ∙ sym same

  sized : (type : Qualified) → IsEarly type → is_open type ≡ false
  sized type h = by type h.whole
    where
      by : (type : Qualified) → IsWhole t type → is_open type ≡ false
      by (plain of c v) w = refl
      by (to c v below) w = refl
      by (array n below) w = let some = w.0 in ne_eqb n 0 (λ e. absurd (omega (arith, some, e)))

  -- ---- arrays

  replicated : (n : ℕ) (type : Qualified) → IsEarly type → Every IsEarly (replicate n type)
  replicated zero type h = tt
  replicated (suc n) type h = (h, replicated n type h)

  element : (n : ℕ) (below : Qualified) → IsEarly (array n below) → IsEarly below
  element n below h = record {
    whole = h.whole.1;
    early = h.early;
    few = elements_few n (count_of below) (single_of t.layouts (element_of below)).cells h.whole.0 h.few;
  }

  elements_made : (n : ℕ) (below : Qualified) → cells (array n below) ≡ flat_map cells (replicate n below)
  elements_made n below =
      map_repeated (λ (own : Scalar × Guard). sort_of_scalar own.0) n (cells_with (structure_cells (length t.nodes) t) t false below) ∙ sym (repeated_flat cells n below)

  -- ---- structures

  low_node : (node : ℕ) → kind_at t node ≡ kind.StructContent → node < length t.nodes
  low_node node is = by (slice_get t.nodes node) refl
    where
      by : (o : Option Node) → slice_get t.nodes node ≡ o → node < length t.nodes
      by None at = absurd (cc (sym (ap kind_if at) ∙ is))
      by (Some n) at = slice_get_within t.nodes node n at

  abbrev rows : ℕ → List ℕ
  rows node = slice_index_or t.members node []

  members_are : (node : ℕ) → node < i → kind_at t node ≡ kind.StructContent → k.members node ≡ map (type_at t.shapes) (rows node)
  members_are node low is =
      ap (member_types table) (get_or-take i typing.members node [] low)
      ∙ sym (member_rows file t it node (low_node node is) (ap (λ ns. scripts.kind_at ns node) (sym it.checked.by.elaborated.nodes_are) ∙ content_at (slice_get t.nodes node) is))

  rows_early : (node : ℕ) (all : List ℕ) → ((m row : ℕ) → slice_get all m ≡ Some row → IsEarly (type_at t.shapes row)) → Every IsEarly (map (type_at t.shapes) all)
  rows_early node [] h = tt
  rows_early node (row ∷ all) h = (h 0 row refl, rows_early node all (λ m x e. h (suc m) x e))

  member_early : (node : ℕ) → node < i → kind_at t node ≡ kind.StructContent → (m row : ℕ) → slice_get (rows node) m ≡ Some row → IsEarly (type_at t.shapes row)
  member_early node low is m row e =
      let within = low_node node is in
      let before = it.checked.by.fits.members_before node (rows node) (rows_at file t it node within) m 0 (slice_get_within (rows node) m row e) in
      let own : IsBefore node (type_at t.shapes row) = subst (λ r. IsBefore node (type_at t.shapes r)) (at_of (rows node) m row e) before in
      record { whole = made node m row e; early = before_later node i (omega (arith, low)) (type_at t.shapes row) own; few = it.checked.by.fits.cells_fit row }
    where
      at_of : (xs : List ℕ) (m x : ℕ) → slice_get xs m ≡ Some x → slice_index_or xs m 0 ≡ x
      at_of [] m x e = absurd (cc e)
      at_of (y ∷ xs) zero x e = cc e
      at_of (y ∷ xs) (suc m) x e = at_of xs m x e

  structure_made : (node : ℕ) (c v : Bool) → node < i → kind_at t node ≡ kind.StructContent → cells (plain (Struct node) c v) ≡ flat_map cells (k.members node)
  structure_made node c v low is =
      let within = low_node node is in
      sorts_are (structure_cells (length t.nodes) t (false || c) node)
      ∙ ap (map sort_of_scalar) (parts_are file t it (length t.nodes) node within within (false || c))
      ∙ map_flat_map sort_of_scalar (λ row. kinds_of (shape_of t (type_at t.shapes row))) (rows node)
      ∙ same (rows node)
      ∙ sym (flat_map_map cells (type_at t.shapes) (rows node))
      ∙ ap (flat_map cells) (sym (members_are node low is))
    where
      same : (all : List ℕ) → flat_map (λ row. map sort_of_scalar (kinds_of (shape_of t (type_at t.shapes row)))) all ≡ flat_map (λ row. cells (type_at t.shapes row)) all
      same [] = refl
      same (row ∷ all) = (λ j. (sym (sorts_are (shape_of t (type_at t.shapes row))) j) ++ same all j)

  -- ---- all types

  parts : (type : Qualified) → IsEarly type → Every IsEarly (types_in k type)
  unfolding types_in
  parts (plain (Struct node) c v) h =
      subst (Every IsEarly) (sym (members_are node h.early h.whole)) (rows_early node (rows node) (member_early node h.early h.whole))
  parts (plain (Int kind) c v) h = tt
  parts (plain of c v) h = absurd h.whole
  parts (to c v below) h = tt
  parts (array n below) h = replicated n below (element n below h)

  whole_made : (type : Qualified) → IsEarly type → is_aggregate type ≡ true → cells type ≡ flat_map cells (types_in k type)
  unfolding types_in
  whole_made (plain (Struct node) c v) h a = structure_made node c v h.early h.whole
  whole_made (plain of c v) h a = absurd (false≢true a)
  whole_made (to c v below) h a = absurd (false≢true a)
  whole_made (array n below) h a = elements_made n below

  -- an array has elements, and a structure members
  some : (type : Qualified) → IsEarly type → is_aggregate type ≡ true → 1 ≤ length (types_in k type)
  unfolding types_in
  some (plain (Struct node) c v) h a =
      let rows_are = rows_some file t it node (low_node node h.whole) h.whole in
      let same = ap (λ (types : List Qualified). length types) (members_are node h.early h.whole) in
      let all = length-map (rows node) (type_at t.shapes) in
      omega (arith, rows_are, same, all)
  some (plain of c v) h a = absurd (false≢true a)
  some (to c v below) h a = absurd (false≢true a)
  some (array n below) h a = let count = replicated_length n below in let least = h.whole.0 in omega (arith, count, least)
    where
      replicated_length : (n : ℕ) (type : Qualified) → length (replicate n type) ≡ n
      replicated_length zero type = refl
      replicated_length (suc n) type = let rest = replicated_length n type in omega (arith, rest)

  -- ---- lists in braces

  list_there : (j : ℕ) → kind_at t j ≡ kind.InitializerList → 1 ≤ length (parts_at t j)
  list_there j is = let least = (counted_by t (of_unit file t it) j kind.InitializerList is refl).least in let one = list_counts in omega (arith, least, one)

  initialised : (b j : ℕ) → opens k b j ≡ true → 1 ≤ length (k.initialisers j)
  initialised b j o =
      subst (λ parts. 1 ≤ length parts) (sym (initialisers_are file t it j))
      (list_there j (only_list (kind_at t j) (sym (listed_is file t it j) ∙ lists_at k b j o)))

  pub have_parts : HaveParts k IsEarly
  have_parts = record { sized = sized; parts = parts; some = some; initialised = initialised; apart = λ j e. no_list (slice_get it.checked.by.tree.nodes.now j) e }

  pub are_cells : AreCells k IsEarly cells
  are_cells = record { counted = counted_early; sized = sized; parts = parts; made = whole_made }
