-- The members of a structure are all its cells, so that each lies within it (C11 6.7.2.1p15).
use Rattle.std.proofs.Common.{◌≡◌, ℕ, zero, suc, ◌+◌, ◌*◌, ◌<◌, ◌≤◌, inl, inr, ◌==◌, true, not, nat_lt, List, [], ◌∷◌, Option, None, Some, drop, fold, length, map, take, sum_by, refl, sym, ap, subst, ◌∙◌, slice_get, slice_index_or, arith}
use Rattle.std.specs.List.{All, flat_map}
use Rattle.std.proofs.lemmas.Bool.{and_parts, cases_lt, false≢true}
use Rattle.std.proofs.lemmas.List.{get_or_past, get_or-take, length-append, length-map}
use Rattle.std.proofs.lemmas.List.Sums.{sum_by-cons, sum_by_more_le, get_or-le-sum_by}
use Rattle.std.proofs.lemmas.List.Elements.{All-head, All-tail}
use Rattle.std.proofs.lemmas.Option.{slice_get_within}
use Rattle.cr_syntax.specs.declared.ctype.CType.TheVariants.{Int, Struct}
use Rattle.cr_syntax.specs.declared.node.Kind.{Kind}
use Rattle.cr_syntax.specs.declared.node.Kind.TheVariants as kind
use Rattle.cr_syntax.specs.declared.node.Node.{Node}
use Rattle.cr_syntax.specs.Tables.{rule_of, side_of}
use Rattle.cr_syntax_nodes.specs.Nodes.{least}
use Rattle.cr_scopes_events.specs.Scripts as scripts
use Rattle.cr_check_types.specs.declared.layout.Layout.{Layout}
use Rattle.cr_check_types.specs.Types.{Qualified, plain, pointer as to, array, type_at}
use Rattle.cr_check_types.specs.Relations.{is_content, is_content_if, is_complete_at}
use Rattle.cr_check_types.specs.Layouts.{fitted, count_of, element_of, single_of, times, layout_of, with_member, nothing}
use Rattle.cr_check_operands.specs.Rules.{constant_in, volatile_in, with_qualifiers_of}
use Rattle.cr_check_expressions.specs.declared.known.Member.{Member}
use Rattle.cr_check_declarators.specs.Structures.{laid_out}
use Rattle.cr_check_declarations.specs.Before.{rows_of}
use Rattle.cr_check_declarations.specs.Contents.{layout_by}
use Rattle.cr_check_declarations.specs.Named.{member_of, members_by}
use Rattle.cr_check_unit.specs.Typing.{cut, entry_at, before_in, IsRuled, IsRuledIf, IsTyping}
use Rattle.cr_typed.specs.declared.typed.Typed.{Typed}
use Rattle.cr_typed.specs.Typed.{IsBefore, MOST_CELLS, row_cells}
use Rattle.cr_typed_columns.specs.Columns.{layout_at}
use Rattle.cr_meaning_operations.specs.Shapes.{type_of_node, cells_of}
use Rattle.cr_meaning_operations.specs.Operations.{kind_if, kind_at, parts_if, part_at}
use Rattle.cr_meaning_typing.specs.Typed.Placed.{IsObject}
use Rattle.cr_meaning_typing.proofs.TypedLemmas.Units.{listed_at}
use Rattle.cr_meaning_typing.specs.Expressions.Places.{IsMemberIn}
use Rattle.cr_meaning_declarations.specs.Declared.Files.{IsUnitOfFile}
use Rattle.cr_meaning_declarations.proofs.DeclaredLemmas.Files.{has_unit}
use Rattle.cr_meaning_declarations.proofs.DeclaredLemmas.Nodes.{of_unit}
use Rattle.cr_meaning_files.specs.Structures.{IsWhole, AreMembersWhole}
use Rattle.cr_meaning_files.proofs.Cells.{exact_within, qualified_object, all_structured, before_structured, IsFull, some_cells, object}
use Rattle.cr_meaning_references.proofs.TreesLemmas.Grammar.{part_in, Stands}
use Rattle.cr_meaning_references.proofs.TreesLemmas.Tree.{has_part, needed}
use Rattle.cr_meaning_files.proofs.Members.{IsChosen, chosen_type, member_rows}

pub map_map : {A B C : Type 0} (f : B → C) (g : A → B) (xs : List A) → map f (map g xs) ≡ map (λ x. f (g x)) xs
map_map f g [] = refl
map_map f g (x ∷ xs) = ap (λ ys. f (g x) ∷ ys) (map_map f g xs)

some_row : (xs : List ℕ) (k : ℕ) → k < length xs → slice_get xs k ≡ Some (slice_index_or xs k 0)
some_row [] k low = absurd (omega (arith, low))
some_row (x ∷ xs) zero low = refl
some_row (x ∷ xs) (suc k) low = some_row xs k (omega (arith, low))

-- a structure's members one behind another have as many cells as all of them, where these are few
sum_of : (f : ℕ → Qualified) (cells : ℕ → ℕ) (layouts : List Layout) (rows : List ℕ) (before : Layout) → All (λ row. (layout_of layouts (f row)).cells ≡ cells row) rows
    → before.cells + sum_by cells rows ≤ MOST_CELLS
    → (fold (λ (own : Layout) type. with_member own (layout_of layouts type)) before (map f rows)).cells ≡ before.cells + sum_by cells rows
sum_of f cells layouts [] before same few = omega arith
sum_of f cells layouts (row ∷ rows) before same few =
    let head = All-head (λ row. (layout_of layouts (f row)).cells ≡ cells row) row rows same in
    let all = sum_by-cons cells row rows in
    let next : fitted (before.cells + (layout_of layouts (f row)).cells) ≡ before.cells + cells row = exact_within (before.cells + (layout_of layouts (f row)).cells) (omega (arith, few, all, head)) ∙ ap (λ c. before.cells + c) head in
    sum_of f cells layouts rows (with_member before (layout_of layouts (f row))) (All-tail (λ row. (layout_of layouts (f row)).cells ≡ cells row) row rows same) (omega (arith, next, few, all))
    ∙ omega (arith, next, all)

pub content_at : (o : Option Node) → kind_if o ≡ kind.StructContent → scripts.kind_if o ≡ Some kind.StructContent
content_at None e = absurd (cc e)
content_at (Some n) e = ap Some e

content_kind : (o : Option Node) → is_content_if o ≡ true → kind_if o ≡ kind.StructContent
content_kind None e = absurd (false≢true e)
content_kind (Some n) e = by n.kind e
  where
    by : (k : Kind) → is_content k ≡ true → k ≡ kind.StructContent
    by kind.StructContent e = refl
    by k e = absurd (false≢true e)

some_count : (n : ℕ) → not (n == 0) ≡ true → 1 ≤ n
some_count zero e = absurd (false≢true e)
some_count (suc n) e = omega arith

-- a structure has declarations of members, and each of them a declarator (6.7.2.1p1)
content_part : (c : Kind) → Stands (part_in (side_of kind.StructContent) 0) c → c ≡ kind.MemberDeclaration
unfolding rule_of
content_part kind.MemberDeclaration h = refl
content_part c h = absurd (false≢true h)

content_counts : least (side_of kind.StructContent) ≡ 1
unfolding rule_of
content_counts = refl

declaration_counts : least (side_of kind.MemberDeclaration) ≡ 2
unfolding rule_of
declaration_counts = refl

first_of_all : {A : Type 0} (f : ℕ → List A) (xs : List ℕ) (x : ℕ) → slice_get xs 0 ≡ Some x → length (f x) ≤ length (flat_map f xs)
first_of_all f [] x e = absurd (cc e)
first_of_all f (y ∷ ys) x e =
    let same : y ≡ x = cc e in
    let lengths : length (f y) ≡ length (f x) = ap (λ z. length (f z)) same in
    let all = length-append (f y) (flat_map f ys) in
    omega (arith, lengths, all)

more_than_one : {A : Type 0} (g : ℕ → A) (xs : List ℕ) (x : ℕ) → slice_get xs 1 ≡ Some x → 1 ≤ length (map g (drop 1 xs))
more_than_one g [] x e = absurd (cc e)
more_than_one g (y ∷ []) x e = absurd (cc e)
more_than_one g (y ∷ z ∷ xs) x e = omega arith

-- a complete type is one of objects
pub complete_whole : (t : Typed) (i : ℕ) (type : Qualified) → is_complete_at t.nodes i type ≡ true → IsWhole t type
complete_whole t i (plain (Int k) c v) e = tt
complete_whole t i (plain (Struct node) c v) e = content_kind (slice_get t.nodes node) (and_parts (nat_lt node i) (is_content_if (slice_get t.nodes node)) e).1
complete_whole t i (plain of c v) e = absurd (false≢true e)
complete_whole t i (to c v below) e = tt
complete_whole t i (array n below) e =
    let both = and_parts (not (n == 0)) (is_complete_at t.nodes i below) e in (some_count n both.0, complete_whole t i below both.1)

module _ (file : List ℕ) (t : Typed) (it : IsUnitOfFile file t) where
  open it use {checked.{checked}, made_by, typing}
  open has_unit file t it use {count}

  h : IsTyping made_by.tree checked.texts checked.table checked.whole.typing
  h = made_by.is.whole.typing

  -- ---- the layouts are those that were checked

  pub layouts_at : (d : ℕ) → slice_index_or t.layouts d nothing ≡ slice_index_or typing.layouts d nothing
  layouts_at d = elim (cases_lt d (length it.unit.nodes)) [
    | inl low ↦
        ap (λ ls. slice_index_or ls d nothing) made_by.elaborated.layouts_are ∙ listed_at (layout_at made_by.columns) (length it.unit.nodes) d nothing low
        ∙ ap (λ ls. slice_index_or ls d nothing) made_by.are.layouts
    | inr past ↦
        (let own = made_by.fits.layouts_count in
        let theirs = h.whole.layouts in
        let nodes : length made_by.tree.nodes.now ≡ length it.unit.nodes = ap length made_by.is.whole.tree.nodes in
        get_or_past t.layouts d nothing (omega (arith, own, count, past)) ∙ sym (get_or_past typing.layouts d nothing (omega (arith, theirs, nodes, past))))
  ]

  pub early_single : (d : ℕ) (type : Qualified) → IsBefore d type → single_of (take d typing.layouts) (element_of type) ≡ single_of t.layouts (element_of type)
  early_single d (plain (Struct inner) c v) low = get_or-take d typing.layouts inner nothing low ∙ sym (layouts_at inner)
  early_single d (plain of c v) low = refl
  early_single d (to c v below) low = refl
  early_single d (array n below) low = early_single d below low

  pub early : (d : ℕ) (type : Qualified) → IsBefore d type → layout_of (take d typing.layouts) type ≡ layout_of t.layouts type
  early d type low = ap (times (count_of type)) (early_single d type low)

  -- ---- a structure has the cells of its members

  pub rows_at : (d : ℕ) → d < length t.nodes → slice_get t.members d ≡ Some (slice_index_or t.members d [])
  rows_at d low = there t.members d (let own = made_by.fits.members_count in omega (arith, own, low))
    where
      there : (xs : List (List ℕ)) (k : ℕ) → k < length xs → slice_get xs k ≡ Some (slice_index_or xs k [])
      there [] k low = absurd (omega (arith, low))
      there (x ∷ xs) zero low = refl
      there (x ∷ xs) (suc k) low = there xs k (omega (arith, low))

  members_few : (d : ℕ) → d < length t.nodes → sum_by (row_cells t) (slice_index_or t.members d []) ≤ MOST_CELLS
  members_few d low = made_by.fits.members_fit d (slice_index_or t.members d []) (rows_at d low)

  pub sum_is : (d : ℕ) → d < length t.nodes → scripts.kind_at it.unit.nodes d ≡ Some kind.StructContent
      → (slice_index_or t.layouts d nothing).cells ≡ sum_by (row_cells t) (slice_index_or t.members d [])
  sum_is d low content = of_node (slice_get it.unit.nodes d) refl content
    where
      of_node : (o : Option Node) → slice_get it.unit.nodes d ≡ o → scripts.kind_if o ≡ Some kind.StructContent → (slice_index_or t.layouts d nothing).cells ≡ sum_by (row_cells t) (slice_index_or t.members d [])
      of_node None at e = absurd (cc e)
      of_node (Some n) at e =
          let same : n.kind ≡ kind.StructContent = cc e in
          let there : slice_get made_by.tree.nodes.now d ≡ Some n = ap (λ ns. slice_get ns d) made_by.is.whole.tree.nodes ∙ at in
          let ruled = subst (IsRuledIf made_by.tree checked.texts checked.table (cut d typing) (entry_at typing d) d) there (h.each d) in
          let members : List Member = slice_index_or typing.members d [] in
          let rows : List ℕ = slice_index_or t.members d [] in
          let types : map (type_at checked.table) (rows_of members) ≡ map (type_at t.shapes) rows =
          map_map (type_at checked.table) (λ (m : Member). m.row) members ∙ sym (member_rows file t it d low content) in
          let own : slice_index_or typing.layouts d nothing ≡ laid_out (take d typing.layouts) (map (type_at t.shapes) rows) =
          ruled.layout ∙ ap (λ k. layout_by k (before_in checked.table (cut d typing)) (map (type_at checked.table) (rows_of members))) same ∙ ap (laid_out (take d typing.layouts)) types in
          let before = made_by.fits.members_before d rows (rows_at d low) in
          let few = members_few d low in
          ap (λ (l : Layout). l.cells) (layouts_at d ∙ own)
          ∙ sum_of (type_at t.shapes) (row_cells t) (take d typing.layouts) rows nothing (λ k x less. ap (λ (l : Layout). l.cells) (early d (type_at t.shapes (slice_index_or rows k x)) (before k x less))) (omega (arith, few))
          ∙ omega arith

  ruled_at : (d : ℕ) (n : Node) → slice_get t.nodes d ≡ Some n → IsRuled made_by.tree checked.texts checked.table (cut d typing) (entry_at typing d) d n
  ruled_at d n at =
      let there : slice_get made_by.tree.nodes.now d ≡ Some n = ap (λ ns. slice_get ns d) (made_by.is.whole.tree.nodes ∙ sym made_by.elaborated.nodes_are) ∙ at in
      subst (IsRuledIf made_by.tree checked.texts checked.table (cut d typing) (entry_at typing d) d) there (h.each d)

  pub rows_some : (d : ℕ) → d < length t.nodes → kind_at t d ≡ kind.StructContent → 1 ≤ length (slice_index_or t.members d [])
  rows_some d low content =
      let u = of_unit file t it in
      let p = part_at t d 0 in
      let first = has_part t u d 0 p (needed t u d 0 kind.StructContent content refl (let one = content_counts in omega (arith, one))) in
      let is = content_part (kind_at t p) (subst (λ c. Stands (part_in (side_of c) 0) (kind_at t p)) content first.stands) in
      let second = needed t u p 1 kind.MemberDeclaration is refl (let two = declaration_counts in omega (arith, two)) in
      let whole : slice_index_or typing.members d [] ≡ members_by kind.StructContent made_by.tree.nodes.now made_by.tree.names.now (cut d typing).named (cut d typing).members first.node.parts =
      (ruled_at d first.node first.at).members ∙ ap (λ k. members_by k made_by.tree.nodes.now made_by.tree.names.now (cut d typing).named (cut d typing).members first.node.parts) (sym (ap kind_if first.at) ∙ content) in
      let own : slice_index_or typing.members p [] ≡ members_by kind.MemberDeclaration made_by.tree.nodes.now made_by.tree.names.now (cut p typing).named (cut p typing).members first.own.parts =
      (ruled_at p first.own first.own_at).members ∙ ap (λ k. members_by k made_by.tree.nodes.now made_by.tree.names.now (cut p typing).named (cut p typing).members first.own.parts) (sym (ap kind_if first.own_at) ∙ is) in
      let one = more_than_one (member_of made_by.tree.nodes.now made_by.tree.names.now (cut p typing).named) first.own.parts _ (ap (λ o. slice_get (parts_if o) 1) (sym first.own_at) ∙ second) in
      let among = first_of_all (λ q. slice_index_or (take d typing.members) q []) first.node.parts p first.is in
      let early_members = ap (λ (ms : List Member). length ms) (get_or-take d typing.members p [] first.below) in
      let own_length = ap (λ (ms : List Member). length ms) own in
      let whole_length = ap (λ (ms : List Member). length ms) whole in
      let same = ap (λ (types : List Qualified). length types) (member_rows file t it d low (ap (λ ns. scripts.kind_at ns d) (sym made_by.elaborated.nodes_are) ∙ content_at (slice_get t.nodes d) content)) in
      let rows = length-map (slice_index_or t.members d []) (type_at t.shapes) in
      let members = length-map (slice_index_or typing.members d []) (λ (m : Member). type_at checked.table m.row) in
      omega (arith, one, among, early_members, own_length, whole_length, same, rows, members)

  module _ (made : AreMembersWhole t) where
    -- each structure has cells
    full_below : (m d : ℕ) → d < m → IsFull t d
    full_below zero d less content = absurd (omega (arith, less))
    full_below (suc m) d less content = of_node (slice_get t.nodes d) refl (λ inner below. full_below m inner (omega (arith, less, below)))
      where
        of_node : (o : Option Node) → slice_get t.nodes d ≡ o → ((inner : ℕ) → inner < d → IsFull t inner) → 1 ≤ (slice_index_or t.layouts d nothing).cells
        of_node None at full = absurd (cc (sym (ap kind_if at) ∙ content))
        of_node (Some n) at full =
            let low = slice_get_within t.nodes d n at in
            let rows : List ℕ = slice_index_or t.members d [] in
            let some = rows_some d low content in
            let first = made d 0 (slice_index_or rows 0 0) (some_row rows 0 (omega (arith, some))) in
            let before = made_by.fits.members_before d rows (rows_at d low) 0 0 (omega (arith, some)) in
            let one = some_cells t (type_at t.shapes (slice_index_or rows 0 0)) first
            (before_structured (IsFull t) d full (type_at t.shapes (slice_index_or rows 0 0)) before) in
            let among = get_or-le-sum_by (row_cells t) rows 0 0 (omega (arith, some)) in
            let sum = sum_is d low (ap (λ ns. scripts.kind_at ns d) (sym made_by.elaborated.nodes_are) ∙ content_at (slice_get t.nodes d) content) in
            omega (arith, sum, one, among)

    full : (d : ℕ) → IsFull t d
    full d = full_below (suc d) d (omega arith)

    pub whole_object : (type : Qualified) → IsWhole t type → cells_of t type ≤ MOST_CELLS → IsObject t (cells_of t type) type
    whole_object type whole few = object t type whole (all_structured (IsFull t) full type) few

    pub whole_some : (type : Qualified) → IsWhole t type → 1 ≤ cells_of t type
    whole_some type whole = some_cells t type whole (all_structured (IsFull t) full type)

    -- a member lies within its structure
    pub member_in : (i : ℕ) (whole type : Qualified) → IsChosen it.unit.nodes t i whole type → type_of_node t i ≡ with_qualifiers_of whole type → IsMemberIn t i whole
    member_in i whole type c named = by whole c named
      where
        by : (whole : Qualified) → IsChosen it.unit.nodes t i whole type → type_of_node t i ≡ with_qualifiers_of whole type → IsMemberIn t i whole
        by (plain (Struct own) d w) c named =
            let node : own ≡ c.node = cc c.structure in
            let rows : List ℕ = slice_index_or t.members own [] in
            let k : ℕ = slice_index_or t.chosen i 0 in
            let row : ℕ = slice_index_or rows k 0 in
            let at : slice_get (map (type_at t.shapes) rows) k ≡ Some type = ap (λ s. slice_get (map (type_at t.shapes) (slice_index_or t.members s [])) k) node ∙ c.at in
            let within = slice_get_within (map (type_at t.shapes) rows) k type at in
            let lengths = length-map rows (type_at t.shapes) in
            let low : own < length t.nodes = (let l = c.low in omega (arith, node, l)) in
            let content : scripts.kind_at it.unit.nodes own ≡ Some kind.StructContent = ap (scripts.kind_at it.unit.nodes) node ∙ c.content in
            let type_is : type_at t.shapes row ≡ type = chosen_type it.unit.nodes t i (plain (Struct own) d w) type c in
            let whole_type = made own k row (some_row rows k (omega (arith, within, lengths))) in
            let few = members_few own low in
            let sum = sum_is own low content in
            let part = sum_by_more_le (row_cells t) rows k 0 (omega (arith, within, lengths)) in
            let one = whole_some (type_at t.shapes row) whole_type in
            let cells : cells_of t (plain (Struct own) d w) ≡ sum_by (row_cells t) rows = structure_cells own (omega (arith, sum, few)) ∙ sum in
            record {
              within = record { some = one; within = omega (arith, cells, part) };
              object = subst (IsObject t (row_cells t row)) (sym (named ∙ ap (with_qualifiers_of (plain (Struct own) d w)) (sym type_is)))
                  (qualified_object t (row_cells t row) (constant_in (plain (Struct own) d w)) (volatile_in (plain (Struct own) d w)) (type_at t.shapes row)
                  (whole_object (type_at t.shapes row) whole_type (made_by.fits.cells_fit row)));
            }
          where
            structure_cells : (own : ℕ) → (slice_index_or t.layouts own nothing).cells ≤ MOST_CELLS → fitted (1 * (slice_index_or t.layouts own nothing).cells) ≡ (slice_index_or t.layouts own nothing).cells
            structure_cells own few = omega (arith, few)
        by (plain of d w) c named = absurd (cc c.structure)
        by (to d w below) c named = absurd (cc c.structure)
        by (array n below) c named = absurd (cc c.structure)
