-- What is made of a unit as a typed one fits, where its types are bounded.
use Rattle.std.proofs.Common.{◌≡◌, ℕ, zero, suc, ◌+◌, ◌*◌, ◌-◌, ◌^◌, ◌<◌, ◌≤◌, ◌==◌, ◌||◌, inl, inr, min, Bool, true, false, not, List, [], ◌∷◌, ◌++◌, Option, None, Some, fold, length, map, take, slice_get, slice_index_or, refl, sym, ap, subst, ◌∙◌, arith, length-append, if◌then◌else◌}
use Rattle.std.specs.List.{flat_map, sum_by}
use Rattle.std.proofs.Math.Seq.{take-suc, take_all}
use Rattle.std.proofs.lemmas.Bool.{false≢true, and_parts, cases_lt, eqb-true, ltb-true}
use Rattle.std.proofs.lemmas.List.{get_or_past}
use Rattle.std.proofs.lemmas.List.Sums.{sum_by-cons}
use Rattle.std.proofs.lemmas.Option.{slice_get_within, get_or_from_slice_get}
use Rattle.cr_syntax.specs.declared.ctype.CType.{CType}
use Rattle.cr_syntax.specs.declared.ctype.CType.TheVariants.{Int, Struct, Unknown}
use Rattle.cr_syntax.specs.declared.node.Kind.{Kind}
use Rattle.cr_syntax.specs.declared.node.Kind.TheVariants as kind
use Rattle.cr_syntax.specs.declared.node.Node.{Node}
use Rattle.cr_syntax.specs.declared.unit.Unit as source
use Rattle.cr_scopes.specs.declared.names.Names.{Names}
use Rattle.cr_scopes_events.specs.Scripts.{kind_if, kind_at}
use Rattle.cr_check_enclosing.specs.Around.{AreAround}
use Rattle.cr_check_types.specs.declared.layout.Layout.{Layout}
use Rattle.cr_check_types.specs.declared.shape.Shape.{Shape}
use Rattle.cr_check_types.specs.Types.{Qualified, plain, pointer, array, unknown, type_of, with_row, types_of, type_at}
use Rattle.cr_check_types.specs.Relations.{is_whole, is_complete_at}
use Rattle.cr_check_types.specs.Layouts.{fitted, nothing, layout_by as leaf_layout, layout_of, with_member}
use Rattle.cr_check_types.specs.Shared.{IsWith, IsWithAll, gains, has, levels_of}
use Rattle.cr_check_expressions.specs.declared.known.Declared.{Declared}
use Rattle.cr_check_expressions.specs.declared.known.Declared.TheVariants.{Object, Function}
use Rattle.cr_check_expressions.specs.declared.known.Member.{Member}
use Rattle.cr_check_expressions.specs.Known.{named_row}
use Rattle.cr_check_expressions.specs.Ruled.{no_fact}
use Rattle.cr_check_declarators.specs.Declarators.{whole_object}
use Rattle.cr_check_initialisers.specs.declared.lines.Line.{Line}
use Rattle.cr_check_initialisers.specs.declared.lines.Line.TheVariants as line
use Rattle.cr_check_initialisers.specs.Known.{cells_of}
use Rattle.cr_check_initialisers.specs.Plans.{entries_of, puts_of}
use Rattle.cr_check_expressions.specs.declared.least.Break.{Break}
use Rattle.cr_check_declarations.specs.declared.tree.Tree.{Tree}
use Rattle.cr_check_declarations.specs.Before.{rows_of}
use Rattle.cr_check_declarations.specs.Contents.{layout_by}
use Rattle.cr_check_unit.specs.declared.typing.Typing.{Typing}
use Rattle.cr_check_unit.specs.Typing.{cut, entry_at, before_in, IsTyping}
use Rattle.cr_check_unit.specs.Breaks.{IsBroken}
use Rattle.cr_check.specs.declared.checked.Checked.{Checked}
use Rattle.cr_check.specs.Checked.{IsSound}
use Rattle.cr_check.specs.Columns.{IsChecked}
use Rattle.cr_check_unit.specs.Statements.{is_definition, result_in}
use Rattle.cr_typed.specs.declared.typed.Typed.{Typed}
use Rattle.cr_typed.specs.Typed.{MOST_CELLS, IsBefore, row_cells}
use Rattle.cr_typed_columns.specs.declared.checked.CheckedColumns.{CheckedColumns}
use Rattle.cr_typed_columns.specs.Reading.{Parsed, part_of, entry_of}
use Rattle.cr_typed_columns.specs.Rows.{listed, levels_of_all, levels_upto, put_type}
use Rattle.cr_typed_columns.specs.Entities.{whole_of, declared_of, first_declared, entity_of}
use Rattle.cr_typed_columns.specs.Names as names
use Rattle.cr_typed_columns.specs.Expressions.{type_of_node}
use Rattle.cr_typed_columns.specs.Columns.{is_structure, member_type, member_types, puts_at, plan_types, types_of_unit, IsTableOf, IsElaborated}
use Rattle.cr_typed_columns.specs.Reading as reading
use Rattle.cr_typed_fit.specs.Fits.{IsFitting}
use Rattle.cr_typed_unit.specs.Typed.{AreColumnsOf}
use Rattle.cr_meaning_types.specs.Known.Shaped.{IsShaped}
use Rattle.cr_meaning_types.specs.Known.Sighted.{AreSighted}
use Rattle.cr_meaning_types.specs.Known.Sized.{AreTypedefs}
use Rattle.cr_meaning_types.proofs.KnownLemmas.Naming.{ruled}
use Rattle.cr_meaning_types.specs.Fitting.Laws.{TypedUnitsFit}
use Rattle.cr_meaning_types.specs.Fitting.Bounded.{IsBounded, Every, IsEntryBounded, IsMemberBounded, IsBoundedIn}
use Rattle.cr_meaning_types.proofs.FittingLemmas.Types.{array_cells, cells_early}
use Rattle.cr_meaning_types.proofs.FittingLemmas.Names.{every_appended}
use Rattle.cr_meaning_types.proofs.FittingLemmas.Literals.{literals}
use Rattle.cr_meaning_types.proofs.FittingLemmas.Bounding.{structures, all_bounded, own_bounded_at}

-- ---- lists

every_flat_of : {A B : Type 0} (P : A → Type 0) (Q : B → Type 0) (f : A → List B) → ((x : A) → P x → Every Q (f x)) → (xs : List A) → Every P xs → Every Q (flat_map f xs)
every_flat_of P Q f g [] h = tt
every_flat_of P Q f g (x ∷ xs) h = every_appended Q (f x) (flat_map f xs) (g x h.0) (every_flat_of P Q f g xs h.1)

every_of_listed : {A : Type 0} (P : A → Type 0) (f : ℕ → A) (n : ℕ) → ((i : ℕ) → P (f i)) → Every P (listed f n)
every_of_listed P f zero h = tt
every_of_listed P f (suc n) h = every_appended P (listed f n) (f n ∷ []) (every_of_listed P f n h) (h n, tt)

listed_take : {A : Type 0} (xs : List A) (d : A) (n : ℕ) → n ≤ length xs → listed (λ i. slice_index_or xs i d) n ≡ take n xs
listed_take xs d zero low = refl
listed_take xs d (suc n) low = ap (λ l. l ++ slice_index_or xs n d ∷ []) (listed_take xs d n (omega (arith, low))) ∙ sym (take-suc xs n d (omega (arith, low)))

-- a column that is read entry by entry
listed_all : {A : Type 0} (xs : List A) (d : A) (n : ℕ) → length xs ≡ n → listed (λ i. slice_index_or xs i d) n ≡ xs
listed_all xs d n e = listed_take xs d n (omega (arith, e)) ∙ take_all n xs (omega (arith, e))

mapped_or : {A : Type 0} (Q : ℕ → Type 0) (f : A → ℕ) (xs : List A) (p : ℕ) → ((x : A) → Q (f x)) → Q 0 → Q (slice_index_or (map f xs) p 0)
mapped_or Q f [] p h none = subst Q (sym (get_or_past (map f []) p 0 (omega arith))) none
mapped_or Q f (x ∷ xs) zero h none = h x
mapped_or Q f (x ∷ xs) (suc p) h none = mapped_or Q f xs p h none

-- a row that isn't there has no type
made_length : (ss : List Shape) (made : List Qualified) → length (fold with_row made ss) ≡ length made + length ss
made_length [] made = omega arith
made_length (s ∷ ss) made =
    let e = made_length ss (with_row made s) in
    omega (arith, length-append made (type_of (λ row. slice_index_or made row unknown) s ∷ []))

beyond : (ss : List Shape) (row : ℕ) → length ss ≤ row → type_at ss row ≡ unknown
unfolding type_at types_of
beyond ss row h = let e = made_length ss [] in get_or_past (fold with_row [] ss) row unknown (omega arith)

-- ---- structures behind those in them (6.7.2.1p3)

before_leaf : (nodes : List Node) (at : ℕ) (of : CType) (c v : Bool) → is_whole nodes at of ≡ true → IsBefore at (plain of c v)
before_leaf nodes at (Struct node) c v e = ltb-true node at (and_parts _ _ e).0
before_leaf nodes at of c v e = tt

before_complete : (nodes : List Node) (at : ℕ) (t : Qualified) → is_complete_at nodes at t ≡ true → IsBefore at t
before_complete nodes at (plain of c v) e = before_leaf nodes at of c v e
before_complete nodes at (pointer c v t) e = tt
before_complete nodes at (array n t) e = before_complete nodes at t (and_parts (not (n == 0)) (is_complete_at nodes at t) e).1

before_member : (nodes : List Node) (layouts : List Layout) (at : ℕ) (t : Qualified) → IsBounded nodes layouts at t → whole_object (is_complete_at nodes at) t ≡ true → IsBefore at t
before_member nodes layouts at (plain Unknown c v) h e = tt
before_member nodes layouts at (plain of c v) h e = before_leaf nodes at of c v e
before_member nodes layouts at (pointer c v t) h e = tt
before_member nodes layouts at (array n t) h e = before_complete nodes at t h.1.0

-- ---- the cells of members

whole_cells : (nodes : List Node) (layouts : List Layout) (at : ℕ) (t : Qualified) → whole_object (is_complete_at nodes at) t ≡ true → cells_of (take at layouts) t ≡ cells_of layouts t
whole_cells nodes layouts at (plain Unknown c v) e = refl
whole_cells nodes layouts at (plain of c v) e = cells_early nodes layouts at (plain of c v) e
whole_cells nodes layouts at (pointer c v t) e = refl
whole_cells nodes layouts at (array n t) e = by (n == 0) refl (is_complete_at nodes at (array n t)) refl e
  where
    none : (k : ℕ) (ls : List Layout) → k ≡ 0 → cells_of ls (array k t) ≡ 0
    none k ls z = array_cells nodes ls at k t ∙ ap (λ m. m * cells_of ls t) z ∙ (let zero_times : 0 * cells_of ls t ≡ 0 = omega arith in zero_times)

    by : (a : Bool) → (n == 0) ≡ a → (b : Bool) → is_complete_at nodes at (array n t) ≡ b → (a || b) ≡ true → cells_of (take at layouts) (array n t) ≡ cells_of layouts (array n t)
    by true f b g x = none n (take at layouts) (eqb-true n 0 f) ∙ sym (none n layouts (eqb-true n 0 f))
    by false f true g x = cells_early nodes layouts at (array n t) g
    by false f false g x = absurd (false≢true x)

abbrev cells_by : List Layout → Qualified → ℕ
cells_by layouts t = (layout_of layouts t).cells

with_cells : (ls : List Layout) (ts : List Qualified) (before : Layout) → (fold (λ b t. with_member b (layout_of ls t)) before ts).cells ≤ 1048576 → before.cells + sum_by (cells_by ls) ts ≤ 1048576
with_cells ls [] before h = omega (arith, h)
with_cells ls (t ∷ ts) before h =
    let rest = with_cells ls ts (with_member before (layout_of ls t)) h in
    let next : (with_member before (layout_of ls t)).cells ≡ min (before.cells + cells_by ls t) (2 ^ 64 - 1) = refl in
    let sum = sum_by-cons (cells_by ls) t ts in
    omega (arith, rest, next, sum)

sum_early : (nodes : List Node) (layouts : List Layout) (at : ℕ) (ts : List Qualified) → Every (λ t. whole_object (is_complete_at nodes at) t ≡ true) ts → sum_by (cells_by (take at layouts)) ts ≡ sum_by (cells_by layouts) ts
sum_early nodes layouts at [] h = refl
sum_early nodes layouts at (t ∷ ts) h =
    let here : cells_by (take at layouts) t ≡ cells_by layouts t = ap fitted (whole_cells nodes layouts at t h.0) in
    let rest = sum_early nodes layouts at ts h.1 in
    let one = sum_by-cons (cells_by (take at layouts)) t ts in
    let other = sum_by-cons (cells_by layouts) t ts in
    omega (arith, here, rest, one, other)

sum_of_rows : (ls : List Layout) (shapes : List Shape) (rows : List ℕ) → sum_by (λ row. cells_by ls (type_at shapes row)) rows ≡ sum_by (cells_by ls) (map (type_at shapes) rows)
sum_of_rows ls shapes [] = refl
sum_of_rows ls shapes (row ∷ rows) =
    let rest = sum_of_rows ls shapes rows in
    let one = sum_by-cons (λ r. cells_by ls (type_at shapes r)) row rows in
    let other = sum_by-cons (cells_by ls) (type_at shapes row) (map (type_at shapes) rows) in
    omega (arith, rest, one, other)

-- ---- levels and tables

module _ (nodes : List Node) (layouts : List Layout) (small : (p : ℕ) → (slice_index_or layouts p nothing).cells ≤ MOST_CELLS) where
  abbrev pub Small : Qualified → Type 0
  Small t = cells_of layouts t ≤ MOST_CELLS

  leaf_small : (of : CType) → 1 * (leaf_layout layouts of).cells ≤ MOST_CELLS
  leaf_small (Int k) = omega arith
  leaf_small (Struct node) = let s = small node in omega (arith, s)
  leaf_small of = omega arith

  type_small : (at : ℕ) (t : Qualified) → IsBounded nodes layouts at t → Small t
  type_small at (plain of c v) h = leaf_small of
  type_small at (pointer c v t) h = omega arith
  type_small at (array n t) h = subst (λ x. x ≤ MOST_CELLS) (sym (array_cells nodes layouts at n t)) h.1.1

  levels_small : (at : ℕ) (t : Qualified) → IsBounded nodes layouts at t → Every Small (levels_of t)
  levels_small at (plain of c v) h = (leaf_small of, tt)
  levels_small at (pointer c v t) h = every_appended Small (levels_of t) (pointer c v t ∷ []) (levels_small at t h) (type_small at (pointer c v t) h, tt)
  levels_small at (array n t) h = every_appended Small (levels_of t) (array n t ∷ []) (levels_small at t h.0) (type_small at (array n t) h, tt)

  all_levels : (at : ℕ) (ts : List Qualified) → Every (IsBounded nodes layouts at) ts → Every Small (levels_of_all ts)
  all_levels at ts h = every_flat_of (IsBounded nodes layouts at) Small levels_of (levels_small at) ts h

  upto_levels : (at : ℕ) (types : ℕ → List Qualified) (n : ℕ) → ((i : ℕ) → Every (IsBounded nodes layouts at) (types i)) → Every Small (levels_upto types n)
  upto_levels at types zero h = tt
  upto_levels at types (suc n) h = every_appended Small (levels_upto types n) (levels_of_all (types n)) (upto_levels at types n h) (all_levels at (types n) (h n))

  with_small : (type : Qualified) (old new : List Shape) → IsWith old type new → ((row : ℕ) → Small (type_at old row)) → Small type → (row : ℕ) → Small (type_at new row)
  with_small type old new (has own low is same) h g row = subst (λ s. Small (type_at s row)) (sym same) (h row)
  with_small type old new (gains w) h g row = elim (cases_lt row (length old)) [
    | inl low ↦ subst Small (sym (w.grows.keeps row low)) (h row)
    | inr past ↦ elim (cases_lt (length old) row) [
      | inl more ↦ (let longer = w.longer in subst Small (sym (beyond new row (omega (arith, longer, more)))) (leaf_small Unknown))
      | inr least ↦ (let same : length old ≡ row = omega (arith, past, least) in subst (λ r. Small (type_at new r)) same (subst Small (sym w.last) g))
    ]
  ]

  all_small : (types : List Qualified) (old new : List Shape) → IsWithAll old types new → ((row : ℕ) → Small (type_at old row)) → Every Small types → (row : ℕ) → Small (type_at new row)
  all_small [] old new same h g row = subst (λ s. Small (type_at s row)) (sym same) (h row)
  all_small (type ∷ types) old new h all g row = all_small types h.0 new h.2 (with_small type old h.0 h.1 all g.0) g.1 row

  pub table_small : (types : List Qualified) (shapes : List Shape) → IsTableOf types shapes → Every Small types → (row : ℕ) → Small (type_at shapes row)
  table_small types shapes table h = all_small types table.first shapes table.with_all first h
    where
      first : (row : ℕ) → Small (type_at table.first row)
      first zero = subst Small (sym table.no_type.is) (leaf_small Unknown)
      first (suc row) = let alone = table.alone in subst Small (sym (beyond table.first (suc row) (omega (arith, alone)))) (leaf_small Unknown)

-- ---- the columns of a typed unit

module _ (ns : List Node) (layouts : List Layout) (shapes : List Shape) (at : ℕ) (c : Typing) (all : (p : ℕ) → IsBoundedIn ns layouts shapes at c p) (none : IsBounded ns layouts at (type_at shapes 0))
    (u : Parsed) (j : CheckedColumns) (table : j.table.now ≡ shapes) (facts : j.facts.now ≡ c.facts) (named : j.named.now ≡ c.named) (composites : j.composites.now ≡ c.composites)
    (members : j.members.now ≡ c.members) (lines : j.lines.now ≡ c.lines) (results : j.results.now ≡ map (result_in c.named) ns) where
  abbrev P : Qualified → Type 0
  P = IsBounded ns layouts at

  in_table : (row : ℕ) → P (type_at shapes row) → P (type_at j.table.now row)
  in_table row h = subst (λ s. P (type_at s row)) (sym table) h

  row_there : (rows own : List ℕ) → own ≡ rows → ((p : ℕ) → P (type_at shapes (slice_index_or rows p 0))) → (o : Option ℕ) → P (type_at j.table.now (entry_of own 0 o))
  row_there rows own e h None = in_table 0 none
  row_there rows own e h (Some p) = in_table (slice_index_or own p 0) (subst (λ r. P (type_at shapes (slice_index_or r p 0))) (sym e) (h p))

  named_there : (o : Option ℕ) → P (type_at j.table.now (entry_of j.named.now 0 o))
  named_there o = row_there c.named j.named.now named (λ p. (all p).named) o

  composite_there : (o : Option ℕ) → P (type_at j.table.now (entry_of j.composites.now 0 o))
  composite_there o = row_there c.composites j.composites.now composites (λ p. (all p).composite) o

  row_named : (o : Option ℕ) → P (type_at shapes (named_row c.named o))
  row_named None = none
  row_named (Some p) = (all p).named

  result_bounded : (n : Node) → P (type_at shapes (result_in c.named n))
  result_bounded n = by (is_definition n.kind)
    where
      by : (b : Bool) → P (type_at shapes (if b then named_row c.named (slice_get n.parts 1) else 0))
      by true = row_named (slice_get n.parts 1)
      by false = none

  result_there : (o : Option ℕ) → P (type_at j.table.now (entry_of j.results.now 0 o))
  result_there o = row_there (map (result_in c.named) ns) j.results.now results (λ p. mapped_or (λ row. P (type_at shapes row)) (result_in c.named) ns p result_bounded none) o

  type_bounded : (i : ℕ) → P (type_of_node j i)
  type_bounded i =
      in_table (slice_index_or j.facts.now i no_fact).row (subst (λ f. P (type_at shapes (slice_index_or f i no_fact).row)) (sym facts) (all i).fact)

  entity_bounded : (d : Declared) (i : ℕ) (entity : Option ℕ) → P (names.entity_type d u.nodes j i entity)
  entity_bounded (Function row more) i entity = tt
  entity_bounded (Object row register) i entity = composite_there _
  entity_bounded d i entity = named_there (whole_of u.nodes j i)

  name_bounded : (i : ℕ) → P (names.name_type u j i)
  name_bounded i = by (names.is_here i (first_declared u j.names.now (entity_of u.nodes j.names.now i)))
    where
      by : (b : Bool) → P (if b then names.entity_type (declared_of j (whole_of u.nodes j i)) u.nodes j i (entity_of u.nodes j.names.now i) else names.type_named j (whole_of u.nodes j i))
      by true = entity_bounded (declared_of j (whole_of u.nodes j i)) i (entity_of u.nodes j.names.now i)
      by false = named_there (whole_of u.nodes j i)

  named_by : (k : Option Kind) (i : ℕ) → P (names.named_by k u j i)
  named_by (Some kind.NameDeclarator) i = name_bounded i
  named_by (Some kind.Cast) i = named_there (part_of u.nodes (Some i) 0)
  named_by (Some kind.Return) i = result_there _
  named_by k i = tt

  own_members : (ms : List Member) → Every (IsMemberBounded ns layouts shapes at) ms → Every P (map (member_type (type_at shapes)) ms)
  own_members [] h = tt
  own_members (m ∷ ms) h = (h.0.0, own_members ms h.1)

  members_bounded : (nodes : List Node) (i : ℕ) → Every P (member_types nodes j i)
  members_bounded nodes i = by (is_structure (kind_at nodes i))
    where
      by : (b : Bool) → Every P (if b then map (member_type (type_at j.table.now)) (slice_index_or j.members.now i []) else [])
      by true =
          subst (λ s. Every P (map (member_type (type_at s)) (slice_index_or j.members.now i []))) (sym table)
          (subst (λ ms. Every P (map (member_type (type_at shapes)) (slice_index_or ms i []))) (sym members) (own_members (slice_index_or c.members i []) (all i).members))
      by false = tt

  own_puts : (xs : List Line) → Every (IsEntryBounded ns layouts at) (entries_of shapes xs) → Every P (map (put_type shapes) (puts_of xs))
  unfolding entries_of
  own_puts [] h = tt
  own_puts (line.Put p ∷ xs) h = (h.0, own_puts xs h.1)
  own_puts (line.Excess list ∷ xs) h = own_puts xs h.1

  plans_bounded : (i : ℕ) → Every P (plan_types j i)
  plans_bounded i =
      subst (λ s. Every P (map (put_type s) (puts_at j i))) (sym table)
      (subst (λ ls. Every P (map (put_type shapes) (puts_of (slice_index_or ls i [])))) (sym lines) (own_puts (slice_index_or c.lines i []) (all i).lines))

  pub unit_small : (small : (p : ℕ) → (slice_index_or layouts p nothing).cells ≤ MOST_CELLS) → Every (Small ns layouts small) (types_of_unit u j)
  unit_small small =
      let S = Small ns layouts small in
      let one = all_levels ns layouts small at (listed (type_of_node j) (length u.nodes)) (every_of_listed P (type_of_node j) (length u.nodes) type_bounded) in
      let two = all_levels ns layouts small at (listed (names.named_of u j) (length u.nodes)) (every_of_listed P (names.named_of u j) (length u.nodes) (λ i. named_by _ i)) in
      let three = upto_levels ns layouts small at (member_types u.nodes j) (length u.nodes) (members_bounded u.nodes) in
      let four = upto_levels ns layouts small at (plan_types j) (length u.nodes) plans_bounded in
      every_appended S _ _ one (every_appended S _ _ two (every_appended S _ _ three four))

-- ---- members by their rows

all_of_every : (Q : Qualified → Type 0) (f : ℕ → Qualified) (rows : List ℕ) → Every Q (map f rows) → (i d : ℕ) → i < length rows → Q (f (slice_index_or rows i d))
all_of_every Q f [] h i d low = absurd (omega (arith, low))
all_of_every Q f (row ∷ rows) h zero d low = h.0
all_of_every Q f (row ∷ rows) h (suc i) d low = all_of_every Q f rows h.1 i d (omega (arith, low))

members_types : (s : List Shape) (ms : List Member) → map (type_at s) (rows_of ms) ≡ map (member_type (type_at s)) ms
members_types s [] = refl
members_types s (m ∷ ms) = ap (λ ts. type_at s m.row ∷ ts) (members_types s ms)

-- what each member has, its type has
every_type : (s : List Shape) (M : Member → Type 0) (Q : Qualified → Type 0) → ((m : Member) → M m → Q (type_at s m.row)) → (ms : List Member) → Every M ms → Every Q (map (member_type (type_at s)) ms)
every_type s M Q f [] h = tt
every_type s M Q f (m ∷ ms) h = (f m h.0, every_type s M Q f ms h.1)

structure_kind : (k : Kind) → is_structure (Some k) ≡ true → k ≡ kind.StructContent
structure_kind kind.StructContent e = refl
structure_kind k e = absurd (false≢true e)

structure_node : (ns : List Node) (k : ℕ) → is_structure (kind_at ns k) ≡ true → (n : Node) × ((slice_get ns k ≡ Some n) × (n.kind ≡ kind.StructContent))
structure_node ns k e = by (slice_get ns k) refl e
  where
    by : (o : Option Node) → slice_get ns k ≡ o → is_structure (kind_if o) ≡ true → (n : Node) × ((slice_get ns k ≡ Some n) × (n.kind ≡ kind.StructContent))
    by None at f = absurd (false≢true f)
    by (Some n) at f = (n, (at, structure_kind n.kind f))

fitted_small : (x : ℕ) → x ≤ 1048576 → fitted x ≤ 1048576
fitted_small x h = omega (arith, h)

-- ---- the law

module _ (file : List ℕ) (unit : source.Unit) (of_names : Names) (checked : Checked) (u : Tree) (j : CheckedColumns) (t : Typed) (of_unit : IsChecked file unit of_names checked u) (sound : IsSound file unit of_names checked u)
    (columns : AreColumnsOf of_names checked u j) (is : IsElaborated file (reading.parsed_of unit) checked.texts j t) (shaped : IsShaped u) (sighted : AreSighted u) (typedefs : AreTypedefs u)
    (few : (node : ℕ) → length (slice_index_or checked.texts node []) ≤ MOST_CELLS) where
  abbrev c : Typing
  c = checked.whole.typing

  abbrev ns : List Node
  ns = u.nodes.now

  typing : IsTyping u checked.texts checked.table c
  typing = of_unit.whole.typing

  holds : (b : Break) → IsBroken u checked.texts checked.table c b → ⊥
  holds b broken = sound.constraints b (inl broken)

  around : AreAround u.nodes.now u.above.now u.around.now
  around =
      let tree = of_unit.whole.tree in
      subst (λ a. AreAround u.nodes.now u.above.now a) (sym tree.around)
      (subst (λ a. AreAround u.nodes.now a checked.surroundings.around) (sym tree.above)
      (subst (λ n. AreAround n checked.surroundings.above checked.surroundings.around) (sym tree.nodes) of_unit.surroundings.around))

  small : (p : ℕ) → (slice_index_or c.layouts p nothing).cells ≤ MOST_CELLS
  small = structures u checked.texts checked.table c typing holds

  layouts_are : t.layouts ≡ c.layouts
  layouts_are =
      is.layouts_are
      ∙ listed_all j.layouts.now nothing (length unit.nodes) (ap length columns.layouts ∙ typing.whole.layouts ∙ ap length of_unit.whole.tree.nodes)
      ∙ columns.layouts

  all : (p : ℕ) → IsBoundedIn ns c.layouts checked.table (length ns) c p
  all = all_bounded u checked.texts checked.table c typing holds shaped around sighted typedefs few (length ns) (omega arith)

  types_small : Every (Small ns c.layouts small) (types_of_unit (reading.parsed_of unit) j)
  types_small =
      unit_small ns c.layouts checked.table (length ns) c all (subst (IsBounded ns c.layouts (length ns)) (sym typing.none) tt) (reading.parsed_of unit) j columns.table columns.facts columns.named columns.composites columns.members columns.lines
      (columns.results ∙ of_unit.whole.marked.results) small

  row_small : (row : ℕ) → row_cells t row ≤ MOST_CELLS
  row_small row =
      subst (λ ls. cells_by ls (type_at t.shapes row) ≤ MOST_CELLS) (sym layouts_are)
      (fitted_small (cells_of c.layouts (type_at t.shapes row)) (table_small ns c.layouts small (types_of_unit (reading.parsed_of unit) j) t.shapes is.shapes types_small row))

  -- the types of members, as they were checked
  abbrev own_types : Bool → ℕ → List Qualified
  own_types b k = if b then map (member_type (type_at checked.table)) (slice_index_or c.members k []) else []

  types_are : (k : ℕ) (rows : List ℕ) → slice_get t.members k ≡ Some rows → map (type_at t.shapes) rows ≡ own_types (is_structure (kind_at ns k)) k
  types_are k rows e =
      let low = slice_get_within t.members k rows e in
      let count = is.members.count in
      sym (ap (map (type_at t.shapes)) (get_or_from_slice_get t.members k rows [] e)) ∙ (is.members.each k (omega (arith, low, count))).are
      ∙ ap (λ nodes. member_types nodes j k) (sym of_unit.whole.tree.nodes)
      ∙ ap (λ s. if is_structure (kind_at ns k) then map (member_type (type_at s)) (slice_index_or j.members.now k []) else []) columns.table
      ∙ ap (λ ms. if is_structure (kind_at ns k) then map (member_type (type_at checked.table)) (slice_index_or ms k []) else []) columns.members

  own_members_at : (k : ℕ) (n : Node) → slice_get ns k ≡ Some n → Every (IsMemberBounded ns c.layouts checked.table k) (slice_index_or c.members k [])
  own_members_at k n at = (own_bounded_at u checked.texts checked.table c typing holds shaped around sighted typedefs few k n at).members

  structure_few : (k : ℕ) (n : Node) → slice_get ns k ≡ Some n → n.kind ≡ kind.StructContent → sum_by (cells_by c.layouts) (own_types true k) ≤ MOST_CELLS
  structure_few k n at of =
      let types = map (type_at checked.table) (rows_of (slice_index_or c.members k [])) in
      let own : (entry_at c k).own.layout ≡ layout_by kind.StructContent (before_in checked.table (cut k c)) types =
      (ruled u checked.texts checked.table c typing holds k n at).layout ∙ ap (λ x. layout_by x (before_in checked.table (cut k c)) types) of in
      let low = small k in
      let cells : (entry_at c k).own.layout.cells ≡ (fold (λ b type. with_member b (layout_of (take k c.layouts) type)) nothing types).cells = ap (λ (l : Layout). l.cells) own in
      let sum = with_cells (take k c.layouts) types nothing (omega (arith, low, cells)) in
      let same = sum_early ns c.layouts k types
      (subst (Every (λ type. whole_object (is_complete_at ns k) type ≡ true)) (sym (members_types checked.table (slice_index_or c.members k [])))
      (every_type checked.table (IsMemberBounded ns c.layouts checked.table k) (λ type. whole_object (is_complete_at ns k) type ≡ true) (λ m x. x.1) (slice_index_or c.members k []) (own_members_at k n at))) in
      subst (λ ts. sum_by (cells_by c.layouts) ts ≤ MOST_CELLS) (members_types checked.table (slice_index_or c.members k [])) (omega (arith, sum, same))

  types_few : (k : ℕ) (b : Bool) → is_structure (kind_at ns k) ≡ b → sum_by (cells_by c.layouts) (own_types b k) ≤ MOST_CELLS
  types_few k true e = let node = structure_node ns k e in structure_few k node.0 node.1.0 node.1.1
  types_few k false e = omega arith

  types_before : (k : ℕ) (b : Bool) → is_structure (kind_at ns k) ≡ b → Every (IsBefore k) (own_types b k)
  types_before k true e =
      let node = structure_node ns k e in
      every_type checked.table (IsMemberBounded ns c.layouts checked.table k) (IsBefore k) (λ m x. before_member ns c.layouts k (type_at checked.table m.row) x.0 x.1) (slice_index_or c.members k []) (own_members_at k node.0 node.1.0)
  types_before k false e = tt

  pub unit_fits : IsFitting t
  unit_fits = record {
    cells_fit = row_small;
    members_fit = λ k rows e.
        subst (λ n. n ≤ MOST_CELLS) (sym (sum_of_rows t.layouts t.shapes rows))
        (subst (λ ls. sum_by (cells_by ls) (map (type_at t.shapes) rows) ≤ MOST_CELLS) (sym layouts_are)
        (subst (λ ts. sum_by (cells_by c.layouts) ts ≤ MOST_CELLS) (sym (types_are k rows e)) (types_few k (is_structure (kind_at ns k)) refl)));
    members_before = λ k rows e. all_of_every (IsBefore k) (type_at t.shapes) rows (subst (Every (IsBefore k)) (sym (types_are k rows e)) (types_before k (is_structure (kind_at ns k)) refl));
  }

pub fits : TypedUnitsFit
fits file unit of_names checked u j t of_unit sound columns is tokenizes shaped sighted typedefs =
    unit_fits file unit of_names checked u j t of_unit sound columns is shaped sighted typedefs (literals file unit.tokens.list.items unit.nodes checked.texts tokenizes of_unit.texts)
