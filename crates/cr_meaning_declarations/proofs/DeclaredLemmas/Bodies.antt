-- What a call goes on with declares nothing by itself: the body of a definition (C11 6.9.1), or, of a name without one, a word.
use Rattle.std.proofs.Common.{◌≡◌, ℕ, zero, suc, ◌+◌, ◌<◌, ◌≤◌, ◌==◌, Bool, true, false, List, [], ◌∷◌, Option, None, Some, length, map, drop, slice_get, slice_index_or, refl, sym, subst, ap, ◌∙◌, inl, inr, arith}
use Rattle.std.specs.Prelude.{codes, nat_lt, if◌then◌else◌}
use Rattle.std.proofs.lemmas.Bool.{false≢true, cases_lt}
use Rattle.std.proofs.lemmas.List.{get_or_past, get_or-map, get_or_push, length_push, get_or_append_left}
use Rattle.std.proofs.lemmas.Option.{slice_get_within}
use Rattle.cr_syntax.specs.declared.ctype.CType.TheVariants as type
use Rattle.cr_syntax.specs.declared.node.Kind.{Kind}
use Rattle.cr_syntax.specs.declared.node.Kind.TheVariants as kind
use Rattle.cr_syntax.specs.declared.node.Node.{Node}
use Rattle.cr_syntax.specs.declared.part.Part.TheVariants as part
use Rattle.cr_syntax.specs.Tables.{rule_of, side_of}
use Rattle.cr_syntax.specs.Kept.{AreBelow, row_in}
use Rattle.cr_syntax.specs.Symbols as symbol
use Rattle.cr_syntax.specs.Grammar.{Side, part as needed}
use Rattle.cr_syntax.proofs.Arena.{below_first, below_rest, row_at}
use Rattle.cr_syntax_nodes.specs.Laid.{stands_for, IsLaid}
use Rattle.cr_syntax_nodes.proofs.Numbers.{some_at}
use Rattle.cr_syntax_order.specs.Listed.{AreListed}
use Rattle.cr_scopes.specs.Resolved.{is_number}
use Rattle.cr_scopes_events.specs.Scripts as scripts
use Rattle.cr_scopes_bindings.specs.Last.{last_with}
use Rattle.cr_scopes_bindings.specs.Entities as bound
use Rattle.cr_check_types.specs.Types.{Qualified, plain, unknown, type_at}
use Rattle.cr_check_expressions.specs.declared.known.Declared.{Declared}
use Rattle.cr_check_expressions.specs.declared.known.Declared.TheVariants.{Object, Function, Enumerator, TypeName, Unclear}
use Rattle.cr_typed.specs.declared.typed.Typed.{Typed}
use Rattle.cr_typed_columns.specs.Reading.{Parsed, parsed_of, part_of, entry_of}
use Rattle.cr_typed_columns.specs.Rows.{listed}
use Rattle.cr_typed_columns.specs.Entities as entities
use Rattle.cr_typed_columns.specs.Names as names
use Rattle.cr_meaning.specs.declared.op.Callee.{Callee}
use Rattle.cr_meaning.specs.declared.op.Callee.TheVariants as callee
use Rattle.cr_meaning.specs.declared.op.Parameter.{Parameter}
use Rattle.cr_meaning_operations.specs.Shapes.{named_type, value_type}
use Rattle.cr_meaning_operations.specs.Operations.{kind_if, kind_at, parts_if, parts_at, part_at, entity_if, entity_of, calls, function_in, is_text, parameter_of, function_of}
use Rattle.cr_meaning_declarations.specs.Units.Owned.{AreOfUnit, is_owner, IsBody, AreBodies}
use Rattle.cr_meaning_declarations.proofs.UnitsLemmas.Handing.{laid_at, parts_below, no_owners}
use Rattle.cr_meaning_declarations.specs.Declared.Files.{IsUnitOfFile}
use Rattle.cr_meaning_declarations.proofs.NamesLemmas.First.{first_leaf}
use Rattle.cr_meaning_declarations.proofs.DeclaredLemmas.Free.{IsFree, IsNodeFree, all_free}
use Rattle.cr_meaning_declarations.proofs.DeclaredLemmas.Files.{has_unit}

-- ---- columns

length-listed : {A : Type 0} (f : ℕ → A) (count : ℕ) → length (listed f count) ≡ count
length-listed f zero = refl
length-listed f (suc count) = let rest = length-listed f count in let push = length_push (listed f count) (f count) in omega (arith, rest, push)

pub listed_at : {A : Type 0} (f : ℕ → A) (count i : ℕ) (d : A) → i < count → slice_index_or (listed f count) i d ≡ f i
listed_at f zero i d low = absurd (omega (arith, low))
listed_at f (suc count) i d low = elim (cases_lt i count) [
  | inl less ↦ get_or_append_left (listed f count) (f count ∷ []) d i (let count_is = length-listed f count in omega (arith, less, count_is)) ∙ listed_at f count i d less
  | inr more ↦ let last : count ≡ i = omega (arith, low, more) in get_or_push (listed f count) (f count) d i (length-listed f count ∙ last) ∙ ap f last
]

-- ---- the last node with a key has that key

pub last_has : (key : ℕ → Option ℕ) (bound k i : ℕ) → last_with key bound k ≡ Some i → is_number (key i) k ≡ true
last_has key zero k i e = absurd cc
last_has key (suc bound) k i e = by (is_number (key bound) k) refl e (λ x. last_has key bound k i x)
  where
    by : (b : Bool) → is_number (key bound) k ≡ b → (if b then Some bound else last_with key bound k) ≡ Some i → (last_with key bound k ≡ Some i → is_number (key i) k ≡ true)
        → is_number (key i) k ≡ true
    by true q e rest = let same : bound ≡ i = cc in subst (λ x. is_number (key x) k ≡ true) same q
    by false q e rest = rest e

abbrev pub IsThere : Option ℕ → Type 0
IsThere None = ⊥
IsThere (Some k) = Unit {0}

there : (o : Option ℕ) (k : ℕ) → is_number o k ≡ true → IsThere o
there None k e = absurd (false≢true e)
there (Some x) k e = tt

pub last_there : (key : ℕ → Option ℕ) (bound keys : ℕ) (o : Option ℕ) (i : ℕ) → entities.last_of key bound keys o ≡ Some i → IsThere (key i)
last_there key bound keys None i e = absurd cc
last_there key bound keys (Some k) i e = by (nat_lt k keys) e
  where
    by : (b : Bool) → (if b then last_with key bound k else None) ≡ Some i → IsThere (key i)
    by true e = there (key i) k (last_has key bound k i e)
    by false e = absurd cc

-- a declared identifier's key tells a name, and that of a defined function a definition
pub name_there : (nodes : List Node) (i : ℕ) → IsThere (entities.named_token nodes i) → scripts.kind_at nodes i ≡ Some kind.NameDeclarator
name_there nodes i h = by (scripts.kind_at nodes i) (scripts.first_at nodes i) h
  where
    by : (o : Option Kind) (first : Option ℕ) → IsThere (if entities.is_name o then first else None) → o ≡ Some kind.NameDeclarator
    by (Some kind.NameDeclarator) first h = refl
    by o first h = absurd h

definition_there : (nodes : List Node) (i : ℕ) (entity : Option ℕ) → IsThere (if entities.is_definition (scripts.kind_at nodes i) then entity else None) → scripts.kind_at nodes i ≡ Some kind.FunctionDefinition
definition_there nodes i entity h = by (scripts.kind_at nodes i) h
  where
    by : (o : Option Kind) → IsThere (if entities.is_definition o then entity else None) → o ≡ Some kind.FunctionDefinition
    by (Some kind.FunctionDefinition) h = refl
    by o h = absurd h

-- ---- the callee

abbrev is_function : Callee → Bool
is_function (callee.Function parameters rest is_main) = true
is_function other = false

-- another callee than one of the library is the last one
goes_on : (a b c d : Bool) (w x y z f k : Callee) → is_function w ≡ false → is_function x ≡ false → is_function y ≡ false → is_function z ≡ false → is_function k ≡ true
    → (if a then w else (if b then x else (if c then y else (if d then z else f)))) ≡ k → f ≡ k
goes_on true b c d w x y z f k p q r s h e = absurd (false≢true (sym p ∙ ap is_function e ∙ h))
goes_on false true c d w x y z f k p q r s h e = absurd (false≢true (sym q ∙ ap is_function e ∙ h))
goes_on false false true d w x y z f k p q r s h e = absurd (false≢true (sym r ∙ ap is_function e ∙ h))
goes_on false false false true w x y z f k p q r s h e = absurd (false≢true (sym s ∙ ap is_function e ∙ h))
goes_on false false false false w x y z f k p q r s h e = e

no_break : kind.Break ≡ kind.Call → ⊥
no_break e = cc

function_rest : (a b : List Parameter) (x y : ℕ) (m k : Bool) → callee.Function a x m ≡ callee.Function b y k → x ≡ y
function_rest a b x y m k e = cc

-- ---- the bodies of definitions

module _ (t : Typed) (unit : AreOfUnit t) (order : AreListed t.nodes 0 t.items (length t.nodes)) where
  first_body : IsBody t 0
  first_body = let x = first_leaf t unit order in record { own = x.0; at = x.1.0; plain = x.1.1.1 }

  third_of : (node : ℕ) → parts_at t node ≡ [] → IsBody t (part_at t node 2)
  third_of node e = subst (IsBody t) (sym (ap (λ ps. slice_index_or ps 2 0) e)) first_body

  at_zero : IsBody t (part_at t 0 2)
  at_zero = let x = first_leaf t unit order in third_of 0 (ap parts_if x.1.0 ∙ x.1.1.0)

  no_parts : (ps : List ℕ) (i j : ℕ) → AreBelow ps (length t.nodes) → IsLaid unit.tokens (side_of kind.NameDeclarator) (row_in t.nodes ps) i j → ps ≡ []
  unfolding rule_of
  no_parts [] i j b h = refl
  no_parts (p ∷ ps) i j b h =
      let m = some_at t.nodes p (below_first p ps (length t.nodes) b) in
      let x = subst (λ u. IsLaid unit.tokens (side_of kind.NameDeclarator) u i j) (row_at t.nodes unit.below p m.0 ps m.1) h in
      absurd x.1

  abbrev behind_name : Side
  behind_name = needed part.Declarator ∷ symbol.Enters ∷ needed part.Compound ∷ symbol.Ends ∷ []

  abbrev body_side : Side
  body_side = symbol.Enters ∷ needed part.Compound ∷ symbol.Ends ∷ []

  block_owner : (k : Kind) → stands_for part.Compound k ≡ true → is_owner k ≡ false
  unfolding rule_of
  block_owner k h = no_owners part.Compound k refl h

  third_part : (ps : List ℕ) (i j : ℕ) → AreBelow ps (length t.nodes) → IsLaid unit.tokens (side_of kind.FunctionDefinition) (row_in t.nodes ps) i j → IsBody t (slice_index_or ps 2 0)
  unfolding rule_of
  third_part [] i j b h = absurd h
  third_part (p ∷ []) i j b h =
      let m = some_at t.nodes p (below_first p [] (length t.nodes) b) in
      let x = subst (λ u. IsLaid unit.tokens (side_of kind.FunctionDefinition) u i j) (row_at t.nodes unit.below p m.0 [] m.1) h in
      absurd x.1
  third_part (p ∷ q ∷ []) i j b h =
      let m = some_at t.nodes p (below_first p (q ∷ []) (length t.nodes) b) in
      let n = some_at t.nodes q (below_first q [] (length t.nodes) (below_rest p (q ∷ []) (length t.nodes) b)) in
      let x = subst (λ u. IsLaid unit.tokens (side_of kind.FunctionDefinition) u i j) (row_at t.nodes unit.below p m.0 (q ∷ []) m.1) h in
      let y = subst (λ u. IsLaid unit.tokens behind_name u (m.0.last + 1) j) (row_at t.nodes unit.below q n.0 [] n.1) x.1 in
      absurd y.1
  third_part (p ∷ q ∷ r ∷ ps) i j b h =
      let m = some_at t.nodes p (below_first p (q ∷ r ∷ ps) (length t.nodes) b) in
      let behind = below_rest p (q ∷ r ∷ ps) (length t.nodes) b in
      let n = some_at t.nodes q (below_first q (r ∷ ps) (length t.nodes) behind) in
      let o = some_at t.nodes r (below_first r ps (length t.nodes) (below_rest q (r ∷ ps) (length t.nodes) behind)) in
      let x = subst (λ u. IsLaid unit.tokens (side_of kind.FunctionDefinition) u i j) (row_at t.nodes unit.below p m.0 (q ∷ r ∷ ps) m.1) h in
      let y = subst (λ u. IsLaid unit.tokens behind_name u (m.0.last + 1) j) (row_at t.nodes unit.below q n.0 (r ∷ ps) n.1) x.1 in
      let z = subst (λ u. IsLaid unit.tokens body_side u (n.0.last + 1) j) (row_at t.nodes unit.below r o.0 ps o.1) y.1 in
      record { own = o.0; at = o.1; plain = block_owner o.0.kind z.0.0 }

  pub node_of : (i : ℕ) (k : Kind) → scripts.kind_at t.nodes i ≡ Some k → (n : Node) × ((slice_get t.nodes i ≡ Some n) × (n.kind ≡ k))
  node_of i k e = by (slice_get t.nodes i) refl e
    where
      by : (o : Option Node) → slice_get t.nodes i ≡ o → scripts.kind_if o ≡ Some k → (n : Node) × ((slice_get t.nodes i ≡ Some n) × (n.kind ≡ k))
      by None at e = absurd cc
      by (Some n) at e = let same : n.kind ≡ k = cc in (n, (at, same))

  at_name : (i : ℕ) → scripts.kind_at t.nodes i ≡ Some kind.NameDeclarator → IsBody t (part_at t i 2)
  at_name i e =
      let n = node_of i kind.NameDeclarator e in
      let F : Kind → Type 0 = λ k. IsLaid unit.tokens (side_of k) (row_in t.nodes n.0.parts) n.0.first (n.0.last + 1) in
      third_of i (ap parts_if n.1.0 ∙ no_parts n.0.parts n.0.first (n.0.last + 1) (parts_below t unit i n.0 n.1.0) (subst F n.1.1 (laid_at t unit i n.0 n.1.0)))

  at_definition : (i : ℕ) → scripts.kind_at t.nodes i ≡ Some kind.FunctionDefinition → IsBody t (part_at t i 2)
  at_definition i e =
      let n = node_of i kind.FunctionDefinition e in
      let F : Kind → Type 0 = λ k. IsLaid unit.tokens (side_of k) (row_in t.nodes n.0.parts) n.0.first (n.0.last + 1) in
      subst (λ ps. IsBody t (slice_index_or ps 2 0)) (sym (ap parts_if n.1.0))
      (third_part n.0.parts n.0.first (n.0.last + 1) (parts_below t unit i n.0 n.1.0) (subst F n.1.1 (laid_at t unit i n.0 n.1.0)))

  -- what a type that is no function's stands for
  at_free : (type : Qualified) → IsFree type → IsBody t (part_at t (function_in type) 2)
  at_free type h = subst (λ d. IsBody t (part_at t d 2)) (sym h) at_zero

-- ---- of a file

module _ (file : List ℕ) (t : Typed) (it : IsUnitOfFile file t) where
  open it use {made_by, columns}
  open has_unit file t it use {unit, nodes_are, order}

  abbrev parsed : Parsed
  parsed = parsed_of it.unit

  free_at : (p : ℕ) → IsNodeFree it.checked.checked.table it.checked.checked.whole.typing p
  free_at p = all_free it.checked.checked.table made_by.tree it.checked.checked.texts it.checked.checked.whole.typing made_by.is.whole.typing p

  nothing_free : IsFree (type_at columns.table.now 0)
  nothing_free = ap function_in (ap (λ shapes. type_at shapes 0) made_by.are.table ∙ made_by.is.whole.none)

  named_free : (o : Option ℕ) → IsFree (names.type_named columns o)
  named_free None = nothing_free
  named_free (Some p) =
      subst (λ shapes. IsFree (type_at shapes (slice_index_or columns.named.now p 0))) (sym made_by.are.table)
      (subst (λ rows. IsFree (type_at it.checked.checked.table (slice_index_or rows p 0))) (sym made_by.are.named) (free_at p).named)

  composite_free : (o : Option ℕ) → IsFree (type_at columns.table.now (entry_of columns.composites.now 0 o))
  composite_free None = nothing_free
  composite_free (Some p) =
      subst (λ shapes. IsFree (type_at shapes (slice_index_or columns.composites.now p 0))) (sym made_by.are.table)
      (subst (λ rows. IsFree (type_at it.checked.checked.table (slice_index_or rows p 0))) (sym made_by.are.composites) (free_at p).composite)

  abbrev Bodied : Qualified → Type 0
  Bodied type = IsBody t (part_at t (function_in type) 2)

  as_free : (type : Qualified) → IsFree type → Bodied type
  as_free type h = at_free t unit order type h

  kind_there : (i : ℕ) (k : Kind) → scripts.kind_at it.unit.nodes i ≡ Some k → scripts.kind_at t.nodes i ≡ Some k
  kind_there i k e = ap (λ ns. scripts.kind_at ns i) (sym nodes_are) ∙ e

  function_body : (i : ℕ) (o : Option ℕ) → scripts.kind_at it.unit.nodes i ≡ Some kind.NameDeclarator
      → ((d : ℕ) → o ≡ Some d → scripts.kind_at it.unit.nodes d ≡ Some kind.FunctionDefinition) → Bodied (plain (type.Function (names.or_first i o)) false false)
  function_body i None e f = at_name t unit order i (kind_there i kind.NameDeclarator e)
  function_body i (Some d) e f = at_definition t unit order d (kind_there d kind.FunctionDefinition (f d refl))

  abbrev whole : ℕ → Option ℕ
  whole i = entities.whole_of it.unit.nodes columns i

  composite_body : (entity : Option ℕ) → Bodied (names.composite_type it.unit.nodes columns entity)
  composite_body entity =
      as_free (names.composite_type it.unit.nodes columns entity)
      (composite_free (names.with_initialiser it.unit.nodes columns (names.whole_if it.unit.nodes columns (entities.last_declared it.unit.nodes columns.names.now entity))))

  named_body : (i : ℕ) → Bodied (names.type_named columns (whole i))
  named_body i = as_free (names.type_named columns (whole i)) (named_free (whole i))

  entity_body : (d : Declared) (i : ℕ) (entity : Option ℕ) → scripts.kind_at it.unit.nodes i ≡ Some kind.NameDeclarator → Bodied (names.entity_type d it.unit.nodes columns i entity)
  entity_body (Function row more) i entity e =
      function_body i (entities.definition_of it.unit.nodes columns.names.now entity) e
      (λ d f. definition_there it.unit.nodes d (bound.entity_if columns.names.now (entities.declared_token it.unit.nodes (part_of it.unit.nodes (Some d) 1)))
      (last_there (entities.defined_entity it.unit.nodes columns.names.now) (length it.unit.nodes) (length columns.names.now.entities) entity d f))
  entity_body (Object row register) i entity e = composite_body entity
  entity_body (Enumerator value) i entity e = named_body i
  entity_body TypeName i entity e = named_body i
  entity_body Unclear i entity e = named_body i

  name_body : (i : ℕ) → scripts.kind_at it.unit.nodes i ≡ Some kind.NameDeclarator → Bodied (names.named_of parsed columns i)
  name_body i e = subst (λ k. Bodied (names.named_by k parsed columns i)) (sym e) (by (names.is_here i (entities.first_declared parsed columns.names.now (entities.entity_of it.unit.nodes columns.names.now i))))
    where
      by : (b : Bool) → Bodied (if b then names.entity_type (entities.declared_of columns (whole i)) it.unit.nodes columns i (entities.entity_of it.unit.nodes columns.names.now i)
          else names.type_named columns (whole i))
      by true = entity_body (entities.declared_of columns (whole i)) i (entities.entity_of it.unit.nodes columns.names.now i) e
      by false = named_body i

  -- the type that a node names in the typed unit
  pub type_is : (i : ℕ) → i < length t.nodes → named_type t i ≡ names.named_of parsed columns i
  type_is i low =
      let count : length t.nodes ≡ length it.unit.nodes = ap length made_by.elaborated.nodes_are in
      let rows = made_by.fits.named_count in
      sym (get_or-map (type_at t.shapes) t.named i 0 unknown (omega (arith, low, rows)))
      ∙ ap (λ ts. slice_index_or ts i unknown) made_by.elaborated.named.are
      ∙ listed_at (names.named_of parsed columns) (length it.unit.nodes) i unknown (omega (arith, low, count))

  -- beyond the nodes
  type_past : (i : ℕ) → length t.nodes ≤ i → IsFree (named_type t i)
  type_past i high =
      let rows = made_by.fits.named_count in
      ap function_in (ap (type_at t.shapes) (get_or_past t.named i 0 (omega (arith, high, rows))) ∙ made_by.fits.no_type)

  at_entity : (i : ℕ) → scripts.kind_at it.unit.nodes i ≡ Some kind.NameDeclarator → Bodied (named_type t i)
  at_entity i e = elim (cases_lt i (length t.nodes)) [
    | inl low ↦ subst Bodied (sym (type_is i low)) (name_body i e)
    | inr high ↦ as_free (named_type t i) (type_past i high)
  ]

  at_call : (i : ℕ) → scripts.kind_at it.unit.nodes i ≡ Some kind.Call → Bodied (named_type t i)
  at_call i e = elim (cases_lt i (length t.nodes)) [
    | inl low ↦ subst Bodied (sym (type_is i low)) (subst (λ k. Bodied (names.named_by k parsed columns i)) (sym e) (as_free unknown refl))
    | inr high ↦ as_free (named_type t i) (type_past i high)
  ]

  -- what a call's name stands for is declared by a name, if by any
  ref_name : (node : ℕ) → scripts.kind_at it.unit.nodes node ≡ Some kind.Call → node < length t.nodes → (first : ℕ) → slice_index_or t.refs node None ≡ Some first
      → scripts.kind_at it.unit.nodes first ≡ Some kind.NameDeclarator
  ref_name node e low first f =
      let count : length t.nodes ≡ length it.unit.nodes = ap length made_by.elaborated.nodes_are in
      let ref = sym (ap (λ rs. slice_index_or rs node None) made_by.elaborated.refs ∙ listed_at (names.ref_of parsed columns) (length it.unit.nodes) node None (omega (arith, low, count))) ∙ f in
      let found = sym (ap (λ k. if names.is_goto k then slice_index_or columns.labels.now node None
      else entities.first_declared parsed columns.names.now (bound.entity_if columns.names.now (if names.is_mention (scripts.kind_at it.unit.nodes node) then scripts.first_at it.unit.nodes node else None))) e) ∙ ref in
      name_there it.unit.nodes first (last_there (entities.named_token it.unit.nodes) (length it.unit.nodes) (length it.unit.tokens.list.items) (bound.first_of columns.names.now (bound.entity_if columns.names.now (names.mentioned_token it.unit.nodes node))) first found)

  body_of : (node : ℕ) → scripts.kind_at it.unit.nodes node ≡ Some kind.Call → node < length t.nodes → Bodied (named_type t (entity_of t node))
  body_of node e low = by (slice_index_or t.refs node None) refl
    where
      by : (o : Option ℕ) → slice_index_or t.refs node None ≡ o → Bodied (named_type t (entity_if o node))
      by None f = at_call node e
      by (Some first) f = at_entity first (ref_name node e low first f)

  pub bodies : AreBodies t
  bodies node parameters rest is_main e is = by (slice_get t.nodes node) refl
    where
      of_call : function_of t (function_in (named_type t (entity_of t node))) ≡ callee.Function parameters rest is_main
      of_call = goes_on (calls t node (codes "printf")) (calls t node (codes "putchar")) (calls t node (codes "exit")) (calls t node (codes "abort"))
          (callee.Printf (map (λ part. is_text (value_type t part)) (drop 1 (parts_at t node)))) callee.Putchar callee.Exit callee.Abort (function_of t (function_in (named_type t (entity_of t node))))
          (callee.Function parameters rest is_main) refl refl refl refl refl is

      rest_is : part_at t (function_in (named_type t (entity_of t node))) 2 ≡ rest
      rest_is = function_rest (map (parameter_of t) (slice_index_or t.parameters (function_in (named_type t (entity_of t node))) [])) parameters (part_at t (function_in (named_type t (entity_of t node))) 2) rest
          (function_in (named_type t (entity_of t node)) == t.main) is_main of_call

      by : (o : Option Node) → slice_get t.nodes node ≡ o → IsBody t rest
      by None at = absurd (no_break (sym (ap kind_if at) ∙ e))
      by (Some n) at =
          let is_call : scripts.kind_at it.unit.nodes node ≡ Some kind.Call = ap (λ ns. scripts.kind_at ns node) nodes_are ∙ ap scripts.kind_if at ∙ ap Some (sym (ap kind_if at) ∙ e) in
          subst (IsBody t) rest_is (body_of node is_call (slice_get_within t.nodes node n at))
