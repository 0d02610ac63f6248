-- Signs from types, and the kinds of cells.
use Rattle.std.proofs.Common.{◌≡◌, ℕ, zero, suc, Bool, true, false, ◌||◌, List, [], ◌∷◌, ◌++◌, map, Option, Some, length, refl, sym, ap, subst, ◌∙◌, slice_index_or, ◌&&◌, if◌then◌else◌}
use Rattle.std.specs.List.{flat_map}
use Rattle.std.proofs.lemmas.Bool.{false≢true, and_parts, eqb-true}
use Rattle.cr_ints.specs.Conversions.{promote_of}
use Rattle.cr_check_constants.specs.Constants.{promoted_kind}
use Rattle.cr_check_constants.specs.declared.constant.Constant.{Constant}
use Rattle.cr_check_constants.specs.declared.constant.Constant.TheVariants.{NotConstant}
use Rattle.cr_check_constants.specs.declared.operator.Sign.{Sign as Operated}
use Rattle.cr_memory.specs.declared.value.Scalar.{Scalar}
use Rattle.cr_memory.specs.declared.value.Guard.{Guard}
use Rattle.cr_syntax.specs.declared.ctype.CType.TheVariants.{Int, Struct}
use Rattle.cr_check_types.specs.Types.{Qualified, plain, pointer as to, array, type_at}
use Rattle.cr_typed.specs.declared.typed.Typed.{Typed}
use Rattle.cr_check_operands.specs.Values.{Seen, Valued, number as a_number, address, structure, whole, untyped, type_of_value, value_in, value_of_seen}
use Rattle.cr_check_operands.specs.Rules.{signed_value, assigned_value, assignable}
use Rattle.cr_check_operands.specs.Places.{stored_value, is_changeable, is_modifiable_seen, assigned}
use Rattle.cr_check_expressions.specs.Known.{Source}
use Rattle.cr_check_expressions.specs.Ruled.{given, is_typed, is_type, complete}
use Rattle.cr_meaning.specs.World.{Program}
use Rattle.cr_meaning.specs.declared.run.Limits.{Limits}
use Rattle.cr_meaning.specs.declared.op.Form.TheVariants as form
use Rattle.cr_meaning.specs.declared.op.Sign.{Sign}
use Rattle.cr_meaning.specs.declared.op.Work.TheVariants as work
use Rattle.cr_meaning_operations.specs.Shapes.{type_of_node, value_type, as_value, kind_in, cells_with, structure_cells, shape_of, repeated, form_by, form_of, number_of}
use Rattle.cr_meaning_operations.specs.Operations.{node_op, parts_at, unary, left_row, program_of}
use Rattle.cr_meaning_soundness.specs.Sorts.{Sort, number, pointer, place, cells}
use Rattle.cr_meaning_typing.specs.Typed.Good.{IsGood, value_sort, row_at}
use Rattle.cr_meaning_typing.specs.Typed.Columns.{AreColumns, IsValueAt, IsGoodAt}
use Rattle.cr_meaning_typing.proofs.TypedLemmas.Goods as good
use Rattle.cr_meaning_typing.proofs.TypedLemmas.Meets.{good_as, one_plain}

-- ---- signs

pub record Signs (p : Program) (a own : Qualified) : Type 0 where
  pub operand : (row : ℕ) → value_sort p row a ≡ number (kind_in (as_value a))
  pub is : own ≡ plain (Int (promote_of (kind_in (as_value a)))) false false

signs_by : (p : Program) (op : Operated) (a : Qualified) (c : Constant) (own : Seen) → own ≡ given (signed_value op (value_in a c)) → is_typed own ≡ true → Signs p a own.type
unfolding promoted_kind
signs_by p op (plain (Int k) x y) c own e h = record { operand = λ row. refl; is = ap (λ (o : Seen). o.type) e }
signs_by p op a c own e h = absurd (false≢true (sym (ap (λ (o : Seen). is_type o.type) e) ∙ h))

pub signs : (p : Program) (t : Typed) (sorts : ℕ → Option Sort) (sees : ℕ → Bool) (at : ℕ → Seen) → AreColumns t at → (i a : ℕ) (op : Sign) (operator : Operated)
    → parts_at t i ≡ a ∷ [] → at i ≡ given (signed_value operator (value_of_seen (at a))) → is_typed (at i) ≡ true
    → IsValueAt p t sorts a → IsGoodAt p t sorts sees i (unary t i op)
signs p t sorts sees at columns i a op operator e f h sa =
    let made = one_plain (signed_value operator) (λ t. refl) (at a) (at i) f h in
    let ruled = signs_by p operator (at a).type (at a).constant (at i) made h in
    let both = subst (λ x. Signs p x (type_of_node t i)) (sym (columns.types a)) (subst (λ x. Signs p (at a).type x) (sym (columns.types i)) ruled) in
    let kind = kind_in (value_type t a) in
    good_as p sorts sees (unary t i op) (node_op (a ∷ []) (work.Unary op (promote_of kind))) (value_sort p (row_at t i) (type_of_node t i)) (number (promote_of kind))
    (ap (λ ps. node_op ps (work.Unary op (promote_of (kind_in (value_type t (slice_index_or ps 0 0)))))) e)
    (ap (value_sort p (row_at t i)) both.is)
    (good.unary p sorts sees a kind (promote_of kind) op (sa ∙ ap Some (both.operand (row_at t a))))

-- ---- kinds of cells

abbrev pub kinds : List (Scalar × Guard) → List Scalar
kinds shape = map (λ own. own.0) shape

kinds_append : (xs ys : List (Scalar × Guard)) → kinds (xs ++ ys) ≡ kinds xs ++ kinds ys
kinds_append [] ys = refl
kinds_append (x ∷ xs) ys = ap (λ rest. x.0 ∷ rest) (kinds_append xs ys)

both_append : (xs ys us vs : List (Scalar × Guard)) → kinds xs ≡ kinds us → kinds ys ≡ kinds vs → kinds (xs ++ ys) ≡ kinds (us ++ vs)
both_append xs ys us vs e f = kinds_append xs ys ∙ (λ j. e j ++ f j) ∙ sym (kinds_append us vs)

pub repeated_same : (n : ℕ) (xs us : List (Scalar × Guard)) → kinds xs ≡ kinds us → kinds (repeated n xs) ≡ kinds (repeated n us)
repeated_same zero xs us e = refl
repeated_same (suc n) xs us e = both_append xs (repeated n xs) us (repeated n us) e (repeated_same n xs us e)

module _ (t : Typed) (look : Bool → ℕ → List (Scalar × Guard)) (same : (c d : Bool) (node : ℕ) → kinds (look c node) ≡ kinds (look d node)) where
  cells_same : (c d : Bool) (type : Qualified) → kinds (cells_with look t c type) ≡ kinds (cells_with look t d type)
  cells_same c d (plain (Int kind) x y) = refl
  cells_same c d (plain (Struct node) x y) = same (c || x) (d || x) node
  cells_same c d (plain other x y) = refl
  cells_same c d (to x y b) = refl
  cells_same c d (array n b) = repeated_same n (cells_with look t c b) (cells_with look t d b) (cells_same c d b)

  rows_same : (c d : Bool) (rows : List ℕ) → kinds (flat_map (λ row. cells_with look t c (type_at t.shapes row)) rows) ≡ kinds (flat_map (λ row. cells_with look t d (type_at t.shapes row)) rows)
  rows_same c d [] = refl
  rows_same c d (row ∷ rows) = both_append _ _ _ _ (cells_same c d (type_at t.shapes row)) (rows_same c d rows)

pub structures_same : (more : ℕ) (t : Typed) (c d : Bool) (node : ℕ) → kinds (structure_cells more t c node) ≡ kinds (structure_cells more t d node)
structures_same zero t c d node = refl
structures_same (suc more) t c d node = rows_same t (structure_cells more t) (structures_same more t) c d (slice_index_or t.members node [])

pub kinds_same : (t : Typed) (node : ℕ) (c v d w : Bool) → map (λ own. own.0) (shape_of t (plain (Struct node) c v)) ≡ map (λ own. own.0) (shape_of t (plain (Struct node) d w))
kinds_same t node c v d w = structures_same (length t.nodes) t (false || c) (false || d) node

-- ---- assignments

-- an array that is no place is assigned to nothing
pub refused : (modifiable : Bool) (target : Valued) (t : Qualified) → assigned_value modifiable target (whole t) ≡ untyped
refused true (a_number x) t = refl
refused true (address u) t = refl
refused true (structure n) t = refl
refused true target t = refl
refused false target t = refl

pub chosen : (b : Bool) (v : Valued) (own : Seen) → own ≡ given (if b then v else untyped) → is_typed own ≡ true → (b ≡ true) × (own.type ≡ type_of_value v)
chosen true v own e h = (refl, ap (λ (o : Seen). o.type) e)
chosen false v own e h = absurd (false≢true (sym (ap (λ (o : Seen). is_type o.type) e) ∙ h))

module _ (t : Typed) (limits : Limits) (sorts : ℕ → Option Sort) (sees : ℕ → Bool) (a b count left right row : ℕ) where
  -- two structures of one node have the same kinds
  pub row_kinds : (n : ℕ) (c v d w : Bool) (one other : ℕ) → type_at t.shapes one ≡ plain (Struct n) c v → type_at t.shapes other ≡ plain (Struct n) d w
      → (program_of t limits).kinds one ≡ (program_of t limits).kinds other
  row_kinds n c v d w one other e f = ap (λ type. kinds (shape_of t type)) e ∙ kinds_same t n c v d w ∙ sym (ap (λ type. kinds (shape_of t type)) f)

  assigns : (fixed : ℕ → Bool) (x y : Qualified) (c : Constant) (own : Qualified) → is_changeable fixed x ≡ true → type_at t.shapes left ≡ x → type_at t.shapes right ≡ y → type_at t.shapes row ≡ own
      → assignable (value_in x NotConstant) (value_in y c) ≡ true → own ≡ type_of_value (value_in x NotConstant)
      → sorts a ≡ Some (place count) → sorts b ≡ Some (value_sort (program_of t limits) right y)
      → IsGood (program_of t limits) sorts sees (node_op (a ∷ b ∷ []) (work.Assign (form_by t left x))) (value_sort (program_of t limits) row own)
  assigns fixed (plain (Int k) u v) (plain (Int l) w z) c own ok ex ey er h e sa sb =
      subst (λ o. IsGood (program_of t limits) sorts sees (node_op (a ∷ b ∷ []) (work.Assign (form.Number k))) (value_sort (program_of t limits) row o)) (sym e) (good.assigned_scalar (program_of t limits) sorts sees a b count (number l) (form.Number k) sa sb tt tt tt)
  assigns fixed (plain (Int k) u v) (to w z y) c own ok ex ey er h e sa sb =
      subst (λ o. IsGood (program_of t limits) sorts sees (node_op (a ∷ b ∷ []) (work.Assign (form.Number k))) (value_sort (program_of t limits) row o)) (sym e) (good.assigned_scalar (program_of t limits) sorts sees a b count pointer (form.Number k) sa sb tt tt tt)
  assigns fixed (plain (Int k) u v) (array n y) c own ok ex ey er h e sa sb =
      subst (λ o. IsGood (program_of t limits) sorts sees (node_op (a ∷ b ∷ []) (work.Assign (form.Number k))) (value_sort (program_of t limits) row o)) (sym e) (good.assigned_scalar (program_of t limits) sorts sees a b count pointer (form.Number k) sa sb tt tt tt)
  assigns fixed (to u v x) (plain (Int l) w z) c own ok ex ey er h e sa sb =
      subst (λ o. IsGood (program_of t limits) sorts sees (node_op (a ∷ b ∷ []) (work.Assign (form.Pointer (number_of t x)))) (value_sort (program_of t limits) row o)) (sym e) (good.assigned_scalar (program_of t limits) sorts sees a b count (number l) (form.Pointer (number_of t x)) sa sb tt tt tt)
  assigns fixed (to u v x) (to w z y) c own ok ex ey er h e sa sb =
      subst (λ o. IsGood (program_of t limits) sorts sees (node_op (a ∷ b ∷ []) (work.Assign (form.Pointer (number_of t x)))) (value_sort (program_of t limits) row o)) (sym e) (good.assigned_scalar (program_of t limits) sorts sees a b count pointer (form.Pointer (number_of t x)) sa sb tt tt tt)
  assigns fixed (to u v x) (array n y) c own ok ex ey er h e sa sb =
      subst (λ o. IsGood (program_of t limits) sorts sees (node_op (a ∷ b ∷ []) (work.Assign (form.Pointer (number_of t x)))) (value_sort (program_of t limits) row o)) (sym e) (good.assigned_scalar (program_of t limits) sorts sees a b count pointer (form.Pointer (number_of t x)) sa sb tt tt tt)
  assigns fixed (plain (Struct n) u v) (plain (Struct m) w z) c own ok ex ey er h e sa sb =
      let same : n ≡ m = eqb-true n m h in
      let right_kinds = row_kinds n u v w z left right ex (ey ∙ ap (λ q. plain (Struct q) w z) (sym same)) in
      let own_kinds = row_kinds n u v false false left row ex (er ∙ e) in
      subst (λ o. IsGood (program_of t limits) sorts sees (node_op (a ∷ b ∷ []) (work.Assign (form.Cells left))) (value_sort (program_of t limits) row o)) (sym e)
      (subst (λ ks. IsGood (program_of t limits) sorts sees (node_op (a ∷ b ∷ []) (work.Assign (form.Cells left))) (cells ks)) own_kinds
      (good.assigned_scalar (program_of t limits) sorts sees a b count (cells ((program_of t limits).kinds right)) (form.Cells left) sa sb tt (ap cells (sym right_kinds)) tt))
  assigns fixed (array n x) y c own ok ex ey er h e sa sb = absurd (false≢true ok)
  assigns fixed x y c own ok ex ey er h e sa sb = absurd (false≢true h)

pub assignments : (t : Typed) (limits : Limits) (sorts : ℕ → Option Sort) (sees : ℕ → Bool) (at : ℕ → Seen) (s : Source) → AreColumns t at → (i a b count : ℕ)
    → parts_at t i ≡ a ∷ b ∷ [] → at i ≡ given (assigned (complete s i) s.fixed (at a) (value_of_seen (at b))) → is_typed (at i) ≡ true
    → sorts a ≡ Some (place count) → IsValueAt (program_of t limits) t sorts b
    → IsGoodAt (program_of t limits) t sorts sees i (node_op (parts_at t i) (work.Assign (form_of t (left_row t i))))
assignments t limits sorts sees at s columns i a b count e f h sa sb =
    let p = program_of t limits in
    let x = (at a).type in
    let y = (at b).type in
    let made = one_plain (assigned (complete s i) s.fixed (at a)) (refused (is_modifiable_seen (complete s i) s.fixed (at a)) (stored_value (at a))) (at b) (at i) f h in
    let both = chosen ((at a).lvalue && (is_changeable s.fixed x && complete s i x) && assignable (value_in x NotConstant) (value_in y (at b).constant)) (value_in x NotConstant) (at i) made h in
    let parts = and_parts ((at a).lvalue && (is_changeable s.fixed x && complete s i x)) (assignable (value_in x NotConstant) (value_in y (at b).constant)) both.0 in
    let place_is = and_parts (at a).lvalue (is_changeable s.fixed x && complete s i x) parts.0 in
    let ok = and_parts (is_changeable s.fixed x) (complete s i x) place_is.1 in
    let it = assigns t limits sorts sees a b count (row_at t a) (row_at t b) (row_at t i) s.fixed x y (at b).constant (at i).type ok.0 (columns.types a) (columns.types b) (columns.types i)
    parts.1 both.1 sa (sb ∙ ap (λ q. Some (value_sort p (row_at t b) q)) (columns.types b)) in
    good_as p sorts sees (node_op (parts_at t i) (work.Assign (form_of t (left_row t i)))) (node_op (a ∷ b ∷ []) (work.Assign (form_by t (row_at t a) x))) (value_sort p (row_at t i) (type_of_node t i)) (value_sort p (row_at t i) (at i).type)
    (ap (λ ps. node_op ps (work.Assign (form_of t (row_at t (slice_index_or ps 0 0))))) e ∙ ap (λ q. node_op (a ∷ b ∷ []) (work.Assign (form_by t (row_at t a) q))) (columns.types a))
    (ap (value_sort p (row_at t i)) (columns.types i)) it
