-- Places, members, literals and constants, by the types of their operands.
use Rattle.std.proofs.Common.{◌≡◌, ℕ, ◌≤◌, ℤ, Bool, true, false, not, ◌&&◌, List, [], ◌∷◌, map, Option, None, Some, length, replicate, refl, sym, ap, subst, ◌∙◌, slice_index_or, if◌then◌else◌, arith}
use Rattle.std.proofs.lemmas.Bool.{false≢true, and_parts}
use Rattle.std.proofs.lemmas.List.{length-map}
use Rattle.std.proofs.Math.Nat.{mod-one}
use Rattle.cr_ints.specs.IntKind.{Represents}
use Rattle.cr_ints.specs.declared.kind.IntKind.TheVariants.{Char as CharKind}
use Rattle.cr_check_constants.specs.declared.constant.Constant.{Constant}
use Rattle.cr_check_constants.specs.declared.constant.Constant.TheVariants.{Value}
use Rattle.cr_check_constants.specs.declared.constant.Operand.{Operand}
use Rattle.cr_memory.specs.declared.value.Element.{Element}
use Rattle.cr_memory.specs.declared.value.Scalar.{Scalar}
use Rattle.cr_memory.specs.declared.value.Scalar.TheVariants as scalar
use Rattle.cr_memory.specs.declared.value.Guard.{Guard}
use Rattle.cr_memory.specs.declared.value.Guard.TheVariants.{Literal}
use Rattle.cr_syntax.specs.declared.ctype.CType.TheVariants.{Int, Void, Struct}
use Rattle.cr_syntax.specs.declared.node.Kind.TheVariants as kind
use Rattle.cr_typed.specs.declared.typed.Typed.{Typed}
use Rattle.cr_typed.specs.Typed.{row_cells}
use Rattle.cr_check_types.specs.Types.{Qualified, plain, pointer as to, array, type_at}
use Rattle.cr_check_types.specs.Relations.{qualified}
use Rattle.cr_check_operands.specs.Values.{Seen, Valued, number as a_number, address, whole, value_in, value_of_seen, place_of, no_type}
use Rattle.cr_check_operands.specs.Rules.{constant_in, volatile_in}
use Rattle.cr_check_operands.specs.Places.{followed, dereferenced, subscripted, address_value, member_of, pointed_member_of, text_of}
use Rattle.cr_check_expressions.specs.Ruled.{given, is_typed}
use Rattle.cr_meaning.specs.World.{Program}
use Rattle.cr_meaning.specs.declared.op.Access.{Access}
use Rattle.cr_meaning.specs.declared.op.Access.TheVariants as access
use Rattle.cr_meaning.specs.declared.op.Change.TheVariants.{Move}
use Rattle.cr_meaning.specs.declared.op.Work.{Work}
use Rattle.cr_meaning.specs.declared.op.Work.TheVariants as work
use Rattle.cr_meaning.specs.declared.run.Limits.{Limits}
use Rattle.cr_meaning_operations.specs.Shapes.{type_of_node, as_value, kind_in, cells_of, name_in, as_element, pointed_element, cells_with, structure_cells, shape_of, form_by, form_of, access_by, access_of, offset_in}
use Rattle.cr_meaning_operations.specs.Operations.{node_op, placed, parts_at, kind_at, left_type, right_type, either_element, address_by, pointed, chosen_row, member, pointer_member, constant, constant_by, object_shape, program_of}
use Rattle.cr_meaning_soundness.specs.Sorts.{Sort, number, pointer, place, cells, chars, sort_of, sorts_in}
use Rattle.cr_meaning_soundness.specs.Rules.{Uses, Passes, IsValue}
use Rattle.cr_meaning_soundness.specs.Operands.{IsObjectForm}
use Rattle.cr_meaning_typing.specs.Typed.Good.{IsGood, value_sort, place_sort, row_at}
use Rattle.cr_meaning_typing.specs.Typed.Columns.{AreColumns, IsValueAt, IsGoodAt, constant_value}
use Rattle.cr_meaning_typing.specs.Typed.Placed.{IsObject}
use Rattle.cr_meaning_typing.proofs.TypedLemmas.Goods as good
use Rattle.cr_meaning_typing.proofs.TypedLemmas.Stand.{uses_at, worth_at, gives_at}
use Rattle.cr_meaning_typing.proofs.TypedLemmas.Gives.{kinds, repeated_same, structures_same}
use Rattle.cr_meaning_typing.specs.Expressions.Used.{beside_sort}
use Rattle.cr_meaning_typing.specs.Expressions.Places.{cells_at, HasCells, IsMemberIn, AreAmong, left_whole}
use Rattle.cr_meaning_typing.proofs.ExpressionsLemmas.Goods.{placed_op}
use Rattle.cr_meaning_typing.proofs.ExpressionsLemmas.Goods as more
use Rattle.cr_meaning_typing.proofs.ExpressionsLemmas.Types.{typeless, taken, plain_by, seen_plain, value_as}
use Rattle.cr_meaning_typing.proofs.ExpressionsLemmas.Chosen.{same_kinds, row_kinds, used_value}

-- ---- a place, as its node uses it

place_uses : (p : Program) (t : Typed) (i count : ℕ) → IsObject t count (type_of_node t i) → Uses p (access_of t i) count (place_sort p t i count)
place_uses p t i count h = uses_at p t (row_at t i) count (slice_index_or t.valued i false) (type_of_node t i) h

place_worth : (p : Program) (t : Typed) (i count : ℕ) → IsObject t count (type_of_node t i) → IsValue (place_sort p t i count)
place_worth p t i count h = worth_at p t (row_at t i) count (slice_index_or t.valued i false) (type_of_node t i) h

-- ---- constants

pub constants : (p : Program) (t : Typed) (sorts : ℕ → Option Sort) (sees : ℕ → Bool) (at : ℕ → Seen) → AreColumns t at → (i : ℕ) (x : Operand) (v : ℤ)
    → at i ≡ given (a_number x) → x.constant ≡ Value v → Represents x.kind v → IsGoodAt p t sorts sees i (constant t i)
constants p t sorts sees at columns i x v e f r =
    let type : type_of_node t i ≡ plain (Int x.kind) false false = columns.types i ∙ ap (λ (o : Seen). o.type) e in
    let value : slice_index_or t.constants i None ≡ Some v = columns.constants i ∙ ap (λ (o : Seen). constant_value o.constant) e ∙ ap constant_value f in
    subst (λ o. IsGood p sorts sees (constant_by t i o) (value_sort p (row_at t i) (type_of_node t i))) (sym value)
    (subst (λ type. IsGood p sorts sees (node_op [] (work.Constant (kind_in type) v)) (value_sort p (row_at t i) type)) (sym type) (good.constant p sorts sees x.kind v r))

-- ---- literals

abbrev char_cell : ℕ → Scalar × Guard
char_cell byte = (scalar.Int CharKind, Literal)

are_chars : (bytes : List ℕ) → sorts_in (map char_cell bytes) ≡ replicate (length (map char_cell bytes)) (number CharKind)
are_chars [] = refl
are_chars (byte ∷ bytes) = ap (λ rest. number CharKind ∷ rest) (are_chars bytes)

module _ (t : Typed) (limits : Limits) (sorts : ℕ → Option Sort) (sees : ℕ → Bool) (at : ℕ → Seen) (columns : AreColumns t at) (i : ℕ) where
  literal_shape : kind_at t i ≡ kind.Text → (program_of t limits).shape i ≡ map char_cell (slice_index_or t.texts i [])
  literal_shape e = ap (object_shape t i) e

  pub literal_placed : kind_at t i ≡ kind.Text → at i ≡ text_of (length (slice_index_or t.texts i [])) → 1 ≤ length (slice_index_or t.texts i []) → sees i ≡ true
      → IsGood (program_of t limits) sorts sees (placed t i [] (work.Object i (name_in t (type_of_node t i)))) (place_sort (program_of t limits) t i (length (slice_index_or t.texts i [])))
  literal_placed e f some s =
      let count = length (slice_index_or t.texts i []) in
      let shape : length ((program_of t limits).shape i) ≡ count = ap length (literal_shape e) ∙ length-map (slice_index_or t.texts i []) char_cell in
      let type : type_of_node t i ≡ array count (plain (Int CharKind) false false) = columns.types i ∙ ap (λ (o : Seen). o.type) f in
      let object : IsObject t count (type_of_node t i) = subst (IsObject t count) (sym type) ((let one : 1 ≤ 1 = omega arith in one), mod-one count) in
      good.named (program_of t limits) sorts sees i (name_in t (type_of_node t i)) (access_of t i) (place_sort (program_of t limits) t i count) (place_worth (program_of t limits) t i count object)
      (subst (λ n. 1 ≤ n) (sym shape) some)
      (gives_at (program_of t limits) t (row_at t i) count i (slice_index_or t.valued i false) (type_of_node t i) shape object) s

  pub literal_filling : kind_at t i ≡ kind.Text → 1 ≤ length (slice_index_or t.texts i []) → sees i ≡ true → slice_index_or t.valued i false ≡ false
      → IsGood (program_of t limits) sorts sees (placed t i [] (work.Object i (name_in t (type_of_node t i)))) chars
  literal_filling e some s v =
      let shape = literal_shape e in
      let count : length ((program_of t limits).shape i) ≡ length (slice_index_or t.texts i []) = ap length shape ∙ length-map (slice_index_or t.texts i []) char_cell in
      good.named (program_of t limits) sorts sees i (name_in t (type_of_node t i)) (access_of t i) chars tt (subst (λ n. 1 ≤ n) (sym count) some) (
        ap (λ used. if used then access_by t (row_at t i) (type_of_node t i) else access.Unused) v,
        subst (λ xs. sorts_in xs ≡ replicate (length xs) (number CharKind)) (sym shape) (are_chars (slice_index_or t.texts i [])),
      ) s

-- ---- brackets

passes_beside : (p : Program) (use_of : Access) (row : ℕ) (type : Qualified) (own : Sort) → beside_sort p row type ≡ own → Passes p use_of own (beside_sort p row type)
passes_beside p use_of row (plain (Int k) c v) own e = e
passes_beside p use_of row (plain (Struct n) c v) own e = e
passes_beside p use_of row (plain other c v) own e = e
passes_beside p use_of row (to c v x) own e = e
passes_beside p use_of row (array n x) own e = e

-- two rows of one type
beside_rows : (t : Typed) (limits : Limits) (type : Qualified) (one other : ℕ) → type_at t.shapes one ≡ type_at t.shapes other
    → beside_sort (program_of t limits) one type ≡ beside_sort (program_of t limits) other type
beside_rows t limits (plain (Int k) c v) one other e = refl
beside_rows t limits (plain (Struct n) c v) one other e = ap cells (row_kinds t limits one other e)
beside_rows t limits (plain of c v) one other e = refl
beside_rows t limits (to c v x) one other e = refl
beside_rows t limits (array n x) one other e = ap cells (row_kinds t limits one other e)

module _ (t : Typed) (limits : Limits) (sorts : ℕ → Option Sort) (sees : ℕ → Bool) (at : ℕ → Seen) (columns : AreColumns t at) (i a : ℕ) (parts : parts_at t i ≡ a ∷ []) where
  pub group_placed : (count : ℕ) → sorts a ≡ Some (place count) → IsObject t count (type_of_node t i)
      → IsGood (program_of t limits) sorts sees (placed t i (parts_at t i) work.Pass) (place_sort (program_of t limits) t i count)
  group_placed count h object =
      let p = program_of t limits in
      subst (λ ps. IsGood p sorts sees (placed_op ps work.Pass (access_of t i)) (place_sort p t i count)) (sym parts)
      (more.passed p sorts sees a (place count) (place_sort p t i count) (access_of t i) h (place_worth p t i count object) (place_uses p t i count object))

  pub group_beside : at i ≡ at a → sorts a ≡ Some (beside_sort (program_of t limits) (row_at t a) (type_of_node t a))
      → IsGood (program_of t limits) sorts sees (placed t i (parts_at t i) work.Pass) (beside_sort (program_of t limits) (row_at t i) (type_of_node t i))
  group_beside e h =
      let p = program_of t limits in
      let type : type_of_node t a ≡ type_of_node t i = columns.types a ∙ ap (λ (o : Seen). o.type) (sym e) ∙ sym (columns.types i) in
      let same : beside_sort p (row_at t a) (type_of_node t a) ≡ beside_sort p (row_at t i) (type_of_node t i) = ap (beside_sort p (row_at t a)) type ∙ beside_rows t limits (type_of_node t i) (row_at t a) (row_at t i) type in
      subst (λ ps. IsGood p sorts sees (placed_op ps work.Pass (access_of t i)) (beside_sort p (row_at t i) (type_of_node t i))) (sym parts)
      (more.passed p sorts sees a (beside_sort p (row_at t a) (type_of_node t a)) (beside_sort p (row_at t i) (type_of_node t i)) (access_of t i) h (used_value p false (row_at t i) (type_of_node t i))
      (passes_beside p (access_of t i) (row_at t a) (type_of_node t a) (beside_sort p (row_at t i) (type_of_node t i)) same))

-- ---- what is followed

followed_type : (complete : Qualified → Bool) (x : Qualified) (own : Seen) → own ≡ followed complete x → is_typed own ≡ true → own.type ≡ x
followed_type complete x own e h = by (complete x) e
  where
    by : (b : Bool) → own ≡ (if b then place_of x false else no_type) → own.type ≡ x
    by true f = ap (λ (o : Seen). o.type) f
    by false f = typeless own _ f h refl

follow_good : (p : Program) (t : Typed) (complete : Qualified → Bool) (x : Qualified) (c : Constant) (own : Seen) → own ≡ dereferenced complete (value_in x c) → is_typed own ≡ true
    → ((row : ℕ) → value_sort p row x ≡ pointer) × (pointed_element t (as_value x) ≡ as_element t own.type)
follow_good p t complete (to u v x) c own e h = ((λ row. refl), ap (as_element t) (sym (followed_type complete x own e h)))
follow_good p t complete (array n x) c own e h = ((λ row. refl), ap (as_element t) (sym (followed_type complete x own e h)))
follow_good p t complete (plain (Int k) u v) c own e h = typeless own _ e h refl
follow_good p t complete x c own e h = typeless own _ e h refl

pub followeds : (p : Program) (t : Typed) (sorts : ℕ → Option Sort) (sees : ℕ → Bool) (at : ℕ → Seen) (complete : Qualified → Bool) → AreColumns t at → (i a : ℕ)
    → parts_at t i ≡ a ∷ [] → at i ≡ dereferenced complete (value_of_seen (at a)) → is_typed (at i) ≡ true → IsValueAt p t sorts a → HasCells t i
    → IsGood p sorts sees (placed t i (parts_at t i) (work.Dereference (pointed_element t (left_type t i)))) (place_sort p t i (cells_at t i))
followeds p t sorts sees at complete columns i a e f h sa object =
    let count = cells_at t i in
    let one = seen_plain (dereferenced complete) (λ u. refl) (at a) (at i) f h in
    let it = follow_good p t complete (at a).type (at a).constant (at i) one h in
    let element = as_element t (type_of_node t i) in
    let same : pointed_element t (as_value (type_of_node t a)) ≡ element = ap (λ x. pointed_element t (as_value x)) (columns.types a) ∙ it.1 ∙ ap (as_element t) (sym (columns.types i)) in
    subst (λ ps. IsGood p sorts sees (placed_op ps (work.Dereference (pointed_element t (as_value (type_of_node t (slice_index_or ps 0 0))))) (access_of t i)) (place_sort p t i count)) (sym e)
    (subst (λ n. IsGood p sorts sees (placed_op (a ∷ []) (work.Dereference n) (access_of t i)) (place_sort p t i count)) (sym same)
    (more.followed p sorts sees a element (place_sort p t i count) (access_of t i) (value_as p t sorts at columns a sa ∙ ap Some (it.0 (row_at t a))) (place_worth p t i count object) (place_uses p t i count object)))

-- ---- subscripts

module _ (p : Program) (t : Typed) (sorts : ℕ → Option Sort) (sees : ℕ → Bool) (complete : Qualified → Bool) (a b left right : ℕ) (element : Element) (use_of : Access) (made : Sort)
    (worth : IsValue made) (uses : Uses p use_of element.cells made) where
  element_good : (x y : Qualified) (c d : Constant) (own : Seen) → own ≡ subscripted complete (value_in x c) (value_in y d) → is_typed own ≡ true → as_element t own.type ≡ element
      → sorts a ≡ Some (value_sort p left x) → sorts b ≡ Some (value_sort p right y)
      → IsGood p sorts sees (placed_op (a ∷ b ∷ []) (work.Subscript (either_element t (as_value x) (as_value y))) use_of) made
  element_good (to u v x) (plain (Int r) w z) c d own e h n sa sb =
      subst (λ m. IsGood p sorts sees (placed_op (a ∷ b ∷ []) (work.Subscript m) use_of) made) (sym n ∙ ap (as_element t) (followed_type complete x own e h)) (more.element p sorts sees a b element r made use_of sa sb worth uses)
  element_good (array m x) (plain (Int r) w z) c d own e h n sa sb =
      subst (λ m. IsGood p sorts sees (placed_op (a ∷ b ∷ []) (work.Subscript m) use_of) made) (sym n ∙ ap (as_element t) (followed_type complete x own e h)) (more.element p sorts sees a b element r made use_of sa sb worth uses)
  element_good (plain (Int l) u v) (to w z y) c d own e h n sa sb =
      subst (λ m. IsGood p sorts sees (placed_op (a ∷ b ∷ []) (work.Subscript m) use_of) made) (sym n ∙ ap (as_element t) (followed_type complete y own e h)) (more.element_other p sorts sees a b element l made use_of sa sb worth uses)
  element_good (plain (Int l) u v) (array m y) c d own e h n sa sb =
      subst (λ m. IsGood p sorts sees (placed_op (a ∷ b ∷ []) (work.Subscript m) use_of) made) (sym n ∙ ap (as_element t) (followed_type complete y own e h)) (more.element_other p sorts sees a b element l made use_of sa sb worth uses)
  element_good (plain (Int l) u v) (plain (Int r) w z) c d own e h n sa sb = typeless own _ e h refl
  element_good x y c d own e h n sa sb = typeless own _ e h refl

pub subscript_right : (complete : Qualified → Bool) (v : Valued) (t : Qualified) → subscripted complete v (whole t) ≡ no_type
subscript_right complete (a_number x) t = refl
subscript_right complete (address x) t = refl
subscript_right complete v t = refl

pub subscripts : (p : Program) (t : Typed) (sorts : ℕ → Option Sort) (sees : ℕ → Bool) (at : ℕ → Seen) (complete : Qualified → Bool) → AreColumns t at → (i a b : ℕ)
    → parts_at t i ≡ a ∷ b ∷ [] → at i ≡ subscripted complete (value_of_seen (at a)) (value_of_seen (at b)) → is_typed (at i) ≡ true
    → IsValueAt p t sorts a → IsValueAt p t sorts b → HasCells t i
    → IsGood p sorts sees (placed t i (parts_at t i) (work.Subscript (either_element t (left_type t i) (right_type t i)))) (place_sort p t i (cells_at t i))
subscripts p t sorts sees at complete columns i a b e f h sa sb object =
    let count = cells_at t i in
    let va = value_in (at a).type (at a).constant in
    let one = seen_plain (λ v. subscripted complete v (value_of_seen (at b))) (λ u. refl) (at a) (at i) f h in
    let two = seen_plain (λ v. subscripted complete va v) (λ u. ap is_typed (subscript_right complete va u)) (at b) (at i) one h in
    let made = element_good p t sorts sees complete a b (row_at t a) (row_at t b) (as_element t (type_of_node t i)) (access_of t i) (place_sort p t i count) (place_worth p t i count object) (place_uses p t i count object)
    (at a).type (at b).type (at a).constant (at b).constant (at i) two h (ap (as_element t) (sym (columns.types i))) (value_as p t sorts at columns a sa) (value_as p t sorts at columns b sb) in
    subst (λ ps. IsGood p sorts sees (placed_op ps (work.Subscript (either_element t (as_value (type_of_node t (slice_index_or ps 0 0))) (as_value (type_of_node t (slice_index_or ps 1 0))))) (access_of t i)) (place_sort p t i count)) (sym e)
    (subst (λ x. IsGood p sorts sees (placed_op (a ∷ b ∷ []) (work.Subscript (either_element t (as_value x) (as_value (type_of_node t b)))) (access_of t i)) (place_sort p t i count)) (sym (columns.types a))
    (subst (λ y. IsGood p sorts sees (placed_op (a ∷ b ∷ []) (work.Subscript (either_element t (as_value (at a).type) (as_value y))) (access_of t i)) (place_sort p t i count)) (sym (columns.types b)) made))

-- ---- addresses

module _ (p : Program) (t : Typed) (sorts : ℕ → Option Sort) (sees : ℕ → Bool) (at : ℕ → Seen) (columns : AreColumns t at) (i a : ℕ) (made : at i ≡ given (address_value (at a))) (typed : is_typed (at i) ≡ true) where
  is_place : (at a).lvalue ≡ true
  is_place = (and_parts (at a).lvalue (not (at a).register) (taken ((at a).lvalue && not (at a).register) (address (at a).type) false (at i) made typed).0).0

  gives_pointer : value_sort p (row_at t i) (type_of_node t i) ≡ pointer
  gives_pointer = ap (value_sort p (row_at t i)) (columns.types i ∙ (taken ((at a).lvalue && not (at a).register) (address (at a).type) false (at i) made typed).1)

  pub address_taken : (count : ℕ) → parts_at t i ≡ a ∷ [] → sorts a ≡ Some (place count) → IsGoodAt p t sorts sees i (node_op (parts_at t i) work.AddressOf)
  address_taken count e h =
      subst (IsGood p sorts sees (node_op (parts_at t i) work.AddressOf)) (sym gives_pointer)
      (subst (λ ps. IsGood p sorts sees (node_op ps work.AddressOf) pointer) (sym e) (more.address p sorts sees a count h))

  -- of what `*` gives
  points_there : (complete : Qualified → Bool) (x : Qualified) (c : Constant) (row : ℕ) → at a ≡ dereferenced complete (value_in x c) → value_sort p row x ≡ pointer
  points_there complete (to u v x) c row e = refl
  points_there complete (array n x) c row e = refl
  points_there complete (plain (Int k) u v) c row e = absurd (false≢true (sym (ap (λ (o : Seen). o.lvalue) e) ∙ is_place))
  points_there complete x c row e = absurd (false≢true (sym (ap (λ (o : Seen). o.lvalue) e) ∙ is_place))

  pub address_followed : (complete : Qualified → Bool) (e : ℕ) → parts_at t a ≡ e ∷ [] → at a ≡ dereferenced complete (value_of_seen (at e)) → IsValueAt p t sorts e
      → IsGoodAt p t sorts sees i (node_op (parts_at t a) work.Pass)
  address_followed complete e parts f h =
      let one = plain_by (λ (o : Seen). o.lvalue) (dereferenced complete) (λ u. refl) (at e) (at a) f is_place in
      let is = points_there complete (at e).type (at e).constant (row_at t e) one in
      subst (IsGood p sorts sees (node_op (parts_at t a) work.Pass)) (sym gives_pointer)
      (subst (λ ps. IsGood p sorts sees (node_op ps work.Pass) pointer) (sym parts) (more.passed p sorts sees e pointer pointer access.Unused (value_as p t sorts at columns e h ∙ ap Some is) tt refl))

  -- of what a subscript gives
  element_there : (complete : Qualified → Bool) (count : Element) (e f left right : ℕ) (x y : Qualified) (c d : Constant) → at a ≡ subscripted complete (value_in x c) (value_in y d)
      → sorts e ≡ Some (value_sort p left x) → sorts f ≡ Some (value_sort p right y) → IsGood p sorts sees (node_op (e ∷ f ∷ []) (work.Binary (Move false count))) pointer
  element_there complete count e f left right (to u v x) (plain (Int r) w z) c d s se sf = good.moved p sorts sees e f r false count se sf
  element_there complete count e f left right (array n x) (plain (Int r) w z) c d s se sf = good.moved p sorts sees e f r false count se sf
  element_there complete count e f left right (plain (Int l) u v) (to w z y) c d s se sf = good.moved_other p sorts sees e f l false count se sf
  element_there complete count e f left right (plain (Int l) u v) (array n y) c d s se sf = good.moved_other p sorts sees e f l false count se sf
  element_there complete count e f left right (plain (Int l) u v) (plain (Int r) w z) c d s se sf = absurd (false≢true (sym (ap (λ (o : Seen). o.lvalue) s) ∙ is_place))
  element_there complete count e f left right x y c d s se sf = absurd (false≢true (sym (ap (λ (o : Seen). o.lvalue) s) ∙ is_place))

  pub address_element : (complete : Qualified → Bool) (e f : ℕ) → parts_at t a ≡ e ∷ f ∷ [] → at a ≡ subscripted complete (value_of_seen (at e)) (value_of_seen (at f))
      → IsValueAt p t sorts e → IsValueAt p t sorts f → IsGoodAt p t sorts sees i (address_by t i a kind.Subscript)
  address_element complete e f parts s se sf =
      let count = either_element t (left_type t a) (right_type t a) in
      let ve = value_in (at e).type (at e).constant in
      let one = plain_by (λ (o : Seen). o.lvalue) (λ v. subscripted complete v (value_of_seen (at f))) (λ u. refl) (at e) (at a) s is_place in
      let two = plain_by (λ (o : Seen). o.lvalue) (λ v. subscripted complete ve v) (λ u. ap (λ (o : Seen). o.lvalue) (subscript_right complete ve u)) (at f) (at a) one is_place in
      subst (IsGood p sorts sees (address_by t i a kind.Subscript)) (sym gives_pointer)
      (subst (λ ps. IsGood p sorts sees (node_op ps (work.Binary (Move false count))) pointer) (sym parts)
      (element_there complete count e f (row_at t e) (row_at t f) (at e).type (at f).type (at e).constant (at f).constant two (value_as p t sorts at columns e se) (value_as p t sorts at columns f sf)))

-- ---- members

-- the kinds of cells don't depend on qualifiers that are added
cells_qualified : (t : Typed) (look : Bool → ℕ → List (Scalar × Guard)) → ((c d : Bool) (node : ℕ) → kinds (look c node) ≡ kinds (look d node)) → (k c v : Bool) (type : Qualified)
    → kinds (cells_with look t k (qualified c v type)) ≡ kinds (cells_with look t k type)
cells_qualified t look same k c v (plain (Int kind) x y) = refl
cells_qualified t look same k c v (plain (Struct node) x y) = same _ _ node
cells_qualified t look same k c v (plain other x y) = refl
cells_qualified t look same k c v (to x y b) = refl
cells_qualified t look same k c v (array n b) = repeated_same n (cells_with look t k (qualified c v b)) (cells_with look t k b) (cells_qualified t look same k c v b)

member_form : (t : Typed) (count row : ℕ) (c v : Bool) (type : Qualified) → IsObject t count (qualified c v type) → IsObjectForm (form_by t row type)
member_form t count row c v (plain Void x y) h = absurd h
member_form t count row c v (plain (Int k) x y) h = tt
member_form t count row c v (plain (Struct n) x y) h = tt
member_form t count row c v (plain other x y) h = tt
member_form t count row c v (to x y b) h = tt
member_form t count row c v (array n b) h = tt

member_sort : (t : Typed) (limits : Limits) (count row chosen : ℕ) (c v : Bool) (type : Qualified) → type_at t.shapes row ≡ qualified c v type → type_at t.shapes chosen ≡ type → IsObject t count (qualified c v type)
    → beside_sort (program_of t limits) row (qualified c v type) ≡ sort_of (program_of t limits) (form_by t chosen type)
member_sort t limits count row chosen c v (plain (Int k) x y) e f h = refl
member_sort t limits count row chosen c v (plain (Struct n) x y) e f h = ap cells (same_kinds t limits n _ _ x y row chosen e f)
member_sort t limits count row chosen c v (plain other x y) e f h = absurd h
member_sort t limits count row chosen c v (to x y b) e f h = refl
member_sort t limits count row chosen c v (array n b) e f h =
    ap cells (ap (λ type. kinds (shape_of t type)) e ∙ cells_qualified t (structure_cells (length t.nodes) t) (structures_same (length t.nodes) t) false c v (array n b)
    ∙ sym (ap (λ type. kinds (shape_of t type)) f))

abbrev member_by : Typed → ℕ → Qualified → Work
member_by t i structure =
    work.Member (cells_of t structure) (offset_in t structure (slice_index_or t.chosen i 0)) (as_element t (type_at t.shapes (chosen_row t i structure))) (form_of t (chosen_row t i structure))

module _ (t : Typed) (limits : Limits) (sorts : ℕ → Option Sort) (sees : ℕ → Bool) (at : ℕ → Seen) (columns : AreColumns t at) (i a : ℕ) (parts : parts_at t i ≡ a ∷ [])
    (made : at i ≡ member_of (Some (type_at t.shapes (chosen_row t i (type_of_node t a)))) (at a)) (inside : IsMemberIn t i (type_of_node t a)) where
  member_type : type_of_node t i ≡ qualified (constant_in (at a).type) (volatile_in (at a).type) (type_at t.shapes (chosen_row t i (type_of_node t a)))
  member_type = columns.types i ∙ ap (λ (o : Seen). o.type) made

  object_form : IsObjectForm (form_of t (chosen_row t i (type_of_node t a)))
  object_form =
      member_form t (row_cells t (chosen_row t i (type_of_node t a))) (chosen_row t i (type_of_node t a)) (constant_in (at a).type) (volatile_in (at a).type) (type_at t.shapes (chosen_row t i (type_of_node t a)))
      (subst (IsObject t (row_cells t (chosen_row t i (type_of_node t a)))) member_type inside.object)

  pub member_placed : (count : ℕ) → sorts a ≡ Some (place count)
      → IsGood (program_of t limits) sorts sees (member t i (left_whole t i)) (place_sort (program_of t limits) t i (row_cells t (chosen_row t i (type_of_node t a))))
  member_placed count h =
      let p = program_of t limits in
      let structure = type_of_node t a in
      let size = row_cells t (chosen_row t i structure) in
      subst (λ ps. IsGood p sorts sees (placed_op ps (member_by t i (type_of_node t (slice_index_or ps 0 0))) (access_of t i)) (place_sort p t i size)) (sym parts)
      (more.member p sorts sees a (cells_of t structure) (offset_in t structure (slice_index_or t.chosen i 0)) (as_element t (type_at t.shapes (chosen_row t i structure))) (place count) (place_sort p t i size) (form_of t (chosen_row t i structure)) (access_of t i) h
      (place_worth p t i size inside.object) (inside.within, place_uses p t i size inside.object) object_form tt)

  pub member_beside : sorts a ≡ Some (cells ((program_of t limits).kinds (row_at t a))) → AreAmong t limits i a
      → IsGood (program_of t limits) sorts sees (member t i (left_whole t i)) (beside_sort (program_of t limits) (row_at t i) (type_of_node t i))
  member_beside h among =
      let p = program_of t limits in
      let structure = type_of_node t a in
      let chosen = chosen_row t i structure in
      let size = row_cells t chosen in
      let own = beside_sort p (row_at t i) (type_of_node t i) in
      let is : own ≡ sort_of p (form_of t chosen) =
      ap (beside_sort p (row_at t i)) member_type ∙ member_sort t limits size (row_at t i) chosen (constant_in (at a).type) (volatile_in (at a).type) (type_at t.shapes chosen) member_type refl (subst (IsObject t size) member_type inside.object) in
      subst (λ ps. IsGood p sorts sees (placed_op ps (member_by t i (type_of_node t (slice_index_or ps 0 0))) (access_of t i)) own) (sym parts)
      (more.member p sorts sees a (cells_of t structure) (offset_in t structure (slice_index_or t.chosen i 0)) (as_element t (type_at t.shapes chosen)) (cells (p.kinds (row_at t a))) own (form_of t chosen) (access_of t i) h
      (used_value p false (row_at t i) (type_of_node t i)) (record { among = among; own_is = is }) object_form tt)

pointed_there : (p : Program) (found : Option Qualified) (x : Qualified) (c : Constant) (row : ℕ) (own : Seen) → own ≡ pointed_member_of found (value_in x c) → is_typed own ≡ true → value_sort p row x ≡ pointer
pointed_there p found (to u v x) c row own e h = refl
pointed_there p found (array n x) c row own e h = refl
pointed_there p found (plain (Int k) u v) c row own e h = typeless own _ e h refl
pointed_there p found x c row own e h = typeless own _ e h refl

pub pointer_members : (p : Program) (t : Typed) (sorts : ℕ → Option Sort) (sees : ℕ → Bool) (at : ℕ → Seen) → AreColumns t at → (i a : ℕ) (found : Option Qualified)
    → parts_at t i ≡ a ∷ [] → at i ≡ pointed_member_of found (value_of_seen (at a)) → is_typed (at i) ≡ true → IsValueAt p t sorts a → IsMemberIn t i (pointed (left_type t i))
    → IsGood p sorts sees (pointer_member t i (pointed (left_type t i))) (place_sort p t i (row_cells t (chosen_row t i (pointed (left_type t i)))))
pointer_members p t sorts sees at columns i a found e f h sa inside =
    let structure = pointed (left_type t i) in
    let size = row_cells t (chosen_row t i structure) in
    let element = as_element t (type_at t.shapes (chosen_row t i structure)) in
    let one = seen_plain (pointed_member_of found) (λ u. refl) (at a) (at i) f h in
    let is = pointed_there p found (at a).type (at a).constant (row_at t a) (at i) one h in
    subst (λ ps. IsGood p sorts sees (placed_op ps (work.PointerMember (as_element t structure) (offset_in t structure (slice_index_or t.chosen i 0)) element) (access_of t i)) (place_sort p t i size)) (sym e)
    (more.pointer_member p sorts sees a (as_element t structure) (offset_in t structure (slice_index_or t.chosen i 0)) element (place_sort p t i size) (access_of t i) (value_as p t sorts at columns a sa ∙ ap Some is)
    (place_worth p t i size inside.object) inside.within (place_uses p t i size inside.object))
