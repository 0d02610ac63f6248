-- `?:` and comma, by the types of their operands.
use Rattle.std.proofs.Common.{◌≡◌, ℕ, Bool, true, false, [], ◌∷◌, map, Option, None, Some, refl, sym, ap, subst, ◌∙◌, ◌==◌, if◌then◌else◌}
use Rattle.std.proofs.lemmas.Bool.{false≢true, eqb-true}
use Rattle.cr_ints.specs.Conversions.{common_of}
use Rattle.cr_check_constants.specs.Constants.{common_kind as common_constant}
use Rattle.cr_check_constants.specs.declared.constant.Constant.{Constant}
use Rattle.cr_syntax.specs.declared.ctype.CType.{CType}
use Rattle.cr_syntax.specs.declared.ctype.CType.TheVariants.{Int, Void, Struct}
use Rattle.cr_typed.specs.declared.typed.Typed.{Typed}
use Rattle.cr_check_types.specs.Types.{Qualified, plain, pointer as to, array, type_at}
use Rattle.cr_check_operands.specs.Values.{Seen, Valued, number as a_number, address, structure, whole, untyped, valueless, type_of_value, plain_value, value_in, value_of_seen, value_beside_places}
use Rattle.cr_check_operands.specs.Rules.{scalar_constant, conditional_by, conditional_value, chosen_value, merged, comma_value, is_zero, is_void, are_alike}
use Rattle.cr_check_expressions.specs.Ruled.{given, is_typed, is_type}
use Rattle.cr_meaning.specs.World.{Program}
use Rattle.cr_meaning.specs.declared.run.Limits.{Limits}
use Rattle.cr_meaning.specs.declared.op.Form.TheVariants as form
use Rattle.cr_meaning.specs.declared.op.Work.TheVariants as work
use Rattle.cr_meaning_operations.specs.Shapes.{type_of_node, shape_of, form_by, form_of, number_of}
use Rattle.cr_meaning_operations.specs.Operations.{node_op, parts_at, program_of}
use Rattle.cr_meaning_soundness.specs.Sorts.{Sort, number, pointer, void, cells}
use Rattle.cr_meaning_soundness.specs.Rules.{IsValue}
use Rattle.cr_meaning_soundness.specs.Operands.{IsScalar}
use Rattle.cr_meaning_typing.specs.Typed.Good.{IsGood, value_sort, row_at}
use Rattle.cr_meaning_typing.specs.Typed.Columns.{AreColumns, IsValueAt, IsGoodAt}
use Rattle.cr_meaning_typing.proofs.TypedLemmas.Gives.{kinds_same}
use Rattle.cr_meaning_typing.specs.Expressions.Used.{beside_sort, used_sort, IsUsedAt}
use Rattle.cr_meaning_typing.proofs.ExpressionsLemmas.Goods as more
use Rattle.cr_meaning_typing.proofs.ExpressionsLemmas.Types.{typeless, taken, seen_plain, by_two, value_as}
use Rattle.cr_meaning_typing.proofs.ExpressionsLemmas.Operators.{scalar_sort}

-- ---- kinds of cells

-- two structures of one node have the same, whatever their rows
pub same_kinds : (t : Typed) (limits : Limits) (n : ℕ) (c v d w : Bool) (one other : ℕ) → type_at t.shapes one ≡ plain (Struct n) c v → type_at t.shapes other ≡ plain (Struct n) d w
    → (program_of t limits).kinds one ≡ (program_of t limits).kinds other
same_kinds t limits n c v d w one other e f =
    ap (λ type. map (λ own. own.0) (shape_of t type)) e ∙ kinds_same t n c v d w ∙ sym (ap (λ type. map (λ own. own.0) (shape_of t type)) f)

-- and two rows of one type
pub row_kinds : (t : Typed) (limits : Limits) (one other : ℕ) → type_at t.shapes one ≡ type_at t.shapes other → (program_of t limits).kinds one ≡ (program_of t limits).kinds other
row_kinds t limits one other e = ap (λ type. map (λ own. own.0) (shape_of t type)) e

-- ---- `?:` of two pointers

abbrev Points : Valued → Type 0
Points v = is_type (type_of_value v) ≡ true → (u : Qualified) × (type_of_value v ≡ to false false u)

address_points : (u : Qualified) → Points (address u)
address_points u h = (u, refl)

untyped_points : Points untyped
untyped_points h = absurd (false≢true h)

if_points : (b : Bool) (v w : Valued) → Points v → Points w → Points (if b then v else w)
if_points true v w f g = f
if_points false v w f g = g

merged_points : (l r : Bool) (x y : Qualified) → Points (merged l r x y)
merged_points l r x y =
    if_points r (address x) _ (address_points x) (if_points l (address y) _ (address_points y)
    (if_points (are_alike x y) (address _) _ (address_points _) (if_points (is_void x) (address _) _ (address_points _)
    (if_points (is_void y) (address _) untyped (address_points _) untyped_points))))

-- a result that points to something
points : (v : Valued) (own : Seen) → own ≡ given v → is_typed own ≡ true → Points v → (u : Qualified) × (own.type ≡ to false false u)
points v own e h f =
    let type : own.type ≡ type_of_value v = ap (λ (o : Seen). o.type) e in
    let it = f (sym (ap is_type type) ∙ h) in (it.0, type ∙ it.1)

zero_points : (b : Bool) (u : Qualified) → Points (if b then address u else untyped)
zero_points b u = if_points b (address u) untyped (address_points u) untyped_points

-- ---- `?:`

module _ (t : Typed) (limits : Limits) (sorts : ℕ → Option Sort) (sees : ℕ → Bool) (a b c left right row : ℕ) (sa : Sort) (has : sorts a ≡ Some sa) (scalar : IsScalar sa) where
  pointer_good : (own : Seen) (sb sc : Sort) → ((u : Qualified) × (own.type ≡ to false false u)) → sorts b ≡ Some sb → sorts c ≡ Some sc → IsScalar sb → IsScalar sc
      → IsGood (program_of t limits) sorts sees (node_op (a ∷ b ∷ c ∷ []) (work.Conditional (form_by t row own.type))) (value_sort (program_of t limits) row own.type)
  pointer_good own sb sc it hb hc kb kc =
      subst (λ o. IsGood (program_of t limits) sorts sees (node_op (a ∷ b ∷ c ∷ []) (work.Conditional (form_by t row o))) (value_sort (program_of t limits) row o)) (sym it.1)
      (more.conditional (program_of t limits) sorts sees a b c sa sb sc (form.Pointer (number_of t it.0)) has hb hc scalar tt tt kb kc)

  chosen_good : (x y : Qualified) (k : Constant) (l r : Bool) (m d : Constant) (own : Seen) → own ≡ given (chosen_value k l r (value_in x m) (value_in y d)) → is_typed own ≡ true
      → type_at t.shapes left ≡ x → type_at t.shapes right ≡ y → type_at t.shapes row ≡ own.type
      → sorts b ≡ Some (value_sort (program_of t limits) left x) → sorts c ≡ Some (value_sort (program_of t limits) right y)
      → IsGood (program_of t limits) sorts sees (node_op (a ∷ b ∷ c ∷ []) (work.Conditional (form_by t row own.type))) (value_sort (program_of t limits) row own.type)
  unfolding common_constant
  chosen_good (plain (Int i) u v) (plain (Int j) w z) k l r m d own e h ex ey er hb hc =
      subst (λ o. IsGood (program_of t limits) sorts sees (node_op (a ∷ b ∷ c ∷ []) (work.Conditional (form_by t row o))) (value_sort (program_of t limits) row o)) (sym (ap (λ (o : Seen). o.type) e))
      (more.conditional (program_of t limits) sorts sees a b c sa (number i) (number j) (form.Number (common_of i j)) has hb hc scalar tt tt tt tt)
  chosen_good (plain Void u v) (plain Void w z) k l r m d own e h ex ey er hb hc =
      subst (λ o. IsGood (program_of t limits) sorts sees (node_op (a ∷ b ∷ c ∷ []) (work.Conditional (form_by t row o))) (value_sort (program_of t limits) row o)) (sym (ap (λ (o : Seen). o.type) e))
      (more.conditional (program_of t limits) sorts sees a b c sa void void form.Void has hb hc scalar refl refl tt tt)
  chosen_good (plain (Struct n) u v) (plain (Struct o) w z) k l r m d own e h ex ey er hb hc =
      let both = taken (n == o) (structure n) false own e h in
      let same : n ≡ o = eqb-true n o both.0 in
      let first : cells ((program_of t limits).kinds left) ≡ cells ((program_of t limits).kinds row) = ap cells (same_kinds t limits n u v false false left row ex (er ∙ both.1)) in
      let second : cells ((program_of t limits).kinds right) ≡ cells ((program_of t limits).kinds row) = ap cells (same_kinds t limits n w z false false right row (ey ∙ ap (λ q. plain (Struct q) w z) (sym same)) (er ∙ both.1)) in
      subst (λ q. IsGood (program_of t limits) sorts sees (node_op (a ∷ b ∷ c ∷ []) (work.Conditional (form_by t row q))) (value_sort (program_of t limits) row q)) (sym both.1)
      (more.conditional (program_of t limits) sorts sees a b c sa (cells ((program_of t limits).kinds left)) (cells ((program_of t limits).kinds right)) (form.Cells row) has hb hc scalar first second tt tt)
  chosen_good (to u v x) (to w z y) k l r m d own e h ex ey er hb hc = pointer_good own pointer pointer (points (merged l r x y) own e h (merged_points l r x y)) hb hc tt tt
  chosen_good (to u v x) (array n y) k l r m d own e h ex ey er hb hc = pointer_good own pointer pointer (points (merged l r x y) own e h (merged_points l r x y)) hb hc tt tt
  chosen_good (array o x) (to w z y) k l r m d own e h ex ey er hb hc = pointer_good own pointer pointer (points (merged l r x y) own e h (merged_points l r x y)) hb hc tt tt
  chosen_good (array o x) (array n y) k l r m d own e h ex ey er hb hc = pointer_good own pointer pointer (points (merged l r x y) own e h (merged_points l r x y)) hb hc tt tt
  chosen_good (to u v x) (plain (Int j) w z) k l r m d own e h ex ey er hb hc = pointer_good own pointer (number j) (points (if is_zero d then address x else untyped) own e h (zero_points (is_zero d) x)) hb hc tt tt
  chosen_good (array o x) (plain (Int j) w z) k l r m d own e h ex ey er hb hc = pointer_good own pointer (number j) (points (if is_zero d then address x else untyped) own e h (zero_points (is_zero d) x)) hb hc tt tt
  chosen_good (plain (Int i) u v) (to w z y) k l r m d own e h ex ey er hb hc = pointer_good own (number i) pointer (points (if is_zero m then address y else untyped) own e h (zero_points (is_zero m) y)) hb hc tt tt
  chosen_good (plain (Int i) u v) (array n y) k l r m d own e h ex ey er hb hc = pointer_good own (number i) pointer (points (if is_zero m then address y else untyped) own e h (zero_points (is_zero m) y)) hb hc tt tt
  chosen_good x y k l r m d own e h ex ey er hb hc = typeless own _ e h refl

-- the first operand is a scalar
conditional_typed : (o : Option Constant) (l r : Bool) (v w : Valued) (own : Seen) → own ≡ given (conditional_by o l r v w) → is_typed own ≡ true
    → (k : Constant) × ((o ≡ Some k) × (own ≡ given (chosen_value k l r v w)))
conditional_typed (Some k) l r v w own e h = (k, (refl, e))
conditional_typed None l r v w own e h = typeless own _ e h refl

-- no operand is an array that is no place
pub first_refuses : (l r : Bool) (v w : Valued) (t : Qualified) → is_typed (given (conditional_value (whole t) l r v w)) ≡ false
first_refuses l r v w t = refl

second_refused : (o : Option Constant) (l r : Bool) (w : Valued) (t : Qualified) → conditional_by o l r (whole t) w ≡ untyped
second_refused (Some k) l r w t = refl
second_refused None l r w t = refl

third_chosen : (k : Constant) (l r : Bool) (v : Valued) (t : Qualified) → chosen_value k l r v (whole t) ≡ untyped
third_chosen k l r (a_number x) t = refl
third_chosen k l r (structure n) t = refl
third_chosen k l r valueless t = refl
third_chosen k l r (address x) t = refl
third_chosen k l r v t = refl

third_refused : (o : Option Constant) (l r : Bool) (v : Valued) (t : Qualified) → conditional_by o l r v (whole t) ≡ untyped
third_refused (Some k) l r v t = third_chosen k l r v t
third_refused None l r v t = refl

pub second_refuses : (u : Valued) (l r : Bool) (w : Valued) (t : Qualified) → is_typed (given (conditional_value u l r (whole t) w)) ≡ false
second_refuses u l r w t = ap (λ v. is_type (type_of_value v)) (second_refused (scalar_constant u) l r w t)

pub third_refuses : (u : Valued) (l r : Bool) (v : Valued) (t : Qualified) → is_typed (given (conditional_value u l r v (whole t))) ≡ false
third_refuses u l r v t = ap (λ w. is_type (type_of_value w)) (third_refused (scalar_constant u) l r v t)

pub conditionals : (t : Typed) (limits : Limits) (sorts : ℕ → Option Sort) (sees : ℕ → Bool) (at : ℕ → Seen) → AreColumns t at → (i a b c : ℕ) (l r : Bool)
    → parts_at t i ≡ a ∷ b ∷ c ∷ [] → at i ≡ given (conditional_value (value_of_seen (at a)) l r (value_of_seen (at b)) (value_of_seen (at c))) → is_typed (at i) ≡ true
    → IsValueAt (program_of t limits) t sorts a → IsValueAt (program_of t limits) t sorts b → IsValueAt (program_of t limits) t sorts c
    → IsGoodAt (program_of t limits) t sorts sees i (node_op (parts_at t i) (work.Conditional (form_of t (row_at t i))))
conditionals t limits sorts sees at columns i a b c l r e f h ha hb hc =
    let p = program_of t limits in
    let row = row_at t i in
    let va = value_in (at a).type (at a).constant in
    let vb = value_in (at b).type (at b).constant in
    let vc = value_in (at c).type (at c).constant in
    let one = seen_plain (λ u. given (conditional_value u l r (value_of_seen (at b)) (value_of_seen (at c)))) (first_refuses l r (value_of_seen (at b)) (value_of_seen (at c))) (at a) (at i) f h in
    let two = seen_plain (λ v. given (conditional_value va l r v (value_of_seen (at c)))) (second_refuses va l r (value_of_seen (at c))) (at b) (at i) one h in
    let three = seen_plain (λ w. given (conditional_value va l r vb w)) (third_refuses va l r vb) (at c) (at i) two h in
    let it = conditional_typed (scalar_constant va) l r vb vc (at i) three h in
    let sa = value_sort p (row_at t a) (at a).type in
    let good = chosen_good t limits sorts sees a b c (row_at t b) (row_at t c) row sa (value_as p t sorts at columns a ha) (scalar_sort p (row_at t a) (at a).type (at a).constant it.0 it.1.0)
    (at b).type (at c).type it.0 l r (at b).constant (at c).constant (at i) it.1.1 h (columns.types b) (columns.types c) (columns.types i) (value_as p t sorts at columns b hb) (value_as p t sorts at columns c hc) in
    subst (λ ps. IsGood p sorts sees (node_op ps (work.Conditional (form_of t row))) (value_sort p row (type_of_node t i))) (sym e)
    (subst (λ o. IsGood p sorts sees (node_op (a ∷ b ∷ c ∷ []) (work.Conditional (form_by t row o))) (value_sort p row o)) (sym (columns.types i)) good)

-- ---- comma

pub used_value : (p : Program) (l : Bool) (row : ℕ) (type : Qualified) → IsValue (used_sort p l row type)
used_value p true (row) (plain (Int kind) u v) = tt
used_value p true row (plain (Struct n) u v) = tt
used_value p true row (plain other u v) = tt
used_value p true row (to u v x) = tt
used_value p true row (array n x) = tt
used_value p false row (plain (Int kind) u v) = tt
used_value p false row (plain (Struct n) u v) = tt
used_value p false row (plain other u v) = tt
used_value p false row (to u v x) = tt
used_value p false row (array n x) = tt

module _ (t : Typed) (limits : Limits) (row right : ℕ) where
  comma_plain : (of : CType) (u v : Bool) (c : Constant) (va : Valued) (own : Seen) → own ≡ given (comma_value va (plain_value of c)) → is_typed own ≡ true
      → type_at t.shapes right ≡ plain of u v → type_at t.shapes row ≡ own.type → value_sort (program_of t limits) right (plain of u v) ≡ beside_sort (program_of t limits) row own.type
  comma_plain (Int kind) u v c va own e h ey er = sym (ap (beside_sort (program_of t limits) row) (ap (λ (o : Seen). o.type) e))
  comma_plain Void u v c va own e h ey er = sym (ap (beside_sort (program_of t limits) row) (ap (λ (o : Seen). o.type) e))
  comma_plain (Struct n) u v c va own e h ey er =
      let type : own.type ≡ plain (Struct n) false false = ap (λ (o : Seen). o.type) e in
      ap cells (same_kinds t limits n u v false false right row ey (er ∙ type)) ∙ sym (ap (beside_sort (program_of t limits) row) type)
  comma_plain other u v c va own e h ey er = typeless own _ e h refl

  comma_sort : (l : Bool) (y : Qualified) (c : Constant) (va : Valued) (own : Seen) → own ≡ given (comma_value va (if l then value_in y c else value_beside_places y c)) → is_typed own ≡ true
      → type_at t.shapes right ≡ y → type_at t.shapes row ≡ own.type → used_sort (program_of t limits) l right y ≡ beside_sort (program_of t limits) row own.type
  comma_sort true (plain of u v) c va own e h ey er = comma_plain of u v c va own e h ey er
  comma_sort false (plain of u v) c va own e h ey er = comma_plain of u v c va own e h ey er
  comma_sort true (to u v y) c va own e h ey er = sym (ap (beside_sort (program_of t limits) row) (ap (λ (o : Seen). o.type) e))
  comma_sort false (to u v y) c va own e h ey er = sym (ap (beside_sort (program_of t limits) row) (ap (λ (o : Seen). o.type) e))
  comma_sort true (array n y) c va own e h ey er = sym (ap (beside_sort (program_of t limits) row) (ap (λ (o : Seen). o.type) e))
  comma_sort false (array n y) c va own e h ey er =
      let type : own.type ≡ array n y = ap (λ (o : Seen). o.type) e in
      ap cells (row_kinds t limits right row (ey ∙ sym type ∙ sym er)) ∙ sym (ap (beside_sort (program_of t limits) row) type)

pub commas : (t : Typed) (limits : Limits) (sorts : ℕ → Option Sort) (sees : ℕ → Bool) (at : ℕ → Seen) → AreColumns t at → (i a b : ℕ) (sa : Sort)
    → parts_at t i ≡ a ∷ b ∷ [] → at i ≡ given (comma_value (value_of_seen (at a)) (value_of_seen (at b))) → is_typed (at i) ≡ true
    → sorts a ≡ Some sa → IsUsedAt (program_of t limits) t sorts at b
    → IsGood (program_of t limits) sorts sees (node_op (parts_at t i) work.Comma) (beside_sort (program_of t limits) (row_at t i) (type_of_node t i))
commas t limits sorts sees at columns i a b sa e f h ha hb =
    let p = program_of t limits in
    let lvalue = (at b).lvalue in
    let sb = used_sort p lvalue (row_at t b) (at b).type in
    let used : sorts b ≡ Some sb = hb ∙ ap (λ x. Some (used_sort p lvalue (row_at t b) x)) (columns.types b) in
    let same = comma_sort t limits (row_at t i) (row_at t b) lvalue (at b).type (at b).constant (value_of_seen (at a)) (at i) f h (columns.types b) (columns.types i) in
    by_two p t sorts sees at columns (beside_sort p) (λ ps x y. node_op ps work.Comma) i a b e
    (subst (IsGood p sorts sees (node_op (a ∷ b ∷ []) work.Comma)) same (more.comma p sorts sees a b sa sb ha used (used_value p lvalue (row_at t b) (at b).type)))
