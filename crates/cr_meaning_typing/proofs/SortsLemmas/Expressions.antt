-- All kinds of expressions.
use Rattle.std.proofs.Common.{◌≡◌, ℕ, ◌<◌, ◌≤◌, ◌^◌, ◌==◌, ℤ, Bool, true, false, not, ◌&&◌, List, [], ◌∷◌, Option, None, Some, length, refl, sym, ap, subst, ◌∙◌, slice_get, slice_index_or, if◌then◌else◌}
use Rattle.std.proofs.lemmas.Bool.{false≢true}
use Rattle.std.specs.Prelude.{pos, nat_le}
use Rattle.cr_ints.specs.declared.kind.IntKind.{IntKind}
use Rattle.cr_ints.specs.declared.kind.IntKind.TheVariants.{Int as IntegerKind, Char as CharKind}
use Rattle.cr_check_constants.specs.declared.constant.Constant.TheVariants.{NotConstant, Value}
use Rattle.cr_check_constants.specs.declared.constant.Operand.{Operand}
use Rattle.cr_check_constants.specs.declared.operator.Arithmetic.TheVariants.{Multiply, Divide, Remainder, And, Xor, Or}
use Rattle.cr_check_constants.specs.declared.operator.Shift.TheVariants.{Left, Right}
use Rattle.cr_check_constants.specs.declared.operator.Relation.TheVariants.{Equal, NotEqual, Less, Greater, LessEqual, GreaterEqual}
use Rattle.cr_check_constants.specs.declared.operator.Sign.TheVariants as operated
use Rattle.cr_check_constants.specs.Constants.{in_kind}
use Rattle.cr_check_constants.specs.Literals.{valued, character_of_code, integer_of, character_of}
use Rattle.cr_check_operands.specs.declared.logic.Junction.TheVariants.{Conjunction, Disjunction}
use Rattle.cr_syntax.specs.declared.ctype.CType.TheVariants.{Int, Struct}
use Rattle.cr_syntax.specs.declared.node.Kind.{Kind}
use Rattle.cr_syntax.specs.declared.node.Kind.TheVariants as kind
use Rattle.cr_syntax.specs.declared.node.Node.{Node}
use Rattle.cr_typed.specs.declared.typed.Typed.{Typed}
use Rattle.cr_typed.specs.Typed.{row_cells}
use Rattle.cr_check_types.specs.Types.{Qualified, plain, pointer as to, array}
use Rattle.cr_check_types.specs.Layouts.{layout_of}
use Rattle.cr_check_operands.specs.Values.{Seen, Valued, number as a_number, address, untyped, whole, value_in, value_of_seen, no_type}
use Rattle.cr_check_operands.specs.Rules.{shifted_value, difference_value, order_value, equality_value, logical_value, scalar_constant, size_value}
use Rattle.cr_check_operands.specs.Places.{address_value, dereferenced, subscripted, structure_in, member_of, pointed_member_of, text_of}
use Rattle.cr_check_expressions.specs.declared.form.Form.{Form}
use Rattle.cr_check_expressions.specs.declared.form.Form.TheVariants as form
use Rattle.cr_check_expressions.specs.Forms.{form_of}
use Rattle.cr_check_expressions.specs.Known.{Meaning, an_object, an_enumerator, a_function, a_type, unclear, Source}
use Rattle.cr_check_expressions.specs.Ruled.{operand, given, is_typed, complete, literal, named_by, member_in, pointed_structure, called, sized, ruled}
use Rattle.cr_check_expressions.specs.Used.{takes_place}
use Rattle.cr_meaning.specs.declared.op.Op.{Op}
use Rattle.cr_meaning.specs.declared.op.Operator.TheVariants as operator
use Rattle.cr_meaning.specs.declared.op.Relation.TheVariants as relation
use Rattle.cr_meaning.specs.declared.op.Sign.TheVariants as sign
use Rattle.cr_meaning.specs.declared.op.Work.TheVariants as work
use Rattle.cr_meaning.specs.declared.run.Limits.{Limits}
use Rattle.cr_meaning_soundness.specs.Sorts.{cells, chars}
use Rattle.cr_meaning_operations.specs.Shapes.{type_of_node, name_in, pointed_element}
use Rattle.cr_meaning_operations.specs.Operations.{node_op, placed, parts_at, part_at, kind_at, parts_if, left_type, right_type, either_element, address_by, chosen_row, pointed, member, pointer_member, constant, constant_by, identifier_by, callee_of, shift, difference, comparison, updated_integers, updated_shift, updated_sum, op_by}
use Rattle.cr_meaning_typing.specs.Typed.Good.{IsGood, value_sort, place_sort, row_at}
use Rattle.cr_meaning_typing.specs.Typed.Typing.{is_expression}
use Rattle.cr_meaning_typing.specs.Typed.Placed.{IsObject}
use Rattle.cr_meaning_typing.specs.Typed.Columns.{IsValueAt, constant_value}
use Rattle.cr_meaning_typing.proofs.TypedLemmas.Worth as worth
use Rattle.cr_meaning_typing.proofs.TypedLemmas.Stand.{names}
use Rattle.cr_meaning_typing.specs.Expressions.Used.{beside_sort}
use Rattle.cr_meaning_typing.proofs.ExpressionsLemmas.Types.{typeless, plainly}
use Rattle.cr_meaning_typing.proofs.ExpressionsLemmas.Operators.{shifts_refuse, differences_refuse, orders_refuse, equalities_refuse, junctions_refuse, shifts, differences, orders, equalities, conjunctions, disjunctions}
use Rattle.cr_meaning_typing.proofs.ExpressionsLemmas.Changes.{integer_updates, shift_updates, sum_updates}
use Rattle.cr_meaning_typing.proofs.ExpressionsLemmas.Places.{constants, literal_placed, literal_filling, group_placed, group_beside, followeds, subscript_right, subscripts, address_taken, address_followed, address_element, member_placed, member_beside, pointer_members}
use Rattle.cr_meaning_typing.proofs.CallsLemmas.Arguments.{passes}
use Rattle.cr_meaning_typing.proofs.CallsLemmas.Calls as call
use Rattle.cr_meaning_typing.specs.Sorts.Table.{Judgement, size_at, expression_sort}
use Rattle.cr_meaning_typing.specs.Sorts.Founded.{IsOperand, AreFounded, is_followed, is_known, IsFound, ExpressionsAreGood}
use Rattle.cr_meaning_typing.proofs.SortsLemmas.Operands.{p, sorts, is_text, expression_there, kind_there, operand_is, ruled_as, has_type, used, as_place, as_beside, own_beside, own_value, own_given, own_place, no_filling, AsOne, one_of, two_of, part_is}
use Rattle.cr_meaning_typing.proofs.SortsLemmas.Objects.{dereferenced_place, subscripted_place, pointed_place, size_is, inner_size, object}
use Rattle.cr_meaning_typing.proofs.SortsLemmas.Values.{part_runs, as_used, as_value, signed, negated, stepped_by, two, of_integers, of_sum, of_comma, of_assign, of_compound, of_cast, of_conditional}

-- the structure of a member that is found
structure_there : (s : Source) (i token : ℕ) (type : Qualified) (from own : Seen) → own ≡ member_of (member_in s i token (structure_in type)) from → is_typed own ≡ true
    → (n : ℕ) × ((c : Bool) × ((v : Bool) × (type ≡ plain (Struct n) c v)))
structure_there s i token (plain (Struct n) c v) from own e h = (n, (c, (v, refl)))
structure_there s i token (plain (Int k) c v) from own e h = typeless own no_type e h refl
structure_there s i token (plain other c v) from own e h = typeless own no_type e h refl
structure_there s i token (to c v b) from own e h = typeless own no_type e h refl
structure_there s i token (array n b) from own e h = typeless own no_type e h refl

-- a constant's spelling gives a value
valued_is : (number : ℕ) (o : Option IntKind) (x : Operand) → valued number o ≡ Some x → (v : ℤ) × (x.constant ≡ Value v)
valued_is number None x e = absurd (cc e)
valued_is number (Some kind) x e = let same : record { kind = kind; constant = Value (pos number) } ≡ x = cc e in (pos number, sym (ap (λ (o : Operand). o.constant) same))

code_is : (code : ℕ) (x : Operand) → character_of_code code ≡ Some x → (v : ℤ) × (x.constant ≡ Value v)
code_is code x e = by (nat_le code 255) e
  where
    by : (b : Bool) → (if b then Some (record { kind = IntegerKind; constant = Value (in_kind CharKind (pos code)) }) else None) ≡ Some x → (v : ℤ) × (x.constant ≡ Value v)
    by true f = let same : record { kind = IntegerKind; constant = Value (in_kind CharKind (pos code)) } ≡ x = cc f in (in_kind CharKind (pos code), sym (ap (λ (o : Operand). o.constant) same))
    by false f = absurd (cc f)

addressed_place : (l r : Bool) (v : Valued) (own : Seen) → own ≡ given (if l && not r then v else untyped) → is_typed own ≡ true → l ≡ true
addressed_place true r v own e h = refl
addressed_place false r v own e h = typeless own (given untyped) e h refl

sized_as : (b : Bool) (bytes : ℕ) (own : Seen) → own ≡ given (size_value b bytes) → is_typed own ≡ true → (x : Operand) × ((v : ℤ) × ((own ≡ given (a_number x)) × (x.constant ≡ Value v)))
sized_as true bytes own e h = (_, (_, (e, refl)))
sized_as false bytes own e h = typeless own (given untyped) e h refl

module _ (t : Typed) (limits : Limits) (j : Judgement) (sees : ℕ → ℕ → Bool) (founded : AreFounded t limits j sees) (few : limits.output < 2 ^ 31) (i : ℕ) (n : Node) (at : slice_get t.nodes i ≡ Some n)
    (runs : j.runs i ≡ true) (expression : is_expression (form_of (kind_at t i)) ≡ true) where
  abbrev Good : Op → Type 0
  Good op = IsGood (p t limits j sees founded) (sorts t limits j sees founded) (sees i) op (expression_sort (p t limits j sees founded) t j i)

  abbrev Is : Op → Type 0
  Is op = IsGood (p t limits j sees founded) (sorts t limits j sees founded) (sees i) op (value_sort (p t limits j sees founded) (row_at t i) (type_of_node t i))

  typed : is_typed (j.at i) ≡ true
  typed = has_type t limits j sees founded i expression

  rule : (f : Form) → form_of (kind_at t i) ≡ f → j.at i ≡ ruled f j.at (j.source i) i n
  rule f is = ruled_as t limits j sees founded i n f at is

  as_given : (op : Op) (v : Valued) → j.at i ≡ given v → worth.is_decayed v ≡ true → Is op → Good op
  as_given op v e d g = subst (IsGood (p t limits j sees founded) (sorts t limits j sees founded) (sees i) op) (sym (own_given t limits j sees founded i v false e d)) g

  -- ---- constants

  number_good : (x : Operand) (v : ℤ) → is_known (kind_at t i) ≡ true → j.at i ≡ given (a_number x) → x.constant ≡ Value v → Good (constant t i)
  number_good x v known e f =
      as_given (constant t i) (a_number x) e refl
      (constants (p t limits j sees founded) t (sorts t limits j sees founded) (sees i) j.at founded.judged.columns i x v e f (founded.ranged i x v runs known e f))

  literal_good : (o : Option Operand) → is_known (kind_at t i) ≡ true → ((x : Operand) → o ≡ Some x → (v : ℤ) × (x.constant ≡ Value v)) → j.at i ≡ given (literal o) → Good (constant t i)
  literal_good None known valued e = typeless (j.at i) (given untyped) e typed refl
  literal_good (Some x) known valued e = let v = valued x refl in number_good x v.0 known e v.1

  integer_valued : (spelling : List ℕ) (x : Operand) → integer_of spelling ≡ Some x → (v : ℤ) × (x.constant ≡ Value v)
  integer_valued spelling x e = valued_is _ _ x e

  character_valued : (spelling : List ℕ) (x : Operand) → character_of spelling ≡ Some x → (v : ℤ) × (x.constant ≡ Value v)
  character_valued spelling x e = code_is _ x e

  sized_good : (type : Qualified) → is_known (kind_at t i) ≡ true → j.at i ≡ given (sized (j.source i) i type) → Good (constant t i)
  sized_good type known e =
      let x = sized_as (complete (j.source i) i type) (layout_of (j.source i).layouts type).size (j.at i) e typed in number_good x.0 x.1.0 known x.1.1.0 x.1.1.1

  -- ---- names

  name_good : (m : Meaning) → kind_at t i ≡ kind.Identifier → j.at i ≡ named_by m → Good (identifier_by t i (slice_index_or t.constants i None))
  name_good (an_object type register) is e =
      let none : slice_index_or t.constants i None ≡ None = founded.judged.columns.constants i ∙ ap (λ (o : Seen). constant_value o.constant) e in
      let l : (j.at i).lvalue ≡ true = ap (λ (o : Seen). o.lvalue) e in
      let named = founded.named.objects i n runs at (kind_there t limits j sees founded i n at ∙ is) l in
      subst (λ o. Good (identifier_by t i o)) (sym none)
      (subst (IsGood (p t limits j sees founded) (sorts t limits j sees founded) (sees i) (identifier_by t i None))
      (sym (own_place t limits j sees founded i _ l (no_filling t limits j sees founded i (ap (is_text t limits j sees founded) is)) (size_is t limits j sees founded i kind.Identifier is)))
      (names (p t limits j sees founded) t (sorts t limits j sees founded) (sees i) i named.0 named.1))
  name_good (an_enumerator value) is e =
      let some : slice_index_or t.constants i None ≡ Some value = founded.judged.columns.constants i ∙ ap (λ (o : Seen). constant_value o.constant) e in
      let known = number_good _ value (ap is_known is) e refl in
      subst (λ o. Good (identifier_by t i o)) (sym some) (subst (λ o. Good (constant_by t i o)) some known)
  name_good (a_function signature) is e = typeless (j.at i) no_type e typed refl
  name_good a_type is e = typeless (j.at i) no_type e typed refl
  name_good unclear is e = typeless (j.at i) no_type e typed refl

  -- ---- literals and brackets

  text_good : kind_at t i ≡ kind.Text → Good (placed t i [] (work.Object i (name_in t (type_of_node t i))))
  text_good is = by (j.fills i) refl
    where
      bytes : ℕ
      bytes = length (slice_index_or t.texts i [])

      made : j.at i ≡ text_of bytes
      made = rule form.Text (ap form_of is) ∙ ap text_of (founded.judged.texts i i)

      literal_has : (1 ≤ bytes) × (sees i i ≡ true)
      literal_has = founded.named.literals i runs is

      by : (b : Bool) → j.fills i ≡ b → Good (placed t i [] (work.Object i (name_in t (type_of_node t i))))
      by true f =
          let l : (j.at i).lvalue ≡ true = ap (λ (o : Seen). o.lvalue) made in
          subst (IsGood (p t limits j sees founded) (sorts t limits j sees founded) (sees i) (placed t i [] (work.Object i (name_in t (type_of_node t i)))))
          (sym ((λ k. if l k then (if f k then chars else place_sort (p t limits j sees founded) t i (size_at (p t limits j sees founded) t i)) else beside_sort (p t limits j sees founded) (row_at t i) (type_of_node t i))))
          (literal_filling t limits (sorts t limits j sees founded) (sees i) j.at founded.judged.columns i is literal_has.0 literal_has.1 (founded.laid.filled i f).1)
      by false f =
          subst (IsGood (p t limits j sees founded) (sorts t limits j sees founded) (sees i) (placed t i [] (work.Object i (name_in t (type_of_node t i)))))
          (sym (own_place t limits j sees founded i bytes (ap (λ (o : Seen). o.lvalue) made) f (size_is t limits j sees founded i kind.Text is)))
          (literal_placed t limits (sorts t limits j sees founded) (sees i) j.at founded.judged.columns i is made literal_has.0 literal_has.1)

  group_good : kind_at t i ≡ kind.Group → Good (placed t i (parts_at t i) work.Pass)
  group_good is = by (j.at x.a).lvalue refl
    where
      f : form_of (kind_at t i) ≡ form.Group
      f = ap form_of is

      x : AsOne t limits j sees founded i
      x = one_of t limits j sees founded i form.Group f refl refl

      same : j.at i ≡ j.at x.a
      same = rule form.Group f ∙ operand_is t limits j sees founded i 0 x.a n at x.first.is

      run : j.runs x.a ≡ true
      run = part_runs t limits j sees founded i n at runs expression form.Group 0 x.a f refl x.first

      by : (b : Bool) → (j.at x.a).lvalue ≡ b → Good (placed t i (parts_at t i) work.Pass)
      by true l =
          let own : (j.at i).lvalue ≡ true = ap (λ (o : Seen). o.lvalue) same ∙ l in
          let size = inner_size t limits j sees founded i x.a is x.first.is x.first.below in
          subst (IsGood (p t limits j sees founded) (sorts t limits j sees founded) (sees i) (placed t i (parts_at t i) work.Pass))
          (sym (own_place t limits j sees founded i _ own (no_filling t limits j sees founded i (ap (is_text t limits j sees founded) is)) size))
          (group_placed t limits (sorts t limits j sees founded) (sees i) j.at founded.judged.columns i x.a x.parts (size_at (p t limits j sees founded) t x.a)
          (as_place t limits j sees founded i 0 x.a x.first run (ap takes_place f) l)
          (subst (λ m. IsObject t m (type_of_node t i)) size (object t limits j sees founded i runs expression own)))
      by false l =
          subst (IsGood (p t limits j sees founded) (sorts t limits j sees founded) (sees i) (placed t i (parts_at t i) work.Pass))
          (sym (own_beside t limits j sees founded i (ap (λ (o : Seen). o.lvalue) same ∙ l)))
          (group_beside t limits (sorts t limits j sees founded) (sees i) j.at founded.judged.columns i x.a x.parts same (as_beside t limits j sees founded i 0 x.a x.first run (ap takes_place f) l))

  -- ---- what is followed

  dereference_good : kind_at t i ≡ kind.Dereference → Good (placed t i (parts_at t i) (work.Dereference (pointed_element t (left_type t i))))
  dereference_good is =
      let f = ap form_of is in
      let c = complete (j.source i) i in
      let x = one_of t limits j sees founded i form.Dereference f refl refl in
      let made : j.at i ≡ dereferenced c (value_of_seen (j.at x.a)) = rule form.Dereference f ∙ ap (λ s. dereferenced c (value_of_seen s)) (operand_is t limits j sees founded i 0 x.a n at x.first.is) in
      let value = as_value t limits j sees founded i n at runs expression form.Dereference 0 x.a f refl refl x.first (dereferenced c) (λ u. refl) made in
      let l : (j.at i).lvalue ≡ true = ap (λ (o : Seen). o.lvalue) made ∙ dereferenced_place c (value_of_seen (j.at x.a)) (sym (ap is_typed made) ∙ typed) in
      subst (IsGood (p t limits j sees founded) (sorts t limits j sees founded) (sees i) (placed t i (parts_at t i) (work.Dereference (pointed_element t (left_type t i)))))
      (sym (own_place t limits j sees founded i _ l (no_filling t limits j sees founded i (ap (is_text t limits j sees founded) is)) (size_is t limits j sees founded i kind.Dereference is)))
      (followeds (p t limits j sees founded) t (sorts t limits j sees founded) (sees i) j.at c founded.judged.columns i x.a x.parts made typed value (founded.placed.cells i runs (ap is_followed is)))

  subscript_good : kind_at t i ≡ kind.Subscript → Good (placed t i (parts_at t i) (work.Subscript (either_element t (left_type t i) (right_type t i))))
  subscript_good is =
      let f = ap form_of is in
      let c = complete (j.source i) i in
      let x = two_of t limits j sees founded i form.Subscript f refl refl refl in
      let va = value_of_seen (j.at x.a) in
      let vb = value_of_seen (j.at x.b) in
      let made : j.at i ≡ subscripted c va vb =
      rule form.Subscript f ∙ (λ k. subscripted c (value_of_seen (operand_is t limits j sees founded i 0 x.a n at x.first.is k)) (value_of_seen (operand_is t limits j sees founded i 1 x.b n at x.second.is k))) in
      let one = as_value t limits j sees founded i n at runs expression form.Subscript 0 x.a f refl refl x.first (λ v. subscripted c v vb) (λ u. refl) made in
      let other = as_value t limits j sees founded i n at runs expression form.Subscript 1 x.b f refl refl x.second (λ v. subscripted c va v) (λ u. ap is_typed (subscript_right c va u)) made in
      let l : (j.at i).lvalue ≡ true = ap (λ (o : Seen). o.lvalue) made ∙ subscripted_place c va vb (sym (ap is_typed made) ∙ typed) in
      subst (IsGood (p t limits j sees founded) (sorts t limits j sees founded) (sees i) (placed t i (parts_at t i) (work.Subscript (either_element t (left_type t i) (right_type t i)))))
      (sym (own_place t limits j sees founded i _ l (no_filling t limits j sees founded i (ap (is_text t limits j sees founded) is)) (size_is t limits j sees founded i kind.Subscript is)))
      (subscripts (p t limits j sees founded) t (sorts t limits j sees founded) (sees i) j.at c founded.judged.columns i x.a x.b x.parts made typed one other (founded.placed.cells i runs (ap is_followed is)))

  -- ---- members

  member_good : kind_at t i ≡ kind.Member → Good (member t i (type_of_node t (part_at t i 0)))
  member_good is = by (j.at x.a).lvalue refl
    where
      f : form_of (kind_at t i) ≡ form.Member
      f = ap form_of is

      x : AsOne t limits j sees founded i
      x = one_of t limits j sees founded i form.Member f refl refl

      found : IsFound t limits j i x.a
      found = founded.placed.members i x.a runs is x.first.is

      run : j.runs x.a ≡ true
      run = part_runs t limits j sees founded i n at runs expression form.Member 0 x.a f refl x.first

      by : (b : Bool) → (j.at x.a).lvalue ≡ b → Good (member t i (type_of_node t (part_at t i 0)))
      by true l =
          subst (IsGood (p t limits j sees founded) (sorts t limits j sees founded) (sees i) (member t i (type_of_node t (part_at t i 0))))
          (sym (own_place t limits j sees founded i _ (ap (λ (o : Seen). o.lvalue) found.is ∙ l) (no_filling t limits j sees founded i (ap (is_text t limits j sees founded) is))
          (size_is t limits j sees founded i kind.Member is ∙ ap (λ a. row_cells t (chosen_row t i (type_of_node t a))) (part_is t limits j sees founded i x.a x.first.is))))
          (member_placed t limits (sorts t limits j sees founded) (sees i) j.at founded.judged.columns i x.a x.parts found.is found.within (size_at (p t limits j sees founded) t x.a)
          (as_place t limits j sees founded i 0 x.a x.first run (ap takes_place f) l))
      by false l =
          let s = j.source i in
          let made : j.at i ≡ member_of (member_in s i n.last (structure_in (j.at x.a).type)) (j.at x.a) =
          rule form.Member f ∙ ap (λ o. member_of (member_in s i n.last (structure_in (o.type))) o) (operand_is t limits j sees founded i 0 x.a n at x.first.is) in
          let whole_is = structure_there s i n.last (j.at x.a).type (j.at x.a) (j.at i) made typed in
          let sort = as_beside t limits j sees founded i 0 x.a x.first run (ap takes_place f) l
          ∙ ap (λ q. Some (beside_sort (p t limits j sees founded) (row_at t x.a) q)) (founded.judged.columns.types x.a ∙ whole_is.1.1.1) in
          subst (IsGood (p t limits j sees founded) (sorts t limits j sees founded) (sees i) (member t i (type_of_node t (part_at t i 0))))
          (sym (own_beside t limits j sees founded i (ap (λ (o : Seen). o.lvalue) found.is ∙ l)))
          (member_beside t limits (sorts t limits j sees founded) (sees i) j.at founded.judged.columns i x.a x.parts found.is found.within sort (found.structure l))

  pointer_member_good : kind_at t i ≡ kind.PointerMember → Good (pointer_member t i (pointed (left_type t i)))
  pointer_member_good is =
      let f = ap form_of is in
      let s = j.source i in
      let x = one_of t limits j sees founded i form.PointerMember f refl refl in
      let found = member_in s i n.last (pointed_structure (value_of_seen (j.at x.a))) in
      let made : j.at i ≡ pointed_member_of found (value_of_seen (j.at x.a)) =
      rule form.PointerMember f ∙ ap (λ o. pointed_member_of (member_in s i n.last (pointed_structure (value_of_seen o))) (value_of_seen o)) (operand_is t limits j sees founded i 0 x.a n at x.first.is) in
      let value = as_value t limits j sees founded i n at runs expression form.PointerMember 0 x.a f refl refl x.first (pointed_member_of found) (λ u. refl) made in
      let l : (j.at i).lvalue ≡ true = ap (λ (o : Seen). o.lvalue) made ∙ pointed_place found (value_of_seen (j.at x.a)) (sym (ap is_typed made) ∙ typed) in
      subst (IsGood (p t limits j sees founded) (sorts t limits j sees founded) (sees i) (pointer_member t i (pointed (left_type t i))))
      (sym (own_place t limits j sees founded i _ l (no_filling t limits j sees founded i (ap (is_text t limits j sees founded) is)) (size_is t limits j sees founded i kind.PointerMember is)))
      (pointer_members (p t limits j sees founded) t (sorts t limits j sees founded) (sees i) j.at founded.judged.columns i x.a found x.parts made typed value (founded.placed.pointed_members i runs is))

  -- ---- addresses

  module _ (is : kind_at t i ≡ kind.AddressOf) (a : ℕ) (parts : parts_at t i ≡ a ∷ []) (first : IsOperand t j i 0 a) (m : Node) (there : slice_get t.nodes a ≡ Some m)
      (made : j.at i ≡ given (address_value (j.at a))) where
    -- an operand of what `&` takes, which is evaluated in its place
    followed_value : (f : Form) (k e : ℕ) → form_of (kind_at t a) ≡ f → is_followed (kind_at t a) ≡ true → ((k == 0) && takes_place f) ≡ false → IsOperand t j a k e
        → (make : Valued → Seen) → ((u : Qualified) → is_typed (make (whole u)) ≡ false) → j.at a ≡ make (value_of_seen (j.at e)) → IsValueAt (p t limits j sees founded) t (sorts t limits j sees founded) e
    followed_value f k e form_is follows u o make refuses ruled_is =
        plainly (p t limits j sees founded) t (sorts t limits j sees founded) j.at founded.judged.columns make refuses (j.at a) e ruled_is (has_type t limits j sees founded a first.expression)
        (used t limits j sees founded a k e o (founded.reached.followed i a k e runs is first.is follows o.is) (ap (λ g. (k == 0) && takes_place g) form_is ∙ u))

    taken : is_followed (kind_at t a) ≡ false → Is (node_op (parts_at t i) work.AddressOf)
    taken apart =
        let l = addressed_place (j.at a).lvalue (j.at a).register (address (j.at a).type) (j.at i) made typed in
        address_taken (p t limits j sees founded) t (sorts t limits j sees founded) (sees i) j.at founded.judged.columns i a made typed (size_at (p t limits j sees founded) t a) parts
        (as_place t limits j sees founded i 0 a first (founded.reached.addressed i a runs is first.is apart) (ap (λ k. takes_place (form_of k)) is) l)

    address_kind : (k : Kind) → kind_at t a ≡ k → Is (address_by t i a k)
    address_kind kind.Dereference e =
        let f = ap form_of e in
        let c = complete (j.source a) a in
        let x = one_of t limits j sees founded a form.Dereference f refl refl in
        let own : j.at a ≡ dereferenced c (value_of_seen (j.at x.a)) =
        ruled_as t limits j sees founded a m form.Dereference there f ∙ ap (λ s. dereferenced c (value_of_seen s)) (operand_is t limits j sees founded a 0 x.a m there x.first.is) in
        address_followed (p t limits j sees founded) t (sorts t limits j sees founded) (sees i) j.at founded.judged.columns i a made typed c x.a x.parts own
        (followed_value form.Dereference 0 x.a f (ap is_followed e) refl x.first (dereferenced c) (λ u. refl) own)
    address_kind kind.Subscript e =
        let f = ap form_of e in
        let c = complete (j.source a) a in
        let x = two_of t limits j sees founded a form.Subscript f refl refl refl in
        let va = value_of_seen (j.at x.a) in
        let vb = value_of_seen (j.at x.b) in
        let own : j.at a ≡ subscripted c va vb =
        ruled_as t limits j sees founded a m form.Subscript there f
        ∙ (λ k. subscripted c (value_of_seen (operand_is t limits j sees founded a 0 x.a m there x.first.is k)) (value_of_seen (operand_is t limits j sees founded a 1 x.b m there x.second.is k))) in
        address_element (p t limits j sees founded) t (sorts t limits j sees founded) (sees i) j.at founded.judged.columns i a made typed c x.a x.b x.parts own
        (followed_value form.Subscript 0 x.a f (ap is_followed e) refl x.first (λ v. subscripted c v vb) (λ u. refl) own)
        (followed_value form.Subscript 1 x.b f (ap is_followed e) refl x.second (λ v. subscripted c va v) (λ u. ap is_typed (subscript_right c va u)) own)
    address_kind k e = taken (ap is_followed e)

  address_good : kind_at t i ≡ kind.AddressOf → Good (address_by t i (part_at t i 0) (kind_at t (part_at t i 0)))
  address_good is =
      let f = ap form_of is in
      let x = one_of t limits j sees founded i form.Address f refl refl in
      let made : j.at i ≡ given (address_value (j.at x.a)) = rule form.Address f ∙ ap (λ s. given (address_value s)) (operand_is t limits j sees founded i 0 x.a n at x.first.is) in
      let there = expression_there t limits j sees founded x.a x.first.expression in
      as_given (address_by t i (part_at t i 0) (kind_at t (part_at t i 0))) (address_value (j.at x.a)) made (worth.addresses (j.at x.a))
      (subst (λ a. Is (address_by t i a (kind_at t a))) (sym (part_is t limits j sees founded i x.a x.first.is)) (address_kind is x.a x.parts x.first there.0 there.1 made (kind_at t x.a) refl))

  -- ---- calls

  call_good : kind_at t i ≡ kind.Call → Good (node_op (parts_at t i) (work.Call (callee_of t i)))
  call_good is =
      let c = founded.calls i runs is in
      let parts : n.parts ≡ parts_at t i = sym (ap parts_if at) in
      let made : j.at i ≡ given (called (a_function c.signature) (operand j.at (parts_at t i)) (length (parts_at t i))) =
      rule form.Call (ap form_of is) ∙ (λ k. given (called (c.stands k) (operand j.at (parts k)) (length (parts k)))) in
      let passed = passes c.signature (operand j.at (parts_at t i)) (length (parts_at t i)) (j.at i) made typed in
      subst (IsGood (p t limits j sees founded) (sorts t limits j sees founded) (sees i) (node_op (parts_at t i) (work.Call (callee_of t i))))
      (sym (own_value t limits j sees founded i (value_in c.signature.gives NotConstant) (ap (λ (o : Seen). o.lvalue) made) passed.type (worth.stored c.signature.gives NotConstant)))
      (call.calls t limits (sorts t limits j sees founded) (sees i) j.at founded.judged.columns i c.signature made typed few c.gives c.called
      (λ k a e. let o = founded.laid.arguments i k a is e in
      (founded.judged.worth a o.expression, as_used t limits j sees founded i n at runs expression form.Call k a (ap form_of is) refl (no_place k) o)))
    where
      no_place : (k : ℕ) → ((k == 0) && false) ≡ false
      no_place k = by (k == 0)
        where
          by : (b : Bool) → (b && false) ≡ false
          by true = refl
          by false = refl

  -- ---- all kinds

  good : (k : Kind) → kind_at t i ≡ k → is_expression (form_of k) ≡ true → Good (op_by t i k)
  good kind.Comma e x = of_comma t limits j sees founded i n at runs expression (ap form_of e)
  good kind.Assign e x = of_assign t limits j sees founded i n at runs expression (ap form_of e)
  good kind.MultiplyAssign e x = of_compound t limits j sees founded i n at runs expression false (λ t i. updated_integers t i operator.Multiply) (ap form_of e) (integer_updates operator.Multiply)
  good kind.DivideAssign e x = of_compound t limits j sees founded i n at runs expression false (λ t i. updated_integers t i operator.Divide) (ap form_of e) (integer_updates operator.Divide)
  good kind.RemainderAssign e x = of_compound t limits j sees founded i n at runs expression false (λ t i. updated_integers t i operator.Remainder) (ap form_of e) (integer_updates operator.Remainder)
  good kind.AddAssign e x = of_compound t limits j sees founded i n at runs expression true (λ t i. updated_sum t i operator.Add false) (ap form_of e) (sum_updates operator.Add false)
  good kind.SubtractAssign e x = of_compound t limits j sees founded i n at runs expression true (λ t i. updated_sum t i operator.Subtract true) (ap form_of e) (sum_updates operator.Subtract true)
  good kind.ShiftLeftAssign e x = of_compound t limits j sees founded i n at runs expression false (λ t i. updated_shift t i operator.ShiftLeft) (ap form_of e) (shift_updates operator.ShiftLeft)
  good kind.ShiftRightAssign e x = of_compound t limits j sees founded i n at runs expression false (λ t i. updated_shift t i operator.ShiftRight) (ap form_of e) (shift_updates operator.ShiftRight)
  good kind.AndAssign e x = of_compound t limits j sees founded i n at runs expression false (λ t i. updated_integers t i operator.And) (ap form_of e) (integer_updates operator.And)
  good kind.XorAssign e x = of_compound t limits j sees founded i n at runs expression false (λ t i. updated_integers t i operator.Xor) (ap form_of e) (integer_updates operator.Xor)
  good kind.OrAssign e x = of_compound t limits j sees founded i n at runs expression false (λ t i. updated_integers t i operator.Or) (ap form_of e) (integer_updates operator.Or)
  good kind.Conditional e x = of_conditional t limits j sees founded i n at runs expression (ap form_of e)
  good kind.LogicalOr e x = two t limits j sees founded i n at runs expression (form.Logical Disjunction) (logical_value Disjunction) (λ t i. node_op (parts_at t i) work.LogicalOr) (ap form_of e) refl refl refl refl refl refl (junctions_refuse Disjunction)
      (λ v w. worth.junctions Disjunction (scalar_constant v) (scalar_constant w)) (rule (form.Logical Disjunction) (ap form_of e)) disjunctions
  good kind.LogicalAnd e x = two t limits j sees founded i n at runs expression (form.Logical Conjunction) (logical_value Conjunction) (λ t i. node_op (parts_at t i) work.LogicalAnd) (ap form_of e) refl refl refl refl refl refl (junctions_refuse Conjunction)
      (λ v w. worth.junctions Conjunction (scalar_constant v) (scalar_constant w)) (rule (form.Logical Conjunction) (ap form_of e)) conjunctions
  good kind.Or e x = of_integers t limits j sees founded i n at runs expression Or operator.Or (ap form_of e)
  good kind.Xor e x = of_integers t limits j sees founded i n at runs expression Xor operator.Xor (ap form_of e)
  good kind.And e x = of_integers t limits j sees founded i n at runs expression And operator.And (ap form_of e)
  good kind.Equal e x = two t limits j sees founded i n at runs expression (form.Equality Equal) (equality_value Equal) (λ t i. comparison t i relation.Equal) (ap form_of e) refl refl refl refl refl refl (equalities_refuse Equal) (worth.equalities Equal)
      (rule (form.Equality Equal) (ap form_of e)) (equalities Equal relation.Equal)
  good kind.NotEqual e x = two t limits j sees founded i n at runs expression (form.Equality NotEqual) (equality_value NotEqual) (λ t i. comparison t i relation.NotEqual) (ap form_of e) refl refl refl refl refl refl (equalities_refuse NotEqual) (worth.equalities NotEqual)
      (rule (form.Equality NotEqual) (ap form_of e)) (equalities NotEqual relation.NotEqual)
  good kind.Less e x = two t limits j sees founded i n at runs expression (form.Order Less) (order_value Less) (λ t i. comparison t i relation.Less) (ap form_of e) refl refl refl refl refl refl (orders_refuse Less) (worth.orders Less)
      (rule (form.Order Less) (ap form_of e)) (orders Less relation.Less)
  good kind.Greater e x = two t limits j sees founded i n at runs expression (form.Order Greater) (order_value Greater) (λ t i. comparison t i relation.Greater) (ap form_of e) refl refl refl refl refl refl (orders_refuse Greater) (worth.orders Greater)
      (rule (form.Order Greater) (ap form_of e)) (orders Greater relation.Greater)
  good kind.LessEqual e x = two t limits j sees founded i n at runs expression (form.Order LessEqual) (order_value LessEqual) (λ t i. comparison t i relation.LessEqual) (ap form_of e) refl refl refl refl refl refl (orders_refuse LessEqual) (worth.orders LessEqual)
      (rule (form.Order LessEqual) (ap form_of e)) (orders LessEqual relation.LessEqual)
  good kind.GreaterEqual e x = two t limits j sees founded i n at runs expression (form.Order GreaterEqual) (order_value GreaterEqual) (λ t i. comparison t i relation.GreaterEqual) (ap form_of e) refl refl refl refl refl refl (orders_refuse GreaterEqual)
      (worth.orders GreaterEqual) (rule (form.Order GreaterEqual) (ap form_of e)) (orders GreaterEqual relation.GreaterEqual)
  good kind.ShiftLeft e x = two t limits j sees founded i n at runs expression (form.Shifted Left) (shifted_value Left) (λ t i. shift t i operator.ShiftLeft) (ap form_of e) refl refl refl refl refl refl (shifts_refuse Left) (worth.shifts Left)
      (rule (form.Shifted Left) (ap form_of e)) (shifts Left operator.ShiftLeft)
  good kind.ShiftRight e x = two t limits j sees founded i n at runs expression (form.Shifted Right) (shifted_value Right) (λ t i. shift t i operator.ShiftRight) (ap form_of e) refl refl refl refl refl refl (shifts_refuse Right) (worth.shifts Right)
      (rule (form.Shifted Right) (ap form_of e)) (shifts Right operator.ShiftRight)
  good kind.Add e x = of_sum t limits j sees founded i n at runs expression (ap form_of e)
  good kind.Subtract e x = two t limits j sees founded i n at runs expression form.Difference (difference_value (complete (j.source i) i)) difference (ap form_of e) refl refl refl refl refl refl (differences_refuse (complete (j.source i) i))
      (worth.differences (complete (j.source i) i)) (rule form.Difference (ap form_of e)) (differences (complete (j.source i) i))
  good kind.Multiply e x = of_integers t limits j sees founded i n at runs expression Multiply operator.Multiply (ap form_of e)
  good kind.Divide e x = of_integers t limits j sees founded i n at runs expression Divide operator.Divide (ap form_of e)
  good kind.Remainder e x = of_integers t limits j sees founded i n at runs expression Remainder operator.Remainder (ap form_of e)
  good kind.Cast e x = of_cast t limits j sees founded i n at runs expression e
  good kind.PreIncrement e x = stepped_by t limits j sees founded i n at runs expression form.StepBefore operator.Add false false (ap form_of e) refl refl refl refl (rule form.StepBefore (ap form_of e))
  good kind.PreDecrement e x = stepped_by t limits j sees founded i n at runs expression form.StepBefore operator.Subtract true false (ap form_of e) refl refl refl refl (rule form.StepBefore (ap form_of e))
  good kind.AddressOf e x = address_good e
  good kind.Dereference e x = dereference_good e
  good kind.Plus e x = signed t limits j sees founded i n at runs expression sign.Plus operated.Plus (ap form_of e)
  good kind.Minus e x = signed t limits j sees founded i n at runs expression sign.Minus operated.Minus (ap form_of e)
  good kind.Complement e x = signed t limits j sees founded i n at runs expression sign.Complement operated.Complement (ap form_of e)
  good kind.Not e x = negated t limits j sees founded i n at runs expression (ap form_of e)
  good kind.SizeofExpression e x = sized_good (operand j.at n.parts 0).type (ap is_known e) (rule form.SizeofExpression (ap form_of e))
  good kind.SizeofType e x = sized_good ((j.source i).named (slice_get n.parts 0)) (ap is_known e) (rule form.SizeofType (ap form_of e))
  good kind.Call e x = call_good e
  good kind.Subscript e x = subscript_good e
  good kind.Member e x = member_good e
  good kind.PointerMember e x = pointer_member_good e
  good kind.PostIncrement e x = stepped_by t limits j sees founded i n at runs expression form.StepBehind operator.Add false true (ap form_of e) refl refl refl refl (rule form.StepBehind (ap form_of e))
  good kind.PostDecrement e x = stepped_by t limits j sees founded i n at runs expression form.StepBehind operator.Subtract true true (ap form_of e) refl refl refl refl (rule form.StepBehind (ap form_of e))
  good kind.Identifier e x = name_good ((j.source i).stands i) e (rule form.Name (ap form_of e))
  good kind.Integer e x = literal_good (integer_of ((j.source i).spelling n.first)) (ap is_known e) (integer_valued ((j.source i).spelling n.first)) (rule form.Integer (ap form_of e))
  good kind.Character e x = literal_good (character_of ((j.source i).spelling n.first)) (ap is_known e) (character_valued ((j.source i).spelling n.first)) (rule form.Character (ap form_of e))
  good kind.Text e x = text_good e
  good kind.Group e x = group_good e
  good k e x = absurd (false≢true x)

pub expressions : ExpressionsAreGood
expressions t limits j sees founded few i runs x =
    let there = expression_there t limits j sees founded i x in good t limits j sees founded few i there.0 there.1 runs x (kind_at t i) refl x
