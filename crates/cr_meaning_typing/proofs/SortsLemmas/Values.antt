-- Operators, by their forms: the node has what its rule makes, so its operation is good in the table.
use Rattle.std.proofs.Common.{◌≡◌, ℕ, ◌==◌, Bool, true, false, ◌&&◌, List, [], ◌∷◌, Some, length, refl, sym, ap, subst, ◌∙◌, slice_get, arith, if◌then◌else◌}
use Rattle.std.proofs.lemmas.Bool.{and_parts}
use Rattle.cr_check_constants.specs.declared.operator.Arithmetic.{Arithmetic}
use Rattle.cr_check_constants.specs.declared.operator.Sign.{Sign as Operated}
use Rattle.cr_syntax.specs.declared.node.Kind.TheVariants as kind
use Rattle.cr_syntax.specs.declared.node.Node.{Node}
use Rattle.cr_typed.specs.declared.typed.Typed.{Typed}
use Rattle.cr_check_types.specs.Types.{Qualified}
use Rattle.cr_check_operands.specs.Values.{Seen, Valued, whole, untyped, type_of_value, value_of_seen}
use Rattle.cr_check_operands.specs.Rules.{integers_value, sum_value, signed_value, negated_value, conditional_value, cast_value, comma_value, is_null_cast_of, scalar_constant, target_of}
use Rattle.cr_check_operands.specs.Places.{is_modifiable_seen, stored_value, is_changeable, assigned, updated, stepped}
use Rattle.cr_check_expressions.specs.declared.form.Form.{Form}
use Rattle.cr_check_expressions.specs.declared.form.Form.TheVariants as form
use Rattle.cr_check_expressions.specs.Forms.{form_of}
use Rattle.cr_check_expressions.specs.Ruled.{operand, given, is_type, is_typed, complete, converted}
use Rattle.cr_check_expressions.specs.Used.{takes_place}
use Rattle.cr_meaning.specs.declared.op.Op.{Op}
use Rattle.cr_meaning.specs.declared.op.Operator.{Operator}
use Rattle.cr_meaning.specs.declared.op.Sign.{Sign}
use Rattle.cr_meaning.specs.declared.op.Work.TheVariants as work
use Rattle.cr_meaning.specs.declared.run.Limits.{Limits}
use Rattle.cr_meaning_operations.specs.Shapes.{named_type, form_of as cell_form}
use Rattle.cr_meaning_operations.specs.Operations.{node_op, parts_at, part_at, kind_at, integers, sum, unary, left_row, increment}
use Rattle.std.specs.Prelude.{slice_index_or}
use Rattle.cr_meaning_typing.specs.Typed.Good.{IsGood, row_at}
use Rattle.cr_meaning_typing.specs.Typed.Typing.{is_asked, is_expression}
use Rattle.cr_meaning_typing.specs.Typed.Columns.{IsValueAt}
use Rattle.cr_meaning_typing.proofs.TypedLemmas.Worth as worth
use Rattle.cr_meaning_typing.proofs.TypedLemmas.Meets as meets
use Rattle.cr_meaning_typing.proofs.TypedLemmas.Gives as gives
use Rattle.cr_meaning_typing.specs.Expressions.Operators.{TwoAreGood, ChangesAreGood}
use Rattle.cr_meaning_typing.specs.Expressions.Used.{IsUsedAt}
use Rattle.cr_meaning_typing.proofs.ExpressionsLemmas.Types.{typeless, plainly}
use Rattle.cr_meaning_typing.proofs.ExpressionsLemmas.Operators.{RefusesBoth, negations, casts}
use Rattle.cr_meaning_typing.proofs.ExpressionsLemmas.Changes.{changes_right, steps}
use Rattle.cr_meaning_typing.proofs.ExpressionsLemmas.Chosen.{first_refuses, second_refuses, third_refuses, conditionals, commas}
use Rattle.cr_meaning_typing.specs.Sorts.Table.{Judgement, expression_sort}
use Rattle.cr_meaning_typing.specs.Sorts.Founded.{parts_of, IsOperand, AreFounded, is_evaluated}
use Rattle.cr_meaning_typing.proofs.SortsLemmas.Operands.{three_alone, p, sorts, kind_there, operand_is, ruled_as, has_type, has_sort, used, as_place, own_beside, own_given, one_of, two_of}

-- ---- operators that `cr_meaning_typed` has, as those of two operands

integers_refuse : (operator : Arithmetic) → RefusesBoth (integers_value operator)
integers_refuse operator = record { left = λ t v. refl; right = meets.integers_right operator }

integers_good : (operator : Arithmetic) (op : Operator) → TwoAreGood (integers_value operator) (λ t i. integers t i op)
integers_good operator op p t sorts sees at columns i a b e f h sa sb = meets.integers p t sorts sees at columns i a b op operator e f h sa sb

-- what is changed is a place
changed_place : (b : Bool) (v : Valued) (complete : Qualified → Bool) (fixed : ℕ → Bool) (s own : Seen) → is_modifiable_seen complete fixed s ≡ b → own ≡ given (if b then v else untyped) → is_typed own ≡ true → s.lvalue ≡ true
changed_place true v complete fixed s own m e h = (and_parts s.lvalue (is_changeable fixed s.type && complete s.type) m).0
changed_place false v complete fixed s own m e h = typeless own (given untyped) e h refl

assigned_place : (b c : Bool) (v : Valued) (complete : Qualified → Bool) (fixed : ℕ → Bool) (s own : Seen) → is_modifiable_seen complete fixed s ≡ b → own ≡ given (if b && c then v else untyped) → is_typed own ≡ true → s.lvalue ≡ true
assigned_place true c v complete fixed s own m e h = (and_parts s.lvalue (is_changeable fixed s.type && complete s.type) m).0
assigned_place false c v complete fixed s own m e h = typeless own (given untyped) e h refl

module _ (t : Typed) (limits : Limits) (j : Judgement) (sees : ℕ → ℕ → Bool) (founded : AreFounded t limits j sees) (i : ℕ) (n : Node) (at : slice_get t.nodes i ≡ Some n) (runs : j.runs i ≡ true)
    (expression : is_expression (form_of (kind_at t i)) ≡ true) where
  abbrev Good : Op → Type 0
  Good op = IsGood (p t limits j sees founded) (sorts t limits j sees founded) (sees i) op (expression_sort (p t limits j sees founded) t j i)

  typed : is_typed (j.at i) ≡ true
  typed = has_type t limits j sees founded i expression

  -- an operand that is evaluated, of a node of this form
  pub part_runs : (f : Form) (k a : ℕ) → form_of (kind_at t i) ≡ f → is_evaluated f k ≡ true → IsOperand t j i k a → j.runs a ≡ true
  part_runs f k a is e o = founded.reached.operands i k a runs (ap (λ g. is_evaluated g k) is ∙ e) o.is

  pub as_used : (f : Form) (k a : ℕ) → form_of (kind_at t i) ≡ f → is_evaluated f k ≡ true → ((k == 0) && takes_place f) ≡ false → IsOperand t j i k a
      → IsUsedAt (p t limits j sees founded) t (sorts t limits j sees founded) j.at a
  as_used f k a is e u o = used t limits j sees founded i k a o (part_runs f k a is e o) (ap (λ g. (k == 0) && takes_place g) is ∙ u)

  pub as_value : (f : Form) (k a : ℕ) → form_of (kind_at t i) ≡ f → is_evaluated f k ≡ true → ((k == 0) && takes_place f) ≡ false → IsOperand t j i k a
      → (rule : Valued → Seen) → ((u : Qualified) → is_typed (rule (whole u)) ≡ false) → j.at i ≡ rule (value_of_seen (j.at a)) → IsValueAt (p t limits j sees founded) t (sorts t limits j sees founded) a
  as_value f k a is e u o rule refuses made =
      plainly (p t limits j sees founded) t (sorts t limits j sees founded) j.at founded.judged.columns rule refuses (j.at i) a made typed (as_used f k a is e u o)

  -- ---- one operand, used as a value

  pub one_given : (f : Form) (a : ℕ) (make : Seen → Valued) → IsOperand t j i 0 a → j.at i ≡ given (make (operand j.at n.parts 0)) → j.at i ≡ given (make (j.at a))
  one_given f a make o made = made ∙ ap (λ s. given (make s)) (operand_is t limits j sees founded i 0 a n at o.is)

  pub signed : (op : Sign) (operator : Operated) → form_of (kind_at t i) ≡ form.Signed operator → Good (unary t i op)
  signed op operator is =
      let x = one_of t limits j sees founded i (form.Signed operator) is refl refl in
      let made = one_given (form.Signed operator) x.a (λ s. signed_value operator (value_of_seen s)) x.first (ruled_as t limits j sees founded i n (form.Signed operator) at is) in
      let value = as_value (form.Signed operator) 0 x.a is refl refl x.first (λ v. given (signed_value operator v)) (λ u. refl) made in
      subst (IsGood (p t limits j sees founded) (sorts t limits j sees founded) (sees i) (unary t i op)) (sym (own_given t limits j sees founded i (signed_value operator (value_of_seen (j.at x.a))) false made (worth.signs operator (value_of_seen (j.at x.a)))))
      (gives.signs (p t limits j sees founded) t (sorts t limits j sees founded) (sees i) j.at founded.judged.columns i x.a op operator x.parts made typed value)

  pub negated : form_of (kind_at t i) ≡ form.Negated → Good (node_op (parts_at t i) work.Not)
  negated is =
      let x = one_of t limits j sees founded i form.Negated is refl refl in
      let made = one_given form.Negated x.a (λ s. negated_value (value_of_seen s)) x.first (ruled_as t limits j sees founded i n form.Negated at is) in
      let value = as_value form.Negated 0 x.a is refl refl x.first (λ v. given (negated_value v)) (λ u. refl) made in
      subst (IsGood (p t limits j sees founded) (sorts t limits j sees founded) (sees i) (node_op (parts_at t i) work.Not)) (sym (own_given t limits j sees founded i (negated_value (value_of_seen (j.at x.a))) false made (worth.negates (scalar_constant (value_of_seen (j.at x.a))))))
      (negations (p t limits j sees founded) t (sorts t limits j sees founded) (sees i) j.at founded.judged.columns i x.a x.parts made typed value)

  pub stepped_by : (f : Form) (op : Operator) (back post : Bool) → form_of (kind_at t i) ≡ f → is_asked f 0 ≡ true → parts_of f ≡ Some 1 → is_evaluated f 0 ≡ true → takes_place f ≡ true
      → j.at i ≡ given (stepped (complete (j.source i) i) (j.source i).fixed (operand j.at n.parts 0)) → Good (increment t i op back post)
  stepped_by f op back post is asked count evaluated taken rule =
      let c = complete (j.source i) i in
      let fixed = (j.source i).fixed in
      let x = one_of t limits j sees founded i f is asked count in
      let made = one_given f x.a (λ s. stepped c fixed s) x.first rule in
      let l = changed_place (is_modifiable_seen c fixed (j.at x.a)) _ c fixed (j.at x.a) (j.at i) refl made typed in
      let sort = as_place t limits j sees founded i 0 x.a x.first (part_runs f 0 x.a is evaluated x.first) (ap takes_place is ∙ taken) l in
      subst (IsGood (p t limits j sees founded) (sorts t limits j sees founded) (sees i) (increment t i op back post)) (sym (own_given t limits j sees founded i (stepped c fixed (j.at x.a)) false made (worth.steps c fixed (j.at x.a))))
      (steps (p t limits j sees founded) t (sorts t limits j sees founded) (sees i) j.at c fixed founded.judged.columns i x.a _ op back post x.parts made typed sort)

  -- ---- two operands

  two_given : (a b : ℕ) (make : Seen → Seen → Valued) → IsOperand t j i 0 a → IsOperand t j i 1 b → j.at i ≡ given (make (operand j.at n.parts 0) (operand j.at n.parts 1)) → j.at i ≡ given (make (j.at a) (j.at b))
  two_given a b make o q made = made ∙ (λ k. given (make (operand_is t limits j sees founded i 0 a n at o.is k) (operand_is t limits j sees founded i 1 b n at q.is k)))

  pub two : (f : Form) (rule : Valued → Valued → Valued) (op : Typed → ℕ → Op) → form_of (kind_at t i) ≡ f → is_asked f 0 ≡ true → is_asked f 1 ≡ true → parts_of f ≡ Some 2
      → is_evaluated f 0 ≡ true → is_evaluated f 1 ≡ true → takes_place f ≡ false → RefusesBoth rule → ((v w : Valued) → worth.is_decayed (rule v w) ≡ true)
      → j.at i ≡ given (rule (value_of_seen (operand j.at n.parts 0)) (value_of_seen (operand j.at n.parts 1))) → TwoAreGood rule op → Good (op t i)
  two f rule op is asked other count evaluated also taken refuses decayed made good =
      let x = two_of t limits j sees founded i f is asked other count in
      let e = two_given x.a x.b (λ s r. rule (value_of_seen s) (value_of_seen r)) x.first x.second made in
      let va = value_of_seen (j.at x.a) in
      let vb = value_of_seen (j.at x.b) in
      let one = as_value f 0 x.a is evaluated taken x.first (λ v. given (rule v vb)) (λ u. ap (λ v. is_type (type_of_value v)) (refuses.left u vb)) e in
      let two = as_value f 1 x.b is also refl x.second (λ v. given (rule va v)) (λ u. ap (λ v. is_type (type_of_value v)) (refuses.right va u)) e in
      subst (IsGood (p t limits j sees founded) (sorts t limits j sees founded) (sees i) (op t i)) (sym (own_given t limits j sees founded i (rule va vb) false e (decayed va vb)))
      (good (p t limits j sees founded) t (sorts t limits j sees founded) (sees i) j.at founded.judged.columns i x.a x.b x.parts e typed one two)

  pub of_integers : (operator : Arithmetic) (op : Operator) → form_of (kind_at t i) ≡ form.Integers operator → Good (integers t i op)
  of_integers operator op is =
      two (form.Integers operator) (integers_value operator) (λ u k. integers u k op) is refl refl refl refl refl refl (integers_refuse operator) (worth.integers operator)
      (ruled_as t limits j sees founded i n (form.Integers operator) at is) (integers_good operator op)

  pub of_sum : form_of (kind_at t i) ≡ form.Sum → Good (sum t i)
  of_sum is =
      let s = j.source i in
      let c = complete s i in
      let x = two_of t limits j sees founded i form.Sum is refl refl refl in
      let e = two_given x.a x.b (λ q r. sum_value c (value_of_seen q) (value_of_seen r)) x.first x.second (ruled_as t limits j sees founded i n form.Sum at is) in
      let va = value_of_seen (j.at x.a) in
      let vb = value_of_seen (j.at x.b) in
      let one = as_value form.Sum 0 x.a is refl refl x.first (λ v. given (sum_value c v vb)) (λ u. refl) e in
      let two = as_value form.Sum 1 x.b is refl refl x.second (λ v. given (sum_value c va v)) (λ u. ap (λ v. is_type (type_of_value v)) (meets.sum_right c va u)) e in
      subst (IsGood (p t limits j sees founded) (sorts t limits j sees founded) (sees i) (sum t i)) (sym (own_given t limits j sees founded i (sum_value c va vb) false e (worth.sums c va vb)))
      (meets.sums (p t limits j sees founded) t (sorts t limits j sees founded) (sees i) j.at s founded.judged.columns i x.a x.b x.parts e typed one two)

  pub of_comma : form_of (kind_at t i) ≡ form.Comma → Good (node_op (parts_at t i) work.Comma)
  of_comma is =
      let x = two_of t limits j sees founded i form.Comma is refl refl refl in
      let e = two_given x.a x.b (λ q r. comma_value (value_of_seen q) (value_of_seen r)) x.first x.second (ruled_as t limits j sees founded i n form.Comma at is) in
      let left = has_sort t limits j sees founded x.a (part_runs form.Comma 0 x.a is refl x.first) x.first.expression in
      subst (IsGood (p t limits j sees founded) (sorts t limits j sees founded) (sees i) (node_op (parts_at t i) work.Comma)) (sym (own_beside t limits j sees founded i (ap (λ (o : Seen). o.lvalue) e)))
      (commas t limits (sorts t limits j sees founded) (sees i) j.at founded.judged.columns i x.a x.b _ x.parts e typed left (as_used form.Comma 1 x.b is refl refl x.second))

  -- ---- assignments

  pub of_assign : form_of (kind_at t i) ≡ form.Assign → Good (node_op (parts_at t i) (work.Assign (cell_form t (left_row t i))))
  of_assign is =
      let s = j.source i in
      let c = complete s i in
      let x = two_of t limits j sees founded i form.Assign is refl refl refl in
      let sa = j.at x.a in
      let e = two_given x.a x.b (λ q r. assigned c s.fixed q (value_of_seen r)) x.first x.second (ruled_as t limits j sees founded i n form.Assign at is) in
      let l = assigned_place (is_modifiable_seen c s.fixed sa) _ _ c s.fixed sa (j.at i) refl e typed in
      let left = as_place t limits j sees founded i 0 x.a x.first (part_runs form.Assign 0 x.a is refl x.first) (ap takes_place is) l in
      let right = as_value form.Assign 1 x.b is refl refl x.second (λ v. given (assigned c s.fixed sa v))
      (λ u. ap (λ v. is_type (type_of_value v)) (gives.refused (is_modifiable_seen c s.fixed sa) (stored_value sa) u)) e in
      subst (IsGood (p t limits j sees founded) (sorts t limits j sees founded) (sees i) (node_op (parts_at t i) (work.Assign (cell_form t (left_row t i)))))
      (sym (own_given t limits j sees founded i (assigned c s.fixed sa (value_of_seen (j.at x.b))) false e (worth.assigns c s.fixed sa (value_of_seen (j.at x.b)))))
      (gives.assignments t limits (sorts t limits j sees founded) (sees i) j.at s founded.judged.columns i x.a x.b _ x.parts e typed left right)

  pub of_compound : (moves : Bool) (op : Typed → ℕ → Op) → form_of (kind_at t i) ≡ form.Compound moves → ChangesAreGood moves op → Good (op t i)
  of_compound moves op is good =
      let s = j.source i in
      let c = complete s i in
      let x = two_of t limits j sees founded i (form.Compound moves) is refl refl refl in
      let sa = j.at x.a in
      let e = two_given x.a x.b (λ q r. updated c s.fixed moves q (value_of_seen r)) x.first x.second (ruled_as t limits j sees founded i n (form.Compound moves) at is) in
      let l = changed_place (is_modifiable_seen c s.fixed sa) _ c s.fixed sa (j.at i) refl e typed in
      let left = as_place t limits j sees founded i 0 x.a x.first (part_runs (form.Compound moves) 0 x.a is refl x.first) (ap takes_place is) l in
      let right = as_value (form.Compound moves) 1 x.b is refl refl x.second (λ v. given (updated c s.fixed moves sa v)) (λ u. changes_right c s.fixed moves sa u) e in
      subst (IsGood (p t limits j sees founded) (sorts t limits j sees founded) (sees i) (op t i))
      (sym (own_given t limits j sees founded i (updated c s.fixed moves sa (value_of_seen (j.at x.b))) false e (worth.updates c s.fixed moves sa (value_of_seen (j.at x.b)))))
      (good (p t limits j sees founded) t (sorts t limits j sees founded) (sees i) j.at c s.fixed founded.judged.columns i x.a x.b _ x.parts e typed left right)

  -- ---- casts and `?:`

  pub of_cast : kind_at t i ≡ kind.Cast → Good (node_op (part_at t i 1 ∷ []) (work.Cast (cell_form t (slice_index_or t.named i 0))))
  of_cast is =
      let s = j.source i in
      let f = ap form_of is in
      let x = founded.laid.operands i 1 (ap (λ g. is_asked g 1) f) in
      let count = founded.laid.counts i 2 (ap parts_of f) in
      let named = founded.judged.casts i n at (kind_there t limits j sees founded i n at ∙ is) in
      let made : j.at i ≡ converted (named_type t i) (value_of_seen (j.at x.0)) =
      ruled_as t limits j sees founded i n form.Cast at f ∙ (λ k. converted (named k) (value_of_seen (operand_is t limits j sees founded i 1 x.0 n at x.1.is k))) in
      let parts = two_there (parts_at t i) x.0 count x.1.is in
      subst (IsGood (p t limits j sees founded) (sorts t limits j sees founded) (sees i) (node_op (part_at t i 1 ∷ []) (work.Cast (cell_form t (slice_index_or t.named i 0)))))
      (sym (own_given t limits j sees founded i (cast_value (named_type t i) (value_of_seen (j.at x.0))) (is_null_cast_of (named_type t i) (value_of_seen (j.at x.0))) made (worth.casts (target_of (named_type t i)) (value_of_seen (j.at x.0)))))
      (casts (p t limits j sees founded) t (sorts t limits j sees founded) (sees i) j.at founded.judged.columns i parts.0 x.0 parts.1 made typed (as_used form.Cast 1 x.0 f refl refl x.1))
    where
      two_there : (ps : List ℕ) (b : ℕ) → length ps ≡ 2 → slice_get ps 1 ≡ Some b → (a : ℕ) × (ps ≡ a ∷ b ∷ [])
      two_there [] b count e = absurd (omega (arith, count))
      two_there (a ∷ []) b count e = absurd (omega (arith, count))
      two_there (a ∷ c ∷ []) b count e = let same : c ≡ b = cc e in (a, ap (λ y. a ∷ y ∷ []) same)
      two_there (a ∷ c ∷ d ∷ ps) b count e = absurd (omega (arith, count))

  pub of_conditional : form_of (kind_at t i) ≡ form.Conditional → Good (node_op (parts_at t i) (work.Conditional (cell_form t (row_at t i))))
  of_conditional is =
      let x = founded.laid.operands i 0 (ap (λ g. is_asked g 0) is) in
      let y = founded.laid.operands i 1 (ap (λ g. is_asked g 1) is) in
      let z = founded.laid.operands i 2 (ap (λ g. is_asked g 2) is) in
      let parts = three_alone (parts_at t i) x.0 y.0 z.0 (founded.laid.counts i 3 (ap parts_of is)) x.1.is y.1.is z.1.is in
      let l = (j.at y.0).null in
      let r = (j.at z.0).null in
      let va = value_of_seen (j.at x.0) in
      let vb = value_of_seen (j.at y.0) in
      let vc = value_of_seen (j.at z.0) in
      let made : j.at i ≡ given (conditional_value va l r vb vc) =
      ruled_as t limits j sees founded i n form.Conditional at is ∙ (λ k. let o = operand_is t limits j sees founded i 0 x.0 n at x.1.is k in let q = operand_is t limits j sees founded i 1 y.0 n at y.1.is k in
      let w = operand_is t limits j sees founded i 2 z.0 n at z.1.is k in given (conditional_value (value_of_seen o) q.null w.null (value_of_seen q) (value_of_seen w))) in
      subst (IsGood (p t limits j sees founded) (sorts t limits j sees founded) (sees i) (node_op (parts_at t i) (work.Conditional (cell_form t (row_at t i)))))
      (sym (own_given t limits j sees founded i (conditional_value va l r vb vc) false made (worth.chooses (scalar_constant va) l r vb vc)))
      (conditionals t limits (sorts t limits j sees founded) (sees i) j.at founded.judged.columns i x.0 y.0 z.0 l r parts made typed
      (as_value form.Conditional 0 x.0 is refl refl x.1 (λ v. given (conditional_value v l r vb vc)) (first_refuses l r vb vc) made)
      (as_value form.Conditional 1 y.0 is refl refl y.1 (λ v. given (conditional_value va l r v vc)) (second_refuses va l r vc) made)
      (as_value form.Conditional 2 z.0 is refl refl z.1 (λ v. given (conditional_value va l r vb v)) (third_refuses va l r vb) made))
