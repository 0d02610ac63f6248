-- Each kind of node: what it hands on of declarators (C11 6.5, 6.7, 6.8).
use Rattle.std.proofs.Common.{◌≡◌, ℕ, zero, suc, Bool, true, false, List, [], ◌∷◌, None, Some, length, slice_get, refl, sym, subst, ap, ◌⊎◌, inl, inr, arith}
use Rattle.std.specs.Prelude.{slice_index_or, if◌then◌else◌}
use Rattle.std.proofs.lemmas.Bool.{false≢true}
use Rattle.cr_syntax.specs.declared.node.Kind.{Kind}
use Rattle.cr_syntax.specs.declared.node.Kind.TheVariants as kind
use Rattle.cr_syntax.specs.declared.node.Node.{Node}
use Rattle.cr_syntax.specs.declared.part.Part.TheVariants as part
use Rattle.cr_syntax.specs.Tables.{rule_of}
use Rattle.cr_typed.specs.declared.typed.Typed.{Typed}
use Rattle.cr_meaning.specs.declared.op.Parameter.{Parameter}
use Rattle.cr_meaning.specs.declared.op.Callee.{Callee}
use Rattle.cr_meaning.specs.declared.op.Callee.TheVariants.{Function}
use Rattle.cr_meaning.specs.declared.op.Form.{Form}
use Rattle.cr_meaning.specs.declared.op.Work.{Work}
use Rattle.cr_meaning.specs.declared.op.Work.TheVariants as work
use Rattle.cr_meaning_operations.specs.Operations.{kind_at, parts_at, part_at, node_op, address_by, callee_of, labelled, is_case, op_by}
use Rattle.cr_meaning_operations.specs.Shapes.{form_of}
use Rattle.cr_meaning_soundness.specs.Scopes.{IsPart}
use Rattle.cr_meaning_declarations.specs.Units.Owned.{AreOfUnit, IsBody, AreBodies}
use Rattle.cr_meaning_declarations.proofs.UnitsLemmas.Handing.{OwnsNone, HandsOn, plain, leaf, bare, alone, either, constants, names, all_parts, part_there, none_of}

module _ (t : Typed) (unit : AreOfUnit t) where
  -- ---- operands that are taken by turns

  choice_parts : (form : Form) (parts : List ℕ) → ((k part : ℕ) → slice_get parts k ≡ Some part → OwnsNone t part) → (k part : ℕ) → (let w : Work = work.Conditional form in IsPart w parts k part) → OwnsNone t part
  choice_parts form parts f zero part e = f 0 part e
  choice_parts form parts f (suc zero) part (inl e) = f 1 part e
  choice_parts form parts f (suc zero) part (inr e) = f 2 part e
  choice_parts form parts f (suc (suc k)) part e = absurd e

  if_parts : (parts : List ℕ) → ((k part : ℕ) → slice_get parts k ≡ Some part → OwnsNone t part) → (k part : ℕ) → IsPart work.If parts k part → OwnsNone t part
  if_parts parts f zero part e = f 0 part e
  if_parts parts f (suc zero) part (inl e) = f 1 part e
  if_parts parts f (suc zero) part (inr e) = f 2 part e
  if_parts parts f (suc (suc k)) part e = absurd e

  while_parts : (parts : List ℕ) → ((k part : ℕ) → slice_get parts k ≡ Some part → OwnsNone t part) → (k part : ℕ) → IsPart work.While parts k part → OwnsNone t part
  while_parts parts f zero part e = f 0 part e
  while_parts parts f (suc zero) part e = f 1 part e
  while_parts parts f (suc (suc k)) part e = absurd e

  do_parts : (parts : List ℕ) → ((k part : ℕ) → slice_get parts k ≡ Some part → OwnsNone t part) → (k part : ℕ) → IsPart work.Do parts k part → OwnsNone t part
  do_parts parts f zero part e = f 0 part e
  do_parts parts f (suc zero) part e = f 1 part e
  do_parts parts f (suc (suc k)) part e = absurd e

  -- ---- calls: they go on with a body

  calls : (node : ℕ) (c : Callee) (parts : List ℕ) → ((parameters : List Parameter) (rest : ℕ) (is_main : Bool) → c ≡ Function parameters rest is_main → IsBody t rest)
      → ((k part : ℕ) → slice_get parts k ≡ Some part → OwnsNone t part) → HandsOn t node (node_op parts (work.Call c))
  calls node (Function parameters rest is_main) parts d f = plain t node (node_op parts (work.Call (Function parameters rest is_main))) refl by
    where
      by : (k part : ℕ) → (slice_get parts k ≡ Some part) ⊎ ((k ≡ length parts) × (rest ≡ part)) → OwnsNone t part
      by k part (inl e) = f k part e
      by k part (inr e) = let body = d parameters rest is_main refl in subst (OwnsNone t) e.1 (none_of t rest body.own body.at body.plain)
  calls node c parts d f = leaf t node _ parts _ refl f

  -- ---- addresses: `&*E` and `&E[I]` take the parts of their operand

  addresses : (node operand : ℕ) (k : Kind) → kind_at t operand ≡ k → ((i part : ℕ) → slice_get (parts_at t node) i ≡ Some part → OwnsNone t part) → HandsOn t node (address_by t node operand k)
  unfolding rule_of
  addresses node operand kind.Dereference e f = leaf t node _ _ _ refl (all_parts t unit operand kind.Dereference e refl)
  addresses node operand kind.Subscript e f = leaf t node _ _ _ refl (all_parts t unit operand kind.Subscript e refl)
  addresses node operand k e f = leaf t node _ _ _ refl f

  -- ---- labels

  label_part : (node : ℕ) → is_case (kind_at t node) ≡ false → labelled t node ≡ part_at t node 0
  label_part node e = ap (λ b. if b then part_at t node 1 else part_at t node 0) e

  case_part : (node : ℕ) → is_case (kind_at t node) ≡ true → labelled t node ≡ part_at t node 1
  case_part node e = ap (λ b. if b then part_at t node 1 else part_at t node 0) e

  -- ---- expressions and statements but blocks, `switch` and `for`

  abbrev pub is_simple : Kind → Bool
  is_simple kind.Comma = true
  is_simple kind.Assign = true
  is_simple kind.MultiplyAssign = true
  is_simple kind.DivideAssign = true
  is_simple kind.RemainderAssign = true
  is_simple kind.AddAssign = true
  is_simple kind.SubtractAssign = true
  is_simple kind.ShiftLeftAssign = true
  is_simple kind.ShiftRightAssign = true
  is_simple kind.AndAssign = true
  is_simple kind.XorAssign = true
  is_simple kind.OrAssign = true
  is_simple kind.LogicalOr = true
  is_simple kind.LogicalAnd = true
  is_simple kind.Or = true
  is_simple kind.Xor = true
  is_simple kind.And = true
  is_simple kind.ShiftLeft = true
  is_simple kind.ShiftRight = true
  is_simple kind.Add = true
  is_simple kind.Multiply = true
  is_simple kind.Divide = true
  is_simple kind.Remainder = true
  is_simple kind.PreIncrement = true
  is_simple kind.PreDecrement = true
  is_simple kind.Dereference = true
  is_simple kind.Plus = true
  is_simple kind.Minus = true
  is_simple kind.Complement = true
  is_simple kind.Not = true
  is_simple kind.Subscript = true
  is_simple kind.Member = true
  is_simple kind.PointerMember = true
  is_simple kind.PostIncrement = true
  is_simple kind.PostDecrement = true
  is_simple kind.Group = true
  is_simple kind.ExpressionStatement = true
  is_simple kind.Return = true
  is_simple kind.Equal = true
  is_simple kind.NotEqual = true
  is_simple kind.Less = true
  is_simple kind.Greater = true
  is_simple kind.LessEqual = true
  is_simple kind.GreaterEqual = true
  is_simple kind.Subtract = true
  is_simple kind.SizeofExpression = true
  is_simple kind.SizeofType = true
  is_simple kind.Integer = true
  is_simple kind.Character = true
  is_simple kind.Text = true
  is_simple kind.Goto = true
  is_simple kind.Break = true
  is_simple kind.Continue = true
  is_simple kind.Conditional = true
  is_simple kind.Cast = true
  is_simple kind.AddressOf = true
  is_simple kind.Call = true
  is_simple kind.Identifier = true
  is_simple kind.If = true
  is_simple kind.While = true
  is_simple kind.Do = true
  is_simple kind.Label = true
  is_simple kind.Case = true
  is_simple kind.Default = true
  is_simple other = false

  pub simple : (bodies : AreBodies t) (node : ℕ) (n : Node) → slice_get t.nodes node ≡ Some n → (k : Kind) → kind_at t node ≡ k → is_simple k ≡ true → HandsOn t node (op_by t node k)
  unfolding rule_of
  simple bodies node n at kind.Comma e h = leaf t node _ (parts_at t node) _ refl (all_parts t unit node kind.Comma e refl)
  simple bodies node n at kind.Assign e h = leaf t node _ (parts_at t node) _ refl (all_parts t unit node kind.Assign e refl)
  simple bodies node n at kind.MultiplyAssign e h = leaf t node _ (parts_at t node) _ refl (all_parts t unit node kind.MultiplyAssign e refl)
  simple bodies node n at kind.DivideAssign e h = leaf t node _ (parts_at t node) _ refl (all_parts t unit node kind.DivideAssign e refl)
  simple bodies node n at kind.RemainderAssign e h = leaf t node _ (parts_at t node) _ refl (all_parts t unit node kind.RemainderAssign e refl)
  simple bodies node n at kind.AddAssign e h = leaf t node _ (parts_at t node) _ refl (all_parts t unit node kind.AddAssign e refl)
  simple bodies node n at kind.SubtractAssign e h = leaf t node _ (parts_at t node) _ refl (all_parts t unit node kind.SubtractAssign e refl)
  simple bodies node n at kind.ShiftLeftAssign e h = leaf t node _ (parts_at t node) _ refl (all_parts t unit node kind.ShiftLeftAssign e refl)
  simple bodies node n at kind.ShiftRightAssign e h = leaf t node _ (parts_at t node) _ refl (all_parts t unit node kind.ShiftRightAssign e refl)
  simple bodies node n at kind.AndAssign e h = leaf t node _ (parts_at t node) _ refl (all_parts t unit node kind.AndAssign e refl)
  simple bodies node n at kind.XorAssign e h = leaf t node _ (parts_at t node) _ refl (all_parts t unit node kind.XorAssign e refl)
  simple bodies node n at kind.OrAssign e h = leaf t node _ (parts_at t node) _ refl (all_parts t unit node kind.OrAssign e refl)
  simple bodies node n at kind.LogicalOr e h = leaf t node _ (parts_at t node) _ refl (all_parts t unit node kind.LogicalOr e refl)
  simple bodies node n at kind.LogicalAnd e h = leaf t node _ (parts_at t node) _ refl (all_parts t unit node kind.LogicalAnd e refl)
  simple bodies node n at kind.Or e h = leaf t node _ (parts_at t node) _ refl (all_parts t unit node kind.Or e refl)
  simple bodies node n at kind.Xor e h = leaf t node _ (parts_at t node) _ refl (all_parts t unit node kind.Xor e refl)
  simple bodies node n at kind.And e h = leaf t node _ (parts_at t node) _ refl (all_parts t unit node kind.And e refl)
  simple bodies node n at kind.ShiftLeft e h = leaf t node _ (parts_at t node) _ refl (all_parts t unit node kind.ShiftLeft e refl)
  simple bodies node n at kind.ShiftRight e h = leaf t node _ (parts_at t node) _ refl (all_parts t unit node kind.ShiftRight e refl)
  simple bodies node n at kind.Add e h = leaf t node _ (parts_at t node) _ refl (all_parts t unit node kind.Add e refl)
  simple bodies node n at kind.Multiply e h = leaf t node _ (parts_at t node) _ refl (all_parts t unit node kind.Multiply e refl)
  simple bodies node n at kind.Divide e h = leaf t node _ (parts_at t node) _ refl (all_parts t unit node kind.Divide e refl)
  simple bodies node n at kind.Remainder e h = leaf t node _ (parts_at t node) _ refl (all_parts t unit node kind.Remainder e refl)
  simple bodies node n at kind.PreIncrement e h = leaf t node _ (parts_at t node) _ refl (all_parts t unit node kind.PreIncrement e refl)
  simple bodies node n at kind.PreDecrement e h = leaf t node _ (parts_at t node) _ refl (all_parts t unit node kind.PreDecrement e refl)
  simple bodies node n at kind.Dereference e h = leaf t node _ (parts_at t node) _ refl (all_parts t unit node kind.Dereference e refl)
  simple bodies node n at kind.Plus e h = leaf t node _ (parts_at t node) _ refl (all_parts t unit node kind.Plus e refl)
  simple bodies node n at kind.Minus e h = leaf t node _ (parts_at t node) _ refl (all_parts t unit node kind.Minus e refl)
  simple bodies node n at kind.Complement e h = leaf t node _ (parts_at t node) _ refl (all_parts t unit node kind.Complement e refl)
  simple bodies node n at kind.Not e h = leaf t node _ (parts_at t node) _ refl (all_parts t unit node kind.Not e refl)
  simple bodies node n at kind.Subscript e h = leaf t node _ (parts_at t node) _ refl (all_parts t unit node kind.Subscript e refl)
  simple bodies node n at kind.Member e h = leaf t node _ (parts_at t node) _ refl (all_parts t unit node kind.Member e refl)
  simple bodies node n at kind.PointerMember e h = leaf t node _ (parts_at t node) _ refl (all_parts t unit node kind.PointerMember e refl)
  simple bodies node n at kind.PostIncrement e h = leaf t node _ (parts_at t node) _ refl (all_parts t unit node kind.PostIncrement e refl)
  simple bodies node n at kind.PostDecrement e h = leaf t node _ (parts_at t node) _ refl (all_parts t unit node kind.PostDecrement e refl)
  simple bodies node n at kind.Group e h = leaf t node _ (parts_at t node) _ refl (all_parts t unit node kind.Group e refl)
  simple bodies node n at kind.ExpressionStatement e h = leaf t node _ (parts_at t node) _ refl (all_parts t unit node kind.ExpressionStatement e refl)
  simple bodies node n at kind.Return e h = leaf t node _ (parts_at t node) _ refl (all_parts t unit node kind.Return e refl)
  simple bodies node n at kind.Equal e h = either t node _ _ _ (leaf t node _ (parts_at t node) _ refl (all_parts t unit node kind.Equal e refl)) (leaf t node _ (parts_at t node) _ refl (all_parts t unit node kind.Equal e refl))
  simple bodies node n at kind.NotEqual e h = either t node _ _ _ (leaf t node _ (parts_at t node) _ refl (all_parts t unit node kind.NotEqual e refl)) (leaf t node _ (parts_at t node) _ refl (all_parts t unit node kind.NotEqual e refl))
  simple bodies node n at kind.Less e h = either t node _ _ _ (leaf t node _ (parts_at t node) _ refl (all_parts t unit node kind.Less e refl)) (leaf t node _ (parts_at t node) _ refl (all_parts t unit node kind.Less e refl))
  simple bodies node n at kind.Greater e h = either t node _ _ _ (leaf t node _ (parts_at t node) _ refl (all_parts t unit node kind.Greater e refl)) (leaf t node _ (parts_at t node) _ refl (all_parts t unit node kind.Greater e refl))
  simple bodies node n at kind.LessEqual e h = either t node _ _ _ (leaf t node _ (parts_at t node) _ refl (all_parts t unit node kind.LessEqual e refl)) (leaf t node _ (parts_at t node) _ refl (all_parts t unit node kind.LessEqual e refl))
  simple bodies node n at kind.GreaterEqual e h = either t node _ _ _ (leaf t node _ (parts_at t node) _ refl (all_parts t unit node kind.GreaterEqual e refl)) (leaf t node _ (parts_at t node) _ refl (all_parts t unit node kind.GreaterEqual e refl))
  simple bodies node n at kind.Subtract e h = either t node _ _ _ (leaf t node _ (parts_at t node) _ refl (all_parts t unit node kind.Subtract e refl)) (leaf t node _ (parts_at t node) _ refl (all_parts t unit node kind.Subtract e refl))
  simple bodies node n at kind.SizeofExpression e h = constants t node (slice_index_or t.constants node None)
  simple bodies node n at kind.SizeofType e h = constants t node (slice_index_or t.constants node None)
  simple bodies node n at kind.Integer e h = constants t node (slice_index_or t.constants node None)
  simple bodies node n at kind.Character e h = constants t node (slice_index_or t.constants node None)
  simple bodies node n at kind.Text e h = leaf t node _ [] _ refl (bare t)
  simple bodies node n at kind.Goto e h = leaf t node _ [] _ refl (bare t)
  simple bodies node n at kind.Break e h = leaf t node _ [] _ refl (bare t)
  simple bodies node n at kind.Continue e h = leaf t node _ [] _ refl (bare t)
  simple bodies node n at kind.Identifier e h = names t node (slice_index_or t.constants node None)
  simple bodies node n at kind.Conditional e h = plain t node (op_by t node kind.Conditional) refl (choice_parts (form_of t (slice_index_or t.types node 0)) (parts_at t node) (all_parts t unit node kind.Conditional e refl))
  simple bodies node n at kind.If e h = plain t node (op_by t node kind.If) refl (if_parts (parts_at t node) (all_parts t unit node kind.If e refl))
  simple bodies node n at kind.While e h = plain t node (op_by t node kind.While) refl (while_parts (parts_at t node) (all_parts t unit node kind.While e refl))
  simple bodies node n at kind.Do e h = plain t node (op_by t node kind.Do) refl (do_parts (parts_at t node) (all_parts t unit node kind.Do e refl))
  simple bodies node n at kind.Cast e h = leaf t node _ (part_at t node 1 ∷ []) _ refl (alone t (part_at t node 1) (all_parts t unit node kind.Cast e refl 1 (part_at t node 1) (part_there t unit node n kind.Cast 1 at e (omega arith))))
  simple bodies node n at kind.AddressOf e h = addresses node (part_at t node 0) (kind_at t (part_at t node 0)) refl (all_parts t unit node kind.AddressOf e refl)
  simple bodies node n at kind.Call e h = calls node (callee_of t node) (parts_at t node) (λ parameters rest is_main is. bodies node parameters rest is_main e is) (all_parts t unit node kind.Call e refl)
  simple bodies node n at kind.Label e h = leaf t node _ (labelled t node ∷ []) _ refl (alone t (labelled t node) (subst (OwnsNone t) (sym (label_part node (ap is_case e)))
      (all_parts t unit node kind.Label e refl 0 (part_at t node 0) (part_there t unit node n kind.Label 0 at e (omega arith)))))
  simple bodies node n at kind.Default e h = leaf t node _ (labelled t node ∷ []) _ refl (alone t (labelled t node) (subst (OwnsNone t) (sym (label_part node (ap is_case e)))
      (all_parts t unit node kind.Default e refl 0 (part_at t node 0) (part_there t unit node n kind.Default 0 at e (omega arith)))))
  simple bodies node n at kind.Case e h = leaf t node _ (labelled t node ∷ []) _ refl (alone t (labelled t node) (subst (OwnsNone t) (sym (case_part node (ap is_case e)))
      (all_parts t unit node kind.Case e refl 1 (part_at t node 1) (part_there t unit node n kind.Case 1 at e (omega arith)))))
  simple bodies node n at k e h = absurd (false≢true h)
