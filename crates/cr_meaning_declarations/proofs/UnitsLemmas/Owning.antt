-- The rule on declarators, of a unit's program.
use Rattle.std.proofs.Common.{◌≡◌, ℕ, true, [], Some, length, slice_get, refl, sym, subst, inl}
use Rattle.std.specs.Prelude.{◌==◌}
use Rattle.std.proofs.lemmas.Bool.{or_left, eq-eqb}
use Rattle.cr_syntax.specs.declared.node.Kind.{Kind}
use Rattle.cr_syntax.specs.declared.node.Kind.TheVariants as kind
use Rattle.cr_syntax.specs.declared.node.Node.{Node}
use Rattle.cr_typed.specs.declared.typed.Typed.{Typed}
use Rattle.cr_meaning.specs.declared.op.Op.{Op}
use Rattle.cr_meaning.specs.declared.op.Work.TheVariants as work
use Rattle.cr_meaning_operations.specs.Operations.{kind_at, name_of, op_by, program_of}
use Rattle.cr_meaning_orders.specs.Owned.{hands_on}
use Rattle.cr_meaning_declarations.specs.Units.Owned.{owns_by, owns, AreOfUnit, AreInitialisers, AreDeclaredOnce, AreBodies}
use Rattle.cr_meaning_declarations.specs.Units.Laws
use Rattle.cr_meaning_orders.proofs.Typed.{fixed_programs_mean_one_thing}
use Rattle.cr_meaning_declarations.proofs.UnitsLemmas.Ops.{IsOp, of_node, of_whole, is_op}
use Rattle.cr_meaning_declarations.proofs.UnitsLemmas.Handing.{HandsOn, leaf, bare, kind_is}
use Rattle.cr_meaning_declarations.proofs.UnitsLemmas.Simple.{simple}
use Rattle.cr_meaning_declarations.proofs.UnitsLemmas.Blocks.{compound, switch, for, declaration, declarator, initialised}

module _ (t : Typed) (unit : AreOfUnit t) (puts : AreInitialisers t) (once : AreDeclaredOnce t) (bodies : AreBodies t) where
  by_kind : (node : ℕ) (n : Node) → slice_get t.nodes node ≡ Some n → (k : Kind) → n.kind ≡ k → kind_at t node ≡ k → HandsOn t node (op_by t node k)
  by_kind node n at kind.Compound is e = compound t once unit node n at is
  by_kind node n at kind.Switch is e = switch t once unit node n at is
  by_kind node n at kind.For is e = for t once unit node n at is
  by_kind node n at kind.Declaration is e = declaration t once unit node n at is
  by_kind node n at kind.InitDeclarator is e = initialised t once unit puts node e
  by_kind node n at kind.NameDeclarator is e = declarator t once unit node node kind.NameDeclarator e refl (λ declared. refl)
  by_kind node n at kind.PointerDeclarator is e = declarator t once unit node (name_of t node) kind.PointerDeclarator e refl (λ declared. refl)
  by_kind node n at kind.GroupDeclarator is e = declarator t once unit node (name_of t node) kind.GroupDeclarator e refl (λ declared. refl)
  by_kind node n at kind.ArrayDeclarator is e = declarator t once unit node (name_of t node) kind.ArrayDeclarator e refl (λ declared. refl)
  by_kind node n at kind.Comma is e = simple t unit bodies node n at kind.Comma e refl
  by_kind node n at kind.Assign is e = simple t unit bodies node n at kind.Assign e refl
  by_kind node n at kind.MultiplyAssign is e = simple t unit bodies node n at kind.MultiplyAssign e refl
  by_kind node n at kind.DivideAssign is e = simple t unit bodies node n at kind.DivideAssign e refl
  by_kind node n at kind.RemainderAssign is e = simple t unit bodies node n at kind.RemainderAssign e refl
  by_kind node n at kind.AddAssign is e = simple t unit bodies node n at kind.AddAssign e refl
  by_kind node n at kind.SubtractAssign is e = simple t unit bodies node n at kind.SubtractAssign e refl
  by_kind node n at kind.ShiftLeftAssign is e = simple t unit bodies node n at kind.ShiftLeftAssign e refl
  by_kind node n at kind.ShiftRightAssign is e = simple t unit bodies node n at kind.ShiftRightAssign e refl
  by_kind node n at kind.AndAssign is e = simple t unit bodies node n at kind.AndAssign e refl
  by_kind node n at kind.XorAssign is e = simple t unit bodies node n at kind.XorAssign e refl
  by_kind node n at kind.OrAssign is e = simple t unit bodies node n at kind.OrAssign e refl
  by_kind node n at kind.LogicalOr is e = simple t unit bodies node n at kind.LogicalOr e refl
  by_kind node n at kind.LogicalAnd is e = simple t unit bodies node n at kind.LogicalAnd e refl
  by_kind node n at kind.Or is e = simple t unit bodies node n at kind.Or e refl
  by_kind node n at kind.Xor is e = simple t unit bodies node n at kind.Xor e refl
  by_kind node n at kind.And is e = simple t unit bodies node n at kind.And e refl
  by_kind node n at kind.ShiftLeft is e = simple t unit bodies node n at kind.ShiftLeft e refl
  by_kind node n at kind.ShiftRight is e = simple t unit bodies node n at kind.ShiftRight e refl
  by_kind node n at kind.Add is e = simple t unit bodies node n at kind.Add e refl
  by_kind node n at kind.Multiply is e = simple t unit bodies node n at kind.Multiply e refl
  by_kind node n at kind.Divide is e = simple t unit bodies node n at kind.Divide e refl
  by_kind node n at kind.Remainder is e = simple t unit bodies node n at kind.Remainder e refl
  by_kind node n at kind.PreIncrement is e = simple t unit bodies node n at kind.PreIncrement e refl
  by_kind node n at kind.PreDecrement is e = simple t unit bodies node n at kind.PreDecrement e refl
  by_kind node n at kind.Dereference is e = simple t unit bodies node n at kind.Dereference e refl
  by_kind node n at kind.Plus is e = simple t unit bodies node n at kind.Plus e refl
  by_kind node n at kind.Minus is e = simple t unit bodies node n at kind.Minus e refl
  by_kind node n at kind.Complement is e = simple t unit bodies node n at kind.Complement e refl
  by_kind node n at kind.Not is e = simple t unit bodies node n at kind.Not e refl
  by_kind node n at kind.Subscript is e = simple t unit bodies node n at kind.Subscript e refl
  by_kind node n at kind.Member is e = simple t unit bodies node n at kind.Member e refl
  by_kind node n at kind.PointerMember is e = simple t unit bodies node n at kind.PointerMember e refl
  by_kind node n at kind.PostIncrement is e = simple t unit bodies node n at kind.PostIncrement e refl
  by_kind node n at kind.PostDecrement is e = simple t unit bodies node n at kind.PostDecrement e refl
  by_kind node n at kind.Group is e = simple t unit bodies node n at kind.Group e refl
  by_kind node n at kind.ExpressionStatement is e = simple t unit bodies node n at kind.ExpressionStatement e refl
  by_kind node n at kind.Return is e = simple t unit bodies node n at kind.Return e refl
  by_kind node n at kind.Equal is e = simple t unit bodies node n at kind.Equal e refl
  by_kind node n at kind.NotEqual is e = simple t unit bodies node n at kind.NotEqual e refl
  by_kind node n at kind.Less is e = simple t unit bodies node n at kind.Less e refl
  by_kind node n at kind.Greater is e = simple t unit bodies node n at kind.Greater e refl
  by_kind node n at kind.LessEqual is e = simple t unit bodies node n at kind.LessEqual e refl
  by_kind node n at kind.GreaterEqual is e = simple t unit bodies node n at kind.GreaterEqual e refl
  by_kind node n at kind.Subtract is e = simple t unit bodies node n at kind.Subtract e refl
  by_kind node n at kind.SizeofExpression is e = simple t unit bodies node n at kind.SizeofExpression e refl
  by_kind node n at kind.SizeofType is e = simple t unit bodies node n at kind.SizeofType e refl
  by_kind node n at kind.Integer is e = simple t unit bodies node n at kind.Integer e refl
  by_kind node n at kind.Character is e = simple t unit bodies node n at kind.Character e refl
  by_kind node n at kind.Text is e = simple t unit bodies node n at kind.Text e refl
  by_kind node n at kind.Goto is e = simple t unit bodies node n at kind.Goto e refl
  by_kind node n at kind.Break is e = simple t unit bodies node n at kind.Break e refl
  by_kind node n at kind.Continue is e = simple t unit bodies node n at kind.Continue e refl
  by_kind node n at kind.Conditional is e = simple t unit bodies node n at kind.Conditional e refl
  by_kind node n at kind.Cast is e = simple t unit bodies node n at kind.Cast e refl
  by_kind node n at kind.AddressOf is e = simple t unit bodies node n at kind.AddressOf e refl
  by_kind node n at kind.Call is e = simple t unit bodies node n at kind.Call e refl
  by_kind node n at kind.Identifier is e = simple t unit bodies node n at kind.Identifier e refl
  by_kind node n at kind.If is e = simple t unit bodies node n at kind.If e refl
  by_kind node n at kind.While is e = simple t unit bodies node n at kind.While e refl
  by_kind node n at kind.Do is e = simple t unit bodies node n at kind.Do e refl
  by_kind node n at kind.Label is e = simple t unit bodies node n at kind.Label e refl
  by_kind node n at kind.Case is e = simple t unit bodies node n at kind.Case e refl
  by_kind node n at kind.Default is e = simple t unit bodies node n at kind.Default e refl
  by_kind node n at k is e = leaf t node work.Declaration [] _ refl (bare t)

  of_op : (node : ℕ) (op : Op) → IsOp t node op → HandsOn t node op
  of_op node op (of_node n at e) = subst (HandsOn t node) (sym e) (by_kind node n at (kind_at t node) (sym (kind_is t node n at)) refl)
  of_op node op (of_whole e is) = record {
    declares = λ declared same. whole declared;
    initialises = λ declared lines same. whole declared;
    parts = λ k part declared has o. inl (subst (λ (x : Op). hands_on x.work ≡ true) (sym is) refl, whole declared);
  }
    where
      whole : (declared : ℕ) → owns t node declared ≡ true
      whole declared = or_left (node == length t.nodes) (owns_by t node (kind_at t node) declared) (eq-eqb node (length t.nodes) e)

pub declarators_stand_in_blocks : Laws.DeclaratorsStandInBlocks
declarators_stand_in_blocks t limits well = record {
  declares = λ node declared op e is. (at node op e).declares declared is;
  initialises = λ node declared lines op e is. (at node op e).initialises declared lines is;
  parts = λ node op k part declared e has o. (at node op e).parts k part declared has o;
}
  where
    at : (node : ℕ) (op : Op) → slice_get (program_of t limits).ops node ≡ Some op → HandsOn t node op
    at node op e = of_op t well.of_unit well.initialisers well.once well.bodies node op (is_op t node op e)

pub units_run_alike : Laws.UnitsRunAlike
units_run_alike t limits sorts well typed few fixed one other comes any =
    fixed_programs_mean_one_thing (program_of t limits) sorts (owns t) typed (declarators_stand_in_blocks t limits well) few fixed one other comes any
