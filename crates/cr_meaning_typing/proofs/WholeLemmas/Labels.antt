-- What a node hands on to its parts: the exits of a statement, and the labels of the blocks around.
use Rattle.std.proofs.Common.{◌≡◌, ℕ, zero, suc, ◌+◌, ◌<◌, ◌≤◌, true, false, Option, None, Some, List, [], length, refl, sym, ap, ◌∙◌, arith, if◌then◌else◌}
use Rattle.std.specs.Option.{is_some}
use Rattle.cr_ints.specs.declared.kind.IntKind.TheVariants.{Int as IntegerKind}
use Rattle.cr_syntax.specs.declared.node.Kind.{Kind}
use Rattle.cr_syntax.specs.declared.node.Kind.TheVariants as kind
use Rattle.cr_check_enclosing.specs.declared.context.Around.{Around}
use Rattle.cr_check_enclosing.specs.Around.{inside}
use Rattle.cr_typed.specs.declared.typed.Typed.{Typed}
use Rattle.cr_meaning.specs.declared.op.Form.{Form}
use Rattle.cr_meaning.specs.declared.op.Form.TheVariants as form
use Rattle.cr_meaning.specs.declared.op.Target.{Target}
use Rattle.cr_meaning_soundness.specs.Statements.{of_function, in_loop, in_block, in_switch, labelled_by}
use Rattle.cr_meaning_operations.specs.Operations.{kind_at, parts_at, targets_from, is_static_initialiser}
use Rattle.cr_meaning_typing.specs.Typed.Placed.{exits_in}
use Rattle.cr_meaning_typing.specs.Sorts.Table.{Judgement, labels_by, labels_of, result_of, exits_at}
use Rattle.cr_meaning_typing.specs.Whole.Statements.{IsInner}

-- ---- by the kind of the node

module _ (labels : Option ℕ → List ℕ) (result : Option ℕ → Form) (i : ℕ) (a : Around) where
  pub if_exits : exits_in labels result (inside kind.If i a) ≡ exits_in labels result a
  unfolding inside
  if_exits = refl

  pub while_exits : exits_in labels result (inside kind.While i a) ≡ in_loop (exits_in labels result a)
  unfolding inside
  while_exits = refl

  pub do_exits : exits_in labels result (inside kind.Do i a) ≡ in_loop (exits_in labels result a)
  unfolding inside
  do_exits = refl

  pub for_exits : exits_in labels result (inside kind.For i a) ≡ in_loop (exits_in labels result a)
  unfolding inside
  for_exits = refl

  pub label_exits : exits_in labels result (inside kind.Label i a) ≡ exits_in labels result a
  unfolding inside
  label_exits = refl

  pub case_exits : exits_in labels result (inside kind.Case i a) ≡ exits_in labels result a
  unfolding inside
  case_exits = refl

  pub default_exits : exits_in labels result (inside kind.Default i a) ≡ exits_in labels result a
  unfolding inside
  default_exits = refl

  pub block_exits : (targets : List Target) → labels (Some i) ≡ labelled_by targets (labels a.block) → exits_in labels result (inside kind.Compound i a) ≡ in_block targets (exits_in labels result a)
  unfolding inside
  block_exits targets e = λ k. record { breaks = is_some a.breakable; continues = is_some a.iteration; labels = e k; result = result a.function }

  pub switch_exits : (c : ℕ) (targets : List Target) → labels (Some c) ≡ labelled_by targets (labels a.block)
      → exits_in labels result (inside kind.Compound c (inside kind.Switch i a)) ≡ in_switch targets (exits_in labels result a)
  unfolding inside
  switch_exits c targets e = λ k. record { breaks = true; continues = is_some a.iteration; labels = e k; result = result a.function }

  pub switch_block : (inside kind.Switch i a).block ≡ a.block
  unfolding inside
  switch_block = refl

module _ (t : Typed) (j : Judgement) (blocks : (b c : ℕ) → (j.around b).block ≡ Some c → (b < c) × (c < length t.nodes)) where
  -- ---- labels

  no_block : (m : ℕ) → labels_by m t j None ≡ []
  no_block zero = refl
  no_block (suc m) = refl

  further : (m n b : ℕ) (o : Option ℕ) → (j.around b).block ≡ o → ((c : ℕ) → b < c → c < length t.nodes → labels_by m t j (Some c) ≡ labels_by n t j (Some c)) → labels_by m t j o ≡ labels_by n t j o
  further m n b None e rest = no_block m ∙ sym (no_block n)
  further m n b (Some c) e rest = let there = blocks b c e in rest c there.0 there.1

  enough : (m n b : ℕ) → b < length t.nodes → length t.nodes ≤ m + b → length t.nodes ≤ n + b → labels_by m t j (Some b) ≡ labels_by n t j (Some b)
  enough zero n b low x y = absurd (omega (arith, low, x))
  enough (suc m) zero b low x y = absurd (omega (arith, low, y))
  enough (suc m) (suc n) b low x y =
      ap (labelled_by (targets_from t 0 (parts_at t b))) (further m n b (j.around b).block refl (λ c more less. enough m n c less (omega (arith, x, more)) (omega (arith, y, more))))

  -- those of a block come before those of the blocks around it
  pub block_labels : (b : ℕ) → labels_of t j (Some b) ≡ labelled_by (targets_from t 0 (parts_at t b)) (labels_of t j (j.around b).block)
  block_labels b =
      ap (labelled_by (targets_from t 0 (parts_at t b))) (further (length t.nodes) (suc (length t.nodes)) b (j.around b).block refl (λ c more less. enough (length t.nodes) (suc (length t.nodes)) c less (omega arith) (omega arith)))

  -- ---- exits

  pub own_exits : (i : ℕ) → is_static_initialiser t i (kind_at t i) ≡ false → exits_at t j i ≡ exits_in (labels_of t j) (result_of t j) (j.around i)
  own_exits i e = ap (λ b. if b then of_function (form.Number IntegerKind) else exits_in (labels_of t j) (result_of t j) (j.around i)) e

  pub inner_exits : (i a : ℕ) (k : Kind) → kind_at t i ≡ k → IsInner t j i a → exits_at t j a ≡ exits_in (labels_of t j) (result_of t j) (inside k i (j.around i))
  inner_exits i a k e inner = own_exits a inner.apart ∙ ap (exits_in (labels_of t j) (result_of t j)) (inner.around ∙ ap (λ k. inside k i (j.around i)) e)
