-- The whole program of a unit.
use Rattle.std.proofs.Common.{◌≡◌, ℕ, zero, suc, ◌+◌, ◌-◌, ◌^◌, ◌<◌, Bool, true, false, Option, None, Some, List, [], ◌∷◌, map, length, refl, sym, ap, subst, ◌∙◌, slice_get, slice_index_or, arith, if◌then◌else◌, pos}
use Rattle.std.specs.Prelude.{IfSome}
use Rattle.std.proofs.lemmas.Bool.{false≢true}
use Rattle.cr_ints.specs.declared.kind.IntKind.TheVariants.{Int as IntegerKind, Char as CharKind}
use Rattle.cr_ints.proofs.Congruence.{convert_of-represents}
use Rattle.cr_memory.specs.declared.value.Scalar.{Scalar}
use Rattle.cr_memory.specs.declared.value.Scalar.TheVariants as scalar
use Rattle.cr_memory.specs.declared.value.Guard.{Guard}
use Rattle.cr_memory.specs.declared.value.Guard.TheVariants.{Literal}
use Rattle.cr_memory.specs.Memory.{AllHold}
use Rattle.cr_syntax.specs.declared.node.Kind.{Kind}
use Rattle.cr_syntax.specs.declared.node.Kind.TheVariants as kind
use Rattle.cr_syntax.specs.declared.node.Node.{Node}
use Rattle.cr_typed.specs.declared.typed.Typed.{Typed}
use Rattle.cr_check_expressions.specs.Forms.{form_of}
use Rattle.cr_check_statements.specs.Setting.{Scene}
use Rattle.cr_meaning.specs.declared.op.Form.TheVariants as form
use Rattle.cr_meaning.specs.declared.run.Limits.{Limits}
use Rattle.cr_meaning.specs.Meaning.{root_of}
use Rattle.cr_meaning_soundness.specs.Sorts.{Sort, statement}
use Rattle.cr_meaning_soundness.specs.Statements.{of_function}
use Rattle.cr_meaning_soundness.specs.Rules.{IsTyped, AreTyped}
use Rattle.cr_meaning_soundness.specs.Operands.{Demands}
use Rattle.cr_meaning_soundness.specs.Programs.{nothing_entered, IsWhole, IsWellTyped}
use Rattle.cr_meaning_soundness.specs.Ends.{IsComplete}
use Rattle.cr_meaning_soundness.proofs.Outcomes.{programs_have_outcomes}
use Rattle.cr_meaning_operations.specs.Operations.{kind_if, kind_at, part_at, parameter_of, strings_of, nodes_from, is_lasting, is_static_initialiser, byte_cell, literal_by, object_shape, op_of, unit_op, program_of}
use Rattle.cr_meaning_typing.specs.Typed.Good.{IsGood}
use Rattle.cr_meaning_typing.specs.Typed.Typing.{is_expression}
use Rattle.cr_meaning_typing.specs.Typed.Placed.{exits_in}
use Rattle.cr_meaning_typing.proofs.TypedLemmas.Ops.{ops}
use Rattle.cr_meaning_typing.specs.Sorts.Table.{Judgement, sort_at, sorts_in, labels_of, result_of}
use Rattle.cr_meaning_typing.specs.Whole.Whole.{IsReady, UnitsHaveOutcomes}
use Rattle.cr_meaning_typing.proofs.WholeLemmas.Statements.{nodes, statement_sort}

-- ---- literals

bytes_hold : (bytes : List ℕ) → AllHold nothing_entered (map (λ (own : Scalar × Guard). own.0) (map (λ byte. (scalar.Int CharKind, Literal)) bytes)) (map byte_cell bytes)
bytes_hold [] = tt
bytes_hold (byte ∷ bytes) = (convert_of-represents (pos byte) CharKind, bytes_hold bytes)

literal_kind : (t : Typed) (node : ℕ) (k : Kind) → IfSome (literal_by t node k) (λ held. AllHold nothing_entered (map (λ (own : Scalar × Guard). own.0) (object_shape t node k)) held)
literal_kind t node kind.Text = bytes_hold (slice_index_or t.texts node [])
literal_kind t node k = tt

-- ---- initialisers of static objects

-- a node that passes a test, with its kind
pub record IsPassed (test : ℕ → Kind → Bool) (from : ℕ) (nodes : List Node) (a : ℕ) : Type 0 where
  pub place : ℕ
  pub node : Node
  pub at : slice_get nodes place ≡ Some node
  pub is : from + place ≡ a
  pub passes : test a node.kind ≡ true

passed : (test : ℕ → Kind → Bool) (from : ℕ) (nodes : List Node) (k a : ℕ) → slice_get (nodes_from test from nodes) k ≡ Some a → IsPassed test from nodes a
passed test from [] k a e = absurd (cc e)
passed test from (node ∷ nodes) k a e = by (test from node.kind) refl k e (λ m f. passed test (suc from) nodes m a f)
  where
    later : IsPassed test (suc from) nodes a → IsPassed test from (node ∷ nodes) a
    later x = record { place = suc x.place; node = x.node; at = x.at; is = (let next : from + suc x.place ≡ suc from + x.place = omega arith in next ∙ x.is); passes = x.passes }

    by : (b : Bool) → test from node.kind ≡ b → (k : ℕ) → slice_get (if b then from ∷ nodes_from test (suc from) nodes else nodes_from test (suc from) nodes) k ≡ Some a
        → ((m : ℕ) → slice_get (nodes_from test (suc from) nodes) m ≡ Some a → IsPassed test (suc from) nodes a) → IsPassed test from (node ∷ nodes) a
    by true q zero f rest =
        let same : from ≡ a = cc f in
        record { place = 0; node = node; at = refl; is = (let here : from + 0 ≡ from = omega arith in here ∙ same); passes = subst (λ x. test x node.kind ≡ true) same q }
    by true q (suc k) f rest = later (rest k f)
    by false q k f rest = later (rest k f)

initialiser_plain : (t : Typed) (a : ℕ) (k : Kind) → is_static_initialiser t a k ≡ true → is_expression (form_of k) ≡ false
initialiser_plain t a kind.InitDeclarator e = refl
initialiser_plain t a k e = absurd (false≢true e)

pub is_initialiser : (t : Typed) (k a : ℕ) → slice_get (nodes_from (is_static_initialiser t) 0 t.nodes) k ≡ Some a → is_static_initialiser t a (kind_at t a) ≡ true
is_initialiser t k a e =
    let x = passed (is_static_initialiser t) 0 t.nodes k a e in
    let same : a ≡ x.place = (let place = x.is in omega (arith, place)) in
    let here : slice_get t.nodes a ≡ Some x.node = ap (slice_get t.nodes) same ∙ x.at in
    ap (λ o. is_static_initialiser t a (kind_if o)) here ∙ x.passes

module _ (t : Typed) (limits : Limits) (j : Judgement) (scene : Scene) (sees : ℕ → ℕ → Bool) (ready : IsReady t limits j scene sees) (few : limits.output < 2 ^ 31) where
  abbrev sorts : ℕ → Option Sort
  sorts = sorts_in (program_of t limits) t j

  -- a node with a sort is one that a run may reach
  runs_if : (node : ℕ) (own : Sort) → sorts node ≡ Some own → (j.runs node ≡ true) × (own ≡ sort_at (program_of t limits) t j node)
  runs_if node own e = by (j.runs node) refl e
    where
      by : (b : Bool) → j.runs node ≡ b → (if b then Some (sort_at (program_of t limits) t j node) else None) ≡ Some own → (j.runs node ≡ true) × (own ≡ sort_at (program_of t limits) t j node)
      by true r f = (r, (let same : sort_at (program_of t limits) t j node ≡ own = cc f in sym same))
      by false r f = absurd (cc f)

  good : (node : ℕ) → j.runs node ≡ true → IsGood (program_of t limits) sorts (sees node) (op_of t node) (sort_at (program_of t limits) t j node)
  good node r = nodes t limits j scene sees ready.founded few node r

  op_is : (node : ℕ) → j.runs node ≡ true → slice_get (program_of t limits).ops node ≡ Some (op_of t node)
  op_is node r = let there = ready.founded.expressions.reached.there node r in (ops t limits).each node there.0 there.1

  typed_nodes : AreTyped (program_of t limits) sorts
  typed_nodes node op own e at =
      let r = runs_if node own e in
      let same : op_of t node ≡ op = cc (sym (op_is node r.0) ∙ at) in
      subst (λ o. IsTyped (program_of t limits) sorts o own) same (subst (IsTyped (program_of t limits) sorts (op_of t node)) (sym r.1) (good node r.0).typed)

  root_is : slice_get (program_of t limits).ops (root_of (program_of t limits)) ≡ Some (unit_op t)
  root_is =
      let count = (ops t limits).count in
      let last : length (program_of t limits).ops - 1 ≡ length t.nodes = omega (arith, count) in
      ap (slice_get (program_of t limits).ops) last ∙ (ops t limits).root

  whole : IsWhole (program_of t limits) sorts (unit_op t)
  whole = record {
    objects = nodes_from (is_lasting t) 0 t.nodes;
    parameters = map (parameter_of t) (slice_index_or t.parameters t.main []);
    strings = strings_of t (slice_index_or t.parameters t.main []);
    rest = part_at t t.main 2;
    work_is = refl;
    literals = λ node among. literal_kind t node (kind_at t node);
    main = ready.started.parameters;
    body = statement_sort t limits j scene sees ready.founded (part_at t t.main 2) ready.started.body_runs ready.started.body_plain ∙ ap (λ x. Some (statement x)) ready.started.body_exits;
    parts = λ k node is. statement_sort t limits j scene sees ready.founded node (ready.started.initialisers_run k node is) (initialiser_plain t node (kind_at t node) (is_initialiser t k node is))
        ∙ ap (λ x. Some (statement x)) (ap (λ b. if b then of_function (form.Number IntegerKind) else exits_in (labels_of t j) (result_of t j) (j.around node)) (is_initialiser t k node is));
  }

  pub typed : IsWellTyped (program_of t limits) sorts
  typed = record { nodes = typed_nodes; op = unit_op t; is_root = root_is; whole = whole }

  complete : IsComplete (program_of t limits) sorts sees typed
  unfolding typed whole
  complete = record {
    nodes = record {
      there = λ node own e. (op_of t node, op_is node (runs_if node own e).0);
      demands = λ node op own e at. (let r = runs_if node own e in
          let same : op_of t node ≡ op = cc (sym (op_is node r.0) ∙ at) in
          subst (λ o. Demands sorts (sees node) o o.work) same (good node r.0).demands);
    };
    scoped = ready.seen.scoped;
    whole = ready.seen.whole;
  }

pub outcomes : UnitsHaveOutcomes
outcomes t limits j scene sees ready cells few reply run =
    programs_have_outcomes (program_of t limits) (sorts_in (program_of t limits) t j) sees (typed t limits j scene sees ready few) (complete t limits j scene sees ready few) cells reply run
