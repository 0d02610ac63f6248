-- All kinds of statements and declarations, in the table.
use Rattle.std.proofs.Common.{◌≡◌, ℕ, ◌≤◌, ◌==◌, ◌⊎◌, inl, inr, Bool, true, false, ◌&&◌, Option, None, Some, List, [], ◌∷◌, map, length, refl, sym, ap, subst, ◌∙◌, slice_get, slice_index_or, arith, if◌then◌else◌}
use Rattle.std.specs.Option.{is_some, option_map}
use Rattle.std.proofs.lemmas.Bool.{false≢true, not-false}
use Rattle.std.proofs.lemmas.Option.{slice_get_within, slice_get-map}
use Rattle.cr_syntax.specs.declared.ctype.CType.TheVariants.{Int, Void}
use Rattle.cr_syntax.specs.declared.node.Kind.{Kind}
use Rattle.cr_syntax.specs.declared.node.Kind.TheVariants as kind
use Rattle.cr_syntax.specs.declared.node.Node.{Node}
use Rattle.cr_syntax_nodes.specs.Loops.{clauses_of}
use Rattle.cr_check_enclosing.specs.declared.context.Around.{Around}
use Rattle.cr_check_enclosing.specs.Around.{inside}
use Rattle.cr_check_types.specs.Types.{Qualified, plain, pointer as to, array}
use Rattle.cr_check_expressions.specs.declared.form.Form.TheVariants as form
use Rattle.cr_check_expressions.specs.Forms.{form_of}
use Rattle.cr_check_expressions.specs.Ruled.{seen_in, operand}
use Rattle.cr_check_expressions.specs.Used.{takes_place}
use Rattle.cr_check_statements.specs.Setting.{Scene}
use Rattle.cr_check_statements.specs.Statements.{is_no_scalar, is_no_integer, returns_badly, faults_in}
use Rattle.cr_typed.specs.declared.typed.Typed.{Typed}
use Rattle.cr_typed.specs.declared.typed.Put.{Put}
use Rattle.cr_meaning.specs.declared.op.Op.{Op}
use Rattle.cr_meaning.specs.declared.op.Work.TheVariants as work
use Rattle.cr_meaning.specs.declared.run.Limits.{Limits}
use Rattle.cr_meaning_soundness.specs.Sorts.{Exits, Sort, statement}
use Rattle.cr_meaning_soundness.specs.Statements.{HasSort, in_loop, in_block, in_switch, labelled_by}
use Rattle.cr_meaning_operations.specs.Shapes.{named_type, form_by, form_of as cell_form}
use Rattle.cr_meaning_operations.specs.Operations.{node_op, kind_at, parts_if, parts_at, part_at, name_of, entity_of, labelled, for_of, switch_of, targets_from, declarators_of, is_static_initialiser, line_of, op_by}
use Rattle.cr_meaning_typing.specs.Typed.Good.{IsGood}
use Rattle.cr_meaning_typing.specs.Typed.Typing.{is_expression}
use Rattle.cr_meaning_typing.specs.Typed.Laws.{HoldsAll}
use Rattle.cr_meaning_typing.specs.Typed.Placed.{exits_in}
use Rattle.cr_meaning_typing.proofs.TypedLemmas.Worth.{unbroken}
use Rattle.cr_meaning_typing.specs.Expressions.Used.{IsUsedAt}
use Rattle.cr_meaning_typing.specs.Statements.Statements.{IsControl, IsResult}
use Rattle.cr_meaning_typing.proofs.StatementsLemmas.Given as given
use Rattle.cr_meaning_typing.specs.Sorts.Table.{Judgement, expression_sort, sort_at, labels_of, result_of, exits_at}
use Rattle.cr_meaning_typing.specs.Sorts.Founded.{IsOperand}
use Rattle.cr_meaning_typing.proofs.SortsLemmas.Operands.{p, sorts, kind_there, operand_is, used}
use Rattle.cr_meaning_typing.proofs.SortsLemmas.Expressions.{expressions}
use Rattle.cr_meaning_typing.specs.Whole.Statements.{is_statement, has_condition, has_inner, is_labelled, is_declarator, IsInner, IsIn, IsFounded, NodesAreGood}
use Rattle.cr_meaning_typing.proofs.WholeLemmas.Labels.{if_exits, while_exits, do_exits, for_exits, label_exits, case_exits, default_exits, block_exits, switch_exits, switch_block, block_labels, own_exits, inner_exits}

-- ---- lists of a few parts

two_in : (ps : List ℕ) → length ps ≡ 2 → (a : ℕ) × ((b : ℕ) × (ps ≡ a ∷ b ∷ []))
two_in [] n = absurd (omega (arith, n))
two_in (a ∷ []) n = absurd (omega (arith, n))
two_in (a ∷ b ∷ []) n = (a, (b, refl))
two_in (a ∷ b ∷ c ∷ ps) n = absurd (omega (arith, n))

three_in : (ps : List ℕ) → length ps ≡ 3 → (a : ℕ) × ((b : ℕ) × ((c : ℕ) × (ps ≡ a ∷ b ∷ c ∷ [])))
three_in [] n = absurd (omega (arith, n))
three_in (a ∷ ps) n = let rest = two_in ps (omega (arith, n)) in (a, (rest.0, (rest.1.0, ap (λ qs. a ∷ qs) rest.1.1)))

few_in : (ps : List ℕ) → length ps ≤ 1 → (ps ≡ []) ⊎ ((a : ℕ) × (ps ≡ a ∷ []))
few_in [] n = inl refl
few_in (a ∷ []) n = inr (a, refl)
few_in (a ∷ b ∷ ps) n = absurd (omega (arith, n))

no_place : (b : Bool) → (b && false) ≡ false
no_place true = refl
no_place false = refl

-- what a function gives has no row of its own
result_form : (t : Typed) (one other : ℕ) (type : Qualified) → IsResult type → form_by t one type ≡ form_by t other type
result_form t one other (plain Void c v) h = refl
result_form t one other (plain (Int kind) c v) h = refl
result_form t one other (plain of c v) h = absurd h
result_form t one other (to c v b) h = refl
result_form t one other (array n b) h = absurd h

module _ (t : Typed) (limits : Limits) (j : Judgement) (scene : Scene) (sees : ℕ → ℕ → Bool) (founded : IsFounded t limits j scene sees) where
  abbrev table : ℕ → Option Sort
  table = sorts t limits j sees founded.expressions

  run_sort : (a : ℕ) → j.runs a ≡ true → table a ≡ Some (sort_at (p t limits j sees founded.expressions) t j a)
  run_sort a r = ap (λ b. if b then Some (sort_at (p t limits j sees founded.expressions) t j a) else None) r

  has_any : (a : ℕ) → j.runs a ≡ true → HasSort table a
  has_any a r = (sort_at (p t limits j sees founded.expressions) t j a, run_sort a r)

  pub plain_sort : (a : ℕ) → is_expression (form_of (kind_at t a)) ≡ false → sort_at (p t limits j sees founded.expressions) t j a ≡ statement (exits_at t j a)
  plain_sort a e = ap (λ b. if b then expression_sort (p t limits j sees founded.expressions) t j a else statement (exits_at t j a)) e

  pub statement_sort : (a : ℕ) → j.runs a ≡ true → is_expression (form_of (kind_at t a)) ≡ false → table a ≡ Some (statement (exits_at t j a))
  statement_sort a r e = run_sort a r ∙ ap Some (plain_sort a e)

  module _ (i : ℕ) (n : Node) (at : slice_get t.nodes i ≡ Some n) (runs : j.runs i ≡ true) where
    abbrev exits : Exits
    exits = exits_at t j i

    abbrev Good : Op → Type 0
    Good op = IsGood (p t limits j sees founded.expressions) table (sees i) op (statement exits)

    abbrev own : Exits
    own = exits_in (labels_of t j) (result_of t j) (j.around i)

    exits_own : (k : Kind) → kind_at t i ≡ k → is_static_initialiser t i k ≡ false → exits ≡ own
    exits_own k e s = own_exits t j founded.blocks i (ap (is_static_initialiser t i) e ∙ s)

    -- a statement within it
    inner_sort : (k : Kind) (f : Exits → Exits) (a : ℕ) → kind_at t i ≡ k → is_static_initialiser t i k ≡ false → exits_in (labels_of t j) (result_of t j) (inside k i (j.around i)) ≡ f own
        → IsInner t j i a → j.runs a ≡ true → table a ≡ Some (statement (f exits))
    inner_sort k f a e s h inner r =
        statement_sort a r inner.plain ∙ ap (λ x. Some (statement x)) (inner_exits t j founded.blocks i a k e inner ∙ h ∙ ap f (sym (exits_own k e s)))

    inner_part : (k : Kind) (f : Exits → Exits) (m a : ℕ) → kind_at t i ≡ k → is_static_initialiser t i k ≡ false → exits_in (labels_of t j) (result_of t j) (inside k i (j.around i)) ≡ f own
        → has_inner k m ≡ true → slice_get (parts_at t i) m ≡ Some a → table a ≡ Some (statement (f exits))
    inner_part k f m a e s h has is =
        let has_it = ap (λ k. has_inner k m) e ∙ has in
        inner_sort k f a e s h (founded.laid.inners i m a has_it is) (founded.laid.inners_run i m a runs has_it is)

    -- ---- constraints

    holds : (k : Kind) → kind_at t i ≡ k → HoldsAll (faults_in k scene i n)
    holds k e = subst (λ k. HoldsAll (faults_in k scene i n)) (kind_there t limits j sees founded.expressions i n at ∙ e) (λ b among. founded.allowed.allowed i n b at among)

    -- what a condition has
    condition_is : (m a : ℕ) → slice_get (parts_at t i) m ≡ Some a → operand scene.at n.parts m ≡ j.at a
    condition_is m a is = (λ k. operand (founded.allowed.at k) n.parts m) ∙ operand_is t limits j sees founded.expressions i m a n at is

    condition_used : (m a : ℕ) → form_of (kind_at t i) ≡ form.Other → IsOperand t j i m a → j.runs a ≡ true → IsUsedAt (p t limits j sees founded.expressions) t table j.at a
    condition_used m a other o r = used t limits j sees founded.expressions i m a o r (ap (λ g. (m == 0) && takes_place g) other ∙ no_place (m == 0))

    control : (k : Kind) (m a : ℕ) → kind_at t i ≡ k → form_of k ≡ form.Other → has_condition k m ≡ true → slice_get (parts_at t i) m ≡ Some a → is_no_scalar (operand scene.at n.parts m) ≡ false
        → IsControl (p t limits j sees founded.expressions) t table j.at a
    control k m a e other has is scalar =
        let has_it = ap (λ k. has_condition k m) e ∙ has in
        let o = founded.laid.conditions i m a has_it is in
        record {
          has = founded.expressions.judged.worth a o.expression;
          scalar = ap is_no_scalar (sym (condition_is m a is)) ∙ scalar;
          used = condition_used m a (ap form_of e ∙ other) o (founded.laid.conditions_run i m a runs has_it is);
        }

    -- ---- selection and loops

    if_good : kind_at t i ≡ kind.If → Good (node_op (parts_at t i) work.If)
    if_good e = by (founded.laid.branches i e)
      where
        same : Exits → Exits
        same x = x

        scalar : is_no_scalar (operand scene.at n.parts 0) ≡ false
        scalar = unbroken 38 n.first _ [] (holds kind.If e)

        part_at_is : (ps : List ℕ) (m a : ℕ) → parts_at t i ≡ ps → slice_get ps m ≡ Some a → slice_get (parts_at t i) m ≡ Some a
        part_at_is ps m a is h = ap (λ qs. slice_get qs m) is ∙ h

        by : (length (parts_at t i) ≡ 2) ⊎ (length (parts_at t i) ≡ 3) → Good (node_op (parts_at t i) work.If)
        by (inl two) =
            let x = two_in (parts_at t i) two in
            (given.branches (p t limits j sees founded.expressions) t table (sees i) j.at founded.expressions.judged.columns i exits x.0 x.1.0
            (control kind.If 0 x.0 e refl refl (part_at_is _ 0 x.0 x.1.1 refl) scalar)
            (inner_part kind.If same 1 x.1.0 e refl (if_exits (labels_of t j) (result_of t j) i (j.around i)) refl (part_at_is _ 1 x.1.0 x.1.1 refl))).0 x.1.1
        by (inr three) =
            let x = three_in (parts_at t i) three in
            (given.branches (p t limits j sees founded.expressions) t table (sees i) j.at founded.expressions.judged.columns i exits x.0 x.1.0
            (control kind.If 0 x.0 e refl refl (part_at_is _ 0 x.0 x.1.1.1 refl) scalar)
            (inner_part kind.If same 1 x.1.0 e refl (if_exits (labels_of t j) (result_of t j) i (j.around i)) refl (part_at_is _ 1 x.1.0 x.1.1.1 refl))).1 x.1.1.0 x.1.1.1
            (inner_part kind.If same 2 x.1.1.0 e refl (if_exits (labels_of t j) (result_of t j) i (j.around i)) refl (part_at_is _ 2 x.1.1.0 x.1.1.1 refl))

    while_good : kind_at t i ≡ kind.While → Good (node_op (parts_at t i) work.While)
    while_good e =
        let x = two_in (parts_at t i) (founded.laid.whiles i e) in
        let first = ap (λ ps. slice_get ps 0) x.1.1 in
        let second = ap (λ ps. slice_get ps 1) x.1.1 in
        (given.loops (p t limits j sees founded.expressions) t table (sees i) j.at founded.expressions.judged.columns i exits x.0 x.1.0
        (control kind.While 0 x.0 e refl refl first (unbroken 38 n.first _ [] (holds kind.While e)))
        (inner_part kind.While in_loop 1 x.1.0 e refl (while_exits (labels_of t j) (result_of t j) i (j.around i)) refl second)).0 x.1.1

    do_good : kind_at t i ≡ kind.Do → Good (node_op (parts_at t i) work.Do)
    do_good e =
        let x = two_in (parts_at t i) (founded.laid.dos i e) in
        let first = ap (λ ps. slice_get ps 0) x.1.1 in
        let second = ap (λ ps. slice_get ps 1) x.1.1 in
        (given.loops (p t limits j sees founded.expressions) t table (sees i) j.at founded.expressions.judged.columns i exits x.1.0 x.0
        (control kind.Do 1 x.1.0 e refl refl second (unbroken 38 n.first _ [] (holds kind.Do e)))
        (inner_part kind.Do in_loop 0 x.0 e refl (do_exits (labels_of t j) (result_of t j) i (j.around i)) refl first)).1 x.1.1

    for_good : kind_at t i ≡ kind.For → Good (for_of t i)
    for_good e =
        let f = founded.laid.fors i n runs at (kind_there t limits j sees founded.expressions i n at ∙ e) in
        let scalar = unbroken 38 n.first _ [] (holds kind.For e) in
        given.fors (p t limits j sees founded.expressions) t table (sees i) j.at founded.expressions.judged.columns i exits f.objects f.first f.control f.step f.body f.is
        (λ a is. has_any a (f.first_runs a is))
        (λ a is. let c = f.test a is in
        let test : seen_in scene.at (clauses_of scene.nodes n).test ≡ j.at a = (λ k. seen_in (founded.allowed.at k) (clauses_of (founded.allowed.nodes k) n).test) ∙ ap (seen_in j.at) (f.tested ∙ is) in
        record {
          has = founded.expressions.judged.worth a c.1.expression;
          scalar = ap is_no_scalar (sym test) ∙ scalar;
          used = condition_used c.0 a (ap form_of e) c.1 (f.control_runs a is);
        })
        (λ a is. has_any a (f.step_runs a is))
        (inner_sort kind.For in_loop f.body e refl (for_exits (labels_of t j) (result_of t j) i (j.around i)) f.inner f.body_runs)

    switch_good : kind_at t i ≡ kind.Switch → Good (switch_of t i (part_at t i 1) (parts_at t (part_at t i 1)))
    switch_good e =
        let s = founded.laid.switches i runs e in
        let c = part_at t i 1 in
        let has_it = ap (λ k. has_condition k 0) e in
        let o = founded.laid.conditions i 0 (part_at t i 0) has_it s.selects in
        let targets = targets_from t 0 (parts_at t c) in
        let block : (j.around c).block ≡ (j.around i).block =
        ap (λ (a : Around). a.block) (s.inner.around ∙ ap (λ k. inside k i (j.around i)) e) ∙ switch_block (labels_of t j) (result_of t j) i (j.around i) in
        let labels = block_labels t j founded.blocks c ∙ ap (λ b. labelled_by targets (labels_of t j b)) block in
        given.switches (p t limits j sees founded.expressions) t table (sees i) j.at founded.expressions.judged.columns i exits (part_at t i 0) c (parts_at t c) refl
        (record {
          has = founded.expressions.judged.worth (part_at t i 0) o.expression;
          integer = ap is_no_integer (sym (condition_is 0 (part_at t i 0) s.selects)) ∙ unbroken 38 n.first _ [] (holds kind.Switch e);
          used = condition_used 0 (part_at t i 0) (ap form_of e) o (founded.laid.conditions_run i 0 (part_at t i 0) runs has_it s.selects);
        })
        (λ k node is. let inner = founded.laid.inners c k node (ap (λ x. has_inner x k) s.block) is in
        statement_sort node (s.items_run k node is) inner.plain
        ∙ ap (λ x. Some (statement x)) (inner_exits t j founded.blocks c node kind.Compound s.block inner
        ∙ ap (λ a. exits_in (labels_of t j) (result_of t j) (inside kind.Compound c a)) (s.inner.around ∙ ap (λ k. inside k i (j.around i)) e)
        ∙ switch_exits (labels_of t j) (result_of t j) i (j.around i) c targets labels ∙ ap (in_switch targets) (sym (exits_own kind.Switch e refl))))

    -- ---- blocks and labels

    block_good : kind_at t i ≡ kind.Compound → Good (op_by t i kind.Compound)
    block_good e =
        let targets = targets_from t 0 (parts_at t i) in
        given.blocks (p t limits j sees founded.expressions) t table (sees i) j.at founded.expressions.judged.columns i exits
        (λ k node is. inner_part kind.Compound (in_block targets) k node e refl (block_exits (labels_of t j) (result_of t j) i (j.around i) targets (block_labels t j founded.blocks i)) refl is)

    label_good : (k : Kind) → kind_at t i ≡ k → is_static_initialiser t i k ≡ false → exits_in (labels_of t j) (result_of t j) (inside k i (j.around i)) ≡ own → (m : ℕ) → has_inner k m ≡ true
        → slice_get (parts_at t i) m ≡ Some (labelled t i) → Good (node_op (labelled t i ∷ []) work.Labelled)
    label_good k e s h m has is =
        given.labels (p t limits j sees founded.expressions) t table (sees i) j.at founded.expressions.judged.columns i exits (labelled t i) refl (inner_part k (λ x. x) m (labelled t i) e s h has is)

    -- ---- jumps

    break_good : kind_at t i ≡ kind.Break → Good (node_op [] work.Break)
    break_good e =
        let fault = not-false (is_some (scene.around i).breakable) (unbroken 38 n.first _ [] (holds kind.Break e)) in
        subst (λ x. IsGood (p t limits j sees founded.expressions) table (sees i) (node_op [] work.Break) (statement x)) (sym (exits_own kind.Break e refl))
        ((given.jumps (p t limits j sees founded.expressions) table (sees i) (labels_of t j) (result_of t j) (j.around i)).0 (ap (λ (a : Around). is_some a.breakable) (sym (founded.allowed.around i)) ∙ fault))

    continue_good : kind_at t i ≡ kind.Continue → Good (node_op [] work.Continue)
    continue_good e =
        let fault = not-false (is_some (scene.around i).iteration) (unbroken 38 n.first _ [] (holds kind.Continue e)) in
        subst (λ x. IsGood (p t limits j sees founded.expressions) table (sees i) (node_op [] work.Continue) (statement x)) (sym (exits_own kind.Continue e refl))
        ((given.jumps (p t limits j sees founded.expressions) table (sees i) (labels_of t j) (result_of t j) (j.around i)).1 (ap (λ (a : Around). is_some a.iteration) (sym (founded.allowed.around i)) ∙ fault))

    goto_good : kind_at t i ≡ kind.Goto → Good (node_op [] (work.Goto (entity_of t i)))
    goto_good e = given.gotos (p t limits j sees founded.expressions) table (sees i) exits (entity_of t i) (founded.declared.gotos i runs e)

    return_good : kind_at t i ≡ kind.Return → Good (node_op (parts_at t i) (work.Return (cell_form t (slice_index_or t.named i 0))))
    return_good e = by (few_in (parts_at t i) (founded.laid.returns i e))
      where
        inn : IsIn j i
        inn = founded.declared.returns i runs e

        named : named_type t i ≡ j.gives (Some inn.definition)
        named = founded.allowed.returns i n at (kind_there t limits j sees founded.expressions i n at ∙ e)
            ∙ (λ k. scene.gives (founded.allowed.around i k).function) ∙ ap scene.gives inn.is ∙ founded.allowed.gives (Some inn.definition)

        is_result : IsResult (named_type t i)
        is_result = subst IsResult (sym named) inn.result

        result : exits.result ≡ cell_form t (slice_index_or t.named i 0)
        result = ap (λ (x : Exits). x.result) (exits_own kind.Return e refl) ∙ ap (result_of t j) inn.is ∙ ap (form_by t 0) (sym named) ∙ result_form t 0 (slice_index_or t.named i 0) (named_type t i) is_result

        badly : returns_badly (scene.gives (scene.around i).function) scene.at (slice_get n.parts 0) ≡ false
        badly = unbroken 39 n.first _ [] (holds kind.Return e)

        well : (o : Option ℕ) → slice_get (parts_at t i) 0 ≡ o → returns_badly (named_type t i) j.at o ≡ false
        well o is =
            (λ k. returns_badly (founded.allowed.returns i n at (kind_there t limits j sees founded.expressions i n at ∙ e) k) (sym founded.allowed.at k) (sym (sym (ap (λ x. slice_get (parts_if x) 0) at) ∙ is) k)) ∙ badly

        by : (parts_at t i ≡ []) ⊎ ((a : ℕ) × (parts_at t i ≡ a ∷ [])) → Good (node_op (parts_at t i) (work.Return (cell_form t (slice_index_or t.named i 0))))
        by (inl none) =
            (given.return_statements (p t limits j sees founded.expressions) t table (sees i) j.at founded.expressions.judged.columns i exits result is_result).0 none (well None (ap (λ ps. slice_get ps 0) none))
        by (inr one) =
            let is = ap (λ ps. slice_get ps 0) one.1 in
            let has_it = ap (λ k. has_condition k 0) e in
            let o = founded.laid.conditions i 0 one.0 has_it is in
            (given.return_statements (p t limits j sees founded.expressions) t table (sees i) j.at founded.expressions.judged.columns i exits result is_result).1 one.0 one.1 (well (Some one.0) is)
            (founded.expressions.judged.worth one.0 o.expression) (condition_used 0 one.0 (ap form_of e) o (founded.laid.conditions_run i 0 one.0 runs has_it is))

    -- ---- expression statements and declarations

    expression_good : kind_at t i ≡ kind.ExpressionStatement → Good (node_op (parts_at t i) work.Expression)
    expression_good e =
        given.expression_statements (p t limits j sees founded.expressions) t table (sees i) j.at founded.expressions.judged.columns i exits
        (λ k node is. let few = founded.laid.expressions i e in let within = slice_get_within (parts_at t i) k node is in let zero_is : k ≡ 0 = omega (arith, few, within) in
        has_any node (founded.laid.conditions_run i k node runs (ap (λ x. has_condition x k) e ∙ ap (has_condition kind.ExpressionStatement) zero_is) is))

    declaration_good : kind_at t i ≡ kind.Declaration → Good (node_op (declarators_of t i) work.Declaration)
    declaration_good e =
        given.declarations (p t limits j sees founded.expressions) t table (sees i) j.at founded.expressions.judged.columns i exits (λ k node is. has_any node (founded.laid.declarators_run i k node runs e is))

    declared_good : (declared : ℕ) → sees i declared ≡ true → Good (node_op [] (work.Declare declared))
    declared_good declared s = (given.declarators (p t limits j sees founded.expressions) table (sees i) exits declared s).0

    initialised_good : kind_at t i ≡ kind.InitDeclarator → Good (op_by t i kind.InitDeclarator)
    initialised_good e =
        let puts = slice_index_or t.plans i [] in
        let it = founded.declared.initialised i runs e in
        (given.declarators (p t limits j sees founded.expressions) table (sees i) exits (entity_of t (name_of t i)) it.sees_it).1 (map (λ put. put.node) puts) (map (line_of t) puts)
        (λ k node is. put_there k node (slice_get puts k) refl (sym (slice_get-map (λ (put : Put). put.node) puts k) ∙ is) (λ put there. has_any put.node (founded.laid.puts_run i k put runs e there)))
        it.lines it.take
      where
        put_there : (k node : ℕ) (o : Option Put) → slice_get (slice_index_or t.plans i []) k ≡ o → option_map (λ (put : Put). put.node) o ≡ Some node
            → ((put : Put) → slice_get (slice_index_or t.plans i []) k ≡ Some put → HasSort table put.node) → HasSort table node
        put_there k node None is e rest = absurd (cc e)
        put_there k node (Some put) is e rest = let same : put.node ≡ node = cc e in subst (HasSort table) same (rest put is)

    -- a declarator of a function declares no object
    function_good : Good (node_op [] work.Declaration)
    function_good = record { typed = record { gives = tt; parts = λ k node is. absurd (none k node is) }; demands = tt }
      where
        none : (k node : ℕ) → slice_get [] k ≡ Some node → ⊥
        none k node e = cc e

    -- ---- all kinds

    good : (k : Kind) → kind_at t i ≡ k → is_statement k ≡ true → Good (op_by t i k)
    good kind.Compound e s = block_good e
    good kind.ExpressionStatement e s = expression_good e
    good kind.If e s = if_good e
    good kind.Switch e s = switch_good e
    good kind.While e s = while_good e
    good kind.Do e s = do_good e
    good kind.For e s = for_good e
    good kind.Label e s = let l = founded.laid.labels i (ap is_labelled e) in
        label_good kind.Label e refl (label_exits (labels_of t j) (result_of t j) i (j.around i)) l.0 (ap (λ k. has_inner k l.0) (sym e) ∙ l.1.0) l.1.1
    good kind.Case e s = let l = founded.laid.labels i (ap is_labelled e) in
        label_good kind.Case e refl (case_exits (labels_of t j) (result_of t j) i (j.around i)) l.0 (ap (λ k. has_inner k l.0) (sym e) ∙ l.1.0) l.1.1
    good kind.Default e s = let l = founded.laid.labels i (ap is_labelled e) in
        label_good kind.Default e refl (default_exits (labels_of t j) (result_of t j) i (j.around i)) l.0 (ap (λ k. has_inner k l.0) (sym e) ∙ l.1.0) l.1.1
    good kind.Goto e s = goto_good e
    good kind.Break e s = break_good e
    good kind.Continue e s = continue_good e
    good kind.Return e s = return_good e
    good kind.Declaration e s = declaration_good e
    good kind.InitDeclarator e s = initialised_good e
    good kind.NameDeclarator e s = declared_good i (ap (sees i) (sym (founded.declared.names i e)) ∙ founded.declared.declarators i runs (ap is_declarator e))
    good kind.PointerDeclarator e s = declared_good (name_of t i) (founded.declared.declarators i runs (ap is_declarator e))
    good kind.GroupDeclarator e s = declared_good (name_of t i) (founded.declared.declarators i runs (ap is_declarator e))
    good kind.FunctionDeclarator e s = function_good
    good kind.ArrayDeclarator e s = declared_good (name_of t i) (founded.declared.declarators i runs (ap is_declarator e))
    good k e s = absurd (false≢true s)

pub nodes : NodesAreGood
nodes t limits j scene sees founded few i runs = by (is_expression (form_of (kind_at t i))) refl
  where
    by : (b : Bool) → is_expression (form_of (kind_at t i)) ≡ b
        → IsGood (p t limits j sees founded.expressions) (sorts t limits j sees founded.expressions) (sees i) (op_by t i (kind_at t i)) (sort_at (p t limits j sees founded.expressions) t j i)
    by true e =
        subst (IsGood (p t limits j sees founded.expressions) (sorts t limits j sees founded.expressions) (sees i) (op_by t i (kind_at t i)))
        (sym (ap (λ b. if b then expression_sort (p t limits j sees founded.expressions) t j i else statement (exits_at t j i)) e)) (expressions t limits j sees founded.expressions few i runs e)
    by false e =
        let there = founded.expressions.reached.there i runs in
        subst (IsGood (p t limits j sees founded.expressions) (sorts t limits j sees founded.expressions) (sees i) (op_by t i (kind_at t i)))
        (sym (plain_sort t limits j scene sees founded i e)) (good t limits j scene sees founded i there.0 there.1 runs (kind_at t i) refl (founded.laid.proper i runs e))
