-- Which operand comes next, by how many answers there are.
use Rattle.std.proofs.Common.{◌≡◌, ◌≢◌, ℕ, suc, ◌<◌, ◌≤◌, ◌+◌, Bool, true, false, Option, Some, None, List, [], ◌∷◌, length, slice_get, refl, sym, ◌∙◌, ap, subst, arith}
use Rattle.std.proofs.lemmas.Bool.{true≢false, false≢true}
use Rattle.cr_meaning.specs.World.{Program, World, Answer, part}
use Rattle.cr_meaning.specs.Values.{truth_of}
use Rattle.cr_meaning.specs.Turns.{Way, Ready, operand, choose, in_turn, answer_truth, and_next, or_next, conditional_next, body_next, next_by}
use Rattle.cr_meaning.specs.Nodes.{expression}
use Rattle.cr_meaning.specs.Meaning.{join_by}
use Rattle.cr_meaning.specs.declared.op.Form.{Form}
use Rattle.cr_meaning.specs.declared.op.Op.{Op}
use Rattle.cr_meaning.specs.declared.op.Callee.{Callee}
use Rattle.cr_meaning.specs.declared.op.Callee.TheVariants.{Function}
use Rattle.cr_meaning.specs.declared.op.Work.{Work}
use Rattle.cr_meaning.specs.declared.op.Work.TheVariants as work
use Rattle.cr_eval_join.specs.declared.part.Part.{Part}
use Rattle.cr_eval_join.specs.Parts.{IsPartOf, ArePartsOf}
use Rattle.cr_eval_join.specs.Turns.{is_expression, AreAnswers, body_of, manner_of, turned}

-- ---- parts and their answers

pub same_count : (parts : List Part) (answers : List Answer) → ArePartsOf parts answers → length answers ≡ length parts
same_count [] [] h = refl
same_count [] (answer ∷ answers) h = absurd h
same_count (given ∷ parts) [] h = absurd h
same_count (given ∷ parts) (answer ∷ answers) h = ap suc (same_count parts answers h.1)

value_truth : (given : Part) (answer : Answer) → IsPartOf given answer → answer_truth answer ≡ truth_of given.value
value_truth given (part value events) h = ap truth_of (sym h.0)
value_truth given other h = absurd h

some_is : {A : Type 0} {a b : A} → Some a ≡ Some b → a ≡ b
some_is e = cc

pub truth_at : (parts : List Part) (answer : Answer) (given : Part) → ArePartsOf parts (answer ∷ []) → Some given ≡ slice_get parts 0
    → answer_truth answer ≡ truth_of given.value
truth_at [] answer given h e = absurd h
truth_at (first ∷ parts) answer given h e = value_truth first answer h.0 ∙ ap (λ (g : Part). truth_of g.value) (sym (some_is e))

some_differs : {A : Type 0} (a : A) → None ≡ Some a → ⊥
some_differs a e = cc

pub no_truth : (parts : List Part) (answer : Answer) (o : Option Bool) → ArePartsOf parts (answer ∷ []) → ◌≡◌ {A = Option Part} None (slice_get parts 0)
    → answer_truth answer ≡ o
no_truth [] answer o h e = absurd h
no_truth (first ∷ parts) answer o h e = absurd (some_differs first e)

pub are_answers : (parts : List Part) (answers : List Answer) (count : ℕ) (truth : Option Bool) → ArePartsOf parts answers → count ≡ length parts
    → ((answer : Answer) → ArePartsOf parts (answer ∷ []) → answer_truth answer ≡ truth) → AreAnswers answers count truth
are_answers parts answers count truth are e told = record {
  count_is = same_count parts answers are ∙ sym e;
  truth_is = λ answer one. let P : List Answer → Type 0 = λ all. ArePartsOf parts all in told answer (subst P one are);
}

-- ---- by the number of answers

pub and_at_one : (parts : List ℕ) (answers : List Answer) (count : ℕ) (truth : Option Bool) → AreAnswers answers count truth → count ≡ 1
    → and_next parts answers ≡ choose truth (operand (slice_get parts 1)) Ready
and_at_one parts [] count truth h e = absurd (omega (arith, h.count_is, e))
and_at_one parts (answer ∷ []) count truth h e = ap (λ (t : Option Bool). choose t (operand (slice_get parts 1)) Ready) (h.truth_is answer refl)
and_at_one parts (answer ∷ (more ∷ answers)) count truth h e = absurd (omega (arith, h.count_is, e))

pub and_at_others : (parts : List ℕ) (answers : List Answer) (count : ℕ) (truth : Option Bool) → AreAnswers answers count truth → (count ≡ 1 → ⊥)
    → and_next parts answers ≡ operand (slice_get parts count)
and_at_others parts [] count truth h ne = ap (λ (n : ℕ). operand (slice_get parts n)) h.count_is
and_at_others parts (answer ∷ []) count truth h ne = absurd (ne (sym h.count_is))
and_at_others parts (answer ∷ (more ∷ answers)) count truth h ne = ap (λ (n : ℕ). operand (slice_get parts n)) h.count_is

pub or_at_one : (parts : List ℕ) (answers : List Answer) (count : ℕ) (truth : Option Bool) → AreAnswers answers count truth → count ≡ 1
    → or_next parts answers ≡ choose truth Ready (operand (slice_get parts 1))
or_at_one parts [] count truth h e = absurd (omega (arith, h.count_is, e))
or_at_one parts (answer ∷ []) count truth h e = ap (λ (t : Option Bool). choose t Ready (operand (slice_get parts 1))) (h.truth_is answer refl)
or_at_one parts (answer ∷ (more ∷ answers)) count truth h e = absurd (omega (arith, h.count_is, e))

pub or_at_others : (parts : List ℕ) (answers : List Answer) (count : ℕ) (truth : Option Bool) → AreAnswers answers count truth → (count ≡ 1 → ⊥)
    → or_next parts answers ≡ operand (slice_get parts count)
or_at_others parts [] count truth h ne = ap (λ (n : ℕ). operand (slice_get parts n)) h.count_is
or_at_others parts (answer ∷ []) count truth h ne = absurd (ne (sym h.count_is))
or_at_others parts (answer ∷ (more ∷ answers)) count truth h ne = ap (λ (n : ℕ). operand (slice_get parts n)) h.count_is

pub conditional_at_none : (parts : List ℕ) (answers : List Answer) (count : ℕ) (truth : Option Bool) → AreAnswers answers count truth → count ≡ 0
    → conditional_next parts answers ≡ operand (slice_get parts 0)
conditional_at_none parts [] count truth h e = refl
conditional_at_none parts (answer ∷ answers) count truth h e = absurd (omega (arith, h.count_is, e))

pub conditional_at_one : (parts : List ℕ) (answers : List Answer) (count : ℕ) (truth : Option Bool) → AreAnswers answers count truth → count ≡ 1
    → conditional_next parts answers ≡ choose truth (operand (slice_get parts 1)) (operand (slice_get parts 2))
conditional_at_one parts [] count truth h e = absurd (omega (arith, h.count_is, e))
conditional_at_one parts (answer ∷ []) count truth h e =
    ap (λ (t : Option Bool). choose t (operand (slice_get parts 1)) (operand (slice_get parts 2))) (h.truth_is answer refl)
conditional_at_one parts (answer ∷ (more ∷ answers)) count truth h e = absurd (omega (arith, h.count_is, e))

pub conditional_at_more : (parts : List ℕ) (answers : List Answer) (count : ℕ) (truth : Option Bool) → AreAnswers answers count truth
    → (count ≡ 0 → ⊥) → (count ≡ 1 → ⊥) → conditional_next parts answers ≡ Ready
conditional_at_more parts [] count truth h nz ne = absurd (nz (sym h.count_is))
conditional_at_more parts (answer ∷ []) count truth h nz ne = absurd (ne (sym h.count_is))
conditional_at_more parts (answer ∷ (more ∷ answers)) count truth h nz ne = refl

pub turn_at : (parts : List ℕ) (answers : List Answer) (count : ℕ) (truth : Option Bool) → AreAnswers answers count truth
    → in_turn parts answers ≡ operand (slice_get parts count)
turn_at parts answers count truth h = ap (λ (n : ℕ). operand (slice_get parts n)) h.count_is

-- ---- by the node's work

pub body_by : (w : Work) (parts : List ℕ) (answers : List Answer) (body : ℕ) → body_of w ≡ Some body → next_by w parts answers ≡ body_next parts body answers
body_by (work.Call (Function parameters b is_main)) parts answers body h = ap (λ (n : ℕ). body_next parts n answers) (some_is h)
body_by (work.Call callee) parts answers body h = absurd (some_differs body h)
body_by w parts answers body h = absurd (some_differs body h)

pub turned_by : (w : Work) (parts : List ℕ) (answers : List Answer) → body_of w ≡ None → is_expression w ≡ true
    → next_by w parts answers ≡ turned (manner_of w) parts answers
turned_by (work.Call (Function parameters b is_main)) parts answers h e = absurd (some_differs b (sym h))
turned_by work.If parts answers h e = absurd (false≢true e)
turned_by work.While parts answers h e = absurd (false≢true e)
turned_by work.Do parts answers h e = absurd (false≢true e)
turned_by (work.For objects first control step body) parts answers h e = absurd (false≢true e)
turned_by (work.Switch kind body objects cases other labels) parts answers h e = absurd (false≢true e)
turned_by (work.Block objects labels) parts answers h e = absurd (false≢true e)
turned_by (work.Program objects parameters strings body) parts answers h e = absurd (false≢true e)
turned_by w parts answers h e = refl

-- ---- the work of an expression's node

pub expression_joins : (p : Program) (node : ℕ) (op : Op) (w : Work) (done : List Answer) (world : World) → is_expression w ≡ true
    → ((callee : Callee) → w ≡ work.Call callee → ⊥) → join_by p node op w done world ≡ expression p node op done world
expression_joins p node op (work.Call callee) done world h call = absurd (call callee refl)
expression_joins p node op work.Expression done world h call = absurd (false≢true h)
expression_joins p node op work.If done world h call = absurd (false≢true h)
expression_joins p node op work.While done world h call = absurd (false≢true h)
expression_joins p node op work.Do done world h call = absurd (false≢true h)
expression_joins p node op (work.For objects first control step body) done world h call = absurd (false≢true h)
expression_joins p node op (work.Switch kind body objects cases other labels) done world h call = absurd (false≢true h)
expression_joins p node op (work.Block objects labels) done world h call = absurd (false≢true h)
expression_joins p node op work.Labelled done world h call = absurd (false≢true h)
expression_joins p node op work.Break done world h call = absurd (false≢true h)
expression_joins p node op work.Continue done world h call = absurd (false≢true h)
expression_joins p node op (work.Goto label) done world h call = absurd (false≢true h)
expression_joins p node op (work.Return form) done world h call = absurd (false≢true h)
expression_joins p node op work.Declaration done world h call = absurd (false≢true h)
expression_joins p node op (work.Declare declared) done world h call = absurd (false≢true h)
expression_joins p node op (work.Initialise declared lines) done world h call = absurd (false≢true h)
expression_joins p node op (work.Program objects parameters strings body) done world h call = absurd (false≢true h)
expression_joins p node op w done world h call = refl
