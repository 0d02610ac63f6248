-- Operands in the order of their parts.
use Rattle.std.proofs.Common.{◌≡◌, refl, sym, ◌∙◌, ap, subst, arith, length-append}
use Rattle.std.proofs.lemmas.Bool.{false≢true, ne_eqb}
use Rattle.std.specs.Prelude.{ℕ, ◌+◌, ◌==◌, Bool, true, false, Some, List, [], ◌∷◌, ◌++◌, length, slice_get, if◌then◌else◌}
use Rattle.cr_meaning.specs.World.{Program, Answer}
use Rattle.cr_meaning.specs.Meaning.{operands as Operands, body, with_part, on_way, at_op}
use Rattle.cr_meaning.specs.Turns.{Operand, Enter, operand, next_by}
use Rattle.cr_meaning.specs.declared.op.Work.{Work}
use Rattle.cr_meaning.specs.declared.op.Work.TheVariants as work
use Rattle.cr_meaning.specs.declared.op.Callee.TheVariants.{Function}
use Rattle.cr_meaning.specs.declared.op.Op.{Op}
use Rattle.cr_meaning_orders.specs.AnyOrder.{is_free}

pub at_length : (before parts : List ℕ) (part : ℕ) → slice_get (before ++ part ∷ parts) (length before) ≡ Some part
at_length [] parts part = refl
at_length (x ∷ before) parts part = at_length before parts part

not_all : (before parts : List ℕ) (part : ℕ) → (length before == length (before ++ part ∷ parts)) ≡ false
not_all before parts part = ne_eqb (length before) (length (before ++ part ∷ parts)) (λ same. absurd (omega (arith, same, length-append before (part ∷ parts))))

way_free : (w : Work) (all : List ℕ) (done : List Answer) (part : ℕ) → is_free w ≡ true → slice_get all (length done) ≡ Some part → (length done == length all) ≡ false → next_by w all done ≡ Operand part
way_free (work.Call (Function parameters rest is_main)) all done part f e n =
    ap (λ b. if b then Enter rest else operand (slice_get all (length done))) n ∙ ap (λ o. operand o) e
way_free (work.Call callee) all done part f e n = ap (λ o. operand o) e
way_free (work.Binary change) all done part f e n = ap (λ o. operand o) e
way_free (work.Compare relation kind) all done part f e n = ap (λ o. operand o) e
way_free (work.ComparePointers relation) all done part f e n = ap (λ o. operand o) e
way_free (work.Distance count) all done part f e n = ap (λ o. operand o) e
way_free (work.Subscript count) all done part f e n = ap (λ o. operand o) e
way_free (work.Assign form) all done part f e n = ap (λ o. operand o) e
way_free (work.Update change form volatile post) all done part f e n = ap (λ o. operand o) e
way_free (work.Initialise declared lines) all done part f e n = ap (λ o. operand o) e
way_free w all done part f e n = absurd (false≢true f)

-- a node asks for its next part
pub asks_part : (p : Program) (number : ℕ) (op : Op) (done : List Answer) (before parts : List ℕ) (part : ℕ) → slice_get p.ops number ≡ Some op → is_free op.work ≡ true → op.parts ≡ before ++ part ∷ parts → length done ≡ length before
    → body p (Operands number done) ≡ with_part number part done
unfolding body
asks_part p number op done before parts part e free all count =
    let F : List ℕ → Type 0 = λ x. slice_get x (length done) ≡ Some part in
    let G : List ℕ → Type 0 = λ x. (length done == length x) ≡ false in
    let at : slice_get op.parts (length done) ≡ Some part = subst F (sym all) (ap (λ n. slice_get (before ++ part ∷ parts) n) count ∙ at_length before parts part) in
    let less : (length done == length op.parts) ≡ false = subst G (sym all) (ap (λ n. n == length (before ++ part ∷ parts)) count ∙ not_all before parts part) in
    ap (λ o. at_op p number done o) e ∙ ap (λ w. on_way p number op done w) (way_free op.work op.parts done part free at less)
