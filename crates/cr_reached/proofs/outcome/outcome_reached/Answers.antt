use Rattle.std.proofs.Common.{◌≡◌, subst, sym}
use Rattle.std.specs.Prelude.{Bool, List}
use Rattle.cr_meaning.specs.World.{Program}
use Rattle.cr_meaning_loose.specs.Lists.{around}
use Rattle.cr_meaning_operations.specs.Operations.{program_of}
use Rattle.cr_eval.specs.Table.{program_of as program_in}
use Rattle.cr_exec_outcome.proofs.Same.{means_the_same, same_program}
use Rattle.cr_order.specs.Orders.{outer_of}
use Rattle.cr_reached.specs.Evaluated.{IsRunMarked}
use Rattle.cr_reached.specs.Own.{IsWhole}
use Rattle.cr_reached.specs.Reached.{IsJudgedIf}
use Rattle.cr_reached.proofs.Labelled.{tells_by}
use Rattle.cr_reached.proofs.outcome.outcome_reached.Goals as goal

pub is_reached-requires : goal.is_reached-requires
is_reached-requires g c = c.requires.typed.spans

pub returns-in-Some-clause-comes : goal.returns-in-Some-clause-comes
returns-in-Some-clause-comes g c = λ come.
    means_the_same (program_in c.in-Ok.table) (program_of c.args.typed.now c.args.limits) c.run_reached-run.result.0 c.in-Ok.ensures (c.run_reached-run.ensures.meant come)

pub returns-in-Some-clause-judged : goal.returns-in-Some-clause-judged
returns-in-Some-clause-judged g c = λ come.
    let F : Program → Type 0 = λ p. IsJudgedIf c.args.any_order p (around (outer_of c.args.typed.now)) c.run_reached-run.result.0 c.run_reached-run.result.1 in
    subst F (same_program (program_in c.in-Ok.table) (program_of c.args.typed.now c.args.limits) c.in-Ok.ensures) (c.run_reached-run.ensures.judged come)

pub returns-in-Some-clause-tells : goal.returns-in-Some-clause-tells
returns-in-Some-clause-tells g c = λ come.
    let began = c.run_reached-run.result.2.items in
    let same = same_program (program_in c.in-Ok.table) (program_of c.args.typed.now c.args.limits) c.in-Ok.ensures in
    let F : Program → Type 0 = λ p. IsRunMarked p c.run_reached-run.result.0 began in
    tells_by c.args.limits c.args.name.now c.args.typed.now c.run_reached-run.result.0 began c.in-Some.reached (subst F same (c.run_reached-run.ensures.marked come))
    (λ yes.
    let it = c.in-Some.ensures.some yes in
    let G : List Bool → Type 0 = λ column. IsWhole (program_in c.in-Ok.table) column it.0 in
    (it.0, it.1, subst (λ p. IsWhole p began it.0) same (subst G c.as_slice.ensures.value it.2)))
    (λ no label named whole.
    let G : List Bool → Type 0 = λ column. IsWhole (program_in c.in-Ok.table) column label in
    c.in-Some.ensures.none no label named (subst G (sym c.as_slice.ensures.value) (subst (λ p. IsWhole p began label) (sym same) whole)))
