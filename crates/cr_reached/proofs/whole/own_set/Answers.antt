use Rattle.std.proofs.Common.{ap, drop, subst, sym, take, true, ◌++◌, ◌∙◌}
use Rattle.cr_reached.specs.Own.{AreAllSet, given, own_by, own_of}
use Rattle.cr_reached.proofs.Wholes.{none_set, on_same, own_other}
use Rattle.cr_reached.proofs.whole.own_set.Goals as goal

pub returns-in-If : goal.returns-in-If
returns-in-If c =
    let parts = c.args.op.now.parts in
    on_same c.args.column.now (take 1 c.as_slice-parts.result.now) (own_of c.args.op.now) c.first_set.result (ap (take 1) c.as_slice-parts.ensures ∙ sym (ap (λ w. own_by w parts) c.in-If.is)) c.first_set.ensures

pub returns-in-While : goal.returns-in-While
returns-in-While c =
    let parts = c.args.op.now.parts in
    on_same c.args.column.now (take 1 c.as_slice-parts.result.now) (own_of c.args.op.now) c.first_set-in-While.result (ap (take 1) c.as_slice-parts.ensures ∙ sym (ap (λ w. own_by w parts) c.in-While.is)) c.first_set-in-While.ensures

pub returns-in-Switch : goal.returns-in-Switch
returns-in-Switch c =
    let parts = c.args.op.now.parts in
    on_same c.args.column.now (take 1 c.as_slice-parts.result.now) (own_of c.args.op.now) c.first_set-in-Switch.result (ap (take 1) c.as_slice-parts.ensures ∙ sym (ap (λ w. own_by w parts) c.in-Switch.is)) c.first_set-in-Switch.ensures

pub returns-in-Do : goal.returns-in-Do
returns-in-Do c =
    let parts = c.args.op.now.parts in
    on_same c.args.column.now (drop 1 c.as_slice-parts.result.now) (own_of c.args.op.now) c.rest_set.result (ap (drop 1) c.as_slice-parts.ensures ∙ sym (ap (λ w. own_by w parts) c.in-Do.is)) c.rest_set.ensures

pub returns-in-For : goal.returns-in-For
returns-in-For c =
    let parts = c.args.op.now.parts in
    on_same c.args.column.now (given c.in-For.first ++ given c.in-For.control) (own_of c.args.op.now) c.clauses_set.result (sym (ap (λ w. own_by w parts) c.in-For.is)) c.clauses_set.ensures

pub returns-in-Block : goal.returns-in-Block
returns-in-Block c = subst (λ l. AreAllSet c.args.column.now l true) (sym (ap (λ w. own_by w c.args.op.now.parts) c.in-Block.is)) (none_set c.args.column.now)

pub returns-in_default : goal.returns-in_default
returns-in_default c =
    let op = c.args.op.now in
    on_same c.args.column.now c.as_slice-parts.result.now (own_of op) c.are_all_set.result
    (c.as_slice-parts.ensures
    ∙ own_other op.work op.parts c.in_default.not-If c.in_default.not-While c.in_default.not-Switch c.in_default.not-Do c.in_default.not-For c.in_default.not-Block) c.are_all_set.ensures
