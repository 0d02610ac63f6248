use Rattle.std.proofs.Common.{refl, sym, ap, ◌∙◌, arith, rules}
use Rattle.cr_syntax_machine.specs.Machine.{plain, opens, call, give, made, run_give, run_stop, run_take, run_deep, run_pass, run_bar, run_free, run_seen, run_unseen, run_yes, run_no, run_here, run_look, run_set, run_bring, run_call, run_fail, run_refuse}
use Rattle.cr_syntax_machine.specs.Machine as m
use Rattle.cr_syntax_machine.specs.MachineBody.{body}
use Rattle.std.proofs.Common.{[], ◌∷◌}
use Rattle.cr_exprs_descent.proofs.Loose.{placed_push, placed_behind, kept_row, kept_more}
use Rattle.cr_exprs_descent.proofs.Nodes.{tree_kept, keeps_all, keeps_none, below_empty, row_empty, row_more, is_row_more, of_row}
use Rattle.cr_exprs_descent.proofs.Runs.{exit, fails, stops, deep, no_memory, memory, finish, through, handed, shift, done_as, done_in, run_in, no_room}
use Rattle.std.specs.Prelude.{option_to_list}
use Rattle.cr_syntax.specs.Kept.{row_in}
use Rattle.cr_exprs_descent.specs.Source.{text_of}
use Rattle.cr_decls.specs.Programs.{labels_of}
use Rattle.cr_decls.proofs.Marked.{colon_stands, label_in, labelled_item, declaration_item, labelled_statement, plain_statement}
use Rattle.cr_decls.proofs.Steps.{step_shift, loop_row, loop_below, loop_kept}
use Rattle.cr_decls.proofs.statements.+statements.Goals as goal

pub statement-returns-then-stands_label-clause-reads : goal.statement-returns-then-stands_label-clause-reads
statement-returns-then-stands_label-clause-reads t c = through c.label.result (λ y h. label_in (labels_of c.args.labels) (sym c.stands_label.ensures.answer ∙ c.if-stands_label.true) h) c.label.ensures.reads

pub statement-returns-then-may_label-clause-reads : goal.statement-returns-then-may_label-clause-reads
statement-returns-then-may_label-clause-reads t c = through c.labelled.result (λ y h. labelled_statement c.args.labels (sym c.may_label.ensures ∙ c.if-may_label.true) (sym c.stands_label.ensures.answer ∙ c.if-stands_label.false) h) c.labelled.ensures.reads

pub statement-returns-in_err-bar_label-clause-reads : goal.statement-returns-in_err-bar_label-clause-reads
statement-returns-in_err-bar_label-clause-reads t c = exit c.from_residual.result _ c.from_residual.ensures.1 (stops c.in_err-bar_label.ensures.err (run_here (run_no (sym c.may_label.ensures ∙ c.if-may_label.false) (run_bar c.in_err-bar_label.ensures.stands))))

pub statement-returns-clause-reads : goal.statement-returns-clause-reads
statement-returns-clause-reads t c = through c.unlabelled.result (λ y h. plain_statement c.args.labels (sym c.may_label.ensures ∙ c.if-may_label.false) (sym c.stands_label.ensures.answer ∙ c.if-stands_label.false) c.in_ok-bar_label.ensures.ok h) c.unlabelled.ensures.reads

pub label-returns-then-not-may_mark-clause-reads : goal.label-returns-then-not-may_mark-clause-reads
label-returns-then-not-may_mark-clause-reads t c = record { is = stops (record { is = refl }) (run_no (sym c.may_mark.ensures ∙ c.if-not-may_mark.true) run_refuse) }

pub label-returns-in_err-room-clause-reads : goal.label-returns-in_err-room-clause-reads
label-returns-in_err-room-clause-reads t c = exit c.from_residual.result _ c.from_residual.ensures.1 (deep c.in_err-room.ensures.err (run_yes (sym c.may_mark.ensures ∙ c.if-not-may_mark.false) (run_deep (colon_stands (text_of c.args.source.now) c.args.start c.requires.label) (no_room c.in_err-room.ensures.full))))

pub label-returns-in_err-inner-clause-reads : goal.label-returns-in_err-inner-clause-reads
label-returns-in_err-inner-clause-reads t c = exit c.from_residual-in_err-inner.result _ c.from_residual-in_err-inner.ensures.1 (fails (c.in_err-inner.ensures.reads.is) (λ x k h. run_yes (sym c.may_mark.ensures ∙ c.if-not-may_mark.false) (run_take (colon_stands (text_of c.args.source.now) c.args.start c.requires.label) c.in_ok-room.ensures.ok (run_fail h))))

pub label-returns-clause-reads : goal.label-returns-clause-reads
label-returns-clause-reads t c = finish c.over.new.nodes c.over.result c.over.ensures.err c.over.ensures.next c.over.ensures.tree (run_yes (sym c.may_mark.ensures ∙ c.if-not-may_mark.false) (run_take (colon_stands (text_of c.args.source.now) c.args.start c.requires.label) c.in_ok-room.ensures.ok (run_call c.in_ok-inner.ensures.reads.is.run (run_here run_give))))

pub label-returns-clause-placed : goal.label-returns-clause-placed
label-returns-clause-placed t c = placed_push c.over.new.nodes [] (c.in_ok-inner.inner.node ∷ []) c.over.result c.over.ensures.ok c.over.ensures.next (omega (arith, c.in_ok-inner.ensures.placed.from)) c.in_ok-inner.ensures.placed.to c.in_ok-inner.ensures.placed.keeps (c.in_ok-inner.ensures.placed.kept)

pub labelled-returns-then-stands-clause-reads : goal.labelled-returns-then-stands-clause-reads
labelled-returns-then-stands-clause-reads t c = through c.case.result (λ y h. run_take (sym c.stands.ensures.answer ∙ c.if-stands.true) tt h) c.case.ensures.reads

pub labelled-returns-then-stands-2-clause-reads : goal.labelled-returns-then-stands-2-clause-reads
labelled-returns-then-stands-2-clause-reads t c = through c.default.result (λ y h. run_pass (sym c.stands.ensures.answer ∙ c.if-stands.false) (run_take (sym c.stands-2.ensures.answer ∙ c.if-stands-2.true) tt h)) c.default.ensures.reads

pub labelled-returns-clause-reads : goal.labelled-returns-clause-reads
labelled-returns-clause-reads t c = through c.unlabelled.result (λ y h. run_pass (sym c.stands.ensures.answer ∙ c.if-stands.false) (run_pass (sym c.stands-2.ensures.answer ∙ c.if-stands-2.false) h)) c.unlabelled.ensures.reads

pub case-returns-in_err-value-clause-reads : goal.case-returns-in_err-value-clause-reads
case-returns-in_err-value-clause-reads t c = exit c.from_residual.result _ c.from_residual.ensures.1 (fails (c.in_err-value.ensures.reads.is) (λ x k h. run_fail h))

pub case-returns-in_err-expect-clause-reads : goal.case-returns-in_err-expect-clause-reads
case-returns-in_err-expect-clause-reads t c = exit c.from_residual-in_err-expect.result _ c.from_residual-in_err-expect.ensures.1 (stops c.in_err-expect.ensures.err (run_call c.in_ok-value.ensures.reads.is.run (run_pass c.in_err-expect.ensures.other run_stop)))

pub case-returns-in_err-room-clause-reads : goal.case-returns-in_err-room-clause-reads
case-returns-in_err-room-clause-reads t c = exit c.from_residual-in_err-room.result _ c.from_residual-in_err-room.ensures.1 (deep c.in_err-room.ensures.err (run_call c.in_ok-value.ensures.reads.is.run (run_deep c.in_ok-expect.ensures.ok (no_room c.in_err-room.ensures.full))))

pub case-returns-in_err-inner-clause-reads : goal.case-returns-in_err-inner-clause-reads
case-returns-in_err-inner-clause-reads t c = exit c.from_residual-in_err-inner.result _ c.from_residual-in_err-inner.ensures.1 (fails (c.in_err-inner.ensures.reads.is) (λ x k h. run_call c.in_ok-value.ensures.reads.is.run (run_take c.in_ok-expect.ensures.ok c.in_ok-room.ensures.ok (run_fail h))))

pub case-returns-clause-reads : goal.case-returns-clause-reads
case-returns-clause-reads t c = finish c.pair.new.nodes c.pair.result c.pair.ensures.err c.pair.ensures.next c.pair.ensures.tree (run_call c.in_ok-value.ensures.reads.is.run (run_take c.in_ok-expect.ensures.ok c.in_ok-room.ensures.ok (run_call c.in_ok-inner.ensures.reads.is.run (run_here (done_as (let e0 = tree_kept _ _ c.in_ok-value.value.node c.in_ok-inner.ensures.placed.keeps (omega (arith, c.in_ok-value.ensures.placed.last)) in cc) run_give)))))

pub case-returns-clause-placed : goal.case-returns-clause-placed
case-returns-clause-placed t c = placed_push c.pair.new.nodes [] (c.in_ok-inner.inner.node ∷ c.in_ok-value.value.node ∷ []) c.pair.result c.pair.ensures.ok c.pair.ensures.next (omega (arith, c.in_ok-value.ensures.placed.from, c.in_ok-inner.ensures.placed.from)) c.in_ok-inner.ensures.placed.to (keeps_all _ _ _ c.in_ok-value.ensures.placed.keeps c.in_ok-inner.ensures.placed.keeps) (λ loose h. c.in_ok-inner.ensures.placed.kept _ (c.in_ok-value.ensures.placed.kept loose h))

pub default-returns-in_err-expect-clause-reads : goal.default-returns-in_err-expect-clause-reads
default-returns-in_err-expect-clause-reads t c = exit c.from_residual.result _ c.from_residual.ensures.1 (stops c.in_err-expect.ensures.err (run_pass c.in_err-expect.ensures.other run_stop))

pub default-returns-in_err-room-clause-reads : goal.default-returns-in_err-room-clause-reads
default-returns-in_err-room-clause-reads t c = exit c.from_residual-in_err-room.result _ c.from_residual-in_err-room.ensures.1 (deep c.in_err-room.ensures.err (run_deep c.in_ok-expect.ensures.ok (no_room c.in_err-room.ensures.full)))

pub default-returns-in_err-inner-clause-reads : goal.default-returns-in_err-inner-clause-reads
default-returns-in_err-inner-clause-reads t c = exit c.from_residual-in_err-inner.result _ c.from_residual-in_err-inner.ensures.1 (fails (c.in_err-inner.ensures.reads.is) (λ x k h. run_take c.in_ok-expect.ensures.ok c.in_ok-room.ensures.ok (run_fail h)))

pub default-returns-clause-reads : goal.default-returns-clause-reads
default-returns-clause-reads t c = finish c.over.new.nodes c.over.result c.over.ensures.err c.over.ensures.next c.over.ensures.tree (run_take c.in_ok-expect.ensures.ok c.in_ok-room.ensures.ok (run_call c.in_ok-inner.ensures.reads.is.run (run_here run_give)))

pub default-returns-clause-placed : goal.default-returns-clause-placed
default-returns-clause-placed t c = placed_push c.over.new.nodes [] (c.in_ok-inner.inner.node ∷ []) c.over.result c.over.ensures.ok c.over.ensures.next (omega (arith, c.in_ok-inner.ensures.placed.from)) c.in_ok-inner.ensures.placed.to c.in_ok-inner.ensures.placed.keeps (c.in_ok-inner.ensures.placed.kept)

pub unlabelled-returns-then-stands-clause-reads : goal.unlabelled-returns-then-stands-clause-reads
unlabelled-returns-then-stands-clause-reads t c = through c.compound.result (λ y h. run_seen (sym c.stands.ensures.answer ∙ c.if-stands.true) (handed y h)) c.compound.ensures.reads

pub unlabelled-returns-then-stands-2-clause-reads : goal.unlabelled-returns-then-stands-2-clause-reads
unlabelled-returns-then-stands-2-clause-reads t c = through c.if_rest.result (λ y h. run_unseen (sym c.stands.ensures.answer ∙ c.if-stands.false) (run_take (sym c.stands-2.ensures.answer ∙ c.if-stands-2.true) tt (handed y h))) c.if_rest.ensures.reads

pub unlabelled-returns-then-stands-3-clause-reads : goal.unlabelled-returns-then-stands-3-clause-reads
unlabelled-returns-then-stands-3-clause-reads t c = through c.switch_rest.result (λ y h. run_unseen (sym c.stands.ensures.answer ∙ c.if-stands.false) (run_pass (sym c.stands-2.ensures.answer ∙ c.if-stands-2.false) (run_take (sym c.stands-3.ensures.answer ∙ c.if-stands-3.true) tt (handed y h)))) c.switch_rest.ensures.reads

pub unlabelled-returns-then-stands-4-clause-reads : goal.unlabelled-returns-then-stands-4-clause-reads
unlabelled-returns-then-stands-4-clause-reads t c = through c.while_rest.result (λ y h. run_unseen (sym c.stands.ensures.answer ∙ c.if-stands.false) (run_pass (sym c.stands-2.ensures.answer ∙ c.if-stands-2.false) (run_pass (sym c.stands-3.ensures.answer ∙ c.if-stands-3.false) (run_take (sym c.stands-4.ensures.answer ∙ c.if-stands-4.true) tt (handed y h))))) c.while_rest.ensures.reads

pub unlabelled-returns-in_err-room-clause-reads : goal.unlabelled-returns-in_err-room-clause-reads
unlabelled-returns-in_err-room-clause-reads t c = exit c.from_residual.result _ c.from_residual.ensures.1 (deep c.in_err-room.ensures.err (run_unseen (sym c.stands.ensures.answer ∙ c.if-stands.false) (run_pass (sym c.stands-2.ensures.answer ∙ c.if-stands-2.false) (run_pass (sym c.stands-3.ensures.answer ∙ c.if-stands-3.false) (run_pass (sym c.stands-4.ensures.answer ∙ c.if-stands-4.false) (run_deep (sym c.stands-5.ensures.answer ∙ c.if-stands-5.true) (no_room c.in_err-room.ensures.full)))))))

pub unlabelled-returns-then-stands-5-clause-reads : goal.unlabelled-returns-then-stands-5-clause-reads
unlabelled-returns-then-stands-5-clause-reads t c = through c.do_rest.result (λ y h. run_unseen (sym c.stands.ensures.answer ∙ c.if-stands.false) (run_pass (sym c.stands-2.ensures.answer ∙ c.if-stands-2.false) (run_pass (sym c.stands-3.ensures.answer ∙ c.if-stands-3.false) (run_pass (sym c.stands-4.ensures.answer ∙ c.if-stands-4.false) (run_take (sym c.stands-5.ensures.answer ∙ c.if-stands-5.true) c.in_ok-room.ensures.ok (handed y h)))))) c.do_rest.ensures.reads

pub unlabelled-returns-then-stands-6-clause-reads : goal.unlabelled-returns-then-stands-6-clause-reads
unlabelled-returns-then-stands-6-clause-reads t c = through c.for_rest.result (λ y h. run_unseen (sym c.stands.ensures.answer ∙ c.if-stands.false) (run_pass (sym c.stands-2.ensures.answer ∙ c.if-stands-2.false) (run_pass (sym c.stands-3.ensures.answer ∙ c.if-stands-3.false) (run_pass (sym c.stands-4.ensures.answer ∙ c.if-stands-4.false) (run_pass (sym c.stands-5.ensures.answer ∙ c.if-stands-5.false) (run_take (sym c.stands-6.ensures.answer ∙ c.if-stands-6.true) tt (handed y h))))))) c.for_rest.ensures.reads

pub unlabelled-returns-clause-reads : goal.unlabelled-returns-clause-reads
unlabelled-returns-clause-reads t c = through c.simple.result (λ y h. run_unseen (sym c.stands.ensures.answer ∙ c.if-stands.false) (run_pass (sym c.stands-2.ensures.answer ∙ c.if-stands-2.false) (run_pass (sym c.stands-3.ensures.answer ∙ c.if-stands-3.false) (run_pass (sym c.stands-4.ensures.answer ∙ c.if-stands-4.false) (run_pass (sym c.stands-5.ensures.answer ∙ c.if-stands-5.false) (run_pass (sym c.stands-6.ensures.answer ∙ c.if-stands-6.false) (h))))))) c.simple.ensures.reads

pub block-returns-in_err-begin-clause-reads : goal.block-returns-in_err-begin-clause-reads
block-returns-in_err-begin-clause-reads t c = memory c.from_residual.result c.from_residual.ensures.1

pub block-returns-in_err-inner-clause-reads : goal.block-returns-in_err-inner-clause-reads
block-returns-in_err-inner-clause-reads t c = exit c.from_residual-in_err-inner.result _ c.from_residual-in_err-inner.ensures.1 (fails (c.in_err-inner.ensures.reads.is) (λ x k h. run_look (run_set (run_fail (run_in c.in_ok-begin.ensures h)))))

pub block-returns-clause-reads : goal.block-returns-clause-reads
block-returns-clause-reads t c = record { is = record { run = done_in c.drop_scope.ensures (run_look (run_set (run_call (run_in c.in_ok-begin.ensures c.in_ok-inner.ensures.reads.is.run) (run_look (run_set run_give))))) } }

pub if_rest-returns-in_err-test-clause-reads : goal.if_rest-returns-in_err-test-clause-reads
if_rest-returns-in_err-test-clause-reads t c = exit c.from_residual.result _ c.from_residual.ensures.1 (fails (c.in_err-test.ensures.reads _).is (λ x k h. h))

pub if_rest-returns-in_err-yes-clause-reads : goal.if_rest-returns-in_err-yes-clause-reads
if_rest-returns-in_err-yes-clause-reads t c = exit c.from_residual-in_err-yes.result _ c.from_residual-in_err-yes.ensures.1 (fails (c.in_err-yes.ensures.reads.is) (λ x k h. (c.in_ok-test.ensures.reads _).is.on _ (run_fail h)))

pub if_rest-returns-then-is_open-clause-reads : goal.if_rest-returns-then-is_open-clause-reads
if_rest-returns-then-is_open-clause-reads t c = finish c.without_else.new.nodes c.without_else.result c.without_else.ensures.err c.without_else.ensures.next c.without_else.ensures.tree (done_in c.without_else.ensures.scopes ((c.in_ok-test.ensures.reads _).is.on _ (run_call c.in_ok-yes.ensures.reads.is.run (run_yes (sym c.is_open.ensures ∙ c.if-is_open.true) (run_look (run_set (run_here (done_as (let e0 = tree_kept _ _ c.in_ok-test.test.node c.in_ok-yes.ensures.placed.keeps (omega (arith, c.in_ok-test.ensures.placed.last)) in cc) run_give))))))))

pub if_rest-returns-then-is_open-clause-placed : goal.if_rest-returns-then-is_open-clause-placed
if_rest-returns-then-is_open-clause-placed t c = placed_push c.without_else.new.nodes [] (c.in_ok-yes.yes.node ∷ c.in_ok-test.test.node ∷ []) c.without_else.result c.without_else.ensures.ok c.without_else.ensures.next (omega (arith, c.in_ok-test.ensures.placed.from, c.in_ok-yes.ensures.placed.from)) c.in_ok-yes.ensures.placed.to (keeps_all _ _ _ c.in_ok-test.ensures.placed.keeps c.in_ok-yes.ensures.placed.keeps) (λ loose h. c.in_ok-yes.ensures.placed.kept _ (c.in_ok-test.ensures.placed.kept loose h))

pub if_rest-returns-then-not-stands-clause-reads : goal.if_rest-returns-then-not-stands-clause-reads
if_rest-returns-then-not-stands-clause-reads t c = finish c.without_else-then-not-stands.new.nodes c.without_else-then-not-stands.result c.without_else-then-not-stands.ensures.err c.without_else-then-not-stands.ensures.next c.without_else-then-not-stands.ensures.tree (done_in c.without_else-then-not-stands.ensures.scopes ((c.in_ok-test.ensures.reads _).is.on _ (run_call c.in_ok-yes.ensures.reads.is.run (run_no (sym c.is_open.ensures ∙ c.if-is_open.false) (run_pass (sym c.stands.ensures.answer ∙ c.if-not-stands.true) (run_look (run_set (run_here (done_as (let e0 = tree_kept _ _ c.in_ok-test.test.node c.in_ok-yes.ensures.placed.keeps (omega (arith, c.in_ok-test.ensures.placed.last)) in cc) run_give)))))))))

pub if_rest-returns-then-not-stands-clause-placed : goal.if_rest-returns-then-not-stands-clause-placed
if_rest-returns-then-not-stands-clause-placed t c = placed_push c.without_else-then-not-stands.new.nodes [] (c.in_ok-yes.yes.node ∷ c.in_ok-test.test.node ∷ []) c.without_else-then-not-stands.result c.without_else-then-not-stands.ensures.ok c.without_else-then-not-stands.ensures.next (omega (arith, c.in_ok-test.ensures.placed.from, c.in_ok-yes.ensures.placed.from)) c.in_ok-yes.ensures.placed.to (keeps_all _ _ _ c.in_ok-test.ensures.placed.keeps c.in_ok-yes.ensures.placed.keeps) (λ loose h. c.in_ok-yes.ensures.placed.kept _ (c.in_ok-test.ensures.placed.kept loose h))

pub if_rest-returns-in_err-no-clause-reads : goal.if_rest-returns-in_err-no-clause-reads
if_rest-returns-in_err-no-clause-reads t c = exit c.from_residual-in_err-no.result _ c.from_residual-in_err-no.ensures.1 (fails (c.in_err-no.ensures.reads.is) (λ x k h. (c.in_ok-test.ensures.reads _).is.on _ (run_call c.in_ok-yes.ensures.reads.is.run (run_no (sym c.is_open.ensures ∙ c.if-is_open.false) (run_take (sym c.stands.ensures.answer ∙ c.if-not-stands.false) c.in_ok-test.ensures.room (run_fail h))))))

pub if_rest-returns-clause-reads : goal.if_rest-returns-clause-reads
if_rest-returns-clause-reads t c = finish c.triple.new.nodes c.triple.result c.triple.ensures.err c.triple.ensures.next c.triple.ensures.tree (done_in c.drop_scope.ensures ((c.in_ok-test.ensures.reads _).is.on _ (run_call c.in_ok-yes.ensures.reads.is.run (run_no (sym c.is_open.ensures ∙ c.if-is_open.false) (run_take (sym c.stands.ensures.answer ∙ c.if-not-stands.false) c.in_ok-test.ensures.room (run_call c.in_ok-no.ensures.reads.is.run (run_look (run_set (run_here (done_as (let e0 = tree_kept _ _ c.in_ok-test.test.node (keeps_all _ _ _ c.in_ok-yes.ensures.placed.keeps c.in_ok-no.ensures.placed.keeps) (omega (arith, c.in_ok-test.ensures.placed.last)) in let e1 = tree_kept _ _ c.in_ok-yes.yes.node c.in_ok-no.ensures.placed.keeps (omega (arith, c.in_ok-yes.ensures.placed.last)) in cc) run_give))))))))))

pub if_rest-returns-clause-placed : goal.if_rest-returns-clause-placed
if_rest-returns-clause-placed t c = placed_push c.triple.new.nodes [] (c.in_ok-no.no.node ∷ c.in_ok-yes.yes.node ∷ c.in_ok-test.test.node ∷ []) c.triple.result c.triple.ensures.ok c.triple.ensures.next (omega (arith, c.in_ok-test.ensures.placed.from, c.in_ok-yes.ensures.placed.from, c.in_ok-no.ensures.placed.from)) c.in_ok-no.ensures.placed.to (keeps_all _ _ _ (keeps_all _ _ _ c.in_ok-test.ensures.placed.keeps c.in_ok-yes.ensures.placed.keeps) c.in_ok-no.ensures.placed.keeps) (λ loose h. c.in_ok-no.ensures.placed.kept _ (c.in_ok-yes.ensures.placed.kept _ (c.in_ok-test.ensures.placed.kept loose h)))

pub switch_rest-returns-in_err-test-clause-reads : goal.switch_rest-returns-in_err-test-clause-reads
switch_rest-returns-in_err-test-clause-reads t c = exit c.from_residual.result _ c.from_residual.ensures.1 (fails (c.in_err-test.ensures.reads _).is (λ x k h. h))

pub switch_rest-returns-in_err-bar_body_label-clause-reads : goal.switch_rest-returns-in_err-bar_body_label-clause-reads
switch_rest-returns-in_err-bar_body_label-clause-reads t c = exit c.from_residual-in_err-bar_body_label.result _ c.from_residual-in_err-bar_body_label.ensures.1 (stops c.in_err-bar_body_label.ensures.err ((c.in_ok-test.ensures.reads _).is.on _ (run_bar (c.in_err-bar_body_label.ensures.stands c.args.scopes.now))))

pub switch_rest-returns-in_err-bar_statement-clause-reads : goal.switch_rest-returns-in_err-bar_statement-clause-reads
switch_rest-returns-in_err-bar_statement-clause-reads t c = exit c.from_residual-in_err-bar_statement.result _ c.from_residual-in_err-bar_statement.ensures.1 (stops c.in_err-bar_statement.ensures.err ((c.in_ok-test.ensures.reads _).is.on _ (run_free (c.in_ok-bar_body_label.ensures.ok c.args.scopes.now) (run_bar c.in_err-bar_statement.ensures.stands))))

pub switch_rest-returns-in_err-begin-clause-reads : goal.switch_rest-returns-in_err-begin-clause-reads
switch_rest-returns-in_err-begin-clause-reads t c = memory c.from_residual-in_err-begin.result c.from_residual-in_err-begin.ensures.1

pub switch_rest-returns-in_err-inner-clause-reads : goal.switch_rest-returns-in_err-inner-clause-reads
switch_rest-returns-in_err-inner-clause-reads t c = exit c.from_residual-in_err-inner.result _ c.from_residual-in_err-inner.ensures.1 (fails (c.in_err-inner.ensures.reads.is) (λ x k h. (c.in_ok-test.ensures.reads _).is.on _ (run_free (c.in_ok-bar_body_label.ensures.ok c.args.scopes.now) (run_free c.in_ok-bar_statement.ensures.ok (run_look (run_set (run_fail (run_in c.in_ok-begin.ensures h))))))))

pub switch_rest-returns-clause-reads : goal.switch_rest-returns-clause-reads
switch_rest-returns-clause-reads t c = finish c.pair.new.nodes c.pair.result c.pair.ensures.err c.pair.ensures.next c.pair.ensures.tree (done_in (c.drop_scope-2.ensures ∙ ap m.around c.drop_scope.ensures) ((c.in_ok-test.ensures.reads _).is.on _ (run_free (c.in_ok-bar_body_label.ensures.ok c.args.scopes.now) (run_free c.in_ok-bar_statement.ensures.ok (run_look (run_set (run_call (run_in c.in_ok-begin.ensures c.in_ok-inner.ensures.reads.is.run) (run_look (run_set (run_look (run_set (run_here (done_as (let e0 = tree_kept _ _ c.in_ok-test.test.node c.in_ok-inner.ensures.placed.keeps (omega (arith, c.in_ok-test.ensures.placed.last)) in cc) run_give)))))))))))))

pub switch_rest-returns-clause-placed : goal.switch_rest-returns-clause-placed
switch_rest-returns-clause-placed t c = placed_push c.pair.new.nodes [] (c.in_ok-inner.inner.node ∷ c.in_ok-test.test.node ∷ []) c.pair.result c.pair.ensures.ok c.pair.ensures.next (omega (arith, c.in_ok-test.ensures.placed.from, c.in_ok-inner.ensures.placed.from)) c.in_ok-inner.ensures.placed.to (keeps_all _ _ _ c.in_ok-test.ensures.placed.keeps c.in_ok-inner.ensures.placed.keeps) (λ loose h. c.in_ok-inner.ensures.placed.kept _ (c.in_ok-test.ensures.placed.kept loose h))

pub while_rest-returns-in_err-test-clause-reads : goal.while_rest-returns-in_err-test-clause-reads
while_rest-returns-in_err-test-clause-reads t c = exit c.from_residual.result _ c.from_residual.ensures.1 (fails (c.in_err-test.ensures.reads _).is (λ x k h. h))

pub while_rest-returns-in_err-inner-clause-reads : goal.while_rest-returns-in_err-inner-clause-reads
while_rest-returns-in_err-inner-clause-reads t c = exit c.from_residual-in_err-inner.result _ c.from_residual-in_err-inner.ensures.1 (fails (c.in_err-inner.ensures.reads.is) (λ x k h. (c.in_ok-test.ensures.reads _).is.on _ (run_fail h)))

pub while_rest-returns-clause-reads : goal.while_rest-returns-clause-reads
while_rest-returns-clause-reads t c = finish c.pair.new.nodes c.pair.result c.pair.ensures.err c.pair.ensures.next c.pair.ensures.tree (done_in c.drop_scope.ensures ((c.in_ok-test.ensures.reads _).is.on _ (run_call c.in_ok-inner.ensures.reads.is.run (run_look (run_set (run_here (done_as (let e0 = tree_kept _ _ c.in_ok-test.test.node c.in_ok-inner.ensures.placed.keeps (omega (arith, c.in_ok-test.ensures.placed.last)) in cc) run_give)))))))

pub while_rest-returns-clause-placed : goal.while_rest-returns-clause-placed
while_rest-returns-clause-placed t c = placed_push c.pair.new.nodes [] (c.in_ok-inner.inner.node ∷ c.in_ok-test.test.node ∷ []) c.pair.result c.pair.ensures.ok c.pair.ensures.next (omega (arith, c.in_ok-test.ensures.placed.from, c.in_ok-inner.ensures.placed.from)) c.in_ok-inner.ensures.placed.to (keeps_all _ _ _ c.in_ok-test.ensures.placed.keeps c.in_ok-inner.ensures.placed.keeps) (λ loose h. c.in_ok-inner.ensures.placed.kept _ (c.in_ok-test.ensures.placed.kept loose h))

pub do_rest-returns-in_err-begin-clause-reads : goal.do_rest-returns-in_err-begin-clause-reads
do_rest-returns-in_err-begin-clause-reads t c = memory c.from_residual.result c.from_residual.ensures.1

pub do_rest-returns-in_err-inner-clause-reads : goal.do_rest-returns-in_err-inner-clause-reads
do_rest-returns-in_err-inner-clause-reads t c = exit c.from_residual-in_err-inner.result _ c.from_residual-in_err-inner.ensures.1 (fails (c.in_err-inner.ensures.reads.is) (λ x k h. run_look (run_set (run_fail (run_in c.in_ok-begin.ensures h)))))

pub do_rest-returns-in_err-expect-clause-reads : goal.do_rest-returns-in_err-expect-clause-reads
do_rest-returns-in_err-expect-clause-reads t c = exit c.from_residual-in_err-expect.result _ c.from_residual-in_err-expect.ensures.1 (stops c.in_err-expect.ensures.err (run_look (run_set (run_call (run_in c.in_ok-begin.ensures c.in_ok-inner.ensures.reads.is.run) (run_pass c.in_err-expect.ensures.other run_stop)))))

pub do_rest-returns-in_err-test-clause-reads : goal.do_rest-returns-in_err-test-clause-reads
do_rest-returns-in_err-test-clause-reads t c = exit c.from_residual-in_err-test.result _ c.from_residual-in_err-test.ensures.1 (fails (c.in_err-test.ensures.reads _).is (λ x k h. run_look (run_set (run_call (run_in c.in_ok-begin.ensures c.in_ok-inner.ensures.reads.is.run) (run_take c.in_ok-expect.ensures.ok tt h)))))

pub do_rest-returns-clause-reads : goal.do_rest-returns-clause-reads
do_rest-returns-clause-reads t c = finish c.pair.new.nodes c.pair.result c.pair.ensures.err c.pair.ensures.next c.pair.ensures.tree (done_in c.drop_scope.ensures (run_look (run_set (run_call (run_in c.in_ok-begin.ensures c.in_ok-inner.ensures.reads.is.run) (run_take c.in_ok-expect.ensures.ok tt ((c.in_ok-test.ensures.reads _).is.on _ (run_look (run_set (run_here (done_as (let e0 = tree_kept _ _ c.in_ok-inner.inner.node c.in_ok-test.ensures.placed.keeps (omega (arith, c.in_ok-inner.ensures.placed.last)) in cc) run_give))))))))))

pub do_rest-returns-clause-placed : goal.do_rest-returns-clause-placed
do_rest-returns-clause-placed t c = placed_push c.pair.new.nodes [] (c.in_ok-test.test.node ∷ c.in_ok-inner.inner.node ∷ []) c.pair.result c.pair.ensures.ok c.pair.ensures.next (omega (arith, c.in_ok-inner.ensures.placed.from, c.in_ok-test.ensures.placed.from)) c.in_ok-test.ensures.placed.to (keeps_all _ _ _ c.in_ok-inner.ensures.placed.keeps c.in_ok-test.ensures.placed.keeps) (λ loose h. c.in_ok-test.ensures.placed.kept _ (c.in_ok-inner.ensures.placed.kept loose h))

pub for_rest-returns-in_err-begin-clause-reads : goal.for_rest-returns-in_err-begin-clause-reads
for_rest-returns-in_err-begin-clause-reads t c = memory c.from_residual.result c.from_residual.ensures.1

pub for_rest-returns-in_err-expect-clause-reads : goal.for_rest-returns-in_err-expect-clause-reads
for_rest-returns-in_err-expect-clause-reads t c = exit c.from_residual-in_err-expect.result _ c.from_residual-in_err-expect.ensures.1 (stops c.in_err-expect.ensures.err (run_look (run_set (run_pass c.in_err-expect.ensures.other run_stop))))

pub for_rest-returns-in_err-room-clause-reads : goal.for_rest-returns-in_err-room-clause-reads
for_rest-returns-in_err-room-clause-reads t c = exit c.from_residual-in_err-room.result _ c.from_residual-in_err-room.ensures.1 (deep c.in_err-room.ensures.err (run_look (run_set (run_deep c.in_ok-expect.ensures.ok (no_room c.in_err-room.ensures.full)))))

pub for_rest-returns-in_err-first-clause-reads : goal.for_rest-returns-in_err-first-clause-reads
for_rest-returns-in_err-first-clause-reads t c = exit c.from_residual-in_err-first.result _ c.from_residual-in_err-first.ensures.1 (fails (c.in_err-first.ensures.reads (λ t. call (m.for_clauses m.nowhere c.args.depth c.args.start t) give)).is (λ x k h. run_look (run_set (run_take c.in_ok-expect.ensures.ok c.in_ok-room.ensures.ok (run_in c.in_ok-begin.ensures h)))))

pub for_rest-returns-clause-reads : goal.for_rest-returns-clause-reads
for_rest-returns-clause-reads t c = through c.for_clauses.result (λ y h. run_look (run_set (run_take c.in_ok-expect.ensures.ok c.in_ok-room.ensures.ok (run_in c.in_ok-begin.ensures ((c.in_ok-first.ensures.reads (λ t. call (m.for_clauses m.nowhere c.args.depth c.args.start t) give)).is.on y (handed y h)))))) c.for_clauses.ensures.reads

pub for_rest-returns-clause-placed : goal.for_rest-returns-clause-placed
for_rest-returns-clause-placed t c = placed_behind c.args.start c.for_clauses.new.nodes [] (option_to_list c.in_ok-first.first.node) c.for_clauses.result c.for_clauses.ensures.placed c.in_ok-first.ensures.placed.keeps c.in_ok-first.ensures.placed.kept

pub for_clauses-returns-in_err-test-clause-reads : goal.for_clauses-returns-in_err-test-clause-reads
for_clauses-returns-in_err-test-clause-reads t c = exit c.from_residual.result _ c.from_residual.ensures.1 (fails (c.in_err-test.ensures.reads.is) (λ x k h. run_fail h))

pub for_clauses-returns-in_err-step-clause-reads : goal.for_clauses-returns-in_err-step-clause-reads
for_clauses-returns-in_err-step-clause-reads t c = exit c.from_residual-in_err-step.result _ c.from_residual-in_err-step.ensures.1 (fails (c.in_err-step.ensures.reads _ _).is (λ x k h. run_call c.in_ok-test.ensures.reads.is.run h))

pub for_clauses-returns-in_err-inner-clause-reads : goal.for_clauses-returns-in_err-inner-clause-reads
for_clauses-returns-in_err-inner-clause-reads t c = exit c.from_residual-in_err-inner.result _ c.from_residual-in_err-inner.ensures.1 (fails (c.in_err-inner.ensures.reads.is) (λ x k h. run_call c.in_ok-test.ensures.reads.is.run ((c.in_ok-step.ensures.reads _ _).is.on _ (step_shift c.args.depth c.args.start (row_in c.args.nodes.now (option_to_list c.args.first.node)) (row_in c.clause.new.nodes (option_to_list c.in_ok-test.test.node)) c.last_clause.new.nodes c.in_ok-step.step.node (run_fail h)))))

pub for_clauses-returns-in_err-parts-clause-reads : goal.for_clauses-returns-in_err-parts-clause-reads
for_clauses-returns-in_err-parts-clause-reads t c = exit c.from_residual-in_err-parts.result _ c.from_residual-in_err-parts.ensures.1 (no_memory c.in_err-parts.ensures.err)

pub for_clauses-returns-clause-reads : goal.for_clauses-returns-clause-reads
for_clauses-returns-clause-reads t c = finish c.push.new.nodes c.push.result c.push.ensures.err c.push.ensures.next c.push.ensures.tree (done_in c.drop_scope.ensures (run_call c.in_ok-test.ensures.reads.is.run ((c.in_ok-step.ensures.reads _ _).is.on _ (step_shift c.args.depth c.args.start (row_in c.args.nodes.now (option_to_list c.args.first.node)) (row_in c.clause.new.nodes (option_to_list c.in_ok-test.test.node)) c.last_clause.new.nodes c.in_ok-step.step.node (run_call c.in_ok-inner.ensures.reads.is.run (run_look (run_set (run_here (done_as (of_row (loop_row _ _ _ _ _ _ _ _ _ (keeps_all _ _ _ c.in_ok-test.ensures.placed.keeps (keeps_all _ _ _ c.in_ok-step.ensures.placed.keeps c.in_ok-inner.ensures.placed.keeps)) (keeps_all _ _ _ c.in_ok-step.ensures.placed.keeps c.in_ok-inner.ensures.placed.keeps) c.in_ok-inner.ensures.placed.keeps c.requires.node c.in_ok-test.ensures.placed.row c.in_ok-step.ensures.placed.row c.in_ok-parts.ensures.ok)) run_give)))))))))

pub for_clauses-returns-clause-placed : goal.for_clauses-returns-clause-placed
for_clauses-returns-clause-placed t c = placed_push c.push.new.nodes (option_to_list c.args.first.node) _ c.push.result c.push.ensures.ok c.push.ensures.next (omega (arith, c.requires.start, c.in_ok-test.ensures.placed.from, c.in_ok-step.ensures.placed.from, c.in_ok-inner.ensures.placed.from)) c.in_ok-inner.ensures.placed.to (keeps_all _ _ _ c.in_ok-test.ensures.placed.keeps (keeps_all _ _ _ c.in_ok-step.ensures.placed.keeps c.in_ok-inner.ensures.placed.keeps)) (λ loose h. loop_kept _ _ c.args.first.node c.in_ok-test.test.node c.in_ok-step.step.node _ c.in_ok-inner.inner.node loose c.in_ok-parts.ensures.ok (c.in_ok-inner.ensures.placed.kept _ (c.in_ok-step.ensures.placed.kept _ (c.in_ok-test.ensures.placed.kept _ h))))

pub for_clauses-push-requires-clause-parts : goal.for_clauses-push-requires-clause-parts
for_clauses-push-requires-clause-parts t c = loop_below _ _ _ _ _ _ c.requires.node c.in_ok-test.ensures.placed.row c.in_ok-step.ensures.placed.row (omega (arith, c.in_ok-test.ensures.placed.keeps.longer, c.in_ok-step.ensures.placed.keeps.longer, c.in_ok-inner.ensures.placed.keeps.longer)) (omega (arith, c.in_ok-step.ensures.placed.keeps.longer, c.in_ok-inner.ensures.placed.keeps.longer)) c.in_ok-inner.ensures.placed.keeps.longer (omega (arith, c.in_ok-inner.ensures.placed.last)) c.in_ok-parts.ensures.ok

pub compound-returns-in_err-begin-clause-reads : goal.compound-returns-in_err-begin-clause-reads
compound-returns-in_err-begin-clause-reads t c = memory c.from_residual.result c.from_residual.ensures.1

pub compound-returns-in_err-expect-clause-reads : goal.compound-returns-in_err-expect-clause-reads
compound-returns-in_err-expect-clause-reads t c = exit c.from_residual-in_err-expect.result _ c.from_residual-in_err-expect.ensures.1 (stops c.in_err-expect.ensures.err (run_here (run_look (run_set (run_pass c.in_err-expect.ensures.other run_stop)))))

pub compound-returns-in_err-room-clause-reads : goal.compound-returns-in_err-room-clause-reads
compound-returns-in_err-room-clause-reads t c = exit c.from_residual-in_err-room.result _ c.from_residual-in_err-room.ensures.1 (deep c.in_err-room.ensures.err (run_here (run_look (run_set (run_deep c.in_ok-expect.ensures.ok (no_room c.in_err-room.ensures.full))))))

pub compound-returns-in_err-inner-clause-reads : goal.compound-returns-in_err-inner-clause-reads
compound-returns-in_err-inner-clause-reads t c = exit c.from_residual-in_err-inner.result _ c.from_residual-in_err-inner.ensures.1 (fails (c.in_err-inner.ensures.reads.is) (λ x k h. run_here (run_look (run_set (run_take c.in_ok-expect.ensures.ok c.in_ok-room.ensures.ok (run_fail (run_in c.in_ok-begin.ensures h)))))))

pub compound-returns-clause-reads : goal.compound-returns-clause-reads
compound-returns-clause-reads t c = record { is = record { run = done_in c.drop_scope.ensures (run_here (run_look (run_set (run_take c.in_ok-expect.ensures.ok c.in_ok-room.ensures.ok (run_call (run_in c.in_ok-begin.ensures c.in_ok-inner.ensures.reads.is.run) (run_look (run_set run_give))))))) } }

pub items-items-init : goal.items-items-init
items-items-init t c = record { goes = record { on = λ y r. shift (λ u. body (m.items (labels_of c.args.labels) c.args.depth c.args.start u)) (row_empty _ _ c.new-parts.ensures) refl r }; keeps = keeps_none _; below = c.requires.below; kept = λ loose h. kept_row _ _ _ _ loose c.new-parts.ensures h; parts = below_empty _ _ c.new-parts.ensures; from = omega arith; to = omega arith }

pub items-returns-then-stands-clause-reads : goal.items-returns-then-stands-clause-reads
items-returns-then-stands-clause-reads t c = finish c.push.new.nodes c.push.result c.push.ensures.err c.push.ensures.next c.push.ensures.tree (c.items.invariant.goes.on _ (run_take (sym c.stands.ensures.answer ∙ c.if-stands.true) tt (run_here run_give)))

pub items-returns-then-stands-clause-placed : goal.items-returns-then-stands-clause-placed
items-returns-then-stands-clause-placed t c = placed_push c.push.new.nodes [] _ c.push.result c.push.ensures.ok c.push.ensures.next (omega (arith, c.items.invariant.from)) (search rules) c.items.invariant.keeps (c.items.invariant.kept)

pub items-returns-in_err-one-clause-reads : goal.items-returns-in_err-one-clause-reads
items-returns-in_err-one-clause-reads t c = exit c.from_residual.result _ c.from_residual.ensures.1 (fails (c.in_err-one.ensures.reads.is) (λ x k h. c.items.invariant.goes.on _ (run_pass (sym c.stands.ensures.answer ∙ c.if-stands.false) (run_fail h))))

pub items-returns-in_err-push-clause-reads : goal.items-returns-in_err-push-clause-reads
items-returns-in_err-push-clause-reads t c = memory c.from_residual-in_err-push.result c.from_residual-in_err-push.ensures.1

pub items-items-preserved : goal.items-items-preserved
items-items-preserved t c = record { goes = record { on = λ y r. c.items.invariant.goes.on y (run_pass (sym c.stands.ensures.answer ∙ c.if-stands.false) (run_call c.in_ok-one.ensures.reads.is.run (handed y (shift (λ u. body (m.items (labels_of c.args.labels) c.args.depth c.args.start u)) (row_more _ _ _ _ _ c.in_ok-one.ensures.placed.keeps c.items.invariant.parts c.in_ok-push.ensures.ok) refl r)))) }; keeps = keeps_all _ _ _ c.items.invariant.keeps c.in_ok-one.ensures.placed.keeps; below = c.in_ok-one.ensures.placed.below; kept = λ loose h. kept_more _ _ _ _ _ loose c.in_ok-push.ensures.ok (c.in_ok-one.ensures.placed.kept _ (c.items.invariant.kept loose h)); parts = (is_row_more _ _ _ _ _ c.items.invariant.parts c.in_ok-one.ensures.placed.keeps.longer c.in_ok-one.ensures.placed.last c.in_ok-push.ensures.ok).below; from = omega (arith, c.items.invariant.from, c.in_ok-one.ensures.placed.from); to = c.in_ok-one.ensures.placed.to }

pub item-returns-then-stands_label-clause-reads : goal.item-returns-then-stands_label-clause-reads
item-returns-then-stands_label-clause-reads t c = through c.label.result (λ y h. labelled_item (labels_of c.args.labels) (sym c.stands_label.ensures.answer ∙ c.if-stands_label.true) h) c.label.ensures.reads

pub item-returns-then-starts_specifier-clause-reads : goal.item-returns-then-starts_specifier-clause-reads
item-returns-then-starts_specifier-clause-reads t c = through c.declaration.result (λ y h. declaration_item (labels_of c.args.labels) (sym c.starts_specifier.ensures ∙ c.if-starts_specifier.true) (sym c.stands_label.ensures.answer ∙ c.if-stands_label.false) h) c.declaration.ensures.reads

pub item-returns-clause-reads : goal.item-returns-clause-reads
item-returns-clause-reads t c = through c.statement.result (λ y h. run_unseen (sym c.starts_specifier.ensures ∙ c.if-starts_specifier.false) (handed y h)) c.statement.ensures.reads
