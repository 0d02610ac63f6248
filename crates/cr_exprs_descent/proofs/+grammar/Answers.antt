use Rattle.std.proofs.Common.{◌≡◌, ◌+◌, [], ◌∷◌, ◌++◌, refl, sym, ap, ◌∙◌, arith, rules, reverse}
use Rattle.std.specs.Prelude.{option_to_list}
use Rattle.cr_syntax.specs.declared.node.Kind.TheVariants as kind
use Rattle.cr_syntax.specs.Trees.{Trees, none, one, ◌&◌}
use Rattle.cr_syntax.specs.Kept.{row_in}
use Rattle.cr_syntax_machine.specs.Machine as m
use Rattle.cr_syntax_machine.specs.Machine.{plain, opens, give, choose, made, run_give, run_stop, run_take, run_deep, run_pass, run_bar, run_free, run_seen, run_unseen, run_yes, run_no, run_here, run_look, run_set, run_bring, run_call, run_fail}
use Rattle.cr_syntax_machine.specs.MachineBody.{body, assignment_operators, operators, unary_prefixes, cast_prefixes, constants, specifier_words, assigned, operated, prefixed, sized, suffixed, other_primary, other_element}
use Rattle.cr_exprs_descent.specs.Answers.{tree}
use Rattle.cr_exprs_descent.proofs.Nodes.{tree_kept, keeps_all, keeps_none, below_empty, row_empty, row_single, is_row_single, row_more, is_row_more, of_row}
use Rattle.cr_exprs_descent.proofs.Loose.{kept_row, kept_more, kept_behind, placed_push, placed_grown, placed_behind, placed_gathered, placed_regathered}
use Rattle.cr_exprs_descent.proofs.Runs.{exit, fails, stops, deep, no_memory, memory, finish, goes_on, through, handed, chosen_here, chosen_none, shift, done_as, done_in, run_in, no_room, tighter_some, tighter_none, more_shift, members_shift, points_on, own_scopes, kept_scopes, pointer_ends, parameter_ends}
use Rattle.cr_exprs_descent.proofs.+grammar.Goals as goal

pub expressions::expression-returns-in_err-left-clause-reads : goal.expressions::expression-returns-in_err-left-clause-reads
expressions::expression-returns-in_err-left-clause-reads t c = exit c.from_residual.result _ c.from_residual.ensures.1 (fails (c.in_err-left.ensures.reads.is) (λ x k h. run_here (run_fail h)))

pub expressions::expression-commas-init : goal.expressions::expression-commas-init
expressions::expression-commas-init t c = record { goes = record { on = λ y r. run_here (run_call c.in_ok-left.ensures.reads.is.run (handed y r)) }; placed = c.in_ok-left.ensures.placed }

pub expressions::expression-returns-in_err-right-clause-reads : goal.expressions::expression-returns-in_err-right-clause-reads
expressions::expression-returns-in_err-right-clause-reads t c = exit c.from_residual-in_err-right.result _ c.from_residual-in_err-right.ensures.1 (fails (c.in_err-right.ensures.reads.is) (λ x k h. c.commas.invariant.goes.on _ (run_take (sym c.stands.ensures.answer ∙ c.commas-test.true) tt (run_fail h))))

pub expressions::expression-returns-in_err-left-2-clause-reads : goal.expressions::expression-returns-in_err-left-2-clause-reads
expressions::expression-returns-in_err-left-2-clause-reads t c = exit c.from_residual-in_err-left-2.result _ c.from_residual-in_err-left-2.ensures.1 (no_memory c.in_err-left-2.ensures.err)

pub expressions::expression-commas-preserved : goal.expressions::expression-commas-preserved
expressions::expression-commas-preserved t c = record { goes = record { on = λ y r. c.commas.invariant.goes.on y (run_take (sym c.stands.ensures.answer ∙ c.commas-test.true) tt (run_call c.in_ok-right.ensures.reads.is.run (run_here (handed y (shift (λ u. body (m.commas c.args.depth c.args.at u)) (c.in_ok-left-2.ensures.tree ∙ ap (λ (x : Trees). one kind.Comma c.args.at c.in_ok-right.right.next (x & tree c.assignment-in-commas.new.nodes c.in_ok-right.right.node & none)) (tree_kept c.commas.nodes c.assignment-in-commas.new.nodes c.commas.left.node c.in_ok-right.ensures.placed.keeps (omega (arith, c.commas.invariant.placed.last)))) c.in_ok-left-2.ensures.next r))))) }; placed = record { last = omega (arith, c.in_ok-left-2.ensures.ok.last, c.in_ok-left-2.ensures.ok.grows); grows = omega (arith, c.commas.invariant.placed.grows, c.in_ok-right.ensures.placed.grows, c.in_ok-left-2.ensures.ok.grows); keeps = keeps_all _ _ _ (keeps_all _ _ _ c.commas.invariant.placed.keeps c.in_ok-right.ensures.placed.keeps) c.in_ok-left-2.ensures.ok.keeps; below = c.in_ok-left-2.ensures.ok.below; kept = λ loose h. c.in_ok-left-2.ensures.ok.kept _ (omega (arith, c.in_ok-right.ensures.placed.to, c.in_ok-left-2.ensures.next)) loose (c.in_ok-right.ensures.placed.kept _ (c.commas.invariant.placed.kept loose h)); from = omega (arith, c.commas.invariant.placed.from, c.in_ok-right.ensures.placed.from, c.in_ok-left-2.ensures.next); to = omega (arith, c.in_ok-right.ensures.placed.to, c.in_ok-left-2.ensures.next) } }

pub expressions::expression-returns-clause-reads : goal.expressions::expression-returns-clause-reads
expressions::expression-returns-clause-reads t c = record { is = record { run = c.commas.invariant.goes.on _ (run_pass (sym c.stands.ensures.answer ∙ c.commas-test.false) run_give) } }

pub expressions::binary-returns-in_err-left-clause-reads : goal.expressions::binary-returns-in_err-left-clause-reads
expressions::binary-returns-in_err-left-clause-reads t c = exit c.from_residual.result _ c.from_residual.ensures.1 (fails (c.in_err-left.ensures.reads.is) (λ x k h. run_here (run_fail h)))

pub expressions::binary-operands-init : goal.expressions::binary-operands-init
expressions::binary-operands-init t c = record { goes = record { on = λ y r. run_here (run_call c.in_ok-left.ensures.reads.is.run (handed y r)) }; placed = c.in_ok-left.ensures.placed }

pub expressions::binary-returns-in_err-right-clause-reads : goal.expressions::binary-returns-in_err-right-clause-reads
expressions::binary-returns-in_err-right-clause-reads t c = exit c.from_residual-in_err-right.result _ c.from_residual-in_err-right.ensures.1 (fails (c.in_err-right.ensures.reads.is) (λ x k h. c.operands.invariant.goes.on _ (chosen_here plain (operators c.args.part) c.args.depth (operated c.args.part c.args.depth c.args.at (tree c.operands.nodes c.operands.left.node)) (give (tree c.operands.nodes c.operands.left.node)) (sym c.in-Some.ensures.kind) (λ x' z w. run_take w tt (run_fail h)))))

pub expressions::binary-returns-in_err-left-2-clause-reads : goal.expressions::binary-returns-in_err-left-2-clause-reads
expressions::binary-returns-in_err-left-2-clause-reads t c = exit c.from_residual-in_err-left-2.result _ c.from_residual-in_err-left-2.ensures.1 (no_memory c.in_err-left-2.ensures.err)

pub expressions::binary-operands-preserved : goal.expressions::binary-operands-preserved
expressions::binary-operands-preserved t c = record { goes = record { on = λ y r. c.operands.invariant.goes.on y (chosen_here plain (operators c.args.part) c.args.depth (operated c.args.part c.args.depth c.args.at (tree c.operands.nodes c.operands.left.node)) (give (tree c.operands.nodes c.operands.left.node)) (sym c.in-Some.ensures.kind) (λ x' z w. run_take w tt (run_call c.in_ok-right.ensures.reads.is.run (run_here (handed y (shift (λ u. body (m.operands c.args.part c.args.depth c.args.at u)) (c.in_ok-left-2.ensures.tree ∙ ap (λ (x : Trees). one c.in-Some.kind c.args.at c.in_ok-right.right.next (x & tree c.operand-in-Some.new.nodes c.in_ok-right.right.node & none)) (tree_kept c.operands.nodes c.operand-in-Some.new.nodes c.operands.left.node c.in_ok-right.ensures.placed.keeps (omega (arith, c.operands.invariant.placed.last)))) c.in_ok-left-2.ensures.next r)))))) }; placed = record { last = omega (arith, c.in_ok-left-2.ensures.ok.last, c.in_ok-left-2.ensures.ok.grows); grows = omega (arith, c.operands.invariant.placed.grows, c.in_ok-right.ensures.placed.grows, c.in_ok-left-2.ensures.ok.grows); keeps = keeps_all _ _ _ (keeps_all _ _ _ c.operands.invariant.placed.keeps c.in_ok-right.ensures.placed.keeps) c.in_ok-left-2.ensures.ok.keeps; below = c.in_ok-left-2.ensures.ok.below; kept = λ loose h. c.in_ok-left-2.ensures.ok.kept _ (omega (arith, c.in_ok-right.ensures.placed.to, c.in_ok-left-2.ensures.next)) loose (c.in_ok-right.ensures.placed.kept _ (c.operands.invariant.placed.kept loose h)); from = omega (arith, c.operands.invariant.placed.from, c.in_ok-right.ensures.placed.from, c.in_ok-left-2.ensures.next); to = omega (arith, c.in_ok-right.ensures.placed.to, c.in_ok-left-2.ensures.next) } }

pub expressions::binary-returns-clause-reads : goal.expressions::binary-returns-clause-reads
expressions::binary-returns-clause-reads t c = record { is = record { run = c.operands.invariant.goes.on _ (chosen_none plain (operators c.args.part) c.args.depth (operated c.args.part c.args.depth c.args.at (tree c.operands.nodes c.operands.left.node)) (give (tree c.operands.nodes c.operands.left.node)) (sym c.in_default.ensures.kind) (run_give)) } }

pub expressions::operand-returns-in-Some-clause-reads : goal.expressions::operand-returns-in-Some-clause-reads
expressions::operand-returns-in-Some-clause-reads t c = tighter_some c.binary.new.nodes c.args.part c.in-Some.next c.args.depth c.in-Some.ensures.next c.binary.ensures.reads

pub expressions::operand-returns-in-None-clause-reads : goal.expressions::operand-returns-in-None-clause-reads
expressions::operand-returns-in-None-clause-reads t c = tighter_none c.cast.new.nodes c.args.part c.args.depth c.in-None.ensures.next c.cast.ensures.reads

pub expressions::assignment-returns-in_err-left-clause-reads : goal.expressions::assignment-returns-in_err-left-clause-reads
expressions::assignment-returns-in_err-left-clause-reads t c = exit c.from_residual.result _ c.from_residual.ensures.1 (fails (c.in_err-left.ensures.reads.is) (λ x k h. run_here (run_fail h)))

pub expressions::assignment-returns-then-not-is_unary-clause-reads : goal.expressions::assignment-returns-then-not-is_unary-clause-reads
expressions::assignment-returns-then-not-is_unary-clause-reads t c = record { is = record { run = run_here (run_call c.in_ok-left.ensures.reads.is.run (run_no (sym c.is_unary.ensures ∙ c.if-not-is_unary.true) run_give)) } }

pub expressions::assignment-returns-in_default-clause-reads : goal.expressions::assignment-returns-in_default-clause-reads
expressions::assignment-returns-in_default-clause-reads t c = record { is = record { run = run_here (run_call c.in_ok-left.ensures.reads.is.run (run_yes (sym c.is_unary.ensures ∙ c.if-not-is_unary.false) (chosen_none opens (assignment_operators) c.args.depth (assigned c.args.depth c.args.at (tree c.conditional.new.nodes c.in_ok-left.left.node)) (give (tree c.conditional.new.nodes c.in_ok-left.left.node)) (sym c.in_default.ensures.kind) (run_give)))) } }

pub expressions::assignment-returns-in_err-room-clause-reads : goal.expressions::assignment-returns-in_err-room-clause-reads
expressions::assignment-returns-in_err-room-clause-reads t c = exit c.from_residual-in_err-room.result _ c.from_residual-in_err-room.ensures.1 (deep c.in_err-room.ensures.err (run_here (run_call c.in_ok-left.ensures.reads.is.run (run_yes (sym c.is_unary.ensures ∙ c.if-not-is_unary.false) (chosen_here opens (assignment_operators) c.args.depth (assigned c.args.depth c.args.at (tree c.conditional.new.nodes c.in_ok-left.left.node)) (give (tree c.conditional.new.nodes c.in_ok-left.left.node)) (sym c.in-Some.ensures.kind) (λ x' z w. run_deep w (no_room c.in_err-room.ensures.full)))))))

pub expressions::assignment-returns-in_err-right-clause-reads : goal.expressions::assignment-returns-in_err-right-clause-reads
expressions::assignment-returns-in_err-right-clause-reads t c = exit c.from_residual-in_err-right.result _ c.from_residual-in_err-right.ensures.1 (fails (c.in_err-right.ensures.reads.is) (λ x k h. run_here (run_call c.in_ok-left.ensures.reads.is.run (run_yes (sym c.is_unary.ensures ∙ c.if-not-is_unary.false) (chosen_here opens (assignment_operators) c.args.depth (assigned c.args.depth c.args.at (tree c.conditional.new.nodes c.in_ok-left.left.node)) (give (tree c.conditional.new.nodes c.in_ok-left.left.node)) (sym c.in-Some.ensures.kind) (λ x' z w. run_take w c.in_ok-room.ensures.ok (run_fail h)))))))

pub expressions::assignment-returns-clause-reads : goal.expressions::assignment-returns-clause-reads
expressions::assignment-returns-clause-reads t c = finish c.pair.new.nodes c.pair.result c.pair.ensures.err c.pair.ensures.next c.pair.ensures.tree (run_here (run_call c.in_ok-left.ensures.reads.is.run (run_yes (sym c.is_unary.ensures ∙ c.if-not-is_unary.false) (chosen_here opens (assignment_operators) c.args.depth (assigned c.args.depth c.args.at (tree c.conditional.new.nodes c.in_ok-left.left.node)) (give (tree c.conditional.new.nodes c.in_ok-left.left.node)) (sym c.in-Some.ensures.kind) (λ x' z w. run_take w c.in_ok-room.ensures.ok (run_call c.in_ok-right.ensures.reads.is.run (run_here (done_as (let e = tree_kept _ _ c.in_ok-left.left.node c.in_ok-right.ensures.placed.keeps (omega (arith, c.in_ok-left.ensures.placed.last)) in cc) run_give))))))))

pub expressions::assignment-returns-clause-placed : goal.expressions::assignment-returns-clause-placed
expressions::assignment-returns-clause-placed t c = placed_push c.pair.new.nodes [] (c.in_ok-right.right.node ∷ c.in_ok-left.left.node ∷ []) c.pair.result c.pair.ensures.ok c.pair.ensures.next (omega (arith, c.in_ok-left.ensures.placed.from, c.in_ok-right.ensures.placed.from)) (omega (arith, c.in_ok-right.ensures.placed.to)) (keeps_all _ _ _ c.in_ok-left.ensures.placed.keeps c.in_ok-right.ensures.placed.keeps) (λ loose h. c.in_ok-right.ensures.placed.kept _ (c.in_ok-left.ensures.placed.kept loose h))

pub expressions::conditional-returns-in_err-test-clause-reads : goal.expressions::conditional-returns-in_err-test-clause-reads
expressions::conditional-returns-in_err-test-clause-reads t c = exit c.from_residual.result _ c.from_residual.ensures.1 (fails (c.in_err-test.ensures.reads.is) (λ x k h. run_here (run_fail h)))

pub expressions::conditional-returns-then-not-stands-clause-reads : goal.expressions::conditional-returns-then-not-stands-clause-reads
expressions::conditional-returns-then-not-stands-clause-reads t c = record { is = record { run = run_here (run_call c.in_ok-test.ensures.reads.is.run (run_pass (sym c.stands.ensures.answer ∙ c.if-not-stands.true) run_give)) } }

pub expressions::conditional-returns-in_err-room-clause-reads : goal.expressions::conditional-returns-in_err-room-clause-reads
expressions::conditional-returns-in_err-room-clause-reads t c = exit c.from_residual-in_err-room.result _ c.from_residual-in_err-room.ensures.1 (deep c.in_err-room.ensures.err (run_here (run_call c.in_ok-test.ensures.reads.is.run (run_deep (sym c.stands.ensures.answer ∙ c.if-not-stands.false) (no_room c.in_err-room.ensures.full)))))

pub expressions::conditional-returns-clause-reads : goal.expressions::conditional-returns-clause-reads
expressions::conditional-returns-clause-reads t c = through c.chosen.result (λ y h. run_here (run_call c.in_ok-test.ensures.reads.is.run (run_take (sym c.stands.ensures.answer ∙ c.if-not-stands.false) c.in_ok-room.ensures.ok h))) c.chosen.ensures.reads

pub expressions::conditional-returns-clause-placed : goal.expressions::conditional-returns-clause-placed
expressions::conditional-returns-clause-placed t c = placed_behind c.args.at c.chosen.new.nodes [] (c.in_ok-test.test.node ∷ []) c.chosen.result c.chosen.ensures.placed c.in_ok-test.ensures.placed.keeps c.in_ok-test.ensures.placed.kept

pub expressions::chosen-returns-in_err-yes-clause-reads : goal.expressions::chosen-returns-in_err-yes-clause-reads
expressions::chosen-returns-in_err-yes-clause-reads t c = exit c.from_residual.result _ c.from_residual.ensures.1 (fails (c.in_err-yes.ensures.reads.is) (λ x k h. run_fail h))

pub expressions::chosen-returns-in_err-expect-clause-reads : goal.expressions::chosen-returns-in_err-expect-clause-reads
expressions::chosen-returns-in_err-expect-clause-reads t c = exit c.from_residual-in_err-expect.result _ c.from_residual-in_err-expect.ensures.1 (stops c.in_err-expect.ensures.err (run_call c.in_ok-yes.ensures.reads.is.run (run_pass c.in_err-expect.ensures.other run_stop)))

pub expressions::chosen-returns-in_err-no-clause-reads : goal.expressions::chosen-returns-in_err-no-clause-reads
expressions::chosen-returns-in_err-no-clause-reads t c = exit c.from_residual-in_err-no.result _ c.from_residual-in_err-no.ensures.1 (fails (c.in_err-no.ensures.reads.is) (λ x k h. run_call c.in_ok-yes.ensures.reads.is.run (run_take c.in_ok-expect.ensures.ok (tt, c.requires.depth) (run_fail h))))

pub expressions::chosen-returns-clause-reads : goal.expressions::chosen-returns-clause-reads
expressions::chosen-returns-clause-reads t c = finish c.triple.new.nodes c.triple.result c.triple.ensures.err c.triple.ensures.next c.triple.ensures.tree (run_call c.in_ok-yes.ensures.reads.is.run (run_take c.in_ok-expect.ensures.ok (tt, c.requires.depth) (run_call c.in_ok-no.ensures.reads.is.run (run_here (done_as (let e = tree_kept _ _ c.args.test.node (keeps_all _ _ _ c.in_ok-yes.ensures.placed.keeps c.in_ok-no.ensures.placed.keeps) c.requires.node in let g = tree_kept _ _ c.in_ok-yes.yes.node c.in_ok-no.ensures.placed.keeps (omega (arith, c.in_ok-yes.ensures.placed.last)) in cc) run_give)))))

pub expressions::chosen-returns-clause-placed : goal.expressions::chosen-returns-clause-placed
expressions::chosen-returns-clause-placed t c = placed_push c.triple.new.nodes (c.args.test.node ∷ []) (c.in_ok-no.no.node ∷ c.in_ok-yes.yes.node ∷ c.args.test.node ∷ []) c.triple.result c.triple.ensures.ok c.triple.ensures.next (omega (arith, c.requires.start, c.in_ok-yes.ensures.placed.from, c.in_ok-no.ensures.placed.from)) (omega (arith, c.in_ok-no.ensures.placed.to)) (keeps_all _ _ _ c.in_ok-yes.ensures.placed.keeps c.in_ok-no.ensures.placed.keeps) (λ loose h. c.in_ok-no.ensures.placed.kept _ (c.in_ok-yes.ensures.placed.kept _ h))

pub expressions::cast-returns-then-not-stands-clause-reads : goal.expressions::cast-returns-then-not-stands-clause-reads
expressions::cast-returns-then-not-stands-clause-reads t c = through c.unary.result (λ y h. run_here (run_pass (sym c.stands.ensures.answer ∙ c.if-not-stands.true) (handed y h))) c.unary.ensures.reads

pub expressions::cast-returns-in_err-room-clause-reads : goal.expressions::cast-returns-in_err-room-clause-reads
expressions::cast-returns-in_err-room-clause-reads t c = exit c.from_residual.result _ c.from_residual.ensures.1 (deep c.in_err-room.ensures.err (run_here (run_deep (sym c.stands.ensures.answer ∙ c.if-not-stands.false) (no_room c.in_err-room.ensures.full))))

pub expressions::cast-returns-then-not-starts_plain-clause-reads : goal.expressions::cast-returns-then-not-starts_plain-clause-reads
expressions::cast-returns-then-not-starts_plain-clause-reads t c = through c.grouped.result (λ y h. run_here (run_take (sym c.stands.ensures.answer ∙ c.if-not-stands.false) c.in_ok-room.ensures.ok (run_unseen (sym c.starts_plain.ensures ∙ c.if-not-starts_plain.true) (handed y h)))) c.grouped.ensures.reads

pub expressions::converted-returns-in_err-to-clause-reads : goal.expressions::converted-returns-in_err-to-clause-reads
expressions::converted-returns-in_err-to-clause-reads t c = exit c.from_residual.result _ c.from_residual.ensures.1 (fails (c.in_err-to.ensures.reads.is) (λ x k h. run_here (run_take c.requires.bracket c.requires.depth (run_seen c.requires.starts (run_fail h)))))

pub expressions::converted-returns-in_err-expect-clause-reads : goal.expressions::converted-returns-in_err-expect-clause-reads
expressions::converted-returns-in_err-expect-clause-reads t c = exit c.from_residual-in_err-expect.result _ c.from_residual-in_err-expect.ensures.1 (stops c.in_err-expect.ensures.err (run_here (run_take c.requires.bracket c.requires.depth (run_seen c.requires.starts (run_call c.in_ok-to.ensures.reads.is.run (run_pass c.in_err-expect.ensures.other run_stop))))))

pub expressions::converted-returns-in_err-bar-clause-reads : goal.expressions::converted-returns-in_err-bar-clause-reads
expressions::converted-returns-in_err-bar-clause-reads t c = exit c.from_residual-in_err-bar.result _ c.from_residual-in_err-bar.ensures.1 (stops c.in_err-bar.ensures.err (run_here (run_take c.requires.bracket c.requires.depth (run_seen c.requires.starts (run_call c.in_ok-to.ensures.reads.is.run (run_take c.in_ok-expect.ensures.ok (tt, c.requires.depth) (run_bar c.in_err-bar.ensures.stands)))))))

pub expressions::converted-returns-in_err-from-clause-reads : goal.expressions::converted-returns-in_err-from-clause-reads
expressions::converted-returns-in_err-from-clause-reads t c = exit c.from_residual-in_err-from.result _ c.from_residual-in_err-from.ensures.1 (fails (c.in_err-from.ensures.reads.is) (λ x k h. run_here (run_take c.requires.bracket c.requires.depth (run_seen c.requires.starts (run_call c.in_ok-to.ensures.reads.is.run (run_take c.in_ok-expect.ensures.ok (tt, c.requires.depth) (run_free c.in_ok-bar.ensures.ok (run_fail h))))))))

pub expressions::converted-returns-clause-reads : goal.expressions::converted-returns-clause-reads
expressions::converted-returns-clause-reads t c = finish c.pair.new.nodes c.pair.result c.pair.ensures.err c.pair.ensures.next c.pair.ensures.tree (run_here (run_take c.requires.bracket c.requires.depth (run_seen c.requires.starts (run_call c.in_ok-to.ensures.reads.is.run (run_take c.in_ok-expect.ensures.ok (tt, c.requires.depth) (run_free c.in_ok-bar.ensures.ok (run_call c.in_ok-from.ensures.reads.is.run (run_here (done_as (let e = tree_kept _ _ c.in_ok-to.to.node c.in_ok-from.ensures.placed.keeps (omega (arith, c.in_ok-to.ensures.placed.last)) in cc) run_give)))))))))

pub expressions::converted-returns-clause-placed : goal.expressions::converted-returns-clause-placed
expressions::converted-returns-clause-placed t c = placed_push c.pair.new.nodes [] (c.in_ok-from.from.node ∷ c.in_ok-to.to.node ∷ []) c.pair.result c.pair.ensures.ok c.pair.ensures.next (omega (arith, c.in_ok-to.ensures.placed.from, c.in_ok-from.ensures.placed.from)) (omega (arith, c.in_ok-from.ensures.placed.to)) (keeps_all _ _ _ c.in_ok-to.ensures.placed.keeps c.in_ok-from.ensures.placed.keeps) (λ loose h. c.in_ok-from.ensures.placed.kept _ (c.in_ok-to.ensures.placed.kept loose h))

pub operands::unary-returns-then-not-stands-clause-reads : goal.operands::unary-returns-then-not-stands-clause-reads
operands::unary-returns-then-not-stands-clause-reads t c = through c.postfix.result (λ y h. run_here (chosen_none opens (unary_prefixes) c.args.depth (prefixed (m.unary (c.args.depth + 1)) c.args.at) (choose opens cast_prefixes c.args.depth (prefixed (m.cast (c.args.depth + 1)) c.args.at) (sized c.args.depth c.args.at)) (sym c.in_default.ensures.kind) (chosen_none opens (cast_prefixes) c.args.depth (prefixed (m.cast (c.args.depth + 1)) c.args.at) (sized c.args.depth c.args.at) (sym c.in_default-kind_in.ensures.kind) (run_pass (sym c.stands.ensures.answer ∙ c.if-not-stands.true) (handed y h))))) c.postfix.ensures.reads

pub operands::unary-returns-in_err-room-clause-reads : goal.operands::unary-returns-in_err-room-clause-reads
operands::unary-returns-in_err-room-clause-reads t c = exit c.from_residual.result _ c.from_residual.ensures.1 (deep c.in_err-room.ensures.err (run_here (chosen_none opens (unary_prefixes) c.args.depth (prefixed (m.unary (c.args.depth + 1)) c.args.at) (choose opens cast_prefixes c.args.depth (prefixed (m.cast (c.args.depth + 1)) c.args.at) (sized c.args.depth c.args.at)) (sym c.in_default.ensures.kind) (chosen_none opens (cast_prefixes) c.args.depth (prefixed (m.cast (c.args.depth + 1)) c.args.at) (sized c.args.depth c.args.at) (sym c.in_default-kind_in.ensures.kind) (run_deep (sym c.stands.ensures.answer ∙ c.if-not-stands.false) (no_room c.in_err-room.ensures.full))))))

pub operands::unary-returns-clause-reads : goal.operands::unary-returns-clause-reads
operands::unary-returns-clause-reads t c = through c.measured.result (λ y h. run_here (chosen_none opens (unary_prefixes) c.args.depth (prefixed (m.unary (c.args.depth + 1)) c.args.at) (choose opens cast_prefixes c.args.depth (prefixed (m.cast (c.args.depth + 1)) c.args.at) (sized c.args.depth c.args.at)) (sym c.in_default.ensures.kind) (chosen_none opens (cast_prefixes) c.args.depth (prefixed (m.cast (c.args.depth + 1)) c.args.at) (sized c.args.depth c.args.at) (sym c.in_default-kind_in.ensures.kind) (run_take (sym c.stands.ensures.answer ∙ c.if-not-stands.false) c.in_ok-room.ensures.ok (handed y h))))) c.measured.ensures.reads

pub operands::stepped-returns-in_err-room-clause-reads : goal.operands::stepped-returns-in_err-room-clause-reads
operands::stepped-returns-in_err-room-clause-reads t c = exit c.from_residual.result _ c.from_residual.ensures.1 (deep c.in_err-room.ensures.err (run_here (chosen_here opens (unary_prefixes) c.args.depth (prefixed (m.unary (c.args.depth + 1)) c.args.start) (choose opens cast_prefixes c.args.depth (prefixed (m.cast (c.args.depth + 1)) c.args.start) (sized c.args.depth c.args.start)) c.requires.kind (λ x' z w. run_deep w (no_room c.in_err-room.ensures.full)))))

pub operands::stepped-returns-in_err-operand-clause-reads : goal.operands::stepped-returns-in_err-operand-clause-reads
operands::stepped-returns-in_err-operand-clause-reads t c = exit c.from_residual-in_err-operand.result _ c.from_residual-in_err-operand.ensures.1 (fails (c.in_err-operand.ensures.reads.is) (λ x k h. run_here (chosen_here opens (unary_prefixes) c.args.depth (prefixed (m.unary (c.args.depth + 1)) c.args.start) (choose opens cast_prefixes c.args.depth (prefixed (m.cast (c.args.depth + 1)) c.args.start) (sized c.args.depth c.args.start)) c.requires.kind (λ x' z w. run_take w c.in_ok-room.ensures.ok (run_fail h)))))

pub operands::stepped-returns-clause-reads : goal.operands::stepped-returns-clause-reads
operands::stepped-returns-clause-reads t c = finish c.over.new.nodes c.over.result c.over.ensures.err c.over.ensures.next c.over.ensures.tree (run_here (chosen_here opens (unary_prefixes) c.args.depth (prefixed (m.unary (c.args.depth + 1)) c.args.start) (choose opens cast_prefixes c.args.depth (prefixed (m.cast (c.args.depth + 1)) c.args.start) (sized c.args.depth c.args.start)) c.requires.kind (λ x' z w. run_take w c.in_ok-room.ensures.ok (run_call c.in_ok-operand.ensures.reads.is.run (run_here run_give)))))

pub operands::stepped-returns-clause-placed : goal.operands::stepped-returns-clause-placed
operands::stepped-returns-clause-placed t c = placed_push c.over.new.nodes [] (c.in_ok-operand.operand.node ∷ []) c.over.result c.over.ensures.ok c.over.ensures.next (omega (arith, c.in_ok-operand.ensures.placed.from)) (omega (arith, c.in_ok-operand.ensures.placed.to)) c.in_ok-operand.ensures.placed.keeps c.in_ok-operand.ensures.placed.kept

pub operands::prefixed-returns-in_err-room-clause-reads : goal.operands::prefixed-returns-in_err-room-clause-reads
operands::prefixed-returns-in_err-room-clause-reads t c = exit c.from_residual.result _ c.from_residual.ensures.1 (deep c.in_err-room.ensures.err (run_here (chosen_none opens (unary_prefixes) c.args.depth (prefixed (m.unary (c.args.depth + 1)) c.args.start) (choose opens cast_prefixes c.args.depth (prefixed (m.cast (c.args.depth + 1)) c.args.start) (sized c.args.depth c.args.start)) c.requires.other (chosen_here opens (cast_prefixes) c.args.depth (prefixed (m.cast (c.args.depth + 1)) c.args.start) (sized c.args.depth c.args.start) c.requires.kind (λ x' z w. run_deep w (no_room c.in_err-room.ensures.full))))))

pub operands::prefixed-returns-in_err-operand-clause-reads : goal.operands::prefixed-returns-in_err-operand-clause-reads
operands::prefixed-returns-in_err-operand-clause-reads t c = exit c.from_residual-in_err-operand.result _ c.from_residual-in_err-operand.ensures.1 (fails (c.in_err-operand.ensures.reads.is) (λ x k h. run_here (chosen_none opens (unary_prefixes) c.args.depth (prefixed (m.unary (c.args.depth + 1)) c.args.start) (choose opens cast_prefixes c.args.depth (prefixed (m.cast (c.args.depth + 1)) c.args.start) (sized c.args.depth c.args.start)) c.requires.other (chosen_here opens (cast_prefixes) c.args.depth (prefixed (m.cast (c.args.depth + 1)) c.args.start) (sized c.args.depth c.args.start) c.requires.kind (λ x' z w. run_take w c.in_ok-room.ensures.ok (run_fail h))))))

pub operands::prefixed-returns-clause-reads : goal.operands::prefixed-returns-clause-reads
operands::prefixed-returns-clause-reads t c = finish c.over.new.nodes c.over.result c.over.ensures.err c.over.ensures.next c.over.ensures.tree (run_here (chosen_none opens (unary_prefixes) c.args.depth (prefixed (m.unary (c.args.depth + 1)) c.args.start) (choose opens cast_prefixes c.args.depth (prefixed (m.cast (c.args.depth + 1)) c.args.start) (sized c.args.depth c.args.start)) c.requires.other (chosen_here opens (cast_prefixes) c.args.depth (prefixed (m.cast (c.args.depth + 1)) c.args.start) (sized c.args.depth c.args.start) c.requires.kind (λ x' z w. run_take w c.in_ok-room.ensures.ok (run_call c.in_ok-operand.ensures.reads.is.run (run_here run_give))))))

pub operands::prefixed-returns-clause-placed : goal.operands::prefixed-returns-clause-placed
operands::prefixed-returns-clause-placed t c = placed_push c.over.new.nodes [] (c.in_ok-operand.operand.node ∷ []) c.over.result c.over.ensures.ok c.over.ensures.next (omega (arith, c.in_ok-operand.ensures.placed.from)) (omega (arith, c.in_ok-operand.ensures.placed.to)) c.in_ok-operand.ensures.placed.keeps c.in_ok-operand.ensures.placed.kept

pub operands::measured-returns-in_err-operand-clause-reads : goal.operands::measured-returns-in_err-operand-clause-reads
operands::measured-returns-in_err-operand-clause-reads t c = exit c.from_residual.result _ c.from_residual.ensures.1 (fails (c.in_err-operand.ensures.reads.is) (λ x k h. run_here (run_pass (sym c.stands.ensures.answer ∙ c.if-not-stands.true) (run_fail h))))

pub operands::measured-returns-then-not-stands-clause-reads : goal.operands::measured-returns-then-not-stands-clause-reads
operands::measured-returns-then-not-stands-clause-reads t c = finish c.sized.new.nodes c.sized.result c.sized.ensures.err c.sized.ensures.next c.sized.ensures.tree (run_here (run_pass (sym c.stands.ensures.answer ∙ c.if-not-stands.true) (run_call c.in_ok-operand.ensures.reads.is.run (run_here run_give))))

pub operands::measured-returns-then-not-stands-clause-placed : goal.operands::measured-returns-then-not-stands-clause-placed
operands::measured-returns-then-not-stands-clause-placed t c = placed_push c.sized.new.nodes [] (c.in_ok-operand.operand.node ∷ []) c.sized.result c.sized.ensures.ok c.sized.ensures.next (omega (arith, c.in_ok-operand.ensures.placed.from)) (omega (arith, c.in_ok-operand.ensures.placed.to)) c.in_ok-operand.ensures.placed.keeps c.in_ok-operand.ensures.placed.kept

pub operands::measured-returns-in_err-room-clause-reads : goal.operands::measured-returns-in_err-room-clause-reads
operands::measured-returns-in_err-room-clause-reads t c = exit c.from_residual-in_err-room.result _ c.from_residual-in_err-room.ensures.1 (deep c.in_err-room.ensures.err (run_here (run_deep (sym c.stands.ensures.answer ∙ c.if-not-stands.false) (no_room c.in_err-room.ensures.full))))

pub operands::measured-returns-in_err-operand-2-clause-reads : goal.operands::measured-returns-in_err-operand-2-clause-reads
operands::measured-returns-in_err-operand-2-clause-reads t c = exit c.from_residual-in_err-operand-2.result _ c.from_residual-in_err-operand-2.ensures.1 (fails (c.in_err-operand-2.ensures.reads.is) (λ x k h. run_here (run_take (sym c.stands.ensures.answer ∙ c.if-not-stands.false) c.in_ok-room.ensures.ok (run_unseen (sym c.starts_plain.ensures ∙ c.if-starts_plain.false) (run_fail h)))))

pub operands::measured-returns-clause-reads : goal.operands::measured-returns-clause-reads
operands::measured-returns-clause-reads t c = finish c.sized-2.new.nodes c.sized-2.result c.sized-2.ensures.err c.sized-2.ensures.next c.sized-2.ensures.tree (run_here (run_take (sym c.stands.ensures.answer ∙ c.if-not-stands.false) c.in_ok-room.ensures.ok (run_unseen (sym c.starts_plain.ensures ∙ c.if-starts_plain.false) (run_call c.in_ok-operand-2.ensures.reads.is.run (run_here run_give)))))

pub operands::measured-returns-clause-placed : goal.operands::measured-returns-clause-placed
operands::measured-returns-clause-placed t c = placed_push c.sized-2.new.nodes [] (c.in_ok-operand-2.operand.node ∷ []) c.sized-2.result c.sized-2.ensures.ok c.sized-2.ensures.next (omega (arith, c.in_ok-operand-2.ensures.placed.from)) (omega (arith, c.in_ok-operand-2.ensures.placed.to)) c.in_ok-operand-2.ensures.placed.keeps c.in_ok-operand-2.ensures.placed.kept

pub operands::measured_type-returns-in_err-named-clause-reads : goal.operands::measured_type-returns-in_err-named-clause-reads
operands::measured_type-returns-in_err-named-clause-reads t c = exit c.from_residual.result _ c.from_residual.ensures.1 (fails (c.in_err-named.ensures.reads.is) (λ x k h. run_here (run_take c.requires.bracket c.requires.depth (run_seen c.requires.starts (run_fail h)))))

pub operands::measured_type-returns-in_err-expect-clause-reads : goal.operands::measured_type-returns-in_err-expect-clause-reads
operands::measured_type-returns-in_err-expect-clause-reads t c = exit c.from_residual-in_err-expect.result _ c.from_residual-in_err-expect.ensures.1 (stops c.in_err-expect.ensures.err (run_here (run_take c.requires.bracket c.requires.depth (run_seen c.requires.starts (run_call c.in_ok-named.ensures.reads.is.run (run_pass c.in_err-expect.ensures.other run_stop))))))

pub operands::measured_type-returns-clause-reads : goal.operands::measured_type-returns-clause-reads
operands::measured_type-returns-clause-reads t c = finish c.over.new.nodes c.over.result c.over.ensures.err c.over.ensures.next c.over.ensures.tree (run_here (run_take c.requires.bracket c.requires.depth (run_seen c.requires.starts (run_call c.in_ok-named.ensures.reads.is.run (run_take c.in_ok-expect.ensures.ok tt (run_here run_give))))))

pub operands::measured_type-returns-clause-placed : goal.operands::measured_type-returns-clause-placed
operands::measured_type-returns-clause-placed t c = placed_push c.over.new.nodes [] (c.in_ok-named.named.node ∷ []) c.over.result c.over.ensures.ok c.over.ensures.next (omega (arith, c.in_ok-named.ensures.placed.from)) (omega (arith, c.in_ok-expect.ensures.inside)) c.in_ok-named.ensures.placed.keeps c.in_ok-named.ensures.placed.kept

pub operands::postfix-returns-then-is_ordinary-clause-reads : goal.operands::postfix-returns-then-is_ordinary-clause-reads
operands::postfix-returns-then-is_ordinary-clause-reads t c = through c.called.result (λ y h. run_here (run_take (sym c.is_ordinary.ensures ∙ c.if-is_ordinary.true) tt (handed y h))) c.called.ensures.reads

pub operands::postfix-returns-in_err-first-clause-reads : goal.operands::postfix-returns-in_err-first-clause-reads
operands::postfix-returns-in_err-first-clause-reads t c = exit c.from_residual.result _ c.from_residual.ensures.1 (no_memory c.in_err-first.ensures.err)

pub operands::postfix-returns-in-Some-clause-reads : goal.operands::postfix-returns-in-Some-clause-reads
operands::postfix-returns-in-Some-clause-reads t c = through c.suffixes.result (λ y h. run_here (run_pass (sym c.is_ordinary.ensures ∙ c.if-is_ordinary.false) (chosen_here plain (constants) c.args.depth (suffixed c.args.depth c.args.at none) (other_primary c.args.depth c.args.at) (sym c.in-Some.ensures.kind) (λ x' z w. run_take w tt (run_here (handed y (shift (λ u. body (m.suffixes c.args.depth c.args.at u)) c.in_ok-first.ensures.tree c.in_ok-first.ensures.next h))))))) c.suffixes.ensures.reads

pub operands::postfix-returns-in-Some-clause-placed : goal.operands::postfix-returns-in-Some-clause-placed
operands::postfix-returns-in-Some-clause-placed t c = placed_grown c.args.at c.suffixes.new.nodes [] (c.in_ok-first.first.node ∷ []) c.suffixes.result c.suffixes.ensures.grown (omega (arith, c.in_ok-first.ensures.ok.grows)) c.in_ok-first.ensures.ok.keeps (λ loose h. c.in_ok-first.ensures.ok.kept _ (search rules) loose h)

pub operands::postfix-returns-in_err-first-2-clause-reads : goal.operands::postfix-returns-in_err-first-2-clause-reads
operands::postfix-returns-in_err-first-2-clause-reads t c = exit c.from_residual-in_err-first-2.result _ c.from_residual-in_err-first-2.ensures.1 (no_memory c.in_err-first-2.ensures.err)

pub operands::postfix-returns-then-stands-clause-reads : goal.operands::postfix-returns-then-stands-clause-reads
operands::postfix-returns-then-stands-clause-reads t c = through c.suffixes-then-stands.result (λ y h. run_here (run_pass (sym c.is_ordinary.ensures ∙ c.if-is_ordinary.false) (chosen_none plain (constants) c.args.depth (suffixed c.args.depth c.args.at none) (other_primary c.args.depth c.args.at) (sym c.in_default.ensures.kind) (run_take (sym c.stands.ensures.answer ∙ c.if-stands.true) tt (run_call (c.texts.ensures.read _ _).run (run_here (handed y (shift (λ u. body (m.suffixes c.args.depth c.args.at u)) c.in_ok-first-2.ensures.tree c.in_ok-first-2.ensures.next h)))))))) c.suffixes-then-stands.ensures.reads

pub operands::postfix-returns-then-stands-clause-placed : goal.operands::postfix-returns-then-stands-clause-placed
operands::postfix-returns-then-stands-clause-placed t c = placed_grown c.args.at c.suffixes-then-stands.new.nodes [] (c.in_ok-first-2.first.node ∷ []) c.suffixes-then-stands.result c.suffixes-then-stands.ensures.grown (omega (arith, c.in_ok-first-2.ensures.ok.grows)) c.in_ok-first-2.ensures.ok.keeps (λ loose h. c.in_ok-first-2.ensures.ok.kept _ (omega (arith, c.in_ok-first-2.ensures.next, c.texts.ensures.to)) loose h)

pub operands::postfix-returns-then-not-stands-clause-reads : goal.operands::postfix-returns-then-not-stands-clause-reads
operands::postfix-returns-then-not-stands-clause-reads t c = record { is = stops c.refused.ensures (run_here (run_pass (sym c.is_ordinary.ensures ∙ c.if-is_ordinary.false) (chosen_none plain (constants) c.args.depth (suffixed c.args.depth c.args.at none) (other_primary c.args.depth c.args.at) (sym c.in_default.ensures.kind) (run_pass (sym c.stands.ensures.answer ∙ c.if-stands.false) (run_pass (sym c.stands-2.ensures.answer ∙ c.if-not-stands.true) run_stop))))) }

pub operands::postfix-returns-in_err-room-clause-reads : goal.operands::postfix-returns-in_err-room-clause-reads
operands::postfix-returns-in_err-room-clause-reads t c = exit c.from_residual-in_err-room.result _ c.from_residual-in_err-room.ensures.1 (deep c.in_err-room.ensures.err (run_here (run_pass (sym c.is_ordinary.ensures ∙ c.if-is_ordinary.false) (chosen_none plain (constants) c.args.depth (suffixed c.args.depth c.args.at none) (other_primary c.args.depth c.args.at) (sym c.in_default.ensures.kind) (run_pass (sym c.stands.ensures.answer ∙ c.if-stands.false) (run_deep (sym c.stands-2.ensures.answer ∙ c.if-not-stands.false) (no_room c.in_err-room.ensures.full)))))))

pub operands::postfix-returns-clause-reads : goal.operands::postfix-returns-clause-reads
operands::postfix-returns-clause-reads t c = through c.grouped.result (λ y h. run_here (run_pass (sym c.is_ordinary.ensures ∙ c.if-is_ordinary.false) (chosen_none plain (constants) c.args.depth (suffixed c.args.depth c.args.at none) (other_primary c.args.depth c.args.at) (sym c.in_default.ensures.kind) (run_pass (sym c.stands.ensures.answer ∙ c.if-stands.false) (run_take (sym c.stands-2.ensures.answer ∙ c.if-not-stands.false) c.in_ok-room.ensures.ok (handed y h)))))) c.grouped.ensures.reads

pub operands::called-returns-in_err-first-clause-reads : goal.operands::called-returns-in_err-first-clause-reads
operands::called-returns-in_err-first-clause-reads t c = exit c.from_residual.result _ c.from_residual.ensures.1 (no_memory c.in_err-first.ensures.err)

pub operands::called-returns-then-not-stands-clause-reads : goal.operands::called-returns-then-not-stands-clause-reads
operands::called-returns-then-not-stands-clause-reads t c = through c.suffixes.result (λ y h. run_pass (sym c.stands.ensures.answer ∙ c.if-not-stands.true) (run_here (handed y (shift (λ u. body (m.suffixes c.args.depth c.args.start u)) c.in_ok-first.ensures.tree c.in_ok-first.ensures.next h)))) c.suffixes.ensures.reads

pub operands::called-returns-then-not-stands-clause-placed : goal.operands::called-returns-then-not-stands-clause-placed
operands::called-returns-then-not-stands-clause-placed t c = placed_grown c.args.start c.suffixes.new.nodes [] (c.in_ok-first.first.node ∷ []) c.suffixes.result c.suffixes.ensures.grown (omega (arith, c.in_ok-first.ensures.ok.grows)) c.in_ok-first.ensures.ok.keeps (λ loose h. c.in_ok-first.ensures.ok.kept _ (omega (arith, c.in_ok-first.ensures.next, c.requires.at)) loose h)

pub operands::called-returns-in_err-room-clause-reads : goal.operands::called-returns-in_err-room-clause-reads
operands::called-returns-in_err-room-clause-reads t c = exit c.from_residual-in_err-room.result _ c.from_residual-in_err-room.ensures.1 (deep c.in_err-room.ensures.err (run_deep (sym c.stands.ensures.answer ∙ c.if-not-stands.false) (no_room c.in_err-room.ensures.full)))

pub operands::called-returns-in_err-first-2-clause-reads : goal.operands::called-returns-in_err-first-2-clause-reads
operands::called-returns-in_err-first-2-clause-reads t c = exit c.from_residual-in_err-first-2.result _ c.from_residual-in_err-first-2.ensures.1 (no_memory c.in_err-first-2.ensures.err)

pub operands::called-returns-then-stands-clause-reads : goal.operands::called-returns-then-stands-clause-reads
operands::called-returns-then-stands-clause-reads t c = through c.suffixes-then-stands.result (λ y h. run_take (sym c.stands.ensures.answer ∙ c.if-not-stands.false) c.in_ok-room.ensures.ok (run_take (sym c.stands-2.ensures.answer ∙ c.if-stands.true) tt (run_here (handed y (shift (λ u. body (m.suffixes c.args.depth c.args.start u)) c.in_ok-first-2.ensures.tree c.in_ok-first-2.ensures.next h))))) c.suffixes-then-stands.ensures.reads

pub operands::called-returns-then-stands-clause-placed : goal.operands::called-returns-then-stands-clause-placed
operands::called-returns-then-stands-clause-placed t c = placed_grown c.args.start c.suffixes-then-stands.new.nodes [] (c.in_ok-first-2.first.node ∷ []) c.suffixes-then-stands.result c.suffixes-then-stands.ensures.grown (omega (arith, c.in_ok-first-2.ensures.ok.grows)) c.in_ok-first-2.ensures.ok.keeps (λ loose h. c.in_ok-first-2.ensures.ok.kept _ (search rules) loose h)

pub operands::called-returns-in_err-list-clause-reads : goal.operands::called-returns-in_err-list-clause-reads
operands::called-returns-in_err-list-clause-reads t c = exit c.from_residual-in_err-list.result _ c.from_residual-in_err-list.ensures.1 (fails (c.in_err-list.ensures.reads.is) (λ x k h. run_take (sym c.stands.ensures.answer ∙ c.if-not-stands.false) c.in_ok-room.ensures.ok (run_pass (sym c.stands-2.ensures.answer ∙ c.if-stands.false) (run_fail h))))

pub operands::called-returns-in_err-first-3-clause-reads : goal.operands::called-returns-in_err-first-3-clause-reads
operands::called-returns-in_err-first-3-clause-reads t c = exit c.from_residual-in_err-first-3.result _ c.from_residual-in_err-first-3.ensures.1 (no_memory c.in_err-first-3.ensures.err)

pub operands::called-returns-clause-reads : goal.operands::called-returns-clause-reads
operands::called-returns-clause-reads t c = through c.suffixes-2.result (λ y h. run_take (sym c.stands.ensures.answer ∙ c.if-not-stands.false) c.in_ok-room.ensures.ok (run_pass (sym c.stands-2.ensures.answer ∙ c.if-stands.false) (run_call c.in_ok-list.ensures.reads.is.run (run_here (handed y (shift (λ u. body (m.suffixes c.args.depth c.args.start u)) c.in_ok-first-3.ensures.tree c.in_ok-first-3.ensures.next h)))))) c.suffixes-2.ensures.reads

pub operands::called-returns-clause-placed : goal.operands::called-returns-clause-placed
operands::called-returns-clause-placed t c = placed_grown c.args.start c.suffixes-2.new.nodes [] (c.in_ok-first-3.first.node ∷ []) c.suffixes-2.result c.suffixes-2.ensures.grown (omega (arith, c.in_ok-first-3.ensures.ok.grows, c.in_ok-list.ensures.listed.keeps.longer)) (keeps_all _ _ _ c.in_ok-list.ensures.listed.keeps c.in_ok-first-3.ensures.ok.keeps) (λ loose h. c.in_ok-first-3.ensures.ok.kept _ (omega (arith, c.in_ok-first-3.ensures.next, c.in_ok-list.ensures.listed.to)) loose (c.in_ok-list.ensures.listed.kept loose h))

pub operands::grouped-returns-in_err-inner-clause-reads : goal.operands::grouped-returns-in_err-inner-clause-reads
operands::grouped-returns-in_err-inner-clause-reads t c = exit c.from_residual.result _ c.from_residual.ensures.1 (fails (c.in_err-inner.ensures.reads.is) (λ x k h. run_fail h))

pub operands::grouped-returns-in_err-expect-clause-reads : goal.operands::grouped-returns-in_err-expect-clause-reads
operands::grouped-returns-in_err-expect-clause-reads t c = exit c.from_residual-in_err-expect.result _ c.from_residual-in_err-expect.ensures.1 (stops c.in_err-expect.ensures.err (run_call c.in_ok-inner.ensures.reads.is.run (run_pass c.in_err-expect.ensures.other run_stop)))

pub operands::grouped-returns-in_err-first-clause-reads : goal.operands::grouped-returns-in_err-first-clause-reads
operands::grouped-returns-in_err-first-clause-reads t c = exit c.from_residual-in_err-first.result _ c.from_residual-in_err-first.ensures.1 (no_memory c.in_err-first.ensures.err)

pub operands::grouped-returns-clause-reads : goal.operands::grouped-returns-clause-reads
operands::grouped-returns-clause-reads t c = through c.suffixes.result (λ y h. run_call c.in_ok-inner.ensures.reads.is.run (run_take c.in_ok-expect.ensures.ok tt (run_here (handed y (shift (λ u. body (m.suffixes c.args.depth c.args.start u)) c.in_ok-first.ensures.tree c.in_ok-first.ensures.next h))))) c.suffixes.ensures.reads

pub operands::grouped-returns-clause-placed : goal.operands::grouped-returns-clause-placed
operands::grouped-returns-clause-placed t c = placed_grown c.args.start c.suffixes.new.nodes [] (c.in_ok-first.first.node ∷ []) c.suffixes.result c.suffixes.ensures.grown (omega (arith, c.in_ok-first.ensures.ok.grows, c.in_ok-inner.ensures.placed.keeps.longer)) (keeps_all _ _ _ c.in_ok-inner.ensures.placed.keeps c.in_ok-first.ensures.ok.keeps) (λ loose h. c.in_ok-first.ensures.ok.kept _ (omega (arith, c.in_ok-first.ensures.next, c.in_ok-expect.ensures.inside)) loose (c.in_ok-inner.ensures.placed.kept loose h))

pub operands::arguments-arguments-init : goal.operands::arguments-arguments-init
operands::arguments-arguments-init t c = record { goes = record { on = λ y r. shift (λ u. body (m.arguments c.args.depth u)) (row_empty _ _ c.new-parts.ensures) refl r }; keeps = keeps_none _; below = c.requires.below; kept = λ loose h. kept_row _ _ _ _ loose c.new-parts.ensures h; parts = below_empty _ _ c.new-parts.ensures; from = omega arith; to = omega arith }

pub operands::arguments-returns-in_err-argument-clause-reads : goal.operands::arguments-returns-in_err-argument-clause-reads
operands::arguments-returns-in_err-argument-clause-reads t c = exit c.from_residual.result _ c.from_residual.ensures.1 (fails (c.in_err-argument.ensures.reads.is) (λ x k h. c.arguments.invariant.goes.on _ (run_fail h)))

pub operands::arguments-returns-in_err-push-clause-reads : goal.operands::arguments-returns-in_err-push-clause-reads
operands::arguments-returns-in_err-push-clause-reads t c = memory c.from_residual-in_err-push.result c.from_residual-in_err-push.ensures.1

pub operands::arguments-returns-in_err-expect-clause-reads : goal.operands::arguments-returns-in_err-expect-clause-reads
operands::arguments-returns-in_err-expect-clause-reads t c = exit c.from_residual-in_err-expect.result _ c.from_residual-in_err-expect.ensures.1 (stops c.in_err-expect.ensures.err (c.arguments.invariant.goes.on _ (run_call c.in_ok-argument.ensures.reads.is.run (run_pass (sym c.stands.ensures.answer ∙ c.if-not-stands.true) (run_pass c.in_err-expect.ensures.other run_stop)))))

pub operands::arguments-returns-then-not-stands-clause-reads : goal.operands::arguments-returns-then-not-stands-clause-reads
operands::arguments-returns-then-not-stands-clause-reads t c = record { is = record { run = c.arguments.invariant.goes.on _ (run_call c.in_ok-argument.ensures.reads.is.run (run_pass (sym c.stands.ensures.answer ∙ c.if-not-stands.true) (run_take c.in_ok-expect.ensures.ok tt (done_as (row_more _ _ _ _ _ c.in_ok-argument.ensures.placed.keeps c.arguments.invariant.parts c.in_ok-push.ensures.ok) run_give)))) } }

pub operands::arguments-returns-then-not-stands-clause-listed : goal.operands::arguments-returns-then-not-stands-clause-listed
operands::arguments-returns-then-not-stands-clause-listed t c = record { row = (is_row_more _ _ _ _ _ c.arguments.invariant.parts c.in_ok-argument.ensures.placed.keeps.longer c.in_ok-argument.ensures.placed.last c.in_ok-push.ensures.ok); keeps = keeps_all _ _ _ c.arguments.invariant.keeps c.in_ok-argument.ensures.placed.keeps; below = c.in_ok-argument.ensures.placed.below; kept = λ loose h. kept_more _ _ _ _ _ loose c.in_ok-push.ensures.ok (c.in_ok-argument.ensures.placed.kept _ (c.arguments.invariant.kept loose h)); from = omega (arith, c.arguments.invariant.from, c.in_ok-argument.ensures.placed.from); to = omega (arith, c.in_ok-expect.ensures.inside) }

pub operands::arguments-arguments-preserved : goal.operands::arguments-arguments-preserved
operands::arguments-arguments-preserved t c = record { goes = record { on = λ y r. c.arguments.invariant.goes.on y (run_call c.in_ok-argument.ensures.reads.is.run (run_take (sym c.stands.ensures.answer ∙ c.if-not-stands.false) tt (handed y (shift (λ u. body (m.arguments c.args.depth u)) (row_more _ _ _ _ _ c.in_ok-argument.ensures.placed.keeps c.arguments.invariant.parts c.in_ok-push.ensures.ok) refl r)))) }; keeps = keeps_all _ _ _ c.arguments.invariant.keeps c.in_ok-argument.ensures.placed.keeps; below = c.in_ok-argument.ensures.placed.below; kept = λ loose h. kept_more _ _ _ _ _ loose c.in_ok-push.ensures.ok (c.in_ok-argument.ensures.placed.kept _ (c.arguments.invariant.kept loose h)); parts = (is_row_more _ _ _ _ _ c.arguments.invariant.parts c.in_ok-argument.ensures.placed.keeps.longer c.in_ok-argument.ensures.placed.last c.in_ok-push.ensures.ok).below; from = omega (arith, c.arguments.invariant.from, c.in_ok-argument.ensures.placed.from); to = search rules }

pub specifiers::members-members-init : goal.specifiers::members-members-init
specifiers::members-members-init t c = record { goes = record { on = λ y r. shift (λ u. body (m.members c.args.depth c.args.start u)) (row_empty _ _ c.new-parts.ensures) refl r }; keeps = keeps_none _; below = c.requires.below; kept = λ loose h. kept_row _ _ _ _ loose c.new-parts.ensures h; parts = below_empty _ _ c.new-parts.ensures; from = omega arith; to = omega arith }

pub specifiers::members-returns-in_err-declaration-clause-reads : goal.specifiers::members-returns-in_err-declaration-clause-reads
specifiers::members-returns-in_err-declaration-clause-reads t c = exit c.from_residual.result _ c.from_residual.ensures.1 (fails (c.in_err-declaration.ensures.reads.is) (λ x k h. c.members.invariant.goes.on _ (run_fail h)))

pub specifiers::members-returns-in_err-push-clause-reads : goal.specifiers::members-returns-in_err-push-clause-reads
specifiers::members-returns-in_err-push-clause-reads t c = memory c.from_residual-in_err-push.result c.from_residual-in_err-push.ensures.1

pub specifiers::members-returns-then-stands-clause-reads : goal.specifiers::members-returns-then-stands-clause-reads
specifiers::members-returns-then-stands-clause-reads t c = finish c.push-then-stands.new.nodes c.push-then-stands.result c.push-then-stands.ensures.err c.push-then-stands.ensures.next c.push-then-stands.ensures.tree (c.members.invariant.goes.on _ (run_call c.in_ok-declaration.ensures.reads.is.run (run_take (sym c.stands.ensures.answer ∙ c.if-stands.true) tt (run_here (done_as (of_row (row_more _ _ _ _ _ c.in_ok-declaration.ensures.placed.keeps c.members.invariant.parts c.in_ok-push.ensures.ok)) run_give)))))

pub specifiers::members-returns-then-stands-clause-placed : goal.specifiers::members-returns-then-stands-clause-placed
specifiers::members-returns-then-stands-clause-placed t c = placed_push c.push-then-stands.new.nodes [] _ c.push-then-stands.result c.push-then-stands.ensures.ok c.push-then-stands.ensures.next (omega (arith, c.requires.start, c.members.invariant.from, c.in_ok-declaration.ensures.placed.from)) (search rules) (keeps_all _ _ _ c.members.invariant.keeps c.in_ok-declaration.ensures.placed.keeps) (λ loose h. kept_more _ _ _ _ _ loose c.in_ok-push.ensures.ok (c.in_ok-declaration.ensures.placed.kept _ (c.members.invariant.kept loose h)))

pub specifiers::members-push-requires-then-stands-clause-parts : goal.specifiers::members-push-requires-then-stands-clause-parts
specifiers::members-push-requires-then-stands-clause-parts t c = (is_row_more _ _ _ _ _ c.members.invariant.parts c.in_ok-declaration.ensures.placed.keeps.longer c.in_ok-declaration.ensures.placed.last c.in_ok-push.ensures.ok).below

pub specifiers::members-members-preserved : goal.specifiers::members-members-preserved
specifiers::members-members-preserved t c = record { goes = record { on = λ y r. c.members.invariant.goes.on y (run_call c.in_ok-declaration.ensures.reads.is.run (run_pass (sym c.stands.ensures.answer ∙ c.if-stands.false) (handed y (shift (λ u. body (m.members c.args.depth c.args.start u)) (row_more _ _ _ _ _ c.in_ok-declaration.ensures.placed.keeps c.members.invariant.parts c.in_ok-push.ensures.ok) refl r)))) }; keeps = keeps_all _ _ _ c.members.invariant.keeps c.in_ok-declaration.ensures.placed.keeps; below = c.in_ok-declaration.ensures.placed.below; kept = λ loose h. kept_more _ _ _ _ _ loose c.in_ok-push.ensures.ok (c.in_ok-declaration.ensures.placed.kept _ (c.members.invariant.kept loose h)); parts = (is_row_more _ _ _ _ _ c.members.invariant.parts c.in_ok-declaration.ensures.placed.keeps.longer c.in_ok-declaration.ensures.placed.last c.in_ok-push.ensures.ok).below; from = omega (arith, c.members.invariant.from, c.in_ok-declaration.ensures.placed.from); to = c.in_ok-declaration.ensures.placed.to }

pub specifiers::enumerators-enumerators-init : goal.specifiers::enumerators-enumerators-init
specifiers::enumerators-enumerators-init t c = record { goes = record { on = λ y r. shift (λ u. body (m.enumerators c.args.depth c.args.start u)) (row_empty _ _ c.new-parts.ensures) refl r }; keeps = keeps_none _; below = c.requires.below; kept = λ loose h. kept_row _ _ _ _ loose c.new-parts.ensures h; parts = below_empty _ _ c.new-parts.ensures; from = omega arith; to = omega arith }

pub specifiers::enumerators-returns-in_err-one-clause-reads : goal.specifiers::enumerators-returns-in_err-one-clause-reads
specifiers::enumerators-returns-in_err-one-clause-reads t c = exit c.from_residual.result _ c.from_residual.ensures.1 (fails (c.in_err-one.ensures.reads.is) (λ x k h. c.enumerators.invariant.goes.on _ (run_fail h)))

pub specifiers::enumerators-returns-in_err-push-clause-reads : goal.specifiers::enumerators-returns-in_err-push-clause-reads
specifiers::enumerators-returns-in_err-push-clause-reads t c = memory c.from_residual-in_err-push.result c.from_residual-in_err-push.ensures.1

pub specifiers::enumerators-returns-in_err-expect-clause-reads : goal.specifiers::enumerators-returns-in_err-expect-clause-reads
specifiers::enumerators-returns-in_err-expect-clause-reads t c = exit c.from_residual-in_err-expect.result _ c.from_residual-in_err-expect.ensures.1 (stops c.in_err-expect.ensures.err (c.enumerators.invariant.goes.on _ (run_call c.in_ok-one.ensures.reads.is.run (run_pass (sym c.stands.ensures.answer ∙ c.if-not-stands.true) (run_pass c.in_err-expect.ensures.other run_stop)))))

pub specifiers::enumerators-returns-then-not-stands-clause-reads : goal.specifiers::enumerators-returns-then-not-stands-clause-reads
specifiers::enumerators-returns-then-not-stands-clause-reads t c = finish c.push-then-not-stands.new.nodes c.push-then-not-stands.result c.push-then-not-stands.ensures.err c.push-then-not-stands.ensures.next c.push-then-not-stands.ensures.tree (c.enumerators.invariant.goes.on _ (run_call c.in_ok-one.ensures.reads.is.run (run_pass (sym c.stands.ensures.answer ∙ c.if-not-stands.true) (run_take c.in_ok-expect.ensures.ok tt (run_here (done_as (of_row (row_more _ _ _ _ _ c.in_ok-one.ensures.placed.keeps c.enumerators.invariant.parts c.in_ok-push.ensures.ok)) run_give))))))

pub specifiers::enumerators-returns-then-not-stands-clause-placed : goal.specifiers::enumerators-returns-then-not-stands-clause-placed
specifiers::enumerators-returns-then-not-stands-clause-placed t c = placed_push c.push-then-not-stands.new.nodes [] _ c.push-then-not-stands.result c.push-then-not-stands.ensures.ok c.push-then-not-stands.ensures.next (omega (arith, c.requires.start, c.enumerators.invariant.from, c.in_ok-one.ensures.placed.from)) (omega (arith, c.in_ok-expect.ensures.inside)) (keeps_all _ _ _ c.enumerators.invariant.keeps c.in_ok-one.ensures.placed.keeps) (λ loose h. kept_more _ _ _ _ _ loose c.in_ok-push.ensures.ok (c.in_ok-one.ensures.placed.kept _ (c.enumerators.invariant.kept loose h)))

pub specifiers::enumerators-push-requires-then-not-stands-clause-parts : goal.specifiers::enumerators-push-requires-then-not-stands-clause-parts
specifiers::enumerators-push-requires-then-not-stands-clause-parts t c = (is_row_more _ _ _ _ _ c.enumerators.invariant.parts c.in_ok-one.ensures.placed.keeps.longer c.in_ok-one.ensures.placed.last c.in_ok-push.ensures.ok).below

pub specifiers::enumerators-returns-then-stands-clause-reads : goal.specifiers::enumerators-returns-then-stands-clause-reads
specifiers::enumerators-returns-then-stands-clause-reads t c = finish c.push-then-stands.new.nodes c.push-then-stands.result c.push-then-stands.ensures.err c.push-then-stands.ensures.next c.push-then-stands.ensures.tree (c.enumerators.invariant.goes.on _ (run_call c.in_ok-one.ensures.reads.is.run (run_take (sym c.stands.ensures.answer ∙ c.if-not-stands.false) tt (run_take (sym c.stands-in-enumerators.ensures.answer ∙ c.if-stands.true) tt (run_here (done_as (of_row (row_more _ _ _ _ _ c.in_ok-one.ensures.placed.keeps c.enumerators.invariant.parts c.in_ok-push.ensures.ok)) run_give))))))

pub specifiers::enumerators-returns-then-stands-clause-placed : goal.specifiers::enumerators-returns-then-stands-clause-placed
specifiers::enumerators-returns-then-stands-clause-placed t c = placed_push c.push-then-stands.new.nodes [] _ c.push-then-stands.result c.push-then-stands.ensures.ok c.push-then-stands.ensures.next (omega (arith, c.requires.start, c.enumerators.invariant.from, c.in_ok-one.ensures.placed.from)) (search rules) (keeps_all _ _ _ c.enumerators.invariant.keeps c.in_ok-one.ensures.placed.keeps) (λ loose h. kept_more _ _ _ _ _ loose c.in_ok-push.ensures.ok (c.in_ok-one.ensures.placed.kept _ (c.enumerators.invariant.kept loose h)))

pub specifiers::enumerators-push-requires-then-stands-clause-parts : goal.specifiers::enumerators-push-requires-then-stands-clause-parts
specifiers::enumerators-push-requires-then-stands-clause-parts t c = (is_row_more _ _ _ _ _ c.enumerators.invariant.parts c.in_ok-one.ensures.placed.keeps.longer c.in_ok-one.ensures.placed.last c.in_ok-push.ensures.ok).below

pub specifiers::enumerators-enumerators-preserved : goal.specifiers::enumerators-enumerators-preserved
specifiers::enumerators-enumerators-preserved t c = record { goes = record { on = λ y r. c.enumerators.invariant.goes.on y (run_call c.in_ok-one.ensures.reads.is.run (run_take (sym c.stands.ensures.answer ∙ c.if-not-stands.false) tt (run_pass (sym c.stands-in-enumerators.ensures.answer ∙ c.if-stands.false) (handed y (shift (λ u. body (m.enumerators c.args.depth c.args.start u)) (row_more _ _ _ _ _ c.in_ok-one.ensures.placed.keeps c.enumerators.invariant.parts c.in_ok-push.ensures.ok) refl r))))) }; keeps = keeps_all _ _ _ c.enumerators.invariant.keeps c.in_ok-one.ensures.placed.keeps; below = c.in_ok-one.ensures.placed.below; kept = λ loose h. kept_more _ _ _ _ _ loose c.in_ok-push.ensures.ok (c.in_ok-one.ensures.placed.kept _ (c.enumerators.invariant.kept loose h)); parts = (is_row_more _ _ _ _ _ c.enumerators.invariant.parts c.in_ok-one.ensures.placed.keeps.longer c.in_ok-one.ensures.placed.last c.in_ok-push.ensures.ok).below; from = omega (arith, c.enumerators.invariant.from, c.in_ok-one.ensures.placed.from); to = search rules }

pub specifiers::enumerator-returns-in_err-expect-clause-reads : goal.specifiers::enumerator-returns-in_err-expect-clause-reads
specifiers::enumerator-returns-in_err-expect-clause-reads t c = exit c.from_residual.result _ c.from_residual.ensures.1 (stops c.in_err-expect.ensures.err (run_here (run_pass c.in_err-expect.ensures.other run_stop)))

pub specifiers::enumerator-returns-in_err-bring-clause-reads : goal.specifiers::enumerator-returns-in_err-bring-clause-reads
specifiers::enumerator-returns-in_err-bring-clause-reads t c = exit c.from_residual-in_err-bring.result _ c.from_residual-in_err-bring.ensures.1 (no_memory c.in_err-bring.ensures.err)

pub specifiers::enumerator-returns-then-not-stands-clause-reads : goal.specifiers::enumerator-returns-then-not-stands-clause-reads
specifiers::enumerator-returns-then-not-stands-clause-reads t c = finish c.leaf.new.nodes c.leaf.result c.leaf.ensures.err c.leaf.ensures.next c.leaf.ensures.tree (done_in c.in_ok-bring.ensures.ok (run_here (run_take c.in_ok-expect.ensures.ok tt (run_pass (sym c.stands.ensures.answer ∙ c.if-not-stands.true) (run_bring (run_here run_give))))))

pub specifiers::enumerator-returns-then-not-stands-clause-placed : goal.specifiers::enumerator-returns-then-not-stands-clause-placed
specifiers::enumerator-returns-then-not-stands-clause-placed t c = placed_push c.leaf.new.nodes [] [] c.leaf.result c.leaf.ensures.ok c.leaf.ensures.next (omega arith) (omega (arith, c.in_ok-expect.ensures.inside)) (keeps_none _) (λ loose h. h)

pub specifiers::enumerator-returns-in_err-value-clause-reads : goal.specifiers::enumerator-returns-in_err-value-clause-reads
specifiers::enumerator-returns-in_err-value-clause-reads t c = exit c.from_residual-in_err-value.result _ c.from_residual-in_err-value.ensures.1 (fails (c.in_err-value.ensures.reads.is) (λ x k h. run_here (run_take c.in_ok-expect.ensures.ok tt (run_take (sym c.stands.ensures.answer ∙ c.if-not-stands.false) tt (run_fail h)))))

pub specifiers::enumerator-returns-in_err-bring-2-clause-reads : goal.specifiers::enumerator-returns-in_err-bring-2-clause-reads
specifiers::enumerator-returns-in_err-bring-2-clause-reads t c = exit c.from_residual-in_err-bring-2.result _ c.from_residual-in_err-bring-2.ensures.1 (no_memory c.in_err-bring-2.ensures.err)

pub specifiers::enumerator-returns-clause-reads : goal.specifiers::enumerator-returns-clause-reads
specifiers::enumerator-returns-clause-reads t c = finish c.over.new.nodes c.over.result c.over.ensures.err c.over.ensures.next c.over.ensures.tree (done_in c.in_ok-bring-2.ensures.ok (run_here (run_take c.in_ok-expect.ensures.ok tt (run_take (sym c.stands.ensures.answer ∙ c.if-not-stands.false) tt (run_call c.in_ok-value.ensures.reads.is.run (run_bring (run_here run_give)))))))

pub specifiers::enumerator-returns-clause-placed : goal.specifiers::enumerator-returns-clause-placed
specifiers::enumerator-returns-clause-placed t c = placed_push c.over.new.nodes [] (c.in_ok-value.value.node ∷ []) c.over.result c.over.ensures.ok c.over.ensures.next (omega (arith, c.in_ok-value.ensures.placed.from)) (omega (arith, c.in_ok-value.ensures.placed.to)) c.in_ok-value.ensures.placed.keeps c.in_ok-value.ensures.placed.kept

pub specifiers::type_name-returns-in_err-specifiers-clause-reads : goal.specifiers::type_name-returns-in_err-specifiers-clause-reads
specifiers::type_name-returns-in_err-specifiers-clause-reads t c = exit c.from_residual.result _ c.from_residual.ensures.1 (fails (c.in_err-specifiers.ensures.reads.is) (λ x k h. run_here (run_fail h)))

pub specifiers::type_name-returns-then-not-starts_abstract-clause-reads : goal.specifiers::type_name-returns-then-not-starts_abstract-clause-reads
specifiers::type_name-returns-then-not-starts_abstract-clause-reads t c = record { is = record { run = run_here (run_call c.in_ok-specifiers.ensures.reads.is.run (run_unseen (sym c.starts_abstract.ensures ∙ c.if-not-starts_abstract.true) run_give)) } }

pub specifiers::type_name-returns-in_err-rest-clause-reads : goal.specifiers::type_name-returns-in_err-rest-clause-reads
specifiers::type_name-returns-in_err-rest-clause-reads t c = exit c.from_residual-in_err-rest.result _ c.from_residual-in_err-rest.ensures.1 (fails (c.in_err-rest.ensures.reads.is) (λ x k h. run_here (run_call c.in_ok-specifiers.ensures.reads.is.run (run_seen (sym c.starts_abstract.ensures ∙ c.if-not-starts_abstract.false) (run_fail h)))))

pub specifiers::type_name-returns-clause-reads : goal.specifiers::type_name-returns-clause-reads
specifiers::type_name-returns-clause-reads t c = finish c.pair.new.nodes c.pair.result c.pair.ensures.err c.pair.ensures.next c.pair.ensures.tree (run_here (run_call c.in_ok-specifiers.ensures.reads.is.run (run_seen (sym c.starts_abstract.ensures ∙ c.if-not-starts_abstract.false) (run_call c.in_ok-rest.ensures.reads.is.run (run_here (done_as (let e = tree_kept _ _ c.in_ok-specifiers.specifiers.node c.in_ok-rest.ensures.placed.keeps (omega (arith, c.in_ok-specifiers.ensures.placed.last)) in cc) run_give))))))

pub specifiers::type_name-returns-clause-placed : goal.specifiers::type_name-returns-clause-placed
specifiers::type_name-returns-clause-placed t c = placed_push c.pair.new.nodes [] (c.in_ok-rest.rest.node ∷ c.in_ok-specifiers.specifiers.node ∷ []) c.pair.result c.pair.ensures.ok c.pair.ensures.next (omega (arith, c.in_ok-specifiers.ensures.placed.from, c.in_ok-rest.ensures.placed.from)) (omega (arith, c.in_ok-rest.ensures.placed.to)) (keeps_all _ _ _ c.in_ok-specifiers.ensures.placed.keeps c.in_ok-rest.ensures.placed.keeps) (λ loose h. c.in_ok-rest.ensures.placed.kept _ (c.in_ok-specifiers.ensures.placed.kept loose h))

pub specifiers::row-returns-in_err-first-clause-reads : goal.specifiers::row-returns-in_err-first-clause-reads
specifiers::row-returns-in_err-first-clause-reads t c = exit c.from_residual.result _ c.from_residual.ensures.1 (fails (c.in_err-first.ensures.reads.is) (λ x k h. run_here (run_fail h)))

pub specifiers::row-returns-in_err-parts-clause-reads : goal.specifiers::row-returns-in_err-parts-clause-reads
specifiers::row-returns-in_err-parts-clause-reads t c = exit c.from_residual-in_err-parts.result _ c.from_residual-in_err-parts.ensures.1 (no_memory c.in_err-parts.ensures.err)

pub specifiers::row-more-init : goal.specifiers::row-more-init
specifiers::row-more-init t c = record { goes = record { on = λ y r. run_here (run_call c.in_ok-first.ensures.reads.is.run (handed y (more_shift c.past-context.ensures (row_single _ _ _ c.in_ok-parts.ensures.ok) r))) }; row = is_row_single _ _ _ c.in_ok-parts.ensures.ok c.in_ok-first.ensures.placed.last; grows = c.in_ok-first.ensures.placed.grows; keeps = c.in_ok-first.ensures.placed.keeps; below = c.in_ok-first.ensures.placed.below; kept = λ loose h. kept_row _ _ _ _ loose c.in_ok-parts.ensures.ok (c.in_ok-first.ensures.placed.kept loose h); from = c.in_ok-first.ensures.placed.from; to = c.in_ok-first.ensures.placed.to }

pub specifiers::row-returns-in_err-more-clause-reads : goal.specifiers::row-returns-in_err-more-clause-reads
specifiers::row-returns-in_err-more-clause-reads t c = exit c.from_residual-in_err-more.result _ c.from_residual-in_err-more.ensures.1 (fails (c.in_err-more.ensures.reads.is) (λ x k h. c.more.invariant.goes.on _ (run_seen (sym c.starts_element.ensures ∙ c.more-test.true) (run_fail h))))

pub specifiers::row-returns-in_err-push-clause-reads : goal.specifiers::row-returns-in_err-push-clause-reads
specifiers::row-returns-in_err-push-clause-reads t c = memory c.from_residual-in_err-push.result c.from_residual-in_err-push.ensures.1

pub specifiers::row-more-preserved : goal.specifiers::row-more-preserved
specifiers::row-more-preserved t c = record { goes = record { on = λ y r. c.more.invariant.goes.on y (run_seen (sym c.starts_element.ensures ∙ c.more-test.true) (run_call c.in_ok-more.ensures.reads.is.run (handed y (more_shift c.past-context-in-more.ensures (row_more _ _ _ _ _ c.in_ok-more.ensures.placed.keeps c.more.invariant.row.below c.in_ok-push.ensures.ok) r)))) }; row = (is_row_more _ _ _ _ _ c.more.invariant.row.below c.in_ok-more.ensures.placed.keeps.longer c.in_ok-more.ensures.placed.last c.in_ok-push.ensures.ok); grows = omega (arith, c.more.invariant.grows, c.in_ok-more.ensures.placed.grows); keeps = keeps_all _ _ _ c.more.invariant.keeps c.in_ok-more.ensures.placed.keeps; below = c.in_ok-more.ensures.placed.below; kept = λ loose h. kept_more _ _ _ _ _ loose c.in_ok-push.ensures.ok (c.in_ok-more.ensures.placed.kept _ (c.more.invariant.kept loose h)); from = omega (arith, c.more.invariant.from, c.in_ok-more.ensures.placed.from); to = c.in_ok-more.ensures.placed.to }

pub specifiers::row-returns-clause-reads : goal.specifiers::row-returns-clause-reads
specifiers::row-returns-clause-reads t c = finish c.gathered.new.nodes c.gathered.result c.gathered.ensures.err c.gathered.ensures.next c.gathered.ensures.tree (c.more.invariant.goes.on _ (run_unseen (sym c.starts_element.ensures ∙ c.more-test.false) (run_here run_give)))

pub specifiers::row-returns-clause-placed : goal.specifiers::row-returns-clause-placed
specifiers::row-returns-clause-placed t c = placed_gathered c.gathered.new.nodes [] (reverse c.more.parts) c.gathered.result c.gathered.ensures.ok c.gathered.ensures.next c.more.invariant.from c.more.invariant.to c.more.invariant.grows c.more.invariant.keeps c.more.invariant.kept

pub specifiers::element-returns-in-Some-clause-reads : goal.specifiers::element-returns-in-Some-clause-reads
specifiers::element-returns-in-Some-clause-reads t c = finish c.leaf.new.nodes c.leaf.result c.leaf.ensures.err c.leaf.ensures.next c.leaf.ensures.tree (run_here (chosen_here plain (specifier_words c.args.part) c.args.depth ((λ k. made k c.args.at none)) (other_element c.args.context c.args.depth c.args.at) (sym c.in-Some.ensures.kind) (λ x' z w. run_take w tt (run_here run_give))))

pub specifiers::element-returns-in-Some-clause-placed : goal.specifiers::element-returns-in-Some-clause-placed
specifiers::element-returns-in-Some-clause-placed t c = placed_push c.leaf.new.nodes [] [] c.leaf.result c.leaf.ensures.ok c.leaf.ensures.next (omega arith) (search rules) (keeps_none _) (λ loose h. h)

pub specifiers::element-returns-then-stands-clause-reads : goal.specifiers::element-returns-then-stands-clause-reads
specifiers::element-returns-then-stands-clause-reads t c = through c.structure.result (λ y h. run_here (chosen_none plain (specifier_words c.args.part) c.args.depth ((λ k. made k c.args.at none)) (other_element c.args.context c.args.depth c.args.at) (sym c.in_default.ensures.kind) (run_take (sym c.stands.ensures.answer ∙ c.if-stands.true) tt (handed y h)))) c.structure.ensures.reads

pub specifiers::element-returns-then-stands-2-clause-reads : goal.specifiers::element-returns-then-stands-2-clause-reads
specifiers::element-returns-then-stands-2-clause-reads t c = through c.enumeration.result (λ y h. run_here (chosen_none plain (specifier_words c.args.part) c.args.depth ((λ k. made k c.args.at none)) (other_element c.args.context c.args.depth c.args.at) (sym c.in_default.ensures.kind) (run_pass (sym c.stands.ensures.answer ∙ c.if-stands.false) (run_take (sym c.stands-2.ensures.answer ∙ c.if-stands-2.true) tt (handed y h))))) c.enumeration.ensures.reads

pub specifiers::element-returns-then-not-is_type_identifier-clause-reads : goal.specifiers::element-returns-then-not-is_type_identifier-clause-reads
specifiers::element-returns-then-not-is_type_identifier-clause-reads t c = record { is = stops c.refused.ensures (run_here (chosen_none plain (specifier_words c.args.part) c.args.depth ((λ k. made k c.args.at none)) (other_element c.args.context c.args.depth c.args.at) (sym c.in_default.ensures.kind) (run_pass (sym c.stands.ensures.answer ∙ c.if-stands.false) (run_pass (sym c.stands-2.ensures.answer ∙ c.if-stands-2.false) (run_pass (sym c.is_type_identifier.ensures.answer ∙ c.if-not-is_type_identifier.true) run_stop))))) }

pub specifiers::element-returns-clause-reads : goal.specifiers::element-returns-clause-reads
specifiers::element-returns-clause-reads t c = finish c.leaf-2.new.nodes c.leaf-2.result c.leaf-2.ensures.err c.leaf-2.ensures.next c.leaf-2.ensures.tree (run_here (chosen_none plain (specifier_words c.args.part) c.args.depth ((λ k. made k c.args.at none)) (other_element c.args.context c.args.depth c.args.at) (sym c.in_default.ensures.kind) (run_pass (sym c.stands.ensures.answer ∙ c.if-stands.false) (run_pass (sym c.stands-2.ensures.answer ∙ c.if-stands-2.false) (run_take (sym c.is_type_identifier.ensures.answer ∙ c.if-not-is_type_identifier.false) tt (run_here run_give))))))

pub specifiers::element-returns-clause-placed : goal.specifiers::element-returns-clause-placed
specifiers::element-returns-clause-placed t c = placed_push c.leaf-2.new.nodes [] [] c.leaf-2.result c.leaf-2.ensures.ok c.leaf-2.ensures.next (omega arith) (search rules) (keeps_none _) (λ loose h. h)

pub specifiers::structure-returns-then-not-stands-clause-reads : goal.specifiers::structure-returns-then-not-stands-clause-reads
specifiers::structure-returns-then-not-stands-clause-reads t c = finish c.leaf.new.nodes c.leaf.result c.leaf.ensures.err c.leaf.ensures.next c.leaf.ensures.tree (run_take (sym c.stands.ensures.answer ∙ c.if-stands.true) tt (run_pass (sym c.stands-then-stands.ensures.answer ∙ c.if-not-stands.true) (run_here run_give)))

pub specifiers::structure-returns-then-not-stands-clause-placed : goal.specifiers::structure-returns-then-not-stands-clause-placed
specifiers::structure-returns-then-not-stands-clause-placed t c = placed_push c.leaf.new.nodes [] [] c.leaf.result c.leaf.ensures.ok c.leaf.ensures.next (omega arith) (search rules) (keeps_none _) (λ loose h. h)

pub specifiers::structure-returns-in_err-room-clause-reads : goal.specifiers::structure-returns-in_err-room-clause-reads
specifiers::structure-returns-in_err-room-clause-reads t c = exit c.from_residual.result _ c.from_residual.ensures.1 (deep c.in_err-room.ensures.err (run_take (sym c.stands.ensures.answer ∙ c.if-stands.true) tt (run_deep (sym c.stands-then-stands.ensures.answer ∙ c.if-not-stands.false) (no_room c.in_err-room.ensures.full))))

pub specifiers::structure-returns-then-stands-clause-reads : goal.specifiers::structure-returns-then-stands-clause-reads
specifiers::structure-returns-then-stands-clause-reads t c = through c.members.result (λ y h. run_take (sym c.stands.ensures.answer ∙ c.if-stands.true) tt (run_take (sym c.stands-then-stands.ensures.answer ∙ c.if-not-stands.false) c.in_ok-room.ensures.ok (handed y h))) c.members.ensures.reads

pub specifiers::structure-returns-in_err-expect-clause-reads : goal.specifiers::structure-returns-in_err-expect-clause-reads
specifiers::structure-returns-in_err-expect-clause-reads t c = exit c.from_residual-in_err-expect.result _ c.from_residual-in_err-expect.ensures.1 (stops c.in_err-expect.ensures.err (run_pass (sym c.stands.ensures.answer ∙ c.if-stands.false) (run_pass c.in_err-expect.ensures.other run_stop)))

pub specifiers::structure-returns-in_err-room-2-clause-reads : goal.specifiers::structure-returns-in_err-room-2-clause-reads
specifiers::structure-returns-in_err-room-2-clause-reads t c = exit c.from_residual-in_err-room-2.result _ c.from_residual-in_err-room-2.ensures.1 (deep c.in_err-room-2.ensures.err (run_pass (sym c.stands.ensures.answer ∙ c.if-stands.false) (run_deep c.in_ok-expect.ensures.ok (no_room c.in_err-room-2.ensures.full))))

pub specifiers::structure-returns-clause-reads : goal.specifiers::structure-returns-clause-reads
specifiers::structure-returns-clause-reads t c = through c.members-2.result (λ y h. run_pass (sym c.stands.ensures.answer ∙ c.if-stands.false) (run_take c.in_ok-expect.ensures.ok c.in_ok-room-2.ensures.ok (handed y h))) c.members-2.ensures.reads

pub specifiers::enumeration-returns-then-not-stands-clause-reads : goal.specifiers::enumeration-returns-then-not-stands-clause-reads
specifiers::enumeration-returns-then-not-stands-clause-reads t c = finish c.leaf.new.nodes c.leaf.result c.leaf.ensures.err c.leaf.ensures.next c.leaf.ensures.tree (run_take (sym c.stands.ensures.answer ∙ c.if-stands.true) tt (run_pass (sym c.stands-then-stands.ensures.answer ∙ c.if-not-stands.true) (run_here run_give)))

pub specifiers::enumeration-returns-then-not-stands-clause-placed : goal.specifiers::enumeration-returns-then-not-stands-clause-placed
specifiers::enumeration-returns-then-not-stands-clause-placed t c = placed_push c.leaf.new.nodes [] [] c.leaf.result c.leaf.ensures.ok c.leaf.ensures.next (omega arith) (search rules) (keeps_none _) (λ loose h. h)

pub specifiers::enumeration-returns-in_err-room-clause-reads : goal.specifiers::enumeration-returns-in_err-room-clause-reads
specifiers::enumeration-returns-in_err-room-clause-reads t c = exit c.from_residual.result _ c.from_residual.ensures.1 (deep c.in_err-room.ensures.err (run_take (sym c.stands.ensures.answer ∙ c.if-stands.true) tt (run_deep (sym c.stands-then-stands.ensures.answer ∙ c.if-not-stands.false) (no_room c.in_err-room.ensures.full))))

pub specifiers::enumeration-returns-then-stands-clause-reads : goal.specifiers::enumeration-returns-then-stands-clause-reads
specifiers::enumeration-returns-then-stands-clause-reads t c = through c.enumerators.result (λ y h. run_take (sym c.stands.ensures.answer ∙ c.if-stands.true) tt (run_take (sym c.stands-then-stands.ensures.answer ∙ c.if-not-stands.false) c.in_ok-room.ensures.ok (handed y h))) c.enumerators.ensures.reads

pub specifiers::enumeration-returns-in_err-expect-clause-reads : goal.specifiers::enumeration-returns-in_err-expect-clause-reads
specifiers::enumeration-returns-in_err-expect-clause-reads t c = exit c.from_residual-in_err-expect.result _ c.from_residual-in_err-expect.ensures.1 (stops c.in_err-expect.ensures.err (run_pass (sym c.stands.ensures.answer ∙ c.if-stands.false) (run_pass c.in_err-expect.ensures.other run_stop)))

pub specifiers::enumeration-returns-in_err-room-2-clause-reads : goal.specifiers::enumeration-returns-in_err-room-2-clause-reads
specifiers::enumeration-returns-in_err-room-2-clause-reads t c = exit c.from_residual-in_err-room-2.result _ c.from_residual-in_err-room-2.ensures.1 (deep c.in_err-room-2.ensures.err (run_pass (sym c.stands.ensures.answer ∙ c.if-stands.false) (run_deep c.in_ok-expect.ensures.ok (no_room c.in_err-room-2.ensures.full))))

pub specifiers::enumeration-returns-clause-reads : goal.specifiers::enumeration-returns-clause-reads
specifiers::enumeration-returns-clause-reads t c = through c.enumerators-2.result (λ y h. run_pass (sym c.stands.ensures.answer ∙ c.if-stands.false) (run_take c.in_ok-expect.ensures.ok c.in_ok-room-2.ensures.ok (handed y h))) c.enumerators-2.ensures.reads

pub specifiers::member_declaration-returns-in_err-specifiers-clause-reads : goal.specifiers::member_declaration-returns-in_err-specifiers-clause-reads
specifiers::member_declaration-returns-in_err-specifiers-clause-reads t c = exit c.from_residual.result _ c.from_residual.ensures.1 (fails (c.in_err-specifiers.ensures.reads.is) (λ x k h. run_here (run_fail h)))

pub specifiers::member_declaration-returns-clause-reads : goal.specifiers::member_declaration-returns-clause-reads
specifiers::member_declaration-returns-clause-reads t c = through c.member_declarators.result (λ y h. run_here (run_call c.in_ok-specifiers.ensures.reads.is.run (handed y h))) c.member_declarators.ensures.reads

pub specifiers::member_declaration-returns-clause-placed : goal.specifiers::member_declaration-returns-clause-placed
specifiers::member_declaration-returns-clause-placed t c = placed_behind c.args.at c.member_declarators.new.nodes [] (c.in_ok-specifiers.specifiers.node ∷ []) c.member_declarators.result c.member_declarators.ensures.placed c.in_ok-specifiers.ensures.placed.keeps c.in_ok-specifiers.ensures.placed.kept

pub specifiers::member_declarators-returns-in_err-parts-clause-reads : goal.specifiers::member_declarators-returns-in_err-parts-clause-reads
specifiers::member_declarators-returns-in_err-parts-clause-reads t c = exit c.from_residual.result _ c.from_residual.ensures.1 (no_memory c.in_err-parts.ensures.err)

pub specifiers::member_declarators-declarators-init : goal.specifiers::member_declarators-declarators-init
specifiers::member_declarators-declarators-init t c = record { goes = record { on = λ y r. members_shift c.past-context.ensures (row_single _ _ _ c.in_ok-parts.ensures.ok) r }; keeps = keeps_none _; below = c.requires.below; kept = λ loose h. kept_row _ _ _ _ loose c.in_ok-parts.ensures.ok h; parts = (is_row_single _ _ _ c.in_ok-parts.ensures.ok c.requires.node).below; from = omega arith; to = omega arith }

pub specifiers::member_declarators-returns-in_err-one-clause-reads : goal.specifiers::member_declarators-returns-in_err-one-clause-reads
specifiers::member_declarators-returns-in_err-one-clause-reads t c = exit c.from_residual-in_err-one.result _ c.from_residual-in_err-one.ensures.1 (fails (c.in_err-one.ensures.reads.is) (λ x k h. c.declarators.invariant.goes.on _ (run_fail h)))

pub specifiers::member_declarators-returns-in_err-push-clause-reads : goal.specifiers::member_declarators-returns-in_err-push-clause-reads
specifiers::member_declarators-returns-in_err-push-clause-reads t c = memory c.from_residual-in_err-push.result c.from_residual-in_err-push.ensures.1

pub specifiers::member_declarators-returns-in_err-bar-clause-reads : goal.specifiers::member_declarators-returns-in_err-bar-clause-reads
specifiers::member_declarators-returns-in_err-bar-clause-reads t c = exit c.from_residual-in_err-bar.result _ c.from_residual-in_err-bar.ensures.1 (stops c.in_err-bar.ensures.err (c.declarators.invariant.goes.on _ (run_call c.in_ok-one.ensures.reads.is.run (run_look (run_set (run_bar c.in_err-bar.ensures.stands))))))

pub specifiers::member_declarators-returns-in_err-expect-clause-reads : goal.specifiers::member_declarators-returns-in_err-expect-clause-reads
specifiers::member_declarators-returns-in_err-expect-clause-reads t c = exit c.from_residual-in_err-expect.result _ c.from_residual-in_err-expect.ensures.1 (stops c.in_err-expect.ensures.err (c.declarators.invariant.goes.on _ (run_call c.in_ok-one.ensures.reads.is.run (run_look (run_set (run_free c.in_ok-bar.ensures.ok (run_pass (sym c.stands.ensures.answer ∙ c.if-not-stands.true) (run_pass c.in_err-expect.ensures.other run_stop))))))))

pub specifiers::member_declarators-returns-then-not-stands-clause-reads : goal.specifiers::member_declarators-returns-then-not-stands-clause-reads
specifiers::member_declarators-returns-then-not-stands-clause-reads t c = finish c.push-then-not-stands.new.nodes c.push-then-not-stands.result c.push-then-not-stands.ensures.err c.push-then-not-stands.ensures.next c.push-then-not-stands.ensures.tree (done_in c.drop_scope.ensures (c.declarators.invariant.goes.on _ (run_call c.in_ok-one.ensures.reads.is.run (run_look (run_set (run_free c.in_ok-bar.ensures.ok (run_pass (sym c.stands.ensures.answer ∙ c.if-not-stands.true) (run_take c.in_ok-expect.ensures.ok tt (run_here (done_as (of_row (row_more _ _ _ _ _ c.in_ok-one.ensures.placed.keeps c.declarators.invariant.parts c.in_ok-push.ensures.ok)) run_give))))))))))

pub specifiers::member_declarators-returns-then-not-stands-clause-placed : goal.specifiers::member_declarators-returns-then-not-stands-clause-placed
specifiers::member_declarators-returns-then-not-stands-clause-placed t c = placed_push c.push-then-not-stands.new.nodes (c.args.specifiers.node ∷ []) _ c.push-then-not-stands.result c.push-then-not-stands.ensures.ok c.push-then-not-stands.ensures.next (omega (arith, c.requires.start, c.declarators.invariant.from, c.in_ok-one.ensures.placed.from)) (omega (arith, c.in_ok-expect.ensures.inside)) (keeps_all _ _ _ c.declarators.invariant.keeps c.in_ok-one.ensures.placed.keeps) (λ loose h. kept_more _ _ _ _ _ loose c.in_ok-push.ensures.ok (c.in_ok-one.ensures.placed.kept _ (c.declarators.invariant.kept loose h)))

pub specifiers::member_declarators-push-requires-then-not-stands-clause-parts : goal.specifiers::member_declarators-push-requires-then-not-stands-clause-parts
specifiers::member_declarators-push-requires-then-not-stands-clause-parts t c = (is_row_more _ _ _ _ _ c.declarators.invariant.parts c.in_ok-one.ensures.placed.keeps.longer c.in_ok-one.ensures.placed.last c.in_ok-push.ensures.ok).below

pub specifiers::member_declarators-declarators-preserved : goal.specifiers::member_declarators-declarators-preserved
specifiers::member_declarators-declarators-preserved t c = record { goes = record { on = λ y r. c.declarators.invariant.goes.on y (run_call c.in_ok-one.ensures.reads.is.run (run_look (run_set (run_free c.in_ok-bar.ensures.ok (run_take (sym c.stands.ensures.answer ∙ c.if-not-stands.false) tt (handed y (run_in c.drop_scope.ensures (members_shift c.past_token-context.ensures (row_more _ _ _ _ _ c.in_ok-one.ensures.placed.keeps c.declarators.invariant.parts c.in_ok-push.ensures.ok) r)))))))) }; keeps = keeps_all _ _ _ c.declarators.invariant.keeps c.in_ok-one.ensures.placed.keeps; below = c.in_ok-one.ensures.placed.below; kept = λ loose h. kept_more _ _ _ _ _ loose c.in_ok-push.ensures.ok (c.in_ok-one.ensures.placed.kept _ (c.declarators.invariant.kept loose h)); parts = (is_row_more _ _ _ _ _ c.declarators.invariant.parts c.in_ok-one.ensures.placed.keeps.longer c.in_ok-one.ensures.placed.last c.in_ok-push.ensures.ok).below; from = omega (arith, c.declarators.invariant.from, c.in_ok-one.ensures.placed.from); to = search rules }

pub declarators::declarator-returns-then-not-may_name-clause-reads : goal.declarators::declarator-returns-then-not-may_name-clause-reads
declarators::declarator-returns-then-not-may_name-clause-reads t c = through c.array_start.result (λ y h. run_here (run_pass (sym c.stands.ensures.answer ∙ c.if-stands.false) (run_pass (sym c.stands-2.ensures.answer ∙ c.if-stands-2.false) (run_no (sym c.may_name.ensures ∙ c.if-not-may_name.true) h)))) c.array_start.ensures.reads

pub declarators::declarator-returns-then-not-is_declared-clause-reads : goal.declarators::declarator-returns-then-not-is_declared-clause-reads
declarators::declarator-returns-then-not-is_declared-clause-reads t c = through c.array_start-then-not-is_declared.result (λ y h. run_here (run_pass (sym c.stands.ensures.answer ∙ c.if-stands.false) (run_pass (sym c.stands-2.ensures.answer ∙ c.if-stands-2.false) (run_yes (sym c.may_name.ensures ∙ c.if-not-may_name.false) (run_pass (sym c.is_declared.ensures.answer ∙ c.if-not-is_declared.true) h))))) c.array_start-then-not-is_declared.ensures.reads

pub declarators::declarator-returns-in_err-begin-clause-reads : goal.declarators::declarator-returns-in_err-begin-clause-reads
declarators::declarator-returns-in_err-begin-clause-reads t c = memory c.from_residual.result c.from_residual.ensures.1

pub declarators::declarator-returns-in_err-name-clause-reads : goal.declarators::declarator-returns-in_err-name-clause-reads
declarators::declarator-returns-in_err-name-clause-reads t c = exit c.from_residual-in_err-name.result _ c.from_residual-in_err-name.ensures.1 (no_memory c.in_err-name.ensures.err)

pub declarators::declarator-returns-clause-reads : goal.declarators::declarator-returns-clause-reads
declarators::declarator-returns-clause-reads t c = through c.declarator_suffixes.result (λ y h. run_here (run_pass (sym c.stands.ensures.answer ∙ c.if-stands.false) (run_pass (sym c.stands-2.ensures.answer ∙ c.if-stands-2.false) (run_yes (sym c.may_name.ensures ∙ c.if-not-may_name.false) (run_take (sym c.is_declared.ensures.answer ∙ c.if-not-is_declared.false) tt (run_look (run_set (run_here (handed y (shift (λ u. body (m.declarator_suffixes c.args.depth c.args.at u)) c.in_ok-name.ensures.tree c.in_ok-name.ensures.next (run_in c.in_ok-begin.ensures h))))))))))) c.declarator_suffixes.ensures.reads

pub declarators::declarator-returns-clause-placed : goal.declarators::declarator-returns-clause-placed
declarators::declarator-returns-clause-placed t c = placed_grown c.args.at c.declarator_suffixes.new.nodes [] (c.in_ok-name.name.node ∷ []) c.declarator_suffixes.result c.declarator_suffixes.ensures.grown (omega (arith, c.in_ok-name.ensures.ok.grows)) c.in_ok-name.ensures.ok.keeps (λ loose h. c.in_ok-name.ensures.ok.kept _ (omega (arith, c.in_ok-name.ensures.next, c.is_declared.ensures.inside c.if-not-is_declared.false)) loose h)

pub declarators::pointer-returns-in_err-room-clause-reads : goal.declarators::pointer-returns-in_err-room-clause-reads
declarators::pointer-returns-in_err-room-clause-reads t c = exit c.from_residual.result _ c.from_residual.ensures.1 (deep c.in_err-room.ensures.err (run_here (run_deep c.requires.star (no_room c.in_err-room.ensures.full))))

pub declarators::pointer-returns-then-ends_pointer-clause-reads : goal.declarators::pointer-returns-then-ends_pointer-clause-reads
declarators::pointer-returns-then-ends_pointer-clause-reads t c = finish c.leaf.new.nodes c.leaf.result c.leaf.ensures.err c.leaf.ensures.next c.leaf.ensures.tree (run_here (run_take c.requires.star c.in_ok-room.ensures.ok (run_call (c.qualifiers-next.ensures.read _ _).run (run_yes (c.ends_pointer.ensures.ends c.if-ends_pointer.true).omits (run_unseen ((c.ends_pointer.ensures.ends c.if-ends_pointer.true).other c.args.scopes.now) (run_here run_give))))))

pub declarators::pointer-returns-then-ends_pointer-clause-placed : goal.declarators::pointer-returns-then-ends_pointer-clause-placed
declarators::pointer-returns-then-ends_pointer-clause-placed t c = placed_push c.leaf.new.nodes [] [] c.leaf.result c.leaf.ensures.ok c.leaf.ensures.next (omega (arith, c.qualifiers-next.ensures.from)) c.qualifiers-next.ensures.to (keeps_none _) (λ loose h. h)

pub declarators::pointer-returns-in_err-to-clause-reads : goal.declarators::pointer-returns-in_err-to-clause-reads
declarators::pointer-returns-in_err-to-clause-reads t c = exit c.from_residual-in_err-to.result _ c.from_residual-in_err-to.ensures.1 (fails (rw c.past_token.ensures at c.in_err-to.ensures.reads.is) (λ x k h. run_here (run_take c.requires.star c.in_ok-room.ensures.ok (run_call (c.qualifiers-next.ensures.read _ _).run (points_on _ (c.ends_pointer.ensures.goes c.if-ends_pointer.false) (run_fail h))))))

pub declarators::pointer-returns-clause-reads : goal.declarators::pointer-returns-clause-reads
declarators::pointer-returns-clause-reads t c = finish c.over.new.nodes c.over.result c.over.ensures.err c.over.ensures.next c.over.ensures.tree (run_here (run_take c.requires.star c.in_ok-room.ensures.ok (run_call (c.qualifiers-next.ensures.read _ _).run (points_on _ (c.ends_pointer.ensures.goes c.if-ends_pointer.false) (run_call (rw c.past_token.ensures at c.in_ok-to.ensures.reads.is).run (pointer_ends _ c.pointer_kind-kind.ensures))))))

pub declarators::pointer-returns-clause-placed : goal.declarators::pointer-returns-clause-placed
declarators::pointer-returns-clause-placed t c = placed_push c.over.new.nodes [] (c.in_ok-to.to.node ∷ []) c.over.result c.over.ensures.ok c.over.ensures.next (omega (arith, c.qualifiers-next.ensures.from, c.in_ok-to.ensures.placed.from)) (omega (arith, c.in_ok-to.ensures.placed.to)) c.in_ok-to.ensures.placed.keeps c.in_ok-to.ensures.placed.kept

pub declarators::bracketed-returns-in_err-room-clause-reads : goal.declarators::bracketed-returns-in_err-room-clause-reads
declarators::bracketed-returns-in_err-room-clause-reads t c = exit c.from_residual.result _ c.from_residual.ensures.1 (deep c.in_err-room.ensures.err (run_here (run_pass c.requires.other (run_deep c.requires.bracket (no_room c.in_err-room.ensures.full)))))

pub declarators::bracketed-returns-in_err-inner-clause-reads : goal.declarators::bracketed-returns-in_err-inner-clause-reads
declarators::bracketed-returns-in_err-inner-clause-reads t c = exit c.from_residual-in_err-inner.result _ c.from_residual-in_err-inner.ensures.1 (fails (rw c.past_token.ensures at c.in_err-inner.ensures.reads.is) (λ x k h. run_here (run_pass c.requires.other (run_take c.requires.bracket c.in_ok-room.ensures.ok (run_fail h)))))

pub declarators::bracketed-returns-in_err-expect-clause-reads : goal.declarators::bracketed-returns-in_err-expect-clause-reads
declarators::bracketed-returns-in_err-expect-clause-reads t c = exit c.from_residual-in_err-expect.result _ c.from_residual-in_err-expect.ensures.1 (stops c.in_err-expect.ensures.err (run_here (run_pass c.requires.other (run_take c.requires.bracket c.in_ok-room.ensures.ok (run_call (rw c.past_token.ensures at c.in_ok-inner.ensures.reads.is).run (run_pass c.in_err-expect.ensures.other run_stop))))))

pub declarators::bracketed-returns-in_err-group-clause-reads : goal.declarators::bracketed-returns-in_err-group-clause-reads
declarators::bracketed-returns-in_err-group-clause-reads t c = exit c.from_residual-in_err-group.result _ c.from_residual-in_err-group.ensures.1 (no_memory c.in_err-group.ensures.err)

pub declarators::bracketed-returns-then-is_declarator-clause-reads : goal.declarators::bracketed-returns-then-is_declarator-clause-reads
declarators::bracketed-returns-then-is_declarator-clause-reads t c = through c.declarator_suffixes.result (λ y h. run_here (run_pass c.requires.other (run_take c.requires.bracket c.in_ok-room.ensures.ok (run_call (rw c.past_token.ensures at c.in_ok-inner.ensures.reads.is).run (run_take c.in_ok-expect.ensures.ok tt (run_yes (sym c.is_declarator.ensures ∙ c.if-is_declarator.true) (run_here (handed y (shift (λ u. body (m.declarator_suffixes c.args.depth c.args.start u)) c.in_ok-group.ensures.tree c.in_ok-group.ensures.next h))))))))) c.declarator_suffixes.ensures.reads

pub declarators::bracketed-returns-then-is_declarator-clause-placed : goal.declarators::bracketed-returns-then-is_declarator-clause-placed
declarators::bracketed-returns-then-is_declarator-clause-placed t c = placed_grown c.args.start c.declarator_suffixes.new.nodes [] (c.in_ok-group.group.node ∷ []) c.declarator_suffixes.result c.declarator_suffixes.ensures.grown (omega (arith, c.in_ok-group.ensures.ok.grows, c.in_ok-inner.ensures.placed.keeps.longer)) (keeps_all _ _ _ c.in_ok-inner.ensures.placed.keeps c.in_ok-group.ensures.ok.keeps) (λ loose h. c.in_ok-group.ensures.ok.kept _ (omega (arith, c.in_ok-group.ensures.next, c.in_ok-expect.ensures.inside)) loose (c.in_ok-inner.ensures.placed.kept loose h))

pub declarators::bracketed-returns-in_err-group-2-clause-reads : goal.declarators::bracketed-returns-in_err-group-2-clause-reads
declarators::bracketed-returns-in_err-group-2-clause-reads t c = exit c.from_residual-in_err-group-2.result _ c.from_residual-in_err-group-2.ensures.1 (no_memory c.in_err-group-2.ensures.err)

pub declarators::bracketed-returns-clause-reads : goal.declarators::bracketed-returns-clause-reads
declarators::bracketed-returns-clause-reads t c = through c.abstract_suffixes.result (λ y h. run_here (run_pass c.requires.other (run_take c.requires.bracket c.in_ok-room.ensures.ok (run_call (rw c.past_token.ensures at c.in_ok-inner.ensures.reads.is).run (run_take c.in_ok-expect.ensures.ok tt (run_no (sym c.is_declarator.ensures ∙ c.if-is_declarator.false) (run_here (handed y (shift (λ u. body (m.abstract_suffixes c.args.depth c.args.start u)) c.in_ok-group-2.ensures.tree c.in_ok-group-2.ensures.next h))))))))) c.abstract_suffixes.ensures.reads

pub declarators::bracketed-returns-clause-placed : goal.declarators::bracketed-returns-clause-placed
declarators::bracketed-returns-clause-placed t c = placed_grown c.args.start c.abstract_suffixes.new.nodes [] (c.in_ok-group-2.group.node ∷ []) c.abstract_suffixes.result c.abstract_suffixes.ensures.grown (omega (arith, c.in_ok-group-2.ensures.ok.grows, c.in_ok-inner.ensures.placed.keeps.longer)) (keeps_all _ _ _ c.in_ok-inner.ensures.placed.keeps c.in_ok-group-2.ensures.ok.keeps) (λ loose h. c.in_ok-group-2.ensures.ok.kept _ (omega (arith, c.in_ok-group-2.ensures.next, c.in_ok-expect.ensures.inside)) loose (c.in_ok-inner.ensures.placed.kept loose h))

pub declarators::array_start-returns-then-not-may_omit-clause-reads : goal.declarators::array_start-returns-then-not-may_omit-clause-reads
declarators::array_start-returns-then-not-may_omit-clause-reads t c = record { is = stops c.refused.ensures (run_no (sym c.may_omit.ensures ∙ c.if-not-may_omit.true) run_stop) }

pub declarators::array_start-returns-then-not-stands-clause-reads : goal.declarators::array_start-returns-then-not-stands-clause-reads
declarators::array_start-returns-then-not-stands-clause-reads t c = record { is = stops c.refused-then-not-stands.ensures (run_yes (sym c.may_omit.ensures ∙ c.if-not-may_omit.false) (run_pass (sym c.stands.ensures.answer ∙ c.if-not-stands.true) run_stop)) }

pub declarators::array_start-returns-in_err-room-clause-reads : goal.declarators::array_start-returns-in_err-room-clause-reads
declarators::array_start-returns-in_err-room-clause-reads t c = exit c.from_residual.result _ c.from_residual.ensures.1 (deep c.in_err-room.ensures.err (run_yes (sym c.may_omit.ensures ∙ c.if-not-may_omit.false) (run_deep (sym c.stands.ensures.answer ∙ c.if-not-stands.false) (no_room c.in_err-room.ensures.full))))

pub declarators::array_start-returns-in_err-size-clause-reads : goal.declarators::array_start-returns-in_err-size-clause-reads
declarators::array_start-returns-in_err-size-clause-reads t c = exit c.from_residual-in_err-size.result _ c.from_residual-in_err-size.ensures.1 (fails (c.in_err-size.ensures.reads.is) (λ x k h. run_yes (sym c.may_omit.ensures ∙ c.if-not-may_omit.false) (run_take (sym c.stands.ensures.answer ∙ c.if-not-stands.false) c.in_ok-room.ensures.ok (run_fail h))))

pub declarators::array_start-returns-in_err-first-clause-reads : goal.declarators::array_start-returns-in_err-first-clause-reads
declarators::array_start-returns-in_err-first-clause-reads t c = exit c.from_residual-in_err-first.result _ c.from_residual-in_err-first.ensures.1 (no_memory c.in_err-first.ensures.err)

pub declarators::array_start-returns-clause-reads : goal.declarators::array_start-returns-clause-reads
declarators::array_start-returns-clause-reads t c = through c.abstract_suffixes.result (λ y h. run_yes (sym c.may_omit.ensures ∙ c.if-not-may_omit.false) (run_take (sym c.stands.ensures.answer ∙ c.if-not-stands.false) c.in_ok-room.ensures.ok (run_call c.in_ok-size.ensures.reads.is.run (run_here (handed y (shift (λ u. body (m.abstract_suffixes c.args.depth c.args.at u)) c.in_ok-first.ensures.tree c.in_ok-first.ensures.next h)))))) c.abstract_suffixes.ensures.reads

pub declarators::array_start-returns-clause-placed : goal.declarators::array_start-returns-clause-placed
declarators::array_start-returns-clause-placed t c = placed_grown c.args.at c.abstract_suffixes.new.nodes [] (c.in_ok-first.first.node ∷ []) c.abstract_suffixes.result c.abstract_suffixes.ensures.grown (omega (arith, c.in_ok-first.ensures.ok.grows, c.in_ok-size.ensures.placed.keeps.longer)) (keeps_all _ _ _ c.in_ok-size.ensures.placed.keeps c.in_ok-first.ensures.ok.keeps) (λ loose h. c.in_ok-first.ensures.ok.kept _ (omega (arith, c.in_ok-first.ensures.next, c.in_ok-size.ensures.placed.to)) loose (c.in_ok-size.ensures.placed.kept loose h))

pub operands::suffixes-suffixes-init : goal.operands::suffixes-suffixes-init
operands::suffixes-suffixes-init t c = record { goes = record { on = λ y r. r }; grown = record { last = c.requires.node; keeps = keeps_none _; below = c.requires.below; kept = λ loose h. h; from = c.requires.start; to = c.requires.at }; far = omega arith }

pub operands::suffixes-returns-in_err-longer-clause-reads : goal.operands::suffixes-returns-in_err-longer-clause-reads
operands::suffixes-returns-in_err-longer-clause-reads t c = exit c.from_residual.result _ c.from_residual.ensures.1 (fails (c.in_err-longer.ensures.reads.is) (λ x k h. c.suffixes.invariant.goes.on _ h))

pub operands::suffixes-suffixes-preserved : goal.operands::suffixes-suffixes-preserved
operands::suffixes-suffixes-preserved t c = let step = (rw c.in-Some.is at c.in_ok-longer.ensures.reads.is) in let put = (rw c.in-Some.is at c.in_ok-longer.ensures.placed) in record { goes = record { on = λ y r. c.suffixes.invariant.goes.on y (step.on y r) }; grown = record { last = put.last; keeps = keeps_all _ _ _ c.suffixes.invariant.grown.keeps put.keeps; below = put.below; kept = λ loose h. put.kept loose (c.suffixes.invariant.grown.kept loose h); from = omega (arith, put.from, c.suffixes.invariant.grown.from); to = put.to }; far = omega (arith, put.from, c.suffixes.invariant.far) }

pub operands::suffixes-returns-then-is_identifier-clause-reads : goal.operands::suffixes-returns-then-is_identifier-clause-reads
operands::suffixes-returns-then-is_identifier-clause-reads t c = let same = (rw c.in_default.is at c.in_ok-longer.ensures.none) in record { is = record { run = done_as (rw same.0 refl) (done_in same.1 (c.suffixes.invariant.goes.on _ ((rw c.in_default.is at c.in_ok-longer.ensures.reads.is).on _ (run_yes (rw same.0 at (sym c.is_identifier.ensures ∙ c.if-is_identifier.true)) run_give)))) } }

pub operands::suffixes-returns-in_err-bar-clause-reads : goal.operands::suffixes-returns-in_err-bar-clause-reads
operands::suffixes-returns-in_err-bar-clause-reads t c = let same = (rw c.in_default.is at c.in_ok-longer.ensures.none) in exit c.from_residual-in_err-bar.result _ c.from_residual-in_err-bar.ensures.1 (stops c.in_err-bar.ensures.err (c.suffixes.invariant.goes.on _ ((rw c.in_default.is at c.in_ok-longer.ensures.reads.is).on _ (run_no (rw same.0 at (sym c.is_identifier.ensures ∙ c.if-is_identifier.false)) (run_bar c.in_err-bar.ensures.stands)))))

pub operands::suffixes-returns-clause-reads : goal.operands::suffixes-returns-clause-reads
operands::suffixes-returns-clause-reads t c = let same = (rw c.in_default.is at c.in_ok-longer.ensures.none) in record { is = record { run = done_as (rw same.0 refl) (done_in same.1 (c.suffixes.invariant.goes.on _ ((rw c.in_default.is at c.in_ok-longer.ensures.reads.is).on _ (run_no (rw same.0 at (sym c.is_identifier.ensures ∙ c.if-is_identifier.false)) (run_free c.in_ok-bar.ensures.ok run_give))))) } }

pub declarators::declarator_suffixes-suffixes-init : goal.declarators::declarator_suffixes-suffixes-init
declarators::declarator_suffixes-suffixes-init t c = record { goes = record { on = λ y r. r }; grown = record { last = c.requires.node; keeps = keeps_none _; below = c.requires.below; kept = λ loose h. h; from = c.requires.start; to = c.requires.at }; far = omega arith }

pub declarators::declarator_suffixes-returns-in_err-longer-clause-reads : goal.declarators::declarator_suffixes-returns-in_err-longer-clause-reads
declarators::declarator_suffixes-returns-in_err-longer-clause-reads t c = exit c.from_residual.result _ c.from_residual.ensures.1 (fails (c.in_err-longer.ensures.reads.is) (λ x k h. c.suffixes.invariant.goes.on _ h))

pub declarators::declarator_suffixes-suffixes-preserved : goal.declarators::declarator_suffixes-suffixes-preserved
declarators::declarator_suffixes-suffixes-preserved t c = let step = (rw c.in-Some.is at c.in_ok-longer.ensures.reads.is) in let put = (rw c.in-Some.is at c.in_ok-longer.ensures.placed) in record { goes = record { on = λ y r. c.suffixes.invariant.goes.on y (step.on y r) }; grown = record { last = put.last; keeps = keeps_all _ _ _ c.suffixes.invariant.grown.keeps put.keeps; below = put.below; kept = λ loose h. put.kept loose (c.suffixes.invariant.grown.kept loose h); from = omega (arith, put.from, c.suffixes.invariant.grown.from); to = put.to }; far = omega (arith, put.from, c.suffixes.invariant.far) }

pub declarators::declarator_suffixes-returns-clause-reads : goal.declarators::declarator_suffixes-returns-clause-reads
declarators::declarator_suffixes-returns-clause-reads t c = let same = (rw c.in_default.is at c.in_ok-longer.ensures.none) in record { is = record { run = done_as (rw same.0 refl) (done_in same.1 (c.suffixes.invariant.goes.on _ ((rw c.in_default.is at c.in_ok-longer.ensures.reads.is).on _ run_give))) } }

pub declarators::abstract_suffixes-suffixes-init : goal.declarators::abstract_suffixes-suffixes-init
declarators::abstract_suffixes-suffixes-init t c = record { goes = record { on = λ y r. r }; grown = record { last = c.requires.node; keeps = keeps_none _; below = c.requires.below; kept = λ loose h. h; from = c.requires.start; to = c.requires.at }; far = omega arith }

pub declarators::abstract_suffixes-returns-in_err-room-clause-reads : goal.declarators::abstract_suffixes-returns-in_err-room-clause-reads
declarators::abstract_suffixes-returns-in_err-room-clause-reads t c = exit c.from_residual.result _ c.from_residual.ensures.1 (deep c.in_err-room.ensures.err (c.suffixes.invariant.goes.on _ (run_deep (sym c.stands.ensures.answer ∙ c.suffixes-test.true) (no_room c.in_err-room.ensures.full))))

pub declarators::abstract_suffixes-returns-in_err-size-clause-reads : goal.declarators::abstract_suffixes-returns-in_err-size-clause-reads
declarators::abstract_suffixes-returns-in_err-size-clause-reads t c = exit c.from_residual-in_err-size.result _ c.from_residual-in_err-size.ensures.1 (fails (c.in_err-size.ensures.reads.is) (λ x k h. c.suffixes.invariant.goes.on _ (run_take (sym c.stands.ensures.answer ∙ c.suffixes-test.true) c.in_ok-room.ensures.ok (run_fail h))))

pub declarators::abstract_suffixes-returns-in_err-left-clause-reads : goal.declarators::abstract_suffixes-returns-in_err-left-clause-reads
declarators::abstract_suffixes-returns-in_err-left-clause-reads t c = exit c.from_residual-in_err-left.result _ c.from_residual-in_err-left.ensures.1 (no_memory c.in_err-left.ensures.err)

pub declarators::abstract_suffixes-suffixes-preserved : goal.declarators::abstract_suffixes-suffixes-preserved
declarators::abstract_suffixes-suffixes-preserved t c = let e = tree_kept c.suffixes.nodes c.size.new.nodes c.suffixes.left.node c.in_ok-size.ensures.placed.keeps (omega (arith, c.suffixes.invariant.grown.last)) in let q : tree c.pair_optional.new.nodes c.in_ok-left.left.node ≡ one kind.AbstractArrayOf c.args.start c.in_ok-size.size.next (tree c.suffixes.nodes c.suffixes.left.node & row_in c.size.new.nodes (option_to_list c.in_ok-size.size.node)) = c.in_ok-left.ensures.tree ∙ ap (λ (x : Trees). one kind.AbstractArrayOf c.args.start c.in_ok-size.size.next (x & row_in c.size.new.nodes (option_to_list c.in_ok-size.size.node))) e in record { goes = record { on = λ y r. c.suffixes.invariant.goes.on y (run_take (sym c.stands.ensures.answer ∙ c.suffixes-test.true) c.in_ok-room.ensures.ok (run_call c.in_ok-size.ensures.reads.is.run (run_here (handed y (shift (λ u. body (m.abstract_suffixes c.args.depth c.args.start u)) q c.in_ok-left.ensures.next r))))) }; grown = record { last = omega (arith, c.in_ok-left.ensures.ok.last, c.in_ok-left.ensures.ok.grows); keeps = keeps_all _ _ _ (keeps_all _ _ _ c.suffixes.invariant.grown.keeps c.in_ok-size.ensures.placed.keeps) c.in_ok-left.ensures.ok.keeps; below = c.in_ok-left.ensures.ok.below; kept = λ loose h. c.in_ok-left.ensures.ok.kept _ (omega (arith, c.in_ok-left.ensures.next, c.in_ok-size.ensures.placed.to)) loose (kept_behind _ _ _ loose _ (c.in_ok-size.ensures.placed.kept _ (c.suffixes.invariant.grown.kept loose h))); from = omega (arith, c.in_ok-left.ensures.next, c.in_ok-size.ensures.placed.from, c.suffixes.invariant.grown.from); to = omega (arith, c.in_ok-left.ensures.next, c.in_ok-size.ensures.placed.to) }; far = omega (arith, c.in_ok-left.ensures.next, c.in_ok-size.ensures.placed.from, c.suffixes.invariant.far) }

pub declarators::abstract_suffixes-returns-clause-reads : goal.declarators::abstract_suffixes-returns-clause-reads
declarators::abstract_suffixes-returns-clause-reads t c = record { is = record { run = c.suffixes.invariant.goes.on _ (run_pass (sym c.stands.ensures.answer ∙ c.suffixes-test.false) run_give) } }

pub operands::suffix-returns-in_err-longer-clause-reads : goal.operands::suffix-returns-in_err-longer-clause-reads
operands::suffix-returns-in_err-longer-clause-reads t c = exit c.from_residual.result _ c.from_residual.ensures.1 (c.in_err-longer.ensures.reads.is)

pub operands::suffix-returns-then-stands-clause-reads : goal.operands::suffix-returns-then-stands-clause-reads
operands::suffix-returns-then-stands-clause-reads t c = record { is = c.in_ok-longer.ensures.reads.is }

pub operands::suffix-returns-clause-reads : goal.operands::suffix-returns-clause-reads
operands::suffix-returns-clause-reads t c = c.plain_suffix.ensures.reads _

pub declarators::declarator_suffix-returns-in_err-longer-clause-reads : goal.declarators::declarator_suffix-returns-in_err-longer-clause-reads
declarators::declarator_suffix-returns-in_err-longer-clause-reads t c = exit c.from_residual.result _ c.from_residual.ensures.1 (c.in_err-longer.ensures.reads.is)

pub declarators::declarator_suffix-returns-then-stands-clause-reads : goal.declarators::declarator_suffix-returns-then-stands-clause-reads
declarators::declarator_suffix-returns-then-stands-clause-reads t c = record { is = c.in_ok-longer.ensures.reads.is }

pub declarators::declarator_suffix-returns-in_err-longer-2-clause-reads : goal.declarators::declarator_suffix-returns-in_err-longer-2-clause-reads
declarators::declarator_suffix-returns-in_err-longer-2-clause-reads t c = exit c.from_residual-in_err-longer-2.result _ c.from_residual-in_err-longer-2.ensures.1 (c.in_err-longer-2.ensures.reads.is)

pub declarators::declarator_suffix-returns-then-stands-2-clause-reads : goal.declarators::declarator_suffix-returns-then-stands-2-clause-reads
declarators::declarator_suffix-returns-then-stands-2-clause-reads t c = record { is = c.in_ok-longer-2.ensures.reads.is }

pub declarators::declarator_suffix-returns-clause-reads : goal.declarators::declarator_suffix-returns-clause-reads
declarators::declarator_suffix-returns-clause-reads t c = record { is = record { on = λ y r. run_pass (sym c.stands.ensures.answer ∙ c.if-stands.false) (run_pass (sym c.stands-2.ensures.answer ∙ c.if-stands-2.false) r) } }

pub operands::subscript-returns-in_err-room-clause-reads : goal.operands::subscript-returns-in_err-room-clause-reads
operands::subscript-returns-in_err-room-clause-reads t c = exit c.from_residual.result _ c.from_residual.ensures.1 (deep c.in_err-room.ensures.err (run_deep c.requires.bracket (no_room c.in_err-room.ensures.full)))

pub operands::subscript-returns-in_err-inner-clause-reads : goal.operands::subscript-returns-in_err-inner-clause-reads
operands::subscript-returns-in_err-inner-clause-reads t c = exit c.from_residual-in_err-inner.result _ c.from_residual-in_err-inner.ensures.1 (fails (c.in_err-inner.ensures.reads.is) (λ x k h. run_take c.requires.bracket c.in_ok-room.ensures.ok (run_fail h)))

pub operands::subscript-returns-in_err-expect-clause-reads : goal.operands::subscript-returns-in_err-expect-clause-reads
operands::subscript-returns-in_err-expect-clause-reads t c = exit c.from_residual-in_err-expect.result _ c.from_residual-in_err-expect.ensures.1 (stops c.in_err-expect.ensures.err (run_take c.requires.bracket c.in_ok-room.ensures.ok (run_call c.in_ok-inner.ensures.reads.is.run (run_pass c.in_err-expect.ensures.other run_stop))))

pub operands::subscript-returns-clause-reads : goal.operands::subscript-returns-clause-reads
operands::subscript-returns-clause-reads t c = goes_on (λ u. body (m.suffixes c.args.depth c.args.start u)) c.pair.new.nodes c.pair.result c.pair.ensures.err c.pair.ensures.next c.pair.ensures.tree (record { on = λ y r. run_take c.requires.bracket c.in_ok-room.ensures.ok (run_call c.in_ok-inner.ensures.reads.is.run (run_take c.in_ok-expect.ensures.ok tt (run_here (handed y (shift (λ u. body (m.suffixes c.args.depth c.args.start u)) (ap (λ (x : Trees). one kind.Subscript c.args.start (c.in_ok-inner.inner.next + 1) (x & tree c.expression.new.nodes c.in_ok-inner.inner.node & none)) (tree_kept _ _ c.args.left.node c.in_ok-inner.ensures.placed.keeps (omega (arith, c.requires.node)))) refl r))))) })

pub operands::subscript-returns-clause-placed : goal.operands::subscript-returns-clause-placed
operands::subscript-returns-clause-placed t c = placed_push c.pair.new.nodes (c.args.left.node ∷ []) (c.in_ok-inner.inner.node ∷ c.args.left.node ∷ []) c.pair.result c.pair.ensures.ok c.pair.ensures.next (omega (arith, c.in_ok-inner.ensures.placed.from)) (omega (arith, c.in_ok-expect.ensures.inside)) c.in_ok-inner.ensures.placed.keeps (λ loose h. c.in_ok-inner.ensures.placed.kept _ h)

pub declarators::array-returns-in_err-room-clause-reads : goal.declarators::array-returns-in_err-room-clause-reads
declarators::array-returns-in_err-room-clause-reads t c = exit c.from_residual.result _ c.from_residual.ensures.1 (deep c.in_err-room.ensures.err (run_deep c.requires.bracket (no_room c.in_err-room.ensures.full)))

pub declarators::array-returns-in_err-size-clause-reads : goal.declarators::array-returns-in_err-size-clause-reads
declarators::array-returns-in_err-size-clause-reads t c = exit c.from_residual-in_err-size.result _ c.from_residual-in_err-size.ensures.1 (fails (c.in_err-size.ensures.reads.is) (λ x k h. run_take c.requires.bracket c.in_ok-room.ensures.ok (run_look (run_set (run_fail (run_in c.taken-own.ensures.rest h))))))

pub declarators::array-returns-in_err-give_back-clause-reads : goal.declarators::array-returns-in_err-give_back-clause-reads
declarators::array-returns-in_err-give_back-clause-reads t c = memory c.from_residual-in_err-give_back.result c.from_residual-in_err-give_back.ensures.1

pub declarators::array-returns-clause-reads : goal.declarators::array-returns-clause-reads
declarators::array-returns-clause-reads t c = goes_on (λ u. body (m.declarator_suffixes c.args.depth c.args.start u)) c.pair_optional.new.nodes c.pair_optional.result c.pair_optional.ensures.err c.pair_optional.ensures.next c.pair_optional.ensures.tree (record { on = λ y r. run_take c.requires.bracket c.in_ok-room.ensures.ok (run_look (run_set (run_call (run_in c.taken-own.ensures.rest c.in_ok-size.ensures.reads.is.run) (run_look (run_set (run_here (handed y (run_in (own_scopes c.args.scopes.now c.in_ok-give_back.ensures c.taken-own.ensures.value) (shift (λ u. body (m.declarator_suffixes c.args.depth c.args.start u)) (ap (λ (x : Trees). one kind.ArrayDeclarator c.args.start c.in_ok-size.size.next (x & row_in c.size.new.nodes (option_to_list c.in_ok-size.size.node))) (tree_kept _ _ c.args.left.node c.in_ok-size.ensures.placed.keeps (omega (arith, c.requires.node)))) refl r))))))))) })

pub declarators::array-returns-clause-placed : goal.declarators::array-returns-clause-placed
declarators::array-returns-clause-placed t c = placed_push c.pair_optional.new.nodes (c.args.left.node ∷ []) (option_to_list c.in_ok-size.size.node ++ c.args.left.node ∷ []) c.pair_optional.result c.pair_optional.ensures.ok c.pair_optional.ensures.next (omega (arith, c.in_ok-size.ensures.placed.from)) c.in_ok-size.ensures.placed.to c.in_ok-size.ensures.placed.keeps (λ loose h. kept_behind _ _ _ loose _ (c.in_ok-size.ensures.placed.kept _ h))

pub declarators::function-returns-in_err-room-clause-reads : goal.declarators::function-returns-in_err-room-clause-reads
declarators::function-returns-in_err-room-clause-reads t c = exit c.from_residual.result _ c.from_residual.ensures.1 (deep c.in_err-room.ensures.err (run_pass c.requires.other (run_deep c.requires.bracket (no_room c.in_err-room.ensures.full))))

pub declarators::function-returns-then-stands-clause-reads : goal.declarators::function-returns-then-stands-clause-reads
declarators::function-returns-then-stands-clause-reads t c = goes_on (λ u. body (m.declarator_suffixes c.args.depth c.args.start u)) c.over.new.nodes c.over.result c.over.ensures.err c.over.ensures.next c.over.ensures.tree (record { on = λ y r. run_pass c.requires.other (run_take c.requires.bracket c.in_ok-room.ensures.ok (run_take (sym c.stands.ensures.answer ∙ c.if-stands.true) tt (run_here (handed y r)))) })

pub declarators::function-returns-then-stands-clause-placed : goal.declarators::function-returns-then-stands-clause-placed
declarators::function-returns-then-stands-clause-placed t c = placed_push c.over.new.nodes (c.args.left.node ∷ []) (c.args.left.node ∷ []) c.over.result c.over.ensures.ok c.over.ensures.next (omega arith) (search rules) (keeps_none _) (λ loose h. h)

pub declarators::function-returns-in_err-begin-clause-reads : goal.declarators::function-returns-in_err-begin-clause-reads
declarators::function-returns-in_err-begin-clause-reads t c = memory c.from_residual-in_err-begin.result c.from_residual-in_err-begin.ensures.1

pub declarators::function-returns-in_err-list-clause-reads : goal.declarators::function-returns-in_err-list-clause-reads
declarators::function-returns-in_err-list-clause-reads t c = exit c.from_residual-in_err-list.result _ c.from_residual-in_err-list.ensures.1 (fails (c.in_err-list.ensures.reads.is) (λ x k h. run_pass c.requires.other (run_take c.requires.bracket c.in_ok-room.ensures.ok (run_pass (sym c.stands.ensures.answer ∙ c.if-stands.false) (run_look (run_set (run_fail (run_in (let e = c.in_ok-begin.ensures in let g = c.taken-own.ensures.rest in cc) h))))))))

pub declarators::function-returns-in_err-give_back-clause-reads : goal.declarators::function-returns-in_err-give_back-clause-reads
declarators::function-returns-in_err-give_back-clause-reads t c = memory c.from_residual-in_err-give_back.result c.from_residual-in_err-give_back.ensures.1

pub declarators::function-returns-in_err-expect-clause-reads : goal.declarators::function-returns-in_err-expect-clause-reads
declarators::function-returns-in_err-expect-clause-reads t c = exit c.from_residual-in_err-expect.result _ c.from_residual-in_err-expect.ensures.1 (stops c.in_err-expect.ensures.err (run_pass c.requires.other (run_take c.requires.bracket c.in_ok-room.ensures.ok (run_pass (sym c.stands.ensures.answer ∙ c.if-stands.false) (run_look (run_set (run_call (run_in (let e = c.in_ok-begin.ensures in let g = c.taken-own.ensures.rest in cc) c.in_ok-list.ensures.reads.is.run) (run_look (run_set (run_pass c.in_err-expect.ensures.other run_stop))))))))))

pub declarators::function-returns-clause-reads : goal.declarators::function-returns-clause-reads
declarators::function-returns-clause-reads t c = goes_on (λ u. body (m.declarator_suffixes c.args.depth c.args.start u)) c.pair.new.nodes c.pair.result c.pair.ensures.err c.pair.ensures.next c.pair.ensures.tree (record { on = λ y r. run_pass c.requires.other (run_take c.requires.bracket c.in_ok-room.ensures.ok (run_pass (sym c.stands.ensures.answer ∙ c.if-stands.false) (run_look (run_set (run_call (run_in (let e = c.in_ok-begin.ensures in let g = c.taken-own.ensures.rest in cc) c.in_ok-list.ensures.reads.is.run) (run_look (run_set (run_take c.in_ok-expect.ensures.ok tt (run_here (handed y (run_in (kept_scopes (tree c.parameters.new.nodes c.args.left.node) (tree c.args.nodes.now c.args.left.node) c.parameters.new.scopes c.args.scopes.now c.in_ok-give_back.ensures c.kept.ensures (tree_kept _ _ c.args.left.node c.in_ok-list.ensures.placed.keeps (omega (arith, c.requires.node))) c.taken-names.ensures.value c.taken-own.ensures.value c.taken-names.ensures.rest) (shift (λ u. body (m.declarator_suffixes c.args.depth c.args.start u)) (ap (λ (x : Trees). one kind.FunctionDeclarator c.args.start (c.in_ok-list.list.next + 1) (x & tree c.parameters.new.nodes c.in_ok-list.list.node & none)) (tree_kept _ _ c.args.left.node c.in_ok-list.ensures.placed.keeps (omega (arith, c.requires.node)))) refl r)))))))))))) })

pub declarators::function-returns-clause-placed : goal.declarators::function-returns-clause-placed
declarators::function-returns-clause-placed t c = placed_push c.pair.new.nodes (c.args.left.node ∷ []) (c.in_ok-list.list.node ∷ c.args.left.node ∷ []) c.pair.result c.pair.ensures.ok c.pair.ensures.next (omega (arith, c.in_ok-list.ensures.placed.from)) (omega (arith, c.in_ok-expect.ensures.inside)) c.in_ok-list.ensures.placed.keeps (λ loose h. c.in_ok-list.ensures.placed.kept _ h)

pub declarators::size-returns-then-stands-clause-reads : goal.declarators::size-returns-then-stands-clause-reads
declarators::size-returns-then-stands-clause-reads t c = record { is = record { run = run_take (sym c.stands.ensures.answer ∙ c.if-stands.true) tt run_give } }

pub declarators::size-returns-in_err-value-clause-reads : goal.declarators::size-returns-in_err-value-clause-reads
declarators::size-returns-in_err-value-clause-reads t c = exit c.from_residual.result _ c.from_residual.ensures.1 (fails (c.in_err-value.ensures.reads.is) (λ x k h. run_pass (sym c.stands.ensures.answer ∙ c.if-stands.false) (run_fail h)))

pub declarators::size-returns-in_err-expect-clause-reads : goal.declarators::size-returns-in_err-expect-clause-reads
declarators::size-returns-in_err-expect-clause-reads t c = exit c.from_residual-in_err-expect.result _ c.from_residual-in_err-expect.ensures.1 (stops c.in_err-expect.ensures.err (run_pass (sym c.stands.ensures.answer ∙ c.if-stands.false) (run_call c.in_ok-value.ensures.reads.is.run (run_pass c.in_err-expect.ensures.other run_stop))))

pub declarators::size-returns-clause-reads : goal.declarators::size-returns-clause-reads
declarators::size-returns-clause-reads t c = record { is = record { run = run_pass (sym c.stands.ensures.answer ∙ c.if-stands.false) (run_call c.in_ok-value.ensures.reads.is.run (run_take c.in_ok-expect.ensures.ok tt run_give)) } }

pub declarators::parameters-returns-in_err-first-clause-reads : goal.declarators::parameters-returns-in_err-first-clause-reads
declarators::parameters-returns-in_err-first-clause-reads t c = exit c.from_residual.result _ c.from_residual.ensures.1 (fails (c.in_err-first.ensures.reads.is) (λ x k h. run_here (run_fail h)))

pub declarators::parameters-returns-in_err-parts-clause-reads : goal.declarators::parameters-returns-in_err-parts-clause-reads
declarators::parameters-returns-in_err-parts-clause-reads t c = exit c.from_residual-in_err-parts.result _ c.from_residual-in_err-parts.ensures.1 (no_memory c.in_err-parts.ensures.err)

pub declarators::parameters-parameters-init : goal.declarators::parameters-parameters-init
declarators::parameters-parameters-init t c = record { goes = record { on = λ y r. run_here (run_call c.in_ok-first.ensures.reads.is.run (handed y (shift (λ u. body (m.more_parameters c.args.depth c.args.at u)) (row_single _ _ _ c.in_ok-parts.ensures.ok) refl r))) }; row = is_row_single _ _ _ c.in_ok-parts.ensures.ok c.in_ok-first.ensures.placed.last; grows = c.in_ok-first.ensures.placed.grows; keeps = c.in_ok-first.ensures.placed.keeps; below = c.in_ok-first.ensures.placed.below; kept = λ loose h. kept_row _ _ _ _ loose c.in_ok-parts.ensures.ok (c.in_ok-first.ensures.placed.kept loose h); from = c.in_ok-first.ensures.placed.from; to = c.in_ok-first.ensures.placed.to }

pub declarators::parameters-returns-then-stands-clause-reads : goal.declarators::parameters-returns-then-stands-clause-reads
declarators::parameters-returns-then-stands-clause-reads t c = finish c.push.new.nodes c.push.result c.push.ensures.err c.push.ensures.next c.push.ensures.tree (c.parameters.invariant.goes.on _ (run_take (sym c.stands.ensures.answer ∙ c.parameters-test.true) tt (run_take (sym c.stands-in-parameters.ensures.answer ∙ c.if-stands.true) tt (run_here run_give))))

pub declarators::parameters-returns-then-stands-clause-placed : goal.declarators::parameters-returns-then-stands-clause-placed
declarators::parameters-returns-then-stands-clause-placed t c = placed_push c.push.new.nodes [] (reverse c.parameters.parts) c.push.result c.push.ensures.ok c.push.ensures.next (omega (arith, c.parameters.invariant.from)) (search rules) c.parameters.invariant.keeps c.parameters.invariant.kept

pub declarators::parameters-returns-in_err-more-clause-reads : goal.declarators::parameters-returns-in_err-more-clause-reads
declarators::parameters-returns-in_err-more-clause-reads t c = exit c.from_residual-in_err-more.result _ c.from_residual-in_err-more.ensures.1 (fails (c.in_err-more.ensures.reads.is) (λ x k h. c.parameters.invariant.goes.on _ (run_take (sym c.stands.ensures.answer ∙ c.parameters-test.true) tt (run_pass (sym c.stands-in-parameters.ensures.answer ∙ c.if-stands.false) (run_fail h)))))

pub declarators::parameters-returns-in_err-push-clause-reads : goal.declarators::parameters-returns-in_err-push-clause-reads
declarators::parameters-returns-in_err-push-clause-reads t c = memory c.from_residual-in_err-push.result c.from_residual-in_err-push.ensures.1

pub declarators::parameters-parameters-preserved : goal.declarators::parameters-parameters-preserved
declarators::parameters-parameters-preserved t c = record { goes = record { on = λ y r. c.parameters.invariant.goes.on y (run_take (sym c.stands.ensures.answer ∙ c.parameters-test.true) tt (run_pass (sym c.stands-in-parameters.ensures.answer ∙ c.if-stands.false) (run_call c.in_ok-more.ensures.reads.is.run (handed y (shift (λ u. body (m.more_parameters c.args.depth c.args.at u)) (row_more _ _ _ _ _ c.in_ok-more.ensures.placed.keeps c.parameters.invariant.row.below c.in_ok-push.ensures.ok) refl r))))) }; row = (is_row_more _ _ _ _ _ c.parameters.invariant.row.below c.in_ok-more.ensures.placed.keeps.longer c.in_ok-more.ensures.placed.last c.in_ok-push.ensures.ok); grows = omega (arith, c.parameters.invariant.grows, c.in_ok-more.ensures.placed.grows); keeps = keeps_all _ _ _ c.parameters.invariant.keeps c.in_ok-more.ensures.placed.keeps; below = c.in_ok-more.ensures.placed.below; kept = λ loose h. kept_more _ _ _ _ _ loose c.in_ok-push.ensures.ok (c.in_ok-more.ensures.placed.kept _ (c.parameters.invariant.kept loose h)); from = omega (arith, c.parameters.invariant.from, c.in_ok-more.ensures.placed.from); to = c.in_ok-more.ensures.placed.to }

pub declarators::parameters-returns-clause-reads : goal.declarators::parameters-returns-clause-reads
declarators::parameters-returns-clause-reads t c = finish c.gathered_parameters.new.nodes c.gathered_parameters.result c.gathered_parameters.ensures.err c.gathered_parameters.ensures.next c.gathered_parameters.ensures.tree (c.parameters.invariant.goes.on _ (run_pass (sym c.stands.ensures.answer ∙ c.parameters-test.false) (run_here run_give)))

pub declarators::parameters-returns-clause-placed : goal.declarators::parameters-returns-clause-placed
declarators::parameters-returns-clause-placed t c = placed_regathered c.gathered_parameters.new.nodes (reverse c.parameters.parts) c.gathered_parameters.result c.gathered_parameters.ensures.ok c.gathered_parameters.ensures.next c.parameters.invariant.from c.parameters.invariant.to (sym c.len-before.ensures) c.parameters.invariant.keeps c.parameters.invariant.kept

pub declarators::parameter-returns-in_err-specifiers-clause-reads : goal.declarators::parameter-returns-in_err-specifiers-clause-reads
declarators::parameter-returns-in_err-specifiers-clause-reads t c = exit c.from_residual.result _ c.from_residual.ensures.1 (fails (c.in_err-specifiers.ensures.reads.is) (λ x k h. run_here (run_fail h)))

pub declarators::parameter-returns-then-not-starts_declarator-clause-reads : goal.declarators::parameter-returns-then-not-starts_declarator-clause-reads
declarators::parameter-returns-then-not-starts_declarator-clause-reads t c = record { is = record { run = run_here (run_call c.in_ok-specifiers.ensures.reads.is.run (run_unseen (sym c.starts_declarator.ensures ∙ c.if-not-starts_declarator.true) run_give)) } }

pub declarators::parameter-returns-in_err-rest-clause-reads : goal.declarators::parameter-returns-in_err-rest-clause-reads
declarators::parameter-returns-in_err-rest-clause-reads t c = exit c.from_residual-in_err-rest.result _ c.from_residual-in_err-rest.ensures.1 (fails (rw c.past-context.ensures at c.in_err-rest.ensures.reads.is) (λ x k h. run_here (run_call c.in_ok-specifiers.ensures.reads.is.run (run_seen (sym c.starts_declarator.ensures ∙ c.if-not-starts_declarator.false) (run_fail h)))))

pub declarators::parameter-returns-in_err-enter_parameter-clause-reads : goal.declarators::parameter-returns-in_err-enter_parameter-clause-reads
declarators::parameter-returns-in_err-enter_parameter-clause-reads t c = exit c.from_residual-in_err-enter_parameter.result _ c.from_residual-in_err-enter_parameter.ensures.1 (no_memory c.in_err-enter_parameter.ensures.err)

pub declarators::parameter-returns-clause-reads : goal.declarators::parameter-returns-clause-reads
declarators::parameter-returns-clause-reads t c = finish c.pair.new.nodes c.pair.result c.pair.ensures.err c.pair.ensures.next c.pair.ensures.tree (run_here (run_call c.in_ok-specifiers.ensures.reads.is.run (run_seen (sym c.starts_declarator.ensures ∙ c.if-not-starts_declarator.false) (run_call (rw c.past-context.ensures at c.in_ok-rest.ensures.reads.is).run (done_as (let e = tree_kept _ _ c.in_ok-specifiers.specifiers.node c.in_ok-rest.ensures.placed.keeps (omega (arith, c.in_ok-specifiers.ensures.placed.last)) in cc) (parameter_ends _ _ (rw c.past-context.ensures at c.in_ok-enter_parameter.ensures.ok)))))))

pub declarators::parameter-returns-clause-placed : goal.declarators::parameter-returns-clause-placed
declarators::parameter-returns-clause-placed t c = placed_push c.pair.new.nodes [] (c.in_ok-rest.rest.node ∷ c.in_ok-specifiers.specifiers.node ∷ []) c.pair.result c.pair.ensures.ok c.pair.ensures.next (omega (arith, c.in_ok-specifiers.ensures.placed.from, c.in_ok-rest.ensures.placed.from)) (omega (arith, c.in_ok-rest.ensures.placed.to)) (keeps_all _ _ _ c.in_ok-specifiers.ensures.placed.keeps c.in_ok-rest.ensures.placed.keeps) (λ loose h. c.in_ok-rest.ensures.placed.kept _ (c.in_ok-specifiers.ensures.placed.kept loose h))
