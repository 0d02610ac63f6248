use Rattle.std.proofs.Common.{◌≡◌, true, false, subst, sym, ◌∙◌, arith, reverse}
use Rattle.cr_syntax.specs.declared.node.Node.{Node}
use Rattle.cr_exprs_descent.specs.Tables.{is_void}
use Rattle.cr_exprs_descent.proofs.Nodes.{in_parameters_lone, in_parameters_void, in_parameters_more, ok_tree}
use Rattle.cr_exprs_descent.proofs.Loose.{regathered_push, regathered_lone, regathered_void}
use Rattle.cr_exprs_descent.proofs.arena.gathered_parameters.Goals as goal

pub returns-then-len-ne1-clause-tree : goal.returns-then-len-ne1-clause-tree
returns-then-len-ne1-clause-tree c =
    let e = in_parameters_more c.args.first c.args.list.next c.args.nodes.now c.args.list.parts c.requires.below (λ q. omega arith) c.requires.row.some c.requires.row.below in
    ok_tree c.push.result c.push.new.nodes _ _ e c.push.ensures.tree

pub returns-then-not-is_void-clause-tree : goal.returns-then-not-is_void-clause-tree
returns-then-not-is_void-clause-tree c =
    let n = c.index-as_slice-node.result in
    let q = rw (c.as_slice.ensures, c.as_slice-2.ensures) at c.index-as_slice-node.is in
    let v : is_void n.kind ≡ false = subst (λ (x : Node). is_void x.kind ≡ false) (sym c.index-as_slice-node.is) (sym c.is_void.ensures ∙ c.if-not-is_void.true) in
    rw c.as_slice.ensures (in_parameters_lone c.args.first c.args.list.next c.args.nodes.now c.args.list.parts 0 n c.requires.below (omega arith) c.requires.row.below q v)

pub returns-clause-tree : goal.returns-clause-tree
returns-clause-tree c =
    let n = c.index-as_slice-node.result in
    let q = rw (c.as_slice.ensures, c.as_slice-2.ensures) at c.index-as_slice-node.is in
    let v : is_void n.kind ≡ true = subst (λ (x : Node). is_void x.kind ≡ true) (sym c.index-as_slice-node.is) (sym c.is_void.ensures ∙ c.if-not-is_void.false) in
    ok_tree c.leaf.result c.leaf.new.nodes _ _ (in_parameters_void c.args.first c.args.list.next c.args.nodes.now c.args.list.parts 0 n c.requires.below (omega arith) c.requires.row.below q v) c.leaf.ensures.tree

pub returns-then-len-ne1-clause-ok : goal.returns-then-len-ne1-clause-ok
returns-then-len-ne1-clause-ok c = regathered_push c.args.nodes.now c.push.new.nodes (reverse c.args.list.parts) c.args.before c.push.result c.requires.before c.push.ensures.ok

pub returns-then-not-is_void-clause-ok : goal.returns-then-not-is_void-clause-ok
returns-then-not-is_void-clause-ok c = rw c.as_slice.ensures (regathered_lone c.args.before c.args.nodes.now c.args.list.parts c.args.list.next c.requires.before c.requires.below (omega arith) c.requires.row)

pub returns-clause-ok : goal.returns-clause-ok
returns-clause-ok c = regathered_void c.args.nodes.now c.drop_to.new.nodes c.leaf.new.nodes (reverse c.args.list.parts) c.args.before c.leaf.result c.drop_to.ensures.length c.drop_to.ensures.keeps c.leaf.ensures.ok
