use Rattle.std.proofs.Common.{◌≡◌, arith, reverse}
use Rattle.cr_syntax.specs.Trees.{one}
use Rattle.cr_syntax.specs.Kept.{row_in}
use Rattle.cr_syntax_machine.specs.MachineBody.{in_row}
use Rattle.cr_exprs_descent.proofs.Nodes.{in_row_lone, in_row_more, ok_tree}
use Rattle.cr_exprs_descent.proofs.Loose.{gathered_push, gathered_lone}
use Rattle.cr_exprs_descent.proofs.arena.gathered.Goals as goal

pub returns-then-len-eq1-clause-tree : goal.returns-then-len-eq1-clause-tree
returns-then-len-eq1-clause-tree c = rw c.as_slice.ensures (in_row_lone c.args.part c.args.first c.args.list.next c.args.nodes.now c.args.list.parts 0 c.requires.below (omega arith) c.requires.row.below)

pub returns-clause-tree : goal.returns-clause-tree
returns-clause-tree c =
    let e : one c.row_kind.result c.args.first c.args.list.next (row_in c.args.nodes.now c.args.list.parts) ≡ in_row c.args.part c.args.first c.args.list.next (row_in c.args.nodes.now c.args.list.parts) =
    rw c.row_kind.ensures (in_row_more c.args.part c.args.first c.args.list.next c.args.nodes.now c.args.list.parts c.requires.below (λ q. omega arith) c.requires.row.some c.requires.row.below) in
    ok_tree c.push.result c.push.new.nodes _ _ e c.push.ensures.tree

pub returns-then-len-eq1-clause-ok : goal.returns-then-len-eq1-clause-ok
returns-then-len-eq1-clause-ok c = rw c.as_slice.ensures (gathered_lone c.args.nodes.now c.args.list.parts c.args.list.next c.requires.below (omega arith) c.requires.row)

pub returns-clause-ok : goal.returns-clause-ok
returns-clause-ok c = gathered_push c.args.nodes.now c.push.new.nodes (reverse c.args.list.parts) c.push.result c.push.ensures.ok
