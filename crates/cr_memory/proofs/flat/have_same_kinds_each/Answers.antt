use Rattle.std.proofs.Common.{◌≡◌, ◌+◌, ◌-◌, ◌&&◌, true, false, take, drop, sym, ap, ◌∙◌}
use Rattle.cr_memory.specs.Kind.{is_same}
use Rattle.cr_memory.specs.Access.{have_same_kinds}
use Rattle.cr_memory.specs.Flat.{shape_or}
use Rattle.cr_memory.proofs.KindRuns.{same_more}
use Rattle.cr_memory.proofs.flat.have_same_kinds_each.Goals as goal

pub returns-then-not-is_same : goal.returns-then-not-is_same
returns-then-not-is_same c =
    let shape = c.args.shape.now in
    let one = rw c.place_in.ensures at c.own_at-one.ensures in
    let other = rw c.place_in-in-loop-i.ensures at c.own_at-other.ensures in
    let rest = have_same_kinds (take (c.args.count - (c.loop-i.i + 1)) (drop (c.args.left + (c.loop-i.i + 1)) shape)) (take (c.args.count - (c.loop-i.i + 1)) (drop (c.args.right + (c.loop-i.i + 1)) shape)) in
    let differ : is_same (shape_or shape (c.args.left + c.loop-i.i)).0 (shape_or shape (c.args.right + c.loop-i.i)).0 ≡ false = cc (one, other, c.is_same.ensures, c.if-not-is_same.true) in
    sym (c.loop-i.invariant ∙ same_more shape c.args.left c.args.right c.args.count c.loop-i.i c.loop-i-test.true c.requires.left c.requires.right ∙ ap (λ b. b && rest) differ)

pub loop-i-preserved : goal.loop-i-preserved
loop-i-preserved c =
    let shape = c.args.shape.now in
    let one = rw c.place_in.ensures at c.own_at-one.ensures in
    let other = rw c.place_in-in-loop-i.ensures at c.own_at-other.ensures in
    let rest = have_same_kinds (take (c.args.count - (c.loop-i.i + 1)) (drop (c.args.left + (c.loop-i.i + 1)) shape)) (take (c.args.count - (c.loop-i.i + 1)) (drop (c.args.right + (c.loop-i.i + 1)) shape)) in
    let same : is_same (shape_or shape (c.args.left + c.loop-i.i)).0 (shape_or shape (c.args.right + c.loop-i.i)).0 ≡ true = cc (one, other, c.is_same.ensures, c.if-not-is_same.false) in
    c.loop-i.invariant ∙ same_more shape c.args.left c.args.right c.args.count c.loop-i.i c.loop-i-test.true c.requires.left c.requires.right ∙ ap (λ b. b && rest) same
