use Rattle.std.proofs.Common.{◌+◌, ◌-◌, ◌&&◌, length, take, drop, sym, ap, ◌∙◌}
use Rattle.cr_memory.specs.Access.{have_kinds}
use Rattle.cr_memory.proofs.KindRuns.{kinds_more}
use Rattle.cr_memory.proofs.flat.have_kinds_each.Goals as goal

pub returns-then-not-is_same : goal.returns-then-not-is_same
returns-then-not-is_same c =
    let shape = c.args.shape.now in
    let kinds = c.args.kinds.now in
    let own = rw c.place_in.ensures at c.own_at-own.ensures in
    let rest = have_kinds (take (length kinds - (c.loop-i.i + 1)) (drop (c.args.from + (c.loop-i.i + 1)) shape)) (drop (c.loop-i.i + 1) kinds) in
    let differ = rw own at (sym c.is_same.ensures ∙ c.if-not-is_same.true) in
    sym (c.loop-i.invariant ∙ kinds_more shape kinds c.args.from c.loop-i.i _ c.loop-i-test.true c.requires ∙ ap (λ b. b && rest) differ)

pub loop-i-preserved : goal.loop-i-preserved
loop-i-preserved c =
    let shape = c.args.shape.now in
    let kinds = c.args.kinds.now in
    let own = rw c.place_in.ensures at c.own_at-own.ensures in
    let rest = have_kinds (take (length kinds - (c.loop-i.i + 1)) (drop (c.args.from + (c.loop-i.i + 1)) shape)) (drop (c.loop-i.i + 1) kinds) in
    let same = rw own at (sym c.is_same.ensures ∙ c.if-not-is_same.false) in
    c.loop-i.invariant ∙ kinds_more shape kinds c.args.from c.loop-i.i _ c.loop-i-test.true c.requires ∙ ap (λ b. b && rest) same
