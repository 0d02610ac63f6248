use Rattle.std.proofs.Common.{subst, refl}
use Rattle.std.specs.Prelude.{ℕ}
use Rattle.cr_meaning_loose.specs.Lists.{around}
use Rattle.cr_meaning_loose.specs.Loose.{IsFirstLoose}
use Rattle.cr_meaning_loose.specs.Levels.{closed}
use Rattle.cr_meaning_seen.specs.Seen.{bare}
use Rattle.cr_order_watch.proofs.Stacking.{cutting_starts, cutting_on, cutting_finds, cutting_ends}
use Rattle.cr_order_watch.proofs.levels.first_cut.Goals as goal

pub loop-top-init : goal.loop-top-init
loop-top-init c = λ p levels e all others. cutting_starts p (around c.args.outer.now) levels c.args.nodes all others

pub returns-in-Some-cut : goal.returns-in-Some-cut
returns-in-Some-cut c = λ p levels e root all others.
    let lists = around c.args.outer.now in
    let F : ℕ → Type 0 = λ n. IsFirstLoose p lists c.in-Some-cut.node n bare (closed levels) in
    subst F root
    (cutting_finds p lists levels c.loop-top.nodes c.pop.new.self c.in-Some.top c.loop-top.within c.in-Some-cut.node (c.loop-top.invariant p levels e all others) c.in-Some.ensures.last
    (λ level below it pieces. c.in-Some-cut.ensures p level below e it pieces))

pub loop-top-preserved : goal.loop-top-preserved
loop-top-preserved c = λ p levels e all others.
    let lists = around c.args.outer.now in
    cutting_on p lists levels c.loop-top.nodes c.pop.new.self c.in-Some.top c.loop-top.within _ (c.loop-top.invariant p levels e all others) c.in-Some.ensures.last refl
    (λ level below it pieces. c.in_default-cut.ensures p level below e it pieces)

pub returns : goal.returns
returns c = λ p levels e root all others. cutting_ends p (around c.args.outer.now) levels c.loop-top.nodes c.loop-top.within (c.loop-top.invariant p levels e all others) c.in_default.ensures.none
