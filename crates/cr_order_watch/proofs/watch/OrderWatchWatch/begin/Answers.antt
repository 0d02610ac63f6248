use Rattle.std.proofs.Common.{sym, subst, ◌∙◌}
use Rattle.std.specs.Prelude.{List, length}
use Rattle.std.proofs.lemmas.Result.{on_ok_weaker}
use Rattle.cr_meaning_loose.specs.Lists.{around}
use Rattle.cr_meaning_loose.specs.Levels.{levels_of}
use Rattle.cr_order_watch.specs.Known.{AreOpen}
use Rattle.cr_order_watch.specs.declared.opened.Open.{Open}
use Rattle.cr_order_watch.proofs.Watching.{begins_failed, asked_of, begins_open}
use Rattle.cr_order_watch.proofs.watch.OrderWatchWatch.begin.Goals as goal

pub returns-then-is_some : goal.returns-then-is_some
returns-then-is_some c = λ p marks k. (k.0, begins_failed p (around c.args.self.now.outer.now) marks c.args.node c.args.self.now.loose c.args.self.now.nodes (sym c.is_some.ensures ∙ c.if-is_some.true) k.1)

pub returns : goal.returns
returns c = λ p marks k.
    let off = sym c.is_some.ensures ∙ c.if-is_some.false in
    let levels = levels_of (length p.ops) marks in
    let lists = around c.args.self.now.outer.now in
    on_ok_weaker c.push.result
    (λ is. (
      k.0,
      begins_open p (around c.args.self.now.outer.now) marks c.args.node c.args.self.now.loose c.args.self.now.nodes _ c.new-top.result off k.1
          (c.new-top.ensures.sums p levels k.0 (c.is_asked-asked.ensures p lists levels (let G : List Open → Type 0 = λ l. AreOpen p lists l levels in subst G (sym c.as_slice.ensures) (asked_of p lists c.args.self.now.loose c.args.self.now.nodes levels off k.1)))) c.new-top.ensures.pieces is,
    ))
    c.push.ensures.ok
