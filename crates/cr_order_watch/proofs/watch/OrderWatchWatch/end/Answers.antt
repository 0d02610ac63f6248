use Rattle.std.proofs.Common.{sym, ◌∙◌}
use Rattle.std.specs.Prelude.{[]}
use Rattle.std.proofs.lemmas.Bool.{not-true, not-false}
use Rattle.std.proofs.lemmas.Result.{on_ok_weaker}
use Rattle.cr_meaning_loose.specs.Lists.{around}
use Rattle.cr_order_watch.proofs.Watching.{ends_failed, ends_whole, ends_so_loose, ends_unasked, ends_bottom, ends_handed, ends_list}
use Rattle.cr_order_watch.proofs.watch.OrderWatchWatch.end.Goals as goal

pub returns-then-is_some : goal.returns-then-is_some
returns-then-is_some c = λ p marks events k foot. (k.0, ends_failed p (around c.args.self.now.outer.now) marks _ events c.args.self.now.loose c.args.self.now.nodes (sym c.is_some.ensures ∙ c.if-is_some.true) k.1)

pub returns-in_default : goal.returns-in_default
returns-in_default c = λ p marks events k foot.
    (k.0, ends_whole p (around c.args.self.now.outer.now) marks _ events c.args.self.now.loose c.args.self.now.nodes (sym c.is_some.ensures ∙ c.if-is_some.false) k.1 c.pop.new.self c.in_default.ensures.none c.in_default.ensures.last)

pub returns-then-not-top : goal.returns-then-not-top
returns-then-not-top c = λ p marks events k foot.
    (k.0, ends_so_loose p (around c.args.self.now.outer.now) marks _ events c.args.self.now.loose c.args.self.now.nodes (sym c.is_some.ensures ∙ c.if-is_some.false) k.1 c.pop.new.self c.in-Some.top c.in-Some.ensures.last c.pop.new.self (not-true c.in-Some.top.fixed c.if-not-top.true))

pub returns-then-not-top-2 : goal.returns-then-not-top-2
returns-then-not-top-2 c = λ p marks events k foot.
    (k.0, ends_unasked p (around c.args.self.now.outer.now) marks _ events c.args.self.now.loose c.args.self.now.nodes (sym c.is_some.ensures ∙ c.if-is_some.false) k.1 c.pop.new.self c.in-Some.top c.in-Some.ensures.last (not-false c.in-Some.top.fixed c.if-not-top.false) (not-true c.in-Some.top.asked c.if-not-top-2.true))

pub returns-in_default-pop : goal.returns-in_default-pop
returns-in_default-pop c = λ p marks events k foot. (
  k.0,
  ends_bottom p (around c.args.self.now.outer.now) marks _ events c.args.self.now.loose c.args.self.now.nodes (sym c.is_some.ensures ∙ c.if-is_some.false) k.1 _ c.in-Some.top c.in-Some.ensures.last _ (not-false c.in-Some.top.fixed c.if-not-top.false)
      c.in_default-pop.ensures.none c.in_default-pop.ensures.last,
)

pub returns-in-Ok-default-None : goal.returns-in-Ok-default-None
returns-in-Ok-default-None c = λ p marks events k foot.
    let fixed = not-false c.in-Some.top.fixed c.if-not-top.false in
    let asked = not-false c.in-Some.top.asked c.if-not-top-2.false in
    on_ok_weaker c.push.result
    (λ is. (
      k.0,
      ends_handed p (around c.args.self.now.outer.now) marks _ events c.args.self.now.loose c.args.self.now.nodes (sym c.is_some.ensures ∙ c.if-is_some.false) k.1 _ c.in-Some.top c.in-Some.ensures.last _ _ _ _ fixed c.in-Some-pop.ensures.last
          (λ level other others it under pieces. rw c.in-Ok-default-None.field-0-1-is at (c.in-Ok-default-None.ensures p level other others events k.0 it under pieces fixed asked foot)) is,
    ))
    c.push.ensures.ok

pub returns-in-Ok-default-Some : goal.returns-in-Ok-default-Some
returns-in-Ok-default-Some c = λ p marks events k foot.
    let fixed = not-false c.in-Some.top.fixed c.if-not-top.false in
    let asked = not-false c.in-Some.top.asked c.if-not-top-2.false in (
      k.0,
      ends_list p (around c.args.self.now.outer.now) marks _ events c.args.self.now.loose c.args.self.now.nodes (sym c.is_some.ensures ∙ c.if-is_some.false) k.1 _ c.in-Some.top c.in-Some.ensures.last _ [] _ _ c.in-Ok-default-Some.list fixed c.in-Some-pop.ensures.last
          (λ level other others it under pieces. rw c.in-Ok-default-Some.field-0-1-is at (c.in-Ok-default-Some.ensures p level other others events k.0 it under pieces fixed asked foot)),
    )
