use Rattle.std.proofs.Common.{Bool, List, ap, arith, length, refl, rules, sym, subst, ◌∙◌}
use Rattle.std.specs.Prelude.{◌≡◌, ◌&&◌, Some, slice_get}
use Rattle.std.proofs.lemmas.List.{length_push}
use Rattle.std.proofs.lemmas.Option.{slice_get_read}
use Rattle.cr_eval.specs.Table.{program_of}
use Rattle.cr_reached.specs.Own.{AreAllSet, own_of}
use Rattle.cr_reached.proofs.Wholes.{whole_more}
use Rattle.cr_reached.proofs.whole.whole_of.Goals as goal

pub loop-op-preserved : goal.loop-op-preserved
loop-op-preserved c =
    let table = c.args.table.now in
    let whole = c.loop-op.whole.items in
    let op = c.op-item.result in
    let items = c.as_slice-op-items.result.now in
    let there : slice_get table.ops (length whole) ≡ Some op =
    subst (λ n. slice_get table.ops n ≡ Some op) (sym c.loop-op.invariant.count)
    (subst (λ l. slice_get l c.loop-op.op-index ≡ Some op) c.as_slice-op-items.ensures (slice_get_read items (length items) c.loop-op.op-index op refl c.loop-op-test.true c.op-item.is)) in
    let all : AreAllSet whole (own_of op) c.in-Some.own = subst (λ l. AreAllSet l (own_of op) c.in-Some.own) c.as_slice.ensures.value c.in-Some.ensures in
    let len = ap (λ (l : List Bool). length l) c.in_ok-push.ensures.items in
    let more = length_push whole c.both.result in
    record {
      column = whole_more (program_of table) c.args.began.now whole c.push.new.self.items op c.in-Some.own c.both.result c.len.result c.loop-op.invariant.column there all
          (c.both.ensures ∙ ap (λ b. b && c.in-Some.own) c.is_set-here.ensures) (search rules) c.in_ok-push.ensures.items;
      count = omega (arith, len, more, c.loop-op.invariant.count);
    }
