use Rattle.std.proofs.Common.{sym, ◌∙◌}
use Rattle.cr_order_watch.proofs.Gathering.{both_loud, met, joins}
use Rattle.cr_order_watch.proofs.Listing.{copy_sum}
use Rattle.cr_order_watch.proofs.lists.joined.Goals as goal

pub returns-then-both : goal.returns-then-both
returns-then-both c = λ p count done inner number events mine sum room h.
    (tt, both_loud p count done number inner events c.args.sum.loud c.args.piece.now.loud c.args.sum.foot c.args.piece.now.foot mine sum room (sym c.both.ensures ∙ c.if-both.true))

pub returns-in-Ok-beside : goal.returns-in-Ok-beside
returns-in-Ok-beside c = λ p count done inner number events mine sum room h.
    let copy = copy_sum p c.args.piece.now.loud c.none.result c.in-Ok.foot c.args.piece.now.foot _ c.none.ensures c.in-Ok.ensures.reads c.in-Ok.ensures.writes sum in (
      joins p count done number inner events c.args.sum.loud c.args.piece.now.loud c.args.sum.foot c.in-Ok.foot mine copy room c.in-Ok-beside.foot c.either-loud.result h (sym c.both.ensures ∙ c.if-both.false)
          c.either-loud.ensures c.in-Ok-beside.ensures.joined c.in-Ok-beside.ensures.apart,
      tt,
    )

pub returns-in-Err-Conflict : goal.returns-in-Err-Conflict
returns-in-Err-Conflict c = λ p count done inner number events mine sum room h.
    let copy = copy_sum p c.args.piece.now.loud c.none.result c.in-Ok.foot c.args.piece.now.foot _ c.none.ensures c.in-Ok.ensures.reads c.in-Ok.ensures.writes sum in (
      tt,
      met p count done number inner events c.args.sum.loud c.args.piece.now.loud c.args.sum.foot c.in-Ok.foot mine copy room (c.in-Err-Conflict.field-0-0, c.in-Err-Conflict.field-0-1)
          (c.beside.ensures.conflict c.in-Err-Conflict.field-0-0 c.in-Err-Conflict.field-0-1 (cc (c.in-Err-Conflict.is, c.in-Err-Conflict.field-0-is))),
    )
