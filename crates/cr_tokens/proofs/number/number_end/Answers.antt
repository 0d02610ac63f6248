use Rattle.std.proofs.Common.{suc}
use Rattle.cr_tokens.specs.Numbers.{IsNumberPart}
use Rattle.cr_tokens.proofs.Places.{each_more}
use Rattle.cr_tokens.proofs.number.number_end.Goals as goal

pub loop-at-preserved : goal.loop-at-preserved
loop-at-preserved c =
    each_more (IsNumberPart c.args.file.now) (suc c.args.from) c.loop-at.at c.loop-at.invariant
    (c.is_number_part.ensures.0 (cc))
