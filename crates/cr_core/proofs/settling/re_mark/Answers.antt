use Rattle.cr_core.proofs.LastEntry.{set-with_last}
use Rattle.cr_core.proofs.settling.re_mark.Goals as goal

pub returns : goal.returns
returns c l r is long = rw (c.set.ensures, c.as_slice.ensures, is) (set-with_last _ c.args.mark c.args.at l r long)
