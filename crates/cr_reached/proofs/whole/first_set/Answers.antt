use Rattle.std.proofs.Common.{List, subst}
use Rattle.std.specs.Prelude.{ℕ, IfSome}
use Rattle.cr_reached.specs.Own.{AreAllSet}
use Rattle.cr_reached.proofs.whole.first_set.Goals as goal

pub returns : goal.returns
returns c = subst (λ (l : List ℕ). IfSome c.are_all_set.result (AreAllSet c.args.column.now l)) c.first_of.ensures c.are_all_set.ensures
