use Rattle.std.proofs.Common.{◌≡◌, ◌++◌, map, take}
use Rattle.pass_edit.specs.declared.change.Text.TheVariants.{Zero}
use Rattle.pass_levels.specs.Places.{replaced}
use Rattle.pass_params.proofs.removal.put_zeros.Given as goal

abbrev pub invariant-loop-used : goal.invariant-loop-used
invariant-loop-used l = l.changes.items ≡ l.fn.changes.items ++ map (λ used. replaced l.tokens used used Zero) (take l.used-index l.uses)
