use Rattle.std.proofs.Common.{◌≡◌, map, take}
use Rattle.pass_edit.specs.declared.change.Text.TheVariants as change_to
use Rattle.pass_levels.specs.Places.{replaced}
use Rattle.pass_names.proofs.rename.changes.Given as goal

abbrev pub invariant-loop-token : goal.invariant-loop-token
invariant-loop-token l = l.changes.items ≡ map (λ token. replaced l.tokens token token (change_to.Kept 0 l.bytes)) (take l.token-index l.renamed)
