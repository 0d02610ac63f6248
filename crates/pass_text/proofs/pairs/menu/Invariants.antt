use Rattle.std.proofs.Common.{◌≡◌, map, take}
use Rattle.pass_text.specs.Brackets.{pairs_gone}
use Rattle.pass_text.proofs.pairs.menu.Given as goal

abbrev pub invariant-loop-level : goal.invariant-loop-level
invariant-loop-level l = l.levels.items ≡ map (pairs_gone l.tokens l.pairs) (take l.level-index l.level-items)
