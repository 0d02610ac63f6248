use Rattle.std.proofs.Common.{length, subst, arith}
use Rattle.std.proofs.lemmas.Option.{slice_get_within}
use Rattle.cr_syntax.specs.Tables.{side_of}
use Rattle.cr_syntax_nodes.specs.Nodes.{IsCounted}
use Rattle.cr_syntax_nodes.proofs.Made.{made_in}
use Rattle.cr_syntax_nodes.proofs.Numbers.{occurs}
use Rattle.cr_syntax_nodes.proofs.Counts.{counted, row_counted}
use Rattle.cr_syntax_nodes.proofs.laws.parts_are_counted.Goals as goal

pub returns : goal.returns
returns c = λ ts limit nodes items below once are u k n q.
    let within = slice_get_within nodes k n q in
    let row = row_counted nodes below n.parts (λ i l. let b = below k n q i l in omega arith) in
    subst (λ x. IsCounted (side_of n.kind) x) row (counted (made_in u.spells (occurs nodes below items once are (length nodes) k n (omega arith) q)).spells)
