use Rattle.std.proofs.Common.{◌+◌, length, subst, arith}
use Rattle.std.proofs.lemmas.Option.{slice_get_within}
use Rattle.cr_syntax.specs.Kept.{row_in}
use Rattle.cr_syntax.specs.Tables.{side_of}
use Rattle.cr_syntax_nodes.specs.Laid.{IsLaid}
use Rattle.cr_syntax_nodes.proofs.Made.{made_in}
use Rattle.cr_syntax_nodes.proofs.Numbers.{occurs}
use Rattle.cr_syntax_nodes.proofs.Laid.{laid}
use Rattle.cr_syntax_nodes.proofs.Loops.{loop}
use Rattle.cr_syntax_nodes.proofs.laws.loops_have_clauses.Goals as goal

pub returns : goal.returns
returns c = λ ts limit nodes items below once are u k n q e.
    let within = slice_get_within nodes k n q in
    loop ts nodes below n (λ i l. let b = below k n q i l in omega (arith, b, within))
    (subst (λ x. IsLaid ts (side_of x) (row_in nodes n.parts) n.first (n.last + 1)) e (laid (made_in u.spells (occurs nodes below items once are (length nodes) k n (omega arith) q)).spells))
