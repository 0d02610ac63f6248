use Rattle.std.proofs.Common.{length, ap, arith}
use Rattle.std.proofs.lemmas.Bool.{eqb-true}
use Rattle.cr_sequence.proofs.Parts.{one_part}
use Rattle.cr_sequence.proofs.sequence.has_stretch.Goals as goal

pub returns : goal.returns
returns g c = λ e part is.
    let one = one_part c.args.parts.now.items c.args.number c.index.result.now part c.requires c.index.ensures is in
    let own = ap (λ p. length p.stretch) one in
    let same = eqb-true c.len.result c.args.size e in
    omega (arith, c.len.ensures)
