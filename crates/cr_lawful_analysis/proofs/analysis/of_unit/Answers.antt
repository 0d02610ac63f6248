use Rattle.std.proofs.Common.{◌≡◌, subst, sym, ◌∙◌}
use Rattle.cr_lawful_analysis.specs.Analysis as read
use Rattle.cr_lawful_analysis.specs.Analysis.{IsRead, tree_of, unit_read}
use Rattle.cr_lawful_analysis.specs.Members.{structures_of}
use Rattle.cr_holding.proofs.Kept.{kept}
use Rattle.cr_lawful_analysis.proofs.analysis.of_unit.Goals as goal

pub returns : goal.returns
returns c = λ file checked tokens is structures.
    let unit = c.args.unit in
    let names = c.args.names in
    let found = c.in_ok-structures.structures in
    let (are, held) = kept (λ s. s ≡ structures_of unit.nodes checked) c.args.structures (unit, names)
    (found, (c.in_ok-structures.unit, c.in_ok-structures.names)) (sym c.holding.ensures ∙ c.in_ok-structures.was) structures in
    subst (λ p. IsRead file (unit_read p.0.tokens.list.items (tree_of p.0) p.1 found)) held
    (subst (λ s. IsRead file (unit_read unit.tokens.list.items (tree_of unit) names s)) (sym are)
    (read.of_unit {unit = unit} {names = names} {checked = checked} tokens is))
