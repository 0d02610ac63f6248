use Rattle.std.proofs.Common.{◌≡◌, IfOk, subst, sym}
use Rattle.cr_lawful_analysis.specs.Analysis.{read_of}
use Rattle.pass_names.specs.Unused.{u_offering}
use Rattle.pass_list.specs.declared.pass.Pass.TheVariants.{Unused}
use Rattle.pass_list.specs.Offers.{IsOffered}
use Rattle.pass_list.proofs.index.unused_offered.Goals as goal

pub returns-in-OfUnit : goal.returns-in-OfUnit
returns-in-OfUnit c =
    let file = c.args.file.now in
    let unit = c.in-OfUnit.unit in
    let names = c.in-OfUnit.names in
    let of_structures = subst (λ s. IfOk c.unused.result (λ menu. menu ≡ u_offering file unit.tokens.list.items unit.nodes unit.items names s)) c.as_slice.ensures c.unused.ensures in
    subst (λ analysis. IfOk c.unused.result (IsOffered file (read_of analysis) Unused)) (sym c.in-OfUnit.is) of_structures
