use Rattle.std.proofs.Common.{◌≡◌, IfOk, subst, sym}
use Rattle.cr_lawful_analysis.specs.Analysis.{read_of}
use Rattle.pass_stmts.specs.Statements.{s_offering}
use Rattle.pass_list.specs.declared.pass.Pass.TheVariants.{Statements}
use Rattle.pass_list.specs.Offers.{IsOffered}
use Rattle.pass_list.proofs.index.statements_offered.Goals as goal

pub returns-in-OfUnit : goal.returns-in-OfUnit
returns-in-OfUnit c =
    let file = c.args.file.now in
    let unit = c.in-OfUnit.unit in
    let of_tokens = subst (λ tokens. IfOk c.statements.result (λ menu. menu ≡ s_offering file tokens c.as_slice.result.now)) c.as_slice-tokens.ensures.value c.statements.ensures in
    let of_unit = subst (λ nodes. IfOk c.statements.result (λ menu. menu ≡ s_offering file unit.tokens.list.items nodes)) c.as_slice.ensures of_tokens in
    subst (λ analysis. IfOk c.statements.result (IsOffered file (read_of analysis) Statements)) (sym c.in-OfUnit.is) of_unit
