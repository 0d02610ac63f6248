use Rattle.std.proofs.Common.{IfOk, subst, sym}
use Rattle.cr_lawful_analysis.specs.Analysis.{read_of}
use Rattle.pass_list.specs.declared.pass.Pass.TheVariants.{Inlined}
use Rattle.pass_list.specs.Offers.{IsOffered}
use Rattle.pass_list.proofs.index.inlined_offered.Goals as goal

pub returns-in-OfUnit : goal.returns-in-OfUnit
returns-in-OfUnit c = subst (λ analysis. IfOk c.inlined.result (IsOffered c.args.file.now (read_of analysis) Inlined)) (sym c.in-OfUnit.is) c.inlined.ensures
