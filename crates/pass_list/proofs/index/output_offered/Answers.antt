use Rattle.std.proofs.Common.{IfOk, subst, sym}
use Rattle.cr_lawful_analysis.specs.Analysis.{read_of}
use Rattle.pass_list.specs.declared.pass.Pass.TheVariants.{Output}
use Rattle.pass_list.specs.Offers.{IsOffered}
use Rattle.pass_list.proofs.index.output_offered.Goals as goal

pub returns-in-OfUnit : goal.returns-in-OfUnit
returns-in-OfUnit c = subst (λ analysis. IfOk c.output.result (IsOffered c.args.file.now (read_of analysis) Output)) (sym c.in-OfUnit.is) c.output.ensures
