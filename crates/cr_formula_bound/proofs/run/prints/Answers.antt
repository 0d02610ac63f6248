use Rattle.std.specs.Prelude.{◌↔◌, IsTrue}
use Rattle.std.proofs.Common.{subst, sym}
use Rattle.cr_formula_bound.specs.Values.{PrintsBy, StandsIn}
use Rattle.cr_formula_bound.proofs.Values.{prints_some}
use Rattle.cr_formula_bound.proofs.run.prints.Goals as goal

pub returns-in-Some : goal.returns-in-Some
returns-in-Some c =
    subst (λ end. IsTrue c.holds_run.result ↔ PrintsBy c.args.text.now end) (sym c.in-Some.is)
    (prints_some c.holds_run.result c.args.text.now c.in-Some.end
    (subst (λ output. IsTrue c.holds_run.result ↔ StandsIn c.args.text.now output) c.as_slice.ensures c.holds_run.ensures))
