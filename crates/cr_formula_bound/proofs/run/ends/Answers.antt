use Rattle.std.specs.Prelude.{◌↔◌, IsTrue}
use Rattle.std.proofs.Common.{nat_eq, eq-eqb, subst, sym}
use Rattle.std.proofs.lemmas.Bool.{eqb-true}
use Rattle.cr_formula_bound.specs.Values.{EndsBy}
use Rattle.cr_formula_bound.proofs.Values.{ends_some}
use Rattle.cr_formula_bound.proofs.run.ends.Goals as goal

pub returns-in-Some : goal.returns-in-Some
returns-in-Some c =
    let equal = nat_eq c.in-Some.end.status c.args.status in
    subst (λ end. IsTrue equal ↔ EndsBy c.args.status end) (sym c.in-Some.is)
    (ends_some equal c.args.status c.in-Some.end (λ is. eqb-true c.in-Some.end.status c.args.status is, λ is. eq-eqb c.in-Some.end.status c.args.status is))
