-- Programs that agree in all parts are the same.
use Rattle.std.proofs.Common.{◌≡◌, subst}
use Rattle.cr_meaning.specs.World.{Program}
use Rattle.cr_meaning.specs.Meaning.{Means}
use Rattle.cr_meaning.specs.declared.run.Run.{Run}
use Rattle.cr_exec_table.specs.Table.{AreSame}

pub same_program : (one other : Program) → AreSame one other → one ≡ other
same_program one other same = λ i. record {
  ops = same.ops i;
  shape = λ node. same.shape node i;
  literal = λ node. same.literal node i;
  kinds = λ row. same.kinds row i;
  limits = same.limits i;
}

-- so they come to the same
pub means_the_same : (one other : Program) (outcome : Run) → AreSame one other → Means one outcome → Means other outcome
means_the_same one other outcome same means = subst (λ program. Means program outcome) (same_program one other same) means
