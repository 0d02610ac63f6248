use Rattle.cr_syntax.proofs.shape.+declared_in.Given as goal

abbrev pub decreases-declared_in : goal.decreases-declared_in
decreases-declared_in l = l.bound
