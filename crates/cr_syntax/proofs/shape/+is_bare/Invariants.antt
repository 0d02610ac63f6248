use Rattle.cr_syntax.proofs.shape.+is_bare.Given as goal

abbrev pub decreases-is_bare : goal.decreases-is_bare
decreases-is_bare l = l.bound
