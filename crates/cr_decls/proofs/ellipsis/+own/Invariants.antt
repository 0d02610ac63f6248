use Rattle.std.proofs.Common.{◌+◌, ◌*◌}
use Rattle.cr_decls.proofs.ellipsis.+own.Given as goal

abbrev pub decreases-ellipsis_in : goal.decreases-ellipsis_in
decreases-ellipsis_in l = l.bound * 2

abbrev pub decreases-function_ellipsis : goal.decreases-function_ellipsis
decreases-function_ellipsis l = l.bound * 2 + 1
