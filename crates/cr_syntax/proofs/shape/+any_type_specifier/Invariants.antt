use Rattle.std.proofs.Common.{length}
use Rattle.cr_syntax.proofs.shape.+any_type_specifier.Given as goal

abbrev pub decreases-any_type_specifier : goal.decreases-any_type_specifier
decreases-any_type_specifier l = length l.row.now
