use Rattle.cr_syntax.proofs.Alternatives.{alternative_of, part_only, side_only}
use Rattle.cr_syntax.proofs.laws.table_is_grammar.Goals as goal

pub returns : goal.returns
returns c = record { each = alternative_of; only = λ p k s m. (part_only m, side_only m) }
