use Rattle.std.proofs.Common.{ap, nat_eq, ◌∙◌}
use Rattle.std.specs.String.{string_bytes}
use Rattle.std.specs.Cmp.Lexicographic.{texts_ties}
use lib.Pointwise.{pointwise}
use Rattle.cr_outside.proofs.memory_files.is_same.Goals as goal

pub returns : goal.returns
returns c = c.eq.ensures ∙ ap (pointwise nat_eq c.args.name.now) c.as_str.ensures.value ∙ texts_ties c.args.name.now (string_bytes c.args.other.now)
