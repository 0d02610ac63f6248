use Rattle.std.proofs.Common.{arith, ap, ◌∙◌}
use Rattle.std.proofs.lemmas.Int.{ints}
use Rattle.cr_ints.specs.Operations.{end_of}
use Rattle.cr_ints.proofs.Ranges.{represented_integer}
use Rattle.cr_ints.proofs.arithmetic.neg.Goals as goal

pub returns-clause-value : goal.returns-clause-value
returns-clause-value c =
    let v = represented_integer _ _ c.requires in
    c.end_of.ensures.value ∙ ap (end_of c.args.kind) (omega (arith, ints))
