use Rattle.std.proofs.Common.{slice_index_or, ap, ◌∙◌}
use Rattle.std.proofs.lemmas.List.{take_all}
use Rattle.cr_check_declarators.specs.Specifiers.{nothing}
use Rattle.cr_check_declarations.specs.Specifiers.{joined_in}
use Rattle.cr_check_declarations.proofs.specifiers.joined_in.Goals as goal

pub returns : goal.returns
returns c =
    c.loop-part.invariant
    ∙ ap (joined_in (λ p. slice_index_or c.args.columns.now.specified.now p nothing))
    (take_all c.loop-part.part-index c.args.parts.now c.loop-part-test.false)
