use Rattle.std.proofs.Common.{◌++◌, ◌∷◌, [], ap, ◌∙◌}
use Rattle.cr_sequence.proofs.sequence.Sequence.push.Goals as goal

pub invariant_of-self : goal.invariant_of-self
invariant_of-self g c = c.in-Ok.ensures.pushed.counted

pub invariant_of-self-in-Err : goal.invariant_of-self-in-Err
invariant_of-self-in-Err g c = c.in-Err.ensures.refused.counted

pub returns-in-Ok-clause-pushed : goal.returns-in-Ok-clause-pushed
returns-in-Ok-clause-pushed g c = c.in-Ok.ensures.pushed.shown ∙ ap (λ xs. xs ++ c.args.item ∷ []) c.self.view_is

pub returns-in-Err-clause-refused : goal.returns-in-Err-clause-refused
returns-in-Err-clause-refused g c = c.in-Err.ensures.refused.shown ∙ c.self.view_is
