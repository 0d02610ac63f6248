use Rattle.cr_meaning_objects.proofs.CalledLemmas.Objects.{objects}
use Rattle.cr_meaning_objects.proofs.called.parameters_fit_calls.Goals as goal

pub returns : goal.returns
returns c = objects
