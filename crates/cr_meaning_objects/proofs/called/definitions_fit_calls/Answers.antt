use Rattle.cr_meaning_objects.proofs.CalledLemmas.Fitting.{fitting}
use Rattle.cr_meaning_objects.proofs.called.definitions_fit_calls.Goals as goal

pub returns : goal.returns
returns c = fitting
