use Rattle.std.proofs.Common.{refl, subst}
use Rattle.cr_main_words.specs.Names.{IsOwnName}
use Rattle.cr_main.proofs.given.task_by.Goals as goal

pub returns-clause-task : goal.returns-clause-task
returns-clause-task g c = record { enabled = c.requires; workers = refl; window = refl; limit = refl; name = c.source_name-name.ensures; saves = c.is_saved.ensures }

pub returns-clause-own : goal.returns-clause-own
returns-clause-own g c = subst (λ name. IsOwnName name c.own_name.result.now) c.source_name-name.ensures c.own_name.ensures
