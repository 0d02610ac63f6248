use Rattle.std.proofs.lemmas.List.{append-nil}
use Rattle.cr_memory.proofs.store.Store.enter.Goals as goal

pub returns-clause-entered : goal.returns-clause-entered
returns-clause-entered c = rw (append-nil c.args.shape.now) at c.enter_times.ensures.entered

pub returns-clause-no_room : goal.returns-clause-no_room
returns-clause-no_room c = rw (append-nil c.args.shape.now) at c.enter_times.ensures.no_room
