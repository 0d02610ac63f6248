use Rattle.cr_replay.proofs.Going.{found_size, no_size, none_of, some_of}
use Rattle.cr_replay.proofs.rows.has_size.Goals as goal

pub returns-in-Some : goal.returns-in-Some
returns-in-Some c = found_size c.args.file.now c.in-Some.found c.args.size (some_of c.in_ok-found.field-0 _ _ c.in-Some.found c.in_ok-found.ensures c.in-Some.is).has

pub returns-in-None : goal.returns-in-None
returns-in-None c = no_size c.args.file.now c.args.size (none_of c.in_ok-found.field-0 _ _ c.in_ok-found.ensures c.in-None.is)
