use Rattle.cr_check_initialisers.specs.Known.{known_of}
use Rattle.cr_check_initialised.proofs.Kept.{same_known}
use Rattle.cr_check_initialised.proofs.source.source_of.Goals as goal

pub returns-clause-known : goal.returns-clause-known
unfolding known_of
returns-clause-known c = same_known c.args.table.now c.args.tree.now.nodes.now c.args.columns.now c.args.anchors.now c.requires
