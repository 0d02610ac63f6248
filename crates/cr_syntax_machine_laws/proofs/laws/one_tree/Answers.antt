use Rattle.cr_syntax_machine_laws.proofs.MachineComplete as complete
use Rattle.cr_syntax_machine_laws.proofs.laws.one_tree.Goals as goal

pub returns : goal.returns
returns c = λ ts limit p h c e f d i t u k s s'. complete.one_tree k s s'
