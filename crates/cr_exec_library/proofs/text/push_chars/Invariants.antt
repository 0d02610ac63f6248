use Rattle.std.proofs.Common.{◌≡◌}
use Rattle.cr_meaning.specs.World.{then_by}
use Rattle.cr_meaning.specs.Library.{text_by}
use Rattle.cr_exec_library.specs.Printing.{behind}
use Rattle.cr_exec_library.proofs.text.push_chars.Given as goal

abbrev pub invariant-chars : goal.invariant-chars
invariant-chars l = then_by (text_by l.store l.left l.at) (behind l.out.items) ≡ then_by (text_by l.store l.fn.most l.fn.from) (behind l.fn.out.items)

abbrev pub decreases-chars : goal.decreases-chars
decreases-chars l = l.left
