use Rattle.std.proofs.Common.{◌≡◌, length}
use Rattle.cr_lawful_analysis.specs.Analysis.{read_of}
use Rattle.pass_list.specs.Offers.{AreMenus}
use Rattle.pass_list.proofs.index.menus.Given as goal

abbrev pub invariant-loop-pass : goal.invariant-loop-pass
invariant-loop-pass l = (length l.menus.items ≡ l.pass) × AreMenus l.enabled l.file (read_of l.analysis) l.pass l.menus.items
