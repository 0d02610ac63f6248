use Rattle.std.proofs.Common.{◌≡◌, true, false, sym, ◌∙◌, arith}
use Rattle.cr_journal.proofs.Adds.{has_kept, kept_on}
use Rattle.cr_journal.proofs.keeper.DiskKeeperKeeper.keep.Goals as goal

pub add-requires-clause-ready : goal.add-requires-clause-ready
add-requires-clause-ready g c = c.requires.2.ready

pub add-requires-clause-gate_there : goal.add-requires-clause-gate_there
add-requires-clause-gate_there g c = omega (arith, c.requires.1, c.requires.2.long)

pub returns-in-Ok-clause-keeps : goal.returns-in-Ok-clause-keeps
returns-in-Ok-clause-keeps g c rows counts keeps =
    has_kept rows c.args.row c.args.count counts _ _ _ _ _ keeps c.in-Ok.ensures.added _ _ c.in-Ok.ensures.ready c.in-Ok.ensures.long

pub returns-in-Ok-clause-kept_on : goal.returns-in-Ok-clause-kept_on
returns-in-Ok-clause-kept_on g c rows counts keeps =
    kept_on rows c.args.row c.args.count counts _ _ _ _ _ keeps c.add.ensures.any_moment c.add.ensures.lasts _ _ c.add.ensures.later _ _
    (λ failed. let bad : false ≡ true = sym keeps.fine ∙ failed in cc)

pub returns-in-Err-Failed-clause-kept_on : goal.returns-in-Err-Failed-clause-kept_on
returns-in-Err-Failed-clause-kept_on g c rows counts keeps =
    kept_on rows c.args.row c.args.count counts _ _ _ _ _ keeps c.add.ensures.any_moment c.add.ensures.lasts _ _ c.add.ensures.later _ _
    (λ failed. c.in-Err-Failed.ensures.failed cc)

pub returns-in-Err-NoMemory-clause-kept_on : goal.returns-in-Err-NoMemory-clause-kept_on
returns-in-Err-NoMemory-clause-kept_on g c rows counts keeps =
    kept_on rows c.args.row c.args.count counts _ _ _ _ _ keeps c.add.ensures.any_moment c.add.ensures.lasts _ _ c.add.ensures.later _ _
    (λ failed. let bad : false ≡ true = sym keeps.fine ∙ failed in cc)
