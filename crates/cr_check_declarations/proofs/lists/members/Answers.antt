use Rattle.cr_check_declarations.proofs.Adjusted.{all_within_if}
use Rattle.cr_check_declarations.proofs.lists.members.Goals as goal

pub returns-in-StructContent-clause-within : goal.returns-in-StructContent-clause-within
returns-in-StructContent-clause-within c =
    all_within_if c.args.columns.now c.as_slice-parts.result.now c.all_members.result c.all_members.ensures
