use Rattle.cr_meaning_files.proofs.Once.{once}
use Rattle.cr_meaning_files.proofs.identifiers.external_tokens_are_told_once.Goals as goal

pub returns : goal.returns
returns c = once
