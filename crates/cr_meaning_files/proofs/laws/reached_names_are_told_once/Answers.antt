use Rattle.cr_meaning_files.proofs.Outside.{told_once}
use Rattle.cr_meaning_files.proofs.laws.reached_names_are_told_once.Goals as goal

pub returns : goal.returns
returns c = told_once
