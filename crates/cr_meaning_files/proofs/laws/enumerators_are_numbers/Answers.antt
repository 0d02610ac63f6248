use Rattle.cr_meaning_files.proofs.Files.{numbers}
use Rattle.cr_meaning_files.proofs.laws.enumerators_are_numbers.Goals as goal

pub returns : goal.returns
returns c = numbers
