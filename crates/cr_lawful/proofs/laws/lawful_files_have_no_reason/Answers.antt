use Rattle.cr_lawful.proofs.Rulings.{excludes}
use Rattle.cr_lawful.proofs.laws.lawful_files_have_no_reason.Goals as goal

pub returns : goal.returns
returns c = λ limits file why is lawful. excludes limits file why is lawful
