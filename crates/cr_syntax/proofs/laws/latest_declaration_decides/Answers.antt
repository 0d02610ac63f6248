use Rattle.cr_syntax.proofs.Latest.{latest, others}
use Rattle.cr_syntax.proofs.laws.latest_declaration_decides.Goals as goal

pub returns : goal.returns
returns c = record { latest = latest; others = others }
