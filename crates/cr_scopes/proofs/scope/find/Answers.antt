use Rattle.std.proofs.Common.{◌∙◌, sym}
use Rattle.cr_scopes.proofs.Noted.{found_here}
use Rattle.cr_scopes.proofs.scope.find.Goals as goal

pub returns-in-Some : goal.returns-in-Some
returns-in-Some c =
    found_here c.args.space c.args.name c.args.scopes.now c.in-Some.found (sym c.here-here.ensures ∙ c.in-Some.is)
