use Rattle.std.proofs.Common.{◌∙◌, ap}
use Rattle.cr_syntax.specs.Scopes.{said_of}
use Rattle.cr_syntax.proofs.Names.{said_is}
use Rattle.cr_syntax.proofs.scopes.Scope.said.Goals as goal

pub returns : goal.returns
returns c = c.copied.ensures ∙ c.get.ensures.value ∙ said_is c.self.inside.names.entries c.args.spelling.now ∙ ap (λ names. said_of names c.args.spelling.now) c.self.view_is
