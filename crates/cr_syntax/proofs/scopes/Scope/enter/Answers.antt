use Rattle.std.proofs.Common.{rules, ◌∙◌, ap}
use Rattle.cr_syntax.specs.Scopes.{names_in}
use Rattle.cr_syntax.proofs.Names.{put_is}
use Rattle.cr_syntax.proofs.scopes.Scope.enter.Goals as goal

pub returns : goal.returns
returns c = ap names_in c.in_ok-insert.ensures.entries ∙ put_is c.self.inside.names.entries c.in_ok-to_vec.field-0 c.args.is_type ∙ search rules
