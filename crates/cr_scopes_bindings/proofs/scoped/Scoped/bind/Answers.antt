use Rattle.std.proofs.Common.{None, rules}
use Rattle.std.proofs.lemmas.List.{get_or_read}
use Rattle.cr_scopes_bindings.proofs.Finding.{bound_follows}
use Rattle.cr_scopes_bindings.proofs.scoped.Scoped.bind.Goals as goal

pub invariant_of-self-2 : goal.invariant_of-self-2
invariant_of-self-2 c =
    let inside = c.self.inside in
    bound_follows inside.latest.items inside.entries.items c.push.new.self.items c.args.name c.args.token c.index-before.result.now (search rules)
    (get_or_read inside.latest.items c.args.name c.index-before.result.now (search rules) c.index-before.ensures None) c.in_ok-push.ensures.items c.self.invariant
