use Rattle.std.proofs.Common.{◌∷◌, sym, subst}
use Rattle.cr_scopes.specs.States.{name_in, IsState}
use Rattle.cr_scopes.proofs.Followed.{name_noted}
use Rattle.cr_scopes.proofs.state.follow.Goals as goal

pub returns-in_ok-fault-in-Name-clause-state : goal.returns-in_ok-fault-in-Name-clause-state
returns-in_ok-fault-in-Name-clause-state c =
    λ past h. subst (λ e. IsState (name_in c.args.names.now) (e ∷ past) c.named.new.state) (sym c.in-Name.is)
    (name_noted (name_in c.args.names.now) past c.in-Name.token c.name_at.result c.in-Name.role c.args.state.now c.named.new.state
    c.name_at.ensures c.in_ok-fault-in-Name.ensures.named h)
