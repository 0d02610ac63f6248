use Rattle.std.proofs.Common.{List, ℕ, subst}
use Rattle.cr_standing_workers.specs.declared.orders.Shared.{Shared}
use Rattle.cr_standing.specs.Links.{FrontSays}
use Rattle.cr_standing.proofs.settling.front_of.Goals as goal

pub returns : goal.returns
returns g c =
    let walk = c.args.walk.now in
    subst (λ (file : List ℕ). FrontSays g.S.Subject.replies file walk.position c.known_at.result) c.requires.same
    (subst (λ (sh : Shared g.row.T.Denot). FrontSays g.S.Subject.replies sh.bytes.items walk.position c.known_at.result) c.deref.ensures c.known_at.ensures)
