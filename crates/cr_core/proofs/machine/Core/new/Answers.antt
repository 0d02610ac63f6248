use Rattle.std.proofs.Common.{sym, subst, List}
use Rattle.cr_core.specs.Row.{Row, opening}
use Rattle.cr_core.specs.State.{IsSoundState}
use Rattle.cr_core.proofs.Totals.{begins}
use Rattle.cr_core.proofs.machine.Core.new.Goals as goal

pub returns-clause-sound : goal.returns-clause-sound
returns-clause-sound c =
    let P : List Row → Type 0 = λ l. IsSoundState (record { len = c.args.len; next = 0; least = opening c.args.len; lists = l }) in
    subst P (sym c.loop.invariant) (begins c.args.len _)
