use Rattle.std.proofs.Common.{◌≡◌, ◌≢◌, ◌-◌, [], false}
use Rattle.cr_core.specs.declared.marks.Mark.TheVariants.{Open}
use Rattle.cr_core.specs.Row.{last_position, last_mark}
use Rattle.cr_claims.specs.Pass.{view_of, IsOf}
use Rattle.tests_workers.proofs.claiming.Worker.claim_all.Given as goal

abbrev pub invariant-loop-at : goal.invariant-loop-at
invariant-loop-at l =
    let v = view_of l.self.pass in
    IsOf l.claims l.self.pass × (v.left ≡ false) × (v.own ≢ []) × (last_mark v.own ≡ Open) × (last_position v.own ≡ l.at)

abbrev pub decreases-loop-at : goal.decreases-loop-at
decreases-loop-at l = 1000 - l.at
