use Rattle.std.proofs.Common.{◌≢◌, ◌<◌, ◌≤◌, ℕ, List, [], ◌∷◌, Some, length, slice_index_or, arith}
use Rattle.cr_core.specs.declared.marks.HitKind.{HitKind}
use Rattle.cr_pool.specs.declared.crew.Worker.{Worker}
use Rattle.cr_pool.specs.Endings.{IsHitter}
use Rattle.cr_pool.proofs.ending.hitter.Goals as goal

not_all_passed : {J : Type 0} (workers : List (Worker J)) (at : ℕ) (kind : HitKind) (i worker : ℕ) → length workers ≤ i
    → ((k : ℕ) (d : Worker J) → k < i → (slice_index_or workers k d).hit ≢ Some (at, kind)) → IsHitter workers at kind worker → ⊥
not_all_passed [] at kind i worker all none it = omega (arith, it.0)
not_all_passed (w ∷ ws) at kind i worker all none it = none worker w (omega (arith, it.0)) (it.1 w)

pub unreachable-requires : goal.unreachable-requires
unreachable-requires g c = not_all_passed c.args.workers.now c.args.at c.args.kind c.loop-i.i c.requires.0 c.loop-i-test.false c.loop-i.invariant c.requires.1
