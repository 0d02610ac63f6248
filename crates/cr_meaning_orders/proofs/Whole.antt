-- All of it, but for what a loud operand changes.
use Rattle.std.proofs.Common.{◌≡◌}
use Rattle.std.specs.Prelude.{ℕ, Bool, Some}
use Rattle.cr_footprint.specs.Cell.{Cell as Place}
use Rattle.cr_meaning.specs.Language.{Reply, gave}
use Rattle.cr_meaning.specs.World.{Program, World, Answer, Halt}
use Rattle.cr_meaning.specs.Nodes.{events_of}
use Rattle.cr_meaning.specs.Meaning.{Goal, reach, body}
use Rattle.cr_meaning_seen.specs.Seen.{Forest, bare, node, Sees}
use Rattle.cr_meaning_orders.specs.AnyOrder.{lifted, AnyRuns}
use Rattle.cr_meaning_orders.specs.Fixed.{Spares, IsFixed}
use Rattle.cr_meaning_soundness.proofs.Lasting.{Holds}
use Rattle.cr_meaning_orders.proofs.Orders.{IsGood, IsOperand, Loudness, one_order}
use Rattle.cr_meaning_orders.proofs.Steady.{steady}

module _ (p : Program) (Known : Goal → World → Type 0) (Keeps : (g : Goal) (s : World) → Known g s → Reply Answer World Halt → Type 0)
    (knowing : (g : Goal) (s : World) (i : Known g s) → Holds Known Keeps (Keeps g s i) (body p g) s)
    (elsewhere : (number : ℕ) (s : World) → Known (reach number) s → (g : Goal) (w : World) → Known g w → (x : World) → x.memory ≡ w.memory → x.bindings ≡ w.bindings → x.bindings ≡ s.bindings → Known (reach number) x)
    (changes : (kept : Place → Bool) (number : ℕ) (u v : World) (answer : Answer) (inner : Forest) → IsOperand p (steady p) Known Keeps knowing elsewhere number → Known (reach number) u → Sees p (body p (reach number)) u (gave answer v) inner
    → Spares kept (node number inner (Some (events_of answer)) bare) → Loudness p (steady p) Known Keeps knowing elsewhere kept u v)
  where
    pub any_order : (g : Goal) (s : World) (r other : Reply Answer World Halt) (forest : Forest) → Known g s → Sees p (body p g) s r forest → IsFixed p forest → IsGood r → AnyRuns p (lifted (body p g)) s other → other ≡ r
    any_order g s r other forest know run fixed good any =
        one_order p (steady p) Known Keeps knowing elsewhere changes (Keeps g s know) (body p g) s r other forest (knowing g s know) (steady p g) run fixed good any
