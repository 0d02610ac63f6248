-- One more that is so joins the others.
use Rattle.std.proofs.Common.{ℕ, List, [], ◌∷◌, ◌++◌}
use Rattle.crossbeam_channel.specs.Fifo.{Pushes}
use Rattle.cr_standing_workers.specs.Channels.{AllAre}

all_more : {A : Type 0} (Is : A → Type 0) (xs : List A) (x : A) → AllAre Is xs → Is x → AllAre Is (xs ++ x ∷ [])
all_more Is [] x all it = (it, tt)
all_more Is (y ∷ xs) x all it = (all.0, all_more Is xs x all.1 it)

pub joins : {A : Type 0} (Is : A → Type 0) (n id : ℕ) (v : Unit {0}) (x : A) → Is x → Pushes (λ items views. AllAre Is items) n id v x (λ w. Is x)
joins Is n id v x it items views room all there = (tt, all_more Is items x all it, it)
