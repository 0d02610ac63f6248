-- Each expression of an initialiser initialises one part (C11 6.7.9p17, p20).
use Rattle.std.specs.Prelude.{◌≡◌, ℕ, List, Some, slice_get}
use Rattle.cr_typed.specs.declared.typed.Typed.{Typed}
use Rattle.cr_check_types.specs.Types.{Qualified}
use Rattle.cr_check_initialisers.specs.Known.{Known}
use Rattle.cr_check_initialisers.specs.Places.{Place}
use Rattle.cr_check_initialisers.specs.Plans.{Entry, put, IsPlan}
use Rattle.cr_meaning_operations.specs.Operations.{parts_at}
use Rattle.cr_meaning_declarations.specs.Units.Owned.{AreOfUnit}

-- by a plan over the nodes of a unit, whose initialisers in braces are a node's parts
abbrev pub PlansPutOnce : Type 0
PlansPutOnce = (t : Typed) → AreOfUnit t → (k : Known) → ((i : ℕ) → k.initialisers i ≡ parts_at t i) → (type : Qualified) (above node : ℕ) (xs : List Entry) → IsPlan k type above node xs
    → (a m n : ℕ) (p q : Place) (b c : ℕ) → slice_get xs m ≡ Some (put p a b) → slice_get xs n ≡ Some (put q a c) → m ≡ n
