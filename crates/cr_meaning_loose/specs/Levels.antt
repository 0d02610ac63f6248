-- The nodes that have begun and not ended, by the marks so far.
use Rattle.std.specs.Prelude.{ℕ, zero, ◌⊎◌, Option, Some, None, List, [], ◌∷◌}
use Rattle.cr_meaning_seen.specs.Seen.{Forest, bare, node, onto}
use Rattle.cr_meaning_seen.specs.Marks.{Mark, began, left}
use Rattle.cr_meaning.specs.World.{Program}
use Rattle.cr_meaning_orders.specs.Fixed.{IsFixed}
use Rattle.cr_meaning_loose.specs.Lists.{Lists, AreListsFine}
use Rattle.cr_meaning_loose.specs.Loose.{IsFirstLoose}

-- such a node, with the evaluations within it that have ended
pub record Level : Type 0 where
  pub number : ℕ
  pub done : Forest

-- the one that was reached last comes first; the last is the whole program
abbrev pub stepped : List Level → Mark → List Level
stepped levels (began number) = record { number = number; done = bare } ∷ levels
stepped [] (left number events) = []
stepped (top ∷ []) (left number events) = top ∷ []
stepped (top ∷ below ∷ rest) (left number events) = record { number = below.number; done = onto below.done (node top.number top.done (Some events) bare) } ∷ rest

abbrev pub stepped_all : List Level → List Mark → List Level
stepped_all levels [] = levels
stepped_all levels (mark ∷ marks) = stepped_all (stepped levels mark) marks

abbrev pub first_levels : ℕ → List Level
first_levels root = record { number = root; done = bare } ∷ []

abbrev pub levels_of : ℕ → List Mark → List Level
levels_of root marks = stepped_all (first_levels root) marks

-- the evaluations of the whole program, where its run ends now: the nodes that have not ended are cut off
abbrev pub closed_with : Forest → List Level → Forest
closed_with cut [] = cut
closed_with cut (top ∷ []) = onto top.done cut
closed_with cut (top ∷ below ∷ rest) = closed_with (node top.number (onto top.done cut) None bare) (below ∷ rest)

abbrev pub closed : List Level → Forest
closed levels = closed_with bare levels

-- the number of the whole program
abbrev pub bottom_of : List Level → ℕ
bottom_of [] = zero
bottom_of (top ∷ []) = top.number
bottom_of (top ∷ below ∷ rest) = bottom_of (below ∷ rest)

-- ---- which of what has ended is loose

-- none of the evaluations, and no list that has ended
abbrev pub AreAllFixed : Program → Lists → List Level → Type 0
AreAllFixed p lists [] = Unit {0}
AreAllFixed p lists (top ∷ below) = (IsFixed p top.done × AreListsFine p lists top.number bare top.done) × AreAllFixed p lists below

-- the first one stands in one of the levels, and in none below
abbrev pub IsFailed : Program → Lists → ℕ → List Level → Type 0
IsFailed p lists loose [] = ⊥
IsFailed p lists loose (top ∷ below) = (AreAllFixed p lists below × IsFirstLoose p lists loose top.number bare top.done) ⊎ IsFailed p lists loose below
