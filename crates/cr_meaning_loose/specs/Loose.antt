-- The evaluation whose operands see one another first: C leaves their order open (C11 6.5p3, 6.5.2.2p10, 6.7.9p23), and what one of them does can be
-- seen by another. Of initialisers it is the list that has them.
use Rattle.std.specs.Prelude.{◌≡◌, ℕ, true, Option, Some, None, List, length, slice_get}
use Rattle.cr_meaning.specs.Events.{Event}
use Rattle.cr_meaning.specs.World.{Program}
use Rattle.cr_meaning.specs.declared.op.Op.{Op}
use Rattle.cr_meaning_seen.specs.Seen.{Forest, bare, node, onto}
use Rattle.cr_meaning_orders.specs.AnyOrder.{is_free}
use Rattle.cr_meaning_orders.specs.Fixed.{IsFixedNode, IsFixed}
use Rattle.cr_meaning_loose.specs.Lists.{Lists, is_cut, IsListFine, AreFine, IsFirstNot, AreListsFine}

-- the evaluation of this node, with these evaluations within, has a fixed order: C orders its operands, or none sees what another does
abbrev pub IsFixedAt : Program → ℕ → Forest → Type 0
IsFixedAt p number inner = (op : Op) → slice_get p.ops number ≡ Some op → is_free op.work ≡ true → IsFixedNode p (length op.parts) inner

-- Of the evaluations within the owner's, behind those that are done, and of the initialiser lists around them, this node is the first to end, or to be cut
-- off, that has none. What is within it ended before; of what `exit` or `abort` cut off at once the innermost comes first.
pub data IsFirstLoose (p : Program) (lists : Lists) (loose : ℕ) : ℕ → Forest → Forest → Type 0 where
  inside : {owner number : ℕ} {done inner next : Forest} {end : Option (List Event)} → IsFirstLoose p lists loose number bare inner
      → IsFirstLoose p lists loose owner done (node number inner end next)
  itself : {owner : ℕ} {done inner next : Forest} {end : Option (List Event)} → IsFixed p inner → AreListsFine p lists loose bare inner → (IsFixedAt p loose inner → ⊥)
      → IsFirstLoose p lists loose owner done (node loose inner end next)
  -- a list that ends with it
  in_list : {owner number : ℕ} {done inner next : Forest} {end : Option (List Event)} → IsFixed p inner → IsFixedAt p number inner
      → IsFirstNot (IsListFine p lists owner done (node number inner end bare) (is_cut end)) loose (lists number) → IsFirstLoose p lists loose owner done (node number inner end next)
  behind : {owner number : ℕ} {done inner next : Forest} {end : Option (List Event)} → IsFixed p inner → IsFixedAt p number inner
      → AreFine (IsListFine p lists owner done (node number inner end bare) (is_cut end)) (lists number) → IsFirstLoose p lists loose owner (onto done (node number inner end bare)) next
      → IsFirstLoose p lists loose owner done (node number inner end next)

-- what is found of the whole program's evaluations: none is loose, or this node is the first
abbrev pub Judged : Program → Lists → Forest → Option ℕ → Type 0
Judged p lists forest None = IsFixed p forest
Judged p lists forest (Some loose) = IsFirstLoose p lists loose (length p.ops) bare forest
