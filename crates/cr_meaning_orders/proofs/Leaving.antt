-- Own work of an expression: all objects are as they were, but for cells outside a set that its events spare.
use Rattle.std.proofs.Common.{◌≡◌, refl}
use Rattle.std.specs.Prelude.{ℕ, ◌==◌, pos, Bool, true, false, Result, Ok, Err, List, [], ◌∷◌, length, if◌then◌else◌}
use Rattle.cr_footprint.specs.Cell.{Cell as Place}
use Rattle.cr_ints.specs.declared.kind.IntKind.TheVariants.{Int as IntegerKind}
use Rattle.cr_memory.specs.declared.value.Element.{Element}
use Rattle.cr_memory.specs.declared.value.Pointer.{Pointer}
use Rattle.cr_memory.specs.declared.value.Trap.{Trap}
use Rattle.cr_memory.specs.Memory.{Memory, live_object}
use Rattle.cr_memory.specs.Access.{reach_of, load_of, cells_of}
use Rattle.cr_meaning.specs.World.{Program, World, object_for}
use Rattle.cr_meaning.specs.Values.{strays, converted}
use Rattle.cr_meaning.specs.Work.{Did, plainly, giving, used, at_place, place_of, passed, member_of, alone, on_one, on_two, by_count, work_of, updated, first_element}
use Rattle.cr_meaning.specs.declared.op.Access.{Access}
use Rattle.cr_meaning.specs.declared.op.Access.TheVariants as access
use Rattle.cr_meaning.specs.declared.op.Change.{Change}
use Rattle.cr_meaning.specs.declared.op.Form.{Form}
use Rattle.cr_meaning.specs.declared.op.Form.TheVariants as form
use Rattle.cr_meaning.specs.declared.op.Work.{Work}
use Rattle.cr_meaning.specs.declared.op.Work.TheVariants as work
use Rattle.cr_meaning.specs.declared.value.Value.{Value}
use Rattle.cr_meaning.specs.declared.value.Value.TheVariants.{Number, Pointer as Pointing, Place as PlaceValue, Cells}
use Rattle.cr_meaning_orders.proofs.Changing.{like_self, Sized, Changes, changes_then, changes_unless, changes_assigned, changes_updated}

module _ (kept : Place → Bool) (p : Program) (m : Memory) where
  abbrev Stays : Result Did Trap → Type 0
  Stays r = Changes kept p m r

  stays_giving : (r : Result Value Trap) → Stays (giving m r)
  stays_giving (Ok value) = λ spared n. like_self kept n (live_object m n)
  stays_giving (Err trap) = tt

  stays_if : (b : Bool) (r q : Result Did Trap) → Stays r → Stays q → Stays (if b then r else q)
  stays_if true r q h k = h
  stays_if false r q h k = k

  stays_used : (a : Access) (at : Pointer) → Stays (used p a m at)
  stays_used access.Unused at = λ spared n. like_self kept n (live_object m n)
  stays_used (access.Scalar kind volatile) at =
      changes_unless kept p m (strays 1 at) _ _ (changes_then kept p m (load_of m at kind) _ (λ held e. λ spared n. like_self kept n (live_object m n)))
  stays_used (access.Cells row) at =
      changes_unless kept p m (strays (length (p.kinds row)) at) _ _ (changes_then kept p m (cells_of m at (p.kinds row)) _ (λ held e. λ spared n. like_self kept n (live_object m n)))
  stays_used (access.Array stride whole) at =
      let rest = changes_then kept p m (reach_of m at) (λ _. plainly m (Pointing (first_element at stride))) (λ _ e. λ spared n. like_self kept n (live_object m n)) in
      stays_if (whole == 0) _ _ rest (changes_unless kept p m (strays whole at) _ _ rest)

  stays_place : (a : Access) (r : Result Pointer Trap) → Stays (at_place p a m r)
  stays_place a r = changes_then kept p m r (used p a m) (λ at e. stays_used a at)

  stays_passed : (a : Access) (value : Value) → Stays (passed p a m value)
  stays_passed a (PlaceValue at) = stays_used a at
  stays_passed a value = λ spared n. like_self kept n (live_object m n)

  stays_member : (a : Access) (whole before : ℕ) (count : Element) (f : Form) (value : Value) → Stays (member_of p a m whole before count f value)
  stays_member a whole before count f (PlaceValue at) = stays_place a _
  stays_member a whole before count f (Cells cells) = stays_giving _
  stays_member a whole before count f value = tt

  stays_updated : (change : Change) (f : Form) (volatile post : Bool) (left right : Value) → Stays (updated p m change f volatile post left right)
  stays_updated change (form.Number kind) volatile post left right = changes_updated kept p m change (form.Number kind) volatile post left right refl (λ new value e. tt)
  stays_updated change (form.Pointer to) volatile post left right = changes_updated kept p m change (form.Pointer to) volatile post left right refl (λ new value e. tt)
  stays_updated change form.Void volatile post (PlaceValue at) right = changes_unless kept p m (strays 1 at) _ _ tt
  stays_updated change (form.Cells row) volatile post (PlaceValue at) right = changes_unless kept p m (strays 1 at) _ _ tt
  stays_updated change f volatile post left right = tt

module _ (kept : Place → Bool) (p : Program) (s : World) where
  -- an assigned value has as many cells as its type
  abbrev pub AreSized : Work → List Value → Type 0
  AreSized (work.Assign f) (left ∷ right ∷ []) = (new : Value) → converted s.memory f right ≡ Ok new → Sized p f new
  AreSized w values = Unit {0}

  abbrev pub Remains : Result Did Trap → Type 0
  Remains r = Changes kept p s.memory r

  stays_alone : (w : Work) (a : Access) → Remains (alone p s w a)
  stays_alone (work.Constant kind value) a = λ spared n. like_self kept n (live_object s.memory n)
  stays_alone (work.Object node of) a = stays_place kept p s.memory a (place_of s.memory (object_for s.bindings node) of)
  stays_alone w a = tt

  stays_one : (w : Work) (a : Access) (value : Value) → Remains (on_one p s w a value)
  stays_one work.Pass a value = stays_passed kept p s.memory a value
  stays_one (work.Unary sign kind) a value = stays_giving kept p s.memory _
  stays_one work.Not a value = stays_giving kept p s.memory _
  stays_one (work.Cast f) a value = stays_giving kept p s.memory _
  stays_one work.AddressOf a value = stays_giving kept p s.memory _
  stays_one (work.Dereference count) a value = stays_place kept p s.memory a _
  stays_one (work.Member whole before count f) a value = stays_member kept p s.memory a whole before count f value
  stays_one (work.PointerMember whole before count) a value = stays_place kept p s.memory a _
  stays_one (work.Update change f volatile post) a value = stays_updated kept p s.memory change f volatile post value (Number IntegerKind (pos 1))
  stays_one w a value = tt

  stays_two : (w : Work) (a : Access) (left right : Value) → AreSized w (left ∷ right ∷ []) → Remains (on_two p s w a left right)
  stays_two work.Comma a left right z = λ spared n. like_self kept n (live_object s.memory n)
  stays_two (work.Binary change) a left right z = stays_giving kept p s.memory _
  stays_two (work.Compare relation kind) a left right z = stays_giving kept p s.memory _
  stays_two (work.ComparePointers relation) a left right z = stays_giving kept p s.memory _
  stays_two (work.Distance count) a left right z = stays_giving kept p s.memory _
  stays_two (work.Subscript count) a left right z = stays_place kept p s.memory a _
  stays_two (work.Assign f) a left right z = changes_assigned kept p s.memory f left right z
  stays_two (work.Update change f volatile post) a left right z = stays_updated kept p s.memory change f volatile post left right
  stays_two w a left right z = tt

  stays_count : (w : Work) (a : Access) (values : List Value) → AreSized w values → Remains (by_count p s w a values)
  stays_count w a [] z = stays_alone w a
  stays_count w a (value ∷ []) z = stays_one w a value
  stays_count w a (left ∷ right ∷ []) z = stays_two w a left right z
  stays_count w a (one ∷ two ∷ three ∷ more) z = tt

  pub stays_work : (w : Work) (a : Access) (values : List Value) → AreSized w values → Remains (work_of p s w a values)
  stays_work (work.Conditional f) a values z = stays_giving kept p s.memory _
  stays_work work.LogicalAnd a values z = stays_giving kept p s.memory _
  stays_work work.LogicalOr a values z = stays_giving kept p s.memory _
  stays_work w a values z = stays_count w a values z
