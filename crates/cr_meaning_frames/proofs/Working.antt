-- Own work without a side effect does the same in a memory that agrees.
use Rattle.std.proofs.Common.{◌≡◌, refl, sym, ◌∙◌, ap, subst}
use Rattle.std.specs.Prelude.{ℕ, zero, suc, ◌==◌, neg_ℤ, Bool, true, false, not, ◌&&◌, ◌||◌, Option, Some, None, Result, Ok, Err, List, [], ◌∷◌, ◌++◌, length, take, drop, if◌then◌else◌}
use Rattle.std.specs.List.{list_all}
use Rattle.cr_footprint.specs.Cell.{Cell as Place}
use Rattle.cr_ints.specs.Conversions.{convert_of}
use Rattle.cr_memory.specs.declared.value.Element.{Element}
use Rattle.cr_memory.specs.declared.value.Pointer.{Pointer}
use Rattle.cr_memory.specs.declared.value.Pointer.TheVariants.{At}
use Rattle.cr_memory.specs.declared.value.Cell.{Cell}
use Rattle.cr_memory.specs.declared.value.Cell.TheVariants as cell
use Rattle.cr_memory.specs.declared.value.Trap.{Trap}
use Rattle.cr_memory.specs.Memory.{Memory}
use Rattle.cr_memory.specs.Access.{number_of, cell_of, reach_of, load_of, cells_of}
use Rattle.cr_meaning.specs.Events.{Event, Reads}
use Rattle.cr_meaning.specs.Quiet.{is_quiet_work}
use Rattle.cr_meaning.specs.World.{Program, World, Binding, then_by, object_for}
use Rattle.cr_meaning.specs.Values.{misfits, if_fits, strays, if_holds, if_lives, asked, converted, signed_by, compares, moved, moved_either, changed, as_pointer, with_pointers, related, distance, misfit_value, if_both_fit, value_in, holding, pointing}
use Rattle.cr_meaning.specs.Work.{Did, plainly, giving, events_from, events_at, deed_of, used, at_place, place_of, inner_of, taken_scalar, taken, member_of, followed, is_nothing, logical, is_void, conditional, integer, cast, comparison, address, alone, passed, on_one, on_two, by_count, work_of, first_element}
use Rattle.cr_meaning.specs.declared.op.Access.{Access}
use Rattle.cr_meaning.specs.declared.op.Access.TheVariants as access
use Rattle.cr_meaning.specs.declared.op.Form.{Form}
use Rattle.cr_meaning.specs.declared.op.Form.TheVariants as form
use Rattle.cr_meaning.specs.declared.op.Change.{Change}
use Rattle.cr_meaning.specs.declared.op.Change.TheVariants.{Arithmetic, Move}
use Rattle.cr_meaning.specs.declared.op.Relation.{Relation}
use Rattle.cr_meaning.specs.declared.op.Relation.TheVariants.{Less, Greater, LessEqual, GreaterEqual, Equal, NotEqual}
use Rattle.cr_meaning.specs.declared.op.Work.{Work}
use Rattle.cr_meaning.specs.declared.op.Work.TheVariants as work
use Rattle.cr_meaning.specs.declared.value.Value.{Value}
use Rattle.cr_meaning.specs.declared.value.Value.TheVariants.{Nothing, Number, Pointer as Pointing, Place as PlaceValue, Cells}
use Rattle.cr_meaning_frames.specs.Frame.{Agree, KnowsObjects, reads_in, AreReadsIn}
use Rattle.cr_meaning_frames.proofs.Agreeing.{Same, same_self, same_then, same_unless, Covers, same_alive, same_reach, same_load, same_cells, same_shift, same_differ, same_less, same_equality}

-- ---- events

pub and_left : (a b : Bool) → (a && b) ≡ true → a ≡ true
and_left true b e = refl
and_left false b e = absurd cc

pub and_right : (a b : Bool) → (a && b) ≡ true → b ≡ true
and_right true b e = e
and_right false b e = absurd cc

pub all_left : {A : Type 0} (f : A → Bool) (xs ys : List A) → list_all f (xs ++ ys) ≡ true → list_all f xs ≡ true
all_left f [] ys e = refl
all_left f (x ∷ xs) ys e =
    let rest : list_all f xs ≡ true = all_left f xs ys (and_right (f x) (list_all f (xs ++ ys)) e) in
    ap (λ b. b && list_all f xs) (and_left (f x) (list_all f (xs ++ ys)) e) ∙ rest

module _ (cells : Place → Bool) where
  covered : (object first count : ℕ) → AreReadsIn cells (events_from Reads object first count) → Covers (λ i. cells (object, i)) first count
  covered object first zero h = tt
  covered object first (suc count) h = (
    and_left (cells (object, first)) (list_all (reads_in cells) (events_from Reads object (suc first) count)) h,
    covered object (suc first) count (and_right (cells (object, first)) (list_all (reads_in cells) (events_from Reads object (suc first) count)) h),
  )

module _ (cells : Place → Bool) (one other : Memory) (h : Agree cells one other) where
  -- ---- values

  same_asked : (value : Value) → Same (asked one value) (asked other value)
  same_asked (Number kind value) = refl
  same_asked (Pointing at) = same_alive cells one other h at _ _ _ refl
  same_asked Nothing = tt
  same_asked value = same_self (asked one value)

  same_converted : (f : Form) (value : Value) → Same (converted one f value) (converted other f value)
  same_converted (form.Number kind) (Pointing at) = same_alive cells one other h at _ _ _ refl
  same_converted f value = same_self (converted one f value)

  same_fits : {A : Type 0} (count : Element) (at : Pointer) (r r' : Result A Trap) → Same r r' → Same (if_fits count at r) (if_fits count at r')
  same_fits count at r r' k = same_unless (misfits count at) (misfits count at) _ r r' (λ e. e) (λ e. k)

  same_holds : {A : Type 0} (count : ℕ) (at : Pointer) (r r' : Result A Trap) → Same r r' → Same (if_holds count at r) (if_holds count at r')
  same_holds count at r r' k = same_unless (strays count at) (strays count at) _ r r' (λ e. e) (λ e. k)

  same_moved : (back : Bool) (count : Element) (at : Pointer) (value : Value) → Same (moved one back count at value) (moved other back count at value)
  same_moved back count at (Number kind value) = same_fits count at _ _ (same_shift cells one other h at (if back then neg_ℤ value else value))
  same_moved back count at value = same_self (moved one back count at value)

  same_moved_either : (back : Bool) (count : Element) (left right : Value) → Same (moved_either one back count left right) (moved_either other back count left right)
  same_moved_either back count (Pointing at) value = same_moved back count at value
  same_moved_either back count value (Pointing at) = same_moved back count at value
  same_moved_either back count left right = same_self (moved_either one back count left right)

  same_changed : (change : Change) (left right : Value) → Same (changed one change left right) (changed other change left right)
  same_changed (Move back count) left right = same_then _ _ pointing pointing (same_moved_either back count left right) (λ at. refl)
  same_changed (Arithmetic operator kind) left right = same_self (changed one (Arithmetic operator kind) left right)

  same_related : (relation : Relation) (left right : Pointer) → Same (related one relation left right) (related other relation left right)
  same_related Less left right = same_then _ _ _ _ (same_less cells one other h left right) (λ b. refl)
  same_related Greater left right = same_then _ _ _ _ (same_less cells one other h right left) (λ b. refl)
  same_related LessEqual left right = same_then _ _ _ _ (same_less cells one other h right left) (λ b. refl)
  same_related GreaterEqual left right = same_then _ _ _ _ (same_less cells one other h left right) (λ b. refl)
  same_related Equal left right = same_then _ _ _ _ (same_equality cells one other h left right) (λ b. refl)
  same_related NotEqual left right = same_then _ _ _ _ (same_equality cells one other h left right) (λ b. refl)

  same_pointers : (left right : Value) (f g : Pointer → Pointer → Result Value Trap) → ((l r : Pointer) → Same (f l r) (g l r)) → Same (with_pointers left right f) (with_pointers left right g)
  same_pointers left right f g k = same_then (as_pointer left) (as_pointer left) _ _ (same_self (as_pointer left)) (λ l. same_then (as_pointer right) (as_pointer right) (f l) (g l) (same_self (as_pointer right)) (k l))

  same_distance : (left right : Pointer) → Same (distance one left right) (distance other left right)
  same_distance left right = same_then _ _ _ _ (same_differ cells one other h left right) (λ by. refl)

  same_both_fit : {A : Type 0} (count : Element) (left right : Value) (r r' : Result A Trap) → Same r r' → Same (if_both_fit count left right r) (if_both_fit count left right r')
  same_both_fit count left right r r' k =
      same_unless (misfit_value count left) _ _ _ _ (λ e. e) (λ e. same_unless (misfit_value count right) _ _ _ _ (λ f. f) (λ f. k))

  -- ---- what own work does

  -- it reads cells of the set alone, and so it leaves the memory, and does the same in the other
  abbrev pub Moves : Result Did Trap → Result Did Trap → Type 0
  Moves (Ok did) new = AreReadsIn cells did.events → (did.memory ≡ one) × (new ≡ Ok (record did { memory = other }))
  Moves (Err trap) new = Unit {0}

  moves_then : {A : Type 0} (r r' : Result A Trap) (f g : A → Result Did Trap) → Same r r' → ((a : A) → Moves (f a) (g a)) → Moves (then_by r f) (then_by r' g)
  moves_then {A = A} (Ok a) r' f g e k = let F : Result A Trap → Type 0 = λ x. Moves (f a) (then_by x g) in subst F (sym e) (k a)
  moves_then (Err trap) r' f g e k = tt

  moves_giving : (r r' : Result Value Trap) → Same r r' → Moves (giving one r) (giving other r')
  moves_giving r r' k = moves_then r r' (plainly one) (plainly other) k (λ value. λ reads. (refl, refl))

  moves_unless : (b : Bool) (trap : Trap) (r r' : Result Did Trap) → Moves r r' → Moves (if b then Err trap else r) (if b then Err trap else r')
  moves_unless true trap r r' k = tt
  moves_unless false trap r r' k = k

  moves_if : (b : Bool) (r r' q q' : Result Did Trap) → Moves r r' → Moves q q' → Moves (if b then r else q) (if b then r' else q')
  moves_if true r r' q q' k l = k
  moves_if false r r' q q' k l = l

  -- a read, of which it is known once it has come that its cells are in the set
  moves_read : {A : Type 0} (r r' : Result A Trap) (events : List Event) (f : A → Value) → (AreReadsIn cells events → Same r r')
      → Moves (then_by r (λ a. Ok (record { value = f a; memory = one; events = events }))) (then_by r' (λ a. Ok (record { value = f a; memory = other; events = events })))
  moves_read {A = A} (Ok a) r' events f k = λ reads. (refl, ap (λ (x : Result A Trap). then_by x (λ a. Ok (record { value = f a; memory = other; events = events }))) (k reads))
  moves_read (Err trap) r' events f k = tt

  touches_none : (volatile : Bool) (at : Pointer) → AreReadsIn cells (events_at (deed_of volatile) at 1) → cells (number_of at, cell_of at) ≡ true
  touches_none true at e = absurd cc
  touches_none false at e = and_left (cells (number_of at, cell_of at)) true e

  moves_used : (p : Program) (a : Access) (at : Pointer) → Moves (used p a one at) (used p a other at)
  moves_used p access.Unused at = λ reads. (refl, refl)
  moves_used p (access.Scalar kind volatile) at =
      moves_unless (strays 1 at) _ _ _ (moves_read (load_of one at kind) (load_of other at kind) (events_at (deed_of volatile) at 1) (value_in kind)
      (λ reads. same_load cells one other h at kind (touches_none volatile at reads)))
  moves_used p (access.Cells row) at =
      moves_unless (strays (length (p.kinds row)) at) _ _ _ (moves_read (cells_of one at (p.kinds row)) (cells_of other at (p.kinds row)) (events_at Reads at (length (p.kinds row))) (λ held. Cells held)
      (λ reads. same_cells cells one other h at (p.kinds row) (covered cells (number_of at) (cell_of at) (length (p.kinds row)) reads)))
  moves_used p (access.Array stride whole) at =
      let rest : Moves (then_by (reach_of one at) (λ _. plainly one (Pointing (first_element at stride)))) (then_by (reach_of other at) (λ _. plainly other (Pointing (first_element at stride)))) =
      moves_then (reach_of one at) (reach_of other at) _ _ (same_reach cells one other h at) (λ _. λ reads. (refl, refl)) in
      moves_if (whole == 0) _ _ _ _ rest (moves_unless (strays whole at) _ _ _ rest)

  moves_place : (p : Program) (a : Access) (r r' : Result Pointer Trap) → Same r r' → Moves (at_place p a one r) (at_place p a other r')
  moves_place p a r r' k = moves_then r r' (used p a one) (used p a other) k (moves_used p a)

  same_lives : (at : Pointer) → Same (if_lives one at (Ok at)) (if_lives other at (Ok at))
  same_lives at = same_alive cells one other h at _ _ _ refl

  same_inner : (whole before : ℕ) (count : Element) (at : Pointer) → Same (inner_of one whole before count at) (inner_of other whole before count at)
  same_inner whole before count at = same_holds whole at _ _ (same_then _ _ _ _ (same_reach cells one other h at) (λ _. refl))

  same_followed : {A : Type 0} (count : Element) (value : Value) (f g : Pointer → Result A Trap) → ((at : Pointer) → Same (f at) (g at)) → Same (followed count value f) (followed count value g)
  same_followed count (Pointing at) f g k = same_fits count at _ _ (k at)
  same_followed count Nothing f g k = tt
  same_followed count value f g k = tt

  same_taken_scalar : (f : Form) (held : List Cell) → Same (taken_scalar one f held) (taken_scalar other f held)
  same_taken_scalar (form.Pointer to) (cell.Pointer at ∷ []) = same_alive cells one other h at _ _ _ refl
  same_taken_scalar f held = same_self (taken_scalar one f held)

  same_taken : (f : Form) (held : List Cell) → Same (taken one f held) (taken other f held)
  same_taken (form.Cells row) held = refl
  same_taken f held = same_taken_scalar f held

  same_cast : (f : Form) (value : Value) → Same (cast one f value) (cast other f value)
  same_cast form.Void value = refl
  same_cast f (Pointing at) = same_alive cells one other h at _ _ _ (same_converted f (Pointing at))
  same_cast f value = same_converted f value

  same_logical : (f : Bool → Bool → Bool) (values : List Value) → Same (logical one f values) (logical other f values)
  same_logical f (left ∷ []) = same_then _ _ _ _ (same_asked left) (λ b. refl)
  same_logical f (left ∷ right ∷ []) =
      same_unless (is_nothing right) (is_nothing right) _ _ _ (λ e. e) (λ e. same_then _ _ _ _ (same_asked left) (λ l. same_then _ _ _ _ (same_asked right) (λ r. refl)))
  same_logical f values = same_self (logical one f values)

  same_conditional : (f : Form) (values : List Value) → Same (conditional one f values) (conditional other f values)
  same_conditional f (Nothing ∷ []) = tt
  same_conditional f (first ∷ chosen ∷ []) =
      same_unless (is_nothing chosen && not (is_void f)) _ _ _ _ (λ e. e) (λ e. same_then (asked one first) (asked other first) (λ _. converted one f chosen) (λ _. converted other f chosen) (same_asked first) (λ _. same_converted f chosen))
  same_conditional f values = same_self (conditional one f values)

  moves_member : (p : Program) (a : Access) (whole before : ℕ) (count : Element) (f : Form) (value : Value) → Moves (member_of p a one whole before count f value) (member_of p a other whole before count f value)
  moves_member p a whole before count f (PlaceValue at) = moves_place p a _ _ (same_inner whole before count at)
  moves_member p a whole before count f (Cells held) = moves_giving _ _ (same_taken f (take count.cells (drop before held)))
  moves_member p a whole before count f Nothing = tt
  moves_member p a whole before count f value = tt

  moves_passed : (p : Program) (a : Access) (value : Value) → Moves (passed p a one value) (passed p a other value)
  moves_passed p a (PlaceValue at) = moves_used p a at
  moves_passed p a value = λ reads. (refl, refl)

-- ---- all work

-- the place of a whole object tells how many cells it has
module _ (cells : Place → Bool) (p : Program) (s t : World) (h : Agree cells s.memory t.memory) (bound : t.bindings ≡ s.bindings) (knows : KnowsObjects s.bindings s.memory t.memory) where
  same_place : (o : Option ℕ) (node of : ℕ) → object_for s.bindings node ≡ o → Same (place_of s.memory o of) (place_of t.memory o of)
  same_place None node of e = tt
  same_place (Some object) node of e =
      let whole : ℕ → Element = λ n. record { cells = n; of = of } in
      ap (λ n. Ok (At object 0 0 n (whole n))) (knows node object e)

  moves_alone : (w : Work) (a : Access) → Moves cells s.memory t.memory h (alone p s w a) (alone p t w a)
  moves_alone (work.Constant kind value) a = λ reads. (refl, refl)
  moves_alone (work.Object node of) a =
      let F : List Binding → Type 0 = λ b. Same (place_of s.memory (object_for s.bindings node) of) (place_of t.memory (object_for b node) of) in
      moves_place cells s.memory t.memory h p a _ _ (subst F (sym bound) (same_place (object_for s.bindings node) node of refl))
  moves_alone w a = tt

  moves_one : (w : Work) (a : Access) (value : Value) → is_quiet_work w ≡ true → Moves cells s.memory t.memory h (on_one p s w a value) (on_one p t w a value)
  moves_one work.Pass a value k = moves_passed cells s.memory t.memory h p a value
  moves_one (work.Unary sign kind) a value k = let r = then_by (integer value) (signed_by sign kind) in moves_giving cells s.memory t.memory h r r (same_self r)
  moves_one work.Not a value k = moves_giving cells s.memory t.memory h _ _ (same_then _ _ _ _ (same_asked cells s.memory t.memory h value) (λ b. refl))
  moves_one (work.Cast f) a value k = moves_giving cells s.memory t.memory h _ _ (same_cast cells s.memory t.memory h f value)
  moves_one work.AddressOf a value k = moves_giving cells s.memory t.memory h (address value) (address value) (same_self (address value))
  moves_one (work.Dereference count) a value k =
      moves_place cells s.memory t.memory h p a _ _ (same_followed cells s.memory t.memory h count value _ _ (same_lives cells s.memory t.memory h))
  moves_one (work.Member whole before count f) a value k = moves_member cells s.memory t.memory h p a whole before count f value
  moves_one (work.PointerMember whole before count) a value k =
      moves_place cells s.memory t.memory h p a _ _ (same_followed cells s.memory t.memory h whole value _ _ (same_inner cells s.memory t.memory h whole.cells before count))
  moves_one (work.Update change f volatile post) a value k = absurd cc
  moves_one w a value k = tt

  moves_two : (w : Work) (a : Access) (left right : Value) → is_quiet_work w ≡ true → Moves cells s.memory t.memory h (on_two p s w a left right) (on_two p t w a left right)
  moves_two work.Comma a left right k = λ reads. (refl, refl)
  moves_two (work.Binary change) a left right k = moves_giving cells s.memory t.memory h _ _ (same_changed cells s.memory t.memory h change left right)
  moves_two (work.Compare relation kind) a left right k =
      let r = comparison s.memory left right (λ l. λ r. holding (compares relation (convert_of l kind) (convert_of r kind))) in moves_giving cells s.memory t.memory h r r (same_self r)
  moves_two (work.ComparePointers relation) a left right k =
      moves_giving cells s.memory t.memory h _ _ (same_pointers cells s.memory t.memory h left right _ _ (same_related cells s.memory t.memory h relation))
  moves_two (work.Distance count) a left right k =
      moves_giving cells s.memory t.memory h _ _ (same_both_fit cells s.memory t.memory h count left right _ _
      (same_pointers cells s.memory t.memory h left right _ _ (same_distance cells s.memory t.memory h)))
  moves_two (work.Subscript count) a left right k = moves_place cells s.memory t.memory h p a _ _ (same_moved_either cells s.memory t.memory h false count left right)
  moves_two (work.Assign f) a left right k = absurd cc
  moves_two (work.Update change f volatile post) a left right k = absurd cc
  moves_two w a left right k = tt

  moves_count : (w : Work) (a : Access) (values : List Value) → is_quiet_work w ≡ true → Moves cells s.memory t.memory h (by_count p s w a values) (by_count p t w a values)
  moves_count w a [] k = moves_alone w a
  moves_count w a (value ∷ []) k = moves_one w a value k
  moves_count w a (left ∷ right ∷ []) k = moves_two w a left right k
  moves_count w a (left ∷ right ∷ more ∷ rest) k = tt

  pub moves_work : (w : Work) (a : Access) (values : List Value) → is_quiet_work w ≡ true → Moves cells s.memory t.memory h (work_of p s w a values) (work_of p t w a values)
  moves_work (work.Conditional f) a values k = moves_giving cells s.memory t.memory h _ _ (same_conditional cells s.memory t.memory h f values)
  moves_work work.LogicalAnd a values k = moves_giving cells s.memory t.memory h _ _ (same_logical cells s.memory t.memory h (λ l. λ r. l && r) values)
  moves_work work.LogicalOr a values k = moves_giving cells s.memory t.memory h _ _ (same_logical cells s.memory t.memory h (λ l. λ r. l || r) values)
  moves_work w a values k = moves_count w a values k
