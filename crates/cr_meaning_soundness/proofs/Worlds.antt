-- Objects that are entered and left: the memory stays sound, and the world well formed.
use Rattle.std.proofs.Common.{◌≡◌, ◌≢◌, ℕ, ◌+◌, ◌^◌, ◌<◌, ◌≤◌, ◌&&◌, nat_le, Bool, true, false, ◌⊎◌, inl, inr, Option, Some, None, Result, Ok, Err, List, [], ◌∷◌, ◌++◌, length, map, get_or, set, if◌then◌else◌, refl, sym, ap, ◌∙◌, subst, arith, length-set, get_or-set_other, get_or-set_same}
use Rattle.std.specs.Prelude.{nat_lt, IfOk, ◌==◌}
use Rattle.std.proofs.lemmas.Bool.{leb-true, eq-eqb, cases_eq, cases_lt}
use Rattle.std.proofs.lemmas.List.{get_or_append_left, get_or_push, get_or_past, length_push, length-map}
use Rattle.cr_memory.specs.declared.value.Scalar.{Scalar}
use Rattle.cr_memory.specs.declared.value.Scalar.TheVariants.{Int as IntegerKind, Pointer as PointerKind}
use Rattle.cr_memory.specs.declared.value.Cell.{Cell}
use Rattle.cr_memory.specs.declared.value.Cell.TheVariants.{Unset, Number, Pointer as PointerCell}
use Rattle.cr_memory.specs.declared.value.Pointer.{Pointer}
use Rattle.cr_memory.specs.declared.value.Pointer.TheVariants.{Null, At}
use Rattle.cr_memory.specs.declared.value.Trap.TheVariants.{Left}
use Rattle.cr_memory.specs.declared.value.Guard.{Guard}
use Rattle.cr_memory.specs.declared.value.Trap.{Trap}
use Rattle.cr_memory.specs.Memory.{Object, Memory, IsPointer, Holds, AllHold, live_cells, zero_of, first_cell, has_room, with_object, without_object}
use Rattle.cr_memory.specs.Continues.{Continues}
use Rattle.cr_memory.proofs.Continuing.{continues-refl, continues-onward, continues-past_new, with_object-continues, without_object-continues}
use Rattle.cr_meaning.specs.World.{Program, World, Binding, bound, mark, object_for, with_binding, enter_object, enter_all, automatic, marked, left_by}
use Rattle.cr_meaning.specs.declared.value.Value.{Value}
use Rattle.cr_meaning.specs.declared.value.Value.TheVariants.{Nothing, Number as NumberValue, Pointer as Pointing, Place, Cells}
use Rattle.cr_meaning_soundness.specs.Sorts.{Sort, number as NumberSort, pointer as PointerSort, place as PlaceSort, cells as CellsSort, chars as CharsSort, sorts_in, Fits, IsAmong, AreEntered, IsSound, IsWellFormed}
use Rattle.cr_meaning_soundness.specs.Scopes.{IsBound, AreBound}
use Rattle.cr_meaning_soundness.specs.Blocks.{IsAbove, opened, more, Stands}
use Rattle.cr_meaning_soundness.specs.Laws
use Rattle.cr_meaning_soundness.proofs.Cells.{kinds_of, as_many, all_hold_later, Written}
use Rattle.cr_meaning_soundness.proofs.Numbers.{zero_or_one}
use Rattle.cr_meaning_soundness.proofs.Later.{entered_later}

pub some_is_one : {A : Type 0} {a b : A} → Some a ≡ Some b → a ≡ b
some_is_one e = cc

-- ---- one more object

pushed : (objects : List (Option Object)) (object live : Object) (n : ℕ) → get_or (objects ++ Some object ∷ []) n None ≡ Some live
    → (n < length objects) ⊎ (length objects ≤ n) → (n ≡ length objects) ⊎ (n ≢ length objects) → (get_or objects n None ≡ Some live) ⊎ (object ≡ live)
pushed objects object live n e (inl h) same = inl (sym (get_or_append_left objects (Some object ∷ []) None n h) ∙ e)
pushed objects object live n e (inr h) (inl same) = inr (some_is_one (sym (get_or_push objects (Some object) None n (sym same)) ∙ e))
pushed objects object live n e (inr h) (inr other) =
    let past = get_or_past (objects ++ Some object ∷ []) n None (omega (arith, length_push objects (Some object), other, h)) in absurd (cc (past, e))

pub is_pushed : (objects : List (Option Object)) (object live : Object) (n : ℕ) → get_or (objects ++ Some object ∷ []) n None ≡ Some live → (get_or objects n None ≡ Some live) ⊎ (object ≡ live)
is_pushed objects object live n e = pushed objects object live n e (cases_lt n (length objects)) (cases_eq n (length objects))

pub with_sound : (memory : Memory) (object : Object) → IsSound memory → AllHold memory (kinds_of object.shape) object.cells → length object.cells < 2 ^ 63
    → Written memory (with_object memory object)
with_sound memory object sound hold few = record {
  sound = record {
    kinds = λ n live f. held_at live n (is_pushed memory.objects object live n f);
    small = λ n live f. sized_at live n (is_pushed memory.objects object live n f);
    most = sound.most;
  };
  continues = with_object-continues memory object;
}
  where
    held_at : (live : Object) (n : ℕ) → (get_or memory.objects n None ≡ Some live) ⊎ (object ≡ live) → AllHold (with_object memory object) (kinds_of live.shape) live.cells
    held_at live n (inl old) = all_hold_later memory (with_object memory object) (kinds_of live.shape) live.cells (with_object-continues memory object) (sound.kinds n live old)
    held_at live n (inr same) =
        let F : Object → Type 0 = λ o. AllHold (with_object memory object) (kinds_of o.shape) o.cells in
        subst F same (all_hold_later memory (with_object memory object) (kinds_of object.shape) object.cells (with_object-continues memory object) hold)

    sized_at : (live : Object) (n : ℕ) → (get_or memory.objects n None ≡ Some live) ⊎ (object ≡ live) → length live.cells < 2 ^ 63
    sized_at live n (inl old) = sound.small n live old
    sized_at live n (inr same) = let F : Object → Type 0 = λ o. length o.cells < 2 ^ 63 in subst F same few

-- ---- an object less

pub gone : (objects : List (Option Object)) (number n : ℕ) (live : Object) → (n ≡ number) ⊎ (n ≢ number) → get_or (set objects number None) n None ≡ Some live → get_or objects n None ≡ Some live
gone objects number n live (inr other) e = sym (get_or-set_other objects number n None None other) ∙ e
gone objects number n live (inl same) e = ended objects number n live (cases_lt number (length objects)) same e
  where
    ended : (objects : List (Option Object)) (number n : ℕ) (live : Object) → (number < length objects) ⊎ (length objects ≤ number) → n ≡ number → get_or (set objects number None) n None ≡ Some live
        → get_or objects n None ≡ Some live
    ended objects number n live (inl h) same e =
        let none : get_or (set objects number None) n None ≡ None = ap (λ k. get_or (set objects number None) k None) same ∙ get_or-set_same objects number None None h in absurd (cc (none, e))
    ended objects number n live (inr h) same e =
        let none : get_or (set objects number None) n None ≡ None = get_or_past (set objects number None) n None (omega (arith, length-set objects number None)) in absurd (cc (none, e))

-- all pointers stay: an object that has ended bounds none
kept_pointer : (memory : Memory) (number : ℕ) (at : Pointer) → IsPointer memory at → IsPointer (without_object memory number) at
kept_pointer memory number Null h = tt
kept_pointer memory number (At object cell low high stride) h = record {
  entered = omega (arith, h.entered, length-set memory.objects number None);
  stride_above = h.stride_above;
  low_before = h.low_before;
  high_after = h.high_after;
  whole_before = h.whole_before;
  whole_after = h.whole_after;
  within = λ live now. h.within live (gone memory.objects number object live (cases_eq object number) now);
}

kept_cell : (memory : Memory) (number : ℕ) (kind : Scalar) (cell : Cell) → Holds memory kind cell → Holds (without_object memory number) kind cell
kept_cell memory number kind Unset h = tt
kept_cell memory number (IntegerKind kind) (Number value) h = h
kept_cell memory number (IntegerKind kind) (PointerCell at) h = absurd h
kept_cell memory number (PointerKind to) (Number value) h = absurd h
kept_cell memory number (PointerKind to) (PointerCell at) h = kept_pointer memory number at h

kept_cells : (memory : Memory) (number : ℕ) (kinds : List Scalar) (cells : List Cell) → AllHold memory kinds cells → AllHold (without_object memory number) kinds cells
kept_cells memory number [] [] h = tt
kept_cells memory number [] (cell ∷ cells) h = absurd h
kept_cells memory number (kind ∷ kinds) [] h = absurd h
kept_cells memory number (kind ∷ kinds) (cell ∷ cells) h = (kept_cell memory number kind cell h.0, kept_cells memory number kinds cells h.1)

pub without_sound : (memory : Memory) (number : ℕ) → IsSound memory → IsSound (without_object memory number)
without_sound memory number sound = record {
  kinds = λ n live e. kept_cells memory number (kinds_of live.shape) live.cells (sound.kinds n live (gone memory.objects number n live (cases_eq n number) e));
  small = λ n live e. sound.small n live (gone memory.objects number n live (cases_eq n number) e);
  most = sound.most;
}

-- ---- new objects

zero_holds : (memory : Memory) (kind : Scalar) → Holds memory kind (zero_of kind)
zero_holds memory (IntegerKind kind) = zero_or_one kind false
zero_holds memory (PointerKind to) = tt

first_holds : (memory : Memory) (zeroed : Bool) (own : Scalar × Guard) → Holds memory own.0 (first_cell zeroed own)
first_holds memory true own = zero_holds memory own.0
first_holds memory false own = tt

pub new_holds : (memory : Memory) (zeroed : Bool) (shape : List (Scalar × Guard)) → AllHold memory (kinds_of shape) (map (first_cell zeroed) shape)
new_holds memory zeroed [] = tt
new_holds memory zeroed (own ∷ shape) = (first_holds memory zeroed own, new_holds memory zeroed shape)

pub begins : (p : Program) (world : World) → IsWellFormed p world → Stands p world (marked world)
begins p world well = record { well = record { sound = well.sound; entered = well.entered }; continues = continues-refl world.memory; above = opened }

-- what stays where objects are entered
pub record Grows (p : Program) (world new : World) : Type 0 where
  pub well : IsWellFormed p new
  pub continues : Continues world.memory new.memory
  pub above : (count : ℕ) (base : List Binding) → count ≤ length world.memory.objects → IsAbove count base world.bindings → IsAbove count base new.bindings
  pub there : (declared : ℕ) → IsBound declared world.bindings → IsBound declared new.bindings

pub grows_refl : (p : Program) (world : World) → IsWellFormed p world → Grows p world world
grows_refl p world well = record { well = well; continues = continues-refl world.memory; above = λ count base few above. above; there = λ declared h. h }

pub grows_onward : (p : Program) (first second third : World) → Grows p first second → Grows p second third → Grows p first third
grows_onward p first second third g h =
    let longer = g.continues.entered in
    record {
      well = h.well;
      continues = continues-onward first.memory second.memory third.memory g.continues h.continues;
      above = λ count base few above. h.above count base (omega arith) (g.above count base few above);
      there = λ declared t. h.there declared (g.there declared t);
    }

pub stands_grown : (p : Program) (base world new : World) → Stands p base world → Grows p world new → Stands p base new
stands_grown p base world new s g = record {
  well = g.well;
  continues = continues-onward base.memory world.memory new.memory s.continues g.continues;
  above = g.above (length base.memory.objects) base.bindings s.continues.entered s.above;
}

-- ---- one object

fits_in : (a b : Bool) → (a && b) ≡ true → a ≡ true
fits_in true b e = refl
fits_in false b e = cc

abbrev room_or : Bool → World → ℕ → Result World (Trap × ℕ)
room_or b world node = if b then Ok world else Err (Left 3, node)

bound_if : (declared object : ℕ) (found : Option ℕ) (b : Bool) → (other : ℕ) × (found ≡ Some other) → (other : ℕ) × ((if b then Some object else found) ≡ Some other)
bound_if declared object found true there = (object, refl)
bound_if declared object found false there = there

pub bound_more : (node object declared : ℕ) (rest : List Binding) → IsBound declared rest → IsBound declared (bound node object ∷ rest)
bound_more node object declared rest there = bound_if declared object (object_for rest declared) (node == declared) there

bound_first : (node object : ℕ) (rest : List Binding) → IsBound node (bound node object ∷ rest)
bound_first node object rest = (object, rw (eq-eqb node node refl) refl)

abbrev pub Enters : Program → World → ℕ → World → Type 0
Enters p world node new = Grows p world new × IsBound node new.bindings

entered_by : (p : Program) (world : World) (node : ℕ) (object : Object) (b : Bool) → IsWellFormed p world → AllHold world.memory (kinds_of object.shape) object.cells
    → sorts_in object.shape ≡ sorts_in (p.shape node) → (b ≡ true → length object.shape ≤ world.memory.most)
    → IfOk (room_or b (with_binding world node object) node) (Enters p world node)
entered_by p world node object false well hold sorts room = tt
entered_by p world node object true well hold sorts room =
    let most = well.sound.most in
    let r = room refl in
    let size = as_many world.memory (kinds_of object.shape) object.cells hold in
    let few : length object.cells < 2 ^ 63 = omega (arith, length-map object.shape (λ (own : Scalar × Guard). own.0)) in
    let n = with_sound world.memory object well.sound hold few in (
      record {
        well = record {
          sound = n.sound;
          entered = (record { live = object; lives = get_or_push world.memory.objects (Some object) None (length world.memory.objects) refl; sorts = sorts }, entered_later p world.memory _ world.bindings n.continues well.entered);
        };
        continues = n.continues;
        above = λ count base few above. more node (length world.memory.objects) world.bindings few above;
        there = λ declared t. bound_more node (length world.memory.objects) declared world.bindings t;
      },
      bound_first node (length world.memory.objects) world.bindings,
    )

pub object_enters : (p : Program) (world : World) (node : ℕ) (object : Object) → IsWellFormed p world → AllHold world.memory (kinds_of object.shape) object.cells
    → sorts_in object.shape ≡ sorts_in (p.shape node) → IfOk (enter_object world node object) (Enters p world node)
object_enters p world node object well hold sorts =
    entered_by p world node object (has_room world.memory (length object.shape)) well hold sorts
    (λ t. let l = leb-true (live_cells world.memory + length object.shape) world.memory.most (fits_in (nat_le (live_cells world.memory + length object.shape) world.memory.most) (nat_lt (length world.memory.objects) 4294967295) t) in omega arith)

-- ---- one after another

pub entered_then : (P Q : World → Type 0) (result : Result World (Trap × ℕ)) (f : World → Result World (Trap × ℕ)) → IfOk result P → ((world : World) → P world → IfOk (f world) Q)
    → IfOk (elim result as (λ _. Result World (Trap × ℕ)) [ Ok world ↦ f world | Err trap ↦ Err trap ]) Q
entered_then P Q (Ok world) f h k = k world h
entered_then P Q (Err trap) f h k = tt

pub ok_map : (P Q : World → Type 0) (result : Result World (Trap × ℕ)) → IfOk result P → ((world : World) → P world → Q world) → IfOk result Q
ok_map P Q (Ok world) h k = k world h
ok_map P Q (Err trap) h k = tt

-- what an object begins with
pub record IsMade (p : Program) (made : ℕ → Object) (node : ℕ) : Type 0 where
  pub hold : (memory : Memory) → AllHold memory (kinds_of (made node).shape) (made node).cells
  pub sorts : sorts_in (made node).shape ≡ sorts_in (p.shape node)

pub automatic_made : (p : Program) (node : ℕ) → IsMade p (automatic p) node
automatic_made p node = record { hold = λ memory. new_holds memory false (p.shape node); sorts = refl }

abbrev pub EntersAll : Program → World → List ℕ → World → Type 0
EntersAll p world nodes new = Grows p world new × AreBound nodes new.bindings

pub bound_either : (p : Program) (node : ℕ) (nodes : List ℕ) (entered new : World) → IsBound node entered.bindings → Grows p entered new → AreBound nodes new.bindings → AreBound (node ∷ nodes) new.bindings
bound_either p node nodes entered new there g rest n (inl same) = let F : ℕ → Type 0 = λ k. IsBound k new.bindings in subst F same (g.there node there)
bound_either p node nodes entered new there g rest n (inr among) = rest n among

pub all_enter : (p : Program) (made : ℕ → Object) (world : World) (nodes : List ℕ) → IsWellFormed p world → ((node : ℕ) → IsAmong node nodes → IsMade p made node)
    → IfOk (enter_all made world nodes) (EntersAll p world nodes)
all_enter p made world [] well are = (grows_refl p world well, λ node among. absurd among)
all_enter p made world (node ∷ nodes) well are =
    let one = are node (inl refl) in
    entered_then (Enters p world node) (EntersAll p world (node ∷ nodes)) (enter_object world node (made node)) (λ entered. enter_all made entered nodes)
    (object_enters p world node (made node) well (one.hold world.memory) one.sorts)
    (λ entered e. ok_map (EntersAll p entered nodes) (EntersAll p world (node ∷ nodes)) (enter_all made entered nodes)
    (all_enter p made entered nodes e.0.well (λ n among. are n (inr among)))
    (λ new all. (grows_onward p world entered new e.0 all.0, bound_either p node nodes entered new e.1 all.0 all.1)))

-- ---- a block or a call ends

record Leaves (p : Program) (base : World) (memory : Memory) (bindings : List Binding) : Type 0 where
  sound : IsSound (left_by memory bindings).0
  continues : Continues base.memory (left_by memory bindings).0
  bindings_are : (left_by memory bindings).1 ≡ base.bindings

leaves : (p : Program) (base : World) (memory : Memory) (bindings : List Binding) → IsSound memory → Continues base.memory memory
    → IsAbove (length base.memory.objects) base.bindings bindings → Leaves p base memory bindings
leaves p base memory bindings sound c (opened) = record { sound = sound; continues = c; bindings_are = refl }
leaves p base memory bindings sound c (more node object rest below above) =
    let l = leaves p base (without_object memory object) rest (without_sound memory object sound)
    (continues-past_new base.memory memory (without_object memory object) object c (without_object-continues memory object) below) above in
    record { sound = l.sound; continues = l.continues; bindings_are = l.bindings_are }

-- what fits a sort does so when objects have ended
gone_fits : (memory : Memory) (number : ℕ) (sort : Sort) (value : Value) → Fits memory sort value → Fits (without_object memory number) sort value
gone_fits memory number (PlaceSort count) Nothing h = absurd h
gone_fits memory number CharsSort Nothing h = absurd h
gone_fits memory number sort Nothing h = tt
gone_fits memory number (NumberSort kind) (NumberValue from value) h = h
gone_fits memory number PointerSort (Pointing at) h = kept_pointer memory number at h
gone_fits memory number (PlaceSort count) (Place at) h = (kept_pointer memory number at h.0, h.1)
gone_fits memory number (CellsSort kinds) (Cells held) h = kept_cells memory number kinds held h
gone_fits memory number CharsSort (Place (At object cell low high stride)) h =
    (kept_pointer memory number (At object cell low high stride) h.0, λ live e. h.1 live (gone memory.objects number object live (cases_eq object number) e))
gone_fits memory number sort value h = absurd h

pub left_fits : (memory : Memory) (bindings : List Binding) (sort : Sort) (value : Value) → Fits memory sort value → Fits (left_by memory bindings).0 sort value
left_fits memory [] sort value h = h
left_fits memory (mark ∷ rest) sort value h = h
left_fits memory (bound node object ∷ rest) sort value h = left_fits (without_object memory object) rest sort value (gone_fits memory object sort value h)

pub block_ends : Laws.BlocksAreLeft
block_ends p base world well s =
    let l = leaves p base world.memory world.bindings s.well.sound s.continues s.above in
    let F : List Binding → Type 0 = λ b. AreEntered p (left_by world.memory world.bindings).0 b in
    record {
      well_formed = record { sound = l.sound; entered = subst F (sym l.bindings_are) (entered_later p base.memory _ base.bindings l.continues well.entered) };
      continues = l.continues;
      bindings = l.bindings_are;
    }

-- ---- a block begins

ok_is : (P : World → Type 0) (result : Result World (Trap × ℕ)) (new : World) → IfOk result P → result ≡ Ok new → P new
ok_is P result new h e = let F : Result World (Trap × ℕ) → Type 0 = λ r. IfOk r P in subst F e h

pub block_begins : Laws.BlocksAreEntered
block_begins p world new nodes well e =
    let begun = begins p world well in
    stands_grown p world (marked world) new begun
    (ok_is (EntersAll p (marked world) nodes) _ new (all_enter p (automatic p) (marked world) nodes begun.well (λ node among. automatic_made p node)) e).0

pub start_is_well_formed : Laws.StartIsWellFormed
start_is_well_formed p limits few = record {
  sound = record { kinds = λ n live e. absurd (nothing n live e); small = λ n live e. absurd (nothing n live e); most = few };
  entered = tt;
}
  where
    nothing : (n : ℕ) (live : Object) → get_or [] n None ≡ Some live → ⊥
    nothing n live e =
        let from : 0 ≤ n = omega arith in
        let none : get_or [] n None ≡ None = get_or_past {X = Option Object} [] n None from in absurd (cc (none, e))
