-- Objects of nodes: they are entered, they live while they are bound, and they end with their block or call.
use Rattle.std.proofs.Common.{◌≡◌, ℕ, ◌<◌, ◌≤◌, ◌==◌, Bool, true, false, is_some, inl, Option, Some, None, Result, Ok, Err, IfOk, List, [], ◌∷◌, length, map, if◌then◌else◌, refl, sym, ap, ◌∙◌, subst, arith}
use Rattle.std.specs.List.{AllByRecursion}
use Rattle.std.proofs.lemmas.Bool.{eqb-true}
use Rattle.std.proofs.lemmas.List.{get_or_push, length_push}
use Rattle.cr_memory.specs.declared.value.Scalar.{Scalar}
use Rattle.cr_memory.specs.declared.value.Scalar.TheVariants as scalar
use Rattle.cr_memory.specs.declared.value.Cell.{Cell}
use Rattle.cr_memory.specs.declared.value.Cell.TheVariants as cell
use Rattle.cr_memory.specs.declared.value.Guard.{Guard}
use Rattle.cr_memory.specs.declared.value.Trap.{Trap}
use Rattle.cr_memory.specs.declared.value.Trap.TheVariants.{Left}
use Rattle.cr_memory.specs.Memory.{Object, Memory, live_object, zero_of, first_cell, has_room, with_object, without_object}
use Rattle.cr_memory.specs.Continues.{IsAsBefore, Continues}
use Rattle.cr_memory.proofs.Continuing.{entered_if_some, with_object-continues, without_object-continues}
use Rattle.cr_meaning.specs.World.{Program, World, Binding, bound, mark, object_for, with_binding, enter_object, enter_all, automatic, literal_or, static, marked, left_by, closed}
use Rattle.cr_meaning.specs.declared.op.Parameter.{Parameter}
use Rattle.cr_meaning.specs.declared.value.Value.{Value}
use Rattle.cr_meaning.specs.Nodes.{with_argument, enter_parameters}
use Rattle.cr_meaning_soundness.proofs.Worlds.{some_is_one, entered_then, ok_map}
use Rattle.cr_meaning_places.specs.Places.{HasShape, IsObjectOf, null}
use Rattle.cr_meaning_places.specs.Laws.{IsPlain, HasPlainLiterals}
use Rattle.cr_meaning_places.proofs.Lasting.{Lasts, lasts_refl, lasts_onward, lasts_by, lasts_without, live_again, object_later}
use Rattle.cr_meaning_places.proofs.Good.{GoodCell, GoodCells, GoodValues, AreGood, cells_of_good, value_later}
use Rattle.cr_meaning_places.proofs.Memories.{Changed, good_with, good_without}

-- ---- bound objects live, and the later a binding the higher its object

pub record IsThere (p : Program) (memory : Memory) (declared object : ℕ) : Type 0 where
  pub live : Object
  pub lives : live_object memory object ≡ Some live
  pub is : IsObjectOf p memory declared object

abbrev pub AllBound : Program → Memory → ℕ → List Binding → Type 0
AllBound p memory limit [] = Unit {0}
AllBound p memory limit (mark ∷ rest) = AllBound p memory limit rest
AllBound p memory limit (bound declared object ∷ rest) = (object < limit) × (IsThere p memory declared object × AllBound p memory object rest)

pub bound_wider : (p : Program) (memory : Memory) (limit more : ℕ) (bindings : List Binding) → limit ≤ more → AllBound p memory limit bindings → AllBound p memory more bindings
bound_wider p memory limit more [] l h = tt
bound_wider p memory limit more (mark ∷ rest) l h = bound_wider p memory limit more rest l h
bound_wider p memory limit more (bound declared object ∷ rest) l h = let b = h.0 in (omega arith, h.1)

there_later : (p : Program) (old new : Memory) (declared object : ℕ) → Lasts old new → IsAsBefore (live_object old object) (live_object new object) → IsThere p old declared object
    → IsThere p new declared object
there_later p old new declared object l b h =
    let o = live_again (live_object new object) (b.lives ∙ ap is_some h.lives) in
    record { live = o.0; lives = o.1; is = object_later p old new declared object l h.is }

bound_by : (p : Program) (old new : Memory) (limit : ℕ) (bindings : List Binding) → Lasts old new
    → ((object : ℕ) → object < limit → object < length old.objects → IsAsBefore (live_object old object) (live_object new object)) → AllBound p old limit bindings → AllBound p new limit bindings
bound_by p old new limit [] l f h = tt
bound_by p old new limit (mark ∷ rest) l f h = bound_by p old new limit rest l f h
bound_by p old new limit (bound declared object ∷ rest) l f h =
    let below = h.0 in
    let there = h.1.0 in (
      below,
      (
        there_later p old new declared object l (f object below (entered_if_some old.objects object there.live there.lives)) there,
        bound_by p old new object rest l (λ n b e. f n (omega arith) e) h.1.1,
      ),
    )

pub bound_later : (p : Program) (old new : Memory) (limit : ℕ) (bindings : List Binding) → Continues old new → AllBound p old limit bindings → AllBound p new limit bindings
bound_later p old new limit bindings c h = bound_by p old new limit bindings (lasts_by old new c) (λ n b e. c.objects n e) h

-- an object ends that is none of them
bound_without : (p : Program) (memory : Memory) (object : ℕ) (bindings : List Binding) → AllBound p memory object bindings → AllBound p (without_object memory object) object bindings
bound_without p memory object bindings h =
    let c = without_object-continues memory object in
    bound_by p memory (without_object memory object) object bindings (lasts_without memory object) (λ n b e. c.objects n e (omega arith)) h

-- ---- worlds

pub record IsSound (p : Program) (world : World) : Type 0 where
  pub good : AreGood p world.memory
  pub bound : AllBound p world.memory (length world.memory.objects) world.bindings

pub record Onward (p : Program) (old new : World) : Type 0 where
  pub lasts : Lasts old.memory new.memory
  pub sound : IsSound p new

pub stays : (p : Program) (world : World) → IsSound p world → Onward p world world
stays p world sound = record { lasts = lasts_refl world.memory; sound = sound }

pub onward_then : (p : Program) (one two three : World) → Onward p one two → Onward p two three → Onward p one three
onward_then p one two three f s = record { lasts = lasts_onward one.memory two.memory three.memory f.lasts s.lasts; sound = s.sound }

pub bound_changed : (p : Program) (world : World) (memory : Memory) → IsSound p world → Changed p world.memory memory → IsSound p (record world { memory = memory })
bound_changed p world memory sound changed =
    let e = changed.continues.entered in
    record {
      good = changed.good;
      bound = bound_wider p memory (length world.memory.objects) (length memory.objects) world.bindings e (bound_later p world.memory memory (length world.memory.objects) world.bindings changed.continues sound.bound);
    }

pub onward_changed : (p : Program) (world : World) (memory : Memory) → IsSound p world → Changed p world.memory memory → Onward p world (record world { memory = memory })
onward_changed p world memory sound changed =
    record { lasts = lasts_by world.memory memory changed.continues; sound = bound_changed p world memory sound changed }

-- ---- one object

abbrev room_or : Bool → World → ℕ → Result World (Trap × ℕ)
room_or b world node = if b then Ok world else Err (Left 3, node)

pub new_shape : (memory : Memory) (object : Object) → HasShape (with_object memory object) (length memory.objects) object.shape
new_shape memory object = record {
  entered = omega (arith, length_push memory.objects (Some object));
  same = λ live e. ap (λ (o : Object). o.shape) (some_is_one (sym e ∙ get_or_push memory.objects (Some object) None (length memory.objects) refl));
}

entered_by : (p : Program) (world : World) (node : ℕ) (object : Object) (b : Bool) → IsSound p world → GoodCells p world.memory object.cells
    → IsObjectOf p (with_object world.memory object) node (length world.memory.objects) → IfOk (room_or b (with_binding world node object) node) (Onward p world)
entered_by p world node object false sound h is = tt
entered_by p world node object true sound h is =
    let c = with_object-continues world.memory object in
    let size = length_push world.memory.objects (Some object) in
    record {
      lasts = lasts_by world.memory _ c;
      sound = record {
        good = good_with p world.memory object sound.good h;
        bound = (
          omega arith,
          (
            record { live = object; lives = get_or_push world.memory.objects (Some object) None (length world.memory.objects) refl; is = is },
            bound_later p world.memory _ _ world.bindings c sound.bound,
          ),
        );
      };
    }

pub object_enters : (p : Program) (world : World) (node : ℕ) (object : Object) → IsSound p world → GoodCells p world.memory object.cells
    → IsObjectOf p (with_object world.memory object) node (length world.memory.objects) → IfOk (enter_object world node object) (Onward p world)
object_enters p world node object sound h is = entered_by p world node object (has_room world.memory (length object.shape)) sound h is

-- an object as its node says
as_declared : (p : Program) (memory : Memory) (node : ℕ) (object : Object) → object.shape ≡ p.shape node → IsObjectOf p (with_object memory object) node (length memory.objects)
as_declared p memory node object e =
    let S : List (Scalar × Guard) → Type 0 = λ s. HasShape (with_object memory object) (length memory.objects) s in inl (subst S e (new_shape memory object))

-- ---- what objects begin with

pub record IsMade (p : Program) (made : ℕ → Object) : Type 0 where
  pub good : (memory : Memory) (node : ℕ) → GoodCells p memory (made node).cells
  pub shape : (node : ℕ) → (made node).shape ≡ p.shape node

pub zero_good : (p : Program) (memory : Memory) (kind : Scalar) → GoodCell p memory (zero_of kind)
zero_good p memory (scalar.Int kind) = tt
zero_good p memory (scalar.Pointer to) = null

first_good : (p : Program) (memory : Memory) (zeroed : Bool) (own : Scalar × Guard) → GoodCell p memory (first_cell zeroed own)
first_good p memory true own = zero_good p memory own.0
first_good p memory false own = tt

new_good : (p : Program) (memory : Memory) (zeroed : Bool) (shape : List (Scalar × Guard)) → GoodCells p memory (map (first_cell zeroed) shape)
new_good p memory zeroed [] = tt
new_good p memory zeroed (own ∷ shape) = (first_good p memory zeroed own, new_good p memory zeroed shape)

pub zeros_good : (p : Program) (memory : Memory) (shape : List (Scalar × Guard)) → GoodCells p memory (map (λ own. zero_of own.0) shape)
zeros_good p memory [] = tt
zeros_good p memory (own ∷ shape) = (zero_good p memory own.0, zeros_good p memory shape)

plain_good : (p : Program) (memory : Memory) (held : List Cell) → AllByRecursion IsPlain held → GoodCells p memory held
plain_good p memory [] h = tt
plain_good p memory (cell.Unset ∷ rest) h = (tt, plain_good p memory rest h.1)
plain_good p memory (cell.Number value ∷ rest) h = (tt, plain_good p memory rest h.1)
plain_good p memory (cell.Pointer at ∷ rest) h = absurd h.0

pub automatic_made : (p : Program) → IsMade p (automatic p)
automatic_made p = record { good = λ memory node. new_good p memory false (p.shape node); shape = λ node. refl }

literal_good : (p : Program) (memory : Memory) (shape : List (Scalar × Guard)) (o : Option (List Cell)) → ((held : List Cell) → o ≡ Some held → AllByRecursion IsPlain held)
    → GoodCells p memory (literal_or o shape).cells
literal_good p memory shape None h = new_good p memory true shape
literal_good p memory shape (Some held) h = plain_good p memory held (h held refl)

literal_shape : (shape : List (Scalar × Guard)) (o : Option (List Cell)) → (literal_or o shape).shape ≡ shape
literal_shape shape None = refl
literal_shape shape (Some held) = refl

pub static_made : (p : Program) → HasPlainLiterals p → IsMade p (static p)
static_made p h = record {
  good = λ memory node. literal_good p memory (p.shape node) (p.literal node) (λ held e. h node held e);
  shape = λ node. literal_shape (p.shape node) (p.literal node);
}

-- ---- one after another

pub all_enter : (p : Program) (made : ℕ → Object) (world : World) (nodes : List ℕ) → IsMade p made → IsSound p world → IfOk (enter_all made world nodes) (Onward p world)
all_enter p made world [] m sound = stays p world sound
all_enter p made world (node ∷ nodes) m sound =
    entered_then (Onward p world) (Onward p world) (enter_object world node (made node)) (λ entered. enter_all made entered nodes)
    (object_enters p world node (made node) sound (m.good world.memory node) (as_declared p world.memory node (made node) (m.shape node)))
    (λ entered one. ok_map (Onward p entered) (Onward p world) (enter_all made entered nodes) (all_enter p made entered nodes m one.sound)
    (λ new all. onward_then p world entered new one all))

pub values_later : (p : Program) (old new : Memory) (given : List Value) → Lasts old new → GoodValues p old given → GoodValues p new given
values_later p old new [] l h = tt
values_later p old new (value ∷ rest) l h = (value_later p old new value l h.0, values_later p old new rest l h.1)

pub parameters_enter : (p : Program) (world : World) (parameters : List Parameter) (given : List Value) → IsSound p world → GoodValues p world.memory given
    → IfOk (enter_parameters p world parameters given) (Onward p world)
parameters_enter p world [] given sound h = stays p world sound
parameters_enter p world (parameter ∷ parameters) [] sound h = stays p world sound
parameters_enter p world (parameter ∷ parameters) (value ∷ rest) sound h =
    entered_then (Onward p world) (Onward p world) (enter_object world parameter.node (with_argument p parameter value)) (λ entered. enter_parameters p entered parameters rest)
    (object_enters p world parameter.node (with_argument p parameter value) sound (cells_of_good p world.memory value h.0)
    (as_declared p world.memory parameter.node (with_argument p parameter value) refl))
    (λ entered one. ok_map (Onward p entered) (Onward p world) (enter_parameters p entered parameters rest)
    (parameters_enter p entered parameters rest one.sound (values_later p world.memory entered.memory rest one.lasts h.1))
    (λ new all. onward_then p world entered new one all))

-- ---- a block or a call begins and ends

pub marked_sound : (p : Program) (world : World) → IsSound p world → IsSound p (marked world)
marked_sound p world sound = record { good = sound.good; bound = sound.bound }

record Leaves (p : Program) (memory : Memory) (limit : ℕ) (bindings : List Binding) : Type 0 where
  good : AreGood p (left_by memory bindings).0
  lasts : Lasts memory (left_by memory bindings).0
  bound : AllBound p (left_by memory bindings).0 limit (left_by memory bindings).1

leaves : (p : Program) (memory : Memory) (limit : ℕ) (bindings : List Binding) → AreGood p memory → AllBound p memory limit bindings → Leaves p memory limit bindings
leaves p memory limit [] good h = record { good = good; lasts = lasts_refl memory; bound = tt }
leaves p memory limit (mark ∷ rest) good h = record { good = good; lasts = lasts_refl memory; bound = h }
leaves p memory limit (bound declared object ∷ rest) good h =
    let below = h.0 in
    let l = leaves p (without_object memory object) object rest (good_without p memory object good) (bound_without p memory object rest h.1.1) in
    record {
      good = l.good;
      lasts = lasts_onward memory (without_object memory object) (left_by (without_object memory object) rest).0 (lasts_without memory object) l.lasts;
      bound = bound_wider p (left_by (without_object memory object) rest).0 object limit (left_by (without_object memory object) rest).1 (omega arith) l.bound;
    }

pub closes : (p : Program) (world : World) → IsSound p world → Onward p world (closed world)
closes p world sound =
    let l = leaves p world.memory (length world.memory.objects) world.bindings sound.good sound.bound in
    let e = l.lasts.entered in
    record { lasts = l.lasts; sound = record { good = l.good; bound = bound_wider p (closed world).memory (length world.memory.objects) (length (closed world).memory.objects) (closed world).bindings e l.bound } }

-- ---- the object of a node

found_by : (p : Program) (memory : Memory) (node declared object : ℕ) (rest : Option ℕ) (b : Bool) (found : ℕ) → (declared == node) ≡ b → IsThere p memory declared object
    → ((n : ℕ) → rest ≡ Some n → IsThere p memory node n) → (if b then Some object else rest) ≡ Some found → IsThere p memory node found
found_by p memory node declared object rest true found same there f e =
    let F : ℕ → Type 0 = λ n. IsThere p memory n found in
    let G : ℕ → Type 0 = λ n. IsThere p memory declared n in
    subst F (eqb-true declared node same) (subst G (some_is_one e) there)
found_by p memory node declared object rest false found same there f e = f found e

pub found : (p : Program) (memory : Memory) (limit node : ℕ) (bindings : List Binding) (object : ℕ) → AllBound p memory limit bindings → object_for bindings node ≡ Some object
    → IsThere p memory node object
found p memory limit node [] object h e = absurd (cc e)
found p memory limit node (mark ∷ rest) object h e = found p memory limit node rest object h e
found p memory limit node (bound declared first ∷ rest) object h e =
    found_by p memory node declared first (object_for rest node) (declared == node) object refl h.1.0 (λ n k. found p memory first node rest n h.1.1 k) e
