-- From one memory to a later one: objects that were there, objects that are entered, and objects that are left.
use Rattle.std.proofs.Common.{◌≡◌, ◌≢◌, refl, sym, ◌∙◌, ap, subst, arith, inl, inr, ◌⊎◌, get_or, set, length-set, get_or-set_other, get_or-set_same}
use Rattle.std.specs.Prelude.{ℕ, ◌<◌, ◌≤◌, ◌==◌, Bool, true, false, is_some, Option, Some, None, Result, Ok, Err, List, [], ◌∷◌, ◌++◌, length, slice_index_or, if◌then◌else◌}
use Rattle.std.proofs.lemmas.Bool.{false≢true, cases_eq, cases_lt, eq-eqb}
use Rattle.std.proofs.lemmas.List.{get_or_append_left, get_or_past, length_push}
use Rattle.cr_footprint.specs.Cell.{Cell as Place}
use Rattle.cr_memory.specs.declared.value.Cell.{Cell}
use Rattle.cr_memory.specs.declared.value.Cell.TheVariants.{Unset}
use Rattle.cr_memory.specs.declared.value.Trap.{Trap}
use Rattle.cr_memory.specs.declared.value.Trap.TheVariants.{Left}
use Rattle.cr_memory.specs.Memory.{Object, Memory, live_object, has_room, with_object, without_object}
use Rattle.cr_memory.specs.Access.{some_object, overwritten, with_cells}
use Rattle.cr_memory.proofs.Continuing.{entered_if_some}
use Rattle.cr_meaning.specs.World.{Program, World, Binding, bound, mark, object_for, with_binding, enter_object, enter_all, left_by}
use Rattle.cr_meaning.specs.Nodes.{with_argument, enter_parameters}
use Rattle.cr_meaning.specs.declared.op.Parameter.{Parameter}
use Rattle.cr_meaning.specs.declared.value.Value.{Value}
use Rattle.cr_meaning_soundness.specs.Sorts.{IsAmong, AreEntered}
use Rattle.cr_meaning_soundness.proofs.Worlds.{gone}
use Rattle.cr_meaning_orders.proofs.Changing.{Like}

-- ---- steps

-- an object that lives was there before; its cells of a set are as they were, if its number is below a limit
pub record Came (kept : Place → Bool) (limit : ℕ) (old : Memory) (number : ℕ) (object : Object) : Type 0 where
  pub other : Object
  pub lives : live_object old number ≡ Some other
  pub same : number < limit → (cell : ℕ) → kept (number, cell) ≡ true → slice_index_or object.cells cell Unset ≡ slice_index_or other.cells cell Unset

abbrev pub Steps : (Place → Bool) → ℕ → Memory → Memory → Type 0
Steps kept limit old new = (number : ℕ) (object : Object) → number < length old.objects → live_object new number ≡ Some object → Came kept limit old number object

-- no object but those of the first so many numbers lives
abbrev pub AreBelow : ℕ → Memory → Type 0
AreBelow count memory = (number : ℕ) (object : Object) → live_object memory number ≡ Some object → number < count

pub came_same : (kept : Place → Bool) (limit : ℕ) (old : Memory) (number : ℕ) (object : Object) → live_object old number ≡ Some object → Came kept limit old number object
came_same kept limit old number object e = record { other = object; lives = e; same = λ below cell k. refl }

pub steps_self : (kept : Place → Bool) (limit : ℕ) (m : Memory) → Steps kept limit m m
steps_self kept limit m number object below e = came_same kept limit m number object e

pub steps_on : (kept : Place → Bool) (limit : ℕ) (a b c : Memory) → length a.objects ≤ length b.objects → Steps kept limit a b → Steps kept limit b c → Steps kept limit a c
steps_on kept limit a b c longer first second number object below e =
    let later = second number object (omega (arith, below, longer)) e in
    let sooner = first number later.other below later.lives in
    record { other = sooner.other; lives = sooner.lives; same = λ h cell k. later.same h cell k ∙ sooner.same h cell k }

-- where objects are like those of before
there : (o : Option Object) → is_some o ≡ true → (object : Object) × (o ≡ Some object)
there None e = absurd (false≢true e)
there (Some object) e = (object, refl)

pub steps_like : (kept : Place → Bool) (limit : ℕ) (old new : Memory) → ((n : ℕ) → Like kept n (live_object old n) (live_object new n)) → Steps kept limit old new
steps_like kept limit old new like number object below e =
    let l = like number in
    let before = there (live_object old number) (sym l.lives ∙ ap (λ (o : Option Object). is_some o) e) in
    record {
      other = before.0;
      lives = before.1;
      same = λ h cell k. ap (λ (o : Option Object). slice_index_or (some_object o).cells cell Unset) (sym e) ∙ (l.same cell k ∙ ap (λ (o : Option Object). slice_index_or (some_object o).cells cell Unset) before.1);
    }

pub below_like : (kept : Place → Bool) (count : ℕ) (old new : Memory) → ((n : ℕ) → Like kept n (live_object old n) (live_object new n)) → AreBelow count old → AreBelow count new
below_like kept count old new like h number object e =
    let l = like number in
    let before = there (live_object old number) (sym l.lives ∙ ap (λ (o : Option Object). is_some o) e) in
    h number before.0 before.1

-- ---- cells of one object

pub one_object : {A : Type 0} {a b : A} → Some a ≡ Some b → a ≡ b
one_object e = cc

pub record IsWritten (kept : Place → Bool) (limit count number : ℕ) (m new : Memory) : Type 0 where
  pub steps : Steps kept limit m new
  pub longer : length m.objects ≤ length new.objects
  pub below : AreBelow count m → AreBelow count new
  pub live : Object
  pub lives : live_object new number ≡ Some live

pub written : (kept : Place → Bool) (limit count : ℕ) (m : Memory) (number place : ℕ) (cells : List Cell) (live : Object) → live_object m number ≡ Some live → limit ≤ number
    → IsWritten kept limit count number m (with_cells m number place cells)
written kept limit count m number place cells live e above = record {
  steps = λ n object below f. by_number n object f (cases_eq n number);
  longer = omega (arith, length-set m.objects number new_one);
  below = λ h n object f. let c = by_number n object f (cases_eq n number) in h n c.other c.lives;
  live = record { cells = overwritten (some_object (live_object m number)).cells place cells; shape = (some_object (live_object m number)).shape };
  lives = get_or-set_same m.objects number new_one None (entered_if_some m.objects number live e);
}
  where
    new_one : Option Object
    new_one = Some (record { cells = overwritten (some_object (live_object m number)).cells place cells; shape = (some_object (live_object m number)).shape })

    by_number : (n : ℕ) (object : Object) → live_object (with_cells m number place cells) n ≡ Some object → (n ≡ number) ⊎ (n ≢ number) → Came kept limit m n object
    by_number n object f (inl same) =
        let F : ℕ → Type 0 = λ k. live_object m k ≡ Some live in
        record { other = live; lives = subst F (sym same) e; same = λ h cell k. absurd (omega (arith, h, same, above)) }
    by_number n object f (inr other) = came_same kept limit m n object (sym (get_or-set_other m.objects number n new_one None other) ∙ f)

-- ---- an object of a block

-- it was entered since the last mark
abbrev pub Above : ℕ → List Binding → Type 0
Above number [] = ⊥
Above number (mark ∷ rest) = ⊥
Above number (bound node object ∷ rest) = (object ≡ number) ⊎ Above number rest

-- the object of a declarator has a number from a limit on
abbrev pub IsNew : ℕ → ℕ → List Binding → Type 0
IsNew limit declared bindings = (object : ℕ) → object_for bindings declared ≡ Some object → limit ≤ object

-- what the end of a block leaves
pub left_lives : (m : Memory) (bindings : List Binding) (number : ℕ) (object : Object) → live_object (left_by m bindings).0 number ≡ Some object
    → (live_object m number ≡ Some object) × (Above number bindings → ⊥)
left_lives m [] number object e = (e, λ h. h)
left_lives m (mark ∷ rest) number object e = (e, λ h. h)
left_lives m (bound node other ∷ rest) number object e =
    let i = left_lives (without_object m other) rest number object e in
    (gone m.objects other number object (cases_eq number other) i.0, either i.0 i.1)
  where
    either : live_object (without_object m other) number ≡ Some object → (Above number rest → ⊥) → (other ≡ number) ⊎ Above number rest → ⊥
    either f none (inr h) = none h
    either f none (inl same) =
        let live : live_object m number ≡ Some object = gone m.objects other number object (cases_eq number other) f in
        let F : ℕ → Type 0 = λ k. get_or (set m.objects k None) number None ≡ None in
        let ended : get_or (set m.objects other None) number None ≡ None = subst F (sym same) (get_or-set_same m.objects number None None (entered_if_some m.objects number object live)) in
        absurd (cc (ended, f))

pub steps_left : (kept : Place → Bool) (limit : ℕ) (m : Memory) (bindings : List Binding) → Steps kept limit m (left_by m bindings).0
steps_left kept limit m bindings number object below e = came_same kept limit m number object (left_lives m bindings number object e).0

-- ---- objects that are entered

pub record Grown (s t : World) : Type 0 where
  pub longer : length s.memory.objects ≤ length t.memory.objects
  pub steps : (kept : Place → Bool) (limit : ℕ) → Steps kept limit s.memory t.memory
  pub lived : (number : ℕ) (object : Object) → live_object t.memory number ≡ Some object → (number < length s.memory.objects) ⊎ Above number t.bindings
  pub above : (number : ℕ) → Above number s.bindings → Above number t.bindings
  pub new : (limit declared : ℕ) → limit ≤ length s.memory.objects → IsNew limit declared s.bindings → IsNew limit declared t.bindings

pub grown_self : (s : World) → Grown s s
grown_self s = record {
  longer = omega arith;
  steps = λ kept limit. steps_self kept limit s.memory;
  lived = λ number object e. inl (entered_if_some s.memory.objects number object e);
  above = λ number h. h;
  new = λ limit declared h k. k;
}

pub grown_on : (a b c : World) → Grown a b → Grown b c → Grown a c
grown_on a b c g h = record {
  longer = let x = g.longer in let y = h.longer in omega (arith, x, y);
  steps = λ kept limit. steps_on kept limit a.memory b.memory c.memory g.longer (g.steps kept limit) (h.steps kept limit);
  lived = λ number object e. either number object e (h.lived number object e);
  above = λ number k. h.above number (g.above number k);
  new = λ limit declared few k. h.new limit declared (let x = g.longer in omega (arith, x, few)) (g.new limit declared few k);
}
  where
    before : (number : ℕ) → (number < length a.memory.objects) ⊎ Above number b.bindings → (number < length a.memory.objects) ⊎ Above number c.bindings
    before number (inl below) = inl below
    before number (inr k) = inr (h.above number k)

    either : (number : ℕ) (object : Object) → live_object c.memory number ≡ Some object → (number < length b.memory.objects) ⊎ Above number c.bindings → (number < length a.memory.objects) ⊎ Above number c.bindings
    either number object e (inr k) = inr k
    either number object e (inl below) =
        let i = h.steps (λ place. false) 0 number object below e in before number (g.lived number i.other i.lives)

pub grown_bound : (s : World) (node : ℕ) (object : Object) → Grown s (with_binding s node object)
grown_bound s node object = record {
  longer = omega (arith, length_push s.memory.objects (Some object));
  steps = λ kept limit number o below e. came_same kept limit s.memory number o (sym (get_or_append_left s.memory.objects (Some object ∷ []) None number below) ∙ e);
  lived = λ number o e. by_less number o e (cases_lt number (length s.memory.objects)) (cases_eq number (length s.memory.objects));
  above = λ number h. inr h;
  new = λ limit declared few k other. by_node limit declared other few (k other) (node == declared);
}
  where
    by_less : (number : ℕ) (o : Object) → live_object (with_object s.memory object) number ≡ Some o → (number < length s.memory.objects) ⊎ (length s.memory.objects ≤ number)
        → (number ≡ length s.memory.objects) ⊎ (number ≢ length s.memory.objects) → (number < length s.memory.objects) ⊎ Above number (bound node (length s.memory.objects) ∷ s.bindings)
    by_less number o e (inl h) same = inl h
    by_less number o e (inr h) (inl same) = inr (inl (sym same))
    by_less number o e (inr h) (inr other) =
        let past : get_or (s.memory.objects ++ Some object ∷ []) number None ≡ None = get_or_past (s.memory.objects ++ Some object ∷ []) number None (omega (arith, length_push s.memory.objects (Some object), other, h)) in absurd (cc (past, e))

    by_node : (limit declared other : ℕ) → limit ≤ length s.memory.objects → (object_for s.bindings declared ≡ Some other → limit ≤ other) → (b : Bool)
        → (if b then Some (length s.memory.objects) else object_for s.bindings declared) ≡ Some other → limit ≤ other
    by_node limit declared other few k true e = let same : length s.memory.objects ≡ other = one_object e in omega (arith, few, same)
    by_node limit declared other few k false e = k e

-- the first object that is found is the last that was entered
new_first : (s : World) (node : ℕ) (object : Object) (limit : ℕ) → limit ≤ length s.memory.objects → IsNew limit node (with_binding s node object).bindings
new_first s node object limit few other e =
    let same : Some (length s.memory.objects) ≡ Some other = sym (ap (λ b. if b then Some (length s.memory.objects) else object_for s.bindings node) (eq-eqb node node refl)) ∙ e in
    let number : length s.memory.objects ≡ other = one_object same in omega (arith, few, number)

entered_is : (s : World) (node : ℕ) (object : Object) (t : World) → enter_object s node object ≡ Ok t → t ≡ with_binding s node object
entered_is s node object t e = by_room (has_room s.memory (length object.shape)) e
  where
    by_room : (b : Bool) → (let r : Result World (Trap × ℕ) = if b then Ok (with_binding s node object) else Err (Left 3, node) in r) ≡ Ok t → t ≡ with_binding s node object
    by_room true e = cc
    by_room false e = absurd cc

-- one after another
pub grown_all : (made : ℕ → Object) (s : World) (nodes : List ℕ) (t : World) → enter_all made s nodes ≡ Ok t
    → Grown s t × ((limit declared : ℕ) → limit ≤ length s.memory.objects → IsAmong declared nodes → IsNew limit declared t.bindings)
grown_all made s [] t e =
    let F : World → Type 0 = λ w. Grown s w in let same : s ≡ t = cc in (subst F same (grown_self s), λ limit declared few among. absurd among)
grown_all made s (node ∷ nodes) t e = by_one (λ entered. grown_all made entered nodes t) (enter_object s node (made node)) refl e
  where
    by_one : ((entered : World) → enter_all made entered nodes ≡ Ok t → Grown entered t × ((limit declared : ℕ) → limit ≤ length entered.memory.objects → IsAmong declared nodes → IsNew limit declared t.bindings))
        → (r : Result World (Trap × ℕ)) → enter_object s node (made node) ≡ r → (elim r as (λ _. Result World (Trap × ℕ)) [ Ok entered ↦ enter_all made entered nodes | Err trap ↦ Err trap ]) ≡ Ok t
        → Grown s t × ((limit declared : ℕ) → limit ≤ length s.memory.objects → IsAmong declared (node ∷ nodes) → IsNew limit declared t.bindings)
    by_one onward (Err trap) f e = absurd cc
    by_one onward (Ok entered) f e =
        let F : World → Type 0 = λ w. Grown s w in
        let is = entered_is s node (made node) entered f in
        let one : Grown s entered = subst F (sym is) (grown_bound s node (made node)) in
        let rest = onward entered e in
        (grown_on s entered t one rest.0, λ limit declared few among. either limit declared few one rest is among)
      where
        either : (limit declared : ℕ) → limit ≤ length s.memory.objects → Grown s entered
            → Grown entered t × ((limit declared : ℕ) → limit ≤ length entered.memory.objects → IsAmong declared nodes → IsNew limit declared t.bindings)
            → entered ≡ with_binding s node (made node) → IsAmong declared (node ∷ nodes) → IsNew limit declared t.bindings
        either limit declared few one rest is (inr among) = rest.1 limit declared (let x = one.longer in omega (arith, x, few)) among
        either limit declared few one rest is (inl same) =
            let B : World → Type 0 = λ w. IsNew limit node w.bindings in
            let D : ℕ → Type 0 = λ d. IsNew limit d t.bindings in
            subst D same (rest.0.new limit node (let x = one.longer in omega (arith, x, few)) (subst B (sym is) (new_first s node (made node) limit few)))

pub grown_parameters : (p : Program) (s : World) (parameters : List Parameter) (given : List Value) (t : World) → enter_parameters p s parameters given ≡ Ok t → Grown s t
grown_parameters p s [] given t e = let F : World → Type 0 = λ w. Grown s w in let same : s ≡ t = cc in subst F same (grown_self s)
grown_parameters p s (parameter ∷ parameters) [] t e = let F : World → Type 0 = λ w. Grown s w in let same : s ≡ t = cc in subst F same (grown_self s)
grown_parameters p s (parameter ∷ parameters) (value ∷ rest) t e = by_one (λ entered. grown_parameters p entered parameters rest t) (enter_object s parameter.node (with_argument p parameter value)) refl e
  where
    by_one : ((entered : World) → enter_parameters p entered parameters rest ≡ Ok t → Grown entered t) → (r : Result World (Trap × ℕ)) → enter_object s parameter.node (with_argument p parameter value) ≡ r
        → (elim r as (λ _. Result World (Trap × ℕ)) [ Ok entered ↦ enter_parameters p entered parameters rest | Err case ↦ Err case ]) ≡ Ok t → Grown s t
    by_one onward (Err case) f e = absurd cc
    by_one onward (Ok entered) f e =
        let F : World → Type 0 = λ w. Grown s w in
        let one : Grown s entered = subst F (sym (entered_is s parameter.node (with_argument p parameter value) entered f)) (grown_bound s parameter.node (with_argument p parameter value)) in
        grown_on s entered t one (onward entered e)

-- ---- an object that a well-formed world has for a node

pub entered_lives : (p : Program) (m : Memory) (node number : ℕ) (bindings : List Binding) → AreEntered p m bindings → object_for bindings node ≡ Some number → (live : Object) × (live_object m number ≡ Some live)
entered_lives p m node number [] h e = absurd cc
entered_lives p m node number (mark ∷ rest) h e = entered_lives p m node number rest h e
entered_lives p m node number (bound declared object ∷ rest) h e = by_node (entered_lives p m node number rest h.1) (declared == node) e
  where
    by_node : (object_for rest node ≡ Some number → (live : Object) × (live_object m number ≡ Some live)) → (b : Bool) → (if b then Some object else object_for rest node) ≡ Some number → (live : Object) × (live_object m number ≡ Some live)
    by_node onward true e =
        let same : object ≡ number = one_object e in
        let F : ℕ → Type 0 = λ n. live_object m n ≡ Some h.0.live in (h.0.live, subst F same h.0.lives)
    by_node onward false e = onward e
