-- The whole program (C11 5.1.2, 5.1.2.2.1): its objects are entered, their initialisers evaluated, and main's body gives a status.
use Rattle.std.proofs.Common.{◌≡◌, refl, sym, ◌∙◌, subst, arith, inl, inr}
use Rattle.std.specs.Prelude.{ℕ, zero, suc, ◌+◌, ◌==◌, pos, Bool, true, false, Option, Some, None, IfSome, Result, Ok, Err, IfOk, List, [], ◌∷◌, length, slice_get, if◌then◌else◌, ◌⊎◌}
use Rattle.std.proofs.lemmas.Bool.{eqb-true}
use Rattle.std.proofs.lemmas.List.{get_or_push}
use Rattle.cr_ints.specs.declared.kind.IntKind.TheVariants.{Int as IntegerKind}
use Rattle.cr_memory.specs.declared.value.Scalar.{Scalar}
use Rattle.cr_memory.specs.declared.value.Scalar.TheVariants as scalar
use Rattle.cr_memory.specs.declared.value.Guard.{Guard}
use Rattle.cr_memory.specs.declared.value.Cell.{Cell}
use Rattle.cr_memory.specs.declared.value.Cell.TheVariants as cell
use Rattle.cr_memory.specs.declared.value.Pointer.TheVariants.{At}
use Rattle.cr_memory.specs.declared.value.Trap.{Trap}
use Rattle.cr_memory.specs.declared.value.Trap.TheVariants.{Left}
use Rattle.cr_memory.specs.Memory.{Object, Memory, AllHold, IsPointer, has_room, with_object}
use Rattle.cr_memory.specs.Continues.{Continues}
use Rattle.cr_memory.proofs.Continuing.{continues-refl, whole-pointed}
use Rattle.cr_meaning.specs.Language.{give, call}
use Rattle.cr_meaning.specs.World.{Program, World, Binding, with_binding, enter_object, enter_all, static, literal_or, Answer, returned, Halt}
use Rattle.cr_meaning.specs.Values.{scalar_element}
use Rattle.cr_meaning.specs.Turns.{Way, Operand, Enter, Resume, Ready, in_turn, program_next, next_by, next_of, last_of}
use Rattle.cr_meaning.specs.Nodes.{enter_parameters, deeper}
use Rattle.cr_meaning.specs.Meaning.{operands, with_part, on_way, before_by, join_by, strings_of, main_entered, program_end}
use Rattle.cr_meaning.specs.declared.op.Op.{Op}
use Rattle.cr_meaning.specs.declared.op.Form.TheVariants as form
use Rattle.cr_meaning.specs.declared.op.Parameter.{Parameter}
use Rattle.cr_meaning.specs.declared.op.Work.{Work}
use Rattle.cr_meaning.specs.declared.op.Work.TheVariants as work
use Rattle.cr_meaning.specs.declared.value.Value.{Value}
use Rattle.cr_meaning.specs.declared.value.Value.TheVariants.{Nothing, Number, Pointer as Pointing}
use Rattle.cr_meaning_soundness.specs.Sorts.{Sort, pointer as PointerSort, statement, sorts_in, Returns, Answers, IsAmong, IsWellFormed}
use Rattle.cr_meaning_soundness.specs.Statements.{of_function}
use Rattle.cr_meaning_soundness.specs.Scopes.{IsPart, nodes_of, IsBound, AreBound, AreSeen, IsScopedWhole}
use Rattle.cr_meaning_soundness.specs.Programs.{nothing_entered, IsLiteral, IsPointerKind, AreMainParameters, IsWhole, IsStatus}
use Rattle.cr_meaning_soundness.proofs.Cells.{kinds_of, all_hold_later}
use Rattle.cr_meaning_soundness.proofs.Numbers.{zero_or_one}
use Rattle.cr_meaning_soundness.proofs.Worlds.{Enters, EntersAll, grows_refl, grows_onward, object_enters, entered_then, ok_map, IsMade, all_enter, new_holds}
use Rattle.cr_meaning_soundness.proofs.Expressions.{Went}
use Rattle.cr_meaning_soundness.proofs.Given.{IsGiven, AreGiven, given_later, one_more, last_given}
use Rattle.cr_meaning_soundness.proofs.Going.{Rooted, Finished, HoldsBy, SafeWay, IsNext, acted_by}
use Rattle.cr_meaning_soundness.proofs.Loops.{by_operand, given_answers, next_at, went_entering}
use Rattle.cr_meaning_soundness.proofs.Declared.{hold_in_shape}
use Rattle.cr_meaning_soundness.proofs.Calls.{parameters_enter, begins_deeper}

-- ---- objects of static duration

later_than_nothing : (memory : Memory) → Continues nothing_entered memory
later_than_nothing memory = record { entered = omega arith; objects = λ n below. (let never : ⊥ = omega arith in absurd never) }

literal_made : (p : Program) (node : ℕ) (o : Option (List Cell)) → IfSome o (λ held. AllHold nothing_entered (kinds_of (p.shape node)) held)
    → (memory : Memory) → AllHold memory (kinds_of (literal_or o (p.shape node)).shape) (literal_or o (p.shape node)).cells
literal_made p node None h memory = new_holds memory true (p.shape node)
literal_made p node (Some held) h memory = all_hold_later nothing_entered memory (kinds_of (p.shape node)) held (later_than_nothing memory) h

literal_shape : (o : Option (List Cell)) (shape : List (Scalar × Guard)) → sorts_in (literal_or o shape).shape ≡ sorts_in shape
literal_shape None shape = refl
literal_shape (Some held) shape = refl

static_made : (p : Program) (node : ℕ) → IsLiteral p node → IsMade p (static p) node
static_made p node h = record { hold = literal_made p node (p.literal node) h; sorts = literal_shape (p.literal node) (p.shape node) }

-- ---- main's parameters

entered_memory : (world : World) (node : ℕ) (object : Object) → IfOk (enter_object world node object) (λ new. new.memory ≡ with_object world.memory object)
entered_memory world node object = by_room (has_room world.memory (length object.shape))
  where
    by_room : (b : Bool) → IfOk (let r : Result World (Trap × ℕ) = if b then Ok (with_binding world node object) else Err (Left 3, node) in r) (λ new. new.memory ≡ with_object world.memory object)
    by_room true = refl
    by_room false = tt

ok_both : (P Q : World → Type 0) (result : Result World (Trap × ℕ)) → IfOk result P → IfOk result Q → IfOk result (λ world. P world × Q world)
ok_both P Q (Ok world) h k = (h, k)
ok_both P Q (Err trap) h k = tt

strings_hold : (memory : Memory) (strings : Scalar) → IsPointerKind strings → AllHold memory (kinds_of (strings_of strings).shape) (strings_of strings).cells
strings_hold memory (scalar.Int kind) h = absurd h
strings_hold memory (scalar.Pointer to) h = (tt, tt)

strings_sort : (strings : Scalar) → IsPointerKind strings → sorts_in (strings_of strings).shape ≡ PointerSort ∷ []
strings_sort (scalar.Int kind) h = absurd h
strings_sort (scalar.Pointer to) h = refl

strings_pointed : (memory new : Memory) (strings : Scalar) → new ≡ with_object memory (strings_of strings) → IsPointer new (At (length memory.objects) 0 0 1 (scalar_element strings))
strings_pointed memory new strings e =
    let F : Memory → Type 0 = λ m. IsPointer m (At (length memory.objects) 0 0 1 (scalar_element strings)) in
    subst F (sym e) (whole-pointed (with_object memory (strings_of strings)) (length memory.objects) (scalar_element strings) (strings_of strings)
    (get_or_push memory.objects (Some (strings_of strings)) None (length memory.objects) refl) (omega arith) (omega arith))

main_enters : (p : Program) (strings : Scalar) (parameters : List Parameter) (world : World) → IsWellFormed p world → AreMainParameters p strings parameters
    → IfOk (main_entered p strings parameters world) (EntersAll p world (nodes_of parameters))
main_enters p strings [] world well h = (grows_refl p world well, λ node among. absurd among)
main_enters p strings (count ∷ []) world well h = absurd h
main_enters p strings (count ∷ vector ∷ []) world well h =
    let both = count ∷ vector ∷ [] in
    let given : List Value = Number IntegerKind (pos 0) ∷ Pointing (At (length world.memory.objects) 0 0 1 (scalar_element strings)) ∷ [] in
    entered_then (λ new. Enters p world vector.node new × (new.memory ≡ with_object world.memory (strings_of strings))) (EntersAll p world (nodes_of both))
    (enter_object world vector.node (strings_of strings)) (λ entered. enter_parameters p entered both given)
    (ok_both (Enters p world vector.node) (λ new. new.memory ≡ with_object world.memory (strings_of strings)) (enter_object world vector.node (strings_of strings))
    (object_enters p world vector.node (strings_of strings) well (strings_hold world.memory strings h.1) (strings_sort strings h.1 ∙ sym h.0.1))
    (entered_memory world vector.node (strings_of strings)))
    (λ entered e. ok_map (EntersAll p entered (nodes_of both)) (EntersAll p world (nodes_of both)) (enter_parameters p entered both given)
    (parameters_enter p both given entered e.0.0.well (
      hold_in_shape entered.memory (p.shape count.node) (scalar.Int IntegerKind ∷ []) (cell.Number (pos 0) ∷ []) h.0.0 (zero_or_one IntegerKind false, tt),
      (
        hold_in_shape entered.memory (p.shape vector.node) (scalar.Pointer 0 ∷ []) (cell.Pointer (At (length world.memory.objects) 0 0 1 (scalar_element strings)) ∷ []) h.0.1
            (strings_pointed world.memory entered.memory strings e.1, tt),
        tt,
      ),
    ))
    (λ new all. (grows_onward p world entered new e.0.0 all.0, all.1)))
main_enters p strings (count ∷ vector ∷ more ∷ rest) world well h = absurd h

-- ---- main's answer

status_of_value : (p : Program) (memory : Memory) (value : Value) → Returns p memory (form.Number IntegerKind) value → IsStatus (returned value)
status_of_value p memory (Number kind value) h = (kind, (value, refl))
status_of_value p memory Nothing h = absurd (cc h.1)
status_of_value p memory value h = absurd h.0

status_of_answer : (p : Program) (memory : Memory) (answer : Answer) → Answers p memory (statement (of_function (form.Number IntegerKind))) answer → IsStatus (program_end answer)
status_of_answer p memory (returned value) h = status_of_value p memory value h
status_of_answer p memory answer h = (IntegerKind, (pos 0, refl))

-- ---- ways on

record RootPart (p : Program) (sorts : ℕ → Option Sort) (sees : ℕ → ℕ → Bool) (op : Op) (w : Work) (objects : List ℕ) (done : List Answer) (s t : World) (m : ℕ) : Type 0 where
  next_is : IsNext sorts w op.parts (length done) m
  seen : AreSeen sees m t.bindings
  well : IsWellFormed p t
  continues : Continues s.memory t.memory
  objects_bound : AreBound objects t.bindings

record RootEntry (p : Program) (objects : List ℕ) (s t : World) : Type 0 where
  well : IsWellFormed p t
  continues : Continues s.memory t.memory
  objects_bound : AreBound objects t.bindings

abbrev RootGoes : Program → (ℕ → Option Sort) → (ℕ → ℕ → Bool) → ℕ → Op → Work → List ℕ → List Answer → World → Way → Type 0
RootGoes p sorts sees node op w objects done s (Operand m) = RootPart p sorts sees op w objects done s s m
RootGoes p sorts sees node op w objects done s (Enter m) = Went (λ answer t. RootPart p sorts sees op w objects done s t m) (before_by p node w done s)
RootGoes p sorts sees node op w objects done s (Resume again) =
    AreGiven p sorts w op.parts s.memory 0 again × Went (λ answer t. RootEntry p objects s t) (before_by p node w done s)
RootGoes p sorts sees node op w objects done s Ready = Went (λ answer t. IsStatus answer) (join_by p node op w done s)

root_part_holds : (E : Halt → Type 0) (p : Program) (sorts : ℕ → Option Sort) (sees : ℕ → ℕ → Bool) (node : ℕ) (op : Op) (done : List Answer) (s t : World) (m : ℕ) → slice_get p.ops node ≡ Some op
    → (whole : IsWhole p sorts op) → IsScopedWhole sees op.parts whole.objects whole.parameters whole.rest → AreGiven p sorts op.work op.parts s.memory 0 done
    → RootPart p sorts sees op op.work whole.objects done s t m → HoldsBy E p sorts sees (Finished E) (with_part node m done) t
root_part_holds E p sorts sees node op done s t m op_is whole scoped given h = (
  record { own = h.next_is.sort; has = h.next_is.has; well = h.well; seen = h.seen },
  (
    λ answer u kept.
        let counts : length done ≡ 0 + length done = omega arith in
        let G : ℕ → Type 0 = λ k. IsPart op.work op.parts k m in
        let B : List Binding → Type 0 = λ b. AreBound whole.objects b in
        let more = one_more p sorts op.work op.parts u.memory 0 done answer
        (given_later p sorts op.work op.parts t.memory u.memory 0 done kept.continues (given_later p sorts op.work op.parts s.memory t.memory 0 done h.continues given))
        (inl (record { node = m; sort = h.next_is.sort; is_part = subst G counts h.next_is.is_part; has = h.next_is.has; fits = kept.fits })) in (
          inr (record { op = op; op_is = op_is; whole = whole; scoped = scoped; well = kept.well_formed; given = more; begun = inr (subst B (sym kept.bindings) h.objects_bound) }),
          (λ v w h. h, λ h' h. h),
        ),
    λ h' h. h,
  ),
)

root_way_holds : (E : Halt → Type 0) (p : Program) (sorts : ℕ → Option Sort) (sees : ℕ → ℕ → Bool) (node : ℕ) (op : Op) (done : List Answer) (s : World) (way : Way) → slice_get p.ops node ≡ Some op
    → (whole : IsWhole p sorts op) → IsScopedWhole sees op.parts whole.objects whole.parameters whole.rest → AreGiven p sorts op.work op.parts s.memory 0 done
    → RootGoes p sorts sees node op op.work whole.objects done s way → SafeWay E p node op done s way → HoldsBy E p sorts sees (Finished E) (on_way p node op done way) s
root_way_holds E p sorts sees node op done s (Operand m) op_is whole scoped given goes safe = root_part_holds E p sorts sees node op done s s m op_is whole scoped given goes
root_way_holds E p sorts sees node op done s (Enter m) op_is whole scoped given goes safe =
    acted_by (λ answer t. RootPart p sorts sees op op.work whole.objects done s t m) (λ answer t. HoldsBy E p sorts sees (Finished E) (with_part node m done) t) E
    (before_by p node op.work done s) goes safe (λ v t h. root_part_holds E p sorts sees node op done s t m op_is whole scoped given h)
root_way_holds E p sorts sees node op done s (Resume again) op_is whole scoped given goes safe =
    acted_by (λ answer t. RootEntry p whole.objects s t) (λ answer t. HoldsBy E p sorts sees (Finished E) (call (operands node again) give) t) E
    (before_by p node op.work done s) goes.1 safe
    (λ v t h. (
      inr (record {
        op = op;
        op_is = op_is;
        whole = whole;
        scoped = scoped;
        well = h.well;
        given = given_later p sorts op.work op.parts s.memory t.memory 0 again h.continues goes.0;
        begun = inr h.objects_bound;
      }),
      (λ w u h. h, λ h' h. h),
    ))
root_way_holds E p sorts sees node op done s Ready op_is whole scoped given goes safe =
    acted_by (λ answer t. IsStatus answer) (λ answer t. IsStatus answer) E (join_by p node op op.work done s) goes safe (λ v t h. h)

-- ---- the program's own ways

main_seen : (sees : ℕ → ℕ → Bool) (objects : List ℕ) (parameters : List Parameter) (rest : ℕ) (t : World) → ((declared : ℕ) → sees rest declared ≡ true → IsAmong declared objects ⊎ IsAmong declared (nodes_of parameters))
    → AreBound objects t.bindings → AreBound (nodes_of parameters) t.bindings → AreSeen sees rest t.bindings
main_seen sees objects parameters rest t rule here own declared d = either (rule declared d)
  where
    either : IsAmong declared objects ⊎ IsAmong declared (nodes_of parameters) → IsBound declared t.bindings
    either (inl among) = here declared among
    either (inr among) = own declared among

root_goes : (p : Program) (sorts : ℕ → Option Sort) (sees : ℕ → ℕ → Bool) (node : ℕ) (op : Op) (objects : List ℕ) (parameters : List Parameter) (strings : Scalar) (rest : ℕ) (done : List Answer) (s : World)
    → IsScopedWhole sees op.parts objects parameters rest → ((node : ℕ) → IsAmong node objects → IsLiteral p node) → AreMainParameters p strings parameters
    → sorts rest ≡ Some (statement (of_function (form.Number IntegerKind)))
    → ((k node : ℕ) → slice_get op.parts k ≡ Some node → sorts node ≡ Some (statement (of_function (form.Number IntegerKind))))
    → IsWellFormed p s → AreGiven p sorts (work.Program objects parameters strings rest) op.parts s.memory 0 done → (done ≡ []) ⊎ AreBound objects s.bindings
    → RootGoes p sorts sees node op (work.Program objects parameters strings rest) objects done s (program_next op.parts rest done)
root_goes p sorts sees node op objects parameters strings rest [] s scoped literals main body parts well given begun = (
  (inr refl, tt),
  went_entering (EntersAll p s objects) (λ answer t. RootEntry p objects s t) (enter_all (static p) s objects)
      (all_enter p (static p) s objects well (λ n among. static_made p n (literals n among)))
      (λ t e. record { well = e.0.well; continues = e.0.continues; objects_bound = e.1 }),
)
root_goes p sorts sees node op objects parameters strings rest (entry ∷ done) s scoped literals main body parts well given begun = by_count (length done == length op.parts) refl
  where
    bound_here : (let d : List Answer = entry ∷ done in d ≡ []) ⊎ AreBound objects s.bindings → AreBound objects s.bindings
    bound_here (inl e) = absurd (cc e)
    bound_here (inr h) = h

    part_sort : (k m : ℕ) (sort : Sort) → IsPart (work.Program objects parameters strings rest) op.parts k m → sorts m ≡ Some sort → sort ≡ statement (of_function (form.Number IntegerKind))
    part_sort zero m sort is has = absurd is
    part_sort (suc k) m sort (inl e) has = let p' = parts k m e in cc
    part_sort (suc k) m sort (inr e) has = let same = e.1 in let b = body in cc

    filled : (k : ℕ) (answer : Answer) → IsGiven p sorts (work.Program objects parameters strings rest) op.parts s.memory k answer → Answers p s.memory (statement (of_function (form.Number IntegerKind))) answer
    filled zero answer g =
        given_answers p sorts (work.Program objects parameters strings rest) op.parts s.memory 0 (of_function (form.Number IntegerKind)) answer (λ m sort is has. part_sort 0 m sort is has) (λ f. f) g
    filled (suc k) answer g =
        given_answers p sorts (work.Program objects parameters strings rest) op.parts s.memory (suc k) (of_function (form.Number IntegerKind)) answer (λ m sort is has. part_sort (suc k) m sort is has) (λ f. absurd f) g

    by_count : (b : Bool) → (length done == length op.parts) ≡ b
        → RootGoes p sorts sees node op (work.Program objects parameters strings rest) objects (entry ∷ done) s (if b then Enter rest else in_turn op.parts done)
    by_count true e =
        let deep = begins_deeper p s well in
        went_entering (EntersAll p (deeper s) (nodes_of parameters)) (λ answer t. RootPart p sorts sees op (work.Program objects parameters strings rest) objects (entry ∷ done) s t rest)
        (main_entered p strings parameters (deeper s)) (main_enters p strings parameters (deeper s) deep.well main)
        (λ t all. let here : AreBound objects t.bindings = λ n among. all.0.there n (bound_here begun n among) in
        record {
          next_is = next_at sorts (work.Program objects parameters strings rest) op.parts (suc (length done)) rest (statement (of_function (form.Number IntegerKind)), body)
              (inr (eqb-true (length done) (length op.parts) e, refl));
          seen = main_seen sees objects parameters rest t scoped.rest_sees here all.1;
          well = all.0.well;
          continues = all.0.continues;
          objects_bound = here;
        })
    by_count false e =
        by_operand (RootGoes p sorts sees node op (work.Program objects parameters strings rest) objects (entry ∷ done) s) (slice_get op.parts (length done))
        (λ m f. record {
          next_is = next_at sorts (work.Program objects parameters strings rest) op.parts (suc (length done)) m (statement (of_function (form.Number IntegerKind)), parts (length done) m f) (inl f);
          seen = λ declared d. bound_here begun declared (scoped.part_sees (length done) m declared f d);
          well = well;
          continues = same_memory;
          objects_bound = bound_here begun;
        })
        (λ f. status_of_answer p s.memory (last_of entry done)
        (filled (0 + length done) (last_of entry done) (last_given p sorts (work.Program objects parameters strings rest) op.parts s.memory 0 entry done given)))
      where
        same_memory : Continues s.memory s.memory
        same_memory = continues-refl s.memory

pub root_holds : (E : Halt → Type 0) (p : Program) (sorts : ℕ → Option Sort) (sees : ℕ → ℕ → Bool) (node : ℕ) (done : List Answer) (s : World) (i : Rooted p sorts sees node done s)
    → SafeWay E p node i.op done s (next_of i.op done) → HoldsBy E p sorts sees (Finished E) (on_way p node i.op done (next_of i.op done)) s
root_holds E p sorts sees node done s i safe =
    let h = i.whole in
    let w = work.Program h.objects h.parameters h.strings h.rest in
    let G : Work → Type 0 = λ x. AreGiven p sorts x i.op.parts s.memory 0 done in
    let F : Work → Type 0 = λ x. RootGoes p sorts sees node i.op x h.objects done s (next_by x i.op.parts done) in
    root_way_holds E p sorts sees node i.op done s (next_of i.op done) i.op_is h i.scoped i.given
    (subst F (sym h.work_is) (root_goes p sorts sees node i.op h.objects h.parameters h.strings h.rest done s i.scoped h.literals h.main h.body h.parts i.well (subst G h.work_is i.given) i.begun)) safe
