-- An expression's node whose operands have the sorts that it takes comes to a value or to a case.
use Rattle.std.proofs.Common.{◌≡◌, ◌∙◌, subst, arith, inl, inr}
use Rattle.std.specs.Prelude.{ℕ, ◌&&◌, ◌||◌, pos, Bool, true, false, Option, Some, None, Result, List, [], ◌∷◌, length, take, drop, slice_get, ◌⊎◌}
use Rattle.cr_ints.specs.declared.kind.IntKind.TheVariants.{Int as IntegerKind}
use Rattle.cr_memory.specs.declared.value.Element.{Element}
use Rattle.cr_memory.specs.declared.value.Pointer.{Pointer}
use Rattle.cr_memory.specs.declared.value.Scalar.{Scalar}
use Rattle.cr_memory.specs.declared.value.Trap.{Trap}
use Rattle.cr_memory.specs.declared.value.Trap.TheVariants.{Undefined}
use Rattle.cr_memory.specs.Memory.{Memory, IsPointer, AllHold, has_ended}
use Rattle.cr_meaning.specs.World.{Program, World, object_for, Answer}
use Rattle.cr_meaning.specs.Values.{signed_by, related, distance}
use Rattle.cr_meaning.specs.Work.{Did, place_of, taken, member_of, integer, address, inner_of, work_of}
use Rattle.cr_meaning.specs.Nodes.{value_of, values}
use Rattle.cr_meaning.specs.declared.op.Op.{Op}
use Rattle.cr_meaning.specs.declared.op.Form.{Form}
use Rattle.cr_meaning.specs.declared.op.Form.TheVariants as form
use Rattle.cr_meaning.specs.declared.op.Access.{Access}
use Rattle.cr_meaning.specs.declared.op.Change.TheVariants.{Arithmetic, Move}
use Rattle.cr_meaning.specs.declared.op.Work.{Work}
use Rattle.cr_meaning.specs.declared.op.Work.TheVariants as work
use Rattle.cr_meaning.specs.declared.value.Value.{Value}
use Rattle.cr_meaning.specs.declared.value.Value.TheVariants.{Nothing, Number, Pointer as Pointing, Place, Cells}
use Rattle.cr_meaning_soundness.specs.Sorts.{Sort, number, pointer, place, cells, Fits, IsWellFormed}
use Rattle.cr_meaning_soundness.specs.Statements.{Has, Converts}
use Rattle.cr_meaning_soundness.specs.Rules.{Casts, HasMember, Computes}
use Rattle.cr_meaning_soundness.specs.Scopes.{IsBound}
use Rattle.cr_meaning_soundness.specs.Operands.{IsNumber, IsPointerSort, IsScalar, IsPlaceSort, IsStructure, IsConverted, IsObjectForm, Takes, TakesBoth, TakesChange, Demands}
use Rattle.cr_meaning_soundness.proofs.Cells.{hold_taken, hold_dropped}
use Rattle.cr_meaning_soundness.proofs.Works.{placed}
use Rattle.cr_meaning_soundness.proofs.Expressions.{IsPlain}
use Rattle.cr_meaning_soundness.proofs.Given.{AreFrom, value_fits}
use Rattle.cr_meaning_soundness.proofs.Cases

-- ---- the values of sorts

pub number_value : (memory : Memory) (sort : Sort) (value : Value) → IsNumber sort → Fits memory sort value → Cases.IsNumberValue value
number_value memory (number kind) Nothing s h = tt
number_value memory (number kind) (Number from value) s h = tt
number_value memory (number kind) value s h = absurd h
number_value memory sort value s h = absurd s

pointer_value : (memory : Memory) (sort : Sort) (value : Value) → IsPointerSort sort → Fits memory sort value → Cases.IsPointerValue value
pointer_value memory pointer Nothing s h = tt
pointer_value memory pointer (Pointing at) s h = tt
pointer_value memory pointer value s h = absurd h
pointer_value memory sort value s h = absurd s

pub scalar_value : (memory : Memory) (sort : Sort) (value : Value) → IsScalar sort → Fits memory sort value → Cases.IsScalarValue value
scalar_value memory (number kind) Nothing s h = tt
scalar_value memory (number kind) (Number from value) s h = tt
scalar_value memory (number kind) value s h = absurd h
scalar_value memory pointer Nothing s h = tt
scalar_value memory pointer (Pointing at) s h = tt
scalar_value memory pointer value s h = absurd h
scalar_value memory sort value s h = absurd s

place_value : (memory : Memory) (sort : Sort) (value : Value) → IsPlaceSort sort → Fits memory sort value → Cases.IsPlaceValue value
place_value memory (place count) (Place at) s h = tt
place_value memory (place count) value s h = absurd h
place_value memory sort value s h = absurd s

pub converted_value : (p : Program) (memory : Memory) (form : Form) (sort : Sort) (value : Value) → IsConverted form sort → Converts p form sort → Fits memory sort value → Cases.IsConvertedValue form value
converted_value p memory form.Void sort value s c h = tt
converted_value p memory (form.Number kind) sort value s c h = scalar_value memory sort value s h
converted_value p memory (form.Pointer to) sort value s c h = scalar_value memory sort value s h
converted_value p memory (form.Cells row) sort value s c h = let F : Sort → Type 0 = λ o. Fits memory o value in a_structure value (subst F c h)
  where
    a_structure : (value : Value) → Fits memory (cells (p.kinds row)) value → Cases.IsConvertedValue (form.Cells row) value
    a_structure Nothing h = tt
    a_structure (Cells held) h = tt
    a_structure value h = absurd h

cast_value : (p : Program) (memory : Memory) (form : Form) (sort : Sort) (value : Value) → IsConverted form sort → Casts p form sort → Fits memory sort value → Cases.IsConvertedValue form value
cast_value p memory form.Void sort value s c h = tt
cast_value p memory (form.Number kind) sort value s c h = scalar_value memory sort value s h
cast_value p memory (form.Pointer to) sort value s c h = scalar_value memory sort value s h
cast_value p memory (form.Cells row) sort value s c h = converted_value p memory (form.Cells row) sort value s c h

-- ---- operands by their number

abbrev Operands : (ℕ → Option Sort) → Op → Memory → List Answer → Program → Type 0
Operands sorts op memory done p = AreFrom p sorts (λ k node. slice_get op.parts k ≡ Some node) memory 0 done

by_none : (done : List Answer) (result : List Value → Result Did Trap) → length done ≡ 0 → Cases.Cased (result []) → Cases.Cased (result (values done))
by_none [] result e h = h
by_none (first ∷ rest) result e h = let never : ⊥ = omega arith in absurd never

by_one : (p : Program) (sorts : ℕ → Option Sort) (op : Op) (memory : Memory) (done : List Answer) (result : List Value → Result Did Trap) → length done ≡ 1 → Operands sorts op memory done p
    → ((value : Value) (sort : Sort) → Fits memory sort value → ((P : Sort → Type 0) → Has sorts op 0 P → P sort) → Cases.Cased (result (value ∷ []))) → Cases.Cased (result (values done))
by_one p sorts op memory [] result e all k = let never : ⊥ = omega arith in absurd never
by_one p sorts op memory (one ∷ []) result e all k =
    let a = all.0 in k (value_of one) a.sort (value_fits p memory a.sort one a.fits) (λ P has. has a.node a.sort a.is_part a.has)
by_one p sorts op memory (one ∷ other ∷ rest) result e all k = let never : ⊥ = omega arith in absurd never

by_two : (p : Program) (sorts : ℕ → Option Sort) (op : Op) (memory : Memory) (done : List Answer) (result : List Value → Result Did Trap) → length done ≡ 2 → Operands sorts op memory done p
    → ((left right : Value) (one other : Sort) → Fits memory one left → Fits memory other right → ((P : Sort → Type 0) → Has sorts op 0 P → P one) → ((P : Sort → Type 0) → Has sorts op 1 P → P other)
    → Cases.Cased (result (left ∷ right ∷ []))) → Cases.Cased (result (values done))
by_two p sorts op memory [] result e all k = let never : ⊥ = omega arith in absurd never
by_two p sorts op memory (one ∷ []) result e all k = let never : ⊥ = omega arith in absurd never
by_two p sorts op memory (one ∷ other ∷ []) result e all k =
    let a = all.0 in
    let b = all.1.0 in
    k (value_of one) (value_of other) a.sort b.sort (value_fits p memory a.sort one a.fits) (value_fits p memory b.sort other b.fits) (λ P has. has a.node a.sort a.is_part a.has)
    (λ P has. has b.node b.sort b.is_part b.has)
by_two p sorts op memory (one ∷ other ∷ more ∷ rest) result e all k = let never : ⊥ = omega arith in absurd never

-- ---- operators of both operands

both_shapes : (memory : Memory) (left right : Value) (one other : Sort) (P Q : Sort → Type 0) (A B : Value → Type 0) → ((sort : Sort) (value : Value) → P sort → Fits memory sort value → A value)
    → ((sort : Sort) (value : Value) → Q sort → Fits memory sort value → B value) → P one → Q other → Fits memory one left → Fits memory other right → A left × B right
both_shapes memory left right one other P Q A B f g p q l r = (f one left p l, g other right q r)

moved_by_both : (p : Program) (sorts : ℕ → Option Sort) (op : Op) (memory : Memory) (done : List Answer) (back : Bool) (count : Element) (result : List Value → Result Did Trap) → length done ≡ length op.parts
    → Operands sorts op memory done p → TakesChange sorts op (Move back count)
    → ((left right : Value) → Cases.AreMoved left right → Cases.Cased (result (left ∷ right ∷ []))) → Cases.Cased (result (values done))
moved_by_both p sorts op memory done back count result e all (inl d) k =
    by_two p sorts op memory done result (e ∙ d.0.0) all (λ left right one other l r a b. k left right (inl (pointer_value memory one left (a IsPointerSort d.0.1) l, number_value memory other right (b IsNumber d.1) r)))
moved_by_both p sorts op memory done back count result e all (inr d) k =
    by_two p sorts op memory done result (e ∙ d.0.0) all (λ left right one other l r a b. k left right (inr (number_value memory one left (a IsNumber d.0.1) l, pointer_value memory other right (b IsPointerSort d.1) r)))

object_form : (form : Form) → IsObjectForm form → Cases.IsObject form
object_form form.Void o = o
object_form form o = tt

-- a place or a structure's cells
member_cased : (p : Program) (a : Access) (memory : Memory) (whole before : ℕ) (count : Element) (form : Form) (own sort : Sort) (value : Value) → IsObjectForm form → IsStructure sort
    → HasMember p a whole before count.cells form own sort → Fits memory sort value → Cases.Cased (member_of p a memory whole before count form value)
member_cased p a memory whole before count form own (place size) (Place at) o s m h = Cases.at_place_cased p a memory _ (Cases.inner_cased memory whole before count at)
member_cased p a memory whole before count form own (place size) value o s m h = absurd h
member_cased p a memory whole before count form own (cells kinds) Nothing o s m h = tt
member_cased p a memory whole before count form own (cells kinds) (Cells held) o s m h =
    let K : List Scalar → Type 0 = λ ks. AllHold memory ks (take count.cells (drop before held)) in
    Cases.giving_cased memory (taken memory form (take count.cells (drop before held)))
    (Cases.taken_cased p memory form (take count.cells (drop before held)) (object_form form o) (subst K m.among (hold_taken memory _ _ count.cells (hold_dropped memory kinds held before h))))
member_cased p a memory whole before count form own (cells kinds) value o s m h = absurd h
member_cased p a memory whole before count form own sort value o s m h = absurd s

bound_place : (memory : Memory) (o : Option ℕ) (of : ℕ) → (object : ℕ) × (o ≡ Some object) → Cases.Cased (place_of memory o of)
bound_place memory None of h = absurd (cc h.1)
bound_place memory (Some object) of h = tt

place_is : (memory : Memory) (sort : Sort) (value : Value) → Fits memory sort value → (at : Pointer) → value ≡ Place at → IsPointer memory at
place_is memory sort value h at e = let F : Value → Type 0 = λ v. Fits memory sort v in placed memory sort at (subst F e h)

-- ---- all expressions but calls and `?:`

pub taken_work : (p : Program) (sorts : ℕ → Option Sort) (sees : ℕ → Bool) (op : Op) (world : World) (w : Work) (own : Sort) (done : List Answer) → IsPlain w → IsWellFormed p world
    → ((declared : ℕ) → sees declared ≡ true → IsBound declared world.bindings) → Computes p sorts op w own → Demands sorts sees op w → length done ≡ length op.parts
    → Operands sorts op world.memory done p → Cases.Cased (work_of p world w op.access (values done))
taken_work p sorts sees op world (work.Constant kind value) own done plain well bound g d e all = by_none done (λ vs. work_of p world (work.Constant kind value) op.access vs) (e ∙ d) tt
taken_work p sorts sees op world (work.Object declared of) own done plain well bound g d e all =
    by_none done (λ vs. work_of p world (work.Object declared of) op.access vs) (e ∙ d.0) (Cases.at_place_cased p op.access world.memory _ (bound_place world.memory (object_for world.bindings declared) of (bound declared d.1)))
taken_work p sorts sees op world work.Pass own done plain well bound g d e all = by_one p sorts op world.memory done (λ vs. work_of p world work.Pass op.access vs) (e ∙ d) all (λ value sort h has. Cases.passed_cased p op.access world.memory value)
taken_work p sorts sees op world work.Comma own done plain well bound g d e all = by_two p sorts op world.memory done (λ vs. work_of p world work.Comma op.access vs) (e ∙ d) all (λ left right one other l r a b. tt)
taken_work p sorts sees op world work.LogicalAnd own done plain well bound g d e all =
    by_two p sorts op world.memory done (λ vs. work_of p world work.LogicalAnd op.access vs) (e ∙ d.0.0) all (λ left right one other l r a b.
    Cases.giving_cased world.memory _ (Cases.logical_both_cased world.memory (λ x y. x && y) left right (scalar_value world.memory one left (a IsScalar d.0.1) l) (scalar_value world.memory other right (b IsScalar d.1) r)))
taken_work p sorts sees op world work.LogicalOr own done plain well bound g d e all =
    by_two p sorts op world.memory done (λ vs. work_of p world work.LogicalOr op.access vs) (e ∙ d.0.0) all (λ left right one other l r a b.
    Cases.giving_cased world.memory _ (Cases.logical_both_cased world.memory (λ x y. x || y) left right (scalar_value world.memory one left (a IsScalar d.0.1) l) (scalar_value world.memory other right (b IsScalar d.1) r)))
taken_work p sorts sees op world (work.Conditional form) own done plain well bound g d e all = absurd plain
taken_work p sorts sees op world (work.Binary (Arithmetic operator kind)) own done plain well bound g d e all =
    by_two p sorts op world.memory done (λ vs. work_of p world (work.Binary (Arithmetic operator kind)) op.access vs) (e ∙ d.0.0) all (λ left right one other l r a b.
    Cases.giving_cased world.memory _ (Cases.changed_cased world.memory operator kind left right (number_value world.memory one left (a IsNumber d.0.1) l) (number_value world.memory other right (b IsNumber d.1) r)))
taken_work p sorts sees op world (work.Binary (Move back count)) own done plain well bound g d e all =
    moved_by_both p sorts op world.memory done back count (λ vs. work_of p world (work.Binary (Move back count)) op.access vs) e all d (λ left right m. Cases.giving_cased world.memory _ (Cases.moved_change_cased world.memory back count left right m))
taken_work p sorts sees op world (work.Compare relation kind) own done plain well bound g d e all =
    by_two p sorts op world.memory done (λ vs. work_of p world (work.Compare relation kind) op.access vs) (e ∙ d.0.0) all (λ left right one other l r a b.
    Cases.giving_cased world.memory _ (Cases.comparison_cased world.memory left right _ (number_value world.memory one left (a IsNumber d.0.1) l) (number_value world.memory other right (b IsNumber d.1) r) (λ x y. tt)))
taken_work p sorts sees op world (work.ComparePointers relation) own done plain well bound g d e all =
    by_two p sorts op world.memory done (λ vs. work_of p world (work.ComparePointers relation) op.access vs) (e ∙ d.0.0) all (λ left right one other l r a b.
    Cases.giving_cased world.memory _ (Cases.with_pointers_cased left right (related world.memory relation) (scalar_value world.memory one left (a IsScalar d.0.1) l) (scalar_value world.memory other right (b IsScalar d.1) r)
    (λ x y. Cases.related_cased world.memory relation x y)))
taken_work p sorts sees op world (work.Distance count) own done plain well bound g d e all =
    by_two p sorts op world.memory done (λ vs. work_of p world (work.Distance count) op.access vs) (e ∙ d.0.0) all (λ left right one other l r a b.
    Cases.giving_cased world.memory _ (Cases.both_fit_cased count left right _ (Cases.with_pointers_cased left right (distance world.memory)
    (Cases.as_scalar_pointer left (pointer_value world.memory one left (a IsPointerSort d.0.1) l)) (Cases.as_scalar_pointer right (pointer_value world.memory other right (b IsPointerSort d.1) r))
    (λ x y. Cases.distance_cased world.memory x y))))
taken_work p sorts sees op world (work.Unary sign kind) own done plain well bound g d e all =
    by_one p sorts op world.memory done (λ vs. work_of p world (work.Unary sign kind) op.access vs) (e ∙ d.0) all (λ value sort h has.
    Cases.giving_cased world.memory _ (Cases.cased_all (integer value) (signed_by sign kind) (Cases.integer_cased value (number_value world.memory sort value (has IsNumber d.1) h)) (λ n. Cases.signed_cased sign kind n)))
taken_work p sorts sees op world work.Not own done plain well bound g d e all =
    by_one p sorts op world.memory done (λ vs. work_of p world work.Not op.access vs) (e ∙ d.0) all (λ value sort h has.
    Cases.giving_cased world.memory _ (Cases.cased_all _ _ (Cases.asked_cased world.memory value (scalar_value world.memory sort value (has IsScalar d.1) h)) (λ b. tt)))
taken_work p sorts sees op world (work.Cast form) own done plain well bound g d e all =
    by_one p sorts op world.memory done (λ vs. work_of p world (work.Cast form) op.access vs) (e ∙ d.0) all (λ value sort h has.
    Cases.giving_cased world.memory _ (Cases.cast_cased world.memory form value (cast_value p world.memory form sort value (has (IsConverted form) d.1) (has (Casts p form) g.1) h)))
taken_work p sorts sees op world work.AddressOf own done plain well bound g d e all =
    by_one p sorts op world.memory done (λ vs. work_of p world work.AddressOf op.access vs) (e ∙ d.0) all (λ value sort h has.
    Cases.giving_cased world.memory (address value) (Cases.address_cased value (place_value world.memory sort value (has IsPlaceSort d.1) h)))
taken_work p sorts sees op world (work.Dereference count) own done plain well bound g d e all =
    by_one p sorts op world.memory done (λ vs. work_of p world (work.Dereference count) op.access vs) (e ∙ d.0) all (λ value sort h has.
    Cases.at_place_cased p op.access world.memory _ (Cases.followed_cased count value _ (pointer_value world.memory sort value (has IsPointerSort d.1) h)
    (λ at. Cases.cased_if (has_ended world.memory at) (Undefined 10) _ tt tt)))
taken_work p sorts sees op world (work.Subscript count) own done plain well bound g d e all =
    moved_by_both p sorts op world.memory done false count (λ vs. work_of p world (work.Subscript count) op.access vs) e all d (λ left right m. Cases.at_place_cased p op.access world.memory _ (Cases.moved_either_cased world.memory false count left right m))
taken_work p sorts sees op world (work.Member whole before count form) own done plain well bound g d e all =
    by_one p sorts op world.memory done (λ vs. work_of p world (work.Member whole before count form) op.access vs) (e ∙ d.1.0) all (λ value sort h has.
    member_cased p op.access world.memory whole before count form own sort value d.0 (has IsStructure d.1.1) (has (HasMember p op.access whole before count.cells form own) g) h)
taken_work p sorts sees op world (work.PointerMember whole before count) own done plain well bound g d e all =
    by_one p sorts op world.memory done (λ vs. work_of p world (work.PointerMember whole before count) op.access vs) (e ∙ d.0) all (λ value sort h has.
    Cases.at_place_cased p op.access world.memory _ (Cases.followed_cased whole value (inner_of world.memory whole.cells before count) (pointer_value world.memory sort value (has IsPointerSort d.1) h)
    (λ at. Cases.inner_cased world.memory whole.cells before count at)))
taken_work p sorts sees op world (work.Assign form) own done plain well bound g d e all =
    by_two p sorts op world.memory done (λ vs. work_of p world (work.Assign form) op.access vs) (e ∙ d.1.0.0) all (λ left right one other l r a b.
    Cases.assigned_cased p world.memory form left right (object_form form d.0) (place_value world.memory one left (a IsPlaceSort d.1.0.1) l)
    (converted_value p world.memory form other right (b (IsConverted form) d.1.1) (b (Converts p form) g.1) r))
taken_work p sorts sees op world (work.Update change form volatile post) own done plain well bound g d e all = by_operands d.1
  where
    by_operands : Takes sorts op IsPlaceSort ⊎ TakesBoth sorts op IsPlaceSort IsNumber → Cases.Cased (work_of p world (work.Update change form volatile post) op.access (values done))
    by_operands (inl t) =
        by_one p sorts op world.memory done (λ vs. work_of p world (work.Update change form volatile post) op.access vs) (e ∙ t.0) all (λ value sort h has.
        Cases.updated_cased p world.memory change form volatile post value (Number IntegerKind (pos 1)) d.0 well.sound (place_value world.memory sort value (has IsPlaceSort t.1) h)
        (place_is world.memory sort value h) tt)
    by_operands (inr t) =
        by_two p sorts op world.memory done (λ vs. work_of p world (work.Update change form volatile post) op.access vs) (e ∙ t.0.0) all (λ left right one other l r a b.
        Cases.updated_cased p world.memory change form volatile post left right d.0 well.sound (place_value world.memory one left (a IsPlaceSort t.0.1) l) (place_is world.memory one left l)
        (number_value world.memory other right (b IsNumber t.1) r))
taken_work p sorts sees op world (work.Call callee) own done plain well bound g d e all = absurd plain
taken_work p sorts sees op world w own done plain well bound g d e all = absurd g
