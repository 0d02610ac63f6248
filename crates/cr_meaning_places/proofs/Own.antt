-- A scalar is read and written as the kind that its cell has: the memory looks at it, and gives no answer otherwise (N5).
use Rattle.std.proofs.Common.{◌≡◌, ℕ, Bool, true, false, Some, Result, Ok, Err, IfOk, List, [], ◌∷◌, map, if◌then◌else◌, sym, ap, subst}
use Rattle.cr_ints.specs.declared.kind.IntKind.TheVariants.{Int as IntegerKind}
use Rattle.std.specs.Prelude.{pos}
use Rattle.cr_memory.specs.declared.value.Pointer.{Pointer}
use Rattle.cr_memory.specs.declared.value.Scalar.{Scalar}
use Rattle.cr_memory.specs.declared.value.Scalar.TheVariants as scalar
use Rattle.cr_memory.specs.declared.value.Cell.{Cell}
use Rattle.cr_memory.specs.declared.value.Cell.TheVariants as cell
use Rattle.cr_memory.specs.declared.value.Trap.{Trap}
use Rattle.cr_memory.specs.declared.value.Trap.TheVariants.{Left}
use Rattle.cr_memory.specs.Kind.{is_same}
use Rattle.cr_memory.specs.Memory.{Memory, has_ended}
use Rattle.cr_memory.specs.Access.{is_null_or_end, is_literal, is_constant, number_of, cell_of, cell_at, shape_at, holds_ended, is_unset, with_cells, load_of, save_of}
use Rattle.cr_memory.proofs.Reaching.{loaded_by}
use Rattle.cr_memory.proofs.Storing.{writing-ok}
use Rattle.cr_meaning.specs.Language.{went}
use Rattle.cr_meaning.specs.Events.{operands_clash}
use Rattle.cr_meaning.specs.World.{Program, World, Answer, then_by}
use Rattle.cr_meaning.specs.Values.{cells_in, strays, converted, changed}
use Rattle.cr_meaning.specs.Work.{Did, used, stored, assigned, did_assign, loaded, updated, did_update, work_of}
use Rattle.cr_meaning.specs.Nodes.{Act, resulting, values, events_of, order_of, evaluated}
use Rattle.cr_meaning.specs.declared.op.Op.{Op}
use Rattle.cr_meaning.specs.declared.op.Access.{Access}
use Rattle.cr_meaning.specs.declared.op.Access.TheVariants as access
use Rattle.cr_meaning.specs.declared.op.Change.{Change}
use Rattle.cr_meaning.specs.declared.op.Form.{Form}
use Rattle.cr_meaning.specs.declared.op.Form.TheVariants as form
use Rattle.cr_meaning.specs.declared.op.Work.{Work}
use Rattle.cr_meaning.specs.declared.op.Work.TheVariants as work
use Rattle.cr_meaning.specs.declared.value.Value.{Value}
use Rattle.cr_meaning.specs.declared.value.Value.TheVariants.{Number, Pointer as Pointing, Place, Cells}
use Rattle.cr_meaning_soundness.proofs.Pointers.{ok_then, ok_unless}
use Rattle.cr_meaning_places.specs.Laws
use Rattle.cr_meaning_places.specs.Laws.{place_given, scalar_of, Accesses, reads, assigns, steps, updates}
use Rattle.cr_meaning_places.proofs.Working.{any_then}

module _ (memory : Memory) (at : Pointer) (kind : Scalar) where
  abbrev pub IsOwn : Type 0
  IsOwn = is_same (shape_at memory at).0 kind ≡ true

  pub load_own : IfOk (load_of memory at kind) (λ held. IsOwn)
  load_own =
      loaded_by (λ held. IsOwn) (has_ended memory at) (is_null_or_end at) (holds_ended memory (cell_at memory at)) (is_same (shape_at memory at).0 kind)
      (is_unset (cell_at memory at)) (cell_at memory at) (λ alive inside same. same)

  pub save_own : (value : Cell) → IfOk (save_of memory at kind value) (λ new. IsOwn)
  save_own value =
      writing-ok (λ new. IsOwn) (has_ended memory at) (is_null_or_end at) (is_literal (shape_at memory at).1) (is_constant (shape_at memory at).1)
      (is_same (shape_at memory at).0 kind) (with_cells memory (number_of at) (cell_of at) (value ∷ [])) (λ alive inside same. same)

used_own : (p : Program) (memory : Memory) (at : Pointer) (kind : Scalar) (volatile : Bool) → IfOk (used p (access.Scalar kind volatile) memory at) (λ did. IsOwn memory at kind)
used_own p memory at kind volatile =
    ok_unless (λ did. IsOwn memory at kind) (strays 1 at) (Left 5) _ (λ same. ok_then (λ held. IsOwn memory at kind) (λ did. IsOwn memory at kind) (load_of memory at kind) _ (load_own memory at kind) (λ held own. own))

by_form : (P : Scalar → Type 0) (one other : Scalar) → Some one ≡ Some other → P one → P other
by_form P one other e h = subst P (cc e) h

stored_own : (p : Program) (memory : Memory) (form : Form) (at : Pointer) (kind : Scalar) (new : Value) → scalar_of form ≡ Some kind → IfOk (stored p memory form at new) (λ m. IsOwn memory at kind)
stored_own p memory (form.Number own) at kind (Number k value) e = by_form (λ x. IfOk (stored p memory (form.Number own) at (Number k value)) (λ m. IsOwn memory at x)) _ kind e (save_own memory at (scalar.Int own) (cell.Number value))
stored_own p memory (form.Pointer to) at kind (Pointing target) e = by_form (λ x. IfOk (stored p memory (form.Pointer to) at (Pointing target)) (λ m. IsOwn memory at x)) _ kind e (save_own memory at (scalar.Pointer to) (cell.Pointer target))
stored_own p memory (form.Cells row) at kind (Cells held) e = absurd (cc e)
stored_own p memory form at kind new e = tt

assigned_own : (p : Program) (memory : Memory) (form : Form) (at : Pointer) (kind : Scalar) (value : Value) → scalar_of form ≡ Some kind → IfOk (assigned p memory form (Place at) value) (λ did. IsOwn memory at kind)
assigned_own p memory form at kind value e =
    let Q : Did → Type 0 = λ did. IsOwn memory at kind in
    ok_unless Q (strays (cells_in p form) at) (Left 5) _ (λ same. any_then Q (converted memory form value) _
    (λ new. ok_then (λ m. IsOwn memory at kind) Q (stored p memory form at new) (did_assign p form at new) (stored_own p memory form at kind new e) (λ m own. own)))

updated_own : (p : Program) (memory : Memory) (change : Change) (form : Form) (volatile post : Bool) (at : Pointer) (kind : Scalar) (value : Value) → scalar_of form ≡ Some kind
    → IfOk (updated p memory change form volatile post (Place at) value) (λ did. IsOwn memory at kind)
updated_own p memory change form volatile post at kind value e =
    let Q : Did → Type 0 = λ did. IsOwn memory at kind in
    ok_unless Q (strays 1 at) (Left 5) _ (λ same. any_then Q (loaded memory form at) _ (λ old. any_then Q (changed memory change old value) _ (λ result. any_then Q (converted memory form result) _
    (λ new. ok_then (λ m. IsOwn memory at kind) Q (stored p memory form at new) (did_update form volatile at post old new) (stored_own p memory form at kind new e) (λ m own. own)))))

-- ---- the work of a node that gives a place is its use

then_is : {A B : Type 0} (r : Result A Trap) (f : A → Result B Trap) (a : A) → r ≡ Ok a → then_by r f ≡ f a
then_is r f a e = ap (λ x. then_by x f) e

place_work : (p : Program) (world : World) (w : Work) (a : Access) (given : List Value) (at : Pointer) → place_given world w given ≡ Ok at → work_of p world w a given ≡ used p a world.memory at
place_work p world (work.Object declared of) a [] at e = then_is _ (used p a world.memory) at e
place_work p world work.Pass a (Place place ∷ []) at e = ap (λ r. then_by r (used p a world.memory)) e
place_work p world (work.Dereference own) a (value ∷ []) at e = then_is _ (used p a world.memory) at e
place_work p world (work.Member structure before own form) a (Place place ∷ []) at e = then_is _ (used p a world.memory) at e
place_work p world (work.PointerMember structure before own) a (value ∷ []) at e = then_is _ (used p a world.memory) at e
place_work p world (work.Subscript own) a (left ∷ right ∷ []) at e = then_is _ (used p a world.memory) at e
place_work p world w a given at e = absurd (cc e)

work_own : (p : Program) (world : World) (op : Op) (given : List Value) (at : Pointer) (kind : Scalar) → Accesses p world op given at kind → IfOk (work_of p world op.work op.access given) (λ did. IsOwn world.memory at kind)
work_own p world op given at kind (reads place own volatile a g) =
    let F : Result Did Trap → Type 0 = λ r. IfOk r (λ did. IsOwn world.memory place own) in
    let G : Access → Type 0 = λ x. F (used p x world.memory place) in
    subst F (sym (place_work p world op.work op.access given place g)) (subst G (sym a) (used_own p world.memory place own volatile))
work_own p world op given at kind (assigns place own form value w f g) =
    let F : Work → List Value → Type 0 = λ x l. IfOk (work_of p world x op.access l) (λ did. IsOwn world.memory place own) in
    rw (w, g) (assigned_own p world.memory form place own value f)
work_own p world op given at kind (steps place own change form volatile post w f g) =
    rw (w, g) (updated_own p world.memory change form volatile post place own (Number IntegerKind (pos 1)) f)
work_own p world op given at kind (updates place own change form volatile post value w f g) =
    rw (w, g) (updated_own p world.memory change form volatile post place own value f)

-- ---- where there is an answer

came : {P : Type 0} (node : ℕ) (r : Result Did Trap) (f : Did → Act) (b : Bool) (stop : Act) (answer : Answer) (new : World) → IfOk r (λ did. P) → ((answer : Answer) (new : World) → stop ≡ went answer new → P)
    → (let a : Act = if b then stop else resulting node r f in a) ≡ went answer new → P
came node r f true stop answer new h none e = none answer new e
came node (Ok did) f false stop answer new h none e = h
came node (Err trap) f false stop answer new h none e = absurd (cc e)

pub scalars_are_own : Laws.ScalarsAreOwn
scalars_are_own p node done world new op answer at kind a e =
    came node (work_of p world op.work op.access (values done)) (evaluated node op.work done world) (operands_clash (order_of op.work done) 0 (map events_of done)) _ answer new
    (work_own p world op (values done) at kind a) (λ other after f. absurd (cc f)) e
