-- Which evaluations have a fixed order, with `int x; int f(void) { x = 1; return 2; } int g(void) { return 3; }`: those of `x + f()`, `f() + g()`, `x = f()`,
-- `y + f()`, and `h() + 1 / 0` where `h` calls `exit`. Of bodies the assignment alone stands here.
use Rattle.std.proofs.Common.{◌≡◌, refl, sym, ◌∙◌, subst, ap, arith, inl, inr}
use Rattle.std.specs.Prelude.{ℕ, zero, suc, ◌<◌, ◌⊎◌, Bool, true, false, not, ◌&&◌, ◌==◌, Option, Some, None, List, [], ◌∷◌, slice_get, pos}
use Rattle.std.specs.List.{list_all}
use Rattle.std.proofs.lemmas.Bool.{false≢true, cases_eq, both_ways, not-true, and_parts}
use Rattle.cr_ints.specs.declared.kind.IntKind.TheVariants.{Int}
use Rattle.cr_footprint.specs.Cell.{Cell as Place}
use Rattle.cr_meaning.specs.Events.{Event, Deed, Reads, Writes}
use Rattle.cr_meaning.specs.Quiet.{is_quiet_work}
use Rattle.cr_meaning.specs.World.{Program}
use Rattle.cr_meaning.specs.declared.op.Op.{Op}
use Rattle.cr_meaning.specs.declared.op.Access.TheVariants as access
use Rattle.cr_meaning.specs.declared.op.Callee.TheVariants.{Function, Exit}
use Rattle.cr_meaning.specs.declared.op.Change.TheVariants.{Arithmetic}
use Rattle.cr_meaning.specs.declared.op.Form.TheVariants as form
use Rattle.cr_meaning.specs.declared.op.Operator.TheVariants.{Add}
use Rattle.cr_meaning.specs.declared.op.Work.{Work}
use Rattle.cr_meaning.specs.declared.op.Work.TheVariants as work
use Rattle.cr_meaning_seen.specs.Seen.{Forest, bare, node as tree, Occurs, here, within, later, piece}
use Rattle.cr_meaning_frames.specs.Frame.{reads_in, ArePlain}
use Rattle.cr_meaning_orders.specs.Fixed.{spares, Spares, IsFixedNode}

-- ---- the nodes

abbrev op : List ℕ → Work → Op
op parts work = record { parts = parts; work = work; access = access.Unused }

-- 0: `x`; 1: `f()`; 2: `g()`; 3: `x = 1`; 4: `y`; 5: `exit(0)`; 6: an operand's constant; x is the object of node 10, y that of 11
abbrev ops : List Op
ops =
    op [] (work.Object 10 0)
    ∷ op [] (work.Call (Function [] 3 false))
    ∷ op [] (work.Call (Function [] 6 false))
    ∷ op (0 ∷ 6 ∷ []) (work.Assign (form.Number Int))
    ∷ op [] (work.Object 11 0)
    ∷ op (6 ∷ []) (work.Call Exit)
    ∷ op [] (work.Constant Int (pos 1))
    ∷ []

abbrev program : Program
program = record { ops = ops; shape = λ node. []; literal = λ node. None; kinds = λ row. []; limits = record { steps = 60; depth = 4; cells = 100; output = 100 } }

-- ---- the evaluations

-- x is object 0, y object 1
abbrev x_cell : Place
x_cell = (0, 0)

abbrev y_cell : Place
y_cell = (1, 0)

abbrev event : Deed → Place → Event
event deed cell = record { path = []; deed = deed; cell = cell }

abbrev alone : ℕ → List Event → Forest
alone number events = tree number bare (Some events) bare

-- `f()`, with the assignment in its body, and what comes after it
abbrev call_f : Forest → Forest
call_f more = tree 1 (tree 3 bare (Some (event Writes x_cell ∷ [])) bare) (Some []) more

abbrev read : ℕ → Place → Forest → Forest
read number cell more = tree number bare (Some (event Reads cell ∷ [])) more

-- ---- `x + f()`: f writes what the other operand reads

reads_and_spares : (kept : Place → Bool) → ArePlain program kept (read 0 x_cell bare) → Spares kept (call_f bare) → ⊥
reads_and_spares kept quiet spared =
    let one : (kept x_cell && true) ≡ true = (quiet 0 bare (Some (event Reads x_cell ∷ [])) here).1 (event Reads x_cell ∷ []) refl in
    let two : (not (kept x_cell) && true) ≡ true = spared 3 bare (event Writes x_cell ∷ []) (within here) in
    both_ways (kept x_cell) (not-true (kept x_cell) (and_parts (not (kept x_cell)) true two).0) (and_parts (kept x_cell) true one).0

-- a call is in no quiet operand
not_quiet : (kept : Place → Bool) (number : ℕ) (inner more : Forest) (end : Option (List Event)) (o : Op) → slice_get ops number ≡ Some o → (let w : Bool = is_quiet_work o.work in w ≡ false) → ArePlain program kept (tree number inner end more) → ⊥
not_quiet kept number inner more end o at loud quiet = both_ways (is_quiet_work o.work) loud ((quiet number inner end here).0 o at)

sum_is_refused : IsFixedNode program 2 (read 0 x_cell (call_f bare)) → ⊥
sum_is_refused i = by (cases_eq i.loud 1)
  where
    by : (i.loud ≡ 1) ⊎ (i.loud ≡ 1 → ⊥) → ⊥
    by (inl e) =
        let F : ℕ → Type 0 = λ n. piece (read 0 x_cell (call_f bare)) n ≡ Some (call_f bare) in
        reads_and_spares i.kept (i.quiet 0 (read 0 x_cell bare) (omega arith) (λ same. absurd (omega (arith, e, same))) refl) (i.spared (call_f bare) (omega (arith, e)) (subst F (sym e) refl))
    by (inr other) = not_quiet i.kept 1 (tree 3 bare (Some (event Writes x_cell ∷ [])) bare) bare (Some []) (op [] (work.Call (Function [] 3 false))) refl refl (i.quiet 1 (call_f bare) (omega arith) (λ same. other (sym same)) refl)

-- ---- `f() + g()`: there are two calls

calls_are_refused : IsFixedNode program 2 (call_f (alone 2 [])) → ⊥
calls_are_refused i = by (cases_eq i.loud 1)
  where
    by : (i.loud ≡ 1) ⊎ (i.loud ≡ 1 → ⊥) → ⊥
    by (inl e) = not_quiet i.kept 1 (tree 3 bare (Some (event Writes x_cell ∷ [])) bare) bare (Some []) (op [] (work.Call (Function [] 3 false))) refl refl
        (i.quiet 0 (call_f bare) (omega arith) (λ same. absurd (omega (arith, e, same))) refl)
    by (inr other) = not_quiet i.kept 2 bare bare (Some []) (op [] (work.Call (Function [] 6 false))) refl refl (i.quiet 1 (alone 2 []) (omega arith) (λ same. other (sym same)) refl)

-- ---- `h() + 1 / 0`: `exit` cuts the first of two operands off

exit_is_refused : IsFixedNode program 2 (tree 1 (tree 5 (alone 6 []) None bare) None bare) → ⊥
exit_is_refused i = let never : 2 < 2 = i.whole 0 1 (tree 5 (alone 6 []) None bare) (omega arith) refl in omega (arith, never)

-- ---- `x = f()` and `y + f()`: the other operand reads nothing that f writes

one_event : (number : ℕ) (events : List Event) (n : ℕ) (inner : Forest) (end : Option (List Event)) → Occurs n inner end (alone number events) → (n ≡ number) × (end ≡ Some events)
one_event number events _ _ _ here = (refl, refl)
one_event number events n inner end (within o) = absurd (elim o [ ])
one_event number events n inner end (later o) = absurd (elim o [ ])

plain_alone : (kept : Place → Bool) (number : ℕ) (o : Op) (events : List Event) → slice_get ops number ≡ Some o → is_quiet_work o.work ≡ true → list_all (reads_in kept) events ≡ true → ArePlain program kept (alone number events)
plain_alone kept number o events at quiet reads n inner end occurs =
    let same = one_event number events n inner end occurs in (
      (λ p is. let F : ℕ → Type 0 = λ m. slice_get ops m ≡ Some o in let one : Some p ≡ Some o = sym is ∙ subst F (sym same.0) at in let equal : p ≡ o = cc in ap (λ (z : Op). is_quiet_work z.work) equal ∙ quiet),
      (λ found is. let one : Some found ≡ Some events = sym is ∙ same.1 in let equal : found ≡ events = cc in ap (λ l. list_all (reads_in kept) l) equal ∙ reads),
    )

spared_call : (kept : Place → Bool) → kept x_cell ≡ false → Spares kept (call_f bare)
spared_call kept free n inner events o = by n inner (Some events) events refl o
  where
    written : not (kept x_cell) ≡ true
    written = ap not free

    by : (n : ℕ) (inner : Forest) (end : Option (List Event)) (events : List Event) → end ≡ Some events → Occurs n inner end (call_f bare) → list_all (spares kept) events ≡ true
    by _ _ _ events e here = let none : [] ≡ events = cc in ap (λ l. list_all (spares kept) l) (sym none)
    by n inner end events e (within o) =
        let same = one_event 3 (event Writes x_cell ∷ []) n inner end o in
        let one : Some (event Writes x_cell ∷ []) ≡ Some events = sym same.1 ∙ e in
        let equal : (event Writes x_cell ∷ []) ≡ events = cc in
        ap (λ l. list_all (spares kept) l) (sym equal) ∙ ap (λ b. b && true) written
    by n inner end events e (later o) = absurd (elim o [ ])

fixed_with : (kept : Place → Bool) (number : ℕ) (o : Op) (events : List Event) → slice_get ops number ≡ Some o → is_quiet_work o.work ≡ true → list_all (reads_in kept) events ≡ true → kept x_cell ≡ false
    → IsFixedNode program 2 (tree number bare (Some events) (call_f bare))
fixed_with kept number o events at quiet reads free = record {
  loud = 1;
  kept = kept;
  quiet = λ place operand few other is. quiet_at place operand few other is;
  spared = λ operand few is. let same : operand ≡ call_f bare = cc in subst (Spares kept) (sym same) (spared_call kept free);
  whole = λ place n inner few is. whole_at place n inner few is;
}
  where
    quiet_at : (place : ℕ) (operand : Forest) → place < 2 → (place ≡ 1 → ⊥) → piece (tree number bare (Some events) (call_f bare)) place ≡ Some operand → ArePlain program kept operand
    quiet_at zero operand few other is = let same : operand ≡ alone number events = cc in subst (ArePlain program kept) (sym same) (plain_alone kept number o events at quiet reads)
    quiet_at (suc zero) operand few other is = absurd (other refl)
    quiet_at (suc (suc place)) operand few other is = absurd (omega arith)

    whole_at : (place n : ℕ) (inner : Forest) → place < 2 → piece (tree number bare (Some events) (call_f bare)) place ≡ Some (tree n inner None bare) → 2 < 2
    whole_at zero n inner few is = absurd cc
    whole_at (suc zero) n inner few is = absurd cc
    whole_at (suc (suc place)) n inner few is = absurd (omega arith)

-- the place of x is no read
assignment_is_fixed : IsFixedNode program 2 (tree 0 bare (Some []) (call_f bare))
assignment_is_fixed = fixed_with (λ cell. false) 0 (op [] (work.Object 10 0)) [] refl refl refl refl

other_is_fixed : IsFixedNode program 2 (read 4 y_cell (call_f bare))
other_is_fixed = fixed_with (λ cell. cell.0 == 1) 4 (op [] (work.Object 11 0)) (event Reads y_cell ∷ []) refl refl refl refl
