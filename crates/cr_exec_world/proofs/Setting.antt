-- An object that begins with cells.
use Rattle.std.proofs.Common.{◌≡◌, ℕ, false, Option, Some, None, List, [], ◌∷◌, length, sym, ap, ◌∙◌, set, ◌++◌}
use Rattle.std.proofs.lemmas.List.{set_at, get_or_push, length-map}
use Rattle.cr_memory.specs.declared.value.Cell.{Cell}
use Rattle.cr_memory.specs.declared.value.Scalar.{Scalar}
use Rattle.cr_memory.specs.declared.value.Guard.{Guard}
use Rattle.cr_memory.specs.Memory.{Object, Memory, live_object, first_cell, new_object, with_object}
use Rattle.cr_memory.specs.Access.{some_object, overwritten, with_cells}
use Rattle.cr_memory.proofs.Moving.{overwritten-whole}

abbrev wrote : Object → ℕ → List Cell → Object
wrote x place cells = record { cells = overwritten x.cells place cells; shape = x.shape }

abbrev leaving : Memory → ℕ → Object → Memory
leaving m o x = record { most = m.most; objects = set m.objects o (Some x) }

at_live : (m : Memory) (o place : ℕ) (cells : List Cell) (x : Object) → live_object m o ≡ Some x → with_cells m o place cells ≡ leaving m o (wrote x place cells)
at_live m o place cells x e = ap (λ (y : Option Object). leaving m o (wrote (some_object y) place cells)) e

-- an object that has just been entered, with all its cells set
pub filled : (m blank : Memory) (shape : List (Scalar × Guard)) (cells : List Cell) (n : ℕ) → n ≡ length m.objects → blank ≡ with_object m (new_object false shape)
    → length cells ≡ length shape → with_cells blank n 0 cells ≡ with_object m (record { cells = cells; shape = shape })
filled m blank shape cells n number entered size =
    let x : Object = new_object false shape in
    let full : Object = record { cells = cells; shape = shape } in
    let here : live_object (with_object m x) n ≡ Some x = get_or_push m.objects (Some x) None n (sym number) in
    ap (λ (k : Memory). with_cells k n 0 cells) entered
    ∙ (at_live (with_object m x) n 0 cells x here
    ∙ ap (λ (os : List (Option Object)). record { most = m.most; objects = os })
    (ap (λ (cs : List Cell). set (m.objects ++ Some x ∷ []) n (Some (record { cells = cs; shape = shape })))
    (overwritten-whole x.cells cells (size ∙ sym (length-map shape (first_cell false))))
    ∙ set_at m.objects (Some x) [] (Some full) n (sym number)))
