-- The cells of types: those of structures by earlier ones, of constant objects, and of arrays by their elements.
use Rattle.std.proofs.Common.{◌≡◌, ℕ, zero, suc, ◌+◌, ◌*◌, ◌<◌, Bool, true, false, ◌||◌, List, [], ◌∷◌, ◌++◌, length, map, slice_index_or, refl, sym, ap, ◌∙◌, arith, append_assoc}
use Rattle.std.specs.List.{All, flat_map}
use Rattle.cr_memory.specs.declared.value.Scalar.{Scalar}
use Rattle.cr_memory.specs.declared.value.Guard.{Guard}
use Rattle.cr_syntax.specs.declared.ctype.CType.{CType}
use Rattle.cr_syntax.specs.declared.ctype.CType.TheVariants.{Int, Pointer, Array, Struct}
use Rattle.cr_check_types.specs.Types.{Qualified, plain, pointer, array, type_at, type_by}
use Rattle.cr_check_types.specs.Layouts.{count_of, element_of}
use Rattle.cr_typed.specs.declared.typed.Typed.{Typed}
use Rattle.cr_typed.specs.Typed.{IsTyped, IsBefore}
use Rattle.cr_meaning_operations.specs.Shapes.{cells_with, structure_cells, repeated, shape_of, is_volatile}
use Rattle.cr_exec_shapes.specs.Types.{sealed, looked_up, single_cells, AreStructures, IsSingle}
use Rattle.cr_exec_shapes.proofs.Rows.{or_default}

-- ---- lists

flat_map_same : {X A : Type 0} (f g : X → List A) (xs : List X) → All (λ x. f x ≡ g x) xs → flat_map f xs ≡ flat_map g xs
flat_map_same f g [] h = refl
flat_map_same f g (x ∷ xs) h =
    ap (λ a. a ++ flat_map f xs) (h 0 x (omega arith))
    ∙ ap (λ b. g x ++ b) (flat_map_same f g xs (λ k d lt. h (suc k) d (omega (arith, lt))))

map_append : {X A : Type 0} (f : X → A) (xs ys : List X) → map f (xs ++ ys) ≡ map f xs ++ map f ys
map_append f [] ys = refl
map_append f (x ∷ xs) ys = ap (λ r. f x ∷ r) (map_append f xs ys)

map_flat_map : {X A B : Type 0} (h : A → B) (f : X → List A) (xs : List X) → map h (flat_map f xs) ≡ flat_map (λ x. map h (f x)) xs
map_flat_map h f [] = refl
map_flat_map h f (x ∷ xs) = map_append h (f x) (flat_map f xs) ∙ ap (λ r. map h (f x) ++ r) (map_flat_map h f xs)

map_repeated : {X A : Type 0} (f : X → A) (n : ℕ) (xs : List X) → map f (repeated n xs) ≡ repeated n (map f xs)
map_repeated f zero xs = refl
map_repeated f (suc n) xs = map_append f xs (repeated n xs) ∙ ap (λ r. map f xs ++ r) (map_repeated f n xs)

pub repeated_none : {X : Type 0} (n : ℕ) → repeated {X = X} n [] ≡ []
repeated_none zero = refl
repeated_none (suc n) = repeated_none n

repeated_sum : {X : Type 0} (n m : ℕ) (xs : List X) → repeated (n + m) xs ≡ repeated n xs ++ repeated m xs
repeated_sum zero m xs = let e : 0 + m ≡ m = omega arith in rw e refl
repeated_sum (suc n) m xs =
    let e : suc n + m ≡ suc (n + m) = omega arith in
    rw e (ap (λ r. xs ++ r) (repeated_sum n m xs) ∙ sym (append_assoc xs (repeated n xs) (repeated m xs)))

repeated_product : {X : Type 0} (n m : ℕ) (xs : List X) → repeated (n * m) xs ≡ repeated n (repeated m xs)
repeated_product zero m xs = let e : 0 * m ≡ 0 = omega arith in rw e refl
repeated_product (suc n) m xs =
    let e : suc n * m ≡ m + n * m = omega arith in
    rw e (repeated_sum m (n * m) xs ∙ ap (λ r. repeated m xs ++ r) (repeated_product n m xs))

append_none : {X : Type 0} (xs : List X) → xs ++ [] ≡ xs
append_none [] = refl
append_none (x ∷ xs) = ap (λ r. x ∷ r) (append_none xs)

pub repeated_one : {X : Type 0} (xs : List X) → repeated 1 xs ≡ xs
repeated_one xs = append_none xs

pub repeated_more : {X : Type 0} (n : ℕ) (xs : List X) → repeated n xs ++ xs ≡ repeated (n + 1) xs
repeated_more n xs = ap (λ r. repeated n xs ++ r) (sym (append_none xs)) ∙ sym (repeated_sum n 1 xs)

-- ---- structures

-- only the structures in a type count
pub same_before : (f g : Bool → ℕ → List (Scalar × Guard)) (t : Typed) (node : ℕ) → ((c : Bool) (j : ℕ) → j < node → f c j ≡ g c j)
    → (constant : Bool) (type : Qualified) → IsBefore node type → cells_with f t constant type ≡ cells_with g t constant type
same_before f g t node h constant (plain (Int kind) c v) b = refl
same_before f g t node h constant (plain (Struct inner) c v) b = h (constant || c) inner b
same_before f g t node h constant (pointer c v below) b = refl
same_before f g t node h constant (array n below) b = ap (repeated n) (same_before f g t node h constant below b)
same_before f g t node h constant (plain other c v) b = refl

same_all : (f g : Bool → ℕ → List (Scalar × Guard)) (t : Typed) → ((c : Bool) (j : ℕ) → f c j ≡ g c j)
    → (constant : Bool) (type : Qualified) → cells_with f t constant type ≡ cells_with g t constant type
same_all f g t h constant (plain (Int kind) c v) = refl
same_all f g t h constant (plain (Struct inner) c v) = h (constant || c) inner
same_all f g t h constant (pointer c v below) = refl
same_all f g t h constant (array n below) = ap (repeated n) (same_all f g t h constant below)
same_all f g t h constant (plain other c v) = refl

pub earlier : (t : Typed) (node : ℕ) → IsTyped t → All (λ row. IsBefore node (type_at t.shapes row)) (slice_index_or t.members node [])
earlier t node typed = or_default (λ rows. All (λ row. IsBefore node (type_at t.shapes row)) rows) t.members node [] (λ rows is. typed.members_before node rows is) (λ k d lt. absurd (omega (arith, lt)))

-- a number above the structure's node is enough
fuel : (t : Typed) → IsTyped t → (m k node : ℕ) → node < m → node < k → (constant : Bool) → structure_cells m t constant node ≡ structure_cells k t constant node
fuel t typed zero k node a b constant = absurd (omega (arith, a))
fuel t typed (suc m) zero node a b constant = absurd (omega (arith, b))
fuel t typed (suc m) (suc k) node a b constant =
    flat_map_same (λ row. cells_with (structure_cells m t) t constant (type_at t.shapes row)) (λ row. cells_with (structure_cells k t) t constant (type_at t.shapes row))
    (slice_index_or t.members node [])
    (λ i d lt. same_before (structure_cells m t) (structure_cells k t) t node
    (λ c j before. fuel t typed m k j (omega (arith, a, before)) (omega (arith, b, before)) c)
    constant (type_at t.shapes (slice_index_or (slice_index_or t.members node []) i d)) (earlier t node typed i d lt))

-- ---- constant objects

sealed_twice : (cells : List (Scalar × Guard)) → map sealed (map sealed cells) ≡ map sealed cells
sealed_twice [] = refl
sealed_twice (own ∷ cells) = ap (λ r. sealed own ∷ r) (sealed_twice cells)

struct_sealed : (f : Bool → ℕ → List (Scalar × Guard)) (j : ℕ) (c : Bool) → f true j ≡ map sealed (f false j) → f true j ≡ map sealed (f c j)
struct_sealed f j false h = h
struct_sealed f j true h = h ∙ sym (sealed_twice (f false j)) ∙ ap (map sealed) (sym h)

cells_sealed : (f : Bool → ℕ → List (Scalar × Guard)) (t : Typed) → ((j : ℕ) → f true j ≡ map sealed (f false j)) → (type : Qualified)
    → cells_with f t true type ≡ map sealed (cells_with f t false type)
cells_sealed f t h (plain (Int kind) c v) = refl
cells_sealed f t h (plain (Struct inner) c v) = struct_sealed f inner c (h inner)
cells_sealed f t h (pointer c v below) = refl
cells_sealed f t h (array n below) = ap (repeated n) (cells_sealed f t h below) ∙ sym (map_repeated sealed n (cells_with f t false below))
cells_sealed f t h (plain other c v) = refl

structure_sealed : (t : Typed) (m node : ℕ) → structure_cells m t true node ≡ map sealed (structure_cells m t false node)
structure_sealed t zero node = refl
structure_sealed t (suc m) node =
    flat_map_same (λ row. cells_with (structure_cells m t) t true (type_at t.shapes row)) (λ row. map sealed (cells_with (structure_cells m t) t false (type_at t.shapes row)))
    (slice_index_or t.members node []) (λ i d lt. cells_sealed (structure_cells m t) t (structure_sealed t m) (type_at t.shapes (slice_index_or (slice_index_or t.members node []) i d)))
    ∙ sym (map_flat_map sealed (λ row. cells_with (structure_cells m t) t false (type_at t.shapes row)) (slice_index_or t.members node []))

-- a list of structures' cells serves for those that it has
look_is : (structures : List (List (Scalar × Guard))) (t : Typed) (j : ℕ) → slice_index_or structures j [] ≡ structure_cells (length t.nodes) t false j
    → (c : Bool) → looked_up structures c j ≡ structure_cells (length t.nodes) t c j
look_is structures t j h false = h
look_is structures t j h true = ap (map sealed) h ∙ sym (structure_sealed t (length t.nodes) j)

pub shape_is : (structures : List (List (Scalar × Guard))) (t : Typed) (type : Qualified) → AreStructures t structures
    → cells_with (looked_up structures) t false type ≡ shape_of t type
shape_is structures t type h =
    same_all (looked_up structures) (structure_cells (length t.nodes) t) t (λ c j. look_is structures t j (h j) c) false type

-- the cells of a structure's members, by those of all structures before it
pub members_are : (structures : List (List (Scalar × Guard))) (t : Typed) (node : ℕ) → IsTyped t → node < length t.nodes
    → ((j : ℕ) → j < node → slice_index_or structures j [] ≡ structure_cells (length t.nodes) t false j)
    → flat_map (λ row. cells_with (looked_up structures) t false (type_at t.shapes row)) (slice_index_or t.members node [])
    ≡ structure_cells (length t.nodes) t false node
members_are structures t node typed lt h =
    flat_map_same (λ row. cells_with (looked_up structures) t false (type_at t.shapes row))
    (λ row. cells_with (structure_cells (length t.nodes) t) t false (type_at t.shapes row)) (slice_index_or t.members node [])
    (λ i d within. same_before (looked_up structures) (structure_cells (length t.nodes) t) t node (λ c j before. look_is structures t j (h j before) c)
    false (type_at t.shapes (slice_index_or (slice_index_or t.members node []) i d)) (earlier t node typed i d within))
    ∙ fuel t typed (suc (length t.nodes)) (length t.nodes) node (omega (arith, lt)) lt false

-- what is no node has no members
pub no_cells : (m : ℕ) (t : Typed) (node : ℕ) → slice_index_or t.members node [] ≡ [] → structure_cells m t false node ≡ []
no_cells zero t node h = refl
no_cells (suc m) t node h = ap (flat_map (λ row. cells_with (structure_cells m t) t false (type_at t.shapes row))) h

-- ---- arrays

by_elements : (f : Bool → ℕ → List (Scalar × Guard)) (t : Typed) (type : Qualified)
    → cells_with f t false type ≡ repeated (count_of type) (cells_with f t false (element_of type))
by_elements f t (plain of c v) = sym (repeated_one (cells_with f t false (plain of c v)))
by_elements f t (pointer c v below) = sym (repeated_one (cells_with f t false (pointer c v below)))
by_elements f t (array n below) =
    ap (repeated n) (by_elements f t below) ∙ sym (repeated_product n (count_of below) (cells_with f t false (element_of below)))

single_is : (f : Bool → ℕ → List (Scalar × Guard)) (t : Typed) (of : CType) (c v : Bool) → IsSingle of
    → single_cells f t of c ≡ cells_with f t false (type_by of c v (type_at t.shapes))
single_is f t (Int kind) c v s = refl
single_is f t (Pointer below) c v s = refl
single_is f t (Struct node) c v s = refl
single_is f t (Array row n) c v s = absurd s
single_is f t other c v s = refl

-- the cells of a type by those of its elements
pub cells_are : (f : Bool → ℕ → List (Scalar × Guard)) (t : Typed) (type : Qualified) (of : CType) (c v : Bool) → IsSingle of
    → type_by of c v (type_at t.shapes) ≡ element_of type → repeated (count_of type) (single_cells f t of c) ≡ cells_with f t false type
cells_are f t type of c v s e =
    ap (repeated (count_of type)) (single_is f t of c v s ∙ ap (cells_with f t false) e) ∙ sym (by_elements f t type)

-- ---- volatile

pub volatile_element : (type : Qualified) → is_volatile type ≡ is_volatile (element_of type)
volatile_element (plain of c v) = refl
volatile_element (pointer c v below) = refl
volatile_element (array n below) = volatile_element below

pub volatile_single : (look : ℕ → Qualified) (of : CType) (c v : Bool) → IsSingle of → is_volatile (type_by of c v look) ≡ v
volatile_single look (Array row n) c v s = absurd s
volatile_single look (Pointer below) c v s = refl
volatile_single look other c v s = refl
