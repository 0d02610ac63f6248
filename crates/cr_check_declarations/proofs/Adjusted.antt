-- Rows of parameters and members.
use Rattle.std.proofs.Common.{◌≡◌, ℕ, zero, suc, ◌+◌, ◌<◌, ◌∷◌, [], ◌++◌, List, Result, Ok, Err, IfOk, length, map, take, slice_index_or, refl, sym, ap, subst, ◌∙◌, arith}
use Rattle.std.specs.List.{flat_map}
use Rattle.std.proofs.Math.Seq.{take-suc}
use Rattle.std.proofs.lemmas.List.{map-append}
use Rattle.cr_check_types.specs.declared.shape.Shape.{Shape}
use Rattle.cr_check_types.specs.Types.{Qualified, type_at, IsRow, Grows}
use Rattle.cr_check_types.specs.Relations.{AreRows}
use Rattle.cr_check_declarators.specs.Functions.{adjusted_type}
use Rattle.cr_check_declarations.specs.declared.before.Columns.{Columns}
use Rattle.cr_syntax.specs.declared.node.Node.{Node}
use Rattle.cr_check_expressions.specs.declared.known.Member.{Member}
use Rattle.cr_check_declarations.specs.Before.{before_at, rows_of, AreColumns}
use Rattle.cr_check_declarations.specs.Named.{member_of}

pub types_kept : (old new : List Shape) (rows : List ℕ) → Grows old new → AreRows old rows → map (type_at new) rows ≡ map (type_at old) rows
types_kept old new [] grows h = refl
types_kept old new (row ∷ rows) grows h =
    λ s. grows.keeps row (h 0 (omega arith)) s ∷ types_kept old new rows grows (λ j low. h (suc j) (omega (arith, low))) s

pub rows_kept : (old new : List Shape) (rows : List ℕ) → Grows old new → AreRows old rows → AreRows new rows
rows_kept old new rows grows h k low =
    let l = grows.longer in
    let e = h k low in
    omega (arith, l, e)

rows_more : (new : List Shape) (rows : List ℕ) (row : ℕ) → AreRows new rows → row < length new → AreRows new (rows ++ row ∷ [])
rows_more new [] row h within zero low = within
rows_more new [] row h within (suc k) low = absurd (let x : ⊥ = omega (arith, low) in x)
rows_more new (x ∷ xs) row h within zero low = h 0 (omega arith)
rows_more new (x ∷ xs) row h within (suc k) low = rows_more new xs row (λ j l. h (suc j) (omega (arith, l))) within k (omega (arith, low))

pub within_more : (old new : List Shape) (rows : List ℕ) (row : ℕ) → Grows old new → AreRows old rows → row < length new
    → AreRows new (rows ++ row ∷ [])
within_more old new rows row grows h within = rows_more new rows row (rows_kept old new rows grows h) within

pub types_more : (base old new : List Shape) (columns : Columns) (rows list : List ℕ) (k named row : ℕ) → AreColumns base columns
    → Grows base old → Grows old new → AreRows old rows
    → map (type_at old) rows ≡ map (λ p. adjusted_type ((before_at base columns).named p)) (take k list) → k < length list
    → type_at old named ≡ (before_at old columns).named (slice_index_or list k 0) → IsRow new row (adjusted_type (type_at old named))
    → map (type_at new) (rows ++ row ∷ []) ≡ map (λ p. adjusted_type ((before_at base columns).named p)) (take (k + 1) list)
types_more base old new columns rows list k named row h before grows within so low is made =
    let f : ℕ → Qualified = λ p. adjusted_type ((before_at base columns).named p) in
    let part = slice_index_or list k 0 in
    let e : suc k ≡ k + 1 = omega arith in
    map-append (type_at new) rows (row ∷ [])
    ∙ ap (λ xs. xs ++ type_at new row ∷ []) (types_kept old new rows grows within ∙ so)
    ∙ ap (λ x. map f (take k list) ++ x ∷ [])
    (made.is ∙ ap adjusted_type (is ∙ before.keeps (slice_index_or columns.named.now part 0) (h.named part)))
    ∙ sym (map-append f (take k list) (part ∷ []))
    ∙ ap (map f) (sym (take-suc list k 0 low))
    ∙ ap (λ n. map f (take n list)) e

-- ---- members

rows_of_map : (shapes : List Shape) (columns : Columns) (nodes : List Node) (names ps : List ℕ) → AreColumns shapes columns
    → AreRows shapes (rows_of (map (member_of nodes names columns.named.now) ps))
rows_of_map shapes columns nodes names [] h k low = absurd (let x : ⊥ = omega (arith, low) in x)
rows_of_map shapes columns nodes names (p ∷ ps) h zero low = h.named p
rows_of_map shapes columns nodes names (p ∷ ps) h (suc k) low = rows_of_map shapes columns nodes names ps h k (omega (arith, low))

rows_joined : (shapes : List Shape) (xs ys : List Member) → AreRows shapes (rows_of xs) → AreRows shapes (rows_of ys)
    → AreRows shapes (rows_of (xs ++ ys))
rows_joined shapes [] ys h l k low = l k low
rows_joined shapes (x ∷ xs) ys h l zero low = h 0 (omega arith)
rows_joined shapes (x ∷ xs) ys h l (suc k) low = rows_joined shapes xs ys (λ j m. h (suc j) (omega (arith, m))) l k (omega (arith, low))

rows_of_all : (shapes : List Shape) (columns : Columns) (ps : List ℕ) → AreColumns shapes columns
    → AreRows shapes (rows_of (flat_map (λ p. slice_index_or columns.members.now p []) ps))
rows_of_all shapes columns [] h k low = absurd (let x : ⊥ = omega (arith, low) in x)
rows_of_all shapes columns (p ∷ ps) h k low = rows_joined shapes (slice_index_or columns.members.now p [])
    (flat_map (λ q. slice_index_or columns.members.now q []) ps) (h.members p) (rows_of_all shapes columns ps h) k low

pub declared_within : (shapes : List Shape) (columns : Columns) (nodes : List Node) (names ps : List ℕ) (ms : List Member)
    → ms ≡ map (member_of nodes names columns.named.now) ps → AreColumns shapes columns → AreRows shapes (rows_of ms)
declared_within shapes columns nodes names ps ms is h =
    subst (λ xs. AreRows shapes (rows_of xs)) (sym is) (rows_of_map shapes columns nodes names ps h)

all_within : (shapes : List Shape) (columns : Columns) (ps : List ℕ) (ms : List Member)
    → ms ≡ flat_map (λ p. slice_index_or columns.members.now p []) ps → AreColumns shapes columns → AreRows shapes (rows_of ms)
all_within shapes columns ps ms is h = subst (λ xs. AreRows shapes (rows_of xs)) (sym is) (rows_of_all shapes columns ps h)

pub all_within_if : {E : Type 0} → (columns : Columns) (ps : List ℕ) (r : Result (List Member) E)
    → IfOk r (λ ms. ms ≡ flat_map (λ p. slice_index_or columns.members.now p []) ps)
    → IfOk r (λ ms. (shapes : List Shape) → AreColumns shapes columns → AreRows shapes (rows_of ms))
all_within_if columns ps (Ok ms) is = λ shapes h. all_within shapes columns ps ms is h
all_within_if columns ps (Err e) is = tt
