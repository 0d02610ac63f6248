-- The names of declarators, from the first node on.
use Rattle.std.proofs.Common.{◌≡◌, ℕ, zero, suc, ◌<◌, ◌≤◌, ◌⊎◌, inl, inr, Bool, true, false, Option, Some, None, List, [], ◌∷◌, length, slice_get, slice_index, slice_index_or, if◌then◌else◌, refl, sym, ap, ◌∙◌, arith}
use Rattle.std.proofs.lemmas.Bool.{cases_lt}
use Rattle.std.proofs.lemmas.List.{get_or_past}
use Rattle.cr_syntax.specs.Kept.{PartsAreBelow}
use Rattle.cr_syntax.specs.declared.node.Node.{Node}
use Rattle.cr_typed.specs.declared.typed.Typed.{Typed}
use Rattle.cr_meaning_operations.specs.Operations.{kind_if, kind_at, parts_if, part_at, is_name, name_by, name_of}

-- the first part stands before its node, or is the first node of all
first_of : (ps : List ℕ) (k : ℕ) → ((i : ℕ) → i < length ps → slice_index ps i < k) → (slice_index_or ps 0 0 < k) ⊎ (slice_index_or ps 0 0 ≡ 0)
first_of [] k h = inr refl
first_of (p ∷ ps) k h = inl (h 0 (omega arith))

part_below : (t : Typed) (kept : PartsAreBelow t.nodes) (node : ℕ) → (part_at t node 0 < node) ⊎ (part_at t node 0 ≡ 0)
part_below t kept node = by (slice_get t.nodes node) refl
  where
    by : (found : Option Node) → slice_get t.nodes node ≡ found → (slice_index_or (parts_if found) 0 0 < node) ⊎ (slice_index_or (parts_if found) 0 0 ≡ 0)
    by None e = inr refl
    by (Some n) e = first_of n.parts node (kept node n e)

part_least : (t : Typed) (kept : PartsAreBelow t.nodes) (node m : ℕ) → node ≤ suc m → part_at t node 0 ≤ m
part_least t kept node m h = elim (part_below t kept node) [
  | inl below ↦ omega (arith, below, h)
  | inr first ↦ omega (arith, first)
]

if_same : (b : Bool) (x y z : ℕ) → y ≡ z → (if b then x else y) ≡ (if b then x else z)
if_same b x y z e = ap (λ r. if b then x else r) e

if_none : (b : Bool) (n : ℕ) → (if b then n else n) ≡ n
if_none true n = refl
if_none false n = refl

first_name : (t : Typed) (kept : PartsAreBelow t.nodes) (m : ℕ) → name_by m t 0 ≡ 0
first_name t kept zero = refl
first_name t kept (suc m) =
    let p : part_at t 0 0 ≡ 0 = elim (part_below t kept 0) [ inl below ↦ omega (arith, below) | inr first ↦ first ] in
    if_same (is_name (kind_at t 0)) 0 (name_by m t (part_at t 0 0)) 0 (ap (name_by m t) p ∙ first_name t kept m) ∙ if_none (is_name (kind_at t 0)) 0

enough : (t : Typed) (kept : PartsAreBelow t.nodes) (m k node : ℕ) → node ≤ m → node ≤ k → name_by m t node ≡ name_by k t node
enough t kept zero k node a b = let e : node ≡ 0 = omega (arith, a) in rw e (sym (first_name t kept k))
enough t kept (suc m) zero node a b = let e : node ≡ 0 = omega (arith, b) in rw e (first_name t kept (suc m))
enough t kept (suc m) (suc k) node a b =
    if_same (is_name (kind_at t node)) node (name_by m t (part_at t node 0)) (name_by k t (part_at t node 0))
    (enough t kept m k (part_at t node 0) (part_least t kept node m a) (part_least t kept node k b))

pub name_is : (t : Typed) (kept : PartsAreBelow t.nodes) (node : ℕ) → node < length t.nodes → name_of t node ≡ (if is_name (kind_at t node) then node else name_of t (part_at t node 0))
name_is t kept node lt = by (length t.nodes) lt
  where
    by : (n : ℕ) → node < n → name_by n t node ≡ (if is_name (kind_at t node) then node else name_by n t (part_at t node 0))
    by zero h = absurd (omega (arith, h))
    by (suc n) h = if_same (is_name (kind_at t node)) node (name_by n t (part_at t node 0)) (name_by (suc n) t (part_at t node 0))
        (let p = part_least t kept node n (omega (arith, h)) in enough t kept n (suc n) (part_at t node 0) p (omega (arith, p)))

pub name_here : (t : Typed) (kept : PartsAreBelow t.nodes) (node : ℕ) → node < length t.nodes → is_name (kind_at t node) ≡ true → name_of t node ≡ node
name_here t kept node lt e = name_is t kept node lt ∙ ap (λ b. if b then node else name_of t (part_at t node 0)) e

pub name_behind : (t : Typed) (kept : PartsAreBelow t.nodes) (node : ℕ) → node < length t.nodes → is_name (kind_at t node) ≡ false → name_of t node ≡ name_of t (part_at t node 0)
name_behind t kept node lt e = name_is t kept node lt ∙ ap (λ b. if b then node else name_of t (part_at t node 0)) e

-- the names that are known serve for a node's first part
pub part_known : (t : Typed) (kept : PartsAreBelow t.nodes) (names : List ℕ) (node : ℕ) → length names ≡ node → ((k : ℕ) → k < node → slice_index_or names k 0 ≡ name_of t k)
    → slice_index_or names (part_at t node 0) 0 ≡ name_of t (part_at t node 0)
part_known t kept names node e h = elim (part_below t kept node) [
  | inl below ↦ h (part_at t node 0) below
  | inr first ↦ rw first (by names node e h)
]
  where
    by : (xs : List ℕ) (n : ℕ) → length xs ≡ n → ((k : ℕ) → k < n → slice_index_or xs k 0 ≡ name_of t k) → slice_index_or xs 0 0 ≡ name_of t 0
    by [] n f g = sym (first_name t kept (length t.nodes))
    by (x ∷ xs) n f g = g 0 (omega (arith, f))

-- what is no node
pub name_beyond : (t : Typed) (kept : PartsAreBelow t.nodes) (node : ℕ) → 0 < length t.nodes → slice_get t.nodes node ≡ None → name_of t node ≡ 0
name_beyond t kept node some none = by (length t.nodes) some
  where
    by : (n : ℕ) → 0 < n → name_by n t node ≡ 0
    by zero h = absurd (omega (arith, h))
    by (suc n) h = ap (λ found. if is_name (kind_if found) then node else name_by n t (slice_index_or (parts_if found) 0 0)) none ∙ first_name t kept n

none_past : {X : Type 0} (xs : List X) (k : ℕ) → length xs ≤ k → slice_get xs k ≡ None
none_past [] k h = refl
none_past (x ∷ xs) zero h = absurd (omega (arith, h))
none_past (x ∷ xs) (suc k) h = none_past xs k (omega (arith, h))

pub names_all : (t : Typed) (kept : PartsAreBelow t.nodes) (names : List ℕ) → 0 < length t.nodes → length names ≡ length t.nodes
    → ((k : ℕ) → k < length t.nodes → slice_index_or names k 0 ≡ name_of t k) → (node : ℕ) → slice_index_or names node 0 ≡ name_of t node
names_all t kept names some count each node = elim (cases_lt node (length t.nodes)) [
  | inl there ↦ each node there
  | inr past ↦ get_or_past names node 0 (omega (arith, count, past)) ∙ sym (name_beyond t kept node some (none_past t.nodes node past))
]
