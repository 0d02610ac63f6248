-- Lists that the definition makes from the front and the code from the back.
use Rattle.std.proofs.Common.{◌≡◌, ℕ, zero, suc, ◌+◌, ◌-◌, ◌<◌, ◌≤◌, Bool, true, false, List, [], ◌∷◌, ◌++◌, length, take, slice_get, slice_index_or, if◌then◌else◌, refl, sym, ap, ◌∙◌, arith}
use Rattle.cr_syntax.specs.declared.node.Node.{Node}
use Rattle.cr_syntax.specs.declared.node.Kind.{Kind}
use Rattle.cr_typed.specs.declared.typed.Typed.{Typed}
use Rattle.cr_meaning_operations.specs.Operations.{kind_if, ops_from, nodes_from, last_part}
use Rattle.cr_exec_table.specs.Roles.{op_at}
use Rattle.cr_exec_table.specs.Table.{one_if}

pub ops_take : (t : Typed) (nodes : List Node) (n k : ℕ) → k < length nodes
    → ops_from t n (take (k + 1) nodes) ≡ ops_from t n (take k nodes) ++ op_at t (n + k) ∷ []
unfolding op_at
ops_take t [] n k lt = absurd (omega (arith, lt))
ops_take t (x ∷ xs) n zero lt = let e : n + 0 ≡ n = omega arith in rw e refl
ops_take t (x ∷ xs) n (suc k) lt =
    let e : suc k + 1 ≡ suc (k + 1) = omega arith in
    let f : n + suc k ≡ suc n + k = omega arith in
    rw (e, f) (ap (λ r. op_at t n ∷ r) (ops_take t xs (suc n) k (omega (arith, lt))))

nodes_if : (b : Bool) (n : ℕ) (xs ys zs : List ℕ) → xs ≡ ys ++ zs → (if b then n ∷ xs else xs) ≡ (if b then n ∷ ys else ys) ++ zs
nodes_if true n xs ys zs e = ap (λ r. n ∷ r) e
nodes_if false n xs ys zs e = e

first_if : (b : Bool) (n : ℕ) → (if b then n ∷ [] else []) ≡ one_if b n
first_if true n = refl
first_if false n = refl

pub nodes_take : (test : ℕ → Kind → Bool) (nodes : List Node) (n k : ℕ) → k < length nodes
    → nodes_from test n (take (k + 1) nodes) ≡ nodes_from test n (take k nodes) ++ one_if (test (n + k) (kind_if (slice_get nodes k))) (n + k)
nodes_take test [] n k lt = absurd (omega (arith, lt))
nodes_take test (x ∷ xs) n zero lt = let e : n + 0 ≡ n = omega arith in rw e (first_if (test n x.kind) n)
nodes_take test (x ∷ xs) n (suc k) lt =
    let e : suc k + 1 ≡ suc (k + 1) = omega arith in
    let f : n + suc k ≡ suc n + k = omega arith in
    rw (e, f) (nodes_if (test n x.kind) n (nodes_from test (suc n) (take (k + 1) xs)) (nodes_from test (suc n) (take k xs)) (one_if (test (suc n + k) (kind_if (slice_get xs k))) (suc n + k))
    (nodes_take test xs (suc n) k (omega (arith, lt))))

pub ops_more : (t : Typed) (nodes : List Node) (k : ℕ) → k < length nodes → ops_from t 0 (take (k + 1) nodes) ≡ ops_from t 0 (take k nodes) ++ op_at t k ∷ []
ops_more t nodes k lt =
    let e : 0 + k ≡ k = omega arith in
    ops_take t nodes 0 k lt ∙ ap (λ n. ops_from t 0 (take k nodes) ++ op_at t n ∷ []) e

pub nodes_more : (test : ℕ → Kind → Bool) (nodes : List Node) (k : ℕ) → k < length nodes
    → nodes_from test 0 (take k nodes) ++ one_if (test k (kind_if (slice_get nodes k))) k ≡ nodes_from test 0 (take (k + 1) nodes)
nodes_more test nodes k lt =
    let e : 0 + k ≡ k = omega arith in
    sym (nodes_take test nodes 0 k lt ∙ ap (λ n. nodes_from test 0 (take k nodes) ++ one_if (test n (kind_if (slice_get nodes k))) n) e)

pub last_is : (ps : List ℕ) → 1 ≤ length ps → slice_index_or ps (length ps - 1) 0 ≡ last_part ps
last_is [] h = absurd (omega (arith, h))
last_is (p ∷ []) h = refl
last_is (p ∷ q ∷ ps) h =
    let e : length (p ∷ q ∷ ps) - 1 ≡ suc (length (q ∷ ps) - 1) = omega arith in
    ap (λ k. slice_index_or (p ∷ q ∷ ps) k 0) e ∙ last_is (q ∷ ps) (omega arith)
