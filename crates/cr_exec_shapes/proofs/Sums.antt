-- Where the members of structures stand: sums that grow with a list.
use Rattle.std.proofs.Common.{◌≡◌, ℕ, zero, suc, ◌+◌, ◌<◌, ◌≤◌, List, [], ◌∷◌, ◌++◌, length, take, slice_index_or, inl, inr, refl, sym, ap, ◌∙◌, subst, arith}
use Rattle.std.specs.Prelude.{sum_by}
use Rattle.std.proofs.lemmas.Bool.{cases_lt}
use Rattle.std.proofs.lemmas.List.{get_or_past}
use Rattle.std.proofs.Math.ListN.{get_or-append}
use Rattle.std.proofs.Math.Seq.{get_or-append_seam}
use Rattle.cr_typed.specs.declared.typed.Typed.{Typed}
use Rattle.cr_typed.specs.Typed.{row_cells}
use Rattle.cr_exec_shapes.specs.Types.{AreSums, AreOffsets}
use Rattle.cr_exec_shapes.proofs.Rows.{grown}

-- a list that grows at its end keeps what holds of each place
pub grown_all : {X : Type 0} (P : ℕ → X → Type 0) (xs : List X) (n : ℕ) (d x : X) → length xs ≡ n → ((k : ℕ) → k < n → P k (slice_index_or xs k d)) → P n x
    → (k : ℕ) → k < n + 1 → P k (slice_index_or (xs ++ x ∷ []) k d)
grown_all P xs n d x count each is k lt = elim (cases_lt k n) [
  | inl older ↦ subst (P k) (sym (get_or-append xs (x ∷ []) d k (omega (arith, count, older)))) (each k older)
  | inr newest ↦
      let here : length xs ≡ k = omega (arith, count, lt, newest) in
      subst (λ i. P i (slice_index_or (xs ++ x ∷ []) i d)) here
      (subst (P (length xs)) (sym (get_or-append_seam xs x [] d)) (subst (λ i. P i x) (sym count) is))
]

no_sums : (t : Typed) → AreSums t [] []
no_sums t zero h = refl
no_sums t (suc index) h = absurd (omega (arith, h))

-- what holds of the nodes that are there holds of all
pub offsets_all : (t : Typed) (offsets : List (List ℕ)) → length offsets ≡ length t.members
    → ((node : ℕ) → node < length offsets → AreSums t (slice_index_or t.members node []) (slice_index_or offsets node []))
    → AreOffsets t offsets
offsets_all t offsets count each node = elim (cases_lt node (length offsets)) [
  | inl there ↦ each node there
  | inr past ↦
      subst (λ members. AreSums t members (slice_index_or offsets node [])) (sym (get_or_past t.members node [] (omega (arith, count, past))))
      (subst (AreSums t []) (sym (get_or_past offsets node [] past)) (no_sums t))
]

-- with those of all members behind the others
pub sums_with_all : (t : Typed) (members sums : List ℕ) (at cells : ℕ) → at ≡ length members → length sums ≡ at
    → ((index : ℕ) → index < at → slice_index_or sums index 0 ≡ sum_by (row_cells t) (take index members)) → cells ≡ sum_by (row_cells t) (take at members)
    → AreSums t members (sums ++ cells ∷ [])
sums_with_all t members sums at cells end count each is index h =
    grown (λ k. sum_by (row_cells t) (take k members)) sums at 0 cells count each is index (omega (arith, end, h))

-- members without cells need none behind them
pub sums_of_nothing : (t : Typed) (members sums : List ℕ) (at cells : ℕ) → at ≡ length members → length sums ≡ at
    → ((index : ℕ) → index < at → slice_index_or sums index 0 ≡ sum_by (row_cells t) (take index members)) → cells ≡ sum_by (row_cells t) (take at members)
    → cells ≡ 0 → AreSums t members sums
sums_of_nothing t members sums at cells end count each is none index h = elim (cases_lt index at) [
  | inl before ↦ each index before
  | inr past ↦
      let last : at ≡ index = omega (arith, end, h, past) in
      get_or_past sums index 0 (omega (arith, count, past)) ∙ (sym none ∙ (is ∙ ap (λ k. sum_by (row_cells t) (take k members)) last))
]

take_past : (xs : List ℕ) (k : ℕ) → length xs ≤ k → take (length xs) xs ≡ take k xs
take_past [] zero h = refl
take_past [] (suc k) h = refl
take_past (x ∷ xs) zero h = absurd (omega (arith, h))
take_past (x ∷ xs) (suc k) h = ap (λ ys. x ∷ ys) (take_past xs k (omega (arith, h)))

-- the cells before a member, or those of all
pub offset_within : (t : Typed) (members sums : List ℕ) (index : ℕ) → AreSums t members sums → index < length members
    → slice_index_or sums index 0 ≡ sum_by (row_cells t) (take index members)
offset_within t members sums index are lt = are index (omega (arith, lt))

pub offset_past : (t : Typed) (members sums : List ℕ) (index : ℕ) → AreSums t members sums → length members ≤ index
    → slice_index_or sums (length members) 0 ≡ sum_by (row_cells t) (take index members)
offset_past t members sums index are past =
    are (length members) (omega arith) ∙ ap (sum_by (row_cells t)) (take_past members index past)
