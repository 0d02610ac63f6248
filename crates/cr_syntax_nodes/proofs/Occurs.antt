-- A node that stands somewhere in trees.
use Rattle.std.proofs.Common.{ℕ, ◌⊎◌, inl, inr}
use Rattle.cr_syntax.specs.declared.node.Kind.{Kind}
use Rattle.cr_syntax.specs.Trees.{Trees, none, node, ◌&◌}

pub data Occurs (k : Kind) (i j : ℕ) (b : Trees) : Trees → Type 0 where
  here : {n : Trees} → Occurs k i j b (node k i j b n)
  inside : {q : Kind} {x y : ℕ} {a n : Trees} → Occurs k i j b a → Occurs k i j b (node q x y a n)
  behind : {q : Kind} {x y : ℕ} {a n : Trees} → Occurs k i j b n → Occurs k i j b (node q x y a n)

pub apart : {k : Kind} {i j : ℕ} {b : Trees} (t u : Trees) → Occurs k i j b (t & u) → Occurs k i j b t ⊎ Occurs k i j b u
apart none u o = inr o
apart (node q x y a n) u here = inl here
apart (node q x y a n) u (inside o) = inl (inside o)
apart (node q x y a n) u (behind o) = elim (apart n u o) [ inl z ↦ inl (behind z) | inr z ↦ inr z ]

-- what stands in the parts of a node that stands there
pub in_parts : {k q : Kind} {i j x y : ℕ} {b a t : Trees} → Occurs k i j b a → Occurs q x y a t → Occurs k i j b t
in_parts o here = inside o
in_parts o (inside z) = inside (in_parts o z)
in_parts o (behind z) = behind (in_parts o z)

pub in_none : {k : Kind} {i j : ℕ} {b : Trees} {G : Type 0} → Occurs k i j b none → G
in_none o = elim o [ ]
