-- The blocks around a node have greater numbers.
use Rattle.std.proofs.Common.{◌≡◌, ℕ, zero, suc, ◌+◌, ◌<◌, ◌≤◌, ◌⊎◌, inl, inr, Bool, true, false, Option, None, Some, List, length, nat_lt, refl, sym, ap, ◌∙◌, slice_get, slice_index_or, arith, if◌then◌else◌}
use Rattle.std.proofs.lemmas.Bool.{cases_lt, ltb-true}
use Rattle.std.proofs.lemmas.List.{get_or_past}
use Rattle.std.proofs.lemmas.Option.{slice_get_within}
use Rattle.cr_syntax.specs.declared.node.Kind.{Kind}
use Rattle.cr_syntax.specs.declared.node.Kind.TheVariants as kind
use Rattle.cr_syntax.specs.declared.node.Node.{Node}
use Rattle.cr_check_enclosing.specs.declared.context.Around.{Around}
use Rattle.cr_check_enclosing.specs.Around.{AreAround, inside, inside_if, below, outermost}

-- a node hands on its own number as a block, or the block around it
inside_block : (k : Kind) (i : ℕ) (a : Around) (c : ℕ) → (inside k i a).block ≡ Some c → (i ≡ c) ⊎ (a.block ≡ Some c)
unfolding inside
inside_block kind.FunctionDefinition i a c e = absurd (cc e)
inside_block kind.Compound i a c e = let same : i ≡ c = cc e in inl same
inside_block kind.For i a c e = inr e
inside_block k i a c e = inr e

module _ (nodes : List Node) (above : List (Option ℕ)) (around : List Around) (are : AreAround nodes above around) where
  abbrev look : ℕ → Around
  look b = slice_index_or around b outermost

  abbrev Rises : ℕ → Type 0
  Rises b = (c : ℕ) → (look b).block ≡ Some c → (b < c) × (c < length nodes)

  of_node : (b a : ℕ) (o : Option Node) → slice_get nodes a ≡ o → b < a → Rises a → (c : ℕ) → (inside_if o a (look a)).block ≡ Some c → (b < c) × (c < length nodes)
  of_node b a None at low rest c e = absurd (cc e)
  of_node b a (Some n) at low rest c e = by (inside_block n.kind a (look a) c e)
    where
      by : (a ≡ c) ⊎ ((look a).block ≡ Some c) → (b < c) × (c < length nodes)
      by (inl same) = let within = slice_get_within nodes a n at in (omega (arith, low, same), omega (arith, within, same))
      by (inr outer) = let r = rest c outer in let more = r.0 in (omega (arith, low, more), r.1)

  of_above : (b : ℕ) (o : Option ℕ) → ((a : ℕ) → o ≡ Some a → b < a → Rises a) → (c : ℕ) → (below nodes look b o).block ≡ Some c → (b < c) × (c < length nodes)
  of_above b None rest c e = absurd (cc e)
  of_above b (Some a) rest c e = by (nat_lt b a) refl e
    where
      by : (q : Bool) → nat_lt b a ≡ q → (if q then inside_if (slice_get nodes a) a (look a) else outermost).block ≡ Some c → (b < c) × (c < length nodes)
      by true q f = of_node b a (slice_get nodes a) refl (ltb-true b a q) (rest a refl (ltb-true b a q)) c f
      by false q f = absurd (cc f)

  past : (b c : ℕ) → length nodes ≤ b → (look b).block ≡ Some c → (b < c) × (c < length nodes)
  past b c far e =
      let count = are.count in
      let none : (look b).block ≡ None = ap (λ (a : Around). a.block) (get_or_past around b outermost (omega (arith, far, count))) in
      let never : None ≡ Some c = sym none ∙ e in absurd (cc never)

  rise_by : (m b : ℕ) → length nodes ≤ m + b → Rises b
  rise_by zero b far c e = past b c (omega (arith, far)) e
  rise_by (suc m) b far c e = elim (cases_lt b (length nodes)) [
    | inl low ↦ of_above b (slice_index_or above b None) (λ a is less. rise_by m a (omega (arith, far, less))) c (sym (ap (λ (a : Around). a.block) (are.each b low)) ∙ e)
    | inr far_off ↦ past b c far_off e
  ]

  pub rise : (b : ℕ) → Rises b
  rise b c e = rise_by (length nodes) b (omega arith) c e
