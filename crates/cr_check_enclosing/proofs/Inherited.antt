-- What is set at a node changes nothing of what the nodes behind it have.
use Rattle.std.proofs.Common.{◌≡◌, ℕ, ◌<◌, ◌≤◌, List, Option, Some, None, Bool, true, false, length, nat_lt, slice_index_or, slice_set, slice_get, inl, inr, refl, sym, ap, ◌∙◌, ◌+◌, arith}
use Rattle.std.proofs.lemmas.List.{get_or-set_other, length-set}
use Rattle.std.proofs.lemmas.Grind.{get_or-set_at}
use Rattle.std.proofs.lemmas.Bool.{cases_lt, ltb-true}
use Rattle.cr_syntax.specs.declared.node.Node.{Node}
use Rattle.cr_check_enclosing.specs.declared.context.Around.{Around}
use Rattle.cr_check_enclosing.specs.Around.{outermost, inside_if, below}

-- the nodes from the given one on have what they have
pub record AreFrom (nodes : List Node) (above : List (Option ℕ)) (around : List Around) (from : ℕ) : Type 0 where
  pub count : length around ≡ length nodes
  pub each : (part : ℕ) → from ≤ part → part < length nodes
      → slice_index_or around part outermost ≡ below nodes (λ p. slice_index_or around p outermost) part (slice_index_or above part None)

-- the look-up is asked behind the node alone
same_by : (b : Bool) (nodes : List Node) (f g : ℕ → Around) (part above : ℕ) → nat_lt part above ≡ b
    → ((p : ℕ) → part < p → f p ≡ g p) → below nodes f part (Some above) ≡ below nodes g part (Some above)
same_by true nodes f g part above e h = rw e (ap (inside_if (slice_get nodes above) above) (h above (ltb-true part above e)))
same_by false nodes f g part above e h = rw e refl

same_below : (nodes : List Node) (f g : ℕ → Around) (part : ℕ) (above : Option ℕ)
    → ((p : ℕ) → part < p → f p ≡ g p) → below nodes f part above ≡ below nodes g part above
same_below nodes f g part None h = refl
same_below nodes f g part (Some above) h = same_by (nat_lt part above) nodes f g part above refl h

-- one node more
pub more : (nodes : List Node) (above : List (Option ℕ)) (around : List Around) (from part : ℕ) (found : Around)
    → AreFrom nodes above around from → from ≡ part + 1 → from ≤ length nodes
    → found ≡ below nodes (λ p. slice_index_or around p outermost) part (slice_index_or above part None)
    → AreFrom nodes above (slice_set around part found) part
more nodes above around from part found h e l f = record {
  count = length-set around part found ∙ h.count;
  each = λ k low lt. elim (cases_lt part k) [
    | inl behind ↦
        get_or-set_other around part k found outermost (omega (arith, behind))
        ∙ h.each k (omega (arith, behind)) lt
        ∙ same_below nodes _ _ k (slice_index_or above k None) (λ p b. sym (get_or-set_other around part p found outermost (omega (arith, behind))))
    | inr here ↦
        let is : k ≡ part = omega arith in
        let c = h.count in
        get_or-set_at around part k found outermost is (omega arith)
        ∙ f
        ∙ rw is (same_below nodes _ _ part (slice_index_or above part None) (λ p b. sym (get_or-set_other around part p found outermost (omega (arith, b)))))
  ];
}
