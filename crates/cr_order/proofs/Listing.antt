-- The initialiser list above each node.
use Rattle.std.proofs.Common.{◌≡◌, refl, sym, ◌∙◌, ap, arith, take}
use Rattle.std.specs.Prelude.{ℕ, zero, suc, ◌+◌, ◌<◌, ◌≤◌, Option, Some, None, List, [], ◌∷◌, length, map, slice_index_or}
use Rattle.cr_check_enclosing.specs.Above.{AreAbove, above_of}
use Rattle.cr_syntax.specs.declared.node.Node.{Node}
use Rattle.cr_order.specs.Orders.{only_list, outer_from, outer_of}
use Rattle.cr_typed.specs.declared.typed.Typed.{Typed}

each_of : (nodes rest : List Node) (above : List (Option ℕ)) (number : ℕ) → length above ≡ length rest → ((k : ℕ) → k < length above → slice_index_or above k None ≡ above_of nodes (length nodes) (number + k))
    → map (only_list nodes) above ≡ outer_from nodes number rest
each_of nodes [] [] number same f = refl
each_of nodes [] (one ∷ above) number same f = absurd (omega (arith, same))
each_of nodes (node ∷ rest) [] number same f = absurd (omega (arith, same))
each_of nodes (node ∷ rest) (one ∷ above) number same f =
    let here : number + 0 ≡ number = omega arith in
    let first : one ≡ above_of nodes (length nodes) number = f 0 (omega arith) ∙ ap (above_of nodes (length nodes)) here in
    ap (λ o. only_list nodes o ∷ map (only_list nodes) above) first
    ∙ ap (λ l. only_list nodes (above_of nodes (length nodes) number) ∷ l) (each_of nodes rest above (suc number) (omega (arith, same))
    (λ k few. let next : number + suc k ≡ suc number + k = omega arith in f (suc k) (omega (arith, few)) ∙ ap (above_of nodes (length nodes)) next))

pub outer_so : (nodes : List Node) (above : List (Option ℕ)) → AreAbove nodes above → map (only_list nodes) above ≡ outer_from nodes 0 nodes
outer_so nodes above h = each_of nodes nodes above 0 h.count (λ k few. let at : k ≡ 0 + k = omega arith in h.each k (by few) ∙ ap (above_of nodes (length nodes)) at)
  where
    by : {k : ℕ} → k < length above → k < length nodes
    by few = let c = h.count in omega (arith, few, c)

take_over : {A : Type 0} (xs : List A) (k : ℕ) → length xs ≤ k → take k xs ≡ xs
take_over [] zero room = refl
take_over [] (suc k) room = refl
take_over (x ∷ xs) zero room = absurd (omega (arith, room))
take_over (x ∷ xs) (suc k) room = ap (λ l. x ∷ l) (take_over xs k (omega (arith, room)))

pub all_mapped : {A B : Type 0} (f : A → B) (xs : List A) (k : ℕ) (ys : List B) → length xs ≤ k → ys ≡ map f (take k xs) → ys ≡ map f xs
all_mapped f xs k ys past is = is ∙ ap (map f) (take_over xs k past)

pub outer_same : (t : Typed) (nodes : List Node) → nodes ≡ t.nodes → outer_from nodes 0 nodes ≡ outer_of t
outer_same t nodes e = ap (λ l. outer_from l 0 l) e
