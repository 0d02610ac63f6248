-- Nodes that are listed in order, where others are appended.
use Rattle.std.proofs.Common.{◌≡◌, ℕ, ◌+◌, ◌<◌, List, [], ◌∷◌, ◌++◌, Some, length, slice_get, ◌∙◌}
use Rattle.std.proofs.lemmas.Option.{slice_get_within}
use Rattle.cr_syntax.specs.declared.node.Node.{Node}
use Rattle.cr_syntax_order.specs.Listed.{AreListed, no_node, one_more}

-- a row behind another, and one that is cut in two
pub joined : {ns : List Node} {from mid end : ℕ} {ps qs : List ℕ} → AreListed ns from ps mid → AreListed ns mid qs end → AreListed ns from (ps ++ qs) end
joined no_node more = more
joined (one_more at below rest) more = one_more at below (joined rest more)

pub record IsCut (ns : List Node) (from : ℕ) (ps qs : List ℕ) (end : ℕ) : Type 0 where
  pub mid : ℕ
  pub before : AreListed ns from ps mid
  pub behind : AreListed ns mid qs end

pub cut : {ns : List Node} (ps qs : List ℕ) {from end : ℕ} → AreListed ns from (ps ++ qs) end → IsCut ns from ps qs end
cut [] qs all = record { mid = _; before = no_node; behind = all }
cut (p ∷ ps) qs (one_more at below rest) = let w = cut ps qs rest in record { mid = w.mid; before = one_more at below w.before; behind = w.behind }

-- one node more behind a row
pub behind : {ns : List Node} {from end p : ℕ} {ps : List ℕ} {n : Node} → AreListed ns from ps end → slice_get ns p ≡ Some n
    → AreListed ns end n.parts p → AreListed ns from (ps ++ p ∷ []) (p + 1)
behind before at below = joined before (one_more at below no_node)

-- the same nodes among more
pub among : {ns ms : List Node} {from end : ℕ} {ps : List ℕ} → ((k : ℕ) → k < length ns → slice_get ms k ≡ slice_get ns k) → AreListed ns from ps end
    → AreListed ms from ps end
among same no_node = no_node
among {ns} same (one_more {p = p} {n = n} at below rest) = one_more (same p (slice_get_within ns p n at) ∙ at) (among same below) (among same rest)
