-- The levels of the passes, by what their nodes count.
use Rattle.std.proofs.Common.{◌≡◌, ℕ, zero, suc, ◌+◌, ◌-◌, ◌≤◌, List, [], ◌∷◌, Some, length, take, drop, slice_get, ap, subst, arith}
use Rattle.std.specs.Prelude.{slice_index_or}
use Rattle.std.specs.List.{flat_map, sum_by}
use Rattle.std.proofs.lemmas.List.{length-drop, length-map, length-take}
use Rattle.std.proofs.lemmas.List.Concat.{length-flat_map}
use Rattle.std.proofs.lemmas.List.Sums.{sum_by-cons}
use Rattle.cr_tokens.specs.declared.token.Token.{Token}
use Rattle.cr_syntax.specs.declared.node.Node.{Node}
use Rattle.cr_syntax.specs.Tables.{side_of}
use Rattle.cr_syntax_nodes.specs.Nodes.{IsUpTo, most}
use Rattle.cr_syntax_nodes.proofs.Counts.{counted, row_counted}
use Rattle.pass_edit.specs.declared.change.Change.{Change}
use Rattle.pass_edit.specs.declared.change.Text.{Text}
use Rattle.pass_levels.specs.declared.counted.Counted.{Counted}
use Rattle.pass_levels.specs.Level.{level_of}
use Rattle.pass_levels.specs.Nodes.{each_becoming, in_its_place}
use Rattle.pass_widths.specs.Few.{AreOfUnit}
use Rattle.pass_widths.proofs.Counted.{level_counts}
use Rattle.pass_widths.proofs.Credits.{credit, credit_of}
use Rattle.pass_widths.proofs.Own.{own}
use Rattle.pass_widths.proofs.Paid.{IsMadeNode, made_wide, own_paid, unit_paid}
use Rattle.pass_widths.proofs.Rows.{at_is, parts_within}

-- each of these levels has so many edits at the most
abbrev pub EachFew : ℕ → List (List (List Change)) → Type 0
EachFew most [] = Unit {0}
EachFew most (level ∷ levels) = (length level ≤ most) × EachFew most levels

pub levels_few : (most : ℕ) (levels : List (List (List Change))) → EachFew most levels → (level : ℕ) → length (slice_index_or levels level []) ≤ most
levels_few most [] few level = omega arith
levels_few most (l ∷ ls) few zero = few.0
levels_few most (l ∷ ls) few (suc level) = levels_few most ls few.1 level

-- a level is few where each node's edits are no more than its own tokens
pub by_own : {count : ℕ} {nodes : List Node} {items : List ℕ} (u : AreOfUnit count nodes items) (gives : ℕ → List Counted)
    → ((k : ℕ) (n : Node) → slice_get nodes k ≡ Some n → IsMadeNode u.lexemes u.limit nodes n → length (gives k) ≤ own (side_of n.kind)) → length (level_of gives (length nodes)) ≤ count
by_own {nodes = nodes} u gives few =
    let all = level_counts gives (length nodes) in let paid = own_paid u (λ k. length (gives k)) few in omega (arith, all, paid)

-- and where those and what it saves are paid for by these and what its parts save
pub by_credit : {count : ℕ} {nodes : List Node} {items : List ℕ} (u : AreOfUnit count nodes items) (gives : ℕ → List Counted)
    → ((k : ℕ) (n : Node) → slice_get nodes k ≡ Some n → IsMadeNode u.lexemes u.limit nodes n → length (gives k) + credit_of n ≤ own (side_of n.kind) + sum_by (credit nodes) n.parts)
    → length (level_of gives (length nodes)) ≤ count
by_credit {nodes = nodes} u gives few =
    let all = level_counts gives (length nodes) in
    let paid = unit_paid u (λ k. length (gives k)) (credit nodes) (λ k n at made.
    let le = few k n at made in let wide = made_wide nodes n made in let same = ap credit_of (at_is nodes k n at) in omega (arith, le, wide, same)) in
    omega (arith, all, paid)

-- how many parts a node has at the most
pub parts_most : {count : ℕ} {nodes : List Node} {items : List ℕ} (u : AreOfUnit count nodes items) (k : ℕ) (n : Node) → slice_get nodes k ≡ Some n
    → IsMadeNode u.lexemes u.limit nodes n → IsUpTo (most (side_of n.kind)) (length n.parts)
parts_most {nodes = nodes} u k n at made =
    subst (λ m. IsUpTo (most (side_of n.kind)) m) (row_counted nodes u.below n.parts (parts_within nodes u.below k n at)) (counted made.spells).most

pub becoming_count : (tokens : List Token) (nodes : List Node) (parts : List ℕ) (text : Text) → length (each_becoming tokens nodes parts text) ≡ length parts
becoming_count tokens nodes parts text = length-map parts _

pub in_place_count : (tokens : List Token) (nodes : List Node) (k : ℕ) (parts : List ℕ) → length (in_its_place tokens nodes k parts) ≡ length parts
in_place_count tokens nodes k parts = length-map parts _

pub front_few : (ps : List ℕ) → length (take 1 ps) ≤ 1
front_few ps = let e = length-take 1 ps in omega (arith, e)

pub last_few : (ps : List ℕ) → length (drop (length ps - 1) ps) ≤ 1
last_few ps = let e = length-drop (length ps - 1) ps in omega (arith, e)

-- at most one of each
pub each_one : {X : Type 0} (f : ℕ → List X) (ps : List ℕ) → ((p : ℕ) → length (f p) ≤ 1) → length (flat_map f ps) ≤ length ps
each_one f ps few = let e = length-flat_map f ps in let le = by ps in omega (arith, e, le)
  where
    by : (qs : List ℕ) → sum_by (λ p. length (f p)) qs ≤ length qs
    by [] = omega arith
    by (q ∷ qs) = let both = sum_by-cons (λ p. length (f p)) q qs in let here = few q in let rest = by qs in omega (arith, both, here, rest)
