-- Nodes that come to stand behind others: their trees stay, and so does what they keep.
use Rattle.std.proofs.Common.{◌≡◌, ℕ, zero, suc, ◌+◌, ◌-◌, ◌<◌, ◌≤◌, ◌==◌, Bool, true, false, cond, true≢false, List, [], ◌∷◌, ◌++◌, Some, length, map, take, drop, get_or, slice_get, ◌⊎◌, inl, inr, refl, sym, ap, subst, ◌∙◌, arith, append_assoc, length-append, reverse}
use Rattle.std.proofs.lemmas.List.{append-nil, take-append-drop, get_or-append-add, length-map, get_or-map, map-append}
use Rattle.std.proofs.lemmas.Grind.{flat_map-append}
use Rattle.std.proofs.lemmas.Bool.{eq-eqb, eqb-true, cases_lt}
use Rattle.std.proofs.lemmas.Option.{slice_get-map}
use Rattle.std.specs.Prelude.{Result, Ok, Err, OnErr, option_map}
use Rattle.cr_syntax.specs.declared.node.Node.{Node}
use Rattle.cr_syntax.specs.Kept.{PartsAreBelow, AreBelow, AreWithin, NamedOnce, ItemsAreNodes}
use Rattle.cr_syntax.specs.Trees.{Trees, none, one, row_of, tree_of, grown, trees_of}
use Rattle.cr_syntax_order.specs.Listed.{AreListed, no_node, one_more}
use Rattle.cr_syntax_order.proofs.Listings.{joined, among}
use Rattle.cr_exprs.specs.Behind.{numbers_behind, node_behind, nodes_behind}
use Rattle.cr_exprs_descent.specs.Loose.{AreKept}
use Rattle.cr_exprs_descent.specs.Answers.{Keeps, IsPlaced, tree}
use Rattle.cr_exprs_descent.proofs.Nodes.{grown_length, get_front, get_past, below_front}
use Rattle.cr_exprs_descent.proofs.Loose.{names, times, times_append, times_other, times_out, names_below, differs, kept_none, before_same, turned_last}

-- trees

tree_behind : (a b : List Trees) (k : ℕ) → get_or (a ++ b) (k + length a) none ≡ get_or b k none
tree_behind a b k = let e : k + length a ≡ length a + k = omega arith in rw e (get_or-append-add a b k none)

row_behind : (a b : List Trees) (ps : List ℕ) → row_of (a ++ b) (numbers_behind (length a) ps) ≡ row_of b ps
row_behind a b [] = refl
row_behind a b (p ∷ ps) = rw (tree_behind a b p, row_behind a b ps) refl

grown_behind : (ms : List Node) (a b : List Trees) → grown (a ++ b) (nodes_behind (length a) ms) ≡ a ++ grown b ms
grown_behind [] a b = refl
grown_behind (m ∷ ms) a b =
    let here : tree_of (a ++ b) (node_behind (length a) m) ≡ tree_of b m = ap (one m.kind m.first (m.last + 1)) (row_behind a b m.parts) in
    let next : (a ++ b) ++ tree_of (a ++ b) (node_behind (length a) m) ∷ [] ≡ a ++ (b ++ tree_of b m ∷ []) = ap (λ x. (a ++ b) ++ x ∷ []) here ∙ append_assoc a b (tree_of b m ∷ []) in
    ap (λ x. grown x (nodes_behind (length a) ms)) next ∙ grown_behind ms a (b ++ tree_of b m ∷ [])

grown_append : (ns ms : List Node) (made : List Trees) → grown made (ns ++ ms) ≡ grown (grown made ns) ms
grown_append [] ms made = refl
grown_append (n ∷ ns) ms made = grown_append ns ms (made ++ tree_of made n ∷ [])

pub same_tree_behind : (old more : List Node) (k : ℕ) → tree (old ++ nodes_behind (length old) more) (k + length old) ≡ tree more k
unfolding trees_of
same_tree_behind old more k =
    let len : length old ≡ length (grown [] old) = omega (arith, grown_length old []) in
    let all : grown (grown [] old) (nodes_behind (length (grown [] old)) more) ≡ grown [] old ++ grown [] more = ap (λ x. grown x (nodes_behind (length (grown [] old)) more)) (sym (append-nil (grown [] old))) ∙ grown_behind more (grown [] old) [] in
    rw (grown_append old (nodes_behind (length old) more) [], len, all) (tree_behind (grown [] old) (grown [] more) k)

-- numbers

same_as : (p j b : ℕ) (t : Bool) → (p == j) ≡ t → ((p + b) == (j + b)) ≡ t
same_as p j b true q = eq-eqb (p + b) (j + b) (ap (λ x. x + b) (eqb-true p j q))
same_as p j b false q = differs (p + b) (j + b) ((p + b) == (j + b)) refl (λ e. absurd (true≢false (sym (eq-eqb p j (omega arith)) ∙ q)))

times_behind : (b j : ℕ) (ps : List ℕ) → times (numbers_behind b ps) (j + b) ≡ times ps j
times_behind b j [] = refl
times_behind b j (p ∷ ps) =
    let here : times ((p + b) ∷ []) (j + b) ≡ times (p ∷ []) j = ap (λ t. 0 + cond t 1 0) (same_as p j b (p == j) refl) in
    let rest = times_behind b j ps in
    omega (arith, here, rest, times_append ((p + b) ∷ []) (numbers_behind b ps) (j + b), times_append (p ∷ []) ps j)

times_before : (b k : ℕ) (ps : List ℕ) → k < b → times (numbers_behind b ps) k ≡ 0
times_before b k [] lt = refl
times_before b k (p ∷ ps) lt =
    let here = times_other (p + b) k (λ q. omega arith) in
    let rest = times_before b k ps lt in
    omega (arith, times_append ((p + b) ∷ []) (numbers_behind b ps) k, here, rest)

names_behind : (b : ℕ) (ms : List Node) → names (nodes_behind b ms) ≡ numbers_behind b (names ms)
names_behind b [] = refl
names_behind b (m ∷ ms) = ap (λ x. numbers_behind b m.parts ++ x) (names_behind b ms) ∙ sym (map-append (λ p. p + b) m.parts (names ms))

-- a node that stands behind so many others
record IsBehind (ms : List Node) (b k : ℕ) (n : Node) : Type 0 where
  at : ℕ
  before : Node
  place : k ≡ at + b
  stands : slice_get ms at ≡ Some before
  is : node_behind b before ≡ n

behind_one : (ms : List Node) (b k : ℕ) (n : Node) → slice_get (nodes_behind b ms) k ≡ Some n → IsBehind ms b (k + b) n
behind_one [] b k n q = absurd cc
behind_one (m ∷ ms) b zero n q = record { at = 0; before = m; place = refl; stands = refl; is = cc }
behind_one (m ∷ ms) b (suc k) n q = let w = behind_one ms b k n q in record { at = suc w.at; before = w.before; place = omega (arith, w.place); stands = w.stands; is = w.is }

-- a node of two lists is one of the first, or stands behind them
node_of : (os ns : List Node) (k : ℕ) (n : Node) → slice_get (os ++ ns) k ≡ Some n → (slice_get os k ≡ Some n) ⊎ ((j : ℕ) × ((k ≡ j + length os) × (slice_get ns j ≡ Some n)))
node_of [] ns k n q = inr (k, (omega arith, q))
node_of (o ∷ os) ns zero n q = inl q
node_of (o ∷ os) ns (suc k) n q = elim (node_of os ns k n q) as (λ _. (slice_get (o ∷ os) (suc k) ≡ Some n) ⊎ ((j : ℕ) × ((suc k ≡ j + suc (length os)) × (slice_get ns j ≡ Some n)))) [
  | inl h ↦ inl h
  | inr w ↦ inr (w.0, (omega (arith, w.1.0), w.1.1))
]

one_of : (old more : List Node) (k : ℕ) (n : Node) → slice_get (old ++ nodes_behind (length old) more) k ≡ Some n → (slice_get old k ≡ Some n) ⊎ IsBehind more (length old) k n
one_of old more k n q = elim (node_of old (nodes_behind (length old) more) k n q) as (λ _. (slice_get old k ≡ Some n) ⊎ IsBehind more (length old) k n) [
  | inl h ↦ inl h
  | inr w ↦ inr (subst (λ x. IsBehind more (length old) x n) (sym w.1.0) (behind_one more (length old) w.0 n w.1.1))
]

pub below_behind : (old more : List Node) → PartsAreBelow old → PartsAreBelow more → PartsAreBelow (old ++ nodes_behind (length old) more)
below_behind old more f g k n q = elim (one_of old more k n q) as (λ _. AreBelow n.parts k) [
  | inl h ↦ f k n h
  | inr w ↦ subst (λ (x : Node). AreBelow x.parts k) w.is (λ i lt.
      let inside : i < length w.before.parts = omega (arith, lt, length-map w.before.parts (λ p. p + length old)) in
      let lower = g w.at w.before w.stands i inside in
      omega (arith, lower, w.place, get_or-map (λ p. p + length old) w.before.parts i 0 0 inside))
]

within_behind : (tokens : ℕ) (old more : List Node) → AreWithin tokens old → AreWithin tokens more → AreWithin tokens (old ++ nodes_behind (length old) more)
within_behind tokens old more f g k n q = elim (one_of old more k n q) as (λ _. (n.first ≤ n.last) × (n.last < tokens)) [
  | inl h ↦ f k n h
  | inr w ↦ subst (λ (x : Node). (x.first ≤ x.last) × (x.last < tokens)) w.is (g w.at w.before w.stands)
]

length_behind : (old more : List Node) → length (old ++ nodes_behind (length old) more) ≡ length old + length more
length_behind old more = omega (arith, length-append old (nodes_behind (length old) more), length-map more (node_behind (length old)))

once_behind : (old more : List Node) (x : ℕ) (loose : List ℕ) → PartsAreBelow old → NamedOnce old loose → ItemsAreNodes old loose → NamedOnce more (x ∷ []) → NamedOnce (old ++ nodes_behind (length old) more) ((x + length old) ∷ loose)
once_behind old more x loose f once are own k lt =
    let b = length old in
    let all : names (old ++ nodes_behind b more) ≡ names old ++ numbers_behind b (names more) = flat_map-append (λ n. n.parts) old (nodes_behind b more) ∙ ap (λ y. names old ++ y) (names_behind b more) in
    let sum = times_append (names (old ++ nodes_behind b more)) ((x + b) ∷ loose) k in
    let whole : times (names (old ++ nodes_behind b more)) k ≡ times (names old ++ numbers_behind b (names more)) k = ap (λ y. times y k) all in
    let parts = times_append (names old) (numbers_behind b (names more)) k in
    let top = times_append ((x + b) ∷ []) loose k in
    elim (cases_lt k b) as (λ _. times (names (old ++ nodes_behind b more) ++ (x + b) ∷ loose) k ≡ 1) [
      | inl l ↦
          let mine = once k l in
          let split = times_append (names old) loose k in
          let none = times_before b k (names more) l in
          let last = times_before b k (x ∷ []) l in
          omega arith
      | inr le ↦
          let j = k - b in
          let at : k ≡ j + b = omega arith in
          let none = names_below old k f le in
          let out = times_out loose b k are le in
          let mine = own j (omega (arith, lt, length_behind old more)) in
          let split = times_append (names more) (x ∷ []) j in
          let moved : times (numbers_behind b (names more)) k ≡ times (names more) j = subst (λ y. times (numbers_behind b (names more)) y ≡ times (names more) j) (sym at) (times_behind b j (names more)) in
          let last : times ((x + b) ∷ []) k ≡ times (x ∷ []) j = subst (λ y. times ((x + b) ∷ []) y ≡ times (x ∷ []) j) (sym at) (times_behind b j (x ∷ [])) in
          omega arith
    ]

items_behind : (old more : List Node) (x : ℕ) (loose : List ℕ) → ItemsAreNodes old loose → x < length more → ItemsAreNodes (old ++ nodes_behind (length old) more) ((x + length old) ∷ loose)
items_behind old more x loose are lt zero l = omega (arith, length_behind old more)
items_behind old more x loose are lt (suc i) l = let h = are i (omega arith) in omega (arith, h, length_behind old more)

-- order
at_behind : (old more : List Node) (p : ℕ) (n : Node) → slice_get more p ≡ Some n → slice_get (old ++ nodes_behind (length old) more) (p + length old) ≡ Some (node_behind (length old) n)
at_behind old more p n at =
    get_past old (nodes_behind (length old) more) p (p + length old) refl ∙ slice_get-map (node_behind (length old)) more p ∙ ap (λ x. option_map (node_behind (length old)) x) at

moved : (old more : List Node) {from end : ℕ} {ps : List ℕ} → AreListed more from ps end → AreListed (old ++ nodes_behind (length old) more) (from + length old) (numbers_behind (length old) ps) (end + length old)
moved old more no_node = no_node
moved old more (one_more {p = p} {end = end} {ps = ps} {n = n} at below rest) =
    let next : p + 1 + length old ≡ p + length old + 1 = omega arith in
    one_more {n = node_behind (length old) n} (at_behind old more p n at) (moved old more below)
    (subst (λ x. AreListed (old ++ nodes_behind (length old) more) x (numbers_behind (length old) ps) (end + length old)) next (moved old more rest))

listed_behind : (old more : List Node) (x : ℕ) (loose : List ℕ) → AreListed old 0 (reverse loose) (length old) → AreListed more 0 (x ∷ []) (length more) → AreListed (old ++ nodes_behind (length old) more) 0 (reverse ((x + length old) ∷ loose)) (length (old ++ nodes_behind (length old) more))
listed_behind old more x loose h g =
    let all = old ++ nodes_behind (length old) more in
    let before : AreListed all 0 (reverse loose) (length old) = among (λ k lt. get_front old (nodes_behind (length old) more) k lt) h in
    let first : 0 + length old ≡ length old = omega arith in
    let last : length more + length old ≡ length all = omega (arith, length_behind old more) in
    let behind : AreListed all (length old) ((x + length old) ∷ []) (length all) = subst (λ i. AreListed all i ((x + length old) ∷ []) (length all)) first (subst (λ i. AreListed all (0 + length old) ((x + length old) ∷ []) i) last (moved old more g)) in
    subst (λ ps. AreListed all 0 ps (length all)) (sym (turned_last (x + length old) loose)) (joined before behind)

kept_behind_all : (tokens : ℕ) (old more : List Node) (x : ℕ) (loose : List ℕ) → PartsAreBelow old → AreKept tokens old loose → AreKept tokens more (x ∷ []) → AreKept tokens (old ++ nodes_behind (length old) more) ((x + length old) ∷ loose)
kept_behind_all tokens old more x loose f h g = record {
  within = within_behind tokens old more h.within g.within;
  named_once = once_behind old more x loose f h.named_once h.are_nodes g.named_once;
  are_nodes = items_behind old more x loose h.are_nodes (g.are_nodes 0 (omega arith));
  listed = listed_behind old more x loose h.listed g.listed;
}

placed_behind_all : (tokens at : ℕ) (old more : List Node) (x next : ℕ) → PartsAreBelow old → IsPlaced tokens at [] more [] (record { node = x; next = next }) →
    IsPlaced tokens at old (old ++ nodes_behind (length old) more) [] (record { node = x + length old; next = next })
placed_behind_all tokens at old more x next f h = record {
  last = omega (arith, h.last, length_behind old more);
  grows = omega (arith, h.grows, length_behind old more);
  keeps = record { longer = omega (arith, length_behind old more); same = λ k lt. get_front old (nodes_behind (length old) more) k lt };
  below = below_behind old more f h.below;
  kept = λ loose k. kept_behind_all tokens old more x loose f k (h.kept [] (kept_none tokens));
  from = h.from;
  to = h.to;
}

-- what was read by itself and then put behind others was read behind them
pub placed_so : (tokens at : ℕ) (old more new : List Node) (x b y next : ℕ) → new ≡ old ++ nodes_behind b more → b ≡ length old → y ≡ x + b → PartsAreBelow old → IsPlaced tokens at [] more [] (record { node = x; next = next }) → IsPlaced tokens at old new [] (record { node = y; next = next })
placed_so tokens at old more new x b y next q l w f h =
    subst (λ z. IsPlaced tokens at old z [] (record { node = y; next = next })) (sym (q ∙ ap (λ z. old ++ nodes_behind z more) l))
    (subst (λ z. IsPlaced tokens at old (old ++ nodes_behind (length old) more) [] (record { node = z; next = next })) (sym (w ∙ ap (λ z. x + z) l)) (placed_behind_all tokens at old more x next f h))

keeps_append : (a b : List Node) → Keeps a (a ++ b)
keeps_append a b = record { longer = omega (arith, length-append a b); same = λ k lt. get_front a b k lt }

keeps_taken : (i : ℕ) (ms : List Node) → Keeps (take i ms) ms
keeps_taken i ms = subst (λ x. Keeps (take i ms) x) (take-append-drop i ms) (keeps_append (take i ms) (drop i ms))

-- where only some of the nodes were appended
pub keeps_some : (old all more : List Node) (b i : ℕ) → all ≡ old ++ nodes_behind b (take i more) → Keeps old all
keeps_some old all more b i q = subst (λ x. Keeps old x) (sym q) (keeps_append old (nodes_behind b (take i more)))

pub below_some : (old all more : List Node) (b i : ℕ) → b ≡ length old → all ≡ old ++ nodes_behind b (take i more) → PartsAreBelow old → PartsAreBelow more → PartsAreBelow all
below_some old all more b i l q f g =
    subst (λ x. PartsAreBelow x) (sym q) (subst (λ x. PartsAreBelow (old ++ nodes_behind x (take i more))) (sym l) (below_behind old (take i more) f (below_front (take i more) more (keeps_taken i more) g)))

-- nodes that are kept and as many are the same
pub same_again : (old new all : List Node) → Keeps old all → Keeps new all → length new ≡ length old → new ≡ old
same_again old new all f g q = before_same new old all q g f

-- the tree of a node that was read by itself is that of the node where it stands now
pub tree_so : (old more new : List Node) (x b y : ℕ) → new ≡ old ++ nodes_behind b more → b ≡ length old → y ≡ x + b → tree new y ≡ tree more x
tree_so old more new x b y q l w = rw (q, w, l) (same_tree_behind old more x)

-- a fact at any error
pub at_error : {A E P : Type 0} (r : Result A E) → P → OnErr r P
at_error (Ok x) p = tt
at_error (Err f) p = p
