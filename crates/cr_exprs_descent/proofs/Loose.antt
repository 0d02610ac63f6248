-- The nodes that are loose, where nodes are appended.
use Rattle.std.proofs.Common.{◌≡◌, ℕ, zero, suc, ◌+◌, ◌-◌, ◌<◌, ◌≤◌, ◌==◌, Bool, true, false, cond, List, [], ◌∷◌, ◌++◌, Some, length, slice_get, slice_index, count_by, ◌⊎◌, inl, inr, refl, sym, ap, subst, ◌∙◌, arith, append_assoc, length-append, reverse}
use Rattle.std.proofs.lemmas.List.{reverse-append, reverse-reverse}
use Rattle.std.proofs.lemmas.List.Sums.{sum_by-append, get_or-le-sum_by}
use Rattle.std.proofs.lemmas.List.Sorted.{sum_by-IsPermutation, IsPermutation-reverse}
use Rattle.std.proofs.lemmas.Grind.{flat_map-append}
use Rattle.std.proofs.lemmas.Bool.{eq-eqb, eqb-true, cases_order}
use Rattle.std.proofs.lemmas.Option.{slice_get_within}
use Rattle.std.specs.List.{flat_map}
use Rattle.std.specs.Prelude.{Result, Ok, Err, IfOk}
use Rattle.cr_syntax.specs.declared.node.Node.{Node}
use Rattle.cr_syntax.specs.Kept.{PartsAreBelow, AreBelow, AreWithin, NamedOnce, ItemsAreNodes}
use Rattle.cr_syntax_order.specs.Listed.{AreListed, no_node}
use Rattle.cr_syntax_order.proofs.Listings.{cut, behind, among}
use Rattle.cr_exprs_descent.specs.declared.fault.ParseFault.{ParseFault}
use Rattle.cr_exprs_descent.specs.declared.found.Found.{Found}
use Rattle.cr_exprs_descent.specs.Loose.{AreKept, Replaces}
use Rattle.cr_exprs_descent.specs.Answers.{Keeps, IsPushed, IsPlaced, IsGathered, IsRegathered, IsGrown, IsRow}
use Rattle.cr_exprs_descent.proofs.Nodes.{keeps_all, keeps_none, get_front, get_past}

-- how often a number stands in a list
abbrev pub times : List ℕ → ℕ → ℕ
times ps k = count_by (λ p. p == k) ps

pub times_append : (a b : List ℕ) (k : ℕ) → times (a ++ b) k ≡ times a k + times b k
times_append a b k = sum_by-append (λ p. cond (p == k) 1 0) a b

pub times_turned : (ps : List ℕ) (k : ℕ) → times (reverse ps) k ≡ times ps k
times_turned ps k = sum_by-IsPermutation (λ p. cond (p == k) 1 0) ps (reverse ps) (IsPermutation-reverse ps)

pub differs : (a b : ℕ) (t : Bool) → (a == b) ≡ t → (a ≡ b → ⊥) → t ≡ false
differs a b true q h = absurd (h (eqb-true a b q))
differs a b false q h = refl

pub times_other : (p k : ℕ) → (p ≡ k → ⊥) → times (p ∷ []) k ≡ 0
times_other p k h = ap (λ t. 0 + cond t 1 0) (differs p k (p == k) refl h)

times_same : (p k : ℕ) → p ≡ k → times (p ∷ []) k ≡ 1
times_same p k q = ap (λ t. 0 + cond t 1 0) (eq-eqb p k q)

-- a number stands nowhere in a list whose numbers are below it, and in one where it does, once at least
pub times_out : (ps : List ℕ) (n k : ℕ) → AreBelow ps n → n ≤ k → times ps k ≡ 0
times_out [] n k h le = refl
times_out (p ∷ ps) n k h le =
    let lt : p < n = h 0 (omega arith) in
    let here = times_other p k (λ q. omega arith) in
    let rest = times_out ps n k (λ i l. h (suc i) (omega arith)) le in
    omega (arith, times_append (p ∷ []) ps k, here, rest)

times_in : (ps : List ℕ) (i k : ℕ) → i < length ps → slice_index ps i ≡ k → 1 ≤ times ps k
times_in ps i k lt q = subst (λ t. cond t 1 0 ≤ times ps k) (eq-eqb (slice_index ps i) k q) (get_or-le-sum_by (λ p. cond (p == k) 1 0) ps i 0 lt)

below_by : (ps : List ℕ) (n : ℕ) → ((k : ℕ) → n ≤ k → times ps k ≡ 0) → AreBelow ps n
below_by ps n h i lt = elim (cases_order (slice_index ps i) n) as (λ _. slice_index ps i < n) [
  | inl q ↦ absurd (let some = times_in ps i (slice_index ps i) lt refl in let none = h (slice_index ps i) (omega arith) in omega arith)
  | inr w ↦ elim w as (λ _. slice_index ps i < n) [
    | inl l ↦ l
    | inr g ↦ absurd (let some = times_in ps i (slice_index ps i) lt refl in let none = h (slice_index ps i) (omega arith) in omega arith)
  ]
]

-- the numbers that nodes name
abbrev pub names : List Node → List ℕ
names ns = flat_map (λ n. n.parts) ns

names_out : (ns : List Node) (b k : ℕ) → ((i : ℕ) (n : Node) → slice_get ns i ≡ Some n → AreBelow n.parts b) → b ≤ k → times (names ns) k ≡ 0
names_out [] b k h le = refl
names_out (n ∷ ns) b k h le =
    let here = times_out n.parts b k (h 0 n refl) le in
    let rest = names_out ns b k (λ i m q. h (suc i) m q) le in
    omega (arith, times_append n.parts (names ns) k, here, rest)

pub names_below : (ns : List Node) (k : ℕ) → PartsAreBelow ns → length ns ≤ k → times (names ns) k ≡ 0
names_below ns k f le = names_out ns (length ns) k (λ i n q j l. let a = f i n q j l in let b = slice_get_within ns i n q in omega arith) le

names_push : (ns : List Node) (n : Node) (k : ℕ) → times (names (ns ++ n ∷ [])) k ≡ times (names ns) k + times n.parts k
names_push ns n k =
    let e : times (names (ns ++ n ∷ [])) k ≡ times (names ns ++ (n.parts ++ [])) k = ap (λ x. times x k) (flat_map-append (λ m. m.parts) ns (n ∷ [])) in
    omega (arith, e, times_append (names ns) (n.parts ++ []) k, times_append n.parts [] k)

-- a node of a list with one more is of the list, or that one
picked : (ns : List Node) (n m : Node) (k : ℕ) → slice_get (ns ++ n ∷ []) k ≡ Some m → (slice_get ns k ≡ Some m) ⊎ ((k ≡ length ns) × (n ≡ m))
picked [] n m zero q = inr (refl, cc)
picked [] n m (suc k) q = absurd cc
picked (o ∷ ns) n m zero q = inl q
picked (o ∷ ns) n m (suc k) q = elim (picked ns n m k q) as (λ _. (slice_get ns k ≡ Some m) ⊎ ((suc k ≡ suc (length ns)) × (n ≡ m))) [ inl h ↦ inl h | inr w ↦ inr (ap suc w.0, w.1) ]

within_push : (tokens : ℕ) (ns : List Node) (n : Node) → AreWithin tokens ns → n.first ≤ n.last → n.last < tokens → AreWithin tokens (ns ++ n ∷ [])
within_push tokens ns n h f l k m q = elim (picked ns n m k q) as (λ _. (m.first ≤ m.last) × (m.last < tokens)) [
  | inl o ↦ h k m o
  | inr w ↦ subst (λ (x : Node). (x.first ≤ x.last) × (x.last < tokens)) w.1 (f, l)
]

below_push : (ns : List Node) (n : Node) → PartsAreBelow ns → AreBelow n.parts (length ns) → PartsAreBelow (ns ++ n ∷ [])
below_push ns n f b k m q = elim (picked ns n m k q) as (λ _. AreBelow m.parts k) [
  | inl o ↦ f k m o
  | inr w ↦ subst (λ (x : Node). AreBelow x.parts k) w.1 (subst (λ j. AreBelow n.parts j) (sym w.0) b)
]

once_push : (ns : List Node) (n : Node) (loose : List ℕ) → PartsAreBelow ns → NamedOnce ns (reverse n.parts ++ loose) → ItemsAreNodes ns (reverse n.parts ++ loose) → NamedOnce (ns ++ n ∷ []) (length ns ∷ loose)
once_push ns n loose f once are k lt =
    let all = times_append (names (ns ++ n ∷ [])) (length ns ∷ loose) k in
    let more = names_push ns n k in
    let top = times_append (length ns ∷ []) loose k in
    let both = times_append (reverse n.parts) loose k in
    let turned = times_turned n.parts k in
    elim (cases_order k (length ns)) as (λ _. times (names (ns ++ n ∷ []) ++ length ns ∷ loose) k ≡ 1) [
      | inl q ↦
          let here = times_same (length ns) k (sym q) in
          let old = names_below ns k f (omega arith) in
          let none = times_out (reverse n.parts ++ loose) (length ns) k are (omega arith) in
          omega arith
      | inr w ↦ elim w as (λ _. times (names (ns ++ n ∷ []) ++ length ns ∷ loose) k ≡ 1) [
        | inl l ↦
            let here = times_other (length ns) k (λ q. omega arith) in
            let old = once k l in
            let split = times_append (names ns) (reverse n.parts ++ loose) k in
            omega arith
        | inr g ↦ absurd (omega (arith, lt, length-append ns (n ∷ [])))
      ]
    ]

loose_push : (ps loose : List ℕ) (n m : ℕ) → n + 1 ≡ m → AreBelow (ps ++ loose) n → AreBelow (n ∷ loose) m
loose_push ps loose n m e h = below_by (n ∷ loose) m (λ k le.
    let here = times_other n k (λ q. omega arith) in
    let none = times_out (ps ++ loose) n k h (omega arith) in
    omega (arith, times_append (n ∷ []) loose k, times_append ps loose k))

-- no nodes, with which the reading of a file begins
pub kept_none : (tokens : ℕ) → AreKept tokens [] []
kept_none tokens = record { within = λ k n q. absurd cc; named_once = λ k lt. absurd (omega arith); are_nodes = λ i lt. absurd (omega arith); listed = no_node }

-- the loose nodes in the order in which they stand, the parts of a node last
turned_behind : (ps loose : List ℕ) → reverse (reverse ps ++ loose) ≡ reverse loose ++ ps
turned_behind ps loose = reverse-append (reverse ps) loose ∙ ap (λ x. reverse loose ++ x) (reverse-reverse ps)

pub turned_last : (p : ℕ) (loose : List ℕ) → reverse (p ∷ loose) ≡ reverse loose ++ p ∷ []
turned_last p loose = reverse-append (p ∷ []) loose

listed_push : (ns : List Node) (n : Node) (loose : List ℕ) → AreListed ns 0 (reverse (reverse n.parts ++ loose)) (length ns) → AreListed (ns ++ n ∷ []) 0 (reverse (length ns ∷ loose)) (length (ns ++ n ∷ []))
listed_push ns n loose h =
    let w = cut (reverse loose) n.parts (subst (λ x. AreListed ns 0 x (length ns)) (turned_behind n.parts loose) h) in
    let more = λ (k : ℕ) (lt : k < length ns). get_front ns (n ∷ []) k lt in
    let last : slice_get (ns ++ n ∷ []) (length ns) ≡ Some n = get_past ns (n ∷ []) 0 (length ns) (omega arith) in
    let all : AreListed (ns ++ n ∷ []) 0 (reverse loose ++ length ns ∷ []) (length ns + 1) = behind (among more w.before) last (among more w.behind) in
    let one : length ns + 1 ≡ length (ns ++ n ∷ []) = omega (arith, length-append ns (n ∷ [])) in
    subst (λ x. AreListed (ns ++ n ∷ []) 0 (reverse (length ns ∷ loose)) x) one (subst (λ x. AreListed (ns ++ n ∷ []) 0 x (length ns + 1)) (sym (turned_last (length ns) loose)) all)

-- a node that takes its parts is loose itself
kept_push : (tokens : ℕ) (ns : List Node) (n : Node) (loose : List ℕ) → PartsAreBelow ns → n.first ≤ n.last → n.last < tokens → AreKept tokens ns (reverse n.parts ++ loose) → AreKept tokens (ns ++ n ∷ []) (length ns ∷ loose)
kept_push tokens ns n loose f s e h = record {
  within = within_push tokens ns n h.within s e;
  named_once = once_push ns n loose f h.named_once h.are_nodes;
  are_nodes = loose_push (reverse n.parts) loose (length ns) (length (ns ++ n ∷ [])) (omega (arith, length-append ns (n ∷ []))) h.are_nodes;
  listed = listed_push ns n loose h.listed;
}

pushed_last : (ns : List Node) (n : Node) (next : ℕ) → PartsAreBelow ns → AreBelow n.parts (length ns) → n.first < next → n.last + 1 ≡ next → IsPushed ns (ns ++ n ∷ []) (reverse n.parts) (record { node = length ns; next = next })
pushed_last ns n next f b s e = record {
  last = refl;
  grows = omega (arith, length-append ns (n ∷ []));
  keeps = record { longer = omega (arith, length-append ns (n ∷ [])); same = λ k lt. get_front ns (n ∷ []) k lt };
  below = below_push ns n f b;
  kept = λ tokens le loose h. kept_push tokens ns n loose f (omega arith) (omega arith) h;
}

pub is_pushed : (old new : List Node) (n : Node) (next k : ℕ) → new ≡ old ++ n ∷ [] → k ≡ length old → PartsAreBelow old → AreBelow n.parts (length old) → n.first < next → n.last + 1 ≡ next → IsPushed old new (reverse n.parts) (record { node = k; next = next })
is_pushed old new n next k q l f b s e =
    subst (λ x. IsPushed old x (reverse n.parts) (record { node = k; next = next })) (sym q) (subst (λ x. IsPushed old (old ++ n ∷ []) (reverse n.parts) (record { node = x; next = next })) (sym l) (pushed_last old n next f b s e))

-- what doesn't ask for the order of the loose nodes
pub once_turned : (ns : List Node) (items : List ℕ) → NamedOnce ns (reverse items) → NamedOnce ns items
once_turned ns items once k lt = omega (arith, once k lt, times_turned items k, times_append (names ns) (reverse items) k, times_append (names ns) items k)

pub nodes_turned : (ns : List Node) (items : List ℕ) → ItemsAreNodes ns (reverse items) → ItemsAreNodes ns items
nodes_turned ns items are = below_by items (length ns) (λ k le. omega (arith, times_turned items k, times_out (reverse items) (length ns) k are le))

-- Rows of loose nodes as the parser's loops make them.

pub kept_row : (tokens : ℕ) (ns : List Node) (ps qs loose : List ℕ) → ps ≡ qs → AreKept tokens ns (reverse qs ++ loose) → AreKept tokens ns (reverse ps ++ loose)
kept_row tokens ns ps qs loose e h = subst (λ x. AreKept tokens ns (reverse x ++ loose)) (sym e) h

pub kept_more : (tokens : ℕ) (ns : List Node) (ps qs : List ℕ) (p : ℕ) (loose : List ℕ) → qs ≡ ps ++ p ∷ [] → AreKept tokens ns (p ∷ reverse ps ++ loose) → AreKept tokens ns (reverse qs ++ loose)
kept_more tokens ns ps qs p loose e h = kept_row tokens ns qs (ps ++ p ∷ []) loose e (subst (λ x. AreKept tokens ns (x ++ loose)) (sym (reverse-append ps (p ∷ []))) h)

pub kept_behind : (tokens : ℕ) (ns : List Node) (os loose : List ℕ) (p : ℕ) → AreKept tokens ns (os ++ p ∷ loose) → AreKept tokens ns ((os ++ p ∷ []) ++ loose)
kept_behind tokens ns os loose p h = subst (λ x. AreKept tokens ns x) (sym (append_assoc os (p ∷ []) loose)) h

kept_lone : (tokens : ℕ) (ns : List Node) (ps loose : List ℕ) → length ps ≡ 1 → AreKept tokens ns (reverse ps ++ loose) → AreKept tokens ns (slice_index ps 0 ∷ loose)
kept_lone tokens ns [] loose e h = absurd (omega arith)
kept_lone tokens ns (p ∷ []) loose e h = h
kept_lone tokens ns (p ∷ q ∷ ps) loose e h = absurd (omega arith)

-- the same parts, spelled otherwise
pub pushed_as : (r : Result Found ParseFault) (old new : List Node) (ps qs : List ℕ) → ps ≡ qs → IfOk r (IsPushed old new (reverse ps)) → IfOk r (IsPushed old new (reverse qs))
pushed_as r old new ps qs e h = subst (λ x. IfOk r (IsPushed old new (reverse x))) e h

-- nodes that stand before others, in two lists
nodes_same : (a b : List Node) → length a ≡ length b → ((k : ℕ) → k < length a → slice_get a k ≡ slice_get b k) → a ≡ b
nodes_same [] [] q f = refl
nodes_same [] (n ∷ b) q f = absurd (omega arith)
nodes_same (m ∷ a) [] q f = absurd (omega arith)
nodes_same (m ∷ a) (n ∷ b) q f =
    let here : Some m ≡ Some n = f 0 (omega arith) in
    let e : m ≡ n = cc in
    let rest : a ≡ b = nodes_same a b (omega arith) (λ k l. f (suc k) (omega arith)) in
    cc

pub before_same : (a b all : List Node) → length a ≡ length b → Keeps a all → Keeps b all → a ≡ b
before_same a b all q f g = nodes_same a b q (λ k lt. sym (f.same k lt) ∙ g.same k (omega arith))

-- Nodes that are pushed behind others, as parts of what was read.

pub placed_over : {tokens at next : ℕ} {old mid new : List Node} {taken parts : List ℕ} {x : Found} → IsPushed mid new parts x → x.next ≡ next → at < next → next ≤ tokens → Keeps old mid → ((loose : List ℕ) → AreKept tokens old (taken ++ loose) → AreKept tokens mid (parts ++ loose)) → IsPlaced tokens at old new taken x
placed_over {tokens} {at} {next} {old} {mid} {new} {taken} {parts} {x} h q lt le k f = record {
  last = omega (arith, h.last, h.grows);
  grows = omega (arith, h.grows, k.longer);
  keeps = keeps_all old mid new k h.keeps;
  below = h.below;
  kept = λ loose a. h.kept tokens (omega arith) loose (f loose a);
  from = omega arith;
  to = omega arith;
}

pub placed_push : {tokens at next : ℕ} {old mid : List Node} (new : List Node) (taken parts : List ℕ) (r : Result Found ParseFault) → IfOk r (IsPushed mid new parts) → IfOk r (λ x. x.next ≡ next) → at < next → next ≤ tokens → Keeps old mid → Replaces tokens old mid taken parts → IfOk r (IsPlaced tokens at old new taken)
placed_push new taken parts (Ok x) h q lt le k f = placed_over h q lt le k f
placed_push new taken parts (Err g) h q lt le k f = tt

-- the same of a node that grew behind others
pub placed_grown : {tokens : ℕ} {old mid : List Node} (at : ℕ) (new : List Node) (taken first : List ℕ) (r : Result Found ParseFault) → IfOk r (IsGrown tokens at mid new first) → length old < length mid → Keeps old mid → Replaces tokens old mid taken first → IfOk r (IsPlaced tokens at old new taken)
placed_grown {tokens} {old} {mid} at new taken first (Ok x) h g k f = record {
  last = h.last;
  grows = omega (arith, g, h.keeps.longer);
  keeps = keeps_all old mid new k h.keeps;
  below = h.below;
  kept = λ loose a. h.kept loose (f loose a);
  from = h.from;
  to = h.to;
}
placed_grown at new taken first (Err e) h g k f = tt

-- and of what a callee read behind others
pub placed_behind : {tokens : ℕ} {old mid : List Node} (at : ℕ) (new : List Node) (taken first : List ℕ) (r : Result Found ParseFault) → IfOk r (IsPlaced tokens at mid new first) → Keeps old mid → Replaces tokens old mid taken first → IfOk r (IsPlaced tokens at old new taken)
placed_behind {tokens} {old} {mid} at new taken first (Ok x) h k f = record {
  last = h.last;
  grows = omega (arith, h.grows, k.longer);
  keeps = keeps_all old mid new k h.keeps;
  below = h.below;
  kept = λ loose a. h.kept loose (f loose a);
  from = h.from;
  to = h.to;
}
placed_behind at new taken first (Err e) h k f = tt

pub placed_gathered : {tokens at next : ℕ} {old mid : List Node} (new : List Node) (taken parts : List ℕ) (r : Result Found ParseFault) → IfOk r (IsGathered mid new parts) → IfOk r (λ x. x.next ≡ next) → at < next → next ≤ tokens → length old < length mid → Keeps old mid → Replaces tokens old mid taken parts → IfOk r (IsPlaced tokens at old new taken)
placed_gathered {tokens} {at} {next} {old} {mid} new taken parts (Ok x) h q lt le g k f = record {
  last = h.last;
  grows = omega (arith, g, h.keeps.longer);
  keeps = keeps_all old mid new k h.keeps;
  below = h.below;
  kept = λ loose a. h.kept tokens (omega arith) loose (f loose a);
  from = omega arith;
  to = omega arith;
}
placed_gathered new taken parts (Err e) h q lt le g k f = tt

pub placed_regathered : {tokens at next before : ℕ} {old mid : List Node} (new : List Node) (parts : List ℕ) (r : Result Found ParseFault) → IfOk r (IsRegathered before mid new parts) → IfOk r (λ x. x.next ≡ next) → at < next → next ≤ tokens → length old ≡ before → Keeps old mid → Replaces tokens old mid [] parts → IfOk r (IsPlaced tokens at old new [])
placed_regathered {tokens} {at} {next} {before} {old} {mid} new parts (Ok x) h q lt le g k f = record {
  last = h.last;
  grows = omega (arith, g, h.grows);
  keeps = h.keeps old g k;
  below = h.below;
  kept = h.kept old g k tokens (omega arith) f;
  from = omega arith;
  to = omega arith;
}
placed_regathered new parts (Err e) h q lt le g k f = tt

lone_last : (ps : List ℕ) (n : ℕ) → length ps ≡ 1 → slice_index ps (length ps - 1) + 1 ≡ n → slice_index ps 0 + 1 ≡ n
lone_last [] n q e = absurd (omega arith)
lone_last (p ∷ []) n q e = e
lone_last (p ∷ r ∷ ps) n q e = absurd (omega arith)

-- A row of one node is that node, and one of more is a node over them.

pub gathered_push : (old new : List Node) (ps : List ℕ) (r : Result Found ParseFault) → IfOk r (IsPushed old new ps) → IfOk r (IsGathered old new ps)
gathered_push old new ps (Ok x) h = record { last = omega (arith, h.last, h.grows); keeps = h.keeps; below = h.below; kept = h.kept }
gathered_push old new ps (Err g) h = tt

pub gathered_lone : (ns : List Node) (ps : List ℕ) (next : ℕ) → PartsAreBelow ns → length ps ≡ 1 → IsRow ps (length ns) → IsGathered ns ns (reverse ps) (record { node = slice_index ps 0; next = next })
gathered_lone ns ps next f q row = record { last = lone_last ps (length ns) q row.last; keeps = keeps_none ns; below = f; kept = λ tokens le loose a. kept_lone tokens ns ps loose q a }

pub regathered_push : (old new : List Node) (ps : List ℕ) (before : ℕ) (r : Result Found ParseFault) → before < length old → IfOk r (IsPushed old new ps) → IfOk r (IsRegathered before old new ps)
regathered_push old new ps before (Ok x) lt h = record {
  last = omega (arith, h.last, h.grows);
  grows = omega (arith, h.grows);
  below = h.below;
  keeps = λ start q k. keeps_all start old new k h.keeps;
  kept = λ start q k tokens le f loose a. h.kept tokens le loose (f loose a);
}
regathered_push old new ps before (Err g) lt h = tt

pub regathered_lone : (before : ℕ) (ns : List Node) (ps : List ℕ) (next : ℕ) → before < length ns → PartsAreBelow ns → length ps ≡ 1 → IsRow ps (length ns) → IsRegathered before ns ns (reverse ps) (record { node = slice_index ps 0; next = next })
regathered_lone before ns ps next lt f q row = record {
  last = lone_last ps (length ns) q row.last;
  grows = lt;
  below = f;
  keeps = λ start e k. k;
  kept = λ start e k tokens le g loose a. kept_lone tokens ns ps loose q (g loose a);
}

-- and one of `void` is a node over nothing, in the place of all that was read for it
pub regathered_void : (old mid new : List Node) (ps : List ℕ) (before : ℕ) (r : Result Found ParseFault) → length mid ≡ before → Keeps mid old → IfOk r (IsPushed mid new []) → IfOk r (IsRegathered before old new ps)
regathered_void old mid new ps before (Ok x) len km h = record {
  last = omega (arith, h.last, h.grows);
  grows = omega (arith, h.grows);
  below = h.below;
  keeps = λ start q k. subst (λ y. Keeps y new) (before_same mid start old (omega arith) km k) h.keeps;
  kept = λ start q k tokens le f loose a. h.kept tokens le loose (subst (λ y. AreKept tokens y loose) (before_same start mid old (omega arith) k km) a);
}
regathered_void old mid new ps before (Err g) len km h = tt
