-- The trees of nodes, where nodes are appended.
use Rattle.std.proofs.Common.{◌≡◌, ℕ, zero, suc, ◌+◌, ◌-◌, ◌<◌, ◌≤◌, true, false, List, [], ◌∷◌, ◌++◌, Option, None, Some, length, get_or, slice_get, slice_index, refl, sym, ap, subst, ◌∙◌, arith, length-append}
use Rattle.std.proofs.Math.ListN.{get_or-append}
use Rattle.std.proofs.Math.Seq.{get_or-append_seam}
use Rattle.std.proofs.lemmas.Option.{slice_get_within, slice_get_read}
use Rattle.std.specs.Prelude.{Result, IfOk, IfNone, option_to_list}
use Rattle.cr_syntax.specs.declared.node.Kind.{Kind}
use Rattle.cr_syntax.specs.declared.node.Kind.TheVariants as kind
use Rattle.cr_syntax.specs.declared.part.Part.{Part}
use Rattle.cr_syntax_machine.specs.MachineBody.{row_kind, in_row, in_parameters}
use Rattle.cr_exprs_descent.specs.Tables.{is_void}
use Rattle.cr_syntax.specs.declared.node.Node.{Node}
use Rattle.cr_syntax.specs.Kept.{PartsAreBelow, AreBelow, row_in}
use Rattle.cr_syntax.specs.Trees.{Trees, none, node, one, ◌&◌, tree_of, grown, trees_of}
use Rattle.cr_syntax.proofs.Arena.{tree_at}
use Rattle.cr_syntax_machine.proofs.MachineSpells.{and_and}
use Rattle.cr_exprs_descent.specs.declared.fault.ParseFault.{ParseFault}
use Rattle.cr_exprs_descent.specs.declared.found.Found.{Found}
use Rattle.cr_exprs_descent.specs.Answers.{tree, Keeps, IsRow}

grown_keeps : (ns : List Node) (made : List Trees) (k : ℕ) → k < length made → get_or (grown made ns) k none ≡ get_or made k none
grown_keeps [] made k lt = refl
grown_keeps (n ∷ ns) made k lt =
    grown_keeps ns (made ++ tree_of made n ∷ []) k (omega (arith, length-append made (tree_of made n ∷ []))) ∙ get_or-append made (tree_of made n ∷ []) none k lt

grown_push : (ns : List Node) (made : List Trees) (n : Node) → grown made (ns ++ n ∷ []) ≡ grown made ns ++ tree_of (grown made ns) n ∷ []
grown_push [] made n = refl
grown_push (m ∷ ns) made n = grown_push ns (made ++ tree_of made m ∷ []) n

pub grown_length : (ns : List Node) (made : List Trees) → length (grown made ns) ≡ length made + length ns
grown_length [] made = omega arith
grown_length (n ∷ ns) made = let h = grown_length ns (made ++ tree_of made n ∷ []) in omega (arith, h, length-append made (tree_of made n ∷ []))

-- the tree of the node that was appended last
pub tree_pushed : (ns : List Node) (n : Node) (k : ℕ) → k ≡ length ns → tree (ns ++ n ∷ []) k ≡ one n.kind n.first (n.last + 1) (row_in ns n.parts)
unfolding trees_of
tree_pushed ns n k q =
    let len : k ≡ length (grown [] ns) = omega (arith, grown_length ns []) in
    rw (grown_push ns [] n, len) (get_or-append_seam (grown [] ns) (tree_of (grown [] ns) n) [] none)

same_head : (n o : Node) → Some n ≡ Some o → n ≡ o
same_head n o q = cc

grown_alike : (os ns : List Node) (made : List Trees) → length os ≤ length ns → ((k : ℕ) → k < length os → slice_get ns k ≡ slice_get os k) → (k : ℕ) → k < length made + length os → get_or (grown made ns) k none ≡ get_or (grown made os) k none
grown_alike [] ns made le f k lt = grown_keeps ns made k (omega arith)
grown_alike (o ∷ os) [] made le f k lt = absurd (omega arith)
grown_alike (o ∷ os) (n ∷ ns) made le f k lt =
    let is : n ≡ o = same_head n o (f 0 (omega arith)) in
    let next = grown_alike os ns (made ++ tree_of made o ∷ []) (omega arith) (λ i h. f (suc i) (omega arith)) k (omega (arith, length-append made (tree_of made o ∷ []))) in
    subst (λ x. get_or (grown (made ++ tree_of made x ∷ []) ns) k none ≡ get_or (grown (made ++ tree_of made o ∷ []) os) k none) (sym is) next

-- kept nodes keep their trees
pub tree_kept : (old new : List Node) (k : ℕ) → Keeps old new → k < length old → tree new k ≡ tree old k
unfolding trees_of
tree_kept old new k h lt = grown_alike old new [] h.longer h.same k (omega arith)

pub row_kept : (old new : List Node) (ps : List ℕ) → Keeps old new → AreBelow ps (length old) → row_in new ps ≡ row_in old ps
row_kept old new [] h b = refl
row_kept old new (p ∷ ps) h b =
    let e = tree_kept old new p h (b 0 (omega arith)) in
    let r = row_kept old new ps h (λ i lt. b (suc i) (omega arith)) in
    cc

pub keeps_all : (old mid new : List Node) → Keeps old mid → Keeps mid new → Keeps old new
keeps_all old mid new f g = record { longer = omega (arith, f.longer, g.longer); same = λ k lt. g.same k (omega (arith, f.longer)) ∙ f.same k lt }

pub keeps_none : (ns : List Node) → Keeps ns ns
keeps_none ns = record { longer = omega arith; same = λ k lt. refl }

-- the tree of a node that is read
pub tree_read : (ns : List Node) (k : ℕ) (n : Node) → PartsAreBelow ns → k < length ns → n ≡ get_or ns k n → tree ns k ≡ one n.kind n.first (n.last + 1) (row_in ns n.parts)
tree_read ns k n f lt q = tree_at ns f k n (slice_get_read ns (length ns) k n refl lt q)

-- the trees of a row with one number more
pub row_push : (ns : List Node) (ps : List ℕ) (p : ℕ) → row_in ns (ps ++ p ∷ []) ≡ row_in ns ps & tree ns p & none
row_push ns [] p = refl
row_push ns (q ∷ ps) p = let h = row_push ns ps p in let e = and_and (tree ns q) (row_in ns ps) (tree ns p & none) in cc

pub node_at : (ns : List Node) (k : ℕ) → k < length ns → (n : Node) × (slice_get ns k ≡ Some n)
node_at [] k lt = absurd (omega arith)
node_at (n ∷ ns) zero lt = (n, refl)
node_at (n ∷ ns) (suc k) lt = node_at ns k (omega arith)

-- a node is one tree
pub tree_is : (ns : List Node) (k : ℕ) → PartsAreBelow ns → k < length ns → (n : Node) × (tree ns k ≡ one n.kind n.first (n.last + 1) (row_in ns n.parts))
tree_is ns k f lt = let w = node_at ns k lt in (w.0, tree_at ns f k w.0 w.1)

pub get_front : (a b : List Node) (k : ℕ) → k < length a → slice_get (a ++ b) k ≡ slice_get a k
get_front [] b k lt = absurd (omega arith)
get_front (n ∷ a) b zero lt = refl
get_front (n ∷ a) b (suc k) lt = get_front a b k (omega arith)

pub get_past : (a b : List Node) (k j : ℕ) → j ≡ k + length a → slice_get (a ++ b) j ≡ slice_get b k
get_past [] b k j q = ap (λ x. slice_get b x) (omega (arith, q))
get_past (n ∷ a) b k zero q = absurd (omega (arith, q))
get_past (n ∷ a) b k (suc j) q = get_past a b k j (omega (arith, q))

-- the nodes but the last one
pub keeps_front : (old new : List Node) (o : Option Node) → old ≡ new ++ option_to_list o → Keeps new old
keeps_front old new o q = record { longer = omega (arith, ap length q, length-append new (option_to_list o)); same = λ k lt. rw q (get_front new (option_to_list o) k lt) }

pub front_length : (old new : List Node) (o : Option Node) → 0 < length old → old ≡ new ++ option_to_list o → IfNone o (old ≡ []) → length new + 1 ≡ length old
front_length old new None lt q n = absurd (omega (arith, ap length n))
front_length old new (Some x) lt q n = omega (arith, ap length q, length-append new (x ∷ []))

pub below_front : (new old : List Node) → Keeps new old → PartsAreBelow old → PartsAreBelow new
below_front new old h f k n q = f k n (h.same k (slice_get_within new k n q) ∙ q)

-- rows of one number, and of more
pub in_row_lone : (part : Part) (s e : ℕ) (ns : List Node) (ps : List ℕ) (d : ℕ) → PartsAreBelow ns → length ps ≡ 1 → AreBelow ps (length ns) → tree ns (get_or ps 0 d) ≡ in_row part s e (row_in ns ps)
in_row_lone part s e ns [] d f q b = absurd (omega arith)
in_row_lone part s e ns (p ∷ []) d f q b = let w = tree_is ns p f (b 0 (omega arith)) in rw (w.1) refl
in_row_lone part s e ns (p ∷ r ∷ ps) d f q b = absurd (omega arith)

pub in_row_more : (part : Part) (s e : ℕ) (ns : List Node) (ps : List ℕ) → PartsAreBelow ns → (length ps ≡ 1 → ⊥) → 0 < length ps → AreBelow ps (length ns) → one (row_kind part) s e (row_in ns ps) ≡ in_row part s e (row_in ns ps)
in_row_more part s e ns [] f q lt b = absurd (omega arith)
in_row_more part s e ns (p ∷ []) f q lt b = absurd (q refl)
in_row_more part s e ns (p ∷ r ∷ ps) f q lt b =
    let v = tree_is ns p f (b 0 (omega arith)) in
    let w = tree_is ns r f (b 1 (omega arith)) in
    rw (v.1, w.1) refl

other_parameter : (k : Kind) (s e i j : ℕ) (a : Trees) → is_void k ≡ false → node k i j a none ≡ in_parameters s e (node k i j a none)
other_parameter kind.Void s e i j a q = absurd cc
other_parameter _ s e i j a q = refl

void_parameter : (k : Kind) (s e i j : ℕ) (a : Trees) → is_void k ≡ true → one kind.VoidParameters s e none ≡ in_parameters s e (node k i j a none)
void_parameter kind.Void s e i j a q = refl
void_parameter _ s e i j a q = absurd cc

more_parameters : (k : Kind) (s e i j : ℕ) (a : Trees) (k' : Kind) (i' j' : ℕ) (a' n' : Trees) → one kind.Parameters s e (node k i j a (node k' i' j' a' n')) ≡ in_parameters s e (node k i j a (node k' i' j' a' n'))
more_parameters kind.Void s e i j a k' i' j' a' n' = refl
more_parameters _ s e i j a k' i' j' a' n' = refl

pub in_parameters_lone : (s e : ℕ) (ns : List Node) (ps : List ℕ) (d : ℕ) (n : Node) → PartsAreBelow ns → length ps ≡ 1 → AreBelow ps (length ns) → n ≡ get_or ns (get_or ps 0 d) n → is_void n.kind ≡ false → tree ns (get_or ps 0 d) ≡ in_parameters s e (row_in ns ps)
in_parameters_lone s e ns [] d n f q b r v = absurd (omega arith)
in_parameters_lone s e ns (p ∷ []) d n f q b r v = rw (tree_read ns p n f (b 0 (omega arith)) r) (other_parameter n.kind s e n.first (n.last + 1) (row_in ns n.parts) v)
in_parameters_lone s e ns (p ∷ r' ∷ ps) d n f q b r v = absurd (omega arith)

pub in_parameters_void : (s e : ℕ) (ns : List Node) (ps : List ℕ) (d : ℕ) (n : Node) → PartsAreBelow ns → length ps ≡ 1 → AreBelow ps (length ns) → n ≡ get_or ns (get_or ps 0 d) n → is_void n.kind ≡ true → one kind.VoidParameters s e none ≡ in_parameters s e (row_in ns ps)
in_parameters_void s e ns [] d n f q b r v = absurd (omega arith)
in_parameters_void s e ns (p ∷ []) d n f q b r v = rw (tree_read ns p n f (b 0 (omega arith)) r) (void_parameter n.kind s e n.first (n.last + 1) (row_in ns n.parts) v)
in_parameters_void s e ns (p ∷ r' ∷ ps) d n f q b r v = absurd (omega arith)

pub in_parameters_more : (s e : ℕ) (ns : List Node) (ps : List ℕ) → PartsAreBelow ns → (length ps ≡ 1 → ⊥) → 0 < length ps → AreBelow ps (length ns) → one kind.Parameters s e (row_in ns ps) ≡ in_parameters s e (row_in ns ps)
in_parameters_more s e ns [] f q lt b = absurd (omega arith)
in_parameters_more s e ns (p ∷ []) f q lt b = absurd (q refl)
in_parameters_more s e ns (p ∷ r ∷ ps) f q lt b =
    let v = tree_is ns p f (b 0 (omega arith)) in
    let w = tree_is ns r f (b 1 (omega arith)) in
    rw (v.1, w.1) (more_parameters v.0.kind s e v.0.first (v.0.last + 1) (row_in ns v.0.parts) w.0.kind w.0.first (w.0.last + 1) (row_in ns w.0.parts) (row_in ns ps))

-- a fact of the node that is read, as one of its tree
pub read_as : {A : Type 0} (f : Trees → A) (b : A) (xs ns : List Node) (k : ℕ) (n m : Node) → xs ≡ ns → PartsAreBelow ns → k < length ns → n ≡ get_or xs k n → m ≡ n → ((j : ℕ) → b ≡ f (one m.kind m.first j (row_in xs m.parts))) → b ≡ f (tree ns k)
read_as f b xs ns k n m e below lt q r h =
    let q' : n ≡ get_or ns k n = subst (λ x. n ≡ get_or x k n) e q in
    let h' : b ≡ f (one m.kind m.first (n.last + 1) (row_in ns m.parts)) = subst (λ x. b ≡ f (one m.kind m.first (n.last + 1) (row_in x m.parts))) e (h (n.last + 1)) in
    let h'' : b ≡ f (one n.kind n.first (n.last + 1) (row_in ns n.parts)) = subst (λ (x : Node). b ≡ f (one x.kind x.first (n.last + 1) (row_in ns x.parts))) r h' in
    rw (tree_read ns k n below lt q') h''

pub tree_of_pushed : (old new : List Node) (n : Node) (k e : ℕ) → new ≡ old ++ n ∷ [] → k ≡ length old → n.last + 1 ≡ e → tree new k ≡ one n.kind n.first e (row_in old n.parts)
tree_of_pushed old new n k e q l s =
    let t = tree_pushed old n k l in
    subst (λ x. tree x k ≡ one n.kind n.first e (row_in old n.parts)) (sym q) (subst (λ x. tree (old ++ n ∷ []) k ≡ one n.kind n.first x (row_in old n.parts)) s t)

pub ok_tree : (r : Result Found ParseFault) (new : List Node) (t u : Trees) → t ≡ u → IfOk r (λ x. tree new x.node ≡ t) → IfOk r (λ x. tree new x.node ≡ u)
ok_tree r new t u e h = subst (λ y. IfOk r (λ x. tree new x.node ≡ y)) e h

-- Rows of numbers as the parser's loops make them.

pub below_empty : (ps : List ℕ) (n : ℕ) → ps ≡ [] → AreBelow ps n
below_empty ps n q = subst (λ x. AreBelow x n) (sym q) (λ i lt. absurd (omega arith))

pub row_empty : (ns : List Node) (ps : List ℕ) → ps ≡ [] → row_in ns ps ≡ none
row_empty ns ps q = rw q refl

pub row_single : (ns : List Node) (ps : List ℕ) (p : ℕ) → ps ≡ p ∷ [] → row_in ns ps ≡ tree ns p & none
row_single ns ps p q = rw q refl

pub is_row_single : (ps : List ℕ) (p n : ℕ) → ps ≡ p ∷ [] → p + 1 ≡ n → IsRow ps n
is_row_single ps p n q r = subst (λ x. IsRow x n) (sym q) (record { below = λ i lt. elim i as (λ j. j < 1 → slice_index (p ∷ []) j < n) [ zero ↦ λ _. omega arith | suc j ↦ λ l. absurd (omega arith) ] lt; some = omega arith; last = r })

pub row_more : (old new : List Node) (ps qs : List ℕ) (p : ℕ) → Keeps old new → AreBelow ps (length old) → qs ≡ ps ++ p ∷ [] → row_in new qs ≡ row_in old ps & tree new p & none
row_more old new ps qs p h b q = rw q (row_push new ps p ∙ ap (λ x. x & tree new p & none) (row_kept old new ps h b))

below_push : (ps : List ℕ) (p n : ℕ) → AreBelow ps n → p < n → AreBelow (ps ++ p ∷ []) n
below_push [] p n b lt zero h = lt
below_push [] p n b lt (suc i) h = absurd (omega arith)
below_push (q ∷ ps) p n b lt zero h = b 0 (omega arith)
below_push (q ∷ ps) p n b lt (suc i) h = below_push ps p n (λ j l. b (suc j) (omega arith)) lt i (omega arith)

last_push : (ps : List ℕ) (p : ℕ) → slice_index (ps ++ p ∷ []) (length ps) ≡ p
last_push [] p = refl
last_push (q ∷ ps) p = last_push ps p

pub is_row_more : (ps qs : List ℕ) (p m n : ℕ) → AreBelow ps m → m ≤ n → p + 1 ≡ n → qs ≡ ps ++ p ∷ [] → IsRow qs n
is_row_more ps qs p m n b le r q =
    let len : length (ps ++ p ∷ []) - 1 ≡ length ps = omega (arith, length-append ps (p ∷ [])) in
    let all : AreBelow ps n = λ i lt. let below = b i lt in omega arith in
    subst (λ x. IsRow x n) (sym q) (record {
      below = below_push ps p n all (omega arith);
      some = omega (arith, length-append ps (p ∷ []));
      last = rw (len, last_push ps p) r;
    })

pub of_row : {k : Kind} {s n : ℕ} {x y : Trees} → x ≡ y → one k s n x ≡ one k s n y
of_row {k} {s} {n} {x} {y} q = ap (one k s n) q
