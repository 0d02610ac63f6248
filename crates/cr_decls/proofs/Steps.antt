-- Steps of the machine's runs as the functions of declarations and statements take them.
use Rattle.std.proofs.Common.{◌≡◌, ℕ, zero, suc, true, true≢false, ◌+◌, ◌<◌, ◌≤◌, List, [], ◌∷◌, ◌++◌, Option, None, Some, Result, Ok, Err, length, refl, reverse, sym, ap, subst, ◌∙◌, arith}
use Rattle.std.specs.Prelude.{IfOk, option_to_list}
use Rattle.cr_syntax.specs.declared.node.Node.{Node}
use Rattle.cr_syntax.specs.declared.part.Context.{Context}
use Rattle.cr_syntax.specs.Words.{Lexeme}
use Rattle.cr_syntax.specs.Scopes.{Scopes}
use Rattle.cr_syntax.specs.Kept.{AreBelow, row_in}
use Rattle.cr_syntax.specs.Trees.{Trees, none, ◌&◌}
use Rattle.cr_syntax_machine.specs.Machine as m
use Rattle.cr_syntax_machine.specs.Machine.{Goal, Prog, Test, Manner, Reply, call, give, take, run_look, run_set, run_take, run_deep, run_pass, run_seen, run_unseen, run_call, run_fail}
use Rattle.cr_syntax_machine.specs.MachineBody.{body, may_label, unlabelled, declared_on, for_body}
use Rattle.cr_exprs_descent.specs.declared.fault.ParseFault.{ParseFault}
use Rattle.cr_exprs_descent.specs.declared.found.Found.{Found}
use Rattle.cr_exprs_descent.specs.Loose.{AreKept}
use Rattle.cr_exprs_descent.specs.Answers.{RunsTo, Comes, Gives, Goes, Keeps, IsPlaced, IsGrown, tree}
use Rattle.cr_exprs_descent.proofs.Nodes.{row_kept}
use Rattle.cr_exprs_descent.proofs.Runs.{fails}
use Rattle.cr_syntax_machine.proofs.MachineSpells.{and_none, and_and}
use Rattle.cr_decls.specs.declared.labels.Labels.{Labels}
use Rattle.cr_decls.specs.declared.labels.Labels.TheVariants.{OwnBlock, Nowhere}
use Rattle.cr_decls.specs.Programs.{labels_of, with_step}

-- the last clause of a `for`: an expression or none
pub step_shift : {ts : List Lexeme} {c : Scopes} {i : ℕ} {y : Reply} (d s : ℕ) (x t : Trees) (nodes : List Node) (o : Option ℕ) →
    RunsTo ts (for_body m.nowhere d s (x & t & row_in nodes (option_to_list o))) c i y → RunsTo ts (with_step (for_body m.nowhere d s (x & t)) (λ u. for_body m.nowhere d s (x & t & u & none)) nodes o) c i y
step_shift {ts} {c} {i} {y} d s x t nodes None h = subst (λ u. RunsTo ts (for_body m.nowhere d s (x & u)) c i y) (and_none t) h
step_shift d s x t nodes (Some n) h = h

row_append : (ns : List Node) (ps qs : List ℕ) → row_in ns (ps ++ qs) ≡ row_in ns ps & row_in ns qs
row_append ns [] qs = refl
row_append ns (p ∷ ps) qs = ap (λ x. tree ns p & x) (row_append ns ps qs) ∙ sym (and_and (tree ns p) (row_in ns ps) (row_in ns qs))

-- the parts of a `for`
pub loop_row : (n0 n1 n2 n3 : List Node) (f g h : List ℕ) (k : ℕ) (ps : List ℕ) → Keeps n0 n3 → Keeps n1 n3 → Keeps n2 n3 → AreBelow f (length n0) → AreBelow g (length n1) → AreBelow h (length n2) → ps ≡ f ++ g ++ h ++ k ∷ [] →
    row_in n3 ps ≡ (row_in n0 f & row_in n1 g & row_in n2 h) & tree n3 k & none
loop_row n0 n1 n2 n3 f g h k ps k0 k1 k2 b0 b1 b2 q =
    let e0 = row_kept n0 n3 f k0 b0 in
    let e1 = row_kept n1 n3 g k1 b1 in
    let e2 = row_kept n2 n3 h k2 b2 in
    let all = row_append n3 (f ++ g ++ h) (k ∷ []) in
    let three = row_append n3 (f ++ g) h in
    let two = row_append n3 f g in
    let u = and_and (row_in n0 f) (row_in n1 g) (row_in n2 h) in
    rw q (all ∙ ap (λ x. x & tree n3 k & none) (three ∙ rw (two, e0, e1, e2) u))

below_append : (ps qs : List ℕ) (n : ℕ) → AreBelow ps n → AreBelow qs n → AreBelow (ps ++ qs) n
below_append [] qs n f g i lt = g i lt
below_append (p ∷ ps) qs n f g zero lt = f 0 (omega arith)
below_append (p ∷ ps) qs n f g (suc i) lt = below_append ps qs n (λ j l. f (suc j) (omega arith)) g i (omega arith)

pub below_longer : (ps : List ℕ) (a b : ℕ) → AreBelow ps a → a ≤ b → AreBelow ps b
below_longer ps a b f le i lt = let h = f i lt in omega arith

below_one : (k n : ℕ) → k < n → AreBelow (k ∷ []) n
below_one k n lt zero l = lt
below_one k n lt (suc i) l = absurd (omega arith)

pub row_below : (ps : List ℕ) (p n : ℕ) → ps ≡ p ∷ [] → p < n → AreBelow ps n
row_below ps p n q lt = subst (λ x. AreBelow x n) (sym q) (below_one p n lt)

pub loop_below : (f g h ps : List ℕ) (k n : ℕ) {a b c : ℕ} → AreBelow f a → AreBelow g b → AreBelow h c → a ≤ n → b ≤ n → c ≤ n → k < n → ps ≡ f ++ g ++ h ++ k ∷ [] → AreBelow ps n
loop_below f g h ps k n {a} {b} {c} x y z la lb lc lt q =
    subst (λ r. AreBelow r n) (sym q) (below_append (f ++ g ++ h) (k ∷ []) n (below_append (f ++ g) h n (below_append f g n (below_longer f a n x la) (below_longer g b n y lb)) (below_longer h c n z lc)) (below_one k n lt))

-- they are loose until then, the last one first
loop_turned : (f g h : Option ℕ) (k : ℕ) (loose : List ℕ) → k ∷ option_to_list h ++ (option_to_list g ++ (option_to_list f ++ loose)) ≡ reverse (option_to_list f ++ option_to_list g ++ option_to_list h ++ k ∷ []) ++ loose
loop_turned None None None k loose = refl
loop_turned None None (Some r) k loose = refl
loop_turned None (Some q) None k loose = refl
loop_turned None (Some q) (Some r) k loose = refl
loop_turned (Some p) None None k loose = refl
loop_turned (Some p) None (Some r) k loose = refl
loop_turned (Some p) (Some q) None k loose = refl
loop_turned (Some p) (Some q) (Some r) k loose = refl

pub loop_kept : (tokens : ℕ) (ns : List Node) (f g h : Option ℕ) (ps : List ℕ) (k : ℕ) (loose : List ℕ) → ps ≡ option_to_list f ++ option_to_list g ++ option_to_list h ++ k ∷ [] → AreKept tokens ns (k ∷ option_to_list h ++ (option_to_list g ++ (option_to_list f ++ loose))) → AreKept tokens ns (reverse ps ++ loose)
loop_kept tokens ns f g h ps k loose q kept =
    subst (λ x. AreKept tokens ns (reverse x ++ loose)) (sym q) (subst (λ x. AreKept tokens ns x) (loop_turned f g h k loose) kept)

-- a declaration's first declarator and its specifiers are loose
pub kept_first : (tokens : ℕ) (ns : List Node) (p q : ℕ) (ps loose : List ℕ) → ps ≡ q ∷ [] → AreKept tokens ns (p ∷ q ∷ loose) → AreKept tokens ns (p ∷ reverse ps ++ loose)
kept_first tokens ns p q ps loose e h = subst (λ x. AreKept tokens ns (p ∷ reverse x ++ loose)) (sym e) h

-- a node that was read may be said to have grown
pub grown_as : (tokens at : ℕ) (old new : List Node) (taken : List ℕ) (r : Result Found ParseFault) → IfOk r (IsPlaced tokens at old new taken) → IfOk r (IsGrown tokens at old new taken)
grown_as tokens at old new taken (Ok x) h = record { last = h.last; keeps = h.keeps; below = h.below; kept = h.kept; from = h.from; to = h.to }
grown_as tokens at old new taken (Err f) h = tt

-- the declarators of a declaration go on, in what is said so far and with the trees so far
pub declared_shift : {ts : List Lexeme} {h k : Context} {t u : Trees} {e : Scopes} {i : ℕ} {y : Reply} (d s q : ℕ) (a : Trees) → h ≡ k → t ≡ u → RunsTo ts (declared_on h d s t q a) e i y → RunsTo ts (declared_on k d s u q a) e i y
declared_shift {ts} {h} {k} {t} {u} {e} {i} {y} d s q a v w run = subst (λ x. RunsTo ts (declared_on x d s u q a) e i y) v (subst (λ x. RunsTo ts (declared_on h d s x q a) e i y) w run)

-- what a goal answers goes on
pub goes_through : {A : Type 0} {ts : List Lexeme} {p : Prog} {u : Goal} {g : Trees → Prog} {c e f : Scopes} {i j : ℕ} {t : A → Trees} {n : A → ℕ} (r : Result A ParseFault) → ((y : Reply) → RunsTo ts (call u g) e j y → RunsTo ts p c i y) →
    Comes ts (body u) e j (λ x. Gives ts (body u) e j (t x) f (n x)) r → Comes ts p c i (λ x. Goes ts p c i (g (t x)) f (n x)) r
goes_through (Ok x) path h = record { is = record { on = λ y r. path y (run_call h.is.run r) } }
goes_through (Err fault) path h = record { is = fails h.is (λ x k r. path _ (run_fail r)) }
