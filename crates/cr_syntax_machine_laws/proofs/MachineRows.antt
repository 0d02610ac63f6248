-- Behind a row of specifiers that the machine read stands no identifier that could be one more of them.
use Rattle.std.proofs.Common.{◌≡◌, ℕ, zero, suc, ◌+◌, ◌<◌, ◌≤◌, Bool, false, ◌||◌, List, [], ◌∷◌, refl, sym, ap, subst, ◌∙◌, arith, inl, inr}
use Rattle.std.proofs.lemmas.Bool.{or_parts}
use Rattle.cr_syntax.specs.declared.node.Kind.{Kind}
use Rattle.cr_syntax.specs.declared.part.Part.{Part}
use Rattle.cr_syntax.specs.declared.part.Part.TheVariants as part
use Rattle.cr_syntax.specs.declared.part.Context.{Context}
use Rattle.cr_syntax.specs.Words.{Lexeme}
use Rattle.cr_syntax.specs.Scopes.{Scopes}
use Rattle.cr_syntax.specs.Trees.{Trees, none, node, one, ◌&◌}
use Rattle.cr_syntax.specs.Context.{past_part, any_kind, is_type_specifier}
use Rattle.cr_syntax.specs.Grammar.{many}
use Rattle.cr_syntax.specs.Spells.{Limit, Spells, a, rest}
use Rattle.cr_syntax.specs.Spells as spells
use Rattle.cr_syntax_machine.specs.Machine.{Goal, Prog, Done, Runs, passes, has_word, type_identifier, run_give, run_take, run_pass, run_free, run_seen, run_unseen, run_yes, run_no, run_here, run_look, run_set, run_bring, run_call}
use Rattle.cr_syntax_machine.specs.Machine as m
use Rattle.cr_syntax_machine.specs.MachineBody.{body, element_start, in_row, is_specifier_start, is_plain_start}
use Rattle.cr_syntax_machine_laws.proofs.MachineMeans.{element_part}
use Rattle.cr_syntax_machine.proofs.MachineSpells.{and_none, and_and, pushed, is_one}
use Rattle.cr_syntax_machine_laws.proofs.MachineSound.{runs_sound}
use Rattle.cr_syntax_machine_laws.proofs.MachineTasks.{past_row}
use Rattle.cr_syntax_machine_laws.proofs.MachineBegins.{past_one, row_typed}
use Rattle.cr_syntax_machine_laws.proofs.MachineSteady.{Finds, finds, Known}
use Rattle.cr_syntax_machine_laws.proofs.MachineRuns.{reach, again}
use Rattle.cr_syntax_machine_laws.proofs.MachineParts.{Answered, peeked, at_place, given, answered, answered_last}

-- A program that finds its first token goes on behind it.
pub beyond_done : {ts : List Lexeme} {limit : Limit} {p : Prog} {c e : Scopes} {i j : ℕ} {t : Trees} → Runs body ts limit p c i (Done t e j) → Finds ts p c i → i < j
beyond_done run_give y = absurd y
beyond_done (run_take x v h) y = let n = reach h in omega arith
beyond_done (run_pass x h) y = beyond_done h (y x)
beyond_done (run_free x h) y = beyond_done h y.1
beyond_done (run_seen x h) y = beyond_done h (y.0 x)
beyond_done (run_unseen x h) y = beyond_done h (y.1 x)
beyond_done (run_yes x h) y = beyond_done h (y.0 x)
beyond_done (run_no x h) y = beyond_done h (y.1 x)
beyond_done (run_here h) y = beyond_done h y
beyond_done (run_look h) y = beyond_done h y
beyond_done (run_set h) y = beyond_done h y
beyond_done (run_bring h) y = beyond_done h y
beyond_done {ts = ts} {c = c} {i = i} (run_call {g = g} h k) y = let n = beyond_done h (finds ts g c i y) in let n' = reach k in omega arith

module _ (ts : List Lexeme) (limit : Limit) where
  -- the specifiers that a row goes on with, and the token behind them
  record Further (p : Part) (h : Context) (d s : ℕ) (x : Trees) (c : Scopes) (i : ℕ) (t : Trees) (e : Scopes) (j : ℕ) : Type 0 where
    trees : Trees
    in_a_row : t ≡ in_row p s j (x & trees)
    ended : passes ts e j (element_start p (past_row h trees).typed) ≡ false
    spelled : Spells ts limit (rest (many (element_part p) ∷ [])) h c e d trees i j

  no_further : {p : Part} {h : Context} {d s : ℕ} {x : Trees} {c : Scopes} {i : ℕ} {t : Trees} {e : Scopes} {j : ℕ} → passes ts c i (element_start p h.typed) ≡ false → Done (in_row p s i x) c i ≡ Done t e j →
      Further p h d s x c i t e j
  no_further {p = p} {h = h} {d = d} {s = s} {x = x} {c = c} {i = i} q y =
      again (λ t e j. Further p h d s x c i t e j) (sym y) (record { trees = none; in_a_row = ap (λ y. in_row p s i y) (sym (and_none x)); ended = q; spelled = spells.many_none spells.done })

  one_more : {p : Part} {h : Context} {d s : ℕ} {x : Trees} {c : Scopes} {i : ℕ} {t : Trees} {e : Scopes} {j : ℕ} (y : Answered body ts limit (m.element p h d) (λ t. m.call (m.more p (past_part h t) d s (x & t & none)) m.give) c i (Done t e j)) →
      Further p (past_part h y.trees) d s (x & y.trees & none) y.after y.end t e j → Further p h d s x c i t e j
  one_more {p = p} {h = h} {d = d} {s = s} {x = x} {c = c} {i = i} {e = f} {j = j} y w =
      let v : Spells ts limit (a (element_part p)) h c y.after d y.trees i y.end = runs_sound (m.element p h d) c y.after i y.end y.trees y.goal in
      record {
        trees = y.trees & w.trees;
        in_a_row = w.in_a_row ∙ ap (λ z. in_row p s j z) (pushed x y.trees w.trees);
        ended = subst (λ z. passes ts f j (element_start p z.typed) ≡ false) (sym (past_one v h w.trees)) w.ended;
        spelled = spells.many_more v w.spelled;
      }

  further : (l : ℕ) {p : Part} {h : Context} {d s : ℕ} {x : Trees} {c : Scopes} {i : ℕ} {t : Trees} {e : Scopes} {j : ℕ} → j ≤ i + l → Runs body ts limit (body (m.more p h d s x)) c i (Done t e j) → Further p h d s x c i t e j
  further zero {p = p} {h = h} {d = d} {c = c} {i = i} le z = elim (peeked z) [
    | inl (q, y) ↦
        (let w = answered y in
        let n = beyond_done w.goal (finds ts (m.element p h d) c i q) in
        let n' = reach w.others in
        absurd (omega arith))
    | inr (q, y) ↦ no_further q (given (at_place y))
  ]
  further (suc l) {p = p} {h = h} {d = d} {c = c} {i = i} le z = elim (peeked z) [
    | inl (q, y) ↦
        (let w = answered y in
        let n = beyond_done w.goal (finds ts (m.element p h d) c i q) in
        one_more w (further l (omega arith) (answered_last w.others)))
    | inr (q, y) ↦ no_further q (given (at_place y))
  ]

-- what is said after a row is what its specifiers say one by one
row_says : (p : Part) (h : Context) (s e : ℕ) (k : Kind) (i j : ℕ) (b u : Trees) → (past_row h (one k i j b & u)).typed ≡ h.typed || any_kind is_type_specifier (one k i j b & u) →
    (past_part h (in_row p s e (one k i j b & u))).typed ≡ (past_row h (one k i j b & u)).typed
row_says p h s e k i j b none q = refl
row_says p h s e k i j b (node k' i' j' b' n) q = by p ∙ sym q
  where
    by : (p : Part) → (past_part h (in_row p s e (node k i j b (node k' i' j' b' n)))).typed ≡ h.typed || any_kind is_type_specifier (node k i j b (node k' i' j' b' n))
    by part.Specifiers = refl
    by _ = refl

past_in_row : (p : Part) (h : Context) (s e : ℕ) (t u : Trees) → ((k : Kind) × (b : Trees) × (i : ℕ) × (j : ℕ) × (t ≡ one k i j b)) → (past_row h (t & u)).typed ≡ h.typed || any_kind is_type_specifier (t & u) →
    (past_part h (in_row p s e (t & u))).typed ≡ (past_row h (t & u)).typed
past_in_row p h s e t u w = subst (λ t. (past_row h (t & u)).typed ≡ h.typed || any_kind is_type_specifier (t & u) → (past_part h (in_row p s e (t & u))).typed ≡ (past_row h (t & u)).typed) (sym w.4) (row_says p h s e w.0 w.2 w.3 w.1 u)

no_type_behind : (p : Part) (ts : List Lexeme) (c : Scopes) (i : ℕ) (typed : Bool) → passes ts c i (element_start p typed) ≡ false → passes ts c i (type_identifier typed) ≡ false
no_type_behind part.Specifiers ts c i typed q = (or_parts (has_word ts i is_specifier_start) (passes ts c i (type_identifier typed)) q).1
no_type_behind _ ts c i typed q = (or_parts (has_word ts i is_plain_start) (passes ts c i (type_identifier typed)) q).1

row_ends : {ts : List Lexeme} {limit : Limit} (p : Part) (h : Context) (d : ℕ) {c e : Scopes} {i j : ℕ} {t : Trees} → Runs body ts limit (body (m.row p h d)) c i (Done t e j) → passes ts e j (type_identifier (past_part h t).typed) ≡ false
row_ends {ts = ts} {limit = limit} p h d {c = c} {e = f} {i = i} {j = j} {t = t} y =
    let x = answered (at_place y) in
    let l : Spells ts limit (a (element_part p)) h c x.after d x.trees i x.end = runs_sound (m.element p h d) c x.after i x.end x.trees x.goal in
    let w = further ts limit j (omega arith) (answered_last x.others) in
    let o = is_one l in
    let q : t ≡ in_row p i j (x.trees & w.trees) = w.in_a_row ∙ ap (λ y. in_row p i j y) (and_and x.trees none w.trees) in
    no_type_behind p ts f j (past_part h t).typed
    (subst (λ b. passes ts f j (element_start p b) ≡ false)
    (ap (λ y. y.typed) (sym (past_one l h w.trees)) ∙ sym (past_in_row p h i j x.trees w.trees (o.0, o.1, i, x.end, o.2) (row_typed p (spells.many_more l w.spelled) h)) ∙ ap (λ y. (past_part h y).typed) (sym q)) w.ended)

-- what is known of an answer holds
pub knows : {ts : List Lexeme} {limit : Limit} (g : Goal) (c e : Scopes) (i j : ℕ) (t : Trees) → Runs body ts limit (body g) c i (Done t e j) → Known ts g c i t e j
knows (m.row p h d) c e i j t x = row_ends p h d x
knows _ c e i j t x = tt
