-- A definition in the bare grammar's trees whose own parameters end in `...`: the subset's machine doesn't get past the brace of its body.
use Rattle.std.proofs.Common.{◌≡◌, ℕ, ◌+◌, ◌<◌, ◌≤◌, Bool, true, false, not, ◌&&◌, ◌==◌, List, ◌∷◌, ◌⊎◌, inl, inr, ⊎_elim, refl, sym, ap, subst, ◌∙◌, arith}
use Rattle.std.specs.Prelude.{if◌then◌else◌}
use Rattle.std.proofs.lemmas.Bool.{eqb-true, cases_Bool}
use Rattle.cr_syntax.specs.declared.word.Word.TheVariants as word
use Rattle.cr_syntax.specs.declared.node.Kind.{Kind}
use Rattle.cr_syntax.specs.declared.node.Kind.TheVariants as kind
use Rattle.cr_syntax.specs.declared.part.Part.{Part}
use Rattle.cr_syntax.specs.declared.part.Part.TheVariants as part
use Rattle.cr_syntax.specs.Symbols as symbol
use Rattle.cr_syntax.specs.declared.part.Context.{Context}
use Rattle.cr_syntax.specs.Words.{Lexeme}
use Rattle.cr_syntax.specs.Scopes.{Scopes}
use Rattle.cr_syntax.specs.Trees.{Trees, none, node, one, ◌&◌}
use Rattle.cr_syntax.specs.Context.{fresh, past_token, past_part, is_bare}
use Rattle.cr_syntax.specs.Grammar.{Side}
use Rattle.cr_syntax.specs.Grammar as grammar
use Rattle.cr_syntax.specs.Spells.{Limit, Spells, a, rest}
use Rattle.cr_syntax.specs.Spells as spells
use Rattle.cr_syntax.specs.Units.{Has, one_begins_at, after_first, own_parameters, ellipsis_at, variadic_definition}
use Rattle.cr_syntax_machine.specs.Machine.{Goal, Prog, anywhere, nowhere, named, Done, Runs, passes, the, has, call}
use Rattle.cr_syntax_machine.specs.Machine.{row, declarator, unit, externals, external, init_declarators, compound}
use Rattle.cr_syntax_machine.specs.Machine as machine
use Rattle.cr_syntax_machine.specs.MachineBody as program
use Rattle.cr_syntax_machine.specs.MachineBody.{body, is_variadic, ends_variadic, last_token, may_define}
use Rattle.cr_syntax.proofs.Tests.{both}
use Rattle.cr_syntax_machine_laws.proofs.MachineRuns.{reach}
use Rattle.cr_syntax_machine.proofs.MachineSpells.{Names, by_declarator, by_direct, is_one, forth, qualifiers_forth, own_first, after_one}
use Rattle.cr_syntax_machine_laws.proofs.MachineFirst.{none_true}
use Rattle.cr_syntax_machine_laws.proofs.MachineEnds.{Way, naming, Ends, end_refuse, end_pass, end_seen, end_no, end_here, end_behind, end_inside}
use Rattle.cr_syntax_machine_laws.proofs.MachineMeans.{IsDeclared, with_name, without}
use Rattle.cr_syntax_machine_laws.proofs.MachineSound.{runs_sound}
use Rattle.cr_syntax_machine_laws.proofs.MachineForms.{some_definition, mark, has_all, lacks_none, lacks_and, lacks_one, Clean, IsOne, Begun, direct_later, unmarked_by, declarator_is_one, declaration_parts}
use Rattle.cr_syntax_machine_laws.proofs.MachineLoose.{loose, looser, IsOwn, own_earlier, tightened}
use Rattle.cr_syntax_machine_laws.proofs.MachineTraces.{Traces, traces_idle, traced}
use Rattle.std.proofs.Math.Bool.{or-false}

-- Where a declarator's own parameters stand.

pub ellipsis_ends : (k : ℕ) (t : Trees) → ellipsis_at k t ≡ true → (ends_variadic t ≡ true) × (last_token t ≡ k)
ellipsis_ends k (node kind.VariadicParameters i j b n) q = let e : j ≡ k + 1 = eqb-true j (k + 1) q in (refl, omega arith)
ellipsis_ends k _ q = none_true q

-- a list of parameters that ends in `...` begins before it
ellipsis_behind : (k : ℕ) {l : Kind} {i j : ℕ} {b t : Trees} (u : Trees) → t ≡ one l i j b → ellipsis_at k (t & u) ≡ true → j ≡ k + 1
ellipsis_behind k {l = l} {i = i} {j = j} {b = b} u e q = by l (subst (λ x. ellipsis_at k (x & u) ≡ true) e q)
  where
    by : (l : Kind) → ellipsis_at k (one l i j b & u) ≡ true → j ≡ k + 1
    by kind.VariadicParameters q = eqb-true j (k + 1) q
    by _ q = none_true q

choose_one : (k : ℕ) (b : Bool) (t u : Trees) → ellipsis_at k (if b then t else u) ≡ true → (ellipsis_at k t ≡ true) ⊎ (ellipsis_at k u ≡ true)
choose_one k true t u q = inl q
choose_one k false t u q = inr q

module _ (us : List Lexeme) (limit : Limit) (k : ℕ) where
  prototype_own : {r : Side} {h : Context} {c e : Scopes} {d i j : ℕ} {t : Trees} → Spells us limit (rest (symbol.Prototype ∷ r)) h c e d t i j → ellipsis_at k t ≡ true → i ≤ k + 1
  prototype_own (spells.prototype_none s) q = none_true q
  prototype_own (spells.prototype_some {u = u} x s) q = let n = forth x in let e = ellipsis_behind k u (is_one x).2 q in omega arith

  pub own_later : {p : Part} {h : Context} {c e : Scopes} {d i j : ℕ} {t : Trees} → Names p → Spells us limit (a p) h c e d t i j → ellipsis_at k (own_parameters t) ≡ true → i < k
  own_later by_declarator (spells.of_chain grammar.declarator_direct f s) q = own_later by_direct s q
  own_later by_declarator (spells.of_alternative grammar.pointer_declarator f (spells.opens q' w (spells.qualified y x))) q =
      let n = qualifiers_forth y in let n' = own_later by_declarator x q in omega arith
  own_later by_direct (spells.of_chain m f s) q = elim m [ ]
  own_later by_direct (spells.of_alternative grammar.name_declarator f s) q = none_true q
  own_later by_direct (spells.of_alternative grammar.group_declarator f (spells.opens q' w (spells.part {u = u} x s))) q =
      let n = own_later by_declarator x (subst (λ y. ellipsis_at k y ≡ true) (own_first (is_one x).2 u) q) in omega arith
  own_later by_direct (spells.of_alternative grammar.array_declarator f (spells.part {u = u} x s)) q = own_later by_direct x (subst (λ y. ellipsis_at k y ≡ true) (own_first (is_one x).2 u) q)
  own_later by_direct (spells.of_alternative grammar.function_declarator f (spells.part {t = t} {u = u} x (spells.opens q' w s))) q = ⊎_elim
      (λ y. let n = direct_later x in let n' = prototype_own s (subst (λ z. ellipsis_at k z ≡ true) (after_one (is_one x).2 u) y) in omega arith)
      (λ y. own_later by_direct x (subst (λ z. ellipsis_at k z ≡ true) (own_first (is_one x).2 u) y))
      (choose_one k (is_bare (t & u)) (after_first (t & u)) (own_parameters (t & u)) q)

-- Token k is the `...`, token m the brace of the body.

-- where the subset's machine may be refused: before token k, or at the brace for the `...`
pub data Fits (k m : ℕ) : Way → ℕ → Type 0 where
  before : {w : Way} {n : ℕ} → n < k → Fits k m w n
  at_brace : Fits k m (naming k 8) m

module _ (us : List Lexeme) (limit : Limit) (k m : ℕ) where
  abbrev Reads : Goal → Scopes → ℕ → Trees → Scopes → ℕ → Type 0
  Reads g c i t e j = Runs body us limit (body g) c i (Done t e j)

  -- no such definition stands in the trees
  abbrev pub Lacks : Trees → Type 0
  Lacks t = Has (variadic_definition k m) t → ⊥

  -- it is refused so, in a way of its own, and begins before token k
  pub record Caught (p : Prog) (c : Scopes) (i : ℕ) : Type 0 where
    pub way : Way
    pub at : ℕ
    pub own : IsOwn us at way
    pub ends : Ends body us limit p c i way at
    pub fits : Fits k m way at
    pub starts : i < k

  caught_on : {p q : Prog} {c e : Scopes} {i j : ℕ} → Caught p c i → j ≤ i → ((w : Way) (n : ℕ) → Ends body us limit p c i w n → Ends body us limit q e j w n) → Caught q e j
  caught_on x le f = let n = x.starts in record { way = x.way; at = x.at; own = x.own; ends = f x.way x.at x.ends; fits = x.fits; starts = omega arith }

  passed : (g : Goal) {f : Trees → Prog} {c e : Scopes} {i j : ℕ} {t : Trees} → Reads (loose g) c i t e j → Caught (f t) e j → Caught (call g f) c i
  passed g h x = let n = x.starts in let n' = reach h in ⊎_elim
      (λ h'. caught_on x n' (λ w n. end_behind h'))
      (λ d. let le = d.by in record { way = d.way; at = d.at; own = d.own; ends = end_inside d.ends; fits = before (omega arith); starts = omega arith })
      (tightened (looser g) h)

  -- trees without a definition
  definition_kind : (l : Kind) (i j : ℕ) (b : Trees) → variadic_definition k m l i j b ≡ true → mark some_definition 0 l i j b ≡ true
  definition_kind kind.FunctionDefinition i j b q = refl
  definition_kind _ i j b q = none_true q

  lacks_all : (t : Trees) → Clean some_definition 0 t → Lacks t
  lacks_all t x h = x (has_all definition_kind h)

  -- What a goal of the bare grammar reads, and the subset's goal in its place.
  abbrev pub Defines : Goal → Scopes → ℕ → Trees → Scopes → ℕ → Type 0
  Defines (unit anywhere d) c i t e j = Lacks t ⊎ Caught (body (unit nowhere d)) c i
  Defines (externals anywhere d x) c i t e j = Lacks x → Lacks t ⊎ Caught (body (externals nowhere d x)) c i
  Defines (external anywhere d) c i t e j = Lacks t ⊎ Caught (body (external nowhere d)) c i
  Defines g c i t e j = Unit {0}

  abbrev Owes : Prog → (Trees → Scopes → ℕ → Type 0) → Scopes → ℕ → Type 0
  Owes = Traces body us limit Defines

  -- the parts of a definition that the test asks
  pub record IsVariadic (t : Trees) (i : ℕ) : Type 0 where
    pub ends : is_variadic t ≡ true
    pub last : last_token (own_parameters t) ≡ k
    pub ellipsis : ellipsis_at k (own_parameters t) ≡ true
    pub brace : i ≡ m

  asked : {l : Kind} {s p i : ℕ} {b t t' u : Trees} → t ≡ one l s p b → IsOne t' → Begun i u →
      ellipsis_at k (own_parameters (after_first (t & t' & u & none))) && one_begins_at m (after_first (after_first (t & t' & u & none))) ≡ true → IsVariadic t' i
  asked {i = i} {t = t} {t' = t'} {u = u} q o v y =
      let y' = subst (λ z. ellipsis_at k (own_parameters z) && one_begins_at m (after_first z) ≡ true) (after_one q (t' & u & none)) y in
      let w = both (ellipsis_at k (own_parameters (t' & u & none))) (one_begins_at m (after_first (t' & u & none))) y' in
      let x = subst (λ z. ellipsis_at k z ≡ true) (own_first o.is (u & none)) w.0 in
      let x' = ellipsis_ends k (own_parameters t') x in
      record {
        ends = x'.0;
        last = x'.1;
        ellipsis = x;
        brace = eqb-true i m (sym (or-false (i == m)) ∙ subst (λ z. one_begins_at m (z & none) ≡ true) v.is (subst (λ z. one_begins_at m z ≡ true) (after_one o.is (u & none)) w.1));
      }

  refused_there : {t : Trees} {c : Scopes} {i : ℕ} {p : Prog} → IsVariadic t i → Ends body us limit (machine.when (may_define nowhere t) p (machine.refuse (last_token (own_parameters t)) 8)) c i (naming k 8) m
  refused_there {t = t} {c = c} {i = i} {p = p} v =
      subst (λ n. Ends body us limit (machine.when (may_define nowhere t) p (machine.refuse (last_token (own_parameters t)) 8)) c i (naming k 8) n) v.brace
      (subst (λ n. Ends body us limit (machine.when (may_define nowhere t) p (machine.refuse (last_token (own_parameters t)) 8)) c i (naming n 8) i) v.last
      (end_no (ap not v.ends) end_refuse))

  declared_later : {h : Context} {d i j : ℕ} {c e : Scopes} {t : Trees} → Reads (declarator named h d) c i t e j → ellipsis_at k (own_parameters t) ≡ true → i < k
  declared_later {h = h} {d = d} {i = i} {j = j} {c = c} {e = e} {t = t} g q = by (runs_sound (declarator named h d) c e i j t g)
    where
      by : IsDeclared us limit named h d c i t e j → i < k
      by (with_name z z' o s) = own_later us limit k by_declarator s q
      by (without z z' s) = none_true z'

  definition_caught : {d i j j' j'' : ℕ} {t t' t'' : Trees} {c c'' e e' e'' : Scopes} → Reads (row part.Specifiers fresh d) c i t e j → passes us e j (the word.Semicolon) ≡ false →
      Reads (declarator named (past_part fresh t) d) e j t' e' j' → passes us e' j' (the word.LeftBrace) ≡ true → Reads (compound anywhere d) c'' j' t'' e'' j'' →
      ellipsis_at k (own_parameters (after_first (t & t' & t'' & none))) && one_begins_at m (after_first (after_first (t & t' & t'' & none))) ≡ true → Caught (body (external nowhere d)) c i
  definition_caught {d = d} {i = i} {j = j} {t = t} {c = c} {e = e} h y h' y' h'' q =
      let v = asked (is_one (runs_sound (row part.Specifiers fresh d) c e i j t h)).2 (declarator_is_one some_definition refl us limit h') (unmarked_by some_definition refl us limit (compound anywhere d) h'').1 q in
      let n = reach h in
      let n' = declared_later h' v.ellipsis in
      record {
        way = naming k 8;
        at = m;
        own = own_earlier;
        ends = end_here (end_behind h (end_pass y (end_here (end_behind h' (end_seen y' (refused_there v))))));
        fits = at_brace;
        starts = omega arith;
      }

  definition_lacks : {d i j j' j'' : ℕ} {t t' t'' : Trees} {c c'' e e' e'' : Scopes} → Reads (row part.Specifiers fresh d) c i t e j → Reads (declarator named (past_part fresh t) d) e j t' e' j' →
      Reads (compound anywhere d) c'' j' t'' e'' j'' → variadic_definition k m kind.FunctionDefinition i j'' (t & t' & t'' & none) ≡ false → Lacks (one kind.FunctionDefinition i j'' (t & t' & t'' & none))
  definition_lacks {d = d} {t = t} {t' = t'} {t'' = t''} h h' h'' q = lacks_one q
      (lacks_and t (t' & t'' & none) (lacks_all t (unmarked_by some_definition refl us limit (row part.Specifiers fresh d) h))
      (lacks_and t' (t'' & none) (lacks_all t' (unmarked_by some_definition refl us limit (declarator named (past_part fresh t) d) h'))
      (lacks_and t'' none (lacks_all t'' ((unmarked_by some_definition refl us limit (compound anywhere d) h'').0 refl)) lacks_none)))

  external_owes : (d : ℕ) (c : Scopes) (i : ℕ) → Owes (body (external anywhere d)) (Defines (external anywhere d) c i) c i
  external_owes d c i = λ t e j h _. (
    λ y a. inl (lacks_one refl (lacks_and t none (lacks_all t (unmarked_by some_definition refl us limit (row part.Specifiers fresh d) h)) lacks_none)),
    λ y t' e' j' h' _. (
      λ y'. (
        λ _ t'' e'' j'' h'' _. ⊎_elim (λ q. inr (definition_caught h y h' y' h'' q)) (λ q. inl (definition_lacks h h' h'' q)) (cases_Bool (variadic_definition k m kind.FunctionDefinition i j'' (t & t' & t'' & none))),
        λ _. tt,
      ),
      λ y' t1 e1 j1 h1 _. (
        λ y2 a2 t2 e2 j2 h2 _. inl (lacks_all t2 (unmarked_by some_definition refl us limit (init_declarators (past_token (past_part fresh t)) d i ((t & none) & t1 & none)) h2
            (declaration_parts some_definition refl us limit h h' h1))),
        λ y2. (λ y3 a3. inl (lacks_one refl (lacks_all ((t & none) & t1 & none) (declaration_parts some_definition refl us limit h h' h1))), λ y3. tt),
      ),
    ),
  )

  unit_owes : (d : ℕ) (c : Scopes) (i : ℕ) → Owes (body (unit anywhere d)) (Defines (unit anywhere d) c i) c i
  unit_owes d c i = λ t e j h z t' e' j' h' z'. ⊎_elim
      (λ u. ⊎_elim (λ r. inl r) (λ r. inr (on t h r)) (z' (lacks_and t none u lacks_none)))
      (λ r. inr (caught_on r (omega arith) (λ w n v. end_inside v))) z
    where
      on : (t : Trees) {e : Scopes} {j : ℕ} → Reads (external anywhere d) c i t e j → Caught (body (externals nowhere d (t & none))) e j → Caught (body (unit nowhere d)) c i
      on t h x = passed (external nowhere d) {f = λ u. call (externals nowhere d (u & none)) machine.give} h (caught_on x (omega arith) (λ w n v. end_inside v))

  externals_owe : (d : ℕ) (x : Trees) (c : Scopes) (i : ℕ) → Owes (body (externals anywhere d x)) (Defines (externals anywhere d x) c i) c i
  externals_owe d x c i = (
    λ y t e j h z t' e' j' h' z' v. ⊎_elim
        (λ u. ⊎_elim (λ r. inl r) (λ r. inr (on y t h r)) (z' (lacks_and x (t & none) v (lacks_and t none u lacks_none))))
        (λ r. inr (caught_on r (omega arith) (λ w n v'. end_seen y (end_inside v')))) z,
    λ y v. inl v,
  )
    where
      on : passes us c i (has program.is_any) ≡ true → (t : Trees) {e : Scopes} {j : ℕ} → Reads (external anywhere d) c i t e j → Caught (body (externals nowhere d (x & t & none))) e j →
          Caught (body (externals nowhere d x)) c i
      on y t h z = caught_on (passed (external nowhere d) {f = λ u. call (externals nowhere d (x & u & none)) machine.give} h (caught_on z (omega arith) (λ w n v. end_inside v))) (omega arith) (λ w n v. end_seen y v)

  owes : (g : Goal) (c : Scopes) (i : ℕ) → Owes (body g) (Defines g c i) c i
  owes (unit anywhere d) c i = unit_owes d c i
  owes (externals anywhere d x) c i = externals_owe d x c i
  owes (external anywhere d) c i = external_owes d c i
  owes g c i = traces_idle body us limit Defines (body g) c i

  -- a unit of the bare grammar has no such definition, or the subset's machine is refused at its brace or before the `...`
  pub definitions_caught : {t : Trees} {c e : Scopes} {d i j : ℕ} → Reads (unit anywhere d) c i t e j → Lacks t ⊎ Caught (body (unit nowhere d)) c i
  definitions_caught {c = c} {d = d} {i = i} h = traced body us limit Defines owes h (Defines (unit anywhere d) c i) (owes (unit anywhere d) c i)
