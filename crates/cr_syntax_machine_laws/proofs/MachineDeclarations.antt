-- The machine reads what is spelled as declarations, initializers and external definitions, where it reads all that is smaller.
use Rattle.std.proofs.Common.{◌≡◌, ℕ, suc, ◌+◌, ◌<◌, Bool, true, false, List, [], ◌∷◌, refl, sym, subst, arith}
use Rattle.cr_syntax.specs.declared.word.Word.{Word}
use Rattle.cr_syntax.specs.declared.word.Word.TheVariants as word
use Rattle.cr_syntax.specs.declared.node.Kind.TheVariants as kind
use Rattle.cr_syntax.specs.declared.part.Part.TheVariants as part
use Rattle.cr_syntax.specs.Symbols as symbol
use Rattle.cr_syntax.specs.declared.part.Context.{Context}
use Rattle.cr_syntax.specs.declared.scopes.TypeName.{TypeName}
use Rattle.cr_syntax.specs.Words.{Lexeme}
use Rattle.cr_syntax.specs.Scopes.{Scopes, enter}
use Rattle.cr_syntax.specs.Trees.{Trees, none, one, ◌&◌}
use Rattle.cr_syntax.specs.Context.{fresh, past_token, past_part, declared_name}
use Rattle.cr_syntax.specs.Grammar.{inner_list, list, many, token}
use Rattle.cr_syntax.specs.Grammar as grammar
use Rattle.cr_syntax.specs.Spells.{Limit, Is, Spells, a, rest}
use Rattle.cr_syntax.specs.Spells as spells
use Rattle.cr_syntax.specs.Reads.{is_word}
use Rattle.cr_syntax_machine.specs.Machine.{Prog, Reply, Done, has_word, give, call, the, run_give, run_take, run_pass, run_free, run_seen, run_unseen, run_yes, run_here, run_look, run_set, run_bring, run_call}
use Rattle.cr_syntax_machine.specs.Machine as m
use Rattle.cr_syntax_machine.specs.MachineBody.{is_designator, is_any, declares, enters, defined, declared_on, declaration_end}
use Rattle.cr_syntax_machine_laws.specs.MachineLaws.{IsFree}
use Rattle.cr_syntax_machine.proofs.MachineSpells.{and_none, and_and, pushed, name_brought}
use Rattle.cr_syntax_machine.proofs.MachineSpells as facts
use Rattle.cr_syntax_machine_laws.proofs.MachineFirst.{none_true, yes, differs, sorted, free_by, tail, starts, First, by_word, never, never_brace, not_first, first_assignment}
use Rattle.cr_syntax_machine_laws.proofs.MachineFirst as first
use Rattle.cr_syntax_machine_laws.proofs.MachineTasks.{measure, Closes, by_paren, by_comma, by_semicolon, by_closing, by_equal, by_brace, Goes, Answers, Completes, Smaller}
use Rattle.cr_syntax_machine_laws.proofs.MachineTasks as task
use Rattle.cr_syntax_machine_laws.proofs.MachineBegins.{ElementFirst, by_storage, of_plain, by_plain, by_type, specifiers_first, NamedFirst, by_star, by_name, named_first}
use Rattle.cr_syntax_machine_laws.proofs.MachineBegins as begin
use Rattle.cr_syntax_machine_laws.proofs.MachineExpressions.{closing_run}
use Rattle.cr_syntax_machine_laws.proofs.MachineTypes.{closes_row, closes_apart, named_row, named_apart, trailing_run}
use Rattle.cr_syntax_machine_laws.proofs.MachineDeclarators.{closes_other}

-- First tokens.

no_designator : {ts : List Lexeme} {c : Scopes} {i : ℕ} → First ts c i → has_word ts i is_designator ≡ false
no_designator (by_word {w = w} q s) = sorted is_designator false q (by w s)
  where
    by : (w : Word) → starts w ≡ true → is_designator w ≡ false
    by word.Dot s = none_true s
    by word.LeftBracket s = none_true s
    by _ s = refl
no_designator (first.by_name q) = sorted is_designator false q.0 refl

named_other : {ts : List Lexeme} {c : Scopes} {i : ℕ} {typed : Bool} → NamedFirst ts c i typed → is_word ts i word.Semicolon ≡ false
named_other (by_star q) = differs q word.Semicolon refl
named_other (begin.by_paren q) = differs q word.Semicolon refl
named_other (by_name q g) = differs q word.Semicolon refl

element_any : {ts : List Lexeme} {c : Scopes} {i : ℕ} {typed : Bool} → ElementFirst ts c i typed → has_word ts i is_any ≡ true
element_any (by_storage q s) = sorted is_any true q refl
element_any (of_plain (by_plain q s)) = sorted is_any true q refl
element_any (of_plain (by_type q s)) = sorted is_any true q.0 refl

closes_free : {ts : List Lexeme} {j : ℕ} → Closes ts j → IsFree ts 12 j
closes_free (by_paren q) = free_by q (omega arith)
closes_free (by_comma q) = free_by q (omega arith)
closes_free (by_semicolon q) = free_by q (omega arith)

module _ (ts : List Lexeme) (limit : Limit) where
  initializer_apart : {h : Context} {c e : Scopes} {d i j : ℕ} {t : Trees} → Spells ts limit (a part.Initializer) h c e d t i j → is_word ts i word.RightBrace ≡ false
  initializer_apart (spells.of_chain grammar.initializer_expression f s) = not_first (first_assignment s) word.RightBrace refl refl
  initializer_apart (spells.of_alternative grammar.initializer_list f (spells.opens q w s)) = differs q word.RightBrace refl

  initializers_apart : {h : Context} {c e : Scopes} {d i j : ℕ} {t : Trees} → Spells ts limit (rest (inner_list part.Initializer ∷ symbol.TrailingComma ∷ [])) h c e d t i j → is_word ts i word.RightBrace ≡ false
  initializers_apart (spells.list_last x s) = initializer_apart x
  initializers_apart (spells.list_more x q w s) = initializer_apart x

  init_named : {h : Context} {c e : Scopes} {d i j : ℕ} {t : Trees} → Spells ts limit (a part.InitDeclarator) h c e d t i j → NamedFirst ts c i h.typed
  init_named (spells.of_chain x f s) = elim x [ ]
  init_named (spells.of_alternative grammar.init_declarator f (spells.part x s)) = named_first facts.by_declarator x
  init_named (spells.init_declarator_alone s) = named_first facts.by_declarator s

  init_list_first : {h : Context} {c e : Scopes} {d i j : ℕ} {t : Trees} → Spells ts limit (rest (list part.InitDeclarator ∷ token word.Semicolon ∷ [])) h c e d t i j → NamedFirst ts c i h.typed
  init_list_first (spells.list_last x s) = init_named x
  init_list_first (spells.list_more x q w s) = init_named x

  pub declaration_first : {h : Context} {c e : Scopes} {d i j : ℕ} {t : Trees} → Spells ts limit (a part.Declaration) h c e d t i j → ElementFirst ts c i false
  declaration_first (spells.of_chain x f s) = elim x [ ]
  declaration_first (spells.of_alternative grammar.declaration f (spells.part x s)) = specifiers_first x

  external_first : {h : Context} {c e : Scopes} {d i j : ℕ} {t : Trees} → Spells ts limit (a part.External) h c e d t i j → ElementFirst ts c i false
  external_first (spells.of_chain grammar.external_declaration f s) = declaration_first s
  external_first (spells.of_alternative grammar.function_definition f (spells.part x s)) = specifiers_first x

  pub compound_first : {h : Context} {c e : Scopes} {d i j : ℕ} {t : Trees} → Spells ts limit (a part.Compound) h c e d t i j → Is ts i word.LeftBrace
  compound_first (spells.of_chain x f s) = elim x [ ]
  compound_first (spells.of_alternative grammar.compound_statement f (spells.begins (spells.opens q w s))) = q

  -- Names.

  declares_goes : {h : Context} {c e : Scopes} {own : List TypeName} {d i j : ℕ} {t : Trees} {r : Reply} (p : Prog) (h' : Context) → Spells ts limit (a part.Declarator) h c (own ∷ e) d t i j →
      Goes ts limit p (enter (declared_name ts (past_part h' t)) e) j r → Goes ts limit (declares h' t p) (own ∷ e) j r
  declares_goes {e = e} {j = j} {r = r} p h' s z = run_look (run_set (run_bring (subst (λ y. Goes ts limit p (enter y e) j r) (sym (name_brought s h')) z)))

  enters_goes : {h : Context} {c e : Scopes} {own : List TypeName} {d i j : ℕ} {t : Trees} {r : Reply} (p : Prog) (h' : Context) → Spells ts limit (a part.Declarator) h c (own ∷ e) d t i j →
      Goes ts limit p (own ∷ enter (declared_name ts (past_part h' t)) e) j r → Goes ts limit (enters h' t p) (own ∷ e) j r
  enters_goes {e = e} {own = own} {j = j} {r = r} p h' s z = run_look (run_set (run_bring (run_look (run_set (subst (λ y. Goes ts limit p (own ∷ enter y e) j r) (sym (name_brought s h')) z)))))

  module _ (n : ℕ) (b : Smaller ts limit n) where
    -- Initializers.

    pub initializer_reads : {h : Context} {c e : Scopes} {d i j : ℕ} {t : Trees} (s : Spells ts limit (a part.Initializer) h c e d t i j) → measure s < suc n → Completes ts limit task.initializer h c e d t i j
    initializer_reads (spells.of_chain grammar.initializer_expression f s) lt = λ fr.
        run_here (run_free (no_designator (first_assignment s)) (run_pass (never (first_assignment s) never_brace) (tail (b.read task.assignment s (omega arith) fr))))
    initializer_reads {i = i} (spells.of_alternative grammar.initializer_list f (spells.opens q w s)) lt = λ fr.
        run_here (run_free (sorted is_designator false q refl) (run_take (yes q) w (tail (b.read task.initializers s (omega arith) i none))))

    pub initializers_read : {h : Context} {c e : Scopes} {d i j : ℕ} {t : Trees} (s : Spells ts limit (rest (inner_list part.Initializer ∷ symbol.TrailingComma ∷ [])) h c e d t i j) → measure s < suc n →
        Completes ts limit task.initializers h c e d t i j
    initializers_read {c = c} {d = d} {i = i} (spells.list_last {e = c'} {j = k} {t = t} x s) lt =
        trailing_run ts limit n b s (λ e u j. (s : ℕ) (y : Trees) → Answers ts limit (m.initializers d s y) c i (one kind.InitializerList s j (y & t)) e j)
        (λ q w s y. subst (λ z. Answers ts limit (m.initializers d s y) c i (one kind.InitializerList s (k + 1) (y & z)) c' (k + 1)) (and_none t)
        (run_call (b.read task.initializer x (omega arith) (free_by q (omega arith))) (run_pass (differs q word.Comma refl) (run_take (yes q) w (run_here run_give)))))
        (λ q w q' w' s y. subst (λ z. Answers ts limit (m.initializers d s y) c i (one kind.InitializerList s (k + 1 + 1) (y & z)) c' (k + 1 + 1)) (and_none t)
        (run_call (b.read task.initializer x (omega arith) (free_by q (omega arith))) (run_take (yes q) w (run_take (yes q') w' (run_here run_give)))))
    initializers_read {c = c} {e = e} {d = d} {i = i} {j = j} (spells.list_more {t = t} {u = u} x q w k) lt = λ s y.
        subst (λ z. Answers ts limit (m.initializers d s y) c i (one kind.InitializerList s j z) e j) (pushed y t u)
        (run_call (b.read task.initializer x (omega arith) (free_by q (omega arith))) (run_take (yes q) w (run_pass (initializers_apart k)
        (tail (b.read task.initializers k (omega arith) s (y & t & none))))))

    -- Declarations.

    -- a declarator with its initializer or none, and what follows where it ends
    init_goes : {h : Context} {c e : Scopes} {d i j : ℕ} {t : Trees} {r : Reply} (x : Spells ts limit (a part.InitDeclarator) h c e d t i j) → measure x < suc n → Closes ts j → (s : ℕ) (y : Trees) (f : Trees → Prog) →
        ((u : Trees) (e' : Scopes) (k : ℕ) (r : Reply) → is_word ts k word.LeftBrace ≡ false → Goes ts limit (declared_on h d s y i u) e' k r → Goes ts limit (f u) e' k r) →
        Goes ts limit (declaration_end h d s y t) e j r → Goes ts limit (call (m.declarator m.named h d) f) c i r
    init_goes (spells.of_chain x f' s') lt o s y f g z = elim x [ ]
    init_goes {h = h} {d = d} {i = i} {j = j} {t = t} {r = r} (spells.init_declarator_alone {e = e} {own = own} x) lt o s y f g z =
        run_call (b.read task.declarator x (omega arith) m.named refl (by_closing o)) (g t (own ∷ e) j r (closes_apart o)
        (declares_goes (call (m.initialized d i t) (λ u. declaration_end h d s y u)) h x (run_call (run_pass (closes_other o word.Equal refl refl refl) run_give) z)))
    init_goes {h = h} {d = d} {i = i} {r = r} (spells.of_alternative grammar.init_declarator f' (spells.part {j = k} {t = t} x (spells.enters {c = e} {own = own} (spells.ends (spells.token q w (spells.part v spells.done)))))) lt o s y f g z =
        run_call (b.read task.declarator x (omega arith) m.named refl (by_equal q)) (g t (own ∷ e) k r (differs q word.LeftBrace refl)
        (declares_goes (call (m.initialized d i t) (λ u. declaration_end h d s y u)) h x
        (run_call (run_take (yes q) w (run_call (b.read task.initializer v (omega arith) (closes_free o)) (run_here run_give))) z)))

    pub init_declarators_read : {h : Context} {c e : Scopes} {d i j : ℕ} {t : Trees} (s : Spells ts limit (rest (list part.InitDeclarator ∷ token word.Semicolon ∷ [])) h c e d t i j) → measure s < suc n →
        Completes ts limit task.init_declarators h c e d t i j
    init_declarators_read {h = h} {c = c} {d = d} {i = i} (spells.list_last {e = c'} {j = k} {t = t} x s) lt =
        closing_run ts limit s (λ e u j. Completes ts limit task.init_declarators h c e d t i j) (λ q w s y f g.
        init_goes x (omega arith) (by_semicolon q) s y f g (run_pass (differs q word.Comma refl) (run_take (yes q) w (run_here
        (subst (λ z. Goes ts limit (give (one kind.Declaration s (k + 1) (y & t & none))) c' (k + 1) (Done (one kind.Declaration s (k + 1) (y & z)) c' (k + 1))) (and_none t) run_give)))))
    init_declarators_read {h = h} {c = c} {e = e} {d = d} {i = i} {j = j} (spells.list_more {j = k} {t = t} {u = u} x q w l) lt = λ s y f g.
        subst (λ z. Goes ts limit (call (m.declarator m.named h d) f) c i (Done (one kind.Declaration s j z) e j)) (pushed y t u)
        (init_goes x (omega arith) (by_comma q) s y f g (run_take (yes q) w (tail (run_here
        (b.read task.init_declarators l (omega arith) s (y & t & none) (declared_on (past_token h) d s (y & t & none) (k + 1)) (λ u e k r n z. z))))))

    pub declaration_reads : {h : Context} {c e : Scopes} {d i j : ℕ} {t : Trees} (s : Spells ts limit (a part.Declaration) h c e d t i j) → measure s < suc n → Completes ts limit task.declaration h c e d t i j
    declaration_reads (spells.of_chain x f s) lt = elim x [ ]
    declaration_reads {h = h} {c = c} {d = d} {i = i} (spells.of_alternative grammar.declaration f (spells.part {e = c'} {j = k} {t = t} x (spells.list_none s))) lt =
        closing_run ts limit s (λ e u j. Answers ts limit (m.declaration d) c i (one kind.Declaration i j (t & none)) e j) (λ q w.
        run_here (run_call (b.read task.specifiers x (omega arith) (closes_row part.Specifiers ts c' k (past_part fresh t).typed (by_semicolon q)) (differs q word.LeftBrace refl))
        (run_take (yes q) w (run_here run_give))))
    declaration_reads {c = c} {e = e} {d = d} {i = i} {j = j} (spells.of_alternative grammar.declaration f (spells.part {e = c'} {j = k} {t = t} {u = u} x (spells.list_some s))) lt =
        let o = init_list_first s in
        subst (λ z. Answers ts limit (m.declaration d) c i (one kind.Declaration i j z) e j) (and_and t none u)
        (run_here (run_call (b.read task.specifiers x (omega arith) (named_row part.Specifiers ts c' k (past_part fresh t).typed o) (named_apart o))
        (run_pass (named_other o) (tail (run_here
        (b.read task.init_declarators s (omega arith) i (t & none) (declared_on (past_part fresh t) d i (t & none) k) (λ u e k r n z. z)))))))

    -- External definitions.

    pub external_reads : {h : Context} {c e : Scopes} {d i j : ℕ} {t : Trees} (s : Spells ts limit (a part.External) h c e d t i j) → measure s < suc n → Completes ts limit task.external h c e d t i j
    external_reads (spells.of_chain grammar.external_declaration f' (spells.of_chain x f s)) lt = elim x [ ]
    external_reads {h = h} {c = c} {d = d} {i = i} (spells.of_chain grammar.external_declaration f' (spells.of_alternative grammar.declaration f (spells.part {e = c'} {j = k} {t = t} x (spells.list_none s)))) lt =
        closing_run ts limit s (λ e u j. Completes ts limit task.external h c e d (one kind.Declaration i j (t & none)) i j) (λ q w.
        run_here (run_call (b.read task.specifiers x (omega arith) (closes_row part.Specifiers ts c' k (past_part fresh t).typed (by_semicolon q)) (differs q word.LeftBrace refl))
        (run_take (yes q) w (run_here run_give))))
    external_reads {c = c} {e = e} {d = d} {i = i} {j = j} (spells.of_chain grammar.external_declaration f' (spells.of_alternative grammar.declaration f (spells.part {e = c'} {j = k} {t = t} {u = u} x (spells.list_some s)))) lt =
        let o = init_list_first s in
        subst (λ z. Answers ts limit (m.external m.anywhere d) c i (one kind.Declaration i j z) e j) (and_and t none u)
        (run_here (run_call (b.read task.specifiers x (omega arith) (named_row part.Specifiers ts c' k (past_part fresh t).typed o) (named_apart o))
        (run_pass (named_other o) (run_here (b.read task.init_declarators s (omega arith) i (t & none)
        (λ u. m.peek (the word.LeftBrace) (defined m.anywhere d i t u) (declared_on (past_part fresh t) d i (t & none) k u)) (λ u e k r n z. run_unseen n z))))))
    external_reads {i = i} {j = j} (spells.of_alternative grammar.function_definition f (spells.part {e = c'} {j = k} {t = t} x (spells.part {t = u} y (spells.enters (spells.part {t = v} z (spells.ends spells.done)))))) lt =
        let o = named_first facts.by_declarator y in
        run_here (run_call (b.read task.specifiers x (omega arith) (named_row part.Specifiers ts c' k (past_part fresh t).typed o) (named_apart o))
        (run_pass (named_other o) (run_here (run_call (b.read task.declarator y (omega arith) m.named refl (by_brace (compound_first z)))
        (run_seen (yes (compound_first z)) (run_yes refl (enters_goes _ (past_part fresh t) y
        (run_call (b.read task.compound z (omega arith)) (run_look (run_set (run_here run_give)))))))))))

    pub externals_read : {h : Context} {c e : Scopes} {d i j : ℕ} {t : Trees} (s : Spells ts limit (rest (many part.External ∷ [])) h c e d t i j) → measure s < suc n → Completes ts limit task.externals h c e d t i j
    externals_read {c = c} {d = d} {i = i} (spells.many_none spells.done) lt = λ x no.
        subst (λ y. Answers ts limit (m.externals m.anywhere d x) c i y c i) (sym (and_none x)) (run_unseen no run_give)
    externals_read {c = c} {e = e} {d = d} {i = i} {j = j} (spells.many_more {t = t} {u = u} x k) lt = λ y no.
        subst (λ z. Answers ts limit (m.externals m.anywhere d y) c i z e j) (pushed y t u)
        (run_seen (element_any (external_first x)) (run_call (b.read task.external x (omega arith))
        (tail (b.read task.externals k (omega arith) (y & t & none) no))))
