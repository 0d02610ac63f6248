-- The machine reads what is spelled as declarators and parameters, where it reads all that is smaller.
use Rattle.std.proofs.lemmas.Bool.{or_left, or_right, or_from}
use Rattle.std.proofs.Common.{◌≡◌, ℕ, suc, ◌+◌, ◌<◌, Bool, true, false, not, ◌&&◌, ◌||◌, List, [], ◌∷◌, refl, sym, ap, subst, ◌∙◌, arith, inl, inr}
use Rattle.std.specs.Prelude.{if◌then◌else◌}
use Rattle.cr_syntax.specs.declared.word.Word.{Word}
use Rattle.cr_syntax.specs.declared.word.Word.TheVariants as word
use Rattle.cr_syntax.specs.declared.node.Kind.{Kind}
use Rattle.cr_syntax.specs.declared.node.Kind.TheVariants as kind
use Rattle.cr_syntax.specs.declared.part.Part.{Part}
use Rattle.cr_syntax.specs.declared.part.Part.TheVariants as part
use Rattle.cr_syntax.specs.Symbols as symbol
use Rattle.cr_syntax.specs.declared.part.Context.{Context}
use Rattle.cr_syntax.specs.Words.{Lexeme, spelling_at}
use Rattle.cr_syntax.specs.Scopes.{Scopes, is_type, enter}
use Rattle.cr_syntax.specs.Trees.{Trees, none, one, ◌&◌}
use Rattle.cr_syntax.specs.Context.{fresh, past_token, past_part, may_stand}
use Rattle.cr_syntax.specs.Grammar.{Side, list, closing, token}
use Rattle.cr_syntax.specs.Grammar as grammar
use Rattle.cr_syntax.specs.Spells.{Limit, Is, Stands, Qualifies, AreQualifiers, qualifiers_none, qualifiers_more, Spells, a, rest}
use Rattle.cr_syntax.specs.Spells as spells
use Rattle.cr_syntax.specs.Reads.{is_word, same_word}
use Rattle.cr_syntax_machine.specs.Machine.{Prog, Wanted, Reply, Done, plain, opens, give, take, call, made, run_give, run_take, run_pass, run_seen, run_unseen, run_yes, run_no, run_here, run_look, run_set, run_bring, run_call}
use Rattle.cr_syntax_machine.specs.Machine as m
use Rattle.cr_syntax_machine.specs.MachineBody.{qualifier, plain_words, is_abstract_start, is_declarator_start, in_parameters, declarator_start, array_start, pointer_end, may_name, may_omit}
use Rattle.cr_syntax_machine.proofs.MachineSpells.{and_none, and_and, pushed}
use Rattle.cr_syntax_machine_laws.proofs.MachineFirst.{none_true, yes, differs, sorted, free_by, row_found, tail, never, never_bracket, first_conditional}
use Rattle.cr_syntax_machine_laws.proofs.MachineSound.{part_some, pushed_some, two_parameters, bare_is}
use Rattle.cr_syntax_machine.proofs.MachineSpells.{is_one, name_brought}
use Rattle.cr_syntax_machine.proofs.MachineSpells as facts
use Rattle.cr_syntax_machine_laws.proofs.MachineTasks.{measure, Closes, by_paren, by_comma, by_semicolon, EndsName, by_closing, by_equal, by_brace, Goes, Answers, Completes, Smaller}
use Rattle.cr_syntax_machine_laws.proofs.MachineTasks as task
use Rattle.cr_syntax_machine_laws.proofs.MachineBegins.{ElementFirst, never_element, no_ellipsis, no_right_paren, parameter_first, NamedFirst, by_star, by_name, named_first, UnnamedFirst, at_star, at_paren, at_bracket, unnamed_first, owned, is_named, is_unnamed}
use Rattle.cr_syntax_machine_laws.proofs.MachineBegins as begin
use Rattle.cr_syntax_machine_laws.proofs.MachineExpressions.{closing_run}
use Rattle.cr_syntax_machine_laws.proofs.MachineMeans.{IsOpen}
use Rattle.cr_syntax_machine_laws.proofs.MachineTypes.{closes_row, closes_apart, unnamed_row, unnamed_apart, unnamed_start, named_row, named_apart, plain_row, word_reads}

-- Tokens around declarators.

pub closes_other : {ts : List Lexeme} {j : ℕ} → Closes ts j → (w : Word) → same_word word.RightParen w ≡ false → same_word word.Comma w ≡ false → same_word word.Semicolon w ≡ false → is_word ts j w ≡ false
closes_other (by_paren q) w x y z = differs q w x
closes_other (by_comma q) w x y z = differs q w y
closes_other (by_semicolon q) w x y z = differs q w z

-- an end of a declarator with a name is none of its suffixes
ends_other : {ts : List Lexeme} {j : ℕ} → EndsName ts j → (w : Word) → same_word word.RightParen w ≡ false → same_word word.Comma w ≡ false → same_word word.Semicolon w ≡ false → same_word word.Equal w ≡ false →
    same_word word.LeftBrace w ≡ false → is_word ts j w ≡ false
ends_other (by_closing o) w x y z u v = closes_other o w x y z
ends_other (by_equal q) w x y z u v = differs q w u
ends_other (by_brace q) w x y z u v = differs q w v

closes_sorted : {ts : List Lexeme} {j : ℕ} → Closes ts j → (f : Word → Bool) → f word.RightParen ≡ false → f word.Comma ≡ false → f word.Semicolon ≡ false → m.has_word ts j f ≡ false
closes_sorted (by_paren q) f x y z = sorted f false q x
closes_sorted (by_comma q) f x y z = sorted f false q y
closes_sorted (by_semicolon q) f x y z = sorted f false q z

closes_start : (w : Wanted) (ts : List Lexeme) (c : Scopes) (j : ℕ) → Closes ts j → m.passes ts c j (declarator_start w) ≡ false
closes_start m.unnamed ts c j o = closes_sorted o is_abstract_start refl refl refl
closes_start m.named ts c j o = closes_sorted o is_declarator_start refl refl refl
closes_start m.either ts c j o = closes_sorted o is_declarator_start refl refl refl

unnamed_sorted : {ts : List Lexeme} {i : ℕ} → UnnamedFirst ts i → m.has_word ts i is_declarator_start ≡ true
unnamed_sorted (at_star q) = sorted is_declarator_start true q refl
unnamed_sorted (at_paren q) = sorted is_declarator_start true q refl
unnamed_sorted (at_bracket q) = sorted is_declarator_start true q refl

start_unnamed : (w : Wanted) (ts : List Lexeme) (c : Scopes) (i : ℕ) → UnnamedFirst ts i → m.passes ts c i (declarator_start w) ≡ true
start_unnamed m.unnamed ts c i o = unnamed_start o
start_unnamed m.named ts c i o = unnamed_sorted o
start_unnamed m.either ts c i o = unnamed_sorted o

named_sorted : {ts : List Lexeme} {c : Scopes} {i : ℕ} {typed : Bool} → NamedFirst ts c i typed → m.has_word ts i is_declarator_start ≡ true
named_sorted (by_star q) = sorted is_declarator_start true q refl
named_sorted (begin.by_paren q) = sorted is_declarator_start true q refl
named_sorted (by_name q g) = sorted is_declarator_start true q refl

-- no type qualifier stands there
pub no_qualifier : (ts : List Lexeme) (c : Scopes) (i : ℕ) → is_word ts i word.Const ≡ false → is_word ts i word.Volatile ≡ false → m.passes ts c i qualifier ≡ false
no_qualifier ts c i x y = or_from (is_word ts i word.Const) (is_word ts i word.Volatile) x y

pub named_qualifier : {ts : List Lexeme} {c : Scopes} {i : ℕ} {typed : Bool} (e : Scopes) → NamedFirst ts c i typed → m.passes ts e i qualifier ≡ false
named_qualifier {ts = ts} {i = i} e (by_star q) = no_qualifier ts e i (differs q word.Const refl) (differs q word.Volatile refl)
named_qualifier {ts = ts} {i = i} e (begin.by_paren q) = no_qualifier ts e i (differs q word.Const refl) (differs q word.Volatile refl)
named_qualifier {ts = ts} {i = i} e (by_name q g) = no_qualifier ts e i (differs q word.Const refl) (differs q word.Volatile refl)

unnamed_qualifier : {ts : List Lexeme} {i : ℕ} (e : Scopes) → UnnamedFirst ts i → m.passes ts e i qualifier ≡ false
unnamed_qualifier {ts = ts} {i = i} e (at_star q) = no_qualifier ts e i (differs q word.Const refl) (differs q word.Volatile refl)
unnamed_qualifier {ts = ts} {i = i} e (at_paren q) = no_qualifier ts e i (differs q word.Const refl) (differs q word.Volatile refl)
unnamed_qualifier {ts = ts} {i = i} e (at_bracket q) = no_qualifier ts e i (differs q word.Const refl) (differs q word.Volatile refl)

declared_yes : (ts : List Lexeme) (c : Scopes) (i : ℕ) (typed : Bool) → Is ts i word.Identifier → typed || not (is_type c (spelling_at ts i)) ≡ true → m.passes ts c i (m.declared typed) ≡ true
declared_yes ts c i typed q g = (ap (λ b. b && (typed || not (is_type c (spelling_at ts i)))) (yes q)) ∙ g

declared_no : (ts : List Lexeme) (c : Scopes) (i : ℕ) (typed : Bool) → is_word ts i word.Identifier ≡ false → m.passes ts c i (m.declared typed) ≡ false
declared_no ts c i typed q = ap (λ b. b && (typed || not (is_type c (spelling_at ts i)))) q

-- one parameter alone makes no node
in_parameters_one : {ts : List Lexeme} {limit : Limit} {q : Part} {h : Context} {c e : Scopes} {d i j : ℕ} {t : Trees} → Spells ts limit (a q) h c e d t i j → may_stand part.Parameters t ≡ true → (s k : ℕ) →
    in_parameters s k (t & none) ≡ t
in_parameters_one {t = t} x f s k =
    let w = is_one x in
    subst (λ y. in_parameters s k (y & none) ≡ y) (sym w.2) (by w.0 w.1 (subst (λ y. may_stand part.Parameters y ≡ true) w.2 f))
  where
    by : {i j : ℕ} (k' : Kind) (b : Trees) → may_stand part.Parameters (one k' i j b) ≡ true → in_parameters s k (one k' i j b & none) ≡ one k' i j b
    by kind.Void b f = none_true f
    by _ b f = refl

qualifier_yes : (ts : List Lexeme) (c : Scopes) (i : ℕ) → Qualifies ts i → m.passes ts c i qualifier ≡ true
qualifier_yes ts c i (inl q) = or_left (is_word ts i word.Const) (is_word ts i word.Volatile) (yes q)
qualifier_yes ts c i (inr q) = or_right (is_word ts i word.Const) (is_word ts i word.Volatile) (yes q)

module _ (ts : List Lexeme) (limit : Limit) where
  pub qualifiers_go : {c : Scopes} {d i j : ℕ} → AreQualifiers ts limit d i j → m.passes ts c j qualifier ≡ false → Answers ts limit (m.qualifiers d) c i none c j
  qualifiers_go qualifiers_none n = run_pass n run_give
  qualifiers_go {c = c} {i = i} (qualifiers_more q w k) n = run_take (qualifier_yes ts c i q) w (tail (qualifiers_go k n))

  list_first : {r : Side} {h : Context} {c e : Scopes} {d i j : ℕ} {t : Trees} → Spells ts limit (rest (list part.Parameter ∷ r)) h c e d t i j → ElementFirst ts c i false
  list_first (spells.list_last x s) = parameter_first x
  list_first (spells.list_more x q w s) = parameter_first x

  parameters_apart : {h : Context} {c e : Scopes} {d i j : ℕ} {t : Trees} → Spells ts limit (a part.Parameters) h c e d t i j → is_word ts i word.RightParen ≡ false
  parameters_apart (spells.of_chain grammar.parameters_one f s) = never_element (parameter_first s) no_right_paren
  parameters_apart (spells.of_alternative grammar.void_parameters f (spells.token q w s)) = differs q word.RightParen refl
  parameters_apart (spells.of_alternative grammar.parameter_list f (spells.part x s)) = never_element (parameter_first x) no_right_paren
  parameters_apart (spells.of_alternative grammar.variadic_parameters f s) = never_element (list_first s) no_right_paren

  ellipsis_run : {h : Context} {c e : Scopes} {d i j : ℕ} {t : Trees} → Spells ts limit (rest (token word.Comma ∷ token word.Ellipsis ∷ [])) h c e d t i j → (f : Scopes → Trees → ℕ → Type 0) →
      (Is ts i word.Comma → Stands limit i d → Is ts (i + 1) word.Ellipsis → Stands limit (i + 1) d → f c none (i + 1 + 1)) → f e t j
  ellipsis_run (spells.token q w (spells.token q' w' spells.done)) f x = x q w q' w'

  module _ (n : ℕ) (b : Smaller ts limit n) where
    -- an array's size with the scope of the declarator's parameters aside
    size_goes : {h : Context} {c e : Scopes} {d i j : ℕ} {u : Trees} (s : Spells ts limit (rest (symbol.Size ∷ closing word.RightBracket ∷ [])) h c e d u i j) → measure s < n → IsOpen c → (f : Trees → Prog) (r : Reply) →
        Goes ts limit (f u) e j r → Goes ts limit (m.look (λ c. m.set (m.around c) (call (m.size d) (λ t. m.look (λ e. m.set (m.innermost_of c ∷ e) (f t)))))) c i r
    size_goes {c = c} {d = d} {i = i} (spells.size_none s) lt o f r =
        closing_run ts limit s (λ e u j. Goes ts limit (f none) e j r → Goes ts limit (m.look (λ c. m.set (m.around c) (call (m.size d) (λ t. m.look (λ e. m.set (m.innermost_of c ∷ e) (f t)))))) c i r) (λ q w g.
        run_look (run_set (run_call (run_take (yes q) w run_give) (run_look (run_set (subst (λ y. Goes ts limit (f none) y (i + 1) r) o g))))))
    size_goes {d = d} {i = i} (spells.size_some {c = c} {own = own} {t = t} y s) lt o f r =
        closing_run ts limit s (λ e u j. Goes ts limit (f (t & u)) e j r → Goes ts limit (m.look (λ c. m.set (m.around c) (call (m.size d) (λ t. m.look (λ e. m.set (m.innermost_of c ∷ e) (f t)))))) (own ∷ c) i r) (λ q w g.
        run_look (run_set (run_call (run_pass (never (first_conditional y) never_bracket) (run_call (b.read task.conditional y (omega arith) (free_by q (omega arith))) (run_take (yes q) w run_give)))
        (run_look (run_set g)))))

    option_goes : {h : Context} {c e : Scopes} {d i j : ℕ} {u : Trees} (s : Spells ts limit (rest (grammar.inner_optional part.Conditional ∷ closing word.RightBracket ∷ [])) h c e d u i j) → measure s < n →
        Answers ts limit (m.size d) c i u e j
    option_goes {c = c} {d = d} {i = i} (spells.optional_none s) lt =
        closing_run ts limit s (λ e u j. Answers ts limit (m.size d) c i none e j) (λ q w. run_take (yes q) w run_give)
    option_goes {c = c} {d = d} {i = i} (spells.optional_some {t = t} y s) lt =
        closing_run ts limit s (λ e u j. Answers ts limit (m.size d) c i (t & u) e j) (λ q w.
        run_pass (never (first_conditional y) never_bracket) (run_call (b.read task.conditional y (omega arith) (free_by q (omega arith))) (run_take (yes q) w run_give)))

    -- Declarators with a name.

    pub declarator_reads : {h : Context} {c e : Scopes} {d i j : ℕ} {t : Trees} (s : Spells ts limit (a part.Declarator) h c e d t i j) → measure s < suc n → Completes ts limit task.declarator h c e d t i j
    declarator_reads (spells.of_chain grammar.declarator_direct f s) lt = λ w y o.
        b.read task.direct s (omega arith) w y _ (run_pass (ends_other o word.LeftBracket refl refl refl refl refl) (run_pass (ends_other o word.LeftParen refl refl refl refl refl) run_give))
    declarator_reads {h = h} {c = c} {e = e} {d = d} {i = i} {j = j} (spells.of_alternative grammar.pointer_declarator f (spells.opens q v (spells.qualified {j = k} {t = t} x s))) lt = λ w y o.
        subst (λ z. Answers ts limit (m.declarator w h d) c i (one kind.PointerDeclarator i j z) e j) (and_none t)
        (run_here (run_take (yes q) v (run_call (qualifiers_go x (named_qualifier c (named_first facts.by_declarator s))) (by w y (b.read task.declarator s (omega arith) w y o)))))
      where
        by : (w : Wanted) → may_name w ≡ true → Answers ts limit (m.declarator w (past_token h) (d + 1)) c k t e j →
            Goes ts limit (m.when (may_omit w)
            (m.peek (declarator_start w) (call (m.declarator w (past_token h) (d + 1)) (λ t. pointer_end i t)) (made kind.AbstractPointer i none))
            (call (m.declarator w (past_token h) (d + 1)) (λ t. pointer_end i t))) c k (Done (one kind.PointerDeclarator i j (t & none)) e j)
        by m.named y g = run_no refl (run_call g (run_yes (is_named facts.by_declarator s) (run_here run_give)))
        by m.either y g = run_yes refl (run_seen (named_sorted (named_first facts.by_declarator s)) (run_call g (run_yes (is_named facts.by_declarator s) (run_here run_give))))
        by m.unnamed y g = none_true y

    pub direct_reads : {h : Context} {c e : Scopes} {d i j : ℕ} {t : Trees} (s : Spells ts limit (a part.DirectDeclarator) h c e d t i j) → measure s < suc n → Completes ts limit task.direct h c e d t i j
    direct_reads (spells.of_chain x f s) lt = elim x [ ]
    direct_reads {h = h} {c = c} {i = i} (spells.of_alternative grammar.name_declarator f (spells.declared q g v spells.done)) lt = λ w y r z.
        run_here (run_pass (differs q word.Star refl) (run_pass (differs q word.LeftParen refl) (run_yes y (run_take (declared_yes ts c i h.typed q g) v (run_look (run_set (run_here (tail z))))))))
    direct_reads {h = h} {c = c} {d = d} {i = i} (spells.of_alternative grammar.group_declarator f (spells.opens q v (spells.part {t = t} x s))) lt =
        closing_run ts limit s (λ e u j. Completes ts limit task.direct h c e d (one kind.GroupDeclarator i j (t & u)) i j) (λ q' v' w y r z.
        run_here (run_pass (differs q word.Star refl) (run_take (yes q) v (run_call (b.read task.declarator x (omega arith) w y (by_closing (by_paren q')))
        (run_take (yes q') v' (run_yes (is_named facts.by_declarator x) (run_here (tail z))))))))
    direct_reads {d = d} {i = i} (spells.of_alternative grammar.array_declarator f (spells.part {t = t} x (spells.opens q v s))) lt = λ w y r z.
        b.read task.direct x (omega arith) w y r (run_take (yes q) v
        (size_goes s (omega arith) (owned facts.by_direct x) (λ u. m.into kind.ArrayDeclarator i (t & u) (λ k. call (m.declarator_suffixes d i k) give)) r (run_here (tail z))))
    direct_reads {h = h} {c = c} {d = d} {i = i} (spells.of_alternative grammar.function_declarator f (spells.part {t = t} x (spells.opens q v (spells.prototype_none s)))) lt =
        closing_run ts limit s (λ e u j. Completes ts limit task.direct h c e d (one kind.FunctionDeclarator i j (t & none)) i j) (λ q' v' w y r z.
        b.read task.direct x (omega arith) w y r (run_pass (differs q word.LeftBracket refl) (run_take (yes q) v (run_take (yes q') v' (run_here (tail z))))))
    direct_reads {h = h} {c = c} {d = d} {i = i} (spells.of_alternative grammar.function_declarator f (spells.part {t = t} x (spells.opens q v (spells.prototype_some {e = e'} {own = own} {names = names} {j = k} {t = u} p s)))) lt =
        closing_run ts limit s (λ e v' j. Completes ts limit task.direct h c e d (one kind.FunctionDeclarator i j (t & u & v')) i j) (λ q' v' w y r z.
        b.read task.direct x (omega arith) w y r (run_pass (differs q word.LeftBracket refl) (run_take (yes q) v (run_pass (parameters_apart p)
        (run_look (run_set (run_call (b.read task.parameters p (omega arith) q') (run_look (run_set (run_take (yes q') v' (run_here
        (subst (λ y. Goes ts limit (call (m.declarator_suffixes d i (one kind.FunctionDeclarator i (k + 1) (t & u & none))) give) ((if y then names else own) ∷ e') (k + 1) r) (bare_is x h) (tail z)))))))))))))

    -- Declarators without a name.

    pub abstract_reads : {h : Context} {c e : Scopes} {d i j : ℕ} {t : Trees} (s : Spells ts limit (a part.Abstract) h c e d t i j) → measure s < suc n → Completes ts limit task.abstract h c e d t i j
    abstract_reads (spells.of_chain grammar.abstract_direct f s) lt = λ w h' y o.
        b.read task.direct_abstract s (omega arith) w h' y _ (run_pass (closes_other o word.LeftBracket refl refl refl) run_give)
    abstract_reads {c = c} {j = j} (spells.of_alternative grammar.abstract_pointer f (spells.opens q v (spells.qualified_none x))) lt = λ w h' y o.
        run_here (run_take (yes q) v (run_call (qualifiers_go x (no_qualifier ts c j (closes_other o word.Const refl refl refl) (closes_other o word.Volatile refl refl refl))) (run_yes y (run_unseen (closes_start w ts c j o) (run_here run_give)))))
    abstract_reads {c = c} {e = e} {d = d} {i = i} {j = j} (spells.of_alternative grammar.abstract_pointer f (spells.opens q v (spells.qualified_some {j = k} {t = t} x s))) lt = λ w h' y o.
        let u = unnamed_first begin.by_abstract s in
        subst (λ z. Answers ts limit (m.declarator w h' d) c i (one kind.AbstractPointer i j z) e j) (and_none t)
        (run_here (run_take (yes q) v (run_call (qualifiers_go x (unnamed_qualifier c u)) (run_yes y (run_seen (start_unnamed w ts c k u)
        (run_call (b.read task.abstract s (omega arith) w (past_token h') y o) (run_no (is_unnamed begin.by_abstract s) (run_here run_give))))))))

    pub direct_abstract_reads : {h : Context} {c e : Scopes} {d i j : ℕ} {t : Trees} (s : Spells ts limit (a part.DirectAbstract) h c e d t i j) → measure s < suc n → Completes ts limit task.direct_abstract h c e d t i j
    direct_abstract_reads (spells.of_chain x f s) lt = elim x [ ]
    direct_abstract_reads {h = h} {c = c} {d = d} {i = i} (spells.of_alternative grammar.abstract_group f (spells.opens q v (spells.part {t = t} x s))) lt =
        closing_run ts limit s (λ e u j. Completes ts limit task.direct_abstract h c e d (one kind.AbstractGroup i j (t & u)) i j) (λ q' v' w h' y r z.
        run_here (run_pass (differs q word.Star refl) (run_take (yes q) v (run_call (b.read task.abstract x (omega arith) w (past_token h') y (by_paren q'))
        (run_take (yes q') v' (run_no (is_unnamed begin.by_abstract x) (run_here (tail z))))))))
    direct_abstract_reads {c = c} {d = d} {i = i} (spells.of_alternative {t = t} grammar.abstract_array f (spells.opens q v s)) lt = λ w h' y r z.
        run_here (run_pass (differs q word.Star refl) (run_pass (differs q word.LeftParen refl)
        (by w h' r (may_name w) (run_yes y (run_take (yes q) v (run_call (option_goes s (omega arith)) (run_here (tail z))))))))
      where
        by : (w : Wanted) (h' : Context) (r : Reply) (k : Bool) → Goes ts limit (array_start w d i) c i r →
            Goes ts limit (m.when k (take plain (m.declared h'.typed) d (m.begins (m.into kind.NameDeclarator i none (λ t. call (m.declarator_suffixes d i t) give))) (array_start w d i)) (array_start w d i)) c i r
        by w h' r true g = run_yes refl (run_pass (declared_no ts c i h'.typed (differs q word.Identifier refl)) g)
        by w h' r false g = run_no refl g
    direct_abstract_reads {d = d} {i = i} (spells.of_alternative grammar.abstract_array_of f (spells.part x (spells.opens q v s))) lt = λ w h' y r z.
        b.read task.direct_abstract x (omega arith) w h' y r (run_take (yes q) v (run_call (option_goes s (omega arith)) (run_here (tail z))))

    -- Parameters.

    void_goes : {c : Scopes} {d i : ℕ} → Is ts i word.Void → Stands limit i d → Closes ts (i + 1) → Answers ts limit (m.parameter d) c i (one kind.Void i (i + 1) none) c (i + 1)
    void_goes {c = c} {d = d} {i = i} q w o = run_here (run_call (run_here (run_call (word_reads ts limit n b part.Specifiers fresh d (plain_row part.Specifiers refl (row_found plain_words {w = word.Void} {k = kind.Void} refl)) q w)
        (tail (run_unseen (closes_row part.Specifiers ts c (i + 1) true o) (run_here run_give)))))
        (run_unseen (closes_sorted o is_declarator_start refl refl refl) run_give))

    pub parameters_read : {h : Context} {c e : Scopes} {d i j : ℕ} {t : Trees} (s : Spells ts limit (a part.Parameters) h c e d t i j) → measure s < suc n → Completes ts limit task.parameters h c e d t i j
    parameters_read {e = e} {i = i} {j = j} {t = t} (spells.of_chain grammar.parameters_one f s) lt = λ q.
        run_here (run_call (b.read task.parameter s (omega arith) (by_paren q)) (tail (run_pass (differs q word.Comma refl) (run_here
        (subst (λ y. Goes ts limit (give (in_parameters i j (t & none))) e j (Done y e j)) (in_parameters_one s f i j) run_give)))))
    parameters_read (spells.of_alternative grammar.void_parameters f (spells.token q w spells.done)) lt = λ q'.
        run_here (run_call (void_goes q w (by_paren q')) (tail (run_pass (differs q' word.Comma refl) (run_here run_give))))
    parameters_read {c = c} {e = e} {d = d} {i = i} {j = j} (spells.of_alternative grammar.parameter_list f (spells.part {t = t} {u = u} x (spells.token q w s))) lt = λ q'.
        subst (λ z. Answers ts limit (m.parameters d) c i (one kind.Parameters i j z) e j) (and_and t none u)
        (run_here (run_call (b.read task.parameter x (omega arith) (by_comma q)) (tail (run_take (yes q) w (run_pass (never_element (list_first s) no_ellipsis)
        (b.read task.parameter_list s (omega arith) i (t & none) (part_some x none) q'))))))
    parameters_read {i = i} (spells.of_alternative grammar.variadic_parameters f s) lt = λ q. run_here (b.read task.variadic_list s (omega arith) i none)

    pub parameter_list_reads : {h : Context} {c e : Scopes} {d i j : ℕ} {t : Trees} (s : Spells ts limit (rest (list part.Parameter ∷ [])) h c e d t i j) → measure s < suc n → Completes ts limit task.parameter_list h c e d t i j
    parameter_list_reads {e = e} {i = i} {j = j} {t = t} (spells.list_last x spells.done) lt = λ s y some q.
        run_call (b.read task.parameter x (omega arith) (by_paren q)) (tail (run_pass (differs q word.Comma refl) (run_here
        (subst (λ z. Goes ts limit (give (in_parameters s j (y & t & none))) e j (Done z e j))
        (two_parameters s j y (t & none) some (part_some x none) ∙ ap (λ z. one kind.Parameters s j (y & z)) (and_none t)) run_give))))
    parameter_list_reads {c = c} {e = e} {d = d} {i = i} {j = j} (spells.list_more {t = t} {u = u} x q w k) lt = λ s y some q'.
        subst (λ z. Goes ts limit (call (m.parameter d) (λ u. call (m.more_parameters d s (y & u & none)) give)) c i (Done (one kind.Parameters s j z) e j)) (pushed y t u)
        (run_call (b.read task.parameter x (omega arith) (by_comma q)) (tail (run_take (yes q) w (run_pass (never_element (list_first k) no_ellipsis)
        (b.read task.parameter_list k (omega arith) s (y & t & none) (pushed_some y (t & none) some) q')))))

    pub variadic_list_reads : {h : Context} {c e : Scopes} {d i j : ℕ} {t : Trees} (s : Spells ts limit (rest (list part.Parameter ∷ token word.Comma ∷ token word.Ellipsis ∷ [])) h c e d t i j) → measure s < suc n →
        Completes ts limit task.variadic_list h c e d t i j
    variadic_list_reads {c = c} {d = d} {i = i} (spells.list_last {e = e'} {j = k} {t = t} x s) lt =
        ellipsis_run s (λ e v j. (s : ℕ) (y : Trees) → Goes ts limit (call (m.parameter d) (λ u. call (m.more_parameters d s (y & u & none)) give)) c i (Done (one kind.VariadicParameters s j (y & t)) e j)) (λ q w q' w' s y.
        subst (λ z. Goes ts limit (call (m.parameter d) (λ u. call (m.more_parameters d s (y & u & none)) give)) c i (Done (one kind.VariadicParameters s (k + 1 + 1) (y & z)) e' (k + 1 + 1))) (and_none t)
        (run_call (b.read task.parameter x (omega arith) (by_comma q)) (tail (run_take (yes q) w (run_take (yes q') w' (run_here run_give))))))
    variadic_list_reads {c = c} {e = e} {d = d} {i = i} {j = j} (spells.list_more {t = t} {u = u} x q w k) lt = λ s y.
        subst (λ z. Goes ts limit (call (m.parameter d) (λ u. call (m.more_parameters d s (y & u & none)) give)) c i (Done (one kind.VariadicParameters s j z) e j)) (pushed y t u)
        (run_call (b.read task.parameter x (omega arith) (by_comma q)) (tail (run_take (yes q) w (run_pass (never_element (list_first k) no_ellipsis)
        (b.read task.variadic_list k (omega arith) s (y & t & none))))))

    pub parameter_reads : {h : Context} {c e : Scopes} {d i j : ℕ} {t : Trees} (s : Spells ts limit (a part.Parameter) h c e d t i j) → measure s < suc n → Completes ts limit task.parameter h c e d t i j
    parameter_reads {e = e} {j = j} {t = t} (spells.of_chain grammar.parameter_unnamed f s) lt = λ o.
        run_here (run_call (b.read task.specifiers s (omega arith) (closes_row part.Specifiers ts e j (past_part fresh t).typed o) (closes_apart o))
        (run_unseen (closes_sorted o is_declarator_start refl refl refl) run_give))
    parameter_reads {i = i} (spells.of_alternative grammar.parameter_declaration f (spells.part {e = c'} {j = k} {t = t} x (spells.part (spells.of_alternative y g s) spells.done))) lt = elim y [ ]
    parameter_reads {i = i} (spells.of_alternative grammar.parameter_declaration f (spells.part {e = c'} {j = k} {t = t} x (spells.part (spells.of_chain grammar.parameter_abstract g s) spells.done))) lt = λ o.
        let u = unnamed_first begin.by_abstract s in
        run_here (run_call (b.read task.specifiers x (omega arith) (unnamed_row part.Specifiers ts c' k (past_part fresh t).typed u) (unnamed_apart u))
        (run_seen (unnamed_sorted u) (run_call (b.read task.abstract s (omega arith) m.either (past_part fresh t) refl o) (run_no (is_unnamed begin.by_abstract s) (run_here run_give)))))
    parameter_reads {i = i} {j = j} (spells.of_alternative grammar.parameter_declaration f (spells.part {e = c'} {j = k} {t = t} x (spells.part (spells.parameter_declarator {e = e'} {t = u} s) spells.done))) lt = λ o.
        let v = named_first facts.by_declarator s in
        run_here (run_call (b.read task.specifiers x (omega arith) (named_row part.Specifiers ts c' k (past_part fresh t).typed v) (named_apart v))
        (run_seen (named_sorted v) (run_call (b.read task.declarator s (omega arith) m.either refl (by_closing o)) (run_yes (is_named facts.by_declarator s) (run_look (run_set (run_bring (run_here
        (subst (λ z. Goes ts limit (give (one kind.Parameter i j (t & u & none))) (enter (m.brought ts j (past_part (past_part fresh t) u).name (past_part (past_part fresh t) u).type_name) e') j (Done (one kind.Parameter i j (t & u & none)) (enter z e') j))
        (name_brought s (past_part fresh t)) run_give)))))))))
