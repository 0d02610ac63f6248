-- The machine reads what is spelled as statements and blocks, where it reads all that is smaller.
use Rattle.std.proofs.Common.{◌≡◌, ℕ, suc, ◌+◌, ◌<◌, Bool, true, false, not, List, [], ◌∷◌, refl, sym, ap, subst, ◌∙◌, arith}
use Rattle.cr_syntax.specs.declared.word.Word.{Word}
use Rattle.cr_syntax.specs.declared.word.Word.TheVariants as word
use Rattle.cr_syntax.specs.declared.node.Kind.TheVariants as kind
use Rattle.cr_syntax.specs.declared.part.Part.{Part}
use Rattle.cr_syntax.specs.declared.part.Part.TheVariants as part
use Rattle.cr_syntax.specs.Symbols as symbol
use Rattle.cr_syntax.specs.declared.part.Context.{Context}
use Rattle.cr_syntax.specs.declared.scopes.TypeName.{TypeName}
use Rattle.cr_syntax.specs.Words.{Lexeme, spelling_at}
use Rattle.cr_syntax.specs.Scopes.{Scopes, is_type}
use Rattle.cr_syntax.specs.Trees.{Trees, none, node, one, ◌&◌}
use Rattle.cr_syntax.specs.Context.{ends_open, has_else, fits_together}
use Rattle.cr_syntax.specs.Grammar.{Side, inner, inner_many, token, opening, closing, reopening, optional}
use Rattle.cr_syntax.specs.Grammar as grammar
use Rattle.cr_syntax.specs.Spells.{Limit, Is, Stands, Within, Spells, a, rest}
use Rattle.cr_syntax.specs.Spells as spells
use Rattle.cr_syntax.specs.Reads.{is_word, same_word}
use Rattle.cr_syntax_machine.specs.Machine.{Prog, Reply, Done, anywhere, plain, opens, reopens, has_word, passes, give, take, call, made, expect, the, run_give, run_take, run_pass, run_free, run_seen, run_unseen, run_yes, run_no, run_here, run_look, run_set, run_call}
use Rattle.cr_syntax.specs.Units.{begins_statement}
use Rattle.cr_syntax_machine.specs.Machine as m
use Rattle.cr_syntax_machine.specs.MachineBody.{body, is_specifier_start, is_identifier, declaration_start, statement_start, labelled, unlabelled, marked, expression_rest, without_else, if_end, switch_body, for_body}
use Rattle.cr_syntax_machine_laws.specs.MachineLaws.{IsFree}
use Rattle.cr_syntax.proofs.Tests.{not_true}
use Rattle.cr_syntax_machine.proofs.MachineSpells.{and_none, and_and, pushed, is_one}
use Rattle.cr_syntax_machine_laws.proofs.MachineFirst.{none_true, true_false, yes, differs, sorted, free_by, tail, and_false, and_first, starts, First, by_word, by_name, not_first, name_start, first_expression}
use Rattle.cr_syntax_machine_laws.proofs.MachineMarked.{marks, name_starts_none, label_goes, item_label_goes, declaration_is_item}
use Rattle.cr_syntax_machine_laws.proofs.MachineTasks.{measure, Goes, Answers, Completes, Smaller}
use Rattle.cr_syntax_machine_laws.proofs.MachineTasks as task
use Rattle.cr_syntax_machine_laws.proofs.MachineBegins.{never_element, no_else, no_right_brace, specifier_yes}
use Rattle.cr_syntax_machine_laws.proofs.MachineExpressions.{closing_run, whole_expression}
use Rattle.cr_syntax_machine_laws.proofs.MachineDeclarations.{declaration_first, compound_first}
use Rattle.std.proofs.lemmas.Bool.{or_from, or_right}

-- The first token of a statement: a word that only a statement begins with, or that of an expression.

abbrev has_keyword : Word → Bool
has_keyword word.LeftBrace = true
has_keyword word.Semicolon = true
has_keyword word.If = true
has_keyword word.Switch = true
has_keyword word.While = true
has_keyword word.Do = true
has_keyword word.For = true
has_keyword word.Case = true
has_keyword word.Default = true
has_keyword word.Goto = true
has_keyword word.Break = true
has_keyword word.Continue = true
has_keyword word.Return = true
has_keyword _ = false

-- of one that is no label
data StatementFirst (ts : List Lexeme) (c : Scopes) (i : ℕ) : Type 0 where
  by_keyword : {w : Word} → Is ts i w → has_keyword w ≡ true → StatementFirst ts c i
  by_expression : First ts c i → StatementFirst ts c i

-- the words that no item of a block begins with
data NoItem : Word → Type 0 where
  no_item_else : NoItem word.Else
  no_item_brace : NoItem word.RightBrace

not_statement : (v : Word) {w : Word} → NoItem w → has_keyword v ≡ true → same_word v w ≡ false
not_statement v no_item_else q = by v q
  where
    by : (v : Word) → has_keyword v ≡ true → same_word v word.Else ≡ false
    by word.Else q = none_true q
    by _ q = refl
not_statement v no_item_brace q = by v q
  where
    by : (v : Word) → has_keyword v ≡ true → same_word v word.RightBrace ≡ false
    by word.RightBrace q = none_true q
    by _ q = refl

statement_apart : {ts : List Lexeme} {c : Scopes} {i : ℕ} {w : Word} → StatementFirst ts c i → NoItem w → is_word ts i w ≡ false
statement_apart {w = w} (by_keyword {w = v} q s) n = differs q w (not_statement v n s)
statement_apart (by_expression o) no_item_else = not_first o word.Else refl refl
statement_apart (by_expression o) no_item_brace = not_first o word.RightBrace refl refl

not_type : {w : Word} (ts : List Lexeme) (c : Scopes) (i : ℕ) → Is ts i w → is_specifier_start w ≡ false → same_word w word.Identifier ≡ false → passes ts c i declaration_start ≡ false
not_type ts c i q x y = or_from (has_word ts i is_specifier_start) (passes ts c i (m.type_identifier false)) (sorted is_specifier_start false q x)
    (and_false (is_word ts i word.Identifier) (is_type c (spelling_at ts i)) true (differs q word.Identifier y))

-- no declaration begins so
not_declaration : {ts : List Lexeme} {c : Scopes} {i : ℕ} → StatementFirst ts c i → passes ts c i declaration_start ≡ false
not_declaration {ts = ts} {c = c} {i = i} (by_keyword {w = w} q s) = not_type ts c i q (by w s) (name w s)
  where
    by : (w : Word) → has_keyword w ≡ true → is_specifier_start w ≡ false
    by word.Typedef s = none_true s
    by word.Extern s = none_true s
    by word.Static s = none_true s
    by word.Auto s = none_true s
    by word.Register s = none_true s
    by word.Inline s = none_true s
    by word.Const s = none_true s
    by word.Volatile s = none_true s
    by word.Void s = none_true s
    by word.Char s = none_true s
    by word.Short s = none_true s
    by word.Int s = none_true s
    by word.Long s = none_true s
    by word.Signed s = none_true s
    by word.Unsigned s = none_true s
    by word.Bool s = none_true s
    by word.Struct s = none_true s
    by word.Enum s = none_true s
    by _ s = refl

    name : (w : Word) → has_keyword w ≡ true → same_word w word.Identifier ≡ false
    name word.Identifier s = none_true s
    name _ s = refl
not_declaration {ts = ts} {c = c} {i = i} (by_expression (by_word {w = w} q s)) = not_type ts c i q (by w s) (name_start w s)
  where
    by : (w : Word) → starts w ≡ true → is_specifier_start w ≡ false
    by word.Typedef s = none_true s
    by word.Extern s = none_true s
    by word.Static s = none_true s
    by word.Auto s = none_true s
    by word.Register s = none_true s
    by word.Inline s = none_true s
    by word.Const s = none_true s
    by word.Volatile s = none_true s
    by word.Void s = none_true s
    by word.Char s = none_true s
    by word.Short s = none_true s
    by word.Int s = none_true s
    by word.Long s = none_true s
    by word.Signed s = none_true s
    by word.Unsigned s = none_true s
    by word.Bool s = none_true s
    by word.Struct s = none_true s
    by word.Enum s = none_true s
    by _ s = refl
not_declaration {ts = ts} {c = c} {i = i} (by_expression (by_name q)) =
    or_from (has_word ts i is_specifier_start) (passes ts c i (m.type_identifier false)) (sorted is_specifier_start false q.0 refl)
    (and_first (is_word ts i word.Identifier) (is_type c (spelling_at ts i)) true q.1)

no_type_first : {ts : List Lexeme} {c : Scopes} {i : ℕ} → First ts c i → passes ts c i (m.type_identifier false) ≡ false
no_type_first {ts = ts} {c = c} {i = i} (by_word {w = w} q s) = and_false (is_word ts i word.Identifier) (is_type c (spelling_at ts i)) true (differs q word.Identifier (name_start w s))
no_type_first {ts = ts} {c = c} {i = i} (by_name q) = and_first (is_word ts i word.Identifier) (is_type c (spelling_at ts i)) true q.1

-- The nearest `if`.

-- a row whose last trees end in an open `if` does so too
still_open : (t u : Trees) → ends_open u ≡ true → ends_open (t & u) ≡ true
still_open none u q = q
still_open (node k i j b none) none q = none_true q
still_open (node k i j b none) (node k' i' j' b' n') q = q
still_open (node k i j b (node k' i' j' b' n')) u q = still_open (node k' i' j' b' n') u q

last_open : (t u : Trees) → ends_open u ≡ true → ends_open (t & (u & none)) ≡ true
last_open t u q = still_open t (u & none) (subst (λ x. ends_open x ≡ true) (sym (and_none u)) q)

module _ {ts : List Lexeme} {limit : Limit} {p p' : Part} {h h' : Context} {c c' e e' : Scopes} {d d' i i' j j' : ℕ} {t u : Trees} (x : Spells ts limit (a p) h c e d t i j) (y : Spells ts limit (a p') h' c' e' d' u i' j') where
  -- an `if` without `else` is open
  open_alone : (s o : ℕ) → ends_open (one kind.If s o (t & (u & none))) ≡ true
  open_alone s o =
      let v = is_one x in let w = is_one y in
      subst (λ z. ends_open (one kind.If s o (z & (u & none))) ≡ true) (sym v.2)
      (subst (λ z. ends_open (one kind.If s o (one v.0 i j v.1 & (z & none))) ≡ true) (sym w.2) refl)

  -- before an `else` stands no open `if`
  nearest : {p'' : Part} {h'' : Context} {c'' e'' : Scopes} {d'' i'' j'' : ℕ} {v : Trees} → Spells ts limit (a p'') h'' c'' e'' d'' v i'' j'' → fits_together kind.If (t & (u & (v & none))) ≡ true → ends_open u ≡ false
  nearest {i'' = i''} {j'' = j''} {v = v} z f =
      let k = is_one x in let l = is_one y in let g = is_one z in
      subst (λ w. ends_open w ≡ false) (sym l.2) (not_true (ends_open (one l.0 i' j' l.1))
      (subst (λ w. fits_together kind.If (one k.0 i j k.1 & (one l.0 i' j' l.1 & (w & none))) ≡ true) g.2
      (subst (λ w. fits_together kind.If (one k.0 i j k.1 & (w & (v & none))) ≡ true) l.2
      (subst (λ w. fits_together kind.If (w & (u & (v & none))) ≡ true) k.2 f))))

module _ (ts : List Lexeme) (limit : Limit) where
  -- a statement that is a label before another one, or none
  data Beginning (n : ℕ) (c e : Scopes) (d i j : ℕ) : Trees → Type 0 where
    plainly : {t : Trees} → StatementFirst ts c i → Beginning n c e d i j t
    marking : {h : Context} {u : Trees} → Is ts i word.Identifier → Stands limit i d → Is ts (i + 1) word.Colon → Within limit (i + 1) d → (y : Spells ts limit (a part.Statement) h c e (d + 1) u (i + 1 + 1) j) → measure y < n →
        Beginning n c e d i j (one kind.Label i j (u & none))

  behind : {h : Context} {c e : Scopes} {d i j : ℕ} {t : Trees} {w : Word} {r : Side} → Spells ts limit (rest (token w ∷ r)) h c e d t i j → Is ts i w
  behind (spells.token q w s) = q

  behind_start : {h : Context} {c e : Scopes} {d i j : ℕ} {t : Trees} {w : Word} {r : Side} → Spells ts limit (rest (symbol.Begins ∷ token w ∷ r)) h c e d t i j → Is ts i w
  behind_start (spells.begins s) = behind s

  behind_do : {h : Context} {c e : Scopes} {d i j : ℕ} {t : Trees} {w : Word} {r : Side} → Spells ts limit (rest (symbol.Begins ∷ opening w ∷ r)) h c e d t i j → Is ts i w
  behind_do (spells.begins (spells.opens q w s)) = q

  of_expression : {n : ℕ} {h : Context} {c e : Scopes} {d i j : ℕ} {t u : Trees} → Spells ts limit (rest (optional part.Expression ∷ token word.Semicolon ∷ [])) h c e d t i j → Beginning n c e d i j u
  of_expression (spells.optional_none (spells.token q w s)) = plainly (by_keyword q refl)
  of_expression (spells.optional_some x s) = plainly (by_expression (first_expression x))

  begins_so : {n : ℕ} {h : Context} {c e : Scopes} {d i j : ℕ} {t : Trees} (s : Spells ts limit (a part.Statement) h c e d t i j) → measure s < suc n → Beginning n c e d i j t
  begins_so (spells.of_chain grammar.statement_compound f s) lt = plainly (by_keyword (compound_first ts limit s) refl)
  begins_so (spells.of_alternative grammar.expression_statement f s) lt = of_expression s
  begins_so (spells.of_alternative grammar.if_statement f s) lt = plainly (by_keyword (behind_start s) refl)
  begins_so (spells.of_alternative grammar.switch_statement f s) lt = plainly (by_keyword (behind_start s) refl)
  begins_so (spells.of_alternative grammar.while_statement f s) lt = plainly (by_keyword (behind_start s) refl)
  begins_so (spells.of_alternative grammar.do_statement f s) lt = plainly (by_keyword (behind_do s) refl)
  begins_so (spells.of_alternative grammar.for_statement f s) lt = plainly (by_keyword (behind_start s) refl)
  begins_so (spells.of_alternative grammar.labeled_statement f (spells.token q w (spells.opens q' w' (spells.part y spells.done)))) lt = marking q w q' w' y (omega arith)
  begins_so (spells.of_alternative grammar.case_statement f s) lt = plainly (by_keyword (behind s) refl)
  begins_so (spells.of_alternative grammar.default_statement f s) lt = plainly (by_keyword (behind s) refl)
  begins_so (spells.of_alternative grammar.goto_statement f s) lt = plainly (by_keyword (behind s) refl)
  begins_so (spells.of_alternative grammar.break_statement f s) lt = plainly (by_keyword (behind s) refl)
  begins_so (spells.of_alternative grammar.continue_statement f s) lt = plainly (by_keyword (behind s) refl)
  begins_so (spells.of_alternative grammar.return_statement f s) lt = plainly (by_keyword (behind s) refl)

  item_apart : {h : Context} {c e : Scopes} {d i j : ℕ} {t : Trees} {w : Word} → Spells ts limit (a part.BlockItem) h c e d t i j → NoItem w → is_word ts i w ≡ false
  item_apart (spells.of_alternative x f s) n = elim x [ ]
  item_apart (spells.of_chain grammar.item_declaration f s) no_item_else = never_element (declaration_first ts limit s) no_else
  item_apart (spells.of_chain grammar.item_declaration f s) no_item_brace = never_element (declaration_first ts limit s) no_right_brace
  item_apart (spells.of_chain grammar.item_statement f s) n = by (measure s) (begins_so s (omega arith)) n
    where
      by : {c e : Scopes} {d i j : ℕ} {t : Trees} {w : Word} (n : ℕ) → Beginning n c e d i j t → NoItem w → is_word ts i w ≡ false
      by n (plainly o) v = statement_apart o v
      by n (marking q w q' w' y lt) no_item_else = differs q word.Else refl
      by n (marking q w q' w' y lt) no_item_brace = differs q word.RightBrace refl

  abbrev item_side : Side
  item_side = inner_many part.BlockItem ∷ closing word.RightBrace ∷ symbol.Ends ∷ []

  items_apart : {h : Context} {c e : Scopes} {d i j : ℕ} {t : Trees} → Spells ts limit (rest item_side) h c e d t i j → is_word ts i word.Else ≡ false
  items_apart (spells.many_none (spells.token q w s)) = differs q word.Else refl
  items_apart (spells.many_more x k) = item_apart x no_item_else

  -- Where a statement is no label.

  unlabelled_goes : {d i : ℕ} {c : Scopes} {r : Reply} → is_word ts i word.Case ≡ false → is_word ts i word.Default ≡ false → Goes ts limit (unlabelled anywhere d i) c i r → Goes ts limit (body (m.statement anywhere d)) c i r
  unlabelled_goes x y h = run_here (run_yes refl (run_pass x (run_pass y h)))

  by_word_goes : {w : Word} {d i : ℕ} {c : Scopes} {r : Reply} → Is ts i w → same_word w word.Case ≡ false → same_word w word.Default ≡ false →
      Goes ts limit (unlabelled anywhere d i) c i r → Goes ts limit (body (m.statement anywhere d)) c i r
  by_word_goes q x y h = unlabelled_goes (differs q word.Case x) (differs q word.Default y) h

  labelled_goes : {d i : ℕ} {c : Scopes} {r : Reply} → Goes ts limit (labelled anywhere d i (unlabelled anywhere d i)) c i r → Goes ts limit (body (m.statement anywhere d)) c i r
  labelled_goes h = run_here (run_yes refl h)

  -- behind an expression that no colon follows
  named_rest_goes : (d i : ℕ) (t : Trees) {e : Scopes} {j : ℕ} {r : Reply} → is_word ts j word.Colon ≡ false → Goes ts limit (expression_rest d i t) e j r →
      Goes ts limit (m.when (is_identifier t) (marked anywhere d i (expression_rest d i t)) (expression_rest d i t)) e j r
  named_rest_goes d i t {e = e} {j = j} {r = r} apart h = by (is_identifier t)
    where
      by : (v : Bool) → Goes ts limit (m.when v (marked anywhere d i (expression_rest d i t)) (expression_rest d i t)) e j r
      by true = run_yes refl (run_unseen apart h)
      by false = run_no refl h

  -- a statement that is a block by itself
  block_goes : {c e : Scopes} {own : List TypeName} {d i j : ℕ} {t : Trees} → Answers ts limit (m.statement anywhere d) ([] ∷ c) i t (own ∷ e) j → Answers ts limit (m.block anywhere d) c i t e j
  block_goes x = run_look (run_set (run_call x (run_look (run_set run_give))))

  no_statement_start : (c : Scopes) (i : ℕ) → Is ts i word.LeftBrace → passes ts c i statement_start ≡ false
  no_statement_start c i q = sorted begins_statement false q refl

  module _ (n : ℕ) (b : Smaller ts limit n) where
    -- Blocks.

    pub compound_reads : {h : Context} {c e : Scopes} {d i j : ℕ} {t : Trees} (s : Spells ts limit (a part.Compound) h c e d t i j) → measure s < suc n → Completes ts limit task.compound h c e d t i j
    compound_reads (spells.of_chain x f s) lt = elim x [ ]
    compound_reads {i = i} (spells.of_alternative grammar.compound_statement f (spells.begins (spells.opens q w s))) lt =
        let r = b.read task.items s (omega arith) i none in
        run_here (run_look (run_set (run_take (yes q) w (run_call r.1 (run_look (run_set run_give))))))

    item_goes : {c e f : Scopes} {d s i j k : ℕ} {t u y : Trees} → is_word ts i word.RightBrace ≡ false → Answers ts limit (m.item anywhere (d + 1)) c i t e j →
        (names : List TypeName) × Answers ts limit (m.items anywhere d s (y & t & none)) e j u (names ∷ f) k → (names : List TypeName) × Answers ts limit (m.items anywhere d s y) c i u (names ∷ f) k
    item_goes q x r = (r.0, run_pass q (run_call x (tail r.1)))

    pub items_read : {h : Context} {c e : Scopes} {d i j : ℕ} {t : Trees} (s : Spells ts limit (rest item_side) h c e d t i j) → measure s < suc n → Completes ts limit task.items h c e d t i j
    items_read {d = d} {i = i} (spells.many_none (spells.token {c = c} q w (spells.ends {own = own} spells.done))) lt = λ s x.
        (own, subst (λ y. Answers ts limit (m.items anywhere d s x) c i (one kind.Compound s (i + 1) y) c (i + 1)) (sym (and_none x)) (run_take (yes q) w (run_here run_give)))
    items_read {c = c} {e = e} {d = d} {i = i} {j = j} (spells.many_more {t = t} {u = u} x k) lt = λ s y.
        subst (λ z. (names : List TypeName) × Answers ts limit (m.items anywhere d s y) c i (one kind.Compound s j z) (names ∷ e) j) (pushed y t u)
        (item_goes (item_apart x no_item_brace) (b.read task.item x (omega arith) (λ o. items_apart k)) (b.read task.items k (omega arith) s (y & t & none)))

    -- behind a name that is a label
    marks_go : {h : Context} {c e : Scopes} {d i k j : ℕ} {u : Trees} → Is ts k word.Colon → Within limit k d → (y : Spells ts limit (a part.Statement) h c e (d + 1) u (k + 1) j) → measure y < n →
        (ends_open (one kind.Label i j (u & none)) ≡ true → is_word ts j word.Else ≡ false) → Goes ts limit (marks anywhere d i) c k (Done (one kind.Label i j (u & none)) e j)
    marks_go {u = u} q w y lt el = run_yes refl (run_take (yes q) w (run_call (b.read task.statement y lt (λ o. el (last_open none u o))) (run_here run_give)))

    -- an item that is a statement
    item_goes_on : {h : Context} {c e : Scopes} {d i j : ℕ} {t : Trees} (h' : Context) (s : Spells ts limit (a part.Statement) h c e d t i j) → measure s < n → Beginning n c e d i j t → Completes ts limit task.item h' c e d t i j
    item_goes_on h' s lt (plainly o) = λ el. run_unseen (not_declaration o) (tail (b.read task.statement s lt el))
    item_goes_on {c = c} {e = e} {d = d} {i = i} {j = j} {t = t} h' s lt (marking q w q' w' y lt') = λ el. by el (passes ts c i (m.type_identifier false)) refl
      where
        by : (ends_open t ≡ true → is_word ts j word.Else ≡ false) → (v : Bool) → passes ts c i (m.type_identifier false) ≡ v → Answers ts limit (m.item anywhere d) c i t e j
        by el true z = item_label_goes anywhere z w q' (marks_go q' w' y lt' el) q
        by el false z = run_unseen (name_starts_none ts c i q z) (tail (b.read task.statement s lt el))

    pub item_reads : {h : Context} {c e : Scopes} {d i j : ℕ} {t : Trees} (s : Spells ts limit (a part.BlockItem) h c e d t i j) → measure s < suc n → Completes ts limit task.item h c e d t i j
    item_reads (spells.of_alternative x f s) lt = elim x [ ]
    item_reads (spells.of_chain grammar.item_declaration f s) lt = λ el. declaration_is_item (specifier_yes (declaration_first ts limit s)) (b.read task.declaration s (omega arith))
    item_reads {h = h} (spells.of_chain grammar.item_statement f s) lt = item_goes_on h s (omega arith) (begins_so s (omega arith))

    -- The rest of a `for`, by its parts.

    abbrev for_side : Side
    for_side = symbol.Begins ∷ inner part.Statement ∷ symbol.Ends ∷ symbol.Ends ∷ []

    for_body_goes : {h : Context} {c e : Scopes} {d i j : ℕ} {t : Trees} (s : Spells ts limit (rest for_side) h c e d t i j) → measure s < n →
        (ends_open t ≡ true → is_word ts j word.Else ≡ false) → (k : ℕ) (x : Trees) → Goes ts limit (for_body anywhere d k x) c i (Done (one kind.For k j (x & t)) e j)
    for_body_goes (spells.begins (spells.part {t = u} y (spells.ends (spells.ends spells.done)))) lt el k x =
        run_call (block_goes (b.read task.statement y (omega arith) (λ o. el (last_open none u o)))) (run_look (run_set (run_here run_give)))

    step_goes : {h : Context} {c e : Scopes} {d i j : ℕ} {t : Trees} (s : Spells ts limit (rest (symbol.Step ∷ for_side)) h c e d t i j) → measure s < n →
        (ends_open t ≡ true → is_word ts j word.Else ≡ false) → (k : ℕ) (x y : Trees) →
        Goes ts limit (take reopens (the word.RightParen) d (for_body anywhere d k (x & y)) (call (m.expression (d + 1)) (λ u. expect reopens word.RightParen d (for_body anywhere d k (x & y & u & none))))) c i
        (Done (one kind.For k j (x & y & t)) e j)
    step_goes {c = c} {e = e} {d = d} {i = i} {j = j} {t = t} (spells.step_none q w v s) lt el k x y = run_take (yes q) (w, v)
        (subst (λ z. Goes ts limit (for_body anywhere d k (x & y)) c (i + 1) (Done (one kind.For k j z) e j)) (and_and x y t) (for_body_goes s (omega arith) el k (x & y)))
    step_goes {e = e} {d = d} {j = j} (spells.step_some {e = c'} {j = i'} {t = t} {u = u} z q w v s) lt el k x y =
        run_pass (not_first (first_expression z) word.RightParen refl refl) (run_call (whole_expression ts limit n b z (omega arith) (free_by q (omega arith))) (run_take (yes q) (w, v)
        (subst (λ z. Goes ts limit (for_body anywhere d k (x & y & t & none)) c' (i' + 1) (Done (one kind.For k j z) e j)) (and_and x (y & t & none) u ∙ ap (λ z. x & z) (pushed y t u))
        (for_body_goes s (omega arith) (λ o. el (still_open t u o)) k (x & y & t & none)))))

    clauses_go : {h : Context} {c e : Scopes} {d i j : ℕ} {t : Trees} (s : Spells ts limit (rest (symbol.Clause ∷ symbol.Step ∷ for_side)) h c e d t i j) → measure s < n →
        (ends_open t ≡ true → is_word ts j word.Else ≡ false) → (k : ℕ) (x : Trees) → Answers ts limit (m.for_clauses anywhere d k x) c i (one kind.For k j (x & t)) e j
    clauses_go (spells.clause_none q w s) lt el k x = run_call (run_take (yes q) w run_give) (step_goes s (omega arith) el k x none)
    clauses_go {c = c} {e = e} {d = d} {i = i} {j = j} (spells.clause_some {t = t} {u = u} z q w s) lt el k x =
        subst (λ y. Answers ts limit (m.for_clauses anywhere d k x) c i (one kind.For k j (x & y)) e j) (and_and t none u)
        (run_call (run_pass (not_first (first_expression z) word.Semicolon refl refl) (run_call (whole_expression ts limit n b z (omega arith) (free_by q (omega arith))) (run_take (yes q) w run_give)))
        (step_goes s (omega arith) (λ o. el (still_open t u o)) k x (t & none)))

    -- behind the first clause
    further : {h : Context} {c e : Scopes} {d i j : ℕ} {u : Trees} (t : Trees) (s : Spells ts limit (rest (symbol.Clause ∷ symbol.Step ∷ for_side)) h c e d u i j) → measure s < n →
        (ends_open (t & u) ≡ true → is_word ts j word.Else ≡ false) → (k : ℕ) → Answers ts limit (m.for_clauses anywhere d k (t & none)) c i (one kind.For k j (t & u)) e j
    further {c = c} {e = e} {d = d} {i = i} {j = j} {u = u} t s lt el k =
        subst (λ y. Answers ts limit (m.for_clauses anywhere d k (t & none)) c i (one kind.For k j y) e j) (and_and t none u)
        (clauses_go s lt (λ o. el (still_open t u o)) k (t & none))

    for_goes : {h : Context} {c e : Scopes} {d i j : ℕ} {t : Trees} (s : Spells ts limit (rest (symbol.Init ∷ symbol.Clause ∷ symbol.Step ∷ for_side)) h c e d t i j) → measure s < n →
        (ends_open t ≡ true → is_word ts j word.Else ≡ false) → (k : ℕ) →
        Goes ts limit (m.peek declaration_start (call (m.declaration (d + 1)) (λ u. call (m.for_clauses anywhere d k (u & none)) give)) (call (m.clause (d + 1)) (λ u. call (m.for_clauses anywhere d k u) give))) c i (Done (one kind.For k j t) e j)
    for_goes (spells.init_declaration {t = t} z s) lt el k =
        run_seen (specifier_yes (declaration_first ts limit z)) (run_call (b.read task.declaration z (omega arith)) (tail (further t s (omega arith) el k)))
    for_goes {c = c} {i = i} (spells.init_clause (spells.clause_none q w s)) lt el k =
        run_unseen (not_type ts c i q refl refl) (run_call (run_take (yes q) w run_give) (tail (clauses_go s (omega arith) el k none)))
    for_goes (spells.init_clause (spells.clause_some {t = t} z q w s)) lt el k =
        run_unseen (not_declaration (by_expression (first_expression z)))
        (run_call (run_pass (not_first (first_expression z) word.Semicolon refl refl) (run_call (whole_expression ts limit n b z (omega arith) (free_by q (omega arith))) (run_take (yes q) w run_give)))
        (tail (further t s (omega arith) el k)))

    -- Statements.

    expression_goes : {h : Context} {c e : Scopes} {d i j : ℕ} {t : Trees} {r : Reply} (z : Spells ts limit (a part.Expression) h c e d t i j) → measure z < n → IsFree ts 13 j → is_word ts j word.Colon ≡ false →
        Goes ts limit (expect plain word.Semicolon d (made kind.ExpressionStatement i (t & none))) e j r → Goes ts limit (body (m.statement anywhere d)) c i r
    expression_goes {d = d} {i = i} {t = t} z lt fr apart y =
        let o = first_expression z in
        unlabelled_goes (not_first o word.Case refl refl) (not_first o word.Default refl refl)
        (run_unseen (not_first o word.LeftBrace refl refl) (run_pass (not_first o word.If refl refl) (run_pass (not_first o word.Switch refl refl) (run_pass (not_first o word.While refl refl)
        (run_pass (not_first o word.Do refl refl) (run_pass (not_first o word.For refl refl) (run_pass (not_first o word.Goto refl refl) (run_pass (not_first o word.Break refl refl) (run_pass (not_first o word.Continue refl refl)
        (run_pass (not_first o word.Return refl refl) (run_pass (not_first o word.Semicolon refl refl) (run_pass (no_type_first o)
        (run_call (whole_expression ts limit n b z lt fr) (named_rest_goes d i t apart y))))))))))))))

    -- an `if` without `else`
    without_goes : {c : Scopes} {own : List TypeName} {d s j : ℕ} (t u : Trees) → is_word ts j word.Else ≡ false → Goes ts limit (if_end anywhere d s t u) (own ∷ c) j (Done (one kind.If s j (t & u & none)) c j)
    without_goes {c = c} {own = own} {d = d} {s = s} {j = j} t u q = by (ends_open u)
      where
        by : (o : Bool) → Goes ts limit (m.when o (without_else s t u) (take opens (the word.Else) d (call (m.block anywhere (d + 1)) (λ v. m.drops (made kind.If s (t & u & v & none)))) (without_else s t u))) (own ∷ c) j
            (Done (one kind.If s j (t & u & none)) c j)
        by true = run_yes refl (run_look (run_set (run_here run_give)))
        by false = run_no refl (run_pass q (run_look (run_set (run_here run_give))))

    return_goes : {d i : ℕ} {c : Scopes} {r : Reply} → Is ts i word.Return → Stands limit i d → Goes ts limit (body (m.return_rest d i)) c (i + 1) r → Goes ts limit (body (m.statement anywhere d)) c i r
    return_goes q w h =
        by_word_goes q refl refl (run_unseen (differs q word.LeftBrace refl) (run_pass (differs q word.If refl) (run_pass (differs q word.Switch refl) (run_pass (differs q word.While refl)
        (run_pass (differs q word.Do refl) (run_pass (differs q word.For refl) (run_pass (differs q word.Goto refl) (run_pass (differs q word.Break refl) (run_pass (differs q word.Continue refl) (run_take (yes q) w (tail h)))))))))))

    expression_reads : {h : Context} {c e : Scopes} {d i j : ℕ} {t : Trees} (s : Spells ts limit (rest (optional part.Expression ∷ token word.Semicolon ∷ [])) h c e d t i j) → measure s < n →
        Completes ts limit task.statement h c e d (one kind.ExpressionStatement i j t) i j
    expression_reads (spells.optional_none (spells.token q w spells.done)) lt = λ el.
        by_word_goes q refl refl (run_unseen (differs q word.LeftBrace refl) (run_pass (differs q word.If refl) (run_pass (differs q word.Switch refl) (run_pass (differs q word.While refl)
        (run_pass (differs q word.Do refl) (run_pass (differs q word.For refl) (run_pass (differs q word.Goto refl) (run_pass (differs q word.Break refl) (run_pass (differs q word.Continue refl) (run_pass (differs q word.Return refl)
        (run_take (yes q) w (run_here run_give))))))))))))
    expression_reads {h = h} {c = c} {d = d} {i = i} (spells.optional_some {t = t} z s) lt =
        closing_run ts limit s (λ e u j. Completes ts limit task.statement h c e d (one kind.ExpressionStatement i j (t & u)) i j) (λ q w el.
        expression_goes z (omega arith) (free_by q (omega arith)) (differs q word.Colon refl) (run_take (yes q) w (run_here run_give)))

    -- a condition in brackets before a statement that goes on as p says
    condition_goes : {h : Context} {c e : Scopes} {d i k : ℕ} {t : Trees} {r : Reply} (p : Trees → Prog) → Is ts i word.LeftParen → Within limit i d → (z : Spells ts limit (a part.Expression) h c e (d + 1) t (i + 1) k) → measure z < n →
        Is ts k word.RightParen → Stands limit k (d + 1) → Within limit k d → Goes ts limit (p t) e (k + 1) r →
        Goes ts limit (expect opens word.LeftParen d (call (m.expression (d + 1)) (λ u. expect reopens word.RightParen d (p u)))) c i r
    condition_goes p q w z lt q' w' v' y = run_take (yes q) w (run_call (whole_expression ts limit n b z lt (free_by q' (omega arith))) (run_take (yes q') (w', v') y))

    -- the branches of an `if` behind its condition z
    branches_go : {h h' : Context} {c c' e e' : Scopes} {d d' i i' j j' : ℕ} {t v : Trees} (s : Spells ts limit (rest (symbol.Begins ∷ inner part.Statement ∷ symbol.Ends ∷ symbol.Else ∷ symbol.Ends ∷ [])) h c e d v i j) → measure s < n →
        Spells ts limit (a part.Expression) h' c' e' d' t i' j' → fits_together kind.If (t & v) ≡ true → (k : ℕ) → (ends_open (one kind.If k j (t & v)) ≡ true → is_word ts j word.Else ≡ false) →
        Goes ts limit (call (m.block anywhere (d + 1)) (λ u. if_end anywhere d k t u)) c i (Done (one kind.If k j (t & v)) e j)
    branches_go {j = j} {t = t} (spells.begins (spells.part {t = u} y (spells.ends (spells.else_none (spells.ends spells.done))))) lt z f k el =
        let p = el (open_alone z y k j) in
        run_call (block_goes (b.read task.statement y (omega arith) (λ o. p))) (without_goes t u p)
    branches_go {t = t} (spells.begins (spells.part {t = u} y (spells.ends (spells.else_some {t = v} q w x (spells.ends spells.done))))) lt z f k el =
        run_call (block_goes (b.read task.statement y (omega arith) (λ o. true_false (sym o ∙ nearest z y x f))))
        (run_no (nearest z y x f) (run_take (yes q) w (run_call (block_goes (b.read task.statement x (omega arith)
        (λ o. el (or_right (not (has_else (t & u & v & none))) (ends_open (t & u & v & none)) (still_open t (u & v & none) (last_open u v o))))))
        (run_look (run_set (run_here run_give))))))

    if_reads : {h : Context} {c e : Scopes} {d i j : ℕ} {t : Trees} (s : Spells ts limit (rest (symbol.Begins ∷ token word.If ∷ opening word.LeftParen ∷ inner part.Expression ∷ reopening word.RightParen ∷ symbol.Begins ∷ inner part.Statement ∷
        symbol.Ends ∷ symbol.Else ∷ symbol.Ends ∷ [])) h c e d t i j) → measure s < n → fits_together kind.If t ≡ true → Completes ts limit task.statement h c e d (one kind.If i j t) i j
    if_reads {d = d} {i = i} {j = j} (spells.begins (spells.token q w (spells.opens q' w' (spells.part {t = t} {u = v} z (spells.reopens q'' w'' v'' s))))) lt f = λ el.
        by_word_goes q refl refl (run_unseen (differs q word.LeftBrace refl) (run_take (yes q) w (tail (run_look (run_set
        (condition_goes (λ u. call (m.block anywhere (d + 1)) (λ y. if_end anywhere d i u y)) q' w' z (omega arith) q'' w'' v''
        (branches_go s (omega arith) z f i el)))))))

    -- the body of a switch behind its condition
    switch_goes : {h : Context} {c e : Scopes} {d i j : ℕ} {v : Trees} (t : Trees) (s : Spells ts limit (rest (symbol.Begins ∷ inner part.Compound ∷ symbol.Ends ∷ symbol.Ends ∷ [])) h c e d v i j) → measure s < n →
        (k : ℕ) → Goes ts limit (switch_body anywhere d k t) c i (Done (one kind.Switch k j (t & v)) e j)
    switch_goes {c = c} {i = i} {j = j} t (spells.begins (spells.part y (spells.ends (spells.ends spells.done)))) lt k =
        let o = compound_first ts limit y in
        run_free (or_from (is_word ts i word.Case) (is_word ts i word.Default) (differs o word.Case refl) (differs o word.Default refl)) (run_free (no_statement_start c i o) (run_look (run_set
        (run_call (b.read task.compound y (omega arith)) (run_look (run_set (run_look (run_set (run_here run_give)))))))))

    switch_reads : {h : Context} {c e : Scopes} {d i j : ℕ} {t : Trees} (s : Spells ts limit (rest (symbol.Begins ∷ token word.Switch ∷ opening word.LeftParen ∷ inner part.Expression ∷ reopening word.RightParen ∷ symbol.Begins ∷ inner part.Compound ∷
        symbol.Ends ∷ symbol.Ends ∷ [])) h c e d t i j) → measure s < n → Completes ts limit task.statement h c e d (one kind.Switch i j t) i j
    switch_reads {d = d} {i = i} (spells.begins (spells.token q w (spells.opens q' w' (spells.part {t = t} z (spells.reopens q'' w'' v'' s))))) lt = λ el.
        by_word_goes q refl refl (run_unseen (differs q word.LeftBrace refl) (run_pass (differs q word.If refl) (run_take (yes q) w (tail (run_look (run_set
        (condition_goes (λ u. switch_body anywhere d i u) q' w' z (omega arith) q'' w'' v'' (switch_goes t s (omega arith) i))))))))

    -- the body of a `while` behind its condition
    while_goes : {h : Context} {c e : Scopes} {d i j : ℕ} {v : Trees} (s : Spells ts limit (rest (symbol.Begins ∷ inner part.Statement ∷ symbol.Ends ∷ symbol.Ends ∷ [])) h c e d v i j) → measure s < n →
        (k : ℕ) (t : Trees) → (ends_open (t & v) ≡ true → is_word ts j word.Else ≡ false) →
        Goes ts limit (call (m.block anywhere (d + 1)) (λ u. m.drops (made kind.While k (t & u & none)))) c i (Done (one kind.While k j (t & v)) e j)
    while_goes (spells.begins (spells.part {t = u} y (spells.ends (spells.ends spells.done)))) lt k t el =
        run_call (block_goes (b.read task.statement y (omega arith) (λ o. el (last_open t u o)))) (run_look (run_set (run_here run_give)))

    while_reads : {h : Context} {c e : Scopes} {d i j : ℕ} {t : Trees} (s : Spells ts limit (rest (symbol.Begins ∷ token word.While ∷ opening word.LeftParen ∷ inner part.Expression ∷ reopening word.RightParen ∷ symbol.Begins ∷ inner part.Statement ∷
        symbol.Ends ∷ symbol.Ends ∷ [])) h c e d t i j) → measure s < n → Completes ts limit task.statement h c e d (one kind.While i j t) i j
    while_reads {d = d} {i = i} {j = j} (spells.begins (spells.token q w (spells.opens q' w' (spells.part {t = t} {u = v} z (spells.reopens q'' w'' v'' s))))) lt = λ el.
        by_word_goes q refl refl (run_unseen (differs q word.LeftBrace refl) (run_pass (differs q word.If refl) (run_pass (differs q word.Switch refl) (run_take (yes q) w (tail (run_look (run_set
        (condition_goes (λ y. call (m.block anywhere (d + 1)) (λ u. m.drops (made kind.While i (y & u & none)))) q' w' z (omega arith) q'' w'' v''
        (while_goes s (omega arith) i t el)))))))))

    -- the end of a `do` behind its condition
    do_ends : {h : Context} {c e : Scopes} {d i j : ℕ} {t : Trees} → Spells ts limit (rest (closing word.RightParen ∷ token word.Semicolon ∷ symbol.Ends ∷ [])) h c e d t i j →
        Is ts i word.RightParen × ((k : ℕ) (x y : Trees) → Goes ts limit (expect plain word.RightParen (d + 1) (expect plain word.Semicolon d (m.drops (made kind.Do k (x & y & none))))) c i (Done (one kind.Do k j (x & y & t)) e j))
    do_ends (spells.token q w (spells.token q' w' (spells.ends spells.done))) = (q, λ k x y. run_take (yes q) w (run_take (yes q') w' (run_look (run_set (run_here run_give)))))

    do_reads : {h : Context} {c e : Scopes} {d i j : ℕ} {t : Trees} (s : Spells ts limit (rest (symbol.Begins ∷ opening word.Do ∷ symbol.Begins ∷ inner part.Statement ∷ symbol.Ends ∷ token word.While ∷ opening word.LeftParen ∷ inner part.Expression ∷
        closing word.RightParen ∷ token word.Semicolon ∷ symbol.Ends ∷ [])) h c e d t i j) → measure s < n → Completes ts limit task.statement h c e d (one kind.Do i j t) i j
    do_reads {i = i} {j = j} (spells.begins (spells.opens q w (spells.begins (spells.part {t = t} y (spells.ends (spells.token q' w' (spells.opens p k (spells.part {t = u} {u = v} z s)))))))) lt = λ el.
        by_word_goes q refl refl (run_unseen (differs q word.LeftBrace refl) (run_pass (differs q word.If refl) (run_pass (differs q word.Switch refl) (run_pass (differs q word.While refl) (run_take (yes q) w (tail (run_look (run_set
        (run_call (block_goes (b.read task.statement y (omega arith) (λ o. differs q' word.Else refl))) (run_take (yes q') w' (run_take (yes p) k
        (run_call (whole_expression ts limit n b z (omega arith) (free_by (do_ends s).0 (omega arith))) ((do_ends s).1 i t u)))))))))))))

    for_reads : {h : Context} {c e : Scopes} {d i j : ℕ} {t : Trees} (s : Spells ts limit (rest (symbol.Begins ∷ token word.For ∷ opening word.LeftParen ∷ symbol.Init ∷ symbol.Clause ∷ symbol.Step ∷ for_side)) h c e d t i j) → measure s < n →
        Completes ts limit task.statement h c e d (one kind.For i j t) i j
    for_reads {i = i} {j = j} {t = t} (spells.begins (spells.token q w (spells.opens q' w' s))) lt = λ el.
        by_word_goes q refl refl (run_unseen (differs q word.LeftBrace refl) (run_pass (differs q word.If refl) (run_pass (differs q word.Switch refl) (run_pass (differs q word.While refl) (run_pass (differs q word.Do refl)
        (run_take (yes q) w (tail (run_look (run_set (run_take (yes q') w' (for_goes s (omega arith) el i)))))))))))

    mark_reads : {h' : Context} {c e : Scopes} {d i j : ℕ} {u : Trees} (h : Context) → Is ts i word.Identifier → Stands limit i d → Is ts (i + 1) word.Colon → Within limit (i + 1) d →
        (y : Spells ts limit (a part.Statement) h' c e (d + 1) u (i + 1 + 1) j) → measure y < n → Completes ts limit task.statement h c e d (one kind.Label i j (u & none)) i j
    mark_reads h q w q' w' y lt = λ el.
        by_word_goes q refl refl (run_unseen (differs q word.LeftBrace refl) (run_pass (differs q word.If refl) (run_pass (differs q word.Switch refl) (run_pass (differs q word.While refl)
        (run_pass (differs q word.Do refl) (run_pass (differs q word.For refl) (run_pass (differs q word.Goto refl) (run_pass (differs q word.Break refl) (run_pass (differs q word.Continue refl)
        (run_pass (differs q word.Return refl) (run_pass (differs q word.Semicolon refl) (label_goes anywhere q w q' (marks_go q' w' y lt el)))))))))))))

    goto_reads : {h : Context} {c e : Scopes} {d i j : ℕ} {t : Trees} (s : Spells ts limit (rest (token word.Goto ∷ token word.Identifier ∷ token word.Semicolon ∷ [])) h c e d t i j) → measure s < n →
        Completes ts limit task.statement h c e d (one kind.Goto i j t) i j
    goto_reads (spells.token q w (spells.token q' w' (spells.token q'' w'' spells.done))) lt = λ el.
        by_word_goes q refl refl (run_unseen (differs q word.LeftBrace refl) (run_pass (differs q word.If refl) (run_pass (differs q word.Switch refl) (run_pass (differs q word.While refl)
        (run_pass (differs q word.Do refl) (run_pass (differs q word.For refl) (run_take (yes q) w (run_take (yes q') w' (run_take (yes q'') w'' (run_here run_give))))))))))

    case_reads : {h : Context} {c e : Scopes} {d i j : ℕ} {t : Trees} (s : Spells ts limit (rest (token word.Case ∷ grammar.part part.Conditional ∷ opening word.Colon ∷ inner part.Statement ∷ [])) h c e d t i j) → measure s < n →
        Completes ts limit task.statement h c e d (one kind.Case i j t) i j
    case_reads {i = i} {j = j} (spells.token q w (spells.part {t = t} z (spells.opens q' w' (spells.part {t = u} y spells.done)))) lt = λ el.
        labelled_goes (run_take (yes q) w (run_call (b.read task.conditional z (omega arith) (free_by q' (omega arith))) (run_take (yes q') w'
        (run_call (b.read task.statement y (omega arith) (λ o. el (last_open t u o))) (run_here run_give)))))

    default_reads : {h : Context} {c e : Scopes} {d i j : ℕ} {t : Trees} (s : Spells ts limit (rest (token word.Default ∷ opening word.Colon ∷ inner part.Statement ∷ [])) h c e d t i j) → measure s < n →
        Completes ts limit task.statement h c e d (one kind.Default i j t) i j
    default_reads {i = i} {j = j} (spells.token q w (spells.opens q' w' (spells.part {t = u} y spells.done))) lt = λ el.
        labelled_goes (run_pass (differs q word.Case refl) (run_take (yes q) w (run_take (yes q') w'
        (run_call (b.read task.statement y (omega arith) (λ o. el (last_open none u o))) (run_here run_give)))))

    break_reads : {h : Context} {c e : Scopes} {d i j : ℕ} {t : Trees} (s : Spells ts limit (rest (token word.Break ∷ token word.Semicolon ∷ [])) h c e d t i j) → measure s < n →
        Completes ts limit task.statement h c e d (one kind.Break i j t) i j
    break_reads (spells.token q w (spells.token q' w' spells.done)) lt = λ el.
        by_word_goes q refl refl (run_unseen (differs q word.LeftBrace refl) (run_pass (differs q word.If refl) (run_pass (differs q word.Switch refl) (run_pass (differs q word.While refl)
        (run_pass (differs q word.Do refl) (run_pass (differs q word.For refl) (run_pass (differs q word.Goto refl) (run_take (yes q) w (run_take (yes q') w' (run_here run_give))))))))))

    continue_reads : {h : Context} {c e : Scopes} {d i j : ℕ} {t : Trees} (s : Spells ts limit (rest (token word.Continue ∷ token word.Semicolon ∷ [])) h c e d t i j) → measure s < n →
        Completes ts limit task.statement h c e d (one kind.Continue i j t) i j
    continue_reads (spells.token q w (spells.token q' w' spells.done)) lt = λ el.
        by_word_goes q refl refl (run_unseen (differs q word.LeftBrace refl) (run_pass (differs q word.If refl) (run_pass (differs q word.Switch refl) (run_pass (differs q word.While refl)
        (run_pass (differs q word.Do refl) (run_pass (differs q word.For refl) (run_pass (differs q word.Goto refl) (run_pass (differs q word.Break refl) (run_take (yes q) w (run_take (yes q') w' (run_here run_give)))))))))))

    return_reads : {h : Context} {c e : Scopes} {d i j : ℕ} {t : Trees} (s : Spells ts limit (rest (token word.Return ∷ optional part.Expression ∷ token word.Semicolon ∷ [])) h c e d t i j) → measure s < n →
        Completes ts limit task.statement h c e d (one kind.Return i j t) i j
    return_reads (spells.token q w (spells.optional_none (spells.token q' w' spells.done))) lt = λ el.
        return_goes q w (run_take (yes q') w' (run_here run_give))
    return_reads {h = h} {c = c} {d = d} {i = i} (spells.token q w (spells.optional_some {t = t} z s)) lt =
        closing_run ts limit s (λ e u j. Completes ts limit task.statement h c e d (one kind.Return i j (t & u)) i j) (λ q' w' el.
        return_goes q w (run_pass (not_first (first_expression z) word.Semicolon refl refl)
        (run_call (whole_expression ts limit n b z (omega arith) (free_by q' (omega arith))) (run_take (yes q') w' (run_here run_give)))))

    pub statement_reads : {h : Context} {c e : Scopes} {d i j : ℕ} {t : Trees} (s : Spells ts limit (a part.Statement) h c e d t i j) → measure s < suc n → Completes ts limit task.statement h c e d t i j
    statement_reads (spells.of_chain grammar.statement_compound f s) lt = λ el.
        let q = compound_first ts limit s in
        by_word_goes q refl refl (run_seen (yes q) (tail (b.read task.compound s (omega arith))))
    statement_reads (spells.of_alternative grammar.expression_statement f s) lt = expression_reads s (omega arith)
    statement_reads (spells.of_alternative grammar.if_statement f s) lt = if_reads s (omega arith) f
    statement_reads (spells.of_alternative grammar.switch_statement f s) lt = switch_reads s (omega arith)
    statement_reads (spells.of_alternative grammar.while_statement f s) lt = while_reads s (omega arith)
    statement_reads (spells.of_alternative grammar.do_statement f s) lt = do_reads s (omega arith)
    statement_reads (spells.of_alternative grammar.for_statement f s) lt = for_reads s (omega arith)
    statement_reads {h = h} (spells.of_alternative grammar.labeled_statement f (spells.token q w (spells.opens q' w' (spells.part y spells.done)))) lt = mark_reads h q w q' w' y (omega arith)
    statement_reads (spells.of_alternative grammar.case_statement f s) lt = case_reads s (omega arith)
    statement_reads (spells.of_alternative grammar.default_statement f s) lt = default_reads s (omega arith)
    statement_reads (spells.of_alternative grammar.goto_statement f s) lt = goto_reads s (omega arith)
    statement_reads (spells.of_alternative grammar.break_statement f s) lt = break_reads s (omega arith)
    statement_reads (spells.of_alternative grammar.continue_statement f s) lt = continue_reads s (omega arith)
    statement_reads (spells.of_alternative grammar.return_statement f s) lt = return_reads s (omega arith)
