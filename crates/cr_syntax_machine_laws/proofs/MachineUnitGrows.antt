-- What the machine refuses in a unit can go on before the refused token: what the programs of declarations, statements and
-- units owe. A least declaration is `int ;`, and a least statement is `;`.
use Rattle.std.proofs.Common.{◌≡◌, ℕ, ◌+◌, ◌-◌, ◌<◌, ◌≤◌, Bool, true, false, ◌||◌, List, [], ◌∷◌, length, refl, sym, ap, subst, ◌∙◌, arith}
use Rattle.std.specs.Prelude.{◌==◌, ◌&&◌, if◌then◌else◌}
use Rattle.cr_syntax.specs.declared.word.Word.{Word}
use Rattle.cr_syntax.specs.declared.word.Word.TheVariants as word
use Rattle.cr_syntax.specs.declared.node.Kind.{Kind}
use Rattle.cr_syntax.specs.declared.node.Kind.TheVariants as kind
use Rattle.cr_syntax.specs.declared.part.Part.{Part}
use Rattle.cr_syntax.specs.declared.part.Part.TheVariants as part
use Rattle.cr_syntax.specs.Symbols as symbol
use Rattle.cr_syntax.specs.declared.part.Context.{Context}
use Rattle.cr_syntax.specs.Words.{Lexeme}
use Rattle.cr_syntax.specs.Scopes.{Scopes, enter}
use Rattle.cr_syntax.specs.Trees.{Trees, none, node, one, ◌&◌}
use Rattle.cr_syntax.specs.Context.{fresh, past_token, past_part, declared_name, is_bare, ends_open}
use Rattle.cr_syntax.specs.Grammar.{opening, closing, inner, token, part}
use Rattle.cr_syntax.specs.Grammar as grammar
use Rattle.cr_syntax.specs.Spells.{Limit, Is, Stands, Within, Spells, a, rest}
use Rattle.cr_syntax.specs.Spells as spells
use Rattle.cr_syntax.specs.Units.{Place, own_item, block_item, elsewhere, place_in, place_behind, is_misplaced, is_stray, wrong_at, has_here, after_first, own_parameters, ellipsis_at, one_begins_at, switch_body_at, variadic_definition}
use Rattle.cr_syntax.specs.Units as units
use Rattle.cr_syntax_machine.specs.Machine.{Goal, Prog, Manner, Labels, anywhere, own_block, in_block, nowhere, named, Allows, plain, opens, reopens, around, innermost_of, stop}
use Rattle.cr_syntax_machine.specs.Machine.{whole, expression, commas, assignment, conditional, operands, cast, unary, measured, postfix, called, grouped, texts, arguments, suffixes, type_name, row, more, element, structure, members, member, member_declarators, enumeration, enumerators, enumerator, qualifiers, declarator, declarator_suffixes, abstract_suffixes, size, parameters, more_parameters, parameter}
use Rattle.cr_syntax_machine.specs.Machine.{unit, externals, external, declaration, init_declarators, initialized, initializer, initializers, statement, block, if_rest, switch_rest, while_rest, do_rest, for_rest, return_rest, for_clauses, clause, compound, items, item}
use Rattle.cr_syntax_machine.specs.Machine as m
use Rattle.cr_syntax_machine.specs.MachineBody.{body, inside, in_compound, may_label, may_mark, may_define, is_label, is_identifier, is_type_name, ends_variadic, last_token, defined, declared_on, unlabelled, marked, declaration_rest, expression_rest}
use Rattle.cr_syntax_machine.specs.MachineBody as program
use Rattle.cr_syntax_machine.proofs.MachineSpells.{and_and, pushed, is_one, forth, name_brought, Names, by_declarator, by_direct, unheard, own_alone, own_first, after_one}
use Rattle.cr_syntax_machine.proofs.MachineSpells as facts
use Rattle.cr_syntax_machine_laws.proofs.MachineNames.{OneName, one_name, label_spelled}
use Rattle.cr_syntax_machine_laws.proofs.MachineKept.{around_less}
use Rattle.cr_syntax_machine_laws.proofs.MachineMeans.{Reads, Begun, IsDeclared, with_name, without, IsClause, no_clause, one_clause, IsOpen, open_of, after_init}
use Rattle.cr_syntax_machine_laws.proofs.MachineUnitSound.{nearest_one, nearest_two, ended, entered, bare_declaration, clause_of}
use Rattle.cr_syntax_machine_laws.proofs.MachineBegins.{owned}
use Rattle.cr_syntax_machine_laws.proofs.MachineExtend.{Front, Stand, weaken}
use Rattle.cr_syntax_machine_laws.proofs.MachineScopes.{scopes_kept}
use Rattle.cr_syntax_machine_laws.proofs.MachineEnds.{Way}
use Rattle.cr_syntax_machine_laws.proofs.MachineShown.{next_so, next_designator, next_label, next_block, next_body, next_definition, next_stray, shown_label, shown_block, shown_body, shown_definition, shown_stray, shown_in_so, seen, every, started, started_here, started_so, started_right, in_list, in_declarator, Room, Labelled, moved, left_in, right_in, within, wherever, left, right, first, second, operand_begins, same_number}
use Rattle.cr_syntax_machine_laws.proofs.MachineShown as show
use Rattle.cr_syntax_machine_laws.proofs.MachineGrows.{GrownIn, GrownBy, Via, Stated, IsDeclarationBegin, OneDeclared, U, placed, blocked, grown, puts, more0, mores, number_conditional, number_assignment, number_expression, some_expression, one_declarator}
use Rattle.cr_syntax_machine_laws.proofs.MachineGrows as grows
use Rattle.std.proofs.lemmas.Bool.{or_left, or_right, and_from, not-false}

-- Places: where the parts of a node stand, by the labels that they may have.

items_stand : (l : Labels) (p : Place) → blocked l p ≡ true → placed l (place_in kind.Compound p) ≡ true
items_stand anywhere p q = refl
items_stand own_block units.in_switch q = refl
items_stand own_block own_item q = cc
items_stand own_block block_item q = cc
items_stand own_block elsewhere q = cc
items_stand in_block units.in_switch q = cc
items_stand in_block own_item q = refl
items_stand in_block block_item q = refl
items_stand in_block elsewhere q = refl
items_stand nowhere p q = cc

block_stands : (l : Labels) (p : Place) → placed l p ≡ true → blocked (in_compound l) p ≡ true
block_stands anywhere p q = refl
block_stands own_block units.in_switch q = cc
block_stands own_block own_item q = refl
block_stands own_block block_item q = refl
block_stands own_block elsewhere q = refl
block_stands in_block units.in_switch q = cc
block_stands in_block own_item q = refl
block_stands in_block block_item q = refl
block_stands in_block elsewhere q = refl
block_stands nowhere units.in_switch q = cc
block_stands nowhere own_item q = refl
block_stands nowhere block_item q = refl
block_stands nowhere elsewhere q = refl

parts_stand : (l : Labels) → placed (inside l) elsewhere ≡ true
parts_stand anywhere = refl
parts_stand own_block = refl
parts_stand in_block = refl
parts_stand nowhere = refl

switch_stands : (l : Labels) → blocked (program.in_switch l) units.in_switch ≡ true
switch_stands anywhere = refl
switch_stands own_block = refl
switch_stands in_block = refl
switch_stands nowhere = refl

definition_stands : (l : Labels) → blocked (in_compound l) elsewhere ≡ true
definition_stands anywhere = refl
definition_stands own_block = refl
definition_stands in_block = refl
definition_stands nowhere = refl

-- the statement of a label
label_stands : (l : Labels) (p : Place) → placed l p ≡ true → placed l (place_behind p) ≡ true
label_stands anywhere p q = refl
label_stands own_block units.in_switch q = cc
label_stands own_block own_item q = refl
label_stands own_block block_item q = cc
label_stands own_block elsewhere q = cc
label_stands in_block units.in_switch q = cc
label_stands in_block own_item q = cc
label_stands in_block block_item q = refl
label_stands in_block elsewhere q = cc
label_stands nowhere units.in_switch q = cc
label_stands nowhere own_item q = cc
label_stands nowhere block_item q = cc
label_stands nowhere elsewhere q = refl

-- a label of a switch where none may stand is misplaced, and so is an identifier's
no_label : (l : Labels) → may_label l ≡ false → (p : Place) → placed l p ≡ true → (is_misplaced kind.Case p ≡ true) × (is_misplaced kind.Default p ≡ true)
no_label anywhere q p r = cc
no_label own_block q p r = cc
no_label in_block q units.in_switch r = cc
no_label in_block q own_item r = cc
no_label in_block q block_item r = (refl, refl)
no_label in_block q elsewhere r = cc
no_label nowhere q units.in_switch r = cc
no_label nowhere q own_item r = cc
no_label nowhere q block_item r = cc
no_label nowhere q elsewhere r = (refl, refl)

no_mark : (l : Labels) → may_mark l ≡ false → (p : Place) → placed l p ≡ true → is_stray kind.Label p ≡ true
no_mark anywhere q p r = cc
no_mark own_block q p r = cc
no_mark in_block q p r = cc
no_mark nowhere q units.in_switch r = cc
no_mark nowhere q own_item r = cc
no_mark nowhere q block_item r = cc
no_mark nowhere q elsewhere r = refl

wrong_here : (f : Kind → Place → Bool) (n : ℕ) (q : Kind) (p : Place) (j : ℕ) (t : Trees) → f q p ≡ true → wrong_at f n p (one q n j t) ≡ true
wrong_here f n q p j t x = by (n == n) (f q p) (wrong_at f n (place_in q p) t) false (same_number n n refl) x
  where
    by : (b d y z : Bool) → b ≡ true → d ≡ true → (b && d) || y || z ≡ true
    by true true y z q r = refl
    by false d y z q r = cc
    by true false y z q r = cc

-- A switch's body begins at token k.
pub body_begins : {t : Trees} {q : Kind} {i j k n : ℕ} {b : Trees} → t ≡ one q i j b → n ≡ k → (s e m : ℕ) (z : Kind) (v u : Trees) → switch_body_at s k kind.Switch s e (t & node z n m v u) ≡ true
body_begins {t = t} {k = k} {n = n} y e s l m z v u = and_from (s == s) (one_begins_at k (after_first (t & node z n m v u))) (same_number s s refl) (operand_begins y e z m l v u)

-- A declarator's own parameters.

-- a list of parameters that ends in `...` does so before token k
record EndsBefore (k : ℕ) (y : Trees) : Type 0 where
  pub ends : ends_variadic y ≡ true → (ellipsis_at (last_token y) y ≡ true) × (last_token y < k)

ends_later : {j k : ℕ} (y : Trees) → j ≤ k → EndsBefore j y → EndsBefore k y
ends_later y le x = record { ends = λ v. let n = (x.ends v).1 in ((x.ends v).0, omega arith) }

ends_none : (k : ℕ) → EndsBefore k none
ends_none k = record { ends = λ v. cc }

ends_one : (q : Kind) (i j k : ℕ) (b n : Trees) → 0 < j → j ≤ k → EndsBefore k (node q i j b n)
ends_one kind.VariadicParameters i j k b n lt le = record { ends = λ v. (same_number j (j - 1 + 1) (omega arith), omega arith) }
ends_one _ i j k b n lt le = record { ends = λ v. cc }

ends_either : (k : ℕ) (b : Bool) (x y : Trees) → EndsBefore k x → EndsBefore k y → EndsBefore k (if b then x else y)
ends_either k true x y p q = p
ends_either k false x y p q = q

-- a declarator's own parameters do so
record OwnEnds (k : ℕ) (t : Trees) : Type 0 where
  pub own : EndsBefore k (own_parameters t)

abbrev IsOne : ℕ → ℕ → Trees → Type 0
IsOne i j t = (q : Kind) × (b : Trees) × (t ≡ one q i j b)

ends_base : (i j k : ℕ) (t u : Trees) → IsOne i j t → j ≤ k → OwnEnds j t → EndsBefore k (own_parameters (t & u))
ends_base i j k t u x le y = subst (λ y. EndsBefore k y) (sym (own_first x.2 u)) (ends_later _ le y.own)

prototype_ends : {ts : List Lexeme} {limit : Limit} {h : Context} {c e : Scopes} {d i j : ℕ} {u : Trees} →
    Spells ts limit (rest (opening word.LeftParen ∷ symbol.Prototype ∷ closing word.RightParen ∷ [])) h c e d u i j → EndsBefore j u
prototype_ends (spells.opens q w (spells.prototype_none (spells.token q' w' spells.done))) = ends_none _
prototype_ends {i = i} {j = j} (spells.opens q w (spells.prototype_some {j = j'} {u = u} x s)) =
    let n = forth x in
    let n' = forth s in
    let y = is_one x in
    subst (λ z. EndsBefore j (z & u)) (sym y.2) (ends_one y.0 (i + 1) j' j y.1 u (omega arith) (omega arith))

-- what holds of each declarator that is built on others
module _ (holds : ℕ → Trees → Type 0) (of_name : (i j : ℕ) (b : Trees) → holds j (one kind.NameDeclarator i j b)) (of_pointer : (i j : ℕ) (b : Trees) → holds j b → holds j (one kind.PointerDeclarator i j b))
    (of_group : (i j n k : ℕ) (t u : Trees) → IsOne i j t → j ≤ k → holds j t → holds k (one kind.GroupDeclarator n k (t & u)))
    (of_array : (i j n k : ℕ) (t u : Trees) → IsOne i j t → j ≤ k → holds j t → holds k (one kind.ArrayDeclarator n k (t & u)))
    (of_function : (i j n k : ℕ) (t u : Trees) → IsOne i j t → j ≤ k → EndsBefore k u → holds j t → holds k (one kind.FunctionDeclarator n k (t & u))) where
  each_declarator : {ts : List Lexeme} {limit : Limit} {p : Part} {h : Context} {c e : Scopes} {d i j : ℕ} {t : Trees} → Names p → Spells ts limit (a p) h c e d t i j → holds j t
  each_declarator by_declarator (spells.of_chain grammar.declarator_direct f s) = each_declarator by_direct s
  each_declarator by_declarator (spells.of_alternative grammar.pointer_declarator f (spells.opens q w (spells.qualified k s))) = of_pointer _ _ _ (each_declarator by_declarator s)
  each_declarator by_direct (spells.of_chain x f s) = elim x [ ]
  each_declarator by_direct (spells.of_alternative grammar.name_declarator f s) = of_name _ _ _
  each_declarator by_direct (spells.of_alternative grammar.group_declarator f (spells.opens q w (spells.part x s))) = of_group _ _ _ _ _ _ (is_one x) (forth s) (each_declarator by_declarator x)
  each_declarator by_direct (spells.of_alternative grammar.array_declarator f (spells.part x s)) = of_array _ _ _ _ _ _ (is_one x) (forth s) (each_declarator by_direct x)
  each_declarator by_direct (spells.of_alternative grammar.function_declarator f (spells.part x s)) = of_function _ _ _ _ _ _ (is_one x) (forth s) (prototype_ends s) (each_declarator by_direct x)

own_ends : {ts : List Lexeme} {limit : Limit} {h : Context} {c e : Scopes} {d i j : ℕ} {t : Trees} → Spells ts limit (a part.Declarator) h c e d t i j → OwnEnds j t
own_ends s = each_declarator OwnEnds (λ i j b. record { own = ends_none j }) (λ i j b y. record { own = y.own })
    (λ i j n k t u x le y. record { own = ends_base i j k t u x le y }) (λ i j n k t u x le y. record { own = ends_base i j k t u x le y })
    (λ i j n k t u x le z y. record { own = ends_either k (is_bare (t & u)) (after_first (t & u)) (own_parameters (t & u)) (subst (λ y. EndsBefore k y) (sym (after_one x.2 u)) z) (ends_base i j k t u x le y) })
    by_declarator s

-- a definition with `...`, whose body begins at token m
definition_ends : {t y : Trees} {q q' : Kind} {i i' j j' : ℕ} {b b' : Trees} → t ≡ one q i j b → y ≡ one q' i' j' b' → (n m s e l : ℕ) (z : Kind) (v u : Trees) → ellipsis_at n (own_parameters y) ≡ true →
    variadic_definition n m kind.FunctionDefinition s e (t & y & node z m l v u) ≡ true
definition_ends {y = y} {q = q} {q' = q'} {i = i} {i' = i'} {j = j} {j' = j'} {b = b} {b' = b'} x x' n m s e l z v u r =
    subst (λ t. variadic_definition n m kind.FunctionDefinition s e (t & y & node z m l v u) ≡ true) (sym x)
    (subst (λ y. variadic_definition n m kind.FunctionDefinition s e (one q i j b & y & node z m l v u) ≡ true) (sym x')
    (and_from (ellipsis_at n (own_parameters (node q' i' j' b' (node z m l v u)))) (one_begins_at m (node z m l v u))
    (ap (λ y. ellipsis_at n y) (own_alone q' i' j' b' (node z m l v u)) ∙ subst (λ y. ellipsis_at n (own_parameters y) ≡ true) x' r)
    (or_left (m == m) (one_begins_at m u) (same_number m m refl))))

-- the words of labels
label_is : {A : Type 0} (us : List Lexeme) (i : ℕ) (w : Word) → is_label w ≡ true → Is us i w → (Is us i word.Case → A) → (Is us i word.Default → A) → A
label_is us i word.Case q r f g = f r
label_is us i word.Default q r f g = g r
label_is us i _ q r f g = cc

defines_variadic : (l : Labels) (y : Trees) → may_define l y ≡ false → ends_variadic (own_parameters y) ≡ true
defines_variadic anywhere y q = cc
defines_variadic own_block y q = not-false (ends_variadic (own_parameters y)) q
defines_variadic in_block y q = not-false (ends_variadic (own_parameters y)) q
defines_variadic nowhere y q = not-false (ends_variadic (own_parameters y)) q

-- What a clause of a `for` is followed by.

done_none : {all : List Lexeme} {top : Limit} {h : Context} {c e : Scopes} {d i j : ℕ} {t : Trees} → Spells all top (rest []) h c e d t i j → t ≡ none
done_none spells.done = refl

done_same : {all : List Lexeme} {top : Limit} {h : Context} {c e : Scopes} {d i j : ℕ} {t : Trees} → Spells all top (rest []) h c e d t i j → c ≡ e
done_same spells.done = refl

done_back : {all : List Lexeme} {top : Limit} {s : grammar.Side} {h h' : Context} {c e f : Scopes} {d i j k : ℕ} {t u : Trees} → Spells all top (rest []) h c e d t i j → Spells all top (rest s) h' e f d u j k → Spells all top (rest s) h' c f d u i k
done_back spells.done z = z

clause_on : {all : List Lexeme} {top : Limit} {s : grammar.Side} {h : Context} {c e f : Scopes} {d i j k : ℕ} {t u : Trees} → Spells all top (rest (symbol.Clause ∷ [])) h c e d t i j →
    Spells all top (rest s) (past_token h) e f d u j k → Spells all top (rest (symbol.Clause ∷ s)) h c f d (t & u) i k
clause_on (spells.clause_none q w spells.done) z = spells.clause_none q w z
clause_on {all = all} {top = top} {s = s} {h = h} {c = c} {f = f} {d = d} {i = i} {k = k} {u = u} (spells.clause_some {t = t} x q w r) z =
    subst (λ v. Spells all top (rest (symbol.Clause ∷ s)) h c f d v i k) (sym (ap (λ v. (t & v) & u) (done_none r) ∙ and_and t none u)) (spells.clause_some x q w (done_back r z))

clause_kept : {all : List Lexeme} {top : Limit} {h : Context} {e f : Scopes} {d i j : ℕ} {t : Trees} → Spells all top (rest (symbol.Clause ∷ [])) h e f d t i j → 0 < length e → 0 < length f
clause_kept (spells.clause_none q w spells.done) lt = lt
clause_kept (spells.clause_some x q w r) lt = let n = scopes_kept x in subst (λ y. 0 < length y) (done_same r) (omega arith)

module _ (us : List Lexeme) (top : Limit) (way : Way) (late : (g : Manner) (i d : ℕ) → length us < i → Allows top g i d) where
  abbrev V : Goal → Scopes → ℕ → Type 0
  V = Via us top way late

  abbrev Owes : Prog → Type 0 → Scopes → ℕ → Type 0
  Owes = grows.Owes us top way late

  abbrev Owed : Goal → Scopes → ℕ → Type 0
  Owed g c i = Owes (body g) (V g c i) c i

  -- Scopes and names in a longer text.

  front_name : {all : List Lexeme} → Front us all → (h : Context) → declared_name us h ≡ declared_name all h
  front_name f h = ap (λ s. record { name = s; is_type = h.type_name }) (sym (f.names h.name))

  front_clause : {all : List Lexeme} {d i : ℕ} {c e : Scopes} {t : Trees} {j : ℕ} → Front us all → IsClause us top d c i t e j → IsClause all top d c i t e j
  front_clause f (no_clause q w) = no_clause (f.words _ _ q) w
  front_clause f (one_clause x q w) = one_clause (λ h. weaken f (x h)) (f.words _ _ q) w

  -- A least statement, block and declaration.

  empty : (all : List Lexeme) (c : Scopes) (d i : ℕ) → Is all i word.Semicolon → Stands top i d → (h : Context) → Spells all top (a part.Statement) h c c d (one kind.ExpressionStatement i (i + 1) none) i (i + 1)
  empty all c d i q w h = spells.of_alternative grammar.expression_statement refl (spells.optional_none (spells.token q w spells.done))

  pub empty_block : (all : List Lexeme) (c : Scopes) (d i : ℕ) → Is all i word.LeftBrace → Is all (i + 1) word.RightBrace → Within top i d → Stands top (i + 1) (d + 1) → (h : Context) →
      Spells all top (a part.Compound) h c c d (one kind.Compound i (i + 1 + 1) none) i (i + 1 + 1)
  empty_block all c d i q q' w w' h = spells.of_alternative grammar.compound_statement refl (spells.begins (spells.opens q w (spells.many_none (spells.token q' w' (spells.ends spells.done)))))

  some_statement : (l : Labels) (c : Scopes) (d i : ℕ) → Room us top way i d → Stated us top way late l d c i
  some_statement l c d i z h = puts us top way late z word.Semicolon [] (λ all f q le. (_, _, empty all c d i q.0 (z.fits plain d (omega arith)) h))

  some_compound : (l : Labels) (c : Scopes) (d i : ℕ) → Room us top way i d → V (compound l d) c i
  some_compound l c d i z h = puts us top way late z word.LeftBrace (word.RightBrace ∷ []) (λ all f q le. (_, _, empty_block all c d i q.0 q.1.0 (z.fits opens d (omega arith)) (late plain (i + 1) (d + 1) (omega arith)) h))

  some_declaration : (c : Scopes) (d i : ℕ) → Room us top way i d → V (declaration d) c i
  some_declaration c d i z h = puts us top way late z word.Int (word.Semicolon ∷ []) (λ all f q le. (
    _,
    _,
    bare_declaration all top (spells.of_chain grammar.specifiers_one refl (spells.of_chain grammar.specifier_plain refl
        (spells.of_alternative grammar.type_int refl (spells.token q.0 (z.fits plain d (omega arith)) spells.done)))) q.1.0 (late plain (i + 1) d (omega arith)) h,
  ))

  some_items : (l : Labels) (c : Scopes) (d s i : ℕ) (x : Trees) → Room us top way i (d + 1) → V (items l d s x) c i
  some_items l c d s i x z o h = puts us top way late z word.RightBrace [] (λ all f q le. (_, _, spells.many_none (spells.token q.0 (z.fits plain (d + 1) (omega arith)) (ended all top (open_of c o) spells.done))))

  as_list : {q : spells.Phrase} {h : Context} {c : Scopes} {d i : ℕ} → GrownIn us top way every q h c d i → GrownBy us top way (λ t. show.Started (length us) t way) q h c d i
  as_list g = more0 us top way late g (λ all f t e j le s shown. (_, _, s, started shown))

  some_initializers : (c : Scopes) (d s i : ℕ) (x : Trees) → Room us top way i (d + 1) → V (initializers d s x) c i
  some_initializers c d s i x z h = as_list (puts us top way late z word.Integer (word.RightBrace ∷ []) (λ all f q le. (
    _,
    _,
    spells.list_last (spells.of_chain grammar.initializer_expression refl (number_assignment us top way late all c (d + 1) i q.0 (z.fits plain (d + 1) (omega arith)) _))
        (spells.comma_none q.1.0 (late plain (i + 1) (d + 1) (omega arith)) spells.done),
  )))

  -- What stands behind the bracket of a statement, up to its end.

  open_once : (e f : Scopes) → 0 < length e → length ([] ∷ e) ≤ length f → IsOpen f
  open_once e f lt le = open_of f (omega arith)

  open_twice : (e f : Scopes) → 0 < length e → length ([] ∷ e) ≤ length f → IsOpen (around f)
  open_twice e f lt le = let n = around_less f in open_of (around f) (omega arith)

  one_branch : {all : List Lexeme} {h : Context} {e f : Scopes} {d j n : ℕ} {u : Trees} → 0 < length e → Spells all top (a part.Statement) h ([] ∷ e) f (d + 1) u j n →
      Spells all top (rest (symbol.Begins ∷ inner part.Statement ∷ symbol.Ends ∷ symbol.Else ∷ symbol.Ends ∷ [])) h e (around (around f)) d (u & none) j n
  one_branch {all = all} {e = e} {f = f} lt y =
      let le = scopes_kept y in
      spells.begins (spells.part y (ended all top (open_once e f lt le) (spells.else_none (ended all top (open_twice e f lt le) spells.done))))

  two_branches : {all : List Lexeme} {h : Context} {e f g : Scopes} {d j k n : ℕ} {u v : Trees} → 0 < length e → Spells all top (a part.Statement) h ([] ∷ e) f (d + 1) u j k → Is all k word.Else → Within top k d →
      Spells all top (a part.Statement) (past_part h u) ([] ∷ around f) g (d + 1) v (k + 1) n →
      Spells all top (rest (symbol.Begins ∷ inner part.Statement ∷ symbol.Ends ∷ symbol.Else ∷ symbol.Ends ∷ [])) h e (around (around g)) d (u & v & none) j n
  two_branches {all = all} {h = h} {e = e} {f = f} {g = g} {d = d} {k = k} {n = n} {u = u} {v = v} lt y q w y' =
      let le = scopes_kept y in
      let le' = scopes_kept y' in
      let m = around_less f in
      let lt' : 0 < length (around f) = omega arith in
      spells.begins (spells.part y (ended all top (open_once e f lt le)
      (spells.else_some q w (subst (λ z. Spells all top (a part.Statement) (past_part h u) ([] ∷ around f) z (d + 1) v (k + 1) n) (open_once (around f) g lt' le') y') (ended all top (open_twice (around f) g lt' le') spells.done))))

  whole_body : {all : List Lexeme} {h : Context} {e f : Scopes} {d j n : ℕ} {u : Trees} → 0 < length e → Spells all top (a part.Statement) h ([] ∷ e) f (d + 1) u j n →
      Spells all top (rest (symbol.Begins ∷ inner part.Statement ∷ symbol.Ends ∷ symbol.Ends ∷ [])) h e (around (around f)) d (u & none) j n
  whole_body {all = all} {e = e} {f = f} lt y =
      let le = scopes_kept y in
      spells.begins (spells.part y (ended all top (open_once e f lt le) (ended all top (open_twice e f lt le) spells.done)))

  whole_block : {all : List Lexeme} {h : Context} {e f : Scopes} {d j n : ℕ} {u : Trees} → 0 < length e → Spells all top (a part.Compound) h ([] ∷ e) f (d + 1) u j n →
      Spells all top (rest (symbol.Begins ∷ inner part.Compound ∷ symbol.Ends ∷ symbol.Ends ∷ [])) h e (around (around f)) d (u & none) j n
  whole_block {all = all} {e = e} {f = f} lt y =
      let le = scopes_kept y in
      spells.begins (spells.part y (ended all top (open_once e f lt le) (ended all top (open_twice e f lt le) spells.done)))

  -- the body of a `do` and what follows
  do_body : {all : List Lexeme} {h : Context} {c f e : Scopes} {d i j k : ℕ} {u t : Trees} → Spells all top (a part.Statement) h ([] ∷ [] ∷ c) f (d + 1) u i j → Is all j word.While → Stands top j d →
      Is all (j + 1) word.LeftParen → Within top (j + 1) d → ((h : Context) → Spells all top (a part.Expression) h (around f) e (d + 1) t (j + 1 + 1) k) → Is all k word.RightParen → Stands top k (d + 1) →
      Is all (k + 1) word.Semicolon → Stands top (k + 1) d →
      Spells all top (rest (symbol.Begins ∷ inner part.Statement ∷ symbol.Ends ∷ token word.While ∷ opening word.LeftParen ∷ inner part.Expression ∷ closing word.RightParen ∷ token word.Semicolon ∷ symbol.Ends ∷ [])) h ([] ∷ c) (around e) d (u & t & none) i (k + 1 + 1)
  do_body {all = all} {c = c} {f = f} {e = e} y q w q' w' x q1 w1 q2 w2 =
      let le = scopes_kept y in
      let n = around_less f in
      let le' = scopes_kept (x fresh) in
      spells.begins (spells.part y (ended all top (open_of f (omega arith)) (spells.token q w (spells.opens q' w' (spells.part (x _)
      (spells.token q1 w1 (spells.token q2 w2 (ended all top (open_of e (omega arith)) spells.done))))))))

  some_do : (l : Labels) (c : Scopes) (d s i : ℕ) → Room us top way i (d + 1) → V (do_rest l d s) c i
  some_do l c d s i z b h = puts us top way late z word.Semicolon (word.While ∷ word.LeftParen ∷ word.Integer ∷ word.RightParen ∷ word.Semicolon ∷ []) (λ all f q le. (
    _,
    _,
    spells.of_alternative grammar.do_statement refl (spells.begins (b all f _ _ _ _ _ _
        (do_body (empty all ([] ∷ [] ∷ c) (d + 1) i q.0 (z.fits plain (d + 1) (omega arith)) _) q.1.0 (late plain (i + 1) d (omega arith)) q.1.1.0 (late opens (i + 1 + 1) d (omega arith))
        (λ h. number_expression us top way late all ([] ∷ c) (d + 1) (i + 1 + 1 + 1) q.1.1.1.0 (late plain (i + 1 + 1 + 1) (d + 1) (omega arith)) h)
        q.1.1.1.1.0 (late plain (i + 1 + 1 + 1 + 1) (d + 1) (omega arith)) q.1.1.1.1.1.0 (late plain (i + 1 + 1 + 1 + 1 + 1) d (omega arith))))),
  ))

  -- Units and external definitions.

  owes_unit : (l : Labels) (d : ℕ) (c : Scopes) (i : ℕ) → Owed (unit l d) c i
  owes_unit l d c i = (
    λ v h. more0 us top way late (v _) (λ all f t e j le s shown. (_, _, spells.part s (spells.many_none spells.done), left_in shown none)),
    λ t e j _ _ x. (λ v h. more0 us top way late (v _) (λ all f u e' j' le s shown. (_, _, spells.part (weaken f (x _)) s, right_in t shown)), λ t' e' j' _ _ _. tt),
  )

  owes_externals : (l : Labels) (d : ℕ) (y : Trees) (c : Scopes) (i : ℕ) → Owed (externals l d y) c i
  owes_externals l d y c i = (
    λ _. (
      λ v h. more0 us top way late (v _) (λ all f t e j le s shown. (_, _, spells.many_more s (spells.many_none spells.done), left_in shown none)),
      λ t e j _ _ x. (λ v h. more0 us top way late (v _) (λ all f u e' j' le s shown. (_, _, spells.many_more (weaken f (x _)) s, right_in t shown)), λ t' e' j' _ _ _. tt),
    ),
    tt,
  )

  -- Declarations.

  -- a declarator alone, whose own scope is open
  init_alone : {all : List Lexeme} {h : Context} {c e : Scopes} {d i j : ℕ} {t : Trees} → IsOpen e → Spells all top (a part.Declarator) h c e d t i j →
      Spells all top (a part.InitDeclarator) h c (enter (declared_name all (past_part h t)) (around e)) d t i j
  init_alone {all = all} {h = h} {c = c} {d = d} {i = i} {j = j} {t = t} o s = spells.init_declarator_alone (subst (λ v. Spells all top (a part.Declarator) h c v d t i j) o s)

  -- a declarator's beginning, behind its specifiers
  begun_declaration : {c e : Scopes} {d i j : ℕ} {t : Trees} → Spells us top (a part.Specifiers) fresh c e d t i j → (all : List Lexeme) → Front us all → IsDeclarationBegin us top way late all d c i (t & none) (past_part fresh t) e j
  begun_declaration {c = c} {d = d} {i = i} {t = t} x all f h0 u g k z = subst (λ y. Spells all top (a part.Declaration) h0 c g d (one kind.Declaration i k y) i k) (sym (and_and t none u))
      (spells.of_alternative grammar.declaration refl (spells.part (weaken f x) (spells.list_some z)))

  -- the end of a declaration, with a declarator that is grown
  declarator_grown : (h : Context) (d s : ℕ) (x : Trees) (c c0 : Scopes) (q : ℕ) → ((all : List Lexeme) → Front us all → IsDeclarationBegin us top way late all d c0 s x h c q) →
      OneDeclared us top way late named h c d q → U us top way late part.Declaration d c0 s
  declarator_grown h d s x c c0 q b v h0 = mores us top way late (one_declarator us top way late v) (word.Semicolon ∷ []) (λ all f t e j le z q1 shown. (
    _,
    _,
    b all f h0 _ _ _ (spells.list_last (init_alone (owned facts.by_declarator z) z) (spells.token q1.0 (late plain j d le) spells.done)),
    seen (show.inside (right x shown)),
  ))

  -- what is owed behind a declarator y
  owes_declared : (h : Context) (d s : ℕ) (x : Trees) (q : ℕ) (y : Trees) (c e : Scopes) (i : ℕ) (f : Type 0) → IsDeclared us top named h d c q y e i →
      (((c0 : Scopes) → ((all : List Lexeme) → Front us all → IsDeclarationBegin us top way late all d c0 s x h c q) → U us top way late part.Declaration d c0 s) → f) → Owes (declared_on h d s x q y) f e i
  owes_declared h d s x q y c e i f (without z z' r) k = cc
  owes_declared h d s x q y c e i f (with_name z z' o r) k = (
    λ v. k (λ c0 b h0. mores us top way late (v h c e o (ap (λ n. enter n (around e)) (name_brought r h)) r) (word.Semicolon ∷ [])
        (λ all f t e' j le z q1 shown. (_, _, b all f h0 _ _ _ (spells.list_last z (spells.token q1.0 (late plain j d le) spells.done)), wherever (right_in x shown)))),
    λ t e' j _ _ m.
        let m' = m h c e o (ap (λ n. enter n (around e)) (name_brought r h)) r in (
          tt,
          λ q' w. (
            λ v. k (λ c0 b. v c0 (λ all f h0 u g n z. subst (λ v. Spells all top (a part.Declaration) h0 c0 g d (one kind.Declaration s n v) s n) (sym (pushed x t u))
                (b all f h0 _ _ _ (spells.list_more (weaken f m') (f.words _ _ q') w z)))),
            λ t' e'' j' _ _ _. tt,
          ),
          (
            tt,
            λ q' w. tt,
            λ z. k (λ c0 b h0. puts us top way late z word.Semicolon [] (λ all f q1 le. (_, _, b all f h0 _ _ _ (spells.list_last (weaken f m') (spells.token q1.0 (z.fits plain d (omega arith)) spells.done))))),
          ),
        ),
  )

  -- specifiers that are grown, as a declaration
  row_grown : (d : ℕ) (c : Scopes) (i : ℕ) → V (row part.Specifiers fresh d) c i → V (declaration d) c i
  row_grown d c i v h = mores us top way late v (word.Semicolon ∷ []) (λ all f t e j le s q1 shown. (_, _, bare_declaration all top s q1.0 (late plain j d le) h, seen (first shown none)))

  -- what is owed behind the specifiers t
  owes_rest : (d : ℕ) (c : Scopes) (i : ℕ) {f : Type 0} {t : Trees} {e : Scopes} {j : ℕ} → (V (declaration d) c i → f) → Spells us top (a part.Specifiers) fresh c e d t i j → Owes (declaration_rest d i t) f e j
  owes_rest d c i k x = (tt, λ q w. tt, (λ v. k (v c (begun_declaration x)), λ t' e' j' _ _ _. tt))

  owes_declaration : (d : ℕ) (c : Scopes) (i : ℕ) → Owed (declaration d) c i
  owes_declaration d c i = (λ v. row_grown d c i v, λ t e j _ _ x. owes_rest d c i (λ y. y) x)

  owes_init_declarators : (h : Context) (d s : ℕ) (x : Trees) (c : Scopes) (i : ℕ) → Owed (init_declarators h d s x) c i
  owes_init_declarators h d s x c i = (
    λ v c0 b. declarator_grown h d s x c c0 i b v,
    λ y e j _ _ m. owes_declared h d s x i y c e j (V (init_declarators h d s x) c i) m (λ g. g),
  )

  -- a declarator with its initializer
  init_with : {all : List Lexeme} {h : Context} {c0 e0 e : Scopes} {d q i j : ℕ} {y t : Trees} → Spells all top (a part.Declarator) h c0 e0 d y q i → IsOpen e0 → Is all i word.Equal → Stands top i d →
      Spells all top (a part.Initializer) (past_token (past_part h y)) (enter (declared_name all (past_part h y)) (around e0)) e d t (i + 1) j →
      Spells all top (a part.InitDeclarator) h c0 e d (one kind.InitDeclarator q j (y & t & none)) q j
  init_with {all = all} r o q w x = spells.of_alternative grammar.init_declarator refl (spells.part r (entered all top o (spells.ends (spells.token q w (spells.part x spells.done)))))

  owes_initialized : (d q : ℕ) (y : Trees) (c : Scopes) (i : ℕ) → Owed (initialized d q y) c i
  owes_initialized d q y c i = (
    tt,
    λ q' w. (
      λ v h c0 e0 o z r. more0 us top way late (v (past_token (past_part h y))) (λ all f t e j le s shown. (
        _,
        _,
        init_with (weaken f r) o (f.words _ _ q') w
            (subst (λ n. Spells all top (a part.Initializer) (past_token (past_part h y)) n e d t (i + 1) j) (z ∙ ap (λ n. enter n (around e0)) (front_name f (past_part h y))) s),
        in_declarator (is_one r).2 shown,
      )),
      λ t e j _ _ _. tt,
    ),
    tt,
  )

  owes_initializer : (d : ℕ) (c : Scopes) (i : ℕ) → Owed (initializer d) c i
  owes_initializer d c i = (
    λ z h. grown us top way late z.here word.LeftBrace (word.Integer ∷ word.RightBrace ∷ []) (λ all f r. next_so z.so (next_designator r)) (λ all f q le. (
      _,
      _,
      spells.of_alternative grammar.initializer_list refl (spells.opens q.0 (z.fits opens d (omega arith))
          (spells.list_last (spells.of_chain grammar.initializer_expression refl (number_assignment us top way late all c (d + 1) (i + 1) q.1.0 (late plain (i + 1) (d + 1) (omega arith)) _))
          (spells.comma_none q.1.1.0 (late plain (i + 1 + 1) (d + 1) (omega arith)) spells.done))),
      started_so z.so (started_here (or_left (i == length us) false (same_number i (length us) z.here))),
    )),
    (
      λ z. some_initializers c d i (i + 1) none (z (d + 1)),
      λ q w. (
        λ v h. more0 us top way late (v _) (λ all f t e j le s shown. (_, _, spells.of_alternative grammar.initializer_list refl (spells.opens (f.words _ _ q) w s), in_list shown)),
        λ t e j _ _ _. tt,
      ),
      (λ v h. more0 us top way late (v _) (λ all f t e j le s shown. (_, _, spells.of_chain grammar.initializer_expression refl s, started (seen shown))), λ t e j _ _ _. tt),
    ),
  )

  owes_initializers : (d s : ℕ) (y : Trees) (c : Scopes) (i : ℕ) → Owed (initializers d s y) c i
  owes_initializers d s y c i = (
    λ v h. mores us top way late (v _) (word.RightBrace ∷ []) (λ all f t e j le x q1 shown. (_, _, spells.list_last x (spells.comma_none q1.0 (late plain j (d + 1) le) spells.done), shown)),
    λ t e j _ _ x. (
      tt,
      λ q w. (
        tt,
        λ q' w'. tt,
        (λ v h. more0 us top way late (v _) (λ all f t' e' j' le z shown. (_, _, spells.list_more (weaken f (x _)) (f.words _ _ q) w z, started_right t shown)), λ t' e' j' _ _ _. tt),
      ),
      (
        tt,
        λ q w. tt,
        λ z h. as_list (puts us top way late z word.RightBrace [] (λ all f q1 le. (_, _, spells.list_last (weaken f (x _)) (spells.comma_none q1.0 (z.fits plain (d + 1) (omega arith)) spells.done)))),
      ),
    ),
  )

  -- a function definition, from its declarator on
  definition_of : {all : List Lexeme} {c e e' f : Scopes} {d i j j' k : ℕ} {t y b : Trees} → Spells all top (a part.Specifiers) fresh c e d t i j → Spells all top (a part.Declarator) (past_part fresh t) e e' d y j j' → IsOpen e' →
      Spells all top (a part.Compound) (past_part (past_part fresh t) y) (innermost_of e' ∷ enter (declared_name all (past_part (past_part fresh t) y)) (around e')) f d b j' k → (h : Context) →
      Spells all top (a part.External) h c (around f) d (one kind.FunctionDefinition i k (t & y & b & none)) i k
  definition_of {all = all} {e' = e'} {f = f} x r o z h =
      let n = scopes_kept z in
      spells.of_alternative grammar.function_definition refl (spells.part x (spells.part r (entered all top o (spells.part z (ended all top (open_of f (omega arith)) spells.done)))))

  owes_defined : (l : Labels) (d s : ℕ) (c e e' : Scopes) (j i : ℕ) (t y : Trees) → Spells us top (a part.Specifiers) fresh c e d t s j → IsDeclared us top named (past_part fresh t) d e j y e' i → (i < length us → Is us i word.LeftBrace) →
      Owes (defined l d s t y) (U us top way late part.External d c s) e' i
  owes_defined l d s c e e' j i t y x (without z z' r) brace = cc
  owes_defined l d s c e e' j i t y x (with_name z z' o r) brace = (
    λ _. (
      λ v h. more0 us top way late (v (past_part (past_part fresh t) y)) (λ all f b g k le z shown. (
        _,
        _,
        definition_of (weaken f x) (weaken f r) o
            (subst (λ n. Spells all top (a part.Compound) (past_part (past_part fresh t) y) (innermost_of e' ∷ enter n (around e')) g d b i k) (name_brought r (past_part fresh t) ∙ front_name f (past_part (past_part fresh t) y)) z) h,
        within (λ p q. definition_stands l) (right_in t (right_in y (left_in shown none))),
      )),
      λ b g k _ _ _. tt,
    ),
    λ q z h.
        let n = z.here in
        let w = (own_ends r).own.ends (defines_variadic l y q) in
        grown us top way late z.here word.RightBrace [] (λ all f r. next_so z.so (next_definition i z.here (f.words _ _ (brace (omega arith))))) (λ all f q1 le. (
          _,
          _,
          definition_of (weaken f x) (weaken f r) o (empty_block all _ d i (f.words _ _ (brace (omega arith))) q1.0 (z.fits opens i d (omega arith)) (z.fits plain (i + 1) (d + 1) (omega arith)) _) h,
          shown_in_so z.so (shown_definition i z.here w.1
              (has_here (definition_ends (is_one x).2 (is_one r).2 (last_token (own_parameters y)) i s (i + 1 + 1) (i + 1 + 1) kind.Compound none none w.0))),
        )),
  )

  owes_external : (l : Labels) (d : ℕ) (c : Scopes) (i : ℕ) → Owed (external l d) c i
  owes_external l d c i = (
    λ v h. mores us top way late v (word.Semicolon ∷ []) (λ all f t e j le s q1 shown. (_, _, spells.of_chain grammar.external_declaration refl (bare_declaration all top s q1.0 (late plain j d le) _), seen (first shown none))),
    λ t e j _ _ x. (
      tt,
      λ q w. tt,
      (
        λ v h. as_external (declarator_grown (past_part fresh t) d i (t & none) e c j (begun_declaration x) v) h,
        λ y e' j' _ _ m. (
          λ brace. owes_defined l d i c e e' j j' t y x m brace,
          owes_declared (past_part fresh t) d i (t & none) j y e e' j' (V (external l d) c i) m (λ g h. as_external (g c (begun_declaration x)) h),
        ),
      ),
    ),
  )
    where
      as_external : U us top way late part.Declaration d c i → U us top way late part.External d c i
      as_external g h = more0 us top way late (g _) (λ all f t e j le s shown. (_, _, spells.of_chain grammar.external_declaration refl s, shown))

  -- Statements.

  -- a name in a longer text, and the least statement behind its colon
  name_on : {all : List Lexeme} {c e : Scopes} {d i j : ℕ} → Front us all → OneName us top c e d i j → OneName all top c e d i j
  name_on f n = record { is = f.words _ _ n.is; stands = n.stands; end = n.end; same = n.same }

  least_label : {all : List Lexeme} {c e : Scopes} {d i j : ℕ} → OneName all top c e d i j → Is all j word.Colon → Within top j d → Is all (j + 1) word.Semicolon → Stands top (j + 1) (d + 1) → (h : Context) →
      Spells all top (a part.Statement) h c e d (one kind.Label i (j + 1 + 1) (one kind.ExpressionStatement (j + 1) (j + 1 + 1) none)) i (j + 1 + 1)
  least_label {all = all} {e = e} {d = d} {j = j} n q w q' w' h = label_spelled n q w (λ h. empty all e (d + 1) (j + 1) q' w' h) h

  -- what is owed behind a name that may be a label
  owes_marked : (l : Labels) (d i : ℕ) (p : Prog) (c e : Scopes) (j : ℕ) {f : Type 0} → OneName us top c e d i j → (Stated us top way late l d c i → f) → Owes p f e j → Owes (marked l d i p) f e j
  owes_marked l d i p c e j n k x = (
    λ colon. (
      λ y. (
        λ z. some_statement l e (d + 1) (j + 1) (z (d + 1)),
        λ q w. (
          λ v. k (λ h. more0 us top way late (v fresh) (λ all f u g m le s shown. (
            _,
            _,
            label_spelled (name_on f n) (f.words _ _ q) w (λ h. unheard refl s h) h,
            within (λ p r. label_stands l p r) (left_in shown none),
          ))),
          λ u g m _ _ _. tt,
        ),
        λ z. k (λ h. puts us top way late z word.Colon (word.Semicolon ∷ []) (λ all f q le. (_, _, least_label (name_on f n) q.0 (z.fits opens d (omega arith)) q.1.0 (late plain (j + 1) (d + 1) (omega arith)) h))),
      ),
      λ y z. k (λ h.
          let m = z.here in
          let o = n.end in
          let colon' : Is us j word.Colon = colon (omega arith) in
          grown us top way late z.here word.Semicolon [] (λ all f r. next_so z.so (next_stray (omega arith) (f.words _ _ n.is) (f.words _ _ (subst (λ j. Is us j word.Colon) n.end colon')))) (λ all f q le. (
            _,
            _,
            least_label (name_on f n) (f.words _ _ colon') (z.fits opens j d (omega arith)) q.0 (z.fits plain (j + 1) (d + 1) (omega arith)) h,
            shown_in_so z.so (shown_stray (λ p r. wrong_here is_stray i kind.Label p (j + 1 + 1) (one kind.ExpressionStatement (j + 1) (j + 1 + 1) none) (no_mark l y p r))),
          ))),
    ),
    x,
  )

  owes_item : (l : Labels) (d : ℕ) (c : Scopes) (i : ℕ) → Owed (item l d) c i
  owes_item l d c i = (
    λ _. (
      λ v. as_declaration (row_grown d c i v),
      λ t e j _ _ x. (λ y. owes_marked l d i (declaration_rest d i t) c e j (one_name x (or_right (is_identifier t) (is_type_name t) y)) as_statement (owes_rest d c i as_declaration x), λ y. owes_rest d c i as_declaration x),
    ),
    (as_statement, λ t e j _ _ _. tt),
  )
    where
      as_declaration : V (declaration d) c i → V (item l d) c i
      as_declaration v h = more0 us top way late (v _) (λ all f t e j le s shown. (_, _, spells.of_chain grammar.item_declaration refl s, show.anywhere shown))

      as_statement : V (statement l d) c i → V (item l d) c i
      as_statement v h = more0 us top way late (v _) (λ all f t e j le s shown. (_, _, spells.of_chain grammar.item_statement refl s, shown))

  owes_items : (l : Labels) (d s : ℕ) (y : Trees) (c : Scopes) (i : ℕ) → Owed (items l d s y) c i
  owes_items l d s y c i = (
    tt,
    λ q w. tt,
    (
      λ v o h. mores us top way late (v _) (word.RightBrace ∷ []) (λ all f t e j le x q1 shown.
          let n = scopes_kept x in
          (_, _, spells.many_more x (spells.many_none (spells.token q1.0 (late plain j (d + 1) le) (ended all top (open_of e (omega arith)) spells.done))), left_in shown none)),
      λ t e j _ k x. (λ v o h. more0 us top way late (v (omega arith) _) (λ all f t' e' j' le z shown. (_, _, spells.many_more (weaken f (x _)) z, right_in t shown)), λ t' e' j' _ _ _. tt),
    ),
  )

  owes_compound : (l : Labels) (d : ℕ) (c : Scopes) (i : ℕ) → Owed (compound l d) c i
  owes_compound l d c i = (
    λ z. some_items l ([] ∷ c) d i (i + 1) none (z (d + 1)),
    λ q w. (
      λ v h. more0 us top way late (v (omega arith) _) (λ all f t e j le s shown. (
        _,
        _,
        spells.of_alternative grammar.compound_statement refl (spells.begins (spells.opens (f.words _ _ q) w s)),
        within (λ p r. items_stand l p r) shown,
      )),
      λ t e j _ _ _. tt,
    ),
    λ z. some_compound l c d i z,
  )

  -- a label
  case_of : {all : List Lexeme} {c e f : Scopes} {d i j k : ℕ} {t u : Trees} → Is all i word.Case → Stands top i d → ((h : Context) → Spells all top (a part.Conditional) h c e d t (i + 1) j) → Is all j word.Colon → Within top j d →
      ((h : Context) → Spells all top (a part.Statement) h e f (d + 1) u (j + 1) k) → (h : Context) → Spells all top (a part.Statement) h c f d (one kind.Case i k (t & u & none)) i k
  case_of q w x q' w' y h = spells.of_alternative grammar.case_statement refl (spells.token q w (spells.part (x _) (spells.opens q' w' (spells.part (y _) spells.done))))

  default_of : {all : List Lexeme} {c f : Scopes} {d i k : ℕ} {u : Trees} → Is all i word.Default → Stands top i d → Is all (i + 1) word.Colon → Within top (i + 1) d →
      ((h : Context) → Spells all top (a part.Statement) h c f (d + 1) u (i + 1 + 1) k) → (h : Context) → Spells all top (a part.Statement) h c f d (one kind.Default i k (u & none)) i k
  default_of q w q' w' y h = spells.of_alternative grammar.default_statement refl (spells.token q w (spells.opens q' w' (spells.part (y _) spells.done)))

  -- a label that a row of the refused forms names goes on, but not where it stands
  deep_case : (l : Labels) (d : ℕ) (c : Scopes) (i : ℕ) → may_label l ≡ false → Labelled us top way is_label 6 i d → Is us i word.Case → Stated us top way late l d c i
  deep_case l d c i y z q h =
      let n = z.here in
      grown us top way late z.here word.Integer (word.Colon ∷ word.Semicolon ∷ []) (λ all f r. next_so z.so next_label) (λ all f q1 le. (
        _,
        _,
        case_of (f.words _ _ q) (z.fits plain i d (omega arith)) (λ h. number_conditional us top way late all c d (i + 1) q1.0 (z.fits plain (i + 1) d (omega arith)) h) q1.1.0 (z.fits opens (i + 1 + 1) d (omega arith))
            (λ h. empty all c (d + 1) (i + 1 + 1 + 1) q1.1.1.0 (z.fits plain (i + 1 + 1 + 1) (d + 1) (omega arith)) h) h,
        shown_in_so z.so (shown_label i z.here (λ p r. wrong_here is_misplaced i kind.Case p (i + 1 + 1 + 1 + 1) (one kind.Integer (i + 1) (i + 1 + 1) none & one kind.ExpressionStatement (i + 1 + 1 + 1) (i + 1 + 1 + 1 + 1) none & none) (no_label l y p r).0)),
      ))

  deep_default : (l : Labels) (d : ℕ) (c : Scopes) (i : ℕ) → may_label l ≡ false → Labelled us top way is_label 6 i d → Is us i word.Default → Stated us top way late l d c i
  deep_default l d c i y z q h =
      let n = z.here in
      grown us top way late z.here word.Colon (word.Semicolon ∷ []) (λ all f r. next_so z.so next_label) (λ all f q1 le. (
        _,
        _,
        default_of (f.words _ _ q) (z.fits plain i d (omega arith)) q1.0 (z.fits opens (i + 1) d (omega arith)) (λ h. empty all c (d + 1) (i + 1 + 1) q1.1.0 (z.fits plain (i + 1 + 1) (d + 1) (omega arith)) h) h,
        shown_in_so z.so (shown_label i z.here (λ p r. wrong_here is_misplaced i kind.Default p (i + 1 + 1 + 1) (one kind.ExpressionStatement (i + 1 + 1) (i + 1 + 1 + 1) none & none) (no_label l y p r).1)),
      ))

  -- a statement that begins with a name, or an expression
  owes_expression : (l : Labels) (d : ℕ) (c : Scopes) (i : ℕ) {t : Trees} {e : Scopes} {j : ℕ} → Reads us top part.Expression d c i t e j → Owes (expression_rest d i t) (Stated us top way late l d c i) e j
  owes_expression l d c i x = (
    tt,
    λ q w. tt,
    λ z h. puts us top way late z word.Semicolon [] (λ all f q1 le. (_, _, spells.of_alternative grammar.expression_statement refl (spells.optional_some (weaken f (x _)) (spells.token q1.0 (z.fits plain d (omega arith)) spells.done)))),
  )

  owes_named : (l : Labels) (d : ℕ) (c : Scopes) (i : ℕ) → Owes (program.named_statement l d i) (Stated us top way late l d c i) c i
  owes_named l d c i = (
    tt,
    λ q w. owes_marked l d i (stop d) c c (i + 1) (name q.0.0 w) (λ y. y)
        (λ z h. puts us top way late z word.Colon (word.Semicolon ∷ []) (λ all f q1 le. (_, _, least_label (name_on f (name q.0.0 w)) q1.0 (z.fits opens d (omega arith)) q1.1.0 (late plain (i + 1 + 1) (d + 1) (omega arith)) h))),
    (
      λ v h. mores us top way late (v _) (word.Semicolon ∷ []) (λ all f t e j le s q1 shown. (
        _,
        _,
        spells.of_alternative grammar.expression_statement refl (spells.optional_some s (spells.token q1.0 (late plain j d le) spells.done)),
        seen (first shown none),
      )),
      λ t e j _ _ x. (λ y. owes_marked l d i (expression_rest d i t) c e j (one_name (x fresh) (or_left (is_identifier t) (is_type_name t) y)) (λ z. z) (owes_expression l d c i x), λ y. owes_expression l d c i x),
    ),
  )
    where
      name : Is us i word.Identifier → Stands top i d → OneName us top c c d i (i + 1)
      name q w = record { is = q; stands = w; end = refl; same = refl }

  -- behind the keyword of a statement
  pub owes_unlabelled : (l : Labels) (d : ℕ) (c : Scopes) (i : ℕ) → Owes (unlabelled l d i) (Stated us top way late l d c i) c i
  owes_unlabelled l d c i = (
    λ _. (λ v h. more0 us top way late (v _) (λ all f t e j le s shown. (_, _, spells.of_chain grammar.statement_compound refl s, moved (λ p r. block_stands l p r) shown)), λ t e j _ _ _. tt),
    (
      tt,
      λ q w. (λ v. v (λ all f c0 r h e t j z. spells.token (f.words _ _ q) w z), λ t e j _ _ _. tt),
      (
        tt,
        λ q w. (λ v. v (λ all f c0 r h e t j z. spells.token (f.words _ _ q) w z), λ t e j _ _ _. tt),
        (
          tt,
          λ q w. (λ v. v (λ all f c0 r h e t j z. spells.token (f.words _ _ q) w z), λ t e j _ _ _. tt),
          (
            λ z. some_do l c d i (i + 1) (z (d + 1)),
            λ q w. (λ v. v (λ all f c0 r h e t j z. spells.opens (f.words _ _ q) w z), λ t e j _ _ _. tt),
            (
              tt,
              λ q w. (λ v. v (λ all f c0 r h e t j z. spells.token (f.words _ _ q) w z), λ t e j _ _ _. tt),
              (
                tt,
                λ q w. (
                  tt,
                  λ q' w'. (
                    tt,
                    λ q'' w''. tt,
                    λ z h. puts us top way late z word.Semicolon [] (λ all f q1 le. (_, _, spells.of_alternative grammar.goto_statement refl (spells.token (f.words _ _ q) w (spells.token (f.words _ _ q') w' (spells.token q1.0 (z.fits plain d (omega arith)) spells.done))))),
                  ),
                  λ z h. puts us top way late z word.Identifier (word.Semicolon ∷ []) (λ all f q1 le. (
                    _,
                    _,
                    spells.of_alternative grammar.goto_statement refl (spells.token (f.words _ _ q) w (spells.token q1.0 (z.fits plain d (omega arith)) (spells.token q1.1.0 (late plain (i + 1 + 1) d (omega arith)) spells.done))),
                  )),
                ),
                (
                  tt,
                  λ q w. (
                    tt,
                    λ q' w'. tt,
                    λ z h. puts us top way late z word.Semicolon [] (λ all f q1 le. (_, _, spells.of_alternative grammar.break_statement refl (spells.token (f.words _ _ q) w (spells.token q1.0 (z.fits plain d (omega arith)) spells.done)))),
                  ),
                  (
                    tt,
                    λ q w. (
                      tt,
                      λ q' w'. tt,
                      λ z h. puts us top way late z word.Semicolon [] (λ all f q1 le. (_, _, spells.of_alternative grammar.continue_statement refl (spells.token (f.words _ _ q) w (spells.token q1.0 (z.fits plain d (omega arith)) spells.done)))),
                    ),
                    (
                      tt,
                      λ q w. (λ v h. more0 us top way late (v (λ all f r h e t j z. spells.token (f.words _ _ q) w z) h) (λ all f t e j le s shown. (_, _, s, show.anywhere shown)), λ t e j _ _ _. tt),
                      (
                        tt,
                        λ q w. tt,
                        owes_named l d c i,
                      ),
                    ),
                  ),
                ),
              ),
            ),
          ),
        ),
      ),
    ),
  )

  owes_statement : (l : Labels) (d : ℕ) (c : Scopes) (i : ℕ) → Owed (statement l d) c i
  owes_statement l d c i = (
    λ y. (
      tt,
      λ q w. (
        λ v h. mores us top way late (v fresh) (word.Colon ∷ word.Semicolon ∷ []) (λ all f t e j le s q1 shown. (
          _,
          _,
          case_of (f.words _ _ q) w (λ h. unheard refl s h) q1.0 (late opens j d le) (λ h. empty all e (d + 1) (j + 1) q1.1.0 (late plain (j + 1) (d + 1) (omega arith)) h) h,
          seen (first shown _),
        )),
        λ t e j _ _ x. (
          λ z. some_statement l e (d + 1) (j + 1) (z (d + 1)),
          λ q' w'. (
            λ v h. more0 us top way late (v fresh) (λ all f u e' j' le s shown. (
              _,
              _,
              case_of (f.words _ _ q) w (λ h. weaken f (x h)) (f.words _ _ q') w' (λ h. unheard refl s h) h,
              within (λ p r. label_stands l p r) (right_in t (left_in shown none)),
            )),
            λ u e' j' _ _ _. tt,
          ),
          λ z h. puts us top way late z word.Colon (word.Semicolon ∷ []) (λ all f q1 le. (
            _,
            _,
            case_of (f.words _ _ q) w (λ h. weaken f (x h)) q1.0 (z.fits opens d (omega arith)) (λ h. empty all e (d + 1) (j + 1) q1.1.0 (late plain (j + 1) (d + 1) (omega arith)) h) h,
          )),
        ),
      ),
      (
        tt,
        λ q w. (
          λ z. some_statement l c (d + 1) (i + 1 + 1) (z (d + 1)),
          λ q' w'. (
            λ v h. more0 us top way late (v fresh) (λ all f u e' j' le s shown. (
              _,
              _,
              default_of (f.words _ _ q) w (f.words _ _ q') w' (λ h. unheard refl s h) h,
              within (λ p r. label_stands l p r) (left_in shown none),
            )),
            λ u e' j' _ _ _. tt,
          ),
          λ z h. puts us top way late z word.Colon (word.Semicolon ∷ []) (λ all f q1 le. (
            _,
            _,
            default_of (f.words _ _ q) w q1.0 (z.fits opens d (omega arith)) (λ h. empty all c (d + 1) (i + 1 + 1) q1.1.0 (late plain (i + 1 + 1) (d + 1) (omega arith)) h) h,
          )),
        ),
        owes_unlabelled l d c i,
      ),
    ),
    λ y. (λ z. label_is us i z.word z.passes z.is (deep_case l d c i y z) (deep_default l d c i y z), owes_unlabelled l d c i),
  )

  owes_if_rest : (l : Labels) (d s : ℕ) (c : Scopes) (i : ℕ) → Owed (if_rest l d s) c i
  owes_if_rest l d s c i = (
    λ z. some_expression us top way late ([] ∷ c) (d + 1) (i + 1) (z (d + 1)),
    λ q w. (
      λ v b h. mores us top way late (v fresh) (word.RightParen ∷ word.Semicolon ∷ []) (λ all f t e j le x q1 shown.
          let k = scopes_kept x in
          let y = empty all ([] ∷ e) (d + 1) (j + 1) q1.1.0 (late plain (j + 1) (d + 1) (omega arith)) in (
            _,
            _,
            if_of (b all f) (f.words _ _ q) w (λ h. unheard refl x h) q1.0 (late plain j (d + 1) le) (late opens j d le) (omega arith) y h,
            seen (first shown _),
          )),
      λ t e j _ k x. (
        λ z. some_statement (inside l) ([] ∷ e) (d + 1) (j + 1) (z (d + 1)),
        λ q' w'. (
          λ v b h. more0 us top way late (v fresh) (λ all f u g n le y shown. (
            _,
            _,
            if_of (b all f) (f.words _ _ q) w (λ h. weaken f (x h)) (f.words _ _ q') w'.0 w'.1 (omega arith) (λ h. unheard refl y h) h,
            within (λ p r. parts_stand l) (right_in t (left_in shown none)),
          )),
          λ u g n _ k' y. (
            λ _. tt,
            λ r. (
              λ z. some_statement (inside l) ([] ∷ g) (d + 1) (n + 1) (z (d + 1)),
              λ q1 w1. (
                λ v b h. more0 us top way late (v fresh) (λ all f u' g' n' le y' shown. (
                  _,
                  _,
                  if_else_of (b all f) (f.words _ _ q) w (λ h. weaken f (x h)) (f.words _ _ q') w'.0 w'.1 (omega arith) (λ h. weaken f (y.1 h)) r (f.words _ _ q1) w1 (λ h. unheard refl y' h) h,
                  within (λ p r. parts_stand l) (right_in t (right_in u (left_in shown none))),
                )),
                λ u' g' n' _ _ _. tt,
              ),
              tt,
            ),
          ),
        ),
        λ z b h. puts us top way late z word.RightParen (word.Semicolon ∷ []) (λ all f q1 le. (
          _,
          _,
          if_of (b all f) (f.words _ _ q) w (λ h. weaken f (x h)) q1.0 (z.fits plain (d + 1) (omega arith)) (z.fits opens d (omega arith)) (omega arith)
              (empty all ([] ∷ e) (d + 1) (j + 1) q1.1.0 (late plain (j + 1) (d + 1) (omega arith))) h,
        )),
      ),
    ),
    λ z b h. puts us top way late z word.LeftParen (word.Integer ∷ word.RightParen ∷ word.Semicolon ∷ []) (λ all f q le. (
      _,
      _,
      if_of (b all f) q.0 (z.fits opens d (omega arith)) (number_expression us top way late all ([] ∷ c) (d + 1) (i + 1) q.1.0 (late plain (i + 1) (d + 1) (omega arith))) q.1.1.0 (late plain (i + 1 + 1) (d + 1) (omega arith))
          (late opens (i + 1 + 1) d (omega arith)) (omega arith) (empty all ([] ∷ [] ∷ c) (d + 1) (i + 1 + 1 + 1) q.1.1.1.0 (late plain (i + 1 + 1 + 1) (d + 1) (omega arith))) h,
    )),
  )
    where
      if_of : {all : List Lexeme} {e g : Scopes} {j n : ℕ} {t u : Trees} → Begun all top (token word.If) d s i → Is all i word.LeftParen → Within top i d → Reads all top part.Expression (d + 1) ([] ∷ c) (i + 1) t e j →
          Is all j word.RightParen → Stands top j (d + 1) → Within top j d → 0 < length e → Reads all top part.Statement (d + 1) ([] ∷ e) (j + 1) u g n → (h : Context) →
          Spells all top (a part.Statement) h c (around (around g)) d (one kind.If s n (t & u & none)) s n
      if_of b q w x q' w' w'' lt y h = spells.of_alternative grammar.if_statement (nearest_one (x fresh) (y fresh)) (spells.begins (b _ _ _ _ _ _ (spells.opens q w (spells.part (x _) (spells.reopens q' w' w'' (one_branch lt (y _)))))))

      if_else_of : {all : List Lexeme} {e g g' : Scopes} {j n n' : ℕ} {t u u' : Trees} {names : List _} → Begun all top (token word.If) d s i → Is all i word.LeftParen → Within top i d → Reads all top part.Expression (d + 1) ([] ∷ c) (i + 1) t e j →
          Is all j word.RightParen → Stands top j (d + 1) → Within top j d → 0 < length e → Reads all top part.Statement (d + 1) ([] ∷ e) (j + 1) u (names ∷ g) n → ends_open u ≡ false → Is all n word.Else → Within top n d →
          Reads all top part.Statement (d + 1) ([] ∷ g) (n + 1) u' g' n' → (h : Context) → Spells all top (a part.Statement) h c (around (around g')) d (one kind.If s n' (t & u & u' & none)) s n'
      if_else_of b q w x q' w' w'' lt y r q1 w1 y' h = spells.of_alternative grammar.if_statement (nearest_two (x fresh) (y fresh) (y' fresh) r) (spells.begins (b _ _ _ _ _ _
          (spells.opens q w (spells.part (x _) (spells.reopens q' w' w'' (two_branches lt (y _) q1 w1 (y' _)))))))

  pub switch_of : {all : List Lexeme} {c e g : Scopes} {d s i j n : ℕ} {t u : Trees} → Begun all top (token word.Switch) d s i → Is all i word.LeftParen → Within top i d → Reads all top part.Expression (d + 1) ([] ∷ c) (i + 1) t e j →
      Is all j word.RightParen → Stands top j (d + 1) → Within top j d → 0 < length e → Spells all top (a part.Compound) (past_token (past_part (past_token (past_token fresh)) t)) ([] ∷ e) g (d + 1) u (j + 1) n → (h : Context) →
      Spells all top (a part.Statement) h c (around (around g)) d (one kind.Switch s n (t & u & none)) s n
  switch_of b q w x q' w' w'' lt y h = spells.of_alternative grammar.switch_statement refl (spells.begins (b _ _ _ _ _ _ (spells.opens q w (spells.part (x _) (spells.reopens q' w' w'' (whole_block lt y))))))

  owes_switch_rest : (l : Labels) (d s : ℕ) (c : Scopes) (i : ℕ) → Owed (switch_rest l d s) c i
  owes_switch_rest l d s c i = (
    λ z. some_expression us top way late ([] ∷ c) (d + 1) (i + 1) (z (d + 1)),
    λ q w. (
      λ v b h. mores us top way late (v fresh) (word.RightParen ∷ word.LeftBrace ∷ word.RightBrace ∷ []) (λ all f t e j le x q1 shown.
          let k = scopes_kept x in (
            _,
            _,
            switch_of (b all f) (f.words _ _ q) w (λ h. unheard refl x h) q1.0 (late plain j (d + 1) le) (late opens j d le) (omega arith)
                (empty_block all ([] ∷ e) (d + 1) (j + 1) q1.1.0 q1.1.1.0 (late opens (j + 1) (d + 1) (omega arith)) (late plain (j + 1 + 1) (d + 1 + 1) (omega arith)) _) h,
            seen (first shown _),
          )),
      λ t e j _ k x. (
        λ z. some_compound (program.in_switch l) ([] ∷ e) (d + 1) (j + 1) (z (d + 1)),
        λ q' w'. (
          λ z b h. grown us top way late z.here word.LeftBrace (word.RightBrace ∷ []) (λ all f r. next_so z.so next_block) (λ all f q1 le. (
            _,
            _,
            switch_of (b all f) (f.words _ _ q) w (λ h. weaken f (x h)) (f.words _ _ q') w'.0 w'.1 (omega arith)
                (empty_block all ([] ∷ e) (d + 1) (j + 1) q1.0 q1.1.0 (z.fits opens (d + 1) (omega arith)) (late plain (j + 1 + 1) (d + 1 + 1) (omega arith)) _) h,
            shown_in_so z.so (shown_block s (has_here (body_begins (is_one (x fresh)).2 z.here s (j + 1 + 1 + 1) (j + 1 + 1 + 1) kind.Compound none none))),
          )),
          (
            λ z b h. grown us top way late z.here word.LeftBrace (word.RightBrace ∷ []) (λ all f r. next_so z.so (next_body r)) (λ all f q1 le. (
              _,
              _,
              switch_of (b all f) (f.words _ _ q) w (λ h. weaken f (x h)) (f.words _ _ q') w'.0 w'.1 (omega arith)
                  (empty_block all ([] ∷ e) (d + 1) (j + 1) q1.0 q1.1.0 (z.fits opens (d + 1) (omega arith)) (late plain (j + 1 + 1) (d + 1 + 1) (omega arith)) _) h,
              shown_in_so z.so (shown_body s (has_here (body_begins (is_one (x fresh)).2 z.here s (j + 1 + 1 + 1) (j + 1 + 1 + 1) kind.Compound none none))),
            )),
            (
              λ v b h. more0 us top way late (v _) (λ all f u g n le y shown. (
                _,
                _,
                switch_of (b all f) (f.words _ _ q) w (λ h. weaken f (x h)) (f.words _ _ q') w'.0 w'.1 (omega arith) y h,
                within (λ p r. switch_stands l) (right_in t (left_in shown none)),
              )),
              λ u g n _ _ _. tt,
            ),
          ),
        ),
        λ z b h. puts us top way late z word.RightParen (word.LeftBrace ∷ word.RightBrace ∷ []) (λ all f q1 le. (
          _,
          _,
          switch_of (b all f) (f.words _ _ q) w (λ h. weaken f (x h)) q1.0 (z.fits plain (d + 1) (omega arith)) (z.fits opens d (omega arith)) (omega arith)
              (empty_block all ([] ∷ e) (d + 1) (j + 1) q1.1.0 q1.1.1.0 (late opens (j + 1) (d + 1) (omega arith)) (late plain (j + 1 + 1) (d + 1 + 1) (omega arith)) _) h,
        )),
      ),
    ),
    λ z b h. puts us top way late z word.LeftParen (word.Integer ∷ word.RightParen ∷ word.LeftBrace ∷ word.RightBrace ∷ []) (λ all f q le. (
      _,
      _,
      switch_of (b all f) q.0 (z.fits opens d (omega arith)) (number_expression us top way late all ([] ∷ c) (d + 1) (i + 1) q.1.0 (late plain (i + 1) (d + 1) (omega arith))) q.1.1.0 (late plain (i + 1 + 1) (d + 1) (omega arith))
          (late opens (i + 1 + 1) d (omega arith)) (omega arith)
          (empty_block all ([] ∷ [] ∷ c) (d + 1) (i + 1 + 1 + 1) q.1.1.1.0 q.1.1.1.1.0 (late opens (i + 1 + 1 + 1) (d + 1) (omega arith)) (late plain (i + 1 + 1 + 1 + 1) (d + 1 + 1) (omega arith)) _) h,
    )),
  )

  owes_while_rest : (l : Labels) (d s : ℕ) (c : Scopes) (i : ℕ) → Owed (while_rest l d s) c i
  owes_while_rest l d s c i = (
    λ z. some_expression us top way late ([] ∷ c) (d + 1) (i + 1) (z (d + 1)),
    λ q w. (
      λ v b h. mores us top way late (v fresh) (word.RightParen ∷ word.Semicolon ∷ []) (λ all f t e j le x q1 shown.
          let k = scopes_kept x in (
            _,
            _,
            while_of (b all f) (f.words _ _ q) w (λ h. unheard refl x h) q1.0 (late plain j (d + 1) le) (late opens j d le) (omega arith)
                (empty all ([] ∷ e) (d + 1) (j + 1) q1.1.0 (late plain (j + 1) (d + 1) (omega arith))) h,
            seen (first shown _),
          )),
      λ t e j _ k x. (
        λ z. some_statement (inside l) ([] ∷ e) (d + 1) (j + 1) (z (d + 1)),
        λ q' w'. (
          λ v b h. more0 us top way late (v fresh) (λ all f u g n le y shown. (
            _,
            _,
            while_of (b all f) (f.words _ _ q) w (λ h. weaken f (x h)) (f.words _ _ q') w'.0 w'.1 (omega arith) (λ h. unheard refl y h) h,
            within (λ p r. parts_stand l) (right_in t (left_in shown none)),
          )),
          λ u g n _ _ _. tt,
        ),
        λ z b h. puts us top way late z word.RightParen (word.Semicolon ∷ []) (λ all f q1 le. (
          _,
          _,
          while_of (b all f) (f.words _ _ q) w (λ h. weaken f (x h)) q1.0 (z.fits plain (d + 1) (omega arith)) (z.fits opens d (omega arith)) (omega arith)
              (empty all ([] ∷ e) (d + 1) (j + 1) q1.1.0 (late plain (j + 1) (d + 1) (omega arith))) h,
        )),
      ),
    ),
    λ z b h. puts us top way late z word.LeftParen (word.Integer ∷ word.RightParen ∷ word.Semicolon ∷ []) (λ all f q le. (
      _,
      _,
      while_of (b all f) q.0 (z.fits opens d (omega arith)) (number_expression us top way late all ([] ∷ c) (d + 1) (i + 1) q.1.0 (late plain (i + 1) (d + 1) (omega arith))) q.1.1.0 (late plain (i + 1 + 1) (d + 1) (omega arith))
          (late opens (i + 1 + 1) d (omega arith)) (omega arith) (empty all ([] ∷ [] ∷ c) (d + 1) (i + 1 + 1 + 1) q.1.1.1.0 (late plain (i + 1 + 1 + 1) (d + 1) (omega arith))) h,
    )),
  )
    where
      while_of : {all : List Lexeme} {e g : Scopes} {j n : ℕ} {t u : Trees} → Begun all top (token word.While) d s i → Is all i word.LeftParen → Within top i d → Reads all top part.Expression (d + 1) ([] ∷ c) (i + 1) t e j →
          Is all j word.RightParen → Stands top j (d + 1) → Within top j d → 0 < length e → Reads all top part.Statement (d + 1) ([] ∷ e) (j + 1) u g n → (h : Context) →
          Spells all top (a part.Statement) h c (around (around g)) d (one kind.While s n (t & u & none)) s n
      while_of b q w x q' w' w'' lt y h = spells.of_alternative grammar.while_statement refl (spells.begins (b _ _ _ _ _ _ (spells.opens q w (spells.part (x _) (spells.reopens q' w' w'' (whole_body lt (y _)))))))

  owes_do_rest : (l : Labels) (d s : ℕ) (c : Scopes) (i : ℕ) → Owed (do_rest l d s) c i
  owes_do_rest l d s c i = (
    λ v b h. mores us top way late (v fresh) (word.While ∷ word.LeftParen ∷ word.Integer ∷ word.RightParen ∷ word.Semicolon ∷ []) (λ all f u g j le y q shown. (
      _,
      _,
      do_of (b all f) (λ h. unheard refl y h) q.0 (late plain j d le) q.1.0 (late opens (j + 1) d (omega arith))
          (λ h. number_expression us top way late all (around g) (d + 1) (j + 1 + 1) q.1.1.0 (late plain (j + 1 + 1) (d + 1) (omega arith)) h)
          q.1.1.1.0 (late plain (j + 1 + 1 + 1) (d + 1) (omega arith)) q.1.1.1.1.0 (late plain (j + 1 + 1 + 1 + 1) d (omega arith)) h,
      within (λ p r. parts_stand l) (left_in shown _),
    )),
    λ u g j _ _ y. (
      tt,
      λ q w. (
        λ z. some_expression us top way late g (d + 1) (j + 1 + 1) (z (d + 1)),
        λ q' w'. (
          λ v b h. mores us top way late (v fresh) (word.RightParen ∷ word.Semicolon ∷ []) (λ all f t e k le x q1 shown. (
            _,
            _,
            do_of (b all f) (λ h. weaken f (y.1 h)) (f.words _ _ q) w (f.words _ _ q') w' (λ h. unheard refl x h) q1.0 (late plain k (d + 1) le) q1.1.0 (late plain (k + 1) d (omega arith)) h,
            seen (second u shown _),
          )),
          λ t e k _ _ x. (
            tt,
            λ q1 w1. (
              tt,
              λ q2 w2. tt,
              λ z b h. puts us top way late z word.Semicolon [] (λ all f q2 le. (
                _,
                _,
                do_of (b all f) (λ h. weaken f (y.1 h)) (f.words _ _ q) w (f.words _ _ q') w' (λ h. weaken f (x h)) (f.words _ _ q1) w1 q2.0 (z.fits plain d (omega arith)) h,
              )),
            ),
            λ z b h. puts us top way late z word.RightParen (word.Semicolon ∷ []) (λ all f q1 le. (
              _,
              _,
              do_of (b all f) (λ h. weaken f (y.1 h)) (f.words _ _ q) w (f.words _ _ q') w' (λ h. weaken f (x h)) q1.0 (z.fits plain (d + 1) (omega arith)) q1.1.0 (late plain (k + 1) d (omega arith)) h,
            )),
          ),
        ),
        λ z b h. puts us top way late z word.LeftParen (word.Integer ∷ word.RightParen ∷ word.Semicolon ∷ []) (λ all f q1 le. (
          _,
          _,
          do_of (b all f) (λ h. weaken f (y.1 h)) (f.words _ _ q) w q1.0 (z.fits opens d (omega arith))
              (λ h. number_expression us top way late all g (d + 1) (j + 1 + 1) q1.1.0 (late plain (j + 1 + 1) (d + 1) (omega arith)) h)
              q1.1.1.0 (late plain (j + 1 + 1 + 1) (d + 1) (omega arith)) q1.1.1.1.0 (late plain (j + 1 + 1 + 1 + 1) d (omega arith)) h,
        )),
      ),
      λ z b h. puts us top way late z word.While (word.LeftParen ∷ word.Integer ∷ word.RightParen ∷ word.Semicolon ∷ []) (λ all f q le. (
        _,
        _,
        do_of (b all f) (λ h. weaken f (y.1 h)) q.0 (z.fits plain d (omega arith)) q.1.0 (late opens (j + 1) d (omega arith))
            (λ h. number_expression us top way late all g (d + 1) (j + 1 + 1) q.1.1.0 (late plain (j + 1 + 1) (d + 1) (omega arith)) h)
            q.1.1.1.0 (late plain (j + 1 + 1 + 1) (d + 1) (omega arith)) q.1.1.1.1.0 (late plain (j + 1 + 1 + 1 + 1) d (omega arith)) h,
      )),
    ),
  )
    where
      do_of : {all : List Lexeme} {g e : Scopes} {j k : ℕ} {u t : Trees} → Begun all top (opening word.Do) d s i → Reads all top part.Statement (d + 1) ([] ∷ [] ∷ c) i u g j → Is all j word.While → Stands top j d →
          Is all (j + 1) word.LeftParen → Within top (j + 1) d → Reads all top part.Expression (d + 1) (around g) (j + 1 + 1) t e k → Is all k word.RightParen → Stands top k (d + 1) → Is all (k + 1) word.Semicolon → Stands top (k + 1) d →
          (h : Context) → Spells all top (a part.Statement) h c (around e) d (one kind.Do s (k + 1 + 1) (u & t & none)) s (k + 1 + 1)
      do_of b y q w q' w' x q1 w1 q2 w2 h = spells.of_alternative grammar.do_statement refl (spells.begins (b _ _ _ _ _ _ (do_body (y _) q w q' w' x q1 w1 q2 w2)))

  owes_for_rest : (l : Labels) (d s : ℕ) (c : Scopes) (i : ℕ) → Owed (for_rest l d s) c i
  owes_for_rest l d s c i = (
    λ z. some_declaration ([] ∷ c) (d + 1) (i + 1) (z (d + 1)),
    λ q w. (
      λ _. (
        λ v b h. mores us top way late (v _) (word.Semicolon ∷ word.RightParen ∷ word.Semicolon ∷ []) (λ all f t e j le x q1 shown.
            let k = scopes_kept x in (
              _,
              _,
              spells.of_alternative grammar.for_statement refl (spells.begins (b all f _ _ _ _ _ _ (spells.opens (f.words _ _ q) w (spells.init_declaration x (clauses_empty all e j (omega arith) le q1))))),
              wherever (left_in shown _),
            )),
        λ t e j _ k x. (
          λ v b h. more0 us top way late (v (omega arith) _) (λ all f u g n le y shown. (
            _,
            _,
            spells.of_alternative grammar.for_statement refl (spells.begins (b all f _ _ _ _ _ _ (spells.opens (f.words _ _ q) w (spells.init_declaration (weaken f (x _)) y)))),
            within (λ p r. parts_stand l) (right_in t shown),
          )),
          λ u g n _ _ _. tt,
        ),
      ),
      (
        λ v b h. mores us top way late (v d refl _) (word.Semicolon ∷ word.RightParen ∷ word.Semicolon ∷ []) (λ all f t e j le x q1 shown. (
          _,
          _,
          spells.of_alternative grammar.for_statement refl (spells.begins (b all f _ _ _ _ _ _ (spells.opens (f.words _ _ q) w
              (spells.init_clause (clause_on x (clauses_empty all e j (clause_kept x (omega arith)) le q1)))))),
          wherever (left_in shown _),
        )),
        λ t e j _ k x. (
          λ v b h. more0 us top way late (v (omega arith) _) (λ all f u g n le y shown. (
            _,
            _,
            spells.of_alternative grammar.for_statement refl (spells.begins (b all f _ _ _ _ _ _ (spells.opens (f.words _ _ q) w (spells.init_clause (clause_of all top (front_clause f x) y))))),
            within (λ p r. parts_stand l) (right_in t shown),
          )),
          λ u g n _ _ _. tt,
        ),
      ),
    ),
    λ z b h. puts us top way late z word.LeftParen (word.Semicolon ∷ word.Semicolon ∷ word.RightParen ∷ word.Semicolon ∷ []) (λ all f q le. (
      _,
      _,
      spells.of_alternative grammar.for_statement refl (spells.begins (b all f _ _ _ _ _ _ (spells.opens q.0 (z.fits opens d (omega arith)) (spells.init_clause
          (spells.clause_none q.1.0 (late plain (i + 1) (d + 1) (omega arith)) (clauses_empty all ([] ∷ c) (i + 1 + 1) (omega arith) (omega arith) q.1.1)))))),
    )),
  )
    where
      clauses_empty : (all : List Lexeme) (e : Scopes) (j : ℕ) {h : Context} → 0 < length e → length us < j → Stand all j (word.Semicolon ∷ word.RightParen ∷ word.Semicolon ∷ []) →
          Spells all top (rest after_init) h e (around e) d (one kind.ExpressionStatement (j + 1 + 1) (j + 1 + 1 + 1) none & none) j (j + 1 + 1 + 1)
      clauses_empty all e j lt le q = spells.clause_none q.0 (late plain j (d + 1) le) (spells.step_none q.1.0 (late plain (j + 1) (d + 1) (omega arith)) (late opens (j + 1) d (omega arith))
          (whole_body lt (empty all ([] ∷ e) (d + 1) (j + 1 + 1) q.1.1.0 (late plain (j + 1 + 1) (d + 1) (omega arith)) _)))

  owes_for_clauses : (l : Labels) (d s : ℕ) (y : Trees) (c : Scopes) (i : ℕ) → Owed (for_clauses l d s y) c i
  owes_for_clauses l d s y c i = (
    λ v o h. mores us top way late (v d refl _) (word.RightParen ∷ word.Semicolon ∷ []) (λ all f t e j le x q1 shown. (
      _,
      _,
      clause_on x (spells.step_none q1.0 (late plain j (d + 1) le) (late opens j d le) (whole_body (clause_kept x o) (empty all ([] ∷ e) (d + 1) (j + 1) q1.1.0 (late plain (j + 1) (d + 1) (omega arith)) _))),
      show.anywhere (left_in shown _),
    )),
    λ t e j _ k x. (
      λ z. some_statement (inside l) ([] ∷ e) (d + 1) (j + 1) (z (d + 1)),
      λ q w. (
        λ v o h. more0 us top way late (v fresh) (λ all f u g n le z shown. (
          _,
          _,
          clause_of all top (front_clause f x) (spells.step_none (f.words _ _ q) w.0 w.1 (whole_body (omega arith) (unheard refl z _))),
          right_in t (left_in shown none),
        )),
        λ u g n _ _ _. tt,
      ),
      (
        λ v o h. mores us top way late (v fresh) (word.RightParen ∷ word.Semicolon ∷ []) (λ all f u e' j' le x' q1 shown.
            let k' = scopes_kept x' in (
              _,
              _,
              clause_of all top (front_clause f x) (spells.step_some (unheard refl x' _) q1.0 (late plain j' (d + 1) le) (late opens j' d le)
                  (whole_body (omega arith) (empty all ([] ∷ e') (d + 1) (j' + 1) q1.1.0 (late plain (j' + 1) (d + 1) (omega arith)) _))),
              seen (right t (left shown _)),
            )),
        λ u e' j' _ k' x'. (
          λ z. some_statement (inside l) ([] ∷ e') (d + 1) (j' + 1) (z (d + 1)),
          λ q w. (
            λ v o h. more0 us top way late (v fresh) (λ all f u' g n le z shown. (
              _,
              _,
              clause_of all top (front_clause f x) (spells.step_some (weaken f (x' _)) (f.words _ _ q) w.0 w.1 (whole_body (omega arith) (unheard refl z _))),
              right_in t (right_in u (left_in shown none)),
            )),
            λ u' g n _ _ _. tt,
          ),
          λ z o h. puts us top way late z word.RightParen (word.Semicolon ∷ []) (λ all f q1 le. (
            _,
            _,
            clause_of all top (front_clause f x) (spells.step_some (weaken f (x' _)) q1.0 (z.fits plain (d + 1) (omega arith)) (z.fits opens d (omega arith))
                (whole_body (omega arith) (empty all ([] ∷ e') (d + 1) (j' + 1) q1.1.0 (late plain (j' + 1) (d + 1) (omega arith)) _))),
          )),
        ),
      ),
    ),
  )

  owes_clause : (d : ℕ) (c : Scopes) (i : ℕ) → Owed (clause d) c i
  owes_clause d c i = (
    tt,
    λ q w. tt,
    (
      λ v d' e h. mores us top way late (v fresh) (word.Semicolon ∷ []) (λ all f t g j le s q1 shown. (
        _,
        _,
        spells.clause_some (subst (λ n. Spells all top (a part.Expression) h c g n t i j) e (unheard refl s h)) q1.0 (late plain j (d' + 1) le) spells.done,
        seen (left shown none),
      )),
      λ t g j _ _ x. (
        tt,
        λ q w. tt,
        λ z d' e h. puts us top way late z word.Semicolon [] (λ all f q1 le. (
          _,
          _,
          spells.clause_some (subst (λ n. Spells all top (a part.Expression) h c g n t i j) e (weaken f (x h))) q1.0 (z.fits plain (d' + 1) (omega arith)) spells.done,
        )),
      ),
    ),
  )

  owes_return_rest : (d s : ℕ) (c : Scopes) (i : ℕ) → Owed (return_rest d s) c i
  owes_return_rest d s c i = (
    tt,
    λ q w. tt,
    (
      λ v b h. mores us top way late (v _) (word.Semicolon ∷ []) (λ all f t e j le x q1 shown. (
        _,
        _,
        spells.of_alternative grammar.return_statement refl (b all f _ _ _ _ _ (spells.optional_some x (spells.token q1.0 (late plain j d le) spells.done))),
        seen (first shown none),
      )),
      λ t e j _ _ x. (
        tt,
        λ q w. tt,
        λ z b h. puts us top way late z word.Semicolon [] (λ all f q1 le. (
          _,
          _,
          spells.of_alternative grammar.return_statement refl (b all f _ _ _ _ _ (spells.optional_some (weaken f (x _)) (spells.token q1.0 (z.fits plain d (omega arith)) spells.done))),
        )),
      ),
    ),
  )

  pub owes : (g : Goal) (c : Scopes) (i : ℕ) → Owed g c i
  owes (whole p d) c i = (λ v. tt, λ t e j _ _ _. (λ z. tt, tt))
  owes (expression d) c i = grows.owes_expression us top way late d c i
  owes (commas d s y) c i = grows.owes_commas us top way late d s y c i
  owes (assignment d) c i = grows.owes_assignment us top way late d c i
  owes (conditional d) c i = grows.owes_conditional us top way late d c i
  owes (m.binary p d) c i = grows.owes_binary us top way late p d c i
  owes (operands p d s y) c i = grows.owes_operands us top way late p d s y c i
  owes (cast d) c i = grows.owes_cast us top way late d c i
  owes (unary d) c i = grows.owes_unary us top way late d c i
  owes (measured d s) c i = grows.owes_measured us top way late d s c i
  owes (postfix d) c i = grows.owes_postfix us top way late d c i
  owes (called d s) c i = grows.owes_called us top way late d s c i
  owes (grouped d s) c i = grows.owes_grouped us top way late d s c i
  owes (texts d) c i = (tt, λ q w. (λ v. v, λ t e j _ _ _. tt), tt)
  owes (arguments d y) c i = grows.owes_arguments us top way late d y c i
  owes (suffixes d s y) c i = grows.owes_suffixes us top way late d s y c i
  owes (type_name d) c i = grows.owes_type_name us top way late d c i
  owes (row p h d) c i = grows.owes_row us top way late p h d c i
  owes (more p h d s y) c i = grows.owes_more us top way late p h d s y c i
  owes (element p h d) c i = grows.owes_element us top way late p h d c i
  owes (structure d s) c i = grows.owes_structure us top way late d s c i
  owes (members d s y) c i = grows.owes_members us top way late d s y c i
  owes (member d) c i = grows.owes_member us top way late d c i
  owes (member_declarators h d s y) c i = grows.owes_member_declarators us top way late h d s y c i
  owes (enumeration d s) c i = grows.owes_enumeration us top way late d s c i
  owes (enumerators d s y) c i = grows.owes_enumerators us top way late d s y c i
  owes (enumerator d) c i = grows.owes_enumerator us top way late d c i
  owes (qualifiers d) c i = (tt, λ q w. (λ v. record { at = v.at; qualifiers = spells.qualifiers_more q w v.qualifiers; declared = v.declared }, λ t e j _ _ _. tt), tt)
  owes (declarator w h d) c i = grows.owes_declarator us top way late w h d c i
  owes (declarator_suffixes d s y) c i = grows.owes_declarator_suffixes us top way late d s y c i
  owes (abstract_suffixes d s y) c i = grows.owes_abstract_suffixes us top way late d s y c i
  owes (size d) c i = grows.owes_size us top way late d c i
  owes (parameters d) c i = grows.owes_parameters us top way late d c i
  owes (more_parameters d s y) c i = grows.owes_more_parameters us top way late d s y c i
  owes (parameter d) c i = grows.owes_parameter us top way late d c i
  owes (unit l d) c i = owes_unit l d c i
  owes (externals l d y) c i = owes_externals l d y c i
  owes (external l d) c i = owes_external l d c i
  owes (declaration d) c i = owes_declaration d c i
  owes (init_declarators h d s y) c i = owes_init_declarators h d s y c i
  owes (initialized d q y) c i = owes_initialized d q y c i
  owes (initializer d) c i = owes_initializer d c i
  owes (initializers d s y) c i = owes_initializers d s y c i
  owes (statement l d) c i = owes_statement l d c i
  owes (block l d) c i = (λ v. v, λ t e j _ _ _. tt)
  owes (if_rest l d s) c i = owes_if_rest l d s c i
  owes (switch_rest l d s) c i = owes_switch_rest l d s c i
  owes (while_rest l d s) c i = owes_while_rest l d s c i
  owes (do_rest l d s) c i = owes_do_rest l d s c i
  owes (for_rest l d s) c i = owes_for_rest l d s c i
  owes (return_rest d s) c i = owes_return_rest d s c i
  owes (for_clauses l d s y) c i = owes_for_clauses l d s y c i
  owes (clause d) c i = owes_clause d c i
  owes (compound l d) c i = owes_compound l d c i
  owes (items l d s y) c i = owes_items l d s y c i
  owes (item l d) c i = owes_item l d c i
