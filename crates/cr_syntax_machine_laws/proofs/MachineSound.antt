-- What the machine reads is spelled: each goal's program gives what its meaning says.
use Rattle.std.proofs.Common.{◌≡◌, ℕ, ◌+◌, true, false, List, [], ◌∷◌, refl, sym, ap, subst, ◌∙◌, arith}
use Rattle.std.specs.Prelude.{if◌then◌else◌}
use Rattle.cr_syntax.specs.declared.word.Word.{Word}
use Rattle.cr_syntax.specs.declared.word.Word.TheVariants as word
use Rattle.cr_syntax.specs.declared.node.Kind.{Kind}
use Rattle.cr_syntax.specs.declared.node.Kind.TheVariants as kind
use Rattle.cr_syntax.specs.Symbols.{Depth}
use Rattle.cr_syntax.specs.declared.part.Part.{Part}
use Rattle.cr_syntax.specs.declared.part.Part.TheVariants as part
use Rattle.cr_syntax.specs.Symbols as symbol
use Rattle.cr_syntax.specs.declared.part.Context.{Context}
use Rattle.cr_syntax.specs.declared.scopes.TypeName.{TypeName}
use Rattle.cr_syntax.specs.Words.{Lexeme}
use Rattle.cr_syntax.specs.Scopes.{Scopes, enter}
use Rattle.cr_syntax.specs.Trees.{Trees, none, node, one, ◌&◌}
use Rattle.cr_syntax.specs.Context.{fresh, past_token, past_part, fits_together, is_bare}
use Rattle.cr_syntax.specs.Grammar.{Side, Alternative, prefix, token, assignment_by, inner_optional, closing, many, list, part, binary}
use Rattle.cr_syntax.specs.Grammar as grammar
use Rattle.cr_syntax.specs.Spells.{Limit, Is, Stands, Within, Spells, a, rest, AreQualifiers, qualifiers_none, qualifiers_more}
use Rattle.cr_syntax.specs.Spells as spells
use Rattle.cr_syntax_machine.specs.Machine.{Goal, Prog, Manner, Wanted, named, unnamed, either, Runs, Done, Allows, plain, opens, reopens, give, call, made, choose, around, innermost_of, brought}
use Rattle.cr_syntax_machine.specs.Machine.{whole, expression, commas, assignment, conditional, operands, cast, unary, measured, postfix, called, grouped, texts, arguments, suffixes, type_name, row, more, element, structure, members, member, member_declarators, enumeration, enumerators, enumerator, qualifiers, declarator, declarator_suffixes, abstract_suffixes, size, parameters, more_parameters, parameter}
use Rattle.cr_syntax_machine.specs.Machine.{unit, externals, external, declaration, init_declarators, initialized, initializer, initializers, statement, block, if_rest, switch_rest, while_rest, do_rest, for_rest, return_rest, for_clauses, clause, compound, items, item}
use Rattle.cr_syntax_machine.specs.Machine as m
use Rattle.cr_syntax_machine.specs.MachineBody.{body, assigned, operated, prefixed, suffixed, sized, other_primary, suffixes_end, other_element, array_start, Words, is_declarator, may_name, may_omit, start_goal, tighter, assignment_operators, operators, unary_prefixes, cast_prefixes, constants, postfix_operators, specifier_words, plain_words, row_kind, in_row, in_parameters}
use Rattle.cr_syntax_machine_laws.proofs.MachineMeans as means
use Rattle.cr_syntax_machine.proofs.MachineSpells as facts
pub use Rattle.cr_syntax_machine_laws.proofs.MachineMeans.{open_of}
use Rattle.cr_syntax_machine_laws.proofs.MachineUnitSound.{gives_unit, gives_externals, gives_external, gives_declaration, gives_init_declarators, gives_initialized, gives_initializer, gives_initializers, gives_statement, gives_block, gives_if_rest, gives_switch_rest, gives_while_rest, gives_do_rest, gives_for_rest, gives_return_rest, gives_for_clauses, gives_clause, gives_compound, gives_items, gives_item}
use Rattle.cr_syntax_machine.proofs.MachineSpells.{and_none, and_and, pushed, is_one, name_brought, brought_is, unary_in, unheard}
use Rattle.cr_syntax_machine_laws.proofs.MachineGives.{Gives, gives, AllRows, no_rows, also, gives_choose}
use Rattle.cr_syntax_machine_laws.proofs.MachineKept.{Kept, runs_kept, not_both}
use Rattle.cr_syntax_machine_laws.proofs.MachineMeans.{Means, Reads, IsDeclared, with_name, without, IsSize, unsized, IsParameterRow, first_one, next_one, IsOpen, has_some, start_part, is_level, row_part, element_part}

-- an alternative for a kind, with any parts
abbrev pub Makes : Part → Side → Kind → Type 0
Makes p s k = Alternative p k s × ((t : Trees) → fits_together k t ≡ true)

pub makes : {p : Part} {s : Side} {k : Kind} → Alternative p k s → ((t : Trees) → fits_together k t ≡ true) → Makes p s k
makes m f = (m, f)

abbrev pub Assigns : Word → Kind → Type 0
Assigns w k = Makes part.Assignment (assignment_by w) k

pub assignment_rows : AllRows Assigns assignment_operators
assignment_rows =
    also (makes grammar.assign (λ t. refl)) (also (makes grammar.multiply_assign (λ t. refl)) (also (makes grammar.divide_assign (λ t. refl))
    (also (makes grammar.remainder_assign (λ t. refl)) (also (makes grammar.add_assign (λ t. refl)) (also (makes grammar.subtract_assign (λ t. refl))
    (also (makes grammar.shift_left_assign (λ t. refl)) (also (makes grammar.shift_right_assign (λ t. refl)) (also (makes grammar.and_assign (λ t. refl))
    (also (makes grammar.xor_assign (λ t. refl)) (also (makes grammar.or_assign (λ t. refl)) no_rows))))))))))

abbrev pub Prefixes : Part → Word → Kind → Type 0
Prefixes p w k = Makes part.Unary (prefix w p) k

pub unary_rows : AllRows (Prefixes part.Unary) unary_prefixes
unary_rows = also (makes grammar.pre_increment (λ t. refl)) (also (makes grammar.pre_decrement (λ t. refl)) no_rows)

pub cast_rows : AllRows (Prefixes part.Cast) cast_prefixes
cast_rows =
    also (makes grammar.address_of (λ t. refl)) (also (makes grammar.dereference (λ t. refl)) (also (makes grammar.plus (λ t. refl))
    (also (makes grammar.minus (λ t. refl)) (also (makes grammar.complement (λ t. refl)) (also (makes grammar.logical_not (λ t. refl)) no_rows)))))

abbrev pub IsConstant : Word → Kind → Type 0
IsConstant w k = Makes part.Primary (token w ∷ []) k

pub constant_rows : AllRows IsConstant constants
constant_rows = also (makes grammar.integer_constant (λ t. refl)) (also (makes grammar.character_constant (λ t. refl)) no_rows)

abbrev pub Follows : Word → Kind → Type 0
Follows w k = Makes part.Postfix (part part.Postfix ∷ token w ∷ []) k

pub postfix_rows : AllRows Follows postfix_operators
postfix_rows = also (makes grammar.post_increment (λ t. refl)) (also (makes grammar.post_decrement (λ t. refl)) no_rows)

-- Rows.

pub part_some : {ts : List Lexeme} {limit : Limit} {p : Part} {h : Context} {c e : Scopes} {d i j : ℕ} {t : Trees} →
    Spells ts limit (a p) h c e d t i j → (u : Trees) → has_some (t & u) ≡ true
part_some s u = let w = is_one s in subst (λ x. has_some (x & u) ≡ true) (sym w.2) refl

pub pushed_some : (t u : Trees) → has_some t ≡ true → has_some (t & u) ≡ true
pushed_some none u q = cc
pushed_some (node k i j b n) u q = refl

pub two_in_row : (p : Part) (s e : ℕ) (t u v : Trees) → has_some t ≡ true → has_some u ≡ true → in_row p s e (t & (u & v)) ≡ one (row_kind p) s e (t & (u & v))
two_in_row p s e none u v q q' = cc
two_in_row p s e (node k i j b none) none v q q' = cc
two_in_row p s e (node k i j b none) (node k' i' j' b' n') v q q' = refl
two_in_row p s e (node k i j b (node k' i' j' b' n')) u v q q' = refl

pub two_parameters : (s e : ℕ) (t u : Trees) → has_some t ≡ true → has_some u ≡ true → in_parameters s e (t & u) ≡ one kind.Parameters s e (t & u)
two_parameters s e none u q q' = cc
two_parameters s e (node k i j b n) none q q' = cc
two_parameters s e (node k i j b none) (node k' i' j' b' n') q q' = by k
  where
    by : (k : Kind) → in_parameters s e (node k i j b (node k' i' j' b' n')) ≡ one kind.Parameters s e (node k i j b (node k' i' j' b' n'))
    by kind.Void = refl
    by _ = refl
two_parameters s e (node k i j b (node k'' i'' j'' b'' n'')) (node k' i' j' b' n') q q' = by k
  where
    by : (k : Kind) → in_parameters s e (node k i j b (node k'' i'' j'' b'' (n'' & node k' i' j' b' n'))) ≡ one kind.Parameters s e (node k i j b (node k'' i'' j'' b'' (n'' & node k' i' j' b' n')))
    by kind.Void = refl
    by _ = refl

pub bare_is : {ts : List Lexeme} {limit : Limit} {p : Part} {h' : Context} {c e : Scopes} {d i j : ℕ} {t : Trees} →
    Spells ts limit (a p) h' c e d t i j → (h : Context) → (past_part h t).bare ≡ is_bare t
bare_is s h = let w = is_one s in subst (λ x. (past_part h x).bare ≡ is_bare x) (sym w.2) refl

pub many_of : {ts : List Lexeme} {limit : Limit} {l : Depth} {p : Part} {r : Side} {h : Context} {c e : Scopes} {d i j : ℕ} {t : Trees} →
    Spells ts limit (rest (symbol.Part l p ∷ symbol.Many l p ∷ r)) h c e d t i j → Spells ts limit (rest (symbol.Many l p ∷ r)) h c e d t i j
many_of (spells.part x s) = spells.many_more x s

-- the one token `void` as parameters
void_of : {ts : List Lexeme} {limit : Limit} {h h' : Context} {c e : Scopes} {d i j i' j' : ℕ} {b : Trees} →
    Spells ts limit (a part.Parameter) h c e d (one kind.Void i' j' b) i j → Spells ts limit (a part.Parameters) h' c e d (one kind.VoidParameters i j none) i j
void_of (spells.of_alternative x f s) = elim x [ ]
void_of (spells.of_chain grammar.parameter_unnamed f s) = at_row s
  where
    at_plain : {ts : List Lexeme} {limit : Limit} {h h' : Context} {c e : Scopes} {d i j i' j' : ℕ} {b : Trees} →
        Spells ts limit (a part.Plain) h c e d (one kind.Void i' j' b) i j → Spells ts limit (a part.Parameters) h' c e d (one kind.VoidParameters i j none) i j
    at_plain (spells.of_alternative grammar.type_void f (spells.token q w spells.done)) = spells.of_alternative grammar.void_parameters refl (spells.token q w spells.done)
    at_plain (spells.of_chain x f s) = elim x [ ]

    at_specifier : {ts : List Lexeme} {limit : Limit} {h h' : Context} {c e : Scopes} {d i j i' j' : ℕ} {b : Trees} →
        Spells ts limit (a part.Specifier) h c e d (one kind.Void i' j' b) i j → Spells ts limit (a part.Parameters) h' c e d (one kind.VoidParameters i j none) i j
    at_specifier (spells.of_alternative x f s) = elim x [ ]
    at_specifier (spells.of_chain grammar.specifier_plain f s) = at_plain s

    at_row : {ts : List Lexeme} {limit : Limit} {h h' : Context} {c e : Scopes} {d i j i' j' : ℕ} {b : Trees} →
        Spells ts limit (a part.Specifiers) h c e d (one kind.Void i' j' b) i j → Spells ts limit (a part.Parameters) h' c e d (one kind.VoidParameters i j none) i j
    at_row (spells.of_alternative x f s) = elim x [ ]
    at_row (spells.of_chain grammar.specifiers_one f s) = at_specifier s

lone : {ts : List Lexeme} {limit : Limit} {h : Context} {c e : Scopes} {d i j : ℕ} {b : Trees} (k : Kind) →
    Spells ts limit (a part.Parameter) fresh c e d (one k i j b) i j → Spells ts limit (a part.Parameters) h c e d (in_parameters i j (one k i j b)) i j
lone kind.Void s = void_of s
lone _ s = spells.of_chain grammar.parameters_one refl s

module _ (us : List Lexeme) (top : Limit) where
  -- Parts by a goal's table.

  pub start_means : (p : Part) (d : ℕ) (c : Scopes) (i : ℕ) (t : Trees) (e : Scopes) (j : ℕ) → Means us top (start_goal p d) c i t e j → Reads us top (start_part p) d c i t e j
  start_means part.Expression d c i t e j x = x
  start_means part.Assignment d c i t e j x = x
  start_means _ d c i t e j x = x

  -- the operands of a level, alone
  pub level_up : (p : Part) (d : ℕ) (c : Scopes) (i : ℕ) (t : Trees) (e : Scopes) (j : ℕ) → is_level p ≡ true → Means us top (tighter p d) c i t e j → Reads us top p d c i t e j
  level_up part.LogicalOr d c i t e j l x = λ h. spells.of_chain grammar.binary_14 refl (x refl _)
  level_up part.LogicalAnd d c i t e j l x = λ h. spells.of_chain grammar.binary_13 refl (x refl _)
  level_up part.Or d c i t e j l x = λ h. spells.of_chain grammar.binary_12 refl (x refl _)
  level_up part.Xor d c i t e j l x = λ h. spells.of_chain grammar.binary_11 refl (x refl _)
  level_up part.And d c i t e j l x = λ h. spells.of_chain grammar.binary_10 refl (x refl _)
  level_up part.Equality d c i t e j l x = λ h. spells.of_chain grammar.binary_9 refl (x refl _)
  level_up part.Relational d c i t e j l x = λ h. spells.of_chain grammar.binary_8 refl (x refl _)
  level_up part.Shift d c i t e j l x = λ h. spells.of_chain grammar.binary_7 refl (x refl _)
  level_up part.Additive d c i t e j l x = λ h. spells.of_chain grammar.binary_6 refl (x refl _)
  level_up part.Multiplicative d c i t e j l x = λ h. spells.of_chain grammar.binary_5 refl (x _)
  level_up _ d c i t e j l x = cc

  -- an operator of a level between two operands
  abbrev pub Operates : Part → Word → Kind → Type 0
  Operates p w k = (d : ℕ) (c0 c e : Scopes) (s i j : ℕ) (t u : Trees) → Reads us top p d c0 s t c i → Is us i w → Stands top i d →
      Means us top (tighter p d) c (i + 1) u e j → Reads us top p d c0 s (one k s j (t & u & none)) e j

  pub operator_rows : (p : Part) → AllRows (Operates p) (operators p)
  operator_rows part.LogicalOr = also (λ d c0 c e s i j t u x q w y h. spells.of_alternative grammar.logical_or refl (spells.part (x _) (spells.token q w (spells.part (y refl _) spells.done)))) no_rows
  operator_rows part.LogicalAnd = also (λ d c0 c e s i j t u x q w y h. spells.of_alternative grammar.logical_and refl (spells.part (x _) (spells.token q w (spells.part (y refl _) spells.done)))) no_rows
  operator_rows part.Or = also (λ d c0 c e s i j t u x q w y h. spells.of_alternative grammar.inclusive_or refl (spells.part (x _) (spells.token q w (spells.part (y refl _) spells.done)))) no_rows
  operator_rows part.Xor = also (λ d c0 c e s i j t u x q w y h. spells.of_alternative grammar.exclusive_or refl (spells.part (x _) (spells.token q w (spells.part (y refl _) spells.done)))) no_rows
  operator_rows part.And = also (λ d c0 c e s i j t u x q w y h. spells.of_alternative grammar.and refl (spells.part (x _) (spells.token q w (spells.part (y refl _) spells.done)))) no_rows
  operator_rows part.Equality =
      also (λ d c0 c e s i j t u x q w y h. spells.of_alternative grammar.equal refl (spells.part (x _) (spells.token q w (spells.part (y refl _) spells.done))))
      (also (λ d c0 c e s i j t u x q w y h. spells.of_alternative grammar.not_equal refl (spells.part (x _) (spells.token q w (spells.part (y refl _) spells.done)))) no_rows)
  operator_rows part.Relational =
      also (λ d c0 c e s i j t u x q w y h. spells.of_alternative grammar.less refl (spells.part (x _) (spells.token q w (spells.part (y refl _) spells.done))))
      (also (λ d c0 c e s i j t u x q w y h. spells.of_alternative grammar.greater refl (spells.part (x _) (spells.token q w (spells.part (y refl _) spells.done))))
      (also (λ d c0 c e s i j t u x q w y h. spells.of_alternative grammar.less_equal refl (spells.part (x _) (spells.token q w (spells.part (y refl _) spells.done))))
      (also (λ d c0 c e s i j t u x q w y h. spells.of_alternative grammar.greater_equal refl (spells.part (x _) (spells.token q w (spells.part (y refl _) spells.done)))) no_rows)))
  operator_rows part.Shift =
      also (λ d c0 c e s i j t u x q w y h. spells.of_alternative grammar.shift_left refl (spells.part (x _) (spells.token q w (spells.part (y refl _) spells.done))))
      (also (λ d c0 c e s i j t u x q w y h. spells.of_alternative grammar.shift_right refl (spells.part (x _) (spells.token q w (spells.part (y refl _) spells.done)))) no_rows)
  operator_rows part.Additive =
      also (λ d c0 c e s i j t u x q w y h. spells.of_alternative grammar.add refl (spells.part (x _) (spells.token q w (spells.part (y refl _) spells.done))))
      (also (λ d c0 c e s i j t u x q w y h. spells.of_alternative grammar.subtract refl (spells.part (x _) (spells.token q w (spells.part (y refl _) spells.done)))) no_rows)
  operator_rows part.Multiplicative =
      also (λ d c0 c e s i j t u x q w y h. spells.of_alternative grammar.multiply refl (spells.part (x _) (spells.token q w (spells.part (y _) spells.done))))
      (also (λ d c0 c e s i j t u x q w y h. spells.of_alternative grammar.divide refl (spells.part (x _) (spells.token q w (spells.part (y _) spells.done))))
      (also (λ d c0 c e s i j t u x q w y h. spells.of_alternative grammar.remainder refl (spells.part (x _) (spells.token q w (spells.part (y _) spells.done)))) no_rows))
  operator_rows _ = no_rows

  -- a word that is a specifier by itself
  abbrev pub Specifies : Part → Word → Kind → Type 0
  Specifies p w k = (h : Context) (c : Scopes) (d i : ℕ) → Is us i w → Stands top i d → Spells us top (a (element_part p)) h c c d (one k i (i + 1) none) i (i + 1)

  word_by : (p : Part) (w : Word) (k : Kind) → Alternative p k (token w ∷ []) → fits_together k none ≡ true → (h : Context) (c : Scopes) (d i : ℕ) → Is us i w → Stands top i d →
      Spells us top (a p) h c c d (one k i (i + 1) none) i (i + 1)
  word_by p w k x f h c d i q v = spells.of_alternative x f (spells.token q v spells.done)

  pub plain_up : (p : Part) {h : Context} {c e : Scopes} {d i j : ℕ} {t : Trees} → Spells us top (a part.Plain) h c e d t i j → Spells us top (a (element_part p)) h c e d t i j
  plain_up part.Specifiers s = spells.of_chain grammar.specifier_plain refl s
  plain_up _ s = s

  pub specifier_rows : (p : Part) → AllRows (Specifies p) (specifier_words p)
  specifier_rows = by
    where
      plain_by : (p : Part) (w : Word) (k : Kind) → Alternative part.Plain k (token w ∷ []) → fits_together k none ≡ true → Specifies p w k
      plain_by p w k x f h c d i q v = plain_up p (word_by part.Plain w k x f h c d i q v)

      plain_rows : (p : Part) → AllRows (Specifies p) plain_words
      plain_rows p =
          also (plain_by p _ _ grammar.qualifier_const refl) (also (plain_by p _ _ grammar.qualifier_volatile refl) (also (plain_by p _ _ grammar.type_void refl) (also (plain_by p _ _ grammar.type_char refl)
          (also (plain_by p _ _ grammar.type_short refl) (also (plain_by p _ _ grammar.type_int refl) (also (plain_by p _ _ grammar.type_long refl)
          (also (plain_by p _ _ grammar.type_signed refl) (also (plain_by p _ _ grammar.type_unsigned refl) (also (plain_by p _ _ grammar.type_bool refl) no_rows)))))))))

      by : (p : Part) → AllRows (Specifies p) (specifier_words p)
      by part.Specifiers =
          also (word_by part.Specifier _ _ grammar.specifier_typedef refl) (also (word_by part.Specifier _ _ grammar.specifier_extern refl)
          (also (word_by part.Specifier _ _ grammar.specifier_static refl) (also (word_by part.Specifier _ _ grammar.specifier_auto refl)
          (also (word_by part.Specifier _ _ grammar.specifier_register refl) (also (word_by part.Specifier _ _ grammar.specifier_inline refl) (plain_rows part.Specifiers))))))
      by p = plain_rows p

  -- Declarators.

  abbrev pub Declared : Wanted → Context → ℕ → Scopes → ℕ → Trees → Scopes → ℕ → Type 0
  Declared w h d c i t e j = IsDeclared us top w h d c i t e j

  pub dropped_member : {h : Context} {d i j : ℕ} {c e : Scopes} {t : Trees} → Declared named h d c i t e j → Spells us top (a part.MemberDeclarator) h c (around e) d t i j
  dropped_member {h = h} {d = d} {i = i} {j = j} {c = c} {e = e} {t = t} (with_name x y o s) =
      spells.member_declarator (subst (λ z. Spells us top (a part.Declarator) h c z d t i j) o s)
  dropped_member (without x y s) = cc

  abstract_of : {h : Context} {d i j : ℕ} {c e : Scopes} {t : Trees} → Declared unnamed h d c i t e j → Reads us top part.Abstract d c i t e j
  abstract_of (with_name x y o s) = cc
  abstract_of (without x y s) = s

  pub array_of : {d i j : ℕ} {c e : Scopes} {t : Trees} → IsSize us top d c i t e j → (h : Context) →
      Spells us top (rest (inner_optional part.Conditional ∷ closing word.RightBracket ∷ [])) h c e d t i j
  array_of (unsized q w) h = spells.optional_none (spells.token q w spells.done)
  array_of (means.sized x q w) h = spells.optional_some (x _) (spells.token q w spells.done)

  pub array_size : {d i j : ℕ} {c e : Scopes} {t : Trees} → IsSize us top d c i t e j → (h : Context) (own : List TypeName) →
      Spells us top (rest (symbol.Size ∷ closing word.RightBracket ∷ [])) h (own ∷ c) (own ∷ e) d t i j
  array_size (unsized q w) h own = spells.size_none (spells.token q w spells.done)
  array_size (means.sized x q w) h own = spells.size_some (x _) (spells.token q w spells.done)

  -- a `*` before a declarator, or before nothing
  module _ (w : Wanted) (h : Context) (d : ℕ) (c : Scopes) (i : ℕ) (q : Is us i word.Star) (v : Within top i d) where
    pointer_named : {e f : Scopes} {j k : ℕ} {t : Trees} → (c ≡ e) × AreQualifiers us top (d + 1) (i + 1) j → Spells us top (a part.Declarator) (past_token h) e f (d + 1) t j k →
        Spells us top (a part.Declarator) h c f d (one kind.PointerDeclarator i k (t & none)) i k
    pointer_named {f = f} {j = j} {k = k} {t = t} x s = subst (λ y. Spells us top (a part.Declarator) h c f d (one kind.PointerDeclarator i k y) i k) (sym (and_none t))
        (spells.of_alternative grammar.pointer_declarator refl (spells.opens q v (spells.qualified x.1 (subst (λ y. Spells us top (a part.Declarator) (past_token h) y f (d + 1) t j k) (sym x.0) s))))

    pointer_unnamed : {e f : Scopes} {j k : ℕ} {t : Trees} → (c ≡ e) × AreQualifiers us top (d + 1) (i + 1) j → Reads us top part.Abstract (d + 1) e j t f k →
        Reads us top part.Abstract d c i (one kind.AbstractPointer i k (t & none)) f k
    pointer_unnamed {f = f} {j = j} {k = k} {t = t} x s h' = subst (λ y. Spells us top (a part.Abstract) h' c f d (one kind.AbstractPointer i k y) i k) (sym (and_none t))
        (spells.of_alternative grammar.abstract_pointer refl (spells.opens q v (spells.qualified_some x.1 (subst (λ y. Spells us top (a part.Abstract) (past_token fresh) y f (d + 1) t j k) (sym x.0) (s _)))))

    pointer_alone : {e : Scopes} {j : ℕ} → (c ≡ e) × AreQualifiers us top (d + 1) (i + 1) j → Reads us top part.Abstract d c i (one kind.AbstractPointer i j none) e j
    pointer_alone {j = j} x h' = subst (λ y. Spells us top (a part.Abstract) h' c y d (one kind.AbstractPointer i j none) i j) x.0
        (spells.of_alternative grammar.abstract_pointer refl (spells.opens q v (spells.qualified_none x.1)))

    pointer_means : {e f : Scopes} {j k : ℕ} {t : Trees} → (c ≡ e) × AreQualifiers us top (d + 1) (i + 1) j → Declared w (past_token h) (d + 1) e j t f k →
        (is_declarator t ≡ true → Declared w h d c i (one kind.PointerDeclarator i k (t & none)) f k) ×
        (is_declarator t ≡ false → Declared w h d c i (one kind.AbstractPointer i k (t & none)) f k)
    pointer_means {t = t} x (with_name y z o s) = (λ y'. with_name refl z o (pointer_named x s), λ y'. not_both (is_declarator t) y y')
    pointer_means {t = t} x (without y z s) = (λ y'. not_both (is_declarator t) y' y, λ y'. without refl z (pointer_unnamed x s))

  -- a declarator in brackets
  module _ (w : Wanted) (h : Context) (d : ℕ) (c : Scopes) (i : ℕ) (q : Is us i word.LeftParen) (v : Within top i d) where
    pub group_named : {e : Scopes} {j : ℕ} {t : Trees} → Declared w (past_token h) (d + 1) c (i + 1) t e j → is_declarator t ≡ true → Is us j word.RightParen → Stands top j (d + 1) →
        (may_name w ≡ true) × IsOpen e × Spells us top (a part.DirectDeclarator) h c e d (one kind.GroupDeclarator i (j + 1) (t & none)) i (j + 1)
    group_named (with_name y z o s) y' q' v' = (z, o, spells.of_alternative grammar.group_declarator refl (spells.opens q v (spells.part s (spells.token q' v' spells.done))))
    group_named {t = t} (without y z s) y' q' v' = not_both (is_declarator t) y' y

    pub group_unnamed : {e : Scopes} {j : ℕ} {t : Trees} → Declared w (past_token h) (d + 1) c (i + 1) t e j → is_declarator t ≡ false → Is us j word.RightParen → Stands top j (d + 1) →
        (may_omit w ≡ true) × Reads us top part.DirectAbstract d c i (one kind.AbstractGroup i (j + 1) (t & none)) e (j + 1)
    group_unnamed {t = t} (with_name y z o s) y' q' v' = not_both (is_declarator t) y y'
    group_unnamed (without y z s) y' q' v' = (z, λ h'. spells.of_alternative grammar.abstract_group refl (spells.opens q v (spells.part (s _) (spells.token q' v' spells.done))))

  -- a declarator's parameters, with the scope of its own aside
  pub parameters_of : (h : Context) {h0 : Context} {c c0 e : Scopes} {d s i j : ℕ} {x t : Trees} → Spells us top (a part.DirectDeclarator) h0 c0 c d x s i → IsOpen c → IsOpen e →
      Reads us top part.Parameters (d + 1) ([] ∷ around c) (i + 1) t e j → Is us i word.LeftParen → Within top i d → Is us j word.RightParen → Stands top j (d + 1) →
      Spells us top (rest (grammar.opening word.LeftParen ∷ symbol.Prototype ∷ closing word.RightParen ∷ [])) (past_part h x) c ((if is_bare x then innermost_of e else innermost_of c) ∷ around e) d (t & none) i (j + 1)
  parameters_of h {c = c} {e = e} {d = d} {i = i} {j = j} {x = x} {t = t} sx oc oe r q w q' w' =
      subst (λ y. Spells us top (rest (grammar.opening word.LeftParen ∷ symbol.Prototype ∷ closing word.RightParen ∷ [])) (past_part h x) y ((if is_bare x then innermost_of e else innermost_of c) ∷ around e) d (t & none) i (j + 1)) (sym oc)
      (spells.opens q w (spells.prototype_some
      (subst (λ y. Spells us top (a part.Parameters) (past_token (past_part h x)) ([] ∷ around c) y (d + 1) t (i + 1) j) oe (r _))
      (subst (λ b. Spells us top (rest (closing word.RightParen ∷ [])) (past_part (past_token (past_part h x)) t) ((if b then innermost_of e else innermost_of c) ∷ around e) ((if is_bare x then innermost_of e else innermost_of c) ∷ around e) d none j (j + 1)) (sym (bare_is sx h))
      (spells.token q' w' spells.done))))

  -- Parameters.

  -- a row of parameters before a comma and what follows, and at its end
  before_comma : {d s : ℕ} {c : Scopes} {i j : ℕ} {e f : Scopes} {t u : Trees} {r : Side} → IsParameterRow us top d c s t e i → Is us i word.Comma → Stands top i d →
      ((h : Context) → Spells us top (rest (list part.Parameter ∷ r)) h e f d u (i + 1) j) → (h : Context) → Spells us top (rest (list part.Parameter ∷ r)) h c f d (t & u) s j
  before_comma {d = d} {s = s} {c = c} {j = j} {f = f} {u = u} {r = r} (first_one {t = t} x) q w k h =
      subst (λ y. Spells us top (rest (list part.Parameter ∷ r)) h c f d y s j) (sym (and_and t none u)) (spells.list_more (x _) q w (k _))
  before_comma {d = d} {s = s} {c = c} {j = j} {f = f} {u = u} {r = r} (next_one {t = t} {u = v} z q' w' x) q w k h =
      subst (λ y. Spells us top (rest (list part.Parameter ∷ r)) h c f d y s j) (sym (pushed t v u)) (before_comma z q' w' (λ h'. spells.list_more (x _) q w (k _)) h)

  pub at_end : {d s : ℕ} {c : Scopes} {i j : ℕ} {e f : Scopes} {t : Trees} {r : Side} → IsParameterRow us top d c s t e i →
      ((h : Context) → Spells us top (rest r) h e f d none i j) → (h : Context) → Spells us top (rest (list part.Parameter ∷ r)) h c f d t s j
  at_end {d = d} {s = s} {c = c} {j = j} {f = f} {r = r} (first_one {t = t} x) k h =
      subst (λ y. Spells us top (rest (list part.Parameter ∷ r)) h c f d y s j) (sym (and_none t)) (spells.list_last (x _) (k _))
  at_end {d = d} {s = s} {c = c} {j = j} {f = f} {r = r} (next_one {t = t} {u = v} z q w x) k h =
      subst (λ y. Spells us top (rest (list part.Parameter ∷ r)) h c f d (t & y) s j) (sym (and_none v)) (before_comma z q w (λ h'. spells.list_last (x _) (k _)) h)

  list_some : {p : Part} {h : Context} {d i j : ℕ} {c e : Scopes} {t : Trees} {r : Side} → Spells us top (rest (list p ∷ r)) h c e d t i j → has_some t ≡ true
  list_some {t = t} (spells.list_last x k) = subst (λ y. has_some y ≡ true) (and_none t) (part_some x none)
  list_some (spells.list_more {u = u} x q w k) = part_some x u

  -- a parameter, and a list of them, hear nothing of what stands before
  anywhere : {h : Context} {d i j : ℕ} {c e : Scopes} {t : Trees} → Spells us top (rest (list part.Parameter ∷ [])) h c e d t i j → (h' : Context) →
      Spells us top (rest (list part.Parameter ∷ [])) h' c e d t i j
  anywhere (spells.list_last x spells.done) h' = spells.list_last (unheard refl x _) spells.done
  anywhere (spells.list_more x q w k) h' = spells.list_more (unheard refl x _) q w (anywhere k _)

  pub row_of_parameters : {h : Context} {d i j : ℕ} {c e : Scopes} {t : Trees} → Spells us top (rest (list part.Parameter ∷ [])) fresh c e d t i j →
      Spells us top (a part.Parameters) h c e d (in_parameters i j t) i j
  row_of_parameters {h = h} {d = d} {i = i} {j = j} {c = c} {e = e} {t = t} (spells.list_last x spells.done) =
      let w = is_one x in
      subst (λ y. Spells us top (a part.Parameters) h c e d (in_parameters i j y) i j) (sym w.2)
      (lone w.0 (subst (λ y. Spells us top (a part.Parameter) fresh c e d y i j) w.2 (unheard refl x _)))
  row_of_parameters {h = h} {d = d} {i = i} {j = j} {c = c} {e = e} (spells.list_more {t = t} {u = u} x q w k) =
      subst (λ y. Spells us top (a part.Parameters) h c e d y i j) (sym (two_parameters i j t u (subst (λ y. has_some y ≡ true) (and_none t) (part_some x none)) (list_some k)))
      (spells.of_alternative grammar.parameter_list refl (spells.part x (spells.token q w (anywhere k _))))

  -- Specifiers.

  pub row_alone : (p : Part) {h : Context} {c e : Scopes} {d i j : ℕ} {t : Trees} → Spells us top (a (element_part p)) h c e d t i j → Spells us top (a (row_part p)) h c e d t i j
  row_alone part.Specifiers s = spells.of_chain grammar.specifiers_one refl s
  row_alone _ s = spells.of_chain grammar.plain_one refl s

  row_node : (p : Part) {h : Context} {c e : Scopes} {d i j : ℕ} {t : Trees} →
      Spells us top (rest (grammar.part (element_part p) ∷ grammar.part (element_part p) ∷ many (element_part p) ∷ [])) h c e d t i j →
      Spells us top (a (row_part p)) h c e d (one (row_kind p) i j t) i j
  row_node part.Specifiers s = spells.of_alternative grammar.declaration_specifiers refl s
  row_node _ s = spells.of_alternative grammar.specifier_qualifier_list refl s

  pub row_made : (p : Part) {h : Context} {c e : Scopes} {d i j : ℕ} {t : Trees} → has_some t ≡ true → Spells us top (rest (many (element_part p) ∷ [])) h c e d t i j →
      Spells us top (a (row_part p)) h c e d (in_row p i j t) i j
  row_made p y (spells.many_none spells.done) = cc
  row_made p {h = h} {c = c} {e = e} {d = d} {i = i} {j = j} y (spells.many_more {t = t} x (spells.many_none spells.done)) =
      let w = is_one x in
      subst (λ z. Spells us top (a (row_part p)) h c e d (in_row p i j (z & none)) i j) (sym w.2) (row_alone p (subst (λ z. Spells us top (a (element_part p)) h c e d z i j) w.2 x))
  row_made p {h = h} {c = c} {e = e} {d = d} {i = i} {j = j} y (spells.many_more {t = t} x (spells.many_more {t = u} {u = v} x' k)) =
      subst (λ z. Spells us top (a (row_part p)) h c e d z i j) (sym (two_in_row p i j t u v (subst (λ z. has_some z ≡ true) (and_none t) (part_some x none)) (subst (λ z. has_some z ≡ true) (and_none u) (part_some x' none))))
      (row_node p (spells.part x (spells.part x' k)))

  -- The goals.

  words_give : (g : Manner) (rs : Words) (d : ℕ) (p : Kind → Prog) (q : Prog) (f : Trees → Scopes → ℕ → Type 0) (c : Scopes) (i : ℕ) (r : Word → Kind → Type 0) → AllRows r rs →
      ((w : Word) (k : Kind) → r w k → Is us i w → Allows top g i d → Gives us top Kept (Means us top) (p k) f c (i + 1)) → Gives us top Kept (Means us top) q f c i →
      Gives us top Kept (Means us top) (choose g rs d p q) f c i
  words_give g rs d p q f c i r z x y = gives_choose us top Kept (Means us top) g d p q f c i r z x y

  pub each : (g : Goal) (c : Scopes) (i : ℕ) → Gives us top Kept (Means us top) (body g) (Means us top g c i) c i
  each (whole p d) c i = λ t e j _ _ x. start_means p d c i t e j x
  each (expression d) c i = λ t e j _ _ x t' e' j' _ _ x'. x' c (λ h. spells.of_chain grammar.expression_assignment refl (x _))
  each (commas d s y) c i =
      (λ q w t e j _ _ x t' e' j' _ _ x' c0 z. x' c0 (λ h. spells.of_alternative grammar.comma refl (spells.part (z _) (spells.token q w (spells.part (x _) spells.done)))), λ c0 z. z)
  each (assignment d) c i = λ t e j _ _ x. (
    λ u. words_give opens assignment_operators d (assigned d i t) (give t) (Means us top (assignment d) c i) e j Assigns assignment_rows
        (λ w k r q v t' e' j' _ _ x' h. spells.of_alternative r.0 (r.1 _) (spells.part (unary_in facts.conditional u (x fresh)) (spells.opens q v (spells.part (x' _) spells.done))))
        (λ h. spells.of_chain grammar.assignment_conditional refl (x _)),
    λ u h. spells.of_chain grammar.assignment_conditional refl (x _),
  )
  each (conditional d) c i = λ t e j _ _ x. (
    λ q w t' e' j' _ _ x'. (
      λ q' w' t'' e'' j'' _ _ x'' h. spells.of_alternative grammar.conditional refl
          (spells.part (x refl _) (spells.opens q w (spells.part (x' _) (spells.reopens q' w'.0 w'.1 (spells.part (x'' _) spells.done))))),
      tt,
    ),
    λ h. spells.of_chain grammar.conditional_binary refl (x refl _),
  )
  each (m.binary p d) c i = λ t e j _ _ x t' e' j' _ _ x' l. x' l c (level_up p d c i t e j l x)
  each (operands p d s y) c i = words_give plain (operators p) d (operated p d s y) (give y) (Means us top (operands p d s y) c i) c i (Operates p) (operator_rows p)
      (λ w k r q v t e j _ _ x t' e' j' _ _ x' l c0 z. x' l c0 (r d c0 c e s i j y t z q v x)) (λ l c0 z. z)
  each (cast d) c i = (
    λ q w. (
      λ t e j _ _ x. (
        λ q' w' t' e' j' _ _ x' h. spells.of_alternative grammar.cast refl
            (spells.opens q w (spells.part (x _) (spells.reopens q' w'.0 w'.1 (spells.part (x' _) spells.done)))),
        tt,
      ),
      λ t e j _ _ x h. spells.of_chain grammar.cast_unary refl (spells.of_chain grammar.unary_postfix refl (x (λ r h e t j z. spells.opens q w z) _)),
    ),
    λ t e j _ _ x h. spells.of_chain grammar.cast_unary refl (x _),
  )
  each (unary d) c i = words_give opens unary_prefixes d (prefixed (unary (d + 1)) i) (choose opens cast_prefixes d (prefixed (cast (d + 1)) i) (sized d i)) (Means us top (unary d) c i) c i
      (Prefixes part.Unary) unary_rows (λ w k r q v t e j _ _ x h. spells.of_alternative r.0 (r.1 _) (spells.opens q v (spells.part (x _) spells.done)))
      (words_give opens cast_prefixes d (prefixed (cast (d + 1)) i) (sized d i) (Means us top (unary d) c i) c i
      (Prefixes part.Cast) cast_rows (λ w k r q v t e j _ _ x h. spells.of_alternative r.0 (r.1 _) (spells.opens q v (spells.part (x _) spells.done)))
      (λ q w t e j _ _ x. x (λ r h e t j z. spells.opens q w z), λ t e j _ _ x h. spells.of_chain grammar.unary_postfix refl (x _)))
  each (measured d s) c i = (
    λ q w. (
      λ t e j _ _ x. (λ q' w' b h. spells.of_alternative grammar.sizeof_type refl (b _ _ _ _ _ (spells.opens q w (spells.part (x _) (spells.token q' w' spells.done)))), tt),
      λ t e j _ _ x b h. spells.of_alternative grammar.sizeof_expression refl (b _ _ _ _ _ (spells.part (spells.of_chain grammar.unary_postfix refl (x (λ r h e t j z. spells.opens q w z) _)) spells.done)),
    ),
    λ t e j _ _ x b h. spells.of_alternative grammar.sizeof_expression refl (b _ _ _ _ _ (spells.part (x _) spells.done)),
  )
  each (postfix d) c i = (
    λ q w t e j _ _ x. x (λ r h e t j z. spells.ordinary q w z),
    words_give plain constants d (suffixed d i none) (other_primary d i) (Means us top (postfix d) c i) c i IsConstant constant_rows
        (λ w k r q v t e j _ _ x. x c (λ h. spells.of_chain grammar.postfix_primary refl (spells.of_alternative r.0 (r.1 _) (spells.token q v spells.done)))) (
          λ q w t e j _ _ x t' e' j' _ _ x'. x' c (λ h. subst (λ y. Spells us top (a part.Postfix) h c y d (one kind.Text i j none) i j) x.0
              (spells.of_chain grammar.postfix_primary refl (spells.of_alternative grammar.string_literal refl (x.1 i (λ h. spells.texts_one q w) (λ h k z. spells.texts_more q w z) _)))),
          (λ q w t e j _ _ x. x (λ r h e t j z. spells.opens q w z), tt),
        ),
  )
  each (called d s) c i = (
    λ q w. (
      λ q' w' t e j _ _ x b. x c (λ h. spells.of_alternative grammar.call refl (b _ _ _ _ _ (spells.opens q w (spells.list_none (spells.token q' w' spells.done))))),
      λ t e j _ _ x t' e' j' _ _ x' b. x' c (λ h. subst (λ y. Spells us top (a part.Postfix) h c e d (one kind.Call s j y) s j) (sym x.1)
          (spells.of_alternative grammar.call refl (b _ _ _ _ _ (spells.opens q w (spells.list_some (x.2 _)))))),
    ),
    λ t e j _ _ x b. x c (λ h. spells.of_chain grammar.postfix_primary refl (spells.of_alternative grammar.identifier refl (b _ _ _ _ _ spells.done))),
  )
  each (grouped d s) c i = λ t e j _ _ x.
      (λ q w t' e' j' _ _ x' b. x' c (λ h. spells.of_chain grammar.postfix_primary refl (spells.of_alternative grammar.parenthesized refl (b _ _ _ _ _ (spells.part (x _) (spells.token q w spells.done))))), tt)
  each (texts d) c i = (λ q w t e j _ _ x. (x.0, λ s z more h. more h j (x.1 i (λ h. spells.texts_one q w) (λ h k y. spells.texts_more q w y) h)), (refl, λ s z more. z))
  each (arguments d y) c i = λ t e j _ _ x. (
    λ q w t' e' j' _ _ x'. (t & x'.0, x'.1 ∙ pushed y t x'.0, λ h. spells.list_more (x _) q w (x'.2 _)),
    (λ q w. (t, ap (λ z. y & z) (and_none t), λ h. spells.list_last (x _) (spells.token q w spells.done)), tt),
  )
  each (suffixes d s y) c i = (
    λ q w t e j _ _ x. (λ q' w' t' e' j' _ _ x' c0 z. x' c0 (λ h. spells.of_alternative grammar.subscript refl (spells.part (z _) (spells.opens q w (spells.part (x _) (spells.token q' w' spells.done))))), tt),
    (
      (λ q w. (λ q' w' t e j _ _ x c0 z. x c0 (λ h. spells.of_alternative grammar.member refl (spells.part (z _) (spells.token q w (spells.token q' w' spells.done)))), tt)),
      (
        (λ q w. (λ q' w' t e j _ _ x c0 z. x c0 (λ h. spells.of_alternative grammar.pointer_member refl (spells.part (z _) (spells.token q w (spells.token q' w' spells.done)))), tt)),
        words_give plain postfix_operators d (suffixed d s (y & none)) (suffixes_end d y) (Means us top (suffixes d s y) c i) c i Follows postfix_rows
            (λ w k r q v t e j _ _ x c0 z. x c0 (λ h. spells.of_alternative r.0 (r.1 _) (spells.part (z _) (spells.token q v spells.done))))
            (λ u c0 z. z, λ u c0 z. z),
      ),
    ),
  )
  each (type_name d) c i = λ t e j _ _ x.
      (λ t' e' j' _ _ x' h. spells.of_alternative grammar.type_name refl (spells.part x (spells.part (abstract_of x' _) spells.done)), λ h. spells.of_chain grammar.type_name_plain refl x)
  each (row p h d) c i = λ t e j _ _ x t' e' j' _ _ x'. x' h c (part_some x none) (λ u f k z.
      subst (λ y. Spells us top (rest (many (element_part p) ∷ [])) h c f d y i k) (sym (and_and t none u)) (spells.many_more x z))
  each (more p h d s y) c i = (
    λ t e j _ _ x t' e' j' _ _ x' h0 c0 n b. x' h0 c0 (pushed_some y (t & none) n) (λ u f k z.
        subst (λ v. Spells us top (rest (many (element_part p) ∷ [])) h0 c0 f d v s k) (sym (pushed y t u)) (b _ _ _ (spells.many_more x z))),
    λ h0 c0 n b. row_made p n (subst (λ v. Spells us top (rest (many (element_part p) ∷ [])) h0 c0 c d v s i) (and_none y) (b none c i (spells.many_none spells.done))),
  )
  each (element p h d) c i = words_give plain (specifier_words p) d (λ k. made k i none) (other_element h d i) (Means us top (element p h d) c i) c i (Specifies p) (specifier_rows p)
      (λ w k r q v. r h c d i q v) (
        λ q w t e j _ _ x. plain_up p (x (λ r h e t j z. spells.token q w z) h),
        (
          λ q w t e j _ _ x. plain_up p (x (λ r h e t j z. spells.token q w z) h),
          (λ q w. plain_up p (spells.of_alternative grammar.typedef_name refl (spells.type_identifier q.0 q.1 w spells.done)), tt),
        ),
      )
  each (structure d s) c i = (
    λ q w. (
      λ q' w' t e j _ _ x b h. subst (λ y. Spells us top (a part.Plain) h c e d y s j) (sym x.1) (spells.of_alternative grammar.struct_content refl (b _ _ _ _ _ (spells.tag_some q w q' w' (x.2 _)))),
      λ b h. spells.of_alternative grammar.struct_tag refl (b _ _ _ _ _ (spells.token q w spells.done)),
    ),
    (λ q w t e j _ _ x b h. subst (λ y. Spells us top (a part.Plain) h c e d y s j) (sym x.1) (spells.of_alternative grammar.struct_content refl (b _ _ _ _ _ (spells.tag_none q w (x.2 _)))), tt),
  )
  each (members d s y) c i = λ t e j _ _ x. (
    λ q w. (t & none, refl, λ h. spells.part (x _) (spells.many_none (spells.token q w spells.done))),
    λ t' e' j' _ _ x'. (t & x'.0, x'.1 ∙ ap (λ z. one kind.StructContent s j' z) (pushed y t x'.0), λ h. spells.part (x _) (many_of (x'.2 _))),
  )
  each (member d) c i = λ t e j _ _ x t' e' j' _ _ x' h.
      subst (λ y. Spells us top (a part.MemberDeclaration) h c e' d y i j') (sym (x'.1 ∙ ap (λ z. one kind.MemberDeclaration i j' z) (and_and t none x'.0)))
      (spells.of_alternative grammar.struct_declaration refl (spells.part x x'.2))
  each (member_declarators h d s y) c i = λ t e j _ _ x. (
    λ q w t' e' j' _ _ x'. (t & x'.0, x'.1 ∙ ap (λ z. one kind.MemberDeclaration s j' z) (pushed y t x'.0), spells.list_more (dropped_member x) q w x'.2),
    (λ q w. (t, ap (λ z. one kind.MemberDeclaration s (j + 1) (y & z)) (and_none t), spells.list_last (dropped_member x) (spells.token q w spells.done)), tt),
  )
  each (enumeration d s) c i = (
    λ q w. (
      λ q' w' t e j _ _ x b h. subst (λ y. Spells us top (a part.Plain) h c e d y s j) (sym x.1) (spells.of_alternative grammar.enum_content refl (b _ _ _ _ _ (spells.tag_some q w q' w' (x.2 _)))),
      λ b h. spells.of_alternative grammar.enum_tag refl (b _ _ _ _ _ (spells.token q w spells.done)),
    ),
    (λ q w t e j _ _ x b h. subst (λ y. Spells us top (a part.Plain) h c e d y s j) (sym x.1) (spells.of_alternative grammar.enum_content refl (b _ _ _ _ _ (spells.tag_none q w (x.2 _)))), tt),
  )
  each (enumerators d s y) c i = λ t e j _ _ x. (
    λ q w. (
      λ q' w'. (t, ap (λ z. one kind.EnumContent s (j + 1 + 1) (y & z)) (and_none t), λ h. spells.list_last (x _) (spells.comma_some q w q' w' spells.done)),
      λ t' e' j' _ _ x'. (t & x'.0, x'.1 ∙ ap (λ z. one kind.EnumContent s j' z) (pushed y t x'.0), λ h. spells.list_more (x _) q w (x'.2 _)),
    ),
    (λ q w. (t, ap (λ z. one kind.EnumContent s (j + 1) (y & z)) (and_none t), λ h. spells.list_last (x _) (spells.comma_none q w spells.done)), tt),
  )
  each (enumerator d) c i = (
    λ q w. (
      λ q' w' t e j le _ x h. subst (λ y. Spells us top (a part.Enumerator) h c (enter y e) d (one kind.Enumerator i j (t & none)) i j) (sym (brought_is us j i false (omega arith)))
          (spells.of_alternative grammar.enumerator refl (spells.enumerates q w (spells.value_some q' w' (x _) spells.done))),
      λ h. subst (λ y. Spells us top (a part.Enumerator) h c (enter y c) d (one kind.Enumerator i (i + 1) none) i (i + 1)) (sym (brought_is us (i + 1) i false (omega arith)))
          (spells.of_alternative grammar.enumerator refl (spells.enumerates q w (spells.value_none spells.done))),
    ),
    tt,
  )
  each (qualifiers d) c i = (λ q w t e j _ _ x. (x.0, qualifiers_more q w x.1), (refl, qualifiers_none))
  each (declarator w h d) c i = (
    λ q v t e j _ _ x. (λ o. (λ t' e' j' _ _ x'. pointer_means w h d c i q v x x', without refl o (pointer_alone w h d c i q v x)), λ o t' e' j' _ _ x'. pointer_means w h d c i q v x x'),
    (
      λ q v t e j _ _ x. (
        λ q' v'. (
          λ y t' e' j' _ _ x'.
              let n = group_named w h d c i q v x y q' v' in
              let r = x' h c n.1 refl n.2 in
              with_name r.1 n.0 r.0 (spells.of_chain grammar.declarator_direct refl r.2),
          λ y t' e' j' _ _ x'.
              let n = group_unnamed w h d c i q v x y q' v' in
              let r = x' c refl n.1 in
              without r.0 n.0 (λ h'. spells.of_chain grammar.abstract_direct refl (r.1 _)),
        ),
        tt,
      ),
      (
        λ o. (
          λ q v t e j _ _ x.
              let r = x h c refl refl (spells.of_alternative grammar.name_declarator refl (spells.declared q.0 q.1 v spells.done)) in
              with_name r.1 o r.0 (spells.of_chain grammar.declarator_direct refl r.2),
          arrays,
        ),
        λ o. arrays,
      ),
    ),
  )
    where
      arrays : Gives us top Kept (Means us top) (array_start w d i) (Means us top (declarator w h d) c i) c i
      arrays = (
        λ o. (
          λ q v t e j _ _ x t' e' j' _ _ x'.
              let r = x' c refl (λ h'. spells.of_alternative grammar.abstract_array refl (spells.opens q v (array_of x _))) in
              without r.0 o (λ h'. spells.of_chain grammar.abstract_direct refl (r.1 _)),
          tt,
        ),
        λ o. tt,
      )
  each (declarator_suffixes d s y) c i = (
    λ q w t e j _ _ x t' e' j' _ _ x' h c0 o n z. x' h c0 refl refl (spells.of_alternative grammar.array_declarator refl (spells.part z
        (subst (λ v. Spells us top (rest (grammar.opening word.LeftBracket ∷ symbol.Size ∷ closing word.RightBracket ∷ [])) (past_part h y) v (innermost_of c ∷ e) d t i j) (sym o)
        (spells.opens q w (array_size x _ (innermost_of c)))))),
    (
      λ q w. (
        λ q' w' t e j _ _ x h c0 o n z. x h c0 o refl (spells.of_alternative grammar.function_declarator refl (spells.part z (spells.opens q w (spells.prototype_none (spells.token q' w' spells.done))))),
        λ t e j _ k x. (
          λ q' w' t' e' j' _ _ x' h c0 o n z. x' h c0 refl refl (spells.of_alternative grammar.function_declarator refl (spells.part z
              (parameters_of h z o (open_of e (omega arith)) x q w q' w'))),
          tt,
        ),
      ),
      λ h c0 o n z. (o, n, z),
    ),
  )
  each (abstract_suffixes d s y) c i =
      (λ q w t e j _ _ x t' e' j' _ _ x' c0 n z. x' c0 refl (λ h. spells.of_alternative grammar.abstract_array_of refl (spells.part (z _) (spells.opens q w (array_of x _)))), λ c0 n z. (n, z))
  each (size d) c i = (λ q w. unsized q w, λ t e j _ _ x. (λ q w. means.sized x q w, tt))
  each (parameters d) c i = λ t e j _ _ x t' e' j' _ _ x'. x' c (first_one x)
  each (more_parameters d s y) c i = (
    λ q w. (
      λ q' w' c0 r h. spells.of_alternative grammar.variadic_parameters refl (at_end r (λ h. spells.token q w (spells.token q' w' spells.done)) _),
      λ t e j _ _ x t' e' j' _ _ x' c0 r. x' c0 (next_one r q w x),
    ),
    λ c0 r h. row_of_parameters (at_end r (λ h. spells.done) fresh),
  )
  each (parameter d) c i = λ t e j _ _ x. (
    λ t' e' j' _ _ x'. (λ y h. named_parameter x x' y, λ y h. spells.of_alternative grammar.parameter_declaration refl (spells.part x (spells.part (spells.of_chain grammar.parameter_abstract refl (unnamed_parameter x' y _)) spells.done))),
    λ h. spells.of_chain grammar.parameter_unnamed refl x,
  )
    where
      unnamed_parameter : {h : Context} {c e : Scopes} {i j : ℕ} {t : Trees} → Declared either h d c i t e j → is_declarator t ≡ false → Reads us top part.Abstract d c i t e j
      unnamed_parameter {t = t} (with_name y z o s) y' = not_both (is_declarator t) y y'
      unnamed_parameter (without y z s) y' = s

      named_parameter : {h : Context} {e f : Scopes} {j k : ℕ} {t u : Trees} → Spells us top (a part.Specifiers) fresh c e d t i j → Declared either (past_part fresh t) d e j u f k → is_declarator u ≡ true →
          Spells us top (a part.Parameter) h c (enter (brought us k (past_part (past_part fresh t) u).name (past_part (past_part fresh t) u).type_name) (around f)) d (one kind.Parameter i k (t & u & none)) i k
      named_parameter {u = u} x (without y z s) y' = not_both (is_declarator u) y' y
      named_parameter {h = h} {e = e} {f = f} {j = j} {k = k} {t = t} {u = u} x (with_name y z o s) y' =
          subst (λ v. Spells us top (a part.Parameter) h c (enter v (around f)) d (one kind.Parameter i k (t & u & none)) i k)
          (sym (name_brought s (past_part fresh t)))
          (spells.of_alternative grammar.parameter_declaration refl (spells.part x (spells.part (spells.parameter_declarator (subst (λ v. Spells us top (a part.Declarator) (past_part fresh t) e v d u j k) o s)) spells.done)))
  each (unit l d) c i = gives_unit us top l d c i
  each (externals l d y) c i = gives_externals us top l d y c i
  each (external l d) c i = gives_external us top l d c i
  each (declaration d) c i = gives_declaration us top d c i
  each (init_declarators h d s y) c i = gives_init_declarators us top h d s y c i
  each (initialized d q y) c i = gives_initialized us top d q y c i
  each (initializer d) c i = gives_initializer us top d c i
  each (initializers d s y) c i = gives_initializers us top d s y c i
  each (statement l d) c i = gives_statement us top l d c i
  each (block l d) c i = gives_block us top l d c i
  each (if_rest l d s) c i = gives_if_rest us top l d s c i
  each (switch_rest l d s) c i = gives_switch_rest us top l d s c i
  each (while_rest l d s) c i = gives_while_rest us top l d s c i
  each (do_rest l d s) c i = gives_do_rest us top l d s c i
  each (for_rest l d s) c i = gives_for_rest us top l d s c i
  each (return_rest d s) c i = gives_return_rest us top d s c i
  each (for_clauses l d s y) c i = gives_for_clauses us top l d s y c i
  each (clause d) c i = gives_clause us top d c i
  each (compound l d) c i = gives_compound us top l d c i
  each (items l d s y) c i = gives_items us top l d s y c i
  each (item l d) c i = gives_item us top l d c i

-- what a goal's program answers is spelled
pub runs_sound : {ts : List Lexeme} {limit : Limit} (g : Goal) (c e : Scopes) (i j : ℕ) (t : Trees) → Runs body ts limit (body g) c i (Done t e j) → Means ts limit g c i t e j
runs_sound {ts = ts} {limit = limit} g c e i j t h =
    gives body ts ts limit limit Kept (Means ts limit) runs_kept (each ts limit) h (Means ts limit g c i) (λ n lt. refl) (λ x n d lt w. w) (each ts limit g c i)
