-- What the machine refuses can go on before the refused token: each goal's program owes a text for each place where a token can be
-- refused, and where a row of the refused forms refuses it, the text shows the row's node.
use Rattle.std.specs.Prelude.{◌==◌}
use Rattle.std.proofs.Common.{◌≡◌, ℕ, ◌+◌, ◌<◌, ◌≤◌, Bool, true, false, List, [], ◌∷◌, length, refl, sym, subst, arith}
use Rattle.cr_syntax.specs.declared.word.Word.{Word}
use Rattle.cr_syntax.specs.declared.word.Word.TheVariants as word
use Rattle.cr_syntax.specs.declared.node.Kind.{Kind}
use Rattle.cr_syntax.specs.declared.node.Kind.TheVariants as kind
use Rattle.cr_syntax.specs.declared.part.Part.{Part}
use Rattle.cr_syntax.specs.declared.part.Part.TheVariants as part
use Rattle.cr_syntax.specs.Symbols.{Symbol}
use Rattle.cr_syntax.specs.Symbols as symbol
use Rattle.cr_syntax.specs.declared.part.Context.{Context}
use Rattle.cr_syntax.specs.Words.{Lexeme}
use Rattle.cr_syntax.specs.Scopes.{Scopes, enter}
use Rattle.cr_syntax.specs.Trees.{Trees, none, one, ◌&◌}
use Rattle.cr_syntax.specs.Context.{fresh, past_token, past_part, declared_name, hears}
use Rattle.cr_syntax.specs.Grammar.{token, inner_list, closing, many, list, part, binary}
use Rattle.cr_syntax.specs.Grammar as grammar
use Rattle.cr_syntax.specs.Spells.{Limit, Phrase, Is, Stands, Within, Spells, a, rest, AreQualifiers, qualifiers_none}
use Rattle.cr_syntax.specs.Spells as spells
use Rattle.cr_syntax_machine.specs.Machine.{Goal, Prog, Test, Manner, Wanted, named, unnamed, either, Allows, plain, opens, reopens, give, call, made, choose, the, around, innermost_of}
use Rattle.cr_syntax_machine.specs.Machine.{whole, expression, commas, assignment, conditional, operands, cast, unary, measured, postfix, called, grouped, texts, arguments, suffixes, type_name, row, more, element, structure, members, member, member_declarators, enumeration, enumerators, enumerator, qualifiers, declarator, declarator_suffixes, abstract_suffixes, size, parameters, more_parameters, parameter}
use Rattle.cr_syntax_machine.specs.Machine.{Labels, anywhere, own_block, in_block, nowhere, unit, externals, external, declaration, init_declarators, initialized, initializer, initializers, statement, block, if_rest, switch_rest, while_rest, do_rest, for_rest, return_rest, for_clauses, clause, compound, items, item}
use Rattle.cr_syntax_machine.specs.Machine as m
use Rattle.cr_syntax.specs.Units.{has_here, has_inside, unit_side, Place, in_switch, own_item, block_item, elsewhere}
use Rattle.cr_syntax_machine.specs.MachineBody.{body, is_identifier, assigned, operated, prefixed, suffixed, sized, other_primary, suffixes_end, other_element, array_start, may_name, may_omit, start_goal, tighter, operators, cast_prefixes}
use Rattle.cr_syntax_machine.specs.MachineBody as program
use Rattle.cr_syntax_machine_laws.proofs.MachineMeans as means
use Rattle.cr_syntax_machine.proofs.MachineSpells as facts
use Rattle.cr_syntax_machine.proofs.MachineSpells.{and_none, and_and, pushed, is_one, unary_in, unheard}
use Rattle.cr_syntax_machine_laws.proofs.MachineGives.{AllRows, no_rows, also}
use Rattle.cr_syntax_machine_laws.proofs.MachineKept.{Kept, runs_kept}
use Rattle.cr_syntax_machine_laws.proofs.MachineMeans.{Means, Reads, Behind, Begun, with_name, without, IsSize, unsized, IsParameterRow, first_one, next_one, IsRowBegin, IsOpen, has_some, start_part, is_level, row_part, element_part, after_init}
use Rattle.cr_syntax_machine_laws.proofs.MachineSound.{Declared, group_named, group_unnamed, Assigns, assignment_rows, Prefixes, unary_rows, cast_rows, IsConstant, constant_rows, Follows, postfix_rows, open_of, part_some, pushed_some, many_of, level_up, plain_up, specifier_rows, Specifies, dropped_member, array_of, array_size, parameters_of, at_end, row_of_parameters, row_alone, row_made}
use Rattle.cr_syntax_machine_laws.proofs.MachineFails.{Fails, words_fail}
use Rattle.cr_syntax_machine_laws.proofs.MachineEnds.{Way}
use Rattle.cr_syntax_machine_laws.proofs.MachineShown.{Next, next_literal, next_call, next_field, next_free, next_more, next_so, ShownIn, Shown, seen, every, Started, shown_literal, shown_call, shown_field, shown_free, shown_so, Room, Barred, Labelled, Earlier, has_left, left, right, inside, first, second, third, row_shown, parameter_shown, parameters_shown, operand_begins, postfix_ends, declarator_ends}
use Rattle.cr_syntax_machine_laws.proofs.MachineExtend.{Front, front_itself, front_then, longer, Stand, past, past_more, longer_by, weaken, weaken_qualifiers, weaken_name}
use Rattle.cr_syntax_machine_laws.proofs.MachineTasks.{below}
use Rattle.cr_syntax_machine_laws.proofs.MachineTasks as task
use Rattle.cr_syntax_machine_laws.proofs.MachineComplete.{completes}
use Rattle.cr_syntax_machine_laws.proofs.MachineBegins.{owned}
use Rattle.cr_syntax_machine_laws.proofs.MachineFirst.{none_true}

-- what is spelled in one text as a phrase up to a place
abbrev pub Built : List Lexeme → Limit → Phrase → Context → Scopes → ℕ → ℕ → ℕ → Type 0
Built all top q h c d s j = (t : Trees) × (e : Scopes) × Spells all top q h c e d t s j

-- with trees of which something holds
abbrev pub Shows : List Lexeme → Limit → (Trees → Type 0) → Phrase → Context → Scopes → ℕ → ℕ → ℕ → Type 0
Shows all top x q h c d s j = (t : Trees) × (e : Scopes) × Spells all top q h c e d t s j × x t

-- a longer text that spells a phrase from token s to its end, with trees of which something holds
pub record GrownBy (us : List Lexeme) (top : Limit) (way : Way) (x : Trees → Type 0) (q : Phrase) (h : Context) (c : Scopes) (d s : ℕ) : Type 0 where
  pub all : List Lexeme
  pub front : Front us all
  pub end : ℕ
  pub size : end ≡ length all
  pub late : length us < end
  pub next : Next all (length us) way
  pub built : Shows all top x q h c d s end

-- and which show what is asked of the token behind us
abbrev pub Grown : List Lexeme → Limit → Way → Phrase → Context → Scopes → ℕ → ℕ → Type 0
Grown us top way q h c d s = GrownBy us top way (λ t. Shown (length us) t way) q h c d s

-- where they stand in some places
abbrev pub GrownIn : List Lexeme → Limit → Way → (Place → Bool) → Phrase → Context → Scopes → ℕ → ℕ → Type 0
GrownIn us top way at q h c d s = GrownBy us top way (λ t. ShownIn at (length us) t way) q h c d s

-- an operand of a level is one of the level
level_chain : (p : Part) → is_level p ≡ true → {all : List Lexeme} {top : Limit} {c e : Scopes} {d i j : ℕ} {t : Trees} → Spells all top (a (below p)) fresh c e d t i j → (h : Context) → Spells all top (a p) h c e d t i j
level_chain part.LogicalOr l s h = spells.of_chain grammar.binary_14 refl s
level_chain part.LogicalAnd l s h = spells.of_chain grammar.binary_13 refl s
level_chain part.Or l s h = spells.of_chain grammar.binary_12 refl s
level_chain part.Xor l s h = spells.of_chain grammar.binary_11 refl s
level_chain part.And l s h = spells.of_chain grammar.binary_10 refl s
level_chain part.Equality l s h = spells.of_chain grammar.binary_9 refl s
level_chain part.Relational l s h = spells.of_chain grammar.binary_8 refl s
level_chain part.Shift l s h = spells.of_chain grammar.binary_7 refl s
level_chain part.Additive l s h = spells.of_chain grammar.binary_6 refl s
level_chain part.Multiplicative l s h = spells.of_chain grammar.binary_5 refl s
level_chain _ l s h = none_true l

-- an operator of a level and its operands
abbrev Joins : Part → Word → Kind → Type 0
Joins p w k = (all : List Lexeme) (top : Limit) (d : ℕ) (c0 c e : Scopes) (s i j : ℕ) (t u : Trees) → Reads all top p d c0 s t c i → Is all i w → Stands top i d →
    ((h : Context) → Spells all top (a (below p)) h c e d u (i + 1) j) → Reads all top p d c0 s (one k s j (t & u & none)) e j

join_rows : (p : Part) → AllRows (Joins p) (operators p)
join_rows part.LogicalOr = also (λ all top d c0 c e s i j t u x q w y h. spells.of_alternative grammar.logical_or refl (spells.part (x _) (spells.token q w (spells.part (y _) spells.done)))) no_rows
join_rows part.LogicalAnd = also (λ all top d c0 c e s i j t u x q w y h. spells.of_alternative grammar.logical_and refl (spells.part (x _) (spells.token q w (spells.part (y _) spells.done)))) no_rows
join_rows part.Or = also (λ all top d c0 c e s i j t u x q w y h. spells.of_alternative grammar.inclusive_or refl (spells.part (x _) (spells.token q w (spells.part (y _) spells.done)))) no_rows
join_rows part.Xor = also (λ all top d c0 c e s i j t u x q w y h. spells.of_alternative grammar.exclusive_or refl (spells.part (x _) (spells.token q w (spells.part (y _) spells.done)))) no_rows
join_rows part.And = also (λ all top d c0 c e s i j t u x q w y h. spells.of_alternative grammar.and refl (spells.part (x _) (spells.token q w (spells.part (y _) spells.done)))) no_rows
join_rows part.Equality = also (λ all top d c0 c e s i j t u x q w y h. spells.of_alternative grammar.equal refl (spells.part (x _) (spells.token q w (spells.part (y _) spells.done)))) (also (λ all top d c0 c e s i j t u x q w y h. spells.of_alternative grammar.not_equal refl (spells.part (x _) (spells.token q w (spells.part (y _) spells.done)))) no_rows)
join_rows part.Relational = also (λ all top d c0 c e s i j t u x q w y h. spells.of_alternative grammar.less refl (spells.part (x _) (spells.token q w (spells.part (y _) spells.done)))) (also (λ all top d c0 c e s i j t u x q w y h. spells.of_alternative grammar.greater refl (spells.part (x _) (spells.token q w (spells.part (y _) spells.done)))) (also (λ all top d c0 c e s i j t u x q w y h. spells.of_alternative grammar.less_equal refl (spells.part (x _) (spells.token q w (spells.part (y _) spells.done)))) (also (λ all top d c0 c e s i j t u x q w y h. spells.of_alternative grammar.greater_equal refl (spells.part (x _) (spells.token q w (spells.part (y _) spells.done)))) no_rows)))
join_rows part.Shift = also (λ all top d c0 c e s i j t u x q w y h. spells.of_alternative grammar.shift_left refl (spells.part (x _) (spells.token q w (spells.part (y _) spells.done)))) (also (λ all top d c0 c e s i j t u x q w y h. spells.of_alternative grammar.shift_right refl (spells.part (x _) (spells.token q w (spells.part (y _) spells.done)))) no_rows)
join_rows part.Additive = also (λ all top d c0 c e s i j t u x q w y h. spells.of_alternative grammar.add refl (spells.part (x _) (spells.token q w (spells.part (y _) spells.done)))) (also (λ all top d c0 c e s i j t u x q w y h. spells.of_alternative grammar.subtract refl (spells.part (x _) (spells.token q w (spells.part (y _) spells.done)))) no_rows)
join_rows part.Multiplicative = also (λ all top d c0 c e s i j t u x q w y h. spells.of_alternative grammar.multiply refl (spells.part (x _) (spells.token q w (spells.part (y _) spells.done)))) (also (λ all top d c0 c e s i j t u x q w y h. spells.of_alternative grammar.divide refl (spells.part (x _) (spells.token q w (spells.part (y _) spells.done)))) (also (λ all top d c0 c e s i j t u x q w y h. spells.of_alternative grammar.remainder refl (spells.part (x _) (spells.token q w (spells.part (y _) spells.done)))) no_rows))
join_rows _ = no_rows

-- where a statement stands whose labels may stand so, and a block of such statements
abbrev pub placed : Labels → Place → Bool
placed anywhere p = true
placed own_block own_item = true
placed own_block _ = false
placed in_block block_item = true
placed in_block _ = false
placed nowhere elsewhere = true
placed nowhere _ = false

abbrev pub blocked : Labels → Place → Bool
blocked anywhere p = true
blocked own_block in_switch = true
blocked own_block _ = false
blocked in_block in_switch = false
blocked in_block _ = true
blocked nowhere _ = false

module _ (us : List Lexeme) (top : Limit) (way : Way) (late : (g : Manner) (i d : ℕ) → length us < i → Allows top g i d) where
  -- Building.

  abbrev pub G : Part → ℕ → Scopes → ℕ → Type 0
  G p d c s = (h : Context) → Grown us top way (a p) h c d s

  -- tokens at the end of the first ones, by what the word of the first of them tells

  pub grown : {x : Trees → Type 0} {q : Phrase} {h : Context} {c : Scopes} {d s i : ℕ} → i ≡ length us → (w : Word) (ws : List Word) → ((all : List Lexeme) → Front us all → Is all (length us) w → Next all (length us) way) →
      ((all : List Lexeme) → Front us all → Stand all i (w ∷ ws) → length us ≤ i → Shows all top x q h c d s (past i (w ∷ ws))) → GrownBy us top way x q h c d s
  grown {i = i} e w ws n k =
      let y = longer_by (w ∷ ws) us i e in
      let m = past_more ws (i + 1) in
      record { all = y.all; front = y.front; end = past i (w ∷ ws); size = y.size; late = omega arith; next = n y.all y.front (subst (λ j. Is y.all j w) e y.words.0); built = k y.all y.front y.words (omega arith) }

  pub grown1 : {x : Trees → Type 0} {q : Phrase} {h : Context} {c : Scopes} {d s i : ℕ} → i ≡ length us → (w : Word) → ((all : List Lexeme) → Is all (length us) w → Next all (length us) way) →
      ((all : List Lexeme) → Front us all → Is all i w → length us ≤ i → Shows all top x q h c d s (i + 1)) → GrownBy us top way x q h c d s
  grown1 e w n k = grown e w [] (λ all f q. n all q) (λ all f q le. k all f q.0 le)

  pub grown3 : {x : Trees → Type 0} {q : Phrase} {h : Context} {c : Scopes} {d s i : ℕ} → i ≡ length us → (w w' w'' : Word) → ((all : List Lexeme) → Is all (length us) w → Next all (length us) way) →
      ((all : List Lexeme) → Front us all → Is all i w → Is all (i + 1) w' → Is all (i + 1 + 1) w'' → length us ≤ i → Shows all top x q h c d s (i + 1 + 1 + 1)) → GrownBy us top way x q h c d s
  grown3 e w w' w'' n k = grown e w (w' ∷ w'' ∷ []) (λ all f q. n all q) (λ all f q le. k all f q.0 q.1.0 q.1.1.0 le)

  pub put1 : {q : Phrase} {h : Context} {c : Scopes} {d s i n : ℕ} → Room us top way i n → (w : Word) → ((all : List Lexeme) → Front us all → Is all i w → length us ≤ i → Built all top q h c d s (i + 1)) → Grown us top way q h c d s
  put1 z w k = grown1 z.here w (λ all q. next_free z.free) (λ all f q le. let b = k all f q le in (b.0, b.1, b.2, shown_free z.free))

  pub put2 : {q : Phrase} {h : Context} {c : Scopes} {d s i n : ℕ} → Room us top way i n → (w w' : Word) → ((all : List Lexeme) → Front us all → Is all i w → Is all (i + 1) w' → length us ≤ i → Built all top q h c d s (i + 1 + 1)) → Grown us top way q h c d s
  put2 z w w' k = grown z.here w (w' ∷ []) (λ all f q. next_free z.free) (λ all f q le. let b = k all f q.0 q.1.0 le in (b.0, b.1, b.2, shown_free z.free))

  pub put3 : {q : Phrase} {h : Context} {c : Scopes} {d s i n : ℕ} → Room us top way i n → (w w' w'' : Word) →
      ((all : List Lexeme) → Front us all → Is all i w → Is all (i + 1) w' → Is all (i + 1 + 1) w'' → length us ≤ i → Built all top q h c d s (i + 1 + 1 + 1)) → Grown us top way q h c d s
  put3 z w w' w'' k = grown3 z.here w w' w'' (λ all q. next_free z.free) (λ all f q q' q'' le. let b = k all f q q' q'' le in (b.0, b.1, b.2, shown_free z.free))

  pub puts : {at : Place → Bool} {q : Phrase} {h : Context} {c : Scopes} {d s i n : ℕ} → Room us top way i n → (w : Word) (ws : List Word) →
      ((all : List Lexeme) → Front us all → Stand all i (w ∷ ws) → length us ≤ i → Built all top q h c d s (past i (w ∷ ws))) → GrownIn us top way at q h c d s
  puts z w ws k = grown z.here w ws (λ all f q. next_free z.free) (λ all f q le. let b = k all f q le in (b.0, b.1, b.2, seen (shown_free z.free)))

  -- some tokens, or none, behind a phrase that is grown

  pub mores : {x y : Trees → Type 0} {q q' : Phrase} {h h' : Context} {c c' : Scopes} {d d' s s' : ℕ} → GrownBy us top way x q h c d s → (ws : List Word) →
      ((all : List Lexeme) (f : Front us all) (t : Trees) (e : Scopes) (j : ℕ) → length us < j → Spells all top q h c e d t s j → Stand all j ws → x t → Shows all top y q' h' c' d' s' (past j ws)) →
      GrownBy us top way y q' h' c' d' s'
  mores g ws k =
      let le = g.late in
      let y = longer_by ws g.all g.end g.size in
      let m = past_more ws g.end in
      record {
        all = y.all;
        front = front_then g.front y.front;
        end = past g.end ws;
        size = y.size;
        late = omega arith;
        next = next_more y.front g.next;
        built = k y.all (front_then g.front y.front) g.built.0 g.built.1 g.end g.late (weaken y.front g.built.2) y.words g.built.3;
      }

  pub more0 : {x y : Trees → Type 0} {q q' : Phrase} {h h' : Context} {c c' : Scopes} {d d' s s' : ℕ} → GrownBy us top way x q h c d s →
      ((all : List Lexeme) (f : Front us all) (t : Trees) (e : Scopes) (j : ℕ) → length us < j → Spells all top q h c e d t s j → x t → Shows all top y q' h' c' d' s' j) → GrownBy us top way y q' h' c' d' s'
  more0 g k = mores g [] (λ all f t e j le s u y. k all f t e j le s y)

  pub more1 : {x y : Trees → Type 0} {q q' : Phrase} {h h' : Context} {c c' : Scopes} {d d' s s' : ℕ} → GrownBy us top way x q h c d s → (w : Word) →
      ((all : List Lexeme) (f : Front us all) (t : Trees) (e : Scopes) (j : ℕ) → length us < j → Spells all top q h c e d t s j → Is all j w → x t → Shows all top y q' h' c' d' s' (j + 1)) →
      GrownBy us top way y q' h' c' d' s'
  more1 g w k = mores g (w ∷ []) (λ all f t e j le s u y. k all f t e j le s u.0 y)

  pub more2 : {x y : Trees → Type 0} {q q' : Phrase} {h h' : Context} {c c' : Scopes} {d d' s s' : ℕ} → GrownBy us top way x q h c d s → (w w' : Word) →
      ((all : List Lexeme) (f : Front us all) (t : Trees) (e : Scopes) (j : ℕ) → length us < j → Spells all top q h c e d t s j → Is all j w → Is all (j + 1) w' → x t →
      Shows all top y q' h' c' d' s' (j + 1 + 1)) → GrownBy us top way y q' h' c' d' s'
  more2 g w w' k = mores g (w ∷ w' ∷ []) (λ all f t e j le s u y. k all f t e j le s u.0 u.1.0 y)

  pub more4 : {x y : Trees → Type 0} {q q' : Phrase} {h h' : Context} {c c' : Scopes} {d d' s s' : ℕ} → GrownBy us top way x q h c d s → (w1 w2 w3 w4 : Word) →
      ((all : List Lexeme) (f : Front us all) (t : Trees) (e : Scopes) (j : ℕ) → length us < j → Spells all top q h c e d t s j → Is all j w1 → Is all (j + 1) w2 → Is all (j + 1 + 1) w3 → Is all (j + 1 + 1 + 1) w4 →
      x t → Shows all top y q' h' c' d' s' (j + 1 + 1 + 1 + 1)) → GrownBy us top way y q' h' c' d' s'
  more4 g w1 w2 w3 w4 k = mores g (w1 ∷ w2 ∷ w3 ∷ w4 ∷ []) (λ all f t e j le s u y. k all f t e j le s u.0 u.1.0 u.1.1.0 u.1.1.1.0 y)

  -- a constant as each part of an expression
  module _ (all : List Lexeme) (c : Scopes) (d i : ℕ) (q : Is all i word.Integer) (w : Stands top i d) where
    abbrev number : Trees
    number = one kind.Integer i (i + 1) none

    number_postfix : (h : Context) → Spells all top (a part.Postfix) h c c d number i (i + 1)
    number_postfix h = spells.of_chain grammar.postfix_primary refl (spells.of_alternative grammar.integer_constant refl (spells.token q w spells.done))

    number_unary : (h : Context) → Spells all top (a part.Unary) h c c d number i (i + 1)
    number_unary h = spells.of_chain grammar.unary_postfix refl (number_postfix _)

    number_cast : (h : Context) → Spells all top (a part.Cast) h c c d number i (i + 1)
    number_cast h = spells.of_chain grammar.cast_unary refl (number_unary _)

    pub number_conditional : (h : Context) → Spells all top (a part.Conditional) h c c d number i (i + 1)
    number_conditional h = spells.of_chain grammar.conditional_binary refl (spells.of_chain grammar.binary_14 refl (spells.of_chain grammar.binary_13 refl (spells.of_chain grammar.binary_12 refl (spells.of_chain grammar.binary_11 refl (spells.of_chain grammar.binary_10 refl
        (spells.of_chain grammar.binary_9 refl (spells.of_chain grammar.binary_8 refl (spells.of_chain grammar.binary_7 refl (spells.of_chain grammar.binary_6 refl (spells.of_chain grammar.binary_5 refl (number_cast _)))))))))))

    pub number_assignment : (h : Context) → Spells all top (a part.Assignment) h c c d number i (i + 1)
    number_assignment h = spells.of_chain grammar.assignment_conditional refl (number_conditional _)

    pub number_expression : (h : Context) → Spells all top (a part.Expression) h c c d number i (i + 1)
    number_expression h = spells.of_chain grammar.expression_assignment refl (number_assignment _)

  -- a constant in brackets as an operand of a cast
  number_grouped : (all : List Lexeme) (c : Scopes) (d i : ℕ) → Is all i word.LeftParen → Is all (i + 1) word.Integer → Is all (i + 1 + 1) word.RightParen → Within top i d → length us ≤ i → (h : Context) →
      Spells all top (a part.Cast) h c c d (one kind.Group i (i + 1 + 1 + 1) (one kind.Integer (i + 1) (i + 1 + 1) none & none)) i (i + 1 + 1 + 1)
  number_grouped all c d i q q' q'' w le h = spells.of_chain grammar.cast_unary refl (spells.of_chain grammar.unary_postfix refl (spells.of_chain grammar.postfix_primary refl (spells.of_alternative grammar.parenthesized refl (spells.opens q w
      (spells.part (number_expression all c (d + 1) (i + 1) q' (late plain (i + 1) (d + 1) (omega arith)) _) (spells.token q'' (late plain (i + 1 + 1) (d + 1) (omega arith)) spells.done))))))

  -- a declarator with a name, in brackets
  bracketed : (all : List Lexeme) (h : Context) (c : Scopes) (d i : ℕ) → Is all i word.LeftParen → Is all (i + 1) word.Identifier → Is all (i + 1 + 1) word.RightParen → Within top i d → length us ≤ i →
      Built all top (a part.Declarator) h c d i (i + 1 + 1 + 1)
  bracketed all h c d i q q' q'' w le = (
    _,
    _,
    spells.of_chain grammar.declarator_direct refl (spells.of_alternative grammar.group_declarator refl (spells.opens q w
        (spells.part (spells.of_chain grammar.declarator_direct refl (spells.of_alternative grammar.name_declarator refl (spells.declared q' refl (late plain (i + 1) (d + 1) (omega arith)) spells.done)))
        (spells.token q'' (late plain (i + 1 + 1) (d + 1) (omega arith)) spells.done)))),
  )

  -- What a goal owes.

  abbrev pub BehindOn : Symbol → ℕ → ℕ → Scopes → ℕ → Type 0
  BehindOn x d s c i = (all : List Lexeme) → Front us all → Behind all top x d s c i

  -- declarators of a member, and its end, with the trees x before them
  abbrev pub IsMemberBegin : List Lexeme → ℕ → Scopes → ℕ → Trees → Context → Scopes → ℕ → Type 0
  IsMemberBegin all d c0 s x h c i = (h0 : Context) (u : Trees) (f : Scopes) (k : ℕ) → Spells all top (rest (list part.MemberDeclarator ∷ token word.Semicolon ∷ [])) h c f d u i k →
      Spells all top (a part.MemberDeclaration) h0 c0 f d (one kind.MemberDeclaration s k (x & u)) s k

  pub data OneDeclared (w : Wanted) (h : Context) (c : Scopes) (d i : ℕ) : Type 0 where
    one_named : may_name w ≡ true → Grown us top way (a part.Declarator) h c d i → OneDeclared w h c d i
    one_unnamed : may_omit w ≡ true → G part.Abstract d c i → OneDeclared w h c d i

  -- a declarator behind any number of `const`
  pub record OneQualified (c : Scopes) (d i : ℕ) : Type 0 where
    pub at : ℕ
    pub qualifiers : AreQualifiers us top d i at
    pub declared : (w : Wanted) (h : Context) → OneDeclared w h c d at

  pub record OneSize (c : Scopes) (d i : ℕ) : Type 0 where
    pub all : List Lexeme
    pub front : Front us all
    pub trees : Trees
    pub after : Scopes
    pub end : ℕ
    pub size : end ≡ length all
    pub beyond : length us < end
    pub next : Next all (length us) way
    pub is_size : IsSize all top d c i trees after end
    pub shown : Shown (length us) trees way

  -- declarators of a declaration with their initializers, and its end, with the trees x before them
  abbrev pub IsDeclarationBegin : List Lexeme → ℕ → Scopes → ℕ → Trees → Context → Scopes → ℕ → Type 0
  IsDeclarationBegin all d c0 s x h c i = (h0 : Context) (u : Trees) (f : Scopes) (k : ℕ) → Spells all top (rest (list part.InitDeclarator ∷ token word.Semicolon ∷ [])) h c f d u i k →
      Spells all top (a part.Declaration) h0 c0 f d (one kind.Declaration s k (x & u)) s k

  abbrev pub U : Part → ℕ → Scopes → ℕ → Type 0
  U p d c s = (h : Context) → GrownIn us top way every (a p) h c d s

  -- an initializer, or a list of them
  abbrev pub Lists : Phrase → ℕ → Scopes → ℕ → Type 0
  Lists q d c s = (h : Context) → GrownBy us top way (λ t. Started (length us) t way) q h c d s

  abbrev pub Stated : Labels → ℕ → Scopes → ℕ → Type 0
  Stated l d c s = (h : Context) → GrownIn us top way (placed l) (a part.Statement) h c d s

  abbrev pub BegunOn : Symbol → ℕ → ℕ → ℕ → Type 0
  BegunOn x d s i = (all : List Lexeme) → Front us all → Begun all top x d s i

  abbrev pub Via : Goal → Scopes → ℕ → Type 0
  Via (whole p d) c i = Unit {0}
  Via (expression d) c i = G part.Expression d c i
  Via (commas d s x) c i = (c0 : Scopes) → Reads us top part.Expression d c0 s x c i → G part.Expression d c0 s
  Via (assignment d) c i = G part.Assignment d c i
  Via (conditional d) c i = G part.Conditional d c i
  Via (m.binary p d) c i = is_level p ≡ true → G p d c i
  Via (operands p d s x) c i = is_level p ≡ true → (c0 : Scopes) → Reads us top p d c0 s x c i → G p d c0 s
  Via (cast d) c i = G part.Cast d c i
  Via (unary d) c i = G part.Unary d c i
  Via (measured d s) c i = BehindOn (grammar.opening word.Sizeof) d s c i → G part.Unary d c s
  Via (postfix d) c i = G part.Postfix d c i
  Via (called d s) c i = BehindOn symbol.Ordinary d s c i → G part.Postfix d c s
  Via (grouped d s) c i = BehindOn (grammar.opening word.LeftParen) d s c i → G part.Postfix d c s
  Via (texts d) c i = ⊥
  Via (arguments d x) c i = (h : Context) → Grown us top way (rest (inner_list part.Assignment ∷ closing word.RightParen ∷ [])) h c d i
  Via (suffixes d s x) c i = (c0 : Scopes) → Reads us top part.Postfix d c0 s x c i → G part.Postfix d c0 s
  Via (type_name d) c i = G part.TypeName d c i
  Via (row p h d) c i = Grown us top way (a (row_part p)) h c d i
  Via (more p h d s x) c i = (h0 : Context) (c0 : Scopes) → has_some x ≡ true → ((all : List Lexeme) → Front us all → IsRowBegin all top p d h0 c0 s x h c i) → Grown us top way (a (row_part p)) h0 c0 d s
  Via (element p h d) c i = Grown us top way (a (element_part p)) h c d i
  Via (structure d s) c i = BehindOn (token word.Struct) d s c i → G part.Plain d c s
  Via (members d s x) c i = (h : Context) → Grown us top way (rest (grammar.inner part.MemberDeclaration ∷ grammar.inner_many part.MemberDeclaration ∷ closing word.RightBrace ∷ [])) h c d i
  Via (member d) c i = G part.MemberDeclaration d c i
  Via (member_declarators h d s x) c i = (c0 : Scopes) → has_some x ≡ true → ((all : List Lexeme) → Front us all → IsMemberBegin all d c0 s x h c i) → G part.MemberDeclaration d c0 s
  Via (enumeration d s) c i = BehindOn (token word.Enum) d s c i → G part.Plain d c s
  Via (enumerators d s x) c i = (h : Context) → Grown us top way (rest (grammar.inner_list part.Enumerator ∷ symbol.TrailingComma ∷ [])) h c d i
  Via (enumerator d) c i = G part.Enumerator d c i
  Via (qualifiers d) c i = OneQualified c d i
  Via (declarator w h d) c i = OneDeclared w h c d i
  Via (declarator_suffixes d s x) c i = (h : Context) (c0 : Scopes) → IsOpen c → Spells us top (a part.DirectDeclarator) h c0 c d x s i → Grown us top way (a part.DirectDeclarator) h c0 d s
  Via (abstract_suffixes d s x) c i = (c0 : Scopes) → Reads us top part.DirectAbstract d c0 s x c i → G part.DirectAbstract d c0 s
  Via (size d) c i = OneSize c d i
  Via (parameters d) c i = G part.Parameters d c i
  Via (more_parameters d s x) c i = (c0 : Scopes) → IsParameterRow us top d c0 s x c i → G part.Parameters d c0 s
  Via (parameter d) c i = G part.Parameter d c i
  Via (unit l d) c i = (h : Context) → GrownIn us top way every (rest unit_side) h c d i
  Via (externals l d x) c i = (h : Context) → GrownIn us top way every (rest (many part.External ∷ [])) h c d i
  Via (external l d) c i = U part.External d c i
  Via (declaration d) c i = U part.Declaration d c i
  Via (init_declarators h d s x) c i = (c0 : Scopes) → ((all : List Lexeme) → Front us all → IsDeclarationBegin all d c0 s x h c i) → U part.Declaration d c0 s
  Via (initialized d q x) c i = (h : Context) (c0 e0 : Scopes) → IsOpen e0 → c ≡ enter (declared_name us (past_part h x)) (around e0) →
      Spells us top (a part.Declarator) h c0 e0 d x q i → GrownIn us top way every (a part.InitDeclarator) h c0 d q
  Via (initializer d) c i = Lists (a part.Initializer) d c i
  Via (initializers d s x) c i = Lists (rest (inner_list part.Initializer ∷ symbol.TrailingComma ∷ [])) d c i
  Via (statement l d) c i = Stated l d c i
  Via (block l d) c i = Stated l d ([] ∷ c) i
  Via (if_rest l d s) c i = BegunOn (token word.If) d s i → Stated l d c s
  Via (switch_rest l d s) c i = BegunOn (token word.Switch) d s i → Stated l d c s
  Via (while_rest l d s) c i = BegunOn (token word.While) d s i → Stated l d c s
  Via (do_rest l d s) c i = BegunOn (grammar.opening word.Do) d s i → Stated l d c s
  Via (for_rest l d s) c i = BegunOn (token word.For) d s i → Stated l d c s
  Via (return_rest d s) c i = BehindOn (token word.Return) d s c i → U part.Statement d c s
  Via (for_clauses l d s x) c i = 0 < length c → (h : Context) → GrownIn us top way (placed (program.inside l)) (rest after_init) h c d i
  Via (clause d) c i = (d' : ℕ) → d ≡ d' + 1 → (h : Context) → GrownIn us top way every (rest (symbol.Clause ∷ [])) h c d' i
  Via (compound l d) c i = (h : Context) → GrownIn us top way (blocked l) (a part.Compound) h c d i
  Via (items l d s x) c i = 0 < length c → (h : Context) → GrownIn us top way (placed l) (rest (grammar.inner_many part.BlockItem ∷ closing word.RightBrace ∷ symbol.Ends ∷ [])) h c d i
  Via (item l d) c i = (h : Context) → GrownIn us top way (placed l) (a part.BlockItem) h c d i

  abbrev pub Stops : ℕ → ℕ → Type 0
  Stops i d = Room us top way i d

  -- a label stands before the place that is refused there
  abbrev pub BarsBy : Bool → (Word → Bool) → ℕ → ℕ → ℕ → Type 0
  BarsBy true f n i d = Labelled us top way f n i d
  BarsBy false f n i d = Barred us top way (m.has f) n i d

  abbrev pub Bars : Test → ℕ → ℕ → ℕ → Type 0
  Bars (m.has f) n i d = BarsBy (n == 6) f n i d
  Bars x n i d = Barred us top way x n i d

  abbrev pub Refuses : ℕ → ℕ → ℕ → Type 0
  Refuses i n r = Earlier us top way n r i

  abbrev pub Crowds : ℕ → Type 0
  Crowds i = (d : ℕ) → Room us top way i d

  abbrev pub Owes : Prog → Type 0 → Scopes → ℕ → Type 0
  Owes = Fails us top Kept (Means us top) Via Stops Bars Refuses Crowds

  pub start_via : (p : Part) (d : ℕ) (c : Scopes) (i : ℕ) → Via (start_goal p d) c i → G (start_part p) d c i
  start_via part.Expression d c i v = v
  start_via part.Assignment d c i v = v
  start_via _ d c i v = v

  -- the operand of a level, from what its goal owes
  tight_via : (p : Part) → is_level p ≡ true → (d : ℕ) (c : Scopes) (i : ℕ) → Via (tighter p d) c i → G (below p) d c i
  tight_via part.LogicalOr l d c i v = v refl
  tight_via part.LogicalAnd l d c i v = v refl
  tight_via part.Or l d c i v = v refl
  tight_via part.Xor l d c i v = v refl
  tight_via part.And l d c i v = v refl
  tight_via part.Equality l d c i v = v refl
  tight_via part.Relational l d c i v = v refl
  tight_via part.Shift l d c i v = v refl
  tight_via part.Additive l d c i v = v refl
  tight_via part.Multiplicative l d c i v = v
  tight_via _ l d c i v = none_true l

  tight_means : (p : Part) → is_level p ≡ true → (d : ℕ) (c : Scopes) (i : ℕ) (t : Trees) (e : Scopes) (j : ℕ) → Means us top (tighter p d) c i t e j → Reads us top (below p) d c i t e j
  tight_means part.LogicalOr l d c i t e j x = x refl
  tight_means part.LogicalAnd l d c i t e j x = x refl
  tight_means part.Or l d c i t e j x = x refl
  tight_means part.Xor l d c i t e j x = x refl
  tight_means part.And l d c i t e j x = x refl
  tight_means part.Equality l d c i t e j x = x refl
  tight_means part.Relational l d c i t e j x = x refl
  tight_means part.Shift l d c i t e j x = x refl
  tight_means part.Additive l d c i t e j x = x refl
  tight_means part.Multiplicative l d c i t e j x = x
  tight_means _ l d c i t e j x = none_true l

  -- an operand hears nothing of what stands before
  level_hears : (p : Part) → hears (below p) ≡ false
  level_hears part.LogicalOr = refl
  level_hears _ = refl

  -- A least text of each part.

  some_postfix : (c : Scopes) (d i : ℕ) → Room us top way i d → G part.Postfix d c i
  some_postfix c d i z h = put1 z word.Integer (λ all f q le. (_, _, number_postfix all c d i q (z.fits plain d (omega arith)) h))

  some_unary : (c : Scopes) (d i : ℕ) → Room us top way i d → G part.Unary d c i
  some_unary c d i z h = put1 z word.Integer (λ all f q le. (_, _, number_unary all c d i q (z.fits plain d (omega arith)) h))

  some_cast : (c : Scopes) (d i : ℕ) → Room us top way i d → G part.Cast d c i
  some_cast c d i z h = put1 z word.Integer (λ all f q le. (_, _, number_cast all c d i q (z.fits plain d (omega arith)) h))

  pub some_conditional : (c : Scopes) (d i : ℕ) → Room us top way i d → G part.Conditional d c i
  some_conditional c d i z h = put1 z word.Integer (λ all f q le. (_, _, number_conditional all c d i q (z.fits plain d (omega arith)) h))

  pub some_assignment : (c : Scopes) (d i : ℕ) → Room us top way i d → G part.Assignment d c i
  some_assignment c d i z h = put1 z word.Integer (λ all f q le. (_, _, number_assignment all c d i q (z.fits plain d (omega arith)) h))

  pub some_expression : (c : Scopes) (d i : ℕ) → Room us top way i d → G part.Expression d c i
  some_expression c d i z h = put1 z word.Integer (λ all f q le. (_, _, number_expression all c d i q (z.fits plain d (omega arith)) h))

  some_measured : (c : Scopes) (d s i : ℕ) → Room us top way i (d + 1) → BehindOn (grammar.opening word.Sizeof) d s c i → G part.Unary d c s
  some_measured c d s i z b h =
      put1 z word.Integer (λ all f q le. (_, _, spells.of_alternative grammar.sizeof_expression refl (b all f _ _ _ _ _ (spells.part (number_unary all c (d + 1) i q (z.fits plain (d + 1) (omega arith)) _) spells.done))))

  some_grouped : (c : Scopes) (d s i : ℕ) → Room us top way i (d + 1) → BehindOn (grammar.opening word.LeftParen) d s c i → G part.Postfix d c s
  some_grouped c d s i z b h = put2 z word.Integer word.RightParen (λ all f q q' le. (
    _,
    _,
    spells.of_chain grammar.postfix_primary refl (spells.of_alternative grammar.parenthesized refl (b all f _ _ _ _ _
        (spells.part (number_expression all c (d + 1) i q (z.fits plain (d + 1) (omega arith)) _) (spells.token q' (late plain (i + 1) (d + 1) (omega arith)) spells.done)))),
  ))

  some_arguments : (c : Scopes) (d i : ℕ) → Room us top way i (d + 1) → (h : Context) → Grown us top way (rest (inner_list part.Assignment ∷ closing word.RightParen ∷ [])) h c d i
  some_arguments c d i z h = put2 z word.Integer word.RightParen (λ all f q q' le. (
    _,
    _,
    spells.list_last (number_assignment all c (d + 1) i q (z.fits plain (d + 1) (omega arith)) _) (spells.token q' (late plain (i + 1) (d + 1) (omega arith)) spells.done),
  ))

  pub some_row : (h : Context) (c : Scopes) (d i : ℕ) → Room us top way i d → Grown us top way (a part.PlainSpecifiers) h c d i
  some_row h c d i z = put1 z word.Int (λ all f q le. (_, _, spells.of_chain grammar.plain_one refl (spells.of_alternative grammar.type_int refl (spells.token q (z.fits plain d (omega arith)) spells.done))))

  some_type_name : (c : Scopes) (d i : ℕ) → Room us top way i d → G part.TypeName d c i
  some_type_name c d i z h = more0 (some_row fresh c d i z) (λ all f t e j le s shown. (_, _, spells.of_chain grammar.type_name_plain refl s, shown))

  -- a member's declarator, from one whose own scope is open
  as_member : {all : List Lexeme} {h : Context} {c e : Scopes} {d i j : ℕ} {t : Trees} → Spells all top (a part.Declarator) h c e d t i j → Spells all top (a part.MemberDeclarator) h c (around e) d t i j
  as_member {all = all} {h = h} {c = c} {d = d} {i = i} {j = j} {t = t} s = spells.member_declarator (subst (λ z. Spells all top (a part.Declarator) h c z d t i j) (owned facts.by_declarator s) s)

  -- a member, from its specifiers
  with_member : {h : Context} {c : Scopes} {d i : ℕ} → Grown us top way (a part.PlainSpecifiers) fresh c d i → Grown us top way (a part.MemberDeclaration) h c d i
  with_member {d = d} g = more4 g word.LeftParen word.Identifier word.RightParen word.Semicolon (λ all f t e j le s q1 q2 q3 q4 shown.
      let b = bracketed all (past_part fresh t) e d j q1 q2 q3 (late opens j d le) (omega arith) in (
        _,
        _,
        spells.of_alternative grammar.struct_declaration refl
            (spells.part s (spells.list_last {t = b.0} (as_member b.2) (spells.token q4 (late plain (j + 1 + 1 + 1) d (omega arith)) spells.done))),
        first shown b.0,
      ))

  some_members : (c : Scopes) (d i : ℕ) → Room us top way i (d + 1) → (h : Context) → Grown us top way (rest (grammar.inner part.MemberDeclaration ∷ grammar.inner_many part.MemberDeclaration ∷ closing word.RightBrace ∷ [])) h c d i
  some_members c d i z h = more1 (with_member (some_row fresh c (d + 1) i z)) word.RightBrace (λ all f t e j le x q1 shown. (_, _, spells.part x (spells.many_none (spells.token q1 (late plain j (d + 1) le) spells.done)), left shown _))

  some_enumerator : (c : Scopes) (d i : ℕ) → Room us top way i d → G part.Enumerator d c i
  some_enumerator c d i z h =
      put1 z word.Identifier (λ all f q le. (_, _, spells.of_alternative grammar.enumerator refl (spells.enumerates q (z.fits plain d (omega arith)) (spells.value_none spells.done))))

  some_enumerators : (c : Scopes) (d i : ℕ) → Room us top way i (d + 1) → (h : Context) → Grown us top way (rest (grammar.inner_list part.Enumerator ∷ symbol.TrailingComma ∷ [])) h c d i
  some_enumerators c d i z h = more1 (some_enumerator c (d + 1) i z _) word.RightBrace (λ all f t e j le x q1 shown. (_, _, spells.list_last x (spells.comma_none q1 (late plain j (d + 1) le) spells.done), shown))

  -- a declarator with a name or without one
  pub one_from : (w : Wanted) (h : Context) (c : Scopes) (d i : ℕ) → Room us top way i d → OneDeclared w h c d i
  one_from named h c d i z = one_named refl (put3 z word.LeftParen word.Identifier word.RightParen (λ all f q q' q'' le. bracketed all h c d i q q' q'' (z.fits opens d (omega arith)) le))
  one_from either h c d i z = one_named refl (put3 z word.LeftParen word.Identifier word.RightParen (λ all f q q' q'' le. bracketed all h c d i q q' q'' (z.fits opens d (omega arith)) le))
  one_from unnamed h c d i z = one_unnamed refl (λ h'. put1 z word.Star (λ all f q le. (_, _, spells.of_alternative grammar.abstract_pointer refl (spells.opens q (z.fits opens d (omega arith)) (spells.qualified_none qualifiers_none)))))

  some_size : (c : Scopes) (d i : ℕ) → Room us top way i (d + 1) → OneSize c d i
  some_size c d i z =
      let e = z.here in
      let x = longer us i e word.RightBracket in
      record {
        all = x.all;
        front = x.front;
        trees = none;
        after = c;
        end = i + 1;
        size = x.size;
        beyond = omega arith;
        next = next_free z.free;
        is_size = means.unsized x.word (z.fits plain (d + 1) (omega arith));
        shown = shown_free z.free;
      }

  some_parameters : (c : Scopes) (d i : ℕ) → Room us top way i d → G part.Parameters d c i
  some_parameters c d i z h = put1 z word.Int (λ all f q le. (
    _,
    _,
    spells.of_chain grammar.parameters_one refl (spells.of_chain grammar.parameter_unnamed refl (spells.of_chain grammar.specifiers_one refl (spells.of_chain grammar.specifier_plain refl
        (spells.of_alternative grammar.type_int refl (spells.token q (z.fits plain d (omega arith)) spells.done))))),
  ))

  -- Expressions.

  pub owes_expression : (d : ℕ) (c : Scopes) (i : ℕ) → Owes (body (expression d)) (Via (expression d) c i) c i
  owes_expression d c i = (
    λ v h. more0 (v _) (λ all f t e j le s shown. (_, _, spells.of_chain grammar.expression_assignment refl s, shown)),
    λ t e j _ _ x. (λ v. v c (λ h. spells.of_chain grammar.expression_assignment refl (x _)), λ t' e' j' _ _ _. tt),
  )

  pub owes_commas : (d s : ℕ) (y : Trees) (c : Scopes) (i : ℕ) → Owes (body (commas d s y)) (Via (commas d s y) c i) c i
  owes_commas d s y c i = (
    tt,
    λ q w. (
      λ v c0 z h. more0 (v _) (λ all f t e j le x shown. (_, _, spells.of_alternative grammar.comma refl (spells.part (weaken f (z _)) (spells.token (f.words _ _ q) w (spells.part x spells.done))), second y shown _)),
      λ t e j _ _ x. (λ v c0 z. v c0 (λ h. spells.of_alternative grammar.comma refl (spells.part (z _) (spells.token q w (spells.part (x _) spells.done)))), λ t' e' j' _ _ _. tt),
    ),
    tt,
  )

  pub owes_assignment : (d : ℕ) (c : Scopes) (i : ℕ) → Owes (body (assignment d)) (Via (assignment d) c i) c i
  owes_assignment d c i = (
    λ v h. more0 (v _) (λ all f t e j le s shown. (_, _, spells.of_chain grammar.assignment_conditional refl s, shown)),
    λ t e j _ _ x. (
      λ u. words_fail us top Kept (Means us top) Via Stops Bars Refuses Crowds opens d (assigned d i t) (give t) (G part.Assignment d c i) e j Assigns assignment_rows
          (λ k z. some_assignment e (d + 1) (j + 1) (z (d + 1)))
          (λ w k r q v. (
            λ y h. more0 (y _) (λ all f t' e' j' le s shown. (
              _,
              _,
              spells.of_alternative r.0 (r.1 _) (spells.part (weaken f (unary_in facts.conditional u (x fresh))) (spells.opens (f.words _ _ q) v (spells.part s spells.done))),
              second t shown _,
            )),
            λ t' e' j' _ _ _. tt,
          )) tt,
      λ u. tt,
    ),
  )

  pub owes_conditional : (d : ℕ) (c : Scopes) (i : ℕ) → Owes (body (conditional d)) (Via (conditional d) c i) c i
  owes_conditional d c i = (
    λ v h. more0 (v refl _) (λ all f t e j le s shown. (_, _, spells.of_chain grammar.conditional_binary refl s, shown)),
    λ t e j _ _ x. (
      λ z. some_expression e (d + 1) (j + 1) (z (d + 1)),
      λ q w. (
        λ v h. more2 (v _) word.Colon word.Integer (λ all f t' e' j' le s q1 q2 shown. (
          _,
          _,
          spells.of_alternative grammar.conditional refl (spells.part (weaken f (x refl _)) (spells.opens (f.words _ _ q) w (spells.part s
              (spells.reopens q1 (late plain j' (d + 1) le) (late opens j' d le) (spells.part (number_conditional all e' (d + 1) (j' + 1) q2 (late plain (j' + 1) (d + 1) (omega arith)) _) spells.done))))),
          second t shown _,
        )),
        λ t' e' j' _ _ x'. (
          λ z. some_conditional e' (d + 1) (j' + 1) (z (d + 1)),
          λ q' w'. (
            λ v h. more0 (v _) (λ all f t'' e'' j'' le s shown. (
              _,
              _,
              spells.of_alternative grammar.conditional refl (spells.part (weaken f (x refl _)) (spells.opens (f.words _ _ q) w
                  (spells.part (weaken f (x' _)) (spells.reopens (f.words _ _ q') w'.0 w'.1 (spells.part s spells.done))))),
              third t t' shown _,
            )),
            λ t'' e'' j'' _ _ _. tt,
          ),
          λ z h. put2 z word.Colon word.Integer (λ all f q1 q2 le. (
            _,
            _,
            spells.of_alternative grammar.conditional refl (spells.part (weaken f (x refl _)) (spells.opens (f.words _ _ q) w
                (spells.part (weaken f (x' _)) (spells.reopens q1 (z.fits plain (d + 1) (omega arith)) (z.fits opens d (omega arith)) (spells.part (number_conditional all e' (d + 1) (j' + 1) q2 (late plain (j' + 1) (d + 1) (omega arith)) _) spells.done))))),
          )),
        ),
      ),
      tt,
    ),
  )

  pub owes_binary : (p : Part) (d : ℕ) (c : Scopes) (i : ℕ) → Owes (body (m.binary p d)) (Via (m.binary p d) c i) c i
  owes_binary p d c i = (
    λ v l h. more0 (tight_via p l d c i v fresh) (λ all f t e j le s shown. (_, _, level_chain p l s h, shown)),
    λ t e j _ _ x. (λ v l. v l c (level_up us top p d c i t e j l x), λ t' e' j' _ _ _. tt),
  )

  pub owes_operands : (p : Part) (d s : ℕ) (y : Trees) (c : Scopes) (i : ℕ) → Owes (body (operands p d s y)) (Via (operands p d s y) c i) c i
  owes_operands p d s y c i = words_fail us top Kept (Means us top) Via Stops Bars Refuses Crowds plain d (operated p d s y) (give y) (Via (operands p d s y) c i) c i (Joins p) (join_rows p) (λ k. tt)
      (λ w k r q v. (
        λ z l c0 x h. more0 (tight_via p l d c (i + 1) z fresh) (λ all f t e j le u shown. (
          _,
          _,
          r all top d c0 c e s i j y t (λ h'. weaken f (x h')) (f.words _ _ q) v (λ h'. unheard (level_hears p) u h') h,
          second y shown _,
        )),
        λ t e j _ _ x. (λ z l c0 g. z l c0 (r us top d c0 c e s i j y t g q v (tight_means p l d c (i + 1) t e j x)), λ t' e' j' _ _ _. tt),
      )) tt

  pub owes_cast : (d : ℕ) (c : Scopes) (i : ℕ) → Owes (body (cast d)) (Via (cast d) c i) c i
  owes_cast d c i = (
    λ z. some_type_name c (d + 1) (i + 1) (z (d + 1)),
    λ q w. (
      λ _. (
        λ v h. more2 (v _) word.RightParen word.Integer (λ all f t e j le s q1 q2 shown. (
          _,
          _,
          spells.of_alternative grammar.cast refl (spells.opens (f.words _ _ q) w (spells.part s
              (spells.reopens q1 (late plain j (d + 1) le) (late opens j d le) (spells.part (number_cast all e (d + 1) (j + 1) q2 (late plain (j + 1) (d + 1) (omega arith)) _) spells.done)))),
          first shown _,
        )),
        λ t e j le _ x. (
          λ z. some_cast e (d + 1) (j + 1) (z (d + 1)),
          λ q' w'. (
            λ z h. grown3 z.here word.LeftParen word.Integer word.RightParen (λ all r. next_so z.so (next_literal r)) (λ all f q1 q2 q3 le. (
              _,
              _,
              spells.of_alternative grammar.cast refl (spells.opens (f.words _ _ q) w (spells.part (weaken f (x _))
                  (spells.reopens (f.words _ _ q') w'.0 w'.1 (spells.part (number_grouped all e (d + 1) (j + 1) q1 q2 q3 (z.fits opens (d + 1) (omega arith)) le _) spells.done)))),
              shown_so z.so (shown_literal (has_here (operand_begins (is_one (x fresh)).2 z.here kind.Group _ i _ _))),
            )),
            (
              λ v h. more0 (v _) (λ all f t' e' j' le s shown. (
                _,
                _,
                spells.of_alternative grammar.cast refl (spells.opens (f.words _ _ q) w (spells.part (weaken f (x _))
                    (spells.reopens (f.words _ _ q') w'.0 w'.1 (spells.part s spells.done)))),
                second t shown _,
              )),
              λ t' e' j' _ _ _. tt,
            ),
          ),
          λ z h. put2 z word.RightParen word.Integer (λ all f q1 q2 le. (
            _,
            _,
            spells.of_alternative grammar.cast refl (spells.opens (f.words _ _ q) w (spells.part (weaken f (x _))
                (spells.reopens q1 (z.fits plain (d + 1) (omega arith)) (z.fits opens d (omega arith)) (spells.part (number_cast all e (d + 1) (j + 1) q2 (late plain (j + 1) (d + 1) (omega arith)) _) spells.done)))),
          )),
        ),
      ),
      (
        λ v h. more0 (v (λ all f r h e t j z. spells.opens (f.words _ _ q) w z) _) (λ all f t e j le s shown. (_, _, spells.of_chain grammar.cast_unary refl (spells.of_chain grammar.unary_postfix refl s), shown)),
        λ t e j _ _ _. tt,
      ),
    ),
    (λ v h. more0 (v _) (λ all f t e j le s shown. (_, _, spells.of_chain grammar.cast_unary refl s, shown)), λ t e j _ _ _. tt),
  )

  pub owes_unary : (d : ℕ) (c : Scopes) (i : ℕ) → Owes (body (unary d)) (Via (unary d) c i) c i
  owes_unary d c i = words_fail us top Kept (Means us top) Via Stops Bars Refuses Crowds opens d (prefixed (unary (d + 1)) i) (choose opens cast_prefixes d (prefixed (cast (d + 1)) i) (sized d i)) (Via (unary d) c i) c i (Prefixes part.Unary) unary_rows
      (λ k z. some_unary c (d + 1) (i + 1) (z (d + 1)))
      (λ w k r q v. (λ y h. more0 (y _) (λ all f t e j le s shown. (_, _, spells.of_alternative r.0 (r.1 _) (spells.opens (f.words _ _ q) v (spells.part s spells.done)), first shown _)), λ t e j _ _ _. tt))
      (words_fail us top Kept (Means us top) Via Stops Bars Refuses Crowds opens d (prefixed (cast (d + 1)) i) (sized d i) (Via (unary d) c i) c i (Prefixes part.Cast) cast_rows
      (λ k z. some_cast c (d + 1) (i + 1) (z (d + 1)))
      (λ w k r q v. (λ y h. more0 (y _) (λ all f t e j le s shown. (_, _, spells.of_alternative r.0 (r.1 _) (spells.opens (f.words _ _ q) v (spells.part s spells.done)), first shown _)), λ t e j _ _ _. tt)) (
        λ z. some_measured c d i (i + 1) (z (d + 1)),
        λ q w. (λ v. v (λ all f r h e t j z. spells.opens (f.words _ _ q) w z), λ t e j _ _ _. tt),
        (λ v h. more0 (v _) (λ all f t e j le s shown. (_, _, spells.of_chain grammar.unary_postfix refl s, shown)), λ t e j _ _ _. tt),
      ))

  pub owes_measured : (d s : ℕ) (c : Scopes) (i : ℕ) → Owes (body (measured d s)) (Via (measured d s) c i) c i
  owes_measured d s c i = (
    λ z. some_type_name c (d + 1 + 1) (i + 1) (z (d + 1 + 1)),
    λ q w. (
      λ _. (
        λ v b h. more1 (v _) word.RightParen (λ all f t e j le x q1 shown. (
          _,
          _,
          spells.of_alternative grammar.sizeof_type refl (b all f _ _ _ _ _ (spells.opens (f.words _ _ q) w (spells.part x (spells.token q1 (late plain j (d + 1 + 1) le) spells.done)))),
          first shown _,
        )),
        λ t e j _ _ x. (
          tt,
          λ q' w'. tt,
          λ z b h. put1 z word.RightParen (λ all f q1 le. (
            _,
            _,
            spells.of_alternative grammar.sizeof_type refl (b all f _ _ _ _ _ (spells.opens (f.words _ _ q) w
                (spells.part (weaken f (x _)) (spells.token q1 (z.fits plain (d + 1 + 1) (omega arith)) spells.done)))),
          )),
        ),
      ),
      (
        λ v b h. more0 (v (λ all f r h e t j z. spells.opens (f.words _ _ q) w z) _) (λ all f t e j le x shown. (
          _,
          _,
          spells.of_alternative grammar.sizeof_expression refl (b all f _ _ _ _ _ (spells.part (spells.of_chain grammar.unary_postfix refl x) spells.done)),
          first shown _,
        )),
        λ t e j _ _ _. tt,
      ),
    ),
    (λ v b h. more0 (v _) (λ all f t e j le x shown. (_, _, spells.of_alternative grammar.sizeof_expression refl (b all f _ _ _ _ _ (spells.part x spells.done)), first shown _)), λ t e j _ _ _. tt),
  )

  pub owes_postfix : (d : ℕ) (c : Scopes) (i : ℕ) → Owes (body (postfix d)) (Via (postfix d) c i) c i
  owes_postfix d c i = (
    tt,
    λ q w. (λ v. v (λ all f r h e t j z. spells.ordinary (weaken_name c i f q) w z), λ t e j _ _ _. tt),
    words_fail us top Kept (Means us top) Via Stops Bars Refuses Crowds plain d (suffixed d i none) (other_primary d i) (Via (postfix d) c i) c i IsConstant constant_rows (λ k. tt)
        (λ w k r q v. (λ y. y c (λ h. spells.of_chain grammar.postfix_primary refl (spells.of_alternative r.0 (r.1 _) (spells.token q v spells.done))), λ t e j _ _ _. tt)) (
          tt,
          λ q w. (
            λ v. absurd v,
            λ t e j _ _ x. (
              λ y. y c (λ h. subst (λ z. Spells us top (a part.Postfix) h c z d (one kind.Text i j none) i j) x.0
                  (spells.of_chain grammar.postfix_primary refl (spells.of_alternative grammar.string_literal refl (x.1 i (λ h. spells.texts_one q w) (λ h k z. spells.texts_more q w z) _)))),
              λ t' e' j' _ _ _. tt,
            ),
          ),
          (
            λ z. some_grouped c d i (i + 1) (z (d + 1)),
            λ q w. (λ v. v (λ all f r h e t j z. spells.opens (f.words _ _ q) w z), λ t e j _ _ _. tt),
            λ z. some_postfix c d i z,
          ),
        ),
  )

  pub owes_called : (d s : ℕ) (c : Scopes) (i : ℕ) → Owes (body (called d s)) (Via (called d s) c i) c i
  owes_called d s c i = (
    λ z. some_arguments c d (i + 1) (z (d + 1)),
    λ q w. (
      tt,
      λ q' w'. (λ v b. v c (λ h. spells.of_alternative grammar.call refl (b us (front_itself us) _ _ _ _ _ (spells.opens q w (spells.list_none (spells.token q' w' spells.done))))), λ t e j _ _ _. tt),
      (
        λ v b h. more0 (v _) (λ all f t e j le x shown. (_, _, spells.of_alternative grammar.call refl (b all f _ _ _ _ _ (spells.opens (f.words _ _ q) w (spells.list_some x))), inside shown)),
        λ t e j _ _ x. (
          λ v b. v c (λ h. subst (λ y. Spells us top (a part.Postfix) h c e d (one kind.Call s j y) s j) (sym x.1)
              (spells.of_alternative grammar.call refl (b us (front_itself us) _ _ _ _ _ (spells.opens q w (spells.list_some (x.2 _)))))),
          λ t' e' j' _ _ _. tt,
        ),
      ),
    ),
    (λ v b. v c (λ h. spells.of_chain grammar.postfix_primary refl (spells.of_alternative grammar.identifier refl (b us (front_itself us) _ _ _ _ _ spells.done))), λ t e j _ _ _. tt),
  )

  pub owes_grouped : (d s : ℕ) (c : Scopes) (i : ℕ) → Owes (body (grouped d s)) (Via (grouped d s) c i) c i
  owes_grouped d s c i = (
    λ v b h. more1 (v _) word.RightParen (λ all f t e j le x q1 shown. (
      _,
      _,
      spells.of_chain grammar.postfix_primary refl (spells.of_alternative grammar.parenthesized refl (b all f _ _ _ _ _ (spells.part x (spells.token q1 (late plain j (d + 1) le) spells.done)))),
      first shown _,
    )),
    λ t e j _ _ x. (
      tt,
      λ q w. (λ v b. v c (λ h. spells.of_chain grammar.postfix_primary refl (spells.of_alternative grammar.parenthesized refl (b us (front_itself us) _ _ _ _ _ (spells.part (x _) (spells.token q w spells.done))))), λ t' e' j' _ _ _. tt),
      λ z b h. put1 z word.RightParen (λ all f q1 le. (
        _,
        _,
        spells.of_chain grammar.postfix_primary refl (spells.of_alternative grammar.parenthesized refl (b all f _ _ _ _ _ (spells.part (weaken f (x _)) (spells.token q1 (z.fits plain (d + 1) (omega arith)) spells.done)))),
      )),
    ),
  )

  pub owes_arguments : (d : ℕ) (y : Trees) (c : Scopes) (i : ℕ) → Owes (body (arguments d y)) (Via (arguments d y) c i) c i
  owes_arguments d y c i = (
    λ v h. more1 (v _) word.RightParen (λ all f t e j le x q1 shown. (_, _, spells.list_last x (spells.token q1 (late plain j (d + 1) le) spells.done), shown)),
    λ t e j _ _ x. (
      tt,
      λ q w. (λ v h. more0 (v _) (λ all f t' e' j' le z shown. (_, _, spells.list_more (weaken f (x _)) (f.words _ _ q) w z, right t shown)), λ t' e' j' _ _ _. tt),
      (tt, λ q w. tt, λ z h. put1 z word.RightParen (λ all f q1 le. (_, _, spells.list_last (weaken f (x _)) (spells.token q1 (z.fits plain (d + 1) (omega arith)) spells.done)))),
    ),
  )

  pub owes_suffixes : (d s : ℕ) (y : Trees) (c : Scopes) (i : ℕ) → Owes (body (suffixes d s y)) (Via (suffixes d s y) c i) c i
  owes_suffixes d s y c i = (
    λ z. some_expression c (d + 1) (i + 1) (z (d + 1)),
    λ q w. (
      λ v c0 z h. more1 (v _) word.RightBracket (λ all f t e j le x q1 shown. (
        _,
        _,
        spells.of_alternative grammar.subscript refl (spells.part (weaken f (z _)) (spells.opens (f.words _ _ q) w (spells.part x (spells.token q1 (late plain j (d + 1) le) spells.done)))),
        second y shown _,
      )),
      λ t e j _ _ x. (
        tt,
        λ q' w'. (λ v c0 z. v c0 (λ h. spells.of_alternative grammar.subscript refl (spells.part (z _) (spells.opens q w (spells.part (x _) (spells.token q' w' spells.done))))), λ t' e' j' _ _ _. tt),
        λ z c0 g h. put1 z word.RightBracket (λ all f q1 le. (
          _,
          _,
          spells.of_alternative grammar.subscript refl (spells.part (weaken f (g _)) (spells.opens (f.words _ _ q) w (spells.part (weaken f (x _)) (spells.token q1 (z.fits plain (d + 1) (omega arith)) spells.done)))),
        )),
      ),
    ),
    (
      tt,
      λ q w. (
        tt,
        λ q' w'. (λ v c0 z. v c0 (λ h. spells.of_alternative grammar.member refl (spells.part (z _) (spells.token q w (spells.token q' w' spells.done)))), λ t e j _ _ _. tt),
        λ z c0 g h. put1 z word.Identifier (λ all f q1 le. (_, _, spells.of_alternative grammar.member refl (spells.part (weaken f (g _)) (spells.token (f.words _ _ q) w (spells.token q1 (z.fits plain d (omega arith)) spells.done))))),
      ),
      (
        tt,
        λ q w. (
          tt,
          λ q' w'. (λ v c0 z. v c0 (λ h. spells.of_alternative grammar.pointer_member refl (spells.part (z _) (spells.token q w (spells.token q' w' spells.done)))), λ t e j _ _ _. tt),
          λ z c0 g h. put1 z word.Identifier (λ all f q1 le. (_, _, spells.of_alternative grammar.pointer_member refl (spells.part (weaken f (g _)) (spells.token (f.words _ _ q) w (spells.token q1 (z.fits plain d (omega arith)) spells.done))))),
        ),
        words_fail us top Kept (Means us top) Via Stops Bars Refuses Crowds plain d (suffixed d s (y & none)) (suffixes_end d y) (Via (suffixes d s y) c i) c i Follows postfix_rows (λ k. tt)
            (λ w k r q v. (λ z c0 g. z c0 (λ h. spells.of_alternative r.0 (r.1 _) (spells.part (g _) (spells.token q v spells.done))), λ t e j _ _ _. tt))
            (λ u. tt, λ u. (λ z c0 g h. subscripted u z g h, tt)),
      ),
    ),
  )
    where
      -- a subscript in the place of the refused call
      subscripted : is_identifier y ≡ false → Barred us top way (the word.LeftParen) 4 i d → {c0 : Scopes} → Reads us top part.Postfix d c0 s y c i → (h : Context) → Grown us top way (a part.Postfix) h c0 d s
      subscripted u z g h = grown3 z.here word.LeftBracket word.Integer word.RightBracket (λ all r. next_so z.so (next_call r)) (λ all f q1 q2 q3 le. (
        _,
        _,
        spells.of_alternative grammar.subscript refl (spells.part (weaken f (g _)) (spells.opens q1 (z.fits opens d (omega arith))
            (spells.part (number_expression all c (d + 1) (i + 1) q2 (late plain (i + 1) (d + 1) (omega arith)) _) (spells.token q3 (late plain (i + 1 + 1) (d + 1) (omega arith)) spells.done)))),
        shown_so z.so (shown_call (has_inside (has_left (postfix_ends (g fresh) u z.here) _))),
      ))

  -- Type names and specifiers.

  one_abstract : {h : Context} {c : Scopes} {d i : ℕ} → OneDeclared unnamed h c d i → G part.Abstract d c i
  one_abstract (one_named y g) = none_true y
  one_abstract (one_unnamed y g) = g

  pub one_declarator : {h : Context} {c : Scopes} {d i : ℕ} → OneDeclared named h c d i → Grown us top way (a part.Declarator) h c d i
  one_declarator (one_named y g) = g
  one_declarator (one_unnamed y g) = none_true y

  pub owes_type_name : (d : ℕ) (c : Scopes) (i : ℕ) → Owes (body (type_name d)) (Via (type_name d) c i) c i
  owes_type_name d c i = (
    λ v h. more0 v (λ all f t e j le s shown. (_, _, spells.of_chain grammar.type_name_plain refl s, shown)),
    λ t e j _ _ x. (
      λ _. (λ v h. more0 (one_abstract v _) (λ all f t' e' j' le s shown. (_, _, spells.of_alternative grammar.type_name refl (spells.part (weaken f x) (spells.part s spells.done)), second t shown _)), λ t' e' j' _ _ _. tt),
      tt,
    ),
  )

  -- a row of specifiers with one more
  row_more : (p : Part) (y : Trees) {all : List Lexeme} {h0 h : Context} {c0 c e f : Scopes} {d s i j k : ℕ} {t u : Trees} → IsRowBegin all top p d h0 c0 s y h c i → Spells all top (a (element_part p)) h c e d t i j →
      Spells all top (rest (many (element_part p) ∷ [])) (past_part h t) e f d u j k → Spells all top (rest (many (element_part p) ∷ [])) h0 c0 f d ((y & t & none) & u) s k
  row_more p y {all = all} {h0 = h0} {c0 = c0} {f = f} {d = d} {s = s} {k = k} {t = t} {u = u} b x z =
      subst (λ v. Spells all top (rest (many (element_part p) ∷ [])) h0 c0 f d v s k) (sym (pushed y t u)) (b _ _ _ (spells.many_more x z))

  pub owes_row : (p : Part) (h : Context) (d : ℕ) (c : Scopes) (i : ℕ) → Owes (body (row p h d)) (Via (row p h d) c i) c i
  owes_row p h d c i = (
    λ v. more0 v (λ all f t e j le s shown. (_, _, row_alone all top p s, shown)),
    λ t e j _ _ x. (λ v. v h c (part_some x none) (λ all f u g k z. subst (λ y. Spells all top (rest (many (element_part p) ∷ [])) h c g d y i k) (sym (and_and t none u)) (spells.many_more (weaken f x) z)), λ t' e' j' _ _ _. tt),
  )

  pub owes_more : (p : Part) (h : Context) (d s : ℕ) (y : Trees) (c : Scopes) (i : ℕ) → Owes (body (more p h d s y)) (Via (more p h d s y) c i) c i
  owes_more p h d s y c i = (
    λ _. (
      λ v h0 c0 n b. more0 v (λ all f t e j le x shown. (
        _,
        _,
        row_made all top p (pushed_some y (t & none) n)
            (subst (λ z. Spells all top (rest (many (element_part p) ∷ [])) h0 c0 e d z s j) (and_none (y & t & none)) (row_more p y (b all f) x (spells.many_none spells.done))),
        row_shown p s j (y & t & none) (right y (left shown none)),
      )),
      λ t e j _ _ x. (λ v h0 c0 n b. v h0 c0 (pushed_some y (t & none) n) (λ all f u g k z. row_more p y (b all f) (weaken f x) z), λ t' e' j' _ _ _. tt),
    ),
    tt,
  )

  pub owes_element : (p : Part) (h : Context) (d : ℕ) (c : Scopes) (i : ℕ) → Owes (body (element p h d)) (Via (element p h d) c i) c i
  owes_element p h d c i = words_fail us top Kept (Means us top) Via Stops Bars Refuses Crowds plain d (λ k. made k i none) (other_element h d i) (Via (element p h d) c i) c i (Specifies us top p) (specifier_rows us top p) (λ k. tt) (λ w k r q v. tt) (
    tt,
    λ q w. (λ v. more0 (v (λ all f r h e t j z. spells.token (f.words _ _ q) w z) h) (λ all f t e j le s shown. (_, _, plain_up all top p s, shown)), λ t e j _ _ _. tt),
    (
      tt,
      λ q w. (λ v. more0 (v (λ all f r h e t j z. spells.token (f.words _ _ q) w z) h) (λ all f t e j le s shown. (_, _, plain_up all top p s, shown)), λ t e j _ _ _. tt),
      (tt, λ q w. tt, λ z. put1 z word.Int (λ all f q le. (_, _, plain_up all top p (spells.of_alternative grammar.type_int refl (spells.token q (z.fits plain d (omega arith)) spells.done))))),
    ),
  )

  pub owes_structure : (d s : ℕ) (c : Scopes) (i : ℕ) → Owes (body (structure d s)) (Via (structure d s) c i) c i
  owes_structure d s c i = (
    tt,
    λ q w. (
      λ z. some_members c d (i + 1 + 1) (z (d + 1)),
      λ q' w'. (
        λ v b h. more0 (v _) (λ all f t e j le x shown. (_, _, spells.of_alternative grammar.struct_content refl (b all f _ _ _ _ _ (spells.tag_some (f.words _ _ q) w (f.words _ _ q') w' x)), inside shown)),
        λ t e j _ _ _. tt,
      ),
      tt,
    ),
    (
      λ z. some_members c d (i + 1) (z (d + 1)),
      λ q w. (λ v b h. more0 (v _) (λ all f t e j le x shown. (_, _, spells.of_alternative grammar.struct_content refl (b all f _ _ _ _ _ (spells.tag_none (f.words _ _ q) w x)), inside shown)), λ t e j _ _ _. tt),
      λ z b h. put1 z word.Identifier (λ all f q le. (_, _, spells.of_alternative grammar.struct_tag refl (b all f _ _ _ _ _ (spells.token q (z.fits plain d (omega arith)) spells.done)))),
    ),
  )

  pub owes_members : (d s : ℕ) (y : Trees) (c : Scopes) (i : ℕ) → Owes (body (members d s y)) (Via (members d s y) c i) c i
  owes_members d s y c i = (
    λ v h. more1 (v _) word.RightBrace (λ all f t e j le x q1 shown. (_, _, spells.part x (spells.many_none (spells.token q1 (late plain j (d + 1) le) spells.done)), left shown _)),
    λ t e j _ _ x. (tt, λ q w. tt, (λ v h. more0 (v _) (λ all f t' e' j' le z shown. (_, _, spells.part (weaken f (x _)) (many_of z), right t shown)), λ t' e' j' _ _ _. tt)),
  )

  pub owes_member : (d : ℕ) (c : Scopes) (i : ℕ) → Owes (body (member d)) (Via (member d) c i) c i
  owes_member d c i = (
    λ v h. with_member v,
    λ t e j _ _ x. (
      λ v. v c (part_some x none) (λ all f h0 u g k z. subst (λ y. Spells all top (a part.MemberDeclaration) h0 c g d (one kind.MemberDeclaration i k y) i k) (sym (and_and t none u))
          (spells.of_alternative grammar.struct_declaration refl (spells.part (weaken f x) z))),
      λ t' e' j' _ _ _. tt,
    ),
  )

  pub owes_member_declarators : (h : Context) (d s : ℕ) (y : Trees) (c : Scopes) (i : ℕ) → Owes (body (member_declarators h d s y)) (Via (member_declarators h d s y) c i) c i
  owes_member_declarators h d s y c i = (
    λ v c0 n b h0. more1 (one_declarator v) word.Semicolon (λ all f t e j le x q1 shown. (_, _, b all f h0 _ _ _ (spells.list_last (as_member x) (spells.token q1 (late plain j d le) spells.done)), inside (right y shown))),
    λ t e j _ _ x. (
      λ z c0 n b h0. grown1 z.here word.Semicolon (λ all r. next_so z.so (next_field r)) (λ all f q1 le. (
        _,
        _,
        b all f h0 _ _ _ (spells.list_last (weaken f (dropped_member us top x)) (spells.token q1 (z.fits plain d (omega arith)) spells.done)),
        shown_so z.so (shown_field (has_here (declarator_ends y n (is_one (dropped_member us top x)).2 z.here s (j + 1)))),
      )),
      (
        tt,
        λ q w. (
          λ v c0 n b. v c0 (pushed_some y (t & none) n) (λ all f h0 u g k z. subst (λ v. Spells all top (a part.MemberDeclaration) h0 c0 g d (one kind.MemberDeclaration s k v) s k) (sym (pushed y t u))
              (b all f h0 _ _ _ (spells.list_more (weaken f (dropped_member us top x)) (f.words _ _ q) w z))),
          λ t' e' j' _ _ _. tt,
        ),
        (tt, λ q w. tt, λ z c0 n b h0. put1 z word.Semicolon (λ all f q1 le. (_, _, b all f h0 _ _ _ (spells.list_last (weaken f (dropped_member us top x)) (spells.token q1 (z.fits plain d (omega arith)) spells.done))))),
      ),
    ),
  )

  pub owes_enumeration : (d s : ℕ) (c : Scopes) (i : ℕ) → Owes (body (enumeration d s)) (Via (enumeration d s) c i) c i
  owes_enumeration d s c i = (
    tt,
    λ q w. (
      λ z. some_enumerators c d (i + 1 + 1) (z (d + 1)),
      λ q' w'. (
        λ v b h. more0 (v _) (λ all f t e j le x shown. (_, _, spells.of_alternative grammar.enum_content refl (b all f _ _ _ _ _ (spells.tag_some (f.words _ _ q) w (f.words _ _ q') w' x)), inside shown)),
        λ t e j _ _ _. tt,
      ),
      tt,
    ),
    (
      λ z. some_enumerators c d (i + 1) (z (d + 1)),
      λ q w. (λ v b h. more0 (v _) (λ all f t e j le x shown. (_, _, spells.of_alternative grammar.enum_content refl (b all f _ _ _ _ _ (spells.tag_none (f.words _ _ q) w x)), inside shown)), λ t e j _ _ _. tt),
      λ z b h. put1 z word.Identifier (λ all f q le. (_, _, spells.of_alternative grammar.enum_tag refl (b all f _ _ _ _ _ (spells.token q (z.fits plain d (omega arith)) spells.done)))),
    ),
  )

  pub owes_enumerators : (d s : ℕ) (y : Trees) (c : Scopes) (i : ℕ) → Owes (body (enumerators d s y)) (Via (enumerators d s y) c i) c i
  owes_enumerators d s y c i = (
    λ v h. more1 (v _) word.RightBrace (λ all f t e j le x q1 shown. (_, _, spells.list_last x (spells.comma_none q1 (late plain j (d + 1) le) spells.done), shown)),
    λ t e j _ _ x. (
      tt,
      λ q w. (tt, λ q' w'. tt, (λ v h. more0 (v _) (λ all f t' e' j' le z shown. (_, _, spells.list_more (weaken f (x _)) (f.words _ _ q) w z, right t shown)), λ t' e' j' _ _ _. tt)),
      (tt, λ q w. tt, λ z h. put1 z word.RightBrace (λ all f q1 le. (_, _, spells.list_last (weaken f (x _)) (spells.comma_none q1 (z.fits plain (d + 1) (omega arith)) spells.done)))),
    ),
  )

  pub owes_enumerator : (d : ℕ) (c : Scopes) (i : ℕ) → Owes (body (enumerator d)) (Via (enumerator d) c i) c i
  owes_enumerator d c i = (
    tt,
    λ q w. (
      tt,
      λ q' w'. (λ v h. more0 (v _) (λ all f t e j le x shown. (_, _, spells.of_alternative grammar.enumerator refl (spells.enumerates (f.words _ _ q) w (spells.value_some (f.words _ _ q') w' x spells.done)), first shown _)), λ t e j _ _ _. tt),
      tt,
    ),
    λ z. some_enumerator c d i z,
  )

  -- Declarators.

  one_pointer : (w : Wanted) (h : Context) (d : ℕ) (c : Scopes) (i : ℕ) → Is us i word.Star → Within top i d → {e : Scopes} {j : ℕ} → (c ≡ e) × AreQualifiers us top (d + 1) (i + 1) j → OneDeclared w (past_token h) e (d + 1) j → OneDeclared w h c d i
  one_pointer w h d c i q v {j = k} x (one_named y g) = one_named y (more0 g (λ all f t e j le s shown. (
    _,
    _,
    spells.of_alternative grammar.pointer_declarator refl (spells.opens (f.words _ _ q) v
        (spells.qualified (weaken_qualifiers f x.1) (subst (λ z. Spells all top (a part.Declarator) (past_token h) z e (d + 1) t k j) (sym x.0) s))),
    inside shown,
  )))
  one_pointer w h d c i q v {j = k} x (one_unnamed y g) = one_unnamed y (λ h'. more0 (g (past_token fresh)) (λ all f t e j le s shown. (
    _,
    _,
    spells.of_alternative grammar.abstract_pointer refl (spells.opens (f.words _ _ q) v
        (spells.qualified_some (weaken_qualifiers f x.1) (subst (λ z. Spells all top (a part.Abstract) (past_token fresh) z e (d + 1) t k j) (sym x.0) s))),
    inside shown,
  )))

  one_group : (w : Wanted) (h : Context) (d : ℕ) (c : Scopes) (i : ℕ) → Is us i word.LeftParen → Within top i d → OneDeclared w (past_token h) c (d + 1) (i + 1) → OneDeclared w h c d i
  one_group w h d c i q v (one_named y g) = one_named y (more1 g word.RightParen (λ all f t e j le s q1 shown. (
    _,
    _,
    spells.of_chain grammar.declarator_direct refl (spells.of_alternative grammar.group_declarator refl
        (spells.opens (f.words _ _ q) v (spells.part s (spells.token q1 (late plain j (d + 1) le) spells.done)))),
    first shown _,
  )))
  one_group w h d c i q v (one_unnamed y g) = one_unnamed y (λ h'. more1 (g _) word.RightParen (λ all f t e j le s q1 shown. (
    _,
    _,
    spells.of_chain grammar.abstract_direct refl (spells.of_alternative grammar.abstract_group refl
        (spells.opens (f.words _ _ q) v (spells.part s (spells.token q1 (late plain j (d + 1) le) spells.done)))),
    first shown _,
  )))

  -- a group that was read, before its `)`
  group_ends : (w : Wanted) (h : Context) (d : ℕ) (c : Scopes) (i : ℕ) → Is us i word.LeftParen → Within top i d → {t : Trees} {e : Scopes} {j : ℕ} → Declared us top w (past_token h) (d + 1) c (i + 1) t e j → Room us top way j (d + 1) → OneDeclared w h c d i
  group_ends w h d c i q v {j = j} (with_name x y o s) z = one_named y (put1 z word.RightParen (λ all f q1 le. (
    _,
    _,
    spells.of_chain grammar.declarator_direct refl (spells.of_alternative grammar.group_declarator refl
        (spells.opens (f.words _ _ q) v (spells.part (weaken f s) (spells.token q1 (z.fits plain (d + 1) (omega arith)) spells.done)))),
  )))
  group_ends w h d c i q v {j = j} (without x y s) z = one_unnamed y (λ h'. put1 z word.RightParen (λ all f q1 le. (
    _,
    _,
    spells.of_chain grammar.abstract_direct refl (spells.of_alternative grammar.abstract_group refl
        (spells.opens (f.words _ _ q) v (spells.part (weaken f (s _)) (spells.token q1 (z.fits plain (d + 1) (omega arith)) spells.done)))),
  )))

  sized_grown : {q : Phrase} {h : Context} {c c' : Scopes} {d s i : ℕ} → OneSize c' d i →
      ((all : List Lexeme) (f : Front us all) (t : Trees) (e : Scopes) (j : ℕ) → IsSize all top d c' i t e j → Shown (length us) t way → Shows all top (λ t. Shown (length us) t way) q h c d s j) → Grown us top way q h c d s
  sized_grown g k = record { all = g.all; front = g.front; end = g.end; size = g.size; late = g.beyond; next = g.next; built = k g.all g.front g.trees g.after g.end g.is_size g.shown }

  pub owes_declarator : (w : Wanted) (h : Context) (d : ℕ) (c : Scopes) (i : ℕ) → Owes (body (declarator w h d)) (Via (declarator w h d) c i) c i
  owes_declarator w h d c i = (
    λ z. record { at = i + 1; qualifiers = qualifiers_none; declared = λ w h. one_from w h c (d + 1) (i + 1) (z (d + 1)) },
    λ q v. (
      λ y. one_pointer w h d c i q v (refl, y.qualifiers) (y.declared w (past_token h)),
      λ t e j _ _ x. (λ o. (λ _. (λ y. one_pointer w h d c i q v x y, λ t' e' j' _ _ _. (λ y. tt, λ y. tt)), tt), λ o. (λ y. one_pointer w h d c i q v x y, λ t' e' j' _ _ _. (λ y. tt, λ y. tt))),
    ),
    (
      λ z. one_from w (past_token h) c (d + 1) (i + 1) (z (d + 1)),
      λ q v. (
        λ y. one_group w h d c i q v y,
        λ t e j _ _ x. (
          tt,
          λ q' v'. (
            λ y. (
              λ k. let n = group_named us top w h d c i q v x y q' v' in one_named n.0 (more0 (k h c n.1 n.2) (λ all f t' e' j' le s shown. (_, _, spells.of_chain grammar.declarator_direct refl s, shown))),
              λ t' e' j' _ _ _. tt,
            ),
            λ y. (
              λ k. let n = group_unnamed us top w h d c i q v x y q' v' in one_unnamed n.0 (λ h'. more0 (k c n.1 _) (λ all f t' e' j' le s shown. (_, _, spells.of_chain grammar.abstract_direct refl s, shown))),
              λ t' e' j' _ _ _. tt,
            ),
          ),
          λ z. group_ends w h d c i q v x z,
        ),
      ),
      (
        λ o. (
          tt,
          λ q v. (
            λ k. one_named o (more0 (k h c refl (spells.of_alternative grammar.name_declarator refl (spells.declared q.0 q.1 v spells.done))) (λ all f t e j le s shown. (_, _, spells.of_chain grammar.declarator_direct refl s, shown))),
            λ t e j _ _ _. tt,
          ),
          arrays,
        ),
        λ o. arrays,
      ),
    ),
  )
    where
      arrays : Owes (array_start w d i) (OneDeclared w h c d i) c i
      arrays = (
        λ o. (
          λ z. some_size c d (i + 1) (z (d + 1)),
          λ q v. (
            λ k. one_unnamed o (λ h'. sized_grown k (λ all f t e j x shown. (
              _,
              _,
              spells.of_chain grammar.abstract_direct refl (spells.of_alternative grammar.abstract_array refl (spells.opens (f.words _ _ q) v (array_of all top x _))),
              inside shown,
            ))),
            λ t e j _ _ x. (
              λ k. one_unnamed o (λ h'. more0 (k c (λ h. spells.of_alternative grammar.abstract_array refl (spells.opens q v (array_of us top x _))) _) (λ all f t' e' j' le s shown. (_, _, spells.of_chain grammar.abstract_direct refl s, shown))),
              λ t' e' j' _ _ _. tt,
            ),
          ),
          λ z. one_from w h c d i z,
        ),
        λ o z. one_from w h c d i z,
      )

  -- an array's bracket with the scope of its declarator's parameters aside
  array_opened : {all : List Lexeme} {h : Context} {c e : Scopes} {d i j : ℕ} {t : Trees} → IsOpen c → Is all i word.LeftBracket → Within top i d → IsSize all top d (around c) (i + 1) t e j →
      Spells all top (rest (grammar.opening word.LeftBracket ∷ symbol.Size ∷ closing word.RightBracket ∷ [])) h c (innermost_of c ∷ e) d t i j
  array_opened {all = all} {h = h} {c = c} {e = e} {d = d} {i = i} {j = j} {t = t} o q w x =
      subst (λ v. Spells all top (rest (grammar.opening word.LeftBracket ∷ symbol.Size ∷ closing word.RightBracket ∷ [])) h v (innermost_of c ∷ e) d t i j) (sym o) (spells.opens q w (array_size all top x _ (innermost_of c)))

  pub owes_declarator_suffixes : (d s : ℕ) (y : Trees) (c : Scopes) (i : ℕ) → Owes (body (declarator_suffixes d s y)) (Via (declarator_suffixes d s y) c i) c i
  owes_declarator_suffixes d s y c i = (
    λ z. some_size (around c) d (i + 1) (z (d + 1)),
    λ q w. (
      λ v h c0 o z. sized_grown v (λ all f t e j x shown. (_, _, spells.of_alternative grammar.array_declarator refl (spells.part (weaken f z) (array_opened o (f.words _ _ q) w x)), inside (right y shown))),
      λ t e j _ _ x. (λ v h c0 o z. v h c0 refl (spells.of_alternative grammar.array_declarator refl (spells.part z (array_opened o q w x))), λ t' e' j' _ _ _. tt),
    ),
    (
      λ z. some_parameters ([] ∷ around c) (d + 1) (i + 1) (z (d + 1)),
      λ q w. (
        tt,
        λ q' w'. (λ v h c0 o z. v h c0 o (spells.of_alternative grammar.function_declarator refl (spells.part z (spells.opens q w (spells.prototype_none (spells.token q' w' spells.done))))), λ t e j _ _ _. tt),
        (
          λ v h c0 o z. more1 (v fresh) word.RightParen (λ all f t e j le x q1 shown.
              let n = runs_kept (parameters (d + 1)) ([] ∷ around c) e (i + 1) j t (completes all top task.parameters x q1) in (
                _,
                _,
                spells.of_alternative grammar.function_declarator refl (spells.part (weaken f z) (parameters_of all top h (weaken f z) o (open_of e (omega arith)) (λ h'. unheard refl x h') (f.words _ _ q) w q1 (late plain j (d + 1) le))),
                second y shown _,
              )),
          λ t e j _ k x. (
            tt,
            λ q' w'. (λ v h c0 o z. v h c0 refl (spells.of_alternative grammar.function_declarator refl (spells.part z (parameters_of us top h z o (open_of e (omega arith)) x q w q' w'))), λ t' e' j' _ _ _. tt),
            λ z' h c0 o z. put1 z' word.RightParen (λ all f q1 le. (
              _,
              _,
              spells.of_alternative grammar.function_declarator refl (spells.part (weaken f z)
                  (parameters_of all top h (weaken f z) o (open_of e (omega arith)) (λ h'. weaken f (x h')) (f.words _ _ q) w q1 (z'.fits plain (d + 1) (omega arith)))),
            )),
          ),
        ),
      ),
      tt,
    ),
  )

  pub owes_abstract_suffixes : (d s : ℕ) (y : Trees) (c : Scopes) (i : ℕ) → Owes (body (abstract_suffixes d s y)) (Via (abstract_suffixes d s y) c i) c i
  owes_abstract_suffixes d s y c i = (
    λ z. some_size c d (i + 1) (z (d + 1)),
    λ q w. (
      λ v c0 z h. sized_grown v (λ all f t e j x shown. (_, _, spells.of_alternative grammar.abstract_array_of refl (spells.part (weaken f (z _)) (spells.opens (f.words _ _ q) w (array_of all top x _))), inside (right y shown))),
      λ t e j _ _ x. (λ v c0 z. v c0 (λ h. spells.of_alternative grammar.abstract_array_of refl (spells.part (z _) (spells.opens q w (array_of us top x _)))), λ t' e' j' _ _ _. tt),
    ),
    tt,
  )

  pub owes_size : (d : ℕ) (c : Scopes) (i : ℕ) → Owes (body (size d)) (Via (size d) c i) c i
  owes_size d c i = (tt, λ q w. tt, (λ v. from v, λ t e j _ _ x. (tt, λ q w. tt, λ z. ends x z)))
    where
      from : G part.Conditional (d + 1) c i → OneSize c d i
      from v =
          let g = v fresh in
          let le = g.late in
          let x = longer g.all g.end g.size word.RightBracket in
          record {
            all = x.all;
            front = front_then g.front x.front;
            trees = g.built.0 & none;
            after = g.built.1;
            end = g.end + 1;
            size = x.size;
            beyond = omega arith;
            next = next_more x.front g.next;
            is_size = means.sized (λ h. unheard refl (weaken x.front g.built.2) h) x.word (late plain g.end (d + 1) g.late);
            shown = left g.built.3 none;
          }

      ends : {t : Trees} {e : Scopes} {j : ℕ} → Reads us top part.Conditional (d + 1) c i t e j → Room us top way j (d + 1) → OneSize c d i
      ends {t = t} {e = e} {j = j} y z =
          let q = z.here in
          let x = longer us j q word.RightBracket in
          record {
            all = x.all;
            front = x.front;
            trees = t & none;
            after = e;
            end = j + 1;
            size = x.size;
            beyond = omega arith;
            next = next_free z.free;
            is_size = means.sized (λ h. weaken x.front (y h)) x.word (z.fits plain (d + 1) (omega arith));
            shown = shown_free z.free;
          }

  -- Parameters.

  weaken_row : {all : List Lexeme} {d s : ℕ} {c : Scopes} {i : ℕ} {e : Scopes} {t : Trees} → Front us all → IsParameterRow us top d c s t e i → IsParameterRow all top d c s t e i
  weaken_row f (first_one x) = first_one (λ h. weaken f (x h))
  weaken_row f (next_one r q w x) = next_one (weaken_row f r) (f.words _ _ q) w (λ h. weaken f (x h))

  row_some : {all : List Lexeme} {d s : ℕ} {c : Scopes} {i : ℕ} {e : Scopes} {t : Trees} → IsParameterRow all top d c s t e i → has_some t ≡ true
  row_some (first_one x) = part_some (x fresh) none
  row_some (next_one {t = t} {u = u} r q w x) = pushed_some t (u & none) (row_some r)

  pub owes_parameters : (d : ℕ) (c : Scopes) (i : ℕ) → Owes (body (parameters d)) (Via (parameters d) c i) c i
  owes_parameters d c i = (
    λ v h. more0 (v fresh) (λ all f t e j le s shown. (_, _, row_of_parameters all top (spells.list_last s spells.done), parameter_shown s shown)),
    λ t e j _ _ x. (λ v. v c (first_one x), λ t' e' j' _ _ _. tt),
  )

  pub owes_more_parameters : (d s : ℕ) (y : Trees) (c : Scopes) (i : ℕ) → Owes (body (more_parameters d s y)) (Via (more_parameters d s y) c i) c i
  owes_more_parameters d s y c i = (
    tt,
    λ q w. (
      tt,
      λ q' w'. tt,
      (
        λ v c0 r h. more0 (v fresh) (λ all f t e j le x shown. (
          _,
          _,
          row_of_parameters all top (at_end all top (next_one (weaken_row f r) (f.words _ _ q) w (λ h'. unheard refl x h')) (λ h'. spells.done) fresh),
          parameters_shown s j y (t & none) (row_some r) (part_some x none) (right y (left shown none)),
        )),
        λ t e j _ _ x. (λ v c0 r. v c0 (next_one r q w x), λ t' e' j' _ _ _. tt),
      ),
    ),
    tt,
  )

  pub owes_parameter : (d : ℕ) (c : Scopes) (i : ℕ) → Owes (body (parameter d)) (Via (parameter d) c i) c i
  owes_parameter d c i = (
    λ v h. more0 v (λ all f t e j le s shown. (_, _, spells.of_chain grammar.parameter_unnamed refl s, shown)),
    λ t e j _ _ x. (λ _. (λ v h. with_declarator x v, λ t' e' j' _ _ _. (λ y. tt, λ y. tt)), tt),
  )
    where
      with_declarator : {h : Context} {t : Trees} {e : Scopes} {j : ℕ} → Spells us top (a part.Specifiers) fresh c e d t i j → OneDeclared either (past_part fresh t) e d j → Grown us top way (a part.Parameter) h c d i
      with_declarator {t = t} {e = e} {j = j} x (one_named y g) = more0 g (λ all f u e' k le s shown. (
        _,
        _,
        spells.of_alternative grammar.parameter_declaration refl (spells.part (weaken f x)
            (spells.part (spells.parameter_declarator (subst (λ z. Spells all top (a part.Declarator) (past_part fresh t) e z d u j k) (owned facts.by_declarator s) s)) spells.done)),
        second t shown _,
      ))
      with_declarator {t = t} x (one_unnamed y g) = more0 (g (past_part fresh t)) (λ all f u e' k le s shown. (
        _,
        _,
        spells.of_alternative grammar.parameter_declaration refl (spells.part (weaken f x) (spells.part (spells.of_chain grammar.parameter_abstract refl s) spells.done)),
        second t shown _,
      ))
