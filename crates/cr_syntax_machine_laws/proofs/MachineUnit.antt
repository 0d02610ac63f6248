-- What the machine answers of a unit is what reading one promises: its trees, or the first refusal.
use Rattle.std.proofs.Common.{◌≡◌, ℕ, ◌+◌, ◌<◌, ◌≤◌, Bool, true, false, not, ◌&&◌, List, length, Option, None, Some, refl, sym, ap, subst, ◌∙◌, arith, ◌⊎◌, inl, inr}
use Rattle.std.specs.Prelude.{nat_lt, if◌then◌else◌}
use Rattle.std.proofs.lemmas.Bool.{both_ways}
use Rattle.cr_syntax.specs.declared.word.Word.{Word}
use Rattle.cr_syntax.specs.declared.word.Word.TheVariants as word
use Rattle.cr_syntax.specs.Words.{Lexeme, word_at}
use Rattle.cr_syntax.specs.Scopes.{Scopes}
use Rattle.cr_syntax.specs.Trees.{Trees}
use Rattle.cr_syntax.specs.Spells.{Limit, Free, AtMost, Upto, Is}
use Rattle.cr_syntax.specs.Units.{most_levels, file_scope, is_unused, is_opening, begins_statement, Refusal, IsBracket, StandsIn, list_for_designator, group_for_literal, subscript_for_call, block_for_body, IsUnit, Begins, BeginsWithin, Outside, IsTooDeep, IsFineBefore, FirstRefusal, IsTreeOf}
use Rattle.cr_syntax.specs.Units as units
use Rattle.cr_syntax_machine.specs.Machine.{Manner, Test, plain, opens, reopens, Allows, anywhere, nowhere, unit, Reply, Cause, Done, Failed, Runs, has_word, barred, refusal_of, overflows, exceeds, is_bracket, too_deep, ended, outside, unexpected}
use Rattle.cr_syntax_machine.specs.MachineBody.{body, is_any, is_label}
use Rattle.cr_syntax_machine_laws.specs.MachineLaws.{IsParsed}
use Rattle.cr_syntax.proofs.Tests.{both, some_one}
use Rattle.cr_syntax_machine_laws.proofs.MachineFirst.{none_true, true_false}
use Rattle.cr_syntax_machine_laws.proofs.MachineRuns.{same, local}
use Rattle.cr_syntax_machine_laws.proofs.MachineEnds.{Way, stopped, barring, crowded, naming, Ends, ends_so, refused_so, cause_by}
use Rattle.cr_syntax_machine_laws.proofs.MachineComplete.{allows_free, upto}
use Rattle.cr_syntax_machine_laws.proofs.MachineUnitComplete.{unit_reads, unit_is_read}
use Rattle.cr_syntax_machine_laws.proofs.MachineUnitForms.{ReadsUnits, same_token, token_in}
use Rattle.cr_syntax_machine_laws.proofs.MachineRefusals.{outside_before_end, outside_at_end, outside_of_unit}
use Rattle.cr_syntax_machine_laws.proofs.MachineViable.{barred_inside, crowded_inside}
use Rattle.cr_syntax_machine_laws.proofs.MachineUnitViable.{unit_begins, unit_leaves, unit_barred_begins, unit_stands, unit_stands_leaving, unit_crowded_begins, Sighted, of_definition, of_stray, earlier_sighted, earlier_outside, unit_outside}
use Rattle.cr_syntax_machine_laws.proofs.MachineForms.{within}
use Rattle.cr_syntax_machine_laws.proofs.MachineLoose.{looser, followed, Follows, so_too, departs, own_label, label_is}
use Rattle.cr_syntax_machine_laws.proofs.MachineStuck.{is_crowded}
use Rattle.cr_syntax_machine_laws.proofs.MachineReading.{unlimited_end, ends_inside, bracket_is, is_of_bracket, bracket_is_used, opening_is_used, no_opening, not_both, at_most, below, not_keyword_row, barring_at, at_end}
use Rattle.cr_syntax_machine_laws.proofs.UnitRefusals.{HasOneRow, token_of, one_first_refusal}
use Rattle.cr_syntax_machine_laws.proofs.MachineUnitStuck.{no_room_in_unit, no_room_instead_in_unit, read_is_unit, begun_unit_is_used, relimit_unit, unit_ends, label_within}

-- Texts that begin as a list does.

-- fewer tokens begin a unit too
pub begins_less : {limit : Limit} {ts : List Lexeme} {n k : ℕ} → n ≤ k → Begins limit ts k → Begins limit ts n
begins_less le b = record { trees = b.trees; completes = record { text = b.completes.text; alike = λ i x lt q. b.completes.alike i x (omega arith) q; is_unit = b.completes.is_unit } }

-- within no limit, or one up to fewer tokens
pub begins_by : {limit top : Limit} {ts : List Lexeme} {k : ℕ} → ((g : Manner) (i d : ℕ) → Allows limit g i d → Allows top g i d) → Begins limit ts k → Begins top ts k
begins_by f b = record { trees = b.trees; completes = record { text = b.completes.text; alike = b.completes.alike; is_unit = relimit_unit (λ g x c i d _ _ a. f g i d a) b.completes.is_unit } }

pub begins_free : {limit : Limit} {ts : List Lexeme} {k : ℕ} → Begins limit ts k → Begins Free ts k
begins_free b = begins_by (λ g i d a. allows_free g i d) b

pub upto_less : {n k : ℕ} (most : ℕ) → n ≤ k → (g : Manner) (i d : ℕ) → Allows (Upto k most) g i d → Allows (Upto n most) g i d
upto_less most le plain i d a = tt
upto_less most le opens i d a = λ lt. a (omega arith)
upto_less most le reopens i d a = (tt, λ lt. a.1 (omega arith))

-- Words.

-- a row of the refused forms names a token of the list
names_token : {ts : List Lexeme} {k n : ℕ} → Outside ts k n → k < length ts
names_token {ts = ts} {k = k} (units.unused_keyword q u) = within ts k q
names_token {ts = ts} {k = k} (units.designator (inl q) b) = within ts k q
names_token {ts = ts} {k = k} (units.designator (inr q) b) = within ts k q
names_token {ts = ts} {k = k} (units.compound_literal q b) = within ts k q
names_token {ts = ts} {k = k} (units.called_expression q b) = within ts k q
names_token {ts = ts} {k = k} (units.bit_field q b) = within ts k q
names_token (units.deep_label lt c q) = lt
names_token {ts = ts} {k = k} (units.label_as_body s (inl q) b) = within ts k q
names_token {ts = ts} {k = k} (units.label_as_body s (inr q) b) = within ts k q
names_token {ts = ts} {k = k} (units.switch_body s q y b) = within ts k q
names_token {ts = ts} (units.variadic_function m lt q c b) = let n = within ts m q in omega arith
names_token {ts = ts} {k = k} (units.stray_label q q' c y) = within ts k q

-- a token that a row of the refused forms names is an unused keyword, or the row is another one
pub keyword_or_form : {ts : List Lexeme} {k n : ℕ} → Outside ts k n → ((w : Word) × Is ts k w × (is_unused w ≡ true) × (n ≡ 1)) ⊎ (n ≡ 1 → ⊥)
keyword_or_form (units.unused_keyword {w = w} q u) = inl (w, q, u, refl)
keyword_or_form (units.designator q b) = inr (λ e. omega arith)
keyword_or_form (units.compound_literal q b) = inr (λ e. omega arith)
keyword_or_form (units.called_expression q b) = inr (λ e. omega arith)
keyword_or_form (units.bit_field q b) = inr (λ e. omega arith)
keyword_or_form (units.deep_label lt c q) = inr (λ e. omega arith)
keyword_or_form (units.label_as_body s q b) = inr (λ e. omega arith)
keyword_or_form (units.switch_body s q y b) = inr (λ e. omega arith)
keyword_or_form (units.variadic_function m lt q c b) = inr (λ e. omega arith)
keyword_or_form (units.stray_label q q' c y) = inr (λ e. omega arith)

-- a token is a bracket and another word
no_bracket : {o : Option Word} {v w : Word} → o ≡ Some v → is_bracket v ≡ false → o ≡ Some w → IsBracket w → ⊥
no_bracket {v = v} q f y b = both_ways (is_bracket v) f (subst (λ w. is_bracket w ≡ true) (some_one (sym y ∙ q)) (is_of_bracket b))

-- the tokens up to the `...` of a definition begin a unit
pub begins_definition : {ts : List Lexeme} {m : ℕ} → Outside ts m 8 → Begins (Upto (m + 1) most_levels) ts (m + 1)
begins_definition (units.variadic_function {t = t} m' lt q c b) = begins_by (upto_less most_levels (omega arith)) (begins_less (omega arith) (record { trees = t; completes = c }))

-- A word that opens a level, and that a row refuses, has a bracket in its place, where no text goes on with it.
in_place : {ts : List Lexeme} {k n : ℕ} {w : Word} → Outside ts k n → Is ts k w → is_opening w ≡ true → (Begins Free ts (k + 1) → ⊥) → (v : Word) × StandsIn n v
in_place {w = w} (units.unused_keyword q u) y b f = absurd (not_both q u y (opening_is_used w b))
in_place (units.designator q s) y b f = (word.LeftBrace, list_for_designator)
in_place (units.compound_literal q s) y b f = (word.LeftParen, group_for_literal)
in_place (units.called_expression q s) y b f = (word.LeftBracket, subscript_for_call)
in_place (units.bit_field q s) y b f = absurd (no_opening q refl y b)
in_place (units.deep_label {t = t} lt c q) y b f = absurd (f (begins_free (record { trees = t; completes = c })))
in_place (units.label_as_body s (inl q) c) y b f = absurd (no_opening q refl y b)
in_place (units.label_as_body s (inr q) c) y b f = absurd (no_opening q refl y b)
in_place (units.switch_body s q u c) y b f = (word.LeftBrace, block_for_body)
in_place (units.variadic_function {t = t} m lt q c s) y b f = absurd (f (begins_free (begins_definition (units.variadic_function {t = t} m lt q c s))))
in_place (units.stray_label q q' c s) y b f = absurd (no_opening q refl y b)

-- a word that begins a statement is no unused keyword
statement_is_used : (w : Word) → begins_statement w ≡ true → is_unused w ≡ false
statement_is_used word.Semicolon q = refl
statement_is_used word.If q = refl
statement_is_used word.Switch q = refl
statement_is_used word.While q = refl
statement_is_used word.Do q = refl
statement_is_used word.For q = refl
statement_is_used word.Goto q = refl
statement_is_used word.Break q = refl
statement_is_used word.Continue q = refl
statement_is_used word.Return q = refl
statement_is_used word.PlusPlus q = refl
statement_is_used word.MinusMinus q = refl
statement_is_used word.Ampersand q = refl
statement_is_used word.Star q = refl
statement_is_used word.Plus q = refl
statement_is_used word.Minus q = refl
statement_is_used word.Tilde q = refl
statement_is_used word.Bang q = refl
statement_is_used word.Sizeof q = refl
statement_is_used word.Identifier q = refl
statement_is_used word.Integer q = refl
statement_is_used word.Character q = refl
statement_is_used word.Text q = refl
statement_is_used word.LeftParen q = refl
statement_is_used _ q = none_true q

-- a unit is read by the machine of the bare grammar
pub reads_units : ReadsUnits
reads_units us limit t e s = unit_reads s

module _ (ts : List Lexeme) where
  abbrev pub Answers : Reply → Type 0
  Answers r = Runs body ts (AtMost most_levels) (body (unit nowhere 0)) file_scope 0 r

  abbrev pub EndsBy : Way → ℕ → Type 0
  EndsBy w k = Ends body ts (AtMost most_levels) (body (unit nowhere 0)) file_scope 0 w k

  -- the same in the bare grammar
  abbrev Loosely : Way → ℕ → Type 0
  Loosely w k = Ends body ts (AtMost most_levels) (body (unit anywhere 0)) file_scope 0 w k

  follows : {w : Way} {k : ℕ} → EndsBy w k → Follows ts (AtMost most_levels) (body (unit anywhere 0)) file_scope 0 w k
  follows y = followed (looser (unit nowhere 0)) y

  loose_stop : {m k : ℕ} → Follows ts (AtMost most_levels) (body (unit anywhere 0)) file_scope 0 (stopped m) k → Loosely (stopped m) k
  loose_stop (so_too z) = z
  loose_stop (departs o z) = elim o [ ]

  loose_crowd : {k : ℕ} → Follows ts (AtMost most_levels) (body (unit anywhere 0)) file_scope 0 crowded k → Loosely crowded k
  loose_crowd (so_too z) = z
  loose_crowd (departs o z) = elim o [ ]

  -- No text goes on with a token that is refused.

  pub run_ends : {w : Way} {k : ℕ} → Loosely w k → is_crowded w ≡ false → k < length ts → Begins Free ts (k + 1) → ⊥
  run_ends y n lt b = let q = same (local (refused_so (unlimited_end y n)) (λ i le. same_token b.completes i (omega arith) (omega arith))) (unit_is_read b.completes.is_unit) in cc

  within_ends : {k : ℕ} → Loosely crowded k → k < length ts → BeginsWithin ts (k + 1) → ⊥
  within_ends {k = k} y lt b = let q = same (local (upto (k + 1) (omega arith) (refused_so y)) (λ i le. same_token b.completes i (omega arith) (omega arith))) (unit_is_read b.completes.is_unit) in cc

  no_tree : {w : Way} {k : ℕ} {t : Trees} → Loosely w k → IsUnit (AtMost most_levels) ts t → ⊥
  no_tree y x = let q = same (refused_so y) (unit_is_read x) in cc

  -- An unused keyword is no bracket too deep, nor is a label of a switch.

  keyword_not_deep : {k : ℕ} {w : Word} → Is ts k w → is_unused w ≡ true → (k < length ts → Begins Free ts (k + 1) → ⊥) → IsTooDeep ts k → ⊥
  keyword_not_deep {k = k} q u r (units.expected o) = r (within ts k q) (begins_free o.begins)
  keyword_not_deep q u r (units.refused {w = v} y b o x d) = not_both q u y (opening_is_used v b)
  keyword_not_deep q u r (units.unexpected y b c n o x) = not_both q u y (bracket_is_used b)

  label_flat : (v : Word) → is_label v ≡ true → (is_bracket v ≡ false) × (is_opening v ≡ false)
  label_flat word.Case q = (refl, refl)
  label_flat word.Default q = (refl, refl)
  label_flat _ q = none_true q

  label_not_deep : {k : ℕ} {v : Word} → Is ts k v → is_label v ≡ true → IsTooDeep ts k → ⊥
  label_not_deep {k = k} {v = v} q l (units.expected o) =
      let b = o.begins in
      o.too_deep (record { trees = b.trees; completes = record { text = b.completes.text; alike = b.completes.alike; is_unit = label_within (token_in b.completes k (omega arith) q) l b.completes.is_unit } })
  label_not_deep {v = v} q l (units.refused y b o x d) = no_opening q (label_flat v l).1 y b
  label_not_deep {v = v} q l (units.unexpected y b c n o x) = no_bracket q (label_flat v l).0 y b

  row_before : {w : Way} {i n k : ℕ} → EndsBy w k → Outside ts i n → (n ≡ 1 → ⊥) → i < k → w ≡ naming i n
  row_before y o f lt = outside_before_end reads_units f y lt o

  row_there : {w : Way} {n k : ℕ} → k < length ts → EndsBy w k → Outside ts k n → (n ≡ 1 → ⊥) → ((m r : ℕ) → w ≡ naming m r → ⊥) → (x : Test) × (d : ℕ) × (w ≡ barring x n d)
  row_there lt y o f g = let b = barring_at (outside_at_end reads_units f lt y g o) in (b.1, b.2, b.3)

  row_read : {t : Trees} {e : Scopes} {i j n : ℕ} → Answers (Done t e j) → Outside ts i n → (n ≡ 1 → ⊥) → i < j → ⊥
  row_read h o f lt = outside_of_unit reads_units f h lt o

  -- the tokens before a refused one
  fine : {w : Way} {k : ℕ} → EndsBy w k → ((m r : ℕ) → w ≡ naming m r → ⊥) → BeginsWithin ts k → IsFineBefore ts k
  fine y other b = record { begins = b; inside = λ i n lt o. elim (keyword_or_form o) [ inl (w, q, u, e) ↦ both_ways (is_unused w) (begun_unit_is_used b lt q) u | inr f ↦ other i n (row_before y o f lt) ] }

  -- A token at which the machine stops.
  module _ (m k : ℕ) (y : EndsBy (stopped m) k) (le : k ≤ length ts) where
    loosely : Loosely (stopped m) k
    loosely = loose_stop (follows y)

    stop_ends : k < length ts → Begins Free ts (k + 1) → ⊥
    stop_ends = run_ends loosely refl

    none_earlier : (n r : ℕ) → stopped m ≡ naming n r → ⊥
    none_earlier n r q = cc

    stop_fine : IsFineBefore ts k
    stop_fine = fine y none_earlier (unit_begins ts most_levels k le nowhere m y)

    not_outside : {w : Word} → Is ts k w → is_unused w ≡ false → (n : ℕ) → Outside ts k n → ⊥
    not_outside q u n o = elim (keyword_or_form o) [ inl (v, q', u', e) ↦ not_both q' u' q u | inr f ↦ no_row (row_there (within ts k q) y o f none_earlier).2 ]
      where
        no_row : {x : Test} {n d : ℕ} → stopped m ≡ barring x n d → ⊥
        no_row q = cc

    not_deep : {w : Word} → Is ts k w → is_unused w ≡ false → overflows w m ≡ false → IsTooDeep ts k → ⊥
    not_deep q u v (units.expected o) = stop_ends (within ts k q) (begins_free o.begins)
    not_deep q u v (units.refused {row = n} q' b o x d) = not_outside q u n o
    not_deep {w = w} q u v (units.unexpected q' b c n o x) = x (unit_leaves ts most_levels k le nowhere m y (below (is_bracket w) m (subst (λ w. is_bracket w ≡ true) (some_one (sym q' ∙ q)) (is_of_bracket b)) v))

    read_stop_word : {w : Word} → Is ts k w → (u o : Bool) → is_unused w ≡ u → overflows w m ≡ o → FirstRefusal ts (refusal_of (if u then outside 1 else (if o then too_deep else unexpected)) k)
    read_stop_word q true o u v = units.outside (within ts k q) stop_fine (keyword_not_deep q u stop_ends) (units.unused_keyword q u)
    read_stop_word {w = w} q false true u v =
        let b = both (is_bracket w) (not (nat_lt m most_levels)) v in
        units.too_deep (within ts k q) stop_fine
        (units.unexpected q (bracket_is w b.0) (unit_begins ts most_levels k le nowhere m y) (stop_ends (within ts k q)) (not_outside q u) (no_room_in_unit most_levels (omega arith) le (at_most m most_levels b.1) loosely))
    read_stop_word q false false u v = units.unexpected_token (within ts k q) stop_fine (not_deep q u v) (not_outside q u) (stop_ends (within ts k q))

    read_stop : (o : Option Word) → word_at ts k ≡ o →
        FirstRefusal ts (refusal_of (elim o as (λ _. Cause) [ None ↦ ended | Some w ↦ if is_unused w then outside 1 else (if overflows w m then too_deep else unexpected) ]) k)
    read_stop None q = units.end (subst (λ k. IsFineBefore ts k) (at_end ts k le q) stop_fine) (λ t x. no_tree loosely x)
    read_stop (Some w) q = read_stop_word q (is_unused w) (overflows w m) refl refl

  -- A token that a row of the refused forms refuses.
  bar_fine : {x : Test} {n m k : ℕ} → EndsBy (barring x n m) k → IsFineBefore ts k
  bar_fine {x = x} {n = n} {m = m} {k = k} y = let lt = barred_inside y in fine y (λ m r q. cc) (unit_barred_begins ts most_levels k (omega arith) nowhere x n m y)

  pub bar_outside : {x : Test} {n m k : ℕ} → EndsBy (barring x n m) k → Outside ts k n
  bar_outside {x = x} {n = n} {m = m} {k = k} y = let lt = barred_inside y in unit_outside ts k (omega arith) nowhere x n m y

  -- in the bare grammar too
  module _ (x : Test) (n m k : ℕ) (y : EndsBy (barring x n m) k) (z : Loosely (barring x n m) k) where
    bar_ends : Begins Free ts (k + 1) → ⊥
    bar_ends = run_ends z refl (barred_inside y)

    same_row : {x' : Test} {n' d : ℕ} → barring x n m ≡ barring x' n' d → n' ≡ n
    same_row q = cc

    form_not_deep : {w : Word} → Is ts k w → exceeds w m ≡ false → IsTooDeep ts k → ⊥
    form_not_deep q v (units.expected o) = bar_ends (begins_free o.begins)
    form_not_deep {w = w} q v (units.refused {v = v'} q' b o x' d) =
        let r = row_there (within ts k q) y o (not_keyword_row x') (λ m r q. cc) in
        d.too_deep (unit_stands_leaving ts most_levels k (let lt = barred_inside y in omega arith) nowhere x n m y (barred_inside y) (subst (λ n. StandsIn n v') (same_row r.2) x') (below (is_opening w) m (subst (λ w. is_opening w ≡ true) (some_one (sym q' ∙ q)) b) v))
    form_not_deep q v (units.unexpected q' b c f o x') = o n (bar_outside y)

    read_bar_word : {w : Word} → Is ts k w → (o : Bool) → exceeds w m ≡ o → FirstRefusal ts (refusal_of (if o then too_deep else outside n) k)
    read_bar_word {w = w} q true v =
        let b = both (is_opening w) (not (nat_lt m most_levels)) v in
        let o = bar_outside y in
        let lt = within ts k q in
        let r = in_place o q b.0 bar_ends in
        units.too_deep lt (bar_fine y)
        (units.refused q b.0 o r.1
        (record { begins = unit_stands ts most_levels k (omega arith) nowhere x n m y lt r.1; too_deep = no_room_instead_in_unit most_levels (omega arith) lt (at_most m most_levels b.1) r.1 z }))
    read_bar_word q false v = units.outside (within ts k q) (bar_fine y) (form_not_deep q v) (bar_outside y)

    read_bar : (o : Option Word) → word_at ts k ≡ o → FirstRefusal ts (refusal_of (elim o as (λ _. Cause) [ None ↦ ended | Some w ↦ if exceeds w m then too_deep else outside n ]) k)
    read_bar None q = let e = at_end ts k (let lt = barred_inside y in omega arith) q in let lt = barred_inside y in absurd (omega arith)
    read_bar (Some w) q = read_bar_word q (exceeds w m) refl

  -- A label that stands where the subset has none.
  label_barred : (k d : ℕ) {v : Word} → Is ts k v → is_opening v ≡ false → outside 6 ≡ barred ts 6 k d
  label_barred k d {v = v} q f =
      sym (ap (λ o. elim o as (λ _. Cause) [ None ↦ ended | Some w ↦ if exceeds w d then too_deep else outside 6 ]) q ∙ ap (λ b. if b && not (nat_lt d most_levels) then too_deep else outside 6) f)

  read_label : {x : Test} {d k : ℕ} {v : Word} → EndsBy (barring x 6 d) k → Is ts k v → is_label v ≡ true → FirstRefusal ts (refusal_of (barred ts 6 k d) k)
  read_label {d = d} {k = k} {v = v} y q l =
      subst (λ x. FirstRefusal ts (refusal_of x k)) (label_barred k d q (label_flat v l).1) (units.outside (within ts k q) (bar_fine y) (label_not_deep q l) (bar_outside y))

  read_barred : {x : Test} {n m k : ℕ} → EndsBy (barring x n m) k → Follows ts (AtMost most_levels) (body (unit anywhere 0)) file_scope 0 (barring x n m) k → FirstRefusal ts (refusal_of (barred ts n k m) k)
  read_barred {x = x} {n = n} {m = m} {k = k} y (so_too z) = read_bar x n m k y z (word_at ts k) refl
  read_barred {k = k} y (departs (own_label v) z) = elim (label_is (word_at ts k) v) [ inl q ↦ read_label y q refl | inr q ↦ read_label y q refl ]

  -- A token for which a level finds no room.
  read_crowd : (k : ℕ) → EndsBy crowded k → FirstRefusal ts (refusal_of too_deep k)
  read_crowd k y =
      let lt = crowded_inside y in
      let b = unit_crowded_begins ts most_levels k (omega arith) nowhere y lt in
      units.too_deep lt (fine y (λ m r q. cc) (begins_less (omega arith) b)) (units.expected (record { begins = b; too_deep = within_ends (loose_crowd (follows y)) lt }))

  -- A token before, which is refused where the next one shows what it is.
  module _ (m n k : ℕ) (y : EndsBy (naming m n) k) (le : k ≤ length ts) where
    named : Outside ts m n
    named = earlier_outside ts k le nowhere m n y

    sight : Sighted ts most_levels k le nowhere m n
    sight = earlier_sighted ts most_levels k le nowhere m n y

    is_before : {r : ℕ} → Sighted ts most_levels k le nowhere m r → m < k
    is_before (of_definition lt q c b) = lt
    is_before (of_stray e q q' c b) = omega arith

    begins_there : {r : ℕ} → Sighted ts most_levels k le nowhere m r → Begins (Upto (m + 1) most_levels) ts (m + 1)
    begins_there (of_definition {t = t} lt q c b) = begins_by (upto_less most_levels (omega arith)) (begins_less (omega arith) (record { trees = t; completes = c }))
    begins_there (of_stray {t = t} e q q' c b) = begins_by (upto_less most_levels (omega arith)) (begins_less (omega arith) (record { trees = t; completes = c }))

    begins_named : Begins (Upto (m + 1) most_levels) ts (m + 1)
    begins_named = begins_there sight

    same_named : {i r : ℕ} → naming m n ≡ naming i r → m ≡ i
    same_named q = cc

    same_row_named : {i r : ℕ} → naming m n ≡ naming i r → r ≡ n
    same_row_named q = cc

    named_fine : IsFineBefore ts m
    named_fine = record { begins = b; inside = inside }
      where
        b : BeginsWithin ts m
        b = begins_by (upto_less most_levels (omega arith)) (begins_less (omega arith) begins_named)

        inside : (i r : ℕ) → i < m → Outside ts i r → ⊥
        inside i r lt o = elim (keyword_or_form o) [ inl (w, q, u, e) ↦ both_ways (is_unused w) (begun_unit_is_used b lt q) u | inr f ↦ (let before = is_before sight in let e = same_named (row_before y o f (omega arith)) in absurd (omega arith)) ]

    none_stands : {r : ℕ} {v : Word} → Sighted ts most_levels k le nowhere m r → StandsIn r v → ⊥
    none_stands (of_definition lt q c b) x = elim x [ ]
    none_stands (of_stray e q q' c b) x = elim x [ ]

    named_not_deep : IsTooDeep ts m → ⊥
    named_not_deep (units.expected o) = o.too_deep begins_named
    named_not_deep (units.refused {v = v} q b o x d) = none_stands sight (subst (λ r. StandsIn r v) (same_row_named (row_before y o (not_keyword_row x) (is_before sight))) x)
    named_not_deep (units.unexpected q b c f o x) = f (begins_free begins_named)

    read_earlier : FirstRefusal ts (units.OutsideSubset m n)
    read_earlier = units.outside (names_token named) named_fine named_not_deep named

  read_end : (w : Way) (k : ℕ) → EndsBy w k → k ≤ length ts → FirstRefusal ts (refusal_of (cause_by ts k w) k)
  read_end (stopped m) k y le = read_stop m k y le (word_at ts k) refl
  read_end (barring x n m) k y le = read_barred y (follows y)
  read_end crowded k y le = read_crowd k y
  read_end (naming m n) k y le = read_earlier m n k y le

  -- the first refusal
  pub unit_is_refused : {x : Cause} {k : ℕ} → Answers (Failed x k) → FirstRefusal ts (refusal_of x k)
  unit_is_refused {k = k} h = let y = ends_so h in subst (λ x. FirstRefusal ts (refusal_of x k)) (sym y.cause) (read_end y.way k y.ends (ends_inside h (omega arith)))

  -- A unit's end is that of the tokens.
  no_word : (j : ℕ) → has_word ts j is_any ≡ false → word_at ts j ≡ None
  no_word j = by (word_at ts j)
    where
      by : (o : Option Word) → elim o as (λ _. Bool) [ None ↦ false | Some w ↦ is_any w ] ≡ false → o ≡ None
      by None q = refl
      by (Some w) q = true_false q

  pub read_to_end : {t : Trees} {e : Scopes} {j : ℕ} → Answers (Done t e j) → j ≡ length ts
  read_to_end {j = j} h = at_end ts j (ends_inside h (omega arith)) (no_word j (unit_ends h))

  -- the trees
  pub unit_is_tree : {t : Trees} {e : Scopes} {j : ℕ} → Answers (Done t e j) → IsTreeOf ts t
  unit_is_tree {t = t} {e = e} {j = j} h = record { is_unit = u; inside = inside }
    where
      u : IsUnit (AtMost most_levels) ts t
      u = read_is_unit nowhere (subst (λ j. Answers (Done t e j)) (read_to_end h) h)

      all : Begins (AtMost most_levels) ts (length ts)
      all = record { trees = t; completes = record { text = ts; alike = λ i x lt q. q; is_unit = u } }

      inside : (i n : ℕ) → Outside ts i n → ⊥
      inside i n o = let lt = names_token o in elim (keyword_or_form o) [ inl (w, q, v, e) ↦ both_ways (is_unused w) (begun_unit_is_used all lt q) v | inr f ↦ (let e = read_to_end h in row_read h o f (omega arith)) ]

  pub is_parsed : (r : Reply) → Answers r → IsParsed ts r
  is_parsed (Done t e j) h = (unit_is_tree h, read_to_end h)
  is_parsed (Failed x k) h = unit_is_refused h

  -- At the token that a refusal names one row stands.

  form_is_used : {k n : ℕ} {w : Word} → Outside ts k n → (n ≡ 1 → ⊥) → Is ts k w → is_unused w ≡ true → ⊥
  form_is_used (units.unused_keyword q' u') f q u = f refl
  form_is_used (units.designator (inl q') b) f q u = not_both q u q' refl
  form_is_used (units.designator (inr q') b) f q u = not_both q u q' refl
  form_is_used (units.compound_literal q' b) f q u = not_both q u q' refl
  form_is_used (units.called_expression q' b) f q u = not_both q u q' refl
  form_is_used (units.bit_field q' b) f q u = not_both q u q' refl
  form_is_used {w = w} (units.deep_label {t = t} lt c y) f q u = both_ways (is_unused w) (begun_unit_is_used (record { trees = t; completes = c }) (omega arith) q) u
  form_is_used (units.label_as_body s (inl q') b) f q u = not_both q u q' refl
  form_is_used (units.label_as_body s (inr q') b) f q u = not_both q u q' refl
  form_is_used (units.switch_body {w = v} s q' y b) f q u = not_both q u q' (statement_is_used v y)
  form_is_used {w = w} (units.variadic_function {t = t} m lt q' c y) f q u = both_ways (is_unused w) (begun_unit_is_used (record { trees = t; completes = c }) (omega arith) q) u
  form_is_used (units.stray_label q' q'' c y) f q u = not_both q u q' refl

  one_row_by : {k : ℕ} (m : ℕ) → ((n : ℕ) → Outside ts k n → (n ≡ 1 → ⊥) → n ≡ m) → HasOneRow ts k
  one_row_by m f n n' o o' = elim (keyword_or_form o) [
    | inl (w, q, u, e) ↦ elim (keyword_or_form o') [ inl (w', q', u', e') ↦ e ∙ sym e' | inr g' ↦ absurd (form_is_used o' g' q u) ]
    | inr g ↦ elim (keyword_or_form o') [ inl (w', q', u', e') ↦ absurd (form_is_used o g q' u') | inr g' ↦ f n o g ∙ sym (f n' o' g') ]
  ]

  none_at_end : HasOneRow ts (length ts)
  none_at_end n n' o o' = let lt = names_token o in absurd (omega arith)

  no_bar : {x : Test} {m n d : ℕ} → stopped m ≡ barring x n d → ⊥
  no_bar q = cc

  no_bar_deep : {x : Test} {n d : ℕ} → crowded ≡ barring x n d → ⊥
  no_bar_deep q = cc

  one_bar : {x x' : Test} {n n' m d : ℕ} → barring x n m ≡ barring x' n' d → n' ≡ n
  one_bar q = cc

  row_of_stop : {m k : ℕ} → EndsBy (stopped m) k → HasOneRow ts k
  row_of_stop y = one_row_by 0 (λ n o g. absurd (no_bar (row_there (names_token o) y o g (λ m r q. cc)).2))

  row_of_bar : {x : Test} {n m k : ℕ} → EndsBy (barring x n m) k → HasOneRow ts k
  row_of_bar {n = n} y = one_row_by n (λ n' o g. one_bar (row_there (names_token o) y o g (λ m r q. cc)).2)

  row_of_crowd : {k : ℕ} → EndsBy crowded k → HasOneRow ts k
  row_of_crowd y = one_row_by 0 (λ n o g. absurd (no_bar_deep (row_there (names_token o) y o g (λ m r q. cc)).2))

  row_of_earlier : {m n k : ℕ} → EndsBy (naming m n) k → k ≤ length ts → HasOneRow ts m
  row_of_earlier {m = m} {n = n} {k = k} y le = one_row_by n (λ r o g. same_row_named m n k y le (row_before y o g (is_before m n k y le (sight m n k y le))))

  abbrev OneRowOf : Cause → ℕ → Type 0
  OneRowOf x k = HasOneRow ts (token_of ts (refusal_of x k))

  one_row : (w : Way) (k : ℕ) → EndsBy w k → k ≤ length ts → OneRowOf (cause_by ts k w) k
  one_row (stopped m) k y le = by (word_at ts k)
    where
      by_word : (u o : Bool) → OneRowOf (if u then outside 1 else (if o then too_deep else unexpected)) k
      by_word true o = row_of_stop y
      by_word false true = row_of_stop y
      by_word false false = row_of_stop y

      by : (o : Option Word) → OneRowOf (elim o as (λ _. Cause) [ None ↦ ended | Some w ↦ if is_unused w then outside 1 else (if overflows w m then too_deep else unexpected) ]) k
      by None = none_at_end
      by (Some w) = by_word (is_unused w) (overflows w m)
  one_row (barring x n m) k y le = by (word_at ts k)
    where
      by_word : (o : Bool) → OneRowOf (if o then too_deep else outside n) k
      by_word true = row_of_bar y
      by_word false = row_of_bar y

      by : (o : Option Word) → OneRowOf (elim o as (λ _. Cause) [ None ↦ ended | Some w ↦ if exceeds w m then too_deep else outside n ]) k
      by None = none_at_end
      by (Some w) = by_word (exceeds w m)
  one_row crowded k y le = row_of_crowd y
  one_row (naming m n) k y le = row_of_earlier y le

  -- no other refusal is the first
  pub only_refusal : {x : Cause} {k : ℕ} {r : Refusal} → Answers (Failed x k) → FirstRefusal ts r → r ≡ refusal_of x k
  only_refusal {k = k} h o =
      let y = ends_so h in
      sym (one_first_refusal ts (subst (λ x. OneRowOf x k) (sym y.cause) (one_row y.way k y.ends (ends_inside h (omega arith)))) (unit_is_refused h) o)
