-- The tokens of a unit before a refused one begin a unit, and by the way in which it is refused more is known of that unit:
-- where the program stops, it leaves room for so many levels; where a row of the refused forms refuses, it shows the row's
-- node, and the word that stands in can come next; where a level finds no room, the opening token itself can.
use Rattle.std.proofs.Common.{◌≡◌, ℕ, ◌+◌, ◌<◌, ◌≤◌, Bool, true, false, List, length, Some, refl, sym, ap, subst, ◌∙◌, inl, inr, ◌⊎◌, arith}
use Rattle.std.specs.Prelude.{slice_get}
use Rattle.std.proofs.Math.Nat.{eq-or-lt_of_le}
use Rattle.cr_syntax.specs.declared.word.Word.{Word}
use Rattle.cr_syntax.specs.declared.word.Word.TheVariants as word
use Rattle.cr_syntax.specs.Words.{Lexeme, word_at}
use Rattle.cr_syntax.specs.Scopes.{Scopes}
use Rattle.cr_syntax.specs.Trees.{Trees}
use Rattle.cr_syntax.specs.Context.{fresh}
use Rattle.cr_syntax.specs.Spells.{Limit, AtMost, Upto, Leaving, Is, Spells, rest}
use Rattle.cr_syntax.specs.Units.{unit_side, file_scope, IsUnit, Completes, Begins, most_levels, with_word, StandsIn, begins_statement, elsewhere, Has, is_misplaced, is_stray, wrong_at, variadic_definition, Outside}
use Rattle.cr_syntax.specs.Units as units
use Rattle.cr_syntax_machine.specs.Machine.{Labels, Test, Manner, has, Allows, passes, unit}
use Rattle.cr_syntax_machine.specs.MachineBody.{body, is_designator, label_start}
use Rattle.cr_syntax.proofs.Tests.{is_of, some_one}
use Rattle.cr_syntax_machine_laws.proofs.MachineComplete.{allows_upto, get_some}
use Rattle.cr_syntax_machine_laws.proofs.MachineEnds.{Way, stopped, barring, crowded, naming, Ends}
use Rattle.cr_syntax_machine_laws.proofs.MachineShown.{Next, next_definition, next_stray, ShownIn, seen, shown_literal, shown_call, shown_field, shown_designator, shown_label, shown_block, shown_body, shown_definition, shown_stray, every, by_stop, by_level}
use Rattle.cr_syntax_machine_laws.proofs.MachineGrows.{GrownIn}
use Rattle.cr_syntax_machine_laws.proofs.MachineViable.{prefix, prefix_length, upto_behind, upto_fits, leaving_fits, leaving_before, tested, stands_next, is_labels, no_labels, bars_other, bars_label, at_label, grows, further, further_last, further_length, further_grows, alike, alike_with, upto_late, leaving_late, behind_late, barred_inside}
use Rattle.cr_syntax_machine_laws.proofs.MachineFirst.{some_word_of}
use Rattle.cr_syntax_machine_laws.proofs.MachineRuns.{word_in}
use Rattle.std.proofs.lemmas.Bool.{or_cases}

pub unit_of : {us : List Lexeme} {top : Limit} {way : Way} → (g : GrownIn us top way every (rest unit_side) fresh file_scope 0 0) → IsUnit top g.all g.built.0
unit_of {top = top} g = record { after = g.built.1; spells = subst (λ j. Spells g.all top (rest unit_side) fresh file_scope g.built.1 0 g.built.0 0 j) g.size g.built.2 }

-- The first n tokens go on to a unit.
module _ (ts : List Lexeme) (most n : ℕ) (le : n ≤ length ts) (top : Limit) (way : Way)
    (late : (g : Manner) (i d : ℕ) → length (prefix n ts) < i → Allows top g i d) where
  pub completes : (g : GrownIn (prefix n ts) top way every (rest unit_side) fresh file_scope 0 0) → Completes top ts n g.built.0
  completes g = record { text = g.all; alike = alike ts most n le top way late g.all g.front; is_unit = unit_of g }

  completes_with : (g : GrownIn (prefix n ts) top way every (rest unit_side) fresh file_scope 0 0) → n < length ts → (v : Word) → Is g.all n v → Completes top (with_word ts n v) (n + 1) g.built.0
  completes_with g lt v q = record { text = g.all; alike = alike_with ts most n le top way late g.all g.front lt v q; is_unit = unit_of g }

-- fewer tokens begin it too
completes_less : {limit : Limit} {ts : List Lexeme} {j k : ℕ} {t : Trees} → j ≤ k → Completes limit ts k t → Completes limit ts j t
completes_less le c = record { text = c.text; alike = λ i x lt q. c.alike i x (omega arith) q; is_unit = c.is_unit }

-- a word of the text is one of the tokens'
word_back : (ts all : List Lexeme) (k : ℕ) (w : Word) → ((i : ℕ) (x : Lexeme) → i < k + 1 → slice_get ts i ≡ Some x → slice_get all i ≡ Some x) → k < length ts → Is all k w → Is ts k w
word_back ts all k w al lt q =
    let x = get_some ts k lt in
    let y : word_at all k ≡ Some (x.0).word = ap word_in (al k x.0 (omega arith) x.1) in
    ap word_in x.1 ∙ (sym y ∙ q)

-- What a row's test says of the word.

is_dot : (ts : List Lexeme) (k : ℕ) (w : Word) → is_designator w ≡ true → Is ts k w → Is ts k word.Dot ⊎ Is ts k word.LeftBracket
is_dot ts k word.Dot q r = inl r
is_dot ts k word.LeftBracket q r = inr r
is_dot ts k _ q r = cc

is_switch_label : (ts : List Lexeme) (k : ℕ) (e : Scopes) → passes ts e k label_start ≡ true → Is ts k word.Case ⊎ Is ts k word.Default
is_switch_label ts k e q = elim (or_cases _ _ q) [ inl x ↦ inl (is_of ts k word.Case x) | inr x ↦ inr (is_of ts k word.Default x) ]

module _ (ts : List Lexeme) (most k : ℕ) (le : k ≤ length ts) (l : Labels) where
  abbrev EndsBy : Way → Type 0
  EndsBy w = Ends body ts (AtMost most) (body (unit l 0)) file_scope 0 w k

  stop_grown : (m : ℕ) → EndsBy (stopped m) → GrownIn (prefix k ts) (Upto k most) (stopped m) every (rest unit_side) fresh file_scope 0 0
  stop_grown m h = grows ts most k le (Upto k most) (stopped m) (upto_late ts most k le k (omega arith)) (unit l 0) file_scope 0 k h (omega arith)
      (record { here = prefix_length k ts le; fits = λ g d y. upto_behind k most g k d (omega arith); free = by_stop }) (λ g i d lt w. allows_upto k most g i d w) fresh

  -- where the program stops: a unit goes on, with as many levels as it says
  pub unit_begins : (m : ℕ) → EndsBy (stopped m) → Begins (Upto k most) ts k
  unit_begins m h = let g = stop_grown m h in record { trees = g.built.0; completes = completes ts most k le (Upto k most) (stopped m) (upto_late ts most k le k (omega arith)) g }

  pub unit_leaves : (m : ℕ) → EndsBy (stopped m) → m < most → Begins (Leaving k most) ts k
  unit_leaves m h y =
      let g = grows ts most k le (Leaving k most) (stopped m) (leaving_late ts most k le) (unit l 0) file_scope 0 k h (omega arith)
      (record { here = prefix_length k ts le; fits = λ g d r. leaving_fits k most m y g k d r; free = by_stop }) (leaving_before k most) fresh in
      record { trees = g.built.0; completes = completes ts most k le (Leaving k most) (stopped m) (leaving_late ts most k le) g }

  bar_grown : (x : Test) (n m : ℕ) → is_labels x n ≡ false → EndsBy (barring x n m) → GrownIn (prefix k ts) (Upto k most) (barring x n m) every (rest unit_side) fresh file_scope 0 0
  bar_grown x n m o h = grows ts most k le (Upto k most) (barring x n m) (upto_late ts most k le k (omega arith)) (unit l 0) file_scope 0 k h (omega arith)
      (bars_other ts most k le (Upto k most) (barring x n m) (upto_late ts most k le k (omega arith)) x n k m o
      (record { here = prefix_length k ts le; fits = λ g d y. upto_behind k most g k d (omega arith); so = refl })) (λ g i d lt w. allows_upto k most g i d w) fresh

  label_grown : (f : Word → Bool) (n m : ℕ) → is_labels (has f) n ≡ true → EndsBy (barring (has f) n m) → k < length ts →
      GrownIn (prefix (k + 1) ts) (Upto k most) (barring (has f) n m) every (rest unit_side) fresh file_scope 0 0
  label_grown f n m o h lt = let t = tested h in grows ts most (k + 1) (omega arith) (Upto k most) (barring (has f) n m) (λ g i d far. behind_late ts most k le k (omega arith) g i d far lt) (unit l 0) file_scope 0 k h (omega arith)
      (bars_label ts most (k + 1) (omega arith) (Upto k most) (barring (has f) n m) (λ g i d far. behind_late ts most k le k (omega arith) g i d far lt) f n k m o (at_label ts most k lt f n m t.0 t.1))
      (λ g i d lt w. allows_upto k most g i d w) fresh

  bar_completes : (x : Test) (n m : ℕ) → is_labels x n ≡ false → EndsBy (barring x n m) → (t : Trees) × ShownIn every k t (barring x n m) × Completes (Upto k most) ts k t
  bar_completes x n m o h =
      let g = bar_grown x n m o h in
      let e = prefix_length k ts le in
      (g.built.0, subst (λ j. ShownIn every j g.built.0 (barring x n m)) (sym e) g.built.3, completes ts most k le (Upto k most) (barring x n m) (upto_late ts most k le k (omega arith)) g)

  label_completes : (f : Word → Bool) (n m : ℕ) → is_labels (has f) n ≡ true → EndsBy (barring (has f) n m) → k < length ts → (t : Trees) × ShownIn every (k + 1) t (barring (has f) n m) × Completes (Upto k most) ts (k + 1) t
  label_completes f n m o h lt =
      let g = label_grown f n m o h lt in
      let e = prefix_length (k + 1) ts (omega arith) in (
        g.built.0,
        subst (λ j. ShownIn every j g.built.0 (barring (has f) n m)) (sym e) g.built.3,
        completes ts most (k + 1) (omega arith) (Upto k most) (barring (has f) n m) (λ g i d far. behind_late ts most k le k (omega arith) g i d far lt) g,
      )

  -- where a row of the refused forms refuses a token: a unit goes on, and with the word that stands in
  pub unit_barred_begins : (x : Test) (n m : ℕ) → EndsBy (barring x n m) → Begins (Upto k most) ts k
  unit_barred_begins x n m h = by x (is_labels x n) refl h
    where
      by : (x : Test) (b : Bool) → is_labels x n ≡ b → EndsBy (barring x n m) → Begins (Upto k most) ts k
      by x false o h = let g = bar_completes x n m o h in record { trees = g.0; completes = g.2 }
      by (has f) true o h = let g = label_completes f n m o h (barred_inside h) in record { trees = g.0; completes = completes_less (omega arith) g.2 }
      by _ true o h = cc

  pub unit_stands : (x : Test) (n m : ℕ) → EndsBy (barring x n m) → k < length ts → {v : Word} → StandsIn n v → Begins (Upto k most) (with_word ts k v) (k + 1)
  unit_stands x n m h lt {v = v} y =
      let g = bar_grown x n m (no_labels x y) h in
      let e = prefix_length k ts le in
      record {
        trees = g.built.0;
        completes = completes_with ts most k le (Upto k most) (barring x n m) (upto_late ts most k le k (omega arith)) g lt v (subst (λ j. Is g.all j v) (sym e) (stands_next y g.next));
      }

  pub unit_stands_leaving : (x : Test) (n m : ℕ) → EndsBy (barring x n m) → k < length ts → {v : Word} → StandsIn n v → m < most → Begins (Upto (k + 1) most) (with_word ts k v) (k + 1)
  unit_stands_leaving x n m h lt {v = v} y below =
      let g = grows ts most k le (Upto (k + 1) most) (barring x n m) (upto_late ts most k le (k + 1) (omega arith)) (unit l 0) file_scope 0 k h (omega arith)
      (bars_other ts most k le (Upto (k + 1) most) (barring x n m) (upto_late ts most k le (k + 1) (omega arith)) x n k m (no_labels x y)
      (record { here = prefix_length k ts le; fits = λ g d r. upto_fits (k + 1) most m below g k d r; so = refl })) (λ g i d lt w. allows_upto (k + 1) most g i d w) fresh in
      let e = prefix_length k ts le in
      record {
        trees = g.built.0;
        completes = completes_with ts most k le (Upto (k + 1) most) (barring x n m) (upto_late ts most k le (k + 1) (omega arith)) g lt v (subst (λ j. Is g.all j v) (sym e) (stands_next y g.next));
      }

  -- where a level finds no room: a unit goes on behind the opening token
  pub unit_crowded_begins : EndsBy crowded → k < length ts → Begins (Upto k most) ts (k + 1)
  unit_crowded_begins h lt =
      let e = prefix_length (k + 1) ts (omega arith) in
      let g = grows ts most (k + 1) (omega arith) (Upto k most) crowded (λ g i d far. behind_late ts most k le k (omega arith) g i d far lt) (unit l 0) file_scope 0 k h (omega arith) (
        sym e,
        λ g d. upto_behind k most g k d (omega arith),
        λ d. record { here = e; fits = λ g m y. upto_behind k most g (k + 1) m (omega arith); free = by_level },
      ) (λ g i d lt w. allows_upto k most g i d w) fresh in
      record { trees = g.built.0; completes = completes ts most (k + 1) (omega arith) (Upto k most) crowded (λ g i d far. behind_late ts most k le k (omega arith) g i d far lt) g }

  -- Where token k shows that one before it is what a row names.

  earlier_grown : (n r j : ℕ) → j ≤ k → EndsBy (naming n r) → k < length ts → GrownIn (prefix (k + 1) ts) (Upto j most) (naming n r) every (rest unit_side) fresh file_scope 0 0
  earlier_grown n r j y h lt = grows ts most (k + 1) (omega arith) (Upto j most) (naming n r) (λ g i d far. behind_late ts most k le j y g i d far lt) (unit l 0) file_scope 0 k h (omega arith)
      (record { here = prefix_length (k + 1) ts (omega arith); fits = λ g i d r. upto_behind j most g i d (omega arith); so = refl }) (λ g i d lt w. allows_upto j most g i d w) fresh

  pub earlier_inside : (n r : ℕ) → EndsBy (naming n r) → k < length ts
  earlier_inside n r h = elim (eq-or-lt_of_le {n = k} {m = length ts} le) [ inl e ↦ absurd (at_end e h) | inr lt ↦ lt ]
    where
      two_words : {w : Word} (all : List Lexeme) (i j : ℕ) → i ≡ j → (w ≡ word.Semicolon → ⊥) → Is all i w → Is all j word.Semicolon → ⊥
      two_words {w = w} all i j e f q r = f (some_one (sym (subst (λ i. Is all i w) e q) ∙ r))

      none_next : {n r : ℕ} (all : List Lexeme) → Next all (length (further ts)) (naming n r) → Is all (length ts) word.Semicolon → ⊥
      none_next all (next_definition m e q) r = let f = further_length ts in two_words all m (length ts) (omega arith) (λ z. cc) q r
      none_next all (next_stray {n = m} e q q') r = let f = further_length ts in two_words all (m + 1) (length ts) (omega arith) (λ z. cc) q' r

      at_end : {k : ℕ} → k ≡ length ts → Ends body ts (AtMost most) (body (unit l 0)) file_scope 0 (naming n r) k → ⊥
      at_end e h =
          let h' = subst (λ j. Ends body ts (AtMost most) (body (unit l 0)) file_scope 0 (naming n r) j) e h in
          let g = further_grows ts most n r (unit l 0) file_scope 0 h' fresh in
          none_next g.all g.next (g.front.words (length ts) word.Semicolon (further_last ts))

  -- The `...` of a function is before token k, its brace, and a unit goes on behind it in which the function is defined; or
  -- an identifier is right before token k, its colon, and a unit goes on in which it is a label that may not stand there.
  pub data Sighted (n : ℕ) : ℕ → Type 0 where
    of_definition : {t : Trees} → n < k → Is ts k word.LeftBrace → Completes (Upto k most) ts (k + 1) t → Has (variadic_definition n k) t → Sighted n 8
    of_stray : {t : Trees} → n + 1 ≡ k → Is ts n word.Identifier → Is ts k word.Colon → Completes (Upto k most) ts (k + 1) t → wrong_at is_stray n elsewhere t ≡ true → Sighted n 9

  pub earlier_sighted : (n r : ℕ) → EndsBy (naming n r) → Sighted n r
  earlier_sighted n r h =
      let lt = earlier_inside n r h in
      let g = earlier_grown n r k (omega arith) h lt in
      let e = prefix_length (k + 1) ts (omega arith) in
      by g.all (alike ts most (k + 1) (omega arith) (Upto k most) (naming n r) (λ g i d far. behind_late ts most k le k (omega arith) g i d far lt) g.all g.front) lt
      (completes ts most (k + 1) (omega arith) (Upto k most) (naming n r) (λ g i d far. behind_late ts most k le k (omega arith) g i d far lt) g)
      (subst (λ j. Next g.all j (naming n r)) (sym e) g.next) (subst (λ j. ShownIn every j g.built.0 (naming n r)) (sym e) g.built.3)
    where
      by : {r : ℕ} {t : Trees} (all : List Lexeme) → ((i : ℕ) (x : Lexeme) → i < k + 1 → slice_get ts i ≡ Some x → slice_get all i ≡ Some x) → k < length ts → Completes (Upto k most) ts (k + 1) t → Next all (k + 1) (naming n r) →
          ShownIn every (k + 1) t (naming n r) → Sighted n r
      by all al lt c x (seen y) = elim y [ ]
      by {t = t} all al lt c (next_definition m e q) (shown_definition m' e' lt' y) =
          let i : m ≡ k = omega arith in
          let i' : m' ≡ k = omega arith in
          of_definition (omega arith) (word_back ts all k word.LeftBrace (λ i x lt q. al i x (omega arith) q) lt (subst (λ j. Is all j word.LeftBrace) i q)) c (subst (λ j. Has (variadic_definition n j) t) i' y)
      by all al lt c (next_stray e q q') (shown_stray y) =
          let i : n + 1 ≡ k = omega arith in
          of_stray i (word_back ts all n word.Identifier (λ i x lt' q. al i x (omega arith) q) (omega arith) q) (word_back ts all k word.Colon al lt (subst (λ j. Is all j word.Colon) i q')) c (y elsewhere refl)

module _ (ts : List Lexeme) (k : ℕ) (le : k ≤ length ts) (l : Labels) where
  abbrev EndsSo : Way → Type 0
  EndsSo w = Ends body ts (AtMost most_levels) (body (unit l 0)) file_scope 0 w k

  -- the token before is what the row names
  pub earlier_outside : (n r : ℕ) → EndsSo (naming n r) → Outside ts n r
  earlier_outside n r h = by (earlier_sighted ts most_levels k le l n r h)
    where
      by : {r : ℕ} → Sighted ts most_levels k le l n r → Outside ts n r
      by (of_definition lt q c y) = units.variadic_function k lt q c y
      by (of_stray {t = t} e q q' c y) = units.stray_label q (subst (λ j. Is ts j word.Colon) (sym e) q') (subst (λ j. Completes (Upto j most_levels) ts (j + 1) t) (sym e) c) y

  deep : {f : Word → Bool} {n m : ℕ} {t : Trees} → is_labels (has f) n ≡ true → k < length ts → ShownIn every (k + 1) t (barring (has f) n m) → Completes (Upto k most_levels) ts (k + 1) t → Outside ts k n
  deep o lt (seen y) c = elim y [ ]
  deep o lt (shown_designator y) c = cc
  deep o lt (shown_body s y) c = cc
  deep {t = t} o lt (shown_label n e y) c = let i : n ≡ k = omega arith in units.deep_label lt c (subst (λ j. wrong_at is_misplaced j elsewhere t ≡ true) i (y elsewhere refl))

  named : {x : Test} {n m : ℕ} {t : Trees} → is_labels x n ≡ false → (e : Scopes) × (passes ts e k x ≡ true) → ShownIn every k t (barring x n m) → Completes (Upto k most_levels) ts k t → Outside ts k n
  named {t = t} o q (seen (shown_literal y)) c = units.compound_literal (is_of ts k word.LeftBrace q.1) (record { trees = t; completes = c; has = y })
  named {t = t} o q (seen (shown_call y)) c = units.called_expression (is_of ts k word.LeftParen q.1) (record { trees = t; completes = c; has = y })
  named {t = t} o q (seen (shown_field y)) c = units.bit_field (is_of ts k word.Colon q.1) (record { trees = t; completes = c; has = y })
  named {t = t} o q (shown_designator y) c = let w = some_word_of ts k is_designator q.1 in units.designator (is_dot ts k w.0 w.2 w.1) (record { trees = t; completes = c; has = y })
  named o q (shown_label n e y) c = cc
  named {t = t} o q (shown_block s y) c = units.label_as_body s (is_switch_label ts k q.0 q.1) (record { trees = t; completes = c; has = y })
  named {t = t} o q (shown_body s y) c = let w = some_word_of ts k begins_statement q.1 in units.switch_body s w.1 w.2 (record { trees = t; completes = c; has = y })

  -- the token is what the row names
  pub unit_outside : (x : Test) (n m : ℕ) → EndsSo (barring x n m) → Outside ts k n
  unit_outside x n m h = by x (is_labels x n) refl h
    where
      by : (x : Test) (b : Bool) → is_labels x n ≡ b → EndsSo (barring x n m) → Outside ts k n
      by x false o h = let g = bar_completes ts most_levels k le l x n m o h in named o (tested h) g.1 g.2
      by (has f) true o h = let g = label_completes ts most_levels k le l f n m o h (barred_inside h) in deep o (barred_inside h) g.1 g.2
      by _ true o h = cc
