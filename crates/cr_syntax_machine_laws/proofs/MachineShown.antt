-- What a text that goes on behind a refused token's place shows: the word that stands there in the place of a refused
-- form's, and the node that the form's row asks for. Where no row refuses, it need show nothing.
use Rattle.std.proofs.Common.{◌≡◌, ℕ, ◌+◌, ◌<◌, ◌≤◌, Bool, true, false, List, length, refl, sym, subst, inl, inr}
use Rattle.std.specs.Prelude.{◌==◌, ◌||◌, ◌&&◌}
use Rattle.std.proofs.lemmas.Bool.Decides.{eqb_tells}
use Rattle.cr_syntax.specs.declared.word.Word.{Word}
use Rattle.cr_syntax.specs.declared.word.Word.TheVariants as word
use Rattle.cr_syntax.specs.declared.node.Kind.{Kind}
use Rattle.cr_syntax.specs.declared.node.Kind.TheVariants as kind
use Rattle.cr_syntax.specs.declared.part.Part.{Part}
use Rattle.cr_syntax.specs.declared.part.Part.TheVariants as part
use Rattle.cr_syntax.specs.declared.part.Context.{Context}
use Rattle.cr_syntax.specs.Words.{Lexeme}
use Rattle.cr_syntax.specs.Scopes.{Scopes}
use Rattle.cr_syntax.specs.Trees.{Trees, none, node, one, ◌&◌}
use Rattle.cr_syntax.specs.Grammar as grammar
use Rattle.cr_syntax.specs.Spells.{Limit, Is, Spells, a}
use Rattle.cr_syntax.specs.Spells as spells
use Rattle.cr_syntax.specs.Units.{Has, has_here, has_inside, has_after, one_begins_at, one_ends_at, initializer_at, cast_operand_at, postfix_before, member_before, switch_body_at, variadic_definition}
use Rattle.cr_syntax.specs.Units.{Place, place_in, is_misplaced, is_stray, wrong_at}
use Rattle.cr_syntax_machine.specs.Machine.{Manner, Test, the, has, Allows, levels_at}
use Rattle.cr_syntax_machine.specs.MachineBody.{is_identifier, in_row, in_parameters, is_designator, is_label, label_start, statement_start}
use Rattle.cr_syntax_machine_laws.proofs.MachineEnds.{Way, stopped, barring, crowded, naming}
use Rattle.cr_syntax_machine_laws.proofs.MachineExtend.{Front}
use Rattle.cr_syntax_machine_laws.proofs.MachineMeans.{has_some}
use Rattle.cr_syntax_machine.proofs.MachineSpells.{is_one}
use Rattle.cr_syntax_machine_laws.proofs.MachineSound.{two_parameters}
use Rattle.std.proofs.lemmas.Bool.{or_left, or_right}

-- the word at token k, by the way in which the token there is refused
pub data Next (all : List Lexeme) (k : ℕ) : Way → Type 0 where
  next_stopped : {d : ℕ} → Next all k (stopped d)
  next_crowded : Next all k crowded
  next_designator : {d : ℕ} → Is all k word.LeftBrace → Next all k (barring (has is_designator) 2 d)
  next_literal : {d : ℕ} → Is all k word.LeftParen → Next all k (barring (the word.LeftBrace) 3 d)
  next_call : {d : ℕ} → Is all k word.LeftBracket → Next all k (barring (the word.LeftParen) 4 d)
  next_field : {d : ℕ} → Is all k word.Semicolon → Next all k (barring (the word.Colon) 5 d)
  next_label : {d : ℕ} → Next all k (barring (has is_label) 6 d)
  next_block : {d : ℕ} → Next all k (barring label_start 6 d)
  next_body : {d : ℕ} → Is all k word.LeftBrace → Next all k (barring statement_start 7 d)
  next_definition : {n : ℕ} (m : ℕ) → m + 1 ≡ k → Is all m word.LeftBrace → Next all k (naming n 8)
  next_stray : {n : ℕ} → n + 1 + 1 ≡ k → Is all n word.Identifier → Is all (n + 1) word.Colon → Next all k (naming n 9)

-- the node in the trees of an expression or a type
pub data Shown (k : ℕ) (t : Trees) : Way → Type 0 where
  shown_stopped : {d : ℕ} → Shown k t (stopped d)
  shown_crowded : Shown k t crowded
  shown_literal : {d : ℕ} → Has (cast_operand_at k) t → Shown k t (barring (the word.LeftBrace) 3 d)
  shown_call : {d : ℕ} → Has (postfix_before k) t → Shown k t (barring (the word.LeftParen) 4 d)
  shown_field : {d : ℕ} → Has (member_before k) t → Shown k t (barring (the word.Colon) 5 d)

-- The same in the trees of a unit, which stand in one of these places. A label of a switch, a definition's brace and the
-- colon behind an identifier are the token before k.
pub data ShownIn (at : Place → Bool) (k : ℕ) (t : Trees) : Way → Type 0 where
  seen : {w : Way} → Shown k t w → ShownIn at k t w
  shown_designator : {d : ℕ} → Has (initializer_at k) t → ShownIn at k t (barring (has is_designator) 2 d)
  shown_label : {d : ℕ} (n : ℕ) → n + 1 ≡ k → ((p : Place) → at p ≡ true → wrong_at is_misplaced n p t ≡ true) → ShownIn at k t (barring (has is_label) 6 d)
  shown_block : {d : ℕ} (s : ℕ) → Has (switch_body_at s k) t → ShownIn at k t (barring label_start 6 d)
  shown_body : {d : ℕ} (s : ℕ) → Has (switch_body_at s k) t → ShownIn at k t (barring statement_start 7 d)
  shown_definition : {n : ℕ} (m : ℕ) → m + 1 ≡ k → n < m → Has (variadic_definition n m) t → ShownIn at k t (naming n 8)
  shown_stray : {n : ℕ} → ((p : Place) → at p ≡ true → wrong_at is_stray n p t ≡ true) → ShownIn at k t (naming n 9)

-- wherever the trees stand
abbrev pub every : Place → Bool
every p = true

-- the same of a list of initializers or of an initializer alone, of which the node that shows it is still to come
pub data Started (k : ℕ) (t : Trees) : Way → Type 0 where
  started : {w : Way} → ShownIn every k t w → Started k t w
  started_here : {d : ℕ} → one_begins_at k t ≡ true → Started k t (barring (has is_designator) 2 d)

-- no row refuses
pub data Unbarred : Way → Type 0 where
  by_stop : {d : ℕ} → Unbarred (stopped d)
  by_level : Unbarred crowded

-- what is known of token i, the first one behind us, where d levels are open: what has no more may stand there
pub record Room (us : List Lexeme) (top : Limit) (way : Way) (i d : ℕ) : Type 0 where
  pub here : i ≡ length us
  pub fits : (g : Manner) (n : ℕ) → levels_at g n ≤ d → Allows top g i n
  pub free : Unbarred way

-- the same where a row of the refused forms refuses it
pub record Barred (us : List Lexeme) (top : Limit) (way : Way) (x : Test) (n i d : ℕ) : Type 0 where
  pub here : i ≡ length us
  pub fits : (g : Manner) (m : ℕ) → levels_at g m ≤ d → Allows top g i m
  pub so : barring x n d ≡ way

-- the same where a label before it stands deeper than a switch's own block
pub record Labelled (us : List Lexeme) (top : Limit) (way : Way) (f : Word → Bool) (n i d : ℕ) : Type 0 where
  pub here : i + 1 ≡ length us
  pub fits : (g : Manner) (j m : ℕ) → i ≤ j → Allows top g j m
  pub word : Word
  pub is : Is us i word
  pub passes : f word ≡ true
  pub so : barring (has f) n d ≡ way

-- the same where the token stands before it that shows that token n is what a row names
pub record Earlier (us : List Lexeme) (top : Limit) (way : Way) (n r i : ℕ) : Type 0 where
  pub here : i + 1 ≡ length us
  pub fits : (g : Manner) (j m : ℕ) → i ≤ j → Allows top g j m
  pub so : naming n r ≡ way

pub next_free : {all : List Lexeme} {k : ℕ} {w : Way} → Unbarred w → Next all k w
next_free by_stop = next_stopped
next_free by_level = next_crowded

pub shown_free : {k : ℕ} {t : Trees} {w : Way} → Unbarred w → Shown k t w
shown_free by_stop = shown_stopped
shown_free by_level = shown_crowded

pub next_more : {us all : List Lexeme} {k : ℕ} {w : Way} → Front us all → Next us k w → Next all k w
next_more f next_stopped = next_stopped
next_more f next_crowded = next_crowded
next_more f (next_designator q) = next_designator (f.words _ _ q)
next_more f (next_literal q) = next_literal (f.words _ _ q)
next_more f (next_call q) = next_call (f.words _ _ q)
next_more f (next_field q) = next_field (f.words _ _ q)
next_more f next_label = next_label
next_more f next_block = next_block
next_more f (next_body q) = next_body (f.words _ _ q)
next_more f (next_definition m e q) = next_definition m e (f.words _ _ q)
next_more f (next_stray e q q') = next_stray e (f.words _ _ q) (f.words _ _ q')

-- A node stays in larger trees.

pub has_left : {test : Kind → ℕ → ℕ → Trees → Bool} {t : Trees} → Has test t → (u : Trees) → Has test (t & u)
has_left (has_here x) u = has_here x
has_left (has_inside x) u = has_inside x
has_left (has_after x) u = has_after (has_left x u)

has_right : {test : Kind → ℕ → ℕ → Trees → Bool} (t : Trees) {u : Trees} → Has test u → Has test (t & u)
has_right none x = x
has_right (node k i j b n) x = has_after (has_right n x)

carried : {k : ℕ} {t u : Trees} {w : Way} → ((test : Kind → ℕ → ℕ → Trees → Bool) → Has test t → Has test u) → Shown k t w → Shown k u w
carried f shown_stopped = shown_stopped
carried f shown_crowded = shown_crowded
carried {k = k} f (shown_literal x) = shown_literal (f (cast_operand_at k) x)
carried {k = k} f (shown_call x) = shown_call (f (postfix_before k) x)
carried {k = k} f (shown_field x) = shown_field (f (member_before k) x)

pub left : {k : ℕ} {t : Trees} {w : Way} → Shown k t w → (u : Trees) → Shown k (t & u) w
left x u = carried (λ test y. has_left y u) x

pub right : {k : ℕ} (t : Trees) {u : Trees} {w : Way} → Shown k u w → Shown k (t & u) w
right t x = carried (λ test y. has_right t y) x

pub inside : {k : ℕ} {q : Kind} {i j : ℕ} {t : Trees} {w : Way} → Shown k t w → Shown k (one q i j t) w
inside x = carried (λ test y. has_inside y) x

-- as the first part of a node, the second and the third, with others behind it
pub first : {k : ℕ} {q : Kind} {i j : ℕ} {t : Trees} {w : Way} → Shown k t w → (u : Trees) → Shown k (one q i j (t & u)) w
first x u = inside (left x u)

pub second : {k : ℕ} {q : Kind} {i j : ℕ} (t : Trees) {u : Trees} {w : Way} → Shown k u w → (v : Trees) → Shown k (one q i j (t & u & v)) w
second t x v = inside (right t (left x v))

pub third : {k : ℕ} {q : Kind} {i j : ℕ} (t u : Trees) {v : Trees} {w : Way} → Shown k v w → (z : Trees) → Shown k (one q i j (t & u & v & z)) w
third t u x z = inside (right t (right u (left x z)))

-- in a row of specifiers
pub row_shown : {k : ℕ} {w : Way} (p : Part) (s e : ℕ) (t : Trees) → Shown k t w → Shown k (in_row p s e t) w
row_shown p s e none x = inside x
row_shown p s e (node q i j b none) x = x
row_shown p s e (node q i j b (node q' i' j' b' n')) x = inside x

-- among parameters: the one token `void` has no parts
void_alone : {ts : List Lexeme} {limit : Limit} {h : Context} {c e : Scopes} {d i j i' j' : ℕ} {b : Trees} → Spells ts limit (a part.Parameter) h c e d (one kind.Void i' j' b) i j → b ≡ none
void_alone (spells.of_alternative x f s) = elim x [ ]
void_alone (spells.of_chain grammar.parameter_unnamed f s) = at_row s
  where
    at_plain : {ts : List Lexeme} {limit : Limit} {h : Context} {c e : Scopes} {d i j i' j' : ℕ} {b : Trees} → Spells ts limit (a part.Plain) h c e d (one kind.Void i' j' b) i j → b ≡ none
    at_plain (spells.of_alternative grammar.type_void f (spells.token q w spells.done)) = refl
    at_plain (spells.of_chain x f s) = elim x [ ]

    at_specifier : {ts : List Lexeme} {limit : Limit} {h : Context} {c e : Scopes} {d i j i' j' : ℕ} {b : Trees} → Spells ts limit (a part.Specifier) h c e d (one kind.Void i' j' b) i j → b ≡ none
    at_specifier (spells.of_alternative x f s) = elim x [ ]
    at_specifier (spells.of_chain grammar.specifier_plain f s) = at_plain s

    at_row : {ts : List Lexeme} {limit : Limit} {h : Context} {c e : Scopes} {d i j i' j' : ℕ} {b : Trees} → Spells ts limit (a part.Specifiers) h c e d (one kind.Void i' j' b) i j → b ≡ none
    at_row (spells.of_alternative x f s) = elim x [ ]
    at_row (spells.of_chain grammar.specifiers_one f s) = at_specifier s

-- and shows nothing
void_shows : {k i j : ℕ} {t : Trees} {w : Way} → Shown k (one kind.Void i j none) w → Shown k t w
void_shows shown_stopped = shown_stopped
void_shows shown_crowded = shown_crowded
void_shows (shown_literal (has_here x)) = cc
void_shows (shown_literal (has_inside x)) = elim x [ ]
void_shows (shown_literal (has_after x)) = elim x [ ]
void_shows (shown_call (has_here x)) = cc
void_shows (shown_call (has_inside x)) = elim x [ ]
void_shows (shown_call (has_after x)) = elim x [ ]
void_shows (shown_field (has_here x)) = cc
void_shows (shown_field (has_inside x)) = elim x [ ]
void_shows (shown_field (has_after x)) = elim x [ ]

-- a parameter alone
pub parameter_shown : {ts : List Lexeme} {limit : Limit} {h : Context} {c e : Scopes} {d i j k : ℕ} {t : Trees} {w : Way} → Spells ts limit (a part.Parameter) h c e d t i j → Shown k t w → Shown k (in_parameters i j t) w
parameter_shown {ts = ts} {limit = limit} {h = h} {c = c} {e = e} {d = d} {i = i} {j = j} {k = k} {w = w} s x =
    let y = is_one s in
    subst (λ z. Shown k (in_parameters i j z) w) (sym y.2) (by y.0 (subst (λ z. Spells ts limit (a part.Parameter) h c e d z i j) y.2 s) (subst (λ z. Shown k z w) y.2 x))
  where
    by : {b : Trees} (q : Kind) → Spells ts limit (a part.Parameter) h c e d (one q i j b) i j → Shown k (one q i j b) w → Shown k (in_parameters i j (one q i j b)) w
    by kind.Void s x = void_shows (subst (λ z. Shown k (one kind.Void i j z) w) (void_alone s) x)
    by _ s x = x

-- several
pub parameters_shown : {k : ℕ} {w : Way} (s e : ℕ) (t u : Trees) → has_some t ≡ true → has_some u ≡ true → Shown k (t & u) w → Shown k (in_parameters s e (t & u)) w
parameters_shown {k = k} {w = w} s e t u y z x = subst (λ v. Shown k v w) (sym (two_parameters s e t u y z)) (inside x)

-- In the trees of a unit, where a label stands where its statement does.

or_last : (x y z z' : Bool) → x || y || z ≡ true → (z ≡ true → z' ≡ true) → x || y || z' ≡ true
or_last true y z z' q f = refl
or_last false true z z' q f = refl
or_last false false z z' q f = f q

wrong_left : (f : Kind → Place → Bool) (n : ℕ) (p : Place) (t u : Trees) → wrong_at f n p t ≡ true → wrong_at f n p (t & u) ≡ true
wrong_left f n p none u x = cc
wrong_left f n p (node q i j b m) u x = or_last ((i == n) && f q p) (wrong_at f n (place_in q p) b) (wrong_at f n p m) (wrong_at f n p (m & u)) x (λ y. wrong_left f n p m u y)

wrong_right : (f : Kind → Place → Bool) (n : ℕ) (p : Place) (t u : Trees) → wrong_at f n p u ≡ true → wrong_at f n p (t & u) ≡ true
wrong_right f n p none u x = x
wrong_right f n p (node q i j b m) u x = or_right ((i == n) && f q p || wrong_at f n (place_in q p) b) (wrong_at f n p (m & u)) (wrong_right f n p m u x)

carried_in : {at at' : Place → Bool} {k : ℕ} {t u : Trees} {w : Way} → ((test : Kind → ℕ → ℕ → Trees → Bool) → Has test t → Has test u) →
    ((f : Kind → Place → Bool) (n : ℕ) → ((p : Place) → at p ≡ true → wrong_at f n p t ≡ true) → (p : Place) → at' p ≡ true → wrong_at f n p u ≡ true) → ShownIn at k t w → ShownIn at' k u w
carried_in f g (seen x) = seen (carried f x)
carried_in {k = k} f g (shown_designator x) = shown_designator (f (initializer_at k) x)
carried_in f g (shown_label n e x) = shown_label n e (g is_misplaced n x)
carried_in {k = k} f g (shown_block s x) = shown_block s (f (switch_body_at s k) x)
carried_in {k = k} f g (shown_body s x) = shown_body s (f (switch_body_at s k) x)
carried_in f g (shown_definition {n = n} m e l x) = shown_definition m e l (f (variadic_definition n m) x)
carried_in f g (shown_stray {n = n} x) = shown_stray (g is_stray n x)

-- in other places, if those are some of these
pub moved : {at at' : Place → Bool} {k : ℕ} {t : Trees} {w : Way} → ((p : Place) → at' p ≡ true → at p ≡ true) → ShownIn at k t w → ShownIn at' k t w
moved f x = carried_in (λ test y. y) (λ f' n g p y. g p (f p y)) x

pub anywhere : {at : Place → Bool} {k : ℕ} {t : Trees} {w : Way} → ShownIn every k t w → ShownIn at k t w
anywhere x = moved (λ p y. refl) x

pub left_in : {at : Place → Bool} {k : ℕ} {t : Trees} {w : Way} → ShownIn at k t w → (u : Trees) → ShownIn at k (t & u) w
left_in {t = t} x u = carried_in (λ test y. has_left y u) (λ f n g p y. wrong_left f n p t u (g p y)) x

pub right_in : {at : Place → Bool} {k : ℕ} (t : Trees) {u : Trees} {w : Way} → ShownIn at k u w → ShownIn at k (t & u) w
right_in t {u = u} x = carried_in (λ test y. has_right t y) (λ f n g p y. wrong_right f n p t u (g p y)) x

-- in a node whose parts stand so where it stands so
pub within : {at at' : Place → Bool} {k : ℕ} {q : Kind} {i j : ℕ} {t : Trees} {w : Way} → ((p : Place) → at' p ≡ true → at (place_in q p) ≡ true) → ShownIn at k t w → ShownIn at' k (one q i j t) w
within {q = q} {i = i} {t = t} f x = carried_in (λ test y. has_inside y)
    (λ f' n g p y. or_left ((i == n) && f' q p || wrong_at f' n (place_in q p) t) false (or_right ((i == n) && f' q p) (wrong_at f' n (place_in q p) t) (g (place_in q p) (f p y)))) x

pub wherever : {at : Place → Bool} {k : ℕ} {q : Kind} {i j : ℕ} {t : Trees} {w : Way} → ShownIn every k t w → ShownIn at k (one q i j t) w
wherever x = within (λ p y. refl) x

-- The nodes of the refused forms' rows.

pub next_so : {all : List Lexeme} {k : ℕ} {v w : Way} → v ≡ w → Next all k v → Next all k w
next_so {all = all} {k = k} e x = subst (λ w. Next all k w) e x

pub shown_so : {k : ℕ} {t : Trees} {v w : Way} → v ≡ w → Shown k t v → Shown k t w
shown_so {k = k} {t = t} e x = subst (λ w. Shown k t w) e x

pub shown_in_so : {at : Place → Bool} {k : ℕ} {t : Trees} {v w : Way} → v ≡ w → ShownIn at k t v → ShownIn at k t w
shown_in_so {at = at} {k = k} {t = t} e x = subst (λ w. ShownIn at k t w) e x

pub started_so : {k : ℕ} {t : Trees} {v w : Way} → v ≡ w → Started k t v → Started k t w
started_so {k = k} {t = t} e x = subst (λ w. Started k t w) e x

pub same_number : (i k : ℕ) → i ≡ k → (i == k) ≡ true
same_number i k e = elim (eqb_tells i k) [ inl y ↦ y.0 | inr y ↦ absurd (y.1 e) ]

-- a cast's operand begins at token k
pub operand_begins : {t : Trees} {q : Kind} {i j k n : ℕ} {b : Trees} → t ≡ one q i j b → n ≡ k → (z : Kind) (m l : ℕ) (v u : Trees) → cast_operand_at k kind.Cast l m (t & node z n m v u) ≡ true
operand_begins {k = k} {n = n} y e z m l v u = subst (λ x. cast_operand_at k kind.Cast l m (x & node z n m v u) ≡ true) (sym y) (or_left (n == k) (one_begins_at k u) (same_number n k e))

-- a postfix expression ends before token k
pub postfix_ends : {ts : List Lexeme} {limit : Limit} {h : Context} {c e : Scopes} {d i j k : ℕ} {t : Trees} → Spells ts limit (a part.Postfix) h c e d t i j → is_identifier t ≡ false → j ≡ k → Has (postfix_before k) t
postfix_ends {j = j} {k = k} (spells.of_alternative grammar.call f s) u y = has_here (same_number j k y)
postfix_ends {j = j} {k = k} (spells.of_alternative grammar.subscript f s) u y = has_here (same_number j k y)
postfix_ends {j = j} {k = k} (spells.of_alternative grammar.member f s) u y = has_here (same_number j k y)
postfix_ends {j = j} {k = k} (spells.of_alternative grammar.pointer_member f s) u y = has_here (same_number j k y)
postfix_ends {j = j} {k = k} (spells.of_alternative grammar.post_increment f s) u y = has_here (same_number j k y)
postfix_ends {j = j} {k = k} (spells.of_alternative grammar.post_decrement f s) u y = has_here (same_number j k y)
postfix_ends (spells.of_chain grammar.postfix_primary f (spells.of_alternative grammar.identifier g s)) u y = cc
postfix_ends {j = j} {k = k} (spells.of_chain grammar.postfix_primary f (spells.of_alternative grammar.integer_constant g s)) u y = has_here (same_number j k y)
postfix_ends {j = j} {k = k} (spells.of_chain grammar.postfix_primary f (spells.of_alternative grammar.character_constant g s)) u y = has_here (same_number j k y)
postfix_ends {j = j} {k = k} (spells.of_chain grammar.postfix_primary f (spells.of_alternative grammar.string_literal g s)) u y = has_here (same_number j k y)
postfix_ends {j = j} {k = k} (spells.of_chain grammar.postfix_primary f (spells.of_alternative grammar.parenthesized g s)) u y = has_here (same_number j k y)
postfix_ends (spells.of_chain grammar.postfix_primary f (spells.of_chain x g s)) u y = elim x [ ]

-- a member's declarator ends before token k, behind its specifiers and maybe others
pub declarator_ends : {t : Trees} {q : Kind} {i j k : ℕ} {b : Trees} (y : Trees) → has_some y ≡ true → t ≡ one q i j b → j ≡ k → (l m : ℕ) → member_before k kind.MemberDeclaration l m (y & t) ≡ true
declarator_ends none n x e l m = cc
declarator_ends {q = q} {i = i} {j = j} {k = k} {b = b} (node z l' m' v r) n x e l m = subst (λ t. one_ends_at k (r & t) ≡ true) (sym x) (behind r)
  where
    behind : (r : Trees) → one_ends_at k (r & one q i j b) ≡ true
    behind none = or_left (j == k) false (same_number j k e)
    behind (node z l m v r) = subst (λ x. ((m == k) || x) ≡ true) (sym (behind r)) (or_right (m == k) true refl)

-- A list of initializers goes on, and ends in its node.

begins_left : (k : ℕ) (t u : Trees) → one_begins_at k t ≡ true → one_begins_at k (t & u) ≡ true
begins_left k none u x = cc
begins_left k (node q i j b n) u x = two_or (i == k) (one_begins_at k n) (one_begins_at k (n & u)) x (λ y. begins_left k n u y)
  where
    two_or : (x y y' : Bool) → (x || y) ≡ true → (y ≡ true → y' ≡ true) → (x || y') ≡ true
    two_or true y y' q f = refl
    two_or false y y' q f = f q

begins_right : (k : ℕ) (t u : Trees) → one_begins_at k u ≡ true → one_begins_at k (t & u) ≡ true
begins_right k none u x = x
begins_right k (node q i j b n) u x = subst (λ y. ((i == k) || y) ≡ true) (sym (begins_right k n u x)) (or_right (i == k) true refl)

pub started_right : {k : ℕ} (t : Trees) {u : Trees} {w : Way} → Started k u w → Started k (t & u) w
started_right t (started x) = started (right_in t x)
started_right {k = k} t {u = u} (started_here b) = started_here (begins_right k t u b)

pub in_list : {k i j : ℕ} {t : Trees} {w : Way} → Started k t w → Started k (one kind.InitializerList i j t) w
in_list (started x) = started (wherever x)
in_list (started_here b) = started (shown_designator (has_here b))

pub in_declarator : {k i j : ℕ} {t u : Trees} {q : Kind} {i' j' : ℕ} {b : Trees} {w : Way} → t ≡ one q i' j' b → Started k u w → ShownIn every k (one kind.InitDeclarator i j (t & u & none)) w
in_declarator {t = t} y (started x) = wherever (right_in t (left_in x none))
in_declarator {k = k} {i = i} {j = j} {u = u} {w = w} y (started_here b) =
    subst (λ z. ShownIn every k (one kind.InitDeclarator i j (z & u & none)) w) (sym y) (shown_designator (has_here (begins_left k u none b)))
