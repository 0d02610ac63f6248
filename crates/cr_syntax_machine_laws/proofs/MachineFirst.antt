-- First tokens, the tokens that go on with an expression, and what the machine's tests say of them.
use Rattle.std.proofs.Common.{◌≡◌, ℕ, ◌+◌, ◌<◌, ◌≤◌, Bool, true, false, not, ◌&&◌, List, [], ◌∷◌, Option, None, Some, refl, sym, ap, subst, ◌∙◌, arith}
use Rattle.std.specs.Prelude.{nat_le, ◌++◌, if◌then◌else◌}
use borrow.Author.Tests.{leb-true}
use denote.Enum.Bare.{true_same, same_true}
use Rattle.cr_syntax.specs.contracts.word.Word as word_type
use Rattle.cr_syntax.specs.declared.word.Word.{Word}
use Rattle.cr_syntax.specs.declared.word.Word.TheVariants as word
use Rattle.cr_syntax.specs.declared.node.Kind.{Kind}
use Rattle.cr_syntax.specs.declared.part.Part.{Part}
use Rattle.cr_syntax.specs.declared.part.Part.TheVariants as part
use Rattle.cr_syntax.specs.declared.part.Context.{Context}
use Rattle.cr_syntax.specs.Words.{Lexeme, spelling_at, word_at}
use Rattle.cr_syntax.specs.Scopes.{Scopes, is_type}
use Rattle.cr_syntax.specs.Trees.{Trees}
use Rattle.cr_syntax.specs.Grammar as grammar
use Rattle.cr_syntax.specs.Spells.{Limit, Is, IsIdentifier, Spells, a}
use Rattle.cr_syntax.specs.Spells as spells
use Rattle.cr_syntax.specs.Reads.{is_word, same_word}
use Rattle.cr_syntax_machine.specs.Machine.{Goal, Prog, Manner, Reply, Runs, Allows, Done, Failed, choose, call, give, has_word, passes, run_give, run_take, run_pass, run_call, run_fail}
use Rattle.cr_syntax_machine.specs.Machine as m
use Rattle.cr_syntax_machine.specs.MachineBody.{Words, is_plain_start, type_start, is_unary}
use Rattle.cr_syntax_machine_laws.specs.MachineLaws.{rank_of, IsFree}
use Rattle.cr_syntax.proofs.Tests.{is_of, both, not_true, some_one}
use Rattle.std.proofs.lemmas.Bool.{false_from_ne_true, or_from}

pub none_true : {A : Type 0} → false ≡ true → A
none_true q = cc

pub true_false : {A : Type 0} → true ≡ false → A
true_false q = cc

-- A token and another word.

pub same_is : (v w : Word) → same_word v w ≡ true → v ≡ w
same_is v w q = same_true word_type.the_type tt v w q

pub yes : {o : Option Word} {w : Word} → o ≡ Some w → elim o as (λ _. Bool) [ None ↦ false | Some v ↦ same_word v w ] ≡ true
yes {w = w} q = subst (λ o. elim o as (λ _. Bool) [ None ↦ false | Some v ↦ same_word v w ] ≡ true) (sym q) (true_same word_type.the_type w w refl)

pub differs : {o : Option Word} {v : Word} → o ≡ Some v → (w : Word) → same_word v w ≡ false → elim o as (λ _. Bool) [ None ↦ false | Some v ↦ same_word v w ] ≡ false
differs q w n = subst (λ o. elim o as (λ _. Bool) [ None ↦ false | Some v ↦ same_word v w ] ≡ false) (sym q) n

pub sorted : {o : Option Word} {w : Word} (f : Word → Bool) (b : Bool) → o ≡ Some w → f w ≡ b → elim o as (λ _. Bool) [ None ↦ false | Some v ↦ f v ] ≡ b
sorted f b q n = subst (λ o. elim o as (λ _. Bool) [ None ↦ false | Some v ↦ f v ] ≡ b) (sym q) n

-- the word that passes a test
pub some_word_of : (ts : List Lexeme) (i : ℕ) (f : Word → Bool) → has_word ts i f ≡ true → (w : Word) × Is ts i w × (f w ≡ true)
some_word_of ts i f = by (word_at ts i)
  where
    by : (o : Option Word) → elim o as (λ _. Bool) [ None ↦ false | Some w ↦ f w ] ≡ true → (w : Word) × (o ≡ Some w) × (f w ≡ true)
    by None q = none_true q
    by (Some w) q = (w, refl, q)

pub free_by : {ts : List Lexeme} {n j : ℕ} {w : Word} → Is ts j w → n < rank_of w → IsFree ts n j
free_by {n = n} {w = w} q lt = record { all = λ v q'. subst (λ x. n < rank_of x) (some_one (sym q ∙ q')) lt }

pub lower : {ts : List Lexeme} {m n j : ℕ} → IsFree ts n j → m ≤ n → IsFree ts m j
lower f le = record { all = λ w q. let lt = f.all w q in omega arith }

pub fails : {ts : List Lexeme} {n j : ℕ} → IsFree ts n j → (w : Word) → rank_of w ≤ n → is_word ts j w ≡ false
fails {ts = ts} {j = j} f w le = false_from_ne_true (is_word ts j w) (λ q. let lt = f.all w (is_of ts j w q) in omega arith)

-- Tables of words.

abbrev pub all_below : ℕ → Words → Bool
all_below n [] = true
all_below n (r ∷ rs) = nat_le (rank_of r.0) n && all_below n rs

abbrev pub all_differ : Word → Words → Bool
all_differ w [] = true
all_differ w (r ∷ rs) = not (same_word w r.0) && all_differ w rs

-- the first row of a word
pub data Row (w : Word) (k : Kind) : Words → Type 0 where
  row_here : {rs : Words} → Row w k ((w, k) ∷ rs)
  row_next : {v : Word} {l : Kind} {rs : Words} → same_word w v ≡ false → Row w k rs → Row w k ((v, l) ∷ rs)

-- the kind that a table gives a word, and its row
abbrev pub kind_in : Words → Word → Option Kind
kind_in [] w = None
kind_in (r ∷ rs) w = if same_word w r.0 then Some r.1 else kind_in rs w

pub row_found : (rs : Words) {w : Word} {k : Kind} → kind_in rs w ≡ Some k → Row w k rs
row_found [] q = cc
row_found (r ∷ rs) {w = w} {k = k} q = by (same_word w r.0) refl (λ x. row_found rs x) q
  where
    by : (b : Bool) → same_word w r.0 ≡ b → (kind_in rs w ≡ Some k → Row w k rs) → (if b then Some r.1 else kind_in rs w) ≡ Some k → Row w k (r ∷ rs)
    by true e f q = subst (λ v. Row w k ((v, r.1) ∷ rs)) (same_is w r.0 e) (subst (λ l. Row w k ((w, l) ∷ rs)) (some_one (sym q)) row_here)
    by false e f q = row_next {v = r.0} {l = r.1} e (f q)

pub later_row : {w : Word} {k : Kind} (qs rs : Words) → all_differ w qs ≡ true → Row w k rs → Row w k (qs ++ rs)
later_row [] rs q x = x
later_row {w = w} (r ∷ qs) rs q x = let n = both (not (same_word w r.0)) (all_differ w qs) q in row_next {v = r.0} {l = r.1} (not_true (same_word w r.0) n.0) (later_row qs rs n.1 x)

pub tail : {body : Goal → Prog} {ts : List Lexeme} {limit : Limit} {g : Goal} {c : Scopes} {i : ℕ} {r : Reply} → Runs body ts limit (body g) c i r → Runs body ts limit (call g give) c i r
tail {r = Done t e j} h = run_call h run_give
tail {r = Failed x k} h = run_fail h

module _ (body : Goal → Prog) (ts : List Lexeme) (limit : Limit) where
  pub takes : {w : Word} {k : Kind} {rs : Words} → Row w k rs → (g : Manner) (d : ℕ) (p : Kind → Prog) (q : Prog) {c : Scopes} {i : ℕ} {r : Reply} → Is ts i w → Allows limit g i d →
      Runs body ts limit (p k) c (i + 1) r → Runs body ts limit (choose g rs d p q) c i r
  takes row_here g d p q x y h = run_take (yes x) y h
  takes (row_next {v = v} n z) g d p q x y h = run_pass (differs x v n) (takes z g d p q x y h)

  pub skips : {w : Word} (rs : Words) (g : Manner) (d : ℕ) (p : Kind → Prog) (q : Prog) {c : Scopes} {i : ℕ} {r : Reply} → Is ts i w → all_differ w rs ≡ true →
      Runs body ts limit q c i r → Runs body ts limit (choose g rs d p q) c i r
  skips [] g d p q x y h = h
  skips {w = w} (r ∷ rs) g d p q x y h =
      let n = both (not (same_word w r.0)) (all_differ w rs) y in
      run_pass (differs x r.0 (not_true (same_word w r.0) n.0)) (skips rs g d p q x n.1 h)

  pub ends : {n : ℕ} (rs : Words) (g : Manner) (d : ℕ) (p : Kind → Prog) (q : Prog) {c : Scopes} {i : ℕ} {r : Reply} → IsFree ts n i → all_below n rs ≡ true →
      Runs body ts limit q c i r → Runs body ts limit (choose g rs d p q) c i r
  ends [] g d p q x y h = h
  ends {n = n} (r ∷ rs) g d p q x y h =
      let v = both (nat_le (rank_of r.0) n) (all_below n rs) y in
      run_pass (fails x r.0 (leb-true (rank_of r.0) n v.0)) (ends rs g d p q x v.1 h)

-- The first token of an expression: a word that only an expression begins with, or an identifier that is no type.
abbrev pub starts : Word → Bool
starts word.Integer = true
starts word.Character = true
starts word.Text = true
starts word.LeftParen = true
starts word.PlusPlus = true
starts word.MinusMinus = true
starts word.Ampersand = true
starts word.Star = true
starts word.Plus = true
starts word.Minus = true
starts word.Tilde = true
starts word.Bang = true
starts word.Sizeof = true
starts _ = false

pub data First (ts : List Lexeme) (c : Scopes) (i : ℕ) : Type 0 where
  by_word : {w : Word} → Is ts i w → starts w ≡ true → First ts c i
  by_name : IsIdentifier ts c i false → First ts c i

-- the words that no expression begins with
pub data Never : Word → Type 0 where
  never_bracket : Never word.RightBracket
  never_paren : Never word.RightParen
  never_brace : Never word.LeftBrace

no_start : (v w : Word) → Never w → starts v ≡ true → same_word v w ≡ false
no_start v w n s = false_from_ne_true (same_word v w) (λ q. by n (subst (λ x. starts x ≡ true) (same_is v w q) s))
  where
    by : {x : Word} → Never x → starts x ≡ true → ⊥
    by never_bracket q = none_true q
    by never_paren q = none_true q
    by never_brace q = none_true q

pub never : {ts : List Lexeme} {c : Scopes} {i : ℕ} {w : Word} → First ts c i → Never w → is_word ts i w ≡ false
never {w = w} (by_word {w = v} q s) n = differs q w (no_start v w n s)
never (by_name q) never_bracket = differs q.0 word.RightBracket refl
never (by_name q) never_paren = differs q.0 word.RightParen refl
never (by_name q) never_brace = differs q.0 word.LeftBrace refl

pub not_first : {ts : List Lexeme} {c : Scopes} {i : ℕ} → First ts c i → (w : Word) → starts w ≡ false → same_word word.Identifier w ≡ false → is_word ts i w ≡ false
not_first (by_word {w = v} q s) w n z = differs q w (false_from_ne_true (same_word v w) (λ x. true_false (sym s ∙ ap starts (same_is v w x) ∙ n)))
not_first (by_name q) w n z = differs q.0 w z

plain_start : (w : Word) → starts w ≡ true → is_plain_start w ≡ false
plain_start word.Const q = none_true q
plain_start word.Volatile q = none_true q
plain_start word.Void q = none_true q
plain_start word.Char q = none_true q
plain_start word.Short q = none_true q
plain_start word.Int q = none_true q
plain_start word.Long q = none_true q
plain_start word.Signed q = none_true q
plain_start word.Unsigned q = none_true q
plain_start word.Bool q = none_true q
plain_start word.Struct q = none_true q
plain_start word.Enum q = none_true q
plain_start _ q = refl

pub name_start : (w : Word) → starts w ≡ true → same_word w word.Identifier ≡ false
name_start word.Identifier q = none_true q
name_start _ q = refl

pub and_false : (x y z : Bool) → x ≡ false → x && y && z ≡ false
and_false x y z p = ap (λ b. b && y && z) p

pub and_first : (x y z : Bool) → y ≡ false → x && y && z ≡ false
and_first true y z p = ap (λ b. b && z) p
and_first false y z p = refl

-- no type name begins there
pub not_type : {ts : List Lexeme} {c : Scopes} {i : ℕ} → First ts c i → passes ts c i type_start ≡ false
not_type {ts = ts} {c = c} {i = i} (by_word {w = w} q s) =
    or_from (has_word ts i is_plain_start) (passes ts c i (m.type_identifier false)) (sorted is_plain_start false q (plain_start w s))
    (and_false (is_word ts i word.Identifier) (is_type c (spelling_at ts i)) true (differs q word.Identifier (name_start w s)))
not_type {ts = ts} {c = c} {i = i} (by_name q) =
    or_from (has_word ts i is_plain_start) (passes ts c i (m.type_identifier false)) (sorted is_plain_start false q.0 refl)
    (and_first (is_word ts i word.Identifier) (is_type c (spelling_at ts i)) true q.1)

-- Part by part, from the tightest on.

pub first_primary : {ts : List Lexeme} {limit : Limit} {h : Context} {c e : Scopes} {d i j : ℕ} {t : Trees} → Spells ts limit (a part.Primary) h c e d t i j → First ts c i
first_primary (spells.of_chain x f s) = elim x [ ]
first_primary (spells.of_alternative grammar.identifier f (spells.ordinary q w s)) = by_name q
first_primary (spells.of_alternative grammar.integer_constant f (spells.token q w s)) = by_word q refl
first_primary (spells.of_alternative grammar.character_constant f (spells.token q w s)) = by_word q refl
first_primary (spells.of_alternative grammar.string_literal f (spells.texts_one q w)) = by_word q refl
first_primary (spells.of_alternative grammar.string_literal f (spells.texts_more q w s)) = by_word q refl
first_primary (spells.of_alternative grammar.parenthesized f (spells.opens q w s)) = by_word q refl

pub first_postfix : {ts : List Lexeme} {limit : Limit} {h : Context} {c e : Scopes} {d i j : ℕ} {t : Trees} → Spells ts limit (a part.Postfix) h c e d t i j → First ts c i
first_postfix (spells.of_chain grammar.postfix_primary f s) = first_primary s
first_postfix (spells.of_alternative grammar.call f (spells.ordinary q w s)) = by_name q
first_postfix (spells.of_alternative grammar.subscript f (spells.part x s)) = first_postfix x
first_postfix (spells.of_alternative grammar.member f (spells.part x s)) = first_postfix x
first_postfix (spells.of_alternative grammar.pointer_member f (spells.part x s)) = first_postfix x
first_postfix (spells.of_alternative grammar.post_increment f (spells.part x s)) = first_postfix x
first_postfix (spells.of_alternative grammar.post_decrement f (spells.part x s)) = first_postfix x

pub first_unary : {ts : List Lexeme} {limit : Limit} {h : Context} {c e : Scopes} {d i j : ℕ} {t : Trees} → Spells ts limit (a part.Unary) h c e d t i j → First ts c i
first_unary (spells.of_chain grammar.unary_postfix f s) = first_postfix s
first_unary (spells.of_alternative grammar.pre_increment f (spells.opens q w s)) = by_word q refl
first_unary (spells.of_alternative grammar.pre_decrement f (spells.opens q w s)) = by_word q refl
first_unary (spells.of_alternative grammar.address_of f (spells.opens q w s)) = by_word q refl
first_unary (spells.of_alternative grammar.dereference f (spells.opens q w s)) = by_word q refl
first_unary (spells.of_alternative grammar.plus f (spells.opens q w s)) = by_word q refl
first_unary (spells.of_alternative grammar.minus f (spells.opens q w s)) = by_word q refl
first_unary (spells.of_alternative grammar.complement f (spells.opens q w s)) = by_word q refl
first_unary (spells.of_alternative grammar.logical_not f (spells.opens q w s)) = by_word q refl
first_unary (spells.of_alternative grammar.sizeof_expression f (spells.opens q w s)) = by_word q refl
first_unary (spells.of_alternative grammar.sizeof_type f (spells.opens q w s)) = by_word q refl

pub first_cast : {ts : List Lexeme} {limit : Limit} {h : Context} {c e : Scopes} {d i j : ℕ} {t : Trees} → Spells ts limit (a part.Cast) h c e d t i j → First ts c i
first_cast (spells.of_chain grammar.cast_unary f s) = first_unary s
first_cast (spells.of_alternative grammar.cast f (spells.opens q w s)) = by_word q refl

pub first_multiplicative : {ts : List Lexeme} {limit : Limit} {h : Context} {c e : Scopes} {d i j : ℕ} {t : Trees} → Spells ts limit (a part.Multiplicative) h c e d t i j → First ts c i
first_multiplicative (spells.of_chain grammar.binary_5 f s) = first_cast s
first_multiplicative (spells.of_alternative grammar.multiply f (spells.part x s)) = first_multiplicative x
first_multiplicative (spells.of_alternative grammar.divide f (spells.part x s)) = first_multiplicative x
first_multiplicative (spells.of_alternative grammar.remainder f (spells.part x s)) = first_multiplicative x

pub first_additive : {ts : List Lexeme} {limit : Limit} {h : Context} {c e : Scopes} {d i j : ℕ} {t : Trees} → Spells ts limit (a part.Additive) h c e d t i j → First ts c i
first_additive (spells.of_chain grammar.binary_6 f s) = first_multiplicative s
first_additive (spells.of_alternative grammar.add f (spells.part x s)) = first_additive x
first_additive (spells.of_alternative grammar.subtract f (spells.part x s)) = first_additive x

pub first_shift : {ts : List Lexeme} {limit : Limit} {h : Context} {c e : Scopes} {d i j : ℕ} {t : Trees} → Spells ts limit (a part.Shift) h c e d t i j → First ts c i
first_shift (spells.of_chain grammar.binary_7 f s) = first_additive s
first_shift (spells.of_alternative grammar.shift_left f (spells.part x s)) = first_shift x
first_shift (spells.of_alternative grammar.shift_right f (spells.part x s)) = first_shift x

pub first_relational : {ts : List Lexeme} {limit : Limit} {h : Context} {c e : Scopes} {d i j : ℕ} {t : Trees} → Spells ts limit (a part.Relational) h c e d t i j → First ts c i
first_relational (spells.of_chain grammar.binary_8 f s) = first_shift s
first_relational (spells.of_alternative grammar.less f (spells.part x s)) = first_relational x
first_relational (spells.of_alternative grammar.greater f (spells.part x s)) = first_relational x
first_relational (spells.of_alternative grammar.less_equal f (spells.part x s)) = first_relational x
first_relational (spells.of_alternative grammar.greater_equal f (spells.part x s)) = first_relational x

pub first_equality : {ts : List Lexeme} {limit : Limit} {h : Context} {c e : Scopes} {d i j : ℕ} {t : Trees} → Spells ts limit (a part.Equality) h c e d t i j → First ts c i
first_equality (spells.of_chain grammar.binary_9 f s) = first_relational s
first_equality (spells.of_alternative grammar.equal f (spells.part x s)) = first_equality x
first_equality (spells.of_alternative grammar.not_equal f (spells.part x s)) = first_equality x

pub first_and : {ts : List Lexeme} {limit : Limit} {h : Context} {c e : Scopes} {d i j : ℕ} {t : Trees} → Spells ts limit (a part.And) h c e d t i j → First ts c i
first_and (spells.of_chain grammar.binary_10 f s) = first_equality s
first_and (spells.of_alternative grammar.and f (spells.part x s)) = first_and x

pub first_xor : {ts : List Lexeme} {limit : Limit} {h : Context} {c e : Scopes} {d i j : ℕ} {t : Trees} → Spells ts limit (a part.Xor) h c e d t i j → First ts c i
first_xor (spells.of_chain grammar.binary_11 f s) = first_and s
first_xor (spells.of_alternative grammar.exclusive_or f (spells.part x s)) = first_xor x

pub first_or : {ts : List Lexeme} {limit : Limit} {h : Context} {c e : Scopes} {d i j : ℕ} {t : Trees} → Spells ts limit (a part.Or) h c e d t i j → First ts c i
first_or (spells.of_chain grammar.binary_12 f s) = first_xor s
first_or (spells.of_alternative grammar.inclusive_or f (spells.part x s)) = first_or x

pub first_logical_and : {ts : List Lexeme} {limit : Limit} {h : Context} {c e : Scopes} {d i j : ℕ} {t : Trees} → Spells ts limit (a part.LogicalAnd) h c e d t i j → First ts c i
first_logical_and (spells.of_chain grammar.binary_13 f s) = first_or s
first_logical_and (spells.of_alternative grammar.logical_and f (spells.part x s)) = first_logical_and x

pub first_logical_or : {ts : List Lexeme} {limit : Limit} {h : Context} {c e : Scopes} {d i j : ℕ} {t : Trees} → Spells ts limit (a part.LogicalOr) h c e d t i j → First ts c i
first_logical_or (spells.of_chain grammar.binary_14 f s) = first_logical_and s
first_logical_or (spells.of_alternative grammar.logical_or f (spells.part x s)) = first_logical_or x

pub first_conditional : {ts : List Lexeme} {limit : Limit} {h : Context} {c e : Scopes} {d i j : ℕ} {t : Trees} → Spells ts limit (a part.Conditional) h c e d t i j → First ts c i
first_conditional (spells.of_chain grammar.conditional_binary f s) = first_logical_or s
first_conditional (spells.of_alternative grammar.conditional f (spells.part x s)) = first_logical_or x

pub first_assignment : {ts : List Lexeme} {limit : Limit} {h : Context} {c e : Scopes} {d i j : ℕ} {t : Trees} → Spells ts limit (a part.Assignment) h c e d t i j → First ts c i
first_assignment (spells.of_chain grammar.assignment_conditional f s) = first_conditional s
first_assignment (spells.of_alternative grammar.assign f (spells.part x s)) = first_unary x
first_assignment (spells.of_alternative grammar.multiply_assign f (spells.part x s)) = first_unary x
first_assignment (spells.of_alternative grammar.divide_assign f (spells.part x s)) = first_unary x
first_assignment (spells.of_alternative grammar.remainder_assign f (spells.part x s)) = first_unary x
first_assignment (spells.of_alternative grammar.add_assign f (spells.part x s)) = first_unary x
first_assignment (spells.of_alternative grammar.subtract_assign f (spells.part x s)) = first_unary x
first_assignment (spells.of_alternative grammar.shift_left_assign f (spells.part x s)) = first_unary x
first_assignment (spells.of_alternative grammar.shift_right_assign f (spells.part x s)) = first_unary x
first_assignment (spells.of_alternative grammar.and_assign f (spells.part x s)) = first_unary x
first_assignment (spells.of_alternative grammar.xor_assign f (spells.part x s)) = first_unary x
first_assignment (spells.of_alternative grammar.or_assign f (spells.part x s)) = first_unary x

pub first_expression : {ts : List Lexeme} {limit : Limit} {h : Context} {c e : Scopes} {d i j : ℕ} {t : Trees} → Spells ts limit (a part.Expression) h c e d t i j → First ts c i
first_expression (spells.of_chain grammar.expression_assignment f s) = first_assignment s
first_expression (spells.of_alternative grammar.comma f (spells.part x s)) = first_expression x

-- what an assignment operator can stand behind is known by its kind
pub data Unary : Part → Type 0 where
  a_unary : Unary part.Unary
  a_postfix : Unary part.Postfix
  a_primary : Unary part.Primary

pub unary_is : {ts : List Lexeme} {limit : Limit} {p : Part} {h : Context} {c e : Scopes} {d i j : ℕ} {t : Trees} →
    Unary p → Spells ts limit (a p) h c e d t i j → is_unary t ≡ true
unary_is a_unary (spells.of_chain grammar.unary_postfix f s) = unary_is a_postfix s
unary_is a_unary (spells.of_alternative grammar.pre_increment f s) = refl
unary_is a_unary (spells.of_alternative grammar.pre_decrement f s) = refl
unary_is a_unary (spells.of_alternative grammar.address_of f s) = refl
unary_is a_unary (spells.of_alternative grammar.dereference f s) = refl
unary_is a_unary (spells.of_alternative grammar.plus f s) = refl
unary_is a_unary (spells.of_alternative grammar.minus f s) = refl
unary_is a_unary (spells.of_alternative grammar.complement f s) = refl
unary_is a_unary (spells.of_alternative grammar.logical_not f s) = refl
unary_is a_unary (spells.of_alternative grammar.sizeof_expression f s) = refl
unary_is a_unary (spells.of_alternative grammar.sizeof_type f s) = refl
unary_is a_postfix (spells.of_chain grammar.postfix_primary f s) = unary_is a_primary s
unary_is a_postfix (spells.of_alternative grammar.call f s) = refl
unary_is a_postfix (spells.of_alternative grammar.subscript f s) = refl
unary_is a_postfix (spells.of_alternative grammar.member f s) = refl
unary_is a_postfix (spells.of_alternative grammar.pointer_member f s) = refl
unary_is a_postfix (spells.of_alternative grammar.post_increment f s) = refl
unary_is a_postfix (spells.of_alternative grammar.post_decrement f s) = refl
unary_is a_primary (spells.of_chain x f s) = elim x [ ]
unary_is a_primary (spells.of_alternative grammar.identifier f s) = refl
unary_is a_primary (spells.of_alternative grammar.integer_constant f s) = refl
unary_is a_primary (spells.of_alternative grammar.character_constant f s) = refl
unary_is a_primary (spells.of_alternative grammar.string_literal f s) = refl
unary_is a_primary (spells.of_alternative grammar.parenthesized f s) = refl
