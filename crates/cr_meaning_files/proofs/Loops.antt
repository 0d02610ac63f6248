-- The clauses of a `for`, as its operation finds them, are those that the check reads (C11 6.8.5.3).
use Rattle.std.proofs.Common.{◌≡◌, ℕ, zero, suc, ◌+◌, ◌<◌, ◌≤◌, ◌==◌, inl, inr, Bool, true, false, ◌||◌, List, [], ◌∷◌, ◌++◌, Option, None, Some, length, option_to_list, slice_get, refl, sym, subst, ap, ◌∙◌, arith, if◌then◌else◌}
use Rattle.std.proofs.lemmas.Bool.{eq-eqb, ne_eqb, or_left, or_right, false≢true}
use Rattle.cr_syntax.specs.declared.word.Word.{Word}
use Rattle.cr_syntax.specs.declared.word.Word.TheVariants as word
use Rattle.cr_syntax.specs.declared.node.Kind.{Kind}
use Rattle.cr_syntax.specs.declared.node.Kind.TheVariants as kind
use Rattle.cr_syntax.specs.declared.node.Node.{Node}
use Rattle.cr_syntax.specs.declared.part.Part.TheVariants as part
use Rattle.cr_syntax.specs.Kept.{row_in}
use Rattle.cr_syntax.specs.Tables.{rule_of, side_of}
use Rattle.cr_syntax_nodes.specs.Laid.{stands_for, IsLaid}
use Rattle.cr_syntax_nodes.specs.Loops.{clauses_of, IsClauseAt, IsFirstClauseAt, IsLoop}
use Rattle.cr_syntax_nodes.proofs.Loops.{loop}
use Rattle.cr_check_expressions.specs.Forms.{form_of}
use Rattle.cr_typed.specs.declared.typed.Typed.{Typed}
use Rattle.cr_meaning_operations.specs.Operations.{kind_if, kind_at, parts_if, parts_at, first_if, last_if, first_at, last_at, part_from, clause_end, is_declaration, last_part, unless_body}
use Rattle.cr_meaning_typing.specs.Typed.Typing.{is_expression}
use Rattle.cr_meaning_declarations.specs.Units.Owned.{AreOfUnit}
use Rattle.cr_meaning_declarations.proofs.UnitsLemmas.Handing.{laid_at, parts_below}
use Rattle.cr_meaning_files.specs.Reached.{is_item}
use Rattle.cr_meaning_files.proofs.Tables.{items_stand}
use Rattle.cr_meaning_references.proofs.TreesLemmas.Expressions.{expressions_stand}

declaration_alone : (k : Kind) → stands_for part.Declaration k ≡ true → k ≡ kind.Declaration
unfolding rule_of
declaration_alone kind.Declaration h = refl
declaration_alone k h = absurd (false≢true h)

expression_declares_nothing : (k : Kind) → is_expression (form_of k) ≡ true → is_declaration k ≡ false
expression_declares_nothing kind.Declaration h = absurd (false≢true h)
expression_declares_nothing k h = refl

statement_declares_nothing : (k : Kind) → stands_for part.Statement k ≡ true → is_declaration k ≡ false
unfolding rule_of
statement_declares_nothing kind.Declaration h = absurd (false≢true h)
statement_declares_nothing k h = refl

-- the last number of a row
last_is : (xs : List ℕ) (body : ℕ) → last_part (xs ++ body ∷ []) ≡ body
last_is [] body = refl
last_is (x ∷ []) body = refl
last_is (x ∷ y ∷ xs) body = last_is (y ∷ xs) body

pub last_there : (ps : List ℕ) (body : ℕ) (xs : List ℕ) → ps ≡ xs ++ body ∷ [] → (last_part ps ≡ body) × ((k : ℕ) × (slice_get ps k ≡ Some (last_part ps)))
last_there ps body xs e =
    let last = ap last_part e ∙ last_is xs body in
    (last, (length xs, ap (λ qs. slice_get qs (length xs)) e ∙ behind xs ∙ ap Some (sym last)))
  where
    behind : (ys : List ℕ) → slice_get (ys ++ body ∷ []) (length ys) ≡ Some body
    behind [] = refl
    behind (y ∷ ys) = behind ys

pub step_there : (body : ℕ) (o : Option ℕ) (p : ℕ) → unless_body body o ≡ Some p → o ≡ Some p
step_there body None p e = absurd (cc e)
step_there body (Some q) p e = by (q == body) e
  where
    by : (b : Bool) → (if b then None else Some q) ≡ Some p → Some q ≡ Some p
    by true e = absurd (cc e)
    by false e = e

module _ (t : Typed) where
  -- ---- the part that begins at a token

  pub from_at : (ps : List ℕ) (token p : ℕ) → part_from t ps token ≡ Some p → (k : ℕ) × (slice_get ps k ≡ Some p)
  from_at [] token p e = absurd (cc e)
  from_at (q ∷ ps) token p e = by (first_at t q == token) e (λ x. from_at ps token p x)
    where
      by : (b : Bool) → (if b then Some q else part_from t ps token) ≡ Some p → (part_from t ps token ≡ Some p → (k : ℕ) × (slice_get ps k ≡ Some p)) → (k : ℕ) × (slice_get (q ∷ ps) k ≡ Some p)
      by true f rest = (0, f)
      by false f rest = let r = rest f in (suc r.0, r.1)

  taken : (p token : ℕ) (ps : List ℕ) → first_at t p ≡ token → part_from t (p ∷ ps) token ≡ Some p
  taken p token ps e = ap (λ b. if b then Some p else part_from t ps token) (eq-eqb (first_at t p) token e)

  passed : (p token : ℕ) (ps : List ℕ) → (first_at t p ≡ token → ⊥) → part_from t (p ∷ ps) token ≡ part_from t ps token
  passed p token ps f = ap (λ b. if b then Some p else part_from t ps token) (ne_eqb (first_at t p) token f)

  -- all of these begin at a token or behind it
  abbrev Begin : ℕ → List ℕ → Type 0
  Begin m [] = Unit {0}
  Begin m (q ∷ qs) = (m ≤ first_at t q) × Begin m qs

  earlier : (m l : ℕ) (qs : List ℕ) → l ≤ m → Begin m qs → Begin l qs
  earlier m l [] le h = tt
  earlier m l (q ∷ qs) le h = (let x = h.0 in omega (arith, x, le), earlier m l qs le h.1)

  none_from : (m token : ℕ) (qs : List ℕ) → token < m → Begin m qs → part_from t qs token ≡ None
  none_from m token [] less h = refl
  none_from m token (q ∷ qs) less h = passed q token qs (λ e. let x = h.0 in absurd (omega (arith, x, less, e))) ∙ none_from m token qs less h.1

  module _ (unit : AreOfUnit t) where
    -- where a node stands
    span : (p : ℕ) (n : Node) → slice_get t.nodes p ≡ Some n → (first_at t p ≡ n.first) × ((last_at t p ≡ n.last) × (n.first ≤ n.last))
    span p n at = (ap first_if at, (ap last_if at, (unit.within p n at).0))

    -- a clause that may be left out, before parts that begin at its end
    clause_begins : (w : Word) (o : Option ℕ) (i j : ℕ) (qs : List ℕ) → IsClauseAt unit.tokens t.nodes w o i j → Begin j qs → Begin i (option_to_list o ++ qs) × (i < j)
    clause_begins w None i j qs c h = let e = c.1 in (earlier j i qs (omega (arith, e)) h, omega (arith, e))
    clause_begins w (Some p) i j qs c h =
        let s = span p c.0 c.1.0.at in
        let first = s.0 in
        let forth = s.1.1 in
        let at = c.1.0.first in
        let e = c.1.1.1 in
        ((omega (arith, first, at), earlier j i qs (omega (arith, e, forth, at)) h), omega (arith, e, forth, at))

    -- it is found where it begins
    clause_found : (w : Word) (o : Option ℕ) (i j : ℕ) (qs : List ℕ) → IsClauseAt unit.tokens t.nodes w o i j → Begin j qs → part_from t (option_to_list o ++ qs) i ≡ o
    clause_found w None i j qs c h = let e = c.1 in none_from j i qs (omega (arith, e)) h
    clause_found w (Some p) i j qs c h = let s = span p c.0 c.1.0.at in taken p i qs (s.0 ∙ c.1.0.first)

    abbrev IsKind : ℕ → Type 0
    IsKind p = (is_expression (form_of (kind_at t p)) || is_item (kind_at t p)) ≡ true

    of_expression : (p : ℕ) (n : Node) → slice_get t.nodes p ≡ Some n → stands_for part.Expression n.kind ≡ true → is_expression (form_of (kind_at t p)) ≡ true
    of_expression p n at s = ap (λ o. is_expression (form_of (kind_if o))) at ∙ expressions_stand part.Expression n.kind refl s

    of_item : (p : ℕ) (n : Node) → slice_get t.nodes p ≡ Some n → is_item n.kind ≡ true → IsKind p
    of_item p n at s = or_right (is_expression (form_of (kind_at t p))) (is_item (kind_at t p)) (ap (λ o. is_item (kind_if o)) at ∙ s)

    abbrev AreKinds : List ℕ → Type 0
    AreKinds [] = Unit {0}
    AreKinds (q ∷ qs) = IsKind q × AreKinds qs

    clause_kinds : (w : Word) (o : Option ℕ) (i j : ℕ) (qs : List ℕ) → IsClauseAt unit.tokens t.nodes w o i j → AreKinds qs → AreKinds (option_to_list o ++ qs)
    clause_kinds w None i j qs c h = h
    clause_kinds w (Some p) i j qs c h = (or_left (is_expression (form_of (kind_at t p))) (is_item (kind_at t p)) (of_expression p c.0 c.1.0.at c.1.0.stands), h)

    kind_in : (qs : List ℕ) (k q : ℕ) → AreKinds qs → slice_get qs k ≡ Some q → IsKind q
    kind_in [] k q h e = absurd (cc e)
    kind_in (p ∷ qs) zero q h e = let same : p ≡ q = cc e in subst IsKind same h.0
    kind_in (p ∷ qs) (suc k) q h e = kind_in qs k q h.1 e

    -- none of these is a declaration
    abbrev DeclareNothing : List ℕ → Type 0
    DeclareNothing [] = Unit {0}
    DeclareNothing (q ∷ qs) = (is_declaration (kind_at t q) ≡ false) × DeclareNothing qs

    clause_declares_nothing : (w : Word) (o : Option ℕ) (i j : ℕ) (qs : List ℕ) → IsClauseAt unit.tokens t.nodes w o i j → DeclareNothing qs → DeclareNothing (option_to_list o ++ qs)
    clause_declares_nothing w None i j qs c h = h
    clause_declares_nothing w (Some p) i j qs c h = (expression_declares_nothing (kind_at t p) (of_expression p c.0 c.1.0.at c.1.0.stands), h)

    no_declaration : (qs : List ℕ) (k q : ℕ) → DeclareNothing qs → slice_get qs k ≡ Some q → is_declaration (kind_at t q) ≡ false
    no_declaration [] k q h e = absurd (cc e)
    no_declaration (p ∷ qs) zero q h e = let same : p ≡ q = cc e in subst (λ x. is_declaration (kind_at t x) ≡ false) same h.0
    no_declaration (p ∷ qs) (suc k) q h e = no_declaration qs k q h.1 e

    -- so a declaration is the first clause
    declares_first : (o : Option ℕ) (qs : List ℕ) (k q : ℕ) → DeclareNothing qs → slice_get (option_to_list o ++ qs) k ≡ Some q → is_declaration (kind_at t q) ≡ true → o ≡ Some q
    declares_first None qs k q h e d = absurd (false≢true (sym (no_declaration qs k q h e) ∙ d))
    declares_first (Some p) qs zero q h e d = e
    declares_first (Some p) qs (suc k) q h e d = absurd (false≢true (sym (no_declaration qs k q h e) ∙ d))

    -- ---- the first clause

    abbrev First : Option ℕ → ℕ → ℕ → Type 0
    First o i j = IsFirstClauseAt unit.tokens t.nodes o i j

    first_kinds : (o : Option ℕ) (i j : ℕ) (qs : List ℕ) → First o i j → AreKinds qs → AreKinds (option_to_list o ++ qs)
    first_kinds None i j qs c h = h
    first_kinds (Some p) i j qs (n, inl x) h = (of_item p n x.0.at (ap is_item (declaration_alone n.kind x.0.stands)), h)
    first_kinds (Some p) i j qs (n, inr x) h = (or_left (is_expression (form_of (kind_at t p))) (is_item (kind_at t p)) (of_expression p n x.0.at x.0.stands), h)

    first_found : (o : Option ℕ) (i j : ℕ) (qs : List ℕ) → First o i j → Begin j qs → part_from t (option_to_list o ++ qs) i ≡ o
    first_found None i j qs c h = let e = c.1 in none_from j i qs (omega (arith, e)) h
    first_found (Some p) i j qs (n, inl x) h = taken p i qs ((span p n x.0.at).0 ∙ x.0.first)
    first_found (Some p) i j qs (n, inr x) h = taken p i qs ((span p n x.0.at).0 ∙ x.0.first)

    -- the test begins behind it
    first_end : (o : Option ℕ) (i j : ℕ) → First o i j → clause_end t i o + 1 ≡ j
    first_end None i j c = sym c.1
    first_end (Some p) i j (n, inl x) =
        let declares : is_declaration (kind_at t p) ≡ true = ap (λ o. is_declaration (kind_if o)) x.0.at ∙ ap is_declaration (declaration_alone n.kind x.0.stands) in
        ap (λ b. (if b then last_at t p else last_at t p + 1) + 1) declares ∙ ap (λ l. l + 1) (span p n x.0.at).1.0 ∙ sym x.1
    first_end (Some p) i j (n, inr x) =
        let no : is_declaration (kind_at t p) ≡ false = expression_declares_nothing (kind_at t p) (of_expression p n x.0.at x.0.stands) in
        ap (λ b. (if b then last_at t p else last_at t p + 1) + 1) no ∙ ap (λ l. l + 1 + 1) (span p n x.0.at).1.0 ∙ sym x.1.1

    -- so it isn't the test
    first_passed : (o : Option ℕ) (i j : ℕ) (qs : List ℕ) → First o i j → part_from t (option_to_list o ++ qs) j ≡ part_from t qs j
    first_passed None i j qs c = refl
    first_passed (Some p) i j qs (n, inl x) =
        let s = span p n x.0.at in
        let begins = s.0 in
        let forth = s.1.1 in
        let ends = x.1 in
        passed p j qs (λ e. absurd (omega (arith, begins, forth, ends, e)))
    first_passed (Some p) i j qs (n, inr x) =
        let s = span p n x.0.at in
        let begins = s.0 in
        let forth = s.1.1 in
        let ends = x.1.1 in
        passed p j qs (λ e. absurd (omega (arith, begins, forth, ends, e)))

    -- ---- a whole `for`

    -- its test is the one that the check reads, and its parts are clauses, and a statement, the last one
    pub record IsWhole (i : ℕ) (n : Node) : Type 0 where
      pub first : part_from t (parts_at t i) (first_at t i + 2) ≡ (clauses_of t.nodes n).first
      pub test_from : ℕ
      pub test_is : clause_end t (first_at t i + 2) (clauses_of t.nodes n).first + 1 ≡ test_from
      pub test : part_from t (parts_at t i) test_from ≡ (clauses_of t.nodes n).test
      pub expression : (a : ℕ) → (clauses_of t.nodes n).test ≡ Some a → is_expression (form_of (kind_at t a)) ≡ true
      pub kinds : (k a : ℕ) → slice_get (parts_at t i) k ≡ Some a → (is_expression (form_of (kind_at t a)) || is_item (kind_at t a)) ≡ true
      pub body_at : (k : ℕ) × (slice_get (parts_at t i) k ≡ Some (last_part (parts_at t i)))
      pub body : is_item (kind_at t (last_part (parts_at t i))) ≡ true
      pub declares : (k a : ℕ) → slice_get (parts_at t i) k ≡ Some a → is_declaration (kind_at t a) ≡ true → part_from t (parts_at t i) (first_at t i + 2) ≡ Some a

    loop_at : (i : ℕ) (n : Node) → slice_get t.nodes i ≡ Some n → n.kind ≡ kind.For → IsLoop unit.tokens t.nodes n (clauses_of t.nodes n)
    loop_at i n at is =
        loop unit.tokens t.nodes unit.below n (parts_below t unit i n at)
        (subst (λ (k : Kind). IsLaid unit.tokens (side_of k) (row_in t.nodes n.parts) n.first (n.last + 1)) is (laid_at t unit i n at))

    test_expression : (o : Option ℕ) (i j : ℕ) → IsClauseAt unit.tokens t.nodes word.Semicolon o i j → (a : ℕ) → o ≡ Some a → is_expression (form_of (kind_at t a)) ≡ true
    test_expression None i j c a e = absurd (cc e)
    test_expression (Some p) i j c a e = let same : p ≡ a = cc e in subst (λ q. is_expression (form_of (kind_at t q)) ≡ true) same (of_expression p c.0 c.1.0.at c.1.0.stands)

    in_front : (a b c : List ℕ) (body : ℕ) → a ++ (b ++ (c ++ body ∷ [])) ≡ (a ++ (b ++ c)) ++ body ∷ []
    in_front [] [] [] body = refl
    in_front [] [] (x ∷ c) body = ap (λ xs. x ∷ xs) (in_front [] [] c body)
    in_front [] (x ∷ b) c body = ap (λ xs. x ∷ xs) (in_front [] b c body)
    in_front (x ∷ a) b c body = ap (λ xs. x ∷ xs) (in_front a b c body)

    pub whole : (i : ℕ) (n : Node) → slice_get t.nodes i ≡ Some n → n.kind ≡ kind.For → IsWhole i n
    whole i n at is =
        let l = loop_at i n at is in
        let c = clauses_of t.nodes n in
        let begins : first_at t i + 2 ≡ n.first + 1 + 1 = (let e = ap first_if at in omega (arith, e)) in
        let row : parts_at t i ≡ option_to_list c.first ++ (option_to_list c.test ++ (option_to_list c.step ++ l.number ∷ [])) = ap parts_if at ∙ l.row in
        let body_begins : Begin l.body_at (l.number ∷ []) = (let e = (span l.number l.body l.is_body.at).0 in let f = l.is_body.first in omega (arith, e, f), tt) in
        let step = clause_begins word.RightParen c.step l.step_at l.body_at (l.number ∷ []) l.step body_begins in
        let test = clause_begins word.Semicolon c.test l.test_at l.step_at (option_to_list c.step ++ l.number ∷ []) l.test step.0 in
        let body_item = items_stand part.Statement l.body.kind refl l.is_body.stands in
        let last = last_there (parts_at t i) l.number (option_to_list c.first ++ (option_to_list c.test ++ option_to_list c.step)) (row ∙ in_front (option_to_list c.first) (option_to_list c.test) (option_to_list c.step) l.number) in
        let kinds = first_kinds c.first (n.first + 1 + 1) l.test_at _ l.first
        (clause_kinds word.Semicolon c.test l.test_at l.step_at _ l.test (clause_kinds word.RightParen c.step l.step_at l.body_at _ l.step (of_item l.number l.body l.is_body.at body_item, tt))) in
        let plain = clause_declares_nothing word.Semicolon c.test l.test_at l.step_at _ l.test
        (clause_declares_nothing word.RightParen c.step l.step_at l.body_at _ l.step (ap (λ o. is_declaration (kind_if o)) l.is_body.at ∙ statement_declares_nothing l.body.kind l.is_body.stands, tt)) in
        let first_is = ap (part_from t (parts_at t i)) begins ∙ ap (λ ps. part_from t ps (n.first + 1 + 1)) row ∙ first_found c.first (n.first + 1 + 1) l.test_at _ l.first test.0 in
        record {
          first = first_is;
          test_from = l.test_at;
          test_is = ap (λ m. clause_end t m c.first + 1) begins ∙ first_end c.first (n.first + 1 + 1) l.test_at l.first;
          test = ap (λ ps. part_from t ps l.test_at) row ∙ first_passed c.first (n.first + 1 + 1) l.test_at _ l.first ∙ clause_found word.Semicolon c.test l.test_at l.step_at _ l.test step.0;
          expression = test_expression c.test l.test_at l.step_at l.test;
          kinds = λ k a e. kind_in _ k a kinds (ap (λ ps. slice_get ps k) (sym row) ∙ e);
          body_at = last.1;
          declares = λ k a e d. first_is ∙ declares_first c.first _ k a plain (ap (λ ps. slice_get ps k) (sym row) ∙ e) d;
          body = ap (λ p. is_item (kind_at t p)) last.0 ∙ ap (λ o. is_item (kind_if o)) l.is_body.at ∙ body_item;
        }
