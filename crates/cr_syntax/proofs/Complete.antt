-- What is spelled is read.
use Rattle.std.proofs.lemmas.Bool.{or_left, or_right}
use Rattle.std.proofs.Common.{◌≡◌, ℕ, zero, suc, ◌+◌, ◌-◌, ◌<◌, ◌≤◌, Bool, true, false, not, ◌&&◌, ◌||◌, List, [], ◌∷◌, Option, None, Some, refl, sym, ap, subst, ◌∙◌, arith, inl, inr}
use Rattle.std.specs.Prelude.{if◌then◌else◌, nat_lt, nat_le}
use borrow.Author.Tests.{eq-eqb, ne_eqb, lt-ltb, le-leb, ltb-true}
use denote.Enum.Bare.{true_same}
use Rattle.cr_syntax.specs.contracts.word.Word as word_type
use Rattle.cr_syntax.specs.declared.word.Word.{Word}
use Rattle.cr_syntax.specs.declared.word.Word.TheVariants as word
use Rattle.cr_syntax.specs.declared.node.Kind.{Kind}
use Rattle.cr_syntax.specs.declared.scopes.TypeName.{TypeName}
use Rattle.cr_syntax.specs.Symbols.{Depth}
use Rattle.cr_syntax.specs.declared.part.Part.{Part}
use Rattle.cr_syntax.specs.declared.part.Part.TheVariants as part
use Rattle.cr_syntax.specs.Symbols as symbol
use Rattle.cr_syntax.specs.declared.part.Context.{Context}
use Rattle.cr_syntax.specs.Chains.{Link}
use Rattle.cr_syntax.specs.Chains.{Makes, Chains, Enters, Drops, Refuses}
use Rattle.cr_syntax.specs.Words.{Lexeme, spelling_at}
use Rattle.cr_syntax.specs.Scopes.{Scopes, is_type, enter}
use Rattle.cr_syntax.specs.Trees.{Trees, none, node, one, ◌&◌}
use Rattle.cr_syntax.specs.Context.{past_token, past_part, at_start, declared_name, fits_together, may_stand}
use Rattle.cr_syntax.specs.Grammar.{Side, Alternative, Chain}
use Rattle.cr_syntax.specs.Tables.{side_of, part_of}
use Rattle.cr_syntax.specs.Chains.{link_of, step_past, same_part}
use Rattle.cr_syntax.specs.Spells.{Spells, Phrase, a, rest, levels, Is, Stands, Within, IsIdentifier, Qualifies, AreQualifiers, qualifiers_none, qualifiers_more}
use Rattle.cr_syntax.specs.Spells as spells
use Rattle.cr_syntax.specs.Reads.{Reader, is_word, same_word, are_words, span_is, is_qualifier, are_qualifiers, span_qualifies, has_room, is_none, first_of, after_of, is_last, alone, begins_at, leads_declaration, entered, dropped, most_links, as_part, list_on, along, reads, next_of, leads}
use Rattle.cr_syntax.specs.Units.{most_levels}
use Rattle.cr_syntax.proofs.Alternatives.{part_only, side_only}
use Rattle.cr_syntax.proofs.Tests.{if_some, both}
use Rattle.cr_syntax.specs.Steps.{part_on, clause_on, step_on, else_on, prototype_on, size_on, qualified_on}
use Rattle.cr_syntax.proofs.Equations.{reads_token, reads_opens, reads_reopens, reads_part, reads_optional, reads_many, reads_list, reads_optional_list, reads_tag, reads_trailing, reads_ordinary, reads_type_identifier, reads_declared, reads_enumerates, reads_value, reads_begins, reads_enters, reads_ends, reads_clause, reads_init, reads_step, reads_else, reads_prototype, reads_size, reads_qualified, reads_optional_qualified, reads_texts, reads_done}
use Rattle.cr_syntax.proofs.Sound.{the_limit}
use Rattle.cr_syntax.proofs.Ranks.{lower, under_itself, under_past, past_is, enters_is, member_up, init_up, parameter_up, differ, link_past, link_makes, rank_small, rank, under}

-- what a node is read as, where one link is left
abbrev on_link : List Lexeme → Reader → ℕ → Part → Context → Scopes → ℕ → Kind → ℕ → ℕ → Trees → Link → Option Scopes
on_link ts r n p h c d k i j t l = elim l [
  | Makes ↦ if fits_together k t then r (side_of k) (at_start p h) c d i j else None
  | Chains q ↦ if may_stand p (one k i j t) then as_part ts r n q (at_start p h) c d k i j t else None
  | Enters ↦ entered ts h (one k i j t) (as_part ts r n part.Declarator h c d k i j t)
  | Drops ↦ dropped (as_part ts r n part.Declarator h c d k i j t)
  | Refuses ↦ None
]

module _ (ts : List Lexeme) (r : Reader) (n : ℕ) (p : Part) (h : Context) (c : Scopes) (d : ℕ) (k : Kind) (i j : ℕ) (t : Trees) where
  by_link : (l : Link) (e : Scopes) → link_of p (part_of k) ≡ l → on_link ts r n p h c d k i j t l ≡ Some e → as_part ts r (suc n) p h c d k i j t ≡ Some e
  unfolding as_part
  by_link l e q m = subst (λ x. on_link ts r n p h c d k i j t x ≡ Some e) (sym q) m

-- the answer to a part: one node, which every number of links above the part's rank is enough to read
pub data PartAnswer (ts : List Lexeme) : Part → Context → Scopes → Scopes → ℕ → Trees → ℕ → ℕ → Type 0 where
  answer : {p : Part} {h : Context} {c e : Scopes} {d i j : ℕ} (k : Kind) (t : Trees) →
      rank (part_of k) ≤ rank p → under p (part_of k) ≡ true →
      ((n : ℕ) → rank p < n → as_part ts (reads ts t) n p h c d k i j t ≡ Some e) →
      PartAnswer ts p h c e d (one k i j t) i j

made : {ts : List Lexeme} {p : Part} {k : Kind} {s : Side} {h : Context} {c e : Scopes} {d i j : ℕ} {t : Trees} →
    Alternative p k s → fits_together k t ≡ true → reads ts t s (at_start p h) c d i j ≡ Some e → PartAnswer ts p h c e d (one k i j t) i j
made {ts = ts} {p = p} {k = k} {s = s} {h = h} {c = c} {e = e} {d = d} {i = i} {j = j} {t = t} m f q =
    answer k t (let w : rank (part_of k) ≡ rank p = ap rank (part_only m) in omega arith)
    (subst (λ x. under p x ≡ true) (sym (part_only m)) (under_itself p))
    read
  where
    read : (n : ℕ) → rank p < n → as_part ts (reads ts t) n p h c d k i j t ≡ Some e
    read zero lt = absurd (omega arith)
    read (suc n) lt = by_link ts (reads ts t) n p h c d k i j t Makes e (link_makes p (part_of k) (part_only m))
        (rw (f) (subst (λ x. reads ts t x (at_start p h) c d i j ≡ Some e) (sym (side_only m)) q))

chained : {ts : List Lexeme} {p q : Part} {h : Context} {c e : Scopes} {d i j : ℕ} {t : Trees} →
    Chain p q → may_stand p t ≡ true → PartAnswer ts q (at_start p h) c e d t i j → PartAnswer ts p h c e d t i j
chained {ts = ts} {p = p} {q = q} {h = h} {c = c} {e = e} {d = d} {i = i} {j = j} m f (answer k t low u r) =
    answer k t (let w : rank q < rank p = lower m in omega arith) (under_past m (part_of k) u) read
  where
    read : (n : ℕ) → rank p < n → as_part ts (reads ts t) n p h c d k i j t ≡ Some e
    read zero lt = absurd (omega arith)
    read (suc n) lt =
        let w : rank q < rank p = lower m in
        let v : rank (part_of k) < rank p = omega arith in
        let n-is : rank q < n = omega arith in
        by_link ts (reads ts t) n p h c d k i j t (Chains q) e (link_past p (part_of k) (differ p (part_of k) v) ∙ past_is m (part_of k) u) (rw (f) (r n n-is))

entering : {ts : List Lexeme} {h : Context} {c e : Scopes} {own : List TypeName} {d i j : ℕ} {t : Trees} (p : Part) → rank p ≡ 2 →
    ((r : Part) → under part.Declarator r ≡ true → step_past p r ≡ Enters) → ((r : Part) → under part.Declarator r ≡ true → under p r ≡ true) →
    PartAnswer ts part.Declarator h c (own ∷ e) d t i j → PartAnswer ts p h c (enter (declared_name ts (past_part h t)) e) d t i j
entering {ts = ts} {h = h} {c = c} {e = e} {own = own} {d = d} {i = i} {j = j} p two to up (answer k t low u r) =
    answer k t (omega arith) (up (part_of k) u) read
  where
    read : (n : ℕ) → rank p < n → as_part ts (reads ts t) n p h c d k i j t ≡ Some (enter (declared_name ts (past_part h (one k i j t))) e)
    read zero lt = absurd (omega arith)
    read (suc n) lt =
        let v : rank (part_of k) < rank p = omega arith in
        let n-is : 1 < n = omega arith in
        by_link ts (reads ts t) n p h c d k i j t Enters _ (link_past p (part_of k) (differ p (part_of k) v) ∙ to (part_of k) u)
        (subst (λ x. entered ts h (one k i j t) x ≡ Some (enter (declared_name ts (past_part h (one k i j t))) e)) (sym (r n n-is)) refl)

dropping : {ts : List Lexeme} {h : Context} {c e : Scopes} {own : List TypeName} {d i j : ℕ} {t : Trees} →
    PartAnswer ts part.Declarator h c (own ∷ e) d t i j → PartAnswer ts part.MemberDeclarator h c e d t i j
dropping {ts = ts} {h = h} {c = c} {e = e} {own = own} {d = d} {i = i} {j = j} (answer k t low u r) =
    answer k t (omega arith) (member_up (part_of k) u) read
  where
    read : (n : ℕ) → 2 < n → as_part ts (reads ts t) n part.MemberDeclarator h c d k i j t ≡ Some e
    read zero lt = absurd (omega arith)
    read (suc n) lt =
        let v : rank (part_of k) < 2 = omega arith in
        let n-is : 1 < n = omega arith in
        by_link ts (reads ts t) n part.MemberDeclarator h c d k i j t Drops e (link_past part.MemberDeclarator (part_of k) (differ part.MemberDeclarator (part_of k) v))
        (subst (λ x. dropped x ≡ Some e) (sym (r n n-is)) refl)

is_true : (ts : List Lexeme) (i : ℕ) (w : Word) → Is ts i w → is_word ts i w ≡ true
is_true ts i w h = subst (λ o. elim o as (λ _. Bool) [ None ↦ false | Some v ↦ same_word v w ] ≡ true) (sym h) (true_same word_type.the_type w w refl)

is_false : (ts : List Lexeme) (i : ℕ) (v w : Word) → Is ts i v → same_word v w ≡ false → is_word ts i w ≡ false
is_false ts i v w h f = subst (λ o. elim o as (λ _. Bool) [ None ↦ false | Some x ↦ same_word x w ] ≡ false) (sym h) f

room_is : (d : ℕ) → d < most_levels → has_room d ≡ true
room_is d lt = lt-ltb d most_levels lt

-- the first tree of a row doesn't begin before a token
abbrev pub Later : ℕ → Trees → Type 0
Later i none = Unit {0}
Later i (node k j j' b n) = i ≤ j

later_down : (i j : ℕ) (t : Trees) → i ≤ j → Later j t → Later i t
later_down i j none le f = tt
later_down i j (node k i' j' b n) le f = omega arith

not_yet : (i : ℕ) (t : Trees) → Later (i + 1) t → begins_at t i ≡ false
not_yet i none f = refl
not_yet i (node k i' j' b n) f = ne_eqb i' i (λ e. absurd (omega arith))

-- the answer to a right side
pub record RowAnswer (ts : List Lexeme) (s : Side) (h : Context) (c e : Scopes) (d : ℕ) (t : Trees) (i j : ℕ) : Type 0 where
  pub read : reads ts t s h c d i j ≡ Some e
  pub later : Later i t

abbrev pub Answer : List Lexeme → Phrase → Context → Scopes → Scopes → ℕ → Trees → ℕ → ℕ → Type 0
Answer ts (a p) h c e d t i j = PartAnswer ts p h c e d t i j
Answer ts (rest s) h c e d t i j = RowAnswer ts s h c e d t i j

-- what a part's answer says of a row that begins with the part
module _ (ts : List Lexeme) where
  leads_is : {p : Part} {h : Context} {c e : Scopes} {d i j : ℕ} {t : Trees} → PartAnswer ts p h c e d t i j → (u : Trees) → leads ts (t & u) p h c d i ≡ Some e
  leads_is {p = p} {i = i} (answer k t low un r) u = rw (eq-eqb i i refl) (r most_links (rank_small p))

  not_none : {p : Part} {h : Context} {c e : Scopes} {d i j : ℕ} {t : Trees} → PartAnswer ts p h c e d t i j → (u : Trees) → is_none (t & u) ≡ false
  not_none (answer k t low un r) u = refl

  begins_it : {p : Part} {h : Context} {c e : Scopes} {d i j : ℕ} {t : Trees} → PartAnswer ts p h c e d t i j → (u : Trees) → begins_at (t & u) i ≡ true
  begins_it {i = i} (answer k t low un r) u = eq-eqb i i refl

  later_it : {p : Part} {h : Context} {c e : Scopes} {d i j : ℕ} {t : Trees} → PartAnswer ts p h c e d t i j → (u : Trees) → Later i (t & u)
  later_it (answer k t low un r) u = omega arith

  next_is : {p : Part} {h : Context} {c e : Scopes} {d i j : ℕ} {t : Trees} → PartAnswer ts p h c e d t i j → (u : Trees) → next_of (t & u) ≡ u
  next_is (answer k t low un r) u = refl

  alone_is : {p : Part} {h : Context} {c e : Scopes} {d i j : ℕ} {t : Trees} → PartAnswer ts p h c e d t i j → (u : Trees) → alone (t & u) ≡ t
  alone_is (answer k t low un r) u = refl

  after_is : {p : Part} {h : Context} {c e : Scopes} {d i j : ℕ} {t : Trees} → PartAnswer ts p h c e d t i j → (u : Trees) → after_of (t & u) ≡ j
  after_is (answer k t low un r) u = refl

  first_is : {p : Part} {h : Context} {c e : Scopes} {d i j : ℕ} {t : Trees} → PartAnswer ts p h c e d t i j → (u : Trees) → first_of (t & u) ≡ i
  first_is (answer k t low un r) u = refl

  last_is : {p : Part} {h : Context} {c e : Scopes} {d i j : ℕ} {t : Trees} → PartAnswer ts p h c e d t i j → (u : Trees) → is_last (t & u) ≡ is_none u
  last_is (answer k t low un r) u = refl

  itself_is : {p : Part} {h : Context} {c e : Scopes} {d i j : ℕ} {t : Trees} → PartAnswer ts p h c e d t i j → t & none ≡ t
  itself_is (answer k t low un r) = refl

  declaration_is : {h : Context} {c e : Scopes} {d i j : ℕ} {t : Trees} → PartAnswer ts part.Declaration h c e d t i j → (u : Trees) → leads_declaration (t & u) ≡ true
  declaration_is (answer k t low un r) u = by (part_of k) un
    where
      by : (q : Part) → under part.Declaration q ≡ true → same_part q part.Declaration ≡ true
      by part.Declaration f = refl
      by _ f = cc

  expression_is : {h : Context} {c e : Scopes} {d i j : ℕ} {t : Trees} → PartAnswer ts part.Expression h c e d t i j → (u : Trees) → leads_declaration (t & u) ≡ false
  expression_is (answer k t low un r) u = by (part_of k) un
    where
      by : (q : Part) → under part.Expression q ≡ true → same_part q part.Declaration ≡ false
      by part.Declaration f = cc
      by _ f = refl

  part_is : {p : Part} {h : Context} {c e : Scopes} {d' i j : ℕ} {t : Trees} (f : Scopes) (s : Side) (u : Trees) (d k : ℕ) → PartAnswer ts p h c e d' t i j →
      reads ts u s (past_part h t) e d j k ≡ Some f → part_on ts (t & u) s h d k (leads ts (t & u) p h c d' i) ≡ Some f
  part_is f s u d k m q = rw (leads_is m u) (rw (next_is m u, alone_is m u, after_is m u) q)

  list_is : {p : Part} {h : Context} {c e : Scopes} {d' i j : ℕ} {t : Trees} (f : Scopes) (l : Depth) (s : Side) (d k : ℕ) → PartAnswer ts p h c e d' t i j →
      reads ts none s (past_part h t) e d j k ≡ Some f → list_on ts (t & none) (reads ts (next_of (t & none))) l p s h d k (leads ts (t & none) p h c d' i) ≡ Some f
  list_is f l s d k m q = rw (leads_is m none) (rw (last_is m none) (rw (next_is m none, alone_is m none, after_is m none) q))

  list_goes_on : {p : Part} {h : Context} {c e : Scopes} {d' i j : ℕ} {t : Trees} (f : Scopes) (l : Depth) (s : Side) (u : Trees) (d k : ℕ) → PartAnswer ts p h c e d' t i j →
      is_none u ≡ false → Is ts j word.Comma → reads ts u (symbol.List l p ∷ s) (past_token h) e d (j + 1) k ≡ Some f →
      list_on ts (t & u) (reads ts (next_of (t & u))) l p s h d k (leads ts (t & u) p h c d' i) ≡ Some f
  list_goes_on f l s u d k m n w q = rw (leads_is m u) (rw (last_is m u) (rw (n) (rw (next_is m u, after_is m u) (rw (is_true ts _ word.Comma w) q))))

  clause_is : {h : Context} {c e : Scopes} {d' i j : ℕ} {t : Trees} (f : Scopes) (s : Side) (u : Trees) (d k : ℕ) → PartAnswer ts part.Expression h c e d' t i j →
      Is ts j word.Semicolon → reads ts u s (past_token h) e d (j + 1) k ≡ Some f → clause_on ts (t & u) s h d k (leads ts (t & u) part.Expression h c d' i) ≡ Some f
  clause_is f s u d k m w q = rw (leads_is m u) (rw (next_is m u, after_is m u) (rw (is_true ts _ word.Semicolon w) q))

  step_is : {h : Context} {c e : Scopes} {d' i j : ℕ} {t : Trees} (f : Scopes) (s : Side) (u : Trees) (d k : ℕ) → PartAnswer ts part.Expression h c e d' t i j →
      Is ts j word.RightParen → d < most_levels → reads ts u s (past_token h) e d (j + 1) k ≡ Some f → step_on ts (t & u) s h d k (leads ts (t & u) part.Expression h c d' i) ≡ Some f
  step_is f s u d k m w lt q = rw (leads_is m u) (rw (next_is m u, after_is m u) (rw (is_true ts _ word.RightParen w, room_is d lt) q))

  else_is : {h : Context} {c e : Scopes} {names : List TypeName} {d' i j : ℕ} {t : Trees} (f : Scopes) (s : Side) (u : Trees) (d k : ℕ) → PartAnswer ts part.Statement h ([] ∷ c) (names ∷ e) d' t i j →
      reads ts u s (past_part h t) e d j k ≡ Some f → else_on ts (t & u) s h d k (leads ts (t & u) part.Statement h ([] ∷ c) d' i) ≡ Some f
  else_is f s u d k m q = rw (leads_is m u) (rw (next_is m u, alone_is m u, after_is m u) q)

  prototype_is : {h : Context} {c e : Scopes} {names : List TypeName} {d' i j : ℕ} {t : Trees} (f : Scopes) (own : List TypeName) (s : Side) (u : Trees) (d k : ℕ) → PartAnswer ts part.Parameters h ([] ∷ c) (names ∷ e) d' t i j →
      reads ts u s (past_part h t) ((if h.bare then names else own) ∷ e) d j k ≡ Some f → prototype_on ts (t & u) s h own d k (leads ts (t & u) part.Parameters h ([] ∷ c) d' i) ≡ Some f
  prototype_is f own s u d k m q = rw (leads_is m u) (rw (next_is m u, alone_is m u, after_is m u) q)

  size_is : {h : Context} {c e : Scopes} {d' i j : ℕ} {t : Trees} (f : Scopes) (own : List TypeName) (s : Side) (u : Trees) (d k : ℕ) → PartAnswer ts part.Conditional h c e d' t i j →
      reads ts u s (past_part h t) (own ∷ e) d j k ≡ Some f → size_on ts (t & u) s h own d k (leads ts (t & u) part.Conditional h c d' i) ≡ Some f
  size_is f own s u d k m q = rw (leads_is m u) (rw (next_is m u, alone_is m u, after_is m u) q)

  -- the row after a qualified part is empty
  ends_here : (h : Context) (e : Scopes) (d k : ℕ) → reads ts none [] h e d k k ≡ Some e
  ends_here h e d k = reads_done ts none h e d k k ∙ rw (eq-eqb k k refl) refl

  qualified_is : {p : Part} {h : Context} {c e : Scopes} {i j : ℕ} {t : Trees} (d : ℕ) → PartAnswer ts p h c e (d + 1) t i j →
      qualified_on ts (t & none) h d j (leads ts (t & none) p h c (d + 1) (first_of (t & none))) ≡ Some e
  qualified_is {h = h} {e = e} {j = j} d m = rw (first_is m none) (rw (leads_is m none) (rw (next_is m none, after_is m none) (ends_here h e d j)))

const_le : {ts : List Lexeme} {d i j : ℕ} → AreQualifiers ts the_limit d i j → i ≤ j
const_le qualifiers_none = omega arith
const_le (qualifiers_more h l r) = omega (arith, const_le r)

qualifier_true : (ts : List Lexeme) (i : ℕ) → Qualifies ts i → is_qualifier ts i ≡ true
qualifier_true ts i (inl h) = or_left (is_word ts i word.Const) (is_word ts i word.Volatile) (is_true ts i word.Const h)
qualifier_true ts i (inr h) = or_right (is_word ts i word.Const) (is_word ts i word.Volatile) (is_true ts i word.Volatile h)

words_are : {ts : List Lexeme} {d i j : ℕ} → AreQualifiers ts the_limit d i j → (n : ℕ) → i + n ≡ j → are_qualifiers ts n i ≡ true
words_are qualifiers_none zero e = refl
words_are qualifiers_none (suc n) e = absurd (omega arith)
words_are {ts = ts} {i = i} (qualifiers_more h l r) zero e = absurd (omega (arith, const_le r))
words_are {ts = ts} {i = i} (qualifiers_more h l r) (suc n) e = rw (qualifier_true ts i h) (words_are r n (omega arith))

span_true : {ts : List Lexeme} {d i j : ℕ} → AreQualifiers ts the_limit d i j → span_qualifies ts i j ≡ true
span_true {i = i} {j = j} m = rw (le-leb i j (const_le m)) (words_are m (j - i) (omega (arith, const_le m)))

some_row : (ts : List Lexeme) (l : Depth) (p : Part) (s : Side) (h : Context) (c f : Scopes) (d i j : ℕ) (u : Trees) → reads ts u (symbol.List l p ∷ s) h c d i j ≡ Some f → is_none u ≡ false
some_row ts l p s h c f d i j none q = absurd (let w = sym (reads_list ts none s h c d i j l p) ∙ q in cc)
some_row ts l p s h c f d i j (node k i' j' b n) q = refl

module _ (ts : List Lexeme) where
  prototype_empty : (s : Side) (h : Context) (c e : Scopes) (d i j : ℕ) → reads ts none s h c d i j ≡ Some e → reads ts none (symbol.Prototype ∷ s) h c d i j ≡ Some e
  unfolding reads along
  prototype_empty s h c e d i j q = q

  size_empty : (s : Side) (h : Context) (c e : Scopes) (d i j : ℕ) → reads ts none s h c d i j ≡ Some e → reads ts none (symbol.Size ∷ s) h c d i j ≡ Some e
  unfolding reads along
  size_empty s h c e d i j q = q

  texts_read : {c : Scopes} (i j : ℕ) → i < j → are_words ts word.Text (j - i) i ≡ true → (if true && nat_lt i j && span_is ts word.Text i j then Some c else None) ≡ Some c
  texts_read i j lt m = rw (lt-ltb i j lt, le-leb i j (omega arith), m) refl

  one_text : (i : ℕ) → Is ts i word.Text → are_words ts word.Text (i + 1 - i) i ≡ true
  one_text i x = let e : i + 1 - i ≡ 1 = omega arith in rw (e) (rw (is_true ts i word.Text x) refl)

  more_texts : (h : Context) (c : Scopes) (d i j : ℕ) → Is ts i word.Text →
      (if true && nat_lt (i + 1) j && span_is ts word.Text (i + 1) j then Some c else None) ≡ Some c →
      (if true && nat_lt i j && span_is ts word.Text i j then Some c else None) ≡ Some c
  more_texts h c d i j x q =
      let v = if_some {e = c} (true && nat_lt (i + 1) j && span_is ts word.Text (i + 1) j) (Some c) q in
      let w = both (true && nat_lt (i + 1) j) (span_is ts word.Text (i + 1) j) v.0 in
      let lt : i + 1 < j = ltb-true (i + 1) j w.0 in
      let m = both (nat_le (i + 1) j) (are_words ts word.Text (j - (i + 1)) (i + 1)) w.1 in
      let e : j - i ≡ suc (j - (i + 1)) = omega arith in
      texts_read i j (omega arith) (rw (e) (rw (is_true ts i word.Text x) m.1))

  not_both : (b d : Bool) → d ≡ false → b && d ≡ false
  not_both true d q = q
  not_both false d q = refl

  listed : (l : Depth) (p : Part) (s : Side) (h : Context) (c e : Scopes) (d i j : ℕ) (t : Trees) → RowAnswer ts (symbol.List l p ∷ s) h c e d t i j → RowAnswer ts (symbol.OptionalList l p ∷ s) h c e d t i j
  listed l p s h c e d i j t r = record {
    read = reads_optional_list ts t s h c d i j l p ∙ rw (some_row ts l p s h c e d i j t r.read) (sym (reads_list ts t s h c d i j l p) ∙ r.read);
    later = r.later;
  }

  token_answer : {l : Depth} {w : Word} {s : Side} {h : Context} {c e : Scopes} {d i j : ℕ} {t : Trees} → Is ts i w → Stands the_limit i (levels l d) → Answer ts (rest s) (past_token h) c e d t (i + 1) j → Answer ts (rest (symbol.Token l w ∷ s)) h c e d t i j
  token_answer {w = w} x y q = let r = q in record {
    read = reads_token ts _ _ _ _ _ _ _ _ _ ∙ rw (is_true ts _ w x) r.read;
    later = later_down _ _ _ (omega arith) r.later;
  }

  opens_answer : {l : Depth} {w : Word} {s : Side} {h : Context} {c e : Scopes} {d i j : ℕ} {t : Trees} → Is ts i w → Within the_limit i (levels l d) → Answer ts (rest s) (past_token h) c e d t (i + 1) j → Answer ts (rest (symbol.Opens l w ∷ s)) h c e d t i j
  opens_answer {l = l} {w = w} {d = d} x y q = let r = q in record {
    read = reads_opens ts _ _ _ _ _ _ _ _ _ ∙ rw (is_true ts _ w x, room_is (levels l d) y) r.read;
    later = later_down _ _ _ (omega arith) r.later;
  }

  reopens_answer : {w : Word} {s : Side} {h : Context} {c e : Scopes} {d i j : ℕ} {t : Trees} → Is ts i w → Stands the_limit i (d + 1) → Within the_limit i d → Answer ts (rest s) (past_token h) c e d t (i + 1) j → Answer ts (rest (symbol.Reopens w ∷ s)) h c e d t i j
  reopens_answer {w = w} {d = d} x z y q = let r = q in record {
    read = reads_reopens ts _ _ _ _ _ _ _ _ ∙ rw (is_true ts _ w x, room_is d y) r.read;
    later = later_down _ _ _ (omega arith) r.later;
  }

  part_answer : {l : Depth} {p : Part} {s : Side} {h : Context} {c e f : Scopes} {d i j k : ℕ} {t u : Trees} → Answer ts (a p) h c e (levels l d) t i j → Answer ts (rest s) (past_part h t) e f d u j k → Answer ts (rest (symbol.Part l p ∷ s)) h c f d (t & u) i k
  part_answer {u = u} m q = let v = m in let r = q in record {
    read = reads_part ts _ _ _ _ _ _ _ _ _ ∙ part_is ts _ _ u _ _ v r.read;
    later = later_it ts v u;
  }

  optional_none_answer : {l : Depth} {p : Part} {s : Side} {h : Context} {c e : Scopes} {d i j : ℕ} → Answer ts (rest s) h c e d none i j → Answer ts (rest (symbol.Optional l p ∷ s)) h c e d none i j
  optional_none_answer q = let r = q in record { read = reads_optional ts none _ _ _ _ _ _ _ _ ∙ r.read; later = tt }

  optional_some_answer : {l : Depth} {p : Part} {s : Side} {h : Context} {c e f : Scopes} {d i j k : ℕ} {t u : Trees} → Answer ts (a p) h c e (levels l d) t i j → Answer ts (rest s) (past_part h t) e f d u j k → Answer ts (rest (symbol.Optional l p ∷ s)) h c f d (t & u) i k
  optional_some_answer {u = u} m q = let v = m in let r = q in record {
    read = reads_optional ts _ _ _ _ _ _ _ _ _ ∙ rw (not_none ts v u) (part_is ts _ _ u _ _ v r.read);
    later = later_it ts v u;
  }

  many_none_answer : {l : Depth} {p : Part} {s : Side} {h : Context} {c e : Scopes} {d i j : ℕ} → Answer ts (rest s) h c e d none i j → Answer ts (rest (symbol.Many l p ∷ s)) h c e d none i j
  many_none_answer q = let r = q in record { read = reads_many ts none _ _ _ _ _ _ _ _ ∙ r.read; later = tt }

  many_more_answer : {l : Depth} {p : Part} {s : Side} {h : Context} {c e f : Scopes} {d i j k : ℕ} {t u : Trees} → Answer ts (a p) h c e (levels l d) t i j → Answer ts (rest (symbol.Many l p ∷ s)) (past_part h t) e f d u j k → Answer ts (rest (symbol.Many l p ∷ s)) h c f d (t & u) i k
  many_more_answer {l = l} {p = p} {s = s} {u = u} m q = let v = m in let r = q in record {
    read = reads_many ts _ _ _ _ _ _ _ _ _ ∙ rw (not_none ts v u) (part_is ts _ _ u _ _ v r.read);
    later = later_it ts v u;
  }

  list_last_answer : {l : Depth} {p : Part} {s : Side} {h : Context} {c e f : Scopes} {d i j k : ℕ} {t : Trees} → Answer ts (a p) h c e (levels l d) t i j → Answer ts (rest s) (past_part h t) e f d none j k → Answer ts (rest (symbol.List l p ∷ s)) h c f d t i k
  list_last_answer {l = l} {p = p} {s = s} {h = h} {c = c} {f = f} {d = d} {i = i} {k = k} {t = t} m q = let v = m in let r = q in
      subst (λ x. RowAnswer ts (symbol.List l p ∷ s) h c f d x i k) (itself_is ts v) (record {
        read = reads_list ts _ _ _ _ _ _ _ _ _ ∙ list_is ts _ _ _ _ _ v r.read;
        later = later_it ts v none;
      })

  list_more_answer : {l : Depth} {p : Part} {s : Side} {h : Context} {c e f : Scopes} {d i j k : ℕ} {t u : Trees} → Answer ts (a p) h c e (levels l d) t i j → Is ts j word.Comma → Stands the_limit j (levels l d) → Answer ts (rest (symbol.List l p ∷ s)) (past_token h) e f d u (j + 1) k → Answer ts (rest (symbol.List l p ∷ s)) h c f d (t & u) i k
  list_more_answer {l = l} {p = p} {s = s} {u = u} m w y q = let v = m in let r = q in record {
    read = reads_list ts _ _ _ _ _ _ _ _ _ ∙ list_goes_on ts _ _ _ u _ _ v (some_row ts l p s _ _ _ _ _ _ u r.read) w r.read;
    later = later_it ts v u;
  }

  list_none_answer : {l : Depth} {p : Part} {s : Side} {h : Context} {c e : Scopes} {d i j : ℕ} → Answer ts (rest s) h c e d none i j → Answer ts (rest (symbol.OptionalList l p ∷ s)) h c e d none i j
  list_none_answer q = let r = q in record { read = reads_optional_list ts none _ _ _ _ _ _ _ _ ∙ r.read; later = tt }

  tag_none_answer : {s : Side} {h : Context} {c e : Scopes} {d i j : ℕ} {t : Trees} → Is ts i word.LeftBrace → Within the_limit i d → Answer ts (rest s) (past_token h) c e d t (i + 1) j → Answer ts (rest (symbol.Tag ∷ s)) h c e d t i j
  tag_none_answer {d = d} x y q = let r = q in record {
    read = reads_tag ts _ _ _ _ _ _ _ ∙ rw (is_false ts _ word.LeftBrace word.Identifier x refl) (rw (is_true ts _ word.LeftBrace x, room_is d y) r.read);
    later = later_down _ _ _ (omega arith) r.later;
  }

  tag_some_answer : {s : Side} {h : Context} {c e : Scopes} {d i j : ℕ} {t : Trees} → Is ts i word.Identifier → Stands the_limit i d → Is ts (i + 1) word.LeftBrace → Within the_limit (i + 1) d → Answer ts (rest s) (past_token h) c e d t (i + 1 + 1) j → Answer ts (rest (symbol.Tag ∷ s)) h c e d t i j
  tag_some_answer {d = d} x y z w q = let r = q in record {
    read = reads_tag ts _ _ _ _ _ _ _ ∙ rw (is_true ts _ word.Identifier x) (rw (is_true ts _ word.LeftBrace z, room_is d w) r.read);
    later = later_down _ _ _ (omega arith) r.later;
  }

  comma_none_answer : {s : Side} {h : Context} {c e : Scopes} {d i j : ℕ} {t : Trees} → Is ts i word.RightBrace → Stands the_limit i (d + 1) → Answer ts (rest s) (past_token h) c e d t (i + 1) j → Answer ts (rest (symbol.TrailingComma ∷ s)) h c e d t i j
  comma_none_answer {d = d} x y q = let r = q in record {
    read = reads_trailing ts _ _ _ _ _ _ _ ∙ rw (is_false ts _ word.RightBrace word.Comma x refl) (rw (is_true ts _ word.RightBrace x) r.read);
    later = later_down _ _ _ (omega arith) r.later;
  }

  comma_some_answer : {s : Side} {h : Context} {c e : Scopes} {d i j : ℕ} {t : Trees} → Is ts i word.Comma → Stands the_limit i (d + 1) → Is ts (i + 1) word.RightBrace → Stands the_limit (i + 1) (d + 1) → Answer ts (rest s) (past_token h) c e d t (i + 1 + 1) j → Answer ts (rest (symbol.TrailingComma ∷ s)) h c e d t i j
  comma_some_answer {d = d} x y z w q = let r = q in record {
    read = reads_trailing ts _ _ _ _ _ _ _ ∙ rw (is_true ts _ word.Comma x) (rw (is_true ts _ word.RightBrace z) r.read);
    later = later_down _ _ _ (omega arith) r.later;
  }

  qualified_answer : {p : Part} {h : Context} {c e : Scopes} {d i j k : ℕ} {t : Trees} → AreQualifiers ts the_limit (d + 1) i j → Answer ts (a p) h c e (d + 1) t j k → Answer ts (rest (symbol.Qualified p ∷ [])) h c e d t i k
  qualified_answer {p = p} {h = h} {c = c} {e = e} {d = d} {i = i} {j = j} {k = k} m q = let v = q in
      subst (λ x. RowAnswer ts (symbol.Qualified p ∷ []) h c e d x i k) (itself_is ts v) (record {
        read = reads_qualified ts _ _ _ _ _ _ _ ∙ rw (first_is ts v none) (rw (span_true m) (rw (← first_is ts v none) (qualified_is ts d v)));
        later = later_down _ _ _ (const_le m) (later_it ts v none);
      })

  qualified_none_answer : {p : Part} {h : Context} {c : Scopes} {d i j : ℕ} → AreQualifiers ts the_limit (d + 1) i j → Answer ts (rest (symbol.OptionalQualified p ∷ [])) h c c d none i j
  qualified_none_answer m = record {
    read = reads_optional_qualified ts none _ _ _ _ _ _ ∙ rw (span_true m) refl;
    later = tt;
  }

  qualified_some_answer : {p : Part} {h : Context} {c e : Scopes} {d i j k : ℕ} {t : Trees} → AreQualifiers ts the_limit (d + 1) i j → Answer ts (a p) h c e (d + 1) t j k → Answer ts (rest (symbol.OptionalQualified p ∷ [])) h c e d t i k
  qualified_some_answer {p = p} {h = h} {c = c} {e = e} {d = d} {i = i} {j = j} {k = k} m q = let v = q in
      subst (λ x. RowAnswer ts (symbol.OptionalQualified p ∷ []) h c e d x i k) (itself_is ts v) (record {
        read = reads_optional_qualified ts _ _ _ _ _ _ _ ∙ rw (not_none ts v none) (rw (first_is ts v none) (rw (span_true m) (rw (← first_is ts v none) (qualified_is ts d v))));
        later = later_down _ _ _ (const_le m) (later_it ts v none);
      })

  ordinary_answer : {s : Side} {h : Context} {c e : Scopes} {d i j : ℕ} {t : Trees} → IsIdentifier ts c i false → Stands the_limit i d → Answer ts (rest s) (past_token h) c e d t (i + 1) j → Answer ts (rest (symbol.Ordinary ∷ s)) h c e d t i j
  ordinary_answer x y q = let r = q in record {
    read = reads_ordinary ts _ _ _ _ _ _ _ ∙ rw (is_true ts _ word.Identifier x.0, x.1) r.read;
    later = later_down _ _ _ (omega arith) r.later;
  }

  type_identifier_answer : {s : Side} {h : Context} {c e : Scopes} {d i j : ℕ} {t : Trees} → IsIdentifier ts c i true → h.typed ≡ false → Stands the_limit i d → Answer ts (rest s) (past_token h) c e d t (i + 1) j → Answer ts (rest (symbol.TypeIdentifier ∷ s)) h c e d t i j
  type_identifier_answer x f y q = let r = q in record {
    read = reads_type_identifier ts _ _ _ _ _ _ _ ∙ rw (is_true ts _ word.Identifier x.0, x.1, f) r.read;
    later = later_down _ _ _ (omega arith) r.later;
  }

  declared_answer : {s : Side} {h : Context} {c e : Scopes} {d i j : ℕ} {t : Trees} → Is ts i word.Identifier → h.typed || not (is_type c (spelling_at ts i)) ≡ true → Stands the_limit i d → Answer ts (rest s) (past_token h) ([] ∷ c) e d t (i + 1) j → Answer ts (rest (symbol.Declared ∷ s)) h c e d t i j
  declared_answer x f y q = let r = q in record {
    read = reads_declared ts _ _ _ _ _ _ _ ∙ rw (is_true ts _ word.Identifier x, f) r.read;
    later = later_down _ _ _ (omega arith) r.later;
  }

  enumerates_answer : {s : Side} {h : Context} {c e : Scopes} {d i j : ℕ} {t : Trees} → Is ts i word.Identifier → Stands the_limit i d → Answer ts (rest s) (past_token h) c e d t (i + 1) j → Answer ts (rest (symbol.Enumerates ∷ s)) h c (enter (record { name = spelling_at ts i; is_type = false }) e) d t i j
  enumerates_answer x y q = let r = q in record {
    read = reads_enumerates ts _ _ _ _ _ _ _ ∙ rw (is_true ts _ word.Identifier x) (rw (r.read) refl);
    later = later_down _ _ _ (omega arith) r.later;
  }

  value_none_answer : {s : Side} {h : Context} {c e : Scopes} {d i j : ℕ} → Answer ts (rest s) h c e d none i j → Answer ts (rest (symbol.Value ∷ s)) h c e d none i j
  value_none_answer q = let r = q in record { read = reads_value ts none _ _ _ _ _ _ ∙ r.read; later = tt }

  value_some_answer : {s : Side} {h : Context} {c e f : Scopes} {d i j k : ℕ} {t u : Trees} → Is ts i word.Equal → Stands the_limit i d → Answer ts (a part.Conditional) h c e d t (i + 1) j → Answer ts (rest s) (past_part h t) e f d u j k → Answer ts (rest (symbol.Value ∷ s)) h c f d (t & u) i k
  value_some_answer {u = u} x y m q = let v = m in let r = q in record {
    read = reads_value ts _ _ _ _ _ _ _ ∙ rw (not_none ts v u) (rw (is_true ts _ word.Equal x) (part_is ts _ _ u _ _ v r.read));
    later = later_down _ _ _ (omega arith) (later_it ts v u);
  }

  enters_answer : {s : Side} {h : Context} {c e : Scopes} {own : List TypeName} {d i j : ℕ} {t : Trees} → Answer ts (rest s) h (own ∷ enter (declared_name ts h) c) e d t i j → Answer ts (rest (symbol.Enters ∷ s)) h (own ∷ c) e d t i j
  enters_answer q = let r = q in record { read = reads_enters ts _ _ _ _ _ _ _ _ ∙ r.read; later = r.later }

  begins_answer : {s : Side} {h : Context} {c e : Scopes} {d i j : ℕ} {t : Trees} → Answer ts (rest s) h ([] ∷ c) e d t i j → Answer ts (rest (symbol.Begins ∷ s)) h c e d t i j
  begins_answer q = let r = q in record { read = reads_begins ts _ _ _ _ _ _ _ ∙ r.read; later = r.later }

  ends_answer : {s : Side} {h : Context} {c e : Scopes} {own : List TypeName} {d i j : ℕ} {t : Trees} → Answer ts (rest s) h c e d t i j → Answer ts (rest (symbol.Ends ∷ s)) h (own ∷ c) e d t i j
  ends_answer q = let r = q in record { read = reads_ends ts _ _ _ _ _ _ _ _ ∙ r.read; later = r.later }

  prototype_none_answer : {s : Side} {h : Context} {c e : Scopes} {d i j : ℕ} → Answer ts (rest s) h c e d none i j → Answer ts (rest (symbol.Prototype ∷ s)) h c e d none i j
  prototype_none_answer {s = s} {h = h} {c = c} {e = e} {d = d} {i = i} {j = j} q = let r = q in record { read = prototype_empty s h c e d i j r.read; later = tt }

  prototype_some_answer : {s : Side} {h : Context} {c e f : Scopes} {own names : List TypeName} {d i j k : ℕ} {t u : Trees} → Answer ts (a part.Parameters) h ([] ∷ c) (names ∷ e) (d + 1) t i j → Answer ts (rest s) (past_part h t) ((if h.bare then names else own) ∷ e) f d u j k → Answer ts (rest (symbol.Prototype ∷ s)) h (own ∷ c) f d (t & u) i k
  prototype_some_answer {own = own} {u = u} m q = let v = m in let r = q in record {
    read = reads_prototype ts _ _ _ _ _ _ _ _ ∙ rw (not_none ts v u) (prototype_is ts _ own _ u _ _ v r.read);
    later = later_it ts v u;
  }

  size_none_answer : {s : Side} {h : Context} {c e : Scopes} {d i j : ℕ} → Answer ts (rest s) h c e d none i j → Answer ts (rest (symbol.Size ∷ s)) h c e d none i j
  size_none_answer {s = s} {h = h} {c = c} {e = e} {d = d} {i = i} {j = j} q = let r = q in record { read = size_empty s h c e d i j r.read; later = tt }

  size_some_answer : {s : Side} {h : Context} {c e f : Scopes} {own : List TypeName} {d i j k : ℕ} {t u : Trees} → Answer ts (a part.Conditional) h c e (d + 1) t i j → Answer ts (rest s) (past_part h t) (own ∷ e) f d u j k → Answer ts (rest (symbol.Size ∷ s)) h (own ∷ c) f d (t & u) i k
  size_some_answer {own = own} {u = u} m q = let v = m in let r = q in record {
    read = reads_size ts _ _ _ _ _ _ _ _ ∙ rw (not_none ts v u) (size_is ts _ own _ u _ _ v r.read);
    later = later_it ts v u;
  }

  texts_one_answer : {h : Context} {c : Scopes} {d i : ℕ} → Is ts i word.Text → Stands the_limit i d → Answer ts (rest (symbol.Texts ∷ [])) h c c d none i (i + 1)
  texts_one_answer {i = i} x y = record {
    read = reads_texts ts none _ _ _ _ _ ∙ texts_read i (i + 1) (omega arith) (one_text i x);
    later = tt;
  }

  texts_more_answer : {h : Context} {c : Scopes} {d i j : ℕ} → Is ts i word.Text → Stands the_limit i d → Answer ts (rest (symbol.Texts ∷ [])) h c c d none (i + 1) j → Answer ts (rest (symbol.Texts ∷ [])) h c c d none i j
  texts_more_answer {h = h} {c = c} {d = d} {i = i} {j = j} x y q = let r = q in record {
    read = reads_texts ts none _ _ _ _ _ ∙ more_texts h c d i j x (sym (reads_texts ts none h c d (i + 1) j) ∙ r.read);
    later = tt;
  }

  init_declaration_answer : {s : Side} {h : Context} {c e f : Scopes} {d i j k : ℕ} {t u : Trees} → Answer ts (a part.Declaration) h c e (d + 1) t i j → Answer ts (rest s) (past_part h t) e f d u j k → Answer ts (rest (symbol.Init ∷ s)) h c f d (t & u) i k
  init_declaration_answer {u = u} m q = let v = m in let r = q in record {
    read = reads_init ts _ _ _ _ _ _ _ ∙ rw (declaration_is ts v u, begins_it ts v u) (part_is ts _ _ u _ _ v r.read);
    later = later_it ts v u;
  }

  init_clause_none_answer : {s : Side} {h : Context} {c e : Scopes} {d i j : ℕ} {t : Trees} → Is ts i word.Semicolon → Stands the_limit i (d + 1) → Answer ts (rest s) (past_token h) c e d t (i + 1) j → Answer ts (rest (symbol.Init ∷ s)) h c e d t i j
  init_clause_none_answer {t = t} x y q = let r = q in record {
    read = reads_init ts _ _ _ _ _ _ _ ∙ rw (not_both (leads_declaration t) _ (not_yet _ t r.later)) (rw (not_yet _ t r.later) (rw (is_true ts _ word.Semicolon x) r.read));
    later = later_down _ _ _ (omega arith) r.later;
  }

  init_clause_some_answer : {s : Side} {h : Context} {c e f : Scopes} {d i j k : ℕ} {t u : Trees} → Answer ts (a part.Expression) h c e (d + 1) t i j → Is ts j word.Semicolon → Stands the_limit j (d + 1) → Answer ts (rest s) (past_token h) e f d u (j + 1) k → Answer ts (rest (symbol.Init ∷ s)) h c f d (t & u) i k
  init_clause_some_answer {u = u} m w y q = let v = m in let r = q in record {
    read = reads_init ts _ _ _ _ _ _ _ ∙ rw (expression_is ts v u) (rw (begins_it ts v u) (clause_is ts _ _ u _ _ v w r.read));
    later = later_it ts v u;
  }

  clause_none_answer : {s : Side} {h : Context} {c e : Scopes} {d i j : ℕ} {t : Trees} → Is ts i word.Semicolon → Stands the_limit i (d + 1) → Answer ts (rest s) (past_token h) c e d t (i + 1) j → Answer ts (rest (symbol.Clause ∷ s)) h c e d t i j
  clause_none_answer {t = t} x y q = let r = q in record {
    read = reads_clause ts _ _ _ _ _ _ _ ∙ rw (not_yet _ t r.later) (rw (is_true ts _ word.Semicolon x) r.read);
    later = later_down _ _ _ (omega arith) r.later;
  }

  clause_some_answer : {s : Side} {h : Context} {c e f : Scopes} {d i j k : ℕ} {t u : Trees} → Answer ts (a part.Expression) h c e (d + 1) t i j → Is ts j word.Semicolon → Stands the_limit j (d + 1) → Answer ts (rest s) (past_token h) e f d u (j + 1) k → Answer ts (rest (symbol.Clause ∷ s)) h c f d (t & u) i k
  clause_some_answer {u = u} m w y q = let v = m in let r = q in record {
    read = reads_clause ts _ _ _ _ _ _ _ ∙ rw (begins_it ts v u) (clause_is ts _ _ u _ _ v w r.read);
    later = later_it ts v u;
  }

  step_none_answer : {s : Side} {h : Context} {c e : Scopes} {d i j : ℕ} {t : Trees} → Is ts i word.RightParen → Stands the_limit i (d + 1) → Within the_limit i d → Answer ts (rest s) (past_token h) c e d t (i + 1) j → Answer ts (rest (symbol.Step ∷ s)) h c e d t i j
  step_none_answer {d = d} {t = t} x z y q = let r = q in record {
    read = reads_step ts _ _ _ _ _ _ _ ∙ rw (not_yet _ t r.later) (rw (is_true ts _ word.RightParen x, room_is d y) r.read);
    later = later_down _ _ _ (omega arith) r.later;
  }

  step_some_answer : {s : Side} {h : Context} {c e f : Scopes} {d i j k : ℕ} {t u : Trees} → Answer ts (a part.Expression) h c e (d + 1) t i j → Is ts j word.RightParen → Stands the_limit j (d + 1) → Within the_limit j d → Answer ts (rest s) (past_token h) e f d u (j + 1) k → Answer ts (rest (symbol.Step ∷ s)) h c f d (t & u) i k
  step_some_answer {d = d} {u = u} m w z y q = let v = m in let r = q in record {
    read = reads_step ts _ _ _ _ _ _ _ ∙ rw (begins_it ts v u) (step_is ts _ _ u _ _ v w y r.read);
    later = later_it ts v u;
  }

  else_none_answer : {s : Side} {h : Context} {c e : Scopes} {d i j : ℕ} → Answer ts (rest s) h c e d none i j → Answer ts (rest (symbol.Else ∷ s)) h c e d none i j
  else_none_answer q = let r = q in record { read = reads_else ts none _ _ _ _ _ _ ∙ r.read; later = tt }

  else_some_answer : {s : Side} {h : Context} {c e f : Scopes} {names : List TypeName} {d i j k : ℕ} {t u : Trees} → Is ts i word.Else → Within the_limit i d → Answer ts (a part.Statement) h ([] ∷ c) (names ∷ e) (d + 1) t (i + 1) j → Answer ts (rest s) (past_part h t) e f d u j k → Answer ts (rest (symbol.Else ∷ s)) h c f d (t & u) i k
  else_some_answer {d = d} {u = u} x y m q = let v = m in let r = q in record {
    read = reads_else ts _ _ _ _ _ _ _ ∙ rw (not_none ts v u) (rw (is_true ts _ word.Else x, room_is d y) (else_is ts _ _ u _ _ v r.read));
    later = later_down _ _ _ (omega arith) (later_it ts v u);
  }

  pub complete : {ph : Phrase} {h : Context} {c e : Scopes} {d i j : ℕ} {t : Trees} → Spells ts the_limit ph h c e d t i j → Answer ts ph h c e d t i j
  complete (spells.of_alternative m f q) = made m f (complete q).read
  complete (spells.of_chain m f q) = chained m f (complete q)
  complete (spells.init_declarator_alone q) = entering part.InitDeclarator refl (λ r u. refl) init_up (complete q)
  complete (spells.parameter_declarator q) = entering part.ParameterDeclarator refl enters_is parameter_up (complete q)
  complete (spells.member_declarator q) = dropping (complete q)
  complete {i = i} spells.done = record { read = reads_done ts none _ _ _ _ _ ∙ rw (eq-eqb i i refl) refl; later = tt }
  complete (spells.token x y q) = token_answer x y (complete q)
  complete (spells.opens x y q) = opens_answer x y (complete q)
  complete (spells.reopens x z y q) = reopens_answer x z y (complete q)
  complete (spells.part m q) = part_answer (complete m) (complete q)
  complete (spells.optional_none q) = optional_none_answer (complete q)
  complete (spells.optional_some m q) = optional_some_answer (complete m) (complete q)
  complete (spells.many_none q) = many_none_answer (complete q)
  complete (spells.many_more m q) = many_more_answer (complete m) (complete q)
  complete (spells.list_last m q) = list_last_answer (complete m) (complete q)
  complete (spells.list_more m w y q) = list_more_answer (complete m) w y (complete q)
  complete (spells.list_none q) = list_none_answer (complete q)
  complete (spells.list_some {l = l} {p = p} {s = s} {h = h} {c = c} {e = e} {d = d} {i = i} {j = j} {t = t} q) = listed l p s h c e d i j t (complete q)
  complete (spells.tag_none x y q) = tag_none_answer x y (complete q)
  complete (spells.tag_some x y z w q) = tag_some_answer x y z w (complete q)
  complete (spells.comma_none x y q) = comma_none_answer x y (complete q)
  complete (spells.comma_some x y z w q) = comma_some_answer x y z w (complete q)
  complete (spells.qualified m q) = qualified_answer m (complete q)
  complete (spells.qualified_none m) = qualified_none_answer m
  complete (spells.qualified_some m q) = qualified_some_answer m (complete q)
  complete (spells.ordinary x y q) = ordinary_answer x y (complete q)
  complete (spells.type_identifier x f y q) = type_identifier_answer x f y (complete q)
  complete (spells.declared x f y q) = declared_answer x f y (complete q)
  complete (spells.enumerates x y q) = enumerates_answer x y (complete q)
  complete (spells.value_none q) = value_none_answer (complete q)
  complete (spells.value_some x y m q) = value_some_answer x y (complete m) (complete q)
  complete (spells.enters q) = enters_answer (complete q)
  complete (spells.begins q) = begins_answer (complete q)
  complete (spells.ends q) = ends_answer (complete q)
  complete (spells.prototype_none q) = prototype_none_answer (complete q)
  complete (spells.prototype_some m q) = prototype_some_answer (complete m) (complete q)
  complete (spells.size_none q) = size_none_answer (complete q)
  complete (spells.size_some m q) = size_some_answer (complete m) (complete q)
  complete (spells.texts_one x y) = texts_one_answer x y
  complete (spells.texts_more x y q) = texts_more_answer x y (complete q)
  complete (spells.init_declaration m q) = init_declaration_answer (complete m) (complete q)
  complete (spells.init_clause (spells.clause_none x y q)) = init_clause_none_answer x y (complete q)
  complete (spells.init_clause (spells.clause_some m w y q)) = init_clause_some_answer (complete m) w y (complete q)
  complete (spells.clause_none x y q) = clause_none_answer x y (complete q)
  complete (spells.clause_some m w y q) = clause_some_answer (complete m) w y (complete q)
  complete (spells.step_none x z y q) = step_none_answer x z y (complete q)
  complete (spells.step_some m w z y q) = step_some_answer (complete m) w z y (complete q)
  complete (spells.else_none q) = else_none_answer (complete q)
  complete (spells.else_some x y m q) = else_some_answer x y (complete m) (complete q)
