-- What is read is spelled.
use Rattle.std.proofs.lemmas.Bool.{or_cases}
use Rattle.std.proofs.Common.{◌≡◌, ℕ, zero, suc, ◌+◌, ◌-◌, ◌<◌, ◌≤◌, Bool, true, false, not, ◌&&◌, ◌||◌, List, [], ◌∷◌, Option, None, Some, refl, sym, ap, subst, arith, inl, inr}
use Rattle.std.specs.Prelude.{if◌then◌else◌, ◌==◌, nat_lt, nat_le}
use borrow.Author.Tests.{ltb-true, leb-true, eqb-true}
use denote.Enum.Bare.{same_true}
use Rattle.cr_syntax.specs.contracts.part.Part as part_type
use Rattle.cr_syntax.specs.declared.word.Word.TheVariants as word
use Rattle.cr_syntax.specs.declared.node.Kind.{Kind}
use Rattle.cr_syntax.specs.declared.scopes.TypeName.{TypeName}
use Rattle.cr_syntax.specs.Symbols.{Depth}
use Rattle.cr_syntax.specs.declared.part.Part.{Part}
use Rattle.cr_syntax.specs.declared.part.Part.TheVariants as part
use Rattle.cr_syntax.specs.Symbols as symbol
use Rattle.cr_syntax.specs.declared.part.Context.{Context}
use Rattle.cr_syntax.specs.Chains.{Link}
use Rattle.cr_syntax.specs.Chains.{Makes, Chains, Enters, Drops, Refuses}
use Rattle.cr_syntax.specs.Words.{Lexeme, spelling_at}
use Rattle.cr_syntax.specs.Scopes.{Scopes, is_type, enter}
use Rattle.cr_syntax.specs.Trees.{Trees, none, node, one, ◌&◌}
use Rattle.cr_syntax.specs.Context.{past_token, past_part, at_start, declared_name, fits_together, may_stand}
use Rattle.cr_syntax.specs.Grammar.{Side, Alternative, Chain}
use Rattle.cr_syntax.specs.Grammar as grammar
use Rattle.cr_syntax.specs.Tables.{side_of, part_of}
use Rattle.cr_syntax.specs.Chains.{step_of, link_of, step_past, same_part}
use Rattle.cr_syntax.specs.Spells.{Limit, AtMost, Spells, a, rest, levels, Qualifies, AreQualifiers, qualifiers_none, qualifiers_more}
use Rattle.cr_syntax.specs.Spells as spells
use Rattle.cr_syntax.specs.Reads.{Reader, is_word, are_words, span_is, is_qualifier, are_qualifiers, span_qualifies, has_room, is_none, first_of, after_of, is_last, alone, begins_at, leads_declaration, entered, dropped, most_links, as_part, lead, list_on, along, reads, no_reader, next_of}
use Rattle.cr_syntax.specs.Units.{most_levels}
use Rattle.cr_syntax.proofs.Alternatives.{alternative_of}
use Rattle.cr_syntax.proofs.Tests.{if_some, both, some_one, some_of, not_true, is_of, none_of, rejoined, last_of, last_alone, choose, alone_of}

abbrev pub the_limit : Limit
the_limit = AtMost most_levels

-- what a link says of the grammar
pub data Means : Part → Part → Link → Type 0 where
  makes : {p q : Part} → q ≡ p → Means p q Makes
  chains : {p q r : Part} → Chain p r → Means p q (Chains r)
  enters_init : {q : Part} → Means part.InitDeclarator q Enters
  enters_parameter : {q : Part} → Means part.ParameterDeclarator q Enters
  drops : {q : Part} → Means part.MemberDeclarator q Drops
  refuses : {p q : Part} → Means p q Refuses

past_means : (p q : Part) → Means p q (step_past p q)
past_means part.External q = chains grammar.external_declaration
past_means part.InitDeclarator q = enters_init
past_means part.Initializer q = chains grammar.initializer_expression
past_means part.Specifiers q = chains grammar.specifiers_one
past_means part.Specifier q = chains grammar.specifier_plain
past_means part.PlainSpecifiers q = chains grammar.plain_one
past_means part.MemberDeclarator q = drops
past_means part.Declarator q = chains grammar.declarator_direct
past_means part.Parameters q = chains grammar.parameters_one
past_means part.Parameter q = chains grammar.parameter_unnamed
past_means part.ParameterDeclarator part.Abstract = chains grammar.parameter_abstract
past_means part.ParameterDeclarator part.DirectAbstract = chains grammar.parameter_abstract
past_means part.ParameterDeclarator _ = enters_parameter
past_means part.Abstract q = chains grammar.abstract_direct
past_means part.TypeName q = chains grammar.type_name_plain
past_means part.BlockItem part.Declaration = chains grammar.item_declaration
past_means part.BlockItem _ = chains grammar.item_statement
past_means part.Statement q = chains grammar.statement_compound
past_means part.Expression q = chains grammar.expression_assignment
past_means part.Assignment q = chains grammar.assignment_conditional
past_means part.Conditional q = chains grammar.conditional_binary
past_means part.LogicalOr q = chains grammar.binary_14
past_means part.LogicalAnd q = chains grammar.binary_13
past_means part.Or q = chains grammar.binary_12
past_means part.Xor q = chains grammar.binary_11
past_means part.And q = chains grammar.binary_10
past_means part.Equality q = chains grammar.binary_9
past_means part.Relational q = chains grammar.binary_8
past_means part.Shift q = chains grammar.binary_7
past_means part.Additive q = chains grammar.binary_6
past_means part.Multiplicative q = chains grammar.binary_5
past_means part.Cast q = chains grammar.cast_unary
past_means part.Unary q = chains grammar.unary_postfix
past_means part.Postfix q = chains grammar.postfix_primary
past_means _ q = refuses

pub link_means : (p q : Part) → Means p q (link_of p q)
link_means p q = by (same_part q p) (λ e. same_true part_type.the_type tt q p e)
  where
    by : (b : Bool) → (b ≡ true → q ≡ p) → Means p q (if b then Makes else step_past p q)
    by true f = makes (f refl)
    by false f = past_means p q

-- a reader whose answers are spelled by a row of trees
abbrev pub IsSound : List Lexeme → Trees → Reader → Type 0
IsSound ts t r = (s : Side) (h : Context) (c e : Scopes) (d i j : ℕ) → r s h c d i j ≡ Some e → Spells ts the_limit (rest s) h c e d t i j

-- what is spelled as a part, whatever the part
abbrev pub PartSound : List Lexeme → Reader → Kind → ℕ → ℕ → Trees → ℕ → Type 0
PartSound ts r k i j t n = (p : Part) (h : Context) (c e : Scopes) (d : ℕ) → as_part ts r n p h c d k i j t ≡ Some e → Spells ts the_limit (a p) h c e d (one k i j t) i j

some_entered : (ts : List Lexeme) (h : Context) (t : Trees) (o : Option Scopes) (e : Scopes) → entered ts h t o ≡ Some e →
    (own : List TypeName) × (f : Scopes) × (o ≡ Some (own ∷ f)) × (enter (declared_name ts (past_part h t)) f ≡ e)
some_entered ts h t None e q = cc
some_entered ts h t (Some []) e q = cc
some_entered ts h t (Some (own ∷ f)) e q = (own, f, refl, some_one q)

some_dropped : (o : Option Scopes) (e : Scopes) → dropped o ≡ Some e → (own : List TypeName) × (o ≡ Some (own ∷ e))
some_dropped None e q = cc
some_dropped (Some []) e q = cc
some_dropped (Some (own ∷ f)) e q = (own, ap (λ x. Some (own ∷ x)) (some_one q))

module _ (ts : List Lexeme) (r : Reader) (t : Trees) (sound : IsSound ts t r) (k : Kind) (i j : ℕ) where
  made : (p : Part) (h : Context) (c e : Scopes) (d : ℕ) → part_of k ≡ p → fits_together k t ≡ true →
      Spells ts the_limit (rest (side_of k)) (at_start p h) c e d t i j → Spells ts the_limit (a p) h c e d (one k i j t) i j
  made p h c e d q f s = spells.of_alternative (subst (λ x. Alternative x k (side_of k)) q (alternative_of k)) f s

  at_link : (n : ℕ) → PartSound ts r k i j t n → (p : Part) (h : Context) (c e : Scopes) (d : ℕ) (l : Link) → Means p (part_of k) l →
      elim l as (λ _. Option Scopes) [
        | Makes ↦ if fits_together k t then r (side_of k) (at_start p h) c d i j else None
        | Chains q ↦ if may_stand p (one k i j t) then as_part ts r n q (at_start p h) c d k i j t else None
        | Enters ↦ entered ts h (one k i j t) (as_part ts r n part.Declarator h c d k i j t)
        | Drops ↦ dropped (as_part ts r n part.Declarator h c d k i j t)
        | Refuses ↦ None
      ] ≡ Some e → Spells ts the_limit (a p) h c e d (one k i j t) i j
  at_link n below p h c e d Makes (makes m) q =
      let w = if_some (fits_together k t) (r (side_of k) (at_start p h) c d i j) q in
      made p h c e d m w.0 (sound _ _ _ _ _ _ _ w.1)
  at_link n below p h c e d (Chains x) (chains m) q =
      let w = if_some (may_stand p (one k i j t)) (as_part ts r n x (at_start p h) c d k i j t) q in
      spells.of_chain m w.0 (below x (at_start p h) c e d w.1)
  at_link n below p h c e d Enters enters_init q =
      let w = some_entered ts h (one k i j t) (as_part ts r n part.Declarator h c d k i j t) e q in
      subst (λ x. Spells ts the_limit (a part.InitDeclarator) h c x d (one k i j t) i j) w.3 (spells.init_declarator_alone (below part.Declarator h c _ d w.2))
  at_link n below p h c e d Enters enters_parameter q =
      let w = some_entered ts h (one k i j t) (as_part ts r n part.Declarator h c d k i j t) e q in
      subst (λ x. Spells ts the_limit (a part.ParameterDeclarator) h c x d (one k i j t) i j) w.3 (spells.parameter_declarator (below part.Declarator h c _ d w.2))
  at_link n below p h c e d Drops drops q =
      let w = some_dropped (as_part ts r n part.Declarator h c d k i j t) e q in
      spells.member_declarator (below part.Declarator h c _ d w.1)
  at_link n below p h c e d Refuses refuses q = cc

  pub part_sound : (n : ℕ) → PartSound ts r k i j t n
  unfolding as_part
  part_sound zero p h c e d q = cc
  part_sound (suc n) p h c e d q = at_link n (part_sound n) p h c e d (step_of p k) (link_means p (part_of k)) q

qualifier_of : (ts : List Lexeme) (i : ℕ) → is_qualifier ts i ≡ true → Qualifies ts i
qualifier_of ts i q = elim (or_cases (is_word ts i word.Const) (is_word ts i word.Volatile) q) [ inl x ↦ inl (is_of ts i word.Const x) | inr x ↦ inr (is_of ts i word.Volatile x) ]

words_of : (ts : List Lexeme) (d n i : ℕ) → are_qualifiers ts n i ≡ true → AreQualifiers ts the_limit d i (i + n)
words_of ts d zero i q = let e : i ≡ i + 0 = omega arith in subst (λ x. AreQualifiers ts the_limit d i x) e qualifiers_none
words_of ts d (suc n) i q =
    let w = both (is_qualifier ts i) (are_qualifiers ts n (i + 1)) q in
    let e : i + 1 + n ≡ i + suc n = omega arith in
    qualifiers_more (qualifier_of ts i w.0) tt (subst (λ x. AreQualifiers ts the_limit d (i + 1) x) e (words_of ts d n (i + 1) w.1))

qualifiers_of : (ts : List Lexeme) (d i j : ℕ) → span_qualifies ts i j ≡ true → AreQualifiers ts the_limit d i j
qualifiers_of ts d i j q =
    let w = both (nat_le i j) (are_qualifiers ts (j - i) i) q in
    let le : i ≤ j = leb-true i j w.0 in
    let e : i + (j - i) ≡ j = omega arith in
    subst (λ x. AreQualifiers ts the_limit d i x) e (words_of ts d (j - i) i w.1)

texts_from : (ts : List Lexeme) (h : Context) (c : Scopes) (d n i : ℕ) → are_words ts word.Text (suc n) i ≡ true → Spells ts the_limit (rest (symbol.Texts ∷ [])) h c c d none i (i + suc n)
texts_from ts h c d zero i q =
    let w = both (is_word ts i word.Text) true q in
    let e : i + 1 ≡ i + suc zero = omega arith in
    subst (λ x. Spells ts the_limit (rest (symbol.Texts ∷ [])) h c c d none i x) e (spells.texts_one (is_of ts i word.Text w.0) tt)
texts_from ts h c d (suc n) i q =
    let w = both (is_word ts i word.Text) (are_words ts word.Text (suc n) (i + 1)) q in
    let e : i + 1 + suc n ≡ i + suc (suc n) = omega arith in
    spells.texts_more (is_of ts i word.Text w.0) tt (subst (λ x. Spells ts the_limit (rest (symbol.Texts ∷ [])) h c c d none (i + 1) x) e (texts_from ts h c d n (i + 1) w.1))

texts_of : (ts : List Lexeme) (h : Context) (c : Scopes) (d i j : ℕ) → i < j → span_is ts word.Text i j ≡ true → Spells ts the_limit (rest (symbol.Texts ∷ [])) h c c d none i j
texts_of ts h c d i j lt q =
    let w = both (nat_le i j) (are_words ts word.Text (j - i) i) q in
    let n : j - i ≡ suc (j - i - 1) = omega arith in
    let e : i + suc (j - i - 1) ≡ j = omega arith in
    subst (λ x. Spells ts the_limit (rest (symbol.Texts ∷ [])) h c c d none i x) e (texts_from ts h c d (j - i - 1) i (subst (λ x. are_words ts word.Text x i ≡ true) n w.1))

done_is : {ts : List Lexeme} {h : Context} {c e : Scopes} {d i j : ℕ} {t : Trees} → Spells ts the_limit (rest []) h c e d t i j → (t ≡ none) × (c ≡ e) × (i ≡ j)
done_is spells.done = (refl, refl, refl)

room_of : (d : ℕ) → has_room d ≡ true → d < most_levels
room_of d q = ltb-true d most_levels q

-- A row of trees t, where the first tree is spelled as what `inside` reads it as, and the row after it as `next` reads it.
module _ (ts : List Lexeme) (t : Trees) (inside next : Reader)
    (first : (p : Part) (h : Context) (c e : Scopes) (d i : ℕ) → lead ts inside t p h c d i ≡ Some e → Spells ts the_limit (a p) h c e d (alone t) i (after_of t))
    (after : IsSound ts (next_of t) next) where
  whole : (s : Side) (h : Context) (c e : Scopes) (d i j : ℕ) → Spells ts the_limit (rest s) h c e d (alone t & next_of t) i j → Spells ts the_limit (rest s) h c e d t i j
  whole s h c e d i j q = subst (λ x. Spells ts the_limit (rest s) h c e d x i j) (rejoined t) q

  done_at : (h : Context) (c e : Scopes) (d i j : ℕ) → is_none t ≡ true → i ≡ j → c ≡ e → Spells ts the_limit (rest []) h c e d t i j
  done_at h c e d i j q p r =
      subst (λ x. Spells ts the_limit (rest []) h c e d x i j) (none_of t q)
      (subst (λ x. Spells ts the_limit (rest []) h c e d none i x) p
      (subst (λ x. Spells ts the_limit (rest []) h c x d none i i) r spells.done))

  to_none : (s : Side) (h : Context) (c e : Scopes) (d i j : ℕ) → is_none t ≡ true → Spells ts the_limit (rest s) h c e d t i j → Spells ts the_limit (rest s) h c e d none i j
  to_none s h c e d i j q r = subst (λ x. Spells ts the_limit (rest s) h c e d x i j) (sym (none_of t q)) r

  from_none : (s : Side) (h : Context) (c e : Scopes) (d i j : ℕ) → is_none t ≡ true → Spells ts the_limit (rest s) h c e d none i j → Spells ts the_limit (rest s) h c e d t i j
  from_none s h c e d i j q r = subst (λ x. Spells ts the_limit (rest s) h c e d x i j) (none_of t q) r

  list_sound : (l : Depth) (p : Part) (s : Side) (h : Context) (c e : Scopes) (d i j : ℕ) →
      list_on ts t next l p s h d j (lead ts inside t p h c (levels l d) i) ≡ Some e → Spells ts the_limit (rest (symbol.List l p ∷ s)) h c e d t i j
  list_sound l p s h c e d i j q = by (lead ts inside t p h c (levels l d) i) refl q
    where
      two : (f : Scopes) → lead ts inside t p h c (levels l d) i ≡ Some f → (b : Bool) → is_last t ≡ b →
          (if b then next s (past_part h (alone t)) f d (after_of t) j
          else (if is_word ts (after_of t) word.Comma then next (symbol.List l p ∷ s) (past_token h) f d (after_of t + 1) j else None)) ≡ Some e →
          Spells ts the_limit (rest (symbol.List l p ∷ s)) h c e d t i j
      two f o true last r =
          subst (λ x. Spells ts the_limit (rest (symbol.List l p ∷ s)) h c e d x i j) (last_alone t last)
          (spells.list_last (first p h c f (levels l d) i o)
          (subst (λ x. Spells ts the_limit (rest s) (past_part h (alone t)) f e d x (after_of t) j) (sym (last_of t last)) (after _ _ _ _ _ _ _ r)))
      two f o false more r =
          let w = if_some (is_word ts (after_of t) word.Comma) (next (symbol.List l p ∷ s) (past_token h) f d (after_of t + 1) j) r in
          whole _ _ _ _ _ _ _ (spells.list_more (first p h c f (levels l d) i o) (is_of ts (after_of t) word.Comma w.0) tt (after _ _ _ _ _ _ _ w.1))

      by : (o : Option Scopes) → lead ts inside t p h c (levels l d) i ≡ o → list_on ts t next l p s h d j o ≡ Some e → Spells ts the_limit (rest (symbol.List l p ∷ s)) h c e d t i j
      by None o r = cc
      by (Some f) o r = two f o (is_last t) refl r

  closed_by : (s : Side) (h : Context) (c x e : Scopes) (d i k j : ℕ) → next_of t ≡ none → x ≡ e → k ≡ j →
      Spells ts the_limit (rest s) h c x d (alone t) i k → Spells ts the_limit (rest s) h c e d t i j
  closed_by s h c x e d i k j n q r m =
      subst (λ y. Spells ts the_limit (rest s) h c e d y i j) (alone_of t n)
      (subst (λ y. Spells ts the_limit (rest s) h c y d (alone t) i j) q (subst (λ y. Spells ts the_limit (rest s) h c x d (alone t) i y) r m))

  prototype_sound : (s : Side) (h : Context) (c e : Scopes) (d i j : ℕ) →
      elim c as (λ _. Option Scopes) [
        | [] ↦ None
        | own ∷ c' ↦
            elim (lead ts inside t part.Parameters h ([] ∷ c') (d + 1) i) as (λ _. Option Scopes) [
              | None ↦ None
              | Some e ↦
                  elim e as (λ _. Option Scopes) [ [] ↦ None | names ∷ e' ↦ next s (past_part h (alone t)) ((if h.bare then names else own) ∷ e') d (after_of t) j ]
            ]
      ] ≡ Some e →
      Spells ts the_limit (rest (symbol.Prototype ∷ s)) h c e d t i j
  prototype_sound s h [] e d i j q = cc
  prototype_sound s h (own ∷ c) e d i j q =
      let v = some_of (lead ts inside t part.Parameters h ([] ∷ c) (d + 1) i) (λ f. elim f as (λ _. Option Scopes) [ [] ↦ None | names ∷ e' ↦ next s (past_part h (alone t)) ((if h.bare then names else own) ∷ e') d (after_of t) j ]) q in
      by v.0 v.1 v.2
    where
      by : (f : Scopes) → lead ts inside t part.Parameters h ([] ∷ c) (d + 1) i ≡ Some f →
          elim f as (λ _. Option Scopes) [ [] ↦ None | names ∷ e' ↦ next s (past_part h (alone t)) ((if h.bare then names else own) ∷ e') d (after_of t) j ] ≡ Some e →
          Spells ts the_limit (rest (symbol.Prototype ∷ s)) h (own ∷ c) e d t i j
      by [] m r = cc
      by (names ∷ f) m r = whole _ _ _ _ _ _ _ (spells.prototype_some (first part.Parameters h ([] ∷ c) (names ∷ f) (d + 1) i m) (after _ _ _ _ _ _ _ r))

  size_sound : (s : Side) (h : Context) (c e : Scopes) (d i j : ℕ) →
      elim c as (λ _. Option Scopes) [
        | [] ↦ None
        | own ∷ c' ↦
            elim (lead ts inside t part.Conditional h c' (d + 1) i) as (λ _. Option Scopes) [ None ↦ None | Some e ↦ next s (past_part h (alone t)) (own ∷ e) d (after_of t) j ]
      ] ≡ Some e →
      Spells ts the_limit (rest (symbol.Size ∷ s)) h c e d t i j
  size_sound s h [] e d i j q = cc
  size_sound s h (own ∷ c) e d i j q =
      let v = some_of (lead ts inside t part.Conditional h c (d + 1) i) (λ x. next s (past_part h (alone t)) (own ∷ x) d (after_of t) j) q in
      whole _ _ _ _ _ _ _ (spells.size_some (first part.Conditional h c v.0 (d + 1) i v.1) (after _ _ _ _ _ _ _ v.2))

  clause_sound : (s : Side) (h : Context) (c e : Scopes) (d i j : ℕ) →
      elim (lead ts inside t part.Expression h c (d + 1) i) as (λ _. Option Scopes) [
        | None ↦ None
        | Some e ↦
            if is_word ts (after_of t) word.Semicolon then next s (past_token h) e d (after_of t + 1) j else None
      ] ≡ Some e →
      Spells ts the_limit (rest (symbol.Clause ∷ s)) h c e d t i j
  clause_sound s h c e d i j q =
      let v = some_of (lead ts inside t part.Expression h c (d + 1) i) (λ f. if is_word ts (after_of t) word.Semicolon then next s (past_token h) f d (after_of t + 1) j else None) q in
      let u = if_some (is_word ts (after_of t) word.Semicolon) (next s (past_token h) v.0 d (after_of t + 1) j) v.2 in
      whole _ _ _ _ _ _ _ (spells.clause_some (first part.Expression h c v.0 (d + 1) i v.1) (is_of ts (after_of t) word.Semicolon u.0) tt (after _ _ _ _ _ _ _ u.1))

  else_sound : (s : Side) (h : Context) (c e : Scopes) (d i j : ℕ) →
      (if is_word ts i word.Else && has_room d
      then elim (lead ts inside t part.Statement h ([] ∷ c) (d + 1) (i + 1)) as (λ _. Option Scopes) [
        | None ↦ None
        | Some e ↦
            elim e as (λ _. Option Scopes) [ [] ↦ None | names ∷ e' ↦ next s (past_part h (alone t)) e' d (after_of t) j ]
      ]
      else None) ≡ Some e →
      Spells ts the_limit (rest (symbol.Else ∷ s)) h c e d t i j
  else_sound s h c e d i j q =
      let u = if_some (is_word ts i word.Else && has_room d) _ q in
      let w = both (is_word ts i word.Else) (has_room d) u.0 in
      let v = some_of (lead ts inside t part.Statement h ([] ∷ c) (d + 1) (i + 1)) (λ f. elim f as (λ _. Option Scopes) [ [] ↦ None | names ∷ e' ↦ next s (past_part h (alone t)) e' d (after_of t) j ]) u.1 in
      by w v.0 v.1 v.2
    where
      by : (is_word ts i word.Else ≡ true) × (has_room d ≡ true) → (f : Scopes) → lead ts inside t part.Statement h ([] ∷ c) (d + 1) (i + 1) ≡ Some f →
          elim f as (λ _. Option Scopes) [ [] ↦ None | names ∷ e' ↦ next s (past_part h (alone t)) e' d (after_of t) j ] ≡ Some e →
          Spells ts the_limit (rest (symbol.Else ∷ s)) h c e d t i j
      by w [] m r = cc
      by w (names ∷ f) m r = whole _ _ _ _ _ _ _ (spells.else_some (is_of ts i word.Else w.0) (room_of d w.1) (first part.Statement h ([] ∷ c) (names ∷ f) (d + 1) (i + 1) m) (after _ _ _ _ _ _ _ r))

  pub along_sound : (s : Side) (h : Context) (c e : Scopes) (d i j : ℕ) → along ts t inside next s h c d i j ≡ Some e → Spells ts the_limit (rest s) h c e d t i j
  unfolding along
  along_sound [] h c e d i j q =
      let w = if_some (is_none t && (i == j)) (Some c) q in let v = both (is_none t) (i == j) w.0 in
      done_at h c e d i j v.0 (eqb-true i j v.1) (some_one w.1)
  along_sound (symbol.Token l w ∷ s) h c e d i j q =
      let v = if_some (is_word ts i w) (along ts t inside next s (past_token h) c d (i + 1) j) q in
      spells.token (is_of ts i w v.0) tt (along_sound s _ c e d (i + 1) j v.1)
  along_sound (symbol.Opens l w ∷ s) h c e d i j q =
      let v = if_some (is_word ts i w && has_room (levels l d)) (along ts t inside next s (past_token h) c d (i + 1) j) q in
      let u = both (is_word ts i w) (has_room (levels l d)) v.0 in
      spells.opens (is_of ts i w u.0) (room_of (levels l d) u.1) (along_sound s _ c e d (i + 1) j v.1)
  along_sound (symbol.Reopens w ∷ s) h c e d i j q =
      let v = if_some (is_word ts i w && has_room d) (along ts t inside next s (past_token h) c d (i + 1) j) q in
      let u = both (is_word ts i w) (has_room d) v.0 in
      spells.reopens (is_of ts i w u.0) tt (room_of d u.1) (along_sound s _ c e d (i + 1) j v.1)
  along_sound (symbol.Part l p ∷ s) h c e d i j q =
      let v = some_of (lead ts inside t p h c (levels l d) i) (λ x. next s (past_part h (alone t)) x d (after_of t) j) q in
      whole _ _ _ _ _ _ _ (spells.part (first p h c v.0 (levels l d) i v.1) (after _ _ _ _ _ _ _ v.2))
  along_sound (symbol.Optional l p ∷ s) h c e d i j q =
      choose (is_none t) (along ts t inside next s h c d i j) _
      (λ n r. from_none _ _ _ _ _ _ _ n (spells.optional_none (to_none _ _ _ _ _ _ _ n (along_sound s h c e d i j r))))
      (λ _ r. let v = some_of (lead ts inside t p h c (levels l d) i) (λ x. next s (past_part h (alone t)) x d (after_of t) j) r in
      whole _ _ _ _ _ _ _ (spells.optional_some (first p h c v.0 (levels l d) i v.1) (after _ _ _ _ _ _ _ v.2))) q
  along_sound (symbol.Many l p ∷ s) h c e d i j q =
      choose (is_none t) (along ts t inside next s h c d i j) _
      (λ n r. from_none _ _ _ _ _ _ _ n (spells.many_none (to_none _ _ _ _ _ _ _ n (along_sound s h c e d i j r))))
      (λ _ r. let v = some_of (lead ts inside t p h c (levels l d) i) (λ x. next (symbol.Many l p ∷ s) (past_part h (alone t)) x d (after_of t) j) r in
      whole _ _ _ _ _ _ _ (spells.many_more (first p h c v.0 (levels l d) i v.1) (after _ _ _ _ _ _ _ v.2))) q
  along_sound (symbol.List l p ∷ s) h c e d i j q = list_sound l p s h c e d i j q
  along_sound (symbol.OptionalList l p ∷ s) h c e d i j q =
      choose (is_none t) (along ts t inside next s h c d i j) _
      (λ n r. from_none _ _ _ _ _ _ _ n (spells.list_none (to_none _ _ _ _ _ _ _ n (along_sound s h c e d i j r))))
      (λ _ r. spells.list_some (list_sound l p s h c e d i j r)) q
  along_sound (symbol.Tag ∷ s) h c e d i j q =
      choose (is_word ts i word.Identifier) _ _
      (λ b r. let v = if_some (is_word ts (i + 1) word.LeftBrace && has_room d) (along ts t inside next s (past_token h) c d (i + 1 + 1) j) r in
      let u = both (is_word ts (i + 1) word.LeftBrace) (has_room d) v.0 in
      spells.tag_some (is_of ts i word.Identifier b) tt (is_of ts (i + 1) word.LeftBrace u.0) (room_of d u.1) (along_sound s _ c e d (i + 1 + 1) j v.1))
      (λ b r. let v = if_some (is_word ts i word.LeftBrace && has_room d) (along ts t inside next s (past_token h) c d (i + 1) j) r in
      let u = both (is_word ts i word.LeftBrace) (has_room d) v.0 in
      spells.tag_none (is_of ts i word.LeftBrace u.0) (room_of d u.1) (along_sound s _ c e d (i + 1) j v.1)) q
  along_sound (symbol.TrailingComma ∷ s) h c e d i j q =
      choose (is_word ts i word.Comma) _ _
      (λ b r. let v = if_some (is_word ts (i + 1) word.RightBrace) (along ts t inside next s (past_token h) c d (i + 1 + 1) j) r in
      spells.comma_some (is_of ts i word.Comma b) tt (is_of ts (i + 1) word.RightBrace v.0) tt (along_sound s _ c e d (i + 1 + 1) j v.1))
      (λ b r. let v = if_some (is_word ts i word.RightBrace) (along ts t inside next s (past_token h) c d (i + 1) j) r in
      spells.comma_none (is_of ts i word.RightBrace v.0) tt (along_sound s _ c e d (i + 1) j v.1)) q
  along_sound (symbol.Qualified p ∷ []) h c e d i j q =
      let u = if_some (span_qualifies ts i (first_of t)) _ q in
      let v = some_of (lead ts inside t p h c (d + 1) (first_of t)) (λ x. next [] h x d (after_of t) j) u.1 in
      let w = done_is (after _ _ _ _ _ _ _ v.2) in
      closed_by _ h c v.0 e d i (after_of t) j w.0 w.1 w.2 (spells.qualified (qualifiers_of ts (d + 1) i (first_of t) u.0) (first p h c v.0 (d + 1) (first_of t) v.1))
  along_sound (symbol.Qualified p ∷ x ∷ s) h c e d i j q = cc
  along_sound (symbol.OptionalQualified p ∷ []) h c e d i j q =
      choose (is_none t) _ _
      (λ n r. let u = if_some (span_qualifies ts i j) (Some c) r in
      from_none _ _ _ _ _ _ _ n (subst (λ x. Spells ts the_limit (rest (symbol.OptionalQualified p ∷ [])) h c x d none i j) (some_one u.1) (spells.qualified_none (qualifiers_of ts (d + 1) i j u.0))))
      (λ _ r. let u = if_some (span_qualifies ts i (first_of t)) _ r in
      let v = some_of (lead ts inside t p h c (d + 1) (first_of t)) (λ x. next [] h x d (after_of t) j) u.1 in
      let w = done_is (after _ _ _ _ _ _ _ v.2) in
      closed_by _ h c v.0 e d i (after_of t) j w.0 w.1 w.2 (spells.qualified_some (qualifiers_of ts (d + 1) i (first_of t) u.0) (first p h c v.0 (d + 1) (first_of t) v.1))) q
  along_sound (symbol.OptionalQualified p ∷ x ∷ s) h c e d i j q = cc
  along_sound (symbol.Ordinary ∷ s) h c e d i j q =
      let v = if_some (is_word ts i word.Identifier && not (is_type c (spelling_at ts i))) (along ts t inside next s (past_token h) c d (i + 1) j) q in
      let u = both (is_word ts i word.Identifier) (not (is_type c (spelling_at ts i))) v.0 in
      spells.ordinary (is_of ts i word.Identifier u.0, not_true (is_type c (spelling_at ts i)) u.1) tt (along_sound s _ c e d (i + 1) j v.1)
  along_sound (symbol.TypeIdentifier ∷ s) h c e d i j q =
      let v = if_some (is_word ts i word.Identifier && is_type c (spelling_at ts i) && not h.typed) (along ts t inside next s (past_token h) c d (i + 1) j) q in
      let u = both (is_word ts i word.Identifier && is_type c (spelling_at ts i)) (not h.typed) v.0 in
      let w = both (is_word ts i word.Identifier) (is_type c (spelling_at ts i)) u.0 in
      spells.type_identifier (is_of ts i word.Identifier w.0, w.1) (not_true h.typed u.1) tt (along_sound s _ c e d (i + 1) j v.1)
  along_sound (symbol.Declared ∷ s) h c e d i j q =
      let v = if_some (is_word ts i word.Identifier && (h.typed || not (is_type c (spelling_at ts i)))) (along ts t inside next s (past_token h) ([] ∷ c) d (i + 1) j) q in
      let u = both (is_word ts i word.Identifier) (h.typed || not (is_type c (spelling_at ts i))) v.0 in
      spells.declared (is_of ts i word.Identifier u.0) u.1 tt (along_sound s _ ([] ∷ c) e d (i + 1) j v.1)
  along_sound (symbol.Enumerates ∷ s) h c e d i j q =
      let v = if_some (is_word ts i word.Identifier) _ q in
      let u = some_of (along ts t inside next s (past_token h) c d (i + 1) j) (λ x. Some (enter (record { name = spelling_at ts i; is_type = false }) x)) v.1 in
      subst (λ x. Spells ts the_limit (rest (symbol.Enumerates ∷ s)) h c x d t i j) (some_one u.2)
      (spells.enumerates (is_of ts i word.Identifier v.0) tt (along_sound s _ c u.0 d (i + 1) j u.1))
  along_sound (symbol.Value ∷ s) h c e d i j q =
      choose (is_none t) (along ts t inside next s h c d i j) _
      (λ n r. from_none _ _ _ _ _ _ _ n (spells.value_none (to_none _ _ _ _ _ _ _ n (along_sound s h c e d i j r))))
      (λ _ r. let u = if_some (is_word ts i word.Equal) _ r in
      let v = some_of (lead ts inside t part.Conditional h c d (i + 1)) (λ x. next s (past_part h (alone t)) x d (after_of t) j) u.1 in
      whole _ _ _ _ _ _ _ (spells.value_some (is_of ts i word.Equal u.0) tt (first part.Conditional h c v.0 d (i + 1) v.1) (after _ _ _ _ _ _ _ v.2))) q
  along_sound (symbol.Enters ∷ s) h [] e d i j q = cc
  along_sound (symbol.Enters ∷ s) h (own ∷ c) e d i j q = spells.enters (along_sound s h _ e d i j q)
  along_sound (symbol.Begins ∷ s) h c e d i j q = spells.begins (along_sound s h _ e d i j q)
  along_sound (symbol.Ends ∷ s) h [] e d i j q = cc
  along_sound (symbol.Ends ∷ s) h (own ∷ c) e d i j q = spells.ends (along_sound s h c e d i j q)
  along_sound (symbol.Prototype ∷ s) h c e d i j q =
      choose (is_none t) (along ts t inside next s h c d i j) _
      (λ n r. from_none _ _ _ _ _ _ _ n (spells.prototype_none (to_none _ _ _ _ _ _ _ n (along_sound s h c e d i j r))))
      (λ _ r. prototype_sound s h c e d i j r) q
  along_sound (symbol.Size ∷ s) h c e d i j q =
      choose (is_none t) (along ts t inside next s h c d i j) _
      (λ n r. from_none _ _ _ _ _ _ _ n (spells.size_none (to_none _ _ _ _ _ _ _ n (along_sound s h c e d i j r))))
      (λ _ r. size_sound s h c e d i j r) q
  along_sound (symbol.Texts ∷ []) h c e d i j q =
      let v = if_some (is_none t && nat_lt i j && span_is ts word.Text i j) (Some c) q in
      let u = both (is_none t && nat_lt i j) (span_is ts word.Text i j) v.0 in
      let w = both (is_none t) (nat_lt i j) u.0 in
      from_none _ _ _ _ _ _ _ w.0 (subst (λ x. Spells ts the_limit (rest (symbol.Texts ∷ [])) h c x d none i j) (some_one v.1) (texts_of ts h c d i j (ltb-true i j w.1) u.1))
  along_sound (symbol.Texts ∷ x ∷ s) h c e d i j q = cc
  along_sound (symbol.Init ∷ s) h c e d i j q =
      choose (leads_declaration t && begins_at t i) _ _
      (λ _ r. let v = some_of (lead ts inside t part.Declaration h c (d + 1) i) (λ x. next s (past_part h (alone t)) x d (after_of t) j) r in
      whole _ _ _ _ _ _ _ (spells.init_declaration (first part.Declaration h c v.0 (d + 1) i v.1) (after _ _ _ _ _ _ _ v.2)))
      (λ _ r. spells.init_clause (choose (begins_at t i) _ _ (λ _ x. clause_sound s h c e d i j x)
      (λ _ x. let v = if_some (is_word ts i word.Semicolon) (along ts t inside next s (past_token h) c d (i + 1) j) x in
      spells.clause_none (is_of ts i word.Semicolon v.0) tt (along_sound s _ c e d (i + 1) j v.1)) r)) q
  along_sound (symbol.Clause ∷ s) h c e d i j q =
      choose (begins_at t i) _ _ (λ _ x. clause_sound s h c e d i j x)
      (λ _ x. let v = if_some (is_word ts i word.Semicolon) (along ts t inside next s (past_token h) c d (i + 1) j) x in
      spells.clause_none (is_of ts i word.Semicolon v.0) tt (along_sound s _ c e d (i + 1) j v.1)) q
  along_sound (symbol.Step ∷ s) h c e d i j q =
      choose (begins_at t i) _ _
      (λ _ x. let v = some_of (lead ts inside t part.Expression h c (d + 1) i) (λ f. if is_word ts (after_of t) word.RightParen && has_room d then next s (past_token h) f d (after_of t + 1) j else None) x in
      let u = if_some (is_word ts (after_of t) word.RightParen && has_room d) (next s (past_token h) v.0 d (after_of t + 1) j) v.2 in
      let w = both (is_word ts (after_of t) word.RightParen) (has_room d) u.0 in
      whole _ _ _ _ _ _ _ (spells.step_some (first part.Expression h c v.0 (d + 1) i v.1) (is_of ts (after_of t) word.RightParen w.0) tt (room_of d w.1) (after _ _ _ _ _ _ _ u.1)))
      (λ _ x. let v = if_some (is_word ts i word.RightParen && has_room d) (along ts t inside next s (past_token h) c d (i + 1) j) x in
      let w = both (is_word ts i word.RightParen) (has_room d) v.0 in
      spells.step_none (is_of ts i word.RightParen w.0) tt (room_of d w.1) (along_sound s _ c e d (i + 1) j v.1)) q
  along_sound (symbol.Else ∷ s) h c e d i j q =
      choose (is_none t) (along ts t inside next s h c d i j) _
      (λ n r. from_none _ _ _ _ _ _ _ n (spells.else_none (to_none _ _ _ _ _ _ _ n (along_sound s h c e d i j r))))
      (λ _ r. else_sound s h c e d i j r) q

pub reads_sound : (ts : List Lexeme) (t : Trees) → IsSound ts t (reads ts t)
unfolding reads
reads_sound ts none s h c e d i j q = along_sound ts none no_reader no_reader (λ p h c e d i x. cc) (λ s h c e d i j x. cc) s h c e d i j q
reads_sound ts (node k i' j' b n) s h c e d i j q =
    along_sound ts (node k i' j' b n) (reads ts b) (reads ts n)
    (λ p h c e d i x. let w = if_some {e = e} (i' == i) (as_part ts (reads ts b) most_links p h c d k i j' b) x in
    subst (λ y. Spells ts the_limit (a p) h c e d (one k y j' b) i j') (sym (eqb-true i' i w.0)) (part_sound ts (reads ts b) b (reads_sound ts b) k i j' most_links p h c e d w.1))
    (reads_sound ts n) s h c e d i j q
