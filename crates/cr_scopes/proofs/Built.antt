-- Entities are gathered token by token.
use Rattle.std.proofs.Common.{◌≡◌, ℕ, zero, suc, ◌+◌, ◌<◌, ◌≤◌, ◌==◌, Bool, List, [], ◌∷◌, ◌++◌, Option, None, Some, length, slice_get, slice_set, slice_index_or, if◌then◌else◌, refl, sym, ap, subst, ◌∙◌, inl, inr, arith, length-append}
use Rattle.std.proofs.lemmas.List.{get_or_past, get_or-set_other, length-set}
use Rattle.std.proofs.lemmas.Grind.{get_or-set_at}
use Rattle.std.proofs.lemmas.Option.{slice_get-get_or, slice_get_within, get_or_from_slice_get}
use Rattle.std.proofs.lemmas.Bool.{cases_lt, cases_eq, eq-eqb, ne_eqb, cond-true, cond-false}
use Rattle.std.proofs.Math.ListN.{get_or-append}
use Rattle.std.proofs.Math.Seq.{get_or-append_seam}
use Rattle.cr_scopes.specs.declared.names.Entity.{Entity}
use Rattle.cr_scopes.specs.declared.told.Told.{Told}
use Rattle.cr_scopes.specs.Resolved.{begins, count_of, number_of, nobody, with_token, is_number, entity_of, AreNames}
use Rattle.cr_scopes.specs.Building.{told_in, number_in, AreBegun, AreNumbered, filled_of, AreFilled, HasAdded}

-- a row with one entry more
more : {A : Type 0} (P : ℕ → A → Type 0) (xs : List A) (x d : A) (k : ℕ) → length xs ≡ k
    → ((t : ℕ) → t < k → P t (slice_index_or xs t d)) → P k x → (t : ℕ) → t < k + 1 → P t (slice_index_or (xs ++ x ∷ []) t d)
more P xs x d k whole each one t low = elim (cases_lt t k) [
  | inl older ↦ subst (P t) (sym (get_or-append xs (x ∷ []) d t (omega (arith, older, whole)))) (each t older)
  | inr newest ↦
      let same : t ≡ k = omega arith in
      subst (λ n. P n (slice_index_or (xs ++ x ∷ []) n d)) (sym same)
      (subst (P k) (sym (subst (λ n. slice_index_or (xs ++ x ∷ []) n d ≡ x) whole (get_or-append_seam xs x [] d))) one)
]

count_more : (at : ℕ → Option Told) (k : ℕ) → count_of at (k + 1) ≡ (if begins (at k) k then count_of at k + 1 else count_of at k)
count_more at k = ap (count_of at) (let e : k + 1 ≡ suc k = omega arith in e)

pub one_begun : (at : ℕ → Option Told) (numbers new : List (Option ℕ)) (count next k : ℕ) (b : Bool) → AreBegun at numbers count k
    → b ≡ begins (at k) k → new ≡ numbers ++ (if b then Some count else None) ∷ [] → next ≡ (if b then count + 1 else count)
    → AreBegun at new next (k + 1)
one_begun at numbers new count next k b h e n c = record {
  whole = let w = h.whole in ap length n ∙ omega (arith, w, length-append numbers ((if b then Some count else None) ∷ []));
  each = subst (λ xs. (t : ℕ) → t < k + 1 → slice_index_or xs t None ≡ (if begins (at t) t then Some (count_of at t) else None)) (sym n)
      (more (λ t x. x ≡ (if begins (at t) t then Some (count_of at t) else None)) numbers (if b then Some count else None) None k h.whole h.each
      (ap (λ t. if t then Some count else None) e ∙ ap (λ i. if begins (at k) k then Some i else None) h.total));
  total = c ∙ ap (λ t. if t then count + 1 else count) e ∙ ap (λ i. if begins (at k) k then i + 1 else i) h.total ∙ sym (count_more at k);
}

pub one_numbered : (at : ℕ → Option Told) (begun of : List (Option ℕ)) (number : Option ℕ) (k : ℕ) → AreNumbered at begun of k
    → number ≡ number_in begun (at k) → AreNumbered at begun (of ++ number ∷ []) (k + 1)
one_numbered at begun of number k h e = record {
  whole = let w = h.whole in omega (arith, w, length-append of (number ∷ []));
  each = more (λ t x. x ≡ number_in begun (at t)) of number None k h.whole h.each e;
}

pub one_nobody : (entities : List Entity) (k : ℕ) → length entities ≡ k
    → ((j : ℕ) → j < k → slice_get entities j ≡ Some nobody) → (j : ℕ) → j < k + 1 → slice_get (entities ++ nobody ∷ []) j ≡ Some nobody
one_nobody entities k whole each j low =
    slice_get-get_or (entities ++ nobody ∷ []) j nobody (omega (arith, low, whole, length-append entities (nobody ∷ [])))
    ∙ ap Some (more (λ t x. x ≡ nobody) entities nobody nobody k whole
    (λ t l. get_or_from_slice_get entities t nobody nobody (each t l)) refl j low)

pub nothing_added : (token : ℕ) (what : Option Told) (entities : List Entity) → HasAdded None token what entities entities
nothing_added token what entities = record { whole = refl; each = λ j entity h. h }

pub added_past : (at token : ℕ) (what : Option Told) (entities : List Entity) → length entities ≤ at → HasAdded (Some at) token what entities entities
added_past at token what entities past = record {
  whole = refl;
  each = λ j entity h.
      h ∙ ap Some (sym (cond-false (at == j) (with_token token what entity) entity
      (ne_eqb at j (λ is. let low = slice_get_within entities j entity h in omega (arith, past, is, low)))));
}

pub added_at : (at token : ℕ) (what : Option Told) (entities new : List Entity) (entity after : Entity) → at < length entities
    → new ≡ slice_set entities at after → slice_get entities at ≡ Some entity → after ≡ with_token token what entity
    → HasAdded (Some at) token what entities new
added_at at token what entities new entity after low n e a = record {
  whole = ap length n ∙ length-set entities at after;
  each = λ j other h.
      let within = slice_get_within entities j other h in
      slice_get-get_or new j other (let w = ap length n ∙ length-set entities at after in omega (arith, within, w))
      ∙ ap Some (ap (λ xs. slice_index_or xs j other) n ∙ elim (cases_eq at j) [
        | inl is ↦
            get_or-set_at entities at j after other (sym is) low
            ∙ a
            ∙ ap (with_token token what) (same_entry entities at j entity other is e h)
            ∙ sym (cond-true (at == j) (with_token token what other) other (eq-eqb at j is))
        | inr ne ↦
            get_or-set_other entities at j after other (λ is. ne (sym is))
            ∙ get_or_from_slice_get entities j other other h
            ∙ sym (cond-false (at == j) (with_token token what other) other (ne_eqb at j ne))
      ]);
}
  where
    same_entry : (entities : List Entity) (at j : ℕ) (entity other : Entity) → at ≡ j → slice_get entities at ≡ Some entity
        → slice_get entities j ≡ Some other → entity ≡ other
    same_entry entities at j entity other is e h =
        sym (get_or_from_slice_get entities at entity entity e)
        ∙ ap (λ k. slice_index_or entities k entity) is
        ∙ get_or_from_slice_get entities j other entity h

pub one_filled : (at : ℕ → Option Told) (of : List (Option ℕ)) (old new : List Entity) (number : Option ℕ) (count k : ℕ)
    → AreFilled at of old count k → number ≡ slice_index_or of k None → HasAdded number k (at k) old new → AreFilled at of new count (k + 1)
one_filled at of old new number count k h e a = record {
  whole = a.whole ∙ h.whole;
  each = λ j low.
      a.each j (filled_of at of k j) (h.each j low)
      ∙ ap (λ n. Some (if is_number n j then with_token k (at k) (filled_of at of k j) else filled_of at of k j)) e
      ∙ ap (λ n. Some (filled_of at of n j)) (let s : suc k ≡ k + 1 = omega arith in s);
}

same_entity : (at : ℕ → Option Told) (of : List (Option ℕ)) (k j : ℕ)
    → ((t : ℕ) → t < k → slice_index_or of t None ≡ number_of at (at t)) → filled_of at of k j ≡ entity_of at k j
same_entity at of zero j h = refl
same_entity at of (suc k) j h =
    let before : filled_of at of k j ≡ entity_of at k j = same_entity at of k j (λ t low. h t (omega (arith, low))) in
    ap (λ n. if is_number n j then with_token k (at k) (filled_of at of k j) else filled_of at of k j) (h k (omega arith))
    ∙ ap (λ e. if is_number (number_of at (at k)) j then with_token k (at k) e else e) before

same_number : (rows : List (Option Told)) (begun : List (Option ℕ)) (count : ℕ) (what : Option Told)
    → AreBegun (told_in rows) begun count (length rows) → number_in begun what ≡ number_of (told_in rows) what
same_number rows begun count None h = refl
same_number rows begun count (Some x) h = elim (cases_lt x.first (length rows)) [
  | inl low ↦ h.each x.first low
  | inr past ↦
      get_or_past begun x.first None (let w = h.whole in omega (arith, w, past))
      ∙ ap (λ o. if begins o x.first then Some (count_of (told_in rows) x.first) else None) (sym (get_or_past rows x.first None past))
]

gathered : (rows : List (Option Told)) (begun of : List (Option ℕ)) (entities : List Entity) (count : ℕ)
    → AreBegun (told_in rows) begun count (length rows) → AreNumbered (told_in rows) begun of (length rows)
    → AreFilled (told_in rows) of entities count (length rows)
    → AreNames (told_in rows) (length rows) (record { entities = entities; of_token = of })
gathered rows begun of entities count b n f =
    let numbers : (t : ℕ) → t < length rows → slice_index_or of t None ≡ number_of (told_in rows) (told_in rows t) =
    λ t low. n.each t low ∙ same_number rows begun count (told_in rows t) b in
    record {
      count = f.whole ∙ b.total;
      entities = λ k low.
          f.each k (let e = b.total in omega (arith, low, e))
          ∙ ap Some (same_entity (told_in rows) of (length rows) k numbers);
      tokens = n.whole;
      of_token = numbers;
    }

pub built : (rows : List (Option Told)) (begun of of_row : List (Option ℕ)) (entities entity_row : List Entity) (count : ℕ)
    → entity_row ≡ entities → of_row ≡ of → AreBegun (told_in rows) begun count (length rows) → AreNumbered (told_in rows) begun of (length rows)
    → AreFilled (told_in rows) of entities count (length rows)
    → AreNames (told_in rows) (length rows) (record { entities = entity_row; of_token = of_row })
built rows begun of of_row entities entity_row count e o b n f =
    subst (λ es. AreNames (told_in rows) (length rows) (record { entities = es; of_token = of_row })) (sym e)
    (subst (λ os. AreNames (told_in rows) (length rows) (record { entities = entities; of_token = os })) (sym o)
    (gathered rows begun of entities count b n f))
