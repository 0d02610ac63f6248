-- Runs of events that tell some tags which are told again: the list of parameters of a definition (C11 6.2.1p4).
use Rattle.std.proofs.Common.{ℕ, suc, ◌<◌, ◌≤◌, ◌⊎◌, inl, inr, List, [], ◌∷◌, ◌++◌, Option, sym, ap, subst, ◌∙◌, arith}
use Rattle.std.proofs.lemmas.Bool.{cases_lt}
use Rattle.cr_tokens.specs.declared.token.Token.{Token}
use Rattle.cr_syntax.specs.declared.node.Node.{Node}
use Rattle.cr_scopes_events.specs.declared.event.Event.{Event}
use Rattle.cr_scopes_events.specs.declared.event.Event.TheVariants as event
use Rattle.cr_scopes.specs.declared.told.Told.{Told}
use Rattle.cr_scopes.specs.declared.scope.Space.TheVariants.{Tag}
use Rattle.cr_scopes.specs.declared.scope.Look.{Look}
use Rattle.cr_scopes.specs.Looking.{look}
use Rattle.cr_scopes.specs.Resolved.{told}
use Rattle.cr_scopes_visibility.proofs.ToldLemmas.Events.{onto, onto_append}
use Rattle.cr_scopes_visibility.specs.Tagged.Tagged.{AreTagsApart, AreMarked}
use Rattle.cr_scopes_visibility.proofs.TaggedLemmas.Events as events
use Rattle.cr_scopes_visibility.proofs.TaggedLemmas.Events.{Holds, Runs, widen, opens_more, closes_more, node_more, scoped, forgotten}

module _ (tokens : List Token) (nodes : List Node) (apart : AreTagsApart tokens nodes) (name : ℕ → ℕ) where
  abbrev Held : (ℕ → Type 0) → List Event → Type 0
  Held done past = Holds tokens nodes apart name done past

  abbrev Run : ℕ → List Event → ℕ → Type 1
  Run b es e = Runs tokens nodes apart name b es e

  -- nodes told, but for those of the gap
  abbrev pub around : (ℕ → Type 0) → ℕ → ℕ → ℕ → ℕ → ℕ → Type 0
  around done b from to e j = (done j) ⊎ (((b ≤ j) × (j < from)) ⊎ ((to ≤ j) × (j < e)))

  -- what events with a gap leave
  pub record HasGap (b from to : ℕ) (es : List Event) (e : ℕ) : Type 1 where
    pub low : b ≤ from
    pub middle : from ≤ to
    pub high : to ≤ e
    pub goes : (done : ℕ → Type 0) (past : List Event) → ((j : ℕ) → b ≤ j → j < e → done j → ⊥) → Held done past → Held (around done b from to e) (onto past es)

  pub gap_node : (i b from to : ℕ) (es : List Event) (e : ℕ) → HasGap b from to es e → HasGap b from to (event.Node i ∷ es) e
  gap_node i b from to es e f = record {
    low = f.low;
    middle = f.middle;
    high = f.high;
    goes = λ done past fresh h. f.goes done (event.Node i ∷ past) fresh (node_more tokens nodes apart name i done past h);
  }

  -- the scope of the gap itself, behind others
  pub gap_scope : (b from to : ℕ) (xs es : List Event) → Run b xs from → Run from es to → HasGap b from to (xs ++ scoped tokens nodes apart name es) to
  gap_scope b from to xs es f g = record {
    low = f.up;
    middle = g.up;
    high = omega arith;
    goes = λ done past fresh h.
        subst (Held (around done b from to to)) (sym (onto_append past xs (scoped tokens nodes apart name es)))
        (forgotten tokens nodes apart name from to es g (around done b from to to) (onto past xs) (unheard done fresh)
        (widen tokens nodes apart name (λ j. (done j) ⊎ ((b ≤ j) × (j < from))) (around done b from to to) (onto past xs) (λ j x. forth done j x) (λ j token has x. back done j x)
        (f.goes done past (λ j low high did. (let y = g.up in fresh j low (omega (arith, high, y)) did)) h)));
  }
    where
      unheard : (done : ℕ → Type 0) → ((j : ℕ) → b ≤ j → j < to → done j → ⊥) → (j : ℕ) → from ≤ j → j < to → around done b from to to j → ⊥
      unheard done fresh j low high (inl did) = let y = f.up in fresh j (omega (arith, low, y)) high did
      unheard done fresh j low high (inr (inl x)) = let y = x.1 in omega (arith, low, y)
      unheard done fresh j low high (inr (inr x)) = let y = x.0 in omega (arith, high, y)

      forth : (done : ℕ → Type 0) (j : ℕ) → (done j) ⊎ ((b ≤ j) × (j < from)) → around done b from to to j
      forth done j (inl did) = inl did
      forth done j (inr x) = inr (inl x)

      back : (done : ℕ → Type 0) (j : ℕ) → around done b from to to j → (done j) ⊎ ((b ≤ j) × (j < from))
      back done j (inl did) = inl did
      back done j (inr (inl x)) = inr x
      back done j (inr (inr x)) = let low = x.0 in let high = x.1 in absurd (omega (arith, low, high))

  pub gap_behind : (b from to c d : ℕ) (xs ys : List Event) → HasGap b from to xs c → Run c ys d → HasGap b from to (xs ++ ys) d
  gap_behind b from to c d xs ys f g = record {
    low = f.low;
    middle = f.middle;
    high = (let x = f.high in let y = g.up in omega (arith, x, y));
    goes = λ done past fresh h.
        subst (Held (around done b from to d)) (sym (onto_append past xs ys))
        (widen tokens nodes apart name (λ j. (around done b from to c j) ⊎ ((c ≤ j) × (j < d))) (around done b from to d) (onto (onto past xs) ys) (λ j x. forth done j x) (λ j token has x. back done j x)
        (g.goes (around done b from to c) (onto past xs) (unheard done fresh)
        (f.goes done past (λ j low high did. (let y = g.up in fresh j low (omega (arith, high, y)) did)) h)));
  }
    where
      unheard : (done : ℕ → Type 0) → ((j : ℕ) → b ≤ j → j < d → done j → ⊥) → (j : ℕ) → c ≤ j → j < d → around done b from to c j → ⊥
      unheard done fresh j low high (inl did) = let x = f.low in let y = f.middle in let z = f.high in fresh j (omega (arith, low, x, y, z)) high did
      unheard done fresh j low high (inr (inl w)) = let v = w.1 in let y = f.middle in let z = f.high in omega (arith, low, v, y, z)
      unheard done fresh j low high (inr (inr w)) = let v = w.1 in omega (arith, low, v)

      forth : (done : ℕ → Type 0) (j : ℕ) → (around done b from to c j) ⊎ ((c ≤ j) × (j < d)) → around done b from to d j
      forth done j (inl (inl did)) = inl did
      forth done j (inl (inr (inl x))) = inr (inl x)
      forth done j (inl (inr (inr x))) = let high = x.1 in let y = g.up in inr (inr (x.0, omega (arith, high, y)))
      forth done j (inr x) = let low = x.0 in let y = f.high in inr (inr (omega (arith, low, y), x.1))

      back : (done : ℕ → Type 0) (j : ℕ) → around done b from to d j → (around done b from to c j) ⊎ ((c ≤ j) × (j < d))
      back done j (inl did) = inl (inl did)
      back done j (inr (inl x)) = inl (inr (inl x))
      back done j (inr (inr x)) = elim (cases_lt j c) [ inl less ↦ inl (inr (inr (x.0, less))) | inr ge ↦ inr (ge, x.1) ]

  pub gap_before : (b c from to d : ℕ) (xs ys : List Event) → Run b xs c → HasGap c from to ys d → HasGap b from to (xs ++ ys) d
  gap_before b c from to d xs ys f g = record {
    low = (let x = f.up in let y = g.low in omega (arith, x, y));
    middle = g.middle;
    high = g.high;
    goes = λ done past fresh h.
        subst (Held (around done b from to d)) (sym (onto_append past xs ys))
        (widen tokens nodes apart name (around (once done) c from to d) (around done b from to d) (onto (onto past xs) ys) (λ j x. forth done j x) (λ j token has x. back done j x)
        (g.goes (once done) (onto past xs) (unheard done fresh)
        (f.goes done past (λ j low high did. (let x = g.low in let y = g.middle in let z = g.high in fresh j low (omega (arith, high, x, y, z)) did)) h)));
  }
    where
      once : (ℕ → Type 0) → ℕ → Type 0
      once done j = (done j) ⊎ ((b ≤ j) × (j < c))

      unheard : (done : ℕ → Type 0) → ((j : ℕ) → b ≤ j → j < d → done j → ⊥) → (j : ℕ) → c ≤ j → j < d → once done j → ⊥
      unheard done fresh j low high (inl did) = let x = f.up in fresh j (omega (arith, low, x)) high did
      unheard done fresh j low high (inr w) = let v = w.1 in omega (arith, low, v)

      forth : (done : ℕ → Type 0) (j : ℕ) → around (once done) c from to d j → around done b from to d j
      forth done j (inl (inl did)) = inl did
      forth done j (inl (inr x)) = let v = x.1 in let y = g.low in inr (inl (x.0, omega (arith, v, y)))
      forth done j (inr (inl x)) = let v = x.0 in let y = f.up in inr (inl (omega (arith, v, y), x.1))
      forth done j (inr (inr x)) = inr (inr x)

      back : (done : ℕ → Type 0) (j : ℕ) → around done b from to d j → around (once done) c from to d j
      back done j (inl did) = inl (inl did)
      back done j (inr (inl x)) = elim (cases_lt j c) [ inl less ↦ inl (inr (x.0, less)) | inr ge ↦ inr (inl (ge, x.1)) ]
      back done j (inr (inr x)) = inr (inr x)

  -- the gap is told again, in a scope behind
  pub again : (b from to c e : ℕ) (xs ps ys : List Event) → HasGap b from to xs c → Run b xs c → Run from ps to → Run c ys e → Run b (xs ++ scoped tokens nodes apart name (ps ++ ys)) e
  again b from to c e xs ps ys gap f p g = record {
    up = (let x = f.up in let y = g.up in omega (arith, x, y));
    goes = run;
    level = λ past s d.
        ap (look_at s (suc d)) (onto_append past xs (scoped tokens nodes apart name (ps ++ ys)))
        ∙ events.scope_level tokens nodes apart name (ps ++ ys) (λ past s d. ap (look_at s (suc d)) (onto_append past ps ys) ∙ g.level (onto past ps) s d ∙ p.level past s d) (onto past xs) s (suc d)
        ∙ f.level past s d;
    keeps = λ past j token has out.
        ap (told_at token) (onto_append past xs (scoped tokens nodes apart name (ps ++ ys)))
        ∙ events.scope_keeps tokens nodes apart name (ps ++ ys) (onto past xs) token
        (ap (told_at token) (onto_append (event.Opens ∷ onto past xs) ps ys) ∙ g.keeps (onto (event.Opens ∷ onto past xs) ps) j token has (out_right j out) ∙ p.keeps (event.Opens ∷ onto past xs) j token has (out_gap j out))
        ∙ f.keeps past j token has (out_left j out);
    marks = λ past h.
        subst (AreMarked tokens nodes) (sym (onto_append past xs (scoped tokens nodes apart name (ps ++ ys))))
        (events.scope_marks tokens nodes apart name (ps ++ ys) (λ past h. subst (AreMarked tokens nodes) (sym (onto_append past ps ys)) (g.marks (onto past ps) (p.marks past h))) (onto past xs) (f.marks past h));
  }
    where
      look_at : ℕ → ℕ → List Event → Look
      look_at s d past = look name Tag s d past

      told_at : ℕ → List Event → Option Told
      told_at token past = told name token past

      out_left : (j : ℕ) → (j < b) ⊎ (e ≤ j) → (j < b) ⊎ (c ≤ j)
      out_left j (inl x) = inl x
      out_left j (inr x) = let y = g.up in inr (omega (arith, x, y))

      out_right : (j : ℕ) → (j < b) ⊎ (e ≤ j) → (j < c) ⊎ (e ≤ j)
      out_right j (inl x) = let y = f.up in inl (omega (arith, x, y))
      out_right j (inr x) = inr x

      out_gap : (j : ℕ) → (j < b) ⊎ (e ≤ j) → (j < from) ⊎ (to ≤ j)
      out_gap j (inl x) = let y = gap.low in inl (omega (arith, x, y))
      out_gap j (inr x) = let y = g.up in let z = gap.high in inr (omega (arith, x, y, z))

      run : (done : ℕ → Type 0) (past : List Event) → ((j : ℕ) → b ≤ j → j < e → done j → ⊥) → Held done past → Held (λ j. (done j) ⊎ ((b ≤ j) × (j < e))) (onto past (xs ++ scoped tokens nodes apart name (ps ++ ys)))
      run done past fresh h =
          subst (Held whole)
          (ap (λ es. event.Closes ∷ es) (sym (onto_append inner ps ys)) ∙ sym (onto_append inner (ps ++ ys) (event.Closes ∷ [])) ∙ sym (onto_append past xs (scoped tokens nodes apart name (ps ++ ys))))
          (closes_more tokens nodes apart name whole (onto (onto inner ps) ys)
          (widen tokens nodes apart name three whole (onto (onto inner ps) ys) forth (λ j token has x. back j x)
          (g.goes two (onto inner ps) fresh_three
          (p.goes one inner fresh_two
          (opens_more tokens nodes apart name one (onto past xs)
          (gap.goes done past (λ j low high did. (let y = g.up in fresh j low (omega (arith, high, y)) did)) h))))))
        where
          inner : List Event
          inner = event.Opens ∷ onto past xs

          whole : ℕ → Type 0
          whole j = (done j) ⊎ ((b ≤ j) × (j < e))

          one : ℕ → Type 0
          one j = around done b from to c j

          two : ℕ → Type 0
          two j = (one j) ⊎ ((from ≤ j) × (j < to))

          three : ℕ → Type 0
          three j = (two j) ⊎ ((c ≤ j) × (j < e))

          fresh_two : (j : ℕ) → from ≤ j → j < to → one j → ⊥
          fresh_two j low high (inl did) = let x = gap.low in let y = gap.high in let z = g.up in fresh j (omega (arith, low, x)) (omega (arith, high, y, z)) did
          fresh_two j low high (inr (inl w)) = let v = w.1 in omega (arith, low, v)
          fresh_two j low high (inr (inr w)) = let v = w.0 in omega (arith, high, v)

          fresh_three : (j : ℕ) → c ≤ j → j < e → two j → ⊥
          fresh_three j low high (inl (inl did)) = let x = f.up in fresh j (omega (arith, low, x)) high did
          fresh_three j low high (inl (inr (inl w))) = let v = w.1 in let y = gap.middle in let z = gap.high in omega (arith, low, v, y, z)
          fresh_three j low high (inl (inr (inr w))) = let v = w.1 in omega (arith, low, v)
          fresh_three j low high (inr w) = let v = w.1 in let z = gap.high in omega (arith, low, v, z)

          forth : (j : ℕ) → three j → whole j
          forth j (inl (inl (inl did))) = inl did
          forth j (inl (inl (inr (inl w)))) = let v = w.1 in let x = gap.middle in let y = gap.high in let z = g.up in inr (w.0, omega (arith, v, x, y, z))
          forth j (inl (inl (inr (inr w)))) = let u = w.0 in let v = w.1 in let x = gap.low in let y = gap.middle in let z = g.up in inr (omega (arith, u, x, y), omega (arith, v, z))
          forth j (inl (inr w)) = let u = w.0 in let v = w.1 in let x = gap.low in let y = gap.high in let z = g.up in inr (omega (arith, u, x), omega (arith, v, y, z))
          forth j (inr w) = let u = w.0 in let x = f.up in inr (omega (arith, u, x), w.1)

          back : (j : ℕ) → whole j → three j
          back j (inl did) = inl (inl (inl did))
          back j (inr w) = elim (cases_lt j c) [
            | inr ge ↦ inr (ge, w.1)
            | inl less ↦ elim (cases_lt j from) [
              | inl below ↦ inl (inl (inr (inl (w.0, below))))
              | inr over ↦ elim (cases_lt j to) [ inl within ↦ inl (inr (over, within)) | inr beyond ↦ inl (inl (inr (inr (beyond, less)))) ]
            ]
          ]
