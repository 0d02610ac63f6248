-- A name is noted in the innermost scope.
use Rattle.std.proofs.Common.{◌≡◌, ℕ, ◌==◌, Bool, true, false, ◌&&◌, List, [], ◌∷◌, Option, None, Some, if◌then◌else◌, refl, sym, ap, subst, ◌∙◌}
use Rattle.std.specs.Option.{is_some}
use Rattle.std.proofs.lemmas.Bool.{true≢false, eqb-true, or_parts, and_parts, cond-true, cond-false, cond_both}
use Rattle.cr_scopes.specs.declared.scope.Space.{Space}
use Rattle.cr_scopes.specs.declared.scope.Space.TheVariants.{Ordinary, Tag, Content}
use Rattle.cr_scopes.specs.declared.scope.Place.TheVariants.{Nowhere, In, WithContent}
use Rattle.cr_scopes.specs.declared.scope.Found.{Found}
use Rattle.cr_scopes.specs.declared.scope.Look.{Look}
use Rattle.cr_scopes.specs.declared.scope.Scope.{Scope}
use Rattle.cr_scopes.specs.Looking.{same_space, place_of, stands_by, or_else, is_mention, noted, noted_if}
use Rattle.cr_scopes.specs.Scopes.{said_in, looked, keeps, HasPut, IsTaken, IsNoted, IsNamed}

-- equal spaces
space_is : (space other : Space) → same_space space other ≡ true → space ≡ other
space_is Ordinary Ordinary e = refl
space_is Tag Tag e = refl
space_is Content Content e = refl
space_is Ordinary Tag e = absurd (true≢false (sym e))
space_is Ordinary Content e = absurd (true≢false (sym e))
space_is Tag Ordinary e = absurd (true≢false (sym e))
space_is Tag Content e = absurd (true≢false (sym e))
space_is Content Ordinary e = absurd (true≢false (sym e))
space_is Content Tag e = absurd (true≢false (sym e))

-- what is seen in the innermost scope is seen
pub record IsLook (here seen : Option Found) : Type 0 where
  pub inner : (found : Found) → here ≡ Some found → seen ≡ here

is_look : (space : Space) (q : ℕ) (scopes : List Scope) → IsLook (looked space q scopes).here (looked space q scopes).seen
is_look space q [] = record { inner = λ found e. refl }
is_look space q (scope ∷ outer) =
    record { inner = λ found e. ap (λ h. or_else h (looked space q outer).seen) e ∙ sym e }

kept_by : (here seen : Option Found) (found : Found) → IsLook here seen
    → keeps (record { here = here; seen = seen }) found.role ≡ true
    → record { here = here; seen = seen } ≡ noted found (record { here = here; seen = seen })
kept_by None seen found i k = sym (cond-true (is_mention found.role && is_some seen) _ _ k)
kept_by (Some f) seen found i k =
    cond_both (is_mention found.role && is_some seen) _ _ (λ (x : Look). record { here = Some f; seen = seen } ≡ x)
    (λ e. refl) (λ e. ap {B = Look} (λ (o : Option Found). record { here = Some f; seen = o }) (i.inner f refl))

kept : (l : Look) (found : Found) → IsLook l.here l.seen → keeps l found.role ≡ true → l ≡ noted found l
kept l found i k = kept_by l.here l.seen found i k

-- what holds of the name itself holds wherever it is looked up
at_name : (P : Space → ℕ → Type 0) (space other : Space) (s q : ℕ) → (same_space space other && (s == q)) ≡ true → P space s → P other q
at_name P space other s q e h =
    let both = and_parts (same_space space other) (s == q) e in
    subst (λ x. P x q) (space_is space other both.0) (subst (λ x. P space x) (eqb-true s q both.1) h)

kept_if : (b : Bool) (space other : Space) (s q : ℕ) (found : Found) (scopes : List Scope) → (same_space space other && (s == q)) ≡ b
    → keeps (looked space s scopes) found.role ≡ true → looked other q scopes ≡ noted_if b found (looked other q scopes)
kept_if false space other s q found scopes e k = refl
kept_if true space other s q found scopes e k =
    at_name (λ x y. looked x y scopes ≡ noted found (looked x y scopes)) space other s q e
    (kept (looked space s scopes) found (is_look space s scopes) k)

-- a name that is kept from being noted
pub kept_noted : (space : Space) (s : ℕ) (found : Found) (scopes : List Scope)
    → keeps (looked space s scopes) found.role ≡ true → IsNoted space s found scopes scopes
kept_noted space s found scopes k = record {
  looks = λ other q. kept_if (same_space space other && (s == q)) space other s q found scopes refl k;
  outer = λ d. refl;
}

not_here : (o x : Option Found) → is_some o ≡ false → x ≡ or_else o x
not_here None x e = refl
not_here (Some y) x e = absurd (true≢false e)

-- noted where nothing keeps it
new_look : (l : Look) (found : Found) → keeps l found.role ≡ false → record { here = Some found; seen = Some found } ≡ noted found l
new_look l found k =
    let parts = or_parts (is_some l.here) (is_mention found.role && is_some l.seen) k in
    ap {B = Look} (λ (o : Option Found). record { here = o; seen = o }) (not_here l.here (Some found) parts.0)
    ∙ sym (cond-false (is_mention found.role && is_some l.seen) _ _ parts.1)

put_if : (b : Bool) (space other : Space) (s q : ℕ) (found : Found) (top after : Scope) (rest : List Scope)
    → (same_space space other && (s == q)) ≡ b
    → said_in after other q ≡ (if b then Some found else said_in top other q)
    → keeps (looked space s (top ∷ rest)) found.role ≡ false
    → looked other q (after ∷ rest) ≡ noted_if b found (looked other q (top ∷ rest))
put_if false space other s q found top after rest e h k =
    ap {B = Look} (λ (o : Option Found). record { here = o; seen = or_else o (looked other q rest).seen }) h
put_if true space other s q found top after rest e h k =
    ap {B = Look} (λ (o : Option Found). record { here = o; seen = or_else o (looked other q rest).seen }) h
    ∙ at_name (λ x y. record { here = Some found; seen = Some found } ≡ noted found (looked x y (top ∷ rest))) space other s q e
    (new_look (looked space s (top ∷ rest)) found k)

-- a name that is put into the innermost scope
pub put_noted : (space : Space) (s : ℕ) (found : Found) (old rest : List Scope) (top after : Scope)
    → IsTaken top rest old → HasPut space s found top after → keeps (looked space s old) found.role ≡ false
    → IsNoted space s found old (after ∷ rest)
put_noted space s found old rest top after t h k = record {
  looks = λ other q.
      put_if (same_space space other && (s == q)) space other s q found top after rest refl (h other q)
      (ap (λ l. keeps l found.role) (t.looks space s) ∙ k)
      ∙ ap (noted_if (same_space space other && (s == q)) found) (t.looks other q);
  outer = λ d. t.outer d;
}

pub once : (place : Space) (s : ℕ) (found : Found) (old new : List Scope)
    → place_of found.role ≡ In place → IsNoted place s found old new → IsNamed s found old new
once place s found old new e n = record {
  looks = λ space q. n.looks space q ∙ ap (λ p. noted_if (stands_by p space && (s == q)) found (looked space q old)) (sym e);
  outer = n.outer;
}

both_in : (s : ℕ) (found : Found) (old mid new : List Scope) (space : Space) (q : ℕ) → IsNoted Tag s found old mid → IsNoted Content s found mid new
    → looked space q new ≡ noted_if (stands_by WithContent space && (s == q)) found (looked space q old)
both_in s found old mid new Ordinary q m n = n.looks Ordinary q ∙ m.looks Ordinary q
both_in s found old mid new Tag q m n = n.looks Tag q ∙ m.looks Tag q
both_in s found old mid new Content q m n = n.looks Content q ∙ ap (noted_if (s == q) found) (m.looks Content q)

pub both : (s : ℕ) (found : Found) (old mid new : List Scope)
    → place_of found.role ≡ WithContent → IsNoted Tag s found old mid → IsNoted Content s found mid new → IsNamed s found old new
both s found old mid new e m n = record {
  looks = λ space q.
      both_in s found old mid new space q m n ∙ ap (λ p. noted_if (stands_by p space && (s == q)) found (looked space q old)) (sym e);
  outer = λ d. n.outer d ∙ m.outer d;
}

pub never : (s : ℕ) (found : Found) (old : List Scope) → place_of found.role ≡ Nowhere → IsNamed s found old old
never s found old e = record {
  looks = λ space q. ap (λ p. noted_if (stands_by p space && (s == q)) found (looked space q old)) (sym e);
  outer = λ d. refl;
}

-- ---- what is found of a name in the innermost scope

-- where that has it, it is the innermost that does
pub found_here : (space : Space) (s : ℕ) (scopes : List Scope) (found : Found) → (looked space s scopes).here ≡ Some found
    → record { here = Some found; seen = Some found } ≡ looked space s scopes
found_here space s [] found e = absurd (true≢false (sym (ap is_some e)))
found_here space s (scope ∷ outer) found e = rw e refl
