-- The runs of a program's parts.
use Rattle.std.proofs.Common.{◌≡◌, ℕ, true, false, List, refl, subst, ◌⊎◌, inl, inr}
use Rattle.cr_syntax.specs.Words.{Lexeme}
use Rattle.cr_syntax.specs.Scopes.{Scopes}
use Rattle.cr_syntax.specs.Trees.{Trees}
use Rattle.cr_syntax.specs.Spells.{Limit}
use Rattle.cr_syntax_machine.specs.Machine.{Goal, Prog, Test, Reply, Cause, Done, Failed, Runs, passes, barred, run_give, run_bar, run_free, run_seen, run_unseen, run_here, run_call, run_fail}
use Rattle.cr_syntax_machine.specs.Machine as m

-- what a goal that is called answers, and the rest
pub record Answered (body : Goal → Prog) (ts : List Lexeme) (limit : Limit) (g : Goal) (f : Trees → Prog) (c : Scopes) (i : ℕ) (r : Reply) : Type 0 where
  pub trees : Trees
  pub after : Scopes
  pub end : ℕ
  pub goal : Runs body ts limit (body g) c i (Done trees after end)
  pub others : Runs body ts limit (f trees) after end r

-- a goal that is called refuses
pub record Refusing (body : Goal → Prog) (ts : List Lexeme) (limit : Limit) (g : Goal) (c : Scopes) (i : ℕ) (r : Reply) : Type 0 where
  pub cause : Cause
  pub token : ℕ
  pub reply : Failed cause token ≡ r
  pub goal : Runs body ts limit (body g) c i (Failed cause token)

module _ {body : Goal → Prog} {ts : List Lexeme} {limit : Limit} where
  pub given : {t : Trees} {c : Scopes} {i : ℕ} {r : Reply} → Runs body ts limit (m.give t) c i r → Done t c i ≡ r
  given run_give = refl

  pub refused_or_free : {x : Test} {n d : ℕ} {p : Prog} {c : Scopes} {i : ℕ} {r : Reply} → Runs body ts limit (m.bar x n d p) c i r →
      ((passes ts c i x ≡ true) × (Failed (barred ts n i d) i ≡ r)) ⊎ ((passes ts c i x ≡ false) × Runs body ts limit p c i r)
  refused_or_free (run_bar q) = inl (q, refl)
  refused_or_free (run_free q h) = inr (q, h)

  pub peeked : {x : Test} {p q : Prog} {c : Scopes} {i : ℕ} {r : Reply} → Runs body ts limit (m.peek x p q) c i r →
      ((passes ts c i x ≡ true) × Runs body ts limit p c i r) ⊎ ((passes ts c i x ≡ false) × Runs body ts limit q c i r)
  peeked (run_seen q h) = inl (q, h)
  peeked (run_unseen q h) = inr (q, h)

  pub at_place : {f : ℕ → Prog} {c : Scopes} {i : ℕ} {r : Reply} → Runs body ts limit (m.here f) c i r → Runs body ts limit (f i) c i r
  at_place (run_here h) = h

  pub answered_or_refused : {g : Goal} {f : Trees → Prog} {c : Scopes} {i : ℕ} {r : Reply} → Runs body ts limit (m.call g f) c i r → Answered body ts limit g f c i r ⊎ Refusing body ts limit g c i r
  answered_or_refused (run_call h k) = inl (record { trees = _; after = _; end = _; goal = h; others = k })
  answered_or_refused (run_fail h) = inr (record { cause = _; token = _; reply = refl; goal = h })

  pub answered : {g : Goal} {f : Trees → Prog} {c e : Scopes} {i j : ℕ} {t : Trees} → Runs body ts limit (m.call g f) c i (Done t e j) → Answered body ts limit g f c i (Done t e j)
  answered (run_call h k) = record { trees = _; after = _; end = _; goal = h; others = k }

  pub answered_last : {g : Goal} {c e : Scopes} {i j : ℕ} {t : Trees} → Runs body ts limit (m.call g m.give) c i (Done t e j) → Runs body ts limit (body g) c i (Done t e j)
  answered_last {g = g} {c = c} {i = i} h = let w = answered h in subst (λ r. Runs body ts limit (body g) c i r) (given w.others) w.goal
