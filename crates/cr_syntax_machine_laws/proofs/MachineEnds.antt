-- How a run ends where it is refused: the way says which instruction refuses, and the path to it is the run's.
use Rattle.std.proofs.Common.{◌≡◌, ℕ, ◌+◌, true, false, Bool, List, refl}
use Rattle.cr_syntax.specs.Words.{Lexeme}
use Rattle.cr_syntax.specs.Scopes.{Scopes, enter}
use Rattle.cr_syntax.specs.Trees.{Trees}
use Rattle.cr_syntax.specs.Spells.{Limit}
use Rattle.cr_syntax_machine.specs.Machine.{Goal, Prog, Test, Manner, Done, Failed, Cause, Runs, Allows, passes, verdict, barred, brought, run_stop, run_refuse, run_take, run_deep, run_pass, run_bar, run_free, run_seen, run_unseen, run_yes, run_no, run_here, run_look, run_set, run_bring, run_call, run_fail}
use Rattle.cr_syntax_machine.specs.Machine as m

-- which instruction refuses a token: `stop`, with its levels; `bar`, with its test, its row and its levels; a `take` that
-- finds no room; `refuse`, with the token before and the row that names it
pub data Way : Type 0 where
  stopped : ℕ → Way
  barring : Test → ℕ → ℕ → Way
  crowded : Way
  naming : ℕ → ℕ → Way

-- the cause that it gives
abbrev pub cause_by : List Lexeme → ℕ → Way → Cause
cause_by ts k (stopped d) = verdict ts k d
cause_by ts k (barring x n d) = barred ts n k d
cause_by ts k crowded = m.too_deep
cause_by ts k (naming n r) = m.earlier n r

-- Ends body ts limit p c i w k: from token i on, the program p is refused at token k in the way w.
pub data Ends (body : Goal → Prog) (ts : List Lexeme) (limit : Limit) : Prog → Scopes → ℕ → Way → ℕ → Type 0 where
  end_stop : {d : ℕ} {c : Scopes} {i : ℕ} → Ends body ts limit (m.stop d) c i (stopped d) i
  end_refuse : {n r : ℕ} {c : Scopes} {i : ℕ} → Ends body ts limit (m.refuse n r) c i (naming n r) i
  end_take : {g : Manner} {x : Test} {d : ℕ} {p q : Prog} {c : Scopes} {i k : ℕ} {w : Way} →
      passes ts c i x ≡ true → Allows limit g i d → Ends body ts limit p c (i + 1) w k → Ends body ts limit (m.take g x d p q) c i w k
  end_crowded : {g : Manner} {x : Test} {d : ℕ} {p q : Prog} {c : Scopes} {i : ℕ} →
      passes ts c i x ≡ true → (Allows limit g i d → ⊥) → Ends body ts limit (m.take g x d p q) c i crowded i
  end_pass : {g : Manner} {x : Test} {d : ℕ} {p q : Prog} {c : Scopes} {i k : ℕ} {w : Way} →
      passes ts c i x ≡ false → Ends body ts limit q c i w k → Ends body ts limit (m.take g x d p q) c i w k
  end_bar : {x : Test} {n d : ℕ} {p : Prog} {c : Scopes} {i : ℕ} →
      passes ts c i x ≡ true → Ends body ts limit (m.bar x n d p) c i (barring x n d) i
  end_free : {x : Test} {n d : ℕ} {p : Prog} {c : Scopes} {i k : ℕ} {w : Way} →
      passes ts c i x ≡ false → Ends body ts limit p c i w k → Ends body ts limit (m.bar x n d p) c i w k
  end_seen : {x : Test} {p q : Prog} {c : Scopes} {i k : ℕ} {w : Way} →
      passes ts c i x ≡ true → Ends body ts limit p c i w k → Ends body ts limit (m.peek x p q) c i w k
  end_unseen : {x : Test} {p q : Prog} {c : Scopes} {i k : ℕ} {w : Way} →
      passes ts c i x ≡ false → Ends body ts limit q c i w k → Ends body ts limit (m.peek x p q) c i w k
  end_yes : {b : Bool} {p q : Prog} {c : Scopes} {i k : ℕ} {w : Way} →
      b ≡ true → Ends body ts limit p c i w k → Ends body ts limit (m.when b p q) c i w k
  end_no : {b : Bool} {p q : Prog} {c : Scopes} {i k : ℕ} {w : Way} →
      b ≡ false → Ends body ts limit q c i w k → Ends body ts limit (m.when b p q) c i w k
  end_here : {f : ℕ → Prog} {c : Scopes} {i k : ℕ} {w : Way} → Ends body ts limit (f i) c i w k → Ends body ts limit (m.here f) c i w k
  end_look : {f : Scopes → Prog} {c : Scopes} {i k : ℕ} {w : Way} → Ends body ts limit (f c) c i w k → Ends body ts limit (m.look f) c i w k
  end_set : {p : Prog} {c e : Scopes} {i k : ℕ} {w : Way} → Ends body ts limit p e i w k → Ends body ts limit (m.set e p) c i w k
  end_bring : {n : ℕ} {b : Bool} {p : Prog} {c : Scopes} {i k : ℕ} {w : Way} →
      Ends body ts limit p (enter (brought ts i n b) c) i w k → Ends body ts limit (m.bring n b p) c i w k
  end_behind : {g : Goal} {f : Trees → Prog} {t : Trees} {c e : Scopes} {i j k : ℕ} {w : Way} →
      Runs body ts limit (body g) c i (Done t e j) → Ends body ts limit (f t) e j w k → Ends body ts limit (m.call g f) c i w k
  end_inside : {g : Goal} {f : Trees → Prog} {c : Scopes} {i k : ℕ} {w : Way} →
      Ends body ts limit (body g) c i w k → Ends body ts limit (m.call g f) c i w k

-- some way in which it ends, with this cause
pub record EndsSo (body : Goal → Prog) (ts : List Lexeme) (limit : Limit) (p : Prog) (c : Scopes) (i : ℕ) (x : Cause) (k : ℕ) : Type 0 where
  pub way : Way
  pub ends : Ends body ts limit p c i way k
  pub cause : x ≡ cause_by ts k way

module _ {body : Goal → Prog} {ts : List Lexeme} {limit : Limit} where
  onward : {p q : Prog} {c e : Scopes} {i j k : ℕ} {x : Cause} → EndsSo body ts limit p c i x k →
      ((w : Way) → Ends body ts limit p c i w k → Ends body ts limit q e j w k) → EndsSo body ts limit q e j x k
  onward z f = record { way = z.way; ends = f z.way z.ends; cause = z.cause }

  -- a refused run ends in some way
  pub ends_so : {p : Prog} {c : Scopes} {i k : ℕ} {x : Cause} → Runs body ts limit p c i (Failed x k) → EndsSo body ts limit p c i x k
  ends_so (run_stop {d = d}) = record { way = stopped d; ends = end_stop; cause = refl }
  ends_so (run_refuse {m = n} {n = r}) = record { way = naming n r; ends = end_refuse; cause = refl }
  ends_so (run_take x a h) = onward (ends_so h) (λ w z. end_take x a z)
  ends_so (run_deep x a) = record { way = crowded; ends = end_crowded x a; cause = refl }
  ends_so (run_pass x h) = onward (ends_so h) (λ w z. end_pass x z)
  ends_so (run_bar {x = y} {n = n} {d = d} x) = record { way = barring y n d; ends = end_bar x; cause = refl }
  ends_so (run_free x h) = onward (ends_so h) (λ w z. end_free x z)
  ends_so (run_seen x h) = onward (ends_so h) (λ w z. end_seen x z)
  ends_so (run_unseen x h) = onward (ends_so h) (λ w z. end_unseen x z)
  ends_so (run_yes x h) = onward (ends_so h) (λ w z. end_yes x z)
  ends_so (run_no x h) = onward (ends_so h) (λ w z. end_no x z)
  ends_so (run_here h) = onward (ends_so h) (λ w z. end_here z)
  ends_so (run_look h) = onward (ends_so h) (λ w z. end_look z)
  ends_so (run_set h) = onward (ends_so h) (λ w z. end_set z)
  ends_so (run_bring h) = onward (ends_so h) (λ w z. end_bring z)
  ends_so (run_call h h') = onward (ends_so h') (λ w z. end_behind h z)
  ends_so (run_fail h) = onward (ends_so h) (λ w z. end_inside z)

  -- and what ends so is refused
  pub refused_so : {p : Prog} {c : Scopes} {i k : ℕ} {w : Way} → Ends body ts limit p c i w k → Runs body ts limit p c i (Failed (cause_by ts k w) k)
  refused_so end_stop = run_stop
  refused_so end_refuse = run_refuse
  refused_so (end_take x a z) = run_take x a (refused_so z)
  refused_so (end_crowded x a) = run_deep x a
  refused_so (end_pass x z) = run_pass x (refused_so z)
  refused_so (end_bar x) = run_bar x
  refused_so (end_free x z) = run_free x (refused_so z)
  refused_so (end_seen x z) = run_seen x (refused_so z)
  refused_so (end_unseen x z) = run_unseen x (refused_so z)
  refused_so (end_yes x z) = run_yes x (refused_so z)
  refused_so (end_no x z) = run_no x (refused_so z)
  refused_so (end_here z) = run_here (refused_so z)
  refused_so (end_look z) = run_look (refused_so z)
  refused_so (end_set z) = run_set (refused_so z)
  refused_so (end_bring z) = run_bring (refused_so z)
  refused_so (end_behind h z) = run_call h (refused_so z)
  refused_so (end_inside z) = run_fail (refused_so z)
