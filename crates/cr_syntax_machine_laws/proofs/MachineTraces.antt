-- What a program owes for what it reads, where each step of its run is known; and a refusal on a text with the same tokens.
use Rattle.std.proofs.Common.{◌≡◌, ℕ, ◌+◌, ◌<◌, ◌≤◌, Bool, true, false, List, refl, sym, subst, ◌∙◌, arith}
use Rattle.std.specs.Prelude.{slice_get}
use Rattle.cr_syntax.specs.Words.{Lexeme}
use Rattle.cr_syntax.specs.Scopes.{Scopes, enter}
use Rattle.cr_syntax.specs.Trees.{Trees}
use Rattle.cr_syntax.specs.Spells.{Limit}
use Rattle.cr_syntax_machine.specs.Machine.{Goal, Prog, Manner, Test, Reply, Done, Failed, Runs, Allows, passes, brought, give, stop, refuse, take, bar, peek, when, here, look, set, bring, call, run_give, run_stop, run_refuse, run_take, run_deep, run_pass, run_bar, run_free, run_seen, run_unseen, run_yes, run_no, run_here, run_look, run_set, run_bring, run_call, run_fail}
use Rattle.cr_syntax_machine_laws.specs.MachineLaws.{end_of}
use Rattle.cr_syntax_machine_laws.proofs.MachineRuns.{OnDone, reach, passes_same, brought_same, local, relimited}
use Rattle.cr_syntax_machine_laws.proofs.MachineEnds.{Way, crowded, Ends, refused_so, end_stop, end_refuse, end_take, end_crowded, end_pass, end_bar, end_free, end_seen, end_unseen, end_yes, end_no, end_here, end_look, end_set, end_bring, end_behind, end_inside}

module _ (body : Goal → Prog) (us : List Lexeme) (limit : Limit) (means : Goal → Scopes → ℕ → Trees → Scopes → ℕ → Type 0) where
  abbrev pub Traces : Prog → (Trees → Scopes → ℕ → Type 0) → Scopes → ℕ → Type 0
  Traces (give t) f c i = f t c i
  Traces (stop d) f c i = Unit {0}
  Traces (refuse n r) f c i = Unit {0}
  Traces (take g x d p q) f c i = (passes us c i x ≡ true → Allows limit g i d → Traces p f c (i + 1)) × (passes us c i x ≡ false → Traces q f c i)
  Traces (bar x n d p) f c i = passes us c i x ≡ false → Traces p f c i
  Traces (peek x p q) f c i = (passes us c i x ≡ true → Traces p f c i) × (passes us c i x ≡ false → Traces q f c i)
  Traces (when b p q) f c i = (b ≡ true → Traces p f c i) × (b ≡ false → Traces q f c i)
  Traces (here p) f c i = Traces (p i) f c i
  Traces (look p) f c i = Traces (p c) f c i
  Traces (set e p) f c i = Traces p f e i
  Traces (bring k b p) f c i = Traces p f (enter (brought us i k b) c) i
  Traces (call g p) f c i = (t : Trees) (e : Scopes) (j : ℕ) → Runs body us limit (body g) c i (Done t e j) → means g c i t e j → Traces (p t) f e j

  -- where nothing is owed, all is
  pub traces_idle : (p : Prog) (c : Scopes) (i : ℕ) → Traces p (λ t e j. Unit {0}) c i
  traces_idle (give t) c i = tt
  traces_idle (stop d) c i = tt
  traces_idle (refuse n r) c i = tt
  traces_idle (take g x d p q) c i = (λ y w. traces_idle p c (i + 1), λ y. traces_idle q c i)
  traces_idle (bar x n d p) c i = λ y. traces_idle p c i
  traces_idle (peek x p q) c i = (λ y. traces_idle p c i, λ y. traces_idle q c i)
  traces_idle (when b p q) c i = (λ y. traces_idle p c i, λ y. traces_idle q c i)
  traces_idle (here p) c i = traces_idle (p i) c i
  traces_idle (look p) c i = traces_idle (p c) c i
  traces_idle (set e p) c i = traces_idle p e i
  traces_idle (bring k b p) c i = traces_idle p (enter (brought us i k b) c) i
  traces_idle (call g p) c i = λ t e j _ _. traces_idle (p t) e j

  module _ (each : (g : Goal) (c : Scopes) (i : ℕ) → Traces (body g) (means g c i) c i) where
    pub traced : {p : Prog} {c : Scopes} {i : ℕ} {r : Reply} → Runs body us limit p c i r → (f : Trees → Scopes → ℕ → Type 0) → Traces p f c i → OnDone r f
    traced run_give f y = y
    traced run_stop f y = tt
    traced run_refuse f y = tt
    traced (run_take x a h) f y = traced h f (y.0 x a)
    traced (run_deep x a) f y = tt
    traced (run_pass x h) f y = traced h f (y.1 x)
    traced (run_bar x) f y = tt
    traced (run_free x h) f y = traced h f (y x)
    traced (run_seen x h) f y = traced h f (y.0 x)
    traced (run_unseen x h) f y = traced h f (y.1 x)
    traced (run_yes x h) f y = traced h f (y.0 x)
    traced (run_no x h) f y = traced h f (y.1 x)
    traced (run_here h) f y = traced h f y
    traced (run_look h) f y = traced h f y
    traced (run_set h) f y = traced h f y
    traced (run_bring h) f y = traced h f y
    traced {c = c} {i = i} (run_call {g = g} {t = t} {e = e} {j = j} h h') f y = traced h' f (y t e j h (traced h (means g c i) (each g c i)))
    traced (run_fail h) f y = tt

-- Two texts with the same tokens up to token k, and a limit that lets those before it stand, as the other does.
module _ (body : Goal → Prog) (ts us : List Lexeme) (limit top : Limit) (k : ℕ) (alike : (n : ℕ) → n ≤ k → slice_get us n ≡ slice_get ts n)
    (allowed : (g : Manner) (n d : ℕ) → n < k → Allows limit g n d → Allows top g n d) where
  there : {b : Bool} (c : Scopes) (i : ℕ) (x : Test) → i ≤ k → passes us c i x ≡ b → passes ts c i x ≡ b
  there c i x le q = sym (passes_same ts us i (alike i le) c x) ∙ q

  abbrev IsDone : Reply → Type 0
  IsDone (Done t e j) = Unit {0}
  IsDone (Failed x j) = ⊥

  pub run_there : {p : Prog} {c : Scopes} {i : ℕ} {r : Reply} → Runs body us limit p c i r → end_of r ≤ k → IsDone r → Runs body ts top p c i r
  run_there {r = Done t e j} h le y = relimited (λ g n d lt w. allowed g n d (omega arith) w) tt (local h (λ n le'. sym (alike n (omega arith))))
  run_there {r = Failed x j} h le y = absurd y

  -- a refusal at one of these tokens that isn't for want of room
  pub end_there : {p : Prog} {c : Scopes} {i n : ℕ} {w : Way} → Ends body us limit p c i w n → (w ≡ crowded → ⊥) → n ≤ k → Ends body ts top p c i w n
  end_there end_stop o le = end_stop
  end_there end_refuse o le = end_refuse
  end_there {c = c} {i = i} (end_take {g = g} {x = x} {d = d} t w z) o le =
      let n = reach (refused_so z) in end_take (there c i x (omega arith) t) (allowed g i d (omega arith) w) (end_there z o le)
  end_there (end_crowded t w) o le = absurd (o refl)
  end_there {c = c} {i = i} (end_pass {x = x} t z) o le = let n = reach (refused_so z) in end_pass (there c i x (omega arith) t) (end_there z o le)
  end_there {c = c} {i = i} (end_bar {x = x} t) o le = end_bar (there c i x le t)
  end_there {c = c} {i = i} (end_free {x = x} t z) o le = let n = reach (refused_so z) in end_free (there c i x (omega arith) t) (end_there z o le)
  end_there {c = c} {i = i} (end_seen {x = x} t z) o le = let n = reach (refused_so z) in end_seen (there c i x (omega arith) t) (end_there z o le)
  end_there {c = c} {i = i} (end_unseen {x = x} t z) o le = let n = reach (refused_so z) in end_unseen (there c i x (omega arith) t) (end_there z o le)
  end_there (end_yes t z) o le = end_yes t (end_there z o le)
  end_there (end_no t z) o le = end_no t (end_there z o le)
  end_there (end_here z) o le = end_here (end_there z o le)
  end_there (end_look z) o le = end_look (end_there z o le)
  end_there (end_set z) o le = end_set (end_there z o le)
  end_there {c = c} {i = i} {n = n} {w = w} (end_bring {n = m} {b = b} {p = p} z) o le =
      let l = reach (refused_so z) in
      end_bring (subst (λ v. Ends body ts top p (enter v c) i w n) (brought_same ts us i m b (λ j lt. alike j (omega arith))) (end_there z o le))
  end_there (end_behind h z) o le = let n = reach (refused_so z) in end_behind (run_there h (omega arith) tt) (end_there z o le)
  end_there (end_inside z) o le = end_inside (end_there z o le)
