-- A mark in the trees that a program gives of one text: on another text with the same tokens before it, the program is
-- refused there by a row of the refused forms.
use Rattle.std.proofs.Common.{◌≡◌, ℕ, ◌+◌, ◌<◌, ◌≤◌, Bool, true, false, List, ◌⊎◌, inl, inr, ⊎_elim, sym, subst, ◌∙◌, arith}
use Rattle.std.specs.Prelude.{slice_get}
use Rattle.cr_syntax.specs.declared.word.Word.{Word}
use Rattle.cr_syntax.specs.declared.node.Kind.{Kind}
use Rattle.cr_syntax.specs.Words.{Lexeme}
use Rattle.cr_syntax.specs.Scopes.{Scopes, enter}
use Rattle.cr_syntax.specs.Trees.{Trees}
use Rattle.cr_syntax.specs.Spells.{Limit}
use Rattle.cr_syntax_machine.specs.Machine.{Goal, Prog, Manner, Test, Reply, Done, Failed, Runs, Allows, passes, brought, choose, give, stop, refuse, take, bar, peek, when, here, look, set, bring, call, run_give, run_stop, run_refuse, run_take, run_deep, run_pass, run_bar, run_free, run_seen, run_unseen, run_yes, run_no, run_here, run_look, run_set, run_bring, run_call, run_fail}
use Rattle.cr_syntax_machine.specs.MachineBody.{Words}
use Rattle.cr_syntax_machine_laws.specs.MachineLaws.{end_of}
use Rattle.cr_syntax_machine_laws.proofs.MachineRuns.{OnDone, reach, passes_same, brought_same}
use Rattle.cr_syntax_machine_laws.proofs.MachineEnds.{barring, Ends, end_take, end_pass, end_free, end_seen, end_unseen, end_yes, end_no, end_here, end_look, end_set, end_bring, end_behind, end_inside}
use Rattle.cr_syntax_machine_laws.proofs.MachineGives.{AllRows, no_rows, also}

-- token k is refused by row n
pub record Barred (body : Goal → Prog) (ts : List Lexeme) (top : Limit) (n k : ℕ) (p : Prog) (c : Scopes) (i : ℕ) : Type 0 where
  pub test : Test
  pub level : ℕ
  pub ends : Ends body ts top p c i (barring test n level) k

pub barred_on : {body : Goal → Prog} {ts : List Lexeme} {top : Limit} {n k : ℕ} {p q : Prog} {c e : Scopes} {i j : ℕ} → Barred body ts top n k p c i →
    ((x : Test) (d : ℕ) → Ends body ts top p c i (barring x n d) k → Ends body ts top q e j (barring x n d) k) → Barred body ts top n k q e j
barred_on b f = record { test = b.test; level = b.level; ends = f b.test b.level b.ends }

pub or_so : {A B C : Type 0} → A ⊎ B → (B → C) → A ⊎ C
or_so x f = ⊎_elim inl (λ b. inr (f b)) x

-- What a program owes: what is said of its answers on the second text, or that the first text is refused at token k by row n.
-- A goal's answers may be another one's on the first text only where they end before token k.
module _ (body : Goal → Prog) (ts us : List Lexeme) (limit top : Limit) (n k : ℕ) (means : Goal → Scopes → ℕ → Trees → Scopes → ℕ → Type 0) where
  abbrev pub Marks : Prog → (Trees → Scopes → ℕ → Type 0) → Scopes → ℕ → Type 0
  Marks (give t) f c i = f t c i
  Marks (stop d) f c i = Unit {0}
  Marks (refuse m r) f c i = Unit {0}
  Marks (take g x d p q) f c i = (Marks p f c (i + 1) ⊎ (i + 1 ≤ k) × Barred body ts top n k p c (i + 1)) × Marks q f c i
  Marks (bar x m d p) f c i = Marks p f c i
  Marks (peek x p q) f c i = Marks p f c i × Marks q f c i
  Marks (when b p q) f c i = (b ≡ true → Marks p f c i) × (b ≡ false → Marks q f c i)
  Marks (here p) f c i = Marks (p i) f c i
  Marks (look p) f c i = Marks (p c) f c i
  Marks (set e p) f c i = Marks p f e i
  Marks (bring m b p) f c i = Marks p f (enter (brought us i m b) c) i
  Marks (call g p) f c i = (t : Trees) (e : Scopes) (j : ℕ) → i ≤ j → Runs body us limit (body g) c i (Done t e j) → means g c i t e j →
      Marks (p t) f e j ⊎ (i < k) × Barred body ts top n k (call g p) c i

  -- the same behind a token
  abbrev pub Behind : Prog → (Trees → Scopes → ℕ → Type 0) → Scopes → ℕ → Type 0
  Behind p f c i = Marks p f c i ⊎ (i ≤ k) × Barred body ts top n k p c i

  pub marks_choose : (g : Manner) (d : ℕ) (p : Kind → Prog) (q : Prog) (f : Trees → Scopes → ℕ → Type 0) (c : Scopes) (i : ℕ)
      (r : Word → Kind → Type 0) {rs : Words} → AllRows r rs → ((w : Word) (l : Kind) → r w l → Behind (p l) f c (i + 1)) → Marks q f c i →
      Marks (choose g rs d p q) f c i
  marks_choose g d p q f c i r no_rows x y = y
  marks_choose g d p q f c i r (also {w = w} {k = l} z zs) x y = (x w l z, marks_choose g d p q f c i r zs x y)

module _ (body : Goal → Prog) (ts us : List Lexeme) (limit top : Limit) (n k : ℕ) (means : Goal → Scopes → ℕ → Trees → Scopes → ℕ → Type 0)
    (alike : (m : ℕ) → m < k → slice_get us m ≡ slice_get ts m)
    (allowed : (g : Manner) (m d : ℕ) → m < k → Allows limit g m d → Allows top g m d) where
  -- a test before token k
  pub same_test : {b : Bool} (c : Scopes) (i : ℕ) (x : Test) → i < k → passes us c i x ≡ b → passes ts c i x ≡ b
  same_test c i x lt q = sym (passes_same ts us i (alike i lt) c x) ∙ q

  abbrev IsDone : Reply → Type 0
  IsDone (Done t e j) = Unit {0}
  IsDone (Failed x j) = ⊥

  -- a run that ends before token k
  pub along : {p : Prog} {c : Scopes} {i : ℕ} {r : Reply} → Runs body us limit p c i r → end_of r < k → IsDone r → Runs body ts top p c i r
  along run_give lt y = run_give
  along run_stop lt y = absurd y
  along run_refuse lt y = absurd y
  along {c = c} {i = i} (run_take {m = g} {x = x} {d = d} t w h) lt y = let m = reach h in run_take (same_test c i x (omega arith) t) (allowed g i d (omega arith) w) (along h lt y)
  along (run_deep t w) lt y = absurd y
  along {c = c} {i = i} (run_pass {x = x} t h) lt y = let m = reach h in run_pass (same_test c i x (omega arith) t) (along h lt y)
  along (run_bar t) lt y = absurd y
  along {c = c} {i = i} (run_free {x = x} t h) lt y = let m = reach h in run_free (same_test c i x (omega arith) t) (along h lt y)
  along {c = c} {i = i} (run_seen {x = x} t h) lt y = let m = reach h in run_seen (same_test c i x (omega arith) t) (along h lt y)
  along {c = c} {i = i} (run_unseen {x = x} t h) lt y = let m = reach h in run_unseen (same_test c i x (omega arith) t) (along h lt y)
  along (run_yes t h) lt y = run_yes t (along h lt y)
  along (run_no t h) lt y = run_no t (along h lt y)
  along (run_here h) lt y = run_here (along h lt y)
  along (run_look h) lt y = run_look (along h lt y)
  along (run_set h) lt y = run_set (along h lt y)
  along {c = c} {i = i} {r = r} (run_bring {k = m} {b = b} {p = p} h) lt y =
      let l = reach h in
      run_bring (subst (λ z. Runs body ts top p (enter z c) i r) (brought_same ts us i m b (λ j lt'. alike j (omega arith))) (along h lt y))
  along (run_call h h') lt y = let m = reach h' in run_call (along h (omega arith) tt) (along h' lt y)
  along (run_fail h) lt y = absurd y

  module _ (each : (g : Goal) (c : Scopes) (i : ℕ) → Marks body ts us limit top n k means (body g) (means g c i) c i) where
    pub marked : {p : Prog} {c : Scopes} {i : ℕ} {r : Reply} → Runs body us limit p c i r → (f : Trees → Scopes → ℕ → Type 0) →
        Marks body ts us limit top n k means p f c i → OnDone r f ⊎ (i < k) × Barred body ts top n k p c i
    marked run_give f y = inl y
    marked run_stop f y = inl tt
    marked run_refuse f y = inl tt
    marked {c = c} {i = i} {r = r} (run_take {m = g} {x = x} {d = d} {p = p} {q = q} t w h) f y =
        ⊎_elim (λ z. or_so (marked h f z) (λ b. taken (omega arith) b.1)) (λ b. inr (taken b.0 b.1)) y.0
      where
        taken : i + 1 ≤ k → Barred body ts top n k p c (i + 1) → (i < k) × Barred body ts top n k (take g x d p q) c i
        taken le b = (omega arith, barred_on b (λ x' d' z. end_take (same_test c i x (omega arith) t) (allowed g i d (omega arith) w) z))
    marked (run_deep t w) f y = inl tt
    marked {c = c} {i = i} (run_pass {x = x} t h) f y = or_so (marked h f y.1) (λ b. (b.0, barred_on b.1 (λ x' d' z. end_pass (same_test c i x b.0 t) z)))
    marked (run_bar t) f y = inl tt
    marked {c = c} {i = i} (run_free {x = x} t h) f y = or_so (marked h f y) (λ b. (b.0, barred_on b.1 (λ x' d' z. end_free (same_test c i x b.0 t) z)))
    marked {c = c} {i = i} (run_seen {x = x} t h) f y = or_so (marked h f y.0) (λ b. (b.0, barred_on b.1 (λ x' d' z. end_seen (same_test c i x b.0 t) z)))
    marked {c = c} {i = i} (run_unseen {x = x} t h) f y = or_so (marked h f y.1) (λ b. (b.0, barred_on b.1 (λ x' d' z. end_unseen (same_test c i x b.0 t) z)))
    marked (run_yes t h) f y = or_so (marked h f (y.0 t)) (λ b. (b.0, barred_on b.1 (λ x d z. end_yes t z)))
    marked (run_no t h) f y = or_so (marked h f (y.1 t)) (λ b. (b.0, barred_on b.1 (λ x d z. end_no t z)))
    marked (run_here h) f y = or_so (marked h f y) (λ b. (b.0, barred_on b.1 (λ x d z. end_here z)))
    marked (run_look h) f y = or_so (marked h f y) (λ b. (b.0, barred_on b.1 (λ x d z. end_look z)))
    marked (run_set h) f y = or_so (marked h f y) (λ b. (b.0, barred_on b.1 (λ x d z. end_set z)))
    marked {c = c} {i = i} (run_bring {k = m} {b = a} {p = p} h) f y =
        or_so (marked h f y) (λ b. (
          b.0,
          barred_on b.1 (λ x d z. end_bring
              (subst (λ v. Ends body ts top p (enter v c) i (barring x n d) k) (brought_same ts us i m a (λ j lt. let le = b.0 in alike j (omega arith))) z)),
        ))
    marked {c = c} {i = i} {r = r} (run_call {g = g} {f = p} {t = t} {e = e} {j = j} h h') f y =
        ⊎_elim (λ z. ⊎_elim (λ v. or_so (marked h' f v) (λ b. inside b.0 b.1)) inr (y t e j le h z))
        (λ b. inr (b.0, barred_on b.1 (λ x d v. end_inside v))) (marked h (means g c i) (each g c i))
      where
        le : i ≤ j
        le = reach h

        inside : j < k → Barred body ts top n k (p t) e j → (i < k) × Barred body ts top n k (call g p) c i
        inside lt b = let m = le in (omega arith, barred_on b (λ x d v. end_behind (along h lt tt) v))
    marked (run_fail h) f y = inl tt
