-- What a program owes for what it refuses: that the tokens before the refused one can go on to a text.
use Rattle.std.proofs.Common.{◌≡◌, ℕ, ◌+◌, ◌<◌, ◌≤◌, true, false, List, length, refl, subst, arith}
use Rattle.std.specs.Prelude.{slice_get}
use Rattle.cr_syntax.specs.declared.word.Word.{Word}
use Rattle.cr_syntax.specs.declared.node.Kind.{Kind}
use Rattle.cr_syntax.specs.Words.{Lexeme}
use Rattle.cr_syntax.specs.Scopes.{Scopes, enter}
use Rattle.cr_syntax.specs.Trees.{Trees}
use Rattle.cr_syntax.specs.Spells.{Limit, Is}
use Rattle.cr_syntax_machine.specs.Machine.{Goal, Prog, Test, Manner, plain, opens, reopens, Done, Runs, Allows, passes, brought, choose, give, stop, refuse, take, bar, peek, when, here, look, set, bring, call}
use Rattle.cr_syntax_machine.specs.MachineBody.{Words}
use Rattle.cr_syntax_machine_laws.proofs.MachineRuns.{reach, brought_same}
use Rattle.cr_syntax_machine_laws.proofs.MachineGives.{Holds, holds, Gives, gives, AllRows, no_rows, also}
use Rattle.cr_syntax_machine_laws.proofs.MachineEnds.{Way, stopped, barring, crowded, naming, Ends, end_stop, end_refuse, end_take, end_crowded, end_pass, end_bar, end_free, end_seen, end_unseen, end_yes, end_no, end_here, end_look, end_set, end_bring, end_behind, end_inside}

-- what is owed where a token opens a level
abbrev pub Deep : Manner → Type 0 → Type 0
Deep plain f = Unit {0}
Deep opens f = f
Deep reopens f = f

-- Four predicates say what is known at a refusal: of the token's number and the levels, at a `stop`; of the test, the row,
-- the number and the levels, at a `bar`; of the number, that of the token before and its row, at a `refuse`; of the number of the
-- token behind one that finds no room.
module _ (us : List Lexeme) (top : Limit) (known means : Goal → Scopes → ℕ → Trees → Scopes → ℕ → Type 0) (via : Goal → Scopes → ℕ → Type 0)
    (stops : ℕ → ℕ → Type 0) (bars : Test → ℕ → ℕ → ℕ → Type 0) (refuses : ℕ → ℕ → ℕ → Type 0) (crowds : ℕ → Type 0) where
  -- behind an opening token, what the goal owes that the program calls
  abbrev pub Onward : Prog → Scopes → ℕ → Type 0
  Onward (give t) c i = ⊥
  Onward (stop d) c i = ⊥
  Onward (refuse n r) c i = ⊥
  Onward (take g x d p q) c i = Onward q c i
  Onward (bar x n d p) c i = Onward p c i
  Onward (peek x p q) c i = Onward p c i
  Onward (when b p q) c i = (b ≡ true → Onward p c i) × (b ≡ false → Onward q c i)
  Onward (here p) c i = Onward (p i) c i
  Onward (look p) c i = Onward (p c) c i
  Onward (set e p) c i = Onward p e i
  Onward (bring k b p) c i = Onward p (enter (brought us i k b) c) i
  Onward (call g p) c i = via g c i

  -- f is what is owed at a refusal in the program; within a goal that is called, what the goal owes
  abbrev pub Fails : Prog → Type 0 → Scopes → ℕ → Type 0
  Fails (give t) f c i = Unit {0}
  Fails (stop d) f c i = stops i d → f
  Fails (refuse n r) f c i = refuses i n r → f
  Fails (take g x d p q) f c i = Deep g (crowds (i + 1) → Onward p c (i + 1)) × (Holds us c i x → Allows top g i d → Fails p f c (i + 1)) × Fails q f c i
  Fails (bar x n d p) f c i = (bars x n i d → f) × Fails p f c i
  Fails (peek x p q) f c i = ((i < length us → Holds us c i x) → Fails p f c i) × Fails q f c i
  Fails (when b p q) f c i = (b ≡ true → Fails p f c i) × (b ≡ false → Fails q f c i)
  Fails (here p) f c i = Fails (p i) f c i
  Fails (look p) f c i = Fails (p c) f c i
  Fails (set e p) f c i = Fails p f e i
  Fails (bring k b p) f c i = Fails p f (enter (brought us i k b) c) i
  Fails (call g p) f c i = (via g c i → f) × ((t : Trees) (e : Scopes) (j : ℕ) → i ≤ j → known g c i t e j → means g c i t e j → Fails (p t) f e j)

  pub words_fail : (g : Manner) (d : ℕ) (p : Kind → Prog) (q : Prog) (f : Type 0) (c : Scopes) (i : ℕ) (r : Word → Kind → Type 0) {rs : Words} → AllRows r rs →
      ((k : Kind) → Deep g (crowds (i + 1) → Onward (p k) c (i + 1))) →
      ((w : Word) (k : Kind) → r w k → Is us i w → Allows top g i d → Fails (p k) f c (i + 1)) → Fails q f c i → Fails (choose g rs d p q) f c i
  words_fail g d p q f c i r no_rows z x y = y
  words_fail g d p q f c i r (also {w = w} {k = k} v vs) z x y = (z k, x w k v, words_fail g d p q f c i r vs z x y)

  -- a goal that can go on behind the token lets the program go on
  onward : (p : Prog) (f : Type 0) (c : Scopes) (i : ℕ) → length us ≤ i → Onward p c i → Fails p f c i → f
  onward (give t) f c i far z y = absurd z
  onward (stop d) f c i far z y = absurd z
  onward (refuse n r) f c i far z y = absurd z
  onward (take g x d p q) f c i far z y = onward q f c i far z y.2
  onward (bar x n d p) f c i far z y = onward p f c i far z y.1
  onward (peek x p q) f c i far z y = onward p f c i far z (y.0 (λ lt. absurd (omega arith)))
  onward (when true p q) f c i far z y = onward p f c i far (z.0 refl) (y.0 refl)
  onward (when false p q) f c i far z y = onward q f c i far (z.1 refl) (y.1 refl)
  onward (here p) f c i far z y = onward (p i) f c i far z y
  onward (look p) f c i far z y = onward (p c) f c i far z y
  onward (set e p) f c i far z y = onward p f e i far z y
  onward (bring k b p) f c i far z y = onward p f (enter (brought us i k b) c) i far z y
  onward (call g p) f c i far z y = y.0 z

  -- what is known at the refusal of token k
  abbrev pub AtRefusal : Way → ℕ → Type 0
  AtRefusal (stopped d) k = stops k d
  AtRefusal (barring x n d) k = bars x n k d
  AtRefusal crowded k = (length us ≡ k + 1) × ((g : Manner) (d : ℕ) → Allows top g k d) × crowds (k + 1)
  AtRefusal (naming n r) k = refuses k n r

module _ (body : Goal → Prog) (ts us : List Lexeme) (limit top : Limit) (known means : Goal → Scopes → ℕ → Trees → Scopes → ℕ → Type 0) (via : Goal → Scopes → ℕ → Type 0)
    (stops : ℕ → ℕ → Type 0) (bars : Test → ℕ → ℕ → ℕ → Type 0) (refuses : ℕ → ℕ → ℕ → Type 0) (crowds : ℕ → Type 0)
    (keeps : (g : Goal) (c e : Scopes) (i j : ℕ) (t : Trees) → Runs body ts limit (body g) c i (Done t e j) → known g c i t e j)
    (each : (g : Goal) (c : Scopes) (i : ℕ) → Gives us top known means (body g) (means g c i) c i)
    (stands : (i d : ℕ) → Allows limit plain i d)
    (owes : (g : Goal) (c : Scopes) (i : ℕ) → Fails us top known means via stops bars refuses crowds (body g) (via g c i) c i) where
  abbrev Owes : Prog → Type 0 → Scopes → ℕ → Type 0
  Owes = Fails us top known means via stops bars refuses crowds

  -- a refused token is none before the first
  not_before : {p : Prog} {c : Scopes} {i k : ℕ} {w : Way} → Ends body ts limit p c i w k → i ≤ k
  not_before end_stop = omega arith
  not_before end_refuse = omega arith
  not_before (end_take v w h) = let n = not_before h in omega arith
  not_before (end_crowded v w) = omega arith
  not_before (end_pass v h) = not_before h
  not_before (end_bar v) = omega arith
  not_before (end_free v h) = not_before h
  not_before (end_seen v h) = not_before h
  not_before (end_unseen v h) = not_before h
  not_before (end_yes v h) = not_before h
  not_before (end_no v h) = not_before h
  not_before (end_here h) = not_before h
  not_before (end_look h) = not_before h
  not_before (end_set h) = not_before h
  not_before (end_bring h) = not_before h
  not_before (end_behind h h') = let n = reach h in let n' = not_before h' in omega arith
  not_before (end_inside h) = not_before h

  pub viable : {p : Prog} {c : Scopes} {i : ℕ} {w : Way} {k : ℕ} → Ends body ts limit p c i w k → (f : Type 0) → AtRefusal us top known means via stops bars refuses crowds w k → k ≤ length us →
      ((n : ℕ) → n < k → slice_get us n ≡ slice_get ts n) → ((e : Scopes) (n : ℕ) (x : Test) → n < length us → passes ts e n x ≡ true → passes us e n x ≡ true) → ((g : Manner) (n d : ℕ) → n < k → Allows limit g n d → Allows top g n d) → Owes p f c i → f
  viable end_stop f z far al see lim y = y z
  viable end_refuse f z far al see lim y = y z
  viable {c = c} {i = i} (end_take {g = g} {x = x} {d = d} v w h) f z far al see lim y =
      let n = not_before h in
      viable h f z far al see lim (y.1 (holds us c i x (see c i x (omega arith) v)) (lim g i d (omega arith) w))
  viable {i = i} (end_crowded {g = plain} {d = d} v w) f z far al see lim y = absurd (w (stands i d))
  viable {c = c} {i = i} (end_crowded {g = opens} {x = x} {d = d} {p = p} v w) f z far al see lim y =
      let n = z.0 in
      onward us top known means via stops bars refuses crowds p f c (i + 1) (omega arith) (y.0 z.2) (y.1 (holds us c i x (see c i x (omega arith) v)) (z.1 opens d))
  viable {c = c} {i = i} (end_crowded {g = reopens} {x = x} {d = d} {p = p} v w) f z far al see lim y =
      let n = z.0 in
      onward us top known means via stops bars refuses crowds p f c (i + 1) (omega arith) (y.0 z.2) (y.1 (holds us c i x (see c i x (omega arith) v)) (z.1 reopens d))
  viable (end_pass v h) f z far al see lim y = viable h f z far al see lim y.2
  viable (end_bar v) f z far al see lim y = y.0 z
  viable (end_free v h) f z far al see lim y = viable h f z far al see lim y.1
  viable {c = c} {i = i} (end_seen {x = x} v h) f z far al see lim y = viable h f z far al see lim (y.0 (λ lt. holds us c i x (see c i x lt v)))
  viable (end_unseen v h) f z far al see lim y = viable h f z far al see lim y.1
  viable (end_yes v h) f z far al see lim y = viable h f z far al see lim (y.0 v)
  viable (end_no v h) f z far al see lim y = viable h f z far al see lim (y.1 v)
  viable (end_here h) f z far al see lim y = viable h f z far al see lim y
  viable (end_look h) f z far al see lim y = viable h f z far al see lim y
  viable (end_set h) f z far al see lim y = viable h f z far al see lim y
  viable {c = c} {i = i} (end_bring {n = n} {b = b} {p = p} h) f z far al see lim y =
      let le = not_before h in
      viable h f z far al see lim (subst (λ v. Owes p f (enter v c) i) (brought_same ts us i n b (λ j lt. al j (omega arith))) y)
  viable {c = c} {i = i} (end_behind {g = g} h h') f z far al see lim y =
      let n = reach h in
      let n' = not_before h' in
      viable h' f z far al see lim (y.1 _ _ _ n (keeps g c _ i _ _ h)
      (gives body ts us limit top known means keeps each h (means g c i) (λ j lt. al j (omega arith)) (λ b j d lt. lim b j d (omega arith)) (each g c i)))
  viable {c = c} {i = i} (end_inside {g = g} h) f z far al see lim y = y.0 (viable h (via g c i) z far al see lim (owes g c i))
