-- Runs of programs of the language: there is one at most, and one that was followed to its end is one.
use Rattle.std.proofs.Common.{◌≡◌, refl, sym, ◌∙◌, ap, subst}
use Rattle.std.specs.Prelude.{ℕ, zero, suc, Option, Some, None}
use Rattle.cr_meaning.specs.Language.{Acted, went, halts, Reply, gave, ended, Prog, give, act, call, Runs, run_give, run_act, run_halt, run_call, run_end}
use Rattle.cr_meaning.specs.Meaning.{body as meaning, run_of}
use Rattle.cr_meaning.specs.Laws
use Rattle.cr_meaning.specs.Playing.{played, on_acted, on_reply}

-- what is done with the result of work, or of a goal, runs so
abbrev AfterWork : {G V W H : Type 0} → (G → Prog G V W H) → (V → Prog G V W H) → Reply V W H → Acted V W H → Type 0
AfterWork body k r (went v t) = Runs body (k v) t r
AfterWork body k r (halts h) = r ≡ ended h

abbrev AfterGoal : {G V W H : Type 0} → (G → Prog G V W H) → (V → Prog G V W H) → Reply V W H → Reply V W H → Type 0
AfterGoal body k r (gave v t) = Runs body (k v) t r
AfterGoal body k r (ended h) = r ≡ ended h

-- a run of work, or of a goal, goes on after its result
after_work : {G V W H : Type 0} (body : G → Prog G V W H) (f : W → Acted V W H) (k : V → Prog G V W H) (s : W) (r : Reply V W H) → Runs body (act f k) s r → AfterWork body k r (f s)
after_work body f k s r (run_act e run) = subst (AfterWork body k r) (sym e) run
after_work body f k s r (run_halt e) = subst (AfterWork body k r) (sym e) refl

pub one_run : {G V W H : Type 0} (body : G → Prog G V W H) (p : Prog G V W H) (s : W) (q r : Reply V W H) → Runs body p s q → Runs body p s r → q ≡ r
one_run body p s q r (run_give) (run_give) = refl
one_run body p s q r (run_act {f = f} {k = k} {t = t} {v = v} e run) other =
    one_run body (k v) t q r run (subst (AfterWork body k r) e (after_work body f k s r other))
one_run body p s q r (run_halt {f = f} {k = k} {h = h} e) other = sym (subst (AfterWork body k r) e (after_work body f k s r other))
one_run body p s q r (run_call {g = g} {k = k} {t = t} {v = v} first run) (run_call {t = t'} {v = v'} first' run') =
    one_run body (k v) t q r run (subst (AfterGoal body k r) (sym (one_run body (body g) s (gave v t) (gave v' t') first first')) run')
one_run body p s q r (run_call {g = g} {k = k} {t = t} {v = v} first run) (run_end {h = h} first') =
    one_run body (k v) t q r run (subst (AfterGoal body k r) (sym (one_run body (body g) s (gave v t) (ended h) first first')) refl)
one_run body p s q r (run_end {g = g} {k = k} {h = h} first) (run_call {t = t} {v = v} first' run') =
    sym (subst (AfterGoal body k r) (sym (one_run body (body g) s (ended h) (gave v t) first first')) run')
one_run body p s q r (run_end {g = g} {h = h} first) (run_end {h = h'} first') = one_run body (body g) s (ended h) (ended h') first first'

-- ---- following a run

-- what was followed runs so
abbrev IsFollowed : {G V W H : Type 0} → (G → Prog G V W H) → Prog G V W H → W → Option (Reply V W H) → Type 0
IsFollowed body p s None = Unit {0}
IsFollowed body p s (Some r) = Runs body p s r

follow_work : {G V W H : Type 0} (body : G → Prog G V W H) (f : W → Acted V W H) (k : V → Prog G V W H) (s t : W) (v : V) (o : Option (Reply V W H))
    → f s ≡ went v t → IsFollowed body (k v) t o → IsFollowed body (act f k) s o
follow_work body f k s t v None e run = tt
follow_work body f k s t v (Some r) e run = run_act e run

by_work : {G V W H : Type 0} (body : G → Prog G V W H) (f : W → Acted V W H) (k : V → Prog G V W H) (s : W) (g : V → W → Option (Reply V W H)) (a : Acted V W H)
    → ((v : V) (t : W) → IsFollowed body (k v) t (g v t)) → f s ≡ a → IsFollowed body (act f k) s (on_acted g a)
by_work body f k s g (went v t) h e = follow_work body f k s t v (g v t) e (h v t)
by_work body f k s g (halts x) h e = run_halt e

follow_goal : {G V W H : Type 0} (body : G → Prog G V W H) (x : G) (k : V → Prog G V W H) (s t : W) (v : V) (o : Option (Reply V W H))
    → Runs body (body x) s (gave v t) → IsFollowed body (k v) t o → IsFollowed body (call x k) s o
follow_goal body x k s t v None first run = tt
follow_goal body x k s t v (Some r) first run = run_call first run

by_goal : {G V W H : Type 0} (body : G → Prog G V W H) (x : G) (k : V → Prog G V W H) (s : W) (g : V → W → Option (Reply V W H)) (o : Option (Reply V W H))
    → ((v : V) (t : W) → IsFollowed body (k v) t (g v t)) → IsFollowed body (body x) s o → IsFollowed body (call x k) s (on_reply g o)
by_goal body x k s g None h first = tt
by_goal body x k s g (Some (gave v t)) h first = follow_goal body x k s t v (g v t) first (h v t)
by_goal body x k s g (Some (ended y)) h first = run_end first

followed : {G V W H : Type 0} (body : G → Prog G V W H) (most : ℕ) (p : Prog G V W H) (s : W) → IsFollowed body p s (played body most p s)
unfolding played
followed body most (give v) s = run_give
followed body zero (act f k) s = tt
followed body zero (call g k) s = tt
followed body (suc most) (act f k) s = by_work body f k s (λ v. λ t. played body most (k v) t) (f s) (λ v. λ t. followed body most (k v) t) refl
followed body (suc most) (call g k) s = by_goal body g k s (λ v. λ t. played body most (k v) t) (played body most (body g) s) (λ v. λ t. followed body most (k v) t) (followed body most (body g) s)

pub played_is_run : {G V W H : Type 0} (body : G → Prog G V W H) (most : ℕ) (p : Prog G V W H) (s : W) (r : Reply V W H) → played body most p s ≡ Some r → Runs body p s r
played_is_run body most p s r e = subst (IsFollowed body p s) e (followed body most p s)

-- ---- meanings

some_is_one : {A : Type 0} {a b : A} → Some a ≡ Some b → a ≡ b
some_is_one e = cc

pub one_meaning : Laws.OneMeaning
one_meaning p one other m n = some_is_one (sym m.comes ∙ (ap (run_of p.limits) (one_run (meaning p) _ _ m.reply n.reply m.runs n.runs) ∙ n.comes))

pub followed_is_meant : Laws.FollowedIsMeant
followed_is_meant p most reply outcome e h = record { reply = reply; runs = played_is_run (meaning p) most _ _ reply e; comes = h }
