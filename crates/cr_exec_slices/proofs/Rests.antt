-- The rest of a program of the language: what keeps it, and that there is one at most.
use Rattle.std.proofs.Common.{◌≡◌, refl, sym, ◌∙◌, subst, List, [], ◌∷◌}
use Rattle.cr_meaning.specs.Language.{Acted, went, halts, Reply, gave, ended, Prog, give, act, call, Runs, run_give, run_act, run_halt, run_call, run_end}
use Rattle.cr_meaning.proofs.Runs.{one_run}
use Rattle.cr_exec_slices.specs.Rest.{After, Through, Rests}

-- ---- a goal, and what waits for its answer

after_goal : {G V W H : Type 0} (body : G → Prog G V W H) (g : G) (k : V → Prog G V W H) (s : W) (q m : Reply V W H)
    → Runs body (body g) s q → After body k q m → Runs body (call g k) s m
after_goal body g k s (gave v t) m run after = run_call run after
after_goal {V = V} {W = W} {H = H} body g k s (ended h) m run after =
    let P : Reply V W H → Type 0 = λ r. Runs body (call g k) s r in subst P (sym after) (run_end run)

pub pushed : {G V W H : Type 0} (body : G → Prog G V W H) (g : G) (k : V → Prog G V W H) (ks : List (V → Prog G V W H)) (s : W) (r : Reply V W H)
    → Rests body (body g) (k ∷ ks) s r → Rests body (call g k) ks s r
pushed body g k ks s r h = record {
  reply = h.through.0;
  runs = after_goal body g k s h.reply h.through.0 h.runs h.through.1.0;
  through = h.through.1.1;
}

pub popped : {G V W H : Type 0} (body : G → Prog G V W H) (k : V → Prog G V W H) (v : V) (ks : List (V → Prog G V W H)) (s : W) (r : Reply V W H)
    → Rests body (k v) ks s r → Rests body (give v) (k ∷ ks) s r
popped body k v ks s r h = record { reply = gave v s; runs = run_give; through = (h.reply, (h.runs, h.through)) }

-- a goal whose answer is the answer
tail_run : {G V W H : Type 0} (body : G → Prog G V W H) (g : G) (s : W) (q : Reply V W H) → Runs body (body g) s q → Runs body (call g give) s q
tail_run body g s (gave v t) run = run_call run run_give
tail_run body g s (ended h) run = run_end run

pub tailed : {G V W H : Type 0} (body : G → Prog G V W H) (g : G) (ks : List (V → Prog G V W H)) (s : W) (r : Reply V W H)
    → Rests body (body g) ks s r → Rests body (call g give) ks s r
tailed body g ks s r h = record { reply = h.reply; runs = tail_run body g s h.reply h.runs; through = h.through }

-- ---- work

pub acted : {G V W H : Type 0} (body : G → Prog G V W H) (f : W → Acted V W H) (k : V → Prog G V W H) (ks : List (V → Prog G V W H)) (s t : W) (v : V) (r : Reply V W H)
    → f s ≡ went v t → Rests body (k v) ks t r → Rests body (act f k) ks s r
acted body f k ks s t v r e h = record { reply = h.reply; runs = run_act e h.runs; through = h.through }

through_end : {G V W H : Type 0} (body : G → Prog G V W H) (ks : List (V → Prog G V W H)) (h : H) → Through body ks (ended h) (ended h)
through_end body [] h = refl
through_end body (k ∷ ks) h = (ended h, (refl, through_end body ks h))

pub halted : {G V W H : Type 0} (body : G → Prog G V W H) (f : W → Acted V W H) (k : V → Prog G V W H) (ks : List (V → Prog G V W H)) (s : W) (h : H)
    → f s ≡ halts h → Rests body (act f k) ks s (ended h)
halted body f k ks s h e = record { reply = ended h; runs = run_halt e; through = through_end body ks h }

-- ---- where nothing waits

pub given : {G V W H : Type 0} (body : G → Prog G V W H) (v : V) (s : W) → Rests body (give v) [] s (gave v s)
given body v s = record { reply = gave v s; runs = run_give; through = refl }

pub alone : {G V W H : Type 0} (body : G → Prog G V W H) (p : Prog G V W H) (s : W) (r : Reply V W H) → Rests body p [] s r → Runs body p s r
alone {V = V} {W = W} {H = H} body p s r h = let P : Reply V W H → Type 0 = λ q. Runs body p s q in subst P h.through h.runs

pub from_run : {G V W H : Type 0} (body : G → Prog G V W H) (p : Prog G V W H) (s : W) (r : Reply V W H) → Runs body p s r → Rests body p [] s r
from_run body p s r run = record { reply = r; runs = run; through = refl }

-- ---- one rest

one_after : {G V W H : Type 0} (body : G → Prog G V W H) (k : V → Prog G V W H) (q m n : Reply V W H) → After body k q m → After body k q n → m ≡ n
one_after body k (gave v t) m n a b = one_run body (k v) t m n a b
one_after body k (ended h) m n a b = a ∙ sym b

one_through : {G V W H : Type 0} (body : G → Prog G V W H) (ks : List (V → Prog G V W H)) (q r other : Reply V W H)
    → Through body ks q r → Through body ks q other → r ≡ other
one_through body [] q r other a b = sym a ∙ b
one_through {V = V} {W = W} {H = H} body (k ∷ ks) q r other a b =
    let P : Reply V W H → Type 0 = λ m. Through body ks m r in
    one_through body ks b.0 r other (subst P (one_after body k q a.0 b.0 a.1.0 b.1.0) a.1.1) b.1.1

pub one_rest : {G V W H : Type 0} (body : G → Prog G V W H) (p : Prog G V W H) (ks : List (V → Prog G V W H)) (s : W) (r other : Reply V W H)
    → Rests body p ks s r → Rests body p ks s other → r ≡ other
one_rest {V = V} {W = W} {H = H} body p ks s r other a b =
    let P : Reply V W H → Type 0 = λ q. Through body ks q r in
    one_through body ks b.reply r other (subst P (one_run body p s a.reply b.reply a.runs b.runs) a.through) b.through
