-- Facts that last along runs of the language.
use Rattle.std.proofs.Common.{subst}
use Rattle.cr_meaning.specs.Language.{Acted, went, halts, Reply, gave, ended, Prog, give, act, call, Runs, run_give, run_act, run_halt, run_call, run_end}

abbrev pub OnActed : {V W H : Type 0} → (V → W → Type 0) → (H → Type 0) → Acted V W H → Type 0
OnActed Q E (went v t) = Q v t
OnActed Q E (halts h) = E h

-- what holds of the replies of a program, where it holds of those of a goal that it asks what `Post` says for some `Pre`
abbrev pub Holds : {G V W H : Type 0} (Pre : G → W → Type 0) → ((g : G) (s : W) → Pre g s → Reply V W H → Type 0) → (Reply V W H → Type 0) → Prog G V W H → W → Type 0
Holds Pre Post P (give v) s = P (gave v s)
Holds Pre Post P (act f k) s = OnActed (λ v. λ t. Holds Pre Post P (k v) t) (λ h. P (ended h)) (f s)
Holds {V = V} {W = W} {H = H} Pre Post P (call g k) s =
    (i : Pre g s) × (((v : V) (t : W) → Post g s i (gave v t) → Holds Pre Post P (k v) t) × ((h : H) → Post g s i (ended h) → P (ended h)))

pub held : {G V W H : Type 0} (body : G → Prog G V W H) (Pre : G → W → Type 0) (Post : (g : G) (s : W) → Pre g s → Reply V W H → Type 0)
    → ((g : G) (s : W) (i : Pre g s) → Holds Pre Post (Post g s i) (body g) s)
    → (p : Prog G V W H) (s : W) (r : Reply V W H) → Runs body p s r → (P : Reply V W H → Type 0) → Holds Pre Post P p s → P r
held body Pre Post goals p s r (run_give) P h = h
held {V = V} {W = W} {H = H} body Pre Post goals p s r (run_act {f = f} {k = k} {t = t} {v = v} e run) P h =
    let F : Acted V W H → Type 0 = λ a. OnActed (λ v. λ t. Holds Pre Post P (k v) t) (λ h. P (ended h)) a in
    held body Pre Post goals (k v) t r run P (subst F e h)
held {V = V} {W = W} {H = H} body Pre Post goals p s r (run_halt {f = f} {k = k} e) P h =
    let F : Acted V W H → Type 0 = λ a. OnActed (λ v. λ t. Holds Pre Post P (k v) t) (λ h. P (ended h)) a in
    subst F e h
held body Pre Post goals p s r (run_call {g = g} {k = k} {t = t} {v = v} first run) P h =
    held body Pre Post goals (k v) t r run P (h.1.0 v t (held body Pre Post goals (body g) s (gave v t) first (Post g s h.0) (goals g s h.0)))
held body Pre Post goals p s r (run_end {g = g} {h = h'} first) P h =
    h.1.1 h' (held body Pre Post goals (body g) s (ended h') first (Post g s h.0) (goals g s h.0))
