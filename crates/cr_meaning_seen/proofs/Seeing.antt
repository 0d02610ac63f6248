-- Runs that are seen, and what lasts along them.
use Rattle.std.proofs.Common.{◌≡◌, refl, sym, ap, subst}
use Rattle.cr_meaning.specs.Language.{went, Reply, gave, ended, Prog, give, act, call, Runs, run_give, run_act, run_halt, run_call, run_end}
use Rattle.cr_meaning_seen.specs.Seen.{Sight, Forest, bare, node as tree, onto, Seen, seen_give, seen_act, seen_halt, seen_call, seen_end, sight as c_sight}
use Rattle.cr_meaning.specs.Meaning.{body as meaning}
use Rattle.cr_meaning_seen.specs.Laws

pub run_of : {G V W H T : Type 0} (body : G → Prog G V W H) (sight : Sight G V T) (p : Prog G V W H) (s : W) (r : Reply V W H) (all : T) → Seen body sight p s r all → Runs body p s r
run_of body sight p s r all (seen_give e) = run_give
run_of body sight p s r all (seen_act {k = k} {t = t} {v = v} e run) = run_act e (run_of body sight (k v) t r all run)
run_of body sight p s r all (seen_halt e is) = run_halt e
run_of body sight p s r all (seen_call {g = g} {k = k} {t = t} {v = v} {inner = inner} {more = more} first run e) =
    run_call (run_of body sight (body g) s (gave v t) inner first) (run_of body sight (k v) t r more run)
run_of body sight p s r all (seen_end {g = g} {h = h} {inner = inner} first e) = run_end (run_of body sight (body g) s (ended h) inner first)

seen_of : {G V W H T : Type 0} (body : G → Prog G V W H) (sight : Sight G V T) (p : Prog G V W H) (s : W) (r : Reply V W H) → Runs body p s r → (all : T) × Seen body sight p s r all
seen_of body sight p s r (run_give) = (sight.nothing, seen_give refl)
seen_of body sight p s r (run_act {k = k} {t = t} {v = v} e run) = let i = seen_of body sight (k v) t r run in (i.0, seen_act e i.1)
seen_of body sight p s r (run_halt e) = (sight.nothing, seen_halt e refl)
seen_of body sight p s r (run_call {g = g} {k = k} {t = t} {v = v} first run) =
    let i = seen_of body sight (body g) s (gave v t) first in let j = seen_of body sight (k v) t r run in
    (sight.onto (sight.around g v i.0) j.0, seen_call i.1 j.1 refl)
seen_of body sight p s r (run_end {g = g} {h = h} first) = let i = seen_of body sight (body g) s (ended h) first in (sight.cut g i.0, seen_end i.1 refl)

pub sights_are_runs : Laws.SightsAreRuns
sights_are_runs p program s r all run = run_of (meaning p) c_sight program s r all run

pub runs_are_seen : Laws.RunsAreSeen
runs_are_seen p program s r run = seen_of (meaning p) c_sight program s r run

-- what holds of the answers of a program, where `fit` holds of those of goals
abbrev pub Follows : {G V W H T : Type 0} → Sight G V T → (G → W → V → W → T → Type 0) → (V → W → T → Type 0) → Prog G V W H → W → Type 0
Follows sight fit Q (give v) s = Q v s sight.nothing
Follows {V = V} {W = W} sight fit Q (act f k) s = (v : V) (t : W) → f s ≡ went v t → Follows sight fit Q (k v) t
Follows {V = V} {W = W} {T = T} sight fit Q (call g k) s =
    (v : V) (t : W) (inner : T) → fit g s v t inner → Follows sight fit (λ u. λ w. λ more. Q u w (sight.onto (sight.around g v inner) more)) (k v) t

abbrev pub Gives : {V W H T : Type 0} → (V → W → T → Type 0) → Reply V W H → T → Type 0
Gives Q (gave v t) all = Q v t all
Gives Q (ended h) all = Unit {0}

pub followed : {G V W H T : Type 0} (body : G → Prog G V W H) (sight : Sight G V T) (fit : G → W → V → W → T → Type 0)
    → ((g : G) (s : W) → Follows sight fit (fit g s) (body g) s)
    → (p : Prog G V W H) (s : W) (r : Reply V W H) (all : T) → Seen body sight p s r all → (Q : V → W → T → Type 0) → Follows sight fit Q p s → Gives Q r all
followed {T = T} body sight fit goals p s r all (seen_give {v = v} e) Q h = let F : T → Type 0 = λ x. Q v s x in subst F (sym e) h
followed body sight fit goals p s r all (seen_act {k = k} {t = t} {v = v} e run) Q h = followed body sight fit goals (k v) t r all run Q (h v t e)
followed body sight fit goals p s r all (seen_halt e is) Q h = tt
followed {V = V} {W = W} {H = H} {T = T} body sight fit goals p s r all (seen_call {g = g} {k = k} {t = t} {v = v} {inner = inner} {more = more} first run e) Q h =
    moved r (followed body sight fit goals (k v) t r more run (λ u. λ w. λ x. Q u w (sight.onto (sight.around g v inner) x))
    (h v t inner (followed body sight fit goals (body g) s (gave v t) inner first (fit g s) (goals g s))))
  where
    moved : (r : Reply V W H) → Gives (λ u. λ w. λ x. Q u w (sight.onto (sight.around g v inner) x)) r more → Gives Q r all
    moved (gave u w) k = let F : T → Type 0 = λ x. Q u w x in subst F (sym e) k
    moved (ended x) k = tt
followed body sight fit goals p s r all (seen_end first e) Q h = tt

-- ---- forests

pub onto_bare : (forest : Forest) → onto forest bare ≡ forest
onto_bare bare = refl
onto_bare (tree number inner end rest) = ap (λ f. tree number inner end f) (onto_bare rest)
