-- What lasts along seen runs, where something is known of the worlds in which goals are asked.
use Rattle.std.proofs.Common.{◌≡◌, sym, subst}
use Rattle.cr_meaning.specs.Language.{Acted, went, Reply, gave, ended, Prog, give, act, call}
use Rattle.cr_meaning_soundness.proofs.Lasting.{OnActed, Holds, held}
use Rattle.cr_meaning_seen.specs.Seen.{Sight, Seen, seen_give, seen_act, seen_halt, seen_call, seen_end}
use Rattle.cr_meaning_seen.proofs.Seeing.{Gives, run_of}

-- what holds of the answers of a program, where `fit` holds of those of goals, and they are asked in known worlds
abbrev pub FollowsIn : {G V W H T : Type 0} → Sight G V T → (Known : G → W → Type 0) → ((g : G) (s : W) → Known g s → Reply V W H → Type 0) → (G → W → V → W → T → Type 0) → (V → W → T → Type 0) → Prog G V W H → W → Type 0
FollowsIn sight Known Keeps fit Q (give v) s = Q v s sight.nothing
FollowsIn {V = V} {W = W} sight Known Keeps fit Q (act f k) s = (v : V) (t : W) → f s ≡ went v t → FollowsIn sight Known Keeps fit Q (k v) t
FollowsIn {V = V} {W = W} {T = T} sight Known Keeps fit Q (call g k) s =
    (i : Known g s) (v : V) (t : W) (inner : T) → Keeps g s i (gave v t) → fit g s v t inner → FollowsIn sight Known Keeps fit (λ u. λ w. λ more. Q u w (sight.onto (sight.around g v inner) more)) (k v) t

pub followed_in : {G V W H T : Type 0} (body : G → Prog G V W H) (sight : Sight G V T) (Known : G → W → Type 0) (Keeps : (g : G) (s : W) → Known g s → Reply V W H → Type 0)
    (knowing : (g : G) (s : W) (i : Known g s) → Holds Known Keeps (Keeps g s i) (body g) s) (fit : G → W → V → W → T → Type 0)
    → ((g : G) (s : W) → Known g s → FollowsIn sight Known Keeps fit (fit g s) (body g) s)
    → (p : Prog G V W H) (s : W) (r : Reply V W H) (all : T) → Seen body sight p s r all → (P : Reply V W H → Type 0) → Holds Known Keeps P p s
    → (Q : V → W → T → Type 0) → FollowsIn sight Known Keeps fit Q p s → Gives Q r all
followed_in {T = T} body sight Known Keeps knowing fit goals p s r all (seen_give {v = v} e) P known Q h = let F : T → Type 0 = λ x. Q v s x in subst F (sym e) h
followed_in {V = V} {W = W} {H = H} body sight Known Keeps knowing fit goals p s r all (seen_act {f = f} {k = k} {t = t} {v = v} e run) P known Q h =
    let F : Acted V W H → Type 0 = λ a. OnActed (λ v. λ t. Holds Known Keeps P (k v) t) (λ h. P (ended h)) a in
    followed_in body sight Known Keeps knowing fit goals (k v) t r all run P (subst F e known) Q (h v t e)
followed_in body sight Known Keeps knowing fit goals p s r all (seen_halt e is) P known Q h = tt
followed_in {V = V} {W = W} {H = H} {T = T} body sight Known Keeps knowing fit goals p s r all (seen_call {g = g} {k = k} {t = t} {v = v} {inner = inner} {more = more} first run e) P known Q h =
    let keeps = held body Known Keeps knowing (body g) s (gave v t) (run_of body sight (body g) s (gave v t) inner first) (Keeps g s known.0) (knowing g s known.0) in
    moved r (followed_in body sight Known Keeps knowing fit goals (k v) t r more run P (known.1.0 v t keeps) (λ u. λ w. λ x. Q u w (sight.onto (sight.around g v inner) x))
    (h known.0 v t inner keeps (followed_in body sight Known Keeps knowing fit goals (body g) s (gave v t) inner first (Keeps g s known.0) (knowing g s known.0) (fit g s) (goals g s known.0))))
  where
    moved : (r : Reply V W H) → Gives (λ u. λ w. λ x. Q u w (sight.onto (sight.around g v inner) x)) r more → Gives Q r all
    moved (gave u w) k = let F : T → Type 0 = λ x. Q u w x in subst F (sym e) k
    moved (ended x) k = tt
followed_in body sight Known Keeps knowing fit goals p s r all (seen_end first e) P known Q h = tt
