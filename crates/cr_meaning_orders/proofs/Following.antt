-- Runs in any order, and seen runs: what lasts along the ones, and what the others begin with.
use Rattle.std.proofs.Common.{◌≡◌, refl, subst}
use Rattle.cr_meaning.specs.Language.{Acted, went, halts, Reply, gave, ended, Prog, give, act, call}
use Rattle.cr_meaning_soundness.proofs.Lasting.{OnActed, Holds}
use Rattle.cr_meaning_seen.specs.Seen.{Sight, Seen, seen_give, seen_act, seen_halt, seen_call, seen_end}
use Rattle.cr_meaning_orders.specs.AnyOrder.{RunsBy, by_give, by_act, by_halt, by_call, by_end}

-- ---- facts that last along runs in any order

pub held : {G V W H : Type 0} (asks : G → Prog G V W H → Type 0) (Pre : G → W → Type 0) (Post : (g : G) (s : W) → Pre g s → Reply V W H → Type 0)
    → ((g : G) (q : Prog G V W H) (s : W) (i : Pre g s) → asks g q → Holds Pre Post (Post g s i) q s)
    → (p : Prog G V W H) (s : W) (r : Reply V W H) → RunsBy asks p s r → (P : Reply V W H → Type 0) → Holds Pre Post P p s → P r
held asks Pre Post goals p s r (by_give) P h = h
held {V = V} {W = W} {H = H} asks Pre Post goals p s r (by_act {f = f} {k = k} {t = t} {v = v} e run) P h =
    let F : Acted V W H → Type 0 = λ a. OnActed (λ v. λ t. Holds Pre Post P (k v) t) (λ h. P (ended h)) a in
    held asks Pre Post goals (k v) t r run P (subst F e h)
held {V = V} {W = W} {H = H} asks Pre Post goals p s r (by_halt {f = f} {k = k} e) P h =
    let F : Acted V W H → Type 0 = λ a. OnActed (λ v. λ t. Holds Pre Post P (k v) t) (λ h. P (ended h)) a in
    subst F e h
held asks Pre Post goals p s r (by_call {g = g} {q = q} {k = k} {t = t} {v = v} is first run) P h =
    held asks Pre Post goals (k v) t r run P (h.1.0 v t (held asks Pre Post goals q s (gave v t) first (Post g s h.0) (goals g q s h.0 is)))
held asks Pre Post goals p s r (by_end {g = g} {q = q} {h = h'} is first) P h =
    h.1.1 h' (held asks Pre Post goals q s (ended h') first (Post g s h.0) (goals g q s h.0 is))

-- ---- what a seen run begins with

pub data SeenAct {G V W H T : Type 0} (body : G → Prog G V W H) (sight : Sight G V T) (f : W → Acted V W H) (k : V → Prog G V W H) (s : W) (r : Reply V W H) (all : T) : Type 0 where
  on : (v : V) (t : W) → f s ≡ went v t → Seen body sight (k v) t r all → SeenAct body sight f k s r all
  off : (h : H) → f s ≡ halts h → r ≡ ended h → SeenAct body sight f k s r all

pub seen_on : {G V W H T : Type 0} (body : G → Prog G V W H) (sight : Sight G V T) (f : W → Acted V W H) (k : V → Prog G V W H) (s : W) (r : Reply V W H) (all : T)
    → Seen body sight (act f k) s r all → SeenAct body sight f k s r all
seen_on body _ f k s r all (seen_act {t = t} {v = v} e run) = on v t e run
seen_on body _ f k s r all (seen_halt {h = h} e is) = off h e refl

pub data SeenCall {G V W H T : Type 0} (body : G → Prog G V W H) (sight : Sight G V T) (g : G) (k : V → Prog G V W H) (s : W) (r : Reply V W H) (all : T) : Type 0 where
  back : (v : V) (t : W) (inner more : T) → Seen body sight (body g) s (gave v t) inner → Seen body sight (k v) t r more → all ≡ sight.onto (sight.around g v inner) more → SeenCall body sight g k s r all
  off : (h : H) (inner : T) → Seen body sight (body g) s (ended h) inner → r ≡ ended h → all ≡ sight.cut g inner → SeenCall body sight g k s r all

pub seen_back : {G V W H T : Type 0} (body : G → Prog G V W H) (sight : Sight G V T) (g : G) (k : V → Prog G V W H) (s : W) (r : Reply V W H) (all : T)
    → Seen body sight (call g k) s r all → SeenCall body sight g k s r all
seen_back body _ g k s r all (seen_call {t = t} {v = v} {inner = inner} {more = more} first run e) = back v t inner more first run e
seen_back body _ g k s r all (seen_end {h = h} {inner = inner} first e) = off h inner first refl e

pub data SeenGive {G V W H T : Type 0} (sight : Sight G V T) (v : V) (s : W) (r : Reply V W H) (all : T) : Type 0 where
  finished : r ≡ gave v s → all ≡ sight.nothing → SeenGive sight v s r all

pub seen_done : {G V W H T : Type 0} (body : G → Prog G V W H) (sight : Sight G V T) (v : V) (s : W) (r : Reply V W H) (all : T)
    → Seen body sight (give v) s r all → SeenGive {H = H} sight v s r all
seen_done body _ v s r all (seen_give e) = finished refl e
