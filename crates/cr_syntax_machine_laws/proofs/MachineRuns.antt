-- Of all runs, whatever the goals' programs: a program has one answer, and it looks at no token behind the answer's.
use Rattle.std.proofs.Common.{◌≡◌, ℕ, ◌<◌, ◌≤◌, Bool, true, false, not, ◌&&◌, ◌||◌, List, [], Option, None, Some, refl, sym, ap, subst, ◌∙◌, arith}
use Rattle.std.specs.Prelude.{if◌then◌else◌, nat_lt, slice_get}
use borrow.Author.Tests.{ltb-true}
use Rattle.cr_syntax.specs.declared.word.Word.{Word}
use Rattle.cr_syntax.specs.declared.word.Word.TheVariants as word
use Rattle.cr_syntax.specs.Words.{Lexeme, word_at, spelling_at}
use Rattle.cr_syntax.specs.Scopes.{Scopes, is_type, enter}
use Rattle.cr_syntax.specs.Trees.{Trees}
use Rattle.cr_syntax.specs.Spells.{Limit}
use Rattle.cr_syntax.specs.Reads.{is_word, same_word}
use Rattle.cr_syntax.specs.Units.{is_unused}
use Rattle.cr_syntax_machine.specs.Machine.{Goal, Prog, Test, Reply, Done, Failed, Cause, Runs, passes, verdict, barred, name_before, brought, run_give, run_stop, run_refuse, run_take, run_deep, run_pass, run_bar, run_free, run_seen, run_unseen, run_yes, run_no, run_here, run_look, run_set, run_bring, run_call, run_fail, Manner, Allows}
use Rattle.cr_syntax_machine.specs.Machine as m
use Rattle.cr_syntax_machine_laws.specs.MachineLaws.{end_of, AreAlike}

-- what holds of an answer, where it is one
abbrev pub OnDone : Reply → (Trees → Scopes → ℕ → Type 0) → Type 0
OnDone (Done t e j) f = f t e j
OnDone (Failed x k) f = Unit {0}

pub again : (f : Trees → Scopes → ℕ → Type 0) {t t' : Trees} {e e' : Scopes} {j j' : ℕ} → Done t e j ≡ Done t' e' j' → f t' e' j' → f t e j
again f q x = subst (λ r. OnDone r f) (sym q) x

pub same : {body : Goal → Prog} {ts : List Lexeme} {limit : Limit} {p : Prog} {c : Scopes} {i : ℕ} {r r' : Reply} →
    Runs body ts limit p c i r → Runs body ts limit p c i r' → r ≡ r'
same run_give run_give = refl
same run_stop run_stop = refl
same run_refuse run_refuse = refl
same (run_take x a h) (run_take x' a' h') = same h h'
same (run_take x a h) (run_deep x' a') = absurd (a' a)
same (run_take x a h) (run_pass x' h') = cc
same (run_deep x a) (run_take x' a' h') = absurd (a a')
same (run_deep x a) (run_deep x' a') = refl
same (run_deep x a) (run_pass x' h') = cc
same (run_pass x h) (run_take x' a' h') = cc
same (run_pass x h) (run_deep x' a') = cc
same (run_pass x h) (run_pass x' h') = same h h'
same (run_bar x) (run_bar x') = refl
same (run_bar x) (run_free x' h') = cc
same (run_free x h) (run_bar x') = cc
same (run_free x h) (run_free x' h') = same h h'
same (run_seen x h) (run_seen x' h') = same h h'
same (run_seen x h) (run_unseen x' h') = cc
same (run_unseen x h) (run_seen x' h') = cc
same (run_unseen x h) (run_unseen x' h') = same h h'
same (run_yes x h) (run_yes x' h') = same h h'
same (run_yes x h) (run_no x' h') = cc
same (run_no x h) (run_yes x' h') = cc
same (run_no x h) (run_no x' h') = same h h'
same (run_here h) (run_here h') = same h h'
same (run_look h) (run_look h') = same h h'
same (run_set h) (run_set h') = same h h'
same (run_bring h) (run_bring h') = same h h'
same {body = body} {ts = ts} {limit = limit} {r' = r'} (run_call {f = f} h k) (run_call h' k') =
    same k (again (λ t e j. Runs body ts limit (f t) e j r') (same h h') k')
same (run_call h k) (run_fail h') = let q = same h h' in cc
same (run_fail h) (run_call h' k') = let q = same h h' in cc
same (run_fail h) (run_fail h') = let q = same h h' in cc

-- a run goes on to the right
pub reach : {body : Goal → Prog} {ts : List Lexeme} {limit : Limit} {p : Prog} {c : Scopes} {i : ℕ} {r : Reply} →
    Runs body ts limit p c i r → i ≤ end_of r
reach run_give = omega arith
reach run_stop = omega arith
reach run_refuse = omega arith
reach (run_take x a h) = let n = reach h in omega arith
reach (run_deep x a) = omega arith
reach (run_pass x h) = reach h
reach (run_bar x) = omega arith
reach (run_free x h) = reach h
reach (run_seen x h) = reach h
reach (run_unseen x h) = reach h
reach (run_yes x h) = reach h
reach (run_no x h) = reach h
reach (run_here h) = reach h
reach (run_look h) = reach h
reach (run_set h) = reach h
reach (run_bring h) = reach h
reach (run_call h k) = let n = reach h in let n' = reach k in omega arith
reach (run_fail h) = reach h

-- the word of a token, if there is one
abbrev pub word_in : Option Lexeme → Option Word
word_in None = None
word_in (Some t) = Some t.word

module _ (ts us : List Lexeme) (i : ℕ) (q : slice_get us i ≡ slice_get ts i) where
  pub word_same : word_at us i ≡ word_at ts i
  word_same = ap word_in q

  pub spelling_same : spelling_at us i ≡ spelling_at ts i
  spelling_same = ap (λ o. elim o as (λ _. List ℕ) [ None ↦ [] | Some t ↦ t.spelling ]) q

  is_word_same : (w : Word) → is_word us i w ≡ is_word ts i w
  is_word_same w = ap (λ o. elim o as (λ _. Bool) [ None ↦ false | Some v ↦ same_word v w ]) word_same

  pub passes_same : (c : Scopes) (x : Test) → passes us c i x ≡ passes ts c i x
  passes_same c (m.the w) = is_word_same w
  passes_same c (m.has f) = ap (λ o. elim o as (λ _. Bool) [ None ↦ false | Some w ↦ f w ]) word_same
  passes_same c m.ordinary = (ap (λ b. b && not (is_type c (spelling_at us i))) (is_word_same word.Identifier)) ∙ (ap (λ s. is_word ts i word.Identifier && not (is_type c s)) spelling_same)
  passes_same c (m.type_identifier typed) = (ap (λ b. b && is_type c (spelling_at us i) && not typed) (is_word_same word.Identifier)) ∙ (ap (λ s. is_word ts i word.Identifier && is_type c s && not typed) spelling_same)
  passes_same c (m.declared typed) = (ap (λ b. b && (typed || not (is_type c (spelling_at us i)))) (is_word_same word.Identifier)) ∙ (ap (λ s. is_word ts i word.Identifier && (typed || not (is_type c s))) spelling_same)
  passes_same c (m.or x y) = (ap (λ b. b || passes us c i y) (passes_same c x)) ∙ (ap (λ b. passes ts c i x || b) (passes_same c y))

  pub verdict_same : (d : ℕ) → verdict us i d ≡ verdict ts i d
  verdict_same d = ap (λ o. elim o as (λ _. Cause) [ None ↦ m.ended | Some w ↦ if is_unused w then m.outside 1 else (if m.overflows w d then m.too_deep else m.unexpected) ]) word_same

  pub barred_same : (n d : ℕ) → barred us n i d ≡ barred ts n i d
  barred_same n d = ap (λ o. elim o as (λ _. Cause) [ None ↦ m.ended | Some w ↦ if m.exceeds w d then m.too_deep else m.outside n ]) word_same

pub name_same : (ts us : List Lexeme) (i k : ℕ) → ((n : ℕ) → n < i → slice_get us n ≡ slice_get ts n) → name_before us i k ≡ name_before ts i k
name_same ts us i k f = at (nat_lt k i) (ltb-true k i)
  where
    at : (b : Bool) → (b ≡ true → k < i) → (if b then spelling_at us k else []) ≡ (if b then spelling_at ts k else [])
    at true g = spelling_same ts us k (f k (g refl))
    at false g = refl

module _ (ts us : List Lexeme) where
  -- a test, a verdict and a name of one text in the other
  test_of : (c : Scopes) (i : ℕ) (x : Test) {b : Bool} → slice_get us i ≡ slice_get ts i → passes ts c i x ≡ b → passes us c i x ≡ b
  test_of c i x q h = passes_same ts us i q c x ∙ h

  pub brought_same : (i k : ℕ) (b : Bool) → ((n : ℕ) → n < i → slice_get us n ≡ slice_get ts n) → brought us i k b ≡ brought ts i k b
  brought_same i k b f = ap (λ s. record { name = s; is_type = b }) (name_same ts us i k f)

pub local : {body : Goal → Prog} {ts us : List Lexeme} {limit : Limit} {p : Prog} {c : Scopes} {i : ℕ} {r : Reply} →
    Runs body ts limit p c i r → AreAlike (end_of r) ts us → Runs body us limit p c i r
local run_give f = run_give
local {body = body} {ts = ts} {us = us} {limit = limit} {c = c} {i = i} (run_stop {d = d}) f =
    subst (λ x. Runs body us limit (m.stop d) c i (Failed x i)) (verdict_same ts us i (f i (omega arith)) d) run_stop
local run_refuse f = run_refuse
local {ts = ts} {us = us} {c = c} {i = i} (run_take {x = y} x a h) f = let n = reach h in run_take (test_of ts us c i y (f i (omega arith)) x) a (local h f)
local {ts = ts} {us = us} {c = c} {i = i} (run_deep {x = y} x a) f = run_deep (test_of ts us c i y (f i (omega arith)) x) a
local {ts = ts} {us = us} {c = c} {i = i} (run_pass {x = y} x h) f = let n = reach h in run_pass (test_of ts us c i y (f i n) x) (local h f)
local {body = body} {ts = ts} {us = us} {limit = limit} {p = p} {c = c} {i = i} (run_bar {x = y} {n = n} {d = d} x) f =
    subst (λ z. Runs body us limit p c i (Failed z i)) (barred_same ts us i (f i (omega arith)) n d) (run_bar (test_of ts us c i y (f i (omega arith)) x))
local {ts = ts} {us = us} {c = c} {i = i} (run_free {x = y} x h) f = let n = reach h in run_free (test_of ts us c i y (f i n) x) (local h f)
local {ts = ts} {us = us} {c = c} {i = i} (run_seen {x = y} x h) f = let n = reach h in run_seen (test_of ts us c i y (f i n) x) (local h f)
local {ts = ts} {us = us} {c = c} {i = i} (run_unseen {x = y} x h) f = let n = reach h in run_unseen (test_of ts us c i y (f i n) x) (local h f)
local (run_yes x h) f = run_yes x (local h f)
local (run_no x h) f = run_no x (local h f)
local (run_here h) f = run_here (local h f)
local (run_look h) f = run_look (local h f)
local (run_set h) f = run_set (local h f)
local {body = body} {ts = ts} {us = us} {limit = limit} {c = c} {i = i} {r = r} (run_bring {k = k} {b = b} {p = p} h) f =
    let n = reach h in
    run_bring (subst (λ x. Runs body us limit p (enter x c) i r) (sym (brought_same ts us i k b (λ j lt. f j (omega arith)))) (local h f))
local (run_call h k) f = let n = reach k in run_call (local h (λ i le. f i (omega arith))) (local k f)
local (run_fail h) f = run_fail (local h f)

-- Where a refusal for want of room stays one, a run is one within each limit that lets its tokens stand.

abbrev pub StaysRefused : Limit → Limit → Reply → Type 0
StaysRefused limit top (Done t e j) = Unit {0}
StaysRefused limit top (Failed x k) = x ≡ m.too_deep → (g : Manner) (d : ℕ) → (Allows limit g k d → ⊥) → Allows top g k d → ⊥

pub relimited : {body : Goal → Prog} {ts : List Lexeme} {limit top : Limit} {p : Prog} {c : Scopes} {i : ℕ} {r : Reply} → ((g : Manner) (n d : ℕ) → n < end_of r → Allows limit g n d → Allows top g n d) →
    StaysRefused limit top r → Runs body ts limit p c i r → Runs body ts top p c i r
relimited f n run_give = run_give
relimited f n run_stop = run_stop
relimited f n run_refuse = run_refuse
relimited {i = i} f n (run_take {m = g} {d = d} x w h) = let le = reach h in run_take x (f g i d (omega arith) w) (relimited f n h)
relimited f n (run_deep {m = g} {d = d} x w) = run_deep x (n refl g d w)
relimited f n (run_pass x h) = run_pass x (relimited f n h)
relimited f n (run_bar x) = run_bar x
relimited f n (run_free x h) = run_free x (relimited f n h)
relimited f n (run_seen x h) = run_seen x (relimited f n h)
relimited f n (run_unseen x h) = run_unseen x (relimited f n h)
relimited f n (run_yes x h) = run_yes x (relimited f n h)
relimited f n (run_no x h) = run_no x (relimited f n h)
relimited f n (run_here h) = run_here (relimited f n h)
relimited f n (run_look h) = run_look (relimited f n h)
relimited f n (run_set h) = run_set (relimited f n h)
relimited f n (run_bring h) = run_bring (relimited f n h)
relimited f n (run_call h k) = let le = reach k in run_call (relimited (λ g j d lt w. f g j d (omega arith) w) tt h) (relimited f n k)
relimited f n (run_fail h) = run_fail (relimited f n h)
