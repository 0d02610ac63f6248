-- What a program owes for what it answers, and that its runs give no less.
use Rattle.std.proofs.lemmas.Bool.{or_cases}
use Rattle.std.proofs.Common.{◌≡◌, ℕ, ◌+◌, ◌<◌, ◌≤◌, true, false, not, ◌&&◌, ◌||◌, List, [], ◌∷◌, subst, ◌∙◌, arith, inl, inr, ◌⊎◌}
use Rattle.std.specs.Prelude.{slice_get}
use Rattle.cr_syntax.specs.declared.word.Word.{Word}
use Rattle.cr_syntax.specs.declared.word.Word.TheVariants as word
use Rattle.cr_syntax.specs.declared.node.Kind.{Kind}
use Rattle.cr_syntax.specs.Words.{Lexeme, spelling_at}
use Rattle.cr_syntax.specs.Scopes.{Scopes, is_type, enter}
use Rattle.cr_syntax.specs.Trees.{Trees}
use Rattle.cr_syntax.specs.Spells.{Limit, Is, IsIdentifier}
use Rattle.cr_syntax.specs.Reads.{is_word}
use Rattle.cr_syntax_machine.specs.Machine.{Goal, Prog, Manner, Test, Reply, Runs, Allows, passes, brought, choose, give, stop, refuse, take, bar, peek, when, here, look, set, bring, call, run_give, run_stop, run_refuse, run_take, run_deep, run_pass, run_bar, run_free, run_seen, run_unseen, run_yes, run_no, run_here, run_look, run_set, run_bring, run_call, run_fail}
use Rattle.cr_syntax_machine.specs.Machine as m
use Rattle.cr_syntax_machine.specs.MachineBody.{Words}
use Rattle.cr_syntax_machine_laws.specs.MachineLaws.{end_of}
use Rattle.cr_syntax.proofs.Tests.{is_of, both, not_true}
use Rattle.cr_syntax_machine_laws.proofs.MachineRuns.{OnDone, reach, passes_same, brought_same}

-- what a test says of a token
abbrev pub Holds : List Lexeme → Scopes → ℕ → Test → Type 0
Holds us c i (m.the w) = Is us i w
Holds us c i (m.has f) = Unit {0}
Holds us c i m.ordinary = IsIdentifier us c i false
Holds us c i (m.type_identifier typed) = IsIdentifier us c i true × (typed ≡ false)
Holds us c i (m.declared typed) = Is us i word.Identifier × (typed || not (is_type c (spelling_at us i)) ≡ true)
Holds us c i (m.or x y) = Holds us c i x ⊎ Holds us c i y

pub holds : (us : List Lexeme) (c : Scopes) (i : ℕ) (x : Test) → passes us c i x ≡ true → Holds us c i x
holds us c i (m.the w) q = is_of us i w q
holds us c i (m.has f) q = tt
holds us c i m.ordinary q = let w = both (is_word us i word.Identifier) (not (is_type c (spelling_at us i))) q in (is_of us i word.Identifier w.0, not_true _ w.1)
holds us c i (m.type_identifier typed) q =
    let w = both (is_word us i word.Identifier && is_type c (spelling_at us i)) (not typed) q in
    let v = both (is_word us i word.Identifier) (is_type c (spelling_at us i)) w.0 in
    ((is_of us i word.Identifier v.0, v.1), not_true typed w.1)
holds us c i (m.declared typed) q = let w = both (is_word us i word.Identifier) (typed || not (is_type c (spelling_at us i))) q in (is_of us i word.Identifier w.0, w.1)
holds us c i (m.or x y) q = elim (or_cases (passes us c i x) (passes us c i y) q) [ inl w ↦ inl (holds us c i x w) | inr w ↦ inr (holds us c i y w) ]

-- What holds of a program's answers by the meaning of the goals that it calls. Of a goal's answer something may be known besides.
module _ (us : List Lexeme) (top : Limit) (known means : Goal → Scopes → ℕ → Trees → Scopes → ℕ → Type 0) where
  abbrev pub Gives : Prog → (Trees → Scopes → ℕ → Type 0) → Scopes → ℕ → Type 0
  Gives (give t) f c i = f t c i
  Gives (stop d) f c i = Unit {0}
  Gives (refuse n r) f c i = Unit {0}
  Gives (take a x d p q) f c i = (Holds us c i x → Allows top a i d → Gives p f c (i + 1)) × Gives q f c i
  Gives (bar x n d p) f c i = Gives p f c i
  Gives (peek x p q) f c i = Gives p f c i × Gives q f c i
  Gives (when b p q) f c i = (b ≡ true → Gives p f c i) × (b ≡ false → Gives q f c i)
  Gives (here p) f c i = Gives (p i) f c i
  Gives (look p) f c i = Gives (p c) f c i
  Gives (set e p) f c i = Gives p f e i
  Gives (bring k b p) f c i = Gives p f (enter (brought us i k b) c) i
  Gives (call g p) f c i = (t : Trees) (e : Scopes) (j : ℕ) → i ≤ j → known g c i t e j → means g c i t e j → Gives (p t) f e j

-- The text may be another one that has the same tokens before the answer's, and the limit one that lets them stand.
module _ (body : Goal → Prog) (ts us : List Lexeme) (limit top : Limit) (known means : Goal → Scopes → ℕ → Trees → Scopes → ℕ → Type 0)
    (keeps : (g : Goal) (c e : Scopes) (i j : ℕ) (t : Trees) → Runs body ts limit (body g) c i (m.Done t e j) → known g c i t e j)
    (each : (g : Goal) (c : Scopes) (i : ℕ) → Gives us top known means (body g) (means g c i) c i) where
  pub gives : {p : Prog} {c : Scopes} {i : ℕ} {r : Reply} → Runs body ts limit p c i r → (f : Trees → Scopes → ℕ → Type 0) →
      ((n : ℕ) → n < end_of r → slice_get us n ≡ slice_get ts n) →
      ((a : Manner) (n d : ℕ) → n < end_of r → Allows limit a n d → Allows top a n d) →
      Gives us top known means p f c i → OnDone r f
  gives run_give f al lim x = x
  gives run_stop f al lim x = tt
  gives run_refuse f al lim x = tt
  gives {c = c} {i = i} (run_take {m = a} {x = y} {d = d} t w h) f al lim x =
      let n = reach h in
      gives h f al lim (x.0 (holds us c i y (passes_same ts us i (al i (omega arith)) c y ∙ t)) (lim a i d (omega arith) w))
  gives (run_deep t w) f al lim x = tt
  gives (run_pass t h) f al lim x = gives h f al lim x.1
  gives (run_bar t) f al lim x = tt
  gives (run_free t h) f al lim x = gives h f al lim x
  gives (run_seen t h) f al lim x = gives h f al lim x.0
  gives (run_unseen t h) f al lim x = gives h f al lim x.1
  gives (run_yes t h) f al lim x = gives h f al lim (x.0 t)
  gives (run_no t h) f al lim x = gives h f al lim (x.1 t)
  gives (run_here h) f al lim x = gives h f al lim x
  gives (run_look h) f al lim x = gives h f al lim x
  gives (run_set h) f al lim x = gives h f al lim x
  gives {c = c} {i = i} (run_bring {k = k} {b = b} {p = p} h) f al lim x =
      let n = reach h in
      gives h f al lim (subst (λ y. Gives us top known means p f (enter y c) i) (brought_same ts us i k b (λ j lt. al j (omega arith))) x)
  gives {c = c} {i = i} (run_call {g = g} h k) f al lim x =
      let n = reach k in
      let n' = reach h in
      gives k f al lim (x _ _ _ n' (keeps g c _ i _ _ h) (gives h (means g c i) (λ j lt. al j (omega arith)) (λ b j d lt. lim b j d (omega arith)) (each g c i)))
  gives (run_fail h) f al lim x = tt

-- A table of words, of each of which something holds.
pub data AllRows (f : Word → Kind → Type 0) : Words → Type 0 where
  no_rows : AllRows f []
  also : {w : Word} {k : Kind} {rs : Words} → f w k → AllRows f rs → AllRows f ((w, k) ∷ rs)

module _ (us : List Lexeme) (top : Limit) (known means : Goal → Scopes → ℕ → Trees → Scopes → ℕ → Type 0) where
  pub gives_choose : (a : Manner) (d : ℕ) (p : Kind → Prog) (q : Prog) (f : Trees → Scopes → ℕ → Type 0) (c : Scopes) (i : ℕ)
      (r : Word → Kind → Type 0) {rs : Words} → AllRows r rs →
      ((w : Word) (k : Kind) → r w k → Is us i w → Allows top a i d → Gives us top known means (p k) f c (i + 1)) →
      Gives us top known means q f c i → Gives us top known means (choose a rs d p q) f c i
  gives_choose a d p q f c i r no_rows x y = y
  gives_choose a d p q f c i r (also {w = w} {k = k} z zs) x y = (x w k z, gives_choose a d p q f c i r zs x y)
