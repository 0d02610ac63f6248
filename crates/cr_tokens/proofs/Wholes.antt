-- A file is read in one way: up to the place where nothing more stands, the tokens are the same.
use Rattle.std.proofs.Common.{◌≡◌, ℕ, ◌<◌, List, [], ◌∷◌, ◌++◌, length, refl, sym, ◌∙◌, ap, arith}
use Rattle.std.proofs.lemmas.List.{append-nil}
use Rattle.cr_tokens.specs.declared.token.Token.{Token}
use Rattle.cr_tokens.specs.Blanks.{IsBlank}
use Rattle.cr_tokens.specs.Tokens.{IsToken, FallsInto, Tokenizes}
use Rattle.cr_tokens.specs.Tokens.FallsInto.{nothing, blank, token}
use Rattle.cr_tokens.proofs.Uniques.{blank_unique, blank_inside, blank_no_token, token_unique}

-- neither a blank nor a token stands at `at`
pub record Stuck (file : List ℕ) (at : ℕ) : Type 0 where
  pub no_blank : (to : ℕ) → ¬ IsBlank file at to
  pub no_token : (t : Token) → t.start ≡ at → ¬ IsToken file t

pub end-Stuck : (file : List ℕ) → Stuck file (length file)
end-Stuck file = record {
  no_blank = λ to b. absurd (omega (arith, blank_inside file (length file) to b));
  no_token = λ t e h. absurd (omega (arith, e, h.not_empty, h.inside));
}

cons_same : (u t : Token) (us vs : List Token) → u ≡ t → us ≡ vs → (u ∷ us) ≡ (t ∷ vs)
cons_same u t us vs e f = cc

-- the tokens up to a place begin the tokens up to a place where nothing stands
pub falls_on : {file : List ℕ} {from a b : ℕ} {tokens others : List Token} → FallsInto file from a tokens →
    FallsInto file from b others → Stuck file b → (rest : List Token) × FallsInto file a b rest × (others ≡ tokens ++ rest)
falls_on {others = others} nothing g s = (others, g, refl)
falls_on (blank {to = to} x f) nothing s = absurd (s.no_blank to x)
falls_on {file} {from} (blank {to = a} x f) (blank {to = b} y g) s =
    let same : b ≡ a = blank_unique file from b a y x in
    falls_on f (rw same at g) s
falls_on {file} {from} (blank {to = to} x f) (token t e h g) s = absurd (blank_no_token file from to x t e h)
falls_on (token t e h f) nothing s = absurd (s.no_token t e h)
falls_on {file} {from} (token t e h f) (blank {to = to} y g) s = absurd (blank_no_token file from to y t e h)
falls_on {file} {from} (token {tokens = ts} t e h f) (token {tokens = us} u d k g) s =
    let same : u ≡ t = token_unique file u t (d ∙ sym e) k h in
    let end : u.end ≡ t.end = ap (λ (x : Token). x.end) same in
    let rest = falls_on f (rw end at g) s in
    (rest.0, rest.1, cons_same u t us (ts ++ rest.0) same rest.2)

-- from a place where nothing stands nothing follows
pub falls_nowhere : {file : List ℕ} {a b : ℕ} {rest : List Token} → FallsInto file a b rest → Stuck file a → (a ≡ b) × (rest ≡ [])
falls_nowhere nothing s = (refl, refl)
falls_nowhere (blank {to = to} x f) s = absurd (s.no_blank to x)
falls_nowhere (token t e h f) s = absurd (s.no_token t e h)

-- from a place where a token stands it follows
pub falls_further : {file : List ℕ} {a b : ℕ} {rest : List Token} (t : Token) → FallsInto file a b rest → t.start ≡ a → IsToken file t →
    Stuck file b → 0 < length rest
falls_further t nothing e h s = absurd (s.no_token t e h)
falls_further {file} {a} t (blank {to = to} x f) e h s = absurd (blank_no_token file a to x t e h)
falls_further t (token u d k f) e h s = omega arith

-- two readings that end where nothing stands are one
pub falls_same : {file : List ℕ} {from a b : ℕ} {tokens others : List Token} → FallsInto file from a tokens → Stuck file a →
    FallsInto file from b others → Stuck file b → (a ≡ b) × (others ≡ tokens)
falls_same {tokens = tokens} f s g z =
    let rest = falls_on f g z in
    let none = falls_nowhere rest.1 s in
    (none.0, rw (rest.2, none.1) (append-nil tokens))

-- two readings of as many tokens, each with a token after it, end at one place
pub falls_as_many : {file : List ℕ} {from a b : ℕ} {tokens others : List Token} (t u : Token) → FallsInto file from a tokens →
    t.start ≡ a → IsToken file t → FallsInto file from b others → u.start ≡ b → IsToken file u →
    length tokens ≡ length others → a ≡ b
falls_as_many t u nothing te th nothing ue uh n = refl
falls_as_many {file} {from} t u nothing te th (blank {to = to} y g) ue uh n = absurd (blank_no_token file from to y t te th)
falls_as_many t u nothing te th (token v d k g) ue uh n = absurd (omega arith)
falls_as_many {file} {from} t u (blank {to = to} x f) te th nothing ue uh n = absurd (blank_no_token file from to x u ue uh)
falls_as_many {file} {from} t u (blank {to = a} x f) te th (blank {to = b} y g) ue uh n =
    let same : b ≡ a = blank_unique file from b a y x in
    falls_as_many t u f te th (rw same at g) ue uh n
falls_as_many {file} {from} t u (blank {to = to} x f) te th (token v d k g) ue uh n = absurd (blank_no_token file from to x v d k)
falls_as_many t u (token v d k f) te th nothing ue uh n = absurd (omega arith)
falls_as_many {file} {from} t u (token v d k f) te th (blank {to = to} y g) ue uh n = absurd (blank_no_token file from to y v d k)
falls_as_many {file} t u (token v d k f) te th (token w b m g) ue uh n =
    let same : w ≡ v = token_unique file w v (b ∙ sym d) m k in
    let end : w.end ≡ v.end = ap (λ (x : Token). x.end) same in
    falls_as_many t u f te th (rw end at g) ue uh (omega arith)

pub one_list : (file : List ℕ) (tokens others : List Token) → Tokenizes file tokens → Tokenizes file others → tokens ≡ others
one_list file tokens others x y =
    sym (falls_same x.falls (end-Stuck file) y.falls (end-Stuck file)).1
