-- The rule on declarators holds of a table as it is made of a program, and of none whose function declares an object of its caller.
use Rattle.std.proofs.Common.{◌≡◌, refl, sym, ◌∙◌, ap, subst, inl, inr}
use Rattle.std.specs.Prelude.{ℕ, zero, suc, pos, Bool, true, false, Some, None, List, [], ◌∷◌, slice_get, ◌⊎◌}
use Rattle.std.proofs.lemmas.Bool.{false≢true}
use Rattle.cr_ints.specs.declared.kind.IntKind.TheVariants.{Int}
use Rattle.cr_meaning.specs.World.{Program}
use Rattle.cr_meaning.specs.declared.op.Op.{Op}
use Rattle.cr_meaning.specs.declared.op.Line.{Line}
use Rattle.cr_meaning.specs.declared.op.Access.TheVariants as access
use Rattle.cr_meaning.specs.declared.op.Callee.TheVariants.{Function}
use Rattle.cr_meaning.specs.declared.op.Form.TheVariants as form
use Rattle.cr_meaning.specs.declared.op.Work.{Work}
use Rattle.cr_meaning.specs.declared.op.Work.TheVariants as work
use Rattle.cr_meaning_soundness.specs.Sorts.{IsAmong}
use Rattle.cr_meaning_soundness.specs.Scopes.{IsPart, is_open}
use Rattle.cr_meaning_orders.specs.Owned.{objects_of, hands_on, AreOwned}

abbrev op : List ℕ → Work → Op
op parts work = record { parts = parts; work = work; access = access.Unused }

-- { int y; return 1; } is the body of a function, which is called in an operand; the object of y is that of node 0
abbrev ops : List ℕ → List Op
ops objects =
    op [] (work.Declare 0)
    ∷ op (0 ∷ []) work.Declaration
    ∷ op [] (work.Constant Int (pos 1))
    ∷ op (2 ∷ []) (work.Return (form.Number Int))
    ∷ op (1 ∷ 3 ∷ []) (work.Block objects [])
    ∷ op [] (work.Call (Function [] 4 false))
    ∷ []

abbrev table : List ℕ → Program
table objects = record { ops = ops objects; shape = λ node. []; literal = λ node. None; kinds = λ row. []; limits = record { steps = 60; depth = 4; cells = 100; output = 100 } }

abbrev owns : ℕ → ℕ → Bool
owns zero zero = true
owns (suc zero) zero = true
owns node declared = false

one : {A : Type 0} {a b : A} → Some a ≡ Some b → a ≡ b
one e = cc

abbrev Handed : ℕ → Op → ℕ → ℕ → ℕ → Type 0
Handed node o k part declared = IsPart o.work o.parts k part → owns part declared ≡ true
    → ((hands_on o.work ≡ true) × (owns node declared ≡ true)) ⊎ ((is_open o.work o.parts (suc k) ≡ true) × IsAmong declared (objects_of o.work))

of_op : (node : ℕ) (x o : Op) (k part declared : ℕ) → Some x ≡ Some o → Handed node x k part declared → Handed node o k part declared
of_op node x o k part declared e h = let F : Op → Type 0 = λ z. Handed node z k part declared in subst F (one e) h

-- where the block enters the object
handed : (node : ℕ) (o : Op) (k part declared : ℕ) → slice_get (ops (0 ∷ [])) node ≡ Some o → Handed node o k part declared
handed zero o k part declared e = of_op 0 _ o k part declared e (λ is own. absurd (no_part k part is))
  where
    no_part : (k part : ℕ) → slice_get [] k ≡ Some part → ⊥
    no_part zero part e = cc
    no_part (suc k) part e = cc
handed (suc zero) o k part declared e = of_op 1 _ o k part declared e (λ is own. inl (refl, declares k part declared is own))
  where
    declares : (k part declared : ℕ) → slice_get (0 ∷ []) k ≡ Some part → owns part declared ≡ true → owns 1 declared ≡ true
    declares k part zero is own = refl
    declares zero part (suc declared) is own = let F : ℕ → Type 0 = λ x. owns x (suc declared) ≡ true in absurd (false≢true (subst F (sym (one is)) own))
    declares (suc zero) part (suc declared) is own = absurd cc
    declares (suc (suc k)) part (suc declared) is own = absurd cc
handed (suc (suc zero)) o k part declared e = of_op 2 _ o k part declared e (λ is own. absurd (no_part k part is))
  where
    no_part : (k part : ℕ) → slice_get [] k ≡ Some part → ⊥
    no_part zero part e = cc
    no_part (suc k) part e = cc
handed (suc (suc (suc zero))) o k part declared e = of_op 3 _ o k part declared e (λ is own. absurd (quiet k part declared is own))
  where
    quiet : (k part declared : ℕ) → slice_get (2 ∷ []) k ≡ Some part → owns part declared ≡ true → ⊥
    quiet zero part declared is own = let F : ℕ → Type 0 = λ x. owns x declared ≡ true in false≢true (subst F (sym (one is)) own)
    quiet (suc zero) part declared is own = cc
    quiet (suc (suc k)) part declared is own = cc
handed (suc (suc (suc (suc zero)))) o k part declared e = of_op 4 _ o k part declared e (λ is own. items k part declared is own)
  where
    here : (declared : ℕ) → owns 1 declared ≡ true → IsAmong declared (0 ∷ [])
    here zero own = inl refl
    here (suc declared) own = absurd (false≢true own)

    items : (k part declared : ℕ) → (let w : Work = work.Block (0 ∷ []) [] in IsPart w (1 ∷ 3 ∷ []) k part) → owns part declared ≡ true
        → ((true ≡ true) × (owns 4 declared ≡ true)) ⊎ ((true ≡ true) × IsAmong declared (0 ∷ []))
    items zero part declared is own = absurd is
    items (suc zero) part declared is own = let F : ℕ → Type 0 = λ x. owns x declared ≡ true in inr (refl, here declared (subst F (sym (one is)) own))
    items (suc (suc zero)) part declared is own = let F : ℕ → Type 0 = λ x. owns x declared ≡ true in absurd (false≢true (subst F (sym (one is)) own))
    items (suc (suc (suc zero))) part declared is own = absurd cc
    items (suc (suc (suc (suc k)))) part declared is own = absurd cc
handed (suc (suc (suc (suc (suc zero))))) o k part declared e = of_op 5 _ o k part declared e (λ is own. absurd (quiet k part declared is own))
  where
    quiet : (k part declared : ℕ) → (slice_get [] k ≡ Some part) ⊎ ((k ≡ 0) × (4 ≡ part)) → owns part declared ≡ true → ⊥
    quiet zero part declared (inl is) own = cc
    quiet (suc k) part declared (inl is) own = cc
    quiet k part declared (inr is) own = let F : ℕ → Type 0 = λ x. owns x declared ≡ true in false≢true (subst F (sym is.1) own)
handed (suc (suc (suc (suc (suc (suc zero)))))) o k part declared e = absurd cc
handed (suc (suc (suc (suc (suc (suc (suc node))))))) o k part declared e = absurd cc

is_work : (x o : Op) (w : Work) → Some x ≡ Some o → o.work ≡ w → x.work ≡ w
is_work x o w e f = ap (λ (z : Op). z.work) (one e) ∙ f

declares : (node declared : ℕ) (o : Op) → slice_get (ops (0 ∷ [])) node ≡ Some o → o.work ≡ work.Declare declared → owns node declared ≡ true
declares zero declared o e f =
    let same : work.Declare 0 ≡ work.Declare declared = is_work _ o (work.Declare declared) e f in
    let number : 0 ≡ declared = cc in
    let F : ℕ → Type 0 = λ x. owns 0 x ≡ true in subst F number refl
declares (suc zero) declared o e f = let never : work.Declaration ≡ work.Declare declared = is_work _ o (work.Declare declared) e f in absurd cc
declares (suc (suc zero)) declared o e f = let never : work.Constant Int (pos 1) ≡ work.Declare declared = is_work _ o (work.Declare declared) e f in absurd cc
declares (suc (suc (suc zero))) declared o e f = let never : work.Return (form.Number Int) ≡ work.Declare declared = is_work _ o (work.Declare declared) e f in absurd cc
declares (suc (suc (suc (suc zero)))) declared o e f = let never : work.Block (0 ∷ []) [] ≡ work.Declare declared = is_work _ o (work.Declare declared) e f in absurd cc
declares (suc (suc (suc (suc (suc zero))))) declared o e f = let never : work.Call (Function [] 4 false) ≡ work.Declare declared = is_work _ o (work.Declare declared) e f in absurd cc
declares (suc (suc (suc (suc (suc (suc zero)))))) declared o e f = absurd cc
declares (suc (suc (suc (suc (suc (suc (suc node))))))) declared o e f = absurd cc

initialises : (node declared : ℕ) (lines : List Line) (o : Op) → slice_get (ops (0 ∷ [])) node ≡ Some o → o.work ≡ work.Initialise declared lines → owns node declared ≡ true
initialises zero declared lines o e f = let never : work.Declare 0 ≡ work.Initialise declared lines = is_work _ o (work.Initialise declared lines) e f in absurd cc
initialises (suc zero) declared lines o e f = let never : work.Declaration ≡ work.Initialise declared lines = is_work _ o (work.Initialise declared lines) e f in absurd cc
initialises (suc (suc zero)) declared lines o e f = let never : work.Constant Int (pos 1) ≡ work.Initialise declared lines = is_work _ o (work.Initialise declared lines) e f in absurd cc
initialises (suc (suc (suc zero))) declared lines o e f = let never : work.Return (form.Number Int) ≡ work.Initialise declared lines = is_work _ o (work.Initialise declared lines) e f in absurd cc
initialises (suc (suc (suc (suc zero)))) declared lines o e f = let never : work.Block (0 ∷ []) [] ≡ work.Initialise declared lines = is_work _ o (work.Initialise declared lines) e f in absurd cc
initialises (suc (suc (suc (suc (suc zero))))) declared lines o e f = let never : work.Call (Function [] 4 false) ≡ work.Initialise declared lines = is_work _ o (work.Initialise declared lines) e f in absurd cc
initialises (suc (suc (suc (suc (suc (suc zero)))))) declared lines o e f = absurd cc
initialises (suc (suc (suc (suc (suc (suc (suc node))))))) declared lines o e f = absurd cc

is_owned : AreOwned (table (0 ∷ [])) owns
is_owned = record {
  declares = λ node declared o e f. declares node declared o e f;
  initialises = λ node declared lines o e f. initialises node declared lines o e f;
  parts = λ node o k part declared e is own. handed node o k part declared e is own;
}

-- a function that declares an object which its own block doesn't enter: no table of declarators is such
refused : (owns : ℕ → ℕ → Bool) → AreOwned (table []) owns → ⊥
refused owns h = body (h.parts 5 _ 0 4 0 refl (inr (refl, refl)) (block (h.parts 4 _ 1 1 0 refl refl (declaration (h.parts 1 _ 0 0 0 refl refl (h.declares 0 0 _ refl refl))))))
  where
    declaration : ((true ≡ true) × (owns 1 0 ≡ true)) ⊎ ((false ≡ true) × ⊥) → owns 1 0 ≡ true
    declaration (inl i) = i.1
    declaration (inr i) = absurd i.1

    block : ((true ≡ true) × (owns 4 0 ≡ true)) ⊎ ((true ≡ true) × ⊥) → owns 4 0 ≡ true
    block (inl i) = i.1
    block (inr i) = absurd i.1

    body : ((false ≡ true) × (owns 5 0 ≡ true)) ⊎ ((true ≡ true) × ⊥) → ⊥
    body (inl i) = false≢true i.0
    body (inr i) = i.1
