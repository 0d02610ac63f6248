-- What a declarator reaches by its first parts: its name, and the function declarator next to it.
use Rattle.std.proofs.Common.{◌≡◌, ℕ, zero, suc, ◌-◌, ◌<◌, ◌⊎◌, inl, inr, Bool, true, false, List, [], ◌∷◌, Option, None, Some, nat_lt, slice_get, refl, sym, ap, subst, ◌∙◌, arith}
use Rattle.std.specs.Prelude.{if◌then◌else◌}
use Rattle.std.proofs.lemmas.Bool.{ltb-true}
use Rattle.cr_syntax.specs.declared.node.Kind.{Kind}
use Rattle.cr_syntax.specs.declared.node.Kind.TheVariants as kind
use Rattle.cr_syntax.specs.declared.node.Node.{Node}
use Rattle.cr_scopes_events.specs.declared.declarator.Derivation.{Derivation}
use Rattle.cr_scopes_events.specs.declared.declarator.Derivation.TheVariants as derivation
use Rattle.cr_scopes_events.specs.declared.declarator.Declarator.{Declarator}
use Rattle.cr_scopes_events.specs.Values.{before}
use Rattle.cr_scopes_events.specs.Declarators.{nowhere, innermost, in_first, derived, declared_by, declared_if, declarator_of}
use Rattle.cr_scopes_events.proofs.Descents.{declarator_ruled}

-- a declarator around another
abbrev pub is_deriving : Kind → Bool
is_deriving kind.GroupDeclarator = true
is_deriving kind.PointerDeclarator = true
is_deriving kind.ArrayDeclarator = true
is_deriving kind.FunctionDeclarator = true
is_deriving other = false

module _ (nodes : List Node) where
  -- ---- declarators, from the whole one to the name

  -- what a property that goes from a declarator to its first part says of the name, and of the function declarator next to it
  pub record Reaches (P : ℕ → Type 0) (d : Declarator) : Type 0 where
    pub name : (x : ℕ) → d.name ≡ Some x → (b : ℕ) × ((m : Node) × ((slice_get nodes b ≡ Some m) × (((m.kind ≡ kind.NameDeclarator) × (m.first ≡ x)) × P b)))
    pub next : (l : ℕ) → d.next ≡ derivation.Function l → (m : Node) × ((slice_get nodes l ≡ Some m) × ((m.kind ≡ kind.FunctionDeclarator) × P l))

  module _ (P : ℕ → Type 0) (goes : (a b : ℕ) (m : Node) → slice_get nodes a ≡ Some m → is_deriving m.kind ≡ true → slice_get m.parts 0 ≡ Some b → P a → P b) where
    reaches_nowhere : Reaches P nowhere
    reaches_nowhere = record { name = λ x e. (let never : None ≡ Some x = e in absurd cc); next = λ l e. (let never : derivation.Nothing ≡ derivation.Function l = e in absurd cc) }

    around : (outer : Derivation) (d : Declarator) → Reaches P d → ((l : ℕ) → outer ≡ derivation.Function l → (m : Node) × ((slice_get nodes l ≡ Some m) × ((m.kind ≡ kind.FunctionDeclarator) × P l))) → Reaches P (derived outer d)
    around outer d h own = record { name = h.name; next = λ l e. by d.next refl e }
      where
        by : (x : Derivation) → d.next ≡ x → {l : ℕ} → innermost outer x ≡ derivation.Function l → (m : Node) × ((slice_get nodes l ≡ Some m) × ((m.kind ≡ kind.FunctionDeclarator) × P l))
        by derivation.Nothing q {l = l} e = own l e
        by (derivation.Function f) q {l = l} e = h.next l (q ∙ e)
        by derivation.Other q {l = l} e = let never : derivation.Other ≡ derivation.Function l = e in absurd cc

    abbrev Inner : ℕ → Type 0
    Inner a = (b : ℕ) → b < a → P b → Reaches P (declarator_of nodes b)

    first_reaches : (a : ℕ) (m : Node) → slice_get nodes a ≡ Some m → is_deriving m.kind ≡ true → P a → Inner a → (ps : List ℕ) → m.parts ≡ ps → Reaches P (in_first (before nowhere a (declarator_of nodes)) ps)
    first_reaches a m at derives p rest [] e = reaches_nowhere
    first_reaches a m at derives p rest (b ∷ ps) e = by (nat_lt b a) refl
      where
        by : (c : Bool) → nat_lt b a ≡ c → Reaches P (if c then declarator_of nodes b else nowhere)
        by true q = rest b (ltb-true b a q) (goes a b m at derives (ap (λ l. slice_get l 0) e) p)
        by false q = reaches_nowhere

    no_function : (outer : Derivation) → (outer ≡ derivation.Nothing) ⊎ (outer ≡ derivation.Other) → (l : ℕ) → outer ≡ derivation.Function l → (m : Node) × ((slice_get nodes l ≡ Some m) × ((m.kind ≡ kind.FunctionDeclarator) × P l))
    no_function outer (inl x) l e = let never : derivation.Nothing ≡ derivation.Function l = sym x ∙ e in absurd cc
    no_function outer (inr x) l e = let never : derivation.Other ≡ derivation.Function l = sym x ∙ e in absurd cc

    kind_reaches : (a : ℕ) (m : Node) → slice_get nodes a ≡ Some m → P a → Inner a → (k : Kind) → m.kind ≡ k → Reaches P (declared_by k (before nowhere a (declarator_of nodes)) a m)
    kind_reaches a m at p rest kind.NameDeclarator e = record {
      name = λ x f. (let same : m.first ≡ x = cc in (a, (m, (at, ((e, same), p)))));
      next = λ l f. (let never : derivation.Nothing ≡ derivation.Function l = f in absurd cc);
    }
    kind_reaches a m at p rest kind.GroupDeclarator e =
        around derivation.Nothing (in_first (before nowhere a (declarator_of nodes)) m.parts) (first_reaches a m at (ap is_deriving e) p rest m.parts refl) (no_function derivation.Nothing (inl refl))
    kind_reaches a m at p rest kind.PointerDeclarator e =
        around derivation.Other (in_first (before nowhere a (declarator_of nodes)) m.parts) (first_reaches a m at (ap is_deriving e) p rest m.parts refl) (no_function derivation.Other (inr refl))
    kind_reaches a m at p rest kind.ArrayDeclarator e =
        around derivation.Other (in_first (before nowhere a (declarator_of nodes)) m.parts) (first_reaches a m at (ap is_deriving e) p rest m.parts refl) (no_function derivation.Other (inr refl))
    kind_reaches a m at p rest kind.FunctionDeclarator e =
        around (derivation.Function a) (in_first (before nowhere a (declarator_of nodes)) m.parts) (first_reaches a m at (ap is_deriving e) p rest m.parts refl)
        (λ l f. (let same : a ≡ l = cc in subst (λ x. (y : Node) × ((slice_get nodes x ≡ Some y) × ((y.kind ≡ kind.FunctionDeclarator) × P x))) same (m, (at, (e, p)))))
    kind_reaches a m at p rest k e = reaches_nowhere

    reaches_if : (a : ℕ) → P a → Inner a → (o : Option Node) → slice_get nodes a ≡ o → Reaches P (declared_if o (before nowhere a (declarator_of nodes)) a)
    reaches_if a p rest None at = reaches_nowhere
    reaches_if a p rest (Some m) at = kind_reaches a m at p rest m.kind refl

    reaches_by : (fuel a : ℕ) → a < fuel → P a → Reaches P (declarator_of nodes a)
    reaches_by zero a low p = absurd (omega (arith, low))
    reaches_by (suc fuel) a low p =
        subst (Reaches P) (sym (declarator_ruled nodes a)) (reaches_if a p (λ b less q. reaches_by fuel b (omega (arith, low, less)) q) (slice_get nodes a) refl)

    pub reaches : (a : ℕ) → P a → Reaches P (declarator_of nodes a)
    reaches a p = reaches_by (suc a) a (omega arith) p
