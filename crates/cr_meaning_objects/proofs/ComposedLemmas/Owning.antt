-- The name of an initialised declarator is the identifier that its declarator declares (C11 6.7.6p4).
use Rattle.std.proofs.Common.{◌≡◌, ℕ, zero, suc, ◌<◌, Bool, true, false, List, [], ◌∷◌, Option, None, Some, length, nat_lt, slice_get, slice_index_or, refl, sym, subst, ap, ◌∙◌, arith, if◌then◌else◌}
use Rattle.std.proofs.lemmas.Bool.{ltb-true}
use Rattle.std.proofs.lemmas.Option.{slice_get_within, same_Some}
use Rattle.cr_syntax.specs.declared.node.Kind.{Kind}
use Rattle.cr_syntax.specs.declared.node.Kind.TheVariants as kind
use Rattle.cr_syntax.specs.declared.node.Node.{Node}
use Rattle.cr_scopes_events.specs.Values.{before}
use Rattle.cr_scopes_events.specs.Declarators.{nowhere, in_first, declared_by, declared_if, declarator_of}
use Rattle.cr_scopes_events.proofs.Descents.{declarator_ruled}
use Rattle.cr_typed.specs.declared.typed.Typed.{Typed}
use Rattle.cr_meaning_operations.specs.Operations.{kind_if, parts_if, is_name, name_by, name_of}
use Rattle.cr_meaning_objects.proofs.ChainedLemmas.Known.{there}
use Rattle.cr_meaning_objects.specs.Composed.Laws
use Rattle.cr_meaning_references.proofs.TreesLemmas.Shaped.{shaped}

first_or : (ps : List ℕ) (q : ℕ) → slice_get ps 0 ≡ Some q → slice_index_or ps 0 0 ≡ q
first_or [] q e = absurd cc
first_or (x ∷ ps) q e = same_Some x q e

module _ (t : Typed) (token : ℕ) where
  record HasName (own : ℕ) : Type 0 where
    node : Node
    at : slice_get t.nodes own ≡ Some node
    is : node.kind ≡ kind.NameDeclarator
    first : node.first ≡ token

  abbrev Rest : ℕ → Type 0
  Rest m = (b : ℕ) → b < m → (declarator_of t.nodes b).name ≡ Some token → HasName (name_by m t b)

  of_first : (m a : ℕ) (ps : List ℕ) → a < suc m → (in_first (before nowhere a (declarator_of t.nodes)) ps).name ≡ Some token → Rest m → HasName (name_by m t (slice_index_or ps 0 0))
  of_first m a [] low e rest = absurd cc
  of_first m a (b ∷ ps) low e rest = by (nat_lt b a) refl e
    where
      by : (c : Bool) → nat_lt b a ≡ c → (if c then declarator_of t.nodes b else nowhere).name ≡ Some token → HasName (name_by m t b)
      by true q f = let less = ltb-true b a q in rest b (omega (arith, less, low)) f
      by false q f = absurd cc

  step : (m a : ℕ) (n : Node) → slice_get t.nodes a ≡ Some n → is_name n.kind ≡ false → name_by (suc m) t a ≡ name_by m t (slice_index_or n.parts 0 0)
  step m a n at plain =
      ap (λ o. if is_name (kind_if o) then a else name_by m t (slice_index_or (parts_if o) 0 0)) at
      ∙ ap (λ b. if b then a else name_by m t (slice_index_or n.parts 0 0)) plain

  of_kind : (m a : ℕ) (n : Node) → slice_get t.nodes a ≡ Some n → a < suc m → (k : Kind) → n.kind ≡ k → (declared_by k (before nowhere a (declarator_of t.nodes)) a n).name ≡ Some token → Rest m
      → HasName (name_by (suc m) t a)
  of_kind m a n at low kind.NameDeclarator is e rest =
      let same : n.first ≡ token = cc in
      subst HasName
      (sym
      (ap (λ o. if is_name (kind_if o) then a else name_by m t (slice_index_or (parts_if o) 0 0)) at
      ∙ ap (λ k. if is_name k then a else name_by m t (slice_index_or n.parts 0 0)) is)) (record { node = n; at = at; is = is; first = same })
  of_kind m a n at low kind.GroupDeclarator is e rest = subst HasName (sym (step m a n at (ap is_name is))) (of_first m a n.parts low e rest)
  of_kind m a n at low kind.PointerDeclarator is e rest = subst HasName (sym (step m a n at (ap is_name is))) (of_first m a n.parts low e rest)
  of_kind m a n at low kind.ArrayDeclarator is e rest = subst HasName (sym (step m a n at (ap is_name is))) (of_first m a n.parts low e rest)
  of_kind m a n at low kind.FunctionDeclarator is e rest = subst HasName (sym (step m a n at (ap is_name is))) (of_first m a n.parts low e rest)
  of_kind m a n at low k is e rest = absurd cc

  of_node : (m a : ℕ) → a < suc m → (o : Option Node) → slice_get t.nodes a ≡ o → (declared_if o (before nowhere a (declarator_of t.nodes)) a).name ≡ Some token → Rest m → HasName (name_by (suc m) t a)
  of_node m a low None at e rest = absurd cc
  of_node m a low (Some n) at e rest = of_kind m a n at low n.kind refl e rest

  named : (m a : ℕ) → a < m → (declarator_of t.nodes a).name ≡ Some token → HasName (name_by m t a)
  named zero a low e = absurd (omega (arith, low))
  named (suc m) a low e = of_node m a low (slice_get t.nodes a) refl (subst (λ d. d.name ≡ Some token) (declarator_ruled t.nodes a) e) (λ b less f. named m b less f)

  module _ (i q : ℕ) (n : Node) (at : slice_get t.nodes i ≡ Some n) (is : n.kind ≡ kind.InitDeclarator) (first : slice_get n.parts 0 ≡ Some q) (below : q < i) (name : (declarator_of t.nodes q).name ≡ Some token) where
    by_fuel : (m : ℕ) → i < m → HasName (name_by m t i)
    by_fuel zero low = absurd (omega (arith, low))
    by_fuel (suc m) low = subst HasName (sym (step m i n at (ap is_name is) ∙ ap (name_by m t) (first_or n.parts q first))) (named m q (omega (arith, low, below)) name)

    of_initialised : HasName (name_of t i)
    of_initialised = by_fuel (length t.nodes) (slice_get_within t.nodes i n at)

pub name_there : Laws.InitialisersNameTheirTokens
name_there file t it i q token n at is first name =
    let x = of_initialised t token i q n at is first ((shaped file t it).parts i n (there file t it i n at) 0 q first).below name in
    (x.node, (x.at, (x.is, x.first)))
