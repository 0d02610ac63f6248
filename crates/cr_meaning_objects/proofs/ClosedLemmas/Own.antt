-- The list of parameters next to a declared name, by nodes and by trees (C11 6.7.6.3).
use Rattle.std.proofs.Common.{◌≡◌, ℕ, zero, suc, ◌+◌, ◌<◌, ◌≤◌, Bool, true, false, List, [], ◌∷◌, None, Some, length, slice_get, slice_index, refl, sym, ap, subst, ◌∙◌, arith, if◌then◌else◌}
use Rattle.std.proofs.lemmas.Bool.{lt-ltb}
use Rattle.std.proofs.lemmas.Option.{slice_get_within}
use Rattle.cr_syntax.specs.declared.node.Kind.{Kind}
use Rattle.cr_syntax.specs.declared.node.Kind.TheVariants as kind
use Rattle.cr_syntax.specs.declared.node.Node.{Node}
use Rattle.cr_syntax.specs.Context.{is_bare}
use Rattle.cr_syntax.specs.Kept.{PartsAreBelow, row_in}
use Rattle.cr_syntax.specs.Trees.{Trees, node as tree_node}
use Rattle.cr_syntax.specs.Units.{own_parameters, after_first}
use Rattle.cr_syntax.proofs.Arena.{row_at}
use Rattle.cr_syntax_nodes.specs.Nodes.{Rises}
use Rattle.cr_syntax_nodes.proofs.Made.{forth}
use Rattle.cr_syntax_nodes.proofs.Numbers.{some_at}
use Rattle.cr_scopes_events.specs.declared.declarator.Derivation.{Derivation}
use Rattle.cr_scopes_events.specs.declared.declarator.Derivation.TheVariants.{Nothing, Function, Other}
use Rattle.cr_scopes_events.specs.declared.declarator.Declarator.{Declarator}
use Rattle.cr_scopes_events.specs.Values.{before}
use Rattle.cr_scopes_events.specs.Declarators.{nowhere, innermost, in_first, declared_by, declared_if, declarator_of}
use Rattle.cr_scopes_events.proofs.Descents.{declarator_ruled}
use Rattle.cr_meaning_declarations.proofs.NamesLemmas.Leaves.{opened}

module _ (nodes : List Node) (low : PartsAreBelow nodes) (rise : (k : ℕ) (n : Node) → slice_get nodes k ≡ Some n → Rises n.first (n.last + 1) (row_in nodes n.parts)) where
  abbrev pub tree_with : Node → Trees → Trees
  tree_with n rest = tree_node n.kind n.first (n.last + 1) (row_in nodes n.parts) rest

  -- the parameters of the declarator l are those that stand next to the name
  pub record IsOwn (n : Node) (l : ℕ) : Type 0 where
    pub own : Node
    pub at : slice_get nodes l ≡ Some own
    pub list : (rest : Trees) → own_parameters (tree_with n rest) ≡ after_first (row_in nodes own.parts)
    pub inside : own.last ≤ n.last

  abbrev IsGood : Node → Derivation → Type 0
  IsGood n Nothing = (rest : Trees) → is_bare (tree_with n rest) ≡ true
  IsGood n (Function l) = ((rest : Trees) → is_bare (tree_with n rest) ≡ false) × IsOwn n l
  IsGood n Other = (rest : Trees) → is_bare (tree_with n rest) ≡ false

  -- the first part of a node, which has a name
  record HasInner (n : Node) (d : Declarator) : Type 0 where
    inner : Node
    rest : List ℕ
    row : row_in nodes n.parts ≡ tree_with inner (row_in nodes rest)
    good : IsGood inner d.next
    last : inner.last ≤ n.last

  abbrev Goes : ℕ → Type 0
  Goes p = (n : Node) → slice_get nodes p ≡ Some n → (token : ℕ) → (declarator_of nodes p).name ≡ Some token → IsGood n (declarator_of nodes p).next

  inner_at : (p : ℕ) (n : Node) → slice_get nodes p ≡ Some n → ((b : ℕ) → b < p → Goes b) → (token : ℕ) → (in_first (before nowhere p (declarator_of nodes)) n.parts).name ≡ Some token
      → HasInner n (in_first (before nowhere p (declarator_of nodes)) n.parts)
  inner_at p n at goes token e = by n.parts refl e
    where
      by : (ps : List ℕ) → n.parts ≡ ps → (in_first (before nowhere p (declarator_of nodes)) ps).name ≡ Some token → HasInner n (in_first (before nowhere p (declarator_of nodes)) n.parts)
      by [] f g = let never : None ≡ Some token = g in absurd cc
      by (b ∷ ps) f g = record {
        inner = x.0;
        rest = ps;
        row = row_is;
        good = subst (λ (d : Declarator). IsGood x.0 d.next) (sym (ap (in_first (before nowhere p (declarator_of nodes))) f ∙ here)) (goes b less x.0 x.1 token (ap (λ (d : Declarator). d.name) (sym here) ∙ g));
        last = (let o = opened (subst (Rises n.first (n.last + 1)) row_is (rise p n at)) in let h = forth o.1.1 in omega (arith, h));
      }
        where
          less : b < p
          less =
              let G : List ℕ → Type 0 = λ ps. (i : ℕ) → i < length ps → slice_index ps i < p in
              subst G f (low p n at) 0 (omega arith)

          x : (x : Node) × (slice_get nodes b ≡ Some x)
          x = let w = slice_get_within nodes p n at in let l = less in some_at nodes b (omega (arith, l, w))

          here : before nowhere p (declarator_of nodes) b ≡ declarator_of nodes b
          here = ap (λ c. if c then declarator_of nodes b else nowhere) (lt-ltb b p less)

          row_is : row_in nodes n.parts ≡ tree_with x.0 (row_in nodes ps)
          row_is = ap (row_in nodes) f ∙ row_at nodes low b x.0 ps x.1

  -- ---- by the kind of a node around

  module _ (n : Node) (d : Declarator) (h : HasInner n d) where
    abbrev a : Trees
    a = row_in nodes n.parts

    bare_same : is_bare a ≡ is_bare (tree_with h.inner (row_in nodes h.rest))
    bare_same = ap is_bare h.row

    -- what hands the list on
    on : (l : ℕ) → IsOwn h.inner l → ((rest : Trees) → own_parameters (tree_with n rest) ≡ own_parameters a) → IsOwn n l
    on l o same = record {
      own = o.own;
      at = o.at;
      list = λ rest. same rest ∙ ap own_parameters h.row ∙ o.list (row_in nodes h.rest);
      inside = (let x = o.inside in let y = h.last in omega (arith, x, y));
    }

    in_group : n.kind ≡ kind.GroupDeclarator → (y : Derivation) → IsGood h.inner y → IsGood n (innermost Nothing y)
    in_group is Nothing g = λ rest. ap (λ k. is_bare (tree_node k n.first (n.last + 1) a rest)) is ∙ bare_same ∙ g (row_in nodes h.rest)
    in_group is (Function l) g = (
      λ rest. ap (λ k. is_bare (tree_node k n.first (n.last + 1) a rest)) is ∙ bare_same ∙ g.0 (row_in nodes h.rest),
      on l g.1 (λ rest. ap (λ k. own_parameters (tree_node k n.first (n.last + 1) a rest)) is),
    )
    in_group is Other g = λ rest. ap (λ k. is_bare (tree_node k n.first (n.last + 1) a rest)) is ∙ bare_same ∙ g (row_in nodes h.rest)

    in_pointer : n.kind ≡ kind.PointerDeclarator → (y : Derivation) → IsGood h.inner y → IsGood n (innermost Other y)
    in_pointer is Nothing g = λ rest. ap (λ k. is_bare (tree_node k n.first (n.last + 1) a rest)) is
    in_pointer is (Function l) g = (
      λ rest. ap (λ k. is_bare (tree_node k n.first (n.last + 1) a rest)) is,
      on l g.1 (λ rest. ap (λ k. own_parameters (tree_node k n.first (n.last + 1) a rest)) is),
    )
    in_pointer is Other g = λ rest. ap (λ k. is_bare (tree_node k n.first (n.last + 1) a rest)) is

    in_array : n.kind ≡ kind.ArrayDeclarator → (y : Derivation) → IsGood h.inner y → IsGood n (innermost Other y)
    in_array is Nothing g = λ rest. ap (λ k. is_bare (tree_node k n.first (n.last + 1) a rest)) is
    in_array is (Function l) g = (
      λ rest. ap (λ k. is_bare (tree_node k n.first (n.last + 1) a rest)) is,
      on l g.1 (λ rest. ap (λ k. own_parameters (tree_node k n.first (n.last + 1) a rest)) is),
    )
    in_array is Other g = λ rest. ap (λ k. is_bare (tree_node k n.first (n.last + 1) a rest)) is

    abbrev either : Bool → Trees
    either b = if b then after_first a else own_parameters a

    in_function : (p : ℕ) → slice_get nodes p ≡ Some n → n.kind ≡ kind.FunctionDeclarator → (y : Derivation) → IsGood h.inner y → IsGood n (innermost (Function p) y)
    in_function p at is Nothing g = (
      λ rest. ap (λ k. is_bare (tree_node k n.first (n.last + 1) a rest)) is,
      record {
        own = n;
        at = at;
        list = λ rest. ap (λ k. own_parameters (tree_node k n.first (n.last + 1) a rest)) is ∙ ap either (bare_same ∙ g (row_in nodes h.rest));
        inside = omega arith;
      },
    )
    in_function p at is (Function l) g = (
      λ rest. ap (λ k. is_bare (tree_node k n.first (n.last + 1) a rest)) is,
      on l g.1 (λ rest. ap (λ k. own_parameters (tree_node k n.first (n.last + 1) a rest)) is ∙ ap either (bare_same ∙ g.0 (row_in nodes h.rest))),
    )
    in_function p at is Other g = λ rest. ap (λ k. is_bare (tree_node k n.first (n.last + 1) a rest)) is

  by_kind : (p : ℕ) (n : Node) → slice_get nodes p ≡ Some n → ((b : ℕ) → b < p → Goes b) → (token : ℕ) (k : Kind) → n.kind ≡ k
      → (declared_by k (before nowhere p (declarator_of nodes)) p n).name ≡ Some token → IsGood n (declared_by k (before nowhere p (declarator_of nodes)) p n).next
  by_kind p n at goes token kind.NameDeclarator is e = λ rest. ap (λ k. is_bare (tree_node k n.first (n.last + 1) (row_in nodes n.parts) rest)) is
  by_kind p n at goes token kind.GroupDeclarator is e = let h = inner_at p n at goes token e in in_group n (in_first (before nowhere p (declarator_of nodes)) n.parts) h is (in_first (before nowhere p (declarator_of nodes)) n.parts).next h.good
  by_kind p n at goes token kind.PointerDeclarator is e = let h = inner_at p n at goes token e in in_pointer n (in_first (before nowhere p (declarator_of nodes)) n.parts) h is (in_first (before nowhere p (declarator_of nodes)) n.parts).next h.good
  by_kind p n at goes token kind.ArrayDeclarator is e = let h = inner_at p n at goes token e in in_array n (in_first (before nowhere p (declarator_of nodes)) n.parts) h is (in_first (before nowhere p (declarator_of nodes)) n.parts).next h.good
  by_kind p n at goes token kind.FunctionDeclarator is e =
      let h = inner_at p n at goes token e in in_function n (in_first (before nowhere p (declarator_of nodes)) n.parts) h p at is (in_first (before nowhere p (declarator_of nodes)) n.parts).next h.good
  by_kind p n at goes token k is e = let never : None ≡ Some token = e in absurd cc

  goes : (fuel p : ℕ) → p < fuel → Goes p
  goes zero p few n at token e = absurd (omega (arith, few))
  goes (suc fuel) p few n at token e =
      let full : declarator_of nodes p ≡ declared_by n.kind (before nowhere p (declarator_of nodes)) p n = declarator_ruled nodes p ∙ ap (λ o. declared_if o (before nowhere p (declarator_of nodes)) p) at in
      subst (λ (d : Declarator). IsGood n d.next) (sym full) (by_kind p n at (λ b less. goes fuel b (omega (arith, few, less))) token n.kind refl (ap (λ (d : Declarator). d.name) (sym full) ∙ e))

  pub own_list : (p l token : ℕ) (n : Node) → slice_get nodes p ≡ Some n → (declarator_of nodes p).name ≡ Some token → (declarator_of nodes p).next ≡ Function l → IsOwn n l
  own_list p l token n at e next = (subst (IsGood n) next (goes (suc p) p (omega arith) n at token e)).1
