-- The declarator of an initialised one has a name (C11 6.7.6).
use Rattle.std.proofs.Common.{◌≡◌, ℕ, zero, suc, ◌+◌, ◌<◌, Bool, true, false, List, [], ◌∷◌, Some, slice_get, refl, sym, subst, ap, ◌∙◌, arith, if◌then◌else◌}
use Rattle.std.proofs.lemmas.Bool.{false≢true, lt-ltb}
use Rattle.std.proofs.lemmas.Option.{same_Some}
use Rattle.cr_syntax.specs.Words.{Lexeme}
use Rattle.cr_syntax.specs.Trees.{Trees, none, node as tree_node}
use Rattle.cr_syntax.specs.declared.node.Kind.{Kind}
use Rattle.cr_syntax.specs.declared.node.Kind.TheVariants as kind
use Rattle.cr_syntax.specs.declared.node.Node.{Node}
use Rattle.cr_syntax.specs.declared.part.Part.TheVariants as part
use Rattle.cr_syntax.specs.Tables.{rule_of, side_of}
use Rattle.cr_syntax.specs.Kept.{row_in}
use Rattle.cr_syntax.proofs.Arena.{row_at}
use Rattle.cr_syntax_nodes.specs.Laid.{stands_for, IsLaid}
use Rattle.cr_scopes_events.specs.Values.{before}
use Rattle.cr_scopes_events.specs.Declarators.{nowhere, in_first, declared_by, declared_if, declarator_of}
use Rattle.cr_scopes_events.proofs.Descents.{declarator_ruled}
use Rattle.cr_typed.specs.declared.typed.Typed.{Typed}
use Rattle.cr_meaning_declarations.proofs.UnitsLemmas.Handing.{laid_at}
use Rattle.cr_meaning_declarations.specs.Declared.Files.{IsUnitOfFile}
use Rattle.cr_meaning_declarations.proofs.DeclaredLemmas.Files.{has_unit}
use Rattle.cr_meaning_objects.proofs.ChainedLemmas.Known.{nodes_are, there}
use Rattle.cr_meaning_objects.specs.Composed.Laws
use Rattle.cr_meaning_references.proofs.TreesLemmas.Shaped.{shaped}

-- what is derived from a declarator
abbrev derives : Kind → Bool
derives kind.InitDeclarator = true
derives kind.PointerDeclarator = true
derives kind.GroupDeclarator = true
derives kind.ArrayDeclarator = true
derives kind.FunctionDeclarator = true
derives k = false

-- a declarator that isn't abstract
abbrev is_naming : Kind → Bool
is_naming kind.NameDeclarator = true
is_naming kind.PointerDeclarator = true
is_naming kind.GroupDeclarator = true
is_naming kind.ArrayDeclarator = true
is_naming kind.FunctionDeclarator = true
is_naming k = false

declarator : (k : Kind) → stands_for part.Declarator k ≡ true → is_naming k ≡ true
unfolding rule_of
declarator kind.NameDeclarator h = refl
declarator kind.PointerDeclarator h = refl
declarator kind.GroupDeclarator h = refl
declarator kind.ArrayDeclarator h = refl
declarator kind.FunctionDeclarator h = refl
declarator k h = absurd (false≢true h)

direct : (k : Kind) → stands_for part.DirectDeclarator k ≡ true → is_naming k ≡ true
unfolding rule_of
direct kind.NameDeclarator h = refl
direct kind.GroupDeclarator h = refl
direct kind.ArrayDeclarator h = refl
direct kind.FunctionDeclarator h = refl
direct k h = absurd (false≢true h)

empty : (k : Kind) → derives k ≡ true → (ts : List Lexeme) (i j : ℕ) → IsLaid ts (side_of k) none i j → ⊥
unfolding rule_of
empty kind.InitDeclarator d ts i j l = l
empty kind.PointerDeclarator d ts i j l = l.1
empty kind.GroupDeclarator d ts i j l = l.1
empty kind.ArrayDeclarator d ts i j l = l
empty kind.FunctionDeclarator d ts i j l = l
empty k d ts i j l = absurd (false≢true d)

begins : (k : Kind) → derives k ≡ true → (ts : List Lexeme) (c : Kind) (a b : ℕ) (v u : Trees) (i j : ℕ) → IsLaid ts (side_of k) (tree_node c a b v u) i j → is_naming c ≡ true
unfolding rule_of
begins kind.InitDeclarator d ts c a b v u i j l = declarator c l.0.0
begins kind.PointerDeclarator d ts c a b v u i j l = declarator c l.1.1.0
begins kind.GroupDeclarator d ts c a b v u i j l = declarator c l.1.0.0
begins kind.ArrayDeclarator d ts c a b v u i j l = direct c l.0.0
begins kind.FunctionDeclarator d ts c a b v u i j l = direct c l.0.0
begins k d ts c a b v u i j l = absurd (false≢true d)

module _ (file : List ℕ) (t : Typed) (it : IsUnitOfFile file t) where
  open has_unit file t it use {unit}

  record HasFirst (a : ℕ) (n : Node) : Type 0 where
    first : ℕ
    rest : List ℕ
    is : n.parts ≡ first ∷ rest
    node : Node
    at : slice_get t.nodes first ≡ Some node
    naming : is_naming node.kind ≡ true
    below : first < a

  first_there : (a : ℕ) (n : Node) → slice_get t.nodes a ≡ Some n → derives n.kind ≡ true → HasFirst a n
  first_there a n at d = by n.parts refl
    where
      by : (ps : List ℕ) → n.parts ≡ ps → HasFirst a n
      by [] e = absurd (empty n.kind d unit.tokens n.first (n.last + 1) (subst (λ ps. IsLaid unit.tokens (side_of n.kind) (row_in t.nodes ps) n.first (n.last + 1)) e (laid_at t unit a n at)))
      by (p ∷ rest) e =
          let x = (shaped file t it).parts a n (there file t it a n at) 0 p (ap (λ ps. slice_get ps 0) e) in
          let own : slice_get t.nodes p ≡ Some x.own = ap (λ ns. slice_get ns p) (nodes_are file t it) ∙ x.at in
          record {
            first = p;
            rest = rest;
            is = e;
            node = x.own;
            at = own;
            naming = begins n.kind d unit.tokens x.own.kind x.own.first (x.own.last + 1) (row_in t.nodes x.own.parts) (row_in t.nodes rest) n.first (n.last + 1)
                (subst (λ u. IsLaid unit.tokens (side_of n.kind) u n.first (n.last + 1)) (ap (row_in t.nodes) e ∙ row_at t.nodes unit.below p x.own rest own) (laid_at t unit a n at));
            below = x.below;
          }

  -- what a node declares, by its kind
  ruled : (a : ℕ) (n : Node) → slice_get t.nodes a ≡ Some n → (k : Kind) → n.kind ≡ k → (declarator_of t.nodes a).name ≡ (declared_by k (before nowhere a (declarator_of t.nodes)) a n).name
  ruled a n at k is =
      ap (λ d. d.name) (declarator_ruled t.nodes a) ∙ ap (λ o. (declared_if o (before nowhere a (declarator_of t.nodes)) a).name) at
      ∙ ap (λ c. (declared_by c (before nowhere a (declarator_of t.nodes)) a n).name) is

  inner : (a : ℕ) (n : Node) (h : HasFirst a n) → (in_first (before nowhere a (declarator_of t.nodes)) n.parts).name ≡ (declarator_of t.nodes h.first).name
  inner a n h =
      ap (λ ps. (in_first (before nowhere a (declarator_of t.nodes)) ps).name) h.is
      ∙ ap (λ b. (if b then declarator_of t.nodes h.first else nowhere).name) (lt-ltb h.first a h.below)

  abbrev Named : ℕ → Type 0
  Named a = (token : ℕ) × ((declarator_of t.nodes a).name ≡ Some token)

  named : (fuel a : ℕ) (n : Node) → a < fuel → slice_get t.nodes a ≡ Some n → is_naming n.kind ≡ true → Named a
  named zero a n low at h = absurd (omega (arith, low))
  named (suc fuel) a n low at h = by n.kind refl h (λ x. (let less = x.below in named fuel x.first x.node (omega (arith, low, less)) x.at x.naming))
    where
      through : derives n.kind ≡ true → ((x : HasFirst a n) → (declarator_of t.nodes a).name ≡ (declarator_of t.nodes x.first).name) → ((x : HasFirst a n) → Named x.first) → Named a
      through d f rest =
          let x = first_there a n at d in
          let own = rest x in
          (own.0, f x ∙ own.1)

      by : (k : Kind) → n.kind ≡ k → is_naming k ≡ true → ((x : HasFirst a n) → Named x.first) → Named a
      by kind.NameDeclarator is g rest = (n.first, ruled a n at kind.NameDeclarator is)
      by kind.PointerDeclarator is g rest = through (ap derives is) (λ x. ruled a n at kind.PointerDeclarator is ∙ inner a n x) rest
      by kind.GroupDeclarator is g rest = through (ap derives is) (λ x. ruled a n at kind.GroupDeclarator is ∙ inner a n x) rest
      by kind.ArrayDeclarator is g rest = through (ap derives is) (λ x. ruled a n at kind.ArrayDeclarator is ∙ inner a n x) rest
      by kind.FunctionDeclarator is g rest = through (ap derives is) (λ x. ruled a n at kind.FunctionDeclarator is ∙ inner a n x) rest
      by k is g rest = absurd (false≢true g)

pub has_name : Laws.InitialisersHaveNames
has_name file t it i q n at is first =
    let x = first_there file t it i n at (ap derives is) in
    let same : x.first ≡ q = same_Some x.first q (sym (ap (λ ps. slice_get ps 0) x.is) ∙ first) in
    subst (Named file t it) same (named file t it (suc x.first) x.first x.node (omega arith) x.at x.naming)
