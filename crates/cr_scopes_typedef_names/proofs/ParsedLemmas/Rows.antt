-- Rows of trees, and the nodes that they are of.
use Rattle.std.proofs.Common.{◌≡◌, ℕ, zero, suc, ◌+◌, ◌<◌, List, [], ◌∷◌, Some, length, slice_get, refl, sym, ap, subst, ◌∙◌, arith}
use Rattle.cr_syntax.specs.declared.node.Kind.{Kind}
use Rattle.cr_syntax.specs.declared.node.Node.{Node}
use Rattle.cr_syntax.specs.declared.part.Part.{Part}
use Rattle.cr_syntax.specs.declared.part.Context.{Context}
use Rattle.cr_syntax.specs.Words.{Lexeme}
use Rattle.cr_syntax.specs.Scopes.{Scopes}
use Rattle.cr_syntax.specs.Trees.{Trees, none, node, one, ◌&◌}
use Rattle.cr_syntax.specs.Kept.{AreBelow, PartsAreBelow, row_in}
use Rattle.cr_syntax.specs.Spells.{Limit, Spells, a}
use Rattle.cr_syntax.specs.Spells as spells
use Rattle.cr_syntax.proofs.Arena.{below_first, below_rest, row_at}

-- a part is one tree
pub data Single : Trees → Type 0 where
  single : {k : Kind} {i j : ℕ} {b : Trees} → Single (one k i j b)

pub part_single : {ts : List Lexeme} {limit : Limit} {p : Part} {h : Context} {c e : Scopes} {d i j : ℕ} {t : Trees} → Spells ts limit (a p) h c e d t i j → Single t
part_single (spells.of_alternative m f s) = single
part_single (spells.of_chain m f s) = part_single s
part_single (spells.init_declarator_alone s) = part_single s
part_single (spells.parameter_declarator s) = part_single s
part_single (spells.member_declarator s) = part_single s

pub some_at : (ns : List Node) (p : ℕ) → p < length ns → (m : Node) × (slice_get ns p ≡ Some m)
some_at [] p lt = absurd (omega (arith, lt))
some_at (n ∷ ns) zero lt = (n, refl)
some_at (n ∷ ns) (suc p) lt = some_at ns p (omega (arith, lt))

-- what the first of a row says of a tree
abbrev head_kind : Kind → Trees → Kind
head_kind k none = k
head_kind k (node l i j b n) = l

abbrev head_first : Trees → ℕ
head_first none = 0
head_first (node l i j b n) = i

abbrev head_end : Trees → ℕ
head_end none = 0
head_end (node l i j b n) = j

abbrev head_parts : Trees → Trees
head_parts none = none
head_parts (node l i j b n) = b

abbrev tail : Trees → Trees
tail none = none
tail (node l i j b n) = n

abbrev is_node : Trees → Type 0
is_node none = ⊥
is_node (node l i j b n) = Unit {0}

module _ (nodes : List Node) (low : PartsAreBelow nodes) where
  -- node q is the tree
  pub record IsNode (q : ℕ) (k : Kind) (i j : ℕ) (b : Trees) : Type 0 where
    pub own : Node
    pub at : slice_get nodes q ≡ Some own
    pub kind : own.kind ≡ k
    pub first : own.first ≡ i
    pub parts : row_in nodes own.parts ≡ b
    pub below : AreBelow own.parts q
    pub within : AreBelow own.parts (length nodes)

  pub node_of : {q i j : ℕ} {k : Kind} {b : Trees} → q < length nodes → row_in nodes (q ∷ []) ≡ one k i j b → IsNode q k i j b
  node_of {q = q} {i = i} {j = j} {k = k} {b = b} lt e =
      let x = some_at nodes q lt in
      let is : node x.0.kind x.0.first (x.0.last + 1) (row_in nodes x.0.parts) none ≡ one k i j b = sym (row_at nodes low q x.0 [] x.1) ∙ e in
      record {
        own = x.0;
        at = x.1;
        kind = ap (head_kind k) is;
        first = ap head_first is;
        parts = ap head_parts is;
        below = low q x.0 x.1;
        within = λ m l. (let z = low q x.0 x.1 m l in omega (arith, z, lt));
      }

  -- a row's first node, and what stands behind it
  pub record Parted (ps : List ℕ) (t u : Trees) : Type 0 where
    pub first : ℕ
    pub others : List ℕ
    pub is : ps ≡ first ∷ others
    pub within : first < length nodes
    pub rest : AreBelow others (length nodes)
    pub tree : row_in nodes (first ∷ []) ≡ t
    pub trees : row_in nodes others ≡ u

  part_row : (k : Kind) (i j : ℕ) (b u : Trees) (ps : List ℕ) → AreBelow ps (length nodes) → row_in nodes ps ≡ node k i j b u → Parted ps (one k i j b) u
  part_row k i j b u [] under e = absurd (subst is_node (sym e) tt)
  part_row k i j b u (q ∷ qs) under e =
      let lt = below_first q qs (length nodes) under in
      let x = some_at nodes q lt in
      let is : node x.0.kind x.0.first (x.0.last + 1) (row_in nodes x.0.parts) (row_in nodes qs) ≡ node k i j b u = sym (row_at nodes low q x.0 qs x.1) ∙ e in
      let k-is : x.0.kind ≡ k = ap (head_kind k) is in
      let i-is : x.0.first ≡ i = ap head_first is in
      let j-is : x.0.last + 1 ≡ j = ap head_end is in
      let b-is : row_in nodes x.0.parts ≡ b = ap head_parts is in
      record {
        first = q;
        others = qs;
        is = refl;
        within = lt;
        rest = below_rest q qs (length nodes) under;
        tree =
            row_at nodes low q x.0 [] x.1
            ∙ ap (λ y. node y x.0.first (x.0.last + 1) (row_in nodes x.0.parts) none) k-is
            ∙ ap (λ y. node k y (x.0.last + 1) (row_in nodes x.0.parts) none) i-is
            ∙ ap (λ y. node k i y (row_in nodes x.0.parts) none) j-is
            ∙ ap (λ y. node k i j y none) b-is;
        trees = ap tail is;
      }

  pub parted : {t : Trees} (u : Trees) (ps : List ℕ) → Single t → AreBelow ps (length nodes) → row_in nodes ps ≡ (t & u) → Parted ps t u
  parted u ps (single {k = k} {i = i} {j = j} {b = b}) under e = part_row k i j b u ps under e

  -- a row without trees
  pub no_row : (ps : List ℕ) → AreBelow ps (length nodes) → row_in nodes ps ≡ none → ps ≡ []
  no_row [] under e = refl
  no_row (q ∷ qs) under e =
      let x = some_at nodes q (below_first q qs (length nodes) under) in
      absurd (subst is_node (sym (row_at nodes low q x.0 qs x.1) ∙ e) tt)

  -- a row of one tree
  pub one_row : {t : Trees} (ps : List ℕ) → Single t → AreBelow ps (length nodes) → row_in nodes ps ≡ t → Parted ps t none
  one_row ps (single {k = k} {i = i} {j = j} {b = b}) under e = part_row k i j b none ps under e

  -- the first part of a node, and the parts behind it
  pub record FirstPart (ps : List ℕ) (q : ℕ) (t u : Trees) : Type 0 where
    pub first : ℕ
    pub others : List ℕ
    pub is : ps ≡ first ∷ others
    pub lower : first < q
    pub within : first < length nodes
    pub tree : row_in nodes (first ∷ []) ≡ t
    pub under : AreBelow others q
    pub rest : AreBelow others (length nodes)
    pub trees : row_in nodes others ≡ u

  pub first_part : {t : Trees} (u : Trees) (ps : List ℕ) (q : ℕ) → Single t → AreBelow ps q → AreBelow ps (length nodes) → row_in nodes ps ≡ (t & u) → FirstPart ps q t u
  first_part u ps q alone under within e =
      let x = parted u ps alone within e in
      let here = subst (λ rs. AreBelow rs q) x.is under in
      record {
        first = x.first;
        others = x.others;
        is = x.is;
        lower = below_first x.first x.others q here;
        within = x.within;
        tree = x.tree;
        under = below_rest x.first x.others q here;
        rest = x.rest;
        trees = x.trees;
      }

  -- the only part of a node
  pub record OnlyPart (ps : List ℕ) (q : ℕ) (t : Trees) : Type 0 where
    pub first : ℕ
    pub is : ps ≡ first ∷ []
    pub lower : first < q
    pub within : first < length nodes
    pub tree : row_in nodes (first ∷ []) ≡ t

  pub only_part : {t : Trees} (ps : List ℕ) (q : ℕ) → Single t → AreBelow ps q → AreBelow ps (length nodes) → row_in nodes ps ≡ t → OnlyPart ps q t
  only_part ps q alone under within e =
      let x = one_row ps alone within e in
      let is : ps ≡ x.first ∷ [] = x.is ∙ ap (λ rs. x.first ∷ rs) (no_row x.others x.rest x.trees) in
      record { first = x.first; is = is; lower = below_first x.first [] q (subst (λ rs. AreBelow rs q) is under); within = x.within; tree = x.tree }

  -- the last part, with no trees behind it
  pub last_part : {t : Trees} (ps : List ℕ) (q : ℕ) → Single t → AreBelow ps q → AreBelow ps (length nodes) → row_in nodes ps ≡ (t & none) → OnlyPart ps q t
  last_part ps q alone under within e =
      let x = first_part none ps q alone under within e in
      let is : ps ≡ x.first ∷ [] = x.is ∙ ap (λ rs. x.first ∷ rs) (no_row x.others x.rest x.trees) in
      record { first = x.first; is = is; lower = x.lower; within = x.within; tree = x.tree }
