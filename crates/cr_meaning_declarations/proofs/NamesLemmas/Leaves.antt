-- A declared identifier is the own name of one node: no other node is named by its token.
use Rattle.std.proofs.Common.{◌≡◌, ℕ, ◌+◌, ◌<◌, ◌≤◌, Bool, true, false, List, [], ◌∷◌, Some, length, slice_get, slice_index, ◌⊎◌, inl, inr, refl, sym, ap, subst, ◌∙◌, arith}
use Rattle.std.proofs.lemmas.Bool.{cases_lt, false≢true}
use Rattle.std.proofs.lemmas.Option.{slice_get_within}
use Rattle.cr_syntax.specs.declared.node.Kind.{Kind}
use Rattle.cr_syntax.specs.declared.node.Kind.TheVariants as kind
use Rattle.cr_syntax.specs.declared.node.Node.{Node}
use Rattle.cr_syntax.specs.declared.part.Part.{Part}
use Rattle.cr_syntax.specs.declared.part.Part.TheVariants as part
use Rattle.cr_syntax.specs.Words.{Lexeme}
use Rattle.cr_syntax.specs.Tables.{rule_of, side_of}
use Rattle.cr_syntax.specs.Kept.{PartsAreBelow, row_in}
use Rattle.cr_syntax.specs.Trees.{Trees, none, node as tree_node}
use Rattle.cr_syntax.proofs.Arena.{row_at}
use Rattle.cr_syntax_order.specs.Listed.{AreListed, no_node, one_more}
use Rattle.cr_syntax_nodes.specs.Nodes.{Rises, one_more as rises_more}
use Rattle.cr_syntax_nodes.specs.Laid.{IsLaid, AreInList}
use Rattle.cr_syntax_nodes.proofs.Made.{forth, made_in, rises}
use Rattle.cr_syntax_nodes.proofs.Numbers.{some_at, occurs}
use Rattle.cr_typed.specs.declared.typed.Typed.{Typed}
use Rattle.cr_meaning_declarations.specs.Units.Owned.{AreOfUnit}
use Rattle.cr_meaning_declarations.proofs.UnitsLemmas.Handing.{laid_at}
use Rattle.cr_scopes_linkage.specs.Shared.Origins.{is_tagged}

-- what stands at one number
pub same_at : (ns : List Node) (p k : ℕ) (n m : Node) → p ≡ k → slice_get ns p ≡ Some n → slice_get ns k ≡ Some m → n ≡ m
same_at ns p k n m e at here = let is : Some n ≡ Some m = sym at ∙ ap (slice_get ns) e ∙ here in cc

pub opened : {k : Kind} {i j a b : ℕ} {t u : Trees} → Rises i j (tree_node k a b t u) → (i ≤ a) × ((a ≤ b) × Rises b j u)
opened (rises_more le le' r) = (le, (le', r))

none_listed : {ns : List Node} {a b : ℕ} → AreListed ns a [] b → a ≡ b
none_listed no_node = refl

module _ (ns : List Node) (f : PartsAreBelow ns) (rise : (k : ℕ) (n : Node) → slice_get ns k ≡ Some n → Rises n.first (n.last + 1) (row_in ns n.parts)) where
  -- node k is among the nodes below node l
  abbrev IsBelow : ℕ → ℕ → Node → Type 0
  IsBelow k l n = (first : ℕ) × (AreListed ns first n.parts l × (first ≤ k))

  -- of two nodes from one number to before another, the first ends before the second begins or is below it
  record AreApart (from end i j : ℕ) : Type 0 where
    inside : (k : ℕ) (m : Node) → from ≤ k → k < end → slice_get ns k ≡ Some m → (i ≤ m.first) × (m.last < j)
    pairs : (k l : ℕ) (m n : Node) → from ≤ k → k < l → l < end → slice_get ns k ≡ Some m → slice_get ns l ≡ Some n → (m.last < n.first) ⊎ IsBelow k l n

  one_apart : {from p end i j : ℕ} {n : Node} → slice_get ns p ≡ Some n → AreListed ns from n.parts p → i ≤ n.first → n.first ≤ n.last + 1 → n.last + 1 ≤ j → AreApart from p n.first (n.last + 1)
      → AreApart (p + 1) end (n.last + 1) j → AreApart from end i j
  one_apart {from = from} {p = p} {end = end} {i = i} {j = j} {n = n} at below begin forward stop inner outer = record {
    inside = λ k m low high here. elim (cases_lt k p) [
      | inl less ↦ (let b = inner.inside k m low less here in (omega (arith, begin, b.0), omega (arith, stop, b.1)))
      | inr ge ↦ elim (cases_lt p k) [
        | inl more ↦ (let b = outer.inside k m (omega (arith, more)) high here in (omega (arith, begin, forward, b.0), b.1))
        | inr le ↦ (let is : n ≡ m = same_at ns p k n m (omega (arith, ge, le)) at here in subst (λ (x : Node). (i ≤ x.first) × (x.last < j)) is (begin, omega (arith, stop)))
      ]
    ];
    pairs = λ k l m o low less high here there. elim (cases_lt l p) [
      | inl under ↦ inner.pairs k l m o low less under here there
      | inr ge ↦ elim (cases_lt p l) [
        | inr le ↦ (let e : p ≡ l = omega (arith, ge, le) in
            let is : n ≡ o = same_at ns p l n o e at there in
            inr (from, (subst (λ x. AreListed ns from o.parts x) e (subst (λ (x : Node). AreListed ns from x.parts p) is below), low)))
        | inl above ↦ elim (cases_lt p k) [
          | inl beyond ↦ outer.pairs k l m o (omega (arith, beyond)) less high here there
          | inr low-k ↦ (let b = outer.inside l o (omega (arith, above)) high there in inl (ends k m low low-k here (λ x. omega (arith, b.0, x))))
        ]
      ]
    ];
  }
    where
      -- what stands up to the node ends with it
      ends : {P : Type 0} (k : ℕ) (m : Node) → from ≤ k → k ≤ p → slice_get ns k ≡ Some m → (m.last ≤ n.last → P) → P
      ends k m low le here g = elim (cases_lt k p) [
        | inl less ↦ (let b = inner.inside k m low less here in g (omega (arith, b.1)))
        | inr ge ↦ (let is : n ≡ m = same_at ns p k n m (omega (arith, ge, le)) at here in g (subst (λ (x : Node). x.last ≤ n.last) is (omega arith)))
      ]

  apart_of : {from end i j : ℕ} {ps : List ℕ} → AreListed ns from ps end → Rises i j (row_in ns ps) → AreApart from end i j
  apart_of no_node r = record { inside = λ k m low high here. absurd (omega (arith, low, high)); pairs = λ k l m n low less high here there. absurd (omega (arith, low, less, high)) }
  apart_of {i = i} {j = j} (one_more {p = p} {ps = ps} {n = n} at below rest) r =
      let o = opened (subst (λ t. Rises i j t) (row_at ns f p n ps at) r) in
      one_apart at below o.0 o.1.0 (forth o.1.1) (apart_of below (rise p n at)) (apart_of rest o.1.1)

  -- nothing is below a node without parts, and what is below another begins with its first part or behind that
  none_below : (k l : ℕ) (n : Node) → n.parts ≡ [] → k < l → IsBelow k l n → ⊥
  none_below k l n e less below =
      let same : below.0 ≡ l = none_listed (subst (λ ps. AreListed ns below.0 ps l) e below.1.0) in
      let le = below.1.1 in
      absurd (omega (arith, same, le, less))

  first_below : (k l : ℕ) (m n : Node) → slice_get ns k ≡ Some m → slice_get ns l ≡ Some n → k < l → IsBelow k l n → (q : ℕ) (rest : List ℕ) (x : Node) → n.parts ≡ q ∷ rest → slice_get ns q ≡ Some x
      → x.first ≤ m.first
  first_below k l m n here there less below q rest x e at =
      let row : row_in ns n.parts ≡ tree_node x.kind x.first (x.last + 1) (row_in ns x.parts) (row_in ns rest) = ap (row_in ns) e ∙ row_at ns f q x rest at in
      let o = opened (subst (λ t. Rises n.first (n.last + 1) t) row (rise l n there)) in
      let again : Rises x.first (n.last + 1) (row_in ns n.parts) = subst (λ t. Rises x.first (n.last + 1) t) (sym row) (rises_more (omega arith) o.1.0 o.1.1) in
      ((apart_of below.1.0 again).inside k m below.1.1 less here).0

  -- a node of one token, and another whose parts begin behind that token
  pub one_node : {j : ℕ} {items : List ℕ} → AreListed ns 0 items (length ns) → Rises 0 j (row_in ns items) → (k l : ℕ) (n m : Node) (t : ℕ) → slice_get ns k ≡ Some n → n.parts ≡ [] → n.first ≡ t → n.last ≡ t
      → slice_get ns l ≡ Some m → m.first ≤ t → t ≤ m.last → ((q : ℕ) (rest : List ℕ) (x : Node) → m.parts ≡ q ∷ rest → slice_get ns q ≡ Some x → t < x.first) → k ≡ l
  one_node listed r k l n m t here alone first last there begins ends behind = elim (cases_lt k l) [
    | inl less ↦ absurd (before less ((apart_of listed r).pairs k l n m (omega arith) less (let w = slice_get_within ns l m there in omega (arith, w)) here there))
    | inr ge ↦ elim (cases_lt l k) [
      | inl more ↦ absurd (after more ((apart_of listed r).pairs l k m n (omega arith) more (let w = slice_get_within ns k n here in omega (arith, w)) there here))
      | inr le ↦ omega (arith, ge, le)
    ]
  ]
    where
      within : (q : ℕ) (rest : List ℕ) → m.parts ≡ q ∷ rest → q < length ns
      within q rest e =
          let G : List ℕ → Type 0 = λ ps. (i : ℕ) → i < length ps → slice_index ps i < l in
          let b : q < l = subst G e (f l m there) 0 (omega arith) in
          let w = slice_get_within ns l m there in
          omega (arith, b, w)

      by_parts : k < l → IsBelow k l m → (ps : List ℕ) → m.parts ≡ ps → ⊥
      by_parts less below [] e = none_below k l m e less below
      by_parts less below (q ∷ rest) e =
          let x = some_at ns q (within q rest e) in
          let le = first_below k l n m here there less below q rest x.0 e x.1 in
          let more = behind q rest x.0 e x.1 in
          absurd (omega (arith, le, more, first))

      before : k < l → (n.last < m.first) ⊎ IsBelow k l m → ⊥
      before less (inl x) = absurd (omega (arith, x, last, begins))
      before less (inr below) = by_parts less below m.parts refl

      after : l < k → (m.last < n.first) ⊎ IsBelow l k n → ⊥
      after more (inl x) = absurd (omega (arith, x, first, ends))
      after more (inr below) = none_below l k n alone more below

-- ---- kinds with a name

-- those whose parts begin behind the second token, if there are any
abbrev pub is_named : Kind → Bool
is_named kind.Identifier = true
is_named kind.Call = true
is_named kind.TypedefName = true
is_named kind.NameDeclarator = true
is_named kind.StructTag = true
is_named kind.EnumTag = true
is_named kind.StructContent = true
is_named kind.EnumContent = true
is_named kind.Enumerator = true
is_named other = false

-- an identifier is used
abbrev pub is_use : Kind → Bool
is_use kind.Identifier = true
is_use kind.Call = true
is_use kind.TypedefName = true
is_use other = false

pub list_first : (ts : List Lexeme) (p : Part) (k : Kind) (a b : ℕ) (t u : Trees) (i : ℕ) → AreInList ts p (tree_node k a b t u) i → a ≡ i
list_first ts p k a b t none i h = h.1
list_first ts p k a b t (tree_node l c d v w) i h = h.0.1

pub header : (ts : List Lexeme) (of : Kind) (k : Kind) (a b : ℕ) (t u : Trees) (i j : ℕ) → is_named of ≡ true → IsLaid ts (side_of of) (tree_node k a b t u) i j → i + 1 < a
unfolding rule_of
header ts kind.Identifier k a b t u i j n h = absurd h.1
header ts kind.TypedefName k a b t u i j n h = absurd h.1
header ts kind.NameDeclarator k a b t u i j n h = absurd h.1
header ts kind.StructTag k a b t u i j n h = absurd h.1.1
header ts kind.EnumTag k a b t u i j n h = absurd h.1.1
header ts kind.Call k a b t u i j n h = let e = list_first ts part.Assignment k a b t u (i + 1 + 1) h.1.1.0 in omega (arith, e)
header ts kind.StructContent k a b t u i j n h = elim h.1 [ inl x ↦ (let e = x.1.0.1 in omega (arith, e)) | inr x ↦ (let e = x.1.1.0.1 in omega (arith, e)) ]
header ts kind.EnumContent k a b t u i j n h = elim h.1 [
  | inl x ↦ (let e = list_first ts part.Enumerator k a b t u (i + 1 + 1) x.1.0 in omega (arith, e))
  | inr x ↦ (let e = list_first ts part.Enumerator k a b t u (i + 1 + 1 + 1) x.1.1.0 in omega (arith, e))
]
header ts kind.Enumerator k a b t u i j n h = let e = h.1.1.0.1 in omega (arith, e)
header ts of k a b t u i j n h = absurd (false≢true n)

pub two_tokens : (ts : List Lexeme) (of : Kind) (u : Trees) (i j : ℕ) → is_tagged of ≡ true → IsLaid ts (side_of of) u i j → Rises i j u → i + 1 < j
unfolding rule_of
two_tokens ts kind.StructTag none i j n h r = let e = h.1.1 in omega (arith, e)
two_tokens ts kind.StructTag (tree_node k a b t u) i j n h r = absurd h.1.1
two_tokens ts kind.EnumTag none i j n h r = let e = h.1.1 in omega (arith, e)
two_tokens ts kind.EnumTag (tree_node k a b t u) i j n h r = absurd h.1.1
two_tokens ts kind.StructContent none i j n h r = elim h.1 [ inl x ↦ absurd x.1 | inr x ↦ absurd x.1.1 ]
two_tokens ts kind.StructContent (tree_node k a b t u) i j n h r =
    let less = header ts kind.StructContent k a b t u i j refl h in let o = opened r in let more = o.1.0 in let end = forth o.1.1 in omega (arith, less, more, end)
two_tokens ts kind.EnumContent none i j n h r = elim h.1 [ inl x ↦ absurd x.1.0 | inr x ↦ absurd x.1.1.0 ]
two_tokens ts kind.EnumContent (tree_node k a b t u) i j n h r =
    let less = header ts kind.EnumContent k a b t u i j refl h in let o = opened r in let more = o.1.0 in let end = forth o.1.1 in omega (arith, less, more, end)
two_tokens ts of u i j n h r = absurd (false≢true n)

-- an identifier that is declared, or used as an expression, has no parts, and one token
abbrev pub is_word : Kind → Bool
is_word kind.NameDeclarator = true
is_word kind.Identifier = true
is_word other = false

none_laid : (ts : List Lexeme) (of : Kind) (l : Kind) (a b : ℕ) (v u : Trees) (i j : ℕ) → is_word of ≡ true → IsLaid ts (side_of of) (tree_node l a b v u) i j → ⊥
unfolding rule_of
none_laid ts kind.NameDeclarator l a b v u i j w h = h.1
none_laid ts kind.Identifier l a b v u i j w h = h.1
none_laid ts of l a b v u i j w h = absurd (false≢true w)

one_laid : (ts : List Lexeme) (of : Kind) (i j : ℕ) → is_word of ≡ true → IsLaid ts (side_of of) none i (j + 1) → j ≡ i
unfolding rule_of
one_laid ts kind.NameDeclarator i j w h = let e = h.1 in omega (arith, e)
one_laid ts kind.Identifier i j w h = let e = h.1 in omega (arith, e)
one_laid ts of i j w h = absurd (false≢true w)

-- ---- of a unit

module _ (t : Typed) (unit : AreOfUnit t) (listed : AreListed t.nodes 0 t.items (length t.nodes)) where
  rise_at : (k : ℕ) (n : Node) → slice_get t.nodes k ≡ Some n → Rises n.first (n.last + 1) (row_in t.nodes n.parts)
  rise_at k n q = rises (made_in unit.is_unit.spells (occurs t.nodes unit.below t.items unit.once unit.are (length t.nodes) k n (omega arith) q)).spells

  -- such an identifier has no parts, and one token
  pub word_alone : (k : ℕ) (n : Node) → slice_get t.nodes k ≡ Some n → is_word n.kind ≡ true → (n.parts ≡ []) × (n.last ≡ n.first)
  word_alone k n at is = by n.parts refl
    where
      laid : IsLaid unit.tokens (side_of n.kind) (row_in t.nodes n.parts) n.first (n.last + 1)
      laid = laid_at t unit k n at

      never : (q : ℕ) (rest : List ℕ) (x : Node) → n.parts ≡ q ∷ rest → slice_get t.nodes q ≡ Some x → ⊥
      never q rest x e there =
          let row = ap (row_in t.nodes) e ∙ row_at t.nodes unit.below q x rest there in
          none_laid unit.tokens n.kind x.kind x.first (x.last + 1) (row_in t.nodes x.parts) (row_in t.nodes rest) n.first (n.last + 1) is
          (subst (λ u. IsLaid unit.tokens (side_of n.kind) u n.first (n.last + 1)) row laid)

      by : (ps : List ℕ) → n.parts ≡ ps → (n.parts ≡ []) × (n.last ≡ n.first)
      by [] e = (e, one_laid unit.tokens n.kind n.first n.last is (subst (λ ps. IsLaid unit.tokens (side_of n.kind) (row_in t.nodes ps) n.first (n.last + 1)) e laid))
      by (q ∷ rest) e =
          let G : List ℕ → Type 0 = λ ps. (i : ℕ) → i < length ps → slice_index ps i < k in
          let b : q < k = subst G e (unit.below k n at) 0 (omega arith) in
          let w = slice_get_within t.nodes k n at in
          let x = some_at t.nodes q (omega (arith, b, w)) in
          absurd (never q rest x.0 e x.1)

  -- a node named by its token is that one
  pub word_once : (k l : ℕ) (n m : Node) (token : ℕ) → slice_get t.nodes k ≡ Some n → is_word n.kind ≡ true → n.first ≡ token → slice_get t.nodes l ≡ Some m → is_named m.kind ≡ true
      → m.first ≤ token → token ≤ m.first + 1 → token ≤ m.last → k ≡ l
  word_once k l n m token here is first there named low high ends =
      let one = word_alone k n here is in
      one_node t.nodes unit.below rise_at listed (rises unit.is_unit.spells) k l n m token here one.0 first (one.1 ∙ first) there low ends
      (λ q rest x e at.
      let row = ap (row_in t.nodes) e ∙ row_at t.nodes unit.below q x rest at in
      let h = subst (λ u. IsLaid unit.tokens (side_of m.kind) u m.first (m.last + 1)) row (laid_at t unit l m there) in
      let less = header unit.tokens m.kind x.kind x.first (x.last + 1) (row_in t.nodes x.parts) (row_in t.nodes rest) m.first (m.last + 1) named h in
      omega (arith, less, high))

  pub name_alone : (k : ℕ) (n : Node) → slice_get t.nodes k ≡ Some n → n.kind ≡ kind.NameDeclarator → (n.parts ≡ []) × (n.last ≡ n.first)
  name_alone k n at is = word_alone k n at (ap is_word is)

  -- as that of a declared identifier
  pub named_once : (k l : ℕ) (n m : Node) (token : ℕ) → slice_get t.nodes k ≡ Some n → n.kind ≡ kind.NameDeclarator → n.first ≡ token → slice_get t.nodes l ≡ Some m → is_named m.kind ≡ true
      → m.first ≤ token → token ≤ m.first + 1 → token ≤ m.last → k ≡ l
  named_once k l n m token here is first there named low high ends = word_once k l n m token here (ap is_word is) first there named low high ends

  -- so the token of a tag isn't one
  pub no_tag : (k l : ℕ) (n m : Node) → slice_get t.nodes k ≡ Some n → n.kind ≡ kind.NameDeclarator → slice_get t.nodes l ≡ Some m → is_tagged m.kind ≡ true → m.first + 1 ≡ n.first → ⊥
  no_tag k l n m here is there tagged e =
      let wide = two_tokens unit.tokens m.kind (row_in t.nodes m.parts) m.first (m.last + 1) tagged (laid_at t unit l m there) (rise_at l m there) in
      let same : k ≡ l = named_once k l n m n.first here is refl there (tagged_named m.kind tagged) (omega (arith, e)) (omega (arith, e)) (omega (arith, e, wide)) in
      let one : n ≡ m = same_at t.nodes k l n m same here there in
      false≢true (ap is_tagged (sym is ∙ ap (λ (x : Node). x.kind) one) ∙ tagged)
    where
      tagged_named : (k : Kind) → is_tagged k ≡ true → is_named k ≡ true
      tagged_named kind.StructTag h = refl
      tagged_named kind.EnumTag h = refl
      tagged_named kind.StructContent h = refl
      tagged_named kind.EnumContent h = refl
      tagged_named k h = absurd (false≢true h)

  -- nor is that of a use
  pub no_use : (k l : ℕ) (n m : Node) → slice_get t.nodes k ≡ Some n → n.kind ≡ kind.NameDeclarator → slice_get t.nodes l ≡ Some m → is_use m.kind ≡ true → m.first ≡ n.first → ⊥
  no_use k l n m here is there used e =
      let w = (unit.within l m there).0 in
      let same : k ≡ l = named_once k l n m n.first here is refl there (use_named m.kind used) (omega (arith, e)) (omega (arith, e)) (omega (arith, e, w)) in
      let one : n ≡ m = same_at t.nodes k l n m same here there in
      false≢true (ap is_use (sym is ∙ ap (λ (x : Node). x.kind) one) ∙ used)
    where
      use_named : (k : Kind) → is_use k ≡ true → is_named k ≡ true
      use_named kind.Identifier h = refl
      use_named kind.Call h = refl
      use_named kind.TypedefName h = refl
      use_named k h = absurd (false≢true h)
