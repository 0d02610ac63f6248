-- Nodes with a name of their own have different tokens: what is below such a node begins behind its name.
use Rattle.std.proofs.Common.{◌≡◌, ℕ, ◌+◌, ◌<◌, ◌≤◌, true, List, [], ◌∷◌, Some, length, slice_get, slice_index, inl, inr, refl, sym, ap, subst, ◌∙◌, arith}
use Rattle.std.proofs.lemmas.Bool.{cases_lt}
use Rattle.std.proofs.lemmas.Option.{slice_get_within}
use Rattle.cr_syntax.specs.declared.node.Kind.{Kind}
use Rattle.cr_syntax.specs.declared.node.Kind.TheVariants as kind
use Rattle.cr_syntax.specs.declared.node.Node.{Node}
use Rattle.cr_syntax.specs.Words.{Lexeme}
use Rattle.cr_syntax.specs.Tables.{side_of}
use Rattle.cr_syntax.specs.Kept.{PartsAreBelow, row_in}
use Rattle.cr_syntax.specs.Trees.{node as tree_node}
use Rattle.cr_syntax.proofs.Arena.{row_at}
use Rattle.cr_syntax_order.specs.Listed.{AreListed, no_node, one_more}
use Rattle.cr_syntax_nodes.specs.Nodes.{Rises, one_more as rises_more}
use Rattle.cr_syntax_nodes.specs.Laid.{IsLaid}
use Rattle.cr_syntax_nodes.proofs.Made.{forth}
use Rattle.cr_syntax_nodes.proofs.Numbers.{some_at}
use Rattle.cr_meaning_declarations.proofs.NamesLemmas.Leaves.{is_named, same_at, opened, two_tokens, header as behind_name}
use Rattle.cr_scopes_linkage.specs.Shared.Origins.{is_tagged}

-- the token of a node's own name: a tag is the second one
abbrev pub own_token : Kind → ℕ → ℕ
own_token kind.StructTag first = first + 1
own_token kind.EnumTag first = first + 1
own_token kind.StructContent first = first + 1
own_token kind.EnumContent first = first + 1
own_token k first = first

own_at : (k : Kind) (first : ℕ) → (first ≤ own_token k first) × (own_token k first ≤ first + 1)
own_at kind.StructTag first = (omega arith, omega arith)
own_at kind.EnumTag first = (omega arith, omega arith)
own_at kind.StructContent first = (omega arith, omega arith)
own_at kind.EnumContent first = (omega arith, omega arith)
own_at k first = (omega arith, omega arith)

-- ---- kinds with a name

-- ---- nodes of a unit

module _ (ts : List Lexeme) (ns : List Node) (f : PartsAreBelow ns) (span : (k : ℕ) (n : Node) → slice_get ns k ≡ Some n → n.first ≤ n.last)
    (laid_at : (k : ℕ) (n : Node) → slice_get ns k ≡ Some n → IsLaid ts (side_of n.kind) (row_in ns n.parts) n.first (n.last + 1))
    (rise_at : (k : ℕ) (n : Node) → slice_get ns k ≡ Some n → Rises n.first (n.last + 1) (row_in ns n.parts)) where
  -- what is listed under a row stands in its span
  inside : {from end i j : ℕ} {ps : List ℕ} → AreListed ns from ps end → Rises i j (row_in ns ps) → (k : ℕ) (m : Node) → from ≤ k → k < end → slice_get ns k ≡ Some m → (i ≤ m.first) × (m.last < j)
  inside no_node r k m low high here = absurd (omega (arith, low, high))
  inside {i = i} {j = j} (one_more {p = p} {ps = ps} {n = n} at below rest) r k m low high here =
      let o = opened (subst (λ t. Rises i j t) (row_at ns f p n ps at) r) in
      let begin = o.0 in
      let forward = o.1.0 in
      let stop = forth o.1.1 in
      elim (cases_lt k p) [
        | inl less ↦ (let x = inside below (rise_at p n at) k m low less here in let a = x.0 in let b = x.1 in (omega (arith, begin, a), omega (arith, stop, b)))
        | inr ge ↦ elim (cases_lt p k) [
          | inl more ↦ (let x = inside rest o.1.1 k m (omega (arith, more)) high here in let a = x.0 in (omega (arith, begin, forward, a), x.1))
          | inr le ↦ (let is : n ≡ m = same_at ns p k n m (omega (arith, ge, le)) at here in subst (λ (x : Node). (i ≤ x.first) × (x.last < j)) is (begin, omega (arith, stop)))
        ]
      ]

  abbrev own : Node → ℕ
  own n = own_token n.kind n.first

  pub own_within : (k : ℕ) (n : Node) → slice_get ns k ≡ Some n → is_named n.kind ≡ true → own n ≤ n.last
  own_within k n at named = by n.kind refl
    where
      tagged : is_tagged n.kind ≡ true → n.first + 1 ≤ n.last
      tagged h = let wide = two_tokens ts n.kind (row_in ns n.parts) n.first (n.last + 1) h (laid_at k n at) (rise_at k n at) in omega (arith, wide)

      by : (of : Kind) → n.kind ≡ of → own_token of n.first ≤ n.last
      by kind.StructTag e = tagged (ap is_tagged e)
      by kind.EnumTag e = tagged (ap is_tagged e)
      by kind.StructContent e = tagged (ap is_tagged e)
      by kind.EnumContent e = tagged (ap is_tagged e)
      by of e = span k n at

  none_listed : {a b : ℕ} → AreListed ns a [] b → a ≡ b
  none_listed no_node = refl

  -- what is below a node with a name begins behind that
  behind : (from k l : ℕ) (m n : Node) → slice_get ns l ≡ Some n → is_named n.kind ≡ true → AreListed ns from n.parts l → from ≤ k → k < l → slice_get ns k ≡ Some m → own n < m.first
  behind from k l m n there named below low less here = by n.parts refl
    where
      within : (q : ℕ) (rest : List ℕ) → n.parts ≡ q ∷ rest → q < length ns
      within q rest e =
          let G : List ℕ → Type 0 = λ ps. (i : ℕ) → i < length ps → slice_index ps i < l in
          let b : q < l = subst G e (f l n there) 0 (omega arith) in
          let w = slice_get_within ns l n there in
          omega (arith, b, w)

      of_first : (q : ℕ) (rest : List ℕ) (x : Node) → n.parts ≡ q ∷ rest → slice_get ns q ≡ Some x → own n < m.first
      of_first q rest x e at =
          let row : row_in ns n.parts ≡ tree_node x.kind x.first (x.last + 1) (row_in ns x.parts) (row_in ns rest) = ap (row_in ns) e ∙ row_at ns f q x rest at in
          let wide = behind_name ts n.kind x.kind x.first (x.last + 1) (row_in ns x.parts) (row_in ns rest) n.first (n.last + 1) named (subst (λ u. IsLaid ts (side_of n.kind) u n.first (n.last + 1)) row (laid_at l n there)) in
          let o = opened (subst (λ t. Rises n.first (n.last + 1) t) row (rise_at l n there)) in
          let again : Rises x.first (n.last + 1) (row_in ns n.parts) = subst (λ t. Rises x.first (n.last + 1) t) (sym row) (rises_more (omega arith) o.1.0 o.1.1) in
          let y = inside below again k m low less here in
          let first = y.0 in
          let high = (own_at n.kind n.first).1 in
          omega (arith, wide, first, high)

      by : (ps : List ℕ) → n.parts ≡ ps → own n < m.first
      by [] e = let same : from ≡ l = none_listed (subst (λ ps. AreListed ns from ps l) e below) in absurd (omega (arith, same, low, less))
      by (q ∷ rest) e = let x = some_at ns q (within q rest e) in of_first q rest x.0 e x.1

  two_names : {from end i j : ℕ} {ps : List ℕ} → AreListed ns from ps end → Rises i j (row_in ns ps) → (k l : ℕ) (m n : Node) → from ≤ k → k < l → l < end → slice_get ns k ≡ Some m → slice_get ns l ≡ Some n
      → is_named m.kind ≡ true → is_named n.kind ≡ true → own m ≡ own n → ⊥
  two_names no_node r k l m n low less high here there one other same = omega (arith, low, less, high)
  two_names {from = from} {i = i} {j = j} (one_more {p = p} {ps = ps} {n = x} at below rest) r k l m n low less high here there one other same =
      let o = opened (subst (λ t. Rises i j t) (row_at ns f p x ps at) r) in
      elim (cases_lt l p) [
        | inl under ↦ two_names below (rise_at p x at) k l m n low less under here there one other same
        | inr ge ↦ elim (cases_lt p l) [
          | inr le ↦ (let e : p ≡ l = omega (arith, ge, le) in
              let is : x ≡ n = same_at ns p l x n e at there in
              let first = behind from k l m n there other (subst (λ y. AreListed ns from n.parts y) e (subst (λ (y : Node). AreListed ns from y.parts p) is below)) low less here in
              let own_m = (own_at m.kind m.first).0 in
              omega (arith, same, first, own_m))
          | inl above ↦ elim (cases_lt p k) [
            | inl beyond ↦ two_names rest o.1.1 k l m n (omega (arith, beyond)) less high here there one other same
            | inr low_k ↦ (let y = inside rest o.1.1 l n (omega (arith, above)) high there in
                let begins = y.0 in
                let own_m = own_within k m here one in
                let own_n = (own_at n.kind n.first).0 in
                let ends = ends_low k m low low_k here in
                omega (arith, begins, own_m, own_n, ends, same))
          ]
        ]
      ]
    where
      ends_low : (k : ℕ) (m : Node) → from ≤ k → k ≤ p → slice_get ns k ≡ Some m → m.last ≤ x.last
      ends_low k m low le here = elim (cases_lt k p) [
        | inl less ↦ (let b = (inside below (rise_at p x at) k m low less here).1 in omega (arith, b))
        | inr ge ↦ (let is : x ≡ m = same_at ns p k x m (omega (arith, ge, le)) at here in subst (λ (y : Node). y.last ≤ x.last) is (omega arith))
      ]

  -- so nodes with one name are one
  pub one_name : {j : ℕ} {items : List ℕ} → AreListed ns 0 items (length ns) → Rises 0 j (row_in ns items) → (k l : ℕ) (m n : Node) → slice_get ns k ≡ Some m → slice_get ns l ≡ Some n
      → is_named m.kind ≡ true → is_named n.kind ≡ true → own m ≡ own n → k ≡ l
  one_name listed r k l m n here there one other same = elim (cases_lt k l) [
    | inl less ↦ absurd (two_names listed r k l m n (omega arith) less (slice_get_within ns l n there) here there one other same)
    | inr ge ↦ elim (cases_lt l k) [
      | inl more ↦ absurd (two_names listed r l k n m (omega arith) more (slice_get_within ns k m here) there here other one (sym same))
      | inr le ↦ omega (arith, ge, le)
    ]
  ]
