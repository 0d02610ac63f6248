-- Of two declarators of declarations the one whose name stands first has the lesser number.
use Rattle.std.proofs.Common.{◌≡◌, ℕ, zero, suc, ◌+◌, ◌<◌, ◌≤◌, ◌==◌, Bool, true, false, not, ◌||◌, List, [], ◌∷◌, Option, None, Some, length, nat_lt, slice_get, inl, inr, refl, sym, ap, subst, ◌∙◌, arith, if◌then◌else◌}
use Rattle.std.specs.List.{list_any}
use Rattle.std.proofs.lemmas.Bool.{cases_lt, false≢true, both_ways, not-true, or_left, or_right, eqb-true, ltb-true}
use Rattle.std.proofs.lemmas.Option.{slice_get_within, same_Some}
use Rattle.cr_syntax.specs.declared.node.Kind.{Kind}
use Rattle.cr_syntax.specs.declared.node.Kind.TheVariants as kind
use Rattle.cr_syntax.specs.declared.node.Node.{Node}
use Rattle.cr_syntax.specs.declared.part.Part.{Part}
use Rattle.cr_syntax.specs.Tables.{rule_of, side_of}
use Rattle.cr_syntax.specs.Kept.{row_in}
use Rattle.cr_syntax_order.specs.Listed.{AreListed, no_node, one_more}
use Rattle.cr_syntax_nodes.specs.Laid.{stands_for}
use Rattle.cr_syntax_nodes.specs.Nodes.{Rises}
use Rattle.cr_syntax_nodes.proofs.Made.{made_in, rises}
use Rattle.cr_syntax_nodes.proofs.Numbers.{some_at, occurs}
use Rattle.cr_syntax_nodes.proofs.Order.{own_before, in_order}
use Rattle.cr_scopes_events.specs.Values.{before}
use Rattle.cr_scopes_events.specs.declared.declarator.Declarator.{Declarator}
use Rattle.cr_scopes_events.specs.Scripts as scripts
use Rattle.cr_scopes_events.specs.Declarators.{nowhere, in_first, declared_by, declared_if, declarator_of}
use Rattle.cr_scopes_events.proofs.Descents.{declarator_ruled}
use Rattle.cr_scopes_linkage.specs.Shared.Origins.{is_external, IsDeclarer}
use Rattle.cr_check_enclosing.specs.Above.{above_of}
use Rattle.cr_typed.specs.declared.typed.Typed.{Typed}
use Rattle.cr_meaning_declarations.specs.Units.Owned.{AreOfUnit}
use Rattle.cr_meaning_declarations.proofs.UnitsLemmas.Rows.{clear_side, clear_laid, clear_at}
use Rattle.cr_meaning_declarations.proofs.UnitsLemmas.Handing.{laid_at, parts_below}
use Rattle.cr_meaning_declarations.proofs.NamesLemmas.Leaves.{name_alone}
use Rattle.cr_meaning_declarations.proofs.NamesLemmas.Parents.{IsPartOf, part_below, above_some}
use Rattle.cr_meaning_declarations.specs.Sight.Under.{is_under}
use Rattle.cr_meaning_declarations.proofs.SightLemmas.Under.{under_at, directly, outermost_outside, further}
use Rattle.cr_meaning_declarations.specs.Linked.Laws
use Rattle.cr_meaning_declarations.proofs.DeclaredLemmas.Nodes.{of_unit}
use Rattle.cr_meaning_declarations.proofs.DeclaredLemmas.Bodies.{node_of}
use Rattle.cr_meaning_declarations.proofs.LinkedLemmas.Owned.{part_of, in_init}
use Rattle.cr_meaning_declarations.proofs.DeclaredLemmas.Files.{order_of}

-- ---- statements, declarations and definitions

abbrev pub standing : List Kind
standing =
    kind.Compound ∷ kind.ExpressionStatement ∷ kind.If ∷ kind.Switch ∷ kind.While ∷ kind.Do ∷ kind.For ∷ kind.Label ∷ kind.Case ∷ kind.Default ∷ kind.Goto ∷ kind.Break ∷ kind.Continue ∷ kind.Return ∷ kind.Declaration
    ∷ kind.FunctionDefinition ∷ []

abbrev pub stands_alone : Kind → Bool
stands_alone kind.Compound = true
stands_alone kind.ExpressionStatement = true
stands_alone kind.If = true
stands_alone kind.Switch = true
stands_alone kind.While = true
stands_alone kind.Do = true
stands_alone kind.For = true
stands_alone kind.Label = true
stands_alone kind.Case = true
stands_alone kind.Default = true
stands_alone kind.Goto = true
stands_alone kind.Break = true
stands_alone kind.Continue = true
stands_alone kind.Return = true
stands_alone kind.Declaration = true
stands_alone kind.FunctionDefinition = true
stands_alone k = false

-- no such kind stands for the part
abbrev pub without : Part → Bool
without p = not (list_any (λ k. stands_for p k) standing)

pub among : (test : Kind → Bool) (ks : List Kind) (i : ℕ) (k : Kind) → slice_get ks i ≡ Some k → test k ≡ true → list_any test ks ≡ true
among test [] i k e h = absurd cc
among test (x ∷ ks) zero k e h = let same : x ≡ k = cc in or_left (test x) (list_any test ks) (ap test same ∙ h)
among test (x ∷ ks) (suc i) k e h = or_right (test x) (list_any test ks) (among test ks i k e h)

-- where such a kind stands in the list
pub place_of : (k : Kind) → stands_alone k ≡ true → (i : ℕ) × (slice_get standing i ≡ Some k)
place_of kind.Compound h = (0, refl)
place_of kind.ExpressionStatement h = (1, refl)
place_of kind.If h = (2, refl)
place_of kind.Switch h = (3, refl)
place_of kind.While h = (4, refl)
place_of kind.Do h = (5, refl)
place_of kind.For h = (6, refl)
place_of kind.Label h = (7, refl)
place_of kind.Case h = (8, refl)
place_of kind.Default h = (9, refl)
place_of kind.Goto h = (10, refl)
place_of kind.Break h = (11, refl)
place_of kind.Continue h = (12, refl)
place_of kind.Return h = (13, refl)
place_of kind.Declaration h = (14, refl)
place_of kind.FunctionDefinition h = (15, refl)
place_of k h = absurd (false≢true h)

pub clears : (p : Part) (k : Kind) → without p ≡ true → stands_for p k ≡ true → stands_alone k ≡ false
clears p k c s = by (stands_alone k) refl
  where
    by : (b : Bool) → stands_alone k ≡ b → stands_alone k ≡ false
    by false q = q
    by true q =
        let at = place_of k q in
        absurd (both_ways (list_any (λ x. stands_for p x) standing) (not-true (list_any (λ x. stands_for p x) standing) c) (among (λ x. stands_for p x) standing at.0 k at.1 s))

-- what is none of them has none of them as a part
pub sides_clear : (k : Kind) → stands_alone k ≡ false → clear_side stands_alone without clears (side_of k) ≡ true
unfolding rule_of
sides_clear kind.Compound h = absurd (false≢true (sym h))
sides_clear kind.ExpressionStatement h = absurd (false≢true (sym h))
sides_clear kind.If h = absurd (false≢true (sym h))
sides_clear kind.Switch h = absurd (false≢true (sym h))
sides_clear kind.While h = absurd (false≢true (sym h))
sides_clear kind.Do h = absurd (false≢true (sym h))
sides_clear kind.For h = absurd (false≢true (sym h))
sides_clear kind.Label h = absurd (false≢true (sym h))
sides_clear kind.Case h = absurd (false≢true (sym h))
sides_clear kind.Default h = absurd (false≢true (sym h))
sides_clear kind.Goto h = absurd (false≢true (sym h))
sides_clear kind.Break h = absurd (false≢true (sym h))
sides_clear kind.Continue h = absurd (false≢true (sym h))
sides_clear kind.Return h = absurd (false≢true (sym h))
sides_clear kind.Declaration h = absurd (false≢true (sym h))
sides_clear kind.FunctionDefinition h = absurd (false≢true (sym h))
sides_clear k h = refl

pub external_alone : (k : Kind) → is_external k ≡ true → stands_alone k ≡ true
external_alone kind.Declaration h = refl
external_alone kind.FunctionDefinition h = refl
external_alone k h = absurd (false≢true h)

-- what declares a name is a declarator
abbrev pub is_initial : Kind → Bool
is_initial kind.InitDeclarator = true
is_initial k = false

declares_kind : (k : Kind) (at : ℕ → Declarator) (i : ℕ) (n : Node) (token : ℕ) → (declared_by k at i n).name ≡ Some token → (stands_alone k ≡ false) × (is_initial k ≡ false)
declares_kind kind.NameDeclarator at i n token e = (refl, refl)
declares_kind kind.GroupDeclarator at i n token e = (refl, refl)
declares_kind kind.PointerDeclarator at i n token e = (refl, refl)
declares_kind kind.ArrayDeclarator at i n token e = (refl, refl)
declares_kind kind.FunctionDeclarator at i n token e = (refl, refl)
declares_kind k at i n token e = let never : None ≡ Some token = e in absurd cc

-- ---- numbers that rise along a list

pub forth : {ns : List Node} {from end : ℕ} {ps : List ℕ} → AreListed ns from ps end → from ≤ end
forth no_node = omega arith
forth (one_more at below rest) = let x = forth below in let y = forth rest in omega (arith, x, y)

-- what the first part has below it begins with the list
record IsFirst (ns : List Node) (from p : ℕ) : Type 0 where
  node : Node
  at : slice_get ns p ≡ Some node
  listed : AreListed ns from node.parts p

first_of : {ns : List Node} {from end b : ℕ} {ps : List ℕ} → AreListed ns from (b ∷ ps) end → IsFirst ns from b
first_of (one_more {n = n} at below rest) = record { node = n; at = at; listed = below }

module _ (t : Typed) (unit : AreOfUnit t) (order : AreListed t.nodes 0 t.items (length t.nodes)) where
  -- ---- what is below a declarator

  -- all from its first number on stands under it
  under_all : {from end : ℕ} {ps : List ℕ} → AreListed t.nodes from ps end → (q : ℕ) → ((k p : ℕ) → slice_get ps k ≡ Some p → IsPartOf t unit p q) → (z : ℕ) → from ≤ z → z < end → is_under t q z ≡ true
  under_all no_node q parts z low high = absurd (omega (arith, low, high))
  under_all (one_more {p = p} {n = n} at below rest) q parts z low high = elim (cases_lt z p) [
    | inl less ↦ further t unit z p q (under_all below p (λ k x e. record { parent = n; at = at; place = k; is = e }) z low less) (parts 0 p refl)
    | inr ge ↦ elim (cases_lt p z) [
      | inl more ↦ under_all rest q (λ k x e. parts (suc k) x e) z (omega (arith, more)) high
      | inr le ↦ (let same : p ≡ z = omega (arith, ge, le) in subst (λ y. is_under t q y ≡ true) same (directly t unit q p (parts 0 p refl)))
    ]
  ]

  -- its identifier stands between its first number and its own
  record IsWithin (token from q : ℕ) : Type 0 where
    own : ℕ
    node : Node
    at : slice_get t.nodes own ≡ Some node
    is : node.kind ≡ kind.NameDeclarator
    first : node.first ≡ token
    low : from ≤ own
    high : own ≤ q

  of_first : (token a from : ℕ) (ps : List ℕ) → AreListed t.nodes from ps a → (in_first (before nowhere a (declarator_of t.nodes)) ps).name ≡ Some token
      → ((b : ℕ) (m : Node) (start : ℕ) → b < a → slice_get t.nodes b ≡ Some m → AreListed t.nodes start m.parts b → (declarator_of t.nodes b).name ≡ Some token → IsWithin token start b) → IsWithin token from a
  of_first token a from [] listed e rest = absurd cc
  of_first token a from (b ∷ ps) listed e rest = by (nat_lt b a) refl e
    where
      by : (c : Bool) → nat_lt b a ≡ c → (if c then declarator_of t.nodes b else nowhere).name ≡ Some token → IsWithin token from a
      by true q f =
          let less = ltb-true b a q in
          let x = first_of listed in
          let y = rest b x.node from less x.at x.listed f in
          let up = y.high in
          record { own = y.own; node = y.node; at = y.at; is = y.is; first = y.first; low = y.low; high = omega (arith, up, less) }
      by false q f = absurd cc

  of_kind : (token a from : ℕ) (m : Node) → slice_get t.nodes a ≡ Some m → AreListed t.nodes from m.parts a → (k : Kind) → m.kind ≡ k → (declared_by k (before nowhere a (declarator_of t.nodes)) a m).name ≡ Some token
      → ((b : ℕ) (m : Node) (start : ℕ) → b < a → slice_get t.nodes b ≡ Some m → AreListed t.nodes start m.parts b → (declarator_of t.nodes b).name ≡ Some token → IsWithin token start b) → IsWithin token from a
  of_kind token a from m at listed kind.NameDeclarator is e rest = record { own = a; node = m; at = at; is = is; first = cc; low = forth listed; high = omega arith }
  of_kind token a from m at listed kind.GroupDeclarator is e rest = of_first token a from m.parts listed e rest
  of_kind token a from m at listed kind.PointerDeclarator is e rest = of_first token a from m.parts listed e rest
  of_kind token a from m at listed kind.ArrayDeclarator is e rest = of_first token a from m.parts listed e rest
  of_kind token a from m at listed kind.FunctionDeclarator is e rest = of_first token a from m.parts listed e rest
  of_kind token a from m at listed k is e rest = absurd cc

  within_by : (fuel token a from : ℕ) (m : Node) → a < fuel → slice_get t.nodes a ≡ Some m → AreListed t.nodes from m.parts a → (declarator_of t.nodes a).name ≡ Some token → IsWithin token from a
  within_by zero token a from m less at listed e = absurd (omega (arith, less))
  within_by (suc fuel) token a from m less at listed e =
      of_kind token a from m at listed m.kind refl
      (sym (ap (λ o. (declared_if o (before nowhere a (declarator_of t.nodes)) a).name) at) ∙ sym (ap (λ d. d.name) (declarator_ruled t.nodes a)) ∙ e)
      (λ b n start low here row f. within_by fuel token b start n (omega (arith, less, low)) here row f)

  -- ---- what stands alone stands under nothing else

  pub alone_above : (x y : ℕ) (h : IsPartOf t unit x y) (n : Node) → slice_get t.nodes x ≡ Some n → stands_alone n.kind ≡ true → stands_alone h.parent.kind ≡ true
  alone_above x y h n at alone = by (stands_alone h.parent.kind) refl
    where
      by : (b : Bool) → stands_alone h.parent.kind ≡ b → b ≡ true
      by true q = refl
      by false q =
          let row = clear_laid stands_alone without clears unit.tokens (side_of h.parent.kind) (row_in t.nodes h.parent.parts) h.parent.first (h.parent.last + 1) (sides_clear h.parent.kind q) (laid_at t unit y h.parent h.at) in
          let one = clear_at stands_alone without clears t.nodes unit.below h.parent.parts (parts_below t unit y h.parent h.at) row h.place x h.is in
          let same : one.0 ≡ n = same_Some one.0 n (sym one.1.0 ∙ at) in
          sym one.1.1 ∙ ap (λ (z : Node). stands_alone z.kind) same ∙ alone

  pub climbs : (fuel x q : ℕ) (n m : Node) → length t.nodes < fuel + x → slice_get t.nodes x ≡ Some n → stands_alone n.kind ≡ true → slice_get t.nodes q ≡ Some m → stands_alone m.kind ≡ false → is_under t q x ≡ true → ⊥
  climbs zero x q n m high at alone here not_alone under = let w = slice_get_within t.nodes x n at in absurd (omega (arith, high, w))
  climbs (suc fuel) x q n m high at alone here not_alone under = by (above_of t.nodes (length t.nodes) x) refl (λ y k less there own up. climbs fuel y q k m (omega (arith, high, less)) there own here not_alone up)
    where
      at_node : (y : ℕ) (h : IsPartOf t unit x y) → ((y : ℕ) (k : Node) → x < y → slice_get t.nodes y ≡ Some k → stands_alone k.kind ≡ true → is_under t q y ≡ true → ⊥) → (b : Bool) → (y == q) ≡ b → (b || is_under t q y) ≡ true → ⊥
      at_node y h rest true e f =
          let there : Some h.parent ≡ Some m = sym h.at ∙ ap (slice_get t.nodes) (eqb-true y q e) ∙ here in
          let same : h.parent ≡ m = same_Some h.parent m there in
          false≢true (sym not_alone ∙ ap (λ (z : Node). stands_alone z.kind) (sym same) ∙ alone_above x y h n at alone)
      at_node y h rest false e f = rest y h.parent (part_below t unit x y h) h.at (alone_above x y h n at alone) f

      by : (o : Option ℕ) → above_of t.nodes (length t.nodes) x ≡ o → ((y : ℕ) (k : Node) → x < y → slice_get t.nodes y ≡ Some k → stands_alone k.kind ≡ true → is_under t q y ≡ true → ⊥) → ⊥
      by None e rest = false≢true (sym (outermost_outside t unit q x e) ∙ under)
      by (Some y) e rest = let h = above_some t unit (length t.nodes) x y e in at_node y h rest (y == q) refl (sym (under_at t unit q x y h) ∙ under)

  -- ---- the order of declarators

  rise_at : (k : ℕ) (n : Node) → slice_get t.nodes k ≡ Some n → Rises n.first (n.last + 1) (row_in t.nodes n.parts)
  rise_at k n q = rises (made_in unit.is_unit.spells (occurs t.nodes unit.below t.items unit.once unit.are (length t.nodes) k n (omega arith) q)).spells

  -- identifiers are numbered as they stand
  names_rise : (x y : ℕ) (m n : Node) → slice_get t.nodes x ≡ Some m → m.kind ≡ kind.NameDeclarator → slice_get t.nodes y ≡ Some n → n.kind ≡ kind.NameDeclarator → m.first < n.first → x < y
  names_rise x y m n at is there its less = elim (cases_lt x y) [
    | inl low ↦ low
    | inr ge ↦ elim (cases_lt y x) [
      | inl more ↦
          (let one = (name_alone t unit order y n there its).1 in
          elim (in_order t.nodes unit.below rise_at order (rises unit.is_unit.spells) y x n m more there at) [
            | inl ends ↦ absurd (omega (arith, ends, one, less))
            | inr inside ↦ (let stops = inside.1 in let own = (name_alone t unit order x m at is).1 in absurd (omega (arith, stops, one, own, less)))
          ])
      | inr le ↦
          (let e : x ≡ y = omega (arith, ge, le) in
          let same : m ≡ n = same_Some m n (sym at ∙ ap (slice_get t.nodes) e ∙ there) in
          let first : m.first ≡ n.first = ap (λ (z : Node). z.first) same in
          absurd (omega (arith, first, less)))
    ]
  ]

  -- a declarator is a node
  pub there : (token p x : ℕ) (k : Node) → IsDeclarer t.nodes token p x k → (o : Node) × (slice_get t.nodes x ≡ Some o)
  there token p x k f = some_at t.nodes x (elim f.declares [
    | inl same ↦ (let part = part_of t unit order token p x k f in
        let low = part_below t unit f.part p part in let high = slice_get_within t.nodes p k f.at in omega (arith, low, high, same))
    | inr init ↦ (let part = in_init t unit order token p x k f init.0 init.1 in
        let low = part_below t unit x f.part part in let high = slice_get_within t.nodes f.part part.parent part.at in omega (arith, low, high))
  ])

  module _ (a b i q j r : ℕ) (m n : Node) (d : IsDeclarer t.nodes a i q m) (e : IsDeclarer t.nodes b j r n) (less : a < b) where
    abbrev one : (o : Node) × (slice_get t.nodes q ≡ Some o)
    one = there a i q m d

    abbrev other : (o : Node) × (slice_get t.nodes r ≡ Some o)
    other = there b j r n e

    kinds : (stands_alone one.0.kind ≡ false) × (is_initial one.0.kind ≡ false)
    kinds =
        declares_kind one.0.kind (before nowhere q (declarator_of t.nodes)) q one.0 a
        (sym (ap (λ o. (declared_if o (before nowhere q (declarator_of t.nodes)) q).name) one.1) ∙ sym (ap (λ d. d.name) (declarator_ruled t.nodes q)) ∙ d.name)

    -- no declaration stands under a declarator
    not_under : is_under t q r ≡ true → ⊥
    not_under under = elim e.declares [
      | inl same ↦
          (let part = subst (λ y. IsPartOf t unit y j) same (part_of t unit order b j r n e) in
          from_declaration (j == q) refl (sym (under_at t unit q r j part) ∙ under))
      | inr init ↦
          (let part = in_init t unit order b j r n e init.0 init.1 in
          from_initial init.0 (e.part == q) refl (sym (under_at t unit q r e.part part) ∙ under))
    ]
      where
        from_declaration : (c : Bool) → (j == q) ≡ c → (c || is_under t q j) ≡ true → ⊥
        from_declaration true f g =
            let same : n ≡ one.0 = same_Some n one.0 (sym e.at ∙ ap (slice_get t.nodes) (eqb-true j q f) ∙ one.1) in
            false≢true (sym kinds.0 ∙ ap (λ (z : Node). stands_alone z.kind) (sym same) ∙ external_alone n.kind e.external)
        from_declaration false f g = climbs (suc (length t.nodes)) j q n one.0 (omega arith) e.at (external_alone n.kind e.external) one.1 kinds.0 g

        from_initial : scripts.kind_at t.nodes e.part ≡ Some kind.InitDeclarator → (c : Bool) → (e.part == q) ≡ c → (c || is_under t q e.part) ≡ true → ⊥
        from_initial init true f g =
            let y = node_of t unit order e.part kind.InitDeclarator init in
            let same : y.0 ≡ one.0 = same_Some y.0 one.0 (sym y.1.0 ∙ ap (slice_get t.nodes) (eqb-true e.part q f) ∙ one.1) in
            false≢true (sym kinds.1 ∙ ap (λ (z : Node). is_initial z.kind) (sym same) ∙ ap is_initial y.1.1)
        from_initial init false f g = from_declaration (j == q) refl (sym (under_at t unit q e.part j (part_of t unit order b j r n e)) ∙ g)

    in_turn : q < r
    in_turn = elim (cases_lt q r) [
      | inl low ↦ low
      | inr ge ↦
          (let mine = own_before t.nodes t.items order q one.0 one.1 in
          let its = own_before t.nodes t.items order r other.0 other.1 in
          let x = within_by (suc q) a q mine.0 one.0 (omega arith) one.1 mine.1 d.name in
          let y = within_by (suc r) b r its.0 other.0 (omega arith) other.1 its.1 e.name in
          let xf = x.first in
          let yf = y.first in
          let rise = names_rise x.own y.own x.node y.node x.at x.is y.at y.is (omega (arith, xf, yf, less)) in
          let low = x.low in
          let high = y.high in
          elim (cases_lt r q) [
            | inl below ↦ absurd (not_under (under_all mine.1 q (λ k p f. record { parent = one.0; at = one.1; place = k; is = f }) r (omega (arith, low, rise, high)) below))
            | inr le ↦
                (let same : q ≡ r = omega (arith, ge, le) in
                let names : Some a ≡ Some b = sym d.name ∙ ap (λ z. (declarator_of t.nodes z).name) same ∙ e.name in
                let token : a ≡ b = cc in
                absurd (omega (arith, token, less)))
          ])
    ]

pub in_order_is : Laws.DeclaratorsAreInOrder
in_order_is file t it a b i q j r m n d e less = in_turn t (of_unit file t it) (order_of file t it) a b i q j r m n d e less
