-- What the columns of a unit know of the declaration before a declarator is the declarator of the token before it (C11 6.2.7p2).
use Rattle.std.proofs.Common.{◌≡◌, ℕ, zero, suc, ◌<◌, ◌≤◌, Bool, true, false, List, Option, None, Some, length, slice_get, slice_index_or, inl, inr, refl, sym, ap, subst, ◌∙◌, arith, if◌then◌else◌}
use Rattle.std.proofs.lemmas.Bool.{cases_lt, false≢true, eq-eqb}
use Rattle.std.proofs.lemmas.Option.{slice_get_within}
use Rattle.cr_syntax.specs.declared.node.Kind.{Kind}
use Rattle.cr_syntax.specs.declared.node.Kind.TheVariants as kind
use Rattle.cr_syntax.specs.declared.node.Node.{Node}
use Rattle.cr_syntax_order.specs.Listed.{AreListed}
use Rattle.cr_syntax_nodes.proofs.Numbers.{some_at}
use Rattle.cr_scopes_events.specs.Values.{before}
use Rattle.cr_scopes_events.specs.declared.declarator.Declarator.{Declarator}
use Rattle.cr_scopes_events.specs.Declarators.{declared_by, declared_if, declarator_of}
use Rattle.cr_scopes_events.specs.Declarators as declarators
use Rattle.cr_scopes_events.proofs.Descents.{declarator_ruled}
use Rattle.cr_scopes.specs.Resolved.{is_number}
use Rattle.cr_scopes_bindings.specs.Last.{last_with}
use Rattle.cr_scopes_bindings.specs.Nodes.{named_by, named_if, name_at}
use Rattle.cr_scopes_bindings.specs.Entities.{previous_of}
use Rattle.cr_scopes_bindings.specs.Bindings.{entry_if, own_name}
use Rattle.cr_scopes_linkage.specs.Shared.Origins.{IsDeclarer}
use Rattle.cr_check_surroundings.specs.Named.{same_if}
use Rattle.cr_check_surroundings.specs.Raised.{raised_of}
use Rattle.cr_typed.specs.declared.typed.Typed.{Typed}
use Rattle.cr_meaning_declarations.specs.Units.Owned.{AreOfUnit}
use Rattle.cr_meaning_declarations.proofs.NamesLemmas.Leaves.{is_named, named_once}
use Rattle.cr_meaning_declarations.proofs.NamesLemmas.Parents.{whole_is}
use Rattle.cr_meaning_declarations.specs.Declared.Files.{IsUnitOfFile}
use Rattle.cr_meaning_declarations.specs.Linked.Laws
use Rattle.cr_meaning_declarations.proofs.LinkedLemmas.Owned.{own_there, alone}
use Rattle.cr_meaning_declarations.proofs.LinkedLemmas.Order.{there}
use Rattle.cr_meaning_declarations.proofs.DeclaredLemmas.Files.{has_unit, order_of}
use Rattle.cr_scopes_visibility.proofs.AloneLemmas.First.{number_same as number_is}

-- ---- the last of numbers with a key

record IsLast (key : ℕ → Option ℕ) (b k q : ℕ) : Type 0 where
  last : ℕ
  is : last_with key b k ≡ Some last
  has : is_number (key last) k ≡ true
  behind : q ≤ last
  low : last < b

last_there : (key : ℕ → Option ℕ) (b k q : ℕ) → q < b → is_number (key q) k ≡ true → IsLast key b k q
last_there key zero k q less h = absurd (omega (arith, less))
last_there key (suc b) k q less h = by (is_number (key b) k) refl (λ x. last_there key b k q x h)
  where
    by : (c : Bool) → is_number (key b) k ≡ c → (q < b → IsLast key b k q) → IsLast key (suc b) k q
    by true e rest = record { last = b; is = ap (λ c. if c then Some b else last_with key b k) e; has = e; behind = omega (arith, less); low = omega arith }
    by false e rest = elim (cases_lt q b) [
      | inl more ↦
          (let x = rest more in
          let low = x.low in
          record { last = x.last; is = ap (λ c. if c then Some b else last_with key b k) e ∙ x.is; has = x.has; behind = x.behind; low = omega (arith, low) })
      | inr ge ↦ (let same : b ≡ q = omega (arith, less, ge) in absurd (false≢true (sym e ∙ ap (λ y. is_number (key y) k) same ∙ h)))
    ]

-- an enumerator has no declarator
enumerator_nameless : (k : Kind) (at : ℕ → Declarator) (i : ℕ) (n : Node) (token : ℕ) → k ≡ kind.Enumerator → (declared_by k at i n).name ≡ Some token → ⊥
enumerator_nameless k at i n token e f = let never : None ≡ Some token = sym (ap (λ x. (declared_by x at i n).name) e) ∙ f in cc

module _ (t : Typed) (unit : AreOfUnit t) (order : AreListed t.nodes 0 t.items (length t.nodes)) (token i q : ℕ) (m : Node) (d : IsDeclarer t.nodes token i q m) where
  -- what declares by its declarator has its name
  key_is : name_at t.nodes q ≡ Some token
  key_is =
      let x = there t unit order token i q m d in
      ap (λ o. named_if o (declarator_of t.nodes q).name) x.1 ∙ by x.0 x.1 x.0.kind refl
    where
      by : (o : Node) → slice_get t.nodes q ≡ Some o → (k : Kind) → o.kind ≡ k → named_by k o.first (declarator_of t.nodes q).name ≡ Some token
      by o at kind.Enumerator e =
          absurd (enumerator_nameless o.kind (before declarators.nowhere q (declarator_of t.nodes)) q o token e
          (sym (ap (λ p. (declared_if p (before declarators.nowhere q (declarator_of t.nodes)) q).name) at) ∙ sym (ap (λ p. p.name) (declarator_ruled t.nodes q)) ∙ d.name))
      by o at k e = d.name

  -- another node of the name is no enumerator, since its token is that of an identifier
  name_is : (w : ℕ) (o : Node) → slice_get t.nodes w ≡ Some o → name_at t.nodes w ≡ Some token → (declarator_of t.nodes w).name ≡ Some token
  name_is w o at e = by o.kind refl (sym (ap (λ p. named_if p (declarator_of t.nodes w).name) at) ∙ e)
    where
      by : (k : Kind) → o.kind ≡ k → named_by k o.first (declarator_of t.nodes w).name ≡ Some token → (declarator_of t.nodes w).name ≡ Some token
      by kind.Enumerator f g =
          let x = own_there t unit order token q d.name in
          let first : o.first ≡ token = cc in
          let xf = x.first in
          let inner = (unit.within w o at).0 in
          let same : x.own ≡ w = named_once t unit order x.own w x.node o token x.at x.is x.first at (ap is_named f) (omega (arith, first)) (omega (arith, first)) (omega (arith, first, inner)) in
          let one : Some x.node ≡ Some o = sym x.at ∙ ap (slice_get t.nodes) same ∙ at in
          let node : x.node ≡ o = cc in
          let kinds : kind.NameDeclarator ≡ kind.Enumerator = sym x.is ∙ ap (λ (z : Node). z.kind) node ∙ f in
          absurd cc
      by k f g = g

  -- so it is the last node of the name
  last_is : last_with (name_at t.nodes) (length t.nodes) token ≡ Some q
  last_is =
      let o = there t unit order token i q m d in
      let l = last_there (name_at t.nodes) (length t.nodes) token q (slice_get_within t.nodes q o.0 o.1) (ap (λ p. is_number p token) key_is ∙ eq-eqb token token refl) in
      let w = some_at t.nodes l.last l.low in
      let x = own_there t unit order token q d.name in
      let other = name_is l.last w.0 w.1 (number_is (name_at t.nodes l.last) token l.has) in
      l.is ∙ ap Some (sym (whole_is t unit order x.own x.node x.at x.is q l.last (d.name ∙ ap Some (sym x.first)) (other ∙ ap Some (sym x.first)) l.behind (alone t unit order token i q m d)))

module _ (file : List ℕ) (t : Typed) (it : IsUnitOfFile file t) where
  open it use {made_by}
  open has_unit file t it use {unit as u, nodes_are}

  -- a declared token is one of the unit's
  token_low : (token i q : ℕ) (m : Node) → IsDeclarer t.nodes token i q m → token < length it.unit.tokens.list.items
  token_low token i q m d =
      let x = own_there t u (order_of file t it) token q d.name in
      let w = u.within x.own x.node x.at in
      let low = w.0 in
      let high = w.1 in
      let first = x.first in
      let count : length t.tokens ≡ length it.unit.tokens.list.items = ap length made_by.elaborated.tokens_are in
      omega (arith, low, high, first, count)

  declarer_is : (token i q : ℕ) (m : Node) → IsDeclarer t.nodes token i q m → slice_index_or it.checked.checked.surroundings.bindings.declarers token None ≡ Some q
  declarer_is token i q m d =
      made_by.is.surroundings.bindings.declarers.each token (token_low token i q m d) ∙ ap (λ ns. last_with (name_at ns) (length ns) token) nodes_are ∙ last_is t u (order_of file t it) token i q m d

  found : (one other i q j r : ℕ) (m n : Node) → IsDeclarer t.nodes one i q m → IsDeclarer t.nodes other j r n → previous_of it.names one ≡ Some other
      → slice_index_or made_by.tree.same.now q None ≡ raised_of it.unit.nodes it.checked.checked.surroundings.above (Some r) q
  found one other i q j r m n d e before_it =
      let b = it.checked.checked.surroundings.bindings in
      let known = made_by.is.surroundings in
      let x = there t u (order_of file t it) one i q m d in
      let few : q < length it.unit.nodes = subst (λ ns. q < length ns) (sym nodes_are) (slice_get_within t.nodes q x.0 x.1) in
      let low = token_low one i q m d in
      let names : length it.names.of_token ≡ length it.unit.tokens.list.items = it.known.names.tokens in
      let own : own_name b (name_at it.unit.nodes q) q ≡ Some one =
      ap (λ ns. own_name b (name_at ns q) q) nodes_are ∙ ap (λ o. own_name b o q) (key_is t u (order_of file t it) one i q m d)
      ∙ ap (λ o. if is_number o q then Some one else None) (declarer_is one i q m d) ∙ ap (λ c. if c then Some one else None) (eq-eqb q q refl) in
      let earlier : slice_index_or b.previous one None ≡ Some other = known.bindings.previous.each one (omega (arith, low, names)) ∙ before_it in
      ap (λ column. slice_index_or column q None) made_by.is.whole.tree.same ∙ known.same.each q few ∙ ap (λ o. raised_of it.unit.nodes it.checked.checked.surroundings.above (same_if b o) q) own
      ∙ ap (λ o. raised_of it.unit.nodes it.checked.checked.surroundings.above (entry_if b.declarers o) q) earlier
      ∙ ap (λ o. raised_of it.unit.nodes it.checked.checked.surroundings.above o q) (declarer_is other j r n e)

pub columns_find : Laws.ColumnsFindTheDeclarationBefore
columns_find file t it one other i q j r m n d e before_it = found file t it one other i q j r m n d e before_it
