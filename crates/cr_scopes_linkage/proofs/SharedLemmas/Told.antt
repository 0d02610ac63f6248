-- Each event of a unit is told by one of its nodes.
use Rattle.std.proofs.Common.{◌≡◌, ℕ, zero, suc, List, [], ◌∷◌, Option, None, Some, length, slice_get, refl, sym, ap, subst}
use Rattle.cr_syntax.specs.declared.node.Node.{Node}
use Rattle.cr_scopes_events.specs.declared.event.Role.{Role}
use Rattle.cr_scopes_events.specs.declared.event.Event.{Event}
use Rattle.cr_scopes_events.specs.declared.event.Event.TheVariants as event
use Rattle.cr_scopes_events.specs.Events.{events_of}
use Rattle.cr_scopes.specs.Faults.{is_typedef}
use Rattle.cr_scopes.specs.Resolved.{with_event, past_of}
use Rattle.cr_scopes_typedef_names.specs.Tellings.Tellings.{Telling, by_declaration, by_parameter, by_enumerator, by_tag, by_use, AllNames}
use Rattle.cr_scopes_typedef_names.proofs.TellingsLemmas.Scripts.{all_told as names_told}
use Rattle.cr_scopes_linkage.specs.Shared.Sorts.{is_value, is_tag}
use Rattle.cr_scopes_linkage.specs.Shared.Origins.{IsTold, declared, tagged, otherwise, AreTold}
use Rattle.cr_scopes_linkage.specs.Shared.Laws

module _ (nodes : List Node) where
  -- ---- who tells a name

  one_way : (t : ℕ) (r : Role) → Telling nodes t r → IsTold nodes t r
  one_way t r (by_declaration d e) =
      declared d.node d.declarator d.own
      (record { at = d.at; external = d.is; place = d.place; first = d.first; part = d.part; is = d.has; declares = d.declares; name = d.names }) (sym e)
  one_way t r (by_parameter d e) = otherwise (ap is_value e) (ap is_typedef e) (ap is_tag e)
  one_way t r (by_enumerator b e) = otherwise (ap is_value e) (ap is_typedef e) (ap is_tag e)
  one_way t r (by_tag b e) = tagged b.node b.own b.at b.is b.second e
  one_way t r (by_use b e) = otherwise (ap is_value e) (ap is_typedef e) (ap is_tag e)

  are_told : (events : List Event) → AllNames (Telling nodes) events → AreTold nodes events
  are_told [] h = tt
  are_told (event.Name t r ∷ events) h = (one_way t r h.0, are_told events h.1)
  are_told (event.Opens ∷ events) h = are_told events h
  are_told (event.Closes ∷ events) h = are_told events h
  are_told (event.Member t k ∷ events) h = are_told events h
  are_told (event.Node i ∷ events) h = are_told events h

  -- ---- the latest first

  one_told : (events : List Event) (k : ℕ) (x : Event) → AreTold nodes events → slice_get events k ≡ Some x → (past : List Event) → AreTold nodes past → AreTold nodes (x ∷ past)
  one_told [] k x h e past g = absurd cc
  one_told (y ∷ events) zero x h e past g = let same : y ≡ x = cc in subst (λ z. AreTold nodes (z ∷ past)) same (of_head y events past h g)
    where
      of_head : (y : Event) (events past : List Event) → AreTold nodes (y ∷ events) → AreTold nodes past → AreTold nodes (y ∷ past)
      of_head event.Opens events past h g = g
      of_head event.Closes events past h g = g
      of_head (event.Name t r) events past h g = (h.0, g)
      of_head (event.Member t k) events past h g = g
      of_head (event.Node i) events past h g = g
  one_told (event.Opens ∷ events) (suc k) x h e past g = one_told events k x h e past g
  one_told (event.Closes ∷ events) (suc k) x h e past g = one_told events k x h e past g
  one_told (event.Name t r ∷ events) (suc k) x h e past g = one_told events k x h.1 e past g
  one_told (event.Member t j ∷ events) (suc k) x h e past g = one_told events k x h e past g
  one_told (event.Node i ∷ events) (suc k) x h e past g = one_told events k x h e past g

  past_told : (events : List Event) → AreTold nodes events → (k : ℕ) → AreTold nodes (past_of events k)
  past_told events h zero = tt
  past_told events h (suc k) = by (slice_get events k) refl (past_told events h k)
    where
      by : (o : Option Event) → slice_get events k ≡ o → AreTold nodes (past_of events k) → AreTold nodes (with_event o (past_of events k))
      by None e rest = rest
      by (Some x) e rest = one_told events k x h e (past_of events k) rest

pub all_told : Laws.EventsHaveOrigins
all_told tokens nodes items = past_told nodes (events_of tokens nodes items) (are_told nodes (events_of tokens nodes items) (names_told tokens nodes items)) (length (events_of tokens nodes items))
