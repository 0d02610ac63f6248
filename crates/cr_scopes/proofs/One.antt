-- A unit has one first fault of its names, and one list of entities.
use Rattle.std.proofs.Common.{◌≡◌, ℕ, ◌<◌, List, Option, None, Some, sym, ap, subst, ◌∙◌, inl, inr, arith}
use Rattle.std.proofs.lemmas.Bool.{cases_lt}
use Rattle.std.proofs.lemmas.List.{ext_get_or}
use Rattle.std.proofs.lemmas.Option.{get_or_from_slice_get}
use Rattle.cr_scopes_events.specs.declared.event.Event.{Event}
use Rattle.cr_scopes.specs.declared.fault.NameFault.{NameFault}
use Rattle.cr_scopes.specs.declared.names.Names.{Names}
use Rattle.cr_scopes.specs.declared.told.Told.{Told}
use Rattle.cr_scopes.specs.Resolved.{AreNames, IsFirstFault, count_of, entity_of, fault_at, nobody, token_of}

some_one : {A : Type 0} (x y : A) → Some x ≡ Some y → x ≡ y
some_one x y e = cc e

-- two first faults are those of one event
pub one_first : (name : ℕ → ℕ) (events : List Event) (fault other : NameFault) → IsFirstFault name events fault → IsFirstFault name events other
    → fault ≡ other
one_first name events fault other h g = elim (cases_lt h.event g.event) [
  | inl before ↦
      let less = g.earliest h.event fault before h.is in
      let least = h.first g.event other g.is in
      absurd (omega (arith, less, least))
  | inr ge ↦ elim (cases_lt g.event h.event) [
    | inl before ↦
        let less = h.earliest g.event other before g.is in
        let least = g.first h.event fault h.is in
        absurd (omega (arith, less, least))
    | inr le ↦
        let same : h.event ≡ g.event = omega (arith, ge, le) in
        some_one fault other (sym h.is ∙ ap (fault_at name events) same ∙ g.is)
  ]
]

pub one_entities : (at : ℕ → Option Told) (bound : ℕ) (names other : Names) → AreNames at bound names → AreNames at bound other → names ≡ other
one_entities at bound names other is also =
    let entities = ext_get_or nobody names.entities other.entities (is.count ∙ sym also.count) (λ k low.
    let below : k < count_of at bound = subst (λ n. k < n) is.count low in
    get_or_from_slice_get names.entities k (entity_of at bound k) nobody (is.entities k below)
    ∙ sym (get_or_from_slice_get other.entities k (entity_of at bound k) nobody (also.entities k below))) in
    let tokens = ext_get_or {A = Option ℕ} None names.of_token other.of_token (is.tokens ∙ sym also.tokens) (λ t low.
    let below : t < bound = subst (λ n. t < n) is.tokens low in is.of_token t below ∙ sym (also.of_token t below)) in
    ap {B = Names} (λ x. record { entities = x; of_token = names.of_token }) entities ∙ ap {B = Names} (λ x. record { entities = other.entities; of_token = x }) tokens
