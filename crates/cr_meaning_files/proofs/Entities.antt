-- Tokens that stand for one entity are of one name: what a token stands for is declared by its name (C11 6.2.1p4, 6.2.2p2).
use Rattle.std.proofs.Common.{◌≡◌, ℕ, zero, suc, ◌<◌, ◌==◌, ◌&&◌, Bool, true, false, List, [], ◌∷◌, Option, None, Some, length, refl, sym, ap, ◌∙◌, if◌then◌else◌}
use Rattle.std.specs.Option.{is_some}
use Rattle.std.proofs.lemmas.Bool.{and_parts, eqb-true}
use Rattle.cr_scopes_events.specs.declared.event.Role.{Role}
use Rattle.cr_scopes_events.specs.declared.event.Event.{Event}
use Rattle.cr_scopes_events.specs.declared.event.Event.TheVariants.{Node, Opens, Closes, Name, Member}
use Rattle.cr_scopes.specs.declared.names.Names.{Names}
use Rattle.cr_scopes.specs.declared.told.Told.{Told}
use Rattle.cr_scopes.specs.declared.scope.Space.{Space}
use Rattle.cr_scopes.specs.declared.scope.Found.{Found}
use Rattle.cr_scopes.specs.declared.scope.Look.{Look}
use Rattle.cr_scopes.specs.Looking.{or_else, or_given, is_outermost, links, linked, stands_in, is_mention, begun, noted_if, look}
use Rattle.cr_scopes.specs.Resolved.{space_of, space_number, declares, told_if, told_of, told, past_of, told_below, AreResolved}
use Rattle.cr_scopes_visibility.proofs.AloneLemmas.First.{one_number}
use Rattle.cr_scopes_bindings.specs.Entities.{entity_at}
use Rattle.cr_scopes_linkage.proofs.MeantLemmas.Linked.{first_is}
use Rattle.cr_meaning_objects.proofs.KeptLemmas.Uses.{first_of_site}

module _ (name : ℕ → ℕ) where
  begun_name : (past : List Event) (t : ℕ) (r : Role) → name (begun name past t r).first ≡ name t
  begun_name past t r = by (links (is_outermost past) r) (linked name (name t) past) refl
    where
      by : (b : Bool) (o : Option ℕ) → linked name (name t) past ≡ o → name (if b then or_given o t else t) ≡ name t
      by false o q = refl
      by true None q = refl
      by true (Some x) q = (first_is name (name t) x past q).same

  -- what is found of a name is of this name
  record AreNamed (s : ℕ) (l : Look) : Type 0 where
    here : (f : Found) → l.here ≡ Some f → name f.first ≡ s
    seen : (f : Found) → l.seen ≡ Some f → name f.first ≡ s

  looked : (space : Space) (s d : ℕ) (past : List Event) → AreNamed s (look name space s d past)
  looked space s d [] = record { here = λ f e. absurd cc; seen = λ f e. absurd cc }
  looked space s d (Closes ∷ past) = looked space s (suc d) past
  looked space s zero (Opens ∷ past) = let h = looked space s zero past in record { here = λ f e. absurd cc; seen = h.seen }
  looked space s (suc d) (Opens ∷ past) = looked space s d past
  looked space s zero (Name t r ∷ past) = by (stands_in space r && (name t == s)) refl (looked space s zero past)
    where
      l : Look
      l = look name space s zero past

      either : (o : Option Found) → ((f : Found) → o ≡ Some f → name f.first ≡ s) → name t ≡ s → (f : Found) → or_else o (Some (begun name past t r)) ≡ Some f → name f.first ≡ s
      either None h same f e = let one : begun name past t r ≡ f = cc in ap (λ (x : Found). name x.first) (sym one) ∙ begun_name past t r ∙ same
      either (Some g) h same f e = h f e

      noted : (b : Bool) → name t ≡ s → AreNamed s l → AreNamed s (if b then l else record { here = or_else l.here (Some (begun name past t r)); seen = or_else l.here (Some (begun name past t r)) })
      noted true same h = h
      noted false same h = record { here = either l.here h.here same; seen = either l.here h.here same }

      by : (b : Bool) → (stands_in space r && (name t == s)) ≡ b → AreNamed s l → AreNamed s (noted_if b (begun name past t r) l)
      by true q h = noted (is_mention r && is_some l.seen) (eqb-true (name t) s (and_parts (stands_in space r) (name t == s) q).1) h
      by false q h = h
  looked space s (suc d) (Name t r ∷ past) = looked space s (suc d) past
  looked space s d (Member t k ∷ past) = looked space s d past
  looked space s d (Node i ∷ past) = looked space s d past

  -- so is what a token stands for
  told_name : (token : ℕ) (past : List Event) (x : Told) → told name token past ≡ Some x → name x.first ≡ name token
  told_name token [] x e = absurd cc
  told_name token (Name t r ∷ past) x e = by (token == t) refl e (λ f. told_name token past x f)
    where
      own : (b : Bool) (o : Option Found) → ((f : Found) → o ≡ Some f → name f.first ≡ name t) → told_if b r o ≡ Some x → name x.first ≡ name t
      own b None h e = absurd cc
      own b (Some f) h e =
          let same : record { first = f.first; declares = b; space = space_number (space_of r) } ≡ x = cc in
          ap (λ (y : Told). name y.first) (sym same) ∙ h f refl

      by : (c : Bool) → (token == t) ≡ c → (if c then told_of name past t r else told name token past) ≡ Some x → (told name token past ≡ Some x → name x.first ≡ name token) → name x.first ≡ name token
      by true q e rest = own (declares name past t r) (look name (space_of r) (name t) zero (Name t r ∷ past)).seen (looked (space_of r) (name t) zero (Name t r ∷ past)).seen e ∙ ap name (sym (eqb-true token t q))
      by false q e rest = rest e
  told_name token (Opens ∷ past) x e = told_name token past x e
  told_name token (Closes ∷ past) x e = told_name token past x e
  told_name token (Member t k ∷ past) x e = told_name token past x e
  told_name token (Node i ∷ past) x e = told_name token past x e

-- two tokens that stand for one entity are of one name
pub one_name : (name : ℕ → ℕ) (events : List Event) (tokens : ℕ) (names : Names) → AreResolved name events tokens names → (k a b : ℕ) → a < tokens → b < tokens → entity_at names a ≡ Some k → entity_at names b ≡ Some k
    → name a ≡ name b
one_name name events tokens names resolved k a b low less e f =
    let past = past_of events (length events) in
    let x = first_of_site name events tokens names resolved k a low e in
    let y = first_of_site name events tokens names resolved k b less f in
    let same : x.0.first ≡ y.0.first = one_number (told_below name events tokens) x.0.first y.0.first x.1.1.0 y.1.1.0 (x.1.1.1 ∙ sym y.1.1.1) in
    sym (told_name name a past x.0 x.1.0) ∙ ap name same ∙ told_name name b past y.0 y.1.0
