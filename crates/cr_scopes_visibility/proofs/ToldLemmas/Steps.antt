-- What steps leave of what is told, by the events of the nodes before.
use Rattle.std.proofs.Common.{◌≡◌, ℕ, true, List, [], ◌∷◌, ◌++◌, refl, sym, subst, ◌∙◌}
use Rattle.std.specs.List.{flat_map}
use Rattle.cr_syntax.specs.declared.node.Node.{Node}
use Rattle.cr_scopes_bindings.specs.Visible.{is_named}
use Rattle.cr_scopes_events.specs.declared.event.Event.{Event}
use Rattle.cr_scopes_events.specs.declared.event.Event.TheVariants as event
use Rattle.cr_scopes_events.specs.declared.event.Step.{Step}
use Rattle.cr_scopes_events.specs.declared.event.Step.TheVariants.{Happens}
use Rattle.cr_scopes_events.specs.Scripts.{in_scope}
use Rattle.cr_scopes_events.specs.Events.{events_by}
use Rattle.cr_scopes_visibility.specs.Told.Told.{AreApart}
use Rattle.cr_scopes_visibility.proofs.ToldLemmas.Events.{onto, onto_append, named_onto, Holds, opens_more, closes_more}

module _ (nodes : List Node) (apart : AreApart nodes) where
  -- events that lead from one bound to another
  abbrev pub Goes : ℕ → List Event → ℕ → Type 0
  Goes b es c = (past : List Event) → Holds nodes apart past b → Holds nodes apart (onto past es) c

  module _ (at : ℕ → List Event) where
    -- what steps leave
    abbrev pub over : List Event → List Step → List Event
    over past [] = past
    over past (s ∷ steps) = over (onto past (events_by at s)) steps

    pub over_append : (past : List Event) (xs ys : List Step) → over past (xs ++ ys) ≡ over (over past xs) ys
    over_append past [] ys = refl
    over_append past (x ∷ xs) ys = over_append (onto past (events_by at x)) xs ys

    pub over_is : (past : List Event) (steps : List Step) → onto past (flat_map (events_by at) steps) ≡ over past steps
    over_is past [] = refl
    over_is past (s ∷ steps) = onto_append past (events_by at s) (flat_map (events_by at) steps) ∙ over_is (onto past (events_by at s)) steps

    pub named_over : (token : ℕ) (past : List Event) (steps : List Step) → is_named token past ≡ true → is_named token (over past steps) ≡ true
    named_over token past [] h = h
    named_over token past (s ∷ steps) h = named_over token (onto past (events_by at s)) steps (named_onto token past (events_by at s) h)

    abbrev pub Runs : ℕ → List Step → ℕ → Type 0
    Runs b steps c = (past : List Event) → Holds nodes apart past b → Holds nodes apart (over past steps) c

    pub both : (b c d : ℕ) (xs ys : List Step) → Runs b xs c → Runs c ys d → Runs b (xs ++ ys) d
    both b c d xs ys f g past h = subst (λ es. Holds nodes apart es d) (sym (over_append past xs ys)) (g (over past xs) (f past h))

    pub scope : (b c : ℕ) (xs : List Step) → Runs b xs c → Runs b (in_scope xs) c
    scope b c xs f past h =
        subst (λ es. Holds nodes apart es c) (sym (over_append (event.Opens ∷ past) xs (Happens event.Closes ∷ [])))
        (closes_more nodes apart (over (event.Opens ∷ past) xs) c (f (event.Opens ∷ past) (opens_more nodes apart past b h)))

    -- so of all their events
    pub goes : (b c : ℕ) (steps : List Step) → Runs b steps c → Goes b (flat_map (events_by at) steps) c
    goes b c steps f past h = subst (λ es. Holds nodes apart es c) (sym (over_is past steps)) (f past h)
