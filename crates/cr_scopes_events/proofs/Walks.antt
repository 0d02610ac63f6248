-- What a step of the walk changes.
use Rattle.std.proofs.Common.{◌≡◌, ℕ, ◌+◌, ◌<◌, true, false, List, [], ◌∷◌, ◌++◌, length, if◌then◌else◌, refl, sym, ap, ◌∙◌, arith, length-append}
use Rattle.std.proofs.lemmas.List.{append_assoc, append-nil}
use Rattle.std.specs.List.{flat_map}
use Rattle.std.proofs.lemmas.Bool.{true≢false}
use Rattle.std.proofs.lemmas.Grind.{flat_map-append}
use Rattle.cr_tokens.specs.declared.token.Token.{Token}
use Rattle.cr_syntax.specs.declared.node.Node.{Node}
use Rattle.cr_scopes_events.specs.declared.event.Event.{Event}
use Rattle.cr_scopes_events.specs.declared.event.Event.TheVariants as event
use Rattle.cr_scopes_events.specs.declared.event.Step.{Step}
use Rattle.cr_scopes_events.specs.declared.event.Step.TheVariants.{Happens, Inside}
use Rattle.cr_scopes_events.specs.Values.{before}
use Rattle.cr_scopes_events.specs.Scripts.{inside, script_of}
use Rattle.cr_scopes_events.specs.Events.{events_by, event_rule, events_at, is_below, to_come}
use Rattle.cr_scopes_events.proofs.Ruled.{ruled}

pub events_ruled : (tokens : List Token) (nodes : List Node) (i : ℕ)
    → events_at tokens nodes i ≡ event_rule tokens nodes (before [] i (events_at tokens nodes)) i
unfolding events_at
events_ruled tokens nodes i = ruled [] (event_rule tokens nodes) i

-- one step more is left
pub to_come_more : (at : ℕ → List Event) (left : List Step) (step : Step) → to_come at (left ++ step ∷ []) ≡ events_by at step ++ to_come at left
to_come_more at [] step = sym (append-nil (events_by at step))
to_come_more at (s ∷ left) step =
    ap (λ x. x ++ events_by at s) (to_come_more at left step) ∙ append_assoc (events_by at step) (to_come at left) (events_by at s)

-- where a part is below the bound, its events are asked for
pub below_is : (at : ℕ → List Event) (bound : ℕ) (step : Step) → is_below bound step ≡ true → events_by (before [] bound at) step ≡ events_by at step
below_is at bound (Happens e) h = refl
below_is at bound (Inside part) h = ap (λ b. if b then at part else []) h

pub not_below_is : (at : ℕ → List Event) (bound : ℕ) (step : Step) → is_below bound step ≡ false → events_by (before [] bound at) step ≡ []
not_below_is at bound (Happens e) h = absurd (true≢false h)
not_below_is at bound (Inside part) h = ap (λ b. if b then at part else []) h

pub put_off_below : (at : ℕ → List Event) (bound : ℕ) (step : Step) (left : List Step) → is_below bound step ≡ true
    → to_come at (left ++ step ∷ []) ≡ events_by (before [] bound at) step ++ to_come at left
put_off_below at bound step left h = to_come_more at left step ∙ ap (λ es. es ++ to_come at left) (sym (below_is at bound step h))

pub put_off_none : (at : ℕ → List Event) (bound : ℕ) (step : Step) (left : List Step) → is_below bound step ≡ false
    → to_come at left ≡ events_by (before [] bound at) step ++ to_come at left
put_off_none at bound step left h = ap (λ es. es ++ to_come at left) (sym (not_below_is at bound step h))

-- at a part the walk comes to the node and does what its script says
pub inside_is : (tokens : List Token) (nodes : List Node) (i : ℕ) (old new : List Event) (events : List Event)
    → new ≡ flat_map (events_by (before [] i (events_at tokens nodes))) (script_of tokens nodes i) ++ old
    → (events ++ event.Node i ∷ []) ++ new ≡ events ++ (events_at tokens nodes i ++ old)
inside_is tokens nodes i old new events e =
    append_assoc events (event.Node i ∷ []) new
    ∙ ap (λ x. events ++ (event.Node i ∷ x)) e
    ∙ ap (λ x. events ++ (x ++ old)) (sym (events_ruled tokens nodes i))

-- what is left grows shorter with each event
pub shorter : (events new come left : List Event) → length new ≡ length events + 1 → new ++ left ≡ events ++ come → length left < length come
shorter events new come left one e = let k = ap length e in omega (arith, k, length-append new left, length-append events come, one)

-- one step of what is left is done
pub walk_step : (at : ℕ → List Event) (left popped : List Step) (step : Step) (events new come : List Event)
    → left ≡ popped ++ step ∷ [] → new ++ come ≡ events ++ (events_by at step ++ to_come at popped) → new ++ come ≡ events ++ to_come at left
walk_step at left popped step events new come is h =
    h ∙ ap (λ x. events ++ x) (sym (to_come_more at popped step)) ∙ ap (λ x. events ++ to_come at x) (sym is)

-- parts that are gone inside of
pub inside_events : (at : ℕ → List Event) (parts : List ℕ) → flat_map (events_by at) (inside parts) ≡ flat_map at parts
inside_events at [] = refl
inside_events at (part ∷ parts) = ap (λ x. at part ++ x) (inside_events at parts)

pub started : (at : ℕ → List Event) (parts : List ℕ) (steps : List Step) (left : List Event)
    → steps ≡ inside parts → left ≡ flat_map (events_by at) steps ++ [] → left ≡ flat_map at parts
started at parts steps left is h =
    h ∙ append-nil (flat_map (events_by at) steps) ∙ ap (flat_map (events_by at)) is ∙ inside_events at parts
