-- What the stack of open scopes has of a name is what looking back finds.
use Rattle.std.proofs.Common.{◌≡◌, ℕ, zero, suc, ◌+◌, ◌<◌, ◌==◌, ◌&&◌, ◌||◌, Bool, true, false, not, if◌then◌else◌, Option, Some, None, List, [], ◌∷◌, length, slice_get, slice_index_or, refl, sym, ap, ◌∙◌, arith, set, get_or-set_same, get_or-set_other, length-set}
use Rattle.std.proofs.lemmas.Bool.{eqb-true, eqb-false}
use Rattle.cr_scopes_events.specs.declared.event.Role.{Role}
use Rattle.cr_scopes_events.specs.declared.event.Event.{Event}
use Rattle.cr_scopes_events.specs.declared.event.Event.TheVariants.{Node, Opens, Closes, Name, Member}
use Rattle.cr_scopes.specs.declared.scope.Space.TheVariants.{Ordinary}
use Rattle.cr_scopes.specs.Looking.{stands_in}
use Rattle.cr_scopes.specs.Resolved.{past_of, with_event}
use Rattle.cr_scopes_bindings.specs.declared.scoped.Binding.{Binding}
use Rattle.cr_scopes_bindings.specs.declared.scoped.Binding.TheVariants.{Bound}
use Rattle.cr_scopes_bindings.specs.Stacks.{entered, found_in, outside, stack_of}
use Rattle.cr_scopes_bindings.specs.Visible.{is_named, latest, marked_by, seen_by, visible}
use Rattle.cr_rows.specs.Columns.{AreOf}

-- what is left when so many scopes end
abbrev pub outsides : ℕ → List Binding → List Binding
outsides zero stack = stack
outsides (suc d) stack = outsides d (outside stack)

outsides_none : (d s : ℕ) → None ≡ found_in (outsides d []) s
outsides_none zero s = refl
outsides_none (suc d) s = outsides_none d s

by_name : (b : Bool) (name : ℕ → ℕ) (s t : ℕ) (stack : List Binding) (found : Option ℕ) → found ≡ found_in stack s
    → (if b && (name t == s) then Some t else found) ≡ found_in (if b then Bound (name t) t ∷ stack else stack) s
by_name true name s t stack found h = ap (λ x. if name t == s then Some t else x) h
by_name false name s t stack found h = h

by_scope : (b : Bool) (d n t : ℕ) (stack : List Binding) → outsides (suc d) stack ≡ outsides (suc d) (if b then Bound n t ∷ stack else stack)
by_scope true d n t stack = refl
by_scope false d n t stack = refl

pub looked : (name : ℕ → ℕ) (s d : ℕ) (past : List Event) → latest name s d past ≡ found_in (outsides d (stack_of name past)) s
looked name s d [] = outsides_none d s
looked name s zero (Closes ∷ past) = looked name s 1 past
looked name s (suc d) (Closes ∷ past) = looked name s (suc (suc d)) past
looked name s zero (Opens ∷ past) = looked name s zero past
looked name s (suc d) (Opens ∷ past) = looked name s d past
looked name s zero (Name t r ∷ past) = by_name (stands_in Ordinary r) name s t (stack_of name past) (latest name s zero past) (looked name s zero past)
looked name s (suc d) (Name t r ∷ past) =
    looked name s (suc d) past ∙ ap (λ stack. found_in stack s) (by_scope (stands_in Ordinary r) d (name t) t (stack_of name past))
looked name s zero (Member t k ∷ past) = looked name s zero past
looked name s (suc d) (Member t k ∷ past) = looked name s (suc d) past
looked name s zero (Node i ∷ past) = looked name s zero past
looked name s (suc d) (Node i ∷ past) = looked name s (suc d) past

-- what is kept after events
pub record IsKept (name : ℕ → ℕ) (past : List Event) (tokens : ℕ) (stack : List Binding) (marks : List Bool) (column : List (Option ℕ)) : Type 0 where
  pub opened : stack ≡ stack_of name past
  pub marked : AreOf (λ k. is_named k past) false tokens marks
  pub known : AreOf (visible name past) None tokens column

mark_by : (b : Bool) (past : List Event) (t k : ℕ) (marks : List Bool) → (k == t) ≡ b → k < length marks → slice_index_or marks k false ≡ is_named k past
    → slice_index_or (set marks t true) k false ≡ (b || is_named k past)
mark_by true past t k marks e low h = ap (λ (x : ℕ). slice_index_or (set marks x true) k false) (sym (eqb-true k t e)) ∙ get_or-set_same marks k true false low
mark_by false past t k marks e low h = get_or-set_other marks t k true false (λ q. eqb-false k t e q) ∙ h

marked : (past : List Event) (tokens : ℕ) (marks : List Bool) (event : Event) → AreOf (λ k. is_named k past) false tokens marks
    → AreOf (λ k. is_named k (event ∷ past)) false tokens (marked_by event marks)
marked past tokens marks (Name t r) h = record {
  count = length-set marks t true ∙ h.count;
  each = λ k low. mark_by (k == t) past t k marks refl (let c = h.count in omega (arith, low, c)) (h.each k low);
}
marked past tokens marks Opens h = record { count = h.count; each = h.each }
marked past tokens marks Closes h = record { count = h.count; each = h.each }
marked past tokens marks (Member t k) h = record { count = h.count; each = h.each }
marked past tokens marks (Node i) h = record { count = h.count; each = h.each }

length_by : (b : Bool) (t : ℕ) (column : List (Option ℕ)) (found : Option ℕ) → length (if b then column else set column t found) ≡ length column
length_by true t column found = refl
length_by false t column found = length-set column t found

set_here : (b : Bool) (name : ℕ → ℕ) (past : List Event) (t : ℕ) (column : List (Option ℕ)) (found : Option ℕ) → t < length column
    → found ≡ latest name (name t) zero past → slice_index_or column t None ≡ visible name past t
    → slice_index_or (if b then column else set column t found) t None ≡ (if not b then latest name (name t) zero past else visible name past t)
set_here true name past t column found low f h = h
set_here false name past t column found low f h = get_or-set_same column t found None low ∙ f

set_there : (b : Bool) (t k : ℕ) (column : List (Option ℕ)) (found : Option ℕ) → (k == t) ≡ false
    → slice_index_or (if b then column else set column t found) k None ≡ slice_index_or column k None
set_there true t k column found e = refl
set_there false t k column found e = get_or-set_other column t k found None (λ q. eqb-false k t e q)

set_by : (b : Bool) (name : ℕ → ℕ) (past : List Event) (t k : ℕ) (marks : List Bool) (column : List (Option ℕ)) (found : Option ℕ) → (k == t) ≡ b
    → k < length column → found ≡ latest name (name t) zero past → slice_index_or marks k false ≡ is_named k past
    → slice_index_or column k None ≡ visible name past k
    → slice_index_or (if slice_index_or marks t false then column else set column t found) k None
    ≡ (if b && not (is_named k past) then latest name (name t) zero past else visible name past k)
set_by true name past t k marks column found e low f m h =
    ap (λ (x : ℕ). slice_index_or (if slice_index_or marks x false then column else set column x found) k None) (sym (eqb-true k t e))
    ∙ set_here (slice_index_or marks k false) name past k column found low (f ∙ ap (λ (x : ℕ). latest name (name x) zero past) (sym (eqb-true k t e))) h
    ∙ ap (λ (x : ℕ). if not (slice_index_or marks k false) then latest name (name x) zero past else visible name past k) (eqb-true k t e)
    ∙ ap (λ (x : Bool). if not x then latest name (name t) zero past else visible name past k) m
set_by false name past t k marks column found e low f m h = set_there (slice_index_or marks t false) t k column found e ∙ h

seen : (name : ℕ → ℕ) (past : List Event) (tokens : ℕ) (stack : List Binding) (marks : List Bool) (column : List (Option ℕ)) (event : Event)
    → stack ≡ stack_of name past → AreOf (λ k. is_named k past) false tokens marks → AreOf (visible name past) None tokens column
    → AreOf (visible name (event ∷ past)) None tokens (seen_by name event stack marks column)
seen name past tokens stack marks column (Name t r) s m h = record {
  count = length_by (slice_index_or marks t false) t column (found_in stack (name t)) ∙ h.count;
  each = λ k low.
      set_by (k == t) name past t k marks column (found_in stack (name t)) refl (let c = h.count in omega (arith, low, c))
      (ap (λ x. found_in x (name t)) s ∙ sym (looked name (name t) zero past)) (m.each k low) (h.each k low);
}
seen name past tokens stack marks column Opens s m h = record { count = h.count; each = h.each }
seen name past tokens stack marks column Closes s m h = record { count = h.count; each = h.each }
seen name past tokens stack marks column (Member t k) s m h = record { count = h.count; each = h.each }
seen name past tokens stack marks column (Node i) s m h = record { count = h.count; each = h.each }

-- one event more
pub followed : (name : ℕ → ℕ) (events : List Event) (k tokens : ℕ) (event : Event) (stack stack' : List Binding) (marks marks' : List Bool)
    (column column' : List (Option ℕ))
    → IsKept name (past_of events k) tokens stack marks column → slice_get events k ≡ Some event
    → stack' ≡ entered name event stack → marks' ≡ marked_by event marks → column' ≡ seen_by name event stack marks column
    → IsKept name (past_of events (k + 1)) tokens stack' marks' column'
followed name events k tokens event stack stack' marks marks' column column' h e s m c =
    let step : suc k ≡ k + 1 = omega arith in
    let is : past_of events (k + 1) ≡ event ∷ past_of events k = ap (past_of events) (sym step) ∙ ap (λ x. with_event x (past_of events k)) e in
    rw is record {
      opened = s ∙ ap (entered name event) h.opened;
      marked = rw m (marked (past_of events k) tokens marks event h.marked);
      known = rw c (seen name (past_of events k) tokens stack marks column event h.opened h.marked h.known);
    }
