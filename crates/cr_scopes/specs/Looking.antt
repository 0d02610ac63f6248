-- Names in scope, by looking back from a place over the events before it, the latest first (C11 6.2.1 to 6.2.3). The name of
-- a token is given by `name`, and equal names are equal numbers.
use Rattle.std.specs.Prelude.{ℕ, zero, suc, ◌-◌, ◌==◌, Bool, true, false, ◌&&◌, ◌||◌, List, [], ◌∷◌, Option, None, Some, if◌then◌else◌}
use Rattle.std.specs.Option.{is_some}
use Rattle.cr_scopes_events.specs.declared.event.Role.{Role}
use Rattle.cr_scopes_events.specs.declared.event.Role.TheVariants as role
use Rattle.cr_scopes_events.specs.declared.event.Event.{Event}
use Rattle.cr_scopes_events.specs.declared.event.Event.TheVariants.{Node, Opens, Closes, Name, Member}
use Rattle.cr_scopes.specs.declared.scope.Space.{Space}
use Rattle.cr_scopes.specs.declared.scope.Space.TheVariants.{Ordinary, Tag, Content}
use Rattle.cr_scopes.specs.declared.scope.Place.{Place}
use Rattle.cr_scopes.specs.declared.scope.Place.TheVariants.{Nowhere, In, WithContent}
use Rattle.cr_scopes.specs.declared.scope.Found.{Found}
use Rattle.cr_scopes.specs.declared.scope.Look.{Look}

-- the first of two that is there
abbrev pub or_else : {A : Type 0} → Option A → Option A → Option A
or_else None y = y
or_else (Some x) y = Some x

abbrev pub or_given : Option ℕ → ℕ → ℕ
or_given None t = t
or_given (Some x) t = x

-- Linkage.

-- how many scopes are open, that of the file aside
abbrev pub depth : List Event → ℕ
depth [] = 0
depth (Opens ∷ past) = suc (depth past)
depth (Closes ∷ past) = depth past - 1
depth (Name t r ∷ past) = depth past
depth (Member t k ∷ past) = depth past
depth (Node i ∷ past) = depth past

abbrev pub is_outermost : List Event → Bool
is_outermost past = depth past == 0

-- what has linkage (6.2.2p3 to p6): functions, what is declared `extern`, and the objects of the file scope
abbrev pub links : Bool → Role → Bool
links outermost role.Function = true
links outermost role.ExternObject = true
links outermost role.Object = outermost
links outermost written = false

abbrev pub is_linked : (ℕ → ℕ) → ℕ → List Event → ℕ → Role → Bool
is_linked name s past t r = (name t == s) && links (is_outermost past) r

-- the first declaration with linkage of a name, in whatever scope
abbrev pub linked : (ℕ → ℕ) → ℕ → List Event → Option ℕ
linked name s [] = None
linked name s (Name t r ∷ past) = or_else (linked name s past) (if is_linked name s past t r then Some t else None)
linked name s (Opens ∷ past) = linked name s past
linked name s (Closes ∷ past) = linked name s past
linked name s (Member t k ∷ past) = linked name s past
linked name s (Node i ∷ past) = linked name s past

-- Scopes.

abbrev pub same_space : Space → Space → Bool
same_space Ordinary Ordinary = true
same_space Tag Tag = true
same_space Content Content = true
same_space other space = false

-- where a name of some role is declared (6.2.3)
abbrev pub place_of : Role → Place
place_of role.Content = WithContent
place_of role.Alone = In Tag
place_of role.Mentioned = In Tag
place_of role.Used = Nowhere
place_of written = In Ordinary

abbrev pub stands_by : Place → Space → Bool
stands_by Nowhere space = false
stands_by (In place) space = same_space place space
stands_by WithContent space = same_space Tag space || same_space Content space

abbrev pub stands_in : Space → Role → Bool
stands_in space written = stands_by (place_of written) space

abbrev pub is_mention : Role → Bool
is_mention role.Mentioned = true
is_mention written = false

-- What a declaration declares that repeats none in its scope: what the file has linked by that name before (6.2.2p2), or
-- something new.
abbrev pub begun_by : Bool → Option ℕ → ℕ → Role → Found
begun_by outermost known t r = record { first = if links outermost r then or_given known t else t; role = r }

abbrev pub begun : (ℕ → ℕ) → List Event → ℕ → Role → Found
begun name past t r = begun_by (is_outermost past) (linked name (name t) past) t r

-- A declaration in the innermost scope: what that scope has already stays. A tag that is mentioned declares nothing where
-- one is in scope (6.7.2.3p8, p9).
abbrev pub noted : Found → Look → Look
noted found look =
    if is_mention found.role && is_some look.seen then look
    else record { here = or_else look.here (Some found); seen = or_else look.here (Some found) }

abbrev pub noted_if : Bool → Found → Look → Look
noted_if true found look = noted found look
noted_if false found look = look

abbrev pub unseen : Look
unseen = record { here = None; seen = None }

-- What looking back finds of a name, over so many scopes that ended: in the innermost scope that is open then, and in the
-- innermost that has it (6.2.1p4).
abbrev pub look : (ℕ → ℕ) → Space → ℕ → ℕ → List Event → Look
look name space s d [] = unseen
look name space s d (Closes ∷ past) = look name space s (suc d) past
look name space s zero (Opens ∷ past) = record { here = None; seen = (look name space s zero past).seen }
look name space s (suc d) (Opens ∷ past) = look name space s d past
look name space s zero (Name t r ∷ past) =
    noted_if (stands_in space r && (name t == s)) (begun name past t r) (look name space s zero past)
look name space s (suc d) (Name t r ∷ past) = look name space s (suc d) past
look name space s d (Member t k ∷ past) = look name space s d past
look name space s d (Node i ∷ past) = look name space s d past

-- the first member of a name in a structure
abbrev pub first_member : (ℕ → ℕ) → ℕ → ℕ → List Event → Option ℕ
first_member name structure s [] = None
first_member name structure s (Member t k ∷ past) =
    or_else (first_member name structure s past) (if (k == structure) && (name t == s) then Some t else None)
first_member name structure s (Opens ∷ past) = first_member name structure s past
first_member name structure s (Closes ∷ past) = first_member name structure s past
first_member name structure s (Name t r ∷ past) = first_member name structure s past
first_member name structure s (Node i ∷ past) = first_member name structure s past
