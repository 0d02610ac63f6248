-- The rows of refusals, one behind the other.
use Rattle.std.proofs.Common.{◌≡◌, ◌⊎◌, Option, Some, None, inl, inr, refl, sym, subst, ap, ◌∙◌}
use Rattle.std.specs.Option.{option_or}
use Rattle.cr_around.specs.Refusals.{Answers, Else, Row}
use Rattle.cr_around.specs.declared.refusal.Refusal.{Refusal}

-- a row's answer, and else what comes behind it
either : (row : Row) (behind : Option Refusal → Type 0) (first second : Option Refusal) → Answers row first → behind second → Else row behind (option_or first second)
either row behind (Some r) second answers rest = inl answers
either row behind None (Some r) answers rest = inr (answers, rest)
either row behind None None answers rest = (answers, rest)

-- rows, with a place for what comes behind them
abbrev pub Front : Type 1
Front = (Option Refusal → Type 0) → Option Refusal → Type 0

-- these rows and one more
abbrev pub next : Front → Row → Front
next front row behind = front (Else row behind)

-- an answer to these rows
abbrev pub Covers : Front → Option Refusal → Type 1
Covers front first = (behind : Option Refusal → Type 0) (second : Option Refusal) → behind second → front behind (option_or first second)

or_grouped : (a b c : Option Refusal) → option_or a (option_or b c) ≡ option_or (option_or a b) c
or_grouped None b c = refl
or_grouped (Some r) b c = refl

pub one : (row : Row) (first : Option Refusal) → Answers row first → Covers (Else row) first
one row first answers behind second rest = either row behind first second answers rest

-- one row more
pub more : (front : Front) (row : Row) (first second both : Option Refusal) → both ≡ option_or first second → Covers front first → Answers row second → Covers (next front row) both
more front row first second both is covers answers behind third rest =
    subst (λ (r : Option Refusal). front (Else row behind) r)
    (or_grouped first second third ∙ ap (λ (r : Option Refusal). option_or r third) (sym is))
    (covers (Else row behind) (option_or second third) (either row behind second third answers rest))

-- the last row
pub last : (front : Front) (row : Row) (first second all : Option Refusal) → all ≡ option_or first second → Covers front first → Answers row second → front (Answers row) all
last front row first second all is covers answers = subst (λ (r : Option Refusal). front (Answers row) r) (sym is) (covers (Answers row) second answers)
