-- What is ruled of a file by what its run reaches.
use Rattle.std.proofs.Common.{◌≡◌, ◌⊎◌, inl, inr, refl, sym, subst, ap, ◌∙◌}
use Rattle.std.specs.Prelude.{ℕ, Bool, true, false, List, Option, None, Some}
use Rattle.cr_typed.specs.declared.typed.Typed.{Typed}
use Rattle.cr_meaning.specs.declared.run.Limits.{Limits}
use Rattle.cr_meaning.specs.declared.run.Run.{Run}
use Rattle.cr_meaning.specs.declared.run.Run.TheVariants as run
use Rattle.cr_meaning_loose.specs.Lists.{around}
use Rattle.cr_meaning_operations.specs.Laws.{Comes}
use Rattle.cr_meaning_operations.specs.Operations.{program_of}
use Rattle.cr_exec.specs.Runs.{Looked, has_come}
use Rattle.cr_cursor.specs.declared.law.Reason.{Reason}
use Rattle.cr_cursor.specs.declared.law.Reason.TheVariants as reason
use Rattle.cr_cursor.specs.declared.law.Ruling.{Ruling}
use Rattle.cr_cursor.specs.declared.law.Ruling.TheVariants as ruling
use Rattle.cr_lawful.specs.Lawful.{IsLawful, IsTypedUnit, Refuses, RefusesFor, node_line, run_ruling}
use Rattle.cr_lawful.specs.Lawful.IsReason.{of_run}
use Rattle.cr_lawful.specs.Laws.{HasOneReason}
use Rattle.cr_lawful.specs.Looks.{Looks}
use Rattle.cr_lawful.specs.Runs.{CameTo}
use Rattle.cr_lawful.proofs.Rulings.{excludes, one_unit}
use Rattle.cr_order.specs.Orders.{OrderRules, ended_in_order, outer_of}
use Rattle.cr_order.specs.Orders.IsOrderReason.{of_law as of_order_law}
use Rattle.cr_order.proofs.Ordering.{came_in_order, excludes_order, one_order_reason, order_looks, order_rules}
use Rattle.cr_reached.specs.Laws
use Rattle.cr_reached.specs.Reached.{IsJudgedIf, IsReachedIn, IsReachReason, ReachRules, TellsReached, against_in, ended_reached, first_label, lawful_in}
use Rattle.cr_reached.specs.Reached.IsReasonOrUnreached.{of_law, of_label}

-- ---- the laws that it stands beside

-- what their rulings say
abbrev InRules : Bool → Limits → List ℕ → Bool → Ruling → Type 0
InRules any_order limits file raised ruling.Lawful = lawful_in any_order limits file
InRules any_order limits file raised (ruling.Unlawful why) = against_in any_order limits file why
InRules any_order limits file raised ruling.Stopped = raised ≡ true
InRules any_order limits file raised ruling.NoMemory = Unit {0}

in_order : (limits : Limits) (file : List ℕ) (raised : Bool) (r : Ruling) → OrderRules limits file raised r → InRules true limits file raised r
in_order limits file raised ruling.Lawful rules = rules
in_order limits file raised (ruling.Unlawful why) rules = rules
in_order limits file raised ruling.Stopped rules = rules
in_order limits file raised ruling.NoMemory rules = tt

excludes_in : (any_order : Bool) (limits : Limits) (file : List ℕ) (why : Reason) → against_in any_order limits file why → lawful_in any_order limits file → ⊥
excludes_in false limits file why against it = excludes limits file why against it
excludes_in true limits file why against it = excludes_order limits file why against it

one_in : HasOneReason → (any_order : Bool) (limits : Limits) (file : List ℕ) (why other : Reason) → against_in any_order limits file why → against_in any_order limits file other → why ≡ other
one_in one false limits file why other it also = one limits file why other it also
one_in one true limits file why other it also = one_order_reason one limits file why other it also

lawful_so : (any_order : Bool) (limits : Limits) (file : List ℕ) → lawful_in any_order limits file → IsLawful limits file
lawful_so false limits file it = it
lawful_so true limits file it = it.lawful

against_so : (any_order : Bool) (file : List ℕ) (raised : Bool) (limits : Limits) (why : Reason) → Refuses file raised (ruling.Unlawful why) → against_in any_order limits file why
against_so false file raised limits why refuses = refuses limits
against_so true file raised limits why refuses = of_order_law (refuses limits)

-- ---- what is ruled

module _ (limits : Limits) (name file : List ℕ) (typed : Typed) (raised : Bool) (it : IsTypedUnit file typed) where
  plain_rules : (outcome : Run) (loose : Option ℕ) → (has_come outcome ≡ true → Comes typed limits outcome) → (has_come outcome ≡ true → loose ≡ None) → (outcome ≡ run.Stopped → raised ≡ true)
      → InRules false limits file raised (run_ruling file typed (ended_in_order outcome loose))
  plain_rules (run.Ended status output steps) None comes none stopped = record { typed = typed; of_file = it; ends = record { status = status; output = output; steps = steps; comes = comes refl } }
  plain_rules (run.Ended status output steps) (Some loose) comes none stopped = absurd (cc (none refl))
  plain_rules (run.Undefined number node) loose comes none stopped = of_run typed (run.Undefined number node) it (comes refl) refl
  plain_rules (run.Left number node) loose comes none stopped = of_run typed (run.Left number node) it (comes refl) refl
  plain_rules run.Stopped loose comes none stopped = stopped refl
  plain_rules run.NoMemory loose comes none stopped = tt

  in_rules : (any_order : Bool) (outcome : Run) (loose : Option ℕ) → (has_come outcome ≡ true → Comes typed limits outcome)
      → (has_come outcome ≡ true → IsJudgedIf any_order (program_of typed limits) (around (outer_of typed)) outcome loose) → (outcome ≡ run.Stopped → raised ≡ true)
      → InRules any_order limits file raised (run_ruling file typed (ended_in_order outcome loose))
  in_rules false outcome loose comes judged stopped = plain_rules outcome loose comes judged stopped
  in_rules true outcome loose comes judged stopped =
      in_order limits file raised (run_ruling file typed (ended_in_order outcome loose)) (order_rules limits file typed raised outcome loose it comes judged stopped)

  -- the ruling on what a run came to, once the other law has ruled
  beside : (any_order : Bool) (outcome : Run) (loose : Option ℕ) (reached : Bool) → InRules any_order limits file raised (run_ruling file typed (ended_in_order outcome loose))
      → (has_come outcome ≡ true → TellsReached limits name typed reached)
      → ReachRules any_order limits name file raised (run_ruling file typed (ended_reached (ended_in_order outcome loose) reached (first_label typed name)))
  beside any_order (run.Ended status output steps) None true rules tells = record { lawful = rules; typed = typed; of_file = it; reached = (tells refl).yes refl }
  beside any_order (run.Ended status output steps) None false rules tells = of_label typed rules it ((tells refl).no refl) refl
  beside any_order (run.Ended status output steps) (Some loose) reached rules tells = of_law rules
  beside any_order (run.Undefined number node) loose reached rules tells = of_law rules
  beside any_order (run.Left number node) loose reached rules tells = of_law rules
  beside any_order run.Stopped loose reached rules tells = rules
  beside any_order run.NoMemory loose reached rules tells = tt

  pub reach_rules : (any_order : Bool) (outcome : Run) (loose : Option ℕ) (reached : Bool) → (has_come outcome ≡ true → Comes typed limits outcome)
      → (has_come outcome ≡ true → IsJudgedIf any_order (program_of typed limits) (around (outer_of typed)) outcome loose) → (outcome ≡ run.Stopped → raised ≡ true)
      → (has_come outcome ≡ true → TellsReached limits name typed reached)
      → ReachRules any_order limits name file raised (run_ruling file typed (ended_reached (ended_in_order outcome loose) reached (first_label typed name)))
  reach_rules any_order outcome loose reached comes judged stopped tells = beside any_order outcome loose reached (in_rules any_order outcome loose comes judged stopped) tells

module _ (limits : Limits) (file : List ℕ) (typed : Typed) (it : IsTypedUnit file typed) (label : ℕ) where
  pub reach_looks : (outcome : Run) (loose : Option ℕ) (reached : Bool) (before after : ℕ) → (has_come outcome ≡ true → Comes typed limits outcome) → Looked outcome limits.steps before after
      → Looks limits file before after (run_ruling file typed (ended_reached (ended_in_order outcome loose) reached label))
  reach_looks (run.Ended status output steps) None true before after comes looked = order_looks limits file typed (run.Ended status output steps) None before after it comes looked
  reach_looks (run.Ended status output steps) None false before after comes looked = tt
  reach_looks (run.Ended status output steps) (Some loose) reached before after comes looked = tt
  reach_looks (run.Undefined number node) loose reached before after comes looked = tt
  reach_looks (run.Left number node) loose reached before after comes looked = tt
  reach_looks run.Stopped loose reached before after comes looked = tt
  reach_looks run.NoMemory loose reached before after comes looked = tt

  -- the end that is left is the file's
  pub reach_came : (outcome : Run) (loose : Option ℕ) (reached : Bool) → (has_come outcome ≡ true → Comes typed limits outcome)
      → CameTo limits file (ended_reached (ended_in_order outcome loose) reached label)
  reach_came (run.Ended status output steps) None true comes = came_in_order limits file typed (run.Ended status output steps) None it comes
  reach_came (run.Ended status output steps) None false comes = tt
  reach_came (run.Ended status output steps) (Some loose) reached comes = tt
  reach_came (run.Undefined number node) loose reached comes = tt
  reach_came (run.Left number node) loose reached comes = tt
  reach_came run.Stopped loose reached comes = tt
  reach_came run.NoMemory loose reached comes = tt

-- what is ruled before the run is ruled
refused : (any_order : Bool) (limits : Limits) (name file : List ℕ) (raised : Bool) (r : Ruling) → Refuses file raised r → ReachRules any_order limits name file raised r
refused any_order limits name file raised ruling.Lawful refuses = absurd refuses
refused any_order limits name file raised (ruling.Unlawful why) refuses = of_law (against_so any_order file raised limits why refuses)
refused any_order limits name file raised ruling.Stopped refuses = refuses
refused any_order limits name file raised ruling.NoMemory refuses = tt

pub rules_in_all : (any_order : Bool) (limits : Limits) (name file : List ℕ) (raised : Bool) (r : Ruling) → Refuses file raised r ⊎ ReachRules any_order limits name file raised r
    → ReachRules any_order limits name file raised r
rules_in_all any_order limits name file raised r (inl refuses) = refused any_order limits name file raised r refuses
rules_in_all any_order limits name file raised r (inr rules) = rules

-- ---- no reason stands against a file that is reached

pub reached_is_lawful : Laws.ReachedFilesAreLawful
reached_is_lawful any_order limits name file it = lawful_so any_order limits file it.lawful

pub excludes_reached : Laws.HasNoReachReason
excludes_reached any_order limits name file why (of_law against) it = excludes_in any_order limits file why against it.lawful
excludes_reached any_order limits name file why (of_label typed lawful of_file unreached is) it =
    unreached (subst (IsReachedIn limits name) (one_unit file it.typed typed it.of_file of_file) it.reached)

pub one_reach_reason : HasOneReason → Laws.HasOneReachReason
one_reach_reason one any_order limits name file why other (of_law it) (of_law also) = one_in one any_order limits file why other it also
one_reach_reason one any_order limits name file why other (of_law it) (of_label typed lawful of_file unreached is) = absurd (excludes_in any_order limits file why it lawful)
one_reach_reason one any_order limits name file why other (of_label typed lawful of_file unreached is) (of_law also) = absurd (excludes_in any_order limits file other also lawful)
one_reach_reason one any_order limits name file why other (of_label typed lawful of_file unreached is) (of_label again too also unmet so) =
    is ∙ ap (λ t. reason.Left 9 (node_line file t (first_label t name))) (one_unit file typed again of_file also) ∙ sym so

-- so a ruling gives it
pub refuses_for : HasOneReason → (any_order : Bool) (limits : Limits) (name file : List ℕ) (raised : Bool) (r : Ruling) (why : Reason) → ReachRules any_order limits name file raised r
    → IsReachReason any_order limits name file why → RefusesFor why r
refuses_for one any_order limits name file raised ruling.Lawful why rules is = excludes_reached any_order limits name file why is rules
refuses_for one any_order limits name file raised (ruling.Unlawful given) why rules is = one_reach_reason one any_order limits name file given why rules is
refuses_for one any_order limits name file raised ruling.Stopped why rules is = tt
refuses_for one any_order limits name file raised ruling.NoMemory why rules is = tt
