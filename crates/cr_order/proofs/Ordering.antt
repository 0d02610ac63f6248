-- What is ruled of a file by the order of its run.
use Rattle.std.proofs.Common.{◌≡◌, ◌⊎◌, inl, inr, refl, sym, subst, ap, ◌∙◌}
use Rattle.std.specs.Prelude.{ℕ, Bool, true, List, Option, None, Some}
use Rattle.cr_typed.specs.declared.typed.Typed.{Typed}
use Rattle.cr_meaning.specs.declared.run.Limits.{Limits}
use Rattle.cr_meaning.specs.declared.run.Run.{Run}
use Rattle.cr_meaning.specs.declared.run.Run.TheVariants as run
use Rattle.cr_meaning.specs.World.{Program}
use Rattle.cr_meaning.specs.Meaning.{start_of}
use Rattle.cr_meaning_operations.specs.Laws.{Comes}
use Rattle.cr_meaning_operations.specs.Operations.{program_of}
use Rattle.cr_meaning_seen.specs.Seen.{Forest}
use Rattle.cr_meaning_seen.proofs.Seeing.{sights_are_runs}
use Rattle.cr_meaning_seen.proofs.Single.{sights_are_one}
use Rattle.cr_meaning_orders.specs.AnyOrder.{whole_of}
use Rattle.cr_meaning_orders.specs.Fixed.{IsFixed, IsOrderFixed}
use Rattle.cr_meaning_loose.specs.Lists.{Lists, around}
use Rattle.cr_meaning_loose.specs.Loose.{Judged}
use Rattle.cr_meaning_loose.proofs.Judging.{loose_is_not_fixed, one_is_first}
use Rattle.cr_order_watch.specs.Judged.{IsJudged}
use Rattle.cr_exec.specs.Runs.{Looked, has_come}
use Rattle.cr_cursor.specs.declared.law.Reason.{Reason}
use Rattle.cr_cursor.specs.declared.law.Reason.TheVariants as reason
use Rattle.cr_cursor.specs.declared.law.Ruling.{Ruling}
use Rattle.cr_cursor.specs.declared.law.Ruling.TheVariants as ruling
use Rattle.cr_lawful.specs.Lawful.{IsLawful, IsReason, IsTypedUnit, Refuses, RefusesFor, node_line, run_ruling}
use Rattle.cr_lawful.specs.Lawful.IsReason.{of_run}
use Rattle.cr_lawful.specs.Laws.{HasOneReason}
use Rattle.cr_lawful.specs.Looks.{Looks}
use Rattle.cr_lawful.specs.Runs.{CameTo}
use Rattle.cr_lawful.proofs.Endings.{came_to}
use Rattle.cr_lawful.proofs.Looks.{run_looks}
use Rattle.cr_lawful.proofs.Rulings.{excludes, one_unit}
use Rattle.cr_order.specs.Laws
use Rattle.cr_order.specs.Orders.{IsLawfulInOrder, IsLooseFirst, IsOrderReason, OrderRules, ended_in_order, outer_of}
use Rattle.cr_order.specs.Orders.IsOrderReason.{of_law, of_order}

-- ---- what is ruled

-- the ruling on what a run came to, by the law of runs in order
pub order_rules : (limits : Limits) (file : List ℕ) (typed : Typed) (raised : Bool) (outcome : Run) (loose : Option ℕ) → IsTypedUnit file typed
    → (has_come outcome ≡ true → Comes typed limits outcome) → (has_come outcome ≡ true → IsJudged (program_of typed limits) (around (outer_of typed)) outcome loose) → (outcome ≡ run.Stopped → raised ≡ true)
    → OrderRules limits file raised (run_ruling file typed (ended_in_order outcome loose))
order_rules limits file typed raised (run.Ended status output steps) None it comes judged stopped =
    let j = judged refl in
    record {
      lawful = record { typed = typed; of_file = it; ends = record { status = status; output = output; steps = steps; comes = comes refl } };
      fixed = record { reply = j.reply; forest = j.forest; status = status; output = output; steps = steps; seen = j.seen; ends = j.comes; fixed = j.judged };
    }
order_rules limits file typed raised (run.Ended status output steps) (Some loose) it comes judged stopped =
    let j = judged refl in
    of_order typed loose it (record { reply = j.reply; forest = j.forest; status = status; output = output; steps = steps; seen = j.seen; ends = j.comes; first = j.judged }) refl
order_rules limits file typed raised (run.Undefined number node) loose it comes judged stopped = of_law (of_run typed (run.Undefined number node) it (comes refl) refl)
order_rules limits file typed raised (run.Left number node) loose it comes judged stopped = of_law (of_run typed (run.Left number node) it (comes refl) refl)
order_rules limits file typed raised run.Stopped loose it comes judged stopped = stopped refl
order_rules limits file typed raised run.NoMemory loose it comes judged stopped = tt

pub order_looks : (limits : Limits) (file : List ℕ) (typed : Typed) (outcome : Run) (loose : Option ℕ) (before after : ℕ) → IsTypedUnit file typed
    → (has_come outcome ≡ true → Comes typed limits outcome) → Looked outcome limits.steps before after
    → Looks limits file before after (run_ruling file typed (ended_in_order outcome loose))
order_looks limits file typed (run.Ended status output steps) None before after it comes looked = run_looks limits file typed (run.Ended status output steps) before after it comes looked
order_looks limits file typed (run.Ended status output steps) (Some loose) before after it comes looked = tt
order_looks limits file typed (run.Undefined number node) loose before after it comes looked = tt
order_looks limits file typed (run.Left number node) loose before after it comes looked = tt
order_looks limits file typed run.Stopped loose before after it comes looked = tt
order_looks limits file typed run.NoMemory loose before after it comes looked = tt

-- the end that is left is the file's
pub came_in_order : (limits : Limits) (file : List ℕ) (typed : Typed) (outcome : Run) (loose : Option ℕ) → IsTypedUnit file typed
    → (has_come outcome ≡ true → Comes typed limits outcome) → CameTo limits file (ended_in_order outcome loose)
came_in_order limits file typed (run.Ended status output steps) None it comes = came_to limits file typed (run.Ended status output steps) it comes
came_in_order limits file typed (run.Ended status output steps) (Some loose) it comes = tt
came_in_order limits file typed (run.Undefined number node) loose it comes = tt
came_in_order limits file typed (run.Left number node) loose it comes = tt
came_in_order limits file typed run.Stopped loose it comes = tt
came_in_order limits file typed run.NoMemory loose it comes = tt

-- what is ruled before the run is ruled
refused : (limits : Limits) (file : List ℕ) (raised : Bool) (r : Ruling) → Refuses file raised r → OrderRules limits file raised r
refused limits file raised ruling.Lawful refuses = absurd refuses
refused limits file raised (ruling.Unlawful why) refuses = of_law (refuses limits)
refused limits file raised ruling.Stopped refuses = refuses
refused limits file raised ruling.NoMemory refuses = tt

pub rules_in_all : (limits : Limits) (file : List ℕ) (raised : Bool) (r : Ruling) → Refuses file raised r ⊎ OrderRules limits file raised r → OrderRules limits file raised r
rules_in_all limits file raised r (inl refuses) = refused limits file raised r refuses
rules_in_all limits file raised r (inr rules) = rules

-- ---- no reason stands against a file that is lawful in order

-- a program whose first loose node is known has no fixed order
not_fixed : (p : Program) (lists : Lists) (loose : ℕ) → IsLooseFirst p lists loose → IsOrderFixed p → ⊥
not_fixed p lists loose it fixed =
    let same = (sights_are_one p (whole_of p) (start_of p.limits) it.reply fixed.reply it.forest fixed.forest it.seen fixed.seen).1 in
    loose_is_not_fixed p lists loose fixed.forest (subst (λ f. Judged p lists f (Some loose)) same it.first) fixed.fixed

-- nor another one that is first
one_loose : (p : Program) (lists : Lists) (one other : ℕ) → IsLooseFirst p lists one → IsLooseFirst p lists other → one ≡ other
one_loose p lists one other it also =
    let same = (sights_are_one p (whole_of p) (start_of p.limits) it.reply also.reply it.forest also.forest it.seen also.seen).1 in
    one_is_first p lists one other also.forest (subst (λ f. Judged p lists f (Some one)) same it.first) also.first

pub excludes_order : Laws.HasNoOrderReason
excludes_order limits file why (of_law reason) it = excludes limits file why reason it.lawful
excludes_order limits file why (of_order typed loose of_file first is) it =
    not_fixed (program_of typed limits) (around (outer_of typed)) loose first
    (subst (λ t. IsOrderFixed (program_of t limits)) (one_unit file it.lawful.typed typed it.lawful.of_file of_file) it.fixed)

-- a file whose first loose node is known is lawful by the law of programs
lawful_by : (limits : Limits) (file : List ℕ) (typed : Typed) (loose : ℕ) → IsTypedUnit file typed → IsLooseFirst (program_of typed limits) (around (outer_of typed)) loose → IsLawful limits file
lawful_by limits file typed loose of_file it =
    let p = program_of typed limits in
    record {
      typed = typed;
      of_file = of_file;
      ends = record {
        status = it.status;
        output = it.output;
        steps = it.steps;
        comes = record { reply = it.reply; runs = sights_are_runs p (whole_of p) (start_of p.limits) it.reply it.forest it.seen; comes = it.ends };
      };
    }

pub one_order_reason : HasOneReason → Laws.HasOneOrderReason
one_order_reason one limits file why other (of_law it) (of_law also) = one limits file why other it also
one_order_reason one limits file why other (of_law it) (of_order typed loose of_file first is) = absurd (excludes limits file why it (lawful_by limits file typed loose of_file first))
one_order_reason one limits file why other (of_order typed loose of_file first is) (of_law also) = absurd (excludes limits file other also (lawful_by limits file typed loose of_file first))
one_order_reason one limits file why other (of_order typed loose of_file first is) (of_order again last too also so) =
    let unit = one_unit file typed again of_file too in
    let node = one_loose (program_of again limits) (around (outer_of again)) loose last (subst (λ t. IsLooseFirst (program_of t limits) (around (outer_of t)) loose) unit first) also in
    is ∙ ap (λ t. reason.Left 8 (node_line file t loose)) unit ∙ ap (λ n. reason.Left 8 (node_line file again n)) node ∙ sym so

-- so a ruling gives it
pub refuses_for : HasOneReason → (limits : Limits) (file : List ℕ) (raised : Bool) (r : Ruling) (why : Reason) → OrderRules limits file raised r → IsOrderReason limits file why → RefusesFor why r
refuses_for one limits file raised ruling.Lawful why rules is = excludes_order limits file why is rules
refuses_for one limits file raised (ruling.Unlawful given) why rules is = one_order_reason one limits file given why rules is
refuses_for one limits file raised ruling.Stopped why rules is = tt
refuses_for one limits file raised ruling.NoMemory why rules is = tt
