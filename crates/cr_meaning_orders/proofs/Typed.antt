-- In a typed program, what is known of worlds.
use Rattle.std.proofs.Common.{◌≡◌, refl, sym, ◌∙◌, ap, subst, inl, inr}
use Rattle.std.specs.Prelude.{ℕ, Bool, true, Option, Some, List, [], length, slice_get, ◌⊎◌}
use Rattle.std.proofs.lemmas.Bool.{false≢true}
use Rattle.cr_meaning.specs.declared.op.Callee.TheVariants.{Function}
use Rattle.cr_meaning.specs.declared.op.Work.{Work}
use Rattle.cr_meaning.specs.declared.op.Work.TheVariants as work
use Rattle.cr_footprint.specs.Cell.{Cell as Place}
use Rattle.cr_memory.specs.Memory.{Memory}
use Rattle.cr_meaning.specs.Language.{Reply, gave, ended}
use Rattle.cr_meaning.specs.World.{Program, World, Binding, Answer, Halt, stopped, exited}
use Rattle.cr_meaning.specs.declared.run.Limits.{Limits}
use Rattle.cr_meaning.specs.declared.run.Run.TheVariants as run
use Rattle.cr_memory.specs.declared.value.Trap.TheVariants.{Undefined, Left, NoMemory}
use Rattle.cr_meaning.specs.Nodes.{events_of}
use Rattle.cr_meaning.specs.Meaning.{Goal, reach, operands, body, root_of, start_of, run_of}
use Rattle.cr_meaning_soundness.specs.Sorts.{Sort, IsAmong, IsSound, AreEntered, IsWellFormed}
use Rattle.cr_meaning_soundness.specs.Rules.{AreTyped}
use Rattle.cr_meaning_soundness.specs.Scopes.{IsPart, AreSeen, entered_by, is_open}
use Rattle.cr_meaning_orders.specs.Owned.{AreOwned, objects_of, hands_on}
use Rattle.cr_meaning_soundness.proofs.Expressions.{anything}
use Rattle.cr_meaning_soundness.proofs.Given.{at_well}
use Rattle.cr_meaning_soundness.proofs.Going.{Pre, Post}
use Rattle.cr_meaning_soundness.proofs.Running.{goal_holds, replied, any_course, nothing_seen, unseen}
use Rattle.cr_meaning_soundness.proofs.Worlds.{start_is_well_formed}
use Rattle.cr_meaning_orders.specs.Laws
use Rattle.cr_meaning_seen.specs.Seen.{Forest, bare, node, Sees}
use Rattle.cr_meaning_orders.specs.AnyOrder.{is_free, lifted, AnyRuns, whole_of}
use Rattle.cr_meaning_orders.specs.Fixed.{Spares, IsFixed}
use Rattle.cr_meaning_orders.proofs.Orders.{IsGood, IsOperand, Loudness}
use Rattle.cr_meaning_orders.proofs.Steady.{steady}
use Rattle.cr_meaning_orders.proofs.Whole.{any_order}
use Rattle.cr_meaning_seen.proofs.Seeing.{sights_are_runs, runs_are_seen}
use Rattle.cr_meaning_seen.proofs.Single.{sights_are_one}
use Rattle.cr_meaning_orders.proofs.Resting.{onward, back, counts}
use Rattle.cr_meaning_orders.proofs.Loud.{rests}

-- an operand that is free in its order is a part, and its node hands no declarators on
is_part : (w : Work) (parts : List ℕ) (place part : ℕ) → is_free w ≡ true → slice_get parts place ≡ Some part → IsPart w parts place part
is_part (work.Binary change) parts place part f e = e
is_part (work.Compare relation kind) parts place part f e = e
is_part (work.ComparePointers relation) parts place part f e = e
is_part (work.Distance cells) parts place part f e = e
is_part (work.Subscript cells) parts place part f e = e
is_part (work.Assign form) parts place part f e = e
is_part (work.Update change form volatile post) parts place part f e = e
is_part (work.Call (Function parameters rest is_main)) parts place part f e = inl e
is_part (work.Call callee) parts place part f e = e
is_part (work.Initialise declared lines) parts place part f e = e
is_part w parts place part f e = absurd (false≢true f)

by_work : {A B : Type 0} (declared : ℕ) (w : Work) → is_free w ≡ true → ((hands_on w ≡ true) × A) ⊎ (B × IsAmong declared (objects_of w)) → ⊥
by_work declared (work.Binary change) f (inl h) = false≢true h.0
by_work declared (work.Compare relation kind) f (inl h) = false≢true h.0
by_work declared (work.ComparePointers relation) f (inl h) = false≢true h.0
by_work declared (work.Distance cells) f (inl h) = false≢true h.0
by_work declared (work.Subscript cells) f (inl h) = false≢true h.0
by_work declared (work.Assign form) f (inl h) = false≢true h.0
by_work declared (work.Update change form volatile post) f (inl h) = false≢true h.0
by_work declared (work.Call callee) f (inl h) = false≢true h.0
by_work declared (work.Initialise other lines) f (inl h) = false≢true h.0
by_work declared (work.Binary change) f (inr h) = h.1
by_work declared (work.Compare relation kind) f (inr h) = h.1
by_work declared (work.ComparePointers relation) f (inr h) = h.1
by_work declared (work.Distance cells) f (inr h) = h.1
by_work declared (work.Subscript cells) f (inr h) = h.1
by_work declared (work.Assign form) f (inr h) = h.1
by_work declared (work.Update change form volatile post) f (inr h) = h.1
by_work declared (work.Call callee) f (inr h) = h.1
by_work declared (work.Initialise other lines) f (inr h) = h.1
by_work declared w f h = absurd (false≢true f)

module _ (p : Program) (sorts : ℕ → Option Sort) (typed : AreTyped p sorts) where
  abbrev Known : Goal → World → Type 0
  Known g s = Pre p sorts nothing_seen g s

  pub well_of : (g : Goal) (w : World) → Known g w → IsWellFormed p w
  well_of (reach number) w j = j.well
  well_of (operands number done) w (inl j) = at_well p (entered_by j.op.work) (is_open j.op.work j.op.parts (length done)) j.base w j.at
  well_of (operands number done) w (inr j) = j.well

  pub elsewhere : (number : ℕ) (s : World) → Known (reach number) s → (g : Goal) (w : World) → Known g w → (x : World) → x.memory ≡ w.memory → x.bindings ≡ w.bindings → x.bindings ≡ s.bindings → Known (reach number) x
  elsewhere number s i g w j x memory bindings same =
      let well = well_of g w j in
      let S : Memory → Type 0 = IsSound in
      let E : Memory → Type 0 = λ m. AreEntered p m w.bindings in
      let F : List Binding → Type 0 = λ b. AreEntered p x.memory b in
      let V : List Binding → Type 0 = λ b. AreSeen nothing_seen number b in
      record {
        own = i.own;
        has = i.has;
        well = record { sound = subst S (sym memory) well.sound; entered = subst F (sym bindings) (subst E (sym memory) well.entered) };
        seen = subst V (sym same) i.seen;
      }

  module _ (owns : ℕ → ℕ → Bool) (owned : AreOwned p owns) where
    abbrev IsFree : ℕ → Type 0
    IsFree number = IsOperand p (steady p) Known (Post anything p sorts nothing_seen) (goal_holds anything p sorts nothing_seen (any_course p sorts typed)) elsewhere number

    -- no declarator stands in an operand
    none_owned : (number declared : ℕ) → IsFree number → owns number declared ≡ true → ⊥
    none_owned number declared i o = by_work declared i.op.work i.free (owned.parts i.number i.op i.place number declared i.op_is (is_part i.op.work i.op.parts i.place number i.free i.at) o)

    changes : (kept : Place → Bool) (number : ℕ) (u v : World) (answer : Answer) (inner : Forest) → IsFree number → Known (reach number) u → Sees p (body p (reach number)) u (gave answer v) inner
        → Spares kept (node number inner (Some (events_of answer)) bare)
        → Loudness p (steady p) Known (Post anything p sorts nothing_seen) (goal_holds anything p sorts nothing_seen (any_course p sorts typed)) elsewhere kept u v
    changes kept number u v answer inner free know run spared =
        let keeps = replied anything p sorts nothing_seen (any_course p sorts typed) (reach number) u know (gave answer v) (sights_are_runs p (body p (reach number)) u (gave answer v) inner run) in
        let rest = rests p sorts owns typed owned kept number u v answer inner (λ declared o. none_owned number declared free o) know run spared in
        record {
          bindings = keeps.bindings;
          onward = onward kept u.memory v.memory keeps.continues rest;
          back = back kept u.memory v.memory keeps.continues rest;
          counts = λ n number b. counts kept u.memory v.memory keeps.continues rest number;
        }

    -- where the order is fixed in a typed program's run from left to right, all its runs come to the same
    pub typed_order : (g : Goal) (s : World) (r other : Reply Answer World Halt) (forest : Forest) → Known g s → Sees p (body p g) s r forest → IsFixed p forest → IsGood r → AnyRuns p (lifted (body p g)) s other → other ≡ r
    typed_order g s r other forest know run fixed good any =
        any_order p Known (Post anything p sorts nothing_seen) (goal_holds anything p sorts nothing_seen (any_course p sorts typed)) elsewhere changes g s r other forest know run fixed good any

good_end : (limits : Limits) (r : Reply Answer World Halt) (status : ℕ) (output : List ℕ) (steps : ℕ) → run_of limits r ≡ Some (run.Ended status output steps) → IsGood r
good_end limits (gave answer t) status output steps e = tt
good_end limits (ended (exited code t)) status output steps e = tt
good_end limits (ended (stopped (Undefined number) at)) status output steps e = absurd cc
good_end limits (ended (stopped (Left number) at)) status output steps e = absurd cc
good_end limits (ended (stopped NoMemory at)) status output steps e = absurd cc

pub fixed_programs_run_alike : Laws.FixedProgramsRunAlike
fixed_programs_run_alike p sorts owns typed owned few f other any =
    typed_order p sorts typed.nodes owns owned (operands (root_of p) []) (start_of p.limits) f.reply other f.forest
    (inr (record {
      op = typed.op;
      op_is = typed.is_root;
      whole = typed.whole;
      scoped = record { part_sees = λ k m declared e d. unseen m declared _ d; rest_sees = λ declared d. unseen typed.whole.rest declared _ d };
      well = start_is_well_formed p p.limits few;
      given = tt;
      begun = inl refl;
    })) f.seen f.fixed (good_end p.limits f.reply f.status f.output f.steps f.ends) any

pub fixed_programs_mean_one_thing : Laws.FixedProgramsMeanOneThing
fixed_programs_mean_one_thing p sorts owns typed owned few f one other means any =
    let sight = runs_are_seen p (whole_of p) (start_of p.limits) means.reply means.runs in
    let same : f.reply ≡ means.reply = (sights_are_one p (whole_of p) (start_of p.limits) f.reply means.reply f.forest sight.0 f.seen sight.1).0 in
    let alike : any.reply ≡ f.reply = fixed_programs_run_alike p sorts owns typed owned few f any.reply any.runs in
    one_run (sym any.comes ∙ (ap (λ r. run_of p.limits r) (alike ∙ same) ∙ means.comes))
  where
    one_run : Some other ≡ Some one → other ≡ one
    one_run e = cc
