-- A node's own work: no object is new, and those below a limit are as before but for cells that its events name.
use Rattle.std.proofs.Common.{◌≡◌, refl, sym, ◌∙◌, subst, arith, inl, inr}
use Rattle.std.specs.Prelude.{ℕ, ◌<◌, ◌≤◌, Bool, true, false, IfOk, Option, Some, None, Result, Ok, Err, List, [], ◌∷◌, ◌++◌, map, length, replicate, slice_get, if◌then◌else◌, ◌⊎◌}
use Rattle.std.specs.List.{list_all}
use Rattle.std.proofs.lemmas.Bool.{false≢true}
use Rattle.cr_footprint.specs.Cell.{Cell as Place}
use Rattle.cr_memory.specs.declared.value.Cell.{Cell}
use Rattle.cr_memory.specs.declared.value.Cell.TheVariants.{Unset}
use Rattle.cr_memory.specs.declared.value.Trap.{Trap}
use Rattle.cr_memory.specs.declared.value.Trap.TheVariants.{Undefined}
use Rattle.cr_memory.specs.Memory.{Object, Memory, live_object, count_of, zero_of}
use Rattle.cr_memory.specs.Access.{with_cells}
use Rattle.cr_meaning.specs.Language.{went, halts}
use Rattle.cr_meaning.specs.Events.{operands_clash, clash}
use Rattle.cr_meaning.specs.World.{Program, World, Answer, part, object_for, next, Halt, left_by, exited, untyped}
use Rattle.cr_meaning.specs.Values.{asked, converted}
use Rattle.cr_meaning.specs.Work.{Did, work_of, integer}
use Rattle.cr_meaning.specs.Library.{printf_of, putchar_of, exit_of}
use Rattle.cr_meaning.specs.Nodes.{Act, stops, resulting, value_of, values, events_of, order_of, all_events, evaluated, expression, after_library, library, with_parts, zeroed, initials, initialised, on_object}
use Rattle.cr_meaning.specs.Meaning.{join_by, if_end, while_end, do_end, for_end, return_end}
use Rattle.cr_meaning.specs.declared.op.Op.{Op}
use Rattle.cr_meaning.specs.declared.op.Form.{Form}
use Rattle.cr_meaning.specs.declared.op.Form.TheVariants as form
use Rattle.cr_meaning.specs.declared.op.Callee.{Callee}
use Rattle.cr_meaning.specs.declared.op.Callee.TheVariants.{Function, Printf, Putchar, Exit, Abort}
use Rattle.cr_meaning.specs.declared.op.Work.{Work}
use Rattle.cr_meaning.specs.declared.op.Work.TheVariants as work
use Rattle.cr_meaning.specs.declared.value.Value.{Value}
use Rattle.cr_meaning.specs.declared.value.Value.TheVariants.{Cells}
use Rattle.cr_meaning_soundness.specs.Sorts.{Sort, sort_of, Fits, AreEntered}
use Rattle.cr_meaning_soundness.specs.Statements.{Converts}
use Rattle.cr_meaning_soundness.specs.Rules.{Gives}
use Rattle.cr_meaning_soundness.specs.Scopes.{is_open}
use Rattle.cr_meaning_soundness.proofs.Cells.{as_many}
use Rattle.cr_meaning_soundness.proofs.Works.{converted_fits}
use Rattle.cr_meaning_soundness.proofs.Given.{IsGiven, AreGiven, value_fits}
use Rattle.cr_meaning_orders.specs.Fixed.{spares}
use Rattle.cr_meaning_orders.specs.Owned.{AreOwned}
use Rattle.cr_meaning_frames.proofs.Working.{all_left}
use Rattle.cr_meaning_orders.proofs.Changing.{Sized, Changes}
use Rattle.cr_meaning_orders.proofs.Leaving.{AreSized, stays_work}
use Rattle.cr_meaning_orders.proofs.Stepping.{Steps, AreBelow, steps_self, steps_on, steps_like, below_like, IsWritten, written, Above, left_lives, steps_left, entered_lives}
use Rattle.cr_meaning_orders.proofs.Opening.{Within}

abbrev pub Spared : (Place → Bool) → Answer → Type 0
Spared kept answer = list_all (spares kept) (events_of answer) ≡ true

-- ---- the values of an assignment

sized_by : (p : Program) (memory : Memory) (f : Form) (sort : Sort) (value new : Value) → Converts p f sort → Fits memory sort value → converted memory f value ≡ Ok new → Sized p f new
sized_by p memory f sort value new c h e =
    let F : Result Value Trap → Type 0 = λ r. IfOk r (Fits memory (sort_of p f)) in
    fitting f new (subst F e (converted_fits p memory f sort value c h))
  where
    fitting : (f : Form) (new : Value) → Fits memory (sort_of p f) new → Sized p f new
    fitting (form.Cells row) (Cells held) h = as_many memory (p.kinds row) held h
    fitting f new h = tt

pub sized : (kept : Place → Bool) (p : Program) (sorts : ℕ → Option Sort) (op : Op) (w : Work) (own : Sort) (done : List Answer) (s : World) → Gives p sorts op w own → AreGiven p sorts w op.parts s.memory 0 done → AreSized kept p s w (values done)
sized kept p sorts op (work.Assign f) own [] s g given = tt
sized kept p sorts op (work.Assign f) own (one ∷ []) s g given = tt
sized kept p sorts op (work.Assign f) own (one ∷ other ∷ []) s g given = by_given given.1.0
  where
    by_given : IsGiven p sorts (work.Assign f) op.parts s.memory 1 other → (new : Value) → converted s.memory f (value_of other) ≡ Ok new → Sized p f new
    by_given (inl i) new e = sized_by p s.memory f i.sort (value_of other) new (g.1.1 i.node i.sort i.is_part i.has) (value_fits p s.memory i.sort other i.fits) e
    by_given (inr filler) new e = absurd filler
sized kept p sorts op (work.Assign f) own (one ∷ other ∷ third ∷ more) s g given = tt
sized kept p sorts op w own done s g given = tt

-- ---- what own work leaves

pub record IsJoined (kept : Place → Bool) (limit count : ℕ) (s : World) (memory : Memory) : Type 0 where
  pub steps : Steps kept limit s.memory memory
  pub below : AreBelow count memory

module _ (kept : Place → Bool) (p : Program) (sorts : ℕ → Option Sort) (owns : ℕ → ℕ → Bool) (owned : AreOwned p owns) (limit count node : ℕ) (s : World) (entered : AreEntered p s.memory s.bindings) where
  abbrev pub Joins : Act → Type 0
  Joins acted = (v : Answer) (t : World) → acted ≡ went v t → Spared kept v → IsJoined kept limit count s t.memory

  joins_to : (v : Answer) (t : World) → IsJoined kept limit count s t.memory → Joins (went v t)
  joins_to v t i v' t' e spared = let F : World → Type 0 = λ x. IsJoined kept limit count s x.memory in let is : t ≡ t' = cc in subst F is i

  joins_halts : (h : Halt) → Joins (halts h)
  joins_halts h v t e = absurd cc

  joins_resulting : {A : Type 0} (at : ℕ) (r : Result A Trap) (f : A → Act) → ((a : A) → r ≡ Ok a → Joins (f a)) → Joins (resulting at r f)
  joins_resulting at (Ok a) f h = h a refl
  joins_resulting at (Err trap) f h = joins_halts _

  joins_unless : (c : Bool) (trap : Trap) (at : ℕ) (rest : Act) → Joins rest → Joins (if c then stops trap at else rest)
  joins_unless true trap at rest h = joins_halts _
  joins_unless false trap at rest h = h

  module _ (w : Work) (b : Bool) (i : Within owns w b limit count node s) where
    -- a block that wasn't entered
    here : b ≡ false → IsJoined kept limit count s s.memory
    here before = record { steps = steps_self kept limit s.memory; below = λ number object e. either number (i.lived number object e) }
      where
        either : (number : ℕ) → (number < count) ⊎ ((b ≡ true) × Above number s.bindings) → number < count
        either number (inl h) = h
        either number (inr h) = absurd (false≢true (sym before ∙ h.0))

    left : IsJoined kept limit count s (left_by s.memory s.bindings).0
    left = record { steps = steps_left kept limit s.memory s.bindings; below = λ number object e. let l = left_lives s.memory s.bindings number object e in either number l.1 (i.lived number object l.0) }
      where
        either : (number : ℕ) → (Above number s.bindings → ⊥) → (number < count) ⊎ ((b ≡ true) × Above number s.bindings) → number < count
        either number none (inl h) = h
        either number none (inr h) = absurd (none h.1)

    -- ---- expressions

    joins_evaluated : (v : Work) (done : List Answer) (r : Result Did Trap) → b ≡ false → Changes kept p s.memory r → Joins (resulting node r (evaluated node v done s))
    joins_evaluated v done (Err trap) before h = joins_halts _
    joins_evaluated v done (Ok did) before h = joins_unless (clash did.events (all_events v done)) (Undefined 12) node _ spared
      where
        changed : list_all (spares kept) (did.events ++ all_events v done) ≡ true → IsJoined kept limit count s did.memory
        changed e =
            let like = h (all_left (spares kept) did.events (all_events v done) e) in
            record { steps = steps_like kept limit s.memory did.memory like; below = below_like kept count s.memory did.memory like (here before).below }

        spared : Joins (went (part did.value (did.events ++ all_events v done)) (record s { memory = did.memory }))
        spared answer t e k =
            let F : World → Type 0 = λ x. IsJoined kept limit count s x.memory in
            let A : Answer → Type 0 = λ x. Spared kept x in
            let is : record s { memory = did.memory } ≡ t = cc in
            let same : part did.value (did.events ++ all_events v done) ≡ answer = cc in
            subst F is (changed (subst A (sym same) k))

    joins_expression : (op : Op) (done : List Answer) → b ≡ false → AreSized kept p s op.work (values done) → Joins (expression p node op done s)
    joins_expression op done before z =
        joins_unless (operands_clash (order_of op.work done) 0 (map events_of done)) (Undefined 12) node _
        (joins_evaluated op.work done (work_of p s op.work op.access (values done)) before (stays_work kept p s op.work op.access (values done) z))

    -- ---- calls

    joins_library : (v : Work) (callee : Callee) (done : List Answer) → b ≡ false → Joins (library p node v callee done s)
    joins_library v (Printf texts) done before = joins_resulting node (printf_of p s texts (values done)) (after_library v done s) (λ called e. joins_to _ _ (here before))
    joins_library v Putchar done before = joins_resulting node (putchar_of p s (values done)) (after_library v done s) (λ called e. joins_to _ _ (here before))
    joins_library v Exit done before = joins_resulting node (exit_of (values done)) (λ status. halts (exited status s)) (λ status e. joins_halts _)
    joins_library v Abort done before = joins_halts _
    joins_library v (Function parameters rest is_main) done before = joins_halts _

    joins_call : (v : Work) (callee : Callee) (done : List Answer) → b ≡ false → Joins (if operands_clash (order_of v done) 0 (map events_of done) then stops (Undefined 12) node else library p node v callee done s)
    joins_call v callee done before = joins_unless (operands_clash (order_of v done) 0 (map events_of done)) (Undefined 12) node _ (joins_library v callee done before)

    -- ---- statements

    joins_controlled : (control : Answer) → b ≡ false → Joins (resulting node (asked s.memory (value_of control)) (λ _. went next s))
    joins_controlled control before = joins_resulting node (asked s.memory (value_of control)) (λ _. went next s) (λ a e. joins_to _ _ (here before))

    joins_if : (done : List Answer) → b ≡ false → Joins (if_end node done s)
    joins_if [] before = joins_to _ _ (here before)
    joins_if (control ∷ []) before = joins_controlled control before
    joins_if (control ∷ other ∷ more) before = joins_to _ _ (here before)

    joins_while : (done : List Answer) → b ≡ false → Joins (while_end node done s)
    joins_while [] before = joins_to _ _ (here before)
    joins_while (control ∷ []) before = joins_controlled control before
    joins_while (control ∷ other ∷ more) before = joins_to _ _ (here before)

    joins_do : (done : List Answer) → b ≡ false → Joins (do_end node done s)
    joins_do [] before = joins_to _ _ (here before)
    joins_do (first ∷ []) before = joins_to _ _ (here before)
    joins_do (first ∷ control ∷ []) before = joins_controlled control before
    joins_do (first ∷ control ∷ other ∷ more) before = joins_to _ _ (here before)

    joins_for : (done : List Answer) → Joins (for_end node done s)
    joins_for [] = joins_to _ _ left
    joins_for (begun ∷ []) = joins_to _ _ left
    joins_for (begun ∷ control ∷ []) = joins_resulting node (asked s.memory (value_of control)) _ (λ a e. joins_to _ _ left)
    joins_for (begun ∷ control ∷ other ∷ more) = joins_to _ _ left

    joins_return : (f : Form) (done : List Answer) → b ≡ false → Joins (return_end node f done s)
    joins_return f [] before = joins_to _ _ (here before)
    joins_return f (answer ∷ rest) before = joins_resulting node (converted s.memory f (value_of answer)) _ (λ value e. joins_to _ _ (here before))

    -- ---- declarators

    joined_written : (number : ℕ) (memory : Memory) → b ≡ false → IsWritten kept limit count number s.memory memory → IsJoined kept limit count s memory
    joined_written number memory before i = record { steps = i.steps; below = i.below (here before).below }

    parts_written : (number : ℕ) (memory : Memory) (sets : List (ℕ × List Cell)) → limit ≤ number → IsWritten kept limit count number s.memory memory → IsWritten kept limit count number s.memory (with_parts memory number sets)
    parts_written number memory [] above h = h
    parts_written number memory (set ∷ rest) above h =
        let n = written kept limit count memory number set.0 set.1 h.live h.lives above in
        parts_written number (with_cells memory number set.0 set.1) rest above (record {
          steps = steps_on kept limit s.memory memory (with_cells memory number set.0 set.1) h.longer h.steps n.steps;
          longer = let x = h.longer in let y = n.longer in omega (arith, x, y);
          below = λ k. n.below (h.below k);
          live = n.live;
          lives = n.lives;
        })

    joins_on : (declared : ℕ) (f : ℕ → Act) → owns node declared ≡ true → ((number : ℕ) (live : Object) → live_object s.memory number ≡ Some live → limit ≤ number → Joins (f number)) → Joins (on_object node s declared f)
    joins_on declared f own h = by_object (object_for s.bindings declared) refl
      where
        by_object : (o : Option ℕ) → object_for s.bindings declared ≡ o → Joins (elim o as (λ _. Act) [ Some object ↦ f object | None ↦ stops untyped node ])
        by_object None e = joins_halts _
        by_object (Some number) e = let live = entered_lives p s.memory declared number s.bindings entered e in h number live.0 live.1 (i.owned declared own number e)

    joins_initialised : (declared number : ℕ) (live : Object) (r : Result (List (ℕ × List Cell)) (Trap × ℕ)) → b ≡ false → live_object s.memory number ≡ Some live → limit ≤ number → Joins (initialised p declared s number r)
    joins_initialised declared number live (Err case) before e above = joins_halts _
    joins_initialised declared number live (Ok sets) before e above =
        joins_to _ _ (joined_written number _ before (parts_written number (zeroed p s.memory number declared) sets above (written kept limit count s.memory number 0 (map (λ own. zero_of own.0) (p.shape declared)) live e above)))

  pub joins : (op : Op) (w : Work) (own : Sort) (done : List Answer) → slice_get p.ops node ≡ Some op → op.work ≡ w → Gives p sorts op w own → AreSized kept p s op.work (values done)
      → Within owns w (is_open w op.parts (length done)) limit count node s → Joins (join_by p node op w done s)
  joins op (work.Call (Function parameters rest is_main)) own done is e g z i = joins_to _ _ (left _ _ i)
  joins op (work.Call (Printf texts)) own done is e g z i = joins_call _ _ i (work.Call (Printf texts)) (Printf texts) done refl
  joins op (work.Call Putchar) own done is e g z i = joins_call _ _ i (work.Call Putchar) Putchar done refl
  joins op (work.Call Exit) own done is e g z i = joins_call _ _ i (work.Call Exit) Exit done refl
  joins op (work.Call Abort) own done is e g z i = joins_call _ _ i (work.Call Abort) Abort done refl
  joins op work.Expression own done is e g z i = joins_to _ _ (here _ _ i refl)
  joins op work.If own done is e g z i = joins_if _ _ i done refl
  joins op work.While own done is e g z i = joins_while _ _ i done refl
  joins op work.Do own done is e g z i = joins_do _ _ i done refl
  joins op (work.For objects first control step rest) own done is e g z i = joins_for _ _ i done
  joins op (work.Switch kind rest objects cases other labels) own [] is e g z i = joins_to _ _ (left _ _ i)
  joins op (work.Switch kind rest objects cases other labels) own (control ∷ []) is e g z i = joins_resulting node (integer (value_of control)) _ (λ a f. joins_to _ _ (here _ _ i refl))
  joins op (work.Switch kind rest objects cases other labels) own (control ∷ entry ∷ more) is e g z i = joins_to _ _ (left _ _ i)
  joins op (work.Block objects labels) own done is e g z i = joins_to _ _ (left _ _ i)
  joins op work.Labelled own done is e g z i = joins_to _ _ (here _ _ i refl)
  joins op work.Break own done is e g z i = joins_to _ _ (here _ _ i refl)
  joins op work.Continue own done is e g z i = joins_to _ _ (here _ _ i refl)
  joins op (work.Goto label) own done is e g z i = joins_to _ _ (here _ _ i refl)
  joins op (work.Return f) own done is e g z i = joins_return _ _ i f done refl
  joins op work.Declaration own done is e g z i = joins_to _ _ (here _ _ i refl)
  joins op (work.Declare declared) own done is e g z i =
      joins_on _ _ i declared _ (owned.declares node declared op is e) (λ number live f above. joins_to _ _ (joined_written _ _ i number _ refl (written kept limit count s.memory number 0 (replicate (count_of (live_object s.memory number)) Unset) live f above)))
  joins op (work.Initialise declared lines) own done is e g z i =
      joins_on _ _ i declared _ (owned.initialises node declared lines op is e) (λ number live f above. joins_initialised _ _ i declared number live (initials p s.memory lines (values done)) refl f above)
  joins op (work.Program objects parameters strings rest) own done is e g z i = absurd g
  joins op w own done is e g z i = joins_expression _ _ i op done refl z
