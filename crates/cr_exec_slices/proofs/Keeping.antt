-- What the machine keeps shows the meaning's answers, turn by turn.
use Rattle.std.proofs.Common.{◌≡◌, ◌≢◌, refl, sym, ◌∙◌, ap, subst, ℕ, ◌+◌, Result, Ok, Err, List, [], ◌∷◌, ◌++◌, take, replicate, append_assoc, zero, suc, Option, Some, None, length, length-append, arith}
use Rattle.std.specs.List.{AllZip}
use Rattle.std.specs.Prelude.{IsErrAnd, OnOk, option_to_list}
use Rattle.std.proofs.lemmas.List.{append-nil, replicate-append-replicate}
use Rattle.std.proofs.lemmas.Slice.Zip.{all_zipped_more}
use Rattle.cr_meaning.specs.Language.{halts, gave, ended}
use Rattle.cr_meaning.specs.World.{Program, World, Answer, next, Halt}
use Rattle.cr_meaning.specs.Turns.{Operand, Enter, Resume, Ready, from_item}
use Rattle.cr_meaning.specs.Nodes.{Act}
use Rattle.cr_meaning_seen.specs.Marks.{Mark, ended_by, begun}
use Rattle.cr_exec_stack.specs.Waiting.{Pending, Waiting, with_more, handed}
use Rattle.cr_exec_slices.specs.Turns.{reaching, turning, State, first_state, Leads, way_at, reached_at, before_at, join_at}
use Rattle.cr_exec_slices.specs.Shown.{way_of, Moved, MarkedRest, MarkedRun, Halting, Worked, ShowsPending, ShowsWaiting, place_of, came, Alone, Leaves, Continues, TurnsBy, Turns, ComesTo}
use Rattle.cr_exec_slices.specs.declared.nodes.Halted.{Halted}
use Rattle.cr_exec_slices.specs.declared.nodes.Halted.TheVariants.{Undefined, Left, Exited, NoMemory}
use Rattle.cr_exec_slices.specs.declared.nodes.Way.{Way as KeptWay}
use Rattle.cr_exec_slices.specs.declared.machine.Point.{Point}
use Rattle.cr_exec_slices.specs.declared.machine.Point.TheVariants.{Reach, Turn}
use Rattle.cr_exec_slices.specs.declared.machine.Turned.{Turned}
use Rattle.cr_exec_slices.specs.declared.machine.Turned.TheVariants.{Goes, Came}
use Rattle.cr_exec_slices.specs.declared.machine.Outcome.TheVariants as outcome
use Rattle.cr_exec_slices.proofs.Ways.{operand_leads, enter_leads, enter_halts, resume_leads, resume_halts, join_leads, join_comes, join_halts, reach_leads, reach_halts, leads_on, leads_self, rest_is_run}

-- ---- lists

pub all_zip_take : {A B : Type 0} (R : A → B → Type 0) (count : ℕ) (xs : List A) (ys : List B) → AllZip R xs ys → AllZip R (take count xs) (take count ys)
all_zip_take R zero xs ys h = tt
all_zip_take R (suc count) [] [] h = tt
all_zip_take R (suc count) [] (y ∷ ys) h = absurd h
all_zip_take R (suc count) (x ∷ xs) [] h = absurd h
all_zip_take R (suc count) (x ∷ xs) (y ∷ ys) h = (h.0, all_zip_take R count xs ys h.1)

-- ---- results

pub on_ok : {A E P Q : Type 0} (r : Result A E) → (P → Q) → OnOk r P → OnOk r Q
on_ok (Ok a) f h = f h
on_ok (Err e) f h = h

-- ---- ends

pub ends_too : (P Q : Halt → Type 0) → ((halt : Halt) → P halt → Q halt) → (x : Halted) (world : World) → Halting P x world → Halting Q x world
ends_too P Q f (Undefined number node) world h = f _ h
ends_too P Q f (Left number node) world h = f _ h
ends_too P Q f (Exited status) world h = f _ h
ends_too P Q f NoMemory world h = tt

-- the same, with what is known but of want of memory
pub ends_so : (P Q : Halt → Type 0) (E : Type 0) → ((halt : Halt) → E → P halt → Q halt) → (x : Halted) (world : World) → Moved (Err x) E → Halting P x world → Halting Q x world
ends_so P Q E f (Undefined number node) world e h = f _ e h
ends_so P Q E f (Left number node) world e h = f _ e h
ends_so P Q E f (Exited status) world e h = f _ e h
ends_so P Q E f NoMemory world e h = tt

-- what holds but of want of memory
pub moved : (result : Result (Unit {0}) Halted) (P : Type 0) → (result ≢ Err NoMemory → P) → Moved result P
moved (Ok done) P f = f (λ e. absurd (cc e))
moved (Err (Undefined number node)) P f = f (λ e. absurd (cc e))
moved (Err (Left number node)) P f = f (λ e. absurd (cc e))
moved (Err (Exited status)) P f = f (λ e. absurd (cc e))
moved (Err NoMemory) P f = tt

-- what a `?` hands on
pub exit : {X : Type 0} (P : Result X Halted → Type 0) (r : Result X Halted) (x : Halted) → IsErrAnd r (λ y. y ≡ x) → P (Err x) → P r
exit P (Ok v) x h p = absurd h
exit {X = X} P (Err y) x h p = subst P (ap {B = Result X Halted} (λ z. Err z) (sym h)) p

-- ---- the stack

module _ {T : Type 0} (shows : T → Answer → Type 0) where
  -- what holds of a node's number and of what its answers show holds of the node that is shown
  pub at_shown : (held : Pending T) (meant : Pending Answer) (P : ℕ → List Answer → Type 0)
      → ShowsPending shows held meant → ((answers : List Answer) → AllZip shows held.done answers → P held.node answers) → P meant.node meant.done
  at_shown held meant P h f = let Q : ℕ → Type 0 = λ n. P n meant.done in subst Q h.node (f meant.done h.done)

  -- one more answer
  pub one_more : (held new : Waiting T) (waiting : Waiting Answer) (more : List Answer) (kept : T) (answer : Answer)
      → ShowsWaiting shows held (with_more waiting more) → shows kept answer
      → new ≡ record { top = record { node = held.top.node; done = held.top.done ++ kept ∷ [] }; below = held.below }
      → ShowsWaiting shows new (with_more waiting (more ++ answer ∷ []))
  one_more held new waiting more kept answer h s e =
      let P : Waiting T → Type 0 = λ w. ShowsWaiting shows w (with_more waiting (more ++ answer ∷ [])) in
      let Q : List Answer → Type 0 = λ l. AllZip shows (held.top.done ++ kept ∷ []) l in
      subst P (sym e) (record {
        top = record {
          node = h.top.node;
          done = subst Q (append_assoc waiting.top.done more (answer ∷ [])) (all_zipped_more shows held.top.done (waiting.top.done ++ more) kept answer h.top.done s);
        };
        below = h.below;
      })

  -- one more part that was passed
  pub one_passed : (held new : Waiting T) (waiting : Waiting Answer) (count : ℕ) (kept : T)
      → ShowsWaiting shows held (with_more waiting (replicate count next)) → shows kept next
      → new ≡ record { top = record { node = held.top.node; done = held.top.done ++ kept ∷ [] }; below = held.below }
      → ShowsWaiting shows new (with_more waiting (replicate (count + 1) next))
  one_passed held new waiting count kept h s e =
      let P : List Answer → Type 0 = λ l. ShowsWaiting shows new (with_more waiting l) in
      subst P (replicate-append-replicate count 1 next) (one_more held new waiting (replicate count next) kept next h s e)

  -- the first one, and then others
  pub all_passed : (held : Waiting T) (waiting : Waiting Answer) (item : ℕ)
      → ShowsWaiting shows held (with_more (with_more waiting (next ∷ [])) (replicate item next)) → ShowsWaiting shows held (with_more waiting (from_item item))
  all_passed held waiting item h =
      let Q : List Answer → Type 0 = λ l. AllZip shows held.top.done l in
      record { top = record { node = h.top.node; done = subst Q (append_assoc waiting.top.done (next ∷ []) (replicate item next)) h.top.done }; below = h.below }

  -- none more
  pub none_more : (held : Waiting T) (waiting : Waiting Answer) → ShowsWaiting shows held waiting → ShowsWaiting shows held (with_more waiting [])
  none_more held waiting h =
      let Q : List Answer → Type 0 = λ l. AllZip shows held.top.done l in
      record { top = record { node = h.top.node; done = subst Q (sym (append-nil waiting.top.done)) h.top.done }; below = h.below }

  -- ---- turns

  pub reach_goes : (now : List Mark → Type 0) (marks : List Mark) (p : Program) (held new : Waiting T) (waiting : Waiting Answer) (s t : World) (node : ℕ)
      → ShowsWaiting shows held waiting → {u : Unit {0}} → Worked (reached_at p node s) (Ok u) t
      → new ≡ record { top = record { node = node; done = [] }; below = held.top ∷ held.below } → now (begun node marks)
      → Turns shows now p (record { place = reaching node; waiting = waiting; world = (s, marks) }) (Ok (Goes Turn)) new t
  reach_goes now marks p held new waiting s t node h w e is_now =
      let then : Waiting Answer = record { top = record { node = node; done = [] }; below = waiting.top ∷ waiting.below } in
      let P : Waiting T → Type 0 = λ x. ShowsWaiting shows x then in
      record {
        turns = record {
          waiting = then;
          marks = begun node marks;
          is_now = is_now;
          shown = subst P (sym e) (record { top = record { node = refl; done = tt }; below = (h.top, h.below) });
          leads = reach_leads p waiting s t marks node w.works;
        };
      }

  pub reach_ends : (now : List Mark → Type 0) (marks : List Mark) (p : Program) (new : Waiting T) (waiting : Waiting Answer) (s t : World) (node : ℕ) (x : Halted)
      → Worked (reached_at p node s) (Err x) t → Moved (Err x) (now (begun node marks))
      → Turns shows now p (record { place = reaching node; waiting = waiting; world = (s, marks) }) (Err x) new t
  reach_ends now marks p new waiting s t node x w is_now = record {
    turns =
        ends_so (λ halt. reached_at p node s ≡ halts halt) (λ halt. MarkedRest now p (record { place = reaching node; waiting = waiting; world = (s, marks) }) (λ all. ended (halt, all))) (now (begun node marks))
        (λ halt n e. record { marks = begun node marks; is_now = n; rest = reach_halts p waiting s marks node halt e }) x t is_now w.works;
  }

  -- what a `?` hands on
  pub handed_on : (now : List Mark → Type 0) (p : Program) (start : State) (new : Waiting T) (t : World) (r : Result Turned Halted) (x : Halted) → IsErrAnd r (λ y. y ≡ x)
      → Turns shows now p start (Err x) new t → Turns shows now p start r new t
  handed_on now p start new t r x h turns = exit (λ r. Turns shows now p start r new t) r x h turns

  pub operand_goes : (now : List Mark → Type 0) (marks : List Mark) (p : Program) (held : Waiting T) (waiting : Waiting Answer) (s : World) (part : ℕ)
      → ShowsWaiting shows held waiting → way_at p waiting.top.node waiting.top.done ≡ Operand part → now marks
      → Turns shows now p (record { place = turning; waiting = waiting; world = (s, marks) }) (Ok (Goes (Reach part))) held s
  operand_goes now marks p held waiting s part h e is_now = record { turns = record { waiting = waiting; marks = marks; is_now = is_now; shown = h; leads = operand_leads p waiting s marks part e } }

  -- a node's way on, by what is said of all answers that are shown
  pub way_shown : (p : Program) (held : Waiting T) (waiting : Waiting Answer) (node : ℕ) (done : List T) (result way : KeptWay)
      → ShowsWaiting shows held waiting → node ≡ held.top.node → done ≡ held.top.done
      → ((answers : List Answer) → AllZip shows done answers → way_at p node answers ≡ way_of answers result) → result ≡ way
      → way_at p waiting.top.node waiting.top.done ≡ way_of waiting.top.done way
  way_shown p held waiting node done result way h n d f is =
      let P : List T → Type 0 = λ l. AllZip shows l waiting.top.done in
      let Q : ℕ → Type 0 = λ k. way_at p k waiting.top.done ≡ way_of waiting.top.done way in
      let R : KeptWay → Type 0 = λ x. way_at p node waiting.top.done ≡ way_of waiting.top.done x in
      subst Q (n ∙ h.top.node) (subst R is (f waiting.top.done (subst P (sym d) h.top.done)))

  -- the same of work before a part
  pub before_shown : (p : Program) (held : Waiting T) (waiting : Waiting Answer) (node : ℕ) (done : List T) (s t : World) (result : Result (Unit {0}) Halted)
      → ShowsWaiting shows held waiting → node ≡ held.top.node → done ≡ held.top.done
      → ((answers : List Answer) → AllZip shows done answers → Worked (before_at p node answers s) result t)
      → Worked (before_at p waiting.top.node waiting.top.done s) result t
  before_shown p held waiting node done s t result h n d f =
      let P : List T → Type 0 = λ l. AllZip shows l waiting.top.done in
      let Q : ℕ → Type 0 = λ k. Worked (before_at p k waiting.top.done s) result t in
      subst Q (n ∙ h.top.node) (f waiting.top.done (subst P (sym d) h.top.done))

  pub enter_goes : (now : List Mark → Type 0) (marks : List Mark) (p : Program) (held : Waiting T) (waiting : Waiting Answer) (s t : World) (part : ℕ)
      → ShowsWaiting shows held waiting → way_at p waiting.top.node waiting.top.done ≡ Enter part
      → {u : Unit {0}} → Worked (before_at p waiting.top.node waiting.top.done s) (Ok u) t → now marks
      → Turns shows now p (record { place = turning; waiting = waiting; world = (s, marks) }) (Ok (Goes (Reach part))) held t
  enter_goes now marks p held waiting s t part h e w is_now = record { turns = record { waiting = waiting; marks = marks; is_now = is_now; shown = h; leads = enter_leads p waiting s t marks part e w.works } }

  pub enter_ends : (now : List Mark → Type 0) (marks : List Mark) (p : Program) (new : Waiting T) (waiting : Waiting Answer) (s t : World) (part : ℕ) (x : Halted)
      → way_at p waiting.top.node waiting.top.done ≡ Enter part
      → Worked (before_at p waiting.top.node waiting.top.done s) (Err x) t → now marks
      → Turns shows now p (record { place = turning; waiting = waiting; world = (s, marks) }) (Err x) new t
  enter_ends now marks p new waiting s t part x e w is_now = record {
    turns =
        ends_too (λ halt. before_at p waiting.top.node waiting.top.done s ≡ halts halt) (λ halt. MarkedRest now p (record { place = turning; waiting = waiting; world = (s, marks) }) (λ all. ended (halt, all)))
        (λ halt is. record { marks = marks; is_now = is_now; rest = enter_halts p waiting s marks part halt e is }) x t w.works;
  }

  pub resume_goes : (now : List Mark → Type 0) (marks : List Mark) (p : Program) (held new : Waiting T) (waiting : Waiting Answer) (s t : World) (count : ℕ) (fresh : List Answer)
      → way_at p waiting.top.node waiting.top.done ≡ Resume (take count waiting.top.done ++ fresh)
      → {u : Unit {0}} → Worked (before_at p waiting.top.node waiting.top.done s) (Ok u) t
      → ShowsWaiting shows new (with_more (record { top = record { node = waiting.top.node; done = take count waiting.top.done }; below = waiting.below }) fresh) → now marks
      → Turns shows now p (record { place = turning; waiting = waiting; world = (s, marks) }) (Ok (Goes Turn)) new t
  resume_goes now marks p held new waiting s t count fresh e w h is_now = record {
    turns = record {
      waiting = record { top = record { node = waiting.top.node; done = take count waiting.top.done ++ fresh }; below = waiting.below };
      marks = marks;
      is_now = is_now;
      shown = h;
      leads = resume_leads p waiting s t marks (take count waiting.top.done ++ fresh) e w.works;
    };
  }

  pub resume_ends : (now : List Mark → Type 0) (marks : List Mark) (p : Program) (new : Waiting T) (waiting : Waiting Answer) (s t : World) (again : List Answer) (x : Halted)
      → way_at p waiting.top.node waiting.top.done ≡ Resume again
      → Worked (before_at p waiting.top.node waiting.top.done s) (Err x) t → now marks
      → Turns shows now p (record { place = turning; waiting = waiting; world = (s, marks) }) (Err x) new t
  resume_ends now marks p new waiting s t again x e w is_now = record {
    turns =
        ends_too (λ halt. before_at p waiting.top.node waiting.top.done s ≡ halts halt) (λ halt. MarkedRest now p (record { place = turning; waiting = waiting; world = (s, marks) }) (λ all. ended (halt, all)))
        (λ halt is. record { marks = marks; is_now = is_now; rest = resume_halts p waiting s marks again halt e is }) x t w.works;
  }

  -- as many answers as are kept
  pub kept_shown : (held new : Waiting T) (waiting : Waiting Answer) (count : ℕ) → ShowsWaiting shows held waiting
      → new ≡ record { top = record { node = held.top.node; done = take count held.top.done }; below = held.below }
      → ShowsWaiting shows new (record { top = record { node = waiting.top.node; done = take count waiting.top.done }; below = waiting.below })
  kept_shown held new waiting count h e =
      let P : Waiting T → Type 0 = λ x. ShowsWaiting shows x (record { top = record { node = waiting.top.node; done = take count waiting.top.done }; below = waiting.below }) in
      subst P (sym e) (record { top = record { node = h.top.node; done = all_zip_take shows count held.top.done waiting.top.done h.top.done }; below = h.below })

  pub join_shown : (p : Program) (held : Waiting T) (waiting : Waiting Answer) (s t : World) (result : Result (Unit {0}) Halted) (left : List T)
      → ShowsWaiting shows held waiting
      → ((answers : List Answer) → AllZip shows held.top.done answers → Leaves shows (join_at p held.top.node answers s) result left t)
      → Leaves shows (join_at p waiting.top.node waiting.top.done s) result left t
  join_shown p held waiting s t result left h f = at_shown held.top waiting.top (λ n l. Leaves shows (join_at p n l s) result left t) h.top f

  pub join_ends : (now : List Mark → Type 0) (marks : List Mark) (p : Program) (new : Waiting T) (waiting : Waiting Answer) (s t : World) (x : Halted) (left : List T)
      → way_at p waiting.top.node waiting.top.done ≡ Ready
      → Leaves shows (join_at p waiting.top.node waiting.top.done s) (Err x) left t → Moved (Err x) (now marks)
      → Turns shows now p (record { place = turning; waiting = waiting; world = (s, marks) }) (Err x) new t
  join_ends now marks p new waiting s t x left e w is_now = record {
    turns =
        ends_so (λ halt. join_at p waiting.top.node waiting.top.done s ≡ halts halt) (λ halt. MarkedRest now p (record { place = turning; waiting = waiting; world = (s, marks) }) (λ all. ended (halt, all))) (now marks)
        (λ halt n is. record { marks = marks; is_now = n; rest = join_halts p waiting s marks halt e is }) x t is_now w.leaves;
  }

  -- the node at work was the last
  comes_last : (now : List Mark → Type 0) (marks : List Mark) (p : Program) (top : Pending Answer) (below : List (Pending Answer)) (none : List (Pending T)) (left new : Waiting T) (s t : World)
      → none ≡ [] → AllZip (ShowsPending shows) none below
      → way_at p top.node top.done ≡ Ready
      → {u : Unit {0}} → Leaves shows (join_at p top.node top.done s) (Ok u) left.top.done t → new ≡ left → ((answer : Answer) (kept : T) → left.top.done ≡ kept ∷ [] → shows kept answer → now (ended_by top.node answer marks))
      → Turns shows now p (record { place = turning; waiting = record { top = top; below = below }; world = (s, marks) }) (Ok Came) new t
  comes_last now marks p top [] none left new s t is h e w same is_now =
      let a = w.leaves.answering in
      let P : Waiting T → Type 0 = λ x. Alone shows x.top.done (λ meant. MarkedRest now p (record { place = turning; waiting = record { top = top; below = [] }; world = (s, marks) }) (λ all. gave meant (t, all))) in
      record {
        turns = subst P (sym same) (record {
          held = w.leaves.held;
          only = w.leaves.only;
          answering = record { answer = a.answer; shown = a.shown; holds = record { marks = ended_by top.node a.answer marks; is_now = is_now a.answer w.leaves.held w.leaves.only a.shown; rest = join_comes p top s t marks a.answer e a.holds } };
        });
      }
  comes_last now marks p top (first ∷ rest) none left new s t is h e w same is_now =
      let P : List (Pending T) → Type 0 = λ l. AllZip (ShowsPending shows) l (first ∷ rest) in absurd (subst P is h)

  pub join_comes_to : (now : List Mark → Type 0) (marks : List Mark) (p : Program) (held left new : Waiting T) (waiting : Waiting Answer) (s t : World)
      → ShowsWaiting shows held waiting → held.below ≡ []
      → way_at p waiting.top.node waiting.top.done ≡ Ready
      → {u : Unit {0}} → Leaves shows (join_at p waiting.top.node waiting.top.done s) (Ok u) left.top.done t → new ≡ left → ((answer : Answer) (kept : T) → left.top.done ≡ kept ∷ [] → shows kept answer → now (ended_by waiting.top.node answer marks))
      → Turns shows now p (record { place = turning; waiting = waiting; world = (s, marks) }) (Ok Came) new t
  join_comes_to now marks p held left new waiting s t h is e w same is_now = comes_last now marks p waiting.top waiting.below held.below left new s t is h.below e w same is_now

  -- another one waits for its answer
  goes_up : (now : List Mark → Type 0) (marks : List Mark) (p : Program) (top : Pending Answer) (below : List (Pending Answer)) (some : List (Pending T)) (left : List T) (new : Waiting T) (s t : World)
      → handed left some ≡ new.top ∷ new.below → AllZip (ShowsPending shows) some below
      → way_at p top.node top.done ≡ Ready
      → {u : Unit {0}} → Leaves shows (join_at p top.node top.done s) (Ok u) left t → ((answer : Answer) (kept : T) → left ≡ kept ∷ [] → shows kept answer → now (ended_by top.node answer marks))
      → Turns shows now p (record { place = turning; waiting = record { top = top; below = below }; world = (s, marks) }) (Ok (Goes Turn)) new t
  goes_up now marks p top below [] left new s t is h e w is_now = absurd (cc is)
  goes_up now marks p top [] (up ∷ ups) left new s t is h e w is_now = absurd h
  goes_up now marks p top (first ∷ rest) (up ∷ ups) left new s t is h e w is_now =
      let a = w.leaves.answering in
      let then : Waiting Answer = record { top = record { node = first.node; done = first.done ++ a.answer ∷ [] }; below = rest } in
      let P : List T → Type 0 = λ l. AllZip shows (up.done ++ l) (first.done ++ a.answer ∷ []) in
      let Q : List (Pending T) → Type 0 = λ l. AllZip (ShowsPending shows) l (then.top ∷ then.below) in
      let both : AllZip (ShowsPending shows) (new.top ∷ new.below) (then.top ∷ then.below) = subst Q is (
        record {
          node = h.0.node;
          done = subst P (sym w.leaves.only) (all_zipped_more shows up.done first.done w.leaves.held a.answer h.0.done a.shown);
        },
        h.1,
      ) in
      record {
        turns = record {
          waiting = then;
          marks = ended_by top.node a.answer marks;
          is_now = is_now a.answer w.leaves.held w.leaves.only a.shown;
          shown = record { top = both.0; below = both.1 };
          leads = join_leads p top first rest s t marks a.answer e a.holds;
        };
      }

  pub join_goes : (now : List Mark → Type 0) (marks : List Mark) (p : Program) (held left new : Waiting T) (waiting : Waiting Answer) (s t : World)
      → ShowsWaiting shows held waiting → left.below ≡ held.below → handed left.top.done left.below ≡ new.top ∷ new.below
      → way_at p waiting.top.node waiting.top.done ≡ Ready
      → {u : Unit {0}} → Leaves shows (join_at p waiting.top.node waiting.top.done s) (Ok u) left.top.done t → ((answer : Answer) (kept : T) → left.top.done ≡ kept ∷ [] → shows kept answer → now (ended_by waiting.top.node answer marks))
      → Turns shows now p (record { place = turning; waiting = waiting; world = (s, marks) }) (Ok (Goes Turn)) new t
  join_goes now marks p held left new waiting s t h same is e w is_now =
      goes_up now marks p waiting.top waiting.below held.below left.top.done new s t (ap (handed left.top.done) (sym same) ∙ is) h.below e w is_now

  -- ---- turn after turn

  turns_by : (now : List Mark → Type 0) (p : Program) (start middle : State) (result : Result Turned Halted) (held : Waiting T) (t : World)
      → Leads p start middle → TurnsBy shows now p middle result held t → TurnsBy shows now p start result held t
  turns_by now p start middle (Ok (Goes point)) held t l h =
      record { waiting = h.waiting; marks = h.marks; is_now = h.is_now; shown = h.shown; leads = leads_on p start middle _ l h.leads }
  turns_by now p start middle (Ok Came) held t l h =
      let a = h.answering in record { held = h.held; only = h.only; answering = record { answer = a.answer; shown = a.shown; holds = record { marks = a.holds.marks; is_now = a.holds.is_now; rest = l.leads _ a.holds.rest } } }
  turns_by now p start middle (Err x) held t l h =
      ends_too (λ halt. MarkedRest now p middle (λ all. ended (halt, all))) (λ halt. MarkedRest now p start (λ all. ended (halt, all))) (λ halt i. record { marks = i.marks; is_now = i.is_now; rest = l.leads (ended (halt, i.marks)) i.rest }) x t h

  pub turns_on : (now : List Mark → Type 0) (p : Program) (start middle : State) (result : Result Turned Halted) (held : Waiting T) (t : World)
      → Leads p start middle → Turns shows now p middle result held t → Turns shows now p start result held t
  turns_on now p start middle result held t l h = record { turns = turns_by now p start middle result held t l h.turns }

  pub continues_first : (now : List Mark → Type 0) (marks : List Mark) (p : Program) (held : Waiting T) (waiting : Waiting Answer) (point : Point) (s : World) → ShowsWaiting shows held waiting → now marks
      → Continues shows now p (record { place = place_of point; waiting = waiting; world = (s, marks) }) point held s
  continues_first now marks p held waiting point s h is_now = record { waiting = waiting; marks = marks; is_now = is_now; shown = h; leads = leads_self p _ }

  -- a state to which the run has come, and what it comes to by what is said of all that is shown
  pub continues_on : (before now : List Mark → Type 0) (p : Program) (start : State) (point : Point) (held new : Waiting T) (s t : World) (result : Result Turned Halted)
      → Continues shows before p start point held s
      → ((waiting : Waiting Answer) → ShowsWaiting shows held waiting → (marks : List Mark) → before marks → Turns shows now p (record { place = place_of point; waiting = waiting; world = (s, marks) }) result new t)
      → Turns shows now p start result new t
  continues_on before now p start point held new s t result c f = turns_on now p start _ result new t c.leads (f c.waiting c.shown c.marks c.is_now)

  -- the same where the machine goes on
  pub continues_turned : (before now : List Mark → Type 0) (p q : Program) (start : State) (point to : Point) (held new : Waiting T) (s t : World) (result : Result Turned Halted)
      → Continues shows before p start point held s → q ≡ p → result ≡ Ok (Goes to)
      → ((waiting : Waiting Answer) → ShowsWaiting shows held waiting → (marks : List Mark) → before marks → Turns shows now q (record { place = place_of point; waiting = waiting; world = (s, marks) }) result new t)
      → Continues shows now p start to new t
  continues_turned before now p q start point to held new s t result c same is f =
      let P : Result Turned Halted → Type 0 = λ r. Turns shows now p start r new t in
      let turned : Turns shows now p start result new t =
      continues_on before now p start point held new s t result c (λ waiting h marks n.
      let Q : Program → Type 0 = λ x. Turns shows now x (record { place = place_of point; waiting = waiting; world = (s, marks) }) result new t in subst Q same (f waiting h marks n)) in
      let goes : Turns shows now p start (Ok (Goes to)) new t = subst P is turned in
      goes.turns

  -- what it comes to, by what is said of all that is shown
  pub continues_all : (before now : List Mark → Type 0) (p q : Program) (start : State) (point : Point) (held new : Waiting T) (s t : World) (result r : Result Turned Halted)
      → Continues shows before p start point held s → q ≡ p → result ≡ r
      → ((waiting : Waiting Answer) → ShowsWaiting shows held waiting → (marks : List Mark) → before marks → Turns shows now q (record { place = place_of point; waiting = waiting; world = (s, marks) }) result new t)
      → Turns shows now p start r new t
  continues_all before now p q start point held new s t result r c same is f =
      let P : Result Turned Halted → Type 0 = λ x. Turns shows now p start x new t in
      subst P is (continues_on before now p start point held new s t result c (λ waiting h marks n.
      let Q : Program → Type 0 = λ x. Turns shows now x (record { place = place_of point; waiting = waiting; world = (s, marks) }) result new t in subst Q same (f waiting h marks n)))

  -- ---- whole runs

  pub continues_at_first : (now : List Mark → Type 0) (p : Program) (node : ℕ) (held : Waiting T) (s : World) → held ≡ record { top = record { node = node; done = [] }; below = [] } → now []
      → Continues shows now p (first_state node (s, [])) Turn held s
  continues_at_first now p node held s is is_now =
      let P : Waiting T → Type 0 = λ x. ShowsWaiting shows x (record { top = record { node = node; done = [] }; below = [] }) in
      continues_first now [] p held (record { top = record { node = node; done = [] }; below = [] }) Turn s
      (subst P (sym is) (record { top = record { node = refl; done = tt }; below = tt })) is_now

  -- the only answer is the last one
  last_alone : (done rest : List T) (one last : T) → done ≡ one ∷ [] → done ≡ rest ++ last ∷ [] → one ≡ last
  last_alone done [] one last e f = let g : one ∷ [] ≡ last ∷ [] = sym e ∙ f in cc
  last_alone done (x ∷ rest) one last e f = absurd (omega (arith, ap length (sym e ∙ f), length-append rest (last ∷ [])))

  pub comes_to : (now : List Mark → Type 0) (p : Program) (node : ℕ) (s t : World) (held left : Waiting T) (answer : Option T) → Turns shows now p (first_state node (s, [])) (Ok Came) held t
      → held.top.done ≡ left.top.done ++ option_to_list answer → ComesTo shows now p node s (came answer) t
  comes_to now p node s t held left (Some last) h e =
      let a = h.turns.answering in
      let P : T → Type 0 = λ x. shows x a.answer in
      record { answer = a.answer; shown = subst P (last_alone held.top.done left.top.done h.turns.held last h.turns.only e) a.shown; holds = record { marks = a.holds.marks; is_now = a.holds.is_now; run = rest_is_run p node (s, []) _ a.holds.rest } }
  comes_to now p node s t held left None h e = tt

  pub halts_as : (now : List Mark → Type 0) (p : Program) (node : ℕ) (s t : World) (x : Halted) (held : Waiting T) → Turns shows now p (first_state node (s, [])) (Err x) held t
      → ComesTo shows now p node s (outcome.Halted x) t
  halts_as now p node s t x held h =
      ends_too (λ halt. MarkedRest now p (first_state node (s, [])) (λ all. ended (halt, all))) (λ halt. MarkedRun now p node s (λ all. ended (halt, all)))
      (λ halt i. record { marks = i.marks; is_now = i.is_now; run = rest_is_run p node (s, []) (ended (halt, i.marks)) i.rest }) x t h.turns

  -- ---- marks

  -- the only answer that is kept ends the node that is shown
  pub left_at : (now : List Mark → Type 0) (marks : List Mark) (node meant : ℕ) (left : List T) → node ≡ meant
      → ((kept : T) (answer : Answer) → left ≡ kept ∷ [] → shows kept answer → now (ended_by node answer marks))
      → (answer : Answer) (kept : T) → left ≡ kept ∷ [] → shows kept answer → now (ended_by meant answer marks)
  left_at now marks node meant left same f answer kept is shown = let F : ℕ → Type 0 = λ n. now (ended_by n answer marks) in subst F same (f kept answer is shown)
