-- Each turn keeps the rest of a C program's run.
use Rattle.std.proofs.Common.{◌≡◌, refl, sym, ap, subst, ℕ, Option, Some, None, List, [], ◌∷◌, ◌++◌, map}
use Rattle.std.specs.Prelude.{slice_get}
use Rattle.cr_meaning.specs.Language.{went, halts, gave, ended, give, act, call}
use Rattle.cr_meaning.specs.World.{Program, World, Answer, next, Halt}
use Rattle.cr_meaning.specs.Turns.{Way, Operand, Enter, Resume, Ready}
use Rattle.cr_meaning.specs.Meaning.{reach, operands}
use Rattle.cr_meaning.specs.Nodes.{Act}
use Rattle.cr_meaning.specs.declared.op.Op.{Op}
use Rattle.cr_exec_stack.specs.Waiting.{Pending, Waiting}
use Rattle.cr_exec_slices.specs.Rest.{Rests}
use Rattle.cr_exec_slices.specs.Turns.{Place, reaching, turning, State, End, continuing, RestAt, RestOf, Leads, way_by, way_at, reached_at, before_for, before_at, join_for, join_at}
use Rattle.cr_meaning_seen.specs.Marks.{Mark, Noting, noted, noting, as_before, none, begun, begun_by, ended_by, noted_part, noted_way, noted_op, noted_body}
use Rattle.cr_exec_slices.specs.Laws
use Rattle.cr_exec_slices.proofs.Rests.{pushed, popped, tailed, acted, halted, given, alone, from_run, one_rest as one_rest_of}

-- ---- work that notes

noted_went : (more : Answer → List Mark → List Mark) (last : List Mark → List Mark) (f : World → Act) (s t : World) (marks : List Mark) (v : Answer) → f s ≡ went v t → noting more last f (s, marks) ≡ went v (t, more v marks)
noted_went more last f s t marks v e = ap (λ (a : Act). noted more last marks a) e

noted_halts : (more : Answer → List Mark → List Mark) (last : List Mark → List Mark) (f : World → Act) (s : World) (marks : List Mark) (h : Halt) → f s ≡ halts h → noting more last f (s, marks) ≡ halts (h, last marks)
noted_halts more last f s marks h e = ap (λ (a : Act). noted more last marks a) e

-- ---- a node's program, by its way on

abbrev turned_by : Program → ℕ → List Answer → Option Op → Way → Noting
turned_by p node done o (Operand part) = noted_part node part done
turned_by p node done o (Enter part) = act (noting none as_before (before_for p node done o)) (λ _. noted_part node part done)
turned_by p node done o (Resume again) = act (noting none as_before (before_for p node done o)) (λ _. call (operands node again) give)
turned_by p node done o Ready = act (noting (ended_by node) as_before (join_for p node done o)) give

at_way : (p : Program) (node : ℕ) (done : List Answer) (op : Op) (way : Way) → noted_way p node op done way ≡ turned_by p node done (Some op) way
at_way p node done op (Operand part) = refl
at_way p node done op (Enter part) = refl
at_way p node done op (Resume again) = refl
at_way p node done op Ready = refl

at_option : (p : Program) (node : ℕ) (done : List Answer) (o : Option Op) → noted_op p node done o ≡ turned_by p node done o (way_by done o)
at_option p node done None = refl
at_option p node done (Some op) = at_way p node done op (way_by done (Some op))

going_on : (p : Program) (node : ℕ) (done : List Answer) → noted_body p (operands node done) ≡ turned_by p node done (slice_get p.ops node) (way_at p node done)
unfolding noted_body
going_on p node done = at_option p node done (slice_get p.ops node)

being_reached : (p : Program) (node : ℕ) → noted_body p (reach node) ≡ act (noting (begun_by node) (begun node) (reached_at p node)) (λ _. call (operands node []) give)
unfolding noted_body
being_reached p node = refl

-- ---- where the node at work goes on

goes_on : (p : Program) (waiting : Waiting Answer) (s : World × List Mark) (r : End) (way : Way) → way_at p waiting.top.node waiting.top.done ≡ way
    → Rests (noted_body p) (turned_by p waiting.top.node waiting.top.done (slice_get p.ops waiting.top.node) way) (map continuing waiting.below) s r
    → RestOf p (record { place = turning; waiting = waiting; world = s }) r
goes_on p waiting s r way e h =
    let P : Way → Type 0 = λ w. Rests (noted_body p) (turned_by p waiting.top.node waiting.top.done (slice_get p.ops waiting.top.node) w) (map continuing waiting.below) s r in
    let Q : Noting → Type 0 = λ m. Rests (noted_body p) m (map continuing waiting.below) s r in
    record { rests = subst Q (sym (going_on p waiting.top.node waiting.top.done)) (subst P (sym e) h) }

pub operand_leads : (p : Program) (waiting : Waiting Answer) (s : World) (marks : List Mark) (part : ℕ) → way_at p waiting.top.node waiting.top.done ≡ Operand part
    → Leads p (record { place = turning; waiting = waiting; world = (s, marks) }) (record { place = reaching part; waiting = waiting; world = (s, marks) })
operand_leads p waiting s marks part e = record {
  leads = λ r h. goes_on p waiting (s, marks) r (Operand part) e (pushed (noted_body p) (reach part) (continuing waiting.top) (map continuing waiting.below) (s, marks) r h.rests);
}

pub enter_leads : (p : Program) (waiting : Waiting Answer) (s t : World) (marks : List Mark) (part : ℕ) → way_at p waiting.top.node waiting.top.done ≡ Enter part
    → before_at p waiting.top.node waiting.top.done s ≡ went next t
    → Leads p (record { place = turning; waiting = waiting; world = (s, marks) }) (record { place = reaching part; waiting = waiting; world = (t, marks) })
enter_leads p waiting s t marks part e w = record {
  leads = λ r h. goes_on p waiting (s, marks) r (Enter part) e
      (acted (noted_body p) (noting none as_before (before_at p waiting.top.node waiting.top.done)) (λ _. noted_part waiting.top.node part waiting.top.done) (map continuing waiting.below) (s, marks) (t, marks) next r
      (noted_went none as_before (before_at p waiting.top.node waiting.top.done) s t marks next w)
      (pushed (noted_body p) (reach part) (continuing waiting.top) (map continuing waiting.below) (t, marks) r h.rests));
}

pub enter_halts : (p : Program) (waiting : Waiting Answer) (s : World) (marks : List Mark) (part : ℕ) (halt : Halt) → way_at p waiting.top.node waiting.top.done ≡ Enter part
    → before_at p waiting.top.node waiting.top.done s ≡ halts halt
    → RestOf p (record { place = turning; waiting = waiting; world = (s, marks) }) (ended (halt, marks))
enter_halts p waiting s marks part halt e w = goes_on p waiting (s, marks) (ended (halt, marks)) (Enter part) e
    (halted (noted_body p) (noting none as_before (before_at p waiting.top.node waiting.top.done)) (λ _. noted_part waiting.top.node part waiting.top.done) (map continuing waiting.below) (s, marks) (halt, marks)
    (noted_halts none as_before (before_at p waiting.top.node waiting.top.done) s marks halt w))

pub resume_leads : (p : Program) (waiting : Waiting Answer) (s t : World) (marks : List Mark) (again : List Answer) → way_at p waiting.top.node waiting.top.done ≡ Resume again
    → before_at p waiting.top.node waiting.top.done s ≡ went next t
    → Leads p (record { place = turning; waiting = waiting; world = (s, marks) })
    (record { place = turning; waiting = record { top = record { node = waiting.top.node; done = again }; below = waiting.below }; world = (t, marks) })
resume_leads p waiting s t marks again e w = record {
  leads = λ r h. goes_on p waiting (s, marks) r (Resume again) e
      (acted (noted_body p) (noting none as_before (before_at p waiting.top.node waiting.top.done)) (λ _. call (operands waiting.top.node again) give) (map continuing waiting.below) (s, marks) (t, marks) next r
      (noted_went none as_before (before_at p waiting.top.node waiting.top.done) s t marks next w)
      (tailed (noted_body p) (operands waiting.top.node again) (map continuing waiting.below) (t, marks) r h.rests));
}

pub resume_halts : (p : Program) (waiting : Waiting Answer) (s : World) (marks : List Mark) (again : List Answer) (halt : Halt) → way_at p waiting.top.node waiting.top.done ≡ Resume again
    → before_at p waiting.top.node waiting.top.done s ≡ halts halt
    → RestOf p (record { place = turning; waiting = waiting; world = (s, marks) }) (ended (halt, marks))
resume_halts p waiting s marks again halt e w = goes_on p waiting (s, marks) (ended (halt, marks)) (Resume again) e
    (halted (noted_body p) (noting none as_before (before_at p waiting.top.node waiting.top.done)) (λ _. call (operands waiting.top.node again) give) (map continuing waiting.below) (s, marks) (halt, marks)
    (noted_halts none as_before (before_at p waiting.top.node waiting.top.done) s marks halt w))

pub join_leads : (p : Program) (top first : Pending Answer) (rest : List (Pending Answer)) (s t : World) (marks : List Mark) (answer : Answer)
    → way_at p top.node top.done ≡ Ready → join_at p top.node top.done s ≡ went answer t
    → Leads p (record { place = turning; waiting = record { top = top; below = first ∷ rest }; world = (s, marks) })
    (record { place = turning; waiting = record { top = record { node = first.node; done = first.done ++ answer ∷ [] }; below = rest }; world = (t, ended_by top.node answer marks) })
join_leads p top first rest s t marks answer e w = record {
  leads = λ r h. goes_on p (record { top = top; below = first ∷ rest }) (s, marks) r Ready e
      (acted (noted_body p) (noting (ended_by top.node) as_before (join_at p top.node top.done)) give (map continuing (first ∷ rest)) (s, marks) (t, ended_by top.node answer marks) answer r
      (noted_went (ended_by top.node) as_before (join_at p top.node top.done) s t marks answer w)
      (popped (noted_body p) (continuing first) answer (map continuing rest) (t, ended_by top.node answer marks) r
      (tailed (noted_body p) (operands first.node (first.done ++ answer ∷ [])) (map continuing rest) (t, ended_by top.node answer marks) r h.rests)));
}

pub join_comes : (p : Program) (top : Pending Answer) (s t : World) (marks : List Mark) (answer : Answer)
    → way_at p top.node top.done ≡ Ready → join_at p top.node top.done s ≡ went answer t
    → RestOf p (record { place = turning; waiting = record { top = top; below = [] }; world = (s, marks) }) (gave answer (t, ended_by top.node answer marks))
join_comes p top s t marks answer e w = goes_on p (record { top = top; below = [] }) (s, marks) (gave answer (t, ended_by top.node answer marks)) Ready e
    (acted (noted_body p) (noting (ended_by top.node) as_before (join_at p top.node top.done)) give [] (s, marks) (t, ended_by top.node answer marks) answer (gave answer (t, ended_by top.node answer marks))
    (noted_went (ended_by top.node) as_before (join_at p top.node top.done) s t marks answer w) (given (noted_body p) answer (t, ended_by top.node answer marks)))

pub join_halts : (p : Program) (waiting : Waiting Answer) (s : World) (marks : List Mark) (halt : Halt)
    → way_at p waiting.top.node waiting.top.done ≡ Ready → join_at p waiting.top.node waiting.top.done s ≡ halts halt
    → RestOf p (record { place = turning; waiting = waiting; world = (s, marks) }) (ended (halt, marks))
join_halts p waiting s marks halt e w = goes_on p waiting (s, marks) (ended (halt, marks)) Ready e
    (halted (noted_body p) (noting (ended_by waiting.top.node) as_before (join_at p waiting.top.node waiting.top.done)) give (map continuing waiting.below) (s, marks) (halt, marks)
    (noted_halts (ended_by waiting.top.node) as_before (join_at p waiting.top.node waiting.top.done) s marks halt w))

-- ---- where a node is reached

is_reached : (p : Program) (waiting : Waiting Answer) (s : World × List Mark) (r : End) (node : ℕ)
    → Rests (noted_body p) (act (noting (begun_by node) (begun node) (reached_at p node)) (λ _. call (operands node []) give)) (map continuing (waiting.top ∷ waiting.below)) s r
    → RestOf p (record { place = reaching node; waiting = waiting; world = s }) r
is_reached p waiting s r node h =
    let Q : Noting → Type 0 = λ m. Rests (noted_body p) m (map continuing (waiting.top ∷ waiting.below)) s r in
    record { rests = subst Q (sym (being_reached p node)) h }

pub reach_leads : (p : Program) (waiting : Waiting Answer) (s t : World) (marks : List Mark) (node : ℕ) → reached_at p node s ≡ went next t
    → Leads p (record { place = reaching node; waiting = waiting; world = (s, marks) })
    (record { place = turning; waiting = record { top = record { node = node; done = [] }; below = waiting.top ∷ waiting.below }; world = (t, begun node marks) })
reach_leads p waiting s t marks node w = record {
  leads = λ r h. is_reached p waiting (s, marks) r node
      (acted (noted_body p) (noting (begun_by node) (begun node) (reached_at p node)) (λ _. call (operands node []) give) (map continuing (waiting.top ∷ waiting.below)) (s, marks) (t, begun node marks) next r
      (noted_went (begun_by node) (begun node) (reached_at p node) s t marks next w)
      (tailed (noted_body p) (operands node []) (map continuing (waiting.top ∷ waiting.below)) (t, begun node marks) r h.rests));
}

pub reach_halts : (p : Program) (waiting : Waiting Answer) (s : World) (marks : List Mark) (node : ℕ) (halt : Halt) → reached_at p node s ≡ halts halt
    → RestOf p (record { place = reaching node; waiting = waiting; world = (s, marks) }) (ended (halt, begun node marks))
reach_halts p waiting s marks node halt w = is_reached p waiting (s, marks) (ended (halt, begun node marks)) node
    (halted (noted_body p) (noting (begun_by node) (begun node) (reached_at p node)) (λ _. call (operands node []) give) (map continuing (waiting.top ∷ waiting.below)) (s, marks) (halt, begun node marks)
    (noted_halts (begun_by node) (begun node) (reached_at p node) s marks halt w))

-- ---- whole runs

pub leads_on : (p : Program) (a b c : State) → Leads p a b → Leads p b c → Leads p a c
leads_on p a b c one two = record { leads = λ r h. one.leads r (two.leads r h) }

pub leads_self : (p : Program) (a : State) → Leads p a a
leads_self p a = record { leads = λ r h. h }

pub rest_is_run : Laws.RestIsRun
rest_is_run p node world r h = alone (noted_body p) (noted_body p (operands node [])) world r h.rests

pub run_is_rest : Laws.RunIsRest
run_is_rest p node world r run = record { rests = from_run (noted_body p) (noted_body p (operands node [])) world r run }

one_at : (p : Program) (place : Place) (waiting : Waiting Answer) (world : World × List Mark) (r other : End) → RestAt p place waiting world r → RestAt p place waiting world other → r ≡ other
one_at p (reaching node) waiting world r other a b = one_rest_of (noted_body p) (noted_body p (reach node)) (map continuing (waiting.top ∷ waiting.below)) world r other a b
one_at p turning waiting world r other a b =
    one_rest_of (noted_body p) (noted_body p (operands waiting.top.node waiting.top.done)) (map continuing waiting.below) world r other a b

pub one_rest : Laws.OneRest
one_rest p state r other a b = one_at p state.place state.waiting state.world r other a.rests b.rests
