-- A typed program's goals: what is known where one is asked, and that each node keeps what the law says, if its ways on do.
use Rattle.std.proofs.Common.{◌≡◌, sym, subst, arith, inl, inr}
use Rattle.std.specs.Prelude.{ℕ, suc, ◌+◌, Bool, true, Option, Some, List, [], ◌∷◌, ◌++◌, length, slice_get, ◌⊎◌}
use Rattle.std.proofs.lemmas.List.{length_push}
use Rattle.cr_memory.specs.Continues.{Continues}
use Rattle.cr_meaning.specs.Language.{went, halts, Reply, gave, ended, Prog, give, call}
use Rattle.cr_meaning.specs.World.{Program, World, Answer, Halt}
use Rattle.cr_meaning.specs.Turns.{Way, Operand, Enter, Resume, Ready}
use Rattle.cr_meaning.specs.Nodes.{Act}
use Rattle.cr_meaning.specs.Meaning.{Goal, reach, operands, with_part, on_way, before_by, join_by}
use Rattle.cr_meaning.specs.declared.op.Op.{Op}
use Rattle.cr_meaning.specs.declared.op.Work.{Work}
use Rattle.cr_meaning_soundness.specs.Sorts.{Sort, IsWellFormed, Keeps, IsAmong}
use Rattle.cr_meaning_soundness.specs.Scopes.{IsPart, entered_by, is_open, IsBound, AreBound, AreSeen, AreScoped, IsScopedWhole}
use Rattle.cr_meaning_soundness.specs.Programs.{IsWhole, IsStatus}
use Rattle.cr_meaning_soundness.proofs.Lasting.{OnActed, Holds}
use Rattle.cr_meaning_soundness.proofs.Expressions.{anything, Went}
use Rattle.cr_meaning_soundness.proofs.Given.{AreGiven, given_later, one_more, At, at_well, at_onward, at_bound, at_entered}

-- ---- goals

-- a node that is reached
pub record Reached (p : Program) (sorts : ℕ → Option Sort) (sees : ℕ → ℕ → Bool) (node : ℕ) (s : World) : Type 0 where
  pub own : Sort
  pub has : sorts node ≡ Some own
  pub well : IsWellFormed p s
  pub seen : AreSeen sees node s.bindings

-- a node that was reached in a world, and goes on after these answers
pub record Going (p : Program) (sorts : ℕ → Option Sort) (sees : ℕ → ℕ → Bool) (node : ℕ) (done : List Answer) (s : World) : Type 0 where
  pub own : Sort
  pub has : sorts node ≡ Some own
  pub op : Op
  pub op_is : slice_get p.ops node ≡ Some op
  pub base : World
  pub well : IsWellFormed p base
  pub seen : AreSeen sees node base.bindings
  pub at : At p (entered_by op.work) (is_open op.work op.parts (length done)) base s
  pub given : AreGiven p sorts op.work op.parts s.memory 0 done

-- the whole program, which goes on
pub record Rooted (p : Program) (sorts : ℕ → Option Sort) (sees : ℕ → ℕ → Bool) (node : ℕ) (done : List Answer) (s : World) : Type 0 where
  pub op : Op
  pub op_is : slice_get p.ops node ≡ Some op
  pub whole : IsWhole p sorts op
  pub scoped : IsScopedWhole sees op.parts whole.objects whole.parameters whole.rest
  pub well : IsWellFormed p s
  pub given : AreGiven p sorts op.work op.parts s.memory 0 done
  pub begun : (done ≡ []) ⊎ AreBound whole.objects s.bindings

abbrev pub Pre : Program → (ℕ → Option Sort) → (ℕ → ℕ → Bool) → Goal → World → Type 0
Pre p sorts sees (reach node) s = Reached p sorts sees node s
Pre p sorts sees (operands node done) s = Going p sorts sees node done s ⊎ Rooted p sorts sees node done s

-- ---- replies

abbrev pub Replied : (Halt → Type 0) → Program → World → Sort → Reply Answer World Halt → Type 0
Replied E p base own (gave answer t) = Keeps p base t own answer
Replied E p base own (ended h) = E h

-- the whole program gives a status
abbrev pub Finished : (Halt → Type 0) → Reply Answer World Halt → Type 0
Finished E (gave answer t) = IsStatus answer
Finished E (ended h) = E h

abbrev pub Onward : (Halt → Type 0) → (p : Program) (sorts : ℕ → Option Sort) (sees : ℕ → ℕ → Bool) (node : ℕ) (done : List Answer) (s : World)
    → Going p sorts sees node done s ⊎ Rooted p sorts sees node done s → Reply Answer World Halt → Type 0
Onward E p sorts sees node done s (inl i) r = Replied E p i.base i.own r
Onward E p sorts sees node done s (inr i) r = Finished E r

abbrev pub Post : (Halt → Type 0) → (p : Program) (sorts : ℕ → Option Sort) (sees : ℕ → ℕ → Bool) (g : Goal) (s : World) → Pre p sorts sees g s → Reply Answer World Halt → Type 0
Post E p sorts sees (reach node) s i r = Replied E p s i.own r
Post E p sorts sees (operands node done) s i r = Onward E p sorts sees node done s i r

abbrev pub HoldsBy : (Halt → Type 0) → (p : Program) (sorts : ℕ → Option Sort) (sees : ℕ → ℕ → Bool) → (Reply Answer World Halt → Type 0) → Prog Goal Answer World Halt → World → Type 0
HoldsBy E p sorts sees P prog s = Holds (Pre p sorts sees) (Post E p sorts sees) P prog s

-- ---- ways on

-- a part that comes next
pub record IsNext (sorts : ℕ → Option Sort) (w : Work) (parts : List ℕ) (k m : ℕ) : Type 0 where
  pub sort : Sort
  pub has : sorts m ≡ Some sort
  pub is_part : IsPart w parts k m

-- what work before a part leaves
pub record Begun (p : Program) (w : Work) (b : Bool) (base s t : World) : Type 0 where
  pub at : At p (entered_by w) b base t
  pub continues : Continues s.memory t.memory

abbrev pub Goes : Program → (ℕ → Option Sort) → ℕ → Op → Work → Sort → List Answer → World → World → Way → Type 0
Goes p sorts node op w own done base s (Operand m) =
    IsNext sorts w op.parts (length done) m × (is_open w op.parts (suc (length done)) ≡ is_open w op.parts (length done))
Goes p sorts node op w own done base s (Enter m) =
    IsNext sorts w op.parts (length done) m × Went (λ answer t. Begun p w (is_open w op.parts (suc (length done))) base s t) (before_by p node w done s)
Goes p sorts node op w own done base s (Resume again) =
    AreGiven p sorts w op.parts s.memory 0 again × Went (λ answer t. Begun p w (is_open w op.parts (length again)) base s t) (before_by p node w done s)
Goes p sorts node op w own done base s Ready = Went (λ answer t. Keeps p base t own answer) (join_by p node op w done s)

-- an end of it is one of these
abbrev pub Safely : (Halt → Type 0) → Act → Type 0
Safely E acted = OnActed (λ answer t. Unit {0}) E acted

abbrev pub SafeWay : (Halt → Type 0) → Program → ℕ → Op → List Answer → World → Way → Type 0
SafeWay E p node op done s (Operand m) = Unit {0}
SafeWay E p node op done s (Enter m) = Safely E (before_by p node op.work done s)
SafeWay E p node op done s (Resume again) = Safely E (before_by p node op.work done s)
SafeWay E p node op done s Ready = Safely E (join_by p node op op.work done s)

-- ---- work on the world

both : (Q : Answer → World → Type 0) (E : Halt → Type 0) (act : Act) → Went Q act → Safely E act → OnActed Q E act
both Q E (went v t) h k = h
both Q E (halts h') h k = k

acted_onward : (Q R : Answer → World → Type 0) (E : Halt → Type 0) (act : Act) → OnActed Q E act → ((v : Answer) (t : World) → Q v t → R v t) → OnActed R E act
acted_onward Q R E (went v t) h f = f v t h
acted_onward Q R E (halts h') h f = h

pub went_onward : (Q R : Answer → World → Type 0) (acted : Act) → Went Q acted → ((v : Answer) (t : World) → Q v t → R v t) → Went R acted
went_onward Q R acted h f = acted_onward Q R anything acted h f

pub acted_by : (Q R : Answer → World → Type 0) (E : Halt → Type 0) (act : Act) → Went Q act → Safely E act → ((v : Answer) (t : World) → Q v t → R v t) → OnActed R E act
acted_by Q R E acted h k f = acted_onward Q R E acted (both Q E acted h k) f

-- ---- a node

one_longer : (done : List Answer) (answer : Answer) → length (done ++ answer ∷ []) ≡ suc (length done)
one_longer done answer = omega (arith, length_push done answer)

-- all that is known of a node but where it is
pub record Known (p : Program) (sorts : ℕ → Option Sort) (sees : ℕ → ℕ → Bool) (node : ℕ) (op : Op) (own : Sort) (base : World) : Type 0 where
  pub has : sorts node ≡ Some own
  pub op_is : slice_get p.ops node ≡ Some op
  pub well : IsWellFormed p base
  pub seen : AreSeen sees node base.bindings

abbrev going : (p : Program) (sorts : ℕ → Option Sort) (sees : ℕ → ℕ → Bool) (node : ℕ) (op : Op) (own : Sort) (base : World) (done : List Answer) (t : World) → Known p sorts sees node op own base
    → At p (entered_by op.work) (is_open op.work op.parts (length done)) base t → AreGiven p sorts op.work op.parts t.memory 0 done → Going p sorts sees node done t
going p sorts sees node op own base done t i at given =
    record { own = own; has = i.has; op = op; op_is = i.op_is; base = base; well = i.well; seen = i.seen; at = at; given = given }

seen_by : (p : Program) (sees : ℕ → ℕ → Bool) (node : ℕ) (op : Op) (base t : World) (k m : ℕ) → AreScoped p sees → slice_get p.ops node ≡ Some op → IsPart op.work op.parts k m
    → AreSeen sees node base.bindings → At p (entered_by op.work) (is_open op.work op.parts (suc k)) base t → AreSeen sees m t.bindings
seen_by p sees node op base t k m scoped e is seen at declared d = either (scoped node op k m declared e is d)
  where
    either : (sees node declared ≡ true) ⊎ ((is_open op.work op.parts (suc k) ≡ true) × IsAmong declared (entered_by op.work)) → IsBound declared t.bindings
    either (inl own) = at_bound p (entered_by op.work) (is_open op.work op.parts (suc k)) base t declared at (seen declared own)
    either (inr here) = at_entered p (entered_by op.work) (is_open op.work op.parts (suc k)) base t declared at here.0 here.1

-- a part is reached, answers, and the node goes on
part_holds : (E : Halt → Type 0) (p : Program) (sorts : ℕ → Option Sort) (sees : ℕ → ℕ → Bool) (node : ℕ) (op : Op) (own : Sort) (base : World) (done : List Answer) (t : World) (m : ℕ)
    → AreScoped p sees → Known p sorts sees node op own base → IsNext sorts op.work op.parts (length done) m
    → At p (entered_by op.work) (is_open op.work op.parts (suc (length done))) base t → AreGiven p sorts op.work op.parts t.memory 0 done
    → HoldsBy E p sorts sees (Replied E p base own) (with_part node m done) t
part_holds E p sorts sees node op own base done t m scoped i part at given = (
  record {
    own = part.sort;
    has = part.has;
    well = at_well p (entered_by op.work) (is_open op.work op.parts (suc (length done))) base t at;
    seen = seen_by p sees node op base t (length done) m scoped i.op_is part.is_part i.seen at;
  },
  (
    λ answer u kept.
        let B : ℕ → Type 0 = λ n. At p (entered_by op.work) (is_open op.work op.parts n) base u in
        let G : ℕ → Type 0 = λ k. IsPart op.work op.parts k m in
        let counts : length done ≡ 0 + length done = omega arith in
        let after = at_onward p (entered_by op.work) (is_open op.work op.parts (suc (length done))) base t u part.sort answer at kept in
        let more = one_more p sorts op.work op.parts u.memory 0 done answer (given_later p sorts op.work op.parts t.memory u.memory 0 done kept.continues given)
        (inl (record { node = m; sort = part.sort; is_part = subst G counts part.is_part; has = part.has; fits = kept.fits })) in
        (inl (going p sorts sees node op own base (done ++ answer ∷ []) u i (subst B (sym (one_longer done answer)) after) more), (λ v w h. h, λ h' h. h)),
    λ h' h. h,
  ),
)

pub way_holds : (E : Halt → Type 0) (p : Program) (sorts : ℕ → Option Sort) (sees : ℕ → ℕ → Bool) (node : ℕ) (op : Op) (own : Sort) (base : World) (done : List Answer) (s : World) (way : Way)
    → AreScoped p sees → Known p sorts sees node op own base → At p (entered_by op.work) (is_open op.work op.parts (length done)) base s → AreGiven p sorts op.work op.parts s.memory 0 done
    → Goes p sorts node op op.work own done base s way → SafeWay E p node op done s way
    → HoldsBy E p sorts sees (Replied E p base own) (on_way p node op done way) s
way_holds E p sorts sees node op own base done s (Operand m) scoped i at given goes safe =
    let B : Bool → Type 0 = λ b. At p (entered_by op.work) b base s in
    part_holds E p sorts sees node op own base done s m scoped i goes.0 (subst B (sym goes.1) at) given
way_holds E p sorts sees node op own base done s (Enter m) scoped i at given goes safe =
    acted_by (λ answer t. Begun p op.work (is_open op.work op.parts (suc (length done))) base s t) (λ answer t. HoldsBy E p sorts sees (Replied E p base own) (with_part node m done) t) E
    (before_by p node op.work done s) goes.1 safe
    (λ v t b. part_holds E p sorts sees node op own base done t m scoped i goes.0 b.at (given_later p sorts op.work op.parts s.memory t.memory 0 done b.continues given))
way_holds E p sorts sees node op own base done s (Resume again) scoped i at given goes safe =
    acted_by (λ answer t. Begun p op.work (is_open op.work op.parts (length again)) base s t)
    (λ answer t. HoldsBy E p sorts sees (Replied E p base own) (call (operands node again) give) t) E (before_by p node op.work done s) goes.1 safe
    (λ v t b. (inl (going p sorts sees node op own base again t i b.at (given_later p sorts op.work op.parts s.memory t.memory 0 again b.continues goes.0)), (λ w u h. h, λ h' h. h)))
way_holds E p sorts sees node op own base done s Ready scoped i at given goes safe =
    both (λ answer t. Keeps p base t own answer) E (join_by p node op op.work done s) goes safe
