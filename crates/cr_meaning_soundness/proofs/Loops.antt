-- Selection and loops (C11 6.8.4.1, 6.8.5), and what all statements share.
use Rattle.std.proofs.Common.{◌≡◌, refl, sym, subst, inl, inr}
use Rattle.std.specs.Prelude.{ℕ, Bool, true, false, Option, Some, None, Result, Ok, Err, IfOk, List, [], ◌∷◌, length, slice_get, if◌then◌else◌, ◌⊎◌}
use Rattle.cr_memory.specs.declared.value.Trap.{Trap}
use Rattle.cr_memory.specs.Memory.{Memory}
use Rattle.cr_memory.proofs.Continuing.{continues-refl}
use Rattle.cr_meaning.specs.Language.{went}
use Rattle.cr_meaning.specs.World.{Program, World, Binding, enter_all, automatic, marked, closed, left_by, Answer, part, next, broke, continued, jumped, returned}
use Rattle.cr_meaning.specs.Values.{asked}
use Rattle.cr_meaning.specs.Turns.{Way, Operand, Enter, Resume, Ready, operand, entering, choose, answer_truth, absent, goes_on, if_next, while_next, do_next, operand_or, for_next}
use Rattle.cr_meaning.specs.Nodes.{Act, resulting, entering as entering_act, value_of}
use Rattle.cr_meaning.specs.Meaning.{controlled, opened, after_loop}
use Rattle.cr_meaning.specs.declared.op.Op.{Op}
use Rattle.cr_meaning.specs.declared.op.Work.{Work}
use Rattle.cr_meaning.specs.declared.op.Work.TheVariants as work
use Rattle.cr_meaning_soundness.specs.Sorts.{Exits, Sort, statement, sort_of, Answers, IsWellFormed, Keeps}
use Rattle.cr_meaning_soundness.specs.Statements.{Has, HasSort, in_loop}
use Rattle.cr_meaning_soundness.specs.Rules.{IsFor}
use Rattle.cr_meaning_soundness.specs.Scopes.{IsPart, entered_by, is_open}
use Rattle.cr_meaning_soundness.proofs.Worlds.{EntersAll, all_enter, automatic_made, begins, stands_grown, block_ends, left_fits}
use Rattle.cr_meaning_soundness.proofs.Expressions.{Went}
use Rattle.cr_meaning_soundness.proofs.Given.{IsFiller, IsGiven, AreGiven, Beside, Inside, At, stands_beside}
use Rattle.cr_meaning_soundness.proofs.Going.{IsNext, Begun, Goes}

-- ---- what statements share

-- where a node goes on
pub record Here (p : Program) (sorts : ℕ → Option Sort) (w : Work) (parts : List ℕ) (done : List Answer) (base s : World) : Type 0 where
  pub well : IsWellFormed p base
  pub at : At p (entered_by w) (is_open w parts (length done)) base s
  pub given : AreGiven p sorts w parts s.memory 0 done

abbrev pub HaveSorts : (ℕ → Option Sort) → Op → Type 0
HaveSorts sorts op = (k node : ℕ) → slice_get op.parts k ≡ Some node → HasSort sorts node

pub next_at : (sorts : ℕ → Option Sort) (w : Work) (parts : List ℕ) (k m : ℕ) → HasSort sorts m → IsPart w parts k m → IsNext sorts w parts k m
next_at sorts w parts k m h is = record { sort = h.0; has = h.1; is_part = is }

pub by_operand : (F : Way → Type 0) (o : Option ℕ) → ((m : ℕ) → o ≡ Some m → F (Operand m)) → (o ≡ None → F Ready) → F (operand o)
by_operand F None some none = none refl
by_operand F (Some m) some none = some m refl

pub by_entering : (F : Way → Type 0) (o : Option ℕ) → ((m : ℕ) → o ≡ Some m → F (Enter m)) → F Ready → F (entering o)
by_entering F None some none = none
by_entering F (Some m) some none = some m refl

pub by_choice : (F : Way → Type 0) (o : Option Bool) (one other : Way) → F Ready → F one → F other → F (choose o one other)
by_choice F None one other r h k = r
by_choice F (Some true) one other r h k = h
by_choice F (Some false) one other r h k = k

pub by_test : (F : Way → Type 0) (b : Bool) (one other : Way) → F one → F other → F (if b then one else other)
by_test F true one other h k = h
by_test F false one other h k = k

pub went_resulting : {A : Type 0} (Q : Answer → World → Type 0) (node : ℕ) (result : Result A Trap) (f : A → Act) → ((a : A) → Went Q (f a)) → Went Q (resulting node result f)
went_resulting Q node (Ok a) f h = h a
went_resulting Q node (Err trap) f h = tt

pub went_controlled : (Q : Answer → World → Type 0) (node : ℕ) (control : Answer) (s : World) → Q next s → Went Q (controlled node control s)
went_controlled Q node control s h = went_resulting Q node (asked s.memory (value_of control)) (λ _. went next s) (λ a. h)

pub began : (p : Program) (w : Work) (b : Bool) (base s : World) → At p (entered_by w) b base s → Begun p w b base s s
began p w b base s at = record { at = at; continues = continues-refl s.memory }

pub kept_here : (p : Program) (base s : World) (own : Sort) (answer : Answer) → Beside p base s → Answers p s.memory own answer → Keeps p base s own answer
kept_here p base s own answer b h = record { fits = h; well_formed = b.well; continues = b.continues; bindings = b.bindings }

-- an answer of a part of this sort, or in place of one
pub given_answers : (p : Program) (sorts : ℕ → Option Sort) (w : Work) (parts : List ℕ) (memory : Memory) (k : ℕ) (exits : Exits) (answer : Answer)
    → ((m : ℕ) (sort : Sort) → IsPart w parts k m → sorts m ≡ Some sort → sort ≡ statement exits) → (IsFiller w k answer → answer ≡ next)
    → IsGiven p sorts w parts memory k answer → Answers p memory (statement exits) answer
given_answers p sorts w parts memory k exits answer rule fill (inl g) =
    let F : Sort → Type 0 = λ s. Answers p memory s answer in subst F (rule g.node g.sort g.is_part g.has) g.fits
given_answers p sorts w parts memory k exits answer rule fill (inr filler) =
    let F : Answer → Type 0 = λ a. Answers p memory (statement exits) a in subst F (sym (fill filler)) tt

-- ---- blocks

answers_left : (p : Program) (memory : Memory) (bindings : List Binding) (exits : Exits) (answer : Answer) → Answers p memory (statement exits) answer
    → Answers p (left_by memory bindings).0 (statement exits) answer
answers_left p memory bindings exits (returned value) h = (left_fits memory bindings (sort_of p exits.result) value h.0, h.1)
answers_left p memory bindings exits (part value events) h = absurd h
answers_left p memory bindings exits answer h = h

pub closing : (p : Program) (entered : List ℕ) (base s : World) (exits : Exits) (answer : Answer) → IsWellFormed p base → Inside p entered base s → Answers p s.memory (statement exits) answer
    → Keeps p base (closed s) (statement exits) answer
closing p entered base s exits answer well inside h =
    let l = block_ends p base s well inside.stands in
    record { fits = answers_left p s.memory s.bindings exits answer h; well_formed = l.well_formed; continues = l.continues; bindings = l.bindings }

pub went_entering : (P : World → Type 0) (Q : Answer → World → Type 0) (result : Result World (Trap × ℕ)) → IfOk result P → ((t : World) → P t → Q next t) → Went Q (entering_act result)
went_entering P Q (Ok t) h f = f t h
went_entering P Q (Err case) h f = tt

pub opening : (p : Program) (w : Work) (base s : World) → Beside p base s → Went (λ answer t. Begun p w true base s t) (opened p (entered_by w) s)
opening p w base s b =
    let begun = begins p s b.well in
    went_entering (EntersAll p (marked s) (entered_by w)) (λ answer t. Begun p w true base s t) (enter_all (automatic p) (marked s) (entered_by w))
    (all_enter p (automatic p) (marked s) (entered_by w) begun.well (λ node among. automatic_made p node))
    (λ t e. record {
      at = record { stands = stands_beside p base s t b (stands_grown p s (marked s) t begun e.0); all_bound = e.1 };
      continues = e.0.continues;
    })

-- ---- `if`

no_more : (p : Program) (sorts : ℕ → Option Sort) (parts : List ℕ) (memory : Memory) (k : ℕ) (w : Work) (answer : Answer) (C : Type 0) → ((m : ℕ) → IsPart w parts k m → ⊥)
    → (IsFiller w k answer → ⊥) → IsGiven p sorts w parts memory k answer → C
no_more p sorts parts memory k w answer C none unfilled (inl g) = absurd (none g.node g.is_part)
no_more p sorts parts memory k w answer C none unfilled (inr filler) = absurd (unfilled filler)

either_branch : (sorts : ℕ → Option Sort) (op : Op) (own : Sort) (m : ℕ) (sort : Sort) → Has sorts op 1 (λ each. each ≡ own) × Has sorts op 2 (λ each. each ≡ own)
    → (slice_get op.parts 1 ≡ Some m) ⊎ (slice_get op.parts 2 ≡ Some m) → sorts m ≡ Some sort → sort ≡ own
either_branch sorts op own m sort g (inl e) has = g.0 m sort e has
either_branch sorts op own m sort g (inr e) has = g.1 m sort e has

pub if_goes : (p : Program) (sorts : ℕ → Option Sort) (node : ℕ) (op : Op) (exits : Exits) (done : List Answer) (base s : World)
    → Has sorts op 1 (λ each. each ≡ statement exits) × Has sorts op 2 (λ each. each ≡ statement exits) → HaveSorts sorts op → Here p sorts work.If op.parts done base s
    → Goes p sorts node op work.If (statement exits) done base s (if_next op.parts done)
if_goes p sorts node op exits [] base s g have h =
    by_operand (Goes p sorts node op work.If (statement exits) [] base s) (slice_get op.parts 0)
    (λ m e. (next_at sorts work.If op.parts 0 m (have 0 m e) e, refl)) (λ e. kept_here p base s (statement exits) next h.at tt)
if_goes p sorts node op exits (control ∷ []) base s g have h =
    let F = Goes p sorts node op work.If (statement exits) (control ∷ []) base s in
    let ready : F Ready = went_controlled (λ answer t. Keeps p base t (statement exits) answer) node control s (kept_here p base s (statement exits) next h.at tt) in
    let before = went_controlled (λ answer t. Begun p work.If false base s t) node control s (began p work.If false base s h.at) in
    by_choice F (answer_truth control) _ _ ready
    (by_entering F (slice_get op.parts 1) (λ m e. (next_at sorts work.If op.parts 1 m (have 1 m e) (inl e), before)) ready)
    (by_entering F (slice_get op.parts 2) (λ m e. (next_at sorts work.If op.parts 1 m (have 2 m e) (inr e), before)) ready)
if_goes p sorts node op exits (control ∷ branch ∷ []) base s g have h =
    kept_here p base s (statement exits) branch h.at
    (given_answers p sorts work.If op.parts s.memory 1 exits branch (λ m sort is has. either_branch sorts op (statement exits) m sort g is has) (λ f. absurd f) h.given.1.0)
if_goes p sorts node op exits (control ∷ branch ∷ more ∷ rest) base s g have h =
    no_more p sorts op.parts s.memory 2 work.If more _ (λ m is. is) (λ f. f) h.given.1.1.0

-- ---- loops

pub left_loop : (p : Program) (memory : Memory) (exits : Exits) (answer : Answer) → Answers p memory (statement (in_loop exits)) answer → Answers p memory (statement exits) (after_loop answer)
left_loop p memory exits (part value events) h = absurd h
left_loop p memory exits next h = tt
left_loop p memory exits broke h = tt
left_loop p memory exits continued h = tt
left_loop p memory exits (jumped label) h = h
left_loop p memory exits (returned value) h = h

pub while_goes : (p : Program) (sorts : ℕ → Option Sort) (node : ℕ) (op : Op) (exits : Exits) (done : List Answer) (base s : World)
    → Has sorts op 1 (λ each. each ≡ statement (in_loop exits)) → HaveSorts sorts op → Here p sorts work.While op.parts done base s
    → Goes p sorts node op work.While (statement exits) done base s (while_next op.parts done)
while_goes p sorts node op exits [] base s g have h =
    by_operand (Goes p sorts node op work.While (statement exits) [] base s) (slice_get op.parts 0)
    (λ m e. (next_at sorts work.While op.parts 0 m (have 0 m e) e, refl)) (λ e. kept_here p base s (statement exits) next h.at tt)
while_goes p sorts node op exits (control ∷ []) base s g have h =
    let F = Goes p sorts node op work.While (statement exits) (control ∷ []) base s in
    let ready : F Ready = went_controlled (λ answer t. Keeps p base t (statement exits) answer) node control s (kept_here p base s (statement exits) next h.at tt) in
    let before = went_controlled (λ answer t. Begun p work.While false base s t) node control s (began p work.While false base s h.at) in
    by_choice F (answer_truth control) _ _ ready
    (by_entering F (slice_get op.parts 1) (λ m e. (next_at sorts work.While op.parts 1 m (have 1 m e) e, before)) ready) ready
while_goes p sorts node op exits (control ∷ rest ∷ []) base s g have h =
    by_test (Goes p sorts node op work.While (statement exits) (control ∷ rest ∷ []) base s) (goes_on rest) (Resume []) Ready
    (tt, began p work.While false base s h.at)
    (kept_here p base s (statement exits) (after_loop rest) h.at (left_loop p s.memory exits rest
    (given_answers p sorts work.While op.parts s.memory 1 (in_loop exits) rest (λ m sort is has. g m sort is has) (λ f. absurd f) h.given.1.0)))
while_goes p sorts node op exits (control ∷ rest ∷ more ∷ others) base s g have h =
    no_more p sorts op.parts s.memory 2 work.While more _ (λ m is. is) (λ f. f) h.given.1.1.0

pub do_goes : (p : Program) (sorts : ℕ → Option Sort) (node : ℕ) (op : Op) (exits : Exits) (done : List Answer) (base s : World)
    → Has sorts op 0 (λ each. each ≡ statement (in_loop exits)) → HaveSorts sorts op → Here p sorts work.Do op.parts done base s
    → Goes p sorts node op work.Do (statement exits) done base s (do_next op.parts done)
do_goes p sorts node op exits [] base s g have h =
    by_operand (Goes p sorts node op work.Do (statement exits) [] base s) (slice_get op.parts 0)
    (λ m e. (next_at sorts work.Do op.parts 0 m (have 0 m e) e, refl)) (λ e. kept_here p base s (statement exits) next h.at tt)
do_goes p sorts node op exits (rest ∷ []) base s g have h =
    let F = Goes p sorts node op work.Do (statement exits) (rest ∷ []) base s in
    let ready : F Ready = kept_here p base s (statement exits) (after_loop rest) h.at (left_loop p s.memory exits rest
    (given_answers p sorts work.Do op.parts s.memory 0 (in_loop exits) rest (λ m sort is has. g m sort is has) (λ f. absurd f) h.given.0)) in
    by_test F (goes_on rest) (operand (slice_get op.parts 1)) Ready
    (by_operand F (slice_get op.parts 1) (λ m e. (next_at sorts work.Do op.parts 1 m (have 1 m e) e, refl)) (λ e. ready)) ready
do_goes p sorts node op exits (rest ∷ control ∷ []) base s g have h =
    let F = Goes p sorts node op work.Do (statement exits) (rest ∷ control ∷ []) base s in
    let ready : F Ready = went_controlled (λ answer t. Keeps p base t (statement exits) answer) node control s (kept_here p base s (statement exits) next h.at tt) in
    by_choice F (answer_truth control) (Resume []) Ready ready
    (tt, went_controlled (λ answer t. Begun p work.Do false base s t) node control s (began p work.Do false base s h.at)) ready
do_goes p sorts node op exits (rest ∷ control ∷ more ∷ others) base s g have h =
    no_more p sorts op.parts s.memory 2 work.Do more _ (λ m is. is) (λ f. f) h.given.1.1.0

-- ---- `for`

pub by_clause : (F : Way → Type 0) (o : Option ℕ) (again : List Answer) → (o ≡ None → F (Resume again)) → ((m : ℕ) → o ≡ Some m → F (Operand m)) → F (operand_or o again)
by_clause F None again none some = none refl
by_clause F (Some m) again none some = some m refl

pub for_goes : (p : Program) (sorts : ℕ → Option Sort) (node : ℕ) (op : Op) (objects : List ℕ) (first control step : Option ℕ) (rest : ℕ) (exits : Exits) (done : List Answer) (base s : World)
    → IsFor sorts first control step rest exits → Here p sorts (work.For objects first control step rest) op.parts done base s
    → Goes p sorts node op (work.For objects first control step rest) (statement exits) done base s (for_next first control step rest done)
for_goes p sorts node op objects (Some first) control step rest exits [] base s g h =
    let w = work.For objects (Some first) control step rest in
    (next_at sorts w op.parts 0 first (g.first_has first refl) refl, opening p w base s h.at)
for_goes p sorts node op objects None control step rest exits [] base s g h =
    let w = work.For objects None control step rest in ((inr refl, tt), opening p w base s h.at)
for_goes p sorts node op objects first control step rest exits (begun ∷ []) base s g h =
    let w = work.For objects first control step rest in
    by_clause (Goes p sorts node op w (statement exits) (begun ∷ []) base s) control (begun ∷ absent ∷ [])
    (λ e. ((h.given.0, (inr (refl, e), tt)), began p w true base s h.at))
    (λ m e. (next_at sorts w op.parts 1 m (g.control_has m e) e, refl))
for_goes p sorts node op objects first control step rest exits (begun ∷ asked ∷ []) base s g h =
    let w = work.For objects first control step rest in
    let F = Goes p sorts node op w (statement exits) (begun ∷ asked ∷ []) base s in
    let ready : F Ready = went_resulting (λ answer t. Keeps p base t (statement exits) answer) node _ (λ _. went next (closed s)) (λ a. closing p objects base s exits next h.well h.at tt) in
    by_choice F (answer_truth asked) (Enter rest) Ready ready
    (next_at sorts w op.parts 2 rest (statement (in_loop exits), g.body) refl, went_controlled (λ answer t. Begun p w true base s t) node asked s (began p w true base s h.at)) ready
for_goes p sorts node op objects first control step rest exits (begun ∷ asked ∷ done ∷ []) base s g h =
    let w = work.For objects first control step rest in
    let F = Goes p sorts node op w (statement exits) (begun ∷ asked ∷ done ∷ []) base s in
    let body_is : (m : ℕ) (sort : Sort) → rest ≡ m → sorts m ≡ Some sort → sort ≡ statement (in_loop exits) =
    (λ m sort same has. one_sort sorts rest m sort (statement (in_loop exits)) same has g.body) in
    by_test F (goes_on done) (operand_or step (begun ∷ [])) Ready
    (by_clause F step (begun ∷ []) (λ e. ((h.given.0, tt), began p w true base s h.at)) (λ m e. (next_at sorts w op.parts 3 m (g.step_has m e) e, refl)))
    (closing p objects base s exits (after_loop done) h.well h.at (left_loop p s.memory exits done
    (given_answers p sorts w op.parts s.memory 2 (in_loop exits) done body_is (λ f. absurd f) h.given.1.1.0)))
  where
    one_sort : (sorts : ℕ → Option Sort) (rest m : ℕ) (sort other : Sort) → rest ≡ m → sorts m ≡ Some sort → sorts rest ≡ Some other → sort ≡ other
    one_sort sorts rest m sort other same has e = cc
for_goes p sorts node op objects first control step rest exits (begun ∷ asked ∷ done ∷ stepped ∷ more) base s g h =
    let w = work.For objects first control step rest in ((h.given.0, tt), began p w true base s h.at)
