-- The way on by the answers that are kept is the meaning's.
use Rattle.std.proofs.Common.{◌≡◌, ◌≢◌, ℕ, zero, suc, ◌==◌, Bool, true, false, if◌then◌else◌, Option, Some, None, List, [], ◌∷◌, ◌++◌, length, take, drop, slice_get, refl, sym, ap, ◌∙◌, subst, get_or, ◌<◌, ◌-◌, ◌+◌, arith}
use Rattle.std.specs.List.{AllZip}
use Rattle.std.proofs.lemmas.Bool.{true≢false}
use Rattle.std.proofs.lemmas.List.{drop_more, append_assoc}
use Rattle.cr_ints.specs.declared.kind.IntKind.{IntKind}
use Rattle.cr_ints.specs.Conversions.{convert_of}
use Rattle.cr_meaning.specs.Events.{Event}
use Rattle.cr_meaning.specs.World.{Answer, part, next, broke, continued, jumped, returned}
use Rattle.cr_meaning.specs.Values.{truth_of}
use Rattle.cr_meaning.specs.Turns as meant
use Rattle.cr_meaning.specs.declared.op.Case.{Case}
use Rattle.cr_meaning.specs.declared.op.Target.{Target}
use Rattle.cr_meaning.specs.declared.op.Work.{Work}
use Rattle.cr_meaning.specs.declared.op.Work.TheVariants as work
use Rattle.cr_meaning.specs.declared.value.Value.{Value}
use Rattle.cr_meaning.specs.declared.value.Value.TheVariants as value
use Rattle.cr_eval_join.specs.Turns.{is_expression, AreAnswers}
use Rattle.cr_eval_join.specs.Turns as joined
use Rattle.cr_eval_join.specs.declared.way.Next.{Next}
use Rattle.cr_eval_join.specs.declared.way.Next.TheVariants as ahead
use Rattle.cr_exec_slices.specs.Shown.{way_of, fresh_of}
use Rattle.cr_exec_slices.specs.declared.nodes.Way.{Way}
use Rattle.cr_exec_slices.specs.declared.nodes.Way.TheVariants as way
use Rattle.cr_exec_slices.specs.declared.nodes.Fresh.{Fresh}
use Rattle.cr_exec_slices.specs.declared.nodes.Fresh.TheVariants as fresh
use Rattle.cr_exec_turns.specs.declared.held.Held.{Held}
use Rattle.cr_exec_turns.specs.declared.held.Held.TheVariants as held
use Rattle.cr_exec_turns.specs.Held.{shows}
use Rattle.cr_exec_turns.specs.Kept as kept

-- ---- answers and what keeps them

truth_shown : (h : Held) (a : Answer) → shows h a → meant.answer_truth a ≡ kept.truth_in h
truth_shown (held.Part given) (part v events) s = ap truth_of (sym s.0)
truth_shown (held.Part given) other s = absurd s
truth_shown held.Next a s = ap meant.answer_truth s
truth_shown held.Broke a s = ap meant.answer_truth s
truth_shown held.Continued a s = ap meant.answer_truth s
truth_shown (held.Jumped label) a s = ap meant.answer_truth s
truth_shown (held.Returned v) a s = ap meant.answer_truth s

goes_shown : (h : Held) (a : Answer) → shows h a → meant.goes_on a ≡ kept.goes_on h
goes_shown (held.Part given) (part v events) s = refl
goes_shown (held.Part given) other s = absurd s
goes_shown held.Next a s = ap meant.goes_on s
goes_shown held.Broke a s = ap meant.goes_on s
goes_shown held.Continued a s = ap meant.goes_on s
goes_shown (held.Jumped label) a s = ap meant.goes_on s
goes_shown (held.Returned v) a s = ap meant.goes_on s

same_count : (done : List Held) (answers : List Answer) → AllZip shows done answers → length answers ≡ length done
same_count [] [] z = refl
same_count [] (a ∷ answers) z = absurd z
same_count (h ∷ done) [] z = absurd z
same_count (h ∷ done) (a ∷ answers) z = ap suc (same_count done answers z.1)

last_shown : (h : Held) (a : Answer) (done : List Held) (answers : List Answer) → shows h a → AllZip shows done answers
    → shows (kept.last_of h done) (meant.last_of a answers)
last_shown h a [] [] s z = s
last_shown h a [] (b ∷ answers) s z = absurd z
last_shown h a (k ∷ done) [] s z = absurd z
last_shown h a (k ∷ done) (b ∷ answers) s z = last_shown k b done answers z.0 z.1

-- ---- small steps

operand_is : (answers : List Answer) (o : Option ℕ) → meant.operand o ≡ way_of answers (kept.operand o)
operand_is answers None = refl
operand_is answers (Some node) = refl

entering_is : (answers : List Answer) (o : Option ℕ) → meant.entering o ≡ way_of answers (kept.entering o)
entering_is answers None = refl
entering_is answers (Some node) = refl

operand_or_is : (answers before : List Answer) (count : ℕ) (given : Fresh) (o : Option ℕ) → before ≡ take count answers ++ fresh_of given
    → meant.operand_or o before ≡ way_of answers (kept.operand_or o count given)
operand_or_is answers before count given None e = ap (λ (all : List Answer). meant.Resume all) e
operand_or_is answers before count given (Some node) e = refl

choose_by : (answers : List Answer) (t : Option Bool) (w v : meant.Way) (k l : Way) → w ≡ way_of answers k → v ≡ way_of answers l
    → meant.choose t w v ≡ way_of answers (kept.choose t k l)
choose_by answers None w v k l e f = refl
choose_by answers (Some true) w v k l e f = e
choose_by answers (Some false) w v k l e f = f

chosen : (answers : List Answer) (h : Held) (a : Answer) (w v : meant.Way) (k l : Way) → shows h a → w ≡ way_of answers k → v ≡ way_of answers l
    → meant.choose (meant.answer_truth a) w v ≡ way_of answers (kept.choose (kept.truth_in h) k l)
chosen answers h a w v k l s e f =
    ap (λ (t : Option Bool). meant.choose t w v) (truth_shown h a s) ∙ choose_by answers (kept.truth_in h) w v k l e f

on_is : (answers : List Answer) (b : Bool) (w : meant.Way) (k : Way) → w ≡ way_of answers k → (if b then w else meant.Ready) ≡ way_of answers (kept.on b k)
on_is answers true w k e = e
on_is answers false w k e = refl

went : (answers : List Answer) (h : Held) (a : Answer) (w : meant.Way) (k : Way) → shows h a → w ≡ way_of answers k
    → (if meant.goes_on a then w else meant.Ready) ≡ way_of answers (kept.on (kept.goes_on h) k)
went answers h a w k s e = ap (λ (b : Bool). if b then w else meant.Ready) (goes_shown h a s) ∙ on_is answers (kept.goes_on h) w k e

turn_goes : (parts : List ℕ) (done : List Held) (answers : List Answer) → AllZip shows done answers
    → meant.in_turn parts answers ≡ way_of answers (kept.operand (slice_get parts (length done)))
turn_goes parts done answers z =
    ap (λ (n : ℕ). meant.operand (slice_get parts n)) (same_count done answers z) ∙ operand_is answers (slice_get parts (length done))

-- ---- selection and iteration

if_goes : (parts : List ℕ) (done : List Held) (answers : List Answer) → AllZip shows done answers → meant.if_next parts answers ≡ way_of answers (kept.if_way parts done)
if_goes parts [] [] z = operand_is [] (slice_get parts 0)
if_goes parts [] (a ∷ answers) z = absurd z
if_goes parts (h ∷ done) [] z = absurd z
if_goes parts (h ∷ []) (a ∷ []) z =
    chosen (a ∷ []) h a _ _ (kept.entering (slice_get parts 1)) (kept.entering (slice_get parts 2)) z.0 (entering_is (a ∷ []) (slice_get parts 1)) (entering_is (a ∷ []) (slice_get parts 2))
if_goes parts (h ∷ []) (a ∷ (b ∷ answers)) z = absurd z.1
if_goes parts (h ∷ (k ∷ done)) (a ∷ []) z = absurd z.1
if_goes parts (h ∷ (k ∷ done)) (a ∷ (b ∷ answers)) z = refl

while_goes : (parts : List ℕ) (done : List Held) (answers : List Answer) → AllZip shows done answers → meant.while_next parts answers ≡ way_of answers (kept.while_way parts done)
while_goes parts [] [] z = operand_is [] (slice_get parts 0)
while_goes parts [] (a ∷ answers) z = absurd z
while_goes parts (h ∷ done) [] z = absurd z
while_goes parts (h ∷ []) (a ∷ []) z = chosen (a ∷ []) h a _ _ (kept.entering (slice_get parts 1)) way.Ready z.0 (entering_is (a ∷ []) (slice_get parts 1)) refl
while_goes parts (h ∷ []) (a ∷ (b ∷ answers)) z = absurd z.1
while_goes parts (h ∷ (k ∷ done)) (a ∷ []) z = absurd z.1
while_goes parts (h ∷ (k ∷ done)) (a ∷ (b ∷ answers)) z = went (a ∷ (b ∷ answers)) k b _ (way.Resume 0 fresh.Nothing) z.1.0 refl

do_goes : (parts : List ℕ) (done : List Held) (answers : List Answer) → AllZip shows done answers → meant.do_next parts answers ≡ way_of answers (kept.do_way parts done)
do_goes parts [] [] z = operand_is [] (slice_get parts 0)
do_goes parts [] (a ∷ answers) z = absurd z
do_goes parts (h ∷ done) [] z = absurd z
do_goes parts (h ∷ []) (a ∷ []) z = went (a ∷ []) h a _ (kept.operand (slice_get parts 1)) z.0 (operand_is (a ∷ []) (slice_get parts 1))
do_goes parts (h ∷ []) (a ∷ (b ∷ answers)) z = absurd z.1
do_goes parts (h ∷ (k ∷ done)) (a ∷ []) z = absurd z.1
do_goes parts (h ∷ (k ∷ done)) (a ∷ (b ∷ answers)) z = chosen (a ∷ (b ∷ answers)) k b _ _ (way.Resume 0 fresh.Nothing) way.Ready z.1.0 refl refl

-- a `for` that has begun goes on alike, whatever its first part
begun_alike : (first control step : Option ℕ) (body : ℕ) (a : Answer) (answers : List Answer)
    → meant.for_next first control step body (a ∷ answers) ≡ meant.for_next None control step body (a ∷ answers)
begun_alike None control step body a answers = refl
begun_alike (Some first) control step body a [] = refl
begun_alike (Some first) control step body a (b ∷ []) = refl
begun_alike (Some first) control step body a (b ∷ (c ∷ [])) = refl
begun_alike (Some first) control step body a (b ∷ (c ∷ (d ∷ answers))) = refl

begin_is : (first control step : Option ℕ) (body : ℕ) → meant.for_next first control step body [] ≡ way_of [] (kept.begin_way first)
begin_is None control step body = refl
begin_is (Some first) control step body = refl

for_on : (first control step : Option ℕ) (body : ℕ) (h : Held) (a : Answer) (done : List Held) (answers : List Answer) → shows h a → AllZip shows done answers
    → meant.for_next None control step body (a ∷ answers) ≡ way_of (a ∷ answers) (kept.for_way first control step body (h ∷ done))
for_on first control step body h a [] [] s z = operand_or_is (a ∷ []) _ 1 fresh.Absent control refl
for_on first control step body h a [] (b ∷ answers) s z = absurd z
for_on first control step body h a (k ∷ done) [] s z = absurd z
for_on first control step body h a (k ∷ []) (b ∷ []) s z = chosen (a ∷ (b ∷ [])) k b _ _ (way.Enter body) way.Ready z.0 refl refl
for_on first control step body h a (k ∷ []) (b ∷ (c ∷ answers)) s z = absurd z.1
for_on first control step body h a (k ∷ (l ∷ done)) (b ∷ []) s z = absurd z.1
for_on first control step body h a (k ∷ (l ∷ [])) (b ∷ (c ∷ [])) s z =
    went (a ∷ (b ∷ (c ∷ []))) l c _ (kept.operand_or step 1 fresh.Nothing) z.1.0 (operand_or_is (a ∷ (b ∷ (c ∷ []))) _ 1 fresh.Nothing step refl)
for_on first control step body h a (k ∷ (l ∷ [])) (b ∷ (c ∷ (d ∷ answers))) s z = absurd z.1.1
for_on first control step body h a (k ∷ (l ∷ (m ∷ done))) (b ∷ (c ∷ [])) s z = absurd z.1.1
for_on first control step body h a (k ∷ (l ∷ (m ∷ done))) (b ∷ (c ∷ (d ∷ answers))) s z = refl

for_goes : (first control step : Option ℕ) (body : ℕ) (done : List Held) (answers : List Answer) → AllZip shows done answers
    → meant.for_next first control step body answers ≡ way_of answers (kept.for_way first control step body done)
for_goes first control step body [] [] z = begin_is first control step body
for_goes first control step body [] (a ∷ answers) z = absurd z
for_goes first control step body (h ∷ done) [] z = absurd z
for_goes first control step body (h ∷ done) (a ∷ answers) z = begun_alike first control step body a answers ∙ for_on first control step body h a done answers z.0 z.1

-- ---- lists of items

none_first : (more : List Answer) (a : Answer) → [] ≡ a ∷ more → ⊥
none_first more a e = let lengths : 0 ≡ suc (length more) = ap length e in omega arith

-- a list up to its next entry, and behind it
one_further : (answers more : List Answer) (count : ℕ) (a : Answer) → drop count answers ≡ a ∷ more → take (suc count) answers ≡ take count answers ++ a ∷ []
one_further [] more zero a e = absurd (none_first more a e)
one_further [] more (suc count) a e = absurd (none_first more a e)
one_further (b ∷ answers) more zero a e = ap (λ (all : List Answer). take 1 all) e
one_further (b ∷ answers) more (suc count) a e = ap (λ (all : List Answer). b ∷ all) (one_further answers more count a e)

behind_further : (answers more : List Answer) (count : ℕ) (a : Answer) → drop count answers ≡ a ∷ more → drop (suc count) answers ≡ more
behind_further [] more zero a e = absurd (none_first more a e)
behind_further [] more (suc count) a e = absurd (none_first more a e)
behind_further (b ∷ answers) more zero a e = ap (λ (all : List Answer). drop 1 all) e
behind_further (b ∷ answers) more (suc count) a e = behind_further answers more count a e

-- what stays of items that the next one follows is what would come anew
stays : (answers more : List Answer) (count item : ℕ) → drop count answers ≡ next ∷ more → take count answers ++ meant.from_item (suc item) ≡ take (suc count) answers ++ meant.from_item item
stays answers more count item e =
    sym (append_assoc (take count answers) (next ∷ []) (meant.from_item item))
    ∙ ap (λ (all : List Answer). all ++ meant.from_item item) (sym (one_further answers more count next e))

behind_is : (answers more : List Answer) (count : ℕ) (rest : List Held) (item : ℕ) → drop count answers ≡ more → AllZip shows rest more
    → meant.Resume (take count answers ++ meant.from_item item) ≡ way_of answers (kept.resume_behind count rest item)
behind_is answers more count [] item e z = refl
behind_is answers [] count (held.Next ∷ rest) (suc item) e z = absurd z
behind_is answers (a ∷ more) count (held.Next ∷ rest) (suc item) e z =
    let is = e ∙ ap (λ (b : Answer). b ∷ more) z.0 in
    ap meant.Resume (stays answers more count item is)
    ∙ behind_is answers more (suc count) rest item (behind_further answers more count next is) z.1
behind_is answers more count (held.Next ∷ rest) zero e z = refl
behind_is answers more count (held.Part given ∷ rest) item e z = refl
behind_is answers more count (held.Broke ∷ rest) item e z = refl
behind_is answers more count (held.Continued ∷ rest) item e z = refl
behind_is answers more count (held.Jumped label ∷ rest) item e z = refl
behind_is answers more count (held.Returned v ∷ rest) item e z = refl

dropped_shown : (count : ℕ) (done : List Held) (answers : List Answer) → AllZip shows done answers → AllZip shows (drop count done) (drop count answers)
dropped_shown zero done answers z = z
dropped_shown (suc count) [] [] z = z
dropped_shown (suc count) [] (a ∷ answers) z = absurd z
dropped_shown (suc count) (h ∷ done) [] z = absurd z
dropped_shown (suc count) (h ∷ done) (a ∷ answers) z = dropped_shown count done answers z.1

resume_is : (answers before : List Answer) (count : ℕ) (done : List Held) (o : Option ℕ) → before ≡ take count answers → AllZip shows done answers
    → meant.resume_at before o ≡ way_of answers (kept.resume_at count done o)
resume_is answers before count done None e z = refl
resume_is answers before count done (Some item) e z =
    ap (λ (all : List Answer). meant.Resume (all ++ meant.from_item item)) e
    ∙ behind_is answers (drop count answers) count (drop count done) item refl (dropped_shown count done answers z)

after_goes : (answers before : List Answer) (count : ℕ) (items : List ℕ) (labels : List Target) (done : List Held) (at : ℕ) (h : Held) (a : Answer) → before ≡ take count answers
    → AllZip shows done answers → shows h a
    → meant.after_item before items labels at a ≡ way_of answers (kept.after_item count items labels done at h)
after_goes answers before count items labels done at (held.Part given) (part v events) e z s = refl
after_goes answers before count items labels done at (held.Part given) other e z s = absurd s
after_goes answers before count items labels done at held.Next a e z s =
    ap (λ (x : Answer). meant.after_item before items labels at x) s ∙ operand_is answers (slice_get items at)
after_goes answers before count items labels done at held.Broke a e z s = ap (λ (x : Answer). meant.after_item before items labels at x) s
after_goes answers before count items labels done at held.Continued a e z s = ap (λ (x : Answer). meant.after_item before items labels at x) s
after_goes answers before count items labels done at (held.Jumped label) a e z s =
    ap (λ (x : Answer). meant.after_item before items labels at x) s ∙ resume_is answers before count done (meant.item_at labels label) e z
after_goes answers before count items labels done at (held.Returned v) a e z s = ap (λ (x : Answer). meant.after_item before items labels at x) s

-- behind so many answers
behind : (answers before : List Answer) (count : ℕ) (items : List ℕ) (labels : List Target) (all : List Held) (h : Held) (a : Answer) (done : List Held) (more : List Answer)
    → before ≡ take count answers → AllZip shows all answers → shows h a → AllZip shows done more
    → meant.after_item before items labels (length more) (meant.last_of a more) ≡ way_of answers (kept.after_item count items labels all (length done) (kept.last_of h done))
behind answers before count items labels all h a done more e y s z =
    ap (λ (n : ℕ). meant.after_item before items labels n (meant.last_of a more)) (same_count done more z)
    ∙ after_goes answers before count items labels all (length done) (kept.last_of h done) (meant.last_of a more) e y (last_shown h a done more s z)

block_goes : (items : List ℕ) (labels : List Target) (done : List Held) (answers : List Answer) → AllZip shows done answers
    → meant.block_next items labels answers ≡ way_of answers (kept.block_way items labels done)
block_goes items labels [] [] z = refl
block_goes items labels [] (a ∷ answers) z = absurd z
block_goes items labels (h ∷ done) [] z = absurd z
block_goes items labels (h ∷ done) (a ∷ answers) z = behind (a ∷ answers) [] 0 items labels (h ∷ done) h a done answers refl z z.0 z.1

case_value : (kind : IntKind) (cases : List Case) (other : Option ℕ) (v : Value) (events : List Event)
    → meant.case_for kind cases other (part v events) ≡ kept.value_case kind cases other v
case_value kind cases other value.Nothing events = refl
case_value kind cases other (value.Number from number) events = refl
case_value kind cases other (value.Pointer at) events = refl
case_value kind cases other (value.Place at) events = refl
case_value kind cases other (value.Cells cells) events = refl

case_shown : (kind : IntKind) (cases : List Case) (other : Option ℕ) (h : Held) (a : Answer) → shows h a → meant.case_for kind cases other a ≡ kept.case_for kind cases other h
case_shown kind cases other (held.Part given) (part v events) s = case_value kind cases other v events ∙ ap (kept.value_case kind cases other) (sym s.0)
case_shown kind cases other (held.Part given) statement s = absurd s
case_shown kind cases other held.Next a s = ap (meant.case_for kind cases other) s
case_shown kind cases other held.Broke a s = ap (meant.case_for kind cases other) s
case_shown kind cases other held.Continued a s = ap (meant.case_for kind cases other) s
case_shown kind cases other (held.Jumped label) a s = ap (meant.case_for kind cases other) s
case_shown kind cases other (held.Returned v) a s = ap (meant.case_for kind cases other) s

switch_goes : (kind : IntKind) (parts : List ℕ) (cases : List Case) (other : Option ℕ) (labels : List Target) (done : List Held) (answers : List Answer) → AllZip shows done answers
    → meant.switch_next kind parts cases other labels answers ≡ way_of answers (kept.switch_way kind parts cases other labels done)
switch_goes kind parts cases other labels [] [] z = operand_is [] (slice_get parts 0)
switch_goes kind parts cases other labels [] (a ∷ answers) z = absurd z
switch_goes kind parts cases other labels (h ∷ done) [] z = absurd z
switch_goes kind parts cases other labels (h ∷ []) (a ∷ []) z =
    ap (λ (o : Option ℕ). meant.resume_at (a ∷ []) o) (case_shown kind cases other h a z.0) ∙ resume_is (a ∷ []) (a ∷ []) 1 (h ∷ []) (kept.case_for kind cases other h) refl z
switch_goes kind parts cases other labels (h ∷ []) (a ∷ (b ∷ answers)) z = absurd z.1
switch_goes kind parts cases other labels (h ∷ (k ∷ done)) (a ∷ []) z = absurd z.1
switch_goes kind parts cases other labels (h ∷ (k ∷ done)) (a ∷ (b ∷ answers)) z =
    behind (a ∷ (b ∷ answers)) (a ∷ []) 1 (drop 1 parts) labels (h ∷ (k ∷ done)) k b done answers refl z z.1.0 z.1.1

body_by : (answers : List Answer) (body : ℕ) (o : Option ℕ) (b : Bool)
    → (if b then meant.Enter body else meant.operand o) ≡ way_of answers (if b then way.Enter body else kept.operand o)
body_by answers body o true = refl
body_by answers body o false = operand_is answers o

body_goes : (answers : List Answer) (parts : List ℕ) (body : ℕ) (done : List Held) (more : List Answer) → AllZip shows done more
    → meant.body_next parts body more ≡ way_of answers (kept.body_way parts body (length done))
body_goes answers parts body done more z =
    ap (λ (n : ℕ). if n == length parts then meant.Enter body else meant.operand (slice_get parts n)) (same_count done more z)
    ∙ body_by answers body (slice_get parts (length done)) (length done == length parts)

program_goes : (parts : List ℕ) (body : ℕ) (done : List Held) (answers : List Answer) → AllZip shows done answers
    → meant.program_next parts body answers ≡ way_of answers (kept.program_way parts body done)
program_goes parts body [] [] z = refl
program_goes parts body [] (a ∷ answers) z = absurd z
program_goes parts body (h ∷ done) [] z = absurd z
program_goes parts body (h ∷ done) (a ∷ answers) z = body_goes (a ∷ answers) parts body done answers z.1

-- ---- all nodes that are no expressions

pub way_goes : (w : Work) (parts : List ℕ) (done : List Held) (answers : List Answer) → is_expression w ≡ false → AllZip shows done answers
    → meant.next_by w parts answers ≡ way_of answers (kept.way_by w parts done)
way_goes work.LogicalAnd parts done answers e z = absurd (true≢false e)
way_goes work.LogicalOr parts done answers e z = absurd (true≢false e)
way_goes (work.Conditional form) parts done answers e z = absurd (true≢false e)
way_goes (work.Call callee) parts done answers e z = absurd (true≢false e)
way_goes work.If parts done answers e z = if_goes parts done answers z
way_goes work.While parts done answers e z = while_goes parts done answers z
way_goes work.Do parts done answers e z = do_goes parts done answers z
way_goes (work.For objects first control step body) parts done answers e z = for_goes first control step body done answers z
way_goes (work.Switch kind body objects cases other labels) parts done answers e z = switch_goes kind parts cases other labels done answers z
way_goes (work.Block objects labels) parts done answers e z = block_goes parts labels done answers z
way_goes (work.Program objects parameters strings body) parts done answers e z = program_goes parts body done answers z
way_goes w parts done answers e z = turn_goes parts done answers z

pub known_so : (want result : Way) → kept.Known want result → result ≢ way.Unknown → want ≡ result
known_so want way.Unknown k ne = absurd (ne refl)
known_so want (way.Operand node) k ne = k
known_so want (way.Enter node) k ne = k
known_so want (way.Resume count given) k ne = k
known_so want way.Ready k ne = k

pub known_is : (want result : Way) → result ≡ want → kept.Known want result
known_is want result e = let P : Way → Type 0 = λ w. kept.Known w result in subst P e (known_self result)
  where
    known_self : (w : Way) → kept.Known w w
    known_self way.Unknown = tt
    known_self (way.Operand node) = refl
    known_self (way.Enter node) = refl
    known_self (way.Resume count given) = refl
    known_self way.Ready = refl

-- ---- expressions

first_shown : (done : List Held) (a : Answer) → AllZip shows done (a ∷ []) → meant.answer_truth a ≡ kept.first_truth done
first_shown [] a z = absurd z
first_shown (h ∷ done) a z = truth_shown h a z.0

pub are_shown : (done : List Held) (answers : List Answer) (truth : Option Bool) → AllZip shows done answers → truth ≡ kept.first_truth done
    → AreAnswers answers (length done) truth
are_shown done answers truth z t = record {
  count_is = same_count done answers z;
  truth_is = λ a e. let P : List Answer → Type 0 = λ all. AllZip shows done all in first_shown done a (subst P e z) ∙ sym t;
}

pub turned_is : (answers : List Answer) (n : Next) → joined.way_of n ≡ way_of answers (kept.turned n)
turned_is answers (ahead.Operand node) = refl
turned_is answers (ahead.Call body) = refl
turned_is answers ahead.Ready = refl

-- ---- the last of some answers

last_behind : (first : Held) (rest : List Held) (d : Held) → kept.last_of first rest ≡ get_or (first ∷ rest) (length rest) d
last_behind first [] d = refl
last_behind first (h ∷ rest) d = last_behind h rest d

pub last_is : (first : Held) (rest : List Held) (last : Held) → 0 < length rest → last ≡ get_or rest (length rest - 1) last → last ≡ kept.last_of first rest
last_is first [] last b e = absurd (omega arith)
last_is first (h ∷ rest) last b e = e ∙ (ap (λ (n : ℕ). get_or (h ∷ rest) n last) one_less ∙ sym (last_behind h rest last))
  where
    one_less : length (h ∷ rest) - 1 ≡ length rest
    one_less = omega arith

-- ---- cases

step_true : (kind : IntKind) (case : Case) (cases : List Case) (other : Option ℕ) (v : Value) → kept.is_case kind case v ≡ true
    → kept.value_case kind (case ∷ cases) other v ≡ Some case.item
step_true kind case cases other (value.Number from number) h =
    ap (λ (b : Bool). if b then Some case.item else meant.case_at kind cases other (convert_of number kind)) h
step_true kind case cases other v h = absurd (true≢false (sym h))

step_false : (kind : IntKind) (case : Case) (cases : List Case) (other : Option ℕ) (v : Value) → kept.is_case kind case v ≡ false
    → kept.value_case kind (case ∷ cases) other v ≡ kept.value_case kind cases other v
step_false kind case cases other (value.Number from number) h =
    ap (λ (b : Bool). if b then Some case.item else meant.case_at kind cases other (convert_of number kind)) h
step_false kind case cases other v h = refl

pub case_found : (kind : IntKind) (cases : List Case) (i : ℕ) (case : Case) (other : Option ℕ) (v : Value) → i < length cases → kept.is_case kind (get_or cases i case) v ≡ true
    → kept.value_case kind (drop i cases) other v ≡ kept.value_case kind cases other v → Some (get_or cases i case).item ≡ kept.value_case kind cases other v
case_found kind cases i case other v room is same =
    sym (step_true kind (get_or cases i case) (drop (i + 1) cases) other v is)
    ∙ (ap (λ (cs : List Case). kept.value_case kind cs other v) (sym (drop_more cases i case room)) ∙ same)

pub case_passed : (kind : IntKind) (cases : List Case) (i : ℕ) (case : Case) (other : Option ℕ) (v : Value) → i < length cases → kept.is_case kind (get_or cases i case) v ≡ false
    → kept.value_case kind (drop i cases) other v ≡ kept.value_case kind cases other v → kept.value_case kind (drop (i + 1) cases) other v ≡ kept.value_case kind cases other v
case_passed kind cases i case other v room is same =
    sym (step_false kind (get_or cases i case) (drop (i + 1) cases) other v is)
    ∙ (ap (λ (cs : List Case). kept.value_case kind cs other v) (sym (drop_more cases i case room)) ∙ same)

-- ---- jumps

-- an answer that stays, and what follows on it
goes_on_behind : (count at : ℕ) (done : List Held) (left : ℕ) → kept.is_passed (slice_get done at) ≡ true
    → kept.resume_behind count (drop at done) (suc left) ≡ kept.resume_behind (suc count) (drop (suc at) done) left
goes_on_behind count zero [] left e = absurd (true≢false (sym e))
goes_on_behind count (suc at) [] left e = absurd (true≢false (sym e))
goes_on_behind count zero (held.Next ∷ done) left e = refl
goes_on_behind count zero (held.Part given ∷ done) left e = absurd (true≢false (sym e))
goes_on_behind count zero (held.Broke ∷ done) left e = absurd (true≢false (sym e))
goes_on_behind count zero (held.Continued ∷ done) left e = absurd (true≢false (sym e))
goes_on_behind count zero (held.Jumped label ∷ done) left e = absurd (true≢false (sym e))
goes_on_behind count zero (held.Returned v ∷ done) left e = absurd (true≢false (sym e))
goes_on_behind count (suc at) (h ∷ done) left e = goes_on_behind count at done left e

pub stays_on : (count : ℕ) (done : List Held) (left further fewer : ℕ) → further ≡ suc count → left ≡ suc fewer → kept.is_passed (slice_get done count) ≡ true
    → kept.resume_behind count (drop count done) left ≡ kept.resume_behind further (drop further done) fewer
stays_on count done left further fewer f l e =
    ap (kept.resume_behind count (drop count done)) l
    ∙ (goes_on_behind count count done fewer e ∙ ap (λ (n : ℕ). kept.resume_behind n (drop n done) fewer) (sym f))

pub stays_no_more : (count at : ℕ) (done : List Held) (left : ℕ) → kept.is_passed (slice_get done at) ≡ false
    → kept.resume_behind count (drop at done) left ≡ way.Resume count (fresh.Before left)
stays_no_more count zero [] left e = refl
stays_no_more count (suc at) [] left e = refl
stays_no_more count zero (held.Next ∷ done) left e = absurd (true≢false e)
stays_no_more count zero (held.Part given ∷ done) left e = refl
stays_no_more count zero (held.Broke ∷ done) left e = refl
stays_no_more count zero (held.Continued ∷ done) left e = refl
stays_no_more count zero (held.Jumped label ∷ done) left e = refl
stays_no_more count zero (held.Returned v ∷ done) left e = refl
stays_no_more count (suc at) (h ∷ done) left e = stays_no_more count at done left e

pub none_left : (count : ℕ) (rest : List Held) (left : ℕ) → left ≡ 0 → kept.resume_behind count rest left ≡ way.Resume count (fresh.Before left)
none_left count [] left e = refl
none_left count (held.Next ∷ rest) zero e = refl
none_left count (held.Next ∷ rest) (suc left) e = absurd (omega arith)
none_left count (held.Part given ∷ rest) left e = refl
none_left count (held.Broke ∷ rest) left e = refl
none_left count (held.Continued ∷ rest) left e = refl
none_left count (held.Jumped label ∷ rest) left e = refl
none_left count (held.Returned v ∷ rest) left e = refl
