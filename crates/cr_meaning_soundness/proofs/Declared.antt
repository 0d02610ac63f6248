-- Declarations and their initialisers (C11 6.7, 6.7.9): what they set are values of the cells' kinds.
use Rattle.std.proofs.Common.{◌≡◌, refl, sym, ◌∙◌, ap, subst, arith}
use Rattle.std.specs.Prelude.{ℕ, zero, suc, ◌≤◌, ◌==◌, Bool, true, false, Option, Some, None, Result, Ok, Err, IfOk, List, [], ◌∷◌, map, length, take, drop, replicate, get_or, slice_get, if◌then◌else◌}
use Rattle.std.specs.List.{AllByRecursion}
use Rattle.std.proofs.lemmas.Bool.{eqb-true}
use Rattle.std.proofs.lemmas.List.{length-map, take_all}
use Rattle.cr_ints.specs.declared.kind.IntKind.{IntKind}
use Rattle.cr_ints.specs.declared.kind.IntKind.TheVariants.{Char as CharKind}
use Rattle.cr_ints.specs.IntKind.{Represents}
use Rattle.cr_ints.proofs.Congruence.{convert_of-represents}
use Rattle.cr_memory.specs.declared.value.Scalar.{Scalar}
use Rattle.cr_memory.specs.declared.value.Scalar.TheVariants as scalar
use Rattle.cr_memory.specs.declared.value.Guard.{Guard}
use Rattle.cr_memory.specs.declared.value.Cell.{Cell}
use Rattle.cr_memory.specs.declared.value.Cell.TheVariants as cell
use Rattle.cr_memory.specs.declared.value.Pointer.TheVariants.{Null, At}
use Rattle.cr_memory.specs.declared.value.Trap.{Trap}
use Rattle.cr_memory.specs.Memory.{Object, Memory, Holds, AllHold, live_object, count_of, zero_of}
use Rattle.cr_memory.specs.Access.{some_object, with_cells}
use Rattle.cr_memory.specs.Continues.{Continues}
use Rattle.cr_memory.proofs.Continuing.{continues-refl, continues-onward}
use Rattle.cr_meaning.specs.Language.{went}
use Rattle.cr_meaning.specs.World.{Program, World, Binding, bound, mark, object_for, unset_again, untyped, unused_value, Answer, next}
use Rattle.cr_meaning.specs.Values.{kinds_in, cells_in, converted, cells_of_value}
use Rattle.cr_meaning.specs.Turns.{in_turn}
use Rattle.cr_meaning.specs.Nodes.{Act, stops, values, value_of, element_of, elements_of, initial, set_parts, unused_in, initials, with_parts, zeroed, initialised, on_object}
use Rattle.cr_meaning.specs.declared.op.Op.{Op}
use Rattle.cr_meaning.specs.declared.op.Line.{Line}
use Rattle.cr_meaning.specs.declared.op.Form.{Form}
use Rattle.cr_meaning.specs.declared.op.Form.TheVariants as form
use Rattle.cr_meaning.specs.declared.op.Work.TheVariants as work
use Rattle.cr_meaning.specs.declared.value.Value.{Value}
use Rattle.cr_meaning.specs.declared.value.Value.TheVariants.{Nothing, Place}
use Rattle.cr_meaning_soundness.specs.Sorts.{Exits, Sort, number, place, chars, statement, sort_of_scalar, sorts_in, AreChars, HoldsChars, Fits, IsSound, IsEntered, AreEntered, Keeps}
use Rattle.cr_meaning_soundness.specs.Statements.{sorts_of, IsCharacter, Initialises, HasCells, AreLines}
use Rattle.cr_meaning_soundness.proofs.Cells.{kinds_of, free, RunHolds, holds_later, Written, written}
use Rattle.cr_meaning_soundness.proofs.Later.{is_entered_later, entered_later}
use Rattle.cr_meaning_soundness.proofs.Pointers.{ok_then}
use Rattle.cr_meaning_soundness.proofs.Works.{converted_holds}
use Rattle.cr_meaning_soundness.proofs.Worlds.{new_holds}
use Rattle.cr_meaning_soundness.proofs.Expressions.{Went}
use Rattle.cr_meaning_soundness.proofs.Given.{AreFrom, unfilled, value_fits, Beside, keeps_beside}
use Rattle.cr_meaning_soundness.proofs.Going.{Goes}
use Rattle.cr_meaning_soundness.proofs.Loops.{Here, HaveSorts, next_at}
use Rattle.cr_meaning_soundness.proofs.Jumps.{by_turn}

-- ---- cells of the same sort

head_is : (x y : Sort) (xs ys : List Sort) → x ∷ xs ≡ y ∷ ys → x ≡ y
head_is x y xs ys e = cc

tail_is : (x y : Sort) (xs ys : List Sort) → x ∷ xs ≡ y ∷ ys → xs ≡ ys
tail_is x y xs ys e = cc

same_kind : (one other : IntKind) → number one ≡ number other → other ≡ one
same_kind one other e = cc

-- pointers are not told apart
pub alike : (memory : Memory) (kind other : Scalar) (held : Cell) → sort_of_scalar other ≡ sort_of_scalar kind → Holds memory kind held → Holds memory other held
alike memory kind other cell.Unset e h = tt
alike memory (scalar.Int kind) (scalar.Int other) (cell.Number value) e h = let F : IntKind → Type 0 = λ k. Represents k value in subst F (same_kind other kind e) h
alike memory (scalar.Int kind) (scalar.Pointer to) (cell.Number value) e h = absurd (cc e)
alike memory (scalar.Int kind) other (cell.Pointer at) e h = absurd h
alike memory (scalar.Pointer to) other (cell.Number value) e h = absurd h
alike memory (scalar.Pointer to) (scalar.Int other) (cell.Pointer at) e h = absurd (cc e)
alike memory (scalar.Pointer to) (scalar.Pointer other) (cell.Pointer at) e h = h

pub hold_in_shape : (memory : Memory) (shape : List (Scalar × Guard)) (kinds : List Scalar) (held : List Cell) → sorts_in shape ≡ map sort_of_scalar kinds
    → AllHold memory kinds held → AllHold memory (kinds_of shape) held
hold_in_shape memory [] [] held e h = h
hold_in_shape memory [] (kind ∷ kinds) held e h = absurd (cc e)
hold_in_shape memory (own ∷ shape) [] held e h = absurd (cc e)
hold_in_shape memory (own ∷ shape) (kind ∷ kinds) [] e h = absurd h
hold_in_shape memory (own ∷ shape) (kind ∷ kinds) (value ∷ held) e h =
    (alike memory kind own.0 value (head_is _ _ _ _ e) h.0, hold_in_shape memory shape kinds held (tail_is _ _ _ _ e) h.1)

-- ---- a run of cells

run_shift : (memory : Memory) (own : Scalar × Guard) (shape : List (Scalar × Guard)) (from : ℕ) (held : List Cell) → RunHolds memory shape from held → RunHolds memory (own ∷ shape) (suc from) held
run_shift memory own shape from [] h = tt
run_shift memory own shape from (value ∷ held) h = (h.0, run_shift memory own shape (suc from) held h.1)

run_later : (old new : Memory) (shape : List (Scalar × Guard)) (from : ℕ) (held : List Cell) → Continues old new → RunHolds old shape from held → RunHolds new shape from held
run_later old new shape from [] c h = tt
run_later old new shape from (value ∷ held) c h = (holds_later old new (get_or shape from free).0 value c h.0, run_later old new shape (suc from) held c h.1)

run_alike : (memory : Memory) (shape : List (Scalar × Guard)) (from : ℕ) (kinds : List Scalar) (held : List Cell)
    → take (length kinds) (drop from (sorts_in shape)) ≡ map sort_of_scalar kinds → AllHold memory kinds held → RunHolds memory shape from held
run_alike memory shape from kinds [] e h = tt
run_alike memory shape from [] (value ∷ held) e h = absurd h
run_alike memory [] zero (kind ∷ kinds) (value ∷ held) e h = absurd (cc e)
run_alike memory [] (suc from) (kind ∷ kinds) (value ∷ held) e h = absurd (cc e)
run_alike memory (own ∷ shape) zero (kind ∷ kinds) (value ∷ held) e h =
    (alike memory kind own.0 value (head_is _ _ _ _ e) h.0, run_shift memory own shape zero held (run_alike memory shape zero kinds held (tail_is _ _ _ _ e) h.1))
run_alike memory (own ∷ shape) (suc from) (kind ∷ kinds) (value ∷ held) e h =
    run_shift memory own shape from (value ∷ held) (run_alike memory shape from (kind ∷ kinds) (value ∷ held) e h)

-- ---- chars

abbrev AllChars : Memory → List Cell → Type 0
AllChars memory [] = Unit {0}
AllChars memory (value ∷ held) = Holds memory (scalar.Int CharKind) value × AllChars memory held

chars_held : (memory : Memory) (shape : List (Scalar × Guard)) (held : List Cell) → AreChars shape → AllHold memory (kinds_of shape) held → AllChars memory held
chars_held memory shape [] e h = tt
chars_held memory [] (value ∷ held) e h = absurd h
chars_held memory (own ∷ shape) (value ∷ held) e h =
    (alike memory own.0 (scalar.Int CharKind) value (sym (head_is _ _ _ _ e)) h.0, chars_held memory shape held (tail_is _ _ _ _ e) h.1)

element_holds : (memory : Memory) (kind : Scalar) (held : Cell) → IsCharacter (sort_of_scalar kind) → Holds memory (scalar.Int CharKind) held → Holds memory kind (element_of kind held)
element_holds memory (scalar.Int kind) cell.Unset is h = tt
element_holds memory (scalar.Int kind) (cell.Number value) is h = convert_of-represents value kind
element_holds memory (scalar.Int kind) (cell.Pointer at) is h = absurd h
element_holds memory (scalar.Pointer to) held is h = absurd is

-- there may be fewer elements than kinds
elements_hold : (memory : Memory) (shape : List (Scalar × Guard)) (from : ℕ) (kinds : List Scalar) (held : List Cell)
    → take (length kinds) (drop from (sorts_in shape)) ≡ map sort_of_scalar kinds → AllByRecursion IsCharacter (map sort_of_scalar kinds) → AllChars memory held
    → RunHolds memory shape from (elements_of kinds held)
elements_hold memory shape from [] held e are h = tt
elements_hold memory shape from (kind ∷ kinds) [] e are h = tt
elements_hold memory [] zero (kind ∷ kinds) (value ∷ held) e are h = absurd (cc e)
elements_hold memory [] (suc from) (kind ∷ kinds) (value ∷ held) e are h = absurd (cc e)
elements_hold memory (own ∷ shape) zero (kind ∷ kinds) (value ∷ held) e are h = (
  alike memory kind own.0 (element_of kind value) (head_is _ _ _ _ e) (element_holds memory kind value are.0 h.0),
  run_shift memory own shape zero (elements_of kinds held) (elements_hold memory shape zero kinds held (tail_is _ _ _ _ e) are.1 h.1),
)
elements_hold memory (own ∷ shape) (suc from) (kind ∷ kinds) (value ∷ held) e are h =
    run_shift memory own shape from (elements_of (kind ∷ kinds) (value ∷ held)) (elements_hold memory shape from (kind ∷ kinds) (value ∷ held) e are h)

-- ---- what initialisers set

abbrev IsSet : Program → ℕ → Memory → ℕ × List Cell → Type 0
IsSet p declared memory set = (shape : List (Scalar × Guard)) → sorts_in shape ≡ sorts_in (p.shape declared) → RunHolds memory shape set.0 set.1

abbrev AllSet : Program → ℕ → Memory → List (ℕ × List Cell) → Type 0
AllSet p declared memory [] = Unit {0}
AllSet p declared memory (set ∷ rest) = IsSet p declared memory set × AllSet p declared memory rest

all_set_later : (p : Program) (declared : ℕ) (old new : Memory) (sets : List (ℕ × List Cell)) → Continues old new → AllSet p declared old sets → AllSet p declared new sets
all_set_later p declared old new [] c h = tt
all_set_later p declared old new (set ∷ rest) c h = (λ shape e. run_later old new shape set.0 set.1 c (h.0 shape e), all_set_later p declared old new rest c h.1)

literal_sets : (p : Program) (declared : ℕ) (memory : Memory) (line : Line) (object : ℕ) (o : Option Object) → live_object memory object ≡ o → IsSound memory → HasCells p declared line
    → AllByRecursion IsCharacter (sorts_of p line.form) → HoldsChars memory object → IsSet p declared memory (line.cell, elements_of (kinds_in p line.form) (some_object o).cells)
literal_sets p declared memory line object None e sound c are h shape same =
    let S : List Sort → Type 0 = λ l. take (cells_in p line.form) (drop line.cell l) ≡ sorts_of p line.form in
    elements_hold memory shape line.cell (kinds_in p line.form) [] (subst S (sym same) c) are tt
literal_sets p declared memory line object (Some live) e sound c are h shape same =
    let S : List Sort → Type 0 = λ l. take (cells_in p line.form) (drop line.cell l) ≡ sorts_of p line.form in
    elements_hold memory shape line.cell (kinds_in p line.form) live.cells (subst S (sym same) c) are
    (chars_held memory live.shape live.cells (h live e) (sound.kinds object live e))

nothing_sets : (p : Program) (declared : ℕ) (memory : Memory) (from : ℕ) (result : Form) → IfOk (converted memory result Nothing) (λ new. IsSet p declared memory (from, cells_of_value new))
nothing_sets p declared memory from form.Void = λ shape e. tt
nothing_sets p declared memory from result = tt

value_sets : (p : Program) (declared : ℕ) (memory : Memory) (line : Line) (result : Result Value Trap) → HasCells p declared line
    → IfOk result (λ new. AllHold memory (kinds_in p line.form) (cells_of_value new)) → IfOk result (λ new. IsSet p declared memory (line.cell, cells_of_value new))
value_sets p declared memory line (Err trap) c h = tt
value_sets p declared memory line (Ok new) c h = λ shape same.
    let S : List Sort → Type 0 = λ l. take (cells_in p line.form) (drop line.cell l) ≡ sorts_of p line.form in
    run_alike memory shape line.cell (kinds_in p line.form) (cells_of_value new) (subst S (sym same) c) h

abbrev SetsAt : Program → ℕ → Memory → Line → List Cell → Type 0
SetsAt p declared memory line held = IsSet p declared memory (line.cell, held)

initial_sets : (p : Program) (declared : ℕ) (memory : Memory) (line : Line) (sort : Sort) (value : Value) → IsSound memory → HasCells p declared line → Initialises p line.form sort
    → Fits memory sort value → IfOk (initial p memory line value) (SetsAt p declared memory line)
initial_sets p declared memory line (place count) value sound c g h = absurd g
initial_sets p declared memory line chars (Place (At object from low high stride)) sound c g h =
    literal_sets p declared memory line object (live_object memory object) refl sound c g h.1
initial_sets p declared memory line chars (Place Null) sound c g h = absurd h
initial_sets p declared memory line sort Nothing sound c g h =
    ok_then (λ new. IsSet p declared memory (line.cell, cells_of_value new)) (SetsAt p declared memory line) (converted memory line.form Nothing) _
    (nothing_sets p declared memory line.cell line.form) (λ new is. is)
initial_sets p declared memory line chars value sound c g h = absurd h
initial_sets p declared memory line sort (Place at) sound c g h = absurd h
initial_sets p declared memory line sort value sound c g h =
    ok_then (λ new. IsSet p declared memory (line.cell, cells_of_value new)) (SetsAt p declared memory line) (converted memory line.form value) _
    (value_sets p declared memory line (converted memory line.form value) c (converted_holds p memory line.form sort value g h)) (λ new is. is)

pub one_set : (P : ℕ × List Cell → Type 0) (Q : List (ℕ × List Cell) → Type 0) (line : Line) (one : Result (List Cell) Trap) (rest : Result (List (ℕ × List Cell)) (Trap × ℕ))
    → IfOk one (λ held. P (line.cell, held)) → IfOk rest Q → ((set : ℕ × List Cell) (others : List (ℕ × List Cell)) → P set → Q others → Q (set ∷ others))
    → IfOk (elim one as (λ _. Result (List (ℕ × List Cell)) (Trap × ℕ)) [
      | Err trap ↦ Err (trap, line.user)
      | Ok held ↦ elim rest as (λ _. Result (List (ℕ × List Cell)) (Trap × ℕ)) [ Ok others ↦ Ok ((line.cell, held) ∷ others) | Err case ↦ Err case ]
    ]) Q
one_set P Q line (Err trap) rest h k f = tt
one_set P Q line (Ok held) (Err case) h k f = tt
one_set P Q line (Ok held) (Ok others) h k f = f (line.cell, held) others h k

sets_hold : (p : Program) (sorts : ℕ → Option Sort) (op : Op) (declared : ℕ) (memory : Memory) (k : ℕ) (lines : List Line) (done : List Answer) → IsSound memory
    → AreLines p sorts op declared k lines → AreFrom p sorts (λ i node. slice_get op.parts i ≡ Some node) memory k done
    → IfOk (set_parts p memory lines (values done)) (AllSet p declared memory)
sets_hold p sorts op declared memory k [] done sound g all = tt
sets_hold p sorts op declared memory k (line ∷ lines) [] sound g all = tt
sets_hold p sorts op declared memory k (line ∷ lines) (answer ∷ done) sound g all =
    let a = all.0 in
    one_set (IsSet p declared memory) (AllSet p declared memory) line (initial p memory line (value_of answer)) (set_parts p memory lines (values done))
    (initial_sets p declared memory line a.sort (value_of answer) sound g.0.0 (g.0.1 a.node a.sort a.is_part a.has) (value_fits p memory a.sort answer a.fits))
    (sets_hold p sorts op declared memory (suc k) lines done sound g.1 all.1) (λ set others is are. (is, are))

initials_hold : (p : Program) (declared : ℕ) (memory : Memory) (lines : List Line) (given : List Value) → IfOk (set_parts p memory lines given) (AllSet p declared memory)
    → IfOk (initials p memory lines given) (AllSet p declared memory)
initials_hold p declared memory lines given h = by_user (unused_in lines given)
  where
    by_user : (o : Option ℕ) → IfOk (elim o as (λ _. Result (List (ℕ × List Cell)) (Trap × ℕ)) [ Some user ↦ Err (unused_value, user) | None ↦ set_parts p memory lines given ]) (AllSet p declared memory)
    by_user None = h
    by_user (Some user) = tt

written_parts : (p : Program) (declared object : ℕ) (memory : Memory) (sets : List (ℕ × List Cell)) → IsSound memory → IsEntered p memory declared object → AllSet p declared memory sets
    → Written memory (with_parts memory object sets)
written_parts p declared object memory [] sound there h = record { sound = sound; continues = continues-refl memory }
written_parts p declared object memory (set ∷ rest) sound there h =
    let new = with_cells memory object set.0 set.1 in
    let w = written memory object set.0 there.live set.1 there.lives sound (h.0 there.live.shape there.sorts) in
    let others = written_parts p declared object new rest w.sound (is_entered_later p memory new declared object w.continues there) (all_set_later p declared memory new rest w.continues h.1) in
    record { sound = others.sound; continues = continues-onward memory new _ w.continues others.continues }

sorts_are : (shape : List (Scalar × Guard)) → map sort_of_scalar (kinds_of shape) ≡ sorts_in shape
sorts_are [] = refl
sorts_are (own ∷ shape) = ap (λ l. sort_of_scalar own.0 ∷ l) (sorts_are shape)

zeros_set : (p : Program) (declared : ℕ) (memory : Memory) → IsSet p declared memory (0, map (λ own. zero_of own.0) (p.shape declared))
zeros_set p declared memory shape same =
    let own = p.shape declared in
    let few : length (sorts_in shape) ≤ length (kinds_of own) =
    omega (arith, ap length same, length-map own (λ (own : Scalar × Guard). sort_of_scalar own.0), length-map own (λ (own : Scalar × Guard). own.0)) in
    run_alike memory shape 0 (kinds_of own) (map (λ own. zero_of own.0) own) (take_all (length (kinds_of own)) (sorts_in shape) few ∙ (same ∙ sym (sorts_are own))) (new_holds memory true own)

-- ---- the object of a declaration

pub entered_object : (p : Program) (memory : Memory) (declared object : ℕ) (bindings : List Binding) → AreEntered p memory bindings → object_for bindings declared ≡ Some object
    → IsEntered p memory declared object
entered_object p memory declared object [] h e = absurd (cc e)
entered_object p memory declared object (mark ∷ rest) h e = entered_object p memory declared object rest h e
entered_object p memory declared object (bound node other ∷ rest) h e = by_test (node == declared) refl e (λ f. entered_object p memory declared object rest h.1 f)
  where
    by_test : (b : Bool) → (node == declared) ≡ b → (if b then Some other else object_for rest declared) ≡ Some object
        → (object_for rest declared ≡ Some object → IsEntered p memory declared object) → IsEntered p memory declared object
    by_test true t e go =
        let F : ℕ → Type 0 = λ n. IsEntered p memory n object in
        let G : ℕ → Type 0 = λ o. IsEntered p memory node o in
        let same : other ≡ object = cc in
        subst F (eqb-true node declared t) (subst G same h.0)
    by_test false t e go = go e

went_object : (Q : Answer → World → Type 0) (at : ℕ) (s : World) (declared : ℕ) (f : ℕ → Act) → ((object : ℕ) → object_for s.bindings declared ≡ Some object → Went Q (f object))
    → Went Q (on_object at s declared f)
went_object Q at s declared f h = by_object (object_for s.bindings declared) refl
  where
    by_object : (o : Option ℕ) → object_for s.bindings declared ≡ o → Went Q (elim o as (λ _. Act) [ Some object ↦ f object | None ↦ stops untyped at ])
    by_object None e = tt
    by_object (Some object) e = h object e

kept_written : (p : Program) (base s : World) (new : Memory) (exits : Exits) → Beside p base s → Written s.memory new → Keeps p base (record s { memory = new }) (statement exits) next
kept_written p base s new exits b w =
    keeps_beside p base s (record s { memory = new }) (statement exits) next b (record {
      fits = tt;
      well_formed = record { sound = w.sound; entered = entered_later p s.memory new s.bindings w.continues b.well.entered };
      continues = w.continues;
      bindings = refl;
    })

unset_run : (memory : Memory) (shape : List (Scalar × Guard)) (from n : ℕ) → RunHolds memory shape from (replicate n cell.Unset)
unset_run memory shape from zero = tt
unset_run memory shape from (suc n) = (tt, unset_run memory shape (suc from) n)

pub declare_goes : (p : Program) (sorts : ℕ → Option Sort) (node : ℕ) (op : Op) (declared : ℕ) (exits : Exits) (done : List Answer) (base s : World) → HaveSorts sorts op
    → Here p sorts (work.Declare declared) op.parts done base s → Goes p sorts node op (work.Declare declared) (statement exits) done base s (in_turn op.parts done)
declare_goes p sorts node op declared exits done base s have h =
    let w = work.Declare declared in
    by_turn (Goes p sorts node op w (statement exits) done base s) op.parts done
    (λ m e. (next_at sorts w op.parts (length done) m (have (length done) m e) e, refl))
    (λ e. went_object (λ answer t. Keeps p base t (statement exits) answer) node s declared (λ object. went next (record s { memory = unset_again s.memory object }))
    (λ object f. let there = entered_object p s.memory declared object s.bindings h.at.well.entered f in
    kept_written p base s (unset_again s.memory object) exits h.at
    (written s.memory object 0 there.live (replicate (count_of (live_object s.memory object)) cell.Unset) there.lives h.at.well.sound
    (unset_run s.memory there.live.shape 0 (count_of (live_object s.memory object))))))

went_initialised : (p : Program) (declared object : ℕ) (base s : World) (exits : Exits) (result : Result (List (ℕ × List Cell)) (Trap × ℕ)) → Beside p base s → IsEntered p s.memory declared object
    → IfOk result (AllSet p declared s.memory) → Went (λ answer t. Keeps p base t (statement exits) answer) (initialised p declared s object result)
went_initialised p declared object base s exits (Err case) b there h = tt
went_initialised p declared object base s exits (Ok sets) b there h =
    let zeros = zeroed p s.memory object declared in
    let w = written s.memory object 0 there.live _ there.lives b.well.sound (zeros_set p declared s.memory there.live.shape there.sorts) in
    let others = written_parts p declared object zeros sets w.sound (is_entered_later p s.memory zeros declared object w.continues there)
    (all_set_later p declared s.memory zeros sets w.continues h) in
    kept_written p base s (with_parts zeros object sets) exits b (record { sound = others.sound; continues = continues-onward s.memory zeros _ w.continues others.continues })

pub initialise_goes : (p : Program) (sorts : ℕ → Option Sort) (node : ℕ) (op : Op) (declared : ℕ) (lines : List Line) (exits : Exits) (done : List Answer) (base s : World)
    → AreLines p sorts op declared 0 lines → HaveSorts sorts op → Here p sorts (work.Initialise declared lines) op.parts done base s
    → Goes p sorts node op (work.Initialise declared lines) (statement exits) done base s (in_turn op.parts done)
initialise_goes p sorts node op declared lines exits done base s g have h =
    let w = work.Initialise declared lines in
    let from = unfilled p sorts w op.parts (λ i m. slice_get op.parts i ≡ Some m) s.memory 0 done (λ i answer f. f) (λ i m e. e) h.given in
    by_turn (Goes p sorts node op w (statement exits) done base s) op.parts done
    (λ m e. (next_at sorts w op.parts (length done) m (have (length done) m e) e, refl))
    (λ e. went_object (λ answer t. Keeps p base t (statement exits) answer) node s declared (λ object. initialised p declared s object (initials p s.memory lines (values done)))
    (λ object f. let there = entered_object p s.memory declared object s.bindings h.at.well.entered f in
    went_initialised p declared object base s exits (initials p s.memory lines (values done)) h.at there
    (initials_hold p declared s.memory lines (values done) (sets_hold p sorts op declared s.memory 0 lines done h.at.well.sound g from))))
