-- `save` and `copy`: the flat store's answer is the memory's, and the store stays well formed.
use Rattle.std.proofs.Common.{◌≡◌, ℕ, zero, suc, ◌+◌, ◌≤◌, Bool, true, false, ◌||◌, Result, Ok, Err, IfOk, List, [], ◌∷◌, length, set, take, drop, refl, sym, ap, ◌∙◌, subst, arith, length-drop, length-set}
use Rattle.std.specs.List.{list_any}
use Rattle.std.proofs.lemmas.Bool.{leb-false}
use Rattle.std.proofs.lemmas.List.{drop_more, length-take-le}
use Rattle.cr_memory.specs.declared.value.Pointer.{Pointer}
use Rattle.cr_memory.specs.declared.value.Pointer.TheVariants.{Null, At}
use Rattle.cr_memory.specs.declared.value.Scalar.{Scalar}
use Rattle.cr_memory.specs.declared.value.Scalar.TheVariants.{Pointer as PointerKind}
use Rattle.cr_memory.specs.declared.value.Cell.{Cell}
use Rattle.cr_memory.specs.declared.value.Cell.TheVariants.{Unset}
use Rattle.cr_memory.specs.declared.value.Guard.{Guard}
use Rattle.cr_memory.specs.declared.value.Guard.TheVariants.{Free}
use Rattle.cr_memory.specs.declared.value.Trap.{Trap}
use Rattle.cr_memory.specs.declared.span.Span.{Span}
use Rattle.cr_memory.specs.Kind.{is_same}
use Rattle.cr_memory.specs.Memory.{Memory, AllHold, KeepsPointers, has_ended}
use Rattle.cr_memory.specs.Access.{is_null_or_end, is_literal, is_constant, number_of, cell_of, shape_run_at, have_kinds, have_same_kinds, overwritten, with_cells, writing, save_of, put_of, copy_of, Writes, HasStride}
use Rattle.cr_memory.specs.Flat.{span_at, memory_of, ended_in, index_of, cell_or, shape_or, PointerIn, HoldsIn, HasRoom, IsStored, RunHolds, flat_save, flat_put, flat_copy}
use Rattle.cr_memory.specs.Continues.{Continues}
use Rattle.cr_memory.proofs.Continuing.{written-continues}
use Rattle.cr_memory.proofs.View.{has_ended-memory_of, holds_seen}
use Rattle.cr_memory.proofs.Overwriting.{length-overwritten}
use Rattle.cr_memory.proofs.Reaching.{alive_from, same_kinds, reached, reached_run, stride_fits, both_true}
use Rattle.cr_memory.proofs.Comparing.{either_ended, neither}
use Rattle.cr_memory.proofs.Writing.{memory_of-overwritten, stored_with, same_pointers, held_overwritten}

-- ---- the cases of a write, in order

pub writing-ok : {A : Type 0} (Q : A → Type 0) (ended end literal constant same : Bool) (x : A) → (ended ≡ false → end ≡ false → same ≡ true → Q x)
    → IfOk (writing ended end literal constant same x) Q
writing-ok Q true end literal constant same x h = tt
writing-ok Q false true literal constant same x h = tt
writing-ok Q false false true constant same x h = tt
writing-ok Q false false false true same x h = tt
writing-ok Q false false false false false x h = tt
writing-ok Q false false false false true x h = h refl refl refl

abbrev pub mapped : {A B : Type 0} → (A → B) → Result A Trap → Result B Trap
mapped f (Ok x) = Ok (f x)
mapped f (Err e) = Err e

-- what the tests of the memory and of the flat store agree on, where the first two cases don't hold
pub record Agree (literal literal' constant constant' same same' : Bool) (seen wanted : Memory) : Type 0 where
  pub literals : literal ≡ literal'
  pub constants : constant ≡ constant'
  pub kinds : same ≡ same'
  pub result : seen ≡ wanted

agree_by : (F : List Cell → Memory) (literal literal' constant constant' same same' : Bool) (xs : List Cell) (wanted : Memory)
    → Agree literal literal' constant constant' same same' (F xs) wanted
    → mapped F (writing false false literal constant same xs) ≡ writing false false literal' constant' same' wanted
agree_by F true literal' constant constant' same same' xs wanted a = rw (← a.literals) refl
agree_by F false literal' true constant' same same' xs wanted a = rw (← a.literals, ← a.constants) refl
agree_by F false literal' false constant' false same' xs wanted a = rw (← a.literals, ← a.constants, ← a.kinds) refl
agree_by F false literal' false constant' true same' xs wanted a = rw (← a.literals, ← a.constants, ← a.kinds) (ap Ok a.result)

pub writing-mapped : (F : List Cell → Memory) (ended ended' end literal literal' constant constant' same same' : Bool) (xs : List Cell) (wanted : Memory)
    → ended ≡ ended' → (ended ≡ false → end ≡ false → Agree literal literal' constant constant' same same' (F xs) wanted)
    → mapped F (writing ended end literal constant same xs) ≡ writing ended' end literal' constant' same' wanted
writing-mapped F true ended' end literal literal' constant constant' same same' xs wanted e a = rw (← e) refl
writing-mapped F false ended' true literal literal' constant constant' same same' xs wanted e a = rw (← e) refl
writing-mapped F false ended' false literal literal' constant constant' same same' xs wanted e a =
    rw (← e) (agree_by F literal literal' constant constant' same same' xs wanted (a refl refl))

-- what the store shows after the write, and what stays true of it
pub writes_seen : (F : List Cell → Memory) (flat : Result (List Cell) Trap) (wanted : Result Memory Trap) (result : Result (Unit {0}) Trap) (old new : List Cell)
    → mapped F flat ≡ wanted → Writes flat result old new → Writes wanted result (F old) (F new)
writes_seen F (Ok xs) wanted result old new e w = rw (← e) (w.0, ap F w.1)
writes_seen F (Err trap) wanted result old new e w = rw (← e) (w.0, ap F w.1)

pub writes_keep : (Q : List Cell → Type 0) (flat : Result (List Cell) Trap) (result : Result (Unit {0}) Trap) (old new : List Cell)
    → Writes flat result old new → Q old → IfOk flat Q → Q new
writes_keep Q (Ok xs) result old new w q h = subst Q (sym w.1) h
writes_keep Q (Err trap) result old new w q h = subst Q (sym w.1) q

-- ---- a run within the array of a pointer

abbrev pub HasRun : Pointer → ℕ → Type 0
HasRun Null size = Unit {0}
HasRun (At object cell low high stride) size = cell + size ≤ high

pub one_before_end : (at : Pointer) → is_null_or_end at ≡ false → HasRun at 1
one_before_end Null e = tt
one_before_end (At object cell low high stride) e = let h = leb-false high cell e in omega arith

pub element_before_end : (spans : List Span) (at : Pointer) (size : ℕ) → PointerIn spans at → HasStride at size → is_null_or_end at ≡ false → HasRun at size
element_before_end spans Null size h w e = tt
element_before_end spans (At object cell low high stride) size h w e =
    let fits = stride_fits cell high stride.cells h.stride_above (leb-false high cell e) h.whole_after in omega arith

pub memory_of-overwritten_at : (most live : ℕ) (spans : List Span) (cells : List Cell) (shape : List (Scalar × Guard)) (at : Pointer) (vs : List Cell)
    → IsStored most live spans cells shape → PointerIn spans at → ended_in spans at ≡ false → is_null_or_end at ≡ false → HasRun at (length vs)
    → memory_of most spans (overwritten cells (index_of spans at) vs) shape ≡ with_cells (memory_of most spans cells shape) (number_of at) (cell_of at) vs
memory_of-overwritten_at most live spans cells shape Null vs s h live' inside run = absurd (cc inside)
memory_of-overwritten_at most live spans cells shape (At object cell low high stride) vs s h live' inside run =
    let alive = alive_from (span_at spans object).alive live' in
    let fits = h.within alive in
    memory_of-overwritten most live spans cells shape object cell vs s h.entered alive (omega arith)

-- ---- save

pub flat_save-is : (most live : ℕ) (spans : List Span) (cells : List Cell) (shape : List (Scalar × Guard)) (at : Pointer) (kind : Scalar) (value : Cell)
    → IsStored most live spans cells shape → PointerIn spans at
    → mapped (λ xs. memory_of most spans xs shape) (flat_save spans cells shape at kind value) ≡ save_of (memory_of most spans cells shape) at kind value
flat_save-is most live spans cells shape at kind value s h =
    let own = shape_or shape (index_of spans at) in
    writing-mapped (λ xs. memory_of most spans xs shape) (ended_in spans at) (has_ended (memory_of most spans cells shape) at) (is_null_or_end at)
    (is_literal own.1) _ (is_constant own.1) _ (is_same own.0 kind) _ (set cells (index_of spans at) value) _ (sym (has_ended-memory_of most spans cells shape at))
    (λ alive inside. let r = reached most spans cells shape at s.room h alive inside in record {
      literals = ap (λ o. is_literal o.1) (sym r.own);
      constants = ap (λ o. is_constant o.1) (sym r.own);
      kinds = ap (λ o. is_same o.0 kind) (sym r.own);
      result = memory_of-overwritten_at most live spans cells shape at (value ∷ []) s h alive inside (one_before_end at inside);
    })

pub flat_save-stored : (most live : ℕ) (spans : List Span) (cells : List Cell) (shape : List (Scalar × Guard)) (at : Pointer) (kind : Scalar) (value : Cell)
    → IsStored most live spans cells shape → PointerIn spans at → HoldsIn spans kind value
    → IfOk (flat_save spans cells shape at kind value) (λ xs. IsStored most live spans xs shape × (length xs ≡ length cells))
flat_save-stored most live spans cells shape at kind value s h held =
    let own = shape_or shape (index_of spans at) in
    writing-ok (λ xs. IsStored most live spans xs shape × (length xs ≡ length cells)) (ended_in spans at) (is_null_or_end at)
    (is_literal own.1) (is_constant own.1) (is_same own.0 kind) (set cells (index_of spans at) value)
    (λ alive inside same.
    let P : Scalar → Type 0 = λ k. HoldsIn spans k value in
    let size = length-set cells (index_of spans at) value in (
      stored_with most live spans cells (set cells (index_of spans at) value) shape s size
          (held_overwritten spans cells shape (index_of spans at) (value ∷ []) s.holds (subst P (sym (same_kinds own.0 kind same)) held, tt)),
      size,
    ))

-- ---- what a write leaves

pub record WriteDone (most live : ℕ) (spans : List Span) (cells written : List Cell) (shape : List (Scalar × Guard)) (wanted : Result Memory Trap) (result : Result (Unit {0}) Trap) : Type 0 where
  pub stored : IsStored most live spans written shape
  pub kept : KeepsPointers (memory_of most spans cells shape) (memory_of most spans written shape)
  pub continues : Continues (memory_of most spans cells shape) (memory_of most spans written shape)
  pub seen : Writes wanted result (memory_of most spans cells shape) (memory_of most spans written shape)

write_done : (most live : ℕ) (spans : List Span) (cells written : List Cell) (shape : List (Scalar × Guard)) (flat : Result (List Cell) Trap) (wanted : Result Memory Trap) (result : Result (Unit {0}) Trap)
    → IsStored most live spans cells shape → mapped (λ xs. memory_of most spans xs shape) flat ≡ wanted
    → IfOk flat (λ xs. IsStored most live spans xs shape × (length xs ≡ length cells)) → Writes flat result cells written
    → WriteDone most live spans cells written shape wanted result
write_done most live spans cells written shape flat wanted result s e ok w =
    let kept = writes_keep (λ xs. IsStored most live spans xs shape × (length xs ≡ length cells)) flat result cells written w (s, refl) ok in
    record {
      stored = kept.0;
      kept = same_pointers most spans cells written shape s.room kept.1;
      continues = written-continues most spans cells written shape s.room kept.1;
      seen = writes_seen (λ xs. memory_of most spans xs shape) flat wanted result cells written e w;
    }

pub save_done : (most live : ℕ) (spans : List Span) (cells written : List Cell) (shape : List (Scalar × Guard)) (at : Pointer) (kind : Scalar) (value : Cell) (result : Result (Unit {0}) Trap)
    → IsStored most live spans cells shape → PointerIn spans at → HoldsIn spans kind value → Writes (flat_save spans cells shape at kind value) result cells written
    → WriteDone most live spans cells written shape (save_of (memory_of most spans cells shape) at kind value) result
save_done most live spans cells written shape at kind value result s h held w =
    write_done most live spans cells written shape (flat_save spans cells shape at kind value) _ result s
    (flat_save-is most live spans cells shape at kind value s h) (flat_save-stored most live spans cells shape at kind value s h held) w

-- ---- put

-- cells that hold values of the kinds, as the spans have their pointers
abbrev pub AllHoldIn : List Span → List Scalar → List Cell → Type 0
AllHoldIn spans [] [] = Unit {0}
AllHoldIn spans [] (value ∷ values) = ⊥
AllHoldIn spans (kind ∷ kinds) [] = ⊥
AllHoldIn spans (kind ∷ kinds) (value ∷ values) = HoldsIn spans kind value × AllHoldIn spans kinds values

pub all_hold_seen : (most : ℕ) (spans : List Span) (cells : List Cell) (shape : List (Scalar × Guard)) (memory : Memory) (kinds : List Scalar) (values : List Cell)
    → memory_of most spans cells shape ≡ memory → HasRoom spans (length cells) → AllHold memory kinds values → AllHoldIn spans kinds values
all_hold_seen most spans cells shape memory [] [] view room h = tt
all_hold_seen most spans cells shape memory [] (value ∷ values) view room h = h
all_hold_seen most spans cells shape memory (kind ∷ kinds) [] view room h = h
all_hold_seen most spans cells shape memory (kind ∷ kinds) (value ∷ values) view room h =
    (holds_seen most spans cells shape memory kind value view room h.0, all_hold_seen most spans cells shape memory kinds values view room h.1)

pub as_many : (spans : List Span) (kinds : List Scalar) (values : List Cell) → AllHoldIn spans kinds values → length values ≡ length kinds
as_many spans [] [] h = refl
as_many spans [] (value ∷ values) h = absurd h
as_many spans (kind ∷ kinds) [] h = absurd h
as_many spans (kind ∷ kinds) (value ∷ values) h = ap suc (as_many spans kinds values h.1)

-- values of the kinds may stand in a run of cells of these kinds
put_hold : (spans : List Span) (shape : List (Scalar × Guard)) (kinds : List Scalar) (values : List Cell) (target : ℕ)
    → target + length kinds ≤ length shape → have_kinds (take (length kinds) (drop target shape)) kinds ≡ true → AllHoldIn spans kinds values
    → RunHolds spans shape target values
put_hold spans shape [] [] target b e h = tt
put_hold spans shape [] (value ∷ values) target b e h = absurd h
put_hold spans shape (kind ∷ kinds) [] target b e h = absurd h
put_hold spans shape (kind ∷ kinds) (value ∷ values) target b e h =
    let free : Scalar × Guard = (PointerKind 0, Free) in
    let first_shape = drop_more shape target free (omega arith) in
    let rest : target + 1 + length kinds ≤ length shape = omega arith in
    let next : target + 1 ≡ suc target = omega arith in
    let tests = both_true _ _ (rw first_shape at e) in
    let K : Scalar → Type 0 = λ k. HoldsIn spans k value in
    let R : ℕ → Type 0 = λ n. RunHolds spans shape n values in (
      subst K (sym (same_kinds _ _ tests.0)) h.0,
      subst R next (put_hold spans shape kinds values (target + 1) rest tests.1 h.1),
    )

pub flat_put-is : (most live : ℕ) (spans : List Span) (cells : List Cell) (shape : List (Scalar × Guard)) (to : Pointer) (kinds : List Scalar) (values : List Cell)
    → IsStored most live spans cells shape → PointerIn spans to → HasStride to (length kinds) → length values ≡ length kinds
    → mapped (λ xs. memory_of most spans xs shape) (flat_put spans cells shape to kinds values) ≡ put_of (memory_of most spans cells shape) to kinds values
flat_put-is most live spans cells shape to kinds values s h stride same =
    let own = take (length kinds) (drop (index_of spans to) shape) in
    let R : ℕ → Type 0 = λ n. HasRun to n in
    writing-mapped (λ xs. memory_of most spans xs shape) (ended_in spans to) (has_ended (memory_of most spans cells shape) to) (is_null_or_end to)
    (list_any (λ g. is_literal g.1) own) _ (list_any (λ g. is_constant g.1) own) _ (have_kinds own kinds) _ (overwritten cells (index_of spans to) values) _
    (sym (has_ended-memory_of most spans cells shape to))
    (λ alive inside. let r = reached_run most spans cells shape to (length kinds) s.room h stride alive inside in record {
      literals = ap (λ x. list_any (λ g. is_literal g.1) x) (sym r.shape_run);
      constants = ap (λ x. list_any (λ g. is_constant g.1) x) (sym r.shape_run);
      kinds = ap (λ x. have_kinds x kinds) (sym r.shape_run);
      result = memory_of-overwritten_at most live spans cells shape to values s h alive inside (subst R (sym same) (element_before_end spans to (length kinds) h stride inside));
    })

pub flat_put-stored : (most live : ℕ) (spans : List Span) (cells : List Cell) (shape : List (Scalar × Guard)) (to : Pointer) (kinds : List Scalar) (values : List Cell)
    → IsStored most live spans cells shape → PointerIn spans to → HasStride to (length kinds) → AllHoldIn spans kinds values
    → IfOk (flat_put spans cells shape to kinds values) (λ xs. IsStored most live spans xs shape × (length xs ≡ length cells))
flat_put-stored most live spans cells shape to kinds values s h stride held =
    let own = take (length kinds) (drop (index_of spans to) shape) in
    writing-ok (λ xs. IsStored most live spans xs shape × (length xs ≡ length cells)) (ended_in spans to) (is_null_or_end to)
    (list_any (λ g. is_literal g.1) own) (list_any (λ g. is_constant g.1) own) (have_kinds own kinds) (overwritten cells (index_of spans to) values)
    (λ alive inside same.
    let r = reached_run most spans cells shape to (length kinds) s.room h stride alive inside in
    let size = length-overwritten cells (index_of spans to) values in (
      stored_with most live spans cells (overwritten cells (index_of spans to) values) shape s size
          (held_overwritten spans cells shape (index_of spans to) values s.holds
          (put_hold spans shape kinds values (index_of spans to) (omega (arith, r.inside, s.same_length)) same held)),
      size,
    ))

pub put_done : (most live : ℕ) (spans : List Span) (cells written : List Cell) (shape : List (Scalar × Guard)) (to : Pointer) (kinds : List Scalar) (values : List Cell) (result : Result (Unit {0}) Trap)
    → IsStored most live spans cells shape → PointerIn spans to → HasStride to (length kinds) → AllHoldIn spans kinds values
    → Writes (flat_put spans cells shape to kinds values) result cells written
    → WriteDone most live spans cells written shape (put_of (memory_of most spans cells shape) to kinds values) result
put_done most live spans cells written shape to kinds values result s h stride held w =
    write_done most live spans cells written shape (flat_put spans cells shape to kinds values) _ result s
    (flat_put-is most live spans cells shape to kinds values s h stride (as_many spans kinds values held))
    (flat_put-stored most live spans cells shape to kinds values s h stride held) w

-- ---- copy

-- the cells of one run may stand in another one of the same kinds
copied_hold : (most live : ℕ) (spans : List Span) (cells : List Cell) (shape : List (Scalar × Guard)) (size source target : ℕ)
    → IsStored most live spans cells shape → source + size ≤ length cells → target + size ≤ length cells
    → have_same_kinds (take size (drop source shape)) (take size (drop target shape)) ≡ true
    → RunHolds spans shape target (take size (drop source cells))
copied_hold most live spans cells shape zero source target s a b e = tt
copied_hold most live spans cells shape (suc size) source target s a b e =
    let free : Scalar × Guard = (PointerKind 0, Free) in
    let first_cell = drop_more cells source Unset (omega arith) in
    let first_source = drop_more shape source free (omega (arith, s.same_length)) in
    let first_target = drop_more shape target free (omega (arith, s.same_length)) in
    let P : List (Scalar × Guard) → Type 0 = λ x. have_same_kinds (take (suc size) x) (take (suc size) (drop target shape)) ≡ true in
    let Q : List (Scalar × Guard) → Type 0 = λ x. have_same_kinds (take (suc size) (shape_or shape source ∷ drop (source + 1) shape)) (take (suc size) x) ≡ true in
    let whole = subst Q first_target (subst P first_source e) in
    let tests : (is_same (shape_or shape source).0 (shape_or shape target).0 ≡ true) × (have_same_kinds (take size (drop (source + 1) shape)) (take size (drop (target + 1) shape)) ≡ true) = both_true _ _ whole in
    let K : Scalar → Type 0 = λ k. HoldsIn spans k (cell_or cells source) in
    let R : ℕ → Type 0 = λ n. RunHolds spans shape n (take size (drop (source + 1) cells)) in
    let next : target + 1 ≡ suc target = omega arith in
    rw first_cell (
      subst K (same_kinds _ _ tests.0) (s.holds source (omega arith)),
      subst R next (copied_hold most live spans cells shape size (source + 1) (target + 1) s (omega arith) (omega arith) tests.1),
    )

size_of_run : (cells : List Cell) (source size : ℕ) → source + size ≤ length cells → length (take size (drop source cells)) ≡ size
size_of_run cells source size h = length-take-le size (drop source cells) (omega (arith, length-drop source cells))

either_end : (from to : Pointer) → (is_null_or_end from || is_null_or_end to) ≡ false → (is_null_or_end from ≡ false) × (is_null_or_end to ≡ false)
either_end from to e = neither _ _ e

pub flat_copy-is : (most live : ℕ) (spans : List Span) (cells : List Cell) (shape : List (Scalar × Guard)) (from to : Pointer) (count : ℕ)
    → IsStored most live spans cells shape → PointerIn spans from → PointerIn spans to → HasStride from count → HasStride to count
    → mapped (λ xs. memory_of most spans xs shape) (flat_copy spans cells shape from to count) ≡ copy_of (memory_of most spans cells shape) from to count
flat_copy-is most live spans cells shape from to count s f t ws wt =
    let own = take count (drop (index_of spans to) shape) in
    let other = take count (drop (index_of spans from) shape) in
    let run = take count (drop (index_of spans from) cells) in
    writing-mapped (λ xs. memory_of most spans xs shape) (ended_in spans from || ended_in spans to)
    (has_ended (memory_of most spans cells shape) from || has_ended (memory_of most spans cells shape) to) (is_null_or_end from || is_null_or_end to)
    (list_any (λ g. is_literal g.1) own) _ (list_any (λ g. is_constant g.1) own) _ (have_same_kinds other own) _ (overwritten cells (index_of spans to) run) _
    (either_ended most spans cells shape from to)
    (λ live' inside.
    let l = neither _ _ live' in
    let i = either_end from to inside in
    let a = reached_run most spans cells shape from count s.room f ws l.0 i.0 in
    let b = reached_run most spans cells shape to count s.room t wt l.1 i.1 in
    let size = size_of_run cells (index_of spans from) count a.inside in
    let R : ℕ → Type 0 = λ n. HasRun to n in
    record {
      literals = ap (λ x. list_any (λ g. is_literal g.1) x) (sym b.shape_run);
      constants = ap (λ x. list_any (λ g. is_constant g.1) x) (sym b.shape_run);
      kinds = ap (λ x. have_same_kinds x own) (sym a.shape_run) ∙ ap (λ x. have_same_kinds (shape_run_at (memory_of most spans cells shape) from count) x) (sym b.shape_run);
      result = memory_of-overwritten_at most live spans cells shape to run s t l.1 i.1 (subst R (sym size) (element_before_end spans to count t wt i.1))
          ∙ ap (λ x. with_cells (memory_of most spans cells shape) (number_of to) (cell_of to) x) (sym a.cells_run);
    })

pub flat_copy-stored : (most live : ℕ) (spans : List Span) (cells : List Cell) (shape : List (Scalar × Guard)) (from to : Pointer) (count : ℕ)
    → IsStored most live spans cells shape → PointerIn spans from → PointerIn spans to → HasStride from count → HasStride to count
    → IfOk (flat_copy spans cells shape from to count) (λ xs. IsStored most live spans xs shape × (length xs ≡ length cells))
flat_copy-stored most live spans cells shape from to count s f t ws wt =
    let own = take count (drop (index_of spans to) shape) in
    let other = take count (drop (index_of spans from) shape) in
    let run = take count (drop (index_of spans from) cells) in
    writing-ok (λ xs. IsStored most live spans xs shape × (length xs ≡ length cells)) (ended_in spans from || ended_in spans to)
    (is_null_or_end from || is_null_or_end to) (list_any (λ g. is_literal g.1) own) (list_any (λ g. is_constant g.1) own) (have_same_kinds other own)
    (overwritten cells (index_of spans to) run)
    (λ live' inside same.
    let l = neither _ _ live' in
    let i = either_end from to inside in
    let a = reached_run most spans cells shape from count s.room f ws l.0 i.0 in
    let b = reached_run most spans cells shape to count s.room t wt l.1 i.1 in
    let size = length-overwritten cells (index_of spans to) run in (
      stored_with most live spans cells (overwritten cells (index_of spans to) run) shape s size
          (held_overwritten spans cells shape (index_of spans to) run s.holds
          (copied_hold most live spans cells shape count (index_of spans from) (index_of spans to) s a.inside b.inside same)),
      size,
    ))

pub copy_done : (most live : ℕ) (spans : List Span) (cells written : List Cell) (shape : List (Scalar × Guard)) (from to : Pointer) (count : ℕ) (result : Result (Unit {0}) Trap)
    → IsStored most live spans cells shape → PointerIn spans from → PointerIn spans to → HasStride from count → HasStride to count
    → Writes (flat_copy spans cells shape from to count) result cells written
    → WriteDone most live spans cells written shape (copy_of (memory_of most spans cells shape) from to count) result
copy_done most live spans cells written shape from to count result s f t ws wt w =
    write_done most live spans cells written shape (flat_copy spans cells shape from to count) _ result s
    (flat_copy-is most live spans cells shape from to count s f t ws wt) (flat_copy-stored most live spans cells shape from to count s f t ws wt) w
