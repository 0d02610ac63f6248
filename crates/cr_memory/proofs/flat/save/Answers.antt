use Rattle.std.proofs.Common.{◌≡◌, ℕ, Bool, true, false, not, set, subst, List, Result, Ok, Err, sym, ap, ◌∙◌, refl, if◌then◌else◌}
use Rattle.cr_memory.specs.declared.value.Pointer.{Pointer}
use Rattle.cr_memory.specs.declared.value.Scalar.{Scalar}
use Rattle.cr_memory.specs.declared.value.Cell.{Cell}
use Rattle.cr_memory.specs.declared.value.Guard.{Guard}
use Rattle.cr_memory.specs.declared.value.Guard.TheVariants.{Free}
use Rattle.cr_memory.specs.declared.value.Trap.{Trap}
use Rattle.cr_memory.specs.declared.value.Trap.TheVariants.{Undefined, Left}
use Rattle.cr_memory.specs.declared.value.TheConstants.{LITERAL_WRITTEN, CONSTANT_WRITTEN, OTHER_TYPE}
use Rattle.cr_memory.specs.declared.span.Span.{Span}
use Rattle.cr_memory.specs.Kind.{is_same}
use Rattle.cr_memory.specs.Access.{is_null_or_end, is_literal, is_constant, Writes}
use Rattle.cr_memory.specs.Flat.{ended_in, index_of, shape_or, flat_save}
use Rattle.cr_memory.proofs.Reaching.{was_reached, past_reaching}
use Rattle.cr_memory.proofs.flat.save.Goals as goal

-- a cell that is free is written, unless it has another kind
abbrev written : Bool → Bool → Bool → List Cell → Result (List Cell) Trap
written literal constant same cells =
    if literal then Err (Undefined LITERAL_WRITTEN) else (if constant then Err (Undefined CONSTANT_WRITTEN) else (if not same then Err (Left OTHER_TYPE) else Ok cells))

free_written : (own : Scalar × Guard) (kind : Scalar) (same : Bool) (cells : List Cell) → own.1 ≡ Free → is_same own.0 kind ≡ same
    → written false false same cells ≡ written (is_literal own.1) (is_constant own.1) (is_same own.0 kind) cells
free_written own kind same cells guard e = rw (guard, e) refl

saved : (spans : List Span) (cells : List Cell) (shape : List (Scalar × Guard)) (at : Pointer) (kind : Scalar) (value : Cell) (index : ℕ) (own : Scalar × Guard) (same : Bool)
    → (ended_in spans at ≡ false) × (is_null_or_end at ≡ false) × (index ≡ index_of spans at) → own ≡ shape_or shape index → own.1 ≡ Free → is_same own.0 kind ≡ same
    → written false false same (set cells index value) ≡ flat_save spans cells shape at kind value
saved spans cells shape at kind value index own same found seen guard e =
    let by : Scalar × Guard → List Cell → Result (List Cell) Trap = λ o xs. written (is_literal o.1) (is_constant o.1) (is_same o.0 kind) xs in
    free_written own kind same (set cells index value) guard e
    ∙ ap (λ o. by o (set cells index value)) (seen ∙ ap (λ n. shape_or shape n) found.2)
    ∙ ap (λ n. by (shape_or shape (index_of spans at)) (set cells n value)) found.2
    ∙ sym (past_reaching (ended_in spans at) (is_null_or_end at) _ found.0 found.1)

pub returns-in-Free : goal.returns-in-Free
returns-in-Free c =
    let spans = c.args.spans.now in
    let cells = c.args.cells.now in
    let shape = c.args.shape.now in
    let index = c.in_ok-index.index in
    let found = was_reached (ended_in spans c.args.at) (is_null_or_end c.args.at) (index_of spans c.args.at) index c.in_ok-index.ensures.place in
    let seen = c.own_at-own.ensures in
    let same : is_same c.own_at-own.result.0 c.args.kind ≡ false = cc in
    let P : Result (List Cell) Trap → Type 0 = λ x. Writes x (Err (Left OTHER_TYPE)) cells cells in
    subst P (saved spans cells shape c.args.at c.args.kind c.args.value index _ false found seen c.in-Free.is same) (refl, refl)

pub returns-in-Free-2 : goal.returns-in-Free-2
returns-in-Free-2 c =
    let spans = c.args.spans.now in
    let cells = c.args.cells.now in
    let shape = c.args.shape.now in
    let index = c.in_ok-index.index in
    let found = was_reached (ended_in spans c.args.at) (is_null_or_end c.args.at) (index_of spans c.args.at) index c.in_ok-index.ensures.place in
    let seen = c.own_at-own.ensures in
    let same : is_same c.own_at-own.result.0 c.args.kind ≡ true = cc in
    let P : Result (List Cell) Trap → Type 0 = λ x. Writes x (Ok (tt {0})) cells (set cells index c.args.value) in
    rw c.set.ensures (subst P (saved spans cells shape c.args.at c.args.kind c.args.value index _ true found seen c.in-Free-2.is same) (refl, refl))
