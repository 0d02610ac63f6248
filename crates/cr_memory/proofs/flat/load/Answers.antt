use Rattle.std.proofs.Common.{◌≡◌, ℕ, Bool, true, false, not, List, Result, Ok, Err, sym, ap, ◌∙◌, refl, if◌then◌else◌}
use Rattle.cr_memory.specs.declared.value.Pointer.{Pointer}
use Rattle.cr_memory.specs.declared.value.Scalar.{Scalar}
use Rattle.cr_memory.specs.declared.value.Cell.{Cell}
use Rattle.cr_memory.specs.declared.value.Guard.{Guard}
use Rattle.cr_memory.specs.declared.value.Trap.{Trap}
use Rattle.cr_memory.specs.declared.value.Trap.TheVariants.{Undefined, Left}
use Rattle.cr_memory.specs.declared.value.TheConstants.{ENDED, UNSET, OTHER_TYPE}
use Rattle.cr_memory.specs.declared.span.Span.{Span}
use Rattle.cr_memory.specs.Kind.{is_same}
use Rattle.cr_memory.specs.Access.{is_null_or_end, is_unset}
use Rattle.cr_memory.specs.Flat.{ended_in, held_ended_in, index_of, cell_or, shape_or, flat_load}
use Rattle.cr_memory.proofs.Reaching.{was_reached, past_reaching}
use Rattle.cr_memory.proofs.flat.load.Goals as goal

-- the tests after the two cases, of the cell and the kind that stand at the place that was found
abbrev valued : Bool → Bool → Bool → Cell → Result Cell Trap
valued held same unset cell =
    if held then Err (Undefined ENDED) else (if not same then Err (Left OTHER_TYPE) else (if unset then Err (Undefined UNSET) else Ok cell))

loaded : (spans : List Span) (cells : List Cell) (shape : List (Scalar × Guard)) (at : Pointer) (kind : Scalar) (index : ℕ) (cell : Cell) (own : Scalar × Guard)
    → (ended_in spans at ≡ false) × (is_null_or_end at ≡ false) × (index ≡ index_of spans at) → cell ≡ cell_or cells index → own ≡ shape_or shape index
    → valued (held_ended_in spans cell) (is_same own.0 kind) (is_unset cell) cell ≡ flat_load spans cells shape at kind
loaded spans cells shape at kind index cell own found read seen =
    let value : Cell → Scalar × Guard → Result Cell Trap = λ x o. valued (held_ended_in spans x) (is_same o.0 kind) (is_unset x) x in
    ap (λ x. value x own) (read ∙ ap (λ n. cell_or cells n) found.2)
    ∙ ap (λ o. value (cell_or cells (index_of spans at)) o) (seen ∙ ap (λ n. shape_or shape n) found.2)
    ∙ sym (past_reaching (ended_in spans at) (is_null_or_end at) _ found.0 found.1)

-- the outcomes of the tests, one by one
valued_by : (held same unset : Bool) (cell : Cell) (result : Result Cell Trap) (held' same' unset' : Bool) → held ≡ held' → same ≡ same' → unset ≡ unset'
    → valued held' same' unset' cell ≡ result → valued held same unset cell ≡ result
valued_by held same unset cell result held' same' unset' a b c e = rw (a, b, c) e

pub returns-then-not-is_same : goal.returns-then-not-is_same
returns-then-not-is_same c =
    let spans = c.args.spans.now in
    let cells = c.args.cells.now in
    let shape = c.args.shape.now in
    let index = c.in_ok-index.index in
    let found = was_reached (ended_in spans c.args.at) (is_null_or_end c.args.at) (index_of spans c.args.at) index c.in_ok-index.ensures.place in
    let read = c.cell_at-cell.ensures in
    let seen = c.own_at.ensures in
    let held : held_ended_in spans c.cell_at-cell.result ≡ false = cc in
    let same : is_same c.own_at.result.0 c.args.kind ≡ false = cc in
    sym (valued_by _ _ _ c.cell_at-cell.result (Err (Left OTHER_TYPE)) _ _ _ held same refl refl) ∙ loaded spans cells shape c.args.at c.args.kind index _ _ found read seen

pub returns-then-is_unset : goal.returns-then-is_unset
returns-then-is_unset c =
    let spans = c.args.spans.now in
    let cells = c.args.cells.now in
    let shape = c.args.shape.now in
    let index = c.in_ok-index.index in
    let found = was_reached (ended_in spans c.args.at) (is_null_or_end c.args.at) (index_of spans c.args.at) index c.in_ok-index.ensures.place in
    let read = c.cell_at-cell.ensures in
    let seen = c.own_at.ensures in
    let held : held_ended_in spans c.cell_at-cell.result ≡ false = cc in
    let same : is_same c.own_at.result.0 c.args.kind ≡ true = cc in
    let unset : is_unset c.cell_at-cell.result ≡ true = cc in
    sym (valued_by _ _ _ c.cell_at-cell.result (Err (Undefined UNSET)) _ _ _ held same unset refl) ∙ loaded spans cells shape c.args.at c.args.kind index _ _ found read seen

pub returns-else-is_unset : goal.returns-else-is_unset
returns-else-is_unset c =
    let spans = c.args.spans.now in
    let cells = c.args.cells.now in
    let shape = c.args.shape.now in
    let index = c.in_ok-index.index in
    let found = was_reached (ended_in spans c.args.at) (is_null_or_end c.args.at) (index_of spans c.args.at) index c.in_ok-index.ensures.place in
    let read = c.cell_at-cell.ensures in
    let seen = c.own_at.ensures in
    let held : held_ended_in spans c.cell_at-cell.result ≡ false = cc in
    let same : is_same c.own_at.result.0 c.args.kind ≡ true = cc in
    let unset : is_unset c.cell_at-cell.result ≡ false = cc in
    sym (valued_by _ _ _ c.cell_at-cell.result (Ok c.cell_at-cell.result) _ _ _ held same unset refl) ∙ loaded spans cells shape c.args.at c.args.kind index _ _ found read seen
