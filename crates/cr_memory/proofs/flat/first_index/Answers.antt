use Rattle.std.proofs.Common.{◌≡◌, ◌+◌, ◌≤◌, ℕ, Bool, true, false, Ok, IfOk, length, [], refl}
use Rattle.cr_memory.specs.Access.{is_null_or_end, reaching}
use Rattle.cr_memory.specs.Flat.{ended_in, index_of}
use Rattle.cr_memory.proofs.Reaching.{reached_run}
use Rattle.cr_memory.proofs.flat.first_index.Goals as goal

inside_by : (ended end : Bool) (place count room : ℕ) → (ended ≡ false → end ≡ false → place + count ≤ room) → IfOk (reaching ended end (Ok place)) (λ i. i + count ≤ room)
inside_by true end place count room h = tt
inside_by false true place count room h = tt
inside_by false false place count room h = h refl refl

-- where a cell was found, the whole element is there
pub returns-clause-inside : goal.returns-clause-inside
returns-clause-inside c =
    let r = c.requires in
    let spans = c.args.spans.now in
    let at = c.args.at in
    rw c.index.ensures.place
    (inside_by (ended_in spans at) (is_null_or_end at) (index_of spans at) c.args.count (length c.args.cells.now)
    (λ live inside. (reached_run 0 spans c.args.cells.now [] at c.args.count r.room r.within r.stride live inside).inside))
