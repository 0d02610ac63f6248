use Rattle.std.proofs.Common.{◌≡◌, ℕ, ◌+◌, List, take, drop, reverse, arith}
use Rattle.std.proofs.lemmas.List.{take-take, drop-take}
use Rattle.cr_exec_stack.specs.declared.stack.Frame.{Frame}
use Rattle.cr_exec_stack.specs.Marks.{pendings, waiting_of}
use Rattle.cr_exec_stack.proofs.stack.Stack.keep.Goals as goal

kept : {T : Type 0} (node mark count : ℕ) (frames : List Frame) (answers : List T)
    → waiting_of node mark frames (take (mark + count) answers)
    ≡ record { top = record { node = node; done = take count (drop mark answers) }; below = pendings (reverse frames) (take mark answers) }
kept node mark count frames answers = λ i. record {
  top = record { node = node; done = drop-take mark count answers i };
  below = pendings (reverse frames) (take-take mark (mark + count) answers (omega arith) i);
}

pub returns-then-count-len : goal.returns-then-count-len
returns-then-count-len g c =
    let inside = c.self.inside in
    rw (c.truncate.ensures.items, ← c.self.view_is) (kept inside.node inside.mark c.args.count inside.frames.items inside.answers.items)
