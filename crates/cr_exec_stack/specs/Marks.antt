-- How a stack keeps what it holds: all answers in one list, and for each node the place where its own begin.
use Rattle.std.specs.Prelude.{ℕ, ◌≤◌, List, [], ◌∷◌, length, take, drop, reverse}
use Rattle.cr_exec_stack.specs.declared.stack.Frame.{Frame}
use Rattle.cr_exec_stack.specs.Waiting.{Pending, Waiting}

-- the nodes of these frames, the uppermost first, with these answers of all of them
abbrev pub pendings : {T : Type 0} → List Frame → List T → List (Pending T)
pendings [] answers = []
pendings (frame ∷ frames) answers =
    record { node = frame.node; done = drop frame.mark answers } ∷ pendings frames (take frame.mark answers)

abbrev pub waiting_of : {T : Type 0} → ℕ → ℕ → List Frame → List T → Waiting T
waiting_of node mark frames answers = record {
  top = record { node = node; done = drop mark answers };
  below = pendings (reverse frames) (take mark answers);
}

-- no node's answers begin behind those of the node above it
abbrev pub AreFalling : ℕ → List Frame → Type 0
AreFalling mark [] = Unit {0}
AreFalling mark (frame ∷ frames) = (frame.mark ≤ mark) × AreFalling frame.mark frames

pub record AreMarked {T : Type 0} (mark : ℕ) (frames : List Frame) (answers : List T) : Type 0 where
  pub within : mark ≤ length answers
  pub falling : AreFalling mark (reverse frames)
