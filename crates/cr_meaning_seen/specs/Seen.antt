-- Runs that are seen: what a run makes, and what is made of its goals, in order.
use Rattle.std.specs.Prelude.{◌≡◌, ℕ, zero, suc, Option, Some, None, List}
use Rattle.cr_meaning.specs.Language.{Acted, went, halts, Reply, gave, ended, Prog, give, act, call}
use Rattle.cr_meaning.specs.Events.{Event}
use Rattle.cr_meaning.specs.World.{Program, World, Answer, Halt}
use Rattle.cr_meaning.specs.Nodes.{events_of}
use Rattle.cr_meaning.specs.Meaning.{Goal, reach, operands, Meaning, body}

-- ---- the language: what is seen of a run without goals, of one after the other, of a goal around its run, and of one that ended within

pub record Sight (G V T : Type 0) : Type 0 where
  pub nothing : T
  pub onto : T → T → T
  pub around : G → V → T → T
  pub cut : G → T → T

pub data Seen {G V W H T : Type 0} (body : G → Prog G V W H) (sight : Sight G V T) : Prog G V W H → W → Reply V W H → T → Type 0 where
  seen_give : {v : V} {s : W} {all : T} → all ≡ sight.nothing → Seen body sight (give v) s (gave v s) all
  seen_act : {f : W → Acted V W H} {k : V → Prog G V W H} {s t : W} {v : V} {r : Reply V W H} {all : T} → f s ≡ went v t → Seen body sight (k v) t r all → Seen body sight (act f k) s r all
  seen_halt : {f : W → Acted V W H} {k : V → Prog G V W H} {s : W} {h : H} {all : T} → f s ≡ halts h → all ≡ sight.nothing → Seen body sight (act f k) s (ended h) all
  seen_call : {g : G} {k : V → Prog G V W H} {s t : W} {v : V} {r : Reply V W H} {all inner more : T} → Seen body sight (body g) s (gave v t) inner → Seen body sight (k v) t r more → all ≡ sight.onto (sight.around g v inner) more → Seen body sight (call g k) s r all
  seen_end : {g : G} {k : V → Prog G V W H} {s : W} {h : H} {all inner : T} → Seen body sight (body g) s (ended h) inner → all ≡ sight.cut g inner → Seen body sight (call g k) s (ended h) all

-- ---- the evaluations of nodes, in turn: the node, those within, its events if it wasn't cut off, and the evaluations after it. Those of a called
-- function's body stand within its call, behind the arguments (6.5.2.2p10).

pub data Forest : Type 0 where
  bare : Forest
  node : ℕ → Forest → Option (List Event) → Forest → Forest

abbrev pub onto : Forest → Forest → Forest
onto bare more = more
onto (node number inner end next) more = node number inner end (onto next more)

abbrev pub around : Goal → Answer → Forest → Forest
around (reach number) answer inner = node number inner (Some (events_of answer)) bare
around (operands number done) answer inner = inner

abbrev pub cut : Goal → Forest → Forest
cut (reach number) inner = node number inner None bare
cut (operands number done) inner = inner

abbrev pub sight : Sight Goal Answer Forest
sight = record { nothing = bare; onto = onto; around = around; cut = cut }

abbrev pub Sees : Program → Meaning → World → Reply Answer World Halt → Forest → Type 0
Sees p = Seen (body p) sight

-- somewhere in a forest this node was evaluated, with these evaluations within and these events
pub data Occurs (number : ℕ) (inner : Forest) (end : Option (List Event)) : Forest → Type 0 where
  here : {next : Forest} → Occurs number inner end (node number inner end next)
  within : {n : ℕ} {f next : Forest} {e : Option (List Event)} → Occurs number inner end f → Occurs number inner end (node n f e next)
  later : {n : ℕ} {f next : Forest} {e : Option (List Event)} → Occurs number inner end next → Occurs number inner end (node n f e next)

-- the evaluation of this number alone: those of a node's operands come first, in turn
abbrev pub piece : Forest → ℕ → Option Forest
piece bare place = None
piece (node number inner end next) zero = Some (node number inner end bare)
piece (node number inner end next) (suc place) = piece next place
