-- Declarations.
use Rattle.std.proofs.Common.{◌≡◌, ℕ, Result, List, sym, ap, ◌∙◌, subst}
use Rattle.cr_meaning.specs.Nodes.{Act, values}
use Rattle.cr_meaning.specs.declared.op.Line.{Line}
use Rattle.cr_meaning.specs.declared.value.Value.{Value}
use Rattle.cr_exec_slices.specs.Shown.{Worked}
use Rattle.cr_exec_slices.specs.declared.nodes.Halted.{Halted}
use Rattle.std.specs.List.{AllZip}
use Rattle.cr_meaning.specs.World.{Program, World, Answer}
use Rattle.cr_meaning.specs.Meaning.{join_by}
use Rattle.cr_meaning.specs.declared.op.Op.{Op}
use Rattle.cr_meaning.specs.declared.op.Work.{Work}
use Rattle.cr_meaning.specs.declared.op.Work.TheVariants as work
use Rattle.cr_exec_slices.specs.Shown.{Joined}
use Rattle.cr_exec_turns.specs.Held.{shows}
use Rattle.cr_exec_turns.specs.declared.held.Held.{Held}
use Rattle.cr_exec_statements.specs.Kept.{values_in, passing}
use Rattle.cr_exec_turns.proofs.Valued.{values_shown}
use Rattle.cr_exec_statements.proofs.Keeping.{passing_joins}
use Rattle.cr_exec_statements.specs.Sets.{unset_by, set_by}

pub declare_joins : (p : Program) (node : ℕ) (op : Op) (k : Work) (declared : ℕ) (answers : List Answer) (w v : World) (r : Result (Unit {0}) Halted) (result : Result Held Halted)
    → k ≡ work.Declare declared → result ≡ passing r → Worked (unset_by node declared w) r v
    → Joined shows (join_by p node op k answers w) result v
declare_joins p node op k declared answers w v r result e f h =
    subst (λ (j : Work). Joined shows (join_by p node op j answers w) result v) (sym e)
    (subst (λ (q : Result Held Halted). Joined shows (join_by p node op (work.Declare declared) answers w) q v) (sym f)
    (passing_joins (join_by p node op (work.Declare declared) answers w) r v h))

pub initialise_joins : (p : Program) (node : ℕ) (op : Op) (k : Work) (declared : ℕ) (lines given : List Line) (done kept : List Held) (answers : List Answer) (w v : World)
    (r : Result (Unit {0}) Halted) (result : Result Held Halted) → k ≡ work.Initialise declared lines → given ≡ lines → kept ≡ done → AllZip shows done answers → result ≡ passing r
    → Worked (set_by p node declared given (values_in kept) w) r v
    → Joined shows (join_by p node op k answers w) result v
initialise_joins p node op k declared lines given done kept answers w v r result e l d z f h =
    let act : List Line → List Value → Act = λ ls. λ vs. set_by p node declared ls vs w in
    let same : values_in kept ≡ values answers = ap values_in d ∙ sym (values_shown done answers z) in
    subst (λ (j : Work). Joined shows (join_by p node op j answers w) result v) (sym e)
    (subst (λ (q : Result Held Halted). Joined shows (act lines (values answers)) q v) (sym f)
    (passing_joins (act lines (values answers)) r v
    (subst (λ (vs : List Value). Worked (act lines vs) r v) same (subst (λ (ls : List Line). Worked (act ls (values_in kept)) r v) l h))))
