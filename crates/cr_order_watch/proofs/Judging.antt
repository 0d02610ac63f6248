-- What the watch found of a run.
use Rattle.std.proofs.Common.{◌≡◌, refl, ◌∙◌, ap, subst}
use Rattle.std.specs.Option.{option_eq}
use Rattle.std.specs.Cmp.Lexicographic.{pointwise}
use Rattle.std.proofs.lemmas.Bool.{false≢true, and_parts, eqb-true}
use Rattle.std.specs.Prelude.{ℕ, eqb, true, Option, Some, None, List, [], ◌∷◌, length}
use Rattle.cr_meaning.specs.Language.{Reply, gave, ended}
use Rattle.cr_meaning.specs.World.{Program, World, Answer, Halt, next, exited}
use Rattle.cr_meaning.specs.Meaning.{start_of, root_of}
use Rattle.cr_meaning.specs.declared.run.Run.{Run}
use Rattle.cr_meaning_seen.specs.Seen.{Forest, Sees}
use Rattle.cr_meaning_seen.specs.Marks.{Mark}
use Rattle.cr_meaning_orders.specs.AnyOrder.{whole_of}
use Rattle.cr_meaning_loose.specs.Lists.{Lists}
use Rattle.cr_meaning_loose.specs.Loose.{Judged}
use Rattle.cr_meaning_loose.specs.Levels.{levels_of, closed}
use Rattle.cr_meaning_loose.proofs.Tracing.{marks_tell_forests}
use Rattle.cr_exec.specs.Runs.{IsWatched, marks_by}
use Rattle.cr_order_watch.specs.Judged.{IsJudged}

-- the marks of a run tell what is seen of it
told : (p : Program) (reply : Reply Answer World Halt) (forest : Forest) → Sees p (whole_of p) (start_of p.limits) reply forest → closed (levels_of (length p.ops) (marks_by p reply forest)) ≡ forest
told p (gave answer t) forest seen = (marks_tell_forests p (whole_of p) (start_of p.limits) t (exited 0 t) (length p.ops) (root_of p) answer [] forest).0 seen
told p (ended halt) forest seen = (marks_tell_forests p (whole_of p) (start_of p.limits) (start_of p.limits) halt (length p.ops) (root_of p) next [] forest).1 seen

pub judged_by : (knows : List Mark → Type 0) (p : Program) (lists : Lists) (outcome : Run) (loose : Option ℕ) → IsWatched knows p outcome → ((marks : List Mark) → knows marks → Judged p lists (closed (levels_of (length p.ops) marks)) loose) → IsJudged p lists outcome loose
judged_by knows p lists outcome loose h f =
    let F : Forest → Type 0 = λ g. Judged p lists g loose in
    record {
      reply = h.reply;
      forest = h.forest;
      seen = h.seen;
      comes = h.comes;
      judged = subst F (told p h.reply h.forest h.seen) (f (marks_by p h.reply h.forest) h.known);
    }

-- ---- columns that are the same

option_same : (one other : Option ℕ) → option_eq eqb one other ≡ true → one ≡ other
option_same None None e = refl
option_same None (Some other) e = absurd (false≢true e)
option_same (Some one) None e = absurd (false≢true e)
option_same (Some one) (Some other) e = ap Some (eqb-true one other e)

pub column_same : (ones others : List (Option ℕ)) → pointwise (option_eq eqb) ones others ≡ true → ones ≡ others
column_same [] [] e = refl
column_same [] (other ∷ others) e = absurd (false≢true e)
column_same (one ∷ ones) [] e = absurd (false≢true e)
column_same (one ∷ ones) (other ∷ others) e =
    let both = and_parts (option_eq eqb one other) (pointwise (option_eq eqb) ones others) e in
    ap (λ x. x ∷ ones) (option_same one other both.0) ∙ ap (λ l. other ∷ l) (column_same ones others both.1)
