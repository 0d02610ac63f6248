-- A program is refused in one way, and at one token.
use Rattle.std.proofs.Common.{◌≡◌, ℕ, List, refl}
use Rattle.cr_syntax.specs.Words.{Lexeme}
use Rattle.cr_syntax.specs.Scopes.{Scopes}
use Rattle.cr_syntax.specs.Spells.{Limit}
use Rattle.cr_syntax_machine.specs.Machine.{Goal, Prog}
use Rattle.cr_syntax_machine_laws.proofs.MachineRuns.{again, same}
use Rattle.cr_syntax_machine_laws.proofs.MachineEnds.{Way, Ends, refused_so, end_stop, end_refuse, end_take, end_crowded, end_pass, end_bar, end_free, end_seen, end_unseen, end_yes, end_no, end_here, end_look, end_set, end_bring, end_behind, end_inside}

-- a way and its token
pub data Point : Type 0 where
  at : Way → ℕ → Point

pub same_way : {body : Goal → Prog} {ts : List Lexeme} {limit : Limit} {p : Prog} {c : Scopes} {i k k' : ℕ} {w w' : Way} →
    Ends body ts limit p c i w k → Ends body ts limit p c i w' k' → at w k ≡ at w' k'
same_way end_stop end_stop = refl
same_way end_refuse end_refuse = refl
same_way (end_take x v z) (end_take x' v' z') = same_way z z'
same_way (end_take x v z) (end_crowded x' v') = absurd (v' v)
same_way (end_take x v z) (end_pass x' z') = cc
same_way (end_crowded x v) (end_take x' v' z') = absurd (v v')
same_way (end_crowded x v) (end_crowded x' v') = refl
same_way (end_crowded x v) (end_pass x' z') = cc
same_way (end_pass x z) (end_take x' v' z') = cc
same_way (end_pass x z) (end_crowded x' v') = cc
same_way (end_pass x z) (end_pass x' z') = same_way z z'
same_way (end_bar x) (end_bar x') = refl
same_way (end_bar x) (end_free x' z') = cc
same_way (end_free x z) (end_bar x') = cc
same_way (end_free x z) (end_free x' z') = same_way z z'
same_way (end_seen x z) (end_seen x' z') = same_way z z'
same_way (end_seen x z) (end_unseen x' z') = cc
same_way (end_unseen x z) (end_seen x' z') = cc
same_way (end_unseen x z) (end_unseen x' z') = same_way z z'
same_way (end_yes x z) (end_yes x' z') = same_way z z'
same_way (end_yes x z) (end_no x' z') = cc
same_way (end_no x z) (end_yes x' z') = cc
same_way (end_no x z) (end_no x' z') = same_way z z'
same_way (end_here z) (end_here z') = same_way z z'
same_way (end_look z) (end_look z') = same_way z z'
same_way (end_set z) (end_set z') = same_way z z'
same_way (end_bring z) (end_bring z') = same_way z z'
same_way {body = body} {ts = ts} {limit = limit} {k' = k'} {w' = w'} (end_behind {f = f} h z) (end_behind h' z') =
    same_way z (again (λ t e j. Ends body ts limit (f t) e j w' k') (same h h') z')
same_way (end_behind h z) (end_inside z') = let q = same h (refused_so z') in cc
same_way (end_inside z) (end_behind h' z') = let q = same (refused_so z) h' in cc
same_way (end_inside z) (end_inside z') = same_way z z'
