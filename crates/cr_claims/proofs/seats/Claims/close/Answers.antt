use Rattle.std.proofs.Common.{◌≡◌, ℕ, List, ◌∷◌, sym, ap, subst, ◌∙◌, arith}
use mathlib.Core.Option.{some}
use lib.ListN.{get_elem?}
use Rattle.cr_core.specs.declared.events.First.{First}
use Rattle.cr_core.specs.State.{IsFirst}
use Rattle.cr_claims.specs.declared.view.View.{View}
use Rattle.cr_claims.specs.Rule.{IsKept}
use Rattle.cr_claims.specs.Pass.{held, view_of}
use Rattle.cr_claims.proofs.Joining.{closes, held_is_sound}
use Rattle.cr_claims.proofs.seats.Claims.close.Goals as goal

-- the state that the table was closed in
of_len : (key len : ℕ) (words : List ℕ) (views : List View) → key ≡ len → IsKept key words views → IsKept len words views
of_len key len words views e k = (let P : ℕ → Type 0 = λ n. IsKept n words views in subst P e k)

pub returns-clause-first : goal.returns-clause-first
returns-clause-first c =
    let pass = c.args.pass in
    let len = c.args.self.len in
    let (s, seen, words, _, _) = c.close_with-closed.ensures.values.2 in
    let P : First → Type 0 = λ r. IsFirst len (held (view_of pass)) r in
    let at : get_elem? s.words 1 ≡ some c.word-least.result = ap (λ (ws : List ℕ). get_elem? ws 1) words ∙ c.word-least.ensures in
    subst P (sym c.hit_of.ensures)
    (closes c.the_least_hit_is_first.ensures len s.words s.views pass.seat.id (view_of pass) c.word-least.result (of_len _ len _ _ c.args.self.about.0 seen.0) seen.1 pass.in_force.1
    c.requires.keeper c.requires.all_joined c.requires.done at)

pub returns-clause-once : goal.returns-clause-once
returns-clause-once c p =
    let pass = c.args.pass in
    let len = c.args.self.len in
    let (s, seen, _, _, _) = c.close_with-closed.ensures.values.2 in
    let sound = held_is_sound len s.words s.views pass.seat.id (view_of pass) (of_len _ len _ _ c.args.self.about.0 seen.0) seen.1 pass.in_force.1 c.requires.keeper c.requires.all_joined in
    omega (arith, sound.each_claimed_number_stands_once p)

pub returns-clause-few : goal.returns-clause-few
returns-clause-few c =
    let pass = c.args.pass in
    let len = c.args.self.len in
    let v = view_of pass in
    let (s, seen, _, _, _) = c.close_with-closed.ensures.values.2 in
    c.few_are_tried.ensures len _ _ (v.own ∷ v.joined)
    (held_is_sound len s.words s.views pass.seat.id v (of_len _ len _ _ c.args.self.about.0 seen.0) seen.1 pass.in_force.1 c.requires.keeper c.requires.all_joined)
