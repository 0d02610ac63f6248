-- The marks of a forest, gone through, give the forest.
use Rattle.std.proofs.Common.{◌≡◌, refl, sym, ◌∙◌, ap, subst, append_assoc}
use Rattle.std.specs.Prelude.{ℕ, Option, Some, None, List, [], ◌∷◌, ◌++◌}
use Rattle.std.proofs.lemmas.List.{append-nil}
use Rattle.cr_meaning.specs.Events.{Event}
use Rattle.cr_meaning.specs.Language.{Reply, gave, ended}
use Rattle.cr_meaning.specs.World.{Program, World, Answer, Halt}
use Rattle.cr_meaning.specs.Nodes.{events_of}
use Rattle.cr_meaning.specs.Meaning.{Goal, reach, operands, Meaning, body}
use Rattle.cr_meaning_seen.specs.Seen.{Forest, bare, node as tree, onto, around, cut, Sees, seen_give, seen_act, seen_halt, seen_call, seen_end}
use Rattle.cr_meaning_seen.specs.Marks.{Mark, began, left, marks_of, marks_around, marks_until}
use Rattle.cr_meaning_seen.proofs.Seeing.{onto_bare}
use Rattle.cr_meaning_loose.specs.Laws
use Rattle.cr_meaning_loose.specs.Levels.{Level, stepped, stepped_all, first_levels, levels_of, closed_with, closed}

-- ---- forests without an evaluation that was cut off, and with cut ones at their end alone

abbrev pub IsWhole : Forest → Type 0
IsWhole bare = Unit {0}
IsWhole (tree number inner None next) = ⊥
IsWhole (tree number inner (Some events) next) = IsWhole inner × IsWhole next

abbrev pub IsCut : Forest → Type 0
IsCut bare = Unit {0}
IsCut (tree number inner None next) = IsCut inner × (next ≡ bare)
IsCut (tree number inner (Some events) next) = IsWhole inner × IsCut next

whole_onto : (one more : Forest) → IsWhole one → IsWhole more → IsWhole (onto one more)
whole_onto bare more w v = v
whole_onto (tree number inner None next) more w v = absurd w
whole_onto (tree number inner (Some events) next) more w v = (w.0, whole_onto next more w.1 v)

cut_onto : (one more : Forest) → IsWhole one → IsCut more → IsCut (onto one more)
cut_onto bare more w v = v
cut_onto (tree number inner None next) more w v = absurd w
cut_onto (tree number inner (Some events) next) more w v = (w.0, cut_onto next more w.1 v)

whole_around : (g : Goal) (answer : Answer) (inner : Forest) → IsWhole inner → IsWhole (around g answer inner)
whole_around (reach number) answer inner w = (w, tt)
whole_around (operands number done) answer inner w = w

cut_cut : (g : Goal) (inner : Forest) → IsCut inner → IsCut (cut g inner)
cut_cut (reach number) inner w = (w, refl)
cut_cut (operands number done) inner w = w

-- what is seen of a run is such
abbrev pub IsShaped : Reply Answer World Halt → Forest → Type 0
IsShaped (gave answer t) forest = IsWhole forest
IsShaped (ended halt) forest = IsCut forest

shaped_onto : (r : Reply Answer World Halt) (one more : Forest) → IsWhole one → IsShaped r more → IsShaped r (onto one more)
shaped_onto (gave answer t) one more w v = whole_onto one more w v
shaped_onto (ended halt) one more w v = cut_onto one more w v

pub shaped : (p : Program) (program : Meaning) (s : World) (r : Reply Answer World Halt) (forest : Forest) → Sees p program s r forest → IsShaped r forest
shaped p program s r forest (seen_give e) = subst IsWhole (sym e) tt
shaped p program s r forest (seen_act {k = k} {t = t} {v = v} e run) = shaped p (k v) t r forest run
shaped p program s r forest (seen_halt e is) = subst IsCut (sym is) tt
shaped p program s r forest (seen_call {g = g} {k = k} {t = t} {v = v} {inner = inner} {more = more} first run e) =
    subst (IsShaped r) (sym e) (shaped_onto r (around g v inner) more (whole_around g v inner (shaped p (body p g) s (gave v t) inner first)) (shaped p (k v) t r more run))
shaped p program s r forest (seen_end {g = g} {h = h} {inner = inner} first e) = subst IsCut (sym e) (cut_cut g inner (shaped p (body p g) s (ended h) inner first))

-- ---- going through

pub onto_assoc : (one other more : Forest) → onto (onto one other) more ≡ onto one (onto other more)
onto_assoc bare other more = refl
onto_assoc (tree number inner end next) other more = ap (λ f. tree number inner end f) (onto_assoc next other more)

abbrev level : ℕ → Forest → Level
level number done = record { number = number; done = done }

pub stepped_after : (marks more : List Mark) (levels : List Level) → stepped_all levels (marks ++ more) ≡ stepped_all (stepped_all levels marks) more
stepped_after [] more levels = refl
stepped_after (mark ∷ marks) more levels = stepped_after marks more (stepped levels mark)

whole_goes : (forest : Forest) → IsWhole forest → (number : ℕ) (done : Forest) (below : List Level) → stepped_all (level number done ∷ below) (marks_of forest) ≡ level number (onto done forest) ∷ below
whole_goes bare w number done below = ap (λ f. level number f ∷ below) (sym (onto_bare done))
whole_goes (tree m inner None next) w number done below = absurd w
whole_goes (tree m inner (Some events) next) w number done below =
    let here : List Level = level number done ∷ below in
    let then : Forest = onto done (tree m inner (Some events) bare) in
    stepped_after (marks_of inner) (left m events ∷ marks_of next) (level m bare ∷ here)
    ∙ ap (λ l. stepped_all l (left m events ∷ marks_of next)) (whole_goes inner w.0 m bare here)
    ∙ whole_goes next w.1 number then below
    ∙ ap (λ f. level number f ∷ below) (onto_assoc done (tree m inner (Some events) bare) next)

-- a node that is cut off is the end of the one around it
closes : (m number : ℕ) (inner done : Forest) (below : List Level) → closed (level m inner ∷ level number done ∷ below) ≡ closed (level number (onto done (tree m inner None bare)) ∷ below)
closes m number inner done [] = ap (λ f. onto done (tree m f None bare)) (onto_bare inner) ∙ sym (onto_bare (onto done (tree m inner None bare)))
closes m number inner done (next ∷ rest) =
    ap (λ f. closed_with (tree number (onto done (tree m f None bare)) None bare) (next ∷ rest)) (onto_bare inner)
    ∙ ap (λ f. closed_with (tree number f None bare) (next ∷ rest)) (sym (onto_bare (onto done (tree m inner None bare))))

cut_goes : (forest : Forest) → IsCut forest → (number : ℕ) (done : Forest) (below : List Level) → closed (stepped_all (level number done ∷ below) (marks_of forest)) ≡ closed (level number (onto done forest) ∷ below)
cut_goes bare w number done below = ap (λ f. closed (level number f ∷ below)) (sym (onto_bare done))
cut_goes (tree m inner None next) w number done below =
    let here : List Level = level number done ∷ below in
    let F : Forest → Type 0 = λ f. closed (stepped_all (level m bare ∷ here) (marks_of inner ++ marks_of f)) ≡ closed (level number (onto done (tree m inner None f)) ∷ below) in
    subst F (sym w.1) (ap (λ l. closed (stepped_all (level m bare ∷ here) l)) (append-nil (marks_of inner)) ∙ cut_goes inner w.0 m bare here ∙ closes m number inner done below)
cut_goes (tree m inner (Some events) next) w number done below =
    let here : List Level = level number done ∷ below in
    let then : Forest = onto done (tree m inner (Some events) bare) in
    ap closed (stepped_after (marks_of inner) (left m events ∷ marks_of next) (level m bare ∷ here)
    ∙ ap (λ l. stepped_all l (left m events ∷ marks_of next)) (whole_goes inner w.0 m bare here))
    ∙ cut_goes next w.1 number then below
    ∙ ap (λ f. closed (level number f ∷ below)) (onto_assoc done (tree m inner (Some events) bare) next)

-- ---- whole runs

came_tells : (root number : ℕ) (events : List Event) (forest : Forest) → IsWhole forest → closed (levels_of root (marks_of forest ++ left number events ∷ [])) ≡ forest
came_tells root number events forest w =
    ap closed (stepped_after (marks_of forest) (left number events ∷ []) (first_levels root) ∙ ap (λ l. stepped_all l (left number events ∷ [])) (whole_goes forest w root bare []))
    ∙ onto_bare forest

pub marks_tell_forests : Laws.MarksTellForests
marks_tell_forests p program s t halt root number answer done forest = (
  (λ run. came_tells root number (events_of answer) forest (shaped p program s (gave answer t) forest run)),
  (λ run. cut_goes forest (shaped p program s (ended halt) forest run) root bare [] ∙ onto_bare forest),
)
