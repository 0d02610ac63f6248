-- Which nodes have begun in a run, by its marks.
use Rattle.std.proofs.Common.{◌≡◌, ◌⊎◌, ◌↔◌, inl, inr, refl, sym, ◌∙◌, subst}
use Rattle.std.specs.Prelude.{ℕ, zero, suc, ◌<◌, eqb, Bool, true, false, Option, Some, None, List, [], ◌∷◌, ◌++◌, length, replicate, slice_index_or, slice_set}
use Rattle.std.proofs.lemmas.Bool.{false≢true, eqb-true, eqb-false}
use Rattle.std.proofs.lemmas.List.{get_or-set_same, get_or-set_other}
use Rattle.cr_meaning.specs.Events.{Event}
use Rattle.cr_meaning.specs.Language.{Reply, gave, ended}
use Rattle.cr_meaning.specs.World.{Program, World, Answer, Halt}
use Rattle.cr_meaning.specs.declared.run.Run.{Run}
use Rattle.cr_meaning_seen.specs.Seen.{Forest, bare, node as tree, Occurs, here, within, later}
use Rattle.cr_meaning_seen.specs.Marks.{Mark, began, left, left_by, marks_of}
use Rattle.cr_exec.specs.Runs.{IsWatched, marks_by}
use Rattle.cr_reached.specs.Evaluated.{AreMarked, HasBegun, IsEvaluated, IsRunMarked}

-- ---- marks one behind the other

begun_left : (n : ℕ) (marks more : List Mark) → HasBegun n marks → HasBegun n (marks ++ more)
begun_left n [] more h = absurd h
begun_left n (began number ∷ marks) more (inl e) = inl e
begun_left n (began number ∷ marks) more (inr h) = inr (begun_left n marks more h)
begun_left n (left number events ∷ marks) more h = begun_left n marks more h

begun_right : (n : ℕ) (marks more : List Mark) → HasBegun n more → HasBegun n (marks ++ more)
begun_right n [] more h = h
begun_right n (began number ∷ marks) more h = inr (begun_right n marks more h)
begun_right n (left number events ∷ marks) more h = begun_right n marks more h

begun_either : (n : ℕ) (marks more : List Mark) → HasBegun n (marks ++ more) → HasBegun n marks ⊎ HasBegun n more
begun_either n [] more h = inr h
begun_either n (began number ∷ marks) more (inl e) = inl (inl e)
begun_either n (began number ∷ marks) more (inr h) = elim (begun_either n marks more h) [ inl i ↦ inl (inr i) | inr j ↦ inr j ]
begun_either n (left number events ∷ marks) more h = begun_either n marks more h

-- ---- the marks of a forest

past_end : (n number : ℕ) (end : Option (List Event)) (marks : List Mark) → HasBegun n (left_by number end ++ marks) → HasBegun n marks
past_end n number None marks h = h
past_end n number (Some events) marks h = h

over_end : (n number : ℕ) (end : Option (List Event)) (marks : List Mark) → HasBegun n marks → HasBegun n (left_by number end ++ marks)
over_end n number None marks h = h
over_end n number (Some events) marks h = h

begun_is_evaluated : (forest : Forest) (n : ℕ) → HasBegun n (marks_of forest) → IsEvaluated forest n
begun_is_evaluated bare n h = absurd h
begun_is_evaluated (tree number inner end next) n (inl e) =
    let F : ℕ → Type 0 = λ k. Occurs n inner end (tree k inner end next) in (inner, end, subst F e here)
begun_is_evaluated (tree number inner end next) n (inr h) =
    elim (begun_either n (marks_of inner) (left_by number end ++ marks_of next) h) [
      | inl i ↦ let it = begun_is_evaluated inner n i in (it.0, it.1, within it.2)
      | inr j ↦ let it = begun_is_evaluated next n (past_end n number end (marks_of next) j) in (it.0, it.1, later it.2)
    ]

occurs_has_begun : (forest : Forest) (n : ℕ) (inner : Forest) (end : Option (List Event)) → Occurs n inner end forest → HasBegun n (marks_of forest)
occurs_has_begun bare n inner end o = elim o [ ]
occurs_has_begun (tree number inner end next) _ _ _ here = inl refl
occurs_has_begun (tree number f e next) n inner end (within o) = inr (begun_left n (marks_of f) (left_by number e ++ marks_of next) (occurs_has_begun f n inner end o))
occurs_has_begun (tree number f e next) n inner end (later o) =
    inr (begun_right n (marks_of f) (left_by number e ++ marks_of next) (over_end n number e (marks_of next) (occurs_has_begun next n inner end o)))

-- ---- those of a run

run_to : (p : Program) (reply : Reply Answer World Halt) (forest : Forest) (n : ℕ) → HasBegun n (marks_by p reply forest) → HasBegun n (marks_of forest)
run_to p (gave answer world) forest n h = elim (begun_either n (marks_of forest) _ h) [ inl i ↦ i | inr j ↦ absurd j ]
run_to p (ended halt) forest n h = h

run_from : (p : Program) (reply : Reply Answer World Halt) (forest : Forest) (n : ℕ) → HasBegun n (marks_of forest) → HasBegun n (marks_by p reply forest)
run_from p (gave answer world) forest n h = begun_left n (marks_of forest) _ h
run_from p (ended halt) forest n h = h

-- what a watch of begins knows at the end of a run
pub marked_by : (p : Program) (outcome : Run) (column : List Bool) → IsWatched (λ marks. AreMarked column (λ node. HasBegun node marks)) p outcome → IsRunMarked p outcome column
marked_by p outcome column h = record {
  reply = h.reply;
  forest = h.forest;
  seen = h.seen;
  comes = h.comes;
  marked = λ node. (
    λ set. begun_is_evaluated h.forest node (run_to p h.reply h.forest node ((h.known node).0 set)),
    λ it. (h.known node).1 (run_from p h.reply h.forest node (occurs_has_begun h.forest node it.0 it.1 it.2)),
  );
}

-- ---- one begin more

pub none_begun : (column : List Bool) (n : ℕ) → column ≡ replicate n false → AreMarked column (λ node. HasBegun node [])
none_begun column n is node = (λ set. absurd (false≢true (sym (none n node) ∙ subst (λ l. slice_index_or l node false ≡ true) is set)), λ it. absurd it)
  where
    none : (n node : ℕ) → slice_index_or (replicate n false) node false ≡ false
    none zero node = refl
    none (suc n) zero = refl
    none (suc n) (suc node) = none n node

pub one_begins : (column now : List Bool) (number : ℕ) (marks : List Mark) → AreMarked column (λ node. HasBegun node marks) → number < length column → now ≡ slice_set column number true
    → AreMarked now (λ node. HasBegun node (marks ++ began number ∷ []))
one_begins column now number marks h room is node = subst (λ l. (slice_index_or l node false ≡ true) ↔ HasBegun node (marks ++ began number ∷ [])) (sym is) (by (eqb node number) refl)
  where
    set : List Bool
    set = slice_set column number true

    at : node ≡ number → slice_index_or set node false ≡ true
    at e = subst (λ k. slice_index_or set k false ≡ true) (sym e) (get_or-set_same column number true false room)

    by : (t : Bool) → eqb node number ≡ t → (slice_index_or set node false ≡ true) ↔ HasBegun node (marks ++ began number ∷ [])
    by true e = let same = eqb-true node number e in (λ is_set. begun_right node marks (began number ∷ []) (inl same), λ it. at same)
    by false e =
        let other : slice_index_or set node false ≡ slice_index_or column node false = get_or-set_other column number node true false (eqb-false node number e) in (
          λ is_set. begun_left node marks (began number ∷ []) ((h node).0 (sym other ∙ is_set)),
          λ it. elim (begun_either node marks (began number ∷ []) it) [
            | inl i ↦ other ∙ (h node).1 i
            | inr j ↦ elim j [ inl same ↦ at same | inr none ↦ absurd none ]
          ],
        )

-- an end changes nothing
pub one_ends : (column : List Bool) (number : ℕ) (events : List Event) (marks : List Mark) → AreMarked column (λ node. HasBegun node marks)
    → AreMarked column (λ node. HasBegun node (marks ++ left number events ∷ []))
one_ends column number events marks h node = (
  λ set. begun_left node marks (left number events ∷ []) ((h node).0 set),
  λ it. elim (begun_either node marks (left number events ∷ []) it) [ inl i ↦ (h node).1 i | inr none ↦ absurd none ],
)
