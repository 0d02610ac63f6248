-- What the watch knows, mark by mark.
use Rattle.std.proofs.Common.{◌≡◌, refl, sym, ◌∙◌, ap, subst, arith, inr}
use Rattle.std.specs.Prelude.{ℕ, ◌≤◌, nat_lt, Bool, true, false, Option, Some, None, List, [], ◌∷◌, ◌++◌, length, is_some}
use Rattle.std.proofs.lemmas.Bool.{true≢false, false≢true, or_parts, ltb-false}
use Rattle.std.proofs.lemmas.List.{append-nil}
use Rattle.cr_meaning.specs.Events.{Event}
use Rattle.cr_meaning.specs.World.{Program}
use Rattle.cr_meaning_seen.specs.Seen.{Forest, bare, node as tree, onto}
use Rattle.cr_meaning_seen.specs.Marks.{Mark, began, left}
use Rattle.cr_meaning_loose.specs.Lists.{Lists, operands_at, count_of, IsListFine, AreFine}
use Rattle.cr_meaning_loose.specs.Loose.{IsFirstLoose, Judged}
use Rattle.cr_meaning_loose.specs.Levels.{Level, stepped, stepped_all, first_levels, levels_of, bottom_of, closed, AreAllFixed, IsFailed}
use Rattle.cr_meaning_loose.proofs.Tracing.{stepped_after}
use Rattle.cr_meaning_loose.proofs.Listing.{root_operands, all_fine, counts_more}
use Rattle.cr_meaning_loose.proofs.Judging.{bare_is_fixed, fails_on, fails_now, fails_list, still_fixed, failed_closes}
use Rattle.cr_order_watch.specs.Known.{is_asked, IsOpen, ArePieces, HasPieces, AreOpen, whole, within, Knows, IsFirstOf}
use Rattle.cr_order_watch.specs.declared.opened.Open.{Open}
use Rattle.cr_order_watch.specs.declared.opened.Piece.{Piece}
use Rattle.cr_order_watch.proofs.Opening.{passes}
use Rattle.cr_order_watch.proofs.Stacking.{Popped, popped, only_whole, has_below, ends_fixed, ends_loose}

one_more : (root : ℕ) (marks : List Mark) (mark : Mark) → levels_of root (marks ++ mark ∷ []) ≡ stepped (levels_of root marks) mark
one_more root marks mark = stepped_after marks (mark ∷ []) (first_levels root)

-- what is known of the levels before is known of those after
module _ (p : Program) (lists : Lists) (marks : List Mark) (mark : Mark) (loose : Option ℕ) (nodes : List Open) where
  on : Knows p lists loose nodes (stepped (levels_of (length p.ops) marks) mark) → Knows p lists loose nodes (levels_of (length p.ops) (marks ++ mark ∷ []))
  on h = let F : List Level → Type 0 = λ l. Knows p lists loose nodes l in subst F (sym (one_more (length p.ops) marks mark)) h

pub nothing_known : (p : Program) (lists : Lists) (nodes : List Open) → nodes ≡ [] → Knows p lists None nodes (levels_of (length p.ops) [])
nothing_known p lists nodes e = (((bare_is_fixed p, tt), tt), whole e (root_operands p))

-- the last level is the whole program's
pub record Rooted (levels : List Level) (root : ℕ) : Type 0 where
  pub top : Level
  pub rest : List Level
  pub same : levels ≡ top ∷ rest
  pub bottom : bottom_of levels ≡ root

bottom_steps : (levels : List Level) (mark : Mark) (root : ℕ) → Rooted levels root → Rooted (stepped levels mark) root
bottom_steps [] mark root h = absurd (cc h.same)
bottom_steps (top ∷ rest) (began number) root h = record { top = record { number = number; done = bare }; rest = top ∷ rest; same = refl; bottom = h.bottom }
bottom_steps (top ∷ []) (left number events) root h = h
bottom_steps (top ∷ below ∷ rest) (left number events) root h = record { top = record { number = below.number; done = onto below.done (tree top.number top.done (Some events) bare) }; rest = rest; same = refl; bottom = by rest h.bottom }
  where
    by : (others : List Level) → bottom_of (top ∷ below ∷ others) ≡ root → bottom_of (record { number = below.number; done = onto below.done (tree top.number top.done (Some events) bare) } ∷ others) ≡ root
    by [] e = e
    by (next ∷ others) e = e

bottom_goes : (marks : List Mark) (levels : List Level) (root : ℕ) → Rooted levels root → Rooted (stepped_all levels marks) root
bottom_goes [] levels root h = h
bottom_goes (mark ∷ marks) levels root h = bottom_goes marks (stepped levels mark) root (bottom_steps levels mark root h)

pub bottom_is : (root : ℕ) (marks : List Mark) → bottom_of (levels_of root marks) ≡ root
bottom_is root marks = (bottom_goes marks (first_levels root) root (record { top = record { number = root; done = bare }; rest = []; same = refl; bottom = refl })).bottom

-- ---- where the first loose one is known

fails_after : (p : Program) (lists : Lists) (loose number : ℕ) (events : List Event) (levels : List Level) → IsFailed p lists loose levels → IsFailed p lists loose (stepped levels (left number events))
fails_after p lists loose number events [] h = absurd h
fails_after p lists loose number events (top ∷ []) h = h
fails_after p lists loose number events (top ∷ below ∷ rest) h = fails_on p lists loose top below rest events h

pub begins_failed : (p : Program) (lists : Lists) (marks : List Mark) (number : ℕ) (loose : Option ℕ) (nodes : List Open) → is_some loose ≡ true → Knows p lists loose nodes (levels_of (length p.ops) marks)
    → Knows p lists loose nodes (levels_of (length p.ops) (marks ++ began number ∷ []))
begins_failed p lists marks number None nodes e h = absurd (false≢true e)
begins_failed p lists marks number (Some loose) nodes e h = on p lists marks (began number) (Some loose) nodes (inr h)

pub ends_failed : (p : Program) (lists : Lists) (marks : List Mark) (number : ℕ) (events : List Event) (loose : Option ℕ) (nodes : List Open) → is_some loose ≡ true → Knows p lists loose nodes (levels_of (length p.ops) marks)
    → Knows p lists loose nodes (levels_of (length p.ops) (marks ++ left number events ∷ []))
ends_failed p lists marks number events None nodes e h = absurd (false≢true e)
ends_failed p lists marks number events (Some loose) nodes e h = on p lists marks (left number events) (Some loose) nodes (fails_after p lists loose number events (levels_of (length p.ops) marks) h)

-- ---- where none is

none_of : (p : Program) (lists : Lists) (loose : Option ℕ) (nodes : List Open) (levels : List Level) → is_some loose ≡ false → Knows p lists loose nodes levels → (loose ≡ None) × (AreAllFixed p lists levels × AreOpen p lists nodes levels)
none_of p lists None nodes levels e h = (refl, h)
none_of p lists (Some loose) nodes levels e h = absurd (true≢false e)

still : (p : Program) (lists : Lists) (loose : Option ℕ) (nodes : List Open) (levels : List Level) → loose ≡ None → AreAllFixed p lists levels → AreOpen p lists nodes levels → Knows p lists loose nodes levels
still p lists loose nodes levels e all others = let F : Option ℕ → Type 0 = λ o. Knows p lists o nodes levels in subst F (sym e) (all, others)

pub asked_of : (p : Program) (lists : Lists) (loose : Option ℕ) (nodes : List Open) (levels : List Level) → is_some loose ≡ false → Knows p lists loose nodes levels → AreOpen p lists nodes levels
asked_of p lists loose nodes levels e h = (none_of p lists loose nodes levels e h).1.1

pub begins_open : (p : Program) (lists : Lists) (marks : List Mark) (number : ℕ) (loose : Option ℕ) (nodes new : List Open) (kept : Open) → is_some loose ≡ false → Knows p lists loose nodes (levels_of (length p.ops) marks)
    → IsOpen p kept (record { number = number; done = bare }) (levels_of (length p.ops) marks) → kept.pieces ≡ [] → new ≡ nodes ++ kept ∷ [] → Knows p lists loose new (levels_of (length p.ops) (marks ++ began number ∷ []))
begins_open p lists marks number loose nodes new kept e h this empty is =
    let i = none_of p lists loose nodes (levels_of (length p.ops) marks) e h in
    on p lists marks (began number) loose new (still p lists loose new (record { number = number; done = bare } ∷ levels_of (length p.ops) marks) i.0 ((bare_is_fixed p, tt), i.1.0) (within i.1.1 this nothing is))
  where
    nothing : HasPieces p lists kept (record { number = number; done = bare })
    nothing few = let F : List Piece → Type 0 = λ l. ArePieces p l bare in subst F (sym empty) tt

-- ---- a node ends

-- where the one around it isn't within its operands
not_within : (p : Program) (other : Level) (others : List Level) → is_asked p (other ∷ others) ≡ false → operands_at p other.number ≤ count_of other.done
not_within p other others none = by (nat_lt (count_of other.done) (operands_at p other.number)) refl (or_parts (is_asked p others) (nat_lt (count_of other.done) (operands_at p other.number)) none).1
  where
    by : (b : Bool) → nat_lt (count_of other.done) (operands_at p other.number) ≡ b → nat_lt (count_of other.done) (operands_at p other.number) ≡ false → operands_at p other.number ≤ count_of other.done
    by b e off = let n = ltb-false (count_of other.done) (operands_at p other.number) off in omega (arith, n)

past_pieces : (p : Program) (lists : Lists) (kept : Open) (other : Level) (others : List Level) (number : ℕ) (inner : Forest) (events : List Event) → IsOpen p kept other others → is_asked p (other ∷ others) ≡ false
    → HasPieces p lists kept (record { number = other.number; done = onto other.done (tree number inner (Some events) bare) })
past_pieces p lists kept other others number inner events h none few =
    let n = not_within p other others none in let o = h.operands in let c = counts_more other.done number inner (Some events) in absurd (omega (arith, n, o, c, few))

past_fine : (p : Program) (lists : Lists) (other : Level) (others : List Level) (number : ℕ) (inner : Forest) (events : List Event) → operands_at p other.number ≤ count_of other.done
    → AreFine (IsListFine p lists other.number other.done (tree number inner (Some events) bare) false) (lists number)
past_fine p lists other others number inner events full = all_fine (IsListFine p lists other.number other.done (tree number inner (Some events) bare) false) (λ list room. absurd (omega (arith, room, full))) (lists number)

module _ (p : Program) (lists : Lists) (marks : List Mark) (number : ℕ) (events : List Event) (loose : Option ℕ) (nodes : List Open) (off : is_some loose ≡ false) (h : Knows p lists loose nodes (levels_of (length p.ops) marks)) where
  known : (loose ≡ None) × (AreAllFixed p lists (levels_of (length p.ops) marks) × AreOpen p lists nodes (levels_of (length p.ops) marks))
  known = none_of p lists loose nodes (levels_of (length p.ops) marks) off h

  -- the whole program's
  pub ends_whole : (new : List Open) → nodes ≡ [] → nodes ≡ new ++ [] → Knows p lists loose new (levels_of (length p.ops) (marks ++ left number events ∷ []))
  ends_whole new e none =
      let G : List Open → Type 0 = λ l. Knows p lists loose l (levels_of (length p.ops) (marks ++ left number events ∷ [])) in
      subst G (none ∙ append-nil new)
      (on p lists marks (left number events) loose nodes (by (levels_of (length p.ops) marks) (only_whole p lists nodes (levels_of (length p.ops) marks) known.1.1 e) known.1.0 known.1.1))
    where
      by : (levels : List Level) → (level : Level) × (levels ≡ level ∷ []) → AreAllFixed p lists levels → AreOpen p lists nodes levels → Knows p lists loose nodes (stepped levels (left number events))
      by levels i all others =
          let F : List Level → Type 0 = λ l. AreAllFixed p lists l in
          let G : List Level → Type 0 = λ l. AreOpen p lists nodes l in
          let K : List Level → Type 0 = λ l. Knows p lists loose nodes (stepped l (left number events)) in
          subst K (sym i.1) (still p lists loose nodes (i.0 ∷ []) known.0 (subst F i.1 all) (subst G i.1 others))

  module _ (rest : List Open) (kept : Open) (is : nodes ≡ rest ++ kept ∷ []) where
    this : Popped p lists rest kept (levels_of (length p.ops) marks)
    this = popped p lists nodes rest kept (levels_of (length p.ops) marks) known.1.1 is

    -- a node with another below it, as it is after its end
    abbrev handed : Level → Level → Level
    handed level other = record { number = other.number; done = onto other.done (tree level.number level.done (Some events) bare) }

    ended : (o : Option ℕ) (new : List Open) → ((other : Level) (others : List Level) → this.below ≡ other ∷ others → AreAllFixed p lists (this.level ∷ other ∷ others) → Knows p lists o new (handed this.level other ∷ others))
        → Knows p lists o new (levels_of (length p.ops) (marks ++ left number events ∷ []))
    ended o new f =
        let b = has_below p lists rest this.below this.others in
        let two : levels_of (length p.ops) marks ≡ this.level ∷ b.0 ∷ b.1.0 = this.same ∙ ap (λ l. this.level ∷ l) b.1.1 in
        let F : List Level → Type 0 = λ l. AreAllFixed p lists l in
        let K : List Level → Type 0 = λ l. Knows p lists o new (stepped l (left number events)) in
        on p lists marks (left number events) o new (subst K (sym two) (f b.0 b.1.0 b.1.1 (subst F two known.1.0)))

    pub ends_so_loose : (new : List Open) → kept.fixed ≡ false → Knows p lists (Some kept.node) new (levels_of (length p.ops) (marks ++ left number events ∷ []))
    ends_so_loose new e = ended (Some kept.node) new (λ other others same all.
        let F : ℕ → Type 0 = λ n. IsFailed p lists n (handed this.level other ∷ others) in
        subst F (sym this.this.node) (fails_now p lists this.level other others events all (ends_loose p kept this.level this.below this.this e)))

    pub ends_unasked : kept.fixed ≡ true → kept.asked ≡ false → Knows p lists loose rest (levels_of (length p.ops) (marks ++ left number events ∷ []))
    ends_unasked e none = ended loose rest (λ other others same all.
        let off = ap (is_asked p) (sym same) ∙ sym this.this.asked ∙ none in
        let G : List Level → Type 0 = λ l. AreOpen p lists rest l in
        still p lists loose rest (handed this.level other ∷ others) known.0
        (still_fixed p lists this.level other others events all (ends_fixed p kept this.level this.below this.this e) (past_fine p lists other others this.level.number this.level.done events (not_within p other others off)))
        (by other others (subst G same this.others) off))
      where
        by : (other : Level) (others : List Level) → AreOpen p lists rest (other ∷ others) → is_asked p (other ∷ others) ≡ false → AreOpen p lists rest (handed this.level other ∷ others)
        by other _ (whole e root) none = whole e root
        by other others (within {kept = k} more it pieces e) none =
            within more (passes p k k other others this.level.number this.level.done events it none) (past_pieces p lists k other others this.level.number this.level.done events it none) e

    ends_at_bottom : kept.fixed ≡ true → rest ≡ [] → Knows p lists loose rest (levels_of (length p.ops) (marks ++ left number events ∷ []))
    ends_at_bottom e empty = ended loose rest (λ other others same all.
        let G : List Level → Type 0 = λ l. AreOpen p lists rest l in
        still p lists loose rest (handed this.level other ∷ others) known.0
        (still_fixed p lists this.level other others events all (ends_fixed p kept this.level this.below this.this e) (past_fine p lists other others this.level.number this.level.done events (rooted other others (subst G same this.others))))
        (by other others (subst G same this.others)))
      where
        never : (b : List Open) (k : Open) → b ++ k ∷ [] ≡ [] → ⊥
        never [] k x = absurd (cc x)
        never (a ∷ l) k x = absurd (cc x)

        rooted : (other : Level) (others : List Level) → AreOpen p lists rest (other ∷ others) → operands_at p other.number ≤ count_of other.done
        rooted other _ (whole e root) = omega (arith, root)
        rooted other others (within {below = b} {kept = k} more it pieces e) = absurd (never b k (sym e ∙ empty))

        by : (other : Level) (others : List Level) → AreOpen p lists rest (other ∷ others) → AreOpen p lists rest (handed this.level other ∷ others)
        by other _ (whole e root) = whole e root
        by other others (within {below = b} {kept = k} more it pieces e) = absurd (never b k (sym e ∙ empty))

    pub ends_bottom : (new : List Open) → kept.fixed ≡ true → rest ≡ [] → rest ≡ new ++ [] → Knows p lists loose new (levels_of (length p.ops) (marks ++ left number events ∷ []))
    ends_bottom new e empty none = let K : List Open → Type 0 = λ l. Knows p lists loose l (levels_of (length p.ops) (marks ++ left number events ∷ [])) in subst K (none ∙ append-nil new) (ends_at_bottom e empty)

    -- what is handed to the node around it
    abbrev pub Handed : List Open → Open → Open → Option ℕ → Type 0
    Handed more below after list = (level other : Level) (others : List Level) → IsOpen p kept level (other ∷ others) → IsOpen p below other others → HasPieces p lists below other
        → (IsOpen p after (record { number = other.number; done = onto other.done (tree level.number level.done (Some events) bare) }) others
        × HasPieces p lists after (record { number = other.number; done = onto other.done (tree level.number level.done (Some events) bare) }))
        × IsFirstOf (IsListFine p lists other.number other.done (tree level.number level.done (Some events) bare) false) list (lists level.number)

    here_below : (more : List Open) (below : Open) → rest ≡ more ++ below ∷ [] → (other : Level) (others : List Level) → this.below ≡ other ∷ others
        → (AreOpen p lists more others × IsOpen p kept this.level (other ∷ others)) × (IsOpen p below other others × HasPieces p lists below other)
    here_below more below at other others same =
        let G : List Level → Type 0 = λ l. AreOpen p lists rest l in
        let H : List Level → Type 0 = λ l. IsOpen p kept this.level l in
        let i = popped p lists rest more below (other ∷ others) (subst G same this.others) at in
        let one : i.level ≡ other = sym (cc i.same) in
        let two : i.below ≡ others = sym (cc i.same) in
        let A : List Level → Type 0 = λ l. AreOpen p lists more l in
        let B : Level → Type 0 = λ l. IsOpen p below l others in
        let C : List Level → Type 0 = λ l. IsOpen p below i.level l in
        let D : Level → Type 0 = λ l. HasPieces p lists below l in
        ((subst A two i.others, subst H same this.this), (subst B one (subst C two i.this), subst D one i.pieces))

    pub ends_handed : (more new : List Open) (below after : Open) → kept.fixed ≡ true → rest ≡ more ++ below ∷ [] → Handed more below after None → new ≡ more ++ after ∷ []
        → Knows p lists loose new (levels_of (length p.ops) (marks ++ left number events ∷ []))
    ends_handed more new below after e at f is_new = ended loose new (λ other others same all.
        let i = here_below more below at other others same in
        let g = f this.level other others i.0.1 i.1.0 i.1.1 in
        still p lists loose new (handed this.level other ∷ others) known.0 (still_fixed p lists this.level other others events all (ends_fixed p kept this.level this.below this.this e) g.1)
        (within i.0.0 g.0.0 g.0.1 is_new))

    -- with it a list ends that is loose
    pub ends_list : (more new : List Open) (below after : Open) (list : ℕ) → kept.fixed ≡ true → rest ≡ more ++ below ∷ [] → Handed more below after (Some list)
        → Knows p lists (Some list) new (levels_of (length p.ops) (marks ++ left number events ∷ []))
    ends_list more new below after list e at f = ended (Some list) new (λ other others same all.
        let i = here_below more below at other others same in
        let g = f this.level other others i.0.1 i.1.0 i.1.1 in
        fails_list p lists list this.level other others events all (ends_fixed p kept this.level this.below this.this e) g.1)

-- ---- the run ends

pub judged_failed : (p : Program) (lists : Lists) (marks : List Mark) (found : ℕ) (loose : Option ℕ) (nodes : List Open) → loose ≡ Some found → Knows p lists loose nodes (levels_of (length p.ops) marks)
    → Judged p lists (closed (levels_of (length p.ops) marks)) (Some found)
judged_failed p lists marks found loose nodes e h =
    let F : Option ℕ → Type 0 = λ o. Knows p lists o nodes (levels_of (length p.ops) marks) in
    let G : ℕ → Type 0 = λ n. IsFirstLoose p lists found n bare (closed (levels_of (length p.ops) marks)) in
    subst G (bottom_is (length p.ops) marks) (failed_closes p lists found bare (levels_of (length p.ops) marks) (subst F e h))

pub judged_open : (p : Program) (lists : Lists) (marks : List Mark) (loose : Option ℕ) (nodes : List Open) → loose ≡ None → Knows p lists loose nodes (levels_of (length p.ops) marks)
    → AreAllFixed p lists (levels_of (length p.ops) marks) × AreOpen p lists nodes (levels_of (length p.ops) marks)
judged_open p lists marks loose nodes e h = let F : Option ℕ → Type 0 = λ o. Knows p lists o nodes (levels_of (length p.ops) marks) in subst F e h
