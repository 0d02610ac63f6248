-- A label in the bare grammar's trees that may not stand there in the subset: the subset's machine doesn't get past the token
-- that shows it, which is `case` or `default` itself, or the colon behind an identifier.
use Rattle.std.proofs.Common.{◌≡◌, ℕ, ◌+◌, ◌<◌, ◌≤◌, Bool, true, false, ◌&&◌, ◌||◌, ◌==◌, List, [], ◌∷◌, ◌⊎◌, inl, inr, ⊎_elim, refl, sym, ap, subst, arith}
use Rattle.std.proofs.lemmas.Bool.{eqb-true, or_parts, or_from, or_left, or_right, cases_Bool, cases_lt, and_right}
use Rattle.cr_syntax.specs.declared.word.Word.TheVariants as word
use Rattle.cr_syntax.specs.declared.node.Kind.{Kind}
use Rattle.cr_syntax.specs.declared.node.Kind.TheVariants as kind
use Rattle.cr_syntax.specs.declared.part.Part.TheVariants as part
use Rattle.cr_syntax.specs.Words.{Lexeme}
use Rattle.cr_syntax.specs.Scopes.{Scopes, enter}
use Rattle.cr_syntax.specs.Trees.{Trees, none, node, one, ◌&◌}
use Rattle.cr_syntax.specs.Context.{fresh, past_token, past_part, ends_open}
use Rattle.cr_syntax.specs.Spells.{Limit}
use Rattle.cr_syntax.specs.Units.{has_here, has_inside, has_after, Place, in_switch, own_item, block_item, elsewhere, place_in, is_misplaced, is_stray, wrong_at, own_parameters}
use Rattle.cr_syntax_machine.specs.Machine.{Goal, Prog, Labels, anywhere, own_block, in_block, nowhere, named, Done, Runs, Allows, passes, the, has, call, has_word}
use Rattle.cr_syntax_machine.specs.Machine.{expression, conditional, row, declarator, unit, externals, external, declaration, init_declarators, statement, block, if_rest, switch_rest, while_rest, do_rest, for_rest, return_rest, for_clauses, clause, compound, items, item}
use Rattle.cr_syntax_machine.specs.Machine as m
use Rattle.cr_syntax_machine.specs.MachineBody as program
use Rattle.cr_syntax_machine.specs.MachineBody.{body, is_label, is_identifier, is_type_name, unlabelled, marked, declaration_rest, expression_rest, defined, may_define}
use Rattle.cr_syntax_machine_laws.proofs.MachineNames.{one_name}
use Rattle.cr_syntax_machine_laws.proofs.MachineSound.{runs_sound}
use Rattle.cr_syntax_machine_laws.proofs.MachineRuns.{reach}
use Rattle.cr_syntax_machine_laws.proofs.MachineFirst.{true_false}
use Rattle.cr_syntax_machine_laws.proofs.MachineEnds.{Way, barring, naming, Ends, refused_so, end_refuse, end_take, end_pass, end_bar, end_free, end_seen, end_unseen, end_yes, end_no, end_here, end_look, end_set, end_bring, end_behind, end_inside}
use Rattle.cr_syntax_machine_laws.proofs.MachineForms.{some_label, mark, Clean, clean_alone, Unmarked, unmarked_by, declaration_parts}
use Rattle.cr_syntax_machine_laws.proofs.MachineLoose.{loose, looser, own_label, own_earlier, Departs, part_way, tightened, label_yes, label_none}
use Rattle.cr_syntax_machine_laws.proofs.MachineTraces.{Traces, traces_idle, traced}

-- the rows of labels: those of a switch, and identifiers
pub data LabelRow : Type 0 where
  of_switch : LabelRow
  of_name : LabelRow

abbrev pub wrong : LabelRow → Kind → Place → Bool
wrong of_switch = is_misplaced
wrong of_name = is_stray

-- the token at which a label at token k shows itself
abbrev pub far : LabelRow → ℕ → ℕ
far of_switch k = k
far of_name k = k + 1

far_least : (r : LabelRow) (k : ℕ) → k ≤ far r k
far_least of_switch k = omega arith
far_least of_name k = omega arith

abbrev is_labelling : Kind → Bool
is_labelling kind.Label = true
is_labelling kind.Case = true
is_labelling kind.Default = true
is_labelling _ = false

-- no other node is wrong
not_wrong : (r : LabelRow) (q : Kind) (at : Place) → is_labelling q ≡ false → wrong r q at ≡ false
not_wrong of_switch kind.Case at y = true_false y
not_wrong of_switch kind.Default at y = true_false y
not_wrong of_switch _ at y = refl
not_wrong of_name kind.Label at y = true_false y
not_wrong of_name _ at y = refl

-- the subset's machine, within a unit
pub data IsSub : Labels → Type 0 where
  sub_own : IsSub own_block
  sub_block : IsSub in_block
  sub_nowhere : IsSub nowhere

-- where the trees stand that are read so
abbrev pub place_of : Labels → Place
place_of own_block = own_item
place_of in_block = block_item
place_of _ = elsewhere

sub_inside : {l : Labels} → IsSub l → IsSub (program.inside l)
sub_inside sub_own = sub_nowhere
sub_inside sub_block = sub_nowhere
sub_inside sub_nowhere = sub_nowhere

sub_compound : {l : Labels} → IsSub l → IsSub (program.in_compound l)
sub_compound sub_own = sub_block
sub_compound sub_block = sub_block
sub_compound sub_nowhere = sub_block

sub_switch : {l : Labels} → IsSub l → IsSub (program.in_switch l)
sub_switch sub_own = sub_own
sub_switch sub_block = sub_own
sub_switch sub_nowhere = sub_own

place_inside : {l : Labels} → IsSub l → place_of (program.inside l) ≡ elsewhere
place_inside sub_own = refl
place_inside sub_block = refl
place_inside sub_nowhere = refl

place_switch : {l : Labels} → IsSub l → own_item ≡ place_of (program.in_switch l)
place_switch sub_own = refl
place_switch sub_block = refl
place_switch sub_nowhere = refl

place_block : {l : Labels} → IsSub l → place_in kind.Compound (place_of l) ≡ place_of (program.in_compound l)
place_block sub_own = refl
place_block sub_block = refl
place_block sub_nowhere = refl

-- the body of a function
place_body : {l : Labels} → IsSub l → block_item ≡ place_of (program.in_compound l)
place_body sub_own = refl
place_body sub_block = refl
place_body sub_nowhere = refl

case_own : (r : LabelRow) → wrong r kind.Case own_item ≡ false
case_own of_switch = refl
case_own of_name = refl

default_own : (r : LabelRow) → wrong r kind.Default own_item ≡ false
default_own of_switch = refl
default_own of_name = refl

placed_own : (r : LabelRow) → wrong r kind.Label own_item ≡ false
placed_own of_switch = refl
placed_own of_name = refl

placed_block : (r : LabelRow) → wrong r kind.Label block_item ≡ false
placed_block of_switch = refl
placed_block of_name = refl

same_number : (i k : ℕ) → (i ≡ k → ⊥) → (i == k) ≡ false
same_number i k f = ⊎_elim (λ y. absurd (f (eqb-true i k y))) (λ y. y) (cases_Bool (i == k))

-- a label behind token k isn't at it, and an identifier's that shows itself behind is of the other row, or not at it
apart : (i k : ℕ) (r : LabelRow) (b : Bool) → far r k < i → (i == k) && b ≡ false
apart i k r b gt = let n = far_least r k in ap (λ x. x && b) (same_number i k (λ e. omega arith))

name_apart : (i k m : ℕ) (r : LabelRow) → m ≡ i + 1 → far r k < m → (i == k) && wrong r kind.Label elsewhere ≡ false
name_apart i k m of_switch e gt = and_right (i == k) false refl
name_apart i k m of_name e gt = ap (λ x. x && true) (same_number i k (λ q. omega arith))

module _ (z : LabelRow) (k : ℕ) where
  -- no wrong label begins at token k
  abbrev pub Fine : Place → Trees → Type 0
  Fine at t = wrong_at (wrong z) k at t ≡ false

  fine_and : (at : Place) (t u : Trees) → Fine at t → Fine at u → Fine at (t & u)
  fine_and at none u x y = y
  fine_and at (node q i j a n) u x y =
      let v = or_parts ((i == k) && wrong z q at || wrong_at (wrong z) k (place_in q at) a) (wrong_at (wrong z) k at n) x in
      or_from ((i == k) && wrong z q at || wrong_at (wrong z) k (place_in q at) a) (wrong_at (wrong z) k at (n & u)) v.0 (fine_and at n u v.1 y)

  fine_two : (at : Place) (t u : Trees) → Fine at t → Fine at u → Fine at (t & u & none)
  fine_two at t u x y = fine_and at t (u & none) x (fine_and at u none y refl)

  fine_three : (at : Place) (t u v : Trees) → Fine at t → Fine at u → Fine at v → Fine at (t & u & v & none)
  fine_three at t u v x y z = fine_and at t (u & v & none) x (fine_two at u v y z)

  fine_by : (q : Kind) (i j : ℕ) (a : Trees) (at : Place) → (i == k) && wrong z q at ≡ false → Fine (place_in q at) a → Fine at (one q i j a)
  fine_by q i j a at n x = or_from ((i == k) && wrong z q at || wrong_at (wrong z) k (place_in q at) a) false (or_from ((i == k) && wrong z q at) (wrong_at (wrong z) k (place_in q at) a) n x) refl

  -- a node that isn't wrong there
  fine_there : (q : Kind) (i j : ℕ) (a : Trees) (at : Place) → wrong z q at ≡ false → Fine (place_in q at) a → Fine at (one q i j a)
  fine_there q i j a at n x = fine_by q i j a at (subst (λ b. (i == k) && b ≡ false) (sym n) (and_right (i == k) false refl)) x

  -- a node that is no label, in any place
  fine_one : (q : Kind) (i j : ℕ) (a : Trees) (at : Place) → is_labelling q ≡ false → Fine (place_in q at) a → Fine at (one q i j a)
  fine_one q i j a at n x = fine_there q i j a at (not_wrong z q at n) x

  -- trees without a label
  no_label_kind : (q : Kind) (i j : ℕ) (a : Trees) → (mark some_label 0 q i j a ≡ true → ⊥) → is_labelling q ≡ false
  no_label_kind kind.Label i j a f = absurd (f refl)
  no_label_kind kind.Case i j a f = absurd (f refl)
  no_label_kind kind.Default i j a f = absurd (f refl)
  no_label_kind _ i j a f = refl

  clean_fine : (t : Trees) → Clean some_label 0 t → (at : Place) → Fine at t
  clean_fine none x at = refl
  clean_fine (node q i j a n) x at =
      or_from ((i == k) && wrong z q at || wrong_at (wrong z) k (place_in q at) a) (wrong_at (wrong z) k at n)
      (or_from ((i == k) && wrong z q at) (wrong_at (wrong z) k (place_in q at) a)
      (subst (λ b. (i == k) && b ≡ false) (sym (not_wrong z q at (no_label_kind q i j a (λ y. x (has_here y))))) (and_right (i == k) false refl))
      (clean_fine a (λ y. x (has_inside y)) (place_in q at)))
      (clean_fine n (λ y. x (has_after y)) at)

  module _ (us : List Lexeme) (limit : Limit) where
    abbrev Reads : Goal → Scopes → ℕ → Trees → Scopes → ℕ → Type 0
    Reads g c i t e j = Runs body us limit (body g) c i (Done t e j)

    -- the subset's machine is refused at the token that shows a label at token k, or before
    abbrev pub Caught : Prog → Scopes → ℕ → Type 0
    Caught p c i = Departs us limit p c i (far z k)

    caught_on : {p q : Prog} {c e : Scopes} {i j : ℕ} → Caught p c i → ((w : Way) (n : ℕ) → Ends body us limit p c i w n → Ends body us limit q e j w n) → Caught q e j
    caught_on x f = part_way x (omega arith) f

    or_caught : {A B : Type 0} {p q : Prog} {c e : Scopes} {i j : ℕ} → A ⊎ Caught p c i → (A → B) → ((w : Way) (n : ℕ) → Ends body us limit p c i w n → Ends body us limit q e j w n) →
        B ⊎ Caught q e j
    or_caught x f g = ⊎_elim (λ y. inl (f y)) (λ y. inr (caught_on y g)) x

    -- what is caught is so at a token that it gets to
    starts_by : {p : Prog} {c : Scopes} {i : ℕ} → Caught p c i → i ≤ far z k
    starts_by x = let n = reach (refused_so x.ends) in let n' = x.by in omega arith

    -- behind a goal that the bare grammar's machine reads
    passed : (g : Goal) {f : Trees → Prog} {c e : Scopes} {i j : ℕ} {t : Trees} → Reads (loose g) c i t e j → Caught (f t) e j → Caught (call g f) c i
    passed g h x = let n = starts_by x in ⊎_elim (λ h'. caught_on x (λ w n. end_behind h')) (λ d. part_way d n (λ w n. end_inside)) (tightened (looser g) h)

    -- What a goal of the bare grammar reads, and the subset's goal in its place.
    abbrev pub Placed : Goal → Scopes → ℕ → Trees → Scopes → ℕ → Type 0
    Placed (unit anywhere d) c i t e j = (l : Labels) → IsSub l → Fine elsewhere t ⊎ Caught (body (unit l d)) c i
    Placed (externals anywhere d x) c i t e j = (l : Labels) → IsSub l → Fine elsewhere x → Fine elsewhere t ⊎ Caught (body (externals l d x)) c i
    Placed (external anywhere d) c i t e j = (l : Labels) → IsSub l → Fine elsewhere t ⊎ Caught (body (external l d)) c i
    Placed (statement anywhere d) c i t e j = (l : Labels) → IsSub l → Fine (place_of l) t ⊎ Caught (body (statement l d)) c i
    Placed (block anywhere d) c i t e j = (l : Labels) → IsSub l → Fine (place_of l) t ⊎ Caught (body (block l d)) c i
    Placed (if_rest anywhere d s) c i t e j = (l : Labels) → IsSub l → Fine (place_of l) t ⊎ Caught (body (if_rest l d s)) c i
    Placed (switch_rest anywhere d s) c i t e j = (l : Labels) → IsSub l → Fine (place_of l) t ⊎ Caught (body (switch_rest l d s)) c i
    Placed (while_rest anywhere d s) c i t e j = (l : Labels) → IsSub l → Fine (place_of l) t ⊎ Caught (body (while_rest l d s)) c i
    Placed (do_rest anywhere d s) c i t e j = (l : Labels) → IsSub l → Fine (place_of l) t ⊎ Caught (body (do_rest l d s)) c i
    Placed (for_rest anywhere d s) c i t e j = (l : Labels) → IsSub l → Fine (place_of l) t ⊎ Caught (body (for_rest l d s)) c i
    Placed (for_clauses anywhere d s x) c i t e j = (l : Labels) → IsSub l → Fine elsewhere x → Fine (place_of l) t ⊎ Caught (body (for_clauses l d s x)) c i
    Placed (compound anywhere d) c i t e j = (l : Labels) → IsSub l → (at : Place) → place_in kind.Compound at ≡ place_of l → Fine at t ⊎ Caught (body (compound l d)) c i
    Placed (items anywhere d s x) c i t e j = (l : Labels) → IsSub l → (at : Place) → place_in kind.Compound at ≡ place_of l → Fine (place_of l) x → Fine at t ⊎ Caught (body (items l d s x)) c i
    Placed (item anywhere d) c i t e j = (l : Labels) → IsSub l → Fine (place_of l) t ⊎ Caught (body (item l d)) c i
    Placed g c i t e j = Unit {0}

    abbrev Owes : Prog → (Trees → Scopes → ℕ → Type 0) → Scopes → ℕ → Type 0
    Owes = Traces body us limit Placed

    -- The programs of the goals.

    made_by : (q : Kind) (i j : ℕ) (a : Trees) (at : Place) → is_labelling q ≡ false → place_in q at ≡ elsewhere → Fine elsewhere a → Fine at (one q i j a)
    made_by q i j a at n w x = fine_one q i j a at n (subst (λ z. Fine z a) (sym w) x)

    -- the parts of a statement, read where no label may stand
    inside_fine : {l : Labels} (t : Trees) → IsSub l → Fine (place_of (program.inside l)) t → Fine elsewhere t
    inside_fine t o x = subst (λ z. Fine z t) (place_inside o) x

    free : (g : Goal) {c e : Scopes} {i j : ℕ} {t : Trees} → Reads g c i t e j → (Unmarked some_label 0 g c i t e j → Clean some_label 0 t) → (at : Place) → Fine at t
    free g {t = t} h f at = clean_fine t (f (unmarked_by some_label refl us limit g h)) at

    free_expression : {d : ℕ} {c e : Scopes} {i j : ℕ} {t : Trees} → Reads (expression d) c i t e j → (at : Place) → Fine at t
    free_expression {d = d} h = free (expression d) h (λ x. x)

    -- A label at token i, with the parts x and the statement t that begins at token n: in its place, or where the subset's
    -- machine refuses it at token m.

    label_placed : {l : Labels} {p : Prog} {c : Scopes} (q : Kind) (i j d : ℕ) (x t u : Trees) (e : Scopes) (n : ℕ) → wrong z q (place_of l) ≡ false → place_in q (place_of l) ≡ place_of l → u ≡ x & t & none →
        ((at : Place) → Fine at x) → Fine (place_of l) t ⊎ Caught (body (statement l (d + 1))) e n →
        ((w : Way) (m : ℕ) → Ends body us limit (body (statement l (d + 1))) e n w m → Ends body us limit p c i w m) → Fine (place_of l) (one q i j u) ⊎ Caught p c i
    label_placed {l = l} q i j d x t u e n y y' o v r g = or_caught r
        (λ r'. fine_there q i j u (place_of l) y (subst (λ at. Fine at u) (sym y') (subst (λ b. Fine (place_of l) b) (sym o) (fine_two (place_of l) x t (v (place_of l)) r')))) g

    label_refused : {l : Labels} {p : Prog} {c : Scopes} (q : Kind) (i j d : ℕ) (x t u : Trees) (e : Scopes) (n m : ℕ) → (far z k < m → (i == k) && wrong z q (place_of l) ≡ false) → place_in q (place_of l) ≡ place_of l → u ≡ x & t & none →
        m < n → ((at : Place) → Fine at x) → Fine (place_of l) t ⊎ Caught (body (statement l (d + 1))) e n → (m ≤ far z k → Caught p c i) → Fine (place_of l) (one q i j u) ⊎ Caught p c i
    label_refused {l = l} q i j d x t u e n m y y' o lt v r g = ⊎_elim
        (λ gt. inl (fine_by q i j u (place_of l) (y gt) (subst (λ at. Fine at u) (sym y') (subst (λ b. Fine (place_of l) b) (sym o) (fine_two (place_of l) x t (v (place_of l)) (later gt))))))
        (λ le. inr (g le)) (cases_lt (far z k) m)
      where
        later : far z k < m → Fine (place_of l) t
        later gt = ⊎_elim (λ f. f) (λ f. let le = starts_by f in absurd (omega arith)) r

    -- of a switch: at its own token
    switch_label : (q : Kind) (i j d : ℕ) (x t u : Trees) (c e : Scopes) (n : ℕ) → wrong z q own_item ≡ false → place_in q own_item ≡ own_item → place_in q block_item ≡ block_item → place_in q elsewhere ≡ elsewhere → i < n →
        has_word us i is_label ≡ true → u ≡ x & t & none → ((at : Place) → Fine at x) → ((l : Labels) → IsSub l → Fine (place_of l) t ⊎ Caught (body (statement l (d + 1))) e n) →
        ((w : Way) (m : ℕ) → Ends body us limit (body (statement own_block (d + 1))) e n w m → Ends body us limit (body (statement own_block d)) c i w m) →
        (l : Labels) → IsSub l → Fine (place_of l) (one q i j u) ⊎ Caught (body (statement l d)) c i
    switch_label q i j d x t u c e n q0 q1 q2 q3 lt y o v r g anywhere b = elim b [ ]
    switch_label q i j d x t u c e n q0 q1 q2 q3 lt y o v r g own_block sub_own = label_placed {l = own_block} q i j d x t u e n q0 q1 o v (r own_block sub_own) g
    switch_label q i j d x t u c e n q0 q1 q2 q3 lt y o v r g in_block sub_block = label_refused {l = in_block} q i j d x t u e n i (apart i k z _) q2 o lt v (r in_block sub_block)
        (λ le. record { way = barring (has is_label) 6 d; at = i; own = own_label y; ends = end_here (end_no refl (end_bar y)); by = le })
    switch_label q i j d x t u c e n q0 q1 q2 q3 lt y o v r g nowhere sub_nowhere = label_refused {l = nowhere} q i j d x t u e n i (apart i k z _) q3 o lt v (r nowhere sub_nowhere)
        (λ le. record { way = barring (has is_label) 6 d; at = i; own = own_label y; ends = end_here (end_no refl (end_bar y)); by = le })

    -- an identifier: at the colon behind it
    name_label : (i j d : ℕ) (t : Trees) (c e : Scopes) (n m : ℕ) (p : Labels → Prog) → m ≡ i + 1 → m < n → ((l : Labels) → IsSub l → Fine (place_of l) t ⊎ Caught (body (statement l (d + 1))) e n) →
        ((l : Labels) → program.may_mark l ≡ true → (w : Way) (m : ℕ) → Ends body us limit (body (statement l (d + 1))) e n w m → Ends body us limit (p l) c i w m) →
        Ends body us limit (p nowhere) c i (naming i 9) m → (l : Labels) → IsSub l → Fine (place_of l) (one kind.Label i j (t & none)) ⊎ Caught (p l) c i
    name_label i j d t c e n m p o lt r g x anywhere b = elim b [ ]
    name_label i j d t c e n m p o lt r g x own_block sub_own = label_placed {l = own_block} kind.Label i j d none t (t & none) e n (placed_own z) refl refl (λ at. refl) (r own_block sub_own) (g own_block refl)
    name_label i j d t c e n m p o lt r g x in_block sub_block = label_placed {l = in_block} kind.Label i j d none t (t & none) e n (placed_block z) refl refl (λ at. refl) (r in_block sub_block) (g in_block refl)
    name_label i j d t c e n m p o lt r g x nowhere sub_nowhere = label_refused {l = nowhere} kind.Label i j d none t (t & none) e n m (λ gt. name_apart i k m z o gt) refl refl lt (λ at. refl) (r nowhere sub_nowhere)
        (λ le. record { way = naming i 9; at = m; own = own_earlier; ends = x; by = le })

    -- behind a name from token i on that may be a label
    marked_owes : (d i : ℕ) (p : Labels → Prog) (q : Prog) (c e : Scopes) (j : ℕ) (f : Trees → Scopes → ℕ → Type 0) → j ≡ i + 1 → ((t : Trees) (e : Scopes) (j : ℕ) → ((l : Labels) → IsSub l → Fine (place_of l) t ⊎ Caught (p l) c i) → f t e j) →
        ((l : Labels) (w : Way) (m : ℕ) → Ends body us limit (marked l d i q) e j w m → Ends body us limit (p l) c i w m) → Owes q f e j → Owes (marked anywhere d i q) f e j
    marked_owes d i p q c e j f o g x y = (
      λ v. (
        λ _. (
          λ v' a t e' j' h r. g _ e' j' (name_label i j' d t c e (j + 1) j p o (omega arith) r (λ l b w m u. x l w m (end_seen v (end_yes b (end_take v' a (end_inside u))))) (x nowhere (naming i 9) j (end_seen v (end_no refl end_refuse)))),
          λ v'. tt,
        ),
        λ b. true_false b,
      ),
      λ v. y,
    )

    unlabelled_owes : (d : ℕ) (c : Scopes) (i : ℕ) (f : Trees → Scopes → ℕ → Type 0) →
        ((t : Trees) (e : Scopes) (j : ℕ) → ((l : Labels) → IsSub l → Fine (place_of l) t ⊎ Caught (unlabelled l d i) c i) → f t e j) → Owes (unlabelled anywhere d i) f c i
    unlabelled_owes d c i f g = (
      λ y t e j h r. g t e j (λ l o. or_caught (r (program.in_compound l) (sub_compound o) (place_of l) (place_block o)) (λ x. x) (λ w n v. end_seen y (end_inside v))),
      λ y0. (
        λ y a t e j h r. g t e j (λ l o. or_caught (r l o) (λ x. x) (λ w n v. end_unseen y0 (end_take y a (end_inside v)))),
        λ y1. (
          λ y a t e j h r. g t e j (λ l o. or_caught (r l o) (λ x. x) (λ w n v. end_unseen y0 (end_pass y1 (end_take y a (end_inside v))))),
          λ y2. (
            λ y a t e j h r. g t e j (λ l o. or_caught (r l o) (λ x. x) (λ w n v. end_unseen y0 (end_pass y1 (end_pass y2 (end_take y a (end_inside v)))))),
            λ y3. (
              λ y a t e j h r. g t e j (λ l o. or_caught (r l o) (λ x. x) (λ w n v. end_unseen y0 (end_pass y1 (end_pass y2 (end_pass y3 (end_take y a (end_inside v))))))),
              λ y4. (
                λ y a t e j h r. g t e j (λ l o. or_caught (r l o) (λ x. x) (λ w n v. end_unseen y0 (end_pass y1 (end_pass y2 (end_pass y3 (end_pass y4 (end_take y a (end_inside v)))))))),
                λ y5. (
                  λ y a. (λ y' a'. (λ y'' a''. plain kind.Goto (i + 1 + 1 + 1) c refl (λ l. refl), λ y''. tt), λ y'. tt),
                  λ y6. (
                    λ y a. (λ y' a'. plain kind.Break (i + 1 + 1) c refl (λ l. refl), λ y'. tt),
                    λ y7. (
                      λ y a. (λ y' a'. plain kind.Continue (i + 1 + 1) c refl (λ l. refl), λ y'. tt),
                      λ y8. (
                        λ y a t e j h _. g t e j (λ l o. inl (free (return_rest d i) h (λ x. x) (place_of l))),
                        λ y9. (
                          λ y a. plain kind.ExpressionStatement (i + 1) c refl (λ l. refl),
                          λ y10. (
                            λ y a. marked_owes d i (λ l. unlabelled l d i) (m.stop d) c c (i + 1) f refl g
                                (λ l w n v. end_unseen y0 (end_pass y1 (end_pass y2 (end_pass y3 (end_pass y4 (end_pass y5 (end_pass y6 (end_pass y7 (end_pass y8 (end_pass y9 (end_pass y10 (end_take y a v)))))))))))) tt,
                            λ y11 t e j h _. (
                              λ b. marked_owes d i (λ l. unlabelled l d i) (expression_rest d i t) c e j f (one_name (runs_sound (expression d) c e i j t h fresh) (or_left (is_identifier t) (is_type_name t) b)).end g
                                  (λ l w n v. end_unseen y0 (end_pass y1 (end_pass y2 (end_pass y3 (end_pass y4 (end_pass y5 (end_pass y6 (end_pass y7 (end_pass y8 (end_pass y9 (end_pass y10 (end_pass y11 (end_behind h (end_yes b v)))))))))))))) (whole h),
                              λ b. whole h,
                            ),
                          ),
                        ),
                      ),
                    ),
                  ),
                ),
              ),
            ),
          ),
        ),
      ),
    )
      where
        plain : (q : Kind) (e : ℕ) (c' : Scopes) → is_labelling q ≡ false → ((l : Labels) → place_in q (place_of l) ≡ elsewhere) → f (one q i e none) c' e
        plain q e c' n w = g _ c' e (λ l o. inl (made_by q i e none (place_of l) n (w l) refl))

        whole : {t : Trees} {e : Scopes} {j : ℕ} → Reads (expression d) c i t e j → Owes (expression_rest d i t) f e j
        whole {t = t} {e = e} {j = j} h =
            (λ y a. g _ e (j + 1) (λ l o. inl (made_by kind.ExpressionStatement i (j + 1) (t & none) (place_of l) refl refl (fine_and elsewhere t none (free_expression h elsewhere) refl))), λ y. tt)

    statement_owes : (d : ℕ) (c : Scopes) (i : ℕ) → Owes (body (statement anywhere d)) (Placed (statement anywhere d) c i) c i
    statement_owes d c i = (
      λ _. (
        λ y a t e j h _. (
          λ y' a' t' e' j' h' r. let n = reach h in switch_label kind.Case i j' d t t' (t & t' & none) c e (j + 1) (case_own z) refl refl refl (omega arith) (label_yes us i word.Case refl y) refl (free (conditional d) h (λ x. x)) r
              (λ w m v. end_here (end_yes refl (end_take y a (end_behind h (end_take y' a' (end_inside v)))))),
          λ y'. tt,
        ),
        λ y0. (
          λ y a. (
            λ y' a' t' e' j' h' r. switch_label kind.Default i j' d none t' (t' & none) c c (i + 1 + 1) (default_own z) refl refl refl (omega arith) (label_yes us i word.Default refl y) refl (λ at. refl) r
                (λ w m v. end_here (end_yes refl (end_pass y0 (end_take y a (end_take y' a' (end_inside v)))))),
            λ y'. tt,
          ),
          λ y1. unlabelled_owes d c i (Placed (statement anywhere d) c i) (λ t e j r l o. or_caught (r l o) (λ x. x) (path y0 y1 o)),
        ),
      ),
      λ q. true_false q,
    )
      where
        path : {l : Labels} → passes us c i (the word.Case) ≡ false → passes us c i (the word.Default) ≡ false → IsSub l → (w : Way) (n : ℕ) → Ends body us limit (unlabelled l d i) c i w n →
            Ends body us limit (body (statement l d)) c i w n
        path y y' sub_own w n v = end_here (end_yes refl (end_pass y (end_pass y' v)))
        path y y' sub_block w n v = end_here (end_no refl (end_free (label_none us i y y') v))
        path y y' sub_nowhere w n v = end_here (end_no refl (end_free (label_none us i y y') v))

    block_owes : (d : ℕ) (c : Scopes) (i : ℕ) → Owes (body (block anywhere d)) (Placed (block anywhere d) c i) c i
    block_owes d c i = λ t e j h z l o. or_caught (z l o) (λ x. x) (λ w n v. end_look (end_set (end_inside v)))

    -- what an `else` is read behind, and what it begins
    else_caught : (l : Labels) (d s : ℕ) (a b : Trees) {c e : Scopes} {i j : ℕ} → Reads (block anywhere (d + 1)) c i b e j → ends_open b ≡ false → passes us e j (the word.Else) ≡ true →
        Allows limit m.opens j d → Caught (body (block (program.inside l) (d + 1))) e (j + 1) → Caught (call (block (program.inside l) (d + 1)) (λ u. program.if_end l d s a u)) c i
    else_caught l d s a b h q y w x = passed (block (program.inside l) (d + 1)) {f = λ u. program.if_end l d s a u} h (caught_on x (λ w' n v. end_no q (end_take y w (end_inside v))))

    if_owes : (d s : ℕ) (c : Scopes) (i : ℕ) → Owes (body (if_rest anywhere d s)) (Placed (if_rest anywhere d s) c i) c i
    if_owes d s c i = (
      λ y a t e j h _. (
        λ y' a' t' e' j' h' z. (
          λ q l o. first t t' y a h y' a' j' o (z (program.inside l) (sub_inside o)),
          λ q. (
            λ y0 a0 t0 e0 j0 h0 z0 l o. ⊎_elim
                (λ x. or_caught (⊎_elim (λ r. inl r) (λ r. inr (else_caught l d s t t' h' q y0 a0 r)) (z0 (program.inside l) (sub_inside o)))
                (λ x'. made_by kind.If s j0 (t & t' & t0 & none) (place_of l) refl refl (fine_three elsewhere t t' t0 (free_expression h elsewhere) (inside_fine t' o x) (inside_fine t0 o x')))
                (λ w n v. end_look (end_set (end_take y a (end_behind h (end_take y' a' v))))))
                (λ x. inr (caught_on x (λ w n v. end_look (end_set (end_take y a (end_behind h (end_take y' a' (end_inside v)))))))) (z (program.inside l) (sub_inside o)),
            λ y0 l o. first t t' y a h y' a' j' o (z (program.inside l) (sub_inside o)),
          ),
        ),
        λ y'. tt,
      ),
      λ y. tt,
    )
      where
        first : (t t' : Trees) {e : Scopes} {j : ℕ} → passes us ([] ∷ c) i (the word.LeftParen) ≡ true → Allows limit m.opens i d → Reads (expression (d + 1)) ([] ∷ c) (i + 1) t e j →
            passes us e j (the word.RightParen) ≡ true → Allows limit m.reopens j d → (p : ℕ) {l : Labels} → IsSub l →
            Fine (place_of (program.inside l)) t' ⊎ Caught (body (block (program.inside l) (d + 1))) e (j + 1) → Fine (place_of l) (one kind.If s p (t & t' & none)) ⊎ Caught (body (if_rest l d s)) c i
        first t t' y a h y' a' p {l = l} o z = or_caught z (λ x. made_by kind.If s p (t & t' & none) (place_of l) refl refl (fine_two elsewhere t t' (free_expression h elsewhere) (inside_fine t' o x)))
            (λ w n v. end_look (end_set (end_take y a (end_behind h (end_take y' a' (end_inside v))))))

    switch_owes : (d s : ℕ) (c : Scopes) (i : ℕ) → Owes (body (switch_rest anywhere d s)) (Placed (switch_rest anywhere d s) c i) c i
    switch_owes d s c i = (
      λ y a t e j h _. (
        λ y' a' n0 n1 t' e' j' h' z l o. or_caught (z (program.in_switch l) (sub_switch o) in_switch (place_switch o))
            (λ x. fine_one kind.Switch s j' (t & t' & none) (place_of l) refl (fine_two in_switch t t' (free_expression h in_switch) x))
            (λ w n v. end_look (end_set (end_take y a (end_behind h (end_take y' a' (end_free n0 (end_free n1 (end_look (end_set (end_inside v)))))))))),
        λ y'. tt,
      ),
      λ y. tt,
    )

    while_owes : (d s : ℕ) (c : Scopes) (i : ℕ) → Owes (body (while_rest anywhere d s)) (Placed (while_rest anywhere d s) c i) c i
    while_owes d s c i = (
      λ y a t e j h _. (
        λ y' a' t' e' j' h' z l o. or_caught (z (program.inside l) (sub_inside o))
            (λ x. made_by kind.While s j' (t & t' & none) (place_of l) refl refl (fine_two elsewhere t t' (free_expression h elsewhere) (inside_fine t' o x)))
            (λ w n v. end_look (end_set (end_take y a (end_behind h (end_take y' a' (end_inside v)))))),
        λ y'. tt,
      ),
      λ y. tt,
    )

    do_owes : (d s : ℕ) (c : Scopes) (i : ℕ) → Owes (body (do_rest anywhere d s)) (Placed (do_rest anywhere d s) c i) c i
    do_owes d s c i = λ t e j h z. (
      λ y a. (
        λ y' a' t' e' j' h' _. (
          λ y1 a1. (
            λ y2 a2 l o. or_caught (z (program.inside l) (sub_inside o))
                (λ x. made_by kind.Do s (j' + 1 + 1) (t & t' & none) (place_of l) refl refl (fine_two elsewhere t t' (inside_fine t o x) (free_expression h' elsewhere)))
                (λ w n v. end_look (end_set (end_inside v))),
            λ y2. tt,
          ),
          λ y1. tt,
        ),
        λ y'. tt,
      ),
      λ y. tt,
    )

    for_owes : (d s : ℕ) (c : Scopes) (i : ℕ) → Owes (body (for_rest anywhere d s)) (Placed (for_rest anywhere d s) c i) c i
    for_owes d s c i = (
      λ y a. (
        λ y' t e j h _ t' e' j' h' z l o. or_caught (z l o (fine_and elsewhere t none (free (declaration (d + 1)) h (λ x. x) elsewhere) refl)) (λ x. x)
            (λ w n v. end_look (end_set (end_take y a (end_seen y' (end_behind h (end_inside v)))))),
        λ y' t e j h _ t' e' j' h' z l o. or_caught (z l o (free (clause (d + 1)) h (λ x. x) elsewhere)) (λ x. x)
            (λ w n v. end_look (end_set (end_take y a (end_unseen y' (end_behind h (end_inside v)))))),
      ),
      λ y. tt,
    )

    clauses_owe : (d s : ℕ) (x : Trees) (c : Scopes) (i : ℕ) → Owes (body (for_clauses anywhere d s x)) (Placed (for_clauses anywhere d s x) c i) c i
    clauses_owe d s x c i = λ t e j h _. (
      λ y a t' e' j' h' z l o v. or_caught (z (program.inside l) (sub_inside o))
          (λ r. made_by kind.For s j' ((x & t) & t' & none) (place_of l) refl refl (fine_two elsewhere (x & t) t' (fine_and elsewhere x t v (free (clause (d + 1)) h (λ u. u) elsewhere)) (inside_fine t' o r)))
          (λ w n v'. end_behind h (end_take y a (end_inside v'))),
      λ y t' e' j' h' _. (
        λ y' a' t'' e'' j'' h'' z l o v. or_caught (z (program.inside l) (sub_inside o))
            (λ r. made_by kind.For s j'' ((x & t & t' & none) & t'' & none) (place_of l) refl refl
            (fine_two elsewhere (x & t & t' & none) t'' (fine_and elsewhere x (t & t' & none) v (fine_two elsewhere t t' (free (clause (d + 1)) h (λ u. u) elsewhere) (free_expression h' elsewhere))) (inside_fine t'' o r)))
            (λ w n v'. end_behind h (end_pass y (end_behind h' (end_take y' a' (end_inside v'))))),
        λ y'. tt,
      ),
    )

    compound_owes : (d : ℕ) (c : Scopes) (i : ℕ) → Owes (body (compound anywhere d)) (Placed (compound anywhere d) c i) c i
    compound_owes d c i = (λ y a t e j h z l o at q. or_caught (z l o at q refl) (λ x. x) (λ w n v. end_here (end_look (end_set (end_take y a (end_inside v))))), λ y. tt)

    items_caught : (l : Labels) (d s : ℕ) (x t : Trees) {c e : Scopes} {i j : ℕ} → passes us c i (the word.RightBrace) ≡ false → Reads (item anywhere (d + 1)) c i t e j →
        Caught (body (items l d s (x & t & none))) e j → Caught (body (items l d s x)) c i
    items_caught l d s x t y h z = caught_on (passed (item l (d + 1)) {f = λ u. call (items l d s (x & u & none)) m.give} h (caught_on z (λ w n v. end_inside v))) (λ w n v. end_pass y v)

    items_owe : (d s : ℕ) (x : Trees) (c : Scopes) (i : ℕ) → Owes (body (items anywhere d s x)) (Placed (items anywhere d s x) c i) c i
    items_owe d s x c i = (
      λ y a l o at q v. inl (fine_one kind.Compound s (i + 1) x at refl (subst (λ z. Fine z x) (sym q) v)),
      λ y t e j h z t' e' j' h' z' l o at q v. ⊎_elim
          (λ u. ⊎_elim (λ r. inl r) (λ r. inr (items_caught l d s x t y h r)) (z' l o at q (fine_two (place_of l) x t v u)))
          (λ r. inr (caught_on r (λ w n v'. end_pass y (end_inside v')))) (z l o),
    )

    item_owes : (d : ℕ) (c : Scopes) (i : ℕ) → Owes (body (item anywhere d)) (Placed (item anywhere d) c i) c i
    item_owes d c i = (
      λ y t e j h _. (
        λ b. marked_owes d i (λ l. body (item l d)) (declaration_rest d i t) c e j (Placed (item anywhere d) c i) (one_name (runs_sound (row part.Specifiers fresh d) c e i j t h) (or_right (is_identifier t) (is_type_name t) b)).end (λ t e j r. r)
            (λ l w n v. end_seen y (end_here (end_behind h (end_yes b v)))) (declared h),
        λ b. declared h,
      ),
      λ y t e j h z l o. or_caught (z l o) (λ x. x) (λ w n v. end_unseen y (end_inside v)),
    )
      where
        declared : {t : Trees} {e : Scopes} {j : ℕ} → Reads (row part.Specifiers fresh d) c i t e j → Owes (declaration_rest d i t) (Placed (item anywhere d) c i) e j
        declared {t = t} {e = e} {j = j} h = (
          λ y a l o. inl (made_by kind.Declaration i (j + 1) (t & none) (place_of l) refl refl (fine_and elsewhere t none (free (row part.Specifiers fresh d) h (λ x. x) elsewhere) refl)),
          λ y t' e' j' h' _ l o. inl (free (init_declarators (past_part fresh t) d i (t & none)) h' (λ f. f (clean_alone some_label 0 (unmarked_by some_label refl us limit (row part.Specifiers fresh d) h))) (place_of l)),
        )

    unit_caught : (l : Labels) (d : ℕ) (t : Trees) {c e : Scopes} {i j : ℕ} → Reads (external anywhere d) c i t e j → Caught (body (externals l d (t & none))) e j → Caught (body (unit l d)) c i
    unit_caught l d t h z = passed (external l d) {f = λ u. call (externals l d (u & none)) m.give} h (caught_on z (λ w n v. end_inside v))

    externals_caught : (l : Labels) (d : ℕ) (x t : Trees) {c e : Scopes} {i j : ℕ} → passes us c i (has program.is_any) ≡ true → Reads (external anywhere d) c i t e j →
        Caught (body (externals l d (x & t & none))) e j → Caught (body (externals l d x)) c i
    externals_caught l d x t y h z = caught_on (passed (external l d) {f = λ u. call (externals l d (x & u & none)) m.give} h (caught_on z (λ w n v. end_inside v))) (λ w n v. end_seen y v)

    unit_owes : (d : ℕ) (c : Scopes) (i : ℕ) → Owes (body (unit anywhere d)) (Placed (unit anywhere d) c i) c i
    unit_owes d c i = λ t e j h z t' e' j' h' z' l o. ⊎_elim
        (λ u. ⊎_elim (λ r. inl r) (λ r. inr (unit_caught l d t h r)) (z' l o (fine_and elsewhere t none u refl)))
        (λ r. inr (caught_on r (λ w n v. end_inside v))) (z l o)

    externals_owe : (d : ℕ) (x : Trees) (c : Scopes) (i : ℕ) → Owes (body (externals anywhere d x)) (Placed (externals anywhere d x) c i) c i
    externals_owe d x c i = (
      λ y t e j h z t' e' j' h' z' l o v. ⊎_elim
          (λ u. ⊎_elim (λ r. inl r) (λ r. inr (externals_caught l d x t y h r)) (z' l o (fine_two elsewhere x t v u)))
          (λ r. inr (caught_on r (λ w n v'. end_seen y (end_inside v')))) (z l o),
      λ y l o v. inl v,
    )

    -- the scopes of a function's body
    abbrev body_scopes : Scopes → ℕ → Trees → Trees → Scopes
    body_scopes c i t a = m.innermost_of c ∷ enter (m.brought us i (past_part (past_part fresh t) a).name (past_part (past_part fresh t) a).type_name) (m.around c)

    definition_caught : (l : Labels) (d s : ℕ) (t a : Trees) {c : Scopes} {i : ℕ} → Caught (body (compound (program.in_compound l) d)) (body_scopes c i t a) i → Caught (defined l d s t a) c i
    definition_caught l d s t a {i = i} x = let le = starts_by x in ⊎_elim
        (λ q. caught_on x (λ w n v. end_yes q (end_look (end_set (end_bring (end_look (end_set (end_inside v))))))))
        (λ q. record { way = naming (program.last_token (own_parameters a)) 8; at = i; own = own_earlier; ends = end_no q end_refuse; by = le })
        (cases_Bool (may_define l a))

    external_owes : (d : ℕ) (c : Scopes) (i : ℕ) → Owes (body (external anywhere d)) (Placed (external anywhere d) c i) c i
    external_owes d c i = λ t e j h _. (
      λ y a l o. inl (made_by kind.Declaration i (j + 1) (t & none) elsewhere refl refl (fine_and elsewhere t none (free (row part.Specifiers fresh d) h (λ x. x) elsewhere) refl)),
      λ y t' e' j' h' _. (
        λ y'. (
          λ _ t'' e'' j'' h'' z l o. ⊎_elim
              (λ x. inl (made_by kind.FunctionDefinition i j'' (t & t' & t'' & none) elsewhere refl refl
              (fine_three elsewhere t t' t'' (free (row part.Specifiers fresh d) h (λ u. u) elsewhere) (free (declarator named (past_part fresh t) d) h' (λ u. u) elsewhere) x)))
              (λ x. inr (caught_on (definition_caught l d i t t' x) (λ w n v. end_here (end_behind h (end_pass y (end_here (end_behind h' (end_seen y' v))))))))
              (z (program.in_compound l) (sub_compound o) elsewhere (place_body o)),
          λ _. tt,
        ),
        λ y' t1 e1 j1 h1 _. (
          λ y2 a2 t2 e2 j2 h2 _ l o. inl (free (init_declarators (past_token (past_part fresh t)) d i ((t & none) & t1 & none)) h2 (λ f. f (declaration_parts some_label refl us limit h h' h1)) elsewhere),
          λ y2. (λ y3 a3 l o. inl (made_by kind.Declaration i (j1 + 1) ((t & none) & t1 & none) elsewhere refl refl (clean_fine ((t & none) & t1 & none) (declaration_parts some_label refl us limit h h' h1) elsewhere)), λ y3. tt),
        ),
      ),
    )

    owes : (g : Goal) (c : Scopes) (i : ℕ) → Owes (body g) (Placed g c i) c i
    owes (unit anywhere d) c i = unit_owes d c i
    owes (externals anywhere d x) c i = externals_owe d x c i
    owes (external anywhere d) c i = external_owes d c i
    owes (statement anywhere d) c i = statement_owes d c i
    owes (block anywhere d) c i = block_owes d c i
    owes (if_rest anywhere d s) c i = if_owes d s c i
    owes (switch_rest anywhere d s) c i = switch_owes d s c i
    owes (while_rest anywhere d s) c i = while_owes d s c i
    owes (do_rest anywhere d s) c i = do_owes d s c i
    owes (for_rest anywhere d s) c i = for_owes d s c i
    owes (for_clauses anywhere d s x) c i = clauses_owe d s x c i
    owes (compound anywhere d) c i = compound_owes d c i
    owes (items anywhere d s x) c i = items_owe d s x c i
    owes (item anywhere d) c i = item_owes d c i
    owes g c i = traces_idle body us limit Placed (body g) c i

    -- a unit of the bare grammar has no such label, or the subset's machine is refused there or before
    pub labels_caught : {t : Trees} {c e : Scopes} {d i j : ℕ} → Reads (unit anywhere d) c i t e j → Fine elsewhere t ⊎ Caught (body (unit nowhere d)) c i
    labels_caught {c = c} {d = d} {i = i} h = traced body us limit Placed owes h (Placed (unit anywhere d) c i) (owes (unit anywhere d) c i) nowhere sub_nowhere
