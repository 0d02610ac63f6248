-- The machine leaves no scope open less than it found, and a declarator with a name one more: that of its parameters.
use Rattle.std.proofs.Common.{◌≡◌, ℕ, suc, ◌+◌, ◌≤◌, Bool, true, false, List, [], ◌∷◌, length, refl, arith}
use Rattle.cr_syntax.specs.declared.word.Word.{Word}
use Rattle.cr_syntax.specs.declared.node.Kind.{Kind}
use Rattle.cr_syntax.specs.declared.part.Part.{Part}
use Rattle.cr_syntax.specs.declared.part.Part.TheVariants as part
use Rattle.cr_syntax.specs.declared.part.Context.{Context}
use Rattle.cr_syntax.specs.declared.scopes.TypeName.{TypeName}
use Rattle.cr_syntax.specs.Words.{Lexeme}
use Rattle.cr_syntax.specs.Scopes.{Scopes, enter}
use Rattle.cr_syntax.specs.Trees.{Trees, none, ◌&◌}
use Rattle.cr_syntax.specs.Context.{fresh, past_part}
use Rattle.cr_syntax.specs.Spells.{Limit}
use Rattle.cr_syntax_machine.specs.Machine.{Goal, Prog, Manner, Labels, choose, Runs, Done, plain, opens, give, stop, made, around, brought}
use Rattle.cr_syntax_machine.specs.Machine.{whole, expression, commas, assignment, conditional, binary, operands, cast, unary, measured, postfix, called, grouped, texts, arguments, suffixes, type_name, row, more, element, structure, members, member, member_declarators, enumeration, enumerators, enumerator, qualifiers, declarator, declarator_suffixes, abstract_suffixes, size, parameters, more_parameters, parameter}
use Rattle.cr_syntax_machine.specs.Machine.{unit, externals, external, declaration, init_declarators, initialized, initializer, initializers, statement, block, if_rest, switch_rest, while_rest, do_rest, for_rest, return_rest, for_clauses, clause, compound, items, item}
use Rattle.cr_syntax_machine.specs.MachineBody.{body, marked, declaration_rest, expression_rest, assigned, operated, prefixed, suffixed, sized, other_primary, suffixes_end, other_element, array_start, declared_on, unlabelled, Words, is_declarator, may_omit, start_goal, tighter, assignment_operators, operators, unary_prefixes, cast_prefixes, constants, postfix_operators, specifier_words}
use Rattle.cr_syntax_machine_laws.proofs.MachineGives.{Gives, gives, AllRows, no_rows, also, gives_choose}

-- nothing is known before
abbrev pub Nothing : Goal → Scopes → ℕ → Trees → Scopes → ℕ → Type 0
Nothing g c i t e j = Unit {0}

abbrev pub Kept : Goal → Scopes → ℕ → Trees → Scopes → ℕ → Type 0
Kept (declarator w h d) c i t e j = (length c ≤ length e) × (is_declarator t ≡ true → suc (length c) ≤ length e) × (may_omit w ≡ false → is_declarator t ≡ true)
Kept (declarator_suffixes d s a) c i t e j = (length c ≤ length e) × (is_declarator a ≡ true → is_declarator t ≡ true)
Kept (abstract_suffixes d s a) c i t e j = (length c ≤ length e) × (is_declarator a ≡ false → is_declarator t ≡ false)
-- the scope of a `for` ends behind its clauses
Kept (for_clauses l d s x) c i t e j = length c ≤ suc (length e)
Kept g c i t e j = length c ≤ length e

start_kept : (p : Part) (d : ℕ) (c : Scopes) (i : ℕ) (t : Trees) (e : Scopes) (j : ℕ) → Kept (start_goal p d) c i t e j → length c ≤ length e
start_kept part.Expression d c i t e j m = m
start_kept part.Assignment d c i t e j m = m
start_kept _ d c i t e j m = m

tighter_kept : (p : Part) (d : ℕ) (c : Scopes) (i : ℕ) (t : Trees) (e : Scopes) (j : ℕ) → Kept (tighter p d) c i t e j → length c ≤ length e
tighter_kept part.LogicalOr d c i t e j m = m
tighter_kept part.LogicalAnd d c i t e j m = m
tighter_kept part.Or d c i t e j m = m
tighter_kept part.Xor d c i t e j m = m
tighter_kept part.And d c i t e j m = m
tighter_kept part.Equality d c i t e j m = m
tighter_kept part.Relational d c i t e j m = m
tighter_kept part.Shift d c i t e j m = m
tighter_kept part.Additive d c i t e j m = m
tighter_kept _ d c i t e j m = m

pub around_less : (c : Scopes) → length c ≤ suc (length (around c))
around_less [] = omega arith
around_less (names ∷ c) = omega arith

pub entered_more : (l : ℕ) (n : TypeName) (c : Scopes) → l ≤ length c → l ≤ length (enter n c)
entered_more l n [] q = omega arith
entered_more l n (names ∷ c) q = omega arith

abbrev Any : Word → Kind → Type 0
Any w k = Unit {0}

any_rows : (rs : Words) → AllRows Any rs
any_rows [] = no_rows
any_rows (r ∷ rs) = also {w = r.0} {k = r.1} tt (any_rows rs)

pub not_both : {A : Type 0} (b : Bool) → b ≡ true → b ≡ false → A
not_both b x y = cc

module _ (us : List Lexeme) (top : Limit) where
  abbrev Keeps : Prog → (Trees → Scopes → ℕ → Type 0) → Scopes → ℕ → Type 0
  Keeps = Gives us top Nothing Kept

  words_kept : (a : Manner) (rs : Words) (d : ℕ) (p : Kind → Prog) (q : Prog) (f : Trees → Scopes → ℕ → Type 0) (c : Scopes) (i : ℕ) →
      ((k : Kind) → Keeps (p k) f c (i + 1)) → Keeps q f c i → Keeps (choose a rs d p q) f c i
  words_kept a rs d p q f c i x y = gives_choose us top Nothing Kept a d p q f c i Any (any_rows rs) (λ w k r v z. x k) y

  -- behind a declarator, where its own scope is open
  declared_kept : (n : ℕ) (h : Context) (d s : ℕ) (x : Trees) (q : ℕ) (a : Trees) (c : Scopes) (i : ℕ) → suc n ≤ length c → Keeps (declared_on h d s x q a) (λ t e j. n ≤ length e) c i
  declared_kept n h d s x q a c i le =
      let o = around_less c in
      let m = entered_more n (brought us i (past_part h a).name (past_part h a).type_name) (around c) (omega arith) in
      λ t e j _ _ m'. (λ q' w t' e' j' _ _ m''. omega arith, (λ q' w. omega arith, tt))

  -- behind a name that may be a label
  marked_kept : (l : Labels) (d s : ℕ) (p : Prog) (n : ℕ) (c : Scopes) (i : ℕ) → n ≤ length c → Keeps p (λ t e j. n ≤ length e) c i → Keeps (marked l d s p) (λ t e j. n ≤ length e) c i
  marked_kept l d s p n c i le x = ((λ y. (λ q w t e j _ _ m. omega arith, tt), λ y. tt), x)

  -- behind the specifiers of a declaration
  rest_kept : (d s : ℕ) (t : Trees) (n : ℕ) (c : Scopes) (i : ℕ) → n ≤ length c → Keeps (declaration_rest d s t) (λ t e j. n ≤ length e) c i
  rest_kept d s t n c i le = (λ q w. omega arith, λ t' e j _ _ m. omega arith)

  unlabelled_kept : (l : Labels) (d s : ℕ) (c : Scopes) (i : ℕ) → Keeps (unlabelled l d s) (λ t e j. length c ≤ length e) c i
  unlabelled_kept l d s c i = (
    λ t e j _ _ m. m,
    (
      λ q w t e j _ _ m. m,
      (
        λ q w t e j _ _ m. m,
        (
          λ q w t e j _ _ m. m,
          (
            λ q w t e j _ _ m. m,
            (
              λ q w t e j _ _ m. m,
              (
                (λ q w. (λ q' w'. (λ q'' w''. omega arith, tt), tt)),
                (
                  (λ q w. (λ q' w'. omega arith, tt)),
                  (
                    (λ q w. (λ q' w'. omega arith, tt)),
                    (
                      λ q w t e j _ _ m. m,
                      (
                        λ q w. omega arith,
                        (
                          λ q w. marked_kept l d s (stop d) (length c) c (i + 1) (omega arith) tt,
                          λ t e j _ _ m. (λ y. marked_kept l d s (expression_rest d s t) (length c) e j m (λ q w. m, tt), λ y. (λ q w. m, tt)),
                        ),
                      ),
                    ),
                  ),
                ),
              ),
            ),
          ),
        ),
      ),
    ),
  )

  pub kept : (g : Goal) (c : Scopes) (i : ℕ) → Keeps (body g) (Kept g c i) c i
  kept (whole p d) c i = λ t e j _ _ m. start_kept p d c i t e j m
  kept (expression d) c i = λ t e j _ _ m t' e' j' _ _ m'. omega arith
  kept (commas d s a) c i = (λ q w t e j _ _ m t' e' j' _ _ m'. omega arith, omega arith)
  kept (assignment d) c i = λ t e j _ _ m. (λ u. words_kept opens assignment_operators d (assigned d i t) (give t) (Kept (assignment d) c i) e j (λ k t' e' j' _ _ m'. omega arith) m, λ u. m)
  kept (conditional d) c i = λ t e j _ _ m. (λ q w t' e' j' _ _ m'. (λ q' w' t'' e'' j'' _ _ m''. omega arith, tt), m)
  kept (binary p d) c i = λ t e j _ _ m t' e' j' _ _ m'. let n = tighter_kept p d c i t e j m in omega arith
  kept (operands p d s a) c i = words_kept plain (operators p) d (operated p d s a) (give a) (Kept (operands p d s a) c i) c i
      (λ k t e j _ _ m t' e' j' _ _ m'. let n = tighter_kept p d c (i + 1) t e j m in omega arith) (omega arith)
  kept (cast d) c i = (λ q w. (λ t e j _ _ m. (λ q' w' t' e' j' _ _ m'. omega arith, tt), λ t e j _ _ m. m), λ t e j _ _ m. m)
  kept (unary d) c i = words_kept opens unary_prefixes d (prefixed (unary (d + 1)) i) (choose opens cast_prefixes d (prefixed (cast (d + 1)) i) (sized d i)) (Kept (unary d) c i) c i (λ k t e j _ _ m. m)
      (words_kept opens cast_prefixes d (prefixed (cast (d + 1)) i) (sized d i) (Kept (unary d) c i) c i (λ k t e j _ _ m. m) (λ q w t e j _ _ m. m, λ t e j _ _ m. m))
  kept (measured d s) c i = (λ q w. (λ t e j _ _ m. (λ q' w'. m, tt), λ t e j _ _ m. m), λ t e j _ _ m. m)
  kept (postfix d) c i = (
    λ q w t e j _ _ m. m,
    words_kept plain constants d (suffixed d i none) (other_primary d i) (Kept (postfix d) c i) c i (λ k t e j _ _ m. m)
        (λ q w t e j _ _ m t' e' j' _ _ m'. omega arith, (λ q w t e j _ _ m. m, tt)),
  )
  kept (called d s) c i = (λ q w. (λ q' w' t e j _ _ m. m, λ t e j _ _ m t' e' j' _ _ m'. omega arith), λ t e j _ _ m. m)
  kept (grouped d s) c i = λ t e j _ _ m. (λ q w t' e' j' _ _ m'. omega arith, tt)
  kept (texts d) c i = (λ q w t e j _ _ m. m, omega arith)
  kept (arguments d a) c i = λ t e j _ _ m. (λ q w t' e' j' _ _ m'. omega arith, (λ q w. m, tt))
  kept (suffixes d s a) c i = (
    λ q w t e j _ _ m. (λ q' w' t' e' j' _ _ m'. omega arith, tt),
    (
      (λ q w. (λ q' w' t e j _ _ m. m, tt)),
      (
        (λ q w. (λ q' w' t e j _ _ m. m, tt)),
        words_kept plain postfix_operators d (suffixed d s (a & none)) (suffixes_end d a) (Kept (suffixes d s a) c i) c i (λ k t e j _ _ m. m) (λ u. omega arith, λ u. omega arith),
      ),
    ),
  )
  kept (type_name d) c i = λ t e j _ _ m. (λ t' e' j' _ _ m'. let n = m'.0 in omega arith, m)
  kept (row p h d) c i = λ t e j _ _ m t' e' j' _ _ m'. omega arith
  kept (more p h d s a) c i = (λ t e j _ _ m t' e' j' _ _ m'. omega arith, omega arith)
  kept (element p h d) c i = words_kept plain (specifier_words p) d (λ k. made k i none) (other_element h d i) (Kept (element p h d) c i) c i (λ k. omega arith)
      (λ q w t e j _ _ m. m, (λ q w t e j _ _ m. m, (λ q w. omega arith, tt)))
  kept (structure d s) c i = (λ q w. (λ q' w' t e j _ _ m. m, omega arith), (λ q w t e j _ _ m. m, tt))
  kept (members d s a) c i = λ t e j _ _ m. (λ q w. m, λ t' e' j' _ _ m'. omega arith)
  kept (member d) c i = λ t e j _ _ m t' e' j' _ _ m'. omega arith
  kept (member_declarators h d s a) c i = λ t e j _ _ m.
      let n = m.1 (m.2 refl) in let o = around_less e in
      (λ q w t' e' j' _ _ m'. omega arith, (λ q w. omega arith, tt))
  kept (enumeration d s) c i = (λ q w. (λ q' w' t e j _ _ m. m, omega arith), (λ q w t e j _ _ m. m, tt))
  kept (enumerators d s a) c i = λ t e j _ _ m. (λ q w. (λ q' w'. m, λ t' e' j' _ _ m'. omega arith), (λ q w. m, tt))
  kept (enumerator d) c i = (λ q w. (λ q' w' t e j _ _ m. entered_more (length c) (brought us j i false) e m, entered_more (length c) (brought us (i + 1) i false) c (omega arith)), tt)
  kept (qualifiers d) c i = (λ q w t e j _ _ m. m, omega arith)
  kept (declarator w h d) c i = (
    λ q v t e j _ _ m. (λ o. (λ t' e' j' _ _ m'. pointer e t' e' m m', (m, λ x. cc, λ x. not_both (may_omit w) o x)), λ o t' e' j' _ _ m'. pointer e t' e' m m'),
    (
      λ q v t e j _ _ m. (
        λ q' v'. (
          λ y t' e' j' _ _ m'. let n = m.1 y in let l = m'.0 in (omega arith, λ x. omega arith, λ x. m'.1 refl),
          λ y t' e' j' _ _ m'. let n = m.0 in let l = m'.0 in (omega arith, λ x. not_both (is_declarator t') x (m'.1 refl), λ x. not_both (is_declarator t) (m.2 x) y),
        ),
        tt,
      ),
      (λ o. (λ q v t e j _ _ m. let l = m.0 in (omega arith, λ x. omega arith, λ x. m.1 refl), arrays), λ o. arrays),
    ),
  )
    where
      pointer : (e : Scopes) (t : Trees) (e' : Scopes) → length c ≤ length e → (length e ≤ length e') × (is_declarator t ≡ true → suc (length e) ≤ length e') × (may_omit w ≡ false → is_declarator t ≡ true) →
          (is_declarator t ≡ true → (length c ≤ length e') × (true ≡ true → suc (length c) ≤ length e') × (may_omit w ≡ false → true ≡ true)) ×
          (is_declarator t ≡ false → (length c ≤ length e') × (false ≡ true → suc (length c) ≤ length e') × (may_omit w ≡ false → false ≡ true))
      pointer e t e' m m' =
          let n = m'.0 in
          (λ y. let l = m'.1 y in (omega arith, λ x. omega arith, λ x. refl), λ y. (omega arith, λ x. cc, λ x. not_both (is_declarator t) (m'.2 x) y))

      arrays : Keeps (array_start w d i) (Kept (declarator w h d) c i) c i
      arrays = (λ o. (λ q v t e j _ _ m t' e' j' _ _ m'. let l = m'.0 in (omega arith, λ x. not_both (is_declarator t') x (m'.1 refl), λ x. not_both (may_omit w) o x), tt), λ o. tt)
  kept (declarator_suffixes d s a) c i =
      let n = around_less c in (
        λ q w t e j _ _ m t' e' j' _ _ m'. let l = m'.0 in (omega arith, λ x. m'.1 refl),
        (
          λ q w. (
            λ q' w' t e j _ _ m. (m.0, λ x. m.1 refl),
            λ t e j _ _ m. let o = around_less e in (λ q' w' t' e' j' _ _ m'. let l = m'.0 in (omega arith, λ x. m'.1 refl), tt),
          ),
          (omega arith, λ x. x),
        ),
      )
  kept (abstract_suffixes d s a) c i = (λ q w t e j _ _ m t' e' j' _ _ m'. let l = m'.0 in (omega arith, λ x. m'.1 refl), (omega arith, λ x. x))
  kept (size d) c i = (λ q w. omega arith, λ t e j _ _ m. (λ q w. m, tt))
  kept (parameters d) c i = λ t e j _ _ m t' e' j' _ _ m'. omega arith
  kept (more_parameters d s a) c i = (λ q w. (λ q' w'. omega arith, λ t e j _ _ m t' e' j' _ _ m'. omega arith), omega arith)
  kept (parameter d) c i = λ t e j _ _ m. (
    λ t' e' j' _ _ m'.
        let l = m'.0 in let o = around_less e' in
        (λ y. let n = m'.1 y in entered_more (length c) (brought us j' (past_part (past_part fresh t) t').name (past_part (past_part fresh t) t').type_name) (around e') (omega arith), λ y. omega arith),
    m,
  )
  kept (unit l d) c i = λ t e j _ _ m t' e' j' _ _ m'. omega arith
  kept (externals l d x) c i = (λ t e j _ _ m t' e' j' _ _ m'. omega arith, omega arith)
  kept (external l d) c i = λ t e j _ _ m. (
    λ q w. m,
    λ a e' j' _ _ m'.
        let n = m'.1 (m'.2 refl) in
        let o = around_less e' in
        let k = entered_more (length c) (brought us j' (past_part (past_part fresh t) a).name (past_part (past_part fresh t) a).type_name) (around e') (omega arith) in
        ((λ y b f k' _ _ m''. let o' = around_less f in omega arith, λ y. tt), declared_kept (length c) (past_part fresh t) d i (t & none) j a e' j' (omega arith)),
  )
  kept (declaration d) c i = λ t e j _ _ m. rest_kept d i t (length c) e j m
  kept (init_declarators h d s x) c i = λ a e j _ _ m. declared_kept (length c) h d s x i a e j (m.1 (m.2 refl))
  kept (initialized d q a) c i = (λ q' w t e j _ _ m. m, omega arith)
  kept (initializer d) c i = (λ q w t e j _ _ m. m, λ t e j _ _ m. m)
  kept (initializers d s x) c i = λ t e j _ _ m. (λ q w. (λ q' w'. m, λ t' e' j' _ _ m'. omega arith), (λ q w. m, tt))
  kept (statement l d) c i = (
    λ y. (
      λ q w t e j _ _ m. (λ q' w' t' e' j' _ _ m'. omega arith, tt),
      ((λ q w. (λ q' w' t' e' j' _ _ m'. m', tt)), unlabelled_kept l d i c i),
    ),
    λ y. unlabelled_kept l d i c i,
  )
  kept (block l d) c i = λ t e j _ _ m. let o = around_less e in omega arith
  kept (if_rest l d s) c i = (
    λ q w t e j _ _ m. (
      λ q' w' b e' j' _ _ m'. let o = around_less e' in (λ y. omega arith, λ y. (λ q'' w'' b' e'' j'' _ _ m''. let o' = around_less e'' in omega arith, omega arith)),
      tt,
    ),
    tt,
  )
  kept (switch_rest l d s) c i = (λ q w t e j _ _ m. (λ q' w' b f k _ _ m'. let o = around_less f in let o' = around_less (around f) in omega arith, tt), tt)
  kept (while_rest l d s) c i = (λ q w t e j _ _ m. (λ q' w' b f k _ _ m'. let o = around_less f in omega arith, tt), tt)
  kept (do_rest l d s) c i = λ a e j _ _ m. (λ q w. (λ q' w' b f k _ _ m'. (λ q1 w1. (λ q2 w2. let o = around_less f in omega arith, tt), tt), tt), tt)
  kept (for_rest l d s) c i = (λ q w. (λ t e j _ _ m t' e' j' _ _ m'. omega arith, λ t e j _ _ m t' e' j' _ _ m'. omega arith), tt)
  kept (for_clauses l d s x) c i = λ t e j _ _ m. (
    λ q w b f k _ _ m'. let o = around_less f in omega arith,
    λ u e' j' _ _ m'. (λ q w b f k _ _ m''. let o = around_less f in omega arith, tt),
  )
  kept (clause d) c i = (λ q w. omega arith, λ t e j _ _ m. (λ q w. m, tt))
  kept (return_rest d s) c i = (λ q w. omega arith, λ t e j _ _ m. (λ q w. m, tt))
  kept (compound l d) c i = (λ q w t e j _ _ m. let o = around_less e in omega arith, tt)
  kept (items l d s x) c i = (λ q w. omega arith, λ t e j _ _ m t' e' j' _ _ m'. omega arith)
  kept (item l d) c i = (λ t e j _ _ m. (λ y. marked_kept l d i (declaration_rest d i t) (length c) e j m (rest_kept d i t (length c) e j m), λ y. rest_kept d i t (length c) e j m), λ t e j _ _ m. m)

pub runs_kept : {ts : List Lexeme} {limit : Limit} (g : Goal) (c e : Scopes) (i j : ℕ) (t : Trees) → Runs body ts limit (body g) c i (Done t e j) → Kept g c i t e j
runs_kept {ts = ts} {limit = limit} g c e i j t h =
    gives body ts ts limit limit Nothing Kept (λ g c e i j t h. tt) (kept ts limit) h (Kept g c i) (λ n lt. refl) (λ a n d lt w. w) (kept ts limit g c i)
