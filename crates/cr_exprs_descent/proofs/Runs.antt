-- Steps of the machine's runs as the parser's functions take them.
use Rattle.std.proofs.Common.{◌≡◌, ℕ, zero, suc, ◌+◌, ◌-◌, ◌<◌, ◌≤◌, Bool, true, false, List, [], ◌∷◌, Option, None, Some, Result, Ok, Err, length, refl, sym, ap, subst, ◌∙◌, arith, below_more}
use Rattle.std.specs.Prelude.{IfOk, IfErr, IsErrAnd, if◌then◌else◌}
use Rattle.cr_syntax.specs.declared.word.Word.{Word}
use Rattle.cr_syntax.specs.declared.word.Word.TheVariants as word
use Rattle.cr_syntax.specs.declared.node.Kind.{Kind}
use Rattle.cr_syntax.specs.declared.node.Node.{Node}
use Rattle.cr_syntax.specs.Words.{Lexeme, word_at}
use Rattle.cr_syntax.specs.declared.part.Part.{Part}
use Rattle.cr_syntax.specs.declared.part.Part.TheVariants as part
use Rattle.cr_syntax.specs.declared.part.Context.{Context}
use Rattle.cr_syntax.specs.declared.node.Kind.TheVariants as kind
use Rattle.cr_syntax.specs.Context.{past_part, is_bare}
use Rattle.cr_syntax.specs.declared.scopes.TypeName.{TypeName}
use Rattle.cr_syntax.specs.Scopes.{Scopes, enter}
use Rattle.cr_syntax.specs.Trees.{Trees, none, one, ◌&◌}
use Rattle.cr_syntax.specs.Reads.{is_word, is_qualifier, same_word}
use Rattle.cr_syntax.specs.Units.{Refusal}
use Rattle.cr_syntax_machine.specs.Machine as m
use Rattle.cr_syntax_machine.specs.Machine.{Goal, Prog, Test, Manner, opens, Reply, Done, Failed, Cause, too_deep, Allows, passes, brought, around, choose, made, drops, bring, binary, cast, texts, qualifiers, more, member_declarators, give, call, take, peek, when, the, plain, run_give, run_take, run_pass, run_call, run_fail, run_yes, run_no, run_seen, run_here, run_look, run_set, run_bring}
use Rattle.cr_syntax_machine.specs.MachineBody.{body, tighter, may_omit, declarator_start, is_declarator, pointer_end}
use Rattle.cr_exprs_descent.specs.declared.fault.ParseFault.{ParseFault}
use Rattle.cr_exprs_descent.specs.declared.fault.ParseFault.TheVariants.{NoMemory, TooDeep}
use Rattle.cr_exprs_descent.specs.declared.found.Found.{Found}
use Rattle.cr_exprs_descent.specs.Tables.{kind_of, kind_of_word, next_level}
use Rattle.cr_exprs_descent.specs.Answers.{RunsTo, Gives, Goes, Refuses, Comes, Reads, IsRefusal, refusal_in, tree}
use Rattle.cr_exprs_descent.specs.Parts.{entered, PointsOn}

texts_to : (ts : List Lexeme) (d : ℕ) (c : Scopes) (n i j : ℕ) → i + n ≡ j → ((k : ℕ) → i ≤ k → k < j → is_word ts k word.Text ≡ true) → is_word ts j word.Text ≡ false → RunsTo ts (body (texts d)) c i (Done none c j)
texts_to ts d c zero i j e f o = let same : j ≡ i = omega arith in run_pass (subst (λ x. is_word ts x word.Text ≡ false) same o) (subst (λ x. RunsTo ts (give none) c i (Done none c x)) (sym same) run_give)
texts_to ts d c (suc n) i j e f o = run_take (f i (omega arith) (omega arith)) tt (run_call (texts_to ts d c n (i + 1) j (omega arith) (λ k a b. f k (omega arith) b) o) run_give)

qualifiers_to : (ts : List Lexeme) (d : ℕ) (c : Scopes) (n i j : ℕ) → i + n ≡ j → ((k : ℕ) → i ≤ k → k < j → is_qualifier ts k ≡ true) → is_qualifier ts j ≡ false → RunsTo ts (body (qualifiers d)) c i (Done none c j)
qualifiers_to ts d c zero i j e f o = let same : j ≡ i = omega arith in run_pass (subst (λ x. is_qualifier ts x ≡ false) same o) (subst (λ x. RunsTo ts (give none) c i (Done none c x)) (sym same) run_give)
qualifiers_to ts d c (suc n) i j e f o = run_take (f i (omega arith) (omega arith)) tt (run_call (qualifiers_to ts d c n (i + 1) j (omega arith) (λ k a b. f k (omega arith) b) o) run_give)

-- a run of string literals, and one of type qualifiers
pub read_texts : (ts : List Lexeme) (i j : ℕ) → i ≤ j → ((k : ℕ) → i ≤ k → k < j → is_word ts k word.Text ≡ true) → is_word ts j word.Text ≡ false → (d : ℕ) (c : Scopes) → Gives ts (body (texts d)) c i none c j
read_texts ts i j le f o d c = record { run = texts_to ts d c (j - i) i j (omega arith) f o }

pub read_qualifiers : (ts : List Lexeme) (i j : ℕ) → i ≤ j → ((k : ℕ) → i ≤ k → k < j → is_qualifier ts k ≡ true) → is_qualifier ts j ≡ false → (d : ℕ) (c : Scopes) → Gives ts (body (qualifiers d)) c i none c j
read_qualifiers ts i j le f o d c = record { run = qualifiers_to ts d c (j - i) i j (omega arith) f o }

pub qualifiers_more : (ts : List Lexeme) (i j : ℕ) → ((k : ℕ) → i ≤ k → k < j → is_qualifier ts k ≡ true) → is_qualifier ts j ≡ true → (k : ℕ) → i ≤ k → k < j + 1 → is_qualifier ts k ≡ true
qualifiers_more ts i j f h k a b = below_more (λ x. i ≤ x → is_qualifier ts x ≡ true) j (λ x lt le. f x le lt) (λ _. h) k b a

pub span_more : (ts : List Lexeme) (i j : ℕ) (w : Word) → ((k : ℕ) → i ≤ k → k < j → is_word ts k w ≡ true) → is_word ts j w ≡ true → (k : ℕ) → i ≤ k → k < j + 1 → is_word ts k w ≡ true
span_more ts i j w f h k a b = below_more (λ x. i ≤ x → is_word ts x w ≡ true) j (λ x lt le. f x le lt) (λ _. h) k b a

-- Exits of the parser's functions.

some_same : {x y : Refusal} → Some x ≡ Some y → x ≡ y
some_same q = cc

-- a callee's failure is the caller's
pub fails : {ts : List Lexeme} {p q : Prog} {c e : Scopes} {i j : ℕ} {f : ParseFault} → Refuses ts q e j f → ((x : Cause) (k : ℕ) → RunsTo ts q e j (Failed x k) → RunsTo ts p c i (Failed x k)) → Refuses ts p c i f
fails h path = record { run = λ x q. let w = h.run x q in record { cause = w.cause; at = w.at; run = path w.cause w.at w.run; is = w.is } }

-- a refusal is the program's failure
pub stops : {ts : List Lexeme} {p : Prog} {c : Scopes} {i k : ℕ} {f : ParseFault} {x : Cause} → IsRefusal f x k → RunsTo ts p c i (Failed x k) → Refuses ts p c i f
stops {k = k} {x = x} h run = record { run = λ y q. record { cause = x; at = k; run = run; is = some_same (sym h.is ∙ q) } }

pub deep : {ts : List Lexeme} {p : Prog} {c : Scopes} {i k : ℕ} {f : ParseFault} → f ≡ TooDeep k → RunsTo ts p c i (Failed too_deep k) → Refuses ts p c i f
deep {k = k} q run = stops {k = k} {x = too_deep} (record { is = ap refusal_in q }) run

pub no_memory : {ts : List Lexeme} {p : Prog} {c : Scopes} {i : ℕ} {f : ParseFault} → f ≡ NoMemory → Refuses ts p c i f
no_memory {ts} {p} {c} {i} {f} q = subst (λ z. Refuses ts p c i z) (sym q) (record { run = λ y r. absurd cc })

-- a failure that is handed on
pub exit : {A : Type 0} {ts : List Lexeme} {p : Prog} {c : Scopes} {i : ℕ} {Q : A → Type 0} (r : Result A ParseFault) (f : ParseFault) → IsErrAnd r (λ g. g ≡ f) → Refuses ts p c i f → Comes ts p c i Q r
exit (Ok x) f h k = absurd h
exit {A} {ts} {p} {c} {i} {Q} (Err g) f h k = record { is = subst (λ z. Refuses ts p c i z) (sym h) k }

-- the last call's failure for want of memory, and its node
pub finish : {ts : List Lexeme} {p : Prog} {c e : Scopes} {i n : ℕ} {t : Trees} (nodes : List Node) (r : Result Found ParseFault) → IfErr r (λ f. f ≡ NoMemory) → IfOk r (λ x. x.next ≡ n) → IfOk r (λ x. tree nodes x.node ≡ t) →
    RunsTo ts p c i (Done t e n) → Comes ts p c i (λ x. Gives ts p c i (tree nodes x.node) e x.next) r
finish {ts} {p} {c} {e} {i} {n} {t} nodes (Ok x) m q u run = record { is = record { run = subst (λ z. RunsTo ts p c i (Done z e x.next)) (sym u) (subst (λ z. RunsTo ts p c i (Done t e z)) (sym q) run) } }
finish nodes (Err f) m q u run = record { is = no_memory m }

-- and where a loop's program goes on with the node
pub goes_on : {ts : List Lexeme} {q : Prog} {c e : Scopes} {i n : ℕ} {t : Trees} (p : Trees → Prog) (nodes : List Node) (r : Result Found ParseFault) → IfErr r (λ f. f ≡ NoMemory) → IfOk r (λ x. x.next ≡ n) → IfOk r (λ x. tree nodes x.node ≡ t) →
    Goes ts q c i (p t) e n → Comes ts q c i (λ x. Goes ts q c i (p (tree nodes x.node)) e x.next) r
goes_on {ts} {q} {c} {e} {i} {n} {t} p nodes (Ok x) m k u g = record { is = subst (λ z. Goes ts q c i (p z) e x.next) (sym u) (subst (λ z. Goes ts q c i (p t) e z) (sym k) g) }
goes_on p nodes (Err f) m k u g = record { is = no_memory m }

-- what a callee that is called last answers
pub through : {A : Type 0} {ts : List Lexeme} {p q : Prog} {c e f : Scopes} {i j : ℕ} {t : A → Trees} {n : A → ℕ} (r : Result A ParseFault) → ((y : Reply) → RunsTo ts q e j y → RunsTo ts p c i y) →
    Comes ts q e j (λ x. Gives ts q e j (t x) f (n x)) r → Comes ts p c i (λ x. Gives ts p c i (t x) f (n x)) r
through (Ok x) path h = record { is = record { run = path _ h.is.run } }
through (Err g) path h = record { is = fails h.is (λ x k. path (Failed x k)) }

-- the answer of a goal is that of a program that calls it and gives it on
pub handed : {ts : List Lexeme} {g : Goal} {c : Scopes} {i : ℕ} (y : Reply) → RunsTo ts (body g) c i y → RunsTo ts (call g give) c i y
handed (Done t e j) h = run_call h run_give
handed (Failed x k) h = run_fail h

-- The words of a table.

pub word_is : (ts : List Lexeme) (i : ℕ) (w v : Word) → word_at ts i ≡ Some w → is_word ts i v ≡ same_word w v
word_is ts i w v q = ap (λ (o : Option Word). elim o [ None ↦ false | Some x ↦ same_word x v ]) q

word_none : (ts : List Lexeme) (i : ℕ) (v : Word) → word_at ts i ≡ None → is_word ts i v ≡ false
word_none ts i v q = ap (λ (o : Option Word). elim o [ None ↦ false | Some x ↦ same_word x v ]) q

chosen_step : (ts : List Lexeme) (r : Word × Kind) (rs : List (Word × Kind)) (k : Kind) (i : ℕ) (w : Word) → word_at ts i ≡ Some w → (b : Bool) → same_word w r.0 ≡ b → (if b then Some r.1 else kind_of_word rs w) ≡ Some k → (m : Manner) (d : ℕ) (f : Kind → Prog) (q : Prog) (c : Scopes) (y : Reply) →
    ((x : Test) (z : Prog) → passes ts c i x ≡ true → RunsTo ts (take m x d (f k) z) c i y) →
    (kind_of_word rs w ≡ Some k → RunsTo ts (choose m rs d f q) c i y) → RunsTo ts (choose m (r ∷ rs) d f q) c i y
chosen_step ts r rs k i w at true b h m d f q c y path rest =
    let same : r.1 ≡ k = cc in
    subst (λ x. RunsTo ts (take m (the r.0) d (f x) (choose m rs d f q)) c i y) (sym same) (path (the r.0) (choose m rs d f q) (word_is ts i w r.0 at ∙ b))
chosen_step ts r rs k i w at false b h m d f q c y path rest = run_pass (word_is ts i w r.0 at ∙ b) (rest h)

chosen_word : (ts : List Lexeme) (table : List (Word × Kind)) (k : Kind) (i : ℕ) (w : Word) → word_at ts i ≡ Some w → kind_of_word table w ≡ Some k → (m : Manner) (d : ℕ) (f : Kind → Prog) (q : Prog) (c : Scopes) (y : Reply) →
    ((x : Test) (z : Prog) → passes ts c i x ≡ true → RunsTo ts (take m x d (f k) z) c i y) → RunsTo ts (choose m table d f q) c i y
chosen_word ts [] k i w at h m d f q c y path = absurd cc
chosen_word ts (r ∷ rs) k i w at h m d f q c y path =
    chosen_step ts r rs k i w at (same_word w r.0) refl h m d f q c y path (λ h'. chosen_word ts rs k i w at h' m d f q c y path)

chosen_in : (ts : List Lexeme) (table : List (Word × Kind)) (k : Kind) (i : ℕ) (o : Option Word) → word_at ts i ≡ o → kind_of table o ≡ Some k → (m : Manner) (d : ℕ) (f : Kind → Prog) (q : Prog) (c : Scopes) (y : Reply) →
    ((x : Test) (z : Prog) → passes ts c i x ≡ true → RunsTo ts (take m x d (f k) z) c i y) → RunsTo ts (choose m table d f q) c i y
chosen_in ts table k i None at h m d f q c y path = absurd cc
chosen_in ts table k i (Some w) at h m d f q c y path = chosen_word ts table k i w at h m d f q c y path

-- the word of a table stands here
pub chosen_here : {ts : List Lexeme} {k : Kind} {i : ℕ} {c : Scopes} {y : Reply} (m : Manner) (table : List (Word × Kind)) (d : ℕ) (f : Kind → Prog) (q : Prog) → kind_of table (word_at ts i) ≡ Some k →
    ((x : Test) (z : Prog) → passes ts c i x ≡ true → RunsTo ts (take m x d (f k) z) c i y) → RunsTo ts (choose m table d f q) c i y
chosen_here {ts} {k} {i} {c} {y} m table d f q h path = chosen_in ts table k i (word_at ts i) refl h m d f q c y path

other_step : (ts : List Lexeme) (r : Word × Kind) (rs : List (Word × Kind)) (i : ℕ) (w : Word) → word_at ts i ≡ Some w → (b : Bool) → same_word w r.0 ≡ b → (if b then Some r.1 else kind_of_word rs w) ≡ None → (m : Manner) (d : ℕ) (f : Kind → Prog) (q : Prog) (c : Scopes) (y : Reply) →
    (kind_of_word rs w ≡ None → RunsTo ts (choose m rs d f q) c i y) → RunsTo ts (choose m (r ∷ rs) d f q) c i y
other_step ts r rs i w at true b h m d f q c y rest = absurd cc
other_step ts r rs i w at false b h m d f q c y rest = run_pass (word_is ts i w r.0 at ∙ b) (rest h)

chosen_other : (ts : List Lexeme) (table : List (Word × Kind)) (i : ℕ) (o : Option Word) → word_at ts i ≡ o → kind_of table o ≡ None → (m : Manner) (d : ℕ) (f : Kind → Prog) (q : Prog) (c : Scopes) (y : Reply) → RunsTo ts q c i y → RunsTo ts (choose m table d f q) c i y
chosen_other ts [] i o at h m d f q c y run = run
chosen_other ts (r ∷ rs) i None at h m d f q c y run = run_pass (word_none ts i r.0 at) (chosen_other ts rs i None at refl m d f q c y run)
chosen_other ts (r ∷ rs) i (Some w) at h m d f q c y run =
    other_step ts r rs i w at (same_word w r.0) refl h m d f q c y (λ h'. chosen_other ts rs i (Some w) at h' m d f q c y run)

-- and none of the words of a table
pub chosen_none : {ts : List Lexeme} {i : ℕ} {c : Scopes} {y : Reply} (m : Manner) (table : List (Word × Kind)) (d : ℕ) (f : Kind → Prog) (q : Prog) → kind_of table (word_at ts i) ≡ None → RunsTo ts q c i y → RunsTo ts (choose m table d f q) c i y
chosen_none {ts} {i} {c} {y} m table d f q h run = chosen_other ts table i (word_at ts i) refl h m d f q c y run

-- a run of a goal whose trees and place are spelled otherwise
pub shift : {ts : List Lexeme} {t u : Trees} {e : Scopes} {j k : ℕ} {y : Reply} (p : Trees → Prog) → t ≡ u → j ≡ k → RunsTo ts (p t) e j y → RunsTo ts (p u) e k y
shift {ts} {t} {u} {e} {j} {k} {y} p q r h = subst (λ x. RunsTo ts (p x) e k y) q (subst (λ x. RunsTo ts (p t) e x y) r h)

-- the same of what it is done with
pub done_as : {ts : List Lexeme} {p : Prog} {c e : Scopes} {i j : ℕ} {t u : Trees} → u ≡ t → RunsTo ts p c i (Done t e j) → RunsTo ts p c i (Done u e j)
done_as {ts} {p} {c} {e} {i} {j} {t} {u} q h = subst (λ x. RunsTo ts p c i (Done x e j)) (sym q) h

pub memory : {A : Type 0} {ts : List Lexeme} {p : Prog} {c : Scopes} {i : ℕ} {Q : A → Type 0} (r : Result A ParseFault) → IsErrAnd r (λ g. g ≡ NoMemory) → Comes ts p c i Q r
memory r h = exit r NoMemory h (no_memory refl)

-- a run in scopes that are spelled otherwise, and one that ends in such
pub run_in : {ts : List Lexeme} {p : Prog} {c e : Scopes} {i : ℕ} {y : Reply} → c ≡ e → RunsTo ts p c i y → RunsTo ts p e i y
run_in {ts} {p} {c} {e} {i} {y} q h = subst (λ x. RunsTo ts p x i y) q h

pub done_in : {ts : List Lexeme} {p : Prog} {c e f : Scopes} {i j : ℕ} {t : Trees} → f ≡ e → RunsTo ts p c i (Done t e j) → RunsTo ts p c i (Done t f j)
done_in {ts} {p} {c} {e} {f} {i} {j} {t} q h = subst (λ x. RunsTo ts p c i (Done t x j)) (sym q) h

pub done_at : {ts : List Lexeme} {p : Prog} {c e : Scopes} {i j k : ℕ} {t : Trees} → k ≡ j → RunsTo ts p c i (Done t e j) → RunsTo ts p c i (Done t e k)
done_at {ts} {p} {c} {e} {i} {j} {k} {t} q h = subst (λ x. RunsTo ts p c i (Done t e x)) (sym q) h

-- the limit on nesting
pub no_room : {d : ℕ} → 128 ≤ d → d < 128 → ⊥
no_room le lt = omega arith

-- a goal of the next tighter level
tighter_is : (p q : Part) (d : ℕ) → Some q ≡ next_level p → tighter p d ≡ binary q d
tighter_is part.LogicalOr q d h = let e : q ≡ part.LogicalAnd = cc in ap (λ x. binary x d) (sym e)
tighter_is part.LogicalAnd q d h = let e : q ≡ part.Or = cc in ap (λ x. binary x d) (sym e)
tighter_is part.Or q d h = let e : q ≡ part.Xor = cc in ap (λ x. binary x d) (sym e)
tighter_is part.Xor q d h = let e : q ≡ part.And = cc in ap (λ x. binary x d) (sym e)
tighter_is part.And q d h = let e : q ≡ part.Equality = cc in ap (λ x. binary x d) (sym e)
tighter_is part.Equality q d h = let e : q ≡ part.Relational = cc in ap (λ x. binary x d) (sym e)
tighter_is part.Relational q d h = let e : q ≡ part.Shift = cc in ap (λ x. binary x d) (sym e)
tighter_is part.Shift q d h = let e : q ≡ part.Additive = cc in ap (λ x. binary x d) (sym e)
tighter_is part.Additive q d h = let e : q ≡ part.Multiplicative = cc in ap (λ x. binary x d) (sym e)
tighter_is _ q d h = absurd cc

tightest_is : (p : Part) (d : ℕ) → None ≡ next_level p → tighter p d ≡ cast d
tightest_is part.LogicalOr d h = absurd cc
tightest_is part.LogicalAnd d h = absurd cc
tightest_is part.Or d h = absurd cc
tightest_is part.Xor d h = absurd cc
tightest_is part.And d h = absurd cc
tightest_is part.Equality d h = absurd cc
tightest_is part.Relational d h = absurd cc
tightest_is part.Shift d h = absurd cc
tightest_is part.Additive d h = absurd cc
tightest_is _ d h = refl

pub tighter_some : {ts : List Lexeme} {c e : Scopes} {i : ℕ} {r : Result Found ParseFault} (nodes : List Node) (p q : Part) (d : ℕ) → Some q ≡ next_level p → Reads ts (body (binary q d)) c i nodes e r → Reads ts (body (tighter p d)) c i nodes e r
tighter_some {ts} {c} {e} {i} {r} nodes p q d h k = subst (λ g. Reads ts (body g) c i nodes e r) (sym (tighter_is p q d h)) k

pub tighter_none : {ts : List Lexeme} {c e : Scopes} {i : ℕ} {r : Result Found ParseFault} (nodes : List Node) (p : Part) (d : ℕ) → None ≡ next_level p → Reads ts (body (cast d)) c i nodes e r → Reads ts (body (tighter p d)) c i nodes e r
tighter_none {ts} {c} {e} {i} {r} nodes p d h k = subst (λ g. Reads ts (body g) c i nodes e r) (sym (tightest_is p d h)) k

-- a row of specifiers goes on, in what is said so far and with the trees so far
pub more_shift : {ts : List Lexeme} {p : Part} {h k : Context} {d s i : ℕ} {t u : Trees} {e : Scopes} {y : Reply} → h ≡ k → t ≡ u → RunsTo ts (body (more p h d s t)) e i y → RunsTo ts (body (more p k d s u)) e i y
more_shift {ts} {p} {h} {k} {d} {s} {i} {t} {u} {e} {y} q r run = subst (λ x. RunsTo ts (body (more p x d s u)) e i y) q (subst (λ x. RunsTo ts (body (more p h d s x)) e i y) r run)

pub members_shift : {ts : List Lexeme} {h k : Context} {d s i : ℕ} {t u : Trees} {e : Scopes} {y : Reply} → h ≡ k → t ≡ u → RunsTo ts (body (member_declarators h d s t)) e i y → RunsTo ts (body (member_declarators k d s u)) e i y
members_shift {ts} {h} {k} {d} {s} {i} {t} {u} {e} {y} q r run = subst (λ x. RunsTo ts (body (member_declarators x d s u)) e i y) q (subst (λ x. RunsTo ts (body (member_declarators h d s x)) e i y) r run)

-- a `*` that points to something
points_by : {ts : List Lexeme} {q z : Prog} {c : Scopes} {i : ℕ} {y : Reply} (w : m.Wanted) (b : Bool) → may_omit w ≡ b → (b ≡ true → (e : Scopes) → passes ts e i (declarator_start w) ≡ true) → RunsTo ts q c i y → RunsTo ts (when (may_omit w) (peek (declarator_start w) q z) q) c i y
points_by {ts} {q} {z} {c} {i} {y} w true o f run = run_yes o (run_seen (f refl c) run)
points_by w false o f run = run_no o run

pub points_on : {ts : List Lexeme} {q z : Prog} {c : Scopes} {i : ℕ} {y : Reply} (w : m.Wanted) → PointsOn ts w i → RunsTo ts q c i y → RunsTo ts (when (may_omit w) (peek (declarator_start w) q z) q) c i y
points_on w p run = points_by w (may_omit w) refl p.starts run

pointer_by : {ts : List Lexeme} {c : Scopes} {i s : ℕ} (t : Trees) (b : Bool) → is_declarator t ≡ b → RunsTo ts (pointer_end s t) c i (Done (one (if b then kind.PointerDeclarator else kind.AbstractPointer) s i (t & none)) c i)
pointer_by t true q = run_yes q (run_here run_give)
pointer_by t false q = run_no q (run_here run_give)

pub pointer_ends : {ts : List Lexeme} {c : Scopes} {i s : ℕ} {k : Kind} (t : Trees) → k ≡ (if is_declarator t then kind.PointerDeclarator else kind.AbstractPointer) → RunsTo ts (pointer_end s t) c i (Done (one k s i (t & none)) c i)
pointer_ends {ts} {c} {i} {s} {k} t q = subst (λ x. RunsTo ts (pointer_end s t) c i (Done (one x s i (t & none)) c i)) (sym q) (pointer_by t (is_declarator t) refl)

-- the end of a parameter with a declarator a
parameter_by : {ts : List Lexeme} {c : Scopes} {i s : ℕ} {t : Trees} (h : Context) (a : Trees) (b : Bool) → is_declarator a ≡ b →
    RunsTo ts (when (is_declarator a) (drops (bring (past_part h a).name (past_part h a).type_name (made kind.Parameter s t))) (made kind.Parameter s t)) c i (Done (one kind.Parameter s i t) (if b then enter (brought ts i (past_part h a).name (past_part h a).type_name) (around c) else c) i)
parameter_by h a true q = run_yes q (run_look (run_set (run_bring (run_here run_give))))
parameter_by h a false q = run_no q (run_here run_give)

pub parameter_ends : {ts : List Lexeme} {c e : Scopes} {i s : ℕ} {t : Trees} (h : Context) (a : Trees) → e ≡ entered ts i h a c →
    RunsTo ts (when (is_declarator a) (drops (bring (past_part h a).name (past_part h a).type_name (made kind.Parameter s t))) (made kind.Parameter s t)) c i (Done (one kind.Parameter s i t) e i)
parameter_ends {ts} {c} {e} {i} {s} {t} h a q = done_in q (parameter_by h a (is_declarator a) refl)

-- the scopes on a declarator behind an array's size, and behind a function's parameters
pub own_scopes : {s e : Scopes} {own : List TypeName} (c : Scopes) → s ≡ own ∷ e → own ≡ m.innermost_of c → s ≡ m.innermost_of c ∷ e
own_scopes {s} {e} {own} c q r = q ∙ ap (λ x. x ∷ e) r

pub kept_scopes : {s r : Scopes} {k names own : List TypeName} (b a : Trees) (e c : Scopes) → s ≡ k ∷ r → k ≡ (if is_bare b then names else own) → b ≡ a → names ≡ m.innermost_of e → own ≡ m.innermost_of c → r ≡ around e →
    s ≡ (if is_bare a then m.innermost_of e else m.innermost_of c) ∷ around e
kept_scopes {s} {r} {k} {names} {own} b a e c q v t n o w =
    let first : k ≡ (if is_bare a then m.innermost_of e else m.innermost_of c) =
    v ∙ ap (λ (x : Trees). if is_bare x then names else own) t ∙ ap (λ (x : List TypeName). if is_bare a then x else own) n ∙ ap (λ (x : List TypeName). if is_bare a then m.innermost_of e else x) o in
    q ∙ ap (λ (x : List TypeName). x ∷ r) first ∙ ap (λ (x : Scopes). (if is_bare a then m.innermost_of e else m.innermost_of c) ∷ x) w
