-- The machine reads what is spelled as specifiers, structures, enumerations and type names, where it reads all that is smaller.
use Rattle.std.proofs.Common.{◌≡◌, ℕ, suc, ◌+◌, ◌<◌, Bool, true, false, not, ◌&&◌, ◌||◌, List, [], ◌∷◌, refl, sym, ap, subst, ◌∙◌, arith}
use Rattle.cr_syntax.specs.declared.word.Word.{Word}
use Rattle.cr_syntax.specs.declared.word.Word.TheVariants as word
use Rattle.cr_syntax.specs.declared.node.Kind.{Kind}
use Rattle.cr_syntax.specs.declared.node.Kind.TheVariants as kind
use Rattle.cr_syntax.specs.declared.part.Part.{Part}
use Rattle.cr_syntax.specs.declared.part.Part.TheVariants as part
use Rattle.cr_syntax.specs.Symbols as symbol
use Rattle.cr_syntax.specs.declared.scopes.TypeName.{TypeName}
use Rattle.cr_syntax.specs.declared.part.Context.{Context}
use Rattle.cr_syntax.specs.Words.{Lexeme, spelling_at}
use Rattle.cr_syntax.specs.Scopes.{Scopes, is_type, enter}
use Rattle.cr_syntax.specs.Trees.{Trees, none, one, ◌&◌}
use Rattle.cr_syntax.specs.Context.{fresh, past_part, any_kind, is_type_specifier}
use Rattle.cr_syntax.specs.Grammar.{inner, inner_many, inner_list, list, many, closing, token}
use Rattle.cr_syntax.specs.Grammar as grammar
use Rattle.cr_syntax.specs.Spells.{Limit, Is, Stands, Spells, a, rest}
use Rattle.cr_syntax.specs.Spells as spells
use Rattle.cr_syntax.specs.Reads.{is_word, same_word}
use Rattle.cr_syntax_machine.specs.Machine.{Prog, Reply, Done, plain, give, take, call, made, the, run_give, run_take, run_pass, run_free, run_seen, run_unseen, run_here, run_look, run_set, run_bring, run_call}
use Rattle.cr_syntax_machine.specs.Machine as m
use Rattle.cr_syntax_machine.specs.MachineBody.{body, member_end, other_element, specifier_words, plain_words, storage_words, row_kind, is_plain_start, is_specifier_start, is_abstract_start, element_start, in_row}
use Rattle.cr_syntax_machine_laws.proofs.MachineMeans.{element_part, has_some}
use Rattle.cr_syntax_machine.proofs.MachineSpells.{and_none, and_and, pushed, is_one, forth, brought_is}
use Rattle.cr_syntax_machine_laws.proofs.MachineFirst.{none_true, and_false, later_row, yes, differs, sorted, free_by, lower, fails, all_differ, Row, row_here, row_next, row_found, takes, skips, tail}
use Rattle.cr_syntax_machine_laws.proofs.MachineSound.{part_some, two_in_row}
use Rattle.cr_syntax_machine.proofs.MachineSpells as facts
use Rattle.cr_syntax_machine_laws.proofs.MachineTasks.{measure, Closes, by_paren, by_comma, by_semicolon, by_closing, past_row, Goes, Answers, Completes, Smaller}
use Rattle.cr_syntax_machine_laws.proofs.MachineTasks as task
use Rattle.cr_syntax_machine_laws.proofs.MachineBegins.{type_test, never_element, no_left_brace, no_right_brace, element_first, element_yes, member_first, past_one, row_typed, NamedFirst, by_star, by_name, named_first, UnnamedFirst, at_star, at_paren, at_bracket, unnamed_first}
use Rattle.cr_syntax_machine_laws.proofs.MachineBegins as begin
use Rattle.cr_syntax_machine_laws.proofs.MachineExpressions.{closing_run}
use Rattle.std.proofs.lemmas.Bool.{or_from}

-- Tokens behind a row of specifiers.

no_type : (ts : List Lexeme) (c : Scopes) (i : ℕ) (typed : Bool) → is_word ts i word.Identifier ≡ false → m.passes ts c i (m.type_identifier typed) ≡ false
no_type ts c i typed q = and_false (is_word ts i word.Identifier) (is_type c (spelling_at ts i)) (not typed) q

ends_row : {w : Word} (p : Part) (ts : List Lexeme) (c : Scopes) (i : ℕ) (typed : Bool) → Is ts i w → is_specifier_start w ≡ false → is_plain_start w ≡ false → same_word w word.Identifier ≡ false →
    m.passes ts c i (element_start p typed) ≡ false
ends_row part.Specifiers ts c i typed q x y z = or_from (m.has_word ts i is_specifier_start) (m.passes ts c i (m.type_identifier typed)) (sorted is_specifier_start false q x) (no_type ts c i typed (differs q word.Identifier z))
ends_row _ ts c i typed q x y z = or_from (m.has_word ts i is_plain_start) (m.passes ts c i (m.type_identifier typed)) (sorted is_plain_start false q y) (no_type ts c i typed (differs q word.Identifier z))

pub closes_row : (p : Part) (ts : List Lexeme) (c : Scopes) (i : ℕ) (typed : Bool) → Closes ts i → m.passes ts c i (element_start p typed) ≡ false
closes_row p ts c i typed (by_paren q) = ends_row p ts c i typed q refl refl refl
closes_row p ts c i typed (by_comma q) = ends_row p ts c i typed q refl refl refl
closes_row p ts c i typed (by_semicolon q) = ends_row p ts c i typed q refl refl refl

pub closes_apart : {ts : List Lexeme} {i : ℕ} → Closes ts i → is_word ts i word.LeftBrace ≡ false
closes_apart (by_paren q) = differs q word.LeftBrace refl
closes_apart (by_comma q) = differs q word.LeftBrace refl
closes_apart (by_semicolon q) = differs q word.LeftBrace refl

pub unnamed_row : (p : Part) (ts : List Lexeme) (c : Scopes) (i : ℕ) (typed : Bool) → UnnamedFirst ts i → m.passes ts c i (element_start p typed) ≡ false
unnamed_row p ts c i typed (at_star q) = ends_row p ts c i typed q refl refl refl
unnamed_row p ts c i typed (at_paren q) = ends_row p ts c i typed q refl refl refl
unnamed_row p ts c i typed (at_bracket q) = ends_row p ts c i typed q refl refl refl

pub unnamed_apart : {ts : List Lexeme} {i : ℕ} → UnnamedFirst ts i → is_word ts i word.LeftBrace ≡ false
unnamed_apart (at_star q) = differs q word.LeftBrace refl
unnamed_apart (at_paren q) = differs q word.LeftBrace refl
unnamed_apart (at_bracket q) = differs q word.LeftBrace refl

pub unnamed_start : {ts : List Lexeme} {i : ℕ} → UnnamedFirst ts i → m.has_word ts i is_abstract_start ≡ true
unnamed_start (at_star q) = sorted is_abstract_start true q refl
unnamed_start (at_paren q) = sorted is_abstract_start true q refl
unnamed_start (at_bracket q) = sorted is_abstract_start true q refl

name_no_type : (ts : List Lexeme) (c : Scopes) (i : ℕ) (typed : Bool) → typed || not (is_type c (spelling_at ts i)) ≡ true → m.passes ts c i (m.type_identifier typed) ≡ false
name_no_type ts c i typed g = by (is_word ts i word.Identifier) (is_type c (spelling_at ts i)) typed g
  where
    by : (x y z : Bool) → z || not y ≡ true → x && y && not z ≡ false
    by false y z g = refl
    by true false z g = refl
    by true true true g = refl
    by true true false g = none_true g

pub named_row : (p : Part) (ts : List Lexeme) (c : Scopes) (i : ℕ) (typed : Bool) → NamedFirst ts c i typed → m.passes ts c i (element_start p typed) ≡ false
named_row p ts c i typed (by_star q) = ends_row p ts c i typed q refl refl refl
named_row p ts c i typed (begin.by_paren q) = ends_row p ts c i typed q refl refl refl
named_row part.Specifiers ts c i typed (by_name q g) = or_from (m.has_word ts i is_specifier_start) (m.passes ts c i (m.type_identifier typed)) (sorted is_specifier_start false q refl) (name_no_type ts c i typed g)
named_row _ ts c i typed (by_name q g) = or_from (m.has_word ts i is_plain_start) (m.passes ts c i (m.type_identifier typed)) (sorted is_plain_start false q refl) (name_no_type ts c i typed g)

pub named_apart : {ts : List Lexeme} {c : Scopes} {i : ℕ} {typed : Bool} → NamedFirst ts c i typed → is_word ts i word.LeftBrace ≡ false
named_apart (by_star q) = differs q word.LeftBrace refl
named_apart (begin.by_paren q) = differs q word.LeftBrace refl
named_apart (by_name q g) = differs q word.LeftBrace refl

-- Tables.

pub plain_row : {w : Word} {k : Kind} (p : Part) → all_differ w storage_words ≡ true → Row w k plain_words → Row w k (specifier_words p)
plain_row part.Specifiers q x = later_row storage_words plain_words q x
plain_row _ q x = x

struct_apart : (p : Part) → all_differ word.Struct (specifier_words p) ≡ true
struct_apart part.Specifiers = refl
struct_apart _ = refl

enum_apart : (p : Part) → all_differ word.Enum (specifier_words p) ≡ true
enum_apart part.Specifiers = refl
enum_apart _ = refl

name_apart : (p : Part) → all_differ word.Identifier (specifier_words p) ≡ true
name_apart part.Specifiers = refl
name_apart _ = refl

-- a typedef name is read as a row of specifiers, where a colon stands behind it
pub name_row : {ts : List Lexeme} {limit : Limit} {d i : ℕ} {c : Scopes} → m.passes ts c i (m.type_identifier false) ≡ true → Is ts i word.Identifier → Stands limit i d → Is ts (i + 1) word.Colon →
    Answers ts limit (m.row part.Specifiers fresh d) c i (one kind.TypedefName i (i + 1) none) c (i + 1)
name_row {ts = ts} {limit = limit} {d = d} {i = i} {c = c} y q w q' = run_here (run_call
    (run_here (skips body ts limit (specifier_words part.Specifiers) m.plain d (λ k. made k i none) (other_element fresh d i) q refl
    (run_pass (differs q word.Struct refl) (run_pass (differs q word.Enum refl) (run_take y w (run_here run_give))))))
    (tail (run_unseen (ends_row part.Specifiers ts c (i + 1) true q' refl refl refl) (run_here run_give))))

-- one specifier alone makes no node
in_row_one : {ts : List Lexeme} {limit : Limit} {q : Part} {h : Context} {c e : Scopes} {d i j : ℕ} {t : Trees} → Spells ts limit (a q) h c e d t i j → (p : Part) (s k : ℕ) → in_row p s k (t & none) ≡ t
in_row_one x p s k = let w = is_one x in subst (λ y. in_row p s k (y & none) ≡ y) (sym w.2) refl

module _ (ts : List Lexeme) (limit : Limit) where
  module _ (n : ℕ) (b : Smaller ts limit n) where
    -- a word that is a specifier by itself
    pub word_reads : (p : Part) (h : Context) (d : ℕ) {w : Word} {k : Kind} {c : Scopes} {i : ℕ} → Row w k (specifier_words p) → Is ts i w → Stands limit i d → Answers ts limit (m.element p h d) c i (one k i (i + 1) none) c (i + 1)
    word_reads p h d {i = i} row q w = run_here (takes body ts limit row plain d (λ k. made k i none) (other_element h d i) q w (run_here run_give))

    -- members behind `{`, and enumerators
    members_go : {h : Context} {c e : Scopes} {d s i j : ℕ} {t : Trees} (x : Spells ts limit (rest (inner part.MemberDeclaration ∷ inner_many part.MemberDeclaration ∷ closing word.RightBrace ∷ [])) h c e d t i j) → measure x < n →
        Answers ts limit (m.members d s none) c i (one kind.StructContent s j t) e j
    members_go {c = c} {e = e} {d = d} {s = s} {i = i} {j = j} (spells.part {t = t} {u = u} x y) lt =
        subst (λ z. Answers ts limit (m.members d s none) c i (one kind.StructContent s j z) e j) (and_and t none u)
        (run_call (b.read task.member x (omega arith)) (b.read task.members y (omega arith) s (t & none)))

    in_struct : (p : Part) (h : Context) {c e : Scopes} {d i j : ℕ} {t : Trees} → Is ts i word.Struct → Stands limit i d → Answers ts limit (m.structure d i) c (i + 1) t e j → Answers ts limit (m.element p h d) c i t e j
    in_struct p h {d = d} {i = i} q w x = run_here (skips body ts limit (specifier_words p) plain d (λ k. made k i none) (other_element h d i) q (struct_apart p) (run_take (yes q) w (tail x)))

    in_enum : (p : Part) (h : Context) {c e : Scopes} {d i j : ℕ} {t : Trees} → Is ts i word.Enum → Stands limit i d → Answers ts limit (m.enumeration d i) c (i + 1) t e j → Answers ts limit (m.element p h d) c i t e j
    in_enum p h {d = d} {i = i} q w x = run_here (skips body ts limit (specifier_words p) plain d (λ k. made k i none) (other_element h d i) q (enum_apart p) (run_pass (differs q word.Struct refl) (run_take (yes q) w (tail x))))

    word_plain : (p : Part) (h : Context) {h' : Context} {c e : Scopes} {d i j : ℕ} {t : Trees} {w : Word} {k : Kind} → Row w k (specifier_words p) → Spells ts limit (rest (token w ∷ [])) h' c e d t i j →
        Answers ts limit (m.element p h d) c i (one k i j t) e j
    word_plain p h {d = d} row (spells.token q w spells.done) = word_reads p h d row q w

    plain_reads : (p : Part) {h : Context} {c e : Scopes} {d i j : ℕ} {t : Trees} (s : Spells ts limit (a part.Plain) h c e d t i j) → measure s < suc n → is_word ts j word.LeftBrace ≡ false → Answers ts limit (m.element p h d) c i t e j
    plain_reads p (spells.of_chain x f s) lt nb = elim x [ ]
    plain_reads p {h = h} (spells.of_alternative grammar.qualifier_const f s) lt nb = word_plain p h (plain_row p refl (row_found plain_words {w = word.Const} {k = kind.Const} refl)) s
    plain_reads p {h = h} (spells.of_alternative grammar.qualifier_volatile f s) lt nb = word_plain p h (plain_row p refl (row_found plain_words {w = word.Volatile} {k = kind.Volatile} refl)) s
    plain_reads p {h = h} (spells.of_alternative grammar.type_void f s) lt nb = word_plain p h (plain_row p refl (row_found plain_words {w = word.Void} {k = kind.Void} refl)) s
    plain_reads p {h = h} (spells.of_alternative grammar.type_char f s) lt nb = word_plain p h (plain_row p refl (row_found plain_words {w = word.Char} {k = kind.Char} refl)) s
    plain_reads p {h = h} (spells.of_alternative grammar.type_short f s) lt nb = word_plain p h (plain_row p refl (row_found plain_words {w = word.Short} {k = kind.Short} refl)) s
    plain_reads p {h = h} (spells.of_alternative grammar.type_int f s) lt nb = word_plain p h (plain_row p refl (row_found plain_words {w = word.Int} {k = kind.Int} refl)) s
    plain_reads p {h = h} (spells.of_alternative grammar.type_long f s) lt nb = word_plain p h (plain_row p refl (row_found plain_words {w = word.Long} {k = kind.Long} refl)) s
    plain_reads p {h = h} (spells.of_alternative grammar.type_signed f s) lt nb = word_plain p h (plain_row p refl (row_found plain_words {w = word.Signed} {k = kind.Signed} refl)) s
    plain_reads p {h = h} (spells.of_alternative grammar.type_unsigned f s) lt nb = word_plain p h (plain_row p refl (row_found plain_words {w = word.Unsigned} {k = kind.Unsigned} refl)) s
    plain_reads p {h = h} (spells.of_alternative grammar.type_bool f s) lt nb = word_plain p h (plain_row p refl (row_found plain_words {w = word.Bool} {k = kind.Bool} refl)) s
    plain_reads p {h = h} (spells.of_alternative grammar.struct_content f (spells.token q w (spells.tag_none q' w' s))) lt nb =
        in_struct p h q w (run_pass (differs q' word.Identifier refl) (run_take (yes q') w' (tail (members_go s (omega arith)))))
    plain_reads p {h = h} (spells.of_alternative grammar.struct_content f (spells.token q w (spells.tag_some q' w' q'' w'' s))) lt nb =
        in_struct p h q w (run_take (yes q') w' (run_take (yes q'') w'' (tail (members_go s (omega arith)))))
    plain_reads p {h = h} (spells.of_alternative grammar.struct_tag f (spells.token q w (spells.token q' w' spells.done))) lt nb =
        in_struct p h q w (run_take (yes q') w' (run_pass nb (run_here run_give)))
    plain_reads p {h = h} {i = i} (spells.of_alternative grammar.enum_content f (spells.token q w (spells.tag_none q' w' s))) lt nb =
        in_enum p h q w (run_pass (differs q' word.Identifier refl) (run_take (yes q') w' (tail (b.read task.enumerators s (omega arith) i none))))
    plain_reads p {h = h} {i = i} (spells.of_alternative grammar.enum_content f (spells.token q w (spells.tag_some q' w' q'' w'' s))) lt nb =
        in_enum p h q w (run_take (yes q') w' (run_take (yes q'') w'' (tail (b.read task.enumerators s (omega arith) i none))))
    plain_reads p {h = h} (spells.of_alternative grammar.enum_tag f (spells.token q w (spells.token q' w' spells.done))) lt nb =
        in_enum p h q w (run_take (yes q') w' (run_pass nb (run_here run_give)))
    plain_reads p {h = h} {c = c} {d = d} {i = i} (spells.of_alternative grammar.typedef_name f (spells.type_identifier q v w spells.done)) lt nb =
        run_here (skips body ts limit (specifier_words p) plain d (λ k. made k i none) (other_element h d i) q.0 (name_apart p)
        (run_pass (differs q.0 word.Struct refl) (run_pass (differs q.0 word.Enum refl) (run_take (type_test ts c i h.typed q v) w (run_here run_give)))))

    specifier_reads : {h : Context} {c e : Scopes} {d i j : ℕ} {t : Trees} (s : Spells ts limit (a part.Specifier) h c e d t i j) → measure s < suc n → is_word ts j word.LeftBrace ≡ false →
        Answers ts limit (m.element part.Specifiers h d) c i t e j
    specifier_reads (spells.of_chain grammar.specifier_plain f s) lt nb = plain_reads part.Specifiers s (omega arith) nb
    specifier_reads {h = h} {d = d} (spells.of_alternative grammar.specifier_typedef f (spells.token q w spells.done)) lt nb = word_reads part.Specifiers h d row_here q w
    specifier_reads {h = h} {d = d} (spells.of_alternative grammar.specifier_extern f (spells.token q w spells.done)) lt nb = word_reads part.Specifiers h d (row_next refl row_here) q w
    specifier_reads {h = h} {d = d} (spells.of_alternative grammar.specifier_static f (spells.token q w spells.done)) lt nb = word_reads part.Specifiers h d (row_next refl (row_next refl row_here)) q w
    specifier_reads {h = h} {d = d} (spells.of_alternative grammar.specifier_auto f (spells.token q w spells.done)) lt nb = word_reads part.Specifiers h d (row_next refl (row_next refl (row_next refl row_here))) q w
    specifier_reads {h = h} {d = d} (spells.of_alternative grammar.specifier_register f (spells.token q w spells.done)) lt nb = word_reads part.Specifiers h d (row_next refl (row_next refl (row_next refl (row_next refl row_here)))) q w
    specifier_reads {h = h} {d = d} (spells.of_alternative grammar.specifier_inline f (spells.token q w spells.done)) lt nb = word_reads part.Specifiers h d (row_next refl (row_next refl (row_next refl (row_next refl (row_next refl row_here))))) q w

    pub element_reads : (p : Part) {h : Context} {c e : Scopes} {d i j : ℕ} {t : Trees} (s : Spells ts limit (a (element_part p)) h c e d t i j) → measure s < suc n → Completes ts limit (task.element p) h c e d t i j
    element_reads part.Specifiers s lt = specifier_reads s lt
    element_reads p s lt = λ nb. plain_reads p s lt nb

    -- what stands behind an element of a row
    elements_apart : (p : Part) {h : Context} {c e : Scopes} {d i j : ℕ} {t : Trees} → Spells ts limit (rest (many (element_part p) ∷ [])) h c e d t i j → is_word ts j word.LeftBrace ≡ false → is_word ts i word.LeftBrace ≡ false
    elements_apart p (spells.many_none spells.done) nb = nb
    elements_apart p (spells.many_more x s) nb = never_element (element_first p x) no_left_brace

    pub elements_read : (p : Part) {h : Context} {c e : Scopes} {d i j : ℕ} {t : Trees} (s : Spells ts limit (rest (many (element_part p) ∷ [])) h c e d t i j) → measure s < suc n → Completes ts limit (task.elements p) h c e d t i j
    elements_read p {h = h} {c = c} {d = d} {i = i} (spells.many_none spells.done) lt = λ s x fo nb.
        subst (λ y. Answers ts limit (m.more p h d s x) c i (in_row p s i y) c i) (sym (and_none x)) (run_unseen fo (run_here run_give))
    elements_read p {h = h} {c = c} {e = e} {d = d} {i = i} {j = j} (spells.many_more {t = t} {u = u} x k) lt = λ s y fo nb.
        subst (λ z. Answers ts limit (m.more p h d s y) c i (in_row p s j z) e j) (pushed y t u)
        (run_seen (element_yes p x) (run_call (b.read (task.element p) x (omega arith) (elements_apart p k nb))
        (tail (b.read (task.elements p) k (omega arith) s (y & t & none) (subst (λ z. m.passes ts e j (element_start p z.typed) ≡ false) (past_one x h u) fo) nb))))

    -- a row of two or more
    row_node_reads : (p : Part) {h : Context} {c e : Scopes} {d i j : ℕ} {t : Trees} (s : Spells ts limit (rest (grammar.part (element_part p) ∷ grammar.part (element_part p) ∷ many (element_part p) ∷ [])) h c e d t i j) → measure s < n →
        m.passes ts e j (element_start p (past_row h t).typed) ≡ false → is_word ts j word.LeftBrace ≡ false → Answers ts limit (m.row p h d) c i (one (row_kind p) i j t) e j
    row_node_reads p {h = h} {c = c} {e = e} {d = d} {i = i} {j = j} (spells.part {t = t} x (spells.part {t = u} {u = v} y k)) lt fo nb =
        subst (λ z. Answers ts limit (m.row p h d) c i z e j)
        (ap (λ z. in_row p i j z) (pushed (t & none) u v ∙ and_and t none (u & v)) ∙ two_in_row p i j t u v (subst (λ z. has_some z ≡ true) (and_none t) (part_some x none)) (subst (λ z. has_some z ≡ true) (and_none u) (part_some y none)))
        (run_here (run_call (b.read (task.element p) x (omega arith) (never_element (element_first p y) no_left_brace))
        (tail (run_seen (element_yes p y) (run_call (b.read (task.element p) y (omega arith) (elements_apart p k nb))
        (tail (b.read (task.elements p) k (omega arith) i ((t & none) & u & none)
        (subst (λ z. m.passes ts e j (element_start p z.typed) ≡ false) (past_one x h (u & v) ∙ past_one y (past_part h t) v) fo) nb)))))))

    -- what is said after a row of two or more
    node_typed : (p : Part) {h : Context} {c e : Scopes} {d i j : ℕ} {t : Trees} → Spells ts limit (rest (grammar.part (element_part p) ∷ grammar.part (element_part p) ∷ many (element_part p) ∷ [])) h c e d t i j →
        (h : Context) → (past_row h t).typed ≡ h.typed || any_kind is_type_specifier t
    node_typed p (spells.part x (spells.part y k)) h = row_typed p (spells.many_more x (spells.many_more y k)) h

    row_alone_reads : (p : Part) {h : Context} {c e : Scopes} {d i j : ℕ} {t : Trees} (s : Spells ts limit (a (element_part p)) h c e d t i j) → measure s < n →
        m.passes ts e j (element_start p (past_part h t).typed) ≡ false → is_word ts j word.LeftBrace ≡ false → Answers ts limit (m.row p h d) c i t e j
    row_alone_reads p {h = h} {c = c} {e = e} {d = d} {i = i} {j = j} {t = t} s lt fo nb =
        run_here (run_call (b.read (task.element p) s lt nb) (tail (run_unseen fo (run_here
        (subst (λ y. Goes ts limit (give (in_row p i j (t & none))) e j (Done y e j)) (in_row_one s p i j) run_give)))))

    pub specifiers_read : {h : Context} {c e : Scopes} {d i j : ℕ} {t : Trees} (s : Spells ts limit (a part.Specifiers) h c e d t i j) → measure s < suc n → Completes ts limit task.specifiers h c e d t i j
    specifiers_read (spells.of_chain grammar.specifiers_one f s) lt fo nb = row_alone_reads part.Specifiers s (omega arith) fo nb
    specifiers_read {h = h} {e = e} {j = j} (spells.of_alternative grammar.declaration_specifiers f s) lt fo nb =
        row_node_reads part.Specifiers s (omega arith) (subst (λ y. m.passes ts e j (element_start part.Specifiers y) ≡ false) (sym (node_typed part.Specifiers s h)) fo) nb

    pub plain_specifiers_read : {h : Context} {c e : Scopes} {d i j : ℕ} {t : Trees} (s : Spells ts limit (a part.PlainSpecifiers) h c e d t i j) → measure s < suc n → Completes ts limit task.plain_specifiers h c e d t i j
    plain_specifiers_read (spells.of_chain grammar.plain_one f s) lt fo nb = row_alone_reads part.PlainSpecifiers s (omega arith) fo nb
    plain_specifiers_read {h = h} {e = e} {j = j} (spells.of_alternative grammar.specifier_qualifier_list f s) lt fo nb =
        row_node_reads part.PlainSpecifiers s (omega arith) (subst (λ y. m.passes ts e j (element_start part.PlainSpecifiers y) ≡ false) (sym (node_typed part.PlainSpecifiers s h)) fo) nb

    pub type_name_reads : {h : Context} {c e : Scopes} {d i j : ℕ} {t : Trees} (s : Spells ts limit (a part.TypeName) h c e d t i j) → measure s < suc n → Completes ts limit task.type_name h c e d t i j
    type_name_reads {e = e} {j = j} {t = t} (spells.of_chain grammar.type_name_plain f s) lt = λ q.
        run_here (run_call (b.read task.plain_specifiers s (omega arith) (closes_row part.PlainSpecifiers ts e j (past_part fresh t).typed (by_paren q)) (differs q word.LeftBrace refl))
        (run_unseen (sorted is_abstract_start false q refl) run_give))
    type_name_reads (spells.of_alternative grammar.type_name f (spells.part {e = c'} {j = k} {t = t} x (spells.part y spells.done))) lt = λ q.
        let o = unnamed_first begin.by_abstract y in
        run_here (run_call (b.read task.plain_specifiers x (omega arith) (unnamed_row part.PlainSpecifiers ts c' k (past_part fresh t).typed o) (unnamed_apart o))
        (run_seen (unnamed_start o) (run_call (b.read task.abstract y (omega arith) m.unnamed fresh refl (by_paren q)) (run_here run_give))))

    -- Members.

    -- a member's declarator is one whose own scope is left
    data MemberRead (h : Context) (c e : Scopes) (d i : ℕ) (t : Trees) (j : ℕ) : Type 0 where
      member_read : (own : List TypeName) (s : Spells ts limit (a part.Declarator) h c (own ∷ e) d t i j) → measure s < n → MemberRead h c e d i t j

    member_of : {h : Context} {c e : Scopes} {d i j : ℕ} {t : Trees} (s : Spells ts limit (a part.MemberDeclarator) h c e d t i j) → measure s < suc n → MemberRead h c e d i t j
    member_of (spells.of_alternative x f s) lt = elim x [ ]
    member_of (spells.of_chain x f s) lt = elim x [ ]
    member_of (spells.member_declarator {own = own} s) lt = member_read own s (omega arith)

    member_goes : {h : Context} {c e : Scopes} {d i j : ℕ} {t : Trees} {r : Reply} (f : Trees → Prog) → MemberRead h c e d i t j → Closes ts j → Goes ts limit (f t) e j r →
        Goes ts limit (call (m.declarator m.named h d) (λ u. m.drops (f u))) c i r
    member_goes f (member_read own s lt) o y = run_call (b.read task.declarator s lt m.named refl (by_closing o)) (run_look (run_set y))

    pub member_list_reads : {h : Context} {c e : Scopes} {d i j : ℕ} {t : Trees} (s : Spells ts limit (rest (list part.MemberDeclarator ∷ token word.Semicolon ∷ [])) h c e d t i j) → measure s < suc n →
        Completes ts limit task.member_list h c e d t i j
    member_list_reads {h = h} {c = c} {d = d} {i = i} (spells.list_last {e = c'} {j = k} {t = t} x s) lt =
        closing_run ts limit s (λ e u j. (s : ℕ) (y : Trees) → Answers ts limit (m.member_declarators h d s y) c i (one kind.MemberDeclaration s j (y & t)) e j) (λ q w s y.
        member_goes (member_end h d s y) (member_of x (omega arith)) (by_semicolon q)
        (run_free (differs q word.Colon refl) (run_pass (differs q word.Comma refl) (run_take (yes q) w (run_here
        (subst (λ z. Goes ts limit (give (one kind.MemberDeclaration s (k + 1) (y & t & none))) c' (k + 1) (Done (one kind.MemberDeclaration s (k + 1) (y & z)) c' (k + 1))) (and_none t) run_give))))))
    member_list_reads {h = h} {c = c} {e = e} {d = d} {i = i} {j = j} (spells.list_more {t = t} {u = u} x q w k) lt = λ s y.
        subst (λ z. Answers ts limit (m.member_declarators h d s y) c i (one kind.MemberDeclaration s j z) e j) (pushed y t u)
        (member_goes (member_end h d s y) (member_of x (omega arith)) (by_comma q)
        (run_free (differs q word.Colon refl) (run_take (yes q) w (tail (b.read task.member_list k (omega arith) s (y & t & none))))))

    member_named : {h : Context} {c e : Scopes} {d i j : ℕ} {t : Trees} → Spells ts limit (a part.MemberDeclarator) h c e d t i j → NamedFirst ts c i h.typed
    member_named (spells.of_alternative x f s) = elim x [ ]
    member_named (spells.of_chain x f s) = elim x [ ]
    member_named (spells.member_declarator s) = named_first facts.by_declarator s

    member_list_first : {h : Context} {c e : Scopes} {d i j : ℕ} {t : Trees} → Spells ts limit (rest (list part.MemberDeclarator ∷ token word.Semicolon ∷ [])) h c e d t i j → NamedFirst ts c i h.typed
    member_list_first (spells.list_last x s) = member_named x
    member_list_first (spells.list_more x q w s) = member_named x

    pub member_reads : {h : Context} {c e : Scopes} {d i j : ℕ} {t : Trees} (s : Spells ts limit (a part.MemberDeclaration) h c e d t i j) → measure s < suc n → Completes ts limit task.member h c e d t i j
    member_reads (spells.of_chain x f s) lt = elim x [ ]
    member_reads {c = c} {e = e} {d = d} {i = i} {j = j} (spells.of_alternative grammar.struct_declaration f (spells.part {e = c'} {j = k} {t = t} {u = u} x s)) lt =
        let o = member_list_first s in
        subst (λ z. Answers ts limit (m.member d) c i (one kind.MemberDeclaration i j z) e j) (and_and t none u)
        (run_here (run_call (b.read task.plain_specifiers x (omega arith) (named_row part.PlainSpecifiers ts c' k (past_part fresh t).typed o) (named_apart o))
        (tail (b.read task.member_list s (omega arith) i (t & none)))))

    pub members_read : {h : Context} {c e : Scopes} {d i j : ℕ} {t : Trees} (s : Spells ts limit (rest (inner_many part.MemberDeclaration ∷ closing word.RightBrace ∷ [])) h c e d t i j) → measure s < suc n →
        Completes ts limit task.members h c e d t i j
    members_read {c = c} {d = d} {i = i} (spells.many_none s) lt =
        closing_run ts limit s (λ e u j. (s : ℕ) (x : Trees) → Goes ts limit (take plain (the word.RightBrace) (d + 1) (made kind.StructContent s x) (call (m.members d s x) give)) c i (Done (one kind.StructContent s j (x & none)) e j)) (λ q w s x.
        subst (λ y. Goes ts limit (take plain (the word.RightBrace) (d + 1) (made kind.StructContent s x) (call (m.members d s x) give)) c i (Done (one kind.StructContent s (i + 1) y) c (i + 1))) (sym (and_none x))
        (run_take (yes q) w (run_here run_give)))
    members_read {c = c} {e = e} {d = d} {i = i} {j = j} (spells.many_more {t = t} {u = u} x k) lt = λ s y.
        subst (λ z. Goes ts limit (take plain (the word.RightBrace) (d + 1) (made kind.StructContent s y) (call (m.members d s y) give)) c i (Done (one kind.StructContent s j z) e j)) (pushed y t u)
        (run_pass (never_element (member_first x) no_right_brace) (tail (run_call (b.read task.member x (omega arith)) (b.read task.members k (omega arith) s (y & t & none)))))

    -- Enumerators.

    pub trailing_run : {h : Context} {c e : Scopes} {d i j : ℕ} {t : Trees} → Spells ts limit (rest (symbol.TrailingComma ∷ [])) h c e d t i j → (f : Scopes → Trees → ℕ → Type 0) →
        (Is ts i word.RightBrace → Stands limit i (d + 1) → f c none (i + 1)) →
        (Is ts i word.Comma → Stands limit i (d + 1) → Is ts (i + 1) word.RightBrace → Stands limit (i + 1) (d + 1) → f c none (i + 1 + 1)) → f e t j
    trailing_run (spells.comma_none q w spells.done) f x y = x q w
    trailing_run (spells.comma_some q w q' w' spells.done) f x y = y q w q' w'

    enumerator_first : {h : Context} {c e : Scopes} {d i j : ℕ} {t : Trees} → Spells ts limit (a part.Enumerator) h c e d t i j → Is ts i word.Identifier
    enumerator_first (spells.of_chain x f s) = elim x [ ]
    enumerator_first (spells.of_alternative grammar.enumerator f (spells.enumerates q w s)) = q

    enumerators_first : {h : Context} {c e : Scopes} {d i j : ℕ} {t : Trees} → Spells ts limit (rest (inner_list part.Enumerator ∷ symbol.TrailingComma ∷ [])) h c e d t i j → Is ts i word.Identifier
    enumerators_first (spells.list_last x s) = enumerator_first x
    enumerators_first (spells.list_more x q w s) = enumerator_first x

    pub enumerators_read : {h : Context} {c e : Scopes} {d i j : ℕ} {t : Trees} (s : Spells ts limit (rest (inner_list part.Enumerator ∷ symbol.TrailingComma ∷ [])) h c e d t i j) → measure s < suc n →
        Completes ts limit task.enumerators h c e d t i j
    enumerators_read {c = c} {d = d} {i = i} (spells.list_last {e = c'} {j = k} {t = t} x s) lt =
        trailing_run s (λ e u j. (s : ℕ) (y : Trees) → Answers ts limit (m.enumerators d s y) c i (one kind.EnumContent s j (y & t)) e j)
        (λ q w s y. subst (λ z. Answers ts limit (m.enumerators d s y) c i (one kind.EnumContent s (k + 1) (y & z)) c' (k + 1)) (and_none t)
        (run_call (b.read task.enumerator x (omega arith) (free_by q (omega arith))) (run_pass (differs q word.Comma refl) (run_take (yes q) w (run_here run_give)))))
        (λ q w q' w' s y. subst (λ z. Answers ts limit (m.enumerators d s y) c i (one kind.EnumContent s (k + 1 + 1) (y & z)) c' (k + 1 + 1)) (and_none t)
        (run_call (b.read task.enumerator x (omega arith) (free_by q (omega arith))) (run_take (yes q) w (run_take (yes q') w' (run_here run_give)))))
    enumerators_read {c = c} {e = e} {d = d} {i = i} {j = j} (spells.list_more {t = t} {u = u} x q w k) lt = λ s y.
        subst (λ z. Answers ts limit (m.enumerators d s y) c i (one kind.EnumContent s j z) e j) (pushed y t u)
        (run_call (b.read task.enumerator x (omega arith) (free_by q (omega arith))) (run_take (yes q) w (run_pass (differs (enumerators_first k) word.RightBrace refl)
        (tail (b.read task.enumerators k (omega arith) s (y & t & none))))))

    pub enumerator_reads : {h : Context} {c e : Scopes} {d i j : ℕ} {t : Trees} (s : Spells ts limit (a part.Enumerator) h c e d t i j) → measure s < suc n → Completes ts limit task.enumerator h c e d t i j
    enumerator_reads (spells.of_chain x f s) lt = elim x [ ]
    enumerator_reads {c = c} {d = d} {i = i} (spells.of_alternative grammar.enumerator f (spells.enumerates q w (spells.value_none spells.done))) lt = λ fr.
        run_here (run_take (yes q) w (run_pass (fails fr word.Equal (omega arith)) (run_bring (run_here
        (subst (λ y. Goes ts limit (give (one kind.Enumerator i (i + 1) none)) (enter (m.brought ts (i + 1) i false) c) (i + 1) (Done (one kind.Enumerator i (i + 1) none) (enter y c) (i + 1)))
        (brought_is ts (i + 1) i false (omega arith)) run_give)))))
    enumerator_reads {c = c} {d = d} {i = i} {j = j} (spells.of_alternative grammar.enumerator f (spells.enumerates {e = c'} q w (spells.value_some {t = t} q' w' x spells.done))) lt = λ fr.
        let le = forth x in
        run_here (run_take (yes q) w (run_take (yes q') w' (run_call (b.read task.conditional x (omega arith) (lower fr (omega arith))) (run_bring (run_here
        (subst (λ y. Goes ts limit (give (one kind.Enumerator i j (t & none))) (enter (m.brought ts j i false) c') j (Done (one kind.Enumerator i j (t & none)) (enter y c') j))
        (brought_is ts j i false (omega arith)) run_give))))))
