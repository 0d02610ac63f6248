-- What may begin with a name, where it is a label and where it isn't: the runs of the programs that decide it behind the name,
-- by the two tokens that decide it.
use Rattle.std.proofs.Common.{◌≡◌, ℕ, ◌+◌, Bool, true, false, not, ◌&&◌, ◌||◌, List, refl, sym, subst, ◌∙◌, arith}
use Rattle.std.proofs.lemmas.Bool.{both_ways, or_left, or_right, or_from}
use Rattle.cr_syntax.specs.declared.word.Word.TheVariants as word
use Rattle.cr_syntax.specs.declared.node.Kind.TheVariants as kind
use Rattle.cr_syntax.specs.declared.part.Part.TheVariants as part
use Rattle.cr_syntax.specs.declared.part.Context.{Context}
use Rattle.cr_syntax.specs.Words.{Lexeme, spelling_at}
use Rattle.cr_syntax.specs.Scopes.{Scopes, is_type}
use Rattle.cr_syntax.specs.Trees.{Trees, none, one, ◌&◌}
use Rattle.cr_syntax.specs.Context.{fresh, past_part}
use Rattle.cr_syntax.specs.Spells.{Limit, Is, IsIdentifier, Stands}
use Rattle.cr_syntax.specs.Reads.{is_word}
use Rattle.cr_syntax_machine.specs.Machine.{Prog, Reply, Done, Failed, Runs, Labels, named, plain, opens, the, passes, has_word, call, expect, when, refuse, verdict, run_stop, run_take, run_pass, run_seen, run_unseen, run_yes, run_no, run_here, run_call, run_fail}
use Rattle.cr_syntax_machine.specs.Machine as m
use Rattle.cr_syntax_machine.specs.MachineBody.{body, may_mark, marked, declaration_rest, expression_rest, named_statement, declaration_start, is_specifier_start, is_identifier, is_type_name}
use Rattle.cr_syntax_machine_laws.proofs.MachineMeans.{IsDeclared, with_name, without}
use Rattle.cr_syntax_machine.proofs.MachineSpells.{by_declarator}
use Rattle.cr_syntax.proofs.Tests.{is_of}
use Rattle.cr_syntax_machine_laws.proofs.MachineFirst.{differs, yes, sorted, free_by}
use Rattle.cr_syntax_machine_laws.proofs.MachineNames.{OneName, one_name}
use Rattle.cr_syntax_machine_laws.proofs.MachineSound.{runs_sound}
use Rattle.cr_syntax_machine_laws.proofs.MachineBegins.{NamedFirst, by_star, by_paren, by_name, named_first}
use Rattle.cr_syntax_machine_laws.proofs.MachineExpressions.{name_expression}
use Rattle.cr_syntax_machine_laws.proofs.MachineTypes.{name_row}

-- behind an identifier that a colon follows: the label's statement, or its refusal
abbrev pub marks : Labels → ℕ → ℕ → Prog
marks l d s = when (may_mark l) (expect opens word.Colon d (call (m.statement l (d + 1)) (λ b. m.made kind.Label s (b & none)))) (refuse s 9)

not_typed : (x y : Bool) → x ≡ true → x && y && true ≡ false → y ≡ false
not_typed true true q z = z
not_typed true false q z = refl
not_typed false y q z = absurd (both_ways false refl q)

module _ (ts : List Lexeme) (c : Scopes) (i : ℕ) where
  -- an identifier that is no type
  pub no_type : Is ts i word.Identifier → passes ts c i (m.type_identifier false) ≡ false → IsIdentifier ts c i false
  no_type q z = (q, not_typed (is_word ts i word.Identifier) (is_type c (spelling_at ts i)) (yes q) z)

  pub type_starts : passes ts c i (m.type_identifier false) ≡ true → passes ts c i declaration_start ≡ true
  type_starts z = or_right (has_word ts i is_specifier_start) (passes ts c i (m.type_identifier false)) z

  pub name_starts_none : Is ts i word.Identifier → passes ts c i (m.type_identifier false) ≡ false → passes ts c i declaration_start ≡ false
  name_starts_none q z = or_from (has_word ts i is_specifier_start) (passes ts c i (m.type_identifier false)) (sorted is_specifier_start false q refl) z

-- no declarator begins with a colon
named_apart : {ts : List Lexeme} {c : Scopes} {i : ℕ} {typed : Bool} → NamedFirst ts c i typed → is_word ts i word.Colon ≡ false
named_apart (by_star q) = differs q word.Colon refl
named_apart (by_paren q) = differs q word.Colon refl
named_apart (by_name q g) = differs q word.Colon refl

module _ {ts : List Lexeme} {limit : Limit} where
  -- A label.

  marked_goes : (l : Labels) (d s : ℕ) (p : Prog) {c : Scopes} {i : ℕ} {r : Reply} → Is ts i word.Colon → Runs body ts limit (marks l d s) c i r → Runs body ts limit (marked l d s p) c i r
  marked_goes l d s p q h = run_seen (yes q) h

  -- at the end of the programs of a statement
  pub label_goes : (l : Labels) {d : ℕ} {c : Scopes} {i : ℕ} {r : Reply} → Is ts i word.Identifier → Stands limit i d → Is ts (i + 1) word.Colon → Runs body ts limit (marks l d i) c (i + 1) r →
      Runs body ts limit (named_statement l d i) c i r
  label_goes l {d = d} {c = c} {i = i} {r = r} q w q' h = by (passes ts c i (m.type_identifier false)) refl
    where
      by : (v : Bool) → passes ts c i (m.type_identifier false) ≡ v → Runs body ts limit (named_statement l d i) c i r
      by true z = run_take z w (marked_goes l d i (m.stop d) q' h)
      by false z = run_pass z (run_call (name_expression ts limit (no_type ts c i q z) w (free_by q' (omega arith))) (run_yes refl (marked_goes l d i (expression_rest d i (one kind.Identifier i (i + 1) none)) q' h)))

  -- among the items of a block, where a typedef name stands
  pub item_label_goes : (l : Labels) {d : ℕ} {c : Scopes} {i : ℕ} {r : Reply} → passes ts c i (m.type_identifier false) ≡ true → Stands limit i d → Is ts (i + 1) word.Colon → Runs body ts limit (marks l d i) c (i + 1) r →
      Is ts i word.Identifier → Runs body ts limit (body (m.item l d)) c i r
  item_label_goes l {d = d} {c = c} {i = i} z w q' h q =
      run_seen (type_starts ts c i z) (run_here (run_call (name_row z q w q') (run_yes refl (marked_goes l d i (declaration_rest d i (one kind.TypedefName i (i + 1) none)) q' h))))

  -- No label.

  unmarked_goes : (l : Labels) (d s : ℕ) (p : Prog) {c : Scopes} {i : ℕ} {r : Reply} → is_word ts i word.Colon ≡ false → Runs body ts limit p c i r → Runs body ts limit (marked l d s p) c i r
  unmarked_goes l d s p n h = run_unseen n h

  -- a typedef name where no declaration may stand
  pub type_stops : (l : Labels) {d : ℕ} {c : Scopes} {i : ℕ} → passes ts c i (m.type_identifier false) ≡ true → Stands limit i d → is_word ts (i + 1) word.Colon ≡ false →
      Runs body ts limit (named_statement l d i) c i (Failed (verdict ts (i + 1) d) (i + 1))
  type_stops l {d = d} {i = i} z w n = run_take z w (unmarked_goes l d i (m.stop d) n run_stop)

  -- what a name alone is followed by isn't a colon
  name_apart : {c e : Scopes} {d i j : ℕ} → OneName ts limit c e d i j → (Is ts i word.Identifier → is_word ts (i + 1) word.Colon ≡ false) → is_word ts j word.Colon ≡ false
  name_apart n f = subst (λ k. is_word ts k word.Colon ≡ false) (sym n.end) (f n.is)

  -- an expression, and what stands behind it
  pub expression_goes : (l : Labels) {d : ℕ} {c : Scopes} {i : ℕ} {r : Reply} → passes ts c i (m.type_identifier false) ≡ false → (Is ts i word.Identifier → is_word ts (i + 1) word.Colon ≡ false) →
      Runs body ts limit (call (m.expression d) (λ a. expression_rest d i a)) c i r → Runs body ts limit (named_statement l d i) c i r
  expression_goes l z f (run_fail h) = run_pass z (run_fail h)
  expression_goes l {d = d} {c = c} {i = i} {r = r} z f (run_call {t = t} {e = e} {j = j} h k) = run_pass z (run_call h (by (is_identifier t) refl))
    where
      by : (v : Bool) → is_identifier t ≡ v → Runs body ts limit (when (is_identifier t) (marked l d i (expression_rest d i t)) (expression_rest d i t)) e j r
      by true y = run_yes y (unmarked_goes l d i (expression_rest d i t) (name_apart (one_name (runs_sound (m.expression d) c e i j t h fresh) (or_left (is_identifier t) (is_type_name t) y)) f) k)
      by false y = run_no y k

  -- the specifiers of a declaration, and what stands behind them, as an item
  item_rest_goes : (l : Labels) {d i : ℕ} {e : Scopes} {j : ℕ} {r : Reply} (t : Trees) → (is_type_name t ≡ true → is_word ts j word.Colon ≡ false) → Runs body ts limit (declaration_rest d i t) e j r →
      Runs body ts limit (when (is_type_name t) (marked l d i (declaration_rest d i t)) (declaration_rest d i t)) e j r
  item_rest_goes l {d = d} {i = i} {e = e} {j = j} {r = r} t f h = by (is_type_name t) refl
    where
      by : (v : Bool) → is_type_name t ≡ v → Runs body ts limit (when (is_type_name t) (marked l d i (declaration_rest d i t)) (declaration_rest d i t)) e j r
      by true y = run_yes y (unmarked_goes l d i (declaration_rest d i t) (f y) h)
      by false y = run_no y h

  pub item_declares : (l : Labels) {d : ℕ} {c : Scopes} {i : ℕ} {r : Reply} → passes ts c i declaration_start ≡ true → (Is ts i word.Identifier → is_word ts (i + 1) word.Colon ≡ false) →
      Runs body ts limit (body (m.declaration d)) c i r → Runs body ts limit (body (m.item l d)) c i r
  item_declares l y f (run_here (run_fail h)) = run_seen y (run_here (run_fail h))
  item_declares l {d = d} {c = c} {i = i} y f (run_here (run_call {t = t} {e = e} {j = j} h k)) = run_seen y (run_here (run_call h (item_rest_goes l t
      (λ z. name_apart (one_name (runs_sound (m.row part.Specifiers fresh d) c e i j t h) (or_right (is_identifier t) (is_type_name t) z)) f) k)))

  -- where a declaration is read, no colon stands behind its specifiers
  declared_apart : {h : Context} {d : ℕ} {c e : Scopes} {i j : ℕ} {t : Trees} → IsDeclared ts limit named h d c i t e j → is_word ts i word.Colon ≡ false
  declared_apart (with_name z z' o s) = named_apart (named_first by_declarator s)
  declared_apart (without z z' s) = cc

  rest_apart : {d i : ℕ} {e f : Scopes} {j k : ℕ} {u : Trees} (t : Trees) → Runs body ts limit (declaration_rest d i t) e j (Done u f k) → is_word ts j word.Colon ≡ false
  rest_apart {j = j} t (run_take y w h) = differs (is_of ts j word.Semicolon y) word.Colon refl
  rest_apart {d = d} {e = e} {j = j} t (run_pass y (run_call (run_here (run_call {t = u} {e = e'} {j = j'} h k)) k')) = declared_apart (runs_sound (m.declarator named (past_part fresh t) d) e e' j j' u h)

  pub declaration_is_item : {d : ℕ} {c e : Scopes} {i j : ℕ} {t : Trees} → passes ts c i declaration_start ≡ true → Runs body ts limit (body (m.declaration d)) c i (Done t e j) → Runs body ts limit (body (m.item m.anywhere d)) c i (Done t e j)
  declaration_is_item y (run_here (run_call {t = t} h k)) = run_seen y (run_here (run_call h (item_rest_goes m.anywhere t (λ z. rest_apart t k) k)))
