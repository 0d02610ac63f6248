-- What a call names is a function (K17), and a literal has bytes, its zero at least (C11 6.4.5p6).
use Rattle.std.proofs.Common.{◌≡◌, ℕ, ◌+◌, ◌≤◌, ◌-◌, Bool, true, false, List, [], ◌∷◌, ◌++◌, Option, None, Some, length, inl, refl, sym, ap, subst, ◌∙◌, slice_get, slice_index_or, arith}
use Rattle.std.proofs.lemmas.Bool.{false≢true}
use Rattle.std.proofs.lemmas.List.{length_push}
use Rattle.std.proofs.lemmas.Option.{slice_get_within}
use Rattle.cr_syntax.specs.declared.node.Kind.{Kind}
use Rattle.cr_syntax.specs.declared.node.Kind.TheVariants as kind
use Rattle.cr_syntax.specs.declared.node.Node.{Node}
use Rattle.cr_check_operands.specs.Values.{Seen, seen_at}
use Rattle.cr_check_expressions.specs.Forms.{form_of}
use Rattle.cr_check_expressions.specs.Breaks.{faults_in, call_faults}
use Rattle.cr_check_expressions.specs.Known.{Meaning, Signature, an_object, an_enumerator, a_function, a_type, unclear}
use Rattle.cr_check_expressions.specs.Ruled.{facts_at}
use Rattle.cr_check_literals.specs.Texts.{joined, text_by, text_if}
use Rattle.cr_check_unit.specs.Typing.{cut, entry_at}
use Rattle.cr_check_unit.specs.Breaks.{IsNodeBreak}
use Rattle.cr_typed.specs.declared.typed.Typed.{Typed}
use Rattle.cr_meaning_operations.specs.Operations.{kind_if, kind_at}
use Rattle.cr_meaning_typing.specs.Typed.Laws.{HoldsAll}
use Rattle.cr_meaning_typing.specs.Typed.Typing.{has_value, is_expression, IsClear, IsRead}
use Rattle.cr_meaning_typing.proofs.TypedLemmas.Worth.{unbroken}
use Rattle.cr_meaning_typing.specs.Judged.Judged.{source_of}
use Rattle.cr_meaning_declarations.specs.Declared.Files.{IsUnitOfFile}
use Rattle.cr_meaning_files.specs.Files.{AreRead}

function_alone : (m : Meaning) (argument : ℕ → Seen) (nodes : List Node) (first : ℕ) (parts : List ℕ) → HoldsAll (call_faults nodes m argument first parts) → IsClear m → (s : Signature) × (m ≡ a_function s)
unfolding call_faults
function_alone (a_function s) argument nodes first parts h c = (s, refl)
function_alone (an_object type register) argument nodes first parts h c = absurd (false≢true (sym (unbroken 17 first _ _ h)))
function_alone (an_enumerator value) argument nodes first parts h c = absurd (false≢true (sym (unbroken 17 first _ _ h)))
function_alone a_type argument nodes first parts h c = absurd (false≢true (sym (unbroken 17 first _ _ h)))
function_alone unclear argument nodes first parts h c = absurd c

some_bytes : (bytes : List ℕ) → 1 ≤ length (bytes ++ 0 ∷ [])
some_bytes bytes = let more = length_push bytes 0 in omega (arith, more)

module _ (file : List ℕ) (t : Typed) (it : IsUnitOfFile file t) where
  open it use {checked.{checked}, made_by}

  here : (i : ℕ) (n : Node) → slice_get t.nodes i ≡ Some n → slice_get made_by.tree.nodes.now i ≡ Some n
  here i n at = ap (λ ns. slice_get ns i) (made_by.is.whole.tree.nodes ∙ sym made_by.elaborated.nodes_are) ∙ at

  -- no expression breaks a constraint
  holds : (i : ℕ) (n : Node) → slice_get t.nodes i ≡ Some n
      → HoldsAll (faults_in (form_of n.kind) (seen_at checked.table (entry_at checked.whole.typing i).fact) (facts_at checked.table (cut i checked.whole.typing).facts) (source_of made_by.tree checked i) i n)
  holds i n at b among =
      made_by.sound.constraints b (inl (record {
        node = i;
        among = subst (λ o. IsNodeBreak made_by.tree checked.texts checked.table (cut i checked.whole.typing) (entry_at checked.whole.typing i) i o b) (sym (here i n at)) (inl among);
      }))

  pub call_names : AreRead file t it → (i : ℕ) (n : Node) → slice_get t.nodes i ≡ Some n → n.kind ≡ kind.Call
      → (s : Signature) × (((source_of made_by.tree checked i).stands i ≡ a_function s) × (has_value s.gives ≡ true))
  call_names reads i n at is =
      let source = source_of made_by.tree checked i in
      let before = facts_at checked.table (cut i checked.whole.typing).facts in
      let own = seen_at checked.table (entry_at checked.whole.typing i).fact in
      let clear = subst (λ k. IsRead (form_of k) before source i n) is (reads i n (here i n at) (ap (λ k. is_expression (form_of k)) is)) in
      let named = function_alone (source.stands i) _ source.nodes n.first n.parts (subst (λ k. HoldsAll (faults_in (form_of k) own before source i n)) is (holds i n at)) clear in
      (named.0, (named.1, (subst IsClear named.1 clear).0))

  -- and its type is known
  pub call_clear : AreRead file t it → (i : ℕ) (n : Node) → slice_get t.nodes i ≡ Some n → n.kind ≡ kind.Call
      → (s : Signature) → (source_of made_by.tree checked i).stands i ≡ a_function s → IsClear (a_function s)
  call_clear reads i n at is s stands =
      let source = source_of made_by.tree checked i in
      let before = facts_at checked.table (cut i checked.whole.typing).facts in
      subst IsClear stands (subst (λ k. IsRead (form_of k) before source i n) is (reads i n (here i n at) (ap (λ k. is_expression (form_of k)) is)))

  pub text_there : (i : ℕ) → kind_at t i ≡ kind.Text → 1 ≤ length (slice_index_or t.texts i [])
  text_there i is = by (slice_get t.nodes i) refl
    where
      of_kind : (n : Node) → n.kind ≡ kind.Text → 1 ≤ length (text_if file it.unit.tokens.list.items (Some n))
      of_kind n e = subst (λ (k : Kind). 1 ≤ length (text_by k file it.unit.tokens.list.items n)) (sym e) (some_bytes (joined file it.unit.tokens.list.items n.first (n.last + 1 - n.first)))

      by : (o : Option Node) → slice_get t.nodes i ≡ o → 1 ≤ length (slice_index_or t.texts i [])
      by None at = absurd (different (sym (ap kind_if at) ∙ is))
        where
          is_text : Kind → Bool
          is_text kind.Text = true
          is_text k = false

          different : kind.Break ≡ kind.Text → ⊥
          different e = false≢true (ap is_text e)
      by (Some n) at =
          let low = slice_get_within t.nodes i n at in
          let count : length t.nodes ≡ length it.unit.nodes = ap length made_by.elaborated.nodes_are in
          let text = made_by.is.texts.each i (omega (arith, low, count)) in
          let own : slice_get it.unit.nodes i ≡ Some n = ap (λ ns. slice_get ns i) (sym made_by.elaborated.nodes_are) ∙ at in
          subst (λ (bytes : List ℕ). 1 ≤ length bytes) (sym (ap (λ ts. slice_index_or ts i []) made_by.elaborated.texts_are ∙ text ∙ ap (text_if file it.unit.tokens.list.items) own)) (of_kind n (sym (ap kind_if at) ∙ is))
