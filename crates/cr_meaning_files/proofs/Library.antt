-- A call that is spelled like one of the library's functions is of the type that the standard gives it (C11 6.5.2.2, 7.21.6.3, 7.21.7.8, 7.22.4.1, 7.22.4.4).
use Rattle.std.specs.Prelude.{codes}
use Rattle.std.specs.Str.{bytes_eq}
use Rattle.std.proofs.Common.{◌≡◌, ℕ, inl, Bool, true, false, ◌&&◌, not, List, [], ◌∷◌, Option, None, Some, length, drop, map, slice_get, refl, sym, ap, subst, ◌∙◌, if◌then◌else◌}
use Rattle.std.proofs.lemmas.Bool.{false≢true, and_parts, not-true}
use Rattle.std.proofs.lemmas.Slice.Eq.{bytes_eq-Decides}
use Rattle.cr_ints.specs.declared.kind.IntKind.TheVariants.{Int as IntegerKind}
use Rattle.cr_tokens.specs.declared.token.Token.{Token}
use Rattle.cr_syntax.specs.declared.ctype.CType.TheVariants.{Int, Void}
use Rattle.cr_syntax.specs.declared.node.Kind.TheVariants as kind
use Rattle.cr_syntax.specs.declared.node.Node.{Node}
use Rattle.cr_check_types.specs.Types.{Qualified, plain, pointer as to}
use Rattle.cr_check_expressions.specs.Known.{Signature, a_function, spelling_of}
use Rattle.cr_check_expressions.specs.Known as expressions
use Rattle.cr_check_expressions.specs.Ruled.{is_parameter}
use Rattle.cr_check_declarators.specs.declared.functions.Library.{Library}
use Rattle.cr_check_declarators.specs.declared.functions.Library.TheVariants.{Printf, Putchar, Abort, Exit}
use Rattle.cr_check_declarators.specs.Functions.{is_int, is_plain_int, is_plain_void, is_format, takes_one, library_of}
use Rattle.cr_check_signatures.specs.Callees.Laws.{IsOf}
use Rattle.cr_check_signatures.proofs.CalleesLemmas.Callees.{calls_typed}
use Rattle.cr_typed.specs.declared.typed.Typed.{Typed}
use Rattle.cr_meaning.specs.World.{Program}
use Rattle.cr_meaning.specs.declared.op.Callee.{Callee}
use Rattle.cr_meaning.specs.declared.op.Callee.TheVariants as callee
use Rattle.cr_meaning_soundness.specs.Sorts.{Sort}
use Rattle.cr_meaning_operations.specs.Shapes.{named_type, value_type}
use Rattle.cr_meaning_operations.specs.Operations.{parts_at, first_if, first_at, entity_of, function_in, spelling_if, calls, is_text, function_of, callee_of}
use Rattle.cr_meaning_typing.specs.Typed.Typing.{IsClear}
use Rattle.cr_meaning_typing.proofs.TypedLemmas.Worth.{worth_typed}
use Rattle.cr_meaning_typing.specs.Calls.Calls.{Is, IsInt, IsVoid, IsAddress, IsCalled}
use Rattle.cr_meaning_typing.specs.Judged.Judged.{source_of}
use Rattle.cr_meaning_declarations.specs.Declared.Files.{IsUnitOfFile}

-- ---- what a type of the library has

plain_int : (type : Qualified) → is_plain_int type ≡ true → IsInt type
plain_int (plain (Int IntegerKind) c v) h = tt
plain_int type h = absurd (false≢true h)

an_int : (type : Qualified) → is_int type ≡ true → IsInt type
an_int (plain (Int IntegerKind) c v) h = tt
an_int type h = absurd (false≢true h)

plain_void : (type : Qualified) → is_plain_void type ≡ true → IsVoid type
plain_void (plain Void c v) h = tt
plain_void type h = absurd (false≢true h)

an_address : (type : Qualified) → is_format type ≡ true → IsAddress type
an_address (to c v below) h = tt
an_address type h = absurd (false≢true h)

-- the one parameter of such a function
record IsOne (format : Bool) (types : List Qualified) : Type 0 where
  first : Qualified
  are : types ≡ first ∷ []
  is : (if format then is_format first else is_int first) ≡ true

one_of : (format : Bool) (types : List Qualified) → takes_one format types ≡ true → IsOne format types
one_of format (type ∷ []) h = record { first = type; are = refl; is = h }
one_of format [] h = absurd (false≢true h)
one_of format (type ∷ other ∷ types) h = absurd (false≢true h)

module _ (s : Signature) where
  printf_is : IsOf Printf s → Is s IsInt IsAddress true
  printf_is h =
      let two = and_parts (is_plain_int s.gives) (s.more && takes_one true h.parameters) h.is in
      let three = and_parts s.more (takes_one true h.parameters) two.1 in
      let one = one_of true h.parameters three.1 in
      record {
        gives_is = plain_int s.gives two.0;
        count = h.count ∙ ap length one.are;
        first = one.first;
        is = h.each 0 ∙ ap (λ types. slice_get types 0) one.are;
        takes = an_address one.first one.is;
        more_is = three.0;
      }

  putchar_is : IsOf Putchar s → Is s IsInt IsInt false
  putchar_is h =
      let two = and_parts (is_plain_int s.gives) (not s.more && takes_one false h.parameters) h.is in
      let three = and_parts (not s.more) (takes_one false h.parameters) two.1 in
      let one = one_of false h.parameters three.1 in
      record {
        gives_is = plain_int s.gives two.0;
        count = h.count ∙ ap length one.are;
        first = one.first;
        is = h.each 0 ∙ ap (λ types. slice_get types 0) one.are;
        takes = an_int one.first one.is;
        more_is = not-true s.more three.0;
      }

  exit_is : IsOf Exit s → Is s IsVoid IsInt false
  exit_is h =
      let two = and_parts (is_plain_void s.gives) (not s.more && takes_one false h.parameters) h.is in
      let three = and_parts (not s.more) (takes_one false h.parameters) two.1 in
      let one = one_of false h.parameters three.1 in
      record {
        gives_is = plain_void s.gives two.0;
        count = h.count ∙ ap length one.are;
        first = one.first;
        is = h.each 0 ∙ ap (λ types. slice_get types 0) one.are;
        takes = an_int one.first one.is;
        more_is = not-true s.more three.0;
      }

  abort_is : IsOf Abort s → IsVoid s.gives
  abort_is h = plain_void s.gives (and_parts (is_plain_void s.gives) _ h.is).0

-- ---- which function of the library a call names

abbrev pub is_of_library : Callee → Bool
is_of_library (callee.Function parameters rest is_main) = false
is_of_library other = true

-- by its spelling
abbrev Names : (List ℕ → Bool) → Callee → Type 0
Names spelled (callee.Printf texts) = spelled (codes "printf") ≡ true
Names spelled callee.Putchar = (spelled (codes "printf") ≡ false) × (spelled (codes "putchar") ≡ true)
Names spelled callee.Exit = (spelled (codes "printf") ≡ false) × ((spelled (codes "putchar") ≡ false) × (spelled (codes "exit") ≡ true))
Names spelled callee.Abort = (spelled (codes "printf") ≡ false) × ((spelled (codes "putchar") ≡ false) × (spelled (codes "abort") ≡ true))
Names spelled (callee.Function parameters rest is_main) = Unit {0}

names : (spelled : List ℕ → Bool) (texts : List Bool) (t : Typed) (definition : ℕ) (a b c d : Bool) → spelled (codes "printf") ≡ a → spelled (codes "putchar") ≡ b → spelled (codes "exit") ≡ c → spelled (codes "abort") ≡ d
    → Names spelled (if a then callee.Printf texts else (if b then callee.Putchar else (if c then callee.Exit else (if d then callee.Abort else function_of t definition))))
names spelled texts t definition true b c d p q r s = p
names spelled texts t definition false true c d p q r s = (p, q)
names spelled texts t definition false false true d p q r s = (p, (q, r))
names spelled texts t definition false false false true p q r s = (p, (q, s))
names spelled texts t definition false false false false p q r s = tt

abbrev by_names : Bool → Bool → Bool → Bool → Option Library
by_names printf putchar abort exit = if printf then Some Printf else (if putchar then Some Putchar else (if abort then Some Abort else (if exit then Some Exit else None)))

-- what is spelled like the one isn't spelled like the other
not_abort : (name : List ℕ) → bytes_eq name (codes "exit") ≡ true → bytes_eq name (codes "abort") ≡ false
not_abort name e = ap (λ n. bytes_eq n (codes "abort")) ((bytes_eq-Decides name (codes "exit")).0 e)

module _ (file : List ℕ) (t : Typed) (it : IsUnitOfFile file t) (i : ℕ) (n : Node) (at : slice_get t.nodes i ≡ Some n) (call : n.kind ≡ kind.Call) where
  open it use {made_by}

  abbrev name : List ℕ
  name = spelling_of file it.unit.tokens.list.items n.first

  spelled_if : (o : Option Token) → spelling_if file o ≡ expressions.spelling_if file o
  spelled_if None = refl
  spelled_if (Some token) = refl

  calls_is : (word : List ℕ) → calls t i word ≡ bytes_eq name word
  calls_is word =
      ap (λ bytes. bytes_eq (spelling_if bytes (slice_get t.tokens (first_at t i))) word) made_by.elaborated.file_is
      ∙ ap (λ tokens. bytes_eq (spelling_if file (slice_get tokens (first_at t i))) word) made_by.elaborated.tokens_are
      ∙ ap (λ o. bytes_eq (spelling_if file (slice_get it.unit.tokens.list.items (first_if o))) word) at
      ∙ ap (λ bytes. bytes_eq bytes word) (spelled_if (slice_get it.unit.tokens.list.items n.first))

  of_library : (signature : Signature) → (source_of made_by.tree it.checked.checked i).stands i ≡ a_function signature → IsClear (a_function signature)
      → (l : Library) → library_of name ≡ Some l → IsOf l signature
  of_library signature stands clear l spelled =
      calls_typed file it.unit it.names it.checked.checked.surroundings made_by.tree it.checked.checked.texts it.checked.checked.table it.checked.checked.whole.typing made_by.is.surroundings made_by.is.whole.tree
      made_by.is.whole.typing (λ b broken. made_by.sound.constraints b (inl broken)) i n (ap (λ ns. slice_get ns i) (sym made_by.elaborated.nodes_are) ∙ at) call signature stands
      (record { gives = worth_typed signature.gives clear.0; each = λ k type e. ap is_parameter (sym e) ∙ clear.1 k }) l spelled

  pub library_called : (p : Program) (sorts : ℕ → Option Sort) (signature : Signature) → (source_of made_by.tree it.checked.checked i).stands i ≡ a_function signature → IsClear (a_function signature)
      → (c : Callee) → callee_of t i ≡ c → is_of_library c ≡ true → IsCalled p t sorts signature c
  library_called p sorts signature stands clear c e is = by c is (subst (Names (λ word. calls t i word)) e own)
    where
      own : Names (λ word. calls t i word) (callee_of t i)
      own =
          names (λ word. calls t i word) (map (λ part. is_text (value_type t part)) (drop 1 (parts_at t i))) t (function_in (named_type t (entity_of t i))) (calls t i (codes "printf")) (calls t i (codes "putchar"))
          (calls t i (codes "exit")) (calls t i (codes "abort")) refl refl refl refl

      it_is : (l : Library) → library_of name ≡ Some l → IsOf l signature
      it_is l = of_library signature stands clear l

      by : (c : Callee) → is_of_library c ≡ true → Names (λ word. calls t i word) c → IsCalled p t sorts signature c
      by (callee.Printf texts) is h = printf_is signature (it_is Printf (ap (λ b. by_names b (bytes_eq name (codes "putchar")) (bytes_eq name (codes "abort")) (bytes_eq name (codes "exit"))) (sym (calls_is (codes "printf")) ∙ h)))
      by callee.Putchar is h =
          putchar_is signature (it_is Putchar (λ j. by_names ((sym (calls_is (codes "printf")) ∙ h.0) j) ((sym (calls_is (codes "putchar")) ∙ h.1) j) (bytes_eq name (codes "abort")) (bytes_eq name (codes "exit"))))
      by callee.Exit is h =
          let exit = sym (calls_is (codes "exit")) ∙ h.1.1 in
          exit_is signature (it_is Exit (λ j. by_names ((sym (calls_is (codes "printf")) ∙ h.0) j) ((sym (calls_is (codes "putchar")) ∙ h.1.0) j) (not_abort name exit j) (exit j)))
      by callee.Abort is h =
          abort_is signature (it_is Abort (λ j. by_names ((sym (calls_is (codes "printf")) ∙ h.0) j) ((sym (calls_is (codes "putchar")) ∙ h.1.0) j) ((sym (calls_is (codes "abort")) ∙ h.1.1) j) (bytes_eq name (codes "exit"))))
      by (callee.Function parameters rest is_main) is h = absurd (false≢true is)
