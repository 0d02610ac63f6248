-- Small texts that the machine reads or refuses, by running it.
use Rattle.std.proofs.Common.{◌≡◌, ℕ, zero, suc, ◌+◌, Bool, true, false, List, [], ◌∷◌, Option, None, Some, codes, refl, sym, subst, ◌∙◌}
use borrow.Author.Tests.{ltb-true, lt-ltb}
use Rattle.cr_syntax_machine_laws.proofs.MachineFirst.{true_false}
use Rattle.std.specs.Prelude.{if◌then◌else◌, nat_lt}
use Rattle.cr_syntax.specs.declared.word.Word.{Word}
use Rattle.cr_syntax.specs.declared.word.Word.TheVariants as word
use Rattle.cr_syntax.specs.declared.node.Kind.TheVariants as kind
use Rattle.cr_syntax.specs.declared.part.Part.TheVariants as part
use Rattle.cr_syntax.specs.Words.{Lexeme}
use Rattle.cr_syntax.specs.Scopes.{Scopes, enter}
use Rattle.cr_syntax.specs.Trees.{Trees, none, node, one}
use Rattle.cr_syntax.specs.Spells.{AtMost}
use Rattle.cr_syntax.specs.Units.{most_levels}
use Rattle.cr_syntax_machine.specs.Machine.{Prog, Manner, Allows, plain, opens, reopens, Reply, Done, Failed, Runs, passes, verdict, barred, brought, whole, unexpected, ended, too_deep, outside}
use Rattle.cr_syntax_machine.specs.Machine as m
use Rattle.cr_syntax_machine.specs.MachineBody.{body}

abbrev allows : Manner → ℕ → Bool
allows plain d = true
allows opens d = nat_lt d most_levels
allows reopens d = nat_lt d most_levels

-- a run of so many steps at most
unfoldable pub run : ℕ → List Lexeme → Prog → Scopes → ℕ → Option Reply
run zero ts p c i = None
run (suc n) ts (m.give t) c i = Some (Done t c i)
run (suc n) ts (m.stop d) c i = Some (Failed (verdict ts i d) i)
run (suc n) ts (m.refuse k l) c i = Some (Failed (m.earlier k l) i)
run (suc n) ts (m.take a x d p q) c i = if passes ts c i x then (if allows a d then run n ts p c (i + 1) else Some (Failed too_deep i)) else run n ts q c i
run (suc n) ts (m.bar x k d p) c i = if passes ts c i x then Some (Failed (barred ts k i d) i) else run n ts p c i
run (suc n) ts (m.peek x p q) c i = if passes ts c i x then run n ts p c i else run n ts q c i
run (suc n) ts (m.when b p q) c i = if b then run n ts p c i else run n ts q c i
run (suc n) ts (m.here f) c i = run n ts (f i) c i
run (suc n) ts (m.look f) c i = run n ts (f c) c i
run (suc n) ts (m.set e p) c i = run n ts p e i
run (suc n) ts (m.bring k b p) c i = run n ts p (enter (brought ts i k b) c) i
run (suc n) ts (m.call g f) c i = elim (run n ts (body g) c i) [
  | None ↦ None
  | Some r ↦ elim r [ Done t e j ↦ run n ts (f t) e j | Failed x k ↦ Some (Failed x k) ]
]

-- a manner's room, both ways
allowed : (g : Manner) (i d : ℕ) → allows g d ≡ true → Allows (AtMost most_levels) g i d
allowed plain i d q = tt
allowed opens i d q = ltb-true d most_levels q
allowed reopens i d q = (tt, ltb-true d most_levels q)

not_allowed : (g : Manner) (i d : ℕ) → allows g d ≡ false → Allows (AtMost most_levels) g i d → ⊥
not_allowed plain i d q w = true_false q
not_allowed opens i d q w = true_false (sym (lt-ltb d most_levels w) ∙ q)
not_allowed reopens i d q w = true_false (sym (lt-ltb d most_levels w.1) ∙ q)

some_of : {r r' : Reply} → Some r ≡ Some r' → r ≡ r'
some_of q = cc

module _ (ts : List Lexeme) where
  abbrev IsRun : Prog → Scopes → ℕ → Reply → Type 0
  IsRun p c i r = Runs body ts (AtMost most_levels) p c i r

  -- what is answered within so many steps is a run
  run_is : (n : ℕ) (p : Prog) (c : Scopes) (i : ℕ) (r : Reply) → run n ts p c i ≡ Some r → IsRun p c i r
  unfolding run
  run_is zero p c i r q = cc
  run_is (suc n) (m.give t) c i r q = subst (λ x. IsRun (m.give t) c i x) (some_of q) m.run_give
  run_is (suc n) (m.stop d) c i r q = subst (λ x. IsRun (m.stop d) c i x) (some_of q) m.run_stop
  run_is (suc n) (m.refuse k l) c i r q = subst (λ x. IsRun (m.refuse k l) c i x) (some_of q) m.run_refuse
  run_is (suc n) (m.take g x d p p') c i r q = by (passes ts c i x) (allows g d) refl refl (λ z. run_is n p c (i + 1) r z) (λ z. run_is n p' c i r z) q
    where
      by : (b b' : Bool) → passes ts c i x ≡ b → allows g d ≡ b' → (run n ts p c (i + 1) ≡ Some r → IsRun p c (i + 1) r) → (run n ts p' c i ≡ Some r → IsRun p' c i r) →
          (if b then (if b' then run n ts p c (i + 1) else Some (Failed too_deep i)) else run n ts p' c i) ≡ Some r → IsRun (m.take g x d p p') c i r
      by true true y z h h' q = m.run_take y (allowed g i d z) (h q)
      by true false y z h h' q = subst (λ v. IsRun (m.take g x d p p') c i v) (some_of q) (m.run_deep y (not_allowed g i d z))
      by false b' y z h h' q = m.run_pass y (h' q)
  run_is (suc n) (m.bar x k d p) c i r q = by (passes ts c i x) refl (λ z. run_is n p c i r z) q
    where
      by : (b : Bool) → passes ts c i x ≡ b → (run n ts p c i ≡ Some r → IsRun p c i r) → (if b then Some (Failed (barred ts k i d) i) else run n ts p c i) ≡ Some r → IsRun (m.bar x k d p) c i r
      by true y h q = subst (λ v. IsRun (m.bar x k d p) c i v) (some_of q) (m.run_bar y)
      by false y h q = m.run_free y (h q)
  run_is (suc n) (m.peek x p p') c i r q = by (passes ts c i x) refl (λ z. run_is n p c i r z) (λ z. run_is n p' c i r z) q
    where
      by : (b : Bool) → passes ts c i x ≡ b → (run n ts p c i ≡ Some r → IsRun p c i r) → (run n ts p' c i ≡ Some r → IsRun p' c i r) → (if b then run n ts p c i else run n ts p' c i) ≡ Some r →
          IsRun (m.peek x p p') c i r
      by true y h h' q = m.run_seen y (h q)
      by false y h h' q = m.run_unseen y (h' q)
  run_is (suc n) (m.when true p p') c i r q = m.run_yes refl (run_is n p c i r q)
  run_is (suc n) (m.when false p p') c i r q = m.run_no refl (run_is n p' c i r q)
  run_is (suc n) (m.here f) c i r q = m.run_here (run_is n (f i) c i r q)
  run_is (suc n) (m.look f) c i r q = m.run_look (run_is n (f c) c i r q)
  run_is (suc n) (m.set e p) c i r q = m.run_set (run_is n p e i r q)
  run_is (suc n) (m.bring k b p) c i r q = m.run_bring (run_is n p (enter (brought ts i k b) c) i r q)
  run_is (suc n) (m.call g f) c i r q = by (run n ts (body g) c i) refl (λ x z. run_is n (body g) c i x z) (λ t e j z. run_is n (f t) e j r z) q
    where
      by : (o : Option Reply) → run n ts (body g) c i ≡ o → ((x : Reply) → run n ts (body g) c i ≡ Some x → IsRun (body g) c i x) →
          ((t : Trees) (e : Scopes) (j : ℕ) → run n ts (f t) e j ≡ Some r → IsRun (f t) e j r) →
          elim o as (λ _. Option Reply) [ None ↦ None | Some x ↦ elim x [ Done t e j ↦ run n ts (f t) e j | Failed x k ↦ Some (Failed x k) ] ] ≡ Some r → IsRun (m.call g f) c i r
      by None y h h' q = cc
      by (Some (Done t e j)) y h h' q = m.run_call (h (Done t e j) y) (h' t e j q)
      by (Some (Failed x k)) y h h' q = subst (λ v. IsRun (m.call g f) c i v) (some_of q) (m.run_fail (h (Failed x k) y))

abbrev pub w : Word → Lexeme
w x = record { word = x; spelling = [] }

abbrev pub id : List ℕ → Lexeme
id s = record { word = word.Identifier; spelling = s }

-- T is a type, and nothing else is declared
abbrev scopes : Scopes
scopes = (record { name = codes "T"; is_type = true } ∷ []) ∷ []

-- a file's text as an expression from its first token, where no level is open
abbrev reply : List Lexeme → Option Reply
reply ts = run 300 ts (body (whole part.Expression 0)) scopes 0

-- 2 + 3 * 4
reads_1 : reply (w word.Integer ∷ w word.Plus ∷ w word.Integer ∷ w word.Star ∷ w word.Integer ∷ []) ≡
    Some (Done (one kind.Add 0 5 (node kind.Integer 0 1 none (one kind.Multiply 2 5 (node kind.Integer 2 3 none (one kind.Integer 4 5 none))))) scopes 5)
unfolding run
reads_1 = refl

-- 1 - 2 - 3 , 4
reads_2 : reply (w word.Integer ∷ w word.Minus ∷ w word.Integer ∷ w word.Minus ∷ w word.Integer ∷ w word.Comma ∷ w word.Integer ∷ []) ≡
    Some (Done (one kind.Comma 0 7 (node kind.Subtract 0 5 (node kind.Subtract 0 3 (node kind.Integer 0 1 none (one kind.Integer 2 3 none)) (one kind.Integer 4 5 none)) (one kind.Integer 6 7 none))) scopes 7)
unfolding run
reads_2 = refl

-- ( T ) x
reads_3 : reply (w word.LeftParen ∷ id (codes "T") ∷ w word.RightParen ∷ id (codes "x") ∷ []) ≡
    Some (Done (one kind.Cast 0 4 (node kind.TypedefName 1 2 none (one kind.Identifier 3 4 none))) scopes 4)
unfolding run
reads_3 = refl

-- ( x ) ( y
reads_4 : reply (w word.LeftParen ∷ id (codes "x") ∷ w word.RightParen ∷ w word.LeftParen ∷ id (codes "y") ∷ []) ≡ Some (Failed (outside 4) 3)
unfolding run
reads_4 = refl

-- a ? b : c ? d : e
reads_5 : reply (id (codes "a") ∷ w word.Question ∷ id (codes "b") ∷ w word.Colon ∷ id (codes "c") ∷ w word.Question ∷ id (codes "d") ∷ w word.Colon ∷ id (codes "e") ∷ []) ≡
    Some (Done (one kind.Conditional 0 9 (node kind.Identifier 0 1 none (node kind.Identifier 2 3 none (one kind.Conditional 4 9 (node kind.Identifier 4 5 none (node kind.Identifier 6 7 none (one kind.Identifier 8 9 none))))))) scopes 9)
unfolding run
reads_5 = refl

-- sizeof ( struct S { int ( * f ) ( T , int x ) ; } )
reads_6 : reply (w word.Sizeof ∷ w word.LeftParen ∷ w word.Struct ∷ id (codes "S") ∷ w word.LeftBrace ∷ w word.Int ∷ w word.LeftParen ∷ w word.Star ∷ id (codes "f") ∷ w word.RightParen ∷ w word.LeftParen ∷ id (codes "T") ∷ w word.Comma ∷ w word.Int ∷ id (codes "x") ∷ w word.RightParen ∷ w word.Semicolon ∷ w word.RightBrace ∷ w word.RightParen ∷ []) ≡
    Some (Done (one kind.SizeofType 0 19 (one kind.StructContent 2 18 (one kind.MemberDeclaration 5 17 (node kind.Int 5 6 none (one kind.FunctionDeclarator 6 16 (node kind.GroupDeclarator 6 10 (one kind.PointerDeclarator 7 9 (one kind.NameDeclarator 8 9 none)) (one kind.Parameters 11 15 (node kind.TypedefName 11 12 none (one kind.Parameter 13 15 (node kind.Int 13 14 none (one kind.NameDeclarator 14 15 none))))))))))) scopes 19)
unfolding run
reads_6 = refl

-- sizeof ( enum { T } ) + T : the enumerator is in scope behind itself
reads_7 : reply (w word.Sizeof ∷ w word.LeftParen ∷ w word.Enum ∷ w word.LeftBrace ∷ id (codes "T") ∷ w word.RightBrace ∷ w word.RightParen ∷ w word.Plus ∷ id (codes "T") ∷ []) ≡
    Some (Done (one kind.Add 0 9 (node kind.SizeofType 0 7 (one kind.EnumContent 2 6 (one kind.Enumerator 4 5 none)) (one kind.Identifier 8 9 none))) ((record { name = codes "T"; is_type = false } ∷ []) ∷ []) 9)
unfolding run
reads_7 = refl

-- x = y [ 1 ] . a ++ ;
reads_8 : reply (id (codes "x") ∷ w word.Equal ∷ id (codes "y") ∷ w word.LeftBracket ∷ w word.Integer ∷ w word.RightBracket ∷ w word.Dot ∷ id (codes "a") ∷ w word.PlusPlus ∷ w word.Semicolon ∷ []) ≡
    Some (Done (one kind.Assign 0 9 (node kind.Identifier 0 1 none (one kind.PostIncrement 2 9 (one kind.Member 2 8 (one kind.Subscript 2 6 (node kind.Identifier 2 3 none (one kind.Integer 4 5 none))))))) scopes 9)
unfolding run
reads_8 = refl

-- f ( 1 , 2 ) , f ( ) "a" : two texts
reads_9 : reply (id (codes "f") ∷ w word.LeftParen ∷ w word.Integer ∷ w word.Comma ∷ w word.Integer ∷ w word.RightParen ∷ w word.Comma ∷ id (codes "f") ∷ w word.LeftParen ∷ w word.RightParen ∷ w word.Text ∷ []) ≡
    Some (Done (one kind.Comma 0 10 (node kind.Call 0 6 (node kind.Integer 2 3 none (one kind.Integer 4 5 none)) (one kind.Call 7 10 none))) scopes 10)
unfolding run
reads_9 = refl

-- sizeof ( int * const ( * ) [ 3 ] [ ] )
reads_10 : reply (w word.Sizeof ∷ w word.LeftParen ∷ w word.Int ∷ w word.Star ∷ w word.Const ∷ w word.LeftParen ∷ w word.Star ∷ w word.RightParen ∷ w word.LeftBracket ∷ w word.Integer ∷ w word.RightBracket ∷ w word.LeftBracket ∷ w word.RightBracket ∷ w word.RightParen ∷ []) ≡
    Some (Done (one kind.SizeofType 0 14 (one kind.TypeName 2 13 (node kind.Int 2 3 none (one kind.AbstractPointer 3 13 (one kind.AbstractArrayOf 5 13 (one kind.AbstractArrayOf 5 11 (node kind.AbstractGroup 5 8 (one kind.AbstractPointer 6 7 none) (one kind.Integer 9 10 none)))))))) scopes 14)
unfolding run
reads_10 = refl

-- refusals: ( T ) { · struct bit-field · x float · a + · ( a · a + ) · a ? b , T
refused_1 : (reply (w word.LeftParen ∷ id (codes "T") ∷ w word.RightParen ∷ w word.LeftBrace ∷ []) ≡ Some (Failed (outside 3) 3)) ×
    (reply (w word.Sizeof ∷ w word.LeftParen ∷ w word.Struct ∷ w word.LeftBrace ∷ w word.Int ∷ id (codes "a") ∷ w word.Colon ∷ []) ≡ Some (Failed (outside 5) 6)) ×
    (reply (id (codes "x") ∷ w word.Float ∷ []) ≡ Some (Failed (outside 1) 1)) ×
    (reply (id (codes "a") ∷ w word.Plus ∷ []) ≡ Some (Failed ended 2)) ×
    (reply (w word.LeftParen ∷ id (codes "a") ∷ []) ≡ Some (Failed ended 2)) ×
    (reply (id (codes "a") ∷ w word.Plus ∷ w word.RightParen ∷ []) ≡ Some (Failed unexpected 2)) ×
    (reply (id (codes "a") ∷ w word.Comma ∷ id (codes "T") ∷ []) ≡ Some (Failed unexpected 2))
unfolding run
refused_1 = (refl, refl, refl, refl, refl, refl, refl)

-- where 127 or 128 levels are open: a bracket too deep, one that has room, a call of an expression, an unexpected bracket
abbrev deep : ℕ → List Lexeme → Option Reply
deep d ts = run 300 ts (body (whole part.Expression d)) scopes 0

refused_2 : (deep 128 (w word.LeftParen ∷ id (codes "a") ∷ w word.RightParen ∷ []) ≡ Some (Failed too_deep 0)) ×
    (deep 127 (w word.LeftParen ∷ id (codes "a") ∷ w word.RightParen ∷ []) ≡ Some (Done (one kind.Group 0 3 (one kind.Identifier 1 2 none)) scopes 3)) ×
    (deep 128 (w word.Integer ∷ w word.LeftParen ∷ []) ≡ Some (Failed too_deep 1)) ×
    (deep 127 (w word.Integer ∷ w word.LeftParen ∷ []) ≡ Some (Failed (outside 4) 1)) ×
    (deep 128 (w word.Integer ∷ w word.LeftBrace ∷ []) ≡ Some (Done (one kind.Integer 0 1 none) scopes 1)) ×
    (deep 128 (w word.Integer ∷ w word.Plus ∷ w word.LeftBrace ∷ []) ≡ Some (Failed too_deep 2)) ×
    (deep 127 (w word.Integer ∷ w word.Plus ∷ w word.LeftBrace ∷ []) ≡ Some (Failed unexpected 2))
unfolding run
refused_2 = (refl, refl, refl, refl, refl, refl, refl)

-- nothing · ) · int · T · goto · x = = y · x ? y ;
refused_3 :
    (deep 0 ([]) ≡ Some (Failed ended 0)) ×
    (deep 0 (w word.RightParen ∷ []) ≡ Some (Failed unexpected 0)) ×
    (deep 0 (w word.Int ∷ []) ≡ Some (Failed unexpected 0)) ×
    (deep 0 (id (codes "T") ∷ []) ≡ Some (Failed unexpected 0)) ×
    (deep 0 (w word.Union ∷ []) ≡ Some (Failed (outside 1) 0)) ×
    (deep 0 (id (codes "x") ∷ w word.Equal ∷ w word.Equal ∷ id (codes "y") ∷ []) ≡ Some (Failed unexpected 2)) ×
    (deep 0 (id (codes "x") ∷ w word.Question ∷ id (codes "y") ∷ w word.Semicolon ∷ []) ≡ Some (Failed unexpected 3))
unfolding run
refused_3 = (refl, refl, refl, refl, refl, refl, refl)

-- x ? y : ) · f ( x , ) · f ( x y · f ( , x ) · x [ ] · x [ y · x . 1
refused_4 :
    (deep 0 (id (codes "x") ∷ w word.Question ∷ id (codes "y") ∷ w word.Colon ∷ w word.RightParen ∷ []) ≡ Some (Failed unexpected 4)) ×
    (deep 0 (id (codes "f") ∷ w word.LeftParen ∷ id (codes "x") ∷ w word.Comma ∷ w word.RightParen ∷ []) ≡ Some (Failed unexpected 4)) ×
    (deep 0 (id (codes "f") ∷ w word.LeftParen ∷ id (codes "x") ∷ id (codes "y") ∷ []) ≡ Some (Failed unexpected 3)) ×
    (deep 0 (id (codes "f") ∷ w word.LeftParen ∷ w word.Comma ∷ id (codes "x") ∷ w word.RightParen ∷ []) ≡ Some (Failed unexpected 2)) ×
    (deep 0 (id (codes "x") ∷ w word.LeftBracket ∷ w word.RightBracket ∷ []) ≡ Some (Failed unexpected 2)) ×
    (deep 0 (id (codes "x") ∷ w word.LeftBracket ∷ id (codes "y") ∷ []) ≡ Some (Failed ended 3)) ×
    (deep 0 (id (codes "x") ∷ w word.Dot ∷ w word.Integer ∷ []) ≡ Some (Failed unexpected 2))
unfolding run
refused_4 = (refl, refl, refl, refl, refl, refl, refl)

-- x -> union · ( T x ) · ( T * const ) { · sizeof ( T ( 1 · sizeof ( int [ 1 [ · sizeof ( static · sizeof ( struct ;
refused_5 :
    (deep 0 (id (codes "x") ∷ w word.Arrow ∷ w word.Union ∷ []) ≡ Some (Failed (outside 1) 2)) ×
    (deep 0 (w word.LeftParen ∷ id (codes "T") ∷ id (codes "x") ∷ w word.RightParen ∷ []) ≡ Some (Failed unexpected 2)) ×
    (deep 0 (w word.LeftParen ∷ id (codes "T") ∷ w word.Star ∷ w word.Const ∷ w word.RightParen ∷ w word.LeftBrace ∷ []) ≡ Some (Failed (outside 3) 5)) ×
    (deep 0 (w word.Sizeof ∷ w word.LeftParen ∷ id (codes "T") ∷ w word.LeftParen ∷ w word.Integer ∷ []) ≡ Some (Failed unexpected 4)) ×
    (deep 0 (w word.Sizeof ∷ w word.LeftParen ∷ w word.Int ∷ w word.LeftBracket ∷ w word.Integer ∷ w word.LeftBracket ∷ []) ≡ Some (Failed ended 6)) ×
    (deep 0 (w word.Sizeof ∷ w word.LeftParen ∷ w word.Static ∷ []) ≡ Some (Failed unexpected 2)) ×
    (deep 0 (w word.Sizeof ∷ w word.LeftParen ∷ w word.Struct ∷ w word.Semicolon ∷ []) ≡ Some (Failed unexpected 3))
unfolding run
refused_5 = (refl, refl, refl, refl, refl, refl, refl)

-- sizeof ( struct S { } · sizeof ( struct S { int } · sizeof ( struct { int x , ; } · sizeof ( struct { int : 1 · sizeof ( struct { int x [ 1 ] : 1 · sizeof ( enum { } · sizeof ( enum { A = , }
refused_6 :
    (deep 0 (w word.Sizeof ∷ w word.LeftParen ∷ w word.Struct ∷ id (codes "S") ∷ w word.LeftBrace ∷ w word.RightBrace ∷ []) ≡ Some (Failed unexpected 5)) ×
    (deep 0 (w word.Sizeof ∷ w word.LeftParen ∷ w word.Struct ∷ id (codes "S") ∷ w word.LeftBrace ∷ w word.Int ∷ w word.RightBrace ∷ []) ≡ Some (Failed unexpected 6)) ×
    (deep 0 (w word.Sizeof ∷ w word.LeftParen ∷ w word.Struct ∷ w word.LeftBrace ∷ w word.Int ∷ id (codes "x") ∷ w word.Comma ∷ w word.Semicolon ∷ w word.RightBrace ∷ []) ≡ Some (Failed unexpected 7)) ×
    (deep 0 (w word.Sizeof ∷ w word.LeftParen ∷ w word.Struct ∷ w word.LeftBrace ∷ w word.Int ∷ w word.Colon ∷ w word.Integer ∷ []) ≡ Some (Failed unexpected 5)) ×
    (deep 0 (w word.Sizeof ∷ w word.LeftParen ∷ w word.Struct ∷ w word.LeftBrace ∷ w word.Int ∷ id (codes "x") ∷ w word.LeftBracket ∷ w word.Integer ∷ w word.RightBracket ∷ w word.Colon ∷ w word.Integer ∷ []) ≡ Some (Failed (outside 5) 9)) ×
    (deep 0 (w word.Sizeof ∷ w word.LeftParen ∷ w word.Enum ∷ w word.LeftBrace ∷ w word.RightBrace ∷ []) ≡ Some (Failed unexpected 4)) ×
    (deep 0 (w word.Sizeof ∷ w word.LeftParen ∷ w word.Enum ∷ w word.LeftBrace ∷ id (codes "A") ∷ w word.Equal ∷ w word.Comma ∷ w word.RightBrace ∷ []) ≡ Some (Failed unexpected 6))
unfolding run
refused_6 = (refl, refl, refl, refl, refl, refl, refl)

-- sizeof ( enum { A , , } · sizeof ( struct { int f ( void , ... ) ; } [ restrict · sizeof ( struct { int f ( ... ) ; } · 1 ++ ( x ) · f ( ) ( ) · "s" "s" ( ) · - x at 128 levels
refused_7 :
    (deep 0 (w word.Sizeof ∷ w word.LeftParen ∷ w word.Enum ∷ w word.LeftBrace ∷ id (codes "A") ∷ w word.Comma ∷ w word.Comma ∷ w word.RightBrace ∷ []) ≡ Some (Failed unexpected 6)) ×
    (deep 0 (w word.Sizeof ∷ w word.LeftParen ∷ w word.Struct ∷ w word.LeftBrace ∷ w word.Int ∷ id (codes "f") ∷ w word.LeftParen ∷ w word.Void ∷ w word.Comma ∷ w word.Ellipsis ∷ w word.RightParen ∷ w word.Semicolon ∷ w word.RightBrace ∷ w word.LeftBracket ∷ w word.Restrict ∷ []) ≡ Some (Failed (outside 1) 14)) ×
    (deep 0 (w word.Sizeof ∷ w word.LeftParen ∷ w word.Struct ∷ w word.LeftBrace ∷ w word.Int ∷ id (codes "f") ∷ w word.LeftParen ∷ w word.Ellipsis ∷ w word.RightParen ∷ w word.Semicolon ∷ w word.RightBrace ∷ []) ≡ Some (Failed unexpected 7)) ×
    (deep 0 (w word.Integer ∷ w word.PlusPlus ∷ w word.LeftParen ∷ id (codes "x") ∷ w word.RightParen ∷ []) ≡ Some (Failed (outside 4) 2)) ×
    (deep 0 (id (codes "f") ∷ w word.LeftParen ∷ w word.RightParen ∷ w word.LeftParen ∷ w word.RightParen ∷ []) ≡ Some (Failed (outside 4) 3)) ×
    (deep 0 (w word.Text ∷ w word.Text ∷ w word.LeftParen ∷ w word.RightParen ∷ []) ≡ Some (Failed (outside 4) 2)) ×
    (deep 128 (w word.Minus ∷ id (codes "x") ∷ []) ≡ Some (Failed too_deep 0))
unfolding run
refused_7 = (refl, refl, refl, refl, refl, refl, refl)

-- x = y at 128 levels · x ? y : z at 128 levels · ( x ) at 128 levels · sizeof ( T ) at 127 levels · ( T ) { 1 } at 127 levels · x [ { at 126 levels · x [ { at 127 levels
refused_8 :
    (deep 128 (id (codes "x") ∷ w word.Equal ∷ id (codes "y") ∷ []) ≡ Some (Failed too_deep 1)) ×
    (deep 128 (id (codes "x") ∷ w word.Question ∷ id (codes "y") ∷ w word.Colon ∷ id (codes "z") ∷ []) ≡ Some (Failed too_deep 1)) ×
    (deep 128 (w word.LeftParen ∷ id (codes "x") ∷ w word.RightParen ∷ []) ≡ Some (Failed too_deep 0)) ×
    (deep 127 (w word.Sizeof ∷ w word.LeftParen ∷ id (codes "T") ∷ w word.RightParen ∷ []) ≡ Some (Failed too_deep 1)) ×
    (deep 127 (w word.LeftParen ∷ id (codes "T") ∷ w word.RightParen ∷ w word.LeftBrace ∷ w word.Integer ∷ w word.RightBrace ∷ []) ≡ Some (Failed too_deep 3)) ×
    (deep 126 (id (codes "x") ∷ w word.LeftBracket ∷ w word.LeftBrace ∷ []) ≡ Some (Failed unexpected 2)) ×
    (deep 127 (id (codes "x") ∷ w word.LeftBracket ∷ w word.LeftBrace ∷ []) ≡ Some (Failed too_deep 2))
unfolding run
refused_8 = (refl, refl, refl, refl, refl, refl, refl)
