-- Small units that the machine reads or refuses, by running it.
use Rattle.std.proofs.Common.{◌≡◌, ℕ, Bool, true, false, List, [], ◌∷◌, Option, Some, codes, refl}
use Rattle.std.specs.Prelude.{map}
use Rattle.cr_syntax.specs.declared.word.Word.TheVariants as word
use Rattle.cr_syntax.specs.declared.node.Kind.TheVariants as kind
use Rattle.cr_syntax.specs.Words.{Lexeme}
use Rattle.cr_syntax.specs.Scopes.{Scopes}
use Rattle.cr_syntax.specs.Trees.{none, node, one}
use Rattle.cr_syntax.specs.Units.{file_scope}
use Rattle.cr_syntax_machine.specs.Machine.{Reply, Done, Failed, Labels, anywhere, own_block, in_block, nowhere, unit, statement, unexpected, ended, too_deep, outside, earlier}
use Rattle.cr_syntax_machine.specs.MachineBody.{body}
use Rattle.cr_syntax_machine_laws.proofs.MachineExamples.{run, w, id}

-- Texts that are read.

abbrev whole : Labels → List Lexeme → Option Reply
whole l ts = run 500 ts (body (unit l 0)) file_scope 0

-- the file's own scope at the end: names, and whether they are types
abbrev in_file : List (List ℕ × Bool) → Scopes
in_file ns = map (λ n. record { name = n.0; is_type = n.1 }) ns ∷ []

-- int a ;
read_1 : whole nowhere (w word.Int ∷ id (codes "a") ∷ w word.Semicolon ∷ []) ≡ Some (Done (one kind.Declaration 0 3 (node kind.Int 0 1 none (one kind.NameDeclarator 1 2 none))) (in_file ((codes "a", false) ∷ [])) 3)
unfolding run
read_1 = refl

-- int f ( int x ) { return x ; }
read_2 : whole nowhere (w word.Int ∷ id (codes "f") ∷ w word.LeftParen ∷ w word.Int ∷ id (codes "x") ∷ w word.RightParen ∷ w word.LeftBrace ∷ w word.Return ∷ id (codes "x") ∷ w word.Semicolon ∷ w word.RightBrace ∷ []) ≡ Some (Done (one kind.FunctionDefinition 0 11 (node kind.Int 0 1 none (node kind.FunctionDeclarator 1 6 (node kind.NameDeclarator 1 2 none (one kind.Parameter 3 5 (node kind.Int 3 4 none (one kind.NameDeclarator 4 5 none)))) (one kind.Compound 6 11 (one kind.Return 7 10 (one kind.Identifier 8 9 none)))))) (in_file ((codes "f", false) ∷ [])) 11)
unfolding run
read_2 = refl

-- typedef int T ; T x ;
read_3 : whole nowhere (w word.Typedef ∷ w word.Int ∷ id (codes "T") ∷ w word.Semicolon ∷ id (codes "T") ∷ id (codes "x") ∷ w word.Semicolon ∷ []) ≡ Some (Done (node kind.Declaration 0 4 (node kind.Specifiers 0 2 (node kind.Typedef 0 1 none (one kind.Int 1 2 none)) (one kind.NameDeclarator 2 3 none)) (one kind.Declaration 4 7 (node kind.TypedefName 4 5 none (one kind.NameDeclarator 5 6 none)))) (in_file ((codes "T", true) ∷ (codes "x", false) ∷ [])) 7)
unfolding run
read_3 = refl

-- typedef int T ; void f ( ) { T T ; T ; }
read_4 : whole nowhere (w word.Typedef ∷ w word.Int ∷ id (codes "T") ∷ w word.Semicolon ∷ w word.Void ∷ id (codes "f") ∷ w word.LeftParen ∷ w word.RightParen ∷ w word.LeftBrace ∷ id (codes "T") ∷ id (codes "T") ∷ w word.Semicolon ∷ id (codes "T") ∷ w word.Semicolon ∷ w word.RightBrace ∷ []) ≡ Some (Done (node kind.Declaration 0 4 (node kind.Specifiers 0 2 (node kind.Typedef 0 1 none (one kind.Int 1 2 none)) (one kind.NameDeclarator 2 3 none)) (one kind.FunctionDefinition 4 15 (node kind.Void 4 5 none (node kind.FunctionDeclarator 5 8 (one kind.NameDeclarator 5 6 none) (one kind.Compound 8 15 (node kind.Declaration 9 12 (node kind.TypedefName 9 10 none (one kind.NameDeclarator 10 11 none)) (one kind.ExpressionStatement 12 14 (one kind.Identifier 12 13 none)))))))) (in_file ((codes "T", true) ∷ (codes "f", false) ∷ [])) 15)
unfolding run
read_4 = refl

-- typedef int T ; void f ( int T ) { T ; }
read_5 : whole nowhere (w word.Typedef ∷ w word.Int ∷ id (codes "T") ∷ w word.Semicolon ∷ w word.Void ∷ id (codes "f") ∷ w word.LeftParen ∷ w word.Int ∷ id (codes "T") ∷ w word.RightParen ∷ w word.LeftBrace ∷ id (codes "T") ∷ w word.Semicolon ∷ w word.RightBrace ∷ []) ≡ Some (Done (node kind.Declaration 0 4 (node kind.Specifiers 0 2 (node kind.Typedef 0 1 none (one kind.Int 1 2 none)) (one kind.NameDeclarator 2 3 none)) (one kind.FunctionDefinition 4 14 (node kind.Void 4 5 none (node kind.FunctionDeclarator 5 10 (node kind.NameDeclarator 5 6 none (one kind.Parameter 7 9 (node kind.Int 7 8 none (one kind.NameDeclarator 8 9 none)))) (one kind.Compound 10 14 (one kind.ExpressionStatement 11 13 (one kind.Identifier 11 12 none))))))) (in_file ((codes "T", true) ∷ (codes "f", false) ∷ [])) 14)
unfolding run
read_5 = refl

-- typedef int T ; int T = sizeof ( T ) ;
read_6 : whole nowhere (w word.Typedef ∷ w word.Int ∷ id (codes "T") ∷ w word.Semicolon ∷ w word.Int ∷ id (codes "T") ∷ w word.Equal ∷ w word.Sizeof ∷ w word.LeftParen ∷ id (codes "T") ∷ w word.RightParen ∷ w word.Semicolon ∷ []) ≡ Some (Done (node kind.Declaration 0 4 (node kind.Specifiers 0 2 (node kind.Typedef 0 1 none (one kind.Int 1 2 none)) (one kind.NameDeclarator 2 3 none)) (one kind.Declaration 4 12 (node kind.Int 4 5 none (one kind.InitDeclarator 5 11 (node kind.NameDeclarator 5 6 none (one kind.SizeofExpression 7 11 (one kind.Group 8 11 (one kind.Identifier 9 10 none)))))))) (in_file ((codes "T", false) ∷ [])) 12)
unfolding run
read_6 = refl

-- void f ( ) { if ( 1 ) if ( 2 ) ; else ; }
read_7 : whole nowhere (w word.Void ∷ id (codes "f") ∷ w word.LeftParen ∷ w word.RightParen ∷ w word.LeftBrace ∷ w word.If ∷ w word.LeftParen ∷ w word.Integer ∷ w word.RightParen ∷ w word.If ∷ w word.LeftParen ∷ w word.Integer ∷ w word.RightParen ∷ w word.Semicolon ∷ w word.Else ∷ w word.Semicolon ∷ w word.RightBrace ∷ []) ≡ Some (Done (one kind.FunctionDefinition 0 17 (node kind.Void 0 1 none (node kind.FunctionDeclarator 1 4 (one kind.NameDeclarator 1 2 none) (one kind.Compound 4 17 (one kind.If 5 16 (node kind.Integer 7 8 none (one kind.If 9 16 (node kind.Integer 11 12 none (node kind.ExpressionStatement 13 14 none (one kind.ExpressionStatement 15 16 none)))))))))) (in_file ((codes "f", false) ∷ [])) 17)
unfolding run
read_7 = refl

-- void f ( ) { if ( 1 ) if ( 2 ) ; else ; else ; }
read_8 : whole nowhere (w word.Void ∷ id (codes "f") ∷ w word.LeftParen ∷ w word.RightParen ∷ w word.LeftBrace ∷ w word.If ∷ w word.LeftParen ∷ w word.Integer ∷ w word.RightParen ∷ w word.If ∷ w word.LeftParen ∷ w word.Integer ∷ w word.RightParen ∷ w word.Semicolon ∷ w word.Else ∷ w word.Semicolon ∷ w word.Else ∷ w word.Semicolon ∷ w word.RightBrace ∷ []) ≡ Some (Done (one kind.FunctionDefinition 0 19 (node kind.Void 0 1 none (node kind.FunctionDeclarator 1 4 (one kind.NameDeclarator 1 2 none) (one kind.Compound 4 19 (one kind.If 5 18 (node kind.Integer 7 8 none (node kind.If 9 16 (node kind.Integer 11 12 none (node kind.ExpressionStatement 13 14 none (one kind.ExpressionStatement 15 16 none))) (one kind.ExpressionStatement 17 18 none)))))))) (in_file ((codes "f", false) ∷ [])) 19)
unfolding run
read_8 = refl

-- void f ( ) { switch ( 1 ) { case 1 : default : break ; } }
read_9 : whole nowhere (w word.Void ∷ id (codes "f") ∷ w word.LeftParen ∷ w word.RightParen ∷ w word.LeftBrace ∷ w word.Switch ∷ w word.LeftParen ∷ w word.Integer ∷ w word.RightParen ∷ w word.LeftBrace ∷ w word.Case ∷ w word.Integer ∷ w word.Colon ∷ w word.Default ∷ w word.Colon ∷ w word.Break ∷ w word.Semicolon ∷ w word.RightBrace ∷ w word.RightBrace ∷ []) ≡ Some (Done (one kind.FunctionDefinition 0 19 (node kind.Void 0 1 none (node kind.FunctionDeclarator 1 4 (one kind.NameDeclarator 1 2 none) (one kind.Compound 4 19 (one kind.Switch 5 18 (node kind.Integer 7 8 none (one kind.Compound 9 18 (one kind.Case 10 17 (node kind.Integer 11 12 none (one kind.Default 13 17 (one kind.Break 15 17 none))))))))))) (in_file ((codes "f", false) ∷ [])) 19)
unfolding run
read_9 = refl

-- void f ( ) { for ( int i = 0 ; i ; i ++ ) ; }
read_10 : whole nowhere (w word.Void ∷ id (codes "f") ∷ w word.LeftParen ∷ w word.RightParen ∷ w word.LeftBrace ∷ w word.For ∷ w word.LeftParen ∷ w word.Int ∷ id (codes "i") ∷ w word.Equal ∷ w word.Integer ∷ w word.Semicolon ∷ id (codes "i") ∷ w word.Semicolon ∷ id (codes "i") ∷ w word.PlusPlus ∷ w word.RightParen ∷ w word.Semicolon ∷ w word.RightBrace ∷ []) ≡ Some (Done (one kind.FunctionDefinition 0 19 (node kind.Void 0 1 none (node kind.FunctionDeclarator 1 4 (one kind.NameDeclarator 1 2 none) (one kind.Compound 4 19 (one kind.For 5 18 (node kind.Declaration 7 12 (node kind.Int 7 8 none (one kind.InitDeclarator 8 11 (node kind.NameDeclarator 8 9 none (one kind.Integer 10 11 none)))) (node kind.Identifier 12 13 none (node kind.PostIncrement 14 16 (one kind.Identifier 14 15 none) (one kind.ExpressionStatement 17 18 none))))))))) (in_file ((codes "f", false) ∷ [])) 19)
unfolding run
read_10 = refl

-- void f ( ) { for ( ; ; ) while ( 1 ) do ; while ( 0 ) ; }
read_11 : whole nowhere (w word.Void ∷ id (codes "f") ∷ w word.LeftParen ∷ w word.RightParen ∷ w word.LeftBrace ∷ w word.For ∷ w word.LeftParen ∷ w word.Semicolon ∷ w word.Semicolon ∷ w word.RightParen ∷ w word.While ∷ w word.LeftParen ∷ w word.Integer ∷ w word.RightParen ∷ w word.Do ∷ w word.Semicolon ∷ w word.While ∷ w word.LeftParen ∷ w word.Integer ∷ w word.RightParen ∷ w word.Semicolon ∷ w word.RightBrace ∷ []) ≡ Some (Done (one kind.FunctionDefinition 0 22 (node kind.Void 0 1 none (node kind.FunctionDeclarator 1 4 (one kind.NameDeclarator 1 2 none) (one kind.Compound 4 22 (one kind.For 5 21 (one kind.While 10 21 (node kind.Integer 12 13 none (one kind.Do 14 21 (node kind.ExpressionStatement 15 16 none (one kind.Integer 18 19 none)))))))))) (in_file ((codes "f", false) ∷ [])) 22)
unfolding run
read_11 = refl

-- int a [ ] = { 1 , { 2 } , } ;
read_12 : whole nowhere (w word.Int ∷ id (codes "a") ∷ w word.LeftBracket ∷ w word.RightBracket ∷ w word.Equal ∷ w word.LeftBrace ∷ w word.Integer ∷ w word.Comma ∷ w word.LeftBrace ∷ w word.Integer ∷ w word.RightBrace ∷ w word.Comma ∷ w word.RightBrace ∷ w word.Semicolon ∷ []) ≡ Some (Done (one kind.Declaration 0 14 (node kind.Int 0 1 none (one kind.InitDeclarator 1 13 (node kind.ArrayDeclarator 1 4 (one kind.NameDeclarator 1 2 none) (one kind.InitializerList 5 13 (node kind.Integer 6 7 none (one kind.InitializerList 8 11 (one kind.Integer 9 10 none)))))))) (in_file ((codes "a", false) ∷ [])) 14)
unfolding run
read_12 = refl

-- int * p , q = 1 ;
read_13 : whole nowhere (w word.Int ∷ w word.Star ∷ id (codes "p") ∷ w word.Comma ∷ id (codes "q") ∷ w word.Equal ∷ w word.Integer ∷ w word.Semicolon ∷ []) ≡ Some (Done (one kind.Declaration 0 8 (node kind.Int 0 1 none (node kind.PointerDeclarator 1 3 (one kind.NameDeclarator 2 3 none) (one kind.InitDeclarator 4 7 (node kind.NameDeclarator 4 5 none (one kind.Integer 6 7 none)))))) (in_file ((codes "p", false) ∷ (codes "q", false) ∷ [])) 8)
unfolding run
read_13 = refl

-- struct S { int a ; } ;
read_14 : whole nowhere (w word.Struct ∷ id (codes "S") ∷ w word.LeftBrace ∷ w word.Int ∷ id (codes "a") ∷ w word.Semicolon ∷ w word.RightBrace ∷ w word.Semicolon ∷ []) ≡ Some (Done (one kind.Declaration 0 8 (one kind.StructContent 0 7 (one kind.MemberDeclaration 3 6 (node kind.Int 3 4 none (one kind.NameDeclarator 4 5 none))))) (in_file ([])) 8)
unfolding run
read_14 = refl

-- int f ( int a , ... ) ;
read_15 : whole nowhere (w word.Int ∷ id (codes "f") ∷ w word.LeftParen ∷ w word.Int ∷ id (codes "a") ∷ w word.Comma ∷ w word.Ellipsis ∷ w word.RightParen ∷ w word.Semicolon ∷ []) ≡ Some (Done (one kind.Declaration 0 9 (node kind.Int 0 1 none (one kind.FunctionDeclarator 1 8 (node kind.NameDeclarator 1 2 none (one kind.VariadicParameters 3 7 (one kind.Parameter 3 5 (node kind.Int 3 4 none (one kind.NameDeclarator 4 5 none)))))))) (in_file ((codes "f", false) ∷ [])) 9)
unfolding run
read_15 = refl

-- int f ( int a , ... ) { }
read_16 : whole anywhere (w word.Int ∷ id (codes "f") ∷ w word.LeftParen ∷ w word.Int ∷ id (codes "a") ∷ w word.Comma ∷ w word.Ellipsis ∷ w word.RightParen ∷ w word.LeftBrace ∷ w word.RightBrace ∷ []) ≡ Some (Done (one kind.FunctionDefinition 0 10 (node kind.Int 0 1 none (node kind.FunctionDeclarator 1 8 (node kind.NameDeclarator 1 2 none (one kind.VariadicParameters 3 7 (one kind.Parameter 3 5 (node kind.Int 3 4 none (one kind.NameDeclarator 4 5 none))))) (one kind.Compound 8 10 none)))) (in_file ((codes "f", false) ∷ [])) 10)
unfolding run
read_16 = refl

-- void f ( ) { case 1 : ; }
read_17 : whole anywhere (w word.Void ∷ id (codes "f") ∷ w word.LeftParen ∷ w word.RightParen ∷ w word.LeftBrace ∷ w word.Case ∷ w word.Integer ∷ w word.Colon ∷ w word.Semicolon ∷ w word.RightBrace ∷ []) ≡ Some (Done (one kind.FunctionDefinition 0 10 (node kind.Void 0 1 none (node kind.FunctionDeclarator 1 4 (one kind.NameDeclarator 1 2 none) (one kind.Compound 4 10 (one kind.Case 5 9 (node kind.Integer 6 7 none (one kind.ExpressionStatement 8 9 none))))))) (in_file ((codes "f", false) ∷ [])) 10)
unfolding run
read_17 = refl

-- Texts that are refused.

abbrev refused : List Lexeme → Option Reply
refused ts = whole nowhere ts

-- nothing · int f ( ) { return } · int a [ ] = { [ · int a = . · void f ( ) { switch ( 1 ) { { case · void f ( ) { case · void f ( ) { switch ( 1 ) case
refused_18 :
    (refused ([]) ≡ Some (Failed ended 0)) ×
    (refused (w word.Int ∷ id (codes "f") ∷ w word.LeftParen ∷ w word.RightParen ∷ w word.LeftBrace ∷ w word.Return ∷ w word.RightBrace ∷ []) ≡ Some (Failed unexpected 6)) ×
    (refused (w word.Int ∷ id (codes "a") ∷ w word.LeftBracket ∷ w word.RightBracket ∷ w word.Equal ∷ w word.LeftBrace ∷ w word.LeftBracket ∷ []) ≡ Some (Failed (outside 2) 6)) ×
    (refused (w word.Int ∷ id (codes "a") ∷ w word.Equal ∷ w word.Dot ∷ []) ≡ Some (Failed (outside 2) 3)) ×
    (refused (w word.Void ∷ id (codes "f") ∷ w word.LeftParen ∷ w word.RightParen ∷ w word.LeftBrace ∷ w word.Switch ∷ w word.LeftParen ∷ w word.Integer ∷ w word.RightParen ∷ w word.LeftBrace ∷ w word.LeftBrace ∷ w word.Case ∷ []) ≡ Some (Failed (outside 6) 11)) ×
    (refused (w word.Void ∷ id (codes "f") ∷ w word.LeftParen ∷ w word.RightParen ∷ w word.LeftBrace ∷ w word.Case ∷ []) ≡ Some (Failed (outside 6) 5)) ×
    (refused (w word.Void ∷ id (codes "f") ∷ w word.LeftParen ∷ w word.RightParen ∷ w word.LeftBrace ∷ w word.Switch ∷ w word.LeftParen ∷ w word.Integer ∷ w word.RightParen ∷ w word.Case ∷ []) ≡ Some (Failed (outside 6) 9))
unfolding run
refused_18 = (refl, refl, refl, refl, refl, refl, refl)

-- void f ( ) { switch ( x ) a ; · void f ( ) { switch ( 1 ) int · int f ( int a , ... ) { · int x int · int f ( ) { · goto · void f ( ) { else
refused_19 :
    (refused (w word.Void ∷ id (codes "f") ∷ w word.LeftParen ∷ w word.RightParen ∷ w word.LeftBrace ∷ w word.Switch ∷ w word.LeftParen ∷ id (codes "x") ∷ w word.RightParen ∷ id (codes "a") ∷ w word.Semicolon ∷ []) ≡ Some (Failed (outside 7) 9)) ×
    (refused (w word.Void ∷ id (codes "f") ∷ w word.LeftParen ∷ w word.RightParen ∷ w word.LeftBrace ∷ w word.Switch ∷ w word.LeftParen ∷ w word.Integer ∷ w word.RightParen ∷ w word.Int ∷ []) ≡ Some (Failed unexpected 9)) ×
    (refused (w word.Int ∷ id (codes "f") ∷ w word.LeftParen ∷ w word.Int ∷ id (codes "a") ∷ w word.Comma ∷ w word.Ellipsis ∷ w word.RightParen ∷ w word.LeftBrace ∷ []) ≡ Some (Failed (earlier 6 8) 8)) ×
    (refused (w word.Int ∷ id (codes "x") ∷ w word.Int ∷ []) ≡ Some (Failed unexpected 2)) ×
    (refused (w word.Int ∷ id (codes "f") ∷ w word.LeftParen ∷ w word.RightParen ∷ w word.LeftBrace ∷ []) ≡ Some (Failed ended 5)) ×
    (refused (w word.Union ∷ []) ≡ Some (Failed (outside 1) 0)) ×
    (refused (w word.Void ∷ id (codes "f") ∷ w word.LeftParen ∷ w word.RightParen ∷ w word.LeftBrace ∷ w word.Else ∷ []) ≡ Some (Failed unexpected 5))
unfolding run
refused_19 = (refl, refl, refl, refl, refl, refl, refl)

-- void f ( ) { if ( 1 ) ; else ; else · int T ; T x ; · int a = { } · void f ( ) { switch ( 1 ) { case 1 : { default · void f ( ) { switch ( 1 ) { if ( 1 ) case · int a , ; · void f ( ) { for ( int i ; ; static
refused_20 :
    (refused (w word.Void ∷ id (codes "f") ∷ w word.LeftParen ∷ w word.RightParen ∷ w word.LeftBrace ∷ w word.If ∷ w word.LeftParen ∷ w word.Integer ∷ w word.RightParen ∷ w word.Semicolon ∷ w word.Else ∷ w word.Semicolon ∷ w word.Else ∷ []) ≡ Some (Failed unexpected 12)) ×
    (refused (w word.Int ∷ id (codes "T") ∷ w word.Semicolon ∷ id (codes "T") ∷ id (codes "x") ∷ w word.Semicolon ∷ []) ≡ Some (Failed unexpected 3)) ×
    (refused (w word.Int ∷ id (codes "a") ∷ w word.Equal ∷ w word.LeftBrace ∷ w word.RightBrace ∷ []) ≡ Some (Failed unexpected 4)) ×
    (refused (w word.Void ∷ id (codes "f") ∷ w word.LeftParen ∷ w word.RightParen ∷ w word.LeftBrace ∷ w word.Switch ∷ w word.LeftParen ∷ w word.Integer ∷ w word.RightParen ∷ w word.LeftBrace ∷ w word.Case ∷ w word.Integer ∷ w word.Colon ∷ w word.LeftBrace ∷ w word.Default ∷ []) ≡ Some (Failed (outside 6) 14)) ×
    (refused (w word.Void ∷ id (codes "f") ∷ w word.LeftParen ∷ w word.RightParen ∷ w word.LeftBrace ∷ w word.Switch ∷ w word.LeftParen ∷ w word.Integer ∷ w word.RightParen ∷ w word.LeftBrace ∷ w word.If ∷ w word.LeftParen ∷ w word.Integer ∷ w word.RightParen ∷ w word.Case ∷ []) ≡ Some (Failed (outside 6) 14)) ×
    (refused (w word.Int ∷ id (codes "a") ∷ w word.Comma ∷ w word.Semicolon ∷ []) ≡ Some (Failed unexpected 3)) ×
    (refused (w word.Void ∷ id (codes "f") ∷ w word.LeftParen ∷ w word.RightParen ∷ w word.LeftBrace ∷ w word.For ∷ w word.LeftParen ∷ w word.Int ∷ id (codes "i") ∷ w word.Semicolon ∷ w word.Semicolon ∷ w word.Static ∷ []) ≡ Some (Failed unexpected 11))
unfolding run
refused_20 = (refl, refl, refl, refl, refl, refl, refl)

-- void f ( ) { L : ; goto L ; }
read_labels : whole nowhere (w word.Void ∷ id (codes "f") ∷ w word.LeftParen ∷ w word.RightParen ∷ w word.LeftBrace ∷ id (codes "L") ∷ w word.Colon ∷ w word.Semicolon ∷ w word.Goto ∷ id (codes "L") ∷ w word.Semicolon ∷ w word.RightBrace ∷ []) ≡
    Some (Done (one kind.FunctionDefinition 0 12 (node kind.Void 0 1 none (node kind.FunctionDeclarator 1 4 (one kind.NameDeclarator 1 2 none) (one kind.Compound 4 12 (node kind.Label 5 8 (one kind.ExpressionStatement 7 8 none) (one kind.Goto 8 11 none)))))) (in_file ((codes "f", false) ∷ [])) 12)
unfolding run
read_labels = refl

-- void f ( ) { if ( 1 ) L : · typedef int T ; void f ( ) { if ( 1 ) T x · typedef int T ; void f ( ) { L : T x · goto ;
refused_labels :
    (refused (w word.Void ∷ id (codes "f") ∷ w word.LeftParen ∷ w word.RightParen ∷ w word.LeftBrace ∷ w word.If ∷ w word.LeftParen ∷ w word.Integer ∷ w word.RightParen ∷ id (codes "L") ∷ w word.Colon ∷ w word.Semicolon ∷ w word.RightBrace ∷ []) ≡ Some (Failed (earlier 9 9) 10)) ×
    (refused (w word.Typedef ∷ w word.Int ∷ id (codes "T") ∷ w word.Semicolon ∷ w word.Void ∷ id (codes "f") ∷ w word.LeftParen ∷ w word.RightParen ∷ w word.LeftBrace ∷ w word.If ∷ w word.LeftParen ∷ w word.Integer ∷ w word.RightParen ∷ id (codes "T") ∷ w word.Colon ∷ []) ≡ Some (Failed (earlier 13 9) 14)) ×
    (refused (w word.Typedef ∷ w word.Int ∷ id (codes "T") ∷ w word.Semicolon ∷ w word.Void ∷ id (codes "f") ∷ w word.LeftParen ∷ w word.RightParen ∷ w word.LeftBrace ∷ w word.If ∷ w word.LeftParen ∷ w word.Integer ∷ w word.RightParen ∷ id (codes "T") ∷ id (codes "x") ∷ []) ≡ Some (Failed unexpected 14)) ×
    (refused (w word.Typedef ∷ w word.Int ∷ id (codes "T") ∷ w word.Semicolon ∷ w word.Void ∷ id (codes "f") ∷ w word.LeftParen ∷ w word.RightParen ∷ w word.LeftBrace ∷ id (codes "L") ∷ w word.Colon ∷ id (codes "T") ∷ id (codes "x") ∷ []) ≡ Some (Failed unexpected 12)) ×
    (refused (w word.Void ∷ id (codes "f") ∷ w word.LeftParen ∷ w word.RightParen ∷ w word.LeftBrace ∷ w word.Goto ∷ w word.Semicolon ∷ w word.RightBrace ∷ []) ≡ Some (Failed unexpected 6))
unfolding run
refused_labels = (refl, refl, refl, refl, refl)

-- A statement where so many levels are open.

abbrev deep : Labels → ℕ → List Lexeme → Option Reply
deep l d ts = run 200 ts (body (statement l d)) [] 0

-- { } at 128 levels · ; at 128 levels · if ( 1 ) ; at 127 levels · if ( 1 ) ; at 128 levels · if ( 1 ) ; else ; at 127 levels · if ( 1 ) { } at 127 levels
deep_21 :
    (deep nowhere 128 (w word.LeftBrace ∷ w word.RightBrace ∷ []) ≡ Some (Failed too_deep 0)) ×
    (deep nowhere 128 (w word.Semicolon ∷ []) ≡ Some (Done (one kind.ExpressionStatement 0 1 none) [] 1)) ×
    (deep nowhere 127 (w word.If ∷ w word.LeftParen ∷ w word.Integer ∷ w word.RightParen ∷ w word.Semicolon ∷ []) ≡ Some (Done (one kind.If 0 5 (node kind.Integer 2 3 none (one kind.ExpressionStatement 4 5 none))) [] 5)) ×
    (deep nowhere 128 (w word.If ∷ w word.LeftParen ∷ w word.Integer ∷ w word.RightParen ∷ w word.Semicolon ∷ []) ≡ Some (Failed too_deep 1)) ×
    (deep nowhere 127 (w word.If ∷ w word.LeftParen ∷ w word.Integer ∷ w word.RightParen ∷ w word.Semicolon ∷ w word.Else ∷ w word.Semicolon ∷ []) ≡ Some (Done (one kind.If 0 7 (node kind.Integer 2 3 none (node kind.ExpressionStatement 4 5 none (one kind.ExpressionStatement 6 7 none)))) [] 7)) ×
    (deep nowhere 127 (w word.If ∷ w word.LeftParen ∷ w word.Integer ∷ w word.RightParen ∷ w word.LeftBrace ∷ w word.RightBrace ∷ []) ≡ Some (Failed too_deep 4))
unfolding run
deep_21 = (refl, refl, refl, refl, refl, refl)

-- do ; while ( 1 ) ; at 128 levels · do ; while ( 1 ) ; at 127 levels · case 1 : ; at 128 levels · case 1 : ; at 127 levels · switch ( 1 ) { } at 127 levels · switch ( 1 ) { } at 126 levels · switch ( 1 ) ; at 127 levels
deep_22 :
    (deep nowhere 128 (w word.Do ∷ w word.Semicolon ∷ w word.While ∷ w word.LeftParen ∷ w word.Integer ∷ w word.RightParen ∷ w word.Semicolon ∷ []) ≡ Some (Failed too_deep 0)) ×
    (deep nowhere 127 (w word.Do ∷ w word.Semicolon ∷ w word.While ∷ w word.LeftParen ∷ w word.Integer ∷ w word.RightParen ∷ w word.Semicolon ∷ []) ≡ Some (Done (one kind.Do 0 7 (node kind.ExpressionStatement 1 2 none (one kind.Integer 4 5 none))) [] 7)) ×
    (deep own_block 128 (w word.Case ∷ w word.Integer ∷ w word.Colon ∷ w word.Semicolon ∷ []) ≡ Some (Failed too_deep 2)) ×
    (deep own_block 127 (w word.Case ∷ w word.Integer ∷ w word.Colon ∷ w word.Semicolon ∷ []) ≡ Some (Done (one kind.Case 0 4 (node kind.Integer 1 2 none (one kind.ExpressionStatement 3 4 none))) [] 4)) ×
    (deep nowhere 127 (w word.Switch ∷ w word.LeftParen ∷ w word.Integer ∷ w word.RightParen ∷ w word.LeftBrace ∷ w word.RightBrace ∷ []) ≡ Some (Failed too_deep 4)) ×
    (deep nowhere 126 (w word.Switch ∷ w word.LeftParen ∷ w word.Integer ∷ w word.RightParen ∷ w word.LeftBrace ∷ w word.RightBrace ∷ []) ≡ Some (Done (one kind.Switch 0 6 (node kind.Integer 2 3 none (one kind.Compound 4 6 none))) [] 6)) ×
    (deep nowhere 127 (w word.Switch ∷ w word.LeftParen ∷ w word.Integer ∷ w word.RightParen ∷ w word.Semicolon ∷ []) ≡ Some (Failed (outside 7) 4))
unfolding run
deep_22 = (refl, refl, refl, refl, refl, refl, refl)

-- an opening word as a switch's body is too deep before it is refused as one; a label is refused before its colon is too deep
deep_23 :
    (deep nowhere 127 (w word.Switch ∷ w word.LeftParen ∷ w word.Integer ∷ w word.RightParen ∷ w word.Do ∷ []) ≡ Some (Failed too_deep 4)) ×
    (deep nowhere 127 (w word.Switch ∷ w word.LeftParen ∷ w word.Integer ∷ w word.RightParen ∷ id (codes "a") ∷ []) ≡ Some (Failed (outside 7) 4)) ×
    (deep nowhere 126 (w word.Switch ∷ w word.LeftParen ∷ w word.Integer ∷ w word.RightParen ∷ w word.Do ∷ []) ≡ Some (Failed (outside 7) 4)) ×
    (deep in_block 128 (id (codes "L") ∷ w word.Colon ∷ w word.Semicolon ∷ []) ≡ Some (Failed too_deep 1)) ×
    (deep nowhere 128 (id (codes "L") ∷ w word.Colon ∷ w word.Semicolon ∷ []) ≡ Some (Failed (earlier 0 9) 1))
unfolding run
deep_23 = (refl, refl, refl, refl, refl)
