-- Small texts with their trees, built by hand, which the grammar takes; and each with one token, one kind or one part
-- changed, which it refuses. By the laws of reading these are units, and the changed ones none.
use Rattle.std.proofs.Common.{◌≡◌, Bool, true, false, List, [], ◌∷◌, length, codes, refl}
use Rattle.std.specs.Prelude.{ℕ, zero, suc, ◌+◌, ◌*◌, ◌++◌, is_some}
use Rattle.cr_syntax.specs.declared.word.Word.{Word}
use Rattle.cr_syntax.specs.declared.word.Word.TheVariants as word
use Rattle.cr_syntax.specs.declared.node.Kind.TheVariants as kind
use Rattle.cr_syntax.specs.Words.{Lexeme}
use Rattle.cr_syntax.specs.Trees.{Trees, none, node}
use Rattle.cr_syntax.specs.Context.{fresh}
use Rattle.cr_syntax.specs.Tables.{rule_of}
use Rattle.cr_syntax.specs.Reads.{as_part, along, reads}
use Rattle.cr_syntax.specs.Units.{unit_side, file_scope}

abbrev pub lexeme : Word → List ℕ → Lexeme
lexeme w s = record { word = w; spelling = s }

-- a token whose spelling the grammar doesn't ask for
abbrev pub plain : Word → Lexeme
plain w = lexeme w []

abbrev is_read : List Lexeme → Trees → Bool
is_read ts t = is_some (reads ts t unit_side fresh file_scope 0 0 (length ts))

-- a declaration: int x ;
takes_1 : (is_read (plain word.Int ∷ lexeme word.Identifier (codes "x") ∷ plain word.Semicolon ∷ []) (node kind.Declaration 0 3 (node kind.Int 0 1 none (node kind.NameDeclarator 1 2 none none)) none) ≡ true) ×
    (is_read (plain word.Int ∷ lexeme word.Identifier (codes "x") ∷ plain word.Float ∷ []) (node kind.Declaration 0 3 (node kind.Int 0 1 none (node kind.NameDeclarator 1 2 none none)) none) ≡ false) ×
    (is_read (plain word.Int ∷ lexeme word.Identifier (codes "x") ∷ plain word.Semicolon ∷ []) (node kind.Declaration 0 3 (node kind.Int 0 1 none (node kind.Break 1 2 none none)) none) ≡ false) ×
    (is_read (plain word.Int ∷ lexeme word.Identifier (codes "x") ∷ plain word.Semicolon ∷ []) (node kind.Declaration 0 3 (node kind.NameDeclarator 1 2 none none) none) ≡ false)
unfolding reads along as_part rule_of
takes_1 = (refl, refl, refl, refl)

-- typedef names and identifiers: typedef int T ; int f ( void ) { T * x ; { int T = 1 ; T * T ; } return 0 ; }
takes_2 : (is_read (plain word.Typedef ∷ plain word.Int ∷ lexeme word.Identifier (codes "T") ∷ plain word.Semicolon ∷ plain word.Int ∷ lexeme word.Identifier (codes "f") ∷ plain word.LeftParen ∷ plain word.Void ∷ plain word.RightParen ∷ plain word.LeftBrace ∷ lexeme word.Identifier (codes "T") ∷ plain word.Star ∷ lexeme word.Identifier (codes "x") ∷ plain word.Semicolon ∷ plain word.LeftBrace ∷ plain word.Int ∷ lexeme word.Identifier (codes "T") ∷ plain word.Equal ∷ plain word.Integer ∷ plain word.Semicolon ∷ lexeme word.Identifier (codes "T") ∷ plain word.Star ∷ lexeme word.Identifier (codes "T") ∷ plain word.Semicolon ∷ plain word.RightBrace ∷ plain word.Return ∷ plain word.Integer ∷ plain word.Semicolon ∷ plain word.RightBrace ∷ []) (node kind.Declaration 0 4 (node kind.Specifiers 0 2 (node kind.Typedef 0 1 none (node kind.Int 1 2 none none)) (node kind.NameDeclarator 2 3 none none)) (node kind.FunctionDefinition 4 29 (node kind.Int 4 5 none (node kind.FunctionDeclarator 5 9 (node kind.NameDeclarator 5 6 none (node kind.VoidParameters 7 8 none none)) (node kind.Compound 9 29 (node kind.Declaration 10 14 (node kind.TypedefName 10 11 none (node kind.PointerDeclarator 11 13 (node kind.NameDeclarator 12 13 none none) none)) (node kind.Compound 14 25 (node kind.Declaration 15 20 (node kind.Int 15 16 none (node kind.InitDeclarator 16 19 (node kind.NameDeclarator 16 17 none (node kind.Integer 18 19 none none)) none)) (node kind.ExpressionStatement 20 24 (node kind.Multiply 20 23 (node kind.Identifier 20 21 none (node kind.Identifier 22 23 none none)) none) none)) (node kind.Return 25 28 (node kind.Integer 26 27 none none) none))) none))) none)) ≡ true) ×
    (is_read (plain word.Typedef ∷ plain word.Int ∷ lexeme word.Identifier (codes "T") ∷ plain word.Semicolon ∷ plain word.Int ∷ lexeme word.Identifier (codes "f") ∷ plain word.LeftParen ∷ plain word.Void ∷ plain word.RightParen ∷ plain word.LeftBrace ∷ lexeme word.Identifier (codes "T") ∷ plain word.Star ∷ lexeme word.Identifier (codes "x") ∷ plain word.Semicolon ∷ plain word.LeftBrace ∷ plain word.Int ∷ lexeme word.Identifier (codes "T") ∷ plain word.Equal ∷ plain word.Integer ∷ plain word.Semicolon ∷ lexeme word.Identifier (codes "T") ∷ plain word.Star ∷ lexeme word.Identifier (codes "T") ∷ plain word.Semicolon ∷ plain word.RightBrace ∷ plain word.Return ∷ plain word.Integer ∷ plain word.Semicolon ∷ plain word.Float ∷ []) (node kind.Declaration 0 4 (node kind.Specifiers 0 2 (node kind.Typedef 0 1 none (node kind.Int 1 2 none none)) (node kind.NameDeclarator 2 3 none none)) (node kind.FunctionDefinition 4 29 (node kind.Int 4 5 none (node kind.FunctionDeclarator 5 9 (node kind.NameDeclarator 5 6 none (node kind.VoidParameters 7 8 none none)) (node kind.Compound 9 29 (node kind.Declaration 10 14 (node kind.TypedefName 10 11 none (node kind.PointerDeclarator 11 13 (node kind.NameDeclarator 12 13 none none) none)) (node kind.Compound 14 25 (node kind.Declaration 15 20 (node kind.Int 15 16 none (node kind.InitDeclarator 16 19 (node kind.NameDeclarator 16 17 none (node kind.Integer 18 19 none none)) none)) (node kind.ExpressionStatement 20 24 (node kind.Multiply 20 23 (node kind.Identifier 20 21 none (node kind.Identifier 22 23 none none)) none) none)) (node kind.Return 25 28 (node kind.Integer 26 27 none none) none))) none))) none)) ≡ false) ×
    (is_read (plain word.Typedef ∷ plain word.Int ∷ lexeme word.Identifier (codes "T") ∷ plain word.Semicolon ∷ plain word.Int ∷ lexeme word.Identifier (codes "f") ∷ plain word.LeftParen ∷ plain word.Void ∷ plain word.RightParen ∷ plain word.LeftBrace ∷ lexeme word.Identifier (codes "T") ∷ plain word.Star ∷ lexeme word.Identifier (codes "x") ∷ plain word.Semicolon ∷ plain word.LeftBrace ∷ plain word.Int ∷ lexeme word.Identifier (codes "T") ∷ plain word.Equal ∷ plain word.Integer ∷ plain word.Semicolon ∷ lexeme word.Identifier (codes "T") ∷ plain word.Star ∷ lexeme word.Identifier (codes "T") ∷ plain word.Semicolon ∷ plain word.RightBrace ∷ plain word.Return ∷ plain word.Integer ∷ plain word.Semicolon ∷ plain word.RightBrace ∷ []) (node kind.Declaration 0 4 (node kind.Specifiers 0 2 (node kind.Typedef 0 1 none (node kind.Int 1 2 none none)) (node kind.NameDeclarator 2 3 none none)) (node kind.FunctionDefinition 4 29 (node kind.Int 4 5 none (node kind.FunctionDeclarator 5 9 (node kind.NameDeclarator 5 6 none (node kind.VoidParameters 7 8 none none)) (node kind.Compound 9 29 (node kind.Declaration 10 14 (node kind.TypedefName 10 11 none (node kind.PointerDeclarator 11 13 (node kind.NameDeclarator 12 13 none none) none)) (node kind.Compound 14 25 (node kind.Declaration 15 20 (node kind.Int 15 16 none (node kind.InitDeclarator 16 19 (node kind.NameDeclarator 16 17 none (node kind.Integer 18 19 none none)) none)) (node kind.ExpressionStatement 20 24 (node kind.Multiply 20 23 (node kind.Identifier 20 21 none (node kind.Identifier 22 23 none none)) none) none)) (node kind.Return 25 28 (node kind.Break 26 27 none none) none))) none))) none)) ≡ false) ×
    (is_read (plain word.Typedef ∷ plain word.Int ∷ lexeme word.Identifier (codes "T") ∷ plain word.Semicolon ∷ plain word.Int ∷ lexeme word.Identifier (codes "f") ∷ plain word.LeftParen ∷ plain word.Void ∷ plain word.RightParen ∷ plain word.LeftBrace ∷ lexeme word.Identifier (codes "T") ∷ plain word.Star ∷ lexeme word.Identifier (codes "x") ∷ plain word.Semicolon ∷ plain word.LeftBrace ∷ plain word.Int ∷ lexeme word.Identifier (codes "T") ∷ plain word.Equal ∷ plain word.Integer ∷ plain word.Semicolon ∷ lexeme word.Identifier (codes "T") ∷ plain word.Star ∷ lexeme word.Identifier (codes "T") ∷ plain word.Semicolon ∷ plain word.RightBrace ∷ plain word.Return ∷ plain word.Integer ∷ plain word.Semicolon ∷ plain word.RightBrace ∷ []) (node kind.Declaration 0 4 (node kind.Specifiers 0 2 (node kind.Typedef 0 1 none (node kind.Int 1 2 none none)) (node kind.NameDeclarator 2 3 none none)) (node kind.FunctionDefinition 4 29 (node kind.FunctionDeclarator 5 9 (node kind.NameDeclarator 5 6 none (node kind.VoidParameters 7 8 none none)) (node kind.Compound 9 29 (node kind.Declaration 10 14 (node kind.TypedefName 10 11 none (node kind.PointerDeclarator 11 13 (node kind.NameDeclarator 12 13 none none) none)) (node kind.Compound 14 25 (node kind.Declaration 15 20 (node kind.Int 15 16 none (node kind.InitDeclarator 16 19 (node kind.NameDeclarator 16 17 none (node kind.Integer 18 19 none none)) none)) (node kind.ExpressionStatement 20 24 (node kind.Multiply 20 23 (node kind.Identifier 20 21 none (node kind.Identifier 22 23 none none)) none) none)) (node kind.Return 25 28 (node kind.Integer 26 27 none none) none))) none)) none)) ≡ false)
unfolding reads along as_part rule_of
takes_2 = (refl, refl, refl, refl)

-- the dangling else: int f ( void ) { if ( 1 ) if ( 2 ) ; else ; }
takes_3 : (is_read (plain word.Int ∷ lexeme word.Identifier (codes "f") ∷ plain word.LeftParen ∷ plain word.Void ∷ plain word.RightParen ∷ plain word.LeftBrace ∷ plain word.If ∷ plain word.LeftParen ∷ plain word.Integer ∷ plain word.RightParen ∷ plain word.If ∷ plain word.LeftParen ∷ plain word.Integer ∷ plain word.RightParen ∷ plain word.Semicolon ∷ plain word.Else ∷ plain word.Semicolon ∷ plain word.RightBrace ∷ []) (node kind.FunctionDefinition 0 18 (node kind.Int 0 1 none (node kind.FunctionDeclarator 1 5 (node kind.NameDeclarator 1 2 none (node kind.VoidParameters 3 4 none none)) (node kind.Compound 5 18 (node kind.If 6 17 (node kind.Integer 8 9 none (node kind.If 10 17 (node kind.Integer 12 13 none (node kind.ExpressionStatement 14 15 none (node kind.ExpressionStatement 16 17 none none))) none)) none) none))) none) ≡ true) ×
    (is_read (plain word.Int ∷ lexeme word.Identifier (codes "f") ∷ plain word.LeftParen ∷ plain word.Void ∷ plain word.RightParen ∷ plain word.LeftBrace ∷ plain word.If ∷ plain word.LeftParen ∷ plain word.Integer ∷ plain word.Float ∷ plain word.If ∷ plain word.LeftParen ∷ plain word.Integer ∷ plain word.RightParen ∷ plain word.Semicolon ∷ plain word.Else ∷ plain word.Semicolon ∷ plain word.RightBrace ∷ []) (node kind.FunctionDefinition 0 18 (node kind.Int 0 1 none (node kind.FunctionDeclarator 1 5 (node kind.NameDeclarator 1 2 none (node kind.VoidParameters 3 4 none none)) (node kind.Compound 5 18 (node kind.If 6 17 (node kind.Integer 8 9 none (node kind.If 10 17 (node kind.Integer 12 13 none (node kind.ExpressionStatement 14 15 none (node kind.ExpressionStatement 16 17 none none))) none)) none) none))) none) ≡ false) ×
    (is_read (plain word.Int ∷ lexeme word.Identifier (codes "f") ∷ plain word.LeftParen ∷ plain word.Void ∷ plain word.RightParen ∷ plain word.LeftBrace ∷ plain word.If ∷ plain word.LeftParen ∷ plain word.Integer ∷ plain word.RightParen ∷ plain word.If ∷ plain word.LeftParen ∷ plain word.Integer ∷ plain word.RightParen ∷ plain word.Semicolon ∷ plain word.Else ∷ plain word.Semicolon ∷ plain word.RightBrace ∷ []) (node kind.FunctionDefinition 0 18 (node kind.Int 0 1 none (node kind.FunctionDeclarator 1 5 (node kind.NameDeclarator 1 2 none (node kind.VoidParameters 3 4 none none)) (node kind.Compound 5 18 (node kind.If 6 17 (node kind.Integer 8 9 none (node kind.If 10 17 (node kind.Integer 12 13 none (node kind.ExpressionStatement 14 15 none (node kind.Break 16 17 none none))) none)) none) none))) none) ≡ false) ×
    (is_read (plain word.Int ∷ lexeme word.Identifier (codes "f") ∷ plain word.LeftParen ∷ plain word.Void ∷ plain word.RightParen ∷ plain word.LeftBrace ∷ plain word.If ∷ plain word.LeftParen ∷ plain word.Integer ∷ plain word.RightParen ∷ plain word.If ∷ plain word.LeftParen ∷ plain word.Integer ∷ plain word.RightParen ∷ plain word.Semicolon ∷ plain word.Else ∷ plain word.Semicolon ∷ plain word.RightBrace ∷ []) (node kind.FunctionDefinition 0 18 (node kind.FunctionDeclarator 1 5 (node kind.NameDeclarator 1 2 none (node kind.VoidParameters 3 4 none none)) (node kind.Compound 5 18 (node kind.If 6 17 (node kind.Integer 8 9 none (node kind.If 10 17 (node kind.Integer 12 13 none (node kind.ExpressionStatement 14 15 none (node kind.ExpressionStatement 16 17 none none))) none)) none) none)) none) ≡ false)
unfolding reads along as_part rule_of
takes_3 = (refl, refl, refl, refl)

-- operators to the left: int f ( void ) { 1 - 2 - 3 * 4 ; }
takes_4 : (is_read (plain word.Int ∷ lexeme word.Identifier (codes "f") ∷ plain word.LeftParen ∷ plain word.Void ∷ plain word.RightParen ∷ plain word.LeftBrace ∷ plain word.Integer ∷ plain word.Minus ∷ plain word.Integer ∷ plain word.Minus ∷ plain word.Integer ∷ plain word.Star ∷ plain word.Integer ∷ plain word.Semicolon ∷ plain word.RightBrace ∷ []) (node kind.FunctionDefinition 0 15 (node kind.Int 0 1 none (node kind.FunctionDeclarator 1 5 (node kind.NameDeclarator 1 2 none (node kind.VoidParameters 3 4 none none)) (node kind.Compound 5 15 (node kind.ExpressionStatement 6 14 (node kind.Subtract 6 13 (node kind.Subtract 6 9 (node kind.Integer 6 7 none (node kind.Integer 8 9 none none)) (node kind.Multiply 10 13 (node kind.Integer 10 11 none (node kind.Integer 12 13 none none)) none)) none) none) none))) none) ≡ true) ×
    (is_read (plain word.Int ∷ lexeme word.Identifier (codes "f") ∷ plain word.LeftParen ∷ plain word.Void ∷ plain word.RightParen ∷ plain word.LeftBrace ∷ plain word.Integer ∷ plain word.Minus ∷ plain word.Integer ∷ plain word.Minus ∷ plain word.Integer ∷ plain word.Star ∷ plain word.Integer ∷ plain word.Semicolon ∷ plain word.Float ∷ []) (node kind.FunctionDefinition 0 15 (node kind.Int 0 1 none (node kind.FunctionDeclarator 1 5 (node kind.NameDeclarator 1 2 none (node kind.VoidParameters 3 4 none none)) (node kind.Compound 5 15 (node kind.ExpressionStatement 6 14 (node kind.Subtract 6 13 (node kind.Subtract 6 9 (node kind.Integer 6 7 none (node kind.Integer 8 9 none none)) (node kind.Multiply 10 13 (node kind.Integer 10 11 none (node kind.Integer 12 13 none none)) none)) none) none) none))) none) ≡ false) ×
    (is_read (plain word.Int ∷ lexeme word.Identifier (codes "f") ∷ plain word.LeftParen ∷ plain word.Void ∷ plain word.RightParen ∷ plain word.LeftBrace ∷ plain word.Integer ∷ plain word.Minus ∷ plain word.Integer ∷ plain word.Minus ∷ plain word.Integer ∷ plain word.Star ∷ plain word.Integer ∷ plain word.Semicolon ∷ plain word.RightBrace ∷ []) (node kind.FunctionDefinition 0 15 (node kind.Int 0 1 none (node kind.FunctionDeclarator 1 5 (node kind.NameDeclarator 1 2 none (node kind.VoidParameters 3 4 none none)) (node kind.Compound 5 15 (node kind.ExpressionStatement 6 14 (node kind.Subtract 6 13 (node kind.Subtract 6 9 (node kind.Integer 6 7 none (node kind.Integer 8 9 none none)) (node kind.Multiply 10 13 (node kind.Integer 10 11 none (node kind.Break 12 13 none none)) none)) none) none) none))) none) ≡ false) ×
    (is_read (plain word.Int ∷ lexeme word.Identifier (codes "f") ∷ plain word.LeftParen ∷ plain word.Void ∷ plain word.RightParen ∷ plain word.LeftBrace ∷ plain word.Integer ∷ plain word.Minus ∷ plain word.Integer ∷ plain word.Minus ∷ plain word.Integer ∷ plain word.Star ∷ plain word.Integer ∷ plain word.Semicolon ∷ plain word.RightBrace ∷ []) (node kind.FunctionDefinition 0 15 (node kind.FunctionDeclarator 1 5 (node kind.NameDeclarator 1 2 none (node kind.VoidParameters 3 4 none none)) (node kind.Compound 5 15 (node kind.ExpressionStatement 6 14 (node kind.Subtract 6 13 (node kind.Subtract 6 9 (node kind.Integer 6 7 none (node kind.Integer 8 9 none none)) (node kind.Multiply 10 13 (node kind.Integer 10 11 none (node kind.Integer 12 13 none none)) none)) none) none) none)) none) ≡ false)
unfolding reads along as_part rule_of
takes_4 = (refl, refl, refl, refl)

-- a cast, and brackets with a sum: typedef int T ; int f ( void ) { ( T ) x ; ( x ) + 1 ; }
takes_5 : (is_read (plain word.Typedef ∷ plain word.Int ∷ lexeme word.Identifier (codes "T") ∷ plain word.Semicolon ∷ plain word.Int ∷ lexeme word.Identifier (codes "f") ∷ plain word.LeftParen ∷ plain word.Void ∷ plain word.RightParen ∷ plain word.LeftBrace ∷ plain word.LeftParen ∷ lexeme word.Identifier (codes "T") ∷ plain word.RightParen ∷ lexeme word.Identifier (codes "x") ∷ plain word.Semicolon ∷ plain word.LeftParen ∷ lexeme word.Identifier (codes "x") ∷ plain word.RightParen ∷ plain word.Plus ∷ plain word.Integer ∷ plain word.Semicolon ∷ plain word.RightBrace ∷ []) (node kind.Declaration 0 4 (node kind.Specifiers 0 2 (node kind.Typedef 0 1 none (node kind.Int 1 2 none none)) (node kind.NameDeclarator 2 3 none none)) (node kind.FunctionDefinition 4 22 (node kind.Int 4 5 none (node kind.FunctionDeclarator 5 9 (node kind.NameDeclarator 5 6 none (node kind.VoidParameters 7 8 none none)) (node kind.Compound 9 22 (node kind.ExpressionStatement 10 15 (node kind.Cast 10 14 (node kind.TypedefName 11 12 none (node kind.Identifier 13 14 none none)) none) (node kind.ExpressionStatement 15 21 (node kind.Add 15 20 (node kind.Group 15 18 (node kind.Identifier 16 17 none none) (node kind.Integer 19 20 none none)) none) none)) none))) none)) ≡ true) ×
    (is_read (plain word.Typedef ∷ plain word.Int ∷ lexeme word.Identifier (codes "T") ∷ plain word.Semicolon ∷ plain word.Int ∷ lexeme word.Identifier (codes "f") ∷ plain word.LeftParen ∷ plain word.Void ∷ plain word.RightParen ∷ plain word.LeftBrace ∷ plain word.LeftParen ∷ plain word.Float ∷ plain word.RightParen ∷ lexeme word.Identifier (codes "x") ∷ plain word.Semicolon ∷ plain word.LeftParen ∷ lexeme word.Identifier (codes "x") ∷ plain word.RightParen ∷ plain word.Plus ∷ plain word.Integer ∷ plain word.Semicolon ∷ plain word.RightBrace ∷ []) (node kind.Declaration 0 4 (node kind.Specifiers 0 2 (node kind.Typedef 0 1 none (node kind.Int 1 2 none none)) (node kind.NameDeclarator 2 3 none none)) (node kind.FunctionDefinition 4 22 (node kind.Int 4 5 none (node kind.FunctionDeclarator 5 9 (node kind.NameDeclarator 5 6 none (node kind.VoidParameters 7 8 none none)) (node kind.Compound 9 22 (node kind.ExpressionStatement 10 15 (node kind.Cast 10 14 (node kind.TypedefName 11 12 none (node kind.Identifier 13 14 none none)) none) (node kind.ExpressionStatement 15 21 (node kind.Add 15 20 (node kind.Group 15 18 (node kind.Identifier 16 17 none none) (node kind.Integer 19 20 none none)) none) none)) none))) none)) ≡ false) ×
    (is_read (plain word.Typedef ∷ plain word.Int ∷ lexeme word.Identifier (codes "T") ∷ plain word.Semicolon ∷ plain word.Int ∷ lexeme word.Identifier (codes "f") ∷ plain word.LeftParen ∷ plain word.Void ∷ plain word.RightParen ∷ plain word.LeftBrace ∷ plain word.LeftParen ∷ lexeme word.Identifier (codes "T") ∷ plain word.RightParen ∷ lexeme word.Identifier (codes "x") ∷ plain word.Semicolon ∷ plain word.LeftParen ∷ lexeme word.Identifier (codes "x") ∷ plain word.RightParen ∷ plain word.Plus ∷ plain word.Integer ∷ plain word.Semicolon ∷ plain word.RightBrace ∷ []) (node kind.Declaration 0 4 (node kind.Specifiers 0 2 (node kind.Typedef 0 1 none (node kind.Int 1 2 none none)) (node kind.NameDeclarator 2 3 none none)) (node kind.FunctionDefinition 4 22 (node kind.Int 4 5 none (node kind.FunctionDeclarator 5 9 (node kind.NameDeclarator 5 6 none (node kind.VoidParameters 7 8 none none)) (node kind.Compound 9 22 (node kind.ExpressionStatement 10 15 (node kind.Cast 10 14 (node kind.TypedefName 11 12 none (node kind.Identifier 13 14 none none)) none) (node kind.ExpressionStatement 15 21 (node kind.Add 15 20 (node kind.Group 15 18 (node kind.Identifier 16 17 none none) (node kind.Break 19 20 none none)) none) none)) none))) none)) ≡ false) ×
    (is_read (plain word.Typedef ∷ plain word.Int ∷ lexeme word.Identifier (codes "T") ∷ plain word.Semicolon ∷ plain word.Int ∷ lexeme word.Identifier (codes "f") ∷ plain word.LeftParen ∷ plain word.Void ∷ plain word.RightParen ∷ plain word.LeftBrace ∷ plain word.LeftParen ∷ lexeme word.Identifier (codes "T") ∷ plain word.RightParen ∷ lexeme word.Identifier (codes "x") ∷ plain word.Semicolon ∷ plain word.LeftParen ∷ lexeme word.Identifier (codes "x") ∷ plain word.RightParen ∷ plain word.Plus ∷ plain word.Integer ∷ plain word.Semicolon ∷ plain word.RightBrace ∷ []) (node kind.Declaration 0 4 (node kind.Specifiers 0 2 (node kind.Typedef 0 1 none (node kind.Int 1 2 none none)) (node kind.NameDeclarator 2 3 none none)) (node kind.FunctionDefinition 4 22 (node kind.FunctionDeclarator 5 9 (node kind.NameDeclarator 5 6 none (node kind.VoidParameters 7 8 none none)) (node kind.Compound 9 22 (node kind.ExpressionStatement 10 15 (node kind.Cast 10 14 (node kind.TypedefName 11 12 none (node kind.Identifier 13 14 none none)) none) (node kind.ExpressionStatement 15 21 (node kind.Add 15 20 (node kind.Group 15 18 (node kind.Identifier 16 17 none none) (node kind.Integer 19 20 none none)) none) none)) none)) none)) ≡ false)
unfolding reads along as_part rule_of
takes_5 = (refl, refl, refl, refl)

-- sizes of types and of expressions: typedef int T ; int f ( void ) { sizeof ( T ) ; sizeof ( x ) ; }
takes_6 : (is_read (plain word.Typedef ∷ plain word.Int ∷ lexeme word.Identifier (codes "T") ∷ plain word.Semicolon ∷ plain word.Int ∷ lexeme word.Identifier (codes "f") ∷ plain word.LeftParen ∷ plain word.Void ∷ plain word.RightParen ∷ plain word.LeftBrace ∷ plain word.Sizeof ∷ plain word.LeftParen ∷ lexeme word.Identifier (codes "T") ∷ plain word.RightParen ∷ plain word.Semicolon ∷ plain word.Sizeof ∷ plain word.LeftParen ∷ lexeme word.Identifier (codes "x") ∷ plain word.RightParen ∷ plain word.Semicolon ∷ plain word.RightBrace ∷ []) (node kind.Declaration 0 4 (node kind.Specifiers 0 2 (node kind.Typedef 0 1 none (node kind.Int 1 2 none none)) (node kind.NameDeclarator 2 3 none none)) (node kind.FunctionDefinition 4 21 (node kind.Int 4 5 none (node kind.FunctionDeclarator 5 9 (node kind.NameDeclarator 5 6 none (node kind.VoidParameters 7 8 none none)) (node kind.Compound 9 21 (node kind.ExpressionStatement 10 15 (node kind.SizeofType 10 14 (node kind.TypedefName 12 13 none none) none) (node kind.ExpressionStatement 15 20 (node kind.SizeofExpression 15 19 (node kind.Group 16 19 (node kind.Identifier 17 18 none none) none) none) none)) none))) none)) ≡ true) ×
    (is_read (plain word.Typedef ∷ plain word.Int ∷ lexeme word.Identifier (codes "T") ∷ plain word.Semicolon ∷ plain word.Int ∷ lexeme word.Identifier (codes "f") ∷ plain word.LeftParen ∷ plain word.Void ∷ plain word.RightParen ∷ plain word.LeftBrace ∷ plain word.Sizeof ∷ plain word.LeftParen ∷ lexeme word.Identifier (codes "T") ∷ plain word.RightParen ∷ plain word.Semicolon ∷ plain word.Sizeof ∷ plain word.LeftParen ∷ lexeme word.Identifier (codes "x") ∷ plain word.RightParen ∷ plain word.Semicolon ∷ plain word.Float ∷ []) (node kind.Declaration 0 4 (node kind.Specifiers 0 2 (node kind.Typedef 0 1 none (node kind.Int 1 2 none none)) (node kind.NameDeclarator 2 3 none none)) (node kind.FunctionDefinition 4 21 (node kind.Int 4 5 none (node kind.FunctionDeclarator 5 9 (node kind.NameDeclarator 5 6 none (node kind.VoidParameters 7 8 none none)) (node kind.Compound 9 21 (node kind.ExpressionStatement 10 15 (node kind.SizeofType 10 14 (node kind.TypedefName 12 13 none none) none) (node kind.ExpressionStatement 15 20 (node kind.SizeofExpression 15 19 (node kind.Group 16 19 (node kind.Identifier 17 18 none none) none) none) none)) none))) none)) ≡ false) ×
    (is_read (plain word.Typedef ∷ plain word.Int ∷ lexeme word.Identifier (codes "T") ∷ plain word.Semicolon ∷ plain word.Int ∷ lexeme word.Identifier (codes "f") ∷ plain word.LeftParen ∷ plain word.Void ∷ plain word.RightParen ∷ plain word.LeftBrace ∷ plain word.Sizeof ∷ plain word.LeftParen ∷ lexeme word.Identifier (codes "T") ∷ plain word.RightParen ∷ plain word.Semicolon ∷ plain word.Sizeof ∷ plain word.LeftParen ∷ lexeme word.Identifier (codes "x") ∷ plain word.RightParen ∷ plain word.Semicolon ∷ plain word.RightBrace ∷ []) (node kind.Declaration 0 4 (node kind.Specifiers 0 2 (node kind.Typedef 0 1 none (node kind.Int 1 2 none none)) (node kind.NameDeclarator 2 3 none none)) (node kind.FunctionDefinition 4 21 (node kind.Int 4 5 none (node kind.FunctionDeclarator 5 9 (node kind.NameDeclarator 5 6 none (node kind.VoidParameters 7 8 none none)) (node kind.Compound 9 21 (node kind.ExpressionStatement 10 15 (node kind.SizeofType 10 14 (node kind.TypedefName 12 13 none none) none) (node kind.ExpressionStatement 15 20 (node kind.SizeofExpression 15 19 (node kind.Group 16 19 (node kind.Break 17 18 none none) none) none) none)) none))) none)) ≡ false) ×
    (is_read (plain word.Typedef ∷ plain word.Int ∷ lexeme word.Identifier (codes "T") ∷ plain word.Semicolon ∷ plain word.Int ∷ lexeme word.Identifier (codes "f") ∷ plain word.LeftParen ∷ plain word.Void ∷ plain word.RightParen ∷ plain word.LeftBrace ∷ plain word.Sizeof ∷ plain word.LeftParen ∷ lexeme word.Identifier (codes "T") ∷ plain word.RightParen ∷ plain word.Semicolon ∷ plain word.Sizeof ∷ plain word.LeftParen ∷ lexeme word.Identifier (codes "x") ∷ plain word.RightParen ∷ plain word.Semicolon ∷ plain word.RightBrace ∷ []) (node kind.Declaration 0 4 (node kind.Specifiers 0 2 (node kind.Typedef 0 1 none (node kind.Int 1 2 none none)) (node kind.NameDeclarator 2 3 none none)) (node kind.FunctionDefinition 4 21 (node kind.FunctionDeclarator 5 9 (node kind.NameDeclarator 5 6 none (node kind.VoidParameters 7 8 none none)) (node kind.Compound 9 21 (node kind.ExpressionStatement 10 15 (node kind.SizeofType 10 14 (node kind.TypedefName 12 13 none none) none) (node kind.ExpressionStatement 15 20 (node kind.SizeofExpression 15 19 (node kind.Group 16 19 (node kind.Identifier 17 18 none none) none) none) none)) none)) none)) ≡ false)
unfolding reads along as_part rule_of
takes_6 = (refl, refl, refl, refl)

-- a switch with labels: int f ( void ) { switch ( x ) { case 1 : case 2 : break ; default : ; } }
takes_7 : (is_read (plain word.Int ∷ lexeme word.Identifier (codes "f") ∷ plain word.LeftParen ∷ plain word.Void ∷ plain word.RightParen ∷ plain word.LeftBrace ∷ plain word.Switch ∷ plain word.LeftParen ∷ lexeme word.Identifier (codes "x") ∷ plain word.RightParen ∷ plain word.LeftBrace ∷ plain word.Case ∷ plain word.Integer ∷ plain word.Colon ∷ plain word.Case ∷ plain word.Integer ∷ plain word.Colon ∷ plain word.Break ∷ plain word.Semicolon ∷ plain word.Default ∷ plain word.Colon ∷ plain word.Semicolon ∷ plain word.RightBrace ∷ plain word.RightBrace ∷ []) (node kind.FunctionDefinition 0 24 (node kind.Int 0 1 none (node kind.FunctionDeclarator 1 5 (node kind.NameDeclarator 1 2 none (node kind.VoidParameters 3 4 none none)) (node kind.Compound 5 24 (node kind.Switch 6 23 (node kind.Identifier 8 9 none (node kind.Compound 10 23 (node kind.Case 11 19 (node kind.Integer 12 13 none (node kind.Case 14 19 (node kind.Integer 15 16 none (node kind.Break 17 19 none none)) none)) (node kind.Default 19 22 (node kind.ExpressionStatement 21 22 none none) none)) none)) none) none))) none) ≡ true) ×
    (is_read (plain word.Int ∷ lexeme word.Identifier (codes "f") ∷ plain word.LeftParen ∷ plain word.Void ∷ plain word.RightParen ∷ plain word.LeftBrace ∷ plain word.Switch ∷ plain word.LeftParen ∷ lexeme word.Identifier (codes "x") ∷ plain word.RightParen ∷ plain word.LeftBrace ∷ plain word.Case ∷ plain word.Float ∷ plain word.Colon ∷ plain word.Case ∷ plain word.Integer ∷ plain word.Colon ∷ plain word.Break ∷ plain word.Semicolon ∷ plain word.Default ∷ plain word.Colon ∷ plain word.Semicolon ∷ plain word.RightBrace ∷ plain word.RightBrace ∷ []) (node kind.FunctionDefinition 0 24 (node kind.Int 0 1 none (node kind.FunctionDeclarator 1 5 (node kind.NameDeclarator 1 2 none (node kind.VoidParameters 3 4 none none)) (node kind.Compound 5 24 (node kind.Switch 6 23 (node kind.Identifier 8 9 none (node kind.Compound 10 23 (node kind.Case 11 19 (node kind.Integer 12 13 none (node kind.Case 14 19 (node kind.Integer 15 16 none (node kind.Break 17 19 none none)) none)) (node kind.Default 19 22 (node kind.ExpressionStatement 21 22 none none) none)) none)) none) none))) none) ≡ false) ×
    (is_read (plain word.Int ∷ lexeme word.Identifier (codes "f") ∷ plain word.LeftParen ∷ plain word.Void ∷ plain word.RightParen ∷ plain word.LeftBrace ∷ plain word.Switch ∷ plain word.LeftParen ∷ lexeme word.Identifier (codes "x") ∷ plain word.RightParen ∷ plain word.LeftBrace ∷ plain word.Case ∷ plain word.Integer ∷ plain word.Colon ∷ plain word.Case ∷ plain word.Integer ∷ plain word.Colon ∷ plain word.Break ∷ plain word.Semicolon ∷ plain word.Default ∷ plain word.Colon ∷ plain word.Semicolon ∷ plain word.RightBrace ∷ plain word.RightBrace ∷ []) (node kind.FunctionDefinition 0 24 (node kind.Int 0 1 none (node kind.FunctionDeclarator 1 5 (node kind.NameDeclarator 1 2 none (node kind.VoidParameters 3 4 none none)) (node kind.Compound 5 24 (node kind.Switch 6 23 (node kind.Identifier 8 9 none (node kind.Compound 10 23 (node kind.Case 11 19 (node kind.Integer 12 13 none (node kind.Case 14 19 (node kind.Integer 15 16 none (node kind.Break 17 19 none none)) none)) (node kind.Default 19 22 (node kind.Break 21 22 none none) none)) none)) none) none))) none) ≡ false) ×
    (is_read (plain word.Int ∷ lexeme word.Identifier (codes "f") ∷ plain word.LeftParen ∷ plain word.Void ∷ plain word.RightParen ∷ plain word.LeftBrace ∷ plain word.Switch ∷ plain word.LeftParen ∷ lexeme word.Identifier (codes "x") ∷ plain word.RightParen ∷ plain word.LeftBrace ∷ plain word.Case ∷ plain word.Integer ∷ plain word.Colon ∷ plain word.Case ∷ plain word.Integer ∷ plain word.Colon ∷ plain word.Break ∷ plain word.Semicolon ∷ plain word.Default ∷ plain word.Colon ∷ plain word.Semicolon ∷ plain word.RightBrace ∷ plain word.RightBrace ∷ []) (node kind.FunctionDefinition 0 24 (node kind.FunctionDeclarator 1 5 (node kind.NameDeclarator 1 2 none (node kind.VoidParameters 3 4 none none)) (node kind.Compound 5 24 (node kind.Switch 6 23 (node kind.Identifier 8 9 none (node kind.Compound 10 23 (node kind.Case 11 19 (node kind.Integer 12 13 none (node kind.Case 14 19 (node kind.Integer 15 16 none (node kind.Break 17 19 none none)) none)) (node kind.Default 19 22 (node kind.ExpressionStatement 21 22 none none) none)) none)) none) none)) none) ≡ false)
unfolding reads along as_part rule_of
takes_7 = (refl, refl, refl, refl)

-- labels and jumps: typedef int T ; int f ( void ) { L : T : ; goto L ; }
takes_label : (is_read (plain word.Typedef ∷ plain word.Int ∷ lexeme word.Identifier (codes "T") ∷ plain word.Semicolon ∷ plain word.Int ∷ lexeme word.Identifier (codes "f") ∷ plain word.LeftParen ∷ plain word.Void ∷ plain word.RightParen ∷ plain word.LeftBrace ∷ lexeme word.Identifier (codes "L") ∷ plain word.Colon ∷ lexeme word.Identifier (codes "T") ∷ plain word.Colon ∷ plain word.Semicolon ∷ plain word.Goto ∷ lexeme word.Identifier (codes "L") ∷ plain word.Semicolon ∷ plain word.RightBrace ∷ []) (node kind.Declaration 0 4 (node kind.Specifiers 0 2 (node kind.Typedef 0 1 none (node kind.Int 1 2 none none)) (node kind.NameDeclarator 2 3 none none)) (node kind.FunctionDefinition 4 19 (node kind.Int 4 5 none (node kind.FunctionDeclarator 5 9 (node kind.NameDeclarator 5 6 none (node kind.VoidParameters 7 8 none none)) (node kind.Compound 9 19 (node kind.Label 10 15 (node kind.Label 12 15 (node kind.ExpressionStatement 14 15 none none) none) (node kind.Goto 15 18 none none)) none))) none)) ≡ true) ×
    (is_read (plain word.Typedef ∷ plain word.Int ∷ lexeme word.Identifier (codes "T") ∷ plain word.Semicolon ∷ plain word.Int ∷ lexeme word.Identifier (codes "f") ∷ plain word.LeftParen ∷ plain word.Void ∷ plain word.RightParen ∷ plain word.LeftBrace ∷ lexeme word.Identifier (codes "L") ∷ plain word.Colon ∷ lexeme word.Identifier (codes "T") ∷ plain word.Colon ∷ plain word.Semicolon ∷ plain word.Float ∷ lexeme word.Identifier (codes "L") ∷ plain word.Semicolon ∷ plain word.RightBrace ∷ []) (node kind.Declaration 0 4 (node kind.Specifiers 0 2 (node kind.Typedef 0 1 none (node kind.Int 1 2 none none)) (node kind.NameDeclarator 2 3 none none)) (node kind.FunctionDefinition 4 19 (node kind.Int 4 5 none (node kind.FunctionDeclarator 5 9 (node kind.NameDeclarator 5 6 none (node kind.VoidParameters 7 8 none none)) (node kind.Compound 9 19 (node kind.Label 10 15 (node kind.Label 12 15 (node kind.ExpressionStatement 14 15 none none) none) (node kind.Goto 15 18 none none)) none))) none)) ≡ false) ×
    (is_read (plain word.Typedef ∷ plain word.Int ∷ lexeme word.Identifier (codes "T") ∷ plain word.Semicolon ∷ plain word.Int ∷ lexeme word.Identifier (codes "f") ∷ plain word.LeftParen ∷ plain word.Void ∷ plain word.RightParen ∷ plain word.LeftBrace ∷ lexeme word.Identifier (codes "L") ∷ plain word.Colon ∷ lexeme word.Identifier (codes "T") ∷ plain word.Colon ∷ plain word.Semicolon ∷ plain word.Goto ∷ lexeme word.Identifier (codes "L") ∷ plain word.Semicolon ∷ plain word.RightBrace ∷ []) (node kind.Declaration 0 4 (node kind.Specifiers 0 2 (node kind.Typedef 0 1 none (node kind.Int 1 2 none none)) (node kind.NameDeclarator 2 3 none none)) (node kind.FunctionDefinition 4 19 (node kind.Int 4 5 none (node kind.FunctionDeclarator 5 9 (node kind.NameDeclarator 5 6 none (node kind.VoidParameters 7 8 none none)) (node kind.Compound 9 19 (node kind.Label 10 15 (node kind.Break 12 15 (node kind.ExpressionStatement 14 15 none none) none) (node kind.Goto 15 18 none none)) none))) none)) ≡ false) ×
    (is_read (plain word.Typedef ∷ plain word.Int ∷ lexeme word.Identifier (codes "T") ∷ plain word.Semicolon ∷ plain word.Int ∷ lexeme word.Identifier (codes "f") ∷ plain word.LeftParen ∷ plain word.Void ∷ plain word.RightParen ∷ plain word.LeftBrace ∷ lexeme word.Identifier (codes "L") ∷ plain word.Colon ∷ lexeme word.Identifier (codes "T") ∷ plain word.Colon ∷ plain word.Semicolon ∷ plain word.Goto ∷ lexeme word.Identifier (codes "L") ∷ plain word.Semicolon ∷ plain word.RightBrace ∷ []) (node kind.Declaration 0 4 (node kind.Specifiers 0 2 (node kind.Typedef 0 1 none (node kind.Int 1 2 none none)) (node kind.NameDeclarator 2 3 none none)) (node kind.FunctionDefinition 4 19 (node kind.Int 4 5 none (node kind.FunctionDeclarator 5 9 (node kind.NameDeclarator 5 6 none (node kind.VoidParameters 7 8 none none)) (node kind.Compound 9 19 (node kind.Label 10 15 (node kind.Label 12 15 none none) (node kind.Goto 15 18 none none)) none))) none)) ≡ false)
unfolding reads along as_part rule_of
takes_label = (refl, refl, refl, refl)

-- loops: int f ( void ) { while ( 1 ) continue ; do ; while ( 0 ) ; }
takes_8 : (is_read (plain word.Int ∷ lexeme word.Identifier (codes "f") ∷ plain word.LeftParen ∷ plain word.Void ∷ plain word.RightParen ∷ plain word.LeftBrace ∷ plain word.While ∷ plain word.LeftParen ∷ plain word.Integer ∷ plain word.RightParen ∷ plain word.Continue ∷ plain word.Semicolon ∷ plain word.Do ∷ plain word.Semicolon ∷ plain word.While ∷ plain word.LeftParen ∷ plain word.Integer ∷ plain word.RightParen ∷ plain word.Semicolon ∷ plain word.RightBrace ∷ []) (node kind.FunctionDefinition 0 20 (node kind.Int 0 1 none (node kind.FunctionDeclarator 1 5 (node kind.NameDeclarator 1 2 none (node kind.VoidParameters 3 4 none none)) (node kind.Compound 5 20 (node kind.While 6 12 (node kind.Integer 8 9 none (node kind.Continue 10 12 none none)) (node kind.Do 12 19 (node kind.ExpressionStatement 13 14 none (node kind.Integer 16 17 none none)) none)) none))) none) ≡ true) ×
    (is_read (plain word.Int ∷ lexeme word.Identifier (codes "f") ∷ plain word.LeftParen ∷ plain word.Void ∷ plain word.RightParen ∷ plain word.LeftBrace ∷ plain word.While ∷ plain word.LeftParen ∷ plain word.Integer ∷ plain word.RightParen ∷ plain word.Float ∷ plain word.Semicolon ∷ plain word.Do ∷ plain word.Semicolon ∷ plain word.While ∷ plain word.LeftParen ∷ plain word.Integer ∷ plain word.RightParen ∷ plain word.Semicolon ∷ plain word.RightBrace ∷ []) (node kind.FunctionDefinition 0 20 (node kind.Int 0 1 none (node kind.FunctionDeclarator 1 5 (node kind.NameDeclarator 1 2 none (node kind.VoidParameters 3 4 none none)) (node kind.Compound 5 20 (node kind.While 6 12 (node kind.Integer 8 9 none (node kind.Continue 10 12 none none)) (node kind.Do 12 19 (node kind.ExpressionStatement 13 14 none (node kind.Integer 16 17 none none)) none)) none))) none) ≡ false) ×
    (is_read (plain word.Int ∷ lexeme word.Identifier (codes "f") ∷ plain word.LeftParen ∷ plain word.Void ∷ plain word.RightParen ∷ plain word.LeftBrace ∷ plain word.While ∷ plain word.LeftParen ∷ plain word.Integer ∷ plain word.RightParen ∷ plain word.Continue ∷ plain word.Semicolon ∷ plain word.Do ∷ plain word.Semicolon ∷ plain word.While ∷ plain word.LeftParen ∷ plain word.Integer ∷ plain word.RightParen ∷ plain word.Semicolon ∷ plain word.RightBrace ∷ []) (node kind.FunctionDefinition 0 20 (node kind.Int 0 1 none (node kind.FunctionDeclarator 1 5 (node kind.NameDeclarator 1 2 none (node kind.VoidParameters 3 4 none none)) (node kind.Compound 5 20 (node kind.While 6 12 (node kind.Integer 8 9 none (node kind.Continue 10 12 none none)) (node kind.Do 12 19 (node kind.ExpressionStatement 13 14 none (node kind.Break 16 17 none none)) none)) none))) none) ≡ false) ×
    (is_read (plain word.Int ∷ lexeme word.Identifier (codes "f") ∷ plain word.LeftParen ∷ plain word.Void ∷ plain word.RightParen ∷ plain word.LeftBrace ∷ plain word.While ∷ plain word.LeftParen ∷ plain word.Integer ∷ plain word.RightParen ∷ plain word.Continue ∷ plain word.Semicolon ∷ plain word.Do ∷ plain word.Semicolon ∷ plain word.While ∷ plain word.LeftParen ∷ plain word.Integer ∷ plain word.RightParen ∷ plain word.Semicolon ∷ plain word.RightBrace ∷ []) (node kind.FunctionDefinition 0 20 (node kind.FunctionDeclarator 1 5 (node kind.NameDeclarator 1 2 none (node kind.VoidParameters 3 4 none none)) (node kind.Compound 5 20 (node kind.While 6 12 (node kind.Integer 8 9 none (node kind.Continue 10 12 none none)) (node kind.Do 12 19 (node kind.ExpressionStatement 13 14 none (node kind.Integer 16 17 none none)) none)) none)) none) ≡ false)
unfolding reads along as_part rule_of
takes_8 = (refl, refl, refl, refl)

-- a for with a declaration: int f ( void ) { for ( int i = 0 ; i < 9 ; i ++ ) i ; }
takes_9 : (is_read (plain word.Int ∷ lexeme word.Identifier (codes "f") ∷ plain word.LeftParen ∷ plain word.Void ∷ plain word.RightParen ∷ plain word.LeftBrace ∷ plain word.For ∷ plain word.LeftParen ∷ plain word.Int ∷ lexeme word.Identifier (codes "i") ∷ plain word.Equal ∷ plain word.Integer ∷ plain word.Semicolon ∷ lexeme word.Identifier (codes "i") ∷ plain word.Less ∷ plain word.Integer ∷ plain word.Semicolon ∷ lexeme word.Identifier (codes "i") ∷ plain word.PlusPlus ∷ plain word.RightParen ∷ lexeme word.Identifier (codes "i") ∷ plain word.Semicolon ∷ plain word.RightBrace ∷ []) (node kind.FunctionDefinition 0 23 (node kind.Int 0 1 none (node kind.FunctionDeclarator 1 5 (node kind.NameDeclarator 1 2 none (node kind.VoidParameters 3 4 none none)) (node kind.Compound 5 23 (node kind.For 6 22 (node kind.Declaration 8 13 (node kind.Int 8 9 none (node kind.InitDeclarator 9 12 (node kind.NameDeclarator 9 10 none (node kind.Integer 11 12 none none)) none)) (node kind.Less 13 16 (node kind.Identifier 13 14 none (node kind.Integer 15 16 none none)) (node kind.PostIncrement 17 19 (node kind.Identifier 17 18 none none) (node kind.ExpressionStatement 20 22 (node kind.Identifier 20 21 none none) none)))) none) none))) none) ≡ true) ×
    (is_read (plain word.Int ∷ lexeme word.Identifier (codes "f") ∷ plain word.LeftParen ∷ plain word.Void ∷ plain word.RightParen ∷ plain word.LeftBrace ∷ plain word.For ∷ plain word.LeftParen ∷ plain word.Int ∷ lexeme word.Identifier (codes "i") ∷ plain word.Equal ∷ plain word.Integer ∷ plain word.Semicolon ∷ lexeme word.Identifier (codes "i") ∷ plain word.Less ∷ plain word.Integer ∷ plain word.Semicolon ∷ lexeme word.Identifier (codes "i") ∷ plain word.PlusPlus ∷ plain word.RightParen ∷ lexeme word.Identifier (codes "i") ∷ plain word.Semicolon ∷ plain word.Float ∷ []) (node kind.FunctionDefinition 0 23 (node kind.Int 0 1 none (node kind.FunctionDeclarator 1 5 (node kind.NameDeclarator 1 2 none (node kind.VoidParameters 3 4 none none)) (node kind.Compound 5 23 (node kind.For 6 22 (node kind.Declaration 8 13 (node kind.Int 8 9 none (node kind.InitDeclarator 9 12 (node kind.NameDeclarator 9 10 none (node kind.Integer 11 12 none none)) none)) (node kind.Less 13 16 (node kind.Identifier 13 14 none (node kind.Integer 15 16 none none)) (node kind.PostIncrement 17 19 (node kind.Identifier 17 18 none none) (node kind.ExpressionStatement 20 22 (node kind.Identifier 20 21 none none) none)))) none) none))) none) ≡ false) ×
    (is_read (plain word.Int ∷ lexeme word.Identifier (codes "f") ∷ plain word.LeftParen ∷ plain word.Void ∷ plain word.RightParen ∷ plain word.LeftBrace ∷ plain word.For ∷ plain word.LeftParen ∷ plain word.Int ∷ lexeme word.Identifier (codes "i") ∷ plain word.Equal ∷ plain word.Integer ∷ plain word.Semicolon ∷ lexeme word.Identifier (codes "i") ∷ plain word.Less ∷ plain word.Integer ∷ plain word.Semicolon ∷ lexeme word.Identifier (codes "i") ∷ plain word.PlusPlus ∷ plain word.RightParen ∷ lexeme word.Identifier (codes "i") ∷ plain word.Semicolon ∷ plain word.RightBrace ∷ []) (node kind.FunctionDefinition 0 23 (node kind.Int 0 1 none (node kind.FunctionDeclarator 1 5 (node kind.NameDeclarator 1 2 none (node kind.VoidParameters 3 4 none none)) (node kind.Compound 5 23 (node kind.For 6 22 (node kind.Declaration 8 13 (node kind.Int 8 9 none (node kind.InitDeclarator 9 12 (node kind.NameDeclarator 9 10 none (node kind.Integer 11 12 none none)) none)) (node kind.Less 13 16 (node kind.Identifier 13 14 none (node kind.Integer 15 16 none none)) (node kind.PostIncrement 17 19 (node kind.Identifier 17 18 none none) (node kind.ExpressionStatement 20 22 (node kind.Break 20 21 none none) none)))) none) none))) none) ≡ false) ×
    (is_read (plain word.Int ∷ lexeme word.Identifier (codes "f") ∷ plain word.LeftParen ∷ plain word.Void ∷ plain word.RightParen ∷ plain word.LeftBrace ∷ plain word.For ∷ plain word.LeftParen ∷ plain word.Int ∷ lexeme word.Identifier (codes "i") ∷ plain word.Equal ∷ plain word.Integer ∷ plain word.Semicolon ∷ lexeme word.Identifier (codes "i") ∷ plain word.Less ∷ plain word.Integer ∷ plain word.Semicolon ∷ lexeme word.Identifier (codes "i") ∷ plain word.PlusPlus ∷ plain word.RightParen ∷ lexeme word.Identifier (codes "i") ∷ plain word.Semicolon ∷ plain word.RightBrace ∷ []) (node kind.FunctionDefinition 0 23 (node kind.FunctionDeclarator 1 5 (node kind.NameDeclarator 1 2 none (node kind.VoidParameters 3 4 none none)) (node kind.Compound 5 23 (node kind.For 6 22 (node kind.Declaration 8 13 (node kind.Int 8 9 none (node kind.InitDeclarator 9 12 (node kind.NameDeclarator 9 10 none (node kind.Integer 11 12 none none)) none)) (node kind.Less 13 16 (node kind.Identifier 13 14 none (node kind.Integer 15 16 none none)) (node kind.PostIncrement 17 19 (node kind.Identifier 17 18 none none) (node kind.ExpressionStatement 20 22 (node kind.Identifier 20 21 none none) none)))) none) none)) none) ≡ false)
unfolding reads along as_part rule_of
takes_9 = (refl, refl, refl, refl)

-- fors with clauses left out: int f ( void ) { for ( ; ; ) ; for ( x ; ; ) ; for ( ; x ; ) ; for ( ; ; x ) ; }
takes_10 : (is_read (plain word.Int ∷ lexeme word.Identifier (codes "f") ∷ plain word.LeftParen ∷ plain word.Void ∷ plain word.RightParen ∷ plain word.LeftBrace ∷ plain word.For ∷ plain word.LeftParen ∷ plain word.Semicolon ∷ plain word.Semicolon ∷ plain word.RightParen ∷ plain word.Semicolon ∷ plain word.For ∷ plain word.LeftParen ∷ lexeme word.Identifier (codes "x") ∷ plain word.Semicolon ∷ plain word.Semicolon ∷ plain word.RightParen ∷ plain word.Semicolon ∷ plain word.For ∷ plain word.LeftParen ∷ plain word.Semicolon ∷ lexeme word.Identifier (codes "x") ∷ plain word.Semicolon ∷ plain word.RightParen ∷ plain word.Semicolon ∷ plain word.For ∷ plain word.LeftParen ∷ plain word.Semicolon ∷ plain word.Semicolon ∷ lexeme word.Identifier (codes "x") ∷ plain word.RightParen ∷ plain word.Semicolon ∷ plain word.RightBrace ∷ []) (node kind.FunctionDefinition 0 34 (node kind.Int 0 1 none (node kind.FunctionDeclarator 1 5 (node kind.NameDeclarator 1 2 none (node kind.VoidParameters 3 4 none none)) (node kind.Compound 5 34 (node kind.For 6 12 (node kind.ExpressionStatement 11 12 none none) (node kind.For 12 19 (node kind.Identifier 14 15 none (node kind.ExpressionStatement 18 19 none none)) (node kind.For 19 26 (node kind.Identifier 22 23 none (node kind.ExpressionStatement 25 26 none none)) (node kind.For 26 33 (node kind.Identifier 30 31 none (node kind.ExpressionStatement 32 33 none none)) none)))) none))) none) ≡ true) ×
    (is_read (plain word.Int ∷ lexeme word.Identifier (codes "f") ∷ plain word.LeftParen ∷ plain word.Void ∷ plain word.RightParen ∷ plain word.LeftBrace ∷ plain word.For ∷ plain word.LeftParen ∷ plain word.Semicolon ∷ plain word.Semicolon ∷ plain word.RightParen ∷ plain word.Semicolon ∷ plain word.For ∷ plain word.LeftParen ∷ lexeme word.Identifier (codes "x") ∷ plain word.Semicolon ∷ plain word.Semicolon ∷ plain word.Float ∷ plain word.Semicolon ∷ plain word.For ∷ plain word.LeftParen ∷ plain word.Semicolon ∷ lexeme word.Identifier (codes "x") ∷ plain word.Semicolon ∷ plain word.RightParen ∷ plain word.Semicolon ∷ plain word.For ∷ plain word.LeftParen ∷ plain word.Semicolon ∷ plain word.Semicolon ∷ lexeme word.Identifier (codes "x") ∷ plain word.RightParen ∷ plain word.Semicolon ∷ plain word.RightBrace ∷ []) (node kind.FunctionDefinition 0 34 (node kind.Int 0 1 none (node kind.FunctionDeclarator 1 5 (node kind.NameDeclarator 1 2 none (node kind.VoidParameters 3 4 none none)) (node kind.Compound 5 34 (node kind.For 6 12 (node kind.ExpressionStatement 11 12 none none) (node kind.For 12 19 (node kind.Identifier 14 15 none (node kind.ExpressionStatement 18 19 none none)) (node kind.For 19 26 (node kind.Identifier 22 23 none (node kind.ExpressionStatement 25 26 none none)) (node kind.For 26 33 (node kind.Identifier 30 31 none (node kind.ExpressionStatement 32 33 none none)) none)))) none))) none) ≡ false) ×
    (is_read (plain word.Int ∷ lexeme word.Identifier (codes "f") ∷ plain word.LeftParen ∷ plain word.Void ∷ plain word.RightParen ∷ plain word.LeftBrace ∷ plain word.For ∷ plain word.LeftParen ∷ plain word.Semicolon ∷ plain word.Semicolon ∷ plain word.RightParen ∷ plain word.Semicolon ∷ plain word.For ∷ plain word.LeftParen ∷ lexeme word.Identifier (codes "x") ∷ plain word.Semicolon ∷ plain word.Semicolon ∷ plain word.RightParen ∷ plain word.Semicolon ∷ plain word.For ∷ plain word.LeftParen ∷ plain word.Semicolon ∷ lexeme word.Identifier (codes "x") ∷ plain word.Semicolon ∷ plain word.RightParen ∷ plain word.Semicolon ∷ plain word.For ∷ plain word.LeftParen ∷ plain word.Semicolon ∷ plain word.Semicolon ∷ lexeme word.Identifier (codes "x") ∷ plain word.RightParen ∷ plain word.Semicolon ∷ plain word.RightBrace ∷ []) (node kind.FunctionDefinition 0 34 (node kind.Int 0 1 none (node kind.FunctionDeclarator 1 5 (node kind.NameDeclarator 1 2 none (node kind.VoidParameters 3 4 none none)) (node kind.Compound 5 34 (node kind.For 6 12 (node kind.ExpressionStatement 11 12 none none) (node kind.For 12 19 (node kind.Identifier 14 15 none (node kind.ExpressionStatement 18 19 none none)) (node kind.For 19 26 (node kind.Identifier 22 23 none (node kind.ExpressionStatement 25 26 none none)) (node kind.For 26 33 (node kind.Identifier 30 31 none (node kind.Break 32 33 none none)) none)))) none))) none) ≡ false) ×
    (is_read (plain word.Int ∷ lexeme word.Identifier (codes "f") ∷ plain word.LeftParen ∷ plain word.Void ∷ plain word.RightParen ∷ plain word.LeftBrace ∷ plain word.For ∷ plain word.LeftParen ∷ plain word.Semicolon ∷ plain word.Semicolon ∷ plain word.RightParen ∷ plain word.Semicolon ∷ plain word.For ∷ plain word.LeftParen ∷ lexeme word.Identifier (codes "x") ∷ plain word.Semicolon ∷ plain word.Semicolon ∷ plain word.RightParen ∷ plain word.Semicolon ∷ plain word.For ∷ plain word.LeftParen ∷ plain word.Semicolon ∷ lexeme word.Identifier (codes "x") ∷ plain word.Semicolon ∷ plain word.RightParen ∷ plain word.Semicolon ∷ plain word.For ∷ plain word.LeftParen ∷ plain word.Semicolon ∷ plain word.Semicolon ∷ lexeme word.Identifier (codes "x") ∷ plain word.RightParen ∷ plain word.Semicolon ∷ plain word.RightBrace ∷ []) (node kind.FunctionDefinition 0 34 (node kind.FunctionDeclarator 1 5 (node kind.NameDeclarator 1 2 none (node kind.VoidParameters 3 4 none none)) (node kind.Compound 5 34 (node kind.For 6 12 (node kind.ExpressionStatement 11 12 none none) (node kind.For 12 19 (node kind.Identifier 14 15 none (node kind.ExpressionStatement 18 19 none none)) (node kind.For 19 26 (node kind.Identifier 22 23 none (node kind.ExpressionStatement 25 26 none none)) (node kind.For 26 33 (node kind.Identifier 30 31 none (node kind.ExpressionStatement 32 33 none none)) none)))) none)) none) ≡ false)
unfolding reads along as_part rule_of
takes_10 = (refl, refl, refl, refl)

-- abstract declarators: int f ( int * const , int [ 3 ] , int ( * ) [ 2 ] ) ;
takes_11 : (is_read (plain word.Int ∷ lexeme word.Identifier (codes "f") ∷ plain word.LeftParen ∷ plain word.Int ∷ plain word.Star ∷ plain word.Const ∷ plain word.Comma ∷ plain word.Int ∷ plain word.LeftBracket ∷ plain word.Integer ∷ plain word.RightBracket ∷ plain word.Comma ∷ plain word.Int ∷ plain word.LeftParen ∷ plain word.Star ∷ plain word.RightParen ∷ plain word.LeftBracket ∷ plain word.Integer ∷ plain word.RightBracket ∷ plain word.RightParen ∷ plain word.Semicolon ∷ []) (node kind.Declaration 0 21 (node kind.Int 0 1 none (node kind.FunctionDeclarator 1 20 (node kind.NameDeclarator 1 2 none (node kind.Parameters 3 19 (node kind.Parameter 3 6 (node kind.Int 3 4 none (node kind.AbstractPointer 4 6 none none)) (node kind.Parameter 7 11 (node kind.Int 7 8 none (node kind.AbstractArray 8 11 (node kind.Integer 9 10 none none) none)) (node kind.Parameter 12 19 (node kind.Int 12 13 none (node kind.AbstractArrayOf 13 19 (node kind.AbstractGroup 13 16 (node kind.AbstractPointer 14 15 none none) (node kind.Integer 17 18 none none)) none)) none))) none)) none)) none) ≡ true) ×
    (is_read (plain word.Int ∷ lexeme word.Identifier (codes "f") ∷ plain word.LeftParen ∷ plain word.Int ∷ plain word.Star ∷ plain word.Const ∷ plain word.Comma ∷ plain word.Int ∷ plain word.LeftBracket ∷ plain word.Integer ∷ plain word.RightBracket ∷ plain word.Comma ∷ plain word.Int ∷ plain word.LeftParen ∷ plain word.Star ∷ plain word.RightParen ∷ plain word.LeftBracket ∷ plain word.Integer ∷ plain word.RightBracket ∷ plain word.RightParen ∷ plain word.Float ∷ []) (node kind.Declaration 0 21 (node kind.Int 0 1 none (node kind.FunctionDeclarator 1 20 (node kind.NameDeclarator 1 2 none (node kind.Parameters 3 19 (node kind.Parameter 3 6 (node kind.Int 3 4 none (node kind.AbstractPointer 4 6 none none)) (node kind.Parameter 7 11 (node kind.Int 7 8 none (node kind.AbstractArray 8 11 (node kind.Integer 9 10 none none) none)) (node kind.Parameter 12 19 (node kind.Int 12 13 none (node kind.AbstractArrayOf 13 19 (node kind.AbstractGroup 13 16 (node kind.AbstractPointer 14 15 none none) (node kind.Integer 17 18 none none)) none)) none))) none)) none)) none) ≡ false) ×
    (is_read (plain word.Int ∷ lexeme word.Identifier (codes "f") ∷ plain word.LeftParen ∷ plain word.Int ∷ plain word.Star ∷ plain word.Const ∷ plain word.Comma ∷ plain word.Int ∷ plain word.LeftBracket ∷ plain word.Integer ∷ plain word.RightBracket ∷ plain word.Comma ∷ plain word.Int ∷ plain word.LeftParen ∷ plain word.Star ∷ plain word.RightParen ∷ plain word.LeftBracket ∷ plain word.Integer ∷ plain word.RightBracket ∷ plain word.RightParen ∷ plain word.Semicolon ∷ []) (node kind.Declaration 0 21 (node kind.Int 0 1 none (node kind.FunctionDeclarator 1 20 (node kind.NameDeclarator 1 2 none (node kind.Parameters 3 19 (node kind.Parameter 3 6 (node kind.Int 3 4 none (node kind.AbstractPointer 4 6 none none)) (node kind.Parameter 7 11 (node kind.Int 7 8 none (node kind.AbstractArray 8 11 (node kind.Integer 9 10 none none) none)) (node kind.Parameter 12 19 (node kind.Int 12 13 none (node kind.AbstractArrayOf 13 19 (node kind.AbstractGroup 13 16 (node kind.AbstractPointer 14 15 none none) (node kind.Break 17 18 none none)) none)) none))) none)) none)) none) ≡ false) ×
    (is_read (plain word.Int ∷ lexeme word.Identifier (codes "f") ∷ plain word.LeftParen ∷ plain word.Int ∷ plain word.Star ∷ plain word.Const ∷ plain word.Comma ∷ plain word.Int ∷ plain word.LeftBracket ∷ plain word.Integer ∷ plain word.RightBracket ∷ plain word.Comma ∷ plain word.Int ∷ plain word.LeftParen ∷ plain word.Star ∷ plain word.RightParen ∷ plain word.LeftBracket ∷ plain word.Integer ∷ plain word.RightBracket ∷ plain word.RightParen ∷ plain word.Semicolon ∷ []) (node kind.Declaration 0 21 (node kind.FunctionDeclarator 1 20 (node kind.NameDeclarator 1 2 none (node kind.Parameters 3 19 (node kind.Parameter 3 6 (node kind.Int 3 4 none (node kind.AbstractPointer 4 6 none none)) (node kind.Parameter 7 11 (node kind.Int 7 8 none (node kind.AbstractArray 8 11 (node kind.Integer 9 10 none none) none)) (node kind.Parameter 12 19 (node kind.Int 12 13 none (node kind.AbstractArrayOf 13 19 (node kind.AbstractGroup 13 16 (node kind.AbstractPointer 14 15 none none) (node kind.Integer 17 18 none none)) none)) none))) none)) none) none) ≡ false)
unfolding reads along as_part rule_of
takes_11 = (refl, refl, refl, refl)

-- type names: int f ( void ) { ( const char * ) p ; }
takes_12 : (is_read (plain word.Int ∷ lexeme word.Identifier (codes "f") ∷ plain word.LeftParen ∷ plain word.Void ∷ plain word.RightParen ∷ plain word.LeftBrace ∷ plain word.LeftParen ∷ plain word.Const ∷ plain word.Char ∷ plain word.Star ∷ plain word.RightParen ∷ lexeme word.Identifier (codes "p") ∷ plain word.Semicolon ∷ plain word.RightBrace ∷ []) (node kind.FunctionDefinition 0 14 (node kind.Int 0 1 none (node kind.FunctionDeclarator 1 5 (node kind.NameDeclarator 1 2 none (node kind.VoidParameters 3 4 none none)) (node kind.Compound 5 14 (node kind.ExpressionStatement 6 13 (node kind.Cast 6 12 (node kind.TypeName 7 10 (node kind.PlainSpecifiers 7 9 (node kind.Const 7 8 none (node kind.Char 8 9 none none)) (node kind.AbstractPointer 9 10 none none)) (node kind.Identifier 11 12 none none)) none) none) none))) none) ≡ true) ×
    (is_read (plain word.Int ∷ lexeme word.Identifier (codes "f") ∷ plain word.LeftParen ∷ plain word.Void ∷ plain word.RightParen ∷ plain word.LeftBrace ∷ plain word.LeftParen ∷ plain word.Float ∷ plain word.Char ∷ plain word.Star ∷ plain word.RightParen ∷ lexeme word.Identifier (codes "p") ∷ plain word.Semicolon ∷ plain word.RightBrace ∷ []) (node kind.FunctionDefinition 0 14 (node kind.Int 0 1 none (node kind.FunctionDeclarator 1 5 (node kind.NameDeclarator 1 2 none (node kind.VoidParameters 3 4 none none)) (node kind.Compound 5 14 (node kind.ExpressionStatement 6 13 (node kind.Cast 6 12 (node kind.TypeName 7 10 (node kind.PlainSpecifiers 7 9 (node kind.Const 7 8 none (node kind.Char 8 9 none none)) (node kind.AbstractPointer 9 10 none none)) (node kind.Identifier 11 12 none none)) none) none) none))) none) ≡ false) ×
    (is_read (plain word.Int ∷ lexeme word.Identifier (codes "f") ∷ plain word.LeftParen ∷ plain word.Void ∷ plain word.RightParen ∷ plain word.LeftBrace ∷ plain word.LeftParen ∷ plain word.Const ∷ plain word.Char ∷ plain word.Star ∷ plain word.RightParen ∷ lexeme word.Identifier (codes "p") ∷ plain word.Semicolon ∷ plain word.RightBrace ∷ []) (node kind.FunctionDefinition 0 14 (node kind.Int 0 1 none (node kind.FunctionDeclarator 1 5 (node kind.NameDeclarator 1 2 none (node kind.VoidParameters 3 4 none none)) (node kind.Compound 5 14 (node kind.ExpressionStatement 6 13 (node kind.Cast 6 12 (node kind.TypeName 7 10 (node kind.PlainSpecifiers 7 9 (node kind.Const 7 8 none (node kind.Char 8 9 none none)) (node kind.AbstractPointer 9 10 none none)) (node kind.Break 11 12 none none)) none) none) none))) none) ≡ false) ×
    (is_read (plain word.Int ∷ lexeme word.Identifier (codes "f") ∷ plain word.LeftParen ∷ plain word.Void ∷ plain word.RightParen ∷ plain word.LeftBrace ∷ plain word.LeftParen ∷ plain word.Const ∷ plain word.Char ∷ plain word.Star ∷ plain word.RightParen ∷ lexeme word.Identifier (codes "p") ∷ plain word.Semicolon ∷ plain word.RightBrace ∷ []) (node kind.FunctionDefinition 0 14 (node kind.FunctionDeclarator 1 5 (node kind.NameDeclarator 1 2 none (node kind.VoidParameters 3 4 none none)) (node kind.Compound 5 14 (node kind.ExpressionStatement 6 13 (node kind.Cast 6 12 (node kind.TypeName 7 10 (node kind.PlainSpecifiers 7 9 (node kind.Const 7 8 none (node kind.Char 8 9 none none)) (node kind.AbstractPointer 9 10 none none)) (node kind.Identifier 11 12 none none)) none) none) none)) none) ≡ false)
unfolding reads along as_part rule_of
takes_12 = (refl, refl, refl, refl)

-- a structure: struct s { int a , b [ 2 ] ; struct s * n ; } x ;
takes_13 : (is_read (plain word.Struct ∷ lexeme word.Identifier (codes "s") ∷ plain word.LeftBrace ∷ plain word.Int ∷ lexeme word.Identifier (codes "a") ∷ plain word.Comma ∷ lexeme word.Identifier (codes "b") ∷ plain word.LeftBracket ∷ plain word.Integer ∷ plain word.RightBracket ∷ plain word.Semicolon ∷ plain word.Struct ∷ lexeme word.Identifier (codes "s") ∷ plain word.Star ∷ lexeme word.Identifier (codes "n") ∷ plain word.Semicolon ∷ plain word.RightBrace ∷ lexeme word.Identifier (codes "x") ∷ plain word.Semicolon ∷ []) (node kind.Declaration 0 19 (node kind.StructContent 0 17 (node kind.MemberDeclaration 3 11 (node kind.Int 3 4 none (node kind.NameDeclarator 4 5 none (node kind.ArrayDeclarator 6 10 (node kind.NameDeclarator 6 7 none (node kind.Integer 8 9 none none)) none))) (node kind.MemberDeclaration 11 16 (node kind.StructTag 11 13 none (node kind.PointerDeclarator 13 15 (node kind.NameDeclarator 14 15 none none) none)) none)) (node kind.NameDeclarator 17 18 none none)) none) ≡ true) ×
    (is_read (plain word.Struct ∷ lexeme word.Identifier (codes "s") ∷ plain word.LeftBrace ∷ plain word.Int ∷ lexeme word.Identifier (codes "a") ∷ plain word.Comma ∷ lexeme word.Identifier (codes "b") ∷ plain word.LeftBracket ∷ plain word.Integer ∷ plain word.RightBracket ∷ plain word.Semicolon ∷ plain word.Struct ∷ lexeme word.Identifier (codes "s") ∷ plain word.Star ∷ lexeme word.Identifier (codes "n") ∷ plain word.Semicolon ∷ plain word.RightBrace ∷ lexeme word.Identifier (codes "x") ∷ plain word.Float ∷ []) (node kind.Declaration 0 19 (node kind.StructContent 0 17 (node kind.MemberDeclaration 3 11 (node kind.Int 3 4 none (node kind.NameDeclarator 4 5 none (node kind.ArrayDeclarator 6 10 (node kind.NameDeclarator 6 7 none (node kind.Integer 8 9 none none)) none))) (node kind.MemberDeclaration 11 16 (node kind.StructTag 11 13 none (node kind.PointerDeclarator 13 15 (node kind.NameDeclarator 14 15 none none) none)) none)) (node kind.NameDeclarator 17 18 none none)) none) ≡ false) ×
    (is_read (plain word.Struct ∷ lexeme word.Identifier (codes "s") ∷ plain word.LeftBrace ∷ plain word.Int ∷ lexeme word.Identifier (codes "a") ∷ plain word.Comma ∷ lexeme word.Identifier (codes "b") ∷ plain word.LeftBracket ∷ plain word.Integer ∷ plain word.RightBracket ∷ plain word.Semicolon ∷ plain word.Struct ∷ lexeme word.Identifier (codes "s") ∷ plain word.Star ∷ lexeme word.Identifier (codes "n") ∷ plain word.Semicolon ∷ plain word.RightBrace ∷ lexeme word.Identifier (codes "x") ∷ plain word.Semicolon ∷ []) (node kind.Declaration 0 19 (node kind.StructContent 0 17 (node kind.MemberDeclaration 3 11 (node kind.Int 3 4 none (node kind.NameDeclarator 4 5 none (node kind.ArrayDeclarator 6 10 (node kind.NameDeclarator 6 7 none (node kind.Integer 8 9 none none)) none))) (node kind.MemberDeclaration 11 16 (node kind.StructTag 11 13 none (node kind.PointerDeclarator 13 15 (node kind.NameDeclarator 14 15 none none) none)) none)) (node kind.Break 17 18 none none)) none) ≡ false) ×
    (is_read (plain word.Struct ∷ lexeme word.Identifier (codes "s") ∷ plain word.LeftBrace ∷ plain word.Int ∷ lexeme word.Identifier (codes "a") ∷ plain word.Comma ∷ lexeme word.Identifier (codes "b") ∷ plain word.LeftBracket ∷ plain word.Integer ∷ plain word.RightBracket ∷ plain word.Semicolon ∷ plain word.Struct ∷ lexeme word.Identifier (codes "s") ∷ plain word.Star ∷ lexeme word.Identifier (codes "n") ∷ plain word.Semicolon ∷ plain word.RightBrace ∷ lexeme word.Identifier (codes "x") ∷ plain word.Semicolon ∷ []) (node kind.Declaration 0 19 (node kind.NameDeclarator 17 18 none none) none) ≡ false)
unfolding reads along as_part rule_of
takes_13 = (refl, refl, refl, refl)

-- an enumeration, with a comma at its end: enum e { A , B = 5 , } ; enum e x ;
takes_14 : (is_read (plain word.Enum ∷ lexeme word.Identifier (codes "e") ∷ plain word.LeftBrace ∷ lexeme word.Identifier (codes "A") ∷ plain word.Comma ∷ lexeme word.Identifier (codes "B") ∷ plain word.Equal ∷ plain word.Integer ∷ plain word.Comma ∷ plain word.RightBrace ∷ plain word.Semicolon ∷ plain word.Enum ∷ lexeme word.Identifier (codes "e") ∷ lexeme word.Identifier (codes "x") ∷ plain word.Semicolon ∷ []) (node kind.Declaration 0 11 (node kind.EnumContent 0 10 (node kind.Enumerator 3 4 none (node kind.Enumerator 5 8 (node kind.Integer 7 8 none none) none)) none) (node kind.Declaration 11 15 (node kind.EnumTag 11 13 none (node kind.NameDeclarator 13 14 none none)) none)) ≡ true) ×
    (is_read (plain word.Enum ∷ lexeme word.Identifier (codes "e") ∷ plain word.LeftBrace ∷ lexeme word.Identifier (codes "A") ∷ plain word.Comma ∷ lexeme word.Identifier (codes "B") ∷ plain word.Equal ∷ plain word.Integer ∷ plain word.Comma ∷ plain word.RightBrace ∷ plain word.Semicolon ∷ plain word.Enum ∷ lexeme word.Identifier (codes "e") ∷ lexeme word.Identifier (codes "x") ∷ plain word.Float ∷ []) (node kind.Declaration 0 11 (node kind.EnumContent 0 10 (node kind.Enumerator 3 4 none (node kind.Enumerator 5 8 (node kind.Integer 7 8 none none) none)) none) (node kind.Declaration 11 15 (node kind.EnumTag 11 13 none (node kind.NameDeclarator 13 14 none none)) none)) ≡ false) ×
    (is_read (plain word.Enum ∷ lexeme word.Identifier (codes "e") ∷ plain word.LeftBrace ∷ lexeme word.Identifier (codes "A") ∷ plain word.Comma ∷ lexeme word.Identifier (codes "B") ∷ plain word.Equal ∷ plain word.Integer ∷ plain word.Comma ∷ plain word.RightBrace ∷ plain word.Semicolon ∷ plain word.Enum ∷ lexeme word.Identifier (codes "e") ∷ lexeme word.Identifier (codes "x") ∷ plain word.Semicolon ∷ []) (node kind.Declaration 0 11 (node kind.EnumContent 0 10 (node kind.Enumerator 3 4 none (node kind.Enumerator 5 8 (node kind.Integer 7 8 none none) none)) none) (node kind.Declaration 11 15 (node kind.EnumTag 11 13 none (node kind.Break 13 14 none none)) none)) ≡ false) ×
    (is_read (plain word.Enum ∷ lexeme word.Identifier (codes "e") ∷ plain word.LeftBrace ∷ lexeme word.Identifier (codes "A") ∷ plain word.Comma ∷ lexeme word.Identifier (codes "B") ∷ plain word.Equal ∷ plain word.Integer ∷ plain word.Comma ∷ plain word.RightBrace ∷ plain word.Semicolon ∷ plain word.Enum ∷ lexeme word.Identifier (codes "e") ∷ lexeme word.Identifier (codes "x") ∷ plain word.Semicolon ∷ []) (node kind.Declaration 0 11 (node kind.EnumContent 0 10 (node kind.Enumerator 3 4 none (node kind.Enumerator 5 8 (node kind.Integer 7 8 none none) none)) none) (node kind.Declaration 11 15 (node kind.NameDeclarator 13 14 none none) none)) ≡ false)
unfolding reads along as_part rule_of
takes_14 = (refl, refl, refl, refl)

-- an enumeration without a tag: enum { A } ;
takes_15 : (is_read (plain word.Enum ∷ plain word.LeftBrace ∷ lexeme word.Identifier (codes "A") ∷ plain word.RightBrace ∷ plain word.Semicolon ∷ []) (node kind.Declaration 0 5 (node kind.EnumContent 0 4 (node kind.Enumerator 2 3 none none) none) none) ≡ true) ×
    (is_read (plain word.Enum ∷ plain word.LeftBrace ∷ lexeme word.Identifier (codes "A") ∷ plain word.RightBrace ∷ plain word.Float ∷ []) (node kind.Declaration 0 5 (node kind.EnumContent 0 4 (node kind.Enumerator 2 3 none none) none) none) ≡ false) ×
    (is_read (plain word.Enum ∷ plain word.LeftBrace ∷ lexeme word.Identifier (codes "A") ∷ plain word.RightBrace ∷ plain word.Semicolon ∷ []) (node kind.Declaration 0 5 (node kind.EnumContent 0 4 (node kind.Break 2 3 none none) none) none) ≡ false) ×
    (is_read (plain word.Enum ∷ plain word.LeftBrace ∷ lexeme word.Identifier (codes "A") ∷ plain word.RightBrace ∷ plain word.Semicolon ∷ []) (node kind.Declaration 0 5 none none) ≡ false)
unfolding reads along as_part rule_of
takes_15 = (refl, refl, refl, refl)

-- initializer lists: int a [ ] [ 2 ] = { { 1 , 2 } , 3 , } ;
takes_16 : (is_read (plain word.Int ∷ lexeme word.Identifier (codes "a") ∷ plain word.LeftBracket ∷ plain word.RightBracket ∷ plain word.LeftBracket ∷ plain word.Integer ∷ plain word.RightBracket ∷ plain word.Equal ∷ plain word.LeftBrace ∷ plain word.LeftBrace ∷ plain word.Integer ∷ plain word.Comma ∷ plain word.Integer ∷ plain word.RightBrace ∷ plain word.Comma ∷ plain word.Integer ∷ plain word.Comma ∷ plain word.RightBrace ∷ plain word.Semicolon ∷ []) (node kind.Declaration 0 19 (node kind.Int 0 1 none (node kind.InitDeclarator 1 18 (node kind.ArrayDeclarator 1 7 (node kind.ArrayDeclarator 1 4 (node kind.NameDeclarator 1 2 none none) (node kind.Integer 5 6 none none)) (node kind.InitializerList 8 18 (node kind.InitializerList 9 14 (node kind.Integer 10 11 none (node kind.Integer 12 13 none none)) (node kind.Integer 15 16 none none)) none)) none)) none) ≡ true) ×
    (is_read (plain word.Int ∷ lexeme word.Identifier (codes "a") ∷ plain word.LeftBracket ∷ plain word.RightBracket ∷ plain word.LeftBracket ∷ plain word.Integer ∷ plain word.RightBracket ∷ plain word.Equal ∷ plain word.LeftBrace ∷ plain word.LeftBrace ∷ plain word.Integer ∷ plain word.Comma ∷ plain word.Integer ∷ plain word.RightBrace ∷ plain word.Comma ∷ plain word.Integer ∷ plain word.Comma ∷ plain word.RightBrace ∷ plain word.Float ∷ []) (node kind.Declaration 0 19 (node kind.Int 0 1 none (node kind.InitDeclarator 1 18 (node kind.ArrayDeclarator 1 7 (node kind.ArrayDeclarator 1 4 (node kind.NameDeclarator 1 2 none none) (node kind.Integer 5 6 none none)) (node kind.InitializerList 8 18 (node kind.InitializerList 9 14 (node kind.Integer 10 11 none (node kind.Integer 12 13 none none)) (node kind.Integer 15 16 none none)) none)) none)) none) ≡ false) ×
    (is_read (plain word.Int ∷ lexeme word.Identifier (codes "a") ∷ plain word.LeftBracket ∷ plain word.RightBracket ∷ plain word.LeftBracket ∷ plain word.Integer ∷ plain word.RightBracket ∷ plain word.Equal ∷ plain word.LeftBrace ∷ plain word.LeftBrace ∷ plain word.Integer ∷ plain word.Comma ∷ plain word.Integer ∷ plain word.RightBrace ∷ plain word.Comma ∷ plain word.Integer ∷ plain word.Comma ∷ plain word.RightBrace ∷ plain word.Semicolon ∷ []) (node kind.Declaration 0 19 (node kind.Int 0 1 none (node kind.InitDeclarator 1 18 (node kind.ArrayDeclarator 1 7 (node kind.ArrayDeclarator 1 4 (node kind.NameDeclarator 1 2 none none) (node kind.Integer 5 6 none none)) (node kind.InitializerList 8 18 (node kind.InitializerList 9 14 (node kind.Integer 10 11 none (node kind.Integer 12 13 none none)) (node kind.Break 15 16 none none)) none)) none)) none) ≡ false) ×
    (is_read (plain word.Int ∷ lexeme word.Identifier (codes "a") ∷ plain word.LeftBracket ∷ plain word.RightBracket ∷ plain word.LeftBracket ∷ plain word.Integer ∷ plain word.RightBracket ∷ plain word.Equal ∷ plain word.LeftBrace ∷ plain word.LeftBrace ∷ plain word.Integer ∷ plain word.Comma ∷ plain word.Integer ∷ plain word.RightBrace ∷ plain word.Comma ∷ plain word.Integer ∷ plain word.Comma ∷ plain word.RightBrace ∷ plain word.Semicolon ∷ []) (node kind.Declaration 0 19 (node kind.InitDeclarator 1 18 (node kind.ArrayDeclarator 1 7 (node kind.ArrayDeclarator 1 4 (node kind.NameDeclarator 1 2 none none) (node kind.Integer 5 6 none none)) (node kind.InitializerList 8 18 (node kind.InitializerList 9 14 (node kind.Integer 10 11 none (node kind.Integer 12 13 none none)) (node kind.Integer 15 16 none none)) none)) none) none) ≡ false)
unfolding reads along as_part rule_of
takes_16 = (refl, refl, refl, refl)

-- storage classes: extern int a ; static inline int g ( ) ; int f ( void ) { auto int b ; register int c ; }
takes_17 : (is_read (plain word.Extern ∷ plain word.Int ∷ lexeme word.Identifier (codes "a") ∷ plain word.Semicolon ∷ plain word.Static ∷ plain word.Inline ∷ plain word.Int ∷ lexeme word.Identifier (codes "g") ∷ plain word.LeftParen ∷ plain word.RightParen ∷ plain word.Semicolon ∷ plain word.Int ∷ lexeme word.Identifier (codes "f") ∷ plain word.LeftParen ∷ plain word.Void ∷ plain word.RightParen ∷ plain word.LeftBrace ∷ plain word.Auto ∷ plain word.Int ∷ lexeme word.Identifier (codes "b") ∷ plain word.Semicolon ∷ plain word.Register ∷ plain word.Int ∷ lexeme word.Identifier (codes "c") ∷ plain word.Semicolon ∷ plain word.RightBrace ∷ []) (node kind.Declaration 0 4 (node kind.Specifiers 0 2 (node kind.Extern 0 1 none (node kind.Int 1 2 none none)) (node kind.NameDeclarator 2 3 none none)) (node kind.Declaration 4 11 (node kind.Specifiers 4 7 (node kind.Static 4 5 none (node kind.Inline 5 6 none (node kind.Int 6 7 none none))) (node kind.FunctionDeclarator 7 10 (node kind.NameDeclarator 7 8 none none) none)) (node kind.FunctionDefinition 11 26 (node kind.Int 11 12 none (node kind.FunctionDeclarator 12 16 (node kind.NameDeclarator 12 13 none (node kind.VoidParameters 14 15 none none)) (node kind.Compound 16 26 (node kind.Declaration 17 21 (node kind.Specifiers 17 19 (node kind.Auto 17 18 none (node kind.Int 18 19 none none)) (node kind.NameDeclarator 19 20 none none)) (node kind.Declaration 21 25 (node kind.Specifiers 21 23 (node kind.Register 21 22 none (node kind.Int 22 23 none none)) (node kind.NameDeclarator 23 24 none none)) none)) none))) none))) ≡ true) ×
    (is_read (plain word.Extern ∷ plain word.Int ∷ lexeme word.Identifier (codes "a") ∷ plain word.Semicolon ∷ plain word.Static ∷ plain word.Inline ∷ plain word.Int ∷ lexeme word.Identifier (codes "g") ∷ plain word.LeftParen ∷ plain word.RightParen ∷ plain word.Semicolon ∷ plain word.Int ∷ lexeme word.Identifier (codes "f") ∷ plain word.Float ∷ plain word.Void ∷ plain word.RightParen ∷ plain word.LeftBrace ∷ plain word.Auto ∷ plain word.Int ∷ lexeme word.Identifier (codes "b") ∷ plain word.Semicolon ∷ plain word.Register ∷ plain word.Int ∷ lexeme word.Identifier (codes "c") ∷ plain word.Semicolon ∷ plain word.RightBrace ∷ []) (node kind.Declaration 0 4 (node kind.Specifiers 0 2 (node kind.Extern 0 1 none (node kind.Int 1 2 none none)) (node kind.NameDeclarator 2 3 none none)) (node kind.Declaration 4 11 (node kind.Specifiers 4 7 (node kind.Static 4 5 none (node kind.Inline 5 6 none (node kind.Int 6 7 none none))) (node kind.FunctionDeclarator 7 10 (node kind.NameDeclarator 7 8 none none) none)) (node kind.FunctionDefinition 11 26 (node kind.Int 11 12 none (node kind.FunctionDeclarator 12 16 (node kind.NameDeclarator 12 13 none (node kind.VoidParameters 14 15 none none)) (node kind.Compound 16 26 (node kind.Declaration 17 21 (node kind.Specifiers 17 19 (node kind.Auto 17 18 none (node kind.Int 18 19 none none)) (node kind.NameDeclarator 19 20 none none)) (node kind.Declaration 21 25 (node kind.Specifiers 21 23 (node kind.Register 21 22 none (node kind.Int 22 23 none none)) (node kind.NameDeclarator 23 24 none none)) none)) none))) none))) ≡ false) ×
    (is_read (plain word.Extern ∷ plain word.Int ∷ lexeme word.Identifier (codes "a") ∷ plain word.Semicolon ∷ plain word.Static ∷ plain word.Inline ∷ plain word.Int ∷ lexeme word.Identifier (codes "g") ∷ plain word.LeftParen ∷ plain word.RightParen ∷ plain word.Semicolon ∷ plain word.Int ∷ lexeme word.Identifier (codes "f") ∷ plain word.LeftParen ∷ plain word.Void ∷ plain word.RightParen ∷ plain word.LeftBrace ∷ plain word.Auto ∷ plain word.Int ∷ lexeme word.Identifier (codes "b") ∷ plain word.Semicolon ∷ plain word.Register ∷ plain word.Int ∷ lexeme word.Identifier (codes "c") ∷ plain word.Semicolon ∷ plain word.RightBrace ∷ []) (node kind.Declaration 0 4 (node kind.Specifiers 0 2 (node kind.Extern 0 1 none (node kind.Int 1 2 none none)) (node kind.NameDeclarator 2 3 none none)) (node kind.Declaration 4 11 (node kind.Specifiers 4 7 (node kind.Static 4 5 none (node kind.Inline 5 6 none (node kind.Int 6 7 none none))) (node kind.FunctionDeclarator 7 10 (node kind.NameDeclarator 7 8 none none) none)) (node kind.FunctionDefinition 11 26 (node kind.Int 11 12 none (node kind.FunctionDeclarator 12 16 (node kind.NameDeclarator 12 13 none (node kind.VoidParameters 14 15 none none)) (node kind.Compound 16 26 (node kind.Declaration 17 21 (node kind.Specifiers 17 19 (node kind.Auto 17 18 none (node kind.Int 18 19 none none)) (node kind.NameDeclarator 19 20 none none)) (node kind.Declaration 21 25 (node kind.Specifiers 21 23 (node kind.Register 21 22 none (node kind.Int 22 23 none none)) (node kind.Break 23 24 none none)) none)) none))) none))) ≡ false) ×
    (is_read (plain word.Extern ∷ plain word.Int ∷ lexeme word.Identifier (codes "a") ∷ plain word.Semicolon ∷ plain word.Static ∷ plain word.Inline ∷ plain word.Int ∷ lexeme word.Identifier (codes "g") ∷ plain word.LeftParen ∷ plain word.RightParen ∷ plain word.Semicolon ∷ plain word.Int ∷ lexeme word.Identifier (codes "f") ∷ plain word.LeftParen ∷ plain word.Void ∷ plain word.RightParen ∷ plain word.LeftBrace ∷ plain word.Auto ∷ plain word.Int ∷ lexeme word.Identifier (codes "b") ∷ plain word.Semicolon ∷ plain word.Register ∷ plain word.Int ∷ lexeme word.Identifier (codes "c") ∷ plain word.Semicolon ∷ plain word.RightBrace ∷ []) (node kind.Declaration 0 4 (node kind.Specifiers 0 2 (node kind.Extern 0 1 none (node kind.Int 1 2 none none)) (node kind.NameDeclarator 2 3 none none)) (node kind.Declaration 4 11 (node kind.Specifiers 4 7 (node kind.Static 4 5 none (node kind.Inline 5 6 none (node kind.Int 6 7 none none))) (node kind.FunctionDeclarator 7 10 (node kind.NameDeclarator 7 8 none none) none)) (node kind.FunctionDefinition 11 26 (node kind.FunctionDeclarator 12 16 (node kind.NameDeclarator 12 13 none (node kind.VoidParameters 14 15 none none)) (node kind.Compound 16 26 (node kind.Declaration 17 21 (node kind.Specifiers 17 19 (node kind.Auto 17 18 none (node kind.Int 18 19 none none)) (node kind.NameDeclarator 19 20 none none)) (node kind.Declaration 21 25 (node kind.Specifiers 21 23 (node kind.Register 21 22 none (node kind.Int 22 23 none none)) (node kind.NameDeclarator 23 24 none none)) none)) none)) none))) ≡ false)
unfolding reads along as_part rule_of
takes_17 = (refl, refl, refl, refl)

-- type specifiers: unsigned long int a ; signed short b ; _Bool c ; char d ;
takes_18 : (is_read (plain word.Unsigned ∷ plain word.Long ∷ plain word.Int ∷ lexeme word.Identifier (codes "a") ∷ plain word.Semicolon ∷ plain word.Signed ∷ plain word.Short ∷ lexeme word.Identifier (codes "b") ∷ plain word.Semicolon ∷ plain word.Bool ∷ lexeme word.Identifier (codes "c") ∷ plain word.Semicolon ∷ plain word.Char ∷ lexeme word.Identifier (codes "d") ∷ plain word.Semicolon ∷ []) (node kind.Declaration 0 5 (node kind.Specifiers 0 3 (node kind.Unsigned 0 1 none (node kind.Long 1 2 none (node kind.Int 2 3 none none))) (node kind.NameDeclarator 3 4 none none)) (node kind.Declaration 5 9 (node kind.Specifiers 5 7 (node kind.Signed 5 6 none (node kind.Short 6 7 none none)) (node kind.NameDeclarator 7 8 none none)) (node kind.Declaration 9 12 (node kind.Bool 9 10 none (node kind.NameDeclarator 10 11 none none)) (node kind.Declaration 12 15 (node kind.Char 12 13 none (node kind.NameDeclarator 13 14 none none)) none)))) ≡ true) ×
    (is_read (plain word.Unsigned ∷ plain word.Long ∷ plain word.Int ∷ lexeme word.Identifier (codes "a") ∷ plain word.Semicolon ∷ plain word.Signed ∷ plain word.Short ∷ lexeme word.Identifier (codes "b") ∷ plain word.Semicolon ∷ plain word.Bool ∷ lexeme word.Identifier (codes "c") ∷ plain word.Semicolon ∷ plain word.Char ∷ lexeme word.Identifier (codes "d") ∷ plain word.Float ∷ []) (node kind.Declaration 0 5 (node kind.Specifiers 0 3 (node kind.Unsigned 0 1 none (node kind.Long 1 2 none (node kind.Int 2 3 none none))) (node kind.NameDeclarator 3 4 none none)) (node kind.Declaration 5 9 (node kind.Specifiers 5 7 (node kind.Signed 5 6 none (node kind.Short 6 7 none none)) (node kind.NameDeclarator 7 8 none none)) (node kind.Declaration 9 12 (node kind.Bool 9 10 none (node kind.NameDeclarator 10 11 none none)) (node kind.Declaration 12 15 (node kind.Char 12 13 none (node kind.NameDeclarator 13 14 none none)) none)))) ≡ false) ×
    (is_read (plain word.Unsigned ∷ plain word.Long ∷ plain word.Int ∷ lexeme word.Identifier (codes "a") ∷ plain word.Semicolon ∷ plain word.Signed ∷ plain word.Short ∷ lexeme word.Identifier (codes "b") ∷ plain word.Semicolon ∷ plain word.Bool ∷ lexeme word.Identifier (codes "c") ∷ plain word.Semicolon ∷ plain word.Char ∷ lexeme word.Identifier (codes "d") ∷ plain word.Semicolon ∷ []) (node kind.Declaration 0 5 (node kind.Specifiers 0 3 (node kind.Unsigned 0 1 none (node kind.Long 1 2 none (node kind.Int 2 3 none none))) (node kind.NameDeclarator 3 4 none none)) (node kind.Declaration 5 9 (node kind.Specifiers 5 7 (node kind.Signed 5 6 none (node kind.Short 6 7 none none)) (node kind.NameDeclarator 7 8 none none)) (node kind.Declaration 9 12 (node kind.Bool 9 10 none (node kind.NameDeclarator 10 11 none none)) (node kind.Declaration 12 15 (node kind.Char 12 13 none (node kind.Break 13 14 none none)) none)))) ≡ false) ×
    (is_read (plain word.Unsigned ∷ plain word.Long ∷ plain word.Int ∷ lexeme word.Identifier (codes "a") ∷ plain word.Semicolon ∷ plain word.Signed ∷ plain word.Short ∷ lexeme word.Identifier (codes "b") ∷ plain word.Semicolon ∷ plain word.Bool ∷ lexeme word.Identifier (codes "c") ∷ plain word.Semicolon ∷ plain word.Char ∷ lexeme word.Identifier (codes "d") ∷ plain word.Semicolon ∷ []) (node kind.Declaration 0 5 (node kind.Specifiers 0 3 (node kind.Unsigned 0 1 none (node kind.Long 1 2 none (node kind.Int 2 3 none none))) (node kind.NameDeclarator 3 4 none none)) (node kind.Declaration 5 9 (node kind.Specifiers 5 7 (node kind.Signed 5 6 none (node kind.Short 6 7 none none)) (node kind.NameDeclarator 7 8 none none)) (node kind.Declaration 9 12 (node kind.Bool 9 10 none (node kind.NameDeclarator 10 11 none none)) (node kind.Declaration 12 15 (node kind.NameDeclarator 13 14 none none) none)))) ≡ false)
unfolding reads along as_part rule_of
takes_18 = (refl, refl, refl, refl)

-- a function without result: void g ( int ) ;
takes_19 : (is_read (plain word.Void ∷ lexeme word.Identifier (codes "g") ∷ plain word.LeftParen ∷ plain word.Int ∷ plain word.RightParen ∷ plain word.Semicolon ∷ []) (node kind.Declaration 0 6 (node kind.Void 0 1 none (node kind.FunctionDeclarator 1 5 (node kind.NameDeclarator 1 2 none (node kind.Int 3 4 none none)) none)) none) ≡ true) ×
    (is_read (plain word.Void ∷ lexeme word.Identifier (codes "g") ∷ plain word.LeftParen ∷ plain word.Float ∷ plain word.RightParen ∷ plain word.Semicolon ∷ []) (node kind.Declaration 0 6 (node kind.Void 0 1 none (node kind.FunctionDeclarator 1 5 (node kind.NameDeclarator 1 2 none (node kind.Int 3 4 none none)) none)) none) ≡ false) ×
    (is_read (plain word.Void ∷ lexeme word.Identifier (codes "g") ∷ plain word.LeftParen ∷ plain word.Int ∷ plain word.RightParen ∷ plain word.Semicolon ∷ []) (node kind.Declaration 0 6 (node kind.Void 0 1 none (node kind.FunctionDeclarator 1 5 (node kind.NameDeclarator 1 2 none (node kind.Break 3 4 none none)) none)) none) ≡ false) ×
    (is_read (plain word.Void ∷ lexeme word.Identifier (codes "g") ∷ plain word.LeftParen ∷ plain word.Int ∷ plain word.RightParen ∷ plain word.Semicolon ∷ []) (node kind.Declaration 0 6 (node kind.FunctionDeclarator 1 5 (node kind.NameDeclarator 1 2 none (node kind.Int 3 4 none none)) none) none) ≡ false)
unfolding reads along as_part rule_of
takes_19 = (refl, refl, refl, refl)

-- a variadic declaration: int printf ( const char * , ... ) ;
takes_20 : (is_read (plain word.Int ∷ lexeme word.Identifier (codes "printf") ∷ plain word.LeftParen ∷ plain word.Const ∷ plain word.Char ∷ plain word.Star ∷ plain word.Comma ∷ plain word.Ellipsis ∷ plain word.RightParen ∷ plain word.Semicolon ∷ []) (node kind.Declaration 0 10 (node kind.Int 0 1 none (node kind.FunctionDeclarator 1 9 (node kind.NameDeclarator 1 2 none (node kind.VariadicParameters 3 8 (node kind.Parameter 3 6 (node kind.Specifiers 3 5 (node kind.Const 3 4 none (node kind.Char 4 5 none none)) (node kind.AbstractPointer 5 6 none none)) none) none)) none)) none) ≡ true) ×
    (is_read (plain word.Int ∷ lexeme word.Identifier (codes "printf") ∷ plain word.LeftParen ∷ plain word.Const ∷ plain word.Char ∷ plain word.Float ∷ plain word.Comma ∷ plain word.Ellipsis ∷ plain word.RightParen ∷ plain word.Semicolon ∷ []) (node kind.Declaration 0 10 (node kind.Int 0 1 none (node kind.FunctionDeclarator 1 9 (node kind.NameDeclarator 1 2 none (node kind.VariadicParameters 3 8 (node kind.Parameter 3 6 (node kind.Specifiers 3 5 (node kind.Const 3 4 none (node kind.Char 4 5 none none)) (node kind.AbstractPointer 5 6 none none)) none) none)) none)) none) ≡ false) ×
    (is_read (plain word.Int ∷ lexeme word.Identifier (codes "printf") ∷ plain word.LeftParen ∷ plain word.Const ∷ plain word.Char ∷ plain word.Star ∷ plain word.Comma ∷ plain word.Ellipsis ∷ plain word.RightParen ∷ plain word.Semicolon ∷ []) (node kind.Declaration 0 10 (node kind.Int 0 1 none (node kind.FunctionDeclarator 1 9 (node kind.NameDeclarator 1 2 none (node kind.VariadicParameters 3 8 (node kind.Parameter 3 6 (node kind.Specifiers 3 5 (node kind.Const 3 4 none (node kind.Char 4 5 none none)) (node kind.Break 5 6 none none)) none) none)) none)) none) ≡ false) ×
    (is_read (plain word.Int ∷ lexeme word.Identifier (codes "printf") ∷ plain word.LeftParen ∷ plain word.Const ∷ plain word.Char ∷ plain word.Star ∷ plain word.Comma ∷ plain word.Ellipsis ∷ plain word.RightParen ∷ plain word.Semicolon ∷ []) (node kind.Declaration 0 10 (node kind.FunctionDeclarator 1 9 (node kind.NameDeclarator 1 2 none (node kind.VariadicParameters 3 8 (node kind.Parameter 3 6 (node kind.Specifiers 3 5 (node kind.Const 3 4 none (node kind.Char 4 5 none none)) (node kind.AbstractPointer 5 6 none none)) none) none)) none) none) ≡ false)
unfolding reads along as_part rule_of
takes_20 = (refl, refl, refl, refl)

-- pointers to constants and constant pointers: const int * const * ( p ) ;
takes_21 : (is_read (plain word.Const ∷ plain word.Int ∷ plain word.Star ∷ plain word.Const ∷ plain word.Star ∷ plain word.LeftParen ∷ lexeme word.Identifier (codes "p") ∷ plain word.RightParen ∷ plain word.Semicolon ∷ []) (node kind.Declaration 0 9 (node kind.Specifiers 0 2 (node kind.Const 0 1 none (node kind.Int 1 2 none none)) (node kind.PointerDeclarator 2 8 (node kind.PointerDeclarator 4 8 (node kind.GroupDeclarator 5 8 (node kind.NameDeclarator 6 7 none none) none) none) none)) none) ≡ true) ×
    (is_read (plain word.Const ∷ plain word.Int ∷ plain word.Star ∷ plain word.Const ∷ plain word.Star ∷ plain word.LeftParen ∷ lexeme word.Identifier (codes "p") ∷ plain word.RightParen ∷ plain word.Float ∷ []) (node kind.Declaration 0 9 (node kind.Specifiers 0 2 (node kind.Const 0 1 none (node kind.Int 1 2 none none)) (node kind.PointerDeclarator 2 8 (node kind.PointerDeclarator 4 8 (node kind.GroupDeclarator 5 8 (node kind.NameDeclarator 6 7 none none) none) none) none)) none) ≡ false) ×
    (is_read (plain word.Const ∷ plain word.Int ∷ plain word.Star ∷ plain word.Const ∷ plain word.Star ∷ plain word.LeftParen ∷ lexeme word.Identifier (codes "p") ∷ plain word.RightParen ∷ plain word.Semicolon ∷ []) (node kind.Declaration 0 9 (node kind.Specifiers 0 2 (node kind.Const 0 1 none (node kind.Int 1 2 none none)) (node kind.PointerDeclarator 2 8 (node kind.PointerDeclarator 4 8 (node kind.GroupDeclarator 5 8 (node kind.Break 6 7 none none) none) none) none)) none) ≡ false) ×
    (is_read (plain word.Const ∷ plain word.Int ∷ plain word.Star ∷ plain word.Const ∷ plain word.Star ∷ plain word.LeftParen ∷ lexeme word.Identifier (codes "p") ∷ plain word.RightParen ∷ plain word.Semicolon ∷ []) (node kind.Declaration 0 9 (node kind.PointerDeclarator 2 8 (node kind.PointerDeclarator 4 8 (node kind.GroupDeclarator 5 8 (node kind.NameDeclarator 6 7 none none) none) none) none) none) ≡ false)
unfolding reads along as_part rule_of
takes_21 = (refl, refl, refl, refl)

-- assignments: int f ( void ) { a = b += 1 ; a -= 1 , a *= 2 ; }
takes_22 : (is_read (plain word.Int ∷ lexeme word.Identifier (codes "f") ∷ plain word.LeftParen ∷ plain word.Void ∷ plain word.RightParen ∷ plain word.LeftBrace ∷ lexeme word.Identifier (codes "a") ∷ plain word.Equal ∷ lexeme word.Identifier (codes "b") ∷ plain word.PlusEqual ∷ plain word.Integer ∷ plain word.Semicolon ∷ lexeme word.Identifier (codes "a") ∷ plain word.MinusEqual ∷ plain word.Integer ∷ plain word.Comma ∷ lexeme word.Identifier (codes "a") ∷ plain word.StarEqual ∷ plain word.Integer ∷ plain word.Semicolon ∷ plain word.RightBrace ∷ []) (node kind.FunctionDefinition 0 21 (node kind.Int 0 1 none (node kind.FunctionDeclarator 1 5 (node kind.NameDeclarator 1 2 none (node kind.VoidParameters 3 4 none none)) (node kind.Compound 5 21 (node kind.ExpressionStatement 6 12 (node kind.Assign 6 11 (node kind.Identifier 6 7 none (node kind.AddAssign 8 11 (node kind.Identifier 8 9 none (node kind.Integer 10 11 none none)) none)) none) (node kind.ExpressionStatement 12 20 (node kind.Comma 12 19 (node kind.SubtractAssign 12 15 (node kind.Identifier 12 13 none (node kind.Integer 14 15 none none)) (node kind.MultiplyAssign 16 19 (node kind.Identifier 16 17 none (node kind.Integer 18 19 none none)) none)) none) none)) none))) none) ≡ true) ×
    (is_read (plain word.Int ∷ lexeme word.Identifier (codes "f") ∷ plain word.LeftParen ∷ plain word.Void ∷ plain word.RightParen ∷ plain word.LeftBrace ∷ lexeme word.Identifier (codes "a") ∷ plain word.Equal ∷ lexeme word.Identifier (codes "b") ∷ plain word.PlusEqual ∷ plain word.Integer ∷ plain word.Semicolon ∷ lexeme word.Identifier (codes "a") ∷ plain word.MinusEqual ∷ plain word.Integer ∷ plain word.Comma ∷ lexeme word.Identifier (codes "a") ∷ plain word.StarEqual ∷ plain word.Integer ∷ plain word.Semicolon ∷ plain word.Float ∷ []) (node kind.FunctionDefinition 0 21 (node kind.Int 0 1 none (node kind.FunctionDeclarator 1 5 (node kind.NameDeclarator 1 2 none (node kind.VoidParameters 3 4 none none)) (node kind.Compound 5 21 (node kind.ExpressionStatement 6 12 (node kind.Assign 6 11 (node kind.Identifier 6 7 none (node kind.AddAssign 8 11 (node kind.Identifier 8 9 none (node kind.Integer 10 11 none none)) none)) none) (node kind.ExpressionStatement 12 20 (node kind.Comma 12 19 (node kind.SubtractAssign 12 15 (node kind.Identifier 12 13 none (node kind.Integer 14 15 none none)) (node kind.MultiplyAssign 16 19 (node kind.Identifier 16 17 none (node kind.Integer 18 19 none none)) none)) none) none)) none))) none) ≡ false) ×
    (is_read (plain word.Int ∷ lexeme word.Identifier (codes "f") ∷ plain word.LeftParen ∷ plain word.Void ∷ plain word.RightParen ∷ plain word.LeftBrace ∷ lexeme word.Identifier (codes "a") ∷ plain word.Equal ∷ lexeme word.Identifier (codes "b") ∷ plain word.PlusEqual ∷ plain word.Integer ∷ plain word.Semicolon ∷ lexeme word.Identifier (codes "a") ∷ plain word.MinusEqual ∷ plain word.Integer ∷ plain word.Comma ∷ lexeme word.Identifier (codes "a") ∷ plain word.StarEqual ∷ plain word.Integer ∷ plain word.Semicolon ∷ plain word.RightBrace ∷ []) (node kind.FunctionDefinition 0 21 (node kind.Int 0 1 none (node kind.FunctionDeclarator 1 5 (node kind.NameDeclarator 1 2 none (node kind.VoidParameters 3 4 none none)) (node kind.Compound 5 21 (node kind.ExpressionStatement 6 12 (node kind.Assign 6 11 (node kind.Identifier 6 7 none (node kind.AddAssign 8 11 (node kind.Identifier 8 9 none (node kind.Integer 10 11 none none)) none)) none) (node kind.ExpressionStatement 12 20 (node kind.Comma 12 19 (node kind.SubtractAssign 12 15 (node kind.Identifier 12 13 none (node kind.Integer 14 15 none none)) (node kind.MultiplyAssign 16 19 (node kind.Identifier 16 17 none (node kind.Break 18 19 none none)) none)) none) none)) none))) none) ≡ false) ×
    (is_read (plain word.Int ∷ lexeme word.Identifier (codes "f") ∷ plain word.LeftParen ∷ plain word.Void ∷ plain word.RightParen ∷ plain word.LeftBrace ∷ lexeme word.Identifier (codes "a") ∷ plain word.Equal ∷ lexeme word.Identifier (codes "b") ∷ plain word.PlusEqual ∷ plain word.Integer ∷ plain word.Semicolon ∷ lexeme word.Identifier (codes "a") ∷ plain word.MinusEqual ∷ plain word.Integer ∷ plain word.Comma ∷ lexeme word.Identifier (codes "a") ∷ plain word.StarEqual ∷ plain word.Integer ∷ plain word.Semicolon ∷ plain word.RightBrace ∷ []) (node kind.FunctionDefinition 0 21 (node kind.FunctionDeclarator 1 5 (node kind.NameDeclarator 1 2 none (node kind.VoidParameters 3 4 none none)) (node kind.Compound 5 21 (node kind.ExpressionStatement 6 12 (node kind.Assign 6 11 (node kind.Identifier 6 7 none (node kind.AddAssign 8 11 (node kind.Identifier 8 9 none (node kind.Integer 10 11 none none)) none)) none) (node kind.ExpressionStatement 12 20 (node kind.Comma 12 19 (node kind.SubtractAssign 12 15 (node kind.Identifier 12 13 none (node kind.Integer 14 15 none none)) (node kind.MultiplyAssign 16 19 (node kind.Identifier 16 17 none (node kind.Integer 18 19 none none)) none)) none) none)) none)) none) ≡ false)
unfolding reads along as_part rule_of
takes_22 = (refl, refl, refl, refl)

-- more assignments: int f ( void ) { a /= 1 ; a %= 1 ; a <<= 1 ; a >>= 1 ; a &= 1 ; a ^= 1 ; a |= 1 ; }
takes_23 : (is_read (plain word.Int ∷ lexeme word.Identifier (codes "f") ∷ plain word.LeftParen ∷ plain word.Void ∷ plain word.RightParen ∷ plain word.LeftBrace ∷ lexeme word.Identifier (codes "a") ∷ plain word.SlashEqual ∷ plain word.Integer ∷ plain word.Semicolon ∷ lexeme word.Identifier (codes "a") ∷ plain word.PercentEqual ∷ plain word.Integer ∷ plain word.Semicolon ∷ lexeme word.Identifier (codes "a") ∷ plain word.LessLessEqual ∷ plain word.Integer ∷ plain word.Semicolon ∷ lexeme word.Identifier (codes "a") ∷ plain word.GreaterGreaterEqual ∷ plain word.Integer ∷ plain word.Semicolon ∷ lexeme word.Identifier (codes "a") ∷ plain word.AmpersandEqual ∷ plain word.Integer ∷ plain word.Semicolon ∷ lexeme word.Identifier (codes "a") ∷ plain word.CaretEqual ∷ plain word.Integer ∷ plain word.Semicolon ∷ lexeme word.Identifier (codes "a") ∷ plain word.BarEqual ∷ plain word.Integer ∷ plain word.Semicolon ∷ plain word.RightBrace ∷ []) (node kind.FunctionDefinition 0 35 (node kind.Int 0 1 none (node kind.FunctionDeclarator 1 5 (node kind.NameDeclarator 1 2 none (node kind.VoidParameters 3 4 none none)) (node kind.Compound 5 35 (node kind.ExpressionStatement 6 10 (node kind.DivideAssign 6 9 (node kind.Identifier 6 7 none (node kind.Integer 8 9 none none)) none) (node kind.ExpressionStatement 10 14 (node kind.RemainderAssign 10 13 (node kind.Identifier 10 11 none (node kind.Integer 12 13 none none)) none) (node kind.ExpressionStatement 14 18 (node kind.ShiftLeftAssign 14 17 (node kind.Identifier 14 15 none (node kind.Integer 16 17 none none)) none) (node kind.ExpressionStatement 18 22 (node kind.ShiftRightAssign 18 21 (node kind.Identifier 18 19 none (node kind.Integer 20 21 none none)) none) (node kind.ExpressionStatement 22 26 (node kind.AndAssign 22 25 (node kind.Identifier 22 23 none (node kind.Integer 24 25 none none)) none) (node kind.ExpressionStatement 26 30 (node kind.XorAssign 26 29 (node kind.Identifier 26 27 none (node kind.Integer 28 29 none none)) none) (node kind.ExpressionStatement 30 34 (node kind.OrAssign 30 33 (node kind.Identifier 30 31 none (node kind.Integer 32 33 none none)) none) none))))))) none))) none) ≡ true) ×
    (is_read (plain word.Int ∷ lexeme word.Identifier (codes "f") ∷ plain word.LeftParen ∷ plain word.Void ∷ plain word.RightParen ∷ plain word.LeftBrace ∷ lexeme word.Identifier (codes "a") ∷ plain word.SlashEqual ∷ plain word.Integer ∷ plain word.Semicolon ∷ lexeme word.Identifier (codes "a") ∷ plain word.PercentEqual ∷ plain word.Integer ∷ plain word.Semicolon ∷ lexeme word.Identifier (codes "a") ∷ plain word.LessLessEqual ∷ plain word.Integer ∷ plain word.Semicolon ∷ lexeme word.Identifier (codes "a") ∷ plain word.GreaterGreaterEqual ∷ plain word.Integer ∷ plain word.Semicolon ∷ lexeme word.Identifier (codes "a") ∷ plain word.AmpersandEqual ∷ plain word.Integer ∷ plain word.Semicolon ∷ lexeme word.Identifier (codes "a") ∷ plain word.CaretEqual ∷ plain word.Integer ∷ plain word.Semicolon ∷ lexeme word.Identifier (codes "a") ∷ plain word.BarEqual ∷ plain word.Integer ∷ plain word.Semicolon ∷ plain word.Float ∷ []) (node kind.FunctionDefinition 0 35 (node kind.Int 0 1 none (node kind.FunctionDeclarator 1 5 (node kind.NameDeclarator 1 2 none (node kind.VoidParameters 3 4 none none)) (node kind.Compound 5 35 (node kind.ExpressionStatement 6 10 (node kind.DivideAssign 6 9 (node kind.Identifier 6 7 none (node kind.Integer 8 9 none none)) none) (node kind.ExpressionStatement 10 14 (node kind.RemainderAssign 10 13 (node kind.Identifier 10 11 none (node kind.Integer 12 13 none none)) none) (node kind.ExpressionStatement 14 18 (node kind.ShiftLeftAssign 14 17 (node kind.Identifier 14 15 none (node kind.Integer 16 17 none none)) none) (node kind.ExpressionStatement 18 22 (node kind.ShiftRightAssign 18 21 (node kind.Identifier 18 19 none (node kind.Integer 20 21 none none)) none) (node kind.ExpressionStatement 22 26 (node kind.AndAssign 22 25 (node kind.Identifier 22 23 none (node kind.Integer 24 25 none none)) none) (node kind.ExpressionStatement 26 30 (node kind.XorAssign 26 29 (node kind.Identifier 26 27 none (node kind.Integer 28 29 none none)) none) (node kind.ExpressionStatement 30 34 (node kind.OrAssign 30 33 (node kind.Identifier 30 31 none (node kind.Integer 32 33 none none)) none) none))))))) none))) none) ≡ false) ×
    (is_read (plain word.Int ∷ lexeme word.Identifier (codes "f") ∷ plain word.LeftParen ∷ plain word.Void ∷ plain word.RightParen ∷ plain word.LeftBrace ∷ lexeme word.Identifier (codes "a") ∷ plain word.SlashEqual ∷ plain word.Integer ∷ plain word.Semicolon ∷ lexeme word.Identifier (codes "a") ∷ plain word.PercentEqual ∷ plain word.Integer ∷ plain word.Semicolon ∷ lexeme word.Identifier (codes "a") ∷ plain word.LessLessEqual ∷ plain word.Integer ∷ plain word.Semicolon ∷ lexeme word.Identifier (codes "a") ∷ plain word.GreaterGreaterEqual ∷ plain word.Integer ∷ plain word.Semicolon ∷ lexeme word.Identifier (codes "a") ∷ plain word.AmpersandEqual ∷ plain word.Integer ∷ plain word.Semicolon ∷ lexeme word.Identifier (codes "a") ∷ plain word.CaretEqual ∷ plain word.Integer ∷ plain word.Semicolon ∷ lexeme word.Identifier (codes "a") ∷ plain word.BarEqual ∷ plain word.Integer ∷ plain word.Semicolon ∷ plain word.RightBrace ∷ []) (node kind.FunctionDefinition 0 35 (node kind.Int 0 1 none (node kind.FunctionDeclarator 1 5 (node kind.NameDeclarator 1 2 none (node kind.VoidParameters 3 4 none none)) (node kind.Compound 5 35 (node kind.ExpressionStatement 6 10 (node kind.DivideAssign 6 9 (node kind.Identifier 6 7 none (node kind.Integer 8 9 none none)) none) (node kind.ExpressionStatement 10 14 (node kind.RemainderAssign 10 13 (node kind.Identifier 10 11 none (node kind.Integer 12 13 none none)) none) (node kind.ExpressionStatement 14 18 (node kind.ShiftLeftAssign 14 17 (node kind.Identifier 14 15 none (node kind.Integer 16 17 none none)) none) (node kind.ExpressionStatement 18 22 (node kind.ShiftRightAssign 18 21 (node kind.Identifier 18 19 none (node kind.Integer 20 21 none none)) none) (node kind.ExpressionStatement 22 26 (node kind.AndAssign 22 25 (node kind.Identifier 22 23 none (node kind.Integer 24 25 none none)) none) (node kind.ExpressionStatement 26 30 (node kind.XorAssign 26 29 (node kind.Identifier 26 27 none (node kind.Integer 28 29 none none)) none) (node kind.ExpressionStatement 30 34 (node kind.OrAssign 30 33 (node kind.Identifier 30 31 none (node kind.Break 32 33 none none)) none) none))))))) none))) none) ≡ false) ×
    (is_read (plain word.Int ∷ lexeme word.Identifier (codes "f") ∷ plain word.LeftParen ∷ plain word.Void ∷ plain word.RightParen ∷ plain word.LeftBrace ∷ lexeme word.Identifier (codes "a") ∷ plain word.SlashEqual ∷ plain word.Integer ∷ plain word.Semicolon ∷ lexeme word.Identifier (codes "a") ∷ plain word.PercentEqual ∷ plain word.Integer ∷ plain word.Semicolon ∷ lexeme word.Identifier (codes "a") ∷ plain word.LessLessEqual ∷ plain word.Integer ∷ plain word.Semicolon ∷ lexeme word.Identifier (codes "a") ∷ plain word.GreaterGreaterEqual ∷ plain word.Integer ∷ plain word.Semicolon ∷ lexeme word.Identifier (codes "a") ∷ plain word.AmpersandEqual ∷ plain word.Integer ∷ plain word.Semicolon ∷ lexeme word.Identifier (codes "a") ∷ plain word.CaretEqual ∷ plain word.Integer ∷ plain word.Semicolon ∷ lexeme word.Identifier (codes "a") ∷ plain word.BarEqual ∷ plain word.Integer ∷ plain word.Semicolon ∷ plain word.RightBrace ∷ []) (node kind.FunctionDefinition 0 35 (node kind.FunctionDeclarator 1 5 (node kind.NameDeclarator 1 2 none (node kind.VoidParameters 3 4 none none)) (node kind.Compound 5 35 (node kind.ExpressionStatement 6 10 (node kind.DivideAssign 6 9 (node kind.Identifier 6 7 none (node kind.Integer 8 9 none none)) none) (node kind.ExpressionStatement 10 14 (node kind.RemainderAssign 10 13 (node kind.Identifier 10 11 none (node kind.Integer 12 13 none none)) none) (node kind.ExpressionStatement 14 18 (node kind.ShiftLeftAssign 14 17 (node kind.Identifier 14 15 none (node kind.Integer 16 17 none none)) none) (node kind.ExpressionStatement 18 22 (node kind.ShiftRightAssign 18 21 (node kind.Identifier 18 19 none (node kind.Integer 20 21 none none)) none) (node kind.ExpressionStatement 22 26 (node kind.AndAssign 22 25 (node kind.Identifier 22 23 none (node kind.Integer 24 25 none none)) none) (node kind.ExpressionStatement 26 30 (node kind.XorAssign 26 29 (node kind.Identifier 26 27 none (node kind.Integer 28 29 none none)) none) (node kind.ExpressionStatement 30 34 (node kind.OrAssign 30 33 (node kind.Identifier 30 31 none (node kind.Integer 32 33 none none)) none) none))))))) none)) none) ≡ false)
unfolding reads along as_part rule_of
takes_23 = (refl, refl, refl, refl)

-- a conditional to the right: int f ( void ) { a ? 1 , 2 : b ? 3 : 4 ; }
takes_24 : (is_read (plain word.Int ∷ lexeme word.Identifier (codes "f") ∷ plain word.LeftParen ∷ plain word.Void ∷ plain word.RightParen ∷ plain word.LeftBrace ∷ lexeme word.Identifier (codes "a") ∷ plain word.Question ∷ plain word.Integer ∷ plain word.Comma ∷ plain word.Integer ∷ plain word.Colon ∷ lexeme word.Identifier (codes "b") ∷ plain word.Question ∷ plain word.Integer ∷ plain word.Colon ∷ plain word.Integer ∷ plain word.Semicolon ∷ plain word.RightBrace ∷ []) (node kind.FunctionDefinition 0 19 (node kind.Int 0 1 none (node kind.FunctionDeclarator 1 5 (node kind.NameDeclarator 1 2 none (node kind.VoidParameters 3 4 none none)) (node kind.Compound 5 19 (node kind.ExpressionStatement 6 18 (node kind.Conditional 6 17 (node kind.Identifier 6 7 none (node kind.Comma 8 11 (node kind.Integer 8 9 none (node kind.Integer 10 11 none none)) (node kind.Conditional 12 17 (node kind.Identifier 12 13 none (node kind.Integer 14 15 none (node kind.Integer 16 17 none none))) none))) none) none) none))) none) ≡ true) ×
    (is_read (plain word.Int ∷ lexeme word.Identifier (codes "f") ∷ plain word.LeftParen ∷ plain word.Void ∷ plain word.RightParen ∷ plain word.LeftBrace ∷ lexeme word.Identifier (codes "a") ∷ plain word.Question ∷ plain word.Integer ∷ plain word.Comma ∷ plain word.Integer ∷ plain word.Colon ∷ lexeme word.Identifier (codes "b") ∷ plain word.Question ∷ plain word.Integer ∷ plain word.Colon ∷ plain word.Integer ∷ plain word.Semicolon ∷ plain word.Float ∷ []) (node kind.FunctionDefinition 0 19 (node kind.Int 0 1 none (node kind.FunctionDeclarator 1 5 (node kind.NameDeclarator 1 2 none (node kind.VoidParameters 3 4 none none)) (node kind.Compound 5 19 (node kind.ExpressionStatement 6 18 (node kind.Conditional 6 17 (node kind.Identifier 6 7 none (node kind.Comma 8 11 (node kind.Integer 8 9 none (node kind.Integer 10 11 none none)) (node kind.Conditional 12 17 (node kind.Identifier 12 13 none (node kind.Integer 14 15 none (node kind.Integer 16 17 none none))) none))) none) none) none))) none) ≡ false) ×
    (is_read (plain word.Int ∷ lexeme word.Identifier (codes "f") ∷ plain word.LeftParen ∷ plain word.Void ∷ plain word.RightParen ∷ plain word.LeftBrace ∷ lexeme word.Identifier (codes "a") ∷ plain word.Question ∷ plain word.Integer ∷ plain word.Comma ∷ plain word.Integer ∷ plain word.Colon ∷ lexeme word.Identifier (codes "b") ∷ plain word.Question ∷ plain word.Integer ∷ plain word.Colon ∷ plain word.Integer ∷ plain word.Semicolon ∷ plain word.RightBrace ∷ []) (node kind.FunctionDefinition 0 19 (node kind.Int 0 1 none (node kind.FunctionDeclarator 1 5 (node kind.NameDeclarator 1 2 none (node kind.VoidParameters 3 4 none none)) (node kind.Compound 5 19 (node kind.ExpressionStatement 6 18 (node kind.Conditional 6 17 (node kind.Identifier 6 7 none (node kind.Comma 8 11 (node kind.Integer 8 9 none (node kind.Integer 10 11 none none)) (node kind.Conditional 12 17 (node kind.Identifier 12 13 none (node kind.Integer 14 15 none (node kind.Break 16 17 none none))) none))) none) none) none))) none) ≡ false) ×
    (is_read (plain word.Int ∷ lexeme word.Identifier (codes "f") ∷ plain word.LeftParen ∷ plain word.Void ∷ plain word.RightParen ∷ plain word.LeftBrace ∷ lexeme word.Identifier (codes "a") ∷ plain word.Question ∷ plain word.Integer ∷ plain word.Comma ∷ plain word.Integer ∷ plain word.Colon ∷ lexeme word.Identifier (codes "b") ∷ plain word.Question ∷ plain word.Integer ∷ plain word.Colon ∷ plain word.Integer ∷ plain word.Semicolon ∷ plain word.RightBrace ∷ []) (node kind.FunctionDefinition 0 19 (node kind.FunctionDeclarator 1 5 (node kind.NameDeclarator 1 2 none (node kind.VoidParameters 3 4 none none)) (node kind.Compound 5 19 (node kind.ExpressionStatement 6 18 (node kind.Conditional 6 17 (node kind.Identifier 6 7 none (node kind.Comma 8 11 (node kind.Integer 8 9 none (node kind.Integer 10 11 none none)) (node kind.Conditional 12 17 (node kind.Identifier 12 13 none (node kind.Integer 14 15 none (node kind.Integer 16 17 none none))) none))) none) none) none)) none) ≡ false)
unfolding reads along as_part rule_of
takes_24 = (refl, refl, refl, refl)

-- logical operators and those on bits: int f ( void ) { a & b ^ c | d && e || g ; }
takes_25 : (is_read (plain word.Int ∷ lexeme word.Identifier (codes "f") ∷ plain word.LeftParen ∷ plain word.Void ∷ plain word.RightParen ∷ plain word.LeftBrace ∷ lexeme word.Identifier (codes "a") ∷ plain word.Ampersand ∷ lexeme word.Identifier (codes "b") ∷ plain word.Caret ∷ lexeme word.Identifier (codes "c") ∷ plain word.Bar ∷ lexeme word.Identifier (codes "d") ∷ plain word.AndAnd ∷ lexeme word.Identifier (codes "e") ∷ plain word.BarBar ∷ lexeme word.Identifier (codes "g") ∷ plain word.Semicolon ∷ plain word.RightBrace ∷ []) (node kind.FunctionDefinition 0 19 (node kind.Int 0 1 none (node kind.FunctionDeclarator 1 5 (node kind.NameDeclarator 1 2 none (node kind.VoidParameters 3 4 none none)) (node kind.Compound 5 19 (node kind.ExpressionStatement 6 18 (node kind.LogicalOr 6 17 (node kind.LogicalAnd 6 15 (node kind.Or 6 13 (node kind.Xor 6 11 (node kind.And 6 9 (node kind.Identifier 6 7 none (node kind.Identifier 8 9 none none)) (node kind.Identifier 10 11 none none)) (node kind.Identifier 12 13 none none)) (node kind.Identifier 14 15 none none)) (node kind.Identifier 16 17 none none)) none) none) none))) none) ≡ true) ×
    (is_read (plain word.Int ∷ lexeme word.Identifier (codes "f") ∷ plain word.LeftParen ∷ plain word.Void ∷ plain word.RightParen ∷ plain word.LeftBrace ∷ lexeme word.Identifier (codes "a") ∷ plain word.Ampersand ∷ lexeme word.Identifier (codes "b") ∷ plain word.Caret ∷ lexeme word.Identifier (codes "c") ∷ plain word.Bar ∷ lexeme word.Identifier (codes "d") ∷ plain word.AndAnd ∷ lexeme word.Identifier (codes "e") ∷ plain word.BarBar ∷ lexeme word.Identifier (codes "g") ∷ plain word.Semicolon ∷ plain word.Float ∷ []) (node kind.FunctionDefinition 0 19 (node kind.Int 0 1 none (node kind.FunctionDeclarator 1 5 (node kind.NameDeclarator 1 2 none (node kind.VoidParameters 3 4 none none)) (node kind.Compound 5 19 (node kind.ExpressionStatement 6 18 (node kind.LogicalOr 6 17 (node kind.LogicalAnd 6 15 (node kind.Or 6 13 (node kind.Xor 6 11 (node kind.And 6 9 (node kind.Identifier 6 7 none (node kind.Identifier 8 9 none none)) (node kind.Identifier 10 11 none none)) (node kind.Identifier 12 13 none none)) (node kind.Identifier 14 15 none none)) (node kind.Identifier 16 17 none none)) none) none) none))) none) ≡ false) ×
    (is_read (plain word.Int ∷ lexeme word.Identifier (codes "f") ∷ plain word.LeftParen ∷ plain word.Void ∷ plain word.RightParen ∷ plain word.LeftBrace ∷ lexeme word.Identifier (codes "a") ∷ plain word.Ampersand ∷ lexeme word.Identifier (codes "b") ∷ plain word.Caret ∷ lexeme word.Identifier (codes "c") ∷ plain word.Bar ∷ lexeme word.Identifier (codes "d") ∷ plain word.AndAnd ∷ lexeme word.Identifier (codes "e") ∷ plain word.BarBar ∷ lexeme word.Identifier (codes "g") ∷ plain word.Semicolon ∷ plain word.RightBrace ∷ []) (node kind.FunctionDefinition 0 19 (node kind.Int 0 1 none (node kind.FunctionDeclarator 1 5 (node kind.NameDeclarator 1 2 none (node kind.VoidParameters 3 4 none none)) (node kind.Compound 5 19 (node kind.ExpressionStatement 6 18 (node kind.LogicalOr 6 17 (node kind.LogicalAnd 6 15 (node kind.Or 6 13 (node kind.Xor 6 11 (node kind.And 6 9 (node kind.Identifier 6 7 none (node kind.Identifier 8 9 none none)) (node kind.Identifier 10 11 none none)) (node kind.Identifier 12 13 none none)) (node kind.Identifier 14 15 none none)) (node kind.Break 16 17 none none)) none) none) none))) none) ≡ false) ×
    (is_read (plain word.Int ∷ lexeme word.Identifier (codes "f") ∷ plain word.LeftParen ∷ plain word.Void ∷ plain word.RightParen ∷ plain word.LeftBrace ∷ lexeme word.Identifier (codes "a") ∷ plain word.Ampersand ∷ lexeme word.Identifier (codes "b") ∷ plain word.Caret ∷ lexeme word.Identifier (codes "c") ∷ plain word.Bar ∷ lexeme word.Identifier (codes "d") ∷ plain word.AndAnd ∷ lexeme word.Identifier (codes "e") ∷ plain word.BarBar ∷ lexeme word.Identifier (codes "g") ∷ plain word.Semicolon ∷ plain word.RightBrace ∷ []) (node kind.FunctionDefinition 0 19 (node kind.FunctionDeclarator 1 5 (node kind.NameDeclarator 1 2 none (node kind.VoidParameters 3 4 none none)) (node kind.Compound 5 19 (node kind.ExpressionStatement 6 18 (node kind.LogicalOr 6 17 (node kind.LogicalAnd 6 15 (node kind.Or 6 13 (node kind.Xor 6 11 (node kind.And 6 9 (node kind.Identifier 6 7 none (node kind.Identifier 8 9 none none)) (node kind.Identifier 10 11 none none)) (node kind.Identifier 12 13 none none)) (node kind.Identifier 14 15 none none)) (node kind.Identifier 16 17 none none)) none) none) none)) none) ≡ false)
unfolding reads along as_part rule_of
takes_25 = (refl, refl, refl, refl)

-- comparisons and shifts: int f ( void ) { a << 1 >= b >> 1 == c > d ; a <= b != 0 ; }
takes_26 : (is_read (plain word.Int ∷ lexeme word.Identifier (codes "f") ∷ plain word.LeftParen ∷ plain word.Void ∷ plain word.RightParen ∷ plain word.LeftBrace ∷ lexeme word.Identifier (codes "a") ∷ plain word.LessLess ∷ plain word.Integer ∷ plain word.GreaterEqual ∷ lexeme word.Identifier (codes "b") ∷ plain word.GreaterGreater ∷ plain word.Integer ∷ plain word.EqualEqual ∷ lexeme word.Identifier (codes "c") ∷ plain word.Greater ∷ lexeme word.Identifier (codes "d") ∷ plain word.Semicolon ∷ lexeme word.Identifier (codes "a") ∷ plain word.LessEqual ∷ lexeme word.Identifier (codes "b") ∷ plain word.BangEqual ∷ plain word.Integer ∷ plain word.Semicolon ∷ plain word.RightBrace ∷ []) (node kind.FunctionDefinition 0 25 (node kind.Int 0 1 none (node kind.FunctionDeclarator 1 5 (node kind.NameDeclarator 1 2 none (node kind.VoidParameters 3 4 none none)) (node kind.Compound 5 25 (node kind.ExpressionStatement 6 18 (node kind.Equal 6 17 (node kind.GreaterEqual 6 13 (node kind.ShiftLeft 6 9 (node kind.Identifier 6 7 none (node kind.Integer 8 9 none none)) (node kind.ShiftRight 10 13 (node kind.Identifier 10 11 none (node kind.Integer 12 13 none none)) none)) (node kind.Greater 14 17 (node kind.Identifier 14 15 none (node kind.Identifier 16 17 none none)) none)) none) (node kind.ExpressionStatement 18 24 (node kind.NotEqual 18 23 (node kind.LessEqual 18 21 (node kind.Identifier 18 19 none (node kind.Identifier 20 21 none none)) (node kind.Integer 22 23 none none)) none) none)) none))) none) ≡ true) ×
    (is_read (plain word.Int ∷ lexeme word.Identifier (codes "f") ∷ plain word.LeftParen ∷ plain word.Void ∷ plain word.RightParen ∷ plain word.LeftBrace ∷ lexeme word.Identifier (codes "a") ∷ plain word.LessLess ∷ plain word.Integer ∷ plain word.GreaterEqual ∷ lexeme word.Identifier (codes "b") ∷ plain word.GreaterGreater ∷ plain word.Integer ∷ plain word.EqualEqual ∷ lexeme word.Identifier (codes "c") ∷ plain word.Greater ∷ lexeme word.Identifier (codes "d") ∷ plain word.Semicolon ∷ lexeme word.Identifier (codes "a") ∷ plain word.LessEqual ∷ lexeme word.Identifier (codes "b") ∷ plain word.BangEqual ∷ plain word.Integer ∷ plain word.Semicolon ∷ plain word.Float ∷ []) (node kind.FunctionDefinition 0 25 (node kind.Int 0 1 none (node kind.FunctionDeclarator 1 5 (node kind.NameDeclarator 1 2 none (node kind.VoidParameters 3 4 none none)) (node kind.Compound 5 25 (node kind.ExpressionStatement 6 18 (node kind.Equal 6 17 (node kind.GreaterEqual 6 13 (node kind.ShiftLeft 6 9 (node kind.Identifier 6 7 none (node kind.Integer 8 9 none none)) (node kind.ShiftRight 10 13 (node kind.Identifier 10 11 none (node kind.Integer 12 13 none none)) none)) (node kind.Greater 14 17 (node kind.Identifier 14 15 none (node kind.Identifier 16 17 none none)) none)) none) (node kind.ExpressionStatement 18 24 (node kind.NotEqual 18 23 (node kind.LessEqual 18 21 (node kind.Identifier 18 19 none (node kind.Identifier 20 21 none none)) (node kind.Integer 22 23 none none)) none) none)) none))) none) ≡ false) ×
    (is_read (plain word.Int ∷ lexeme word.Identifier (codes "f") ∷ plain word.LeftParen ∷ plain word.Void ∷ plain word.RightParen ∷ plain word.LeftBrace ∷ lexeme word.Identifier (codes "a") ∷ plain word.LessLess ∷ plain word.Integer ∷ plain word.GreaterEqual ∷ lexeme word.Identifier (codes "b") ∷ plain word.GreaterGreater ∷ plain word.Integer ∷ plain word.EqualEqual ∷ lexeme word.Identifier (codes "c") ∷ plain word.Greater ∷ lexeme word.Identifier (codes "d") ∷ plain word.Semicolon ∷ lexeme word.Identifier (codes "a") ∷ plain word.LessEqual ∷ lexeme word.Identifier (codes "b") ∷ plain word.BangEqual ∷ plain word.Integer ∷ plain word.Semicolon ∷ plain word.RightBrace ∷ []) (node kind.FunctionDefinition 0 25 (node kind.Int 0 1 none (node kind.FunctionDeclarator 1 5 (node kind.NameDeclarator 1 2 none (node kind.VoidParameters 3 4 none none)) (node kind.Compound 5 25 (node kind.ExpressionStatement 6 18 (node kind.Equal 6 17 (node kind.GreaterEqual 6 13 (node kind.ShiftLeft 6 9 (node kind.Identifier 6 7 none (node kind.Integer 8 9 none none)) (node kind.ShiftRight 10 13 (node kind.Identifier 10 11 none (node kind.Integer 12 13 none none)) none)) (node kind.Greater 14 17 (node kind.Identifier 14 15 none (node kind.Identifier 16 17 none none)) none)) none) (node kind.ExpressionStatement 18 24 (node kind.NotEqual 18 23 (node kind.LessEqual 18 21 (node kind.Identifier 18 19 none (node kind.Identifier 20 21 none none)) (node kind.Break 22 23 none none)) none) none)) none))) none) ≡ false) ×
    (is_read (plain word.Int ∷ lexeme word.Identifier (codes "f") ∷ plain word.LeftParen ∷ plain word.Void ∷ plain word.RightParen ∷ plain word.LeftBrace ∷ lexeme word.Identifier (codes "a") ∷ plain word.LessLess ∷ plain word.Integer ∷ plain word.GreaterEqual ∷ lexeme word.Identifier (codes "b") ∷ plain word.GreaterGreater ∷ plain word.Integer ∷ plain word.EqualEqual ∷ lexeme word.Identifier (codes "c") ∷ plain word.Greater ∷ lexeme word.Identifier (codes "d") ∷ plain word.Semicolon ∷ lexeme word.Identifier (codes "a") ∷ plain word.LessEqual ∷ lexeme word.Identifier (codes "b") ∷ plain word.BangEqual ∷ plain word.Integer ∷ plain word.Semicolon ∷ plain word.RightBrace ∷ []) (node kind.FunctionDefinition 0 25 (node kind.FunctionDeclarator 1 5 (node kind.NameDeclarator 1 2 none (node kind.VoidParameters 3 4 none none)) (node kind.Compound 5 25 (node kind.ExpressionStatement 6 18 (node kind.Equal 6 17 (node kind.GreaterEqual 6 13 (node kind.ShiftLeft 6 9 (node kind.Identifier 6 7 none (node kind.Integer 8 9 none none)) (node kind.ShiftRight 10 13 (node kind.Identifier 10 11 none (node kind.Integer 12 13 none none)) none)) (node kind.Greater 14 17 (node kind.Identifier 14 15 none (node kind.Identifier 16 17 none none)) none)) none) (node kind.ExpressionStatement 18 24 (node kind.NotEqual 18 23 (node kind.LessEqual 18 21 (node kind.Identifier 18 19 none (node kind.Identifier 20 21 none none)) (node kind.Integer 22 23 none none)) none) none)) none)) none) ≡ false)
unfolding reads along as_part rule_of
takes_26 = (refl, refl, refl, refl)

-- quotients and remainders: int f ( void ) { a / b % c ; }
takes_27 : (is_read (plain word.Int ∷ lexeme word.Identifier (codes "f") ∷ plain word.LeftParen ∷ plain word.Void ∷ plain word.RightParen ∷ plain word.LeftBrace ∷ lexeme word.Identifier (codes "a") ∷ plain word.Slash ∷ lexeme word.Identifier (codes "b") ∷ plain word.Percent ∷ lexeme word.Identifier (codes "c") ∷ plain word.Semicolon ∷ plain word.RightBrace ∷ []) (node kind.FunctionDefinition 0 13 (node kind.Int 0 1 none (node kind.FunctionDeclarator 1 5 (node kind.NameDeclarator 1 2 none (node kind.VoidParameters 3 4 none none)) (node kind.Compound 5 13 (node kind.ExpressionStatement 6 12 (node kind.Remainder 6 11 (node kind.Divide 6 9 (node kind.Identifier 6 7 none (node kind.Identifier 8 9 none none)) (node kind.Identifier 10 11 none none)) none) none) none))) none) ≡ true) ×
    (is_read (plain word.Int ∷ lexeme word.Identifier (codes "f") ∷ plain word.LeftParen ∷ plain word.Void ∷ plain word.RightParen ∷ plain word.LeftBrace ∷ lexeme word.Identifier (codes "a") ∷ plain word.Slash ∷ lexeme word.Identifier (codes "b") ∷ plain word.Percent ∷ lexeme word.Identifier (codes "c") ∷ plain word.Semicolon ∷ plain word.Float ∷ []) (node kind.FunctionDefinition 0 13 (node kind.Int 0 1 none (node kind.FunctionDeclarator 1 5 (node kind.NameDeclarator 1 2 none (node kind.VoidParameters 3 4 none none)) (node kind.Compound 5 13 (node kind.ExpressionStatement 6 12 (node kind.Remainder 6 11 (node kind.Divide 6 9 (node kind.Identifier 6 7 none (node kind.Identifier 8 9 none none)) (node kind.Identifier 10 11 none none)) none) none) none))) none) ≡ false) ×
    (is_read (plain word.Int ∷ lexeme word.Identifier (codes "f") ∷ plain word.LeftParen ∷ plain word.Void ∷ plain word.RightParen ∷ plain word.LeftBrace ∷ lexeme word.Identifier (codes "a") ∷ plain word.Slash ∷ lexeme word.Identifier (codes "b") ∷ plain word.Percent ∷ lexeme word.Identifier (codes "c") ∷ plain word.Semicolon ∷ plain word.RightBrace ∷ []) (node kind.FunctionDefinition 0 13 (node kind.Int 0 1 none (node kind.FunctionDeclarator 1 5 (node kind.NameDeclarator 1 2 none (node kind.VoidParameters 3 4 none none)) (node kind.Compound 5 13 (node kind.ExpressionStatement 6 12 (node kind.Remainder 6 11 (node kind.Divide 6 9 (node kind.Identifier 6 7 none (node kind.Identifier 8 9 none none)) (node kind.Break 10 11 none none)) none) none) none))) none) ≡ false) ×
    (is_read (plain word.Int ∷ lexeme word.Identifier (codes "f") ∷ plain word.LeftParen ∷ plain word.Void ∷ plain word.RightParen ∷ plain word.LeftBrace ∷ lexeme word.Identifier (codes "a") ∷ plain word.Slash ∷ lexeme word.Identifier (codes "b") ∷ plain word.Percent ∷ lexeme word.Identifier (codes "c") ∷ plain word.Semicolon ∷ plain word.RightBrace ∷ []) (node kind.FunctionDefinition 0 13 (node kind.FunctionDeclarator 1 5 (node kind.NameDeclarator 1 2 none (node kind.VoidParameters 3 4 none none)) (node kind.Compound 5 13 (node kind.ExpressionStatement 6 12 (node kind.Remainder 6 11 (node kind.Divide 6 9 (node kind.Identifier 6 7 none (node kind.Identifier 8 9 none none)) (node kind.Identifier 10 11 none none)) none) none) none)) none) ≡ false)
unfolding reads along as_part rule_of
takes_27 = (refl, refl, refl, refl)

-- operators before their operand: int f ( void ) { ++ -- a ; & * p ; + - ~ ! a ; }
takes_28 : (is_read (plain word.Int ∷ lexeme word.Identifier (codes "f") ∷ plain word.LeftParen ∷ plain word.Void ∷ plain word.RightParen ∷ plain word.LeftBrace ∷ plain word.PlusPlus ∷ plain word.MinusMinus ∷ lexeme word.Identifier (codes "a") ∷ plain word.Semicolon ∷ plain word.Ampersand ∷ plain word.Star ∷ lexeme word.Identifier (codes "p") ∷ plain word.Semicolon ∷ plain word.Plus ∷ plain word.Minus ∷ plain word.Tilde ∷ plain word.Bang ∷ lexeme word.Identifier (codes "a") ∷ plain word.Semicolon ∷ plain word.RightBrace ∷ []) (node kind.FunctionDefinition 0 21 (node kind.Int 0 1 none (node kind.FunctionDeclarator 1 5 (node kind.NameDeclarator 1 2 none (node kind.VoidParameters 3 4 none none)) (node kind.Compound 5 21 (node kind.ExpressionStatement 6 10 (node kind.PreIncrement 6 9 (node kind.PreDecrement 7 9 (node kind.Identifier 8 9 none none) none) none) (node kind.ExpressionStatement 10 14 (node kind.AddressOf 10 13 (node kind.Dereference 11 13 (node kind.Identifier 12 13 none none) none) none) (node kind.ExpressionStatement 14 20 (node kind.Plus 14 19 (node kind.Minus 15 19 (node kind.Complement 16 19 (node kind.Not 17 19 (node kind.Identifier 18 19 none none) none) none) none) none) none))) none))) none) ≡ true) ×
    (is_read (plain word.Int ∷ lexeme word.Identifier (codes "f") ∷ plain word.LeftParen ∷ plain word.Void ∷ plain word.RightParen ∷ plain word.LeftBrace ∷ plain word.PlusPlus ∷ plain word.MinusMinus ∷ lexeme word.Identifier (codes "a") ∷ plain word.Semicolon ∷ plain word.Ampersand ∷ plain word.Star ∷ lexeme word.Identifier (codes "p") ∷ plain word.Semicolon ∷ plain word.Plus ∷ plain word.Minus ∷ plain word.Tilde ∷ plain word.Bang ∷ lexeme word.Identifier (codes "a") ∷ plain word.Semicolon ∷ plain word.Float ∷ []) (node kind.FunctionDefinition 0 21 (node kind.Int 0 1 none (node kind.FunctionDeclarator 1 5 (node kind.NameDeclarator 1 2 none (node kind.VoidParameters 3 4 none none)) (node kind.Compound 5 21 (node kind.ExpressionStatement 6 10 (node kind.PreIncrement 6 9 (node kind.PreDecrement 7 9 (node kind.Identifier 8 9 none none) none) none) (node kind.ExpressionStatement 10 14 (node kind.AddressOf 10 13 (node kind.Dereference 11 13 (node kind.Identifier 12 13 none none) none) none) (node kind.ExpressionStatement 14 20 (node kind.Plus 14 19 (node kind.Minus 15 19 (node kind.Complement 16 19 (node kind.Not 17 19 (node kind.Identifier 18 19 none none) none) none) none) none) none))) none))) none) ≡ false) ×
    (is_read (plain word.Int ∷ lexeme word.Identifier (codes "f") ∷ plain word.LeftParen ∷ plain word.Void ∷ plain word.RightParen ∷ plain word.LeftBrace ∷ plain word.PlusPlus ∷ plain word.MinusMinus ∷ lexeme word.Identifier (codes "a") ∷ plain word.Semicolon ∷ plain word.Ampersand ∷ plain word.Star ∷ lexeme word.Identifier (codes "p") ∷ plain word.Semicolon ∷ plain word.Plus ∷ plain word.Minus ∷ plain word.Tilde ∷ plain word.Bang ∷ lexeme word.Identifier (codes "a") ∷ plain word.Semicolon ∷ plain word.RightBrace ∷ []) (node kind.FunctionDefinition 0 21 (node kind.Int 0 1 none (node kind.FunctionDeclarator 1 5 (node kind.NameDeclarator 1 2 none (node kind.VoidParameters 3 4 none none)) (node kind.Compound 5 21 (node kind.ExpressionStatement 6 10 (node kind.PreIncrement 6 9 (node kind.PreDecrement 7 9 (node kind.Identifier 8 9 none none) none) none) (node kind.ExpressionStatement 10 14 (node kind.AddressOf 10 13 (node kind.Dereference 11 13 (node kind.Identifier 12 13 none none) none) none) (node kind.ExpressionStatement 14 20 (node kind.Plus 14 19 (node kind.Minus 15 19 (node kind.Complement 16 19 (node kind.Not 17 19 (node kind.Break 18 19 none none) none) none) none) none) none))) none))) none) ≡ false) ×
    (is_read (plain word.Int ∷ lexeme word.Identifier (codes "f") ∷ plain word.LeftParen ∷ plain word.Void ∷ plain word.RightParen ∷ plain word.LeftBrace ∷ plain word.PlusPlus ∷ plain word.MinusMinus ∷ lexeme word.Identifier (codes "a") ∷ plain word.Semicolon ∷ plain word.Ampersand ∷ plain word.Star ∷ lexeme word.Identifier (codes "p") ∷ plain word.Semicolon ∷ plain word.Plus ∷ plain word.Minus ∷ plain word.Tilde ∷ plain word.Bang ∷ lexeme word.Identifier (codes "a") ∷ plain word.Semicolon ∷ plain word.RightBrace ∷ []) (node kind.FunctionDefinition 0 21 (node kind.FunctionDeclarator 1 5 (node kind.NameDeclarator 1 2 none (node kind.VoidParameters 3 4 none none)) (node kind.Compound 5 21 (node kind.ExpressionStatement 6 10 (node kind.PreIncrement 6 9 (node kind.PreDecrement 7 9 (node kind.Identifier 8 9 none none) none) none) (node kind.ExpressionStatement 10 14 (node kind.AddressOf 10 13 (node kind.Dereference 11 13 (node kind.Identifier 12 13 none none) none) none) (node kind.ExpressionStatement 14 20 (node kind.Plus 14 19 (node kind.Minus 15 19 (node kind.Complement 16 19 (node kind.Not 17 19 (node kind.Identifier 18 19 none none) none) none) none) none) none))) none)) none) ≡ false)
unfolding reads along as_part rule_of
takes_28 = (refl, refl, refl, refl)

-- calls and subscripts: int f ( void ) { g ( ) ; g ( a = 1 , b [ 1 , 2 ] ) ; }
takes_29 : (is_read (plain word.Int ∷ lexeme word.Identifier (codes "f") ∷ plain word.LeftParen ∷ plain word.Void ∷ plain word.RightParen ∷ plain word.LeftBrace ∷ lexeme word.Identifier (codes "g") ∷ plain word.LeftParen ∷ plain word.RightParen ∷ plain word.Semicolon ∷ lexeme word.Identifier (codes "g") ∷ plain word.LeftParen ∷ lexeme word.Identifier (codes "a") ∷ plain word.Equal ∷ plain word.Integer ∷ plain word.Comma ∷ lexeme word.Identifier (codes "b") ∷ plain word.LeftBracket ∷ plain word.Integer ∷ plain word.Comma ∷ plain word.Integer ∷ plain word.RightBracket ∷ plain word.RightParen ∷ plain word.Semicolon ∷ plain word.RightBrace ∷ []) (node kind.FunctionDefinition 0 25 (node kind.Int 0 1 none (node kind.FunctionDeclarator 1 5 (node kind.NameDeclarator 1 2 none (node kind.VoidParameters 3 4 none none)) (node kind.Compound 5 25 (node kind.ExpressionStatement 6 10 (node kind.Call 6 9 none none) (node kind.ExpressionStatement 10 24 (node kind.Call 10 23 (node kind.Assign 12 15 (node kind.Identifier 12 13 none (node kind.Integer 14 15 none none)) (node kind.Subscript 16 22 (node kind.Identifier 16 17 none (node kind.Comma 18 21 (node kind.Integer 18 19 none (node kind.Integer 20 21 none none)) none)) none)) none) none)) none))) none) ≡ true) ×
    (is_read (plain word.Int ∷ lexeme word.Identifier (codes "f") ∷ plain word.LeftParen ∷ plain word.Void ∷ plain word.RightParen ∷ plain word.LeftBrace ∷ lexeme word.Identifier (codes "g") ∷ plain word.LeftParen ∷ plain word.RightParen ∷ plain word.Semicolon ∷ lexeme word.Identifier (codes "g") ∷ plain word.LeftParen ∷ lexeme word.Identifier (codes "a") ∷ plain word.Equal ∷ plain word.Integer ∷ plain word.Comma ∷ lexeme word.Identifier (codes "b") ∷ plain word.LeftBracket ∷ plain word.Integer ∷ plain word.Comma ∷ plain word.Integer ∷ plain word.RightBracket ∷ plain word.RightParen ∷ plain word.Semicolon ∷ plain word.Float ∷ []) (node kind.FunctionDefinition 0 25 (node kind.Int 0 1 none (node kind.FunctionDeclarator 1 5 (node kind.NameDeclarator 1 2 none (node kind.VoidParameters 3 4 none none)) (node kind.Compound 5 25 (node kind.ExpressionStatement 6 10 (node kind.Call 6 9 none none) (node kind.ExpressionStatement 10 24 (node kind.Call 10 23 (node kind.Assign 12 15 (node kind.Identifier 12 13 none (node kind.Integer 14 15 none none)) (node kind.Subscript 16 22 (node kind.Identifier 16 17 none (node kind.Comma 18 21 (node kind.Integer 18 19 none (node kind.Integer 20 21 none none)) none)) none)) none) none)) none))) none) ≡ false) ×
    (is_read (plain word.Int ∷ lexeme word.Identifier (codes "f") ∷ plain word.LeftParen ∷ plain word.Void ∷ plain word.RightParen ∷ plain word.LeftBrace ∷ lexeme word.Identifier (codes "g") ∷ plain word.LeftParen ∷ plain word.RightParen ∷ plain word.Semicolon ∷ lexeme word.Identifier (codes "g") ∷ plain word.LeftParen ∷ lexeme word.Identifier (codes "a") ∷ plain word.Equal ∷ plain word.Integer ∷ plain word.Comma ∷ lexeme word.Identifier (codes "b") ∷ plain word.LeftBracket ∷ plain word.Integer ∷ plain word.Comma ∷ plain word.Integer ∷ plain word.RightBracket ∷ plain word.RightParen ∷ plain word.Semicolon ∷ plain word.RightBrace ∷ []) (node kind.FunctionDefinition 0 25 (node kind.Int 0 1 none (node kind.FunctionDeclarator 1 5 (node kind.NameDeclarator 1 2 none (node kind.VoidParameters 3 4 none none)) (node kind.Compound 5 25 (node kind.ExpressionStatement 6 10 (node kind.Call 6 9 none none) (node kind.ExpressionStatement 10 24 (node kind.Call 10 23 (node kind.Assign 12 15 (node kind.Identifier 12 13 none (node kind.Integer 14 15 none none)) (node kind.Subscript 16 22 (node kind.Identifier 16 17 none (node kind.Comma 18 21 (node kind.Integer 18 19 none (node kind.Break 20 21 none none)) none)) none)) none) none)) none))) none) ≡ false) ×
    (is_read (plain word.Int ∷ lexeme word.Identifier (codes "f") ∷ plain word.LeftParen ∷ plain word.Void ∷ plain word.RightParen ∷ plain word.LeftBrace ∷ lexeme word.Identifier (codes "g") ∷ plain word.LeftParen ∷ plain word.RightParen ∷ plain word.Semicolon ∷ lexeme word.Identifier (codes "g") ∷ plain word.LeftParen ∷ lexeme word.Identifier (codes "a") ∷ plain word.Equal ∷ plain word.Integer ∷ plain word.Comma ∷ lexeme word.Identifier (codes "b") ∷ plain word.LeftBracket ∷ plain word.Integer ∷ plain word.Comma ∷ plain word.Integer ∷ plain word.RightBracket ∷ plain word.RightParen ∷ plain word.Semicolon ∷ plain word.RightBrace ∷ []) (node kind.FunctionDefinition 0 25 (node kind.FunctionDeclarator 1 5 (node kind.NameDeclarator 1 2 none (node kind.VoidParameters 3 4 none none)) (node kind.Compound 5 25 (node kind.ExpressionStatement 6 10 (node kind.Call 6 9 none none) (node kind.ExpressionStatement 10 24 (node kind.Call 10 23 (node kind.Assign 12 15 (node kind.Identifier 12 13 none (node kind.Integer 14 15 none none)) (node kind.Subscript 16 22 (node kind.Identifier 16 17 none (node kind.Comma 18 21 (node kind.Integer 18 19 none (node kind.Integer 20 21 none none)) none)) none)) none) none)) none)) none) ≡ false)
unfolding reads along as_part rule_of
takes_29 = (refl, refl, refl, refl)

-- members and steps: typedef int T ; int f ( void ) { a . T -> b -- ; }
takes_30 : (is_read (plain word.Typedef ∷ plain word.Int ∷ lexeme word.Identifier (codes "T") ∷ plain word.Semicolon ∷ plain word.Int ∷ lexeme word.Identifier (codes "f") ∷ plain word.LeftParen ∷ plain word.Void ∷ plain word.RightParen ∷ plain word.LeftBrace ∷ lexeme word.Identifier (codes "a") ∷ plain word.Dot ∷ lexeme word.Identifier (codes "T") ∷ plain word.Arrow ∷ lexeme word.Identifier (codes "b") ∷ plain word.MinusMinus ∷ plain word.Semicolon ∷ plain word.RightBrace ∷ []) (node kind.Declaration 0 4 (node kind.Specifiers 0 2 (node kind.Typedef 0 1 none (node kind.Int 1 2 none none)) (node kind.NameDeclarator 2 3 none none)) (node kind.FunctionDefinition 4 18 (node kind.Int 4 5 none (node kind.FunctionDeclarator 5 9 (node kind.NameDeclarator 5 6 none (node kind.VoidParameters 7 8 none none)) (node kind.Compound 9 18 (node kind.ExpressionStatement 10 17 (node kind.PostDecrement 10 16 (node kind.PointerMember 10 15 (node kind.Member 10 13 (node kind.Identifier 10 11 none none) none) none) none) none) none))) none)) ≡ true) ×
    (is_read (plain word.Typedef ∷ plain word.Int ∷ lexeme word.Identifier (codes "T") ∷ plain word.Semicolon ∷ plain word.Int ∷ lexeme word.Identifier (codes "f") ∷ plain word.LeftParen ∷ plain word.Void ∷ plain word.RightParen ∷ plain word.Float ∷ lexeme word.Identifier (codes "a") ∷ plain word.Dot ∷ lexeme word.Identifier (codes "T") ∷ plain word.Arrow ∷ lexeme word.Identifier (codes "b") ∷ plain word.MinusMinus ∷ plain word.Semicolon ∷ plain word.RightBrace ∷ []) (node kind.Declaration 0 4 (node kind.Specifiers 0 2 (node kind.Typedef 0 1 none (node kind.Int 1 2 none none)) (node kind.NameDeclarator 2 3 none none)) (node kind.FunctionDefinition 4 18 (node kind.Int 4 5 none (node kind.FunctionDeclarator 5 9 (node kind.NameDeclarator 5 6 none (node kind.VoidParameters 7 8 none none)) (node kind.Compound 9 18 (node kind.ExpressionStatement 10 17 (node kind.PostDecrement 10 16 (node kind.PointerMember 10 15 (node kind.Member 10 13 (node kind.Identifier 10 11 none none) none) none) none) none) none))) none)) ≡ false) ×
    (is_read (plain word.Typedef ∷ plain word.Int ∷ lexeme word.Identifier (codes "T") ∷ plain word.Semicolon ∷ plain word.Int ∷ lexeme word.Identifier (codes "f") ∷ plain word.LeftParen ∷ plain word.Void ∷ plain word.RightParen ∷ plain word.LeftBrace ∷ lexeme word.Identifier (codes "a") ∷ plain word.Dot ∷ lexeme word.Identifier (codes "T") ∷ plain word.Arrow ∷ lexeme word.Identifier (codes "b") ∷ plain word.MinusMinus ∷ plain word.Semicolon ∷ plain word.RightBrace ∷ []) (node kind.Declaration 0 4 (node kind.Specifiers 0 2 (node kind.Typedef 0 1 none (node kind.Int 1 2 none none)) (node kind.NameDeclarator 2 3 none none)) (node kind.FunctionDefinition 4 18 (node kind.Int 4 5 none (node kind.FunctionDeclarator 5 9 (node kind.NameDeclarator 5 6 none (node kind.VoidParameters 7 8 none none)) (node kind.Compound 9 18 (node kind.ExpressionStatement 10 17 (node kind.PostDecrement 10 16 (node kind.PointerMember 10 15 (node kind.Member 10 13 (node kind.Break 10 11 none none) none) none) none) none) none))) none)) ≡ false) ×
    (is_read (plain word.Typedef ∷ plain word.Int ∷ lexeme word.Identifier (codes "T") ∷ plain word.Semicolon ∷ plain word.Int ∷ lexeme word.Identifier (codes "f") ∷ plain word.LeftParen ∷ plain word.Void ∷ plain word.RightParen ∷ plain word.LeftBrace ∷ lexeme word.Identifier (codes "a") ∷ plain word.Dot ∷ lexeme word.Identifier (codes "T") ∷ plain word.Arrow ∷ lexeme word.Identifier (codes "b") ∷ plain word.MinusMinus ∷ plain word.Semicolon ∷ plain word.RightBrace ∷ []) (node kind.Declaration 0 4 (node kind.Specifiers 0 2 (node kind.Typedef 0 1 none (node kind.Int 1 2 none none)) (node kind.NameDeclarator 2 3 none none)) (node kind.FunctionDefinition 4 18 (node kind.FunctionDeclarator 5 9 (node kind.NameDeclarator 5 6 none (node kind.VoidParameters 7 8 none none)) (node kind.Compound 9 18 (node kind.ExpressionStatement 10 17 (node kind.PostDecrement 10 16 (node kind.PointerMember 10 15 (node kind.Member 10 13 (node kind.Identifier 10 11 none none) none) none) none) none) none)) none)) ≡ false)
unfolding reads along as_part rule_of
takes_30 = (refl, refl, refl, refl)

-- constants and strings: int f ( void ) { 'c' ; "a" "b" ; return ; }
takes_31 : (is_read (plain word.Int ∷ lexeme word.Identifier (codes "f") ∷ plain word.LeftParen ∷ plain word.Void ∷ plain word.RightParen ∷ plain word.LeftBrace ∷ plain word.Character ∷ plain word.Semicolon ∷ plain word.Text ∷ plain word.Text ∷ plain word.Semicolon ∷ plain word.Return ∷ plain word.Semicolon ∷ plain word.RightBrace ∷ []) (node kind.FunctionDefinition 0 14 (node kind.Int 0 1 none (node kind.FunctionDeclarator 1 5 (node kind.NameDeclarator 1 2 none (node kind.VoidParameters 3 4 none none)) (node kind.Compound 5 14 (node kind.ExpressionStatement 6 8 (node kind.Character 6 7 none none) (node kind.ExpressionStatement 8 11 (node kind.Text 8 10 none none) (node kind.Return 11 13 none none))) none))) none) ≡ true) ×
    (is_read (plain word.Int ∷ lexeme word.Identifier (codes "f") ∷ plain word.LeftParen ∷ plain word.Void ∷ plain word.RightParen ∷ plain word.LeftBrace ∷ plain word.Character ∷ plain word.Float ∷ plain word.Text ∷ plain word.Text ∷ plain word.Semicolon ∷ plain word.Return ∷ plain word.Semicolon ∷ plain word.RightBrace ∷ []) (node kind.FunctionDefinition 0 14 (node kind.Int 0 1 none (node kind.FunctionDeclarator 1 5 (node kind.NameDeclarator 1 2 none (node kind.VoidParameters 3 4 none none)) (node kind.Compound 5 14 (node kind.ExpressionStatement 6 8 (node kind.Character 6 7 none none) (node kind.ExpressionStatement 8 11 (node kind.Text 8 10 none none) (node kind.Return 11 13 none none))) none))) none) ≡ false) ×
    (is_read (plain word.Int ∷ lexeme word.Identifier (codes "f") ∷ plain word.LeftParen ∷ plain word.Void ∷ plain word.RightParen ∷ plain word.LeftBrace ∷ plain word.Character ∷ plain word.Semicolon ∷ plain word.Text ∷ plain word.Text ∷ plain word.Semicolon ∷ plain word.Return ∷ plain word.Semicolon ∷ plain word.RightBrace ∷ []) (node kind.FunctionDefinition 0 14 (node kind.Int 0 1 none (node kind.FunctionDeclarator 1 5 (node kind.NameDeclarator 1 2 none (node kind.VoidParameters 3 4 none none)) (node kind.Compound 5 14 (node kind.ExpressionStatement 6 8 (node kind.Character 6 7 none none) (node kind.ExpressionStatement 8 11 (node kind.Text 8 10 none none) (node kind.Break 11 13 none none))) none))) none) ≡ false) ×
    (is_read (plain word.Int ∷ lexeme word.Identifier (codes "f") ∷ plain word.LeftParen ∷ plain word.Void ∷ plain word.RightParen ∷ plain word.LeftBrace ∷ plain word.Character ∷ plain word.Semicolon ∷ plain word.Text ∷ plain word.Text ∷ plain word.Semicolon ∷ plain word.Return ∷ plain word.Semicolon ∷ plain word.RightBrace ∷ []) (node kind.FunctionDefinition 0 14 (node kind.FunctionDeclarator 1 5 (node kind.NameDeclarator 1 2 none (node kind.VoidParameters 3 4 none none)) (node kind.Compound 5 14 (node kind.ExpressionStatement 6 8 (node kind.Character 6 7 none none) (node kind.ExpressionStatement 8 11 (node kind.Text 8 10 none none) (node kind.Return 11 13 none none))) none)) none) ≡ false)
unfolding reads along as_part rule_of
takes_31 = (refl, refl, refl, refl)

-- a parameter in the body, and a definition of no type: static g ( int x ) { return x ; }
takes_32 : (is_read (plain word.Static ∷ lexeme word.Identifier (codes "g") ∷ plain word.LeftParen ∷ plain word.Int ∷ lexeme word.Identifier (codes "x") ∷ plain word.RightParen ∷ plain word.LeftBrace ∷ plain word.Return ∷ lexeme word.Identifier (codes "x") ∷ plain word.Semicolon ∷ plain word.RightBrace ∷ []) (node kind.FunctionDefinition 0 11 (node kind.Static 0 1 none (node kind.FunctionDeclarator 1 6 (node kind.NameDeclarator 1 2 none (node kind.Parameter 3 5 (node kind.Int 3 4 none (node kind.NameDeclarator 4 5 none none)) none)) (node kind.Compound 6 11 (node kind.Return 7 10 (node kind.Identifier 8 9 none none) none) none))) none) ≡ true) ×
    (is_read (plain word.Static ∷ lexeme word.Identifier (codes "g") ∷ plain word.LeftParen ∷ plain word.Int ∷ lexeme word.Identifier (codes "x") ∷ plain word.RightParen ∷ plain word.LeftBrace ∷ plain word.Return ∷ lexeme word.Identifier (codes "x") ∷ plain word.Semicolon ∷ plain word.Float ∷ []) (node kind.FunctionDefinition 0 11 (node kind.Static 0 1 none (node kind.FunctionDeclarator 1 6 (node kind.NameDeclarator 1 2 none (node kind.Parameter 3 5 (node kind.Int 3 4 none (node kind.NameDeclarator 4 5 none none)) none)) (node kind.Compound 6 11 (node kind.Return 7 10 (node kind.Identifier 8 9 none none) none) none))) none) ≡ false) ×
    (is_read (plain word.Static ∷ lexeme word.Identifier (codes "g") ∷ plain word.LeftParen ∷ plain word.Int ∷ lexeme word.Identifier (codes "x") ∷ plain word.RightParen ∷ plain word.LeftBrace ∷ plain word.Return ∷ lexeme word.Identifier (codes "x") ∷ plain word.Semicolon ∷ plain word.RightBrace ∷ []) (node kind.FunctionDefinition 0 11 (node kind.Static 0 1 none (node kind.FunctionDeclarator 1 6 (node kind.NameDeclarator 1 2 none (node kind.Parameter 3 5 (node kind.Int 3 4 none (node kind.NameDeclarator 4 5 none none)) none)) (node kind.Compound 6 11 (node kind.Return 7 10 (node kind.Break 8 9 none none) none) none))) none) ≡ false) ×
    (is_read (plain word.Static ∷ lexeme word.Identifier (codes "g") ∷ plain word.LeftParen ∷ plain word.Int ∷ lexeme word.Identifier (codes "x") ∷ plain word.RightParen ∷ plain word.LeftBrace ∷ plain word.Return ∷ lexeme word.Identifier (codes "x") ∷ plain word.Semicolon ∷ plain word.RightBrace ∷ []) (node kind.FunctionDefinition 0 11 (node kind.FunctionDeclarator 1 6 (node kind.NameDeclarator 1 2 none (node kind.Parameter 3 5 (node kind.Int 3 4 none (node kind.NameDeclarator 4 5 none none)) none)) (node kind.Compound 6 11 (node kind.Return 7 10 (node kind.Identifier 8 9 none none) none) none)) none) ≡ false)
unfolding reads along as_part rule_of
takes_32 = (refl, refl, refl, refl)

-- a parameter that hides a type, and the type behind it: typedef int T ; int g ( int T ) { T * 1 ; } T y ;
takes_33 : (is_read (plain word.Typedef ∷ plain word.Int ∷ lexeme word.Identifier (codes "T") ∷ plain word.Semicolon ∷ plain word.Int ∷ lexeme word.Identifier (codes "g") ∷ plain word.LeftParen ∷ plain word.Int ∷ lexeme word.Identifier (codes "T") ∷ plain word.RightParen ∷ plain word.LeftBrace ∷ lexeme word.Identifier (codes "T") ∷ plain word.Star ∷ plain word.Integer ∷ plain word.Semicolon ∷ plain word.RightBrace ∷ lexeme word.Identifier (codes "T") ∷ lexeme word.Identifier (codes "y") ∷ plain word.Semicolon ∷ []) (node kind.Declaration 0 4 (node kind.Specifiers 0 2 (node kind.Typedef 0 1 none (node kind.Int 1 2 none none)) (node kind.NameDeclarator 2 3 none none)) (node kind.FunctionDefinition 4 16 (node kind.Int 4 5 none (node kind.FunctionDeclarator 5 10 (node kind.NameDeclarator 5 6 none (node kind.Parameter 7 9 (node kind.Int 7 8 none (node kind.NameDeclarator 8 9 none none)) none)) (node kind.Compound 10 16 (node kind.ExpressionStatement 11 15 (node kind.Multiply 11 14 (node kind.Identifier 11 12 none (node kind.Integer 13 14 none none)) none) none) none))) (node kind.Declaration 16 19 (node kind.TypedefName 16 17 none (node kind.NameDeclarator 17 18 none none)) none))) ≡ true) ×
    (is_read (plain word.Typedef ∷ plain word.Int ∷ lexeme word.Identifier (codes "T") ∷ plain word.Semicolon ∷ plain word.Int ∷ lexeme word.Identifier (codes "g") ∷ plain word.LeftParen ∷ plain word.Int ∷ lexeme word.Identifier (codes "T") ∷ plain word.RightParen ∷ plain word.LeftBrace ∷ lexeme word.Identifier (codes "T") ∷ plain word.Star ∷ plain word.Integer ∷ plain word.Semicolon ∷ plain word.RightBrace ∷ lexeme word.Identifier (codes "T") ∷ lexeme word.Identifier (codes "y") ∷ plain word.Float ∷ []) (node kind.Declaration 0 4 (node kind.Specifiers 0 2 (node kind.Typedef 0 1 none (node kind.Int 1 2 none none)) (node kind.NameDeclarator 2 3 none none)) (node kind.FunctionDefinition 4 16 (node kind.Int 4 5 none (node kind.FunctionDeclarator 5 10 (node kind.NameDeclarator 5 6 none (node kind.Parameter 7 9 (node kind.Int 7 8 none (node kind.NameDeclarator 8 9 none none)) none)) (node kind.Compound 10 16 (node kind.ExpressionStatement 11 15 (node kind.Multiply 11 14 (node kind.Identifier 11 12 none (node kind.Integer 13 14 none none)) none) none) none))) (node kind.Declaration 16 19 (node kind.TypedefName 16 17 none (node kind.NameDeclarator 17 18 none none)) none))) ≡ false) ×
    (is_read (plain word.Typedef ∷ plain word.Int ∷ lexeme word.Identifier (codes "T") ∷ plain word.Semicolon ∷ plain word.Int ∷ lexeme word.Identifier (codes "g") ∷ plain word.LeftParen ∷ plain word.Int ∷ lexeme word.Identifier (codes "T") ∷ plain word.RightParen ∷ plain word.LeftBrace ∷ lexeme word.Identifier (codes "T") ∷ plain word.Star ∷ plain word.Integer ∷ plain word.Semicolon ∷ plain word.RightBrace ∷ lexeme word.Identifier (codes "T") ∷ lexeme word.Identifier (codes "y") ∷ plain word.Semicolon ∷ []) (node kind.Declaration 0 4 (node kind.Specifiers 0 2 (node kind.Typedef 0 1 none (node kind.Int 1 2 none none)) (node kind.NameDeclarator 2 3 none none)) (node kind.FunctionDefinition 4 16 (node kind.Int 4 5 none (node kind.FunctionDeclarator 5 10 (node kind.NameDeclarator 5 6 none (node kind.Parameter 7 9 (node kind.Int 7 8 none (node kind.NameDeclarator 8 9 none none)) none)) (node kind.Compound 10 16 (node kind.ExpressionStatement 11 15 (node kind.Multiply 11 14 (node kind.Identifier 11 12 none (node kind.Integer 13 14 none none)) none) none) none))) (node kind.Declaration 16 19 (node kind.TypedefName 16 17 none (node kind.Break 17 18 none none)) none))) ≡ false) ×
    (is_read (plain word.Typedef ∷ plain word.Int ∷ lexeme word.Identifier (codes "T") ∷ plain word.Semicolon ∷ plain word.Int ∷ lexeme word.Identifier (codes "g") ∷ plain word.LeftParen ∷ plain word.Int ∷ lexeme word.Identifier (codes "T") ∷ plain word.RightParen ∷ plain word.LeftBrace ∷ lexeme word.Identifier (codes "T") ∷ plain word.Star ∷ plain word.Integer ∷ plain word.Semicolon ∷ plain word.RightBrace ∷ lexeme word.Identifier (codes "T") ∷ lexeme word.Identifier (codes "y") ∷ plain word.Semicolon ∷ []) (node kind.Declaration 0 4 (node kind.Specifiers 0 2 (node kind.Typedef 0 1 none (node kind.Int 1 2 none none)) (node kind.NameDeclarator 2 3 none none)) (node kind.FunctionDefinition 4 16 (node kind.Int 4 5 none (node kind.FunctionDeclarator 5 10 (node kind.NameDeclarator 5 6 none (node kind.Parameter 7 9 (node kind.Int 7 8 none (node kind.NameDeclarator 8 9 none none)) none)) (node kind.Compound 10 16 (node kind.ExpressionStatement 11 15 (node kind.Multiply 11 14 (node kind.Identifier 11 12 none (node kind.Integer 13 14 none none)) none) none) none))) (node kind.Declaration 16 19 (node kind.NameDeclarator 17 18 none none) none))) ≡ false)
unfolding reads along as_part rule_of
takes_33 = (refl, refl, refl, refl)

-- type qualifiers: volatile int * volatile const p ;
takes_34 : (is_read (plain word.Volatile ∷ plain word.Int ∷ plain word.Star ∷ plain word.Volatile ∷ plain word.Const ∷ lexeme word.Identifier (codes "p") ∷ plain word.Semicolon ∷ []) (node kind.Declaration 0 7 (node kind.Specifiers 0 2 (node kind.Volatile 0 1 none (node kind.Int 1 2 none none)) (node kind.PointerDeclarator 2 6 (node kind.NameDeclarator 5 6 none none) none)) none) ≡ true) ×
    (is_read (plain word.Volatile ∷ plain word.Int ∷ plain word.Star ∷ plain word.Float ∷ plain word.Const ∷ lexeme word.Identifier (codes "p") ∷ plain word.Semicolon ∷ []) (node kind.Declaration 0 7 (node kind.Specifiers 0 2 (node kind.Volatile 0 1 none (node kind.Int 1 2 none none)) (node kind.PointerDeclarator 2 6 (node kind.NameDeclarator 5 6 none none) none)) none) ≡ false) ×
    (is_read (plain word.Volatile ∷ plain word.Int ∷ plain word.Star ∷ plain word.Volatile ∷ plain word.Const ∷ lexeme word.Identifier (codes "p") ∷ plain word.Semicolon ∷ []) (node kind.Declaration 0 7 (node kind.Specifiers 0 2 (node kind.Break 0 1 none (node kind.Int 1 2 none none)) (node kind.PointerDeclarator 2 6 (node kind.NameDeclarator 5 6 none none) none)) none) ≡ false) ×
    (is_read (plain word.Volatile ∷ plain word.Int ∷ plain word.Star ∷ plain word.Volatile ∷ plain word.Const ∷ lexeme word.Identifier (codes "p") ∷ plain word.Semicolon ∷ []) (node kind.Declaration 0 7 (node kind.Specifiers 0 2 (node kind.Int 1 2 none none) (node kind.PointerDeclarator 2 6 (node kind.NameDeclarator 5 6 none none) none)) none) ≡ false)
unfolding reads along as_part rule_of
takes_34 = (refl, refl, refl, refl)

-- operators to the right: int f ( void ) { 1 - 2 - 3 ; }
refuses_1 : is_read (plain word.Int ∷ lexeme word.Identifier (codes "f") ∷ plain word.LeftParen ∷ plain word.Void ∷ plain word.RightParen ∷ plain word.LeftBrace ∷ plain word.Integer ∷ plain word.Minus ∷ plain word.Integer ∷ plain word.Minus ∷ plain word.Integer ∷ plain word.Semicolon ∷ plain word.RightBrace ∷ []) (node kind.FunctionDefinition 0 13 (node kind.Int 0 1 none (node kind.FunctionDeclarator 1 5 (node kind.NameDeclarator 1 2 none (node kind.VoidParameters 3 4 none none)) (node kind.Compound 5 13 (node kind.ExpressionStatement 6 12 (node kind.Subtract 6 11 (node kind.Integer 6 7 none (node kind.Subtract 8 11 (node kind.Integer 8 9 none (node kind.Integer 10 11 none none)) none)) none) none) none))) none) ≡ false
unfolding reads along as_part rule_of
refuses_1 = refl

-- an else at the farther if: int f ( void ) { if ( 1 ) if ( 2 ) ; else ; }
refuses_2 : is_read (plain word.Int ∷ lexeme word.Identifier (codes "f") ∷ plain word.LeftParen ∷ plain word.Void ∷ plain word.RightParen ∷ plain word.LeftBrace ∷ plain word.If ∷ plain word.LeftParen ∷ plain word.Integer ∷ plain word.RightParen ∷ plain word.If ∷ plain word.LeftParen ∷ plain word.Integer ∷ plain word.RightParen ∷ plain word.Semicolon ∷ plain word.Else ∷ plain word.Semicolon ∷ plain word.RightBrace ∷ []) (node kind.FunctionDefinition 0 18 (node kind.Int 0 1 none (node kind.FunctionDeclarator 1 5 (node kind.NameDeclarator 1 2 none (node kind.VoidParameters 3 4 none none)) (node kind.Compound 5 18 (node kind.If 6 17 (node kind.Integer 8 9 none (node kind.If 10 15 (node kind.Integer 12 13 none (node kind.ExpressionStatement 14 15 none none)) (node kind.ExpressionStatement 16 17 none none))) none) none))) none) ≡ false
unfolding reads along as_part rule_of
refuses_2 = refl

-- a type as an identifier: typedef int T ; int f ( void ) { T + 1 ; }
refuses_3 : is_read (plain word.Typedef ∷ plain word.Int ∷ lexeme word.Identifier (codes "T") ∷ plain word.Semicolon ∷ plain word.Int ∷ lexeme word.Identifier (codes "f") ∷ plain word.LeftParen ∷ plain word.Void ∷ plain word.RightParen ∷ plain word.LeftBrace ∷ lexeme word.Identifier (codes "T") ∷ plain word.Plus ∷ plain word.Integer ∷ plain word.Semicolon ∷ plain word.RightBrace ∷ []) (node kind.Declaration 0 4 (node kind.Specifiers 0 2 (node kind.Typedef 0 1 none (node kind.Int 1 2 none none)) (node kind.NameDeclarator 2 3 none none)) (node kind.FunctionDefinition 4 15 (node kind.Int 4 5 none (node kind.FunctionDeclarator 5 9 (node kind.NameDeclarator 5 6 none (node kind.VoidParameters 7 8 none none)) (node kind.Compound 9 15 (node kind.ExpressionStatement 10 14 (node kind.Add 10 13 (node kind.Identifier 10 11 none (node kind.Integer 12 13 none none)) none) none) none))) none)) ≡ false
unfolding reads along as_part rule_of
refuses_3 = refl

-- a comma expression as an argument: int f ( void ) { g ( 1 , 2 ) ; }
refuses_4 : is_read (plain word.Int ∷ lexeme word.Identifier (codes "f") ∷ plain word.LeftParen ∷ plain word.Void ∷ plain word.RightParen ∷ plain word.LeftBrace ∷ lexeme word.Identifier (codes "g") ∷ plain word.LeftParen ∷ plain word.Integer ∷ plain word.Comma ∷ plain word.Integer ∷ plain word.RightParen ∷ plain word.Semicolon ∷ plain word.RightBrace ∷ []) (node kind.FunctionDefinition 0 14 (node kind.Int 0 1 none (node kind.FunctionDeclarator 1 5 (node kind.NameDeclarator 1 2 none (node kind.VoidParameters 3 4 none none)) (node kind.Compound 5 14 (node kind.ExpressionStatement 6 13 (node kind.Call 6 12 (node kind.Comma 8 11 (node kind.Integer 8 9 none (node kind.Integer 10 11 none none)) none) none) none) none))) none) ≡ false
unfolding reads along as_part rule_of
refuses_4 = refl

-- a name that is a type in its own initializer: typedef int T ; int f ( void ) { int T = sizeof ( T ) ; }
refuses_5 : is_read (plain word.Typedef ∷ plain word.Int ∷ lexeme word.Identifier (codes "T") ∷ plain word.Semicolon ∷ plain word.Int ∷ lexeme word.Identifier (codes "f") ∷ plain word.LeftParen ∷ plain word.Void ∷ plain word.RightParen ∷ plain word.LeftBrace ∷ plain word.Int ∷ lexeme word.Identifier (codes "T") ∷ plain word.Equal ∷ plain word.Sizeof ∷ plain word.LeftParen ∷ lexeme word.Identifier (codes "T") ∷ plain word.RightParen ∷ plain word.Semicolon ∷ plain word.RightBrace ∷ []) (node kind.Declaration 0 4 (node kind.Specifiers 0 2 (node kind.Typedef 0 1 none (node kind.Int 1 2 none none)) (node kind.NameDeclarator 2 3 none none)) (node kind.FunctionDefinition 4 19 (node kind.Int 4 5 none (node kind.FunctionDeclarator 5 9 (node kind.NameDeclarator 5 6 none (node kind.VoidParameters 7 8 none none)) (node kind.Compound 9 19 (node kind.Declaration 10 18 (node kind.Int 10 11 none (node kind.InitDeclarator 11 17 (node kind.NameDeclarator 11 12 none (node kind.SizeofType 13 17 (node kind.TypedefName 15 16 none none) none)) none)) none) none))) none)) ≡ false
unfolding reads along as_part rule_of
refuses_5 = refl

-- void alone as a parameter: int f ( void ) ;
refuses_6 : is_read (plain word.Int ∷ lexeme word.Identifier (codes "f") ∷ plain word.LeftParen ∷ plain word.Void ∷ plain word.RightParen ∷ plain word.Semicolon ∷ []) (node kind.Declaration 0 6 (node kind.Int 0 1 none (node kind.FunctionDeclarator 1 5 (node kind.NameDeclarator 1 2 none (node kind.Void 3 4 none none)) none)) none) ≡ false
unfolding reads along as_part rule_of
refuses_6 = refl

-- a declared name that is a type without specifier before it: typedef int T ; static T ;
refuses_7 : is_read (plain word.Typedef ∷ plain word.Int ∷ lexeme word.Identifier (codes "T") ∷ plain word.Semicolon ∷ plain word.Static ∷ lexeme word.Identifier (codes "T") ∷ plain word.Semicolon ∷ []) (node kind.Declaration 0 4 (node kind.Specifiers 0 2 (node kind.Typedef 0 1 none (node kind.Int 1 2 none none)) (node kind.NameDeclarator 2 3 none none)) (node kind.Declaration 4 7 (node kind.Static 4 5 none (node kind.NameDeclarator 5 6 none none)) none)) ≡ false
unfolding reads along as_part rule_of
refuses_7 = refl

-- n braces within one another, as the body of a function
nested : ℕ → ℕ → Trees
nested zero i = none
nested (suc n) i = node kind.Compound i (i + 2 * suc n) (nested n (i + 1)) none

copies : ℕ → List Lexeme → List Lexeme → List Lexeme
copies zero xs ys = ys
copies (suc n) xs ys = xs ++ copies n xs ys

braces : ℕ → Bool
unfolding nested copies
braces n = is_read
    (plain word.Int ∷ lexeme word.Identifier (codes "f") ∷ plain word.LeftParen ∷ plain word.RightParen ∷ copies n (plain word.LeftBrace ∷ []) (copies n (plain word.RightBrace ∷ []) []))
    (node kind.FunctionDefinition 0 (4 + 2 * n) (node kind.Int 0 1 none (node kind.FunctionDeclarator 1 4 (node kind.NameDeclarator 1 2 none none) (nested n 4))) none)

-- n casts within one another, as an initializer
casted : ℕ → ℕ → Trees
casted zero i = node kind.Integer i (i + 1) none none
casted (suc n) i = node kind.Cast i (i + 3 * suc n + 1) (node kind.Int (i + 1) (i + 2) none (casted n (i + 3))) none

casts : ℕ → Bool
unfolding casted copies
casts n = is_read
    (plain word.Int ∷ lexeme word.Identifier (codes "x") ∷ plain word.Equal ∷ copies n (plain word.LeftParen ∷ plain word.Int ∷ plain word.RightParen ∷ []) (plain word.Integer ∷ plain word.Semicolon ∷ []))
    (node kind.Declaration 0 (3 * n + 5) (node kind.Int 0 1 none (node kind.InitDeclarator 1 (3 * n + 4) (node kind.NameDeclarator 1 2 none (casted n 3)) none)) none)

-- 128 levels are within the limit, and 129 are not
levels_of_braces : (braces 128 ≡ true) × (braces 129 ≡ false)
unfolding braces nested copies reads along as_part rule_of
levels_of_braces = (refl, refl)

levels_of_casts : (casts 128 ≡ true) × (casts 129 ≡ false)
unfolding casts casted copies reads along as_part rule_of
levels_of_casts = (refl, refl)
