-- Files with their trees and the columns of a typed unit, and what each file comes to: the proof checker makes the operations
-- and follows the run. The trees and columns were made by a plain front end of their own; the outcomes were worked out by hand
-- beforehand.
use Rattle.std.proofs.Common.{◌≡◌, refl}
use Rattle.std.specs.Prelude.{ℕ, ◌≤◌, ℤ, pos, Bool, true, false, Option, Some, None, List, [], ◌∷◌, length, codes, replicate, slice_index_or, slice_set}
use Rattle.cr_ints.specs.declared.kind.IntKind.TheVariants as ints
use Rattle.cr_tokens.specs.declared.token.Token.{Token}
use Rattle.cr_tokens.specs.declared.token.TokenKind.TheVariants.{Keyword}
use Rattle.cr_syntax.specs.declared.node.Node.{Node}
use Rattle.cr_syntax.specs.declared.node.Kind.{Kind}
use Rattle.cr_syntax.specs.declared.node.Kind.TheVariants as kind
use Rattle.cr_syntax.specs.declared.ctype.CType.{CType}
use Rattle.cr_syntax.specs.declared.ctype.CType.TheVariants as ctype
use Rattle.cr_syntax.specs.declared.ctype.CType.TheVariants.{Void, Pointer, Array, Struct, Function, Unknown}
use Rattle.cr_check_types.specs.declared.shape.Shape.{Shape}
use Rattle.cr_check_types.specs.declared.layout.Layout.{Layout}
use Rattle.cr_check_types.specs.Types.{types_of, type_at}
use Rattle.cr_typed.specs.declared.typed.Typed.{Typed}
use Rattle.cr_typed.specs.declared.typed.Put.{Put}
use Rattle.cr_typed.specs.declared.typed.Duration.{Duration}
use Rattle.cr_typed.specs.declared.typed.Duration.TheVariants as duration
use Rattle.cr_meaning.specs.World.{Program, World, Answer, Halt}
use Rattle.cr_meaning.specs.Language.{Reply}
use Rattle.cr_meaning.specs.Library.{pieces_of}
use Rattle.cr_meaning.specs.Meaning.{body, operands, root_of, start_of, run_of}
use Rattle.cr_meaning.specs.Playing.{played}
use Rattle.cr_meaning.specs.declared.run.Limits.{Limits}
use Rattle.cr_meaning.specs.declared.run.Run.{Run}
use Rattle.cr_meaning.specs.declared.run.Run.TheVariants as run
use Rattle.cr_meaning_operations.specs.Operations.{program_of}

-- what a run comes to: an end with status and output, or a case with the line of its node
pub data Verdict : Type 0 where
  fine : ℕ → List ℕ → Verdict
  undefined : ℕ → ℕ → Verdict
  left : ℕ → ℕ → Verdict
  unknown : ℕ → Verdict

abbrev verdict_of : List ℕ → Option Run → Verdict
verdict_of lines (Some (run.Ended status output steps)) = fine status output
verdict_of lines (Some (run.Undefined number node)) = undefined number (slice_index_or lines node 0)
verdict_of lines (Some (run.Left number node)) = left number (slice_index_or lines node 0)
verdict_of lines other = unknown 0

abbrev verdict_by : List ℕ → Limits → Option (Reply Answer World Halt) → Verdict
verdict_by lines limits None = unknown 1
verdict_by lines limits (Some reply) = verdict_of lines (run_of limits reply)

abbrev verdict : List ℕ → Program → Verdict
verdict lines p = verdict_by lines p.limits (played (body p) 100000 (body p (operands (root_of p) [])) (start_of p.limits))

-- a column of so many entries, by those that differ from the usual one
abbrev set_all : {A : Type 0} → List A → List (ℕ × A) → List A
set_all items [] = items
set_all items (entry ∷ entries) = set_all (slice_set items entry.0 entry.1) entries

abbrev column : {A : Type 0} → ℕ → A → List (ℕ × A) → List A
column count usual entries = set_all (replicate count usual) entries

abbrev NOTHING : Layout
NOTHING = record { size = 0; alignment = 1; cells = 0 }

abbrev token : ℕ → ℕ → Token
token a b = record { kind = Keyword; start = a; end = b }

abbrev node : Kind → ℕ → ℕ → List ℕ → Node
node k a b ps = record { kind = k; first = a; last = b; parts = ps }

abbrev shape : CType → Bool → Bool → Shape
shape of c v = record { of = of; constant = c; volatile = v }

abbrev put : ℕ → ℕ → ℕ → ℕ → Put
put n c r u = record { node = n; cell = c; row = r; user = u }

pub record Parts : Type 0 where
  pub file : List ℕ
  pub shapes : List Shape
  pub types : List ℕ
  pub refs : List (Option ℕ)
  pub valued : List Bool
  pub named : List ℕ
  pub durations : List Duration
  pub constants : List (Option ℤ)
  pub layouts : List Layout
  pub members : List (List ℕ)
  pub chosen : List ℕ
  pub parameters : List (List ℕ)
  pub plans : List (List Put)
  pub texts : List (List ℕ)
  pub main : ℕ

abbrev typed : List Token → List Node → Parts → Typed
typed tokens nodes p = record { file = p.file; tokens = tokens; nodes = nodes; items = []; shapes = p.shapes; types = p.types; refs = p.refs; valued = p.valued; named = p.named; durations = p.durations; constants = p.constants; layouts = p.layouts; members = p.members; chosen = p.chosen; parameters = p.parameters; plans = p.plans; texts = p.texts; main = p.main }

-- int main(){int*p=0;void*q=0;return p==q&&p==0&&0==q;}
abbrev file_extra_11_tokens : List Token
file_extra_11_tokens = (token 0 3 ∷ token 4 8 ∷ token 8 9 ∷ token 9 10 ∷ token 10 11 ∷ token 11 14 ∷ token 14 15 ∷ token 15 16 ∷ token 16 17 ∷ token 17 18 ∷ token 18 19 ∷ token 19 23 ∷ token 23 24 ∷ token 24 25 ∷ token 25 26 ∷ token 26 27 ∷ token 27 28 ∷ token 28 34 ∷ token 35 36 ∷ token 36 38 ∷ token 38 39 ∷ token 39 41 ∷ token 41 42 ∷ token 42 44 ∷ token 44 45 ∷ token 45 47 ∷ token 47 48 ∷ token 48 50 ∷ token 50 51 ∷ token 51 52 ∷ token 52 53 ∷ [])

abbrev file_extra_11_nodes : List Node
file_extra_11_nodes = (node kind.Specifiers 0 0 ([]) ∷ node kind.NameDeclarator 1 1 ([]) ∷ node kind.FunctionDeclarator 1 3 (1 ∷ []) ∷ node kind.Specifiers 5 5 ([]) ∷ node kind.NameDeclarator 7 7 ([]) ∷ node kind.PointerDeclarator 6 7 (4 ∷ []) ∷ node kind.Integer 9 9 ([]) ∷ node kind.InitDeclarator 6 9 (5 ∷ 6 ∷ []) ∷ node kind.Declaration 5 10 (3 ∷ 7 ∷ []) ∷ node kind.Specifiers 11 11 ([]) ∷ node kind.NameDeclarator 13 13 ([]) ∷ node kind.PointerDeclarator 12 13 (10 ∷ []) ∷ node kind.Integer 15 15 ([]) ∷ node kind.InitDeclarator 12 15 (11 ∷ 12 ∷ []) ∷ node kind.Declaration 11 16 (9 ∷ 13 ∷ []) ∷ node kind.Identifier 18 18 ([]) ∷ node kind.Identifier 20 20 ([]) ∷ node kind.Equal 18 20 (15 ∷ 16 ∷ []) ∷ node kind.Identifier 22 22 ([]) ∷ node kind.Integer 24 24 ([]) ∷ node kind.Equal 22 24 (18 ∷ 19 ∷ []) ∷ node kind.LogicalAnd 18 24 (17 ∷ 20 ∷ []) ∷ node kind.Integer 26 26 ([]) ∷ node kind.Identifier 28 28 ([]) ∷ node kind.Equal 26 28 (22 ∷ 23 ∷ []) ∷ node kind.LogicalAnd 18 28 (21 ∷ 24 ∷ []) ∷ node kind.Return 17 29 (25 ∷ []) ∷ node kind.Compound 4 30 (8 ∷ 14 ∷ 26 ∷ []) ∷ node kind.FunctionDefinition 0 30 (0 ∷ 2 ∷ 27 ∷ []) ∷ [])

file_extra_11 :
    verdict (1 ∷ 1 ∷ 1 ∷ 1 ∷ 1 ∷ 1 ∷ 1 ∷ 1 ∷ 1 ∷ 1 ∷ 1 ∷ 1 ∷ 1 ∷ 1 ∷ 1 ∷ 1 ∷ 1 ∷ 1 ∷ 1 ∷ 1 ∷ 1 ∷ 1 ∷ 1 ∷ 1 ∷ 1 ∷ 1 ∷ 1 ∷ 1 ∷ 1 ∷ []) (program_of (typed file_extra_11_tokens file_extra_11_nodes (record { file = codes "int main(){int*p=0;void*q=0;return p==q&&p==0&&0==q;}"; shapes = (shape Unknown false false ∷ shape (ctype.Int ints.Int) false false ∷ shape (Pointer 1) false false ∷ shape Void false false ∷ shape (Pointer 3) false false ∷ shape (Function 28) false false ∷ []); types = column 29 0 ((6, 1) ∷ (12, 1) ∷ (15, 2) ∷ (16, 4) ∷ (17, 1) ∷ (18, 2) ∷ (19, 1) ∷ (20, 1) ∷ (21, 1) ∷ (22, 1) ∷ (23, 4) ∷ (24, 1) ∷ (25, 1) ∷ []); refs = column 29 None ((1, (Some (1))) ∷ (4, (Some (4))) ∷ (10, (Some (10))) ∷ (15, (Some (4))) ∷ (16, (Some (10))) ∷ (18, (Some (4))) ∷ (23, (Some (10))) ∷ []); valued = column 29 false ((15, true) ∷ (16, true) ∷ (18, true) ∷ (23, true) ∷ []); named = column 29 0 ((1, 5) ∷ (4, 2) ∷ (10, 4) ∷ (26, 1) ∷ []); durations = column 29 duration.NoObject ((4, duration.Automatic) ∷ (10, duration.Automatic) ∷ []); constants = column 29 None ((6, (Some (pos 0))) ∷ (12, (Some (pos 0))) ∷ (19, (Some (pos 0))) ∷ (22, (Some (pos 0))) ∷ []); layouts = column 29 NOTHING []; members = column 29 [] []; chosen = column 29 0 []; parameters = column 29 [] ((0, ([])) ∷ (1, ([])) ∷ (2, ([])) ∷ (3, ([])) ∷ (4, ([])) ∷ (5, ([])) ∷ (6, ([])) ∷ (7, ([])) ∷ (8, ([])) ∷ (9, ([])) ∷ (10, ([])) ∷ (11, ([])) ∷ (12, ([])) ∷ (13, ([])) ∷ (14, ([])) ∷ (15, ([])) ∷ (16, ([])) ∷ (17, ([])) ∷ (18, ([])) ∷ (19, ([])) ∷ (20, ([])) ∷ (21, ([])) ∷ (22, ([])) ∷ (23, ([])) ∷ (24, ([])) ∷ (25, ([])) ∷ (26, ([])) ∷ (27, ([])) ∷ (28, ([])) ∷ []); plans = column 29 [] ((7, (put 6 0 2 7 ∷ [])) ∷ (13, (put 12 0 4 13 ∷ [])) ∷ []); texts = column 29 [] ((0, ([])) ∷ (1, ([])) ∷ (2, ([])) ∷ (3, ([])) ∷ (4, ([])) ∷ (5, ([])) ∷ (6, ([])) ∷ (7, ([])) ∷ (8, ([])) ∷ (9, ([])) ∷ (10, ([])) ∷ (11, ([])) ∷ (12, ([])) ∷ (13, ([])) ∷ (14, ([])) ∷ (15, ([])) ∷ (16, ([])) ∷ (17, ([])) ∷ (18, ([])) ∷ (19, ([])) ∷ (20, ([])) ∷ (21, ([])) ∷ (22, ([])) ∷ (23, ([])) ∷ (24, ([])) ∷ (25, ([])) ∷ (26, ([])) ∷ (27, ([])) ∷ (28, ([])) ∷ []); main = 28 })) (record { steps = 3000; depth = 256; cells = 1048576; output = 65536 })) ≡ fine 1 []
unfolding body played pieces_of types_of type_at
file_extra_11 = refl

-- struct t;int main(){return sizeof(int[2])-8;}
abbrev file_extra_19_tokens : List Token
file_extra_19_tokens = (token 0 6 ∷ token 7 8 ∷ token 8 9 ∷ token 9 12 ∷ token 13 17 ∷ token 17 18 ∷ token 18 19 ∷ token 19 20 ∷ token 20 26 ∷ token 27 33 ∷ token 33 34 ∷ token 34 37 ∷ token 37 38 ∷ token 38 39 ∷ token 39 40 ∷ token 40 41 ∷ token 41 42 ∷ token 42 43 ∷ token 43 44 ∷ token 44 45 ∷ [])

abbrev file_extra_19_nodes : List Node
file_extra_19_nodes = (node kind.StructTag 0 1 ([]) ∷ node kind.Specifiers 0 1 ([]) ∷ node kind.Declaration 0 2 (1 ∷ []) ∷ node kind.Specifiers 3 3 ([]) ∷ node kind.NameDeclarator 4 4 ([]) ∷ node kind.FunctionDeclarator 4 6 (4 ∷ []) ∷ node kind.Specifiers 11 11 ([]) ∷ node kind.Integer 13 13 ([]) ∷ node kind.SizeofType 9 15 (6 ∷ []) ∷ node kind.Integer 17 17 ([]) ∷ node kind.Subtract 9 17 (8 ∷ 9 ∷ []) ∷ node kind.Return 8 18 (10 ∷ []) ∷ node kind.Compound 7 19 (11 ∷ []) ∷ node kind.FunctionDefinition 3 19 (3 ∷ 5 ∷ 12 ∷ []) ∷ [])

file_extra_19 :
    verdict (1 ∷ 1 ∷ 1 ∷ 1 ∷ 1 ∷ 1 ∷ 1 ∷ 1 ∷ 1 ∷ 1 ∷ 1 ∷ 1 ∷ 1 ∷ 1 ∷ []) (program_of (typed file_extra_19_tokens file_extra_19_nodes (record { file = codes "struct t;int main(){return sizeof(int[2])-8;}"; shapes = (shape Unknown false false ∷ shape (ctype.Int ints.Int) false false ∷ shape (ctype.Int ints.ULong) false false ∷ shape (Function 13) false false ∷ []); types = column 14 0 ((7, 1) ∷ (8, 2) ∷ (9, 1) ∷ (10, 2) ∷ []); refs = column 14 None ((4, (Some (4))) ∷ []); valued = column 14 false []; named = column 14 0 ((4, 3) ∷ (11, 1) ∷ []); durations = column 14 duration.NoObject []; constants = column 14 None ((7, (Some (pos 2))) ∷ (8, (Some (pos 8))) ∷ (9, (Some (pos 8))) ∷ []); layouts = column 14 NOTHING []; members = column 14 [] []; chosen = column 14 0 []; parameters = column 14 [] ((0, ([])) ∷ (1, ([])) ∷ (2, ([])) ∷ (3, ([])) ∷ (4, ([])) ∷ (5, ([])) ∷ (6, ([])) ∷ (7, ([])) ∷ (8, ([])) ∷ (9, ([])) ∷ (10, ([])) ∷ (11, ([])) ∷ (12, ([])) ∷ (13, ([])) ∷ []); plans = column 14 [] []; texts = column 14 [] ((0, ([])) ∷ (1, ([])) ∷ (2, ([])) ∷ (3, ([])) ∷ (4, ([])) ∷ (5, ([])) ∷ (6, ([])) ∷ (7, ([])) ∷ (8, ([])) ∷ (9, ([])) ∷ (10, ([])) ∷ (11, ([])) ∷ (12, ([])) ∷ (13, ([])) ∷ []); main = 13 })) (record { steps = 3000; depth = 256; cells = 1048576; output = 65536 })) ≡ fine 0 []
unfolding body played pieces_of types_of type_at
file_extra_19 = refl

-- int main(){int i=0;i=i++||1;return i;}
abbrev file_extra_23_tokens : List Token
file_extra_23_tokens = (token 0 3 ∷ token 4 8 ∷ token 8 9 ∷ token 9 10 ∷ token 10 11 ∷ token 11 14 ∷ token 15 16 ∷ token 16 17 ∷ token 17 18 ∷ token 18 19 ∷ token 19 20 ∷ token 20 21 ∷ token 21 22 ∷ token 22 24 ∷ token 24 26 ∷ token 26 27 ∷ token 27 28 ∷ token 28 34 ∷ token 35 36 ∷ token 36 37 ∷ token 37 38 ∷ [])

abbrev file_extra_23_nodes : List Node
file_extra_23_nodes = (node kind.Specifiers 0 0 ([]) ∷ node kind.NameDeclarator 1 1 ([]) ∷ node kind.FunctionDeclarator 1 3 (1 ∷ []) ∷ node kind.Specifiers 5 5 ([]) ∷ node kind.NameDeclarator 6 6 ([]) ∷ node kind.Integer 8 8 ([]) ∷ node kind.InitDeclarator 6 8 (4 ∷ 5 ∷ []) ∷ node kind.Declaration 5 9 (3 ∷ 6 ∷ []) ∷ node kind.Identifier 10 10 ([]) ∷ node kind.Identifier 12 12 ([]) ∷ node kind.PostIncrement 12 13 (9 ∷ []) ∷ node kind.Integer 15 15 ([]) ∷ node kind.LogicalOr 12 15 (10 ∷ 11 ∷ []) ∷ node kind.Assign 10 15 (8 ∷ 12 ∷ []) ∷ node kind.ExpressionStatement 10 16 (13 ∷ []) ∷ node kind.Identifier 18 18 ([]) ∷ node kind.Return 17 19 (15 ∷ []) ∷ node kind.Compound 4 20 (7 ∷ 14 ∷ 16 ∷ []) ∷ node kind.FunctionDefinition 0 20 (0 ∷ 2 ∷ 17 ∷ []) ∷ [])

file_extra_23 :
    verdict (1 ∷ 1 ∷ 1 ∷ 1 ∷ 1 ∷ 1 ∷ 1 ∷ 1 ∷ 1 ∷ 1 ∷ 1 ∷ 1 ∷ 1 ∷ 1 ∷ 1 ∷ 1 ∷ 1 ∷ 1 ∷ 1 ∷ []) (program_of (typed file_extra_23_tokens file_extra_23_nodes (record { file = codes "int main(){int i=0;i=i++||1;return i;}"; shapes = (shape Unknown false false ∷ shape (ctype.Int ints.Int) false false ∷ shape (Function 18) false false ∷ []); types = column 19 0 ((5, 1) ∷ (8, 1) ∷ (9, 1) ∷ (10, 1) ∷ (11, 1) ∷ (12, 1) ∷ (13, 1) ∷ (15, 1) ∷ []); refs = column 19 None ((1, (Some (1))) ∷ (4, (Some (4))) ∷ (8, (Some (4))) ∷ (9, (Some (4))) ∷ (15, (Some (4))) ∷ []); valued = column 19 false ((15, true) ∷ []); named = column 19 0 ((1, 2) ∷ (4, 1) ∷ (16, 1) ∷ []); durations = column 19 duration.NoObject ((4, duration.Automatic) ∷ []); constants = column 19 None ((5, (Some (pos 0))) ∷ (11, (Some (pos 1))) ∷ []); layouts = column 19 NOTHING []; members = column 19 [] []; chosen = column 19 0 []; parameters = column 19 [] ((0, ([])) ∷ (1, ([])) ∷ (2, ([])) ∷ (3, ([])) ∷ (4, ([])) ∷ (5, ([])) ∷ (6, ([])) ∷ (7, ([])) ∷ (8, ([])) ∷ (9, ([])) ∷ (10, ([])) ∷ (11, ([])) ∷ (12, ([])) ∷ (13, ([])) ∷ (14, ([])) ∷ (15, ([])) ∷ (16, ([])) ∷ (17, ([])) ∷ (18, ([])) ∷ []); plans = column 19 [] ((6, (put 5 0 1 6 ∷ [])) ∷ []); texts = column 19 [] ((0, ([])) ∷ (1, ([])) ∷ (2, ([])) ∷ (3, ([])) ∷ (4, ([])) ∷ (5, ([])) ∷ (6, ([])) ∷ (7, ([])) ∷ (8, ([])) ∷ (9, ([])) ∷ (10, ([])) ∷ (11, ([])) ∷ (12, ([])) ∷ (13, ([])) ∷ (14, ([])) ∷ (15, ([])) ∷ (16, ([])) ∷ (17, ([])) ∷ (18, ([])) ∷ []); main = 18 })) (record { steps = 3000; depth = 256; cells = 1048576; output = 65536 })) ≡ fine 1 []
unfolding body played pieces_of types_of type_at
file_extra_23 = refl

-- int main(){int i=0;i+=(i=1,2);return i;}
abbrev file_extra_24_tokens : List Token
file_extra_24_tokens = (token 0 3 ∷ token 4 8 ∷ token 8 9 ∷ token 9 10 ∷ token 10 11 ∷ token 11 14 ∷ token 15 16 ∷ token 16 17 ∷ token 17 18 ∷ token 18 19 ∷ token 19 20 ∷ token 20 22 ∷ token 22 23 ∷ token 23 24 ∷ token 24 25 ∷ token 25 26 ∷ token 26 27 ∷ token 27 28 ∷ token 28 29 ∷ token 29 30 ∷ token 30 36 ∷ token 37 38 ∷ token 38 39 ∷ token 39 40 ∷ [])

abbrev file_extra_24_nodes : List Node
file_extra_24_nodes = (node kind.Specifiers 0 0 ([]) ∷ node kind.NameDeclarator 1 1 ([]) ∷ node kind.FunctionDeclarator 1 3 (1 ∷ []) ∷ node kind.Specifiers 5 5 ([]) ∷ node kind.NameDeclarator 6 6 ([]) ∷ node kind.Integer 8 8 ([]) ∷ node kind.InitDeclarator 6 8 (4 ∷ 5 ∷ []) ∷ node kind.Declaration 5 9 (3 ∷ 6 ∷ []) ∷ node kind.Identifier 10 10 ([]) ∷ node kind.Identifier 13 13 ([]) ∷ node kind.Integer 15 15 ([]) ∷ node kind.Assign 13 15 (9 ∷ 10 ∷ []) ∷ node kind.Integer 17 17 ([]) ∷ node kind.Comma 13 17 (11 ∷ 12 ∷ []) ∷ node kind.Group 12 18 (13 ∷ []) ∷ node kind.AddAssign 10 18 (8 ∷ 14 ∷ []) ∷ node kind.ExpressionStatement 10 19 (15 ∷ []) ∷ node kind.Identifier 21 21 ([]) ∷ node kind.Return 20 22 (17 ∷ []) ∷ node kind.Compound 4 23 (7 ∷ 16 ∷ 18 ∷ []) ∷ node kind.FunctionDefinition 0 23 (0 ∷ 2 ∷ 19 ∷ []) ∷ [])

file_extra_24 :
    verdict (1 ∷ 1 ∷ 1 ∷ 1 ∷ 1 ∷ 1 ∷ 1 ∷ 1 ∷ 1 ∷ 1 ∷ 1 ∷ 1 ∷ 1 ∷ 1 ∷ 1 ∷ 1 ∷ 1 ∷ 1 ∷ 1 ∷ 1 ∷ 1 ∷ []) (program_of (typed file_extra_24_tokens file_extra_24_nodes (record { file = codes "int main(){int i=0;i+=(i=1,2);return i;}"; shapes = (shape Unknown false false ∷ shape (ctype.Int ints.Int) false false ∷ shape (Function 20) false false ∷ []); types = column 21 0 ((5, 1) ∷ (8, 1) ∷ (9, 1) ∷ (10, 1) ∷ (11, 1) ∷ (12, 1) ∷ (13, 1) ∷ (14, 1) ∷ (15, 1) ∷ (17, 1) ∷ []); refs = column 21 None ((1, (Some (1))) ∷ (4, (Some (4))) ∷ (8, (Some (4))) ∷ (9, (Some (4))) ∷ (17, (Some (4))) ∷ []); valued = column 21 false ((17, true) ∷ []); named = column 21 0 ((1, 2) ∷ (4, 1) ∷ (18, 1) ∷ []); durations = column 21 duration.NoObject ((4, duration.Automatic) ∷ []); constants = column 21 None ((5, (Some (pos 0))) ∷ (10, (Some (pos 1))) ∷ (12, (Some (pos 2))) ∷ []); layouts = column 21 NOTHING []; members = column 21 [] []; chosen = column 21 0 []; parameters = column 21 [] ((0, ([])) ∷ (1, ([])) ∷ (2, ([])) ∷ (3, ([])) ∷ (4, ([])) ∷ (5, ([])) ∷ (6, ([])) ∷ (7, ([])) ∷ (8, ([])) ∷ (9, ([])) ∷ (10, ([])) ∷ (11, ([])) ∷ (12, ([])) ∷ (13, ([])) ∷ (14, ([])) ∷ (15, ([])) ∷ (16, ([])) ∷ (17, ([])) ∷ (18, ([])) ∷ (19, ([])) ∷ (20, ([])) ∷ []); plans = column 21 [] ((6, (put 5 0 1 6 ∷ [])) ∷ []); texts = column 21 [] ((0, ([])) ∷ (1, ([])) ∷ (2, ([])) ∷ (3, ([])) ∷ (4, ([])) ∷ (5, ([])) ∷ (6, ([])) ∷ (7, ([])) ∷ (8, ([])) ∷ (9, ([])) ∷ (10, ([])) ∷ (11, ([])) ∷ (12, ([])) ∷ (13, ([])) ∷ (14, ([])) ∷ (15, ([])) ∷ (16, ([])) ∷ (17, ([])) ∷ (18, ([])) ∷ (19, ([])) ∷ (20, ([])) ∷ []); main = 20 })) (record { steps = 3000; depth = 256; cells = 1048576; output = 65536 })) ≡ fine 3 []
unfolding body played pieces_of types_of type_at
file_extra_24 = refl

-- int main(){int a[2][3];return &a[0][3]==&a[1][0];}
abbrev file_extra_25_tokens : List Token
file_extra_25_tokens = (token 0 3 ∷ token 4 8 ∷ token 8 9 ∷ token 9 10 ∷ token 10 11 ∷ token 11 14 ∷ token 15 16 ∷ token 16 17 ∷ token 17 18 ∷ token 18 19 ∷ token 19 20 ∷ token 20 21 ∷ token 21 22 ∷ token 22 23 ∷ token 23 29 ∷ token 30 31 ∷ token 31 32 ∷ token 32 33 ∷ token 33 34 ∷ token 34 35 ∷ token 35 36 ∷ token 36 37 ∷ token 37 38 ∷ token 38 40 ∷ token 40 41 ∷ token 41 42 ∷ token 42 43 ∷ token 43 44 ∷ token 44 45 ∷ token 45 46 ∷ token 46 47 ∷ token 47 48 ∷ token 48 49 ∷ token 49 50 ∷ [])

abbrev file_extra_25_nodes : List Node
file_extra_25_nodes = (node kind.Specifiers 0 0 ([]) ∷ node kind.NameDeclarator 1 1 ([]) ∷ node kind.FunctionDeclarator 1 3 (1 ∷ []) ∷ node kind.Specifiers 5 5 ([]) ∷ node kind.NameDeclarator 6 6 ([]) ∷ node kind.Integer 8 8 ([]) ∷ node kind.ArrayDeclarator 6 9 (4 ∷ 5 ∷ []) ∷ node kind.Integer 11 11 ([]) ∷ node kind.ArrayDeclarator 6 12 (6 ∷ 7 ∷ []) ∷ node kind.Declaration 5 13 (3 ∷ 8 ∷ []) ∷ node kind.Identifier 16 16 ([]) ∷ node kind.Integer 18 18 ([]) ∷ node kind.Subscript 16 19 (10 ∷ 11 ∷ []) ∷ node kind.Integer 21 21 ([]) ∷ node kind.Subscript 16 22 (12 ∷ 13 ∷ []) ∷ node kind.AddressOf 15 22 (14 ∷ []) ∷ node kind.Identifier 25 25 ([]) ∷ node kind.Integer 27 27 ([]) ∷ node kind.Subscript 25 28 (16 ∷ 17 ∷ []) ∷ node kind.Integer 30 30 ([]) ∷ node kind.Subscript 25 31 (18 ∷ 19 ∷ []) ∷ node kind.AddressOf 24 31 (20 ∷ []) ∷ node kind.Equal 15 31 (15 ∷ 21 ∷ []) ∷ node kind.Return 14 32 (22 ∷ []) ∷ node kind.Compound 4 33 (9 ∷ 23 ∷ []) ∷ node kind.FunctionDefinition 0 33 (0 ∷ 2 ∷ 24 ∷ []) ∷ [])

file_extra_25 :
    verdict (1 ∷ 1 ∷ 1 ∷ 1 ∷ 1 ∷ 1 ∷ 1 ∷ 1 ∷ 1 ∷ 1 ∷ 1 ∷ 1 ∷ 1 ∷ 1 ∷ 1 ∷ 1 ∷ 1 ∷ 1 ∷ 1 ∷ 1 ∷ 1 ∷ 1 ∷ 1 ∷ 1 ∷ 1 ∷ 1 ∷ []) (program_of (typed file_extra_25_tokens file_extra_25_nodes (record { file = codes "int main(){int a[2][3];return &a[0][3]==&a[1][0];}"; shapes = (shape Unknown false false ∷ shape (ctype.Int ints.Int) false false ∷ shape (Array 1 3) false false ∷ shape (Array 2 2) false false ∷ shape (Pointer 1) false false ∷ shape (Function 25) false false ∷ []); types = column 26 0 ((5, 1) ∷ (7, 1) ∷ (10, 3) ∷ (11, 1) ∷ (12, 2) ∷ (13, 1) ∷ (14, 1) ∷ (15, 4) ∷ (16, 3) ∷ (17, 1) ∷ (18, 2) ∷ (19, 1) ∷ (20, 1) ∷ (21, 4) ∷ (22, 1) ∷ []); refs = column 26 None ((1, (Some (1))) ∷ (4, (Some (4))) ∷ (10, (Some (4))) ∷ (16, (Some (4))) ∷ []); valued = column 26 false ((10, true) ∷ (12, true) ∷ (16, true) ∷ (18, true) ∷ []); named = column 26 0 ((1, 5) ∷ (4, 3) ∷ (23, 1) ∷ []); durations = column 26 duration.NoObject ((4, duration.Automatic) ∷ []); constants = column 26 None ((5, (Some (pos 2))) ∷ (7, (Some (pos 3))) ∷ (11, (Some (pos 0))) ∷ (13, (Some (pos 3))) ∷ (17, (Some (pos 1))) ∷ (19, (Some (pos 0))) ∷ []); layouts = column 26 NOTHING []; members = column 26 [] []; chosen = column 26 0 []; parameters = column 26 [] ((0, ([])) ∷ (1, ([])) ∷ (2, ([])) ∷ (3, ([])) ∷ (4, ([])) ∷ (5, ([])) ∷ (6, ([])) ∷ (7, ([])) ∷ (8, ([])) ∷ (9, ([])) ∷ (10, ([])) ∷ (11, ([])) ∷ (12, ([])) ∷ (13, ([])) ∷ (14, ([])) ∷ (15, ([])) ∷ (16, ([])) ∷ (17, ([])) ∷ (18, ([])) ∷ (19, ([])) ∷ (20, ([])) ∷ (21, ([])) ∷ (22, ([])) ∷ (23, ([])) ∷ (24, ([])) ∷ (25, ([])) ∷ []); plans = column 26 [] []; texts = column 26 [] ((0, ([])) ∷ (1, ([])) ∷ (2, ([])) ∷ (3, ([])) ∷ (4, ([])) ∷ (5, ([])) ∷ (6, ([])) ∷ (7, ([])) ∷ (8, ([])) ∷ (9, ([])) ∷ (10, ([])) ∷ (11, ([])) ∷ (12, ([])) ∷ (13, ([])) ∷ (14, ([])) ∷ (15, ([])) ∷ (16, ([])) ∷ (17, ([])) ∷ (18, ([])) ∷ (19, ([])) ∷ (20, ([])) ∷ (21, ([])) ∷ (22, ([])) ∷ (23, ([])) ∷ (24, ([])) ∷ (25, ([])) ∷ []); main = 25 })) (record { steps = 3000; depth = 256; cells = 1048576; output = 65536 })) ≡ left 6 1
unfolding body played pieces_of types_of type_at
file_extra_25 = refl

-- int main(){int b[2]={1,b[0]};return 0;}
abbrev file_extra_26_tokens : List Token
file_extra_26_tokens = (token 0 3 ∷ token 4 8 ∷ token 8 9 ∷ token 9 10 ∷ token 10 11 ∷ token 11 14 ∷ token 15 16 ∷ token 16 17 ∷ token 17 18 ∷ token 18 19 ∷ token 19 20 ∷ token 20 21 ∷ token 21 22 ∷ token 22 23 ∷ token 23 24 ∷ token 24 25 ∷ token 25 26 ∷ token 26 27 ∷ token 27 28 ∷ token 28 29 ∷ token 29 35 ∷ token 36 37 ∷ token 37 38 ∷ token 38 39 ∷ [])

abbrev file_extra_26_nodes : List Node
file_extra_26_nodes = (node kind.Specifiers 0 0 ([]) ∷ node kind.NameDeclarator 1 1 ([]) ∷ node kind.FunctionDeclarator 1 3 (1 ∷ []) ∷ node kind.Specifiers 5 5 ([]) ∷ node kind.NameDeclarator 6 6 ([]) ∷ node kind.Integer 8 8 ([]) ∷ node kind.ArrayDeclarator 6 9 (4 ∷ 5 ∷ []) ∷ node kind.Integer 12 12 ([]) ∷ node kind.Identifier 14 14 ([]) ∷ node kind.Integer 16 16 ([]) ∷ node kind.Subscript 14 17 (8 ∷ 9 ∷ []) ∷ node kind.InitializerList 11 18 (7 ∷ 10 ∷ []) ∷ node kind.InitDeclarator 6 18 (6 ∷ 11 ∷ []) ∷ node kind.Declaration 5 19 (3 ∷ 12 ∷ []) ∷ node kind.Integer 21 21 ([]) ∷ node kind.Return 20 22 (14 ∷ []) ∷ node kind.Compound 4 23 (13 ∷ 15 ∷ []) ∷ node kind.FunctionDefinition 0 23 (0 ∷ 2 ∷ 16 ∷ []) ∷ [])

file_extra_26 :
    verdict (1 ∷ 1 ∷ 1 ∷ 1 ∷ 1 ∷ 1 ∷ 1 ∷ 1 ∷ 1 ∷ 1 ∷ 1 ∷ 1 ∷ 1 ∷ 1 ∷ 1 ∷ 1 ∷ 1 ∷ 1 ∷ []) (program_of (typed file_extra_26_tokens file_extra_26_nodes (record { file = codes "int main(){int b[2]={1,b[0]};return 0;}"; shapes = (shape Unknown false false ∷ shape (ctype.Int ints.Int) false false ∷ shape (Array 1 2) false false ∷ shape (Function 17) false false ∷ []); types = column 18 0 ((5, 1) ∷ (7, 1) ∷ (8, 2) ∷ (9, 1) ∷ (10, 1) ∷ (14, 1) ∷ []); refs = column 18 None ((1, (Some (1))) ∷ (4, (Some (4))) ∷ (8, (Some (4))) ∷ []); valued = column 18 false ((8, true) ∷ (10, true) ∷ []); named = column 18 0 ((1, 3) ∷ (4, 2) ∷ (15, 1) ∷ []); durations = column 18 duration.NoObject ((4, duration.Automatic) ∷ []); constants = column 18 None ((5, (Some (pos 2))) ∷ (7, (Some (pos 1))) ∷ (9, (Some (pos 0))) ∷ (14, (Some (pos 0))) ∷ []); layouts = column 18 NOTHING []; members = column 18 [] []; chosen = column 18 0 []; parameters = column 18 [] ((0, ([])) ∷ (1, ([])) ∷ (2, ([])) ∷ (3, ([])) ∷ (4, ([])) ∷ (5, ([])) ∷ (6, ([])) ∷ (7, ([])) ∷ (8, ([])) ∷ (9, ([])) ∷ (10, ([])) ∷ (11, ([])) ∷ (12, ([])) ∷ (13, ([])) ∷ (14, ([])) ∷ (15, ([])) ∷ (16, ([])) ∷ (17, ([])) ∷ []); plans = column 18 [] ((12, (put 7 0 1 11 ∷ put 10 1 1 11 ∷ [])) ∷ []); texts = column 18 [] ((0, ([])) ∷ (1, ([])) ∷ (2, ([])) ∷ (3, ([])) ∷ (4, ([])) ∷ (5, ([])) ∷ (6, ([])) ∷ (7, ([])) ∷ (8, ([])) ∷ (9, ([])) ∷ (10, ([])) ∷ (11, ([])) ∷ (12, ([])) ∷ (13, ([])) ∷ (14, ([])) ∷ (15, ([])) ∷ (16, ([])) ∷ (17, ([])) ∷ []); main = 17 })) (record { steps = 3000; depth = 256; cells = 1048576; output = 65536 })) ≡ undefined 11 1
unfolding body played pieces_of types_of type_at
file_extra_26 = refl

-- struct s{const int m;}x={1};int main(){*(int*)&x.m=2;}
abbrev file_extra_27_tokens : List Token
file_extra_27_tokens = (token 0 6 ∷ token 7 8 ∷ token 8 9 ∷ token 9 14 ∷ token 15 18 ∷ token 19 20 ∷ token 20 21 ∷ token 21 22 ∷ token 22 23 ∷ token 23 24 ∷ token 24 25 ∷ token 25 26 ∷ token 26 27 ∷ token 27 28 ∷ token 28 31 ∷ token 32 36 ∷ token 36 37 ∷ token 37 38 ∷ token 38 39 ∷ token 39 40 ∷ token 40 41 ∷ token 41 44 ∷ token 44 45 ∷ token 45 46 ∷ token 46 47 ∷ token 47 48 ∷ token 48 49 ∷ token 49 50 ∷ token 50 51 ∷ token 51 52 ∷ token 52 53 ∷ token 53 54 ∷ [])

abbrev file_extra_27_nodes : List Node
file_extra_27_nodes = (node kind.Specifiers 3 4 ([]) ∷ node kind.NameDeclarator 5 5 ([]) ∷ node kind.MemberDeclaration 3 6 ([]) ∷ node kind.StructContent 0 7 ([]) ∷ node kind.Specifiers 0 7 ([]) ∷ node kind.NameDeclarator 8 8 ([]) ∷ node kind.Integer 11 11 ([]) ∷ node kind.InitializerList 10 12 (6 ∷ []) ∷ node kind.InitDeclarator 8 12 (5 ∷ 7 ∷ []) ∷ node kind.Declaration 0 13 (4 ∷ 8 ∷ []) ∷ node kind.Specifiers 14 14 ([]) ∷ node kind.NameDeclarator 15 15 ([]) ∷ node kind.FunctionDeclarator 15 17 (11 ∷ []) ∷ node kind.Specifiers 21 21 ([]) ∷ node kind.TypeName 21 22 (13 ∷ []) ∷ node kind.Identifier 25 25 ([]) ∷ node kind.Member 25 27 (15 ∷ []) ∷ node kind.AddressOf 24 27 (16 ∷ []) ∷ node kind.Cast 20 27 (14 ∷ 17 ∷ []) ∷ node kind.Dereference 19 27 (18 ∷ []) ∷ node kind.Integer 29 29 ([]) ∷ node kind.Assign 19 29 (19 ∷ 20 ∷ []) ∷ node kind.ExpressionStatement 19 30 (21 ∷ []) ∷ node kind.Compound 18 31 (22 ∷ []) ∷ node kind.FunctionDefinition 14 31 (10 ∷ 12 ∷ 23 ∷ []) ∷ [])

file_extra_27 :
    verdict (1 ∷ 1 ∷ 1 ∷ 1 ∷ 1 ∷ 1 ∷ 1 ∷ 1 ∷ 1 ∷ 1 ∷ 1 ∷ 1 ∷ 1 ∷ 1 ∷ 1 ∷ 1 ∷ 1 ∷ 1 ∷ 1 ∷ 1 ∷ 1 ∷ 1 ∷ 1 ∷ 1 ∷ 1 ∷ []) (program_of (typed file_extra_27_tokens file_extra_27_nodes (record { file = codes "struct s{const int m;}x={1};int main(){*(int*)&x.m=2;}"; shapes = (shape Unknown false false ∷ shape (ctype.Int ints.Int) false false ∷ shape (Struct 3) false false ∷ shape (ctype.Int ints.Int) true false ∷ shape (Pointer 3) false false ∷ shape (Pointer 1) false false ∷ shape (Function 24) false false ∷ []); types = column 25 0 ((6, 1) ∷ (15, 2) ∷ (16, 3) ∷ (17, 4) ∷ (18, 5) ∷ (19, 1) ∷ (20, 1) ∷ (21, 1) ∷ []); refs = column 25 None ((5, (Some (5))) ∷ (11, (Some (11))) ∷ (15, (Some (5))) ∷ []); valued = column 25 false []; named = column 25 0 ((1, 3) ∷ (5, 2) ∷ (11, 6) ∷ (18, 5) ∷ []); durations = column 25 duration.NoObject ((5, duration.Static) ∷ []); constants = column 25 None ((6, (Some (pos 1))) ∷ (20, (Some (pos 2))) ∷ []); layouts = column 25 NOTHING ((3, (record { size = 4; alignment = 4; cells = 1 })) ∷ []); members = column 25 [] ((3, (3 ∷ [])) ∷ []); chosen = column 25 0 []; parameters = column 25 [] ((0, ([])) ∷ (1, ([])) ∷ (2, ([])) ∷ (3, ([])) ∷ (4, ([])) ∷ (5, ([])) ∷ (6, ([])) ∷ (7, ([])) ∷ (8, ([])) ∷ (9, ([])) ∷ (10, ([])) ∷ (11, ([])) ∷ (12, ([])) ∷ (13, ([])) ∷ (14, ([])) ∷ (15, ([])) ∷ (16, ([])) ∷ (17, ([])) ∷ (18, ([])) ∷ (19, ([])) ∷ (20, ([])) ∷ (21, ([])) ∷ (22, ([])) ∷ (23, ([])) ∷ (24, ([])) ∷ []); plans = column 25 [] ((8, (put 6 0 3 7 ∷ [])) ∷ []); texts = column 25 [] ((0, ([])) ∷ (1, ([])) ∷ (2, ([])) ∷ (3, ([])) ∷ (4, ([])) ∷ (5, ([])) ∷ (6, ([])) ∷ (7, ([])) ∷ (8, ([])) ∷ (9, ([])) ∷ (10, ([])) ∷ (11, ([])) ∷ (12, ([])) ∷ (13, ([])) ∷ (14, ([])) ∷ (15, ([])) ∷ (16, ([])) ∷ (17, ([])) ∷ (18, ([])) ∷ (19, ([])) ∷ (20, ([])) ∷ (21, ([])) ∷ (22, ([])) ∷ (23, ([])) ∷ (24, ([])) ∷ []); main = 24 })) (record { steps = 3000; depth = 256; cells = 1048576; output = 65536 })) ≡ undefined 14 1
unfolding body played pieces_of types_of type_at
file_extra_27 = refl

-- struct s{int a[2];int b;}x[2]={1,2,3,{{4},5}};int main(){return x[1].a[0]+x[1].a[1]+x[1].b-9;}
abbrev file_extra_28_tokens : List Token
file_extra_28_tokens = (token 0 6 ∷ token 7 8 ∷ token 8 9 ∷ token 9 12 ∷ token 13 14 ∷ token 14 15 ∷ token 15 16 ∷ token 16 17 ∷ token 17 18 ∷ token 18 21 ∷ token 22 23 ∷ token 23 24 ∷ token 24 25 ∷ token 25 26 ∷ token 26 27 ∷ token 27 28 ∷ token 28 29 ∷ token 29 30 ∷ token 30 31 ∷ token 31 32 ∷ token 32 33 ∷ token 33 34 ∷ token 34 35 ∷ token 35 36 ∷ token 36 37 ∷ token 37 38 ∷ token 38 39 ∷ token 39 40 ∷ token 40 41 ∷ token 41 42 ∷ token 42 43 ∷ token 43 44 ∷ token 44 45 ∷ token 45 46 ∷ token 46 49 ∷ token 50 54 ∷ token 54 55 ∷ token 55 56 ∷ token 56 57 ∷ token 57 63 ∷ token 64 65 ∷ token 65 66 ∷ token 66 67 ∷ token 67 68 ∷ token 68 69 ∷ token 69 70 ∷ token 70 71 ∷ token 71 72 ∷ token 72 73 ∷ token 73 74 ∷ token 74 75 ∷ token 75 76 ∷ token 76 77 ∷ token 77 78 ∷ token 78 79 ∷ token 79 80 ∷ token 80 81 ∷ token 81 82 ∷ token 82 83 ∷ token 83 84 ∷ token 84 85 ∷ token 85 86 ∷ token 86 87 ∷ token 87 88 ∷ token 88 89 ∷ token 89 90 ∷ token 90 91 ∷ token 91 92 ∷ token 92 93 ∷ token 93 94 ∷ [])

abbrev file_extra_28_nodes : List Node
file_extra_28_nodes = (node kind.Specifiers 3 3 ([]) ∷ node kind.NameDeclarator 4 4 ([]) ∷ node kind.Integer 6 6 ([]) ∷ node kind.ArrayDeclarator 4 7 (1 ∷ 2 ∷ []) ∷ node kind.MemberDeclaration 3 8 ([]) ∷ node kind.Specifiers 9 9 ([]) ∷ node kind.NameDeclarator 10 10 ([]) ∷ node kind.MemberDeclaration 9 11 ([]) ∷ node kind.StructContent 0 12 ([]) ∷ node kind.Specifiers 0 12 ([]) ∷ node kind.NameDeclarator 13 13 ([]) ∷ node kind.Integer 15 15 ([]) ∷ node kind.ArrayDeclarator 13 16 (10 ∷ 11 ∷ []) ∷ node kind.Integer 19 19 ([]) ∷ node kind.Integer 21 21 ([]) ∷ node kind.Integer 23 23 ([]) ∷ node kind.Integer 27 27 ([]) ∷ node kind.InitializerList 26 28 (16 ∷ []) ∷ node kind.Integer 30 30 ([]) ∷ node kind.InitializerList 25 31 (17 ∷ 18 ∷ []) ∷ node kind.InitializerList 18 32 (13 ∷ 14 ∷ 15 ∷ 19 ∷ []) ∷ node kind.InitDeclarator 13 32 (12 ∷ 20 ∷ []) ∷ node kind.Declaration 0 33 (9 ∷ 21 ∷ []) ∷ node kind.Specifiers 34 34 ([]) ∷ node kind.NameDeclarator 35 35 ([]) ∷ node kind.FunctionDeclarator 35 37 (24 ∷ []) ∷ node kind.Identifier 40 40 ([]) ∷ node kind.Integer 42 42 ([]) ∷ node kind.Subscript 40 43 (26 ∷ 27 ∷ []) ∷ node kind.Member 40 45 (28 ∷ []) ∷ node kind.Integer 47 47 ([]) ∷ node kind.Subscript 40 48 (29 ∷ 30 ∷ []) ∷ node kind.Identifier 50 50 ([]) ∷ node kind.Integer 52 52 ([]) ∷ node kind.Subscript 50 53 (32 ∷ 33 ∷ []) ∷ node kind.Member 50 55 (34 ∷ []) ∷ node kind.Integer 57 57 ([]) ∷ node kind.Subscript 50 58 (35 ∷ 36 ∷ []) ∷ node kind.Add 40 58 (31 ∷ 37 ∷ []) ∷ node kind.Identifier 60 60 ([]) ∷ node kind.Integer 62 62 ([]) ∷ node kind.Subscript 60 63 (39 ∷ 40 ∷ []) ∷ node kind.Member 60 65 (41 ∷ []) ∷ node kind.Add 40 65 (38 ∷ 42 ∷ []) ∷ node kind.Integer 67 67 ([]) ∷ node kind.Subtract 40 67 (43 ∷ 44 ∷ []) ∷ node kind.Return 39 68 (45 ∷ []) ∷ node kind.Compound 38 69 (46 ∷ []) ∷ node kind.FunctionDefinition 34 69 (23 ∷ 25 ∷ 47 ∷ []) ∷ [])

file_extra_28 :
    verdict (1 ∷ 1 ∷ 1 ∷ 1 ∷ 1 ∷ 1 ∷ 1 ∷ 1 ∷ 1 ∷ 1 ∷ 1 ∷ 1 ∷ 1 ∷ 1 ∷ 1 ∷ 1 ∷ 1 ∷ 1 ∷ 1 ∷ 1 ∷ 1 ∷ 1 ∷ 1 ∷ 1 ∷ 1 ∷ 1 ∷ 1 ∷ 1 ∷ 1 ∷ 1 ∷ 1 ∷ 1 ∷ 1 ∷ 1 ∷ 1 ∷ 1 ∷ 1 ∷ 1 ∷ 1 ∷ 1 ∷ 1 ∷ 1 ∷ 1 ∷ 1 ∷ 1 ∷ 1 ∷ 1 ∷ 1 ∷ 1 ∷ []) (program_of (typed file_extra_28_tokens file_extra_28_nodes (record { file = codes "struct s{int a[2];int b;}x[2]={1,2,3,{{4},5}};int main(){return x[1].a[0]+x[1].a[1]+x[1].b-9;}"; shapes = (shape Unknown false false ∷ shape (ctype.Int ints.Int) false false ∷ shape (Struct 8) false false ∷ shape (Array 2 2) false false ∷ shape (Array 1 2) false false ∷ shape (Function 48) false false ∷ []); types = column 49 0 ((2, 1) ∷ (11, 1) ∷ (13, 1) ∷ (14, 1) ∷ (15, 1) ∷ (16, 1) ∷ (18, 1) ∷ (26, 3) ∷ (27, 1) ∷ (28, 2) ∷ (29, 4) ∷ (30, 1) ∷ (31, 1) ∷ (32, 3) ∷ (33, 1) ∷ (34, 2) ∷ (35, 4) ∷ (36, 1) ∷ (37, 1) ∷ (38, 1) ∷ (39, 3) ∷ (40, 1) ∷ (41, 2) ∷ (42, 1) ∷ (43, 1) ∷ (44, 1) ∷ (45, 1) ∷ []); refs = column 49 None ((10, (Some (10))) ∷ (24, (Some (24))) ∷ (26, (Some (10))) ∷ (32, (Some (10))) ∷ (39, (Some (10))) ∷ []); valued = column 49 false ((26, true) ∷ (29, true) ∷ (31, true) ∷ (32, true) ∷ (35, true) ∷ (37, true) ∷ (39, true) ∷ (42, true) ∷ []); named = column 49 0 ((1, 4) ∷ (6, 1) ∷ (10, 3) ∷ (24, 5) ∷ (46, 1) ∷ []); durations = column 49 duration.NoObject ((10, duration.Static) ∷ []); constants = column 49 None ((2, (Some (pos 2))) ∷ (11, (Some (pos 2))) ∷ (13, (Some (pos 1))) ∷ (14, (Some (pos 2))) ∷ (15, (Some (pos 3))) ∷ (16, (Some (pos 4))) ∷ (18, (Some (pos 5))) ∷ (27, (Some (pos 1))) ∷ (30, (Some (pos 0))) ∷ (33, (Some (pos 1))) ∷ (36, (Some (pos 1))) ∷ (40, (Some (pos 1))) ∷ (44, (Some (pos 9))) ∷ []); layouts = column 49 NOTHING ((8, (record { size = 12; alignment = 4; cells = 3 })) ∷ []); members = column 49 [] ((8, (4 ∷ 1 ∷ [])) ∷ []); chosen = column 49 0 ((42, 1) ∷ []); parameters = column 49 [] ((0, ([])) ∷ (1, ([])) ∷ (2, ([])) ∷ (3, ([])) ∷ (4, ([])) ∷ (5, ([])) ∷ (6, ([])) ∷ (7, ([])) ∷ (8, ([])) ∷ (9, ([])) ∷ (10, ([])) ∷ (11, ([])) ∷ (12, ([])) ∷ (13, ([])) ∷ (14, ([])) ∷ (15, ([])) ∷ (16, ([])) ∷ (17, ([])) ∷ (18, ([])) ∷ (19, ([])) ∷ (20, ([])) ∷ (21, ([])) ∷ (22, ([])) ∷ (23, ([])) ∷ (24, ([])) ∷ (25, ([])) ∷ (26, ([])) ∷ (27, ([])) ∷ (28, ([])) ∷ (29, ([])) ∷ (30, ([])) ∷ (31, ([])) ∷ (32, ([])) ∷ (33, ([])) ∷ (34, ([])) ∷ (35, ([])) ∷ (36, ([])) ∷ (37, ([])) ∷ (38, ([])) ∷ (39, ([])) ∷ (40, ([])) ∷ (41, ([])) ∷ (42, ([])) ∷ (43, ([])) ∷ (44, ([])) ∷ (45, ([])) ∷ (46, ([])) ∷ (47, ([])) ∷ (48, ([])) ∷ []); plans = column 49 [] ((21, (put 13 0 1 20 ∷ put 14 1 1 20 ∷ put 15 2 1 20 ∷ put 16 3 1 17 ∷ put 18 5 1 19 ∷ [])) ∷ []); texts = column 49 [] ((0, ([])) ∷ (1, ([])) ∷ (2, ([])) ∷ (3, ([])) ∷ (4, ([])) ∷ (5, ([])) ∷ (6, ([])) ∷ (7, ([])) ∷ (8, ([])) ∷ (9, ([])) ∷ (10, ([])) ∷ (11, ([])) ∷ (12, ([])) ∷ (13, ([])) ∷ (14, ([])) ∷ (15, ([])) ∷ (16, ([])) ∷ (17, ([])) ∷ (18, ([])) ∷ (19, ([])) ∷ (20, ([])) ∷ (21, ([])) ∷ (22, ([])) ∷ (23, ([])) ∷ (24, ([])) ∷ (25, ([])) ∷ (26, ([])) ∷ (27, ([])) ∷ (28, ([])) ∷ (29, ([])) ∷ (30, ([])) ∷ (31, ([])) ∷ (32, ([])) ∷ (33, ([])) ∷ (34, ([])) ∷ (35, ([])) ∷ (36, ([])) ∷ (37, ([])) ∷ (38, ([])) ∷ (39, ([])) ∷ (40, ([])) ∷ (41, ([])) ∷ (42, ([])) ∷ (43, ([])) ∷ (44, ([])) ∷ (45, ([])) ∷ (46, ([])) ∷ (47, ([])) ∷ (48, ([])) ∷ []); main = 48 })) (record { steps = 3000; depth = 256; cells = 1048576; output = 65536 })) ≡ fine 0 []
unfolding body played pieces_of types_of type_at
file_extra_28 = refl

-- struct s{int a;int b;};int main(){struct s z={1,2};struct s w[2]={z,3,4};return w[0].b+w[1].a-5;}
abbrev file_extra_29_tokens : List Token
file_extra_29_tokens = (token 0 6 ∷ token 7 8 ∷ token 8 9 ∷ token 9 12 ∷ token 13 14 ∷ token 14 15 ∷ token 15 18 ∷ token 19 20 ∷ token 20 21 ∷ token 21 22 ∷ token 22 23 ∷ token 23 26 ∷ token 27 31 ∷ token 31 32 ∷ token 32 33 ∷ token 33 34 ∷ token 34 40 ∷ token 41 42 ∷ token 43 44 ∷ token 44 45 ∷ token 45 46 ∷ token 46 47 ∷ token 47 48 ∷ token 48 49 ∷ token 49 50 ∷ token 50 51 ∷ token 51 57 ∷ token 58 59 ∷ token 60 61 ∷ token 61 62 ∷ token 62 63 ∷ token 63 64 ∷ token 64 65 ∷ token 65 66 ∷ token 66 67 ∷ token 67 68 ∷ token 68 69 ∷ token 69 70 ∷ token 70 71 ∷ token 71 72 ∷ token 72 73 ∷ token 73 79 ∷ token 80 81 ∷ token 81 82 ∷ token 82 83 ∷ token 83 84 ∷ token 84 85 ∷ token 85 86 ∷ token 86 87 ∷ token 87 88 ∷ token 88 89 ∷ token 89 90 ∷ token 90 91 ∷ token 91 92 ∷ token 92 93 ∷ token 93 94 ∷ token 94 95 ∷ token 95 96 ∷ token 96 97 ∷ [])

abbrev file_extra_29_nodes : List Node
file_extra_29_nodes = (node kind.Specifiers 3 3 ([]) ∷ node kind.NameDeclarator 4 4 ([]) ∷ node kind.MemberDeclaration 3 5 ([]) ∷ node kind.Specifiers 6 6 ([]) ∷ node kind.NameDeclarator 7 7 ([]) ∷ node kind.MemberDeclaration 6 8 ([]) ∷ node kind.StructContent 0 9 ([]) ∷ node kind.Specifiers 0 9 ([]) ∷ node kind.Declaration 0 10 (7 ∷ []) ∷ node kind.Specifiers 11 11 ([]) ∷ node kind.NameDeclarator 12 12 ([]) ∷ node kind.FunctionDeclarator 12 14 (10 ∷ []) ∷ node kind.StructTag 16 17 ([]) ∷ node kind.Specifiers 16 17 ([]) ∷ node kind.NameDeclarator 18 18 ([]) ∷ node kind.Integer 21 21 ([]) ∷ node kind.Integer 23 23 ([]) ∷ node kind.InitializerList 20 24 (15 ∷ 16 ∷ []) ∷ node kind.InitDeclarator 18 24 (14 ∷ 17 ∷ []) ∷ node kind.Declaration 16 25 (13 ∷ 18 ∷ []) ∷ node kind.StructTag 26 27 ([]) ∷ node kind.Specifiers 26 27 ([]) ∷ node kind.NameDeclarator 28 28 ([]) ∷ node kind.Integer 30 30 ([]) ∷ node kind.ArrayDeclarator 28 31 (22 ∷ 23 ∷ []) ∷ node kind.Identifier 34 34 ([]) ∷ node kind.Integer 36 36 ([]) ∷ node kind.Integer 38 38 ([]) ∷ node kind.InitializerList 33 39 (25 ∷ 26 ∷ 27 ∷ []) ∷ node kind.InitDeclarator 28 39 (24 ∷ 28 ∷ []) ∷ node kind.Declaration 26 40 (21 ∷ 29 ∷ []) ∷ node kind.Identifier 42 42 ([]) ∷ node kind.Integer 44 44 ([]) ∷ node kind.Subscript 42 45 (31 ∷ 32 ∷ []) ∷ node kind.Member 42 47 (33 ∷ []) ∷ node kind.Identifier 49 49 ([]) ∷ node kind.Integer 51 51 ([]) ∷ node kind.Subscript 49 52 (35 ∷ 36 ∷ []) ∷ node kind.Member 49 54 (37 ∷ []) ∷ node kind.Add 42 54 (34 ∷ 38 ∷ []) ∷ node kind.Integer 56 56 ([]) ∷ node kind.Subtract 42 56 (39 ∷ 40 ∷ []) ∷ node kind.Return 41 57 (41 ∷ []) ∷ node kind.Compound 15 58 (19 ∷ 30 ∷ 42 ∷ []) ∷ node kind.FunctionDefinition 11 58 (9 ∷ 11 ∷ 43 ∷ []) ∷ [])

file_extra_29 :
    verdict (1 ∷ 1 ∷ 1 ∷ 1 ∷ 1 ∷ 1 ∷ 1 ∷ 1 ∷ 1 ∷ 1 ∷ 1 ∷ 1 ∷ 1 ∷ 1 ∷ 1 ∷ 1 ∷ 1 ∷ 1 ∷ 1 ∷ 1 ∷ 1 ∷ 1 ∷ 1 ∷ 1 ∷ 1 ∷ 1 ∷ 1 ∷ 1 ∷ 1 ∷ 1 ∷ 1 ∷ 1 ∷ 1 ∷ 1 ∷ 1 ∷ 1 ∷ 1 ∷ 1 ∷ 1 ∷ 1 ∷ 1 ∷ 1 ∷ 1 ∷ 1 ∷ 1 ∷ []) (program_of (typed file_extra_29_tokens file_extra_29_nodes (record { file = codes "struct s{int a;int b;};int main(){struct s z={1,2};struct s w[2]={z,3,4};return w[0].b+w[1].a-5;}"; shapes = (shape Unknown false false ∷ shape (ctype.Int ints.Int) false false ∷ shape (Struct 6) false false ∷ shape (Array 2 2) false false ∷ shape (Function 44) false false ∷ []); types = column 45 0 ((15, 1) ∷ (16, 1) ∷ (23, 1) ∷ (25, 2) ∷ (26, 1) ∷ (27, 1) ∷ (31, 3) ∷ (32, 1) ∷ (33, 2) ∷ (34, 1) ∷ (35, 3) ∷ (36, 1) ∷ (37, 2) ∷ (38, 1) ∷ (39, 1) ∷ (40, 1) ∷ (41, 1) ∷ []); refs = column 45 None ((10, (Some (10))) ∷ (14, (Some (14))) ∷ (22, (Some (22))) ∷ (25, (Some (14))) ∷ (31, (Some (22))) ∷ (35, (Some (22))) ∷ []); valued = column 45 false ((25, true) ∷ (31, true) ∷ (34, true) ∷ (35, true) ∷ (38, true) ∷ []); named = column 45 0 ((1, 1) ∷ (4, 1) ∷ (10, 4) ∷ (14, 2) ∷ (22, 3) ∷ (42, 1) ∷ []); durations = column 45 duration.NoObject ((14, duration.Automatic) ∷ (22, duration.Automatic) ∷ []); constants = column 45 None ((15, (Some (pos 1))) ∷ (16, (Some (pos 2))) ∷ (23, (Some (pos 2))) ∷ (26, (Some (pos 3))) ∷ (27, (Some (pos 4))) ∷ (32, (Some (pos 0))) ∷ (36, (Some (pos 1))) ∷ (40, (Some (pos 5))) ∷ []); layouts = column 45 NOTHING ((6, (record { size = 8; alignment = 4; cells = 2 })) ∷ []); members = column 45 [] ((6, (1 ∷ 1 ∷ [])) ∷ []); chosen = column 45 0 ((34, 1) ∷ []); parameters = column 45 [] ((0, ([])) ∷ (1, ([])) ∷ (2, ([])) ∷ (3, ([])) ∷ (4, ([])) ∷ (5, ([])) ∷ (6, ([])) ∷ (7, ([])) ∷ (8, ([])) ∷ (9, ([])) ∷ (10, ([])) ∷ (11, ([])) ∷ (12, ([])) ∷ (13, ([])) ∷ (14, ([])) ∷ (15, ([])) ∷ (16, ([])) ∷ (17, ([])) ∷ (18, ([])) ∷ (19, ([])) ∷ (20, ([])) ∷ (21, ([])) ∷ (22, ([])) ∷ (23, ([])) ∷ (24, ([])) ∷ (25, ([])) ∷ (26, ([])) ∷ (27, ([])) ∷ (28, ([])) ∷ (29, ([])) ∷ (30, ([])) ∷ (31, ([])) ∷ (32, ([])) ∷ (33, ([])) ∷ (34, ([])) ∷ (35, ([])) ∷ (36, ([])) ∷ (37, ([])) ∷ (38, ([])) ∷ (39, ([])) ∷ (40, ([])) ∷ (41, ([])) ∷ (42, ([])) ∷ (43, ([])) ∷ (44, ([])) ∷ []); plans = column 45 [] ((18, (put 15 0 1 17 ∷ put 16 1 1 17 ∷ [])) ∷ (29, (put 25 0 2 28 ∷ put 26 2 1 28 ∷ put 27 3 1 28 ∷ [])) ∷ []); texts = column 45 [] ((0, ([])) ∷ (1, ([])) ∷ (2, ([])) ∷ (3, ([])) ∷ (4, ([])) ∷ (5, ([])) ∷ (6, ([])) ∷ (7, ([])) ∷ (8, ([])) ∷ (9, ([])) ∷ (10, ([])) ∷ (11, ([])) ∷ (12, ([])) ∷ (13, ([])) ∷ (14, ([])) ∷ (15, ([])) ∷ (16, ([])) ∷ (17, ([])) ∷ (18, ([])) ∷ (19, ([])) ∷ (20, ([])) ∷ (21, ([])) ∷ (22, ([])) ∷ (23, ([])) ∷ (24, ([])) ∷ (25, ([])) ∷ (26, ([])) ∷ (27, ([])) ∷ (28, ([])) ∷ (29, ([])) ∷ (30, ([])) ∷ (31, ([])) ∷ (32, ([])) ∷ (33, ([])) ∷ (34, ([])) ∷ (35, ([])) ∷ (36, ([])) ∷ (37, ([])) ∷ (38, ([])) ∷ (39, ([])) ∷ (40, ([])) ∷ (41, ([])) ∷ (42, ([])) ∷ (43, ([])) ∷ (44, ([])) ∷ []); main = 44 })) (record { steps = 3000; depth = 256; cells = 1048576; output = 65536 })) ≡ fine 0 []
unfolding body played pieces_of types_of type_at
file_extra_29 = refl

-- int y={{1}};int main(){return y;}
abbrev file_extra_32_tokens : List Token
file_extra_32_tokens = (token 0 3 ∷ token 4 5 ∷ token 5 6 ∷ token 6 7 ∷ token 7 8 ∷ token 8 9 ∷ token 9 10 ∷ token 10 11 ∷ token 11 12 ∷ token 12 15 ∷ token 16 20 ∷ token 20 21 ∷ token 21 22 ∷ token 22 23 ∷ token 23 29 ∷ token 30 31 ∷ token 31 32 ∷ token 32 33 ∷ [])

abbrev file_extra_32_nodes : List Node
file_extra_32_nodes = (node kind.Specifiers 0 0 ([]) ∷ node kind.NameDeclarator 1 1 ([]) ∷ node kind.Integer 5 5 ([]) ∷ node kind.InitializerList 4 6 (2 ∷ []) ∷ node kind.InitializerList 3 7 (3 ∷ []) ∷ node kind.InitDeclarator 1 7 (1 ∷ 4 ∷ []) ∷ node kind.Declaration 0 8 (0 ∷ 5 ∷ []) ∷ node kind.Specifiers 9 9 ([]) ∷ node kind.NameDeclarator 10 10 ([]) ∷ node kind.FunctionDeclarator 10 12 (8 ∷ []) ∷ node kind.Identifier 15 15 ([]) ∷ node kind.Return 14 16 (10 ∷ []) ∷ node kind.Compound 13 17 (11 ∷ []) ∷ node kind.FunctionDefinition 9 17 (7 ∷ 9 ∷ 12 ∷ []) ∷ [])

file_extra_32 :
    verdict (1 ∷ 1 ∷ 1 ∷ 1 ∷ 1 ∷ 1 ∷ 1 ∷ 1 ∷ 1 ∷ 1 ∷ 1 ∷ 1 ∷ 1 ∷ 1 ∷ []) (program_of (typed file_extra_32_tokens file_extra_32_nodes (record { file = codes "int y={{1}};int main(){return y;}"; shapes = (shape Unknown false false ∷ shape (ctype.Int ints.Int) false false ∷ shape (Function 13) false false ∷ []); types = column 14 0 ((2, 1) ∷ (10, 1) ∷ []); refs = column 14 None ((1, (Some (1))) ∷ (8, (Some (8))) ∷ (10, (Some (1))) ∷ []); valued = column 14 false ((10, true) ∷ []); named = column 14 0 ((1, 1) ∷ (8, 2) ∷ (11, 1) ∷ []); durations = column 14 duration.NoObject ((1, duration.Static) ∷ []); constants = column 14 None ((2, (Some (pos 1))) ∷ []); layouts = column 14 NOTHING []; members = column 14 [] []; chosen = column 14 0 []; parameters = column 14 [] ((0, ([])) ∷ (1, ([])) ∷ (2, ([])) ∷ (3, ([])) ∷ (4, ([])) ∷ (5, ([])) ∷ (6, ([])) ∷ (7, ([])) ∷ (8, ([])) ∷ (9, ([])) ∷ (10, ([])) ∷ (11, ([])) ∷ (12, ([])) ∷ (13, ([])) ∷ []); plans = column 14 [] ((5, (put 2 0 1 3 ∷ [])) ∷ []); texts = column 14 [] ((0, ([])) ∷ (1, ([])) ∷ (2, ([])) ∷ (3, ([])) ∷ (4, ([])) ∷ (5, ([])) ∷ (6, ([])) ∷ (7, ([])) ∷ (8, ([])) ∷ (9, ([])) ∷ (10, ([])) ∷ (11, ([])) ∷ (12, ([])) ∷ (13, ([])) ∷ []); main = 13 })) (record { steps = 3000; depth = 256; cells = 1048576; output = 65536 })) ≡ fine 1 []
unfolding body played pieces_of types_of type_at
file_extra_32 = refl

-- int g(void);int main(){int g(void);return g();}int g(void){return 0;}
abbrev file_extra_35_tokens : List Token
file_extra_35_tokens = (token 0 3 ∷ token 4 5 ∷ token 5 6 ∷ token 6 10 ∷ token 10 11 ∷ token 11 12 ∷ token 12 15 ∷ token 16 20 ∷ token 20 21 ∷ token 21 22 ∷ token 22 23 ∷ token 23 26 ∷ token 27 28 ∷ token 28 29 ∷ token 29 33 ∷ token 33 34 ∷ token 34 35 ∷ token 35 41 ∷ token 42 43 ∷ token 43 44 ∷ token 44 45 ∷ token 45 46 ∷ token 46 47 ∷ token 47 50 ∷ token 51 52 ∷ token 52 53 ∷ token 53 57 ∷ token 57 58 ∷ token 58 59 ∷ token 59 65 ∷ token 66 67 ∷ token 67 68 ∷ token 68 69 ∷ [])

abbrev file_extra_35_nodes : List Node
file_extra_35_nodes = (node kind.Specifiers 0 0 ([]) ∷ node kind.NameDeclarator 1 1 ([]) ∷ node kind.FunctionDeclarator 1 4 (1 ∷ []) ∷ node kind.Declaration 0 5 (0 ∷ 2 ∷ []) ∷ node kind.Specifiers 6 6 ([]) ∷ node kind.NameDeclarator 7 7 ([]) ∷ node kind.FunctionDeclarator 7 9 (5 ∷ []) ∷ node kind.Specifiers 11 11 ([]) ∷ node kind.NameDeclarator 12 12 ([]) ∷ node kind.FunctionDeclarator 12 15 (8 ∷ []) ∷ node kind.Declaration 11 16 (7 ∷ 9 ∷ []) ∷ node kind.Call 18 20 ([]) ∷ node kind.Return 17 21 (11 ∷ []) ∷ node kind.Compound 10 22 (10 ∷ 12 ∷ []) ∷ node kind.FunctionDefinition 6 22 (4 ∷ 6 ∷ 13 ∷ []) ∷ node kind.Specifiers 23 23 ([]) ∷ node kind.NameDeclarator 24 24 ([]) ∷ node kind.FunctionDeclarator 24 27 (16 ∷ []) ∷ node kind.Integer 30 30 ([]) ∷ node kind.Return 29 31 (18 ∷ []) ∷ node kind.Compound 28 32 (19 ∷ []) ∷ node kind.FunctionDefinition 23 32 (15 ∷ 17 ∷ 20 ∷ []) ∷ [])

file_extra_35 :
    verdict (1 ∷ 1 ∷ 1 ∷ 1 ∷ 1 ∷ 1 ∷ 1 ∷ 1 ∷ 1 ∷ 1 ∷ 1 ∷ 1 ∷ 1 ∷ 1 ∷ 1 ∷ 1 ∷ 1 ∷ 1 ∷ 1 ∷ 1 ∷ 1 ∷ 1 ∷ []) (program_of (typed file_extra_35_tokens file_extra_35_nodes (record { file = codes "int g(void);int main(){int g(void);return g();}int g(void){return 0;}"; shapes = (shape Unknown false false ∷ shape (ctype.Int ints.Int) false false ∷ shape (Function 21) false false ∷ shape (Function 14) false false ∷ []); types = column 22 0 ((11, 1) ∷ (18, 1) ∷ []); refs = column 22 None ((1, (Some (1))) ∷ (5, (Some (5))) ∷ (8, (Some (1))) ∷ (11, (Some (1))) ∷ (16, (Some (1))) ∷ []); valued = column 22 false []; named = column 22 0 ((1, 2) ∷ (5, 3) ∷ (8, 2) ∷ (12, 1) ∷ (16, 2) ∷ (19, 1) ∷ []); durations = column 22 duration.NoObject []; constants = column 22 None ((18, (Some (pos 0))) ∷ []); layouts = column 22 NOTHING []; members = column 22 [] []; chosen = column 22 0 []; parameters = column 22 [] ((0, ([])) ∷ (1, ([])) ∷ (2, ([])) ∷ (3, ([])) ∷ (4, ([])) ∷ (5, ([])) ∷ (6, ([])) ∷ (7, ([])) ∷ (8, ([])) ∷ (9, ([])) ∷ (10, ([])) ∷ (11, ([])) ∷ (12, ([])) ∷ (13, ([])) ∷ (14, ([])) ∷ (15, ([])) ∷ (16, ([])) ∷ (17, ([])) ∷ (18, ([])) ∷ (19, ([])) ∷ (20, ([])) ∷ (21, ([])) ∷ []); plans = column 22 [] []; texts = column 22 [] ((0, ([])) ∷ (1, ([])) ∷ (2, ([])) ∷ (3, ([])) ∷ (4, ([])) ∷ (5, ([])) ∷ (6, ([])) ∷ (7, ([])) ∷ (8, ([])) ∷ (9, ([])) ∷ (10, ([])) ∷ (11, ([])) ∷ (12, ([])) ∷ (13, ([])) ∷ (14, ([])) ∷ (15, ([])) ∷ (16, ([])) ∷ (17, ([])) ∷ (18, ([])) ∷ (19, ([])) ∷ (20, ([])) ∷ (21, ([])) ∷ []); main = 14 })) (record { steps = 3000; depth = 256; cells = 1048576; output = 65536 })) ≡ fine 0 []
unfolding body played pieces_of types_of type_at
file_extra_35 = refl

-- static int s;extern int s;int main(){return s;}
abbrev file_extra_42_tokens : List Token
file_extra_42_tokens = (token 0 6 ∷ token 7 10 ∷ token 11 12 ∷ token 12 13 ∷ token 13 19 ∷ token 20 23 ∷ token 24 25 ∷ token 25 26 ∷ token 26 29 ∷ token 30 34 ∷ token 34 35 ∷ token 35 36 ∷ token 36 37 ∷ token 37 43 ∷ token 44 45 ∷ token 45 46 ∷ token 46 47 ∷ [])

abbrev file_extra_42_nodes : List Node
file_extra_42_nodes = (node kind.Specifiers 0 1 ([]) ∷ node kind.NameDeclarator 2 2 ([]) ∷ node kind.Declaration 0 3 (0 ∷ 1 ∷ []) ∷ node kind.Specifiers 4 5 ([]) ∷ node kind.NameDeclarator 6 6 ([]) ∷ node kind.Declaration 4 7 (3 ∷ 4 ∷ []) ∷ node kind.Specifiers 8 8 ([]) ∷ node kind.NameDeclarator 9 9 ([]) ∷ node kind.FunctionDeclarator 9 11 (7 ∷ []) ∷ node kind.Identifier 14 14 ([]) ∷ node kind.Return 13 15 (9 ∷ []) ∷ node kind.Compound 12 16 (10 ∷ []) ∷ node kind.FunctionDefinition 8 16 (6 ∷ 8 ∷ 11 ∷ []) ∷ [])

file_extra_42 :
    verdict (1 ∷ 1 ∷ 1 ∷ 1 ∷ 1 ∷ 1 ∷ 1 ∷ 1 ∷ 1 ∷ 1 ∷ 1 ∷ 1 ∷ 1 ∷ []) (program_of (typed file_extra_42_tokens file_extra_42_nodes (record { file = codes "static int s;extern int s;int main(){return s;}"; shapes = (shape Unknown false false ∷ shape (ctype.Int ints.Int) false false ∷ shape (Function 12) false false ∷ []); types = column 13 0 ((9, 1) ∷ []); refs = column 13 None ((1, (Some (1))) ∷ (4, (Some (1))) ∷ (7, (Some (7))) ∷ (9, (Some (1))) ∷ []); valued = column 13 false ((9, true) ∷ []); named = column 13 0 ((1, 1) ∷ (4, 1) ∷ (7, 2) ∷ (10, 1) ∷ []); durations = column 13 duration.NoObject ((1, duration.Static) ∷ (4, duration.Static) ∷ []); constants = column 13 None []; layouts = column 13 NOTHING []; members = column 13 [] []; chosen = column 13 0 []; parameters = column 13 [] ((0, ([])) ∷ (1, ([])) ∷ (2, ([])) ∷ (3, ([])) ∷ (4, ([])) ∷ (5, ([])) ∷ (6, ([])) ∷ (7, ([])) ∷ (8, ([])) ∷ (9, ([])) ∷ (10, ([])) ∷ (11, ([])) ∷ (12, ([])) ∷ []); plans = column 13 [] []; texts = column 13 [] ((0, ([])) ∷ (1, ([])) ∷ (2, ([])) ∷ (3, ([])) ∷ (4, ([])) ∷ (5, ([])) ∷ (6, ([])) ∷ (7, ([])) ∷ (8, ([])) ∷ (9, ([])) ∷ (10, ([])) ∷ (11, ([])) ∷ (12, ([])) ∷ []); main = 12 })) (record { steps = 3000; depth = 256; cells = 1048576; output = 65536 })) ≡ fine 0 []
unfolding body played pieces_of types_of type_at
file_extra_42 = refl

-- int main(void) { while (1) ; }
abbrev file_n1_forever_tokens : List Token
file_n1_forever_tokens = (token 0 3 ∷ token 4 8 ∷ token 8 9 ∷ token 9 13 ∷ token 13 14 ∷ token 15 16 ∷ token 17 22 ∷ token 23 24 ∷ token 24 25 ∷ token 25 26 ∷ token 27 28 ∷ token 29 30 ∷ [])

abbrev file_n1_forever_nodes : List Node
file_n1_forever_nodes = (node kind.Specifiers 0 0 ([]) ∷ node kind.NameDeclarator 1 1 ([]) ∷ node kind.FunctionDeclarator 1 4 (1 ∷ []) ∷ node kind.Integer 8 8 ([]) ∷ node kind.ExpressionStatement 10 10 ([]) ∷ node kind.While 6 10 (3 ∷ 4 ∷ []) ∷ node kind.Compound 5 11 (5 ∷ []) ∷ node kind.FunctionDefinition 0 11 (0 ∷ 2 ∷ 6 ∷ []) ∷ [])

file_n1_forever :
    verdict (1 ∷ 1 ∷ 1 ∷ 3 ∷ 4 ∷ 3 ∷ 2 ∷ 1 ∷ []) (program_of (typed file_n1_forever_tokens file_n1_forever_nodes (record { file = codes "int main(void) { while (1) ; }"; shapes = (shape Unknown false false ∷ shape (ctype.Int ints.Int) false false ∷ shape (Function 7) false false ∷ []); types = column 8 0 ((3, 1) ∷ []); refs = column 8 None ((1, (Some (1))) ∷ []); valued = column 8 false []; named = column 8 0 ((1, 2) ∷ []); durations = column 8 duration.NoObject []; constants = column 8 None ((3, (Some (pos 1))) ∷ []); layouts = column 8 NOTHING []; members = column 8 [] []; chosen = column 8 0 []; parameters = column 8 [] ((0, ([])) ∷ (1, ([])) ∷ (2, ([])) ∷ (3, ([])) ∷ (4, ([])) ∷ (5, ([])) ∷ (6, ([])) ∷ (7, ([])) ∷ []); plans = column 8 [] []; texts = column 8 [] ((0, ([])) ∷ (1, ([])) ∷ (2, ([])) ∷ (3, ([])) ∷ (4, ([])) ∷ (5, ([])) ∷ (6, ([])) ∷ (7, ([])) ∷ []); main = 7 })) (record { steps = 3000; depth = 256; cells = 1048576; output = 65536 })) ≡ left 1 3
unfolding body played pieces_of types_of type_at
file_n1_forever = refl

-- int down(int n) { return down(n + 1); } int main(void) { return down(0); }
abbrev file_n2_endless_tokens : List Token
file_n2_endless_tokens = (token 0 3 ∷ token 4 8 ∷ token 8 9 ∷ token 9 12 ∷ token 13 14 ∷ token 14 15 ∷ token 16 17 ∷ token 18 24 ∷ token 25 29 ∷ token 29 30 ∷ token 30 31 ∷ token 32 33 ∷ token 34 35 ∷ token 35 36 ∷ token 36 37 ∷ token 38 39 ∷ token 40 43 ∷ token 44 48 ∷ token 48 49 ∷ token 49 53 ∷ token 53 54 ∷ token 55 56 ∷ token 57 63 ∷ token 64 68 ∷ token 68 69 ∷ token 69 70 ∷ token 70 71 ∷ token 71 72 ∷ token 73 74 ∷ [])

abbrev file_n2_endless_nodes : List Node
file_n2_endless_nodes = (node kind.Specifiers 0 0 ([]) ∷ node kind.NameDeclarator 1 1 ([]) ∷ node kind.Specifiers 3 3 ([]) ∷ node kind.NameDeclarator 4 4 ([]) ∷ node kind.FunctionDeclarator 1 5 (1 ∷ []) ∷ node kind.Identifier 10 10 ([]) ∷ node kind.Integer 12 12 ([]) ∷ node kind.Add 10 12 (5 ∷ 6 ∷ []) ∷ node kind.Call 8 13 (7 ∷ []) ∷ node kind.Return 7 14 (8 ∷ []) ∷ node kind.Compound 6 15 (9 ∷ []) ∷ node kind.FunctionDefinition 0 15 (0 ∷ 4 ∷ 10 ∷ []) ∷ node kind.Specifiers 16 16 ([]) ∷ node kind.NameDeclarator 17 17 ([]) ∷ node kind.FunctionDeclarator 17 20 (13 ∷ []) ∷ node kind.Integer 25 25 ([]) ∷ node kind.Call 23 26 (15 ∷ []) ∷ node kind.Return 22 27 (16 ∷ []) ∷ node kind.Compound 21 28 (17 ∷ []) ∷ node kind.FunctionDefinition 16 28 (12 ∷ 14 ∷ 18 ∷ []) ∷ [])

file_n2_endless :
    verdict (1 ∷ 1 ∷ 1 ∷ 1 ∷ 1 ∷ 3 ∷ 3 ∷ 3 ∷ 3 ∷ 3 ∷ 2 ∷ 1 ∷ 5 ∷ 5 ∷ 5 ∷ 7 ∷ 7 ∷ 7 ∷ 6 ∷ 5 ∷ []) (program_of (typed file_n2_endless_tokens file_n2_endless_nodes (record { file = codes "int down(int n) { return down(n + 1); } int main(void) { return down(0); }"; shapes = (shape Unknown false false ∷ shape (ctype.Int ints.Int) false false ∷ shape (Function 11) false false ∷ shape (Function 19) false false ∷ []); types = column 20 0 ((5, 1) ∷ (6, 1) ∷ (7, 1) ∷ (8, 1) ∷ (15, 1) ∷ (16, 1) ∷ []); refs = column 20 None ((1, (Some (1))) ∷ (3, (Some (3))) ∷ (5, (Some (3))) ∷ (8, (Some (1))) ∷ (13, (Some (13))) ∷ (16, (Some (1))) ∷ []); valued = column 20 false ((5, true) ∷ []); named = column 20 0 ((1, 2) ∷ (3, 1) ∷ (9, 1) ∷ (13, 3) ∷ (17, 1) ∷ []); durations = column 20 duration.NoObject []; constants = column 20 None ((6, (Some (pos 1))) ∷ (15, (Some (pos 0))) ∷ []); layouts = column 20 NOTHING []; members = column 20 [] []; chosen = column 20 0 []; parameters = column 20 [] ((0, ([])) ∷ (1, ([])) ∷ (2, ([])) ∷ (3, ([])) ∷ (4, ([])) ∷ (5, ([])) ∷ (6, ([])) ∷ (7, ([])) ∷ (8, ([])) ∷ (9, ([])) ∷ (10, ([])) ∷ (11, (3 ∷ [])) ∷ (12, ([])) ∷ (13, ([])) ∷ (14, ([])) ∷ (15, ([])) ∷ (16, ([])) ∷ (17, ([])) ∷ (18, ([])) ∷ (19, ([])) ∷ []); plans = column 20 [] []; texts = column 20 [] ((0, ([])) ∷ (1, ([])) ∷ (2, ([])) ∷ (3, ([])) ∷ (4, ([])) ∷ (5, ([])) ∷ (6, ([])) ∷ (7, ([])) ∷ (8, ([])) ∷ (9, ([])) ∷ (10, ([])) ∷ (11, ([])) ∷ (12, ([])) ∷ (13, ([])) ∷ (14, ([])) ∷ (15, ([])) ∷ (16, ([])) ∷ (17, ([])) ∷ (18, ([])) ∷ (19, ([])) ∷ []); main = 19 })) (record { steps = 3000; depth = 256; cells = 1048576; output = 65536 })) ≡ left 2 3
unfolding body played pieces_of types_of type_at
file_n2_endless = refl

-- int main(void) { int a[2][3] = { { 1 } }; return ((int *)a)[0]; }
abbrev file_n5_row_tokens : List Token
file_n5_row_tokens = (token 0 3 ∷ token 4 8 ∷ token 8 9 ∷ token 9 13 ∷ token 13 14 ∷ token 15 16 ∷ token 17 20 ∷ token 21 22 ∷ token 22 23 ∷ token 23 24 ∷ token 24 25 ∷ token 25 26 ∷ token 26 27 ∷ token 27 28 ∷ token 29 30 ∷ token 31 32 ∷ token 33 34 ∷ token 35 36 ∷ token 37 38 ∷ token 39 40 ∷ token 40 41 ∷ token 42 48 ∷ token 49 50 ∷ token 50 51 ∷ token 51 54 ∷ token 55 56 ∷ token 56 57 ∷ token 57 58 ∷ token 58 59 ∷ token 59 60 ∷ token 60 61 ∷ token 61 62 ∷ token 62 63 ∷ token 64 65 ∷ [])

abbrev file_n5_row_nodes : List Node
file_n5_row_nodes = (node kind.Specifiers 0 0 ([]) ∷ node kind.NameDeclarator 1 1 ([]) ∷ node kind.FunctionDeclarator 1 4 (1 ∷ []) ∷ node kind.Specifiers 6 6 ([]) ∷ node kind.NameDeclarator 7 7 ([]) ∷ node kind.Integer 9 9 ([]) ∷ node kind.ArrayDeclarator 7 10 (4 ∷ 5 ∷ []) ∷ node kind.Integer 12 12 ([]) ∷ node kind.ArrayDeclarator 7 13 (6 ∷ 7 ∷ []) ∷ node kind.Integer 17 17 ([]) ∷ node kind.InitializerList 16 18 (9 ∷ []) ∷ node kind.InitializerList 15 19 (10 ∷ []) ∷ node kind.InitDeclarator 7 19 (8 ∷ 11 ∷ []) ∷ node kind.Declaration 6 20 (3 ∷ 12 ∷ []) ∷ node kind.Specifiers 24 24 ([]) ∷ node kind.TypeName 24 25 (14 ∷ []) ∷ node kind.Identifier 27 27 ([]) ∷ node kind.Cast 23 27 (15 ∷ 16 ∷ []) ∷ node kind.Group 22 28 (17 ∷ []) ∷ node kind.Integer 30 30 ([]) ∷ node kind.Subscript 22 31 (18 ∷ 19 ∷ []) ∷ node kind.Return 21 32 (20 ∷ []) ∷ node kind.Compound 5 33 (13 ∷ 21 ∷ []) ∷ node kind.FunctionDefinition 0 33 (0 ∷ 2 ∷ 22 ∷ []) ∷ [])

file_n5_row :
    verdict (1 ∷ 1 ∷ 1 ∷ 3 ∷ 3 ∷ 3 ∷ 3 ∷ 3 ∷ 3 ∷ 3 ∷ 3 ∷ 3 ∷ 3 ∷ 3 ∷ 4 ∷ 4 ∷ 4 ∷ 4 ∷ 4 ∷ 4 ∷ 4 ∷ 4 ∷ 2 ∷ 1 ∷ []) (program_of (typed file_n5_row_tokens file_n5_row_nodes (record { file = codes "int main(void) { int a[2][3] = { { 1 } }; return ((int *)a)[0]; }"; shapes = (shape Unknown false false ∷ shape (ctype.Int ints.Int) false false ∷ shape (Array 1 3) false false ∷ shape (Array 2 2) false false ∷ shape (Pointer 1) false false ∷ shape (Function 23) false false ∷ []); types = column 24 0 ((5, 1) ∷ (7, 1) ∷ (9, 1) ∷ (16, 3) ∷ (17, 4) ∷ (18, 4) ∷ (19, 1) ∷ (20, 1) ∷ []); refs = column 24 None ((1, (Some (1))) ∷ (4, (Some (4))) ∷ (16, (Some (4))) ∷ []); valued = column 24 false ((16, true) ∷ (20, true) ∷ []); named = column 24 0 ((1, 5) ∷ (4, 3) ∷ (17, 4) ∷ (21, 1) ∷ []); durations = column 24 duration.NoObject ((4, duration.Automatic) ∷ []); constants = column 24 None ((5, (Some (pos 2))) ∷ (7, (Some (pos 3))) ∷ (9, (Some (pos 1))) ∷ (19, (Some (pos 0))) ∷ []); layouts = column 24 NOTHING []; members = column 24 [] []; chosen = column 24 0 []; parameters = column 24 [] ((0, ([])) ∷ (1, ([])) ∷ (2, ([])) ∷ (3, ([])) ∷ (4, ([])) ∷ (5, ([])) ∷ (6, ([])) ∷ (7, ([])) ∷ (8, ([])) ∷ (9, ([])) ∷ (10, ([])) ∷ (11, ([])) ∷ (12, ([])) ∷ (13, ([])) ∷ (14, ([])) ∷ (15, ([])) ∷ (16, ([])) ∷ (17, ([])) ∷ (18, ([])) ∷ (19, ([])) ∷ (20, ([])) ∷ (21, ([])) ∷ (22, ([])) ∷ (23, ([])) ∷ []); plans = column 24 [] ((12, (put 9 0 1 10 ∷ [])) ∷ []); texts = column 24 [] ((0, ([])) ∷ (1, ([])) ∷ (2, ([])) ∷ (3, ([])) ∷ (4, ([])) ∷ (5, ([])) ∷ (6, ([])) ∷ (7, ([])) ∷ (8, ([])) ∷ (9, ([])) ∷ (10, ([])) ∷ (11, ([])) ∷ (12, ([])) ∷ (13, ([])) ∷ (14, ([])) ∷ (15, ([])) ∷ (16, ([])) ∷ (17, ([])) ∷ (18, ([])) ∷ (19, ([])) ∷ (20, ([])) ∷ (21, ([])) ∷ (22, ([])) ∷ (23, ([])) ∷ []); main = 23 })) (record { steps = 3000; depth = 256; cells = 1048576; output = 65536 })) ≡ left 5 4
unfolding body played pieces_of types_of type_at
file_n5_row = refl

-- struct s { int a; int b; }; int main(void) { struct s x, y; int b[3] = { 7 }; static int z; x.a = 1; y = x; return y.a + b[2] + z == 1 ? 0 : 1; }
abbrev file_ok_u11_copy_tokens : List Token
file_ok_u11_copy_tokens = (token 0 6 ∷ token 7 8 ∷ token 9 10 ∷ token 11 14 ∷ token 15 16 ∷ token 16 17 ∷ token 18 21 ∷ token 22 23 ∷ token 23 24 ∷ token 25 26 ∷ token 26 27 ∷ token 28 31 ∷ token 32 36 ∷ token 36 37 ∷ token 37 41 ∷ token 41 42 ∷ token 43 44 ∷ token 45 51 ∷ token 52 53 ∷ token 54 55 ∷ token 55 56 ∷ token 57 58 ∷ token 58 59 ∷ token 60 63 ∷ token 64 65 ∷ token 65 66 ∷ token 66 67 ∷ token 67 68 ∷ token 69 70 ∷ token 71 72 ∷ token 73 74 ∷ token 75 76 ∷ token 76 77 ∷ token 78 84 ∷ token 85 88 ∷ token 89 90 ∷ token 90 91 ∷ token 92 93 ∷ token 93 94 ∷ token 94 95 ∷ token 96 97 ∷ token 98 99 ∷ token 99 100 ∷ token 101 102 ∷ token 103 104 ∷ token 105 106 ∷ token 106 107 ∷ token 108 114 ∷ token 115 116 ∷ token 116 117 ∷ token 117 118 ∷ token 119 120 ∷ token 121 122 ∷ token 122 123 ∷ token 123 124 ∷ token 124 125 ∷ token 126 127 ∷ token 128 129 ∷ token 130 132 ∷ token 133 134 ∷ token 135 136 ∷ token 137 138 ∷ token 139 140 ∷ token 141 142 ∷ token 142 143 ∷ token 144 145 ∷ [])

abbrev file_ok_u11_copy_nodes : List Node
file_ok_u11_copy_nodes = (node kind.Specifiers 3 3 ([]) ∷ node kind.NameDeclarator 4 4 ([]) ∷ node kind.MemberDeclaration 3 5 ([]) ∷ node kind.Specifiers 6 6 ([]) ∷ node kind.NameDeclarator 7 7 ([]) ∷ node kind.MemberDeclaration 6 8 ([]) ∷ node kind.StructContent 0 9 ([]) ∷ node kind.Specifiers 0 9 ([]) ∷ node kind.Declaration 0 10 (7 ∷ []) ∷ node kind.Specifiers 11 11 ([]) ∷ node kind.NameDeclarator 12 12 ([]) ∷ node kind.FunctionDeclarator 12 15 (10 ∷ []) ∷ node kind.StructTag 17 18 ([]) ∷ node kind.Specifiers 17 18 ([]) ∷ node kind.NameDeclarator 19 19 ([]) ∷ node kind.NameDeclarator 21 21 ([]) ∷ node kind.Declaration 17 22 (13 ∷ 14 ∷ 15 ∷ []) ∷ node kind.Specifiers 23 23 ([]) ∷ node kind.NameDeclarator 24 24 ([]) ∷ node kind.Integer 26 26 ([]) ∷ node kind.ArrayDeclarator 24 27 (18 ∷ 19 ∷ []) ∷ node kind.Integer 30 30 ([]) ∷ node kind.InitializerList 29 31 (21 ∷ []) ∷ node kind.InitDeclarator 24 31 (20 ∷ 22 ∷ []) ∷ node kind.Declaration 23 32 (17 ∷ 23 ∷ []) ∷ node kind.Specifiers 33 34 ([]) ∷ node kind.NameDeclarator 35 35 ([]) ∷ node kind.Declaration 33 36 (25 ∷ 26 ∷ []) ∷ node kind.Identifier 37 37 ([]) ∷ node kind.Member 37 39 (28 ∷ []) ∷ node kind.Integer 41 41 ([]) ∷ node kind.Assign 37 41 (29 ∷ 30 ∷ []) ∷ node kind.ExpressionStatement 37 42 (31 ∷ []) ∷ node kind.Identifier 43 43 ([]) ∷ node kind.Identifier 45 45 ([]) ∷ node kind.Assign 43 45 (33 ∷ 34 ∷ []) ∷ node kind.ExpressionStatement 43 46 (35 ∷ []) ∷ node kind.Identifier 48 48 ([]) ∷ node kind.Member 48 50 (37 ∷ []) ∷ node kind.Identifier 52 52 ([]) ∷ node kind.Integer 54 54 ([]) ∷ node kind.Subscript 52 55 (39 ∷ 40 ∷ []) ∷ node kind.Add 48 55 (38 ∷ 41 ∷ []) ∷ node kind.Identifier 57 57 ([]) ∷ node kind.Add 48 57 (42 ∷ 43 ∷ []) ∷ node kind.Integer 59 59 ([]) ∷ node kind.Equal 48 59 (44 ∷ 45 ∷ []) ∷ node kind.Integer 61 61 ([]) ∷ node kind.Integer 63 63 ([]) ∷ node kind.Conditional 48 63 (46 ∷ 47 ∷ 48 ∷ []) ∷ node kind.Return 47 64 (49 ∷ []) ∷ node kind.Compound 16 65 (16 ∷ 24 ∷ 27 ∷ 32 ∷ 36 ∷ 50 ∷ []) ∷ node kind.FunctionDefinition 11 65 (9 ∷ 11 ∷ 51 ∷ []) ∷ [])

file_ok_u11_copy :
    verdict (1 ∷ 1 ∷ 1 ∷ 1 ∷ 1 ∷ 1 ∷ 1 ∷ 1 ∷ 1 ∷ 2 ∷ 2 ∷ 2 ∷ 4 ∷ 4 ∷ 4 ∷ 4 ∷ 4 ∷ 5 ∷ 5 ∷ 5 ∷ 5 ∷ 5 ∷ 5 ∷ 5 ∷ 5 ∷ 6 ∷ 6 ∷ 6 ∷ 7 ∷ 7 ∷ 7 ∷ 7 ∷ 7 ∷ 8 ∷ 8 ∷ 8 ∷ 8 ∷ 9 ∷ 9 ∷ 9 ∷ 9 ∷ 9 ∷ 9 ∷ 9 ∷ 9 ∷ 9 ∷ 9 ∷ 9 ∷ 9 ∷ 9 ∷ 9 ∷ 3 ∷ 2 ∷ []) (program_of (typed file_ok_u11_copy_tokens file_ok_u11_copy_nodes (record { file = codes "struct s { int a; int b; }; int main(void) { struct s x, y; int b[3] = { 7 }; static int z; x.a = 1; y = x; return y.a + b[2] + z == 1 ? 0 : 1; }"; shapes = (shape Unknown false false ∷ shape (ctype.Int ints.Int) false false ∷ shape (Struct 6) false false ∷ shape (Array 1 3) false false ∷ shape (Function 52) false false ∷ []); types = column 53 0 ((19, 1) ∷ (21, 1) ∷ (28, 2) ∷ (29, 1) ∷ (30, 1) ∷ (31, 1) ∷ (33, 2) ∷ (34, 2) ∷ (35, 2) ∷ (37, 2) ∷ (38, 1) ∷ (39, 3) ∷ (40, 1) ∷ (41, 1) ∷ (42, 1) ∷ (43, 1) ∷ (44, 1) ∷ (45, 1) ∷ (46, 1) ∷ (47, 1) ∷ (48, 1) ∷ (49, 1) ∷ []); refs = column 53 None ((10, (Some (10))) ∷ (14, (Some (14))) ∷ (15, (Some (15))) ∷ (18, (Some (18))) ∷ (26, (Some (26))) ∷ (28, (Some (14))) ∷ (33, (Some (15))) ∷ (34, (Some (14))) ∷ (37, (Some (15))) ∷ (39, (Some (18))) ∷ (43, (Some (26))) ∷ []); valued = column 53 false ((34, true) ∷ (38, true) ∷ (39, true) ∷ (41, true) ∷ (43, true) ∷ []); named = column 53 0 ((1, 1) ∷ (4, 1) ∷ (10, 4) ∷ (14, 2) ∷ (15, 2) ∷ (18, 3) ∷ (26, 1) ∷ (50, 1) ∷ []); durations = column 53 duration.NoObject ((14, duration.Automatic) ∷ (15, duration.Automatic) ∷ (18, duration.Automatic) ∷ (26, duration.Static) ∷ []); constants = column 53 None ((19, (Some (pos 3))) ∷ (21, (Some (pos 7))) ∷ (30, (Some (pos 1))) ∷ (40, (Some (pos 2))) ∷ (45, (Some (pos 1))) ∷ (47, (Some (pos 0))) ∷ (48, (Some (pos 1))) ∷ []); layouts = column 53 NOTHING ((6, (record { size = 8; alignment = 4; cells = 2 })) ∷ []); members = column 53 [] ((6, (1 ∷ 1 ∷ [])) ∷ []); chosen = column 53 0 []; parameters = column 53 [] ((0, ([])) ∷ (1, ([])) ∷ (2, ([])) ∷ (3, ([])) ∷ (4, ([])) ∷ (5, ([])) ∷ (6, ([])) ∷ (7, ([])) ∷ (8, ([])) ∷ (9, ([])) ∷ (10, ([])) ∷ (11, ([])) ∷ (12, ([])) ∷ (13, ([])) ∷ (14, ([])) ∷ (15, ([])) ∷ (16, ([])) ∷ (17, ([])) ∷ (18, ([])) ∷ (19, ([])) ∷ (20, ([])) ∷ (21, ([])) ∷ (22, ([])) ∷ (23, ([])) ∷ (24, ([])) ∷ (25, ([])) ∷ (26, ([])) ∷ (27, ([])) ∷ (28, ([])) ∷ (29, ([])) ∷ (30, ([])) ∷ (31, ([])) ∷ (32, ([])) ∷ (33, ([])) ∷ (34, ([])) ∷ (35, ([])) ∷ (36, ([])) ∷ (37, ([])) ∷ (38, ([])) ∷ (39, ([])) ∷ (40, ([])) ∷ (41, ([])) ∷ (42, ([])) ∷ (43, ([])) ∷ (44, ([])) ∷ (45, ([])) ∷ (46, ([])) ∷ (47, ([])) ∷ (48, ([])) ∷ (49, ([])) ∷ (50, ([])) ∷ (51, ([])) ∷ (52, ([])) ∷ []); plans = column 53 [] ((23, (put 21 0 1 22 ∷ [])) ∷ []); texts = column 53 [] ((0, ([])) ∷ (1, ([])) ∷ (2, ([])) ∷ (3, ([])) ∷ (4, ([])) ∷ (5, ([])) ∷ (6, ([])) ∷ (7, ([])) ∷ (8, ([])) ∷ (9, ([])) ∷ (10, ([])) ∷ (11, ([])) ∷ (12, ([])) ∷ (13, ([])) ∷ (14, ([])) ∷ (15, ([])) ∷ (16, ([])) ∷ (17, ([])) ∷ (18, ([])) ∷ (19, ([])) ∷ (20, ([])) ∷ (21, ([])) ∷ (22, ([])) ∷ (23, ([])) ∷ (24, ([])) ∷ (25, ([])) ∷ (26, ([])) ∷ (27, ([])) ∷ (28, ([])) ∷ (29, ([])) ∷ (30, ([])) ∷ (31, ([])) ∷ (32, ([])) ∷ (33, ([])) ∷ (34, ([])) ∷ (35, ([])) ∷ (36, ([])) ∷ (37, ([])) ∷ (38, ([])) ∷ (39, ([])) ∷ (40, ([])) ∷ (41, ([])) ∷ (42, ([])) ∷ (43, ([])) ∷ (44, ([])) ∷ (45, ([])) ∷ (46, ([])) ∷ (47, ([])) ∷ (48, ([])) ∷ (49, ([])) ∷ (50, ([])) ∷ (51, ([])) ∷ (52, ([])) ∷ []); main = 52 })) (record { steps = 3000; depth = 256; cells = 1048576; output = 65536 })) ≡ fine 0 []
unfolding body played pieces_of types_of type_at
file_ok_u11_copy = refl

-- int g; int f(int x) { g = g * 2 + x; return g; } int main(void) { int r = f(1) + f(2); return r > 0 && g + f(0) ? 0 : 1; }
abbrev file_ok_u12_bodies_tokens : List Token
file_ok_u12_bodies_tokens = (token 0 3 ∷ token 4 5 ∷ token 5 6 ∷ token 7 10 ∷ token 11 12 ∷ token 12 13 ∷ token 13 16 ∷ token 17 18 ∷ token 18 19 ∷ token 20 21 ∷ token 22 23 ∷ token 24 25 ∷ token 26 27 ∷ token 28 29 ∷ token 30 31 ∷ token 32 33 ∷ token 34 35 ∷ token 35 36 ∷ token 37 43 ∷ token 44 45 ∷ token 45 46 ∷ token 47 48 ∷ token 49 52 ∷ token 53 57 ∷ token 57 58 ∷ token 58 62 ∷ token 62 63 ∷ token 64 65 ∷ token 66 69 ∷ token 70 71 ∷ token 72 73 ∷ token 74 75 ∷ token 75 76 ∷ token 76 77 ∷ token 77 78 ∷ token 79 80 ∷ token 81 82 ∷ token 82 83 ∷ token 83 84 ∷ token 84 85 ∷ token 85 86 ∷ token 87 93 ∷ token 94 95 ∷ token 96 97 ∷ token 98 99 ∷ token 100 102 ∷ token 103 104 ∷ token 105 106 ∷ token 107 108 ∷ token 108 109 ∷ token 109 110 ∷ token 110 111 ∷ token 112 113 ∷ token 114 115 ∷ token 116 117 ∷ token 118 119 ∷ token 119 120 ∷ token 121 122 ∷ [])

abbrev file_ok_u12_bodies_nodes : List Node
file_ok_u12_bodies_nodes = (node kind.Specifiers 0 0 ([]) ∷ node kind.NameDeclarator 1 1 ([]) ∷ node kind.Declaration 0 2 (0 ∷ 1 ∷ []) ∷ node kind.Specifiers 3 3 ([]) ∷ node kind.NameDeclarator 4 4 ([]) ∷ node kind.Specifiers 6 6 ([]) ∷ node kind.NameDeclarator 7 7 ([]) ∷ node kind.FunctionDeclarator 4 8 (4 ∷ []) ∷ node kind.Identifier 10 10 ([]) ∷ node kind.Identifier 12 12 ([]) ∷ node kind.Integer 14 14 ([]) ∷ node kind.Multiply 12 14 (9 ∷ 10 ∷ []) ∷ node kind.Identifier 16 16 ([]) ∷ node kind.Add 12 16 (11 ∷ 12 ∷ []) ∷ node kind.Assign 10 16 (8 ∷ 13 ∷ []) ∷ node kind.ExpressionStatement 10 17 (14 ∷ []) ∷ node kind.Identifier 19 19 ([]) ∷ node kind.Return 18 20 (16 ∷ []) ∷ node kind.Compound 9 21 (15 ∷ 17 ∷ []) ∷ node kind.FunctionDefinition 3 21 (3 ∷ 7 ∷ 18 ∷ []) ∷ node kind.Specifiers 22 22 ([]) ∷ node kind.NameDeclarator 23 23 ([]) ∷ node kind.FunctionDeclarator 23 26 (21 ∷ []) ∷ node kind.Specifiers 28 28 ([]) ∷ node kind.NameDeclarator 29 29 ([]) ∷ node kind.Integer 33 33 ([]) ∷ node kind.Call 31 34 (25 ∷ []) ∷ node kind.Integer 38 38 ([]) ∷ node kind.Call 36 39 (27 ∷ []) ∷ node kind.Add 31 39 (26 ∷ 28 ∷ []) ∷ node kind.InitDeclarator 29 39 (24 ∷ 29 ∷ []) ∷ node kind.Declaration 28 40 (23 ∷ 30 ∷ []) ∷ node kind.Identifier 42 42 ([]) ∷ node kind.Integer 44 44 ([]) ∷ node kind.Greater 42 44 (32 ∷ 33 ∷ []) ∷ node kind.Identifier 46 46 ([]) ∷ node kind.Integer 50 50 ([]) ∷ node kind.Call 48 51 (36 ∷ []) ∷ node kind.Add 46 51 (35 ∷ 37 ∷ []) ∷ node kind.LogicalAnd 42 51 (34 ∷ 38 ∷ []) ∷ node kind.Integer 53 53 ([]) ∷ node kind.Integer 55 55 ([]) ∷ node kind.Conditional 42 55 (39 ∷ 40 ∷ 41 ∷ []) ∷ node kind.Return 41 56 (42 ∷ []) ∷ node kind.Compound 27 57 (31 ∷ 43 ∷ []) ∷ node kind.FunctionDefinition 22 57 (20 ∷ 22 ∷ 44 ∷ []) ∷ [])

file_ok_u12_bodies :
    verdict (1 ∷ 1 ∷ 1 ∷ 2 ∷ 2 ∷ 2 ∷ 2 ∷ 2 ∷ 4 ∷ 4 ∷ 4 ∷ 4 ∷ 4 ∷ 4 ∷ 4 ∷ 4 ∷ 5 ∷ 5 ∷ 3 ∷ 2 ∷ 7 ∷ 7 ∷ 7 ∷ 9 ∷ 9 ∷ 9 ∷ 9 ∷ 9 ∷ 9 ∷ 9 ∷ 9 ∷ 9 ∷ 10 ∷ 10 ∷ 10 ∷ 10 ∷ 10 ∷ 10 ∷ 10 ∷ 10 ∷ 10 ∷ 10 ∷ 10 ∷ 10 ∷ 8 ∷ 7 ∷ []) (program_of (typed file_ok_u12_bodies_tokens file_ok_u12_bodies_nodes (record { file = codes "int g; int f(int x) { g = g * 2 + x; return g; } int main(void) { int r = f(1) + f(2); return r > 0 && g + f(0) ? 0 : 1; }"; shapes = (shape Unknown false false ∷ shape (ctype.Int ints.Int) false false ∷ shape (Function 19) false false ∷ shape (Function 45) false false ∷ []); types = column 46 0 ((8, 1) ∷ (9, 1) ∷ (10, 1) ∷ (11, 1) ∷ (12, 1) ∷ (13, 1) ∷ (14, 1) ∷ (16, 1) ∷ (25, 1) ∷ (26, 1) ∷ (27, 1) ∷ (28, 1) ∷ (29, 1) ∷ (32, 1) ∷ (33, 1) ∷ (34, 1) ∷ (35, 1) ∷ (36, 1) ∷ (37, 1) ∷ (38, 1) ∷ (39, 1) ∷ (40, 1) ∷ (41, 1) ∷ (42, 1) ∷ []); refs = column 46 None ((1, (Some (1))) ∷ (4, (Some (4))) ∷ (6, (Some (6))) ∷ (8, (Some (1))) ∷ (9, (Some (1))) ∷ (12, (Some (6))) ∷ (16, (Some (1))) ∷ (21, (Some (21))) ∷ (24, (Some (24))) ∷ (26, (Some (4))) ∷ (28, (Some (4))) ∷ (32, (Some (24))) ∷ (35, (Some (1))) ∷ (37, (Some (4))) ∷ []); valued = column 46 false ((9, true) ∷ (12, true) ∷ (16, true) ∷ (32, true) ∷ (35, true) ∷ []); named = column 46 0 ((1, 1) ∷ (4, 2) ∷ (6, 1) ∷ (17, 1) ∷ (21, 3) ∷ (24, 1) ∷ (43, 1) ∷ []); durations = column 46 duration.NoObject ((1, duration.Static) ∷ (24, duration.Automatic) ∷ []); constants = column 46 None ((10, (Some (pos 2))) ∷ (25, (Some (pos 1))) ∷ (27, (Some (pos 2))) ∷ (33, (Some (pos 0))) ∷ (36, (Some (pos 0))) ∷ (40, (Some (pos 0))) ∷ (41, (Some (pos 1))) ∷ []); layouts = column 46 NOTHING []; members = column 46 [] []; chosen = column 46 0 []; parameters = column 46 [] ((0, ([])) ∷ (1, ([])) ∷ (2, ([])) ∷ (3, ([])) ∷ (4, ([])) ∷ (5, ([])) ∷ (6, ([])) ∷ (7, ([])) ∷ (8, ([])) ∷ (9, ([])) ∷ (10, ([])) ∷ (11, ([])) ∷ (12, ([])) ∷ (13, ([])) ∷ (14, ([])) ∷ (15, ([])) ∷ (16, ([])) ∷ (17, ([])) ∷ (18, ([])) ∷ (19, (6 ∷ [])) ∷ (20, ([])) ∷ (21, ([])) ∷ (22, ([])) ∷ (23, ([])) ∷ (24, ([])) ∷ (25, ([])) ∷ (26, ([])) ∷ (27, ([])) ∷ (28, ([])) ∷ (29, ([])) ∷ (30, ([])) ∷ (31, ([])) ∷ (32, ([])) ∷ (33, ([])) ∷ (34, ([])) ∷ (35, ([])) ∷ (36, ([])) ∷ (37, ([])) ∷ (38, ([])) ∷ (39, ([])) ∷ (40, ([])) ∷ (41, ([])) ∷ (42, ([])) ∷ (43, ([])) ∷ (44, ([])) ∷ (45, ([])) ∷ []); plans = column 46 [] ((30, (put 29 0 1 30 ∷ [])) ∷ []); texts = column 46 [] ((0, ([])) ∷ (1, ([])) ∷ (2, ([])) ∷ (3, ([])) ∷ (4, ([])) ∷ (5, ([])) ∷ (6, ([])) ∷ (7, ([])) ∷ (8, ([])) ∷ (9, ([])) ∷ (10, ([])) ∷ (11, ([])) ∷ (12, ([])) ∷ (13, ([])) ∷ (14, ([])) ∷ (15, ([])) ∷ (16, ([])) ∷ (17, ([])) ∷ (18, ([])) ∷ (19, ([])) ∷ (20, ([])) ∷ (21, ([])) ∷ (22, ([])) ∷ (23, ([])) ∷ (24, ([])) ∷ (25, ([])) ∷ (26, ([])) ∷ (27, ([])) ∷ (28, ([])) ∷ (29, ([])) ∷ (30, ([])) ∷ (31, ([])) ∷ (32, ([])) ∷ (33, ([])) ∷ (34, ([])) ∷ (35, ([])) ∷ (36, ([])) ∷ (37, ([])) ∷ (38, ([])) ∷ (39, ([])) ∷ (40, ([])) ∷ (41, ([])) ∷ (42, ([])) ∷ (43, ([])) ∷ (44, ([])) ∷ (45, ([])) ∷ []); main = 45 })) (record { steps = 3000; depth = 256; cells = 1048576; output = 65536 })) ≡ fine 0 []
unfolding body played pieces_of types_of type_at
file_ok_u12_bodies = refl

-- int main(void) { char a[] = "abc", b[4] = "xyz"; a[0] = 'x'; b[3]++; return a[0] == 'x' ? 0 : 1; }
abbrev file_ok_u13_array_tokens : List Token
file_ok_u13_array_tokens = (token 0 3 ∷ token 4 8 ∷ token 8 9 ∷ token 9 13 ∷ token 13 14 ∷ token 15 16 ∷ token 19 23 ∷ token 24 25 ∷ token 25 26 ∷ token 26 27 ∷ token 28 29 ∷ token 30 35 ∷ token 35 36 ∷ token 37 38 ∷ token 38 39 ∷ token 39 40 ∷ token 40 41 ∷ token 42 43 ∷ token 44 49 ∷ token 49 50 ∷ token 53 54 ∷ token 54 55 ∷ token 55 56 ∷ token 56 57 ∷ token 58 59 ∷ token 60 63 ∷ token 63 64 ∷ token 67 68 ∷ token 68 69 ∷ token 69 70 ∷ token 70 71 ∷ token 71 73 ∷ token 73 74 ∷ token 77 83 ∷ token 84 85 ∷ token 85 86 ∷ token 86 87 ∷ token 87 88 ∷ token 89 91 ∷ token 92 95 ∷ token 96 97 ∷ token 98 99 ∷ token 100 101 ∷ token 102 103 ∷ token 103 104 ∷ token 105 106 ∷ [])

abbrev file_ok_u13_array_nodes : List Node
file_ok_u13_array_nodes = (node kind.Specifiers 0 0 ([]) ∷ node kind.NameDeclarator 1 1 ([]) ∷ node kind.FunctionDeclarator 1 4 (1 ∷ []) ∷ node kind.Specifiers 6 6 ([]) ∷ node kind.NameDeclarator 7 7 ([]) ∷ node kind.ArrayDeclarator 7 9 (4 ∷ []) ∷ node kind.Text 11 11 ([]) ∷ node kind.InitDeclarator 7 11 (5 ∷ 6 ∷ []) ∷ node kind.NameDeclarator 13 13 ([]) ∷ node kind.Integer 15 15 ([]) ∷ node kind.ArrayDeclarator 13 16 (8 ∷ 9 ∷ []) ∷ node kind.Text 18 18 ([]) ∷ node kind.InitDeclarator 13 18 (10 ∷ 11 ∷ []) ∷ node kind.Declaration 6 19 (3 ∷ 7 ∷ 12 ∷ []) ∷ node kind.Identifier 20 20 ([]) ∷ node kind.Integer 22 22 ([]) ∷ node kind.Subscript 20 23 (14 ∷ 15 ∷ []) ∷ node kind.Character 25 25 ([]) ∷ node kind.Assign 20 25 (16 ∷ 17 ∷ []) ∷ node kind.ExpressionStatement 20 26 (18 ∷ []) ∷ node kind.Identifier 27 27 ([]) ∷ node kind.Integer 29 29 ([]) ∷ node kind.Subscript 27 30 (20 ∷ 21 ∷ []) ∷ node kind.PostIncrement 27 31 (22 ∷ []) ∷ node kind.ExpressionStatement 27 32 (23 ∷ []) ∷ node kind.Identifier 34 34 ([]) ∷ node kind.Integer 36 36 ([]) ∷ node kind.Subscript 34 37 (25 ∷ 26 ∷ []) ∷ node kind.Character 39 39 ([]) ∷ node kind.Equal 34 39 (27 ∷ 28 ∷ []) ∷ node kind.Integer 41 41 ([]) ∷ node kind.Integer 43 43 ([]) ∷ node kind.Conditional 34 43 (29 ∷ 30 ∷ 31 ∷ []) ∷ node kind.Return 33 44 (32 ∷ []) ∷ node kind.Compound 5 45 (13 ∷ 19 ∷ 24 ∷ 33 ∷ []) ∷ node kind.FunctionDefinition 0 45 (0 ∷ 2 ∷ 34 ∷ []) ∷ [])

file_ok_u13_array :
    verdict (1 ∷ 1 ∷ 1 ∷ 3 ∷ 3 ∷ 3 ∷ 3 ∷ 3 ∷ 3 ∷ 3 ∷ 3 ∷ 3 ∷ 3 ∷ 3 ∷ 4 ∷ 4 ∷ 4 ∷ 4 ∷ 4 ∷ 4 ∷ 5 ∷ 5 ∷ 5 ∷ 5 ∷ 5 ∷ 6 ∷ 6 ∷ 6 ∷ 6 ∷ 6 ∷ 6 ∷ 6 ∷ 6 ∷ 6 ∷ 2 ∷ 1 ∷ []) (program_of (typed file_ok_u13_array_tokens file_ok_u13_array_nodes (record { file = (105 ∷ 110 ∷ 116 ∷ 32 ∷ 109 ∷ 97 ∷ 105 ∷ 110 ∷ 40 ∷ 118 ∷ 111 ∷ 105 ∷ 100 ∷ 41 ∷ 10 ∷ 123 ∷ 10 ∷ 32 ∷ 32 ∷ 99 ∷ 104 ∷ 97 ∷ 114 ∷ 32 ∷ 97 ∷ 91 ∷ 93 ∷ 32 ∷ 61 ∷ 32 ∷ 34 ∷ 97 ∷ 98 ∷ 99 ∷ 34 ∷ 44 ∷ 32 ∷ 98 ∷ 91 ∷ 52 ∷ 93 ∷ 32 ∷ 61 ∷ 32 ∷ 34 ∷ 120 ∷ 121 ∷ 122 ∷ 34 ∷ 59 ∷ 10 ∷ 32 ∷ 32 ∷ 97 ∷ 91 ∷ 48 ∷ 93 ∷ 32 ∷ 61 ∷ 32 ∷ 39 ∷ 120 ∷ 39 ∷ 59 ∷ 10 ∷ 32 ∷ 32 ∷ 98 ∷ 91 ∷ 51 ∷ 93 ∷ 43 ∷ 43 ∷ 59 ∷ 10 ∷ 32 ∷ 32 ∷ 114 ∷ 101 ∷ 116 ∷ 117 ∷ 114 ∷ 110 ∷ 32 ∷ 97 ∷ 91 ∷ 48 ∷ 93 ∷ 32 ∷ 61 ∷ 61 ∷ 32 ∷ 39 ∷ 120 ∷ 39 ∷ 32 ∷ 63 ∷ 32 ∷ 48 ∷ 32 ∷ 58 ∷ 32 ∷ 49 ∷ 59 ∷ 10 ∷ 125 ∷ 10 ∷ []); shapes = (shape Unknown false false ∷ shape (ctype.Int ints.Char) false false ∷ shape (Array 1 4) false false ∷ shape (ctype.Int ints.Int) false false ∷ shape (Function 35) false false ∷ []); types = column 36 0 ((6, 2) ∷ (9, 3) ∷ (11, 2) ∷ (14, 2) ∷ (15, 3) ∷ (16, 1) ∷ (17, 3) ∷ (18, 1) ∷ (20, 2) ∷ (21, 3) ∷ (22, 1) ∷ (23, 1) ∷ (25, 2) ∷ (26, 3) ∷ (27, 1) ∷ (28, 3) ∷ (29, 3) ∷ (30, 3) ∷ (31, 3) ∷ (32, 3) ∷ []); refs = column 36 None ((1, (Some (1))) ∷ (4, (Some (4))) ∷ (8, (Some (8))) ∷ (14, (Some (4))) ∷ (20, (Some (8))) ∷ (25, (Some (4))) ∷ []); valued = column 36 false ((14, true) ∷ (20, true) ∷ (25, true) ∷ (27, true) ∷ []); named = column 36 0 ((1, 4) ∷ (4, 2) ∷ (8, 2) ∷ (33, 3) ∷ []); durations = column 36 duration.NoObject ((4, duration.Automatic) ∷ (8, duration.Automatic) ∷ []); constants = column 36 None ((9, (Some (pos 4))) ∷ (15, (Some (pos 0))) ∷ (17, (Some (pos 120))) ∷ (21, (Some (pos 3))) ∷ (26, (Some (pos 0))) ∷ (28, (Some (pos 120))) ∷ (30, (Some (pos 0))) ∷ (31, (Some (pos 1))) ∷ []); layouts = column 36 NOTHING []; members = column 36 [] []; chosen = column 36 0 []; parameters = column 36 [] ((0, ([])) ∷ (1, ([])) ∷ (2, ([])) ∷ (3, ([])) ∷ (4, ([])) ∷ (5, ([])) ∷ (6, ([])) ∷ (7, ([])) ∷ (8, ([])) ∷ (9, ([])) ∷ (10, ([])) ∷ (11, ([])) ∷ (12, ([])) ∷ (13, ([])) ∷ (14, ([])) ∷ (15, ([])) ∷ (16, ([])) ∷ (17, ([])) ∷ (18, ([])) ∷ (19, ([])) ∷ (20, ([])) ∷ (21, ([])) ∷ (22, ([])) ∷ (23, ([])) ∷ (24, ([])) ∷ (25, ([])) ∷ (26, ([])) ∷ (27, ([])) ∷ (28, ([])) ∷ (29, ([])) ∷ (30, ([])) ∷ (31, ([])) ∷ (32, ([])) ∷ (33, ([])) ∷ (34, ([])) ∷ (35, ([])) ∷ []); plans = column 36 [] ((7, (put 6 0 2 7 ∷ [])) ∷ (12, (put 11 0 2 12 ∷ [])) ∷ []); texts = column 36 [] ((0, ([])) ∷ (1, ([])) ∷ (2, ([])) ∷ (3, ([])) ∷ (4, ([])) ∷ (5, ([])) ∷ (6, (97 ∷ 98 ∷ 99 ∷ 0 ∷ [])) ∷ (7, ([])) ∷ (8, ([])) ∷ (9, ([])) ∷ (10, ([])) ∷ (11, (120 ∷ 121 ∷ 122 ∷ 0 ∷ [])) ∷ (12, ([])) ∷ (13, ([])) ∷ (14, ([])) ∷ (15, ([])) ∷ (16, ([])) ∷ (17, ([])) ∷ (18, ([])) ∷ (19, ([])) ∷ (20, ([])) ∷ (21, ([])) ∷ (22, ([])) ∷ (23, ([])) ∷ (24, ([])) ∷ (25, ([])) ∷ (26, ([])) ∷ (27, ([])) ∷ (28, ([])) ∷ (29, ([])) ∷ (30, ([])) ∷ (31, ([])) ∷ (32, ([])) ∷ (33, ([])) ∷ (34, ([])) ∷ (35, ([])) ∷ []); main = 35 })) (record { steps = 3000; depth = 256; cells = 1048576; output = 65536 })) ≡ fine 0 []
unfolding body played pieces_of types_of type_at
file_ok_u13_array = refl

-- enum e { A = 2147483647 }; int main(void) { return A + 1 == 0; }
abbrev file_u1_enum_tokens : List Token
file_u1_enum_tokens = (token 0 4 ∷ token 5 6 ∷ token 7 8 ∷ token 9 10 ∷ token 11 12 ∷ token 13 23 ∷ token 24 25 ∷ token 25 26 ∷ token 27 30 ∷ token 31 35 ∷ token 35 36 ∷ token 36 40 ∷ token 40 41 ∷ token 42 43 ∷ token 44 50 ∷ token 51 52 ∷ token 53 54 ∷ token 55 56 ∷ token 57 59 ∷ token 60 61 ∷ token 61 62 ∷ token 63 64 ∷ [])

abbrev file_u1_enum_nodes : List Node
file_u1_enum_nodes = (node kind.Integer 5 5 ([]) ∷ node kind.Enumerator 3 5 (0 ∷ []) ∷ node kind.EnumContent 0 6 ([]) ∷ node kind.Specifiers 0 6 ([]) ∷ node kind.Declaration 0 7 (3 ∷ []) ∷ node kind.Specifiers 8 8 ([]) ∷ node kind.NameDeclarator 9 9 ([]) ∷ node kind.FunctionDeclarator 9 12 (6 ∷ []) ∷ node kind.Identifier 15 15 ([]) ∷ node kind.Integer 17 17 ([]) ∷ node kind.Add 15 17 (8 ∷ 9 ∷ []) ∷ node kind.Integer 19 19 ([]) ∷ node kind.Equal 15 19 (10 ∷ 11 ∷ []) ∷ node kind.Return 14 20 (12 ∷ []) ∷ node kind.Compound 13 21 (13 ∷ []) ∷ node kind.FunctionDefinition 8 21 (5 ∷ 7 ∷ 14 ∷ []) ∷ [])

file_u1_enum :
    verdict (1 ∷ 1 ∷ 1 ∷ 1 ∷ 1 ∷ 2 ∷ 2 ∷ 2 ∷ 4 ∷ 4 ∷ 4 ∷ 4 ∷ 4 ∷ 4 ∷ 3 ∷ 2 ∷ []) (program_of (typed file_u1_enum_tokens file_u1_enum_nodes (record { file = codes "enum e { A = 2147483647 }; int main(void) { return A + 1 == 0; }"; shapes = (shape Unknown false false ∷ shape (ctype.Int ints.Int) false false ∷ shape (Function 15) false false ∷ []); types = column 16 0 ((0, 1) ∷ (8, 1) ∷ (9, 1) ∷ (10, 1) ∷ (11, 1) ∷ (12, 1) ∷ []); refs = column 16 None ((6, (Some (6))) ∷ (8, (Some (1))) ∷ []); valued = column 16 false []; named = column 16 0 ((6, 2) ∷ (13, 1) ∷ []); durations = column 16 duration.NoObject []; constants = column 16 None ((0, (Some (pos 2147483647))) ∷ (8, (Some (pos 2147483647))) ∷ (9, (Some (pos 1))) ∷ (11, (Some (pos 0))) ∷ []); layouts = column 16 NOTHING []; members = column 16 [] []; chosen = column 16 0 []; parameters = column 16 [] ((0, ([])) ∷ (1, ([])) ∷ (2, ([])) ∷ (3, ([])) ∷ (4, ([])) ∷ (5, ([])) ∷ (6, ([])) ∷ (7, ([])) ∷ (8, ([])) ∷ (9, ([])) ∷ (10, ([])) ∷ (11, ([])) ∷ (12, ([])) ∷ (13, ([])) ∷ (14, ([])) ∷ (15, ([])) ∷ []); plans = column 16 [] []; texts = column 16 [] ((0, ([])) ∷ (1, ([])) ∷ (2, ([])) ∷ (3, ([])) ∷ (4, ([])) ∷ (5, ([])) ∷ (6, ([])) ∷ (7, ([])) ∷ (8, ([])) ∷ (9, ([])) ∷ (10, ([])) ∷ (11, ([])) ∷ (12, ([])) ∷ (13, ([])) ∷ (14, ([])) ∷ (15, ([])) ∷ []); main = 15 })) (record { steps = 3000; depth = 256; cells = 1048576; output = 65536 })) ≡ undefined 1 4
unfolding body played pieces_of types_of type_at
file_u1_enum = refl

-- int main(void) { int *p = 0; for (int i = 0; i < 3; i++) p = &i; *p = 5; return 0; }
abbrev file_u10_for_tokens : List Token
file_u10_for_tokens = (token 0 3 ∷ token 4 8 ∷ token 8 9 ∷ token 9 13 ∷ token 13 14 ∷ token 15 16 ∷ token 17 20 ∷ token 21 22 ∷ token 22 23 ∷ token 24 25 ∷ token 26 27 ∷ token 27 28 ∷ token 29 32 ∷ token 33 34 ∷ token 34 37 ∷ token 38 39 ∷ token 40 41 ∷ token 42 43 ∷ token 43 44 ∷ token 45 46 ∷ token 47 48 ∷ token 49 50 ∷ token 50 51 ∷ token 52 53 ∷ token 53 55 ∷ token 55 56 ∷ token 57 58 ∷ token 59 60 ∷ token 61 62 ∷ token 62 63 ∷ token 63 64 ∷ token 65 66 ∷ token 66 67 ∷ token 68 69 ∷ token 70 71 ∷ token 71 72 ∷ token 73 79 ∷ token 80 81 ∷ token 81 82 ∷ token 83 84 ∷ [])

abbrev file_u10_for_nodes : List Node
file_u10_for_nodes = (node kind.Specifiers 0 0 ([]) ∷ node kind.NameDeclarator 1 1 ([]) ∷ node kind.FunctionDeclarator 1 4 (1 ∷ []) ∷ node kind.Specifiers 6 6 ([]) ∷ node kind.NameDeclarator 8 8 ([]) ∷ node kind.PointerDeclarator 7 8 (4 ∷ []) ∷ node kind.Integer 10 10 ([]) ∷ node kind.InitDeclarator 7 10 (5 ∷ 6 ∷ []) ∷ node kind.Declaration 6 11 (3 ∷ 7 ∷ []) ∷ node kind.Specifiers 14 14 ([]) ∷ node kind.NameDeclarator 15 15 ([]) ∷ node kind.Integer 17 17 ([]) ∷ node kind.InitDeclarator 15 17 (10 ∷ 11 ∷ []) ∷ node kind.Declaration 14 18 (9 ∷ 12 ∷ []) ∷ node kind.Identifier 19 19 ([]) ∷ node kind.Integer 21 21 ([]) ∷ node kind.Less 19 21 (14 ∷ 15 ∷ []) ∷ node kind.Identifier 23 23 ([]) ∷ node kind.PostIncrement 23 24 (17 ∷ []) ∷ node kind.Identifier 26 26 ([]) ∷ node kind.Identifier 29 29 ([]) ∷ node kind.AddressOf 28 29 (20 ∷ []) ∷ node kind.Assign 26 29 (19 ∷ 21 ∷ []) ∷ node kind.ExpressionStatement 26 30 (22 ∷ []) ∷ node kind.For 12 30 (13 ∷ 16 ∷ 18 ∷ 23 ∷ []) ∷ node kind.Identifier 32 32 ([]) ∷ node kind.Dereference 31 32 (25 ∷ []) ∷ node kind.Integer 34 34 ([]) ∷ node kind.Assign 31 34 (26 ∷ 27 ∷ []) ∷ node kind.ExpressionStatement 31 35 (28 ∷ []) ∷ node kind.Integer 37 37 ([]) ∷ node kind.Return 36 38 (30 ∷ []) ∷ node kind.Compound 5 39 (8 ∷ 24 ∷ 29 ∷ 31 ∷ []) ∷ node kind.FunctionDefinition 0 39 (0 ∷ 2 ∷ 32 ∷ []) ∷ [])

file_u10_for :
    verdict (1 ∷ 1 ∷ 1 ∷ 3 ∷ 3 ∷ 3 ∷ 3 ∷ 3 ∷ 3 ∷ 4 ∷ 4 ∷ 4 ∷ 4 ∷ 4 ∷ 4 ∷ 4 ∷ 4 ∷ 4 ∷ 4 ∷ 5 ∷ 5 ∷ 5 ∷ 5 ∷ 5 ∷ 4 ∷ 6 ∷ 6 ∷ 6 ∷ 6 ∷ 6 ∷ 7 ∷ 7 ∷ 2 ∷ 1 ∷ []) (program_of (typed file_u10_for_tokens file_u10_for_nodes (record { file = codes "int main(void) { int *p = 0; for (int i = 0; i < 3; i++) p = &i; *p = 5; return 0; }"; shapes = (shape Unknown false false ∷ shape (ctype.Int ints.Int) false false ∷ shape (Pointer 1) false false ∷ shape (Function 33) false false ∷ []); types = column 34 0 ((6, 1) ∷ (11, 1) ∷ (14, 1) ∷ (15, 1) ∷ (16, 1) ∷ (17, 1) ∷ (18, 1) ∷ (19, 2) ∷ (20, 1) ∷ (21, 2) ∷ (22, 2) ∷ (25, 2) ∷ (26, 1) ∷ (27, 1) ∷ (28, 1) ∷ (30, 1) ∷ []); refs = column 34 None ((1, (Some (1))) ∷ (4, (Some (4))) ∷ (10, (Some (10))) ∷ (14, (Some (10))) ∷ (17, (Some (10))) ∷ (19, (Some (4))) ∷ (20, (Some (10))) ∷ (25, (Some (4))) ∷ []); valued = column 34 false ((14, true) ∷ (25, true) ∷ []); named = column 34 0 ((1, 3) ∷ (4, 2) ∷ (10, 1) ∷ (31, 1) ∷ []); durations = column 34 duration.NoObject ((4, duration.Automatic) ∷ (10, duration.Automatic) ∷ []); constants = column 34 None ((6, (Some (pos 0))) ∷ (11, (Some (pos 0))) ∷ (15, (Some (pos 3))) ∷ (27, (Some (pos 5))) ∷ (30, (Some (pos 0))) ∷ []); layouts = column 34 NOTHING []; members = column 34 [] []; chosen = column 34 0 []; parameters = column 34 [] ((0, ([])) ∷ (1, ([])) ∷ (2, ([])) ∷ (3, ([])) ∷ (4, ([])) ∷ (5, ([])) ∷ (6, ([])) ∷ (7, ([])) ∷ (8, ([])) ∷ (9, ([])) ∷ (10, ([])) ∷ (11, ([])) ∷ (12, ([])) ∷ (13, ([])) ∷ (14, ([])) ∷ (15, ([])) ∷ (16, ([])) ∷ (17, ([])) ∷ (18, ([])) ∷ (19, ([])) ∷ (20, ([])) ∷ (21, ([])) ∷ (22, ([])) ∷ (23, ([])) ∷ (24, ([])) ∷ (25, ([])) ∷ (26, ([])) ∷ (27, ([])) ∷ (28, ([])) ∷ (29, ([])) ∷ (30, ([])) ∷ (31, ([])) ∷ (32, ([])) ∷ (33, ([])) ∷ []); plans = column 34 [] ((7, (put 6 0 2 7 ∷ [])) ∷ (12, (put 11 0 1 12 ∷ [])) ∷ []); texts = column 34 [] ((0, ([])) ∷ (1, ([])) ∷ (2, ([])) ∷ (3, ([])) ∷ (4, ([])) ∷ (5, ([])) ∷ (6, ([])) ∷ (7, ([])) ∷ (8, ([])) ∷ (9, ([])) ∷ (10, ([])) ∷ (11, ([])) ∷ (12, ([])) ∷ (13, ([])) ∷ (14, ([])) ∷ (15, ([])) ∷ (16, ([])) ∷ (17, ([])) ∷ (18, ([])) ∷ (19, ([])) ∷ (20, ([])) ∷ (21, ([])) ∷ (22, ([])) ∷ (23, ([])) ∷ (24, ([])) ∷ (25, ([])) ∷ (26, ([])) ∷ (27, ([])) ∷ (28, ([])) ∷ (29, ([])) ∷ (30, ([])) ∷ (31, ([])) ∷ (32, ([])) ∷ (33, ([])) ∷ []); main = 33 })) (record { steps = 3000; depth = 256; cells = 1048576; output = 65536 })) ≡ undefined 10 6
unfolding body played pieces_of types_of type_at
file_u10_for = refl

-- int *f(void) { int x = 1; return &x; } int main(void) { return *f(); }
abbrev file_u10_return_tokens : List Token
file_u10_return_tokens = (token 0 3 ∷ token 4 5 ∷ token 5 6 ∷ token 6 7 ∷ token 7 11 ∷ token 11 12 ∷ token 13 14 ∷ token 15 18 ∷ token 19 20 ∷ token 21 22 ∷ token 23 24 ∷ token 24 25 ∷ token 26 32 ∷ token 33 34 ∷ token 34 35 ∷ token 35 36 ∷ token 37 38 ∷ token 39 42 ∷ token 43 47 ∷ token 47 48 ∷ token 48 52 ∷ token 52 53 ∷ token 54 55 ∷ token 56 62 ∷ token 63 64 ∷ token 64 65 ∷ token 65 66 ∷ token 66 67 ∷ token 67 68 ∷ token 69 70 ∷ [])

abbrev file_u10_return_nodes : List Node
file_u10_return_nodes = (node kind.Specifiers 0 0 ([]) ∷ node kind.NameDeclarator 2 2 ([]) ∷ node kind.FunctionDeclarator 2 5 (1 ∷ []) ∷ node kind.PointerDeclarator 1 5 (2 ∷ []) ∷ node kind.Specifiers 7 7 ([]) ∷ node kind.NameDeclarator 8 8 ([]) ∷ node kind.Integer 10 10 ([]) ∷ node kind.InitDeclarator 8 10 (5 ∷ 6 ∷ []) ∷ node kind.Declaration 7 11 (4 ∷ 7 ∷ []) ∷ node kind.Identifier 14 14 ([]) ∷ node kind.AddressOf 13 14 (9 ∷ []) ∷ node kind.Return 12 15 (10 ∷ []) ∷ node kind.Compound 6 16 (8 ∷ 11 ∷ []) ∷ node kind.FunctionDefinition 0 16 (0 ∷ 3 ∷ 12 ∷ []) ∷ node kind.Specifiers 17 17 ([]) ∷ node kind.NameDeclarator 18 18 ([]) ∷ node kind.FunctionDeclarator 18 21 (15 ∷ []) ∷ node kind.Call 25 27 ([]) ∷ node kind.Dereference 24 27 (17 ∷ []) ∷ node kind.Return 23 28 (18 ∷ []) ∷ node kind.Compound 22 29 (19 ∷ []) ∷ node kind.FunctionDefinition 17 29 (14 ∷ 16 ∷ 20 ∷ []) ∷ [])

file_u10_return :
    verdict (1 ∷ 1 ∷ 1 ∷ 1 ∷ 3 ∷ 3 ∷ 3 ∷ 3 ∷ 3 ∷ 4 ∷ 4 ∷ 4 ∷ 2 ∷ 1 ∷ 6 ∷ 6 ∷ 6 ∷ 8 ∷ 8 ∷ 8 ∷ 7 ∷ 6 ∷ []) (program_of (typed file_u10_return_tokens file_u10_return_nodes (record { file = codes "int *f(void) { int x = 1; return &x; } int main(void) { return *f(); }"; shapes = (shape Unknown false false ∷ shape (ctype.Int ints.Int) false false ∷ shape (Pointer 1) false false ∷ shape (Function 13) false false ∷ shape (Function 21) false false ∷ []); types = column 22 0 ((6, 1) ∷ (9, 1) ∷ (10, 2) ∷ (17, 2) ∷ (18, 1) ∷ []); refs = column 22 None ((1, (Some (1))) ∷ (5, (Some (5))) ∷ (9, (Some (5))) ∷ (15, (Some (15))) ∷ (17, (Some (1))) ∷ []); valued = column 22 false ((18, true) ∷ []); named = column 22 0 ((1, 3) ∷ (5, 1) ∷ (11, 2) ∷ (15, 4) ∷ (19, 1) ∷ []); durations = column 22 duration.NoObject ((5, duration.Automatic) ∷ []); constants = column 22 None ((6, (Some (pos 1))) ∷ []); layouts = column 22 NOTHING []; members = column 22 [] []; chosen = column 22 0 []; parameters = column 22 [] ((0, ([])) ∷ (1, ([])) ∷ (2, ([])) ∷ (3, ([])) ∷ (4, ([])) ∷ (5, ([])) ∷ (6, ([])) ∷ (7, ([])) ∷ (8, ([])) ∷ (9, ([])) ∷ (10, ([])) ∷ (11, ([])) ∷ (12, ([])) ∷ (13, ([])) ∷ (14, ([])) ∷ (15, ([])) ∷ (16, ([])) ∷ (17, ([])) ∷ (18, ([])) ∷ (19, ([])) ∷ (20, ([])) ∷ (21, ([])) ∷ []); plans = column 22 [] ((7, (put 6 0 1 7 ∷ [])) ∷ []); texts = column 22 [] ((0, ([])) ∷ (1, ([])) ∷ (2, ([])) ∷ (3, ([])) ∷ (4, ([])) ∷ (5, ([])) ∷ (6, ([])) ∷ (7, ([])) ∷ (8, ([])) ∷ (9, ([])) ∷ (10, ([])) ∷ (11, ([])) ∷ (12, ([])) ∷ (13, ([])) ∷ (14, ([])) ∷ (15, ([])) ∷ (16, ([])) ∷ (17, ([])) ∷ (18, ([])) ∷ (19, ([])) ∷ (20, ([])) ∷ (21, ([])) ∷ []); main = 21 })) (record { steps = 3000; depth = 256; cells = 1048576; output = 65536 })) ≡ undefined 10 8
unfolding body played pieces_of types_of type_at
file_u10_return = refl

-- int main(void) { int x; return x; }
abbrev file_u11_int_tokens : List Token
file_u11_int_tokens = (token 0 3 ∷ token 4 8 ∷ token 8 9 ∷ token 9 13 ∷ token 13 14 ∷ token 15 16 ∷ token 17 20 ∷ token 21 22 ∷ token 22 23 ∷ token 24 30 ∷ token 31 32 ∷ token 32 33 ∷ token 34 35 ∷ [])

abbrev file_u11_int_nodes : List Node
file_u11_int_nodes = (node kind.Specifiers 0 0 ([]) ∷ node kind.NameDeclarator 1 1 ([]) ∷ node kind.FunctionDeclarator 1 4 (1 ∷ []) ∷ node kind.Specifiers 6 6 ([]) ∷ node kind.NameDeclarator 7 7 ([]) ∷ node kind.Declaration 6 8 (3 ∷ 4 ∷ []) ∷ node kind.Identifier 10 10 ([]) ∷ node kind.Return 9 11 (6 ∷ []) ∷ node kind.Compound 5 12 (5 ∷ 7 ∷ []) ∷ node kind.FunctionDefinition 0 12 (0 ∷ 2 ∷ 8 ∷ []) ∷ [])

file_u11_int :
    verdict (1 ∷ 1 ∷ 1 ∷ 3 ∷ 3 ∷ 3 ∷ 4 ∷ 4 ∷ 2 ∷ 1 ∷ []) (program_of (typed file_u11_int_tokens file_u11_int_nodes (record { file = codes "int main(void) { int x; return x; }"; shapes = (shape Unknown false false ∷ shape (ctype.Int ints.Int) false false ∷ shape (Function 9) false false ∷ []); types = column 10 0 ((6, 1) ∷ []); refs = column 10 None ((1, (Some (1))) ∷ (4, (Some (4))) ∷ (6, (Some (4))) ∷ []); valued = column 10 false ((6, true) ∷ []); named = column 10 0 ((1, 2) ∷ (4, 1) ∷ (7, 1) ∷ []); durations = column 10 duration.NoObject ((4, duration.Automatic) ∷ []); constants = column 10 None []; layouts = column 10 NOTHING []; members = column 10 [] []; chosen = column 10 0 []; parameters = column 10 [] ((0, ([])) ∷ (1, ([])) ∷ (2, ([])) ∷ (3, ([])) ∷ (4, ([])) ∷ (5, ([])) ∷ (6, ([])) ∷ (7, ([])) ∷ (8, ([])) ∷ (9, ([])) ∷ []); plans = column 10 [] []; texts = column 10 [] ((0, ([])) ∷ (1, ([])) ∷ (2, ([])) ∷ (3, ([])) ∷ (4, ([])) ∷ (5, ([])) ∷ (6, ([])) ∷ (7, ([])) ∷ (8, ([])) ∷ (9, ([])) ∷ []); main = 9 })) (record { steps = 3000; depth = 256; cells = 1048576; output = 65536 })) ≡ undefined 11 4
unfolding body played pieces_of types_of type_at
file_u11_int = refl

-- int main(void) { int i = 1; return i++ + i++; }
abbrev file_u12_two_tokens : List Token
file_u12_two_tokens = (token 0 3 ∷ token 4 8 ∷ token 8 9 ∷ token 9 13 ∷ token 13 14 ∷ token 15 16 ∷ token 17 20 ∷ token 21 22 ∷ token 23 24 ∷ token 25 26 ∷ token 26 27 ∷ token 28 34 ∷ token 35 36 ∷ token 36 38 ∷ token 39 40 ∷ token 41 42 ∷ token 42 44 ∷ token 44 45 ∷ token 46 47 ∷ [])

abbrev file_u12_two_nodes : List Node
file_u12_two_nodes = (node kind.Specifiers 0 0 ([]) ∷ node kind.NameDeclarator 1 1 ([]) ∷ node kind.FunctionDeclarator 1 4 (1 ∷ []) ∷ node kind.Specifiers 6 6 ([]) ∷ node kind.NameDeclarator 7 7 ([]) ∷ node kind.Integer 9 9 ([]) ∷ node kind.InitDeclarator 7 9 (4 ∷ 5 ∷ []) ∷ node kind.Declaration 6 10 (3 ∷ 6 ∷ []) ∷ node kind.Identifier 12 12 ([]) ∷ node kind.PostIncrement 12 13 (8 ∷ []) ∷ node kind.Identifier 15 15 ([]) ∷ node kind.PostIncrement 15 16 (10 ∷ []) ∷ node kind.Add 12 16 (9 ∷ 11 ∷ []) ∷ node kind.Return 11 17 (12 ∷ []) ∷ node kind.Compound 5 18 (7 ∷ 13 ∷ []) ∷ node kind.FunctionDefinition 0 18 (0 ∷ 2 ∷ 14 ∷ []) ∷ [])

file_u12_two :
    verdict (1 ∷ 1 ∷ 1 ∷ 3 ∷ 3 ∷ 3 ∷ 3 ∷ 3 ∷ 4 ∷ 4 ∷ 4 ∷ 4 ∷ 4 ∷ 4 ∷ 2 ∷ 1 ∷ []) (program_of (typed file_u12_two_tokens file_u12_two_nodes (record { file = codes "int main(void) { int i = 1; return i++ + i++; }"; shapes = (shape Unknown false false ∷ shape (ctype.Int ints.Int) false false ∷ shape (Function 15) false false ∷ []); types = column 16 0 ((5, 1) ∷ (8, 1) ∷ (9, 1) ∷ (10, 1) ∷ (11, 1) ∷ (12, 1) ∷ []); refs = column 16 None ((1, (Some (1))) ∷ (4, (Some (4))) ∷ (8, (Some (4))) ∷ (10, (Some (4))) ∷ []); valued = column 16 false []; named = column 16 0 ((1, 2) ∷ (4, 1) ∷ (13, 1) ∷ []); durations = column 16 duration.NoObject ((4, duration.Automatic) ∷ []); constants = column 16 None ((5, (Some (pos 1))) ∷ []); layouts = column 16 NOTHING []; members = column 16 [] []; chosen = column 16 0 []; parameters = column 16 [] ((0, ([])) ∷ (1, ([])) ∷ (2, ([])) ∷ (3, ([])) ∷ (4, ([])) ∷ (5, ([])) ∷ (6, ([])) ∷ (7, ([])) ∷ (8, ([])) ∷ (9, ([])) ∷ (10, ([])) ∷ (11, ([])) ∷ (12, ([])) ∷ (13, ([])) ∷ (14, ([])) ∷ (15, ([])) ∷ []); plans = column 16 [] ((6, (put 5 0 1 6 ∷ [])) ∷ []); texts = column 16 [] ((0, ([])) ∷ (1, ([])) ∷ (2, ([])) ∷ (3, ([])) ∷ (4, ([])) ∷ (5, ([])) ∷ (6, ([])) ∷ (7, ([])) ∷ (8, ([])) ∷ (9, ([])) ∷ (10, ([])) ∷ (11, ([])) ∷ (12, ([])) ∷ (13, ([])) ∷ (14, ([])) ∷ (15, ([])) ∷ []); main = 15 })) (record { steps = 3000; depth = 256; cells = 1048576; output = 65536 })) ≡ undefined 12 4
unfolding body played pieces_of types_of type_at
file_u12_two = refl

-- int main(void) { "abc"[1] = 'x'; return 0; }
abbrev file_u13_direct_tokens : List Token
file_u13_direct_tokens = (token 0 3 ∷ token 4 8 ∷ token 8 9 ∷ token 9 13 ∷ token 13 14 ∷ token 15 16 ∷ token 19 24 ∷ token 24 25 ∷ token 25 26 ∷ token 26 27 ∷ token 28 29 ∷ token 30 33 ∷ token 33 34 ∷ token 37 43 ∷ token 44 45 ∷ token 45 46 ∷ token 47 48 ∷ [])

abbrev file_u13_direct_nodes : List Node
file_u13_direct_nodes = (node kind.Specifiers 0 0 ([]) ∷ node kind.NameDeclarator 1 1 ([]) ∷ node kind.FunctionDeclarator 1 4 (1 ∷ []) ∷ node kind.Text 6 6 ([]) ∷ node kind.Integer 8 8 ([]) ∷ node kind.Subscript 6 9 (3 ∷ 4 ∷ []) ∷ node kind.Character 11 11 ([]) ∷ node kind.Assign 6 11 (5 ∷ 6 ∷ []) ∷ node kind.ExpressionStatement 6 12 (7 ∷ []) ∷ node kind.Integer 14 14 ([]) ∷ node kind.Return 13 15 (9 ∷ []) ∷ node kind.Compound 5 16 (8 ∷ 10 ∷ []) ∷ node kind.FunctionDefinition 0 16 (0 ∷ 2 ∷ 11 ∷ []) ∷ [])

file_u13_direct :
    verdict (1 ∷ 1 ∷ 1 ∷ 3 ∷ 3 ∷ 3 ∷ 3 ∷ 3 ∷ 3 ∷ 4 ∷ 4 ∷ 2 ∷ 1 ∷ []) (program_of (typed file_u13_direct_tokens file_u13_direct_nodes (record { file = (105 ∷ 110 ∷ 116 ∷ 32 ∷ 109 ∷ 97 ∷ 105 ∷ 110 ∷ 40 ∷ 118 ∷ 111 ∷ 105 ∷ 100 ∷ 41 ∷ 10 ∷ 123 ∷ 10 ∷ 32 ∷ 32 ∷ 34 ∷ 97 ∷ 98 ∷ 99 ∷ 34 ∷ 91 ∷ 49 ∷ 93 ∷ 32 ∷ 61 ∷ 32 ∷ 39 ∷ 120 ∷ 39 ∷ 59 ∷ 10 ∷ 32 ∷ 32 ∷ 114 ∷ 101 ∷ 116 ∷ 117 ∷ 114 ∷ 110 ∷ 32 ∷ 48 ∷ 59 ∷ 10 ∷ 125 ∷ 10 ∷ []); shapes = (shape Unknown false false ∷ shape (ctype.Int ints.Char) false false ∷ shape (Array 1 4) false false ∷ shape (ctype.Int ints.Int) false false ∷ shape (Function 12) false false ∷ []); types = column 13 0 ((3, 2) ∷ (4, 3) ∷ (5, 1) ∷ (6, 3) ∷ (7, 1) ∷ (9, 3) ∷ []); refs = column 13 None ((1, (Some (1))) ∷ []); valued = column 13 false ((3, true) ∷ []); named = column 13 0 ((1, 4) ∷ (10, 3) ∷ []); durations = column 13 duration.NoObject []; constants = column 13 None ((4, (Some (pos 1))) ∷ (6, (Some (pos 120))) ∷ (9, (Some (pos 0))) ∷ []); layouts = column 13 NOTHING []; members = column 13 [] []; chosen = column 13 0 []; parameters = column 13 [] ((0, ([])) ∷ (1, ([])) ∷ (2, ([])) ∷ (3, ([])) ∷ (4, ([])) ∷ (5, ([])) ∷ (6, ([])) ∷ (7, ([])) ∷ (8, ([])) ∷ (9, ([])) ∷ (10, ([])) ∷ (11, ([])) ∷ (12, ([])) ∷ []); plans = column 13 [] []; texts = column 13 [] ((0, ([])) ∷ (1, ([])) ∷ (2, ([])) ∷ (3, (97 ∷ 98 ∷ 99 ∷ 0 ∷ [])) ∷ (4, ([])) ∷ (5, ([])) ∷ (6, ([])) ∷ (7, ([])) ∷ (8, ([])) ∷ (9, ([])) ∷ (10, ([])) ∷ (11, ([])) ∷ (12, ([])) ∷ []); main = 12 })) (record { steps = 3000; depth = 256; cells = 1048576; output = 65536 })) ≡ undefined 13 3
unfolding body played pieces_of types_of type_at
file_u13_direct = refl

-- int main(void) { const int x = 1; *(int *)&x = 2; return 0; }
abbrev file_u14_local_tokens : List Token
file_u14_local_tokens = (token 0 3 ∷ token 4 8 ∷ token 8 9 ∷ token 9 13 ∷ token 13 14 ∷ token 15 16 ∷ token 17 22 ∷ token 23 26 ∷ token 27 28 ∷ token 29 30 ∷ token 31 32 ∷ token 32 33 ∷ token 34 35 ∷ token 35 36 ∷ token 36 39 ∷ token 40 41 ∷ token 41 42 ∷ token 42 43 ∷ token 43 44 ∷ token 45 46 ∷ token 47 48 ∷ token 48 49 ∷ token 50 56 ∷ token 57 58 ∷ token 58 59 ∷ token 60 61 ∷ [])

abbrev file_u14_local_nodes : List Node
file_u14_local_nodes = (node kind.Specifiers 0 0 ([]) ∷ node kind.NameDeclarator 1 1 ([]) ∷ node kind.FunctionDeclarator 1 4 (1 ∷ []) ∷ node kind.Specifiers 6 7 ([]) ∷ node kind.NameDeclarator 8 8 ([]) ∷ node kind.Integer 10 10 ([]) ∷ node kind.InitDeclarator 8 10 (4 ∷ 5 ∷ []) ∷ node kind.Declaration 6 11 (3 ∷ 6 ∷ []) ∷ node kind.Specifiers 14 14 ([]) ∷ node kind.TypeName 14 15 (8 ∷ []) ∷ node kind.Identifier 18 18 ([]) ∷ node kind.AddressOf 17 18 (10 ∷ []) ∷ node kind.Cast 13 18 (9 ∷ 11 ∷ []) ∷ node kind.Dereference 12 18 (12 ∷ []) ∷ node kind.Integer 20 20 ([]) ∷ node kind.Assign 12 20 (13 ∷ 14 ∷ []) ∷ node kind.ExpressionStatement 12 21 (15 ∷ []) ∷ node kind.Integer 23 23 ([]) ∷ node kind.Return 22 24 (17 ∷ []) ∷ node kind.Compound 5 25 (7 ∷ 16 ∷ 18 ∷ []) ∷ node kind.FunctionDefinition 0 25 (0 ∷ 2 ∷ 19 ∷ []) ∷ [])

file_u14_local :
    verdict (1 ∷ 1 ∷ 1 ∷ 3 ∷ 3 ∷ 3 ∷ 3 ∷ 3 ∷ 4 ∷ 4 ∷ 4 ∷ 4 ∷ 4 ∷ 4 ∷ 4 ∷ 4 ∷ 4 ∷ 5 ∷ 5 ∷ 2 ∷ 1 ∷ []) (program_of (typed file_u14_local_tokens file_u14_local_nodes (record { file = codes "int main(void) { const int x = 1; *(int *)&x = 2; return 0; }"; shapes = (shape Unknown false false ∷ shape (ctype.Int ints.Int) false false ∷ shape (ctype.Int ints.Int) true false ∷ shape (Pointer 2) false false ∷ shape (Pointer 1) false false ∷ shape (Function 20) false false ∷ []); types = column 21 0 ((5, 1) ∷ (10, 2) ∷ (11, 3) ∷ (12, 4) ∷ (13, 1) ∷ (14, 1) ∷ (15, 1) ∷ (17, 1) ∷ []); refs = column 21 None ((1, (Some (1))) ∷ (4, (Some (4))) ∷ (10, (Some (4))) ∷ []); valued = column 21 false []; named = column 21 0 ((1, 5) ∷ (4, 2) ∷ (12, 4) ∷ (18, 1) ∷ []); durations = column 21 duration.NoObject ((4, duration.Automatic) ∷ []); constants = column 21 None ((5, (Some (pos 1))) ∷ (14, (Some (pos 2))) ∷ (17, (Some (pos 0))) ∷ []); layouts = column 21 NOTHING []; members = column 21 [] []; chosen = column 21 0 []; parameters = column 21 [] ((0, ([])) ∷ (1, ([])) ∷ (2, ([])) ∷ (3, ([])) ∷ (4, ([])) ∷ (5, ([])) ∷ (6, ([])) ∷ (7, ([])) ∷ (8, ([])) ∷ (9, ([])) ∷ (10, ([])) ∷ (11, ([])) ∷ (12, ([])) ∷ (13, ([])) ∷ (14, ([])) ∷ (15, ([])) ∷ (16, ([])) ∷ (17, ([])) ∷ (18, ([])) ∷ (19, ([])) ∷ (20, ([])) ∷ []); plans = column 21 [] ((6, (put 5 0 2 6 ∷ [])) ∷ []); texts = column 21 [] ((0, ([])) ∷ (1, ([])) ∷ (2, ([])) ∷ (3, ([])) ∷ (4, ([])) ∷ (5, ([])) ∷ (6, ([])) ∷ (7, ([])) ∷ (8, ([])) ∷ (9, ([])) ∷ (10, ([])) ∷ (11, ([])) ∷ (12, ([])) ∷ (13, ([])) ∷ (14, ([])) ∷ (15, ([])) ∷ (16, ([])) ∷ (17, ([])) ∷ (18, ([])) ∷ (19, ([])) ∷ (20, ([])) ∷ []); main = 20 })) (record { steps = 3000; depth = 256; cells = 1048576; output = 65536 })) ≡ undefined 14 4
unfolding body played pieces_of types_of type_at
file_u14_local = refl

-- int f(void) { } int main(void) { if (f()) return 1; return 0; }
abbrev file_u15_condition_tokens : List Token
file_u15_condition_tokens = (token 0 3 ∷ token 4 5 ∷ token 5 6 ∷ token 6 10 ∷ token 10 11 ∷ token 12 13 ∷ token 14 15 ∷ token 16 19 ∷ token 20 24 ∷ token 24 25 ∷ token 25 29 ∷ token 29 30 ∷ token 31 32 ∷ token 33 35 ∷ token 36 37 ∷ token 37 38 ∷ token 38 39 ∷ token 39 40 ∷ token 40 41 ∷ token 42 48 ∷ token 49 50 ∷ token 50 51 ∷ token 52 58 ∷ token 59 60 ∷ token 60 61 ∷ token 62 63 ∷ [])

abbrev file_u15_condition_nodes : List Node
file_u15_condition_nodes = (node kind.Specifiers 0 0 ([]) ∷ node kind.NameDeclarator 1 1 ([]) ∷ node kind.FunctionDeclarator 1 4 (1 ∷ []) ∷ node kind.Compound 5 6 ([]) ∷ node kind.FunctionDefinition 0 6 (0 ∷ 2 ∷ 3 ∷ []) ∷ node kind.Specifiers 7 7 ([]) ∷ node kind.NameDeclarator 8 8 ([]) ∷ node kind.FunctionDeclarator 8 11 (6 ∷ []) ∷ node kind.Call 15 17 ([]) ∷ node kind.Integer 20 20 ([]) ∷ node kind.Return 19 21 (9 ∷ []) ∷ node kind.If 13 21 (8 ∷ 10 ∷ []) ∷ node kind.Integer 23 23 ([]) ∷ node kind.Return 22 24 (12 ∷ []) ∷ node kind.Compound 12 25 (11 ∷ 13 ∷ []) ∷ node kind.FunctionDefinition 7 25 (5 ∷ 7 ∷ 14 ∷ []) ∷ [])

file_u15_condition :
    verdict (1 ∷ 1 ∷ 1 ∷ 2 ∷ 1 ∷ 4 ∷ 4 ∷ 4 ∷ 6 ∷ 7 ∷ 7 ∷ 6 ∷ 8 ∷ 8 ∷ 5 ∷ 4 ∷ []) (program_of (typed file_u15_condition_tokens file_u15_condition_nodes (record { file = codes "int f(void) { } int main(void) { if (f()) return 1; return 0; }"; shapes = (shape Unknown false false ∷ shape (ctype.Int ints.Int) false false ∷ shape (Function 4) false false ∷ shape (Function 15) false false ∷ []); types = column 16 0 ((8, 1) ∷ (9, 1) ∷ (12, 1) ∷ []); refs = column 16 None ((1, (Some (1))) ∷ (6, (Some (6))) ∷ (8, (Some (1))) ∷ []); valued = column 16 false []; named = column 16 0 ((1, 2) ∷ (6, 3) ∷ (10, 1) ∷ (13, 1) ∷ []); durations = column 16 duration.NoObject []; constants = column 16 None ((9, (Some (pos 1))) ∷ (12, (Some (pos 0))) ∷ []); layouts = column 16 NOTHING []; members = column 16 [] []; chosen = column 16 0 []; parameters = column 16 [] ((0, ([])) ∷ (1, ([])) ∷ (2, ([])) ∷ (3, ([])) ∷ (4, ([])) ∷ (5, ([])) ∷ (6, ([])) ∷ (7, ([])) ∷ (8, ([])) ∷ (9, ([])) ∷ (10, ([])) ∷ (11, ([])) ∷ (12, ([])) ∷ (13, ([])) ∷ (14, ([])) ∷ (15, ([])) ∷ []); plans = column 16 [] []; texts = column 16 [] ((0, ([])) ∷ (1, ([])) ∷ (2, ([])) ∷ (3, ([])) ∷ (4, ([])) ∷ (5, ([])) ∷ (6, ([])) ∷ (7, ([])) ∷ (8, ([])) ∷ (9, ([])) ∷ (10, ([])) ∷ (11, ([])) ∷ (12, ([])) ∷ (13, ([])) ∷ (14, ([])) ∷ (15, ([])) ∷ []); main = 15 })) (record { steps = 3000; depth = 256; cells = 1048576; output = 65536 })) ≡ undefined 15 6
unfolding body played pieces_of types_of type_at
file_u15_condition = refl

-- int printf(const char *, ...); int main(void) { printf("%ld\n", 1); return 0; }
abbrev file_u16_int_tokens : List Token
file_u16_int_tokens = (token 0 3 ∷ token 4 10 ∷ token 10 11 ∷ token 11 16 ∷ token 17 21 ∷ token 22 23 ∷ token 23 24 ∷ token 25 28 ∷ token 28 29 ∷ token 29 30 ∷ token 31 34 ∷ token 35 39 ∷ token 39 40 ∷ token 40 44 ∷ token 44 45 ∷ token 46 47 ∷ token 50 56 ∷ token 56 57 ∷ token 57 64 ∷ token 64 65 ∷ token 66 67 ∷ token 67 68 ∷ token 68 69 ∷ token 72 78 ∷ token 79 80 ∷ token 80 81 ∷ token 82 83 ∷ [])

abbrev file_u16_int_nodes : List Node
file_u16_int_nodes = (node kind.Specifiers 0 0 ([]) ∷ node kind.NameDeclarator 1 1 ([]) ∷ node kind.Specifiers 3 4 ([]) ∷ node kind.FunctionDeclarator 1 8 (1 ∷ []) ∷ node kind.Declaration 0 9 (0 ∷ 3 ∷ []) ∷ node kind.Specifiers 10 10 ([]) ∷ node kind.NameDeclarator 11 11 ([]) ∷ node kind.FunctionDeclarator 11 14 (6 ∷ []) ∷ node kind.Text 18 18 ([]) ∷ node kind.Integer 20 20 ([]) ∷ node kind.Call 16 21 (8 ∷ 9 ∷ []) ∷ node kind.ExpressionStatement 16 22 (10 ∷ []) ∷ node kind.Integer 24 24 ([]) ∷ node kind.Return 23 25 (12 ∷ []) ∷ node kind.Compound 15 26 (11 ∷ 13 ∷ []) ∷ node kind.FunctionDefinition 10 26 (5 ∷ 7 ∷ 14 ∷ []) ∷ [])

file_u16_int :
    verdict (1 ∷ 1 ∷ 1 ∷ 1 ∷ 1 ∷ 2 ∷ 2 ∷ 2 ∷ 4 ∷ 4 ∷ 4 ∷ 4 ∷ 5 ∷ 5 ∷ 3 ∷ 2 ∷ []) (program_of (typed file_u16_int_tokens file_u16_int_nodes (record { file = (105 ∷ 110 ∷ 116 ∷ 32 ∷ 112 ∷ 114 ∷ 105 ∷ 110 ∷ 116 ∷ 102 ∷ 40 ∷ 99 ∷ 111 ∷ 110 ∷ 115 ∷ 116 ∷ 32 ∷ 99 ∷ 104 ∷ 97 ∷ 114 ∷ 32 ∷ 42 ∷ 44 ∷ 32 ∷ 46 ∷ 46 ∷ 46 ∷ 41 ∷ 59 ∷ 10 ∷ 105 ∷ 110 ∷ 116 ∷ 32 ∷ 109 ∷ 97 ∷ 105 ∷ 110 ∷ 40 ∷ 118 ∷ 111 ∷ 105 ∷ 100 ∷ 41 ∷ 10 ∷ 123 ∷ 10 ∷ 32 ∷ 32 ∷ 112 ∷ 114 ∷ 105 ∷ 110 ∷ 116 ∷ 102 ∷ 40 ∷ 34 ∷ 37 ∷ 108 ∷ 100 ∷ 92 ∷ 110 ∷ 34 ∷ 44 ∷ 32 ∷ 49 ∷ 41 ∷ 59 ∷ 10 ∷ 32 ∷ 32 ∷ 114 ∷ 101 ∷ 116 ∷ 117 ∷ 114 ∷ 110 ∷ 32 ∷ 48 ∷ 59 ∷ 10 ∷ 125 ∷ 10 ∷ []); shapes = (shape Unknown false false ∷ shape (ctype.Int ints.Char) false false ∷ shape (Array 1 5) false false ∷ shape (ctype.Int ints.Int) false false ∷ shape (Function 1) false false ∷ shape (Function 15) false false ∷ []); types = column 16 0 ((8, 2) ∷ (9, 3) ∷ (10, 3) ∷ (12, 3) ∷ []); refs = column 16 None ((1, (Some (1))) ∷ (6, (Some (6))) ∷ (10, (Some (1))) ∷ []); valued = column 16 false ((8, true) ∷ []); named = column 16 0 ((1, 4) ∷ (6, 5) ∷ (13, 3) ∷ []); durations = column 16 duration.NoObject []; constants = column 16 None ((9, (Some (pos 1))) ∷ (12, (Some (pos 0))) ∷ []); layouts = column 16 NOTHING []; members = column 16 [] []; chosen = column 16 0 []; parameters = column 16 [] ((0, ([])) ∷ (1, ([])) ∷ (2, ([])) ∷ (3, ([])) ∷ (4, ([])) ∷ (5, ([])) ∷ (6, ([])) ∷ (7, ([])) ∷ (8, ([])) ∷ (9, ([])) ∷ (10, ([])) ∷ (11, ([])) ∷ (12, ([])) ∷ (13, ([])) ∷ (14, ([])) ∷ (15, ([])) ∷ []); plans = column 16 [] []; texts = column 16 [] ((0, ([])) ∷ (1, ([])) ∷ (2, ([])) ∷ (3, ([])) ∷ (4, ([])) ∷ (5, ([])) ∷ (6, ([])) ∷ (7, ([])) ∷ (8, (37 ∷ 108 ∷ 100 ∷ 10 ∷ 0 ∷ [])) ∷ (9, ([])) ∷ (10, ([])) ∷ (11, ([])) ∷ (12, ([])) ∷ (13, ([])) ∷ (14, ([])) ∷ (15, ([])) ∷ []); main = 15 })) (record { steps = 3000; depth = 256; cells = 1048576; output = 65536 })) ≡ undefined 16 4
unfolding body played pieces_of types_of type_at
file_u16_int = refl

-- int main(void) { 1 / 0; return 0; }
abbrev file_u2_literal_tokens : List Token
file_u2_literal_tokens = (token 0 3 ∷ token 4 8 ∷ token 8 9 ∷ token 9 13 ∷ token 13 14 ∷ token 15 16 ∷ token 17 18 ∷ token 19 20 ∷ token 21 22 ∷ token 22 23 ∷ token 24 30 ∷ token 31 32 ∷ token 32 33 ∷ token 34 35 ∷ [])

abbrev file_u2_literal_nodes : List Node
file_u2_literal_nodes = (node kind.Specifiers 0 0 ([]) ∷ node kind.NameDeclarator 1 1 ([]) ∷ node kind.FunctionDeclarator 1 4 (1 ∷ []) ∷ node kind.Integer 6 6 ([]) ∷ node kind.Integer 8 8 ([]) ∷ node kind.Divide 6 8 (3 ∷ 4 ∷ []) ∷ node kind.ExpressionStatement 6 9 (5 ∷ []) ∷ node kind.Integer 11 11 ([]) ∷ node kind.Return 10 12 (7 ∷ []) ∷ node kind.Compound 5 13 (6 ∷ 8 ∷ []) ∷ node kind.FunctionDefinition 0 13 (0 ∷ 2 ∷ 9 ∷ []) ∷ [])

file_u2_literal :
    verdict (1 ∷ 1 ∷ 1 ∷ 3 ∷ 3 ∷ 3 ∷ 3 ∷ 4 ∷ 4 ∷ 2 ∷ 1 ∷ []) (program_of (typed file_u2_literal_tokens file_u2_literal_nodes (record { file = codes "int main(void) { 1 / 0; return 0; }"; shapes = (shape Unknown false false ∷ shape (ctype.Int ints.Int) false false ∷ shape (Function 10) false false ∷ []); types = column 11 0 ((3, 1) ∷ (4, 1) ∷ (5, 1) ∷ (7, 1) ∷ []); refs = column 11 None ((1, (Some (1))) ∷ []); valued = column 11 false []; named = column 11 0 ((1, 2) ∷ (8, 1) ∷ []); durations = column 11 duration.NoObject []; constants = column 11 None ((3, (Some (pos 1))) ∷ (4, (Some (pos 0))) ∷ (7, (Some (pos 0))) ∷ []); layouts = column 11 NOTHING []; members = column 11 [] []; chosen = column 11 0 []; parameters = column 11 [] ((0, ([])) ∷ (1, ([])) ∷ (2, ([])) ∷ (3, ([])) ∷ (4, ([])) ∷ (5, ([])) ∷ (6, ([])) ∷ (7, ([])) ∷ (8, ([])) ∷ (9, ([])) ∷ (10, ([])) ∷ []); plans = column 11 [] []; texts = column 11 [] ((0, ([])) ∷ (1, ([])) ∷ (2, ([])) ∷ (3, ([])) ∷ (4, ([])) ∷ (5, ([])) ∷ (6, ([])) ∷ (7, ([])) ∷ (8, ([])) ∷ (9, ([])) ∷ (10, ([])) ∷ []); main = 10 })) (record { steps = 3000; depth = 256; cells = 1048576; output = 65536 })) ≡ undefined 2 3
unfolding body played pieces_of types_of type_at
file_u2_literal = refl

-- int main(void) { (-2147483647 - 1) / -1; return 0; }
abbrev file_u3_literal_tokens : List Token
file_u3_literal_tokens = (token 0 3 ∷ token 4 8 ∷ token 8 9 ∷ token 9 13 ∷ token 13 14 ∷ token 15 16 ∷ token 17 18 ∷ token 18 19 ∷ token 19 29 ∷ token 30 31 ∷ token 32 33 ∷ token 33 34 ∷ token 35 36 ∷ token 37 38 ∷ token 38 39 ∷ token 39 40 ∷ token 41 47 ∷ token 48 49 ∷ token 49 50 ∷ token 51 52 ∷ [])

abbrev file_u3_literal_nodes : List Node
file_u3_literal_nodes = (node kind.Specifiers 0 0 ([]) ∷ node kind.NameDeclarator 1 1 ([]) ∷ node kind.FunctionDeclarator 1 4 (1 ∷ []) ∷ node kind.Integer 8 8 ([]) ∷ node kind.Minus 7 8 (3 ∷ []) ∷ node kind.Integer 10 10 ([]) ∷ node kind.Subtract 7 10 (4 ∷ 5 ∷ []) ∷ node kind.Group 6 11 (6 ∷ []) ∷ node kind.Integer 14 14 ([]) ∷ node kind.Minus 13 14 (8 ∷ []) ∷ node kind.Divide 6 14 (7 ∷ 9 ∷ []) ∷ node kind.ExpressionStatement 6 15 (10 ∷ []) ∷ node kind.Integer 17 17 ([]) ∷ node kind.Return 16 18 (12 ∷ []) ∷ node kind.Compound 5 19 (11 ∷ 13 ∷ []) ∷ node kind.FunctionDefinition 0 19 (0 ∷ 2 ∷ 14 ∷ []) ∷ [])

file_u3_literal :
    verdict (1 ∷ 1 ∷ 1 ∷ 3 ∷ 3 ∷ 3 ∷ 3 ∷ 3 ∷ 3 ∷ 3 ∷ 3 ∷ 3 ∷ 4 ∷ 4 ∷ 2 ∷ 1 ∷ []) (program_of (typed file_u3_literal_tokens file_u3_literal_nodes (record { file = codes "int main(void) { (-2147483647 - 1) / -1; return 0; }"; shapes = (shape Unknown false false ∷ shape (ctype.Int ints.Int) false false ∷ shape (Function 15) false false ∷ []); types = column 16 0 ((3, 1) ∷ (4, 1) ∷ (5, 1) ∷ (6, 1) ∷ (7, 1) ∷ (8, 1) ∷ (9, 1) ∷ (10, 1) ∷ (12, 1) ∷ []); refs = column 16 None ((1, (Some (1))) ∷ []); valued = column 16 false []; named = column 16 0 ((1, 2) ∷ (13, 1) ∷ []); durations = column 16 duration.NoObject []; constants = column 16 None ((3, (Some (pos 2147483647))) ∷ (5, (Some (pos 1))) ∷ (8, (Some (pos 1))) ∷ (12, (Some (pos 0))) ∷ []); layouts = column 16 NOTHING []; members = column 16 [] []; chosen = column 16 0 []; parameters = column 16 [] ((0, ([])) ∷ (1, ([])) ∷ (2, ([])) ∷ (3, ([])) ∷ (4, ([])) ∷ (5, ([])) ∷ (6, ([])) ∷ (7, ([])) ∷ (8, ([])) ∷ (9, ([])) ∷ (10, ([])) ∷ (11, ([])) ∷ (12, ([])) ∷ (13, ([])) ∷ (14, ([])) ∷ (15, ([])) ∷ []); plans = column 16 [] []; texts = column 16 [] ((0, ([])) ∷ (1, ([])) ∷ (2, ([])) ∷ (3, ([])) ∷ (4, ([])) ∷ (5, ([])) ∷ (6, ([])) ∷ (7, ([])) ∷ (8, ([])) ∷ (9, ([])) ∷ (10, ([])) ∷ (11, ([])) ∷ (12, ([])) ∷ (13, ([])) ∷ (14, ([])) ∷ (15, ([])) ∷ []); main = 15 })) (record { steps = 3000; depth = 256; cells = 1048576; output = 65536 })) ≡ undefined 3 3
unfolding body played pieces_of types_of type_at
file_u3_literal = refl

-- int main(void) { int n = 32; return 0 << n; }
abbrev file_u4_zero_tokens : List Token
file_u4_zero_tokens = (token 0 3 ∷ token 4 8 ∷ token 8 9 ∷ token 9 13 ∷ token 13 14 ∷ token 15 16 ∷ token 17 20 ∷ token 21 22 ∷ token 23 24 ∷ token 25 27 ∷ token 27 28 ∷ token 29 35 ∷ token 36 37 ∷ token 38 40 ∷ token 41 42 ∷ token 42 43 ∷ token 44 45 ∷ [])

abbrev file_u4_zero_nodes : List Node
file_u4_zero_nodes = (node kind.Specifiers 0 0 ([]) ∷ node kind.NameDeclarator 1 1 ([]) ∷ node kind.FunctionDeclarator 1 4 (1 ∷ []) ∷ node kind.Specifiers 6 6 ([]) ∷ node kind.NameDeclarator 7 7 ([]) ∷ node kind.Integer 9 9 ([]) ∷ node kind.InitDeclarator 7 9 (4 ∷ 5 ∷ []) ∷ node kind.Declaration 6 10 (3 ∷ 6 ∷ []) ∷ node kind.Integer 12 12 ([]) ∷ node kind.Identifier 14 14 ([]) ∷ node kind.ShiftLeft 12 14 (8 ∷ 9 ∷ []) ∷ node kind.Return 11 15 (10 ∷ []) ∷ node kind.Compound 5 16 (7 ∷ 11 ∷ []) ∷ node kind.FunctionDefinition 0 16 (0 ∷ 2 ∷ 12 ∷ []) ∷ [])

file_u4_zero :
    verdict (1 ∷ 1 ∷ 1 ∷ 3 ∷ 3 ∷ 3 ∷ 3 ∷ 3 ∷ 4 ∷ 4 ∷ 4 ∷ 4 ∷ 2 ∷ 1 ∷ []) (program_of (typed file_u4_zero_tokens file_u4_zero_nodes (record { file = codes "int main(void) { int n = 32; return 0 << n; }"; shapes = (shape Unknown false false ∷ shape (ctype.Int ints.Int) false false ∷ shape (Function 13) false false ∷ []); types = column 14 0 ((5, 1) ∷ (8, 1) ∷ (9, 1) ∷ (10, 1) ∷ []); refs = column 14 None ((1, (Some (1))) ∷ (4, (Some (4))) ∷ (9, (Some (4))) ∷ []); valued = column 14 false ((9, true) ∷ []); named = column 14 0 ((1, 2) ∷ (4, 1) ∷ (11, 1) ∷ []); durations = column 14 duration.NoObject ((4, duration.Automatic) ∷ []); constants = column 14 None ((5, (Some (pos 32))) ∷ (8, (Some (pos 0))) ∷ []); layouts = column 14 NOTHING []; members = column 14 [] []; chosen = column 14 0 []; parameters = column 14 [] ((0, ([])) ∷ (1, ([])) ∷ (2, ([])) ∷ (3, ([])) ∷ (4, ([])) ∷ (5, ([])) ∷ (6, ([])) ∷ (7, ([])) ∷ (8, ([])) ∷ (9, ([])) ∷ (10, ([])) ∷ (11, ([])) ∷ (12, ([])) ∷ (13, ([])) ∷ []); plans = column 14 [] ((6, (put 5 0 1 6 ∷ [])) ∷ []); texts = column 14 [] ((0, ([])) ∷ (1, ([])) ∷ (2, ([])) ∷ (3, ([])) ∷ (4, ([])) ∷ (5, ([])) ∷ (6, ([])) ∷ (7, ([])) ∷ (8, ([])) ∷ (9, ([])) ∷ (10, ([])) ∷ (11, ([])) ∷ (12, ([])) ∷ (13, ([])) ∷ []); main = 13 })) (record { steps = 3000; depth = 256; cells = 1048576; output = 65536 })) ≡ undefined 4 4
unfolding body played pieces_of types_of type_at
file_u4_zero = refl

-- int main(void) { int x = -1; return x << 1; }
abbrev file_u5_negative_tokens : List Token
file_u5_negative_tokens = (token 0 3 ∷ token 4 8 ∷ token 8 9 ∷ token 9 13 ∷ token 13 14 ∷ token 15 16 ∷ token 17 20 ∷ token 21 22 ∷ token 23 24 ∷ token 25 26 ∷ token 26 27 ∷ token 27 28 ∷ token 29 35 ∷ token 36 37 ∷ token 38 40 ∷ token 41 42 ∷ token 42 43 ∷ token 44 45 ∷ [])

abbrev file_u5_negative_nodes : List Node
file_u5_negative_nodes = (node kind.Specifiers 0 0 ([]) ∷ node kind.NameDeclarator 1 1 ([]) ∷ node kind.FunctionDeclarator 1 4 (1 ∷ []) ∷ node kind.Specifiers 6 6 ([]) ∷ node kind.NameDeclarator 7 7 ([]) ∷ node kind.Integer 10 10 ([]) ∷ node kind.Minus 9 10 (5 ∷ []) ∷ node kind.InitDeclarator 7 10 (4 ∷ 6 ∷ []) ∷ node kind.Declaration 6 11 (3 ∷ 7 ∷ []) ∷ node kind.Identifier 13 13 ([]) ∷ node kind.Integer 15 15 ([]) ∷ node kind.ShiftLeft 13 15 (9 ∷ 10 ∷ []) ∷ node kind.Return 12 16 (11 ∷ []) ∷ node kind.Compound 5 17 (8 ∷ 12 ∷ []) ∷ node kind.FunctionDefinition 0 17 (0 ∷ 2 ∷ 13 ∷ []) ∷ [])

file_u5_negative :
    verdict (1 ∷ 1 ∷ 1 ∷ 3 ∷ 3 ∷ 3 ∷ 3 ∷ 3 ∷ 3 ∷ 4 ∷ 4 ∷ 4 ∷ 4 ∷ 2 ∷ 1 ∷ []) (program_of (typed file_u5_negative_tokens file_u5_negative_nodes (record { file = codes "int main(void) { int x = -1; return x << 1; }"; shapes = (shape Unknown false false ∷ shape (ctype.Int ints.Int) false false ∷ shape (Function 14) false false ∷ []); types = column 15 0 ((5, 1) ∷ (6, 1) ∷ (9, 1) ∷ (10, 1) ∷ (11, 1) ∷ []); refs = column 15 None ((1, (Some (1))) ∷ (4, (Some (4))) ∷ (9, (Some (4))) ∷ []); valued = column 15 false ((9, true) ∷ []); named = column 15 0 ((1, 2) ∷ (4, 1) ∷ (12, 1) ∷ []); durations = column 15 duration.NoObject ((4, duration.Automatic) ∷ []); constants = column 15 None ((5, (Some (pos 1))) ∷ (10, (Some (pos 1))) ∷ []); layouts = column 15 NOTHING []; members = column 15 [] []; chosen = column 15 0 []; parameters = column 15 [] ((0, ([])) ∷ (1, ([])) ∷ (2, ([])) ∷ (3, ([])) ∷ (4, ([])) ∷ (5, ([])) ∷ (6, ([])) ∷ (7, ([])) ∷ (8, ([])) ∷ (9, ([])) ∷ (10, ([])) ∷ (11, ([])) ∷ (12, ([])) ∷ (13, ([])) ∷ (14, ([])) ∷ []); plans = column 15 [] ((7, (put 6 0 1 7 ∷ [])) ∷ []); texts = column 15 [] ((0, ([])) ∷ (1, ([])) ∷ (2, ([])) ∷ (3, ([])) ∷ (4, ([])) ∷ (5, ([])) ∷ (6, ([])) ∷ (7, ([])) ∷ (8, ([])) ∷ (9, ([])) ∷ (10, ([])) ∷ (11, ([])) ∷ (12, ([])) ∷ (13, ([])) ∷ (14, ([])) ∷ []); main = 14 })) (record { steps = 3000; depth = 256; cells = 1048576; output = 65536 })) ≡ undefined 5 4
unfolding body played pieces_of types_of type_at
file_u5_negative = refl

-- int main(void) { char a[2] = { 0 }; char *p = &a[3]; return p == a; }
abbrev file_u6_address_tokens : List Token
file_u6_address_tokens = (token 0 3 ∷ token 4 8 ∷ token 8 9 ∷ token 9 13 ∷ token 13 14 ∷ token 15 16 ∷ token 17 21 ∷ token 22 23 ∷ token 23 24 ∷ token 24 25 ∷ token 25 26 ∷ token 27 28 ∷ token 29 30 ∷ token 31 32 ∷ token 33 34 ∷ token 34 35 ∷ token 36 40 ∷ token 41 42 ∷ token 42 43 ∷ token 44 45 ∷ token 46 47 ∷ token 47 48 ∷ token 48 49 ∷ token 49 50 ∷ token 50 51 ∷ token 51 52 ∷ token 53 59 ∷ token 60 61 ∷ token 62 64 ∷ token 65 66 ∷ token 66 67 ∷ token 68 69 ∷ [])

abbrev file_u6_address_nodes : List Node
file_u6_address_nodes = (node kind.Specifiers 0 0 ([]) ∷ node kind.NameDeclarator 1 1 ([]) ∷ node kind.FunctionDeclarator 1 4 (1 ∷ []) ∷ node kind.Specifiers 6 6 ([]) ∷ node kind.NameDeclarator 7 7 ([]) ∷ node kind.Integer 9 9 ([]) ∷ node kind.ArrayDeclarator 7 10 (4 ∷ 5 ∷ []) ∷ node kind.Integer 13 13 ([]) ∷ node kind.InitializerList 12 14 (7 ∷ []) ∷ node kind.InitDeclarator 7 14 (6 ∷ 8 ∷ []) ∷ node kind.Declaration 6 15 (3 ∷ 9 ∷ []) ∷ node kind.Specifiers 16 16 ([]) ∷ node kind.NameDeclarator 18 18 ([]) ∷ node kind.PointerDeclarator 17 18 (12 ∷ []) ∷ node kind.Identifier 21 21 ([]) ∷ node kind.Integer 23 23 ([]) ∷ node kind.Subscript 21 24 (14 ∷ 15 ∷ []) ∷ node kind.AddressOf 20 24 (16 ∷ []) ∷ node kind.InitDeclarator 17 24 (13 ∷ 17 ∷ []) ∷ node kind.Declaration 16 25 (11 ∷ 18 ∷ []) ∷ node kind.Identifier 27 27 ([]) ∷ node kind.Identifier 29 29 ([]) ∷ node kind.Equal 27 29 (20 ∷ 21 ∷ []) ∷ node kind.Return 26 30 (22 ∷ []) ∷ node kind.Compound 5 31 (10 ∷ 19 ∷ 23 ∷ []) ∷ node kind.FunctionDefinition 0 31 (0 ∷ 2 ∷ 24 ∷ []) ∷ [])

file_u6_address :
    verdict (1 ∷ 1 ∷ 1 ∷ 3 ∷ 3 ∷ 3 ∷ 3 ∷ 3 ∷ 3 ∷ 3 ∷ 3 ∷ 4 ∷ 4 ∷ 4 ∷ 4 ∷ 4 ∷ 4 ∷ 4 ∷ 4 ∷ 4 ∷ 5 ∷ 5 ∷ 5 ∷ 5 ∷ 2 ∷ 1 ∷ []) (program_of (typed file_u6_address_tokens file_u6_address_nodes (record { file = codes "int main(void) { char a[2] = { 0 }; char *p = &a[3]; return p == a; }"; shapes = (shape Unknown false false ∷ shape (ctype.Int ints.Int) false false ∷ shape (ctype.Int ints.Char) false false ∷ shape (Array 2 2) false false ∷ shape (Pointer 2) false false ∷ shape (Function 25) false false ∷ []); types = column 26 0 ((5, 1) ∷ (7, 1) ∷ (14, 3) ∷ (15, 1) ∷ (16, 2) ∷ (17, 4) ∷ (20, 4) ∷ (21, 3) ∷ (22, 1) ∷ []); refs = column 26 None ((1, (Some (1))) ∷ (4, (Some (4))) ∷ (12, (Some (12))) ∷ (14, (Some (4))) ∷ (20, (Some (12))) ∷ (21, (Some (4))) ∷ []); valued = column 26 false ((14, true) ∷ (20, true) ∷ (21, true) ∷ []); named = column 26 0 ((1, 5) ∷ (4, 3) ∷ (12, 4) ∷ (23, 1) ∷ []); durations = column 26 duration.NoObject ((4, duration.Automatic) ∷ (12, duration.Automatic) ∷ []); constants = column 26 None ((5, (Some (pos 2))) ∷ (7, (Some (pos 0))) ∷ (15, (Some (pos 3))) ∷ []); layouts = column 26 NOTHING []; members = column 26 [] []; chosen = column 26 0 []; parameters = column 26 [] ((0, ([])) ∷ (1, ([])) ∷ (2, ([])) ∷ (3, ([])) ∷ (4, ([])) ∷ (5, ([])) ∷ (6, ([])) ∷ (7, ([])) ∷ (8, ([])) ∷ (9, ([])) ∷ (10, ([])) ∷ (11, ([])) ∷ (12, ([])) ∷ (13, ([])) ∷ (14, ([])) ∷ (15, ([])) ∷ (16, ([])) ∷ (17, ([])) ∷ (18, ([])) ∷ (19, ([])) ∷ (20, ([])) ∷ (21, ([])) ∷ (22, ([])) ∷ (23, ([])) ∷ (24, ([])) ∷ (25, ([])) ∷ []); plans = column 26 [] ((9, (put 7 0 2 8 ∷ [])) ∷ (18, (put 17 0 4 18 ∷ [])) ∷ []); texts = column 26 [] ((0, ([])) ∷ (1, ([])) ∷ (2, ([])) ∷ (3, ([])) ∷ (4, ([])) ∷ (5, ([])) ∷ (6, ([])) ∷ (7, ([])) ∷ (8, ([])) ∷ (9, ([])) ∷ (10, ([])) ∷ (11, ([])) ∷ (12, ([])) ∷ (13, ([])) ∷ (14, ([])) ∷ (15, ([])) ∷ (16, ([])) ∷ (17, ([])) ∷ (18, ([])) ∷ (19, ([])) ∷ (20, ([])) ∷ (21, ([])) ∷ (22, ([])) ∷ (23, ([])) ∷ (24, ([])) ∷ (25, ([])) ∷ []); main = 25 })) (record { steps = 3000; depth = 256; cells = 1048576; output = 65536 })) ≡ undefined 6 4
unfolding body played pieces_of types_of type_at
file_u6_address = refl

-- int main(void) { char *p = "abc", *q = "xyz"; return p - q == 4; }
abbrev file_u7_literals_tokens : List Token
file_u7_literals_tokens = (token 0 3 ∷ token 4 8 ∷ token 8 9 ∷ token 9 13 ∷ token 13 14 ∷ token 15 16 ∷ token 19 23 ∷ token 24 25 ∷ token 25 26 ∷ token 27 28 ∷ token 29 34 ∷ token 34 35 ∷ token 36 37 ∷ token 37 38 ∷ token 39 40 ∷ token 41 46 ∷ token 46 47 ∷ token 50 56 ∷ token 57 58 ∷ token 59 60 ∷ token 61 62 ∷ token 63 65 ∷ token 66 67 ∷ token 67 68 ∷ token 69 70 ∷ [])

abbrev file_u7_literals_nodes : List Node
file_u7_literals_nodes = (node kind.Specifiers 0 0 ([]) ∷ node kind.NameDeclarator 1 1 ([]) ∷ node kind.FunctionDeclarator 1 4 (1 ∷ []) ∷ node kind.Specifiers 6 6 ([]) ∷ node kind.NameDeclarator 8 8 ([]) ∷ node kind.PointerDeclarator 7 8 (4 ∷ []) ∷ node kind.Text 10 10 ([]) ∷ node kind.InitDeclarator 7 10 (5 ∷ 6 ∷ []) ∷ node kind.NameDeclarator 13 13 ([]) ∷ node kind.PointerDeclarator 12 13 (8 ∷ []) ∷ node kind.Text 15 15 ([]) ∷ node kind.InitDeclarator 12 15 (9 ∷ 10 ∷ []) ∷ node kind.Declaration 6 16 (3 ∷ 7 ∷ 11 ∷ []) ∷ node kind.Identifier 18 18 ([]) ∷ node kind.Identifier 20 20 ([]) ∷ node kind.Subtract 18 20 (13 ∷ 14 ∷ []) ∷ node kind.Integer 22 22 ([]) ∷ node kind.Equal 18 22 (15 ∷ 16 ∷ []) ∷ node kind.Return 17 23 (17 ∷ []) ∷ node kind.Compound 5 24 (12 ∷ 18 ∷ []) ∷ node kind.FunctionDefinition 0 24 (0 ∷ 2 ∷ 19 ∷ []) ∷ [])

file_u7_literals :
    verdict (1 ∷ 1 ∷ 1 ∷ 3 ∷ 3 ∷ 3 ∷ 3 ∷ 3 ∷ 3 ∷ 3 ∷ 3 ∷ 3 ∷ 3 ∷ 4 ∷ 4 ∷ 4 ∷ 4 ∷ 4 ∷ 4 ∷ 2 ∷ 1 ∷ []) (program_of (typed file_u7_literals_tokens file_u7_literals_nodes (record { file = (105 ∷ 110 ∷ 116 ∷ 32 ∷ 109 ∷ 97 ∷ 105 ∷ 110 ∷ 40 ∷ 118 ∷ 111 ∷ 105 ∷ 100 ∷ 41 ∷ 10 ∷ 123 ∷ 10 ∷ 32 ∷ 32 ∷ 99 ∷ 104 ∷ 97 ∷ 114 ∷ 32 ∷ 42 ∷ 112 ∷ 32 ∷ 61 ∷ 32 ∷ 34 ∷ 97 ∷ 98 ∷ 99 ∷ 34 ∷ 44 ∷ 32 ∷ 42 ∷ 113 ∷ 32 ∷ 61 ∷ 32 ∷ 34 ∷ 120 ∷ 121 ∷ 122 ∷ 34 ∷ 59 ∷ 10 ∷ 32 ∷ 32 ∷ 114 ∷ 101 ∷ 116 ∷ 117 ∷ 114 ∷ 110 ∷ 32 ∷ 112 ∷ 32 ∷ 45 ∷ 32 ∷ 113 ∷ 32 ∷ 61 ∷ 61 ∷ 32 ∷ 52 ∷ 59 ∷ 10 ∷ 125 ∷ 10 ∷ []); shapes = (shape Unknown false false ∷ shape (ctype.Int ints.Char) false false ∷ shape (Array 1 4) false false ∷ shape (Pointer 1) false false ∷ shape (ctype.Int ints.Long) false false ∷ shape (ctype.Int ints.Int) false false ∷ shape (Function 20) false false ∷ []); types = column 21 0 ((6, 2) ∷ (10, 2) ∷ (13, 3) ∷ (14, 3) ∷ (15, 4) ∷ (16, 5) ∷ (17, 5) ∷ []); refs = column 21 None ((1, (Some (1))) ∷ (4, (Some (4))) ∷ (8, (Some (8))) ∷ (13, (Some (4))) ∷ (14, (Some (8))) ∷ []); valued = column 21 false ((6, true) ∷ (10, true) ∷ (13, true) ∷ (14, true) ∷ []); named = column 21 0 ((1, 6) ∷ (4, 3) ∷ (8, 3) ∷ (18, 5) ∷ []); durations = column 21 duration.NoObject ((4, duration.Automatic) ∷ (8, duration.Automatic) ∷ []); constants = column 21 None ((16, (Some (pos 4))) ∷ []); layouts = column 21 NOTHING []; members = column 21 [] []; chosen = column 21 0 []; parameters = column 21 [] ((0, ([])) ∷ (1, ([])) ∷ (2, ([])) ∷ (3, ([])) ∷ (4, ([])) ∷ (5, ([])) ∷ (6, ([])) ∷ (7, ([])) ∷ (8, ([])) ∷ (9, ([])) ∷ (10, ([])) ∷ (11, ([])) ∷ (12, ([])) ∷ (13, ([])) ∷ (14, ([])) ∷ (15, ([])) ∷ (16, ([])) ∷ (17, ([])) ∷ (18, ([])) ∷ (19, ([])) ∷ (20, ([])) ∷ []); plans = column 21 [] ((7, (put 6 0 3 7 ∷ [])) ∷ (11, (put 10 0 3 11 ∷ [])) ∷ []); texts = column 21 [] ((0, ([])) ∷ (1, ([])) ∷ (2, ([])) ∷ (3, ([])) ∷ (4, ([])) ∷ (5, ([])) ∷ (6, (97 ∷ 98 ∷ 99 ∷ 0 ∷ [])) ∷ (7, ([])) ∷ (8, ([])) ∷ (9, ([])) ∷ (10, (120 ∷ 121 ∷ 122 ∷ 0 ∷ [])) ∷ (11, ([])) ∷ (12, ([])) ∷ (13, ([])) ∷ (14, ([])) ∷ (15, ([])) ∷ (16, ([])) ∷ (17, ([])) ∷ (18, ([])) ∷ (19, ([])) ∷ (20, ([])) ∷ []); main = 20 })) (record { steps = 3000; depth = 256; cells = 1048576; output = 65536 })) ≡ undefined 7 4
unfolding body played pieces_of types_of type_at
file_u7_literals = refl

-- int a[2], b[2]; int main(void) { return a + 1 >= b; }
abbrev file_u8_arrays_tokens : List Token
file_u8_arrays_tokens = (token 0 3 ∷ token 4 5 ∷ token 5 6 ∷ token 6 7 ∷ token 7 8 ∷ token 8 9 ∷ token 10 11 ∷ token 11 12 ∷ token 12 13 ∷ token 13 14 ∷ token 14 15 ∷ token 16 19 ∷ token 20 24 ∷ token 24 25 ∷ token 25 29 ∷ token 29 30 ∷ token 31 32 ∷ token 33 39 ∷ token 40 41 ∷ token 42 43 ∷ token 44 45 ∷ token 46 48 ∷ token 49 50 ∷ token 50 51 ∷ token 52 53 ∷ [])

abbrev file_u8_arrays_nodes : List Node
file_u8_arrays_nodes = (node kind.Specifiers 0 0 ([]) ∷ node kind.NameDeclarator 1 1 ([]) ∷ node kind.Integer 3 3 ([]) ∷ node kind.ArrayDeclarator 1 4 (1 ∷ 2 ∷ []) ∷ node kind.NameDeclarator 6 6 ([]) ∷ node kind.Integer 8 8 ([]) ∷ node kind.ArrayDeclarator 6 9 (4 ∷ 5 ∷ []) ∷ node kind.Declaration 0 10 (0 ∷ 3 ∷ 6 ∷ []) ∷ node kind.Specifiers 11 11 ([]) ∷ node kind.NameDeclarator 12 12 ([]) ∷ node kind.FunctionDeclarator 12 15 (9 ∷ []) ∷ node kind.Identifier 18 18 ([]) ∷ node kind.Integer 20 20 ([]) ∷ node kind.Add 18 20 (11 ∷ 12 ∷ []) ∷ node kind.Identifier 22 22 ([]) ∷ node kind.GreaterEqual 18 22 (13 ∷ 14 ∷ []) ∷ node kind.Return 17 23 (15 ∷ []) ∷ node kind.Compound 16 24 (16 ∷ []) ∷ node kind.FunctionDefinition 11 24 (8 ∷ 10 ∷ 17 ∷ []) ∷ [])

file_u8_arrays :
    verdict (1 ∷ 1 ∷ 1 ∷ 1 ∷ 1 ∷ 1 ∷ 1 ∷ 1 ∷ 2 ∷ 2 ∷ 2 ∷ 4 ∷ 4 ∷ 4 ∷ 4 ∷ 4 ∷ 4 ∷ 3 ∷ 2 ∷ []) (program_of (typed file_u8_arrays_tokens file_u8_arrays_nodes (record { file = codes "int a[2], b[2]; int main(void) { return a + 1 >= b; }"; shapes = (shape Unknown false false ∷ shape (ctype.Int ints.Int) false false ∷ shape (Array 1 2) false false ∷ shape (Pointer 1) false false ∷ shape (Function 18) false false ∷ []); types = column 19 0 ((2, 1) ∷ (5, 1) ∷ (11, 2) ∷ (12, 1) ∷ (13, 3) ∷ (14, 2) ∷ (15, 1) ∷ []); refs = column 19 None ((1, (Some (1))) ∷ (4, (Some (4))) ∷ (9, (Some (9))) ∷ (11, (Some (1))) ∷ (14, (Some (4))) ∷ []); valued = column 19 false ((11, true) ∷ (14, true) ∷ []); named = column 19 0 ((1, 2) ∷ (4, 2) ∷ (9, 4) ∷ (16, 1) ∷ []); durations = column 19 duration.NoObject ((1, duration.Static) ∷ (4, duration.Static) ∷ []); constants = column 19 None ((2, (Some (pos 2))) ∷ (5, (Some (pos 2))) ∷ (12, (Some (pos 1))) ∷ []); layouts = column 19 NOTHING []; members = column 19 [] []; chosen = column 19 0 []; parameters = column 19 [] ((0, ([])) ∷ (1, ([])) ∷ (2, ([])) ∷ (3, ([])) ∷ (4, ([])) ∷ (5, ([])) ∷ (6, ([])) ∷ (7, ([])) ∷ (8, ([])) ∷ (9, ([])) ∷ (10, ([])) ∷ (11, ([])) ∷ (12, ([])) ∷ (13, ([])) ∷ (14, ([])) ∷ (15, ([])) ∷ (16, ([])) ∷ (17, ([])) ∷ (18, ([])) ∷ []); plans = column 19 [] []; texts = column 19 [] ((0, ([])) ∷ (1, ([])) ∷ (2, ([])) ∷ (3, ([])) ∷ (4, ([])) ∷ (5, ([])) ∷ (6, ([])) ∷ (7, ([])) ∷ (8, ([])) ∷ (9, ([])) ∷ (10, ([])) ∷ (11, ([])) ∷ (12, ([])) ∷ (13, ([])) ∷ (14, ([])) ∷ (15, ([])) ∷ (16, ([])) ∷ (17, ([])) ∷ (18, ([])) ∷ []); main = 18 })) (record { steps = 3000; depth = 256; cells = 1048576; output = 65536 })) ≡ undefined 8 4
unfolding body played pieces_of types_of type_at
file_u8_arrays = refl

-- int main(void) { const char *p = "abc"; return p[4]; }
abbrev file_u9_literal_tokens : List Token
file_u9_literal_tokens = (token 0 3 ∷ token 4 8 ∷ token 8 9 ∷ token 9 13 ∷ token 13 14 ∷ token 15 16 ∷ token 19 24 ∷ token 25 29 ∷ token 30 31 ∷ token 31 32 ∷ token 33 34 ∷ token 35 40 ∷ token 40 41 ∷ token 44 50 ∷ token 51 52 ∷ token 52 53 ∷ token 53 54 ∷ token 54 55 ∷ token 55 56 ∷ token 57 58 ∷ [])

abbrev file_u9_literal_nodes : List Node
file_u9_literal_nodes = (node kind.Specifiers 0 0 ([]) ∷ node kind.NameDeclarator 1 1 ([]) ∷ node kind.FunctionDeclarator 1 4 (1 ∷ []) ∷ node kind.Specifiers 6 7 ([]) ∷ node kind.NameDeclarator 9 9 ([]) ∷ node kind.PointerDeclarator 8 9 (4 ∷ []) ∷ node kind.Text 11 11 ([]) ∷ node kind.InitDeclarator 8 11 (5 ∷ 6 ∷ []) ∷ node kind.Declaration 6 12 (3 ∷ 7 ∷ []) ∷ node kind.Identifier 14 14 ([]) ∷ node kind.Integer 16 16 ([]) ∷ node kind.Subscript 14 17 (9 ∷ 10 ∷ []) ∷ node kind.Return 13 18 (11 ∷ []) ∷ node kind.Compound 5 19 (8 ∷ 12 ∷ []) ∷ node kind.FunctionDefinition 0 19 (0 ∷ 2 ∷ 13 ∷ []) ∷ [])

file_u9_literal :
    verdict (1 ∷ 1 ∷ 1 ∷ 3 ∷ 3 ∷ 3 ∷ 3 ∷ 3 ∷ 3 ∷ 4 ∷ 4 ∷ 4 ∷ 4 ∷ 2 ∷ 1 ∷ []) (program_of (typed file_u9_literal_tokens file_u9_literal_nodes (record { file = (105 ∷ 110 ∷ 116 ∷ 32 ∷ 109 ∷ 97 ∷ 105 ∷ 110 ∷ 40 ∷ 118 ∷ 111 ∷ 105 ∷ 100 ∷ 41 ∷ 10 ∷ 123 ∷ 10 ∷ 32 ∷ 32 ∷ 99 ∷ 111 ∷ 110 ∷ 115 ∷ 116 ∷ 32 ∷ 99 ∷ 104 ∷ 97 ∷ 114 ∷ 32 ∷ 42 ∷ 112 ∷ 32 ∷ 61 ∷ 32 ∷ 34 ∷ 97 ∷ 98 ∷ 99 ∷ 34 ∷ 59 ∷ 10 ∷ 32 ∷ 32 ∷ 114 ∷ 101 ∷ 116 ∷ 117 ∷ 114 ∷ 110 ∷ 32 ∷ 112 ∷ 91 ∷ 52 ∷ 93 ∷ 59 ∷ 10 ∷ 125 ∷ 10 ∷ []); shapes = (shape Unknown false false ∷ shape (ctype.Int ints.Char) false false ∷ shape (Array 1 4) false false ∷ shape (ctype.Int ints.Char) true false ∷ shape (Pointer 3) false false ∷ shape (ctype.Int ints.Int) false false ∷ shape (Function 14) false false ∷ []); types = column 15 0 ((6, 2) ∷ (9, 4) ∷ (10, 5) ∷ (11, 3) ∷ []); refs = column 15 None ((1, (Some (1))) ∷ (4, (Some (4))) ∷ (9, (Some (4))) ∷ []); valued = column 15 false ((6, true) ∷ (9, true) ∷ (11, true) ∷ []); named = column 15 0 ((1, 6) ∷ (4, 4) ∷ (12, 5) ∷ []); durations = column 15 duration.NoObject ((4, duration.Automatic) ∷ []); constants = column 15 None ((10, (Some (pos 4))) ∷ []); layouts = column 15 NOTHING []; members = column 15 [] []; chosen = column 15 0 []; parameters = column 15 [] ((0, ([])) ∷ (1, ([])) ∷ (2, ([])) ∷ (3, ([])) ∷ (4, ([])) ∷ (5, ([])) ∷ (6, ([])) ∷ (7, ([])) ∷ (8, ([])) ∷ (9, ([])) ∷ (10, ([])) ∷ (11, ([])) ∷ (12, ([])) ∷ (13, ([])) ∷ (14, ([])) ∷ []); plans = column 15 [] ((7, (put 6 0 4 7 ∷ [])) ∷ []); texts = column 15 [] ((0, ([])) ∷ (1, ([])) ∷ (2, ([])) ∷ (3, ([])) ∷ (4, ([])) ∷ (5, ([])) ∷ (6, (97 ∷ 98 ∷ 99 ∷ 0 ∷ [])) ∷ (7, ([])) ∷ (8, ([])) ∷ (9, ([])) ∷ (10, ([])) ∷ (11, ([])) ∷ (12, ([])) ∷ (13, ([])) ∷ (14, ([])) ∷ []); main = 14 })) (record { steps = 3000; depth = 256; cells = 1048576; output = 65536 })) ≡ undefined 9 4
unfolding body played pieces_of types_of type_at
file_u9_literal = refl

-- int putchar ( int ) ; void exit ( int ) ; int main ( ) { ( 65 ) ; exit ( 3 ) ; }
abbrev file_lawful_0_tokens : List Token
file_lawful_0_tokens = (token 0 3 ∷ token 4 11 ∷ token 12 13 ∷ token 14 17 ∷ token 18 19 ∷ token 20 21 ∷ token 22 26 ∷ token 27 31 ∷ token 32 33 ∷ token 34 37 ∷ token 38 39 ∷ token 40 41 ∷ token 42 45 ∷ token 46 50 ∷ token 51 52 ∷ token 53 54 ∷ token 55 56 ∷ token 57 58 ∷ token 59 61 ∷ token 62 63 ∷ token 64 65 ∷ token 66 70 ∷ token 71 72 ∷ token 73 74 ∷ token 75 76 ∷ token 77 78 ∷ token 79 80 ∷ [])

abbrev file_lawful_0_nodes : List Node
file_lawful_0_nodes = (node kind.Specifiers 0 0 ([]) ∷ node kind.NameDeclarator 1 1 ([]) ∷ node kind.Specifiers 3 3 ([]) ∷ node kind.FunctionDeclarator 1 4 (1 ∷ []) ∷ node kind.Declaration 0 5 (0 ∷ 3 ∷ []) ∷ node kind.Specifiers 6 6 ([]) ∷ node kind.NameDeclarator 7 7 ([]) ∷ node kind.Specifiers 9 9 ([]) ∷ node kind.FunctionDeclarator 7 10 (6 ∷ []) ∷ node kind.Declaration 6 11 (5 ∷ 8 ∷ []) ∷ node kind.Specifiers 12 12 ([]) ∷ node kind.NameDeclarator 13 13 ([]) ∷ node kind.FunctionDeclarator 13 15 (11 ∷ []) ∷ node kind.Integer 18 18 ([]) ∷ node kind.Group 17 19 (13 ∷ []) ∷ node kind.ExpressionStatement 17 20 (14 ∷ []) ∷ node kind.Integer 23 23 ([]) ∷ node kind.Call 21 24 (16 ∷ []) ∷ node kind.ExpressionStatement 21 25 (17 ∷ []) ∷ node kind.Compound 16 26 (15 ∷ 18 ∷ []) ∷ node kind.FunctionDefinition 12 26 (10 ∷ 12 ∷ 19 ∷ []) ∷ [])

file_lawful_0 :
    verdict (1 ∷ 1 ∷ 1 ∷ 1 ∷ 1 ∷ 1 ∷ 1 ∷ 1 ∷ 1 ∷ 1 ∷ 1 ∷ 1 ∷ 1 ∷ 1 ∷ 1 ∷ 1 ∷ 1 ∷ 1 ∷ 1 ∷ 1 ∷ 1 ∷ []) (program_of (typed file_lawful_0_tokens file_lawful_0_nodes (record { file = codes "int putchar ( int ) ; void exit ( int ) ; int main ( ) { ( 65 ) ; exit ( 3 ) ; }"; shapes = (shape Unknown false false ∷ shape (ctype.Int ints.Int) false false ∷ shape Void false false ∷ shape (Function 1) false false ∷ shape (Function 6) false false ∷ shape (Function 20) false false ∷ []); types = column 21 0 ((13, 1) ∷ (14, 1) ∷ (16, 1) ∷ (17, 2) ∷ []); refs = column 21 None ((1, (Some (1))) ∷ (6, (Some (6))) ∷ (11, (Some (11))) ∷ (17, (Some (6))) ∷ []); valued = column 21 false []; named = column 21 0 ((1, 3) ∷ (6, 4) ∷ (11, 5) ∷ []); durations = column 21 duration.NoObject []; constants = column 21 None ((13, (Some (pos 65))) ∷ (16, (Some (pos 3))) ∷ []); layouts = column 21 NOTHING []; members = column 21 [] []; chosen = column 21 0 []; parameters = column 21 [] ((0, ([])) ∷ (1, ([])) ∷ (2, ([])) ∷ (3, ([])) ∷ (4, ([])) ∷ (5, ([])) ∷ (6, ([])) ∷ (7, ([])) ∷ (8, ([])) ∷ (9, ([])) ∷ (10, ([])) ∷ (11, ([])) ∷ (12, ([])) ∷ (13, ([])) ∷ (14, ([])) ∷ (15, ([])) ∷ (16, ([])) ∷ (17, ([])) ∷ (18, ([])) ∷ (19, ([])) ∷ (20, ([])) ∷ []); plans = column 21 [] []; texts = column 21 [] ((0, ([])) ∷ (1, ([])) ∷ (2, ([])) ∷ (3, ([])) ∷ (4, ([])) ∷ (5, ([])) ∷ (6, ([])) ∷ (7, ([])) ∷ (8, ([])) ∷ (9, ([])) ∷ (10, ([])) ∷ (11, ([])) ∷ (12, ([])) ∷ (13, ([])) ∷ (14, ([])) ∷ (15, ([])) ∷ (16, ([])) ∷ (17, ([])) ∷ (18, ([])) ∷ (19, ([])) ∷ (20, ([])) ∷ []); main = 20 })) (record { steps = 3000; depth = 256; cells = 1048576; output = 65536 })) ≡ fine 3 []
unfolding body played pieces_of types_of type_at
file_lawful_0 = refl

-- char s [ ] = "ab" , * t = "cd" ; int main ( ) { s [ 0 ] = t [ 1 ] ; return s [ 2 ] ; }
abbrev file_lawful_1_tokens : List Token
file_lawful_1_tokens = (token 0 4 ∷ token 5 6 ∷ token 7 8 ∷ token 9 10 ∷ token 11 12 ∷ token 13 17 ∷ token 18 19 ∷ token 20 21 ∷ token 22 23 ∷ token 24 25 ∷ token 26 30 ∷ token 31 32 ∷ token 33 36 ∷ token 37 41 ∷ token 42 43 ∷ token 44 45 ∷ token 46 47 ∷ token 48 49 ∷ token 50 51 ∷ token 52 53 ∷ token 54 55 ∷ token 56 57 ∷ token 58 59 ∷ token 60 61 ∷ token 62 63 ∷ token 64 65 ∷ token 66 67 ∷ token 68 74 ∷ token 75 76 ∷ token 77 78 ∷ token 79 80 ∷ token 81 82 ∷ token 83 84 ∷ token 85 86 ∷ [])

abbrev file_lawful_1_nodes : List Node
file_lawful_1_nodes = (node kind.Specifiers 0 0 ([]) ∷ node kind.NameDeclarator 1 1 ([]) ∷ node kind.ArrayDeclarator 1 3 (1 ∷ []) ∷ node kind.Text 5 5 ([]) ∷ node kind.InitDeclarator 1 5 (2 ∷ 3 ∷ []) ∷ node kind.NameDeclarator 8 8 ([]) ∷ node kind.PointerDeclarator 7 8 (5 ∷ []) ∷ node kind.Text 10 10 ([]) ∷ node kind.InitDeclarator 7 10 (6 ∷ 7 ∷ []) ∷ node kind.Declaration 0 11 (0 ∷ 4 ∷ 8 ∷ []) ∷ node kind.Specifiers 12 12 ([]) ∷ node kind.NameDeclarator 13 13 ([]) ∷ node kind.FunctionDeclarator 13 15 (11 ∷ []) ∷ node kind.Identifier 17 17 ([]) ∷ node kind.Integer 19 19 ([]) ∷ node kind.Subscript 17 20 (13 ∷ 14 ∷ []) ∷ node kind.Identifier 22 22 ([]) ∷ node kind.Integer 24 24 ([]) ∷ node kind.Subscript 22 25 (16 ∷ 17 ∷ []) ∷ node kind.Assign 17 25 (15 ∷ 18 ∷ []) ∷ node kind.ExpressionStatement 17 26 (19 ∷ []) ∷ node kind.Identifier 28 28 ([]) ∷ node kind.Integer 30 30 ([]) ∷ node kind.Subscript 28 31 (21 ∷ 22 ∷ []) ∷ node kind.Return 27 32 (23 ∷ []) ∷ node kind.Compound 16 33 (20 ∷ 24 ∷ []) ∷ node kind.FunctionDefinition 12 33 (10 ∷ 12 ∷ 25 ∷ []) ∷ [])

file_lawful_1 :
    verdict (1 ∷ 1 ∷ 1 ∷ 1 ∷ 1 ∷ 1 ∷ 1 ∷ 1 ∷ 1 ∷ 1 ∷ 1 ∷ 1 ∷ 1 ∷ 1 ∷ 1 ∷ 1 ∷ 1 ∷ 1 ∷ 1 ∷ 1 ∷ 1 ∷ 1 ∷ 1 ∷ 1 ∷ 1 ∷ 1 ∷ 1 ∷ []) (program_of (typed file_lawful_1_tokens file_lawful_1_nodes (record { file = (99 ∷ 104 ∷ 97 ∷ 114 ∷ 32 ∷ 115 ∷ 32 ∷ 91 ∷ 32 ∷ 93 ∷ 32 ∷ 61 ∷ 32 ∷ 34 ∷ 97 ∷ 98 ∷ 34 ∷ 32 ∷ 44 ∷ 32 ∷ 42 ∷ 32 ∷ 116 ∷ 32 ∷ 61 ∷ 32 ∷ 34 ∷ 99 ∷ 100 ∷ 34 ∷ 32 ∷ 59 ∷ 32 ∷ 105 ∷ 110 ∷ 116 ∷ 32 ∷ 109 ∷ 97 ∷ 105 ∷ 110 ∷ 32 ∷ 40 ∷ 32 ∷ 41 ∷ 32 ∷ 123 ∷ 32 ∷ 115 ∷ 32 ∷ 91 ∷ 32 ∷ 48 ∷ 32 ∷ 93 ∷ 32 ∷ 61 ∷ 32 ∷ 116 ∷ 32 ∷ 91 ∷ 32 ∷ 49 ∷ 32 ∷ 93 ∷ 32 ∷ 59 ∷ 32 ∷ 114 ∷ 101 ∷ 116 ∷ 117 ∷ 114 ∷ 110 ∷ 32 ∷ 115 ∷ 32 ∷ 91 ∷ 32 ∷ 50 ∷ 32 ∷ 93 ∷ 32 ∷ 59 ∷ 32 ∷ 125 ∷ []); shapes = (shape Unknown false false ∷ shape (ctype.Int ints.Char) false false ∷ shape (Array 1 3) false false ∷ shape (ctype.Int ints.Int) false false ∷ shape (Pointer 1) false false ∷ shape (Function 26) false false ∷ []); types = column 27 0 ((3, 2) ∷ (7, 2) ∷ (13, 2) ∷ (14, 3) ∷ (15, 1) ∷ (16, 4) ∷ (17, 3) ∷ (18, 1) ∷ (19, 1) ∷ (21, 2) ∷ (22, 3) ∷ (23, 1) ∷ []); refs = column 27 None ((1, (Some (1))) ∷ (5, (Some (5))) ∷ (11, (Some (11))) ∷ (13, (Some (1))) ∷ (16, (Some (5))) ∷ (21, (Some (1))) ∷ []); valued = column 27 false ((7, true) ∷ (13, true) ∷ (16, true) ∷ (18, true) ∷ (21, true) ∷ (23, true) ∷ []); named = column 27 0 ((1, 2) ∷ (5, 4) ∷ (11, 5) ∷ (24, 3) ∷ []); durations = column 27 duration.NoObject ((1, duration.Static) ∷ (5, duration.Static) ∷ []); constants = column 27 None ((14, (Some (pos 0))) ∷ (17, (Some (pos 1))) ∷ (22, (Some (pos 2))) ∷ []); layouts = column 27 NOTHING []; members = column 27 [] []; chosen = column 27 0 []; parameters = column 27 [] ((0, ([])) ∷ (1, ([])) ∷ (2, ([])) ∷ (3, ([])) ∷ (4, ([])) ∷ (5, ([])) ∷ (6, ([])) ∷ (7, ([])) ∷ (8, ([])) ∷ (9, ([])) ∷ (10, ([])) ∷ (11, ([])) ∷ (12, ([])) ∷ (13, ([])) ∷ (14, ([])) ∷ (15, ([])) ∷ (16, ([])) ∷ (17, ([])) ∷ (18, ([])) ∷ (19, ([])) ∷ (20, ([])) ∷ (21, ([])) ∷ (22, ([])) ∷ (23, ([])) ∷ (24, ([])) ∷ (25, ([])) ∷ (26, ([])) ∷ []); plans = column 27 [] ((4, (put 3 0 2 4 ∷ [])) ∷ (8, (put 7 0 4 8 ∷ [])) ∷ []); texts = column 27 [] ((0, ([])) ∷ (1, ([])) ∷ (2, ([])) ∷ (3, (97 ∷ 98 ∷ 0 ∷ [])) ∷ (4, ([])) ∷ (5, ([])) ∷ (6, ([])) ∷ (7, (99 ∷ 100 ∷ 0 ∷ [])) ∷ (8, ([])) ∷ (9, ([])) ∷ (10, ([])) ∷ (11, ([])) ∷ (12, ([])) ∷ (13, ([])) ∷ (14, ([])) ∷ (15, ([])) ∷ (16, ([])) ∷ (17, ([])) ∷ (18, ([])) ∷ (19, ([])) ∷ (20, ([])) ∷ (21, ([])) ∷ (22, ([])) ∷ (23, ([])) ∷ (24, ([])) ∷ (25, ([])) ∷ (26, ([])) ∷ []); main = 26 })) (record { steps = 3000; depth = 256; cells = 1048576; output = 65536 })) ≡ fine 0 []
unfolding body played pieces_of types_of type_at
file_lawful_1 = refl

-- int main(void) { return "\xff"[0] == -1; }
abbrev file_high_byte_tokens : List Token
file_high_byte_tokens = (token 0 3 ∷ token 4 8 ∷ token 8 9 ∷ token 9 13 ∷ token 13 14 ∷ token 15 16 ∷ token 17 23 ∷ token 24 30 ∷ token 30 31 ∷ token 31 32 ∷ token 32 33 ∷ token 34 36 ∷ token 37 38 ∷ token 38 39 ∷ token 39 40 ∷ token 41 42 ∷ [])

abbrev file_high_byte_nodes : List Node
file_high_byte_nodes = (node kind.Specifiers 0 0 ([]) ∷ node kind.NameDeclarator 1 1 ([]) ∷ node kind.FunctionDeclarator 1 4 (1 ∷ []) ∷ node kind.Text 7 7 ([]) ∷ node kind.Integer 9 9 ([]) ∷ node kind.Subscript 7 10 (3 ∷ 4 ∷ []) ∷ node kind.Integer 13 13 ([]) ∷ node kind.Minus 12 13 (6 ∷ []) ∷ node kind.Equal 7 13 (5 ∷ 7 ∷ []) ∷ node kind.Return 6 14 (8 ∷ []) ∷ node kind.Compound 5 15 (9 ∷ []) ∷ node kind.FunctionDefinition 0 15 (0 ∷ 2 ∷ 10 ∷ []) ∷ [])

file_high_byte :
    verdict (1 ∷ 1 ∷ 1 ∷ 1 ∷ 1 ∷ 1 ∷ 1 ∷ 1 ∷ 1 ∷ 1 ∷ 1 ∷ 1 ∷ []) (program_of (typed file_high_byte_tokens file_high_byte_nodes (record { file = (105 ∷ 110 ∷ 116 ∷ 32 ∷ 109 ∷ 97 ∷ 105 ∷ 110 ∷ 40 ∷ 118 ∷ 111 ∷ 105 ∷ 100 ∷ 41 ∷ 32 ∷ 123 ∷ 32 ∷ 114 ∷ 101 ∷ 116 ∷ 117 ∷ 114 ∷ 110 ∷ 32 ∷ 34 ∷ 92 ∷ 120 ∷ 102 ∷ 102 ∷ 34 ∷ 91 ∷ 48 ∷ 93 ∷ 32 ∷ 61 ∷ 61 ∷ 32 ∷ 45 ∷ 49 ∷ 59 ∷ 32 ∷ 125 ∷ []); shapes = (shape Unknown false false ∷ shape (ctype.Int ints.Char) false false ∷ shape (Array 1 2) false false ∷ shape (ctype.Int ints.Int) false false ∷ shape (Function 11) false false ∷ []); types = column 12 0 ((3, 2) ∷ (4, 3) ∷ (5, 1) ∷ (6, 3) ∷ (7, 3) ∷ (8, 3) ∷ []); refs = column 12 None ((1, (Some (1))) ∷ []); valued = column 12 false ((3, true) ∷ (5, true) ∷ []); named = column 12 0 ((1, 4) ∷ (9, 3) ∷ []); durations = column 12 duration.NoObject []; constants = column 12 None ((4, (Some (pos 0))) ∷ (6, (Some (pos 1))) ∷ []); layouts = column 12 NOTHING []; members = column 12 [] []; chosen = column 12 0 []; parameters = column 12 [] []; plans = column 12 [] []; texts = column 12 [] ((3, (255 ∷ 0 ∷ [])) ∷ []); main = 11 })) (record { steps = 3000; depth = 256; cells = 1048576; output = 65536 })) ≡ fine 1 []
unfolding body played pieces_of types_of type_at
file_high_byte = refl

-- int printf(const char *, ...); volatile char s[2]; int main(void) { printf("%s", s); return 0; }
abbrev file_volatile_text_tokens : List Token
file_volatile_text_tokens = (token 0 3 ∷ token 4 10 ∷ token 10 11 ∷ token 11 16 ∷ token 17 21 ∷ token 22 23 ∷ token 23 24 ∷ token 25 28 ∷ token 28 29 ∷ token 29 30 ∷ token 31 39 ∷ token 40 44 ∷ token 45 46 ∷ token 46 47 ∷ token 47 48 ∷ token 48 49 ∷ token 49 50 ∷ token 51 54 ∷ token 55 59 ∷ token 59 60 ∷ token 60 64 ∷ token 64 65 ∷ token 66 67 ∷ token 68 74 ∷ token 74 75 ∷ token 75 79 ∷ token 79 80 ∷ token 81 82 ∷ token 82 83 ∷ token 83 84 ∷ token 85 91 ∷ token 92 93 ∷ token 93 94 ∷ token 95 96 ∷ [])

abbrev file_volatile_text_nodes : List Node
file_volatile_text_nodes = (node kind.Specifiers 0 0 ([]) ∷ node kind.NameDeclarator 1 1 ([]) ∷ node kind.Specifiers 3 4 ([]) ∷ node kind.FunctionDeclarator 1 8 (1 ∷ []) ∷ node kind.Declaration 0 9 (0 ∷ 3 ∷ []) ∷ node kind.Specifiers 10 11 ([]) ∷ node kind.NameDeclarator 12 12 ([]) ∷ node kind.Integer 14 14 ([]) ∷ node kind.ArrayDeclarator 12 15 (6 ∷ 7 ∷ []) ∷ node kind.Declaration 10 16 (5 ∷ 8 ∷ []) ∷ node kind.Specifiers 17 17 ([]) ∷ node kind.NameDeclarator 18 18 ([]) ∷ node kind.FunctionDeclarator 18 21 (11 ∷ []) ∷ node kind.Text 25 25 ([]) ∷ node kind.Identifier 27 27 ([]) ∷ node kind.Call 23 28 (13 ∷ 14 ∷ []) ∷ node kind.ExpressionStatement 23 29 (15 ∷ []) ∷ node kind.Integer 31 31 ([]) ∷ node kind.Return 30 32 (17 ∷ []) ∷ node kind.Compound 22 33 (16 ∷ 18 ∷ []) ∷ node kind.FunctionDefinition 17 33 (10 ∷ 12 ∷ 19 ∷ []) ∷ [])

file_volatile_text :
    verdict (1 ∷ 1 ∷ 1 ∷ 1 ∷ 1 ∷ 1 ∷ 1 ∷ 1 ∷ 1 ∷ 1 ∷ 1 ∷ 1 ∷ 1 ∷ 1 ∷ 1 ∷ 1 ∷ 1 ∷ 1 ∷ 1 ∷ 1 ∷ 1 ∷ []) (program_of (typed file_volatile_text_tokens file_volatile_text_nodes (record { file = (105 ∷ 110 ∷ 116 ∷ 32 ∷ 112 ∷ 114 ∷ 105 ∷ 110 ∷ 116 ∷ 102 ∷ 40 ∷ 99 ∷ 111 ∷ 110 ∷ 115 ∷ 116 ∷ 32 ∷ 99 ∷ 104 ∷ 97 ∷ 114 ∷ 32 ∷ 42 ∷ 44 ∷ 32 ∷ 46 ∷ 46 ∷ 46 ∷ 41 ∷ 59 ∷ 32 ∷ 118 ∷ 111 ∷ 108 ∷ 97 ∷ 116 ∷ 105 ∷ 108 ∷ 101 ∷ 32 ∷ 99 ∷ 104 ∷ 97 ∷ 114 ∷ 32 ∷ 115 ∷ 91 ∷ 50 ∷ 93 ∷ 59 ∷ 32 ∷ 105 ∷ 110 ∷ 116 ∷ 32 ∷ 109 ∷ 97 ∷ 105 ∷ 110 ∷ 40 ∷ 118 ∷ 111 ∷ 105 ∷ 100 ∷ 41 ∷ 32 ∷ 123 ∷ 32 ∷ 112 ∷ 114 ∷ 105 ∷ 110 ∷ 116 ∷ 102 ∷ 40 ∷ 34 ∷ 37 ∷ 115 ∷ 34 ∷ 44 ∷ 32 ∷ 115 ∷ 41 ∷ 59 ∷ 32 ∷ 114 ∷ 101 ∷ 116 ∷ 117 ∷ 114 ∷ 110 ∷ 32 ∷ 48 ∷ 59 ∷ 32 ∷ 125 ∷ []); shapes = (shape Unknown false false ∷ shape (ctype.Int ints.Char) false false ∷ shape (Array 1 3) false false ∷ shape (ctype.Int ints.Int) false false ∷ shape (Function 1) false false ∷ shape (ctype.Int ints.Char) false true ∷ shape (Array 5 2) false false ∷ shape (Function 20) false false ∷ []); types = column 21 0 ((7, 3) ∷ (13, 2) ∷ (14, 6) ∷ (15, 3) ∷ (17, 3) ∷ []); refs = column 21 None ((1, (Some (1))) ∷ (6, (Some (6))) ∷ (11, (Some (11))) ∷ (14, (Some (6))) ∷ (15, (Some (1))) ∷ []); valued = column 21 false ((13, true) ∷ (14, true) ∷ []); named = column 21 0 ((1, 4) ∷ (6, 6) ∷ (11, 7) ∷ (18, 3) ∷ []); durations = column 21 duration.NoObject ((6, duration.Static) ∷ []); constants = column 21 None ((7, (Some (pos 2))) ∷ (17, (Some (pos 0))) ∷ []); layouts = column 21 NOTHING []; members = column 21 [] []; chosen = column 21 0 []; parameters = column 21 [] []; plans = column 21 [] []; texts = column 21 [] ((13, (37 ∷ 115 ∷ 0 ∷ [])) ∷ []); main = 20 })) (record { steps = 3000; depth = 256; cells = 1048576; output = 65536 })) ≡ undefined 16 1
unfolding body played pieces_of types_of type_at
file_volatile_text = refl
