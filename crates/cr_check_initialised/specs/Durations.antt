-- How long objects live (C11 6.2.4).
use Rattle.std.specs.Prelude.{ℕ, Bool, true, false, Option, None, Some}
use Rattle.cr_check_enclosing.specs.declared.context.Place.{Place}
use Rattle.cr_check_enclosing.specs.declared.context.Place.TheVariants as place
use Rattle.cr_check_declarators.specs.declared.words.Class.{Class}
use Rattle.cr_check_declarators.specs.declared.words.Class.TheVariants as class
use Rattle.cr_check_declarators.specs.declared.words.Specified.{Specified}
use Rattle.cr_check_declarations.specs.declared.tree.Tree.{Tree}
use Rattle.cr_check_declarations.specs.Before.{specified_in}
use Rattle.cr_check_declarations.specs.Named.{declaration_of, specifiers_in, class_of}
use Rattle.cr_check_declarations.specs.Faults.{place_of}

abbrev pub is_kept_class : Option Class → Bool
is_kept_class (Some class.Static) = true
is_kept_class (Some class.Extern) = true
is_kept_class other = false

-- 6.2.4p3: an object with linkage, or one declared `static`; at file scope each one has linkage (6.2.2p3 to p5), and in a block one
-- declared `extern` (p4)
abbrev pub is_kept : Place → Option Class → Bool
is_kept place.File class = true
is_kept place.Block class = is_kept_class class
is_kept place.Clause class = is_kept_class class
is_kept other class = false

-- the object that a node declares, a whole declarator, maybe with its initialiser
abbrev pub is_static : Tree → (ℕ → Specified) → Option ℕ → Bool
is_static t said None = false
is_static t said (Some node) =
    is_kept (place_of t node) (class_of (specified_in said (specifiers_in t.nodes.now (declaration_of t.nodes.now t.above.now node))).storage)
