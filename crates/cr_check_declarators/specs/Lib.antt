-- Which constraints the rules here decide, by the numbers that the program prints, and on what.
--   K1   is_one_type_of: the specifiers of a declaration, joined
--   K2   storage_fault_of: the specifiers, their place, whether a declarator there declares a function
--   K3   the `declares` of the specifiers, where no declarator stands behind them
--   K4   inline_fault_of: the specifiers, their place, whether all that is declared there, and something is, is functions
--   K5   tag_agrees: the kinds of a tag's specifier and of its first declaration, whether its list of enumerators has ended
--   K6   whole_elements: a declarator and its derivations, the type of the specifiers; whole_object: the declared type, where
--        is_object_of holds of the declaration, and the adjusted type of a defined parameter
--   K7   the `wrong` of a declarator, by size_of; cells_fault_of: a declarator and the layout of the type of its specifiers;
--        is_too_large_of: the layout of a structure
--   K8   function_fault_of: a declarator, its place, whether `typedef` stands there, the type of its function's result
--   K9   are_compatible of cr_check_types for objects; functions_agree: the types of two functions; library_type: that of a library's name
--   K10  is_again_of: what this declaration of a linked name does, what those before it did, whether the library has the name;
--        and the `function` of the declarator before a body
--   K11  may_be_initialised_of, of what may have an initialiser at all: the place, `typedef`, whether it is a function, linkage
--   K14  open_fault_of: a declarator, its place, storage class, whether it is initialised
--   K15  enumerated_of: the enumerator before it, what its expression is as a constant
--   K41  volatile_fault_of: the specifiers, their place, the type that they name; in a member the `volatile` of its declarator too
pub mod Specifiers
pub mod Declarators
pub mod Cells
pub mod Functions
pub mod Structures
pub mod Linkages
