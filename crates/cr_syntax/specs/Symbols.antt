-- What a right side is made of.
use Rattle.cr_syntax.specs.declared.word.Word.{Word}
use Rattle.cr_syntax.specs.declared.part.Part as the_part

-- how many levels of its own node are open before a symbol: none, one or two
pub data Depth : Type 0 where
  Outer : Depth
  Inner : Depth
  Innermost : Depth

-- a step of an alternative's right side
pub data Symbol : Type 0 where
  -- a token that opens no level
  Token : Depth → Word → Symbol
  -- a token that opens a level
  Opens : Depth → Word → Symbol
  -- a token that closes a level and opens another
  Reopens : Word → Symbol
  -- a part
  Part : Depth → the_part.Part → Symbol
  -- a part that may be left out, the last one of its node
  Optional : Depth → the_part.Part → Symbol
  -- any number of parts, the last ones of their node
  Many : Depth → the_part.Part → Symbol
  -- one or more parts with commas between them, the last ones of their node
  List : Depth → the_part.Part → Symbol
  -- as `List`, or none
  OptionalList : Depth → the_part.Part → Symbol
  -- `[identifier] "{"`
  Tag : Symbol
  -- `[","] "}"`
  TrailingComma : Symbol
  -- `{"const" | "volatile"}` and a part, which ends the node
  Qualified : the_part.Part → Symbol
  -- `{"const" | "volatile"}` and a part or none, which ends the node
  OptionalQualified : the_part.Part → Symbol
  -- an identifier that is no type
  Ordinary : Symbol
  -- an identifier that is a type
  TypeIdentifier : Symbol
  -- the identifier that a declarator declares
  Declared : Symbol
  -- the identifier of an enumerator, whose scope begins after the node
  Enumerates : Symbol
  -- `["=" conditional]`, the last part
  Value : Symbol
  -- the declarator's name enters its scope
  Enters : Symbol
  -- a scope begins
  Begins : Symbol
  -- a scope ends
  Ends : Symbol
  -- `[parameters]` in a scope of their own
  Prototype : Symbol
  -- `[conditional]` of an array declarator
  Size : Symbol
  -- `text {text}`
  Texts : Symbol
  -- `declaration | [expression] ";"`
  Init : Symbol
  -- `[expression] ";"`
  Clause : Symbol
  -- `[expression] ")"`, where the bracket opens the level of the body
  Step : Symbol
  -- `["else" statement]`, the last part
  Else : Symbol
