-- What a node has from above: the nearest definition, loop, switch and block around it, and what specifiers below it are for.
use Rattle.std.specs.Prelude.{◌≡◌, ℕ, ◌<◌, List, Option, Some, None, length, slice_get, slice_index_or, nat_lt, if◌then◌else◌}
use Rattle.cr_syntax.specs.declared.node.Kind.{Kind}
use Rattle.cr_syntax.specs.declared.node.Kind.TheVariants.{FunctionDefinition, Compound, For, While, Do, Switch, StructContent, MemberDeclaration, Parameter, Parameters, VariadicParameters, FunctionDeclarator, TypeName, Cast, SizeofType}
use Rattle.cr_syntax.specs.declared.node.Node.{Node}
use Rattle.cr_check_enclosing.specs.declared.context.Place.{Place}
use Rattle.cr_check_enclosing.specs.declared.context.Place.TheVariants.{File, Definition, Block, Clause, Parameter as ParameterPlace, Member, Name}
use Rattle.cr_check_enclosing.specs.declared.context.Around.{Around}

-- what an external declaration has
abbrev pub outermost : Around
outermost = record { function = None; iteration = None; switch = None; breakable = None; block = None; place = File }

-- what specifiers in the parts of a node of this kind are for: members (6.7.2.1), parameters (6.7.6.3), type names (6.7.7), or
-- what they are for around it
abbrev pub place_in : Kind → Place → Place
place_in StructContent place = Member
place_in MemberDeclaration place = Member
place_in FunctionDeclarator place = ParameterPlace
place_in Parameters place = ParameterPlace
place_in VariadicParameters place = ParameterPlace
place_in Parameter place = ParameterPlace
place_in TypeName place = Name
place_in Cast place = Name
place_in SizeofType place = Name
place_in kind place = place

-- what the parts of a node have, by its kind and number and what it has itself: a definition begins anew (6.9.1), a block is a
-- compound statement (6.8.2), `continue` goes on with an iteration statement (6.8.5), `case` and `default` belong to a
-- `switch` (6.8.4.2), and `break` leaves either (6.8.6.3)
unfoldable pub inside : Kind → ℕ → Around → Around
inside FunctionDefinition at around = record outermost { function = Some at; place = Definition }
inside Compound at around = record around { block = Some at; place = Block }
inside For at around = record around { iteration = Some at; breakable = Some at; place = Clause }
inside While at around = record around { iteration = Some at; breakable = Some at }
inside Do at around = record around { iteration = Some at; breakable = Some at }
inside Switch at around = record around { switch = Some at; breakable = Some at }
inside kind at around = record around { place = place_in kind around.place }

-- the same, where there is such a node
abbrev pub inside_if : Option Node → ℕ → Around → Around
inside_if None at a = outermost
inside_if (Some node) at a = inside node.kind at a

-- what the node below the given one has, if that is above it
abbrev pub below : List Node → (ℕ → Around) → ℕ → Option ℕ → Around
below nodes at part None = outermost
below nodes at part (Some above) = if nat_lt part above then inside_if (slice_get nodes above) above (at above) else outermost

-- what each node has, given the node above each
pub record AreAround (nodes : List Node) (above : List (Option ℕ)) (around : List Around) : Type 0 where
  pub count : length around ≡ length nodes
  pub each : (part : ℕ) → part < length nodes
      → slice_index_or around part outermost ≡ below nodes (λ p. slice_index_or around p outermost) part (slice_index_or above part None)
