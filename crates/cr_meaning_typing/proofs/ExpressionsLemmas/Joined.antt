-- The laws of operators and places, put together.
use Rattle.cr_meaning_typing.specs.Expressions.Operators.{JunctionsAreGood, UpdatesAreGood}
use Rattle.cr_meaning_typing.specs.Expressions.Places.{LiteralsAreGood, GroupsAreGood, MembersAreGood, AddressesAreGood}
use Rattle.cr_meaning_typing.proofs.ExpressionsLemmas.Operators.{conjunctions, disjunctions}
use Rattle.cr_meaning_typing.proofs.ExpressionsLemmas.Changes.{integer_updates, shift_updates, sum_updates}
use Rattle.cr_meaning_typing.proofs.ExpressionsLemmas.Places.{literal_placed, literal_filling, group_placed, group_beside, member_placed, member_beside, address_taken, address_followed, address_element}

pub junctions : JunctionsAreGood
junctions = (conjunctions, disjunctions)

pub updates : UpdatesAreGood
updates op back = ((integer_updates op, shift_updates op), sum_updates op back)

pub literals : LiteralsAreGood
literals t limits sorts sees at columns i e f some s =
    (literal_placed t limits sorts sees at columns i e f some s, (λ v. literal_filling t limits sorts sees at columns i e some s v))

pub groups : GroupsAreGood
groups t limits sorts sees at columns i a count e f =
    ((λ h object. group_placed t limits sorts sees at columns i a e count h object), (λ h. group_beside t limits sorts sees at columns i a e f h))

pub members : MembersAreGood
members t limits sorts sees at columns i a count e f inside =
    ((λ h. member_placed t limits sorts sees at columns i a e f inside count h), (λ h among. member_beside t limits sorts sees at columns i a e f inside h among))

pub addresses : AddressesAreGood
addresses p t sorts sees at columns i a e f h = (
  (
    (λ complete x parts g sx. address_followed p t sorts sees at columns i a f h complete x parts g sx),
    (λ complete x y parts g sx sy. address_element p t sorts sees at columns i a f h complete x y parts g sx sy),
  ),
  (λ count g. address_taken p t sorts sees at columns i a f h count e g),
)
