use Rattle.cr_check_unit.proofs.Kept.{are_ready}
use Rattle.cr_check_unit.proofs.typing.columns_of.Goals as goal

pub returns-clause-within : goal.returns-clause-within
returns-clause-within c = λ shapes h. are_ready shapes c.args.typing.now
    (record {
      facts = c.as_slice.result;
      specified = c.as_slice-2.result;
      named = c.as_slice-3.result;
      declarators = c.as_slice-4.result;
      derivations = c.as_slice-5.result;
      declared = c.as_slice-6.result;
      parameters = c.as_slice-7.result;
      members = c.as_slice-8.result;
      layouts = c.as_slice-9.result;
      fixed = c.as_slice-10.result;
      enumerated = c.as_slice-11.result;
    })
    c.as_slice.ensures c.as_slice-3.ensures c.as_slice-5.ensures c.as_slice-6.ensures c.as_slice-7.ensures c.as_slice-8.ensures h
