use Rattle.std.proofs.Common.{arith, length}
use Rattle.std.specs.List.{between}
use Rattle.std.proofs.lemmas.Slice.{between_to_end}
use Rattle.cr_main_words.proofs.Sifting.{rest_is}
use Rattle.cr_main_words.proofs.flags.rest_of.Goals as goal

pub returns : goal.returns
returns c =
    let list = c.args.list.now in
    let end = c.end_of-end.result in
    rest_is list c.push_all.new.rest.items c.in_ok-rest.rest.items (between end (length list) list) end c.in_ok-push_all.ensures
    (between_to_end list end (length list) (omega arith)) c.in_ok-rest.ensures c.end_of-end.ensures.end
