use Rattle.cr_around.specs.Refusals.{Else, IsChanged, IsNoFile, IsNoPlace, IsOfOtherLabel, IsOfOtherOrder, IsOfOtherTest, IsShort, IsUnknown, IsUnwritable, LacksNew}
use Rattle.cr_around.specs.declared.facts.Ending.TheVariants as ending
use Rattle.cr_around.proofs.Rows.{last, more, next, one}
use Rattle.cr_around.proofs.refusal.refusal_of.Goals as goal

pub returns : goal.returns
returns c =
    let f = c.args.facts.now in
    let rows-1 = Else (IsNoFile f) in
    let covers-1 = one (IsNoFile f) c.no_file.result c.no_file.ensures in
    let rows-2 = next rows-1 (IsUnwritable f) in
    let covers-2 = more rows-1 (IsUnwritable f) c.no_file.result c.unwritable.result c.or.result c.or.ensures covers-1 c.unwritable.ensures in
    let rows-3 = next rows-2 (LacksNew f) in
    let covers-3 = more rows-2 (LacksNew f) c.or.result c.no_new.result c.or-2.result c.or-2.ensures covers-2 c.no_new.ensures in
    let rows-4 = next rows-3 (IsNoPlace f ending.Copy) in
    let covers-4 = more rows-3 (IsNoPlace f ending.Copy) c.or-2.result c.no_place.result c.or-3.result c.or-3.ensures covers-3 c.no_place.ensures in
    let rows-5 = next rows-4 (IsNoPlace f ending.Log) in
    let covers-5 = more rows-4 (IsNoPlace f ending.Log) c.or-3.result c.no_place-2.result c.or-4.result c.or-4.ensures covers-4 c.no_place-2.ensures in
    let rows-6 = next rows-5 (IsNoPlace f ending.Best) in
    let covers-6 = more rows-5 (IsNoPlace f ending.Best) c.or-4.result c.no_place-3.result c.or-5.result c.or-5.ensures covers-5 c.no_place-3.ensures in
    let rows-7 = next rows-6 (IsNoPlace f ending.Journal) in
    let covers-7 = more rows-6 (IsNoPlace f ending.Journal) c.or-5.result c.no_place-4.result c.or-6.result c.or-6.ensures covers-6 c.no_place-4.ensures in
    let rows-8 = next rows-7 (IsNoPlace f ending.JournalWords) in
    let covers-8 = more rows-7 (IsNoPlace f ending.JournalWords) c.or-6.result c.no_place-5.result c.or-7.result c.or-7.ensures covers-7 c.no_place-5.ensures in
    let rows-9 = next rows-8 (IsShort f) in
    let covers-9 = more rows-8 (IsShort f) c.or-7.result c.short.result c.or-8.result c.or-8.ensures covers-8 c.short.ensures in
    let rows-10 = next rows-9 (IsUnknown f) in
    let covers-10 = more rows-9 (IsUnknown f) c.or-8.result c.unknown.result c.or-9.result c.or-9.ensures covers-9 c.unknown.ensures in
    let rows-11 = next rows-10 (IsOfOtherTest f c.args.test.now) in
    let covers-11 = more rows-10 (IsOfOtherTest f c.args.test.now) c.or-9.result c.other_test.result c.or-10.result c.or-10.ensures covers-10 c.other_test.ensures in
    let rows-12 = next rows-11 (IsOfOtherOrder f c.args.any_order) in
    let covers-12 = more rows-11 (IsOfOtherOrder f c.args.any_order) c.or-10.result c.other_order.result c.or-11.result c.or-11.ensures covers-11 c.other_order.ensures in
    let rows-13 = next rows-12 (IsOfOtherLabel f c.args.reached.now) in
    let covers-13 = more rows-12 (IsOfOtherLabel f c.args.reached.now) c.or-11.result c.other_label.result c.or-12.result c.or-12.ensures covers-12 c.other_label.ensures in
    last rows-13 (IsChanged f) c.or-12.result c.changed.result c.or-13.result c.or-13.ensures covers-13 c.changed.ensures
