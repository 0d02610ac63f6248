use Rattle.std.proofs.Common.{◌≡◌, ◌∙◌, ℕ, ap, arith, length, sym}
use Rattle.std.specs.List.{list_all}
use Rattle.pass_names.specs.Reach.{entity_at, fits, is_within, number_of}
use Rattle.pass_names.proofs.Outer.{own_all, own_more, own_none}
use Rattle.pass_names.proofs.reach.outer_uses.Goals as goal

pub loop-at-init : goal.loop-at-init
loop-at-init c = record {
  count = c.in_ok-all.ensures.count ∙ c.len.ensures;
  told = λ first last token. ap (fits first last) (c.in_ok-all.ensures.none token) ∙ sym (own_none c.args.names.now (number_of c.args.names.now token) first last token);
}

pub loop-at-preserved : goal.loop-at-preserved
loop-at-preserved c =
    let names = c.args.names.now in
    let at = c.loop-at.at in
    record {
      count = c.put_all.ensures.count;
      told = λ first last token.
          ap (fits first last) (c.put_all.ensures.put token)
          ∙ own_more names at first last token _ c.outer_of.result (number_of names token)
          (c.outer_of.ensures first last ∙ ap (list_all (is_within first last)) c.uses_at.ensures) (c.loop-at.invariant.told first last token);
    }

pub returns : goal.returns
returns c = λ first last token.
    let names = c.args.names.now in
    c.loop-at.invariant.told first last token ∙ own_all names (number_of names token) c.loop-at.at first last token (omega arith)
