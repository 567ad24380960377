-- `steps::matching::put_rows` meets its contract: the figures that were read are the status of the match. Assumes nothing.
use Rattle.std.proofs.Common.{arith, ◌∙◌}
use Rattle.rules.specs.Sheet.{sheet_in}
use Rattle.rules.specs.Step.{is_cut}
use Rattle.steps.proofs.matching.put_rows.Goals as goal

pub returns : goal.returns
unfolding is_cut
returns c =
    let a = c.args in
    let s = sheet_in a.s.now in
    let source = c.rank_at-source in
    let capacity = c.long in
    let long = c.long-long in
    let tag = c.tag-tag in
    record {
      after =
          λ x d o.
          c.match_rows.ensures a.t s x d
          (record {
            sent_inside = o.first;
            received_inside = o.second;
            cut_is = cc (capacity.ensures.is, long.ensures.is);
            source_is = source.ensures.is ∙ d.indexed.rank_is a.m o.first;
            tag_is = tag.ensures.is;
            long_is = long.ensures.is;
            source_fits = omega (arith, source.ensures.small);
            tag_fits = tag.ensures.small;
            long_fits = long.ensures.small;
          });
    }
