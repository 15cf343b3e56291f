-- `judge::show::part_from` meets its contract. Assumes nothing.
use borrow.Author.Rules.{rules}
use Rattle.judge.proofs.Parts.{part_none, part_bytes, part_fits}
use Rattle.judge.proofs.show.part_from.Goals as goal

pub returns-then-s-place : goal.returns-then-s-place
returns-then-s-place c =
    record {
      bytes = part_none c.args.s.now c.args.place c.min.ensures c.if-s-place.true;
      block = search rules;
      offset = rw (← c.min.ensures) (search rules);
    }

pub slice_bounds-result-end : goal.slice_bounds-result-end
slice_bounds-result-end c = part_fits c.args.s.now c.args.place c.min.ensures c.ends_of.ensures c.part_end.ensures

pub returns : goal.returns
returns c =
    record {
      bytes = part_bytes c.args.s.now c.args.place c.min.ensures c.ends_of.ensures c.part_end.ensures;
      block = search rules;
      offset = rw (← c.min.ensures) (search rules);
    }
