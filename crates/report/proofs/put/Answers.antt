-- `put`: the part is copied in its place. Assumes nothing.
use Rattle.std.proofs.Common.{refl}
use Rattle.report.proofs.Putting.{copied_mid}
use Rattle.report.proofs.put.Goals as goal

pub returns : goal.returns
returns c = record {
  is = rw c.copy_from_slice.ensures.after (copied_mid c.args.part.now c.args.out.now c.args.at _ refl c.requires.fits);
  ends = refl;
}
