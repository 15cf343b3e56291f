-- `put_ends`: the first bytes are stored at the front, the closing at the end. Assumes nothing.
use Rattle.std.proofs.Common.{◌≡◌, ◌-◌, ◌++◌, length, drop, refl, arith}
use lib.Seq.{sets, length-take-le, length-sets}
use Rattle.vectors.specs.inner.Long.{first_bytes, closing}
use Rattle.report.proofs.Putting.{copied_mid}
use Rattle.vectors.proofs.put_ends.Goals as goal

pub copy_from_slice-requires : goal.copy_from_slice-requires
copy_from_slice-requires c = length-take-le 13 c.args.text.now (omega arith)

pub returns : goal.returns
returns c =
    let text = c.args.text.now in
    let opened = sets text 0 first_bytes in
    let first : c.copy_from_slice.new.self ++ drop 13 text ≡ opened = rw c.copy_from_slice.ensures.after (copied_mid first_bytes text 0 13 refl (omega arith)) in
    rw (c.copy_from_slice-2.ensures.after, first) (copied_mid closing opened (length text - 3) (length opened) (omega (arith, length-sets text 0 first_bytes)) (omega arith))
