-- Inner: how large what a reader is given may be. Assumes nothing.
use Rattle.std.specs.Prelude.{ℕ}

-- the longest text of which a rest is read
abbrev pub longest_read : ℕ
longest_read = 65536
