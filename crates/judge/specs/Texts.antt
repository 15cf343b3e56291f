-- Believed: the texts of docs/RULES.md, 'Plan P and its neighbours', as bytes. Assumes nothing.
use Rattle.std.specs.Prelude.{ℕ, List, [], ◌∷◌, ◌++◌}
use Prim.Native.Char.{code}
use Prim.Native.String.{String}
use Prim.Native.String as text

-- the bytes of a text of plain characters, one each
abbrev pub bytes_of : String → List ℕ
bytes_of text.[] = []
bytes_of (text.◌∷◌ c s) = code c ∷ bytes_of s

-- ---- plans

-- P with the numeric terms 5 and 8 as given: recv - send ≤ the first, send - recv ≤ the second negated
abbrev plan_with : (five eight : String) → List ℕ
plan_with five eight =
    bytes_of "asp 1 0 0\n1 1 1 1 0 0\n1 0 1 2 0 1 1\n1 0 1 3 0 0\n9 1 0 4 diff\n9 1 1 1 -\n9 1 2 2 <=\n9 1 3 4 send\n9 1 4 4 recv\n"
    ++ bytes_of five
    ++ bytes_of "9 2 6 1 2 4 3\n9 4 0 1 6 0\n9 6 2 0 1 0 2 5\n"
    ++ bytes_of eight
    ++ bytes_of "9 2 9 1 1 8\n9 2 7 1 2 3 4\n9 4 1 1 7 0\n9 6 3 0 1 1 2 9\n0\n"

-- plan P
unfoldable pub plan_p : List ℕ
plan_p = plan_with "9 0 5 40\n" "9 0 8 5\n"

-- plan Q: P with 45 for 5
unfoldable pub plan_q : List ℕ
plan_q = plan_with "9 0 5 40\n" "9 0 8 45\n"

-- P with 5 for 40
unfoldable pub plan_tight : List ℕ
plan_tight = plan_with "9 0 5 5\n" "9 0 8 5\n"

-- P without its third line
unfoldable pub plan_external : List ℕ
plan_external =
    bytes_of "asp 1 0 0\n1 1 1 1 0 0\n1 0 1 3 0 0\n9 1 0 4 diff\n9 1 1 1 -\n9 1 2 2 <=\n9 1 3 4 send\n9 1 4 4 recv\n9 0 5 40\n"
    ++ bytes_of "9 2 6 1 2 4 3\n9 4 0 1 6 0\n9 6 2 0 1 0 2 5\n9 0 8 5\n9 2 9 1 1 8\n9 2 7 1 2 3 4\n9 4 1 1 7 0\n9 6 3 0 1 1 2 9\n0\n"

-- rules 1 from 2 and 2 from 1 alone
unfoldable pub plan_loop : List ℕ
plan_loop = bytes_of "asp 1 0 0\n1 0 1 1 0 1 2\n1 0 1 2 0 1 1\n0\n"

-- only the rule 1 from not 1
unfoldable pub plan_odd : List ℕ
plan_odd = bytes_of "asp 1 0 0\n1 0 1 1 0 1 -1\n0\n"
