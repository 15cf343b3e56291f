-- What is printed tells what was found: names with their earliest times, or the atoms of a negative cycle. Assumes nothing.
use Prim.Native.Nat.{ℕ}
use mathlib.Core.Path.{◌≡◌, sym, ◌∙◌}
use mathlib.Core.List.{List, ◌++◌}
use lib.ListN.{length, drop, length-map}
use lib.Seq.{take-append_seam}
use Rattle.faults.specs.Answer.{got}
use Rattle.timetable.specs.Table.{records_of, table_of}
use Rattle.timetable.proofs.Content.{front-back}
use Rattle.judge.specs.Plan.{Asked, Rooms, Ready, readable}
use Rattle.judge.specs.Judged.{acceptance, Result, Judged, impossible, possible, unsupported, supported, breaks, sound, unreadable, judgeable}
use Rattle.judge.specs.Demand2.{ShowsCycle}
use Rattle.judge.proofs.Judgements.{verdicts, not-accepted}
use Rattle.judge.proofs.Tables.{content, content_within, table_got}
use Rattle.report.specs.Report.{two, list_line, refused_word, accepted_lines, refused_lines, printed}
use Rattle.report.specs.Told.{Times, Tells}

-- how many records names have
records_many : (ns : List ℕ) (u : ℕ → ℕ) → length (records_of ns u) ≡ length ns
unfolding records_of
records_many ns u = length-map ns _

-- the lines of a negative cycle
cycle-lines : (q : Ready) (b : Rooms) (r : Result) (c : ShowsCycle q b r) → printed r.verdict r.rooms ≡ refused_word ++ two 10 (length c.list) ++ list_line c.list
unfolding refused_lines
cycle-lines q b r c = rw (c.is, take-append_seam c.list (drop (length c.list) b.cycle))

module _ (a : Asked) (b : Rooms) (r : Result) where
  -- the lines of an acceptance
  times : Judged a b r → (n : ℕ) → r.verdict ≡ acceptance n → (q : Ready) × (readable a b ≡ got q) × Times q (printed r.verdict r.rooms)
  unfolding accepted_lines
  times (unreadable k p e f) n v = absurd (not-accepted (sym v ∙ verdicts f))
  times (judgeable q e (breaks p f g)) n v = absurd (not-accepted (sym v ∙ verdicts g))
  times (judgeable q e (sound f (unsupported c g h))) n v = absurd (not-accepted (sym v ∙ verdicts h))
  times (judgeable q e (sound f (supported g (impossible cs h i)))) n v = absurd (not-accepted (sym v ∙ verdicts i))
  times (judgeable q e (sound f (supported g (possible u h ns all j)))) n v =
      let c = content ns u q.atoms in
      let o = front-back c (content_within a b q e u h ns all) (drop (length (table_of c)) b.room) in (
        q,
        e,
        record {
          names = ns;
          all = all;
          time = u;
          earliest = h;
          is = rw (j, table_got a b q e u h ns all, o.records, o.names, o.atoms, records_many ns u);
        },
      )

-- every result is told
pub tells : Tells
tells a b r j = record { times = times a b r j; cycle = λ q c. cycle-lines q b r c }
