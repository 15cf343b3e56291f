-- The cycle that is laid out is the one that was found, turned round to its smallest key.
use mathlib.Core.Path.{◌≡◌, ap, subst, sym, ◌∙◌}
use mathlib.Core.List.{List, [], ◌∷◌, ◌++◌, map, map-append}
use Prim.Native.Nat.{ℕ, zero, suc, ◌≤◌, ◌<◌}
use native.Mathlib.Omega.{arith}
use lib.ListN.{length, take, drop, take-append-drop, length-drop}
use lib.Seq.{get_or-drop}
use native.Mathlib.Nat.{add-zero}
use Rattle.std.proofs.lemmas.List.{get_or_append_left}
use Rattle.std.specs.Prelude.{All as Each}
use Rattle.basics.specs.Lists.{All}
use Rattle.diffs.specs.Diff.{Diff, NegCycle, LeastFirst}
use Rattle.diffs.specs.declared.Difference.{Difference}
use Rattle.diffs.specs.inner.Answer.{cell, diff_at, Among, Shown}
use Rattle.diffs.specs.inner.Steps.{LeastKey, turned, Traced, Laid}
use Rattle.diffs.proofs.Laying.{turned-length}
use Rattle.diffs.proofs.Names.{all_join, all_left, all_right}
use Rattle.diffs.proofs.Turning.{turn}

laid_cycle : (S : Diff → Type 0) (c : ℕ → Diff) (w : List ℕ) (q : ℕ) → NegCycle S (map c w) → NegCycle S (map c (turned w q))
laid_cycle S c w q n =
    subst (λ (ds : List Diff). NegCycle S ds) (sym (map-append c (drop q w) (take q w)))
    (turn S (map c (take q w)) (map c (drop q w))
    (subst (λ (ds : List Diff). NegCycle S ds) (ap (map c) (sym (take-append-drop q w)) ∙ map-append c (take q w) (drop q w)) n))

-- ---- what holds of each entry of a walk holds of each that is laid out

all_at : (P : ℕ → Type 0) (l : List ℕ) → Each P l → All P l
all_at P [] h = tt
all_at P (a ∷ l) h = (h zero a (omega arith), all_at P l (λ k d j. h (suc k) d (omega arith)))

all-turned : (P : ℕ → Type 0) (w : List ℕ) (q : ℕ) → Each P w → All P (turned w q)
all-turned P w q p =
    let h : All P (take q w ++ drop q w) = subst (All P) (sym (take-append-drop q w)) (all_at P w p) in
    all_join P (drop q w) (take q w) (all_right P (take q w) (drop q w) h) (all_left P (take q w) (drop q w) h)

-- ---- the smallest key comes first

least-all : (f : ℕ → ℕ) (i : ℕ) (l : List ℕ) → All (λ j. f i ≤ f j) l → All (λ b. f i ≤ b) (map f l)
least-all f i [] h = tt
least-all f i (j ∷ l) h = (h.0, least-all f i l h.1)

least_first : (f : ℕ → ℕ) (i : ℕ) (l : List ℕ) → cell l 0 ≡ i → All (λ j. f i ≤ f j) l → LeastFirst (map f l)
least_first f i [] e h = tt
least_first f i (j ∷ l) e h = subst (λ (n : ℕ). All (λ b. f n ≤ b) (map f l)) (sym e) (least-all f i l h.1)

turned-first : (w : List ℕ) (q : ℕ) → q < length w → cell (turned w q) 0 ≡ cell w q
turned-first w q h = get_or_append_left (drop q w) (take q w) 0 0 (omega (arith, length-drop q w)) ∙ get_or-drop q w 0 0 ∙ ap (cell w) (add-zero q)

-- a negative cycle that was found and laid is shown
pub laid_shown : (ds : List Difference) (keys labels w room room' : List ℕ) (r : ℕ)
    → Traced ds w → Laid keys labels w room room' r → Shown (length ds) (diff_at ds) keys labels room room' r
laid_shown ds keys labels w room room' r v l =
    let g : LeastKey keys w l.first = l.least in
    record {
      numbers = turned w l.first;
      within = all-turned (λ i. i < length ds) w l.first v.numbers.numbers;
      negative = laid_cycle (Among (length ds) (diff_at ds)) (diff_at ds) w l.first v.negative;
      count = l.count ∙ sym (turned-length w l.first (omega (arith, g.before)));
      least = least_first (cell keys) (cell w l.first) (turned w l.first)
          (turned-first w l.first g.before)
          (all-turned (λ j. cell keys (cell w l.first) ≤ cell keys j) w l.first g.least);
      shown = l.shown ∙ ap (λ (i : ℕ). map (cell labels) (turned w l.first) ++ drop i room) (sym l.count);
    }
