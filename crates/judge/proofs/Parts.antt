-- The part of a line from a place on, by its places. Assumes nothing.
use Prim.Native.Nat.{ℕ, ◌+◌, ◌-◌, ◌≤◌, min}
use mathlib.Core.Path.{◌≡◌, refl, ap, sym, ◌∙◌}
use mathlib.Core.Bool.{Bool, true, false}
use mathlib.Core.List.{List, []}
use native.Mathlib.Omega.{arith}
use borrow.Author.Tests.{eqb-true}
use lib.Dec.{eqb}
use lib.ListN.{length, take, drop, drop_of_length-le}
use Rattle.std.proofs.lemmas.List.{drop_min, take_all, length-drop}
use lib.Seq.{drop-length, take-nil}
use denote.Ref.{Bor}
use Rattle.fields.specs.declared.LineEnd.{LineEnd}
use Rattle.fields.specs.Fields.{until, breaks, ends_of, part_from}
use Rattle.fields.proofs.Runs.{run_out, until-take}
use Rattle.judge.specs.Shown.{in_text, shown, Part, IsShown}

-- beyond the end there is nothing
pub part_out : (s : List ℕ) (i : ℕ) → length s ≤ i → part_from s i ≡ []
unfolding part_from
part_out s i h = run_out (breaks (ends_of s)) s i h

module _ (s : List ℕ) (i : ℕ) {m : ℕ} (f : m ≡ min i (length s)) where
  -- the rest is what stands from the place on
  rest_is : take (length s - m) (drop m s) ≡ drop i s
  rest_is = take_all (length s - m) (drop m s) (omega (arith, length-drop m s)) ∙ rw f (drop_min i s)

  -- beyond the end it is the part, which is nothing
  pub part_none : length s ≤ i → take (length s - m) (drop m s) ≡ part_from s i
  part_none h = rest_is ∙ drop_of_length-le s h ∙ sym (part_out s i h)

  module _ {e : ℕ} {k : LineEnd} (g : k ≡ ends_of s) (h : e ≡ 0 + length (until (breaks k) (drop 0 (take (length s - m) (drop m s))))) where
    -- it is cut where the part ends
    size : e ≡ length (until (breaks (ends_of s)) (drop i s))
    size = omega (arith, rw (g, rest_is) at h)

    -- so it has the bytes of the part
    pub part_bytes : take e (take (length s - m) (drop m s)) ≡ part_from s i
    unfolding part_from
    part_bytes = rw (rest_is, size) (until-take (breaks (ends_of s)) (drop i s))

    -- and the part ends within it
    pub part_fits : e ≡ length (take e (take (length s - m) (drop m s)))
    unfolding part_from
    part_fits = rw part_bytes size

-- what stands behind the end is nothing
pub behind_end : (s : List ℕ) → take (length s - length s) (drop (length s) s) ≡ []
behind_end s = ap (take (length s - length s)) (drop-length s) ∙ take-nil (length s - length s)

-- ---- what is shown

not-both : {t : Bool} → t ≡ true → t ≡ false → ⊥
not-both e f = let z : ◌≡◌ {A = ℕ} 0 1 = (cc) in omega arith

-- 7 is not shown from the text
seven_elsewhere : (k : ℕ) → in_text k ≡ true → eqb k 7 ≡ true → ⊥
seven_elsewhere k t e = let z : k ≡ 7 = eqb-true k 7 e in let g : in_text 7 ≡ true = rw z at t in not-both g refl

-- what is shown from neither is nothing
pub shown-none : (k place : ℕ) (text cand : List ℕ) → in_text k ≡ false → eqb k 7 ≡ false → [] ≡ shown k place text cand
unfolding shown
shown-none k place text cand e f = rw (e, f)

module _ (r text cand : Bor (List ℕ)) (k place : ℕ) where
  -- a part of the text
  pub shows_text : Part r text place → in_text k ≡ true → IsShown r text cand k place
  unfolding shown
  shows_text p e = record { bytes = rw e p.bytes; of_text = λ g. p; of_candidate = λ g. absurd (seven_elsewhere k e g) }

  -- a part of the candidate
  pub shows_candidate : Part r cand place → in_text k ≡ false → eqb k 7 ≡ true → IsShown r text cand k place
  unfolding shown
  shows_candidate p e f = record { bytes = rw (e, f) p.bytes; of_text = λ g. absurd (not-both g e); of_candidate = λ g. p }

  -- nothing
  pub shows_none : r.now ≡ [] → in_text k ≡ false → eqb k 7 ≡ false → IsShown r text cand k place
  shows_none p e f = record { bytes = p ∙ shown-none k place text.now cand.now e f; of_text = λ g. absurd (not-both g e); of_candidate = λ g. absurd (not-both g f) }
