-- Writing in steps: what follows where a step ends is one step with it, and a step that fits leaves the next its place. Assumes nothing.
use Prim.Native.Nat.{ℕ, ◌+◌, ◌-◌, ◌≤◌}
use mathlib.Core.Path.{◌≡◌, ap, sym, ◌∙◌}
use mathlib.Core.List.{List, [], ◌++◌, append_assoc}
use native.Mathlib.Omega.{arith}
use lib.ListN.{length, take, drop, length-append}
use lib.Seq.{sets, sets-eq, length-sets, length-take-le, drop-drop}
use Rattle.io.specs.Counts.{IsPrefixLen}
use Rattle.timetable.proofs.Stores.{sets_next}
use Rattle.report.specs.inner.Steps.{Put, RoomAt}

module _ {xs a : List ℕ} {o : ℕ} {b : List ℕ} {p : ℕ} (s : Put xs a o b p) where
  -- a step, and one that begins where it ends
  pub put_both : {ys d : List ℕ} {q : ℕ} → Put ys b p d q → Put (xs ++ ys) a o d q
  put_both {ys} {d} {q} t = record {
    is = t.is ∙ sets_next a b o p xs ys s.is s.ends;
    ends = omega (arith, s.ends, t.ends, length-append xs ys);
  }

  -- a step leaves the length
  pub put-length : length b ≡ length a
  put-length = ap length s.is ∙ length-sets a o xs

  -- where both steps fit, the second fits
  pub fits-second : (ys : List ℕ) → RoomAt (xs ++ ys) a o → RoomAt ys b p
  fits-second ys h = record { fits = omega (arith, h.fits, put-length, s.ends, length-append xs ys) }

-- what fits from the first place on counts bytes there
pub put-counts : {xs a b : List ℕ} {n : ℕ} → RoomAt xs a 0 → Put xs a 0 b n → IsPrefixLen n b
put-counts {xs} {a} {b} {n} h s =
    let l : n ≤ length b = omega (arith, h.fits, s.ends, put-length s) in
    (l, sym (length-take-le n b l))

-- where both steps fit, the first fits
pub fits-first : {xs a : List ℕ} {o : ℕ} (ys : List ℕ) → RoomAt (xs ++ ys) a o → RoomAt xs a o
fits-first {xs} ys h = record { fits = omega (arith, h.fits, length-append xs ys) }

-- ---- one step after another

-- bytes that are still to come, of the bytes to be written at a place
pub record Rest (rest whole a : List ℕ) (o : ℕ) (b : List ℕ) (p : ℕ) : Type 0 where
  pub is : sets b p rest ≡ sets a o whole
  pub ends : p + length rest ≡ o + length whole
  pub size : length b ≡ length a

module _ {rest whole a : List ℕ} {o : ℕ} {b : List ℕ} {p : ℕ} (h : Rest rest whole a o b p) where
  -- they fit where all fit
  pub rest-fits : RoomAt whole a o → RoomAt rest b p
  rest-fits f = record { fits = omega (arith, f.fits, h.ends, h.size) }

  -- a step leaves the others
  pub rest_step : (xs ys : List ℕ) {d : List ℕ} {q : ℕ} → rest ≡ xs ++ ys → Put xs b p d q → Rest ys whole a o d q
  rest_step xs ys {d} {q} e s = record {
    is = sets_next b d p q xs ys s.is s.ends ∙ ap (sets b p) (sym e) ∙ h.is;
    ends = omega (arith, h.ends, s.ends, ap length e, length-append xs ys);
    size = put-length s ∙ h.size;
  }

  -- none are left
  pub rest-none : rest ≡ [] → Put whole a o b p
  rest-none e = record { is = ap (sets b p) (sym e) ∙ h.is; ends = omega (arith, h.ends, ap length e) }

-- ---- a part copied

-- a part that is copied in its place, from a to before e, is stored there
pub copied_mid : (part l : List ℕ) (a e : ℕ) → e ≡ a + length part → e ≤ length l → take a l ++ (part ++ drop (e - a) (drop a l)) ≡ sets l a part
copied_mid part l a e h n =
    let k : e - a ≡ length part = omega arith in
    rw (k, drop-drop (length part) a l, sets-eq part l a (omega arith), append_assoc)
