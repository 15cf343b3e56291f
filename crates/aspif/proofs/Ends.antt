-- The line end that reading meets is the first of the text, so it is of the kind by which a part is shown. Assumes nothing.
use Prim.Native.Nat.{ℕ, zero, suc, ◌+◌, ◌<◌}
use mathlib.Core.Path.{◌≡◌, refl, sym, ap, ◌∙◌}
use mathlib.Core.Bool.{Bool, true, false, ◌||◌, ◌&&◌}
use mathlib.Core.List.{List, [], ◌∷◌, ◌++◌}
use native.Mathlib.Omega.{arith}
use native.Mathlib.Nat.{zero-add}
use borrow.Author.Tests.{eq-eqb, ne_eqb, eqb-true, eqb-false, ltb-false}
use lib.Dec.{eqb, leb, ltb, lit<}
use lib.ListN.{length, take, drop, length-take}
use lib.Seq.{drop-drop}
use Rattle.basics.specs.Bools.{pick}
use Rattle.basics.specs.Lists.{All, NotIn}
use Rattle.basics.proofs.Bools.{or_neither}
use Rattle.faults.specs.Limits.{last_atom}
use Rattle.faults.specs.Answer.{got}
use Rattle.fields.specs.declared.LineEnd.{LineEnd}
use Rattle.fields.specs.declared.LineEnd.TheVariants as by
use Rattle.fields.specs.Reading.{Reading, found, fault, is_found, and_then}
use Rattle.fields.specs.Fields.{space, feed, return, byte_at, byte, bytes, text_end, until, return_feed, ends_line, line_end, first_end, ends_of, ends_field, field, is_natural, value, natural}
use Rattle.fields.proofs.Runs.{run_stop, run_more}
use Rattle.fields.proofs.LineEnds.{ends_here, ends_return, ends-feed}
use Rattle.fields.proofs.Naturals.{byte-read, there}
use Rattle.fields.proofs.Readers.{reads-ends, line_end-reads}
use Rattle.aspif.specs.declared.lines.Header.{Header}
use Rattle.aspif.specs.Grammar.{opening, no_tag, first_line, answer}
use Rattle.aspif.specs.Candidate.{sevenfold, atom_above, ending, ascending, candidate_line, candidate}
use Rattle.aspif.specs.Ends.{ReturnFirst, ByFirstFeed, TextMet, CandidateMet}
use Rattle.aspif.proofs.Fronts.{near_line, byte-front}

-- ---- the first line end from a place on

-- stands at n
abbrev FirstEnd : List ℕ → (at n : ℕ) → Type 0
FirstEnd s at n = n ≡ at + length (until ends_line (drop at s))

-- a line end that is met stands there, and its first byte says which it is
data Met (s : List ℕ) (n : ℕ) : LineEnd → Type 0 where
  feed_met : byte_at s n ≡ feed → Met s n by.Feed
  return_met : byte_at s n ≡ return → byte_at s (n + 1) ≡ feed → Met s n by.Return

met : (s : List ℕ) (n : ℕ) (e : LineEnd) (m : ℕ) → line_end s n ≡ found e m → Met s n e
unfolding line_end
met s n e m = go (eqb (byte_at s n) feed) refl (eqb (byte_at s n) return) refl (eqb (byte_at s (n + 1)) feed) refl
  where
    go : (t : Bool) → eqb (byte_at s n) feed ≡ t → (u : Bool) → eqb (byte_at s n) return ≡ u → (w : Bool) → eqb (byte_at s (n + 1)) feed ≡ w
        → pick t (found by.Feed (n + 1)) (pick (u && w) (found by.Return (n + 2)) (fault 3 n)) ≡ found e m → Met s n e
    go true p u q w r d = let z : by.Feed ≡ e = (cc) in let g : Met s n by.Feed = feed_met (eqb-true _ _ p) in rw z at g
    go false p true q true r d = let z : by.Return ≡ e = (cc) in let g : Met s n by.Return = return_met (eqb-true _ _ q) (eqb-true _ _ r) in rw z at g
    go false p true q false r d = let z : ◌≡◌ {A = ℕ} 0 1 = (cc) in absurd (omega arith)
    go false p false q w r d = let z : ◌≡◌ {A = ℕ} 0 1 = (cc) in absurd (omega arith)

-- so it is the first from there on
first_here : (s : List ℕ) (n : ℕ) (e : LineEnd) → Met s n e → FirstEnd s n n
first_here s n _ (feed_met p) =
    omega (arith, ap length (run_stop ends_line s n (there feed s n (lit< tt) p) (rw (ends_here s n, p))))
first_here s n _ (return_met p q) =
    omega (arith, ap length (run_stop ends_line s n (there return s n (lit< tt) p) (rw (ends_here s n, p, q))))

-- and if it is the first of all, it is of the text's kind
ends_met : (s : List ℕ) (n : ℕ) (e : LineEnd) → FirstEnd s 0 n → Met s n e → ends_of s ≡ e
ends_met s n _ f (feed_met p) = sym (ends-feed s f (λ q. omega arith))
ends_met s n _ f (return_met p q) = sym (ends_return s f p)

-- a byte that begins no line end is passed over
first_more : (s : List ℕ) (at n : ℕ) → at < length s → eqb (byte_at s at) feed ≡ false → eqb (byte_at s at) return ≡ false → FirstEnd s (at + 1) n → FirstEnd s at n
first_more s at n l p q f = omega (arith, ap length (run_more ends_line s at l (rw (ends_here s at, p, q))))

-- ---- the text

-- a byte that is in the text, and in no line end
abbrev Plain : ℕ → Type 0
Plain b = (0 < b) × (eqb b feed ≡ false) × (eqb b return ≡ false)

-- such bytes, one by one
first-bytes : (s bs : List ℕ) → All Plain bs → (at m n : ℕ)
    → bytes bs s at ≡ found tt m → FirstEnd s m n → FirstEnd s at n
unfolding bytes
first-bytes s [] h at m n e f = let z : at ≡ m = (cc) in rw z f
first-bytes s (b ∷ bs) h at m n e f = go (λ i. first-bytes s bs h.1 (at + 1) m n i f) (byte b s at) refl e
  where
    go : (bytes bs s (at + 1) ≡ found tt m → FirstEnd s (at + 1) n) → (a : Reading (Unit {0})) → a ≡ byte b s at
        → and_then a (λ u o. bytes bs s o) ≡ found tt m → FirstEnd s at n
    go more (found u o) d i =
        let r = byte-read b s at d in
        first_more s at n (there b s at h.0.0 r.0) (rw r.0 h.0.1) (rw r.0 h.0.2) (more (rw r.1 at i))
    go more (fault k p) d i = let z : ◌≡◌ {A = ℕ} 0 1 = (cc) in absurd (omega arith)

opening_plain : All Plain opening
opening_plain =
    (p (lit< tt), (p (lit< tt), (p (lit< tt), (p (lit< tt), (p (lit< tt), (p (lit< tt), (p (lit< tt), (p (lit< tt), (p (lit< tt), tt)))))))))
  where
    p : {b : ℕ} → 13 < b → Plain b
    p {b} h = (omega arith, ne_eqb b feed (λ e. omega arith), ne_eqb b return (λ e. omega arith))

pub text_met : TextMet
unfolding first_line no_tag
text_met s first n e = go (bytes opening s 0) refl e
  where
    ended : (m : ℕ) → bytes opening s 0 ≡ found tt m → (a : Reading LineEnd) → line_end s m ≡ a → and_then a (λ f o. found (record { ends = f }) o) ≡ found first n
        → ends_of s ≡ first.ends
    ended m d (found f o) i j =
        let z : ◌≡◌ {A = Header} (record { ends = f }) first = (cc) in
        let g = met s m f o i in
        ends_met s m f (first-bytes s opening opening_plain 0 m m d (first_here s m f g)) g ∙ ap (λ (h : Header). h.ends) z
    ended m d (fault k p) i j = let z : ◌≡◌ {A = ℕ} 0 1 = (cc) in absurd (omega arith)

    tagged : (m : ℕ) → bytes opening s 0 ≡ found tt m → (t : Bool)
        → and_then (pick t (fault 4 m) (line_end s m)) (λ f o. found (record { ends = f }) o) ≡ found first n → ends_of s ≡ first.ends
    tagged m d true i = let z : ◌≡◌ {A = ℕ} 0 1 = (cc) in absurd (omega arith)
    tagged m d false i = ended m d (line_end s m) refl i

    go : (a : Reading (Unit {0})) → bytes opening s 0 ≡ a
        → and_then a (λ u m. and_then (no_tag s m) (λ f o. found (record { ends = f }) o)) ≡ found first n → ends_of s ≡ first.ends
    go (found u m) d i = tagged m d (eqb (byte_at s m) space) i
    go (fault k p) d i = let z : ◌≡◌ {A = ℕ} 0 1 = (cc) in absurd (omega arith)

-- ---- the candidate

-- if f stops only where g does, the bytes before f are those before g and, from there on, those before f
until_further : (f g : List ℕ → Bool) → ((l : List ℕ) → g l ≡ false → f l ≡ false) → (l : List ℕ)
    → length (until f l) ≡ length (until g l) + length (until f (drop (length (until g l)) l))
unfolding until
until_further f g h [] = refl
until_further f g h (b ∷ bs) = go (g (b ∷ bs)) refl (until_further f g h bs)
  where
    go : (t : Bool) → g (b ∷ bs) ≡ t → length (until f bs) ≡ length (until g bs) + length (until f (drop (length (until g bs)) bs))
        → length (until f (b ∷ bs)) ≡ length (pick t [] (b ∷ until g bs)) + length (until f (drop (length (pick t [] (b ∷ until g bs))) (b ∷ bs)))
    go true q r = omega arith
    go false q r = rw (h (b ∷ bs) q) (omega arith)

-- a field
first_field : (s : List ℕ) (at m n : ℕ) → m ≡ at + length (field s at) → FirstEnd s m n → FirstEnd s at n
unfolding field
first_field s at m n e f =
    let u = until_further ends_line ends_field (λ l q. (or_neither (eqb (byte_at l 0) space) (ends_line l) q).1) (drop at s) in
    let d = ap (λ l. length (until ends_line l)) (drop-drop (length (until ends_field (drop at s))) at s) in
    let g = rw e at f in
    omega arith

-- the line end that ends the candidate, and is the first from a place on
record LastEnd (s : List ℕ) (at : ℕ) : Type 0 where
  place : ℕ
  ends : LineEnd
  is : line_end s place ≡ found ends (length s)
  first : FirstEnd s at place

ending-ends : (s : List ℕ) (at n : ℕ) → ending s at ≡ found tt n → LastEnd s at
unfolding ending text_end
ending-ends s at n = go (line_end s at) refl
  where
    over : (e : LineEnd) (m : ℕ) → line_end s at ≡ found e m → (t : Bool) → ltb m (length s) ≡ t
        → sevenfold (pick t (fault 3 m) (found (tt {0}) m)) ≡ found tt n → LastEnd s at
    over e m d true q i = let z : ◌≡◌ {A = ℕ} 0 1 = (cc) in absurd (omega arith)
    over e m d false q i =
        let w = reads-ends (lit< tt) (line_end-reads s at) e m (sym d) in
        let z : m ≡ length s = omega (arith, ltb-false m (length s) q) in
        record { place = at; ends = e; is = rw z at d; first = first_here s at e (met s at e m d) }

    go : (a : Reading LineEnd) → line_end s at ≡ a → sevenfold (and_then a (λ e m. pick (ltb m (length s)) (fault 3 m) (found (tt {0}) m))) ≡ found tt n → LastEnd s at
    go (found e m) d i = over e m d (ltb m (length s)) refl i
    go (fault k p) d i = let z : ◌≡◌ {A = ℕ} 0 1 = (cc) in absurd (omega arith)

-- an atom ends where its field does
above-ends : (low : ℕ) (s : List ℕ) (at v m : ℕ) → atom_above low s at ≡ found v m → m ≡ at + length (field s at)
unfolding atom_above natural
above-ends low s at v m = go (is_natural (field s at)) (leb (value 0 (field s at)) last_atom) (leb (value 0 (field s at)) low)
  where
    go : (t u w : Bool)
        → and_then (sevenfold (pick t (pick u (found (value 0 (field s at)) (at + length (field s at))) (fault 7 at)) (fault 3 at))) (λ v n. pick (leb v low) (fault 7 at) (found v n)) ≡ found v m
        → m ≡ at + length (field s at)
    go true true w e = kept (leb (value 0 (field s at)) low) e
      where
        kept : (w : Bool) → pick w (fault 7 at) (found (value 0 (field s at)) (at + length (field s at))) ≡ found v m → m ≡ at + length (field s at)
        kept true e = let z : ◌≡◌ {A = ℕ} 0 1 = (cc) in absurd (omega arith)
        kept false e = (cc)
    go true false w e = let z : ◌≡◌ {A = ℕ} 0 1 = (cc) in absurd (omega arith)
    go false u w e = let z : ◌≡◌ {A = ℕ} 0 1 = (cc) in absurd (omega arith)

ascending-ends : (n low : ℕ) (s : List ℕ) (at : ℕ) (vs : List ℕ) (l : ℕ) → ascending n low s at ≡ found vs l → LastEnd s at
unfolding ascending
ascending-ends zero low s at vs l e = let z : ◌≡◌ {A = ℕ} 0 1 = (cc) in absurd (omega arith)
ascending-ends (suc n) low s at vs l e = go (λ v m ws. ascending-ends n v s (m + 1) ws) (atom_above low s at) refl e
  where
    back : (v m : ℕ) → atom_above low s at ≡ found v m → LastEnd s m → LastEnd s at
    back v m d c = record { place = c.place; ends = c.ends; is = c.is; first = first_field s at m c.place (above-ends low s at v m d) c.first }

    next : (v m : ℕ) → byte_at s m ≡ space → LastEnd s (m + 1) → LastEnd s m
    next v m b c = record {
      place = c.place;
      ends = c.ends;
      is = c.is;
      first = first_more s m c.place (there space s m (lit< tt) b) (rw b) (rw b) c.first;
    }

    on : (v m : ℕ) → ((ws : List ℕ) (k : ℕ) → ascending n v s (m + 1) ≡ found ws k → LastEnd s (m + 1)) → (t : Bool) → eqb (byte_at s m) space ≡ t
        → pick t (and_then (ascending n v s (m + 1)) (λ ws k. found (v ∷ ws) k)) (and_then (ending s m) (λ u k. found (v ∷ []) k)) ≡ found vs l → LastEnd s m
    on v m r true q = more (ascending n v s (m + 1)) refl
      where
        more : (a : Reading (List ℕ)) → ascending n v s (m + 1) ≡ a → and_then a (λ ws k. found (v ∷ ws) k) ≡ found vs l → LastEnd s m
        more (found ws k) d i = next v m (eqb-true (byte_at s m) space q) (r ws k d)
        more (fault k p) d i = let z : ◌≡◌ {A = ℕ} 0 1 = (cc) in absurd (omega arith)
    on v m r false q = last (ending s m) refl
      where
        last : (a : Reading (Unit {0})) → ending s m ≡ a → and_then a (λ u k. found (v ∷ []) k) ≡ found vs l → LastEnd s m
        last (found u k) d i = ending-ends s m k d
        last (fault k p) d i = let z : ◌≡◌ {A = ℕ} 0 1 = (cc) in absurd (omega arith)

    go : ((v m : ℕ) (ws : List ℕ) (k : ℕ) → ascending n v s (m + 1) ≡ found ws k → LastEnd s (m + 1)) → (a : Reading ℕ) → atom_above low s at ≡ a
        → and_then a (λ v m.
        pick (eqb (byte_at s m) space) (and_then (ascending n v s (m + 1)) (λ ws k. found (v ∷ ws) k)) (and_then (ending s m) (λ u k. found (v ∷ []) k))) ≡ found vs l
        → LastEnd s at
    go r (found v m) d i = back v m d (on v m (r v m) (eqb (byte_at s m) space) refl i)
    go r (fault k p) d i = let z : ◌≡◌ {A = ℕ} 0 1 = (cc) in absurd (omega arith)

candidate-ends : (s vs : List ℕ) (n : ℕ) → candidate_line s 0 ≡ found vs n → LastEnd s 0
unfolding candidate_line
candidate-ends s vs n = go (is_found (line_end s 0))
  where
    empty : (a : Reading (Unit {0})) → ending s 0 ≡ a → and_then a (λ u k. found [] k) ≡ found vs n → LastEnd s 0
    empty (found u k) d i = ending-ends s 0 k d
    empty (fault k p) d i = let z : ◌≡◌ {A = ℕ} 0 1 = (cc) in absurd (omega arith)

    go : (t : Bool) → pick t (and_then (ending s 0) (λ u k. found [] k)) (ascending last_atom 0 s 0) ≡ found vs n → LastEnd s 0
    go true e = empty (ending s 0) refl e
    go false e = ascending-ends last_atom 0 s 0 vs n e

-- ---- a candidate that goes on

-- the first line end of a front is the first of all
first-front : (p : ℕ) (l : List ℕ) → first_end (take p l) < length (take p l) → first_end l ≡ first_end (take p l)
unfolding until byte_at
first-front zero l h = absurd (omega arith)
first-front (suc p) [] h = refl
first-front (suc zero) (b ∷ bs) h = go (eqb b feed) (eqb b return) h
  where
    go : (t u : Bool) → length (pick (t || (u && false)) [] (b ∷ [])) < 1
        → length (pick (t || (u && eqb (byte_at bs 0) feed)) [] (b ∷ until ends_line bs)) ≡ length (pick (t || (u && false)) [] (b ∷ []))
    go true u k = refl
    go false true k = absurd (omega arith)
    go false false k = absurd (omega arith)
first-front (suc (suc p)) (b ∷ bs) h = go (ends_line (b ∷ bs)) (near_line b p bs) (first-front (suc p) bs) h
  where
    go : (t : Bool) → ends_line (b ∷ take (suc p) bs) ≡ t → (first_end (take (suc p) bs) < length (take (suc p) bs) → first_end bs ≡ first_end (take (suc p) bs))
        → first_end (b ∷ take (suc p) bs) < length (b ∷ take (suc p) bs)
        → length (pick t [] (b ∷ until ends_line bs)) ≡ first_end (b ∷ take (suc p) bs)
    go true q r k = rw q
    go false q r k = let j = rw q at k in rw q (omega (arith, r (omega arith)))

-- how many bytes a line end has
size : LineEnd → ℕ
size by.Feed = 1
size by.Return = 2

-- a line end that stands there is read
meets : (s : List ℕ) (n : ℕ) (e : LineEnd) → Met s n e → line_end s n ≡ found e (n + size e)
unfolding line_end size
meets s n _ (feed_met p) = rw p
meets s n _ (return_met p q) = rw (p, q)

-- what stands in a front stands in the text
within : (p : ℕ) (s : List ℕ) (n : ℕ) → n < length (take p s) → n < p
within p s n h = omega (arith, length-take p s)

met_front : (p : ℕ) (s : List ℕ) (n : ℕ) (e : LineEnd) → Met (take p s) n e → Met s n e
met_front p s n _ (feed_met h) = feed_met (sym (byte-front p s n (within p s n (there feed (take p s) n (lit< tt) h))) ∙ h)
met_front p s n _ (return_met h k) =
    return_met (sym (byte-front p s n (within p s n (there return (take p s) n (lit< tt) h))) ∙ h)
    (sym (byte-front p s (n + 1) (within p s (n + 1) (there feed (take p s) (n + 1) (lit< tt) k))) ∙ k)

pub candidate_met : CandidateMet
unfolding candidate
candidate_met s vs p l e = go (candidate_line (take p s) 0) refl e
  where
    whole : LastEnd (take p s) 0 → line_end s (first_end s) ≡ found (ends_of s) p
    whole c =
        let g = met (take p s) c.place c.ends (length (take p s)) c.is in
        let w = meets (take p s) c.place c.ends g in
        let z : length (take p s) ≡ c.place + size c.ends = (cc) in
        let f : first_end (take p s) ≡ c.place = sym (c.first ∙ zero-add _) in
        let b = reads-ends (lit< tt) (line_end-reads (take p s) c.place) c.ends (length (take p s)) (sym c.is) in
        let i : first_end s ≡ c.place = first-front p s (omega arith) ∙ f in
        let j = met_front p s c.place c.ends g in
        let k : ends_of s ≡ c.ends = ends_met s c.place c.ends (sym (zero-add _ ∙ i)) j in
        let q : p ≡ c.place + size c.ends = omega (arith, length-take p s) in
        rw (i, k, q) (meets s c.place c.ends j)

    go : (a : Reading (List ℕ)) → candidate_line (take p s) 0 ≡ a → answer a ≡ got vs → line_end s (first_end s) ≡ found (ends_of s) p
    go (found ws n) d i = whole (candidate-ends (take p s) ws n d)
    go (fault k q) d i = let z : ◌≡◌ {A = ℕ} 0 1 = (cc) in absurd (omega arith)

-- ---- by the first byte 10

-- behind bytes of which none is 10 the next is not 10 either, if it is 13
next_other : (bs back : List ℕ) → NotIn feed bs → eqb (byte_at (bs ++ (return ∷ feed ∷ back)) 0) feed ≡ false
unfolding byte_at
next_other [] back h = refl
next_other (b ∷ bs) back h = ne_eqb b feed (λ e. h.0 (sym e))

return-first : (front back : List ℕ) → NotIn feed front → byte_at (front ++ (return ∷ feed ∷ back)) (first_end (front ++ (return ∷ feed ∷ back))) ≡ return
unfolding until byte_at
return-first [] back h = refl
return-first (b ∷ bs) back h = go (return-first bs back h.1) (ne_eqb b feed (λ e. h.0 (sym e))) (next_other bs back h.1) (eqb b return)
  where
    go : byte_at (bs ++ (return ∷ feed ∷ back)) (first_end (bs ++ (return ∷ feed ∷ back))) ≡ return → eqb b feed ≡ false
        → eqb (byte_at (bs ++ (return ∷ feed ∷ back)) 0) feed ≡ false → (u : Bool)
        → byte_at (b ∷ bs ++ (return ∷ feed ∷ back))
        (length (pick (eqb b feed || (u && eqb (byte_at (bs ++ (return ∷ feed ∷ back)) 0) feed)) [] (b ∷ until ends_line (bs ++ (return ∷ feed ∷ back)))))
        ≡ return
    go r p q true = rw (p, q) r
    go r p q false = rw p r

first-return : (s : List ℕ) → byte_at s (first_end s) ≡ return → ReturnFirst s
unfolding until byte_at
first-return [] e = absurd (omega arith)
first-return (b ∷ bs) e = go (ends_line (b ∷ bs)) refl (first-return bs) e
  where
    here : (cs : List ℕ) → b ≡ return → ends_line (b ∷ cs) ≡ true → ReturnFirst (b ∷ cs)
    here [] z q = let g = rw z at q in let y : ◌≡◌ {A = ℕ} 0 1 = (cc) in absurd (omega arith)
    here (c ∷ cs) z q =
        let g : eqb c feed ≡ true = rw z at q in
        record { front = []; back = cs; is = rw (z, eqb-true c feed g); none = tt }

    go : (t : Bool) → ends_line (b ∷ bs) ≡ t → (byte_at bs (first_end bs) ≡ return → ReturnFirst bs)
        → byte_at (b ∷ bs) (length (pick t [] (b ∷ until ends_line bs))) ≡ return → ReturnFirst (b ∷ bs)
    go true q r d = here bs d q
    go false q r d =
        let w = r d in
        record { front = b ∷ w.front; back = w.back; is = ap {B = List ℕ} (λ l. b ∷ l) w.is; none = ((λ z. eqb-false b feed (or_neither (eqb b feed) (return_feed (b ∷ bs) 0) q).0 (sym z)), w.none) }

pub by_first_feed : ByFirstFeed
unfolding ends_of
by_first_feed s = ((λ w. rw (eq-eqb _ _ (rw (← w.is) at (return-first w.front w.back w.none)))), λ e. first-return s (go (eqb (byte_at s (first_end s)) return) refl e))
  where
    go : (t : Bool) → eqb (byte_at s (first_end s)) return ≡ t → pick t by.Return by.Feed ≡ by.Return → byte_at s (first_end s) ≡ return
    go true q e = eqb-true _ _ q
    go false q e = let z : ◌≡◌ {A = ℕ} 0 1 = (cc) in absurd (omega arith)
