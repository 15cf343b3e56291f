-- What reading a text gives: every value that is found keeps to its bounds and ends within the text, every fault has number 3, 4 or 5
-- and stands within the text, and the places of the lines ascend. Assumes nothing.
use Prim.Native.Nat.{ℕ, zero, suc, ◌+◌, ◌/◌, ◌%◌, ◌≤◌, ◌<◌}
use mathlib.Core.Path.{◌≡◌, refl}
use mathlib.Core.List.{List, [], ◌∷◌, map}
use mathlib.Core.Bool.{Bool, true, false}
use native.Mathlib.Omega.{arith}
use borrow.Author.Tests.{eqb-true, eqb-false}
use lib.Dec.{eqb, lit<}
use lib.IntN.{pos, neg_ℤ}
use lib.ListN.{length, length-map}
use Rattle.basics.specs.Bools.{pick}
use Rattle.basics.specs.Lists.{All, Ascending}
use Rattle.basics.proofs.Lists.{all_so, all_map}
use Rattle.faults.specs.Answer.{got, refused}
use Rattle.faults.specs.Limits.{last_term, most_count, largest_number, largest_bound}
use Rattle.fields.specs.Reading.{Reading, found}
use Rattle.fields.specs.Fields.{space, byte_at, all_positive, natural, weight_unit, counted}
use Rattle.fields.specs.inner.Kept.{IsAtom, Fits, ByteOf, ItemKept}
use Rattle.fields.proofs.Readers.{ByReading, Reads, finds, stops, Any, by_grammar, by_carried, by_bounds, reads-found, reads-pick, reads_either, reads_so, reads_then, byte_reads, bytes-reads, line_end-reads, line_end_of-reads, text_end-reads, natural-reads, next_natural-reads, next_integer-reads, next_atom-reads, next_term-reads, next_element-reads, counted-reads, string-reads, rest-reads}
use Rattle.fields.specs.declared.LineEnd.{LineEnd}
use Rattle.aspif.specs.declared.lines.Header.{Header}
use Rattle.aspif.specs.Statements.{Literal, positive, negated, choice, num, str, comp, defines, collects, states, Statement, rule, output, theory, comment, Line, atom_of}
use Rattle.aspif.specs.Grammar.{opening, literal_of, integer_of, premise_of, plain_head, head_of, heads, literals, normal_body, weight_body, body, rule_line, output_line, numeric_line, string_line, compound_line, element_line, Front, front, theory_line, guarded_line, comment_line, theory_of, theory_part, statement_of, line_of, last_line, lines, no_tag, first_line, plan, answer, statements}
use Rattle.aspif.specs.inner.Kept.{IsTerm, IsElement, IsByte, FromTo, Counted, SmallLiterals, SmallHead, SmallPremise, SmallBody, SmallWith, AllSmallWith, AllSmall, AllInRange}
use Rattle.fields.specs.declared.Item.TheVariants as of

-- ---- what a word says keeps to the bounds that the word does

pub atom_of_lem : (w : ℕ) → atom_of (literal_of w) ≡ w / 2
atom_of_lem w = go (eqb (w % 2) 0)
  where
    go : (b : Bool) → atom_of (pick b (positive (w / 2)) (negated (w / 2))) ≡ w / 2
    go true = refl
    go false = refl

atoms-kept : (ws : List ℕ) → All (λ w. IsAtom (w / 2)) ws → All IsAtom (map atom_of (map literal_of ws))
atoms-kept ws h = all_map atom_of IsAtom (λ l i. i) (map literal_of ws) (all_map literal_of (λ (l : Literal). IsAtom (atom_of l)) (λ w i. rw (atom_of_lem w) i) ws h)

premises-kept : (s ws : List ℕ) → All (ItemKept s of.Premise) ws → All SmallPremise (map premise_of ws)
premises-kept s = all_map premise_of SmallPremise (λ w i. (rw (atom_of_lem (w % weight_unit)) i.0, i.1))

-- and no more of them than there are words
few : {A B : Type 0} (f : A → B) (l : List A) → length l ≤ most_count → length (map f l) ≤ most_count
few f l h = rw (length-map l f) h

integer-kept : (low high w : ℕ) → Fits low high w → FromTo low high (integer_of w)
integer-kept low high w f = go (eqb (w % 2) 0) refl
  where
    minus : (v : ℕ) → v ≤ low → FromTo low high (neg_ℤ (pos v))
    minus zero h = omega arith
    minus (suc v) h = h

    go : (t : Bool) → eqb (w % 2) 0 ≡ t → FromTo low high (pick t (pos (w / 2)) (neg_ℤ (pos (w / 2))))
    go true q = f.even (eqb-true (w % 2) 0 q)
    go false q = minus (w / 2) (f.odd (eqb-false (w % 2) 0 q)).1

-- ---- statements

module _ (s : List ℕ) where
  heads-reads : (kind at : ℕ) → Reads (λ hs. SmallHead (head_of kind hs)) s at 2 (heads kind s at)
  unfolding heads
  heads-reads kind at = go (eqb kind 0)
    where
      plain : (hs : List ℕ) → All IsAtom hs → SmallHead (plain_head hs)
      plain [] h = tt
      plain (a ∷ hs) h = h.0

      go : (t : Bool) → Reads (λ hs. SmallHead (pick t (plain_head hs) (choice hs))) s at 2 (counted of.Atom (pick t 4 5) (pick t 1 most_count) s at)
      go true = reads_so (λ hs h. plain hs h.0) (omega arith) (counted-reads of.Atom 4 1 by_carried s at)
      go false = reads_so (λ hs h. h) (omega arith) (counted-reads of.Atom 5 most_count by_bounds s at)

  literals-reads : (at : ℕ) → Reads (λ ws. SmallLiterals (map literal_of ws)) s at 2 (literals s at)
  unfolding literals
  literals-reads at =
      reads_so (λ ws h. (atoms-kept ws h.0, few atom_of (map literal_of ws) (few literal_of ws h.1))) (omega arith) (counted-reads of.Literal 5 most_count by_bounds s at)

  premises-reads : (at : ℕ) → Reads (λ ws. Counted SmallPremise (map premise_of ws)) s at 2 (counted of.Premise 5 most_count s at)
  premises-reads at =
      reads_so (λ ws h. (premises-kept s ws h.0, few premise_of ws h.1)) (omega arith) (counted-reads of.Premise 5 most_count by_bounds s at)

  normal_body-reads : (at : ℕ) → Reads SmallBody s at 2 (normal_body s at)
  unfolding normal_body
  normal_body-reads at = reads_then (literals-reads at) (λ ls m h i. reads-found h)

  weight_body-reads : (at : ℕ) → Reads SmallBody s at 2 (weight_body s at)
  unfolding weight_body
  weight_body-reads at =
      reads_so (λ b h. h) (omega arith)
      (reads_then (next_natural-reads 5 largest_bound by_bounds s at) (λ k n g l.
      reads_then (premises-reads n) (λ ps m h i. reads-found (g, h))))

  body_reads : (at : ℕ) → Reads SmallBody s at 4 (body s at)
  unfolding body
  body_reads at =
      reads_then (next_natural-reads 3 1 by_grammar s at) (λ kind n g l.
      reads_either (eqb kind 0) normal_body weight_body (normal_body-reads n) (weight_body-reads n))

  terms-reads : (at : ℕ) → Reads (Counted IsTerm) s at 2 (counted of.Term 5 most_count s at)
  terms-reads = counted-reads of.Term 5 most_count by_bounds s

  elements-reads : (at : ℕ) → Reads (Counted IsElement) s at 2 (counted of.Element 5 most_count s at)
  elements-reads = counted-reads of.Element 5 most_count by_bounds s

  -- what a theory atom's line begins with
  abbrev SmallFront : Front → Type 0
  SmallFront f = IsAtom f.atom × IsTerm f.name × Counted IsElement f.elements

  front_reads : (at : ℕ) → Reads SmallFront s at 6 (front s at)
  unfolding front
  front_reads at =
      reads_then (next_atom-reads 4 by_carried s at) (λ a n h l.
      reads_then (next_term-reads s n) (λ p m i j.
      reads_then (elements-reads m) (λ vs o k g. reads-found (h, i, k))))

  -- within its bounds, and its bytes are bytes of the text
  abbrev Fine : Statement → Type 0
  Fine = SmallWith (ByteOf s)

  rule-reads : (at : ℕ) → Reads Fine s at 1 (rule_line s at)
  unfolding rule_line
  rule-reads at =
      reads_so (λ x h. h) (omega arith)
      (reads_then (next_natural-reads 3 1 by_grammar s at) (λ kind n g l.
      reads_then (heads-reads kind n) (λ hs m h i.
      reads_then (body_reads m) (λ b o j k. reads-found (h, j)))))

  output-reads : (at : ℕ) → Reads Fine s at 1 (output_line s at)
  unfolding output_line
  output-reads at =
      reads_so (λ x h. h) (omega arith)
      (reads_then (string-reads s at) (λ bs n h l.
      reads_then (literals-reads n) (λ ls m i j. reads-found (h, i))))

  numeric_reads : (at : ℕ) → Reads Fine s at 1 (numeric_line s at)
  unfolding numeric_line
  numeric_reads at =
      reads_so (λ x h. h) (omega arith)
      (reads_then (next_term-reads s at) (λ u n h l.
      reads_then (next_integer-reads largest_number largest_number s n) (λ w m i j.
      reads-found (h, integer-kept largest_number largest_number w i))))

  string_line-reads : (at : ℕ) → Reads Fine s at 1 (string_line s at)
  unfolding string_line
  string_line-reads at =
      reads_so (λ x h. h) (omega arith)
      (reads_then (next_term-reads s at) (λ u n h l.
      reads_then (string-reads s n) (λ bs m i j. reads-found (h, i))))

  compound_reads : (at : ℕ) → Reads Fine s at 1 (compound_line s at)
  unfolding compound_line
  compound_reads at =
      reads_so (λ x h. h) (omega arith)
      (reads_then (next_term-reads s at) (λ u n h l.
      reads_then (next_integer-reads 3 last_term s n) (λ t m i j.
      reads_then (terms-reads m) (λ us o k g. reads-found (h, (integer-kept 3 last_term t i, k))))))

  element_reads : (at : ℕ) → Reads Fine s at 1 (element_line s at)
  unfolding element_line
  element_reads at =
      reads_so (λ x h. h) (omega arith)
      (reads_then (next_element-reads s at) (λ v n h l.
      reads_then (terms-reads n) (λ us m i j.
      reads_then (literals-reads m) (λ ls o k g. reads-found (h, (i, k))))))

  theory-reads : (at : ℕ) → Reads Fine s at 1 (theory_line s at)
  unfolding theory_line
  theory-reads at =
      reads_so (λ x h. h) (omega arith) (reads_then (front_reads at) (λ f n h l. reads-found (h.0, h.1, h.2, tt)))

  guarded_reads : (at : ℕ) → Reads Fine s at 1 (guarded_line s at)
  unfolding guarded_line
  guarded_reads at =
      reads_so (λ x h. h) (omega arith)
      (reads_then (front_reads at) (λ f n h l.
      reads_then (next_term-reads s n) (λ g m i j.
      reads_then (next_term-reads s m) (λ u o k e. reads-found (h.0, h.1, h.2, (i, k))))))

  comment-reads : (e : LineEnd) (at : ℕ) → Reads Fine s at 1 (comment_line e s at)
  unfolding comment_line
  comment-reads e at =
      reads_then (byte_reads space (lit< tt) s at) (λ u n h l.
      reads_then (rest-reads e s n) (λ bs m i j. reads-found i))

  -- a type that is not listed is refused where it stands, which is before the place where it ends
  theory_of-reads : (k place at : ℕ) → place ≤ at → Reads Fine s at 1 (theory_of k place s at)
  unfolding theory_of
  theory_of-reads k place at near =
      reads_either (eqb k 0) _ _ (numeric_reads at)
      (reads_either (eqb k 1) _ _ (string_line-reads at)
      (reads_either (eqb k 2) _ _ (compound_reads at)
      (reads_either (eqb k 4) _ _ (element_reads at)
      (reads_either (eqb k 5) _ _ (theory-reads at)
      (reads_either (eqb k 6) _ _ (guarded_reads at) (stops by_grammar (λ i. omega arith)))))))

  theory_part-reads : (at : ℕ) → Reads Fine s at 1 (theory_part s at)
  unfolding theory_part
  theory_part-reads at =
      reads_so (λ x h. h) (omega arith)
      (reads_then (next_natural-reads 3 6 by_grammar s at) (λ k n h l. theory_of-reads k (at + 1) n (omega arith)))

  statement_reads : (e : LineEnd) (k place at : ℕ) → place ≤ at → Reads Fine s at 1 (statement_of e k place s at)
  unfolding statement_of
  statement_reads e k place at near =
      reads_either (eqb k 1) _ _ (rule-reads at)
      (reads_either (eqb k 4) _ _ (output-reads at)
      (reads_either (eqb k 9) _ _ (theory_part-reads at)
      (reads_either (eqb k 10) _ _ (comment-reads e at) (stops by_carried (λ i. omega arith)))))

  -- a line, by the place of its first byte
  pub line_reads : (e : LineEnd) (k place at : ℕ) → place ≤ at → Reads (λ x. (x.place ≡ place) × Fine x.says) s at 2 (line_of e k place s at)
  unfolding line_of
  line_reads e k place at near =
      reads_then (statement_reads e k place at near) (λ x n h l.
      reads_then (line_end_of-reads e s n) (λ u m i j. reads-found (refl, h)))

  -- ---- the text

  last_reads : (e : LineEnd) (at : ℕ) → Reads Any s at 1 (last_line e s at)
  unfolding last_line
  last_reads e at = reads_then (line_end_of-reads e s at) (λ u n h l. text_end-reads s n)

  -- lines whose places ascend strictly from `low` on, within the text
  abbrev From : (low : ℕ) → List Line → Type 0
  From low [] = Unit {0}
  From low (x ∷ xs) = (low ≤ x.place) × (x.place < length s) × Fine x.says × From (x.place + 1) xs

  from-below : (low high : ℕ) → low ≤ high → (xs : List Line) → From high xs → From low xs
  from-below low high h [] f = tt
  from-below low high h (x ∷ xs) f = (omega (arith, f.0), f.1, f.2, f.3)

  lines-reads : (first : Header) (n at : ℕ) → Reads (From at) s at 0 (lines first n s at)
  unfolding lines
  lines-reads first zero at = stops by_grammar (λ h. h)
  lines-reads first (suc n) at =
      reads_so (λ xs h. h) (omega arith)
      (reads_then {e = 0} (type_reads at) (λ k m h l.
      reads_either (eqb k 0) _ _
      (reads_so (λ xs g. g) (omega arith) (reads_then (last_reads first.ends m) (λ u o i j. reads-found tt)))
      (reads_so (λ xs g. g) (omega arith)
      (reads_then (line_reads first.ends k at m (omega arith)) (λ x o i j.
      reads_then (lines-reads first n o) (λ xs p f g.
      reads-found (omega (arith, i.0), omega (arith, i.0), i.1, from-below (x.place + 1) o (omega (arith, i.0)) xs f)))))))
    where
      -- the type of a line stands within the text
      type_reads : (at : ℕ) → Reads (λ (k : ℕ). at < length s) s at 1 (natural 3 10 s at)
      type_reads at = ends_so (natural-reads 3 10 by_grammar s at)
        where
          ends_so : {a : Reading ℕ} → Reads (λ v. v ≤ 10) s at 1 a → Reads (λ (k : ℕ). at < length s) s at 1 a
          ends_so (finds h l w) = finds (omega (arith, w (omega arith))) l w
          ends_so (stops h p) = stops h p

  pub first_reads : (at : ℕ) → Reads Any s at 10 (first_line s at)
  unfolding first_line no_tag all_positive
  first_reads at =
      reads_then (bytes-reads opening refl s at) (λ u n h l.
      reads_then {e = 0} (reads-pick (eqb (byte_at s n) 32) (stops by_carried (λ i. i)) (line_end-reads s n)) (λ e m i j. reads-found tt))

  plan-reads : (at : ℕ) → Reads (From 0) s at 0 (plan s at)
  unfolding plan
  plan-reads at =
      reads_so (λ xs h. h) (omega arith)
      (reads_then {e = 0} (first_reads at) (λ first n h l. reads_so (λ xs f. from-below 0 n (omega arith) xs f) (omega arith) (lines-reads first (length s) n)))

-- ---- what a text says

-- B of each byte where A is
module _ {A B : ℕ → Type 0} (so : (b : ℕ) → A b → B b) where
  counted-so : (bs : List ℕ) → Counted A bs → Counted B bs
  counted-so bs h = (all_so so bs h.0, h.1)

  small-so : (x : Statement) → SmallWith A x → SmallWith B x
  small-so (rule h b) i = i
  small-so (output bs c) i = (counted-so bs i.0, i.1)
  small-so (theory (defines u (num w))) i = i
  small-so (theory (defines u (str bs))) i = (i.0, counted-so bs i.1)
  small-so (theory (defines u (comp t us))) i = i
  small-so (theory (collects v e)) i = i
  small-so (theory (states a p vs g)) i = i
  small-so (comment bs) i = all_so so bs i

-- bytes within their bound are in range
pub in_range : (xs : List Line) → AllSmall xs → AllInRange xs
in_range = all_so (λ x h. small-so (λ b i. tt) x.says h)

-- each place holds a byte
abbrev pub Bytes : List ℕ → Type 0
Bytes s = (i : ℕ) → IsByte (byte_at s i)

module _ (s : List ℕ) where
  -- every line keeps to its bounds
  small-from : {B : ℕ → Type 0} → ((b : ℕ) → ByteOf s b → B b) → (low : ℕ) (xs : List Line) → From s low xs → AllSmallWith B xs
  small-from so low [] f = tt
  small-from so low (x ∷ xs) f = (small-so so x.says f.2, small-from so (x.place + 1) xs f.3)

  of_bytes : Bytes s → (b : ℕ) → ByteOf s b → IsByte b
  of_bytes h b i = rw i.1 (h i.0)

  -- lines that were read keep to their bounds
  pub lines-small : (first : Header) (n at : ℕ) (xs : List Line) (m : ℕ) → Bytes s → found xs m ≡ lines first n s at → AllSmall xs
  lines-small first n at xs m b e = go (lines first n s at) (lines-reads s first n at) e
    where
      go : (a : Reading (List Line)) → Reads (From s at) s at 0 a → found xs m ≡ a → AllSmall xs
      go _ (finds {v = ys} f l w) d = let z : ys ≡ xs = (cc) in rw z at (small-from (of_bytes b) at ys f)
      go _ (stops h p) d = let z : ◌≡◌ {A = ℕ} 0 1 = (cc) in absurd (omega arith)

  from_zero : (xs : List Line) → statements s ≡ got xs → From s 0 xs
  unfolding statements
  from_zero xs = go (plan s 0) (plan-reads s 0)
    where
      go : (a : Reading (List Line)) → Reads (From s 0) s 0 0 a → answer a ≡ got xs → From s 0 xs
      go _ (finds {v = ys} f l w) e = let z : ys ≡ xs = (cc) in rw z at f
      go _ (stops h p) e = let z : ◌≡◌ {A = ℕ} 0 1 = (cc) in absurd (omega arith)

  -- a text's lines keep to their bounds; nothing is said of its bytes
  pub statements-small : (xs : List Line) → statements s ≡ got xs → AllInRange xs
  statements-small xs e = small-from (λ b h. tt) 0 xs (from_zero xs e)

  -- a line stands within the text
  pub statements-placed : (xs : List Line) → statements s ≡ got xs → All (λ (x : Line). x.place < length s) xs
  statements-placed xs e = go 0 xs (from_zero xs e)
    where
      go : (low : ℕ) (xs : List Line) → From s low xs → All (λ (x : Line). x.place < length s) xs
      go low [] f = tt
      go low (x ∷ xs) f = (f.1, go (x.place + 1) xs f.3)

  -- the places of the lines ascend strictly
  pub places_ascend : (xs : List Line) → statements s ≡ got xs → Ascending (map (λ (x : Line). x.place) xs)
  places_ascend xs e = go 0 xs (from_zero xs e)
    where
      above : (p low : ℕ) → p < low → (xs : List Line) → From s low xs → All (λ q. p < q) (map (λ (x : Line). x.place) xs)
      above p low h [] f = tt
      above p low h (x ∷ xs) f = (omega (arith, f.0), above p (x.place + 1) (omega (arith, f.0)) xs f.3)

      go : (low : ℕ) (xs : List Line) → From s low xs → Ascending (map (λ (x : Line). x.place) xs)
      go low [] f = tt
      go low (x ∷ xs) f = (above x.place (x.place + 1) (omega arith) xs f.3, go (x.place + 1) xs f.3)

  -- a text that is refused is refused by 3, 4 or 5, at a place within it or at its end
  pub statements-refused : (k p : ℕ) → statements s ≡ refused k p → ByReading k × (p ≤ length s)
  unfolding statements
  statements-refused k p = go (plan s 0) (plan-reads s 0)
    where
      go : (a : Reading (List Line)) → Reads (From s 0) s 0 0 a → answer a ≡ refused k p → ByReading k × (p ≤ length s)
      go _ (finds f l w) e = let z : ◌≡◌ {A = ℕ} 0 1 = (cc) in absurd (omega arith)
      go _ (stops {k = i} {p = q} h w) e =
          let y : i ≡ k = (cc) in
          let z : q ≡ p = (cc) in
          (rw y at h, rw z at (w (omega arith)))
