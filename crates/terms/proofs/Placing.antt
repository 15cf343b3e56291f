-- What the theory statements of a text use stands in the fields in which it is looked for. Assumes nothing.
use Prim.Native.Nat.{ℕ, zero, suc, ◌+◌, ◌*◌, ◌/◌, ◌%◌, ◌<◌}
use mathlib.Core.Path.{◌≡◌, refl}
use mathlib.Core.Logic.{inl, inr}
use mathlib.Core.List.{List, [], ◌∷◌}
use mathlib.Core.Option.{Option, some, none}
use native.Mathlib.Omega.{arith}
use borrow.Author.Tests.{eq-eqb, ne_eqb}
use lib.Dec.{eqb}
use lib.IntN.{pos, neg_ℤ}
use lib.ListN.{length}
use Rattle.basics.specs.Lists.{All}
use Rattle.faults.specs.Answer.{got}
use Rattle.faults.specs.Limits.{last_term, most_count}
use Rattle.fields.specs.Reading.{Reading}
use Rattle.fields.specs.Fields.{space, byte, field_place, next_natural, next_term, next_element, next_integer, item, counted, string, rest, line_end_of}
use Rattle.fields.specs.declared.LineEnd.{LineEnd}
use Rattle.aspif.specs.declared.lines.Header.{Header}
use Rattle.aspif.specs.Statements.{comp, num, str, elem, Theory, defines, collects, states, Statement, Line, theory_in}
use Rattle.aspif.specs.Grammar.{integer_of, heads, literals, body, rule_line, output_line, numeric_line, string_line, compound_line, element_line, front, theory_line, guarded_line, comment_line, theory_of, theory_part, statement_of, line_of, last_line, lines, first_line, plan, answer, statements}
use Rattle.terms.specs.Reasons.{functor_use}
use Rattle.terms.specs.Six.{operands}
use Rattle.fields.proofs.Spaced.{Gives, gives, stops, gives_either, gives_then, gives_after, Follows, Whole, natural_gives, next_natural_gives, next_atom_gives, next_integer_gives, Stand, counted_gives}
use Rattle.fields.specs.declared.Item.TheVariants as of

-- a compound's t is a term number, or a number below 0
even_use : (v : ℕ) → functor_use (integer_of (2 * v)) ≡ v ∷ []
even_use v =
    let d : 2 * v / 2 ≡ v = omega arith in
    rw (eq-eqb (2 * v % 2) 0 (omega arith), d)

odd_use : (v : ℕ) → 0 < v → functor_use (integer_of (2 * v + 1)) ≡ []
odd_use v h =
    let d : (2 * v + 1) / 2 ≡ v = omega arith in
    rw (ne_eqb ((2 * v + 1) % 2) 0 (λ e. omega arith), d) (below v h)
  where
    below : (v : ℕ) → 0 < v → functor_use (neg_ℤ (pos v)) ≡ []
    below zero h = absurd (omega arith)
    below (suc v) h = refl

module _ (s : List ℕ) (p : ℕ) where
  -- what a statement of the line at p uses stands in the fields that are its
  abbrev pub Placed : Option Theory → Type 0
  Placed (some (defines u (num k))) = Unit {0}
  Placed (some (defines u (str bs))) = Unit {0}
  Placed (some (defines u (comp t us))) = Stand s p 3 (functor_use t) × Stand s p 5 us
  Placed (some (collects v (elem us ls))) = Stand s p 4 us
  Placed (some (states a n vs g)) = Stand s p 3 (n ∷ []) × Stand s p 5 vs × Stand s p (5 + length vs) (operands g)
  Placed none = Unit {0}

  -- a statement that is read there is so placed
  abbrev Lays : Reading Statement → Type 0
  Lays a = Gives (λ x n. Placed (theory_in x)) a

  -- a compound's t in field k
  functor_stands : (k w n : ℕ) → Whole last_term s (field_place s k p) w n → Stand s p k (functor_use (integer_of w))
  functor_stands k w n (inl h) = rw (h.1, even_use h.0) ((n, h.2), tt)
  functor_stands k w n (inr h) = rw (h.1, odd_use h.0 h.2) tt

  -- terms, or elements, behind their count in field k
  abbrev Counts : (k : ℕ) → Reading (List ℕ) → Type 0
  Counts k a = Gives (λ us n. Stand s p (k + 1) us × Follows s p (k + 1 + length us) n) a

  terms-stand : (k at : ℕ) → Follows s p k at → Counts k (counted of.Term 5 most_count s at)
  unfolding item next_term
  terms-stand k at = counted_gives s p of.Term (λ n. refl) k at 5 most_count

  elements-stand : (k at : ℕ) → Follows s p k at → Counts k (counted of.Element 5 most_count s at)
  unfolding item next_element
  elements-stand k at = counted_gives s p of.Element (λ n. refl) k at 5 most_count

  -- ---- theory statements, from behind field 1 on

  numeric_lays : (at : ℕ) → Lays (numeric_line s at)
  unfolding numeric_line
  numeric_lays at = gives_after (next_term s at) (λ u n. gives_after (next_integer _ _ s n) (λ w m. gives tt))

  string_lays : (at : ℕ) → Lays (string_line s at)
  unfolding string_line
  string_lays at = gives_after (next_term s at) (λ u n. gives_after (string s n) (λ bs m. gives tt))

  module _ (at : ℕ) (h : Follows s p 2 at) where
    compound_lays : Lays (compound_line s at)
    unfolding compound_line next_term
    compound_lays =
        gives_then (next_natural_gives s p 2 at h 5 last_term) (λ u n g.
        gives_then (next_integer_gives s p 3 n g.1 3 last_term) (λ t m i.
        gives_then (terms-stand 4 m i.1) (λ us o j. gives (functor_stands 3 t m i.0, j.0))))

    element_lays : Lays (element_line s at)
    unfolding element_line next_element
    element_lays =
        gives_then (next_natural_gives s p 2 at h 5 last_term) (λ v n g.
        gives_then (terms-stand 3 n g.1) (λ us m i.
        gives_after (literals s m) (λ ls o. gives i.0)))

    front_stands : Gives (λ f n. Stand s p 3 (f.name ∷ []) × Stand s p 5 f.elements × Follows s p (5 + length f.elements) n) (front s at)
    unfolding front next_term
    front_stands =
        gives_then (next_atom_gives s p 2 at h 4) (λ a n g.
        gives_then (next_natural_gives s p 3 n g 5 last_term) (λ u m i.
        gives_then (elements-stand 4 m i.1) (λ vs o j. gives (((m, i.0), tt), j.0, j.1))))

    theory_lays : Lays (theory_line s at)
    unfolding theory_line
    theory_lays = gives_then front_stands (λ f n g. gives (g.0, g.1, tt))

    guarded_lays : Lays (guarded_line s at)
    unfolding guarded_line next_term
    guarded_lays =
        gives_then front_stands (λ f n g.
        gives_then (next_natural_gives s p (5 + length f.elements) n g.2 5 last_term) (λ o m i.
        gives_then (next_natural_gives s p (5 + length f.elements + 1) m i.1 5 last_term) (λ u e j.
        gives (g.0, g.1, ((m, i.0), ((e, j.0), tt))))))

    theory_of_lays : (k place : ℕ) → Lays (theory_of k place s at)
    unfolding theory_of
    theory_of_lays k place =
        gives_either (eqb k 0) _ _ (numeric_lays at)
        (gives_either (eqb k 1) _ _ (string_lays at)
        (gives_either (eqb k 2) _ _ compound_lays
        (gives_either (eqb k 4) _ _ element_lays
        (gives_either (eqb k 5) _ _ theory_lays
        (gives_either (eqb k 6) _ _ guarded_lays stops)))))

  -- ---- statements, from behind field 0 on

  rule_lays : (at : ℕ) → Lays (rule_line s at)
  unfolding rule_line
  rule_lays at = gives_after (next_natural 3 1 s at) (λ kind n. gives_after (heads kind s n) (λ hs m. gives_after (body s m) (λ b o. gives tt)))

  output_lays : (at : ℕ) → Lays (output_line s at)
  unfolding output_line
  output_lays at = gives_after (string s at) (λ bs n. gives_after (literals s n) (λ ls m. gives tt))

  comment_lays : (e : LineEnd) (at : ℕ) → Lays (comment_line e s at)
  unfolding comment_line
  comment_lays e at = gives_after (byte space s at) (λ u n. gives_after (rest e s n) (λ bs m. gives tt))

  module _ (at : ℕ) (h : Follows s p 1 at) where
    theory_part_lays : Lays (theory_part s at)
    unfolding theory_part
    theory_part_lays = gives_then (next_natural_gives s p 1 at h 3 6) (λ k n g. theory_of_lays n g.1 k (at + 1))

    statement_lays : (e : LineEnd) (k place : ℕ) → Lays (statement_of e k place s at)
    unfolding statement_of
    statement_lays e k place =
        gives_either (eqb k 1) _ _ (rule_lays at)
        (gives_either (eqb k 4) _ _ (output_lays at)
        (gives_either (eqb k 9) _ _ theory_part_lays
        (gives_either (eqb k 10) _ _ (comment_lays e at) stops)))

-- ---- the lines of a text

module _ (s : List ℕ) where
  -- what a line uses stands in its fields
  abbrev pub LinePlaced : Line → Type 0
  LinePlaced l = Placed s l.place (theory_in l.says)

  line_lays : (e : LineEnd) (k place at : ℕ) → Follows s place 1 at → Gives (λ l n. LinePlaced l) (line_of e k place s at)
  unfolding line_of
  line_lays e k place at h = gives_then (statement_lays s place at h e k place) (λ x n g. gives_after (line_end_of e s n) (λ u m. gives g))

  lines-lay : (first : Header) (n at : ℕ) → Gives (λ ls m. All LinePlaced ls) (lines first n s at)
  unfolding lines
  lines-lay first zero at = stops
  lines-lay first (suc n) at =
      gives_then (natural_gives 3 10 s at) (λ k m h.
      gives_either (eqb k 0) _ _
      (gives_after (last_line first.ends s m) (λ u o. gives tt))
      (gives_then (line_lays first.ends k at m h.1) (λ l o g.
      gives_then (lines-lay first n o) (λ ls e i. gives (g, i)))))

  -- what each line of a text that reads uses stands in its fields
  pub text_lays : (ls : List Line) → statements s ≡ got ls → All LinePlaced ls
  unfolding statements plan
  text_lays ls = go (gives_after (first_line s 0) (λ first n. lines-lay first (length s) n))
    where
      go : {a : Reading (List Line)} → Gives (λ ls m. All LinePlaced ls) a → answer a ≡ got ls → All LinePlaced ls
      go (gives {v} h) e = let z : v ≡ ls = (cc) in rw z at h
      go stops e = let z : ◌≡◌ {A = ℕ} 0 1 = (cc) in absurd (omega arith)
