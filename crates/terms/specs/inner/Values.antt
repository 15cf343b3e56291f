-- Inner: what each case of an answer stands for, and what one line's turn does. Assumes nothing.
use Rattle.std.specs.Prelude.{ℕ, ◌+◌, ◌*◌, ◌≤◌, ◌≡◌, ◌≢◌, List, ◌∷◌, length, set, Bool, Option, Some, None, Result, Ok, Err}
use Rattle.std.proofs.Math.Option.{some, none}
use Rattle.std.proofs.Math.Option as math
use Rattle.faults.specs.Limits.{longest_text}
use Rattle.faults.specs.Answer.{Answer, got, refused, bind}
use Rattle.faults.specs.Values.{number}
use Rattle.faults.specs.declared.AtomNo.{AtomNo}
use Rattle.faults.specs.declared.TermNo.{TermNo}
use Rattle.faults.specs.declared.Kind.{Kind}
use Rattle.faults.specs.declared.Kind.TheVariants as kind
use Rattle.faults.specs.declared.Refusal.{Refusal}
use Rattle.fields.specs.Fields.{field_place}
use Rattle.aspif.specs.Statements.{Line}
use Rattle.aspif.specs.inner.Words.{word, line_at, after}
use Rattle.aspif.specs.inner.Kept.{LineOn}
use Rattle.diffs.specs.Diff.{Diff}
use Rattle.diffs.specs.inner.Answer.{said}
use Rattle.diffs.specs.declared.Difference.{Difference}
use Rattle.terms.specs.Terms.{Pair, Stated, more}
use Rattle.terms.specs.inner.Tables.{role_of, place_in, env_of, walk, held_at, tabulated}
use Rattle.terms.specs.declared.lines.Role.{Role}
use Rattle.terms.specs.declared.lines.LineAt.{LineAt}

-- a bound, or none; the field of a use, or none
abbrev pub as_option : {A : Type 0} → Option A → math.Option A
as_option None = none
as_option (Some a) = some a

-- the place of the statement of that kind that defines the number u in a table; or none, where it is of another kind or there is none
abbrev pub OfKind : (t table : List ℕ) (u kind : ℕ) → Option ℕ → Type 0
OfKind t table u kind None = (q : ℕ) → Some q ≡ place_in table u → word t q ≢ kind
OfKind t table u kind (Some q) = (Some q ≡ place_in table u) × (word t q ≡ kind)

-- two sides, or none
abbrev pub as_sides : Option (TermNo × TermNo) → math.Option Pair
as_sides None = none
as_sides (Some s) = some (record { x = s.0.0; y = s.1.0 })

-- a difference, or none
abbrev pub as_said : Option Difference → math.Option Diff
as_said None = none
as_said (Some d) = some (said d)

-- the differences that stand in the first places of two slices
abbrev pub as_differences : Result ℕ Refusal → (atoms : List ℕ) → List Difference → Answer (List Stated)
as_differences (Ok n) atoms ds = got (tabulated n (held_at atoms ds))
as_differences (Err r) atoms ds = refused (number r.kind) r.place

-- the words of a line that states a difference: its place and size, its kind, atom and p, one element behind their count, g and u
abbrev pub difference_words : ℕ
difference_words = 9

-- room for as many differences as stand on a tape of so many words
pub record Roomy (tape : ℕ) (atoms : List ℕ) (ds : List Difference) : Type 0 where
  pub for_atoms : tape ≤ difference_words * length atoms
  pub for_differences : tape ≤ difference_words * length ds

-- two slices have n places or more
pub record Within (n : ℕ) (atoms : List ℕ) (ds : List Difference) : Type 0 where
  pub in_atoms : n ≤ length atoms
  pub in_differences : n ≤ length ds

-- the differences found stand within them
abbrev pub StatedWithin : Result ℕ Refusal → (atoms : List ℕ) → List Difference → Type 0
StatedWithin (Ok n) atoms ds = Within n atoms ds
StatedWithin (Err r) atoms ds = Unit {0}

-- ---- one line's turn

-- what a line does in its turn: it adds no difference, or the one of an atom that it states, or it is refused
abbrev pub Turn : Type 0
Turn = Result (Option (AtomNo × Difference)) Refusal

-- the difference that it states, if it states one
abbrev pub as_turn : Turn → Answer (math.Option Stated)
as_turn (Ok None) = got none
as_turn (Ok (Some s)) = got (some (record { atom = s.0.0; says = said s.1 }))
as_turn (Err r) = refused (number r.kind) r.place

-- the refusal of the line at p, placed at one of its fields
abbrev pub refusal_at : (text t : List ℕ) (p : ℕ) → Kind → (field : ℕ) → Refusal
refusal_at text t p k f = record { kind = k; place = field_place text f (word t p) }

-- what the line at p, which defines the number u, does to its table: refused where u has an entry before, or else where the line uses what is
-- unknown; or else u is entered
abbrev pub Defines : (text t : List ℕ) (p : ℕ) (table : List ℕ) (u : ℕ) (before unknown : Option ℕ) → Turn → (table' : List ℕ) → Type 0
Defines text t p table u (Some q) x r table' = (r ≡ Err (refusal_at text t p kind.Twice 0)) × (table' ≡ table)
Defines text t p table u None (Some f) r table' = (r ≡ Err (refusal_at text t p kind.Unknown f)) × (table' ≡ table)
Defines text t p table u None None r table' = (r ≡ Ok None) × (table' ≡ set table u (p + 2 + 1))

-- a line of that role, on a tape whose places a table can hold
pub record LineFor (r : Role) (l : LineAt) : Type 0 where
  pub on : LineOn l.tape.now l.p
  pub role : role_of (word l.tape.now (l.p + 2)) ≡ r
  pub short : length l.tape.now ≤ longest_text

-- a line that states a difference has its words
abbrev pub Lasting : Turn → (t : List ℕ) (p : ℕ) → Type 0
Lasting (Ok None) t p = Unit {0}
Lasting (Ok (Some s)) t p = p + difference_words ≤ after t p
Lasting (Err r) t p = Unit {0}

-- with the tables after it, the turn goes on as the line at p and those behind it did before
pub record Turned (text t : List ℕ) (p : ℕ) (terms elements : List ℕ) (seen : List Bool) (r : Turn) (terms' elements' : List ℕ) (seen' : List Bool) : Type 0 where
  pub goes : (ls : List Line) → bind (as_turn r) (λ d. more d (walk text (env_of t terms' elements' seen') ls)) ≡ walk text (env_of t terms elements seen) (line_at t p ∷ ls)
  pub lasts : Lasting r t p

-- the same of the code's line
abbrev pub Takes : LineAt → (terms elements : List ℕ) → (seen : List Bool) → Turn → (terms' elements' : List ℕ) → (seen' : List Bool) → Type 0
Takes l = Turned l.text.now l.tape.now l.p
