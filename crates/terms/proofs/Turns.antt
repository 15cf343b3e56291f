-- One line's turn: what entering its number does to the tables, how its answer goes on to the lines behind it, and how a difference is stored.
use Prim.Native.Nat.{ℕ, zero, suc, ◌+◌, ◌≤◌, ◌<◌}
use mathlib.Core.Path.{◌≡◌, refl, sym, ◌∙◌, fun_ext}
use mathlib.Core.List.{List, [], ◌∷◌, append_assoc}
use mathlib.Core.Bool.{Bool, true, false, not}
use mathlib.Core.Option.{Option, some, none}
use native.Mathlib.Omega.{arith}
use native.Mathlib.Numerals.{add-one}
use borrow.Author.Tests.{eqb-true, eqb-false}
use lib.ListN.{length, get_or, set}
use lib.Seq.{get_or-set_same, get_or-set_other}
use lib.Dec.{eqb}
use Rattle.std.specs.Prelude.{Ok, Err, None, Some, is_some}
use Rattle.std.specs.Prelude as code
use Rattle.basics.specs.Bools.{pick}
use Rattle.faults.specs.Answer.{Answer, got, refused}
use Rattle.faults.specs.declared.Refusal.{Refusal}
use Rattle.faults.specs.declared.Kind.{Kind}
use Rattle.faults.specs.declared.Kind.TheVariants as kind
use Rattle.faults.specs.Values.{number}
use Rattle.fields.specs.Fields.{field_place}
use Rattle.aspif.specs.Statements.{Term, Element, unguarded, guard, Theory, defines, collects, states, Statement, rule, output, theory, comment, theory_in}
use Rattle.aspif.specs.inner.Words.{words_of, word, says_at, after}
use Rattle.aspif.specs.inner.Kept.{LineOn}
use Rattle.aspif.proofs.Walking.{size_is}
use Rattle.diffs.specs.Diff.{Diff}
use Rattle.diffs.specs.inner.Answer.{said, zero_difference}
use Rattle.diffs.specs.declared.Difference.{Difference}
use Rattle.terms.specs.Terms.{Env, defined, difference_of, twice, second, not_difference, Stated, more}
use Rattle.terms.specs.Reasons.{unknown_use, reason, reason_of}
use Rattle.terms.specs.inner.Tables.{role_of, term_at, element_of, place_by, place_in, term_on, element_on, look_in, elements_in, env_of, difference_in, stated_on, changed, known_with, walk, held_at, tabulated, gather}
use Rattle.terms.specs.inner.Values.{as_option, difference_words, Turn, Defines, Turned}
use Rattle.terms.specs.declared.lines.Role.TheVariants as role
use Rattle.terms.proofs.ByKind.{role_does}
use Rattle.terms.proofs.Ways.{reason-twice, reason-unknown, reason-second, reason_no_difference, reason-none}
use Rattle.terms.proofs.Reading.{known_if, collected_if}
use Rattle.terms.proofs.Differing.{never}

-- ---- what entering a number does

-- what a table stands for, by its entries
enter : {A B : Type 0} (f : A → B) (l : List A) (u : ℕ) (m z : A) → u < length l → (λ v. f (get_or (set l u m) v z)) ≡ changed (λ v. f (get_or l v z)) u (f m)
enter f l u m z h = fun_ext (λ v. go v (eqb v u) refl)
  where
    go : (v : ℕ) (b : Bool) → eqb v u ≡ b → f (get_or (set l u m) v z) ≡ pick b (f m) (f (get_or l v z))
    go v true q = rw (eqb-true v u q, get_or-set_same l u m z h)
    go v false q = rw (get_or-set_other l u v m z (eqb-false v u q))

module _ (t : List ℕ) (q : ℕ) where
  terms-entered : (terms : List ℕ) (u : ℕ) → u < length terms → look_in t (set terms u (q + 1)) ≡ changed (look_in t terms) u (some (term_at t q))
  unfolding look_in term_on word
  terms-entered terms u h = enter (λ e. term_on t (place_by e)) terms u (q + 1) 0 h ∙ rw add-one

  elements-entered : (els : List ℕ) (u : ℕ) → u < length els → elements_in t (set els u (q + 1)) ≡ changed (elements_in t els) u (some (element_of (theory_in (says_at t q))))
  unfolding elements_in element_on word
  elements-entered els u h = enter (λ e. element_on t (place_by e)) els u (q + 1) 0 h ∙ rw add-one

seen-entered : (seen : List Bool) (u : ℕ) → u < length seen → (λ v. get_or (set seen u true) v false) ≡ changed (λ v. get_or seen v false) u true
seen-entered seen u h = enter (λ b. b) seen u true false h

-- ---- a line's turn

module _ (t terms els : List ℕ) (seen : List Bool) (p : ℕ) where
  -- what is known before the line at p, and what it states
  abbrev here : Env
  here = env_of t terms els seen

  abbrev stating : Option Theory
  stating = theory_in (says_at t (p + 2))

  -- a line that is refused ends the walk
  pub turn_refused : (text : List ℕ) (x : Refusal) (kind : Kind) (f : ℕ) → x ≡ record { kind = kind; place = field_place text f (word t p) } → reason (number kind) f ≡ reason_of here stating
      → Turned text t p terms els seen (Err x) terms els seen
  unfolding walk
  turn_refused text x kind f e b = record { goes = λ ls. rw (e, ← b); lasts = tt }

  -- a line that defines the number u in a table: refused by its reason, or else u is entered
  module _ (text table : List ℕ) (u : ℕ) (P : Turn → List ℕ → Type 0) (out : (y : Refusal) → Turned text t p terms els seen (Err y) terms els seen → P (Err y) table) where
    by_definition : (o x : code.Option ℕ) (r : Turn) (table' : List ℕ) → is_some o ≡ twice here stating → as_option x ≡ unknown_use here stating
        → (false ≡ twice here stating → none ≡ unknown_use here stating → P (Ok None) (set table u (p + 2 + 1)))
        → Defines text t p table u o x r table' → P r table'
    by_definition (Some q) x r table' b w go d = rw (d.0, d.1) (out _ (turn_refused text _ kind.Twice 0 refl (reason-twice here stating b)))
    by_definition None (Some f) r table' b w go d = rw (d.0, d.1) (out _ (turn_refused text _ kind.Unknown f refl (reason-unknown here stating b (some f) f refl w)))
    by_definition None None r table' b w go d = rw (d.0, d.1) (go b w)

  module _ (r : role_of (word t (p + 2)) ≡ role.Term) (u : ℕ) (eu : u ≡ word t (p + 2 + 1)) where
    pub term-before : is_some (place_in terms u) ≡ twice here stating
    unfolding env_of
    term-before = let d = rw r at (role_does t (p + 2)) in rw (d.1, ← eu) (known_if t terms u)

    pub term-turned : (text : List ℕ) → u < length terms → false ≡ twice here stating → none ≡ unknown_use here stating
        → Turned text t p terms els seen (Ok None) (set terms u (p + 2 + 1)) els seen
    unfolding walk known_with env_of
    term-turned text l z w =
        let d = rw r at (role_does t (p + 2)) in
        let b = reason-none here stating z w (rw d.1 refl) (rw d.1 refl) in
        record { goes = λ ls. rw (← b, terms-entered t (p + 2) terms u l, d.1, eu); lasts = tt }

    pub term-defined : (text : List ℕ) (x : code.Option ℕ) (s : Turn) (terms' : List ℕ) → as_option x ≡ unknown_use here stating → u < length terms
        → Defines text t p terms u (place_in terms u) x s terms' → Turned text t p terms els seen s terms' els seen
    term-defined text x s terms' w l =
        by_definition text terms u (λ s terms'. Turned text t p terms els seen s terms' els seen) (λ y h. h) (place_in terms u) x s terms' term-before w (term-turned text l)

  module _ (r : role_of (word t (p + 2)) ≡ role.Element) (v : ℕ) (ev : v ≡ word t (p + 2 + 1)) where
    pub element_before : is_some (place_in els v) ≡ twice here stating
    unfolding env_of
    element_before = let d = rw r at (role_does t (p + 2)) in rw (d.1, ← ev) (collected_if t els v)

    pub element_turned : (text : List ℕ) → v < length els → false ≡ twice here stating → none ≡ unknown_use here stating
        → Turned text t p terms els seen (Ok None) terms (set els v (p + 2 + 1)) seen
    unfolding walk known_with env_of
    element_turned text l z w =
        let d = rw r at (role_does t (p + 2)) in
        let b = reason-none here stating z w (rw d.1 refl) (rw d.1 refl) in
        record { goes = λ ls. rw (← b, elements-entered t (p + 2) els v l, d.1, ev); lasts = tt }

    pub element-defined : (text : List ℕ) (x : code.Option ℕ) (s : Turn) (els' : List ℕ) → as_option x ≡ unknown_use here stating → v < length els
        → Defines text t p els v (place_in els v) x s els' → Turned text t p terms els seen s terms els' seen
    element-defined text x s els' w l =
        by_definition text els v (λ s els'. Turned text t p terms els seen s terms els' seen) (λ y h. h) (place_in els v) x s els' element_before w (element_turned text l)

  pub other_turned : (text : List ℕ) → role_of (word t (p + 2)) ≡ role.Other → Turned text t p terms els seen (Ok None) terms els seen
  unfolding walk known_with reason_of
  other_turned text r = let d = rw r at (role_does t (p + 2)) in record { goes = λ ls. rw d; lasts = tt }

-- ---- a line that states a difference has its words

long : (look : ℕ → Option Term) (els : ℕ → Option Element) (x : Statement) (f : Diff) → difference_in look els (theory_in x) ≡ some f → difference_words ≤ 2 + length (words_of x)
unfolding difference_of
long look els (rule h b) f e = absurd (never e)
long look els (output bs c) f e = absurd (never e)
long look els (comment bs) f e = absurd (never e)
long look els (theory (defines u x)) f e = absurd (never e)
long look els (theory (collects v x)) f e = absurd (never e)
long look els (theory (states a p [] g)) f e = absurd (never e)
long look els (theory (states a p (v ∷ w ∷ vs) g)) f e = absurd (never e)
long look els (theory (states a p (v ∷ []) unguarded)) f e = absurd (never e)
long look els (theory (states a p (v ∷ []) (guard g u))) f e = omega arith

lasting : (t terms els : List ℕ) (p : ℕ) (f : Diff) → LineOn t p → some f ≡ stated_on t terms els (p + 2) → p + difference_words ≤ after t p
unfolding stated_on
lasting t terms els p f l e = omega (arith, size_is l, long (look_in t terms) (elements_in t els) (says_at t (p + 2)) f (sym e))

-- ---- a theory atom's turn

module _ (t terms els : List ℕ) (seen : List Bool) (p : ℕ) (r : role_of (word t (p + 2)) ≡ role.Atom) where
  -- it defines no number
  atom_once : false ≡ twice (here t terms els seen p) (stating t terms els seen p)
  atom_once = let d = rw r at (role_does t (p + 2)) in rw d.1

  pub atom-unknown : (x : Option ℕ) (f : ℕ) → x ≡ some f → x ≡ unknown_use (here t terms els seen p) (stating t terms els seen p)
      → reason 62 f ≡ reason_of (here t terms els seen p) (stating t terms els seen p)
  atom-unknown = reason-unknown (here t terms els seen p) (stating t terms els seen p) atom_once

  module _ (u : none ≡ unknown_use (here t terms els seen p) (stating t terms els seen p)) (a : ℕ) (ea : a ≡ word t (p + 2 + 1)) where
    stated-before : (b : Bool) → b ≡ get_or seen a false → b ≡ second (here t terms els seen p) (stating t terms els seen p)
    unfolding env_of
    stated-before b e = let d = rw r at (role_does t (p + 2)) in rw (d.1, ← ea) e

    pub atom-second : true ≡ get_or seen a false → reason 63 0 ≡ reason_of (here t terms els seen p) (stating t terms els seen p)
    atom-second e = reason-second (here t terms els seen p) (stating t terms els seen p) atom_once u (stated-before true e)

    module _ (first : false ≡ get_or seen a false) where
      said_by : (x : Option Diff) → x ≡ stated_on t terms els (p + 2) → not (defined x) ≡ not_difference (here t terms els seen p) (stating t terms els seen p)
      unfolding env_of stated_on
      said_by x e = let d = rw r at (role_does t (p + 2)) in rw (d.1, rw d.1 at e)

      pub atom_no_difference : none ≡ stated_on t terms els (p + 2) → reason 64 0 ≡ reason_of (here t terms els seen p) (stating t terms els seen p)
      atom_no_difference e = reason_no_difference (here t terms els seen p) (stating t terms els seen p) atom_once u (stated-before false first) (said_by none e)

      pub atom-turned : (text : List ℕ) (f : Difference) → LineOn t p → some (said f) ≡ stated_on t terms els (p + 2) → a < length seen
          → Turned text t p terms els seen (Ok (Some (record { 0 = a }, f))) terms els (set seen a true)
      unfolding walk known_with env_of stated_on
      atom-turned text f on fd l =
          let d = rw r at (role_does t (p + 2)) in
          let b = reason-none (here t terms els seen p) (stating t terms els seen p) atom_once u (stated-before false first) (said_by (some (said f)) fd) in
          let g = rw d.1 at fd in
          record { goes = λ ls. rw (← b, seen-entered seen a l, d.1, ← g, ea); lasts = lasting t terms els p (said f) on fd }

-- ---- the differences stored

pub gather_none : (f : ℕ → Stated) (r : Answer (List Stated)) → gather 0 f r ≡ r
unfolding gather tabulated
gather_none f (got ds) = refl
gather_none f (refused k p) = refl

pub tabulated-same : {A : Type 0} (n : ℕ) (f g : ℕ → A) → ((i : ℕ) → i < n → f i ≡ g i) → tabulated n f ≡ tabulated n g
unfolding tabulated
tabulated-same zero f g h = refl
tabulated-same (suc n) f g h = rw (tabulated-same n f g (λ i l. h i (omega arith)), h n (omega arith))

pub gather-more : (n : ℕ) (f g : ℕ → Stated) (d : Stated) → ((i : ℕ) → i < n → g i ≡ f i) → g n ≡ d
    → (r : Answer (List Stated)) → gather (n + 1) g r ≡ gather n f (more (some d) r)
unfolding gather tabulated
gather-more n f g d h e (got ds) = rw (add-one n, e, tabulated-same n g f h, append_assoc)
gather-more n f g d h e (refused k p) = refl

module _ (atoms : List ℕ) (ds : List Difference) (n a : ℕ) (d : Difference) (ha : n < length atoms) (hd : n < length ds) where
  -- the other places are as they were
  pub others : (i : ℕ) → (i ≡ n → ⊥) → held_at (set atoms n a) (set ds n d) i ≡ held_at atoms ds i
  unfolding word
  others i z = rw (get_or-set_other atoms n i a 0 z, get_or-set_other ds n i d zero_difference z)

  -- this one has what was stored
  pub this : held_at (set atoms n a) (set ds n d) n ≡ record { atom = a; says = said d }
  unfolding word
  this = rw (get_or-set_same atoms n a 0 ha, get_or-set_same ds n d zero_difference hd)
