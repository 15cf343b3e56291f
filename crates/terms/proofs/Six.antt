-- 61 to 64 are given exactly where a line is unsound by document 01's test for 6. Assumes nothing.
use Prim.Native.Nat.{ℕ, ◌+◌}
use mathlib.Core.Path.{◌≡◌, refl, sym, ap, ◌∙◌}
use mathlib.Core.List.{List, [], ◌∷◌, ◌++◌}
use mathlib.Core.Bool.{Bool, true, false, not, ◌&&◌, ◌||◌}
use mathlib.Core.Option.{Option, some, none}
use native.Mathlib.Omega.{arith}
use lib.IntN.{pos, negsuc}
use lib.ListN.{length}
use Rattle.basics.specs.Bools.{pick}
use Rattle.basics.specs.Lists.{among}
use Rattle.faults.specs.Answer.{Answer, got, refused}
use Rattle.fields.specs.Fields.{field_place}
use Rattle.aspif.specs.Statements.{num, str, comp, elem, unguarded, guard, Theory, defines, collects, states, Line, theory_in}
use Rattle.terms.specs.Says.{or_else}
use Rattle.terms.specs.Terms.{Env, known, defined, all_defined, twice, undefined_use, second, not_difference, unsound, unsound_from, Stated, stated_by, more}
use Rattle.terms.specs.Reasons.{unknown_from, knows_term, knows_element, unknown_use, Reason, reason, reason_of, answered, differences_from, differences}
use Rattle.terms.specs.Six.{reasons, InPlaceOfSix}
use Rattle.terms.specs.inner.Tables.{States}
use Rattle.terms.proofs.Ways.{Way, by_twice, by_unknown, by_second, by_no_difference, by_none, way}

-- ---- a line

or_defined : {A : Type 0} (a b : Option A) → defined (or_else a b) ≡ (defined a || defined b)
or_defined (some a) b = refl
or_defined none b = refl

unknown-all : {A : Type 0} (look : ℕ → Option A) (k : ℕ) (us : List ℕ) → defined (unknown_from (λ u. defined (look u)) k us) ≡ not (all_defined look us)
unfolding unknown_from all_defined
unknown-all look k [] = refl
unknown-all look k (u ∷ us) = go (defined (look u)) (unknown-all look (k + 1) us)
  where
    go : (t : Bool) → defined (unknown_from (λ u. defined (look u)) (k + 1) us) ≡ not (all_defined look us)
        → defined (pick t (unknown_from (λ u. defined (look u)) (k + 1) us) (some k)) ≡ not (t && all_defined look us)
    go true e = e
    go false e = refl

not_and : (a b : Bool) → (not a || not b) ≡ not (a && b)
not_and true b = refl
not_and false b = refl

one-unknown : {A : Type 0} (look : ℕ → Option A) (k u : ℕ) → defined (unknown_from (λ u. defined (look u)) k (u ∷ [])) ≡ not (defined (look u))
unfolding unknown_from
one-unknown look k u = go (defined (look u))
  where
    go : (t : Bool) → defined (pick {A = Option ℕ} t none (some k)) ≡ not t
    go true = refl
    go false = refl

-- there is a leftmost use exactly if something is used that is not defined
use_same : (env : Env) (s : Option Theory) → defined (unknown_use env s) ≡ undefined_use env s
unfolding unknown_from all_defined
use_same env (some (defines u (num k))) = refl
use_same env (some (defines u (str b))) = refl
use_same env (some (defines u (comp (pos t) us))) =
    or_defined (unknown_from (knows_term env) 3 (t ∷ [])) (unknown_from (knows_term env) 5 us)
    ∙ rw (one-unknown env.terms 3 t, unknown-all env.terms 5 us) (not_and (defined (env.terms t)) (all_defined env.terms us))
use_same env (some (defines u (comp (negsuc t) us))) = unknown-all env.terms 5 us
use_same env (some (collects v (elem us ls))) = unknown-all env.terms 4 us
use_same env (some (states a p vs unguarded)) =
    or_defined (unknown_from (knows_term env) 3 (p ∷ [])) (or_else (unknown_from (knows_element env) 5 vs) none)
    ∙ rw (or_defined (unknown_from (knows_element env) 5 vs) none, one-unknown env.terms 3 p, unknown-all env.elements 5 vs) (ends (defined (env.terms p)) (all_defined env.elements vs))
  where
    ends : (a b : Bool) → (not a || (not b || false)) ≡ not (a && (b && true))
    ends true true = refl
    ends true false = refl
    ends false b = refl
use_same env (some (states a p vs (guard g u))) =
    or_defined (unknown_from (knows_term env) 3 (p ∷ [])) (or_else (unknown_from (knows_element env) 5 vs) (unknown_from (knows_term env) (5 + length vs) (g ∷ u ∷ [])))
    ∙ rw (or_defined (unknown_from (knows_element env) 5 vs) (unknown_from (knows_term env) (5 + length vs) (g ∷ u ∷ [])), one-unknown env.terms 3 p, unknown-all env.elements 5 vs, unknown-all env.terms (5 + length vs) (g ∷ u ∷ []))
    (go (defined (env.terms p)) (all_defined env.elements vs))
  where
    two : (a b c d : Bool) → (not a || (not b || not (c && (d && true)))) ≡ not (a && (b && (c && d)))
    two true true true true = refl
    two true true true false = refl
    two true true false d = refl
    two true false c d = refl
    two false b c d = refl

    go : (a b : Bool) → (not a || (not b || not (all_defined env.terms (g ∷ u ∷ [])))) ≡ not (a && (b && (defined (env.terms g) && defined (env.terms u))))
    go a b = two a b (defined (env.terms g)) (defined (env.terms u))
use_same env none = refl

-- something is wrong with a line exactly if it is unsound
pub six : (env : Env) (s : Option Theory) → defined (reason_of env s) ≡ unsound env s
unfolding unsound
six env s = go (way env s)
  where
    -- what is used is defined, or not
    used : {x : Option ℕ} → x ≡ unknown_use env s → undefined_use env s ≡ defined x
    used e = sym (use_same env s) ∙ ap defined (sym e)

    go : {x : Option Reason} → Way env s x → defined x ≡ twice env s || (undefined_use env s || (second env s || not_difference env s))
    go (by_twice a) = rw (← a)
    go (by_unknown a f u) = rw (← a, used u)
    go (by_second a u c) = rw (← a, used u, ← c)
    go (by_no_difference a u c d) = rw (← a, used u, ← c, ← d)
    go (by_none a u c d) = rw (← a, used u, ← c, ← d)

-- nothing is wrong with a line that is not unsound, and the other way round
pub sound-line : (env : Env) (s : Option Theory) → reason_of env s ≡ none → unsound env s ≡ false
sound-line env s e = sym (six env s) ∙ rw e

-- the number is one of the four, and the field is 0 for all but 62
record OneOfFour (r : Reason) : Type 0 where
  one : among r.number reasons ≡ true
  first_byte : (r.number ≡ 62 → ⊥) → r.field ≡ 0

four : (env : Env) (s : Option Theory) (r : Reason) → reason_of env s ≡ some r → OneOfFour r
four env s r = go (way env s)
  where
    is : {k f : ℕ} → reason k f ≡ some r → among k reasons ≡ true → ((k ≡ 62 → ⊥) → f ≡ 0) → OneOfFour r
    is {k} {f} e a b = let z : ◌≡◌ {A = Reason} (record { number = k; field = f }) r = (cc) in rw (← z) (record { one = a; first_byte = b })

    go : {x : Option Reason} → Way env s x → x ≡ some r → OneOfFour r
    go (by_twice a) e = is e refl (λ n. refl)
    go (by_unknown a f u) e = is e refl (λ n. absurd (n refl))
    go (by_second a u c) e = is e refl (λ n. refl)
    go (by_no_difference a u c d) e = is e refl (λ n. refl)
    go (by_none a u c d) e = let z : ◌≡◌ {A = ℕ} 0 1 = (cc) in absurd (omega arith)

-- ---- the lines of a text

-- the first unsound place w and the answer a agree
record Agree (text : List ℕ) (w : Option ℕ) (a : Answer (List Stated)) : Type 0 where
  sound : w ≡ none → (ds : List Stated) × (a ≡ got ds)
  unsound : (p : ℕ) → w ≡ some p → (r : Reason) × (OneOfFour r × (a ≡ refused r.number (field_place text r.field p)))

more-got : (d : Option Stated) (a : Answer (List Stated)) (ds : List Stated) → a ≡ got ds → (es : List Stated) × (more d a ≡ got es)
more-got none a ds e = (ds, e)
more-got (some d) a ds e = (d ∷ ds, rw e)

refused-more : (d : Option Stated) (a : Answer (List Stated)) (k p : ℕ) → a ≡ refused k p → more d a ≡ refused k p
refused-more none a k p e = e
refused-more (some d) a k p e = rw e

-- one line in front
agree_line : (text : List ℕ) (place : ℕ) (x : Option Reason) → ((r : Reason) → x ≡ some r → OneOfFour r) → (d : Option Stated) (w : Option ℕ) (a : Answer (List Stated))
    → Agree text w a → Agree text (pick (defined x) (some place) w) (answered text place x (more d a))
agree_line text place (some r) f d w a h =
    record {
      sound = λ e. let z : ◌≡◌ {A = ℕ} 0 1 = (cc) in absurd (omega arith);
      unsound = λ p e. let z : place ≡ p = (cc) in (r, (f r refl, rw z));
    }
agree_line text place none f d w a h =
    record {
      sound = λ e. let g = h.sound e in more-got d a g.0 g.1;
      unsound = λ p e. let g = h.unsound p e in (g.0, (g.1.0, refused-more d a _ _ g.1.1));
    }

agree : (text : List ℕ) (before ls : List Line) → Agree text (unsound_from before ls) (differences_from text before ls)
unfolding unsound_from differences_from
agree text before [] = record { sound = λ e. ([], refl); unsound = λ p e. let z : ◌≡◌ {A = ℕ} 0 1 = (cc) in absurd (omega arith) }
agree text before (l ∷ ls) =
    rw (← six (known before) (theory_in l.says))
    (agree_line text l.place (reason_of (known before) (theory_in l.says)) (four (known before) (theory_in l.says)) (stated_by (known before) (theory_in l.says))
    (unsound_from (before ++ (l ∷ [])) ls) (differences_from text (before ++ (l ∷ [])) ls) (agree text (before ++ (l ∷ [])) ls))

never : {A : Type 0} {a : A} {k p : ℕ} → refused k p ≡ got a → ⊥
never e = let z : ◌≡◌ {A = ℕ} 0 1 = (cc) in omega arith

none_if : {text : List ℕ} (w : Option ℕ) {a : Answer (List Stated)} {ds : List Stated} → Agree text w a → a ≡ got ds → w ≡ none
none_if none h e = refl
none_if (some p) h e = absurd (never (sym (h.unsound p refl).1.1 ∙ e))

-- 61 to 64 stand in place of 6
pub in_place_of_six : (text : List ℕ) (ls : List Line) → InPlaceOfSix text ls
unfolding differences
in_place_of_six text ls =
    let h = agree text [] ls in
    record {
      sound = (h.sound, λ g. none_if (unsound_from [] ls) h g.1);
      unsound = λ p e.
          let g = h.unsound p e in
          record { number = g.0.number; field = g.0.field; one = g.1.0.one; first_byte = g.1.0.first_byte; is = g.1.1 };
    }

-- the text only places what is wrong
same-got : (text other : List ℕ) (before ls : List Line) (ds : List Stated) → differences_from text before ls ≡ got ds → differences_from other before ls ≡ got ds
unfolding differences_from
same-got text other before [] ds e = e
same-got text other before (l ∷ ls) ds e =
    go (reason_of (known before) (theory_in l.says)) (stated_by (known before) (theory_in l.says)) (differences_from text (before ++ (l ∷ [])) ls) (same-got text other (before ++ (l ∷ [])) ls) e
  where
    go : (x : Option Reason) (d : Option Stated) (a : Answer (List Stated)) → ((es : List Stated) → a ≡ got es → differences_from other (before ++ (l ∷ [])) ls ≡ got es)
        → answered text l.place x (more d a) ≡ got ds → answered other l.place x (more d (differences_from other (before ++ (l ∷ [])) ls)) ≡ got ds
    go (some r) d a h e = absurd (never e)
    go none none a h e = h ds e
    go none (some d) (got es) h e = rw (h es refl) e
    go none (some d) (refused k p) h e = absurd (never e)

pub differences-got : (text : List ℕ) (ls : List Line) (ds : List Stated) → differences text ls ≡ got ds → States ls ds
unfolding differences
differences-got text ls ds e other = same-got text other [] ls ds e
