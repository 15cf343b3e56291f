-- 62 points at a number that the line uses and that no earlier line defines. Assumes nothing.
use Prim.Native.Nat.{ℕ, ◌+◌}
use mathlib.Core.Path.{◌≡◌, refl, sym, ◌∙◌}
use mathlib.Core.Logic.{◌⊎◌, inl, inr}
use mathlib.Core.List.{List, [], ◌∷◌, ◌++◌, append_assoc}
use mathlib.Core.Bool.{Bool, true, false}
use mathlib.Core.Option.{Option, some, none}
use native.Mathlib.Omega.{arith}
use lib.ListN.{length}
use Rattle.basics.specs.Bools.{pick}
use Rattle.basics.specs.Lists.{All}
use Rattle.basics.proofs.Lists.{some_left, some_right}
use Rattle.faults.specs.Answer.{Answer, got, refused}
use Rattle.faults.specs.Limits.{last_term}
use Rattle.fields.specs.Reading.{found}
use Rattle.fields.specs.Fields.{field_place, natural}
use Rattle.aspif.specs.Statements.{comp, num, str, elem, Guard, unguarded, guard, Theory, defines, collects, states, Line, theory_in}
use Rattle.terms.specs.Says.{or_else, term, element_at}
use Rattle.terms.specs.Terms.{Env, known, Stated, unsound_from, stated_by, more}
use Rattle.terms.specs.Reasons.{unknown_from, knows_term, knows_element, functor_use, guard_use, unknown_use, Reason, reason, reason_of, answered, differences_from, differences}
use Rattle.terms.specs.Six.{Usage, used_from, operands, terms_used, elements_used, UsedIn, UsedAt, PointsAtUse}
use Rattle.fields.proofs.Spaced.{Stand}
use Rattle.terms.proofs.Ways.{Way, by_twice, by_unknown, by_second, by_no_difference, by_none, way}
use Rattle.terms.proofs.Six.{six, sound-line}
use Rattle.terms.proofs.Known.{undefined}
use Rattle.terms.proofs.Placing.{Placed, LinePlaced, text_lays}

-- ---- the leftmost use

-- one of two
either : {A : Type 0} (a b : Option A) (c : A) → or_else a b ≡ some c → (a ≡ some c) ⊎ (b ≡ some c)
either (some a) b c e = inl e
either none b c e = inr e

-- operator and bound are used as a list
guard_use_lem : (env : Env) (k : ℕ) (g : Guard) → guard_use env k g ≡ unknown_from (knows_term env) k (operands g)
unfolding unknown_from
guard_use_lem env k unguarded = refl
guard_use_lem env k (guard g u) = refl

-- one of what is used, xs, is read in field f of the line at p, and is not known
record Unknown (is_known : ℕ → Bool) (s : List ℕ) (p f : ℕ) (xs : List Usage) : Type 0 where
  number : ℕ
  after : ℕ
  read : natural 5 last_term s (field_place s f p) ≡ found number after
  used : UsedIn xs f number
  unknown : is_known number ≡ false

module _ (s : List ℕ) (p f : ℕ) where
  module _ (is_known : ℕ → Bool) where
    -- one of more
    unknown_left : (xs ys : List Usage) → Unknown is_known s p f xs → Unknown is_known s p f (xs ++ ys)
    unknown_left xs ys x = record { number = x.number; after = x.after; read = x.read; used = some_left _ xs ys x.used; unknown = x.unknown }

    unknown_right : (xs ys : List Usage) → Unknown is_known s p f ys → Unknown is_known s p f (xs ++ ys)
    unknown_right xs ys x = record { number = x.number; after = x.after; read = x.read; used = some_right _ xs ys x.used; unknown = x.unknown }

    -- the leftmost unknown of numbers that stand in the fields from k on
    leftmost : (k : ℕ) (us : List ℕ) → Stand s p k us → unknown_from is_known k us ≡ some f → Unknown is_known s p f (used_from k us)
    unfolding unknown_from
    leftmost k [] h e = let z : ◌≡◌ {A = ℕ} 0 1 = (cc) in absurd (omega arith)
    leftmost k (u ∷ us) h e = go (is_known u) refl (leftmost (k + 1) us h.1) e
      where
        go : (t : Bool) → is_known u ≡ t → (unknown_from is_known (k + 1) us ≡ some f → Unknown is_known s p f (used_from (k + 1) us))
            → pick t (unknown_from is_known (k + 1) us) (some k) ≡ some f → Unknown is_known s p f (used_from k (u ∷ us))
        go true q r e = unknown_right (record { field = k; number = u } ∷ []) (used_from (k + 1) us) (r e)
        go false q r e =
            let z : k ≡ f = (cc) in
            record { number = u; after = h.0.0; read = rw z at h.0.1; used = rw z (inl refl); unknown = q }

  module _ (env : Env) where
    -- one of the terms that a statement uses, or of the elements
    abbrev Points : Option Theory → Type 0
    Points x = Unknown (knows_term env) s p f (terms_used x) ⊎ Unknown (knows_element env) s p f (elements_used x)

    -- the leftmost use is one
    use_points : (x : Option Theory) → Placed s p x → unknown_use env x ≡ some f → Points x
    use_points (some (defines u (num k))) h e = let z : ◌≡◌ {A = ℕ} 0 1 = (cc) in absurd (omega arith)
    use_points (some (defines u (str bs))) h e = let z : ◌≡◌ {A = ℕ} 0 1 = (cc) in absurd (omega arith)
    use_points (some (defines u (comp t us))) h e = inl (go (either (unknown_from (knows_term env) 3 (functor_use t)) (unknown_from (knows_term env) 5 us) f e))
      where
        go : (unknown_from (knows_term env) 3 (functor_use t) ≡ some f) ⊎ (unknown_from (knows_term env) 5 us ≡ some f) → Unknown (knows_term env) s p f (used_from 3 (functor_use t) ++ used_from 5 us)
        go (inl a) = unknown_left (knows_term env) (used_from 3 (functor_use t)) (used_from 5 us) (leftmost (knows_term env) 3 (functor_use t) h.0 a)
        go (inr b) = unknown_right (knows_term env) (used_from 3 (functor_use t)) (used_from 5 us) (leftmost (knows_term env) 5 us h.1 b)
    use_points (some (collects v (elem us ls))) h e = inl (leftmost (knows_term env) 4 us h e)
    use_points (some (states a n vs g)) h e = go (either (unknown_from (knows_term env) 3 (n ∷ [])) (or_else (unknown_from (knows_element env) 5 vs) (guard_use env (5 + length vs) g)) f e)
      where
        behind : (unknown_from (knows_element env) 5 vs ≡ some f) ⊎ (guard_use env (5 + length vs) g ≡ some f) → Points (some (states a n vs g))
        behind (inl b) = inr (leftmost (knows_element env) 5 vs h.1 b)
        behind (inr c) =
            inl (unknown_right (knows_term env) (used_from 3 (n ∷ [])) (used_from (5 + length vs) (operands g)) (leftmost (knows_term env) (5 + length vs) (operands g) h.2 (sym (guard_use_lem env (5 + length vs) g) ∙ c)))

        go : (unknown_from (knows_term env) 3 (n ∷ []) ≡ some f) ⊎ (or_else (unknown_from (knows_element env) 5 vs) (guard_use env (5 + length vs) g) ≡ some f)
            → Points (some (states a n vs g))
        go (inl a) = inl (unknown_left (knows_term env) (used_from 3 (n ∷ [])) (used_from (5 + length vs) (operands g)) (leftmost (knows_term env) 3 (n ∷ []) h.0 a))
        go (inr b) = behind (either (unknown_from (knows_element env) 5 vs) (guard_use env (5 + length vs) g) f b)
    use_points none h e = let z : ◌≡◌ {A = ℕ} 0 1 = (cc) in absurd (omega arith)

-- ---- the first line that is refused

-- 62 is given for a use
reason_use : (env : Env) (x : Option Theory) (r : Reason) → reason_of env x ≡ some r → r.number ≡ 62 → unknown_use env x ≡ some r.field
reason_use env x r = go (way env x)
  where
    other : {k : ℕ} → reason k 0 ≡ some r → r.number ≡ 62 → k ≡ 62
    other {k} e h = let z : ◌≡◌ {A = Reason} (record { number = k; field = 0 }) r = (cc) in rw (← z) at h

    go : {y : Option Reason} → Way env x y → y ≡ some r → r.number ≡ 62 → unknown_use env x ≡ some r.field
    go (by_twice a) e h = absurd (omega (arith, other e h))
    go (by_unknown a f u) e h = let z : ◌≡◌ {A = Reason} (record { number = 62; field = f }) r = (cc) in sym u ∙ rw (← z)
    go (by_second a u c) e h = absurd (omega (arith, other e h))
    go (by_no_difference a u c d) e h = absurd (omega (arith, other e h))
    go (by_none a u c d) e h = let z : ◌≡◌ {A = ℕ} 0 1 = (cc) in absurd (omega arith)

-- what 62 points at, of the lines ls behind the lines before
record UsedFrom (text : List ℕ) (before ls : List Line) (q : ℕ) : Type 0 where
  front : List Line
  line : Line
  behind : List Line
  among-lines : before ++ ls ≡ front ++ (line ∷ behind)
  first : unsound_from before ls ≡ some line.place
  field : ℕ
  place : q ≡ field_place text field line.place
  points : Points text line.place field (known front) (theory_in line.says)

module _ (text : List ℕ) (q : ℕ) where
  -- a difference in front of a refusal changes nothing of it
  more-refused : (k : ℕ) (d : Option Stated) (a : Answer (List Stated)) → more d a ≡ refused k q → a ≡ refused k q
  more-refused k (some d) (got ds) e = let z : ◌≡◌ {A = ℕ} 0 1 = (cc) in absurd (omega arith)
  more-refused k (some d) (refused j p) e = (cc)
  more-refused k none a e = e

  -- of the lines ls, behind the lines before
  used_from_lem : (before ls : List Line) → All (LinePlaced text) ls → differences_from text before ls ≡ refused 62 q → UsedFrom text before ls q
  unfolding differences_from unsound_from
  used_from_lem before [] h e = let z : ◌≡◌ {A = ℕ} 0 1 = (cc) in absurd (omega arith)
  used_from_lem before (l ∷ ls) h e = go (reason_of (known before) (theory_in l.says)) refl (used_from_lem (before ++ (l ∷ [])) ls h.1) e
    where
      go : (r : Option Reason) → reason_of (known before) (theory_in l.says) ≡ r
          → (differences_from text (before ++ (l ∷ [])) ls ≡ refused 62 q → UsedFrom text (before ++ (l ∷ [])) ls q)
          → answered text l.place r (more (stated_by (known before) (theory_in l.says)) (differences_from text (before ++ (l ∷ [])) ls)) ≡ refused 62 q
          → UsedFrom text before (l ∷ ls) q
      go (some r) d on e =
          let k : r.number ≡ 62 = (cc) in
          record {
            front = before;
            line = l;
            behind = ls;
            among-lines = refl;
            first = rw (← six (known before) (theory_in l.says), d);
            field = r.field;
            place = (cc);
            points = use_points text l.place r.field (known before) (theory_in l.says) h.0 (reason_use (known before) (theory_in l.says) r d k);
          }
      go none d on e =
          let u = on (more-refused 62 (stated_by (known before) (theory_in l.says)) (differences_from text (before ++ (l ∷ [])) ls) e) in
          record {
            front = u.front;
            line = u.line;
            behind = u.behind;
            among-lines = sym (append_assoc before (l ∷ []) ls) ∙ u.among-lines;
            first = rw (sound-line (known before) (theory_in l.says) d) u.first;
            field = u.field;
            place = u.place;
            points = u.points;
          }

-- 62 points at a use of what is not defined
pub points_at_use : PointsAtUse
unfolding differences
points_at_use text ls q e d = go u.points
  where
    u : UsedFrom text [] ls q
    u = used_from_lem text q [] ls (text_lays text ls e) d

    at : {is_known : ℕ → Bool} {xs : List Usage} (x : Unknown is_known text u.line.place u.field xs)
        → (UsedIn (terms_used (theory_in u.line.says)) u.field x.number × (term u.front x.number ≡ none))
        ⊎ (UsedIn (elements_used (theory_in u.line.says)) u.field x.number × (element_at u.front x.number ≡ none))
        → UsedAt text ls q
    at x o =
        record {
          before = u.front;
          line = u.line;
          behind = u.behind;
          among-lines = u.among-lines;
          first = u.first;
          field = u.field;
          place = u.place;
          number = x.number;
          after = x.after;
          read = rw u.place x.read;
          undefined = o;
        }

    go : Points text u.line.place u.field (known u.front) (theory_in u.line.says) → UsedAt text ls q
    go (inl x) = at x (inl (x.used, undefined (term u.front x.number) x.unknown))
    go (inr x) = at x (inr (x.used, undefined (element_at u.front x.number) x.unknown))
