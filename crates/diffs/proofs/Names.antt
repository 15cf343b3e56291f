-- Lists of names that are all different: parts and joins of them, a path's names, and how many there can be.
use mathlib.Core.Path.{subst, sym, ◌∙◌}
use mathlib.Core.Logic.{◌≢◌}
use mathlib.Core.List.{List, [], ◌∷◌, ◌++◌, map}
use Prim.Native.Nat.{ℕ, zero, suc, ◌≤◌, ◌<◌}
use native.Mathlib.Omega.{arith}
use native.Mathlib.Decide.{ℕ_discrete}
use lib.ListN.{length, take}
use Rattle.basics.specs.Lists.{All, NotIn, Distinct}
use Rattle.diffs.specs.Diff.{Diff, Path, xs_of}
use Rattle.diffs.proofs.Choosing.{by_dec}

-- ---- All

pub all_map : {A : Type 0} (P Q : A → Type 0) → ((a : A) → P a → Q a) → (l : List A) → All P l → All Q l
all_map P Q f [] h = tt
all_map P Q f (a ∷ l) h = (f a h.0, all_map P Q f l h.1)

pub all_join : {A : Type 0} (P : A → Type 0) (l r : List A) → All P l → All P r → All P (l ++ r)
all_join P [] r h k = k
all_join P (a ∷ l) r h k = (h.0, all_join P l r h.1 k)

pub all_left : {A : Type 0} (P : A → Type 0) (l r : List A) → All P (l ++ r) → All P l
all_left P [] r h = tt
all_left P (a ∷ l) r h = (h.0, all_left P l r h.1)

pub all_right : {A : Type 0} (P : A → Type 0) (l r : List A) → All P (l ++ r) → All P r
all_right P [] r h = h
all_right P (a ∷ l) r h = all_right P l r h.1

pub all_swap : {A : Type 0} (P : A → Type 0) (l r : List A) → All P (l ++ r) → All P (r ++ l)
all_swap P l r h = all_join P r l (all_right P l r h) (all_left P l r h)

pub all_take : {A : Type 0} (P : A → Type 0) (n : ℕ) (l : List A) → All P l → All P (take n l)
all_take P zero l h = tt
all_take P (suc n) [] h = tt
all_take P (suc n) (a ∷ l) h = (h.0, all_take P n l h.1)

-- ---- Distinct

abbrev Apart : List ℕ → List ℕ → Type 0
Apart ns ms = All (λ n. NotIn n ms) ns

apart_nil : (ms : List ℕ) → Apart ms []
apart_nil [] = tt
apart_nil (m ∷ ms) = (tt, apart_nil ms)

apart_cons : (n : ℕ) (ns ms : List ℕ) → NotIn n ms → Apart ms ns → Apart ms (n ∷ ns)
apart_cons n ns [] h k = tt
apart_cons n ns (m ∷ ms) h k = ((λ e. h.0 (sym e), k.0), apart_cons n ns ms h.1 k.1)

apart_flip : (ns ms : List ℕ) → Apart ns ms → Apart ms ns
apart_flip [] ms h = apart_nil ms
apart_flip (n ∷ ns) ms h = apart_cons n ns ms h.0 (apart_flip ns ms h.1)

distinct_parts : (ns ms : List ℕ) → Distinct (ns ++ ms) → Distinct ns × Distinct ms × Apart ns ms
distinct_parts [] ms h = (tt, h, tt)
distinct_parts (n ∷ ns) ms h =
    let r = distinct_parts ns ms h.1 in
    ((all_left (λ m. n ≢ m) ns ms h.0, r.0), r.1, (all_right (λ m. n ≢ m) ns ms h.0, r.2))

distinct_join : (ns ms : List ℕ) → Distinct ns → Distinct ms → Apart ns ms → Distinct (ns ++ ms)
distinct_join [] ms h k a = k
distinct_join (n ∷ ns) ms h k a = (all_join (λ m. n ≢ m) ns ms h.0 a.0, distinct_join ns ms h.1 k a.1)

pub distinct_swap : (ns ms : List ℕ) → Distinct (ns ++ ms) → Distinct (ms ++ ns)
distinct_swap ns ms h =
    let r = distinct_parts ns ms h in
    distinct_join ms ns r.1 r.0 (apart_flip ns ms r.2)

-- ---- a path's names

-- the names y1, y2, .., yn
abbrev pub ys_of : List Diff → List ℕ
ys_of ds = map (λ (d : Diff). d.y) ds

notin_take : (w n : ℕ) (ds : List Diff) → NotIn w (ys_of ds) → NotIn w (ys_of (take n ds))
notin_take w zero ds h = tt
notin_take w (suc n) [] h = tt
notin_take w (suc n) (d ∷ ds) h = (h.0, notin_take w n ds h.1)

pub distinct_take : (n : ℕ) (ds : List Diff) → Distinct (ys_of ds) → Distinct (ys_of (take n ds))
distinct_take zero ds h = tt
distinct_take (suc n) [] h = tt
distinct_take (suc n) (d ∷ ds) h = (notin_take d.y n ds h.0, distinct_take n ds h.1)

-- each x is the path's start or a y before it, and its end is one of the two too
notin_xs : (w a : ℕ) (ds : List Diff) (b : ℕ) → Path a ds b → NotIn w (a ∷ ys_of ds) → NotIn w (xs_of ds)
notin_xs w a [] b p h = tt
notin_xs w a (d ∷ ds) b p h = (λ e. h.0 (e ∙ p.0), notin_xs w d.y ds b p.1 h.1)

notin_end : (w a : ℕ) (ds : List Diff) (b : ℕ) → Path a ds b → NotIn w (a ∷ ys_of ds) → w ≢ b
notin_end w a [] b p h = λ e. h.0 (e ∙ sym p)
notin_end w a (d ∷ ds) b p h = notin_end w d.y ds b p.1 h.1

xs_of_ys : (a : ℕ) (ds : List Diff) (b : ℕ) → Path a ds b → Distinct (a ∷ ys_of ds) → Distinct (xs_of ds) × NotIn b (xs_of ds)
xs_of_ys a [] b p h = (tt, tt)
xs_of_ys a (d ∷ ds) b p h =
    let r = xs_of_ys d.y ds b p.1 h.1 in (
      (subst (λ (n : ℕ). NotIn n (xs_of ds)) (sym p.0) (notin_xs a d.y ds b p.1 h.0), r.0),
      (λ e. notin_end a d.y ds b p.1 h.0 (sym (e ∙ p.0)), r.1),
    )

-- of a closed path, the names x are all different where the names y are
pub closed-different : (a : ℕ) (ds : List Diff) → Path a ds a → Distinct (ys_of ds) → Distinct (xs_of ds)
closed-different a [] p h = tt
closed-different a (d ∷ ds) p h =
    let r = xs_of_ys d.y ds a p.1 h in
    (subst (λ (n : ℕ). NotIn n (xs_of ds)) (sym p.0) r.1, r.0)

-- ---- how many there can be

record Less (k : ℕ) (ns : List ℕ) : Type 0 where
  rest : List ℕ
  small : All (λ a. a < k) rest
  distinct : Distinct rest
  count : length ns ≤ suc (length rest)
  out : (b : ℕ) → NotIn b ns → NotIn b rest

shrink : (k : ℕ) (ns : List ℕ) → NotIn k ns → All (λ a. a < suc k) ns → All (λ a. a < k) ns
shrink k [] n h = tt
shrink k (a ∷ ns) n h = (let f = n.0 in let g = h.0 in omega arith, shrink k ns n.1 h.1)

less : (k : ℕ) (ns : List ℕ) → Distinct ns → All (λ a. a < suc k) ns → Less k ns
less k [] d h = record { rest = []; small = tt; distinct = tt; count = omega arith; out = λ b n. tt }
less k (a ∷ ns) d h =
    by_dec (ℕ_discrete a k)
    (λ e. record {
      rest = ns;
      small = shrink k ns (subst (λ (n : ℕ). NotIn n ns) e d.0) h.1;
      distinct = d.1;
      count = omega arith;
      out = λ b n. n.1;
    })
    (λ n. let r = less k ns d.1 h.1 in record {
      rest = a ∷ r.rest;
      small = (let g = h.0 in omega arith, r.small);
      distinct = (r.out a d.0, r.distinct);
      count = omega (arith, r.count);
      out = λ b q. (q.0, r.out b q.1);
    })

-- different numbers below n are at most n
pub pigeon : (n : ℕ) (ns : List ℕ) → Distinct ns → All (λ a. a < n) ns → length ns ≤ n
pigeon zero [] d h = omega arith
pigeon zero (a ∷ ns) d h = let z : ⊥ = let g = h.0 in omega arith in absurd z
pigeon (suc k) ns d h =
    let r = less k ns d h in
    omega (arith, r.count, pigeon k r.rest r.distinct r.small)
