-- The first places of two slices as a list of differences: what holds of each, which are listed, and which of them are in force.
use Prim.Native.Nat.{ℕ, zero, suc, ◌<◌}
use mathlib.Core.Path.{◌≡◌, refl, subst, ap, ◌∙◌}
use mathlib.Core.Logic.{◌⊎◌, inl, inr, ⊎_elim}
use mathlib.Core.Bool.{Bool, true, false}
use mathlib.Core.List.{List, [], ◌∷◌, ◌++◌}
use native.Mathlib.Omega.{arith}
use native.Mathlib.Decide.{dec_lt}
use lib.ListN.{length, take, length-append}
use lib.Seq.{get_or-take, length-take-le}
use Rattle.basics.specs.Bools.{pick}
use Rattle.basics.specs.inner.Bitmaps.{is_marked}
use Rattle.basics.specs.Lists.{All, Some}
use Rattle.basics.proofs.Lists.{some_left, some_right}
use Rattle.aspif.specs.inner.Words.{word}
use Rattle.diffs.specs.Diff.{Diff}
use Rattle.diffs.specs.inner.Answer.{zero_difference}
use Rattle.diffs.specs.declared.Difference.{Difference}
use Rattle.diffs.proofs.Choosing.{by_dec}
use Rattle.diffs.proofs.Names.{all_left, all_right}
use Rattle.terms.specs.Terms.{Stated, Lists}
use Rattle.terms.specs.inner.Tables.{tabulated, held_at}
use Rattle.terms.specs.inner.Values.{Within}
use Rattle.terms.proofs.Turns.{tabulated-same}
use Rattle.judge.specs.inner.Stages.{stated, in_force}

-- ---- the first places

-- the front parts of two slices have what these have in their first places
pub front-stated : (n : ℕ) (atoms : List ℕ) (ds : List Difference) → Within n atoms ds → stated (take n atoms) (take n ds) ≡ tabulated n (held_at atoms ds)
unfolding word
front-stated n atoms ds w =
    rw (length-take-le n atoms w.in_atoms)
    (tabulated-same n (held_at (take n atoms) (take n ds)) (held_at atoms ds) (λ i l. rw (get_or-take n atoms i 0 l, get_or-take n ds i zero_difference l)))

-- ---- each place

-- there are n first places
pub length-tabulated : {A : Type 0} (n : ℕ) (f : ℕ → A) → length (tabulated n f) ≡ n
unfolding tabulated
length-tabulated zero f = refl
length-tabulated (suc n) f = length-append (tabulated n f) (f n ∷ []) ∙ omega (arith, length-tabulated n f)

module _ {A : Type 0} (P : A → Type 0) where
  -- what holds of each member holds at each of the first n places
  pub tabulated-all : (n : ℕ) (f : ℕ → A) → All P (tabulated n f) → (i : ℕ) → i < n → P (f i)
  unfolding tabulated
  tabulated-all zero f h i l = absurd (omega arith)
  tabulated-all (suc n) f h i l =
      by_dec (dec_lt i n)
      (λ g. tabulated-all n f (all_left P (tabulated n f) (f n ∷ []) h) i g)
      (λ g. subst (λ (j : ℕ). P (f j)) (omega arith) (all_right P (tabulated n f) (f n ∷ []) h).0)

  -- ---- some place

  -- a member of the whole is one of a part
  some_split : (l r : List A) → Some P (l ++ r) → Some P l ⊎ Some P r
  some_split [] r h = inr h
  some_split (a ∷ l) r h = ⊎_elim (λ p. inl (inl p)) (λ p. ⊎_elim (λ q. inl (inr q)) (λ q. inr q) (some_split l r p)) h

  -- one of the first n places
  pub record Place (n : ℕ) (f : ℕ → A) : Type 0 where
    pub place : ℕ
    pub within : place < n
    pub holds : P (f place)

  -- a member stands at a place
  pub some-place : (n : ℕ) (f : ℕ → A) → Some P (tabulated n f) → Place n f
  unfolding tabulated
  some-place zero f h = absurd h
  some-place (suc n) f h =
      ⊎_elim (λ p. let q = some-place n f p in record { place = q.place; within = omega (arith, q.within); holds = q.holds })
      (λ p. ⊎_elim (λ q. record { place = n; within = omega arith; holds = q }) (λ q. absurd q) p)
      (some_split (tabulated n f) (f n ∷ []) h)

  -- what stands at a place is a member
  pub place-some : (n : ℕ) (f : ℕ → A) (i : ℕ) → i < n → P (f i) → Some P (tabulated n f)
  unfolding tabulated
  place-some zero f i l h = absurd (omega arith)
  place-some (suc n) f i l h =
      by_dec (dec_lt i n)
      (λ g. some_left P (tabulated n f) (f n ∷ []) (place-some n f i g h))
      (λ g. some_right P (tabulated n f) (f n ∷ []) (inl (subst (λ (j : ℕ). P (f j)) (omega arith) h)))

-- ---- those in force

module _ (x : List ℕ) where
  -- those in force of two lists are those of each
  pub in_force-append : (ds es : List Stated) → in_force x (ds ++ es) ≡ in_force x ds ++ in_force x es
  unfolding in_force
  in_force-append [] es = refl
  in_force-append (s ∷ ds) es = go (is_marked x s.atom) (in_force-append ds es)
    where
      go : (t : Bool) → in_force x (ds ++ es) ≡ in_force x ds ++ in_force x es
          → pick t (s ∷ in_force x (ds ++ es)) (in_force x (ds ++ es)) ≡ pick t (s ∷ in_force x ds) (in_force x ds) ++ in_force x es
      go true e = rw e
      go false e = e

  -- what holds of each holds of each in force
  pub all_force : (P : Stated → Type 0) (ds : List Stated) → All P ds → All P (in_force x ds)
  unfolding in_force
  all_force P [] h = tt
  all_force P (s ∷ ds) h = go (is_marked x s.atom) (all_force P ds h.1)
    where
      go : (t : Bool) → All P (in_force x ds) → All P (pick t (s ∷ in_force x ds) (in_force x ds))
      go true q = (h.0, q)
      go false q = q

  -- what is listed in force is listed, and its atom is marked
  pub force_lists : (ds : List Stated) (a : ℕ) (d : Diff) → Lists (in_force x ds) a d → Lists ds a d × (is_marked x a ≡ true)
  unfolding in_force
  force_lists [] a d h = absurd h
  force_lists (s ∷ ds) a d h = go (force_lists ds a d) (is_marked x s.atom) refl h
    where
      go : (Lists (in_force x ds) a d → Lists ds a d × (is_marked x a ≡ true)) → (t : Bool) → is_marked x s.atom ≡ t → Lists (pick t (s ∷ in_force x ds) (in_force x ds)) a d → Lists (s ∷ ds) a d × (is_marked x a ≡ true)
      go f true e q =
          ⊎_elim (λ w. (inl w, subst (λ (b : ℕ). is_marked x b ≡ true) (ap (λ (z : Stated). z.atom) w) e))
          (λ w. let r = f w in (inr r.0, r.1)) q
      go f false e q = let r = f q in (inr r.0, r.1)

  -- what is listed with a marked atom is listed in force
  pub lists_force : (ds : List Stated) (a : ℕ) (d : Diff) → Lists ds a d → is_marked x a ≡ true → Lists (in_force x ds) a d
  unfolding in_force
  lists_force [] a d h m = absurd h
  lists_force (s ∷ ds) a d h m = ⊎_elim here (λ w. further (is_marked x s.atom) (lists_force ds a d w m)) h
    where
      here : s ≡ record { atom = a; says = d } → Lists (pick (is_marked x s.atom) (s ∷ in_force x ds) (in_force x ds)) a d
      here e = let t : is_marked x s.atom ≡ true = ap (λ (z : Stated). is_marked x z.atom) e ∙ m in rw t (inl e)

      further : (t : Bool) → Lists (in_force x ds) a d → Lists (pick t (s ∷ in_force x ds) (in_force x ds)) a d
      further true q = inr q
      further false q = q
