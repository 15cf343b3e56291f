-- What is wrong with a line: each way to its reason, and no other. Assumes nothing.
use Prim.Native.Nat.{ℕ}
use mathlib.Core.Path.{◌≡◌, refl, subst}
use mathlib.Core.Bool.{Bool, true, false}
use mathlib.Core.Option.{Option, some, none}
use Rattle.aspif.specs.Statements.{Theory}
use Rattle.terms.specs.Terms.{Env, twice, second, not_difference}
use Rattle.terms.specs.Reasons.{unknown_use, Reason, reason, reason_of}

module _ (env : Env) (s : Option Theory) where
  -- ---- from the tests to the reason

  pub reason-twice : true ≡ twice env s → reason 61 0 ≡ reason_of env s
  unfolding reason_of
  reason-twice a = rw (← a)

  module _ (a : false ≡ twice env s) where
    pub reason-unknown : (x : Option ℕ) (f : ℕ) → x ≡ some f → x ≡ unknown_use env s → reason 62 f ≡ reason_of env s
    unfolding reason_of
    reason-unknown x f h u = rw (← a, ← u, h)

    module _ (u : none ≡ unknown_use env s) where
      pub reason-second : true ≡ second env s → reason 63 0 ≡ reason_of env s
      unfolding reason_of
      reason-second c = rw (← a, ← u, ← c)

      module _ (c : false ≡ second env s) where
        pub reason_no_difference : true ≡ not_difference env s → reason 64 0 ≡ reason_of env s
        unfolding reason_of
        reason_no_difference d = rw (← a, ← u, ← c, ← d)

        pub reason-none : false ≡ not_difference env s → none ≡ reason_of env s
        unfolding reason_of
        reason-none d = rw (← a, ← u, ← c, ← d)

  -- ---- from the reason to the tests

  -- the way to a reason
  pub data Way : Option Reason → Type 0 where
    by_twice : true ≡ twice env s → Way (reason 61 0)
    by_unknown : false ≡ twice env s → (f : ℕ) → some f ≡ unknown_use env s → Way (reason 62 f)
    by_second : false ≡ twice env s → none ≡ unknown_use env s → true ≡ second env s → Way (reason 63 0)
    by_no_difference : false ≡ twice env s → none ≡ unknown_use env s → false ≡ second env s → true ≡ not_difference env s → Way (reason 64 0)
    by_none : false ≡ twice env s → none ≡ unknown_use env s → false ≡ second env s → false ≡ not_difference env s → Way none

  -- there is one to what is wrong with the line, or to nothing
  pub way : Way (reason_of env s)
  way = go (twice env s) refl (unknown_use env s) refl (second env s) refl (not_difference env s) refl
    where
      go : (a : Bool) → a ≡ twice env s → (u : Option ℕ) → u ≡ unknown_use env s → (c : Bool) → c ≡ second env s → (d : Bool) → d ≡ not_difference env s → Way (reason_of env s)
      go true a u e c f d g = subst Way (reason-twice a) (by_twice a)
      go false a (some n) u c f d g = subst Way (reason-unknown a (some n) n refl u) (by_unknown a n u)
      go false a none u true c d g = subst Way (reason-second a u c) (by_second a u c)
      go false a none u false c true d = subst Way (reason_no_difference a u c d) (by_no_difference a u c d)
      go false a none u false c false d = subst Way (reason-none a u c d) (by_none a u c d)
