-- What the reader of a time answers: 20 exactly where the slice is no table, and one answer for each slice and number.
use Prim.Native.Nat.{ℕ}
use mathlib.Core.Path.{◌≡◌, refl, sym, ap, ◌∙◌}
use mathlib.Core.Bool.{Bool, true, false}
use mathlib.Core.List.{List, [], ◌∷◌}
use mathlib.Core.Logic.{◌↔◌}
use native.Mathlib.Omega.{arith}
use lib.Dec.{eqb}
use Rattle.basics.specs.Bools.{pick}
use Rattle.faults.specs.Answer.{got, refused}
use Rattle.faults.specs.Values.{number, as_answer}
use Rattle.faults.specs.declared.Refusal.{Refusal}
use Rattle.faults.proofs.Numbers.{same_kind}
use Rattle.timetable.specs.Table.{Record, content_of, is_table}
use Rattle.std.specs.Prelude.{Result, Ok, Err}
use Rattle.timetable.specs.Times.{time_among, time_of}

-- ---- 20

not-among : (u : ℕ) (rs : List Record) → time_among u rs ≡ refused 20 0 → ⊥
unfolding time_among
not-among u [] e = let z : ◌≡◌ {A = ℕ} 21 20 = (cc) in omega arith
not-among u (r ∷ rs) e = go (eqb r.name u) (not-among u rs) e
  where
    go : (t : Bool) → (time_among u rs ≡ refused 20 0 → ⊥) → pick t (got r.time) (time_among u rs) ≡ refused 20 0 → ⊥
    go true n q = let z : ◌≡◌ {A = ℕ} 0 1 = (cc) in omega arith
    go false n q = n q

-- the answer is 20 exactly if the slice is no table
pub no_table_exactly : (s : List ℕ) (u : ℕ) → (time_of s u ≡ refused 20 0) ↔ (is_table s ≡ false)
unfolding time_of
no_table_exactly s u = (λ e. go (is_table s) e, λ h. rw h)
  where
    go : (t : Bool) → pick t (time_among u (content_of s).records) (refused 20 0) ≡ refused 20 0 → t ≡ false
    go true q = absurd (not-among u (content_of s).records q)
    go false q = refl

-- ---- one answer

same-refusal : (r q : Refusal) → r.kind ≡ q.kind → r.place ≡ q.place → r ≡ q
same-refusal r q e f =
    let g : ◌≡◌ {A = Refusal} (record { kind = r.kind; place = r.place }) (record { kind = q.kind; place = q.place }) = rw (e, f) in
    g

same-time : (a b : Result ℕ Refusal) → as_answer a ≡ as_answer b → a ≡ b
same-time (Ok t) (Ok u) e = let d : t ≡ u = (cc) in rw d
same-time (Ok t) (Err r) e = absurd (let z : ◌≡◌ {A = ℕ} 0 1 = (cc) in omega arith)
same-time (Err r) (Ok t) e = absurd (let z : ◌≡◌ {A = ℕ} 0 1 = (cc) in omega arith)
same-time (Err r) (Err q) e =
    let k : number r.kind ≡ number q.kind = (cc) in
    let p : r.place ≡ q.place = (cc) in
    ap Err (same-refusal r q (same_kind r.kind q.kind k) p)

-- for each slice and number the contract allows one answer
pub one_time : (s : List ℕ) (u : ℕ) (a b : Result ℕ Refusal) → as_answer a ≡ time_of s u → as_answer b ≡ time_of s u → a ≡ b
one_time s u a b p q = same-time a b (p ∙ sym q)
