-- Demand 1: what each ending leaves of the rooms. Assumes nothing.
use Prim.Native.Nat.{ℕ}
use mathlib.Core.Path.{◌≡◌, refl, sym, ap, ◌∙◌}
use mathlib.Core.List.{List}
use mathlib.Core.Logic.{inl, inr}
use native.Mathlib.Omega.{arith}
use lib.ListN.{length, drop}
use lib.Seq.{drop-append_seam}
use Rattle.faults.specs.Answer.{Answer, got, refused}
use Rattle.judge.specs.Plan.{Asked, Rooms}
use Rattle.judge.specs.Judged.{acceptance, refusal, Result, refusing, accepting, impossible, possible, unsupported, supported, breaks, sound, unreadable, judgeable, table}
use Rattle.judge.specs.Demand1.{Left, Demand1}

module _ (a : Asked) (b : Rooms) where
  of_refusal : (k p : ℕ) → Left a b (refusing b k p)
  of_refusal k p = record {
    refused = λ i m e. refl;
    cycle = inl refl;
    accepted = λ n e. refl;
  }

  of_answer : (t : Answer (List ℕ)) → Left a b (accepting b t)
  of_answer (got bytes) = record {
    refused = λ k p e. let z : ◌≡◌ {A = ℕ} 0 1 = (cc) in absurd (omega arith);
    cycle = inl refl;
    accepted = λ n e. let z : length bytes ≡ n = (cc) in rw (← z) (drop-append_seam bytes (drop (length bytes) b.room));
  }
  of_answer (refused k p) = of_refusal k p

-- demand 1
pub demand_1 : Demand1
demand_1 a b r (unreadable k p e f) = rw f (of_refusal a b k p)
demand_1 a b r (judgeable q e (breaks p f g)) = rw g (of_refusal a b 8 p)
demand_1 a b r (judgeable q e (sound f (unsupported c g h))) = rw h (of_refusal a b 9 c)
demand_1 a b r (judgeable q e (sound f (supported g (impossible cs h i)))) = record {
  refused = λ k p v. ap (λ (s : Result). s.rooms.room) i;
  cycle = inr (q, e, record { list = cs; negative = h; is = i });
  accepted = λ n v. let w : acceptance n ≡ refusal 10 (length cs) = sym v ∙ ap (λ (s : Result). s.verdict) i in let z : ◌≡◌ {A = ℕ} 0 1 = (cc) in absurd (omega arith);
}
demand_1 a b r (judgeable q e (sound f (supported g (possible u h ns i j)))) = rw j (of_answer a b (table ns u q.atoms))
