-- A round over every rule, and rounds until nothing is new: what is found is in every model, and in the end is one. Assumes nothing.
use Prim.Native.Nat.{ℕ, ◌+◌, ◌≤◌, ◌<◌, ◌-◌}
use mathlib.Core.Bool.{true, ◌||◌}
use mathlib.Core.List.{List}
use mathlib.Core.Logic.{⊎_elim}
use mathlib.Core.Path.{◌≡◌, ap, ◌∙◌, sym}
use native.Mathlib.Omega.{arith}
use borrow.Author.Count.{below_more}
use lib.ListN.{length, get_or}
use Rattle.basics.specs.inner.Bitmaps.{is_marked}
use Rattle.basics.proofs.Bools.{or_left, or_right, or_cases, and_cases, and_both}
use Rattle.faults.specs.inner.Places.{atom_places}
use Rattle.aspif.specs.Statements.{Rule}
use Rattle.aspif.specs.inner.Words.{word}
use Rattle.stable.specs.Meaning.{Atoms, reduct_head, Obeyed}
use Rattle.stable.specs.inner.Index.{rule_at, RuleOn, Readable}
use Rattle.stable.specs.inner.Steps.{body_holds, marked_count, GrownMarks, AddedMarks, fires, ClosedBy, Round, Both, LeastBy}
use Rattle.stable.proofs.Marks.{grown_trans, marked_le}
use Rattle.stable.proofs.Reduct.{holds-reduct, holds_mono}

-- what fires by atoms of S is in S, where S obeys the rule
fires_in : (X F S : Atoms) (r : Rule) → Obeyed X S r → ((a : ℕ) → F a ≡ true → S a ≡ true) → (a : ℕ) → fires X F r a ≡ true → S a ≡ true
fires_in X F S r o mono a e =
    let p = and_cases (body_holds X F r.body) (reduct_head X r.head a) e in
    o (holds-reduct X S r.body ∙ holds_mono X F S mono r.body p.0) a p.1

-- and it obeys a rule of which what fires is in it
obeys : (X S : Atoms) (r : Rule) → ((a : ℕ) → fires X S r a ≡ true → S a ≡ true) → Obeyed X S r
obeys X S r f bo a hd = f a (and_both (body_holds X S r.body) (reduct_head X r.head a) (sym (holds-reduct X S r.body) ∙ bo) hd)

-- after i rules of a round, with k new marks
pub record Turn (X : Atoms) (t index f g : List ℕ) (k i : ℕ) : Type 0 where
  pub long : length g ≡ atom_places
  pub grown : GrownMarks f g k
  pub grows : (a : ℕ) → is_marked f a ≡ true → is_marked g a ≡ true
  pub sound : (ext S : Atoms) → ClosedBy X ext t index S → ((a : ℕ) → is_marked f a ≡ true → S a ≡ true) → (a : ℕ) → is_marked g a ≡ true → S a ≡ true
  pub done : k ≡ 0 → (j : ℕ) → j < i → (a : ℕ) → fires X (is_marked f) (rule_at t (word index j)) a ≡ true → is_marked f a ≡ true

module _ {X : Atoms} {t index f g : List ℕ} {k i : ℕ} (p : Turn X t index f g k i) where
  -- the rule at hand, from the code's read of the index
  pub rule_here : Readable t index → i < length index → RuleOn t (get_or index i 0)
  unfolding word
  rule_here r h = r.each i h

  module _ {h : List ℕ} {r : ℕ} (d : AddedMarks (fires X (is_marked g) (rule_at t (get_or index i 0))) g h r) (l : length h ≡ atom_places) where
    pub few : k + r ≤ atom_places
    few = omega (arith, p.grown.counted, d.grown.counted, marked_le h, l)

    now_in : (a : ℕ) → is_marked h a ≡ (is_marked g a || fires X (is_marked g) (rule_at t (word index i)) a)
    unfolding word
    now_in a = d.now_in a

    sound : i < length index → (ext S : Atoms) → ClosedBy X ext t index S → ((a : ℕ) → is_marked f a ≡ true → S a ≡ true) → (a : ℕ) → is_marked h a ≡ true → S a ≡ true
    sound b ext S cl mono a e =
        ⊎_elim (p.sound ext S cl mono a) (fires_in X (is_marked g) S (rule_at t (word index i)) (cl.rules i b) (p.sound ext S cl mono) a)
        (or_cases (is_marked g a) (fires X (is_marked g) (rule_at t (word index i)) a) (sym (now_in a) ∙ e))

    done : k + r ≡ 0 → (a : ℕ) → fires X (is_marked f) (rule_at t (word index i)) a ≡ true → is_marked f a ≡ true
    done e a y =
        let s : g ≡ f = p.grown.same (omega arith) in
        let u : h ≡ f = d.grown.same (omega arith) ∙ s in
        ap (λ v. is_marked v a) (sym u) ∙ now_in a ∙ rw s (or_right (is_marked f a) _ y)

    pub visit : i < length index → Turn X t index f h (k + r) (i + 1)
    visit b = record {
      long = l;
      grown = grown_trans p.grown d.grown;
      grows = λ a e. now_in a ∙ or_left (is_marked g a) _ (p.grows a e);
      sound = sound b;
      done = λ e. below_more _ i (p.done (omega arith)) (done e);
    }

  pub end : length index ≤ i → Round X t index f g k
  end h = record { grown = p.grown; grows = p.grows; sound = p.sound; done = λ e j l. p.done e j (omega arith) }

-- between rounds
pub record Between (X ext : Atoms) (t index f : List ℕ) : Type 0 where
  pub long : length f ≡ atom_places
  pub sound : (S : Atoms) → ClosedBy X ext t index S → (a : ℕ) → is_marked f a ≡ true → S a ≡ true
  pub facts : (a : ℕ) → ext a ≡ true → X a ≡ true → is_marked f a ≡ true

pub first : {x ext t index f : List ℕ} → length f ≡ atom_places → Both ext x f → Between (is_marked x) (is_marked ext) t index f
first {x} {ext} l b = record {
  long = l;
  sound = λ S cl a e. let p = and_cases (is_marked ext a) (is_marked x a) (sym (b.now_in a) ∙ e) in cl.facts a p.0 p.1;
  facts = λ a e h. b.now_in a ∙ and_both (is_marked ext a) (is_marked x a) e h;
}

module _ {X ext : Atoms} {t index f : List ℕ} (p : Between X ext t index f) where
  module _ {g : List ℕ} {r : ℕ} (d : Round X t index f g r) where
    pub again : length g ≡ atom_places → Between X ext t index g
    again l = record { long = l; sound = λ S cl. d.sound ext S cl (p.sound S cl); facts = λ a e h. d.grows a (p.facts a e h) }

    -- new marks leave fewer places without one
    pub less : length g ≡ atom_places → (r ≡ 0 → ⊥) → atom_places - marked_count g < atom_places - marked_count f
    less l n = omega (arith, n, d.grown.counted, marked_le g, l)

    -- without any the least model is found
    pub settled : r ≡ 0 → LeastBy X ext t index g
    settled e =
        let s : g ≡ f = d.grown.same e in
        rw s record { model = record { facts = p.facts; rules = λ i h. obeys X (is_marked f) (rule_at t (word index i)) (d.done e i h) }; below = p.sound }
