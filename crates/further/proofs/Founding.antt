-- Added time rules give no old atom support and take none away: the unfounded atoms are the same. Assumes nothing.
use Prim.Native.Nat.{ℕ}
use mathlib.Core.Path.{◌≡◌, refl, sym, ◌∙◌}
use mathlib.Core.Bool.{Bool, true, false, ◌||◌}
use mathlib.Core.Logic.{⊎_elim}
use mathlib.Core.List.{List}
use borrow.Author.Tests.{eqb-true, eq-eqb}
use Rattle.basics.specs.Lists.{among}
use Rattle.basics.proofs.Bools.{or_left, or_right, or_else}
use Rattle.aspif.specs.Statements.{Head, Body, Statement, rule, statement_atoms}
use Rattle.terms.specs.Terms.{external}
use Rattle.stable.specs.Meaning.{Atoms, HasRule, Obeyed, Closed, Unfounded, Founded, SmallestUnfounded}
use Rattle.judge.specs.Plan.{Ready, holds}
use Rattle.further.specs.Later.{Added, a_fact, fact, Later}
use Rattle.judge.proofs.Ascent.{of_member}
use Rattle.further.proofs.Lists.{Has, rule_had, had_rule}
use Rattle.further.proofs.Agree.{Agree, model-same}
use Rattle.further.proofs.Added.{says_on, says_back, old_apart, line_apart, candidate-same, lines_agree, old_holds, external-same}

-- a set that has the new atoms is a model of each rule that is added
added_model : (q : Ready) (new : List ℕ) (Y T : Atoms) → ((a : ℕ) → among a new ≡ true → T a ≡ true) → (h : Head) (b : Body)
    → Added q.lines new (rule h b) → Obeyed Y T (record { head = h; body = b })
added_model q new Y T f h b (a_fact c i) p a e = rw (eqb-true a c e) (f c i)

-- a fact is in every model
fact_in : (q' : Ready) (X ext S : Atoms) (a : ℕ) → HasRule q'.lines (fact a) → Closed X ext q'.lines S → S a ≡ true
fact_in q' X ext S a x c = c.rules (fact a) x refl a (eq-eqb a a refl)

module _ (q q' : Ready) (new : List ℕ) (l : Later q q' new) where
  -- a model of the new reduct is one of the old
  closed-back : (S : Atoms) → Closed (holds q') (external q'.lines) q'.lines S → Closed (holds q) (external q.lines) q.lines S
  closed-back S c = record {
    facts = λ a e x. c.facts a (external-same q q' new l a (old_apart q q' new l a x) ∙ e) (old_holds q q' new l a x);
    rules = λ r x.
        let s = rule r.head r.body in
        let h = rule_had q.lines r x in
        model-same (holds q') (holds q) S S r (λ a e. sym (lines_agree q q' new l s h a e)) (λ a e. refl)
        (c.rules r (had_rule q'.lines r (says_on (Added q.lines new) l.lines s h)));
  }

  -- a set with the new atoms
  abbrev with : Atoms → Atoms
  with S a = S a || among a new

  with_same : (S : Atoms) (s : Statement) → Has q.lines s → Agree S (with S) (statement_atoms s)
  with_same S s x a e = sym (or_else (S a) (among a new) (line_apart q q' new l s x a e))

  -- a model of the old reduct, with the new atoms, is one of the new
  closed_on : (S : Atoms) → Closed (holds q) (external q.lines) q.lines S → Closed (holds q') (external q'.lines) q'.lines (with S)
  closed_on S c = record {
    facts = λ a e y. go a e y (among a new) refl;
    rules = λ r x.
        let s = rule r.head r.body in
        ⊎_elim
        (λ o. model-same (holds q) (holds q') S (with S) r (lines_agree q q' new l s o) (with_same S s o) (c.rules r (had_rule q.lines r o)))
        (λ n. added_model q new (holds q') (with S) (λ a e. or_right (S a) (among a new) e) r.head r.body n)
        (says_back (Added q.lines new) l.lines s (rule_had q'.lines r x));
  }
    where
      go : (a : ℕ) → external q'.lines a ≡ true → holds q' a ≡ true → (t : Bool) → among a new ≡ t → with S a ≡ true
      go a e y true i = or_right (S a) (among a new) i
      go a e y false i = or_left (S a) (among a new) (c.facts a (sym (external-same q q' new l a i) ∙ e) (candidate-same q q' new l a i ∙ y))

  -- what was unfounded is
  pub still-unfounded : (a : ℕ) → Unfounded (holds q) (external q.lines) q.lines a → Unfounded (holds q') (external q'.lines) q'.lines a
  still-unfounded a u = record {
    holds = old_holds q q' new l a u.holds;
    outside = λ least. u.outside (λ S c. sym (or_else (S a) (among a new) (old_apart q q' new l a u.holds)) ∙ least (with S) (closed_on S c));
  }

  -- what is unfounded was: a new atom is a fact, and so founded
  pub only-unfounded : (a : ℕ) → Unfounded (holds q') (external q'.lines) q'.lines a → Unfounded (holds q) (external q.lines) q.lines a
  only-unfounded a u = go (among a new) refl
    where
      go : (t : Bool) → among a new ≡ t → Unfounded (holds q) (external q.lines) q.lines a
      go true i =
          absurd (u.outside (λ S c. fact_in q' (holds q') (external q'.lines) S a (of_member (λ n. HasRule q'.lines (fact n)) new a l.facts i) c))
      go false i = record {
        holds = candidate-same q q' new l a i ∙ u.holds;
        outside = λ least. u.outside (λ S c. least S (closed-back S c));
      }

  -- if all was founded, all is
  pub still-founded : Founded (holds q) (external q.lines) q.lines → Founded (holds q') (external q'.lines) q'.lines
  still-founded f a u = f a (only-unfounded a u)

  -- the smallest unfounded atom is the same
  pub still_smallest : (a : ℕ) → SmallestUnfounded (holds q) (external q.lines) q.lines a → SmallestUnfounded (holds q') (external q'.lines) q'.lines a
  still_smallest a s = record {
    unfounded = still-unfounded a s.unfounded;
    before = λ b h u. s.before b h (only-unfounded b u);
  }
