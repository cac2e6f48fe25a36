-- A set of parts has one outcome.
use Rattle.std.proofs.Common.{◌≡◌, ℕ, ◌≤◌, Bool, List, [], ◌++◌, Contains, arith, ap, sym, ◌∙◌, subst, refl}
use Rattle.std.proofs.lemmas.List.Elements.{All-contains}
use Rattle.std.specs.FinSet as set
use Rattle.staat_vec.specs.declared.vector.V3.{V3}
use Rattle.staat_model.specs.declared.assembly.Part.{Part}
use Rattle.staat_model.specs.declared.set.PartSet.{PartSet}
use Rattle.staat_model.specs.declared.tree.Kind.{Kind}
use Rattle.staat_model.specs.Outcomes.{Serves, Try, IsMovedSide, IsStep, HasNoStep, Finding, planned, stuck, IsOutcome, one_part, no_step, moved_stuck, rest_stuck, both_planned}
use Rattle.staat_vec.specs.Lists.{IsFirst}
use Rattle.staat_model.specs.Plans.{Plan, leaf, split}
use Rattle.staat_model.specs.Sets.{Has, single}
use Rattle.staat_model.proofs.FreeSides.{IsMovedSide-unique}
use Rattle.staat_model.proofs.OneTable.{tries_unique}
use Rattle.staat_model.proofs.SetMembers.{has-single}
use Rattle.staat_model.proofs.SetSizes.{len-single}
use Rattle.staat_vec.proofs.Unique.{IsFirst-unique, IsFirst-in}

pub not_single : (w : PartSet) (p : ℕ) → w ≡ single p → 2 ≤ set.len w → ⊥
not_single w p is two = let one : set.len w ≡ 1 = ap set.len is ∙ len-single p in absurd (omega arith)

pub one_alone : (p q : ℕ) → single p ≡ single q → p ≡ q
one_alone p q e = sym ((has-single p q).0 (subst (λ (u : PartSet). Has u q) (sym e) ((has-single q q).1 refl)))

module _ (robust : Bool) (parts : List Part) where
  step_unique : (w s t : PartSet) (x y : Try) → IsStep robust parts w x s → IsStep robust parts w y t → (x ≡ y) × (s ≡ t)
  step_unique w s t x y a b =
      let lists : a.tries ≡ b.tries = tries_unique robust parts w a.tries b.tries a.tries_are b.tries_are in
      let tries : x ≡ y = IsFirst-unique (λ u. Serves parts w u.d) b.tries x y (subst (λ us. IsFirst (λ u. Serves parts w u.d) us x) lists a.first) b.first in
      (tries, IsMovedSide-unique parts w y.d s t (subst (λ u. IsMovedSide parts w u.d s) tries a.moved) b.moved)

  no_step_and_step : (w s : PartSet) (x : Try) → HasNoStep robust parts w → IsStep robust parts w x s → ⊥
  no_step_and_step w s x a b =
      let lists : a.tries ≡ b.tries = tries_unique robust parts w a.tries b.tries a.tries_are b.tries_are in
      let found : Contains b.tries x × Serves parts w x.d = IsFirst-in (λ u. Serves parts w u.d) b.tries x b.first in
      All-contains (λ u. Serves parts w u.d → ⊥) a.tries x a.none (subst (λ us. Contains us x) (sym lists) found.0) found.1

  along : {s t : PartSet} (f : Finding) → s ≡ t → IsOutcome robust parts t f → IsOutcome robust parts s f
  along f e = subst (λ u. IsOutcome robust parts u f) (sym e)

  -- a set has one outcome
  pub IsOutcome-unique : {w : PartSet} {f g : Finding} → IsOutcome robust parts w f → IsOutcome robust parts w g → f ≡ g
  IsOutcome-unique (one_part {p = p} e) (one_part {p = q} e') = ap (λ n. planned (leaf n) []) (one_alone p q (sym e ∙ e'))
  IsOutcome-unique (one_part {p = p} e) (no_step two' none') = absurd (not_single _ p e two')
  IsOutcome-unique (one_part {p = p} e) (moved_stuck two' s' m') = absurd (not_single _ p e two')
  IsOutcome-unique (one_part {p = p} e) (rest_stuck two' s' m' r') = absurd (not_single _ p e two')
  IsOutcome-unique (one_part {p = p} e) (both_planned two' s' m' r' d' ms') = absurd (not_single _ p e two')
  IsOutcome-unique (no_step two none) (one_part {p = q} e') = absurd (not_single _ q e' two)
  IsOutcome-unique (no_step two none) (no_step two' none') = refl
  IsOutcome-unique (no_step two none) (moved_stuck two' s' m') = absurd (no_step_and_step _ _ _ none s')
  IsOutcome-unique (no_step two none) (rest_stuck two' s' m' r') = absurd (no_step_and_step _ _ _ none s')
  IsOutcome-unique (no_step two none) (both_planned two' s' m' r' d' ms') = absurd (no_step_and_step _ _ _ none s')
  IsOutcome-unique (moved_stuck two s m) (one_part {p = q} e') = absurd (not_single _ q e' two)
  IsOutcome-unique (moved_stuck two s m) (no_step two' none') = absurd (no_step_and_step _ _ _ none' s)
  IsOutcome-unique (moved_stuck two s m) (moved_stuck {a = a'} two' s' m') = IsOutcome-unique m (along (stuck a') (step_unique _ _ _ _ _ s s').1 m')
  IsOutcome-unique (moved_stuck two s m) (rest_stuck {plan = p'} {marks = ms'} two' s' m' r') =
      let wrong : stuck _ ≡ planned p' ms' = IsOutcome-unique m (along (planned p' ms') (step_unique _ _ _ _ _ s s').1 m') in absurd cc
  IsOutcome-unique (moved_stuck two s m) (both_planned {moved = p'} {ms = ms'} two' s' m' r' d' is') =
      let wrong : stuck _ ≡ planned p' ms' = IsOutcome-unique m (along (planned p' ms') (step_unique _ _ _ _ _ s s').1 m') in absurd cc
  IsOutcome-unique (rest_stuck two s m r) (one_part {p = q} e') = absurd (not_single _ q e' two)
  IsOutcome-unique (rest_stuck two s m r) (no_step two' none') = absurd (no_step_and_step _ _ _ none' s)
  IsOutcome-unique (rest_stuck {plan = p} {marks = ms} two s m r) (moved_stuck {a = a'} two' s' m') =
      let wrong : planned p ms ≡ stuck a' = IsOutcome-unique m (along (stuck a') (step_unique _ _ _ _ _ s s').1 m') in absurd cc
  IsOutcome-unique {w = w} (rest_stuck two s m r) (rest_stuck {a = a'} two' s' m' r') = IsOutcome-unique r (along (stuck a') (ap (set.difference w) (step_unique _ _ _ _ _ s s').1) r')
  IsOutcome-unique {w = w} (rest_stuck {a = a} two s m r) (both_planned {rest = p'} {rs = rs'} two' s' m' r' d' is') =
      let wrong : stuck a ≡ planned p' rs' = IsOutcome-unique r (along (planned p' rs') (ap (set.difference w) (step_unique _ _ _ _ _ s s').1) r') in absurd cc
  IsOutcome-unique (both_planned two s m r d is) (one_part {p = q} e') = absurd (not_single _ q e' two)
  IsOutcome-unique (both_planned two s m r d is) (no_step two' none') = absurd (no_step_and_step _ _ _ none' s)
  IsOutcome-unique (both_planned {moved = p} {ms = ms} two s m r d is) (moved_stuck {a = a'} two' s' m') =
      let wrong : planned p ms ≡ stuck a' = IsOutcome-unique m (along (stuck a') (step_unique _ _ _ _ _ s s').1 m') in absurd cc
  IsOutcome-unique {w = w} (both_planned {rest = p} {rs = rs} two s m r d is) (rest_stuck {a = a'} two' s' m' r') =
      let wrong : planned p rs ≡ stuck a' = IsOutcome-unique r (along (stuck a') (ap (set.difference w) (step_unique _ _ _ _ _ s s').1) r') in absurd cc
  IsOutcome-unique {w = w} (both_planned {moved = p} {rest = q} {d = d} {ms = ms} {rs = rs} two s m r d_is is) (both_planned {moved = p'} {rest = q'} {d = d'} {ms = ms'} {rs = rs'} two' s' m' r' d_is' is') =
      let step : _ = step_unique _ _ _ _ _ s s' in
      let first : planned p ms ≡ planned p' ms' = IsOutcome-unique m (along (planned p' ms') step.1 m') in
      let second : planned q rs ≡ planned q' rs' = IsOutcome-unique r (along (planned q' rs') (ap (set.difference w) step.1) r') in
      both first second (d_is ∙ ap (λ t. t.d) step.0 ∙ sym d_is') (ap (λ t. t.mark) step.0) is is'
    where
      both : {p p' q q' : Plan} {ms ms' rs rs' : List Kind} {d d' : V3} {k k' marks marks' : List Kind} → planned p ms ≡ planned p' ms' → planned q rs ≡ planned q' rs' → d ≡ d' → k ≡ k' → marks ≡ k ++ ms ++ rs → marks' ≡ k' ++ ms' ++ rs' → planned (split d p q) marks ≡ planned (split d' p' q') marks'
      both a b c e f g = cc
