-- The plan of an outcome takes the set apart, and the set that an outcome names as stuck is stuck.
use Rattle.std.proofs.Common.{◌≡◌, ◌⊎◌, inl, inr, ⊎_elim, ◌≤◌, Bool, sym, ◌∙◌, subst, List}
use Rattle.std.specs.FinSet as set
use Rattle.staat_vec.specs.declared.vector.V3.{V3}
use Rattle.staat_model.specs.{Assemblies.IsAssembly, Plans.{IsGood, IsStuck, Plan, parts_of, split}, Removal.IsFree}
use Rattle.staat_model.specs.{Sets.{AreApart, Has, IsSubset}, declared.assembly.Part.Part, declared.set.PartSet.PartSet}
use Rattle.staat_model.proofs.{FreeSides.member_or, RestrictLemmas.{rest_apart, rest_within}}
use Rattle.staat_model.proofs.{SetMembers.{has-difference, has-union}, SetWords.same_members}
use Rattle.staat_model.specs.Outcomes.{Finding, HasNoStep, IsOutcome, both_planned, moved_stuck, no_step, one_part, planned, rest_stuck, stuck}
use Rattle.staat_plan.specs.Planning.{Settles}
use Rattle.staat_plan.proofs.Tries.{tries_held}

-- the leaves of the plan are the parts of the set, too
abbrev pub IsRightOf : List Part → PartSet → Finding → Type 0
IsRightOf parts w (planned plan marks) = (parts_of plan ≡ w) × IsGood parts w plan
IsRightOf parts w (stuck a) = IsSubset a w × IsStuck parts a

together : (w s : PartSet) → IsSubset s w → set.union s (set.difference w s) ≡ w
together w s within = same_members (set.union s (set.difference w s)) w
    (λ q h. ⊎_elim (within q) (rest_within w s q) ((has-union s (set.difference w s) q).0 h))
    (λ q h. (has-union s (set.difference w s) q).1 (⊎_elim {C = Has s q ⊎ Has (set.difference w s) q} (λ m. inl m) (λ out. inr ((has-difference w s q).1 (h, out))) (member_or s q)))

module _ (robust : Bool) (parts : List Part) (is : IsAssembly parts) where
  held : (w : PartSet) → 2 ≤ set.len w → HasNoStep robust parts w → IsStuck parts w
  held w two none = tries_held parts w is two robust none.tries none.tries_are none.none

  joined_good : (w s : PartSet) (d : V3) (m r : Plan) → IsSubset s w → IsFree parts s (set.difference w s) d → (parts_of m ≡ s) × IsGood parts s m → (parts_of r ≡ set.difference w s) × IsGood parts (set.difference w s) r
      → (parts_of (split d m r) ≡ w) × IsGood parts w (split d m r)
  joined_good w s d m r within free a b =
      let both : set.union (parts_of m) (parts_of r) ≡ w = (λ i. set.union (a.0 i) (b.0 i)) ∙ together w s within in
      let apart : AreApart (parts_of m) (parts_of r) = λ p hs hr. rest_apart w s p (subst (λ (x : PartSet). Has x p) a.0 hs) (subst (λ (x : PartSet). Has x p) b.0 hr) in
      let clear : IsFree parts (parts_of m) (parts_of r) d = subst (λ (x : PartSet). IsFree parts x (parts_of r) d) (sym a.0) (subst (λ (y : PartSet). IsFree parts s y d) (sym b.0) free) in
      (both, (sym both, apart, clear, subst (λ (x : PartSet). IsGood parts x m) (sym a.0) a.1, subst (λ (x : PartSet). IsGood parts x r) (sym b.0) b.1))

  pub right : (w : PartSet) (f : Finding) → IsOutcome robust parts w f → IsRightOf parts w f
  right w f (one_part e) = (sym e, e)
  right w f (no_step two none) = ((λ q h. h), held w two none)
  right w f (moved_stuck {side} {a} two step sub) =
      let t = right side (stuck a) sub in
      ((λ q h. step.moved.is.within q (t.0 q h)), t.1)
  right w f (rest_stuck {side} {a} two step one sub) =
      let t = right (set.difference w side) (stuck a) sub in
      ((λ q h. rest_within w side q (t.0 q h)), t.1)
  right w f (both_planned {side} {try} {moved} {rest} {d} {ms} {rs} two step one sub e marks) =
      joined_good w side d moved rest step.moved.is.within (subst (IsFree parts side (set.difference w side)) (sym e) step.moved.is.free)
      (right side (planned moved ms) one) (right (set.difference w side) (planned rest rs) sub)

  weaker : (w : PartSet) (f : Finding) → IsRightOf parts w f → Settles parts w f
  weaker w (planned plan marks) h = h.1
  weaker w (stuck a) h = h

  pub right_lemma : (w : PartSet) (f : Finding) → IsOutcome robust parts w f → Settles parts w f
  right_lemma w f o = weaker w f (right w f o)
