-- The outcome of a set from those of its two sides.
use Rattle.std.proofs.Common.{◌≡◌, ℕ, ◌<◌, ◌≤◌, arith, sym, subst, refl, List, [], length}
use Rattle.std.specs.Prelude.{Some, Bool}
use Rattle.std.specs.FinSet as set
use Rattle.staat_model.specs.{Assemblies.IsAssembly, Plans.leaf, Sets.{Has, IsNonempty, IsSide, below}}
use Rattle.staat_model.specs.{declared.assembly.Part.Part, declared.set.PartSet.PartSet, declared.tree.Outcome.Outcome}
use Rattle.staat_model.proofs.{OtherSides.rest_some, RestrictLemmas.rest_within, SetMembers.has-difference}
use Rattle.staat_model.proofs.SetSizes.{one_is, one_within}
use Rattle.staat_model.specs.Outcomes.{Finding, IsOutcome, both_planned, finding_of, moved_stuck, one_part, planned, rest_stuck, stuck}
use Rattle.staat_graph.proofs.Finite.{len_fewer, len_some}
use Rattle.staat_pairs.specs.Tables.{Table}
use Rattle.staat_planes.specs.Refusals.{IsTableWithin}
use Rattle.staat_certify.specs.Certifying.{CanBeCertified, HasFewPlanes}
use Rattle.staat_plan.specs.Planning.{IsOutcomeOf, Settles, IsSized, IsStepOf, joined_finding}
use Rattle.staat_plan.specs.declared.marked.Marked.{Marked}
use Rattle.staat_plan.proofs.{Fewer.{few_inside, few_of_table}, OutcomeSizes.outcome_sized}

-- both sides have fewer parts than the set
pub side_fewer : (w s : PartSet) → IsSide w s → set.len s < set.len w
side_fewer w s side = let p = rest_some w s side in let t = (has-difference w s p.0).0 p.1 in len_fewer s w p.0 side.within t.0 t.1

pub rest_fewer : (w s r : PartSet) → IsSide w s → r ≡ set.difference w s → set.len r < set.len w
rest_fewer w s r side e =
    let p = side.nonempty in
    subst (λ (t : PartSet). set.len t < set.len w) (sym e) (len_fewer (set.difference w s) w p.0 (rest_within w s) (side.within p.0 p.1) (λ h. ((has-difference w s p.0).0 h).1 p.1))

-- a set with members that has not one has two or more
pub many_parts : (w : PartSet) (n : ℕ) → IsNonempty w → n ≡ set.len w → (n ≡ 1 → ⊥) → 2 ≤ set.len w
many_parts w n some e other = let pos : 0 < set.len w = len_some w some.0 some.1 in omega (arith, pos, e, other)

-- a part by itself
pub leaf_found : (robust : Bool) (parts : List Part) (w : PartSet) (p : ℕ) (f : Finding) → set.len w ≡ 1 → Has w p
    → f ≡ planned (leaf p) [] → IsOutcome robust parts w f
leaf_found robust parts w p f one h e =
    subst (IsOutcome robust parts w) (sym e) (one_part (one_is w p h (one_within w p h (omega (arith, one)))))

-- two sides
pub sides_found : (robust : Bool) (parts : List Part) (w r : PartSet) (m : Marked) (moved rest : Finding)
    → 2 ≤ set.len w → IsStepOf robust parts w (Some m) → r ≡ set.difference w m.step.moved
    → IsOutcome robust parts m.step.moved moved → IsOutcome robust parts r rest
    → IsOutcome robust parts w (joined_finding m moved rest)
sides_found robust parts w r m (stuck a) rest two step same one sub = moved_stuck two step one
sides_found robust parts w r m (planned moved ms) (stuck b) two step same one sub =
    rest_stuck two step one (subst (λ (t : PartSet). IsOutcome robust parts t (stuck b)) same sub)
sides_found robust parts w r m (planned moved ms) (planned rest rs) two step same one sub =
    both_planned two step one (subst (λ (t : PartSet). IsOutcome robust parts t (planned rest rs)) same sub) refl refl

-- ---- the outcome for all parts

module _ (robust : Bool) (parts : List Part) (is : IsAssembly parts) (limit : ℕ) where
  pub sized : (w : PartSet) (f : Finding) → IsOutcome robust parts w f → IsSized f
  sized w (planned plan marks) outcome = outcome_sized parts is robust w plan marks outcome
  sized w (stuck a) outcome = tt

  pub all_found : (w : PartSet) (t : Table) (o : Outcome) → w ≡ below (length parts) → IsTableWithin parts w limit t
      → IsOutcome robust parts w (finding_of o) → IsOutcomeOf robust parts (below (length parts)) limit o
  all_found w t o all table outcome =
      let of = table.table in subst (λ (u : PartSet). IsOutcomeOf robust parts u limit o) all (record {
        few = subst (λ (u : PartSet). HasFewPlanes parts u limit) of.set (few_of_table parts t limit of.made table.few);
        sized = sized w (finding_of o) outcome;
        is = outcome;
      })

  pub certified : (f : Finding) → limit ≤ 1024 → Settles parts (below (length parts)) f → IsSized f
      → HasFewPlanes parts (below (length parts)) limit → CanBeCertified parts f
  certified (planned plan marks) most right small few = (right, small)
  certified (stuck a) most right small few =
      (right.1, few_inside parts a (below (length parts)) limit 1024 most right.0 few)
