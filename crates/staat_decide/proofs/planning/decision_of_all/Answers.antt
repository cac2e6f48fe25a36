use Rattle.std.proofs.Common.{◌∙◌, ◌<◌, ℕ, All, List, ap, arith, length, subst, sym}
use Rattle.std.specs.Prelude.{IfOk}
use Rattle.std.specs.List.Sorted.{IsStrictlySortedBy}
use Rattle.std.specs.Ordering.{nat_cmp}
use Rattle.std.proofs.lemmas.List.FromFn.{length-range_with_len}
use Rattle.staat_model.specs.declared.set.PartSet.{PartSet}
use Rattle.staat_model.specs.SetLists.{set_of}
use Rattle.staat_decide.specs.Decided.{IsDecision}
use Rattle.staat_decide.proofs.Deciding.{numbers_set, numbers_sorted}
use Rattle.staat_decide.proofs.Picked.{numbers_small}
use Rattle.staat_decide.proofs.planning.decision_of_all.Goals as goal

pub decision_of-requires-clause-members : goal.decision_of-requires-clause-members
decision_of-requires-clause-members g c =
    subst (All (λ p. p < length c.args.scene.now.parts.now)) (sym c.requires.all) (numbers_small (length c.args.scene.now.parts.now))

pub decision_of-requires-clause-ascending : goal.decision_of-requires-clause-ascending
decision_of-requires-clause-ascending g c =
    subst (IsStrictlySortedBy nat_cmp) (sym c.requires.all) (numbers_sorted (length c.args.scene.now.parts.now))

pub decision_of-requires-clause-some : goal.decision_of-requires-clause-some
decision_of-requires-clause-some g c =
    let e = ap (λ (xs : List ℕ). length xs) c.requires.all in
    let long = length-range_with_len 0 (length c.args.scene.now.parts.now) in
    omega (arith, e, long, c.requires.some)

pub decision_of-requires-clause-few : goal.decision_of-requires-clause-few
decision_of-requires-clause-few g c =
    let e = ap (λ (xs : List ℕ). length xs) c.requires.all in
    let long = length-range_with_len 0 (length c.args.scene.now.parts.now) in
    omega (arith, e, long, c.requires.count)

pub returns : goal.returns
returns g c =
    let e = ap set_of c.requires.all ∙ numbers_set (length c.args.scene.now.parts.now) in
    subst (λ (w : PartSet). IfOk c.decision_of.result (IsDecision c.args.scene.now.parts.now w)) e c.decision_of.ensures
