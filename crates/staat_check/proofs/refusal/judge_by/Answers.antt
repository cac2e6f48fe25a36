use Rattle.std.proofs.Common.{◌+◌, ap, ◌<◌, ◌≤◌, ◌*◌, List, arith, refl, subst, sym, All, length}
use Rattle.std.specs.Prelude.{sum_by, MatchOption, IfSome}
use Rattle.staat_vec.specs.declared.vector.V3.{V3}
use Rattle.staat_vec.specs.Lists.{FailsFirst, IsFirst}
use Rattle.staat_model.proofs.PlaneLemmas.{NoneParallel}
use Rattle.staat_model.specs.Certificates.{IsBlocked, IsListed}
use Rattle.staat_model.specs.Planes.{vertices}
use Rattle.staat_model.specs.Reasons.{bad_arc, witness_size}
use Rattle.staat_model.specs.declared.verdict.Reason.TheVariants.{BadArc}
use Rattle.staat_check.proofs.RefusalRules.{few_lines, refusal_said}
use Rattle.staat_check.proofs.refusal.judge_by.Goals as goal

pub first_free-requires : goal.first_free-requires
first_free-requires c = record {
  across = c.requires.across;
  named = c.requires.fit.order.named;
  sizes = c.requires.fit.sizes;
  few = omega (arith, c.requires.fit.order.dir_count);
}

pub lines_of-requires : goal.lines_of-requires
lines_of-requires c = let few : sum_by witness_size c.args.witnesses.now ≤ 33554432 * 63 = few_lines c.args.witnesses.now c.requires.fit.order.each c.requires.fit.order.witness_count in omega (arith, few)

pub overflow_add-line : goal.overflow_add-line
overflow_add-line c = let few : sum_by witness_size c.args.witnesses.now ≤ 33554432 * 63 = few_lines c.args.witnesses.now c.requires.fit.order.each c.requires.fit.order.witness_count in omega (arith, few, c.lines_of.ensures)

pub overflow_add-line-in-Some : goal.overflow_add-line-in-Some
overflow_add-line-in-Some c =
    let few : sum_by witness_size c.args.witnesses.now ≤ 33554432 * 63 = few_lines c.args.witnesses.now c.requires.fit.order.each c.requires.fit.order.witness_count in
    omega (arith, few, c.lines_of.ensures, subst (λ o. IfSome o (λ m. m < length c.args.dirs.now)) c.in-Some.is c.in_ok-free.ensures.place, c.requires.fit.order.dir_count)

pub returns-in-Some : goal.returns-in-Some
returns-in-Some c = λ parts made stuck trees.
    bad_arc c.in-Some.place refl stuck trees
    (subst (λ o. MatchOption o (All (IsBlocked parts c.args.witnesses.now) c.args.dirs.now) (FailsFirst (IsBlocked parts c.args.witnesses.now) c.args.dirs.now)) c.in-Some.is (c.in_ok-free.ensures.answer parts made))
    (ap (λ n. BadArc (4 + n + c.in-Some.place)) c.lines_of.ensures)

pub first_missing-requires : goal.first_missing-requires
first_missing-requires c = record {
  ascending = c.requires.fit.order.ascending;
  apart = subst NoneParallel (sym c.planes.ensures.is) c.requires.apart;
  few = omega (arith, c.requires.fit.order.dir_count);
}

pub returns-in_ok-missing-in-None : goal.returns-in_ok-missing-in-None
returns-in_ok-missing-in-None c = λ parts made stuck trees.
    refusal_said parts c.args.version c.args.witnesses.now c.args.dirs.now c.args.table.now c.in_ok-missing-in-None.missing c.said_of.result stuck trees made
    (subst (λ o. MatchOption o (All (IsBlocked parts c.args.witnesses.now) c.args.dirs.now) (FailsFirst (IsBlocked parts c.args.witnesses.now) c.args.dirs.now)) c.in-None.is (c.in_ok-free.ensures.answer parts made))
    (subst (λ (planes : List V3). MatchOption c.in_ok-missing-in-None.missing (All (IsListed c.args.version c.args.dirs.now) (vertices planes)) (IsFirst (λ v. IsListed c.args.version c.args.dirs.now v → ⊥) (vertices planes))) c.planes.ensures.is c.in_ok-missing-in-None.ensures) c.said_of.ensures
