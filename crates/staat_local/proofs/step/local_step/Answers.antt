use Rattle.std.proofs.Common.{refl, subst, sym}
use Rattle.staat_model.specs.declared.set.PartSet.{PartSet}
use Rattle.staat_model.specs.Sets.{IsNonempty}
use Rattle.staat_local.proofs.Beginning.{begins_not_tight, none_is_tight, served_begins}
use Rattle.staat_local.proofs.step.local_step.Goals as goal

pub first_vertex-requires-clause-nonempty : goal.first_vertex-requires-clause-nonempty
first_vertex-requires-clause-nonempty c = subst (λ (u : PartSet). IsNonempty u) (sym c.set.ensures.is) c.set.ensures.rules.nonempty

pub returns-in-Some-clause-beginning : goal.returns-in-Some-clause-beginning
returns-in-Some-clause-beginning c =
    served_begins c.args.sound.now c.args.table.now c.set.result c.requires.made c.set.ensures.is c.in-Some.served (λ planes. c.in-Some.ensures.first c.args.sound.now planes c.requires.made c.touching-marks.ensures)

pub returns-in-Some-clause-tight : goal.returns-in-Some-clause-tight
returns-in-Some-clause-tight c = begins_not_tight c.args.sound.now c.args.table.now.of _ (returns-in-Some-clause-beginning c)

pub returns-in-None-clause-tight : goal.returns-in-None-clause-tight
returns-in-None-clause-tight c = (
  λ e. none_is_tight c.args.sound.now c.args.table.now c.set.result c.requires.made c.set.ensures.is c.requires.two (λ planes. c.in-None.ensures.first c.args.sound.now planes c.requires.made c.touching-marks.ensures),
  λ tight. refl,
)
