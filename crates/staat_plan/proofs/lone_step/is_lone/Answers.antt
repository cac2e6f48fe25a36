use Rattle.std.proofs.Common.{rules, ◌≡◌, ◌⊎◌, ◌+◌, ◌∙◌, inl, inr, List, All, pos, subst, sym, take}
use Rattle.std.proofs.{lemmas.List.take_all, lemmas.List.Elements.All-more}
use Rattle.staat_vec.specs.{Vectors.dot, declared.vector.V3.V3}
use Rattle.staat_vec.proofs.Signs.{zero_sign}
use Rattle.staat_model.specs.declared.assembly.Part.{Part}
use Rattle.staat_pairs.specs.Tables.{WasMadeFrom}
use Rattle.staat_core.specs.{TableCores.IsTableCore, declared.table_core.TableCore.TableCore}
use Rattle.staat_plan.specs.LoneLines.{NoneServesOn}
use Rattle.staat_plan.proofs.StepLemmas.{held_serves_not}
use Rattle.staat_plan.proofs.lone_step.is_lone.Goals.{else-ne-via-then-ne+else-not-holds_on, else-ne-via-else-ne}
use Rattle.staat_plan.proofs.lone_step.is_lone.Goals as goal

abbrev plane : goal.Joined-else-ne → V3
plane c = c.vector-g.result

abbrev P : goal.Joined-else-ne → List Part → V3 → Type 0
P c parts g = (dot g c.args.v ≡ pos 0) ⊎ NoneServesOn parts c.args.w g

next : (c : goal.Joined-else-ne) (parts : List Part) → WasMadeFrom parts c.args.table.now → P c parts (plane c)
    → All (P c parts) (take (c.loop-n.n-index + 1) c.args.planes.now)
next c parts made here =
    All-more (P c parts) c.args.planes.now c.loop-n.n-index c.n-item.result c.loop-n-test.true (c.loop-n.invariant.passed parts made)
    (subst (P c parts) (c.vector-g.ensures.is ∙ c.n-item.is) here)

pub loop-n-preserved : goal.loop-n-preserved
loop-n-preserved c = elim c.else-ne.branch [
  | else-ne-via-then-ne+else-not-holds_on w ↦ record {
    core = subst (IsTableCore c.args.table.now) (sym w.core-is) w.holds_on.ensures.core;
    moving = (λ i. (w.core-is i).moving) ∙ (w.holds_on.ensures.moving ∙ c.loop-n.invariant.moving);
    passed = λ parts made. next c parts made (inr (λ d on serves.
        held_serves_not parts c.loop-n.core c.args.w d c.loop-n.invariant.moving (w.holds_on.ensures.held w.if-not-holds_on.false parts d made on) serves));
  }
  | else-ne-via-else-ne w ↦ record {
    core = subst (IsTableCore c.args.table.now) (sym w.core-is) c.loop-n.invariant.core;
    moving = (λ i. (w.core-is i).moving) ∙ c.loop-n.invariant.moving;
    passed = λ parts made. next c parts made (inl (zero_sign (dot (plane c) c.args.v) (sym c.sign_dot.ensures ∙ search rules)));
  }
]

pub returns : goal.returns
returns c told parts made =
    subst (All (λ g. (dot g c.args.v ≡ pos 0) ⊎ NoneServesOn parts c.args.w g))
    (take_all c.loop-n.n-index c.args.planes.now c.loop-n-test.false) (c.loop-n.invariant.passed parts made)
