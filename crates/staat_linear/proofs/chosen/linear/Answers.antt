use Rattle.std.proofs.Common.{◌≡◌, ◌∙◌, ap, length, subst}
use Rattle.staat_model.specs.declared.set.PartSet.{PartSet}
use Rattle.staat_model.specs.Sets.{below}
use Rattle.staat_planes.specs.Refusals.{IsTableWithin}
use Rattle.staat_linear.specs.Orders.{IsChosen}
use Rattle.staat_linear.proofs.Choosing.{chosen_settles}
use Rattle.staat_linear.proofs.chosen.linear.Goals as goal

pub returns-clause-right : goal.returns-clause-right
returns-clause-right g c =
    let all : c.first-all.result ≡ below (length c.args.sound.now) = c.first-all.ensures.is ∙ ap below (c.parts.ensures.count ∙ ap length c.assembly.ensures.assembly) in
    let chosen = subst (λ (w : PartSet). IsChosen c.args.sound.now w c.in_ok-order_of.field-0) all (c.in_ok-order_of.ensures c.args.sound.now c.in_ok-table.ensures.table.made) in
    chosen_settles c.args.sound.now (below (length c.args.sound.now)) c.in_ok-order_of.field-0 c.in_ok-table.ensures.table.made.assembly chosen

pub returns-clause-planes : goal.returns-clause-planes
returns-clause-planes g c =
    let all : c.first-all.result ≡ below (length c.args.sound.now) = c.first-all.ensures.is ∙ ap below (c.parts.ensures.count ∙ ap length c.assembly.ensures.assembly) in
    (c.in_ok-table.table, subst (λ (w : PartSet). IsTableWithin c.args.sound.now w c.args.planes c.in_ok-table.table) all c.in_ok-table.ensures)
