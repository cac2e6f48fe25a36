use Rattle.std.proofs.Common.{◌∙◌, ◌++◌, List, ℕ, ap, codes, get_or, sym}
use Rattle.std.proofs.lemmas.List.{take_all}
use Rattle.std.proofs.lemmas.List.Folds.{flat_map-map}
use Rattle.std.specs.Prelude.{flat_map}
use Rattle.staat_model.specs.SetLists.{set_of}
use Rattle.staat_text.specs.GraphTexts.{group_line}
use Rattle.staat_text.specs.PlanTexts.{numbers_text}
use Rattle.staat_text.proofs.GraphLines.{text_more}
use Rattle.staat_text.proofs.PartNumbers.{numbers_of_list}
use Rattle.staat_text.proofs.rows.push_groups.Goals as goal

pub loop-group-preserved : goal.loop-group-preserved
loop-group-preserved c =
    let groups = c.args.groups.now in
    let i = c.loop-group.group-index in
    let item = c.group-item.result in
    let own = get_or groups i item in
    let are = c.requires i item c.loop-group-test.true in
    let text = c.loop-group.text.items in
    text_more (λ group. group_line (set_of group)) groups i item c.args.text.now.items text _ c.loop-group-test.true c.loop-group.invariant
    (c.in_ok-push_group.ensures ∙ ap (λ (g : List ℕ). text ++ (codes "group" ++ numbers_text g ++ codes "\n")) (c.as_slice.ensures ∙ c.group-item.is ∙ numbers_of_list own are.ascending are.small))

pub returns : goal.returns
returns c =
    let groups = c.args.groups.now in
    c.loop-group.invariant ∙ ap (λ (l : List ℕ). c.args.text.now.items ++ l) (ap (flat_map (λ group. group_line (set_of group))) (take_all c.loop-group.group-index groups c.loop-group-test.false)
    ∙ sym (flat_map-map group_line set_of groups))
