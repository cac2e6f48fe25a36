use Rattle.std.proofs.Common.{◌∙◌, ◌++◌, ap}
use Rattle.std.proofs.lemmas.Result.{IfOk-weaker}
use Rattle.staat_holds.specs.Partials.{partial_of}
use Rattle.staat_deciding.proofs.RestLines.{AreAdded, members_added, part_added, sides_added}
use Rattle.staat_deciding.proofs.rest_text.+push_ends.Goals as goal

pub returns-in_ok-push-in-Leaf : goal.returns-in_ok-push-in-Leaf
returns-in_ok-push-in-Leaf t c =
    part_added (partial_of c.args.tree.now) c.in-Leaf.p c.args.numbers.now.items c.push.new.self.items (ap partial_of c.in-Leaf.is) c.in_ok-push-in-Leaf.ensures.items

pub returns-in_ok-push_ends-in-Split : goal.returns-in_ok-push_ends-in-Split
returns-in_ok-push_ends-in-Split t c =
    let old = c.args.numbers.now.items in
    let one = c.push_ends.new.numbers.items in
    let two = c.push_ends-in-Split.new.numbers.items in
    IfOk-weaker c.push_ends-in-Split.result _ (λ _. AreAdded (partial_of c.args.tree.now) old two)
    (λ _ last. sides_added (partial_of c.args.tree.now) (partial_of c.in-Split.moved.value) (partial_of c.in-Split.rest.value) (partial_of c.deref.result.now) (partial_of c.deref-in-Split.result.now) c.in-Split.d old one two
    (ap partial_of c.in-Split.is) (ap partial_of c.deref.ensures) (ap partial_of c.deref-in-Split.ensures) c.in_ok-push_ends-in-Split.ensures last)
    c.push_ends-in-Split.ensures

pub returns-in_ok-extend_from_slice-in-Group : goal.returns-in_ok-extend_from_slice-in-Group
returns-in_ok-extend_from_slice-in-Group t c =
    members_added (partial_of c.args.tree.now) c.in-Group.group.members c.args.numbers.now.items c.extend_from_slice.new.self.items (ap partial_of c.in-Group.is)
    (c.in_ok-extend_from_slice-in-Group.ensures.items ∙ ap (λ l. c.args.numbers.now.items ++ l) c.as_slice.ensures)
