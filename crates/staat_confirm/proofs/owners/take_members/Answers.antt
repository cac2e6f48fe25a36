use Rattle.std.proofs.Common.{sym, subst, Contains}
use Rattle.staat_confirm.specs.Members.{IsMemberOf}
use Rattle.staat_confirm.specs.Owners.{TakesAll}
use Rattle.staat_confirm.proofs.Owning.{group_members, takes_same}
use Rattle.staat_confirm.proofs.owners.take_members.Goals as goal

pub returns-in-Leaf-clause-taken : goal.returns-in-Leaf-clause-taken
returns-in-Leaf-clause-taken c = λ t. subst (λ n. TakesAll (IsMemberOf c.args.parts.now n) c.args.k c.args.owners.now c.take.new.owners) (sym c.in-Leaf.is) (c.take.ensures.taken t)

pub returns-in_ok-members-in-Group-clause-taken : goal.returns-in_ok-members-in-Group-clause-taken
returns-in_ok-members-in-Group-clause-taken c = λ t.
    takes_same (Contains c.as_slice-in-Group.result.now) (IsMemberOf c.args.parts.now c.args.node.now) c.args.k c.args.owners.now c.take_all.new.owners
    (group_members c.args.parts.now c.in-Group.holds c.as_slice.result.now c.args.node.now c.in_ok-members-in-Group.members.items c.as_slice-in-Group.result.now c.in-Group.is c.as_slice.ensures c.as_slice-in-Group.ensures.value c.in_ok-members-in-Group.ensures)
    (c.take_all.ensures.taken t)
