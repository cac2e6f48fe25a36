use Rattle.std.proofs.Common.{◌∙◌, ◌<◌, All, List, arith, length, subst, sym}
use Rattle.std.specs.Prelude.{◌++◌, ◌∷◌, [], ◌≡◌}
use Rattle.std.specs.List.Sorted.{IsStrictlySortedBy}
use Rattle.std.specs.Ordering.{nat_cmp}
use Rattle.std.proofs.lemmas.List.Elements.{All-push}
use Rattle.staat_decide.specs.declared.likely.AskedRows.{AskedRows}
use Rattle.staat_decide.specs.Asking.{AreAskedRows}
use Rattle.staat_decide.proofs.Deciding.{numbers_sorted}
use Rattle.staat_decide.proofs.Picked.{numbers_small}
use Rattle.staat_decide.proofs.asking.ask_along.Goals as goal

pub takes_all_apart-requires-clause-members : goal.takes_all_apart-requires-clause-members
takes_all_apart-requires-clause-members g c =
    subst (All (λ p. p < length c.args.scene.now.parts.now)) (sym c.requires.all) (numbers_small (length c.args.scene.now.parts.now))

pub takes_all_apart-requires-clause-ascending : goal.takes_all_apart-requires-clause-ascending
takes_all_apart-requires-clause-ascending g c =
    subst (IsStrictlySortedBy nat_cmp) (sym c.requires.all) (numbers_sorted (length c.args.scene.now.parts.now))

-- what was asked before and one more
one_more : (P : AskedRows → Type 0) (old new : List AskedRows) (one : AskedRows) → new ≡ old ++ one ∷ [] → All P old → P one → All P new
one_more P old new one items before this = subst (All P) (sym items) (All-push P old one before this)

pub takes_all_apart-requires-clause-asked : goal.takes_all_apart-requires-clause-asked
takes_all_apart-requires-clause-asked g c =
    let P = AreAskedRows c.args.scene.now.parts.now in
    let all = one_more P c.loop-d.asked.items c.push.new.self.items c.in_ok-asked_along.field-0 c.in_ok-push.ensures.items c.loop-d.invariant.asked c.in_ok-asked_along.ensures.asked in
    subst P (sym c.index.ensures) (all c.len-k.result c.index.result.now (omega (arith, c.in_ok-push.ensures.len)))

pub returns-then-branch-clause-asked : goal.returns-then-branch-clause-asked
returns-then-branch-clause-asked g c =
    one_more (AreAskedRows c.args.scene.now.parts.now) c.loop-d.asked.items c.push.new.self.items c.in_ok-asked_along.field-0 c.in_ok-push.ensures.items c.loop-d.invariant.asked c.in_ok-asked_along.ensures.asked

pub loop-d-preserved : goal.loop-d-preserved
loop-d-preserved g c = record {
  asked = one_more (AreAskedRows c.args.scene.now.parts.now) c.loop-d.asked.items c.push.new.self.items c.in_ok-asked_along.field-0 c.in_ok-push.ensures.items c.loop-d.invariant.asked c.in_ok-asked_along.ensures.asked;
  some = c.in_ok-asked_along.ensures.some ∙ c.loop-d.invariant.some;
  kept = c.in_ok-asked_along.ensures.kept;
}
