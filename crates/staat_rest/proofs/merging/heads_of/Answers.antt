use Rattle.std.proofs.Common.{◌∙◌, sym, subst}
use Rattle.std.specs.Ordering.{nat_cmp}
use Rattle.std.proofs.lemmas.Bool.{false≢true}
use Rattle.staat_vec.specs.Lists.{Lists}
use Rattle.staat_rest.proofs.HeadSteps.{IsNameBelow, heads_end, heads_more, heads_none, heads_same}
use Rattle.staat_rest.proofs.merging.heads_of.Goals.{then-is_named+in_ok-push, else-is_named}
use Rattle.staat_rest.proofs.merging.heads_of.Goals as goal

pub loop-p-init : goal.loop-p-init
loop-p-init c = subst (Lists nat_cmp (IsNameBelow c.args.names.now 0)) (sym c.new-heads.ensures.items) (heads_none c.args.names.now)

pub loop-p-preserved : goal.loop-p-preserved
loop-p-preserved c =
    let names = c.args.names.now in
    let p = c.loop-p.p in
    let s = c.loop-p.heads.items in
    elim c.if-is_named.branch [
      | then-is_named+in_ok-push w ↦ rw w.heads-is (rw w.in_ok-push.ensures.items (heads_more names p 0 s c.loop-p-test.true (c.is_named.ensures.0 w.if-is_named.true) c.loop-p.invariant))
      | else-is_named w ↦ rw w.heads-is (heads_same names p 0 s (λ e. false≢true (sym w.if-is_named.false ∙ c.is_named.ensures.1 e)) c.loop-p.invariant)
    ]

pub returns : goal.returns
returns c = heads_end c.args.names.now c.loop-p.p c.loop-p.heads.items c.loop-p-test.false c.loop-p.invariant
