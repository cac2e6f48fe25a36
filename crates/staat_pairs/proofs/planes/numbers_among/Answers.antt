use Rattle.std.proofs.Common.{Contains, ◌∙◌, ap, subst, sym}
use Rattle.std.specs.Prelude.{Some}
use Rattle.staat_pairs.proofs.PlaneNumbering.{all_placed, places_more}
use Rattle.staat_pairs.proofs.planes.numbers_among.Goals as goal

pub number_among-requires-clause-there : goal.number_among-requires-clause-there
number_among-requires-clause-there c = subst (Contains c.args.planes.now) (sym c.n-item.is) (c.requires.there c.loop-n.n-index c.n-item.result c.loop-n-test.true)

pub loop-n-preserved : goal.loop-n-preserved
loop-n-preserved c =
    places_more (λ n. n) c.args.planes.now c.args.listed.now c.loop-n.numbers.items c.push.new.self.items c.loop-n.n-index c.number_among.result c.n-item.result c.loop-n-test.true c.loop-n.invariant (c.number_among.ensures ∙ ap Some c.n-item.is) c.in_ok-push.ensures.items

pub returns : goal.returns
returns c = all_placed (λ n. n) c.args.planes.now c.args.listed.now c.loop-n.numbers.items c.loop-n.n-index c.loop-n-test.false c.loop-n.invariant
