use Rattle.std.proofs.Common.{rules, ◌≤◌, ◌+◌, inl, inr, arith}
use Rattle.staat_vec.proofs.Naturals.{lt_or_le}
use Rattle.staat_pairs.specs.Searches.{arc_of}
use Rattle.staat_certify.proofs.WitnessLemmas.{least_found}
use Rattle.staat_certify.proofs.vantage.Vantage.least_arc.Goals as goal

pub returns-in-Some-clause-least : goal.returns-in-Some-clause-least
returns-in-Some-clause-least c =
    let self = c.args.self.now in
    least_found self.sound.now self.table.now self.d (arc_of c.args.ends.0 c.loop-i.i c.args.ends.1 c.in-Some.j) c.requires.at.from
    (search rules) c.in-Some.ensures.ahead c.loop-i.invariant c.in-Some.ensures.first

pub loop-i-preserved : goal.loop-i-preserved
loop-i-preserved c = λ h. elim (lt_or_le c.loop-i.i h.i) [
  | inl lt ↦ (let past : c.loop-i.i + 1 ≤ h.i = omega (arith, lt) in past)
  | inr le ↦ absurd (c.in_default.ensures.first h (omega (arith, le, c.loop-i.invariant h)))
]
