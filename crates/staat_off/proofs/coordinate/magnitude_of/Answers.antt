use Rattle.std.proofs.Common.{◌*◌, ◌^◌, ◌∙◌, arith}
use Rattle.staat_off.specs.Views.{numeral_view}
use Rattle.staat_off.proofs.Decisions.{magnitude, no_magnitude, product_kept_zeros, zero_magnitude}
use Rattle.staat_off.proofs.coordinate.magnitude_of.Goals as goal

pub returns-then-trimmed-eq0 : goal.returns-then-trimmed-eq0
returns-then-trimmed-eq0 c =
    let t = c.trimmed_of-trimmed.result in
    (0, zero_magnitude (numeral_view c.args.numeral) c.args.digits t.mantissa t.zeros c.trimmed_of-trimmed.ensures.trims c.if-trimmed-eq0.true, omega arith)

pub returns-in-Some : goal.returns-in-Some
returns-in-Some c =
    let t = c.trimmed_of-trimmed.result in
    let trims = c.trimmed_of-trimmed.ensures.trims in
    let y = c.in-Some.ensures in (
      trims.front * 10 ^ y.0,
      magnitude (numeral_view c.args.numeral) c.args.digits t.mantissa t.zeros trims y.0 y.1,
      c.with_zeros.ensures ∙ product_kept_zeros trims.front t.mantissa c.in-Some.zeros y.0 trims.kept (omega arith) y.2,
    )

pub returns-in-None : goal.returns-in-None
returns-in-None c =
    let t = c.trimmed_of-trimmed.result in
    no_magnitude (numeral_view c.args.numeral) c.args.digits t.mantissa t.zeros c.trimmed_of-trimmed.ensures.trims c.in-None.ensures (omega arith)
