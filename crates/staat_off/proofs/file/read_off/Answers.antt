use Rattle.std.proofs.lemmas.Result.{IfOk-weaker}
use Rattle.staat_off.specs.Raws.{HasCorners, IsCounted, IsIndexed}
use Rattle.staat_off.proofs.Bounds.{IsBounded, given_bounded}
use Rattle.staat_off.proofs.file.read_off.Goals as goal

pub returns-clause-indexed : goal.returns-clause-indexed
returns-clause-indexed c =
    IfOk-weaker c.read_raw.result IsBounded IsIndexed (λ raw h. h.indexed) (given_bounded c.args.digits c.of.result c.read_raw.new.rest c.read_raw.result c.read_raw.ensures)

pub returns-clause-counted : goal.returns-clause-counted
returns-clause-counted c =
    IfOk-weaker c.read_raw.result IsBounded IsCounted (λ raw h. h.counted) (given_bounded c.args.digits c.of.result c.read_raw.new.rest c.read_raw.result c.read_raw.ensures)

pub returns-clause-corners : goal.returns-clause-corners
returns-clause-corners c =
    IfOk-weaker c.read_raw.result IsBounded HasCorners (λ raw h. h.corners) (given_bounded c.args.digits c.of.result c.read_raw.new.rest c.read_raw.result c.read_raw.ensures)
