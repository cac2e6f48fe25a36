use Rattle.staat_confirm.proofs.Clearing.{clear_turned, meets_turned, read_ends, zero_at}
use Rattle.staat_confirm.proofs.splits.split_reason.Goals as goal

pub returns-then-is_same-clause-reason : goal.returns-then-is_same-clause-reason
returns-then-is_same-clause-reason g c =
    let j = c.args.judged.now in
    zero_at j.product.now j.nodes.now j.ends.now c.args.k c.args.d (read_ends j.product.now j.nodes.now j.owners.now j.ends.now c.args.k c.args.d c.requires.read c.requires.split) (c.is_same.ensures.0 c.if-is_same.true)

pub turn-requires-clause-size : goal.turn-requires-clause-size
turn-requires-clause-size g c = c.requires.read.fit.sizes c.args.k c.args.d c.requires.split

pub returns-in-Some-clause-reason : goal.returns-in-Some-clause-reason
returns-in-Some-clause-reason g c =
    let j = c.args.judged.now in
    meets_turned j.product.now j.nodes.now j.ends.now c.args.k c.args.d c.turn.new.along.d c.in-Some.field-0 c.in_ok-a.field-0 c.in_ok-turn.ensures.direction c.in-Some.is
    (read_ends j.product.now j.nodes.now j.owners.now j.ends.now c.args.k c.args.d c.requires.read c.requires.split)
    (λ e. let told = c.is_same.ensures.1 e in absurd (cc (c.if-is_same.false))) c.in_ok-a.ensures

pub returns-in-None-clause-reason : goal.returns-in-None-clause-reason
returns-in-None-clause-reason g c =
    let j = c.args.judged.now in
    clear_turned j.product.now j.nodes.now c.args.k c.args.d c.turn.new.along.d c.in_ok-a.field-0 c.in_ok-turn.ensures.direction c.in-None.is c.requires.split
    (λ e. let told = c.is_same.ensures.1 e in absurd (cc (c.if-is_same.false))) c.in_ok-a.ensures
