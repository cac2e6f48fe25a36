use Rattle.std.proofs.lemmas.List.{map_more}
use Rattle.staat_ring.specs.declared.keys.Key.{Key}
use Rattle.staat_ring.specs.Builds.{key_entry}
use Rattle.staat_ring.proofs.keys.entries_of.Goals as goal

abbrev no_key : Key
no_key = record { word = 0 }

pub loop-key-preserved : goal.loop-key-preserved
loop-key-preserved c =
    let more = map_more key_entry c.args.keys.now c.loop-key.key-index no_key c.loop-key-test.true in
    cc (more, c.in_ok-push.ensures.items, c.entry.ensures, c.loop-key.invariant)
