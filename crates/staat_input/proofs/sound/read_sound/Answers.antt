use Rattle.staat_input.proofs.sound.read_sound.Goals as goal

pub returns : goal.returns
returns g c =
    let reads = c.read_sketched.ensures in
    record {
      holds = reads.holds;
      count = reads.count;
      opens = reads.opens;
      found = reads.found;
      cause = reads.cause;
      named = reads.named;
    }
