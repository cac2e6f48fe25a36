use Rattle.std.proofs.Common.{◌<◌, ◌≡◌, ◌∙◌, ◌+◌, ℕ, List, refl, ap, arith, le_trans, length}
use Rattle.std.proofs.Common.{Err, Ok, Option, None, Some, Result, false, pos_of_ne-zero, subst, sym, take}
use Rattle.std.specs.Prelude.{IsErr, OnOk, is_err, option_map}
use Rattle.std.specs.Io.KnownBytes.{Consumes}
use Rattle.staat_edge.specs.Files.{content_of, failed_at, held_name}
use Rattle.staat_edge.specs.Readings.{after_read}
use Rattle.staat_judging.proofs.FeedingLemmas.{fed_long, fed_more, fed_nothing, fed_whole, opened_so_far, opened_whole}
use Rattle.staat_judging.proofs.feeding.feed_file.Goals as goal

-- a read has room for a byte
had_room : (g : _) (c : goal.In-Ok-eq0 g) → 0 < length c.read.new.buf
had_room g c = search (arith, c.read.auto.buf)

-- the last read gave none
gave_none : (g : _) (c : goal.In-Ok-eq0 g) → (g.H.Shelf.told c.read.new.self).given
    ≡ after_read 0 c.read.new.buf (g.H.Shelf.told c.pieces.shelf).given
gave_none g c = c.in-Ok-eq0.ensures.gave
    ∙ ap (λ n. after_read n c.read.new.buf (g.H.Shelf.told c.pieces.shelf).given) c.in-Ok-eq0.field-0-test

pub returns-in-Ok-eq0-clause-opens : goal.returns-in-Ok-eq0-clause-opens
returns-in-Ok-eq0-clause-opens g c =
    opened_whole _ _ c.args.name.now _ _ _ _ _ c.read.new.buf (had_room g c) c.pieces.invariant.fed (gave_none g c)

pub returns-in-Ok-eq0-clause-fed : goal.returns-in-Ok-eq0-clause-fed
returns-in-Ok-eq0-clause-fed g c =
    let left = g.H.Shelf.left c.pieces.shelf in
    let after = g.H.Shelf.left c.read.new.self in
    fed_whole (g.H.Shelf.told c.args.shelf.now) (g.H.Shelf.told c.read.new.self) c.args.name.now
    (g.H.Shelf.told c.pieces.shelf).given c.read.new.buf left after (g.R.TextReader.was_fed c.pieces.reader)
    c.pieces.taken c.pieces.invariant.has (c.read.ensures.holds ∙ c.pieces.invariant.holds) c.pieces-test.true
    c.pieces.invariant.fed
    (subst (λ n. Consumes left after (take n c.read.new.buf)) c.in-Ok-eq0.field-0-test c.in-Ok-eq0.ensures.bytes.0)
    (c.in-Ok-eq0.ensures.bytes.1 c.in-Ok-eq0.field-0-test (had_room g c)) (gave_none g c) (had_room g c)

pub returns-in-Err-clause-opens : goal.returns-in-Err-clause-opens
returns-in-Err-clause-opens g c =
    opened_so_far _ _ c.args.name.now _ _ _ _ _ c.pieces.invariant.fed c.in-Err.ensures.gave

pub returns-in-Err-clause-fed : goal.returns-in-Err-clause-fed
returns-in-Err-clause-fed g c = tt

pub returns-clause-opens : goal.returns-clause-opens
returns-clause-opens g c = opened_so_far _ _ c.args.name.now _ _ _ _ _ c.pieces.invariant.fed refl

pub returns-clause-longer : goal.returns-clause-longer
returns-clause-longer g c = λ _. fed_long (g.H.Shelf.told c.args.shelf.now) (g.H.Shelf.told c.pieces.shelf)
    c.args.name.now _ _ c.pieces.taken c.pieces.invariant.has c.pieces.invariant.holds c.pieces-test.false
    c.pieces.invariant.fed

-- where a read did not fail, the shelf tells the same file as before as the one at which it failed last
failed_before : (name before now first : Option (List ℕ)) → now ≡ failed_at false name before → before ≡ first
    → now ≡ first
failed_before None before now first is same = is ∙ same
failed_before (Some name) before now first is same = is ∙ same

-- what is said of a call that did not fail
said_of_ok : {X E : Type 0} (r : Result X E) (P : Type 0) → is_err r ≡ false → OnOk r P → P
said_of_ok (Ok x) P good says = says
said_of_ok (Err e) P good says = cc

not_refused : {X E : Type 0} (r : Result X E) → is_err r ≡ false → IsErr r → ⊥
not_refused (Ok x) good refused = cc
not_refused (Err e) good refused = cc

pub pieces-init : goal.pieces-init
pieces-init g c =
    let before = g.H.Shelf.told c.args.shelf.now in
    let now = g.H.Shelf.told c.open.new.self in
    let good = sym c.if-is_err.ensures.value in
    record {
      room = omega arith;
      holds = c.open.ensures.holds;
      count = c.open.ensures.count;
      failed = failed_before _ _ _ _ (c.open.ensures.failed
          ∙ ap (λ bad. failed_at bad (held_name before.holds c.args.name.now) before.failed) good) refl;
      name = said_of_ok c.open.result _ good c.open.ensures.name;
      place = said_of_ok c.open.result _ good c.open.ensures.start;
      has = λ lacks. not_refused c.open.result good (c.open.ensures.lacking lacks).0;
      fed = fed_nothing (content_of before.holds c.args.name.now) (g.H.Shelf.left c.open.new.self) c.args.name.now
          before.given now.given (g.R.TextReader.was_fed c.args.reader.now) c.requires
          (said_of_ok c.open.result _ good c.open.ensures.content)
          (said_of_ok c.open.result _ good c.open.ensures.begun);
    }

pub pieces-preserved : goal.pieces-preserved
pieces-preserved g c =
    let count = c.in-Ok.count in
    let buf = c.read.new.buf in
    record {
      room = omega (arith, c.pieces-test.true, c.in-Ok.ensures.room, c.read.auto.buf);
      holds = c.read.ensures.holds ∙ c.pieces.invariant.holds;
      count = le_trans c.pieces.invariant.count c.read.ensures.count;
      failed = failed_before _ _ _ _ c.in-Ok.ensures.failed c.pieces.invariant.failed;
      name = c.read.ensures.name ∙ c.pieces.invariant.name;
      place = c.in-Ok.ensures.moved ∙ ap (option_map (λ at. at + count)) c.pieces.invariant.place;
      has = c.pieces.invariant.has;
      fed = fed_more (content_of (g.H.Shelf.told c.args.shelf.now).holds c.args.name.now)
          (g.H.Shelf.left c.pieces.shelf) (g.H.Shelf.left c.read.new.self) c.args.name.now
          (g.H.Shelf.told c.args.shelf.now).given (g.H.Shelf.told c.pieces.shelf).given
          (g.H.Shelf.told c.read.new.self).given (g.R.TextReader.was_fed c.pieces.reader)
          (g.R.TextReader.was_fed c.take.new.self) c.pieces.taken count buf
          (pos_of_ne-zero c.in-Ok.count-test.1) c.in-Ok.ensures.room c.pieces.invariant.fed
          c.in-Ok.ensures.bytes.0 c.in-Ok.ensures.gave c.take.ensures;
    }
