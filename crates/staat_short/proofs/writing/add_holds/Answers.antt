use Rattle.std.specs.Prelude.{flat_map}
use Rattle.staat_cert.proofs.AddLemmas.{added_all, added_more, flat_more}
use Rattle.staat_short.specs.ShortLines.{short_line_text}
use Rattle.staat_short.specs.ShortTexts.{lines_of_hold}
use Rattle.staat_short.proofs.writing.add_holds.Goals as goal

pub holds-preserved : goal.holds-preserved
holds-preserved c =
    added_more short_line_text (flat_map lines_of_hold) c.args.w.now c.holds.w c.args.holds.now c.holds.hold-index c.add_hold.new.w _
    (flat_more lines_of_hold c.args.holds.now c.holds.hold-index c.hold-item.result c.holds-test.true c.hold-item.is) c.holds.invariant c.in_ok-add_hold.ensures

pub returns : goal.returns
returns c = added_all short_line_text (flat_map lines_of_hold) c.args.w.now c.holds.w c.args.holds.now c.holds.hold-index c.holds-test.false c.holds.invariant
