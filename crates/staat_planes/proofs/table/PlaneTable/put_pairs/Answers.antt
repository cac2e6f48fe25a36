use Rattle.std.proofs.Common.{◌≡◌, ◌∙◌, refl, sym}
use Rattle.std.proofs.lemmas.Bool.{false≢true}
use Rattle.staat_model.specs.Sets.{Has}
use Rattle.staat_graph.proofs.Finite.{len_fewer}
use Rattle.staat_planes.specs.Tables.{IsAhead}
use Rattle.staat_planes.proofs.GraphSteps.{all_done, more_gained, nothing_gained, one_done, taken}
use Rattle.staat_planes.proofs.table.PlaneTable.put_pairs.Goals as goal

pub loop-left-init : goal.loop-left-init
loop-left-init c = record { within = λ q h. h; rows = nothing_gained (IsAhead c.args.self.now c.args.heading.now.d) c.args.a (λ y. Has c.args.others y × (Has c.args.others y → ⊥)) c.args.rows.now (λ y h. h.1 h.0) }

pub loop-left-smaller : goal.loop-left-smaller
loop-left-smaller c =
    let rest = taken c.loop-left.left c.without-left.result c.single.result c.least-b.result c.single.ensures.members c.without-left.ensures.members in
    len_fewer c.without-left.result c.loop-left.left c.least-b.result (λ q h. ((rest q).0 h).0) c.least-b.ensures.least.has (λ h. ((rest c.least-b.result).0 h).1 refl)

pub loop-left-preserved : goal.loop-left-preserved
loop-left-preserved c =
    let left = c.loop-left.left in
    let b = c.least-b.result in
    let rest = taken left c.without-left.result c.single.result b c.single.ensures.members c.without-left.ensures.members in
    let within = c.loop-left.invariant.within in
    record {
      within = λ q h. within q ((rest q).0 h).0;
      rows = more_gained (IsAhead c.args.self.now c.args.heading.now.d) c.args.a (λ y. Has c.args.others y × (Has left y → ⊥)) (λ y. y ≡ b) (λ y. Has c.args.others y × (Has c.without-left.result y → ⊥))
          c.args.rows.now c.loop-left.rows c.put_pair.new.rows c.loop-left.invariant.rows c.put_pair.ensures (one_done c.args.others left c.without-left.result b within c.least-b.ensures.least.has rest);
    }

pub returns : goal.returns
returns c = all_done (IsAhead c.args.self.now c.args.heading.now.d) c.args.a c.args.others c.loop-left.left c.args.rows.now c.loop-left.rows (λ q h. false≢true (sym c.loop-left-test.false ∙ c.meets.ensures.1 (q, h, h))) c.loop-left.invariant.rows
