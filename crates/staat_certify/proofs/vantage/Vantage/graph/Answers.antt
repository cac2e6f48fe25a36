use Rattle.staat_ring.proofs.ArcLaw.{shows_blocking}
use Rattle.staat_ring.proofs.WholeCircles.{all, all_linked, to_linked}
use Rattle.staat_certify.proofs.vantage.Vantage.graph.Goals as goal

pub returns : goal.returns
returns c =
    let t = c.args.self.now.table.now in
    let s = c.args.self.now.signs.now in
    let d = c.args.self.now.d in
    let stands = c.requires in
    shows_blocking c.args.self.now.sound.now t s (all t.planes) d t.of stands.from c.set-set.ensures.rules stands.made (to_linked t.planes (all t.planes) s d stands.signs) (λ p h. h) (all_linked c.args.self.now.sound.now t.of t.planes) c.graph.result.rows c.graph.ensures
