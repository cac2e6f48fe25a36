use Rattle.std.proofs.Common.{◌↔◌, ◌<ℤ◌, pos, subst, All}
use Rattle.std.specs.Prelude.{IsTrue}
use Rattle.staat_vec.specs.Vectors.{dot}
use Rattle.staat_planes.proofs.BothWays.{behind_turned}
use Rattle.staat_planes.proofs.leads.Heading.is_behind.Goals as goal

pub returns : goal.returns
returns c =
    let law = behind_turned c.args.facets.now c.args.self.now.d in
    let told = subst (λ e. IsTrue c.is_ahead.result ↔ All (λ n. pos 0 <ℤ dot n e) c.args.facets.now) c.turned.ensures.is c.is_ahead.ensures in
    (λ t. law.1 (told.0 t), λ all. told.1 (law.0 all))
