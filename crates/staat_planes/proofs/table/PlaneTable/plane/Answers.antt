use Rattle.std.proofs.Common.{◌∙◌, ◌<◌, List, ap, length, subst, sym}
use Rattle.std.specs.Prelude.{Some, slice_get}
use Rattle.staat_vec.specs.declared.vector.V3.{V3}
use Rattle.staat_vec.proofs.ListLaws.{place_is}
use Rattle.staat_pairs.specs.Tables.{Table}
use Rattle.staat_planes.proofs.table.PlaneTable.plane.Goals as goal

pub returns-clause-is : goal.returns-clause-is
returns-clause-is c =
    let same = c.planes.ensures.is ∙ ap (λ (t : Table). t.planes) c.self.view_is in
    ap (λ ps. slice_get ps c.args.k) (sym same)
    ∙ place_is c.planes.result.now c.args.k c.index-planes-k.result (subst (λ (ps : List V3). c.args.k < length ps) (sym same) c.requires) c.index-planes-k.is
    ∙ ap Some (sym c.vector.ensures.is)
