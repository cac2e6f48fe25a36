use Rattle.std.proofs.Common.{subst, ⊎_elim, ap, sym, arith, length, map}
use Rattle.std.proofs.lemmas.List.{length-map}
use Rattle.staat_vec.specs.declared.vector.Sign.TheVariants.{Neg, Pos}
use Rattle.staat_vec.specs.Lists.{Lists}
use Rattle.staat_model.specs.declared.tree.Kind.TheVariants.{Edge, Open}
use Rattle.staat_cells.specs.declared.incidence.Incidence.{Incidence}
use Rattle.staat_cells.specs.Beside.{filled}
use Rattle.staat_cells.specs.Compositions.{entry_of}
use Rattle.staat_cells.specs.Packing.{incidence_cmp, incidence_of}
use Rattle.staat_cells.specs.Stages.{IsIncidence, cell_at}
use Rattle.staat_cells.proofs.Growing.{grown_more}
use Rattle.staat_cells.proofs.OppositeCells.{all_listed}
use Rattle.staat_cells.proofs.WholeLists.{open_incidences_are}
use Rattle.staat_cells.proofs.ListedIncidences.{IsFilledAt, grew_none, grew_pair, own_place, own_signs}
use Rattle.staat_cells.proofs.open_incidences.open_incidences.Goals as goal

pub loop-k-init : goal.loop-k-init
loop-k-init c = grew_none (IsFilledAt (map entry_of c.args.edges.now)) c.clear.new.self.items c.clear.ensures.items

pub bounds-own-k : goal.bounds-own-k
bounds-own-k c = own_place c.args.edges.now c.args.own.now c.requires.own c.loop-k.k (omega (arith, c.loop-k-test.true))

pub loop-k-preserved : goal.loop-k-preserved
loop-k-preserved c =
    let cells = map entry_of c.args.edges.now in
    let k = c.loop-k.k in
    let s = (cell_at (map entry_of c.args.edges.now) c.loop-k.k).signs in
    λ x. grown_more (IsFilledAt cells x) k (c.loop-k.invariant x)
    (grew_pair (λ z. IsFilledAt cells z k) c.loop-k.incidences.items c.push_both.new.incidences.items
    (incidence_of (filled Neg s) k) (incidence_of (filled Pos s) k)
    (c.in_ok-push_both.ensures s (own_signs c.args.edges.now c.args.own.now c.requires.own k (omega (arith, c.loop-k-test.true))))
    (λ z. (λ h. h, λ h. h)) x)

pub returns : goal.returns
returns c =
    let planes = c.args.planes.now in
    let edges = c.args.edges.now in
    let cells = map entry_of edges in
    subst (Lists incidence_cmp (IsIncidence planes Open cells)) (sym c.in_ok-push_mirrors.ensures)
    (all_listed planes c.requires.planes Edge cells c.requires.edges Open c.requires.few (IsFilledAt cells)
    c.loop-k.incidences.items c.lesser_in_order-found.result.items c.loop-k.k (length edges) c.in_ok-sum.sum
    (sym (length-map edges entry_of)) (omega (arith, c.loop-k-test.false, c.loop-k.auto.k-end)) c.in_ok-sum.ensures
    c.loop-k.invariant (λ x k e. ⊎_elim (ap (λ (y : Incidence). y.of)) (ap (λ (y : Incidence). y.of)) e)
    (open_incidences_are planes c.requires.planes cells c.requires.edges) c.lesser_in_order-found.ensures)
