use Rattle.std.proofs.Common.{arith, refl, subst, sym}
use Rattle.std.specs.Prelude.{Result}
use Rattle.staat_edge.specs.Told.{ShelfTold}
use Rattle.staat_fault.specs.declared.fault.Fault.{Fault}
use Rattle.staat_words.specs.declared.request.Request.{Request}
use Rattle.staat_input.specs.declared.answer.Answer.{Answer}
use Rattle.staat_input.specs.Causes.{over}
use Rattle.staat_input.specs.Taking.{DoesWork}
use Rattle.staat_top.specs.Opened.{OpensRequest}
use Rattle.staat_top.specs.Replies.{WorkOn}
use Rattle.staat_top.specs.Runs.{HasRequestCause}
use Rattle.staat_top.proofs.top.work.Goals as goal

-- the work on this request
abbrev Does : ShelfTold → ShelfTold → Result Answer Fault → Request → Type 0
Does before now r request = DoesWork (WorkOn request) (OpensRequest request) (HasRequestCause request) before now r

pub returns-in-Pair : goal.returns-in-Pair
returns-in-Pair g c =
    subst (Does (g.H.Shelf.told c.args.shelf.now) (g.H.Shelf.told c.pair.new.shelf) c.pair.result) (sym c.in-Pair.is)
    c.pair.ensures

pub returns-in-Look : goal.returns-in-Look
returns-in-Look g c =
    subst (Does (g.H.Shelf.told c.args.shelf.now) (g.H.Shelf.told c.look.new.shelf) c.look.result) (sym c.in-Look.is)
    c.look.ensures

pub returns-in-Graph : goal.returns-in-Graph
returns-in-Graph g c =
    subst (Does (g.H.Shelf.told c.args.shelf.now) (g.H.Shelf.told c.graph.new.shelf) c.graph.result) (sym c.in-Graph.is)
    c.graph.ensures

pub returns-in-Plan : goal.returns-in-Plan
returns-in-Plan g c =
    subst (Does (g.H.Shelf.told c.args.shelf.now) (g.H.Shelf.told c.plan.new.shelf) c.plan.result) (sym c.in-Plan.is)
    c.plan.ensures

pub returns-in-Check : goal.returns-in-Check
returns-in-Check g c =
    subst (Does (g.H.Shelf.told c.args.shelf.now) (g.H.Shelf.told c.check.new.shelf) c.check.result) (sym c.in-Check.is)
    c.check.ensures

pub returns-in-Cells : goal.returns-in-Cells
returns-in-Cells g c =
    subst (Does (g.H.Shelf.told c.args.shelf.now) (g.H.Shelf.told c.cells.new.shelf) c.cells.result) (sym c.in-Cells.is)
    c.cells.ensures

pub returns-in-Explode : goal.returns-in-Explode
returns-in-Explode g c =
    subst (Does (g.H.Shelf.told c.args.shelf.now) (g.H.Shelf.told c.explode.new.shelf) c.explode.result) (sym c.in-Explode.is)
    c.explode.ensures

pub returns-in-Linear : goal.returns-in-Linear
returns-in-Linear g c =
    subst (Does (g.H.Shelf.told c.args.shelf.now) (g.H.Shelf.told c.linear.new.shelf) c.linear.result) (sym c.in-Linear.is)
    c.linear.ensures

pub returns-in-Local : goal.returns-in-Local
returns-in-Local g c =
    subst (Does (g.H.Shelf.told c.args.shelf.now) (g.H.Shelf.told c.local.new.shelf) c.local.result) (sym c.in-Local.is)
    c.local.ensures

pub returns-in-Decide : goal.returns-in-Decide
returns-in-Decide g c =
    subst (Does (g.H.Shelf.told c.args.shelf.now) (g.H.Shelf.told c.decide.new.shelf) c.decide.result) (sym c.in-Decide.is)
    c.decide.ensures

pub returns-in-Confirm : goal.returns-in-Confirm
returns-in-Confirm g c =
    subst (Does (g.H.Shelf.told c.args.shelf.now) (g.H.Shelf.told c.confirm.new.shelf) c.confirm.result) (sym c.in-Confirm.is)
    c.confirm.ensures

pub returns-in-Blocks : goal.returns-in-Blocks
returns-in-Blocks g c =
    subst (Does (g.H.Shelf.told c.args.shelf.now) (g.H.Shelf.told c.blocks-in-Blocks.new.shelf) c.blocks-in-Blocks.result) (sym c.in-Blocks.is)
    c.blocks-in-Blocks.ensures

pub returns-in-Drill : goal.returns-in-Drill
returns-in-Drill g c =
    let told = g.H.Shelf.told c.args.shelf.now in
    let drill = c.drill.ensures in
    subst (Does told told c.drill.result) (sym c.in-Drill.is) (record {
      holds = refl;
      count = omega arith;
      status = drill.status;
      opens = refl;
      found = λ files fit. drill.found files;
      cause = drill.cause (over told told);
    })
