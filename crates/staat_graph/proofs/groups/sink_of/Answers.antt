use Rattle.std.proofs.Common.{◌∙◌, ◌<◌, ⊎_elim, below_more, sym, subst, arith}
use Rattle.std.proofs.lemmas.Bool.{cases_lt, false≢true}
use Rattle.staat_model.specs.declared.set.PartSet.{PartSet}
use Rattle.staat_model.specs.Sets.{Has}
use Rattle.staat_graph.specs.declared.graph.Graph.{Graph}
use Rattle.staat_graph.specs.Graphs.{HasArc, IsFirstSink, IsSink}
use Rattle.staat_graph.proofs.Arcs.{arc_or}
use Rattle.staat_graph.proofs.Reaching.{some_sink}
use Rattle.staat_graph.proofs.groups.sink_of.Goals as goal
use Rattle.staat_graph.proofs.groups.sink_of.Goals.{then-has+in_default, else-has}

pub sink_at-requires : goal.sink_at-requires
sink_at-requires c = sym c.has.ensures ∙ c.if-has.true

pub returns-in-Some : goal.returns-in-Some
returns-in-Some c =
    let p = c.loop-p.p in
    subst (λ (g : Graph). IsFirstSink (HasArc g.rows) c.args.w c.in-Some.sink) c.new-g.ensures (record {
      sink = c.in-Some.ensures.0;
      least = p;
      has = c.in-Some.ensures.1;
      first = λ t q is h. ⊎_elim (λ lt. absurd (c.loop-p.invariant t q lt is h)) (λ le. le) (cases_lt q p);
    })

pub loop-p-preserved : goal.loop-p-preserved
loop-p-preserved c =
    let R = HasArc c.new-g.result.ahead.rows in
    let p = c.loop-p.p in
    let here : (t : PartSet) → IsSink R c.args.w t → Has t p → ⊥ =
    elim c.if-has.branch [
      | then-has+in_default w ↦ w.in_default.ensures
      | else-has w ↦ λ t is h. false≢true (sym w.if-has.false ∙ c.has.ensures ∙ is.group.within p h)
    ] in λ t q lt.
    below_more (λ q. (t : PartSet) → IsSink R c.args.w t → Has t q → ⊥) p (λ q below t. c.loop-p.invariant t q below) here q lt t

pub unreachable-requires : goal.unreachable-requires
unreachable-requires c =
    let (t, sink) = some_sink (HasArc c.new-g.result.ahead.rows) (arc_or c.new-g.result.ahead.rows) c.args.w c.requires.0 c.requires.1 in
    let p = sink.group.nonempty in
    let small : p.0 < 32 = c.bits-bits.ensures.small p.0 (sink.group.within p.0 p.1) in
    c.loop-p.invariant t p.0 (let low : p.0 < c.loop-p.p = omega arith in low) sink p.1
