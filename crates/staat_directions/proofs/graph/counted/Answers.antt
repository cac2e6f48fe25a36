use Rattle.std.proofs.Common.{◌≡◌, ◌∙◌, Ok, ap, arith, length, refl, subst}
use Rattle.staat_graph.specs.Blocking.{ShowsBlocking}
use Rattle.staat_limits.specs.declared.limits.TheConstants.{MOST_PLANES}
use Rattle.staat_text.specs.GraphTexts.{IsGraphText}
use Rattle.staat_input.specs.Counting.{AreCounted}
use Rattle.staat_input.specs.Work.{answer}
use Rattle.staat_input.proofs.AnswerLemmas.{fault_out, memory_out, then_out}
use Rattle.staat_directions.specs.Graphing.{IsGraphed}
use Rattle.staat_directions.proofs.graph.counted.Goals as goal

pub returns-in_err-table : goal.returns-in_err-table
returns-in_err-table c =
    fault_out (AreCounted c.args.sound.now MOST_PLANES) (λ planes. IsGraphed c.args.sound.now c.args.along)
    c.from_residual.result c.in_err-table.field-0.0 c.in_err-table.ensures.refused c.in_err-table.ensures.cause
    c.from_residual.ensures.1

pub returns-in_err-text : goal.returns-in_err-text
returns-in_err-text c = memory_out c.from_residual-in_err-text.ensures.1

pub returns : goal.returns
returns c =
    let parts = c.args.sound.now in
    let rows = c.graph_at.result.rows in
    let text = c.in_ok-text.text in
    let count : c.parts-parts.result ≡ length parts = c.parts-parts.ensures.count ∙ ap length c.assembly.ensures.assembly in
    then_out (AreCounted parts MOST_PLANES) (λ planes. IsGraphed parts c.args.along) (Ok (answer 0 text))
    c.in_ok-table.table.planes c.in_ok-table.ensures.counted (record {
      status = omega arith;
      found = record {
        rows = rows;
        text = text;
        shows = subst (λ w. ShowsBlocking parts c.args.along w rows) c.in_ok-table.ensures.all
            (c.graph_at.ensures.shows parts c.in_ok-table.ensures.made);
        text_is = subst (λ n. IsGraphText n c.args.along rows text) count c.in_ok-text.ensures;
        is = refl;
      };
      cause = λ shelf. tt;
    })
