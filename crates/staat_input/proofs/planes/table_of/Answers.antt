use Rattle.std.proofs.Common.{◌≡◌, ◌∙◌, Err, ap, length, subst, sym}
use Rattle.staat_model.specs.Sets.{below}
use Rattle.staat_planes.specs.Refusals.{IsPlanesRefusal, IsTableWithin}
use Rattle.staat_input.specs.Counting.{AreCounted, all_parts}
use Rattle.staat_input.specs.Work.{Follows}
use Rattle.staat_input.proofs.CountingLemmas.{counted_few, counted_many}
use Rattle.staat_input.proofs.planes.table_of.Goals as goal

pub returns-in-Ok-clause-counted : goal.returns-in-Ok-clause-counted
returns-in-Ok-clause-counted c =
    let all : c.first-all.result ≡ all_parts c.args.sound.now =
    c.first-all.ensures.is ∙ ap below (c.parts.ensures.count ∙ ap length c.assembly.ensures.assembly) in
    counted_few c.args.sound.now c.args.limit c.in-Ok.table
    (subst (λ w. IsTableWithin c.args.sound.now w c.args.limit c.in-Ok.table) all c.in-Ok.ensures)

pub returns-in-Err-clause-refused : goal.returns-in-Err-clause-refused
returns-in-Err-clause-refused c =
    let all : c.first-all.result ≡ all_parts c.args.sound.now =
    c.first-all.ensures.is ∙ ap below (c.parts.ensures.count ∙ ap length c.assembly.ensures.assembly) in
    subst (λ f. Follows (AreCounted c.args.sound.now c.args.limit) (Err f)) (sym c.planes_fault.ensures)
    (counted_many c.args.sound.now c.args.limit c.in-Err.refusal
    (subst (λ w. IsPlanesRefusal c.args.sound.now w c.args.limit c.in-Err.refusal) all c.in-Err.ensures))
