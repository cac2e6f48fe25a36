use Rattle.std.proofs.Common.{subst, sym, Contains}
use Rattle.std.proofs.lemmas.List.Elements.{All-contains}
use Rattle.staat_model.specs.Certificates.{HasLine}
use Rattle.staat_model.proofs.ListedVertices.{all_listed}
use Rattle.staat_check.proofs.refusal.are_all_found.Goals as goal

pub returns-in_ok-wanted : goal.returns-in_ok-wanted
returns-in_ok-wanted c = λ yes. all_listed c.args.version c.args.planes.now c.args.dirs.now c.requires.apart (λ v d.
    let wanted = c.as_slice-else-dirs-le-FEW_LINES in
    All-contains (HasLine c.args.dirs.now) wanted.result.now v (c.have_lines.ensures yes) (subst (λ l. Contains l v) (sym wanted.ensures.value) (c.in_ok-wanted.ensures.all v d)))
