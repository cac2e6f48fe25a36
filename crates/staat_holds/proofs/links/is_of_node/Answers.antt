use Rattle.std.proofs.Common.{◌∙◌, ◌<◌, ap, subst}
use Rattle.std.specs.Prelude.{None, Some}
use Rattle.std.proofs.lemmas.Bool.Decides.{Decides-ltb}
use Rattle.std.proofs.lemmas.Option.{slice_get-get_or}
use Rattle.staat_holds.proofs.LinkLemmas.{same_node}
use Rattle.staat_holds.proofs.links.is_of_node.Goals as goal

pub returns-in-Some : goal.returns-in-Some
returns-in-Some c =
    let node = c.in-Some.node in
    let here = slice_get-get_or c.args.nodes.now c.args.a None c.if-a-nodes.false ∙ ap Some c.in-Some.is in
    let decides = Decides-ltb node c.args.count in (
      λ t. record { node = node; is = here; few = decides.0 t },
      λ h. decides.1 (subst (λ n. n < c.args.count) (same_node c.args.nodes.now c.args.a h.node node h.is here) h.few),
    )
