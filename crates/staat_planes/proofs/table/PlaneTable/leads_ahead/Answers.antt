use Rattle.std.proofs.Common.{◌≡◌, ◌↔◌, sym, subst, pos, ◌<ℤ◌, All}
use Rattle.std.specs.Prelude.{IsTrue}
use Rattle.staat_vec.specs.Vectors.{dot, negative}
use Rattle.staat_pairs.specs.Tables.{facets_of, reversed_facets, IsTableArc}
use Rattle.staat_pairs.proofs.TableLemmas.{back_across, facets_reversed}
use Rattle.staat_pairs.proofs.ReversedFacets.{ahead_reversed}
use Rattle.staat_planes.proofs.table.PlaneTable.leads_ahead.Goals as goal

pub returns-else-arc : goal.returns-else-arc
returns-else-arc c =
    let list = c.kept_facets-else-arc.result.now in
    let is : facets_of c.args.self.now c.args.arc ≡ reversed_facets list = facets_reversed c.args.self.now c.args.arc c.back.result list c.requires.across c.if-arc.false c.back.ensures c.kept_facets-else-arc.ensures.is in
    let told : IsTrue c.is_ahead-else-arc.result ↔ All (λ n. pos 0 <ℤ dot n (negative c.args.d)) list = subst (λ e. IsTrue c.is_ahead-else-arc.result ↔ All (λ n. pos 0 <ℤ dot n e) list) c.neg.ensures.value c.is_ahead-else-arc.ensures in
    let law = ahead_reversed list c.args.d in
    subst (λ l. IsTrue c.is_ahead-else-arc.result ↔ All (λ n. pos 0 <ℤ dot n c.args.d) l) (sym is) (λ h. law.0 (told.0 h), λ h. told.1 (law.1 h))

pub kept_facets-requires-else-arc-clause-across : goal.kept_facets-requires-else-arc-clause-across
kept_facets-requires-else-arc-clause-across c =
    subst (IsTableArc c.args.self.now) (sym c.back.ensures) (back_across c.args.self.now c.args.arc c.requires.across)
