use Rattle.std.proofs.Common.{◌≡◌, ◌∷◌, ◌++◌, [], ℕ, List, set, ap, sym, subst, ◌∙◌, arith}
use Rattle.std.specs.Prelude.{slice_index, min, ◌+◌}
use Rattle.std.proofs.lemmas.List.{get_or_read}
use Rattle.staat_mesh.specs.Counts.{Counts, cell}
use Rattle.staat_mesh.proofs.CountLemmas.{counts_more}
use Rattle.staat_mesh.proofs.table.EdgeTable.add.Goals as goal

pub returns : goal.returns
returns c = λ edges so_far.
    let items = c.self.inside.counts.items in
    let at = c.place-at.ensures.value in
    let new = c.saturating_add.result in
    let read = get_or_read items c.place-at.result _ (omega (arith, c.place-at.ensures.within, c.self.invariant)) c.index.ensures 0 in
    let value : new ≡ min (slice_index items (cell c.args.from c.args.to) + 1) 255 = c.saturating_add.ensures ∙ ap (λ n. min (n + 1) 255) (read ∙ ap (slice_index items) at) in
    subst (λ (k : ℕ). Counts (set items k new) (edges ++ (c.args.from, c.args.to) ∷ [])) (sym at)
    (counts_more items edges c.args.from c.args.to new c.requires.from c.requires.to c.self.invariant value (subst (λ (table : List ℕ). Counts table edges) (sym c.self.view_is) so_far))
