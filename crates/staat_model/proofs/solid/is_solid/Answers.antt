use Rattle.std.proofs.Common.{rules, sym}
use Rattle.staat_model.proofs.Flat.{apart, at_place, on_line, on_plane, off_plane, decided}
use Rattle.staat_model.proofs.solid.is_solid.Goals as goal

pub returns-in_default-other_than : goal.returns-in_default-other_than
returns-in_default-other_than c = (λ h. absurd (search rules), λ solid. absurd (at_place _ _ c.in_default-other_than.ensures solid))

pub returns-in_default-normal_off_line : goal.returns-in_default-normal_off_line
returns-in_default-normal_off_line c = (λ h. absurd (search rules), λ solid. absurd (on_line c.sub-along.result _ _ (apart _ _ _ c.sub-along.ensures.value c.in-Some-other_than.ensures.1) c.in_default-normal_off_line.ensures.line solid))

pub returns : goal.returns
returns c =
    let (k, x, within, at, n) = c.in-Some-normal_off_line.ensures.line.1 in
    decided _ _ _ _ _ c.is_some.ensures c.off_plane.ensures
    (λ all. on_plane _ _ _ c.in-Some-normal_off_line.ensures.line.0 all)
    (λ e found. off_plane _ _ x e _ _ _ (0, c.in-Some.ensures.item.3.0, sym c.in-Some.ensures.item.1) c.in-Some-other_than.ensures.0 (k, within, at) found.0 c.sub-along.ensures.value n found.1)
