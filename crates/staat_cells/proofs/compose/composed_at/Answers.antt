use Rattle.std.proofs.Common.{◌≡◌, ◌∙◌, ◌+◌, ap, get_or, length, subst, sym, true}
use Rattle.staat_vec.specs.declared.vector.TheConstants.{EDGE}
use Rattle.staat_vec.specs.Vectors.{IsWithin}
use Rattle.staat_cells.specs.declared.cell.Cell.{Cell}
use Rattle.staat_cells.specs.Compositions.{begins_cell, composed, composed_cell, no_incidence}
use Rattle.staat_cells.proofs.Composing.{entry_at}
use Rattle.staat_cells.proofs.compose.composed_at.Goals as goal

pub composed_signs-requires : goal.composed_signs-requires
composed_signs-requires c =
    let (n, all) = c.requires.signs in
    let behind = c.requires.pairs.follow c.args.i c.requires.place (sym c.begins_cell.ensures ∙ c.if-not-begins_cell.false) in
    ap length c.as_slice.ensures
    ∙ subst (λ (x : Cell). length x.signs ≡ n) (sym c.index-lower-incidences.is)
    (all _ _ (c.requires.pairs.listed c.args.i _ c.requires.place))
    ∙ sym (ap length c.as_slice-2.ensures
    ∙ subst (λ (x : Cell). length x.signs ≡ n) (sym c.index-lower-incidences-2.is)
    (all _ _ (c.requires.pairs.listed (c.args.i + 1) _ behind)))

pub add-requires-clause-a : goal.add-requires-clause-a
add-requires-clause-a c = subst (λ (x : Cell). IsWithin EDGE x.d) (sym c.index-lower-incidences.is)
    (c.requires.size _ _ (c.requires.pairs.listed c.args.i _ c.requires.place))

pub add-requires-clause-b : goal.add-requires-clause-b
add-requires-clause-b c =
    let behind = c.requires.pairs.follow c.args.i c.requires.place (sym c.begins_cell.ensures ∙ c.if-not-begins_cell.false) in
    subst (λ (x : Cell). IsWithin EDGE x.d) (sym c.index-lower-incidences-2.is)
    (c.requires.size _ _ (c.requires.pairs.listed (c.args.i + 1) _ behind))

pub returns-then-not-begins_cell : goal.returns-then-not-begins_cell
returns-then-not-begins_cell c = sym c.begins_cell.ensures ∙ c.if-not-begins_cell.true

pub returns : goal.returns
returns c =
    let lower = c.args.lower.now in
    let incidences = c.args.incidences.now in
    let i = c.args.i in
    let begins : begins_cell incidences i ≡ true = sym c.begins_cell.ensures ∙ c.if-not-begins_cell.false in
    let one = entry_at lower (get_or incidences i no_incidence).of c.index-lower-incidences.result
    (c.requires.pairs.listed i no_incidence c.requires.place) c.index-lower-incidences.is in
    let two = entry_at lower (get_or incidences (i + 1) no_incidence).of c.index-lower-incidences-2.result
    (c.requires.pairs.listed (i + 1) no_incidence (c.requires.pairs.follow i c.requires.place begins))
    c.index-lower-incidences-2.is in
    let signs = c.from_vec.ensures ∙ c.in_ok-signs.ensures
    ∙ (λ j. composed (c.as_slice.ensures j) (c.as_slice-2.ensures j)) in
    record {
      begins = begins;
      is = (λ j. record { kind = c.args.kind; d = c.add.ensures.value j; signs = signs j })
          ∙ (λ j. composed_cell c.args.kind (one j) (two j));
    }
