-- Each direction lies in exactly one of the cells that are listed.
use Rattle.std.proofs.Common.{◌≡◌, ◌≢◌, inl, inr, ℕ, ◌+◌, refl, sym, ap, subst, ◌∙◌, List, ◌++◌, length}
use Rattle.std.specs.Prelude.{slice_get, Some}
use Rattle.std.proofs.lemmas.Option.{get_or_from_slice_get, slice_get-get_or, slice_get_within}
use Rattle.staat_vec.specs.declared.vector.V3.{V3}
use Rattle.staat_vec.specs.Vectors.{origin}
use Rattle.staat_vec.proofs.ListLaws.{get_front}
use Rattle.staat_vec.proofs.Naturals.{same_from_neither}
use Rattle.staat_model.specs.declared.tree.Kind.{Kind}
use Rattle.staat_model.specs.declared.tree.Kind.TheVariants.{Edge, Open, Point}
use Rattle.staat_model.specs.Cells.{kind_of, signs_of, AreCells, AreCellsOf, CellEntry, HasOneCell, IsEntry}
use Rattle.staat_model.proofs.Places.{get_behind, place_cases}
use Rattle.staat_cells.specs.Compositions.{no_cell}
use Rattle.staat_cells.specs.Stages.{cell_at}
use Rattle.staat_cells.proofs.MadeUpCells.{entry_at, not_same, place_of}

module _ (planes : List V3) (d : V3) where
  -- no listed cell has the signs of d
  abbrev HasNone : List CellEntry → Type 0
  HasNone cells = (k : ℕ) (c : CellEntry) → slice_get cells k ≡ Some c → c.signs ≡ signs_of planes d → ⊥

  none_both : (xs ys : List CellEntry) → HasNone xs → HasNone ys → HasNone (xs ++ ys)
  none_both xs ys early late k c at e = elim (place_cases xs ys k c at) [
    | inl here ↦ early k c here e
    | inr behind ↦ late behind.0 c behind.2 e
  ]

  one_early : (xs ys : List CellEntry) → HasOneCell planes xs d → HasNone ys → HasOneCell planes (xs ++ ys) d
  one_early xs ys one none = record {
    place = one.place;
    cell = one.cell;
    at = get_front xs ys one.place one.cell one.at;
    is = one.is;
    only = λ k c at e. elim (place_cases xs ys k c at) [
      | inl here ↦ one.only k c here e
      | inr behind ↦ absurd (none behind.0 c behind.2 e)
    ];
  }

  one_later : (xs ys : List CellEntry) → HasNone xs → HasOneCell planes ys d → HasOneCell planes (xs ++ ys) d
  one_later xs ys none one = record {
    place = length xs + one.place;
    cell = one.cell;
    at = get_behind xs ys one.place (length xs + one.place) one.cell refl one.at;
    is = one.is;
    only = λ k c at e. elim (place_cases xs ys k c at) [
      | inl here ↦ absurd (none k c here e)
      | inr behind ↦ behind.1 ∙ ap (λ n. length xs + n) (one.only behind.0 c behind.2 e)
    ];
  }

  none_of : (kind other : Kind) (cells : List CellEntry) → AreCellsOf planes other cells
      → kind_of (signs_of planes d) ≡ kind → kind ≢ other → HasNone cells
  none_of kind other cells listed is apart k c at e =
      let entry : IsEntry planes other c = subst (IsEntry planes other) (get_or_from_slice_get cells k c no_cell at)
      (entry_at planes other cells listed k (slice_get_within cells k c at)) in
      apart (sym is ∙ ap kind_of (sym e) ∙ entry.by_count)

  one_of : (kind : Kind) (cells : List CellEntry) → AreCellsOf planes kind cells → d ≢ origin
      → kind_of (signs_of planes d) ≡ kind → HasOneCell planes cells d
  one_of kind cells listed some is =
      let (j, at) = place_of planes kind cells listed (signs_of planes d) (record { d = d; nonzero = some; is = refl }) is in
      record {
        place = j;
        cell = cell_at cells j;
        at = slice_get-get_or cells j no_cell at.lt;
        is = at.is;
        only = λ k c e h.
            let same : (cell_at cells k).signs ≡ (cell_at cells j).signs =
            ap (λ (x : CellEntry). x.signs) (get_or_from_slice_get cells k c no_cell e) ∙ h ∙ sym at.is in
            same_from_neither k j (λ lt. not_same planes kind cells listed k j lt at.lt same)
            (λ gt. not_same planes kind cells listed j k gt (slice_get_within cells k c e) (sym same));
      }

  pub one_cell : (cells : List CellEntry) → AreCells planes cells → d ≢ origin → HasOneCell planes cells d
  one_cell cells all some = subst (λ l. HasOneCell planes l d) (sym all.is) (by (kind_of (signs_of planes d)) refl)
    where
      by : (kind : Kind) → kind_of (signs_of planes d) ≡ kind
          → HasOneCell planes (all.points ++ all.edges ++ all.opens) d
      by Point e = one_early (all.points ++ all.edges) all.opens
          (one_early all.points all.edges (one_of Point all.points all.points_are some e)
          (none_of Point Edge all.edges all.edges_are e (λ q. cc)))
          (none_of Point Open all.opens all.opens_are e (λ q. cc))
      by Edge e = one_early (all.points ++ all.edges) all.opens
          (one_later all.points all.edges (none_of Edge Point all.points all.points_are e (λ q. cc))
          (one_of Edge all.edges all.edges_are some e))
          (none_of Edge Open all.opens all.opens_are e (λ q. cc))
      by Open e = one_later (all.points ++ all.edges) all.opens
          (none_both all.points all.edges (none_of Open Point all.points all.points_are e (λ q. cc))
          (none_of Open Edge all.edges all.edges_are e (λ q. cc)))
          (one_of Open all.opens all.opens_are some e)
