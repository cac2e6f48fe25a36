-- The pieces of the merged product, and the pieces that they were.
use Rattle.std.proofs.Common.{◌≡◌, ◌⊎◌, ℕ, ◌<◌, ◌^◌, List, [], length, get_or, map, ⊎_elim, sym, ap, subst, ◌∙◌, arith, All, Contains}
use Rattle.std.specs.Prelude.{Option, Some, option_and_then, slice_get}
use Rattle.std.specs.Ordering.{nat_cmp}
use Rattle.std.proofs.lemmas.Bool.{cases_eq, cases_lt}
use Rattle.std.proofs.lemmas.List.{length-map}
use Rattle.std.proofs.lemmas.List.Elements.{All-contains}
use Rattle.std.proofs.lemmas.Map.Keys.{below_from_sorted}
use Rattle.std.proofs.lemmas.Option.{get_or_from_slice_get}
use Rattle.staat_vec.specs.declared.vector.V3.{V3}
use Rattle.staat_vec.specs.Lists.{Lists}
use Rattle.staat_model.specs.declared.assembly.Part.{Part}
use Rattle.staat_model.specs.Assemblies.{IsPart, piece_at, piece_count}
use Rattle.staat_model.specs.Pieces.{IsPiece}
use Rattle.staat_model.proofs.Members.{All-from_members}
use Rattle.staat_model.proofs.Places.{place_within, some_at}
use Rattle.staat_motion.proofs.Zips.{zip_at, zip_back, zip_length}
use Rattle.staat_holds.specs.Chains.{IsName}
use Rattle.staat_rest.specs.declared.merging.Origin.{Origin}
use Rattle.staat_rest.specs.Merging.{AreMerged, AreOrigins, IsMergedPart, origin_at}
use Rattle.staat_rest.specs.Nodes.{IsInNode}
use Rattle.staat_model.proofs.PlanLemmas.{part_at, piece_within}
use Rattle.staat_vec.proofs.Unique.{from_place}
use Rattle.staat_vec.proofs.ListLaws.{place_of, map_at_place, place_in_map}

-- what the origin of the piece i of the merged part a is, where p is that piece
pub record IsOrigin (parts : List Part) (names heads : List ℕ) (origins : List (List Origin)) (a i : ℕ) (p : List V3) : Type 0 where
  pub is : piece_at parts ((origin_at origins a i).part) ((origin_at origins a i).piece) ≡ Some p
  pub head : ℕ
  pub head_is : slice_get heads a ≡ Some head
  pub of : IsInNode names head ((origin_at origins a i).part)
  pub a_in : a < length origins
  pub i_in : i < length (get_or origins a [])

pub piece_from : (parts : List Part) (a i : ℕ) (part : Part) (p : List V3) → slice_get parts a ≡ Some part → slice_get part.pieces i ≡ Some p → piece_at parts a i ≡ Some p
piece_from parts a i part p at e = ap (option_and_then (λ (q : Part). slice_get q.pieces i)) at ∙ e

-- names that stand at two places of the ascending list stand at one
pub one_head : (names heads : List ℕ) → Lists nat_cmp (IsName names) heads → (k l h : ℕ) → slice_get heads k ≡ Some h → slice_get heads l ≡ Some h → k ≡ l
one_head names heads are k l h at_k at_l =
    let k_lt = place_within heads k h at_k in
    let l_lt = place_within heads l h at_l in
    let k_is = get_or_from_slice_get heads k h 0 at_k in
    let l_is = get_or_from_slice_get heads l h 0 at_l in
    let kl : k < l → get_or heads k 0 < get_or heads l 0 = λ lt. below_from_sorted heads k l 0 are.ascending lt l_lt in
    let lk : l < k → get_or heads l 0 < get_or heads k 0 = λ lt. below_from_sorted heads l k 0 are.ascending lt k_lt in
    ⊎_elim {C = k ≡ l} (λ e. e)
    (λ ne. absurd (⊎_elim {C = ⊥} (λ lt. let up = kl lt in omega (arith, up, k_is, l_is))
    (λ le. let up = lk (omega (arith, le, ne)) in omega (arith, up, k_is, l_is)) (cases_lt k l))) (cases_eq k l)

module _ (parts : List Part) (names heads : List ℕ) (origins : List (List Origin)) (merged : List Part) (are : AreMerged parts names heads origins merged) where
  abbrev from_origin : Origin → Option (List V3)
  from_origin o = piece_at parts o.part o.piece

  pub origin_is : (a i : ℕ) (p : List V3) → piece_at merged a i ≡ Some p → IsOrigin parts names heads origins a i p
  origin_is a i p e =
      let (part, at, in') = part_at merged a i p e in
      let (os, os_at, same) = zip_back (IsMergedPart parts) origins merged a part are.merged_are at in
      let (h, h_at, of_h) = zip_back (AreOrigins parts names) heads origins a os are.origins_are os_at in
      let there = subst (λ (l : List (Option (List V3))). slice_get l i ≡ Some (Some p)) (sym same) (map_at_place Some part.pieces i p in') in
      let (o, o_at, o_is) = place_in_map from_origin os i (Some p) there in
      let list : get_or origins a [] ≡ os = get_or_from_slice_get origins a os [] os_at in
      let is : origin_at origins a i ≡ o = ap (λ (l : List Origin). get_or l i (record { part = 0; piece = 0 })) list ∙ get_or_from_slice_get os i o (record { part = 0; piece = 0 }) o_at in
      let each = All-contains (λ (q : Origin). IsInNode names h q.part × (q.piece < piece_count parts q.part)) os o of_h.each (from_place os i o o_at) in record {
        is = ap from_origin is ∙ o_is;
        head = h;
        head_is = h_at;
        of = subst (λ (q : Origin). IsInNode names h q.part) (sym is) each.0;
        a_in = place_within origins a os os_at;
        i_in = subst (λ (l : List Origin). i < length l) (sym list) (place_within os i o o_at);
      }

  -- each piece of a part of a node is one of the merged part
  pub merged_from : (q j h k : ℕ) (p : List V3) → IsInNode names h q → slice_get heads k ≡ Some h → piece_at parts q j ≡ Some p → (i : ℕ) × (piece_at merged k i ≡ Some p)
  merged_from q j h k p of at e =
      let k_lt = place_within heads k h at in
      let first = zip_length (AreOrigins parts names) heads origins are.origins_are in
      let second = zip_length (IsMergedPart parts) origins merged are.merged_are in
      let (os, os_at) = some_at origins k (omega (arith, k_lt, first)) in
      let (part, part_at) = some_at merged k (omega (arith, k_lt, first, second)) in
      let of_h = zip_at (AreOrigins parts names) heads origins k h os are.origins_are at os_at in
      let same = zip_at (IsMergedPart parts) origins merged k os part are.merged_are os_at part_at in
      let o : Origin = record { part = q; piece = j } in
      let (i, o_at) = place_of os o (of_h.all q j of (piece_within parts q j p e)) in
      let there = subst (λ (l : List (Option (List V3))). slice_get l i ≡ Some (Some p)) same (map_at_place from_origin os i o o_at ∙ ap Some e) in
      let (x, x_at, x_is) = place_in_map Some part.pieces i (Some p) there in
      (i, piece_from merged k i part p part_at (x_at ∙ x_is))

  pub merged_count : length merged ≡ length heads
  merged_count =
      let first = zip_length (AreOrigins parts names) heads origins are.origins_are in
      let second = zip_length (IsMergedPart parts) origins merged are.merged_are in
      omega (arith, first, second)

  module _ (each : All IsPart parts) (many : length names ≡ length parts) where
    one_part : (part : Part) → Contains merged part → IsPart part × (length part.pieces < 2 ^ 32)
    one_part part c =
        let (k, at) = place_of merged part c in
        let (os, os_at, same) = zip_back (IsMergedPart parts) origins merged k part are.merged_are at in
        let (h, h_at, of_h) = zip_back (AreOrigins parts names) heads origins k os are.origins_are os_at in
        let named : IsName names h = are.heads_are.each h (from_place heads k h h_at) in
        let h_lt = place_within names h h named in
        let (own, own_at) = some_at parts h (omega (arith, h_lt, many)) in
        let own_some = (All-contains IsPart parts own each (from_place parts h own own_at)).nonempty in
        let (p, p_at) = some_at own.pieces 0 (omega (arith, own_some)) in
        let (i, i_at) = place_of os (record { part = h; piece = 0 }) (of_h.all h 0 named (piece_within parts h 0 p (piece_from parts h 0 own p own_at p_at))) in
        let i_lt = place_within os i (record { part = h; piece = 0 }) i_at in
        let long = sym (length-map os from_origin) ∙ ap length same ∙ length-map part.pieces Some in
        let few = of_h.few in (
          record {
            nonempty = omega (arith, i_lt, long);
            pieces = All-from_members IsPiece part.pieces (λ x x_in.
                let (j, x_at) = place_of part.pieces x x_in in
                let o = origin_is k j x (piece_from merged k j part x at x_at) in
                let (q, q_at, in_q) = part_at parts ((origin_at origins k j).part) ((origin_at origins k j).piece) x o.is in
                let is_part = All-contains IsPart parts q each (from_place parts ((origin_at origins k j).part) q q_at) in
                All-contains IsPiece q.pieces x is_part.pieces (from_place q.pieces ((origin_at origins k j).piece) x in_q));
          },
          omega (arith, few, long),
        )

    pub merged_parts_are : All IsPart merged
    merged_parts_are = All-from_members IsPart merged (λ part c. (one_part part c).0)

    pub merged_pieces_few : All (λ (part : Part). length part.pieces < 2 ^ 32) merged
    merged_pieces_few = All-from_members (λ (part : Part). length part.pieces < 2 ^ 32) merged (λ part c. (one_part part c).1)
