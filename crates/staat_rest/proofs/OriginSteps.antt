-- The pieces of a node's parts, one after the other, and their copies.
use Rattle.std.proofs.Common.{◌≡◌, ◌⊎◌, ◌↔◌, ℕ, ◌+◌, ◌<◌, ◌≤◌, ◌^◌, List, [], ◌∷◌, ◌++◌, length, get_or, map, take, inl, inr, ⊎_elim, refl, sym, ap, subst, ◌∙◌, arith, All, Contains}
use Rattle.std.specs.Prelude.{None, Option, Some, option_and_then, option_map, slice_get, unwrap_or}
use Rattle.std.specs.List.{AllZip}
use Rattle.std.proofs.lemmas.Bool.{cases_eq}
use Rattle.std.proofs.lemmas.List.{map-append, take_more}
use Rattle.std.proofs.lemmas.List.Elements.{All-weaker}
use Rattle.std.proofs.lemmas.Option.{get_or_from_slice_get, slice_get-get_or}
use Rattle.staat_vec.specs.declared.vector.V3.{V3}
use Rattle.staat_model.specs.declared.assembly.Part.{Part}
use Rattle.staat_model.specs.Assemblies.{piece_at, piece_count}
use Rattle.staat_model.proofs.Members.{All-from_members}
use Rattle.staat_model.proofs.Places.{place_within}
use Rattle.staat_motion.proofs.Zips.{zip_back}
use Rattle.staat_holds.proofs.ListSteps.{contains_push}
use Rattle.staat_rest.specs.declared.merging.Origin.{Origin}
use Rattle.staat_rest.specs.Merging.{AreOrigins}
use Rattle.staat_rest.specs.Nodes.{IsInNode}
use Rattle.staat_vec.proofs.ListLaws.{place_of}

pub origin_more : (old xs ys : List Origin) (part n : ℕ) → ys ≡ xs ++ record { part = part; piece = n } ∷ []
    → ((o : Origin) → Contains xs o ↔ (Contains old o ⊎ ((o.part ≡ part) × (o.piece < n))))
    → (o : Origin) → Contains ys o ↔ (Contains old o ⊎ ((o.part ≡ part) × (o.piece < n + 1)))
origin_more old xs ys part n e is o = (
  λ c. ⊎_elim {C = Contains old o ⊎ ((o.part ≡ part) × (o.piece < n + 1))}
      (λ h. ⊎_elim {C = Contains old o ⊎ ((o.part ≡ part) × (o.piece < n + 1))} (λ before. inl before) (λ t. inr (t.0, let lt = t.1 in omega (arith, lt))) ((is o).0 h))
      (λ same. let k : n ≡ o.piece = ap (λ (q : Origin). q.piece) same in inr (sym (ap (λ (q : Origin). q.part) same), omega (arith, k)))
      ((contains_push xs (record { part = part; piece = n }) o).0 (subst (λ (zs : List Origin). Contains zs o) e c)),
  λ h. subst (λ (zs : List Origin). Contains zs o) (sym e) ((contains_push xs (record { part = part; piece = n }) o).1
      (⊎_elim {C = Contains xs o ⊎ (record { part = part; piece = n } ≡ o)}
      (λ before. inl ((is o).1 (inl before)))
      (λ t. ⊎_elim {C = Contains xs o ⊎ (record { part = part; piece = n } ≡ o)} (λ same. inr (λ i. record { part = sym t.0 i; piece = sym same i }))
      (λ ne. inl ((is o).1 (inr (t.0, let lt = t.1 in omega (arith, lt, ne))))) (cases_eq o.piece n)) h)),
)

-- one of the pieces of the parts of the node below k
abbrev pub IsPieceBelow : List Part → List ℕ → (node k : ℕ) → Origin → Type 0
IsPieceBelow parts names node k o = (o.part < k) × IsInNode names node o.part × (o.piece < piece_count parts o.part)

pub pieces_more : (parts : List Part) (names : List ℕ) (node k d count : ℕ) (xs ys : List Origin) → k < length names → get_or names k d ≡ node → piece_count parts k ≡ count
    → ((o : Origin) → Contains ys o ↔ (Contains xs o ⊎ ((o.part ≡ k) × (o.piece < count))))
    → ((o : Origin) → Contains xs o ↔ IsPieceBelow parts names node k o) → (o : Origin) → Contains ys o ↔ IsPieceBelow parts names node (k + 1) o
pieces_more parts names node k d count xs ys lt named many add is o = (
  λ c. ⊎_elim {C = IsPieceBelow parts names node (k + 1) o}
      (λ old. let b = (is o).0 old in (let less = b.0 in omega (arith, less), b.1, b.2))
      (λ new. let e = new.0 in let few = new.1 in (
        omega (arith, e),
        subst (IsInNode names node) (sym e) (slice_get-get_or names k d lt ∙ ap Some named),
        let here_many = ap (piece_count parts) e in omega (arith, few, many, here_many),
      ))
      ((add o).0 c),
  λ h. (add o).1 (⊎_elim {C = Contains xs o ⊎ ((o.part ≡ k) × (o.piece < count))}
      (λ e. inr (e, let few = h.2 in let here_many = ap (piece_count parts) e in omega (arith, few, many, here_many)))
      (λ ne. inl ((is o).1 (let less = h.0 in omega (arith, less, ne), h.1, h.2))) (cases_eq o.part k)),
)

pub pieces_same : (parts : List Part) (names : List ℕ) (node k d : ℕ) (xs : List Origin) → (get_or names k d ≡ node → ⊥)
    → ((o : Origin) → Contains xs o ↔ IsPieceBelow parts names node k o) → (o : Origin) → Contains xs o ↔ IsPieceBelow parts names node (k + 1) o
pieces_same parts names node k d xs off is o = (
  λ c. let b = (is o).0 c in (let less = b.0 in omega (arith, less), b.1, b.2),
  λ h. ⊎_elim {C = Contains xs o}
      (λ e. absurd (off (get_or_from_slice_get names k node d (subst (IsInNode names node) e h.1))))
      (λ ne. (is o).1 (let less = h.0 in omega (arith, less, ne), h.1, h.2)) (cases_eq o.part k),
)

pub pieces_end : (parts : List Part) (names : List ℕ) (node k : ℕ) (xs : List Origin) → length names ≤ k
    → ((o : Origin) → Contains xs o ↔ IsPieceBelow parts names node k o) → (o : Origin) → Contains xs o ↔ (IsInNode names node o.part × (o.piece < piece_count parts o.part))
pieces_end parts names node k xs le is o = (
  λ c. let b = (is o).0 c in (b.1, b.2),
  λ h. (is o).1 (let lt = place_within names o.part node h.0 in omega (arith, lt, le), h.0, h.1),
)

pub pieces_none : (parts : List Part) (names : List ℕ) (node : ℕ) (xs : List Origin) → xs ≡ [] → (o : Origin) → Contains xs o ↔ IsPieceBelow parts names node 0 o
pieces_none parts names node xs e o = (
  λ c. absurd (none (subst (λ (zs : List Origin). Contains zs o) e c)),
  λ h. absurd (let lt = h.0 in omega (arith, lt)),
)
  where
    none : Contains [] o → ⊥
    none (k, lt, e) = absurd (omega (arith, lt))

pub origins_are : (parts : List Part) (names : List ℕ) (node : ℕ) (xs : List Origin) → length xs < 2 ^ 32
    → ((o : Origin) → Contains xs o ↔ (IsInNode names node o.part × (o.piece < piece_count parts o.part))) → AreOrigins parts names node xs
origins_are parts names node xs few is = record {
  each = All-from_members (λ (o : Origin). IsInNode names node o.part × (o.piece < piece_count parts o.part)) xs (λ o c. (is o).0 c);
  all = λ p i of lt. (is (record { part = p; piece = i })).1 (of, lt);
  few = few;
}

-- ---- copies

-- the piece from which an origin came
abbrev pub piece_of : List Part → Origin → Option (List V3)
piece_of parts o = piece_at parts o.part o.piece

pub copies_more : (parts : List Part) (os : List Origin) (i : ℕ) (d : Origin) (xs : List (List V3)) (p : List V3) → i < length os
    → piece_of parts (get_or os i d) ≡ Some p → map (piece_of parts) (take i os) ≡ map Some xs → map (piece_of parts) (take (i + 1) os) ≡ map Some (xs ++ p ∷ [])
copies_more parts os i d xs p lt is before =
    ap (map (piece_of parts)) (take_more os i d lt) ∙ map-append (piece_of parts) (take i os) (get_or os i d ∷ [])
    ∙ ap (λ (l : List (Option (List V3))). l ++ piece_of parts (get_or os i d) ∷ []) before ∙ ap (λ (o : Option (List V3)). map Some xs ++ o ∷ []) is
    ∙ sym (map-append Some xs (p ∷ []))

pub piece_read : (parts : List Part) (a i : ℕ) (part : Part) (p d : List V3) → a < length parts → part ≡ get_or parts a part → i < length part.pieces → p ≡ get_or part.pieces i d → piece_at parts a i ≡ Some p
piece_read parts a i part p d lt is i_lt p_is =
    ap (option_and_then (λ (q : Part). slice_get q.pieces i)) (slice_get-get_or parts a part lt ∙ ap Some (sym is)) ∙ slice_get-get_or part.pieces i d i_lt ∙ ap Some (sym p_is)

-- a part that has a piece
count_in : (parts : List Part) (a i : ℕ) → i < piece_count parts a → (part : Part) × (slice_get parts a ≡ Some part) × (i < length part.pieces)
count_in parts a i lt = go (slice_get parts a) refl
  where
    go : (o : Option Part) → slice_get parts a ≡ o → (part : Part) × (slice_get parts a ≡ Some part) × (i < length part.pieces)
    go None is =
        let none : piece_count parts a ≡ 0 = ap (λ (q : Option Part). unwrap_or (option_map (λ (part : Part). length part.pieces) q) 0) is in
        absurd (omega (arith, lt, none))
    go (Some part) is =
        let many : piece_count parts a ≡ length part.pieces = ap (λ (q : Option Part). unwrap_or (option_map (λ (r : Part). length r.pieces) q) 0) is in
        (part, is, omega (arith, lt, many))

pub copied_read : (parts : List Part) (a i : ℕ) (part : Part) (pieces : List (List V3)) (p copy : List V3) → i < piece_count parts a → part ≡ get_or parts a part → pieces ≡ part.pieces → p ≡ get_or pieces i p → copy ≡ p
    → piece_at parts a i ≡ Some copy
copied_read parts a i part pieces p copy lt is slice p_is same =
    let (own, at, own_lt) = count_in parts a i lt in
    let e : own ≡ part = sym (is ∙ get_or_from_slice_get parts a own part at) in
    let i_lt : i < length part.pieces = subst (λ (q : Part). i < length q.pieces) e own_lt in
    piece_read parts a i part p p (place_within parts a own at) is i_lt (p_is ∙ ap (λ (l : List (List V3)). get_or l i p) slice) ∙ ap Some (sym same)

-- so many at the place k
pub count_read : (parts : List Part) (k : ℕ) (part : Part) (pieces : List (List V3)) → k < length parts → part ≡ get_or parts k part → pieces ≡ part.pieces → piece_count parts k ≡ length pieces
count_read parts k part pieces lt is slice =
    ap (λ (q : Option Part). unwrap_or (option_map (λ (r : Part). length r.pieces) q) 0) (slice_get-get_or parts k part lt ∙ ap Some (sym is)) ∙ ap (λ (l : List (List V3)). length l) (sym slice)

-- the origins of all nodes are of pieces that exist
pub all_exist : (parts : List Part) (names heads : List ℕ) (all : List (List Origin)) → AllZip (AreOrigins parts names) heads all → All (All (λ (o : Origin). o.piece < piece_count parts o.part)) all
all_exist parts names heads all zip = All-from_members (All (λ (o : Origin). o.piece < piece_count parts o.part)) all (λ os c.
    let (k, at) = place_of all os c in
    let (n, _, of) = zip_back (AreOrigins parts names) heads all k os zip at in
    All-weaker (λ (o : Origin). IsInNode names n o.part × (o.piece < piece_count parts o.part)) (λ (o : Origin). o.piece < piece_count parts o.part) (λ o h. h.1) os of.each)
