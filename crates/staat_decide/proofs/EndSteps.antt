-- Pieces and pairs of pieces that are listed one after the other.
use Rattle.std.proofs.Common.{◌≡◌, ◌⊎◌, ℕ, ◌+◌, ◌<◌, ◌≤◌, ⊎_elim, List, [], ◌∷◌, ◌++◌, Contains, ap, arith, get_or, length, subst, sym, ◌∙◌}
use Rattle.std.specs.Prelude.{Option, Some, option_map, unwrap_or}
use Rattle.std.proofs.lemmas.Option.{slice_get-get_or}
use Rattle.staat_vec.specs.declared.vector.V3.{V3}
use Rattle.staat_model.specs.declared.assembly.Part.{Part}
use Rattle.staat_model.specs.declared.certificate.Arc.{Arc}
use Rattle.staat_model.specs.Assemblies.{piece_count}
use Rattle.staat_decide.specs.Ends.{arc_between}
use Rattle.std.proofs.lemmas.List.Elements.{Contains-append_left, Contains-push}
use Rattle.staat_decide.specs.declared.every.End.{End}
use Rattle.staat_vec.proofs.ListLaws.{any_default}

below_or : (n k : ℕ) → k < n + 1 → (k ≡ n) ⊎ (k < n)
below_or n k lt = grind arith

-- what is listed stays so
pub stays : {X : Type 0} (xs ys : List X) (x y : X) → ys ≡ xs ++ x ∷ [] → Contains xs y → Contains ys y
stays xs ys x y e h = subst (λ (zs : List _). Contains zs y) (sym e) (Contains-append_left xs (x ∷ []) y h)

-- and what is put at the end is listed
pub comes : {X : Type 0} (xs ys : List X) (x : X) → ys ≡ xs ++ x ∷ [] → Contains ys x
comes xs ys x e = subst (λ (zs : List _). Contains zs x) (sym e) (Contains-push xs x)

-- one more piece of a part
pub piece_more : (xs ys : List End) (part n : ℕ) → ys ≡ xs ++ record { part = part; piece = n } ∷ []
    → ((i : ℕ) → i < n → Contains xs (record { part = part; piece = i }))
    → (i : ℕ) → i < n + 1 → Contains ys (record { part = part; piece = i })
piece_more xs ys part n e all i lt = ⊎_elim {C = Contains ys (record { part = part; piece = i })}
    (λ same. subst (λ m. Contains ys (record { part = part; piece = m })) (sym same) (comes xs ys (record { part = part; piece = n }) e))
    (λ less. stays xs ys (record { part = part; piece = n }) (record { part = part; piece = i }) e (all i less))
    (below_or n i lt)

-- what holds below a place, and at it, holds below the next
pub place_more : (P : ℕ → Type 0) (n : ℕ) → ((k : ℕ) → k < n → P k) → P n → (k : ℕ) → k < n + 1 → P k
place_more P n all last k lt = ⊎_elim {C = P k} (λ same. subst P (sym same) last) (λ less. all k less) (below_or n k lt)

-- ---- pairs

module _ (P : Arc → Type 0) (first : End) (ends : List End) (xs : List Arc) (i : ℕ) (d : End) (x : Arc) (lt : i < length ends)
    (is : x ≡ arc_between first (get_or ends i d))
    (before : (k : ℕ) → k < i → (e : End) → P (arc_between first (get_or ends k e)) → Contains xs (arc_between first (get_or ends k e))) where
  same : (e : End) → x ≡ arc_between first (get_or ends i e)
  same e = is ∙ ap (arc_between first) (any_default ends i d e lt)

  pub pair_comes : (k : ℕ) → k < i + 1 → (e : End) → P (arc_between first (get_or ends k e)) → Contains (xs ++ x ∷ []) (arc_between first (get_or ends k e))
  pair_comes = place_more (λ k. (e : End) → P (arc_between first (get_or ends k e)) → Contains (xs ++ x ∷ []) (arc_between first (get_or ends k e))) i
      (λ k less e core. Contains-append_left xs (x ∷ []) (arc_between first (get_or ends k e)) (before k less e core))
      (λ e core. subst (Contains (xs ++ x ∷ [])) (same e) (Contains-push xs x))

  pub pair_passed : (P x → ⊥) → (k : ℕ) → k < i + 1 → (e : End) → P (arc_between first (get_or ends k e)) → Contains xs (arc_between first (get_or ends k e))
  pair_passed off = place_more (λ k. (e : End) → P (arc_between first (get_or ends k e)) → Contains xs (arc_between first (get_or ends k e))) i
      before
      (λ e core. absurd (off (subst P (sym (same e)) core)))

pub pairs_more : (P : Arc → Type 0) (ends : List End) (xs ys : List Arc) (i : ℕ) (d : End) → i < length ends
    → ((pair : Arc) → Contains xs pair → Contains ys pair)
    → ((q : End) → Contains ends q → P (arc_between (get_or ends i d) q) → Contains ys (arc_between (get_or ends i d) q))
    → ((k : ℕ) → k < i → (e q : End) → Contains ends q → P (arc_between (get_or ends k e) q) → Contains xs (arc_between (get_or ends k e) q))
    → (k : ℕ) → k < i + 1 → (e q : End) → Contains ends q → P (arc_between (get_or ends k e) q) → Contains ys (arc_between (get_or ends k e) q)
pairs_more P ends xs ys i d lt kept each before =
    place_more (λ k. (e q : End) → Contains ends q → P (arc_between (get_or ends k e) q) → Contains ys (arc_between (get_or ends k e) q)) i
    (λ k less e q q_in core. kept (arc_between (get_or ends k e) q) (before k less e q q_in core))
    (λ e q q_in core. subst (λ (p : End). Contains ys (arc_between p q)) (any_default ends i d e lt)
    (each q q_in (subst (λ (p : End). P (arc_between p q)) (any_default ends i e d lt) core)))

-- ---- pieces of a part

pub count_at : (parts : List Part) (a : ℕ) (part : Part) → a < length parts → part ≡ get_or parts a part
    → piece_count parts a ≡ length part.pieces
count_at parts a part lt is =
    ap (λ (o : Option Part). unwrap_or (option_map (λ p. length p.pieces) o) 0) (slice_get-get_or parts a part lt ∙ ap Some (sym is))

pub ends_more : (parts : List Part) (w : List ℕ) (xs ys : List End) (i count : ℕ) (part : Part) (pieces : List (List V3)) → get_or w i 0 < length parts
    → part ≡ get_or parts (get_or w i 0) part → pieces ≡ part.pieces → count ≡ length pieces
    → ((e : End) → Contains xs e → Contains ys e)
    → ((j : ℕ) → j < count → Contains ys (record { part = get_or w i 0; piece = j }))
    → ((k : ℕ) → k < i → (j : ℕ) → j < piece_count parts (get_or w k 0) → Contains xs (record { part = get_or w k 0; piece = j }))
    → (k : ℕ) → k < i + 1 → (j : ℕ) → j < piece_count parts (get_or w k 0) → Contains ys (record { part = get_or w k 0; piece = j })
ends_more parts w xs ys i count part pieces in' at slice is kept each before =
    place_more (λ k. (j : ℕ) → j < piece_count parts (get_or w k 0) → Contains ys (record { part = get_or w k 0; piece = j })) i
    (λ k less j small. kept (record { part = get_or w k 0; piece = j }) (before k less j small))
    (λ j small. each j (let e : piece_count parts (get_or w i 0) ≡ count = count_at parts (get_or w i 0) part in' at ∙ ap (λ (ps : List (List V3)). length ps) (sym slice) ∙ sym is in omega (arith, small, e)))

pub ends_all : (parts : List Part) (w : List ℕ) (ends : List End) (n : ℕ) → length w ≤ n
    → ((k : ℕ) → k < n → (j : ℕ) → j < piece_count parts (get_or w k 0) → Contains ends (record { part = get_or w k 0; piece = j }))
    → (p j : ℕ) → Contains w p → j < piece_count parts p → Contains ends (record { part = p; piece = j })
ends_all parts w ends n le all p j (k, lt, e) small =
    let own : get_or w k 0 ≡ p = any_default w k 0 p lt ∙ e in
    subst (λ q. Contains ends (record { part = q; piece = j })) own
    (all k (omega (arith, lt, le)) j (subst (λ q. j < piece_count parts q) (sym own) small))
