-- The directions of a certificate are the vertices.
use Rattle.std.proofs.Common.{◌≡◌, ◌≢◌, ◌⊎◌, inl, inr, ⊎_elim, ℕ, ◌+◌, ◌≤◌, sym, subst, ◌∙◌, List, [], ◌∷◌, ◌++◌, length, drop, Contains}
use Rattle.std.specs.Prelude.{Some, slice_get}
use Rattle.std.proofs.lemmas.List.Elements.{Contains-append_cases, Contains-append_left, Contains-append_right, Contains-push, Contains-push_cases}
use Rattle.staat_vec.specs.declared.vector.V3.{V3}
use Rattle.staat_vec.specs.Lists.{Lists}
use Rattle.staat_vec.specs.Primitives.{IsCanon, canon, primitive}
use Rattle.staat_vec.specs.Vectors.{cross, negative, origin, vector_cmp}
use Rattle.staat_vec.proofs.Canons.{IsCanon-canon, canon-either, canon-opposite, canon-same}
use Rattle.staat_model.specs.Certify.{IsDirection}
use Rattle.staat_model.specs.Planes.{crossings, vertices}
use Rattle.staat_pairs.proofs.DropLemmas.{drop_at}
use Rattle.staat_pairs.specs.Directions.{AddsListed, IsOfVersion, ListsBehind}
use Rattle.staat_vec.proofs.Unique.{Contains-nothing, Contains-front}
use Rattle.staat_vec.proofs.VectorLists.{one_of_two}
use Rattle.staat_vec.proofs.ListLaws.{Contains-there, drop_end}

-- ---- two opposite vectors

first_of : (v : V3) → Contains (v ∷ negative v ∷ []) v
first_of v = Contains-front v (negative v ∷ [])

second_of : (v : V3) → Contains (v ∷ negative v ∷ []) (negative v)
second_of v = Contains-there v (negative v) (negative v ∷ []) (Contains-front (negative v) [])

canon_of : (v : V3) → Contains (v ∷ negative v ∷ []) (canon v)
canon_of v = ⊎_elim {C = Contains (v ∷ negative v ∷ []) (canon v)} (λ e. subst (Contains (v ∷ negative v ∷ [])) (sym e) (first_of v)) (λ e. subst (Contains (v ∷ negative v ∷ [])) (sym e) (second_of v)) (canon-either v)

is_canon : (v x : V3) → IsCanon x → (x ≡ v) ⊎ (x ≡ negative v) → canon v ≡ x
is_canon v x h (inl e) = canon-same v (subst IsCanon e h) ∙ sym e
is_canon v x h (inr e) = canon-opposite v (subst IsCanon e h) ∙ sym e

pub one_taken : (version : ℕ) (v : V3) (old new : List V3) → version ≡ 2 → v ≢ origin → new ≡ old ++ canon v ∷ [] → AddsListed version (v ∷ negative v ∷ []) old new
one_taken version v old new two some is = record {
  from = λ x c. ⊎_elim {C = Contains old x ⊎ (Contains (v ∷ negative v ∷ []) x × IsOfVersion version x)}
      (λ h. inl h)
      (λ same. inr (subst (Contains (v ∷ negative v ∷ [])) same (canon_of v), λ t. subst IsCanon same (IsCanon-canon v some)))
      (Contains-push_cases old (canon v) x (subst (λ l. Contains l x) is c));
  kept = λ x c. subst (λ l. Contains l x) (sym is) (Contains-append_left old (canon v ∷ []) x c);
  all = λ x c t. subst (λ l. Contains l x) (sym is) (subst (Contains (old ++ canon v ∷ [])) (is_canon v x (t two) (one_of_two v (negative v) x c)) (Contains-push old (canon v)));
}

pub two_taken : (version : ℕ) (v n : V3) (old between new : List V3) → version ≢ 2 → n ≡ negative v → between ≡ old ++ v ∷ [] → new ≡ between ++ n ∷ [] → AddsListed version (v ∷ negative v ∷ []) old new
two_taken version v n old between new other e first second = record {
  from = λ x c. ⊎_elim {C = Contains old x ⊎ (Contains (v ∷ negative v ∷ []) x × IsOfVersion version x)}
      (λ h. ⊎_elim {C = Contains old x ⊎ (Contains (v ∷ negative v ∷ []) x × IsOfVersion version x)}
      (λ early. inl early)
      (λ same. inr (subst (Contains (v ∷ negative v ∷ [])) same (first_of v), λ t. absurd (other t)))
      (Contains-push_cases old v x (subst (λ l. Contains l x) first h)))
      (λ same. inr (subst (Contains (v ∷ negative v ∷ [])) (sym e ∙ same) (second_of v), λ t. absurd (other t)))
      (Contains-push_cases between n x (subst (λ l. Contains l x) second c));
  kept = λ x c. later x (subst (λ l. Contains l x) (sym first) (Contains-append_left old (v ∷ []) x c));
  all = λ x c t. ⊎_elim {C = Contains new x}
      (λ same. later x (subst (λ l. Contains l x) (sym first) (subst (Contains (old ++ v ∷ [])) (sym same) (Contains-push old v))))
      (λ same. subst (λ l. Contains l x) (sym second) (subst (Contains (between ++ n ∷ [])) (e ∙ sym same) (Contains-push between n)))
      (one_of_two v (negative v) x c);
}
  where
    later : (x : V3) → Contains between x → Contains new x
    later x c = subst (λ l. Contains l x) (sym second) (Contains-append_left between (n ∷ []) x c)

-- ---- one more step, and the end

pub takes_more : (version : ℕ) (whole front rest old taken new : List V3) → ListsBehind version whole (front ++ rest) old taken → AddsListed version front taken new → ListsBehind version whole rest old new
takes_more version whole front rest old taken new so_far adds = record {
  within = λ v c. so_far.within v (Contains-append_right front rest v c);
  from = λ v c. ⊎_elim {C = Contains old v ⊎ (Contains whole v × IsOfVersion version v)}
      (λ h. so_far.from v h)
      (λ h. inr (so_far.within v (Contains-append_left front rest v h.0), h.1))
      (adds.from v c);
  kept = λ v c. adds.kept v (so_far.kept v c);
  all = λ v c t. ⊎_elim {C = Contains rest v ⊎ Contains new v}
      (λ h. ⊎_elim {C = Contains rest v ⊎ Contains new v} (λ now. inr (adds.all v now t)) (λ later. inl later) (Contains-append_cases front rest v h))
      (λ h. inr (adds.kept v h))
      (so_far.all v c t);
}

pub takes_all : (version : ℕ) (whole old taken : List V3) → ListsBehind version whole [] old taken → AddsListed version whole old taken
takes_all version whole old taken so_far = record {
  from = so_far.from;
  kept = so_far.kept;
  all = λ v c t. ⊎_elim {C = Contains taken v} (λ none. absurd (Contains-nothing v none)) (λ h. h) (so_far.all v c t);
}

-- ---- the planes

pub crossing_more : (version : ℕ) (g h v : V3) (hs old taken new : List V3) (k : ℕ) → slice_get hs k ≡ Some h → v ≡ primitive (cross g h)
    → ListsBehind version (crossings g hs) (crossings g (drop k hs)) old taken → AddsListed version (v ∷ negative v ∷ []) taken new → ListsBehind version (crossings g hs) (crossings g (drop (k + 1) hs)) old new
crossing_more version g h v hs old taken new k at e so_far adds =
    takes_more version (crossings g hs) (v ∷ negative v ∷ []) (crossings g (drop (k + 1) hs)) old taken new
    (subst (λ w. ListsBehind version (crossings g hs) (w ∷ negative w ∷ crossings g (drop (k + 1) hs)) old taken) (sym e) (subst (λ l. ListsBehind version (crossings g hs) (crossings g l) old taken) (drop_at hs k h at) so_far))
    adds

pub crossing_end : (version : ℕ) (g : V3) (hs old taken : List V3) (k : ℕ) → length hs ≤ k → ListsBehind version (crossings g hs) (crossings g (drop k hs)) old taken → AddsListed version (crossings g hs) old taken
crossing_end version g hs old taken k le so_far = takes_all version (crossings g hs) old taken (subst (λ l. ListsBehind version (crossings g hs) (crossings g l) old taken) (drop_end hs k le) so_far)

pub plane_more : (version : ℕ) (g : V3) (gs behind old taken new : List V3) (k : ℕ) → slice_get gs k ≡ Some g → behind ≡ drop (k + 1) gs
    → ListsBehind version (vertices gs) (vertices (drop k gs)) old taken → AddsListed version (crossings g behind) taken new → ListsBehind version (vertices gs) (vertices (drop (k + 1) gs)) old new
plane_more version g gs behind old taken new k at e so_far adds =
    takes_more version (vertices gs) (crossings g (drop (k + 1) gs)) (vertices (drop (k + 1) gs)) old taken new
    (subst (λ l. ListsBehind version (vertices gs) (vertices l) old taken) (drop_at gs k g at) so_far)
    (subst (λ l. AddsListed version (crossings g l) taken new) e adds)

pub directions_are : (version : ℕ) (gs taken ds : List V3) (k : ℕ) → length gs ≤ k → ListsBehind version (vertices gs) (vertices (drop k gs)) [] taken → Lists vector_cmp (Contains taken) ds → Lists vector_cmp (IsDirection version gs) ds
directions_are version gs taken ds k le so_far lists =
    let adds = takes_all version (vertices gs) [] taken (subst (λ l. ListsBehind version (vertices gs) (vertices l) [] taken) (drop_end gs k le) so_far) in
    record {
      ascending = lists.ascending;
      each = λ v c. ⊎_elim {C = IsDirection version gs v} (λ none. absurd (Contains-nothing v none)) (λ h. record { vertex = h.0; canonical = h.1 }) (adds.from v (lists.each v c));
      all = λ v d. lists.all v (adds.all v d.vertex d.canonical);
    }
