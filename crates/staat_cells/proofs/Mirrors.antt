-- Incidences and their mirror images in order; and the mirror images of what has a property.
use Rattle.std.proofs.Common.{◌≡◌, ◌≢◌, ℕ, ◌∙◌, sym, ap, subst, ◌⊎◌, inl, inr, ⊎_elim, ◌-◌, ◌<◌, ◌≤◌}
use Rattle.std.proofs.Common.{refl, arith, List, [], ◌∷◌, ◌++◌, map, reverse, Contains}
use Rattle.std.specs.Ordering.{nat_cmp, ordering_reverse}
use Rattle.std.specs.declared.cmp.Ordering.{Ordering}
use Rattle.std.specs.declared.cmp.Ordering.TheVariants.{Less, Equal, Greater}
use Rattle.std.specs.Cmp.{nat_cmp_is}
use Rattle.std.specs.List.Sorted.{IsStrictlySortedBy}
use Rattle.std.proofs.lemmas.List.{map_push, reverse-append}
use Rattle.std.proofs.lemmas.List.Elements.{All-contains, All-from_recursion, Contains-append_cases}
use Rattle.std.proofs.lemmas.List.Elements.{Contains-append_left, Contains-append_right}
use Rattle.std.proofs.lemmas.List.Sorted.{Contains-permutation, IsPermutation-reverse, IsPermutation-sym}
use Rattle.staat_vec.specs.Lists.{Lists}
use Rattle.staat_vec.proofs.ListLaws.{Contains-from_map, Contains-map}
use Rattle.staat_vec.proofs.Naturals.{trichotomy}
use Rattle.staat_vec.proofs.Unique.{Contains-front, Contains-later}
use Rattle.staat_cells.specs.declared.incidence.Incidence.{Incidence}
use Rattle.staat_cells.specs.Mirrors.{lesser, mirrored}
use Rattle.staat_cells.specs.Packing.{incidence_cmp}
use Rattle.staat_cells.proofs.IncidenceOrder.{incidence_exact, incidence_total}
use Rattle.staat_cells.proofs.SignOrder.{sorted_join, sorted_push}

-- ---- a list from the last member on, each of which gives way to its image

module _ {X : Type 0} (f : X → X) where
  pub image_of : (xs : List X) (y : X) → Contains (map f (reverse xs)) y → (x : X) × Contains xs x × (f x ≡ y)
  image_of xs y c =
      let (x, x_in, e) = Contains-from_map f (reverse xs) y c in
      (x, Contains-permutation (reverse xs) xs x (IsPermutation-sym xs (reverse xs) (IsPermutation-reverse xs)) x_in, e)

  pub image_in : (xs : List X) (x : X) → Contains xs x → Contains (map f (reverse xs)) (f x)
  image_in xs x c = Contains-map f (reverse xs) x (Contains-permutation xs (reverse xs) x (IsPermutation-reverse xs) c)

  pub images_ascend : (cmp : X → X → Ordering) (xs : List X) → IsStrictlySortedBy cmp xs
      → ((x y : X) → Contains xs x → Contains xs y → cmp x y ≡ Less → cmp (f y) (f x) ≡ Less)
      → IsStrictlySortedBy cmp (map f (reverse xs))
  unfolding IsStrictlySortedBy
  images_ascend cmp [] sorted turns = tt
  images_ascend cmp (x ∷ xs) sorted turns =
      subst (IsStrictlySortedBy cmp) (sym (ap (map f) (reverse-append (x ∷ []) xs) ∙ map_push f (reverse xs) x))
      (sorted_push cmp (map f (reverse xs)) (f x)
      (images_ascend cmp xs sorted.1 (λ y z y_in z_in. turns y z (Contains-later x xs y y_in) (Contains-later x xs z z_in)))
      (λ z c. let (y, y_in, e) = image_of xs z c in
      subst (λ w. cmp w (f x) ≡ Less) e (turns x y (Contains-front x xs) (Contains-later x xs y y_in)
      (All-contains (λ w. cmp x w ≡ Less) xs y (All-from_recursion (λ w. cmp x w ≡ Less) xs sorted.0) y_in))))

-- ---- mirror images of incidences

pub nat_mirror : (s x y : ℕ) → x ≤ s → y ≤ s → nat_cmp (s - x) (s - y) ≡ nat_cmp y x
nat_mirror s x y up_x up_y = by_order (trichotomy y x)
  where
    by_order : (y < x) ⊎ ((y ≡ x) ⊎ (x < y)) → nat_cmp (s - x) (s - y) ≡ nat_cmp y x
    by_order (inl lt) = sym (nat_cmp_is (s - x) (s - y) Less (omega arith)) ∙ nat_cmp_is y x Less lt
    by_order (inr (inl e)) = sym (nat_cmp_is (s - x) (s - y) Equal (omega arith)) ∙ nat_cmp_is y x Equal e
    by_order (inr (inr gt)) = sym (nat_cmp_is (s - x) (s - y) Greater (omega arith)) ∙ nat_cmp_is y x Greater gt

turned_back : (x y : Incidence) → incidence_cmp x y ≡ Greater → incidence_cmp y x ≡ Less
turned_back x y e = incidence_total.antisymm y x ∙ ap ordering_reverse e

module _ (sum : Incidence) (P : Incidence → Type 0) where
  -- the mirror image of x has P and is not x, and x is its mirror image
  pub record IsMirrored (x : Incidence) : Type 0 where
    pub image : P (mirrored sum x)
    pub back : mirrored sum (mirrored sum x) ≡ x
    pub other : x ≢ mirrored sum x

  module _ (mirrors : (x : Incidence) → P x → IsMirrored x)
      (turns : (x y : Incidence) → P x → P y → incidence_cmp (mirrored sum x) (mirrored sum y) ≡ incidence_cmp y x) where
    -- x has P, and comes before its mirror image
    record IsLow (x : Incidence) : Type 0 where
      pub has : P x
      pub before : incidence_cmp x (mirrored sum x) ≡ Less

    -- the lesser of y and its mirror image
    lesser_is : (y : Incidence) → P y → IsLow (lesser sum y) × ((lesser sum y ≡ y) ⊎ (lesser sum y ≡ mirrored sum y))
    lesser_is y p = by_order (incidence_cmp y (mirrored sum y)) refl
      where
        IsFound : Incidence → Type 0
        IsFound z = IsLow z × ((z ≡ y) ⊎ (z ≡ mirrored sum y))

        by_order : (o : Ordering) → incidence_cmp y (mirrored sum y) ≡ o → IsFound (lesser sum y)
        by_order Less e = subst IsFound (let is : y ≡ lesser sum y = rw e refl in is) (record { has = p; before = e }, inl refl)
        by_order Equal e = absurd ((mirrors y p).other (incidence_exact y (mirrored sum y) e))
        by_order Greater e =
            let m = mirrors y p in
            let before = ap (incidence_cmp (mirrored sum y)) m.back ∙ turned_back y (mirrored sum y) e in
            subst IsFound (let is : mirrored sum y ≡ lesser sum y = rw e refl in is) (record { has = m.image; before = before }, inr refl)

    -- what is low comes before all mirror images of what is
    below_images : (x z : Incidence) → IsLow x → IsLow z → incidence_cmp x (mirrored sum z) ≡ Less
    below_images x z x_low z_low = by_order (incidence_cmp x z) refl
      where
        by_order : (o : Ordering) → incidence_cmp x z ≡ o → incidence_cmp x (mirrored sum z) ≡ Less
        by_order Less e = incidence_total.trans x z (mirrored sum z) e z_low.before
        by_order Equal e = ap (λ w. incidence_cmp w (mirrored sum z)) (incidence_exact x z e) ∙ z_low.before
        by_order Greater e = incidence_total.trans x (mirrored sum x) (mirrored sum z) x_low.before (turns x z x_low.has z_low.has ∙ turned_back x z e)

    -- the lesser of what was found, and then their mirror images, where of each two images with P one was found
    pub mirrors_listed : (found half : List Incidence) → ((x : Incidence) → Contains found x → P x)
        → ((x : Incidence) → P x → Contains found x ⊎ Contains found (mirrored sum x))
        → Lists incidence_cmp (Contains (map (lesser sum) found)) half → Lists incidence_cmp P (half ++ map (mirrored sum) (reverse half))
    mirrors_listed found half have one lists = record {
      ascending = sorted_join incidence_cmp half images lists.ascending
          (images_ascend (mirrored sum) incidence_cmp half lists.ascending (λ x y x_in y_in e. turns y x (low y y_in).has (low x x_in).has ∙ e))
          (λ x y x_in y_in. let (z, z_in, e) = image_of (mirrored sum) half y y_in in
          subst (λ w. incidence_cmp x w ≡ Less) e (below_images x z (low x x_in) (low z z_in)));
      each = λ x c. ⊎_elim {C = P x} (λ h. (low x h).has)
          (λ h. let (z, z_in, e) = image_of (mirrored sum) half x h in subst P e (mirrors z (low z z_in).has).image)
          (Contains-append_cases half images x c);
      all = λ x p. ⊎_elim {C = In x} (λ h. (both x h).0) (λ h. subst In (mirrors x p).back (both (mirrored sum x) h).1) (one x p);
    }
      where
        images : List Incidence
        images = map (mirrored sum) (reverse half)

        In : Incidence → Type 0
        In = Contains (half ++ images)

        low : (x : Incidence) → Contains half x → IsLow x
        low x c =
            let (y, y_in, e) = Contains-from_map (lesser sum) found x (lists.each x c) in
            subst IsLow e (lesser_is y (have y y_in)).0

        both : (y : Incidence) → Contains found y → In y × In (mirrored sum y)
        both y y_in =
            let z = lesser sum y in
            let z_in = lists.all z (Contains-map (lesser sum) found y y_in) in
            let early = Contains-append_left half images z z_in in
            let late = Contains-append_right half images (mirrored sum z) (image_in (mirrored sum) half z z_in) in
            ⊎_elim {C = In y × In (mirrored sum y)} (λ e. (subst In e early, subst (λ w. In (mirrored sum w)) e late))
            (λ e. (subst In (ap (mirrored sum) e ∙ (mirrors y (have y y_in)).back) late, subst In e early)) (lesser_is y (have y y_in)).1
