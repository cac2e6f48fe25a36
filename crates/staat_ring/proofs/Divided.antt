-- Entries that are divided by the ends of stops, and their opposites after them.
use Rattle.std.proofs.Common.{◌≡◌, ℕ, zero, suc, ◌+◌, ◌-◌, ◌<◌, ◌≤◌, arith, ap, sym, subst, ◌∙◌, refl, List, [], ◌∷◌, ◌++◌, length, get_or, map, take, drop}
use Rattle.std.specs.List.{between}
use Rattle.std.proofs.lemmas.List.{append_assoc, drop-drop, drop-map, drop_at, get_or_read, length-append, length-map, take-append-le, take-map, get_or_append_left, map_more}
use Rattle.std.proofs.lemmas.Slice.{between_is}
use Rattle.staat_ring.specs.declared.entry.Entry.{Entry}
use Rattle.staat_ring.specs.Builds.{AreStopsFrom, all_around, opposite, stops_from}

-- ---- the ends

pub end_within : (start n k : ℕ) (ends : List ℕ) → AreStopsFrom start n ends → k < length ends → get_or ends k 0 ≤ n
end_within start n k [] are lt = absurd (omega arith)
end_within start n zero (end ∷ []) are lt = are.1
end_within start n zero (end ∷ next ∷ ends) are lt = let le = end_within end n zero (next ∷ ends) are.1 (omega arith) in let l = are.1.0 in omega (arith, le, l)
end_within start n (suc k) (end ∷ ends) are lt = end_within end n k ends are.1 (omega arith)

pub end_rises : (start n k : ℕ) (ends : List ℕ) → AreStopsFrom start n ends → k < length ends → get_or (start ∷ ends) k 0 ≤ get_or ends k 0
end_rises start n k [] are lt = absurd (omega arith)
end_rises start n zero (end ∷ ends) are lt = are.0
end_rises start n (suc k) (end ∷ ends) are lt = end_rises end n k ends are.1 (omega arith)

-- the ends of n more entries, by which the first ones end
later : (n start m : ℕ) (ends : List ℕ) → AreStopsFrom start m ends → AreStopsFrom (n + start) (n + m) (map (λ end. n + end) ends)
later n start m [] are = omega (arith, are)
later n start m (end ∷ ends) are = ((let l = are.0 in omega (arith, l)), later n end m ends are.1)

followed : (start n m : ℕ) (front ends : List ℕ) → AreStopsFrom start n (front ++ n ∷ []) → AreStopsFrom n m ends → AreStopsFrom start m (front ++ n ∷ ends)
followed start n m [] ends are more = (are.0, more)
followed start n m (end ∷ front) ends are more = (are.0, followed end n m front ends are.1 more)

-- ---- the stops

pub length-stops : (start : ℕ) (ends : List ℕ) (es : List Entry) → length (stops_from start ends es) ≡ length ends
length-stops start [] es = refl
length-stops start (end ∷ ends) es = ap suc (length-stops end ends es)

pub stop_at : (start k : ℕ) (ends : List ℕ) (es : List Entry) → k < length ends → get_or (stops_from start ends es) k [] ≡ between (get_or (start ∷ ends) k 0) (get_or ends k 0) es
stop_at start k [] es lt = absurd (omega arith)
stop_at start zero (end ∷ ends) es lt = refl
stop_at start (suc k) (end ∷ ends) es lt = stop_at end k ends es (omega arith)

-- a stop by its two places, as they are read
module _ (ends seen : List ℕ) (es : List Entry) (stops : List (List Entry)) (is : stops_from 0 ends es ≡ stops) (are : AreStopsFrom 0 (length es) ends)
    (k start end : ℕ) (same : seen ≡ ends) (start_is : start ≡ get_or (0 ∷ seen) k 0) (end_is : end ≡ get_or ends k end) (within : k < length stops) where
  pub there : k < length ends
  there = let a = length-stops 0 ends es in let b = ap length is in omega (arith, a, b, within)

  from : start ≡ get_or (0 ∷ ends) k 0
  from = start_is ∙ ap (λ l. get_or (0 ∷ l) k 0) same

  to : end ≡ get_or ends k 0
  to = get_or_read ends k end there end_is 0

  pub in_order : start ≤ end
  in_order = let r = end_rises 0 (length es) k ends are there in let a = from in let b = to in omega (arith, r, a, b)

  pub in_entries : end ≤ length es
  in_entries = let r = end_within 0 (length es) k ends are there in let b = to in omega (arith, r, b)

  pub part_is : (xs : List Entry) → xs ≡ es → between start end xs ≡ get_or stops k []
  part_is xs e = (λ i. between (from i) (to i) (e i)) ∙ (sym (stop_at 0 k ends es there) ∙ ap (λ l. get_or l k []) is)

-- ---- with the opposites

after : (start n : ℕ) (front ends : List ℕ) (es : List Entry) → stops_from start (front ++ n ∷ ends) es ≡ stops_from start (front ++ n ∷ []) es ++ stops_from n ends es
after start n [] ends es = refl
after start n (end ∷ front) ends es = ap (λ l. between start end es ∷ l) (after end n front ends es)

drop_first : (n : ℕ) (xs ys : List Entry) → drop (length xs + n) (xs ++ ys) ≡ drop n ys
drop_first n xs ys = sym (drop-drop n (length xs) (xs ++ ys)) ∙ ap (drop n) (drop_at xs ys (length xs) refl)

first_stops : (start : ℕ) (ends : List ℕ) (es more : List Entry) → AreStopsFrom start (length es) ends → stops_from start ends (es ++ more) ≡ stops_from start ends es
first_stops start [] es more are = refl
first_stops start (end ∷ ends) es more are = λ i. here i ∷ first_stops end ends es more are.1 i
  where
    here : between start end (es ++ more) ≡ between start end es
    here = between_is (es ++ more) start end ∙ (ap (drop start) (take-append-le end es more (end_within start (length es) 0 (end ∷ ends) are (omega arith))) ∙ sym (between_is es start end))

later_stops : (start : ℕ) (ends : List ℕ) (es more : List Entry) → stops_from (length es + start) (map (λ end. length es + end) ends) (es ++ more) ≡ stops_from start ends more
later_stops start [] es more = refl
later_stops start (end ∷ ends) es more = λ i. here i ∷ later_stops end ends es more i
  where
    count : length es + end - (length es + start) ≡ end - start
    count = omega arith

    here : between (length es + start) (length es + end) (es ++ more) ≡ between start end more
    here = λ i. take (count i) (drop_first start es more i)

map_between : (f : Entry → Entry) (m n : ℕ) (es : List Entry) → take m (drop n (map f es)) ≡ map f (take m (drop n es))
map_between f m n es = ap (take m) (drop-map f n es) ∙ take-map f m (drop n es)

turned_stops : (start : ℕ) (ends : List ℕ) (es : List Entry) → stops_from start ends (map opposite es) ≡ map (λ l. map opposite l) (stops_from start ends es)
turned_stops start [] es = refl
turned_stops start (end ∷ ends) es = λ i. map_between opposite (end - start) start es i ∷ turned_stops end ends es i

module _ (es : List Entry) (front ends : List ℕ) (last : ends ≡ front ++ length es ∷ []) (are : AreStopsFrom 0 (length es) ends) where
  abbrev all_entries : List Entry
  all_entries = es ++ map opposite es

  abbrev all_ends : List ℕ
  all_ends = ends ++ map (λ end. length es + end) ends

  abbrev more : List ℕ
  more = map (λ end. length es + end) ends

  split : all_ends ≡ front ++ length es ∷ more
  split = ap (λ l. l ++ more) last ∙ append_assoc front (length es ∷ []) more

  none : length es + 0 ≡ length es
  none = omega arith

  pub around_are : AreStopsFrom 0 (length all_entries) all_ends
  around_are = subst (AreStopsFrom 0 (length all_entries)) (sym split)
      (followed 0 (length es) (length all_entries) front more (subst (AreStopsFrom 0 (length es)) last are)
      (subst (λ n. AreStopsFrom (length es) n more) (sym (length-append es (map opposite es) ∙ ap (λ n. length es + n) (length-map es opposite)))
      (subst (λ n. AreStopsFrom n (length es + length es) more) none (later (length es) 0 (length es) ends are))))

  pub around_is : stops_from 0 all_ends all_entries ≡ all_around (stops_from 0 ends es)
  around_is = ap (λ l. stops_from 0 l all_entries) split ∙ (after 0 (length es) front more all_entries ∙ (λ i. first i ++ second i))
    where
      first : stops_from 0 (front ++ length es ∷ []) all_entries ≡ stops_from 0 ends es
      first = ap (λ l. stops_from 0 l all_entries) (sym last) ∙ first_stops 0 ends es (map opposite es) are

      second : stops_from (length es) more all_entries ≡ map (λ l. map opposite l) (stops_from 0 ends es)
      second = ap (λ n. stops_from n more all_entries) (sym none) ∙ (later_stops 0 ends es (map opposite es) ∙ turned_stops 0 ends es)

-- ---- a list that gets the images of its first items at its end

module _ {X : Type 0} (f : X → X) (half old : List X) (k : ℕ) (is : old ≡ half ++ map f (take k half)) where
  pub image_at : (x : X) → k < length half → x ≡ get_or old k x → x ≡ get_or half k x
  image_at x lt at = at ∙ ap (λ l. get_or l k x) is ∙ get_or_append_left half (map f (take k half)) x k lt

  pub image_more : (x : X) (new : List X) → k < length half → x ≡ get_or half k x → new ≡ old ++ f x ∷ []
      → new ≡ half ++ map f (take (k + 1) half)
  image_more x new lt at pushed =
      pushed ∙ (λ i. is i ++ f (at i) ∷ []) ∙ append_assoc half (map f (take k half)) (f (get_or half k x) ∷ [])
      ∙ ap (λ l. half ++ l) (sym (map_more f half k x lt))
