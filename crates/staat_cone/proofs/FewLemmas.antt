-- Few of the differences of two pieces, and what is known of the facets of their cone while they grow.
use Rattle.std.proofs.Common.{◌≡◌, ◌↔◌, ℕ, zero, suc, ◌-◌, ◌<◌, refl, take, None, IsSome, ◌⊎◌, inl, inr, ⊎_elim, sym, ap, subst, ◌∙◌, arith, ℤ, pos, ◌-ℤ◌, ◌*ℤ◌, ◌<ℤ◌, List, [], ◌∷◌, ◌++◌, All, Contains}
use Rattle.std.proofs.lemmas.Int.{ints}
use Rattle.std.proofs.lemmas.List.Elements.{All-contains, All-push, Contains-append_left, Contains-push, Contains-push_cases}
use Rattle.staat_vec.specs.declared.vector.V3.{V3}
use Rattle.staat_vec.specs.declared.vector.TheConstants.{DIFF}
use Rattle.staat_vec.specs.Vectors.{IsWithin, dot, minus}
use Rattle.staat_vec.proofs.Unique.{Contains-nothing}
use Rattle.staat_vec.specs.Primitives.{IsPrimitiveOf}
use Rattle.staat_vec.proofs.Order.{nonneg_is, nonneg_mul, nonneg_pos}
use Rattle.staat_vec.proofs.Primitives.{primitive-only}
use Rattle.staat_vec.proofs.VecRing.{dot_comm}
use Rattle.staat_model.specs.Cones.{IsAbove, IsConeFacet, IsSpanning, differences}
use Rattle.staat_model.specs.Facets.{IsFacet}
use Rattle.staat_model.specs.Walls.{IsBeyond}
use Rattle.staat_model.proofs.Members.{All-from_members}
use Rattle.staat_model.proofs.CornerLemmas.{dot_multiple}
use Rattle.staat_model.proofs.WallLaws.{dot-minus}
use Rattle.staat_model.proofs.PieceFacets.{differences_are, beyond_is_above}
use Rattle.staat_cone.specs.declared.walls.Placed.{Placed}
use Rattle.staat_cone.specs.Pairs.{AddsEdges, HasMultiple}
use Rattle.staat_cone.specs.Few.{IsCandidate, IsEnough, IsGrown, IsDifferenceStep, IsReady, IsViolator}
use Rattle.staat_cone.proofs.EdgeLemmas.{edge_candidate, facet_on_ray}
use Rattle.staat_cone.proofs.PairLemmas.{above_multiple, facet_grown, facet_on_side}
use Rattle.staat_vec.proofs.Integers.{negative_nonneg_clash}

-- nothing is known of no vectors
pub grown_nothing : (p q : List V3) → IsGrown p q [] [] []
grown_nothing p q = record {
  steps = λ k d lt. absurd (Contains-nothing d (k, lt, λ i. d));
  untested_are = λ k d lt. absurd (Contains-nothing d (k, lt, λ i. d));
  found_are = λ k d lt. absurd (Contains-nothing d (k, lt, λ i. d));
  all = λ n f. absurd (Contains-nothing f.across.u f.across.u_in);
}

-- a difference may join the few, where each facet of theirs is untested or found
pub ready : {p q few untested found : List V3} {v : V3} → IsGrown p q few untested found → IsDifferenceStep p q v → IsReady p q few untested found v
ready is step = record { step = step; steps = is.steps; untested_are = is.untested_are; found_are = is.found_are; all = λ n f side. is.all n f }

-- one more difference, with the walls through it, where facets that it lies behind may have been left out
pub grown_with : (p q few untested found untested' : List V3) (v : V3) → AddsEdges few v untested untested' → IsReady p q few untested found v → IsGrown p q (few ++ v ∷ []) untested' found
grown_with p q few untested found untested' v adds is = record {
  steps = All-push (IsDifferenceStep p q) few v is.steps is.step;
  untested_are = All-from_members (IsCandidate p q) untested' (λ n c. ⊎_elim
      (λ old. All-contains (IsCandidate p q) untested n is.untested_are old)
      (λ (g, in_g, t). edge_candidate p q few g v n (All-contains (IsDifferenceStep p q) few g is.steps in_g) is.step t)
      (adds.only n c));
  found_are = is.found_are;
  all = λ n f. ⊎_elim
      (λ old. ⊎_elim (λ (g, c, ray). inl (g, adds.kept g c, ray)) (λ c. inr c) (is.all n old (facet_on_side few v n f)))
      (λ through. inl (adds.added n through))
      (facet_grown few v n f);
}

-- the last of the untested is left out
module _ (p q few untested found : List V3) (n : V3) (is : IsGrown p q few (untested ++ n ∷ []) found) where
  pub last : IsCandidate p q n
  last = All-contains (IsCandidate p q) (untested ++ n ∷ []) n is.untested_are (Contains-push untested n)

  others : All (IsCandidate p q) untested
  others = All-from_members (IsCandidate p q) untested (λ m c. All-contains (IsCandidate p q) (untested ++ n ∷ []) m is.untested_are (Contains-append_left untested (n ∷ []) m c))

  without : (m : V3) → IsConeFacet few m → (IsPrimitiveOf n m → ⊥) → HasMultiple untested m ⊎ Contains found m
  without m f other = ⊎_elim (λ (g, c, ray). ⊎_elim (λ d. inl (g, d, ray)) (λ e. absurd (other (subst (λ z. IsPrimitiveOf z m) (sym e) ray))) (Contains-push_cases untested n g c)) (λ c. inr c) (is.all m f)

  -- since one of the few lies behind it
  pub grown_dropped : (IsAbove n few → ⊥) → IsGrown p q few untested found
  grown_dropped behind = record { steps = is.steps; untested_are = others; found_are = is.found_are; all = λ m f. without m f (λ ray. behind (above_multiple few n m ray f.above)) }

  -- since no difference lies behind it
  pub grown_found : (found' : List V3) (r : V3) → IsBeyond p q n → IsPrimitiveOf n r → found' ≡ found ++ r ∷ [] → IsGrown p q few untested found'
  grown_found found' r beyond ray e = subst (IsGrown p q few untested) (sym e) (record {
    steps = is.steps;
    untested_are = others;
    found_are = All-push (IsFacet p q) found r is.found_are (facet_on_ray p q n r ray beyond last.touches);
    all = λ m f. ⊎_elim
        (λ (g, c, on). ⊎_elim (λ d. inl (g, d, on)) (λ same. inr (here_found m (subst (λ z. IsPrimitiveOf z m) (sym same) on))) (Contains-push_cases untested n g c))
        (λ c. inr (Contains-append_left found (r ∷ []) m c))
        (is.all m f);
  })
    where
      here_found : (m : V3) → IsPrimitiveOf n m → Contains (found ++ r ∷ []) m
      here_found m on = subst (Contains (found ++ r ∷ [])) (primitive-only n r ray ∙ sym (primitive-only n m on)) (Contains-push found r)

  -- since the difference v, which is to join the few, lies behind it
  pub ready_violated : (v : V3) → IsViolator p q n v → IsReady p q few untested found v
  ready_violated v violator = record {
    step = violator.step;
    steps = is.steps;
    untested_are = others;
    found_are = is.found_are;
    all = λ m f side. without m f (λ ray. negative_nonneg_clash (dot v n) violator.behind (nonneg_is (dot v n) (pos ray.factor *ℤ dot v m) (dot_multiple v n m ray.factor ray.multiple) (nonneg_mul (pos ray.factor) (dot v m) (nonneg_pos ray.factor) side)));
  }

-- where no facet of the few is untested, they are enough
pub grown_enough : (p q few found : List V3) → IsGrown p q few [] found → IsSpanning few → IsEnough few (differences p q)
grown_enough p q few found is spans =
    let are = differences_are p q in record {
      spanning = spans;
      members = λ v c. are.all v (All-contains (IsDifferenceStep p q) few v is.steps c).difference;
      none_behind = λ n f. beyond_is_above p q (differences p q) n are (All-contains (IsFacet p q) found n is.found_are (⊎_elim (λ (g, c, ray). absurd (Contains-nothing g c)) (λ c. c) (is.all n f))).beyond;
    }

-- a list that grew still spans space
pub spanning_grown : (few few' : List V3) → ((v : V3) → Contains few v → Contains few' v) → IsSpanning few → IsSpanning few'
spanning_grown few few' kept spans n flat = spans n (All-from_members (λ v. dot v n ≡ pos 0) few (λ v c. All-contains (λ v. dot v n ≡ pos 0) few' v flat (kept v c)))

-- the difference of the two points that lie nearest, where they are the wrong way round
pub violator_by_ends : (p q : List V3) (n : V3) (low high : Placed) (v : V3) → Contains q low.point → low.along ≡ dot n low.point → Contains p high.point → high.along ≡ dot n high.point → low.along <ℤ high.along → v ≡ minus low.point high.point → IsWithin DIFF v → IsViolator p q n v
violator_by_ends p q n low high v low_in low_at high_in high_at less e size = record {
  step = record { difference = record { a = high.point; b = low.point; a_in = high_in; b_in = low_in; is = e }; within = size };
  behind = below (dot v n) (dot n low.point) (dot n high.point) low.along high.along (dot_comm v n ∙ ap (dot n) e ∙ dot-minus n low.point high.point) low_at high_at less;
}
  where
    below : (a b c low high : ℤ) → a ≡ b -ℤ c → low ≡ b → high ≡ c → low <ℤ high → a <ℤ pos 0
    below a b c low high e l k h = omega (arith, ints, e, l, k, h)

-- where nothing can be taken from a list, it is empty
pub nothing_taken : (xs ys : List V3) (n : ℕ) → xs ≡ ys ++ [] → IsSome {T = V3} None ↔ (0 < n) → ys ≡ take (n - 1) xs → xs ≡ []
nothing_taken xs ys n e is rest = e ∙ ap (λ l. l ++ []) (rest ∙ ap (λ k. take k xs) (by_count n is.1))
  where
    by_count : (n : ℕ) → (0 < n → IsSome {T = V3} None) → n - 1 ≡ 0
    by_count zero f = refl
    by_count (suc n) f = let h : IsSome {T = V3} None = f (omega arith) in cc
