-- From lists of facets of vectors to what a source of facets answers.
use Rattle.std.proofs.Common.{◌≡◌, ◌↔◌, ⊎_elim, refl, subst, List, [], ◌∷◌, All, Contains}
use Rattle.std.proofs.lemmas.List.Elements.{All-contains}
use Rattle.staat_vec.specs.declared.vector.V3.{V3}
use Rattle.staat_vec.specs.declared.vector.TheConstants.{NORMAL}
use Rattle.staat_vec.specs.Vectors.{IsWithin, vector_cmp}
use Rattle.staat_vec.specs.Lists.{Lists}
use Rattle.staat_vec.proofs.Unique.{Contains-nothing, Contains-front}
use Rattle.staat_model.specs.Pieces.{IsPiece}
use Rattle.staat_model.specs.Meeting.{Overlap}
use Rattle.staat_model.specs.Cones.{IsSpanning, differences}
use Rattle.staat_model.specs.Facets.{IsFacet}
use Rattle.staat_model.proofs.Members.{All-from_members}
use Rattle.staat_model.proofs.PieceFacets.{differences_are, to_cone_facet, overlap_by_facets_lemma}
use Rattle.staat_cone.specs.Few.{IsGrown}
use Rattle.staat_cone.proofs.LawLemmas.{few_facets_lemma}
use Rattle.staat_cone.proofs.FewLemmas.{grown_enough}
use Rattle.staat_cone.proofs.SourceSizes.{facet_within}

-- the facets found, in order, where none is untested
pub listed_by_few : (p q few found list : List V3) → IsGrown p q few [] found → IsSpanning few → Lists vector_cmp (Contains found) list → Lists vector_cmp (IsFacet p q) list
listed_by_few p q few found list is spans l = record {
  ascending = l.ascending;
  each = λ n c. All-contains (IsFacet p q) found n is.found_are (l.each n c);
  all = λ n f. l.all n (⊎_elim (λ (g, c, ray). absurd (Contains-nothing g c)) (λ c. c) (is.all n ((few_facets_lemma few (differences p q) n (grown_enough p q few found is spans)).1 (to_cone_facet p q (differences p q) n (differences_are p q) f))));
}

empty_list : (xs : List V3) → ((x : V3) → Contains xs x → ⊥) → xs ≡ []
empty_list [] none = refl
empty_list (x ∷ xs) none = absurd (none x (Contains-front x xs))

pub overlap_by_list : (p q list : List V3) → IsPiece p → IsPiece q → Lists vector_cmp (IsFacet p q) list → (list ≡ []) ↔ Overlap p q
overlap_by_list p q list is_p is_q l =
    let law = overlap_by_facets_lemma p q is_p is_q in (
      (λ e. law.1 (λ n f. Contains-nothing n (subst (λ xs. Contains xs n) e (l.all n f)))),
      (λ o. empty_list list (λ n c. law.0 o n (l.each n c))),
    )

pub listed_within : (p q list : List V3) → IsPiece p → IsPiece q → Lists vector_cmp (IsFacet p q) list → All (IsWithin NORMAL) list
listed_within p q list is_p is_q l = All-from_members (IsWithin NORMAL) list (λ n c. facet_within p q n is_p is_q (l.each n c))
