-- The certificate that `plan` prints keeps its form and is valid.
use Rattle.std.proofs.Common.{◌≡◌, ◌≤◌, ℕ, Bool, true, false, List, ◌++◌, Contains, length, Option, Some, None, Ok}
use Rattle.std.proofs.Common.{sym, ap, subst, arith, inl, inr}
use Rattle.std.specs.Prelude.{IfSome}
use Rattle.std.specs.FinSet as set
use Rattle.std.proofs.lemmas.List.Elements.{All-contains, Contains-append_cases}
use Rattle.staat_vec.specs.declared.vector.V3.{V3}
use Rattle.staat_vec.specs.declared.vector.TheConstants.{DIRECTION}
use Rattle.staat_vec.specs.Vectors.{IsWithin}
use Rattle.staat_vec.proofs.Unique.{IsFirst-in}
use Rattle.staat_model.specs.declared.assembly.Part.{Part}
use Rattle.staat_model.specs.declared.certificate.Certificate.{Certificate}
use Rattle.staat_limits.specs.declared.limits.TheConstants.{TEXT_LIMIT}
use Rattle.staat_model.specs.declared.set.PartSet.{PartSet}
use Rattle.staat_model.specs.declared.tree.Kind.TheVariants.{Edge, Open, Point}
use Rattle.staat_model.specs.Assemblies.{IsAssembly}
use Rattle.staat_model.specs.Cells.{IsEntry}
use Rattle.staat_model.specs.Certify.{IsBodyOf, IsCertificateOf}
use Rattle.staat_limits.specs.Versions.{IsVersion}
use Rattle.staat_model.specs.Outcomes.{Finding, IsOutcome, IsStep, Serves, Try, both_planned, moved_stuck, no_step}
use Rattle.staat_model.specs.Outcomes.{one_part, planned, rest_stuck, stuck, try_cell, try_vertex}
use Rattle.staat_model.specs.Planes.{vertices}
use Rattle.staat_model.specs.Texts.{IsTextOf, IsWellFormed, text_of}
use Rattle.staat_model.proofs.Differences.{from_map}
use Rattle.staat_model.proofs.PlaneLemmas.{planes_apart}
use Rattle.staat_model.proofs.SomePlanes.{some_planes}
use Rattle.staat_cells.proofs.WholeLists.{cell_small}
use Rattle.staat_certify.specs.Certifying.{CanBeCertified, HasFewPlanes, IsValidFor}
use Rattle.staat_plan.specs.Planning.{IsSized, Settles}
use Rattle.staat_certify.proofs.CertificateLemmas.{formed, planes_within}
use Rattle.staat_plan.proofs.Fewer.{fewer_planes_lemma}
use Rattle.staat_certify.proofs.ListedLemmas.{vertex_sized}
use Rattle.staat_plan.proofs.Right.{right_lemma}
use Rattle.staat_words.specs.declared.request.PlanRequest.{PlanRequest}
use Rattle.staat_words.specs.Requests.{IsPlanRequest}
use Rattle.staat_input.specs.Counting.{AreCounted, all_parts, few, too_many}
use Rattle.staat_planning.specs.Planning.{IsPrinted, certificate, steps, text_too_long}
use Rattle.staat_planning.proofs.TableLemmas.{table_planes}
use Rattle.staat_planning.proofs.RightAnswers.{certified}

step_sized : (robust : Bool) (parts : List Part) (w side : PartSet) (try : Try) → IsAssembly parts → IsStep robust parts w try side → IsWithin DIRECTION try.d
step_sized false parts w side try is step =
    let are = step.tries_are in
    let there = (IsFirst-in (λ (t : Try). Serves parts w t.d) step.tries try step.first).0 in
    let v = from_map try_vertex (vertices are.planes) try (subst (λ ts. Contains ts try) are.is there) in
    subst (IsWithin DIRECTION) (ap (λ (t : Try). t.d) (sym v.2))
    (vertex_sized are.planes v.0 (planes_within parts w are.planes is are.planes_are) (planes_apart parts w are.planes are.planes_are) v.1).size
step_sized true parts w side try is step =
    let are = step.tries_are in
    let there = (IsFirst-in (λ (t : Try). Serves parts w t.d) step.tries try step.first).0 in
    let c = from_map try_cell (are.opens ++ are.edges ++ are.points) try (subst (λ ts. Contains ts try) are.is there) in
    let rules = table_planes parts w are.planes is are.planes_are in
    let small : IsWithin DIRECTION c.0.d = elim (Contains-append_cases (are.opens ++ are.edges) are.points c.0 c.1) [
      | inl before ↦ elim (Contains-append_cases are.opens are.edges c.0 before) [
        | inl h ↦ cell_small are.planes rules Open c.0 (All-contains (IsEntry are.planes Open) are.opens c.0 are.opens_are.each h)
        | inr h ↦ cell_small are.planes rules Edge c.0 (All-contains (IsEntry are.planes Edge) are.edges c.0 are.edges_are.each h)
      ]
      | inr h ↦ cell_small are.planes rules Point c.0 (All-contains (IsEntry are.planes Point) are.points c.0 are.points_are.each h)
    ] in
    subst (IsWithin DIRECTION) (ap (λ (t : Try). t.d) (sym c.2)) small

module _ (robust : Bool) (parts : List Part) (is : IsAssembly parts) where
  sized : (w : PartSet) (f : Finding) → IsOutcome robust parts w f → IsSized f
  sized w f (one_part e) = tt
  sized w f (no_step two none) = tt
  sized w f (moved_stuck two step sub) = tt
  sized w f (rest_stuck two step one sub) = tt
  sized w f (both_planned {side} {try} {moved} {rest} {d} {ms} {rs} two step one sub e marks) =
      (subst (IsWithin DIRECTION) (sym e) (step_sized robust parts w side try is step), sized side (planned moved ms) one, sized (set.difference w side) (planned rest rs) sub)

can_be : (parts : List Part) (limit : ℕ) (f : Finding) → IsAssembly parts → limit ≤ 1024 → Settles parts (all_parts parts) f → IsSized f → HasFewPlanes parts (all_parts parts) limit → CanBeCertified parts f
can_be parts limit (planned plan marks) is most settled small fit = (settled, small)
can_be parts limit (stuck w) is most settled small fit =
    let some = some_planes parts w in
    let le = fewer_planes_lemma parts w (all_parts parts) some.0 fit.planes settled.0 some.1 fit.planes_are in
    (settled.1, record { planes = some.0; planes_are = some.1; few = omega (arith, le, fit.few, most) })

keeps_form : (parts : List Part) (version : ℕ) (f : Finding) (c : Certificate) → IsAssembly parts → IsVersion version → CanBeCertified parts f → IsCertificateOf parts version f c → IsWellFormed c
keeps_form parts version f c is known can of =
    formed parts c.version c.parts is (subst IsVersion (sym of.version_is) known) of.count f c.body can
    (subst (λ v. IsBodyOf parts v f c.body) (sym of.version_is) of.body)

few_planes : (parts : List Part) (limit : ℕ) (planes : List V3) → AreCounted parts limit (Ok planes) → HasFewPlanes parts (all_parts parts) limit
few_planes parts limit planes (too_many ps are many e) = absurd cc
few_planes parts limit planes (few ps are le e) = record { planes = ps; planes_are = are; few = le }

-- the text that is written is that of a certificate
record WritesText (parts : List Part) (version : ℕ) (f : Finding) (text : List ℕ) : Type 0 where
  c : Certificate
  of : IsCertificateOf parts version f c
  short : length (text_of c) ≤ TEXT_LIMIT
  is : text ≡ text_of c

writes_text : (parts : List Part) (f : Finding) (version : ℕ) (o : Option ℕ) (text : List ℕ) → o ≡ Some version → IsPrinted parts f o (Ok text) → WritesText parts version f text
writes_text parts f version None text asks (steps e) = absurd cc
writes_text parts f version (Some v) text asks (certificate c is short e) =
    let same : v ≡ version = cc in
    let is_text : text ≡ text_of c = cc in
    record { c = c; of = subst (λ n. IsCertificateOf parts n f c) same is; short = short; is = is_text }
writes_text parts f version (Some v) text asks (text_too_long c is many e) = absurd cc

-- the text is that of a certificate that keeps its form, is not too long, and is valid for what was found
pub record SaysValidly (parts : List Part) (f : Finding) (text : List ℕ) : Type 0 where
  pub c : Certificate
  pub is_text : IsTextOf text c
  pub short : length text ≤ TEXT_LIMIT
  pub valid : IsValidFor parts f c

pub printed_validly : (request : PlanRequest) (version : ℕ) (parts : List Part) (planes : List V3) (f : Finding) (text : List ℕ) → IsPlanRequest request → request.certificate ≡ Some version → IsAssembly parts
    → AreCounted parts request.planes (Ok planes) → IsOutcome request.robust parts (all_parts parts) f → IsPrinted parts f request.certificate (Ok text) → SaysValidly parts f text
printed_validly request version parts planes f text bounds asks is counted outcome written =
    let settled = right_lemma request.robust parts is (all_parts parts) f outcome in
    let can = can_be parts request.planes f is bounds.2 settled (sized request.robust parts is (all_parts parts) f outcome) (few_planes parts request.planes planes counted) in
    let w = writes_text parts f version request.certificate text asks written in
    let form = keeps_form parts version f w.c is (subst (λ o. IfSome o IsVersion) asks bounds.4) can w.of in
    record {
      c = w.c;
      is_text = record { form = form; is = w.is };
      short = subst (λ t. length t ≤ TEXT_LIMIT) (sym w.is) w.short;
      valid = certified parts version f w.c is settled w.of;
    }
