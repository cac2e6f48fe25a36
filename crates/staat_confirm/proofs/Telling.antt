-- What is told of a certificate that states the right number of parts.
use Rattle.std.proofs.Common.{◌≡◌, ℕ, zero, suc, ◌≤◌, List, [], ◌∷◌, ◌++◌, subst, arith, All, Ok, Err}
use Rattle.std.specs.Prelude.{IfOk, Result, Some, flat_map, slice_get}
use Rattle.std.proofs.lemmas.List.Concat.{flat_map-cons}
use Rattle.std.proofs.lemmas.List.Elements.{All-head, All-tail}
use Rattle.staat_vec.specs.declared.memory.OutOfMemory.{OutOfMemory}
use Rattle.staat_limits.specs.declared.limits.TheConstants.{MOST_PRODUCT_PARTS}
use Rattle.staat_model.specs.declared.assembly.Part.{Part}
use Rattle.staat_model.specs.Assemblies.{IsPart}
use Rattle.staat_model.proofs.Members.{all_back, all_front}
use Rattle.staat_short.specs.declared.line.ShortLine.TheVariants as line
use Rattle.staat_short.specs.declared.short.ShortNode.{ShortNode}
use Rattle.staat_short.specs.declared.short.ShortNode.TheVariants.{Split}
use Rattle.staat_short.specs.declared.short.ShortAnswer.{ShortAnswer}
use Rattle.staat_short.specs.declared.short.ShortAnswer.TheVariants as answer
use Rattle.staat_short.specs.declared.short.ShortCertificate.{ShortCertificate}
use Rattle.staat_short.specs.ShortLines.{IsShortLine}
use Rattle.staat_short.specs.ShortTexts.{IsAnswerInOrder, IsRestInOrder, IsShortInOrder, lines_of_answer, lines_of_short_node}
use Rattle.staat_confirm.specs.declared.verdict.ShortVerdict.{ShortVerdict}
use Rattle.staat_confirm.specs.declared.verdict.ShortVerdict.TheVariants.{ValidPlan, ValidRefusal}
use Rattle.staat_confirm.specs.Owners.{AreFitNodes}
use Rattle.staat_confirm.specs.ShortVerdicts.{IsAnswerVerdict, IsFitAnswer, IsShortVerdict, ShowsPlan, ShowsRefusal}
use Rattle.staat_confirm.proofs.Shown.{plan_shown, refusal_shown, stuck_shown}
use Rattle.staat_confirm.proofs.Unique.{verdict_one}

-- ---- bounds

flat_at : {X Y : Type 0} (P : Y → Type 0) (f : X → List Y) (xs : List X) (k : ℕ) (x : X) → All P (flat_map f xs) → slice_get xs k ≡ Some x → All P (f x)
flat_at P f [] k x all at = cc
flat_at P f (y ∷ xs) zero x all at = let same : y ≡ x = cc in subst (λ z. All P (f z)) same (all_front P (f y) (flat_map f xs) (subst (All P) (flat_map-cons f y xs) all))
flat_at P f (y ∷ xs) (suc k) x all at = flat_at P f xs k x (all_back P (f y) (flat_map f xs) (subst (All P) (flat_map-cons f y xs) all)) at

fit_nodes : (parts : ℕ) (nodes : List ShortNode) → parts ≤ MOST_PRODUCT_PARTS → All IsShortLine (flat_map lines_of_short_node nodes) → IsRestInOrder parts nodes → AreFitNodes nodes
fit_nodes parts nodes few lines order = record {
  one = (order.tree, order.is);
  few = let most = order.most in omega (arith, most, few);
  order = order.each;
  sizes = λ k d at. All-head IsShortLine (line.Split d) [] (flat_at IsShortLine lines_of_short_node nodes k (Split d) lines at);
}

fit_of : (parts : ℕ) (a : ShortAnswer) → parts ≤ MOST_PRODUCT_PARTS → All IsShortLine (lines_of_answer a) → IsAnswerInOrder parts a → IsFitAnswer a
fit_of parts (answer.Plan nodes) few lines order = fit_nodes parts nodes few (All-tail IsShortLine line.Plan (flat_map lines_of_short_node nodes) lines) order.0
fit_of parts (answer.Stuck holds) few lines order = order
fit_of parts (answer.Rest nodes) few lines order = fit_nodes parts nodes few (All-tail IsShortLine line.Rest (flat_map lines_of_short_node nodes) lines) order

pub fit_answer : (c : ShortCertificate) → IsShortInOrder c → IsFitAnswer c.answer
fit_answer c order =
    let body = lines_of_answer c.answer ++ line.End ∷ [] in
    let tail = All-tail IsShortLine line.Title (line.Parts c.parts ∷ body) order.lines in
    let count = All-head IsShortLine (line.Parts c.parts) body tail in
    fit_of c.parts c.answer count.1 (all_front IsShortLine (lines_of_answer c.answer) (line.End ∷ []) (All-tail IsShortLine (line.Parts c.parts) body tail)) order.answer

-- ---- verdicts

pub only_told : (parts : List Part) (c : ShortCertificate) (r : Result ShortVerdict OutOfMemory) → IfOk r (IsShortVerdict parts c) → IfOk r (λ v. (u : ShortVerdict) → IsShortVerdict parts c u → v ≡ u)
only_told parts c (Ok v) h = λ u k. verdict_one parts c v u h k
only_told parts c (Err x) h = tt

plan_answer : (parts : List Part) (a : ShortAnswer) → All IsPart parts → IsFitAnswer a → IsAnswerVerdict parts a ValidPlan → ShowsPlan parts a
plan_answer parts (answer.Plan nodes) each fit h = plan_shown parts nodes each fit h.0 h.1
plan_answer parts (answer.Stuck holds) each fit h = h
plan_answer parts (answer.Rest nodes) each fit h = plan_shown parts nodes each fit h.0 h.1

refusal_answer : (parts : List Part) (a : ShortAnswer) → All IsPart parts → IsFitAnswer a → IsAnswerVerdict parts a ValidRefusal → ShowsRefusal parts a
refusal_answer parts (answer.Plan nodes) each fit h = refusal_shown parts nodes each fit h.0 h.1
refusal_answer parts (answer.Stuck holds) each fit h = stuck_shown parts holds each fit h
refusal_answer parts (answer.Rest nodes) each fit h = refusal_shown parts nodes each fit h.0 h.1

pub plan_told : (parts : List Part) (a : ShortAnswer) (r : Result ShortVerdict OutOfMemory) → All IsPart parts → IsFitAnswer a → IfOk r (IsAnswerVerdict parts a) → r ≡ Ok ValidPlan → ShowsPlan parts a
plan_told parts a r each fit h e = plan_answer parts a each fit (subst (λ (q : Result ShortVerdict OutOfMemory). IfOk q (IsAnswerVerdict parts a)) e h)

pub refusal_told : (parts : List Part) (a : ShortAnswer) (r : Result ShortVerdict OutOfMemory) → All IsPart parts → IsFitAnswer a → IfOk r (IsAnswerVerdict parts a) → r ≡ Ok ValidRefusal → ShowsRefusal parts a
refusal_told parts a r each fit h e = refusal_answer parts a each fit (subst (λ (q : Result ShortVerdict OutOfMemory). IfOk q (IsAnswerVerdict parts a)) e h)
