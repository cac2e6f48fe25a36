-- What the answers of `decide` and `confirm` mean.
use Rattle.std.proofs.Common.{◌≡◌, ◌∙◌, ◌↔◌, ◌⊎◌, ◌<◌, ℕ, ◌≤◌, Bool, true, false, List, length, Some, Ok, refl, sym, ap, subst, arith, inl, inr}
use Rattle.staat_edge.specs.Files.{bytes_of}
use Rattle.staat_limits.specs.declared.limits.TheConstants.{MOST_PRODUCT_PARTS, TEXT_LIMIT}
use Rattle.staat_model.specs.declared.assembly.Part.{Part}
use Rattle.staat_short.specs.declared.short.ShortCertificate.{ShortCertificate}
use Rattle.staat_short.specs.ShortTexts.{IsShortTextOf}
use Rattle.staat_confirm.specs.declared.verdict.ShortVerdict.{ShortVerdict}
use Rattle.staat_confirm.specs.declared.verdict.ShortVerdict.TheVariants.{ValidPlan, ValidRefusal}
use Rattle.staat_confirm.specs.ShortVerdicts.{IsShortVerdict}
use Rattle.staat_fault.specs.declared.fault.Fault.TheVariants.{TextTooLong}
use Rattle.staat_words.specs.declared.request.Asked.{Asked}
use Rattle.staat_words.specs.declared.request.CheckRequest.{CheckRequest}
use Rattle.staat_words.specs.declared.request.DecideRequest.{DecideRequest}
use Rattle.staat_words.specs.declared.request.Request.TheVariants.{Confirm, Decide}
use Rattle.staat_words.specs.Requests.{IsAskedWithin}
use Rattle.staat_input.specs.declared.answer.Answer.{Answer}
use Rattle.staat_input.specs.Assembling.{AreSoundProductParts, IsSoundProductOf, sound}
use Rattle.staat_input.specs.Work.{Files, answer, taken}
use Rattle.staat_deciding.specs.Deciding.{DecideWork, IsDecidedAs, IsDecidedShort, SaysDecidedPlan, SaysDecidedStuck}
use Rattle.staat_deciding.specs.Deciding.{long_refusal, short_plan, short_refusal}
use Rattle.staat_judging.specs.Confirming.{KeepsShortRules, SaysShortValid, ShowsShortValid, says_short}
use Rattle.staat_judging.specs.Confirming.{short_verdict_answer}
use Rattle.staat_judging.specs.Confirming.{short_plan as shows_plan, short_refusal as shows_refusal}
use Rattle.staat_top.specs.Headline.{IsLongRefusal, valid_line}
use Rattle.staat_top.specs.Replies.{IsReply, MakesReply, Reply, answered, refused}
use Rattle.staat_top.proofs.DecideLemmas.{IsAnswered, decide_answers, gives, is_long}
use Rattle.staat_input.specs.declared.limits.TheConstants.Limits.{PRODUCT}
use Rattle.staat_input.specs.Kept.{KeepsNamed}
use Rattle.staat_input.proofs.KeptLemmas.{product_kept}
use Rattle.staat_top.proofs.OneReply.{makes_settled, one_reply}
use Rattle.staat_top.proofs.Replying.{answer_in}
use Rattle.staat_top.proofs.RightLemmas.{status_is_right, status_is_denied}

-- ---- decide

pub is_decided : (files : Files) (request : DecideRequest) (reply : Reply) → IsAskedWithin MOST_PRODUCT_PARTS request.asked → IsReply (Some (Decide request)) files reply → reply.status ≡ 0 → SaysDecidedPlan files request reply.out
is_decided files request reply bounds is none =
    let found = answer_in (Some (Decide request)) files is.found reply is.work is.makes (omega (arith, none)) in
    let status : found.0.status ≡ 0 = sym (ap (λ (r : Reply). r.status) found.2) ∙ none in
    subst (SaysDecidedPlan files request) (sym (ap (λ (r : Reply). r.out) found.2)) (status_is_right (Some (Decide request)) files found.0 bounds found.1 status)

pub is_denied : (files : Files) (request : DecideRequest) (reply : Reply) → IsAskedWithin MOST_PRODUCT_PARTS request.asked → IsReply (Some (Decide request)) files reply → reply.status ≡ 1 → SaysDecidedStuck files request reply.out
is_denied files request reply bounds is one =
    let found = answer_in (Some (Decide request)) files is.found reply is.work is.makes (omega (arith, one)) in
    let status : found.0.status ≡ 1 = sym (ap (λ (r : Reply). r.status) found.2) ∙ one in
    subst (SaysDecidedStuck files request) (sym (ap (λ (r : Reply). r.out) found.2)) (status_is_denied (Some (Decide request)) files found.0 bounds found.1 status)

-- sound parts have no reply but an answer, or that the text of a valid refusal is too long
pub decides : (files : Files) (request : DecideRequest) (parts : List Part) (reply : Reply) → AreSoundProductParts files request.asked parts → IsReply (Some (Decide request)) files reply → (reply.status < 2) ⊎ IsLongRefusal parts request reply.status
decides files request parts reply are is = go (decide_answers request files parts is.found are is.work (makes_settled is.found reply is.makes))
  where
    go : IsAnswered parts request.rest request.certificate is.found → (reply.status < 2) ⊎ IsLongRefusal parts request reply.status
    go (gives a same small) =
        let made : reply ≡ answered a = subst (λ found. MakesReply found reply) same is.makes in
        inl (subst (λ (r : Reply). r.status < 2) (sym made) small)
    go (is_long c n asks valid kind order long same) =
        let made : reply ≡ refused (TextTooLong n) = subst (λ found. MakesReply found reply) same is.makes in
        inr (record { is = ap (λ (r : Reply). r.status) made; asks = asks; refusal = c; valid = valid; kind = kind; order = order; long = long })

-- ---- confirm

pub keeps_short_rules : (files : Files) (request : CheckRequest) (text : List ℕ) → SaysShortValid files request text → KeepsShortRules files request
keeps_short_rules files request text says = record { parts = says.parts; sound = says.sound; certificate = says.certificate; held = says.held; valid = go says.shows }
  where
    go : ShowsShortValid says.parts says.certificate text → IsShortVerdict says.parts says.certificate ValidPlan ⊎ IsShortVerdict says.parts says.certificate ValidRefusal
    go (shows_plan h shown e) = inl h
    go (shows_refusal h shown e) = inr h

-- a reply with status 0
pub record ConfirmsWell (request : CheckRequest) (files : Files) : Type 0 where
  pub reply : Reply
  pub is : IsReply (Some (Confirm request)) files reply
  pub well : reply.status ≡ 0

-- the verdict on a short certificate makes the reply
verdict_reply : (files : Files) (request : CheckRequest) (v : ShortVerdict) (k : KeepsShortRules files request) → IsShortVerdict k.parts k.certificate v → (short_verdict_answer k.certificate.answer v).status ≡ 0 → ConfirmsWell request files
verdict_reply files request v k right none = record {
  reply = answered (short_verdict_answer k.certificate.answer v);
  is = record {
    found = Ok (short_verdict_answer k.certificate.answer v);
    work = inr (k.parts, inr (k.parts, k.sound.named, sound k.sound.sound refl), inr (k.certificate, k.held, record { verdict = v; right = right; is = refl }));
    makes = refl;
  };
  well = none;
}

-- a short certificate that keeps the rules has one
pub valid_short_reply : (files : Files) (request : CheckRequest) → KeepsShortRules files request → ConfirmsWell request files
valid_short_reply files request k = elim k.valid [ inl h ↦ verdict_reply files request ValidPlan k h refl | inr h ↦ verdict_reply files request ValidRefusal k h refl ]

pub short_exactly : (files : Files) (request : CheckRequest) (reply : Reply) → IsAskedWithin MOST_PRODUCT_PARTS request.asked → IsReply (Some (Confirm request)) files reply → (reply.status ≡ 0) ↔ KeepsShortRules files request
short_exactly files request reply bounds is = (there, back)
  where
    there : reply.status ≡ 0 → KeepsShortRules files request
    there none =
        let found = answer_in (Some (Confirm request)) files is.found reply is.work is.makes (omega (arith, none)) in
        keeps_short_rules files request found.0.text (status_is_right (Some (Confirm request)) files found.0 bounds found.1 (sym (ap (λ (r : Reply). r.status) found.2) ∙ none))

    back : KeepsShortRules files request → reply.status ≡ 0
    back k = let own = valid_short_reply files request k in ap (λ (r : Reply). r.status) (one_reply (Some (Confirm request)) files reply own.reply tt is own.is) ∙ own.well

-- ---- what `decide` prints is called valid by `confirm`

-- the verdict on the certificate that the file holds makes the reply
confirm_replies : (others : Files) (asked : Asked) (name text : List ℕ) (parts : List Part) (c : ShortCertificate) (v : ShortVerdict) → IsSoundProductOf others asked (Ok parts) → bytes_of name others ≡ Some text → IsShortTextOf text c → length text ≤ TEXT_LIMIT → IsShortVerdict parts c v
    → IsReply (Some (Confirm (record { asked = asked; certificate = name }))) others (answered (short_verdict_answer c.answer v))
confirm_replies others asked name text parts c v read held is short right = record {
  found = Ok (short_verdict_answer c.answer v);
  work = inr (parts, read, inr (c, taken text held short (says_short c (short, is) refl), record { verdict = v; right = right; is = refl }));
  makes = refl;
}

-- where a certificate is asked for, the text of one is found
asked_short : (rest certificate : Bool) (parts : List Part) (a : Answer) → certificate ≡ true → IsDecidedAs rest certificate parts (Ok a) → IsDecidedShort rest parts (Ok a)
asked_short rest false parts a asks d = absurd cc
asked_short false true parts a asks d = d
asked_short true true parts a asks d = d

text_confirmed : (files others : Files) (asked : Asked) (name : List ℕ) (rest : Bool) (parts : List Part) (a : Answer) → KeepsNamed PRODUCT files others asked.input → bytes_of name others ≡ Some a.text → IsSoundProductOf files asked (Ok parts) → IsDecidedShort rest parts (Ok a)
    → IsReply (Some (Confirm (record { asked = asked; certificate = name }))) others (answered (answer 0 (valid_line a.status)))
text_confirmed files others asked name rest parts a keeps held read (short_plan c text valid is short e) =
    let own : a ≡ answer 0 text = cc in
    subst (λ (b : Answer). IsReply (Some (Confirm (record { asked = asked; certificate = name }))) others (answered (answer 0 (valid_line b.status)))) (sym own)
    (confirm_replies others asked name text parts c ValidPlan (product_kept files others asked parts keeps read) (held ∙ ap (λ (b : Answer). Some b.text) own) is short valid)
text_confirmed files others asked name rest parts a keeps held read (short_refusal c text valid kind is short e) =
    let own : a ≡ answer 1 text = cc in
    subst (λ (b : Answer). IsReply (Some (Confirm (record { asked = asked; certificate = name }))) others (answered (answer 0 (valid_line b.status)))) (sym own)
    (confirm_replies others asked name text parts c ValidRefusal (product_kept files others asked parts keeps read) (held ∙ ap (λ (b : Answer). Some b.text) own) is short valid)
text_confirmed files others asked name rest parts a keeps held read (long_refusal c n valid kind order long count e) = absurd cc

-- the same of the answer of the work on `decide`
answer_confirmed : (files others : Files) (request : DecideRequest) (name : List ℕ) (a : Answer) → request.certificate ≡ true → KeepsNamed PRODUCT files others request.asked.input → bytes_of name others ≡ Some a.text → DecideWork request files (Ok a)
    → IsReply (Some (Confirm (record { asked = request.asked; certificate = name }))) others (answered (answer 0 (valid_line a.status)))
answer_confirmed files others request name a asks keeps held (inl (fault, at, e)) = absurd cc
answer_confirmed files others request name a asks keeps held (inr (parts, read, d)) =
    text_confirmed files others request.asked name request.rest parts a keeps held read (asked_short request.rest request.certificate parts a asks d)

-- the answer of `decide` with a certificate is one that `confirm` calls valid
pub is_confirmed : (files others : Files) (request : DecideRequest) (reply : Reply) (name : List ℕ) → request.certificate ≡ true → IsReply (Some (Decide request)) files reply → reply.status < 2
    → KeepsNamed PRODUCT files others request.asked.input → bytes_of name others ≡ Some reply.out → IsReply (Some (Confirm (record { asked = request.asked; certificate = name }))) others (answered (answer 0 (valid_line reply.status)))
is_confirmed files others request reply name asks is lt keeps held =
    let (a, work, same) = answer_in (Some (Decide request)) files is.found reply is.work is.makes lt in
    subst (λ (r : Reply). IsReply (Some (Confirm (record { asked = request.asked; certificate = name }))) others (answered (answer 0 (valid_line r.status)))) (sym same)
    (answer_confirmed files others request name a asks keeps (held ∙ ap (λ (r : Reply). Some r.out) same) work)
