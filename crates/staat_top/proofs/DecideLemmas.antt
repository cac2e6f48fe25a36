-- What the answers of `decide` say, and that its work comes to one where the parts of the product are sound.
use Rattle.std.proofs.Common.{◌≡◌, ◌<◌, ℕ, Bool, true, false, List, [], ap, arith, inl, inr, length, refl, subst, sym}
use Rattle.std.specs.Prelude.{Ok, Err, None}
use Rattle.std.proofs.lemmas.List.Elements.{All-contains}
use Rattle.staat_edge.specs.Files.{bytes_of}
use Rattle.staat_fault.specs.declared.fault.Fault.{Fault}
use Rattle.staat_fault.specs.declared.fault.Fault.TheVariants.{ReadFault, TextTooLong}
use Rattle.staat_fault.specs.Faults.{status_of}
use Rattle.staat_limits.specs.declared.limits.TheConstants.{MOST_PRODUCT_PARTS, TEXT_LIMIT}
use Rattle.staat_model.specs.declared.assembly.Part.{Part}
use Rattle.staat_model.specs.Outcomes.{planned, stuck}
use Rattle.staat_model.specs.SetLists.{set_of}
use Rattle.staat_model.proofs.SetBits.{has-below}
use Rattle.staat_model.proofs.SetListings.{has-set_of}
use Rattle.staat_short.specs.declared.short.ShortCertificate.{ShortCertificate}
use Rattle.staat_short.specs.ShortTexts.{IsShortInOrder, short_text}
use Rattle.staat_confirm.specs.declared.verdict.ShortVerdict.TheVariants.{ValidRefusal}
use Rattle.staat_confirm.specs.ShortVerdicts.{IsShortVerdict}
use Rattle.staat_text.specs.PlanTexts.{plan_text}
use Rattle.staat_words.specs.Requests.{IsAskedWithin}
use Rattle.staat_words.specs.declared.request.Asked.{Asked}
use Rattle.staat_words.specs.declared.request.DecideRequest.{DecideRequest}
use Rattle.staat_input.specs.declared.answer.Answer.{Answer}
use Rattle.staat_input.specs.Assembling.{AreSoundProductParts, IsSoundProductOf, sound}
use Rattle.staat_input.specs.Work.{Files, Found, answer}
use Rattle.staat_input.proofs.OneFinding.{IsSettled, given_not_fault, given_one}
use Rattle.staat_input.proofs.OneInput.{sound_product_one}
use Rattle.staat_input.proofs.SoundParts.{same_answer, same_status, sound_product_parts}
use Rattle.staat_deciding.specs.Deciding.{DecideWork, IsDecidedAs, IsDecidedShort, IsShortRefusal, apart, held}
use Rattle.staat_deciding.specs.Deciding.{all_apart, some_apart, short_plan, short_refusal, long_refusal}
use Rattle.staat_deciding.specs.Deciding.{SaysDecidedPlan, SaysDecidedStuck, SaysPartialPlan, SaysPlanAs}
use Rattle.staat_deciding.specs.Deciding.{SaysProductPlan, SaysShortPlan, SaysShortRefusal, SaysStuckAs, SaysStuckParts}
use Rattle.staat_deciding.specs.RestTexts.{rest_text}
use Rattle.staat_judging.proofs.RightShortAnswers.{plan_shown, refusal_shown}
use Rattle.staat_top.specs.Headline.{IsLongRefusal}

-- ---- what statuses 0 and 1 mean

module _ (files : Files) (asked : Asked) (parts : List Part) (a : Answer) (are : AreSoundProductParts files asked parts) where
  short_plan_said : (rest : Bool) → IsDecidedShort rest parts (Ok a) → a.status ≡ 0 → SaysShortPlan files asked a.text
  short_plan_said rest (short_plan c text valid is short e) zero =
      let same : answer 0 text ≡ a = same_answer a (answer 0 text) e in
      subst (λ (b : Answer). SaysShortPlan files asked b.text) same
      (record { parts = parts; sound = are; certificate = c; says = is; short = short; valid = valid; shows = plan_shown parts c are.product.each is.form valid })
  short_plan_said rest (short_refusal c text valid kind is short e) zero = absurd (omega (arith, zero, same_status _ _ e))
  short_plan_said rest (long_refusal c n valid kind order long count e) zero = absurd cc

  short_refusal_said : (rest : Bool) → IsDecidedShort rest parts (Ok a) → a.status ≡ 1 → SaysShortRefusal rest files asked a.text
  short_refusal_said rest (short_plan c text valid is short e) one = absurd (omega (arith, one, same_status _ _ e))
  short_refusal_said rest (short_refusal c text valid kind is short e) one =
      let same : answer 1 text ≡ a = same_answer a (answer 1 text) e in
      subst (λ (b : Answer). SaysShortRefusal rest files asked b.text) same
      (record { parts = parts; sound = are; certificate = c; kind = kind; says = is; short = short; valid = valid; shows = refusal_shown parts c are.product.each is.form valid })
  short_refusal_said rest (long_refusal c n valid kind order long count e) one = absurd cc

  plan_said : (rest certificate : Bool) → IsDecidedAs rest certificate parts (Ok a) → a.status ≡ 0 → SaysPlanAs certificate files asked a.text
  plan_said false false (apart tree good e) zero =
      let same : answer 0 (plan_text (planned tree [])) ≡ a = same_answer a (answer 0 (plan_text (planned tree []))) e in
      subst (λ (b : Answer). SaysProductPlan files asked b.text) same (record { parts = parts; sound = are; tree = tree; good = good; says = refl })
  plan_said false false (held members ascending two within is_stuck e) zero = absurd (omega (arith, zero, same_status _ _ e))
  plan_said true false (all_apart tree good e) zero =
      let same : answer 0 (plan_text (planned tree [])) ≡ a = same_answer a (answer 0 (plan_text (planned tree []))) e in
      subst (λ (b : Answer). SaysProductPlan files asked b.text) same (record { parts = parts; sound = are; tree = tree; good = good; says = refl })
  plan_said true false (some_apart plan good some e) zero = absurd (omega (arith, zero, same_status _ _ e))
  plan_said false true d zero = short_plan_said false d zero
  plan_said true true d zero = short_plan_said true d zero

  stuck_said : (rest certificate : Bool) → IsDecidedAs rest certificate parts (Ok a) → a.status ≡ 1 → SaysStuckAs rest certificate files asked a.text
  stuck_said false false (apart tree good e) one = absurd (omega (arith, one, same_status _ _ e))
  stuck_said false false (held members ascending two within is_stuck e) one =
      let same : answer 1 (plan_text (stuck (set_of members))) ≡ a = same_answer a (answer 1 (plan_text (stuck (set_of members)))) e in
      subst (λ (b : Answer). SaysStuckParts files asked b.text) same
      (record {
        parts = parts;
        sound = are;
        set = set_of members;
        within = λ p h. (has-below (length parts) p).1 (All-contains (λ q. q < length parts) members p within ((has-set_of members p).0 h));
        is_stuck = is_stuck;
        says = refl;
      })
  stuck_said true false (all_apart tree good e) one = absurd (omega (arith, one, same_status _ _ e))
  stuck_said true false (some_apart plan good some e) one =
      let same : answer 1 (rest_text plan) ≡ a = same_answer a (answer 1 (rest_text plan)) e in
      subst (λ (b : Answer). SaysPartialPlan files asked b.text) same (record { parts = parts; sound = are; plan = plan; good = good; some = some; says = refl })
  stuck_said false true d one = short_refusal_said false d one
  stuck_said true true d one = short_refusal_said true d one

pub decide_is_right : (request : DecideRequest) (files : Files) (a : Answer) → IsAskedWithin MOST_PRODUCT_PARTS request.asked → DecideWork request files (Ok a) → a.status ≡ 0 → SaysDecidedPlan files request a.text
decide_is_right request files a bounds (inl (fault, at, e)) zero = absurd cc
decide_is_right request files a bounds (inr (built, found, d)) zero = plan_said files request.asked built a (sound_product_parts files request.asked built bounds found) request.rest request.certificate d zero

pub decide_is_denied : (request : DecideRequest) (files : Files) (a : Answer) → IsAskedWithin MOST_PRODUCT_PARTS request.asked → DecideWork request files (Ok a) → a.status ≡ 1 → SaysDecidedStuck files request a.text
decide_is_denied request files a bounds (inl (fault, at, e)) one = absurd cc
decide_is_denied request files a bounds (inr (built, found, d)) one = stuck_said files request.asked built a (sound_product_parts files request.asked built bounds found) request.rest request.certificate d one

-- ---- that there is an answer

-- what is found is an answer, or that the text of a valid refusal's certificate, which was asked for, is too long
pub data IsAnswered (parts : List Part) (rest certificate : Bool) (found : Found Answer) : Type 0 where
  gives : (a : Answer) → found ≡ Ok a → a.status < 2 → IsAnswered parts rest certificate found
  is_long : (c : ShortCertificate) (n : ℕ) → certificate ≡ true → IsShortVerdict parts c ValidRefusal → IsShortRefusal rest c.answer → IsShortInOrder c → TEXT_LIMIT < length (short_text c) → found ≡ Err (TextTooLong n) → IsAnswered parts rest certificate found

short_answered : (parts : List Part) (found : Found Answer) (rest : Bool) → IsDecidedShort rest parts found → IsAnswered parts rest true found
short_answered parts found rest (short_plan c text valid is short e) = gives (answer 0 text) e (omega arith)
short_answered parts found rest (short_refusal c text valid kind is short e) = gives (answer 1 text) e (omega arith)
short_answered parts found rest (long_refusal c n valid kind order long count e) = is_long c n refl valid kind order long e

answered : (parts : List Part) (found : Found Answer) (rest certificate : Bool) → IsDecidedAs rest certificate parts found → IsAnswered parts rest certificate found
answered parts found false false (apart tree good e) = gives (answer 0 (plan_text (planned tree []))) e (omega arith)
answered parts found false false (held members ascending two within is_stuck e) = gives (answer 1 (plan_text (stuck (set_of members)))) e (omega arith)
answered parts found true false (all_apart tree good e) = gives (answer 0 (plan_text (planned tree []))) e (omega arith)
answered parts found true false (some_apart plan good some e) = gives (answer 1 (rest_text plan)) e (omega arith)
answered parts found false true d = short_answered parts found false d
answered parts found true true d = short_answered parts found true d

-- it is no file that is to be read
short_no_read : (parts : List Part) (name : List ℕ) (rest : Bool) → IsDecidedShort rest parts (Err (ReadFault name)) → ⊥
short_no_read parts name rest (short_plan c text valid is short e) = absurd cc
short_no_read parts name rest (short_refusal c text valid kind is short e) = absurd cc
short_no_read parts name rest (long_refusal c n valid kind order long count e) = absurd cc

no_read : (parts : List Part) (name : List ℕ) (rest certificate : Bool) → IsDecidedAs rest certificate parts (Err (ReadFault name)) → ⊥
no_read parts name false false (apart tree good e) = absurd cc
no_read parts name false false (held members ascending two within is_stuck e) = absurd cc
no_read parts name true false (all_apart tree good e) = absurd cc
no_read parts name true false (some_apart plan good some e) = absurd cc
no_read parts name false true d = short_no_read parts name false d
no_read parts name true true d = short_no_read parts name true d

fault_is : (stands fault : Fault) → ◌≡◌ {A = Found Answer} (Err fault) (Err stands) → stands ≡ fault
fault_is stands fault e = cc

-- sound parts are read
read : (files : Files) (asked : Asked) (parts : List Part) → AreSoundProductParts files asked parts → IsSoundProductOf files asked (Ok parts)
read files asked parts are = inr (parts, are.named, sound are.sound refl)

-- a fault at which the reading stands is that of the work
settled_at : (found : Found Answer) (fault : Fault) → found ≡ Err fault → IsSettled found → IsSettled {X = List Part} (Err fault)
settled_at found (ReadFault name) e settled = subst IsSettled e settled
settled_at found fault e settled = tt

-- the parts that were read are those that the files hold
same_parts : (files : Files) (asked : Asked) (parts built : List Part) → AreSoundProductParts files asked parts → IsSoundProductOf files asked (Ok built) → parts ≡ built
same_parts files asked parts built are at = given_one parts built ((sound_product_one files asked).one (Ok parts) (Ok built) (read files asked parts are) at tt tt)

-- where the parts are sound, the work comes to an answer, to a text that is too long, or to a file that is to be read
pub decide_answers : (request : DecideRequest) (files : Files) (parts : List Part) (found : Found Answer) → AreSoundProductParts files request.asked parts → DecideWork request files found → IsSettled found → IsAnswered parts request.rest request.certificate found
decide_answers request files parts found are (inl (fault, at, e)) settled =
    absurd (given_not_fault parts fault ((sound_product_one files request.asked).one (Ok parts) (Err fault) (read files request.asked parts are) at tt (settled_at found fault e settled)))
decide_answers request files parts found are (inr (built, at, d)) settled =
    subst (λ (ps : List Part). IsAnswered ps request.rest request.certificate found) (sym (same_parts files request.asked parts built are at)) (answered built found request.rest request.certificate d)

-- a fault that is found is then that of a text that is too long
pub long_refused : (request : DecideRequest) (parts : List Part) (fault : Fault) → IsAnswered parts request.rest request.certificate (Err fault) → IsLongRefusal parts request (status_of fault)
long_refused request parts fault (gives a e small) = absurd (given_not_fault a fault (sym e))
long_refused request parts fault (is_long c n asks valid kind order long e) =
    record { is = sym (ap status_of (fault_is (TextTooLong n) fault e)); asks = asks; refusal = c; valid = valid; kind = kind; order = order; long = long }

-- where the parts are sound, the work stands at no fault but at a text that is too long, or a file that is there
pub decide_goes_on : (request : DecideRequest) (files : Files) (parts : List Part) (fault : Fault) → AreSoundProductParts files request.asked parts → DecideWork request files (Err fault) → ((name : List ℕ) → fault ≡ ReadFault name → bytes_of name files ≡ None) → IsLongRefusal parts request (status_of fault)
decide_goes_on request files parts fault are (inr (built, at, d)) lacks =
    long_refused request parts fault (subst (λ (ps : List Part). IsAnswered ps request.rest request.certificate (Err fault)) (sym (same_parts files request.asked parts built are at)) (answered built (Err fault) request.rest request.certificate d))
decide_goes_on request files parts fault are (inl (stands, at, e)) lacks = absurd (go stands at (fault_is stands fault e))
  where
    go : (stands : Fault) → IsSoundProductOf files request.asked (Err stands) → stands ≡ fault → ⊥
    go (ReadFault name) at same = (sound_product_one files request.asked).held name (Ok parts) at (lacks name (sym same)) (read files request.asked parts are) tt
    go stands at same = given_not_fault parts stands ((sound_product_one files request.asked).one (Ok parts) (Err stands) (read files request.asked parts are) at tt tt)

-- where a file is to be read and is not there, the work comes to nothing
pub decide_reads : (request : DecideRequest) (files : Files) (name : List ℕ) (found : Found Answer) → DecideWork request files (Err (ReadFault name)) → bytes_of name files ≡ None → DecideWork request files found → IsSettled found → ⊥
decide_reads request files name found (inr (built, at, d)) lacks work settled = no_read built name request.rest request.certificate d
decide_reads request files name found (inl (stands, at, e)) lacks work settled = go work
  where
    here : IsSoundProductOf files request.asked (Err (ReadFault name))
    here = subst (λ f. IsSoundProductOf files request.asked (Err f)) (fault_is stands (ReadFault name) e) at

    go : DecideWork request files found → ⊥
    go (inl (fault, at, e)) = (sound_product_one files request.asked).held name (Err fault) here lacks at (settled_at found fault e settled)
    go (inr (built, at, d)) = (sound_product_one files request.asked).held name (Ok built) here lacks at tt
