-- What the step finds that tests an assembly.
use Rattle.std.proofs.Common.{◌≡◌, ℕ, List, Ok, Err, refl, ap, inl, subst}
use Rattle.std.specs.Prelude.{IfErr, IfOk, IsErrAnd, Result, is_ok, []}
use Rattle.staat_edge.specs.Told.{ShelfTold}
use Rattle.staat_words.specs.declared.request.Asked.{Asked}
use Rattle.staat_model.specs.declared.assembly.Part.{Part}
use Rattle.staat_model.specs.Assemblies.{IsSound}
use Rattle.staat_asm.specs.declared.refusal.AsmRefusal.{AsmRefusal}
use Rattle.staat_asm.specs.declared.refusal.AsmRefusal.TheVariants as asm
use Rattle.staat_asm.specs.Overlaps.{IsFirstOverlap}
use Rattle.staat_fault.specs.declared.fault.Fault.{Fault}
use Rattle.staat_input.specs.declared.limits.Limits.{Limits}
use Rattle.staat_input.specs.Causes.{HasCause, MayName, ShelfSide}
use Rattle.staat_input.specs.Inputs.{IsInputOfWithin}
use Rattle.staat_input.specs.Opened.{OpensInput}
use Rattle.staat_input.specs.Taking.{TakesStep}
use Rattle.staat_input.specs.Work.{Follows, Found}
use Rattle.staat_input.proofs.InputLemmas.{then_given}
use Rattle.staat_input.proofs.OpenedLemmas.{input_opened}
use Rattle.staat_input.proofs.TakingLemmas.{after_none, after_step, takes_fault, takes_pure}
use Rattle.staat_input.specs.Refusals.{asm_fault}
use Rattle.staat_input.specs.Assembling.{IsTested, ReadsSound, overlapping, sound}

pub tested_sound : (parts built : List Part) → built ≡ parts → IsSound built → IsTested parts (Ok built)
tested_sound parts built e is = sound (subst IsSound e is) (ap Ok e)

pub tested_overlap : (parts : List Part) (r : Result (List Part) AsmRefusal) (refusal : AsmRefusal) → r ≡ Err refusal → ((p i q j : ℕ) → r ≡ Err (asm.Overlap p i q j) → IsFirstOverlap parts (record { a = p; i = i; b = q; j = j })) → Follows (IsTested parts) (Err (asm_fault refusal))
tested_overlap parts r (asm.Overlap a i b j) e first = overlapping (record { a = a; i = i; b = b; j = j }) (first a i b j e) refl
tested_overlap parts r asm.OutOfMemory e first = tt

-- the reading of the whole input
abbrev Reads : Limits → Asked → ShelfTold → ShelfTold → Found (List Part) → Type 0
Reads limits asked before now result =
    TakesStep (λ files. IsInputOfWithin limits files asked) (λ found. OpensInput limits (is_ok found) asked.input [] before now)
    (MayName asked.input) before now result

pub failed_read : (limits : Limits) (asked : Asked) {before now : ShelfTold} {f : Fault} (r : Found (List Part))
    → Reads limits asked before now (Err f) → IsErrAnd r (λ e. e ≡ f) → ReadsSound limits asked before now r
failed_read limits asked {before} {now} {f} r reads is =
    takes_fault (after_none before) reads (λ files fit g at. inl (g, at, refl)) (λ g. reads.opens) (λ name may. may) is

pub tests_read : (limits : Limits) (asked : Asked) {before now : ShelfTold} (parts : List Part) (r : Found (List Part))
    → Reads limits asked before now (Ok parts) → Follows (IsTested parts) r → ((shelf : ShelfSide) → IfErr r (HasCause shelf))
    → ReadsSound limits asked before now r
tests_read limits asked {before} {now} parts r reads tested cause =
    takes_pure (after_step reads) (λ files fit. then_given (IsInputOfWithin limits files asked) IsTested parts r (reads.found files fit) tested)
    (input_opened limits (is_ok r) asked.input [] before now reads.opens) cause

-- what holds of the parts holds of those that are sound
pub tested_same : (P : List Part → Type 0) (parts : List Part) (r : Result (List Part) Fault) → Follows
    (IsTested parts) r → P parts → IfOk r P
tested_same P parts (Ok found) (overlapping arc first wrong) h = absurd cc
tested_same P parts (Ok found) (sound is e) h = let same : parts ≡ found = cc in subst P same h
tested_same P parts (Err f) found h = tt

pub ruleset tested = (tested_sound, tested_overlap)
