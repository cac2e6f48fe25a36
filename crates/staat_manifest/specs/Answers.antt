-- Answers in which want of memory is free.
use Rattle.std.specs.Prelude.{◌≡◌, Option, Some, None, Result, Ok, Err, ⊤}
use Rattle.staat_manifest.specs.declared.refusal.ManifestRefusal.{ManifestRefusal}
use Rattle.staat_manifest.specs.declared.refusal.ManifestRefusal.TheVariants.{OutOfMemory}

-- the refusal is the one of the broken rule
abbrev pub RefusesPart : Option ManifestRefusal → ManifestRefusal → Type 0
RefusesPart broken OutOfMemory = ⊤
RefusesPart broken refusal = broken ≡ Some refusal

-- accepted where no rule is broken, and else refused as the broken rule says
abbrev pub JudgesPart : {X : Type 0} → Option ManifestRefusal → Result X ManifestRefusal → Type 0
JudgesPart broken (Ok x) = broken ≡ None
JudgesPart broken (Err refusal) = RefusesPart broken refusal

-- the answer is this one
abbrev pub AnswersList : {X : Type 0} → Result X ManifestRefusal → Result X ManifestRefusal → Type 0
AnswersList wanted (Ok x) = wanted ≡ Ok x
AnswersList wanted (Err OutOfMemory) = ⊤
AnswersList wanted (Err refusal) = wanted ≡ Err refusal
