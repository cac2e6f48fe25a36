use Rattle.std.proofs.Common.{◌≡◌, ◌∙◌, ◌≤◌, ℕ, false, List, length, subst, sym, refl, ap, arith}
use Rattle.std.specs.Prelude.{None, Option, Some}
use Rattle.std.specs.Option.{ok_or}
use Rattle.staat_limits.specs.declared.limits.TheConstants.{TEXT_LIMIT}
use Rattle.staat_model.specs.Texts.{joined}
use Rattle.staat_cert.specs.declared.cert_refusal.CertRefusal.TheVariants.{ShortCert}
use Rattle.staat_cert.specs.TextLines.{AreWholeTexts, IsAnswerTo, IsReadTo, TellsWhole, lacks_memory}
use Rattle.staat_cert.proofs.TextLemmas.{cut_short, whole_read}
use Rattle.staat_cert.proofs.line_reader.LineReader.finish.Goals as goal

answered : {C : Type 0} (spells : List ℕ → C → Type 0) (taken : List ℕ → Type 0) (rest : List ℕ) (count : ℕ) (text : List ℕ) (o : Option C)
    → AreWholeTexts spells → ((t : List ℕ) → taken t → TellsWhole spells t o) → length text ≤ TEXT_LIMIT
    → IsReadTo spells taken rest count text → IsAnswerTo spells text (ok_or o ShortCert)
answered spells taken rest count text None texts told short read = (short, cut_short spells taken rest count text read texts (told (joined read.lines) read.took))
answered spells taken rest count text (Some d) texts told short read = (short, whole_read spells taken rest count text read d (told (joined read.lines) read.took))

in_memory : {C : Type 0} (o : Option C) → false ≡ lacks_memory (ok_or o ShortCert)
in_memory None = refl
in_memory (Some d) = refl

pub returns-in-None-clause-answer : goal.returns-in-None-clause-answer
returns-in-None-clause-answer g c = λ text fed.
    let passes = c.in-None.ensures.none in
    let spells = g.S.TextStage.spells in
    let taken = g.S.TextStage.has_taken c.args.self.progress.stage in
    subst (IsAnswerTo spells text) (sym c.ok_or.ensures.value)
    (answered spells taken c.args.self.progress.line.items c.args.self.progress.count text c.whole.result fed.texts c.whole.ensures
    (omega (arith, fed.total passes.0 passes.1, c.args.self.bounded))
    ((fed.read passes.0 passes.1).good passes.2))

pub returns-in-None-clause-failing : goal.returns-in-None-clause-failing
returns-in-None-clause-failing g c = c.in-None.ensures.none.0 ∙ in_memory c.whole.result ∙ ap lacks_memory (sym c.ok_or.ensures.value)
