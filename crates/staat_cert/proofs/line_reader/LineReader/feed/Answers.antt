use Rattle.std.proofs.Common.{◌≡◌, ◌∙◌, ◌+◌, ◌++◌, ℕ, Bool, true, false, List, length}
use Rattle.std.proofs.Common.{length-append, refl, sym, arith}
use Rattle.staat_vec.proofs.Truth.{false_true_clash}
use Rattle.staat_cert.specs.declared.line_reader.LineReader.{LineReader}
use Rattle.staat_cert.specs.TextLines.{AreWholeTexts, ReadsOn, TookIn}
use Rattle.staat_cert.proofs.TextLemmas.{at_no_bad}
use Rattle.staat_cert.proofs.line_reader.LineReader.feed.Goals as goal
use Rattle.staat_cert.proofs.line_reader.LineReader.feed.Goals.{then-self-2-via-then-self-2}
use Rattle.staat_cert.proofs.line_reader.LineReader.feed.Goals.{then-self-2-via-else-self-2+then-piece-self}

-- two facts that never hold together
both : (A : Type 0) (b : Bool) → b ≡ true → b ≡ false → A
both A b t f = absurd (false_true_clash b f t)

module _ {S C : Type 0} (spells : List ℕ → C → Type 0) (taken : S → List ℕ → Type 0) where
  out_fed : (r : LineReader S) (text : List ℕ) → r.is_out ≡ true → AreWholeTexts spells → TookIn spells taken r text
  out_fed r text t texts = record {
    long = λ f l. both _ r.is_out t f;
    total = λ f l. both _ r.is_out t f;
    read = λ f l. both _ r.is_out t f;
    texts = texts;
  }

  grown : (old r : LineReader S) (text piece : List ℕ) → r.is_out ≡ old.is_out → r.is_long ≡ old.is_long → r.total ≡ old.total + length piece
      → ReadsOn spells taken old.progress r.progress piece → old.is_long ≡ false → TookIn spells taken old text → TookIn spells taken r (text ++ piece)
  grown old r text piece out long total read short h = record {
    long = λ f l. both _ old.is_long (sym long ∙ l) short;
    total = λ f l. omega (arith, total, h.total (sym out ∙ f) (sym long ∙ l), length-append text piece);
    read = λ f l. read text (h.read (sym out ∙ f) (sym long ∙ l));
    texts = h.texts;
  }

pub returns-then-self-clause-fed : goal.returns-then-self-clause-fed
returns-then-self-clause-fed g c = λ text h. out_fed _ _ _ _ c.if-self.true h.texts

pub returns-in-Err-clause-fed : goal.returns-in-Err-clause-fed
returns-in-Err-clause-fed g c = λ text h. out_fed _ _ _ _ refl h.texts

pub returns-then-self-3-clause-fed : goal.returns-then-self-3-clause-fed
returns-then-self-3-clause-fed g c = λ text h.
    grown _ _ c.args.self.now _ text c.args.piece.now refl refl refl c.in-Ok.ensures.read c.if-self-2.false h

pub returns-else-self-3-clause-fed : goal.returns-else-self-3-clause-fed
returns-else-self-3-clause-fed g c = λ text h.
    grown _ _ c.args.self.now _ text c.args.piece.now refl refl refl c.in-Ok.ensures.read c.if-self-2.false h

pub returns-then-self-3-clause-answer : goal.returns-then-self-3-clause-answer
returns-then-self-3-clause-answer g c = λ text h. (
  omega (arith, h.total c.if-self.false c.if-self-2.false, length-append text c.args.piece.now),
  (c.in-Ok.ensures.read text (h.read c.if-self.false c.if-self-2.false)).wrong c.if-self-3.true,
)

pub returns-else-self-3-clause-answer : goal.returns-else-self-3-clause-answer
returns-else-self-3-clause-answer g c = λ text h. (
  omega (arith, h.total c.if-self.false c.if-self-2.false, length-append text c.args.piece.now),
  at_no_bad _ _ _ _ _ ((c.in-Ok.ensures.read text (h.read c.if-self.false c.if-self-2.false)).good c.if-self-3.false) h.texts,
)

pub returns-then-self-2-clause-answer : goal.returns-then-self-2-clause-answer
returns-then-self-2-clause-answer g c = λ text h. elim c.then-self-2.branch [
  | then-self-2-via-then-self-2 w ↦
      omega (arith, h.long c.if-self.false w.if-self-2.true, length-append text c.args.piece.now)
  | then-self-2-via-else-self-2+then-piece-self w ↦
      omega (arith, h.total c.if-self.false w.if-self-2.false, w.if-piece-self.true, length-append text c.args.piece.now)
]

pub returns-then-self-2-clause-fed : goal.returns-then-self-2-clause-fed
returns-then-self-2-clause-fed g c = λ text h. record {
  long = λ f l. returns-then-self-2-clause-answer g c text h;
  total = λ f l. both _ true refl l;
  read = λ f l. both _ true refl l;
  texts = h.texts;
}
