-- A short certificate's text is lines that lead to its end, and bytes have one reading at most.
use Rattle.std.proofs.Common.{◌≡◌, ◌≢◌, ℕ, List, ap, refl, ◌∙◌, arith}
use Rattle.std.specs.Prelude.{None, Result, Ok, Err, flat_map}
use Rattle.staat_cert.specs.declared.cert_refusal.CertRefusal.{CertRefusal}
use Rattle.staat_cert.specs.declared.cert_refusal.CertRefusal.TheVariants.{BadLine, ShortCert, TooLong, OutOfMemory}
use Rattle.staat_cert.proofs.Formats.{IsFormat, are_whole, state_there}
use Rattle.staat_cert.proofs.TextLemmas.{no_bad_in_whole, one_bad}
use Rattle.staat_short.specs.declared.short.ShortCertificate.{ShortCertificate}
use Rattle.staat_short.specs.declared.line.ShortLine.{ShortLine}
use Rattle.staat_short.specs.declared.line.ShortLine.TheVariants as line
use Rattle.staat_short.specs.declared.stage.Stage.{Stage}
use Rattle.staat_short.specs.declared.stage.Stage.TheVariants.{Complete}
use Rattle.staat_short.specs.ShortLines.{IsShortLine, short_line_text}
use Rattle.staat_short.specs.ShortTexts.{IsShortTextOf, short_lines}
use Rattle.staat_short.specs.ShortFeeds.{IsShortReadAnswer}
use Rattle.staat_short.specs.ShortViews.{HasTakenShort, front_of}
use Rattle.staat_short.specs.Fronts.{untitled, complete, front_after}
use Rattle.staat_short.proofs.ShortLineLemmas.{one_short_line, short_line_length, short_line_whole}
use Rattle.staat_short.proofs.Completions.{certificate_runs, complete_whole, completes, completion, completion_form}

pub format : IsFormat short_line_text IsShortLine front_after untitled complete IsShortTextOf
format = record {
  are_lines = record { whole = short_line_whole; once = one_short_line };
  short = short_line_length;
  leads = λ bytes c f. record { lines = short_lines c; is = f.is; bounds = f.form.lines; runs = certificate_runs c f.form };
  spelled = λ bytes c h. let w = complete_whole h.lines c h.bounds h.runs in record { form = w.0; is = h.is ∙ ap (flat_map short_line_text) w.1 };
  completion = completion;
  completion_in = completion_form;
  completed = completes;
  last = last;
}
  where
    last : (c : ShortCertificate) (l : ShortLine) → front_after (complete c) l ≡ None
    last c line.End = refl
    last c l = refl

-- where the lines have not ended, no certificate was read
pub none_there : (s : Stage) → ((c : ShortCertificate) → s ≡ Complete c → ⊥) → (bytes : List ℕ) → HasTakenShort s bytes → (c : ShortCertificate) → IsShortTextOf bytes c → ⊥
none_there s none bytes h c f = go s none (state_there format (front_of s) c bytes h f)
  where
    go : (t : Stage) → ((d : ShortCertificate) → t ≡ Complete d → ⊥) → front_of t ≡ complete c → ⊥
    go (Complete d) none e = none d refl
    go t none e = cc

pub one_certificate : (bytes : List ℕ) (c d : ShortCertificate) → IsShortTextOf bytes c → IsShortTextOf bytes d → c ≡ d
one_certificate bytes c d f g = let ends : complete c ≡ complete d = state_there format (complete c) d bytes (format.leads bytes c f) g in cc

pub one_short_answer : (text : List ℕ) (r s : Result ShortCertificate CertRefusal) → IsShortReadAnswer text r → IsShortReadAnswer text s → r ≢ Err OutOfMemory → s ≢ Err OutOfMemory → r ≡ s
one_short_answer text (Err OutOfMemory) s g h p q = absurd (p refl)
one_short_answer text r (Err OutOfMemory) g h p q = absurd (q refl)
one_short_answer text (Err TooLong) (Err TooLong) g h p q = refl
one_short_answer text (Err TooLong) s g h p q = absurd (omega (arith, g, h.0))
one_short_answer text r (Err TooLong) g h p q = absurd (omega (arith, g.0, h))
one_short_answer text (Ok c) (Ok d) g h p q = ap Ok (one_certificate text c d g.1 h.1)
one_short_answer text (Ok c) (Err (BadLine m)) g h p q = absurd (no_bad_in_whole IsShortTextOf (are_whole format) text c m g.1 h.1)
one_short_answer text (Ok c) (Err ShortCert) g h p q = absurd (h.1.no_text c g.1)
one_short_answer text (Err (BadLine k)) (Ok d) g h p q = absurd (no_bad_in_whole IsShortTextOf (are_whole format) text d k h.1 g.1)
one_short_answer text (Err (BadLine k)) (Err (BadLine m)) g h p q = ap (λ n. Err (BadLine n)) (one_bad IsShortTextOf (are_whole format) text k m g.1 h.1)
one_short_answer text (Err (BadLine k)) (Err ShortCert) g h p q = absurd (h.1.no_bad_line k g.1)
one_short_answer text (Err ShortCert) (Ok d) g h p q = absurd (g.1.no_text d h.1)
one_short_answer text (Err ShortCert) (Err (BadLine m)) g h p q = absurd (g.1.no_bad_line m h.1)
one_short_answer text (Err ShortCert) (Err ShortCert) g h p q = refl
