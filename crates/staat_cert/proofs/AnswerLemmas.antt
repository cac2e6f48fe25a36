-- Reading a text has one answer.
use Rattle.std.proofs.Common.{◌≡◌, ◌≢◌, ℕ, List, ap, refl, arith}
use Rattle.std.specs.Prelude.{Result, Ok, Err}
use Rattle.staat_model.specs.declared.certificate.Certificate.{Certificate}
use Rattle.staat_model.specs.Texts.{IsReading, Reading, whole, bad_line, too_short}
use Rattle.staat_model.proofs.OneReading.{IsReading-unique}
use Rattle.staat_cert.specs.declared.cert_refusal.CertRefusal.{CertRefusal}
use Rattle.staat_cert.specs.declared.cert_refusal.CertRefusal.TheVariants.{BadLine, ShortCert, TooLong, OutOfMemory}
use Rattle.staat_cert.specs.Feeds.{IsReadAnswer}

-- the answer that a reading is
abbrev answer_of : Reading → Result Certificate CertRefusal
answer_of (whole c) = Ok c
answer_of (bad_line k) = Err (BadLine k)
answer_of too_short = Err ShortCert

-- and the reading that an answer is
abbrev reading_of : Result Certificate CertRefusal → Reading
reading_of (Ok c) = whole c
reading_of (Err (BadLine k)) = bad_line k
reading_of (Err e) = too_short

one_of : (text : List ℕ) (r s : Reading) → IsReading text r → IsReading text s → answer_of r ≡ answer_of s
one_of text r s g h = ap answer_of (IsReading-unique text r s g h)

pub one_read_answer : (text : List ℕ) (r s : Result Certificate CertRefusal) → IsReadAnswer text r → IsReadAnswer text s → r ≢ Err OutOfMemory → s ≢ Err OutOfMemory → r ≡ s
one_read_answer text (Err OutOfMemory) s g h p q = absurd (p refl)
one_read_answer text r (Err OutOfMemory) g h p q = absurd (q refl)
one_read_answer text (Err TooLong) (Err TooLong) g h p q = refl
one_read_answer text (Err TooLong) s g h p q = absurd (omega (arith, g, h.0))
one_read_answer text r (Err TooLong) g h p q = absurd (omega (arith, g.0, h))
one_read_answer text r s g h p q = one_of text (reading_of r) (reading_of s) g.1 h.1
