use Rattle.staat_local.proofs.ByFacets.{starts_by_contact_lemma}
use Rattle.staat_local.proofs.laws.starts_by_contact.Goals as goal

pub returns : goal.returns
returns c = starts_by_contact_lemma
