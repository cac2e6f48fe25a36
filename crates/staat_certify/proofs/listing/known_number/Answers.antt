use Rattle.staat_certify.proofs.ListedLemmas.{found_at}
use Rattle.staat_certify.proofs.listing.known_number.Goals as goal

pub returns : goal.returns
returns c = found_at (λ v. v.items) c.args.keys.now.keys c.args.key.now c.get_index_of.result c.get_index_of.ensures.index
