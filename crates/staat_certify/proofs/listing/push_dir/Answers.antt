use Rattle.staat_certify.proofs.listing.push_dir.Goals as goal
use Rattle.std.proofs.Common.{◌∙◌, ◌++◌, ◌∷◌, [], ap, arith, refl}
use Rattle.staat_certify.proofs.ListedLemmas.{line_pushed, listed_more, number_small}

pub overflow_cast-number : goal.overflow_cast-number
overflow_cast-number c =
    let named = c.requires.named in
    let of = c.in_ok-number.ensures.number named.witness named.witness_is in
    let le = number_small c.args.sound.now c.args.table.now.of c.args.listing.now.witnesses.items c.name_of.new.listing.witnesses.items named.witness c.in_ok-number.number of in
    let few = c.requires.listed.few in
    let room = c.requires.room in
    omega (arith, le, few, room)

pub returns-clause-listed : goal.returns-clause-listed
returns-clause-listed c =
    let listing = c.args.listing.now in
    let named = c.requires.named in
    let of = c.in_ok-number.ensures.number named.witness named.witness_is in
    listed_more c.args.sound.now c.args.table.now.of listing.witnesses.items c.name_of.new.listing.witnesses.items
    named.witness c.in_ok-number.number of listing.dirs.items c.push.new.self.items c.args.visit.d c.requires.listed named.is (c.in_ok-push.ensures.items ∙ ap (λ v. v.items ++ (record { d = c.args.visit.d; witness = c.in_ok-number.number }) ∷ []) c.in_ok-number.ensures.dirs)

pub returns-clause-line : goal.returns-clause-line
returns-clause-line c = line_pushed c.args.listing.now.dirs.items c.push.new.self.items c.args.visit.d c.args.visit.d c.in_ok-number.number
    (c.in_ok-push.ensures.items ∙ ap (λ v. v.items ++ (record { d = c.args.visit.d; witness = c.in_ok-number.number }) ∷ []) c.in_ok-number.ensures.dirs) refl
