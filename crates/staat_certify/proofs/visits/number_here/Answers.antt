use Rattle.std.proofs.Common.{◌∙◌, ap, map, sym, subst, Some}
use Rattle.staat_model.specs.Certify.{IsWitnessAt}
use Rattle.staat_certify.specs.WitnessListings.{witness_in}
use Rattle.staat_certify.proofs.ListedLemmas.{kept, known_is}
use Rattle.staat_certify.proofs.visits.number_here.Goals as goal

pub returns-in-Some-known_number-clause-number : goal.returns-in-Some-known_number-clause-number
returns-in-Some-known_number-clause-number c =
    let t = c.args.at.now.table.now in
    let here = witness_in c.put_witness.new.room in
    let known = c.in-Some-known_number in
    record {
      keys_are = c.requires.keys;
      kept = λ k x at. at;
      names = record {
        witness = here;
        witness_is = known_is t (map (λ v. v.items) c.args.found.now.keys.keys) c.args.found.now.witnesses.items here known.number c.set-set.ensures.rules c.in_ok-put_witness.ensures.arcs c.requires.keys (known.ensures ∙ ap Some (c.as_slice.ensures.value ∙ c.in_ok-put_witness.ensures.key));
        is = c.in_ok-put_witness.ensures.witness;
      };
    }

pub returns-clause-number : goal.returns-clause-number
returns-clause-number c =
    let of = c.in_ok-number.ensures.number in
    record {
      keys_are = c.in_ok-number.ensures.keys;
      kept = kept c.args.at.now.sound.now c.args.at.now.table.now.of c.args.found.now.witnesses.items c.number_witness.new.witnesses.items c.in_ok-here.here c.in_ok-number.number of;
      names = record { witness = c.in_ok-here.here; witness_is = of.at; is = subst (IsWitnessAt c.args.at.now.sound.now c.args.at.now.table.now.of c.args.at.now.d) (sym c.in_ok-here.ensures) c.in_ok-put_witness.ensures.witness };
    }
