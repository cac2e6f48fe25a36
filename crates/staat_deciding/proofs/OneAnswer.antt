-- What the work on a graph of a product finds is one thing.
use Rattle.staat_words.specs.declared.request.GraphRequest.{GraphRequest}
use Rattle.staat_input.specs.Assembling.{IsSoundProductOf}
use Rattle.staat_input.specs.Work.{Files}
use Rattle.staat_input.proofs.OneFinding.{FindsOne, then_one}
use Rattle.staat_input.proofs.OneInput.{sound_product_one}
use Rattle.staat_directions.proofs.OneAnswer.{graphed_one}
use Rattle.staat_deciding.specs.Blocks.{BlocksWork}

pub blocks_one : (request : GraphRequest) (files : Files) → FindsOne files (BlocksWork request files)
blocks_one request files = then_one files (IsSoundProductOf files request.asked) _ (sound_product_one files request.asked)
    (λ parts. graphed_one files parts request.along)
