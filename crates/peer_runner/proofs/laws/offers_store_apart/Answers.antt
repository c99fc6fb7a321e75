use Rattle.shared_words.specs.Rules.{accesses_by}
use Rattle.peer_runner.proofs.OfferStores.{open_offer_stores}
use Rattle.shared_words.proofs.ActionsMakeWords.{made_in}
use Rattle.peer_runner.proofs.laws.offers_store_apart.Goals as goal

pub returns : goal.returns
returns c = λ key s kept p hp. open_offer_stores key kept.fit p hp _ _ (accesses_by kept.acc) (made_in key s kept)
