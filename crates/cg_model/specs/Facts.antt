-- The invariant: what holds after every small step; and what holds besides at the end of every step.
use Rattle.cg_model.specs.Chronicle.{Chronicle}
use Rattle.cg_model.specs.FactsLists.{ListFacts}
use Rattle.cg_model.specs.FactsNet.{NetFacts, ReceiptsFixed}
use Rattle.cg_model.specs.FactsTalk.{TalkFacts}
use Rattle.cg_model.specs.FactsReplica.{ReplicaFacts, ReplicaRests}
use Rattle.cg_model.specs.FactsExchange.{ExchangeFacts}
use Rattle.cg_model.specs.FactsAttempts.{AttemptFacts}
use Rattle.cg_model.specs.FactsGreens.{GreenFacts}
use Rattle.cg_model.specs.FactsBooks.{OrderBook, MadeBook, ListsGrow}

pub record Invariant (c : Chronicle) : Type 0 where
  pub lists : ListFacts c
  pub net : NetFacts c
  pub talk : TalkFacts c
  pub replica : ReplicaFacts c
  pub exchange : ExchangeFacts c
  pub attempt : AttemptFacts c
  pub green : GreenFacts c

-- at the end of a step
pub record Rests (c : Chronicle) : Type 0 where
  pub replica : ReplicaRests c
  pub order_book : OrderBook c
  pub made_book : MadeBook c

-- from before a small step to behind it
pub record Moves (c d : Chronicle) : Type 0 where
  pub receipts_fixed : ReceiptsFixed c d
  pub lists_grow : ListsGrow c d
