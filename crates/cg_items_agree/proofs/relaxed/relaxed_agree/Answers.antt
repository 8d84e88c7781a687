use Rattle.cg_items_agree.proofs.EveryItem.{relaxed-agree}
use Rattle.cg_items_agree.proofs.relaxed.relaxed_agree.Goals as goal

pub returns : goal.returns
returns c =
    relaxed-agree c.facts_stand_beside_each_world.ensures c.runs_tell_of_their_worlds.ensures c.made_actions_stand_in_the_book.ensures
    c.relaxed_values_agree.ensures.order
