use Rattle.cg_items_agree.proofs.FollowersAgree.{followers-agree}
use Rattle.cg_items_agree.proofs.WorldFacts.{always-stands}
use Rattle.cg_items_agree.proofs.followers.followers_agree.Goals as goal

pub returns : goal.returns
returns c = λ kept items refused is.
    followers-agree (always-stands c.runs_agree.ensures c.facts_stand_beside_each_world.ensures c.runs_tell_of_their_worlds.ensures) kept items refused is
