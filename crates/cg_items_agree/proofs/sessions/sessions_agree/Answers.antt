use Rattle.cg_items_agree.proofs.SessionsFields.{every-run}
use Rattle.cg_items_agree.proofs.sessions.sessions_agree.Goals as goal

pub returns : goal.returns
returns c = every-run (record {
  agree = c.runs_agree.ensures;
  guarantee = c.agreement_gives_guarantees.ensures;
  stand = c.facts_stand_beside_each_world.ensures;
  tell = c.runs_tell_of_their_worlds.ensures;
  made = c.made_actions_stand_in_the_book.ensures;
})
