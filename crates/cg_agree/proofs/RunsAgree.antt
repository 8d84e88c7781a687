-- The steps of every run agree, in all parts of Agreement.
use Rattle.cg_model.specs.EveryRun.{EveryRunAgrees}
use Rattle.cg_agree.proofs.AlwaysMade.{always-holds}
use Rattle.cg_agree.proofs.DirtyAnswers.{dirty-answers}
use Rattle.cg_agree.proofs.FoldAnswersRun.{fold-answers}
use Rattle.cg_agree.proofs.MadeBefore.{creator-order}
use Rattle.cg_agree.proofs.MadeStays.{made-stays}
use Rattle.cg_agree.proofs.OrderGrowsRun.{order-grows}
use Rattle.cg_agree.proofs.OrderLonger.{one-primary-all}
use Rattle.cg_agree.proofs.PrefixWhite.{prefix}
use Rattle.cg_agree.proofs.QuietSettles.{quiet-settles}
use Rattle.cg_agree.proofs.RefusedExactly.{refused-exactly}

pub runs-agree : EveryRunAgrees
runs-agree steps refused run said = record {
  order_grows = order-grows always-holds steps run;
  prefix = prefix always-holds steps run;
  creator_order = creator-order always-holds steps run;
  fold_answers = fold-answers always-holds steps run;
  dirty_answers = dirty-answers always-holds steps run;
  one_primary = one-primary-all always-holds steps run;
  quiet_settles = quiet-settles always-holds steps run;
  made_stays = made-stays always-holds steps run;
  refused_exactly = refused-exactly steps refused run said;
}
