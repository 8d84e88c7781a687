-- All facts hold behind each small step, from all facts before it.
use Rattle.std.proofs.Common.{◌≡◌, true}
use Rattle.cg_model.specs.Chronicle.{Chronicle}
use Rattle.cg_model.specs.FactsGreens.{InstalledCount, GreenFacts}
use Rattle.cg_model.specs.Facts.{Invariant}
use Rattle.cg_model.specs.Played.{AtRest}
use Rattle.cg_model.specs.Small.{Small, small_step}
use Rattle.cg_model.specs.Smalls.{may_make}
use Rattle.cg_agree.proofs.BeginsKept.{begins_with-kept}
use Rattle.cg_agree.proofs.CoverageKept.{coverage-kept}
use Rattle.cg_agree.proofs.FactsKept.{replica-now, exchange-now, attempt-now}
use Rattle.cg_agree.proofs.InstalledCountKept.{installed_count-kept}
use Rattle.cg_agree.proofs.LeaverLeft.{leaver-left}
use Rattle.cg_agree.proofs.LeaverStep.{leaver_covers-from}
use Rattle.cg_agree_lemmas.specs.ListsKept.{lists-kept}
use Rattle.cg_agree.proofs.NetFactsKept.{net-kept}
use Rattle.cg_agree.proofs.OrderNow.{lists-reach, spine-behind, one_order-behind}
use Rattle.cg_agree.proofs.PrimaryKept.{primary_greens-kept}
use Rattle.cg_agree.proofs.TalkFactsKept.{talk-kept}
use Rattle.cg_agree.proofs.TransKept.{trans_coverage-kept}

module _ (c : Chronicle) (s : Small) (i : Invariant c) (may : may_make c s ≡ true) (rest : AtRest c s) where
  counts : InstalledCount (small_step c s)
  counts = installed_count-kept c s i may rest i.attempt.left_out

  pub greens-now : GreenFacts (small_step c s)
  greens-now =
      let primary = primary_greens-kept c s i may in
      let order = one_order-behind c s i may rest counts primary in
      record {
        begins_with = begins_with-kept c s i may;
        primary_greens = primary;
        installed_count = counts;
        spine = spine-behind c s i may rest counts;
        one_order = order;
        trans_coverage = trans_coverage-kept c s i may (lists-reach c s i may rest counts) (leaver_covers-from c s i may rest (leaver-left c s i may rest));
        coverage = coverage-kept c s i may rest order counts (lists-reach c s i may rest counts);
      }

  pub invariant-now : Invariant (small_step c s)
  invariant-now = record {
    lists = lists-kept c s may i.lists;
    net = net-kept c s i may;
    talk = talk-kept c s i may;
    replica = replica-now c s i may rest greens-now.one_order;
    exchange = exchange-now c s i may rest;
    attempt = attempt-now c s i may rest;
    green = greens-now;
  }
