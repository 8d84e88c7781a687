-- The facts about lists, the group, what is said, replicas, exchanges and attempts, each group behind each small step, from all facts
-- before it. What replicas hold of lines asks that greens are of one order behind it.
use Rattle.std.proofs.Common.{◌≡◌, true}
use Rattle.cg_model.specs.Chronicle.{Chronicle}
use Rattle.cg_model.specs.FactsReplica.{MadeOnce, Origins, LinesBelow, ReplicaFacts}
use Rattle.cg_model.specs.FactsExchange.{SummaryOfSender, SummaryLines, TellersStill, ExchangeFacts}
use Rattle.cg_model.specs.FactsAttempts.{AttemptFacts}
use Rattle.cg_model.specs.FactsGreens.{OneOrder}
use Rattle.cg_model.specs.Facts.{Invariant}
use Rattle.cg_model.specs.Played.{AtRest}
use Rattle.cg_model.specs.Small.{Small, small_step}
use Rattle.cg_model.specs.Smalls.{may_make}
use Rattle.cg_agree.proofs.AttemptsAll.{cores-kept-all, attempt_facts-kept}
use Rattle.cg_agree.proofs.CopiesBooked.{made_once-in}
use Rattle.cg_agree.proofs.DiskBehindKept.{disk_behind-kept}
use Rattle.cg_agree.proofs.ExchangeKept.{exchange_progress-kept}
use Rattle.cg_agree.proofs.LinesBelowKept.{Beginnings, lines_below-kept, starters-kept}
use Rattle.cg_agree.proofs.LinesReached.{summary_lines-kept}
use Rattle.cg_agree.proofs.ModeKept.{mode_data-kept}
use Rattle.cg_agree.proofs.PartsBookedKept.{parts_booked-kept}
use Rattle.cg_agree.proofs.SummaryOfSenderKept.{summary_of_sender-kept}
use Rattle.cg_agree.proofs.TellersKept.{tellers-kept}

first : (c : Chronicle) → Invariant c → Beginnings c
first c i = record { unbegun = i.replica.origins.unbegun; starters = i.replica.origins.starters }

pub made_once-now : (c : Chronicle) (s : Small) → Invariant c → may_make c s ≡ true → AtRest c s → MadeOnce (small_step c s)
made_once-now c s i may rest = (made_once-in c s i i.replica.origins.unbegun may rest).0

pub origins-now : (c : Chronicle) (s : Small) → Invariant c → may_make c s ≡ true → AtRest c s → Origins (small_step c s)
origins-now c s i may rest = record {
  unbegun = (made_once-in c s i i.replica.origins.unbegun may rest).1;
  starters = starters-kept c s i may i.replica.origins.starters;
  parts = parts_booked-kept c s i may i.replica.origins.parts;
}

pub lines_below-now : (c : Chronicle) (s : Small) → Invariant c → may_make c s ≡ true → AtRest c s → OneOrder (small_step c s) → LinesBelow (small_step c s)
lines_below-now c s i may rest order = lines_below-kept c s i (first c i) may rest order

-- All facts about replicas.
pub replica-now : (c : Chronicle) (s : Small) → Invariant c → may_make c s ≡ true → AtRest c s → OneOrder (small_step c s) → ReplicaFacts (small_step c s)
replica-now c s i may rest order = record {
  cores = cores-kept-all c s i may;
  mode_data = mode_data-kept c s i may;
  disk_behind = disk_behind-kept c s i.net.hosted may i.replica.disk_behind;
  made_once = made_once-now c s i may rest;
  origins = origins-now c s i may rest;
  lines_below = lines_below-now c s i may rest order;
}

pub summary_of_sender-now : (c : Chronicle) (s : Small) → Invariant c → may_make c s ≡ true → AtRest c s → SummaryOfSender (small_step c s)
summary_of_sender-now c s i may rest = summary_of_sender-kept c s i i.replica.origins.unbegun may rest

pub summary_lines-now : (c : Chronicle) (s : Small) → Invariant c → may_make c s ≡ true → SummaryLines (small_step c s)
summary_lines-now c s i may = summary_lines-kept c s i (first c i) i.exchange.tellers_still may

pub tellers_still-now : (c : Chronicle) (s : Small) → Invariant c → may_make c s ≡ true → AtRest c s → TellersStill (small_step c s)
tellers_still-now c s i may rest = tellers-kept c s i may rest i.exchange.tellers_still

-- All facts about exchanges.
pub exchange-now : (c : Chronicle) (s : Small) → Invariant c → may_make c s ≡ true → AtRest c s → ExchangeFacts (small_step c s)
exchange-now c s i may rest = record {
  summary_of_sender = summary_of_sender-now c s i may rest;
  summary_lines = summary_lines-now c s i may;
  tellers_still = tellers_still-now c s i may rest;
  exchange_progress = exchange_progress-kept c s i may;
}

-- All facts about attempts.
pub attempt-now : (c : Chronicle) (s : Small) → Invariant c → may_make c s ≡ true → AtRest c s → AttemptFacts (small_step c s)
attempt-now c s i may rest = attempt_facts-kept c s i may rest (record { parts = i.replica.origins.parts })
