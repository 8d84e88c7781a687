-- All facts about attempts and levels behind each small step: what they need behind the step stands there too. Of an attempt's parts it
-- is asked that each action is the one of its name.
use Rattle.std.proofs.Common.{◌≡◌, true}
use Rattle.cg_model.specs.Chronicle.{Chronicle}
use Rattle.cg_model.specs.FactsAttempts.{AttemptFacts}
use Rattle.cg_model.specs.FactsReplica.{IsCore}
use Rattle.cg_model.specs.Facts.{Invariant}
use Rattle.cg_model.specs.Looks.{OfCores}
use Rattle.cg_model.specs.Played.{AtRest}
use Rattle.cg_model.specs.Small.{Small, Starts, Makes, Enters, Orders, Receives, Hands, Leaves, Asks, Settles, Commits, Crashes, Recovers, Copies, Joins, small_step}
use Rattle.cg_model.specs.Smalls.{may_make}
use Rattle.cg_agree.proofs.AttemptFactsKept.{IsSaidNow, AttemptsNow, attempts-now}
use Rattle.cg_agree.proofs.AttemptListKept.{attempt_list-kept}
use Rattle.cg_agree.proofs.CountsMove.{left_out-kept}
use Rattle.cg_agree.proofs.CoreKept.{Fits, cores_core-kept}
use Rattle.cg_agree.proofs.ExchangeKept.{exchange_progress-kept}
use Rattle.cg_agree.proofs.ListEntered.{PartsBooked}
use Rattle.cg_agree.proofs.PartsKept.{attempt_shape-kept}
use Rattle.cg_agree.proofs.PlanThere.{end-fits}
use Rattle.cg_agree.proofs.YellowValidKept.{yellow_valid-kept}
use Rattle.cg_agree.proofs.TalkFactsKept.{talk_legal-kept, sent_iff_due-kept, mode_fits-kept}

-- what is said, and what members hold in exchanges, behind each small step
pub said-now : (c : Chronicle) (s : Small) → Invariant c → may_make c s ≡ true → IsSaidNow (small_step c s)
said-now c s i may = record {
  legal = talk_legal-kept c s i may;
  says = sent_iff_due-kept c s i may;
  modes = mode_fits-kept c s i may;
  progress = exchange_progress-kept c s i may;
}

-- the common yellow list fits where a plan ends in the step
fits-now : (c : Chronicle) (s : Small) → Invariant c → Fits c s
fits-now c (Hands p) i = end-fits c p i
fits-now c (Starts set) i = tt
fits-now c (Makes set) i = tt
fits-now c (Enters p) i = tt
fits-now c (Orders p) i = tt
fits-now c (Receives p place) i = tt
fits-now c (Leaves p set own places) i = tt
fits-now c (Asks p kind) i = tt
fits-now c (Settles p) i = tt
fits-now c (Commits p) i = tt
fits-now c (Crashes p) i = tt
fits-now c (Recovers p) i = tt
fits-now c (Copies p joiner) i = tt
fits-now c (Joins joiner) i = tt

-- What each core is made of, behind each small step.
pub cores-kept-all : (c : Chronicle) (s : Small) → Invariant c → may_make c s ≡ true → OfCores (small_step c s) (IsCore (small_step c s))
cores-kept-all c s i may = cores_core-kept c s i may (fits-now c s i)

-- The facts about attempts and levels but for the parts of an attempt, with no premise but the invariant.
pub attempts-kept-all : (c : Chronicle) (s : Small) → Invariant c → may_make c s ≡ true → AtRest c s → AttemptsNow (small_step c s)
attempts-kept-all c s i may rest = attempts-now c s i may rest (said-now c s i may)

-- what the parts of attempts ask for before the step: each action of the parts is the one of its name
pub record PartsAsk (c : Chronicle) : Type 0 where
  pub parts : PartsBooked c

-- All of them.
pub attempt_facts-kept : (c : Chronicle) (s : Small) → Invariant c → may_make c s ≡ true → AtRest c s → PartsAsk c → AttemptFacts (small_step c s)
attempt_facts-kept c s i may rest ask =
    let now = attempts-kept-all c s i may rest in
    record {
      attempt_shape = attempt_shape-kept c s i may (talk_legal-kept c s i may);
      attempt_list = attempt_list-kept c s i may ask.parts;
      yellow_valid = yellow_valid-kept c s i may i.attempt.yellow_valid;
      left_out = left_out-kept c s i may rest i.attempt.left_out;
      levels_stand = now.levels_stand;
      announced_entered = now.announced_entered;
      installed_announced = now.installed_announced;
      act_installed = now.act_installed;
      record_of_attempt = now.record_of_attempt;
      installed_index = now.installed_index;
      bits_witness = now.bits_witness;
      dead_evidence = now.dead_evidence;
      one_attempt = now.one_attempt;
    }
