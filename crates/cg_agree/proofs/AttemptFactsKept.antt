-- Facts about attempts behind each small step, all together: what they need of what is said and of an exchange stands behind the step too.
use Rattle.std.proofs.Common.{◌≡◌, ℕ, true, IfSome}
use Rattle.cg_model.specs.World.{replica_of}
use Rattle.cg_model.specs.Chronicle.{Chronicle}
use Rattle.cg_model.specs.FactsTalk.{TalkLegal, SentIffDue, ModeFits}
use Rattle.cg_model.specs.FactsReplica.{IsModeData, DiskBehind}
use Rattle.cg_model.specs.FactsExchange.{ExchangeProgress}
use Rattle.cg_model.specs.FactsAttempts.{LevelsStand, AnnouncedEntered, InstalledAnnounced, ActInstalled, RecordOfAttempt, InstalledIndex, BitsWitness, DeadEvidence, OneAttempt}
use Rattle.cg_model.specs.Facts.{Invariant}
use Rattle.cg_model.specs.Played.{AtRest}
use Rattle.cg_model.specs.Small.{Small, small_step}
use Rattle.cg_model.specs.Smalls.{may_make}
use Rattle.cg_agree_lemmas.specs.GroupKept.{phase_sound-kept}
use Rattle.cg_agree.proofs.AttemptSteps.{group-of}
use Rattle.cg_agree_lemmas.specs.RecordKept.{record-kept}
use Rattle.cg_agree.proofs.OneAttemptKept.{one_attempt-kept}
use Rattle.cg_agree.proofs.DeadEvidenceKept.{dead_evidence-kept}
use Rattle.cg_agree.proofs.LevelsOpen.{installed_announced-kept}
use Rattle.cg_agree.proofs.LevelsKept.{levels_stand-kept}
use Rattle.cg_agree.proofs.InstalledIndexKept.{installed_index-kept}
use Rattle.cg_agree.proofs.EndReached.{bits-kept}
use Rattle.cg_agree.proofs.AnnouncedKept.{announced_entered-kept, act_installed-kept}
use Rattle.cg_agree.proofs.ModeKept.{mode_data-kept}
use Rattle.cg_agree.proofs.DiskBehindKept.{disk_behind-kept}

-- what stands behind the step of what is said and of an exchange
pub record IsSaidNow (d : Chronicle) : Type 0 where
  pub legal : TalkLegal d
  pub says : SentIffDue d
  pub modes : ModeFits d
  pub progress : ExchangeProgress d

-- the facts about attempts and levels, but for what an attempt is made of
pub record AttemptsNow (d : Chronicle) : Type 0 where
  pub mode_data : (p : ℕ) → IfSome (replica_of d.world p) (IsModeData d p)
  pub disk_behind : DiskBehind d
  pub levels_stand : LevelsStand d
  pub announced_entered : AnnouncedEntered d
  pub installed_announced : InstalledAnnounced d
  pub act_installed : ActInstalled d
  pub record_of_attempt : RecordOfAttempt d
  pub installed_index : InstalledIndex d
  pub bits_witness : BitsWitness d
  pub dead_evidence : DeadEvidence d
  pub one_attempt : OneAttempt d

-- Each small step keeps them.
pub attempts-now : (c : Chronicle) (s : Small) → Invariant c → may_make c s ≡ true → AtRest c s → IsSaidNow (small_step c s) → AttemptsNow (small_step c s)
attempts-now c s i may rest said =
    let sound = phase_sound-kept c s i.net.hosted may (group-of c i) in
    let modes = mode_data-kept c s i may in
    let announcers = announced_entered-kept c s i may sound said.says said.modes modes in
    let announced = installed_announced-kept c s i may in
    record {
      mode_data = modes;
      disk_behind = disk_behind-kept c s i.net.hosted may i.replica.disk_behind;
      levels_stand = levels_stand-kept c s i may;
      announced_entered = announcers;
      installed_announced = announced;
      act_installed = act_installed-kept c s i may sound said.legal said.says said.modes modes;
      record_of_attempt = record-kept c s i may;
      installed_index = installed_index-kept c s i may rest;
      bits_witness = bits-kept c s i may said.progress;
      dead_evidence = dead_evidence-kept c s i may rest announcers announced said.modes;
      one_attempt = one_attempt-kept c s i may;
    }
