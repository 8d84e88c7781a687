-- Evidence covers what could become green at the newest level: of cores, of what was told and of attempts, behind each small step.
use Rattle.std.proofs.Common.{◌≡◌, Bool, true, false, not, refl}
use Rattle.std.specs.Option.{option_map_or}
use Rattle.std.proofs.lemmas.Bool.{and_parts}
use Rattle.cg_members.specs.Servers.{is_server}
use Rattle.cg_client.specs.Replica.{Replica}
use Rattle.cg_model.specs.World.{has_begun, replica_of}
use Rattle.cg_model.specs.Chronicle.{Chronicle}
use Rattle.cg_model.specs.FactsGreens.{InstalledCount, OneOrder, Coverage}
use Rattle.cg_model.specs.Facts.{Invariant}
use Rattle.cg_model.specs.Played.{AtRest}
use Rattle.cg_model.specs.Small.{Small, Starts, Makes, Enters, Orders, Receives, Hands, Leaves, Asks, Settles, Commits, Crashes, Recovers, Copies, Joins, small_step}
use Rattle.cg_model.specs.Smalls.{may_make}
use Rattle.cg_agree.proofs.AttemptsCover.{attempts-cover}
use Rattle.cg_agree.proofs.CoresCover.{IsNewCopy, cores_cover-kept}
use Rattle.cg_agree.proofs.CoversStay.{ReachShrinks}
use Rattle.cg_agree.proofs.ToldCover.{told_covers-kept}
use Rattle.cg_agree.proofs.ToldLine.{behind-now}

-- a snapshot is taken for one who hasn't begun
new-copy : (c : Chronicle) (s : Small) → may_make c s ≡ true → IsNewCopy c s
unfolding may_make
new-copy c (Copies p joiner) may =
    is-false (has_begun c.world joiner)
    (and_parts (not (has_begun c.world joiner)) (option_map_or (λ (r : Replica). is_server r.held.members joiner) (replica_of c.world p) false) may).0
  where
    is-false : (b : Bool) → not b ≡ true → b ≡ false
    is-false true e = absurd (let clash : false ≡ true = e in cc)
    is-false false e = refl
new-copy c (Starts set) may = tt
new-copy c (Makes set) may = tt
new-copy c (Enters p) may = tt
new-copy c (Orders p) may = tt
new-copy c (Receives p place) may = tt
new-copy c (Hands p) may = tt
new-copy c (Leaves p set own places) may = tt
new-copy c (Asks p kind) may = tt
new-copy c (Settles p) may = tt
new-copy c (Commits p) may = tt
new-copy c (Crashes p) may = tt
new-copy c (Recovers p) may = tt
new-copy c (Joins joiner) may = tt

pub coverage-kept : (c : Chronicle) (s : Small) → Invariant c → may_make c s ≡ true → AtRest c s → OneOrder (small_step c s) → InstalledCount (small_step c s) → ReachShrinks c (small_step c s) →
    Coverage (small_step c s)
coverage-kept c s i may rest order counts shrinks =
    let b = behind-now c s i may rest order counts in
    let told = told_covers-kept c s i may shrinks in
    record {
      cores = cores_cover-kept c s i may shrinks (new-copy c s may) b told;
      told = told;
      attempts = attempts-cover (small_step c s) b told;
    }
