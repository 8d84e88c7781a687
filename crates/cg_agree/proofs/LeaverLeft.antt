-- What was left to prove of who leaves a primary component: its yellow names begin with those of the row that it has received, and who
-- installs its attempt in the parting covers its level.
use Rattle.std.proofs.Common.{◌≡◌, true}
use Rattle.cg_model.specs.Chronicle.{Chronicle}
use Rattle.cg_model.specs.Facts.{Invariant}
use Rattle.cg_model.specs.Played.{AtRest}
use Rattle.cg_model.specs.Small.{Small, Starts, Makes, Enters, Orders, Receives, Hands, Leaves, Asks, Settles, Commits, Crashes, Recovers, Copies, Joins}
use Rattle.cg_model.specs.Smalls.{may_make}
use Rattle.cg_agree.proofs.LateCovers.{late-covers}
use Rattle.cg_agree.proofs.LeaverStep.{LeaverLeft}
use Rattle.cg_agree.proofs.RowYellow.{row-is-yellow}

pub leaver-left : (c : Chronicle) (s : Small) → Invariant c → may_make c s ≡ true → AtRest c s → LeaverLeft c s
leaver-left c (Leaves p set own places) i may rest = (row-is-yellow c p set places i, late-covers c p set own places i may rest)
leaver-left c (Starts set) i may rest = tt
leaver-left c (Makes set) i may rest = tt
leaver-left c (Enters p) i may rest = tt
leaver-left c (Orders p) i may rest = tt
leaver-left c (Receives p place) i may rest = tt
leaver-left c (Hands p) i may rest = tt
leaver-left c (Asks p kind) i may rest = tt
leaver-left c (Settles p) i may rest = tt
leaver-left c (Commits p) i may rest = tt
leaver-left c (Crashes p) i may rest = tt
leaver-left c (Recovers p) i may rest = tt
leaver-left c (Copies p joiner) i may rest = tt
leaver-left c (Joins joiner) i may rest = tt
