-- The end of the input behind what is held.
use Rattle.std.proofs.Common.{◌≡◌, ◌<◌, ◌-◌, ℕ, List, [], ◌∷◌, length, Some, None, refl, ◌∙◌, arith}
use Rattle.cg_items.specs.declared.report.Report.{Report}
use Rattle.cg_items.specs.declared.report.Report.TheVariants.{Imaged}
use Rattle.cg_model.specs.World.{World}
use Rattle.cg_outcome.specs.declared.status.Status.{Status}
use Rattle.cg_outcome.specs.declared.status.Status.TheVariants as status
use Rattle.cg_outcome.specs.Outcome.{Ended, Ending, at_end, cut_line, last_piece}
use Rattle.cg_outcome.specs.Produced.{Progress}
use Rattle.cg_outcome.specs.StageLaws.{from-held, last-empty}
use Rattle.cg_outcome.specs.Stopping.{Leaves}
use Rattle.cg_outcome.specs.Streaming.{Stage, IsHeld, from_stage, held_limit}

last-cut : (n at : ℕ) (held : List ℕ) (how : Ending) (s : Progress) → 0 < length held → held_limit n at held ≡ None → last_piece n at held how s ≡ cut_line n held how s
last-cut n at [] how s some none = absurd (omega (arith, some))
last-cut n at (b ∷ bs) how s some none = rw none refl

-- nothing is held
pub held-nothing : (st : Stage) (held : List ℕ) → IsHeld st held → length held ≡ 0 → from_stage st held Ended ≡ at_end (st.line - 1) Ended st.progress
held-nothing st held is none = from-held st held Ended is.unended ∙ last-empty st.line st.at held st.progress none

-- a last line is held
pub held-line : (st : Stage) (held : List ℕ) → IsHeld st held → 0 < length held → from_stage st held Ended ≡ cut_line st.line held Ended st.progress
held-line st held is some = from-held st held Ended is.unended ∙ last-cut st.line st.at held Ended st.progress some is.unpassed

-- a run leaves the world that it has
pub leaves-there : (st : Status) (report : Report) (w : World) → Leaves st report w (Some w)
leaves-there status.Done Imaged w = refl
leaves-there st report w = tt
