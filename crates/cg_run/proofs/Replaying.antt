-- What a command comes to that replays its input.
use Rattle.std.proofs.Common.{◌≡◌, ℕ, List, [], ◌++◌, take, Option, Some, None, refl, sym, ap, subst, ◌∙◌, arith}
use Rattle.cg_io.specs.Outside.{SourceView, SinkView, PutsAll}
use Rattle.cg_items.specs.declared.companion.Companion.{Companion}
use Rattle.cg_items.specs.declared.report.Report.{Report}
use Rattle.cg_model.specs.World.{World}
use Rattle.cg_outcome.specs.declared.command.Command.{Command}
use Rattle.cg_outcome.specs.declared.status.Status.{Status}
use Rattle.cg_outcome.specs.declared.status.Status.TheVariants as status
use Rattle.cg_outcome.specs.Commands.{command_of}
use Rattle.cg_outcome.specs.GoingOnLaws.{Appends-none}
use Rattle.cg_outcome.specs.Outcome.{Ending, Open, outcome_of, text_put}
use Rattle.cg_outcome.specs.Produced.{Produced, text_of, status_of}
use Rattle.cg_outcome.specs.Putting.{StopsWith}
use Rattle.cg_outcome.specs.Stopping.{EndsShort}
use Rattle.cg_outcome.specs.Streaming.{Ends, FailedIsLast, Replays, Stage, first_stage, from_stage}
use Rattle.cg_outcome.specs.TakeLaws.{Consumes-none}
use Rattle.cg_outcome.specs.Taking.{IsImage, Runs, ReadCause}
use Rattle.cg_outcome.specs.NearLaws.{Runs-near}
use Rattle.cg_outcome.specs.SparedLaws.{read-cause}
use Rattle.cg_run.specs.declared.progress.Run.{Run}
use Rattle.cg_run.specs.Performing.{seen_stage}

-- memory was refused before anything was taken
pub Replays-nothing : (report : Report) (c : Companion) (old : SourceView) (v : SinkView) (left : Option World) →
    Replays report c old old v v left status.NoMemory
Replays-nothing report c old v left =
    let p : Produced = from_stage (first_stage c) [] Open in
    record {
      taken = [];
      ending = Open;
      consumed = Consumes-none old.left;
      cause = refl;
      holds = (
        omega arith,
        (
          record {
            front = record { front = []; rest = text_of report p; whole = refl; grown = Appends-none v.held };
            counted = omega arith;
          },
          λ finding. absurd finding,
        ),
        λ m few. absurd (omega (arith, few)),
        λ is. absurd (cc),
        tt,
      );
    }

-- the command puts a report of what its input comes to, with this beside the world
pub record IsReplay (command : Command) (report : Report) (c : Companion) : Type 0 where
  pub text : (p : Produced) → text_put (Some command) [] p ≡ text_of report p
  pub plain : (p : Produced) (st : Status) → IsImage (Some command) p st []
  pub comes : (taken : List ℕ) (how : Ending) → outcome_of (Some command) taken how ≡ from_stage (first_stage c) taken how

module _ (command : Command) (report : Report) (c : Companion) (is : IsReplay command report c)
    (old new : SourceView) (v v' : SinkView) (left : Option World) (st : Status) (r : Replays report c old new v v' left st) where
  replay-ends : Ends (Some command) [] (outcome_of (Some command) r.taken r.ending) v v' st
  replay-ends =
      subst (λ (p : Produced). Ends (Some command) [] p v v' st) (sym (is.comes r.taken r.ending))
      (subst (λ (text : List ℕ). StopsWith text (status_of (from_stage (first_stage c) r.taken r.ending)) v v' st)
      (sym (is.text (from_stage (first_stage c) r.taken r.ending))) r.holds.1.0)

  replay-runs-so : Runs (Some command) old new v v' st
  replay-runs-so = Runs-near (Some command) [] old new v v' st (record {
    taken = r.taken;
    ending = r.ending;
    consumed = r.consumed;
    cause = r.cause;
    holds = (
      r.holds.0,
      is.plain (outcome_of (Some command) r.taken r.ending) st,
      replay-ends,
      λ m le.
          subst (λ (p : Produced). (p.found ≡ None) × (rest : List ℕ) × PutsAll v v' (text_put (Some command) [] p ++ rest))
          (sym (is.comes (take m r.taken) Open))
          (subst (λ (text : List ℕ). ((from_stage (first_stage c) (take m r.taken) Open).found ≡ None)
          × (rest : List ℕ) × PutsAll v v' (text ++ rest))
          (sym (is.text (from_stage (first_stage c) (take m r.taken) Open))) (r.holds.2 m le)),
      λ reads. subst (λ (p : Produced). EndsShort p st) (sym (is.comes r.taken r.ending)) r.holds.1.1,
    );
  })

  pub replay-runs : (words : List (List ℕ)) → command_of words ≡ Some command → Runs (command_of words) old new v v' st
  replay-runs words is_command =
      subst (λ (o : Option Command). Runs o old new v v' st) (sym is_command) replay-runs-so

  pub replay-cause : ReadCause old new st
  replay-cause =
      read-cause (Some command) [] r.taken r.ending old new v v' st r.cause
      (subst (λ (p : Produced). FailedIsLast r.ending p) (sym (is.comes r.taken r.ending)) r.holds.3) replay-ends

-- a run that has just begun keeps this beside the world
pub begins : (run : Run) (c : Companion) → seen_stage run ≡ first_stage c → seen_stage run ≡ first_stage run.companion
begins run c first = first ∙ ap first_stage (sym (ap (λ (st : Stage). st.progress.companion) first))

-- what it replays is what is replayed with that
pub replayed-as : (run : Run) (report : Report) (c : Companion) (old new : SourceView) (v v' : SinkView) (left : Option World) (st : Status)
    → seen_stage run ≡ first_stage c → run.report ≡ report → Replays run.report run.companion old new v v' left st → Replays report c old new v v' left st
replayed-as run report c old new v v' left st first is r =
    subst (λ (report : Report). Replays report c old new v v' left st) is
    (subst (λ (stage : Stage). Replays run.report stage.progress.companion old new v v' left st) first r)
