-- How far the code of a run has come, as definitions see it, and what performing a part of a run comes to.
use Rattle.std.specs.Prelude.{◌≡◌, ℕ, None, Result, Ok, Err, MatchResult, Option, Some}
use Rattle.cg_io.specs.Outside.{SinkView}
use Rattle.cg_items.specs.declared.report.Report.{Report}
use Rattle.cg_model.specs.World.{World}
use Rattle.cg_outcome.specs.declared.status.Status.{Status}
use Rattle.cg_outcome.specs.Produced.{Progress, Produced}
use Rattle.cg_outcome.specs.Streaming.{Stage}
use Rattle.cg_outcome.specs.Stopping.{Shows, Stopped}
use Rattle.cg_run.specs.declared.progress.Run.{Run}

-- how far a run has come
abbrev pub seen : Run → Progress
seen r = record {
  world = r.world.world;
  companion = r.companion;
  reader = r.reader;
  count = r.count;
  totals = r.totals;
  logs = r.logs;
  replica = None;
}

-- the same from another world
abbrev pub seen_from : World → Run → Progress
seen_from w r = record (seen r) { world = w }

-- where it stands between two lines
abbrev pub seen_stage : Run → Stage
seen_stage r = record { line = r.line; at = r.at; progress = seen r }

-- the same behind a call that goes on or ends the run
abbrev pub seen_end : Run → {T : Type 0} → Result T Status → Result Stage Status
seen_end r (Ok done) = Ok (seen_stage r)
seen_end r (Err status) = Err status

-- the world that is left of it
abbrev pub left_of : Run → Option World
left_of r = Some r.world.world

-- how a run puts its report, and the line that it is at
pub record Place : Type 0 where
  pub report : Report
  pub line : ℕ
  pub at : ℕ

abbrev pub place : Run → Place
place r = record { report = r.report; line = r.line; at = r.at }

-- a part of a run was put, and the run goes on from where it now is
abbrev pub Went : Report → Produced → SinkView → SinkView → Run → Type 0
Went report p old new r = (p.found ≡ None) × (seen r ≡ p.progress) × Shows report old new p.items

-- the same, or it has ended
abbrev pub Performs : Report → Produced → SinkView → SinkView → Run → {T : Type 0} → Result T Status → Type 0
Performs report p old new r result =
    MatchResult result (λ _. Went report p old new r) (λ status. Stopped report p old new status)
