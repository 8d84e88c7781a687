-- What single calls answer.
use Rattle.std.specs.Prelude.{List}
use Rattle.cg_knowledge.specs.declared.summary.Summary.{Summary}
use Rattle.cg_knowledge.specs.declared.verdict.Verdict.{Verdict}
use Rattle.cg_knowledge.specs.Summaries.{gone}
use Rattle.cg_knowledge.specs.Primary.{known_primary, known_attempt}
use Rattle.cg_knowledge.specs.Yellow.{common_yellow}
use Rattle.cg_knowledge.specs.Verdict.{records_of, decides}

-- all that follows from the summaries
unfoldable pub verdict_of : List Summary → Verdict
verdict_of summaries =
    record {
      prim = known_primary summaries;
      attempt_index = known_attempt summaries;
      yellow = common_yellow summaries;
      vulnerable = records_of summaries;
      gone = gone summaries;
      quorum = decides summaries;
    }
