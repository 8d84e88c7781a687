-- That a JSON report tells what its steps have shown.
use Rattle.std.specs.Prelude.{◌≡◌, ℕ, suc, List, [], ◌∷◌, ◌++◌}
use Rattle.cg_report.specs.declared.entry.Entry.{Entry}
use Rattle.cg_json.specs.JsonText.{entry_json, tail_json}
use Rattle.cg_laws.specs.Told.{IsTranscript, trimmed}

-- what the steps after the n-th have shown, an object a line
abbrev pub report_json : ℕ → List Entry → List ℕ
report_json n [] = []
report_json n (e ∷ es) = entry_json (suc n) e ++ report_json (suc n) es

-- two JSON reports that are one are those of one transcript, up to silent entries at the end
abbrev pub JsonReportsTellTheirTranscripts : Type 0
JsonReportsTellTheirTranscripts = (es fs : List Entry) → IsTranscript es → IsTranscript fs →
    report_json 0 es ≡ report_json 0 fs → trimmed es ≡ trimmed fs

-- the same of reports with their tails, and the tails are one
abbrev pub WholeJsonReportsTellTheirTranscripts : Type 0
WholeJsonReportsTellTheirTranscripts = (es fs : List Entry) (tail end : List ℕ) → IsTranscript es → IsTranscript fs →
    report_json 0 es ++ tail_json tail ≡ report_json 0 fs ++ tail_json end
    → (trimmed es ≡ trimmed fs) × (tail ≡ end)
