-- That a report tells what its steps have shown.
use Rattle.std.specs.Prelude.{◌≡◌, ◌==◌, ℕ, suc, false, List, [], ◌∷◌, ◌++◌, length, if◌then◌else◌}
use Rattle.cg_base.specs.Ascii.{LINE_FEED}
use Rattle.cg_base.specs.Lists.{Each}
use Rattle.cg_report.specs.declared.entry.Entry.{Entry}
use Rattle.cg_report.specs.EntryText.{is_silent, entry_text}
use Rattle.cg_short.specs.Short.{IsShort, IsShortEntry}

-- what the steps behind the n-th have shown, one after another
abbrev pub report_text : ℕ → List Entry → List ℕ
report_text n [] = []
report_text n (e ∷ es) = entry_text (suc n) e ++ report_text (suc n) es

-- an entry before others; a silent one before none is none
abbrev pub onto_trimmed : Entry → List Entry → List Entry
onto_trimmed e [] = if is_silent e then [] else e ∷ []
onto_trimmed e (f ∷ fs) = e ∷ f ∷ fs

-- the entries without the silent ones at their end
abbrev pub trimmed : List Entry → List Entry
trimmed [] = []
trimmed (e ∷ es) = onto_trimmed e (trimmed es)

-- what the steps 1, 2, .. of a run have shown: no number in it is longer than what is printed, and none of a step is
pub record IsTranscript (es : List Entry) : Type 0 where
  pub few : IsShort (length es)
  pub each : Each IsShortEntry es

-- two reports with one text are those of one transcript, up to silent entries at the end
abbrev pub ReportsTellTheirTranscripts : Type 0
ReportsTellTheirTranscripts = (es fs : List Entry) → IsTranscript es → IsTranscript fs →
    report_text 0 es ≡ report_text 0 fs → trimmed es ≡ trimmed fs

-- the last line that a run puts: one line, with its end
pub record IsTail (tail : List ℕ) : Type 0 where
  pub line : List ℕ
  pub whole : tail ≡ line ++ LINE_FEED ∷ []
  pub alone : Each (λ byte. (byte == LINE_FEED) ≡ false) line

-- the same of reports with their tails, and the tails are one
abbrev pub WholeReportsTellTheirTranscripts : Type 0
WholeReportsTellTheirTranscripts =
    (es fs : List Entry) (tail end : List ℕ) → IsTranscript es → IsTranscript fs → IsTail tail → IsTail end →
    report_text 0 es ++ tail ≡ report_text 0 fs ++ end
    → (trimmed es ≡ trimmed fs) × (tail ≡ end)
