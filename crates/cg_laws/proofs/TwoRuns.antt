-- Two runs that put the same bytes have shown the same.
use Rattle.std.proofs.Common.{◌≡◌, ℕ, suc, ◌+◌, ◌≤◌, List, [], ◌∷◌, ◌++◌, length, Option, Some, None, refl, sym, ap, subst, ◌∙◌, arith}
use Rattle.std.specs.Io.KnownBytes.{Appends}
use Rattle.std.proofs.lemmas.List.{append_cancel_left, append_cancel_right}
use Rattle.cg_io.specs.Outside.{SinkView}
use Rattle.cg_base.specs.Lists.{Each}
use Rattle.cg_short.specs.Short.{IsShortEntry}
use Rattle.cg_report.specs.EntryText.{entry_text}
use Rattle.cg_json.specs.JsonText.{entry_json, tail_json}
use Rattle.cg_model.specs.World.{World, no_world}
use Rattle.cg_model.specs.Run.{Step, step_limit}
use Rattle.cg_outcome.specs.declared.command.Command.{Command}
use Rattle.cg_items.specs.declared.companion.Companion.TheVariants.{Alone}
use Rattle.cg_items.specs.declared.companion.Further.{Further}
use Rattle.cg_items.specs.declared.report.Report.{Report}
use Rattle.cg_items.specs.declared.report.Report.TheVariants.{Whole, Json}
use Rattle.cg_outcome.specs.declared.status.Status.{Status}
use Rattle.cg_outcome.specs.declared.status.Status.TheVariants as status
use Rattle.cg_outcome.specs.Commands.{command_of, reads_input}
use Rattle.cg_items.specs.Companion.{Noted, nothing_noted}
use Rattle.cg_items.specs.Items.{Item, entry_of, entry_in, item_in, report_in}
use Rattle.cg_items.specs.Kept.{next_world, noted_by, AreNoted}
use Rattle.cg_outcome.specs.Outcome.{companion_for, text_put}
use Rattle.cg_outcome.specs.Produced.{Finding, Produced, with_tail, text_of, status_of}
use Rattle.cg_outcome.specs.GoingOnLaws.{end-tail}
use Rattle.cg_outcome.specs.Putting.{Puts, StopsWith}
use Rattle.cg_outcome.specs.Status.{tail_line, tail_text}
use Rattle.cg_outcome.specs.Stopping.{AllShort, IsFinding}
use Rattle.cg_outcome.specs.Taking.{IsNoted}
use Rattle.cg_laws.specs.Told.{report_text, IsTranscript, WholeReportsTellTheirTranscripts}
use Rattle.cg_laws.specs.ToldJson.{report_json, WholeJsonReportsTellTheirTranscripts}
use Rattle.cg_laws.specs.TwoRuns.{HasPut, come_to, shown_by, last_line, RunsTell}
use Rattle.cg_laws.proofs.LastLines.{tail-is}
use Rattle.cg_outcome.specs.CompleteLaws.{has-found}

-- ---- the items of a run are numbered, and few, and where nothing stands beside the world they have no further lines

noted-nothing : (w : World) (asked : Option Further) (step : Option Step) → noted_by w Alone asked step ≡ nothing_noted Alone
noted-nothing w asked (Some s) = refl
noted-nothing w (Some e) None = refl
noted-nothing w None None = refl

module _ (w : World) (n : ℕ) (i : Item) (items : List Item) (are : AreNoted w Alone n (i ∷ items)) where
  -- an item shows its entry alone, with the next number
  shows-entry : (report : Report) → item_in report i ≡ entry_in report (suc n) (entry_of i) []
  shows-entry report =
      ap (λ lines. entry_in report i.number (entry_of i) lines) (are.3 ∙ ap (λ (noted : Noted). noted.lines) (noted-nothing w i.further i.step))
      ∙ ap (λ k. entry_in report k (entry_of i) []) are.0

  -- and nothing stands beside the world behind it
  others-noted : AreNoted (next_world w i.step) Alone (suc n) items
  others-noted = subst (λ (noted : Noted). AreNoted (next_world w i.step) noted.companion (suc n) items) (noted-nothing w i.further i.step) are.4

whole-numbered : (w : World) (n : ℕ) (items : List Item) → AreNoted w Alone n items → report_in Whole items ≡ report_text n (shown_by items)
whole-numbered w n [] are = refl
whole-numbered w n (i ∷ items) are =
    ap (λ t. t ++ report_in Whole items) (shows-entry w n i items are Whole)
    ∙ ap (λ t. entry_text (suc n) (entry_of i) ++ t) (whole-numbered (next_world w i.step) (suc n) items (others-noted w n i items are))

json-numbered : (w : World) (n : ℕ) (items : List Item) → AreNoted w Alone n items → report_in Json items ≡ report_json n (shown_by items)
json-numbered w n [] are = refl
json-numbered w n (i ∷ items) are =
    ap (λ t. t ++ report_in Json items) (shows-entry w n i items are Json)
    ∙ ap (λ t. entry_json (suc n) (entry_of i) ++ t) (json-numbered (next_world w i.step) (suc n) items (others-noted w n i items are))

few-shown : (w : World) (n : ℕ) (items : List Item) → n ≤ step_limit → AreNoted w Alone n items → n + length (shown_by items) ≤ step_limit
few-shown w n [] few are = omega (arith, few)
few-shown w n (i ∷ items) few are =
    let others = few-shown (next_world w i.step) (suc n) items (omega (arith, are.1)) (others-noted w n i items are) in omega (arith, others)

each-shown : (items : List Item) → AllShort items → Each IsShortEntry (shown_by items)
each-shown [] are = tt
each-shown (i ∷ items) are = (are.0, each-shown items are.1)

transcript : (items : List Item) → AreNoted no_world Alone 0 items → AllShort items → IsTranscript (shown_by items)
transcript items are short = record {
  few = omega (arith, few-shown no_world 0 items (omega arith) are);
  each = each-shown items short;
}

-- ---- what one run has put

-- all of the text was put
all-put : (text : List ℕ) (found : Option Status) (v v' : SinkView) (st : Status) → IsFinding st →
    StopsWith text found v v' st → (found ≡ Some st) × Puts v v' text
all-put text found v v' status.WriteFault finding stopped = absurd finding
all-put text found v v' status.NoMemory finding stopped = absurd finding
all-put text found v v' other finding stopped = stopped

-- the report of the items, and a finding's tail
pub record Told (report : Report) (p : Produced) (bytes : List ℕ) : Type 0 where
  pub finding : Finding
  pub found : p.found ≡ Some finding
  pub text : bytes ≡ text_of report p
  pub noted : AreNoted no_world Alone 0 p.items
  pub short : AllShort p.items

told : (report : Report) (words : List (List ℕ)) (bytes : List ℕ) → IsNoted words →
    (run : HasPut report words bytes) → Told report (come_to report words bytes run) bytes
told report words bytes runs run =
    let p = come_to report words bytes run in
    let put = all-put (text_put (command_of words) run.ran.image p) (status_of p) run.from run.to run.status run.finding run.ran.ends in
    let has = has-found p run.status put.0 in
    let there : Appends (Some run.before) (Some (run.before ++ bytes)) (text_put (command_of words) run.ran.image p) =
    subst (λ (h : Option (List ℕ)). Appends h (Some (run.before ++ bytes)) (text_put (command_of words) run.ran.image p)) run.held
    (subst (λ (h : Option (List ℕ)). Appends run.from.held h (text_put (command_of words) run.ran.image p)) run.grown put.1.all) in
    record {
      finding = has.0;
      found = has.1;
      text = append_cancel_left run.before bytes (text_put (command_of words) run.ran.image p) there ∙ ap (λ (c : Option Command). text_put c run.ran.image p) run.asked;
      noted = subst (λ (command : Option Command). AreNoted no_world (companion_for command) 0 p.items) run.asked (runs run.ran.taken run.ran.ending);
      short = run.ran.short (ap reads_input run.asked) run.finding;
    }

-- the last line of what has this finding
line-is : (p : Produced) (f : Finding) → p.found ≡ Some f → last_line p ≡ tail_line f.status p.progress.count f.lines
line-is p f e = ap (λ (found : Option Finding). last_line (record p { found = found })) e

-- ---- two runs

module _ (words others : List (List ℕ)) (runs : IsNoted words) (them : IsNoted others) where
  pub whole-runs-tell : WholeReportsTellTheirTranscripts → RunsTell Whole words others
  whole-runs-tell tells bytes one other =
      let p = come_to Whole words bytes one in
      let q = come_to Whole others bytes other in
      let a = told Whole words bytes runs one in
      let b = told Whole others bytes them other in
      let f = a.finding in
      let g = b.finding in
      let tail = tail_text f.status p.progress.count f.lines in
      let end = tail_text g.status q.progress.count g.lines in
      let first : bytes ≡ report_text 0 (shown_by p.items) ++ tail =
      a.text ∙ ap (λ found. with_tail Whole (report_in Whole p.items) found p.progress) a.found
      ∙ ap (λ t. report_in Whole p.items ++ t) (end-tail Whole f.status f.lines p.progress refl)
      ∙ ap (λ t. t ++ tail) (whole-numbered no_world 0 p.items a.noted) in
      let second : bytes ≡ report_text 0 (shown_by q.items) ++ end =
      b.text ∙ ap (λ found. with_tail Whole (report_in Whole q.items) found q.progress) b.found
      ∙ ap (λ t. report_in Whole q.items ++ t) (end-tail Whole g.status g.lines q.progress refl)
      ∙ ap (λ t. t ++ end) (whole-numbered no_world 0 q.items b.noted) in
      let both = tells (shown_by p.items) (shown_by q.items) tail end (transcript p.items a.noted a.short) (transcript q.items b.noted b.short)
      (tail-is f.status p.progress.count f.lines) (tail-is g.status q.progress.count g.lines) (sym first ∙ second) in
      let lines = append_cancel_right (tail_line f.status p.progress.count f.lines) (tail_line g.status q.progress.count g.lines) (10 ∷ []) both.1 in
      (both.0, line-is p f a.found ∙ lines ∙ sym (line-is q g b.found))

  pub json-runs-tell : WholeJsonReportsTellTheirTranscripts → RunsTell Json words others
  json-runs-tell tells bytes one other =
      let p = come_to Json words bytes one in
      let q = come_to Json others bytes other in
      let a = told Json words bytes runs one in
      let b = told Json others bytes them other in
      let f = a.finding in
      let g = b.finding in
      let tail = tail_line f.status p.progress.count f.lines in
      let end = tail_line g.status q.progress.count g.lines in
      let first : bytes ≡ report_json 0 (shown_by p.items) ++ tail_json tail =
      a.text ∙ ap (λ found. with_tail Json (report_in Json p.items) found p.progress) a.found
      ∙ ap (λ t. report_in Json p.items ++ t) (end-tail Json f.status f.lines p.progress refl)
      ∙ ap (λ t. t ++ tail_json tail) (json-numbered no_world 0 p.items a.noted) in
      let second : bytes ≡ report_json 0 (shown_by q.items) ++ tail_json end =
      b.text ∙ ap (λ found. with_tail Json (report_in Json q.items) found q.progress) b.found
      ∙ ap (λ t. report_in Json q.items ++ t) (end-tail Json g.status g.lines q.progress refl)
      ∙ ap (λ t. t ++ tail_json end) (json-numbered no_world 0 q.items b.noted) in
      let both = tells (shown_by p.items) (shown_by q.items) tail end (transcript p.items a.noted a.short) (transcript q.items b.noted b.short)
      (sym first ∙ second) in
      (both.0, line-is p f a.found ∙ both.1 ∙ sym (line-is q g b.found))
