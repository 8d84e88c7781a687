-- What an item that is counted comes to: it was put and the run goes on, or putting it was cut short.
use Rattle.std.proofs.Common.{◌≡◌, ℕ, ◌<◌, [], ◌∷◌, None, length, refl, sym, ap, subst, ◌∙◌, append-nil}
use Rattle.std.proofs.lemmas.Bool.{cond-true, lt-ltb}
use Rattle.std.specs.Prelude.{nat_lt}
use Rattle.cg_io.specs.Outside.{SinkView, PutsAll}
use Rattle.cg_items.specs.Items.{Item, entry_of, item_in}
use Rattle.cg_items.specs.declared.report.Report.{Report}
use Rattle.cg_model.specs.Run.{step_limit}
use Rattle.cg_outcome.specs.declared.status.Status.{Status}
use Rattle.cg_outcome.specs.declared.status.Status.TheVariants as status
use Rattle.cg_outcome.specs.declared.status.Limit.TheVariants.{Steps}
use Rattle.cg_outcome.specs.Produced.{Progress, Produced, counted, ended_with}
use Rattle.cg_outcome.specs.Putting.{Puts, PutsPart}
use Rattle.cg_outcome.specs.Stopping.{CutShort, Shows, Stopped}
use Rattle.cg_outcome.specs.UnderWay.{HasBegun}
use Rattle.cg_run.specs.declared.progress.Run.{Run}
use Rattle.cg_run.specs.Performing.{seen}
use Rattle.cg_short.specs.Short.{IsShortEntry}

-- the item alone is made
abbrev pub made_alone : Item → Progress → Produced
made_alone i next = record { items = i ∷ []; found = None; progress = next }

pub counted-goes : (n : ℕ) (i : Item) (next s : Progress) → s.count < step_limit → counted n i next s ≡ made_alone i next
counted-goes n i next s few = cond-true (nat_lt s.count step_limit) (made_alone i next) (ended_with (status.Limit n Steps) n s) (lt-ltb s.count step_limit few)

-- what goes on behind it
abbrev pub GoesBehind : Report → Progress → SinkView → SinkView → Produced → Type 0
GoesBehind report next v v1 p = (p.found ≡ None) × (next ≡ p.progress) × Shows report v v1 p.items

pub item-goes : (report : Report) (n : ℕ) (i : Item) (next s : Progress) (v v1 : SinkView) → s.count < step_limit →
    Puts v v1 (item_in report i) → IsShortEntry (entry_of i) → GoesBehind report next v v1 (counted n i next s)
item-goes report n i next s v v1 few put short =
    subst (GoesBehind report next v v1) (sym (counted-goes n i next s few))
    (refl, refl, record { all = subst (PutsAll v v1) (sym (append-nil (item_in report i))) put.all; no_fault = put.no_fault; short = (short, tt) })

cut-alone : (report : Report) (i : Item) (next : Progress) (v v1 : SinkView) (st : Status) →
    CutShort (item_in report i) v v1 st → Stopped report (made_alone i next) v v1 st
cut-alone report i next v v1 status.WriteFault cut = (subst (λ text. PutsPart v v1 text 1) (sym (append-nil (item_in report i))) cut, λ finding. absurd finding)
cut-alone report i next v v1 status.NoMemory cut = (subst (λ text. PutsPart v v1 text 0) (sym (append-nil (item_in report i))) cut, λ finding. absurd finding)
cut-alone report i next v v1 status.Done cut = absurd cut
cut-alone report i next v v1 status.NotAnImage cut = absurd cut
cut-alone report i next v v1 status.NotAStore cut = absurd cut
cut-alone report i next v v1 status.Usage cut = absurd cut
cut-alone report i next v v1 (status.Syntax line reason) cut = absurd cut
cut-alone report i next v v1 (status.Refused line reason) cut = absurd cut
cut-alone report i next v v1 status.ReadFault cut = absurd cut
cut-alone report i next v v1 (status.Limit line what) cut = absurd cut
cut-alone report i next v v1 (status.NoEnd lines) cut = absurd cut

pub item-stops : (report : Report) (n : ℕ) (i : Item) (next s : Progress) (v v1 : SinkView) (st : Status) → s.count < step_limit →
    CutShort (item_in report i) v v1 st → Stopped report (counted n i next s) v v1 st
item-stops report n i next s v v1 st few cut =
    subst (λ (p : Produced). Stopped report p v v1 st) (sym (counted-goes n i next s few)) (cut-alone report i next v v1 st cut)

-- a run that has begun has still begun where only what it counts and keeps is other
pub begun-counted : (old new : Run) → record new { companion = old.companion; count = old.count; totals = old.totals } ≡ old → HasBegun (seen old) → HasBegun (seen new)
begun-counted old new rest begun = record {
  started = ap (λ (r : Run). r.reader.started) rest ∙ begun.started;
  hosted = subst (λ (r : Run). 0 < length r.world.world.nodes) (sym rest) begun.hosted;
}
