-- A part of a run that is performed, and the next one.
use Rattle.std.proofs.Common.{◌≡◌, ℕ, [], None, refl, sym, ap, subst, ◌∙◌, arith, Result, Ok, Err}
use Rattle.std.specs.Result.{OnOk}
use Rattle.cg_io.specs.Outside.{SinkView}
use Rattle.cg_items.specs.declared.report.Report.{Report}
use Rattle.cg_outcome.specs.declared.status.Status.{Status}
use Rattle.cg_outcome.specs.declared.status.Status.TheVariants as status
use Rattle.cg_outcome.specs.Produced.{Progress, Produced, and_then, text_of}
use Rattle.cg_outcome.specs.Stopping.{IsUndone, Shows, Stopped, GoesOn}
use Rattle.cg_outcome.specs.GoingOnLaws.{Appends-none, Shows-twice, and_then-none, GoesOn-stop}
use Rattle.cg_run.specs.declared.progress.Run.{Run}
use Rattle.cg_run.specs.Performing.{Place, Performs, Went}

-- a part was put, and the next one performs
pub Performs-and_then : (report : Report) (p : Produced) (more : Progress → Produced) (v v1 v2 : SinkView) (s : Progress) (r : Run) {T : Type 0} (result : Result T Status)
    → p.found ≡ None → s ≡ p.progress → Shows report v v1 p.items → Performs report (more s) v1 v2 r result → Performs report (and_then p more) v v2 r result
Performs-and_then report p more v v1 v2 s r (Ok done) none is put (found, there, more_put) =
    let q = more p.progress in
    let joined = and_then-none p more none in
    let rest = ap more is in (
      ap (λ (p : Produced). p.found) joined ∙ ap (λ (p : Produced). p.found) (sym rest) ∙ found,
      there ∙ ap (λ (p : Produced). p.progress) rest ∙ sym (ap (λ (p : Produced). p.progress) joined),
      subst (λ (p : Produced). Shows report v v2 p.items) (sym joined)
          (Shows-twice report v v1 v2 p.items q.items put (subst (λ (q : Produced). Shows report v1 v2 q.items) rest more_put)),
    )
Performs-and_then report p more v v1 v2 s r (Err st) none is put ended =
    let goes : GoesOn report (and_then p more) v v1 (more p.progress) = record { made = p.items; put = put; same = and_then-none p more none } in
    GoesOn-stop report (and_then p more) (more p.progress) v v1 v2 st goes (subst (λ (s : Progress). Stopped report (more s) v1 v2 st) is ended)

-- what is performed at one place is performed at the same one
pub went-at : {a b : Place} (part : ℕ → Produced) (v v1 : SinkView) (r : Run) → a ≡ b → Went a.report (part a.line) v v1 r → Went b.report (part b.line) v v1 r
went-at part v v1 r is = subst (λ (at : Place). Went at.report (part at.line) v v1 r) is

pub stopped-at : {a b : Place} (part : ℕ → Produced) (v v1 : SinkView) (st : Status) → a ≡ b → Stopped a.report (part a.line) v v1 st → Stopped b.report (part b.line) v v1 st
stopped-at part v v1 st is = subst (λ (at : Place). Stopped at.report (part at.line) v v1 st) is

pub performs-at : {a b : Place} (part : ℕ → Produced) (v v1 : SinkView) (r : Run) {T : Type 0} (result : Result T Status) → a ≡ b
    → Performs a.report (part a.line) v v1 r result → Performs b.report (part b.line) v v1 r result
performs-at part v v1 r result is = subst (λ (at : Place). Performs at.report (part at.line) v v1 r result) is

-- what holds whatever comes of a call
pub on-ok : {T E P : Type 0} (r : Result T E) → P → OnOk r P
on-ok (Ok x) p = p
on-ok (Err e) p = tt

-- a status that isn't that of a run that is done
pub undone : (st : Status) → (st ≡ status.Done → ⊥) → IsUndone st
undone status.Done other = absurd (other refl)
undone st other = tt

-- memory was refused before more was put
pub stopped-now : (report : Report) (p : Produced) (v : SinkView) → Stopped report p v v status.NoMemory
stopped-now report p v = (
  record {
    front = record { front = []; rest = text_of report p; whole = refl; grown = Appends-none v.held };
    counted = omega arith;
  },
  λ finding. absurd finding,
)
