-- A run that goes on part by part: the items made so far, and what the rest produces, make the whole.
use Rattle.std.proofs.Common.{◌≡◌, ℕ, List, [], ◌∷◌, ◌++◌, append_assoc, Option, Some, None, Bool, true, false, refl, sym, ap, subst, ◌∙◌, option_map}
use Rattle.std.proofs.lemmas.List.{append-nil}
use Rattle.std.specs.Io.KnownBytes.{Appends}
use Rattle.cg_io.specs.Outside.{SinkView}
use Rattle.cg_items.specs.Items.{Item, item_in, report_in}
use Rattle.cg_items.specs.declared.report.Report.{Report}
use Rattle.cg_items.specs.declared.report.Report.TheVariants.{Joined, Inspected, Imaged}
use Rattle.cg_outcome.specs.Produced.{Progress, Finding, Produced, tail_in, end_in, with_tail, text_of, status_of, prepend, and_then}
use Rattle.cg_outcome.specs.declared.status.Status.{Status}
use Rattle.cg_outcome.specs.declared.status.Status.TheVariants as status
use Rattle.cg_outcome.specs.Stopping.{AllShort, IsUndone, Shows, Stopped, GoesOn}
use Rattle.cg_outcome.specs.Putting.{Puts, PutsPart}

pub Appends-none : (h : Option (List ℕ)) → Appends h h []
Appends-none None = tt
Appends-none (Some xs) = sym (append-nil xs)

pub Appends-twice : (h h1 h2 : Option (List ℕ)) (s t : List ℕ) → Appends h h1 s →
    Appends h1 h2 t → Appends h h2 (s ++ t)
Appends-twice None h1 h2 s t p q = tt
Appends-twice (Some xs) None h2 s t p q = absurd p
Appends-twice (Some xs) (Some ys) None s t p q = absurd q
Appends-twice (Some xs) (Some ys) (Some zs) s t p q = q ∙ ap (λ w. w ++ t) p ∙ append_assoc xs s t

pub Puts-twice : (v v1 v2 : SinkView) (s t : List ℕ) → Puts v v1 s → Puts v1 v2 t → Puts v v2 (s ++ t)
Puts-twice v v1 v2 s t p q = record {
  all = Appends-twice v.held v1.held v2.held s t p.all q.all;
  no_fault = q.no_fault ∙ p.no_fault;
}

pub short-append : (a b : List Item) → AllShort a → AllShort b → AllShort (a ++ b)
short-append [] b first next = next
short-append (i ∷ a) b first next = (first.0, short-append a b first.1 next)

-- the report of items and of others is that of all
pub report_in-append : (report : Report) (a b : List Item) →
    report_in report (a ++ b) ≡ report_in report a ++ report_in report b
report_in-append report [] b = refl
report_in-append report (i ∷ a) b =
    ap (λ t. item_in report i ++ t) (report_in-append report a b)
    ∙ sym (append_assoc (item_in report i) (report_in report a) (report_in report b))

pub Shows-put : (report : Report) (v v1 : SinkView) (items : List Item) → Shows report v v1 items →
    Puts v v1 (report_in report items)
Shows-put report v v1 items shows = record { all = shows.all; no_fault = shows.no_fault }

pub Shows-none : (report : Report) (v : SinkView) → Shows report v v []
Shows-none report v = record { all = Appends-none v.held; no_fault = refl; short = tt }

pub Shows-twice : (report : Report) (v v1 v2 : SinkView) (a b : List Item) → Shows report v v1 a →
    Shows report v1 v2 b → Shows report v v2 (a ++ b)
Shows-twice report v v1 v2 a b first next = record {
  all = rw (report_in-append report a b) (Appends-twice v.held v1.held
      v2.held (report_in report a) (report_in report b) first.all next.all);
  no_fault = next.no_fault ∙ first.no_fault;
  short = short-append a b first.short next.short;
}

-- what a run puts at its end is the tail, unless it tells of logs, of what is seen in an image, or of none, and is done
abbrev pub tells_apart : Report → Bool
tells_apart Joined = true
tells_apart Inspected = true
tells_apart Imaged = true
tells_apart other = false

pub end-tail : (report : Report) (st : Status) (lines : ℕ) (s : Progress) → tells_apart report ≡ false →
    end_in report st lines s ≡ tail_in report st s.count lines
end-tail Joined st lines s other = absurd cc
end-tail Inspected st lines s other = absurd cc
end-tail Imaged st lines s other = absurd cc
end-tail report status.Done lines s other = refl
end-tail report st lines s other = refl

pub end-undone : (report : Report) (st : Status) (lines : ℕ) (s : Progress) → IsUndone st →
    end_in report st lines s ≡ tail_in report st s.count lines
end-undone report status.Done lines s undone = absurd undone
end-undone report st lines s undone = refl

with_tail-append : (report : Report) (a b : List ℕ) (found : Option Finding) (s : Progress) →
    with_tail report (a ++ b) found s ≡ a ++ with_tail report b found s
with_tail-append report a b None s = refl
with_tail-append report a b (Some f) s = append_assoc a b (end_in report f.status f.lines s)

-- what is put of items and a part
text_of-prepend : (report : Report) (made : List Item) (p : Produced) →
    text_of report (prepend made p) ≡ report_in report made ++ text_of report p
text_of-prepend report made p =
    ap (λ t. with_tail report t p.found p.progress) (report_in-append report made p.items)
    ∙ with_tail-append report (report_in report made) (report_in report p.items) p.found p.progress

pub and_then-none : (p : Produced) (more : Progress → Produced) → p.found ≡ None →
    and_then p more ≡ prepend p.items (more p.progress)
and_then-none p more none = rw none

pub and_then-some : (p : Produced) (more : Progress → Produced) (f : Finding) → p.found ≡ Some f → and_then p more ≡ p
and_then-some p more f some = rw some

-- a part was put, and the run goes on
pub GoesOn-part : (report : Report) (whole p : Produced) (more : Progress →
    Produced) (v v1 v2 : SinkView) (s : Progress)
    → GoesOn report whole v v1 (and_then p more) → p.found ≡ None → s ≡ p.progress →
    Shows report v1 v2 p.items → GoesOn report whole v v2 (more s)
GoesOn-part report whole p more v v1 v2 s g none is put =
    let q = more p.progress in
    let goes : GoesOn report whole v v2 q =
    record {
      made = g.made ++ p.items;
      put = Shows-twice report v v1 v2 g.made p.items g.put put;
      same =
          g.same ∙ ap (prepend g.made) (and_then-none p more none)
          ∙ ap (λ items. record {
            items = items;
            found = q.found;
            progress = q.progress;
          }) (sym (append_assoc g.made p.items q.items));
    } in
    rw is goes

-- what is put of a part begins what is put of that part and the rest
text_of-and_then : (report : Report) (p : Produced) (more : Progress → Produced) →
    (r : List ℕ) × (text_of report (and_then p more) ≡ text_of report p ++ r)
text_of-and_then report p more = by_finding p.found refl where
  by_finding : (o : Option Finding) → p.found ≡ o → (r : List ℕ)
      × (text_of report (and_then p more) ≡ text_of report p ++ r)
  by_finding None e =
      let here : text_of report p ≡ report_in report p.items =
      ap (λ found. with_tail report (report_in report p.items) found p.progress) e in (
        text_of report (more p.progress),
        ap (text_of report) (and_then-none p more e)
            ∙ text_of-prepend report p.items (more p.progress)
            ∙ ap (λ t. t ++ text_of report (more p.progress)) (sym here),
      )
  by_finding (Some f) e = ([], ap (text_of report) (and_then-some p more f e) ∙ sym (append-nil (text_of report p)))

-- the part put of a text is one of each text that it begins
pub part-longer : (v v' : SinkView) (text all r : List ℕ) (faults : ℕ) → all ≡ text ++ r → PutsPart v v' text faults →
    PutsPart v v' all faults
part-longer v v' text all r faults is a =
    let f = a.front in
    record {
      front = record {
        front = f.front;
        rest = f.rest ++ r;
        whole = is ∙ ap (λ t. t ++ r) f.whole ∙ append_assoc f.front f.rest r;
        grown = f.grown;
      };
      counted = a.counted;
    }

-- a part that has a status has a finding, and so nothing comes behind it
ends : (p : Produced) (more : Progress → Produced) (st : Status) → status_of p ≡ Some st → and_then p more ≡ p
ends p more st is = by_finding p.found refl where
  by_finding : (o : Option Finding) → p.found ≡ o → and_then p more ≡ p
  by_finding None e = absurd (cc (ap (λ found. option_map (λ f. f.status) found) e))
  by_finding (Some f) e = and_then-some p more f e

-- a part that ends the run ends the whole
pub Stopped-and_then : (report : Report) (p : Produced) (more : Progress → Produced) (v v' : SinkView) (st : Status)
    → Stopped report p v v' st → Stopped report (and_then p more) v v' st
Stopped-and_then report p more v v' status.WriteFault s =
    let t = text_of-and_then report p more in
    (part-longer v v' (text_of report p) (text_of report (and_then p more)) t.0 1 t.1 s.0, λ found. absurd found)
Stopped-and_then report p more v v' status.NoMemory s =
    let t = text_of-and_then report p more in
    (part-longer v v' (text_of report p) (text_of report (and_then p more)) t.0 0 t.1 s.0, λ found. absurd found)
Stopped-and_then report p more v v' other s = rw (ends p more other s.0.0) s

-- a part put behind what was put before
pub part-later : (v v1 v2 : SinkView) (written text : List ℕ) (faults : ℕ) → Puts v v1 written →
    PutsPart v1 v2 text faults → PutsPart v v2 (written ++ text) faults
part-later v v1 v2 written text faults w a =
    let f = a.front in
    record {
      front = record {
        front = written ++ f.front;
        rest = f.rest;
        grown = Appends-twice v.held v1.held v2.held written f.front w.all f.grown;
        whole = ap (λ t. written ++ t) f.whole ∙ sym (append_assoc written f.front f.rest);
      };
      counted = rw (← w.no_fault) a.counted;
    }

-- the text of a whole of which these items were made
text_of-whole : (report : Report) (whole p : Produced) (made : List Item) → whole ≡ prepend made p →
    text_of report whole ≡ report_in report made ++ text_of report p
text_of-whole report whole p made same = ap (text_of report) same ∙ text_of-prepend report made p

-- the rest ends, and so the whole does
pub GoesOn-stop : (report : Report) (whole p : Produced) (v v1 v2 : SinkView) (st : Status)
    → GoesOn report whole v v1 p → Stopped report p v1 v2 st → Stopped report whole v v2 st
GoesOn-stop report whole p v v1 v2 status.WriteFault g s = (
  rw (text_of-whole report whole p g.made g.same) (part-later v v1
      v2 (report_in report g.made) (text_of report p) 1 (Shows-put report v v1 g.made g.put) s.0),
  λ found. absurd found,
)
GoesOn-stop report whole p v v1 v2 status.NoMemory g s = (
  rw (text_of-whole report whole p g.made g.same) (part-later v v1
      v2 (report_in report g.made) (text_of report p) 0 (Shows-put report v v1 g.made g.put) s.0),
  λ found. absurd found,
)
GoesOn-stop report whole p v v1 v2 other g s =
    let found : status_of whole ≡ Some other = ap status_of g.same ∙ s.0.0 in
    let put : Puts v v2 (text_of report whole) =
    rw (text_of-whole report whole p g.made g.same) (Puts-twice v v1
    v2 (report_in report g.made) (text_of report p) (Shows-put report v v1 g.made g.put) s.0.1) in
    let short : AllShort p.items → AllShort whole.items =
    λ rest. subst (λ (q : Produced). AllShort q.items) (sym g.same) (short-append g.made p.items g.put.short rest) in
    ((found, put), λ is. short (s.1 is))
