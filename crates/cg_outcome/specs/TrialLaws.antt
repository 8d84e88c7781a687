-- A schedule of events that is replayed line by line, of which the summary is put.
use Rattle.std.proofs.Common.{◌≡◌, ℕ, ◌+◌, List, [], ◌∷◌, ◌++◌, length, Option, Some, None, MatchOption, false, refl, sym, ap, subst, ◌∙◌, arith}
use Rattle.std.proofs.lemmas.Bool.{true≢false}
use Rattle.cg_io.specs.Outside.{SinkView}
use Rattle.cg_schedule.specs.declared.event.Event.{Event}
use Rattle.cg_schedule.specs.Print.{line_of}
use Rattle.cg_items.specs.Items.{Item, report_in}
use Rattle.cg_outcome.specs.Produced.{Progress, Finding, Produced, end_in, with_tail, text_of, status_of, and_then}
use Rattle.cg_items.specs.declared.report.Report.TheVariants.{Tail}
use Rattle.cg_outcome.specs.declared.status.Status.{Status}
use Rattle.cg_outcome.specs.declared.status.Status.TheVariants as status
use Rattle.cg_outcome.specs.Status.{tail_text}
use Rattle.cg_outcome.specs.Outcome.{line_outcome, without_return, performed, trial_end, trial_text}
use Rattle.cg_outcome.specs.Putting.{Puts, PutsPart, StopsWith}
use Rattle.cg_outcome.specs.UnderWay.{IsUnderWay}
use Rattle.cg_outcome.specs.GoingOnLaws.{end-tail, GoesOn-part, Puts-twice, Shows-none, Shows-put, Appends-none, part-longer, part-later, and_then-some}
use Rattle.cg_outcome.specs.SparedLaws.{is_of_end, line-no_end}
use Rattle.cg_outcome.specs.Stopping.{Shows, Stopped, GoesOn}

-- of items alone nothing is put
tail-nothing : (items : List Item) → report_in Tail items ≡ []
tail-nothing [] = refl
tail-nothing (i ∷ items) = tail-nothing items

-- a text put behind nothing
StopsWith-later : (text : List ℕ) (found : Option Status) (v v1 v2 : SinkView) (st : Status) → Puts v v1 [] →
    StopsWith text found v1 v2 st → StopsWith text found v v2 st
StopsWith-later text found v v1 v2 status.WriteFault put s = part-later v v1 v2 [] text 1 put s
StopsWith-later text found v v1 v2 status.NoMemory put s = part-later v v1 v2 [] text 0 put s
StopsWith-later text found v v1 v2 other put s = (s.0, Puts-twice v v1 v2 [] text put s.1)

-- what a trial puts of a finding that isn't the end of all is the tail
trial-tail : (st : Status) (lines steps : ℕ) → is_of_end (Some st) ≡ false
    → trial_end st lines steps
    ≡ (λ totals. tail_text st steps lines)
trial-tail status.Done lines steps e = absurd (true≢false e)
trial-tail other lines steps e = refl

-- a line in which the run ends
pub line-ended : (p : Produced) (more : Progress → Produced) (v v' : SinkView) (st : Status) →
    is_of_end (status_of p) ≡ false → Stopped Tail p v v' st
    → StopsWith (trial_text (and_then p more)) (status_of (and_then p more)) v v' st
line-ended p more v v' st is s = by_finding p.found refl where
  by_finding : (o : Option Finding) → p.found ≡ o →
      StopsWith (trial_text (and_then p more)) (status_of (and_then p more)) v v' st
  by_finding None e =
      let text : text_of Tail p ≡ [] = ap (λ found. with_tail Tail (report_in Tail p.items) found p.progress) e
      ∙ tail-nothing p.items in
      let none : status_of p ≡ None = ap (λ (found : Option Finding). status_of (record p { found = found })) e in
      nothing (trial_text (and_then p more)) (status_of (and_then p more))
      st (subst (λ t. StopsWith t (status_of p) v v' st) text s.0) none where
        nothing : (all : List ℕ) (found : Option Status) (st : Status) → StopsWith [] (status_of p) v v' st →
            status_of p ≡ None → StopsWith all found v v' st
        nothing all found status.WriteFault s none = part-longer v v' [] all all 1 refl s
        nothing all found status.NoMemory s none = part-longer v v' [] all all 0 refl s
        nothing all found other s none = absurd (cc)
  by_finding (Some f) e =
      let same : and_then p more ≡ p = and_then-some p more f e in
      let apart : is_of_end (Some f.status) ≡ false =
      ap (λ (found : Option Finding). is_of_end (status_of (record p { found = found }))) (sym e) ∙ is in
      let text : text_of Tail p ≡ trial_text p =
      ap (λ (found : Option Finding). with_tail Tail (report_in Tail p.items) found p.progress) e
      ∙ ap (λ t. t ++ end_in Tail f.status f.lines p.progress) (tail-nothing p.items)
      ∙ end-tail Tail f.status f.lines p.progress refl
      ∙ sym (ap (λ (f : _). f p.progress.totals) (trial-tail f.status f.lines p.progress.count apart))
      ∙ sym (ap (λ (found : Option Finding). trial_text (record p { found = found })) e) in
      subst (λ (q : Produced). StopsWith (trial_text q) (status_of q) v v' st) (sym same)
      (subst (λ t. StopsWith t (status_of p) v v' st) text s.0)

-- of so many lines these are gone and the others are still to come: what the rest comes to makes the whole
pub record Plays (whole : Produced) (v v1 : SinkView) (lines gone : ℕ) (events : List Event)
    (s : Progress) : Type 0 where
  pub goes : GoesOn Tail whole v v1 (performed gone events s)
  pub under_way : IsUnderWay s
  pub counted : gone + length events ≡ lines

-- the whole schedule is still to come
pub Plays-begin : (lines : ℕ) (events : List Event) (v : SinkView) (s : Progress) → length events ≡ lines →
    IsUnderWay s → Plays (performed 0 events s) v v lines 0 events s
Plays-begin lines events v s all under = record {
  goes = record { made = []; put = Shows-none Tail v; same = refl };
  under_way = under;
  counted = omega (arith, all);
}

-- the run ends in what is still to come
pub Plays-stop : (whole : Produced) (v v1 v2 : SinkView) (lines gone : ℕ) (events : List Event) (s : Progress)
    (status : Status) → Plays whole v v1 lines gone events s
    → StopsWith (trial_text (performed gone events s)) (status_of (performed gone events s)) v1 v2 status →
    StopsWith (trial_text whole) (status_of whole) v v2 status
Plays-stop whole v v1 v2 lines gone events s status plays stopped =
    let g = plays.goes in
    subst (λ (q : Produced). StopsWith (trial_text q) (status_of q) v v2 status) (sym g.same)
    (StopsWith-later (trial_text (performed gone events s)) (status_of (performed gone events s)) v v1 v2
    status (subst (Puts v v1) (tail-nothing g.made) (Shows-put Tail v v1 g.made g.put)) stopped)

-- what a line comes to that is made of an event
abbrev line_played : ℕ → Event → Progress → Produced
line_played gone event s = line_outcome (gone + 1) (without_return (line_of event)) s

-- the run ends in the next line
pub Plays-ended : (whole : Produced) (v v1 v2 : SinkView) (lines gone : ℕ) (event : Event) (events : List Event)
    (s : Progress) (status : Status)
    → Plays whole v v1 lines gone (event ∷ events) s → Stopped Tail (line_played gone event s) v1 v2 status →
    StopsWith (trial_text whole) (status_of whole) v v2 status
Plays-ended whole v v1 v2 lines gone event events s status plays stopped =
    Plays-stop whole v v1 v2 lines gone (event ∷ events) s status plays
    (line-ended (line_played gone event s) (performed (gone + 1) events) v1 v2
    status (line-no_end (gone + 1) (without_return (line_of event)) s) stopped)

-- the next line was gone through
pub Plays-line : (whole : Produced) (v v1 v2 : SinkView) (lines gone : ℕ) (event : Event) (events : List
    Event) (s next : Progress)
    → Plays whole v v1 lines gone (event ∷ events) s → (line_played gone event s).found ≡ None →
    next ≡ (line_played gone event s).progress
    → Shows Tail v1 v2 (line_played gone event s).items → IsUnderWay next →
    Plays whole v v2 lines (gone + 1) events next
Plays-line whole v v1 v2 lines gone event events s next plays none is put under = record {
  goes = GoesOn-part Tail whole (line_played gone event s) (performed (gone + 1) events) v v1 v2
      next plays.goes none is put;
  under_way = under;
  counted = omega (arith, plays.counted);
}

-- memory was refused
pub Plays-nothing : (whole : Produced) (v v1 : SinkView) (lines gone : ℕ) (events : List Event) (s : Progress)
    (found : Status) → Plays whole v v1 lines gone events s
    → found ≡ status.NoMemory → StopsWith (trial_text whole) (status_of whole) v v1 found
Plays-nothing whole v v1 lines gone events s found plays is =
    let text = trial_text (performed gone events s) in
    let none : PutsPart v1 v1 text 0 =
    record {
      front = record { front = []; rest = text; whole = refl; grown = Appends-none v1.held };
      counted = omega arith;
    } in
    subst (λ (st : Status). StopsWith (trial_text whole) (status_of whole) v v1 st) (sym is) (Plays-stop whole v v1 v1
    lines gone events s status.NoMemory plays none)

-- the next event, or none
pub Plays-next : (whole : Produced) (v v1 : SinkView) (lines gone : ℕ) (all left : List Event) (s : Progress) →
    all ≡ left → Plays whole v v1 lines gone all s → Plays whole v v1 lines gone left s
Plays-next whole v v1 lines gone all left s is plays = subst (λ events. Plays whole v v1 lines gone events s) is plays

pub next-some : (all left : List Event) (o : Option Event) (e : Event) →
    MatchOption o ((all ≡ []) × (left ≡ [])) (λ event. all ≡ event ∷ left) → o ≡ Some e → all ≡ e ∷ left
next-some all left o e next is =
    subst (λ (o : Option Event). MatchOption o ((all ≡ []) × (left ≡ [])) (λ event. all ≡ event ∷ left)) is next

pub next-none : (all left : List Event) (o : Option Event) →
    MatchOption o ((all ≡ []) × (left ≡ [])) (λ event. all ≡ event ∷ left) → o ≡ None → all ≡ []
next-none all left o next is =
    (subst (λ (o : Option Event). MatchOption o ((all ≡ []) × (left ≡ [])) (λ event. all ≡ event ∷ left)) is next).0
