-- An event in the run of a list of events, and what it comes to at a line: where the run isn't refused the line goes as far, or meets the limit on steps.
use Rattle.std.proofs.Common.{◌≡◌, ℕ, zero, suc, ◌+◌, ◌==◌, nat_lt, false, List, [], ◌∷◌, fold, Option, Some, None, cond, refl, sym, ap, subst, ◌∙◌}
use Rattle.std.proofs.lemmas.Bool.{cond_both, ne_eqb}
use Rattle.cg_group.specs.declared.reason.Reason.{Reason}
use Rattle.cg_group.specs.Ready.{ready}
use Rattle.cg_schedule.specs.declared.event.Event.{Event}
use Rattle.cg_schedule.specs.declared.event.Event.TheVariants.{Gather, Deliver, Rounds, End}
use Rattle.cg_schedule.specs.declared.reader_state.ReaderState.{ReaderState}
use Rattle.cg_model.specs.World.{World, up_replicas}
use Rattle.cg_model.specs.Admission.{first_refusal}
use Rattle.cg_model.specs.Step.{world_step}
use Rattle.cg_model.specs.Run.{Step, Refusal, step_limit}
use Rattle.cg_model.specs.Schedules.{Run, with_step, step_unless, step_on, step, deliver_some, deliver_ready as hand_ready, pass, passes as play_passes, play}
use Rattle.cg_items.specs.declared.companion.Companion.TheVariants.{Alone}
use Rattle.cg_items.specs.declared.companion.Companion.{Companion}
use Rattle.cg_items.specs.Companion.{Noted, end_refusal, follows}
use Rattle.cg_items.specs.Items.{Item}
use Rattle.cg_outcome.specs.Produced.{Progress, Finding, Produced, prepend, went_on, ended_with, and_then, counted, stepped, unless_refused, one_step}
use Rattle.cg_outcome.specs.declared.status.Status.{Status}
use Rattle.cg_outcome.specs.declared.status.Status.TheVariants as status
use Rattle.cg_outcome.specs.declared.status.Limit.TheVariants.{Steps}
use Rattle.cg_outcome.specs.Totals.{with_entry}
use Rattle.cg_outcome.specs.Rounds.{deliver_ready, deliveries, one_pass, passes, ended_unless, happened}
use Rattle.cg_laws.specs.Admitted.{IsEndOrLimit}

-- ---- a run that was refused stays so

abbrev pub IsFree : Run → Type 0
IsFree run = run.refused ≡ None

step-free : (run : Run) (e : Event) → IsFree (step run e) → IsFree run
step-free run e free = by run.refused refl where
  by : (o : Option Refusal) → run.refused ≡ o → IsFree run
  by None is = is
  by (Some refusal) is = subst (λ (o : Option Refusal). IsFree (step_on o run e)) is free

some-free : (n : ℕ) (run : Run) (p : ℕ) → IsFree (deliver_some n run p) → IsFree run
some-free zero run p free = free
some-free (suc n) run p free = step-free run (Deliver p (suc n)) free

ready-free : (run : Run) (p : ℕ) → IsFree (hand_ready run p) → IsFree run
ready-free run p free = some-free (ready run.world.group p) run p free

each-free : (set : List ℕ) (run : Run) → IsFree (fold hand_ready run set) → IsFree run
each-free [] run free = free
each-free (p ∷ set) run free = ready-free run p (each-free set (hand_ready run p) free)

pass-free : (run : Run) → IsFree (pass run) → IsFree run
pass-free run free = step-free run Gather (each-free (up_replicas run.world) (step run Gather) free)

passes-free : (n : ℕ) (run : Run) → IsFree (play_passes n run) → IsFree run
passes-free zero run free = free
passes-free (suc n) run free = pass-free run (passes-free n (pass run) free)

play-free : (run : Run) (e : Event) → IsFree (play run e) → IsFree run
play-free run (Rounds n) free = passes-free n run free
play-free run End free = free
play-free run other free = step-free run other free

pub all-free : (events : List Event) (run : Run) → IsFree (fold play run events) → IsFree run
all-free [] run free = free
all-free (e ∷ events) run free = play-free run e (all-free events (play run e) free)

-- ---- a part that goes as far as a run

-- nothing is found, or the end or the limit of steps, and no refusal
abbrev pub IsSpared : Option Finding → Type 0
IsSpared None = Unit {0}
IsSpared (Some f) = (f.refused ≡ None) × IsEndOrLimit (Some f.status)

-- in the world of the run, and nothing is kept beside it
pub record IsAt (run : Run) (s : Progress) : Type 0 where
  pub world : s.world ≡ run.world
  pub alone : s.companion ≡ Alone

-- a part in which no event is refused, and that has come to the world of the run where nothing ends it
pub record Follows (run : Run) (state : ReaderState) (p : Produced) : Type 0 where
  pub spared : IsSpared p.found
  pub world : p.found ≡ None → IsAt run p.progress
  pub reader : p.found ≡ None → p.progress.reader ≡ state

Follows-and_then : (run then : Run) (reader later : ReaderState) (p : Produced) (more : Progress → Produced) → Follows run reader p →
    (p.found ≡ None → Follows then later (more p.progress)) → Follows then later (and_then p more)
Follows-and_then run then reader later p more here next = by p.found refl where
  by : (o : Option Finding) → p.found ≡ o → Follows then later (and_then p more)
  by None is =
      let same : and_then p more ≡ prepend p.items (more p.progress) = rw is refl in
      let f = next is in
      subst (Follows then later) (sym same) (record { spared = f.spared; world = f.world; reader = f.reader })
  by (Some f) is =
      let same : and_then p more ≡ p = rw is refl in
      subst (Follows then later) (sym same) (record {
        spared = here.spared;
        world = λ none. absurd (let clash : Some f ≡ None = sym is ∙ none in cc);
        reader = λ none. absurd (let clash : Some f ≡ None = sym is ∙ none in cc);
      })

Follows-went_on : (run : Run) (s : Progress) → IsAt run s → Follows run s.reader (went_on s)
Follows-went_on run s same = record { spared = tt; world = λ none. same; reader = λ none. refl }

Follows-limit : (run : Run) (reader : ReaderState) (st : Status) (n : ℕ) (s : Progress) → IsEndOrLimit (Some st) → Follows run reader (ended_with st n s)
Follows-limit run reader st n s is = record { spared = (refl, is); world = λ none. absurd cc; reader = λ none. absurd cc }

Follows-counted : (n : ℕ) (run : Run) (item : Item) (next s : Progress) → IsAt run next → next.reader ≡ s.reader → Follows run s.reader (counted n item next s)
Follows-counted n run item next s same kept =
    cond_both (nat_lt s.count step_limit) (record { items = item ∷ []; found = None; progress = next }) (ended_with (status.Limit n Steps) n s) (Follows run s.reader)
    (λ y. record { spared = tt; world = λ none. same; reader = λ none. kept })
    (λ y. Follows-limit run s.reader (status.Limit n Steps) n s tt)

Follows-stepped : (n : ℕ) (e : Event) (run : Run) (s : Progress) → IsAt run s → Follows (with_step run e (world_step run.world e)) s.reader (stepped n None e (world_step s.world e) s)
Follows-stepped n e run s same =
    let m = world_step s.world e in
    let made : Step = record { event = e; entry = m.entry; world = m.world } in
    let noted : Noted = follows s.companion None made in
    Follows-counted n (with_step run e (world_step run.world e)) (record { number = s.count + 1; further = None; step = Some made; lines = noted.lines })
    (record s { world = m.world; companion = noted.companion; count = s.count + 1; totals = with_entry s.totals m.entry }) s
    (record { world = ap (λ w. (world_step w e).world) same.world; alone = ap (λ c. (follows c None made).companion) same.alone }) refl

Follows-one_step : (n : ℕ) (e : Event) (run : Run) (s : Progress) → IsAt run s → IsFree run → IsFree (step run e) → Follows (step run e) s.reader (one_step n None e s)
Follows-one_step n e run s same before free = by (first_refusal run.world e) refl where
  by : (o : Option Reason) → first_refusal run.world e ≡ o → Follows (step run e) s.reader (one_step n None e s)
  by None is =
      let made : step run e ≡ with_step run e (world_step run.world e) = ap (λ o. step_on o run e) before ∙ ap (λ o. step_unless o run e) is in
      let there : one_step n None e s ≡ stepped n None e (world_step s.world e) s = ap (λ o. unless_refused o n None e s) (ap (λ w. first_refusal w e) same.world ∙ is) in
      subst (λ (r : Run). Follows r s.reader (one_step n None e s)) (sym made) (subst (Follows (with_step run e (world_step run.world e)) s.reader) (sym there) (Follows-stepped n e run s same))
  by (Some reason) is =
      let refusal : Refusal = record { event = e; reason = reason } in
      let there : (step run e).refused ≡ Some refusal = ap (λ o. (step_on o run e).refused) before ∙ ap (λ o. (step_unless o run e).refused) is in
      absurd (let clash : Some refusal ≡ None = sym there ∙ free in cc)

-- ---- rounds

Follows-ready : (n p : ℕ) (run : Run) (s : Progress) → IsAt run s → IsFree run → IsFree (hand_ready run p) → Follows (hand_ready run p) s.reader (deliver_ready n p s)
Follows-ready n p run s same before free =
    subst (λ (w : World). Follows (hand_ready run p) s.reader (cond (ready w.group p == 0) (went_on s) (one_step n None (Deliver p (ready w.group p)) s))) (sym same.world)
    (by (ready run.world.group p) free)
  where
    by : (k : ℕ) → IsFree (deliver_some k run p) → Follows (deliver_some k run p) s.reader (cond (k == 0) (went_on s) (one_step n None (Deliver p k) s))
    by zero f = Follows-went_on run s same
    by (suc k) f =
        let some : (suc k == 0) ≡ false = ne_eqb (suc k) 0 (λ e. let clash : suc k ≡ 0 = e in cc) in
        subst (λ b. Follows (deliver_some (suc k) run p) s.reader (cond b (went_on s) (one_step n None (Deliver p (suc k)) s))) (sym some)
        (Follows-one_step n (Deliver p (suc k)) run s same before f)

Follows-each : (n : ℕ) (set : List ℕ) (run : Run) (s : Progress) → IsAt run s → IsFree run → IsFree (fold hand_ready run set) → Follows (fold hand_ready run set) s.reader (deliveries n set s)
Follows-each n [] run s same before free = Follows-went_on run s same
Follows-each n (p ∷ set) run s same before free =
    let next = hand_ready run p in
    let all = fold hand_ready next set in
    let between = each-free set next free in
    let q = deliver_ready n p s in
    let here = Follows-ready n p run s same before between in
    Follows-and_then next all s.reader s.reader q (deliveries n set) here
    (λ none. subst (λ (r : ReaderState). Follows all r (deliveries n set q.progress)) (here.reader none) (Follows-each n set next q.progress (here.world none) between free))

Follows-pass : (n : ℕ) (run : Run) (s : Progress) → IsAt run s → IsFree run → IsFree (pass run) → Follows (pass run) s.reader (one_pass n s)
Follows-pass n run s same before free =
    let set = up_replicas run.world in
    let next = step run Gather in
    let between = each-free set next free in
    let q = one_step n None Gather s in
    let here = Follows-one_step n Gather run s same before between in
    subst (λ (w : World). Follows (pass run) s.reader (and_then q (deliveries n (up_replicas w)))) (sym same.world)
    (Follows-and_then next (pass run) s.reader s.reader q (deliveries n set) here
    (λ none. subst (λ (r : ReaderState). Follows (pass run) r (deliveries n set q.progress)) (here.reader none) (Follows-each n set next q.progress (here.world none) between free)))

Follows-passes : (n count : ℕ) (run : Run) (s : Progress) → IsAt run s → IsFree run → IsFree (play_passes count run) → Follows (play_passes count run) s.reader (passes n count s)
Follows-passes n zero run s same before free = Follows-went_on run s same
Follows-passes n (suc count) run s same before free =
    let next = pass run in
    let all = play_passes count next in
    let between = passes-free count next free in
    let q = one_pass n s in
    let here = Follows-pass n run s same before between in
    Follows-and_then next all s.reader s.reader q (passes n count) here
    (λ none. subst (λ (r : ReaderState). Follows all r (passes n count q.progress)) (here.reader none) (Follows-passes n count next q.progress (here.world none) between free))

-- ---- any event

pub Follows-happened : (n : ℕ) (e : Event) (run : Run) (s : Progress) → IsAt run s → IsFree run → IsFree (play run e) → Follows (play run e) s.reader (happened n e s)
unfolding happened
Follows-happened n (Rounds count) run s same before free = Follows-passes n count run s same before free
Follows-happened n End run s same before free =
    subst (λ (c : Companion). Follows run s.reader (ended_unless (end_refusal c s.world) n s)) (sym same.alone) (Follows-went_on run s same)
Follows-happened n other run s same before free = Follows-one_step n other run s same before free
