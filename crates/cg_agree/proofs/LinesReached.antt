-- What a summary says of greens agrees with what everybody else of its configuration has told: the lines of its sender's actions, and the
-- sender's join where it is no server of the start. Behind each small step.
use Rattle.std.proofs.Common.{◌≡◌, ℕ, ◌≤◌, ◌<◌, true, false, ◌&&◌, List, [], length, Option, Some, None, IfSome, refl, sym, ap, ◌∙◌, subst, arith, inl, inr, ⊎_elim, is_some, eqb-true, eq-eqb}
use Rattle.std.specs.Prelude.{◌==◌}
use Rattle.std.specs.Option.{option_map_or}
use Rattle.std.proofs.lemmas.Bool.{cases_eq, cond-true, cond-false, and_parts, ne_eqb}
use Rattle.cg_base.specs.declared.weighted.Weighted.{Weighted}
use Rattle.cg_base.specs.FindLaws.{found_passes}
use Rattle.cg_members.specs.Servers.{starting}
use Rattle.cg_model.specs.World.{has_begun}
use Rattle.cg_model.specs.Chronicle.{Told, Chronicle}
use Rattle.cg_model.specs.Looks.{greens_of, told_in, ordered_in, is_member}
use Rattle.cg_model.specs.FactsExchange.{AreReached, HasReached, IsSummary, SummaryLines, TellersStill}
use Rattle.cg_model.specs.Facts.{Invariant}
use Rattle.cg_model.specs.Small.{Small, Starts, Makes, Enters, Orders, Receives, Hands, Leaves, Asks, Settles, Commits, Crashes, Recovers, Copies, Joins, small_step, newest_conf}
use Rattle.cg_model.specs.Smalls.{may_make}
use Rattle.cg_agree_lemmas.specs.SmallTalk.{conf-there}
use Rattle.cg_agree_lemmas.specs.ToldKept.{IsUntold, told-same, told_in-same}
use Rattle.cg_agree.proofs.PastKept.{EntersNow, enters-now, entry_told, told_in-enters}
use Rattle.cg_agree_lemmas.specs.BookedCores.{each-booked}
use Rattle.cg_agree.proofs.CopiesBooked.{greens-on_line}
use Rattle.cg_agree_lemmas.specs.LinesTold.{JoinsBelow, joins-below}
use Rattle.cg_agree_lemmas.specs.LinesMade.{below-each, named-fine, reached, joined}
use Rattle.cg_agree.proofs.LinesBelowKept.{Beginnings}
use Rattle.cg_agree.proofs.LevelsKept.{start-kept}
use Rattle.cg_agree.proofs.SummariesKept.{start-told, fits-kept}
use Rattle.cg_agree_lemmas.specs.CoresSmall.{nil-is}

-- as SummaryLines has it, with the join as it is used
pub record ReachedBy (start : List Weighted) (by of : Told) : Type 0 where
  pub lines : AreReached of.summary.id of.summary.green_count by.greens
  pub joins : JoinsBelow (starting start) 0 by.greens of.summary.id of.summary.green_count

abbrev pub LinesReached : Chronicle → Type 0
LinesReached c = (conf p q : ℕ) (by of : Told) → told_in c conf p ≡ Some by → told_in c conf q ≡ Some of → ReachedBy c.start by of

-- ---- it is so of the greens that all have

module _ (c : Chronicle) (i : Invariant c) (first : Beginnings c) (p q : ℕ) where
  lines-now : AreReached q (length (greens_of c q)) (greens_of c p)
  lines-now =
      reached c i.replica.made_once.numbered i.replica.lines_below.actions first.unbegun first.starters i.net.members_begun.server
      (greens-on_line c i.green.one_order i.replica.disk_behind i.net.hosted) i.replica.disk_behind.behind (greens_of c p) q
      (named-fine (λ a. a.green_line ≤ length (greens_of c a.id.creator)) c.book (greens_of c p) (below-each c c.book i.replica.lines_below.actions)
      (each-booked c (greens_of c p) (i.replica.made_once.in_greens p)))

  joins-now : has_begun c.world q ≡ true → JoinsBelow (starting c.start) 0 (greens_of c p) q (length (greens_of c q))
  joins-now begun =
      joined c i.replica.made_once.numbered i.replica.lines_below.actions first.unbegun first.starters i.net.members_begun.server
      (greens-on_line c i.green.one_order i.replica.disk_behind i.net.hosted) i.replica.disk_behind.behind (greens_of c p) q begun
      (greens-on_line c i.green.one_order i.replica.disk_behind i.net.hosted p)

-- what was told is of them
record TellsNow (c : Chronicle) (q : ℕ) (t : Told) : Type 0 where
  pub greens : t.greens ≡ greens_of c q
  pub id : t.summary.id ≡ q
  pub count : t.summary.green_count ≡ length t.greens
  pub begun : has_begun c.world q ≡ true

both-now : (c : Chronicle) → Invariant c → Beginnings c → (p q : ℕ) (by of : Told) → TellsNow c p by → TellsNow c q of → ReachedBy c.start by of
both-now c i first p q by of one other = record {
  lines = subst (λ xs. AreReached of.summary.id of.summary.green_count xs) (sym one.greens)
      (subst (λ n. AreReached n of.summary.green_count (greens_of c p)) (sym other.id) (subst (λ n. AreReached q n (greens_of c p)) (sym counted) (lines-now c i first p q)));
  joins = subst (λ xs. JoinsBelow (starting c.start) 0 xs of.summary.id of.summary.green_count) (sym one.greens)
      (subst (λ n. JoinsBelow (starting c.start) 0 (greens_of c p) n of.summary.green_count) (sym other.id)
      (subst (λ n. JoinsBelow (starting c.start) 0 (greens_of c p) q n) (sym counted) (joins-now c i first p q other.begun)));
} where
  counted : of.summary.green_count ≡ length (greens_of c q)
  counted = other.count ∙ ap length other.greens

-- ---- behind an entry

module _ (c : Chronicle) (i : Invariant c) (tellers : TellersStill c) (p : ℕ) (may : may_make c (Enters p) ≡ true) (now : EntersNow c p) where
  abbrev d : Chronicle
  d = small_step c (Enters p)

  abbrev new : ℕ
  new = newest_conf c.world.group

  earlier : (conf q : ℕ) (t : Told) → ((conf == new) && (q == p)) ≡ false → told_in d conf q ≡ Some t → told_in c conf q ≡ Some t
  earlier conf q t other e = sym (told_in-enters c p now conf q ∙ cond-false ((conf == new) && (q == p)) (Some (entry_told c p now.replica)) (told_in c conf q) other) ∙ e

  no-later : (later q : ℕ) → new < later → told_in c later q ≡ None
  no-later later q after = at (told_in c later q) refl where
    at : (o : Option Told) → told_in c later q ≡ o → o ≡ None
    at None e = refl
    at (Some t) e = absurd (let inside = (conf-there c.world.group later q (i.net.past_left.member later q (ap is_some e))).1 in omega arith)

  of-greens : (q : ℕ) (t : Told) → told_in d new q ≡ Some t → (t.greens ≡ greens_of c q) × (has_begun c.world q ≡ true)
  of-greens q t e = elim (cases_eq q p) [
    | inl same ↦ (
      let one : Some (entry_told c p now.replica) ≡ Some t =
          sym (told_in-enters c p now new q ∙ cond-true ((new == new) && (q == p)) (Some (entry_told c p now.replica)) (told_in c new q)
          (ap (λ b. b && (q == p)) (eq-eqb new new refl) ∙ eq-eqb q p same)) ∙ e in
          sym (ap (λ (o : Option Told). option_map_or (λ x. x.greens) o []) one) ∙ ap (greens_of c) (sym same),
      i.net.members_begun.member new q (subst (λ n. is_member c new n ≡ true) (sym same) now.may.member),
    )
    | inr other ↦ (
        let was = earlier new q t (ap (λ b. b && (q == p)) (eq-eqb new new refl) ∙ ne_eqb q p other) e in (
          sym (tellers new q t was (nil-is (ordered_in c new) now.may.unsaid) (λ later. no-later later q)),
          i.net.members_begun.member new q (i.net.past_left.member new q (ap is_some was)),
        )
        )
  ]

  tells-now : (q : ℕ) (t : Told) → told_in d new q ≡ Some t → TellsNow c q t
  tells-now q t e = record {
    greens = (of-greens q t e).0;
    id = eqb-true t.summary.id q (and_parts (t.summary.conf == new) (t.summary.id == q) (found_passes (λ (x : Told). (x.summary.conf == new) && (x.summary.id == q)) d.told t e)).1;
    count = (subst (λ (o : Option Told). IfSome o (IsSummary d)) e (fits-kept c (Enters p) i may new q)).count;
    begun = (of-greens q t e).1;
  }

  start-same : d.start ≡ c.start
  start-same = start-kept c (Enters p) tt

  reached-entered : Beginnings c → LinesReached c → LinesReached d
  reached-entered first old conf a b by of e f =
      subst (λ st. ReachedBy st by of) (sym start-same) (elim (cases_eq conf new) [
        | inl here ↦ both-now c i first a b by of (tells-now a by (ap (λ n. told_in d n a) (sym here) ∙ e)) (tells-now b of (ap (λ n. told_in d n b) (sym here) ∙ f))
        | inr other ↦ old conf a b by of (earlier conf a by (ap (λ x. x && (a == p)) (ne_eqb conf new other)) e) (earlier conf b of (ap (λ x. x && (b == p)) (ne_eqb conf new other)) f)
      ])

-- ---- behind each small step

reached-later : (c : Chronicle) (s : Small) → Invariant c → may_make c s ≡ true → IsUntold s → LinesReached c → LinesReached (small_step c s)
reached-later c s i may untold old conf p q by of e f =
    let same : (k n : ℕ) → told_in (small_step c s) k n ≡ told_in c k n = told_in-same c (small_step c s) (told-same c s untold) in
    let was : told_in c conf p ≡ Some by = sym (same conf p) ∙ e in
    subst (λ st. ReachedBy st by of) (sym (start-told c s i may conf p by was)) (old conf p q by of was (sym (same conf q) ∙ f))

pub lines_reached-kept : (c : Chronicle) (s : Small) → Invariant c → Beginnings c → TellersStill c → may_make c s ≡ true → LinesReached c → LinesReached (small_step c s)
lines_reached-kept c (Enters p) i first tellers may = reached-entered c i tellers p may (enters-now c p i.net.phase_sound (i.replica.mode_data p) may) first
lines_reached-kept c (Starts set) i first tellers may = reached-later c (Starts set) i may tt
lines_reached-kept c (Makes set) i first tellers may = reached-later c (Makes set) i may tt
lines_reached-kept c (Orders p) i first tellers may = reached-later c (Orders p) i may tt
lines_reached-kept c (Receives p place) i first tellers may = reached-later c (Receives p place) i may tt
lines_reached-kept c (Hands p) i first tellers may = reached-later c (Hands p) i may tt
lines_reached-kept c (Leaves p set own places) i first tellers may = reached-later c (Leaves p set own places) i may tt
lines_reached-kept c (Asks p kind) i first tellers may = reached-later c (Asks p kind) i may tt
lines_reached-kept c (Settles p) i first tellers may = reached-later c (Settles p) i may tt
lines_reached-kept c (Commits p) i first tellers may = reached-later c (Commits p) i may tt
lines_reached-kept c (Crashes p) i first tellers may = reached-later c (Crashes p) i may tt
lines_reached-kept c (Recovers p) i first tellers may = reached-later c (Recovers p) i may tt
lines_reached-kept c (Copies p joiner) i first tellers may = reached-later c (Copies p joiner) i may tt
lines_reached-kept c (Joins joiner) i first tellers may = reached-later c (Joins joiner) i may tt

-- ---- and so in the form of the fact

lines-had : (c : Chronicle) → SummaryLines c → LinesReached c
lines-had c told conf p q by of e f =
    let here = subst (λ (o : Option Told). IfSome o (λ by. IfSome (told_in c conf q) (HasReached c.start by))) e (told conf p q) in
    let has = subst (λ (o : Option Told). IfSome o (HasReached c.start by)) f here in
    record { lines = has.lines; joins = joins-below c.start by of has }

has-reached : (start : List Weighted) (by of : Told) → ReachedBy start by of → HasReached start by of
has-reached start by of r = record {
  lines = r.lines;
  joined = λ none. ⊎_elim (λ was. absurd (let clash : true ≡ false = sym was ∙ none in cc)) (λ le. le) r.joins;
}

lines-told : (d : Chronicle) → LinesReached d → SummaryLines d
lines-told d reached conf p q = at (told_in d conf p) refl where
  inner : (by : Told) → told_in d conf p ≡ Some by → (o : Option Told) → told_in d conf q ≡ o → IfSome o (HasReached d.start by)
  inner by e None f = tt
  inner by e (Some of) f = has-reached d.start by of (reached conf p q by of e f)

  at : (o : Option Told) → told_in d conf p ≡ o → IfSome o (λ by. IfSome (told_in d conf q) (HasReached d.start by))
  at None e = tt
  at (Some by) e = inner by e (told_in d conf q) refl

pub summary_lines-kept : (c : Chronicle) (s : Small) → Invariant c → Beginnings c → TellersStill c → may_make c s ≡ true → SummaryLines (small_step c s)
summary_lines-kept c s i first tellers may = lines-told (small_step c s) (lines_reached-kept c s i first tellers may (lines-had c i.exchange.summary_lines))
