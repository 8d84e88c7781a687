-- Where a run is done of which the image of a disk is put, its replica has begun: else the end wouldn't have been admitted.
use Rattle.std.proofs.Common.{◌≡◌, ℕ, ◌+◌, ◌-◌, List, [], ◌∷◌, length, Option, Some, None, Bool, true, false, cond, not, refl, sym, ap, subst, ◌∙◌, Result, Ok, Err, if◌then◌else◌}
use Rattle.std.proofs.lemmas.Bool.{and_parts, not-true}
use Rattle.cg_base.specs.Text.{pieces_of}
use Rattle.cg_group.specs.declared.reason.Reason.{Reason}
use Rattle.cg_schedule.specs.declared.event.Event.{Event}
use Rattle.cg_schedule.specs.declared.event.Event.TheVariants.{End}
use Rattle.cg_schedule.specs.declared.fault.LineFault.{LineFault}
use Rattle.cg_schedule.specs.declared.fault.LineFault.TheVariants.{Syntax, NoMemory}
use Rattle.cg_schedule.specs.declared.reader_state.ReaderState.{ReaderState}
use Rattle.cg_schedule.specs.Line.{event_word, is_start, reading, state_after}
use Rattle.cg_items.specs.Companion.{end_refusal, further_reading, in_place}
use Rattle.cg_items.specs.declared.companion.Companion.{Companion}
use Rattle.cg_items.specs.declared.companion.Companion.TheVariants.{Followers, Relaxed as MadeRows, Sessions as OpenSessions, Imaging}
use Rattle.cg_model.specs.Admission.{unknown}
use Rattle.cg_model.specs.World.{World, has_begun}
use Rattle.cg_group.specs.Refusals.{refuse}
use Rattle.cg_group.specs.declared.reason.Reason.TheVariants.{UnknownReplica}
use Rattle.cg_outcome.specs.declared.command.Command.{Command}
use Rattle.cg_outcome.specs.declared.command.Command.TheVariants.{Image}
use Rattle.cg_outcome.specs.declared.status.Limit.{Limit}
use Rattle.cg_outcome.specs.declared.status.Status.TheVariants as status
use Rattle.cg_outcome.specs.AskedLaws.{before_under_way}
use Rattle.cg_outcome.specs.FurtherLaws.{AreExact}
use Rattle.cg_outcome.specs.GoingOnLaws.{and_then-none, and_then-some}
use Rattle.cg_outcome.specs.LineLaws.{is_comparing, line-further}
use Rattle.cg_outcome.specs.Outcome.{Ending, Ended, Failed, Open, read_outcome, line_outcome, without_return, limit_of, unless_passed, whole_line, at_end, cut_line, last_piece, replayed, outcome_of}
use Rattle.cg_outcome.specs.Produced.{Progress, Finding, Produced, before_all, status_of, ended_with, and_then}
use Rattle.cg_outcome.specs.Rounds.{ended_unless, happened}
use Rattle.cg_outcome.specs.SparedLaws.{IsInLine-line, IsInLine-whole, Undone-in_line}
use Rattle.cg_outcome.specs.Taking.{IsImaged}
use Rattle.cg_outcome.specs.UnderWay.{IsUnderWay}
use Rattle.cg_outcome.proofs.RefusedLines.{happened-reader}
use Rattle.cg_outcome.proofs.RunFacts.{Holds, bare, bare-kept, Holds-line}

module _ (exact : AreExact) (q : ℕ) where
  -- so far a run of which the image of this replica's disk is put: behind the end that was admitted the replica has begun
  record Goes (s : Progress) : Type 0 where
    pub imaging : s.companion ≡ Imaging q
    pub under : IsUnderWay s
    pub begun : s.reader.ended ≡ true → end_refusal (Imaging q) s.world ≡ None

  -- a part that ends the run as done has begun it, and one that goes on goes on so
  abbrev IsBegun : Produced → Type 0
  IsBegun p = status_of p ≡ Some status.Done → end_refusal (Imaging q) p.progress.world ≡ None

  abbrev GoesOn : Produced → Type 0
  GoesOn p = p.found ≡ None → Goes p.progress

  -- what is kept stays of one kind
  bare-imaging : (c : Companion) → bare c ≡ Imaging q → c ≡ Imaging q
  bare-imaging (OpenSessions opened) is = cc
  bare-imaging (Followers followers) is = cc
  bare-imaging (MadeRows rows) is = cc
  bare-imaging other is = is

  stays : (s : Progress) (p : Produced) → s.companion ≡ Imaging q → Holds s p → p.progress.companion ≡ Imaging q
  stays s p imaging h = bare-imaging p.progress.companion (ap bare h.kept ∙ bare-kept s.world s.companion p.items ∙ ap bare imaging)

  -- ---- lines

  ended-after : (state : ReaderState) (e : Event) → state.ended ≡ false → (state_after state e).ended ≡ true → e ≡ End
  ended-after state End open_ ended = refl
  ended-after state other open_ ended = absurd (let clash : false ≡ true = sym open_ ∙ ended in cc)

  by-end : (n : ℕ) (s : Progress) → s.companion ≡ Imaging q → (happened n End s).found ≡ None → end_refusal (Imaging q) (happened n End s).progress.world ≡ None
  unfolding happened
  by-end n s imaging none = at (end_refusal s.companion s.world) (ap (λ (c : Companion). end_refusal c s.world) (sym imaging)) none where
    at : (o : Option Reason) → end_refusal (Imaging q) s.world ≡ o → (ended_unless o n s).found ≡ None → end_refusal (Imaging q) (ended_unless o n s).progress.world ≡ None
    at None is none = is
    at (Some reason) is none = absurd cc

  begun-line : (n : ℕ) (line : List ℕ) (s : Progress) → Goes s → (r : Result (Option Event) LineFault) → reading s.reader line ≡ r → (read_outcome n r s).found ≡ None →
      (read_outcome n r s).progress.reader.ended ≡ true → end_refusal (Imaging q) (read_outcome n r s).progress.world ≡ None
  begun-line n line s g (Ok None) is none ended = g.begun ended
  begun-line n line s g (Err (Syntax reason)) is none ended = absurd cc
  begun-line n line s g (Err NoMemory) is none ended = absurd cc
  begun-line n line s g (Ok (Some e)) is none ended =
      let next : Progress = record s { reader = state_after s.reader e } in
      let reads_as = (exact.lines s.reader line e).0 is in
      let open_ = not-true s.reader.ended (and_parts (not s.reader.ended) (if is_start (event_word e) then not s.reader.started else s.reader.started) reads_as.may_stand).0 in
      let last : e ≡ End = ended-after s.reader e open_ (sym (ap (λ (state : ReaderState). state.ended) (happened-reader n e next)) ∙ ended) in
      let at_end_line = subst (λ (e : Event). (happened n e next).found ≡ None → end_refusal (Imaging q) (happened n e next).progress.world ≡ None) (sym last) (by-end n next g.imaging) in
      at_end_line none

  goes-line : (n : ℕ) (line : List ℕ) (s : Progress) → Goes s → GoesOn (line_outcome n line s)
  goes-line n line s g none =
      let p = line_outcome n line s in
      let h = Holds-line n line s exact g.under in
      let is : p ≡ read_outcome n (reading s.reader line) s = line-further n line s (Ok None) (ap is_comparing g.imaging)
      (ap (λ (c : Companion). in_place s.reader (further_reading c line)) g.imaging) in
      record {
        imaging = stays s p g.imaging h;
        under = h.under_way none;
        begun = subst (λ (p : Produced). p.found ≡ None → p.progress.reader.ended ≡ true → end_refusal (Imaging q) p.progress.world ≡ None) (sym is) (begun-line n line s g (reading s.reader line) refl) none;
      }

  goes-whole : (n at : ℕ) (line : List ℕ) (s : Progress) → Goes s → GoesOn (whole_line n at line s)
  goes-whole n at line s g = by_limit (limit_of n (length line) (at + length line + 1)) where
    by_limit : (o : Option Limit) → GoesOn (unless_passed o n s (line_outcome n (without_return line) s))
    by_limit None = goes-line n (without_return line) s g
    by_limit (Some what) = λ none. cc

  -- ---- the end of the input

  begun-end : (n : ℕ) (how : Ending) (s : Progress) → Goes s → IsBegun (at_end n how s)
  begun-end n Ended s g = at s.reader.ended refl where
    at : (b : Bool) → s.reader.ended ≡ b → IsBegun (cond b (ended_with status.Done n s) (ended_with (status.NoEnd n) n s))
    at true is = λ done. g.begun is
    at false is = λ done. cc
  begun-end n Failed s g = λ done. cc
  begun-end n Open s g = λ done. cc

  begun-then : (p : Produced) (more : Progress → Produced) → (status_of p ≡ Some status.Done → ⊥) → (p.found ≡ None → IsBegun (more p.progress)) → IsBegun (and_then p more)
  begun-then p more undone next = by_finding p.found refl where
    by_finding : (o : Option Finding) → p.found ≡ o → IsBegun (and_then p more)
    by_finding None e = subst IsBegun (sym (and_then-none p more e)) (next e)
    by_finding (Some f) e = subst IsBegun (sym (and_then-some p more f e)) (λ done. absurd (undone done))

  begun-last : (n at : ℕ) (piece : List ℕ) (how : Ending) (s : Progress) → Goes s → IsBegun (last_piece n at piece how s)
  begun-last n at [] how s g = begun-end (n - 1) how s g
  begun-last n at (x ∷ xs) how s g = by_limit (limit_of n (length (x ∷ xs)) (at + length (x ∷ xs))) where
    by_ending : (how : Ending) → IsBegun (cut_line n (x ∷ xs) how s)
    by_ending Ended =
        let p = line_outcome n (x ∷ xs) s in
        begun-then p (at_end n Ended) (Undone-in_line n p (IsInLine-line n (x ∷ xs) s)) (λ none. begun-end n Ended p.progress (goes-line n (x ∷ xs) s g none))
    by_ending Failed = λ done. cc
    by_ending Open = λ done. cc

    by_limit : (o : Option Limit) → IsBegun (unless_passed o n s (cut_line n (x ∷ xs) how s))
    by_limit None = by_ending how
    by_limit (Some what) = λ done. cc

  begun-replayed : (n at : ℕ) (pieces : List (List ℕ)) (how : Ending) (s : Progress) → Goes s → IsBegun (replayed n at pieces how s)
  begun-replayed n at [] how s g = λ done. cc
  begun-replayed n at (rest ∷ []) how s g = begun-last n at rest how s g
  begun-replayed n at (line ∷ next ∷ more) how s g =
      let p = whole_line n at line s in
      begun-then p (λ s'. replayed (n + 1) (at + length line + 1) (next ∷ more) how s') (Undone-in_line n p (IsInLine-whole n at line s))
      (λ none. begun-replayed (n + 1) (at + length line + 1) (next ∷ more) how p.progress (goes-whole n at line s g none))

  pub imaged-begun : (taken : List ℕ) (how : Ending) → IsBegun (outcome_of (Some (Image q)) taken how)
  imaged-begun taken how =
      begun-replayed 1 0 (pieces_of 10 taken) how (before_all (Imaging q)) (record {
        imaging = refl;
        under = before_under_way (Imaging q);
        begun = λ ended. cc;
      })

-- ---- all commands

known-begun : (w : World) (p : ℕ) → unknown w p ≡ None → has_begun w p ≡ true
known-begun w p = at (has_begun w p) where
  at : (b : Bool) → refuse (not b) (UnknownReplica p) ≡ None → b ≡ true
  at true e = refl
  at false e = cc

pub outcome-imaged : (words : List (List ℕ)) → AreExact → IsImaged words
outcome-imaged words exact taken how p is done =
    subst (λ (c : Option Command). has_begun (outcome_of c taken how).progress.world p ≡ true) (sym is)
    (known-begun (outcome_of (Some (Image p)) taken how).progress.world p
    (imaged-begun exact p taken how (subst (λ (c : Option Command). status_of (outcome_of c taken how) ≡ Some status.Done) is done)))
