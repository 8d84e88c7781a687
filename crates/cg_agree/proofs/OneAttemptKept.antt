-- Of two attempts from one index the one of the earlier configuration is over: every small step keeps that.
use Rattle.std.proofs.Common.{◌≡◌, ℕ, suc, ◌≤◌, ◌<◌, true, false, cond, not, ◌&&◌, ◌||◌, List, [], ◌∷◌, length, filter_map, length-append, map, filter, Option, Some, None, IfSome, is_some, is_none, refl, sym, ap, ap₂, ◌∙◌, subst, inl, inr, arith, eqb-true}
use Rattle.std.specs.Prelude.{◌==◌, nat_lt}
use Rattle.std.specs.Option.{option_map_or}
use Rattle.std.specs.List.{list_any}
use Rattle.std.proofs.lemmas.Bool.{cases_Bool, cases_eq, cond-false, and_parts, and_from, or_left, ne_eqb}
use Rattle.std.proofs.lemmas.List.Elements.{filter_map-append}
use Rattle.cg_base.specs.Sets.{has}
use Rattle.cg_base.specs.MemberLaws.{list_any_in}
use Rattle.cg_base.specs.FindLaws.{found_passes}
use Rattle.cg_records.specs.declared.primary.Primary.{Primary}
use Rattle.cg_records.specs.declared.vulnerable.Vulnerable.{Vulnerable}
use Rattle.cg_vote.specs.Quorum.{is_quorum}
use Rattle.cg_vote.specs.QuorumLaws.{meet}
use Rattle.cg_knowledge.specs.declared.summary.Summary.{Summary}
use Rattle.cg_knowledge.specs.Summaries.{senders, remaining}
use Rattle.cg_knowledge.specs.Primary.{newest_index, known_primary}
use Rattle.cg_knowledge.specs.Vulnerable.{decided, is_cleared}
use Rattle.cg_knowledge.specs.Verdict.{decides, all_cleared}
use Rattle.cg_wire.specs.declared.message.Msg.{Msg}
use Rattle.cg_group.specs.State.{Sent, has_received}
use Rattle.cg_client.specs.Replica.{Replica}
use Rattle.cg_model.specs.Chronicle.{Told, Attempt, Chronicle}
use Rattle.cg_model.specs.Looks.{told_in, attempt_of, ordered_in, placed_of, waiting_in, is_regular_in, conf_of}
use Rattle.cg_model.specs.Fronts.{IsSomeWith}
use Rattle.cg_model.specs.Talk.{announcer_in}
use Rattle.cg_model.specs.Levels.{prim_at, announced_at, announced_from, lacks_announcement, is_out_lacking, is_installed, is_live, is_dead, is_record_of}
use Rattle.cg_model.specs.FactsTalk.{whole_talk}
use Rattle.cg_model.specs.FactsExchange.{IsRecord, HasRecord, KnowsLevels}
use Rattle.cg_model.specs.FactsAttempts.{IsAttempt, OneAttempt, entered_in}
use Rattle.cg_model.specs.FactsReplica.{has_entered}
use Rattle.cg_model.specs.Facts.{Invariant}
use Rattle.cg_model.specs.Small.{Small, small_step}
use Rattle.cg_model.specs.Smalls.{may_make}
use Rattle.cg_agree_lemmas.specs.ReachSteps.{goes_on-kept}
use Rattle.cg_agree.proofs.FixedKept.{receipts_fixed-kept}
use Rattle.cg_agree_lemmas.specs.EndCovers.{OfEach}
use Rattle.cg_agree_lemmas.specs.EndQuorum.{remaining-sent, both-each, cleared-each, none-cleared}
use Rattle.cg_agree_lemmas.specs.Knowledge.{known-of, each-bounded, some-sender}
use Rattle.cg_agree_lemmas.specs.Announced.{announces}
use Rattle.cg_agree_lemmas.specs.AttemptsGrow.{grown-leaver}
use Rattle.cg_agree.proofs.AttemptSteps.{group-of, attempt-step}
use Rattle.cg_agree.proofs.DeadKept.{said-by, remaining-senders, lacks-still}
use Rattle.cg_agree.proofs.AttemptsCame.{Begins, Came, Stayed, WasLeft, WasEntered, WasInstalled, WasMade, came, dead-kept, made-there}
use Rattle.cg_agree.proofs.ClearedDead.{IsToldIn, each-told, regular-in, without-dead, cleared-dead}

-- ---- what is known as a plan is through

-- what a summary that was heard says of primary components
told-knows : (c : Chronicle) (conf : ℕ) (heard : List Summary) (i : Invariant c) → OfEach (IsToldIn c conf) heard → OfEach (λ s. (s.prim ≡ prim_at c s.prim.index) × HasRecord c s.id s.prim.index s.vulnerable) heard
told-knows c conf [] i told = tt
told-knows c conf (s ∷ heard) i told = (one, told-knows c conf heard i told.1) where
  one : (s.prim ≡ prim_at c s.prim.index) × HasRecord c s.id s.prim.index s.vulnerable
  one =
      let known = subst (λ (o : Option Told). IfSome o (KnowsLevels c)) told.0.found (i.exchange.summary_of_sender.levels conf s.id) in
      subst (λ (x : Summary). (x.prim ≡ prim_at c x.prim.index) × HasRecord c x.id x.prim.index x.vulnerable) told.0.is (known.prim, known.has_record)

-- the attempt of a configuration has its number
conf-of : (c : Chronicle) (k : ℕ) (a : Attempt) → attempt_of c k ≡ Some a → a.conf ≡ k
conf-of c k a found = eqb-true a.conf k (found_passes (λ (a : Attempt). a.conf == k) c.attempts a found)

module _ (c : Chronicle) (i : Invariant c) (p conf : ℕ) (heard : List Summary) (r new : Replica) (begins : Begins c p conf heard r new) where
  told : OfEach (IsToldIn c conf) heard
  told = each-told c conf heard begins.end.each

  -- the known primary component is that of the newest index
  pub known-is : (known_primary heard ≡ prim_at c (known_primary heard).index) × ((known_primary heard).index ≡ newest_index heard)
  known-is =
      let known = known-of (λ s. (s.prim ≡ prim_at c s.prim.index) × HasRecord c s.id s.prim.index s.vulnerable) heard (some-sender heard p begins.end.listed) (told-knows c conf heard i told) in
      (known.prim ∙ known.holds.0 ∙ ap (λ (x : Primary). prim_at c x.index) (sym known.prim), ap (λ (x : Primary). x.index) known.prim ∙ known.index)

  pub quorum-now : is_quorum (prim_at c (known_primary heard).index).set (remaining heard) ≡ true
  unfolding decides
  quorum-now = ap (λ (x : Primary). is_quorum x.set (remaining heard)) (sym known-is.0) ∙ (and_parts (is_quorum (known_primary heard).set (remaining heard)) (all_cleared heard) begins.begun.holds).0

  -- no record stays
  cleared-now : OfEach (λ s. (v : Vulnerable) → s.vulnerable ≡ Some v → is_cleared heard v ≡ true) heard
  unfolding decides
  cleared-now = all heard (cleared-each heard (and_parts (is_quorum (known_primary heard).set (remaining heard)) (all_cleared heard) begins.begun.holds).1) where
    all : (list : List Summary) → OfEach (λ s. is_none (decided heard s.vulnerable) ≡ true) list → OfEach (λ s. (v : Vulnerable) → s.vulnerable ≡ Some v → is_cleared heard v ≡ true) list
    all [] each = tt
    all (s ∷ list) each = ((λ v e. none-cleared heard v (ap (λ o. is_none (decided heard o)) (sym e) ∙ each.0)), all list each.1)

  -- an earlier attempt from the known index is over
  pub earlier-dead : (k : ℕ) (a : Attempt) → attempt_of c k ≡ Some a → k < conf → a.from ≡ (known_primary heard).index → is_dead c a ≡ true
  earlier-dead k a found before from =
      let shape = subst (λ (o : Option Attempt). IfSome o (IsAttempt c k)) found (i.attempt.attempt_shape k) in
      let share = meet (prim_at c (known_primary heard).index).set a.set (remaining heard) (ap (λ n. is_quorum (prim_at c n).set a.set) (sym from) ∙ shape.quorum) quorum-now in
      let each = both-each (IsToldIn c conf) (λ s. (s.prim.index ≤ newest_index heard) × ((s.prim ≡ prim_at c s.prim.index) × HasRecord c s.id s.prim.index s.vulnerable) × ((v : Vulnerable) → s.vulnerable ≡ Some v → is_cleared heard v ≡ true)) heard told
      (three heard (each-bounded heard) (told-knows c conf heard i told) cleared-now) in
      let sent = remaining-sent (λ s. IsToldIn c conf s × ((s.prim.index ≤ newest_index heard) × ((s.prim ≡ prim_at c s.prim.index) × HasRecord c s.id s.prim.index s.vulnerable) × ((v : Vulnerable) → s.vulnerable ≡ Some v → is_cleared heard v ≡ true)))
      heard share.member share.is_in_other each in
      let low : newest_index heard ≤ a.from = (let e = known-is.1 in omega arith) in
      record_or sent.who sent.holds.0 (ap (has a.set) sent.id ∙ share.is_in_one) (let le = sent.holds.1.0 in omega arith) low sent.holds.1.1.1 sent.holds.1.2
    where
      three : (list : List Summary) → OfEach (λ s. s.prim.index ≤ newest_index heard) list → OfEach (λ s. (s.prim ≡ prim_at c s.prim.index) × HasRecord c s.id s.prim.index s.vulnerable) list →
          OfEach (λ s. (v : Vulnerable) → s.vulnerable ≡ Some v → is_cleared heard v ≡ true) list →
          OfEach (λ s. (s.prim.index ≤ newest_index heard) × ((s.prim ≡ prim_at c s.prim.index) × HasRecord c s.id s.prim.index s.vulnerable) × ((v : Vulnerable) → s.vulnerable ≡ Some v → is_cleared heard v ≡ true)) list
      three [] x y z = tt
      three (s ∷ list) x y z = ((x.0, y.0, z.0), three list x.1 y.1 z.1)

      record_or : (s : Summary) → IsToldIn c conf s → has a.set s.id ≡ true → s.prim.index ≤ a.from → newest_index heard ≤ a.from → HasRecord c s.id s.prim.index s.vulnerable →
          ((v : Vulnerable) → s.vulnerable ≡ Some v → is_cleared heard v ≡ true) → is_dead c a ≡ true
      record_or s told member le low has_record clears = at s.vulnerable refl has_record where
        same_of : (v : Vulnerable) → v.attempt ≡ k → IsSomeWith (attempt_of c v.attempt) (λ a. IsRecord a v) → IsRecord a v
        same_of v e is = subst (λ (o : Option Attempt). IsSomeWith o (λ a. IsRecord a v)) (ap (attempt_of c) e ∙ found) is

        at : (o : Option Vulnerable) → s.vulnerable ≡ o → HasRecord c s.id s.prim.index o → is_dead c a ≡ true
        at None e is = without-dead c i k conf a found before s told member le (ap (is_record_of a.conf) e)
        at (Some v) e is = elim (cases_eq v.attempt k) [
          | inl same ↦ (let fits = same_of v same is.2 in cleared-dead c i k conf a found before heard v begins.end.each same fits.0 fits.1 low (clears v e))
          | inr other ↦ without-dead c i k conf a found before s told member le
              (ap (is_record_of a.conf) e ∙ ne_eqb v.attempt a.conf (λ x. other (x ∙ conf-of c k a found)))
        ]

-- ---- who hasn't entered has announced nothing

pub announced-said : (list : List (Sent Msg)) (place q : ℕ) → 0 < announced_from place list q → 0 < length (filter_map announcer_in (placed_of q list))
announced-said [] place q some = absurd (omega arith)
announced-said (s ∷ list) place q some = elim (cases_Bool (s.from == q)) [
  | inl mine ↦ subst (λ b. 0 < length (filter_map announcer_in (map (λ (s : Sent Msg). s.message) (cond b (s ∷ filter (λ (z : Sent Msg). z.from == q) list) (filter (λ (z : Sent Msg). z.from == q) list))))) (sym mine)
      (own (announcer_in s.message) refl (λ none. announced-said list (suc place) q (omega (arith, some, cond-false (announces q s) (suc place) (announced_from (suc place) list q) (ap₂ (λ a b. a && is_some b) mine none)))))
  | inr other ↦ subst (λ b. 0 < length (filter_map announcer_in (map (λ (s : Sent Msg). s.message) (cond b (s ∷ filter (λ (z : Sent Msg). z.from == q) list) (filter (λ (z : Sent Msg). z.from == q) list))))) (sym other)
      (announced-said list (suc place) q (omega (arith, some, cond-false (announces q s) (suc place) (announced_from (suc place) list q) (ap (λ a. a && is_some (announcer_in s.message)) other))))
]
  where
    own : (o : Option ℕ) → announcer_in s.message ≡ o → (announcer_in s.message ≡ None → 0 < length (filter_map announcer_in (placed_of q list))) → 0 < length (filter_map announcer_in (s.message ∷ placed_of q list))
    own None e rest = rw e (rest e)
    own (Some n) e rest = rw e (omega arith)

silent : (c : Chronicle) (i : Invariant c) (conf q : ℕ) → attempt_of c conf ≡ None → announced_at c conf q ≡ 0
silent c i conf q none = elim (cases_eq (announced_at c conf q) 0) [
  | inl zeroth ↦ zeroth
  | inr some ↦
      let placed = announced-said (ordered_in c conf) 0 q (omega arith) in
      let e = ap (λ (xs : List ℕ). length xs) (filter_map-append announcer_in (placed_of q (ordered_in c conf)) (waiting_in c conf q)) in
      let both = length-append (filter_map announcer_in (placed_of q (ordered_in c conf))) (filter_map announcer_in (waiting_in c conf q)) in
      let entered : entered_in c conf q ≡ true = i.attempt.announced_entered conf q (omega (arith, e, both, placed)) in
      absurd (let clash : false ≡ true = sym (ap (λ (o : Option Attempt). option_map_or (λ a. has_entered a q) o false) none) ∙ entered in cc)
]

-- ---- an attempt that is made now, where one of a later configuration is there

module _ (c : Chronicle) (s : Small) (i : Invariant c) (may : may_make c s ≡ true) (p conf : ℕ) (heard : List Summary) (r new : Replica) (begins : Begins c p conf heard r new) (none : attempt_of c conf ≡ None) where
  -- it is over at once: a member that they share has gone on and announces nothing
  pub made-dead : (later : ℕ) (b : Attempt) (x : Attempt) → attempt_of c later ≡ Some b → conf < later → (known_primary heard).index ≡ b.from → x.conf ≡ conf → x.set ≡ remaining heard → x.installed ≡ [] →
      is_dead (small_step c s) x ≡ true
  made-dead later b x found before from at set_is fresh =
      let d = small_step c s in
      let shape = subst (λ (o : Option Attempt). IfSome o (IsAttempt c later)) found (i.attempt.attempt_shape later) in
      let share = meet (prim_at c b.from).set b.set (remaining heard) shape.quorum (ap (λ n. is_quorum (prim_at c n).set (remaining heard)) (sym from) ∙ quorum-now c i p conf heard r new begins) in
      let q = share.member in
      let sent = remaining-sent (IsToldIn c later) (whole_talk c later).heard q (ap (λ l. has l q) (sym shape.parts.set) ∙ share.is_in_one)
      (each-told c later (whole_talk c later).heard (i.talk.heard_is_told later)) in
      let told : is_some (told_in c later q) ≡ true = ap (λ n. is_some (told_in c later n)) (sym sent.id) ∙ ap is_some sent.holds.found in
      let out = regular-in c conf q (i.net.past_left.left later q conf told before) in
      let said : 0 < length (ordered_in c conf) = said-by (ordered_in c conf) q (ap (λ l. has (senders l) q) begins.end.whole ∙ remaining-senders heard q share.is_in_other) in
      let on = goes_on-kept conf c s i.net.phase_sound i.net.receipts_inside may said in
      let lacks = lacks-still c d conf on (receipts_fixed-kept c s i.net.hosted may (group-of c i)) i.net.receipts_inside said q q out
      (ap (λ n. (n == 0) || not (has_received (conf_of c conf) q n)) (silent c i conf q none)) in
      let member : has x.set q ≡ true = ap (λ l. has l q) set_is ∙ share.is_in_other in
      and_from (not (is_installed x)) (list_any (is_out_lacking d x) x.set || not (is_live d x)) (ap (λ (l : List ℕ). not (nat_lt 0 (length l))) fresh)
      (or_left (list_any (is_out_lacking d x) x.set) (not (is_live d x)) (list_any_in (is_out_lacking d x) x.set q member
      (and_from (not (is_regular_in d x.conf q)) (list_any (lacks_announcement d x.conf q) x.set)
      (ap not (ap (λ k. is_regular_in d k q) at ∙ on.stays q out))
      (list_any_in (lacks_announcement d x.conf q) x.set q member (ap (λ k. lacks_announcement d k q q) at ∙ lacks)))))

-- ---- each small step

-- an attempt was there with the same parts, or it is made now
data OldOrMade (c : Chronicle) (conf : ℕ) (b : Attempt) : Type 0 where
  Old : (a : Attempt) (found : attempt_of c conf ≡ Some a) (from : b.from ≡ a.from) → OldOrMade c conf b
  Made : (none : attempt_of c conf ≡ None) (p : ℕ) (heard : List Summary) (r new : Replica) (begins : Begins c p conf heard r new)
      (from : b.from ≡ (known_primary heard).index) (at : b.conf ≡ conf) (set_is : b.set ≡ remaining heard) (fresh : b.installed ≡ []) → OldOrMade c conf b

old-or-made : (c d : Chronicle) (conf : ℕ) (b : Attempt) → Came c d conf b → OldOrMade c conf b
old-or-made c d conf b (Stayed found) = Old b found refl
old-or-made c d conf b (WasLeft a found p n here now low) = Old a found (ap (λ (x : Attempt). x.from) now ∙ (grown-leaver p n a).same.from)
old-or-made c d conf b (WasEntered a found p heard r new begins now moved) = Old a found (ap (λ (x : Attempt). x.from) now)
old-or-made c d conf b (WasInstalled p r new ins done here now levels core moved) = Old ins.a (ap (attempt_of c) here ∙ ins.found) (ap (λ (x : Attempt). x.from) now)
old-or-made c d conf b (WasMade none p heard r new begins greens now moved handed) =
    Made none p heard r new begins (ap (λ (x : Attempt). x.from) now) (ap (λ (x : Attempt). x.conf) now) (ap (λ (x : Attempt). x.set) now) (ap (λ (x : Attempt). x.installed) now)

-- Of two attempts from one index the earlier one is over, behind each small step.
pub one_attempt-kept : (c : Chronicle) (s : Small) → Invariant c → may_make c s ≡ true → OneAttempt (small_step c s)
one_attempt-kept c s i may conf later before = at (attempt_of (small_step c s) conf) refl (attempt_of (small_step c s) later) refl where
  both : (a b : Attempt) → attempt_of (small_step c s) conf ≡ Some a → attempt_of (small_step c s) later ≡ Some b → a.from ≡ b.from → OldOrMade c conf a → OldOrMade c later b →
      is_dead (small_step c s) a ≡ true
  both a b one two same (Old x found from) (Old y there of) =
      let fact = i.attempt.one_attempt conf later before in
      let first : IfSome (Some x) (λ a. IfSome (attempt_of c later) (λ b. a.from ≡ b.from → is_dead c a ≡ true)) = subst (λ (o : Option Attempt). IfSome o (λ a. IfSome (attempt_of c later) (λ b. a.from ≡ b.from → is_dead c a ≡ true))) found fact in
      let second : x.from ≡ y.from → is_dead c x ≡ true = subst (λ (o : Option Attempt). IfSome o (λ b. x.from ≡ b.from → is_dead c x ≡ true)) there first in
      dead-kept c s i may conf x a found one (second (sym from ∙ same ∙ of))
  both a b one two same (Old x found from) (Made none p heard r new begins of at set_is fresh) =
      dead-kept c s i may conf x a found one (earlier-dead c i p later heard r new begins conf x found before (sym from ∙ same ∙ of))
  both a b one two same (Made none p heard r new begins from at set_is fresh) (Old y there of) =
      made-dead c s i may p conf heard r new begins none later y a there before (sym from ∙ same ∙ of) at set_is fresh
  both a b one two same (Made none p heard r new begins from at set_is fresh) (Made nothing q heard' r' new' begins' of at' set' fresh') =
      let step = attempt-step c s i may in
      let clash : conf ≡ later = made-there c (small_step c s) step conf a none one ∙ sym (made-there c (small_step c s) step later b nothing two) in
      absurd (omega arith)

  at : (o : Option Attempt) → attempt_of (small_step c s) conf ≡ o → (u : Option Attempt) → attempt_of (small_step c s) later ≡ u → IfSome o (λ a. IfSome u (λ b. a.from ≡ b.from → is_dead (small_step c s) a ≡ true))
  at None one u two = tt
  at (Some a) one None two = tt
  at (Some a) one (Some b) two = λ same.
      both a b one two same (old-or-made c (small_step c s) conf a (came c (small_step c s) conf a (attempt-step c s i may) one)) (old-or-made c (small_step c s) later b (came c (small_step c s) later b (attempt-step c s i may) two))
