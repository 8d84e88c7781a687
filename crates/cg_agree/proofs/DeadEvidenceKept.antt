-- Who shows that an attempt is over: every small step keeps that it is.
use Rattle.std.proofs.Common.{◌⊎◌, ◌≡◌, ℕ, ◌≤◌, ◌<◌, nat_le, true, false, not, ◌&&◌, Option, Some, None, IfSome, is_some, option_map, refl, sym, ap, ap₂, ◌∙◌, subst, inl, inr, arith, eq-eqb, eqb-true}
use Rattle.std.specs.Prelude.{◌==◌, option_and_then}
use Rattle.std.specs.Option.{option_map_or}
use Rattle.std.proofs.lemmas.Bool.{cases_Bool, cond-true, cond-false, and_parts, not-true, leb-true}
use Rattle.cg_base.specs.Sets.{has}
use Rattle.cg_base.specs.FindLaws.{found_passes}
use Rattle.cg_records.specs.declared.primary.Primary.{Primary}
use Rattle.cg_records.specs.declared.vulnerable.Vulnerable.{Vulnerable}
use Rattle.cg_client.specs.Replica.{Held, Replica}
use Rattle.cg_client.specs.Summary.{summary_of}
use Rattle.cg_model.specs.Attempts.{held_in}
use Rattle.cg_model.specs.World.{Node, Up, node_of, replica_of, running}
use Rattle.cg_model.specs.Chronicle.{Told, Attempt, Chronicle}
use Rattle.cg_model.specs.Looks.{told_in, attempt_of, core_of, is_regular_in}
use Rattle.cg_model.specs.Fronts.{When}
use Rattle.cg_model.specs.Levels.{is_dead, is_record_of}
use Rattle.cg_model.specs.FactsNet.{PastLeft}
use Rattle.cg_model.specs.FactsTalk.{ModeFits}
use Rattle.cg_model.specs.FactsAttempts.{IsAttempt, AnnouncedEntered, InstalledAnnounced, DeadEvidence, is_without}
use Rattle.cg_model.specs.Facts.{Invariant}
use Rattle.cg_model.specs.Played.{AtRest}
use Rattle.cg_model.specs.Small.{Small, Starts, Makes, Enters, Orders, Receives, Hands, Leaves, Asks, Settles, Commits, Crashes, Recovers, Copies, Joins, coming, newest_conf, small_step}
use Rattle.cg_model.specs.Smalls.{may_make}
use Rattle.cg_agree_lemmas.specs.HandsKept.{hosted}
use Rattle.cg_agree_lemmas.specs.ReachFacts.{all-at}
use Rattle.cg_agree_lemmas.specs.ReachWorld.{when-is}
use Rattle.cg_agree_lemmas.specs.ChronicleFacts.{node_of-set}
use Rattle.cg_agree_lemmas.specs.GroupKept.{phase_sound-kept}
use Rattle.cg_agree_lemmas.specs.SameAttempt.{SameAttempt}
use Rattle.cg_agree.proofs.AttemptSteps.{group-of, attempt-step}
use Rattle.cg_agree.proofs.AttemptsCame.{came, dead-kept}
use Rattle.cg_agree_lemmas.specs.ToldKept.{IsUntold, told-same, told_in-same}
use Rattle.cg_agree.proofs.PastKept.{EntersNow, enters-now, enters-is, entry_turn, entry_told, told_in-enters, past_left-kept}
use Rattle.cg_agree.proofs.CoresMove.{end-rises}
use Rattle.cg_agree.proofs.ClearedDead.{regular-in}
use Rattle.cg_agree.proofs.DeadNow.{never-entered, cut-short}
use Rattle.cg_agree.proofs.RecordsMove.{RecordMove, Still, Fresh, Comes, Through, records-move}
use Rattle.cg_agree.proofs.EnteredBefore.{HowEntered, Before, Now, how-entered, entered_within-kept, entered-begun}
use Rattle.cg_agree.proofs.EnteredDead.{old-dead, come-dead, through-dead}
use Rattle.cg_agree.proofs.ModeKept.{mode_data-kept}
use Rattle.cg_agree_lemmas.specs.ListStill.{when-from}

-- the core of a replica that is up
pub running-core : (c : Chronicle) (p : ℕ) (r : Replica) → replica_of c.world p ≡ Some r → core_of c p ≡ Some r.held
running-core c p r up =
    let sits = hosted c.world p (ap is_some up) in
    let same : Some r ≡ Some sits.replica = sym up ∙ ap (λ (o : Option Node). option_and_then (λ s. running s.life) o) sits.node in
    ap (λ (o : Option Node). option_map (λ s. held_in s.life) o) sits.node ∙ ap (λ (o : Option Replica). option_map (λ r. r.held) o) (sym same)

-- what an entry tells is what its replica knows then
record TellsCore (d : Chronicle) (p : ℕ) (t : Told) : Type 0 where
  core : Held
  found : core_of d p ≡ Some core
  prim : t.summary.prim ≡ core.prim
  vulnerable : t.summary.vulnerable ≡ core.vulnerable

enters-core : (c : Chronicle) (p : ℕ) (now : EntersNow c p) → TellsCore (small_step c (Enters p)) p (entry_told c p now.replica)
unfolding summary_of
enters-core c p now =
    let life = Up (entry_turn c now.replica).replica now.disk in
    record {
      core = (entry_turn c now.replica).replica.held;
      found = ap (λ (x : Chronicle). core_of x p) (enters-is c p now) ∙ ap (λ (o : Option Node). option_map (λ s. held_in s.life) o) (node_of-set (coming c p).world p life p
          ∙ cond-true (p == p) (Some (record { id = p; life = life })) (node_of (coming c p).world p) (eq-eqb p p refl));
      prim = refl;
      vulnerable = refl;
    }

-- a summary behind a step was told before, or its replica tells it now
told-before : (c : Chronicle) (s : Small) (i : Invariant c) → may_make c s ≡ true → (conf p : ℕ) (t : Told) → told_in (small_step c s) conf p ≡ Some t → (told_in c conf p ≡ Some t) ⊎ TellsCore (small_step c s) p t
told-before c s i may conf p t e = at s may e where
  same : (s : Small) → IsUntold s → told_in (small_step c s) conf p ≡ Some t → (told_in c conf p ≡ Some t) ⊎ TellsCore (small_step c s) p t
  same s is e = inl (sym (told_in-same c (small_step c s) (told-same c s is) conf p) ∙ e)

  at : (s : Small) → may_make c s ≡ true → told_in (small_step c s) conf p ≡ Some t → (told_in c conf p ≡ Some t) ⊎ TellsCore (small_step c s) p t
  at (Enters q) may e =
      let now = enters-now c q i.net.phase_sound (i.replica.mode_data q) may in
      let new = newest_conf c.world.group in
      let there = sym (told_in-enters c q now conf p) ∙ e in
      elim (cases_Bool ((conf == new) && (p == q))) [
        | inl is ↦
            let one : Some (entry_told c q now.replica) ≡ Some t = sym (cond-true ((conf == new) && (p == q)) (Some (entry_told c q now.replica)) (told_in c conf p) is) ∙ there in
            let mine : entry_told c q now.replica ≡ t = ap (λ (o : Option Told). option_map_or (λ x. x) o t) one in
            inr (subst (λ n. TellsCore (small_step c (Enters q)) n t) (sym (eqb-true p q (and_parts (conf == new) (p == q) is).1))
            (subst (TellsCore (small_step c (Enters q)) q) mine (enters-core c q now)))
        | inr other ↦ inl (sym (cond-false ((conf == new) && (p == q)) (Some (entry_told c q now.replica)) (told_in c conf p) other) ∙ there)
      ]
  at (Starts set) may e = same (Starts set) tt e
  at (Makes set) may e = same (Makes set) tt e
  at (Orders q) may e = same (Orders q) tt e
  at (Receives q place) may e = same (Receives q place) tt e
  at (Hands q) may e = same (Hands q) tt e
  at (Leaves q set own places) may e = same (Leaves q set own places) tt e
  at (Asks q kind) may e = same (Asks q kind) tt e
  at (Settles q) may e = same (Settles q) tt e
  at (Commits q) may e = same (Commits q) tt e
  at (Crashes q) may e = same (Crashes q) tt e
  at (Recovers q) may e = same (Recovers q) tt e
  at (Copies q joiner) may e = same (Copies q joiner) tt e
  at (Joins joiner) may e = same (Joins joiner) tt e

-- ---- behind a small step

record IsPart (a : Attempt) (p index : ℕ) (v : Option Vulnerable) : Type 0 where
  member : has a.set p ≡ true
  low : index ≤ a.from
  without : is_record_of a.conf v ≡ false

part-of : (a : Attempt) (p index : ℕ) (v : Option Vulnerable) → is_without a p index v ≡ true → IsPart a p index v
part-of a p index v is =
    let both = and_parts (has a.set p && nat_le index a.from) (not (is_record_of a.conf v)) is in
    let front = and_parts (has a.set p) (nat_le index a.from) both.0 in
    record { member = front.0; low = leb-true index a.from front.1; without = not-true (is_record_of a.conf v) both.1 }

module _ (c : Chronicle) (s : Small) (i : Invariant c) (may : may_make c s ≡ true) (rest : AtRest c s)
    (announcers : AnnouncedEntered (small_step c s)) (announced : InstalledAnnounced (small_step c s)) where
  how : (conf p : ℕ) (b : Attempt) → attempt_of (small_step c s) conf ≡ Some b → has b.entered p ≡ true → HowEntered c (small_step c s) conf p b
  how conf p b found is = how-entered c (small_step c s) i conf p b (came c (small_step c s) conf b (attempt-step c s i may) found) is

  set-member : (conf p : ℕ) (a : Attempt) → attempt_of c conf ≡ Some a → has a.entered p ≡ true → has a.set p ≡ true
  set-member conf p a found was =
      let shape = subst (λ (o : Option Attempt). IfSome o (IsAttempt c conf)) found (i.attempt.attempt_shape conf) in
      all-at (has a.set) a.entered p shape.entered was

  -- who had entered it, and has no record of it now
  before-dead : (conf p : ℕ) (a : Attempt) → attempt_of c conf ≡ Some a → has a.entered p ≡ true → (h : Held) → RecordMove c p h → h.prim.index ≤ a.from → is_record_of a.conf h.vulnerable ≡ false → is_dead c a ≡ true
  before-dead conf p a found was h (Still old core index same) low without =
      old-dead c i conf p a found was (set-member conf p a found was) old core (omega arith) (ap (is_record_of a.conf) (sym same) ∙ without)
  before-dead conf p a found was h (Fresh none) low without = absurd (entered-begun c i conf a p found was none)
  before-dead conf p a found was h (Comes r up between prim left) low without =
      come-dead c i conf p a found was (set-member conf p a found was) r up (running-core c p r up) (let e = ap (λ (x : Primary). x.index) prim in omega arith) h.vulnerable left without
  before-dead conf p a found was h (Through r up k heard end beside prim is) low without =
      through-dead c i conf p a found was (set-member conf p a found was) r (running-core c p r up) k heard end (end-rises c p k r heard end)
      (let e = ap (λ (x : Primary). x.index) prim in omega arith) h.vulnerable is without

  member-dead : (conf p : ℕ) (b : Attempt) → attempt_of (small_step c s) conf ≡ Some b → is_regular_in (small_step c s) conf p ≡ false → (h : Held) → core_of (small_step c s) p ≡ Some h →
      is_without b p h.prim.index h.vulnerable ≡ true → is_dead (small_step c s) b ≡ true
  member-dead conf p b found out h core is = elim (cases_Bool (has b.entered p)) [
    | inr never ↦ never-entered (small_step c s) announcers announced conf b found p part.member out never
    | inl entered ↦ at (how conf p b found entered)
  ]
    where
      part : IsPart b p h.prim.index h.vulnerable
      part = part-of b p h.prim.index h.vulnerable is

      conf-is : b.conf ≡ conf
      conf-is = eqb-true b.conf conf (found_passes (λ (a : Attempt). a.conf == conf) (small_step c s).attempts b found)

      at : HowEntered c (small_step c s) conf p b → is_dead (small_step c s) b ≡ true
      at (Before a there same was) =
          dead-kept c s i may conf a b there found (before-dead conf p a there was h (records-move c s i may rest p h core) (let le = part.low in let e = same.from in omega arith)
          (ap (λ k. is_record_of k h.vulnerable) (sym same.conf) ∙ part.without))
      at (Now heard r new begins set_is moved) =
          let mine : Some new.held ≡ Some h = sym (running-core (small_step c s) p new moved) ∙ core in
          let own : is_record_of b.conf h.vulnerable ≡ true =
          sym (ap (λ (o : Option Held). is_record_of b.conf (option_map_or (λ h. h.vulnerable) o None)) mine) ∙ ap (is_record_of b.conf) begins.begun.vulnerable ∙ eq-eqb conf b.conf (sym conf-is) in
          absurd (let clash : true ≡ false = sym own ∙ part.without in cc)

  left-now : PastLeft (small_step c s)
  left-now = past_left-kept c s i.net.hosted (group-of c i) i.replica.mode_data may i.net.past_left

  told-dead : (conf p later : ℕ) → conf < later → (b : Attempt) → attempt_of (small_step c s) conf ≡ Some b → (t : Told) → told_in (small_step c s) later p ≡ Some t →
      is_without b p t.summary.prim.index t.summary.vulnerable ≡ true → is_dead (small_step c s) b ≡ true
  told-dead conf p later before b found t told is = elim (told-before c s i may later p t told) [
    | inr core ↦ member-dead conf p b found out core.core core.found
        (ap₂ (λ n v. is_without b p n v) (sym (ap (λ (x : Primary). x.index) core.prim)) (sym core.vulnerable) ∙ is)
    | inl was ↦ elim (cases_Bool (has b.entered p)) [
      | inr never ↦ never-entered (small_step c s) announcers announced conf b found p part.member out never
      | inl entered ↦ at was (how conf p b found entered)
    ]
  ]
    where
      part : IsPart b p t.summary.prim.index t.summary.vulnerable
      part = part-of b p t.summary.prim.index t.summary.vulnerable is

      out : is_regular_in (small_step c s) conf p ≡ false
      out = regular-in (small_step c s) conf p (left-now.left later p conf (ap is_some told) before)

      at : told_in c later p ≡ Some t → HowEntered c (small_step c s) conf p b → is_dead (small_step c s) b ≡ true
      at was (Before a there same entered) =
          let one = subst (λ (o : Option Attempt). IfSome o (λ a. IfSome (told_in c later p) (λ t. When (is_without a p t.summary.prim.index t.summary.vulnerable) (is_dead c a ≡ true)))) there
          (i.attempt.dead_evidence.told conf p later before) in
          let two = subst (λ (o : Option Told). IfSome o (λ t. When (is_without a p t.summary.prim.index t.summary.vulnerable) (is_dead c a ≡ true))) was one in
          let old : is_without a p t.summary.prim.index t.summary.vulnerable ≡ true = sym (without-same a same) ∙ is in
          dead-kept c s i may conf a b there found (when-is (is_without a p t.summary.prim.index t.summary.vulnerable) (is_dead c a ≡ true) old two)
        where
          without-same : (a : Attempt) → SameAttempt a b → is_without b p t.summary.prim.index t.summary.vulnerable ≡ is_without a p t.summary.prim.index t.summary.vulnerable
          without-same a same = ap₂ (λ x y. x && not y) (ap₂ (λ l n. has l p && nat_le t.summary.prim.index n) same.set same.from) (ap (λ k. is_record_of k t.summary.vulnerable) same.conf)
      at was (Now heard r new begins set_is moved) =
          absurd (let clash : true ≡ false = sym begins.end.regular ∙ regular-in c conf p (i.net.past_left.left later p conf (ap is_some was) before) in cc)

-- Who shows that an attempt is over: so it is, behind each small step.
pub dead_evidence-kept : (c : Chronicle) (s : Small) → Invariant c → may_make c s ≡ true → AtRest c s →
    AnnouncedEntered (small_step c s) → InstalledAnnounced (small_step c s) → ModeFits (small_step c s) → DeadEvidence (small_step c s)
dead_evidence-kept c s i may rest announcers announced modes = record {
  member = λ conf p out. member (attempt_of (small_step c s) conf) conf p refl out (core_of (small_step c s) p) refl;
  told = λ conf p later before. told (attempt_of (small_step c s) conf) conf p later refl before (told_in (small_step c s) later p) refl;
  cut_short = cut-short (small_step c s) announcers announced (phase_sound-kept c s i.net.hosted may (group-of c i)) modes (mode_data-kept c s i may) (entered_within-kept c s i may);
} where
  member : (o : Option Attempt) (conf p : ℕ) → attempt_of (small_step c s) conf ≡ o → is_regular_in (small_step c s) conf p ≡ false → (u : Option Held) → core_of (small_step c s) p ≡ u →
      IfSome o (λ a. IfSome u (λ h. When (is_without a p h.prim.index h.vulnerable) (is_dead (small_step c s) a ≡ true)))
  member None conf p e out u core = tt
  member (Some b) conf p e out None core = tt
  member (Some b) conf p e out (Some h) core = when-from (is_without b p h.prim.index h.vulnerable) (is_dead (small_step c s) b ≡ true)
      (λ is. member-dead c s i may rest announcers announced conf p b e out h core is)

  told : (o : Option Attempt) (conf p later : ℕ) → attempt_of (small_step c s) conf ≡ o → conf < later → (u : Option Told) → told_in (small_step c s) later p ≡ u →
      IfSome o (λ a. IfSome u (λ t. When (is_without a p t.summary.prim.index t.summary.vulnerable) (is_dead (small_step c s) a ≡ true)))
  told None conf p later e before u there = tt
  told (Some b) conf p later e before None there = tt
  told (Some b) conf p later e before (Some t) there = when-from (is_without b p t.summary.prim.index t.summary.vulnerable) (is_dead (small_step c s) b ≡ true)
      (λ is. told-dead c s i may rest announcers announced conf p later before b e t there is)
