-- A summary fits the greens that its sender had, and what it says of primary components stands: behind each small step.
use Rattle.std.proofs.Common.{◌≡◌, ℕ, zero, suc, ◌+◌, ◌≤◌, ◌<◌, true, false, cond, ◌&&◌, List, [], ◌∷◌, ◌++◌, append-nil, length, Option, Some, None, IfSome, refl, sym, ap, ap₂, ◌∙◌, subst, arith, inl, inr, option_and_then, eqb-true, eq-eqb}
use Rattle.std.specs.Prelude.{◌==◌}
use Rattle.std.specs.Option.{option_map_or}
use Rattle.std.proofs.lemmas.Bool.{cases_Bool, cases_lt, cond-true, cond-false, ne_eqb, and_parts}
use Rattle.cg_base.specs.Cuts.{index_in}
use Rattle.cg_base.specs.Lists.{at_place}
use Rattle.cg_base.specs.Weights.{ids}
use Rattle.cg_base.specs.Text.{is_nil}
use Rattle.cg_base.specs.ListLaws.{at_place-past, length-dropped}
use Rattle.cg_base.specs.FindLaws.{found_passes}
use Rattle.cg_members.specs.Servers.{members_of}
use Rattle.cg_queue.specs.Queue.{names_of}
use Rattle.cg_records.specs.declared.primary.Primary.{Primary}
use Rattle.cg_records.specs.declared.vulnerable.Vulnerable.{Vulnerable}
use Rattle.cg_wire.specs.declared.message.Msg.{Msg}
use Rattle.cg_group.specs.State.{Configuration, configuration, no_configuration}
use Rattle.cg_client.specs.Replica.{Held, State, RegPrim, TransPrim, ExchangeStates, ExchangeActions, Construct, No, Un, NonPrim, Left, Replica}
use Rattle.cg_client.specs.Summary.{summary_of}
use Rattle.cg_model.specs.World.{Up, Node, running, node_of, replica_of}
use Rattle.cg_model.specs.Chronicle.{Told, Attempt, Chronicle}
use Rattle.cg_model.specs.Fronts.{Front, IsSomeWith}
use Rattle.cg_model.specs.Looks.{greens_of, told_in, ordered_in, is_member, top_of, no_attempt, attempt_of, attempt_at, installation}
use Rattle.cg_model.specs.Levels.{is_installed, prim_of, prim_at}
use Rattle.cg_model.specs.FactsExchange.{IsRecord, HasRecord, IsSummary, KnowsLevels}
use Rattle.cg_model.specs.Facts.{Invariant}
use Rattle.cg_model.specs.Small.{Small, Starts, Makes, Enters, Orders, Receives, Hands, Leaves, Asks, Settles, Commits, Crashes, Recovers, Copies, Joins, small_step, coming, newest_conf}
use Rattle.cg_model.specs.Smalls.{may_make, is_set}
use Rattle.cg_disk_records.specs.CutRaiseLaws.{behind-rises}
use Rattle.cg_agree_lemmas.specs.HeldMarks.{IsOneself, rising-green}
use Rattle.cg_agree_lemmas.specs.ChronicleFacts.{node_of-set}
use Rattle.cg_agree_lemmas.specs.CoresKept.{greens-turn}
use Rattle.cg_agree_lemmas.specs.OneselfWorld.{oneself-of}
use Rattle.cg_agree_lemmas.specs.OneselfSmalls.{enters-oneself}
use Rattle.cg_agree.proofs.DeadKept.{said-attempt}
use Rattle.cg_agree.proofs.BegunKept.{nothing-before}
use Rattle.cg_agree_lemmas.specs.ToldKept.{IsUntold, told-same, told_in-same}
use Rattle.cg_agree.proofs.PastKept.{EntersNow, enters-now, entry_turn, entry_told, enters-is, told_in-enters}
use Rattle.cg_agree_lemmas.specs.EntryGreens.{entry-greens, nothing-new}
use Rattle.cg_agree_lemmas.specs.TurnParts.{record_left, HasCome, newest-come}
use Rattle.cg_agree.proofs.LevelsKept.{start-kept, prim-kept, levels_stand-kept}
use Rattle.cg_agree_lemmas.specs.ReachWorld.{level-kept}
use Rattle.cg_agree_lemmas.specs.AttemptsGrow.{attempts-grow}
use Rattle.cg_agree_lemmas.specs.RecordKept.{recorded-later}
use Rattle.cg_agree.proofs.ReachedGrows.{top-grows}

-- ---- what was told stays, and what is told by one that enters

module _ (c : Chronicle) (s : Small) (i : Invariant c) (may : may_make c s ≡ true) where
  abbrev d : Chronicle
  d = small_step c s

  -- where something was told the start is over
  pub start-told : (conf p : ℕ) (t : Told) → told_in c conf p ≡ Some t → d.start ≡ c.start
  unfolding may_make
  start-told conf p t e = at s may where
    at : (s : Small) → may_make c s ≡ true → (small_step c s).start ≡ c.start
    at (Starts set) may =
        let before = nothing-before c i.net.hosted (and_parts (is_nil c.world.nodes) (is_set (ids set)) may).0 in
        absurd (let clash : None ≡ Some t = sym (ap (λ (x : Chronicle). told_in x conf p) before) ∙ e in cc)
    at (Makes set) may = start-kept c (Makes set) tt
    at (Enters q) may = start-kept c (Enters q) tt
    at (Orders q) may = start-kept c (Orders q) tt
    at (Receives q place) may = start-kept c (Receives q place) tt
    at (Hands q) may = start-kept c (Hands q) tt
    at (Leaves q set own places) may = start-kept c (Leaves q set own places) tt
    at (Asks q kind) may = start-kept c (Asks q kind) tt
    at (Settles q) may = start-kept c (Settles q) tt
    at (Commits q) may = start-kept c (Commits q) tt
    at (Crashes q) may = start-kept c (Crashes q) tt
    at (Recovers q) may = start-kept c (Recovers q) tt
    at (Copies q joiner) may = start-kept c (Copies q joiner) tt
    at (Joins joiner) may = start-kept c (Joins joiner) tt

-- it holds of each summary behind a step, where it holds of those before, and of the one of who enters
pub told-by : (c : Chronicle) (s : Small) (i : Invariant c) (may : may_make c s ≡ true) (P : ℕ → ℕ → Told → Type 0) → ((conf p : ℕ) (t : Told) → told_in c conf p ≡ Some t → P conf p t) →
    ((p : ℕ) (now : EntersNow c p) → s ≡ Enters p → P (newest_conf c.world.group) p (entry_told c p now.replica)) → (conf p : ℕ) → IfSome (told_in (small_step c s) conf p) (P conf p)
told-by c s i may P old new conf p = at s may old new where
  same : (s : Small) → IsUntold s → ((conf p : ℕ) (t : Told) → told_in c conf p ≡ Some t → P conf p t) → IfSome (told_in (small_step c s) conf p) (P conf p)
  same s untold old = subst (λ (o : Option Told). IfSome o (P conf p)) (sym (told_in-same c (small_step c s) (told-same c s untold) conf p)) (each (told_in c conf p) refl) where
    each : (o : Option Told) → told_in c conf p ≡ o → IfSome o (P conf p)
    each None e = tt
    each (Some t) e = old conf p t e

  at : (s : Small) → may_make c s ≡ true → ((conf p : ℕ) (t : Told) → told_in c conf p ≡ Some t → P conf p t) →
      ((p : ℕ) (now : EntersNow c p) → s ≡ Enters p → P (newest_conf c.world.group) p (entry_told c p now.replica)) → IfSome (told_in (small_step c s) conf p) (P conf p)
  at (Enters q) may old new =
      let now = enters-now c q i.net.phase_sound (i.replica.mode_data q) may in
      let conf' = newest_conf c.world.group in
      subst (λ (o : Option Told). IfSome o (P conf p)) (sym (told_in-enters c q now conf p)) (elim (cases_Bool ((conf == conf') && (p == q))) [
        | inl is ↦
            let parts = and_parts (conf == conf') (p == q) is in
            subst (λ b. IfSome (cond b (Some (entry_told c q now.replica)) (told_in c conf p)) (P conf p)) (sym is)
            (subst (λ n. P n p (entry_told c q now.replica)) (sym (eqb-true conf conf' parts.0)) (subst (λ n. P conf' n (entry_told c q now.replica)) (sym (eqb-true p q parts.1)) (new q now refl)))
        | inr isnt ↦ subst (λ b. IfSome (cond b (Some (entry_told c q now.replica)) (told_in c conf p)) (P conf p)) (sym isnt) (each (told_in c conf p) refl)
      ])
    where
      each : (o : Option Told) → told_in c conf p ≡ o → IfSome o (P conf p)
      each None e = tt
      each (Some t) e = old conf p t e
  at (Starts set) may old new = same (Starts set) tt old
  at (Makes set) may old new = same (Makes set) tt old
  at (Orders q) may old new = same (Orders q) tt old
  at (Receives q place) may old new = same (Receives q place) tt old
  at (Hands q) may old new = same (Hands q) tt old
  at (Leaves q set own places) may old new = same (Leaves q set own places) tt old
  at (Asks q kind) may old new = same (Asks q kind) tt old
  at (Settles q) may old new = same (Settles q) tt old
  at (Commits q) may old new = same (Commits q) tt old
  at (Crashes q) may old new = same (Crashes q) tt old
  at (Recovers q) may old new = same (Recovers q) tt old
  at (Copies q joiner) may old new = same (Copies q joiner) tt old
  at (Joins joiner) may old new = same (Joins joiner) tt old

installed-kept : (c : Chronicle) (s : Small) → Invariant c → (small_step c s).start ≡ c.start → (level : ℕ) → level ≤ top_of c → installation (attempt_at (small_step c s) level) ≡ installation (attempt_at c level)
installed-kept c s i start zero le = refl
installed-kept c s i start (suc level) le =
    let same = level-kept c s (suc level) i.attempt.levels_stand (omega arith) le in
    ap₂ (λ xs ys. xs ++ ys) (ap₂ (λ xs ys. xs ++ ys) same.greens same.yellow) same.reds

-- ---- who enters

module _ (c : Chronicle) (i : Invariant c) (p : ℕ) (may : may_make c (Enters p) ≡ true) (now : EntersNow c p) where
  abbrev pub entered : Chronicle
  entered = small_step c (Enters p)

  abbrev pub new_held : Held
  new_held = (entry_turn c now.replica).replica.held

  node-entered : node_of entered.world p ≡ Some (record { id = p; life = Up (entry_turn c now.replica).replica now.disk })
  node-entered = ap (λ (x : Chronicle). node_of x.world p) (enters-is c p now) ∙ node_of-set c.world p (Up (entry_turn c now.replica).replica now.disk) p
      ∙ cond-true (p == p) (Some (record { id = p; life = Up (entry_turn c now.replica).replica now.disk })) (node_of c.world p) (eq-eqb p p refl)

  pub up-entered : replica_of entered.world p ≡ Some (entry_turn c now.replica).replica
  up-entered = ap (λ (o : Option Node). option_and_then (λ s. running s.life) o) node-entered

  pub greens-entered : greens_of entered p ≡ greens_of c p
  greens-entered =
      ap (λ (x : Chronicle). greens_of x p) (enters-is c p now)
      ∙ greens-turn (coming c p) p now.replica now.disk (entry_turn c now.replica) i.net.hosted.past now.node
      ∙ ap (λ xs. greens_of c p ++ xs) (nothing-new now.replica (entry_turn c now.replica).replica (entry-greens c.world.group now.replica now.between)) ∙ append-nil (greens_of c p)

  pub core-entered : IsOneself c.start new_held (greens_of c p)
  core-entered =
      let all = enters-oneself c p i.net.hosted.past (oneself-of c i.replica.cores) in
      subst (λ st. IsOneself st new_held (greens_of c p)) (start-kept c (Enters p) tt)
      (subst (IsOneself entered.start new_held) greens-entered (subst (λ (o : Option Replica). IfSome o (λ r. IsOneself entered.start r.held (greens_of entered p))) up-entered (all.memory p)))

  pub come-entered : HasCome now.replica (entry_turn c now.replica).replica (newest_conf c.world.group) (configuration c.world.group (newest_conf c.world.group)).members
  come-entered = newest-come c.world.group now.replica now.between

  -- ---- its summary fits

  pub entry-fits : IsSummary entered (entry_told c p now.replica)
  unfolding summary_of
  entry-fits =
      let is = core-entered in
      record {
        count = ap (λ xs. new_held.queue.white + length xs) is.made_of.kept ∙ length-dropped new_held.queue.white (greens_of c p) is.made_of.white;
        green_cut = is.made_of.green_cut;
        left = ap (λ m. m.left) is.made_of.members ∙ ap (λ st. (members_of st (greens_of c p)).left) (sym (start-kept c (Enters p) tt));
        red_cut = λ creator. subst (λ cut. index_in new_held.queue.green_cut creator ≤ index_in cut creator) (sym is.made_of.red_cut)
            (behind-rises new_held.queue.green_cut (names_of new_held.queue.reds) creator (rising-green c.start new_held (greens_of c p) is));
        yellow_next = is.yellow_closed.next;
        yellow_known = is.yellow_closed.known;
      }

  -- ---- what it says of primary components

  abbrev next : ℕ
  next = newest_conf c.world.group

  -- an attempt is of a configuration in which something was said
  earlier-attempt : (conf : ℕ) (a : Attempt) → attempt_of c conf ≡ Some a → conf < next
  unfolding configuration
  earlier-attempt conf a e = elim (cases_lt conf next) [
    | inl less ↦ less
    | inr far ↦ absurd (
        let said = said-attempt c conf a i e in
        unsaid conf far said
        )
  ] where
    newest-unsaid : is_nil (ordered_in c next) ≡ true
    newest-unsaid = now.may.unsaid

    unsaid : (conf : ℕ) → next ≤ conf → 0 < length (ordered_in c conf) → ⊥
    unsaid conf far said = elim (cases_lt next conf) [
      | inr near ↦
          let same : conf ≡ next = omega arith in
          nothing (ordered_in c conf) (ap (λ n. is_nil (ordered_in c n)) same ∙ newest-unsaid) said
      | inl past ↦
          let none : length (ordered_in c conf) ≡ 0 = ap (λ (o : Option (Configuration Msg)). length (option_map_or (λ x. x) o no_configuration).ordered) (at_place-past c.world.group.configurations conf past) in
          omega arith
    ] where
      nothing : {X : Type 0} (xs : List X) → is_nil xs ≡ true → 0 < length xs → ⊥
      nothing [] e some = omega arith
      nothing (x ∷ xs) e some = let clash : false ≡ true = e in cc

  -- the configuration of a level's attempt, and 0 for the start
  earlier-prim : (level : ℕ) → level ≤ top_of c → 0 < next → (prim_at c level).conf < next
  earlier-prim zero le some = some
  earlier-prim (suc level) le some = subst (λ (x : Primary). x.conf < next) (sym (cond-false (suc level == 0) (let x : Primary = record { index = 0; conf = 0; set = c.start } in x) (prim_of c (suc level) (attempt_at c (suc level))) (ne_eqb (suc level) 0 (λ e. (let clash : suc level ≡ 0 = e in cc))))) (opened (at_place c.levels (suc level)) refl (i.attempt.levels_stand.opened level (omega arith))) where
    opened : (o : Option ℕ) → at_place c.levels (suc level) ≡ o → IsSomeWith o (λ conf. IsSomeWith (attempt_of c conf) (λ a. (a.from ≡ level) × (is_installed a ≡ true))) → (attempt_at c (suc level)).conf < next
    opened None e is = absurd is
    opened (Some conf) e is = found (attempt_of c conf) refl is where
      found : (o : Option Attempt) → attempt_of c conf ≡ o → IsSomeWith o (λ a. (a.from ≡ level) × (is_installed a ≡ true)) → (attempt_at c (suc level)).conf < next
      found None f is = absurd is
      found (Some a) f is =
          let named : a.conf ≡ conf = eqb-true a.conf conf (found_passes (λ (a : Attempt). a.conf == conf) c.attempts a f) in
          let here : attempt_at c (suc level) ≡ a = ap (λ (o : Option ℕ). option_map_or (λ a. a) (option_and_then (attempt_of c) o) (no_attempt c.start)) e ∙ ap (λ (o : Option Attempt). option_map_or (λ a. a) o (no_attempt c.start)) f in
          subst (λ n. n < next) (sym (ap (λ (x : Attempt). x.conf) here ∙ named)) (earlier-attempt conf a f)

  -- the newest configuration has members
  some-conf : 0 < next
  unfolding configuration
  some-conf = elim (cases_lt 0 next) [
    | inl some ↦ some
    | inr few ↦ (let none : next ≡ 0 = omega arith in absurd (let clash : true ≡ false = sym now.may.member ∙ ap (λ n. is_member c n p) none ∙ nobody in cc))
  ] where
    nobody : is_member c 0 p ≡ false
    nobody = refl

  recorded-there : (v : Option Vulnerable) → HasRecord c now.replica.held.id now.replica.held.prim.index v → option_map_or (λ v. v.attempt) v 0 < next
  recorded-there None is = some-conf
  recorded-there (Some v) is = at (attempt_of c v.attempt) refl is.2 where
    at : (o : Option Attempt) → attempt_of c v.attempt ≡ o → IsSomeWith o (λ a. IsRecord a v) → v.attempt < next
    at None e is = absurd is
    at (Some a) e is = earlier-attempt v.attempt a e

  left-record : (state : State) (v : Option Vulnerable) → HasRecord c now.replica.held.id now.replica.held.prim.index v → HasRecord c now.replica.held.id now.replica.held.prim.index (record_left state v)
  left-record TransPrim v is = tt
  left-record (No conf heard) v is = tt
  left-record RegPrim v is = is
  left-record (ExchangeStates conf set heard) v is = is
  left-record (ExchangeActions conf summaries accepted) v is = is
  left-record (Construct conf heard) v is = is
  left-record Un v is = is
  left-record (NonPrim regular) v is = is
  left-record Left v is = is

  here : replica_of c.world p ≡ Some now.replica
  here = ap (λ (o : Option Node). option_and_then (λ s. running s.life) o) now.node

  pub entry-levels : KnowsLevels entered (entry_told c p now.replica)
  unfolding summary_of
  entry-levels =
      let r = now.replica in
      let come = come-entered in
      let stands = levels_stand-kept c (Enters p) i may in
      let known = subst (λ (o : Option Replica). IfSome o (λ r. (r.held.prim.index ≤ top_of entered) × (r.held.prim ≡ prim_at entered r.held.prim.index))) up-entered (stands.known.memory p) in
      let before = subst (λ (o : Option Replica). IfSome o (λ r. (r.held.prim.index ≤ top_of c) × (r.held.prim ≡ prim_at c r.held.prim.index))) here (i.attempt.levels_stand.known.memory p) in
      let begins = subst (λ (o : Option Replica). IfSome o (λ r. Front (installation (attempt_at c r.held.prim.index)) (greens_of c p))) here (i.green.begins_with.memory p) in
      let record_there = subst (λ (o : Option Replica). IfSome o (λ r. HasRecord c r.held.id r.held.prim.index r.held.vulnerable)) here (i.attempt.record_of_attempt.memory p) in
      let index : new_held.prim.index ≡ r.held.prim.index = ap (λ (x : Primary). x.index) come.prim in
      let left = left-record r.state r.held.vulnerable record_there in
      record {
        level = known.0;
        prim = known.1;
        earlier = subst (λ (x : Primary). x.conf < next) (sym (come.prim ∙ before.1)) (earlier-prim r.held.prim.index before.0 some-conf);
        begins = subst (λ n. Front (installation (attempt_at entered n)) (greens_of c p)) (sym index)
            (subst (λ xs. Front xs (greens_of c p)) (sym (installed-kept c (Enters p) i (start-kept c (Enters p) tt) r.held.prim.index before.0)) begins);
        has_record = subst (λ (v : Option Vulnerable). HasRecord entered new_held.id new_held.prim.index v) (sym come.vulnerable)
            (subst (λ n. HasRecord entered n new_held.prim.index (record_left r.state r.held.vulnerable)) (sym come.id)
            (recorded-later c entered r.held.id r.held.prim.index new_held.prim.index (record_left r.state r.held.vulnerable) (attempts-grow c (Enters p)) (let le = index in omega (arith, le)) left));
        record_earlier = subst (λ (v : Option Vulnerable). option_map_or (λ v. v.attempt) v 0 < next) (sym come.vulnerable) (recorded-there (record_left r.state r.held.vulnerable) left);
      }

-- ---- behind each small step

pub fits-kept : (c : Chronicle) (s : Small) → Invariant c → may_make c s ≡ true → (conf p : ℕ) → IfSome (told_in (small_step c s) conf p) (IsSummary (small_step c s))
fits-kept c s i may = told-by c s i may (λ conf p t. IsSummary (small_step c s) t) old new where
  old : (conf p : ℕ) (t : Told) → told_in c conf p ≡ Some t → IsSummary (small_step c s) t
  old conf p t e =
      let is = subst (λ (o : Option Told). IfSome o (IsSummary c)) e (i.exchange.summary_of_sender.fits conf p) in
      record {
        count = is.count;
        green_cut = is.green_cut;
        left = is.left ∙ ap (λ st. (members_of st t.greens).left) (sym (start-told c s i may conf p t e));
        red_cut = is.red_cut;
        yellow_next = is.yellow_next;
        yellow_known = is.yellow_known;
      }

  new : (p : ℕ) (now : EntersNow c p) → s ≡ Enters p → IsSummary (small_step c s) (entry_told c p now.replica)
  new p now e = subst (λ (s : Small). IsSummary (small_step c s) (entry_told c p now.replica)) (sym e) (entry-fits c i p (subst (λ (s : Small). may_make c s ≡ true) e may) now)

pub knows-kept : (c : Chronicle) (s : Small) → Invariant c → may_make c s ≡ true → (conf p : ℕ) → IfSome (told_in (small_step c s) conf p) (KnowsLevels (small_step c s))
knows-kept c s i may = told-by c s i may (λ conf p t. KnowsLevels (small_step c s) t) old new where
  old : (conf p : ℕ) (t : Told) → told_in c conf p ≡ Some t → KnowsLevels (small_step c s) t
  old conf p t e =
      let is = subst (λ (o : Option Told). IfSome o (KnowsLevels c)) e (i.exchange.summary_of_sender.levels conf p) in
      let start = start-told c s i may conf p t e in
      let index = t.summary.prim.index in
      record {
        level = (let low = is.level in let more = top-grows c s in omega arith);
        prim = is.prim ∙ sym (prim-kept c s index i.attempt.levels_stand start is.level);
        earlier = is.earlier;
        begins = subst (λ xs. Front xs t.greens) (sym (installed-kept c s i start index is.level)) is.begins;
        has_record = recorded-later c (small_step c s) t.summary.id index index t.summary.vulnerable (attempts-grow c s) (omega arith) is.has_record;
        record_earlier = is.record_earlier;
      }

  new : (p : ℕ) (now : EntersNow c p) → s ≡ Enters p → KnowsLevels (small_step c s) (entry_told c p now.replica)
  new p now e = subst (λ (s : Small). KnowsLevels (small_step c s) (entry_told c p now.replica)) (sym e) (entry-levels c i p (subst (λ (s : Small). may_make c s ≡ true) e may) now)
