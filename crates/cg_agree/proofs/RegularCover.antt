-- What a replica holds covers what could become green, where it is evidence: of a primary component's members none is, who attempts
-- holds what its attempt installs, and who is in an exchange holds what it told, or what the summaries show.
use Rattle.std.proofs.Common.{◌⊎◌, ◌≡◌, ℕ, zero, suc, ◌≤◌, ◌<◌, nat_le, Bool, true, false, cond, not, ◌&&◌, ◌||◌, List, [], ◌++◌, length, drop, filter, Option, Some, None, IfSome, is_some, refl, sym, ap, ap₂, ◌∙◌, subst, inl, inr, arith, eq-eqb, eqb-true, append-nil}
use Rattle.std.specs.Prelude.{◌==◌, nat_lt}
use Rattle.std.specs.List.{list_all}
use Rattle.std.proofs.lemmas.Bool.{cases_Bool, cases_eq, and_parts, and_from, not-true, leb-true, leb-false, ltb-true, ltb-false}
use Rattle.std.proofs.lemmas.List.{map-append, append_assoc}
use Rattle.cg_base.specs.declared.action_id.ActionId.{ActionId}
use Rattle.cg_base.specs.Cuts.{index_in}
use Rattle.cg_base.specs.Sets.{has}
use Rattle.cg_base.specs.Choice.{Either}
use Rattle.cg_action.specs.declared.action.Action.{Action}
use Rattle.cg_queue.specs.Queue.{names_of}
use Rattle.cg_records.specs.declared.primary.Primary.{Primary}
use Rattle.cg_records.specs.declared.yellow.Yellow.{Yellow}
use Rattle.cg_knowledge.specs.declared.summary.Summary.{Summary}
use Rattle.cg_knowledge.specs.Summaries.{gone, senders}
use Rattle.cg_knowledge.specs.Primary.{newest_index}
use Rattle.cg_knowledge.specs.Vulnerable.{decided}
use Rattle.cg_knowledge.specs.Verdict.{decides}
use Rattle.cg_knowledge.specs.Yellow.{common_yellow}
use Rattle.cg_group.specs.declared.phase.Phase.{Phase}
use Rattle.cg_group.specs.declared.phase.Phase.TheVariants.{Regular}
use Rattle.cg_group.specs.State.{phase_of, delivered_to}
use Rattle.cg_client.specs.Replica.{Held, State, RegPrim, TransPrim, ExchangeStates, ExchangeActions, Construct, No, Un, NonPrim, Left, Replica}
use Rattle.cg_client.specs.Install.{actions_named, valid_yellow}
use Rattle.cg_model.specs.World.{replica_of}
use Rattle.cg_model.specs.Chronicle.{Told, Attempt, Chronicle}
use Rattle.cg_model.specs.Fronts.{Front, When, IsSomeWith}
use Rattle.cg_model.specs.Looks.{greens_of, told_in, is_regular_at, is_regular_in, conf_at, members_in, attempt_of, attempt_at, top_of}
use Rattle.cg_model.specs.Talk.{Talk, is_full, is_through, is_announced, state_in}
use Rattle.cg_model.specs.Levels.{reach_at, is_evidence, is_record_of, names_with}
use Rattle.cg_model.specs.FactsTalk.{AreTold, IsStateIn, handed_talk}
use Rattle.cg_model.specs.FactsReplica.{IsCore, IsInPrimary, IsInAttempt, HasModeData, IsModeData, is_primary, is_attempting}
use Rattle.cg_model.specs.FactsExchange.{HoldsStill, IsUnmoved, IsGoingOn, HasTakenOver, IsInExchange, best_told}
use Rattle.cg_model.specs.FactsAttempts.{HoldsParts}
use Rattle.cg_model.specs.FactsGreens.{Covers, CoversLevel}
use Rattle.cg_agree.proofs.AttemptsCover.{lead-of, attempts-cover}
use Rattle.cg_agree_lemmas.specs.CoresKept.{held-known}
use Rattle.cg_agree.proofs.CoversStay.{start-covers, covers-more}
use Rattle.cg_agree_lemmas.specs.EndCuts.{run-below, run-above, all-same}
use Rattle.cg_agree.proofs.EndShown.{ToldCovers, Leads, member-shows}
use Rattle.cg_agree_lemmas.specs.FrontFacts.{Front-map, split_by_Front, common-covers}
use Rattle.cg_agree_lemmas.specs.HandsNow.{whole-through}
use Rattle.cg_agree_lemmas.specs.HeldMarks.{IsOneself, rising-green, are_within}
use Rattle.cg_agree_lemmas.specs.Knowledge.{known-of, each-bounded, some-sender}
use Rattle.cg_agree_lemmas.specs.PartsNamed.{actions-names}
use Rattle.cg_agree_lemmas.specs.PlanEnd.{is_behind, behind-ended}
use Rattle.cg_agree_lemmas.specs.ReachWorld.{when-is}
use Rattle.cg_disk_records.specs.Holds.{run_on, cut_behind}
use Rattle.cg_agree_lemmas.specs.TalkEarly.{all-member}
use Rattle.cg_agree.proofs.ToldCover.{CoversWhere}
use Rattle.cg_agree.proofs.ToldLine.{Behind, begun-reach, told-begun, told-fits, told-greens, told-run}
use Rattle.cg_agree_lemmas.specs.YellowMeets.{reds-named}
use Rattle.cg_disk_records.specs.RunLaws.{run_on-append}
use Rattle.cg_agree_lemmas.specs.RunFronts.{run_on-front}
use Rattle.cg_agree_lemmas.specs.ListStill.{when-from}
use Rattle.cg_agree_lemmas.specs.EndCovers.{all-behind}

-- ---- names above a cut

lt-le : (m n : ℕ) → nat_lt m n ≡ not (nat_le n m)
lt-le m n = elim (cases_Bool (nat_le n m)) [
  | inl le ↦ elim (cases_Bool (nat_lt m n)) [
    | inl lt ↦ (let a = leb-true n m le in let b = ltb-true m n lt in absurd (omega arith))
    | inr ge ↦ ge ∙ ap not (sym le)
  ]
  | inr gt ↦ elim (cases_Bool (nat_lt m n)) [
    | inl lt ↦ lt ∙ ap not (sym gt)
    | inr ge ↦ (let a = leb-false n m gt in let b = ltb-false m n ge in absurd (omega arith))
  ]
]

twice-not : (b : Bool) → not (not b) ≡ b
twice-not true = refl
twice-not false = refl

-- Where a list with the greens before it begins with what could become green, so do more greens of that with what is above them.
above-covers : (gs all reach ys cut : List ActionId) → cut ≡ cut_behind [] all → run_on [] reach ≡ true → Front gs all → Front all reach → Front reach (gs ++ ys) →
    Front reach (all ++ filter (λ id. nat_lt (index_in cut id.creator) id.index) ys)
above-covers gs all reach ys cut is run one two covers =
    let q : ActionId → Bool = λ id. nat_lt (index_in cut id.creator) id.index in
    let fs = drop (length gs) all in
    let es = drop (length all) reach in
    let first : all ≡ gs ++ fs = split_by_Front gs all one in
    let whole : reach ≡ all ++ es = split_by_Front all reach two in
    let parts = and_parts (run_on [] all) (run_on (cut_behind [] all) es) (sym (run_on-append [] all es) ∙ ap (run_on []) (sym whole) ∙ run) in
    let same : (p : ℕ) → index_in cut p ≡ index_in (cut_behind [] all) p = λ p. ap (λ c. index_in c p) is in
    let below = run-below all [] cut parts.0 (λ p. (let e = same p in omega arith)) in
    let above = run-above es (cut_behind [] all) cut parts.1 (λ p. (let e = same p in omega arith)) in
    let none : list_all (λ id. not (q id)) fs ≡ true =
    all-behind (λ id. not (q id)) gs fs (ap (list_all (λ id. not (q id))) (sym first)
    ∙ all-same (λ id. not (q id)) (λ id. nat_le id.index (index_in cut id.creator)) (λ id. ap not (lt-le (index_in cut id.creator) id.index) ∙ twice-not (nat_le id.index (index_in cut id.creator))) all ∙ below) in
    let each : list_all q es ≡ true = all-same q (λ id. not (nat_le id.index (index_in cut id.creator))) (λ id. lt-le (index_in cut id.creator) id.index) es ∙ above in
    let shape : reach ≡ gs ++ (fs ++ es) = whole ∙ ap (λ xs. xs ++ es) first ∙ append_assoc gs fs es in
    let both = common-covers q gs fs es ys none each (subst (λ xs. Front xs (gs ++ ys)) shape covers) in
    subst (λ xs. Front xs (all ++ filter q ys)) (sym (whole ∙ ap (λ xs. xs ++ es) first)) (subst (λ xs. Front ((gs ++ fs) ++ es) (xs ++ filter q ys)) (sym first) both)

-- ---- states in a regular configuration

is_alone : State → Bool
is_alone (NonPrim regular) = not regular
is_alone _ = false

not-alone : (set : List ℕ) (conf : ℕ) (t : Talk) (me : ℕ) → is_alone (state_in set conf t me) ≡ false
unfolding is_alone
not-alone set conf t me = at (is_full set t) (is_through t) (has (gone t.heard) me) (decides t.heard) (is_announced t) where
  at : (a b c d e : Bool) → is_alone (cond (not a) (ExchangeStates conf set t.heard) (cond (not b) (ExchangeActions conf t.heard t.accepted)
      (cond c Left (cond (not d) (NonPrim true) (cond e RegPrim (Construct conf t.announced)))))) ≡ false
  at false b c d e = refl
  at true false c d e = refl
  at true true true d e = refl
  at true true false false e = refl
  at true true false true true = refl
  at true true false true false = refl

-- ---- one replica

module _ (c : Chronicle) (f : Behind c) (covered : ToldCovers c) (p : ℕ) (r : Replica) (runs : replica_of c.world p ≡ Some r) where
  abbrev h : Held
  h = r.held

  abbrev greens : List Action
  greens = greens_of c p

  abbrev phase : Phase
  phase = phase_of c.world.group p

  abbrev pub MineCovers : Type 0
  MineCovers = CoversWhere c p h.prim.index h.yellow_valid h.vulnerable greens h.queue.yellow

  mode : IsModeData c p r
  mode = subst (λ (o : Option Replica). IfSome o (IsModeData c p)) runs (f.replica.mode_data p)

  mine : IsCore c h greens
  mine = held-known (IsCore c) c p r runs f.replica.cores

  -- what evidence is
  index-top : is_evidence c p h.prim.index h.yellow_valid h.vulnerable ≡ true → h.prim.index ≡ top_of c
  index-top is = (let a = attempt_at c (top_of c) in eqb-true h.prim.index (top_of c) (and_parts (h.prim.index == top_of c) (h.yellow_valid || (has a.set p && not (is_record_of a.conf h.vulnerable))) is).0)

  -- a member of a primary component is none
  primary-none : (conf : ℕ) → IsInPrimary c h conf → is_evidence c p h.prim.index h.yellow_valid h.vulnerable ≡ true → ⊥
  primary-none conf is evidence =
      let a = attempt_at c (top_of c) in
      let second = (and_parts (h.prim.index == top_of c) (h.yellow_valid || (has a.set p && not (is_record_of a.conf h.vulnerable))) evidence).1 in
      let held : (has a.set p && not (is_record_of a.conf h.vulnerable)) ≡ true = ap (λ b. b || (has a.set p && not (is_record_of a.conf h.vulnerable))) (sym is.yellow_valid) ∙ second in
      let free = not-true (is_record_of a.conf h.vulnerable) (and_parts (has a.set p) (not (is_record_of a.conf h.vulnerable)) held).1 in
      let own : is_record_of a.conf h.vulnerable ≡ true = ap (is_record_of a.conf) is.mine ∙ ap (λ n. (attempt_at c n).conf == a.conf) (index-top evidence) ∙ eq-eqb a.conf a.conf refl in
      absurd (let clash : true ≡ false = sym own ∙ free in cc)

  -- the names of the yellow actions are those of the list
  yellow-names : names_of (valid_yellow h) ≡ cond h.yellow_valid h.queue.yellow []
  yellow-names =
      let is : IsOneself c.start h greens = record { made_of = mine.made_of; contiguous = mine.contiguous; yellow_closed = mine.yellow_closed } in
      let within : are_within (cut_behind h.queue.green_cut (names_of h.queue.reds)) h.queue.yellow ≡ true = ap (λ rc. are_within rc h.queue.yellow) (sym mine.made_of.red_cut) ∙ mine.yellow_closed.known in
      let named = reds-named h.queue.green_cut (names_of h.queue.reds) h.queue.yellow (rising-green c.start h greens is) mine.contiguous.reds mine.yellow_closed.next within in
      at h.yellow_valid (actions-names h.queue h.queue.yellow named) where
        at : (b : Bool) → names_of (actions_named h.queue h.queue.yellow) ≡ h.queue.yellow → names_of (cond b (actions_named h.queue h.queue.yellow) []) ≡ cond b h.queue.yellow []
        at true e = e
        at false e = refl

  -- who attempts holds what its attempt installs
  attempt-data : (state : State) → is_attempting state ≡ true → HasModeData c h phase state → IsInAttempt h (attempt_of c (conf_at phase))
  attempt-data (Construct at heard) is data_of = data_of
  attempt-data (No at heard) is data_of = data_of
  attempt-data Un is data_of = data_of
  attempt-data RegPrim is data_of = absurd (let clash : false ≡ true = is in cc)
  attempt-data TransPrim is data_of = absurd (let clash : false ≡ true = is in cc)
  attempt-data (ExchangeStates at set heard) is data_of = absurd (let clash : false ≡ true = is in cc)
  attempt-data (ExchangeActions at heard accepted) is data_of = absurd (let clash : false ≡ true = is in cc)
  attempt-data (NonPrim regular) is data_of = absurd (let clash : false ≡ true = is in cc)
  attempt-data Left is data_of = absurd (let clash : false ≡ true = is in cc)

  pub attempting-covers : is_attempting r.state ≡ true → MineCovers
  attempting-covers is = when-from (is_evidence c p h.prim.index h.yellow_valid h.vulnerable) (Covers c (names_with greens h.yellow_valid h.queue.yellow)) (λ evidence.
      at (attempt_of c (conf_at phase)) (attempt-data r.state is mode.data_of) (when-is (is_attempting r.state) (IsSomeWith (attempt_of c (conf_at phase)) (HoldsParts h greens)) is
      (subst (λ (o : Option Replica). IfSome o (λ r. When (is_attempting r.state) (IsSomeWith (attempt_of c (conf_at phase)) (HoldsParts r.held greens)))) runs (f.attempt.attempt_list p)))
      (attempts-cover c f covered (conf_at phase)) (index-top evidence)) where
        at : (o : Option Attempt) → IsInAttempt h o → IsSomeWith o (HoldsParts h greens) → IfSome o (λ a. a.from ≡ top_of c → Covers c (names_of (a.greens ++ a.yellow))) → h.prim.index ≡ top_of c →
            Covers c (names_with greens h.yellow_valid h.queue.yellow)
        at None is holds covers top = absurd is
        at (Some a) is holds covers top =
            let e : names_of (a.greens ++ a.yellow) ≡ names_with greens h.yellow_valid h.queue.yellow =
            map-append (λ (x : Action). x.id) a.greens a.yellow ∙ ap₂ (λ xs ys. names_of xs ++ names_of ys) (sym holds.greens) (sym holds.yellow) ∙ ap (λ ys. names_of greens ++ ys) yellow-names in
            subst (Covers c) e (covers (sym is.1 ∙ top))

  -- ---- in an exchange

  module _ (conf : ℕ) (t : Told) (found : told_in c conf p ≡ Some t) where
    -- what it told covers, where it holds that still
    told-mine : HoldsStill t h → CoversWhere c p h.prim.index h.yellow_valid h.vulnerable t.greens t.summary.yellow.list
    told-mine holds =
        subst (λ v. CoversWhere c p h.prim.index h.yellow_valid v t.greens t.summary.yellow.list) (sym holds.vulnerable)
        (subst (λ b. CoversWhere c p h.prim.index b t.summary.vulnerable t.greens t.summary.yellow.list) (sym holds.yellow_valid)
        (subst (λ (x : Primary). CoversWhere c p x.index t.summary.yellow.valid t.summary.vulnerable t.greens t.summary.yellow.list) (sym holds.prim)
        (subst (λ (o : Option Told). IfSome o (λ t. CoversWhere c p t.summary.prim.index t.summary.yellow.valid t.summary.vulnerable t.greens t.summary.yellow.list)) found (covered conf p))))

    unmoved : IsUnmoved t h greens → MineCovers
    unmoved is = subst (λ xs. CoversWhere c p h.prim.index h.yellow_valid h.vulnerable xs h.queue.yellow) (sym is.greens)
        (subst (CoversWhere c p h.prim.index h.yellow_valid h.vulnerable t.greens) (sym is.yellow) (told-mine is.holds))

    -- the names above what has become green since are still there
    going-on : (heard : List Summary) (accepted : ℕ) (best : Told) → IsGoingOn heard accepted best t h greens → MineCovers
    going-on heard accepted best is = when-from (is_evidence c p h.prim.index h.yellow_valid h.vulnerable) (Covers c (names_with greens h.yellow_valid h.queue.yellow)) (λ evidence.
        elim (cases_eq (top_of c) 0) [
          | inl zeroth ↦ subst (λ n. CoversLevel c n (names_with greens h.yellow_valid h.queue.yellow)) (sym zeroth) (start-covers c (names_with greens h.yellow_valid h.queue.yellow))
          | inr apart ↦ at (positive (top_of c) apart) h.yellow_valid (when-is (is_evidence c p h.prim.index h.yellow_valid h.vulnerable) (Covers c (names_with t.greens h.yellow_valid t.summary.yellow.list)) evidence (told-mine is.holds))
        ]) where
          positive : (n : ℕ) → (n ≡ 0 → ⊥) → 0 < n
          positive zero apart = absurd (apart refl)
          positive (suc n) apart = omega arith

          more : Front (names_of t.greens) (names_of greens)
          more = Front-map (λ (x : Action). x.id) t.greens greens (told-greens c f conf p t found)

          at : 0 < top_of c → (b : Bool) → Covers c (names_with t.greens b t.summary.yellow.list) → Covers c (names_with greens b h.queue.yellow)
          at some true covers =
              let fits = told-fits c f conf p t found in
              let reach = names_of (reach_at c (top_of c)) in
              let told : run_on [] (names_of t.greens ++ t.summary.yellow.list) ≡ true =
              run_on-append [] (names_of t.greens) t.summary.yellow.list ∙ and_from (run_on [] (names_of t.greens)) (run_on (cut_behind [] (names_of t.greens)) t.summary.yellow.list)
              (told-run c f conf p t found) (ap (λ gc. run_on gc t.summary.yellow.list) (sym fits.green_cut) ∙ fits.yellow_next) in (
                covers.0,
                subst (λ ys. Front reach (names_of greens ++ ys)) (sym is.yellow)
                    (above-covers (names_of t.greens) (names_of greens) reach t.summary.yellow.list h.queue.green_cut mine.made_of.green_cut (run_on-front [] reach (names_of t.greens ++ t.summary.yellow.list) covers.1 told) more
                    (Front-map (λ (x : Action). x.id) greens (reach_at c (top_of c)) (begun-reach c f p (told-begun c f conf p t found) some)) covers.1),
              )
          at some false covers = covers-more c (top_of c) (names_of t.greens ++ []) (names_of greens ++ [])
              (subst (λ xs. Front xs (names_of greens ++ [])) (sym (append-nil (names_of t.greens))) (subst (Front (names_of t.greens)) (sym (append-nil (names_of greens))) more)) covers

    -- where the plan came to its end without a quorum
    module _ (regular : phase ≡ Regular conf) (behind : is_behind r.state ≡ true) where
      abbrev heard : List Summary
      heard = (handed_talk c conf p).heard

      leads-to : r.state ≡ state_in (members_in c conf) conf (handed_talk c conf p) p
      leads-to = subst (λ x. IsStateIn c p x r) regular (subst (λ (o : Option Replica). IfSome o (IsStateIn c p phase)) runs (f.talk.mode_fits p))

      ended : (is_full (members_in c conf) (handed_talk c conf p) && is_through (handed_talk c conf p)) ≡ true
      ended = behind-ended (members_in c conf) conf (handed_talk c conf p) p (ap is_behind (sym leads-to) ∙ behind)

      are : AreTold c conf heard
      are = subst (AreTold c conf) (whole-through c conf p (delivered_to c.world.group p) f.talk.talk_legal ended).heard (f.talk.heard_is_told conf)

      listed : has (senders heard) p ≡ true
      listed = all-member (has (senders heard)) (members_in c conf) p (f.net.past_left.member conf p (ap is_some found)) (and_parts (is_full (members_in c conf) (handed_talk c conf p)) (is_through (handed_talk c conf p)) ended).0

      taken-over : IsSomeWith (best_told c conf (handed_talk c conf h.id).heard) (λ best. HasTakenOver (handed_talk c conf h.id).heard best t h greens) → MineCovers
      taken-over is = at (lead-of c conf heard (λ best. HasTakenOver heard best t h greens) are
          (subst (λ q. IsSomeWith (best_told c conf (handed_talk c conf q).heard) (λ best. HasTakenOver (handed_talk c conf q).heard best t h greens)) mode.id is)) where
            at : (l : Leads c conf heard) × HasTakenOver heard l.best t h greens → MineCovers
            at both = when-from (is_evidence c p h.prim.index h.yellow_valid h.vulnerable) (Covers c (names_with greens h.yellow_valid h.queue.yellow)) (λ evidence.
                elim (cases_eq (top_of c) 0) [
                  | inl zeroth ↦ subst (λ n. CoversLevel c n (names_with greens h.yellow_valid h.queue.yellow)) (sym zeroth) (start-covers c (names_with greens h.yellow_valid h.queue.yellow))
                  | inr apart ↦ shown (positive (top_of c) apart) evidence
                ]) where
                  took : HasTakenOver heard both.0.best t h greens
                  took = both.1

                  positive : (n : ℕ) → (n ≡ 0 → ⊥) → 0 < n
                  positive zero apart = absurd (apart refl)
                  positive (suc n) apart = omega arith

                  shown : 0 < top_of c → is_evidence c p h.prim.index h.yellow_valid h.vulnerable ≡ true → Covers c (names_with greens h.yellow_valid h.queue.yellow)
                  shown some evidence =
                      let a = attempt_at c (top_of c) in
                      let known = known-of (λ s. s.prim.index ≤ newest_index heard) heard (some-sender heard p listed) (each-bounded heard) in
                      let newest : newest_index heard ≡ top_of c = sym known.index ∙ ap (λ (x : Primary). x.index) (sym known.prim ∙ sym took.prim) ∙ index-top evidence in
                      let second = (and_parts (h.prim.index == top_of c) (h.yellow_valid || (has a.set p && not (is_record_of a.conf h.vulnerable))) evidence).1 in
                      let covers = member-shows c f covered conf heard are some newest both.0 p t found listed (either h.yellow_valid (ap (λ (y : Yellow). y.valid) took.yellow) second) in
                      subst (λ xs. Covers c (names_with xs h.yellow_valid h.queue.yellow)) (sym took.greens)
                      (subst (λ (y : Yellow). Covers c (names_with both.0.best.greens y.valid y.list)) (sym took.yellow) covers)
                    where
                      either : (v : Bool) → v ≡ (common_yellow heard).valid → (v || (has (attempt_at c (top_of c)).set p && not (is_record_of (attempt_at c (top_of c)).conf h.vulnerable))) ≡ true →
                          ((common_yellow heard).valid ≡ true) ⊎ ((has (attempt_at c (top_of c)).set p ≡ true) × (is_record_of (attempt_at c (top_of c)).conf (decided heard t.summary.vulnerable) ≡ false))
                      either true e is = inl (sym e)
                      either false e is =
                          let a = attempt_at c (top_of c) in
                          let parts = and_parts (has a.set p) (not (is_record_of a.conf h.vulnerable)) is in
                          inr (parts.0, ap (is_record_of a.conf) (sym took.vulnerable) ∙ not-true (is_record_of a.conf h.vulnerable) parts.1)

  -- ---- all states in a regular configuration

  in-exchange : (conf : ℕ) (t : Told) → told_in c conf p ≡ Some t → phase ≡ Regular conf → (state : State) → r.state ≡ state → HasModeData c h phase state → is_alone state ≡ false → IsInExchange c conf t h greens state → MineCovers
  unfolding is_alone
  in-exchange conf t found regular RegPrim at data_of alone is = when-from (is_evidence c p h.prim.index h.yellow_valid h.vulnerable) (Covers c (names_with greens h.yellow_valid h.queue.yellow)) (λ evidence. absurd (primary-none (conf_at phase) data_of.0 evidence))
  in-exchange conf t found regular TransPrim at data_of alone is = when-from (is_evidence c p h.prim.index h.yellow_valid h.vulnerable) (Covers c (names_with greens h.yellow_valid h.queue.yellow)) (λ evidence. absurd (primary-none (conf_at phase) data_of.0 evidence))
  in-exchange conf t found regular (Construct k heard) at data_of alone is = attempting-covers (ap is_attempting at)
  in-exchange conf t found regular (No k heard) at data_of alone is = attempting-covers (ap is_attempting at)
  in-exchange conf t found regular Un at data_of alone is = attempting-covers (ap is_attempting at)
  in-exchange conf t found regular (ExchangeStates k set heard) at data_of alone is = unmoved conf t found is
  in-exchange conf t found regular Left at data_of alone is = unmoved conf t found is
  in-exchange conf t found regular (ExchangeActions k heard accepted) at data_of alone is = by (has (gone heard) h.id) is where
    best : (o : Option Told) → IsSomeWith o (λ best. IsGoingOn heard accepted best t h greens) → MineCovers
    best None is = absurd is
    best (Some b) is = going-on conf t found heard accepted b is

    by : (b : Bool) → Either b (IsUnmoved t h greens) (IsSomeWith (best_told c conf heard) (λ best. IsGoingOn heard accepted best t h greens)) → MineCovers
    by true is = unmoved conf t found is
    by false is = best (best_told c conf heard) is
  in-exchange conf t found regular (NonPrim true) at data_of alone is = taken-over conf t found regular (ap is_behind at) is
  in-exchange conf t found regular (NonPrim false) at data_of alone is = absurd (let clash : true ≡ false = alone in cc)

  -- What a member holds that is regular in a configuration covers, where it is evidence.
  pub regular-covers : (conf : ℕ) → phase ≡ Regular conf → MineCovers
  regular-covers conf regular =
      let inside : is_regular_in c conf p ≡ true = ap (is_regular_at conf) regular ∙ eq-eqb conf conf refl in
      let progress = subst (λ (o : Option Replica). IfSome o (λ r. IsSomeWith (told_in c conf p) (λ t. IsInExchange c conf t r.held greens r.state))) runs (f.exchange.exchange_progress conf p inside) in
      at (told_in c conf p) refl progress where
        leads : r.state ≡ state_in (members_in c conf) conf (handed_talk c conf p) p
        leads = subst (λ x. IsStateIn c p x r) regular (subst (λ (o : Option Replica). IfSome o (IsStateIn c p phase)) runs (f.talk.mode_fits p))

        at : (o : Option Told) → told_in c conf p ≡ o → IsSomeWith o (λ t. IsInExchange c conf t h greens r.state) → MineCovers
        at None e is = absurd is
        at (Some t) e is = in-exchange conf t e regular r.state refl mode.data_of (ap is_alone leads ∙ not-alone (members_in c conf) conf (handed_talk c conf p) p) is

  -- of a primary component's members none is evidence
  pub primary-covers : is_primary r.state ≡ true → MineCovers
  primary-covers is = when-from (is_evidence c p h.prim.index h.yellow_valid h.vulnerable) (Covers c (names_with greens h.yellow_valid h.queue.yellow)) (λ evidence. absurd (primary-none (conf_at phase) (inside r.state is mode.data_of) evidence)) where
    inside : (state : State) → is_primary state ≡ true → HasModeData c h phase state → IsInPrimary c h (conf_at phase)
    inside RegPrim is data_of = data_of.0
    inside TransPrim is data_of = data_of.0
    inside (Construct at heard) is data_of = absurd (let clash : false ≡ true = is in cc)
    inside (No at heard) is data_of = absurd (let clash : false ≡ true = is in cc)
    inside Un is data_of = absurd (let clash : false ≡ true = is in cc)
    inside (ExchangeStates at set heard) is data_of = absurd (let clash : false ≡ true = is in cc)
    inside (ExchangeActions at heard accepted) is data_of = absurd (let clash : false ≡ true = is in cc)
    inside (NonPrim regular) is data_of = absurd (let clash : false ≡ true = is in cc)
    inside Left is data_of = absurd (let clash : false ≡ true = is in cc)
