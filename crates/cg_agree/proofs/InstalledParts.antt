-- What a member that installs its attempt makes green is what the attempt has: behind it all its greens are the installation.
use Rattle.std.proofs.Common.{◌≡◌, ℕ, suc, ◌≤◌, Bool, true, false, cond, not, List, [], ◌∷◌, ◌++◌, filter, flat_map, length, Option, Some, None, IfSome, refl, sym, ap, ap₂, ◌∙◌, subst, inl, inr, arith, if◌then◌else◌}
use Rattle.std.specs.Prelude.{option_and_then}
use Rattle.std.specs.Option.{option_map_or}
use Rattle.std.proofs.lemmas.Bool.{cases_Bool}
use Rattle.std.proofs.lemmas.List.{append_assoc}
use Rattle.cg_base.specs.declared.action_id.ActionId.{ActionId}
use Rattle.cg_base.specs.Cuts.{index_in}
use Rattle.cg_base.specs.Ids.{has_name}
use Rattle.cg_base.specs.Sets.{has}
use Rattle.cg_base.specs.ListLaws.{length-filter}
use Rattle.cg_action.specs.declared.action.Action.{Action}
use Rattle.cg_queue.specs.Queue.{names_of}
use Rattle.cg_knowledge.specs.declared.summary.Summary.{Summary}
use Rattle.cg_knowledge.specs.Summaries.{gone, most_updated}
use Rattle.cg_knowledge.specs.Verdict.{decides}
use Rattle.cg_knowledge.specs.Yellow.{common_yellow}
use Rattle.cg_plan.specs.Plan.{creators}
use Rattle.cg_group.specs.declared.phase.Phase.{Phase}
use Rattle.cg_group.specs.State.{phase_of, delivered_to}
use Rattle.cg_client.specs.Replica.{Held, State, RegPrim, ExchangeStates, ExchangeActions, Construct, NonPrim, Left, Replica}
use Rattle.cg_client.specs.Install.{valid_yellow}
use Rattle.cg_client.specs.Queries.{plain_reds}
use Rattle.cg_model.specs.Chronicle.{Told, Attempt, Chronicle}
use Rattle.cg_model.specs.Fronts.{When, IsSomeWith}
use Rattle.cg_model.specs.Looks.{greens_of, told_in, conf_at, members_in, attempt_of, installation}
use Rattle.cg_model.specs.Talk.{Talk, is_full, is_through, is_announced, known_up_to, state_in}
use Rattle.cg_model.specs.FactsReplica.{IsCore, is_attempting}
use Rattle.cg_model.specs.FactsTalk.{handed_talk, whole_talk, of_creator, count_behind, IsStateIn, AreNumbered, AreNumberedAt}
use Rattle.cg_model.specs.FactsExchange.{best_told}
use Rattle.cg_model.specs.FactsAttempts.{IsAttempt, HoldsParts, names_between, red_names}
use Rattle.cg_model.specs.Facts.{Invariant}
use Rattle.cg_model.specs.Small.{newly_green}
use Rattle.cg_agree_lemmas.specs.ActsLate.{none-handed}
use Rattle.cg_agree.proofs.AttemptSteps.{Installing}
use Rattle.cg_agree.proofs.AttemptsCame.{ins-conf}
use Rattle.cg_agree.proofs.ClearedDead.{IsToldIn, each-told}
use Rattle.cg_agree.proofs.EndReached.{best-of}
use Rattle.cg_agree_lemmas.specs.HandsNow.{whole-through}
use Rattle.cg_agree_lemmas.specs.HeldInstall.{reds_but}
use Rattle.cg_agree_lemmas.specs.HeldMarks.{IsOneself}
use Rattle.cg_agree_lemmas.specs.HeldAll.{valid_names, installed_by}
use Rattle.cg_agree_lemmas.specs.InstallGreens.{HasInstalledAll, newly-installed}
use Rattle.cg_agree_lemmas.specs.PartsNamed.{known-names}
use Rattle.cg_agree_lemmas.specs.ReachWorld.{when-is}
use Rattle.cg_agree_lemmas.specs.StatesSaid.{announcing}
use Rattle.cg_agree.proofs.ToldBeside.{told-fits}
use Rattle.cg_disk_records.specs.Holds.{cut_behind}
use Rattle.cg_queue.specs.NameLaws.{names-count}

-- ---- lists

-- what is no shorter is all
filter-whole : {X : Type 0} (t : X → Bool) (xs : List X) → length (filter t xs) ≡ length xs → filter t xs ≡ xs
filter-whole t [] e = refl
filter-whole t (x ∷ xs) e = at (t x) (length-filter t xs) (λ rest. filter-whole t xs rest) e where
  at : (b : Bool) → length (filter t xs) ≤ length xs → (length (filter t xs) ≡ length xs → filter t xs ≡ xs) → length (cond b (x ∷ filter t xs) (filter t xs)) ≡ suc (length xs) → cond b (x ∷ filter t xs) (filter t xs) ≡ x ∷ xs
  at true le rest e = ap (λ ys. x ∷ ys) (rest (omega (arith, e)))
  at false le rest e = absurd (omega (arith, le, e))

all-names : (ids : List ActionId) → filter (λ id. not (has_name [] id)) ids ≡ ids
all-names [] = refl
all-names (id ∷ ids) = ap (λ xs. id ∷ xs) (all-names ids)

all-reds : (reds : List Action) → reds_but [] reds ≡ reds
all-reds [] = refl
all-reds (a ∷ reds) = ap (λ xs. a ∷ xs) (all-reds reds)

none-named : (xs : List Action) → xs ≡ [] → names_of xs ≡ []
none-named xs e = ap names_of e

abbrev Choice : Bool → State → State → State
Choice b x y = if b then x else y

-- a member in its regular phase that attempts waits for announcements
pub waits-for : (set : List ℕ) (conf : ℕ) (t : Talk) (me : ℕ) → is_attempting (state_in set conf t me) ≡ true → state_in set conf t me ≡ Construct conf t.announced
waits-for set conf t me e = at (is_full set t) (is_through t) (has (gone t.heard) me) (decides t.heard) (is_announced t) e where
  at : (full through left decided told : Bool) →
      is_attempting (Choice (not full) (ExchangeStates conf set t.heard) (Choice (not through) (ExchangeActions conf t.heard t.accepted)
      (Choice left Left (Choice (not decided) (NonPrim true) (Choice told RegPrim (Construct conf t.announced)))))) ≡ true →
      Choice (not full) (ExchangeStates conf set t.heard) (Choice (not through) (ExchangeActions conf t.heard t.accepted)
      (Choice left Left (Choice (not decided) (NonPrim true) (Choice told RegPrim (Construct conf t.announced))))) ≡ Construct conf t.announced
  at false through left decided told e = absurd (let clash : false ≡ true = e in cc)
  at true false left decided told e = absurd (let clash : false ≡ true = e in cc)
  at true true true decided told e = absurd (let clash : false ≡ true = e in cc)
  at true true false false told e = absurd (let clash : false ≡ true = e in cc)
  at true true false true true e = absurd (let clash : false ≡ true = e in cc)
  at true true false true false e = refl

-- ---- a member that installs its attempt

module _ (c : Chronicle) (i : Invariant c) (p : ℕ) (r : Replica) (ins : Installing c p r) (attempting : is_attempting r.state ≡ true) where
  abbrev X : Talk
  X = handed_talk c ins.conf p

  abbrev heard : List Summary
  heard = (whole_talk c ins.conf).heard

  state-is : r.state ≡ state_in (members_in c ins.conf) ins.conf X p
  state-is = subst (λ (x : Phase). IsStateIn c p x r) ins.regular (subst (λ (o : Option Replica). IfSome o (IsStateIn c p (phase_of c.world.group p))) ins.up (i.talk.mode_fits p))

  pub waits-announced : r.state ≡ Construct ins.conf X.announced
  waits-announced = state-is ∙ waits-for (members_in c ins.conf) ins.conf X p (ap is_attempting (sym state-is) ∙ attempting)

  -- no action was handed to it
  pub none-acts : X.acts ≡ []
  none-acts = none-handed c ins.conf p ins.conf X.announced i.talk.talk_legal (sym state-is ∙ waits-announced)

  core : IsCore c r.held (greens_of c p)
  core = subst (λ (o : Option Replica). IfSome o (λ r. IsCore c r.held (greens_of c p))) ins.up (i.replica.cores.memory p)

  pub oneself-before : IsOneself c.start r.held (greens_of c p)
  oneself-before = record { made_of = core.made_of; contiguous = core.contiguous; yellow_closed = core.yellow_closed }

  -- the parts that it holds
  held-parts : HoldsParts r.held (greens_of c p) ins.a
  held-parts =
      let fact = subst (λ (o : Option Replica). IfSome o (λ r. When (is_attempting r.state) (IsSomeWith (attempt_of c (conf_at (phase_of c.world.group p))) (HoldsParts r.held (greens_of c p))))) ins.up (i.attempt.attempt_list p) in
      let parts = when-is (is_attempting r.state) (IsSomeWith (attempt_of c (conf_at (phase_of c.world.group p))) (HoldsParts r.held (greens_of c p))) attempting fact in
      subst (λ (o : Option Attempt). IsSomeWith o (HoldsParts r.held (greens_of c p))) (ap (attempt_of c) (ap conf_at ins.regular) ∙ ins.found) parts

  shape : IsAttempt c ins.conf ins.a
  shape = subst (λ (o : Option Attempt). IfSome o (IsAttempt c ins.conf)) ins.found (i.attempt.attempt_shape ins.conf)

  -- it knows all that some member knew
  pub knows-all : (q : ℕ) → index_in r.held.queue.red_cut q ≡ known_up_to heard q
  knows-all q =
      let handed = subst (λ (x : Phase). AreNumberedAt c p x r) ins.regular (subst (λ (o : Option Replica). IfSome o (AreNumberedAt c p (phase_of c.world.group p))) ins.up (i.talk.acts_numbered.handed p)) in
      let are : (creator : ℕ) → index_in r.held.queue.red_cut creator ≡ count_behind X creator = subst (AreNumbered c ins.conf p r.held) waits-announced handed in
      let ended = (announcing (members_in c ins.conf) ins.conf X p ins.conf X.announced (sym state-is ∙ waits-announced)).ended in
      let same = (whole-through c ins.conf p (delivered_to c.world.group p) i.talk.talk_legal ended).heard in
      let none : length (of_creator q X.acts) ≡ 0 = ap (λ xs. length (of_creator q xs)) none-acts in
      let count = are q in
      let more : count_behind X q ≡ known_up_to X.heard q = omega (arith, none) in
      count ∙ more ∙ ap (λ l. known_up_to l q) (sym same)

  -- the names of all its reds, where the common yellow list is empty
  reds-named : (common_yellow heard).list ≡ [] → red_names heard ≡ names_of r.held.queue.reds
  reds-named none = of_best (most_updated heard) refl (subst (λ k. IsSomeWith (best_told c k heard) (λ best. ins.a.greens ≡ best.greens)) (ins-conf c p r ins) shape.parts.greens) where
    with_told : (b : Summary) → most_updated heard ≡ Some b → (o : Option Told) → told_in c ins.conf b.id ≡ o → IsSomeWith o (λ best. ins.a.greens ≡ best.greens) → red_names heard ≡ names_of r.held.queue.reds
    with_told b most None found is = absurd is
    with_told b most (Some best) found is =
        let one = best-of (IsToldIn c ins.conf) heard b most (each-told c ins.conf heard (i.talk.heard_is_told ins.conf)) in
        let same : best ≡ one.told = ap (λ (o : Option Told). option_map_or (λ x. x) o best) (sym found ∙ one.found) in
        let summary : best.summary ≡ b = ap (λ (t : Told). t.summary) same ∙ one.is in
        let fits = told-fits c i ins.conf b.id best found in
        let cut : r.held.queue.green_cut ≡ b.green_cut =
        core.made_of.green_cut ∙ ap (λ xs. cut_behind [] (names_of xs)) (held-parts.greens ∙ is) ∙ sym fits.green_cut ∙ ap (λ (s : Summary). s.green_cut) summary in
        let all = flat_map (names_between heard b) (creators heard) in
        ap (λ o. option_map_or (λ b. filter (λ id. not (has_name (common_yellow heard).list id)) (flat_map (names_between heard b) (creators heard))) o []) most
        ∙ ap (λ ys. filter (λ id. not (has_name ys id)) all) none ∙ all-names all
        ∙ sym (known-names c.start r.held (greens_of c p) heard b oneself-before cut knows-all)

    of_best : (o : Option Summary) → most_updated heard ≡ o → IsSomeWith (option_and_then (λ s. told_in c ins.conf s.id) o) (λ best. ins.a.greens ≡ best.greens) → red_names heard ≡ names_of r.held.queue.reds
    of_best None most is = absurd is
    of_best (Some b) most is = with_told b most (told_in c ins.conf b.id) refl is

  -- where no yellow list is valid no red is yellow
  reds-plain : r.held.yellow_valid ≡ false → plain_reds r.held.queue ≡ r.held.queue.reds
  reds-plain invalid =
      let yellow : ins.a.yellow ≡ [] = sym held-parts.yellow ∙ none-valid r.held invalid in
      let named = reds-named (sym shape.parts.yellow ∙ none-named ins.a.yellow yellow) in
      filter-whole (λ a. not (has_name r.held.queue.yellow a.id)) r.held.queue.reds
      (sym (names-count (plain_reds r.held.queue)) ∙ ap length (ap names_of held-parts.reds ∙ shape.parts.reds ∙ named) ∙ names-count r.held.queue.reds) where
        none-valid : (h : Held) → h.yellow_valid ≡ false → valid_yellow h ≡ []
        none-valid h invalid = rw invalid refl

  pub installed-parts : installed_by r.held ≡ ins.a.yellow ++ ins.a.reds
  installed-parts = elim (cases_Bool r.held.yellow_valid) [
    | inl valid ↦ ap₂ (λ xs ys. xs ++ ys) held-parts.yellow (ap (λ ids. reds_but ids r.held.queue.reds) (all-valid r.held valid) ∙ held-parts.reds)
    | inr invalid ↦ ap₂ (λ xs ys. xs ++ ys) held-parts.yellow
        (ap (λ ids. reds_but ids r.held.queue.reds) (none-valid r.held invalid) ∙ all-reds r.held.queue.reds ∙ sym (reds-plain invalid) ∙ held-parts.reds)
  ]
    where
      all-valid : (h : Held) → h.yellow_valid ≡ true → valid_names h ≡ h.queue.yellow
      all-valid h valid = rw valid refl

      none-valid : (h : Held) → h.yellow_valid ≡ false → valid_names h ≡ []
      none-valid h invalid = rw invalid refl

  -- behind it all its greens are the installation
  pub installs-all : (new : Replica) → HasInstalledAll r new → greens_of c p ++ newly_green r new ≡ installation ins.a
  installs-all new is =
      ap₂ (λ xs ys. xs ++ ys) held-parts.greens (newly-installed r new is ∙ installed-parts) ∙ sym (append_assoc ins.a.greens ins.a.yellow ins.a.reds)
