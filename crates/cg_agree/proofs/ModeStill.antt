-- What a state says of what is held stays so through a small step, where neither changes: attempts and levels only grow.
use Rattle.std.proofs.Common.{◌≡◌, ℕ, suc, ◌≤◌, [], ◌∷◌, Option, Some, None, refl, sym, ap, ◌∙◌, subst, arith, eqb-true}
use Rattle.std.specs.Prelude.{◌==◌}
use Rattle.cg_base.specs.Lists.{at_place}
use Rattle.cg_base.specs.FindLaws.{found_passes}
use Rattle.cg_group.specs.declared.phase.Phase.{Phase}
use Rattle.cg_client.specs.Replica.{Held, State, RegPrim, TransPrim, ExchangeStates, ExchangeActions, Construct, No, Un, NonPrim, Left}
use Rattle.cg_model.specs.Chronicle.{Attempt, Chronicle}
use Rattle.cg_model.specs.Looks.{conf_at, attempt_of, attempt_at, top_of}
use Rattle.cg_model.specs.FactsReplica.{own_record, IsInPrimary, IsInAttempt, HasModeData}
use Rattle.cg_model.specs.FactsAttempts.{LevelsStand}
use Rattle.cg_model.specs.Small.{Small, small_step}
use Rattle.cg_agree_lemmas.specs.SameAttempt.{SameAttempt}
use Rattle.cg_agree_lemmas.specs.ReachWorld.{Opened, opened-at, opened-attempt, levels-kept}
use Rattle.cg_agree_lemmas.specs.AttemptsGrow.{attempts-grow}
use Rattle.cg_agree.proofs.LevelsOpen.{place-there, installed-grows}

-- a member's own record is of what stays of an attempt
pub record-same : (a b : Attempt) (p : ℕ) → SameAttempt a b → own_record b p ≡ own_record a p
record-same a b p same i = record { attempt = same.conf i; from = same.from i; set = same.set i; bits = p ∷ [] }

-- a member of a primary component whose index is that of a level that stands
pub in-primary-still : (c : Chronicle) (s : Small) (h : Held) (conf : ℕ) → LevelsStand c → h.prim.index ≤ top_of c → IsInPrimary c h conf → IsInPrimary (small_step c s) h conf
in-primary-still c s h conf stands low is =
    let d = small_step c s in
    let level = h.prim.index in
    let from = is.index in
    let o = opened-at c level stands (omega (arith, from)) low in
    let grown = (attempts-grow c s).still o.conf o.attempt o.found in
    let more = levels-kept c s in
    let opened : Opened d level = record {
      conf = o.conf;
      attempt = grown.now;
      place = ap (λ xs. at_place xs level) more.all ∙ place-there c.levels more.more level o.conf o.place;
      found = grown.found;
      installed = installed-grows o.attempt grown.now grown.grown o.installed;
    } in
    let was : attempt_at c level ≡ o.attempt = opened-attempt c level o in
    let now : attempt_at d level ≡ grown.now = opened-attempt d level opened in
    let here : o.conf ≡ conf =
    sym (eqb-true o.attempt.conf o.conf (found_passes (λ (a : Attempt). a.conf == o.conf) c.attempts o.attempt o.found))
    ∙ ap (λ (a : Attempt). a.conf) (sym was)
    ∙ eqb-true (attempt_at c level).conf conf (found_passes (λ (a : Attempt). a.conf == conf) c.attempts (attempt_at c level) is.opened) in
    record {
      opened = ap (attempt_of d) (sym here) ∙ grown.found ∙ ap (λ a. Some a) (sym now);
      prim_conf = is.prim_conf;
      mine = is.mine ∙ ap (λ v. Some v) (ap (λ a. own_record a h.id) was ∙ sym (record-same o.attempt grown.now h.id grown.grown.same) ∙ ap (λ a. own_record a h.id) (sym now));
      index = is.index ∙ ap suc (ap (λ (a : Attempt). a.from) was ∙ sym grown.grown.same.from ∙ ap (λ (a : Attempt). a.from) (sym now));
      yellow_valid = is.yellow_valid;
    }

-- a member of an attempt
pub in-attempt-still : (c : Chronicle) (s : Small) (h : Held) (conf : ℕ) → IsInAttempt h (attempt_of c conf) → IsInAttempt h (attempt_of (small_step c s) conf)
in-attempt-still c s h conf is = at (attempt_of c conf) refl is where
  at : (o : Option Attempt) → attempt_of c conf ≡ o → IsInAttempt h o → IsInAttempt h (attempt_of (small_step c s) conf)
  at None e is = absurd is
  at (Some a) e is =
      let grown = (attempts-grow c s).still conf a e in
      subst (IsInAttempt h) (sym grown.found) (is.0 ∙ ap (λ v. Some v) (sym (record-same a grown.now h.id grown.grown.same)), is.1 ∙ sym grown.grown.same.from, is.2)

-- Whatever the state.
pub mode-still : (c : Chronicle) (s : Small) (h : Held) (phase : Phase) (state : State) → LevelsStand c → h.prim.index ≤ top_of c → HasModeData c h phase state → HasModeData (small_step c s) h phase state
mode-still c s h phase RegPrim stands low is = (in-primary-still c s h (conf_at phase) stands low is.0, is.1, is.2)
mode-still c s h phase TransPrim stands low is = (in-primary-still c s h (conf_at phase) stands low is.0, is.1)
mode-still c s h phase (Construct conf heard) stands low is = in-attempt-still c s h (conf_at phase) is
mode-still c s h phase (No conf heard) stands low is = in-attempt-still c s h (conf_at phase) is
mode-still c s h phase Un stands low is = in-attempt-still c s h (conf_at phase) is
mode-still c s h phase (ExchangeStates conf set heard) stands low is = is
mode-still c s h phase (ExchangeActions conf heard accepted) stands low is = is
mode-still c s h phase (NonPrim regular) stands low is = tt
mode-still c s h phase Left stands low is = tt
