-- Who has installed an attempt and is regular in its configuration behind a small step has its installation green, and no more behind it
-- than every member has received.
use Rattle.std.proofs.Common.{◌≡◌, ℕ, ◌+◌, ◌≤◌, true, false, not, ◌++◌, take, length, length-append, is_some, Option, Some, None, IfSome, refl, sym, ap, ◌∙◌, subst, arith, eq-eqb, eqb-true}
use Rattle.std.specs.Prelude.{◌==◌}
use Rattle.std.proofs.lemmas.Bool.{cond-true, ne_eqb}
use Rattle.std.proofs.lemmas.Option.{same_Some}
use Rattle.cg_base.specs.Sets.{has}
use Rattle.cg_base.specs.FindLaws.{found_passes}
use Rattle.cg_group.specs.declared.phase.Phase.{Phase}
use Rattle.cg_group.specs.State.{phase_of, is_regular, regular_in, delivered_to}
use Rattle.cg_client.specs.Replica.{RegPrim, Replica}
use Rattle.cg_model.specs.World.{replica_of}
use Rattle.cg_model.specs.Chronicle.{Attempt, Chronicle}
use Rattle.cg_model.specs.Looks.{greens_of, is_regular_in, is_at, is_in, conf_at, members_in, ordered_in, received_by_all, attempt_of, attempt_at, left_count, installation}
use Rattle.cg_model.specs.Talk.{acts_in, state_in}
use Rattle.cg_model.specs.Levels.{count_in}
use Rattle.cg_model.specs.FactsNet.{IsPhase}
use Rattle.cg_model.specs.FactsTalk.{handed_talk, IsStateIn}
use Rattle.cg_model.specs.FactsReplica.{IsModeData, IsInPrimary, IsCounted, is_primary}
use Rattle.cg_model.specs.Facts.{Invariant}
use Rattle.cg_model.specs.Small.{Small, small_step}
use Rattle.cg_model.specs.Smalls.{may_make}
use Rattle.cg_agree.proofs.GreenLine.{HasGreenLine, primary-regular}
use Rattle.cg_agree.proofs.ModeKept.{mode_data-kept}
use Rattle.cg_agree.proofs.NetFactsKept.{net-kept}
use Rattle.cg_agree.proofs.PrimaryKept.{line-behind}
use Rattle.cg_agree_lemmas.specs.Reach.{acts-more}
use Rattle.cg_agree_lemmas.specs.SmallTalk.{conf-there}
use Rattle.cg_agree.proofs.TalkFactsKept.{mode_fits-kept}
use Rattle.cg_agree.proofs.RegularEnds.{regular-phase_is}
use Rattle.cg_agree.proofs.ModeStates.{from-primary}
use Rattle.cg_group.specs.RefusalLaws.{regular-up}

there : (o : Option Replica) → is_some o ≡ true → (r : Replica) × (o ≡ Some r)
there None e = absurd (let clash : false ≡ true = e in cc)
there (Some r) e = (r, refl)

pub regular-counted : (c : Chronicle) (s : Small) → Invariant c → may_make c s ≡ true → (conf p : ℕ) (b : Attempt) → attempt_of (small_step c s) conf ≡ Some b → has b.installed p ≡ true → is_regular_in (small_step c s) conf p ≡ true →
    (length (installation b) ≤ count_in (small_step c s) b p)
    × (count_in (small_step c s) b p ≤ length (installation b) + length (acts_in (take (received_by_all (small_step c s) conf) (ordered_in (small_step c s) conf))))
regular-counted c s i may conf p b found installed regular =
    let d = small_step c s in
    let net = net-kept c s i may in
    let phase = regular-phase_is conf (phase_of d.world.group p) regular in
    let member = (subst (IsPhase d p (delivered_to d.world.group p)) phase (net.phase_sound.phase p)).0 in
    let number = (conf-there d.world.group conf p member).0 in
    let in_phase : is_regular d.world.group p ≡ true = ap (λ x. not (regular_in x == 0)) phase ∙ ap not (ne_eqb conf 0 (λ e. absurd (omega (arith, e, number)))) in
    let one = there (replica_of d.world p) (net.phase_sound.up p ∙ regular-up d.world.group p in_phase) in
    let r = one.0 in
    let mode : IsModeData d p r = subst (λ (o : Option Replica). IfSome o (IsModeData d p)) one.1 (mode_data-kept c s i may p) in
    let counted : IsCounted b r = subst (λ (o : Option Attempt). IfSome o (λ a. IsCounted a r)) (ap (λ x. attempt_of d (conf_at x)) phase ∙ found) mode.counted in
    let primary : is_primary r.state ≡ true = sym counted.installed ∙ ap (has b.installed) mode.id ∙ installed in
    let state : r.state ≡ state_in (members_in d conf) conf (handed_talk d conf p) p =
    subst (λ (x : Phase). IsStateIn d p x r) phase (subst (λ (o : Option Replica). IfSome o (IsStateIn d p (phase_of d.world.group p))) one.1 (mode_fits-kept c s i may p)) in
    let is : r.state ≡ RegPrim = state ∙ primary-regular (members_in d conf) conf (handed_talk d conf p) p (ap is_primary (sym state) ∙ primary) in
    let in_it : IsInPrimary d r.held conf = subst (λ (x : Phase). IsInPrimary d r.held (conf_at x)) phase (from-primary d r.held (phase_of d.world.group p) r.state primary mode.data_of) in
    let same : attempt_at d r.held.prim.index ≡ b = same_Some (attempt_at d r.held.prim.index) b (sym in_it.opened ∙ found) in
    let line : HasGreenLine d p b = subst (HasGreenLine d p) same (line-behind c s i may p r one.1 is) in
    let conf_is : b.conf ≡ conf = eqb-true b.conf conf (found_passes (λ (a : Attempt). a.conf == conf) d.attempts b found) in
    let n = delivered_to d.world.group p in
    let inside : is_in d b.conf p ≡ true = ap (λ k. is_in d k p) conf_is ∙ ap (is_at conf) phase ∙ eq-eqb conf conf refl in
    let count : count_in d b p ≡ length (greens_of d p) = cond-true (is_in d b.conf p) (length (greens_of d p)) (left_count b p) inside in
    let long : length (greens_of d p) ≡ length (installation b) + length (acts_in (take n (ordered_in d conf))) =
    ap length (line ∙ ap (λ k. installation b ++ acts_in (take n (ordered_in d k))) conf_is) ∙ length-append (installation b) (acts_in (take n (ordered_in d conf))) in
    let more = acts-more n (received_by_all d conf) (ordered_in d conf) (net.handed_received conf p regular) in
    ((omega (arith, count, long)), (omega (arith, count, long, more)))
